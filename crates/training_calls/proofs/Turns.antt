-- ONE FRAME OF THE RUN: from the state of a run to the state of the run with one frame more, and its call in the next row.
use mathlib.Core.Path.{◌≡◌, refl, sym, ap, ap₂, ◌∙◌, subst}
use mathlib.Core.Bool.{Bool, true, false, cond}
use mathlib.Core.List.{List, [], ◌∷◌, ◌++◌}
use mathlib.Core.Option as math
use Prim.{tt}
use Prim.Native.Nat.{ℕ, zero, suc, ◌+◌, ◌<◌, ◌≤◌}
use native.Mathlib.Omega.{arith}
use lib.ListN.{length, drop}
use lib.Seq.{drop-drop}
use borrow.Author.Tests.{eq-eqb, ne_eqb}
use Rattle.std.specs.Prelude.{Option, None}
use Rattle.protocol.specs.Folds.{update}
use Rattle.protocol.specs.Floor.{Product, Floor, limits, limits_of}
use Rattle.protocol.specs.Events.{Event}
use Rattle.protocol.specs.Step.{step}
use Rattle.protocol.specs.Frames.{Reading, end, refused_frame, taken, frame_of, read_at}
use Rattle.protocol.specs.PlainLists.{PlainCall, call_of}
use Rattle.protocol.proofs.Tests.{by_eq}
use Rattle.view.specs.View.{Lent}
use Rattle.event_answers.specs.Met.{Ready}
use Rattle.frame_run.specs.declared.Progress.{Progress}
use Rattle.frame_run.specs.declared.Stop.TheVariants.{Full, Waits, Ended}
use Rattle.frame_run.specs.Stops.{stop_number}
use Rattle.frame_run.specs.Piece.{Ran, run_from}
use Rattle.frame_run.specs.Went.{NoneWhole, EndsRun}
use Rattle.frame_run.proofs.Pieces.{more, one_more}
use Rattle.training_rows.specs.declared.Call.{Call}
use Rattle.training_rows.specs.Calls.{calls_in, made_in, made_by, TextIn, TextsIn}
use Rattle.training_rows.proofs.RowLaws.{one_more_made}
use Rattle.training_calls.specs.declared.CallMade.{CallMade}
use Rattle.training_calls.specs.Calls.{calls_from}
use Rattle.training_calls.specs.Gone.{InCalls, Made, Turned}

-- THE CALL OF THE FRAME BEHIND THOSE THAT WERE RUN
abbrev pub call_there : Product → Floor → Reading → List (math.Option PlainCall)
call_there P F end = []
call_there P F (refused_frame r) = math.none ∷ []
call_there P F (taken e size) = call_of (limits_of P) F e ∷ []

cons_cond : (x : math.Option PlainCall) (b : Bool) (u w : List (math.Option PlainCall)) → x ∷ cond b u w ≡ cond b (x ∷ u) (x ∷ w)
cons_cond x true u w = refl
cons_cond x false u w = refl

pub one_more_call : (P : Product) (n : ℕ) (F : Floor) (first : ℕ) (l : List ℕ)
    → calls_from P (suc n) F l ≡ cond (run_from P n F first l).ended (calls_from P n F l) (calls_from P n F l ++ call_there P (run_from P n F first l).floor (read_at limits l (run_from P n F first l).octets))
unfolding run_from calls_from read_at
one_more_call P zero F first l = by (frame_of limits l) refl
  where
    by : (r : Reading) → frame_of limits l ≡ r → calls_from P 1 F l ≡ call_there P F (frame_of limits l)
    by end q = rw (q, calls_from) refl
    by (refused_frame r) q = rw (q, calls_from) refl
    by (taken e size) q = rw (q, calls_from) refl
one_more_call P (suc n) F first l = by (frame_of limits l) refl (λ e size. one_more_call P n (step (limits_of P) F e) (suc first) (drop size l))
  where
    by : (r : Reading) → frame_of limits l ≡ r
        → ((e : Event) (size : ℕ) → calls_from P (suc n) (step (limits_of P) F e) (drop size l)
        ≡ cond (run_from P n (step (limits_of P) F e) (suc first) (drop size l)).ended (calls_from P n (step (limits_of P) F e) (drop size l))
        (calls_from P n (step (limits_of P) F e) (drop size l) ++ call_there P (run_from P n (step (limits_of P) F e) (suc first) (drop size l)).floor
        (read_at limits (drop size l) (run_from P n (step (limits_of P) F e) (suc first) (drop size l)).octets)))
        → calls_from P (suc (suc n)) F l
        ≡ cond (run_from P (suc n) F first l).ended (calls_from P (suc n) F l) (calls_from P (suc n) F l ++ call_there P (run_from P (suc n) F first l).floor (read_at limits l (run_from P (suc n) F first l).octets))
    by end q h = rw (q, run_from, calls_from) (sym (ap (λ (r : Reading). call_there P F r) q))
    by (refused_frame r) q h = rw (q, run_from, calls_from) refl
    by (taken e size) q h =
        let F' = step (limits_of P) F e in
        let l' = drop size l in
        let R = run_from P n F' (suc first) l' in
        let x = call_of (limits_of P) F e in
        rw (q, run_from, calls_from)
        (ap (λ (k : List (math.Option PlainCall)). x ∷ k) (h e size)
        ∙ cons_cond x R.ended (calls_from P n F' l') (calls_from P n F' l' ++ call_there P R.floor (read_at limits l' R.octets))
        ∙ ap (λ (m : List ℕ). cond R.ended (x ∷ calls_from P n F' l') (x ∷ (calls_from P n F' l' ++ call_there P R.floor (frame_of limits m)))) (drop-drop R.octets size l))

-- the run and the calls with one frame more
module _ (P : Product) (input : List ℕ) (F : Floor) (first : ℕ) (L : Lent) (calls : List ℕ) (p : Progress) (going : stop_number p.state ≡ 0)
    (h : InCalls input (run_from P p.frames F first input) (calls_from P p.frames F input) L calls p) where
  abbrev R : Ran
  R = run_from P p.frames F first input

  goes : R.ended ≡ false
  goes = h.ended ∙ ne_eqb (stop_number p.state) 2 (λ z. omega arith)

  pub next_run : (k : ℕ) (reading : Reading) → k ≡ p.frames + 1 → read_at limits input p.read ≡ reading → run_from P k F first input ≡ more P R (first + p.frames) reading
  next_run k reading e q =
      let one : k ≡ suc p.frames = omega arith in
      ap (λ (n : ℕ). run_from P n F first input) one ∙ one_more P p.frames F first input
      ∙ ap (λ (b : Bool). cond b R (more P R (first + p.frames) (read_at limits input R.octets))) goes
      ∙ ap (λ (n : ℕ). more P R (first + p.frames) (read_at limits input n)) (sym h.read)
      ∙ ap (λ (x : Reading). more P R (first + p.frames) x) q

  pub next_call : (k : ℕ) (reading : Reading) → k ≡ p.frames + 1 → read_at limits input p.read ≡ reading
      → calls_from P k F input ≡ calls_from P p.frames F input ++ call_there P R.floor reading
  next_call k reading e q =
      let one : k ≡ suc p.frames = omega arith in
      let X = calls_from P p.frames F input in
      ap (λ (n : ℕ). calls_from P n F input) one ∙ one_more_call P p.frames F first input
      ∙ ap (λ (b : Bool). cond b X (X ++ call_there P R.floor (read_at limits input R.octets))) goes
      ∙ ap (λ (n : ℕ). X ++ call_there P R.floor (read_at limits input n)) (sym h.read)
      ∙ ap (λ (x : Reading). X ++ call_there P R.floor x) q

  -- the rows with one more
  pub next_row : (calls' : List ℕ) (call : Option Call) (x : math.Option PlainCall) (k : ℕ) → k ≡ p.frames + 1 → calls_in calls' ≡ update (calls_in calls) p.frames call → made_in input call ≡ x
      → made_by input (calls_in calls') k ≡ calls_from P p.frames F input ++ (x ∷ [])
  next_row calls' call x k e put is =
      let one : k ≡ suc p.frames = omega arith in
      ap₂ (λ (C : ℕ → Option Call) (n : ℕ). made_by input C n) put one
      ∙ one_more_made input (calls_in calls) p.frames call
      ∙ ap₂ (λ (a : List (math.Option PlainCall)) (b : math.Option PlainCall). a ++ (b ∷ [])) h.rows is

-- the texts with one more
more_texts : (input calls calls' : List ℕ) (call : Option Call) (n k : ℕ) → k ≡ n + 1 → calls_in calls' ≡ update (calls_in calls) n call → TextIn (length input) call
    → TextsIn input calls n → TextsIn input calls' k
more_texts input calls calls' call n k e put there before j l =
    subst (λ (C : ℕ → Option Call). TextIn (length input) (C j)) (sym put)
    (by_eq j n
    (λ q. let same : update (calls_in calls) n call j ≡ call = rw (eq-eqb j n q) refl in subst (TextIn (length input)) (sym same) there)
    (λ q. let same : update (calls_in calls) n call j ≡ calls_in calls j = rw (ne_eqb j n q) refl in subst (TextIn (length input)) (sym same) (before j (omega arith))))

-- THE THREE WAYS of a frame
module _ (input : List ℕ) (last : Bool) (L : Lent) (calls : List ℕ) (p : Progress) (ready : Ready L) (going : stop_number p.state ≡ 0) (inside : p.read ≤ length input) (few : p.frames < 1024) where
  -- none is whole
  pub turned_waits : (r : Progress) → r ≡ record { read = p.read; written = p.written; frames = p.frames; state = Waits } → NoneWhole last (read_at limits input p.read)
      → Turned input last L L calls calls p r
  turned_waits r e none_there = subst (λ (x : Progress). Turned input last L L calls calls p x) (sym e) stands
    where
      stands : Turned input last L L calls calls p (record { read = p.read; written = p.written; frames = p.frames; state = Waits })
      stands =
          record {
            product = refl;
            ready = ready;
            runs = λ F first h. record { floor = h.floor; counted = h.counted; read = h.read; ended = h.ended ∙ ne_eqb (stop_number p.state) 2 (λ z. omega arith); rows = h.rows };
            texts = λ t. t;
            kept = refl;
            inside = inside;
            few = omega arith;
            onward = λ z. absurd (omega arith);
            stays = omega arith;
            why = omega arith;
            waits = λ z. none_there;
            ends = λ z. absurd (omega arith);
          }

  -- one is refused, ends the run, and makes no call
  pub turned_refused : (calls' : List ℕ) (r : Progress) (number : ℕ) → read_at limits input p.read ≡ refused_frame number
      → calls_in calls' ≡ update (calls_in calls) p.frames None → length calls' ≡ length calls
      → (r.read ≡ p.read) × (r.frames ≡ p.frames + 1) × (r.state ≡ Ended) → (number ≡ 1 → last ≡ true) → Turned input last L L calls calls' p r
  turned_refused calls' r number q put kept is cut_last =
      let over : stop_number r.state ≡ 2 = ap stop_number is.2 in
      record {
        product = refl;
        ready = ready;
        runs = λ F first h.
            let R = run_from L.product p.frames F first input in
            let made = calls_from L.product p.frames F input in
            subst (λ (X : Ran). InCalls input X (calls_from L.product r.frames F input) L calls' r) (sym (next_run L.product input F first L calls p going h r.frames (refused_frame number) is.1 q))
            (subst (λ (m : List (math.Option PlainCall)). InCalls input (more L.product R (first + p.frames) (refused_frame number)) m L calls' r) (sym (next_call L.product input F first L calls p going h r.frames (refused_frame number) is.1 q))
            (record {
              floor = h.floor;
              counted = let a = h.counted in let b = is.1 in omega arith;
              read = is.0 ∙ h.read;
              ended = sym (eq-eqb (stop_number r.state) 2 over);
              rows = next_row L.product input F first L calls p going h calls' None math.none r.frames is.1 put refl;
            }));
        texts = λ t. more_texts input calls calls' None p.frames r.frames is.1 put tt t;
        kept = kept;
        inside = let a = is.0 in omega arith;
        few = let a = is.1 in omega arith;
        onward = λ z. absurd (let a = over in omega arith);
        stays = let a = is.0 in omega arith;
        why = let a = over in omega arith;
        waits = λ z. absurd (let a = over in omega arith);
        ends = λ z. subst (λ (x : Reading). EndsRun last x) (sym (ap (read_at limits input) is.0 ∙ q)) cut_last;
      }

  -- one is an event
  pub turned_taken : (L' : Lent) (calls' : List ℕ) (r : Progress) (e : Event) (size : ℕ) (call : Option Call) → read_at limits input p.read ≡ taken e size → 16 ≤ size
      → p.read + size ≤ length input → Made input L L' e call → TextIn (length input) call → calls_in calls' ≡ update (calls_in calls) p.frames call → length calls' ≡ length calls
      → (r.read ≡ p.read + size) × (r.frames ≡ p.frames + 1) × (r.state ≡ Full) → Turned input last L L' calls calls' p r
  turned_taken L' calls' r e size call q least there made text put kept is =
      let on : stop_number r.state ≡ 0 = ap stop_number is.2 in
      record {
        product = made.product;
        ready = made.ready;
        runs = λ F first h.
            let P = L.product in
            let R = run_from P p.frames F first input in
            subst (λ (X : Ran). InCalls input X (calls_from P r.frames F input) L' calls' r) (sym (next_run P input F first L calls p going h r.frames (taken e size) is.1 q))
            (subst (λ (m : List (math.Option PlainCall)). InCalls input (more P R (first + p.frames) (taken e size)) m L' calls' r) (sym (next_call P input F first L calls p going h r.frames (taken e size) is.1 q))
            (record {
              floor = made.floor ∙ ap (λ (G : Floor). step (limits_of P) G e) h.floor;
              counted = let a = h.counted in let b = is.1 in omega arith;
              read = let a = h.read in let b = is.0 in omega arith;
              ended = sym (ne_eqb (stop_number r.state) 2 (λ z. let a = on in omega arith));
              rows = next_row P input F first L calls p going h calls' call (call_of (limits_of P) R.floor e) r.frames is.1 put (made.makes ∙ ap (λ (G : Floor). call_of (limits_of P) G e) h.floor);
            }));
        texts = λ t. more_texts input calls calls' call p.frames r.frames is.1 put text t;
        kept = kept;
        inside = let a = is.0 in omega arith;
        few = let a = is.1 in omega arith;
        onward = λ z. let a = is.0 in omega arith;
        stays = let a = is.0 in omega arith;
        why = let a = on in omega arith;
        waits = λ z. absurd (let a = on in omega arith);
        ends = λ z. absurd (let a = on in omega arith);
      }

  -- AS THE CODE WRITES THE ROW
  pub refused_row : (calls' : List ℕ) (r : Progress) (made : CallMade) (number : ℕ) → read_at limits input p.read ≡ refused_frame number → (number ≡ 1 → last ≡ true)
      → made ≡ record { call = None; taken = 0 } → calls_in calls' ≡ update (calls_in calls) p.frames made.call → length calls' ≡ length calls
      → r ≡ record { read = p.read + made.taken; written = 0; frames = p.frames + 1; state = Ended } → Turned input last L L calls calls' p r
  refused_row calls' r made number q cut_last none_made put kept is =
      let size = ap (λ (m : CallMade). m.taken) none_made in
      let read = ap (λ (x : Progress). x.read) is in
      turned_refused calls' r number q (put ∙ ap (λ (m : CallMade). update (calls_in calls) p.frames m.call) none_made) kept
      (omega arith, ap (λ (x : Progress). x.frames) is, ap (λ (x : Progress). x.state) is) cut_last

  pub taken_row : (L' : Lent) (calls' : List ℕ) (r : Progress) (made : CallMade) (e : Event) (size : ℕ) → read_at limits input p.read ≡ taken e size → 16 ≤ size
      → p.read + size ≤ length input → Made input L L' e made.call → TextIn (length input) made.call × (made.taken ≡ size)
      → calls_in calls' ≡ update (calls_in calls) p.frames made.call → length calls' ≡ length calls
      → r ≡ record { read = p.read + made.taken; written = 0; frames = p.frames + 1; state = Full } → Turned input last L L' calls calls' p r
  taken_row L' calls' r made e size q least there so text put kept is =
      let octets = text.1 in
      let read = ap (λ (x : Progress). x.read) is in
      turned_taken L' calls' r e size made.call q least there so text.0 put kept (omega arith, ap (λ (x : Progress). x.frames) is, ap (λ (x : Progress). x.state) is)
