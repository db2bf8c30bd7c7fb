-- THE CALLS OF MANY FRAMES: a piece boundary is nothing, and the rest follows from there; as for the run itself.
use mathlib.Core.Path.{◌≡◌, refl, sym, ap, ap₂, ◌∙◌}
use mathlib.Core.Bool.{Bool, true, false, not, cond}
use mathlib.Core.List.{List, [], ◌∷◌, ◌++◌, append_assoc}
use mathlib.Core.Option.{Option}
use mathlib.Core.Logic.{⊎_elim}
use Prim.Native.Nat.{ℕ, zero, suc, ◌+◌, ◌<◌}
use native.Mathlib.Omega.{arith}
use lib.Dec.{eqb, ltb}
use lib.ListN.{length, drop, length-drop}
use lib.Seq.{drop-append-le, drop-drop}
use borrow.Author.Tests.{ne_eqb}
use Rattle.protocol.specs.Floor.{Limits, Product, Floor, whole_floor, limits, limits_of}
use Rattle.protocol.specs.Events.{Event, start, enter, send, wire, radio, move, flag, group, send_group, send_long, retire, Answer, refused, accepted}
use Rattle.protocol.specs.Groups.{as_sent}
use Rattle.protocol.specs.Form.{passes_form}
use Rattle.protocol.specs.Refusals.{check, refusal, refusal_if}
use Rattle.protocol.specs.Step.{accept, step, answer}
use Rattle.protocol.specs.Frames.{Reading, end, refused_frame, taken, frame_of, read_at}
use Rattle.protocol.specs.PlainLists.{Plain, PlainCall, Exchange, exchanged, fed, fed_by, call_of, exchanges_from}
use Rattle.protocol.proofs.Tests.{clash}
use Rattle.protocol.proofs.Theorems.{form_unstarted}
use Rattle.frames.proofs.Stands.{frame_stands}
use Rattle.frames.proofs.Values.{taken_inside}
use Rattle.frame_run.specs.Piece.{run_from}
use Rattle.frame_run.specs.CanRun.{Unstarted}
use Rattle.frame_run.proofs.Whole.{taken_front}
use Rattle.frame_run.proofs.Printed.{answers_alike, steps_alike}
use Rattle.training_calls.specs.Calls.{calls_from}
use Rattle.training_lists.specs.Lines.{plain_fed, exchanges_of}

-- THE EXCHANGES of a run are those of its calls
pub exchanges_so : (n : ℕ) (F : Floor) (Q : Plain) (index : ℕ) (l : List ℕ) → exchanges_from limits n F Q index l ≡ exchanges_of limits Q index (calls_from whole_floor n F l)
unfolding exchanges_from exchanges_of calls_from
exchanges_so zero F Q index l = refl
exchanges_so (suc n) F Q index l = by (frame_of limits l) refl (λ e size. exchanges_so n (step limits F e) (fed limits Q (call_of limits F e)) (suc index) (drop size l))
  where
    by : (r : Reading) → frame_of limits l ≡ r
        → ((e : Event) (size : ℕ) → exchanges_from limits n (step limits F e) (fed limits Q (call_of limits F e)) (suc index) (drop size l)
        ≡ exchanges_of limits (fed limits Q (call_of limits F e)) (suc index) (calls_from whole_floor n (step limits F e) (drop size l)))
        → exchanges_from limits (suc n) F Q index l ≡ exchanges_of limits Q index (calls_from whole_floor (suc n) F l)
    by end q h = rw (q, exchanges_from, calls_from) refl
    by (refused_frame r) q h = rw (q, exchanges_from, calls_from) refl
    by (taken e size) q h = rw (q, exchanges_from, calls_from) (ap (λ (x : List Exchange). exchanged limits Q index (call_of limits F e) ++ x) (h e size))

-- of some calls, and then others
pub fed_both : (M : Limits) (Q : Plain) (a b : List (Option PlainCall)) → plain_fed M Q (a ++ b) ≡ plain_fed M (plain_fed M Q a) b
unfolding plain_fed
fed_both M Q [] b = refl
fed_both M Q (x ∷ a) b = fed_both M (fed M Q x) a b

pub exchanges_both : (M : Limits) (Q : Plain) (index : ℕ) (a b : List (Option PlainCall))
    → exchanges_of M Q index (a ++ b) ≡ exchanges_of M Q index a ++ exchanges_of M (plain_fed M Q a) (index + length a) b
unfolding plain_fed exchanges_of
exchanges_both M Q index [] b = let None-more : index ≡ index + 0 = omega arith in ap (λ (i : ℕ). exchanges_of M Q i b) None-more
exchanges_both M Q index (x ∷ a) b =
    let one_more : suc index + length a ≡ index + suc (length a) = omega arith in
    ap (λ (y : List Exchange). exchanged M Q index x ++ y) (exchanges_both M (fed M Q x) (suc index) a b)
    ∙ sym (append_assoc (exchanged M Q index x) (exchanges_of M (fed M Q x) (suc index) a) (exchanges_of M (plain_fed M (fed M Q x) a) (suc index + length a) b))
    ∙ ap (λ (i : ℕ). (exchanged M Q index x ++ exchanges_of M (fed M Q x) (suc index) a) ++ exchanges_of M (plain_fed M (fed M Q x) a) i b) one_more

module _ (P : Product) where
  abbrev on : Floor → Event → Floor
  on F e = step (limits_of P) F e

  -- there is one for each frame that was run
  pub calls_count : (n : ℕ) (F : Floor) (first : ℕ) (l : List ℕ) → length (calls_from P n F l) ≡ (run_from P n F first l).count
  unfolding run_from calls_from
  calls_count zero F first l = refl
  calls_count (suc n) F first l = by (frame_of limits l) refl (λ e size. calls_count n (on F e) (suc first) (drop size l))
    where
      by : (r : Reading) → frame_of limits l ≡ r → ((e : Event) (size : ℕ) → length (calls_from P n (on F e) (drop size l)) ≡ (run_from P n (on F e) (suc first) (drop size l)).count)
          → length (calls_from P (suc n) F l) ≡ (run_from P (suc n) F first l).count
      by end q h = rw (q, run_from, calls_from) refl
      by (refused_frame r) q h = rw (q, run_from, calls_from) refl
      by (taken e size) q h = rw (q, run_from, calls_from) (ap suc (h e size))

  -- THE REST FOLLOWS: the calls of n + k frames are those of n, and then those of k over the octets behind them
  pub calls_go_on : (n k : ℕ) (F : Floor) (first : ℕ) (l : List ℕ) → (run_from P n F first l).count ≡ n → (run_from P n F first l).ended ≡ false
      → calls_from P (n + k) F l ≡ calls_from P n F l ++ calls_from P k (run_from P n F first l).floor (drop (run_from P n F first l).octets l)
  unfolding run_from calls_from
  calls_go_on zero k F first l all goes = let None-more : 0 + k ≡ k = omega arith in ap (λ (m : ℕ). calls_from P m F l) None-more
  calls_go_on (suc n) k F first l all goes = by (frame_of limits l) refl (λ e size. calls_go_on n k (on F e) (suc first) (drop size l)) all goes
    where
      by : (r : Reading) → frame_of limits l ≡ r
          → ((e : Event) (size : ℕ) → (run_from P n (on F e) (suc first) (drop size l)).count ≡ n → (run_from P n (on F e) (suc first) (drop size l)).ended ≡ false
          → calls_from P (n + k) (on F e) (drop size l)
          ≡ calls_from P n (on F e) (drop size l) ++ calls_from P k (run_from P n (on F e) (suc first) (drop size l)).floor (drop (run_from P n (on F e) (suc first) (drop size l)).octets (drop size l)))
          → (run_from P (suc n) F first l).count ≡ suc n → (run_from P (suc n) F first l).ended ≡ false
          → calls_from P (suc n + k) F l ≡ calls_from P (suc n) F l ++ calls_from P k (run_from P (suc n) F first l).floor (drop (run_from P (suc n) F first l).octets l)
      by end q h all goes = absurd (let z : 0 ≡ suc n = rw (q, run_from) at all in omega arith)
      by (refused_frame r) q h all goes = absurd (let z : ◌≡◌ {A = Bool} true false = rw (q, run_from) at goes in clash true refl z)
      by (taken e size) q h all goes =
          let R = run_from P n (on F e) (suc first) (drop size l) in
          let count : suc R.count ≡ suc n = rw (q, run_from) at all in
          let goes_on : R.ended ≡ false = rw (q, run_from) at goes in
          let x = call_of (limits_of P) F e in
          let one_more : suc n + k ≡ suc (n + k) = omega arith in
          ap (λ (m : ℕ). calls_from P m F l) one_more
          ∙ rw (q, run_from, calls_from)
          (ap (λ (y : List (Option PlainCall)). x ∷ y) (h e size (omega arith) goes_on)
          ∙ ap (λ (m : List ℕ). x ∷ (calls_from P n (on F e) (drop size l) ++ calls_from P k R.floor m)) (drop-drop R.octets size l))

  -- behind a frame that ended the run there is none
  pub calls_end : (n k : ℕ) (F : Floor) (first : ℕ) (l : List ℕ) → (run_from P n F first l).ended ≡ true → calls_from P (n + k) F l ≡ calls_from P n F l
  unfolding run_from calls_from
  calls_end zero k F first l over = clash false over refl
  calls_end (suc n) k F first l over = by (frame_of limits l) refl (λ e size. calls_end n k (on F e) (suc first) (drop size l)) over
    where
      one_more : suc n + k ≡ suc (n + k)
      one_more = omega arith

      by : (r : Reading) → frame_of limits l ≡ r
          → ((e : Event) (size : ℕ) → (run_from P n (on F e) (suc first) (drop size l)).ended ≡ true → calls_from P (n + k) (on F e) (drop size l) ≡ calls_from P n (on F e) (drop size l))
          → (run_from P (suc n) F first l).ended ≡ true → calls_from P (suc n + k) F l ≡ calls_from P (suc n) F l
      by end q h over = let z : ◌≡◌ {A = Bool} false true = rw (q, run_from) at over in clash false z refl
      by (refused_frame r) q h over = ap (λ (m : ℕ). calls_from P m F l) one_more ∙ rw (q, calls_from) refl
      by (taken e size) q h over =
          let ended : (run_from P n (on F e) (suc first) (drop size l)).ended ≡ true = rw (q, run_from) at over in
          ap (λ (m : ℕ). calls_from P m F l) one_more ∙ rw (q, calls_from) (ap (λ (y : List (Option PlainCall)). call_of (limits_of P) F e ∷ y) (h e size ended))

  -- at the end of the octets there is none
  pub no_calls : (n : ℕ) (F : Floor) (l : List ℕ) → frame_of limits l ≡ end → calls_from P n F l ≡ []
  unfolding calls_from
  no_calls zero F l q = refl
  no_calls (suc n) F l q = rw (q, calls_from) refl

  -- THE FRAMES of a piece, all of them there and none cut, make the same calls in the whole
  pub calls_stand : (n : ℕ) (F : Floor) (first : ℕ) (p q : List ℕ) → (run_from P n F first p).count ≡ n
      → ((run_from P n F first p).ended ≡ true → read_at limits p (run_from P n F first p).octets ≡ refused_frame 1 → ⊥) → calls_from P n F (p ++ q) ≡ calls_from P n F p
  unfolding run_from calls_from read_at
  calls_stand zero F first p q all uncut = refl
  calls_stand (suc n) F first p q all uncut = by (frame_of limits p) refl (λ e size. calls_stand n (on F e) (suc first) (drop size p) q) all uncut
    where
      by : (r : Reading) → frame_of limits p ≡ r
          → ((e : Event) (size : ℕ) → (run_from P n (on F e) (suc first) (drop size p)).count ≡ n
          → ((run_from P n (on F e) (suc first) (drop size p)).ended ≡ true → read_at limits (drop size p) (run_from P n (on F e) (suc first) (drop size p)).octets ≡ refused_frame 1 → ⊥)
          → calls_from P n (on F e) (drop size p ++ q) ≡ calls_from P n (on F e) (drop size p))
          → (run_from P (suc n) F first p).count ≡ suc n
          → ((run_from P (suc n) F first p).ended ≡ true → read_at limits p (run_from P (suc n) F first p).octets ≡ refused_frame 1 → ⊥)
          → calls_from P (suc n) F (p ++ q) ≡ calls_from P (suc n) F p
      by end e h all uncut = absurd (let z : 0 ≡ suc n = rw (e, run_from) at all in omega arith)
      by (refused_frame r) e h all uncut =
          let one : (r ≡ 1 → ⊥) = λ z. (rw (e, run_from) at uncut) refl (e ∙ ap refused_frame z) in
          let same : frame_of limits (p ++ q) ≡ refused_frame r =
          frame_stands p q (λ z. (let y : ◌≡◌ {A = ℕ} 0 1 = cc (sym e ∙ z) in omega arith)) (λ z. one (let y : refused_frame r ≡ refused_frame 1 = sym e ∙ z in cc)) ∙ e in
          rw (same, e, calls_from) refl
      by (taken ev size) e h all uncut =
          let same : frame_of limits (p ++ q) ≡ taken ev size =
          frame_stands p q (λ z. (let y : ◌≡◌ {A = ℕ} 0 1 = cc (sym e ∙ z) in omega arith)) (λ z. (let y : ◌≡◌ {A = ℕ} 0 1 = cc (sym e ∙ z) in omega arith)) ∙ e in
          let inside = taken_inside p 0 ev size e in
          let apart : drop size (p ++ q) ≡ drop size p ++ q = drop-append-le size p q (let y = inside.0 in omega arith) in
          let R = run_from P n (on F ev) (suc first) (drop size p) in
          let count : suc R.count ≡ suc n = rw (e, run_from) at all in
          let later = rw (e, run_from) at uncut in
          let rest = ap (calls_from P n (on F ev)) apart ∙ h ev size (omega arith) (λ ended cut. later ended (ap (frame_of limits) (sym (drop-drop R.octets size p)) ∙ cut)) in
          rw (same, e, calls_from) (ap (λ (y : List (Option PlainCall)). call_of (limits_of P) F ev ∷ y) rest)

  -- with more turns than octets there are enough
  pub calls_enough : (n k : ℕ) (F : Floor) (l : List ℕ) → length l < n → calls_from P (n + k) F l ≡ calls_from P n F l
  unfolding calls_from
  calls_enough zero k F l few = absurd (omega arith)
  calls_enough (suc n) k F l few = by (frame_of limits l) refl (λ e size. calls_enough n k (on F e) (drop size l))
    where
      one_more : suc n + k ≡ suc (n + k)
      one_more = omega arith

      by : (r : Reading) → frame_of limits l ≡ r
          → ((e : Event) (size : ℕ) → length (drop size l) < n → calls_from P (n + k) (on F e) (drop size l) ≡ calls_from P n (on F e) (drop size l))
          → calls_from P (suc n + k) F l ≡ calls_from P (suc n) F l
      by end q h = ap (λ (m : ℕ). calls_from P m F l) one_more ∙ rw (q, calls_from) refl
      by (refused_frame r) q h = ap (λ (m : ℕ). calls_from P m F l) one_more ∙ rw (q, calls_from) refl
      by (taken e size) q h =
          let inside = taken_front l e size q in
          let z = length-drop size l in
          ap (λ (m : ℕ). calls_from P m F l) one_more ∙ rw (q, calls_from) (ap (λ (y : List (Option PlainCall)). call_of (limits_of P) F e ∷ y) (h e size (omega arith)))

-- TWO UNSTARTED FLOORS make the same calls: what is no start is refused, so no group is asked for
same_fed : (F G : Floor) (e : Event) (a : Answer) → ((s g : ℕ) (text : List ℕ) → e ≡ send_group s g text → (r : ℕ) × (a ≡ refused r)) → fed_by (as_sent F e) a ≡ fed_by (as_sent G e) a
same_fed F G (start n k) a h = refl
same_fed F G (enter t c) a h = refl
same_fed F G (send s set text) a h = refl
same_fed F G (wire i j) a h = refl
same_fed F G (radio t c buffer) a h = refl
same_fed F G (move c to) a h = refl
same_fed F G (flag c b) a h = refl
same_fed F G (group g set) a h = refl
same_fed F G (send_group s g text) a h =
    let w = h s g text refl in
    ap (fed_by (send s (F.groups g) text)) w.1 ∙ sym (ap (fed_by (send s (G.groups g) text)) w.1)
same_fed F G (send_long s set text) a h = refl
same_fed F G (retire c) a h = refl

past_5 : (a b : Bool) (rest : ℕ) → b ≡ true → check 4 a (check 5 b rest) ≡ 0 → ⊥
past_5 true b rest e z = omega arith
past_5 false b rest e z = let five : ◌≡◌ {A = ℕ} 5 0 = rw e at z in omega arith

group_refused : (M : Limits) (F : Floor) → F.started ≡ false → (s g : ℕ) (text : List ℕ) → answer M F (send_group s g text) ≡ refused (refusal M F (send_group s g text))
unfolding answer refusal refusal_if
group_refused M F fresh s g text =
    let e = send_group s g text in
    let no : eqb (refusal M F e) 0 ≡ false = ne_eqb (refusal M F e) 0 (λ z. past_5 (ltb M.text (length text)) (not (passes_form M F)) _ (ap not (form_unstarted M F fresh)) z) in
    ap (λ (b : Bool). cond b (accepted (accept M F e).report) (refused (refusal M F e))) no

call_alike : (M : Limits) (F G : Floor) → Unstarted F → Unstarted G → (e : Event) → call_of M F e ≡ call_of M G e
call_alike M F G U U' e =
    same_fed F G e (answer M F e) (λ s g text q. (refusal M F (send_group s g text), ap (answer M F) q ∙ group_refused M F U.fresh s g text))
    ∙ ap (fed_by (as_sent G e)) (answers_alike M F G U U' e)

pub calls_alike : (P : Product) (n : ℕ) (F G : Floor) → Unstarted F → Unstarted G → (l : List ℕ) → calls_from P n F l ≡ calls_from P n G l
unfolding calls_from
calls_alike P zero F G U U' l = refl
calls_alike P (suc n) F G U U' l = by (frame_of limits l) refl (λ e size. calls_alike P n F G U U' (drop size l))
  where
    by : (r : Reading) → frame_of limits l ≡ r → ((e : Event) (size : ℕ) → calls_from P n F (drop size l) ≡ calls_from P n G (drop size l)) → calls_from P (suc n) F l ≡ calls_from P (suc n) G l
    by end q h = rw (q, calls_from) refl
    by (refused_frame r) q h = rw (q, calls_from) refl
    by (taken e size) q h =
        let M = limits_of P in
        let rest : calls_from P n (step M F e) (drop size l) ≡ calls_from P n (step M G e) (drop size l) =
        ⊎_elim
        (λ s. ap (λ (X : Floor). calls_from P n X (drop size l)) s)
        (λ s. ap (λ (X : Floor). calls_from P n X (drop size l)) s.0 ∙ h e size ∙ sym (ap (λ (X : Floor). calls_from P n X (drop size l)) s.1))
        (steps_alike M F G U U' e) in
        rw (q, calls_from) (ap₂ (λ (a : Option PlainCall) (x : List (Option PlainCall)). a ∷ x) (call_alike M F G U U' e) rest)
