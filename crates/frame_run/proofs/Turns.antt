-- ONE FRAME OF THE RUN: from the state of a run to the state of the run with one frame more.
use mathlib.Core.Path.{◌≡◌, refl, sym, ap, ap₂, ◌∙◌, subst}
use mathlib.Core.Bool.{Bool, true, false, not, cond, ◌&&◌, ◌||◌}
use mathlib.Core.List.{List, ◌++◌}
use Prim.{tt}
use Prim.Native.Nat.{ℕ, suc, ◌+◌, ◌≤◌}
use native.Mathlib.Omega.{arith}
use lib.Dec.{eqb}
use lib.ListN.{length, drop, length-append}
use borrow.Author.Tests.{eqb-true, eq-eqb, ne_eqb, not-true, not-false}
use Rattle.protocol.proofs.Tests.{and_left, and_right}
use Rattle.protocol.specs.Floor.{Product, limits, limits_of, Floor}
use Rattle.protocol.specs.Events.{refused}
use Rattle.protocol.specs.Events as events
use Rattle.protocol.specs.Step.{step, answer}
use Rattle.protocol.specs.Frames.{Reading, refused_frame, taken, read_at}
use Rattle.protocol.specs.Printed.{line_of}
use Rattle.view.specs.View.{Lent, floor_in}
use Rattle.frame_lines.specs.Lines.{written, Wrote, longest_line, longest_refusal, line_room}
use Rattle.frame_lines.proofs.Octets.{written_length, written_then}
use Rattle.event_answers.specs.Met.{Ready, Met}
use Rattle.event_answers.proofs.Readies.{stays_ready}
use Rattle.frames.specs.declared.Event.{Event}
use Rattle.frames.specs.declared.Event.TheVariants.{Start, Enter, Send, Wire, Radio, Move, Flag, Group, SendGroup, SendLong, Retire}
use Rattle.std.specs.Prelude.{Option, None, Some, Result, Ok, Err}
use Rattle.refusals.specs.declared.Refusal.{Refusal}
use Rattle.refusals.specs.Numbers.{number_of}
use Rattle.frames.specs.Decoded.{event_in, size_of, reading_in}
use Rattle.frame_run.specs.declared.Progress.{Progress}
use Rattle.frame_run.specs.declared.Stop.TheVariants.{Waits, Ended}
use Rattle.frame_run.specs.Stops.{stop_number}
use Rattle.frame_run.specs.Piece.{Ran, run_from}
use Rattle.frame_run.specs.Went.{InRun, NoneWhole, EndsRun, Took, TookOn, TurnedOn}
use Rattle.frame_run.proofs.Pieces.{more, onward, one_more}

-- the event that happened and the line that was printed
pub took : (index : ℕ) (L L' : Lent) (out out' : List ℕ) (p r : Progress) (e : events.Event) (size : ℕ) (a : events.Answer)
    → Ready L → Met L L' e a → Wrote longest_line (line_of index a) out out' p.written r.written
    → r.read ≡ p.read + size → r.frames ≡ p.frames + 1 → stop_number r.state ≡ 0 → Took index L L' out out' p r e size
took index L L' out out' p r e size a R met line read frames state =
    record {
      product = met.product;
      ready = stays_ready L L' e a R met;
      floor = met.floor;
      line = subst (λ (x : events.Answer). Wrote longest_line (line_of index x) out out' p.written r.written) met.answers line;
      read = read;
      frames = frames;
      state = state;
    }

-- IS A REFUSED FRAME ONLY NOT WHOLE YET: what the code asks of its refusal
abbrev pub none_whole : ℕ → Bool → Bool
none_whole number last = eqb number 0 || (eqb number 1 && not last)

-- THE STATE OF A RUN, one line further
module _ (R : Ran) (L L' : Lent) (out₀ out out' : List ℕ) (p r : Progress) (most : ℕ) (line : List ℕ) (now_in : InRun R L out₀ out p)
    (wrote : Wrote most line out out' p.written r.written) (room : p.written + most ≤ length out) where
  whole : length out ≡ length out₀
  whole = let a = now_in.wrote in let b = now_in.fits in ap length now_in.octets ∙ written_length out₀ 0 R.printed (omega arith)

  further : (X : Floor) (k : ℕ) (b : Bool) → r.frames ≡ p.frames + 1 → floor_in L' ≡ X → r.read ≡ k → b ≡ eqb (stop_number r.state) 2
      → InRun (record { count = suc R.count; printed = R.printed ++ line; floor = X; octets = k; ended = b }) L' out₀ out' r
  further X k b n f q e =
      let a = now_in.wrote in
      let c = wrote.behind in
      let d = wrote.few in
      let s = length-append R.printed line in
      let w = whole in
      let zero_more : p.written ≡ 0 + length R.printed = omega arith in
      record {
        floor = f;
        counted = let z = now_in.counted in omega arith;
        read = q;
        wrote = omega arith;
        fits = omega arith;
        octets = wrote.octets ∙ ap₂ (λ (x : List ℕ) (n : ℕ). written x n line) now_in.octets zero_more ∙ written_then out₀ 0 R.printed line (let b = now_in.fits in omega arith);
        ended = e;
      }

module _ (P : Product) (input : List ℕ) (first index : ℕ) (F : Floor) (L : Lent) (out₀ out : List ℕ) (p : Progress) (going : stop_number p.state ≡ 0) (at : index ≡ first + p.frames) where
  abbrev R : Ran
  R = run_from P p.frames F first input

  -- the run with one frame more
  pub next_frame : (k : ℕ) (reading : Reading) → InRun R L out₀ out p → k ≡ p.frames + 1 → read_at limits input p.read ≡ reading → run_from P k F first input ≡ more P R index reading
  next_frame k reading h e q =
      let one : k ≡ suc p.frames = omega arith in
      let goes : R.ended ≡ false = h.ended ∙ ne_eqb (stop_number p.state) 2 (λ z. omega arith) in
      ap (λ (n : ℕ). run_from P n F first input) one ∙ one_more P p.frames F first input
      ∙ ap (λ (n : ℕ). onward P R n (read_at limits input R.octets)) (sym at)
      ∙ ap (λ (b : Bool). cond b R (more P R index (read_at limits input R.octets))) goes
      ∙ ap (λ (n : ℕ). more P R index (read_at limits input n)) (sym h.read)
      ∙ ap (λ (x : Reading). more P R index x) q

-- THE THREE WAYS of a frame
module _ (Kept : Lent → Type 0) (input : List ℕ) (index : ℕ) (last : Bool) (L : Lent) (out : List ℕ) (p : Progress) (ready : Kept L) (going : stop_number p.state ≡ 0) (inside : p.read ≤ length input)
    (room : p.written + line_room ≤ length out) (few : p.frames ≤ p.read) where
  -- none is whole
  pub turned_waits : (r : Progress) → r ≡ record { read = p.read; written = p.written; frames = p.frames; state = Waits } → NoneWhole last (read_at limits input p.read)
      → TurnedOn Kept input index last L L out out p r
  turned_waits r e none = subst (λ (x : Progress). TurnedOn Kept input index last L L out out p x) (sym e) stands
    where
      stands : TurnedOn Kept input index last L L out out p (record { read = p.read; written = p.written; frames = p.frames; state = Waits })
      stands =
          record {
            product = refl;
            ready = ready;
            runs = λ F first out₀ at h. record { floor = h.floor; counted = h.counted; read = h.read; wrote = h.wrote; fits = h.fits; octets = h.octets; ended = h.ended ∙ ne_eqb (stop_number p.state) 2 (λ z. omega arith) };
            inside = inside;
            within = omega arith;
            kept = refl;
            few = λ z. absurd (omega arith);
            counted = omega arith;
            onward = λ z. absurd (omega arith);
            stays = omega arith;
            why = omega arith;
            waits = λ z. none;
            ends = λ z. absurd (omega arith);
          }

  -- one is refused, and ends the run
  pub turned_refused : (out' : List ℕ) (r : Progress) (number : ℕ) → read_at limits input p.read ≡ refused_frame number
      → Wrote longest_refusal (line_of index (refused number)) out out' p.written r.written → (r.read ≡ p.read) × (r.frames ≡ p.frames + 1) × (r.state ≡ Ended)
      → (number ≡ 1 → last ≡ true) → TurnedOn Kept input index last L L out out' p r
  turned_refused out' r number q wrote is cut_last =
      let over : stop_number r.state ≡ 2 = ap stop_number is.2 in
      record {
        product = refl;
        ready = ready;
        runs = λ F first out₀ at h.
            subst (λ (X : Ran). InRun X L out₀ out' r) (sym (next_frame L.product input first index F L out₀ out p going at r.frames (refused_frame number) h is.1 q))
            (further (run_from L.product p.frames F first input) L L out₀ out out' p r longest_refusal _ h wrote (omega arith) (run_from L.product p.frames F first input).floor (run_from L.product p.frames F first input).octets true
            is.1 h.floor (is.0 ∙ h.read) (sym (eq-eqb (stop_number r.state) 2 over)));
        inside = let a = is.0 in omega arith;
        within = let a = wrote.few in omega arith;
        kept = wrote.kept;
        few = λ z. absurd (let a = over in omega arith);
        counted = let a = is.0 in let b = is.1 in omega arith;
        onward = λ z. absurd (let a = over in omega arith);
        stays = let a = is.0 in omega arith;
        why = let a = over in omega arith;
        waits = λ z. absurd (let a = over in omega arith);
        ends = λ z. subst (λ (x : Reading). EndsRun last x) (sym (ap (read_at limits input) is.0 ∙ q)) cut_last;
      }

  -- one is an event
  pub turned_taken : (L' : Lent) (out' : List ℕ) (r : Progress) (e : events.Event) (size : ℕ) → read_at limits input p.read ≡ taken e size
      → 16 ≤ size → p.read + size ≤ length input → TookOn Kept index L L' out out' p r e size → TurnedOn Kept input index last L L' out out' p r
  turned_taken L' out' r e size q least there t =
      record {
        product = t.product;
        ready = t.ready;
        runs = λ F first out₀ at h.
            let X = run_from L.product p.frames F first input in
            let same : answer (limits_of L.product) (floor_in L) e ≡ answer (limits_of L.product) X.floor e = ap (λ (G : Floor). answer (limits_of L.product) G e) h.floor in
            let line = subst (λ (a : events.Answer). Wrote longest_line (line_of index a) out out' p.written r.written) same t.line in
            subst (λ (Y : Ran). InRun Y L' out₀ out' r) (sym (next_frame L.product input first index F L out₀ out p going at r.frames (taken e size) h t.frames q))
            (further X L L' out₀ out out' p r longest_line _ h line (omega arith) (step (limits_of L.product) X.floor e) (X.octets + size) false
            t.frames (t.floor ∙ ap (λ (G : Floor). step (limits_of L.product) G e) h.floor) (let a = h.read in let b = t.read in omega arith) (sym (ne_eqb (stop_number r.state) 2 (λ z. let a = t.state in omega arith))));
        inside = let a = t.read in omega arith;
        within = let a = t.line.few in omega arith;
        kept = t.line.kept;
        few = λ z. let a = t.read in let b = t.frames in omega arith;
        counted = let a = t.read in let b = t.frames in omega arith;
        onward = λ z. let a = t.read in omega arith;
        stays = let a = t.read in omega arith;
        why = let a = t.state in omega arith;
        waits = λ z. absurd (let a = t.state in omega arith);
        ends = λ z. absurd (let a = t.state in omega arith);
      }

number_some : (r : Refusal) → number_of r ≡ 0 → ⊥
number_some r z = grind arith

-- WHAT THE DECODER SAID of the frame there
module _ (input : List ℕ) (at : ℕ) (last : Bool) (said : Result (Option Event) Refusal) (read : reading_in (drop at input) said ≡ read_at limits input at) where
  there : (x : Result (Option Event) Refusal) → said ≡ x → reading_in (drop at input) x ≡ read_at limits input at
  there x q = ap (reading_in (drop at input)) (sym q) ∙ read

  pub end_there : said ≡ Ok None → NoneWhole last (read_at limits input at)
  end_there q = subst (NoneWhole last) (there (Ok None) q) tt

  module _ (refusal : Refusal) (q : said ≡ Err refusal) (number : ℕ) (its : number ≡ number_of refusal) (b : Bool) (is : b ≡ none_whole number last) where
    -- a refusal has a number, so what is not whole is cut short
    of_cut : b ≡ (eqb (number_of refusal) 1 && not last)
    of_cut = subst (λ (n : ℕ). b ≡ none_whole n last) its is ∙ ap (λ (x : Bool). x || (eqb (number_of refusal) 1 && not last)) (ne_eqb (number_of refusal) 0 (number_some refusal))

    pub cut_there : b ≡ true → NoneWhole last (read_at limits input at)
    cut_there t =
        let cut : (eqb (number_of refusal) 1 && not last) ≡ true = sym of_cut ∙ t in
        subst (NoneWhole last) (there (Err refusal) q) (eqb-true (number_of refusal) 1 (and_left (eqb (number_of refusal) 1) (not last) cut), not-true last (and_right (eqb (number_of refusal) 1) (not last) cut))

    pub refused_there : b ≡ false → (read_at limits input at ≡ refused_frame number) × (number ≡ 1 → last ≡ true)
    refused_there f = (
      sym (there (Err refusal) q) ∙ ap refused_frame (sym its),
      λ one. not-false last (ap (λ (x : Bool). x && not last) (sym (eq-eqb (number_of refusal) 1 (sym its ∙ one))) ∙ sym of_cut ∙ f),
    )

  pub taken_there : (e : Event) → said ≡ Ok (Some e) → read_at limits input at ≡ taken (event_in (drop at input) e) (size_of e)
  taken_there e q = sym (there (Ok (Some e)) q)

pub least_size : (e : Event) → 16 ≤ size_of e
least_size (Start n k) = omega arith
least_size (Enter t c) = omega arith
least_size (Send s set n) = omega arith
least_size (Wire i j) = omega arith
least_size (Radio t c) = omega arith
least_size (Move c to) = omega arith
least_size (Flag c b) = omega arith
least_size (Group g set) = omega arith
least_size (SendGroup s g n) = omega arith
least_size (SendLong s set n) = omega arith
least_size (Retire c) = omega arith
