-- THE CODE'S TURN IS A TURN OF THE STREAM: a read, and a run of the frames that are there.
use mathlib.Core.Path.{◌≡◌, refl, sym, ap, ◌∙◌, subst}
use mathlib.Core.Bool.{Bool, true, false}
use mathlib.Core.List.{List, [], ◌∷◌, ◌++◌}
use Prim.Native.Nat.{ℕ, ◌+◌, ◌-◌, ◌<◌, ◌≤◌}
use native.Mathlib.Omega.{arith}
use lib.Dec.{eqb}
use lib.ListN.{length, take, drop, length-drop}
use lib.Seq.{paste, length-take-le, take-add, take_at, drop-drop, drop_at}
use borrow.Author.Tests.{eq-eqb, ne_eqb}
use Rattle.protocol.specs.Folds.{is_empty}
use Rattle.protocol.specs.Floor.{limits}
use Rattle.protocol.specs.Frames.{read_at}
use Rattle.frames.proofs.Kept.{kept_front}
use Rattle.view.specs.View.{Lent, floor_in}
use Rattle.std.specs.Prelude.{Option, None, Some, IfSome}
use Rattle.frame_run.specs.declared.Progress.{Progress}
use Rattle.frame_run.specs.declared.Stop.{Stop}
use Rattle.frame_run.specs.declared.Stop.TheVariants.{Full, Waits, Ended}
use Rattle.frame_run.specs.Stops.{stop_number}
use Rattle.frame_run.specs.Went.{NoneWhole, EndsRun, Went}
use Rattle.frame_run.proofs.Whole.{few_left}
use Rattle.frame_run.proofs.Printed.{front_of}
use Rattle.frame_stream.specs.declared.Feed.{Feed}
use Rattle.frame_stream.specs.declared.State.{State}
use Rattle.frame_stream.specs.declared.State.TheVariants.{Runs, Wants, Over, Failed}
use Rattle.frame_stream.specs.declared.Handed.{Handed}
use Rattle.frame_stream.specs.Stream.{Stream, brought, failed, ran, piece, state_after, after, handed, Stops, MayBy, lines_fill}
use Rattle.frame_stream.specs.Feed.{state_number, Inside, stream_of, Made, after_read, next_state, after_run}
use Rattle.frame_stream.proofs.Stream.{wants_why}

-- the octets that were read and not run yet
pub part_length : (l : List ℕ) (f : Feed) → Inside (length l) f → length (take (f.have - f.at) (drop f.at l)) ≡ f.have - f.at
part_length l f h =
    let a = h.run in
    let b = h.read in
    length-take-le (f.have - f.at) (drop f.at l) (let z = length-drop f.at l in omega arith)

-- WHAT IS TO BE DONE after a run, by numbers
pub number_next : (why : Stop) (last accepted : Bool) → state_number (next_state why last accepted) ≡ state_after (stop_number why) last accepted
number_next why last false = refl
number_next Full last true = refl
number_next Waits false true = refl
number_next Waits true true = refl
number_next Ended last true = refl

-- A READ

is_empty_lem : (l : List ℕ) (n : ℕ) → length l ≡ n → eqb n 0 ≡ is_empty l
is_empty_lem [] n e = eq-eqb n 0 (sym e)
is_empty_lem (x ∷ l) n e = ne_eqb n 0 (λ z. omega arith)

module _ (input input₁ input₂ : List ℕ) (f r : Feed) (brought_some : Option ℕ) (kept : ℕ) (inside : Inside (length input) f) (wants : state_number f.state ≡ 1) (size : kept ≡ f.have - f.at)
    (moved : input₁ ≡ paste input 0 (drop f.at input) (f.have - f.at)) (same : length input₁ ≡ length input)
    (room : ℕ) (asked : (kept + room ≡ length input₁) × (kept < length input₁) × IfSome brought_some (λ n. n ≤ room)) (rest : List ℕ) (there : input₂ ≡ take kept input₁ ++ rest)
    (long : length input₂ ≡ length input) (is : r ≡ after_read kept brought_some f) where
  -- what was not run yet, and stands at the front now
  abbrev left : List ℕ
  left = take (f.have - f.at) (drop f.at input)

  kept_there : take kept input₂ ≡ left
  kept_there =
      ap (take kept) there
      ∙ take_at (take kept input₁) rest kept (length-take-le kept input₁ (let a = asked.1 in omega arith))
      ∙ ap (λ (n : ℕ). take n input₁) size
      ∙ kept_front input input₁ f.at (f.have - f.at) (let a = inside.run in let b = inside.read in omega arith) moved

  read_failed : brought_some ≡ None → (L : Lent) → Made (stream_of input L f) (stream_of input₂ L r) []
  unfolding MayBy after handed
  read_failed e L =
      let whole : kept - 0 ≡ kept = omega arith in
      let q : r ≡ record { at = 0; have = kept; index = f.index; state = Failed; last = f.last; handed = 0 } = is ∙ ap (λ (b : Option ℕ). after_read kept b f) e in
      record {
        turn = failed;
        may = wants;
        leads = ap (stream_of input₂ L) q
            ∙ (λ i. record { product = L.product; left = (ap (λ (k : ℕ). take k input₂) whole ∙ kept_there) i; floor = floor_in L; index = f.index; state = 3; last = f.last });
        hands = refl;
      }

  brought_fits : (n : ℕ) → brought_some ≡ Some n → kept + n ≤ length input₂
  brought_fits n e = let a = asked.0 in let b : n ≤ room = subst (λ (b : Option ℕ). IfSome b (λ n. n ≤ room)) e asked.2 in omega arith

  read_brought : (n : ℕ) → brought_some ≡ Some n → (L : Lent) → Made (stream_of input L f) (stream_of input₂ L r) []
  unfolding MayBy after handed
  read_brought n e L =
      let l = take n (drop kept input₂) in
      let whole : kept + n - 0 ≡ kept + n = omega arith in
      let some : length l ≡ n = length-take-le n (drop kept input₂) (let z = length-drop kept input₂ in let y = brought_fits n e in omega arith) in
      let q : r ≡ record { at = 0; have = kept + n; index = f.index; state = Runs; last = eqb n 0; handed = 0 } = is ∙ ap (λ (b : Option ℕ). after_read kept b f) e in
      let behind : take (kept + n - 0) input₂ ≡ left ++ l = ap (λ (k : ℕ). take k input₂) whole ∙ take-add kept n input₂ ∙ ap (λ (x : List ℕ). x ++ l) kept_there in
      record {
        turn = brought l;
        may = wants;
        leads = ap (stream_of input₂ L) q
            ∙ (λ i. record { product = L.product; left = behind i; floor = floor_in L; index = f.index; state = 0; last = is_empty_lem l n some i });
        hands = refl;
      }

  read_made : (L : Lent) → Made (stream_of input L f) (stream_of input₂ L r) []
  read_made L = by brought_some refl
    where
      by : (b : Option ℕ) → brought_some ≡ b → Made (stream_of input L f) (stream_of input₂ L r) []
      by None e = read_failed e L
      by (Some n) e = read_brought n e L

  read_inside : Inside (length input₂) r × (r.handed ≡ 0)
  read_inside = subst (λ (x : Feed). Inside (length input₂) x × (x.handed ≡ 0)) (sym is) (by brought_some refl)
    where
      by : (b : Option ℕ) → brought_some ≡ b → Inside (length input₂) (after_read kept b f) × ((after_read kept b f).handed ≡ 0)
      by None e = (record { run = omega arith; read = (let a = asked.1 in omega arith); few = λ z. absurd (omega arith) }, refl)
      by (Some n) e = (record { run = omega arith; read = (let a = brought_fits n e in omega arith); few = λ z. absurd (omega arith) }, refl)

  pub read_turn : (Inside (length input₂) r × ((L : Lent) → Made (stream_of input L f) (stream_of input₂ L r) []) × (r.handed ≡ 0)) × (length input₂ ≡ length input)
  read_turn = ((read_inside.0, read_made, read_inside.1), long)

-- it hands nothing on
pub no_lines : (S S' : Stream) (out : List ℕ) (n : ℕ) → n ≡ 0 → Made S S' [] → Made S S' (take n out)
no_lines S S' out n e m = subst (λ (k : ℕ). Made S S' (take k out)) (sym e) m

-- the read is handed all of the piece behind what was kept, and that is not nothing
pub part_room : (input input₁ : List ℕ) (f : Feed) (kept : ℕ) → Inside (length input) f → state_number f.state ≡ 1 → length input ≡ 65536 → kept ≡ f.have - f.at
    → length input₁ ≡ length input → (room : ℕ) → room ≡ length (take (length input₁ - kept) (drop kept input₁)) → (kept + room ≡ length input₁) × (kept < length input₁)
part_room input input₁ f kept inside wants long size same room there =
    let short = inside.few wants in
    let z = length-drop kept input₁ in
    let y = length-take-le (length input₁ - kept) (drop kept input₁) (omega arith) in
    (omega arith, omega arith)

-- what is to be done, where something is, and that is no read
pub runs_else : (s : State) → state_number s < 2 → (s ≡ Wants → ⊥) → s ≡ Runs
runs_else Runs h n = refl
runs_else Wants h n = absurd (n refl)
runs_else Over h n = absurd (omega arith)
runs_else Failed h n = absurd (omega arith)

-- A RUN

-- what is left behind k octets of a part
pub drop_part : (l : List ℕ) (at have k : ℕ) → at + k ≤ have → have ≤ length l → take (have - (at + k)) (drop (at + k) l) ≡ drop k (take (have - at) (drop at l))
drop_part l at have k a b =
    let j = have - (at + k) in
    let Y = drop at l in
    let sums : k + j ≡ have - at = omega arith in
    let long : length (take k Y) ≡ k = length-take-le k Y (let z = length-drop at l in omega arith) in
    ap (take j) (sym (drop-drop k at l))
    ∙ sym (drop_at (take k Y) (take j (drop k Y)) k long)
    ∙ ap (drop k) (sym (take-add k j Y))
    ∙ ap (λ (m : ℕ). drop k (take m Y)) sums

module _ (input : List ℕ) (L L' : Lent) (out out' : List ℕ) (f r : Feed) (p : Progress) (h : Handed) (inside : Inside (length input) f) (runs : state_number f.state ≡ 0)
    (long : length out ≡ 65536) (went : Went (take (f.have - f.at) (drop f.at input)) f.index f.last L L' out out' p) (size : h.size ≡ p.written)
    (is : r ≡ after_run f p h) where
  abbrev S : Stream
  S = stream_of input L f

  part_there : length (take (f.have - f.at) (drop f.at input)) ≡ f.have - f.at
  part_there = part_length input f inside

  read_there : f.at + p.read ≤ f.have
  read_there = let a = went.inside in let b = part_there in let c = inside.run in omega arith

  run_stops : Stops S p.frames (stop_number p.state)
  run_stops =
      record {
        counted = sym went.run.counted;
        ended = went.run.ended;
        known = went.why;
        waits = λ e. subst (λ (k : ℕ). NoneWhole f.last (read_at limits S.left k)) went.run.read (went.waits e);
        ends = λ e. subst (λ (k : ℕ). EndsRun f.last (read_at limits S.left k)) went.run.read (went.ends e);
      }

  run_full : stop_number p.state ≡ 0 → lines_fill S p.frames
  run_full e = let a = went.full e in let b = went.run.wrote in omega arith

  pub run_made : Made S (stream_of input L' r) (take r.handed out')
  unfolding MayBy after handed
  run_made =
      let n = p.frames in
      let rest : take (f.have - (f.at + p.read)) (drop (f.at + p.read) input) ≡ drop (piece S n).octets S.left =
      drop_part input f.at f.have p.read read_there inside.read ∙ ap (λ (k : ℕ). drop k S.left) went.run.read in
      record {
        turn = ran n (stop_number p.state) h.accepted;
        may = (runs, run_stops, run_full);
        leads = ap (stream_of input L') is
            ∙ (λ i. record { product = went.product i; left = rest i; floor = went.run.floor i; index = f.index + n; state = number_next p.state f.last h.accepted i; last = f.last });
        hands = ap (λ (x : Feed). take x.handed out') is ∙ front_of out out' (piece S n).printed h.size (size ∙ went.run.wrote) went.run.octets;
      }

  pub run_inside : Inside (length input) r
  run_inside =
      subst (λ (x : Feed). Inside (length input) x) (sym is)
      (record {
        run = read_there;
        read = inside.read;
        few = λ e. let w = wants_why (stop_number p.state) f.last h.accepted went.why (sym (number_next p.state f.last h.accepted) ∙ e) in
            let short = few_left f.last S.left p.read (went.waits w.0) in
            let b = part_there in
            let c = read_there in
            omega arith;
      })
