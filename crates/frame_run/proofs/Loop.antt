-- THE LOOP OF A RUN: what holds before each frame, and what it comes to.
use mathlib.Core.Path.{◌≡◌, refl, sym, ap, ◌∙◌, subst}
use mathlib.Core.Bool.{Bool, true, false, cond, ◌&&◌}
use mathlib.Core.List.{List}
use Prim.Native.Nat.{ℕ, ◌*◌, ◌+◌, ◌-◌, ◌≤◌, ◌<◌}
use native.Mathlib.Omega.{arith}
use lib.Dec.{eqb, leb}
use lib.ListN.{length}
use borrow.Author.Tests.{eqb-true, eq-eqb, ne_eqb, leb-true, leb-false, le-leb, lt-leb}
use Rattle.protocol.specs.Floor.{Product, limits, limits_of, most_records}
use Rattle.protocol.specs.Frames.{read_at}
use Rattle.protocol.proofs.Tests.{and_left, and_right, by_eq, by_lt}
use Rattle.view.specs.View.{Lent, floor_in}
use Rattle.view.proofs.Lengths.{Lengths, lengths_of}
use Rattle.event_answers.specs.Met.{Ready}
use Rattle.frame_lines.specs.Lines.{line_room}
use Rattle.frame_lines.proofs.Octets.{written_none}
use Rattle.frame_run.specs.declared.Progress.{Progress}
use Rattle.frame_run.specs.declared.Stop.{Stop}
use Rattle.frame_run.specs.declared.Stop.TheVariants.{Full, Waits, Ended}
use Rattle.frame_run.specs.Stops.{stop_number}
use Rattle.frame_run.specs.Piece.{run_from}
use Rattle.frame_run.specs.Went.{InRun, NoneWhole, EndsRun, WentOn, TurnedOn}

-- a run that nothing has stopped
pub is_full : (s : Stop) → stop_number s ≡ 0 → s ≡ Full
is_full Full e = refl
is_full Waits e = absurd (omega arith)
is_full Ended e = absurd (omega arith)

-- the first progress
abbrev pub none_yet : Progress
none_yet = record { read = 0; written = 0; frames = 0; state = Full }

-- before each frame
pub record Going (Kept : Lent → Type 0) (input : List ℕ) (index : ℕ) (last : Bool) (L₀ L : Lent) (out₀ out : List ℕ) (p : Progress) : Type 0 where
  pub product : L.product ≡ L₀.product
  pub ready : Kept L
  pub run : InRun (run_from L₀.product p.frames (floor_in L₀) index input) L out₀ out p
  pub inside : p.read ≤ length input
  pub within : p.written ≤ length out
  pub kept : length out ≡ length out₀
  pub few : stop_number p.state ≡ 0 → p.frames ≤ p.read
  pub counted : p.frames ≤ p.read + 1
  pub why : stop_number p.state ≤ 2
  pub waits : stop_number p.state ≡ 1 → NoneWhole last (read_at limits input p.read)
  pub ends : stop_number p.state ≡ 2 → EndsRun last (read_at limits input p.read)

-- what falls with each frame: the octets left, and that the run goes on
abbrev pub left : List ℕ → Progress → ℕ
left input p = length input - p.read + cond (eqb (stop_number p.state) 0) 1 0

module _ (Kept : Lent → Type 0) (input : List ℕ) (index : ℕ) (last : Bool) (L₀ : Lent) (out₀ : List ℕ) where
  pub going_first : Kept L₀ → Going Kept input index last L₀ L₀ out₀ out₀ none_yet
  unfolding run_from
  going_first R =
      record {
        product = refl;
        ready = R;
        run = record { floor = refl; counted = refl; read = refl; wrote = refl; fits = omega arith; octets = sym (written_none out₀ 0); ended = refl };
        inside = omega arith;
        within = omega arith;
        kept = refl;
        few = λ z. omega arith;
        counted = omega arith;
        why = omega arith;
        waits = λ z. absurd (omega arith);
        ends = λ z. absurd (omega arith);
      }

  module _ (L : Lent) (out : List ℕ) (p : Progress) (g : Going Kept input index last L₀ L out₀ out p) where
    pub going_next : (L' : Lent) (out' : List ℕ) (r : Progress) → TurnedOn Kept input (index + p.frames) last L L' out out' p r → Going Kept input index last L₀ L' out₀ out' r
    going_next L' out' r t =
        record {
          product = t.product ∙ g.product;
          ready = t.ready;
          run = subst (λ (P : Product). InRun (run_from P r.frames (floor_in L₀) index input) L' out₀ out' r) g.product
              (t.runs (floor_in L₀) index out₀ refl (subst (λ (P : Product). InRun (run_from P p.frames (floor_in L₀) index input) L out₀ out p) (sym g.product) g.run));
          inside = t.inside;
          within = let a = t.within in let b = t.kept in omega arith;
          kept = t.kept ∙ g.kept;
          few = t.few;
          counted = t.counted;
          why = t.why;
          waits = t.waits;
          ends = t.ends;
        }

    pub going_less : (L' : Lent) (out' : List ℕ) (r : Progress) → p.state ≡ Full → TurnedOn Kept input (index + p.frames) last L L' out out' p r → left input r < left input p
    going_less L' out' r e t =
        let a = g.inside in
        let b = t.inside in
        let c = t.stays in
        let on : stop_number p.state ≡ 0 = ap stop_number e in
        by_eq (stop_number r.state) 0
        (λ z. let d = t.onward z in rw (eq-eqb (stop_number r.state) 0 z, eq-eqb (stop_number p.state) 0 on) (omega arith))
        (λ z. rw (ne_eqb (stop_number r.state) 0 z, eq-eqb (stop_number p.state) 0 on) (omega arith))

    -- the test of the loop
    module _ (b : Bool) (test : b ≡ (eqb (stop_number p.state) 0 && leb (p.written + line_room) (length out))) where
      pub goes : b ≡ true → (p.state ≡ Full) × (p.written + line_room ≤ length out)
      goes t =
          let both : (eqb (stop_number p.state) 0 && leb (p.written + line_room) (length out)) ≡ true = sym test ∙ t in
          (is_full p.state (eqb-true (stop_number p.state) 0 (and_left (eqb (stop_number p.state) 0) (leb (p.written + line_room) (length out)) both)), leb-true (p.written + line_room) (length out) (and_right (eqb (stop_number p.state) 0) (leb (p.written + line_room) (length out)) both))

      pub stops : b ≡ false → WentOn Kept input index last L₀ L out₀ out p
      stops t =
          record {
            product = g.product;
            ready = g.ready;
            run = g.run;
            inside = g.inside;
            few = g.counted;
            within = let a = g.within in let k = g.kept in omega arith;
            kept = g.kept;
            why = g.why;
            waits = g.waits;
            ends = g.ends;
            full = λ z. let none : leb (p.written + line_room) (length out) ≡ false = ap (λ (x : Bool). x && leb (p.written + line_room) (length out)) (sym (eq-eqb (stop_number p.state) 0 z)) ∙ sym test ∙ t in
                let short = leb-false (p.written + line_room) (length out) none in let k = g.kept in omega arith;
          }

-- the test itself
pub not_going : (p : Progress) (n : ℕ) → (stop_number p.state ≡ 0 → ⊥) → false ≡ (eqb (stop_number p.state) 0 && leb (p.written + line_room) n)
not_going p n h = rw (ne_eqb (stop_number p.state) 0 h) refl

pub by_room : (p : Progress) (n : ℕ) → stop_number p.state ≡ 0 → p.written ≤ n → leb line_room (n - p.written) ≡ (eqb (stop_number p.state) 0 && leb (p.written + line_room) n)
by_room p n e h =
    rw (eq-eqb (stop_number p.state) 0 e)
    (by_lt (n - p.written) line_room
    (λ l. lt-leb line_room (n - p.written) l ∙ sym (lt-leb (p.written + line_room) n (omega arith)))
    (λ l. le-leb line_room (n - p.written) l ∙ sym (le-leb (p.written + line_room) n (omega arith))))

-- tables of ready floors are equally long
module _ (L L' : Lent) (R : Ready L) (R' : Ready L') (same : L'.product ≡ L.product) where
  abbrev a : Lengths L
  a = lengths_of L R.lengths

  abbrev a' : Lengths L'
  a' = lengths_of L' R'.lengths

  pub same_stations : length L'.stations ≡ length L.stations
  same_stations = a'.stations ∙ ap (λ (P : Product). 116 + P.stations * 116) same ∙ sym a.stations

  pub same_carts : length L'.carts ≡ length L.carts
  same_carts = a'.carts ∙ ap (λ (P : Product). P.carts * 19) same ∙ sym a.carts

  pub same_messages : length L'.messages ≡ length L.messages
  same_messages = a'.messages ∙ ap (λ (P : Product). P.held * 7) same ∙ sym a.messages

  pub same_lines : length L'.lines ≡ length L.lines
  same_lines = a'.lines ∙ ap (λ (P : Product). 1842 + most_records (limits_of P) * 3) same ∙ sym a.lines

  pub same_texts : length L'.texts ≡ length L.texts
  same_texts = a'.texts ∙ ap (λ (P : Product). P.held * 32) same ∙ sym a.texts

  pub same_store : length L'.store ≡ length L.store
  same_store = a'.store ∙ sym a.store
