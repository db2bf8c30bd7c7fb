-- THE LOOP OVER A PIECE: what holds before each frame, and what it comes to.
use mathlib.Core.Path.{◌≡◌, refl, sym, ap, ◌∙◌, subst}
use mathlib.Core.Bool.{Bool, true, false, ◌&&◌}
use mathlib.Core.List.{List}
use Prim.Native.Nat.{ℕ, ◌≤◌, ◌<◌}
use native.Mathlib.Omega.{arith}
use lib.Dec.{eqb, ltb}
use lib.ListN.{length}
use borrow.Author.Tests.{eqb-true, eq-eqb, ne_eqb, ltb-true, ltb-false}
use Rattle.protocol.specs.Floor.{Product, limits}
use Rattle.protocol.specs.Frames.{read_at}
use Rattle.protocol.proofs.Tests.{and_left, and_right, by_eq}
use Rattle.view.specs.View.{Lent, floor_in}
use Rattle.event_answers.specs.Met.{Ready}
use Rattle.frame_run.specs.declared.Progress.{Progress}
use Rattle.frame_run.specs.declared.Stop.TheVariants.{Full}
use Rattle.frame_run.specs.Stops.{stop_number}
use Rattle.frame_run.specs.Piece.{run_from}
use Rattle.frame_run.specs.Went.{NoneWhole, EndsRun}
use Rattle.frame_run.proofs.Loop.{is_full, none_yet, left}
use Rattle.training_rows.specs.Calls.{made_by, TextsIn}
use Rattle.training_calls.specs.Calls.{calls_from}
use Rattle.training_calls.specs.Gone.{InCalls, Turned, Gone}

-- before each frame
pub record Going (input : List ℕ) (last : Bool) (L₀ L : Lent) (calls : List ℕ) (p : Progress) : Type 0 where
  pub product : L.product ≡ L₀.product
  pub ready : Ready L
  pub run : (first : ℕ) → InCalls input (run_from L₀.product p.frames (floor_in L₀) first input) (calls_from L₀.product p.frames (floor_in L₀) input) L calls p
  pub texts : TextsIn input calls p.frames
  pub long : length calls ≡ 5120
  pub inside : p.read ≤ length input
  pub few : p.frames ≤ 1024
  pub why : stop_number p.state ≤ 2
  pub waits : stop_number p.state ≡ 1 → NoneWhole last (read_at limits input p.read)
  pub ends : stop_number p.state ≡ 2 → EndsRun last (read_at limits input p.read)

module _ (input : List ℕ) (last : Bool) (L₀ : Lent) where
  pub going_first : (calls : List ℕ) → length calls ≡ 5120 → Ready L₀ → Going input last L₀ L₀ calls none_yet
  unfolding run_from calls_from made_by
  going_first calls long R =
      record {
        product = refl;
        ready = R;
        run = λ first. record { floor = refl; counted = refl; read = refl; ended = refl; rows = refl };
        texts = λ k h. absurd (omega arith);
        long = long;
        inside = omega arith;
        few = omega arith;
        why = omega arith;
        waits = λ z. absurd (omega arith);
        ends = λ z. absurd (omega arith);
      }

  module _ (L : Lent) (calls : List ℕ) (p : Progress) (g : Going input last L₀ L calls p) where
    pub going_next : (L' : Lent) (calls' : List ℕ) (r : Progress) → Turned input last L L' calls calls' p r → Going input last L₀ L' calls' r
    going_next L' calls' r t =
        record {
          product = t.product ∙ g.product;
          ready = t.ready;
          run = λ first. subst (λ (P : Product). InCalls input (run_from P r.frames (floor_in L₀) first input) (calls_from P r.frames (floor_in L₀) input) L' calls' r) g.product
              (t.runs (floor_in L₀) first (subst (λ (P : Product). InCalls input (run_from P p.frames (floor_in L₀) first input) (calls_from P p.frames (floor_in L₀) input) L calls p) (sym g.product) (g.run first)));
          texts = t.texts g.texts;
          long = t.kept ∙ g.long;
          inside = t.inside;
          few = t.few;
          why = t.why;
          waits = t.waits;
          ends = t.ends;
        }

    pub going_less : (L' : Lent) (calls' : List ℕ) (r : Progress) → p.state ≡ Full → Turned input last L L' calls calls' p r → left input r < left input p
    going_less L' calls' r e t =
        let a = g.inside in
        let b = t.inside in
        let c = t.stays in
        let on : stop_number p.state ≡ 0 = ap stop_number e in
        by_eq (stop_number r.state) 0
        (λ z. let d = t.onward z in rw (eq-eqb (stop_number r.state) 0 z, eq-eqb (stop_number p.state) 0 on) (omega arith))
        (λ z. rw (ne_eqb (stop_number r.state) 0 z, eq-eqb (stop_number p.state) 0 on) (omega arith))

    -- the test of the loop
    module _ (b : Bool) (test : b ≡ (eqb (stop_number p.state) 0 && ltb p.frames 1024)) where
      pub goes : b ≡ true → (p.state ≡ Full) × (p.frames < 1024)
      goes t =
          let both : (eqb (stop_number p.state) 0 && ltb p.frames 1024) ≡ true = sym test ∙ t in
          (is_full p.state (eqb-true (stop_number p.state) 0 (and_left (eqb (stop_number p.state) 0) (ltb p.frames 1024) both)), ltb-true p.frames 1024 (and_right (eqb (stop_number p.state) 0) (ltb p.frames 1024) both))

      pub stops : b ≡ false → Gone input last L₀ L calls p
      stops t =
          record {
            product = g.product;
            ready = g.ready;
            run = g.run;
            texts = g.texts;
            inside = g.inside;
            few = g.few;
            why = g.why;
            waits = g.waits;
            ends = g.ends;
            full = λ z. let none : ltb p.frames 1024 ≡ false = ap (λ (x : Bool). x && ltb p.frames 1024) (sym (eq-eqb (stop_number p.state) 0 z)) ∙ sym test ∙ t in
                let many = ltb-false p.frames 1024 none in let f = g.few in omega arith;
          }

-- the test itself
pub by_row : (p : Progress) → stop_number p.state ≡ 0 → ltb p.frames 1024 ≡ (eqb (stop_number p.state) 0 && ltb p.frames 1024)
by_row p e = rw (eq-eqb (stop_number p.state) 0 e) refl
