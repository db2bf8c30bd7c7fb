-- THE CHECKS OF A WIRE EVENT, down the table, on the tables of the stations (S) and the lines (W), whatever the other parts (C, M, T, O) are.
use mathlib.Core.Path.{◌≡◌, refl, sym, ◌∙◌}
use mathlib.Core.Bool.{true, false}
use mathlib.Core.List.{List}
use Prim.Native.Nat.{ℕ, ◌+◌, ◌*◌, ◌≤◌, ◌<◌}
use native.Mathlib.Omega.{arith}
use lib.Dec.{eqb}
use lib.ListN.{length}
use borrow.Author.Tests.{le-leb, lt-leb}
use Rattle.protocol.specs.Folds.{is_empty}
use Rattle.protocol.specs.Floor.{Product, limits_of, Floor}
use Rattle.protocol.specs.Events.{wire}
use Rattle.protocol.specs.Refusals.{refusal_if}
use Rattle.lines.specs.Lines.{records_on}
use Rattle.stations.specs.View.{head_in}
use Rattle.view.specs.View.{lent, floor_in}
use Rattle.view.proofs.LinesView.{line_empty}

module _ (S W : List ℕ) (i j : ℕ) (P : Product) (C M T O : List ℕ) where
  abbrev F : Floor
  F = floor_in (lent P S C M W T O)

  pub wire_no_from : (head_in S).stations ≤ i → 8 ≡ refusal_if (limits_of P) F false (wire i j)
  unfolding refusal_if
  wire_no_from l = rw (le-leb (head_in S).stations i l) refl

  module _ (from : i < (head_in S).stations) where
    pub wire_no_to : (head_in S).stations ≤ j → 8 ≡ refusal_if (limits_of P) F false (wire i j)
    unfolding refusal_if
    wire_no_to l = rw (lt-leb (head_in S).stations i from, le-leb (head_in S).stations j l) refl

    module _ (to : j < (head_in S).stations) (few : (head_in S).stations ≤ 16) where
      line : is_empty (F.lines i j) ≡ eqb (length (records_on W (i * 16 + j))) 0
      line =
          let li : i < 16 = omega arith in
          let lj : j < 16 = omega arith in
          line_empty W i j li lj

      -- where the code saw that the line is empty, and where it is not
      pub wire_empty : true ≡ eqb (length (records_on W (i * 16 + j))) 0 → 15 ≡ refusal_if (limits_of P) F false (wire i j)
      unfolding refusal_if
      wire_empty e = rw (lt-leb (head_in S).stations i from, lt-leb (head_in S).stations j to, line ∙ sym e) refl

      pub wire_passes : false ≡ eqb (length (records_on W (i * 16 + j))) 0 → 0 ≡ refusal_if (limits_of P) F false (wire i j)
      unfolding refusal_if
      wire_passes e = rw (lt-leb (head_in S).stations i from, lt-leb (head_in S).stations j to, line ∙ sym e) refl
