-- `carts::put_place` meets its contract.
use mathlib.Core.Path.{ap, ◌∙◌}
use Prim.Native.Nat.{ℕ}
use native.Mathlib.Omega.{arith}
use lib.ListN.{length-set}
use Rattle.protocol.specs.Folds.{update}
use Rattle.carts.specs.Words.{canonical_first}
use Rattle.carts.specs.Records.{seen}
use Rattle.carts.specs.View.{carts_in, canonical_in}
use Rattle.carts.proofs.TableLaws.{place_put, place_put_canonical, told_put, canonical_said}
use Rattle.carts.proofs.put_place.Goals as goal

pub bounds-carts-at-2 : goal.bounds-carts-at-2
bounds-carts-at-2 c = simp length-set (omega arith)

pub bounds-carts-at-3 : goal.bounds-carts-at-3
bounds-carts-at-3 c = simp length-set (omega arith)

pub returns : goal.returns
returns c =
    let a = c.args in
    let w = c.from-words.result in
    let kind = c.from-words.ensures in
    let first = c.first_word in
    let C = a.carts.now in
    let n = a.number.0 in
    record {
      carts_after = place_put C n first.result w.1 w.2 (omega arith)
          ∙ told_put (carts_in C) n w.0 w.1 w.2 kind.2 a.steady first.result first.ensures (seen a.place) kind.0;
      carts_after_2 = place_put_canonical C n first.result w.1 w.2 (omega arith)
          ∙ ap (update (canonical_in C) n) (ap (λ (x : ℕ). canonical_first x w.1 w.2) first.ensures ∙ canonical_said w.0 kind.2 a.steady w.1 w.2 kind.1);
      carts_len_unchanged = simp length-set;
    }
