use mathlib.Core.Path.{refl, ap, sym, ◌∙◌}
use Prim.Native.Nat.{◌≤◌}
use native.Mathlib.Omega.{arith}
use native.Mathlib.Numerals.{add-one}
use Rattle.list_rows.specs.Rows.{Row, Used, rows_in, keep_row, squeezed}
use Rattle.list_rows.proofs.ListLaws.{squeezed_used, squeezed_rest}
use borrow.Author.Rules.{rules}
use Rattle.list_rows.proofs.squeeze.Goals as goal

pub loop-from-init : goal.loop-from-init
unfolding squeezed
loop-from-init c = (omega arith, refl, refl, refl)

pub keep_row-kept-requires : goal.keep_row-kept-requires
keep_row-kept-requires c =
    let l = c.loop-from in
    let T = rows_in c.args.sends.now c.args.octets.now in
    let low : l.kept ≤ l.from = rw (ap (λ (U : Used). U.used) l.invariant.3) (squeezed_used T l.from) in
    let same = ap (λ (U : Used). (U.rows l.from).size) l.invariant.3 ∙ ap (λ (x : Row). x.size) (squeezed_rest T l.from l.from (omega arith)) in
    let small = c.requires.2 l.from c.loop-from-test.true in
    (omega arith, omega arith, low, omega arith)

pub loop-from-preserved : goal.loop-from-preserved
unfolding squeezed
loop-from-preserved c =
    let l = c.loop-from in
    let T = rows_in c.args.sends.now c.args.octets.now in
    (omega arith, search rules, search rules, c.keep_row-kept.ensures.result_after ∙ ap (λ (U : Used). keep_row U l.from) l.invariant.3 ∙ sym (ap (squeezed T) (add-one l.from)))
