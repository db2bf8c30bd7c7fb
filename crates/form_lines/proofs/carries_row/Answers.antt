use mathlib.Core.Path.{◌≡◌, refl, ap, ap₂, ◌∙◌}
use mathlib.Core.List.{List}
use Prim.Native.Nat.{ℕ}
use native.Mathlib.Omega.{arith}
use lib.Dec.{eqb}
use lib.ListN.{get_or}
use Rattle.protocol.specs.Folds.{every}
use Rattle.protocol.proofs.Tests.{list_of_at}
use Rattle.lines.specs.Lines.{registers_in}
use Rattle.carts.specs.View.{carts_in}
use Rattle.form_lines.proofs.PassLaws.{every_next}
use Rattle.form_lines.proofs.carries_row.Goals as goal

pub loop-s-init : goal.loop-s-init
unfolding every
loop-s-init c = (omega arith, refl)

pub loop-s-preserved : goal.loop-s-preserved
loop-s-preserved c =
    let a = c.args in
    let own = (carts_in a.carts.now).next a.cart.0 in
    let carried = registers_in a.lines.now a.cart.0 in
    let l = c.loop-s in
    let row = c.register_of-row in
    let n = c.next_of-next in
    let same = ap₂ eqb (ap (λ (r : List ℕ). get_or r l.s 0) row.ensures ∙ list_of_at 16 carried 0 l.s (omega arith)) n.ensures in
    (omega arith, every_next (λ t. eqb (carried t) (own t)) l.s l.ok (eqb (get_or row.result l.s 0) n.result) _ l.invariant.1 same refl)

pub returns : goal.returns
returns c =
    let a = c.args in
    let l = c.loop-s in
    let all : l.s ≡ 16 = omega arith in
    l.invariant.1 ∙ ap (λ (n : ℕ). every n (λ t. eqb (registers_in a.lines.now a.cart.0 t) ((carts_in a.carts.now).next a.cart.0 t))) all
