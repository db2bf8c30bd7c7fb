use mathlib.Core.Path.{ap, sym, ◌∙◌}
use mathlib.Core.List.{[]}
use mathlib.Core.Option.{Option}
use Prim.Native.Nat.{ℕ}
use native.Mathlib.Omega.{arith}
use Rattle.std.specs.Prelude.{None, Some}
use Rattle.protocol.specs.Folds.{by_option}
use Rattle.protocol.proofs.Tests.{first_is, first_nowhere, by_eq}
use Rattle.list_rows.specs.Rows.{rows_in, waits}
use Rattle.list_rows.proofs.find_row.Goals as goal

pub returns-then-is_waiting : goal.returns-then-is_waiting
returns-then-is_waiting c octets =
    let a = c.args in
    let l = c.loop-row in
    sym (ap (λ (o : Option ℕ). by_option o None Some) (first_is a.used (λ r. waits a.station.0 a.cart.0 (rows_in a.sends.now octets r)) l.row c.loop-row-test.true (sym (c.is_waiting.ensures octets) ∙ c.if-is_waiting.true) l.invariant))

pub loop-row-preserved : goal.loop-row-preserved
loop-row-preserved c r h =
    let a = c.args in
    let l = c.loop-row in
    by_eq r l.row
    (λ q. ap (λ (n : ℕ). waits a.station.0 a.cart.0 (rows_in a.sends.now [] n)) q ∙ sym (c.is_waiting.ensures []) ∙ c.if-is_waiting.false)
    (λ q. l.invariant r (omega arith))

pub returns : goal.returns
returns c octets =
    let a = c.args in
    let l = c.loop-row in
    sym (ap (λ (o : Option ℕ). by_option o None Some) (first_nowhere a.used (λ r. waits a.station.0 a.cart.0 (rows_in a.sends.now octets r)) (λ r h. l.invariant r (omega arith))))
