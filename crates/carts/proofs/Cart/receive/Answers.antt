-- `carts::Cart::receive` meets its contract.
use mathlib.Core.Path.{◌≡◌, ap}
use native.Mathlib.Omega.{arith}
use lib.ListN.{length, set}
use borrow.Author.Rules.{rules}
use Rattle.carts.specs.Records.{number_after}
use Rattle.carts.proofs.StepLaws.{set_beyond}
use Rattle.carts.proofs.Cart.receive.Goals as goal

pub returns-then-s-lt-INITIATORS : goal.returns-then-s-lt-INITIATORS
returns-then-s-lt-INITIATORS c =
    let a = c.args in
    λ i. record { place = a.self.place; next = ap (set a.self.next a.initiator.0) c.number_after.ensures i; steady = a.self.steady }

pub returns-else-s-lt-INITIATORS : goal.returns-else-s-lt-INITIATORS
returns-else-s-lt-INITIATORS c =
    let a = c.args in
    let sixteen : length a.self.next ≡ 16 = search rules in
    λ i. record { place = a.self.place; next = set_beyond a.self.next a.initiator.0 (number_after a.n.0) (omega (arith, sixteen, c.if-s-lt-INITIATORS.false)) i; steady = a.self.steady }
