-- `list_rows::is_waiting` meets its contract.
use mathlib.Core.Path.{ap, ◌∙◌}
use mathlib.Core.Bool.{Bool, ◌&&◌}
use lib.Dec.{eqb}
use Rattle.protocol.specs.CartSets.{has}
use Rattle.list_rows.specs.declared.Message.{Message}
use Rattle.list_rows.proofs.is_waiting.Goals as goal

pub returns-then-eq : goal.returns-then-eq
returns-then-eq c octets =
    let a = c.args in
    c.has.ensures
    ∙ ap (λ (b : Bool). b && has c.message_at-message.result.carts a.cart.0) c.if-eq.ensures
    ∙ ap (λ (m : Message). eqb a.station.0 m.initiator.0 && has m.carts a.cart.0) (c.message_at-message.ensures octets)

pub returns-else-eq : goal.returns-else-eq
returns-else-eq c octets =
    let a = c.args in
    c.if-eq.false
    ∙ ap (λ (b : Bool). b && has c.message_at-message.result.carts a.cart.0) c.if-eq.ensures
    ∙ ap (λ (m : Message). eqb a.station.0 m.initiator.0 && has m.carts a.cart.0) (c.message_at-message.ensures octets)
