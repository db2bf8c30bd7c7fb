-- `handoff::on_register` meets its contract.
use mathlib.Core.Path.{◌∙◌}
use Prim.Native.Nat.{ℕ}
use Rattle.carts.specs.View.{carts_in}
use Rattle.carts.proofs.TableLaws.{next_beyond}
use Rattle.carts.proofs.StepLaws.{arrive_step}
use Rattle.reports.proofs.Effects.{only_queues}
use Rattle.handoff.specs.Arrived.{Arrived}
use Rattle.handoff.proofs.on_register.Goals as goal

pub returns : goal.returns
returns c =
    let a = c.args in
    let d = c.dock-caught in
    let record_of = c.cart_at-cart in
    let k = c.arrive in
    let kept = c.put_cart.ensures in
    let whole = only_queues (λ (p q : ℕ). Arrived a.stations.now d.new.stations a.carts.now c.put_cart.new.carts a.messages.now a.station.0 a.number.0 a.row p q)
    c.queueing.result d.result.passed d.result.place
    (record {
      upto = d.result.row;
      docked = d.ensures;
      carts = kept.carts_after ∙ arrive_step (carts_in a.carts.now) (next_beyond a.carts.now) a.number.0 record_of.result record_of.ensures a.station d.result.row k.result k.ensures;
      canonical = kept.carts_after_2;
      length = kept.carts_len_unchanged;
    })
    c.queueing.ensures in
    record { arrived = whole.0; value = whole.1 }
