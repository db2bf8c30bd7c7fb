-- `handoff::tell` meets its contract.
use mathlib.Core.Path.{◌∙◌}
use Rattle.carts.specs.View.{carts_in}
use Rattle.carts.proofs.TableLaws.{next_beyond}
use Rattle.carts.proofs.StepLaws.{told_step}
use Rattle.handoff.proofs.tell.Goals as goal

pub returns : goal.returns
returns c =
    let a = c.args in
    let record_of = c.cart_at-cart in
    let told = c.told in
    let kept = c.put_cart.ensures in
    record {
      carts = kept.carts_after ∙ told_step (carts_in a.carts.now) (next_beyond a.carts.now) a.number.0 record_of.result record_of.ensures a.steady told.result told.ensures;
      canonical = kept.carts_after_2;
      length = kept.carts_len_unchanged;
    }
