-- `wireless::raise_next` meets its contract.
use mathlib.Core.Path.{ap, ◌∙◌}
use native.Mathlib.Omega.{arith}
use Rattle.carts.specs.View.{carts_in, with_next}
use Rattle.carts.proofs.TableLaws.{next_beyond}
use Rattle.carts.proofs.StepLaws.{receive_entry}
use Rattle.wireless.proofs.raise_next.Goals as goal

pub returns : goal.returns
returns c =
    let a = c.args in
    let p = c.requires in
    let k = c.cart_at in
    let r = c.receive-cart in
    let kept = c.put_next.ensures in
    let risen = receive_entry (carts_in a.carts.now) (next_beyond a.carts.now) a.number.0 k.result k.ensures a.initiator a.n r.result p.1 (omega (arith, p.2)) r.ensures in
    record {
      value = risen;
      carts_after = kept.carts_after ∙ ap (with_next (carts_in a.carts.now) a.number.0 a.initiator.0) risen;
      carts_unchanged = kept.carts_unchanged;
      carts_len_unchanged = kept.carts_len_unchanged;
    }
