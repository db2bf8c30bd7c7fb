-- `handoff::on_move` meets its contract.
use mathlib.Core.Path.{◌∙◌, subst}
use Rattle.lines.specs.declared.Record as word
use Rattle.lines.specs.Post.{Pushed}
use Prim.Native.Nat.{◌+◌, ◌*◌}
use Rattle.carts.specs.View.{carts_in}
use Rattle.carts.proofs.TableLaws.{next_beyond}
use Rattle.carts.proofs.StepLaws.{greet_step}
use Rattle.handoff.proofs.on_move.Goals as goal

pub returns : goal.returns
returns c =
    let a = c.args in
    let C = carts_in a.carts.now in
    let kept = c.put_cart.ensures in
    record {
      moved = record {
        carts = kept.carts_after ∙ greet_step C (next_beyond a.carts.now) a.number.0 c.cart_at-cart.result c.cart_at-cart.ensures a.old.0 a.to c.greet.result c.requires.has_row.2 c.greet.ensures;
        canonical = kept.carts_after_2;
        length = kept.carts_len_unchanged;
        lines = subst (λ (r : word.Record). Pushed a.lines.now c.push_back.new.pool (a.to.0 * 16 + a.old.0) r) c.deregister.ensures c.push_back.ensures;
      };
      value = c.putting.ensures;
    }
