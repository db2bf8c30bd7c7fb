-- `carts::put_cart` meets its contract.
use mathlib.Core.Path.{ap, ◌∙◌}
use Rattle.carts.specs.View.{with_row}
use Rattle.carts.proofs.put_cart.Goals as goal

pub returns : goal.returns
returns c =
    let a = c.args in
    let p = c.put_place.ensures in
    let r = c.put_row.ensures in
    record {
      carts_after = r.carts_after ∙ ap (λ C. with_row C a.number.0 a.cart.next) p.carts_after;
      carts_after_2 = r.carts_unchanged ∙ p.carts_after_2;
      carts_len_unchanged = r.carts_len_unchanged ∙ p.carts_len_unchanged;
    }
