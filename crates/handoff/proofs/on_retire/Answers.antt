-- `handoff::on_retire` meets its contract.
use mathlib.Core.Path.{◌≡◌, ap, ◌∙◌}
use Prim.Native.Nat.{ℕ}
use Rattle.protocol.specs.CartSets.{without}
use Rattle.stations.specs.View.{Head, stations_in, with_local, groups_without}
use Rattle.carts.specs.View.{carts_in}
use Rattle.carts.proofs.TableLaws.{next_beyond}
use Rattle.carts.proofs.StepLaws.{retire_step}
use Rattle.handoff.proofs.on_retire.Goals as goal

pub returns : goal.returns
returns c =
    let a = c.args in
    let S = stations_in a.stations.now in
    let record_of = c.cart_at-cart in
    let gone = c.retire in
    let kept = c.put_cart.ensures in
    let l = c.local_of in
    let w = c.without_member-local in
    let p = c.put_local.ensures in
    let g = c.leave_groups.ensures in
    let local : w.result ≡ without (S.local a.station.0) a.number.0 = w.ensures ∙ ap (λ (x : ℕ). without x a.number.0) l.ensures in
    record {
      retired = record {
        stations = g.stations_unchanged ∙ p.0 ∙ ap (λ (x : ℕ). with_local S a.station.0 x) local;
        head = g.stations_after ∙ ap (λ (H : Head). groups_without H a.number.0) p.1.0;
        table = g.stations_len_unchanged ∙ p.1.1;
        carts = kept.carts_after ∙ retire_step (carts_in a.carts.now) (next_beyond a.carts.now) a.number.0 record_of.result record_of.ensures gone.result gone.ensures;
        canonical = kept.carts_after_2;
        length = kept.carts_len_unchanged;
      };
      value = c.nothing.ensures;
    }
