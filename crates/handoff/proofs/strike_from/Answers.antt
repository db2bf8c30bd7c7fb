-- `handoff::strike_from` meets its contract.
use mathlib.Core.Path.{refl, ap, ◌∙◌}
use Prim.Native.Nat.{ℕ}
use borrow.Author.Tests.{not-true, not-false}
use Rattle.protocol.specs.CartSets.{without}
use Rattle.stations.specs.View.{stations_in}
use Rattle.messages.specs.View.{rooms_in}
use Rattle.handoff.proofs.PassedLaws.{is_struck_lem, is_kept, struck_covers}
use mathlib.Core.Bool.{not}
use Rattle.handoff.proofs.strike_from.Goals as goal

-- nothing is written
pub returns-then-not-is_passed : goal.returns-then-not-is_passed
returns-then-not-is_passed c =
    let a = c.args in
    let p = c.is_passed in
    let kept = is_kept (stations_in a.stations.now) (rooms_in a.messages.now) a.station.0 a.cart.0 a.m a.next p.result p.ensures (not-true _ (ap not c.if-not-is_passed.true)) in
    record {
      leaves = (kept, (refl, refl));
      covers = c.requires.initiator_value.1;
    }

pub returns : goal.returns
returns c =
    let a = c.args in
    let S = stations_in a.stations.now in
    let w = c.without_member-copy in
    let put = c.put_copy.ensures in
    let struck =
    is_struck_lem S (rooms_in a.messages.now) a.station.0 a.cart.0 a.m a.next c.copy_of.result w.result c.is_passed.result c.is_passed.ensures
    (not-false _ (ap not c.if-not-is_passed.false)) c.copy_of.ensures w.ensures put.0 in
    record {
      leaves = (struck, (put.1.0, put.1.1));
      covers = struck_covers S a.station.0 a.cart.0 a.m a.naming w.result _ c.requires.initiator_value.1 (w.ensures ∙ ap (λ (x : ℕ). without x a.cart.0) c.copy_of.ensures) put.0 c.without_member.ensures;
    }
