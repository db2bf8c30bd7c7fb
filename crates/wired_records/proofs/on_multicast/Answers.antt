-- `wired_records::on_multicast` meets its contract.
use mathlib.Core.Path.{sym, ap, ◌∙◌, subst}
use Prim.Native.Nat.{ℕ}
use Rattle.protocol.specs.CartSets.{has}
use Rattle.stations.specs.View.{Stations}
use Rattle.view.specs.Records.{index_of, number_of}
use Rattle.wired_records.specs.Handled.{Buffered}
use Rattle.wired_records.proofs.on_multicast.Goals as goal

pub multicast_by_row-requires : goal.multicast_by_row-requires
multicast_by_row-requires c =
    let p = c.requires in
    let same = c.local_row-local.ensures.value in
    record {
      has_station = p.has_station;
      by_index = ((λ d h. p.by_index.0 d (ap (λ (x : ℕ). has x d) (sym same) ∙ h)), p.by_index.1, p.by_index.2, p.by_index.3, p.by_index.4);
    }

pub returns : goal.returns
returns c =
    let a = c.args in
    let r = c.multicast_by_row in
    let buffered = subst (λ (x : ℕ). Buffered a.stations.now r.new.stations a.carts.now r.new.carts a.messages.now x (index_of a.said.0) (number_of a.said.0) a.initiator.0 a.to.0 r.result.passed r.result.place) c.local_row-local.ensures.value r.ensures.buffered in
    record {
      buffered = buffered;
      value = r.ensures.value;
      stations_unchanged = ap (λ (X : Stations). X.local) buffered.stations.stations;
    }
