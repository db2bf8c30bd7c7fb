-- `handoff::dock` meets its contract.
use mathlib.Core.Path.{refl, sym, ◌∙◌}
use native.Mathlib.Omega.{arith}
use borrow.Author.Rules.{rules}
use Rattle.stations.specs.View.{stations_in}
use Rattle.messages.specs.View.{rooms_in}
use Rattle.queue.specs.Rooms.{tables_floor}
use Rattle.catchup.proofs.NamingLaws.{naming_covers}
use Rattle.catchup.proofs.RowLaws.{rises_little, rise_is}
use Rattle.catchup.proofs.AllAtOnce.{found_below}
use Rattle.handoff.proofs.RiseLaws.{few_still}
use Rattle.handoff.proofs.dock.Goals as goal

-- no copy names the cart
pub dock_unnamed-requires : goal.dock_unnamed-requires
dock_unnamed-requires c =
    let n = c.rooms_naming-naming in
    let a = c.args in
    record {
      has_station = c.requires.has_station;
      by_index = c.requires.by_index;
      covers = naming_covers a.stations.now a.station.0 a.cart.0 _ c.requires.by_index_2 0 (sym c.if-naming-eq0.true ∙ n.ensures);
    }

pub returns-then-naming-eq0 : goal.returns-then-naming-eq0
returns-then-naming-eq0 c = c.dock_unnamed.ensures

-- some do
pub strike-ahead-requires : goal.strike-ahead-requires
strike-ahead-requires c =
    let a = c.args in
    record {
      covers = naming_covers a.stations.now a.station.0 a.cart.0 _ c.requires.by_index_2 c.rooms_naming-naming.result c.rooms_naming-naming.ensures;
      has_station = search rules;
    }

pub join-place-requires : goal.join-place-requires
join-place-requires c =
    let a = c.args in
    let S = c.strike-ahead.new.stations in
    let s = c.stops_of-stopped in
    record {
      rooms_below = (found_below (tables_floor S a.messages.now) a.station.0 a.cart.0 a.row s.result.nearest s.ensures.nearest_value _ (stations_in S) c.strike-ahead.result refl c.strike-ahead.ensures.covers_2, s.ensures.marks);
      has_station = (omega (arith, c.requires.has_station.0, c.strike-ahead.ensures.leaves.1.1), c.requires.has_station.1, c.requires.has_station.3);
    }

pub passed_over-requires : goal.passed_over-requires
passed_over-requires c =
    let a = c.args in
    let s = c.stops_of-stopped in
    let few = few_still (stations_in a.stations.now) (rooms_in a.messages.now) a.station.0 a.cart.0 a.row c.strike-ahead.ensures.leaves.0 c.requires.by_index in
    rises_little (tables_floor c.strike-ahead.new.stations a.messages.now) a.station.0 a.cart.0 a.row s.result.nearest s.ensures.nearest_value s.result.upto s.ensures.upto_value few

pub returns : goal.returns
returns c =
    let a = c.args in
    let k = c.strike-ahead in
    let s = c.stops_of-stopped in
    let p = c.passed_over in
    record {
      struck = k.new.stations;
      is_struck_lem = k.ensures.leaves.0;
      nearest = s.result.nearest;
      is_nearest = s.ensures.nearest_value;
      stations = c.join-place.ensures.leaves.0;
      head = c.join-place.ensures.leaves.1.0 ∙ k.ensures.leaves.1.0;
      table = c.join-place.ensures.leaves.1.1 ∙ k.ensures.leaves.1.1;
      caught_up_lem = s.ensures.upto_value;
      count = rise_is (tables_floor k.new.stations a.messages.now) a.station.0 a.cart.0 a.row s.result.nearest s.ensures.nearest_value s.result.upto s.ensures.upto_value p.result p.ensures;
      deepest = c.join-place.ensures.value;
    }
