-- `exported_leaves::mekhturia_catch_up` meets its contract.
use mathlib.Core.Path.{◌∙◌, ap}
use mathlib.Core.List.{List}
use Prim.Native.Nat.{ℕ}
use borrow.Author.Rules.{rules}
use Rattle.queue.specs.Rooms.{tables_floor, room_count}
use Rattle.catchup.specs.Arrival.{risen}
use Rattle.catchup.proofs.NamingLaws.{naming_covers}
use Rattle.catchup.proofs.RowLaws.{rises_little, rise_is}
use Rattle.exported_leaves.specs.Passed.{passed_by}
use Rattle.exported_leaves.proofs.mekhturia_catch_up.Goals as goal

pub stops_of-stopped-requires : goal.stops_of-stopped-requires
stops_of-stopped-requires c =
    let a = c.args in
    let n = c.rooms_naming-naming in
    record {
      covers = naming_covers a.stations.now a.t a.c (room_count a.messages.now) c.requires.by_index_2 n.result n.ensures;
      has_station = search rules;
    }

pub passed_over-requires : goal.passed_over-requires
passed_over-requires c =
    let a = c.args in
    let r = c.row_of-row in
    let s = c.stops_of-stopped in
    rises_little (tables_floor a.stations.now a.messages.now) a.t a.c r.result s.result.nearest s.ensures.nearest_value s.result.upto s.ensures.upto_value c.requires.by_index

pub returns : goal.returns
returns c =
    let a = c.args in
    let F = tables_floor a.stations.now a.messages.now in
    let r = c.row_of-row in
    let s = c.stops_of-stopped in
    let p = c.passed_over in
    rise_is F a.t a.c r.result s.result.nearest s.ensures.nearest_value s.result.upto s.ensures.upto_value p.result p.ensures
    ∙ ap (λ (nearest : List ℕ). risen F a.t r.result nearest 16) s.ensures.nearest_value
    ∙ ap (passed_by F a.t a.c) r.ensures
