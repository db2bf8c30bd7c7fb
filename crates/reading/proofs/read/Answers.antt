-- `reading::read` meets its contract.
use mathlib.Core.List.{[]}
use Rattle.protocol.specs.Floor.{is_message}
use Rattle.form_tables.specs.Tables.{tables}
use Rattle.reading.proofs.PartLaws.{read_no_station, read_not_held, read_held, part_asks}
use Rattle.reading.proofs.read.Goals as goal

pub returns-then-station_count-initiator : goal.returns-then-station_count-initiator
returns-then-station_count-initiator c =
    let a = c.args in
    λ P C W T O rooms passes.
    read_no_station P a.stations.now C a.messages.now W T O a.initiator.0 a.number.0 passes _ c.station_count.ensures c.if-station_count-initiator.true

pub returns-in_default : goal.returns-in_default
returns-in_default c =
    let a = c.args in
    λ P C W T O rooms passes.
    read_not_held P a.stations.now C a.messages.now W T O a.initiator.0 a.number.0 passes a.held _ c.station_count.ensures c.if-station_count-initiator.false rooms _ c.room_of.ensures c.in_default.is

pub part_of-requires : goal.part_of-requires
part_of-requires c =
    let a = c.args in
    part_asks a.held (is_message (tables [] [] a.messages.now) a.initiator.0 a.number.0) a.messages.now _ c.in-Some.m c.requires.1 c.requires.2 c.room_of.ensures c.in-Some.is

pub returns : goal.returns
returns c =
    let a = c.args in
    λ P C W T O rooms passes.
    read_held P a.stations.now C a.messages.now W T O a.initiator.0 a.number.0 passes a.held _ c.station_count.ensures c.if-station_count-initiator.false rooms _ c.room_of.ensures c.in-Some.m c.in-Some.is _ c.part_of.ensures
