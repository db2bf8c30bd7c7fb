-- `dispatcher::seen_after` meets its contract.
use mathlib.Core.Path.{◌∙◌}
use Rattle.view.specs.Records.{lines_in}
use Rattle.dispatcher.proofs.StepLaws.{wire_places, wire_seen, wire_queue_seen, radio_places, radio_seen, radio_queue_seen}
use Rattle.dispatcher.proofs.seen_after.Goals as goal

pub taken_off-left-requires : goal.taken_off-left-requires
taken_off-left-requires c =
    let a = c.args in
    let there = wire_places a.step c.in-Wire.from c.in-Wire.to c.in-Wire.is a.stations.now c.requires.2 in
    (there.0, there.1, c.requires.0, c.requires.1)

pub renewed-sources-requires : goal.renewed-sources-requires
renewed-sources-requires c =
    let a = c.args in
    let there = wire_places a.step c.in-Wire.from c.in-Wire.to c.in-Wire.is a.stations.now c.requires.2 in
    (there.1, c.taken_off-left.auto.targets ∙ c.requires.0, c.requires.1)

pub queue_seen-queued-requires : goal.queue_seen-queued-requires
queue_seen-queued-requires c =
    let a = c.args in
    let there = wire_places a.step c.in-Wire.from c.in-Wire.to c.in-Wire.is a.stations.now c.requires.2 in
    (there.2, there.1)

pub renewed-sources-requires-in-Radio : goal.renewed-sources-requires-in-Radio
renewed-sources-requires-in-Radio c =
    let a = c.args in
    let there = radio_places a.step c.in-Radio.station c.in-Radio.field-1 c.in-Radio.is a.stations.now c.requires.2 in
    (there.0, c.requires.0, c.requires.1)

pub queue_seen-queued-requires-in-Radio : goal.queue_seen-queued-requires-in-Radio
queue_seen-queued-requires-in-Radio c =
    let a = c.args in
    let there = radio_places a.step c.in-Radio.station c.in-Radio.field-1 c.in-Radio.is a.stations.now c.requires.2 in
    (there.1, there.0)

pub returns-in-Wire : goal.returns-in-Wire
returns-in-Wire c =
    let a = c.args in
    record {
      sources_after = wire_seen a.step c.in-Wire.from c.in-Wire.to c.in-Wire.is (lines_in a.lines.now) _ _ _ a.records c.taken_off-left.ensures c.renewed-sources.ensures;
      queued_value = wire_queue_seen a.step c.in-Wire.from c.in-Wire.to c.in-Wire.is a.stations.now _ _ c.queue_seen-queued.ensures;
    }

pub returns-in-Radio : goal.returns-in-Radio
returns-in-Radio c =
    let a = c.args in
    record {
      sources_after = radio_seen a.step c.in-Radio.station c.in-Radio.field-1 c.in-Radio.is (lines_in a.lines.now) _ _ a.records c.renewed-sources-in-Radio.ensures;
      queued_value = radio_queue_seen a.step c.in-Radio.station c.in-Radio.field-1 c.in-Radio.is a.stations.now _ _ c.queue_seen-queued-in-Radio.ensures;
    }
