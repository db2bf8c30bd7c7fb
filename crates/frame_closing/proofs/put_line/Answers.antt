-- `frame_closing::put_line` meets its contract.
use mathlib.Core.Path.{◌∙◌}
use native.Mathlib.Omega.{arith}
use Rattle.protocol.specs.Floor.{whole_floor}
use Rattle.view.specs.View.{lent}
use Rattle.view.proofs.Lengths.{lengths_of}
use Rattle.event_answers.proofs.Readies.{has_head, started_passes}
use Rattle.frame_closing.proofs.Lines.{wrote_refused, wrote_quiet}
use mathlib.Core.Bool.{not}
use mathlib.Core.Path.{ap}
use Rattle.frame_closing.proofs.put_line.Goals as goal

pub is_started-requires : goal.is_started-requires
is_started-requires c =
    let a = c.args in
    let L = lent whole_floor a.stations.now a.carts.now a.messages.now a.lines.now a.texts.now a.store.now in
    has_head L c.requires.0

pub returns-then-not-is_started : goal.returns-then-not-is_started
returns-then-not-is_started c =
    let a = c.args in
    let L = lent whole_floor a.stations.now a.carts.now a.messages.now a.lines.now a.texts.now a.store.now in
    wrote_refused L _ c.is_started.ensures (ap not c.if-not-is_started.true) c.put_refused.ensures

pub run_until_quiet-steps-requires : goal.run_until_quiet-steps-requires
run_until_quiet-steps-requires c =
    let a = c.args in
    let L = lent whole_floor a.stations.now a.carts.now a.messages.now a.lines.now a.texts.now a.store.now in
    ((whole_floor, started_passes L _ c.is_started.ensures c.requires.0 (ap not c.if-not-is_started.false)), omega arith)

pub held_messages-requires : goal.held_messages-requires
held_messages-requires c =
    let a = c.args in
    let L = lent whole_floor a.stations.now a.carts.now a.messages.now a.lines.now a.texts.now a.store.now in
    c.run_until_quiet-steps.auto.messages ∙ (lengths_of L c.requires.0.lengths).messages

pub returns : goal.returns
returns c =
    let a = c.args in
    let L = lent whole_floor a.stations.now a.carts.now a.messages.now a.lines.now a.texts.now a.store.now in
    let passes = started_passes L _ c.is_started.ensures c.requires.0 (ap not c.if-not-is_started.false) in
    let q = c.run_until_quiet-steps.ensures whole_floor passes in
    wrote_quiet L _ _ _ passes q.count q.floor c.held_messages.ensures c.put_steps.ensures
