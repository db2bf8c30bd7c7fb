use mathlib.Core.Path.{refl, sym}
use native.Mathlib.Omega.{arith}
use Rattle.dispatcher.specs.Busy.{busy}
use Rattle.dispatcher.proofs.Going.{chains_of, first_queues, running_first, still_due, same_stations, same_carts, same_messages, same_lines, turn_left, look_asks, watched_then, running_on, running_last}
use Rattle.dispatcher.proofs.run_until_quiet.Goals as goal

pub busy_lines-sources-requires : goal.busy_lines-sources-requires
busy_lines-sources-requires c =
    let a = c.args in
    (refl, chains_of c.requires.0.0 a.stations.now a.carts.now a.messages.now a.lines.now a.texts.now a.store.now c.requires.0.1)

pub queued_stations-queued-requires : goal.queued_stations-queued-requires
queued_stations-queued-requires c =
    let a = c.args in
    first_queues a.stations.now a.carts.now a.messages.now a.lines.now a.texts.now a.store.now a.buffer.now c.requires.0.0 c.requires.0.1

pub next_step-next-requires : goal.next_step-next-requires
next_step-next-requires c =
    let a = c.args in
    (record { floor = record { product = c.requires.0.0; lines = a.lines.now; texts = a.texts.now; store = a.store.now; passes = c.requires.0.1 }; busy = c.busy_lines-sources.ensures }, c.queued_stations-queued.ensures)

pub loop-next-init : goal.loop-next-init
loop-next-init c =
    let a = c.args in
    running_first a.stations.now a.carts.now a.messages.now a.lines.now a.texts.now a.store.now a.buffer.now _ _ _ c.busy_lines-sources.ensures c.queued_stations-queued.ensures c.next_step-next.ensures

pub take_step-records-requires : goal.take_step-records-requires
take_step-records-requires c =
    let a = c.args in
    let l = c.loop-next in
    ((c.requires.0.0, still_due a.stations.now a.carts.now a.messages.now a.lines.now a.texts.now a.store.now a.buffer.now l.stations l.carts l.messages l.lines l.buffer l.steps (busy l.targets l.pending.sources) l.pending.queued l.next l.invariant c.in-Some.step c.in-Some.is c.requires.0.0 c.requires.0.1), omega (arith, l.invariant.kept, c.requires.1))

pub slice_bounds-seen_after-end : goal.slice_bounds-seen_after-end
slice_bounds-seen_after-end c = sym c.loop-next.invariant.busy.shaped.size

pub seen_after-pending-requires : goal.seen_after-pending-requires
seen_after-pending-requires c =
    let a = c.args in
    let l = c.loop-next in
    let asks = look_asks a.stations.now a.carts.now a.messages.now a.lines.now a.texts.now a.store.now a.buffer.now l.stations l.carts l.messages l.lines l.buffer l.steps (busy l.targets l.pending.sources) l.pending.queued l.next l.invariant c.in-Some.step c.in-Some.is _ _ _ _ _ _ c.take_step-records.ensures c.requires.0.0 c.requires.0.1 in
    (l.invariant.busy.shaped.size, asks.0, asks.1)

pub overflow_add-steps : goal.overflow_add-steps
overflow_add-steps c =
    let a = c.args in
    let l = c.loop-next in
    omega (arith, turn_left a.stations.now a.carts.now a.messages.now a.lines.now a.texts.now a.store.now a.buffer.now l.stations l.carts l.messages l.lines l.buffer l.steps (busy l.targets l.pending.sources) l.pending.queued l.next l.invariant c.in-Some.step c.in-Some.is c.requires.0.0 c.requires.0.1)

pub next_step-next-requires-in-Some : goal.next_step-next-requires-in-Some
next_step-next-requires-in-Some c =
    let seen = c.seen_after-pending.ensures in
    let a = c.args in
    let l = c.loop-next in
    watched_then a.stations.now a.carts.now a.messages.now a.lines.now a.texts.now a.store.now a.buffer.now l.stations l.carts l.messages l.lines l.buffer l.steps (busy l.targets l.pending.sources) l.pending.queued l.next l.invariant c.in-Some.step c.in-Some.is
    _ _ _ _ _ _ c.take_step-records.ensures _ _ seen.sources_after seen.queued_value c.requires.0.0 c.requires.0.1

pub loop-next-smaller : goal.loop-next-smaller
loop-next-smaller c =
    let a = c.args in
    let l = c.loop-next in
    omega (arith, turn_left a.stations.now a.carts.now a.messages.now a.lines.now a.texts.now a.store.now a.buffer.now l.stations l.carts l.messages l.lines l.buffer l.steps (busy l.targets l.pending.sources) l.pending.queued l.next l.invariant c.in-Some.step c.in-Some.is c.requires.0.0 c.requires.0.1)

pub loop-next-preserved : goal.loop-next-preserved
loop-next-preserved c =
    let seen = c.seen_after-pending.ensures in
    let a = c.args in
    let l = c.loop-next in
    running_on a.stations.now a.carts.now a.messages.now a.lines.now a.texts.now a.store.now a.buffer.now l.stations l.carts l.messages l.lines l.buffer l.steps (busy l.targets l.pending.sources) l.pending.queued l.next l.invariant c.in-Some.step c.in-Some.is
    _ _ _ _ _ _ c.take_step-records.ensures _ _ seen.sources_after seen.queued_value c.requires.0.0 c.requires.0.1 c.requires.1 _ c.next_step-next-in-Some.ensures

pub shape_of-stations : goal.shape_of-stations
shape_of-stations c =
    let a = c.args in
    let l = c.loop-next in
    same_stations a.stations.now a.carts.now a.messages.now a.lines.now a.texts.now a.store.now a.buffer.now l.stations l.carts l.messages l.lines l.buffer l.steps (busy l.targets l.pending.sources) l.pending.queued l.next l.invariant c.requires.0.0 c.requires.0.1

pub shape_of-carts : goal.shape_of-carts
shape_of-carts c =
    let a = c.args in
    let l = c.loop-next in
    same_carts a.stations.now a.carts.now a.messages.now a.lines.now a.texts.now a.store.now a.buffer.now l.stations l.carts l.messages l.lines l.buffer l.steps (busy l.targets l.pending.sources) l.pending.queued l.next l.invariant c.requires.0.0 c.requires.0.1

pub shape_of-messages : goal.shape_of-messages
shape_of-messages c =
    let a = c.args in
    let l = c.loop-next in
    same_messages a.stations.now a.carts.now a.messages.now a.lines.now a.texts.now a.store.now a.buffer.now l.stations l.carts l.messages l.lines l.buffer l.steps (busy l.targets l.pending.sources) l.pending.queued l.next l.invariant c.requires.0.0 c.requires.0.1

pub shape_of-lines : goal.shape_of-lines
shape_of-lines c =
    let a = c.args in
    let l = c.loop-next in
    same_lines a.stations.now a.carts.now a.messages.now a.lines.now a.texts.now a.store.now a.buffer.now l.stations l.carts l.messages l.lines l.buffer l.steps (busy l.targets l.pending.sources) l.pending.queued l.next l.invariant c.requires.0.0 c.requires.0.1

pub shape_of-buffer : goal.shape_of-buffer
shape_of-buffer c = c.loop-next.invariant.kept

pub returns : goal.returns
returns c =
    let a = c.args in
    let l = c.loop-next in
    running_last a.stations.now a.carts.now a.messages.now a.lines.now a.texts.now a.store.now a.buffer.now l.stations l.carts l.messages l.lines l.buffer l.steps (busy l.targets l.pending.sources) l.pending.queued l.next l.invariant c.in_default.is
