use native.Mathlib.Omega.{arith}
use Rattle.store.proofs.Turns.{first_turn, turns_room, turns_down, turns_within, turns_long, next_turn, last_turn}
use Rattle.store.proofs.move_together.Goals as goal

pub loop-m-init : goal.loop-m-init
loop-m-init c =
    let a = c.args in
    first_turn a.held a.messages.now a.store.now c.requires.0 c.requires.1

pub offset_of-from-requires : goal.offset_of-from-requires
offset_of-from-requires c =
    let a = c.args in
    let l = c.loop-m in
    omega (arith, c.requires.0.rows, l.invariant.rows, turns_room a.held a.messages.now a.store.now c.requires.0 c.requires.1 l.messages l.store l.to l.invariant c.in-Some.m c.in-Some.ensures)

pub length_of-n-requires : goal.length_of-n-requires
length_of-n-requires c =
    let a = c.args in
    let l = c.loop-m in
    omega (arith, c.requires.0.rows, l.invariant.rows, turns_room a.held a.messages.now a.store.now c.requires.0 c.requires.1 l.messages l.store l.to l.invariant c.in-Some.m c.in-Some.ensures)

pub move_down-requires : goal.move_down-requires
move_down-requires c =
    let a = c.args in
    let L = c.requires.0 in
    let full = c.requires.1 in
    let l = c.loop-m in
    let full_now = l.invariant.progress.octets in
    (turns_down a.held a.messages.now a.store.now L full l.messages l.store l.to l.invariant c.in-Some.m c.in-Some.ensures c.offset_of-from.result c.length_of-n.result c.offset_of-from.ensures c.length_of-n.ensures, omega (arith, turns_within a.held a.messages.now a.store.now L full l.messages l.store l.to l.invariant c.in-Some.m c.in-Some.ensures c.offset_of-from.result c.length_of-n.result c.offset_of-from.ensures c.length_of-n.ensures, full_now, full))

pub put_offset-requires : goal.put_offset-requires
put_offset-requires c =
    let a = c.args in
    let l = c.loop-m in
    omega (arith, c.requires.0.rows, l.invariant.rows, turns_room a.held a.messages.now a.store.now c.requires.0 c.requires.1 l.messages l.store l.to l.invariant c.in-Some.m c.in-Some.ensures)

pub overflow_add-to : goal.overflow_add-to
overflow_add-to c =
    let a = c.args in
    let L = c.requires.0 in
    let full = c.requires.1 in
    let l = c.loop-m in
    omega (arith, turns_down a.held a.messages.now a.store.now L full l.messages l.store l.to l.invariant c.in-Some.m c.in-Some.ensures c.offset_of-from.result c.length_of-n.result c.offset_of-from.ensures c.length_of-n.ensures, turns_within a.held a.messages.now a.store.now L full l.messages l.store l.to l.invariant c.in-Some.m c.in-Some.ensures c.offset_of-from.result c.length_of-n.result c.offset_of-from.ensures c.length_of-n.ensures)

pub loop-m-smaller : goal.loop-m-smaller
loop-m-smaller c =
    let a = c.args in
    let L = c.requires.0 in
    let full = c.requires.1 in
    let l = c.loop-m in
    omega (arith, turns_down a.held a.messages.now a.store.now L full l.messages l.store l.to l.invariant c.in-Some.m c.in-Some.ensures c.offset_of-from.result c.length_of-n.result c.offset_of-from.ensures c.length_of-n.ensures, turns_within a.held a.messages.now a.store.now L full l.messages l.store l.to l.invariant c.in-Some.m c.in-Some.ensures c.offset_of-from.result c.length_of-n.result c.offset_of-from.ensures c.length_of-n.ensures, turns_long a.held a.messages.now a.store.now L full l.messages l.store l.to l.invariant c.in-Some.m c.in-Some.ensures c.offset_of-from.result c.length_of-n.result c.offset_of-from.ensures c.length_of-n.ensures)

pub loop-m-preserved : goal.loop-m-preserved
loop-m-preserved c =
    let a = c.args in
    let L = c.requires.0 in
    let full = c.requires.1 in
    let l = c.loop-m in
    next_turn a.held a.messages.now a.store.now L full l.messages l.store l.to l.invariant c.in-Some.m c.in-Some.ensures c.offset_of-from.result c.length_of-n.result c.offset_of-from.ensures c.length_of-n.ensures _ _ c.put_offset.ensures.messages_after c.move_down.ensures.store_after c.put_offset.ensures.messages_len_unchanged

pub returns : goal.returns
returns c =
    let a = c.args in
    let L = c.requires.0 in
    let full = c.requires.1 in
    let l = c.loop-m in
    let whole = last_turn a.held a.messages.now a.store.now L full l.messages l.store l.to l.invariant c.in_default.ensures in
    record { value = whole.0; moved = whole.1 }
