-- `lines::push_held` meets its contract. It is a push to the pool with the held word released.
use native.Mathlib.Omega.{arith}
use Prim.Native.Nat.{◌+◌, ◌*◌}
use Rattle.sets.proofs.MaskLaws.{least_member}
use Rattle.lines.specs.Holding.{released}
use Rattle.lines.proofs.Holding.{held_taken, held_linkable, held_takable, held_fits, held_push}
use Rattle.lines.proofs.push_held.Goals as goal

pub link_at-at-requires : goal.link_at-at-requires
link_at-at-requires c = held_linkable c.args.pool.now c.args.held c.requires.held_value.0 c.requires.i_bound.2 (c.args.i * 16 + c.args.j) (omega arith)

pub length_of-n-requires : goal.length_of-n-requires
length_of-n-requires c = (held_linkable c.args.pool.now c.args.held c.requires.held_value.0 c.requires.i_bound.2 (c.args.i * 16 + c.args.j) (omega arith)).0

pub first-b-requires : goal.first-b-requires
first-b-requires c = (held_takable c.args.pool.now c.args.held c.requires.held_value.0 c.requires.i_bound.2 c.requires.held_value.1).2

pub without_first-requires : goal.without_first-requires
without_first-requires c = (held_takable c.args.pool.now c.args.held c.requires.held_value.0 c.requires.i_bound.2 c.requires.held_value.1).2

pub change_held-rest-requires : goal.change_held-rest-requires
change_held-rest-requires c =
    let z = held_takable c.args.pool.now c.args.held c.requires.held_value.0 c.requires.i_bound.2 c.requires.held_value.1 in
    (c.requires.i_bound.2, z.2, z.0, z.1)

pub overflow_add-held : goal.overflow_add-held
overflow_add-held c =
    let b = c.first-b in
    omega (arith, (least_member 64 _ b.result b.ensures).0)

pub join-requires : goal.join-requires
join-requires c =
    let at = c.link_at-at in
    let n = c.length_of-n in
    let b = c.first-b in
    let x = c.without_first in
    let h = c.change_held-rest in
    let z = held_takable c.args.pool.now c.args.held c.requires.held_value.0 c.requires.i_bound.2 c.requires.held_value.1 in
    let t = held_taken c.args.pool.now c.args.held x.result c.requires.i_bound.2 z.2 z.0 z.1
    (released h.new.pool h.result) b.result b.ensures (x.ensures b.result b.ensures) h.ensures.0 in
    held_fits c.args.pool.now c.args.held c.requires.held_value.0 c.requires.i_bound.2 h.new.pool h.result at.result
    (c.args.i * 16 + c.args.j) (c.args.held.at * 64 + b.result) n.result c.args.r (omega arith)
    t h.ensures.1 h.auto.pool n.ensures at.ensures

pub returns : goal.returns
returns c =
    let at = c.link_at-at in
    let n = c.length_of-n in
    let b = c.first-b in
    let x = c.without_first in
    let h = c.change_held-rest in
    let z = held_takable c.args.pool.now c.args.held c.requires.held_value.0 c.requires.i_bound.2 c.requires.held_value.1 in
    let t = held_taken c.args.pool.now c.args.held x.result c.requires.i_bound.2 z.2 z.0 z.1
    (released h.new.pool h.result) b.result b.ensures (x.ensures b.result b.ensures) h.ensures.0 in
    let l = c.join in
    held_push c.args.pool.now c.args.held c.requires.held_value.0 c.requires.i_bound.2 h.new.pool h.result at.result
    (c.args.i * 16 + c.args.j) (c.args.held.at * 64 + b.result) n.result c.args.r (omega arith)
    t h.ensures.1 h.auto.pool n.ensures at.ensures l.new.pool l.ensures
