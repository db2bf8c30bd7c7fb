use native.Mathlib.Omega.{arith}
use Rattle.lines.specs.Holding.{released}
use Rattle.lines.proofs.Formed.{holdable}
use Rattle.lines.proofs.Holding.{length_released}
use Rattle.wired_lines.proofs.Turns.{to_none, to_one_more, all_turns}
use Rattle.wired_lines.proofs.push_to_every.Goals as goal

pub hold-held-requires : goal.hold-held-requires
hold-held-requires c = holdable c.args.lines.now c.requires.2

pub loop-to-init : goal.loop-to-init
loop-to-init c =
    let a = c.args in
    let h = c.hold-held.ensures in
    (omega arith, rw h.0 (to_none a.lines.now a.from.0 a.said c.requires.2), h.1)

pub push_held-held-requires : goal.push_held-held-requires
push_held-held-requires c =
    let i = c.loop-to.invariant in
    record {
      i_bound = (omega arith, omega arith, i.2);
      held_value = (i.1.formed, omega (arith, i.1.more, i.1.room));
    }

pub loop-to-preserved : goal.loop-to-preserved
loop-to-preserved c =
    let a = c.args in
    let l = c.loop-to in
    let p = c.push_held-held in (
      omega arith,
      to_one_more a.lines.now (released l.lines l.held) (released p.new.pool p.result) a.from.0 l.to a.said
          c.requires.0 (omega arith) l.invariant.1 p.ensures.0,
      p.ensures.1,
    )

pub release-requires : goal.release-requires
release-requires c =
    let l = c.loop-to in
    omega (arith, (holdable c.args.lines.now c.requires.2).0, length_released l.lines l.held, l.invariant.1.words, l.invariant.2.low)

pub shape_of-lines : goal.shape_of-lines
shape_of-lines c = let l = c.loop-to in omega (arith, length_released l.lines l.held, l.invariant.1.words)

pub returns : goal.returns
returns c =
    let a = c.args in
    let l = c.loop-to in
    rw c.release.ensures
    (all_turns a.lines.now (released l.lines l.held) a.from.0 l.to a.n a.said (omega arith) l.invariant.1)
