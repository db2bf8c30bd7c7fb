use mathlib.Core.Path.{◌≡◌}
use native.Mathlib.Omega.{arith}
use Rattle.messages.specs.View.{rooms_in}
use Rattle.store.proofs.Lowest.{best_start, best_take, best_skip, best_end}
use Rattle.store.proofs.lowest_from.Goals as goal
use Rattle.store.proofs.lowest_from.Goals.{then-begin-least, else-begin-least}

pub loop-m-init : goal.loop-m-init
loop-m-init c = let a = c.args in (omega arith, best_start a.held (rooms_in a.messages.now) a.from)

pub begin_from-begin-requires : goal.begin_from-begin-requires
begin_from-begin-requires c = omega arith

pub loop-m-preserved : goal.loop-m-preserved
loop-m-preserved c =
    let a = c.args in
    let R = rooms_in a.messages.now in
    let l = c.loop-m in
    let b = c.begin_from-begin in (
      omega arith,
      elim c.if-begin-least.branch [
        | then-begin-least w ↦ rw (w.least-is, w.room-is) (best_take a.held R a.from l.m l.least l.room b.result l.invariant.1 b.ensures w.if-begin-least.true)
        | else-begin-least w ↦ rw (w.least-is, w.room-is) (best_skip a.held R a.from l.m l.least l.room b.result l.invariant.1 b.ensures w.if-begin-least.false)
      ],
    )

pub returns : goal.returns
returns c =
    let a = c.args in
    let l = c.loop-m in
    let all : l.m ≡ a.held = omega arith in
    best_end a.held (rooms_in a.messages.now) a.from l.least l.room (rw all at l.invariant.1)
