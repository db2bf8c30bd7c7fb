-- `frame_closing::hand_line` meets its contract.
use mathlib.Core.Path.{sym, ◌∙◌}
use native.Mathlib.Omega.{arith}
use lib.Seq.{length-take-le}
use Rattle.protocol.specs.Floor.{whole_floor}
use Rattle.view.specs.View.{lent, floor_in}
use Rattle.frame_closing.proofs.Lines.{no_line, one_line}
use mathlib.Core.Bool.{not}
use mathlib.Core.Path.{ap}
use Rattle.frame_closing.proofs.hand_line.Goals as goal

pub returns-then-not-at_end : goal.returns-then-not-at_end
returns-then-not-at_end g c =
    let a = c.args in
    let L = lent whole_floor a.stations.now a.carts.now a.messages.now a.lines.now a.texts.now a.store.now in
    no_line a.run (floor_in L) _ c.at_end.ensures a.line.now (ap not c.if-not-at_end.true)

pub slice_bounds-hand_on-end-2 : goal.slice_bounds-hand_on-end-2
slice_bounds-hand_on-end-2 g c =
    let t = c.put_line-n in
    sym (length-take-le _ t.new.line (omega (arith, t.ensures.few, t.ensures.kept, c.requires.1)))

pub returns : goal.returns
returns g c =
    let a = c.args in
    let L = lent whole_floor a.stations.now a.carts.now a.messages.now a.lines.now a.texts.now a.store.now in
    let t = c.put_line-n in
    let size = c.hand_on.ensures ∙ length-take-le _ t.new.line (omega (arith, t.ensures.few, t.ensures.kept, c.requires.1)) in
    one_line a.run (floor_in L) _ c.at_end.ensures a.line.now _ _ _ (ap not c.if-not-at_end.false) c.requires.1 c.put_line-n.ensures size
