use mathlib.Core.Path.{refl, sym, ◌∙◌}
use native.Mathlib.Omega.{arith}
use Rattle.view.specs.View.{lent, floor_in}
use Rattle.frame_run.proofs.Loop.{same_stations, same_carts, same_messages, same_lines, same_texts, same_store}
use mathlib.Core.Logic.{inl, inr}
use Rattle.frame_stream.proofs.Loop.{came_first, came_next, goes, goes_no_more, Stopped, ran_all}
use Rattle.frame_stream.proofs.run_all.Goals.{else-loop-made-test, then-loop-made-test+then-not-goes_on}
use Rattle.frame_stream.proofs.run_all.Goals as goal

pub loop-made-init : goal.loop-made-init
loop-made-init g c =
    let a = c.args in
    (λ P n R. (R, came_first P (floor_in (lent P a.stations.now a.carts.now a.messages.now a.lines.now a.texts.now a.store.now))), record { run = omega arith; read = omega arith; few = λ z. omega arith }, c.requires.2, c.requires.3)

pub turn-f-requires : goal.turn-f-requires
turn-f-requires g c =
    let l = c.loop-made in
    let g = goes _ l.f _ c.goes_on.ensures c.if-not-goes_on.false in
    let i = l.invariant in
    let w = c.requires.0.1 in
    record {
      can_run = ((c.requires.0.0, (w.0, w.1, (i.0 w.0 w.1 w.2).0)), c.requires.1);
      inside = (i.1, g.1, g.0, i.2, i.3);
    }

pub loop-made-preserved : goal.loop-made-preserved
loop-made-preserved g c =
    let l = c.loop-made in
    let g = goes _ l.f _ c.goes_on.ensures c.if-not-goes_on.false in
    let i = l.invariant in
    let t = c.turn-f.ensures in
    (λ P n R. (let x = i.0 P n R in let y = t.by_each P n x.0 in (y.0, came_next P _ _ _ _ l.made _ x.1 y.1 refl)), t.inside_2, t.input_len_unchanged.0 ∙ i.2, t.input_len_unchanged.1 ∙ i.3)

pub overflow_sub-left : goal.overflow_sub-left
overflow_sub-left g c = omega (arith, c.loop-made.invariant.1.run)

pub shape_of-input : goal.shape_of-input
shape_of-input g c = c.loop-made.invariant.2 ∙ sym c.requires.2

pub shape_of-output : goal.shape_of-output
shape_of-output g c = c.loop-made.invariant.3 ∙ sym c.requires.3

pub shape_of-stations : goal.shape_of-stations
shape_of-stations g c =
    let a = c.args in
    let w = c.requires.0.1 in
    same_stations (lent w.0 a.stations.now a.carts.now a.messages.now a.lines.now a.texts.now a.store.now) _ w.2 (c.loop-made.invariant.0 w.0 w.1 w.2).0 refl

pub shape_of-carts : goal.shape_of-carts
shape_of-carts g c =
    let a = c.args in
    let w = c.requires.0.1 in
    same_carts (lent w.0 a.stations.now a.carts.now a.messages.now a.lines.now a.texts.now a.store.now) _ w.2 (c.loop-made.invariant.0 w.0 w.1 w.2).0 refl

pub shape_of-messages : goal.shape_of-messages
shape_of-messages g c =
    let a = c.args in
    let w = c.requires.0.1 in
    same_messages (lent w.0 a.stations.now a.carts.now a.messages.now a.lines.now a.texts.now a.store.now) _ w.2 (c.loop-made.invariant.0 w.0 w.1 w.2).0 refl

pub shape_of-lines : goal.shape_of-lines
shape_of-lines g c =
    let a = c.args in
    let w = c.requires.0.1 in
    same_lines (lent w.0 a.stations.now a.carts.now a.messages.now a.lines.now a.texts.now a.store.now) _ w.2 (c.loop-made.invariant.0 w.0 w.1 w.2).0 refl

pub shape_of-texts : goal.shape_of-texts
shape_of-texts g c =
    let a = c.args in
    let w = c.requires.0.1 in
    same_texts (lent w.0 a.stations.now a.carts.now a.messages.now a.lines.now a.texts.now a.store.now) _ w.2 (c.loop-made.invariant.0 w.0 w.1 w.2).0 refl

pub shape_of-store : goal.shape_of-store
shape_of-store g c =
    let a = c.args in
    let w = c.requires.0.1 in
    same_store (lent w.0 a.stations.now a.carts.now a.messages.now a.lines.now a.texts.now a.store.now) _ w.2 (c.loop-made.invariant.0 w.0 w.1 w.2).0 refl

pub returns : goal.returns
returns g c =
    let l = c.loop-made in
    let stop : Stopped l.made l.f = elim c.loop-made-test.branch [
      | else-loop-made-test w ↦ inl (omega (arith, w.loop-made-test.false, l.auto.made-end))
      | then-loop-made-test+then-not-goes_on w ↦ inr (goes_no_more _ l.f _ w.goes_on.ensures w.if-not-goes_on.true (λ z. omega (arith, w.loop-made-test.true, l.auto.made-end)))
    ] in
    λ P n R. ran_all _ _ l.input l.made l.f _ (l.invariant.0 P n R).0 l.invariant.1 (l.invariant.0 P n R).1 refl stop
