use mathlib.Core.Path.{refl, ap}
use native.Mathlib.Omega.{arith}
use Rattle.view.specs.View.{lent}
use Rattle.event_answers.specs.Met.{Ready}
use Rattle.frame_run.specs.Stops.{stop_number}
use Rattle.frame_run.proofs.Loop.{going_first, going_next, going_less, goes, stops, same_stations, same_carts, same_messages, same_lines, same_texts, same_store}
use Rattle.frame_run.proofs.take_frames.Goals as goal

pub loop-bounds-init : goal.loop-bounds-init
loop-bounds-init c =
    let a = c.args in
    λ P n R. going_first Ready a.input.now a.index a.last (lent P a.stations.now a.carts.now a.messages.now a.lines.now a.texts.now a.store.now) a.output.now R

pub goes_on-requires : goal.goes_on-requires
goes_on-requires c =
    let w = c.requires.can_run.0.1 in
    (c.loop-bounds.invariant w.0 w.1 w.2).within

pub overflow_add-index : goal.overflow_add-index
overflow_add-index c =
    let a = c.args in
    let w = c.requires.can_run.0.1 in
    let g = c.loop-bounds.invariant w.0 w.1 w.2 in
    let t = goes Ready a.input.now a.index a.last (lent w.0 a.stations.now a.carts.now a.messages.now a.lines.now a.texts.now a.store.now) a.output.now _ _ _ g _ c.goes_on.ensures c.loop-bounds-test.true in
    omega (arith, g.few (ap stop_number t.0), g.inside, c.requires.input_bound)

pub take_frame-p-requires : goal.take_frame-p-requires
take_frame-p-requires c =
    let a = c.args in
    let w = c.requires.can_run.0.1 in
    let g = c.loop-bounds.invariant w.0 w.1 w.2 in
    let t = goes Ready a.input.now a.index a.last (lent w.0 a.stations.now a.carts.now a.messages.now a.lines.now a.texts.now a.store.now) a.output.now _ _ _ g _ c.goes_on.ensures c.loop-bounds-test.true in
    record {
      can_run = (c.requires.can_run.0.0, (w.0, w.1, g.ready));
      state_value = (t.0, g.inside, t.1);
      frames_le_read = (g.few (ap stop_number t.0), omega (arith, c.requires.input_bound), c.requires.can_run.1);
    }

pub loop-bounds-smaller : goal.loop-bounds-smaller
loop-bounds-smaller c =
    let a = c.args in
    let w = c.requires.can_run.0.1 in
    let g = c.loop-bounds.invariant w.0 w.1 w.2 in
    let t = goes Ready a.input.now a.index a.last (lent w.0 a.stations.now a.carts.now a.messages.now a.lines.now a.texts.now a.store.now) a.output.now _ _ _ g _ c.goes_on.ensures c.loop-bounds-test.true in
    going_less Ready a.input.now a.index a.last (lent w.0 a.stations.now a.carts.now a.messages.now a.lines.now a.texts.now a.store.now) a.output.now _ _ _ g _ _ _ t.0 (c.take_frame-p.ensures w.0 w.1 g.ready)

pub loop-bounds-preserved : goal.loop-bounds-preserved
loop-bounds-preserved c =
    let a = c.args in
    λ P n R. going_next Ready a.input.now a.index a.last (lent P a.stations.now a.carts.now a.messages.now a.lines.now a.texts.now a.store.now) a.output.now _ _ _ (c.loop-bounds.invariant P n R) _ _ _ (c.take_frame-p.ensures P n (c.loop-bounds.invariant P n R).ready)

pub shape_of-output : goal.shape_of-output
shape_of-output c =
    let w = c.requires.can_run.0.1 in
    (c.loop-bounds.invariant w.0 w.1 w.2).kept

pub shape_of-stations : goal.shape_of-stations
shape_of-stations c =
    let a = c.args in
    let w = c.requires.can_run.0.1 in
    same_stations (lent w.0 a.stations.now a.carts.now a.messages.now a.lines.now a.texts.now a.store.now) _ w.2 (c.loop-bounds.invariant w.0 w.1 w.2).ready refl

pub shape_of-carts : goal.shape_of-carts
shape_of-carts c =
    let a = c.args in
    let w = c.requires.can_run.0.1 in
    same_carts (lent w.0 a.stations.now a.carts.now a.messages.now a.lines.now a.texts.now a.store.now) _ w.2 (c.loop-bounds.invariant w.0 w.1 w.2).ready refl

pub shape_of-messages : goal.shape_of-messages
shape_of-messages c =
    let a = c.args in
    let w = c.requires.can_run.0.1 in
    same_messages (lent w.0 a.stations.now a.carts.now a.messages.now a.lines.now a.texts.now a.store.now) _ w.2 (c.loop-bounds.invariant w.0 w.1 w.2).ready refl

pub shape_of-lines : goal.shape_of-lines
shape_of-lines c =
    let a = c.args in
    let w = c.requires.can_run.0.1 in
    same_lines (lent w.0 a.stations.now a.carts.now a.messages.now a.lines.now a.texts.now a.store.now) _ w.2 (c.loop-bounds.invariant w.0 w.1 w.2).ready refl

pub shape_of-texts : goal.shape_of-texts
shape_of-texts c =
    let a = c.args in
    let w = c.requires.can_run.0.1 in
    same_texts (lent w.0 a.stations.now a.carts.now a.messages.now a.lines.now a.texts.now a.store.now) _ w.2 (c.loop-bounds.invariant w.0 w.1 w.2).ready refl

pub shape_of-store : goal.shape_of-store
shape_of-store c =
    let a = c.args in
    let w = c.requires.can_run.0.1 in
    same_store (lent w.0 a.stations.now a.carts.now a.messages.now a.lines.now a.texts.now a.store.now) _ w.2 (c.loop-bounds.invariant w.0 w.1 w.2).ready refl

pub returns : goal.returns
returns c =
    let a = c.args in
    λ P n R. stops Ready a.input.now a.index a.last (lent P a.stations.now a.carts.now a.messages.now a.lines.now a.texts.now a.store.now) a.output.now _ _ _ (c.loop-bounds.invariant P n R) _ c.goes_on.ensures c.loop-bounds-test.false
