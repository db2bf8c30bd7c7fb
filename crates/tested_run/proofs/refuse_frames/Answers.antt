use mathlib.Core.Path.{ap}
use native.Mathlib.Omega.{arith}
use Rattle.view.specs.View.{Lent}
use Rattle.frame_run.specs.Stops.{stop_number}
use Rattle.frame_run.proofs.Loop.{Going, left, going_first, going_next, going_less, goes, stops}
use Rattle.tested_run.specs.Stuck.{Stuck}
use Rattle.tested_run.proofs.refuse_frames.Goals as goal

pub loop-output-init : goal.loop-output-init
loop-output-init c =
    let a = c.args in
    λ L s. going_first (Stuck a.lengths) a.input.now a.index a.last L a.output.now s

pub goes_on-requires : goal.goes_on-requires
goes_on-requires c =
    let w = c.requires.0 in
    (c.loop-output.invariant w.0 w.1).within

pub overflow_add-index : goal.overflow_add-index
overflow_add-index c =
    let a = c.args in
    let w = c.requires.0 in
    let g = c.loop-output.invariant w.0 w.1 in
    let t = goes (Stuck a.lengths) a.input.now a.index a.last w.0 a.output.now _ _ _ g _ c.goes_on.ensures c.loop-output-test.true in
    omega (arith, g.few (ap stop_number t.0), g.inside, c.requires.1)

pub refuse_frame-p-requires : goal.refuse_frame-p-requires
refuse_frame-p-requires c =
    let a = c.args in
    let w = c.requires.0 in
    let g = c.loop-output.invariant w.0 w.1 in
    let t = goes (Stuck a.lengths) a.input.now a.index a.last w.0 a.output.now _ _ _ g _ c.goes_on.ensures c.loop-output-test.true in
    record {
      state_value = (t.0, g.inside, t.1);
      frames_le_read = (g.few (ap stop_number t.0), omega (arith, c.requires.1));
    }

pub loop-output-smaller : goal.loop-output-smaller
loop-output-smaller c =
    let a = c.args in
    let w = c.requires.0 in
    let g = c.loop-output.invariant w.0 w.1 in
    let t = goes (Stuck a.lengths) a.input.now a.index a.last w.0 a.output.now _ _ _ g _ c.goes_on.ensures c.loop-output-test.true in
    going_less (Stuck a.lengths) a.input.now a.index a.last w.0 a.output.now _ _ _ g _ _ _ t.0 (c.refuse_frame-p.ensures.turned_on w.0 w.1)

pub loop-output-preserved : goal.loop-output-preserved
loop-output-preserved c =
    let a = c.args in
    λ L s. going_next (Stuck a.lengths) a.input.now a.index a.last L a.output.now _ _ _ (c.loop-output.invariant L s) _ _ _ (c.refuse_frame-p.ensures.turned_on L s)

pub shape_of-output : goal.shape_of-output
shape_of-output c =
    let w = c.requires.0 in
    (c.loop-output.invariant w.0 w.1).kept

pub returns : goal.returns
returns c =
    let a = c.args in
    let w = c.requires.0 in
    record {
      went_on = λ L s. stops (Stuck a.lengths) a.input.now a.index a.last L a.output.now _ _ _ (c.loop-output.invariant L s) _ c.goes_on.ensures c.loop-output-test.false;
      output_len_unchanged = (c.loop-output.invariant w.0 w.1).kept;
    }
