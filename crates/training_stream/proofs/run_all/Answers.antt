use mathlib.Core.Path.{refl, sym, ◌∙◌}
use native.Mathlib.Omega.{arith}
use Rattle.view.specs.View.{floor_in}
use mathlib.Core.Logic.{inl, inr}
use Rattle.frame_stream.proofs.Loop.{goes, goes_no_more, Stopped}
use Rattle.lists.proofs.Facts.{lengths_of}
use Rattle.training_stream.specs.Memory.{lent_in}
use Rattle.training_stream.proofs.Loop.{came_first, came_next, bench_ran}
use Rattle.training_stream.proofs.run_all.Goals.{else-loop-made-test, then-loop-made-test+then-not-goes_on}
use Rattle.training_stream.proofs.run_all.Goals as goal

pub loop-made-init : goal.loop-made-init
loop-made-init g c =
    let a = c.args in
    (c.requires.ready.0, c.requires.ready.1, came_first (floor_in (lent_in a.floor.now)) _ c.requires.octets_value.0, record { run = omega arith; read = omega arith; few = λ z. omega arith }, c.requires.octets_value.1, c.requires.octets_value.2, c.requires.octets_value.3)

pub turn-f-requires : goal.turn-f-requires
turn-f-requires g c =
    let l = c.loop-made in
    let g = goes _ l.f _ c.goes_on.ensures c.if-not-goes_on.false in
    let i = l.invariant in
    record {
      ready = (i.0, i.1, c.requires.ready.2);
      inside = (i.3, g.1, g.0, i.4, i.5, i.6);
    }

pub loop-made-preserved : goal.loop-made-preserved
loop-made-preserved g c =
    let l = c.loop-made in
    let i = l.invariant in
    let t = c.turn-f.ensures in
    (t.ready_2.0, t.ready_2.1, came_next (floor_in (lent_in c.args.floor.now)) _ _ _ _ _ l.made _ i.2 t.ready_2.2 refl, t.inside_2, t.input_len_unchanged.0 ∙ i.4, t.input_len_unchanged.1 ∙ i.5, t.input_len_unchanged.2 ∙ i.6)

pub overflow_sub-left : goal.overflow_sub-left
overflow_sub-left g c = omega (arith, c.loop-made.invariant.3.run)

pub shape_of-input : goal.shape_of-input
shape_of-input g c = c.loop-made.invariant.4 ∙ sym c.requires.octets_value.1

pub shape_of-output : goal.shape_of-output
shape_of-output g c = c.loop-made.invariant.5 ∙ sym c.requires.octets_value.2

pub shape_of-calls : goal.shape_of-calls
shape_of-calls g c = c.loop-made.invariant.6 ∙ sym c.requires.octets_value.3

pub shape_of-counts : goal.shape_of-counts
shape_of-counts g c = (lengths_of _ c.loop-made.invariant.1.lengths).counts ∙ sym (lengths_of _ c.requires.ready.1.lengths).counts

pub shape_of-sends : goal.shape_of-sends
shape_of-sends g c = (lengths_of _ c.loop-made.invariant.1.lengths).sends ∙ sym (lengths_of _ c.requires.ready.1.lengths).sends

pub shape_of-octets : goal.shape_of-octets
shape_of-octets g c = (lengths_of _ c.loop-made.invariant.1.lengths).octets ∙ sym (lengths_of _ c.requires.ready.1.lengths).octets

pub returns : goal.returns
returns g c =
    let l = c.loop-made in
    let stop : Stopped l.made l.f = elim c.loop-made-test.branch [
      | else-loop-made-test w ↦ inl (omega (arith, w.loop-made-test.false, l.auto.made-end))
      | then-loop-made-test+then-not-goes_on w ↦ inr (goes_no_more _ l.f _ w.goes_on.ensures w.if-not-goes_on.true (λ z. omega (arith, w.loop-made-test.true, l.auto.made-end)))
    ] in
    bench_ran (floor_in (lent_in c.args.floor.now)) l.floor l.input _ l.made l.f _ l.invariant.3 l.invariant.2 refl stop
