-- `training_stream::run_piece` meets its contract.
use mathlib.Core.Path.{sym, ap, ◌∙◌}
use native.Mathlib.Omega.{arith}
use lib.Seq.{length-take-le}
use Rattle.lists.specs.View.{lent_lists}
use Rattle.frame_stream.specs.Feed.{state_number}
use Rattle.frame_stream.proofs.Feeds.{part_length}
use Rattle.training_stream.proofs.Turns.{run_made, run_inside}
use Rattle.training_stream.proofs.run_piece.Goals as goal

pub slice_bounds-make_calls-count : goal.slice_bounds-make_calls-count
slice_bounds-make_calls-count g c = omega (arith, c.requires.inside.0.run)

pub slice_bounds-make_calls-start : goal.slice_bounds-make_calls-start
slice_bounds-make_calls-start g c = omega (arith, c.requires.inside.0.run, c.requires.inside.0.read)

pub slice_bounds-make_calls-end : goal.slice_bounds-make_calls-end
slice_bounds-make_calls-end g c = omega (arith, c.requires.inside.0.run, c.requires.inside.0.read)

pub make_calls-n-requires : goal.make_calls-n-requires
make_calls-n-requires g c =
    let ran = c.run_floor-p.ensures in
    record {
      lists_ready = (c.requires.ready.1, c.requires.ready.2, ran.gone.texts);
      width_in_bounds = (omega (arith, ran.gone.few, ran.calls_len_unchanged, c.requires.inside.5), omega (arith, ran.gone.few, c.requires.inside.4), omega (arith, ran.gone.few, c.requires.inside.2));
    }

pub slice_bounds-hand_on-end : goal.slice_bounds-hand_on-end
slice_bounds-hand_on-end g c =
    let m = c.make_calls-n.ensures in
    omega (arith, m.1, m.0.kept, c.run_floor-p.ensures.gone.few, c.requires.inside.4)

pub slice_bounds-hand_on-end-2 : goal.slice_bounds-hand_on-end-2
slice_bounds-hand_on-end-2 g c =
    let m = c.make_calls-n.ensures in
    sym (length-take-le _ _ (omega (arith, m.1, m.0.kept, c.run_floor-p.ensures.gone.few, c.requires.inside.4)))

pub after_run-requires : goal.after_run-requires
after_run-requires g c =
    let a = c.args in
    let gone = c.run_floor-p.ensures.gone in
    let part = part_length a.input.now a.f c.requires.inside.0 in
    (omega (arith, part, gone.inside, c.requires.inside.0.run, c.requires.inside.0.read, c.requires.inside.3), omega (arith, gone.few, c.requires.inside.2))

pub returns : goal.returns
returns g c =
    let a = c.args in
    let run = c.run_floor-p in
    let m = c.make_calls-n in
    let h = c.hand_on-handed in
    let r = c.after_run in
    let K = lent_lists a.counts.now a.sends.now a.octets.now in
    let size = h.ensures ∙ length-take-le _ m.new.output (omega (arith, m.ensures.1, m.ensures.0.kept, run.ensures.gone.few, c.requires.inside.4)) in
    record {
      ready_2 = (run.ensures.gone.ready, m.ensures.0.ready, run_made a.input.now a.floor.now run.new.floor _ a.output.now _ K _ a.f r.result run.result m.result h.result c.requires.inside.0 (ap state_number c.requires.inside.1) run.ensures.gone m.ensures.0 size r.ensures);
      inside_2 = run_inside a.input.now a.floor.now run.new.floor _ a.output.now _ K _ a.f r.result run.result m.result h.result c.requires.inside.0 (ap state_number c.requires.inside.1) run.ensures.gone m.ensures.0 size r.ensures;
      output_len_unchanged = (m.ensures.0.kept, run.ensures.calls_len_unchanged);
    }
