-- `frame_stream::run_piece` meets its contract.
use mathlib.Core.Path.{sym, ap, ◌∙◌}
use native.Mathlib.Omega.{arith}
use lib.Seq.{length-take-le}
use Rattle.view.specs.View.{lent}
use Rattle.frame_stream.specs.Feed.{state_number}
use Rattle.frame_stream.proofs.Feeds.{part_length, run_made, run_inside}
use Rattle.frame_stream.proofs.run_piece.Goals as goal

pub take_frames-p-requires : goal.take_frames-p-requires
take_frames-p-requires g c =
    let a = c.args in
    let part = part_length a.input.now a.f c.requires.inside.0 in
    record {
      can_run = c.requires.can_run;
      input_bound = omega (arith, part, c.requires.inside.0.run, c.requires.inside.0.read, c.requires.inside.2, c.requires.inside.3);
    }

pub slice_bounds-hand_on-end : goal.slice_bounds-hand_on-end
slice_bounds-hand_on-end g c =
    let q = c.requires.can_run.0.1 in
    let w = c.take_frames-p.ensures q.0 q.1 q.2 in
    omega (arith, w.within, w.kept)

pub slice_bounds-hand_on-end-2 : goal.slice_bounds-hand_on-end-2
slice_bounds-hand_on-end-2 g c =
    let t = c.take_frames-p in
    let q = c.requires.can_run.0.1 in
    let w = t.ensures q.0 q.1 q.2 in
    sym (length-take-le _ t.new.output (omega (arith, w.within, w.kept)))

pub after_run-requires : goal.after_run-requires
after_run-requires g c =
    let a = c.args in
    let w = c.take_frames-p.ensures c.requires.can_run.0.1.0 c.requires.can_run.0.1.1 c.requires.can_run.0.1.2 in
    let part = part_length a.input.now a.f c.requires.inside.0 in
    (omega (arith, part, w.inside, c.requires.inside.0.run, c.requires.inside.0.read, c.requires.inside.3), omega (arith, part, w.inside, w.few, c.requires.inside.0.run, c.requires.inside.0.read, c.requires.inside.3, c.requires.inside.2))

pub returns : goal.returns
returns g c =
    let a = c.args in
    let t = c.take_frames-p in
    let q = c.requires.can_run.0.1 in
    let w = t.ensures in
    let h = c.hand_on-handed in
    let size = h.ensures ∙ length-take-le _ t.new.output (let u = w q.0 q.1 q.2 in omega (arith, u.within, u.kept)) in
    let i = run_inside a.input.now (lent q.0 a.stations.now a.carts.now a.messages.now a.lines.now a.texts.now a.store.now) _ a.output.now _ a.f c.after_run.result t.result h.result c.requires.inside.0 (ap state_number c.requires.inside.1) c.requires.inside.4 (w q.0 q.1 q.2) size c.after_run.ensures in
    record {
      by_each = λ P n R. ((w P n R).ready, run_made a.input.now (lent P a.stations.now a.carts.now a.messages.now a.lines.now a.texts.now a.store.now) _ a.output.now _ a.f c.after_run.result t.result h.result c.requires.inside.0 (ap state_number c.requires.inside.1) c.requires.inside.4 (w P n R) size c.after_run.ensures);
      inside_2 = i;
      output_len_unchanged = (w q.0 q.1 q.2).kept;
    }
