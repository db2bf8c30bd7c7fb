-- `tested_run::refuse_frame` meets its contract.
use mathlib.Core.Path.{refl, ap, ◌∙◌}
use native.Mathlib.Omega.{arith}
use borrow.Author.Rules.{rules}
use Rattle.std.specs.Prelude.{Ok}
use Rattle.frames.proofs.Values.{event_inside, text_fits}
use Rattle.frame_run.specs.Stops.{stop_number}
use Rattle.frame_run.proofs.Turns.{turned_waits, turned_refused, turned_taken, end_there, cut_there, refused_there, taken_there, least_size}
use Rattle.tested_run.specs.Stuck.{Stuck}
use Rattle.tested_run.proofs.StuckLaws.{stuck_took}
use Rattle.tested_run.proofs.refuse_frame.Goals as goal

pub returns-then-none_whole : goal.returns-then-none_whole
returns-then-none_whole c =
    let a = c.args in
    let f = c.frame_at in
    record {
      turned_on = λ L k. turned_waits (Stuck a.lengths) a.input.now a.index a.last L a.output.now a.p k (ap stop_number c.requires.state_value.0) c.requires.state_value.1 c.requires.state_value.2 c.requires.frames_le_read.0 _
          c.waiting-then-none_whole.ensures (cut_there a.input.now a.p.read a.last f.result f.ensures _ c.in-Err.is _ c.number-number.ensures _ c.none_whole.ensures c.if-none_whole.true);
      output_len_unchanged = refl;
    }

pub returns-else-none_whole : goal.returns-else-none_whole
returns-else-none_whole c =
    let a = c.args in
    let f = c.frame_at in
    let t = refused_there a.input.now a.p.read a.last f.result f.ensures _ c.in-Err.is _ c.number-number.ensures _ c.none_whole.ensures c.if-none_whole.false in
    let r = c.refuse.ensures in
    record {
      turned_on = λ L k. turned_refused (Stuck a.lengths) a.input.now a.index a.last L a.output.now a.p k (ap stop_number c.requires.state_value.0) c.requires.state_value.1 c.requires.state_value.2 c.requires.frames_le_read.0 _ _ _
          t.0 r.wrote r.read_value t.1;
      output_len_unchanged = r.wrote.kept;
    }

pub size_of-size-requires : goal.size_of-size-requires
size_of-size-requires c =
    let a = c.args in
    let f = c.frame_at in
    let i = event_inside a.input.now a.p.read f.result f.ensures _ (c.in-Ok-Some.is ∙ ap Ok c.in-Ok-Some.field-0-is) in
    omega (arith, i.0, c.requires.frames_le_read.1)

pub refuse_event-requires : goal.refuse_event-requires
refuse_event-requires c =
    let a = c.args in
    let f = c.frame_at in
    let i = event_inside a.input.now a.p.read f.result f.ensures _ (c.in-Ok-Some.is ∙ ap Ok c.in-Ok-Some.field-0-is) in
    let z = c.size_of-size.ensures in
    (c.requires.state_value.2, omega (arith, i.0, z, c.requires.frames_le_read.1), omega (arith, c.requires.state_value.1, c.requires.frames_le_read))

pub returns-in-Ok-Some : goal.returns-in-Ok-Some
returns-in-Ok-Some c =
    let a = c.args in
    let f = c.frame_at in
    let i = event_inside a.input.now a.p.read f.result f.ensures _ (c.in-Ok-Some.is ∙ ap Ok c.in-Ok-Some.field-0-is) in
    let fits = text_fits a.input.now a.p.read f.result f.ensures _ (c.in-Ok-Some.is ∙ ap Ok c.in-Ok-Some.field-0-is) in
    let r = c.refuse_event.ensures in
    record {
      turned_on = λ L k. turned_taken (Stuck a.lengths) a.input.now a.index a.last L a.output.now a.p k (ap stop_number c.requires.state_value.0) c.requires.state_value.1 c.requires.state_value.2 c.requires.frames_le_read.0 _ _ _ _ _
          (taken_there a.input.now a.p.read a.last f.result f.ensures _ (c.in-Ok-Some.is ∙ ap Ok c.in-Ok-Some.field-0-is)) (least_size c.in-Ok-Some.e) i.0
          (stuck_took a.lengths L k a.index a.input.now a.output.now _ a.p _ c.in-Ok-Some.e _ _ c.refusal_of.ensures c.size_of-size.ensures fits i.0 r.wrote r.read_value);
      output_len_unchanged = r.wrote.kept;
    }

pub returns-in-Ok-None : goal.returns-in-Ok-None
returns-in-Ok-None c =
    let a = c.args in
    let f = c.frame_at in
    record {
      turned_on = λ L k. turned_waits (Stuck a.lengths) a.input.now a.index a.last L a.output.now a.p k (ap stop_number c.requires.state_value.0) c.requires.state_value.1 c.requires.state_value.2 c.requires.frames_le_read.0 _
          c.waiting.ensures (end_there a.input.now a.p.read a.last f.result f.ensures (c.in-Ok-None.is ∙ ap Ok c.in-Ok-None.field-0-is));
      output_len_unchanged = refl;
    }
