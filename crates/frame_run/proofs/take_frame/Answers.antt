-- `frame_run::take_frame` meets its contract.
use mathlib.Core.Path.{ap, ◌∙◌}
use Rattle.std.specs.Prelude.{Ok}
use Rattle.view.specs.View.{lent}
use Rattle.event_answers.specs.Met.{Ready}
use Rattle.frames.proofs.Values.{event_inside, text_fits}
use Rattle.frame_run.specs.Stops.{stop_number}
use Rattle.frame_run.proofs.Turns.{turned_waits, turned_refused, turned_taken, end_there, cut_there, refused_there, taken_there, least_size}
use Rattle.frame_run.proofs.take_frame.Goals as goal

pub returns-then-none_whole : goal.returns-then-none_whole
returns-then-none_whole c =
    let f = c.frame_at in
    let a = c.args in
    λ P n R. turned_waits Ready a.input.now a.index a.last (lent P a.stations.now a.carts.now a.messages.now a.lines.now a.texts.now a.store.now) a.output.now a.p R (ap stop_number c.requires.state_value.0) c.requires.state_value.1 c.requires.state_value.2 c.requires.frames_le_read.0 _
    c.waiting-then-none_whole.ensures (cut_there a.input.now a.p.read a.last f.result f.ensures _ c.in-Err.is _ c.number-number.ensures _ c.none_whole.ensures c.if-none_whole.true)

pub returns-else-none_whole : goal.returns-else-none_whole
returns-else-none_whole c =
    let f = c.frame_at in
    let a = c.args in
    let t = refused_there a.input.now a.p.read a.last f.result f.ensures _ c.in-Err.is _ c.number-number.ensures _ c.none_whole.ensures c.if-none_whole.false in
    let r = c.refuse.ensures in
    λ P n R. turned_refused Ready a.input.now a.index a.last (lent P a.stations.now a.carts.now a.messages.now a.lines.now a.texts.now a.store.now) a.output.now a.p R (ap stop_number c.requires.state_value.0) c.requires.state_value.1 c.requires.state_value.2 c.requires.frames_le_read.0 _ _ _
    t.0 r.wrote r.read_value t.1

pub take_event-requires : goal.take_event-requires
take_event-requires c =
    let f = c.frame_at in
    let a = c.args in
    let i = event_inside a.input.now a.p.read f.result f.ensures _ (c.in-Ok-Some.is ∙ ap Ok c.in-Ok-Some.field-0-is) in
    let fits = text_fits a.input.now a.p.read f.result f.ensures _ (c.in-Ok-Some.is ∙ ap Ok c.in-Ok-Some.field-0-is) in
    record {
      can_run = c.requires.can_run;
      e_in_bounds = (i.0, fits, c.requires.state_value.2);
      frames_le_read = c.requires.frames_le_read;
    }

pub returns-in-Ok-Some : goal.returns-in-Ok-Some
returns-in-Ok-Some c =
    let f = c.frame_at in
    let a = c.args in
    let i = event_inside a.input.now a.p.read f.result f.ensures _ (c.in-Ok-Some.is ∙ ap Ok c.in-Ok-Some.field-0-is) in
    λ P n R. turned_taken Ready a.input.now a.index a.last (lent P a.stations.now a.carts.now a.messages.now a.lines.now a.texts.now a.store.now) a.output.now a.p R (ap stop_number c.requires.state_value.0) c.requires.state_value.1 c.requires.state_value.2 c.requires.frames_le_read.0 _ _ _ _ _
    (taken_there a.input.now a.p.read a.last f.result f.ensures _ (c.in-Ok-Some.is ∙ ap Ok c.in-Ok-Some.field-0-is)) (least_size c.in-Ok-Some.e) i.0 (c.take_event.ensures P n R)

pub returns-in-Ok-None : goal.returns-in-Ok-None
returns-in-Ok-None c =
    let f = c.frame_at in
    let a = c.args in
    λ P n R. turned_waits Ready a.input.now a.index a.last (lent P a.stations.now a.carts.now a.messages.now a.lines.now a.texts.now a.store.now) a.output.now a.p R (ap stop_number c.requires.state_value.0) c.requires.state_value.1 c.requires.state_value.2 c.requires.frames_le_read.0 _
    c.waiting.ensures (end_there a.input.now a.p.read a.last f.result f.ensures (c.in-Ok-None.is ∙ ap Ok c.in-Ok-None.field-0-is))
