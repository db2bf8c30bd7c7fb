-- `training_calls::take_frame` meets its contract.
use mathlib.Core.Path.{ap, ◌∙◌}
use native.Mathlib.Omega.{arith}
use Rattle.std.specs.Prelude.{Ok}
use Rattle.view.specs.View.{lent}
use Rattle.frames.proofs.Values.{event_inside, text_fits}
use Rattle.frame_run.specs.Stops.{stop_number}
use Rattle.frame_run.proofs.Turns.{end_there, cut_there, refused_there, taken_there, least_size}
use Rattle.training_calls.specs.declared.CallMade.{CallMade}
use Rattle.training_calls.proofs.Turns.{turned_waits, refused_row, taken_row}
use Rattle.training_calls.proofs.take_frame.Goals as goal

pub returns-then-none_whole : goal.returns-then-none_whole
returns-then-none_whole c =
    let f = c.frame_at in
    let a = c.args in
    λ P n R. turned_waits a.input.now a.last (lent P a.stations.now a.carts.now a.messages.now a.lines.now a.texts.now a.store.now) a.calls.now a.p R (ap stop_number c.requires.state_value.0) c.requires.state_value.1 c.requires.state_value.2 _
    c.waiting-then-none_whole.ensures (cut_there a.input.now a.p.read a.last f.result f.ensures _ c.in-Err.is _ c.number-number.ensures _ c.none_whole.ensures c.if-none_whole.true)

pub put_row-requires-in-Err : goal.put_row-requires-in-Err
put_row-requires-in-Err c =
    let none = ap (λ (m : CallMade). m.taken) c.refused_frame.ensures in
    (omega (arith, c.requires.state_value.2, c.requires.state_value.3), omega (arith, none, c.requires.state_value.1), c.requires.state_value.2)

pub returns-else-none_whole : goal.returns-else-none_whole
returns-else-none_whole c =
    let f = c.frame_at in
    let a = c.args in
    let t = refused_there a.input.now a.p.read a.last f.result f.ensures _ c.in-Err.is _ c.number-number.ensures _ c.none_whole.ensures c.if-none_whole.false in
    let m = c.refused_frame in
    let r = c.put_row-in-Err in
    λ P n R. refused_row a.input.now a.last (lent P a.stations.now a.carts.now a.messages.now a.lines.now a.texts.now a.store.now) a.calls.now a.p R (ap stop_number c.requires.state_value.0) c.requires.state_value.1 c.requires.state_value.2 _ r.result m.result _
    t.0 t.1 m.ensures r.ensures.calls_after.0 r.ensures.calls_after.1 r.ensures.value

pub take_event-made-requires : goal.take_event-made-requires
take_event-made-requires c =
    let f = c.frame_at in
    let a = c.args in
    let i = event_inside a.input.now a.p.read f.result f.ensures _ (c.in-Ok-Some.is ∙ ap Ok c.in-Ok-Some.field-0-is) in
    record {
      can_run = c.requires.can_run;
      e_in_bounds = (i.0, text_fits a.input.now a.p.read f.result f.ensures _ (c.in-Ok-Some.is ∙ ap Ok c.in-Ok-Some.field-0-is));
    }

pub put_row-requires : goal.put_row-requires
put_row-requires c =
    let f = c.frame_at in
    let a = c.args in
    let i = event_inside a.input.now a.p.read f.result f.ensures _ (c.in-Ok-Some.is ∙ ap Ok c.in-Ok-Some.field-0-is) in
    let m = c.take_event-made.ensures.text_in.1 in
    (omega (arith, c.requires.state_value.2, c.requires.state_value.3), omega (arith, m, i.0), c.requires.state_value.2)

pub returns-in-Ok-Some : goal.returns-in-Ok-Some
returns-in-Ok-Some c =
    let f = c.frame_at in
    let a = c.args in
    let i = event_inside a.input.now a.p.read f.result f.ensures _ (c.in-Ok-Some.is ∙ ap Ok c.in-Ok-Some.field-0-is) in
    let m = c.take_event-made in
    let r = c.put_row in
    λ P n R. taken_row a.input.now a.last (lent P a.stations.now a.carts.now a.messages.now a.lines.now a.texts.now a.store.now) a.calls.now a.p R (ap stop_number c.requires.state_value.0) c.requires.state_value.1 c.requires.state_value.2 _ _ r.result m.result _ _
    (taken_there a.input.now a.p.read a.last f.result f.ensures _ (c.in-Ok-Some.is ∙ ap Ok c.in-Ok-Some.field-0-is)) (least_size c.in-Ok-Some.e) i.0 (m.ensures.by_each P n R) m.ensures.text_in r.ensures.calls_after.0 r.ensures.calls_after.1 r.ensures.value

pub returns-in-Ok-None : goal.returns-in-Ok-None
returns-in-Ok-None c =
    let f = c.frame_at in
    let a = c.args in
    λ P n R. turned_waits a.input.now a.last (lent P a.stations.now a.carts.now a.messages.now a.lines.now a.texts.now a.store.now) a.calls.now a.p R (ap stop_number c.requires.state_value.0) c.requires.state_value.1 c.requires.state_value.2 _
    c.waiting.ensures (end_there a.input.now a.p.read a.last f.result f.ensures (c.in-Ok-None.is ∙ ap Ok c.in-Ok-None.field-0-is))
