-- `training_calls::take_event` meets its contract.
use native.Mathlib.Omega.{arith}
use lib.ListN.{length}
use Rattle.view.specs.View.{lent}
use Rattle.event_answers.proofs.Readies.{has_head}
use Rattle.frame_run.proofs.Turns.{least_size}
use Rattle.training_calls.proofs.CallLaws.{made_so, text_there}
use Rattle.training_calls.proofs.take_event.Goals as goal

pub members_for-members-requires : goal.members_for-members-requires
members_for-members-requires c =
    let a = c.args in
    let w = c.requires.can_run.0.1 in
    has_head (lent w.0 a.stations.now a.carts.now a.messages.now a.lines.now a.texts.now a.store.now) w.2

pub dispatch-dispatched-requires : goal.dispatch-dispatched-requires
dispatch-dispatched-requires c =
    record {
      can_run = c.requires.can_run.0;
      e_in_bounds = (c.requires.e_in_bounds.0, c.requires.e_in_bounds.1);
      longest_number_in_bounds = (omega arith, c.requires.can_run.1);
    }

pub call_of-call-requires : goal.call_of-call-requires
call_of-call-requires c = omega (arith, c.requires.e_in_bounds.0, least_size c.args.e)

pub returns : goal.returns
returns c =
    let a = c.args in
    let members = c.members_for-members in
    let d = c.dispatch-dispatched in
    let called = c.call_of-call in
    record {
      by_each = λ P n R. made_so a.input.now (lent P a.stations.now a.carts.now a.messages.now a.lines.now a.texts.now a.store.now) _ a.at a.e _ _ _ d.result.answer members.result called.result members.ensures called.ensures R (d.ensures.within.1 P n R);
      text_in = (text_there (length a.input.now) a.e members.result d.result.answer a.at called.result called.ensures c.requires.e_in_bounds.0, d.ensures.began.1);
    }
