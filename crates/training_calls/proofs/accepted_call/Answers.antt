-- `training_calls::accepted_call` meets its contract.
use mathlib.Core.Path.{sym, ap}
use Rattle.frames.specs.declared.Event.{Event}
use Rattle.training_calls.specs.Calls.{call_for}
use Rattle.training_calls.proofs.accepted_call.Goals as goal

pub returns-in-Start : goal.returns-in-Start
returns-in-Start c = sym (ap (λ (e : Event). call_for e c.args.members c.args.initiator c.args.at) c.in-Start.is)

pub returns-in-Send : goal.returns-in-Send
returns-in-Send c = sym (ap (λ (e : Event). call_for e c.args.members c.args.initiator c.args.at) c.in-Send.is)

pub returns-in-SendGroup : goal.returns-in-SendGroup
returns-in-SendGroup c = sym (ap (λ (e : Event). call_for e c.args.members c.args.initiator c.args.at) c.in-SendGroup.is)

pub returns-in-SendLong : goal.returns-in-SendLong
returns-in-SendLong c = sym (ap (λ (e : Event). call_for e c.args.members c.args.initiator c.args.at) c.in-SendLong.is)

pub returns-in-Radio : goal.returns-in-Radio
returns-in-Radio c = sym (ap (λ (e : Event). call_for e c.args.members c.args.initiator c.args.at) c.in-Radio.is)
