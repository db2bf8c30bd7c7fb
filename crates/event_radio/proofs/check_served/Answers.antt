-- `event_radio::check_served` meets its contract.
use mathlib.Core.Bool.{not}
use mathlib.Core.Path.{ap}
use native.Mathlib.Omega.{arith}
use Rattle.event_radio.proofs.Checks.{no_head, head_lacks_lem, too_short, is_served}
use Rattle.event_radio.proofs.check_served.Goals as goal

pub returns-in_default-clause-refusal : goal.returns-in_default-clause-refusal
returns-in_default-clause-refusal c = let a = c.args in no_head a.stations.now a.messages.now a.station.0 a.cart.0 a.buffer a.head c.in_default.is

pub returns-then-not-has-clause-refusal : goal.returns-then-not-has-clause-refusal
returns-then-not-has-clause-refusal c = let a = c.args in head_lacks_lem a.stations.now a.messages.now a.station.0 a.cart.0 a.buffer a.head c.in-Some.m c.in-Some.is _ c.queue_of-queued.ensures _ c.has.ensures (ap not c.if-not-has.true)

pub returns-then-buffer-length_of-clause-refusal : goal.returns-then-buffer-length_of-clause-refusal
returns-then-buffer-length_of-clause-refusal c = let a = c.args in too_short a.stations.now a.messages.now a.station.0 a.cart.0 a.buffer a.head c.in-Some.m c.in-Some.is _ c.queue_of-queued.ensures _ c.has.ensures (ap not c.if-not-has.false) (omega (arith, c.length_of.ensures, c.if-buffer-length_of.true))

pub returns-clause-refusal : goal.returns-clause-refusal
returns-clause-refusal c = let a = c.args in is_served a.stations.now a.messages.now a.station.0 a.cart.0 a.buffer a.head c.in-Some.m c.in-Some.is _ c.queue_of-queued.ensures _ c.has.ensures (ap not c.if-not-has.false) (omega (arith, c.length_of.ensures, c.if-buffer-length_of.false))
