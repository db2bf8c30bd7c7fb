use mathlib.Core.List.{[]}
use native.Mathlib.Omega.{arith}
use Rattle.frame_reader.proofs.Pieces.{fed_none}
use Rattle.checkframes.proofs.Turns.{has_ended}
use Rattle.checkframes.proofs.check_all.Goals as goal

pub loop-init : goal.loop-init
loop-init g c = (
  record { room = c.requires; kept = omega arith; few = omega arith; wants = λ e. omega arith; refused = λ e. absurd (cc e) },
  ([], fed_none),
)

pub turn-requires : goal.turn-requires
turn-requires g c = (c.loop.invariant.0, c.if-p-ge-OCTETS.false)

pub returns-after-loop : goal.returns-after-loop
returns-after-loop g c = let l = c.loop in has_ended l.input l.p l.invariant.0 l.invariant.1.0 _ l.invariant.1.1

pub returns-then-not-matches : goal.returns-then-not-matches
returns-then-not-matches g c = let l = c.loop in has_ended l.input l.p l.invariant.0 l.invariant.1.0 _ l.invariant.1.1
