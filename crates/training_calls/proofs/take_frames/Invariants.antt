-- `training_calls::take_frames` meets its contract. The invariant: what was run is the written run over those frames, and their calls are in the rows. The octets left fall.
use Rattle.view.specs.View.{lent}
use Rattle.frame_run.specs.CanRun.{ByEach}
use Rattle.frame_run.proofs.Loop.{left}
use Rattle.training_calls.proofs.Loop.{Going}
use Rattle.training_calls.proofs.take_frames.Given as goal

abbrev pub invariant-loop-bounds : goal.invariant-loop-bounds
invariant-loop-bounds l = ByEach l.bounds (λ P. lent P l.initial.stations l.initial.carts l.initial.messages l.initial.lines l.initial.texts l.initial.store) (λ P. lent P l.stations l.carts l.messages l.lines l.texts l.store) (λ L₀ L. Going l.input l.last L₀ L l.calls l.p)

abbrev pub decreases-loop-bounds : goal.decreases-loop-bounds
decreases-loop-bounds l = left l.input l.p
