-- `frame_run::take_frames` meets its contract. The invariant: what was run is the written run over those frames. The octets left fall.
use Rattle.view.specs.View.{lent}
use Rattle.event_answers.specs.Met.{Ready}
use Rattle.frame_run.specs.CanRun.{ByEach}
use Rattle.frame_run.proofs.Loop.{Going, left}
use Rattle.frame_run.proofs.take_frames.Given as goal

abbrev pub invariant-loop-bounds : goal.invariant-loop-bounds
invariant-loop-bounds l = ByEach l.bounds (λ P. lent P l.initial.stations l.initial.carts l.initial.messages l.initial.lines l.initial.texts l.initial.store) (λ P. lent P l.stations l.carts l.messages l.lines l.texts l.store) (λ L₀ L. Going Ready l.input l.index l.last L₀ L l.initial.output l.output l.p)

abbrev pub decreases-loop-bounds : goal.decreases-loop-bounds
decreases-loop-bounds l = left l.input l.p
