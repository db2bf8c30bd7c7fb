-- `tested_run::refuse_frames` meets its contract. The invariant is that of `frame_run::take_frames`, over floors that no event can go on with.
use native.Mathlib.Omega.{arith}
use Rattle.view.specs.View.{Lent}
use Rattle.frame_run.proofs.Loop.{Going, left, going_first, going_next, going_less, goes, stops}
use Rattle.tested_run.specs.Stuck.{Stuck}
use Rattle.tested_run.proofs.refuse_frames.Given as goal

abbrev pub invariant-loop-output : goal.invariant-loop-output
invariant-loop-output l = (L : Lent) → Stuck l.lengths L → Going (Stuck l.lengths) l.input l.index l.last L L l.initial.output l.output l.p

abbrev pub decreases-loop-output : goal.decreases-loop-output
decreases-loop-output l = left l.input l.p
