-- `frame_run::take_event` meets its contract.
use mathlib.Core.Path.{refl, ap}
use Prim.Native.Nat.{ℕ, ◌+◌}
use native.Mathlib.Omega.{arith}
use Rattle.view.specs.View.{lent}
use Rattle.frame_lines.proofs.Fields.{line_written}
use Rattle.frame_run.proofs.Turns.{took}
use Rattle.frame_run.proofs.take_event.Goals as goal

pub dispatch-dispatched-requires : goal.dispatch-dispatched-requires
dispatch-dispatched-requires c =
    record {
      can_run = c.requires.can_run;
      e_in_bounds = (c.requires.e_in_bounds.0, c.requires.e_in_bounds.1);
      longest_number_in_bounds = (omega (arith, c.requires.e_in_bounds.2), c.requires.frames_le_read.2);
    }

pub print-written-requires : goal.print-written-requires
print-written-requires c =
    let h = c.dispatch-dispatched.ensures in
    (omega (arith, c.requires.e_in_bounds.2, h.began.0.few, h.began.0.kept), h.within.0, c.requires.frames_le_read.2)

pub overflow_add-result : goal.overflow_add-result
overflow_add-result c = omega (arith, c.requires.e_in_bounds, c.requires.frames_le_read.1, c.dispatch-dispatched.ensures.began.1)

pub overflow_add-result-2 : goal.overflow_add-result-2
overflow_add-result-2 c = omega (arith, c.requires.e_in_bounds, c.requires.frames_le_read.0, c.requires.frames_le_read.1)

pub returns : goal.returns
returns c =
    let a = c.args in
    let h = c.dispatch-dispatched.ensures in
    λ P n R. took a.index (lent P a.stations.now a.carts.now a.messages.now a.lines.now a.texts.now a.store.now) _ a.output.now _ a.p _ _ _ _ R (h.within.1 P n R) (line_written a.index _ h.began.0 c.print-written.ensures)
    (ap (λ (k : ℕ). a.p.read + k) h.began.1) refl refl
