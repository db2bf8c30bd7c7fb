-- `mekhturia::mekhturia_frames` meets its contract.
use mathlib.Core.Path.{refl, sym, ◌∙◌}
use native.Mathlib.Omega.{arith}
use borrow.Author.Rules.{rules}
use Rattle.mekhturia.proofs.Statuses.{words_enough}
use Rattle.mekhturia.proofs.FrameStatuses.{frames_answered, near}
use Rattle.mekhturia.proofs.mekhturia_frames.Goals as goal

pub returns-then-status-ne-ANSWERED : goal.returns-then-status-ne-ANSWERED
returns-then-status-ne-ANSWERED c = (c.frames_status-status.ensures, λ z. absurd (c.if-status-ne-ANSWERED.true z), λ _. (refl, refl, refl))

pub take_frames-progress-requires : goal.take_frames-progress-requires
take_frames-progress-requires c =
    let a = c.args in (
      c.bounds_of-bounds.ensures.0,
      c.bounds_of-bounds.ensures.2,
      near a.product a.out.now a.index a.input.now _ c.frames_status-status.ensures c.if-status-ne-ANSWERED.false,
    )

pub put_progress-requires : goal.put_progress-requires
put_progress-requires c =
    let a = c.args in
    let answered = frames_answered a.product a.out.now a.index a.input.now _ c.frames_status-status.ensures c.if-status-ne-ANSWERED.false in
    let enough = words_enough a.product a.out.now 0 answered refl in omega (arith, enough)

pub returns : goal.returns
returns c = (
  sym c.if-status-ne-ANSWERED.false ∙ c.frames_status-status.ensures,
  λ _. record { progress = c.take_frames-progress.result; ran = c.take_frames-progress.ensures _ c.bounds_of-bounds.ensures.1; words = c.put_progress.ensures.out_after },
  λ other. absurd (other refl),
)
