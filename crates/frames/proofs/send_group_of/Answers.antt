-- `frames::send_group_of` meets its contract.
use mathlib.Core.Path.{refl}
use native.Mathlib.Omega.{arith}
use Rattle.frames.specs.Decoded.{fields_in}
use Rattle.frames.proofs.Laws.{send_group_event}
use Rattle.frames.proofs.Values.{send_group_stray, send_group_read}
use Rattle.frames.proofs.send_group_of.Goals as goal
use Rattle.frames.proofs.send_group_of.Goals.{then-stray-ne0-via-then-stray-ne0, then-stray-ne0-via-else-stray-ne0+then-f-ne0}

pub returns-then-stray-ne0 : goal.returns-then-stray-ne0
returns-then-stray-ne0 c =
    λ l. send_group_stray c.args.f c.args.behind l c.requires (λ z. elim c.then-stray-ne0.branch [
      | then-stray-ne0-via-then-stray-ne0 w ↦ w.if-stray-ne0.true (omega arith)
      | then-stray-ne0-via-else-stray-ne0+then-f-ne0 w ↦ w.if-f-ne0.true (omega arith)
    ])

pub returns : goal.returns
returns c =
    let f = c.args.f in
    λ l. send_group_read f c.args.behind l _ _ c.requires (omega (arith, c.if-stray-ne0.false, c.if-f-ne0.false)) c.if_whole.ensures refl (send_group_event (fields_in f) _ c.requires)
