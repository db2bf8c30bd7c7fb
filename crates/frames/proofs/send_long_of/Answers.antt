-- `frames::send_long_of` meets its contract.
use mathlib.Core.Path.{refl}
use native.Mathlib.Omega.{arith}
use Rattle.frames.specs.Decoded.{fields_in}
use Rattle.frames.proofs.Laws.{send_long_event}
use Rattle.frames.proofs.Values.{send_long_stray, send_long_read}
use Rattle.frames.proofs.send_long_of.Goals as goal

pub returns-then-stray-ne0 : goal.returns-then-stray-ne0
returns-then-stray-ne0 c = λ l. send_long_stray c.args.f c.args.behind l c.requires c.if-stray-ne0.true

pub returns : goal.returns
returns c =
    let f = c.args.f in
    λ l. send_long_read f c.args.behind l _ _ c.requires (omega (arith, c.if-stray-ne0.false)) c.if_whole_long.ensures refl (send_long_event (fields_in f) _ c.requires)
