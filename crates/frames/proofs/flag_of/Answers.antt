-- `frames::flag_of` meets its contract.
use mathlib.Core.Path.{refl}
use Rattle.frames.specs.Decoded.{fields_in}
use Rattle.frames.proofs.Laws.{flag_event}
use Rattle.frames.proofs.Values.{flag_read}
use Rattle.frames.proofs.flag_of.Goals as goal

pub returns : goal.returns
returns c =
    let f = c.args.f in
    λ l behind. flag_read f behind l _ _ c.requires c.if_listed.ensures refl (flag_event (fields_in f) _ c.requires)
