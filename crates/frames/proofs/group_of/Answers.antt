-- `frames::group_of` meets its contract.
use mathlib.Core.Path.{refl}
use Rattle.frames.specs.Decoded.{fields_in}
use Rattle.frames.proofs.Laws.{group_event}
use Rattle.frames.proofs.Values.{group_read}
use Rattle.frames.proofs.group_of.Goals as goal

pub returns : goal.returns
returns c =
    let f = c.args.f in
    λ l behind. group_read f behind l _ _ c.requires c.if_listed.ensures refl (group_event (fields_in f) _ c.requires)
