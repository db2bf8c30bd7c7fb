-- `lines::record_of` meets its contract. The row's two words.
use mathlib.Core.Path.{refl}
use Rattle.lines.specs.Lines.{record_of}
use Rattle.lines.proofs.record_of.Goals as goal

pub returns : goal.returns
unfolding record_of
returns c = refl
