-- `lines::release` meets its contract. One store.
use mathlib.Core.Path.{refl}
use Rattle.lines.specs.Holding.{released}
use Rattle.lines.proofs.release.Goals as goal

pub returns : goal.returns
unfolding released
returns c = refl
