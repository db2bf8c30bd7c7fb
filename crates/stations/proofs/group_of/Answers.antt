-- `stations::group_of` meets its contract.
use mathlib.Core.Path.{◌∙◌}
use native.Mathlib.Omega.{arith}
use Rattle.stations.proofs.TableLaws.{group_read}
use Rattle.stations.proofs.group_of.Goals as goal

pub returns : goal.returns
returns c =
    let a = c.args in
    c.word_at.ensures ∙ group_read a.stations.now a.group (omega arith)
