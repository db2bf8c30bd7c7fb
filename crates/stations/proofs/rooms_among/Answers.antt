-- `stations::rooms_among` meets its contract.
use mathlib.Core.Path.{◌∙◌, ap}
use native.Mathlib.Omega.{arith}
use Rattle.protocol.specs.CartSets.{minus}
use Rattle.stations.proofs.TableLaws.{among_rooms}
use Rattle.stations.proofs.rooms_among.Goals as goal

pub returns : goal.returns
returns c =
    let a = c.args in
    among_rooms a.word c.minus.result c.minus-2.result (omega arith)
    (c.minus.ensures ∙ ap (minus a.word) c.all_below.ensures) c.minus-2.ensures
