-- `form_lines::on_line` meets its contract.
use mathlib.Core.Path.{refl}
use Rattle.carts.specs.View.{carts_in}
use Rattle.messages.specs.View.{rooms_in}
use Rattle.stations.specs.View.{stations_in}
use Rattle.form_lines.specs.Ways.{met_of}
use Rattle.form_lines.proofs.PassLaws.{lined}
use Rattle.form_lines.proofs.on_line.Goals as goal

pub returns-clause-masks_after : goal.returns-clause-masks_after
returns-clause-masks_after c =
    let e = c.expected_by-expected in
    let t = c.sent_by-sent in
    let o = c.in_ok-met in
    lined c.args.size.stations c.args.size.carts (carts_in c.args.carts.now) (rooms_in c.args.messages.now) (stations_in c.args.stations.now) c.args.lines.now (met_of c.args.way c.args.masks.now) c.args.i c.args.j e.result t.result o.met c.along.new.masks _ _ e.ensures t.ensures o.ensures.masks_after.0 refl refl
