use mathlib.Core.Path.{◌∙◌}
use Prim.Native.Nat.{◌+◌, ◌*◌}
use native.Mathlib.Omega.{arith}
use Rattle.carts.specs.View.{carts_in}
use Rattle.messages.specs.View.{rooms_in}
use Rattle.stations.specs.View.{stations_in}
use Rattle.form_lines.specs.Ways.{met_of}
use Rattle.form_lines.proofs.PassLaws.{each_none, each_next}
use Rattle.form_lines.proofs.Chained.{whole_at}
use Rattle.form_lines.proofs.from_each.Goals as goal

pub loop-i-init : goal.loop-i-init
loop-i-init c = (omega arith, c.requires.0, c.requires.1, whole_at c.args.lines.now c.args.seen.now (0) (0 * 16) (omega arith) c.requires.7, each_none c.args.size.stations c.args.size.carts (carts_in c.args.carts.now) (rooms_in c.args.messages.now) (stations_in c.args.stations.now) c.args.lines.now (met_of c.args.way c.args.masks.now))

pub loop-i-preserved : goal.loop-i-preserved
loop-i-preserved c =
    let a = c.loop-i in
    let o = c.from_station in
    let m = c.in_ok-met in (
      omega (arith, c.loop-i-test.true),
      o.ensures.1.0 ∙ a.invariant.1,
      o.ensures.1.1 ∙ a.invariant.2,
      whole_at c.args.lines.now o.new.seen (a.i * 16 + 16) ((a.i + 1) * 16) (omega arith) m.ensures.0.0,
      each_next c.args.size.stations c.args.size.carts (carts_in c.args.carts.now) (rooms_in c.args.messages.now) (stations_in c.args.stations.now) c.args.lines.now (met_of c.args.way c.args.masks.now) (met_of a.met a.masks) (met_of m.met o.new.masks) a.i a.invariant.4 m.ensures.0.1,
    )
