use mathlib.Core.Bool.{true, false}
use mathlib.Core.Path.{refl, sym, ◌∙◌}
use Prim.Native.Nat.{◌+◌, ◌*◌}
use native.Mathlib.Omega.{arith}
use Rattle.carts.specs.View.{carts_in}
use Rattle.messages.specs.View.{rooms_in}
use Rattle.stations.specs.View.{stations_in}
use Rattle.form_lines.specs.Ways.{met_of}
use Rattle.form_lines.proofs.PassLaws.{row_none, row_next}
use Rattle.form_lines.proofs.Chained.{whole_at, whole_more, whole_fails, unmet}
use Rattle.form_lines.proofs.from_station.Goals as goal

pub loop-j-init : goal.loop-j-init
loop-j-init c = (omega arith, c.requires.0, c.requires.1, whole_at c.args.lines.now c.args.seen.now (c.args.i * 16) (c.args.i * 16 + 0) (omega arith) c.requires.8, row_none c.args.size.stations c.args.size.carts (carts_in c.args.carts.now) (rooms_in c.args.messages.now) (stations_in c.args.stations.now) c.args.lines.now (met_of c.args.way c.args.masks.now) c.args.i)

pub returns-in_err-met : goal.returns-in_err-met
returns-in_err-met c =
    let a = c.loop-j in
    let o = c.on_line in
    let bad = whole_fails c.args.lines.now a.seen o.new.seen (c.args.i * 16) a.j false (omega (arith, c.loop-j-test.true, c.requires.7)) a.invariant.3 c.in_err-met.ensures.walked refl in (
      unmet c.args.lines.now (c.args.i * 16 + 16) o.new.seen o.new.masks _ _ c.from_residual.ensures bad,
      (o.ensures.masks_len_unchanged.0 ∙ a.invariant.1 ∙ sym c.requires.0, o.ensures.masks_len_unchanged.1 ∙ a.invariant.2 ∙ sym c.requires.1),
    )

pub loop-j-preserved : goal.loop-j-preserved
loop-j-preserved c =
    let a = c.loop-j in
    let o = c.on_line in
    let m = c.in_ok-met in (
      omega (arith, c.loop-j-test.true),
      o.ensures.masks_len_unchanged.0 ∙ a.invariant.1,
      o.ensures.masks_len_unchanged.1 ∙ a.invariant.2,
      whole_more c.args.lines.now a.seen o.new.seen (c.args.i * 16) a.j true (omega (arith, c.loop-j-test.true, c.requires.7)) a.invariant.3 m.ensures.walked refl,
      row_next c.args.size.stations c.args.size.carts (carts_in c.args.carts.now) (rooms_in c.args.messages.now) (stations_in c.args.stations.now) c.args.lines.now (met_of c.args.way c.args.masks.now) (met_of a.met a.masks) (met_of m.met o.new.masks) c.args.i a.j a.invariant.4 m.ensures.masks_after,
    )
