use mathlib.Core.Path.{◌≡◌, refl, ◌∙◌}
use native.Mathlib.Omega.{arith}
use Rattle.carts.specs.View.{carts_in}
use Rattle.form_tables.proofs.Locals.{LocalsTo, locals_none, locals_none_more, locals_beyond, locals_join, locals_all}
use Rattle.form_tables.proofs.locals_of.Goals as goal
use Rattle.form_tables.proofs.locals_of.Goals.{in-Some+then-s-lt16, in-Some+else-s-lt16, in_default}

pub loop-number-init : goal.loop-number-init
loop-number-init c = (omega arith, refl, locals_none (carts_in c.args.carts.now).place)

pub loop-number-preserved : goal.loop-number-preserved
loop-number-preserved c =
    let place = (carts_in c.args.carts.now).place in
    let a = c.loop-number in
    elim c.match-home_of.branch [
      | in-Some+then-s-lt16 w ↦
          let z = locals_join place a.locals a.number a.invariant.2 a.invariant.1 w.in-Some.home w.in-Some.ensures c.match-home_of.locals w.with_member.result w.locals-is w.if-s-lt16.true w.with_member.ensures in
          (omega arith, z.0, z.1)
      | in-Some+else-s-lt16 w ↦
          let z = locals_beyond place a.locals a.number a.invariant.2 a.invariant.1 w.in-Some.home w.in-Some.ensures c.match-home_of.locals w.locals-is w.if-s-lt16.false in
          (omega arith, z.0, z.1)
      | in_default w ↦
          let z = locals_none_more place a.locals a.number a.invariant.2 a.invariant.1 c.match-home_of.locals w.locals-is w.in_default.ensures in
          (omega arith, z.0, z.1)
    ]

pub returns : goal.returns
returns c =
    let a = c.loop-number in
    let e : a.number ≡ c.args.k = omega arith in
    let all : LocalsTo (carts_in c.args.carts.now).place a.locals c.args.k = rw e at a.invariant.2 in
    λ t l. all t l ∙ locals_all c.args.carts.now c.args.k c.requires.0 c.requires.1 t
