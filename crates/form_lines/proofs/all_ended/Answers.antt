use mathlib.Core.Path.{refl, ap, ◌∙◌, ◌≡◌}
use Prim.Native.Nat.{ℕ}
use native.Mathlib.Omega.{arith}
use Rattle.protocol.specs.Folds.{every}
use Rattle.carts.specs.View.{carts_in}
use Rattle.messages.specs.View.{rooms_in}
use Rattle.form_lines.specs.Pass.{ended}
use Rattle.form_lines.proofs.PassLaws.{every_next}
use Rattle.form_lines.proofs.all_ended.Goals as goal

pub loop-m-init : goal.loop-m-init
unfolding every
loop-m-init c = (omega arith, refl)

pub offset_bounds-masks-m : goal.offset_bounds-masks-m
offset_bounds-masks-m c = omega arith

pub bounds-masks-m : goal.bounds-masks-m
bounds-masks-m c = omega arith

pub has_ended-ok-requires : goal.has_ended-ok-requires
has_ended-ok-requires c = (c.requires.1, c.requires.2, c.requires.3, omega arith)

pub loop-m-preserved : goal.loop-m-preserved
unfolding ended
loop-m-preserved c = (omega arith, every_next (ended c.args.k (carts_in c.args.carts.now) (rooms_in c.args.messages.now) c.args.masks.now) c.loop-m.m c.loop-m.ok c.has_ended-ok.result _ c.loop-m.invariant.1 c.has_ended-ok.ensures refl)

pub returns : goal.returns
returns c = c.loop-m.invariant.1 ∙ ap (λ (x : ℕ). every x (ended c.args.k (carts_in c.args.carts.now) (rooms_in c.args.messages.now) c.args.masks.now)) (let z : c.loop-m.m ≡ 32 = omega arith in z)
