use mathlib.Core.Path.{refl, ap, ap₂, ◌∙◌, ◌≡◌}
use Prim.Native.Nat.{ℕ}
use native.Mathlib.Omega.{arith}
use Rattle.protocol.specs.Folds.{every}
use Rattle.sets.specs.Masks.{disjoint}
use Rattle.messages.specs.View.{rooms_in}
use Rattle.stations.specs.View.{stations_in}
use Rattle.form_lines.specs.Pass.{gathered, apart}
use Rattle.form_lines.proofs.PassLaws.{every_next, gathered_next}
use Rattle.form_lines.proofs.gather_acks.Goals as goal

pub acked_by-carts-requires : goal.acked_by-carts-requires
acked_by-carts-requires c = let p = c.requires in (p.1, p.3)

pub loop-t-init : goal.loop-t-init
unfolding every gathered
loop-t-init c = (omega arith, c.acked_by-carts.ensures, refl)

pub acks_of-acks-requires : goal.acks_of-acks-requires
acks_of-acks-requires c = (omega arith, c.requires.3)

pub loop-t-preserved : goal.loop-t-preserved
loop-t-preserved c = (omega arith, gathered_next (stations_in c.args.stations.now) (rooms_in c.args.messages.now) c.args.m c.loop-t.t c.loop-t.carts c.acks_of-acks.result c.union-carts.result c.loop-t.invariant.1 c.acks_of-acks.ensures c.union-carts.ensures, every_next (λ u. disjoint 64 ((stations_in c.args.stations.now).acks c.args.m u) (gathered (stations_in c.args.stations.now) (rooms_in c.args.messages.now) c.args.m u)) c.loop-t.t c.loop-t.apart c.is_disjoint-apart.result _ c.loop-t.invariant.2 (c.is_disjoint-apart.ensures ∙ ap₂ (λ (x y : ℕ). disjoint 64 x y) c.acks_of-acks.ensures c.loop-t.invariant.1) refl)

pub returns : goal.returns
unfolding apart
returns c = let z : c.loop-t.t ≡ c.args.n = omega arith in (c.loop-t.invariant.2 ∙ ap (λ (x : ℕ). every x (λ u. disjoint 64 ((stations_in c.args.stations.now).acks c.args.m u) (gathered (stations_in c.args.stations.now) (rooms_in c.args.messages.now) c.args.m u))) z, c.loop-t.invariant.1 ∙ ap (λ (x : ℕ). gathered (stations_in c.args.stations.now) (rooms_in c.args.messages.now) c.args.m x) z)
