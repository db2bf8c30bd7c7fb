use mathlib.Core.Path.{refl, sym, ap, ◌∙◌, ◌≡◌}
use mathlib.Core.Bool.{◌||◌, not}
use Prim.Native.Nat.{ℕ}
use native.Mathlib.Omega.{arith}
use lib.ListN.{length-set}
use Rattle.protocol.specs.Folds.{every}
use Rattle.rows.proofs.WordByWord.{read_one, read_all}
use Rattle.messages.specs.View.{rooms_in}
use Rattle.stations.specs.View.{stations_in}
use Rattle.form_lines.specs.Pass.{gathered, apart, is_taken}
use Rattle.form_lines.proofs.PassLaws.{every_next, taken_test}
use Rattle.form_lines.proofs.begin.Goals as goal

pub loop-m-init : goal.loop-m-init
unfolding every
loop-m-init c = (omega arith, c.requires.0, (λ x l. absurd (omega arith)), refl)

pub gather_acks-met-requires : goal.gather_acks-met-requires
gather_acks-met-requires c = (c.requires.1, c.requires.2, c.requires.3, omega arith)

pub waiting_by-waiting-requires : goal.waiting_by-waiting-requires
waiting_by-waiting-requires c = (c.requires.2, omega arith)

pub offset_bounds-masks-m : goal.offset_bounds-masks-m
offset_bounds-masks-m c = omega arith

pub bounds-masks-m : goal.bounds-masks-m
bounds-masks-m c = omega arith

pub loop-m-preserved : goal.loop-m-preserved
loop-m-preserved c = (omega arith, length-set c.loop-m.masks c.loop-m.m c.gather_acks-met.result.carts ∙ c.loop-m.invariant.1, read_one (λ x. gathered (stations_in c.args.stations.now) (rooms_in c.args.messages.now) x c.args.n) c.loop-m.masks c.loop-m.m c.gather_acks-met.result.carts (omega arith) c.gather_acks-met.ensures.1 c.loop-m.invariant.2, every_next (λ x. not (is_taken (rooms_in c.args.messages.now) x) || apart (stations_in c.args.stations.now) (rooms_in c.args.messages.now) x c.args.n) c.loop-m.m c.loop-m.ok _ _ c.loop-m.invariant.3 (taken_test (rooms_in c.args.messages.now) c.loop-m.m c.waiting_by-waiting.result c.gather_acks-met.result.apart (apart (stations_in c.args.stations.now) (rooms_in c.args.messages.now) c.loop-m.m c.args.n) _ c.waiting_by-waiting.ensures c.gather_acks-met.ensures.0 refl) refl)

pub shape_of-masks : goal.shape_of-masks
shape_of-masks c = c.loop-m.invariant.1 ∙ sym c.requires.0

pub returns : goal.returns
returns c =
    record {
      value = c.loop-m.invariant.3 ∙ ap (λ (x : ℕ). every x (λ x. not (is_taken (rooms_in c.args.messages.now) x) || apart (stations_in c.args.stations.now) (rooms_in c.args.messages.now) x c.args.n)) (let z : c.loop-m.m ≡ 32 = omega arith in z);
      masks_after = read_all 32 (λ x. gathered (stations_in c.args.stations.now) (rooms_in c.args.messages.now) x c.args.n) c.loop-m.masks c.loop-m.m c.loop-m.invariant.1 (omega arith) c.loop-m.invariant.2;
    }
