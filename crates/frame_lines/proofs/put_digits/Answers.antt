use mathlib.Core.Path.{◌≡◌, refl, ap}
use Prim.Native.Nat.{ℕ, ◌+◌, ◌-◌}
use native.Mathlib.Omega.{arith}
use lib.ListN.{length-set}
use Rattle.frame_lines.specs.Lines.{written, last_digits}
use Rattle.frame_lines.proofs.Numbers.{two_stored, last_stored, digits_done}
use Rattle.frame_lines.proofs.put_digits.Goals as goal

pub overflow_add-i : goal.overflow_add-i
overflow_add-i c = omega arith

pub loop-i-init : goal.loop-i-init
loop-i-init c = let a = c.args in (omega arith, omega arith, refl, ap (λ (k : ℕ). written a.out.now a.at (last_digits k a.n)) (let z : a.at + a.count - a.at ≡ a.count = omega arith in z))

pub overflow_add-at : goal.overflow_add-at
overflow_add-at c = omega arith

pub digit-requires : goal.digit-requires
digit-requires c = omega arith

pub overflow_sub-out : goal.overflow_sub-out
overflow_sub-out c = omega arith

pub bounds-out-i : goal.bounds-out-i
bounds-out-i c = omega arith

pub digit-requires-in-loop-i : goal.digit-requires-in-loop-i
digit-requires-in-loop-i c = omega arith

pub overflow_sub-out-in-loop-i : goal.overflow_sub-out-in-loop-i
overflow_sub-out-in-loop-i c = omega arith

pub bounds-out-i-in-loop-i : goal.bounds-out-i-in-loop-i
bounds-out-i-in-loop-i c = simp length-set (omega arith)

pub overflow_sub-i : goal.overflow_sub-i
overflow_sub-i c = omega arith

pub loop-i-smaller : goal.loop-i-smaller
loop-i-smaller c = omega arith

pub loop-i-preserved : goal.loop-i-preserved
loop-i-preserved c = let a = c.args in let v = c.loop-i in (omega arith, simp length-set (omega arith), simp length-set v.invariant.2, two_stored v.out a.at v.i c.digit.result c.digit-in-loop-i.result v.left _ (omega arith) (omega arith) c.digit.ensures c.digit-in-loop-i.ensures v.invariant.3)

pub digit-requires-then-at-i : goal.digit-requires-then-at-i
digit-requires-then-at-i c = omega arith

pub bounds-out-at : goal.bounds-out-at
bounds-out-at c = omega arith

pub shape_of-out-then-at-i : goal.shape_of-out-then-at-i
shape_of-out-then-at-i c = let v = c.loop-i in simp length-set v.invariant.2

pub returns-then-at-i : goal.returns-then-at-i
returns-then-at-i c = let a = c.args in let v = c.loop-i in last_stored v.out a.at v.i c.digit-then-at-i.result v.left _ (let z : v.i ≡ a.at + 1 = omega arith in z) (omega arith) c.digit-then-at-i.ensures v.invariant.3

pub shape_of-out-else-at-i : goal.shape_of-out-else-at-i
shape_of-out-else-at-i c = c.loop-i.invariant.2

pub returns-else-at-i : goal.returns-else-at-i
returns-else-at-i c = let a = c.args in let v = c.loop-i in digits_done v.out a.at _ v.left _ (let z : v.i - a.at ≡ 0 = omega arith in z) v.invariant.3
