use native.Mathlib.Omega.{arith}
use Rattle.frame_lines.proofs.Numbers.{length_one, length_two, length_three, length_four, length_four_more, some_digit, number_long}
use Rattle.frame_lines.proofs.digits_of.Goals as goal

pub loop-left-init : goal.loop-left-init
loop-left-init c = (omega arith, number_long c.args.n (omega arith))

pub overflow_add-count : goal.overflow_add-count
overflow_add-count c = omega (arith, some_digit c.loop-left.left)

pub loop-left-smaller : goal.loop-left-smaller
loop-left-smaller c = omega arith

pub loop-left-preserved : goal.loop-left-preserved
loop-left-preserved c = (omega (arith, length_four_more c.loop-left.left (omega arith)), c.loop-left.invariant.1)

pub returns-then-left-lt10 : goal.returns-then-left-lt10
returns-then-left-lt10 c = let z = length_one c.loop-left.left (omega arith) in (omega arith, omega arith)

pub overflow_add-result : goal.overflow_add-result
overflow_add-result c = let z = some_digit c.loop-left.left in omega arith

pub returns-then-left-lt100 : goal.returns-then-left-lt100
returns-then-left-lt100 c = let z = length_two c.loop-left.left (omega arith) (omega arith) in (omega arith, omega arith)

pub overflow_add-result-then-left-lt1000 : goal.overflow_add-result-then-left-lt1000
overflow_add-result-then-left-lt1000 c = let z = some_digit c.loop-left.left in omega arith

pub returns-then-left-lt1000 : goal.returns-then-left-lt1000
returns-then-left-lt1000 c = let z = length_three c.loop-left.left (omega arith) (omega arith) in (omega arith, omega arith)

pub overflow_add-result-2 : goal.overflow_add-result-2
overflow_add-result-2 c = let z = some_digit c.loop-left.left in omega arith

pub returns : goal.returns
returns c = let z = length_four c.loop-left.left (omega arith) (omega arith) in (omega arith, omega arith)
