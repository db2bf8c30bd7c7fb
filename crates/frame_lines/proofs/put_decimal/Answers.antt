-- `frame_lines::put_decimal` meets its contract.
use mathlib.Core.Path.{refl}
use Prim.Native.Nat.{◌/◌, ◌%◌}
use native.Mathlib.Omega.{arith}
use Rattle.frame_lines.specs.Lines.{longest_number}
use Rattle.frame_lines.proofs.Numbers.{digits_written, split_written}
use Rattle.frame_lines.proofs.put_decimal.Goals as goal

pub returns-then-n-lt100000000 : goal.returns-then-n-lt100000000
returns-then-n-lt100000000 c =
    let a = c.args in
    split_written longest_number 4 a.n (a.n / 10000) (a.n % 10000) (omega arith) (omega arith) (omega arith) (omega arith) c.requires refl
    c.put_small-next.ensures c.put_four.ensures

pub returns : goal.returns
returns c =
    let a = c.args in
    let count = c.digits_of-count in
    digits_written longest_number a.out.now _ a.at a.n count.result count.ensures.0 count.ensures.1 c.requires c.put_digits.ensures
