-- `frame_lines::put_small` meets its contract.
use mathlib.Core.Path.{refl, sym}
use Prim.Native.Nat.{◌+◌, ◌/◌, ◌%◌}
use native.Mathlib.Omega.{arith}
use lib.ListN.{length-set}
use Rattle.frame_lines.proofs.Octets.{wrote_wider}
use Rattle.frame_lines.proofs.Numbers.{length_two, length_four, digit_written, digits_written, split_written}
use Rattle.frame_lines.proofs.put_small.Goals as goal

pub returns-then-n-lt10 : goal.returns-then-n-lt10
returns-then-n-lt10 c =
    let a = c.args in
    wrote_wider (omega arith) (digit_written a.out.now a.at a.n c.digit.result _ (omega arith) (omega arith) c.digit.ensures refl)

pub returns-then-n-lt100 : goal.returns-then-n-lt100
returns-then-n-lt100 c =
    let a = c.args in
    let count = sym (length_two a.n (omega arith) (omega arith)) in
    digits_written 4 a.out.now _ a.at a.n 2 count (omega arith) c.requires.0 c.put_pair.ensures

pub put_pair-requires-then-n-lt1000 : goal.put_pair-requires-then-n-lt1000
put_pair-requires-then-n-lt1000 c = simp length-set (omega arith, omega arith)

pub returns-then-n-lt1000 : goal.returns-then-n-lt1000
returns-then-n-lt1000 c =
    let a = c.args in
    split_written 4 2 a.n (a.n / 100) (a.n % 100) (omega arith) (omega arith) (omega arith) (omega arith) c.requires.0 (omega arith)
    (digit_written a.out.now a.at (a.n / 100) c.digit-then-n-lt1000.result (a.at + 1) (omega arith) (omega arith) c.digit-then-n-lt1000.ensures refl)
    c.put_pair-then-n-lt1000.ensures

pub returns : goal.returns
returns c =
    let a = c.args in
    let count = sym (length_four a.n (omega arith) (omega arith)) in
    digits_written 4 a.out.now _ a.at a.n 4 count (omega arith) c.requires.0 c.put_four.ensures
