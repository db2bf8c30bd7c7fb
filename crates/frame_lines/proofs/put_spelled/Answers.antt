-- `frame_lines::put_spelled` meets its contract.
use mathlib.Core.Path.{refl}
use native.Mathlib.Omega.{arith}
use Rattle.frame_lines.proofs.Numbers.{at_most_four, spelled_written}
use Rattle.frame_lines.proofs.put_spelled.Goals as goal

pub overflow_add-result : goal.overflow_add-result
overflow_add-result c = omega (arith, at_most_four c.args.n c.requires.2, (c.requires.1.spelled c.args.n c.requires.2).count)

pub returns : goal.returns
returns c =
    let a = c.args in
    spelled_written a.n _ a.out.now _ a.at _ c.requires.2 c.requires.0 (c.requires.1.spelled a.n c.requires.2) refl c.put_word.ensures
