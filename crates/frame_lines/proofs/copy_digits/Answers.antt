-- `frame_lines::copy_digits` meets its contract.
use mathlib.Core.Path.{refl}
use native.Mathlib.Omega.{arith}
use Rattle.frame_lines.specs.Lines.{text_digits}
use Rattle.frame_lines.proofs.Octets.{front_copied}
use Rattle.frame_lines.proofs.copy_digits.Goals as goal

pub returns : goal.returns
returns c =
    let a = c.args in
    front_copied text_digits a.out.now _ _ a.digits.now _ _ a.at a.count (omega arith) (omega arith) (omega arith) refl
    c.copy_part.ensures c.copy_part-2.ensures c.copy_part-3.ensures
