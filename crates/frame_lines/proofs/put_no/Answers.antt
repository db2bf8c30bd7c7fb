-- `frame_lines::put_no` meets its contract.
use mathlib.Core.Path.{refl}
use mathlib.Core.List.{[], ◌∷◌}
use native.Mathlib.Omega.{arith}
use Rattle.frame_lines.proofs.Octets.{part_written, wrote_all}
use Rattle.frame_lines.proofs.put_no.Goals as goal

pub returns : goal.returns
returns c =
    let a = c.args in
    wrote_all a.out.now a.at (32 ∷ 110 ∷ 111 ∷ []) (omega arith) refl (omega arith) (part_written a.out.now _ _ a.at _ c.copy_from_slice.ensures.after (omega arith))
