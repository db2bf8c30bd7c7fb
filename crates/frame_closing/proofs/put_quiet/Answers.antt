-- `frame_closing::put_quiet` meets its contract.
use mathlib.Core.Path.{refl}
use native.Mathlib.Omega.{arith}
use Rattle.protocol.specs.Closing.{quiet_word}
use Rattle.frame_lines.proofs.Octets.{part_written, wrote_all}
use Rattle.frame_closing.proofs.put_quiet.Goals as goal

pub returns : goal.returns
returns c =
    let a = c.args in
    wrote_all a.line.now 0 quiet_word (omega arith) refl (omega arith) (part_written a.line.now _ quiet_word 0 5 c.copy_from_slice.ensures.after refl)
