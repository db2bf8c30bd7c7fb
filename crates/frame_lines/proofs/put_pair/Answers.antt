-- `frame_lines::put_pair` meets its contract.
use mathlib.Core.Path.{ap, ◌∙◌}
use mathlib.Core.List.{List}
use Prim.Native.Nat.{ℕ}
use lib.ListN.{length}
use native.Mathlib.Omega.{arith}
use Rattle.frame_lines.proofs.Octets.{part_written}
use Rattle.frame_lines.proofs.Numbers.{two_octets, pair_octets, pair_word}
use Rattle.frame_lines.proofs.put_pair.Goals as goal

pub returns : goal.returns
returns c =
    let a = c.args in
    let digits = pair_octets a.n c.requires.1 in
    let long = ap (λ (l : List ℕ). length l) digits in
    part_written a.out.now _ _ a.at _ (c.copy_from_slice.ensures.after ∙ c.to_le_bytes.ensures ∙ two_octets (pair_word a.n) (omega arith) ∙ digits) (omega arith)
