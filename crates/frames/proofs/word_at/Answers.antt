-- `frames::word_at` meets its contract.
use mathlib.Core.Path.{ap, ◌∙◌}
use native.Mathlib.Omega.{arith}
use lib.ListN.{drop, take, length-drop}
use lib.Seq.{length-take-le, take-take}
use Prim.Native.Nat.{◌+◌, ◌-◌}
use Rattle.std.specs.Int.{w64, from_be_bytes}
use Rattle.frames.proofs.Laws.{word_made}
use Rattle.frames.proofs.word_at.Goals as goal

pub returns : goal.returns
returns c =
    let a = c.args in
    let l = drop a.at a.octets.now in
    let sizes = length-drop a.at a.octets.now in
    let eight = rw c.unwrap-eight.ensures at c.first_chunk.ensures.cases in
    c.from_be_bytes.ensures
    ∙ ap (from_be_bytes w64) (eight.same ∙ take-take 8 (a.at + 8 - a.at) l (omega arith))
    ∙ word_made (take 8 l) (length-take-le 8 l (omega arith))
