-- OCTETS KEPT: moved to the front of a piece of input.
use mathlib.Core.Path.{◌≡◌, ap₂, ◌∙◌}
use mathlib.Core.List.{List}
use Prim.Native.Nat.{ℕ, ◌+◌, ◌≤◌}
use native.Mathlib.Omega.{arith}
use lib.ListN.{length, take, drop, length-drop}
use lib.Seq.{paste, take-paste}

-- what stands at the front then
pub kept_front : (l x : List ℕ) (at n : ℕ) → at + n ≤ length l → x ≡ paste l 0 (drop at l) n → take n x ≡ take n (drop at l)
kept_front l x at n h e =
    let size = length-drop at l in
    let begins : n ≡ 0 + n = omega arith in
    ap₂ take begins e ∙ take-paste l 0 (drop at l) n (omega arith) (omega arith)
