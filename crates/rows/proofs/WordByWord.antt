-- A ROW READ WORD BY WORD: what a loop over the words of a row leaves in an array.
use mathlib.Core.Path.{◌≡◌, sym, ap, ◌∙◌}
use mathlib.Core.List.{List}
use Prim.Native.Nat.{ℕ, ◌+◌, ◌≤◌, ◌<◌}
use native.Mathlib.Omega.{arith}
use lib.ListN.{length, get_or, set}
use lib.Seq.{get_or-set_same, get_or-set_other, ext_get_or}
use Rattle.protocol.specs.Folds.{list_of}
use Rattle.protocol.proofs.Tests.{by_eq, length_list_of, list_of_at}

-- the first i entries of a row are f's
abbrev pub ReadTo : (ℕ → ℕ) → List ℕ → ℕ → Type 0
ReadTo f row i = (k : ℕ) → k < i → get_or row k 0 ≡ f k

pub read_one : (f : ℕ → ℕ) (row : List ℕ) (i v : ℕ) → i < length row → v ≡ f i → ReadTo f row i → ReadTo f (set row i v) (i + 1)
read_one f row i v h e before k l =
    by_eq k i
    (λ q. ap (λ (n : ℕ). get_or (set row i v) n 0) q ∙ get_or-set_same row i v 0 h ∙ e ∙ ap f (sym q))
    (λ q. get_or-set_other row i k v 0 q ∙ before k (omega arith))

pub read_all : (n : ℕ) (f : ℕ → ℕ) (row : List ℕ) (i : ℕ) → length row ≡ n → n ≤ i → ReadTo f row i → row ≡ list_of n f
read_all n f row i e h r =
    ext_get_or 0 row (list_of n f) (e ∙ sym (length_list_of n f)) (λ k l. r k (omega arith) ∙ sym (list_of_at n f 0 k (omega arith)))
