-- Laws of chains of rows, over any function that says which row is next.
use mathlib.Core.Path.{◌≡◌, refl, ap, ◌∙◌}
use mathlib.Core.List.{List, [], ◌∷◌, ◌++◌}
use Prim.Native.Nat.{ℕ, zero, suc}
use native.Mathlib.Omega.{arith}
use lib.ListN.{length}
use Rattle.lines.specs.Lines.{chain}
use Rattle.lines.specs.Form.{count, last_of}
use Rattle.lines.proofs.Digits.{same_yes}
use Rattle.lines.proofs.Sums.{last_end}

-- row p of a chain, from 0
unfoldable pub nth : (ℕ → ℕ) → ℕ → ℕ → ℕ
nth next x zero = x
nth next x (suc p) = nth next (next x) p

pub length_chain : (next : ℕ → ℕ) (x n : ℕ) → length (chain next x n) ≡ n
unfolding chain
length_chain next x zero = refl
length_chain next x (suc n) = ap suc (length_chain next (next x) n)

pub chain_none : (next : ℕ → ℕ) (x : ℕ) → chain next x 0 ≡ []
unfolding chain
chain_none next x = refl

pub chain_one : (next : ℕ → ℕ) (x n : ℕ) → n ≡ 1 → chain next x n ≡ x ∷ []
unfolding chain
chain_one next x n e = ap (chain next x) e

pub chain_head : (next : ℕ → ℕ) (x m n : ℕ) → n ≡ suc m → chain next x n ≡ x ∷ chain next (next x) m
unfolding chain
chain_head next x m n e = ap (chain next x) e

pub chain_split : (next : ℕ → ℕ) (x n : ℕ) → chain next x (suc n) ≡ chain next x n ++ (nth next x n ∷ [])
unfolding chain nth
chain_split next x zero = refl
chain_split next x (suc n) = ap (λ (t : List ℕ). x ∷ t) (chain_split next (next x) n)

pub last_chain : (d : ℕ) (next : ℕ → ℕ) (x n : ℕ) → last_of d (chain next x (suc n)) ≡ nth next x n
last_chain d next x n = ap (last_of d) (chain_split next x n) ∙ last_end d (nth next x n) (chain next x n)

-- where row t alone has another next row
module _ (next next' : ℕ → ℕ) (t : ℕ) (same : (y : ℕ) → (y ≡ t → ⊥) → next' y ≡ next y) where
  -- a chain without t stays
  pub chain_same : (x n : ℕ) → count t (chain next x n) ≡ 0 → chain next' x n ≡ chain next x n
  unfolding chain count
  chain_same x zero e = refl
  chain_same x (suc n) e = ap (λ (s : List ℕ). x ∷ s) (ap (λ (y : ℕ). chain next' y n) (same x other) ∙ chain_same (next x) n (omega (arith, e)))
    where
      other : x ≡ t → ⊥
      other q = omega (arith, e, same_yes x t q)

  -- a chain that ends with t goes on with the row after t
  pub chain_join : (f x n : ℕ) → next' t ≡ f → nth next x n ≡ t → count t (chain next x n) ≡ 0
      → chain next' x (suc (suc n)) ≡ chain next x (suc n) ++ (f ∷ [])
  unfolding chain count nth
  chain_join f x zero q e h = ap (λ (y : ℕ). x ∷ y ∷ []) (ap next' e ∙ q)
  chain_join f x (suc n) q e h =
      ap (λ (s : List ℕ). x ∷ s) (ap (λ (y : ℕ). chain next' y (suc (suc n))) (same x other) ∙ chain_join f (next x) n q e (omega (arith, h)))
    where
      other : x ≡ t → ⊥
      other z = omega (arith, h, same_yes x t z)
