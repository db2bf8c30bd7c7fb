-- ROWS OF WORDS, of any width w: a word put into a table is read where it was put, and every other word is what it was.
use mathlib.Core.Path.{◌≡◌, refl, sym, ap, ◌∙◌, subst, fun_ext}
use mathlib.Core.Bool.{Bool, cond, ◌&&◌}
use mathlib.Core.List.{List}
use Prim.Native.Nat.{ℕ, ◌+◌, ◌*◌, ◌≤◌, ◌<◌}
use native.Mathlib.Nat.{mul-le-mul_right, suc-mul}
use native.Mathlib.Omega.{arith}
use lib.Dec.{eqb}
use lib.ListN.{length, get_or, set, get_or-eq_default}
use lib.Seq.{get_or-set_same, get_or-set_other}
use borrow.Author.Tests.{lt-ltb, le-ltb, ne_eqb}
use Rattle.protocol.specs.Folds.{update2}
use Rattle.protocol.proofs.Tests.{by_test, by_lt, and_second_false, both_equal, not_both_equal}
use Rattle.rows.specs.Rows.{cell}

-- a row ends before the next begins
row_before : (w r s : ℕ) → r < s → r * w + w ≤ s * w
row_before w r s h = subst (λ (x : ℕ). x ≤ s * w) (suc-mul r w) (mul-le-mul_right w h)

-- two words in one place of the table are in the same row, at the same place of it
same_row : (w r s k j : ℕ) → k < w → j < w → r * w + k ≡ s * w + j → r ≡ s
same_row w r s k j hk hj e =
    by_lt r s
    (λ l. absurd (let z = row_before w r s l in omega arith))
    (λ l. by_lt s r (λ l. absurd (let z = row_before w s r l in omega arith)) (λ m. omega arith))

same_column : (w r s k j : ℕ) → r ≡ s → r * w + k ≡ s * w + j → k ≡ j
same_column w r s k j q e = let z : r * w ≡ s * w = ap (λ (x : ℕ). x * w) q in omega arith

-- a word within its row
pub cell_read : (w : ℕ) (l : List ℕ) (r k i : ℕ) → k < w → i ≡ r * w + k → get_or l i 0 ≡ cell w l r k
unfolding cell
cell_read w l r k i h e = rw (lt-ltb k w h) (ap (λ (x : ℕ). get_or l x 0) e)

-- beyond the row there is nothing
pub cell_beyond : (w : ℕ) (l : List ℕ) (r k : ℕ) → w ≤ k → cell w l r k ≡ 0
unfolding cell
cell_beyond w l r k h = rw (le-ltb k w h)

-- nor beyond the table
pub cell_past : (w : ℕ) (l : List ℕ) (r k : ℕ) → length l ≤ r * w → cell w l r k ≡ 0
cell_past w l r k h =
    by_lt k w
    (λ m. sym (cell_read w l r k (r * w + k) m refl) ∙ get_or-eq_default l 0 (omega arith))
    (λ m. cell_beyond w l r k m)

module _ (w : ℕ) (l : List ℕ) (r k i v : ℕ) (inside : k < w) (there : i < length l) (e : i ≡ r * w + k) where
  put_same : (s j : ℕ) → s ≡ r → j ≡ k → cell w (set l i v) s j ≡ v
  put_same s j p q =
      sym (cell_read w (set l i v) s j i (omega arith) (e ∙ ap (λ (x : ℕ). x * w + k) (sym p) ∙ ap (λ (x : ℕ). s * w + x) (sym q)))
      ∙ get_or-set_same l i v 0 there

  put_other : (s j : ℕ) → (s ≡ r → j ≡ k → ⊥) → cell w (set l i v) s j ≡ cell w l s j
  put_other s j h =
      by_lt j w
      (λ m. sym (cell_read w (set l i v) s j (s * w + j) m refl)
      ∙ get_or-set_other l i (s * w + j) v 0 (λ q. let z : s * w + j ≡ r * w + k = q ∙ e in let y = same_row w s r j k m inside z in h y (same_column w s r j k y z))
      ∙ cell_read w l s j (s * w + j) m refl)
      (λ m. cell_beyond w (set l i v) s j m ∙ sym (cell_beyond w l s j m))

  -- the table with one word put in it
  pub cell_put : cell w (set l i v) ≡ update2 (cell w l) r k v
  cell_put =
      fun_ext (λ s. fun_ext (λ j. by_test (eqb s r && eqb j k)
      (λ q. let z = both_equal s r j k q in put_same s j z.0 z.1 ∙ sym (ap (λ (b : Bool). cond b v (cell w l s j)) q))
      (λ q. put_other s j (not_both_equal s r j k q) ∙ sym (ap (λ (b : Bool). cond b v (cell w l s j)) q))))

-- another column of a table with one entry changed
pub update2_column : (f : ℕ → ℕ → ℕ) (r k v s j : ℕ) → (j ≡ k → ⊥) → update2 f r k v s j ≡ f s j
update2_column f r k v s j h = ap (λ (b : Bool). cond b v (f s j)) (and_second_false (eqb s r) (eqb j k) (ne_eqb j k h))

-- a table of nothing but 0
pub cell_zero : (w : ℕ) (l : List ℕ) → ((k : ℕ) → get_or l k 0 ≡ 0) → cell w l ≡ (λ r k. 0)
cell_zero w l h =
    fun_ext (λ r. fun_ext (λ k. by_lt k w
    (λ m. sym (cell_read w l r k (r * w + k) m refl) ∙ h (r * w + k))
    (λ m. cell_beyond w l r k m)))
