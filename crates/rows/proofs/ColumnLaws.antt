-- COLUMNS: what one word put into a table makes of the columns of its rows. W r k is word k of row r.
use mathlib.Core.Path.{◌≡◌, refl, sym, ap, ◌∙◌}
use mathlib.Core.Bool.{Bool, cond, ◌&&◌}
use Prim.Native.Nat.{ℕ, ◌≤◌, ◌<◌}
use lib.Dec.{eqb}
use borrow.Author.Tests.{lt-ltb, le-ltb, eq-eqb, eqb-true}
use Rattle.protocol.specs.Folds.{update, update2}
use Rattle.protocol.proofs.Tests.{by_test, by_lt, same_test, and_second_false, beyond_differs}
use Rattle.rows.specs.Rows.{column}
use Rattle.rows.proofs.RowLaws.{update2_column}

and_turned : (a b : Bool) → (a && b) ≡ (b && a)
and_turned a b = by_test a (λ p. by_test b (λ q. rw (p, q)) (λ q. rw (p, q))) (λ p. by_test b (λ q. rw (p, q)) (λ q. rw (p, q)))

-- one word of each row, and that word put
pub word_put : (W : ℕ → ℕ → ℕ) (r k v s : ℕ) → update2 W r k v s k ≡ update (λ u. W u k) r v s
word_put W r k v s =
    let z = eq-eqb k k refl in
    by_test (eqb s r) (λ e. rw (e, z)) (λ e. rw e)

-- a word within its column
pub column_read : (n : ℕ) (pos : ℕ → ℕ) (W : ℕ → ℕ → ℕ) (r j : ℕ) → j < n → W r (pos j) ≡ column n pos W r j
unfolding column
column_read n pos W r j h = rw (lt-ltb j n h)

-- beyond the column there is nothing
pub column_beyond : (n : ℕ) (pos : ℕ → ℕ) (W : ℕ → ℕ → ℕ) (r j : ℕ) → n ≤ j → column n pos W r j ≡ 0
unfolding column
column_beyond n pos W r j h = rw (le-ltb j n h)

-- in a row of nothing but 0
pub column_zero : (n : ℕ) (pos : ℕ → ℕ) (W : ℕ → ℕ → ℕ) (r j : ℕ) → ((k : ℕ) → W r k ≡ 0) → column n pos W r j ≡ 0
column_zero n pos W r j h = by_lt j n (λ l. sym (column_read n pos W r j l) ∙ h (pos j)) (λ l. column_beyond n pos W r j l)

module _ (n : ℕ) (pos : ℕ → ℕ) (W : ℕ → ℕ → ℕ) (r v : ℕ) where
  -- a word put at a position of another column
  pub column_stays : (k : ℕ) → ((j : ℕ) → j < n → pos j ≡ k → ⊥) → (s j : ℕ) → column n pos (update2 W r k v) s j ≡ column n pos W s j
  column_stays k other s j =
      by_lt j n
      (λ l. sym (column_read n pos (update2 W r k v) s j l) ∙ update2_column W r k v s (pos j) (other j l) ∙ column_read n pos W s j l)
      (λ l. column_beyond n pos (update2 W r k v) s j l ∙ sym (column_beyond n pos W s j l))

  module _ (i : ℕ) (inside : i < n) (apart : (j : ℕ) → j < n → pos j ≡ pos i → j ≡ i) where
    same_word : (j : ℕ) → j < n → eqb (pos j) (pos i) ≡ eqb j i
    same_word j l =
        same_test (eqb (pos j) (pos i)) (eqb j i)
        (λ e. eq-eqb j i (apart j l (eqb-true (pos j) (pos i) e)))
        (λ e. eq-eqb (pos j) (pos i) (ap pos (eqb-true j i e)))

    -- a word put at the position of number i: that entry of the column is changed
    pub column_put : (s j : ℕ) → column n pos (update2 W r (pos i) v) s j ≡ update2 (column n pos W) r i v s j
    column_put s j =
        by_lt j n
        (λ l. sym (column_read n pos (update2 W r (pos i) v) s j l)
        ∙ ap (λ (b : Bool). cond (eqb s r && b) v (W s (pos j))) (same_word j l)
        ∙ ap (λ (x : ℕ). cond (eqb s r && eqb j i) v x) (column_read n pos W s j l))
        (λ l. column_beyond n pos (update2 W r (pos i) v) s j l
        ∙ sym (column_beyond n pos W s j l)
        ∙ sym (ap (λ (b : Bool). cond b v (column n pos W s j)) (and_second_false (eqb s r) (eqb j i) (beyond_differs j i n inside l))))

    -- the same with the number first, then the row
    pub column_put_turned : (j s : ℕ) → column n pos (update2 W r (pos i) v) s j ≡ update2 (λ k u. column n pos W u k) i r v j s
    column_put_turned j s =
        column_put s j ∙ ap (λ (b : Bool). cond b v (column n pos W s j)) (and_turned (eqb s r) (eqb j i))
