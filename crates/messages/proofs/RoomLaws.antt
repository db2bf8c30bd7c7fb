-- THE MESSAGES' TABLE: what a store of words makes of the rooms.
use mathlib.Core.Path.{◌≡◌, ap, ◌∙◌}
use mathlib.Core.Bool.{cond}
use mathlib.Core.List.{List}
use Prim.Native.Nat.{ℕ, ◌*◌, ◌≤◌}
use native.Mathlib.Omega.{arith}
use lib.Dec.{eqb}
use lib.ListN.{length, get_or}
use Rattle.protocol.specs.Folds.{update2}
use Rattle.protocol.proofs.Tests.{by_test}
use Rattle.rows.specs.Rows.{cell}
use Rattle.rows.proofs.RowLaws.{cell_zero, cell_past, update2_column}
use Rattle.rows.proofs.ColumnLaws.{word_put}
use Rattle.messages.specs.View.{width, rooms_of, rooms_in, no_rooms, with_acked, with_waiting, with_offset, with_message}

-- THE WORDS OF A ROW. W m k is word k of room m.

-- one word
module _ (W : ℕ → ℕ → ℕ) (m v : ℕ) where
  cells_acked : rooms_of (update2 W m 3 v) ≡ with_acked (rooms_of W) m v
  cells_acked = λ i. record {
    initiator = λ k. update2_column W m 3 v k 0 (omega arith) i;
    number = λ k. update2_column W m 3 v k 1 (omega arith) i;
    named = λ k. update2_column W m 3 v k 2 (omega arith) i;
    acked = λ k. word_put W m 3 v k i;
    waiting = λ k. update2_column W m 3 v k 4 (omega arith) i;
    length = λ k. update2_column W m 3 v k 5 (omega arith) i;
    offset = λ k. update2_column W m 3 v k 6 (omega arith) i;
  }

  cells_waiting : rooms_of (update2 W m 4 v) ≡ with_waiting (rooms_of W) m v
  cells_waiting = λ i. record {
    initiator = λ k. update2_column W m 4 v k 0 (omega arith) i;
    number = λ k. update2_column W m 4 v k 1 (omega arith) i;
    named = λ k. update2_column W m 4 v k 2 (omega arith) i;
    acked = λ k. update2_column W m 4 v k 3 (omega arith) i;
    waiting = λ k. word_put W m 4 v k i;
    length = λ k. update2_column W m 4 v k 5 (omega arith) i;
    offset = λ k. update2_column W m 4 v k 6 (omega arith) i;
  }

  cells_offset : rooms_of (update2 W m 6 v) ≡ with_offset (rooms_of W) m v
  cells_offset = λ i. record {
    initiator = λ k. update2_column W m 6 v k 0 (omega arith) i;
    number = λ k. update2_column W m 6 v k 1 (omega arith) i;
    named = λ k. update2_column W m 6 v k 2 (omega arith) i;
    acked = λ k. update2_column W m 6 v k 3 (omega arith) i;
    waiting = λ k. update2_column W m 6 v k 4 (omega arith) i;
    length = λ k. update2_column W m 6 v k 5 (omega arith) i;
    offset = λ k. word_put W m 6 v k i;
  }

-- a whole row
module _ (W : ℕ → ℕ → ℕ) (m s n named waiting octets offset : ℕ) where
  abbrev row : ℕ → ℕ → ℕ
  row = update2 (update2 (update2 (update2 (update2 (update2 (update2 W m 0 s) m 1 n) m 2 named) m 3 0) m 4 waiting) m 5 octets) m 6 offset

  -- what the seven words of a row say
  seven {ℓ} : {A : Type ℓ} (f : ℕ → ℕ → ℕ → ℕ → ℕ → ℕ → ℕ → A) (k : ℕ)
      → f (row k 0) (row k 1) (row k 2) (row k 3) (row k 4) (row k 5) (row k 6)
      ≡ cond (eqb k m) (f s n named 0 waiting octets offset) (f (W k 0) (W k 1) (W k 2) (W k 3) (W k 4) (W k 5) (W k 6))
  seven f k = by_test (eqb k m) (λ e. rw e) (λ e. rw e)

  cells_message : rooms_of row ≡ with_message (rooms_of W) m s n named waiting octets offset
  cells_message = λ i. record {
    initiator = λ k. seven (λ a b d e f g h. a) k i;
    number = λ k. seven (λ a b d e f g h. b) k i;
    named = λ k. seven (λ a b d e f g h. d) k i;
    acked = λ k. seven (λ a b d e f g h. e) k i;
    waiting = λ k. seven (λ a b d e f g h. f) k i;
    length = λ k. seven (λ a b d e f g h. g) k i;
    offset = λ k. seven (λ a b d e f g h. h) k i;
  }

-- THE TABLE

module _ (l k : List ℕ) (m v : ℕ) where
  pub acked_put : cell width k ≡ update2 (cell width l) m 3 v → rooms_in k ≡ with_acked (rooms_in l) m v
  unfolding rooms_in
  acked_put e = ap rooms_of e ∙ cells_acked (cell width l) m v

  pub waiting_put : cell width k ≡ update2 (cell width l) m 4 v → rooms_in k ≡ with_waiting (rooms_in l) m v
  unfolding rooms_in
  waiting_put e = ap rooms_of e ∙ cells_waiting (cell width l) m v

  pub offset_put : cell width k ≡ update2 (cell width l) m 6 v → rooms_in k ≡ with_offset (rooms_in l) m v
  unfolding rooms_in
  offset_put e = ap rooms_of e ∙ cells_offset (cell width l) m v

-- the seven stores of a new message
pub message_put : (l l₁ l₂ l₃ l₄ l₅ l₆ l₇ : List ℕ) (m s n named waiting octets offset : ℕ)
    → cell width l₁ ≡ update2 (cell width l) m 0 s
    → cell width l₂ ≡ update2 (cell width l₁) m 1 n
    → cell width l₃ ≡ update2 (cell width l₂) m 2 named
    → cell width l₄ ≡ update2 (cell width l₃) m 3 0
    → cell width l₅ ≡ update2 (cell width l₄) m 4 waiting
    → cell width l₆ ≡ update2 (cell width l₅) m 5 octets
    → cell width l₇ ≡ update2 (cell width l₆) m 6 offset
    → rooms_in l₇ ≡ with_message (rooms_in l) m s n named waiting octets offset
unfolding rooms_in
message_put l l₁ l₂ l₃ l₄ l₅ l₆ l₇ m s n named waiting octets offset e₁ e₂ e₃ e₄ e₅ e₆ e₇ =
    ap rooms_of (e₇ ∙ then 6 offset (e₆ ∙ then 5 octets (e₅ ∙ then 4 waiting (e₄ ∙ then 3 0 (e₃ ∙ then 2 named (e₂ ∙ then 1 n e₁))))))
    ∙ cells_message (cell width l) m s n named waiting octets offset
  where
    then : (k v : ℕ) {W X : ℕ → ℕ → ℕ} → W ≡ X → update2 W m k v ≡ update2 X m k v
    then k v e = ap (λ (Y : ℕ → ℕ → ℕ). update2 Y m k v) e

-- a cleared table
pub no_rooms_lem : (l : List ℕ) → ((k : ℕ) → get_or l k 0 ≡ 0) → rooms_in l ≡ no_rooms
unfolding rooms_in
no_rooms_lem l h = ap rooms_of (cell_zero width l h)

-- beyond the table no room is taken
pub waiting_past : (l : List ℕ) (m : ℕ) → length l ≤ m * width → (rooms_in l).waiting m ≡ 0
unfolding rooms_in
waiting_past l m h = cell_past width l m 4 h
