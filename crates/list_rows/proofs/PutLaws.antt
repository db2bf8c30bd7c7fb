-- WORDS AND OCTETS OF ROWS: what stores of words and a copied text make of the rows.
use mathlib.Core.Path.{◌≡◌, ap, ap₂, fun_ext, ◌∙◌}
use mathlib.Core.List.{List, ◌++◌}
use Prim.Native.Nat.{ℕ, ◌*◌, ◌≤◌}
use native.Mathlib.Omega.{arith}
use lib.Dec.{eqb}
use lib.ListN.{length, take, drop, length-drop, length-append}
use lib.Seq.{length-take-le, take-append_seam, take_at}
use Rattle.protocol.specs.Folds.{update, update2}
use Rattle.protocol.specs.CartSets.{without}
use Rattle.protocol.proofs.Tests.{by_test}
use borrow.Author.Tests.{eqb-true}
use Rattle.rows.specs.Rows.{cell, RowIn}
use Rattle.list_rows.specs.declared.Message.{Message}
use Rattle.list_rows.specs.Rows.{width, text_room, part_in, row_of, rows_in, message_of, new_row, taken_by}

-- A ROW WRITTEN WHOLE. W r k is word k of row r, O r are its octets
module _ (W : ℕ → ℕ → ℕ) (O : ℕ → List ℕ) (r s n carts : ℕ) (text : List ℕ) where
  words_put : row_of (update2 (update2 (update2 (update2 W r 0 s) r 1 n) r 2 carts) r 3 (length text)) (update O r (text ++ drop (length text) (O r))) ≡ update (row_of W O) r (new_row s n carts text)
  words_put =
      fun_ext (λ k. by_test (eqb k r)
      (λ e. rw e (ap (λ (t : List ℕ). record { initiator = s; number = n; carts = carts; size = length text; text = t }) (take-append_seam text (drop (length text) (O r)))))
      (λ e. rw e))

pub row_put : (l l₁ l₂ l₃ l₄ o o₁ : List ℕ) (r s n carts : ℕ) (text : List ℕ)
    → cell width l₁ ≡ update2 (cell width l) r 0 s
    → cell width l₂ ≡ update2 (cell width l₁) r 1 n
    → cell width l₃ ≡ update2 (cell width l₂) r 2 carts
    → cell width l₄ ≡ update2 (cell width l₃) r 3 (length text)
    → part_in o₁ ≡ update (part_in o) r (text ++ drop (length text) (part_in o r))
    → rows_in l₄ o₁ ≡ update (rows_in l o) r (new_row s n carts text)
row_put l l₁ l₂ l₃ l₄ o o₁ r s n carts text e₁ e₂ e₃ e₄ eo =
    ap₂ (λ (W : ℕ → ℕ → ℕ) (O : ℕ → List ℕ). row_of W O) (e₄ ∙ then 3 (length text) (e₃ ∙ then 2 carts (e₂ ∙ then 1 n e₁))) eo
    ∙ words_put (cell width l) (part_in o) r s n carts text
  where
    then : (k v : ℕ) {W X : ℕ → ℕ → ℕ} → W ≡ X → update2 W r k v ≡ update2 X r k v
    then k v e = ap (λ (Y : ℕ → ℕ → ℕ). update2 Y r k v) e

-- THE SAME ROW, TAKEN BY A CART
pub row_taken : (l l₁ o : List ℕ) (r c : ℕ) → cell width l₁ ≡ update2 (cell width l) r 2 (without (cell width l r 2) c) → rows_in l₁ o ≡ update (rows_in l o) r (taken_by (rows_in l o r) c)
row_taken l l₁ o r c e =
    ap (λ (W : ℕ → ℕ → ℕ). row_of W (part_in o)) e
    ∙ fun_ext (λ k. by_test (eqb k r) (λ q. let z = eqb-true k r q in rw (q, z)) (λ q. rw q))

-- A ROW COPIED OUT

-- octets of a row
pub part_length : (o : List ℕ) (r : ℕ) → RowIn text_room o r → length (part_in o r) ≡ text_room
unfolding part_in
part_length o r h = length-take-le text_room (drop (r * text_room) o) (simp length-drop (omega arith))

-- a text is as long as its row says
pub text_length_lem : (l o : List ℕ) (r : ℕ) → RowIn text_room o r → (rows_in l o r).size ≤ text_room → length (rows_in l o r).text ≡ (rows_in l o r).size
text_length_lem l o r h small = let z = part_length o r h in length-take-le (rows_in l o r).size (part_in o r) (omega arith)

-- a buffer that it is copied to is as long as before
pub buffer_length : (o buffer : List ℕ) (r size : ℕ) → RowIn text_room o r → size ≤ text_room → size ≤ length buffer → length (take size (part_in o r) ++ drop size buffer) ≡ length buffer
buffer_length o buffer r size h small fits =
    let z = part_length o r h in
    let y = length-take-le size (part_in o r) (omega arith) in
    simp (length-append, length-drop) (omega arith)

-- what is copied to a buffer and read there is the row's text
pub text_read : (l o buffer rest : List ℕ) (r size : ℕ) → RowIn text_room o r → size ≡ (rows_in l o r).size → size ≤ text_room → buffer ≡ take size (part_in o r) ++ rest
    → take size buffer ≡ (rows_in l o r).text
text_read l o buffer rest r size h e small q =
    let z = part_length o r h in
    ap (take size) q ∙ take_at (take size (part_in o r)) rest size (length-take-le size (part_in o r) (omega arith)) ∙ ap (λ (k : ℕ). take k (part_in o r)) e

-- so the row is its message and that text
pub same_row : (l o text : List ℕ) (r : ℕ) (message : Message) → RowIn text_room o r → (rows_in l o r).size ≤ text_room → message ≡ message_of (rows_in l o r) → text ≡ (rows_in l o r).text
    → new_row message.initiator.0 message.number.0 message.carts text ≡ rows_in l o r
same_row l o text r message h small em et = λ i. record {
  initiator = (em i).initiator.0;
  number = (em i).number.0;
  carts = (em i).carts;
  size = (ap length et ∙ text_length_lem l o r h small) i;
  text = et i;
}
