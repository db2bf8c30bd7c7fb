-- CALLS IN ROWS: a call is read as it was written, and a row written leaves the rows before it.
use mathlib.Core.Path.{◌≡◌, refl, ap, ap₂, fun_ext, ◌∙◌}
use mathlib.Core.List.{List, ◌∷◌, [], ◌++◌}
use mathlib.Core.Option as math
use Prim.Native.Nat.{ℕ, zero, suc, ◌<◌}
use native.Mathlib.Omega.{arith}
use lib.Dec.{eqb}
use borrow.Author.Tests.{eq-eqb, ne_eqb}
use Rattle.std.specs.Prelude.{Option, None, Some}
use Rattle.protocol.specs.Folds.{update, update2}
use Rattle.protocol.specs.PlainLists.{PlainCall}
use Rattle.protocol.proofs.Tests.{by_test}
use Rattle.rows.specs.Rows.{cell}
use Rattle.training_rows.specs.declared.Call.{Call}
use Rattle.training_rows.specs.declared.Call.TheVariants.{Start, Send, Take}
use Rattle.training_rows.specs.declared.Words.{Words}
use Rattle.training_rows.specs.Calls.{width, words_of, call_of, calls_of, calls_in, made_in, made_by}

-- THE WORDS SAY THE CALL
pub read_as_written : (call : Option Call) → call_of (words_of call) ≡ call
unfolding call_of
read_as_written None = refl
read_as_written (Some (Start n k)) = refl
read_as_written (Some (Send s set from size)) = refl
read_as_written (Some (Take s c)) = refl

-- by the kind
module _ (w : Words) where
  pub a_start : w.kind ≡ 1 → Some (Start w.first w.second) ≡ call_of w
  unfolding call_of
  a_start e = rw e refl

  pub a_send : w.kind ≡ 2 → Some (Send (record { 0 = w.first }) w.second w.from w.size) ≡ call_of w
  unfolding call_of
  a_send e = rw e refl

  pub a_take : w.kind ≡ 3 → Some (Take (record { 0 = w.first }) (record { 0 = w.second })) ≡ call_of w
  unfolding call_of
  a_take e = rw e refl

  pub no_call : (w.kind ≡ 1 → ⊥) → (w.kind ≡ 2 → ⊥) → (w.kind ≡ 3 → ⊥) → None ≡ call_of w
  unfolding call_of
  no_call a b d = rw (ne_eqb w.kind 1 a, ne_eqb w.kind 2 b, ne_eqb w.kind 3 d) refl

-- A ROW WRITTEN WHOLE. W r k is word k of row r
module _ (W : ℕ → ℕ → ℕ) (r : ℕ) (w : Words) where
  words_put : calls_of (update2 (update2 (update2 (update2 (update2 W r 0 w.kind) r 1 w.first) r 2 w.second) r 3 w.from) r 4 w.size) ≡ update (calls_of W) r (call_of w)
  words_put = fun_ext (λ k. by_test (eqb k r) (λ e. rw e refl) (λ e. rw e refl))

pub call_put : (l l₁ l₂ l₃ l₄ l₅ : List ℕ) (r : ℕ) (w : Words) (call : Option Call) → w ≡ words_of call
    → cell width l₁ ≡ update2 (cell width l) r 0 w.kind
    → cell width l₂ ≡ update2 (cell width l₁) r 1 w.first
    → cell width l₃ ≡ update2 (cell width l₂) r 2 w.second
    → cell width l₄ ≡ update2 (cell width l₃) r 3 w.from
    → cell width l₅ ≡ update2 (cell width l₄) r 4 w.size
    → calls_in l₅ ≡ update (calls_in l) r call
call_put l l₁ l₂ l₃ l₄ l₅ r w call q e₁ e₂ e₃ e₄ e₅ =
    ap calls_of (e₅ ∙ then 4 w.size (e₄ ∙ then 3 w.from (e₃ ∙ then 2 w.second (e₂ ∙ then 1 w.first e₁))))
    ∙ words_put (cell width l) r w
    ∙ ap (update (calls_in l) r) (ap call_of q ∙ read_as_written call)
  where
    then : (k v : ℕ) {W X : ℕ → ℕ → ℕ} → W ≡ X → update2 W r k v ≡ update2 X r k v
    then k v e = ap (λ (Y : ℕ → ℕ → ℕ). update2 Y r k v) e

-- THE CALLS OF THE ROWS BEFORE IT stay
update_other : (C : ℕ → Option Call) (r k : ℕ) (x : Option Call) → k < r → update C r x k ≡ C k
update_other C r k x h = rw (ne_eqb k r (λ z. omega arith)) refl

pub same_calls : (l : List ℕ) (C D : ℕ → Option Call) (n : ℕ) → ((k : ℕ) → k < n → C k ≡ D k) → made_by l C n ≡ made_by l D n
unfolding made_by
same_calls l C D zero h = refl
same_calls l C D (suc n) h =
    ap₂ (λ (x : List (math.Option PlainCall)) (c : Option Call). x ++ (made_in l c ∷ [])) (same_calls l C D n (λ k m. h k (omega arith))) (h n (omega arith))

-- and the row is the last
pub one_more_made : (l : List ℕ) (C : ℕ → Option Call) (n : ℕ) (x : Option Call) → made_by l (update C n x) (suc n) ≡ made_by l C n ++ (made_in l x ∷ [])
unfolding made_by
one_more_made l C n x =
    ap₂ (λ (y : List (math.Option PlainCall)) (c : Option Call). y ++ (made_in l c ∷ [])) (same_calls l (update C n x) C n (λ k m. update_other C n k x m)) last_is
  where
    last_is : update C n x n ≡ x
    last_is = rw (eq-eqb n n refl) refl
