-- THE COUNTS: what stores of words make of them.
use mathlib.Core.Path.{◌≡◌, ap, fun_ext, ◌∙◌}
use mathlib.Core.List.{List}
use Prim.Native.Nat.{ℕ, ◌+◌, ◌<◌}
use native.Mathlib.Omega.{arith}
use lib.ListN.{length, get_or, set}
use lib.Seq.{get_or-set_same, get_or-set_other}
use borrow.Author.Tests.{eq-eqb, ne_eqb}
use Rattle.protocol.specs.Folds.{update}
use Rattle.protocol.proofs.Tests.{by_eq}
use Rattle.lists.specs.View.{Counts, count_words, counts_of, counts_in}

-- one word
pub word_put : (l : List ℕ) (i v : ℕ) → i < length l → (λ k. get_or (set l i v) k 0) ≡ update (λ k. get_or l k 0) i v
word_put l i v h =
    fun_ext (λ k. by_eq k i
    (λ q. rw (eq-eqb k i q) (ap (λ (n : ℕ). get_or (set l i v) n 0) q ∙ get_or-set_same l i v 0 h))
    (λ q. rw (ne_eqb k i q) (get_or-set_other l i k v 0 q)))

-- THE COUNTS WITH OTHER NUMBERS

-- another count of station s
abbrev pub with_sent : Counts → ℕ → ℕ → Counts
with_sent N s v = record { mark = N.mark; stations = N.stations; carts = N.carts; used = N.used; entries = N.entries; sent = update N.sent s v }

-- another number of used rows, and of entries
abbrev pub with_used : Counts → ℕ → Counts
with_used N v = record { mark = N.mark; stations = N.stations; carts = N.carts; used = v; entries = N.entries; sent = N.sent }

abbrev pub with_entries : Counts → ℕ → Counts
with_entries N v = record { mark = N.mark; stations = N.stations; carts = N.carts; used = N.used; entries = v; sent = N.sent }

-- W k is word k
module _ (W : ℕ → ℕ) where
  head_word_lem : (s v k : ℕ) → k < 5 → update W (5 + s) v k ≡ W k
  head_word_lem s v k l = rw (ne_eqb k (5 + s) (omega arith))

  sent_word : (i v s : ℕ) → i < 5 → update W i v (5 + s) ≡ W (5 + s)
  sent_word i v s l = rw (ne_eqb (5 + s) i (omega arith))

  its_word : (s v t : ℕ) → update W (5 + s) v (5 + t) ≡ update (λ u. W (5 + u)) s v t
  its_word s v t =
      by_eq t s
      (λ q. rw (eq-eqb t s q, eq-eqb (5 + t) (5 + s) (omega arith)))
      (λ q. rw (ne_eqb t s q, ne_eqb (5 + t) (5 + s) (omega arith)))

  words_sent : (s v : ℕ) → counts_of (update W (5 + s) v) ≡ with_sent (counts_of W) s v
  words_sent s v = λ i. record {
    mark = head_word_lem s v 0 (omega arith) i;
    stations = head_word_lem s v 1 (omega arith) i;
    carts = head_word_lem s v 2 (omega arith) i;
    used = head_word_lem s v 3 (omega arith) i;
    entries = head_word_lem s v 4 (omega arith) i;
    sent = λ t. its_word s v t i;
  }

  words_used : (v : ℕ) → counts_of (update W 3 v) ≡ with_used (counts_of W) v
  words_used v = λ i. record { mark = W 0; stations = W 1; carts = W 2; used = v; entries = W 4; sent = λ t. sent_word 3 v t (omega arith) i }

  words_entries : (v : ℕ) → counts_of (update W 4 v) ≡ with_entries (counts_of W) v
  words_entries v = λ i. record { mark = W 0; stations = W 1; carts = W 2; used = W 3; entries = v; sent = λ t. sent_word 4 v t (omega arith) i }

-- in the lent words
module _ (l : List ℕ) (there : length l ≡ count_words) where
  pub put_sent : (s v : ℕ) → s < 16 → counts_in (set l (5 + s) v) ≡ with_sent (counts_in l) s v
  put_sent s v h = ap counts_of (word_put l (5 + s) v (omega arith)) ∙ words_sent (λ k. get_or l k 0) s v

  pub put_used : (v : ℕ) → counts_in (set l 3 v) ≡ with_used (counts_in l) v
  put_used v = ap counts_of (word_put l 3 v (omega arith)) ∙ words_used (λ k. get_or l k 0) v

  pub put_entries : (v : ℕ) → counts_in (set l 4 v) ≡ with_entries (counts_in l) v
  put_entries v = ap counts_of (word_put l 4 v (omega arith)) ∙ words_entries (λ k. get_or l k 0) v
