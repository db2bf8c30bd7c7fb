-- LISTS WRITTEN AFRESH, and a start.
use mathlib.Core.Path.{◌≡◌, refl, ap, ap₂, fun_ext, ◌∙◌}
use mathlib.Core.Bool.{Bool, true, false}
use mathlib.Core.List.{List, []}
use Prim.Native.Nat.{ℕ, ◌+◌}
use native.Mathlib.Omega.{arith}
use lib.Dec.{eqb}
use lib.ListN.{length, get_or, set, length-set}
use borrow.Author.Tests.{eq-eqb, ne_eqb}
use Rattle.protocol.specs.Folds.{sum, update}
use Rattle.protocol.specs.Floor.{limits}
use Rattle.protocol.specs.Refusals.{wrong_size}
use Rattle.protocol.specs.PlainLists.{plain_afresh, plain_start, plain_refusal}
use Rattle.std.specs.Prelude.{Ok, Err}
use Rattle.refusals.specs.declared.Refusal.TheVariants.{NotReady, AlreadyStarted, WrongSize}
use Rattle.lists.specs.declared.Reply.TheVariants.{Begun}
use Rattle.list_rows.specs.Rows.{Row, listed, members, rows_in}
use Rattle.lists.specs.Calls.{ListsMet}
use Rattle.lists.proofs.CountLaws.{word_put}
use Rattle.lists.proofs.Checks.{refused_met, accepted_met}
use Rattle.lists.specs.View.{LentLists, Counts, count_words, counts_of, counts_in, plain_from, lists_in, lent_right}
use Rattle.lists.proofs.Facts.{words_right_lem}

-- counts without a row, an entry or a send
abbrev pub no_sends : ℕ → ℕ → ℕ → Counts
no_sends mark n k = record { mark = mark; stations = n; carts = k; used = 0; entries = 0; sent = λ s. 0 }

pub afresh : (mark n k : ℕ) (T : ℕ → Row) → plain_from true (no_sends mark n k) T ≡ plain_afresh (eqb mark 1) n k
unfolding listed members sum
afresh mark n k T = λ i. record {
  lengths_right = true;
  words_right = words_right_lem (no_sends mark n k) T (omega arith) (λ r l. absurd (omega arith)) refl i;
  started = eqb mark 1;
  stations = n;
  carts = k;
  count = λ s. 0;
  list = λ s c. [];
}

pub afresh_in : (L : LentLists) (mark n k : ℕ) → lent_right L ≡ true → counts_in L.counts ≡ no_sends mark n k → lists_in L ≡ plain_afresh (eqb mark 1) n k
afresh_in L mark n k lengths counts =
    ap₂ (λ (b : Bool) (N : Counts). plain_from b N (rows_in L.sends L.octets)) lengths counts ∙ afresh mark n k (rows_in L.sends L.octets)

-- A START

-- cleared counts with the mark and the two numbers
pub counts_begun : (l : List ℕ) (n k : ℕ) → length l ≡ count_words → ((i : ℕ) → get_or l i 0 ≡ 0) → counts_in (set (set (set l 0 1) 1 n) 2 k) ≡ no_sends 1 n k
counts_begun l n k long zeros =
    ap counts_of (word_put l₂ 2 k (omega (arith, length-set l₁ 1 n, length-set l 0 1)) ∙ ap (λ (W : ℕ → ℕ). update W 2 k) (word_put l₁ 1 n (omega (arith, length-set l 0 1)) ∙ ap (λ (W : ℕ → ℕ). update W 1 n) (word_put l 0 1 (omega arith) ∙ ap (λ (W : ℕ → ℕ). update W 0 1) (fun_ext zeros))))
    ∙ begun
  where
    l₁ : List ℕ
    l₁ = set l 0 1

    l₂ : List ℕ
    l₂ = set l₁ 1 n

    W : ℕ → ℕ
    W = update (update (update (λ i. 0) 0 1) 1 n) 2 k

    begun : counts_of W ≡ no_sends 1 n k
    begun = λ i. record { mark = 1; stations = n; carts = k; used = 0; entries = 0; sent = λ s. others s i }
      where
        others : (s : ℕ) → W (5 + s) ≡ 0
        others s = rw (ne_eqb (5 + s) 2 (omega arith), ne_eqb (5 + s) 1 (omega arith), ne_eqb (5 + s) 0 (omega arith))

module _ (L : LentLists) (n k : ℕ) where
  pub start_lengths : lent_right L ≡ false → ListsMet L L (plain_start n k) (Err NotReady)
  unfolding plain_refusal
  start_lengths e = refused_met L (plain_start n k) NotReady (rw e)

  pub start_begun : lent_right L ≡ true → (counts_in L.counts).mark ≡ 1 → ListsMet L L (plain_start n k) (Err AlreadyStarted)
  unfolding plain_refusal
  start_begun e m = refused_met L (plain_start n k) AlreadyStarted (rw (e, eq-eqb (counts_in L.counts).mark 1 m))

  pub start_size : lent_right L ≡ true → ((counts_in L.counts).mark ≡ 1 → ⊥) → wrong_size limits n k ≡ true → ListsMet L L (plain_start n k) (Err WrongSize)
  unfolding plain_refusal
  start_size e m w = refused_met L (plain_start n k) WrongSize (rw (e, ne_eqb (counts_in L.counts).mark 1 m, w))

  pub start_met : (L' : LentLists) → lent_right L ≡ true → ((counts_in L.counts).mark ≡ 1 → ⊥) → wrong_size limits n k ≡ false → lent_right L' ≡ true → counts_in L'.counts ≡ no_sends 1 n k
      → ListsMet L L' (plain_start n k) (Ok Begun)
  unfolding plain_refusal
  start_met L' e m w e' counts =
      accepted_met L L' (plain_start n k) Begun (rw (e, ne_eqb (counts_in L.counts).mark 1 m, w)) refl (afresh_in L' 1 n k e' counts)
