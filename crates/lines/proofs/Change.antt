-- A pool in which one line changes: what follows for the whole.
use mathlib.Core.Path.{◌≡◌, sym, ap, ap₂, ◌∙◌, subst}
use mathlib.Core.Bool.{true}
use mathlib.Core.List.{List}
use Prim.Native.Nat.{ℕ, ◌+◌, ◌-◌, ◌*◌, ◌/◌, ◌<◌}
use native.Mathlib.Decide.{ℕ_discrete}
use native.Mathlib.Omega.{arith}
use lib.Dec.{ltb}
use lib.ListN.{length}
use Rattle.protocol.specs.Form.{bit}
use Rattle.lines.specs.Bits.{bit_at}
use Rattle.lines.specs.Words.{capacity, tail_of, length_of}
use Rattle.lines.specs.Lines.{rows_of, records_on, used}
use Rattle.lines.specs.Form.{count, all_below, last_of, summary_ok}
use Rattle.lines.proofs.Sums.{sum_one}
use Rattle.lines.proofs.Formed.{Formed, stands_to, length_rows, length_line}

pub capacity_same : (l l' : List ℕ) → length l' ≡ length l → capacity l' ≡ capacity l
unfolding capacity
capacity_same l l' e = ap (λ (n : ℕ). (n - 1842) / 3) e

module _ (l l' : List ℕ) (k : ℕ) (hk : k < 256) (others : (j : ℕ) → j < 256 → (j ≡ k → ⊥) → rows_of l' j ≡ rows_of l j) where
  pub stands_change : (x : ℕ) → stands_to l' 256 x + count x (rows_of l k) ≡ stands_to l 256 x + count x (rows_of l' k)
  stands_change x = sum_one 256 (λ j. count x (rows_of l j)) (λ j. count x (rows_of l' j)) k hk (λ j hj jk. ap (count x) (others j hj jk))

  pub used_change : used l' + length_of l k ≡ used l + length_of l' k
  unfolding used
  used_change =
      omega (arith, sum_one 256 (λ j. length (records_on l j)) (λ j. length (records_on l' j)) k hk same, length_line l k, length_line l' k)
    where
      same : (j : ℕ) → j < 256 → (j ≡ k → ⊥) → length (records_on l' j) ≡ length (records_on l j)
      same j hj jk = length_line l' j ∙ sym (length_rows l' j) ∙ ap length (others j hj jk) ∙ length_rows l j ∙ sym (length_line l j)

  -- the pool stays well-formed where line k is right, and where a row is free exactly as often as it has left the lines
  pub formed_change : Formed l → length l' ≡ length l → ((j : ℕ) → j < 256 → (j ≡ k → ⊥) → tail_of l' j ≡ tail_of l j)
      → all_below (capacity l) (rows_of l' k) ≡ true → last_of (tail_of l' k) (rows_of l' k) ≡ tail_of l' k
      → ((x : ℕ) → x < 3136 → stands_to l' 256 x + bit_at l' x ≡ stands_to l 256 x + bit_at l x) → summary_ok l' ≡ true → Formed l'
  formed_change w long tails below last rows summary = let room = capacity_same l l' long in record {
    long = long ∙ w.long ∙ ap (λ (n : ℕ). 1842 + n * 3) (sym room);
    most = omega (arith, w.most);
    below = λ j hj. subst (λ (n : ℕ). all_below n (rows_of l' j) ≡ true) (sym room) (below_at j hj (ℕ_discrete j k));
    last = λ j hj. last_at j hj (ℕ_discrete j k);
    rows = λ x h. rows x h ∙ w.rows x h ∙ ap (λ (n : ℕ). bit (ltb x n)) (sym room);
    summary = summary;
  }
    where
      below_at : (j : ℕ) → j < 256 → Dec (j ≡ k) → all_below (capacity l) (rows_of l' j) ≡ true
      below_at j hj (yes q) = ap (λ (i : ℕ). all_below (capacity l) (rows_of l' i)) q ∙ below
      below_at j hj (no q) = ap (all_below (capacity l)) (others j hj q) ∙ w.below j hj

      last_at : (j : ℕ) → j < 256 → Dec (j ≡ k) → last_of (tail_of l' j) (rows_of l' j) ≡ tail_of l' j
      last_at j hj (yes q) = subst (λ (i : ℕ). last_of (tail_of l' i) (rows_of l' i) ≡ tail_of l' i) (sym q) last
      last_at j hj (no q) = ap₂ last_of (tails j hj q) (others j hj q) ∙ w.last j hj ∙ sym (tails j hj q)
