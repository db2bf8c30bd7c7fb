-- The head of a line goes.
use mathlib.Core.Path.{◌≡◌, refl, sym, ap, ◌∙◌, subst}
use mathlib.Core.Bool.{true}
use mathlib.Core.List.{List, [], ◌∷◌, map}
use Prim.Native.Nat.{ℕ, ◌+◌, ◌-◌, ◌≤◌, ◌<◌}
use native.Mathlib.Decide.{ℕ_discrete}
use native.Mathlib.Omega.{arith}
use lib.Dec.{eqb}
use lib.ListN.{length, get_or, set, drop, length-set}
use lib.Seq.{get_or-set_same, get_or-set_other}
use Rattle.protocol.specs.Form.{bit}
use Rattle.lines.specs.declared.Record.{Record}
use Rattle.lines.specs.Bits.{bit_at}
use Rattle.lines.specs.Words.{capacity, line_at, row_at, head_of, tail_of, length_of, next_of}
use Rattle.lines.specs.Lines.{chain, rows_of, record_of, records_on}
use Rattle.lines.specs.Form.{count, all_below, last_of, summary_ok, form}
use Rattle.lines.specs.Post.{Popped}
use Rattle.lines.specs.Parts.{Given, left}
use Rattle.lines.proofs.Digits.{same_yes, same_no}
use Rattle.lines.proofs.Sums.{count_cons, below_head}
use Rattle.lines.proofs.Bitmap.{bits_same, summary_same}
use Rattle.lines.proofs.Change.{capacity_same, stands_change, used_change, formed_change}
use Rattle.lines.proofs.Registers.{registers_kept}
use Rattle.lines.proofs.Formed.{Formed, form_formed, formed_form, stands_to, m_of, rows_head, head_below, at_most_once, some_long}

last_less : (t x : ℕ) (a : List ℕ) → last_of t (x ∷ a) ≡ t → last_of t a ≡ t
unfolding last_of
last_less t x [] e = refl
last_less t x (y ∷ a) e = e

-- ---- the head's record
module _ (l : List ℕ) (w : Formed l) (k : ℕ) (hk : k < 256) (some : 0 < length_of l k) where
  line_head : records_on l k ≡ record_of l (head_of l k) ∷ map (record_of l) (chain (next_of l) (next_of l (head_of l k)) (m_of l w k hk some).0)
  unfolding records_on
  line_head = ap (map (record_of l)) (rows_head l w k hk some)

  fronted : records_on l k ≡ record_of l (head_of l k) ∷ drop 1 (records_on l k)
  fronted = line_head ∙ ap (λ (t : List Record). record_of l (head_of l k) ∷ t) (sym (ap (drop 1) line_head))

-- ---- the stores
length_left : (l : List ℕ) (k x n : ℕ) → length (left l k x n) ≡ length l
unfolding left
length_left l k x n = simp length-set

module _ (l l2 : List ℕ) (k n : ℕ) (w : Formed l) (hk : k < 256) (some : 0 < length_of l k) (en : n ≡ length_of l k)
    (t : Given (left l k (next_of l (head_of l k)) (n - 1)) l2 (head_of l k)) (same : length l2 ≡ length l) where
  abbrev f : ℕ
  f = head_of l k

  abbrev l1 : List ℕ
  l1 = left l k (next_of l f) (n - 1)

  left_other : (i : ℕ) → (i ≡ line_at k → ⊥) → (i ≡ line_at k + 2 → ⊥) → get_or l1 i 0 ≡ get_or l i 0
  unfolding left
  left_other i h1 h2 = simp get_or-set_other

  other : (i : ℕ) → 50 ≤ i → (i ≡ line_at k → ⊥) → (i ≡ line_at k + 2 → ⊥) → get_or l2 i 0 ≡ get_or l i 0
  other i h h1 h2 = t.rest i h ∙ left_other i h1 h2

  head_is : head_of l2 k ≡ next_of l f
  unfolding left
  head_is = t.rest (line_at k) (omega arith)
      ∙ get_or-set_other (set l (line_at k) (next_of l f)) (line_at k + 2) (line_at k) (n - 1) 0 (omega arith) ∙ get_or-set_same l (line_at k) (next_of l f) 0 (omega (arith, w.long))

  length_is : length_of l2 k ≡ n - 1
  unfolding left
  length_is = t.rest (line_at k + 2) (omega arith) ∙ get_or-set_same (set l (line_at k) (next_of l f)) (line_at k + 2) (n - 1) 0 (simp length-set (omega (arith, w.long)))

  heads : (j : ℕ) → j < 256 → (j ≡ k → ⊥) → head_of l2 j ≡ head_of l j
  heads j hj jk = other (line_at j) (omega arith) (λ q. jk (omega arith)) (omega arith)

  tails : (j : ℕ) → j < 256 → tail_of l2 j ≡ tail_of l j
  tails j hj = other (line_at j + 1) (omega arith) (omega arith) (omega arith)

  lengths : (j : ℕ) → j < 256 → (j ≡ k → ⊥) → length_of l2 j ≡ length_of l j
  lengths j hj jk = other (line_at j + 2) (omega arith) (omega arith) (λ q. jk (omega arith))

  nexts : next_of l2 ≡ next_of l
  nexts = λ i x. other (row_at x) (omega arith) (omega arith) (omega arith) i

  records : record_of l2 ≡ record_of l
  unfolding record_of
  records = λ i x. record {
    0 = other (row_at x + 1) (omega arith) (omega arith) (omega arith) i;
    1 = other (row_at x + 2) (omega arith) (omega arith) (omega arith) i;
  }

  -- ---- the rows of the lines
  rows_other : (j : ℕ) → j < 256 → (j ≡ k → ⊥) → rows_of l2 j ≡ rows_of l j
  unfolding rows_of
  rows_other j hj jk = λ i. chain (nexts i) (heads j hj jk i) (lengths j hj jk i)

  rows_line : rows_of l k ≡ f ∷ rows_of l2 k
  unfolding rows_of
  rows_line = rows_head l w k hk some ∙ ap (λ (s : List ℕ). f ∷ s) (λ i. chain (sym nexts i) (sym head_is i) (less i))
    where
      less : (m_of l w k hk some).0 ≡ length_of l2 k
      less = omega (arith, (m_of l w k hk some).1, length_is, en)

  -- ---- the whole
  low_same : (a : ℕ) → a < 50 → get_or l1 a 0 ≡ get_or l a 0
  low_same a h = left_other a (omega arith) (omega arith)

  stands_less : (x : ℕ) → stands_to l2 256 x + bit (eqb f x) ≡ stands_to l 256 x
  stands_less x = omega (arith, stands_change l l2 k hk rows_other x, ap (count x) rows_line, count_cons x f (rows_of l2 k))

  -- the head was on the line, so not free
  f_taken : bit_at l f ≡ 0
  f_taken = omega (arith, at_most_once l w f (omega (arith, w.most, head_below l w k hk some)), stands_less f, same_yes f f refl)

  rows_same : (x : ℕ) → x < 3136 → stands_to l2 256 x + bit_at l2 x ≡ stands_to l 256 x + bit_at l x
  rows_same x h = pick (ℕ_discrete f x)
    where
      pick : Dec (f ≡ x) → stands_to l2 256 x + bit_at l2 x ≡ stands_to l 256 x + bit_at l x
      pick (yes q) = omega (arith, stands_less x, bits_same l l1 low_same x h, t.bits x h, same_yes f x q, f_taken, ap (bit_at l) q)
      pick (no q) = omega (arith, stands_less x, bits_same l l1 low_same x h, t.bits x h, same_no f x q)

  formed_less : Formed l2
  formed_less = formed_change l l2 k hk rows_other w same (λ j hj jk. tails j hj)
      (below_head (capacity l) f (rows_of l2 k) (ap (all_below (capacity l)) (sym rows_line) ∙ w.below k hk)).1
      (ap (λ (x : ℕ). last_of x (rows_of l2 k)) (tails k hk)
      ∙ last_less (tail_of l k) f (rows_of l2 k) (ap (last_of (tail_of l k)) (sym rows_line) ∙ w.last k hk) ∙ sym (tails k hk))
      rows_same t.summary

  line_other : (j : ℕ) → j < 256 → (j ≡ k → ⊥) → records_on l2 j ≡ records_on l j
  unfolding records_on
  line_other j hj jk = λ i. map (records i) (rows_other j hj jk i)

  line_less : records_on l2 k ≡ drop 1 (records_on l k)
  unfolding records_on
  line_less = ap (λ (h : ℕ → Record). map h (rows_of l2 k)) records ∙ sym (ap (λ (a : List ℕ). drop 1 (map (record_of l) a)) rows_line)

  popped : Popped l l2 k
  popped = record {
    formed = formed_form l2 formed_less;
    line = line_less;
    others = line_other;
    registers = registers_kept l l2 (λ a h1 h2. other a (omega arith) (omega arith) (omega arith));
    fewer = omega (arith, used_change l l2 k hk rows_other, length_is, en, some);
    room = capacity_same l l2 same;
    words = same;
  }

-- ---- the code's own steps
module _ (l : List ℕ) (k : ℕ) (e : form l ≡ true) (hk : k < 256) (some : 0 < length (records_on l k)) (x : ℕ) (ex : x ≡ head_of l k) where
  pub front_is : (r : Record) → r ≡ record_of l x → records_on l k ≡ r ∷ drop 1 (records_on l k)
  front_is r er = fronted l (form_formed l e) k hk (some_long l e k hk some) ∙ ap (λ (y : Record). y ∷ drop 1 (records_on l k)) (sym (er ∙ ap (record_of l) ex))

  module _ (l1 : List ℕ) (n y : ℕ) (en : n ≡ length_of l k) (ey : y ≡ next_of l x) (e1 : l1 ≡ left l k y (n - 1)) where
    pub givable : (50 ≤ length l1) × (summary_ok l1 ≡ true) × (x < 3136)
    unfolding left
    givable =
        let w = form_formed l e in
        let long : length l1 ≡ length l = ap length e1 ∙ length_left l k y (n - 1) in
        (omega (arith, w.long), summary_same l l1 low w.summary, omega (arith, w.most, head_below l w k hk (some_long l e k hk some)))
      where
        low : (a : ℕ) → a < 50 → get_or l1 a 0 ≡ get_or l a 0
        low a h = ap (λ (s : List ℕ). get_or s a 0) e1
            ∙ get_or-set_other (set l (line_at k) y) (line_at k + 2) a (n - 1) 0 (omega arith) ∙ get_or-set_other l (line_at k) a y 0 (omega arith)

    pub pop_is : (l2 : List ℕ) → Given l1 l2 x → length l2 ≡ length l1 → Popped l l2 k
    pop_is l2 t same = popped l l2 k n (form_formed l e) hk (some_long l e k hk some) en
        (subst (λ (s : List ℕ). Given s l2 (head_of l k)) whole (subst (λ (z : ℕ). Given l1 l2 z) ex t)) (same ∙ ap length whole ∙ long)
      where
        whole : l1 ≡ left l k (next_of l (head_of l k)) (n - 1)
        whole = e1 ∙ ap (λ (z : ℕ). left l k z (n - 1)) (ey ∙ ap (next_of l) ex)

        long : length (left l k (next_of l (head_of l k)) (n - 1)) ≡ length l
        long = length_left l k (next_of l (head_of l k)) (n - 1)
