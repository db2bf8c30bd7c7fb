-- What a well-formed pool is, fact by fact, and that its rows on lines and its free rows make up the whole.
use mathlib.Core.Path.{◌≡◌, refl, sym, ap, ap₂, ◌∙◌, subst}
use mathlib.Core.Bool.{Bool, true, false, ◌&&◌}
use mathlib.Core.List.{List, [], ◌∷◌, ◌++◌}
use Prim.Native.Nat.{ℕ, zero, suc, ◌+◌, ◌*◌, ◌/◌, ◌%◌, ◌^◌, ◌≤◌, ◌<◌, min}
use native.Mathlib.Nat.{not-suc-le-zero}
use native.Mathlib.Decide.{dec_le}
use native.Mathlib.Omega.{arith}
use lib.Dec.{eqb, ltb, leb}
use lib.ListN.{length, get_or, length-map}
use borrow.Author.Tests.{eqb-true, eq-eqb, ltb-true, lt-ltb, leb-true, le-leb}
use Rattle.protocol.specs.Folds.{every, sum}
use Rattle.protocol.specs.CartSets.{digit, has}
use Rattle.protocol.specs.Form.{bit}
use Rattle.protocol.proofs.Tests.{clash, every_at, every_all}
use Rattle.protocol.proofs.SetLaws.{has_zero, some_member}
use Rattle.protocol.proofs.Counting.{bit_le, sum_ext, sum_nil, sum_term, sum_add, sum_swap}
use Rattle.sets.proofs.MaskLaws.{digit_is}
use Rattle.lines.specs.Bits.{bit_at}
use Rattle.lines.specs.Words.{capacity, line_at, row_at, summary_of, head_of, tail_of, length_of, next_of}
use Rattle.lines.specs.Lines.{chain, rows_of, record_of, records_on, used}
use Rattle.lines.specs.Form.{count, all_below, last_of, rows_on_lines, sized, line_ok, rows_ok, summary_ok, form}
use Rattle.lines.proofs.Digits.{digit_none}
use Rattle.lines.proofs.Sums.{and-true, sum_terms, sum_below, count_append, below_head, sum_count}
use Rattle.lines.proofs.Bitmap.{Summary, summary_of_lem, summary_some, row_bit}
use Rattle.lines.proofs.Chains.{nth, length_chain, chain_head, chain_split, last_chain}

-- how often row x stands on the lines below n
abbrev pub stands_to : List ℕ → ℕ → ℕ → ℕ
stands_to l n x = sum n (λ k. count x (rows_of l k))

pub count_lines_lem : (l : List ℕ) (x n : ℕ) → count x (rows_on_lines l n) ≡ stands_to l n x
unfolding rows_on_lines sum count
count_lines_lem l x zero = refl
count_lines_lem l x (suc n) = count_append x (rows_on_lines l n) (rows_of l n) ∙ ap (λ (y : ℕ). y + count x (rows_of l n)) (count_lines_lem l x n)

pub record Formed (l : List ℕ) : Type 0 where
  pub long : length l ≡ 1842 + capacity l * 3
  pub most : capacity l ≤ 3136
  pub below : (k : ℕ) → k < 256 → all_below (capacity l) (rows_of l k) ≡ true
  pub last : (k : ℕ) → k < 256 → last_of (tail_of l k) (rows_of l k) ≡ tail_of l k
  pub rows : (x : ℕ) → x < 3136 → stands_to l 256 x + bit_at l x ≡ bit (ltb x (capacity l))
  pub summary : summary_ok l ≡ true

-- ---- the parts of the test
pub sized_of : (l : List ℕ) → sized l ≡ true → (length l ≡ 1842 + capacity l * 3) × (capacity l ≤ 3136)
unfolding sized
sized_of l e =
    let w = and-true (eqb (length l) (1842 + capacity l * 3)) (leb (capacity l) 3136) e in
    (eqb-true (length l) (1842 + capacity l * 3) w.0, leb-true (capacity l) 3136 w.1)

pub of_sized : (l : List ℕ) → length l ≡ 1842 + capacity l * 3 → capacity l ≤ 3136 → sized l ≡ true
unfolding sized
of_sized l e h = ap₂ ◌&&◌ (eq-eqb (length l) (1842 + capacity l * 3) e) (le-leb (capacity l) 3136 h)

pub line_of : (l : List ℕ) (k : ℕ) → line_ok l k ≡ true → (all_below (capacity l) (rows_of l k) ≡ true) × (last_of (tail_of l k) (rows_of l k) ≡ tail_of l k)
unfolding line_ok
line_of l k e =
    let w = and-true (all_below (capacity l) (rows_of l k)) (eqb (last_of (tail_of l k) (rows_of l k)) (tail_of l k)) e in
    (w.0, eqb-true (last_of (tail_of l k) (rows_of l k)) (tail_of l k) w.1)

pub of_line : (l : List ℕ) (k : ℕ) → all_below (capacity l) (rows_of l k) ≡ true → last_of (tail_of l k) (rows_of l k) ≡ tail_of l k → line_ok l k ≡ true
unfolding line_ok
of_line l k e h = ap₂ ◌&&◌ e (eq-eqb (last_of (tail_of l k) (rows_of l k)) (tail_of l k) h)

module _ (stands : ℕ → ℕ) (l : List ℕ) where
  abbrev pub row_test : ℕ → Bool
  row_test x = eqb (stands x + bit_at l x) (bit (ltb x (capacity l)))

  pub rows_of_lem : rows_ok stands l ≡ true → (x : ℕ) → x < 3136 → stands x + bit_at l x ≡ bit (ltb x (capacity l))
  unfolding rows_ok
  rows_of_lem e x h = eqb-true (stands x + bit_at l x) (bit (ltb x (capacity l))) (every_at 3136 row_test e x h)

  pub of_rows : ((x : ℕ) → x < 3136 → stands x + bit_at l x ≡ bit (ltb x (capacity l))) → rows_ok stands l ≡ true
  unfolding rows_ok
  of_rows h = every_all 3136 row_test (λ x hx. eq-eqb (stands x + bit_at l x) (bit (ltb x (capacity l))) (h x hx))

pub form_formed : (l : List ℕ) → form l ≡ true → Formed l
unfolding form
form_formed l e =
    let w = and-true (sized l) (every 256 (line_ok l) && (rows_ok (λ x. count x (rows_on_lines l 256)) l && summary_ok l)) e in
    let v = and-true (every 256 (line_ok l)) (rows_ok (λ x. count x (rows_on_lines l 256)) l && summary_ok l) w.1 in
    let u = and-true (rows_ok (λ x. count x (rows_on_lines l 256)) l) (summary_ok l) v.1 in
    record {
      long = (sized_of l w.0).0;
      most = (sized_of l w.0).1;
      below = λ k h. (line_of l k (every_at 256 (line_ok l) v.0 k h)).0;
      last = λ k h. (line_of l k (every_at 256 (line_ok l) v.0 k h)).1;
      rows = λ x h. ap (λ (y : ℕ). y + bit_at l x) (sym (count_lines_lem l x 256)) ∙ rows_of_lem (λ x. count x (rows_on_lines l 256)) l u.0 x h;
      summary = u.1;
    }

pub formed_form : (l : List ℕ) → Formed l → form l ≡ true
unfolding form
formed_form l f =
    ap₂ ◌&&◌ (of_sized l f.long f.most)
    (ap₂ ◌&&◌ (every_all 256 (line_ok l) (λ k h. of_line l k (f.below k h) (f.last k h)))
    (ap₂ ◌&&◌ (of_rows (λ x. count x (rows_on_lines l 256)) l (λ x h. ap (λ (y : ℕ). y + bit_at l x) (count_lines_lem l x 256) ∙ f.rows x h)) f.summary))

-- ---- lengths
pub length_rows : (l : List ℕ) (k : ℕ) → length (rows_of l k) ≡ length_of l k
unfolding rows_of
length_rows l k = length_chain (next_of l) (head_of l k) (length_of l k)

pub length_line : (l : List ℕ) (k : ℕ) → length (records_on l k) ≡ length_of l k
unfolding records_on
length_line l k = length-map (rows_of l k) (record_of l) ∙ length_rows l k

-- ---- the rows of a line
bit_one : (b : Bool) → 1 ≤ bit b → b ≡ true
bit_one true h = refl
bit_one false h = absurd (not-suc-le-zero h)

pub some_below : (x n : ℕ) → 1 ≤ bit (ltb x n) → x < n
some_below x n h = ltb-true x n (bit_one (ltb x n) h)

pub one_more : (n : ℕ) → 0 < n → (m : ℕ) × (n ≡ suc m)
one_more zero h = absurd (not-suc-le-zero h)
one_more (suc n) h = (n, refl)

last_below : (n d x : ℕ) (a : List ℕ) → all_below n (x ∷ a) ≡ true → last_of d (x ∷ a) < n
unfolding last_of
last_below n d x [] e = (below_head n x [] e).0
last_below n d x (y ∷ a) e = last_below n x y a (below_head n x (y ∷ a) e).1

below_more : (n m : ℕ) (a : List ℕ) → n ≤ m → all_below n a ≡ true → all_below m a ≡ true
unfolding all_below
below_more n m [] h e = refl
below_more n m (x ∷ a) h e = let w = below_head n x a e in ap₂ ◌&&◌ (lt-ltb x m (omega (arith, w.0))) (below_more n m a h w.1)

module _ (l : List ℕ) (w : Formed l) (k : ℕ) (hk : k < 256) (some : 0 < length_of l k) where
  pub m_of : (m : ℕ) × (length_of l k ≡ suc m)
  m_of = one_more (length_of l k) some

  pub rows_head : rows_of l k ≡ head_of l k ∷ chain (next_of l) (next_of l (head_of l k)) m_of.0
  unfolding rows_of
  rows_head = chain_head (next_of l) (head_of l k) m_of.0 (length_of l k) m_of.1

  rows_cons : all_below (capacity l) (head_of l k ∷ chain (next_of l) (next_of l (head_of l k)) m_of.0) ≡ true
  rows_cons = ap (all_below (capacity l)) (sym rows_head) ∙ w.below k hk

  pub head_below : head_of l k < capacity l
  head_below = (below_head (capacity l) (head_of l k) (chain (next_of l) (next_of l (head_of l k)) m_of.0) rows_cons).0

  pub tail_below : tail_of l k < capacity l
  tail_below = subst (λ (x : ℕ). x < capacity l) (sym (ap (last_of (tail_of l k)) rows_head) ∙ w.last k hk)
      (last_below (capacity l) (tail_of l k) (head_of l k) (chain (next_of l) (next_of l (head_of l k)) m_of.0) rows_cons)

  pub tail_nth : nth (next_of l) (head_of l k) m_of.0 ≡ tail_of l k
  unfolding rows_of
  tail_nth =
      sym (last_chain (tail_of l k) (next_of l) (head_of l k) m_of.0)
      ∙ ap (λ (n : ℕ). last_of (tail_of l k) (chain (next_of l) (head_of l k) n)) (sym m_of.1) ∙ w.last k hk

  pub rows_last : rows_of l k ≡ chain (next_of l) (head_of l k) m_of.0 ++ (tail_of l k ∷ [])
  unfolding rows_of
  rows_last =
      ap (chain (next_of l) (head_of l k)) m_of.1 ∙ chain_split (next_of l) (head_of l k) m_of.0
      ∙ ap (λ (x : ℕ). chain (next_of l) (head_of l k) m_of.0 ++ (x ∷ [])) tail_nth

-- a row of the pool is on the lines at most once
pub at_most_once : (l : List ℕ) → Formed l → (x : ℕ) → x < 3136 → stands_to l 256 x + bit_at l x ≤ 1
at_most_once l w x h = omega (arith, w.rows x h, bit_le (ltb x (capacity l)))

pub stands_line : (l : List ℕ) (x k : ℕ) → k < 256 → count x (rows_of l k) ≤ stands_to l 256 x
stands_line l x k h = sum_term 256 (λ j. count x (rows_of l j)) k h

pub stands_lines : (l : List ℕ) (x j k : ℕ) → j < 256 → k < 256 → (j ≡ k → ⊥) → count x (rows_of l j) + count x (rows_of l k) ≤ stands_to l 256 x
stands_lines l x j k hj hk jk = pick (dec_le (suc j) k)
  where
    pick : Dec (suc j ≤ k) → count x (rows_of l j) + count x (rows_of l k) ≤ stands_to l 256 x
    pick (yes h) = sum_terms 256 (λ i. count x (rows_of l i)) j k h hk
    pick (no h) = omega (arith, sum_terms 256 (λ i. count x (rows_of l i)) k j (omega arith) hj)

-- ---- the rows on lines and the free rows make up the pool
module _ (l : List ℕ) (w : Formed l) where
  used_stands : used l ≡ sum 3136 (stands_to l 256)
  unfolding used
  used_stands =
      sum_ext 256 (λ k. length (records_on l k)) (λ k. sum 3136 (λ x. count x (rows_of l k))) (λ k h.
      length_line l k ∙ sym (length_rows l k) ∙ sym (sum_count 3136 (rows_of l k) (below_more (capacity l) 3136 (rows_of l k) w.most (w.below k h))))
      ∙ sym (sum_swap 3136 256 (λ x k. count x (rows_of l k)))

  pub all_rows : used l + sum 3136 (bit_at l) ≡ capacity l
  all_rows =
      ap (λ (n : ℕ). n + sum 3136 (bit_at l)) used_stands
      ∙ sym (sum_add 3136 (stands_to l 256) (bit_at l))
      ∙ sum_ext 3136 (λ x. stands_to l 256 x + bit_at l x) (λ x. bit (ltb x (capacity l))) w.rows
      ∙ sum_below (capacity l) 3136 ∙ most
    where
      most : min 3136 (capacity l) ≡ capacity l
      most = omega (arith, w.most)

  pub line_short : (k : ℕ) → k < 256 → length_of l k ≤ capacity l
  unfolding used
  line_short k h = omega (arith, all_rows, sum_term 256 (λ j. length (records_on l j)) k h, length_line l k)

  s_of : Summary l
  s_of = summary_of_lem l w.summary

  -- no bit in the summary: no free row
  none_free : summary_of l ≡ 0 → sum 3136 (bit_at l) ≡ 0
  unfolding bit_at
  none_free e = sum_nil 3136 (bit_at l) (λ x h. ap (λ (y : ℕ). digit y (x % 64)) (zero_word (x / 64) (omega arith)) ∙ digit_none (x % 64))
    where
      zero_word : (v : ℕ) → v < 49 → get_or l v 0 ≡ 0
      zero_word v h = pick (dec_le 1 (get_or l v 0))
        where
          pick : Dec (1 ≤ get_or l v 0) → get_or l v 0 ≡ 0
          pick (yes q) = clash (ltb 0 (get_or l v 0)) (lt-ltb 0 (get_or l v 0) q) (sym (s_of.bits v h) ∙ ap (λ (y : ℕ). has y v) e ∙ has_zero v)
          pick (no q) = omega arith

  -- so a push finds a row where there is room
  pub room_summary : used l < capacity l → 0 < summary_of l
  room_summary h = pick (dec_le 1 (summary_of l))
    where
      pick : Dec (1 ≤ summary_of l) → 0 < summary_of l
      pick (yes q) = q
      pick (no q) = absurd (omega (arith, all_rows, none_free (omega arith)))

  -- a bit in the summary, where the words have 64 bits: a free row
  some_free : ((v : ℕ) → get_or l v 0 < 2 ^ 64) → 0 < summary_of l → 1 ≤ sum 3136 (bit_at l)
  some_free fit h =
      let v = some_member 49 (summary_of l) s_of.small h in
      let b = some_member 64 (get_or l v.0 0) (fit v.0) (summary_some l s_of v.0 v.2) in
      free_at v.0 b.0 v.1 b.1 (digit_is (get_or l v.0 0) b.0 ∙ ap bit b.2)
    where
      free_at : (v b : ℕ) → v < 49 → b < 64 → digit (get_or l v 0) b ≡ 1 → 1 ≤ sum 3136 (bit_at l)
      free_at v b hv hb e = omega (arith, sum_term 3136 (bit_at l) (v * 64 + b) (omega arith), row_bit l v b hb, e)

-- ---- what the functions ask of a well-formed pool
module _ (l : List ℕ) (e : form l ≡ true) where
  pub own_line : (k : ℕ) → k < 256 → line_at k + 3 ≤ length l
  own_line k h = omega (arith, (form_formed l e).long)

  pub linkable : (k : ℕ) → k < 256 → (line_at k + 3 ≤ length l) × (0 < length_of l k → tail_of l k < 3136)
  linkable k h = (own_line k h, λ some. omega (arith, (form_formed l e).most, tail_below l (form_formed l e) k h some))

  pub holdable : (50 ≤ length l) × (summary_ok l ≡ true)
  holdable = let w = form_formed l e in (omega (arith, w.long), w.summary)

  pub takable : used l < capacity l → (50 ≤ length l) × (summary_ok l ≡ true) × (0 < summary_of l)
  takable h = (holdable.0, holdable.1, room_summary l (form_formed l e) h)

  module _ (k : ℕ) (hk : k < 256) (some : 0 < length (records_on l k)) where
    pub some_long : 0 < length_of l k
    some_long = omega (arith, length_line l k)

    pub own_head : (x : ℕ) → x ≡ head_of l k → row_at x + 3 ≤ length l
    own_head x q = let w = form_formed l e in omega (arith, w.long, head_below l w k hk some_long)
