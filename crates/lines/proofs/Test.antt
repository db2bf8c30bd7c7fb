-- The form test, part by part.
use mathlib.Core.Path.{◌≡◌, refl, sym, ap, ap₂, ◌∙◌, subst}
use mathlib.Core.Bool.{Bool, true, false, not, ◌&&◌, beq}
use mathlib.Core.List.{List, [], ◌∷◌}
use Prim.Native.Nat.{ℕ, zero, suc, ◌+◌, ◌-◌, ◌*◌, ◌/◌, ◌%◌, ◌≤◌, ◌<◌}
use native.Mathlib.Numerals.{add-one}
use native.Mathlib.Decide.{ℕ_discrete, dec_le}
use native.Mathlib.Omega.{arith}
use lib.Dec.{eqb, ltb}
use lib.ListN.{length, get_or, replicate}
use borrow.Author.Tests.{eqb-true, eqb-false, eq-eqb, lt-ltb}
use Rattle.protocol.specs.Folds.{every}
use Rattle.protocol.specs.CartSets.{digit, has}
use Rattle.protocol.specs.Form.{bit}
use Rattle.protocol.proofs.SetLaws.{digit_lt}
use Rattle.protocol.proofs.Tests.{every_at, every_all}
use Rattle.lines.specs.Bits.{bit_at}
use Rattle.lines.specs.Words.{capacity, summary_of, head_of, tail_of, length_of, next_of}
use Rattle.lines.specs.Lines.{chain, rows_of}
use Rattle.lines.specs.Form.{count, all_below, last_of, rows_on_lines, sized, line_ok, rows_ok, summary_ok, form}
use Rattle.lines.specs.Parts.{Full, Marked, Walked, Surveyed}
use Rattle.lines.proofs.Digits.{same_yes, same_no, digit_none, has_digit}
use Rattle.lines.proofs.Sums.{false_true, not_true_false, every_more, sum_suc, sum_longer, count_cons, below_head}
use Rattle.lines.proofs.Bitmap.{summary_of_lem, row_bit}
use Rattle.lines.proofs.Chains.{chain_none, chain_head}
use Rattle.lines.proofs.Formed.{Formed, form_formed, stands_to, count_lines_lem, line_of, of_line, rows_of_lem, of_rows, one_more, at_most_once}

-- ---- the summary
abbrev pub summary_test : List ℕ → ℕ → Bool
summary_test l w = eqb (digit (summary_of l) w) (bit (ltb 0 (get_or l w 0)))

-- two answers that differ, or do not
unlike : (a b : Bool) → not (beq a b) ≡ true → a ≡ b → ⊥
unlike true b e q = false_true (ap (λ (c : Bool). not (beq true c)) q ∙ e)
unlike false b e q = false_true (ap (λ (c : Bool). not (beq false c)) q ∙ e)

alike : (a b : Bool) → not (beq a b) ≡ false → a ≡ b
alike true true e = refl
alike true false e = e
alike false true e = sym e
alike false false e = refl

module _ (l : List ℕ) (w : ℕ) (d : Bool) (ed : d ≡ has (summary_of l) w) where
  pub summary_fails : w < 49 → not (beq d (ltb 0 (get_or l w 0))) ≡ true → false ≡ summary_ok l
  summary_fails hw h = not_true_false (summary_ok l) (λ t. unlike d (ltb 0 (get_or l w 0)) h (ed ∙ (summary_of_lem l t).bits w hw))

  pub summary_more : every w (summary_test l) ≡ true → not (beq d (ltb 0 (get_or l w 0))) ≡ false → every (w + 1) (summary_test l) ≡ true
  summary_more e q = every_more (summary_test l) w e (has_digit (summary_of l) w (ltb 0 (get_or l w 0)) (sym ed ∙ alike d (ltb 0 (get_or l w 0)) q))

pub summary_end : (l : List ℕ) (w : ℕ) → w ≤ 49 → 49 ≤ w → every w (summary_test l) ≡ true → ltb (summary_of l) 562949953421312 ≡ summary_ok l
unfolding summary_ok
summary_end l w h h' e = let z : w ≡ 49 = omega arith in
    sym (ap (λ (b : Bool). b && ltb (summary_of l) 562949953421312) (subst (λ (i : ℕ). every i (summary_test l) ≡ true) z e))

-- ---- the rows that are seen and the free rows
module _ (l s : List ℕ) (w rows whole : ℕ) (r : Bool) (er : rows ≡ capacity l) (full : Full rows w whole)
    (e : r ≡ every 64 (λ c. eqb (digit (get_or s w 0) c + digit (get_or l w 0) c) (digit whole c))) where
  abbrev word_test : ℕ → Bool
  word_test c = eqb (digit (get_or s w 0) c + digit (get_or l w 0) c) (digit whole c)

  pub word_fails : w < 49 → r ≡ false → false ≡ rows_ok (bit_at s) l
  word_fails hw q = not_true_false (rows_ok (bit_at s) l) (λ t. false_true (sym q ∙ e ∙ every_all 64 word_test (λ c hc.
      eq-eqb (digit (get_or s w 0) c + digit (get_or l w 0) c) (digit whole c) (sum t c hc))))
    where
      sum : rows_ok (bit_at s) l ≡ true → (c : ℕ) → c < 64 → digit (get_or s w 0) c + digit (get_or l w 0) c ≡ digit whole c
      sum t c hc =
          ap₂ ◌+◌ (sym (row_bit s w c hc)) (sym (row_bit l w c hc)) ∙ rows_of_lem (bit_at s) l t (w * 64 + c) (omega arith)
          ∙ ap (λ (n : ℕ). bit (ltb (w * 64 + c) n)) (sym er) ∙ sym (full c hc)

  pub word_more : r ≡ true → ((x : ℕ) → x < w * 64 → bit_at s x + bit_at l x ≡ bit (ltb x (capacity l)))
      → (x : ℕ) → x < (w + 1) * 64 → bit_at s x + bit_at l x ≡ bit (ltb x (capacity l))
  word_more q all x hx = pick (dec_le (w * 64) x)
    where
      here : (c : ℕ) → c < 64 → bit_at s (w * 64 + c) + bit_at l (w * 64 + c) ≡ bit (ltb (w * 64 + c) (capacity l))
      here c hc =
          ap₂ ◌+◌ (row_bit s w c hc) (row_bit l w c hc)
          ∙ eqb-true (digit (get_or s w 0) c + digit (get_or l w 0) c) (digit whole c) (every_at 64 word_test (sym e ∙ q) c hc)
          ∙ full c hc ∙ ap (λ (n : ℕ). bit (ltb (w * 64 + c) n)) er

      pick : Dec (w * 64 ≤ x) → bit_at s x + bit_at l x ≡ bit (ltb x (capacity l))
      pick (no h) = all x (omega arith)
      pick (yes h) = let z : w * 64 + (x - w * 64) ≡ x = omega arith in
          subst (λ (y : ℕ). bit_at s y + bit_at l y ≡ bit (ltb y (capacity l))) z (here (x - w * 64) (omega arith))

pub rows_end : (l s : List ℕ) (w : ℕ) → 49 ≤ w → ((x : ℕ) → x < w * 64 → bit_at s x + bit_at l x ≡ bit (ltb x (capacity l))) → true ≡ rows_ok (bit_at s) l
rows_end l s w h all = sym (of_rows (bit_at s) l (λ x hx. all x (omega arith)))

below_first : (n x : ℕ) (a : List ℕ) → x < n → all_below n (x ∷ a) ≡ all_below n a
unfolding all_below
below_first n x a h = ap (λ (b : Bool). b && all_below n a) (lt-ltb x n h)

below_none : (n : ℕ) → all_below n [] ≡ true
unfolding all_below
below_none n = refl

last_none : (d : ℕ) → last_of d [] ≡ d
unfolding last_of
last_none d = refl

last_first : (d x : ℕ) (a : List ℕ) → last_of d (x ∷ a) ≡ last_of x a
unfolding last_of
last_first d x a = refl

count_none : (x : ℕ) → count x [] ≡ 0
unfolding count
count_none x = refl

not_one : (n : ℕ) → n < 2 → (n ≡ 1 → ⊥) → n ≡ 0
not_one n h q = pick (dec_le 1 n)
  where
    pick : Dec (1 ≤ n) → n ≡ 0
    pick (yes z) = absurd (q (omega arith))
    pick (no z) = omega arith

-- ---- a walk of line k: what is still to come, from row on, and the marks make up the whole line
pub record Walk (l : List ℕ) (k : ℕ) (s₀ : List ℕ) (rows : ℕ) (s : List ℕ) (left row last : ℕ) : Type 0 where
  pub all : rows ≡ capacity l
  pub marks : length s ≡ 49
  pub below : all_below (capacity l) (chain (next_of l) row left) ≡ all_below (capacity l) (rows_of l k)
  pub end : last_of last (chain (next_of l) row left) ≡ last_of (tail_of l k) (rows_of l k)
  pub counts : (x : ℕ) → bit_at s x + count x (chain (next_of l) row left) ≡ bit_at s₀ x + count x (rows_of l k)

pub walk_start : (l : List ℕ) (k : ℕ) (s : List ℕ) (rows left row last : ℕ)
    → rows ≡ capacity l → length s ≡ 49 → left ≡ length_of l k → row ≡ head_of l k → last ≡ tail_of l k → Walk l k s rows s left row last
unfolding rows_of
walk_start l k s rows left row last er es el ex et = let q : chain (next_of l) row left ≡ chain (next_of l) (head_of l k) (length_of l k) = ap₂ (chain (next_of l)) ex el in record {
  all = er;
  marks = es;
  below = ap (all_below (capacity l)) q;
  end = ap₂ last_of et q;
  counts = λ x. ap (λ (a : List ℕ). bit_at s x + count x a) q;
}

bit_at_lt : (s : List ℕ) (x : ℕ) → bit_at s x < 2
unfolding bit_at
bit_at_lt s x = digit_lt (get_or s (x / 64) 0) (x % 64)

module _ (l : List ℕ) (k : ℕ) (s₀ : List ℕ) (rows : ℕ) (s : List ℕ) (left row last : ℕ) (w : Walk l k s₀ rows s left row last) where
  refused : (line_ok l k ≡ true → ((x : ℕ) → x < capacity l → bit_at s₀ x + count x (rows_of l k) ≤ 1) → ⊥) → Walked l k s₀ s false
  refused h = record { good = λ e. absurd (false_true e); bad = λ e. h }

  module _ (some : 0 < left) where
    abbrev m : ℕ
    m = (one_more left some).0

    cons : chain (next_of l) row left ≡ row ∷ chain (next_of l) (next_of l row) m
    cons = chain_head (next_of l) row m left (one_more left some).1

    pub walk_high : rows ≤ row → Walked l k s₀ s false
    walk_high h = refused (λ ok once.
        omega (arith, (below_head (capacity l) row (chain (next_of l) (next_of l row) m) (ap (all_below (capacity l)) (sym cons) ∙ w.below ∙ (line_of l k ok).0)).0, w.all))

    here : (x : ℕ) → bit_at s x + (bit (eqb row x) + count x (chain (next_of l) (next_of l row) m)) ≡ bit_at s₀ x + count x (rows_of l k)
    here x = ap (λ (n : ℕ). bit_at s x + n) (sym (ap (count x) cons ∙ count_cons x row (chain (next_of l) (next_of l row) m))) ∙ w.counts x

    pub walk_twice : (b : Bool) → b ≡ eqb (bit_at s row) 1 → b ≡ true → row < rows → Walked l k s₀ s false
    walk_twice b e q h = refused (λ ok once.
        omega (arith, here row, same_yes row row refl, eqb-true (bit_at s row) 1 (sym e ∙ q), once row (omega (arith, w.all))))

    pub walk_on : (s' : List ℕ) (b : Bool) (x : ℕ) → b ≡ eqb (bit_at s row) 1 → b ≡ false → row < rows → Marked s s' row → length s' ≡ length s → x ≡ next_of l row
        → Walk l k s₀ rows s' (left - 1) x row
    walk_on s' b x e q h mk es ex = record {
      all = w.all;
      marks = es ∙ w.marks;
      below = ap (all_below (capacity l)) rest ∙ sym fits ∙ ap (all_below (capacity l)) (sym cons) ∙ w.below;
      end = ap (last_of row) rest ∙ sym (last_first last row (chain (next_of l) (next_of l row) m)) ∙ sym (ap (last_of last) cons) ∙ w.end;
      counts = λ y. ap (λ (a : List ℕ). bit_at s' y + count y a) rest ∙ count_on y (ℕ_discrete row y);
    }
      where
        rest : chain (next_of l) x (left - 1) ≡ chain (next_of l) (next_of l row) m
        rest = ap₂ (chain (next_of l)) ex less
          where
            less : left - 1 ≡ m
            less = omega (arith, (one_more left some).1)

        fits : all_below (capacity l) (row ∷ chain (next_of l) (next_of l row) m) ≡ all_below (capacity l) (chain (next_of l) (next_of l row) m)
        fits = below_first (capacity l) row (chain (next_of l) (next_of l row) m) (omega (arith, w.all))

        unmarked : bit_at s row ≡ 0
        unmarked = not_one (bit_at s row) (bit_at_lt s row) (eqb-false (bit_at s row) 1 (sym e ∙ q))

        count_on : (y : ℕ) → Dec (row ≡ y) → bit_at s' y + count y (chain (next_of l) (next_of l row) m) ≡ bit_at s₀ y + count y (rows_of l k)
        count_on y (yes z) = omega (arith, here y, mk y, same_yes row y z, unmarked, ap (bit_at s) z)
        count_on y (no z) = omega (arith, here y, mk y, same_no row y z)

  pub walk_end : (t : ℕ) → t ≡ tail_of l k → left ≤ 0 → Walked l k s₀ s (eqb last t)
  walk_end t et h = record {
    good = λ q. (
      of_line l k (sym w.below ∙ ap (all_below (capacity l)) none ∙ below_none (capacity l)) (sym w.end ∙ ap (last_of last) none ∙ last_none last ∙ eqb-true last t q ∙ et),
      λ x. omega (arith, w.counts x, ap (count x) none, count_none x),
    );
    bad = λ q ok once. eqb-false last t q (sym (last_none last) ∙ sym (ap (last_of last) none) ∙ w.end ∙ (line_of l k ok).1 ∙ sym et);
  }
    where
      none : chain (next_of l) row left ≡ []
      none = let z : left ≡ 0 = omega arith in ap (chain (next_of l) row) z ∙ chain_none (next_of l) row

-- ---- the walks of all lines
module _ (l s : List ℕ) (k : ℕ) (hk : k < 256) (before : (x : ℕ) → bit_at s x ≡ stands_to l k x) (s' : List ℕ) (r : Bool) (w : Walked l k s s' r) where
  pub survey_fails : r ≡ false → Surveyed l s' false
  survey_fails e = record { good = λ q. absurd (false_true q); bad = λ q ok. refuse (form_formed l ok) }
    where
      refuse : Formed l → ⊥
      refuse f = w.bad e (of_line l k (f.below k hk) (f.last k hk)) (λ x hx.
          omega (arith, before x, at_most_once l f x (omega (arith, f.most)), sum_suc k (λ j. count x (rows_of l j)), sum_longer (λ j. count x (rows_of l j)) (suc k) 256 hk))

  pub survey_more : r ≡ true → every k (line_ok l) ≡ true → (every (k + 1) (line_ok l) ≡ true) × ((x : ℕ) → bit_at s' x ≡ stands_to l (k + 1) x)
  survey_more e q = (
    every_more (line_ok l) k q (w.good e).0,
    λ x. (w.good e).1 x ∙ ap (λ (n : ℕ). n + count x (rows_of l k)) (before x) ∙ sym (sum_suc k (λ j. count x (rows_of l j))) ∙ ap (λ (n : ℕ). stands_to l n x) (sym (add-one k)),
  )

pub survey_end : (l s : List ℕ) (k : ℕ) → k ≤ 256 → 256 ≤ k → every k (line_ok l) ≡ true → ((x : ℕ) → bit_at s x ≡ stands_to l k x) → Surveyed l s true
survey_end l s k h h' e all = let z : k ≡ 256 = omega arith in record {
  good = λ q. (subst (λ (i : ℕ). every i (line_ok l) ≡ true) z e, λ x. all x ∙ ap (λ (i : ℕ). stands_to l i x) z ∙ sym (count_lines_lem l x 256));
  bad = λ q. absurd (false_true (sym q));
}

-- ---- the whole test
zeros : (n i : ℕ) → ◌≡◌ {A = ℕ} (get_or (replicate n 0) i 0) 0
zeros zero i = refl
zeros (suc n) zero = refl
zeros (suc n) (suc i) = zeros n i

pub none_seen : (n x : ℕ) → bit_at (replicate n 0) x ≡ 0
unfolding bit_at
none_seen n x = ap (λ (y : ℕ). digit y (x % 64)) (zeros n (x / 64)) ∙ digit_none (x % 64)

module _ (l s : List ℕ) (r : Bool) (w : Surveyed l s r) where
  module _ (e : r ≡ true) (b : Bool) (eb : b ≡ rows_ok (bit_at s) l) where
    pub form_unbalanced : b ≡ false → false ≡ form l
    form_unbalanced q = not_true_false (form l) (λ t. false_true (sym q ∙ eb ∙ of_rows (bit_at s) l (λ x h.
        ap (λ (n : ℕ). n + bit_at l x) ((w.good e).1 x ∙ count_lines_lem l x 256) ∙ (form_formed l t).rows x h)))

    pub form_end : sized l ≡ true → b ≡ true → summary_ok l ≡ form l
    unfolding form
    form_end es q = sym (λ i. es i && ((w.good e).0 i && (rows_true i && summary_ok l)))
      where
        rows_true : rows_ok (λ x. count x (rows_on_lines l 256)) l ≡ true
        rows_true = of_rows (λ x. count x (rows_on_lines l 256)) l (λ x h.
            ap (λ (n : ℕ). n + bit_at l x) (sym ((w.good e).1 x)) ∙ rows_of_lem (bit_at s) l (sym eb ∙ q) x h)
