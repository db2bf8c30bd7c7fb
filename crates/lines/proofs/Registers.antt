-- THE ROWS OF THE REGISTERS, between the lines and the rows of the pool.
use mathlib.Core.Path.{◌≡◌, refl, sym, ap, ◌∙◌, fun_ext}
use mathlib.Core.Bool.{true}
use mathlib.Core.List.{List, map}
use Prim.Native.Nat.{ℕ, ◌+◌, ◌*◌, ◌≤◌, ◌<◌}
use native.Mathlib.Omega.{arith}
use lib.Dec.{ltb}
use lib.ListN.{length, get_or, set, get_or-eq_default}
use lib.Seq.{get_or-set_same, get_or-set_other}
use borrow.Author.Tests.{eq-eqb, ne_eqb, lt-ltb, le-ltb}
use Rattle.protocol.specs.Form.{bit}
use Rattle.protocol.specs.Handoff.{entry_of}
use Rattle.protocol.proofs.Tests.{by_lt, by_eq, and-false}
use Rattle.protocol.proofs.Counting.{sum_ext}
use Rattle.lines.specs.Bits.{bit_at}
use Rattle.lines.specs.Words.{line_at, register_at, row_at, tail_of, next_of}
use Rattle.lines.specs.Lines.{chain, rows_of, record_of, records_on, used, registers_in}
use Rattle.lines.specs.Form.{count, all_below, last_of, form}
use Rattle.lines.specs.Post.{SameRegisters, Carried}
use Rattle.lines.proofs.Bitmap.{bits_same, summary_same}
use Rattle.lines.proofs.Formed.{Formed, form_formed, formed_form, stands_to}
use Rattle.lines.proofs.Change.{capacity_same}

-- ---- words of a register
-- within its row
pub register_read : (l : List ℕ) (c s i : ℕ) → c < 64 → s < 16 → i ≡ register_at c + s → get_or l i 0 ≡ registers_in l c s
unfolding registers_in
register_read l c s i hc hs e = rw (lt-ltb c 64 hc, lt-ltb s 16 hs) (ap (λ (x : ℕ). get_or l x 0) e)

-- there are 64, of sixteen words
register_beyond : (l : List ℕ) (c s : ℕ) → 64 ≤ c → registers_in l c s ≡ 0
unfolding registers_in
register_beyond l c s h = rw (le-ltb c 64 h)

row_beyond : (l : List ℕ) (c s : ℕ) → 16 ≤ s → registers_in l c s ≡ 0
unfolding registers_in
row_beyond l c s h = rw (le-ltb s 16 h, and-false (ltb c 64))

-- a word of a register, where each of its words is what it was
word_kept : (l l' : List ℕ) (c s : ℕ) → (c < 64 → s < 16 → get_or l' (register_at c + s) 0 ≡ get_or l (register_at c + s) 0) → registers_in l' c s ≡ registers_in l c s
word_kept l l' c s h =
    by_lt c 64
    (λ hc. by_lt s 16
    (λ hs. sym (register_read l' c s (register_at c + s) hc hs refl) ∙ h hc hs ∙ register_read l c s (register_at c + s) hc hs refl)
    (λ hs. row_beyond l' c s hs ∙ sym (row_beyond l c s hs)))
    (λ hc. register_beyond l' c s hc ∙ sym (register_beyond l c s hc))

-- no word of the registers has changed
pub registers_kept : (l l' : List ℕ) → ((a : ℕ) → 818 ≤ a → a < 1842 → get_or l' a 0 ≡ get_or l a 0) → SameRegisters l l'
registers_kept l l' h = fun_ext (λ c. fun_ext (λ s. word_kept l l' c s (λ hc hs. h (register_at c + s) (omega arith) (omega arith))))

-- ---- a row is written word by word, from word a on
-- its first i words are there, and every other word is what it was in l₀
pub record WrittenTo (l₀ l : List ℕ) (a : ℕ) (row : List ℕ) (i : ℕ) : Type 0 where
  pub here : (s : ℕ) → s < i → get_or l (a + s) 0 ≡ get_or row s 0
  pub before : (k : ℕ) → k < a → get_or l k 0 ≡ get_or l₀ k 0
  pub after : (k : ℕ) → a + i ≤ k → get_or l k 0 ≡ get_or l₀ k 0

pub write_none : (l : List ℕ) (a : ℕ) (row : List ℕ) → WrittenTo l l a row 0
write_none l a row = record { here = λ s h. absurd (omega arith); before = λ k h. refl; after = λ k h. refl }

pub write_one : (l₀ l : List ℕ) (a : ℕ) (row : List ℕ) (i : ℕ) → a + i < length l → WrittenTo l₀ l a row i → WrittenTo l₀ (set l (a + i) (get_or row i 0)) a row (i + 1)
write_one l₀ l a row i h w = record {
  here = λ s hs. by_eq s i
      (λ q. ap (λ (x : ℕ). get_or (set l (a + i) (get_or row i 0)) (a + x) 0) q ∙ get_or-set_same l (a + i) (get_or row i 0) 0 h ∙ ap (λ (x : ℕ). get_or row x 0) (sym q))
      (λ q. get_or-set_other l (a + i) (a + s) (get_or row i 0) 0 (omega arith) ∙ w.here s (omega arith));
  before = λ k hk. get_or-set_other l (a + i) k (get_or row i 0) 0 (omega arith) ∙ w.before k hk;
  after = λ k hk. get_or-set_other l (a + i) k (get_or row i 0) 0 (omega arith) ∙ w.after k (omega arith);
}

-- ---- the lines lie in other words than the registers
module _ (l l' : List ℕ) (same : length l' ≡ length l) (low : (k : ℕ) → k < 818 → get_or l' k 0 ≡ get_or l k 0) (high : (k : ℕ) → 1842 ≤ k → get_or l' k 0 ≡ get_or l k 0) where
  nexts : next_of l' ≡ next_of l
  nexts = λ i x. high (row_at x) (omega arith) i

  records : record_of l' ≡ record_of l
  unfolding record_of
  records = λ i x. record { 0 = high (row_at x + 1) (omega arith) i; 1 = high (row_at x + 2) (omega arith) i }

  rows_kept : (k : ℕ) → k < 256 → rows_of l' k ≡ rows_of l k
  unfolding rows_of
  rows_kept k h = λ i. chain (nexts i) (low (line_at k) (omega arith) i) (low (line_at k + 2) (omega arith) i)

  line_kept : (k : ℕ) → k < 256 → records_on l' k ≡ records_on l k
  unfolding records_on
  line_kept k h = λ i. map (records i) (rows_kept k h i)

  used_kept : used l' ≡ used l
  unfolding used
  used_kept = sum_ext 256 (λ k. length (records_on l' k)) (λ k. length (records_on l k)) (λ k h. ap length (line_kept k h))

  formed_kept : Formed l → Formed l'
  formed_kept w = let room = capacity_same l l' same in record {
    long = same ∙ w.long ∙ ap (λ (n : ℕ). 1842 + n * 3) (sym room);
    most = omega (arith, w.most);
    below = λ k h. (λ i. all_below (room i) (rows_kept k h i)) ∙ w.below k h;
    last = λ k h. let t : tail_of l' k ≡ tail_of l k = low (line_at k + 1) (omega arith) in (λ i. last_of (t i) (rows_kept k h i)) ∙ w.last k h ∙ sym t;
    rows = λ x h. stands x h ∙ w.rows x h ∙ ap (λ (n : ℕ). bit (ltb x n)) (sym room);
    summary = summary_same l l' (λ a h. low a (omega arith)) w.summary;
  }
    where
      stands : (x : ℕ) → x < 3136 → stands_to l' 256 x + bit_at l' x ≡ stands_to l 256 x + bit_at l x
      stands x h = omega (arith, sum_ext 256 (λ k. count x (rows_of l' k)) (λ k. count x (rows_of l k)) (λ k hk. ap (count x) (rows_kept k hk)), bits_same l l' (λ a q. low a (omega arith)) x h)

-- ---- the row of cart c is written
module _ (l l' : List ℕ) (c : ℕ) (row : List ℕ) (hc : c < 64) (sixteen : length row ≡ 16) (same : length l' ≡ length l) (w : WrittenTo l l' (register_at c) row 16) where
  -- that of cart d
  module _ (d s : ℕ) where
    put_same : d ≡ c → registers_in l' d s ≡ entry_of row s
    put_same q =
        ap (λ (x : ℕ). registers_in l' x s) q
        ∙ by_lt s 16
        (λ h. sym (register_read l' c s (register_at c + s) hc h refl) ∙ w.here s h)
        (λ h. row_beyond l' c s h ∙ sym (get_or-eq_default row 0 (omega arith)))

    put_other : (d ≡ c → ⊥) → registers_in l' d s ≡ registers_in l d s
    put_other q = word_kept l l' d s (λ hd hs. by_lt d c (λ m. w.before (register_at d + s) (omega arith)) (λ m. w.after (register_at d + s) (omega arith)))

  pub carry_is : form l ≡ true → Carried l l' c row
  carry_is e =
      let low : (k : ℕ) → k < 818 → get_or l' k 0 ≡ get_or l k 0 = λ k h. w.before k (omega arith) in
      let high : (k : ℕ) → 1842 ≤ k → get_or l' k 0 ≡ get_or l k 0 = λ k h. w.after k (omega arith) in
      record {
        formed = formed_form l' (formed_kept l l' same low high (form_formed l e));
        lines = line_kept l l' same low high;
        registers = fun_ext (λ d. fun_ext (λ s. by_eq d c
            (λ q. rw (eq-eqb d c q) (put_same d s q))
            (λ q. rw (ne_eqb d c q) (put_other d s q))));
        same = used_kept l l' same low high;
        room = capacity_same l l' same;
        words = same;
      }
