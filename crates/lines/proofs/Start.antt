-- All lines are empty, and all rows free.
use mathlib.Core.Path.{◌≡◌, sym, ap, ap₂, ◌∙◌, subst}
use mathlib.Core.Bool.{true}
use mathlib.Core.List.{List, [], map}
use Prim.Native.Nat.{ℕ, ◌+◌, ◌*◌, ◌/◌, ◌%◌, ◌^◌, ◌≤◌, ◌<◌}
use native.Mathlib.Decide.{ℕ_discrete}
use native.Mathlib.Omega.{arith}
use lib.Dec.{ltb}
use lib.ListN.{length, get_or, set}
use lib.Seq.{get_or-set_same, get_or-set_other}
use Rattle.protocol.specs.CartSets.{has}
use Rattle.protocol.specs.Form.{bit}
use Rattle.protocol.proofs.Counting.{sum_nil}
use Rattle.lines.specs.Bits.{bit_at}
use Rattle.lines.specs.Words.{capacity, line_at, summary_of, head_of, tail_of, length_of, next_of}
use Rattle.lines.specs.Lines.{chain, rows_of, record_of, records_on, used}
use Rattle.lines.specs.Form.{count, all_below, last_of, sized}
use Rattle.lines.specs.Post.{Cleared}
use Rattle.lines.specs.Parts.{Full, Freed, AllFree, Emptied}
use Rattle.lines.proofs.Bitmap.{of_summary, bits_same, summary_same}
use Rattle.lines.proofs.Chains.{chain_none}
use Rattle.lines.proofs.Change.{capacity_same}
use Rattle.lines.proofs.Formed.{Formed, formed_form, sized_of, stands_to}

-- ---- the lines, one after the other
module _ (l l₀ : List ℕ) (k : ℕ) where
  pub emptied_more : line_at k + 3 ≤ length l → ((j : ℕ) → j < k → length_of l j ≡ 0) → (j : ℕ) → j < k + 1 → length_of (set l (line_at k + 2) 0) j ≡ 0
  emptied_more h all j hj = pick (ℕ_discrete j k)
    where
      pick : Dec (j ≡ k) → length_of (set l (line_at k + 2) 0) j ≡ 0
      pick (yes q) = ap (length_of (set l (line_at k + 2) 0)) q ∙ get_or-set_same l (line_at k + 2) 0 0 (omega arith)
      pick (no q) = get_or-set_other l (line_at k + 2) (line_at j + 2) 0 0 (λ e. q (omega arith)) ∙ all j (omega arith)

  pub emptied_rest : ((a : ℕ) → a < 50 → get_or l a 0 ≡ get_or l₀ a 0) → (a : ℕ) → a < 50 → get_or (set l (line_at k + 2) 0) a 0 ≡ get_or l₀ a 0
  emptied_rest same a h = get_or-set_other l (line_at k + 2) a 0 0 (omega arith) ∙ same a h

-- ---- the words of the free rows, one after the other
-- word v has all its rows free, and the summary says it
abbrev pub FreeAt : List ℕ → ℕ → ℕ → Type 0
FreeAt l rows v = Full rows v (get_or l v 0) × (has (summary_of l) v ≡ ltb 0 (get_or l v 0))

pub free_start : (l : List ℕ) → 50 ≤ length l → summary_of (set l 49 0) < 2 ^ 49
free_start l h = subst (λ (x : ℕ). x < 2 ^ 49) (sym (get_or-set_same l 49 0 0 h)) (omega arith)

pub free_more : (l l' : List ℕ) (rows w x : ℕ) → Freed l l' w x → w < 49 → Full rows w x → ((v : ℕ) → v < w → FreeAt l rows v) → (v : ℕ) → v < w + 1 → FreeAt l' rows v
free_more l l' rows w x h hw full all v hv = pick (ℕ_discrete v w)
  where
    pick : Dec (v ≡ w) → FreeAt l' rows v
    pick (yes q) = subst (λ (i : ℕ). FreeAt l' rows i) (sym q)
        (subst (λ (y : ℕ). Full rows w y) (sym h.word) full, h.summary.here ∙ ap (ltb 0) (sym h.word))
    pick (no q) =
        let e : get_or l' v 0 ≡ get_or l v 0 = h.others v q (omega arith) in
        let before = all v (omega arith) in
        (subst (λ (y : ℕ). Full rows v y) (sym e) before.0, h.summary.there v q ∙ before.1 ∙ ap (ltb 0) (sym e))

pub free_end : (l₀ l : List ℕ) (rows w : ℕ) → rows ≡ capacity l₀ → 49 ≤ w → summary_of l < 2 ^ 49 → ((v : ℕ) → v < w → FreeAt l rows v) → AllFree l₀ l
unfolding bit_at
free_end l₀ l rows w e h small all = record {
  bits = λ x hx. (all (x / 64) (omega arith)).0 (x % 64) (omega arith) ∙ ap₂ (λ (y n : ℕ). bit (ltb y n)) (whole x) e;
  summary = of_summary l (record { bits = λ v hv. (all v (omega arith)).1; small = small });
}
  where
    whole : (x : ℕ) → x / 64 * 64 + x % 64 ≡ x
    whole x = omega arith

-- ---- the whole
module _ (l l1 l2 : List ℕ) (e : sized l ≡ true) (f : AllFree l l1) (g : Emptied l1 l2) (same : length l2 ≡ length l) where
  cap_same : capacity l2 ≡ capacity l
  cap_same = capacity_same l l2 same

  rows_none : (k : ℕ) → k < 256 → rows_of l2 k ≡ []
  unfolding rows_of
  rows_none k h = ap (chain (next_of l2) (head_of l2 k)) (g.empty k h) ∙ chain_none (next_of l2) (head_of l2 k)

  line_none : (k : ℕ) → k < 256 → records_on l2 k ≡ []
  unfolding records_on
  line_none k h = ap (map (record_of l2)) (rows_none k h)

  stands_none : (x : ℕ) → stands_to l2 256 x ≡ 0
  unfolding count
  stands_none x = sum_nil 256 (λ k. count x (rows_of l2 k)) (λ k h. ap (count x) (rows_none k h))

  formed_start : Formed l2
  unfolding all_below last_of
  formed_start = record {
    long = same ∙ (sized_of l e).0 ∙ ap (λ (n : ℕ). 1842 + n * 3) (sym cap_same);
    most = omega (arith, cap_same, (sized_of l e).1);
    below = λ k h. ap (all_below (capacity l2)) (rows_none k h);
    last = λ k h. ap (last_of (tail_of l2 k)) (rows_none k h);
    rows = λ x h. ap₂ ◌+◌ (stands_none x) (bits_same l1 l2 g.rest x h ∙ f.bits x h) ∙ zero_plus (bit (ltb x (capacity l))) ∙ ap (λ (n : ℕ). bit (ltb x n)) (sym cap_same);
    summary = summary_same l1 l2 g.rest f.summary;
  }
    where
      zero_plus : (n : ℕ) → 0 + n ≡ n
      zero_plus n = omega arith

  pub clear_is : Cleared l l2
  unfolding used
  clear_is = record {
    formed = formed_form l2 formed_start;
    empty = line_none;
    none = sum_nil 256 (λ k. length (records_on l2 k)) (λ k h. ap length (line_none k h));
    room = cap_same;
    words = same;
  }
