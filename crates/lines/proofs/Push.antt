-- A record joins a line.
use mathlib.Core.Path.{◌≡◌, refl, sym, ap, ap₂, ◌∙◌, subst}
use mathlib.Core.Bool.{true}
use mathlib.Core.List.{List, [], ◌∷◌, ◌++◌, map}
use mathlib.Core.Logic.{⊎_elim, ◌⊎◌, inl, inr}
use Prim.Native.Nat.{ℕ, suc, ◌+◌, ◌≤◌, ◌<◌}
use native.Mathlib.Decide.{ℕ_discrete, dec_le}
use native.Mathlib.Omega.{arith}
use lib.Dec.{eqb}
use lib.ListN.{length, get_or, set, length-set}
use lib.Seq.{get_or-set_same, get_or-set_other}
use Rattle.protocol.specs.Form.{bit}
use Rattle.lines.specs.declared.Record.{Record}
use Rattle.lines.specs.Bits.{bit_at}
use Rattle.lines.specs.Words.{capacity, line_at, row_at, head_of, tail_of, length_of, next_of}
use Rattle.lines.specs.Lines.{chain, rows_of, record_of, records_on}
use Rattle.lines.specs.Form.{count, all_below, last_of, form}
use Rattle.lines.specs.Post.{SameRegisters, Pushed}
use Rattle.lines.specs.Parts.{Taken, Link, Fits, joined}
use Rattle.lines.proofs.Digits.{same_yes, same_no}
use Rattle.lines.proofs.Sums.{count_end, below_end, last_end, map_same, map_append}
use Rattle.lines.proofs.Bitmap.{bits_same, summary_same}
use Rattle.lines.proofs.Chains.{chain_none, chain_one, chain_same, chain_join}
use Rattle.lines.proofs.Change.{capacity_same, stands_change, used_change, formed_change}
use Rattle.lines.proofs.Registers.{registers_kept}
use Rattle.lines.proofs.Formed.{Formed, form_formed, formed_form, stands_to, some_below, m_of, tail_below, tail_nth, rows_last, at_most_once, stands_line, stands_lines, line_short}

-- ---- the stores
-- a store's word, where later stores leave it
at_set : (s : List ℕ) (a v : ℕ) (i : ℕ) → i ≡ a → i < length s → get_or (set s a v) i 0 ≡ v
at_set s a v i q h = ap (λ (x : ℕ). get_or (set s a v) x 0) q ∙ get_or-set_same s a v 0 (subst (λ (x : ℕ). x < length s) q h)

module _ (l : List ℕ) (at k f n : ℕ) (r : Record) where
  length_joined : length (joined l at k f n r) ≡ length l
  unfolding joined
  length_joined = simp length-set

  pub joined_other : (i : ℕ) → (i ≡ row_at f + 1 → ⊥) → (i ≡ row_at f + 2 → ⊥) → (i ≡ at → ⊥) → (i ≡ line_at k + 1 → ⊥) → (i ≡ line_at k + 2 → ⊥)
      → get_or (joined l at k f n r) i 0 ≡ get_or l i 0
  unfolding joined
  joined_other i h1 h2 h3 h4 h5 = simp get_or-set_other

  module _ (i : ℕ) (there : i < length l) where
    joined_word : i ≡ row_at f + 1 → (i ≡ at → ⊥) → (i ≡ line_at k + 1 → ⊥) → (i ≡ line_at k + 2 → ⊥) → get_or (joined l at k f n r) i 0 ≡ r.0
    unfolding joined
    joined_word q h3 h4 h5 = let h2 : i ≡ row_at f + 2 → ⊥ = omega arith in simp get_or-set_other (at_set l (row_at f + 1) r.0 i q there)

    joined_carts : i ≡ row_at f + 2 → (i ≡ at → ⊥) → (i ≡ line_at k + 1 → ⊥) → (i ≡ line_at k + 2 → ⊥) → get_or (joined l at k f n r) i 0 ≡ r.1
    unfolding joined
    joined_carts q h3 h4 h5 = simp get_or-set_other (at_set (set l (row_at f + 1) r.0) (row_at f + 2) r.1 i q (simp length-set there))

    joined_link : i ≡ at → (i ≡ line_at k + 1 → ⊥) → (i ≡ line_at k + 2 → ⊥) → get_or (joined l at k f n r) i 0 ≡ f
    unfolding joined
    joined_link q h4 h5 = simp get_or-set_other (at_set (set (set l (row_at f + 1) r.0) (row_at f + 2) r.1) at f i q (simp length-set there))

    joined_tail : i ≡ line_at k + 1 → get_or (joined l at k f n r) i 0 ≡ f
    unfolding joined
    joined_tail q = let h5 : i ≡ line_at k + 2 → ⊥ = omega arith in
        simp get_or-set_other (at_set (set (set (set l (row_at f + 1) r.0) (row_at f + 2) r.1) at f) (line_at k + 1) f i q (simp length-set there))

    joined_length : i ≡ line_at k + 2 → get_or (joined l at k f n r) i 0 ≡ n + 1
    unfolding joined
    joined_length q = at_set (set (set (set (set l (row_at f + 1) r.0) (row_at f + 2) r.1) at f) (line_at k + 1) f) (line_at k + 2) (n + 1) i q (simp length-set there)

-- what the stores make of the lines
record Joined (l l' : List ℕ) (k f : ℕ) (r : Record) : Type 0 where
  heads : (j : ℕ) → j < 256 → (j ≡ k → ⊥) → head_of l' j ≡ head_of l j
  tails : (j : ℕ) → j < 256 → (j ≡ k → ⊥) → tail_of l' j ≡ tail_of l j
  lengths : (j : ℕ) → j < 256 → (j ≡ k → ⊥) → length_of l' j ≡ length_of l j
  tail : tail_of l' k ≡ f
  more : length_of l' k ≡ length_of l k + 1
  word : record_of l' f ≡ r
  words : (x : ℕ) → (x ≡ f → ⊥) → record_of l' x ≡ record_of l x
  first : length_of l k ≡ 0 → (head_of l' k ≡ f) × ((x : ℕ) → next_of l' x ≡ next_of l x)
  later : 0 < length_of l k → (head_of l' k ≡ head_of l k) × (next_of l' (tail_of l k) ≡ f) × ((x : ℕ) → (x ≡ tail_of l k → ⊥) → next_of l' x ≡ next_of l x)

-- where the link is
module _ (l : List ℕ) (k at : ℕ) (link : Link l k at) where
  abbrev Where : Type 0
  Where = ((length_of l k ≡ 0) × (at ≡ line_at k)) ⊎ ((0 < length_of l k) × (at ≡ row_at (tail_of l k)))

  link_where : Where
  link_where = pick (dec_le 1 (length_of l k))
    where
      pick : Dec (1 ≤ length_of l k) → Where
      pick (yes h) = inr (h, link.later h)
      pick (no h) = let e : length_of l k ≡ 0 = omega arith in inl (e, link.first e)

  pub link_high : 50 ≤ at
  link_high = ⊎_elim (λ z. omega (arith, z.1)) (λ z. omega (arith, z.1)) link_where

module _ (l l1 : List ℕ) (at k f n : ℕ) (r : Record) (w : Formed l) (hk : k < 256) (t : Taken l l1 f) (same : length l1 ≡ length l) (en : n ≡ length_of l k) (link : Link l k at) where
  abbrev l2 : List ℕ
  l2 = joined l1 at k f n r

  -- the row is one of the pool, and on no line
  f_below : f < capacity l
  f_below = some_below f (capacity l) (omega (arith, w.rows f t.within, t.was))

  f_off : (j : ℕ) → j < 256 → count f (rows_of l j) ≡ 0
  f_off j hj = omega (arith, at_most_once l w f t.within, t.was, stands_line l f j hj)

  joins : Fits l1 at k f n
  joins = record {
    link = ⊎_elim (λ z. omega (arith, w.long, same, z.1)) (λ z. omega (arith, w.long, same, z.1, tail_below l w k hk z.0)) (link_where l k at link);
    line = omega (arith, w.long, same);
    row = omega (arith, w.long, same, f_below);
    few = omega (arith, en, line_short l w k hk, w.most);
    low = omega (arith, t.within);
  }

  -- a word of the lines or rows that no store touches
  other : (i : ℕ) → 50 ≤ i → (i ≡ row_at f + 1 → ⊥) → (i ≡ row_at f + 2 → ⊥) → (i ≡ at → ⊥) → (i ≡ line_at k + 1 → ⊥) → (i ≡ line_at k + 2 → ⊥)
      → get_or l2 i 0 ≡ get_or l i 0
  other i h h1 h2 h3 h4 h5 = joined_other l1 at k f n r i h1 h2 h3 h4 h5 ∙ t.rest i h

  -- the link is a head or a next row
  not_link : (i : ℕ) → (i ≡ line_at k → ⊥) → (i ≡ row_at (tail_of l k) → ⊥) → i ≡ at → ⊥
  not_link i h1 h2 q = ⊎_elim (λ z. h1 (q ∙ z.1)) (λ z. h2 (q ∙ z.1)) (link_where l k at link)

  stored : Joined l l2 k f r
  unfolding record_of
  stored = let fit = joins in record {
    heads = λ j hj jk. other (line_at j) (omega arith) (omega arith) (omega arith) (not_link (line_at j) (λ q. jk (omega arith)) (omega arith)) (omega arith) (omega arith);
    tails = λ j hj jk. other (line_at j + 1) (omega arith) (omega arith) (omega arith) (not_link (line_at j + 1) (omega arith) (omega arith)) (λ q. jk (omega arith)) (omega arith);
    lengths = λ j hj jk. other (line_at j + 2) (omega arith) (omega arith) (omega arith) (not_link (line_at j + 2) (omega arith) (omega arith)) (omega arith) (λ q. jk (omega arith));
    tail = joined_tail l1 at k f n r (line_at k + 1) (omega arith) refl;
    more = joined_length l1 at k f n r (line_at k + 2) (omega arith) refl ∙ ap (λ (m : ℕ). m + 1) en;
    word = λ i. record {
      0 = joined_word l1 at k f n r (row_at f + 1) (omega arith) refl (not_link (row_at f + 1) (omega arith) (omega arith)) (omega arith) (omega arith) i;
      1 = joined_carts l1 at k f n r (row_at f + 2) (omega arith) refl (not_link (row_at f + 2) (omega arith) (omega arith)) (omega arith) (omega arith) i;
    };
    words = λ x xf i. record {
      0 = other (row_at x + 1) (omega arith) (λ q. xf (omega arith)) (omega arith) (not_link (row_at x + 1) (omega arith) (omega arith)) (omega arith) (omega arith) i;
      1 = other (row_at x + 2) (omega arith) (omega arith) (λ q. xf (omega arith)) (not_link (row_at x + 2) (omega arith) (omega arith)) (omega arith) (omega arith) i;
    };
    first = λ e. let z = link.first e in (
      joined_link l1 at k f n r (line_at k) (omega arith) (sym z) (omega arith) (omega arith),
      λ x. other (row_at x) (omega arith) (omega arith) (omega arith) (omega arith) (omega arith) (omega arith),
    );
    later = λ h. let z = link.later h in (
      other (line_at k) (omega arith) (omega arith) (omega arith) (omega arith) (omega arith) (omega arith),
      joined_link l1 at k f n r (row_at (tail_of l k)) (omega arith) (sym z) (omega arith) (omega arith),
      λ x xt. other (row_at x) (omega arith) (omega arith) (omega arith) (λ q. xt (omega arith)) (omega arith) (omega arith),
    );
  }

  -- ---- the rows of the lines
  -- the tail stands on line k alone, and there at the end
  module _ (some : 0 < length_of l k) where
    tail_counts : (chain_count : ℕ) → chain_count ≡ count (tail_of l k) (chain (next_of l) (head_of l k) (m_of l w k hk some).0)
        → (chain_count ≡ 0) × ((j : ℕ) → j < 256 → (j ≡ k → ⊥) → count (tail_of l k) (rows_of l j) ≡ 0)
    tail_counts n e =
        let here : count (tail_of l k) (rows_of l k) ≡ n + 1 = on_line in
        let once : stands_to l 256 (tail_of l k) ≤ 1 = omega (arith, at_most_once l w (tail_of l k) (omega (arith, w.most, tail_below l w k hk some))) in
        (omega (arith, stands_line l (tail_of l k) k hk), λ j hj jk. omega (arith, stands_lines l (tail_of l k) j k hj hk jk))
      where
        on_line : count (tail_of l k) (rows_of l k) ≡ n + 1
        on_line =
            ap (count (tail_of l k)) (rows_last l w k hk some)
            ∙ count_end (tail_of l k) (tail_of l k) (chain (next_of l) (head_of l k) (m_of l w k hk some).0)
            ∙ ap₂ ◌+◌ (sym e) (same_yes (tail_of l k) (tail_of l k) refl)

  rows_other : (j : ℕ) → j < 256 → (j ≡ k → ⊥) → rows_of l2 j ≡ rows_of l j
  unfolding rows_of
  rows_other j hj jk = ap₂ (chain (next_of l2)) (stored.heads j hj jk) (stored.lengths j hj jk) ∙ pick (dec_le 1 (length_of l k))
    where
      pick : Dec (1 ≤ length_of l k) → chain (next_of l2) (head_of l j) (length_of l j) ≡ chain (next_of l) (head_of l j) (length_of l j)
      pick (yes h) = chain_same (next_of l) (next_of l2) (tail_of l k) (stored.later h).2 (head_of l j) (length_of l j) ((tail_counts h _ refl).1 j hj jk)
      pick (no h) = chain_same (next_of l) (next_of l2) f (λ x q. (stored.first (omega arith)).1 x) (head_of l j) (length_of l j) (f_off j hj)

  rows_line : rows_of l2 k ≡ rows_of l k ++ (f ∷ [])
  unfolding rows_of
  rows_line = pick (dec_le 1 (length_of l k))
    where
      pick : Dec (1 ≤ length_of l k) → chain (next_of l2) (head_of l2 k) (length_of l2 k) ≡ chain (next_of l) (head_of l k) (length_of l k) ++ (f ∷ [])
      pick (no h) = let e : length_of l k ≡ 0 = omega arith in
          ap (λ (x : ℕ). chain (next_of l2) x (length_of l2 k)) (stored.first e).0
          ∙ chain_one (next_of l2) f (length_of l2 k) (omega (arith, stored.more, e))
          ∙ ap (λ (s : List ℕ). s ++ (f ∷ [])) (sym (ap (chain (next_of l) (head_of l k)) e ∙ chain_none (next_of l) (head_of l k)))
      pick (yes h) = let m = m_of l w k hk h in
          ap₂ (chain (next_of l2)) (stored.later h).0 (long m.0 m.1)
          ∙ chain_join (next_of l) (next_of l2) (tail_of l k) (stored.later h).2 f (head_of l k) m.0 (stored.later h).1 (tail_nth l w k hk h) (tail_counts h _ refl).0
          ∙ ap (λ (i : ℕ). chain (next_of l) (head_of l k) i ++ (f ∷ [])) (sym m.1)
        where
          long : (m : ℕ) → length_of l k ≡ suc m → length_of l2 k ≡ suc (suc m)
          long m e = omega (arith, stored.more)

  -- ---- the whole
  long_same : length l2 ≡ length l
  long_same = length_joined l1 at k f n r ∙ same

  low_same : (a : ℕ) → a < 50 → get_or l2 a 0 ≡ get_or l1 a 0
  low_same a h = joined_other l1 at k f n r a (omega arith) (omega arith) (omega (arith, link_high l k at link)) (omega arith) (omega arith)

  stands_more : (x : ℕ) → stands_to l2 256 x ≡ stands_to l 256 x + bit (eqb f x)
  stands_more x = omega (arith, stands_change l l2 k hk rows_other x, ap (count x) rows_line, count_end x f (rows_of l k))

  rows_same : (x : ℕ) → x < 3136 → stands_to l2 256 x + bit_at l2 x ≡ stands_to l 256 x + bit_at l x
  rows_same x h = pick (ℕ_discrete f x)
    where
      pick : Dec (f ≡ x) → stands_to l2 256 x + bit_at l2 x ≡ stands_to l 256 x + bit_at l x
      pick (yes q) = omega (arith, stands_more x, bits_same l1 l2 low_same x h, t.bits x h, same_yes f x q, t.was, ap (bit_at l) q)
      pick (no q) = omega (arith, stands_more x, bits_same l1 l2 low_same x h, t.bits x h, same_no f x q)

  formed_more : Formed l2
  formed_more = formed_change l l2 k hk rows_other w long_same stored.tails
      (ap (all_below (capacity l)) rows_line ∙ below_end (capacity l) f (rows_of l k) f_below (w.below k hk))
      (ap (last_of (tail_of l2 k)) rows_line ∙ last_end (tail_of l2 k) f (rows_of l k) ∙ sym stored.tail)
      rows_same (summary_same l1 l2 low_same t.summary)

  line_other : (j : ℕ) → j < 256 → (j ≡ k → ⊥) → records_on l2 j ≡ records_on l j
  unfolding records_on
  line_other j hj jk = ap (map (record_of l2)) (rows_other j hj jk) ∙ map_same (record_of l2) (record_of l) f (rows_of l j) (f_off j hj) stored.words

  line_more : records_on l2 k ≡ records_on l k ++ (r ∷ [])
  unfolding records_on
  line_more =
      ap (map (record_of l2)) rows_line ∙ map_append (record_of l2) (rows_of l k) (f ∷ [])
      ∙ ap₂ (λ (a : List Record) (x : Record). a ++ (x ∷ [])) (map_same (record_of l2) (record_of l) f (rows_of l k) (f_off k hk) stored.words) stored.word

  -- the registers lie in other words
  same_registers : SameRegisters l l2
  same_registers = registers_kept l l2
      (λ a h1 h2. other a (omega arith) (omega arith) (omega arith) (not_link a (omega arith) (omega arith)) (omega arith) (omega arith))

  pushed : Pushed l l2 k r
  pushed = record {
    formed = formed_form l2 formed_more;
    line = line_more;
    others = line_other;
    registers = same_registers;
    more = omega (arith, used_change l l2 k hk rows_other, stored.more);
    room = capacity_same l l2 long_same;
    words = long_same;
  }

-- ---- the code's own steps
module _ (l l1 : List ℕ) (at k f n : ℕ) (r : Record) (e : form l ≡ true) (hk : k < 256) (t : Taken l l1 f) (same : length l1 ≡ length l) (en : n ≡ length_of l k) (link : Link l k at) where
  pub join_fits : Fits l1 at k f n
  join_fits = joins l l1 at k f n r (form_formed l e) hk t same en link

  pub push_is : (l2 : List ℕ) → l2 ≡ joined l1 at k f n r → Pushed l l2 k r
  push_is l2 q = subst (λ (x : List ℕ). Pushed l x k r) (sym q) (pushed l l1 at k f n r (form_formed l e) hk t same en link)
