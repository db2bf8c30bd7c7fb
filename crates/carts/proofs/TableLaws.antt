-- THE CARTS' TABLE: what a store of words makes of the carts that the table holds.
use mathlib.Core.Path.{◌≡◌, refl, sym, ap, ap₂, ◌∙◌}
use mathlib.Core.Bool.{Bool, true, false, cond, ◌&&◌}
use mathlib.Core.List.{List}
use Prim.Native.Nat.{ℕ, zero, suc, ◌+◌, ◌*◌, ◌≤◌, ◌<◌}
use native.Mathlib.Omega.{arith}
use lib.Bits.{bit_or}
use lib.Dec.{eqb, ltb}
use lib.ListN.{length, get_or, set, length-set, get_or-eq_default}
use borrow.Author.Tests.{lt-ltb, le-ltb, eq-eqb, ne_eqb, eqb-true}
use Rattle.protocol.specs.Folds.{update, update2}
use Rattle.protocol.specs.Floor.{Place, outside, Carts}
use Rattle.protocol.specs.Handoff.{entry_of}
use Rattle.protocol.proofs.Tests.{by_test, by_lt, by_eq, same_test, and_intro, and_second_false, both_equal}
use Rattle.protocol.proofs.SetLaws.{either_empty}
use Rattle.rows.specs.Rows.{cell}
use Rattle.carts.specs.Words.{width, HasRow, first_word, kind_in, steady_in, place_in, canonical, canonical_first}
use Rattle.carts.specs.View.{carts_in, canonical_in, no_carts, with_place, with_steady, with_next, with_row}
use Rattle.rows.proofs.RowLaws.{cell_read, cell_beyond, cell_put, cell_zero, update2_column}

-- THE TABLE THROUGH ITS CELLS

-- the carts, and the rows in canonical words, by the words of each row
abbrev carts_of : (ℕ → ℕ → ℕ) → Carts
carts_of W = record { place = λ c. place_in (kind_in (W c 0)) (W c 1) (W c 2); next = λ c s. W c (3 + s); steady = λ c. steady_in (W c 0) }

abbrev canonical_of : (ℕ → ℕ → ℕ) → ℕ → Bool
canonical_of W c = canonical_first (W c 0) (W c 1) (W c 2)

-- A NEXT NUMBER

-- it is read from its word
pub next_read : (l : List ℕ) (c s i : ℕ) → s < 16 → i ≡ c * 19 + 3 + s → get_or l i 0 ≡ (carts_in l).next c s
unfolding carts_in
next_read l c s i h e = cell_read 19 l c (3 + s) i (omega arith) (omega arith)

-- there are sixteen
pub next_beyond : (l : List ℕ) (c s : ℕ) → 16 ≤ s → (carts_in l).next c s ≡ 0
unfolding carts_in
next_beyond l c s h = cell_beyond 19 l c (3 + s) (omega arith)

-- columns that lie three further on
three_on : (u s : ℕ) → eqb (3 + u) (3 + s) ≡ eqb u s
three_on u s =
    same_test (eqb (3 + u) (3 + s)) (eqb u s)
    (λ e. eq-eqb u s (let z = eqb-true (3 + u) (3 + s) e in omega arith))
    (λ e. eq-eqb (3 + u) (3 + s) (let z = eqb-true u s e in omega arith))

-- a word beyond the place's leaves the place's
module _ (W : ℕ → ℕ → ℕ) (c s v : ℕ) where
  same : (d k : ℕ) → k < 3 → update2 W c (3 + s) v d k ≡ W d k
  same d k h = update2_column W c (3 + s) v d k (omega arith)

  cells_next : carts_of (update2 W c (3 + s) v) ≡ with_next (carts_of W) c s v
  cells_next = λ i. record {
    place = λ d. place_in (kind_in (same d 0 (omega arith) i)) (same d 1 (omega arith) i) (same d 2 (omega arith) i);
    next = λ d u. ap (λ (b : Bool). cond (eqb d c && b) v (W d (3 + u))) (three_on u s) i;
    steady = λ d. steady_in (same d 0 (omega arith) i);
  }

  cells_next_canonical : canonical_of (update2 W c (3 + s) v) ≡ canonical_of W
  cells_next_canonical = λ i d. canonical_first (same d 0 (omega arith) i) (same d 1 (omega arith) i) (same d 2 (omega arith) i)

-- it is written to its word
module _ (l : List ℕ) (c s v i : ℕ) (row : HasRow l c) (h : s < 16) (e : i ≡ c * 19 + 3 + s) where
  put_cell : cell 19 (set l i v) ≡ update2 (cell 19 l) c (3 + s) v
  put_cell = cell_put 19 l c (3 + s) i v (omega arith) (omega arith) (omega arith)

  pub next_put : carts_in (set l i v) ≡ with_next (carts_in l) c s v
  unfolding carts_in
  next_put = ap carts_of put_cell ∙ cells_next (cell 19 l) c s v

  pub next_put_canonical : canonical_in (set l i v) ≡ canonical_in l
  unfolding canonical_in
  next_put_canonical = ap canonical_of put_cell ∙ cells_next_canonical (cell 19 l) c s v

-- A PLACE

-- what its three words say
words_read {ℓ} : {A : Type ℓ} (f : ℕ → ℕ → ℕ → A) (l : List ℕ) (c : ℕ)
    → f (get_or l (c * 19) 0) (get_or l (c * 19 + 1) 0) (get_or l (c * 19 + 2) 0) ≡ f (cell 19 l c 0) (cell 19 l c 1) (cell 19 l c 2)
words_read f l c =
    λ i. f (cell_read 19 l c 0 (c * 19) (omega arith) (omega arith) i) (cell_read 19 l c 1 (c * 19 + 1) (omega arith) refl i) (cell_read 19 l c 2 (c * 19 + 2) (omega arith) refl i)

-- it is read from them
pub place_read : (l : List ℕ) (c : ℕ) → place_in (kind_in (get_or l (c * 19) 0)) (get_or l (c * 19 + 1) 0) (get_or l (c * 19 + 2) 0) ≡ (carts_in l).place c
unfolding carts_in
place_read l c = words_read (λ x y z. place_in (kind_in x) y z) l c

-- and the flag from the first
pub steady_read : (l : List ℕ) (c : ℕ) → steady_in (get_or l (c * 19) 0) ≡ (carts_in l).steady c
unfolding carts_in
steady_read l c = words_read (λ x y z. steady_in x) l c

pub canonical_read : (l : List ℕ) (c : ℕ) → canonical_first (get_or l (c * 19) 0) (get_or l (c * 19 + 1) 0) (get_or l (c * 19 + 2) 0) ≡ canonical_in l c
unfolding canonical_in
canonical_read l c = words_read canonical_first l c

-- any kind but these three says outside
pub other_kind : (kind s t : ℕ) → (kind ≡ 1 → ⊥) → (kind ≡ 2 → ⊥) → (kind ≡ 3 → ⊥) → outside ≡ place_in kind s t
other_kind zero s t h₁ h₂ h₃ = refl
other_kind (suc zero) s t h₁ h₂ h₃ = absurd (h₁ refl)
other_kind (suc (suc zero)) s t h₁ h₂ h₃ = absurd (h₂ refl)
other_kind (suc (suc (suc zero))) s t h₁ h₂ h₃ = absurd (h₃ refl)
other_kind (suc (suc (suc (suc kind)))) s t h₁ h₂ h₃ = refl

-- of the kinds but outside and at, those below 4 are written
pub moving_canonical : (kind s t : ℕ) → (kind ≡ 0 → ⊥) → (kind ≡ 1 → ⊥) → ltb kind 4 ≡ canonical kind s t
moving_canonical zero s t h₀ h₁ = absurd (h₀ refl)
moving_canonical (suc zero) s t h₀ h₁ = absurd (h₁ refl)
moving_canonical (suc (suc zero)) s t h₀ h₁ = refl
moving_canonical (suc (suc (suc zero))) s t h₀ h₁ = refl
moving_canonical (suc (suc (suc (suc kind)))) s t h₀ h₁ = le-ltb (suc (suc (suc (suc kind)))) 4 (omega arith)

-- two words are 0 when no digit of either is set
pub no_digit : (s t : ℕ) → eqb (bit_or s t) 0 ≡ (eqb s 0 && eqb t 0)
no_digit s t =
    same_test (eqb (bit_or s t) 0) (eqb s 0 && eqb t 0)
    (λ e. let z = either_empty s t (eqb-true (bit_or s t) 0 e) in
    and_intro (eqb s 0) (eqb t 0) (eq-eqb s 0 z.0) (eq-eqb t 0 z.1))
    (λ e. eq-eqb (bit_or s t) 0 (let z = both_equal s 0 t 0 e in ap₂ bit_or z.0 z.1))

-- THE FIRST WORD

-- as it is written
pub word_steady : (kind : ℕ) (steady : Bool) → steady ≡ true → kind ≡ first_word kind steady
word_steady kind steady e = rw e (omega arith)

pub word_not_steady : (kind : ℕ) (steady : Bool) → steady ≡ false → kind + 4 ≡ first_word kind steady
word_not_steady kind steady e = rw e refl

-- it is that of a row if it is below 8
pub low_canonical : (first s t : ℕ) → first < 8 → canonical (kind_in first) s t ≡ canonical_first first s t
low_canonical first s t h = rw (lt-ltb first 8 h) refl

pub high_canonical : (first s t : ℕ) → 8 ≤ first → false ≡ canonical_first first s t
high_canonical first s t h = rw (le-ltb first 8 h) refl

-- it says the kind and the flag that it is written from
module _ (kind : ℕ) (h : kind < 4) where
  kind_said : (steady : Bool) → kind_in (first_word kind steady) ≡ kind
  kind_said true = omega arith
  kind_said false = omega arith

  steady_said : (steady : Bool) → steady_in (first_word kind steady) ≡ steady
  steady_said true = lt-ltb (kind + 0) 4 (omega arith)
  steady_said false = le-ltb (kind + 4) 4 (omega arith)

  first_low : (steady : Bool) → ltb (first_word kind steady) 8 ≡ true
  first_low true = lt-ltb (kind + 0) 8 (omega arith)
  first_low false = lt-ltb (kind + 4) 8 (omega arith)

  pub canonical_said : (steady : Bool) (s t : ℕ) → canonical kind s t ≡ true → canonical_first (first_word kind steady) s t ≡ true
  canonical_said steady s t e = rw (first_low steady, kind_said steady) e

-- so do three words of which it is the first
pub told_put : (C : Carts) (c kind s t : ℕ) → kind < 4 → (steady : Bool) (first : ℕ) → first ≡ first_word kind steady → (p : Place) → place_in kind s t ≡ p
    → with_steady (with_place C c (place_in (kind_in first) s t)) c (steady_in first) ≡ with_steady (with_place C c p) c steady
told_put C c kind s t h steady first e p q =
    let k : kind_in first ≡ kind = ap kind_in e ∙ kind_said kind h steady in
    let b : steady_in first ≡ steady = ap steady_in e ∙ steady_said kind h steady in
    λ i. with_steady (with_place C c ((ap (λ (x : ℕ). place_in x s t) k ∙ q) i)) c (b i)

-- three words at the front of row c
module _ (W : ℕ → ℕ → ℕ) (c x y z : ℕ) where
  abbrev three : ℕ → ℕ → ℕ
  three = update2 (update2 (update2 W c 0 x) c 1 y) c 2 z

  beyond : (d s : ℕ) → three d (3 + s) ≡ W d (3 + s)
  beyond d s =
      update2_column (update2 (update2 W c 0 x) c 1 y) c 2 z d (3 + s) (omega arith)
      ∙ update2_column (update2 W c 0 x) c 1 y d (3 + s) (omega arith)
      ∙ update2_column W c 0 x d (3 + s) (omega arith)

  -- what the three words of a row say
  front {ℓ} : {A : Type ℓ} (f : ℕ → ℕ → ℕ → A) (d : ℕ) → f (three d 0) (three d 1) (three d 2) ≡ cond (eqb d c) (f x y z) (f (W d 0) (W d 1) (W d 2))
  front f d = by_test (eqb d c) (λ e. rw e) (λ e. rw e)

  cells_place : carts_of three ≡ with_steady (with_place (carts_of W) c (place_in (kind_in x) y z)) c (steady_in x)
  cells_place = λ i. record { place = λ d. front (λ u v w. place_in (kind_in u) v w) d i; next = λ d s. beyond d s i; steady = λ d. front (λ u v w. steady_in u) d i }

  cells_canonical : canonical_of three ≡ update (canonical_of W) c (canonical_first x y z)
  cells_canonical = λ i d. front canonical_first d i

-- they are written there
module _ (l : List ℕ) (c x y z : ℕ) (row : HasRow l c) where
  abbrev pub stored : List ℕ
  stored = set (set (set l (c * 19) x) (c * 19 + 1) y) (c * 19 + 2) z

  put_cells : cell 19 stored ≡ three (cell 19 l) c x y z
  put_cells =
      cell_put 19 (set (set l (c * 19) x) (c * 19 + 1) y) c 2 (c * 19 + 2) z (omega arith) (simp length-set (omega arith)) refl
      ∙ ap (λ (W : ℕ → ℕ → ℕ). update2 W c 2 z) (cell_put 19 (set l (c * 19) x) c 1 (c * 19 + 1) y (omega arith) (simp length-set (omega arith)) refl)
      ∙ ap (λ (W : ℕ → ℕ → ℕ). update2 (update2 W c 1 y) c 2 z) (cell_put 19 l c 0 (c * 19) x (omega arith) (omega arith) (omega arith))

  pub place_put : carts_in stored ≡ with_steady (with_place (carts_in l) c (place_in (kind_in x) y z)) c (steady_in x)
  unfolding carts_in
  place_put = ap carts_of put_cells ∙ cells_place (cell 19 l) c x y z

  pub place_put_canonical : canonical_in stored ≡ update (canonical_in l) c (canonical_first x y z)
  unfolding canonical_in
  place_put_canonical = ap canonical_of put_cells ∙ cells_canonical (cell 19 l) c x y z

-- A ROW OF NEXT NUMBERS

-- the first i entries of cart c's row are the row's
abbrev pub written_to : ℕ → Carts → ℕ → List ℕ → Carts
written_to i C c row = record { place = C.place; next = λ d s. cond (eqb d c && ltb s i) (entry_of row s) (C.next d s); steady = C.steady }

module _ (C : Carts) (c : ℕ) (row : List ℕ) where
  pub write_none : C ≡ written_to 0 C c row
  write_none = λ i. record { place = C.place; next = λ d s. sym (none d s) i; steady = C.steady }
    where
      none : (d s : ℕ) → cond (eqb d c && ltb s 0) (entry_of row s) (C.next d s) ≡ C.next d s
      none d s = ap (λ (b : Bool). cond b (entry_of row s) (C.next d s)) (and_second_false (eqb d c) (ltb s 0) (le-ltb s 0 (omega arith)))

  pub write_one : (i : ℕ) → with_next (written_to i C c row) c i (entry_of row i) ≡ written_to (i + 1) C c row
  write_one i = λ j. record { place = C.place; next = λ d s. one d s j; steady = C.steady }
    where
      one : (d s : ℕ) → update2 (written_to i C c row).next c i (entry_of row i) d s ≡ (written_to (i + 1) C c row).next d s
      one d s =
          by_test (eqb d c)
          (λ e. by_eq s i
          (λ q. rw (e, eq-eqb s i q, lt-ltb s (i + 1) (omega arith)) (ap (entry_of row) (sym q)))
          (λ q. rw (e, ne_eqb s i q) (by_lt s i
          (λ l. rw (lt-ltb s i l, lt-ltb s (i + 1) (omega arith)))
          (λ l. rw (le-ltb s i l, le-ltb s (i + 1) (omega arith))))))
          (λ e. rw e)

  pub write_all : (n i : ℕ) → length row ≡ n → i ≡ n → ((d s : ℕ) → n ≤ s → C.next d s ≡ 0) → written_to i C c row ≡ with_row C c row
  write_all n i e q narrow = λ j. record { place = C.place; next = λ d s. all d s j; steady = C.steady }
    where
      all : (d s : ℕ) → cond (eqb d c && ltb s i) (entry_of row s) (C.next d s) ≡ cond (eqb d c) (entry_of row s) (C.next d s)
      all d s =
          by_lt s i
          (λ l. by_test (eqb d c) (λ t. rw (t, lt-ltb s i l)) (λ t. rw t))
          (λ l. by_test (eqb d c) (λ t. rw (t, le-ltb s i l) (narrow d s (omega arith) ∙ sym (get_or-eq_default row 0 (omega arith)))) (λ t. rw t))

-- A TABLE OF ZEROS
pub no_carts_lem : (l : List ℕ) → ((k : ℕ) → get_or l k 0 ≡ 0) → carts_in l ≡ no_carts
unfolding carts_in
no_carts_lem l h = rw (cell_zero width l h)

pub no_carts_canonical : (l : List ℕ) → ((k : ℕ) → get_or l k 0 ≡ 0) → canonical_in l ≡ (λ c. true)
unfolding canonical_in
no_carts_canonical l h = ap (λ (W : ℕ → ℕ → ℕ). λ (c : ℕ). canonical_first (W c 0) (W c 1) (W c 2)) (cell_zero width l h)
