-- Which lines are not empty: row by row, and after a step.
use mathlib.Core.Path.{◌≡◌, refl, sym, ap, ◌∙◌}
use mathlib.Core.Bool.{Bool, true, false, cond, not}
use mathlib.Core.List.{List}
use Prim.Native.Nat.{ℕ, ◌+◌, ◌*◌, ◌^◌, ◌≤◌, ◌<◌}
use native.Mathlib.Omega.{arith}
use native.Mathlib.Numerals.{add-one}
use lib.Dec.{eqb}
use lib.ListN.{length, get_or, length-set}
use lib.Seq.{get_or-set_same, get_or-set_other}
use borrow.Author.Tests.{eq-eqb, ne_eqb, not-true, not-false}
use Rattle.protocol.specs.Folds.{is_empty}
use Rattle.protocol.specs.CartSets.{has, with, without, set_of}
use Rattle.protocol.specs.Floor.{Record}
use Rattle.protocol.proofs.Tests.{by_lt, by_eq, by_test, and-true, and_second_false, eqb_self}
use Rattle.protocol.proofs.SetLaws.{has_without, has_set_of, set_of_suc, set_of_lt, set_of_beyond, same_sets, with_lt, without_lt}
use Rattle.sets.proofs.MaskLaws.{with_here, with_other, without_here, without_other}
use Rattle.lines.specs.Lines.{records_on}
use Rattle.view.specs.Records.{lines_in}
use Rattle.view.proofs.LinesView.{line_empty}
use Rattle.dispatcher.specs.Busy.{Busy, busy_row, RowRight, Shaped, IsBusy, with_if_any, busy_with, taken_off, renewed}

-- A ROW, line by line
abbrev pub row_to : (ℕ → ℕ → List Record) → ℕ → ℕ → ℕ
row_to lines i n = set_of n (λ j. not (is_empty (lines i j)))

pub row_none : (lines : ℕ → ℕ → List Record) (i : ℕ) → 0 ≡ row_to lines i 0
unfolding set_of
row_none lines i = refl

-- once the line to j is looked at too, as the code did
pub row_more : (W : List ℕ) (i j row row' : ℕ) (empty : Bool) → i < 16 → j < 16 → row ≡ row_to (lines_in W) i j → empty ≡ eqb (length (records_on W (i * 16 + j))) 0
    → row' ≡ cond (not empty) (with row j) row → row' ≡ row_to (lines_in W) i (j + 1)
row_more W i j row row' empty li lj e q r =
    let same : not empty ≡ not (is_empty (lines_in W i j)) = ap not (q ∙ sym (line_empty W i j li lj)) in
    r ∙ rw (same, e, add-one j) (sym (set_of_suc j (λ k. not (is_empty (lines_in W i k)))))

pub row_all : (lines : ℕ → ℕ → List Record) (i j row : ℕ) → j ≡ 16 → row ≡ row_to lines i j → row ≡ busy_row lines i
unfolding busy_row
row_all lines i j row e q = q ∙ rw e

-- what is in a row
module _ (lines : ℕ → ℕ → List Record) (i : ℕ) where
  pub in_row : (j : ℕ) → j < 16 → has (busy_row lines i) j ≡ not (is_empty (lines i j))
  unfolding busy_row
  in_row j l = has_set_of 16 (λ k. not (is_empty (lines i k))) j l

  pub beyond_row : (j : ℕ) → 16 ≤ j → has (busy_row lines i) j ≡ false
  unfolding busy_row
  beyond_row j l = set_of_beyond 16 (λ k. not (is_empty (lines i k))) j l

  pub row_word : busy_row lines i < 2 ^ 16
  unfolding busy_row
  row_word = set_of_lt 16 (λ k. not (is_empty (lines i k)))

-- rows whose lines are empty alike are the same
pub same_rows : (lines lines' : ℕ → ℕ → List Record) (i : ℕ) → ((j : ℕ) → j < 16 → is_empty (lines' i j) ≡ is_empty (lines i j)) → busy_row lines' i ≡ busy_row lines i
same_rows lines lines' i same =
    same_sets (busy_row lines' i) (busy_row lines i)
    (λ j. by_lt j 16 (λ l. in_row lines' i j l ∙ ap not (same j l) ∙ sym (in_row lines i j l)) (λ l. beyond_row lines' i j l ∙ sym (beyond_row lines i j l)))

-- and so is the row without the one to j, where only that line is empty now
pub row_without : (lines lines' : ℕ → ℕ → List Record) (i j : ℕ) → ((k : ℕ) → k < 16 → (k ≡ j → ⊥) → is_empty (lines' i k) ≡ is_empty (lines i k))
    → is_empty (lines' i j) ≡ true → without (busy_row lines i) j ≡ busy_row lines' i
row_without lines lines' i j same gone =
    same_sets (without (busy_row lines i) j) (busy_row lines' i)
    (λ k. has_without (busy_row lines i) j k ∙ by_eq k j
    (λ e. rw (e, eqb_self j) (and_second_false (has (busy_row lines i) j) false refl ∙ sym (no_more)))
    (λ n. rw (ne_eqb j k (λ z. n (sym z))) (and-true (has (busy_row lines i) k) ∙ by_lt k 16
    (λ l. in_row lines i k l ∙ ap not (sym (same k l n)) ∙ sym (in_row lines' i k l))
    (λ l. beyond_row lines i k l ∙ sym (beyond_row lines' i k l)))))
  where
    no_more : has (busy_row lines' i) j ≡ false
    no_more = by_lt j 16 (λ l. in_row lines' i j l ∙ ap not gone) (λ l. beyond_row lines' i j l)

-- A SET WITH STATION i in it if what it has is not empty
module _ (set i word : ℕ) where
  pub any_here : has (with_if_any set i word) i ≡ not (eqb word 0)
  any_here = by_test (eqb word 0) (λ e. rw e (without_here set i)) (λ e. rw e (with_here set i))

  pub any_other : (k : ℕ) → (k ≡ i → ⊥) → has (with_if_any set i word) k ≡ has set k
  any_other k n = by_test (eqb word 0) (λ e. rw e (without_other set i k (λ z. n (sym z)))) (λ e. rw e (with_other set i k (λ z. n (sym z))))

  -- as the code chose it
  pub any_none : (r : ℕ) → word ≡ 0 → r ≡ without set i → r ≡ with_if_any set i word
  any_none r z e = e ∙ rw (eq-eqb word 0 z) refl

  pub any_some : (r : ℕ) → (word ≡ 0 → ⊥) → r ≡ with set i → r ≡ with_if_any set i word
  any_some r n e = e ∙ rw (ne_eqb word 0 n) refl

-- ANOTHER ROW of station i
module _ (b : Busy) (i row : ℕ) (h : Shaped b) (low : i < 16) where
  pub with_shaped : Shaped (busy_with b i row)
  with_shaped = record {
    size = simp length-set h.size;
    few = by_test (eqb row 0) (λ e. rw e (without_lt 16 b.sources i h.few)) (λ e. rw e (with_lt 16 b.sources i h.few low));
  }

  pub with_right : (lines : ℕ → ℕ → List Record) → row ≡ busy_row lines i → RowRight lines (busy_with b i row) i
  with_right lines e = record {
    targets = get_or-set_same b.targets i row 0 (let z = h.size in omega arith) ∙ e;
    source = any_here b.sources i row ∙ ap (λ (r : ℕ). not (eqb r 0)) e;
  }

  pub with_others : (lines : ℕ → ℕ → List Record) (k : ℕ) → (k ≡ i → ⊥) → RowRight lines b k → RowRight lines (busy_with b i row) k
  with_others lines k n r = record {
    targets = get_or-set_other b.targets i k row 0 n ∙ r.targets;
    source = any_other b.sources i row k n ∙ r.source;
  }

-- a row that is right stays so where its lines are empty alike
pub right_again : (lines lines' : ℕ → ℕ → List Record) (b : Busy) (i : ℕ) → ((j : ℕ) → j < 16 → is_empty (lines' i j) ≡ is_empty (lines i j)) → RowRight lines b i → RowRight lines' b i
right_again lines lines' b i same r =
    let e = same_rows lines lines' i same in
    record { targets = r.targets ∙ sym e; source = r.source ∙ ap (λ (x : ℕ). not (eqb x 0)) (sym e) }

-- THE FIRST ROWS, as the walk at the start makes them
pub record FirstRows (lines : ℕ → ℕ → List Record) (b : Busy) (n : ℕ) : Type 0 where
  pub within : n ≤ 16
  pub shaped : Shaped b
  pub rows : (i : ℕ) → i < n → RowRight lines b i

pub rows_none : (lines : ℕ → ℕ → List Record) (b : Busy) → length b.targets ≡ 16 → b.sources ≡ 0 → FirstRows lines b 0
rows_none lines b e z = record { within = omega arith; shaped = record { size = e; few = omega arith }; rows = λ i l. absurd (omega arith) }

pub rows_more : (lines : ℕ → ℕ → List Record) (b b' : Busy) (n row : ℕ) → FirstRows lines b n → n < 16 → row ≡ busy_row lines n → b' ≡ busy_with b n row → FirstRows lines b' (n + 1)
rows_more lines b b' n row R l e q =
    rw q (record {
      within = omega arith;
      shaped = with_shaped b n row R.shaped l;
      rows = λ i h. by_eq i n (λ z. rw z (with_right b n row R.shaped l lines e)) (λ z. with_others b n row R.shaped l lines i z (R.rows i (omega arith)));
    })

pub rows_all : (lines : ℕ → ℕ → List Record) (b : Busy) (n : ℕ) → FirstRows lines b n → n ≡ 16 → IsBusy lines b
rows_all lines b n R e = record { shaped = R.shaped; rows = λ i l. R.rows i (omega arith) }

-- A RECORD OFF A LINE, as the code asked whether it was the last
module _ (W : List ℕ) (i j : ℕ) (li : i < 16) (lj : j < 16) (empty : Bool) (asked : empty ≡ eqb (length (records_on W (i * 16 + j))) 0) (b : Busy) where
  is_asked : is_empty (lines_in W i j) ≡ empty
  is_asked = line_empty W i j li lj ∙ sym asked

  pub off_stays : not empty ≡ true → b ≡ taken_off (lines_in W) b i j
  unfolding taken_off
  off_stays e = rw (is_asked, not-true empty e) refl

  pub off_empty : not empty ≡ false → (row : ℕ) (b' : Busy) → row ≡ without (get_or b.targets i 0) j → b' ≡ busy_with b i row → b' ≡ taken_off (lines_in W) b i j
  unfolding taken_off
  off_empty e row b' q r = r ∙ ap (busy_with b i) q ∙ rw (is_asked, not-false empty e) refl

-- RECORDS ON LINES from station t
module _ (lines : ℕ → ℕ → List Record) (b : Busy) (t records : ℕ) where
  pub none_put : records ≡ 0 → b ≡ renewed lines b t records
  unfolding renewed
  none_put z = rw (eq-eqb records 0 z) refl

  pub some_put : (records ≡ 0 → ⊥) → (row : ℕ) (b' : Busy) → row ≡ busy_row lines t → b' ≡ busy_with b t row → b' ≡ renewed lines b t records
  unfolding renewed
  some_put n row b' q r = r ∙ ap (busy_with b t) q ∙ rw (ne_eqb records 0 n) refl

-- A STEP: off the line from i to j, then so many records on lines from t. Every line that is not from t stays, but for that one
module _ (lines lines' : ℕ → ℕ → List Record) (b : Busy) (right : IsBusy lines b) where
  module _ (i j : ℕ) (li : i < 16) (lj : j < 16) (was : is_empty (lines i j) ≡ false) where
    abbrev off : Busy
    off = taken_off lines' b i j

    off_shaped : Shaped off
    unfolding taken_off
    off_shaped = by_test (is_empty (lines' i j)) (λ e. rw e (with_shaped b i (without (get_or b.targets i 0) j) right.shaped li)) (λ e. rw e right.shaped)

    -- a row of which only that line may have become empty
    off_row : (k : ℕ) → k < 16 → ((h : ℕ) → h < 16 → (k ≡ i → h ≡ j → ⊥) → is_empty (lines' k h) ≡ is_empty (lines k h)) → RowRight lines' off k
    unfolding taken_off
    off_row k lk same =
        by_test (is_empty (lines' i j))
        (λ e. rw e (by_eq k i
        (λ z. rw z (with_right b i (without (get_or b.targets i 0) j) right.shaped li lines'
        (rw (right.rows i li).targets (row_without lines lines' i j (λ h lh n. let s = same h lh (λ y x. n x) in rw z at s) e))))
        (λ z. with_others b i (without (get_or b.targets i 0) j) right.shaped li lines' k z
        (right_again lines lines' b k (λ h lh. same h lh (λ y x. z y)) (right.rows k lk)))))
        (λ e. rw e (right_again lines lines' b k
        (λ h lh. by_eq k i
        (λ x. by_eq h j (λ y. rw (x, y) (e ∙ sym was)) (λ y. same h lh (λ u v. y v)))
        (λ x. same h lh (λ u v. x u)))
        (right.rows k lk)))

    pub busy_after_wire : (records : ℕ) → ((k h : ℕ) → (k ≡ j → ⊥) → (k ≡ i → h ≡ j → ⊥) → is_empty (lines' k h) ≡ is_empty (lines k h))
        → (records ≡ 0 → (k h : ℕ) → (k ≡ i → h ≡ j → ⊥) → is_empty (lines' k h) ≡ is_empty (lines k h))
        → IsBusy lines' (renewed lines' off j records)
    unfolding renewed
    busy_after_wire records elsewhere nothing =
        by_eq records 0
        (λ z. rw (eq-eqb records 0 z) (record { shaped = off_shaped; rows = λ k lk. off_row k lk (λ h lh. nothing z k h) }))
        (λ z. rw (ne_eqb records 0 z) (record {
          shaped = with_shaped off j (busy_row lines' j) off_shaped lj;
          rows = λ k lk. by_eq k j
              (λ y. rw y (with_right off j (busy_row lines' j) off_shaped lj lines' refl))
              (λ y. with_others off j (busy_row lines' j) off_shaped lj lines' k y (off_row k lk (λ h lh. elsewhere k h y)));
        }))

  pub busy_after_radio : (t : ℕ) → t < 16 → (records : ℕ) → ((k h : ℕ) → (k ≡ t → ⊥) → is_empty (lines' k h) ≡ is_empty (lines k h))
      → (records ≡ 0 → (k h : ℕ) → is_empty (lines' k h) ≡ is_empty (lines k h))
      → IsBusy lines' (renewed lines' b t records)
  unfolding renewed
  busy_after_radio t lt records elsewhere nothing =
      by_eq records 0
      (λ z. rw (eq-eqb records 0 z) (record { shaped = right.shaped; rows = λ k lk. right_again lines lines' b k (λ h lh. nothing z k h) (right.rows k lk) }))
      (λ z. rw (ne_eqb records 0 z) (record {
        shaped = with_shaped b t (busy_row lines' t) right.shaped lt;
        rows = λ k lk. by_eq k t
            (λ y. rw y (with_right b t (busy_row lines' t) right.shaped lt lines' refl))
            (λ y. with_others b t (busy_row lines' t) right.shaped lt lines' k y (right_again lines lines' b k (λ h lh. elsewhere k h y) (right.rows k lk)));
      }))
