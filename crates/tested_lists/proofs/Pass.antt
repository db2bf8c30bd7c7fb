-- THE TEST'S LOOPS: a clause that fails ends the test, and one pass over the rows tests them all.
use mathlib.Core.Path.{◌≡◌, refl, sym, ap, ap₂, ◌∙◌, subst}
use mathlib.Core.Bool.{Bool, true, false}
use mathlib.Core.List.{List}
use Prim.Native.Nat.{ℕ, suc, ◌+◌, ◌*◌, ◌≤◌, ◌<◌}
use native.Mathlib.Numerals.{add-one}
use native.Mathlib.Omega.{arith}
use lib.Dec.{eqb, leb}
use lib.ListN.{length, get_or, set, length-set}
use lib.Seq.{get_or-set_same, get_or-set_other}
use borrow.Author.Tests.{eqb-true, eq-eqb, ne_eqb, lt-ltb, leb-true, le-leb}
use Rattle.protocol.specs.Folds.{count, sum}
use Rattle.protocol.specs.CartSets.{has, set_of}
use Rattle.protocol.specs.Floor.{limits}
use Rattle.protocol.specs.Claims.{Claim, test, True}
use Rattle.protocol.specs.Refusals.{wrong_size}
use Rattle.protocol.proofs.Tests.{by_test, by_eq, same_test, clash}
use Rattle.protocol.proofs.Counting.{sum_le, count_le}
use Rattle.protocol.proofs.ClaimLaws.{reflect}
use Rattle.protocol.proofs.Ready.{right_size}
use Rattle.sets.specs.Masks.{size}
use Rattle.list_rows.specs.declared.Message.{Message}
use Rattle.list_rows.specs.Rows.{Row, text_room, message_of, above, members, row_fits, row_rule}
use Rattle.lists.specs.View.{Counts}
use Rattle.lists.proofs.Checks.{a_stranger, no_stranger, named_count}
use Rattle.tested_lists.specs.Form.{rows_rule}

-- a claim that does not hold
pub fails : (p : Claim) → (True p → ⊥) → false ≡ test p
fails p h = by_test (test p) (λ e. absurd (h ((reflect p).0 e))) (λ e. sym e)

-- one that does
pub holds : (p : Claim) → True p → true ≡ test p
holds p h = sym ((reflect p).1 h)

-- one that is left to a last test
pub same_claim : (b : Bool) (p : Claim) → (b ≡ true → True p) → (True p → b ≡ true) → b ≡ test p
same_claim b p to from = same_test b (test p) (λ e. (reflect p).1 (to e)) (λ e. from ((reflect p).0 e))

-- THE COUNTS

-- a size that a start accepts, or not
pub wrong_size_fails : (n k : ℕ) → wrong_size limits n k ≡ true → ((0 < n) × (n ≤ 16)) × ((0 < k) × (k ≤ 64)) → ⊥
wrong_size_fails n k w h =
    clash (wrong_size limits n k) w (rw (lt-ltb 0 n h.0.0, le-leb n 16 h.0.1, lt-ltb 0 k h.1.0, le-leb k 64 h.1.1))

pub size_holds : (n k : ℕ) → wrong_size limits n k ≡ false → ((0 < n) × (n ≤ 16)) × ((0 < k) × (k ≤ 64))
size_holds n k w = let f = right_size limits n k w in ((f.some_stations, f.stations), (f.some_carts, f.carts))

-- THE ROWS

-- the first r rows passed
pub record SoFar (N : Counts) (T : ℕ → Row) (low : List ℕ) (entries r : ℕ) : Type 0 where
  pub long : length low ≡ 16
  pub lows : (s : ℕ) → s < 16 → get_or low s 0 ≡ above T s r
  pub counted : entries ≡ members T N.carts r
  pub fit : (q : ℕ) → q < r → True (row_rule T N.stations N.carts N.sent q)

-- row r by the numbers kept
abbrev pub fits_here : Counts → (ℕ → Row) → List ℕ → ℕ → Claim
fits_here N T low r = row_fits (λ s. get_or low s 0) N.stations N.carts N.sent (T r)

module _ (N : Counts) (T : ℕ → Row) (low : List ℕ) (entries r : ℕ) (S : SoFar N T low entries r) (stations : N.stations ≤ 16) (carts : N.carts ≤ 64) where
  here_is : True (fits_here N T low r) → True (row_rule T N.stations N.carts N.sent r)
  here_is h = (h.0, (let z = S.lows (T r).initiator (let y = h.0 in omega arith) in let w = h.1.0 in omega arith, h.1.1))

  is_here_lem : True (row_rule T N.stations N.carts N.sent r) → True (fits_here N T low r)
  is_here_lem h = (h.0, (let z = S.lows (T r).initiator (let y = h.0 in omega arith) in let w = h.1.0 in omega arith, h.1.1))

  -- no more entries than a word holds
  pub few_entries : entries ≤ r * 64
  unfolding members
  few_entries =
      let z = sum_le r 64 (λ q. count N.carts (has (T q).carts)) (λ q l. let y = count_le N.carts (has (T q).carts) in omega arith) in
      let w = S.counted in
      omega arith

  -- it does not fit
  pub row_fails : r < N.used → (True (fits_here N T low r) → ⊥) → false ≡ test (rows_rule N T)
  row_fails l h = fails (rows_rule N T) (λ rule. h (is_here_lem (rule.0 r l)))

  -- it fits, and is passed
  module _ (h : True (fits_here N T low r)) (s v x : ℕ) (es : s ≡ (T r).initiator) (ev : v ≡ (T r).number) (ex : x ≡ size 64 (T r).carts) where
    lows_on : (u : ℕ) → u < 16 → get_or (set low s (v + 1)) u 0 ≡ above T u (suc r)
    unfolding above
    lows_on u l =
        by_eq u s
        (λ q. rw (eq-eqb u (T r).initiator (q ∙ es)) (ap (λ (k : ℕ). get_or (set low s (v + 1)) k 0) q ∙ get_or-set_same low s (v + 1) 0 (let z = S.long in omega arith) ∙ add-one v ∙ ap suc ev))
        (λ q. rw (ne_eqb u (T r).initiator (λ e. q (e ∙ sym es))) (get_or-set_other low s u (v + 1) 0 q ∙ S.lows u l))

    counted_on : entries + x ≡ members T N.carts (suc r)
    unfolding members sum
    counted_on = ap₂ (λ (a b : ℕ). a + b) S.counted (named_count N.carts (T r).carts x carts h.1.1.1.0 ex)

    pub passed_on : SoFar N T (set low s (v + 1)) (entries + x) (r + 1)
    passed_on =
        record {
          long = length-set low s (v + 1) ∙ S.long;
          lows = λ u l. lows_on u l ∙ sym (ap (above T u) (add-one r));
          counted = counted_on ∙ sym (ap (members T N.carts) (add-one r));
          fit = λ q l. by_eq q r
              (λ e. subst (λ (k : ℕ). True (row_rule T N.stations N.carts N.sent k)) (sym e) (here_is h))
              (λ e. S.fit q (omega arith));
        }

  -- all rows are passed
  pub rows_end : r ≡ N.used → eqb entries N.entries ≡ test (rows_rule N T)
  rows_end e =
      let all_counted = S.counted ∙ ap (members T N.carts) e in
      same_claim (eqb entries N.entries) (rows_rule N T)
      (λ q. ((λ k l. S.fit k (omega arith)), sym (eqb-true entries N.entries q) ∙ all_counted))
      (λ q. eq-eqb entries N.entries (all_counted ∙ sym q.1))

-- none is passed yet
pub none_passed : (N : Counts) (T : ℕ → Row) (low : List ℕ) → length low ≡ 16 → ((s : ℕ) → s < 16 → get_or low s 0 ≡ 0) → SoFar N T low 0 0
unfolding above members sum
none_passed N T low long zeros = record { long = long; lows = zeros; counted = refl; fit = λ q l. absurd (omega arith) }

-- THE CLAUSES OF A ROW, by the message that is read from it
module _ (low sent : ℕ → ℕ) (n k : ℕ) (x : Row) (message : Message) (e : message ≡ message_of x) where
  pub row_of_nobody : n ≤ message.initiator.0 → false ≡ test (row_fits low n k sent x)
  row_of_nobody h = fails (row_fits low n k sent x) (λ rule. let a = rule.0 in let b = subst (λ (m : Message). n ≤ m.initiator.0) e h in omega arith)

  pub row_low : message.number.0 < low message.initiator.0 → false ≡ test (row_fits low n k sent x)
  row_low h = fails (row_fits low n k sent x) (λ rule. let a = rule.1.0 in let b = subst (λ (m : Message). m.number.0 < low m.initiator.0) e h in omega arith)

  pub row_high : sent message.initiator.0 ≤ message.number.0 → false ≡ test (row_fits low n k sent x)
  row_high h = fails (row_fits low n k sent x) (λ rule. let a = rule.1.1.0 in let b = subst (λ (m : Message). sent m.initiator.0 ≤ m.number.0) e h in omega arith)

  pub row_strange : (all : ℕ) → all ≡ set_of k (λ c. true) → all < message.carts → false ≡ test (row_fits low n k sent x)
  row_strange all ea h =
      fails (row_fits low n k sent x) (λ rule. let a = rule.1.1.1.0 in let b = a_stranger k all x.carts ea (subst (λ (m : Message). all < m.carts) e h) in omega arith)

  pub row_by_size : message.initiator.0 < n → low message.initiator.0 ≤ message.number.0 → message.number.0 < sent message.initiator.0
      → (all : ℕ) → all ≡ set_of k (λ c. true) → message.carts ≤ all → (size : ℕ) → size ≡ x.size → leb size text_room ≡ test (row_fits low n k sent x)
  row_by_size station lows highs all ea carts size es =
      same_claim (leb size text_room) (row_fits low n k sent x)
      (λ q. let short = leb-true size text_room q in (
        subst (λ (m : Message). m.initiator.0 < n) e station,
        (
          subst (λ (m : Message). low m.initiator.0 ≤ m.number.0) e lows,
          (
            subst (λ (m : Message). m.number.0 < sent m.initiator.0) e highs,
            (no_stranger k all x.carts ea (subst (λ (m : Message). m.carts ≤ all) e carts), omega arith),
          ),
        ),
      ))
      (λ rule. let a = rule.1.1.1.1 in le-leb size text_room (omega arith))
