-- HOW OFTEN A HAND-OFF OR AN ACKNOWLEDGEMENT STANDS ON THE LINES: the masks are right exactly where it is once at most.
use mathlib.Core.Path.{refl, sym, ap, ◌∙◌, ◌≡◌}
use mathlib.Core.Bool.{Bool}
use mathlib.Core.List.{List, [], ◌∷◌, map}
use Prim.Native.Nat.{ℕ, zero, suc, ◌+◌, ◌≤◌, ◌<◌}
use native.Mathlib.Omega.{arith}
use lib.Dec.{ltb}
use borrow.Author.Tests.{ltb-true}
use Rattle.protocol.specs.Folds.{sum}
use Rattle.protocol.specs.CartSets.{has}
use Rattle.protocol.specs.Floor.{Carts, Record}
use Rattle.protocol.specs.Form.{bit, count_line, count_lines}
use Rattle.protocol.proofs.Tests.{by_lt, and_left, and_right}
use Rattle.protocol.proofs.Counting.{sum_ext, sum_nil}
use Rattle.protocol.proofs.LineFacts.{is_handoff_of}
use Rattle.messages.specs.View.{Rooms}
use Rattle.form_lines.specs.Said.{Said, said_on}
use Rattle.form_lines.proofs.Walks.{Each, line_yes, line_no, all_yes, all_no, sum_beyond}
use Rattle.form_lines.proofs.Split.{walk_seen, walk_gone, fresh_gone, note_gone, GoodGone, fresh_found, note_found, fresh_seen, note_seen, Right}
use Rattle.form_lines.proofs.Reading.{read}
use Rattle.form_lines.proofs.Tallies.{Taken, Spot, OneRoom, found_yes, found_no, deletes_at, gone_yes, gone_no, seen_at, acks_at, Rows, seen_kept, seen_yes, seen_no}
use Rattle.form_lines.proofs.Lines.{go_found, good_found, row_found, RowFound, go_seen, good_seen, row_seen, RowSeen, all_found, AllFound, all_seen, AllSeen}

module _ (n k : ℕ) (C : Carts) (R : Rooms) (one : OneRoom R) (carried : ℕ → ℕ → ℕ) (words : List ℕ)
    (rights : (i j : ℕ) → i < 16 → j < 16 → Each (Right n k C R carried i j) (said_on words i j)) where
  -- the written line
  abbrev line : ℕ → ℕ → List Record
  line i j = map (read carried) (said_on words i j)

  -- HAND-OFFS
  abbrev handoff_count : ℕ → ℕ → ℕ → ℕ
  handoff_count i j c = count_line (is_handoff_of c) (line i j)

  abbrev in_mask : ℕ → ℕ → ℕ
  in_mask x c = bit (has x c)

  module _ (i : ℕ) (li : i < 16) where
    found_line_yes : (j x : ℕ) → Unit {0} → j < 16 → good_found words i j x → (c : ℕ) → in_mask (go_found words i j x) c ≡ in_mask x c + handoff_count i j c
    found_line_yes j x u lj =
        line_yes ℕ fresh_found note_found (λ y. Unit {0}) ℕ in_mask (read carried) is_handoff_of (Right n k C R carried i j) (λ y r v. tt)
        (found_yes n k C R one carried i j) (found_no n k C R one carried i j) x (said_on words i j) tt (rights i j li lj)

    found_line_no : (j x : ℕ) → Unit {0} → j < 16 → ((c : ℕ) → in_mask x c + handoff_count i j c ≤ 1) → good_found words i j x
    found_line_no j x u lj =
        line_no ℕ fresh_found note_found (λ y. Unit {0}) ℕ in_mask (read carried) is_handoff_of (Right n k C R carried i j) (λ y r v. tt)
        (found_yes n k C R one carried i j) (found_no n k C R one carried i j) x (said_on words i j) tt (rights i j li lj)

  found_row_yes : (i x : ℕ) → Unit {0} → i < 16 → RowFound words i x 16 → (c : ℕ) → in_mask (row_found words i x 16) c ≡ in_mask x c + sum 16 (λ j. handoff_count i j c)
  found_row_yes i x u li =
      all_yes ℕ (good_found words i) (go_found words i) (λ y. Unit {0}) ℕ in_mask (handoff_count i) 16 (λ j y v. tt) (found_line_yes i li) (found_line_no i li) x 16 tt (omega arith)

  found_row_no : (i x : ℕ) → Unit {0} → i < 16 → ((c : ℕ) → in_mask x c + sum 16 (λ j. handoff_count i j c) ≤ 1) → RowFound words i x 16
  found_row_no i x u li =
      all_no ℕ (good_found words i) (go_found words i) (λ y. Unit {0}) ℕ in_mask (handoff_count i) 16 (λ j y v. tt) (found_line_yes i li) (found_line_no i li) x 16 tt (omega arith)

  pub found_all_yes : (x : ℕ) → AllFound words x 16 → (c : ℕ) → in_mask (all_found words x 16) c ≡ in_mask x c + sum 16 (λ i. sum 16 (λ j. handoff_count i j c))
  found_all_yes x =
      all_yes ℕ (λ i y. RowFound words i y 16) (λ i y. row_found words i y 16) (λ y. Unit {0}) ℕ in_mask (λ i c. sum 16 (λ j. handoff_count i j c)) 16 (λ j y v. tt) found_row_yes found_row_no x 16 tt (omega arith)

  pub found_all_no : (x : ℕ) → ((c : ℕ) → in_mask x c + sum 16 (λ i. sum 16 (λ j. handoff_count i j c)) ≤ 1) → AllFound words x 16
  found_all_no x =
      all_no ℕ (λ i y. RowFound words i y 16) (λ i y. row_found words i y 16) (λ y. Unit {0}) ℕ in_mask (λ i c. sum 16 (λ j. handoff_count i j c)) 16 (λ j y v. tt) found_row_yes found_row_no x 16 tt (omega arith)

  -- ACKNOWLEDGEMENTS
  abbrev spotted : List ℕ → Spot R → ℕ
  spotted = seen_at n k C R one carried 0 0

  abbrev ack_at : ℕ → ℕ → Spot R → Record → Bool
  ack_at i j = acks_at n k C R one carried i j

  abbrev whole : List ℕ → Type 0
  whole = Rows n k C R one carried 0 0

  abbrev ack_count_at : ℕ → ℕ → Spot R → ℕ
  ack_count_at i j a = count_line (ack_at i j a) (line i j)

  module _ (i : ℕ) where
    seen_line_kept : (j : ℕ) (x : List ℕ) → whole x → whole (go_seen words i j x)
    seen_line_kept j x = kept x (said_on words i j)
      where
        kept : (x : List ℕ) (l : List Said) → whole x → whole (walk_seen x l)
        kept x [] w = w
        kept x (r ∷ l) w = kept (note_seen x r) l (seen_kept n k C R one carried i j x r w)

    module _ (li : i < 16) where
      seen_line_yes : (j : ℕ) (x : List ℕ) → whole x → j < 16 → good_seen words i j x → (a : Spot R) → spotted (go_seen words i j x) a ≡ spotted x a + ack_count_at i j a
      seen_line_yes j x w lj =
          line_yes (List ℕ) fresh_seen note_seen whole (Spot R) spotted (read carried) (ack_at i j) (Right n k C R carried i j) (seen_kept n k C R one carried i j)
          (seen_yes n k C R one carried i j) (seen_no n k C R one carried i j) x (said_on words i j) w (rights i j li lj)

      seen_line_no : (j : ℕ) (x : List ℕ) → whole x → j < 16 → ((a : Spot R) → spotted x a + ack_count_at i j a ≤ 1) → good_seen words i j x
      seen_line_no j x w lj =
          line_no (List ℕ) fresh_seen note_seen whole (Spot R) spotted (read carried) (ack_at i j) (Right n k C R carried i j) (seen_kept n k C R one carried i j)
          (seen_yes n k C R one carried i j) (seen_no n k C R one carried i j) x (said_on words i j) w (rights i j li lj)

  seen_row_kept : (i : ℕ) (x : List ℕ) → whole x → whole (row_seen words i x 16)
  seen_row_kept i x = kept x 16
    where
      kept : (x : List ℕ) (h : ℕ) → whole x → whole (row_seen words i x h)
      kept x zero w = w
      kept x (suc h) w = seen_line_kept i h (row_seen words i x h) (kept x h w)

  seen_row_yes : (i : ℕ) (x : List ℕ) → whole x → i < 16 → RowSeen words i x 16 → (a : Spot R) → spotted (row_seen words i x 16) a ≡ spotted x a + sum 16 (λ j. ack_count_at i j a)
  seen_row_yes i x w li =
      all_yes (List ℕ) (good_seen words i) (go_seen words i) whole (Spot R) spotted (ack_count_at i) 16 (seen_line_kept i) (seen_line_yes i li) (seen_line_no i li) x 16 w (omega arith)

  seen_row_no : (i : ℕ) (x : List ℕ) → whole x → i < 16 → ((a : Spot R) → spotted x a + sum 16 (λ j. ack_count_at i j a) ≤ 1) → RowSeen words i x 16
  seen_row_no i x w li =
      all_no (List ℕ) (good_seen words i) (go_seen words i) whole (Spot R) spotted (ack_count_at i) 16 (seen_line_kept i) (seen_line_yes i li) (seen_line_no i li) x 16 w (omega arith)

  pub seen_all_yes : (x : List ℕ) → whole x → AllSeen words x 16 → (a : Spot R) → spotted (all_seen words x 16) a ≡ spotted x a + sum 16 (λ i. sum 16 (λ j. ack_count_at i j a))
  seen_all_yes x w =
      all_yes (List ℕ) (λ i y. RowSeen words i y 16) (λ i y. row_seen words i y 16) whole (Spot R) spotted (λ i a. sum 16 (λ j. ack_count_at i j a)) 16 seen_row_kept seen_row_yes seen_row_no x 16 w (omega arith)

  pub seen_all_no : (x : List ℕ) → whole x → ((a : Spot R) → spotted x a + sum 16 (λ i. sum 16 (λ j. ack_count_at i j a)) ≤ 1) → AllSeen words x 16
  seen_all_no x w =
      all_no (List ℕ) (λ i y. RowSeen words i y 16) (λ i y. row_seen words i y 16) whole (Spot R) spotted (λ i a. sum 16 (λ j. ack_count_at i j a)) 16 seen_row_kept seen_row_yes seen_row_no x 16 w (omega arith)

  -- DELETES, on one line
  abbrev gone_in : ℕ → (m : ℕ) × Taken R m → ℕ
  gone_in x a = bit (has x a.0)

  module _ (i j : ℕ) (li : i < 16) (lj : j < 16) where
    pub gone_line_yes : (x : ℕ) → GoodGone x (said_on words i j) → (a : (m : ℕ) × Taken R m) → gone_in (walk_gone x (said_on words i j)) a ≡ gone_in x a + count_line (deletes_at n k C R one carried i j a) (line i j)
    gone_line_yes x =
        line_yes ℕ fresh_gone note_gone (λ y. Unit {0}) ((m : ℕ) × Taken R m) gone_in (read carried) (deletes_at n k C R one carried i j) (Right n k C R carried i j) (λ y r v. tt)
        (gone_yes n k C R one carried i j) (gone_no n k C R one carried i j) x (said_on words i j) tt (rights i j li lj)

    pub gone_line_no : (x : ℕ) → ((a : (m : ℕ) × Taken R m) → gone_in x a + count_line (deletes_at n k C R one carried i j a) (line i j) ≤ 1) → GoodGone x (said_on words i j)
    gone_line_no x =
        line_no ℕ fresh_gone note_gone (λ y. Unit {0}) ((m : ℕ) × Taken R m) gone_in (read carried) (deletes_at n k C R one carried i j) (Right n k C R carried i j) (λ y r v. tt)
        (gone_yes n k C R one carried i j) (gone_no n k C R one carried i j) x (said_on words i j) tt (rights i j li lj)

  -- THE LINES OF THE FLOOR
  module _ (lines : ℕ → ℕ → List Record) (is : (i j : ℕ) → i < 16 → j < 16 → lines i j ≡ line i j) (beyond : (i j : ℕ) → (i < 16 → j < 16 → ⊥) → lines i j ≡ []) (few : n ≤ 16) where
    -- only lines between stations of the floor have records
    none_said : (i j : ℕ) (l : List Said) → Each (Right n k C R carried i j) l → (i < n → j < n → ⊥) → map (read carried) l ≡ []
    none_said i j [] e h = refl
    none_said i j (r ∷ l) e h =
        absurd (h (ltb-true i n (and_left (ltb i n) (ltb j n) e.0.0)) (ltb-true j n (and_right (ltb i n) (ltb j n) e.0.0)))

    pub no_line : (i j : ℕ) → (i < n → j < n → ⊥) → lines i j ≡ []
    no_line i j h =
        by_lt i 16
        (λ a. by_lt j 16 (λ b. is i j a b ∙ none_said i j (said_on words i j) (rights i j a b) h) (λ b. beyond i j (λ x y. omega arith)))
        (λ a. beyond i j (λ x y. omega arith))

    pub total_is : (f : ℕ → ℕ → Record → Bool) → sum 16 (λ i. sum 16 (λ j. count_line (f i j) (line i j))) ≡ count_lines n f lines
    total_is f =
        let g : ℕ → ℕ → ℕ = λ i j. count_line (f i j) (lines i j) in
        sum_ext 16 (λ i. sum 16 (λ j. count_line (f i j) (line i j))) (λ i. sum 16 (λ j. g i j))
        (λ i li. sum_ext 16 (λ j. count_line (f i j) (line i j)) (λ j. g i j) (λ j lj. ap (count_line (f i j)) (sym (is i j li lj))))
        ∙ sum_ext 16 (λ i. sum 16 (λ j. g i j)) (λ i. sum n (λ j. g i j)) (λ i li. sum_beyond n 16 (λ j. g i j) few (λ j lj. none i j (λ x y. omega arith)))
        ∙ sum_beyond n 16 (λ i. sum n (λ j. g i j)) few (λ i li. sum_nil n (λ j. g i j) (λ j lj. none i j (λ x y. omega arith)))
      where
        none : (i j : ℕ) → (i < n → j < n → ⊥) → count_line (f i j) (lines i j) ≡ 0
        none i j h = ap (count_line (f i j)) (no_line i j h)
