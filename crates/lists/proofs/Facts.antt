-- WHAT THE FORM RULE GIVES of lent parts, and what is to be shown for it.
use mathlib.Core.Path.{◌≡◌, sym, ◌∙◌}
use mathlib.Core.Bool.{true, false}
use Prim.Native.Nat.{ℕ, ◌*◌, ◌≤◌, ◌<◌}
use native.Mathlib.Omega.{arith}
use lib.Dec.{eqb}
use lib.ListN.{length}
use borrow.Author.Tests.{eqb-true, eq-eqb}
use Rattle.protocol.specs.Floor.{limits}
use Rattle.protocol.specs.Claims.{test, True}
use Rattle.protocol.specs.PlainLists.{entries, plain_passes, plain_rule}
use Rattle.protocol.proofs.Tests.{by_test, clash, and_left, and_right, and_intro}
use Rattle.protocol.proofs.ClaimLaws.{reflect}
use Rattle.protocol.proofs.PlainLaws.{plain_rule_of}
use Rattle.list_rows.specs.Rows.{Row, width, text_room, most_rows, rows_in, row_rule, members}
use Rattle.lists.specs.View.{LentLists, Counts, count_words, counts_in, lent_right, layout_rule, lists_in, SizedCounts}
use Rattle.lists.specs.Calls.{ListsReady}
use Rattle.list_rows.proofs.ListLaws.{entries_are}

-- LENGTHS

pub record Lengths (L : LentLists) : Type 0 where
  pub counts : length L.counts ≡ count_words
  pub sends : length L.sends ≡ most_rows * width
  pub octets : length L.octets ≡ most_rows * text_room

pub lengths_of : (L : LentLists) → lent_right L ≡ true → Lengths L
unfolding lent_right
lengths_of L h =
    let rest = and_right (eqb (length L.counts) count_words) _ h in
    record {
      counts = eqb-true (length L.counts) count_words (and_left _ _ h);
      sends = eqb-true (length L.sends) (most_rows * width) (and_left _ _ rest);
      octets = eqb-true (length L.octets) (most_rows * text_room) (and_right (eqb (length L.sends) (most_rows * width)) _ rest);
    }

pub of_lengths : (L : LentLists) → Lengths L → lent_right L ≡ true
unfolding lent_right
of_lengths L h =
    and_intro (eqb (length L.counts) count_words) _ (eq-eqb _ _ h.counts)
    (and_intro (eqb (length L.sends) (most_rows * width)) (eqb (length L.octets) (most_rows * text_room)) (eq-eqb _ _ h.sends) (eq-eqb _ _ h.octets))

-- COUNTS AND ROWS

pub record Facts (N : Counts) (T : ℕ → Row) : Type 0 where
  pub begun : N.mark ≡ 1
  pub some_stations : 0 < N.stations
  pub stations : N.stations ≤ 16
  pub some_carts : 0 < N.carts
  pub carts : N.carts ≤ 64
  pub sent : (s : ℕ) → s < N.stations → N.sent s ≤ 4294967295
  pub used : N.used ≤ most_rows
  pub rows : (r : ℕ) → r < N.used → True (row_rule T N.stations N.carts N.sent r)
  pub counted : N.entries ≡ members T N.carts N.used
  pub few : N.entries ≤ 2048

-- the entries' word is right where the rows are
entries_word : (L : LentLists) → True (layout_rule (counts_in L.counts) (rows_in L.sends L.octets)) → entries (lists_in L) ≡ (counts_in L.counts).entries
unfolding entries
entries_word L h =
    let N = counts_in L.counts in
    entries_are (rows_in L.sends L.octets) N.stations N.carts N.used (λ r l. (h.1.0 r l).0) ∙ sym h.1.1

layout_of : (L : LentLists) → True (plain_rule limits (lists_in L)) → True (layout_rule (counts_in L.counts) (rows_in L.sends L.octets))
layout_of L h = (reflect (layout_rule (counts_in L.counts) (rows_in L.sends L.octets))).0 h.0.1.1.0

module _ (L : LentLists) (passes : plain_passes limits (lists_in L) ≡ true) where
  pub lengths_pass : Lengths L
  lengths_pass = lengths_of L (plain_rule_of limits (lists_in L) passes).0.1.0

  pub entries_pass : entries (lists_in L) ≡ (counts_in L.counts).entries
  entries_pass = entries_word L (layout_of L (plain_rule_of limits (lists_in L) passes))

  pub facts_of : Facts (counts_in L.counts) (rows_in L.sends L.octets)
  facts_of =
      let h = plain_rule_of limits (lists_in L) passes in
      let w = layout_of L h in
      let e = entries_word L w in
      let few = h.1.1.1 in
      record {
        begun = eqb-true (counts_in L.counts).mark 1 h.0.0;
        some_stations = h.0.1.1.1.0.0;
        stations = h.0.1.1.1.0.1;
        some_carts = h.0.1.1.1.1.0;
        carts = h.0.1.1.1.1.1;
        sent = h.1.0;
        used = w.0;
        rows = w.1.0;
        counted = w.1.1;
        few = omega arith;
      }

-- lists that are not started do not pass
pub not_begun_fails : (L : LentLists) → (lists_in L).started ≡ false → plain_passes limits (lists_in L) ≡ false
not_begun_fails L e = by_test (plain_passes limits (lists_in L)) (λ h. clash (lists_in L).started (plain_rule_of limits (lists_in L) h).0.0 e) (λ h. h)

-- counts of lists that calls can go on with
pub sized : (L : LentLists) → ListsReady L → SizedCounts L.counts
sized L R =
    record {
      words = (lengths_of L R.lengths).counts;
      fit = λ e. let f = facts_of L (R.passes (eq-eqb (counts_in L.counts).mark 1 e)) in (f.stations, f.carts, f.few);
    }

-- what the counts and rows have to have, so that the words are such as the layout has
pub words_right_lem : (N : Counts) (T : ℕ → Row) → N.used ≤ most_rows → ((r : ℕ) → r < N.used → True (row_rule T N.stations N.carts N.sent r)) → N.entries ≡ members T N.carts N.used
    → test (layout_rule N T) ≡ true
words_right_lem N T used rows counted = (reflect (layout_rule N T)).1 (used, (rows, counted))
