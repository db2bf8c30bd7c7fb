-- THE FORM RULE IS ITS PARTS: the lengths, the counts, and the rows.
use mathlib.Core.Path.{◌≡◌, refl, ap}
use mathlib.Core.Bool.{true, ◌&&◌}
use mathlib.Core.List.{List, [], ◌∷◌, ◌++◌}
use Prim.Native.Nat.{ℕ, zero, suc, ◌*◌, ◌≤◌, ◌<◌}
use native.Mathlib.Omega.{arith}
use lib.Dec.{eqb}
use lib.ListN.{length, drop, length-take}
use borrow.Author.Tests.{eqb-true, eq-eqb}
use Rattle.protocol.specs.CartSets.{has}
use Rattle.protocol.specs.Floor.{Limits, limits, most_text}
use Rattle.protocol.specs.Claims.{test, True}
use Rattle.protocol.specs.TwoLists.{Item, item}
use Rattle.protocol.specs.PlainLists.{items_rule, entries, plain_passes}
use Rattle.protocol.proofs.Tests.{by_test, same_test, and_left, and_right, and_intro}
use Rattle.protocol.proofs.ClaimLaws.{reflect}
use Rattle.protocol.proofs.PlainLaws.{plain_passes_of}
use Rattle.list_rows.specs.Rows.{Row, text_room, part_in, rows_in, listed, above}
use Rattle.list_rows.proofs.ListLaws.{above_below, entries_are}
use Rattle.lists.specs.View.{LentLists, Counts, counts_in, lent_right, lists_in}
use Rattle.lists.proofs.Facts.{facts_of, lengths_pass, of_lengths, words_right_lem}
use Rattle.tested_lists.specs.Form.{counts_rule, rows_rule}

-- THE ITEMS OF A LIST

-- numbers rise where the rows' do
items_wider : (M : Limits) (low : ℕ) (l : List Item) (high more : ℕ) → high ≤ more → True (items_rule M low l high) → True (items_rule M low l more)
items_wider M low [] high more le h = refl
items_wider M low (x ∷ l) high more le h = (h.0, (let z = h.1.0 in omega arith, (h.1.1.0, items_wider M (suc x.number) l high more le h.1.1.1)))

items_behind : (M : Limits) (low : ℕ) (l : List Item) (n : ℕ) (text : List ℕ) → low ≤ n → length text ≤ most_text M → True (items_rule M low l n) → True (items_rule M low (l ++ (item n text ∷ [])) (suc n))
items_behind M low [] n text le short h = (le, (omega arith, (short, refl)))
items_behind M low (x ∷ l) n text le short h =
    (h.0, (let z = h.1.0 in omega arith, (h.1.1.0, items_behind M (suc x.number) l n text (let z = h.1.0 in omega arith) short h.1.1.1)))

items_of_rows : (T : ℕ → Row) (n s c : ℕ) → ((r : ℕ) → r < n → above T (T r).initiator r ≤ (T r).number) → ((r : ℕ) → r < n → length (T r).text ≤ most_text limits) → True (items_rule limits 0 (listed T n s c) (above T s n))
unfolding listed above
items_of_rows T zero s c rise short = refl
items_of_rows T (suc n) s c rise short =
    let before = items_of_rows T n s c (λ r l. rise r (omega arith)) (λ r l. short r (omega arith)) in
    by_test (eqb s (T n).initiator)
    (λ e. let higher : above T s n ≤ (T n).number = (let z = rise n (omega arith) in let y = ap (λ (u : ℕ). above T u n) (eqb-true s (T n).initiator e) in omega arith) in
    rw e (by_test (has (T n).carts c)
    (λ q. rw q (items_behind limits 0 (listed T n s c) (T n).number (T n).text (omega arith) (short n (omega arith)) (items_wider limits 0 (listed T n s c) (above T s n) (T n).number higher before)))
    (λ q. rw q (items_wider limits 0 (listed T n s c) (above T s n) (suc (T n).number) (omega arith) before))))
    (λ e. rw e before)

-- a text is no longer than its row's octets
short_text : (l o : List ℕ) (r : ℕ) → length (rows_in l o r).text ≤ text_room
unfolding part_in
short_text l o r =
    let a = length-take (rows_in l o r).size (part_in o r) in
    let b = length-take text_room (drop (r * text_room) o) in
    omega arith

-- THE PARTS

module _ (L : LentLists) where
  abbrev counts : Counts
  counts = counts_in L.counts

  abbrev rows : ℕ → Row
  rows = rows_in L.sends L.octets

  passes_parts : plain_passes limits (lists_in L) ≡ true → lent_right L && (test (counts_rule counts) && test (rows_rule counts rows)) ≡ true
  passes_parts h =
      let f = facts_of L h in
      and_intro (lent_right L) _ (of_lengths L (lengths_pass L h))
      (and_intro (test (counts_rule counts)) (test (rows_rule counts rows))
      ((reflect (counts_rule counts)).1 (eq-eqb counts.mark 1 f.begun, (((f.some_stations, f.stations), (f.some_carts, f.carts)), (f.used, (f.few, f.sent)))))
      ((reflect (rows_rule counts rows)).1 (f.rows, f.counted)))

  parts_pass : lent_right L ≡ true → True (counts_rule counts) → True (rows_rule counts rows) → plain_passes limits (lists_in L) ≡ true
  unfolding entries
  parts_pass lengths n t =
      let words = words_right_lem counts rows n.1.1.0 t.0 t.1 in
      let few : entries (lists_in L) ≤ 2048 = (let e = entries_are rows counts.stations counts.carts counts.used (λ r l. (t.0 r l).0) in let y = t.1 in let z = n.1.1.1.0 in omega arith) in
      plain_passes_of limits (lists_in L) (
        (n.0, (lengths, (words, n.1.0))),
        (
          n.1.1.1.1,
          (
            (λ s ls c lc. items_wider limits 0 (listed rows counts.used s c) (above rows s counts.used) (counts.sent s) (above_below rows counts.sent s counts.used (λ r l. (t.0 r l).1.1.0))
                (items_of_rows rows counts.used s c (λ r l. (t.0 r l).1.0) (λ r l. short_text L.sends L.octets r))),
            few,
          ),
        ),
      )

  pub form_split : plain_passes limits (lists_in L) ≡ (lent_right L && (test (counts_rule counts) && test (rows_rule counts rows)))
  form_split =
      same_test (plain_passes limits (lists_in L)) (lent_right L && (test (counts_rule counts) && test (rows_rule counts rows))) passes_parts
      (λ h. let rest = and_right (lent_right L) _ h in
      parts_pass (and_left (lent_right L) _ h) ((reflect (counts_rule counts)).0 (and_left (test (counts_rule counts)) _ rest)) ((reflect (rows_rule counts rows)).0 (and_right (test (counts_rule counts)) _ rest)))
