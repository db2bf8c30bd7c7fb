-- A SEND OVER ROWS: there is room for its row, and the lists afterwards are the written ones.
use mathlib.Core.Path.{◌≡◌, refl, sym, ap, ap₂, ◌∙◌}
use mathlib.Core.Bool.{Bool, true, false, cond, ◌&&◌}
use mathlib.Core.List.{List, [], ◌∷◌, ◌++◌}
use Prim.Native.Nat.{ℕ, suc, ◌+◌, ◌*◌, ◌%◌, ◌≤◌, ◌<◌}
use native.Mathlib.Omega.{arith}
use native.Mathlib.Numerals.{add-one}
use lib.Dec.{eqb}
use lib.ListN.{length, set, length-set}
use borrow.Author.Tests.{eq-eqb}
use Rattle.protocol.specs.Folds.{count, update}
use Rattle.protocol.specs.CartSets.{has}
use Rattle.protocol.specs.Floor.{limits}
use Rattle.protocol.specs.Claims.{test, True}
use Rattle.protocol.specs.TwoLists.{Item, item}
use Rattle.protocol.specs.PlainLists.{plain_send, plain_passes, appended, most_entries}
use Rattle.protocol.proofs.Tests.{by_lt, by_eq, clash, on_cond, on_update, eqb_self, and_second_false}
use Rattle.protocol.proofs.Counting.{count_at}
use Rattle.protocol.proofs.SetLaws.{has_zero, some_member}
use Rattle.ids.specs.declared.MessageNumber.{MessageNumber}
use Rattle.sets.specs.Masks.{size}
use Rattle.std.specs.Prelude.{Ok}
use Rattle.lists.specs.declared.Reply.TheVariants.{Sent}
use Rattle.lists.specs.Calls.{ListsMet, ListsReady, send_checks}
use Rattle.list_rows.specs.Rows.{Row, width, text_room, most_rows, often_enough, listed, members, row_rule, new_row, Used, used_rows, squeezed, with_room, rows_in}
use Rattle.lists.specs.View.{LentLists, lent_lists, Counts, count_words, counts_in, lent_right, layout_rule, plain_from, lists_in}
use Rattle.list_rows.proofs.ListLaws.{above_below, put_alike, rule_alike, above_alike, listed_put, members_put, squeezed_lists, squeezed_members, squeezed_rules, squeezed_somebody, few_rows}
use Rattle.lists.proofs.CountLaws.{with_sent, with_used, with_entries, put_sent, put_used, put_entries}
use Rattle.lists.proofs.Facts.{Facts, facts_of, lengths_pass, of_lengths, words_right_lem}
use Rattle.lists.proofs.Checks.{MaySend, may_send, send_checks_lem, named_count, accepted_met}

-- ROOM FOR A ROW

module _ (N : Counts) (T : ℕ → Row) (F : Facts N T) where
  -- rows that say the same
  record Roomy (U : Used) : Type 0 where
    lists : (s c : ℕ) → listed U.rows U.used s c ≡ listed T N.used s c
    counted : members U.rows N.carts U.used ≡ N.entries
    rules : (r : ℕ) → r < U.used → True (row_rule U.rows N.stations N.carts N.sent r)

  room : Roomy (with_room T N.used)
  room =
      on_cond Roomy (eqb (N.used % often_enough) 0)
      (λ e. record {
        lists = squeezed_lists T N.used;
        counted = squeezed_members T N.carts N.used ∙ sym F.counted;
        rules = squeezed_rules T N.stations N.carts N.sent N.used F.rows;
      })
      (λ e. record { lists = λ s c. refl; counted = sym F.counted; rules = F.rows })

  -- all rows are used: their number is such that they are moved together
  not_all : eqb (N.used % often_enough) 0 ≡ false → N.used < most_rows
  not_all e =
      by_lt N.used most_rows
      (λ l. l)
      (λ l. let all : N.used ≡ most_rows = omega (arith, F.used, l) in clash (eqb (N.used % often_enough) 0) (ap (λ (n : ℕ). eqb (n % often_enough) 0) all) e)

  -- and where there are fewer entries than rows, there is a row behind them
  pub room_behind : N.entries < most_rows → (with_room T N.used).used < most_rows
  room_behind few =
      on_cond (λ (U : Used). U.used < most_rows) (eqb (N.used % often_enough) 0)
      (λ e. let z = few_rows (squeezed T N.used).rows N.carts (squeezed T N.used).used (squeezed_somebody T N.used) (λ r l. (squeezed_rules T N.stations N.carts N.sent N.used F.rows r l).1.1.1.0) in
      let y = squeezed_members T N.carts N.used in
      let x = F.counted in
      omega arith)
      not_all

-- THE COUNTS AND ROWS AFTERWARDS

rule_higher : (T : ℕ → Row) (n k : ℕ) (sent more : ℕ → ℕ) (r : ℕ) → ((u : ℕ) → sent u ≤ more u) → True (row_rule T n k sent r) → True (row_rule T n k more r)
rule_higher T n k sent more r h rule = let z = h (T r).initiator in let y = rule.1.1.0 in (rule.0, (rule.1.0, (omega arith, rule.1.1.1)))

module _ (lengths : Bool) (N : Counts) (T : ℕ → Row) (F : Facts N T) (s set : ℕ) (text : List ℕ) (may : MaySend N s set (length text)) where
  abbrev sent_more : ℕ → ℕ
  sent_more = update N.sent s (suc (N.sent s))

  higher : (u : ℕ) → N.sent u ≤ sent_more u
  higher u = on_update (λ x. N.sent u ≤ x) N.sent s (suc (N.sent s)) u (λ e. let z = ap N.sent e in omega arith) (λ e. omega arith)

  words_before : test (layout_rule N T) ≡ true
  words_before = words_right_lem N T F.used F.rows F.counted

  -- a send that names no cart
  words_none : test (layout_rule (with_sent N s (suc (N.sent s))) T) ≡ true
  words_none =
      words_right_lem (with_sent N s (suc (N.sent s))) T F.used (λ r l. rule_higher T N.stations N.carts N.sent sent_more r higher (F.rows r l)) F.counted

  pub sent_to_none : set ≡ 0 → plain_from lengths (with_sent N s (suc (N.sent s))) T ≡ appended (plain_from lengths N T) s set text
  unfolding appended
  sent_to_none none = λ i. record {
    lengths_right = lengths;
    words_right = (words_none ∙ sym words_before) i;
    started = eqb N.mark 1;
    stations = N.stations;
    carts = N.carts;
    count = sent_more;
    list = λ u c. sym (ap (λ (b : Bool). cond b (listed T N.used u c ++ (item (N.sent s) text ∷ [])) (listed T N.used u c)) (and_second_false (eqb u s) (has set c) (ap (λ (x : ℕ). has x c) none ∙ has_zero c))) i;
  }

  -- a send with a row
  abbrev pub room_made : Used
  room_made = with_room T N.used

  abbrev pub its_row : Row
  its_row = new_row s (N.sent s) set text

  abbrev pub rows_after : ℕ → Row
  rows_after = update room_made.rows room_made.used its_row

  abbrev pub counts_after : Counts
  counts_after = with_entries (with_used (with_sent N s (suc (N.sent s))) (suc room_made.used)) (N.entries + count N.carts (has set))

  its_rule : True (row_rule rows_after N.stations N.carts sent_more room_made.used)
  its_rule =
      let same = above_alike room_made.rows rows_after s room_made.used (put_alike room_made.rows room_made.used its_row) in
      let below = above_below room_made.rows N.sent s room_made.used (λ r l. ((room N T F).rules r l).1.1.0) in
      let short = may.short in
      rw (eqb_self room_made.used, eqb_self s) (may.station, (omega arith, (omega arith, (may.carts, omega arith))))

  rules_after : (r : ℕ) → r < suc room_made.used → True (row_rule rows_after N.stations N.carts sent_more r)
  rules_after r l =
      by_eq r room_made.used
      (λ e. rw e its_rule)
      (λ e. rule_alike room_made.rows rows_after N.stations N.carts sent_more r (λ q lq. put_alike room_made.rows room_made.used its_row q (omega arith))
      (rule_higher room_made.rows N.stations N.carts N.sent sent_more r higher ((room N T F).rules r (omega arith))))

  pub row_behind : 0 < set → room_made.used < most_rows
  row_behind some =
      let one = some_member N.carts set may.carts some in
      let more = count_at N.carts (has set) one.0 one.1 one.2 in
      let few = may.entries in
      room_behind N T F (omega arith)

  words_after : 0 < set → test (layout_rule counts_after rows_after) ≡ true
  words_after some =
      words_right_lem counts_after rows_after (row_behind some) rules_after
      (sym (members_put room_made.rows room_made.used its_row N.carts ∙ ap (λ (x : ℕ). x + count N.carts (has set)) (room N T F).counted))

  pub sent_to_some : 0 < set → plain_from lengths counts_after rows_after ≡ appended (plain_from lengths N T) s set text
  unfolding appended
  sent_to_some some = λ i. record {
    lengths_right = lengths;
    words_right = (words_after some ∙ sym words_before) i;
    started = eqb N.mark 1;
    stations = N.stations;
    carts = N.carts;
    count = sent_more;
    list = λ u c. (listed_put room_made.rows room_made.used its_row u c ∙ ap (λ (l : List Item). cond (eqb u s && has set c) (l ++ (item (N.sent s) text ∷ [])) l) ((room N T F).lists u c)) i;
  }

-- IN THE LENT PARTS

-- what numbers a send that is not refused has found
pub record Ground (L : LentLists) (s size : ℕ) : Type 0 where
  pub counts : length L.counts ≡ count_words
  pub sends : length L.sends ≡ most_rows * width
  pub octets : length L.octets ≡ most_rows * text_room
  pub station : s < 16
  pub number : (counts_in L.counts).sent s ≤ limits.last
  pub used : (counts_in L.counts).used ≤ most_rows
  pub entries : (counts_in L.counts).entries ≤ most_entries limits
  pub short : size ≤ text_room

module _ (L : LentLists) (passes : plain_passes limits (lists_in L) ≡ true) (s named : ℕ) (text : List ℕ) (checks : send_checks (counts_in L.counts) s named (length text) ≡ 0) where
  abbrev pub counts_found : Counts
  counts_found = counts_in L.counts

  abbrev pub rows_found : ℕ → Row
  rows_found = rows_in L.sends L.octets

  granted : MaySend counts_found s named (length text)
  granted = may_send counts_found s named (length text) checks

  station_low : s < 16
  station_low = let a = granted.station in let b = (facts_of L passes).stations in omega arith

  -- the numbers that the code asks for
  pub ground : Ground L s (length text)
  ground =
      let h = lengths_pass L passes in
      let f = facts_of L passes in
      record {
        counts = h.counts;
        sends = h.sends;
        octets = h.octets;
        station = station_low;
        number = granted.number;
        used = f.used;
        entries = f.few;
        short = granted.short;
      }

  -- the station's count is one more
  abbrev pub counted : List ℕ
  counted = set L.counts (5 + s) (counts_found.sent s + 1)

  long : length L.counts ≡ count_words
  long = (lengths_pass L passes).counts

  counted_long : length counted ≡ count_words
  counted_long = length-set L.counts (5 + s) (counts_found.sent s + 1) ∙ long

  counted_is : counts_in counted ≡ with_sent counts_found s (suc (counts_found.sent s))
  counted_is = put_sent L.counts long s (counts_found.sent s + 1) station_low ∙ ap (with_sent counts_found s) (add-one (counts_found.sent s))

  same_lengths : (l k o : List ℕ) → length l ≡ count_words → length k ≡ length L.sends → length o ≡ length L.octets → lent_right (lent_lists l k o) ≡ lent_right L
  same_lengths l k o el ek eo =
      let h = lengths_pass L passes in
      of_lengths (lent_lists l k o) (record { counts = el; sends = ek ∙ h.sends; octets = eo ∙ h.octets }) ∙ sym (of_lengths L h)

  pub none_in : named ≡ 0 → lists_in (lent_lists counted L.sends L.octets) ≡ appended (lists_in L) s named text
  none_in none =
      (λ i. plain_from (same_lengths counted L.sends L.octets counted_long refl refl i) (counted_is i) rows_found)
      ∙ sent_to_none (lent_right L) counts_found rows_found (facts_of L passes) s named text granted none

  module _ (some : named ≡ 0 → ⊥) (R : ℕ → Row) (row : ℕ) (made : used_rows R row ≡ with_room rows_found counts_found.used) where
    pub room_in_lem : row < most_rows
    room_in_lem =
        let z = row_behind (lent_right L) counts_found rows_found (facts_of L passes) s named text granted (omega arith) in
        let e = ap (λ (U : Used). U.used) made in
        omega arith

    -- the row behind the others is used
    abbrev pub used_more : List ℕ
    used_more = set counted 3 (row + 1)

    more_long : length used_more ≡ count_words
    more_long = length-set counted 3 (row + 1) ∙ counted_long

    used_is : counts_in used_more ≡ with_used (with_sent counts_found s (suc (counts_found.sent s))) (row + 1)
    used_is = put_used counted counted_long (row + 1) ∙ ap (λ (N : Counts). with_used N (row + 1)) counted_is

    module _ (x : ℕ) (many : x ≡ size 64 named) where
      entered : counts_found.entries + x ≡ counts_found.entries + count counts_found.carts (has named)
      entered = ap (λ (a : ℕ). counts_found.entries + a) (named_count counts_found.carts named x (facts_of L passes).carts granted.carts many)

      used_row : row + 1 ≡ suc (with_room rows_found counts_found.used).used
      used_row = add-one row ∙ ap (λ (U : Used). suc U.used) made

      counts_are : counts_in (set used_more 4 (counts_found.entries + x)) ≡ counts_after (lent_right L) counts_found rows_found (facts_of L passes) s named text granted
      counts_are =
          put_entries used_more more_long (counts_found.entries + x)
          ∙ ap₂ with_entries (used_is ∙ ap (with_used (with_sent counts_found s (suc (counts_found.sent s)))) used_row) entered

      pub some_in : (l o : List ℕ) → length l ≡ length L.sends → length o ≡ length L.octets → rows_in l o ≡ update R row (new_row s (counts_found.sent s) named text)
          → lists_in (lent_lists (set used_more 4 (counts_found.entries + x)) l o) ≡ appended (lists_in L) s named text
      some_in l o el eo er =
          (λ i. plain_from (same_lengths (set used_more 4 (counts_found.entries + x)) l o (length-set used_more 4 (counts_found.entries + x) ∙ more_long) el eo i) (counts_are i) ((er ∙ ap (λ (U : Used). update U.rows U.used (new_row s (counts_found.sent s) named text)) made) i))
          ∙ sent_to_some (lent_right L) counts_found rows_found (facts_of L passes) s named text granted (omega arith)

-- a send that is not refused
pub send_met : (L L' : LentLists) (s named : ℕ) (text : List ℕ) (n : MessageNumber) → ListsReady L → send_checks (counts_in L.counts) s named (length text) ≡ 0 → n.0 ≡ (counts_in L.counts).sent s
    → lists_in L' ≡ appended (lists_in L) s named text → ListsMet L L' (plain_send s named text) (Ok (Sent n))
send_met L L' s named text n R checks e lists =
    accepted_met L L' (plain_send s named text) (Sent n) (send_checks_lem L s named text R ∙ checks) (λ i. Ok (Sent (record { 0 = e i }))) lists

-- lists for which a send is not refused pass
pub send_passes : (L : LentLists) (s named size : ℕ) → ListsReady L → send_checks (counts_in L.counts) s named size ≡ 0 → plain_passes limits (lists_in L) ≡ true
send_passes L s named size R checks = R.passes (eq-eqb (counts_in L.counts).mark 1 (may_send (counts_in L.counts) s named size checks).begun)
