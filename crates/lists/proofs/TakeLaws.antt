-- A TAKE OVER ROWS: it finds the head of its list, and the lists afterwards are the written ones.
use mathlib.Core.Path.{◌≡◌, sym, ap, ◌∙◌}
use mathlib.Core.Bool.{Bool, true, false, ◌&&◌}
use mathlib.Core.List.{List, [], ◌∷◌, ◌++◌}
use mathlib.Core.Option.{Option, some}
use Prim.Native.Nat.{ℕ, ◌+◌, ◌-◌, ◌≤◌, ◌<◌}
use native.Mathlib.Omega.{arith}
use lib.Dec.{eqb}
use lib.ListN.{length, drop, set, length-set}
use borrow.Author.Tests.{eq-eqb, ne_eqb}
use Rattle.std.proofs.lemmas.Option.{none-some}
use Rattle.protocol.specs.Folds.{update, update2, by_option, is_empty}
use Rattle.protocol.specs.Floor.{limits}
use Rattle.protocol.specs.Claims.{test}
use Rattle.protocol.specs.TwoLists.{item}
use Rattle.protocol.specs.Refusals.{check}
use Rattle.protocol.specs.PlainLists.{PlainAnswer, plain_take, plain_took, plain_passes, plain_refusal, plain_answer, plain_report, beheaded, head_of}
use Rattle.protocol.proofs.Tests.{by_test, by_option_lem, both_equal, not_both_equal, first_some, first_none, first_least}
use Rattle.protocol.proofs.PlainLaws.{refused_call_alone}
use Rattle.ids.specs.declared.MessageNumber.{MessageNumber}
use Rattle.std.specs.Prelude.{None, Some, Ok, Err}
use Rattle.refusals.specs.declared.Refusal.{Refusal}
use Rattle.refusals.specs.declared.Refusal.TheVariants.{EmptyList}
use Rattle.refusals.specs.Numbers.{number_of}
use Rattle.lists.specs.declared.Reply.TheVariants.{Took}
use Rattle.list_rows.specs.Rows.{Row, text_room, most_rows, waits, listed, first_waiting, members, taken_by, rows_in}
use Rattle.lists.specs.View.{LentLists, lent_lists, Counts, counts_in, lent_right, layout_rule, plain_from, lists_in}
use Rattle.lists.specs.Calls.{reply_of, with_text, ListsHanded, ListsReady, take_checks}
use Rattle.list_rows.proofs.PutLaws.{text_length_lem}
use Rattle.list_rows.proofs.ListLaws.{listed_none, after_take, taken_list, taken_others, taken_members, taken_rule}
use Rattle.lists.proofs.CountLaws.{with_entries, put_entries}
use Rattle.lists.proofs.Facts.{Facts, facts_of, lengths_pass, of_lengths, words_right_lem}
use Rattle.lists.proofs.Checks.{MayTake, may_take, take_checks_lem, number_some, refused_met, accepted_met}

-- THE HEAD

-- the head's row was found, or there is none
pub record Head (T : ℕ → Row) (n s c m : ℕ) : Type 0 where
  pub inside : m < n
  pub waiting : waits s c (T m) ≡ true
  pub before : (r : ℕ) → r < m → waits s c (T r) ≡ false

module _ (T : ℕ → Row) (n s c : ℕ) where
  pub head_none : None ≡ by_option (first_waiting T n s c) None Some → listed T n s c ≡ []
  head_none found =
      by_option_lem (first_waiting T n s c)
      (λ q. listed_none T n s c (first_none n (λ r. waits s c (T r)) q))
      (λ r q. absurd (none-some r (found ∙ ap (λ (o : Option ℕ). by_option o None Some) q)))

  pub head_some : (m : ℕ) → Some m ≡ by_option (first_waiting T n s c) None Some → Head T n s c m
  head_some m found =
      by_option_lem (first_waiting T n s c)
      (λ q. absurd (none-some m (sym (found ∙ ap (λ (o : Option ℕ). by_option o None Some) q))))
      (λ r q. let same : Some m ≡ Some r = found ∙ ap (λ (o : Option ℕ). by_option o None Some) q in
      let at : m ≡ r = cc same in
      let here = q ∙ ap some (sym at) in
      let is = first_some n (λ r. waits s c (T r)) m here in
      record { inside = is.0; waiting = is.1; before = first_least n (λ r. waits s c (T r)) m here })

-- THE COUNTS AND ROWS AFTERWARDS

module _ (lengths : Bool) (N : Counts) (T : ℕ → Row) (F : Facts N T) (s c m : ℕ) (cart : c < N.carts) (H : Head T N.used s c m) where
  abbrev rows_then : ℕ → Row
  rows_then = after_take T s c m H.waiting

  whole_list : listed T N.used s c ≡ item (T m).number (T m).text ∷ listed rows_then N.used s c
  whole_list = taken_list T s c m H.waiting N.used H.inside H.before

  one_more : N.entries ≡ 1 + members rows_then N.carts N.used
  one_more = F.counted ∙ taken_members T s c m H.waiting N.carts N.used cart H.inside

  -- there is an entry to take
  pub some_entry : 0 < N.entries
  some_entry = let z = one_more in omega arith

  -- it is not empty
  pub not_empty : is_empty (listed T N.used s c) ≡ false
  not_empty = ap is_empty whole_list

  -- its head
  pub head_is : head_of (listed T N.used s c) ≡ plain_took (T m).number (T m).text
  head_is = ap head_of whole_list

  words_then : test (layout_rule (with_entries N (N.entries - 1)) rows_then) ≡ true
  words_then =
      words_right_lem (with_entries N (N.entries - 1)) rows_then F.used (λ r l. taken_rule T s c m H.waiting N.stations N.carts N.sent r (F.rows r l))
      (let z = one_more in omega arith)

  lists_then : (u d : ℕ) → listed rows_then N.used u d ≡ update2 (listed T N.used) s c (drop 1 (listed T N.used s c)) u d
  lists_then u d =
      by_test (eqb u s && eqb d c)
      (λ e. let b = both_equal u s d c e in rw e (rw (b.0, b.1) (sym (ap (drop 1) whole_list))))
      (λ e. rw e (taken_others T s c m H.waiting N.used u d (not_both_equal u s d c e)))

  pub taken : plain_from lengths (with_entries N (N.entries - 1)) rows_then ≡ beheaded (plain_from lengths N T) s c
  unfolding beheaded
  taken = λ i. record {
    lengths_right = lengths;
    words_right = (words_then ∙ sym (words_right_lem N T F.used F.rows F.counted)) i;
    started = eqb N.mark 1;
    stations = N.stations;
    carts = N.carts;
    count = N.sent;
    list = λ u d. lists_then u d i;
  }

-- IN THE LENT PARTS

-- a refused take leaves the buffer, too
pub refused_handed : (L : LentLists) (s c : ℕ) (refusal : Refusal) (buffer : List ℕ) → plain_refusal limits (lists_in L) (plain_take s c) ≡ number_of refusal → ListsHanded L L s c (Err refusal) buffer buffer
refused_handed L s c refusal buffer e =
    record {
      met = refused_met L (plain_take s c) refusal e;
      octets = ap (λ (a : PlainAnswer). with_text a buffer) (sym (refused_call_alone limits (lists_in L) (plain_take s c) (rw e (number_some refusal))).1);
    }

module _ (L : LentLists) (R : ListsReady L) (s c : ℕ) where
  -- 5, 8 or 9
  pub take_refused : (refusal : Refusal) (buffer : List ℕ) → number_of refusal ≡ take_checks (counts_in L.counts) s c → ListsHanded L L s c (Err refusal) buffer buffer
  take_refused refusal buffer e =
      let some = number_some refusal in
      refused_handed L s c refusal buffer (take_checks_lem L s c R ∙ rw (← e, ne_eqb (number_of refusal) 0 (λ z. omega arith)))

  module _ (checks : take_checks (counts_in L.counts) s c ≡ 0) where
    pub take_granted : MayTake (counts_in L.counts) s c
    take_granted = may_take (counts_in L.counts) s c checks

    pub take_passes : plain_passes limits (lists_in L) ≡ true
    take_passes = R.passes (eq-eqb (counts_in L.counts).mark 1 take_granted.begun)

    refusal_is : plain_refusal limits (lists_in L) (plain_take s c) ≡ check 31 (is_empty ((lists_in L).list s c)) 0
    refusal_is = take_checks_lem L s c R ∙ rw checks

    abbrev rows_here : ℕ → Row
    rows_here = rows_in L.sends L.octets

    -- 31
    pub take_empty : (buffer : List ℕ) → None ≡ by_option (first_waiting rows_here (counts_in L.counts).used s c) None Some → ListsHanded L L s c (Err EmptyList) buffer buffer
    take_empty buffer found = refused_handed L s c EmptyList buffer (refusal_is ∙ rw (head_none rows_here (counts_in L.counts).used s c found))

    module _ (m : ℕ) (found : Some m ≡ by_option (first_waiting rows_here (counts_in L.counts).used s c) None Some) where
      pub its_head : Head rows_here (counts_in L.counts).used s c m
      its_head = head_some rows_here (counts_in L.counts).used s c m found

      pub entry_there : 0 < (counts_in L.counts).entries
      entry_there = some_entry (lent_right L) (counts_in L.counts) rows_here (facts_of L take_passes) s c m take_granted.cart its_head

      pub row_there : m < most_rows
      row_there = let a = its_head.inside in let b = (facts_of L take_passes).used in omega arith

      pub text_there : (rows_here m).size ≤ text_room
      text_there = ((facts_of L take_passes).rows m its_head.inside).1.1.1.1

      accepted_take : plain_refusal limits (lists_in L) (plain_take s c) ≡ 0
      accepted_take = refusal_is ∙ rw (not_empty (lent_right L) (counts_in L.counts) rows_here (facts_of L take_passes) s c m take_granted.cart its_head)

      its_report : plain_report limits (lists_in L) (plain_take s c) ≡ plain_took (rows_here m).number (rows_here m).text
      its_report = head_is (lent_right L) (counts_in L.counts) rows_here (facts_of L take_passes) s c m take_granted.cart its_head

      its_answer : plain_answer limits (lists_in L) (plain_take s c) ≡ plain_took (rows_here m).number (rows_here m).text
      unfolding plain_answer
      its_answer = rw accepted_take its_report

      long_text : length (rows_here m).text ≡ (rows_here m).size
      long_text =
          let there = row_there in
          text_length_lem L.sends L.octets m (let z = (lengths_pass L take_passes).octets in omega arith) text_there

      module _ (l k buffer buffer' : List ℕ) (n : MessageNumber) (size : ℕ) (el : l ≡ set L.counts 4 ((counts_in L.counts).entries - 1)) (ek : length k ≡ length L.sends)
          (er : rows_in k L.octets ≡ update rows_here m (taken_by (rows_here m) c)) where
        counts_then : counts_in l ≡ with_entries (counts_in L.counts) ((counts_in L.counts).entries - 1)
        counts_then = ap counts_in el ∙ put_entries L.counts (lengths_pass L take_passes).counts ((counts_in L.counts).entries - 1)

        lengths_then : lent_right (lent_lists l k L.octets) ≡ lent_right L
        lengths_then =
            let h = lengths_pass L take_passes in
            of_lengths (lent_lists l k L.octets) (record { counts = ap length el ∙ length-set L.counts 4 ((counts_in L.counts).entries - 1) ∙ h.counts; sends = ek ∙ h.sends; octets = h.octets }) ∙ sym (of_lengths L h)

        lists_are : lists_in (lent_lists l k L.octets) ≡ beheaded (lists_in L) s c
        lists_are =
            (λ i. plain_from (lengths_then i) (counts_then i) (er i))
            ∙ taken (lent_right L) (counts_in L.counts) rows_here (facts_of L take_passes) s c m take_granted.cart its_head

        pub take_met : n.0 ≡ (rows_here m).number → size ≡ (rows_here m).size → buffer' ≡ (rows_here m).text ++ drop (rows_here m).size buffer
            → ListsHanded L (lent_lists l k L.octets) s c (Ok (Took n size)) buffer buffer'
        take_met en es eb =
            record {
              met = accepted_met L (lent_lists l k L.octets) (plain_take s c) (Took n size) accepted_take ((λ i. Ok (Took (record { 0 = en i }) ((es ∙ sym long_text) i))) ∙ ap reply_of (sym its_report)) lists_are;
              octets = eb ∙ ap (λ (x : ℕ). (rows_here m).text ++ drop x buffer) (sym long_text) ∙ ap (λ (a : PlainAnswer). with_text a buffer) (sym its_answer);
            }
