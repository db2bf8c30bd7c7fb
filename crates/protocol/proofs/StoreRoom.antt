-- A STORE WITH ROOM FOR ALL: where it takes as many texts as may be held, each as long as a text may be, no send is 27; with so many held, one is 14 first.
use mathlib.Core.Path.{◌≡◌, refl, ap}
use mathlib.Core.Bool.{Bool, true, false, cond, not, ◌||◌}
use mathlib.Core.Option.{Option}
use mathlib.Core.List.{List}
use Prim.Native.Nat.{ℕ, ◌+◌, ◌*◌, ◌≤◌, ◌<◌}
use native.Mathlib.Omega.{arith}
use lib.Dec.{eqb, ltb, leb}
use lib.ListN.{length}
use borrow.Author.Tests.{ne_eqb, le-ltb, lt-ltb, not-false}
use Rattle.protocol.specs.Folds.{is_none, is_empty}
use Rattle.protocol.specs.Floor.{Limits, Floor, most_text, is_at, entered, moving}
use Rattle.protocol.specs.Events.{Event, start, enter, send, wire, radio, move, flag, group, send_group, send_long, retire}
use Rattle.protocol.specs.Store.{not_long, stored_of, store_used}
use Rattle.protocol.specs.Wired.{free_room}
use Rattle.protocol.specs.Form.{passes_form}
use Rattle.protocol.specs.Refusals.{check, refusal, refusal_if, wrong_size, no_station, no_cart, strangers, not_entered, no_group, undefined, head_lacks, buffer_short, store_full, is_named, first_of_send, number_and_room, last_of_send}
use Rattle.protocol.proofs.Tests.{by_test, by_lt, by_option_lem, clash, eqb_self, first_some, or_right}
use Rattle.protocol.proofs.Counting.{sum_bump, sum_le}
use Rattle.protocol.proofs.FormTest.{clauses_of}

-- a check with another number, and what follows it where it does not apply
past : (r : ℕ) (b : Bool) (rest : ℕ) → (r ≡ 27 → ⊥) → (b ≡ false → rest ≡ 27 → ⊥) → check r b rest ≡ 27 → ⊥
past r true rest other behind = other
past r false rest other behind = behind refl

module _ (M : Limits) (roomy : M.held * most_text M ≤ M.store) (F : Floor) where
  -- the octets that room m takes of the store
  abbrev taken : ℕ → ℕ
  taken m = cond (eqb (F.waiting m) 0) 0 (stored_of M (F.text m))

  taken_few : passes_form M F ≡ true → (m : ℕ) → m < M.held → taken m ≤ most_text M
  taken_few h m l =
      let z : length (F.text m) ≤ most_text M = ((clauses_of M F h).room m l).1.1.1 in
      by_test (eqb (F.waiting m) 0)
      (λ e. rw e (omega arith))
      (λ e. by_test (ltb M.text (length (F.text m))) (λ q. rw (e, q) z) (λ q. rw (e, q) (omega arith)))

  -- where a room is free, there are octets for one text more
  one_more : passes_form M F ≡ true → is_none (free_room M F) ≡ false → most_text M + store_used M F.waiting F.text ≤ M.store
  unfolding free_room
  one_more h there =
      by_option_lem (free_room M F)
      (λ q. clash (is_none (free_room M F)) (ap (λ (o : Option ℕ). is_none o) q) there)
      (λ m q.
      let y = first_some M.held (λ k. eqb (F.waiting k) 0) m q in
      let filled : ℕ → ℕ = λ k. cond (eqb k m) (most_text M) (taken k) in
      let all = sum_bump M.held filled taken m (most_text M) y.0 (λ k l ne. rw (ne_eqb k m ne) refl) (rw (eqb_self m, y.1) (omega arith)) in
      let most = sum_le M.held (most_text M) filled (λ k l. by_test (eqb k m) (λ e. rw e (omega arith)) (λ e. rw e (taken_few h k l))) in
      omega (arith, all, most, roomy))

  -- the check itself
  not_full : (text : List ℕ) → not_long M (length text) ≡ false → passes_form M F ≡ true → is_none (free_room M F) ≡ false → check 27 (store_full M F text) 0 ≡ 27 → ⊥
  not_full text long h there e =
      let z = one_more h there in
      let short : length text ≤ most_text M = by_lt M.long (length text)
      (λ l. clash (not_long M (length text)) (or_right (leb (length text) M.text) (ltb M.long (length text)) (lt-ltb M.long (length text) l)) long)
      (λ l. omega arith) in
      let x = rw (le-ltb M.store (store_used M F.waiting F.text + length text) (omega arith)) at e in
      omega arith

  -- the first checks of a send, and those of its number and room
  past_first : (broken : Bool) (s set rest : ℕ) → (broken ≡ false → rest ≡ 27 → ⊥) → first_of_send M F broken s set rest ≡ 27 → ⊥
  past_first broken s set rest behind =
      past 5 broken _ (λ z. omega arith) (λ b. past 8 (no_station F s) _ (λ z. omega arith) (λ _. past 9 (strangers F set) _ (λ z. omega arith)
      (λ _. past 11 (eqb set 0) _ (λ z. omega arith) (λ _. past 12 (not_entered F set) rest (λ z. omega arith) (λ _. behind b)))))

  past_room : (s rest : ℕ) → (is_none (free_room M F) ≡ false → rest ≡ 27 → ⊥) → number_and_room M F s rest ≡ 27 → ⊥
  past_room s rest behind =
      past 13 (ltb M.last (F.sent s)) _ (λ z. omega arith) (λ _. past 14 (is_none (free_room M F)) rest (λ z. omega arith) behind)

  past_last : (s : ℕ) (text : List ℕ) → last_of_send M F s text ≡ 27 → ⊥
  past_last s text = past 24 (is_empty text) _ (λ z. omega arith) (λ _. past_room s 0 (λ _ z. omega arith))

  -- a long send
  long_never_27 : (s set : ℕ) (text : List ℕ) → refusal M F (send_long s set text) ≡ 27 → ⊥
  unfolding refusal refusal_if
  long_never_27 s set text =
      past 4 (not_long M (length text)) _ (λ z. omega arith)
      (λ long. past_first (not (passes_form M F)) s set _ (λ passes. past_room s _ (not_full text long (not-false (passes_form M F) passes))))

  -- every event: only a long send has that check, and a store with room for all is never full
  pub never_27 : (e : Event) → refusal M F e ≡ 27 → ⊥
  unfolding refusal refusal_if
  never_27 (start n k) =
      past 5 (not F.lengths_right) _ (λ z. omega arith) (λ _. past 6 F.started _ (λ z. omega arith) (λ _. past 7 (wrong_size M n k) 0 (λ z. omega arith) (λ _ z. omega arith)))
  never_27 (enter t c) =
      past 5 (not (passes_form M F)) _ (λ z. omega arith) (λ _. past 8 (no_station F t) _ (λ z. omega arith) (λ _. past 9 (no_cart F c) _ (λ z. omega arith)
      (λ _. past 10 (entered (F.place c)) 0 (λ z. omega arith) (λ _ z. omega arith))))
  never_27 (send s set text) =
      past 4 (ltb M.text (length text)) _ (λ z. omega arith) (λ _. past_first (not (passes_form M F)) s set (last_of_send M F s text) (λ _. past_last s text))
  never_27 (wire i j) =
      past 5 (not (passes_form M F)) _ (λ z. omega arith) (λ _. past 8 (no_station F i || no_station F j) _ (λ z. omega arith)
      (λ _. past 15 (is_empty (F.lines i j)) 0 (λ z. omega arith) (λ _ z. omega arith)))
  never_27 (radio t c buffer) =
      past 5 (not (passes_form M F)) _ (λ z. omega arith) (λ _. past 8 (no_station F t) _ (λ z. omega arith) (λ _. past 9 (no_cart F c) _ (λ z. omega arith)
      (λ _. past 16 (not (is_at (F.place c) t)) _ (λ z. omega arith) (λ _. past 25 (not (F.steady c)) _ (λ z. omega arith)
      (λ _. past 17 (head_lacks M F t c) _ (λ z. omega arith) (λ _. past 21 (buffer_short M F t buffer) 0 (λ z. omega arith) (λ _ z. omega arith)))))))
  never_27 (move c to) =
      past 5 (not (passes_form M F)) _ (λ z. omega arith) (λ _. past 8 (no_station F to) _ (λ z. omega arith) (λ _. past 9 (no_cart F c) _ (λ z. omega arith)
      (λ _. past 18 (not (entered (F.place c))) _ (λ z. omega arith) (λ _. past 19 (moving (F.place c)) _ (λ z. omega arith)
      (λ _. past 20 (is_at (F.place c) to) 0 (λ z. omega arith) (λ _ z. omega arith))))))
  never_27 (flag c b) =
      past 5 (not (passes_form M F)) _ (λ z. omega arith) (λ _. past 9 (no_cart F c) _ (λ z. omega arith)
      (λ _. past 18 (not (entered (F.place c))) 0 (λ z. omega arith) (λ _ z. omega arith)))
  never_27 (group g members) =
      past 5 (not (passes_form M F)) _ (λ z. omega arith) (λ _. past 9 (strangers F members) _ (λ z. omega arith) (λ _. past 12 (not_entered F members) _ (λ z. omega arith)
      (λ _. past 26 (no_group g) 0 (λ z. omega arith) (λ _ z. omega arith))))
  never_27 (send_group s g text) =
      past 4 (ltb M.text (length text)) _ (λ z. omega arith) (λ _. past 5 (not (passes_form M F)) _ (λ z. omega arith) (λ _. past 8 (no_station F s) _ (λ z. omega arith)
      (λ _. past 26 (undefined F g) _ (λ z. omega arith) (λ _. past_last s text))))
  never_27 (send_long s set text) = long_never_27 s set text
  never_27 (retire c) =
      past 5 (not (passes_form M F)) _ (λ z. omega arith) (λ _. past 9 (no_cart F c) _ (λ z. omega arith)
      (λ _. past 18 (not (entered (F.place c))) _ (λ z. omega arith) (λ _. past 19 (moving (F.place c)) _ (λ z. omega arith)
      (λ _. past 29 (is_named M F c) 0 (λ z. omega arith) (λ _ z. omega arith)))))
