-- What the dispatcher takes next: the first nonempty line, or with all lines empty the lowest station and cart, or nothing where neither exists.
use mathlib.Core.Path.{refl, ◌≡◌}
use mathlib.Core.Bool.{Bool, false, not, true}
use mathlib.Core.Option.{Option, none, some}
use mathlib.Core.List.{List, [], ◌∷◌}
use Prim.Native.Nat.{◌<◌, ℕ, ◌≤◌}
use native.Mathlib.Omega.{arith}
use lib.ListN.{length}
use borrow.Author.Tests.{eq-eqb, eqb-true, le-ltb, lt-leb, not-true}
use Rattle.protocol.specs.Folds.{by_option, is_empty, is_none}
use Rattle.protocol.specs.CartSets.{has}
use Rattle.protocol.specs.Floor.{Floor, Limits, Record, at, most_text}
use Rattle.protocol.specs.Events.{Event, enter, flag, group, move, radio, retire, send, send_group, send_long, start, wire}
use Rattle.protocol.specs.Wireless.{queue_head}
use Rattle.protocol.specs.Form.{passes_form}
use Rattle.protocol.specs.Refusals.{refusal, refusal_if}
use Rattle.protocol.specs.Quiet.{IsWork, busy_from, busy_to, first_cart, first_station, next_event, radio_at, wire_from, would_receive}
use Rattle.protocol.proofs.Tests.{IsFirst, clash, eqb_self, first_found}
use Rattle.protocol.proofs.FloorLaws.{at_is}
use Rattle.protocol.proofs.Accepted.{may_radio, may_wire}
use Rattle.protocol.proofs.Sized.{Sized}
use Rattle.protocol.proofs.QueueOrder.{head_first}

pub empty_is : (l : List Record) → not (is_empty l) ≡ false → l ≡ []
empty_is [] e = refl
empty_is (r ∷ l) e = clash true refl e

-- by cases on what was found
on_found : (P : Option ℕ → Type 0) (n : ℕ) (f : ℕ → Bool) (o : Option ℕ) → IsFirst n f o
    → (((k : ℕ) → k < n → f k ≡ false) → P none) → ((m : ℕ) → m < n → f m ≡ true → ((k : ℕ) → k < m → f k ≡ false) → P (some m)) → P o
on_found P n f none h p q = p h
on_found P n f (some m) h p q = q m h.0 h.1.0 h.1.1

-- the line from i to j is not empty, and each line before it is
pub record FirstLine (F : Floor) (i j : ℕ) : Type 0 where
  pub from : i < F.stations
  pub to : j < F.stations
  pub busy : is_empty (F.lines i j) ≡ false
  pub from_lower : (k h : ℕ) → k < i → h < F.stations → F.lines k h ≡ []
  pub to_lower : (h : ℕ) → h < j → F.lines i h ≡ []

-- no record is on a line of the floor
abbrev pub NoRecord : Floor → Type 0
NoRecord F = (i j : ℕ) → i < F.stations → j < F.stations → F.lines i j ≡ []

-- all lines are empty, a radio step of cart c at t would be accepted, and none at a lower station, nor there of a lower cart
pub record LowestCart (M : Limits) (F : Floor) (t c buffer : ℕ) : Type 0 where
  pub no_record : NoRecord F
  pub longest : buffer ≡ most_text M
  pub receives : would_receive M F t c ≡ true
  pub at_lower : (u d : ℕ) → u < t → d < F.carts → would_receive M F u d ≡ false
  pub lower : (d : ℕ) → d < c → would_receive M F t d ≡ false

-- neither exists
pub record Quiet (M : Limits) (F : Floor) : Type 0 where
  pub no_record : NoRecord F
  pub no_receipt : (t c : ℕ) → t < F.stations → c < F.carts → would_receive M F t c ≡ false

abbrev pub Next : Limits → Floor → Option Event → Type 0
Next M F none = Quiet M F
Next M F (some (start n k)) = ⊥
Next M F (some (enter t c)) = ⊥
Next M F (some (send s set text)) = ⊥
Next M F (some (wire i j)) = FirstLine F i j
Next M F (some (radio t c buffer)) = LowestCart M F t c buffer
Next M F (some (move c to)) = ⊥
Next M F (some (flag c b)) = ⊥
Next M F (some (group g set)) = ⊥
Next M F (some (send_group s g text)) = ⊥
Next M F (some (send_long s set text)) = ⊥
Next M F (some (retire c)) = ⊥

module _ (F : Floor) where
  to_is : (i : ℕ) → IsFirst F.stations (λ j. not (is_empty (F.lines i j))) (busy_to F i)
  unfolding busy_to
  to_is i = first_found F.stations (λ j. not (is_empty (F.lines i j)))

  from_is : IsFirst F.stations (λ i. not (is_none (busy_to F i))) (busy_from F)
  unfolding busy_from
  from_is = first_found F.stations (λ i. not (is_none (busy_to F i)))

  -- a station from which no line is busy
  none_from : (i : ℕ) → not (is_none (busy_to F i)) ≡ false → (j : ℕ) → j < F.stations → F.lines i j ≡ []
  none_from i =
      on_found (λ o. not (is_none o) ≡ false → (j : ℕ) → j < F.stations → F.lines i j ≡ [])
      F.stations (λ j. not (is_empty (F.lines i j))) (busy_to F i) (to_is i)
      (λ no e j lj. empty_is (F.lines i j) (no j lj))
      (λ j l t b e. clash true refl e)

module _ (M : Limits) (F : Floor) where
  cart_is : (t : ℕ) → IsFirst F.carts (would_receive M F t) (first_cart M F t)
  unfolding first_cart
  cart_is t = first_found F.carts (would_receive M F t)

  station_is : IsFirst F.stations (λ t. not (is_none (first_cart M F t))) (first_station M F)
  unfolding first_station
  station_is = first_found F.stations (λ t. not (is_none (first_cart M F t)))

  -- a station at which no cart would receive
  none_at : (t : ℕ) → not (is_none (first_cart M F t)) ≡ false → (c : ℕ) → c < F.carts → would_receive M F t c ≡ false
  none_at t =
      on_found (λ o. not (is_none o) ≡ false → (c : ℕ) → c < F.carts → would_receive M F t c ≡ false)
      F.carts (would_receive M F t) (first_cart M F t) (cart_is t)
      (λ no e. no)
      (λ c l t b e. clash true refl e)

  pub next_is_lem : Next M F (next_event M F)
  unfolding next_event
  next_is_lem =
      on_found (λ o. Next M F (by_option o (by_option (first_station M F) none (radio_at M F)) (wire_from F)))
      F.stations (λ i. not (is_none (busy_to F i))) (busy_from F) (from_is F)
      (λ no_line. let no_record : NoRecord F = λ i j li. none_from F i (no_line i li) j in
      on_found (λ o. Next M F (by_option o none (radio_at M F))) F.stations (λ t. not (is_none (first_cart M F t))) (first_station M F) station_is
      (λ no_cart_lem. record { no_record = no_record; no_receipt = λ t c lt. none_at t (no_cart_lem t lt) c })
      (λ t lt here lower.
      on_found (λ o. not (is_none o) ≡ true → Next M F (by_option o none (λ c. some (radio t c (most_text M)))))
      F.carts (would_receive M F t) (first_cart M F t) (cart_is t)
      (λ no e. clash false e refl)
      (λ c lc receives lower_cart e. record {
        no_record = no_record;
        longest = refl;
        receives = receives;
        at_lower = λ u d lu. none_at u (lower u lu) d;
        lower = lower_cart;
      })
      here))
      (λ i li here lower.
      on_found (λ o. not (is_none o) ≡ true → Next M F (by_option o none (λ j. some (wire i j))))
      F.stations (λ j. not (is_empty (F.lines i j))) (busy_to F i) (to_is F i)
      (λ no e. clash false e refl)
      (λ j lj busy lower_to e. record {
        from = li;
        to = lj;
        busy = not-true (is_empty (F.lines i j)) busy;
        from_lower = λ k h lk. none_from F k (lower k lk) h;
        to_lower = λ h lh. empty_is (F.lines i h) (lower_to h lh);
      })
      here)

-- WHAT IT TAKES IS ACCEPTED

wire_accepted : (M : Limits) (F : Floor) (i j : ℕ) → passes_form M F ≡ true → i < F.stations → j < F.stations → is_empty (F.lines i j) ≡ false
    → refusal M F (wire i j) ≡ 0
unfolding refusal refusal_if
wire_accepted M F i j h li lj e = rw (h, lt-leb F.stations i li, lt-leb F.stations j lj, e)

taken_accepted : (M : Limits) (F : Floor) (e : Event) → passes_form M F ≡ true → Next M F (some e) → (refusal M F e ≡ 0) × IsWork e
taken_accepted M F (start n k) h x = absurd x
taken_accepted M F (enter t c) h x = absurd x
taken_accepted M F (send s set text) h x = absurd x
taken_accepted M F (wire i j) h x = (wire_accepted M F i j h x.from x.to x.busy, tt)
taken_accepted M F (radio t c buffer) h x = (rw x.longest (eqb-true (refusal M F (radio t c (most_text M))) 0 x.receives), tt)
taken_accepted M F (move c to) h x = absurd x
taken_accepted M F (flag c b) h x = absurd x
taken_accepted M F (group g set) h x = absurd x
taken_accepted M F (send_group s g text) h x = absurd x
taken_accepted M F (send_long s set text) h x = absurd x
taken_accepted M F (retire c) h x = absurd x

pub next_accepted : (M : Limits) (F : Floor) (e : Event) → passes_form M F ≡ true → next_event M F ≡ some e → (refusal M F e ≡ 0) × IsWork e
next_accepted M F e h n = taken_accepted M F e h (let z = next_is_lem M F in rw n at z)

-- AND WHERE IT TAKES NOTHING, NO WIRE OR RADIO STEP IS

-- a radio step of a steady cart that is at its station, in the head of the queue
pub radio_accepted : (M : Limits) (F : Floor) (t c m : ℕ) → passes_form M F ≡ true → t < F.stations → c < F.carts → F.place c ≡ at t
    → queue_head M F t ≡ some m → has (F.queue m t) c ≡ true → length (F.text m) ≤ most_text M → F.steady c ≡ true
    → refusal M F (radio t c (most_text M)) ≡ 0
unfolding refusal refusal_if
radio_accepted M F t c m h lt lc p q e l s =
    rw (h, lt-leb F.stations t lt, lt-leb F.carts c lc, p, eqb_self t, s, q, e, le-ltb (most_text M) (length (F.text m)) l)

pub quiet_refuses : (M : Limits) (F : Floor) (e : Event) → Sized M F → passes_form M F ≡ true → Quiet M F → IsWork e → refusal M F e ≡ 0 → ⊥
unfolding refusal
quiet_refuses M F (start n k) S h Q w z = w
quiet_refuses M F (enter t c) S h Q w z = w
quiet_refuses M F (send s set text) S h Q w z = w
quiet_refuses M F (wire i j) S h Q w z =
    let a = may_wire M F (not (passes_form M F)) i j z in
    let none = Q.no_record i j a.2.from a.2.to in
    let some = a.2.line in
    absurd (let y : ◌≡◌ {A = ℕ} 0 1 = cc in omega arith)
quiet_refuses M F (radio t c buffer) S h Q w z =
    let a = may_radio M F (not (passes_form M F)) t c buffer z in
    let m = a.0 in
    let b = a.1 in
    let ok = radio_accepted M F t c m h b.station b.cart (at_is (F.place c) t b.is_at_lem) b.is_head b.queued
    (S.messages.text m (head_first M F t m b.is_head).0) b.is_steady_lem in
    clash (would_receive M F t c) (eq-eqb (refusal M F (radio t c (most_text M))) 0 ok) (Q.no_receipt t c b.station b.cart)
quiet_refuses M F (move c to) S h Q w z = w
quiet_refuses M F (flag c b) S h Q w z = w
quiet_refuses M F (group g set) S h Q w z = w
quiet_refuses M F (send_group s g text) S h Q w z = w
quiet_refuses M F (send_long s set text) S h Q w z = w
quiet_refuses M F (retire c) S h Q w z = w
