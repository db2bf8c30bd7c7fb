-- WHAT A RADIO STEP ASKS holds on a floor that passes the form rule: the room of the head message is there, numbers are in range, and the
-- lines have room for the ack list if it goes.
use mathlib.Core.Path.{◌≡◌, refl, sym, ap, ◌∙◌}
use mathlib.Core.Bool.{true}
use Prim.Native.Nat.{ℕ, ◌<◌, ◌≤◌}
use native.Mathlib.Omega.{arith}
use lib.ListN.{length}
use borrow.Author.Tests.{lt-leb, le-ltb}
use Rattle.protocol.specs.CartSets.{has}
use Rattle.protocol.specs.Floor.{Limits, limits_of, Floor, ack_list, put, between, local_to}
use Rattle.protocol.specs.Events.{radio}
use Rattle.protocol.specs.Wireless.{receive, all_acked, send_acks, send_acks_if_all, hand_over, on_radio}
use Rattle.protocol.specs.Form.{passes_form}
use Rattle.protocol.specs.Refusals.{refusal_if, refusal}
use Rattle.protocol.specs.Step.{accept, step}
use Rattle.protocol.proofs.Tests.{by_lt}
use Rattle.protocol.proofs.SetLaws.{has_set_of}
use Rattle.protocol.proofs.CatchUp.{one_at_once}
use Rattle.protocol.proofs.Accepted.{MayRadio}
use Rattle.protocol.proofs.Invariant.{Queued}
use Rattle.stations.specs.View.{HasStation, stations_in}
use Rattle.stations.proofs.TableLaws.{copy_beyond}
use Rattle.carts.specs.Words.{HasRow}
use Rattle.carts.specs.View.{carts_in}
use Rattle.messages.specs.View.{rooms_in}
use Rattle.lines.specs.Form.{form}
use Rattle.lines.specs.Lines.{used}
use Rattle.lines.specs.Words.{capacity}
use Rattle.view.specs.View.{Lent, floor_in}
use Rattle.view.proofs.Standing.{Standing, few_stations, few_carts, held_number, room_after, one_line_counts}
use Rattle.queue.specs.Rooms.{room_count, HasRooms}
use Rattle.queue.proofs.AckLaws.{acked_by_masks}
use Rattle.wireless.specs.Handed.{took_from, hold_none}

module _ (M : Limits) (F : Floor) (t c m : ℕ) (passes : passes_form M F ≡ true) (may : MayRadio M F t c m) where
  -- no check applies, with a buffer as long as the text
  not_refused : refusal M F (radio t c (length (F.text m))) ≡ 0
  unfolding refusal refusal_if
  not_refused =
      rw (
        passes,
        lt-leb F.stations t may.station,
        lt-leb F.carts c may.cart,
        may.is_at_lem,
        may.is_steady_lem,
        may.is_head,
        may.queued,
        le-ltb (length (F.text m)) (length (F.text m)) (omega arith),
      )
      refl

  -- so the event is the written radio step, of the message in room m
  pub radio_step : step M F (radio t c (length (F.text m))) ≡ (hand_over M F m t c).floor
  unfolding step accept on_radio
  radio_step = rw (not_refused, may.is_head) refl

-- a handed message leaves the stations as many, and the lines as they were or with the ack list
module _ (M : Limits) (F : Floor) (m t c : ℕ) where
  over_stations : (hand_over M F m t c).floor.stations ≡ (send_acks_if_all (receive F m t c) m t).stations
  unfolding hand_over
  over_stations = ap (λ (G : Floor). G.stations) (one_at_once M (send_acks_if_all (receive F m t c) m t) t c (F.initiator m))

  over_lines : (hand_over M F m t c).floor.lines ≡ (send_acks_if_all (receive F m t c) m t).lines
  unfolding hand_over
  over_lines = ap (λ (G : Floor). G.lines) (one_at_once M (send_acks_if_all (receive F m t c) m t) t c (F.initiator m))

  module _ (all : all_acked (receive F m t c) m t ≡ true) where
    sent_stations : (hand_over M F m t c).floor.stations ≡ F.stations
    unfolding receive send_acks
    sent_stations = over_stations ∙ rw all refl

    sent_lines : (hand_over M F m t c).floor.lines ≡ put (between t (F.initiator m)) (ack_list (F.number m) ((receive F m t c).acks m t)) F.lines
    unfolding receive send_acks
    sent_lines = over_lines ∙ rw all refl

module _ (L : Lent) (X : Standing L) (t c m : ℕ) (may : MayRadio (limits_of L.product) (floor_in L) t c m) where
  abbrev F : Floor
  F = floor_in L

  abbrev s : ℕ
  s = (rooms_in L.messages).initiator m

  abbrev n : ℕ
  n = (rooms_in L.messages).number m

  abbrev R : Floor
  R = receive F m t c

  is_queued_lem : Queued (limits_of L.product) F.waiting F.initiator F.number F.named F.place F.next m t c
  is_queued_lem = X.facts.queues m t c may.queued

  s_on_floor : s < F.stations
  s_on_floor = let a = X.facts.kept m is_queued_lem.held in X.facts.senders s (omega arith)

  pub radio_numbers : (m < L.product.held) × (t < 16) × (c < 64) × (s < 16) × (n < 4294967296)
  radio_numbers =
      let b = s_on_floor in
      let d = few_stations L X in
      let e = few_carts L X in
      let g = may.station in
      let h = may.cart in
      (is_queued_lem.held.slot, omega arith, omega arith, omega arith, held_number L X m is_queued_lem.held)

  -- the code's test is the written one
  all_is : hold_none (took_from (stations_in L.stations) m t c) m t ≡ all_acked R m t
  unfolding receive
  all_is =
      let r = radio_numbers in
      acked_by_masks R m t ((stations_in L.stations).local t)
      (λ d l. ap (λ (x : ℕ). has x d) (X.laid.local t (let a = may.station in let b = X.sized.counts.stations in omega arith)) ∙ has_set_of 64 (λ c. local_to ((carts_in L.carts).place c) t) d l)
      (few_carts L X) (X.sized.copies.copy m t r.0 (let a = may.station in let b = X.sized.counts.stations in omega arith))

  -- the floor that the event leaves passes again, so there is room for the ack list
  room_for_acks : all_acked R m t ≡ true → used L.lines < capacity L.lines
  room_for_acks all =
      let after = radio_step (limits_of L.product) F t c m X.passes may in
      let room =
      room_after L X (radio t c (length (F.text m))) (between t s) (ack_list n (R.acks m t))
      (ap (λ (G : Floor). G.stations) after ∙ sent_stations (limits_of L.product) F m t c all) (ap (λ (G : Floor). G.lines) after ∙ sent_lines (limits_of L.product) F m t c all) in
      let one = one_line_counts F.stations t s may.station s_on_floor in
      omega arith

  -- no room beyond the table has a copy here
  none_beyond : (q : ℕ) → L.product.held ≤ q → (stations_in L.stations).copy q t ≡ 0
  none_beyond q l =
      let a = may.station in
      let b = X.sized.counts.stations in
      by_lt q 32 (λ k. (X.laid.few t q (omega arith) k l).0) (λ k. copy_beyond L.stations q t k)

  -- "the head message of the queue is handed to the cart"
  pub radio_asks : (HasStation L.stations t × (t < 16) × (m < room_count L.messages) × (s < 16) × (n < 4294967296) × HasRooms L.messages)
      × ((HasRow L.carts c × (c < 64))
      × (((r : ℕ) → room_count L.messages ≤ r → (stations_in L.stations).copy r t ≡ 0)
      × ((form L.lines ≡ true) × (hold_none (took_from (stations_in L.stations) m t c) m t ≡ true → used L.lines < capacity L.lines))))
  radio_asks =
      let r = radio_numbers in
      let lt = r.1 in
      let lc = r.2 in
      let below = r.4 in
      let a = X.lengths.stations in
      let b = X.lengths.carts in
      let d = X.lengths.messages in
      let u = may.station in
      let v = may.cart in
      let x = X.sized.counts.stations in
      let y = X.sized.counts.carts in
      let k = L.product.held_fit in
      let z = r.0 in (
        (omega arith, lt, omega arith, r.3, below, omega arith),
        ((omega arith, lc), (λ q l. none_beyond q (omega arith), (X.laid.chains, λ e. room_for_acks (sym all_is ∙ e)))),
      )
