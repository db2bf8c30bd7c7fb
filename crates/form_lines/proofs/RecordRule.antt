-- EACH RECORD: right for the pass exactly where it is right for the form rule, says its room right, and its cart is on this way.
use mathlib.Core.Path.{refl, sym, ap, ◌∙◌, ◌≡◌}
use mathlib.Core.Bool.{Bool, true, false, ◌&&◌, not}
use mathlib.Core.Option.{some}
use mathlib.Core.List.{List, [], ◌∷◌, map}
use Prim.Native.Nat.{ℕ, ◌^◌, ◌<◌}
use native.Mathlib.Omega.{arith}
use lib.Dec.{eqb, ltb}
use borrow.Author.Tests.{eqb-true, eq-eqb, ltb-true, lt-ltb}
use Rattle.protocol.specs.CartSets.{has}
use Rattle.protocol.specs.Floor.{limits_of, Floor, Carts, Record, is_message}
use Rattle.protocol.specs.Handoff.{room_of}
use Rattle.protocol.specs.Claims.{All, True}
use Rattle.protocol.specs.Form.{record_rule}
use Rattle.protocol.proofs.Tests.{by_lt, clash, and_left, and_right, and_intro, first_only}
use Rattle.carts.specs.View.{carts_in}
use Rattle.messages.specs.View.{Rooms, rooms_in}
use Rattle.messages.proofs.RoomLaws.{waiting_past}
use Rattle.lines.specs.Lines.{registers_in}
use Rattle.view.specs.Records.{is_in}
use Rattle.view.specs.View.{Lent, floor_in}
use Rattle.form_lines.specs.Said.{Said, a_multicast, an_ack_list, a_delete, a_deregister, a_register, unknown}
use Rattle.form_lines.specs.Pass.{is_taken, in_room, right, is_leaving, is_travelling, same_numbers}
use Rattle.form_lines.proofs.Walks.{Each}
use Rattle.form_lines.proofs.Split.{Right}
use Rattle.form_lines.proofs.Reading.{read, room_said}
use Rattle.form_lines.proofs.Tallies.{OneRoom, in_room_lem}
use Rattle.form_lines.proofs.Handoffs.{numbers_same, Placed, CartBelow}
use Rattle.form_lines.proofs.Clauses.{TableClauses}

-- the written records of a line
pub all_read : (carried : ℕ → ℕ → ℕ) (P : Said → Type 0) (Q : Record → Type 0) (l : List Said) → ((r : Said) → P r → Q (read carried r)) → Each P l → All Q (map (read carried) l)
all_read carried P Q [] f e = tt
all_read carried P Q (r ∷ l) f e = (f r e.0, all_read carried P Q l f e.1)

pub each_read : (carried : ℕ → ℕ → ℕ) (Q : Record → Type 0) (l : List Said) → All Q (map (read carried) l) → Each (λ r. Q (read carried r)) l
each_read carried Q [] a = tt
each_read carried Q (r ∷ l) a = (a.0, each_read carried Q l a.1)

module _ (L : Lent) (T : TableClauses L) where
  abbrev F : Floor
  F = floor_in L

  abbrev C : Carts
  C = carts_in L.carts

  abbrev R : Rooms
  R = rooms_in L.messages

  abbrev carried : ℕ → ℕ → ℕ
  carried = registers_in L.lines

  abbrev here : ℕ → ℕ → ℕ → Bool
  here = in_room R

  abbrev Fits : ℕ → ℕ → Said → Type 0
  Fits = Right F.stations F.carts C R carried

  -- a taken room is one of the table's
  pub slot : (m : ℕ) → is_taken R m ≡ true → m < L.product.held
  slot m h =
      by_lt m L.product.held (λ l. l)
      (λ l. clash (is_taken R m) h (ap (λ (y : ℕ). not (eqb y 0)) (waiting_past L.messages m (let z = T.lengths.messages in omega arith))))

  pub one_room : OneRoom R
  one_room m k a b = T.names m (slot m a.held) a.held k (slot k b.held) b.held

  -- the room that the message is in is found
  room_found : (s x m : ℕ) → here s x m ≡ true → room_of (limits_of L.product) F s x ≡ some m
  unfolding room_of
  room_found s x m e =
      let g = in_room_lem F.stations F.carts C R s x m e in
      let few = L.product.held_fit in
      first_only L.product.held (is_message F s x) m (slot m g.taken.held) (and_right (ltb m 32) (is_in R s x m) e)
      (λ k l q. let h = in_room_lem F.stations F.carts C R s x k (and_intro (ltb k 32) (is_in R s x k) (lt-ltb k 32 (omega arith)) q) in
      one_room k m h.taken g.taken (h.initiator ∙ sym g.initiator) (h.number ∙ sym g.number))

  -- a room that has a message is one of the rooms
  slot_of : (s x m : ℕ) → is_in R s x m ≡ true → here s x m ≡ true
  slot_of s x m e =
      and_intro (ltb m 32) (is_in R s x m)
      (lt-ltb m 32 (let w = slot m (and_left (is_taken R m) (eqb (R.initiator m) s && eqb (R.number m) x) e) in let few = L.product.held_fit in omega arith))
      e

  -- FROM THE PASS
  pub fits_room : (i j : ℕ) (r : Said) → Fits i j r → room_said R i j r ≡ true
  unfolding right
  fits_room i j (a_multicast m x) h = and_right (ltb m 32) (is_in R i x m) (and_left (here i x m) (has (R.waiting m) j) h.1)
  fits_room i j (an_ack_list m x y) h = and_right (ltb m 32) (is_in R j x m) (and_left (here j x m) (ltb 0 y && ltb y (2 ^ F.carts)) h.1)
  fits_room i j (a_delete m x) h = and_right (ltb m 32) (is_in R i x m) (and_left (here i x m) (has (R.waiting m) j && eqb (R.acked m) (R.named m)) h.1)
  fits_room i j (a_deregister c) h = refl
  fits_room i j (a_register c) h = refl
  fits_room i j (unknown c) h = clash false h.1 refl

  pub fits_rule : (i j : ℕ) (r : Said) → Fits i j r → True (record_rule (limits_of L.product) F i j (read carried r))
  unfolding right
  fits_rule i j (a_multicast m x) h =
      let a = here i x m in
      let b = has (R.waiting m) j in
      rw (room_found i x m (and_left a b h.1)) (and_right a b h.1, refl)
  fits_rule i j (an_ack_list m x y) h =
      let a = here j x m in
      let b = ltb 0 y in
      let d = ltb y (2 ^ F.carts) in
      let q = and_right a (b && d) h.1 in
      (rw (room_found j x m (and_left a (b && d) h.1)) refl, (ltb-true y (2 ^ F.carts) (and_right b d q), ltb-true 0 y (and_left b d q)))
  fits_rule i j (a_delete m x) h =
      let a = here i x m in
      let b = has (R.waiting m) j in
      let d = eqb (R.acked m) (R.named m) in
      let q = and_right a (b && d) h.1 in
      rw (room_found i x m (and_left a (b && d) h.1)) (and_left b d q, eqb-true (R.acked m) (R.named m) (and_right b d q))
  fits_rule i j (a_deregister c) h = ltb-true c F.carts (and_left (ltb c F.carts) (is_leaving (C.place c) j i) h.1)
  fits_rule i j (a_register c) h = ltb-true c F.carts (and_left (ltb c F.carts) (is_travelling (C.place c) i j && same_numbers (carried c) (C.next c)) h.1)
  fits_rule i j (unknown c) h = clash false h.1 refl

  -- TO THE PASS
  pub rule_below : (i j : ℕ) (r : Said) → True (record_rule (limits_of L.product) F i j (read carried r)) → CartBelow F.carts r
  rule_below i j (a_multicast m x) h = tt
  rule_below i j (an_ack_list m x y) h = tt
  rule_below i j (a_delete m x) h = tt
  rule_below i j (a_deregister c) h = h
  rule_below i j (a_register c) h = h
  rule_below i j (unknown c) h = tt

  rule_right : (i j : ℕ) (r : Said) → room_said R i j r ≡ true → True (record_rule (limits_of L.product) F i j (read carried r)) → Placed carried C i j r → right F.stations F.carts C R carried i j r ≡ true
  unfolding right
  rule_right i j (a_multicast m x) e h p =
      let a = slot_of i x m e in
      let q : (has (R.waiting m) j ≡ true) × (true ≡ true) = rw (room_found i x m a) at h in
      and_intro (here i x m) (has (R.waiting m) j) a q.0
  rule_right i j (an_ack_list m x y) e h p =
      and_intro (here j x m) (ltb 0 y && ltb y (2 ^ F.carts)) (slot_of j x m e)
      (and_intro (ltb 0 y) (ltb y (2 ^ F.carts)) (lt-ltb 0 y h.1.1) (lt-ltb y (2 ^ F.carts) h.1.0))
  rule_right i j (a_delete m x) e h p =
      let a = slot_of i x m e in
      let q : (has (R.waiting m) j ≡ true) × (R.acked m ≡ R.named m) = rw (room_found i x m a) at h in
      and_intro (here i x m) (has (R.waiting m) j && eqb (R.acked m) (R.named m)) a
      (and_intro (has (R.waiting m) j) (eqb (R.acked m) (R.named m)) q.0 (eq-eqb (R.acked m) (R.named m) q.1))
  rule_right i j (a_deregister c) e h p = and_intro (ltb c F.carts) (is_leaving (C.place c) j i) (lt-ltb c F.carts h) p
  rule_right i j (a_register c) e h p =
      and_intro (ltb c F.carts) (is_travelling (C.place c) i j && same_numbers (carried c) (C.next c)) (lt-ltb c F.carts h)
      (and_intro (is_travelling (C.place c) i j) (same_numbers (carried c) (C.next c)) p.0 (numbers_same (carried c) (C.next c) p.1))
  rule_right i j (unknown c) e h p = clash false e refl

  pub rule_fits : (i j : ℕ) (r : Said) → room_said R i j r ≡ true → i < F.stations → j < F.stations → True (record_rule (limits_of L.product) F i j (read carried r)) → Placed carried C i j r → Fits i j r
  rule_fits i j r e li lj h p =
      (and_intro (ltb i F.stations) (ltb j F.stations) (lt-ltb i F.stations li) (lt-ltb j F.stations lj), rule_right i j r e h p)
