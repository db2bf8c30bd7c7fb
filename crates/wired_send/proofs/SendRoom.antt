-- A SEND THAT IS NOT REFUSED: its numbers are in range, and there is room on the lines for its multicasts.
use mathlib.Core.Path.{◌≡◌, refl, ap}
use mathlib.Core.Bool.{true}
use mathlib.Core.Option.{some}
use mathlib.Core.List.{List}
use Prim.Native.Nat.{ℕ, ◌+◌, ◌^◌, ◌≤◌, ◌<◌}
use native.Mathlib.Omega.{arith}
use lib.ListN.{length}
use borrow.Author.Tests.{lt-ltb, le-ltb, lt-leb}
use Rattle.protocol.specs.Floor.{Limits, limits_of, Floor, multicast, to_every}
use Rattle.protocol.specs.Events.{Event, send, send_long}
use Rattle.protocol.specs.Store.{store_used}
use Rattle.protocol.specs.Wired.{free_room, with_message, on_send}
use Rattle.protocol.specs.Form.{passes_form}
use Rattle.protocol.specs.Refusals.{refusal_if, refusal}
use Rattle.protocol.specs.Step.{accept, step}
use Rattle.protocol.proofs.Tests.{by_lt}
use Rattle.protocol.proofs.Accepted.{MaySend}
use Rattle.lines.specs.Lines.{used}
use Rattle.lines.specs.Words.{capacity}
use Rattle.view.specs.View.{Lent, floor_in}
use Rattle.view.proofs.Standing.{Standing, room_after, few_stations, numbers_of_32_bits}
use Rattle.wired_lines.proofs.EveryView.{every_counts}

module _ (M : Limits) (F : Floor) (s set : ℕ) (text : List ℕ) (m : ℕ) (passes : passes_form M F ≡ true) (found : free_room M F ≡ some m) (may : MaySend M F s set text m) where
  -- of a text that is not long, no check applies
  short_passes : length text ≤ M.text → refusal M F (send s set text) ≡ 0
  unfolding refusal refusal_if
  short_passes short =
      rw (
        le-ltb M.text (length text) short,
        passes,
        lt-leb F.stations s may.names.station,
        lt-leb (2 ^ F.carts) set may.names.carts,
        may.names.some,
        may.names.all_entered_lem,
        may.has_text,
        le-ltb M.last (F.sent s) may.takes.number,
        found,
      )
      refl

  -- nor of a long one
  long_passes : M.text < length text → refusal M F (send_long s set text) ≡ 0
  unfolding refusal refusal_if
  long_passes long =
      rw (
        lt-leb (length text) M.text long,
        le-ltb M.long (length text) (let a = may.fits in omega arith),
        passes,
        lt-leb F.stations s may.names.station,
        lt-leb (2 ^ F.carts) set may.names.carts,
        may.names.some,
        may.names.all_entered_lem,
        le-ltb M.last (F.sent s) may.takes.number,
        found,
        le-ltb M.store (store_used M F.waiting F.text + length text) (may.stored (lt-ltb M.text (length text) long)),
      )
      refl

  -- so there is an event that is the written send, into room m
  pub some_send : (e : Event) × (step M F e ≡ with_message F m s set text)
  unfolding step accept on_send
  some_send =
      by_lt M.text (length text)
      (λ long. (send_long s set text, rw (long_passes long, found) refl))
      (λ short. (send s set text, rw (short_passes short, found) refl))

module _ (L : Lent) (s set : ℕ) (text : List ℕ) (m : ℕ) (X : Standing L) (found : free_room (limits_of L.product) (floor_in L) ≡ some m) (may : MaySend (limits_of L.product) (floor_in L) s set text m) where
  abbrev F : Floor
  F = floor_in L

  event : (e : Event) × (step (limits_of L.product) F e ≡ with_message F m s set text)
  event = some_send (limits_of L.product) F s set text m X.passes found may

  -- the room, the stations and the number of the message
  pub send_numbers : (m < 32) × (s < 16) × (F.stations ≤ 16) × (F.sent s < 4294967296)
  send_numbers =
      let a = few_stations L X in
      let b = may.names.station in
      let e = may.takes.room in
      let f = L.product.held_fit in
      (omega arith, omega arith, a, (numbers_of_32_bits L X).sent s)

  -- room for as many records as there are stations
  pub send_room : used L.lines + F.stations ≤ capacity L.lines
  unfolding with_message
  send_room =
      let room = room_after L X event.0 (to_every F.stations s) (multicast (F.sent s)) (ap (λ (G : Floor). G.stations) event.1) (ap (λ (G : Floor). G.lines) event.1) in
      let counts = every_counts F.stations s may.names.station in
      omega arith
