-- WHAT THE PARTS OF A RADIO STEP LEAVE: in the stations (S, then S'), the carts (C, then C') and on the lines (W, then W').
use Rattle.std.specs.Prelude.{◌≡◌, Bool, true, false, List, ℕ, ◌+◌, ◌-◌, ◌*◌, length}
use Rattle.std.proofs.Math.Option.{Option}
use Rattle.protocol.specs.CartSets.{minus, with, without}
use Rattle.protocol.specs.Floor.{Floor}
use Rattle.sets.specs.Masks.{disjoint}
use Rattle.stations.specs.View.{Stations, stations_in, head_in, with_acks, with_room, with_queue}
use Rattle.carts.specs.View.{carts_in, canonical_in, with_next}
use Rattle.lines.specs.Post.{Pushed}
use Rattle.view.specs.Records.{words_of}
use Rattle.messages.specs.View.{rooms_in}
use Rattle.queue.specs.Rooms.{tables_floor, room_count}
use Rattle.catchup.specs.Nearest.{nearest_among, stop_by}
use Rattle.catchup.specs.Arrival.{is_found, queued_for, place_found}

-- cart c has left the entry for room m at t and joined the ack list
abbrev pub took_from : Stations → ℕ → ℕ → ℕ → Stations
took_from X m t c = with_acks (with_queue X m t (without (X.queue m t) c)) m t (with (X.acks m t) c)

-- cart c has left the entry for room m at t and joined the ack list, and its next number for initiator s has risen: it is x, one past n
pub record Received (S S' C C' : List ℕ) (m s n t c x : ℕ) : Type 0 where
  pub stations : stations_in S' ≡ took_from (stations_in S) m t c
  pub head : head_in S' ≡ head_in S
  pub words : length S' ≡ length S
  pub next : x ≡ n + 1
  pub carts : carts_in C' ≡ with_next (carts_in C) c s x
  pub canonical : canonical_in C' ≡ canonical_in C
  pub rows : length C' ≡ length C

-- the carts of the ack list for room m at t are struck from the copy, and the list is empty
abbrev pub sent_from : Stations → ℕ → ℕ → Stations
sent_from X m t = with_room X m t (minus (X.copy m t) (X.acks m t)) 0

-- and it is on its way from t to s: the list for message n of s
pub record ListSent (S S' W W' : List ℕ) (m s n t : ℕ) : Type 0 where
  pub stations : stations_in S' ≡ sent_from (stations_in S) m t
  pub lines : Pushed W W' (t * 16 + s) (words_of 2 m n ((stations_in S).acks m t))
  pub head : head_in S' ≡ head_in S
  pub words : length S' ≡ length S

-- no local cart at t is in the copy of room m without the ack list
abbrev pub hold_none : Stations → ℕ → ℕ → Bool
hold_none X m t = disjoint 64 (X.local t) (minus (X.copy m t) (X.acks m t))

-- if so, the ack list for message n of s, in room m, has gone; w records went
pub record AcksSent (S S' W W' : List ℕ) (m s n t w : ℕ) : Type 0 where
  pub yes : let X = stations_in S in hold_none X m t ≡ true
      → (stations_in S' ≡ sent_from X m t) × Pushed W W' (t * 16 + s) (words_of 2 m n (X.acks m t)) × (w ≡ 1)
  pub no : hold_none (stations_in S) m t ≡ false → (stations_in S' ≡ stations_in S) × (W' ≡ W) × (w ≡ 0)
  pub head : head_in S' ≡ head_in S
  pub words : length S' ≡ length S

-- the nearest message that stops cart c at t, from x on among the numbers of initiator s
abbrev pub nearest_from : Floor → ℕ → ℕ → ℕ → ℕ → Option ℕ
nearest_from F t c s x = nearest_among F t c s x 32

-- the next number of cart c for initiator s has risen from x to where catch-up stops at t, p numbers on, and the cart is queued there, at place q
pub record CaughtUp (S S' C C' M : List ℕ) (s t c x p q : ℕ) : Type 0 where
  pub stations : stations_in S' ≡ queued_for (stations_in S) t c (is_found (nearest_from (tables_floor S M) t c s x))
  pub head : head_in S' ≡ head_in S
  pub words : length S' ≡ length S
  pub carts : carts_in C' ≡ with_next (carts_in C) c s (stop_by (tables_floor S M) t s x (nearest_from (tables_floor S M) t c s x)).upto
  pub canonical : canonical_in C' ≡ canonical_in C
  pub rows : length C' ≡ length C
  pub passed : p ≡ (stop_by (tables_floor S M) t s x (nearest_from (tables_floor S M) t c s x)).upto - x
  pub place : q ≡ place_found (stations_in S') (rooms_in M) t (room_count M) (nearest_from (tables_floor S M) t c s x)

-- all three, one after the other, of message n of s in room m, which cart c has received at t
pub record HandedOver (S S' C C' M W W' : List ℕ) (m s n t c p w q : ℕ) : Type 0 where
  pub S₁ : List ℕ
  pub C₁ : List ℕ
  pub S₂ : List ℕ
  pub next : ℕ
  pub received : Received S S₁ C C₁ m s n t c next
  pub acks : AcksSent S₁ S₂ W W' m s n t w
  -- catch-up goes on from the next number of the record that was handed back
  pub caught : CaughtUp S₂ S' C₁ C' M s t c next p q
