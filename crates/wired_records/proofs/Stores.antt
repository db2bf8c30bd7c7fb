-- WHAT THE STORES OF EACH STEP LEAVE, by what was read before them.
use mathlib.Core.Path.{◌≡◌, refl, sym, ap, ◌∙◌}
use mathlib.Core.Bool.{cond}
use mathlib.Core.List.{List}
use Prim.Native.Nat.{ℕ, ◌+◌}
use lib.Dec.{eqb}
use lib.ListN.{length}
use borrow.Author.Tests.{eq-eqb, ne_eqb}
use Rattle.protocol.specs.CartSets.{union, minus, without}
use Rattle.stations.specs.View.{Stations, head_in, stations_in, with_expected, with_copy, with_queue}
use Rattle.carts.specs.View.{carts_in}
use Rattle.messages.specs.View.{rooms_in, with_acked, with_waiting}
use Rattle.queue.specs.Rooms.{room_count}
use Rattle.queue.specs.Places.{place_among}
use Rattle.sets.specs.Masks.{size}
use Rattle.lines.specs.declared.Record as word
use Rattle.view.specs.Records.{words_of}
use Rattle.wired_lines.specs.ToEvery.{PushedToEvery}
use Rattle.wired_records.specs.Handled.{due_among, past_among, Raised, Stored, Buffered, Deleted, Acknowledged}

-- of a delete: room k, the stations w that were waited for, and those left
pub deletes : (M M' : List ℕ) (m t k w left : ℕ) → k ≡ m → w ≡ (rooms_in M).waiting k → left ≡ without w t
    → rooms_in M' ≡ with_waiting (rooms_in M) k left → length M' ≡ length M → Deleted M M' m t
deletes M M' m t k w left a b d rooms same = record { rooms = rw (← a, ← b, ← d) rooms; length = same }

-- of an ack list: room k, the carts a that were known, all that are known then, and the carts that are named
module _ (M M' W W' : List ℕ) (m number carts s n k a known named : ℕ)
    (room : k ≡ m) (before : a ≡ (rooms_in M).acked k) (all : known ≡ union a carts) (set : named ≡ (rooms_in M).named k) where
  known_is : known ≡ union ((rooms_in M).acked m) carts
  known_is = all ∙ ap (λ (x : ℕ). union x carts) (before ∙ ap (rooms_in M).acked room)

  named_is : named ≡ (rooms_in M).named m
  named_is = set ∙ ap (rooms_in M).named room

  -- all that are named are known
  pub acks_all : known ≡ named → union ((rooms_in M).acked m) carts ≡ (rooms_in M).named m
  acks_all q = sym known_is ∙ q ∙ named_is

  module _ (rooms : rooms_in M' ≡ with_acked (rooms_in M) k known) (same : length M' ≡ length M) where
    rooms_are : rooms_in M' ≡ with_acked (rooms_in M) m (union ((rooms_in M).acked m) carts)
    rooms_are = rw (← known_is, ← room) rooms

    pub acks_some : (known ≡ named → ⊥) → Acknowledged M M' W W m number carts s n 0
    acks_some q =
        record { rooms = rooms_are; length = same; whole = λ e. absurd (q (known_is ∙ e ∙ sym named_is)); part = λ e. (refl, refl) }

    -- the delete that goes to every station
    pub acks_whole : known ≡ named → (q : ℕ) → q ≡ number → (r : word.Record) → r ≡ words_of 3 k q 0 → PushedToEvery W W' s n r → Acknowledged M M' W W' m number carts s n n
    acks_whole e q b r d p =
        record { rooms = rooms_are; length = same; whole = λ z. (refl, rw (← room, ← b, ← d) p); part = λ z. absurd (z (acks_all e)) }

-- of a multicast, at station t
pub stores : (S S₁ S₂ S' : List ℕ) (m s t copy queue expected : ℕ) → expected ≡ (stations_in S).expected t s
    → (stations_in S₁ ≡ with_copy (stations_in S) m t copy) × ((head_in S₁ ≡ head_in S) × (length S₁ ≡ length S))
    → (stations_in S₂ ≡ with_queue (stations_in S₁) m t queue) × ((head_in S₂ ≡ head_in S₁) × (length S₂ ≡ length S₁))
    → (stations_in S' ≡ with_expected (stations_in S₂) t s (expected + 1)) × ((head_in S' ≡ head_in S₂) × (length S' ≡ length S₂))
    → Stored S S' m s t copy queue
stores S S₁ S₂ S' m s t copy queue expected e a b d =
    record {
      stations = d.0 ∙ (λ i. with_expected ((b.0 ∙ ap (λ (X : Stations). with_queue X m t queue) a.0) i) t s (e i + 1));
      head = d.1.0 ∙ b.1.0 ∙ a.1.0;
      length = d.1.1 ∙ b.1.1 ∙ a.1.1;
    }

-- the place answered, by whether a cart was queued; x is that of the entry
pub none_queued : (queued x : ℕ) → queued ≡ 0 → 0 ≡ cond (eqb queued 0) 0 x
none_queued queued x e = rw (eq-eqb queued 0 e) refl

pub some_queued : (queued x : ℕ) → (queued ≡ 0 → ⊥) → (r : ℕ) → r ≡ x → r ≡ cond (eqb queued 0) 0 x
some_queued queued x n r e = rw (ne_eqb queued 0 n) e

-- of a multicast, over the parts that it touches: room k and number q that the record says, the carts named, those due and past among the row; x is
-- the place of the entry
pub buffers : (S S' C C' M : List ℕ) (local m n s t k q named due past over copy queue p x : ℕ) → k ≡ m → q ≡ n
    → named ≡ (rooms_in M).named k → due ≡ due_among (carts_in C) local s q → past ≡ past_among (carts_in C) local s q
    → Raised C C' (minus due named) s (q + 1) → p ≡ size 64 (minus due named)
    → over ≡ minus due named → copy ≡ minus named past → queue ≡ minus due over → Stored S S' k s t copy queue
    → x ≡ cond (eqb queue 0) 0 (place_among (stations_in S') (rooms_in M) t k (room_count M))
    → Buffered S S' C C' M local m n s t p x
buffers S S' C C' M local m n s t k q named due past over copy queue p x room number set d g raise count o y z store placed =
    let named_is : named ≡ (rooms_in M).named m = set ∙ ap (rooms_in M).named room in
    let due_is : due ≡ due_among (carts_in C) local s n = d ∙ ap (due_among (carts_in C) local s) number in
    let past_is : past ≡ past_among (carts_in C) local s n = g ∙ ap (past_among (carts_in C) local s) number in
    let copy_is : copy ≡ minus ((rooms_in M).named m) (past_among (carts_in C) local s n) = y ∙ (λ i. minus (named_is i) (past_is i)) in
    let queue_is : queue ≡ minus (due_among (carts_in C) local s n) over = z ∙ (λ i. minus (due_is i) over) in
    record {
      over = over;
      passed = o ∙ (λ i. minus (due_is i) (named_is i));
      carts = rw (← o, number) at raise;
      stations = rw (room, copy_is, queue_is) at store;
      count = rw (← o) at count;
      place = placed ∙ (λ i. cond (eqb (queue_is i) 0) 0 (place_among (stations_in S') (rooms_in M) t (room i) (room_count M)));
    }
