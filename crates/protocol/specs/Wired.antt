-- THE WIRED MODULE (document 001, 3.3): send, and the records of a message on the lines: multicast, ack list, delete.
use Rattle.std.specs.Prelude.{Bool, true, cond, ◌&&◌, not, List, [], ℕ, suc, eqb, ltb}
use Rattle.std.proofs.Math.Option.{Option}
use Rattle.protocol.specs.Folds.{count, first, update, update2, by_option, by_head}
use Rattle.protocol.specs.CartSets.{has, union, minus, without, set_of}
use Rattle.protocol.specs.Floor.{Limits, Record, multicast, ack_list, delete, deregister, register, Floor, on_stations, on_messages, on_copies, on_lines, set_expected, set_next, set_acked, set_waiting, set_texts, set_copy, set_queue, behead, to_every, push, is_local, carts_that}
use Rattle.protocol.specs.Events.{Done, done}
use Rattle.protocol.specs.Order.{place_in}
use Rattle.protocol.specs.Handoff.{room_of, on_register}
use Rattle.protocol.specs.Deregister.{on_deregister}

-- SEND

-- the message in room m: "the message takes the station's number"; "The initiator keeps the set as sent"; nobody has acknowledged it,
-- and no station has handled its delete
abbrev pub new_message : Floor → ℕ → ℕ → ℕ → List ℕ → Floor
new_message F m s set text =
    on_messages F
    (record {
      initiator = update F.initiator m s;
      number = update F.number m (F.sent s);
      named = update F.named m set;
      text = update F.text m text;
      acked = update F.acked m 0;
      waiting = update F.waiting m (set_of F.stations (λ t. true));
    })

-- no station has a copy of it yet, an ack list or an entry for it
abbrev pub new_copies : Floor → ℕ → Floor
new_copies F m =
    on_copies F
    (record { copy = λ k t. cond (eqb k m) 0 (F.copy k t); acks = λ k t. cond (eqb k m) 0 (F.acks k t); queue = λ k t. cond (eqb k m) 0 (F.queue k t) })

-- "Send (station, set, text): the message takes the station's number; a multicast goes on the line to every station", into room m
unfoldable pub with_message : Floor → ℕ → ℕ → ℕ → List ℕ → Floor
with_message F m s set text =
    push (on_stations (new_copies (new_message F m s set text) m) (update F.sent s (suc (F.sent s))) F.expected) (to_every F.stations s) (multicast (F.sent s))

-- MULTICAST: message n of s, in room m, handled at t. "a multicast step shall find out once for each cart whether it is local, before it goes
-- over queue and copy. The answers make a row": the set of the carts with a yes, `local` below. "The rest of the step takes it from that row
-- alone", for any row

-- "The answers make a row, yes exactly for the local carts", of station t
abbrev pub local_row : Floor → ℕ → ℕ
local_row F t = carts_that F (is_local F t)

-- "equal and not named, its next number rises": does it for cart c
abbrev pub passes_over : Floor → ℕ → ℕ → ℕ → ℕ → ℕ → Bool
passes_over F local m s n c = has local c && (eqb (F.next c s) n && not (has (F.named m) c))

-- "next number equal and cart named, it is queued for that message": is cart c
abbrev pub is_queued : Floor → ℕ → ℕ → ℕ → ℕ → ℕ → Bool
is_queued F local m s n c = has local c && (eqb (F.next c s) n && has (F.named m) c)

-- "greater and named, it is struck from the copy": is cart c
abbrev pub is_struck : Floor → ℕ → ℕ → ℕ → ℕ → ℕ → Bool
is_struck F local m s n c = has local c && (ltb n (F.next c s) && has (F.named m) c)

-- "the message is buffered with its own copy of the set. For each local cart: .."
unfoldable pub buffer : Floor → ℕ → ℕ → ℕ → ℕ → ℕ → Floor
buffer F local m t s n =
    set_queue
    (set_copy
    (set_next F (λ c u. cond (eqb u s && passes_over F local m s n c) (suc n) (F.next c u)))
    (update2 F.copy m t (minus (F.named m) (carts_that F (is_struck F local m s n)))))
    (update2 F.queue m t (carts_that F (is_queued F local m s n)))

-- "the expected number rises by one"
abbrev pub raise_expected : Floor → ℕ → ℕ → Floor
raise_expected F t s = set_expected F (update2 F.expected t s (suc (F.expected t s)))

-- ACK LIST: "the initiator adds its carts", to those of the message in room m
abbrev pub add_acks : Floor → ℕ → ℕ → Floor
add_acks F m carts = set_acked F (update F.acked m (union (F.acked m) carts))

-- DELETE: "the message leaves this station's buffer": the message in room m, at t. With the last station's delete "A deleted message's octets are
-- free again": the room has no text any more
abbrev pub unbuffer : Floor → ℕ → ℕ → Floor
unbuffer F m t =
    set_texts (set_waiting F (update F.waiting m (without (F.waiting m) t)))
    (update F.text m (cond (eqb (without (F.waiting m) t) 0) [] (F.text m)))

module _ (M : Limits) where
  -- a room for a new message: "Its room is then used again"
  unfoldable pub free_room : Floor → Option ℕ
  free_room F = first M.held (λ m. eqb (F.waiting m) 0)

  -- "Send (station, set, text)"; "kind 8 prints as a send, under its own kind", and so does kind 9
  unfoldable pub on_send : Floor → (kind : ℕ) → ℕ → ℕ → List ℕ → Done
  on_send F kind s set text =
      by_option (free_room F) (done F kind s 0 0 0 0 []) (λ m. done (with_message F m s set text) kind s (F.sent s) 0 F.stations 0 [])

  -- "the entry's place, .. as it stands right after the putting", of the message that is buffered: one for all carts that are put there, 0 "if no
  -- cart was queued"
  unfoldable pub place_of_new : Floor → ℕ → ℕ → ℕ → ℕ → ℕ → ℕ
  place_of_new F local m t s n = cond (eqb (carts_that F (is_queued F local m s n)) 0) 0 (place_in M (buffer F local m t s n) m t)

  -- "Multicast", with number n, from s, handled at t, once it is known who is local: for any row
  unfoldable pub multicast_by_row : Floor → ℕ → ℕ → ℕ → ℕ → Done
  multicast_by_row F local s t n =
      by_option (room_of M F s n) (done (raise_expected F t s) 3 1 n 0 0 0 [])
      (λ m. done (raise_expected (buffer F local m t s n) t s) 3 1 n (count F.carts (passes_over F local m s n)) 0 (place_of_new F local m t s n) [])

  -- "Multicast": the row is made first
  unfoldable pub on_multicast : Floor → ℕ → ℕ → ℕ → Done
  on_multicast F s t n = let local = local_row F t in multicast_by_row F local s t n

  -- "Ack list: .. When they make up the whole set, a delete goes to every station", with number n, handled at the initiator s
  unfoldable pub on_ack_list : Floor → ℕ → ℕ → ℕ → Done
  on_ack_list F s n carts =
      by_option (room_of M F s n) (done F 3 2 n 0 0 0 [])
      (λ m. cond (eqb (union (F.acked m) carts) (F.named m))
      (done (push (add_acks F m carts) (to_every F.stations s) (delete n)) 3 2 n 0 F.stations 0 [])
      (done (add_acks F m carts) 3 2 n 0 0 0 []))

  -- "Delete", with number n, from s, handled at t
  unfoldable pub on_delete : Floor → ℕ → ℕ → ℕ → Done
  on_delete F s t n = by_option (room_of M F s n) (done F 3 3 n 0 0 0 []) (λ m. done (unbuffer F m t) 3 3 n 0 0 0 [])

  -- the handling of a record from i at j
  unfoldable pub handle : Floor → ℕ → ℕ → Record → Done
  handle F i j (multicast n) = on_multicast F i j n
  handle F i j (ack_list n carts) = on_ack_list F j n carts
  handle F i j (delete n) = on_delete F i j n
  handle F i j (deregister c) = on_deregister M F i j c
  handle F i j (register c row) = on_register M F j c row

  -- "Wire (from, to): the head record of that line is handled at to"
  unfoldable pub on_wire : Floor → ℕ → ℕ → Done
  on_wire F i j = by_head (F.lines i j) (done F 3 0 0 0 0 0 []) (handle (on_lines F (behead i j F.lines)) i j)
