-- THE WIRELESS MODULE (document 001, 3.4): the queue of a station, and radio.
use Rattle.std.specs.Prelude.{Bool, cond, ◌&&◌, ◌||◌, not, [], ℕ, zero, suc, ◌-◌, eqb}
use Rattle.std.proofs.Math.Option.{Option, none, some}
use Rattle.protocol.specs.Folds.{every, update2, by_option}
use Rattle.protocol.specs.CartSets.{has, with, without, minus}
use Rattle.protocol.specs.Floor.{Limits, ack_list, Floor, set_next, set_copy, set_acks, set_queue, between, push, is_local}
use Rattle.protocol.specs.Events.{Done, done}
pub use Rattle.protocol.specs.Order.{stands_before}
use Rattle.protocol.specs.Handoff.{catch_up, place_given}

-- the head of the queue at t once room m is looked at too
abbrev pub head_with : Floor → ℕ → ℕ → Option ℕ → Option ℕ
head_with F t m none = cond (eqb (F.queue m t) 0) none (some m)
head_with F t m (some k) = cond (eqb (F.queue m t) 0) (some k) (cond (stands_before F m k) (some m) (some k))

-- the head of the queue at t among the first rooms
unfoldable pub head_among : Floor → ℕ → ℕ → Option ℕ
head_among F t zero = none
head_among F t (suc m) = head_with F t m (head_among F t m)

-- "The cart leaves the entry (an emptied one goes) and joins the station's ack list for the message; its next number rises"
unfoldable pub receive : Floor → ℕ → ℕ → ℕ → Floor
receive F m t c =
    set_acks
    (set_queue
    (set_next F (update2 F.next c (F.initiator m) (suc (F.number m))))
    (update2 F.queue m t (without (F.queue m t) c)))
    (update2 F.acks m t (with (F.acks m t) c))

-- "every local cart in the copy is in the ack list"
unfoldable pub all_acked : Floor → ℕ → ℕ → Bool
all_acked F m t = every F.carts (λ d. not (is_local F t d && has (F.copy m t) d) || has (F.acks m t) d)

-- "the list goes to the initiator, its carts are struck from the copy, and the list is emptied"
unfoldable pub send_acks : Floor → ℕ → ℕ → Floor
send_acks F m t =
    push
    (set_acks
    (set_copy F (update2 F.copy m t (minus (F.copy m t) (F.acks m t))))
    (update2 F.acks m t 0))
    (between t (F.initiator m)) (ack_list (F.number m) (F.acks m t))

-- "Then, if every local cart in the copy is in the ack list, .."
abbrev pub send_acks_if_all : Floor → ℕ → ℕ → Floor
send_acks_if_all F m t = cond (all_acked F m t) (send_acks F m t) F

module _ (M : Limits) where
  -- "the head message of the queue" at t
  unfoldable pub queue_head : Floor → ℕ → Option ℕ
  queue_head F t = head_among F t M.held

  -- "the head message of the queue is handed to the cart, acknowledged in the same step. .. Then, if every local cart in the copy is in the
  -- ack list, .. Then catch-up for that initiator": the message in room m, to cart c at t
  unfoldable pub hand_over : Floor → ℕ → ℕ → ℕ → Done
  hand_over F m t c =
      let s = F.initiator m in
      let received = receive F m t c in
      let acknowledged = send_acks_if_all received m t in
      let caught_up = catch_up M acknowledged t c s in
      done caught_up 4 s (F.number m) (caught_up.next c s - suc (F.number m)) (cond (all_acked received m t) 1 0) (place_given M acknowledged t c s) (F.text m)

  -- "Radio (station, cart)"
  unfoldable pub on_radio : Floor → ℕ → ℕ → Done
  on_radio F t c = by_option (queue_head F t) (done F 4 0 0 0 0 0 []) (λ m. hand_over F m t c)
