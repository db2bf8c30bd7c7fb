-- Deregister: the complete ack lists go, and then the cart is handed off.
use mathlib.Core.Path.{subst, sym, ◌≡◌}
use mathlib.Core.Bool.{true}
use mathlib.Core.List.{List, [], ◌∷◌}
use Prim.Native.Nat.{◌<◌, ℕ}
use native.Mathlib.Omega.{arith}
use lib.Dec.{ltb}
use borrow.Author.Tests.{ltb-true}
use Rattle.protocol.specs.CartSets.{has}
use Rattle.protocol.specs.Floor.{Floor, Limits, Record, behead, deregister, entered, is_buffered, on_lines}
use Rattle.protocol.specs.Wireless.{send_acks}
use Rattle.protocol.specs.Deregister.{buffered_rooms, is_complete, leave, on_deregister}
use Rattle.protocol.proofs.Tests.{and_left, and_right, by_test}
use Rattle.protocol.proofs.SetLaws.{has_some, somebody}
use Rattle.protocol.proofs.Readings.{complete_is}
use Rattle.protocol.proofs.FloorLaws.{outside_is}
use Rattle.protocol.proofs.InOrder.{Distinct, EachOf, buffered_distinct, completed, deregister_splits, each_map, in_order_each, send_each_head, send_each, those_distinct, those_each}
use Rattle.protocol.proofs.Invariant.{Held, History, Invariant}
use Rattle.protocol.proofs.HandoffSteps.{handed_off_ok}
use Rattle.protocol.proofs.RadioStep.{acks_sent_ok}

-- ack lists of held messages go
pub send_each_ok : (M : Limits) (F : Floor) (G : History) (t : ℕ) (l : List ℕ) → t < F.stations → EachOf (Held M F.waiting) l → Invariant M F G → Invariant M (send_each F t l) G
unfolding send_each send_acks
send_each_ok M F G t [] lt h I = I
send_each_ok M F G t (m ∷ l) lt h I = send_each_ok M (send_acks F m t) G t l lt h.1 (acks_sent_ok M F G m t h.0 lt I)

-- what is known of a room whose ack list goes: its message is held, and a cart of the floor is in the list
pub record Goes (M : Limits) (F : Floor) (t m : ℕ) : Type 0 where
  pub held : Held M F.waiting m
  pub here : has (F.waiting m) t ≡ true
  pub come : F.number m < F.expected t (F.initiator m)
  pub one : ℕ
  pub has_one : has (F.acks m t) one ≡ true
  pub on_floor : one < F.carts

module _ (M : Limits) (F : Floor) (G : History) (i t c : ℕ) (w : ℕ → ℕ → List Record) (lt : t < F.stations) (I : Invariant M F G) where
  -- a cart that has passed a message has entered
  pub passed_entered : (d s n : ℕ) → n < F.next d s → d < F.carts
  passed_entered d s n h =
      I.real d (by_test (entered (F.place d)) (λ e. e) (λ e. absurd (let z = I.out d s (outside_is (F.place d) e) in omega arith)))

  goes : (m : ℕ) → ((m < M.held) × (is_buffered F m t ≡ true)) × (is_complete (leave (on_lines F w) i t c) t m ≡ true) → Goes M F t m
  unfolding leave
  goes m h =
      let k = complete_is (leave (on_lines F w) i t c) t m h.1 in
      let b = and_left (has (F.waiting m) t) (ltb (F.number m) (F.expected t (F.initiator m))) h.0.1 in
      let some = somebody (F.acks m t) k.0 in
      let H : Held M F.waiting m = record { slot = h.0.0; some = has_some (F.waiting m) t b } in
      record {
        held = H;
        here = b;
        come = ltb-true (F.number m) (F.expected t (F.initiator m)) (and_right (has (F.waiting m) t) (ltb (F.number m) (F.expected t (F.initiator m))) h.0.1);
        one = some.0;
        has_one = some.1;
        on_floor = passed_entered some.0 (F.initiator m) (F.number m) (I.acks m t some.0 H lt some.1);
      }

  pub all_go : EachOf (Goes M F t) (completed M (on_lines F w) i t c)
  unfolding completed buffered_rooms
  all_go =
      each_map (completed M (on_lines F w) i t c) goes
      (those_each (λ m. (m < M.held) × (is_buffered F m t ≡ true)) (is_complete (leave (on_lines F w) i t c) t) (buffered_rooms M (on_lines F w) t) (in_order_each (on_lines F w) (λ m. is_buffered F m t) M.held))

pub completed_distinct : (M : Limits) (F : Floor) (i t c : ℕ) → Distinct (completed M F i t c)
unfolding completed
completed_distinct M F i t c = those_distinct (is_complete (leave F i t c) t) (buffered_rooms M F t) (buffered_distinct M F t)

pub deregister_ok : (M : Limits) (F : Floor) (G : History) (i t c : ℕ) (l : List Record) → Invariant M F G → F.lines i t ≡ deregister c ∷ l → t < F.stations
    → Invariant M (on_deregister M (on_lines F (behead i t F.lines)) i t c).floor G
deregister_ok M F G i t c l I e lt =
    let rooms = completed M (on_lines F (behead i t F.lines)) i t c in
    let J = send_each_ok M F G t rooms lt (each_map rooms (λ m g. g.held) (all_go M F G i t c (behead i t F.lines) lt I)) I in
    let h = send_each_head F t rooms i t (deregister c) l e in
    subst (λ (X : Floor). Invariant M X G) (sym (deregister_splits M F i t c l e)) (handed_off_ok M (send_each F t rooms) G i t c h.0 J h.1)
