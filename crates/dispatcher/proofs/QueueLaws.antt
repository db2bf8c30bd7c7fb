-- Which stations have an entry in their queue: a step changes the queue of the station where it happens, and no other.
use mathlib.Core.Path.{◌≡◌, refl, sym, ap, ◌∙◌}
use mathlib.Core.Bool.{true, false, not}
use mathlib.Core.List.{List}
use Prim.Native.Nat.{ℕ, ◌+◌, ◌<◌}
use native.Mathlib.Omega.{arith}
use lib.Dec.{eqb}
use borrow.Author.Tests.{eqb-true, ne_eqb, not-false}
use Rattle.protocol.specs.CartSets.{has, union}
use Rattle.protocol.specs.Floor.{Limits, Floor, Record, multicast, ack_list, delete, deregister, register}
use Rattle.protocol.specs.Events.{Done}
use Rattle.protocol.specs.Handoff.{entry_of, on_register, room_of, struck}
use Rattle.protocol.specs.Deregister.{leave}
use Rattle.protocol.specs.Wired.{handle, on_multicast, multicast_by_row, on_ack_list, on_delete, buffer}
use Rattle.protocol.specs.Wireless.{all_acked, hand_over, receive, send_acks, send_acks_if_all}
use Rattle.protocol.proofs.Tests.{and-false, by_eq, clash, on_cond, on_option}
use Rattle.protocol.proofs.SetLaws.{has_zero}
use Rattle.protocol.proofs.InOrder.{completed, deregister_is, send_each_is}
use Rattle.protocol.proofs.Accepted.{unlined}
use Rattle.protocol.proofs.CatchUp.{arrive_at_once, one_at_once}
use Rattle.stations.specs.View.{head_in, stations_in, entries_in}
use Rattle.stations.proofs.TableLaws.{not_in_entries}
use Rattle.dispatcher.specs.Queues.{QueuedIn, queued_with}
use Rattle.dispatcher.proofs.BusyLaws.{any_here, any_other}

-- A WIRE STEP, at station j
pub wire_queues : (M : Limits) (F : Floor) (i j : ℕ) (r : Record) (m t : ℕ) → (t ≡ j → ⊥) → (handle M (unlined F i j) i j r).floor.queue m t ≡ F.queue m t
unfolding handle on_multicast multicast_by_row on_ack_list on_delete on_register buffer leave struck
wire_queues M F i j (multicast n) m t ne =
    on_option (λ (d : Done). d.floor.queue m t ≡ F.queue m t) (room_of M (unlined F i j) i n) (λ q. refl) (λ k q. rw (ne_eqb t j ne, and-false (eqb m k)))
wire_queues M F i j (ack_list n set) m t ne =
    on_option (λ (d : Done). d.floor.queue m t ≡ F.queue m t) (room_of M (unlined F i j) j n) (λ q. refl)
    (λ k q. on_cond (λ (d : Done). d.floor.queue m t ≡ F.queue m t) (eqb (union (F.acked k) set) (F.named k)) (λ b. refl) (λ b. refl))
wire_queues M F i j (delete n) m t ne = on_option (λ (d : Done). d.floor.queue m t ≡ F.queue m t) (room_of M (unlined F i j) i n) (λ q. refl) (λ k q. refl)
wire_queues M F i j (deregister c) m t ne =
    ap (λ (X : Floor). X.queue m t) (deregister_is M (unlined F i j) i j c)
    ∙ ap (λ (X : Floor). X.queue m t) (send_each_is (leave (unlined F i j) i j c) j (completed M (unlined F i j) i j c))
    ∙ rw (ne_eqb t j ne)
wire_queues M F i j (register c row) m t ne = ap (λ (X : Floor). X.queue m t) (arrive_at_once M (unlined F i j) j c (entry_of row)) ∙ rw (ne_eqb t j ne)

-- A RADIO STEP, at station u
pub radio_queues : (M : Limits) (F : Floor) (k u c m t : ℕ) → (t ≡ u → ⊥) → (hand_over M F k u c).floor.queue m t ≡ F.queue m t
unfolding hand_over receive send_acks
radio_queues M F k u c m t ne =
    ap (λ (X : Floor). X.queue m t) (one_at_once M (send_acks_if_all (receive F k u c) k u) u c (F.initiator k))
    ∙ rw (ne_eqb t u ne) (on_cond (λ (X : Floor). X.queue m t ≡ F.queue m t) (all_acked (receive F k u c) k u) (λ e. rw (ne_eqb t u ne, and-false (eqb m k))) (λ e. rw (ne_eqb t u ne, and-false (eqb m k))))

-- WHERE NO ROOM COUNTS there is no entry
no_entries : (S : List ℕ) (t : ℕ) → not (eqb (entries_in S t) 0) ≡ false → (m : ℕ) → (stations_in S).queue m t ≡ 0
no_entries S t e m =
    let z = eqb-true (entries_in S t) 0 (not-false (eqb (entries_in S t) 0) e) in
    not_in_entries S m t (ap (λ (x : ℕ). has x m) z ∙ has_zero m)

-- AFTER A STEP at station t, whose queue is looked at: no other queue has changed
pub queued_after_lem : (S S' : List ℕ) (queued t : ℕ) → QueuedIn S queued → t < (head_in S).stations → (head_in S').stations ≡ (head_in S).stations
    → ((m u : ℕ) → (u ≡ t → ⊥) → (stations_in S').queue m u ≡ (stations_in S).queue m u) → QueuedIn S' (queued_with S' queued t)
queued_after_lem S S' queued t Q lt same elsewhere = record {
  on_floor = λ u e. by_eq u t
      (λ z. omega arith)
      (λ z. let l = Q.on_floor u (sym (any_other queued t (entries_in S' t) u z) ∙ e) in omega arith);
  others = λ u on e m. by_eq u t
      (λ z. rw z (no_entries S' t (sym (any_here queued t (entries_in S' t)) ∙ (rw z at e)) m))
      (λ z. elsewhere m u z ∙ Q.others u (omega arith) (sym (any_other queued t (entries_in S' t) u z) ∙ e) m);
}

-- THE FIRST STATIONS, as the walk at the start looks at them
pub record FirstQueues (S : List ℕ) (queued n : ℕ) : Type 0 where
  pub before : (t : ℕ) → has queued t ≡ true → t < n
  pub others : (t : ℕ) → t < n → has queued t ≡ false → (m : ℕ) → (stations_in S).queue m t ≡ 0

module _ (S : List ℕ) where
  pub queues_none : FirstQueues S 0 0
  queues_none = record { before = λ t e. clash (has 0 t) e (has_zero t); others = λ t l. absurd (omega arith) }

  pub queues_more : (queued queued' n : ℕ) → FirstQueues S queued n → queued' ≡ queued_with S queued n → FirstQueues S queued' (n + 1)
  queues_more queued queued' n R q = rw q (record {
    before = λ u e. by_eq u n
        (λ z. omega arith)
        (λ z. let l = R.before u (sym (any_other queued n (entries_in S n) u z) ∙ e) in omega arith);
    others = λ u l e m. by_eq u n
        (λ z. rw z (no_entries S n (sym (any_here queued n (entries_in S n)) ∙ (rw z at e)) m))
        (λ z. R.others u (omega arith) (sym (any_other queued n (entries_in S n) u z) ∙ e) m);
  })

  pub queues_all : (queued n : ℕ) → n ≡ (head_in S).stations → FirstQueues S queued n → QueuedIn S queued
  queues_all queued n e R = record {
    on_floor = λ t h. let l = R.before t h in omega arith;
    others = λ t l h m. R.others t (omega arith) h m;
  }
