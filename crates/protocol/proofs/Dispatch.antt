-- Laws for a dispatcher that keeps the set of the lines that are not empty, and for its choice where all are.
use mathlib.Core.Path.{ap, refl, sym, ◌∙◌, ◌≡◌}
use mathlib.Core.Bool.{◌&&◌, false, not, true}
use mathlib.Core.List.{List, [], ◌∷◌}
use Prim.Native.Nat.{◌<◌, ℕ}
use native.Mathlib.Omega.{arith}
use lib.Dec.{eqb}
use borrow.Author.Tests.{eq-eqb, eqb-true, ne_eqb}
use Rattle.protocol.specs.Folds.{by_option}
use Rattle.protocol.specs.CartSets.{has, union}
use Rattle.protocol.specs.Floor.{Floor, Limits, Record, ack_list, behead, delete, deregister, most_text, multicast, register}
use Rattle.protocol.specs.Events.{Done, radio}
use Rattle.protocol.specs.Handoff.{entry_of, on_register, room_of, row_of, struck}
use Rattle.protocol.specs.Deregister.{leave, on_deregister}
use Rattle.protocol.specs.Wired.{buffer, handle, multicast_by_row, on_ack_list, on_delete, on_multicast}
use Rattle.protocol.specs.Wireless.{all_acked, hand_over, queue_head, receive, send_acks, send_acks_if_all}
use Rattle.protocol.specs.Form.{handoff_of, handoffs, passes_form}
use Rattle.protocol.specs.Refusals.{refusal}
use Rattle.protocol.specs.Quiet.{would_receive}
use Rattle.protocol.proofs.Tests.{and_left, and_right, by_test, clash, on_cond, on_option, same_test}
use Rattle.protocol.proofs.InOrder.{completed, deregister_is, send_each}
use Rattle.protocol.proofs.Accepted.{may_radio, unlined}
use Rattle.protocol.proofs.Invariant.{History, Invariant}
use Rattle.protocol.proofs.CatchUp.{arrive_at_once, one_at_once}
use Rattle.protocol.proofs.Sized.{Sized}
use Rattle.protocol.proofs.QueueOrder.{head_first}
use Rattle.protocol.proofs.NextEvent.{radio_accepted}
use Rattle.protocol.proofs.LiveSteps.{local_entered}
use Rattle.protocol.proofs.LiveRun.{settled}

-- EVERY RECORD THAT A STEP PUTS goes on a line from the station where it happens

send_each_elsewhere : (F : Floor) (t : ℕ) (l : List ℕ) (k h : ℕ) → (k ≡ t → ⊥) → (send_each F t l).lines k h ≡ F.lines k h
unfolding send_each send_acks
send_each_elsewhere F t [] k h ne = refl
send_each_elsewhere F t (m ∷ l) k h ne = send_each_elsewhere (send_acks F m t) t l k h ne ∙ rw (ne_eqb t k (λ z. ne (sym z)))

pub wire_elsewhere : (M : Limits) (F : Floor) (i j : ℕ) (r : Record) (k h : ℕ) → (k ≡ j → ⊥)
    → (handle M (unlined F i j) i j r).floor.lines k h ≡ behead i j F.lines k h
unfolding handle on_multicast multicast_by_row on_ack_list on_delete on_register room_of buffer leave struck
wire_elsewhere M F i j (multicast n) k h ne = on_option (λ (d : Done). d.floor.lines k h ≡ behead i j F.lines k h) (room_of M F i n) (λ q. refl) (λ m q. refl)
wire_elsewhere M F i j (ack_list n set) k h ne =
    on_option (λ (d : Done). d.floor.lines k h ≡ behead i j F.lines k h) (room_of M F j n) (λ q. refl)
    (λ m q. on_cond (λ (d : Done). d.floor.lines k h ≡ behead i j F.lines k h) (eqb (union (F.acked m) set) (F.named m)) (λ b. rw (ne_eqb j k (λ z. ne (sym z)))) (λ b. refl))
wire_elsewhere M F i j (delete n) k h ne = on_option (λ (d : Done). d.floor.lines k h ≡ behead i j F.lines k h) (room_of M F i n) (λ q. refl) (λ m q. refl)
wire_elsewhere M F i j (deregister c) k h ne =
    ap (λ (X : Floor). X.lines k h) (deregister_is M (unlined F i j) i j c)
    ∙ rw (ne_eqb j k (λ z. ne (sym z))) (send_each_elsewhere (leave (unlined F i j) i j c) j (completed M (unlined F i j) i j c) k h ne)
wire_elsewhere M F i j (register c row) k h ne = ap (λ (X : Floor). X.lines k h) (arrive_at_once M (unlined F i j) j c (entry_of row))

-- where w is 0, nothing was put
pub wire_puts_none : (M : Limits) (F : Floor) (i j : ℕ) (r : Record) → 0 < F.stations → (handle M (unlined F i j) i j r).report.w ≡ 0
    → (handle M (unlined F i j) i j r).floor.lines ≡ behead i j F.lines
unfolding handle on_multicast multicast_by_row on_ack_list on_delete on_deregister on_register room_of buffer struck
wire_puts_none M F i j (multicast n) pos = on_option (λ (d : Done). d.report.w ≡ 0 → d.floor.lines ≡ behead i j F.lines) (room_of M F i n) (λ q w. refl) (λ m q w. refl)
wire_puts_none M F i j (ack_list n set) pos =
    on_option (λ (d : Done). d.report.w ≡ 0 → d.floor.lines ≡ behead i j F.lines) (room_of M F j n) (λ q w. refl)
    (λ m q. on_cond (λ (d : Done). d.report.w ≡ 0 → d.floor.lines ≡ behead i j F.lines) (eqb (union (F.acked m) set) (F.named m)) (λ b w. absurd (omega arith)) (λ b w. refl))
wire_puts_none M F i j (delete n) pos = on_option (λ (d : Done). d.report.w ≡ 0 → d.floor.lines ≡ behead i j F.lines) (room_of M F i n) (λ q w. refl) (λ m q w. refl)
wire_puts_none M F i j (deregister c) pos = λ w. absurd (omega arith)
wire_puts_none M F i j (register c row) pos = λ w. ap (λ (X : Floor). X.lines) (arrive_at_once M (unlined F i j) j c (entry_of row))

pub radio_elsewhere : (M : Limits) (F : Floor) (m t c k h : ℕ) → (k ≡ t → ⊥) → (hand_over M F m t c).floor.lines k h ≡ F.lines k h
unfolding hand_over receive send_acks
radio_elsewhere M F m t c k h ne =
    ap (λ (X : Floor). X.lines k h) (one_at_once M (send_acks_if_all (receive F m t c) m t) t c (F.initiator m))
    ∙ on_cond (λ (X : Floor). X.lines k h ≡ F.lines k h) (all_acked (receive F m t c) m t) (λ e. rw (ne_eqb t k (λ z. ne (sym z)))) (λ e. refl)

pub radio_puts_none : (M : Limits) (F : Floor) (m t c : ℕ) → (hand_over M F m t c).report.w ≡ 0 → (hand_over M F m t c).floor.lines ≡ F.lines
unfolding hand_over receive send_acks
radio_puts_none M F m t c w =
    ap (λ (X : Floor). X.lines) (one_at_once M (send_acks_if_all (receive F m t c) m t) t c (F.initiator m))
    ∙ by_test (all_acked (receive F m t c) m t)
    (λ e. absurd (let z : ◌≡◌ {A = ℕ} 1 0 = rw e at w in omega arith))
    (λ e. rw e)

-- WHERE ALL LINES ARE EMPTY a radio step is accepted exactly if the head entry has the cart, and it is steady

pub all_empty_radio : (M : Limits) (F : Floor) (G : History) → Invariant M F G → Sized M F → passes_form M F ≡ true
    → ((i j : ℕ) → i < F.stations → j < F.stations → F.lines i j ≡ [])
    → (t c : ℕ) → t < F.stations → c < F.carts → would_receive M F t c ≡ by_option (queue_head M F t) false (λ m. has (F.queue m t) c && F.steady c)
unfolding refusal
all_empty_radio M F G I S form empty t c lt lc =
    same_test (would_receive M F t c) (by_option (queue_head M F t) false (λ m. has (F.queue m t) c && F.steady c))
    (λ e. let a = may_radio M F (not (passes_form M F)) t c (most_text M) (eqb-true (refusal M F (radio t c (most_text M))) 0 e) in
    rw (a.1.is_head, a.1.queued, a.1.is_steady_lem))
    (on_option (λ b. b ≡ true → would_receive M F t c ≡ true) (queue_head M F t)
    (λ q e. clash false e refl)
    (λ m q e. let h = and_left (has (F.queue m t) c) (F.steady c) e in
    let k = I.queues m t c h in
    let p = settled F.stations (F.place c) (row_of M (F.next c)) (S.places c)
    (λ i j li lj. let z = I.handoffs_right c i j in let y : handoffs c [] ≡ handoff_of (F.place c) i j (row_of M (F.next c)) = rw (empty i j li lj) at z in y)
    (local_entered (F.place c) t k.home) in
    let is_t : p.0 ≡ t = eqb-true p.0 t (let z = k.home in rw p.2 at z) in
    eq-eqb (refusal M F (radio t c (most_text M))) 0
    (radio_accepted M F t c m form lt lc (p.2 ∙ rw is_t) q h (S.messages.text m (head_first M F t m q).0) (and_right (has (F.queue m t) c) (F.steady c) e))))
