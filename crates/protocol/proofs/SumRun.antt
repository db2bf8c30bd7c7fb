-- The sum rule over a run.
use mathlib.Core.Path.{ap, refl, subst, sym, ◌∙◌, ◌≡◌}
use mathlib.Core.List.{List, [], ◌∷◌}
use mathlib.Core.Bool.{cond}
use Prim.Native.Nat.{◌+◌, ◌<◌, ℕ}
use native.Mathlib.Omega.{arith}
use lib.Dec.{eqb}
use borrow.Author.Tests.{ne_eqb}
use Rattle.protocol.specs.Folds.{sum}
use Rattle.protocol.specs.CartSets.{union}
use Rattle.protocol.specs.Floor.{Floor, Limits, Record, ack_list, delete, deregister, just_started, multicast, register}
use Rattle.protocol.specs.Events.{Done, Event, accepted, enter, flag, group, move, radio, refused, retire, send, send_group, send_long, start, wire}
use Rattle.protocol.specs.Groups.{as_sent, on_group}
use Rattle.protocol.specs.Handoff.{entry_of, on_enter, on_flag, on_move, on_register, on_retire, room_of, row_of}
use Rattle.protocol.specs.Deregister.{leave, on_deregister}
use Rattle.protocol.specs.Wired.{buffer, handle, local_row, multicast_by_row, on_ack_list, on_delete, on_multicast, with_message}
use Rattle.protocol.specs.Form.{handoff_of, handoffs, registering}
use Rattle.protocol.specs.Step.{answer, floor_after, step}
use Rattle.protocol.specs.SumRule.{gain, gains, taken_away, taken_with, total}
use Rattle.protocol.proofs.Tests.{eqb_self, on_cond, on_option}
use Rattle.protocol.proofs.FloorLaws.{outside_is}
use Rattle.protocol.proofs.InOrder.{completed, deregister_is, send_each_is}
use Rattle.protocol.proofs.Accepted.{MayWire, by_step, unlined}
use Rattle.protocol.proofs.Invariant.{Held, History, Invariant}
use Rattle.protocol.proofs.HandoffSteps.{registering_is, row_is_next}
use Rattle.protocol.proofs.InvariantStep.{note, step_ok}
use Rattle.protocol.proofs.Counting.{sum_bump, sum_nil, sum_zero}
use Rattle.protocol.proofs.SumSteps.{arrive_sum, multicast_sum, radio_sum}
use Rattle.protocol.proofs.LineFacts.{LineFacts}
use Rattle.protocol.proofs.LinesSteps.{step_lines}

-- what p alone adds
by_p : (a t p : ℕ) → a ≡ t + p → a ≡ t + (0 + p)
by_p a t p e = omega arith

module _ (M : Limits) (F : Floor) (G : History) (I : Invariant M F G) where
  abbrev Gains : Event → Done → Type 0
  Gains e d = total d.floor ≡ total F + gain e (accepted d.report)

  idle : (n : ℕ) → n ≡ n + 0
  idle n = omega arith

  handle_sum : (i j : ℕ) (r : Record) (l : List Record) → MayWire F i j r l → Gains (wire i j) (handle M (unlined F i j) i j r)
  unfolding handle on_multicast multicast_by_row on_ack_list on_delete on_deregister leave on_register room_of total
  handle_sum i j (multicast n) l may = on_option (Gains (wire i j)) (room_of M F i n) (λ q. idle (total F)) (λ m q. by_p _ _ _ (multicast_sum M (unlined F i j) (local_row F j) m i j n may.from))
  handle_sum i j (ack_list n set) l may =
      on_option (Gains (wire i j)) (room_of M F j n) (λ q. idle (total F))
      (λ m q. on_cond (Gains (wire i j)) (eqb (union (F.acked m) set) (F.named m)) (λ b. idle (total F)) (λ b. idle (total F)))
  handle_sum i j (delete n) l may = on_option (Gains (wire i j)) (room_of M F i n) (λ q. idle (total F)) (λ m q. idle (total F))
  handle_sum i j (deregister c) l may =
      ap total (deregister_is M (unlined F i j) i j c)
      ∙ subst (λ (X : Floor). total X ≡ total F + 0) (sym (send_each_is (leave (unlined F i j) i j c) j (completed M (unlined F i j) i j c))) (idle (total F))
  handle_sum i j (register c row) l may =
      let z : registering row ∷ handoffs c l ≡ handoff_of (F.place c) i j (row_of M (F.next c)) = rw (may.line, eqb_self c) at (I.handoffs_right c i j) in
      let y = registering_is (F.place c) i j (row_of M (F.next c)) row (handoffs c l) z in
      by_p _ _ _ (arrive_sum M (unlined F i j) j c (entry_of row) (I.real c (rw y.0)) (λ s. ap (λ (f : List ℕ). entry_of f s) y.1.0 ∙ row_is_next M F G I c s))

-- the initiator of a held message is on the floor
pub initiator_on_floor : (M : Limits) (F : Floor) (G : History) → Invariant M F G → (m : ℕ) → Held M F.waiting m → F.initiator m < F.stations
initiator_on_floor M F G I m h = I.senders (F.initiator m) (let z = (I.held m h).low in omega arith)

plus_none : (a b : ℕ) → a ≡ b → a + 0 ≡ b
plus_none a b e = omega arith

by_nothing : (n : ℕ) → n + 0 ≡ n + (0 + 0)
by_nothing n = omega arith

refused_none : (M : Limits) (F : Floor) (e : Event) (r : ℕ) → total F + taken_with F e (refused r) ≡ total F + 0
refused_none M F (start n k) r = refl
refused_none M F (enter t c) r = refl
refused_none M F (send s set text) r = refl
refused_none M F (wire i j) r = refl
refused_none M F (radio t c buffer) r = refl
refused_none M F (move c to) r = refl
refused_none M F (flag c b) r = refl
refused_none M F (retire c) r = refl
refused_none M F (group g set) r = refl
refused_none M F (send_group s g text) r = refl
refused_none M F (send_long s set text) r = refl

-- a retired cart takes its next numbers with it
retire_sum : (F : Floor) (c : ℕ) → c < F.carts → total (on_retire F c).floor + sum F.stations (F.next c) ≡ total F + (0 + 0)
unfolding on_retire total
retire_sum F c lc =
    let f : ℕ → ℕ = λ d. sum F.stations (λ s. F.next d s) in
    let g : ℕ → ℕ = λ d. sum F.stations (λ s. cond (eqb d c) 0 (F.next d s)) in
    let none : g c ≡ 0 = rw (eqb_self c) (sum_zero F.stations) in
    let z = sum_bump F.carts f g c (f c) lc (λ d ld ne. rw (ne_eqb d c ne)) (omega arith) in
    omega arith

-- each event
pub step_sum : (M : Limits) (F : Floor) (G : History) → Invariant M F G → (e : Event) → total (step M F e) + taken_with F e (answer M F e)
    ≡ total F + gain e (answer M F e)
unfolding on_enter on_flag on_retire on_group with_message on_move total
step_sum M F G I =
    by_step M F (λ e X a. total X + taken_with F e a ≡ total F + gain e a) I.started (λ e r. refused_none M F e r)
    (λ t c may. plus_none _ _ (by_p _ _ _ (arrive_sum M F t c (λ s. 0) may.cart
    (λ s. sym (I.out c s (outside_is (F.place c) may.is_outside))))))
    (λ s set text m may. by_nothing (total F))
    (λ i j r l may. plus_none _ _ (handle_sum M F G I i j r l may))
    (λ t c buffer m may. let k = I.queues m t c may.queued in plus_none _ _
    (radio_sum M F m t c may.cart (initiator_on_floor M F G I m k.held) k.due))
    (λ c to may. by_nothing (total F))
    (λ c b may. by_nothing (total F))
    (λ c may. retire_sum F c may.cart)
    (λ g set may. by_nothing (total F))
    (λ s g text m may. by_nothing (total F))
    (λ s set text m may. by_nothing (total F))

pub sums : (M : Limits) (F : Floor) (G : History) → Invariant M F G → LineFacts M F → (es : List Event) → total (floor_after M F es) + taken_away M F es
    ≡ total F + gains M F es
unfolding floor_after gains taken_away
sums M F G I X [] = omega arith
sums M F G I X (e ∷ es) =
    let a = step_sum M F G I e in
    let b = sums M (step M F e) (note (as_sent F e) (answer M F e) G) (step_ok M F G I X e) (step_lines M F G I X e) es in
    omega arith

pub started_total : (n k : ℕ) → total (just_started n k) ≡ 0
unfolding total
started_total n k = sum_nil k (λ c. sum n (λ s. 0)) (λ c l. sum_zero n)
