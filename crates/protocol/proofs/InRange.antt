use mathlib.Core.Path.{refl, ◌≡◌}
use mathlib.Core.List.{List}
use Prim.Native.Nat.{◌*◌, ◌-◌, ◌<◌, max, suc, ℕ, ◌≤◌}
use native.Mathlib.Nat.{mul-le-mul_right}
use native.Mathlib.Omega.{arith}
use lib.Dec.{eqb}
use borrow.Author.Tests.{ne_eqb}
use Rattle.protocol.specs.CartSets.{union}
use Rattle.protocol.specs.Floor.{Floor, Limits, Record, ack_list, delete, deregister, multicast, register}
use Rattle.protocol.specs.Events.{Answer, Done, Event, accepted, refused}
use Rattle.protocol.specs.Groups.{on_group}
use Rattle.protocol.specs.Handoff.{entry_of, on_enter, on_flag, on_move, on_register, on_retire, passed_over, room_of}
use Rattle.protocol.specs.Deregister.{on_deregister}
use Rattle.protocol.specs.Wired.{handle, local_row, multicast_by_row, on_ack_list, on_delete, on_multicast, passes_over}
use Rattle.protocol.specs.Wireless.{all_acked, hand_over, receive, send_acks, send_acks_if_all}
use Rattle.protocol.specs.Form.{multicast_numbers}
use Rattle.protocol.specs.Step.{answer}
use Rattle.protocol.specs.Ranges.{InRange, RecordInRange}
use Rattle.protocol.proofs.Tests.{by_lt, eqb_self, on_cond, on_option, update2_at}
use Rattle.protocol.proofs.Accepted.{MayRadio, MayWire, by_step, unlined}
use Rattle.protocol.proofs.Invariant.{Held, History, Invariant}
use Rattle.protocol.proofs.Updates.{counts_up_le}
use Rattle.protocol.proofs.CatchUp.{catch_up_ascent, catch_up_at_once, one_at_once}
use Rattle.protocol.proofs.Counting.{all_map2, count_le, sum_le}
use Rattle.protocol.proofs.LineFacts.{HeldRecord}
use Rattle.protocol.proofs.SumSteps.{arrive_bound}
use Rattle.protocol.proofs.FormFacts.{FormFacts}
use Rattle.protocol.proofs.Sized.{AcksFit, Sized}
use Rattle.protocol.proofs.FormTest.{no_line}

-- "with nothing out of range": what the form rule says of every number that is stored, and of p.
-- a held message's number
held_number : (M : Limits) (F : Floor) → FormFacts M F → Sized M F → (m : ℕ) → Held M F.waiting m → F.number m ≤ M.last
held_number M F X S m h = let a = X.kept m h in let b = S.numbers (F.initiator m) in omega arith

-- the numbers and carts of a record
record_in_range : (M : Limits) (F : Floor) → FormFacts M F → Sized M F → (i j : ℕ) (r : Record) → AcksFit F.carts r
    → HeldRecord M F i j r → RecordInRange M.last F.carts r
record_in_range M F X S i j (multicast n) a g = let z = held_number M F X S g.m g.held in rw g.is_number at z
record_in_range M F X S i j (ack_list n x) a g = (let h = g.0 in let z = held_number M F X S h.m h.held in rw h.is_number at z, a)
record_in_range M F X S i j (delete n) a g = let h = g.0 in let z = held_number M F X S h.m h.held in rw h.is_number at z
record_in_range M F X S i j (deregister c) a g = g
record_in_range M F X S i j (register c row) a g = g

pub in_range : (M : Limits) (F : Floor) → FormFacts M F → Sized M F → InRange M F
in_range M F X S =
    record {
      stations = S.counts.stations;
      carts = S.counts.carts;
      groups = λ g l. (S.groups g l).0;
      sent = S.numbers;
      expected = λ t s l. let a = counts_up_le (F.expected t s) (multicast_numbers (F.lines s t)) (F.sent s) (X.run s t l) in let b = S.numbers s in omega arith;
      next = λ c s. let a = X.low c s in let b = S.numbers s in omega arith;
      place = S.places;
      initiator = λ m l w. X.senders (F.initiator m) (let a = X.kept m (taken m l w) in omega arith);
      number = λ m l w. held_number M F X S m (taken m l w);
      named = S.messages.named;
      acked = S.messages.acked;
      waiting = S.messages.waiting;
      text = S.messages.text;
      stored = S.store;
      copy = S.copies.copy;
      acks = S.copies.acks;
      queue = S.copies.queue;
      records = λ i j.
          by_lt i F.stations
          (λ a. by_lt j F.stations
          (λ b. all_map2 (F.lines i j) (λ r f g. record_in_range M F X S i j r f.1.1 g) (S.lines i j) (X.on_lines_lem.records_held i j a b))
          (λ b. rw (no_line F.stations F.carts i j (F.lines i j) (S.lines i j) (λ x y. omega arith)) tt))
          (λ a. rw (no_line F.stations F.carts i j (F.lines i j) (S.lines i j) (λ x y. omega arith)) tt);
    }
  where
    taken : (m : ℕ) → m < M.held → 0 < F.waiting m → Held M F.waiting m
    taken m l w = record { slot = l; some = ne_eqb (F.waiting m) 0 (λ e. omega arith) }

-- THE NUMBERS PASSED OVER

-- p of an answer is at most b
abbrev pub PassesAtMost : ℕ → Answer → Type 0
PassesAtMost b (refused r) = Unit {0}
PassesAtMost b (accepted l) = l.p ≤ b

module _ (M : Limits) (F : Floor) (G : History) (I : Invariant M F G) (S : Sized M F) where
  most : ℕ
  most = max (F.stations * suc M.last) F.carts

  expected_most : (t s : ℕ) → t < F.stations → F.expected t s ≤ suc M.last
  expected_most t s l = let a = counts_up_le (F.expected t s) (multicast_numbers (F.lines s t)) (F.sent s) (I.run s t l) in let b = S.numbers s in omega arith

  arrival_most : (H : Floor) (t c : ℕ) (row : ℕ → ℕ) → H.stations ≡ F.stations → ((s : ℕ) → H.expected t s ≡ F.expected t s) → t < F.stations → passed_over M H t c row ≤ most
  unfolding most
  arrival_most H t c row n x l =
      let a = arrive_bound M H t c row in
      let b = sum_le H.stations (suc M.last) (λ s. H.expected t s - row s) (λ s k. let z = expected_most t s l in let y = x s in omega arith) in
      let e : H.stations * suc M.last ≡ F.stations * suc M.last = rw n in
      omega arith

  handled_most : (i j : ℕ) (r : Record) (l : List Record) → MayWire F i j r l → (handle M (unlined F i j) i j r).report.p ≤ most
  unfolding handle on_multicast multicast_by_row on_ack_list on_delete on_deregister on_register room_of most
  handled_most i j (multicast n) l may =
      on_option (λ (d : Done). d.report.p ≤ most) (room_of M F i n) (λ q. omega arith)
      (λ m q. let z = count_le F.carts (passes_over (unlined F i j) (local_row F j) m i n) in omega arith)
  handled_most i j (ack_list n set) l may =
      on_option (λ (d : Done). d.report.p ≤ most) (room_of M F j n) (λ q. omega arith)
      (λ m q. on_cond (λ (d : Done). d.report.p ≤ most) (eqb (union (F.acked m) set) (F.named m)) (λ b. omega arith) (λ b. omega arith))
  handled_most i j (delete n) l may = on_option (λ (d : Done). d.report.p ≤ most) (room_of M F i n) (λ q. omega arith) (λ m q. omega arith)
  handled_most i j (deregister c) l may = omega arith
  handled_most i j (register c row) l may = arrival_most (unlined F i j) j c (entry_of row) refl (λ s. refl) may.to

  radio_most : (m t c : ℕ) → MayRadio M F t c m → (hand_over M F m t c).report.p ≤ most
  unfolding hand_over most receive send_acks
  radio_most m t c may =
      let s = F.initiator m in
      let R = receive F m t c in
      let k = I.queues m t c may.queued in
      let one : suc M.last ≤ F.stations * suc M.last = (let z = mul-le-mul_right (suc M.last) S.counts.some_stations in omega arith) in
      let x = expected_most t s may.station in
      let due = k.due in
      rw (one_at_once M (send_acks_if_all R m t) t c s)
      (on_cond (λ (D : Floor). (catch_up_at_once M D t c (λ u. eqb u s)).next c s - suc (F.number m) ≤ most) (all_acked R m t)
      (λ b. climbs_most (send_acks R m t) t c s (F.number m) x one refl (update2_at F.next c s (suc (F.number m))))
      (λ b. climbs_most R t c s (F.number m) x one refl (update2_at F.next c s (suc (F.number m)))))
    where
      climbs_most : (D : Floor) (t c s n : ℕ) → F.expected t s ≤ suc M.last → suc M.last ≤ F.stations * suc M.last → D.expected t s ≡ F.expected t s → D.next c s ≡ suc n
          → (catch_up_at_once M D t c (λ u. eqb u s)).next c s - suc n ≤ max (F.stations * suc M.last) F.carts
      climbs_most D t c s n x one e f = rw (eqb_self c, eqb_self s) (let a = (catch_up_ascent M D t c s).below in omega arith)

  pub step_most : (e : Event) → PassesAtMost (max (F.stations * suc M.last) F.carts) (answer M F e)
  unfolding on_enter on_flag on_retire on_group on_move most
  step_most =
      by_step M F (λ e X a. PassesAtMost most a) I.started (λ e r. tt)
      (λ t c may. arrival_most F t c (λ s. 0) refl (λ s. refl) may.station)
      (λ s set text m may. omega arith)
      handled_most
      (λ t c buffer m may. radio_most m t c may)
      (λ c to may. omega arith)
      (λ c b may. omega arith)
      (λ c may. omega arith)
      (λ g set may. omega arith)
      (λ s g text m may. omega arith)
      (λ s set text m may. omega arith)
