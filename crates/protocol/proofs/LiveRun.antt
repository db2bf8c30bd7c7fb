-- A floor that was reached from a start and is quiet holds no message, and so the two lists are equal.
use mathlib.Core.Path.{ap, refl, subst, sym, ◌∙◌, ◌≡◌}
use mathlib.Core.Bool.{false, not, true}
use mathlib.Core.List.{◌++◌, List, [], ◌∷◌}
use Prim.Native.Nat.{◌<◌, ℕ, ◌≤◌}
use native.Mathlib.Omega.{arith}
use lib.Dec.{eqb}
use borrow.Author.Tests.{eq-eqb, eqb-false, eqb-true}
use Rattle.protocol.specs.CartSets.{has, union}
use Rattle.protocol.specs.Floor.{Floor, Limits, Place, Record, ack_list, at, delete, deregister, entered, is_held, just_started, leaving, most_text, multicast, outside, register, travelling}
use Rattle.protocol.specs.Events.{Answer, Done, Event, radio}
use Rattle.protocol.specs.Groups.{as_sent}
use Rattle.protocol.specs.Handoff.{entry_of, on_register, room_of, row_of, struck}
use Rattle.protocol.specs.Wireless.{all_acked, hand_over, queue_head, receive, send_acks, send_acks_if_all}
use Rattle.protocol.specs.Deregister.{leave}
use Rattle.protocol.specs.Wired.{buffer, handle, multicast_by_row, on_ack_list, on_delete, on_multicast}
use Rattle.protocol.specs.Form.{acks_to, bit, deregistering, handoff_of, handoffs, passes_form, registering}
use Rattle.protocol.specs.Blank.{BlankBeyond}
use Rattle.protocol.specs.Refusals.{refusal}
use Rattle.protocol.specs.Step.{answer, floor_after, step}
use Rattle.protocol.specs.TwoLists.{owes}
use Rattle.protocol.specs.Ranges.{PlaceInRange}
use Rattle.protocol.specs.Quiet.{AllSteady, IsWork, Works, most_steps, quiet_events, quiet_floor, would_receive}
use Rattle.protocol.proofs.Tests.{by_lt, by_option_lem, by_test, clash, eqb_self, every_all, on_cond, on_option, on_update, same_test}
use Rattle.protocol.proofs.SetLaws.{has_zero, same_members, some_member, somebody}
use Rattle.protocol.proofs.InOrder.{completed, deregister_is, send_each_is}
use Rattle.protocol.proofs.Accepted.{MayWire, by_step, unlined}
use Rattle.protocol.proofs.CatchUp.{arrive_at_once, one_at_once}
use Rattle.protocol.proofs.HandoffSteps.{deregistering_is, registering_is}
use Rattle.protocol.proofs.NextEvent.{Quiet, next_is_lem, radio_accepted}
use Rattle.protocol.proofs.QuietRun.{all_work, potential_most, stops}
use Rattle.protocol.proofs.Invariant.{Held, History, Invariant}
use Rattle.protocol.proofs.InvariantStep.{note, step_ok}
use Rattle.protocol.proofs.Counting.{count_none, count_lines_none}
use Rattle.protocol.proofs.LineFacts.{LineFacts}
use Rattle.protocol.proofs.LinesSteps.{started_lines, step_lines}
use Rattle.protocol.proofs.Demand3.{nothing, started_ok}
use Rattle.protocol.proofs.Sized.{Sized}
use Rattle.protocol.proofs.FormTest.{clauses_of, sized_of}
use Rattle.protocol.proofs.Ready.{ready_run, started_after}
use Rattle.protocol.proofs.QueueOrder.{head_first, no_head}
use Rattle.protocol.proofs.Live.{ListsWait, Live, never, waits_for}
use Rattle.protocol.proofs.LiveSteps.{listed_buffered, local_entered, step_live}

-- A REACHED FLOOR, with a history of its run
pub record Reached (M : Limits) (F : Floor) (G : History) : Type 0 where
  pub fits_history : Invariant M F G
  pub on_lines_lem : LineFacts M F
  pub live : Live M F never
  pub lists_wait : ListsWait M F

pub reached_step : (M : Limits) (F : Floor) (G : History) (e : Event) → Reached M F G → Reached M (step M F e) (note (as_sent F e) (answer M F e) G)
reached_step M F G e R =
    let z = step_live M F G R.fits_history R.on_lines_lem R.live R.lists_wait e in
    record {
      fits_history = step_ok M F G R.fits_history R.on_lines_lem e;
      on_lines_lem = step_lines M F G R.fits_history R.on_lines_lem e;
      live = z.0;
      lists_wait = z.1;
    }

-- the history of a list of events
unfoldable pub history_after : Limits → Floor → History → List Event → History
history_after M F G [] = G
history_after M F G (e ∷ es) = history_after M (step M F e) (note (as_sent F e) (answer M F e) G) es

pub reached_run : (M : Limits) (F : Floor) (G : History) (es : List Event) → Reached M F G → Reached M (floor_after M F es) (history_after M F G es)
unfolding floor_after history_after
reached_run M F G [] R = R
reached_run M F G (e ∷ es) R = reached_run M (step M F e) (note (as_sent F e) (answer M F e) G) es (reached_step M F G e R)

pub reached_start : (M : Limits) (n k : ℕ) → n ≤ M.stations → Reached M (just_started n k) nothing
reached_start M n k fit =
    record {
      fits_history = started_ok M n k fit;
      on_lines_lem = started_lines M n k;
      live = record {
        queue_come = λ m t c e. clash (has 0 c) e (has_zero c);
        acks_come = λ m t c h. clash true refl h.some;
        behind_queued = λ c t s q e. clash false e refl;
        passed_listed = λ m t c h. clash true refl h.some;
        passed_acks = λ m c h. clash true refl h.some;
        named_entered = λ m c h. clash true refl h.some;
        deletes_come = λ m t h. clash true refl h.some;
      };
      lists_wait = λ m t c h. clash true refl h.some;
    }

-- QUIET

-- a cart of which no hand-off record is on a line, and that has entered, is at a station
pub settled : (n : ℕ) (p : Place) (row : List ℕ) → PlaceInRange n p → ((i j : ℕ) → i < n → j < n → [] ≡ handoff_of p i j row) → entered p ≡ true
    → (s : ℕ) × (s < n) × (p ≡ at s)
settled n outside row h off e = clash false e refl
settled n (at s) row h off e = (s, h, refl)
settled n (leaving s u) row h off e =
    absurd (let z : [] ≡ deregistering ∷ [] = rw (eqb_self u, eqb_self s) at (off u s h.1 h.0) in let y : ◌≡◌ {A = ℕ} 0 1 = cc in omega arith)
settled n (travelling s u) row h off e =
    absurd (let z : [] ≡ registering row ∷ [] = rw (eqb_self s, eqb_self u) at (off s u h.0 h.1) in let y : ◌≡◌ {A = ℕ} 0 1 = cc in omega arith)

-- a wire or radio step changes no flag, and no cart enters
abbrev StaysSteady : Floor → Event → Floor → Answer → Type 0
StaysSteady F e X a = IsWork e → AllSteady X

module _ (M : Limits) (F : Floor) (G : History) (I : Invariant M F G) (A : AllSteady F) where
  handled_steady : (i j : ℕ) (r : Record) (l : List Record) → MayWire F i j r l → AllSteady (handle M (unlined F i j) i j r).floor
  unfolding handle on_multicast multicast_by_row on_ack_list on_delete on_register room_of buffer leave struck
  handled_steady i j (multicast n) l may = on_option (λ (d : Done). AllSteady d.floor) (room_of M F i n) (λ q. A) (λ m q. A)
  handled_steady i j (ack_list n set) l may =
      on_option (λ (d : Done). AllSteady d.floor) (room_of M F j n) (λ q. A)
      (λ m q. on_cond (λ (d : Done). AllSteady d.floor) (eqb (union (F.acked m) set) (F.named m)) (λ b. A) (λ b. A))
  handled_steady i j (delete n) l may = on_option (λ (d : Done). AllSteady d.floor) (room_of M F i n) (λ q. A) (λ m q. A)
  handled_steady i j (deregister c) l may =
      let z : deregistering ∷ handoffs c l ≡ handoff_of (F.place c) i j (row_of M (F.next c)) = rw (may.line, eqb_self c) at (I.handoffs_right c i j) in
      let is_p = (deregistering_is (F.place c) i j (row_of M (F.next c)) (handoffs c l) z).0 in
      rw (deregister_is M (unlined F i j) i j c)
      (subst (λ (X : Floor). AllSteady X) (sym (send_each_is (leave (unlined F i j) i j c) j (completed M (unlined F i j) i j c)))
      (λ d. on_update (λ p. entered p ≡ true → F.steady d ≡ true) F.place c (travelling j i) d (λ q e. rw q (A c (rw is_p))) (λ q. A d)))
  handled_steady i j (register c row) l may =
      let z : registering row ∷ handoffs c l ≡ handoff_of (F.place c) i j (row_of M (F.next c)) = rw (may.line, eqb_self c) at (I.handoffs_right c i j) in
      let is_p = (registering_is (F.place c) i j (row_of M (F.next c)) row (handoffs c l) z).0 in
      rw (arrive_at_once M (unlined F i j) j c (entry_of row))
      (λ d. on_update (λ p. entered p ≡ true → F.steady d ≡ true) F.place c (at j) d (λ q e. rw q (A c (rw is_p))) (λ q. A d))

  pub work_steady : (e : Event) → StaysSteady F e (step M F e) (answer M F e)
  unfolding hand_over receive send_acks
  work_steady =
      by_step M F (StaysSteady F) I.started (λ e r w. A)
      (λ t c may w. absurd w)
      (λ s set text m may w. absurd w)
      (λ i j r l may w. handled_steady i j r l may)
      (λ t c buffer m may w. rw (one_at_once M (send_acks_if_all (receive F m t c) m t) t c (F.initiator m))
      (on_cond (λ (X : Floor). AllSteady X) (all_acked (receive F m t c) m t) (λ b. A) (λ b. A)))
      (λ c to may w. absurd w)
      (λ c b may w. absurd w)
      (λ c may w. absurd w)
      (λ g set may w. absurd w)
      (λ s g text m may w. absurd w)
      (λ s set text m may w. absurd w)

-- so the dispatcher changes no flag
pub works_steady : (M : Limits) (F : Floor) (G : History) (es : List Event) → Reached M F G → Works M F es → AllSteady F
    → AllSteady (floor_after M F es)
unfolding floor_after
works_steady M F G [] R w A = A
works_steady M F G (e ∷ es) R w A =
    works_steady M (step M F e) (note (as_sent F e) (answer M F e) G) es (reached_step M F G e R) w.1.1
    (work_steady M F G R.fits_history A e w.1.0)

module _ (M : Limits) (F : Floor) (G : History) (R : Reached M F G) (S : Sized M F) (form : passes_form M F ≡ true) (Q : Quiet M F) (steady : AllSteady F) where
  I : Invariant M F G
  I = R.fits_history

  L : Live M F never
  L = R.live

  X : LineFacts M F
  X = R.on_lines_lem

  -- every cart that has entered is at a station
  at_station : (c : ℕ) → entered (F.place c) ≡ true → (s : ℕ) × (s < F.stations) × (F.place c ≡ at s)
  at_station c e =
      settled F.stations (F.place c) (row_of M (F.next c)) (S.places c)
      (λ i j li lj. let z = I.handoffs_right c i j in let y : handoffs c [] ≡ handoff_of (F.place c) i j (row_of M (F.next c)) = rw (Q.no_record i j li lj) at z in y) e

  -- nobody is queued
  no_entry : (k t d : ℕ) → has (F.queue k t) d ≡ true → ⊥
  no_entry k t d e =
      let q = I.queues k t d e in
      let p = at_station d (local_entered (F.place d) t q.home) in
      let is_t : p.0 ≡ t = eqb-true p.0 t (let z = q.home in rw p.2 at z) in
      let lt : t < F.stations = (let z = p.1 in omega arith) in
      by_option_lem (queue_head M F t)
      (λ n. let z = eqb-true (F.queue k t) 0 (no_head M F t n k q.held.slot) in clash (has 0 d) (rw z at e) (has_zero d))
      (λ h n. let a = head_first M F t h n in
      let b = somebody (F.queue h t) a.1.0 in
      let c = b.0 in
      let qc = I.queues h t c b.1 in
      let pc = at_station c (local_entered (F.place c) t qc.home) in
      let is_c : F.place c ≡ at t = pc.2 ∙ (let z = eqb-true pc.0 t (let z = qc.home in rw pc.2 at z) in rw z) in
      let lc = I.real c (rw is_c) in
      let ok = radio_accepted M F t c h form lt lc is_c n b.1 (S.messages.text h a.0) (steady c (rw is_c)) in
      clash (would_receive M F t c) (eq-eqb (refusal M F (radio t c (most_text M))) 0 ok) (Q.no_receipt t c lt lc))

  -- every cart that has entered is past all that was sent
  past_all : (c s : ℕ) → entered (F.place c) ≡ true → F.sent s ≤ F.next c s
  past_all c s e =
      let p = at_station c e in
      by_lt (F.next c s) (F.sent s)
      (λ l. absurd
      (by_lt s F.stations
      (λ ls. let r = I.run s p.0 p.1 in
      let r' : F.expected p.0 s ≡ F.sent s = rw (Q.no_record s p.0 ls p.1) at r in
      let b = L.behind_queued c p.0 s refl (rw p.2 (eqb_self p.0)) (omega arith) in
      no_entry b.0 p.0 c b.1)
      (λ ls. let z = I.senders s (omega arith) in omega arith)))
      (λ l. l)

  module _ (m : ℕ) (h : Held M F.waiting m) where
    named_past : (c : ℕ) → has (F.named m) c ≡ true → F.number m < F.next c (F.initiator m)
    named_past c n = let a = past_all c (F.initiator m) (L.named_entered m c h n) in let b = (I.held m h).low in omega arith

    -- no station has an ack list
    no_list : (t c : ℕ) → t < F.stations → has (F.acks m t) c ≡ false
    no_list t c lt =
        by_test (has (F.acks m t) c)
        (λ e. let r = waits_for F m t (R.lists_wait m t c h lt e) in
        let n = I.within m t r.0 h lt r.3 in
        let v = L.passed_listed m t r.0 h lt (listed_buffered M F X L m t c h lt e) r.2 r.3 (named_past r.0 n) in
        clash (has (F.acks m t) r.0) v r.4)
        (λ e. e)

    -- so every named cart is known to have the message
    named_acked : (c : ℕ) → has (F.named m) c ≡ true → has (F.acked m) c ≡ true
    named_acked c n =
        let a = L.passed_acks m c h n (named_past c n) in
        let b = count_none F.stations (λ t. has (F.acks m t) c) (λ t lt. no_list t c lt) in
        let d = count_lines_none F.stations (acks_to (F.initiator m) (F.number m) c) F.lines (λ i j li lj. rw (Q.no_record i j li lj) tt) in
        by_test (has (F.acked m) c) (λ e. e) (λ e. absurd (let z : bit (has (F.acked m) c) ≡ 0 = rw e in omega arith))

    whole_set : F.acked m ≡ F.named m
    whole_set =
        same_members F.carts (F.acked m) (F.named m) (S.messages.acked m h.slot) (S.messages.named m h.slot)
        (λ c lc. same_test (has (F.acked m) c) (has (F.named m) c) (λ e. X.within m c h (let z : bit (has (F.acked m) c) ≡ 1 = rw e in omega arith)) (named_acked c))

    not_held : ⊥
    not_held =
        let ne : F.waiting m ≡ 0 → ⊥ = eqb-false (F.waiting m) 0 h.some in
        let w = some_member F.stations (F.waiting m) (S.messages.waiting m h.slot) (omega arith) in
        let li : F.initiator m < F.stations = I.senders (F.initiator m) (let z = (I.held m h).low in omega arith) in
        let d = L.deletes_come m w.0 h w.1 whole_set w.2 in
        let d' : 0 < 0 = rw (Q.no_record (F.initiator m) w.0 li w.1) at d in
        omega arith

  -- NO MESSAGE IS HELD
  pub none_held : (m : ℕ) → m < M.held → is_held F m ≡ false
  none_held m lm =
      by_test (eqb (F.waiting m) 0) (λ e. rw e) (λ e. absurd (not_held m (record { slot = lm; some = e })))

-- where no message is held, nothing is owed
pub none_owed : (M : Limits) (F : Floor) → ((m : ℕ) → m < M.held → is_held F m ≡ false) → (s c : ℕ) → owes M F s c ≡ false
unfolding owes
none_owed M F h s c = ap not (every_all M.held _ (λ m lm. rw (h m lm)))

-- WHERE THE DISPATCHER LEAVES A REACHED FLOOR
pub quiet_holds : (M : Limits) (F : Floor) (G : History) → Reached M F G → BlankBeyond M F → passes_form M F ≡ true → AllSteady F
    → (m : ℕ) → m < M.held → is_held (quiet_floor M F) m ≡ false
unfolding quiet_events
quiet_holds M F G R B h steady =
    let es = quiet_events M F in
    let g = ready_run M F es (λ s. (B, h)) (started_after M F (clauses_of M F h).floor.0 es) in
    let Q : Quiet M (floor_after M F es) = (let z = next_is_lem M (floor_after M F es) in rw (stops M (most_steps M) F B h (potential_most M F B h)) at z) in
    none_held M (floor_after M F es) (history_after M F G es) (reached_run M F G es R) (sized_of M (floor_after M F es) g.0 (clauses_of M (floor_after M F es) g.1)) g.1 Q
    (works_steady M F G es R (all_work M (most_steps M) F B h) steady)

-- a run and what follows it
pub floor_after_more : (M : Limits) (F : Floor) (es ds : List Event) → floor_after M F (es ++ ds) ≡ floor_after M (floor_after M F es) ds
unfolding floor_after
floor_after_more M F [] ds = refl
floor_after_more M F (e ∷ es) ds = floor_after_more M (step M F e) es ds
