-- Demand 3 over a run: the lists of a run are those of its history, from each cart's latest entry.
use mathlib.Core.Path.{ap, refl, sym, ◌∙◌, ◌≡◌}
use mathlib.Core.Bool.{◌&&◌, cond, false, not, true}
use mathlib.Core.List.{◌++◌, List, [], ◌∷◌}
use Prim.Native.Nat.{◌+◌, ◌<◌, ℕ}
use native.Mathlib.Omega.{arith}
use lib.Dec.{eqb}
use lib.ListN.{length, length-append}
use borrow.Author.Tests.{eqb-true, ne_eqb, not-true}
use Rattle.protocol.specs.Folds.{update}
use Rattle.protocol.specs.CartSets.{has, union}
use Rattle.protocol.specs.Floor.{Floor, Limits, Place, Record, ack_list, at, delete, deregister, entered, leaving, multicast, register, station_of, travelling}
use Rattle.protocol.specs.Events.{Answer, Done, Event, Report, accepted, enter, flag, group, move, radio, refused, retire, send, send_group, send_long, start, wire}
use Rattle.protocol.specs.Groups.{as_sent, on_group}
use Rattle.protocol.specs.Handoff.{arrive, entry_of, on_enter, on_flag, on_move, on_register, on_retire, room_of, row_of, struck}
use Rattle.protocol.specs.Deregister.{leave}
use Rattle.protocol.specs.Wired.{buffer, handle, multicast_by_row, on_ack_list, on_delete, on_multicast, with_message}
use Rattle.protocol.specs.Wireless.{all_acked, hand_over, receive, send_acks, send_acks_if_all}
use Rattle.protocol.specs.Form.{deregistering, handoff_of, handoffs, registering}
use Rattle.protocol.specs.Step.{answer, floor_after, step}
use Rattle.protocol.specs.TwoLists.{Lists, TwoListRule, item, lists_after, lists_step, owes}
use Rattle.protocol.specs.Route.{Sending, is_retirement, retires_none, sending_of, sendings_of}
use Rattle.protocol.proofs.Tests.{and-false, and_left, and_right, by_eq, by_test, clash, eqb_self, every_all, on_cond, on_option, on_update}
use Rattle.protocol.proofs.SetLaws.{member_below}
use Rattle.protocol.proofs.FloorLaws.{at_is, outside_is}
use Rattle.protocol.proofs.InOrder.{completed, deregister_is, send_each_is}
use Rattle.protocol.proofs.Accepted.{MayEnter, MayMove, MayRadio, MayRetire, MaySend, MayWire, by_step, named_has_entered, unlined}
use Rattle.protocol.proofs.Invariant.{History, Invariant, names, naming}
use Rattle.protocol.proofs.Updates.{append-nil}
use Rattle.protocol.proofs.CatchUp.{arrive_at_once, one_at_once}
use Rattle.protocol.proofs.HandoffSteps.{deregistering_is, registering_is}
use Rattle.protocol.proofs.RetireStep.{forgotten, length_forget, naming_forget}
use Rattle.protocol.proofs.InvariantStep.{note, note_refused}
use Rattle.protocol.proofs.Demand3.{naming_more, naming_none, step_size, two_lists}
use Rattle.protocol.proofs.LiveRun.{Reached, reached_step}
use Rattle.protocol.proofs.Route.{listed, send_adds}

-- the lists are those of the history, for a cart that is in; for one that is outside they are equal
pub record Same (F : Floor) (G : History) (L : Lists) : Type 0 where
  pub count : (s : ℕ) → L.count s ≡ length (G.sends s)
  pub sent : (s c : ℕ) → entered (F.place c) ≡ true → L.sent s c ≡ naming c 0 (G.sends s)
  pub received : (s c : ℕ) → entered (F.place c) ≡ true → L.received s c ≡ G.received s c
  pub equal : (s c : ℕ) → entered (F.place c) ≡ false → L.sent s c ≡ L.received s c

lists_refused : (e : Event) (r : ℕ) (L : Lists) → lists_step e (refused r) L ≡ L
lists_refused (start n k) r L = refl
lists_refused (enter t c) r L = refl
lists_refused (send s set text) r L = refl
lists_refused (wire i j) r L = refl
lists_refused (radio t c buffer) r L = refl
lists_refused (move c to) r L = refl
lists_refused (flag c b) r L = refl
lists_refused (retire c) r L = refl
lists_refused (group g set) r L = refl
lists_refused (send_group s g text) r L = refl
lists_refused (send_long s set text) r L = refl

-- what a send reports
abbrev sent_report : Floor → (kind : ℕ) → ℕ → Report
sent_report F kind s = record { kind = kind; a = s; b = F.sent s; p = 0; w = F.stations; q = 0; text = [] }

-- nobody has entered or gone
abbrev SameCarts : Floor → Floor → Type 0
SameCarts F X = (d : ℕ) → entered (X.place d) ≡ entered (F.place d)

same_carts : (F X : Floor) (G : History) (L : Lists) → SameCarts F X → Same F G L → Same X G L
same_carts F X G L e S =
    record {
      count = S.count;
      sent = λ s c h. S.sent s c (sym (e c) ∙ h);
      received = λ s c h. S.received s c (sym (e c) ∙ h);
      equal = λ s c h. S.equal s c (sym (e c) ∙ h);
    }

-- a cart that is in and stays in
other_place : (F : Floor) (c : ℕ) (p : Place) → entered (F.place c) ≡ true → entered p ≡ true → (d : ℕ) → entered (update F.place c p d) ≡ entered
    (F.place d)
other_place F c p a b d = on_update (λ q. entered q ≡ entered (F.place d)) F.place c p d (λ z. b ∙ sym (rw z a)) (λ z. refl)

module _ (M : Limits) (F : Floor) (G : History) (I : Invariant M F G) where
  handled_carts : (i j : ℕ) (r : Record) (l : List Record) → MayWire F i j r l → SameCarts F (handle M (unlined F i j) i j r).floor
  unfolding handle on_multicast multicast_by_row on_ack_list on_delete on_register room_of buffer leave struck
  handled_carts i j (multicast n) l may = on_option (λ (d : Done). SameCarts F d.floor) (room_of M F i n) (λ q d. refl) (λ m q d. refl)
  handled_carts i j (ack_list n set) l may =
      on_option (λ (d : Done). SameCarts F d.floor) (room_of M F j n) (λ q d. refl)
      (λ m q. on_cond (λ (d : Done). SameCarts F d.floor) (eqb (union (F.acked m) set) (F.named m)) (λ b d. refl) (λ b d. refl))
  handled_carts i j (delete n) l may = on_option (λ (d : Done). SameCarts F d.floor) (room_of M F i n) (λ q d. refl) (λ m q d. refl)
  handled_carts i j (deregister c) l may =
      let z : deregistering ∷ handoffs c l ≡ handoff_of (F.place c) i j (row_of M (F.next c)) = rw (may.line, eqb_self c) at
      (I.handoffs_right c i j) in
      let is_p = (deregistering_is (F.place c) i j (row_of M (F.next c)) (handoffs c l) z).0 in
      λ d. ap (λ (X : Floor). entered (X.place d)) (deregister_is M (unlined F i j) i j c)
      ∙ ap (λ (X : Floor). entered (X.place d)) (send_each_is (leave (unlined F i j) i j c) j (completed M (unlined F i j) i j c))
      ∙ other_place F c (travelling j i) (rw is_p) refl d
  handled_carts i j (register c row) l may =
      let z : registering row ∷ handoffs c l ≡ handoff_of (F.place c) i j (row_of M (F.next c)) = rw (may.line, eqb_self c) at
      (I.handoffs_right c i j) in
      let is_p = (registering_is (F.place c) i j (row_of M (F.next c)) row (handoffs c l) z).0 in
      λ d. ap (λ (X : Floor). entered (X.place d)) (arrive_at_once M (unlined F i j) j c (entry_of row)) ∙ other_place F c (at j) (rw is_p) refl d

  radio_carts : (m t c : ℕ) → SameCarts F (hand_over M F m t c).floor
  unfolding hand_over receive send_acks
  radio_carts m t c =
      rw (one_at_once M (send_acks_if_all (receive F m t c) m t) t c (F.initiator m))
      (on_cond (λ (X : Floor). SameCarts F X) (all_acked (receive F m t c) m t) (λ b d. refl) (λ b d. refl))

  move_carts : (c to : ℕ) → MayMove F c to → SameCarts F (on_move F c to).floor
  unfolding on_move
  move_carts c to may = other_place F c (leaving (station_of (F.place c)) to) may.has_entered_lem refl

-- nothing is owed to a cart that no held message names
pub nothing_owed : (M : Limits) (F : Floor) (s c : ℕ) → ((m : ℕ) → m < M.held → eqb (F.waiting m) 0 ≡ false → has (F.named m) c ≡ true → ⊥)
    → owes M F s c ≡ false
unfolding owes
nothing_owed M F s c h =
    ap not (every_all M.held _ (λ m lm. by_test (eqb (F.waiting m) 0) (λ e. rw e)
    (λ e. by_test (has (F.named m) c) (λ n. absurd (h m lm e n)) (λ n. rw (e, n, and-false (eqb (F.initiator m) s))))))

module _ (M : Limits) (F : Floor) (G : History) (R : Reached M F G) (L : Lists) (S : Same F G L) where
  I : Invariant M F G
  I = R.fits_history

  -- a cart that is outside is named by no send that the history has
  unnamed_outside : (c : ℕ) → c < F.carts → entered (F.place c) ≡ false → (s n : ℕ) → names (G.sends s) n c ≡ false
  unnamed_outside c lc o s n =
      by_test (names (G.sends s) n c)
      (λ q. let p = I.out c s (outside_is (F.place c) o) in
      let h = I.owed s n c lc q (omega arith) in
      let k = I.held h.m h.held in
      let nm : has (F.named h.m) c ≡ true = rw (← k.is_set, h.is_initiator, h.is_number) q in
      clash (entered (F.place c)) (R.live.named_entered h.m c h.held nm) o)
      (λ q. q)

  same_enter : (t c : ℕ) (l : Report) → MayEnter F t c → Same (on_enter M F t c).floor G (lists_step (enter t c) (accepted l) L)
  unfolding on_enter arrive
  same_enter t c l may =
      let o = may.is_outside in
      record {
        count = S.count;
        sent = λ s d. by_eq d c
            (λ z e. rw (z, eqb_self c) (sym (naming_none c 0 (G.sends s) (unnamed_outside c may.cart o s))))
            (λ z. rw (ne_eqb d c z) (S.sent s d));
        received = λ s d. by_eq d c
            (λ z e. rw (z, eqb_self c) (sym (I.received_so_far s c ∙ rw (I.out c s (outside_is (F.place c) o)))))
            (λ z. rw (ne_eqb d c z) (S.received s d));
        equal = λ s d. by_eq d c (λ z e. rw (z, eqb_self c)) (λ z. rw (ne_eqb d c z) (S.equal s d));
      }

  same_send : (s set : ℕ) (text : List ℕ) (m : ℕ) (l : Report) → MaySend M F s set text m → Same (with_message F m s set text)
      (note (send s set text) (accepted l) G) (lists_step (send s set text) (accepted l) L)
  unfolding with_message
  same_send s set text m l may =
      record {
        count = λ u. by_test (eqb u s) (λ z. rw z (let a = length-append (G.sends s)
            (record { set = set; text = text } ∷ []) in let b = S.count s in omega arith)) (λ z. rw z (S.count u));
        sent = λ u c h. by_test (eqb u s)
            (λ z. let y = eqb-true u s z in
            let k : 0 + length (G.sends s) ≡ L.count s = (let b = S.count s in omega arith) in
            let w : naming c 0 (G.sends s ++ (record { set = set; text = text } ∷ [])) ≡ L.sent s c ++ cond (has set c)
            (item (L.count s) text ∷ []) [] =
            naming_more c 0 (G.sends s) (record { set = set; text = text }) ∙ rw (k, S.sent s c h) in
            rw (y, eqb_self s, w) (by_test (has set c) (λ q. rw q) (λ q. rw (q, append-nil (L.sent s c)))))
            (λ z. rw z (S.sent u c h));
        received = S.received;
        equal = λ u c o. by_test (eqb u s && has set c)
            (λ z. let n = and_right (eqb u s) (has set c) z in
            clash (entered (F.place c)) (named_has_entered F set c (member_below F.carts set c may.names.carts n)
            may.names.all_entered_lem n) o)
            (λ z. rw z (S.equal u c o));
      }

  same_radio : (t c buffer m : ℕ) (l : Report) → MayRadio M F t c m → Same F (note (radio t c buffer) (accepted l) G)
      (lists_step (radio t c buffer) (accepted l) L)
  same_radio t c buffer m l may =
      let here : entered (F.place c) ≡ true = rw (at_is (F.place c) t may.is_at_lem) in
      record {
        count = S.count;
        sent = S.sent;
        received = λ s d h. by_test (eqb s l.a && eqb d c)
            (λ z. rw (z, S.received l.a c here))
            (λ z. rw z (S.received s d h));
        equal = λ s d o. by_eq d c
            (λ z. clash (entered (F.place c)) here (rw z at o))
            (λ z. rw (ne_eqb d c z, and-false (eqb s l.a)) (S.equal s d o));
      }

  same_retire : (c : ℕ) → MayRetire M F c → Same (on_retire F c).floor (forgotten G c) L
  unfolding on_retire
  same_retire c may =
      record {
        count = λ s. S.count s ∙ sym (length_kept s);
        sent = λ s d. by_eq d c
            (λ z. rw (z, eqb_self c) (λ e. clash false e refl))
            (λ z. rw (ne_eqb d c z) (λ e. S.sent s d e ∙ sym (naming_forget c d 0 (G.sends s) z)));
        received = λ s d. by_eq d c
            (λ z. rw (z, eqb_self c) (λ e. clash false e refl))
            (λ z. rw (ne_eqb d c z) (λ e. S.received s d e));
        equal = λ s d. by_eq d c
            (λ z e. rw z (S.sent s c may.has_entered_lem ∙ (two_lists M F G I s c may.cart).equal (nothing_owed M F s c may.unnamed) ∙ sym
            (S.received s c may.has_entered_lem)))
            (λ z. rw (ne_eqb d c z) (S.equal s d));
      }
    where
      length_kept : (s : ℕ) → length ((forgotten G c).sends s) ≡ length (G.sends s)
      length_kept s = let a = I.sends_counted s in length_forget c (G.sends s)

  pub same_step : (e : Event) → Same (step M F e) (note (as_sent F e) (answer M F e) G) (lists_step (as_sent F e) (answer M F e) L)
  unfolding on_flag on_group
  same_step =
      by_step M F (λ e X a. Same X (note (as_sent F e) a G) (lists_step (as_sent F e) a L)) I.started
      (λ e r. rw (note_refused (as_sent F e) r G, lists_refused (as_sent F e) r L) S)
      (λ t c may. same_enter t c (on_enter M F t c).report may)
      (λ s set text m may. same_send s set text m (sent_report F 2 s) may)
      (λ i j r l may. same_carts F (handle M (unlined F i j) i j r).floor G L (handled_carts M F G I i j r l may) S)
      (λ t c buffer m may. same_carts F (hand_over M F m t c).floor (note (radio t c buffer) (accepted (hand_over M F m t c).report) G)
      (lists_step (radio t c buffer) (accepted (hand_over M F m t c).report) L)
      (radio_carts M F G I m t c) (same_radio t c buffer m (hand_over M F m t c).report may))
      (λ c to may. same_carts F (on_move F c to).floor G L (move_carts M F G I c to may) S)
      (λ c b may. same_carts F (on_flag F c b).floor G L (λ d. refl) S)
      (λ c may. same_retire c may)
      (λ g set may. same_carts F (on_group F g set).floor G L (λ d. refl) S)
      (λ s g text m may. same_send s (F.groups g) text m (sent_report F 8 s) may)
      (λ s set text m may. same_send s set text m (sent_report F 9 s) may)

  -- the rule on this floor
  pub rule_now : (s c : ℕ) → c < F.carts → TwoListRule (owes M F s c) (L.sent s c) (L.received s c)
  rule_now s c lc =
      by_test (entered (F.place c))
      (λ e. rw (S.sent s c e, S.received s c e) (two_lists M F G I s c lc))
      (λ o. record {
        equal = λ e. S.equal s c o;
        behind = λ e. clash (owes M F s c) e
            (nothing_owed M F s c (λ m lm h n. clash (entered (F.place c)) (R.live.named_entered m c (record { slot = lm; some = h }) n) o));
      })

-- the rule after any list of events
pub rule_after : (M : Limits) (F : Floor) (G : History) (L : Lists) (es : List Event) → Reached M F G → Same F G L → (s c : ℕ) → c < F.carts
    → TwoListRule (owes M (floor_after M F es) s c) ((lists_after M F L es).sent s c) ((lists_after M F L es).received s c)
unfolding floor_after lists_after
rule_after M F G L [] R S s c lc = rule_now M F G R L S s c lc
rule_after M F G L (e ∷ es) R S s c lc =
    rule_after M (step M F e) (note (as_sent F e) (answer M F e) G) (lists_step (as_sent F e) (answer M F e) L) es (reached_step M F G e R)
    (same_step M F G R L S e) s c
    (let z = (step_size M F R.fits_history.started e).carts in omega arith)

-- RUNS WITHOUT RETIREMENT: the first list is made of the station's accepted sends alone

-- the first list of a cart that is outside is empty
abbrev pub Fresh : Floor → Lists → Type 0
Fresh F L = (u c : ℕ) → entered (F.place c) ≡ false → L.sent u c ≡ []

abbrev Stays : Floor → Lists → Event → Floor → Answer → Type 0
Stays F L e X a = is_retirement e a ≡ false
    → Fresh X (lists_step (as_sent F e) a L)
    × ((u c : ℕ) (rest : List Sending) → (lists_step (as_sent F e) a L).sent u c ++ listed c ((lists_step (as_sent F e) a L).count u) rest
    ≡ L.sent u c ++ listed c (L.count u) (sending_of u (as_sent F e) a ++ rest))

fresh_carts : (F X : Floor) (L : Lists) → SameCarts F X → Fresh F L → Fresh X L
fresh_carts F X L e N u c o = N u c (sym (e c) ∙ o)

refused_adds : (e : Event) (r u : ℕ) → sending_of u e (refused r) ≡ []
refused_adds (start n k) r u = refl
refused_adds (enter t c) r u = refl
refused_adds (send s set text) r u = refl
refused_adds (wire i j) r u = refl
refused_adds (radio t c buffer) r u = refl
refused_adds (move c to) r u = refl
refused_adds (flag c b) r u = refl
refused_adds (retire c) r u = refl
refused_adds (group g set) r u = refl
refused_adds (send_group s g text) r u = refl
refused_adds (send_long s set text) r u = refl

-- a send, of whichever kind
fresh_send : (M : Limits) (F : Floor) (L : Lists) → Fresh F L → (kind s set : ℕ) (text : List ℕ) (m : ℕ) → MaySend M F s set text m
    → Fresh (with_message F m s set text) (lists_step (send s set text) (accepted (sent_report F kind s)) L)
    × ((u c : ℕ) (rest : List Sending) → (lists_step (send s set text) (accepted (sent_report F kind s)) L).sent u c ++ listed c
    ((lists_step (send s set text) (accepted (sent_report F kind s)) L).count u) rest
    ≡ L.sent u c ++ listed c (L.count u) (sending_of u (send s set text) (accepted (sent_report F kind s)) ++ rest))
unfolding with_message
fresh_send M F L N kind s set text m may = (
  (λ u c o. by_test (eqb u s && has set c)
      (λ z. let n = and_right (eqb u s) (has set c) z in
      clash (entered (F.place c)) (named_has_entered F set c (member_below F.carts set c may.names.carts n) may.names.all_entered_lem n) o)
      (λ z. rw z (N u c o))),
  (λ u c rest. send_adds s set text (sent_report F kind s) L u c rest),
)

fresh_step : (M : Limits) (F : Floor) (G : History) (L : Lists) → Reached M F G → Fresh F L → (e : Event) → Stays F L e (step M F e) (answer M F e)
unfolding on_enter on_flag on_group arrive with_message
fresh_step M F G L R N =
    by_step M F (Stays F L) R.fits_history.started
    (λ e r q. rw (lists_refused (as_sent F e) r L) (N, λ u c rest. rw (refused_adds (as_sent F e) r u)))
    (λ t c may q. (
      (λ u d. by_eq d c (λ z o. rw (z, eqb_self c)) (λ z. rw (ne_eqb d c z) (λ o. N u d o))),
      (λ u d rest. by_eq d c (λ z. rw (z, eqb_self c, N u c may.is_outside)) (λ z. rw (ne_eqb d c z))),
    ))
    (λ s set text m may q. fresh_send M F L N 2 s set text m may)
    (λ i j r l may q. (
      fresh_carts F (handle M (unlined F i j) i j r).floor L
          (handled_carts M F G R.fits_history i j r l may) N,
      λ u c rest. refl,
    ))
    (λ t c buffer m may q. (fresh_carts F (hand_over M F m t c).floor L (radio_carts M F G R.fits_history m t c) N, λ u d rest. refl))
    (λ c to may q. (fresh_carts F (on_move F c to).floor L (move_carts M F G R.fits_history c to may) N, λ u d rest. refl))
    (λ c b may q. (N, λ u d rest. refl))
    (λ c may q. clash true refl q)
    (λ g set may q. (N, λ u d rest. refl))
    (λ s g text m may q. fresh_send M F L N 8 s (F.groups g) text m may)
    (λ s set text m may q. fresh_send M F L N 9 s set text m may)

pub sent_is : (M : Limits) (F : Floor) (G : History) (L : Lists) (es : List Event) → Reached M F G → Fresh F L → retires_none M F es ≡ true → (u c : ℕ)
    → (lists_after M F L es).sent u c ≡ L.sent u c ++ listed c (L.count u) (sendings_of M F es u)
unfolding lists_after sendings_of retires_none
sent_is M F G L [] R N q u c = sym (append-nil (L.sent u c))
sent_is M F G L (e ∷ es) R N q u c =
    let retires = is_retirement e (answer M F e) in
    let a = not-true retires (and_left (not retires) (retires_none M (step M F e) es) q) in
    let b = and_right (not retires) (retires_none M (step M F e) es) q in
    let z = fresh_step M F G L R N e a in
    sent_is M (step M F e) (note (as_sent F e) (answer M F e) G) (lists_step (as_sent F e) (answer M F e) L) es (reached_step M F G e R) z.0 b u c
    ∙ z.1 u c (sendings_of M (step M F e) es u)
