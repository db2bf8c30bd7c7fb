-- Demand 3: the two-list rule.
use mathlib.Core.Path.{ap, refl, subst, sym, ◌∙◌, ◌≡◌}
use mathlib.Core.Bool.{◌&&◌, Bool, cond, false, not, true}
use mathlib.Core.List.{◌++◌, List, [], ◌∷◌}
use Prim.Native.Nat.{◌+◌, ◌-◌, ◌<◌, suc, zero, ℕ, ◌≤◌}
use native.Mathlib.Omega.{arith}
use lib.Dec.{eqb, leb}
use lib.ListN.{drop, get_or, length, take, take-append-drop}
use lib.Seq.{get_or-drop}
use borrow.Author.Tests.{eq-eqb, eqb-true, le-leb, leb-true, not-false, not-true}
use Rattle.protocol.specs.Folds.{every}
use Rattle.protocol.specs.CartSets.{has, union}
use Rattle.protocol.specs.Floor.{Floor, Limits, Record, ack_list, delete, deregister, is_held, just_started, multicast, register}
use Rattle.protocol.specs.Events.{Done, Event}
use Rattle.protocol.specs.Groups.{on_group}
use Rattle.protocol.specs.Handoff.{arrive, entry_of, on_enter, on_flag, on_move, on_register, on_retire, room_of, struck}
use Rattle.protocol.specs.Deregister.{leave}
use Rattle.protocol.specs.Wired.{buffer, handle, multicast_by_row, on_ack_list, on_delete, on_multicast, with_message}
use Rattle.protocol.specs.Wireless.{all_acked, hand_over, receive, send_acks, send_acks_if_all}
use Rattle.protocol.specs.Step.{step}
use Rattle.protocol.specs.TwoLists.{Item, TwoListRule, item, owes}
use Rattle.protocol.proofs.Tests.{and_intro, and_left, and_right, by_test, clash, every_at, every_fails, on_cond, on_option}
use Rattle.protocol.proofs.SetLaws.{has_zero}
use Rattle.protocol.proofs.InOrder.{completed, deregister_is, send_each_is}
use Rattle.protocol.proofs.Accepted.{by_step, unlined}
use Rattle.protocol.proofs.Invariant.{Entry, Held, History, Invariant, blank, names, naming}
use Rattle.protocol.proofs.Updates.{append-nil}
use Rattle.protocol.proofs.CatchUp.{arrive_at_once, one_at_once}

abbrev pub nothing : History
nothing = record { sends = λ s. []; received = λ s c. [] }

pub naming_more : (c k : ℕ) (h : List Entry) (e : Entry)
    → naming c k (h ++ (e ∷ [])) ≡ naming c k h ++ cond (has e.set c) (item (k + length h) e.text ∷ []) []
naming_more c k [] e = let z : k + 0 ≡ k = omega arith in rw z
naming_more c k (x ∷ h) e =
    let z : k + suc (length h) ≡ suc k + length h = omega arith in
    by_test (has x.set c) (λ q. rw (q, z, naming_more c (suc k) h e)) (λ q. rw (q, z, naming_more c (suc k) h e))

-- the entries from a number on
pub naming_append : (c k : ℕ) (h g : List Entry) → naming c k (h ++ g) ≡ naming c k h ++ naming c (k + length h) g
naming_append c k [] g = let z : k + 0 ≡ k = omega arith in rw z
naming_append c k (x ∷ h) g =
    let z : k + suc (length h) ≡ suc k + length h = omega arith in
    by_test (has x.set c) (λ q. rw (q, z, naming_append c (suc k) h g)) (λ q. rw (q, z, naming_append c (suc k) h g))

pub naming_none : (c k : ℕ) (h : List Entry) → ((j : ℕ) → names h j c ≡ false) → naming c k h ≡ []
naming_none c k [] f = refl
naming_none c k (x ∷ h) f = rw (f 0) (naming_none c (suc k) h (λ j. f (suc j)))

naming_some : (c k : ℕ) (h : List Entry) (j : ℕ) → names h j c ≡ true → (x : Item) × (xs : List Item) × (naming c k h ≡ x ∷ xs)
naming_some c k [] j e = clash (has 0 c) e (has_zero c)
naming_some c k (x ∷ h) zero e = (item k x.text, naming c (suc k) h, rw e)
naming_some c k (x ∷ h) (suc j) e =
    by_test (has x.set c)
    (λ q. (item k x.text, naming c (suc k) h, rw q))
    (λ q. let r = naming_some c (suc k) h j e in (r.0, r.1, rw q r.2))

pub two_lists : (M : Limits) (F : Floor) (G : History) → Invariant M F G → (s c : ℕ) → c < F.carts → TwoListRule (owes M F s c)
    (naming c 0 (G.sends s)) (G.received s c)
unfolding owes
two_lists M F G I s c lc =
    record {
      equal = λ e. split ∙ rw (naming_none c (0 + length (take n h)) (drop n h) (clear e)) (append-nil (G.received s c));
      behind = λ e. let r = naming_some c (0 + length (take n h)) (drop n h) (late e).0 (late e).1 in (r.0, r.1, split ∙ rw r.2);
    }
  where
    n : ℕ
    n = F.next c s

    h : List Entry
    h = G.sends s

    split : naming c 0 h ≡ G.received s c ++ naming c (0 + length (take n h)) (drop n h)
    split = rw (I.received_so_far s c) (ap (naming c 0) (sym (take-append-drop n h)) ∙ naming_append c 0 (take n h) (drop n h))

    pick : ℕ → Bool
    pick m = is_held F m && (eqb (F.initiator m) s && (has (F.named m) c && leb (F.next c s) (F.number m)))

    clear : owes M F s c ≡ false → (j : ℕ) → names (drop n h) j c ≡ false
    clear e j =
        by_test (names (drop n h) j c)
        (λ q. let d : names h (n + j) c ≡ true = (let y = get_or-drop n h j blank in rw y at q) in
        let o = I.owed s (n + j) c lc d (omega arith) in
        let m = o.m in
        let a = not-true (pick m) (every_at M.held (λ m. not (pick m)) (not-false (every M.held (λ m. not (pick m))) e) m o.held.slot) in
        let k = I.held m o.held in
        let dd : has (F.named m) c ≡ true = rw (← k.is_set, o.is_initiator, o.is_number) d in
        let ln : F.next c s ≤ F.number m = (let y = o.is_number in omega arith) in
        clash (pick m)
        (and_intro (is_held F m) (eqb (F.initiator m) s && (has (F.named m) c && leb (F.next c s) (F.number m))) (ap not o.held.some)
        (and_intro (eqb (F.initiator m) s) (has (F.named m) c && leb (F.next c s) (F.number m)) (eq-eqb (F.initiator m) s o.is_initiator)
        (and_intro (has (F.named m) c) (leb (F.next c s) (F.number m)) dd (le-leb (F.next c s) (F.number m) ln))))
        a)
        (λ q. q)

    late : owes M F s c ≡ true → (j : ℕ) × (names (drop n h) j c ≡ true)
    late e =
        let r = every_fails M.held (λ m. not (pick m)) (not-true (every M.held (λ m. not (pick m))) e) in
        let m = r.0 in
        let p = not-false (pick m) r.2 in
        let hb = and_left (is_held F m) (eqb (F.initiator m) s && (has (F.named m) c && leb (F.next c s) (F.number m))) p in
        let p1 = and_right (is_held F m) (eqb (F.initiator m) s && (has (F.named m) c && leb (F.next c s) (F.number m))) p in
        let is_i = eqb-true (F.initiator m) s (and_left (eqb (F.initiator m) s) (has (F.named m) c && leb (F.next c s) (F.number m)) p1) in
        let p2 = and_right (eqb (F.initiator m) s) (has (F.named m) c && leb (F.next c s) (F.number m)) p1 in
        let dd = and_left (has (F.named m) c) (leb (F.next c s) (F.number m)) p2 in
        let le = leb-true (F.next c s) (F.number m) (and_right (has (F.named m) c) (leb (F.next c s) (F.number m)) p2) in
        let k = I.held m (record { slot = r.1; some = not-true (eqb (F.waiting m) 0) hb }) in
        let sum : F.next c s + (F.number m - F.next c s) ≡ F.number m = omega arith in
        let is_set : (get_or (G.sends s) (F.number m) blank).set ≡ F.named m = (let y = k.is_set in rw is_i at y) in
        (F.number m - F.next c s, rw (get_or-drop n h (F.number m - F.next c s) blank, sum, is_set) dd)

-- the start
pub started_ok : (M : Limits) (n k : ℕ) → n ≤ M.stations → Invariant M (just_started n k) nothing
started_ok M n k fit =
    record {
      sends_counted = λ s. refl;
      low = λ c s. omega arith;
      run = λ s t h. refl;
      held = λ m h. absurd (empty_room m h);
      one_room = λ m j h. absurd (empty_room m h);
      owed = λ s j c lc e. clash (has 0 c) e (has_zero c);
      gone = λ m t c h. absurd (empty_room m h);
      acks = λ m t c h. absurd (empty_room m h);
      acked = λ m c h. absurd (empty_room m h);
      copies = λ m t c h. absurd (empty_room m h);
      within = λ m t c h. absurd (empty_room m h);
      queues = λ m t c e. clash (has 0 c) e (has_zero c);
      records_sound = λ i j li lj. tt;
      handoffs_right = λ c i j. refl;
      out = λ c s e. refl;
      real = λ c e. clash false e refl;
      received_so_far = λ s c. refl;
      started = refl;
      senders = λ s h. absurd (omega arith);
      fits = fit;
    }
  where
    empty_room : (m : ℕ) → Held M (λ (m : ℕ). 0) m → ⊥
    empty_room m h = clash true refl h.some

-- WHAT NO EVENT CHANGES: the mark, and how many stations and carts there are

abbrev pub SameSize : Floor → Floor → Type 0
SameSize F H = record { lengths_right : H.lengths_right ≡ F.lengths_right; started : H.started ≡ F.started; stations : H.stations ≡ F.stations; carts : H.carts ≡ F.carts }

same_size : (F : Floor) → SameSize F F
same_size F = record { lengths_right = refl; started = refl; stations = refl; carts = refl }

arrived_size : (M : Limits) (F : Floor) (t c : ℕ) (row : ℕ → ℕ) → SameSize F (arrive M F t c row)
unfolding struck
arrived_size M F t c row = rw (arrive_at_once M F t c row) (same_size F)

handled_size : (M : Limits) (F : Floor) (i j : ℕ) (r : Record) → SameSize F (handle M F i j r).floor
unfolding handle on_multicast multicast_by_row on_ack_list on_delete leave on_register buffer
handled_size M F i j (multicast n) = on_option (λ (d : Done). SameSize F d.floor) (room_of M F i n) (λ e. same_size F) (λ m e. same_size F)
handled_size M F i j (ack_list n set) =
    on_option (λ (d : Done). SameSize F d.floor) (room_of M F j n) (λ e. same_size F)
    (λ m e. on_cond (λ (d : Done). SameSize F d.floor) (eqb (union (F.acked m) set) (F.named m)) (λ b. same_size F) (λ b. same_size F))
handled_size M F i j (delete n) = on_option (λ (d : Done). SameSize F d.floor) (room_of M F i n) (λ e. same_size F) (λ m e. same_size F)
handled_size M F i j (deregister c) =
    rw (deregister_is M F i j c) (subst (λ (X : Floor). SameSize F X) (sym (send_each_is (leave F i j c) j (completed M F i j c))) (same_size F))
handled_size M F i j (register c row) = arrived_size M F j c (entry_of row)

pub step_size : (M : Limits) (F : Floor) → F.started ≡ true → (e : Event) → SameSize F (step M F e)
unfolding on_enter on_flag on_retire on_group with_message on_move hand_over receive send_acks
step_size M F begun =
    by_step M F (λ e X a. SameSize F X) begun (λ e r. same_size F) (λ t c may. arrived_size M F t c (λ s. 0)) (λ s set text m may. same_size F)
    (λ i j r l may. handled_size M (unlined F i j) i j r)
    (λ t c buffer m may. rw (one_at_once M (send_acks_if_all (receive F m t c) m t) t c (F.initiator m))
    (on_cond (λ (X : Floor). SameSize F X) (all_acked (receive F m t c) m t) (λ b. same_size F) (λ b. same_size F)))
    (λ c to may. same_size F)
    (λ c b may. same_size F)
    (λ c may. same_size F)
    (λ g set may. same_size F)
    (λ s g text m may. same_size F)
    (λ s set text m may. same_size F)
