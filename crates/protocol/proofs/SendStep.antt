-- Send.
use mathlib.Core.Path.{refl, sym, ◌∙◌, ◌≡◌}
use mathlib.Core.Bool.{◌&&◌, cond, false, true}
use mathlib.Core.List.{◌++◌, List, [], ◌∷◌}
use Prim.Native.Nat.{◌<◌, suc, ℕ, ◌≤◌}
use native.Mathlib.Omega.{arith}
use lib.Dec.{eqb, ltb}
use lib.ListN.{get_or-append, get_or-eq_default, get_or, length, length-append, take}
use lib.Seq.{get_or-append_seam, take-append-le}
use borrow.Author.Tests.{eqb-false, eqb-true, lt-ltb, ltb-false, ltb-true, ne_eqb}
use Rattle.protocol.specs.Folds.{update}
use Rattle.protocol.specs.CartSets.{has, set_of}
use Rattle.protocol.specs.Floor.{Floor, Limits, Record, ack_list, delete, deregister, multicast, put, register, to_every}
use Rattle.protocol.specs.Handoff.{row_of}
use Rattle.protocol.specs.Wired.{with_message}
use Rattle.protocol.specs.Claims.{All}
use Rattle.protocol.specs.Form.{handoff_of, handoffs, multicast_numbers}
use Rattle.protocol.proofs.Tests.{and_intro, and_left, both_equal, by_test, clash, eqb_self, not_both_equal, on_cond, on_update}
use Rattle.protocol.proofs.SetLaws.{has_set_of, has_zero}
use Rattle.protocol.proofs.FloorLaws.{on_put}
use Rattle.protocol.proofs.Invariant.{CountsUp, Entry, Held, History, Invariant, Kept, Queued, Sound, blank, names, naming}
use Rattle.protocol.proofs.Updates.{all_append, all_map, append-nil, counts_up_le, counts_up_more, handoffs_append, numbers_append}

abbrev pub noted : History → ℕ → Entry → History
noted G s e = record { sends = update G.sends s (G.sends s ++ (e ∷ [])); received = G.received }

-- one more entry
old_entry : (h : List Entry) (e : Entry) (n : ℕ) → n < length h → get_or (h ++ (e ∷ [])) n blank ≡ get_or h n blank
old_entry h e n lt = get_or-append h (e ∷ []) blank n lt

named_more : (h : List Entry) (e : Entry) (n c : ℕ) → names (h ++ (e ∷ [])) n c ≡ true → (n ≡ length h → ⊥) → names h n c ≡ true
named_more h e n c q ne =
    by_test (ltb n (length h))
    (λ z. let y = old_entry h e n (ltb-true n (length h) z) in rw y at q)
    (λ z. let y : get_or (h ++ (e ∷ [])) n blank ≡ blank =
    get_or-eq_default (h ++ (e ∷ [])) blank {n = n} (let a = length-append h (e ∷ []) in let b = ltb-false n (length h) z in omega arith) in
    clash (has 0 c) (rw y at q) (has_zero c))

module _ (M : Limits) (F : Floor) (G : History) (s set : ℕ) (text : List ℕ) (I : Invariant M F G) (ls : s < F.stations) (m : ℕ) (lm : m < M.held) (fm : eqb (F.waiting m) 0 ≡ true) where
  abbrev pub E : Entry
  E = record { set = set; text = text }

  W : ℕ → ℕ
  W = update F.waiting m (set_of F.stations (λ t. true))

  -- the M held after the send
  old : (k : ℕ) → (k ≡ m → ⊥) → Held M W k → Held M F.waiting k
  unfolding W
  old k z h = record { slot = h.slot; some = (let y = h.some in rw (ne_eqb k m z) at y) }

  new : (k : ℕ) → Held M F.waiting k → Held M W k
  unfolding W
  new k h =
      record {
        slot = h.slot;
        some = on_update (λ x. eqb x 0 ≡ false) F.waiting m (set_of F.stations (λ t. true)) k (λ z. clash (eqb (F.waiting m) 0) fm (let y = h.some in rw z at y)) (λ z. h.some);
      }

  not_m : (k : ℕ) → Held M F.waiting k → k ≡ m → ⊥
  not_m k h z = clash (eqb (F.waiting m) 0) fm (let y = h.some in rw z at y)

  full_mask : eqb (set_of F.stations (λ t. true)) 0 ≡ false
  full_mask =
      by_test (eqb (set_of F.stations (λ t. true)) 0)
      (λ e. let z = has_set_of F.stations (λ t. true) s ls in
      let y = eqb-true (set_of F.stations (λ t. true)) 0 e in
      clash (has 0 s) (rw y at z) (has_zero s))
      (λ e. e)

  is_new : Held M W m
  unfolding W
  is_new = record { slot = lm; some = rw (eqb_self m) full_mask }

  len' : (u : ℕ) → length ((noted G s E).sends u) ≡ update F.sent s (suc (F.sent s)) u
  len' u =
      by_test (eqb u s)
      (λ z. rw z (let a = length-append (G.sends s) (E ∷ []) in let b = I.sends_counted s in omega arith))
      (λ z. rw z (I.sends_counted u))

  named_old : (u n c : ℕ) → names ((noted G s E).sends u) n c ≡ true → (u ≡ s → n ≡ F.sent s → ⊥) → names (G.sends u) n c ≡ true
  named_old u n c =
      on_update (λ h. names h n c ≡ true → (u ≡ s → n ≡ F.sent s → ⊥) → names (G.sends u) n c ≡ true) G.sends s (G.sends s ++ (E ∷ [])) u
      (λ z e ne. rw z (named_more (G.sends s) E n c e (λ q. ne z (q ∙ I.sends_counted s))))
      (λ z e ne. e)

  -- what is said of a held message
  by_slot : (P : ℕ → ℕ → ℕ → List ℕ → Type 0) (k : ℕ) → (k ≡ m → P s (F.sent s) set text) → ((k ≡ m → ⊥) → P (F.initiator k) (F.number k) (F.named k) (F.text k))
      → P (update F.initiator m s k) (update F.number m (F.sent s) k) (update F.named m set k) (update F.text m text k)
  by_slot P k p q = by_test (eqb k m) (λ z. rw z (p (eqb-true k m z))) (λ z. rw z (q (eqb-false k m z)))

  kept_more : (u n x : ℕ) (y : List ℕ) → Kept G.sends F.sent u n x y → Kept (noted G s E).sends (update F.sent s (suc (F.sent s))) u n x y
  kept_more u n x y k =
      by_test (eqb u s)
      (λ z. let w = eqb-true u s z in
      let o = old_entry (G.sends s) E n (let a = k.low in let b = I.sends_counted s in let a' : n < F.sent s = rw w at a in omega arith) in
      record {
        low = rw z (let a = k.low in let a' : n < F.sent s = rw w at a in omega arith);
        is_set = rw (z, o) (let a = k.is_set in rw w at a);
        is_text = rw (z, o) (let a = k.is_text in rw w at a);
      })
      (λ z. record { low = rw z k.low; is_set = rw z k.is_set; is_text = rw z k.is_text })

  kept_new : Kept (noted G s E).sends (update F.sent s (suc (F.sent s))) s (F.sent s) set text
  kept_new =
      let y : get_or (G.sends s ++ (E ∷ [])) (F.sent s) blank ≡ E = (let a = get_or-append_seam (G.sends s) E [] blank in rw (I.sends_counted s) at a) in
      record { low = rw (eqb_self s) (omega arith); is_set = rw (eqb_self s, y); is_text = rw (eqb_self s, y) }

  sound_more : (i j : ℕ) (b : Record) → Sound G.sends F.next i j b → Sound (noted G s E).sends F.next i j b
  sound_more i j (multicast n) p = tt
  sound_more i j (ack_list n x) p = p
  sound_more i j (delete n) p = (
    (let a = len' i in
        let b = I.sends_counted i in
        let p0 = p.0 in
        let q : n < update F.sent s (suc (F.sent s)) i = on_update (λ x. n < x) F.sent s (suc (F.sent s)) i (λ z. let w : F.sent i ≡ F.sent s = rw z in omega arith) (λ z. omega arith) in
        omega arith),
    λ c e. p.1 c (named_old i n c e (λ x y. let p0 = p.0 in let b = I.sends_counted s in let q : n < length (G.sends s) = rw x at p0 in omega arith)),
  )
  sound_more i j (deregister d) p = tt
  sound_more i j (register d row) p = tt

  pub send_ok : Invariant M (with_message F m s set text) (noted G s E)
  unfolding W with_message
  send_ok =
      let on = to_every F.stations s in
      let x = multicast (F.sent s) in
      record {
        sends_counted = len';
        low = λ c u. on_update (λ x. F.next c u ≤ x) F.sent s (suc (F.sent s)) u (λ z. rw z (let a = I.low c s in omega arith)) (λ z. I.low c u);
        run = λ u t lt.
            on_update (λ y. CountsUp (F.expected t u) (multicast_numbers (put on x F.lines u t)) y) F.sent s (suc (F.sent s)) u
            (λ z. rw z (on_put (λ l. CountsUp (F.expected t s) (multicast_numbers l) (suc (F.sent s))) on x F.lines s t
            (λ e. rw (numbers_append (F.lines s t) (x ∷ [])) (counts_up_more (F.expected t s) (multicast_numbers (F.lines s t)) (F.sent s) (I.run s t lt)))
            (λ e. clash (on s t) (and_intro (eqb s s) (ltb t F.stations) (eqb_self s) (lt-ltb t F.stations lt)) e)))
            (λ z. on_put (λ l. CountsUp (F.expected t u) (multicast_numbers l) (F.sent u)) on x F.lines u t
            (λ e. absurd (z (sym (eqb-true s u (and_left (eqb s u) (ltb t F.stations) e))))) (λ e. I.run u t lt));
        held = λ k h. by_slot (Kept (noted G s E).sends (update F.sent s (suc (F.sent s)))) k (λ z. kept_new) (λ z. kept_more (F.initiator k) (F.number k) (F.named k) (F.text k) (I.held k (old k z h)));
        one_room = λ a b ha hb.
            by_slot (λ ia na da ta. ia ≡ update F.initiator m s b → na ≡ update F.number m (F.sent s) b → a ≡ b) a
            (λ z. by_slot (λ ib nb db tb. s ≡ ib → F.sent s ≡ nb → a ≡ b) b (λ y p q. z ∙ sym y)
            (λ y p q. absurd (let k = (I.held b (old b y hb)).low in let k' : F.number b < F.sent s = rw (← p) at k in omega arith)))
            (λ z. by_slot (λ ib nb db tb. F.initiator a ≡ ib → F.number a ≡ nb → a ≡ b) b
            (λ y p q. absurd (let k = (I.held a (old a z ha)).low in let k' : F.number a < F.sent s = rw p at k in omega arith))
            (λ y p q. I.one_room a b (old a z ha) (old b y hb) p q));
        owed = λ u n c lc e le.
            by_test (eqb u s && eqb n (F.sent s))
            (λ b. let z = both_equal u s n (F.sent s) b in record { m = m; held = is_new; is_initiator = rw (eqb_self m) (sym z.0); is_number = rw (eqb_self m) (sym z.1) })
            (λ b. let o = I.owed u n c lc (named_old u n c e (not_both_equal u s n (F.sent s) b)) le in
            let y = ne_eqb o.m m (not_m o.m o.held) in
            record { m = o.m; held = new o.m o.held; is_initiator = rw y o.is_initiator; is_number = rw y o.is_number });
        gone = λ k t c h lt e.
            by_slot (λ i n d x. has d c ≡ true → n < F.next c i) k
            (λ z d. clash (has (W k) t) (rw (z, eqb_self m) (has_set_of F.stations (λ t. true) t lt)) e)
            (λ z d. I.gone k t c (old k z h) lt (rw (ne_eqb k m z) at e) d);
        acks = λ k t c h lt.
            by_slot (λ i n d x. has (cond (eqb k m) 0 (F.acks k t)) c ≡ true → n < F.next c i) k
            (λ z e. clash (has 0 c) (rw (z, eqb_self m) at e) (has_zero c))
            (λ z e. I.acks k t c (old k z h) lt (rw (ne_eqb k m z) at e));
        acked = λ k c h.
            by_slot (λ i n d x. has (update F.acked m 0 k) c ≡ true → n < F.next c i) k
            (λ z e. clash (has 0 c) (rw (z, eqb_self m) at e) (has_zero c))
            (λ z e. I.acked k c (old k z h) (rw (ne_eqb k m z) at e));
        copies = λ k t c h lt.
            by_slot (λ i n d x. n < F.expected t i → c < F.carts → has d c ≡ true → F.next c i ≤ n → has (cond (eqb k m) 0 (F.copy k t)) c ≡ true) k
            (λ z a g d le. absurd (let r = counts_up_le (F.expected t s) (multicast_numbers (F.lines s t)) (F.sent s) (I.run s t lt) in omega arith))
            (λ z a g d le. rw (ne_eqb k m z) (I.copies k t c (old k z h) lt a g d le));
        within = λ k t c h lt.
            by_slot (λ i n d x. has (cond (eqb k m) 0 (F.copy k t)) c ≡ true → has d c ≡ true) k
            (λ z e. clash (has 0 c) (rw (z, eqb_self m) at e) (has_zero c))
            (λ z e. I.within k t c (old k z h) lt (rw (ne_eqb k m z) at e));
        queues = λ k t c.
            on_cond (λ x. has x c ≡ true → Queued M W (update F.initiator m s) (update F.number m (F.sent s)) (update F.named m set) F.place F.next k t c) (eqb k m)
            (λ z e. clash (has 0 c) e (has_zero c))
            (λ z e. let q = I.queues k t c e in record { held = new k q.held; home = q.home; due = rw z q.due; is_named_lem = rw z q.is_named_lem });
        records_sound = λ i j li lj. on_put (All (Sound (noted G s E).sends F.next i j)) on x F.lines i j
            (λ e. all_append (Sound (noted G s E).sends F.next i j) (F.lines i j) (x ∷ []) (all_map (F.lines i j) (sound_more i j) (I.records_sound i j li lj)) (tt, tt))
            (λ e. all_map (F.lines i j) (sound_more i j) (I.records_sound i j li lj));
        handoffs_right = λ c i j. on_put (λ l. handoffs c l ≡ handoff_of (F.place c) i j (row_of M (F.next c))) on x F.lines i j
            (λ e. rw (handoffs_append c (F.lines i j) (x ∷ []), append-nil (handoffs c (F.lines i j))) (I.handoffs_right c i j)) (λ e. I.handoffs_right c i j);
        received_so_far = λ u c. I.received_so_far u c ∙ sym
            (on_update (λ h. naming c 0 (take (F.next c u) h) ≡ naming c 0 (take (F.next c u) (G.sends u))) G.sends s (G.sends s ++ (E ∷ [])) u
            (λ z. rw (z, take-append-le (F.next c s) (G.sends s) (E ∷ []) (let a = I.low c s in let b = I.sends_counted s in omega arith)))
            (λ z. refl));
        out = I.out;
        real = I.real;
        started = I.started;
        senders = λ u. on_update (λ x. 0 < x → u < F.stations) F.sent s (suc (F.sent s)) u (λ z h. rw z ls) (λ z. I.senders u);
        fits = I.fits;
      }
