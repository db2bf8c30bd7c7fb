-- The potential of a floor: each accepted wire or radio step lowers it, on every floor that passes the form rule; so there are few such steps.
use mathlib.Core.Path.{ap, refl, subst, sym, ◌∙◌, ◌≡◌}
use mathlib.Core.Bool.{◌&&◌, Bool, cond, false, not, true, ◌||◌}
use mathlib.Core.Option.{some}
use mathlib.Core.List.{List, [], ◌∷◌}
use Prim.Native.Nat.{◌*◌, ◌+◌, ◌<◌, suc, zero, ℕ, ◌≤◌}
use native.Mathlib.Nat.{mul-le-mul_left}
use native.Mathlib.Omega.{arith}
use lib.Dec.{eqb}
use borrow.Author.Tests.{eqb-false, eqb-true, ne_eqb, not-true}
use Rattle.protocol.specs.Folds.{count, sum, update, update2}
use Rattle.protocol.specs.CartSets.{has, union, with, without}
use Rattle.protocol.specs.Floor.{Floor, Limits, Place, Record, ack_list, at, behead, between, delete, deregister, is_held, leaving, multicast, outside, push, put, register, to_every, travelling}
use Rattle.protocol.specs.Events.{Done}
use Rattle.protocol.specs.Handoff.{arrive, entry_of, on_register, room_of, row_of, struck}
use Rattle.protocol.specs.Deregister.{leave, on_deregister}
use Rattle.protocol.specs.Wired.{add_acks, buffer, handle, multicast_by_row, on_ack_list, on_delete, on_multicast, unbuffer}
use Rattle.protocol.specs.Wireless.{all_acked, hand_over, receive, send_acks, send_acks_if_all}
use Rattle.protocol.specs.Form.{acks_of, acks_to, bit, count_lines, deregistering, handoff_of, handoffs, is_ack_of, registering}
use Rattle.protocol.specs.Potential.{is_multicast, message_left, messages_left, owing, potential, stage, way_left}
use Rattle.protocol.proofs.Tests.{and-false, and_left, and_right, by_eq, by_test, clash, eqb_self, on_cond, on_option, on_update, on_update2, or-false, or_right, update2_at}
use Rattle.protocol.proofs.SetLaws.{has_union, has_with, has_without}
use Rattle.protocol.proofs.InOrder.{EachOf, completed, deregister_splits, each_map, handed_off, send_each_head, send_each_is, send_each}
use Rattle.protocol.proofs.Accepted.{MayRadio, MayWire, unlined}
use Rattle.protocol.proofs.Invariant.{Held, History, Invariant}
use Rattle.protocol.proofs.CatchUp.{arrive_at_once, catch_up_at_once, one_at_once, room_none, room_some}
use Rattle.protocol.proofs.DeregisterStep.{all_go}
use Rattle.protocol.proofs.HandoffSteps.{deregistering_is, registering_is}
use Rattle.protocol.proofs.Counting.{cnt_put, count_at, count_ext, count_le, count_mono, count_off, count_lines_at, count_lines_behead, count_lines_beheaded, count_lines_put_none, on_lines_head, sum_le, sum_mono, sum_term}
use Rattle.protocol.proofs.LineFacts.{HeldRecord, LineFacts}
use Rattle.protocol.proofs.LinesRadio.{acked_has_passed}
use Rattle.protocol.proofs.SumRun.{initiator_on_floor}

-- SUMS

sum_less : (n : ℕ) (f g : ℕ → ℕ) (t : ℕ) → t < n → ((k : ℕ) → k < n → f k ≤ g k) → f t < g t → sum n f < sum n g
unfolding sum
sum_less zero f g t lt h e = absurd (omega arith)
sum_less (suc n) f g t lt h e =
    by_eq t n
    (λ q. let z = sum_mono n f g (λ k l. h k (omega arith)) in let y : f n < g n = rw q at e in omega arith)
    (λ q. let z = sum_less n f g t (omega arith) (λ k l. h k (omega arith)) e in let y = h n (omega arith) in omega arith)

-- a choice that is 0 otherwise
cond_le : (b' b : Bool) (a' a : ℕ) → (b' ≡ true → (b ≡ true) × (a' ≤ a)) → cond b' a' 0 ≤ cond b a 0
cond_le false b a' a h = omega arith
cond_le true b a' a h = let z = h refl in rw z.0 z.1

-- where an acknowledgement stays, and what is known stays known, no more is owed
stage_le : (a a' : Bool) (n n' : ℕ) → (a ≡ true → a' ≡ true) → (0 < n → 0 < n') → stage a' n' ≤ stage a n
stage_le a true n n' f g = omega arith
stage_le true false n n' f g = clash false (f refl) refl
stage_le false false n n' f g =
    by_eq n 0
    (λ z. rw z (on_cond (λ x. x ≤ 2) (eqb n' 0) (λ e. omega arith) (λ e. omega arith)))
    (λ z. let y = g (omega arith) in rw (ne_eqb n 0 z, ne_eqb n' 0 (λ q. omega arith)) (omega arith))

-- the initiator hears of an acknowledgement
stage_known : (a a' : Bool) (n n' : ℕ) → a ≡ false → 0 < n → a' ≡ true → stage a' n' < stage a n
stage_known a a' n n' e p e' = rw (e, e', ne_eqb n 0 (λ z. omega arith)) (omega arith)

-- there is an acknowledgement now
stage_first : (a a' : Bool) (n n' : ℕ) → a ≡ false → n ≡ 0 → 0 < n' → stage a' n' < stage a n
stage_first a true n n' e z p = rw (e, z) (omega arith)
stage_first a false n n' e z p = rw (e, z, ne_eqb n' 0 (λ y. omega arith)) (omega arith)

stage_most : (a : Bool) (n : ℕ) → stage a n ≤ 2
stage_most true n = omega arith
stage_most false n = on_cond (λ x. x ≤ 2) (eqb n 0) (λ e. omega arith) (λ e. omega arith)

way_most : (p : Place) → way_left p ≤ 2
way_most outside = omega arith
way_most (at s) = omega arith
way_most (leaving s u) = omega arith
way_most (travelling s u) = omega arith

-- THE BOUND
pub potential_bound : (M : Limits) (F : Floor) → count_lines F.stations (λ i j. is_multicast) F.lines ≤ M.held * F.stations
    → F.stations ≤ M.stations → F.carts ≤ M.carts
    → potential M F ≤ M.held * (M.stations + M.stations + M.carts + M.carts) + 2 * M.carts
unfolding potential
potential_bound M F h n k =
    let a = sum_le M.held (F.stations + F.carts * 2) (message_left M F)
    (λ m lm. on_cond (λ x. x ≤ F.stations + F.carts * 2) (is_held F m)
    (λ e. let x = count_le F.stations (has (F.waiting m)) in let y = sum_le F.carts 2 (owing M F m) (λ c lc. stage_most (has (F.acked m) c) (acks_of M F m c)) in omega arith)
    (λ e. omega arith)) in
    let b = sum_le F.carts 2 (λ c. way_left (F.place c)) (λ c lc. way_most (F.place c)) in
    let wide : F.stations + F.stations + F.carts + F.carts ≤ M.stations + M.stations + M.carts + M.carts = omega arith in
    let z = mul-le-mul_left M.held wide in
    omega arith

-- WHAT A STEP LEAVES OF IT

-- no message becomes dearer: it was held, no more stations wait, what is known stays known, an acknowledgement stays somewhere
pub record NoDearer (M : Limits) (F H : Floor) (m : ℕ) : Type 0 where
  pub held : Held M F.waiting m
  pub waiting : count F.stations (has (H.waiting m)) ≤ count F.stations (has (F.waiting m))
  pub known : (c : ℕ) → has (F.acked m) c ≡ true → has (H.acked m) c ≡ true
  pub acks : (c : ℕ) → 0 < acks_of M F m c → 0 < acks_of M H m c

module _ (M : Limits) (F H : Floor) (same_stations : H.stations ≡ F.stations) (same_carts : H.carts ≡ F.carts) (D : (m : ℕ) → Held M H.waiting m → NoDearer M F H m) where
  owed_le : (m : ℕ) → Held M H.waiting m → sum H.carts (owing M H m) ≤ sum F.carts (owing M F m)
  owed_le m h =
      let z = sum_mono F.carts (owing M H m) (owing M F m) (λ c lc. stage_le (has (F.acked m) c) (has (H.acked m) c) (acks_of M F m c) (acks_of M H m c) ((D m h).known c) ((D m h).acks c)) in
      rw same_carts z

  waiting_le : (m : ℕ) → Held M H.waiting m → count H.stations (has (H.waiting m)) ≤ count F.stations (has (F.waiting m))
  waiting_le m h = rw same_stations (D m h).waiting

  pub message_le : (m : ℕ) → m < M.held → message_left M H m ≤ message_left M F m
  message_le m lm =
      cond_le (is_held H m) (is_held F m) (count H.stations (has (H.waiting m)) + sum H.carts (owing M H m)) (count F.stations (has (F.waiting m)) + sum F.carts (owing M F m))
      (λ e. let h : Held M H.waiting m = record { slot = lm; some = not-true (eqb (H.waiting m) 0) e } in
      (ap not (D m h).held.some, (let x = waiting_le m h in let y = owed_le m h in omega arith)))

  pub messages_le : messages_left M H ≤ messages_left M F
  messages_le = sum_mono M.held (message_left M H) (message_left M F) message_le

  -- one message has become cheaper
  pub messages_less : (m : ℕ) → m < M.held → message_left M H m < message_left M F m → messages_left M H < messages_left M F
  messages_less m lm e = sum_less M.held (message_left M H) (message_left M F) m lm message_le e

  -- because one of its carts owes less
  pub cart_owes_less : (m c : ℕ) → Held M F.waiting m → Held M H.waiting m → c < F.carts → owing M H m c < owing M F m c
      → messages_left M H < messages_left M F
  cart_owes_less m c f h lc e =
      messages_less m h.slot
      (let x = waiting_le m h in
      let y = sum_less F.carts (owing M H m) (owing M F m) c lc (λ d ld. stage_le (has (F.acked m) d) (has (H.acked m) d) (acks_of M F m d) (acks_of M H m d) ((D m h).known d) ((D m h).acks d)) e in
      let y' : sum H.carts (owing M H m) < sum F.carts (owing M F m) = rw same_carts y in
      rw (h.some, f.some) (omega arith))

-- the ways of the carts, where one of them changes its place
ways_less : (n c : ℕ) (place : ℕ → Place) (p : Place) → c < n → way_left p < way_left (place c)
    → sum n (λ d. way_left (update place c p d)) < sum n (λ d. way_left (place d))
ways_less n c place p lc e =
    sum_less n (λ d. way_left (update place c p d)) (λ d. way_left (place d)) c lc
    (λ d ld. on_update (λ q. way_left q ≤ way_left (place d)) place c p d (λ z. rw z (omega arith)) (λ z. omega arith))
    (rw (eqb_self c) e)

-- ACKNOWLEDGEMENTS STAY SOMEWHERE

-- a record that is no ack list is taken off a line
pub acks_unlined : (M : Limits) (F : Floor) (i j : ℕ) (b : Record) (l : List Record) → F.lines i j ≡ b ∷ l → i < F.stations → j < F.stations
    → ((n c : ℕ) → is_ack_of n c b ≡ false)
    → (m c : ℕ) → acks_of M (unlined F i j) m c ≡ acks_of M F m c
acks_unlined M F i j b l e li lj none m c =
    let z = count_lines_behead F.stations (acks_to (F.initiator m) (F.number m) c) i j F.lines b l e li lj in
    let y : bit (acks_to (F.initiator m) (F.number m) c i j b) ≡ 0 = rw (none (F.number m) c, and-false (eqb j (F.initiator m))) in
    omega arith

-- a record is put on a line of the floor
count_lines_put_here : (n : ℕ) (f : ℕ → ℕ → Record → Bool) (a b : ℕ) (x : Record) (lines : ℕ → ℕ → List Record) → a < n → b < n
    → count_lines n f lines + bit (f a b x) ≤ count_lines n f (put (between a b) x lines)
count_lines_put_here n f a b x lines la lb =
    let z = cnt_put n f (between a b) x lines in
    let y = sum_term n (λ j. bit (between a b a j && f a j x)) b lb in
    let w = sum_term n (λ i. sum n (λ j. bit (between a b i j && f i j x))) a la in
    let v : bit (between a b a b && f a b x) ≡ bit (f a b x) = rw (eqb_self a, eqb_self b) in
    omega arith

pub count_lines_put_more : (n : ℕ) (f : ℕ → ℕ → Record → Bool) (on : ℕ → ℕ → Bool) (x : Record) (lines : ℕ → ℕ → List Record)
    → count_lines n f lines ≤ count_lines n f (put on x lines)
count_lines_put_more n f on x lines = let z = cnt_put n f on x lines in omega arith

-- an ack list goes from its station
pub acks_sent_stay : (M : Limits) (F : Floor) (m t : ℕ) → t < F.stations → F.initiator m < F.stations → (k d : ℕ)
    → acks_of M F k d ≤ acks_of M (send_acks F m t) k d
unfolding send_acks
acks_sent_stay M F m t lt li k d =
    let x = ack_list (F.number m) (F.acks m t) in
    let f = acks_to (F.initiator k) (F.number k) d in
    by_eq k m
    (λ z.
    let a = count_off F.stations (λ u. has (F.acks m u) d) t lt in
    let b = count_mono F.stations (λ u. cond (eqb u t) false (has (F.acks m u) d)) (λ u. has (update2 F.acks m t 0 m u) d)
    (λ u. on_cond (λ y. y ≡ true → has (update2 F.acks m t 0 m u) d ≡ true) (eqb u t) (λ e q. clash false q refl) (λ e q. rw (e, and-false (eqb m m)) q)) in
    let c = count_lines_put_here F.stations (acks_to (F.initiator m) (F.number m) d) t (F.initiator m) x F.lines lt li in
    let v : acks_to (F.initiator m) (F.number m) d t (F.initiator m) x ≡ has (F.acks m t) d = rw (eqb_self (F.initiator m), eqb_self (F.number m)) in
    let c' : count_lines F.stations (acks_to (F.initiator m) (F.number m) d) F.lines + bit (has (F.acks m t) d) ≤ count_lines F.stations (acks_to (F.initiator m) (F.number m) d) (put (between t (F.initiator m)) x F.lines) = rw v at c in
    rw z (omega arith))
    (λ z.
    let b = count_ext F.stations (λ u. has (update2 F.acks m t 0 k u) d) (λ u. has (F.acks k u) d) (λ u. rw (ne_eqb k m z)) in
    let c = count_lines_put_more F.stations f (between t (F.initiator m)) x F.lines in
    omega arith)

pub acks_sent_each_stay : (M : Limits) (F : Floor) (t : ℕ) (l : List ℕ) → t < F.stations → EachOf (λ m. F.initiator m < F.stations) l → (k d : ℕ)
    → acks_of M F k d ≤ acks_of M (send_each F t l) k d
unfolding send_each send_acks
acks_sent_each_stay M F t [] lt h k d = omega arith
acks_sent_each_stay M F t (m ∷ l) lt h k d =
    let a = acks_sent_stay M F m t lt h.0 k d in
    let b = acks_sent_each_stay M (send_acks F m t) t l lt h.1 k d in
    omega arith

-- THE STEPS

-- the head of a line goes; one that is no ack list
pub unlined_falls : (M : Limits) (F : Floor) (i j : ℕ) (b : Record) (l : List Record) → F.lines i j ≡ b ∷ l → i < F.stations → j < F.stations
    → ((n c : ℕ) → is_ack_of n c b ≡ false)
    → potential M (unlined F i j) + bit (is_multicast b) ≤ potential M F
unfolding potential
unlined_falls M F i j b l e li lj none =
    let a = count_lines_behead F.stations (λ i j. is_multicast) i j F.lines b l e li lj in
    let z = messages_le M F (unlined F i j) refl refl
    (λ m h. record { held = h; waiting = omega arith; known = λ c q. q; acks = λ c q. let y = acks_unlined M F i j b l e li lj none m c in omega arith }) in
    omega arith

-- an ack list goes from its station
pub acks_sent_falls : (M : Limits) (F : Floor) (m t : ℕ) → t < F.stations → F.initiator m < F.stations
    → potential M (send_acks F m t) ≤ potential M F
unfolding potential send_acks
acks_sent_falls M F m t lt li =
    let x = ack_list (F.number m) (F.acks m t) in
    let a = count_lines_put_none F.stations (λ i j. is_multicast) (between t (F.initiator m)) x F.lines (λ i j o. refl) in
    let z = messages_le M F (send_acks F m t) refl refl
    (λ k h. record { held = h; waiting = omega arith; known = λ c q. q; acks = λ c q. let y = acks_sent_stay M F m t lt li k c in omega arith }) in
    omega arith

pub send_each_falls : (M : Limits) (F : Floor) (t : ℕ) (l : List ℕ) → t < F.stations → EachOf (λ m. F.initiator m < F.stations) l
    → potential M (send_each F t l) ≤ potential M F
unfolding send_each send_acks
send_each_falls M F t [] lt h = omega arith
send_each_falls M F t (m ∷ l) lt h =
    let a = acks_sent_falls M F m t lt h.0 in
    let b = send_each_falls M (send_acks F m t) t l lt h.1 in
    omega arith

-- a cart is handed off
handed_off_falls : (M : Limits) (F : Floor) (i t c : ℕ) → c < F.carts → F.place c ≡ leaving t i → potential M (handed_off M F i t c) < potential M F
unfolding potential leave
handed_off_falls M F i t c lc is_p =
    let x = register c (row_of M (F.next c)) in
    let a = count_lines_put_none F.stations (λ i j. is_multicast) (between t i) x F.lines (λ i j o. refl) in
    let z = messages_le M F (handed_off M F i t c) refl refl
    (λ k h. record {
      held = h;
      waiting = omega arith;
      known = λ d q. q;
      acks = λ d q. let y = count_lines_put_none F.stations (acks_to (F.initiator k) (F.number k) d) (between t i) x F.lines (λ i j o. and-false (eqb j (F.initiator k))) in omega arith;
    }) in
    let w = ways_less F.carts c F.place (travelling t i) lc (rw is_p (omega arith)) in
    omega arith

module _ (M : Limits) (F : Floor) (G : History) (I : Invariant M F G) (X : LineFacts M F) where
  -- a held message is found in its room
  found_room : (s n k : ℕ) → Held M F.waiting k → F.initiator k ≡ s → F.number k ≡ n → (m : ℕ) → room_of M F s n ≡ some m → k ≡ m
  found_room s n k h a b m f = let g = room_some M F s n m f in I.one_room k m h g.0 (a ∙ sym g.1.0) (b ∙ sym g.1.1)

  -- delete: one station less waits
  delete_falls : (i j n : ℕ) (l : List Record) → MayWire F i j (delete n) l → potential M (on_delete M (unlined F i j) i j n).floor < potential M F
  unfolding on_delete room_of potential
  delete_falls i j n l may =
      let g : HeldRecord M F i j (delete n) = on_lines_head F.stations (HeldRecord M F) i j F.lines (delete n) l may.line may.from may.to X.records_held in
      let r = g.0 in
      on_option (λ (d : Done). potential M d.floor < potential M F) (room_of M F i n)
      (λ q. absurd (room_none M F i n r.m q r.held r.is_initiator r.is_number))
      (λ m q.
      let is_m = found_room i n r.m r.held r.is_initiator r.is_number m q in
      let W = update F.waiting m (without (F.waiting m) j) in
      let H = unbuffer (unlined F i j) m j in
      let waits : has (F.waiting m) j ≡ true = rw (← is_m) r.waits in
      let h : Held M F.waiting m = rw (← is_m) r.held in
      let fewer : count F.stations (has (without (F.waiting m) j)) < count F.stations (has (F.waiting m)) =
      (let a = count_off F.stations (has (F.waiting m)) j may.to in
      let b = count_mono F.stations (has (without (F.waiting m) j)) (λ u. cond (eqb u j) false (has (F.waiting m) u))
      (λ u e. let w = sym (has_without (F.waiting m) j u) ∙ e in
      let ne = not-true (eqb j u) (and_right (has (F.waiting m) u) (not (eqb j u)) w) in
      rw (ne_eqb u j (λ z. eqb-false j u ne (sym z))) (and_left (has (F.waiting m) u) (not (eqb j u)) w)) in
      let v : bit (has (F.waiting m) j) ≡ 1 = rw waits in omega arith) in
      let D : (k : ℕ) → Held M W k → NoDearer M F H k =
      λ k hk. record {
        held = by_eq k m (λ z. rw z h) (λ z. record { slot = hk.slot; some = (let y = hk.some in rw (ne_eqb k m z) at y) });
        waiting = on_update (λ x. count F.stations (has x) ≤ count F.stations (has (F.waiting k))) F.waiting m (without (F.waiting m) j) k (λ z. rw z (omega arith)) (λ z. omega arith);
        known = λ c e. e;
        acks = λ c e. let y = acks_unlined M F i j (delete n) l may.line may.from may.to (λ n c. refl) k c in omega arith;
      } in
      let cheaper : message_left M H m < message_left M F m =
      rw (h.some, eqb_self m)
      (by_test (eqb (without (F.waiting m) j) 0)
      (λ e. rw e (omega arith))
      (λ e. let hm : Held M W m = record { slot = h.slot; some = rw (eqb_self m) e } in
      let y = owed_le M F H refl refl D m hm in
      rw e (omega arith))) in
      let a = count_lines_beheaded F.stations (λ i j. is_multicast) i j F.lines in
      let z = messages_less M F H refl refl D m h.slot cheaper in
      omega arith)

  -- ack list: its carts are known to have the message
  module _ (i s n set : ℕ) (l : List Record) (may : MayWire F i s (ack_list n set) l) (m : ℕ) (h : Held M F.waiting m) (is_i : F.initiator m ≡ s) (is_n : F.number m ≡ n) where
    J : ℕ → ℕ
    J = update F.acked m (union (F.acked m) set)

    pub acks_added_stay : (k c : ℕ) → Held M F.waiting k → 0 < acks_of M F k c → 0 < acks_of M (add_acks (unlined F i s) m set) k c
    acks_added_stay k c hk p =
        let z = count_lines_behead F.stations (acks_to (F.initiator k) (F.number k) c) i s F.lines (ack_list n set) l may.line may.from may.to in
        by_eq k m
        (λ q. rw (q, eqb_self m)
        (by_test (has (union (F.acked m) set) c)
        (λ e. let y : bit (has (union (F.acked m) set) c) ≡ 1 = rw e in omega arith)
        (λ e. let o : has (F.acked m) c || has set c ≡ false = sym (has_union (F.acked m) set c) ∙ e in
        let b = or-false (has (F.acked m) c) (has set c) o in
        let v : acks_to (F.initiator k) (F.number k) c i s (ack_list n set) ≡ false = rw (b.1, and-false (eqb n (F.number k)), and-false (eqb s (F.initiator k))) in
        let z' : count_lines F.stations (acks_to (F.initiator k) (F.number k) c) F.lines ≡ 0 + count_lines F.stations (acks_to (F.initiator k) (F.number k) c) (behead i s F.lines) = rw v at z in
        let u : bit (has (F.acked k) c) ≡ 0 = rw (q, b.0) in
        let w : 0 < count F.stations (λ t. has (F.acks m t) c) + count_lines F.stations (acks_to (F.initiator m) (F.number m) c) (behead i s F.lines) = rw (← q) (omega arith) in
        omega arith)))
        (λ q. let v : acks_to (F.initiator k) (F.number k) c i s (ack_list n set) ≡ false =
        by_test (acks_to (F.initiator k) (F.number k) c i s (ack_list n set))
        (λ e. absurd (let a = and_right (eqb s (F.initiator k)) (eqb n (F.number k) && has set c) e in
        q (I.one_room k m hk h (sym (eqb-true s (F.initiator k) (and_left (eqb s (F.initiator k)) (eqb n (F.number k) && has set c) e)) ∙ sym is_i)
        (sym (eqb-true n (F.number k) (and_left (eqb n (F.number k)) (has set c) a)) ∙ sym is_n))))
        (λ e. e) in
        let z' : count_lines F.stations (acks_to (F.initiator k) (F.number k) c) F.lines ≡ 0 + count_lines F.stations (acks_to (F.initiator k) (F.number k) c) (behead i s F.lines) = rw v at z in
        rw (ne_eqb k m q) (omega arith))

    acks_added_falls : potential M (add_acks (unlined F i s) m set) < potential M F
    unfolding potential
    acks_added_falls =
        let H = add_acks (unlined F i s) m set in
        let D : (k : ℕ) → Held M F.waiting k → NoDearer M F H k =
        λ k hk. record {
          held = hk;
          waiting = omega arith;
          known = λ c e. on_update (λ x. has x c ≡ true) F.acked m (union (F.acked m) set) k (λ z. has_union (F.acked m) set c ∙ rw (let e' : has (F.acked m) c ≡ true = rw z at e in e')) (λ z. e);
          acks = λ c p. acks_added_stay k c hk p;
        } in
        let g : HeldRecord M F i s (ack_list n set) = on_lines_head F.stations (HeldRecord M F) i s F.lines (ack_list n set) l may.line may.from may.to X.records_held in
        let c = g.1.0 in
        let hc : has set c ≡ true = g.1.2 in
        let p = count_lines_at F.stations (acks_to (F.initiator m) (F.number m) c) i s F.lines (ack_list n set) l may.line may.from may.to (rw (is_i, is_n, eqb_self s, eqb_self n) hc) in
        let once = X.acks_once m c h in
        let unknown : has (F.acked m) c ≡ false = by_test (has (F.acked m) c) (λ e. absurd (let y : bit (has (F.acked m) c) ≡ 1 = rw e in omega arith)) (λ e. e) in
        let then : has (union (F.acked m) set) c ≡ true = has_union (F.acked m) set c ∙ or_right (has (F.acked m) c) (has set c) hc in
        let less : owing M H m c < owing M F m c = stage_known (has (F.acked m) c) (has (H.acked m) c) (acks_of M F m c) (acks_of M H m c) unknown (omega arith) (rw (eqb_self m) then) in
        let a = count_lines_beheaded F.stations (λ i j. is_multicast) i s F.lines in
        let z = cart_owes_less M F H refl refl D m c h h g.1.1 less in
        omega arith

    deletes_sent_falls : potential M (push (add_acks (unlined F i s) m set) (to_every F.stations s) (delete n)) ≤ potential M (add_acks (unlined F i s) m set)
    unfolding potential
    deletes_sent_falls =
        let H = add_acks (unlined F i s) m set in
        let on = to_every F.stations s in
        let a = count_lines_put_none F.stations (λ i j. is_multicast) on (delete n) H.lines (λ i j o. refl) in
        let z = messages_le M H (push H on (delete n)) refl refl
        (λ k hk. record {
          held = hk;
          waiting = omega arith;
          known = λ c q. q;
          acks = λ c q. let y = count_lines_put_none F.stations (acks_to (F.initiator k) (F.number k) c) on (delete n) H.lines (λ i j o. and-false (eqb j (F.initiator k))) in omega arith;
        }) in
        omega arith

  ack_list_falls : (i s n set : ℕ) (l : List Record) → MayWire F i s (ack_list n set) l
      → potential M (on_ack_list M (unlined F i s) s n set).floor < potential M F
  unfolding on_ack_list room_of
  ack_list_falls i s n set l may =
      let g : HeldRecord M F i s (ack_list n set) = on_lines_head F.stations (HeldRecord M F) i s F.lines (ack_list n set) l may.line may.from may.to X.records_held in
      let r = g.0 in
      on_option (λ (d : Done). potential M d.floor < potential M F) (room_of M F s n)
      (λ q. absurd (room_none M F s n r.m q r.held r.is_initiator r.is_number))
      (λ m q.
      let f = room_some M F s n m q in
      let a = acks_added_falls i s n set l may m f.0 f.1.0 f.1.1 in
      let b = deletes_sent_falls i s n set l may m f.0 f.1.0 f.1.1 in
      on_cond (λ (d : Done). potential M d.floor < potential M F) (eqb (union (F.acked m) set) (F.named m)) (λ e. omega arith) (λ e. a))

  -- multicast
  multicast_falls : (i j n : ℕ) (l : List Record) → MayWire F i j (multicast n) l
      → potential M (on_multicast M (unlined F i j) i j n).floor < potential M F
  unfolding on_multicast multicast_by_row buffer room_of potential
  multicast_falls i j n l may =
      let a = unlined_falls M F i j (multicast n) l may.line may.from may.to (λ n c. refl) in
      on_option (λ (d : Done). potential M d.floor < potential M F) (room_of M F i n) (λ q. omega arith) (λ m q. omega arith)

  -- deregister
  deregister_falls : (i j c : ℕ) (l : List Record) → MayWire F i j (deregister c) l
      → potential M (on_deregister M (unlined F i j) i j c).floor < potential M F
  deregister_falls i j c l may =
      let z : deregistering ∷ handoffs c l ≡ handoff_of (F.place c) i j (row_of M (F.next c)) = rw (may.line, eqb_self c) at (I.handoffs_right c i j) in
      let is_p = (deregistering_is (F.place c) i j (row_of M (F.next c)) (handoffs c l) z).0 in
      let lc = I.real c (rw is_p) in
      let rooms = completed M (unlined F i j) i j c in
      let F1 = send_each F j rooms in
      let h = send_each_head F j rooms i j (deregister c) l may.line in
      let kept = send_each_is F j rooms in
      let n : F1.stations ≡ F.stations = ap (λ (Y : Floor). Y.stations) kept in
      let k : F1.carts ≡ F.carts = ap (λ (Y : Floor). Y.carts) kept in
      let p : F1.place c ≡ leaving j i = ap (λ (Y : Floor). Y.place c) kept ∙ is_p in
      let li = may.from in
      let lj = may.to in
      let a = send_each_falls M F j rooms lj (each_map rooms (λ m g. initiator_on_floor M F G I m g.held) (all_go M F G i j c (behead i j F.lines) lj I)) in
      let b = unlined_falls M F1 i j (deregister c) h.0 h.1 (omega arith) (omega arith) (λ n c. refl) in
      let d = handed_off_falls M (unlined F1 i j) i j c (omega arith) p in
      subst (λ (Y : Floor). potential M Y < potential M F) (sym (deregister_splits M F i j c l may.line)) (omega arith)

  -- register
  register_falls : (i j c : ℕ) (row : List ℕ) (l : List Record) → MayWire F i j (register c row) l
      → potential M (arrive M (unlined F i j) j c (entry_of row)) < potential M F
  unfolding potential struck
  register_falls i j c row l may =
      let z : registering row ∷ handoffs c l ≡ handoff_of (F.place c) i j (row_of M (F.next c)) = rw (may.line, eqb_self c) at (I.handoffs_right c i j) in
      let is_p = (registering_is (F.place c) i j (row_of M (F.next c)) row (handoffs c l) z).0 in
      let a = unlined_falls M F i j (register c row) l may.line may.from may.to (λ n c. refl) in
      let w = ways_less F.carts c F.place (at j) (I.real c (rw is_p)) (rw is_p (omega arith)) in
      rw (arrive_at_once M (unlined F i j) j c (entry_of row)) (omega arith)

  -- WIRE
  pub wire_falls : (i j : ℕ) (r : Record) (l : List Record) → MayWire F i j r l → potential M (handle M (unlined F i j) i j r).floor < potential M F
  unfolding handle on_register
  wire_falls i j (multicast n) l may = multicast_falls i j n l may
  wire_falls i j (ack_list n set) l may = ack_list_falls i j n set l may
  wire_falls i j (delete n) l may = delete_falls i j n l may
  wire_falls i j (deregister c) l may = deregister_falls i j c l may
  wire_falls i j (register c row) l may = register_falls i j c row l may

  -- RADIO
  pub receive_acks_stay : (m t c k d : ℕ) → acks_of M F k d ≤ acks_of M (receive F m t c) k d
  unfolding receive
  receive_acks_stay m t c k d =
      let z = count_mono F.stations (λ u. has (F.acks k u) d) (λ u. has (update2 F.acks m t (with (F.acks m t) c) k u) d)
      (λ u e. on_update2 (λ x. has x d ≡ true) F.acks m t (with (F.acks m t) c) k u
      (λ y v. has_with (F.acks m t) c d ∙ rw (let e' : has (F.acks m t) d ≡ true = rw (y, v) at e in e')) (λ y. e)) in
      omega arith

  receive_falls : (m t c : ℕ) → MayRadio M F t c m → potential M (receive F m t c) < potential M F
  unfolding potential receive
  receive_falls m t c may =
      let H = receive F m t c in
      let q = I.queues m t c may.queued in
      let h = q.held in
      let none : acks_of M F m c ≡ 0 = by_eq (acks_of M F m c) 0 (λ e. e) (λ e. absurd (let y = acked_has_passed M F G I m c h (omega arith) in let v = q.due in omega arith)) in
      let unknown : has (F.acked m) c ≡ false = by_test (has (F.acked m) c) (λ e. absurd (let y : bit (has (F.acked m) c) ≡ 1 = rw e in omega arith)) (λ e. e) in
      let mine : has (update2 F.acks m t (with (F.acks m t) c) m t) c ≡ true =
      rw (update2_at F.acks m t (with (F.acks m t) c)) (has_with (F.acks m t) c c ∙ or_right (has (F.acks m t) c) (eqb c c) (eqb_self c)) in
      let some = count_at F.stations (λ u. has (update2 F.acks m t (with (F.acks m t) c) m u) c) t may.station mine in
      let less : owing M H m c < owing M F m c = stage_first (has (F.acked m) c) (has (H.acked m) c) (acks_of M F m c) (acks_of M H m c) unknown none (omega arith) in
      let D : (k : ℕ) → Held M F.waiting k → NoDearer M F H k =
      λ k hk. record { held = hk; waiting = omega arith; known = λ d e. e; acks = λ d p. let y = receive_acks_stay m t c k d in omega arith } in
      let z = cart_owes_less M F H refl refl D m c h h may.cart less in
      omega arith

  sent_if_all_falls : (m t c : ℕ) → t < F.stations → F.initiator m < F.stations
      → potential M (send_acks_if_all (receive F m t c) m t) ≤ potential M (receive F m t c)
  unfolding receive
  sent_if_all_falls m t c lt li =
      on_cond (λ (Y : Floor). potential M Y ≤ potential M (receive F m t c)) (all_acked (receive F m t c) m t) (λ e. acks_sent_falls M (receive F m t c) m t lt li) (λ e. omega arith)

  caught_up_falls : (Y : Floor) (t c s : ℕ) → potential M Y < potential M F → potential M (catch_up_at_once M Y t c (λ u. eqb u s)) < potential M F
  unfolding potential
  caught_up_falls Y t c s e = e

  pub radio_falls : (m t c : ℕ) → MayRadio M F t c m → potential M (hand_over M F m t c).floor < potential M F
  unfolding hand_over
  radio_falls m t c may =
      let R = receive F m t c in
      let li = initiator_on_floor M F G I m (I.queues m t c may.queued).held in
      let a = receive_falls m t c may in
      let b = sent_if_all_falls m t c may.station li in
      rw (one_at_once M (send_acks_if_all R m t) t c (F.initiator m)) (caught_up_falls (send_acks_if_all R m t) t c (F.initiator m) (omega arith))
