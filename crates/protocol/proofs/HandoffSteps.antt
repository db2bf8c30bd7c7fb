-- Enter, register, the hand-off of a deregister, and move.
use mathlib.Core.Path.{◌≡◌, ap, fun_ext, refl, subst, sym, ◌∙◌}
use mathlib.Core.Bool.{◌&&◌, cond, false, not, true}
use mathlib.Core.List.{List, [], ◌∷◌}
use Prim.Native.Nat.{◌<◌, ℕ, ◌≤◌}
use native.Mathlib.Omega.{arith}
use lib.Dec.{eqb, ltb}
use borrow.Author.Tests.{eq-eqb, eqb-true, ne_eqb}
use Rattle.protocol.specs.Folds.{update}
use Rattle.protocol.specs.CartSets.{has, without}
use Rattle.protocol.specs.Floor.{Floor, Limits, Place, Record, at, behead, between, deregister, leaving, local_to, on_lines, outside, put, register, set_next, set_place, set_queue, station_of, travelling}
use Rattle.protocol.specs.Handoff.{arrive, entry_of, on_move, row_of, struck, with_row}
use Rattle.protocol.specs.Deregister.{leave}
use Rattle.protocol.specs.Claims.{All}
use Rattle.protocol.specs.Form.{HandoffRecord, deregistering, handoff_of, handoffs, multicast_numbers, registering}
use Rattle.protocol.proofs.Tests.{and_left, and_right, both_equal, by_eq, by_lt, by_test, clash, eqb_self, list_of_at, list_of_past, on_cond, update_at}
use Rattle.protocol.proofs.SetLaws.{has_without}
use Rattle.protocol.proofs.FloorLaws.{at_home, outside_is}
use Rattle.protocol.proofs.InOrder.{handed_off}
use Rattle.protocol.proofs.Accepted.{MayEnter, MayMove}
use Rattle.protocol.proofs.Invariant.{History, Invariant, Queued, Sound}
use Rattle.protocol.proofs.Updates.{handoff_put, handoff_taken, on_beheaded, queue_changed}
use Rattle.protocol.proofs.CatchUp.{arrive_at_once, catch_up_at_once}
use Rattle.protocol.proofs.Arrival.{catch_up_ok, struck_ok}

Z : {P : Type 0} → ◌≡◌ {A = ℕ} 0 1 → P
Z e = absurd (omega arith)

-- what a hand-off's record says of its cart
pub registering_is : (p : Place) (i j : ℕ) (f row : List ℕ) (k : List HandoffRecord) → registering row ∷ k ≡ handoff_of p i j f → (p ≡ travelling i j) × ((row ≡ f) × (k ≡ []))
registering_is outside i j f row k e = Z (cc)
registering_is (at s) i j f row k e = Z (cc)
registering_is (leaving s u) i j f row k e =
    by_test (eqb u i && eqb s j) (λ q. let z : registering row ∷ k ≡ deregistering ∷ [] = rw q at e in Z (cc)) (λ q. let z : registering row ∷ k ≡ [] = rw q at e in Z (cc))
registering_is (travelling s u) i j f row k e =
    by_test (eqb s i && eqb u j)
    (λ q. let z : registering row ∷ k ≡ registering f ∷ [] = rw q at e in let y = both_equal s i u j q in (rw (y.0, y.1), (cc, cc)))
    (λ q. let z : registering row ∷ k ≡ [] = rw q at e in Z (cc))

pub deregistering_is : (p : Place) (i j : ℕ) (f : List ℕ) (k : List HandoffRecord) → deregistering ∷ k ≡ handoff_of p i j f → (p ≡ leaving j i) × (k ≡ [])
deregistering_is outside i j f k e = Z (cc)
deregistering_is (at s) i j f k e = Z (cc)
deregistering_is (leaving s u) i j f k e =
    by_test (eqb u i && eqb s j)
    (λ q. let z : deregistering ∷ k ≡ deregistering ∷ [] = rw q at e in let y = both_equal u i s j q in (rw (y.0, y.1), cc))
    (λ q. let z : deregistering ∷ k ≡ [] = rw q at e in Z (cc))
deregistering_is (travelling s u) i j f k e =
    by_test (eqb s i && eqb u j) (λ q. let z : deregistering ∷ k ≡ registering f ∷ [] = rw q at e in Z (cc)) (λ q. let z : deregistering ∷ k ≡ [] = rw q at e in Z (cc))

-- a cart that is at no station is in no queue
pub in_no_queue : (M : Limits) (F : Floor) (G : History) (c : ℕ) → Invariant M F G → ((u : ℕ) → local_to (F.place c) u ≡ false) → (m u : ℕ) → has (F.queue m u) c ≡ true → ⊥
in_no_queue M F G c I h m u e = clash (local_to (F.place c) u) (I.queues m u c e).home (h u)

-- the cart's own row, put in its place again, changes nothing
pub same_row : (F : Floor) (c : ℕ) (row : ℕ → ℕ) → ((s : ℕ) → row s ≡ F.next c s) → with_row F c row ≡ F
same_row F c row e =
    ap (λ (x : ℕ → ℕ → ℕ). set_next F x) (fun_ext (λ d. fun_ext (λ s. by_test (eqb d c) (λ q. rw (q, eqb-true d c q) (e s)) (λ q. rw q))))

-- the arrival proper: the place is set, no queue has the cart
arrived : (M : Limits) (F : Floor) (G : History) (t c : ℕ) (row : ℕ → ℕ) (w : ℕ → ℕ → List Record) → t < F.stations → c < F.carts → ((s : ℕ) → row s ≡ F.next c s)
    → ((u : ℕ) → local_to (F.place c) u ≡ false) → Invariant M F G
    → Invariant M (set_place (on_lines F w) (update F.place c (at t))) G → Invariant M (arrive M (on_lines F w) t c row) G
unfolding struck
arrived M F G t c row w lt lc er nl I J =
    let F1 = set_place (on_lines F w) (update F.place c (at t)) in
    let Z : Invariant M (catch_up_at_once M (struck F1 t c) t c (λ s. ltb s F.stations)) G =
    catch_up_ok M (struck F1 t c) G t c (struck_ok M F1 G t c J) (λ s. ltb s F.stations) lt lc (update_at F.place c (at t)) (λ m u e o. in_no_queue M F G c I nl m u e) in
    let here : Floor → Floor = λ X. catch_up_at_once M (set_place (struck X t c) (update F.place c (at t))) t c (λ s. ltb s F.stations) in
    subst (λ (X : Floor). Invariant M X G) (sym (arrive_at_once M (on_lines F w) t c row ∙ ap here (same_row (on_lines F w) c row er))) Z

pub enter_ok : (M : Limits) (F : Floor) (G : History) (t c : ℕ) → Invariant M F G → MayEnter F t c → Invariant M (arrive M F t c (λ s. 0)) G
enter_ok M F G t c I may =
    let o = outside_is (F.place c) may.is_outside in
    arrived M F G t c (λ s. 0) F.lines may.station may.cart (λ s. sym (I.out c s o)) (λ u. rw o) I
    (handoff_taken M F G c t F.lines (λ s u. refl) I.records_sound (λ d i j h. refl) (λ i j. I.handoffs_right c i j ∙ rw o) (λ u h. clash (local_to (F.place c) u) h (rw o)) may.cart I)

-- a cart has no next number beyond the stations
pub next_beyond : (M : Limits) (F : Floor) (G : History) → Invariant M F G → (c s : ℕ) → F.stations ≤ s → F.next c s ≡ 0
next_beyond M F G I c s h = by_eq (F.next c s) 0 (λ e. e) (λ e. absurd (let a = I.low c s in let b = I.senders s (omega arith) in omega arith))

-- the row that a register carries is the cart's
pub row_is_next : (M : Limits) (F : Floor) (G : History) → Invariant M F G → (c s : ℕ) → entry_of (row_of M (F.next c)) s ≡ F.next c s
row_is_next M F G I c s =
    by_lt s M.columns
    (λ l. list_of_at M.columns (F.next c) 0 s l)
    (λ l. list_of_past M.columns (F.next c) 0 s l ∙ sym (next_beyond M F G I c s (let z = I.fits in let w = M.fits in omega arith)))

-- what a register at the head of a line says: its cart travels on that line, and no other record of its hand-off is there
pub record Carried (M : Limits) (F : Floor) (i t c : ℕ) (row : List ℕ) (l : List Record) : Type 0 where
  pub travels : F.place c ≡ travelling i t
  pub alone : handoffs c l ≡ []
  -- the row that it carries is the cart's
  pub entries : (s : ℕ) → entry_of row s ≡ F.next c s

module _ (M : Limits) (F : Floor) (G : History) (i t c : ℕ) (l : List Record) (I : Invariant M F G) where
  pub carried : (row : List ℕ) → F.lines i t ≡ register c row ∷ l → Carried M F i t c row l
  carried row e =
      let z : registering row ∷ handoffs c l ≡ handoff_of (F.place c) i t (row_of M (F.next c)) = rw (e, eqb_self c) at (I.handoffs_right c i t) in
      let y = registering_is (F.place c) i t (row_of M (F.next c)) row (handoffs c l) z in
      record { travels = y.0; alone = y.1.1; entries = λ s. ap (λ (f : List ℕ). entry_of f s) y.1.0 ∙ row_is_next M F G I c s }

  -- the record of a hand-off goes
  handoff_gone : (b : Record) → F.lines i t ≡ b ∷ l → multicast_numbers (b ∷ l) ≡ multicast_numbers l → ((d : ℕ) → (d ≡ c → ⊥) → handoffs d (b ∷ l) ≡ handoffs d l) → handoffs c l ≡ []
      → ((k h : ℕ) → eqb i k && eqb t h ≡ false → handoff_of (F.place c) k h (row_of M (F.next c)) ≡ [])
      → ((u : ℕ) → local_to (F.place c) u ≡ true → u ≡ t) → c < F.carts
      → Invariant M (set_place (on_lines F (behead i t F.lines)) (update F.place c (at t))) G
  handoff_gone b e en et ec eo el lc =
      let N : ℕ → ℕ → List Record → Type 0 = λ s u k. multicast_numbers k ≡ multicast_numbers (F.lines s u) in
      let S : ℕ → ℕ → List Record → Type 0 = λ s t k. s < F.stations → t < F.stations → All (Sound G.sends F.next s t) k in
      let A : ℕ → ℕ → ℕ → List Record → Type 0 = λ d s u k. handoffs d k ≡ handoffs d (F.lines s u) in
      handoff_taken M F G c t (behead i t F.lines)
      (on_beheaded N N i t F.lines b l e (λ s u. refl) (λ a. sym en ∙ a) (λ k h l t p. p))
      (on_beheaded S S i t F.lines b l e I.records_sound (λ a li lj. (a li lj).1) (λ k h l t p. p))
      (λ d s u h. on_beheaded (A d) (A d) i t F.lines b l e (λ s u. refl) (λ a. sym (et d h) ∙ a) (λ k h l t p. p) s u)
      (on_beheaded (λ s u k. handoffs c k ≡ handoff_of (F.place c) s u (row_of M (F.next c))) (λ s u k. handoffs c k ≡ []) i t F.lines b l e (I.handoffs_right c) (λ a. ec) (λ k h l q p. p ∙ eo k h q))
      el lc I

  pub register_ok : (row : List ℕ) → F.lines i t ≡ register c row ∷ l → t < F.stations
      → Invariant M (arrive M (on_lines F (behead i t F.lines)) t c (entry_of row)) G
  register_ok row e lt =
      let y = carried row e in
      let is_p = y.travels in
      let lc = I.real c (rw is_p) in
      arrived M F G t c (entry_of row) (behead i t F.lines) lt lc y.entries (λ u. rw is_p) I
      (handoff_gone (register c row) e refl (λ d h. rw (ne_eqb c d (λ q. h (sym q)))) y.alone (λ k h q. rw (is_p, q)) (λ u h. clash (local_to (F.place c) u) h (rw is_p)) lc)

  -- the cart leaves, and its register goes
  pub handed_off_ok : F.lines i t ≡ deregister c ∷ l → Invariant M (handed_off M (on_lines F (behead i t F.lines)) i t c) G
  unfolding leave
  handed_off_ok e =
      let z : deregistering ∷ handoffs c l ≡ handoff_of (F.place c) i t (row_of M (F.next c)) = rw (e, eqb_self c) at (I.handoffs_right c i t) in
      let y = deregistering_is (F.place c) i t (row_of M (F.next c)) (handoffs c l) z in
      let is_p = y.0 in
      let F1 = set_place (on_lines F (behead i t F.lines)) (update F.place c (at t)) in
      let I1 : Invariant M F1 G =
      handoff_gone (deregister c) e refl (λ d h. rw (ne_eqb c d (λ q. h (sym q)))) y.1
      (λ k h q. rw (is_p, q)) (λ u h. sym (eqb-true t u (rw is_p at h))) (I.real c (rw is_p)) in
      let Q : ℕ → ℕ → ℕ = λ m u. cond (eqb u t) (without (F.queue m u) c) (F.queue m u) in
      let I2 : Invariant M (set_queue F1 Q) G =
      queue_changed M F1 G I1 Q
      (λ m u d. on_cond (λ x. has x d ≡ true → Queued M F.waiting F.initiator F.number F.named F1.place F.next m u d) (eqb u t)
      (λ q h. I1.queues m u d (and_left (has (F.queue m u) d) (not (eqb c d)) (sym (has_without (F.queue m u) c d) ∙ h)))
      (λ q h. I1.queues m u d h)) in
      let none : (m u : ℕ) → has (Q m u) c ≡ true → ⊥ =
      λ m u. on_cond (λ x. has x c ≡ true → ⊥) (eqb u t)
      (λ q h. clash (not (eqb c c)) (and_right (has (F.queue m u) c) (not (eqb c c)) (sym (has_without (F.queue m u) c c) ∙ h)) (rw (eqb_self c)))
      (λ q h. clash (eqb u t) (eq-eqb u t (sym (eqb-true t u (rw is_p at (I.queues m u c h).home)))) q) in
      let I3 = handoff_put M (set_queue F1 Q) G c t (travelling t i) t i (register c (row_of M (F.next c)))
      (update_at F.place c (at t)) refl tt (λ d h. rw (ne_eqb c d (λ q. h (sym q)))) (λ x y. rw (eqb_self c)) (λ m u h. absurd (none m u h)) (λ q. Z (cc)) I2 in
      let twice : update F1.place c (travelling t i) ≡ update F.place c (travelling t i) =
      fun_ext (λ k. by_test (eqb k c) (λ q. rw q) (λ q. rw q)) in
      subst (λ (x : ℕ → Place). Invariant M (on_lines (set_place (set_queue F1 Q) x) (put (between t i) (register c (row_of M (F.next c))) (behead i t F.lines))) G) twice I3

pub move_ok : (M : Limits) (F : Floor) (G : History) (c to : ℕ) → Invariant M F G → MayMove F c to → Invariant M (on_move F c to).floor G
unfolding on_move
move_ok M F G c to I may =
    let s = station_of (F.place c) in
    let is_p = at_home (F.place c) may.has_entered_lem may.not_moving in
    handoff_put M F G c s (leaving s to) to s (deregister c) is_p refl tt (λ d h. rw (ne_eqb c d (λ q. h (sym q)))) (λ x y. rw (eqb_self c))
    (λ m u h. let z = (I.queues m u c h).home in rw is_p at z) (λ q. Z (cc)) I
