-- The parts of a radio step, store by store.
use mathlib.Core.Path.{◌≡◌, refl, sym, ap, ap₂, subst, ◌∙◌}
use mathlib.Core.Bool.{true, false}
use mathlib.Core.List.{List}
use mathlib.Core.Option.{Option, none, some}
use Prim.Native.Nat.{ℕ, ◌+◌, ◌-◌, ◌<◌, ◌≤◌}
use native.Mathlib.Omega.{arith}
use lib.Dec.{ltb}
use borrow.Author.Tests.{ltb-true, ne_eqb}
use Rattle.std.specs.Prelude as code
use Rattle.std.specs.Prelude.{Some}
use Rattle.protocol.specs.CartSets.{has, minus, with, without}
use Rattle.protocol.specs.Floor.{Floor}
use Rattle.protocol.proofs.SetLaws.{has_zero, has_set_of}
use Rattle.protocol.proofs.Tests.{and_right, by_lt, by_test, clash, on_update2}
use Rattle.stations.specs.View.{Stations, stations_in, naming_in, with_copy, with_acks, with_room, with_queue}
use Rattle.messages.specs.View.{Rooms}
use Rattle.queue.specs.Rooms.{room_code, room_in}
use Rattle.queue.proofs.Codes.{is_room}
use Rattle.catchup.specs.Nearest.{nearest_among, stop_by}
use Rattle.catchup.specs.Arrival.{is_found, queued_for, place_found}
use Rattle.catchup.proofs.ClosedForm.{IsNearest, nearest_is, would}
use Rattle.catchup.proofs.NamingLaws.{naming_inside}
use Rattle.catchup.proofs.RoomLaws.{nearest_decoded}
use Rattle.catchup.proofs.QueueLaws.{queued_none}
use Rattle.wireless.specs.Handed.{hold_none, AcksSent}

-- a copy that names a cart is of a room below any number that no copy is beyond
pub naming_below : (S : List ℕ) (t c n : ℕ) → ((r : ℕ) → n ≤ r → (stations_in S).copy r t ≡ 0) → (m : ℕ) → has (naming_in (stations_in S) t c) m ≡ true → m < n
naming_below S t c n beyond m h =
    by_lt m n (λ k. k)
    (λ k. let i = naming_inside S t c m h in
    let y : has ((stations_in S).copy m t) c ≡ true = sym (has_set_of 32 (λ r. has ((stations_in S).copy r t) c) m i) ∙ h in
    clash (has 0 c) (rw (beyond m k) at y) (has_zero c))

-- another room's copy, when that of room m changes
pub beyond_kept : (X : Stations) (m t n x : ℕ) → m < n → ((r : ℕ) → n ≤ r → X.copy r t ≡ 0) → (r : ℕ) → n ≤ r → (with_copy X m t x).copy r t ≡ 0
beyond_kept X m t n x l beyond r h = on_update2 (λ (y : ℕ). y ≡ 0) X.copy m t x r t (λ e f. absurd (omega arith)) (λ e. beyond r h)

-- and so it is once an ack list has gone
pub acks_beyond : (S S' W W' : List ℕ) (m s n t w k : ℕ) → AcksSent S S' W W' m s n t w → m < k → ((r : ℕ) → k ≤ r → (stations_in S).copy r t ≡ 0)
    → (r : ℕ) → k ≤ r → (stations_in S').copy r t ≡ 0
acks_beyond S S' W W' m s n t w k acks l beyond r h =
    let X = stations_in S in
    by_test (hold_none X m t)
    (λ e. ap (λ (Y : Stations). Y.copy r t) (acks.yes e).0 ∙ beyond_kept X m t k (minus (X.copy m t) (X.acks m t)) l beyond r h)
    (λ e. ap (λ (Y : Stations). Y.copy r t) (acks.no e).0 ∙ beyond r h)

-- the entry, then the ack list
pub received_stations : (X X₁ X₂ : Stations) (m t c q q' a a' : ℕ) → q ≡ X.queue m t → q' ≡ without q c → X₁ ≡ with_queue X m t q' → a ≡ X₁.acks m t → a' ≡ with a c → X₂ ≡ with_acks X₁ m t a'
    → X₂ ≡ with_acks (with_queue X m t (without (X.queue m t) c)) m t (with (X.acks m t) c)
received_stations X X₁ X₂ m t c q q' a a' e₁ e₂ e₃ e₄ e₅ e₆ =
    e₆ ∙ ap₂ (λ (Y : Stations) (x : ℕ). with_acks Y m t x) entry (e₅ ∙ ap (λ (x : ℕ). with x c) (e₄ ∙ ap (λ (Y : Stations). Y.acks m t) entry))
  where
    entry : X₁ ≡ with_queue X m t (without (X.queue m t) c)
    entry = e₃ ∙ ap (with_queue X m t) (e₂ ∙ ap (λ (x : ℕ). without x c) e₁)

-- the list's carts are struck from the copy
pub sent_stations : (X X₁ : Stations) (m t a k d : ℕ) → a ≡ X.acks m t → k ≡ X.copy m t → d ≡ minus k a → X₁ ≡ with_room X m t d 0
    → X₁ ≡ with_room X m t (minus (X.copy m t) (X.acks m t)) 0
sent_stations X X₁ m t a k d e₁ e₂ e₃ e₄ = e₄ ∙ ap (λ (x : ℕ). with_room X m t x 0) (e₃ ∙ ap₂ minus e₂ e₁)

module _ (F : Floor) (t c s x : ℕ) where
  -- what was found
  pub found_is_lem : {h : code.Option ℕ} → h ≡ room_code (nearest_among F t c s x 32) → room_in h ≡ nearest_among F t c s x 32
  found_is_lem e = ap room_in e ∙ nearest_decoded F t c s x 32

  -- a room that was found names the cart, so it is below any number that no copy is beyond
  pub found_below : (n : ℕ) {h : code.Option ℕ} → ((r : ℕ) → n ≤ r → F.copy r t ≡ 0) → h ≡ room_code (nearest_among F t c s x 32) → (k : ℕ) → h ≡ Some k → k < n
  found_below n beyond e k found =
      let q : IsNearest F t c s x 32 (some k) = subst (IsNearest F t c s x 32) (is_room (nearest_among F t c s x 32) k found e) (nearest_is F t c s x 32) in
      by_lt k n (λ u. u)
      (λ u. let y = (would F t c s x k q.1.0).in_copy in clash (has 0 c) (rw (beyond k u) at y) (has_zero c))

  -- so no other was found
  pub not_found : (n m : ℕ) → ((r : ℕ) → n ≤ r → F.copy r t ≡ 0) → n ≤ m → is_found (nearest_among F t c s x 32) m ≡ false
  not_found n m beyond l = other (nearest_among F t c s x 32) (nearest_is F t c s x 32)
    where
      other : (o : Option ℕ) → IsNearest F t c s x 32 o → is_found o m ≡ false
      other none q = refl
      other (some k) q =
          ne_eqb m k
          (λ e. let y = (would F t c s x k q.1.0).in_copy in
          let z : F.copy k t ≡ 0 = beyond k (omega arith) in
          clash (has 0 c) (rw z at y) (has_zero c))

  -- no number falls
  pub no_fall : x ≤ (stop_by F t s x (nearest_among F t c s x 32)).upto
  no_fall = above (nearest_among F t c s x 32) (nearest_is F t c s x 32)
    where
      above : (o : Option ℕ) → IsNearest F t c s x 32 o → x ≤ (stop_by F t s x o).upto
      above none n = omega arith
      above (some k) n = (would F t c s x k n.1.0).far

  -- a next number that is not below the expected one meets no message
  pub nothing_ahead : F.expected t s ≤ x → nearest_among F t c s x 32 ≡ none
  nothing_ahead h = none_there (nearest_among F t c s x 32) (nearest_is F t c s x 32)
    where
      none_there : (o : Option ℕ) → IsNearest F t c s x 32 o → o ≡ none
      none_there none n = refl
      none_there (some k) n =
          let p = would F t c s x k n.1.0 in
          let z = ltb-true (F.number k) (F.expected t (F.initiator k)) (and_right (has (F.waiting k) t) (ltb (F.number k) (F.expected t (F.initiator k))) p.buffered) in
          let y : F.number k < F.expected t s = rw p.is_initiator at z in
          let far = p.far in
          absurd (omega arith)

  -- and it stays
  pub stays : F.expected t s ≤ x → x ≡ (stop_by F t s x (nearest_among F t c s x 32)).upto
  stays h = let z : x ≡ x + (F.expected t s - x) = omega arith in z ∙ ap (λ (o : Option ℕ). (stop_by F t s x o).upto) (sym (nothing_ahead h))

  pub none_queued : (S : Stations) → F.expected t s ≤ x → S ≡ queued_for S t c (is_found (nearest_among F t c s x 32))
  none_queued S h = queued_none S t c (is_found none) (λ k. refl) ∙ ap (λ (o : Option ℕ). queued_for S t c (is_found o)) (sym (nothing_ahead h))

  pub none_placed : (S : Stations) (R : Rooms) (n : ℕ) → F.expected t s ≤ x → 0 ≡ place_found S R t n (nearest_among F t c s x 32)
  none_placed S R n h = ap (λ (o : Option ℕ). place_found S R t n o) (sym (nothing_ahead h))
