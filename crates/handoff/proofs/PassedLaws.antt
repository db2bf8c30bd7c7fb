-- The ways through the test whether a cart is past a message that is buffered at a station.
use mathlib.Core.Path.{◌≡◌, refl, sym, ap, ap₂, ◌∙◌, fun_ext, subst}
use mathlib.Core.Bool.{Bool, true, false, not}
use mathlib.Core.List.{List}
use Prim.Native.Nat.{ℕ, ◌<◌, ◌≤◌}
use native.Mathlib.Omega.{arith}
use lib.Dec.{ltb, eqb}
use borrow.Author.Tests.{lt-ltb, le-ltb}
use Rattle.std.specs.Prelude as code
use Rattle.std.specs.Prelude.{Some, None}
use Rattle.ids.specs.declared.Station.{Station}
use Rattle.protocol.specs.CartSets.{has, without}
use Rattle.protocol.specs.Folds.{update2}
use Rattle.protocol.proofs.Tests.{and_left, and_second_false, by_eq, on_cond, on_update2}
use Rattle.protocol.proofs.SetLaws.{same_sets, has_without}
use Rattle.sets.proofs.MaskLaws.{without_here, without_other}
use Rattle.stations.specs.View.{Stations, stations_in, with_copy}
use Rattle.stations.proofs.TableLaws.{expected_beyond}
use Rattle.messages.specs.View.{Rooms}
use Rattle.catchup.specs.Naming.{Covers, named_by}
use Rattle.catchup.proofs.NamingLaws.{by_initiator, by_none}
use Rattle.handoff.specs.Struck.{with_copies, is_below, is_passed, struck_copy, struck_in}

module _ (S : Stations) (R : Rooms) (t m x : ℕ) where
  -- it is waited for here, and expected; and its number is below x
  pub not_waiting : (w : ℕ) (b : Bool) → w ≡ R.waiting m → b ≡ has w t → b ≡ false → false ≡ is_below S R t m x
  not_waiting w b ew eb n = rw (ap (λ (x : ℕ). has x t) (sym ew) ∙ sym eb ∙ n)

  pub not_handled : (i n y : ℕ) → i ≡ R.initiator m → n ≡ R.number m → y ≡ S.expected t i → y ≤ n → false ≡ is_below S R t m x
  not_handled i n y ei en ey l =
      rw (and_second_false (has (R.waiting m) t) (ltb (R.number m) (S.expected t (R.initiator m)))
      (le-ltb (R.number m) (S.expected t (R.initiator m)) (let z : S.expected t (R.initiator m) ≡ y = (ap (S.expected t) (sym ei) ∙ sym ey) in omega arith)))

  pub by_next : (w i n y : ℕ) (b : Bool) → w ≡ R.waiting m → i ≡ R.initiator m → n ≡ R.number m → y ≡ S.expected t i → b ≡ has w t → b ≡ true → n < y
      → ltb n x ≡ is_below S R t m x
  by_next w i n y b ew ei en ey eb waits low =
      rw (ap (λ (x : ℕ). has x t) (sym ew) ∙ sym eb ∙ waits, lt-ltb (R.number m) (S.expected t (R.initiator m)) below)
      (ap (λ (z : ℕ). ltb z x) en)
    where
      below : R.number m < S.expected t (R.initiator m)
      below = let z : S.expected t (R.initiator m) ≡ y = (ap (S.expected t) (sym ei) ∙ sym ey) in omega arith

-- WHERE NOTHING IS STRUCK
-- a set that lacks the cart stays as it is without it
without_absent : (x c : ℕ) → has x c ≡ false → without x c ≡ x
without_absent x c n =
    same_sets (without x c) x (λ d. by_eq c d
    (λ e. subst (λ (z : ℕ). has (without x c) z ≡ has x z) e (without_here x c ∙ sym n))
    (λ e. without_other x c d e))

module _ (S : Stations) (R : Rooms) (t : ℕ) (row : List ℕ) (m : ℕ) where
  -- the copy does not name the cart
  pub not_named : (c k : ℕ) (b : Bool) → k ≡ S.copy m t → b ≡ has k c → b ≡ false → struck_copy S R t c row m (S.copy m t) ≡ S.copy m t
  not_named c k b ek eb n =
      on_cond (λ (x : ℕ). x ≡ S.copy m t) (is_passed S R t row m)
      (λ e. without_absent (S.copy m t) c (ap (λ (z : ℕ). has z c) (sym ek) ∙ sym eb ∙ n)) (λ e. refl)

  -- nothing is expected of an initiator that there is not
  from_nobody : (c i : ℕ) → i ≡ R.initiator m → S.expected t i ≡ 0 → struck_copy S R t c row m (S.copy m t) ≡ S.copy m t
  from_nobody c i e z =
      rw (and_second_false (has (R.waiting m) t) (ltb (R.number m) (S.expected t (R.initiator m)))
      (le-ltb (R.number m) (S.expected t (R.initiator m)) (let y : S.expected t (R.initiator m) ≡ 0 = rw e at z in omega arith)))

-- a message that does not name the cart, or is of none of sixteen initiators: nothing is struck from its copy
module _ (l : List ℕ) (R : Rooms) (t c m : ℕ) (row : List ℕ) {o : code.Option Station} (e : o ≡ named_by (stations_in l) R t c m) where
  pub passed_nowhere : o ≡ None → struck_copy (stations_in l) R t c row m ((stations_in l).copy m t) ≡ (stations_in l).copy m t
  passed_nowhere nobody =
      not_named (stations_in l) R t row m c ((stations_in l).copy m t) (has ((stations_in l).copy m t) c) refl refl (by_none (stations_in l) R t c m e nobody)

  pub passed_none_of_us : (i : Station) → o ≡ Some i → 16 ≤ i.0 → struck_copy (stations_in l) R t c row m ((stations_in l).copy m t) ≡ (stations_in l).copy m t
  passed_none_of_us i found h =
      from_nobody (stations_in l) R t row m c i.0 (by_initiator (stations_in l) R t c m i e found).0 (expected_beyond l t i.0 h)

-- ONE COPY WRITTEN, OR NONE
pub same_entry : (g : ℕ → ℕ → ℕ) (m t : ℕ) → g ≡ update2 g m t (g m t)
same_entry g m t = fun_ext (λ k. fun_ext (λ u. on_update2 (λ (y : ℕ). g k u ≡ y) g m t (g m t) k u (λ p q. ap₂ g p q) (λ h. refl)))

pub same_copy : (S : Stations) (m t : ℕ) → S ≡ with_copy S m t (S.copy m t)
same_copy S m t = ap (with_copies S) (same_entry S.copy m t)

module _ (S : Stations) (R : Rooms) (t c m x : ℕ) where
  pub is_struck_lem : (k r : ℕ) (b : Bool) {U : Stations} → b ≡ is_below S R t m x → b ≡ true → k ≡ S.copy m t → r ≡ without k c → U ≡ with_copy S m t r → U ≡ struck_in S R t c m x
  is_struck_lem k r b e y ek er f = f ∙ ap (with_copy S m t) (rw (sym e ∙ y) (er ∙ ap (λ (z : ℕ). without z c) ek))

  pub is_kept : (b : Bool) → b ≡ is_below S R t m x → b ≡ false → S ≡ struck_in S R t c m x
  is_kept b e n = same_copy S m t ∙ ap (with_copy S m t) (rw (sym e ∙ n) refl)

-- where the cart is struck, the room names it no more
pub struck_covers : {b : ℕ} (S : Stations) (t c m set r w : ℕ) {U : Stations} → Covers b S t c set → r ≡ without (S.copy m t) c → U ≡ with_copy S m t r → w ≡ without set m → Covers b U t c w
struck_covers S t c m set r w C er f ew = rw (f, ew) (record { inside = λ k h. C.inside k (and_left (has set k) (not (eqb m k)) (sym (has_without set m k) ∙ h)); others = others })
  where
    others : (k : ℕ) → has (without set m) k ≡ false → has (update2 S.copy m t r k t) c ≡ false
    others k h =
        on_update2 (λ (y : ℕ). has y c ≡ false) S.copy m t r k t
        (λ p q. ap (λ (y : ℕ). has y c) er ∙ without_here (S.copy m t) c)
        (λ d. C.others k (sym (without_other set m k (λ e. d (sym e) refl)) ∙ h))
