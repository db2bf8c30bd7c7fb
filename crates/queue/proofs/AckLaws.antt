-- "every local cart in the copy is in the ack list", on masks.
use mathlib.Core.Path.{◌≡◌, refl, sym, ap, ap₂, ◌∙◌}
use mathlib.Core.Bool.{Bool, true, false, ◌&&◌, ◌||◌, not}
use Prim.Native.Nat.{ℕ, ◌<◌, ◌≤◌, ◌^◌}
use native.Mathlib.Omega.{arith}
use borrow.Author.Tests.{eqb-true}
use Rattle.protocol.specs.CartSets.{has, minus, set_of}
use Rattle.protocol.specs.Folds.{every}
use Rattle.protocol.specs.Floor.{Floor, is_local, local_to}
use Rattle.protocol.specs.Wireless.{all_acked}
use Rattle.protocol.proofs.Tests.{by_lt, same_test, every_at, every_all, and-false}
use Rattle.protocol.proofs.SetLaws.{has_minus, has_set_of, no_member}
use Rattle.sets.specs.Masks.{disjoint}
use Rattle.stations.specs.View.{Stations, stations_in}
use Rattle.view.specs.View.{Lent, floor_in, local_right}

-- the test by its parts
pub tested : (X : Stations) (m t copy acks local missing : ℕ) (r : Bool) → copy ≡ X.copy m t → acks ≡ X.acks m t → local ≡ X.local t → missing ≡ minus copy acks → r ≡ disjoint 64 local missing
    → r ≡ disjoint 64 (X.local t) (minus (X.copy m t) (X.acks m t))
tested X m t copy acks local missing r e₁ e₂ e₃ e₄ e₅ = e₅ ∙ ap₂ (disjoint 64) e₃ (e₄ ∙ ap₂ minus e₁ e₂)

one_cart : (l x y : Bool) → not (l && (x && not y)) ≡ (not (l && x) || y)
one_cart true true true = refl
one_cart true true false = refl
one_cart true false true = refl
one_cart true false false = refl
one_cart false x y = refl

-- for any floor, with the mask of its local carts
pub acked_by_masks : (F : Floor) (m t local : ℕ) → ((d : ℕ) → d < 64 → has local d ≡ is_local F t d) → F.carts ≤ 64 → F.copy m t < 2 ^ F.carts
    → disjoint 64 local (minus (F.copy m t) (F.acks m t)) ≡ all_acked F m t
unfolding disjoint all_acked
acked_by_masks F m t local right few low =
    same_test (every 64 apart) (every F.carts acked)
    (λ e. every_all F.carts acked (λ d l. sym (same d (omega arith)) ∙ every_at 64 apart e d (omega arith)))
    (λ e. every_all 64 apart (λ d l. by_lt d F.carts (λ q. same d l ∙ every_at F.carts acked e d q) (λ q. no_cart_lem d q)))
  where
    apart : ℕ → Bool
    apart d = not (has local d && has (minus (F.copy m t) (F.acks m t)) d)

    acked : ℕ → Bool
    acked d = not (is_local F t d && has (F.copy m t) d) || has (F.acks m t) d

    same : (d : ℕ) → d < 64 → apart d ≡ acked d
    same d l = rw (right d l, has_minus (F.copy m t) (F.acks m t) d) (one_cart (is_local F t d) (has (F.copy m t) d) (has (F.acks m t) d))

    no_cart_lem : (d : ℕ) → F.carts ≤ d → apart d ≡ true
    no_cart_lem d q = rw (has_minus (F.copy m t) (F.acks m t) d, no_member F.carts (F.copy m t) d low q) (ap not (and-false (has local d)))

-- for the floor that lent parts say, whose mask of local carts is right
pub all_acked_lem : (L : Lent) (m t : ℕ) → local_right L t ≡ true → (floor_in L).carts ≤ 64 → (floor_in L).copy m t < 2 ^ (floor_in L).carts
    → disjoint 64 ((stations_in L.stations).local t) (minus ((stations_in L.stations).copy m t) ((stations_in L.stations).acks m t)) ≡ all_acked (floor_in L) m t
unfolding local_right
all_acked_lem L m t right few low =
    acked_by_masks (floor_in L) m t ((stations_in L.stations).local t)
    (λ d l. ap (λ (x : ℕ). has x d) mask ∙ has_set_of 64 local d l) few low
  where
    local : ℕ → Bool
    local d = local_to ((floor_in L).place d) t

    mask : (stations_in L.stations).local t ≡ set_of 64 local
    mask = eqb-true ((stations_in L.stations).local t) (set_of 64 local) right
