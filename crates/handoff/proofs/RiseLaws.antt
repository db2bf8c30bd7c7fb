-- WHAT AN ARRIVAL LEAVES of the expected numbers, the queues and the local list.
use mathlib.Core.Path.{◌≡◌, refl, ap, ◌∙◌}
use mathlib.Core.List.{List}
use Prim.Native.Nat.{ℕ, ◌<◌, ◌≤◌}
use native.Mathlib.Omega.{arith}
use Rattle.protocol.specs.CartSets.{with}
use Rattle.stations.specs.View.{Stations, with_local}
use Rattle.messages.specs.View.{Rooms}
use Rattle.catchup.specs.Arrival.{occurs, queued_for, deepest_to, none_near}
use Rattle.catchup.proofs.QueueLaws.{queued_none}
use Rattle.handoff.specs.Struck.{struck_from}
use Rattle.handoff.specs.Arrived.{settled, joined}

-- the strike leaves the expected numbers
pub few_still : (S : Stations) (R : Rooms) (t c : ℕ) (row : List ℕ) {T : Stations} → T ≡ struck_from S R t c row
    → ((s : ℕ) → s < 16 → S.expected t s ≤ 4294967295) → (s : ℕ) → s < 16 → T.expected t s ≤ 4294967295
few_still S R t c row {T} e few s h = let z : T.expected t s ≡ S.expected t s = ap (λ (X : Stations). X.expected t s) e in omega (arith, few s h)

-- the cart joins the local list
pub settles : (S : Stations) (t c l k : ℕ) {U : Stations} → l ≡ S.local t → k ≡ with l c → U ≡ with_local S t k → U ≡ settled S t c
settles S t c l k el ek f = f ∙ ap (λ (x : ℕ). with_local S t x) (ek ∙ ap (λ (x : ℕ). with x c) el)

-- the queues, and then the local list
pub joins : (S : Stations) (t c : ℕ) (nearest : List ℕ) {T U : Stations} → T ≡ queued_for S t c (occurs nearest 16) → U ≡ settled T t c → U ≡ joined S t c nearest
joins S t c nearest e f = f ∙ ap (λ (X : Stations). settled X t c) e

-- a cart that no message is near joins no queue, and has no place
pub joins_none : (S : Stations) (t c : ℕ) {U : Stations} → U ≡ settled S t c → U ≡ joined S t c none_near
unfolding occurs
joins_none S t c f = f ∙ ap (λ (X : Stations). settled X t c) (queued_none S t c (occurs none_near 16) (λ m. refl))

pub no_depth : (S : Stations) (R : Rooms) (t c n : ℕ) → 0 ≡ deepest_to S R t c n none_near 16
unfolding deepest_to
no_depth S R t c n = refl
