-- A cart leaves the queues of a station and its local list.
use mathlib.Core.Path.{◌≡◌, ap, ◌∙◌}
use Prim.Native.Nat.{ℕ}
use Rattle.protocol.specs.CartSets.{without}
use Rattle.stations.specs.View.{Stations, with_local}
use Rattle.handoff.specs.Left.{unqueued, left}

pub leaves : (S : Stations) (t c l k : ℕ) {T U : Stations} → T ≡ unqueued S t c → l ≡ T.local t → k ≡ without l c → U ≡ with_local T t k → U ≡ left S t c
leaves S t c l k e el ek f =
    f ∙ ap (λ (X : Stations). with_local X t k) e ∙ ap (λ (x : ℕ). with_local (unqueued S t c) t x) (ek ∙ ap (λ (x : ℕ). without x c) (el ∙ ap (λ (X : Stations). X.local t) e))
