-- `stations::rooms_with` meets its contract.
use Prim.Native.Nat.{ℕ, ◌+◌, ◌*◌}
use native.Mathlib.Omega.{arith}
use Rattle.stations.specs.View.{meets}
use Rattle.stations.proofs.NamingLaws.{meets_nothing, counting_none, counting_half, counting_all}
use Rattle.stations.proofs.rooms_with.Goals as goal

pub returns-then-copies-eq0 : goal.returns-then-copies-eq0
returns-then-copies-eq0 c =
    let a = c.args in
    counting_none a.stations.now a.station.0 (λ (m : ℕ). a.place + 3 * m) (meets a.carts) (meets_nothing a.carts) c.word_of-copies.result c.word_of-copies.ensures c.if-copies-eq0.true

pub returns-then-copies-lt-PAST_HALF : goal.returns-then-copies-lt-PAST_HALF
returns-then-copies-lt-PAST_HALF c =
    let a = c.args in
    counting_half a.stations.now a.station.0 (λ (m : ℕ). a.place + 3 * m) (meets a.carts) (meets_nothing a.carts) _ _ c.words_with.ensures c.word_of-copies.ensures (omega (arith, c.if-copies-lt-PAST_HALF.true))

pub returns : goal.returns
returns c =
    let a = c.args in
    counting_all a.stations.now a.station.0 (λ (m : ℕ). a.place + 3 * m) (meets a.carts) (meets_nothing a.carts) _ _ c.words_with-2.ensures c.word_of-copies.ensures
