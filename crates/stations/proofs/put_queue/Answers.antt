-- `stations::put_queue` meets its contract.
use mathlib.Core.Path.{ap, ◌∙◌}
use Prim.Native.Nat.{ℕ}
use native.Mathlib.Omega.{arith}
use Rattle.protocol.specs.Folds.{update2}
use Rattle.stations.specs.View.{queue_at, entries_at, counted_with, stations_of, stations_in, station_word}
use Rattle.stations.proofs.TableLaws.{queue_put}
use Rattle.stations.proofs.put_queue.Goals as goal

pub returns : goal.returns
unfolding stations_in
returns c =
    let a = c.args in
    let W = station_word a.stations.now in
    let t = a.station.0 in
    let p = c.put_word.ensures in
    let q = c.put_word-2.ensures in
    let among = c.counted_with-among.ensures ∙ ap (λ (x : ℕ). counted_with x a.m a.carts) c.word_of.ensures in
    let both =
    q.stations_after ∙ ap (λ (X : ℕ → ℕ → ℕ). update2 X t (queue_at a.m) a.carts) (p.stations_after ∙ ap (λ (x : ℕ). update2 W t entries_at x) among) in
    (ap stations_of both ∙ queue_put W t a.m a.carts (omega arith), (q.stations_unchanged ∙ p.stations_unchanged, q.stations_len_unchanged ∙ p.stations_len_unchanged))
