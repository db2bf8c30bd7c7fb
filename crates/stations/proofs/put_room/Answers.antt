-- `stations::put_room` meets its contract.
use mathlib.Core.Path.{ap, ◌∙◌}
use Prim.Native.Nat.{ℕ}
use native.Mathlib.Omega.{arith}
use lib.Bits.{bit_or}
use Rattle.protocol.specs.Folds.{update2}
use Rattle.stations.specs.View.{copy_at, acks_at, copies_at, counted_with, stations_of, stations_in, station_word}
use Rattle.stations.proofs.TableLaws.{room_put}
use Rattle.stations.proofs.put_room.Goals as goal

pub returns : goal.returns
unfolding stations_in
returns c =
    let a = c.args in
    let W = station_word a.stations.now in
    let t = a.station.0 in
    let m = a.m in
    let p = c.put_word.ensures in
    let q = c.put_word-2.ensures in
    let r = c.put_word-3.ensures in
    let bits = c.counted_with-among.ensures ∙ ap (λ (x : ℕ). counted_with x m (bit_or a.copy a.acks)) c.word_of.ensures in
    let first = p.stations_after ∙ ap (λ (x : ℕ). update2 W t copies_at x) bits in
    let second = q.stations_after ∙ ap (λ (X : ℕ → ℕ → ℕ). update2 X t (copy_at m) a.copy) first in
    let third = r.stations_after ∙ ap (λ (X : ℕ → ℕ → ℕ). update2 X t (acks_at m) a.acks) second in
    (ap stations_of third ∙ room_put W t m a.copy a.acks (omega arith), (r.stations_unchanged ∙ q.stations_unchanged ∙ p.stations_unchanged, r.stations_len_unchanged ∙ q.stations_len_unchanged ∙ p.stations_len_unchanged))
