-- THE STATIONS WITHOUT COPIES OF A MESSAGE: no copy of it yet, no ack list and no entry for it.
use Rattle.std.specs.Prelude.{cond, ℕ, eqb}
use Rattle.stations.specs.View.{Stations, with_room, with_queue}

-- of the message in room m, at station t
abbrev pub without_copy : Stations → ℕ → ℕ → Stations
without_copy S m t = with_queue (with_room S m t 0 0) m t 0

-- at every station
abbrev pub without_copies : Stations → ℕ → Stations
without_copies S m =
    record {
      sent = S.sent;
      expected = S.expected;
      local = S.local;
      copy = λ k t. cond (eqb k m) 0 (S.copy k t);
      acks = λ k t. cond (eqb k m) 0 (S.acks k t);
      queue = λ k t. cond (eqb k m) 0 (S.queue k t);
    }
