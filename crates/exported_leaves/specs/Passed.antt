-- How far the next numbers of a cart rise.
use Rattle.std.specs.Prelude.{List, ℕ}
use Rattle.protocol.specs.Floor.{Floor}
use Rattle.catchup.specs.Arrival.{nearest_row, risen}

-- at station t, of cart c with that row of next numbers, for all sixteen initiators
abbrev pub passed_by : Floor → ℕ → ℕ → List ℕ → ℕ
passed_by F t c row = risen F t row (nearest_row F t c row 32) 16
