-- WHY A RUN STOPS, by the numbers that the written stream and callers of other languages know it by: the output has no room for another line (0), no whole frame
-- is left (1), or a frame was refused (2).
use Rattle.std.specs.Prelude.{ℕ}
use Rattle.frame_run.specs.declared.Stop.{Stop}
use Rattle.frame_run.specs.declared.Stop.TheVariants.{Full, Waits, Ended}

abbrev pub stop_number : Stop → ℕ
stop_number Full = 0
stop_number Waits = 1
stop_number Ended = 2
