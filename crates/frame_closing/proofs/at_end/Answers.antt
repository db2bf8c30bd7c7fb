-- `frame_closing::at_end` meets its contract.
use Rattle.frame_closing.proofs.at_end.Goals as goal
