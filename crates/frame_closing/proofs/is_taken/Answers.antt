-- `frame_closing::is_taken` meets its contract.
use Rattle.frame_closing.proofs.is_taken.Goals as goal
