-- HOW FAR A FILE WAS CHECKED. What a read brings is any octets: of those the claims say that they were checked behind all octets before them.
use Rattle.std.specs.Prelude.{◌≡◌, cond, List, ◌++◌, ℕ, ◌≤◌, ◌<◌, eqb, ltb, length}
use Rattle.frames.specs.Decoded.{longest_frame}
use Rattle.frame_reader.specs.Checks.{Found, checked, check_in, Fed}
use Rattle.frame_reader.specs.Reads.{refusal_code}
use Rattle.checkframes.specs.declared.Progress.{Progress}
use Rattle.checkframes.specs.declared.State.{State}
use Rattle.checkframes.specs.declared.State.TheVariants.{Wants, Over, Refused}

-- what is to be done after a read that did not fail: nothing once a frame is refused for what it says or once it brought nothing
abbrev pub state_after : ℕ → ℕ → State
state_after count refusal = cond (ltb 1 refusal) Refused (cond (eqb count 0) Over Wants)

-- between two turns: the octets that are kept are in the input, and where more are wanted they leave room for those; no more frames than octets were
-- found; and a check that stopped at a refused frame stopped for what the frame says
pub record Inside (input : List ℕ) (p : Progress) : Type 0 where
  pub room : length input ≡ 65536
  pub kept : p.kept ≤ length input
  pub few : p.found.frames ≤ p.found.at
  pub wants : p.state ≡ Wants → p.kept < longest_frame
  pub refused : p.state ≡ Refused → 1 < refusal_code p.found.refusal

-- ONE TURN, from what was kept and found to what is kept and found then: whatever was read before, some octets more were read
abbrev pub Goes : List ℕ → Found → List ℕ → Progress → Type 0
Goes kept f kept' r = (all : List ℕ) → Fed all kept f → (more : List ℕ) × Fed (all ++ more) kept' (check_in r.found)

-- THE CHECK HAS ENDED: what was found is what is found in all octets that were read; and where it ended at a refused frame, whatever follows them
pub record Ended (r : Progress) : Type 0 where
  pub all : List ℕ
  pub found : check_in r.found ≡ checked all
  pub whatever : r.state ≡ Refused → (later : List ℕ) → check_in r.found ≡ checked (all ++ later)
