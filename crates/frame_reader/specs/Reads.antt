-- A READER: what a step of it gives, and where it stands then.
use Rattle.std.specs.Prelude.{◌≡◌, ℕ, drop, Option, None, Some}
use Rattle.protocol.specs.Floor.{limits}
use Rattle.protocol.specs.Frames.{read_at, moved_to}
use Rattle.refusals.specs.declared.Refusal.{Refusal}
use Rattle.refusals.specs.Numbers.{number_of}
use Rattle.frames.specs.declared.Event.{Event}
use Rattle.frames.specs.Decoded.{taken_in}
use Rattle.frame_reader.specs.declared.Reader.{Reader}

-- the number of a refusal, or 0 where nothing is refused
abbrev pub refusal_code : Option Refusal → ℕ
refusal_code None = 0
refusal_code (Some refusal) = number_of refusal

-- what it gave: the event that it read, or nothing, and then it has not moved
abbrev pub Gave : Reader → Option Event → Reader → Type 0
Gave before None after = after.at ≡ before.at
Gave before (Some e) after = read_at limits before.octets.now before.at ≡ taken_in (drop before.at before.octets.now) e

-- a step of a reader: the octets stay, and it stands behind what it read
pub record Reads (before : Reader) (given : Option Event) (after : Reader) : Type 0 where
  pub octets : after.octets ≡ before.octets
  pub moved : after.at ≡ moved_to before.at (read_at limits before.octets.now before.at)
  pub gave : Gave before given after
