-- THE CHECK OF A STREAM: how many whole frames it begins with, and the refusal and the place of what stands behind them.
use Rattle.std.specs.Prelude.{◌≡◌, List, [], ◌∷◌, ◌++◌, ℕ, zero, suc, ◌+◌, length, drop}
use Rattle.protocol.specs.Floor.{limits}
use Rattle.protocol.specs.Frames.{end, refused_frame, taken, frame_of}
use Rattle.frame_reader.specs.Reads.{refusal_code}
use Rattle.frame_reader.specs.declared.Checked.{Checked}

-- what a check finds: how many whole frames stand at the front, how many octets they take, and the refusal number of what stands behind them
pub record Found : Type 0 where
  pub frames : ℕ
  pub octets : ℕ
  pub refusal : ℕ

-- no frame at the front, and this refusal number
abbrev pub no_frame : ℕ → Found
no_frame r = record { frames = 0; octets = 0; refusal = r }

-- n whole frames that take these octets together, and nothing behind them
abbrev pub whole : ℕ → ℕ → Found
whole n octets = record { frames = n; octets = octets; refusal = 0 }

-- one check, and then what another finds in the octets behind it
abbrev pub after : Found → Found → Found
after f g = record { frames = f.frames + g.frames; octets = f.octets + g.octets; refusal = g.refusal }

-- what at most n frames at the front of these octets come to
unfoldable pub check_from : ℕ → List ℕ → Found
check_from zero l = no_frame 0
check_from (suc n) l =
    elim (frame_of limits l) [
      | end ↦ no_frame 0
      | refused_frame r ↦ no_frame r
      | taken e size ↦ after (whole 1 size) (check_from n (drop size l))
    ]

-- THE CHECK of a whole stream: a frame takes at least one octet, so no stream has more frames than octets
abbrev pub checked : List ℕ → Found
checked l = check_from (length l) l

-- what the running check answers, in these words
abbrev pub check_in : Checked → Found
check_in r = record { frames = r.frames; octets = r.at; refusal = refusal_code r.refusal }

-- A STREAM THAT COMES PIECE BY PIECE

-- of all octets so far, what was found, and the octets behind the whole frames, which are kept for the next piece
pub record Fed (all kept : List ℕ) (f : Found) : Type 0 where
  pub found : f ≡ checked all
  pub rest : kept ≡ drop (checked all).octets all

-- what is found in pieces, from what was found and kept before them: each piece is checked behind the octets that the last one left
unfoldable pub found_in : Found → List ℕ → List (List ℕ) → Found
found_in f kept [] = f
found_in f kept (piece ∷ pieces) =
    let more = checked (kept ++ piece) in
    found_in (after f more) (drop more.octets (kept ++ piece)) pieces

-- all pieces, one after the other
unfoldable pub joined : List (List ℕ) → List ℕ
joined [] = []
joined (piece ∷ pieces) = piece ++ joined pieces
