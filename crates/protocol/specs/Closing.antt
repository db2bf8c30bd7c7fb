-- THE CLOSING: "A program closing reads frames as floor does, prints as floor does, and at the end of the input runs the floor until it is quiet and
-- prints one line more, quiet, the number of steps, and how many messages are then held".
use Rattle.std.specs.Prelude.{List, [], ◌∷◌, ◌++◌, ℕ, zero, suc, length, drop, replicate}
use Rattle.protocol.specs.Folds.{count}
use Rattle.protocol.specs.Floor.{Limits, Floor, is_held, most_text, unstarted}
use Rattle.protocol.specs.Step.{step}
use Rattle.protocol.specs.Quiet.{QuietAnswer, turned_away, quiet_after, QuietCall, quiet_call}
use Rattle.protocol.specs.Frames.{end, refused_frame, taken, frame_of}
use Rattle.protocol.specs.Printed.{field, printed_run}

-- "how many messages are then held"
abbrev pub held_count : Limits → Floor → ℕ
held_count M F = count M.held (is_held F)

-- the word quiet
abbrev pub quiet_word : List ℕ
quiet_word = 113 ∷ 117 ∷ 105 ∷ 101 ∷ 116 ∷ []

-- "the number of steps, and how many messages are then held"; no and the refusal, where the call is refused
abbrev pub closing_fields : QuietAnswer → ℕ → List ℕ
closing_fields (turned_away r) held = 32 ∷ 110 ∷ 111 ∷ field r
closing_fields (quiet_after steps) held = field steps ++ field held

-- the call that the program makes: it lends a buffer that takes every text
abbrev pub closing_call : Limits → Floor → QuietCall
closing_call M F = quiet_call M F (replicate (most_text M) 0)

-- "one line more": of the floor at the end of the input
unfoldable pub closing_line : Limits → Floor → List ℕ
closing_line M F = quiet_word ++ (closing_fields (closing_call M F).answer (held_count M (closing_call M F).floor) ++ (10 ∷ []))

-- what follows the lines of the frames in these octets, at most so many, from a floor: that line "at the end of the input", of the floor after the
-- frames' events; and nothing where a frame was refused, which ended the run before
unfoldable pub closing_from : Limits → ℕ → Floor → List ℕ → List ℕ
closing_from M zero F l = []
closing_from M (suc k) F l = elim (frame_of M l) [ end ↦ closing_line M F | refused_frame r ↦ [] | taken e size ↦ closing_from M k (step M F e) (drop size l) ]

-- what the program prints for these octets: "prints as floor does .. and prints one line more"
unfoldable pub printed_closing : Limits → List ℕ → List ℕ
printed_closing M l = printed_run M l ++ closing_from M (suc (length l)) unstarted l
