-- The answers, case by case: only that of a radio step adds octets of text.
use mathlib.Core.Path.{◌≡◌, refl}
use mathlib.Core.List.{List, [], ◌∷◌}
use Prim.{tt}
use Prim.Native.Nat.{ℕ}
use denote.Enum.Declared.{tag_of}
use types.Run.{OneOf, miss}
use Rattle.event_answers.specs.declared.Outcome.{Outcome}
use Rattle.event_answers.specs.declared.Outcome.TheVariants.{Started, Entered, Sent, Buffered, Acknowledged, Deleted, Deregistered, Registered, Received, Moved, Flagged, Grouped, SentToGroup, SentLong, Retired}
use Rattle.event_answers.specs.Answers.{text_size}
use Rattle.event_answers.specs.contracts.Outcome.{the_type as outcome_type}

-- every case but that of a radio step
abbrev pub textless : List ℕ
textless = 0 ∷ 1 ∷ 2 ∷ 3 ∷ 4 ∷ 5 ∷ 6 ∷ 7 ∷ 9 ∷ 10 ∷ 11 ∷ 12 ∷ 13 ∷ 14 ∷ []

pub no_octets : (o : Outcome) → OneOf textless (tag_of outcome_type o) → 0 ≡ text_size o
no_octets (Started n k) h = refl
no_octets (Entered t c) h = refl
no_octets (Sent s n) h = refl
no_octets (Buffered n) h = refl
no_octets (Acknowledged n) h = refl
no_octets (Deleted n) h = refl
no_octets (Deregistered c) h = refl
no_octets (Registered c) h = refl
no_octets (Received s n size) h = absurd (miss textless 8 tt h)
no_octets (Moved c to) h = refl
no_octets (Flagged c b) h = refl
no_octets (Grouped g members) h = refl
no_octets (SentToGroup s n) h = refl
no_octets (SentLong s n) h = refl
no_octets (Retired c) h = refl
