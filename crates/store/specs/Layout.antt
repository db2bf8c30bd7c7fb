-- HOW THE LONG TEXTS LIE IN THE STORE: their form, the octets that they take, and where they lie when they are moved together.
use Rattle.std.specs.Prelude.{cond, ◌||◌, ℕ, zero, suc, ◌+◌, max, ltb, leb}
use Rattle.protocol.specs.Folds.{sum}
use Rattle.protocol.specs.Claims.{Claim, is, le, both, when, all}
use Rattle.messages.specs.View.{Rooms, with_offsets}
use Rattle.store.specs.Texts.{is_stored}

-- "33 to 512 octets"; "one store of 4,096 octets"
abbrev pub long : ℕ
long = 512

abbrev pub size : ℕ
size = 4096

-- THE FORM: the text of room m is no longer than a long text, and within the store
abbrev pub within : Rooms → ℕ → Claim
within R m = both (le (R.length m) long) (le (R.offset m + R.length m) size)

-- that of room k ends before that of room m begins, or the other way round
abbrev pub apart : Rooms → ℕ → ℕ → Claim
apart R k m = is (leb (R.offset k + R.length k) (R.offset m) || leb (R.offset m + R.length m) (R.offset k))

-- where it lies in the store, it is within it and apart from those of the rooms before
abbrev pub text_rule : Rooms → ℕ → Claim
text_rule R m = when (is (is_stored R m)) (both (within R m) (all m (λ k. when (is (is_stored R k)) (apart R k m))))

-- so with each of h rooms
abbrev pub layout_rule : ℕ → Rooms → Claim
layout_rule h R = all h (text_rule R)

-- THE OCTETS TAKEN: by the text of room m; "A deleted message's octets are free again"
abbrev pub taken_by : Rooms → ℕ → ℕ
taken_by R m = cond (is_stored R m) (R.length m) 0

-- by those of h rooms, "counted together"
abbrev pub used_in : ℕ → Rooms → ℕ
used_in h R = sum h (taken_by R)

-- by those that begin before x
abbrev pub used_before : ℕ → Rooms → ℕ → ℕ
used_before h R x = sum h (λ m. cond (ltb (R.offset m) x) (taken_by R m) 0)

-- where the text of room m ends, if it lies in the store; where the last of h rooms ends
abbrev pub end_of : Rooms → ℕ → ℕ
end_of R m = cond (is_stored R m) (R.offset m + R.length m) 0

unfoldable pub end_in : ℕ → Rooms → ℕ
end_in zero R = 0
end_in (suc m) R = max (end_in m R) (end_of R m)

-- MOVED TOGETHER: each text begins where those that lay before it end
abbrev pub together : ℕ → Rooms → Rooms
together h R = with_offsets R (λ m. cond (is_stored R m) (used_before h R (R.offset m)) (R.offset m))

-- WHERE A TEXT OF n OCTETS IS PUT: behind the last text; "texts are moved together when the free octets suffice but lie apart", and then behind all of
-- them
abbrev pub place_for : ℕ → Rooms → ℕ → ℕ
place_for h R n = cond (leb (end_in h R + n) size) (end_in h R) (used_in h R)
