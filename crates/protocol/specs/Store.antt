-- FULL CALIBRATION TABLES: "Some notices are tables, not shifts. .. Long texts lie in one store of 4,096 octets." Where in it a text lies, and when
-- texts are moved together, is no matter here: a text is a list of octets, and of the store only the octets taken count.
use Rattle.std.specs.Prelude.{Bool, cond, ◌||◌, List, ℕ, eqb, ltb, leb, length}
use Rattle.protocol.specs.Folds.{sum}
use Rattle.protocol.specs.Floor.{Limits}

-- 4, "for kind 9 .. for other lengths" than "33 to 512 octets"
abbrev pub not_long : Limits → (octets : ℕ) → Bool
not_long M octets = leb octets M.text || ltb M.long octets

-- the octets that a text takes of the store: all of a long one's, none of a short one's
abbrev pub stored_of : Limits → List ℕ → ℕ
stored_of M text = cond (ltb M.text (length text)) (length text) 0

-- those that the texts of all held messages take, by who is waited for and the texts: "A deleted message's octets are free again"
abbrev pub store_used : Limits → (waiting : ℕ → ℕ) (text : ℕ → List ℕ) → ℕ
store_used M waiting text = sum M.held (λ m. cond (eqb (waiting m) 0) 0 (stored_of M (text m)))
