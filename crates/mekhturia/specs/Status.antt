-- WHAT A CALL FROM ANOTHER LANGUAGE COMES TO: it is asked for a product, is lent words (out) for its answer, leaves them as out', and hands back its status r.
-- "Too few words for the answer is an answer of its own, given before anything is touched".
use Rattle.std.specs.Prelude.{◌≡◌, cond, List, [], ℕ, eqb, ltb, length}
use Rattle.protocol.specs.Floor.{Product, whole_floor, kit}
use Rattle.protocol.specs.Events.{Event}
use Rattle.view.specs.View.{Lent}
use Rattle.reading.specs.Parts.{read_in}
use Rattle.answer_words.specs.Words.{Answered, AnsweredText, AnsweredQuiet, read_words}

-- the product by its number: 0 is the floor and 1 the kit. With another number no call goes by it
unfoldable pub product_numbered : ℕ → Product
product_numbered product = cond (eqb product 0) whole_floor kit

-- the status: 1 where fewer than eight words are lent, then 2 where there is no such product, and else 0
abbrev pub status_of : ℕ → List ℕ → ℕ
status_of product out = cond (ltb (length out) 8) 1 (cond (ltb 1 product) 2 0)

-- with status 0 the call was answered, and with another nothing was touched
abbrev pub ByStatus : ℕ → ℕ → Type 0 → Type 0 → Type 0
ByStatus r status answered untouched = (r ≡ status) × (r ≡ 0 → answered) × ((r ≡ 0 → ⊥) → untouched)

-- AN EVENT, from the lent parts L to L'
abbrev pub EventByStatus : ℕ → ℕ → Lent → Lent → Event → List ℕ → List ℕ → Type 0
EventByStatus r product L L' e out out' = ByStatus r (status_of product out) (Answered L L' e [] out out') ((L' ≡ L) × (out' ≡ out))

-- a radio step of cart c at station t, which left its buffer as buffer'
abbrev pub RadioByStatus : ℕ → ℕ → Lent → Lent → ℕ → ℕ → List ℕ → List ℕ → List ℕ → List ℕ → Type 0
RadioByStatus r product L L' t c buffer buffer' out out' =
    ByStatus r (status_of product out) (AnsweredText L L' t c buffer buffer' out out') ((L' ≡ L) × (buffer' ≡ buffer) × (out' ≡ out))

-- a floor that was run until it is quiet
abbrev pub QuietByStatus : ℕ → ℕ → Lent → Lent → List ℕ → List ℕ → List ℕ → List ℕ → Type 0
QuietByStatus r product L L' buffer buffer' out out' =
    ByStatus r (status_of product out) (AnsweredQuiet L L' buffer buffer' out out') ((L' ≡ L) × (buffer' ≡ buffer) × (out' ≡ out))

-- the text of the held message with initiator s and number n
abbrev pub ReadByStatus : ℕ → ℕ → Lent → ℕ → ℕ → List ℕ → List ℕ → Type 0
ReadByStatus r product L s n out out' = ByStatus r (status_of product out) (out' ≡ read_words out (read_in L s n)) (out' ≡ out)
