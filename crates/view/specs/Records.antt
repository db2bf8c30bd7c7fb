-- RECORDS ON THE LINES, in words: kind + 8 × index + 2048 × number. The index is the room of the message, or the cart of a hand-off; the
-- second word of a record is an ack list's carts. "the register record carries the cart's whole row of next numbers": they stand in the
-- register's own words, which the cart's number finds.
use Rattle.std.specs.Prelude.{Bool, true, cond, ◌&&◌, not, List, [], map, ℕ, ◌+◌, ◌*◌, ◌/◌, ◌%◌, eqb, ltb}
use Rattle.protocol.specs.Folds.{list_of}
use Rattle.protocol.specs.Floor.{Record, multicast, ack_list, delete, deregister, register}
use Rattle.lines.specs.declared.Record as word
use Rattle.lines.specs.Lines.{records_on, registers_in}
use Rattle.messages.specs.View.{Rooms}

-- the parts of a record's word
abbrev pub kind_of : ℕ → ℕ
kind_of w = w % 8

abbrev pub index_of : ℕ → ℕ
index_of w = w / 8 % 256

abbrev pub number_of : ℕ → ℕ
number_of w = w / 2048

-- the word of these parts
abbrev pub word_of : ℕ → ℕ → ℕ → ℕ
word_of kind index number = kind + 8 * index + 2048 * number

-- the two words of a record with these parts, and an ack list's carts
abbrev pub words_of : ℕ → ℕ → ℕ → ℕ → word.Record
words_of kind index number carts = record { 0 = word_of kind index number; 1 = carts }

-- the record that two words say, where the register of each cart carries that row
unfoldable pub record_in : (ℕ → ℕ → ℕ) → word.Record → Record
record_in rows r =
    let kind = kind_of r.0 in
    cond (eqb kind 1) (multicast (number_of r.0))
    (cond (eqb kind 2) (ack_list (number_of r.0) r.1)
    (cond (eqb kind 3) (delete (number_of r.0))
    (cond (eqb kind 4) (deregister (index_of r.0))
    (register (index_of r.0) (list_of 16 (rows (index_of r.0)))))))

-- the records on the line from i to j, head first
unfoldable pub lines_in : List ℕ → ℕ → ℕ → List Record
lines_in words i j = cond (ltb i 16 && ltb j 16) (map (record_in (registers_in words)) (records_on words (i * 16 + j))) []

-- is message n of s in room m
abbrev pub is_in : Rooms → ℕ → ℕ → ℕ → Bool
is_in R s n m = not (eqb (R.waiting m) 0) && (eqb (R.initiator m) s && eqb (R.number m) n)

-- does a record on the line from i to j say its room right: that of message n of i, or of j for an ack list
unfoldable pub room_right : Rooms → ℕ → ℕ → word.Record → Bool
room_right R i j r =
    let kind = kind_of r.0 in
    let here : ℕ → Bool = λ s. is_in R s (number_of r.0) (index_of r.0) in
    cond (eqb kind 1) (here i) (cond (eqb kind 2) (here j) (cond (eqb kind 3) (here i) (cond (eqb kind 4) true (eqb kind 5))))
