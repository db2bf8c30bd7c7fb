-- THE CHECKS OF A SEND behind 8, in parts of the table: "Checks run down the table; the first that applies is the answer."
use Rattle.std.specs.Prelude.{List, ℕ, ◌+◌, eqb, ltb, length}
use Rattle.protocol.specs.Folds.{is_empty}
use Rattle.protocol.specs.Floor.{Limits, Floor}
use Rattle.protocol.specs.Refusals.{check, strangers, not_entered, number_and_room}
use Rattle.messages.specs.View.{rooms_in}
use Rattle.store.specs.Layout.{size, used_in}

-- those of the carts that an event names, a send or a group: "a cart in the set, not on the floor", a named cart "not now entered"
abbrev pub named_checks : Floor → ℕ → ℕ
named_checks F set = check 9 (strangers F set) (check 12 (not_entered F set) 0)

-- those of a send's set: between the two, "empty set"
abbrev pub set_checks : Floor → ℕ → ℕ
set_checks F set = check 9 (strangers F set) (check 11 (eqb set 0) (check 12 (not_entered F set) 0))

-- that of its text: "24 empty text, after 12 and before 13"
abbrev pub text_checks : List ℕ → ℕ
text_checks text = check 24 (is_empty text) 0

-- those of the message's number and room: the caller's last number, and as many messages as the caller may hold
abbrev pub room_checks : Limits → Floor → ℕ → ℕ
room_checks N F s = number_and_room N F s 0

-- that of a long text: "27 free octets in the store, counted together, fewer than the length", of the messages' table (M) with h rooms
abbrev pub store_checks : ℕ → List ℕ → List ℕ → ℕ
store_checks h M text = check 27 (ltb size (used_in h (rooms_in M) + length text)) 0
