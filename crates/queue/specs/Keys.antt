-- THE KEY OF A MESSAGE: "smallest number first; between equal numbers the higher initiator stands first" in one word.
use Rattle.std.specs.Prelude.{◌≡◌, Bool, true, cond, not, List, ℕ, zero, suc, ◌+◌, ◌*◌, ◌-◌, ◌<◌, eqb, ltb}
use Rattle.std.proofs.Math.Option.{Option, none, some}
use Rattle.protocol.specs.CartSets.{has}
use Rattle.protocol.specs.Floor.{Floor}
use Rattle.protocol.specs.Wireless.{stands_before}
use Rattle.messages.specs.View.{HasRoom, rooms_in}
use Rattle.queue.specs.declared.Best.{Best}

-- a number and an initiator that a key has room for
abbrev pub InKey : ℕ → ℕ → Type 0
InKey number initiator = (number < 4294967296) × (initiator < 16)

-- of two messages, the one with the smaller key stands first
abbrev pub key_of : ℕ → ℕ → ℕ
key_of number initiator = number * 16 + 15 - initiator

-- every message that has an entry in the queue at t has a key
abbrev pub Keyed : Floor → ℕ → Type 0
Keyed F t = (m : ℕ) → m < 32 → (F.queue m t ≡ 0 → ⊥) → InKey (F.number m) (F.initiator m)

-- the messages' table has a row for each of these rooms, and their messages have keys
abbrev pub KeyedRooms : List ℕ → ℕ → Type 0
KeyedRooms messages among =
    (m : ℕ) → has among m ≡ true → (m < 32) × HasRoom messages m × InKey ((rooms_in messages).number m) ((rooms_in messages).initiator m)

-- has the message in room m an entry in the queue at t
abbrev pub has_entry : Floor → ℕ → ℕ → Bool
has_entry F t m = not (eqb (F.queue m t) 0)

-- THE FIRST OF THE ROOMS THAT ARE PICKED, in queue order: once room m is looked at too, and among the first rooms
abbrev pub first_with : Floor → (ℕ → Bool) → ℕ → Option ℕ → Option ℕ
first_with F pick m none = cond (pick m) (some m) none
first_with F pick m (some k) = cond (pick m) (cond (stands_before F m k) (some m) (some k)) (some k)

unfoldable pub first_among : Floor → (ℕ → Bool) → ℕ → Option ℕ
first_among F pick zero = none
first_among F pick (suc m) = first_with F pick m (first_among F pick m)

-- the first of the room so far and of room m, which has that key
abbrev pub first_of : Best → ℕ → ℕ → Best
first_of best m key = record { head = cond (ltb key best.key) m best.head; key = cond (ltb key best.key) key best.key }

-- the first once room m is looked at too
abbrev pub best_with : Floor → (ℕ → Bool) → ℕ → Best → Best
best_with F pick m best = cond (pick m) (first_of best m (key_of (F.number m) (F.initiator m))) best
