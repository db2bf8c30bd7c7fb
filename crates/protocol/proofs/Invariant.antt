-- The history of a run (its accepted sends and receipts), and the invariant between a floor and its history that carries the two-list rule.
use mathlib.Core.Path.{◌≡◌}
use mathlib.Core.Bool.{Bool, cond, false, true}
use mathlib.Core.List.{List, [], ◌∷◌}
use Prim.Native.Nat.{◌<◌, suc, ℕ, ◌≤◌}
use lib.Dec.{eqb}
use lib.ListN.{get_or, length, take}
use Rattle.protocol.specs.CartSets.{has}
use Rattle.protocol.specs.Floor.{Floor, Limits, Place, Record, ack_list, delete, deregister, entered, local_to, multicast, outside, register, set_groups, set_steady}
use Rattle.protocol.specs.Handoff.{row_of}
use Rattle.protocol.specs.Claims.{All, True}
use Rattle.protocol.specs.Form.{counts_up, handoff_of, handoffs, multicast_numbers}
use Rattle.protocol.specs.TwoLists.{Item}

-- an accepted send: its set and its text
pub record Entry : Type 0 where
  pub set : ℕ
  pub text : List ℕ

-- one that names nobody
abbrev pub blank : Entry
blank = record { set = 0; text = [] }

-- accepted sends of each station; what each cart was handed of each station
pub record History : Type 0 where
  pub sends : ℕ → List Entry
  pub received : ℕ → ℕ → List Item

-- the entries that name c, numbered from k
abbrev pub naming : ℕ → ℕ → List Entry → List Item
naming c k [] = []
naming c k (e ∷ h) = cond (has e.set c) (record { number = k; text = e.text } ∷ naming c (suc k) h) (naming c (suc k) h)

-- does entry n name cart c
abbrev pub names : List Entry → ℕ → ℕ → Bool
names h n c = has (get_or h n blank).set c

-- the numbers are e, e + 1, .. n - 1
abbrev pub CountsUp : ℕ → List ℕ → ℕ → Type 0
CountsUp e l n = True (counts_up e l n)

-- what an ack list and a delete on the line from i to j say: the carts of an ack list have the message; a delete is of a message that every
-- named cart has
abbrev pub Sound : (ℕ → List Entry) → (ℕ → ℕ → ℕ) → ℕ → ℕ → Record → Type 0
Sound sends next i j (multicast n) = Unit {0}
Sound sends next i j (ack_list n x) = (c : ℕ) → has x c ≡ true → n < next c j
Sound sends next i j (delete n) = (n < length (sends i)) × ((c : ℕ) → names (sends i) n c ≡ true → n < next c i)
Sound sends next i j (deregister d) = Unit {0}
Sound sends next i j (register d row) = Unit {0}

-- room m is taken
pub record Held (M : Limits) (waiting : ℕ → ℕ) (m : ℕ) : Type 0 where
  pub slot : m < M.held
  pub some : eqb (waiting m) 0 ≡ false

-- message n of s is held
pub record Holds (M : Limits) (waiting initiator number : ℕ → ℕ) (s n : ℕ) : Type 0 where
  pub m : ℕ
  pub held : Held M waiting m
  pub is_initiator : initiator m ≡ s
  pub is_number : number m ≡ n

-- message n of s, with that set and text, is in the history
pub record Kept (sends : ℕ → List Entry) (sent : ℕ → ℕ) (s n set : ℕ) (text : List ℕ) : Type 0 where
  pub low : n < sent s
  pub is_set : (get_or (sends s) n blank).set ≡ set
  pub is_text : (get_or (sends s) n blank).text ≡ text

-- what it means that cart c is queued at t for the message in room m: it is local, and the message is its next and names it
pub record Queued (M : Limits) (waiting initiator number named : ℕ → ℕ) (place : ℕ → Place) (next : ℕ → ℕ → ℕ) (m t c : ℕ) : Type 0 where
  pub held : Held M waiting m
  pub home : local_to (place c) t ≡ true
  pub due : next c (initiator m) ≡ number m
  pub is_named_lem : has (named m) c ≡ true

-- WHAT THE CLAUSES SPEAK OF: all of a floor but the carts' flags, which are set back. The invariant and the sizes are said of it, so whatever
-- changes flags alone keeps them without a word, and what is law of any such change stands in Unspoken
abbrev pub spoken : Floor → Floor
spoken F = set_steady F (λ c. true)

-- what the invariant speaks of: not the groups either, of which the form rule alone has a clause
abbrev pub ungrouped : Floor → Floor
ungrouped F = set_groups (spoken F) (λ g. 0)

-- THE INVARIANT
pub record InvariantOf (M : Limits) (F : Floor) (G : History) : Type 0 where
  -- each station has sent as many messages as the history has of it
  pub sends_counted : (s : ℕ) → length (G.sends s) ≡ F.sent s
  -- no next number is above what was sent
  pub low : (c s : ℕ) → F.next c s ≤ F.sent s
  -- the multicasts on a line run from the expected number up to what was sent
  pub run : (s t : ℕ) → t < F.stations → CountsUp (F.expected t s) (multicast_numbers (F.lines s t)) (F.sent s)
  -- a held message is the history's entry of its number
  pub held : (m : ℕ) → Held M F.waiting m → Kept G.sends F.sent (F.initiator m) (F.number m) (F.named m) (F.text m)
  -- no two rooms hold one message
  pub one_room : (m k : ℕ) → Held M F.waiting m → Held M F.waiting k → F.initiator m ≡ F.initiator k → F.number m ≡ F.number k → m ≡ k
  -- a message that names a cart and that it has not passed is held
  pub owed : (s n c : ℕ) → c < F.carts → names (G.sends s) n c ≡ true → F.next c s ≤ n → Holds M F.waiting F.initiator F.number s n
  -- where a station has handled the delete, every named cart has passed the message
  pub gone : (m t c : ℕ) → Held M F.waiting m → t < F.stations → has (F.waiting m) t ≡ false → has (F.named m) c ≡ true → F.number m < F.next c (F.initiator m)
  -- so has every cart in an ack list
  pub acks : (m t c : ℕ) → Held M F.waiting m → t < F.stations → has (F.acks m t) c ≡ true → F.number m < F.next c (F.initiator m)
  -- and every cart that the initiator knows of
  pub acked : (m c : ℕ) → Held M F.waiting m → has (F.acked m) c ≡ true → F.number m < F.next c (F.initiator m)
  -- where the message has come, the copy has every named cart that has yet to receive it
  pub copies : (m t c : ℕ) → Held M F.waiting m → t < F.stations → F.number m < F.expected t (F.initiator m) → c < F.carts → has (F.named m) c ≡ true → F.next c (F.initiator m) ≤ F.number m → has (F.copy m t) c ≡ true
  -- and only named carts
  pub within : (m t c : ℕ) → Held M F.waiting m → t < F.stations → has (F.copy m t) c ≡ true → has (F.named m) c ≡ true
  -- a queued cart is due for what it is queued for
  pub queues : (m t c : ℕ) → has (F.queue m t) c ≡ true → Queued M F.waiting F.initiator F.number F.named F.place F.next m t c
  -- ack lists and deletes on the lines say the truth
  pub records_sound : (i j : ℕ) → i < F.stations → j < F.stations → All (Sound G.sends F.next i j) (F.lines i j)
  -- the hand-off records on the lines are those of the carts leaving and travelling
  pub handoffs_right : (c i j : ℕ) → handoffs c (F.lines i j) ≡ handoff_of (F.place c) i j (row_of M (F.next c))
  -- a cart outside has next numbers 0
  pub out : (c s : ℕ) → F.place c ≡ outside → F.next c s ≡ 0
  -- a cart that has entered is on the floor
  pub real : (c : ℕ) → entered (F.place c) ≡ true → c < F.carts
  -- a cart has received just the entries below its next number that name it
  pub received_so_far : (s c : ℕ) → G.received s c ≡ naming c 0 (take (F.next c s) (G.sends s))
  -- the floor is started
  pub started : F.started ≡ true
  -- only stations of the floor have sent
  pub senders : (s : ℕ) → 0 < F.sent s → s < F.stations
  -- and they are within the limits
  pub fits : F.stations ≤ M.stations

-- the same, of any floor
abbrev pub Invariant : Limits → Floor → History → Type 0
Invariant M F G = InvariantOf M (ungrouped F) G
