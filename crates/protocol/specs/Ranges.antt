-- "with nothing out of range": the numbers that are stored for a floor, each in its range.
use Rattle.std.specs.Prelude.{◌≡◌, List, [], ◌∷◌, ℕ, suc, ◌^◌, ◌<◌, ◌≤◌, length}
use Rattle.protocol.specs.Floor.{Limits, Place, outside, at, leaving, travelling, Record, multicast, ack_list, delete, deregister, register, Floor, most_text}
use Rattle.protocol.specs.Groups.{group_count}
use Rattle.protocol.specs.Store.{store_used}
use Rattle.protocol.specs.Claims.{All}

-- a place at, or between, stations below n
abbrev pub PlaceInRange : ℕ → Place → Type 0
PlaceInRange n outside = Unit {0}
PlaceInRange n (at s) = s < n
PlaceInRange n (leaving s u) = (s < n) × (u < n)
PlaceInRange n (travelling s u) = (s < n) × (u < n)

-- a record of a number up to last, or of carts below k
abbrev pub RecordInRange : ℕ → ℕ → Record → Type 0
RecordInRange last k (multicast n) = n ≤ last
RecordInRange last k (ack_list n x) = (n ≤ last) × (x < 2 ^ k)
RecordInRange last k (delete n) = n ≤ last
RecordInRange last k (deregister c) = c < k
RecordInRange last k (register c row) = c < k

-- every number that is stored: sent, expected and next numbers reach one past the last message number; sets are below 2^carts and 2^stations
pub record InRange (M : Limits) (F : Floor) : Type 0 where
  pub stations : F.stations ≤ M.stations
  pub carts : F.carts ≤ M.carts
  pub groups : (g : ℕ) → g < group_count → F.groups g < 2 ^ F.carts
  pub sent : (s : ℕ) → F.sent s ≤ suc M.last
  pub expected : (t s : ℕ) → t < F.stations → F.expected t s ≤ suc M.last
  pub next : (c s : ℕ) → F.next c s ≤ suc M.last
  pub place : (c : ℕ) → PlaceInRange F.stations (F.place c)
  pub initiator : (m : ℕ) → m < M.held → 0 < F.waiting m → F.initiator m < F.stations
  pub number : (m : ℕ) → m < M.held → 0 < F.waiting m → F.number m ≤ M.last
  pub named : (m : ℕ) → m < M.held → F.named m < 2 ^ F.carts
  pub acked : (m : ℕ) → m < M.held → F.acked m < 2 ^ F.carts
  pub waiting : (m : ℕ) → m < M.held → F.waiting m < 2 ^ F.stations
  pub text : (m : ℕ) → m < M.held → length (F.text m) ≤ most_text M
  pub stored : store_used M F.waiting F.text ≤ M.store
  pub copy : (m t : ℕ) → m < M.held → t < M.stations → F.copy m t < 2 ^ F.carts
  pub acks : (m t : ℕ) → m < M.held → t < M.stations → F.acks m t < 2 ^ F.carts
  pub queue : (m t : ℕ) → m < M.held → t < M.stations → F.queue m t < 2 ^ F.carts
  pub records : (i j : ℕ) → All (RecordInRange M.last F.carts) (F.lines i j)

-- A WIDTH: "Facts about numbers are to be stated for a width". Numbers of w bits, of which the greatest stands only for one past the last message
-- number
abbrev pub Wide : ℕ → Limits → Type 0
Wide w M = suc (suc M.last) ≡ 2 ^ w

-- each number of a row is below b
abbrev pub EachBelow : ℕ → List ℕ → Type 0
EachBelow b [] = Unit {0}
EachBelow b (x ∷ l) = (x < b) × EachBelow b l

-- the message number of a record is below b, and so is each next number that it carries
abbrev pub RecordBelow : ℕ → Record → Type 0
RecordBelow b (multicast n) = n < b
RecordBelow b (ack_list n x) = n < b
RecordBelow b (delete n) = n < b
RecordBelow b (deregister c) = Unit {0}
RecordBelow b (register c row) = EachBelow b row

-- the numbers of messages, the next numbers and the expected numbers, in every record that carries them, are below b
pub record NumbersBelow (b : ℕ) (M : Limits) (F : Floor) : Type 0 where
  pub sent : (s : ℕ) → F.sent s < b
  pub expected : (t s : ℕ) → t < F.stations → F.expected t s < b
  pub next : (c s : ℕ) → F.next c s < b
  pub number : (m : ℕ) → m < M.held → 0 < F.waiting m → F.number m < b
  pub records : (i j : ℕ) → i < F.stations → j < F.stations → All (RecordBelow b) (F.lines i j)
