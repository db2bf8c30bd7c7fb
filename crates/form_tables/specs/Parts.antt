-- WHAT THE PARTS OF THE TEST ANSWER, where that is no clause of the rule.
use Rattle.std.specs.Prelude.{◌≡◌, cond, not, true, false, ◌⊎◌, Option, None, Some, ℕ, ◌≤◌, ◌<◌, eqb, ltb}
use Rattle.protocol.specs.CartSets.{has, union, minus, set_of}
use Rattle.protocol.specs.Floor.{Floor, Place, local_to, is_held, is_message}
use Rattle.protocol.specs.Claims.{Claim, is, both, when, all}
use Rattle.ids.specs.declared.Station.{Station}
use Rattle.stations.specs.View.{Stations}
use Rattle.form_tables.specs.Tables.{number_given, delete_right}

-- "It is local to a station when at it or leaving it": a cart in that place is local to s and to no other, or to none
abbrev pub Home : Place → Option Station → Type 0
Home p None = (t : ℕ) → local_to p t ≡ false
Home p (Some s) = (t : ℕ) → local_to p t ≡ eqb s.0 t

-- r is n, or 16 where that is less
pub record Few (n r : ℕ) : Type 0 where
  pub floor : r ≤ n
  pub table : r ≤ 16
  pub end : n ≤ r ⊎ 16 ≤ r

-- a word that is at most this is a set of the first n; every word is, where n is more than a word has digits
abbrev pub most_of : ℕ → ℕ
most_of n = set_of (cond (ltb n 64) n 64) (λ c. true)

-- EACH HELD MESSAGE, in room m: no room before it has its name
abbrev pub names_before : Floor → ℕ → Claim
names_before F m = all m (λ k. is (not (is_message F (F.initiator m) (F.number m) k)))

-- what is asked of it with the rooms before it
abbrev pub held_before : Floor → ℕ → Claim
held_before F m = when (is (is_held F m)) (both (number_given F m) (both (names_before F m) (delete_right F m)))

-- EACH ROOM m AT THE STATIONS: x has the members of f u for each u below t, and no other
pub record Collects (f : ℕ → ℕ) (t x : ℕ) : Type 0 where
  pub had : (u c : ℕ) → u < t → has (f u) c ≡ true → has x c ≡ true
  pub of : (c : ℕ) → has x c ≡ true → (u : ℕ) × (u < t) × (has (f u) c ≡ true)

-- at the stations below t: the carts in a copy, in an ack list or in the queue; the queued ones; and those queued where they are not local
pub record Entries (S : Stations) (m t sets queued strays : ℕ) : Type 0 where
  pub all : Collects (λ u. union (S.copy m u) (union (S.acks m u) (S.queue m u))) t sets
  pub queue : Collects (S.queue m) t queued
  pub away : Collects (λ u. minus (S.queue m u) (S.local u)) t strays

-- the named carts that the copy does not have, where the message has come
abbrev pub missing_at : Floor → ℕ → ℕ → ℕ
missing_at F m t = cond (ltb (F.number m) (F.expected t (F.initiator m))) (minus (F.named m) (F.copy m t)) 0
