-- CATCH-UP FOR SIXTEEN INITIATORS AT ONCE: a row has an entry for each.
use Rattle.std.specs.Prelude.{◌≡◌, Bool, true, false, cond, ◌&&◌, ◌||◌, List, [], ◌∷◌, ℕ, zero, suc, ◌+◌, ◌-◌, ◌^◌, ◌<◌, ◌≤◌, max, eqb, ltb, leb, get_or}
use Rattle.std.proofs.Math.Option.{Option, none, some}
use Rattle.protocol.specs.CartSets.{has, with}
use Rattle.protocol.specs.Folds.{sum, list_of}
use Rattle.protocol.specs.Floor.{Floor}
use Rattle.stations.specs.View.{Stations}
use Rattle.messages.specs.View.{Rooms}
use Rattle.queue.specs.Rooms.{room_word, room_at}
use Rattle.queue.specs.Places.{place_among}
use Rattle.catchup.specs.Nearest.{nearest_among, stop_by}

-- does the message in room m, which names the cart, stop it at t from x on and before u
abbrev pub stops_before : Rooms → ℕ → ℕ → ℕ → ℕ → Bool
stops_before R t m x u = (ltb (R.number m) u && leb x (R.number m)) && has (R.waiting m) t

-- where the next number of initiator s stops at t if no message stops the cart
abbrev pub level_in : Stations → ℕ → List ℕ → ℕ → ℕ
level_in S t row s = get_or row s 0 + (S.expected t s - get_or row s 0)

-- the words of the nearest messages among the first n rooms, for a cart with that row of next numbers
abbrev pub nearest_row : Floor → ℕ → ℕ → List ℕ → ℕ → List ℕ
nearest_row F t c row n = list_of 16 (λ s. room_word (nearest_among F t c s (get_or row s 0) n))

-- where the next number of initiator s stops, by the words of the nearest messages
abbrev pub stop_in : Floor → ℕ → List ℕ → List ℕ → ℕ → ℕ
stop_in F t row nearest s = (stop_by F t s (get_or row s 0) (room_at (get_or nearest s 0))).upto

-- no next number falls, and none rises by 2^32 or more: sixteen of them can be summed in a word
abbrev pub Rises : List ℕ → List ℕ → Type 0
Rises row upto = (s : ℕ) → s < 16 → (get_or row s 0 ≤ get_or upto s 0) × (get_or upto s 0 - get_or row s 0 ≤ 4294967295)

-- how far the next numbers of the first n initiators rise, from one row to the other
abbrev pub rise : List ℕ → List ℕ → ℕ → ℕ
rise row upto n = sum n (λ s. get_or upto s 0 - get_or row s 0)

-- by the words of the nearest messages
abbrev pub risen : Floor → ℕ → List ℕ → List ℕ → ℕ → ℕ
risen F t row nearest n = sum n (λ s. stop_in F t row nearest s - get_or row s 0)

-- is room m the one that was found
abbrev pub is_found : Option ℕ → ℕ → Bool
is_found none m = false
is_found (some k) m = eqb m k

-- does one of the first n words say room m
unfoldable pub occurs : List ℕ → ℕ → ℕ → Bool
occurs nearest zero m = false
occurs nearest (suc n) m = occurs nearest n m || is_found (room_at (get_or nearest n 0)) m

-- the words where no message is the nearest of any initiator
abbrev pub none_near : List ℕ
none_near = 32 ∷ 32 ∷ 32 ∷ 32 ∷ 32 ∷ 32 ∷ 32 ∷ 32 ∷ 32 ∷ 32 ∷ 32 ∷ 32 ∷ 32 ∷ 32 ∷ 32 ∷ 32 ∷ []

-- the set has the initiators whose word says a room
pub record Marks (nearest : List ℕ) (found : ℕ) : Type 0 where
  pub word : found < 2 ^ 16
  pub marked : (s : ℕ) → s < 16 → has found s ≡ ltb (get_or nearest s 0) 32

-- each room that one of the words says is below n
abbrev pub RoomsBelow : ℕ → List ℕ → Type 0
RoomsBelow n nearest = (m : ℕ) → occurs nearest 16 m ≡ true → m < n

-- cart c is queued at station t for the message in each room that passes
abbrev pub queued_for : Stations → ℕ → ℕ → (ℕ → Bool) → Stations
queued_for S t c which =
    record {
      sent = S.sent;
      expected = S.expected;
      local = S.local;
      copy = S.copy;
      acks = S.acks;
      queue = λ m u. cond (eqb u t && which m) (with (S.queue m u) c) (S.queue m u);
    }

-- the place of the entry for the message that was found, 0 where none was; n rooms have messages
abbrev pub place_found : Stations → Rooms → ℕ → ℕ → Option ℕ → ℕ
place_found S R t n none = 0
place_found S R t n (some m) = place_among S R t m n

-- "the largest place given in that step", where cart c is queued at t for the nearest messages of the first k initiators, one after the other: each place
-- "as it stands right after the putting"
unfoldable pub deepest_to : Stations → Rooms → ℕ → ℕ → ℕ → List ℕ → ℕ → ℕ
deepest_to S R t c n nearest zero = 0
deepest_to S R t c n nearest (suc k) =
    max (deepest_to S R t c n nearest k) (place_found (queued_for S t c (occurs nearest (suc k))) R t n (room_at (get_or nearest k 0)))
