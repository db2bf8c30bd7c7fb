-- The place of an entry, room by room.
use mathlib.Core.Path.{◌≡◌, refl, sym, ap, ◌∙◌}
use mathlib.Core.Bool.{Bool, true, false, cond, not, ◌&&◌, ◌||◌}
use mathlib.Core.List.{List}
use Prim.Native.Nat.{ℕ, zero, suc, ◌+◌, ◌*◌, ◌^◌, ◌≤◌, ◌<◌}
use native.Mathlib.Omega.{arith}
use lib.Dec.{eqb, ltb}
use lib.ListN.{length}
use borrow.Author.Tests.{lt-ltb, le-ltb, eq-eqb, ne_eqb}
use Rattle.std.specs.Int.{from_bool}
use Rattle.protocol.specs.Folds.{count}
use Rattle.protocol.specs.CartSets.{has, without}
use Rattle.protocol.proofs.Tests.{by_eq, and_left, and_second_false, eqb_self}
use Rattle.protocol.proofs.SetLaws.{has_without, without_lt}
use Rattle.sets.proofs.MaskLaws.{without_other}
use Rattle.sets.proofs.Walk.{nothing_between}
use Rattle.stations.specs.View.{Stations, stations_in, entries_in}
use Rattle.stations.proofs.TableLaws.{entries_word, entries_inside, not_in_entries}
use Rattle.messages.specs.View.{Rooms, rooms_in}
use Rattle.queue.specs.Rooms.{room_count}
use Rattle.queue.specs.Places.{is_before, is_ahead, place_among}

-- BEFORE, by the four numbers as the code read them
module _ (R : Rooms) (k m x i y j : ℕ) (ex : x ≡ R.number k) (ei : i ≡ R.initiator k) (ey : y ≡ R.number m) (ej : j ≡ R.initiator m) where
  pub same_number : x ≡ y → ltb j i ≡ is_before R k m
  same_number e =
      rw (sym ex, sym ei, sym ey, sym ej, eq-eqb x y e, le-ltb x y (omega arith)) refl

  pub other_number : (x ≡ y → ⊥) → ltb x y ≡ is_before R k m
  other_number n = rw (sym ex, sym ei, sym ey, sym ej, ne_eqb x y n) (sym (or_none (ltb x y)))
    where
      or_none : (b : Bool) → (b || false) ≡ b
      or_none true = refl
      or_none false = refl

-- AHEAD, as far as the code looked
module _ (S : Stations) (M : List ℕ) (t m k : ℕ) where
  abbrev pub asked : Bool
  asked = ltb k (room_count M) && is_ahead S (rooms_in M) t m k

  pub no_room : length M < k * 7 + 7 → false ≡ asked
  no_room l = rw (le-ltb k (room_count M) (omega arith)) refl

  module _ (here : k * 7 + 7 ≤ length M) where
    in_table : ltb k (room_count M) ≡ true
    in_table = lt-ltb k (room_count M) (omega arith)

    pub no_entry_there : (q : ℕ) → q ≡ S.queue k t → q ≡ 0 → false ≡ asked
    no_entry_there q e z = rw (in_table, sym e, eq-eqb q 0 z) refl

    pub entry_there : (q : ℕ) → q ≡ S.queue k t → (q ≡ 0 → ⊥) → (b : Bool) → b ≡ is_before (rooms_in M) k m → b ≡ asked
    entry_there q e n b f = rw (in_table, sym e, ne_eqb q 0 n) f

  -- a room without an entry is not ahead
  pub not_ahead : S.queue k t ≡ 0 → asked ≡ false
  not_ahead e = rw (eq-eqb (S.queue k t) 0 e) (and_second_false (ltb k (room_count M)) false refl)

-- no message stands before itself
not_itself : (S : Stations) (M : List ℕ) (t m : ℕ) → asked S M t m m ≡ false
not_itself S M t m =
    let x = (rooms_in M).number m in
    let i = (rooms_in M).initiator m in
    rw (le-ltb x x (omega arith), eqb_self x, le-ltb i i (omega arith), and_second_false (not (eqb (S.queue m t) 0)) false refl) (and_second_false (ltb m (room_count M)) false refl)

-- THE OTHER ENTRIES at a station, without that of room m
pub others_word : (S : List ℕ) (t m : ℕ) → without (entries_in S t) m < 2 ^ 64
others_word S t m = without_lt 64 (entries_in S t) m (entries_word S t)

pub others_inside : (S : List ℕ) (t m k : ℕ) → has (without (entries_in S t) m) k ≡ true → k < 32
others_inside S t m k e = entries_inside S t k (and_left (has (entries_in S t) k) (not (eqb m k)) (sym (has_without (entries_in S t) m k) ∙ e))

-- whoever is not among them is not ahead
pub others_ahead : (S M : List ℕ) (t m k : ℕ) → has (without (entries_in S t) m) k ≡ false → asked (stations_in S) M t m k ≡ false
others_ahead S M t m k e =
    by_eq m k
    (λ q. rw (← q) (not_itself (stations_in S) M t m))
    (λ q. not_ahead (stations_in S) M t m k (not_in_entries S k t (sym (without_other (entries_in S t) m k q) ∙ e)))

-- COUNTED, one by one: a yes is 1
pub at_most_one : (b : Bool) → from_bool b ≤ 1
at_most_one true = omega arith
at_most_one false = omega arith

module _ (f : ℕ → Bool) where
  -- rooms that are not ahead
  pub count_skips : (a b : ℕ) → a ≤ b → ((k : ℕ) → a ≤ k → k < b → f k ≡ false) → count b f ≡ count a f
  unfolding count
  count_skips a b h out = nothing_between (λ n. count n f) a b h (λ k l g. rw (out k l g) (omega arith))

  -- one more room is looked at
  pub count_on : (a k x y : ℕ) (b : Bool) → y ≡ from_bool b → count k f ≡ count a f → x ≡ count a f → b ≡ f k → x + y ≡ count (k + 1) f
  unfolding count
  count_on a k x _ b one_if same e g =
      let one : k + 1 ≡ suc k = omega arith in
      rw (one, count) (ap (λ (y : ℕ). x + y) (one_if ∙ byte b ∙ ap (λ (y : Bool). cond y 1 0) g) ∙ ap (λ (y : ℕ). y + cond (f k) 1 0) (e ∙ sym same))
    where
      byte : (b : Bool) → from_bool b ≡ cond b 1 0
      byte true = refl
      byte false = refl

-- beyond the rooms that the table has nothing is counted
count_within : (n a : ℕ) (p : ℕ → Bool) → n ≤ a → count a (λ k. ltb k n && p k) ≡ count n p
unfolding count
count_within n a p h = beyond ∙ within n (omega arith)
  where
    beyond : count a (λ k. ltb k n && p k) ≡ count n (λ k. ltb k n && p k)
    beyond = count_skips (λ k. ltb k n && p k) n a h (λ k l g. rw (le-ltb k n l) refl)

    within : (b : ℕ) → b ≤ n → count b (λ k. ltb k n && p k) ≡ count b p
    within zero l = refl
    within (suc b) l = let z = within b (omega arith) in rw (lt-ltb b n (omega arith), z) refl

pub counted_all : (S : Stations) (R : Rooms) (t m n : ℕ) → n ≤ 32 → (x : ℕ) → x ≡ count 32 (λ k. ltb k n && is_ahead S R t m k) → x + 1 ≡ place_among S R t m n
unfolding place_among
counted_all S R t m n h x e = let z = count_within n 32 (is_ahead S R t m) h in omega arith
