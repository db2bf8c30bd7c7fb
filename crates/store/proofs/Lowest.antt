-- THE LOWEST TEXT at or behind an offset: how it is found, and what is known of it.
use mathlib.Core.Path.{◌≡◌, refl, sym, ap, ◌∙◌}
use mathlib.Core.Bool.{Bool, true, false, cond, ◌&&◌}
use mathlib.Core.Logic.{◌⊎◌, inl, inr, ⊎_elim}
use mathlib.Core.Option as math
use Rattle.std.specs.Prelude.{Option, None, Some}
use Prim.Native.Nat.{ℕ, zero, suc, ◌+◌, ◌≤◌, ◌<◌}
use native.Mathlib.Numerals.{add-one}
use native.Mathlib.Omega.{arith}
use lib.Dec.{ltb, leb}
use borrow.Author.Tests.{lt-ltb, le-ltb, leb-true, le-leb}
use Rattle.protocol.specs.Folds.{first, every, by_option}
use Rattle.protocol.proofs.Tests.{by_test, by_lt, by_eq, and_intro, and_left, and_right, and_second_false, every_at, every_all, first_is, first_nowhere}
use Rattle.messages.specs.View.{Rooms}
use Rattle.store.specs.Texts.{is_stored}
use Rattle.store.specs.Moved.{begin_from, is_lowest, lowest_from}

module _ (h : ℕ) (R : Rooms) (from : ℕ) where
  -- THE SEARCH: of the first i rooms, one has the text that begins first, at `least`; none does, and that is the end of the store
  pub record Best (i least : ℕ) (found_room : Option ℕ) : Type 0 where
    pub most : least ≤ 4096
    pub below : (k : ℕ) → k < i → least ≤ begin_from R from k
    pub found : ((least ≡ 4096) × (found_room ≡ None)) ⊎ ((room : ℕ) × (found_room ≡ Some room) × (room < i) × (begin_from R from room ≡ least) × (least < 4096) × ((k : ℕ) → k < room → least < begin_from R from k))

  pub best_start : Best 0 4096 None
  best_start = record { most = omega arith; below = λ k l. absurd (omega arith); found = inl (refl, refl) }

  module _ (i least : ℕ) (room : Option ℕ) (begin : ℕ) (B : Best i least room) (e : begin ≡ begin_from R from i) where
    below_one : (x : ℕ) → x ≤ least → x ≤ begin → (k : ℕ) → k < i + 1 → x ≤ begin_from R from k
    below_one x p q k l = by_eq k i (λ z. rw z (let y = e in omega arith)) (λ z. let y = B.below k (omega arith) in omega arith)

    -- room i has a text that begins sooner
    pub best_take : begin < least → Best (i + 1) begin (Some i)
    best_take l =
        record {
          most = omega (arith, B.most);
          below = below_one begin (omega arith) (omega arith);
          found = inr (i, refl, omega arith, sym e, omega (arith, B.most), λ k lk. let y = B.below k lk in omega arith);
        }

    -- it has not
    pub best_skip : least ≤ begin → Best (i + 1) least room
    best_skip l =
        record {
          most = B.most;
          below = below_one least (omega arith) l;
          found = ⊎_elim (λ z. inl z) (λ z. inr (z.0, z.1, omega (arith, z.2), z.3, z.4, z.5)) B.found;
        }

  -- the room that is found is the first that is lowest
  module _ (least room : ℕ) (below : (k : ℕ) → k < h → least ≤ begin_from R from k) (lr : room < h) (here : begin_from R from room ≡ least) (within : least < 4096) (behind : (k : ℕ) → k < room → least < begin_from R from k) where
    later : (k : ℕ) → least < begin_from R from k → every h (λ j. leb (begin_from R from k) (begin_from R from j)) ≡ false
    later k g =
        by_test (every h (λ j. leb (begin_from R from k) (begin_from R from j)))
        (λ t. absurd (let y = leb-true (begin_from R from k) (begin_from R from room) (every_at h (λ j. leb (begin_from R from k) (begin_from R from j)) t room lr) in omega arith))
        (λ t. t)

    is_first : first h (is_lowest h R from) ≡ math.some room
    is_first =
        first_is h (is_lowest h R from) room lr
        (and_intro (ltb (begin_from R from room) 4096) (every h (λ j. leb (begin_from R from room) (begin_from R from j))) (lt-ltb (begin_from R from room) 4096 (omega arith))
        (every_all h (λ j. leb (begin_from R from room) (begin_from R from j)) (λ j l. le-leb (begin_from R from room) (begin_from R from j) (let x = below j l in omega arith))))
        (λ k l. and_second_false (ltb (begin_from R from k) 4096) (every h (λ j. leb (begin_from R from k) (begin_from R from j))) (later k (behind k l)))

  -- all rooms are passed
  abbrev as_found : math.Option ℕ → Option ℕ
  as_found o = by_option o None (λ m. Some m)

  pub best_end : (least : ℕ) (found_room : Option ℕ) → Best h least found_room → found_room ≡ lowest_from h R from
  best_end least found_room B =
      ⊎_elim
      (λ z. z.1 ∙ sym (ap as_found
      (first_nowhere h (is_lowest h R from) (λ k l. let y = B.below k l in let x = z.0 in
      ap (λ (b : Bool). b && every h (λ j. leb (begin_from R from k) (begin_from R from j))) (le-ltb (begin_from R from k) 4096 (omega arith))))))
      (λ z. z.1 ∙ sym (ap as_found (is_first least z.0 B.below z.2 z.3 z.4 z.5)))
      B.found

  -- so the room that is found is the best of all
  best_of : (i : ℕ) → (least : ℕ) × (room : Option ℕ) × Best i least room
  best_of zero = (4096, None, best_start)
  best_of (suc i) =
      let b = best_of i in
      by_lt (begin_from R from i) b.0
      (λ l. (begin_from R from i, Some i, rw (← add-one i) (best_take i b.0 b.1 (begin_from R from i) b.2 refl l)))
      (λ l. (b.0, b.1, rw (← add-one i) (best_skip i b.0 b.1 (begin_from R from i) b.2 refl l)))

  found_best : (m : Option ℕ) → m ≡ lowest_from h R from → (least : ℕ) × Best h least m
  found_best m e = let b = best_of h in let z : b.1 ≡ m = best_end b.0 b.1 b.2 ∙ sym e in (b.0, rw (← z) b.2)

  -- WHAT IS KNOWN OF THE ROOM: its text lies in the store at or behind `from`, and none that does begins before it
  pub record LowestAt (m : ℕ) : Type 0 where
    pub room : m < h
    pub stored : is_stored R m ≡ true
    pub there : from ≤ R.offset m
    pub least : (k : ℕ) → k < h → is_stored R k ≡ true → from ≤ R.offset k → R.offset m ≤ R.offset k

  -- a text that lies in the store at or behind `from` begins at its offset
  begins_at : (k : ℕ) → is_stored R k ≡ true → from ≤ R.offset k → begin_from R from k ≡ R.offset k
  begins_at k s l = rw (s, le-leb from (R.offset k) l)

  begins_so : (k : ℕ) → begin_from R from k < 4096 → (is_stored R k ≡ true) × (from ≤ R.offset k)
  begins_so k l =
      by_test (is_stored R k && leb from (R.offset k))
      (λ e. (and_left (is_stored R k) (leb from (R.offset k)) e, leb-true from (R.offset k) (and_right (is_stored R k) (leb from (R.offset k)) e)))
      (λ e. absurd (let z : begin_from R from k ≡ 4096 = ap (λ (b : Bool). cond b (R.offset k) 4096) e in omega arith))

  same_room : (m k : ℕ) → Some m ≡ Some k → m ≡ k
  same_room m k e = grind arith

  no_room : (m : ℕ) → Some m ≡ None → ⊥
  no_room m e = grind arith

  pub lowest_found : (m : ℕ) → Some m ≡ lowest_from h R from → LowestAt m
  lowest_found m e =
      let b = found_best (Some m) e in
      ⊎_elim
      (λ z. absurd (no_room m z.1))
      (λ z. let same = same_room m z.0 z.1 in
      let here : begin_from R from m ≡ b.0 = ap (begin_from R from) same ∙ z.3 in
      let s = begins_so m (omega (arith, here, z.4)) in
      record {
        room = omega (arith, z.2, same);
        stored = s.0;
        there = s.1;
        least = λ k lk sk g. omega (arith, here, b.1.below k lk, begins_at m s.0 s.1, begins_at k sk g);
      })
      b.1.found

  -- none is found: every text in the store begins before `from`
  pub lowest_none : None ≡ lowest_from h R from → (k : ℕ) → k < h → is_stored R k ≡ true → R.offset k < 4096 → R.offset k < from
  lowest_none e k lk s within =
      let b = found_best None e in
      by_lt (R.offset k) from (λ x. x)
      (λ g. ⊎_elim (λ z. absurd (omega (arith, z.0, b.1.below k lk, begins_at k s g))) (λ z. absurd (no_room z.0 (sym z.1))) b.1.found)
