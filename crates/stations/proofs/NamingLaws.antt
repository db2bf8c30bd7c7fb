-- THE ROOMS WHOSE WORDS PASS A TEST: looked at from the last one down, and those of them that count.
use mathlib.Core.Path.{◌≡◌, refl, sym, ap, ap₂, ◌∙◌, fun_ext}
use mathlib.Core.Bool.{Bool, true, false, cond, not, ◌&&◌, ◌||◌}
use mathlib.Core.List.{List}
use Prim.Native.Nat.{ℕ, suc, ◌+◌, ◌-◌, ◌*◌, ◌^◌, ◌≤◌, ◌<◌}
use native.Mathlib.Omega.{arith}
use lib.Dec.{eqb, ltb}
use lib.ListN.{get_or}
use lib.Bits.{bit_and, and_le_l, and_zero_r}
use lib.Pow.{pow_mono}
use Rattle.protocol.specs.CartSets.{has, with, set_of}
use Rattle.protocol.proofs.Tests.{by_test, by_lt, by_eq, clash, and-false, every_all}
use Rattle.protocol.proofs.SetLaws.{has_zero, has_with, has_set_of, set_of_lt, no_member, same_members}
use Rattle.sets.proofs.MaskLaws.{set_of_low, has_and, disjoint_has, with_here}
use Rattle.sets.specs.Masks.{disjoint}
use borrow.Author.Tests.{ne_eqb}
use Rattle.rows.proofs.RowLaws.{cell_read, cell_beyond}
use Rattle.rows.proofs.ColumnLaws.{column_read}
use Rattle.rows.specs.Rows.{column}
use Rattle.stations.specs.View.{rooms, copy_at, acks_at, copies_at, counted, station_word, stations_of, meets, some_in, rooms_meeting, naming_in, listing_in}

-- of the first n rooms, those from m on that pass, counted from m
module _ (n : ℕ) (f : ℕ → Bool) where
  abbrev pub passing_from : ℕ → ℕ
  passing_from m = set_of (n - m) (λ j. f (m + j))

  pub passing_none : 0 ≡ passing_from n
  unfolding set_of
  passing_none = let z : n - n ≡ 0 = omega arith in ap (λ (k : ℕ). set_of k (λ j. f (n + j))) (sym z)

  pub passing_all : (m x : ℕ) → m ≡ 0 → x ≡ passing_from m → x ≡ set_of n f
  passing_all m x z e = e ∙ ap passing_from z ∙ ap₂ set_of all (fun_ext (λ j. ap f (from j)))
    where
      all : n - 0 ≡ n
      all = omega arith

      from : (j : ℕ) → 0 + j ≡ j
      from j = omega arith

  -- a word has room for one more digit
  pub passing_small : (m x : ℕ) → n ≤ rooms → x ≡ passing_from m → x < 2 ^ 32
  passing_small m x few e =
      let z = set_of_lt (n - m) (λ j. f (m + j)) in
      let k : n - m ≤ rooms = omega arith in
      let y = pow_mono k in
      omega arith

  -- one room more, before them
  pub passing_more : (m x d : ℕ) → 0 < m → m ≤ n → x ≡ passing_from m → d ≡ cond (f (m - 1)) 1 0 → x * 2 + d ≡ passing_from (m - 1)
  passing_more m x d pos low ex ed =
      ap₂ (λ (y e : ℕ). y * 2 + e) (ex ∙ ap (set_of (n - m)) (fun_ext (λ j. ap f (after j)))) (ed ∙ ap (λ (k : ℕ). cond (f k) 1 0) here)
      ∙ sym (set_of_low (n - m) (λ j. f (m - 1 + j)))
      ∙ ap (λ (k : ℕ). set_of k (λ j. f (m - 1 + j))) one_more
    where
      after : (j : ℕ) → m + j ≡ m - 1 + suc j
      after j = omega arith

      here : m - 1 ≡ m - 1 + 0
      here = omega arith

      one_more : suc (n - m) ≡ n - (m - 1)
      one_more = omega arith

-- A WORD THAT HAS ONE OF THE CARTS: an empty one has none
pub meets_nothing : (carts : ℕ) → meets carts 0 ≡ false
unfolding disjoint
meets_nothing carts = ap not (every_all 64 (λ d. not (has 0 d && has carts d)) (λ d l. rw (has_zero d) refl))

-- one of a cart alone: that cart
pub meets_one : (c word : ℕ) → c < 64 → meets (with 0 c) word ≡ has word c
unfolding disjoint
meets_one c word l =
    by_test (has word c)
    (λ h. by_test (disjoint 64 word (with 0 c)) (λ e. clash (has (with 0 c) c) (with_here 0 c) (disjoint_has 64 word (with 0 c) e c l h)) (λ e. rw (e, h) refl))
    (λ h. rw h (ap not (every_all 64 (λ d. not (has word d && has (with 0 c) d)) (λ d k. by_eq c d
    (λ e. rw (← e, h) refl)
    (λ e. rw (has_with 0 c d ∙ ap (λ (b : Bool). b || eqb c d) (has_zero d) ∙ ne_eqb c d e, and-false (has word d)) refl)))))

-- one of all carts: any
pub meets_any : (word : ℕ) → word < 2 ^ 64 → meets (set_of 64 (λ c. true)) word ≡ some_in word
meets_any word small =
    by_eq word 0
    (λ z. rw z (meets_nothing (set_of 64 (λ c. true))))
    (λ n. rw (ne_eqb word 0 n) (by_test (disjoint 64 word (set_of 64 (λ c. true)))
    (λ e. absurd (n (same_members 64 word 0 small (omega arith) (λ c l. none e c l ∙ sym (has_zero c)))))
    (λ e. ap not e)))
  where
    none : disjoint 64 word (set_of 64 (λ c. true)) ≡ true → (c : ℕ) → c < 64 → has word c ≡ false
    none e c l =
        by_test (has word c)
        (λ h. clash (has (set_of 64 (λ d. true)) c) (has_set_of 64 (λ d. true) c l) (disjoint_has 64 word (set_of 64 (λ d. true)) e c l h))
        (λ h. h)

-- the rooms whose words count and pass, where no empty word passes
module _ (l : List ℕ) (t : ℕ) (pos : ℕ → ℕ) (p : ℕ → Bool) (empty : p 0 ≡ false) where
  abbrev pub word_passes : ℕ → Bool
  word_passes m = p (station_word l t (pos m))

  abbrev pub count_passes : ℕ → Bool
  count_passes m = p (counted (station_word l t copies_at) m (column rooms pos (station_word l) t m))

  counts : (b : Bool) (word : ℕ) → (p word && b) ≡ p (cond b word 0)
  counts true word = by_test (p word) (λ e. rw e) (λ e. rw e)
  counts false word = and-false (p word) ∙ sym empty

  -- those of the first n, where no other room counts
  counting : (n x y : ℕ) → n ≤ rooms → x ≡ set_of n word_passes → y ≡ station_word l t copies_at
      → ((k : ℕ) → n ≤ k → k < rooms → has y k ≡ false) → bit_and x y ≡ set_of rooms count_passes
  counting n x y few ex ey none =
      same_members rooms (bit_and x y) (set_of rooms count_passes)
      (let z = set_of_lt n word_passes in let b = pow_mono few in let a = and_le_l x y in omega arith)
      (set_of_lt rooms count_passes)
      (λ k h. has_and x y k
      ∙ by_lt k n
      (λ b. ap (λ (z : Bool). z && has y k) (ap (λ (s : ℕ). has s k) ex ∙ has_set_of n word_passes k b))
      (λ b. ap (λ (z : Bool). has x k && z) (none k b h) ∙ and-false (has x k) ∙ sym (and-false (word_passes k)) ∙ ap (λ (z : Bool). word_passes k && z) (sym (none k b h)))
      ∙ ap (λ (s : ℕ). word_passes k && has s k) ey
      ∙ counts (has (station_word l t copies_at) k) (station_word l t (pos k))
      ∙ ap (λ (s : ℕ). p (cond (has (station_word l t copies_at) k) s 0)) (column_read rooms pos (station_word l) t k h)
      ∙ sym (has_set_of rooms count_passes k h))

  -- where none counts, where only rooms of the first half do, and where any may
  pub counting_none : (y : ℕ) → y ≡ station_word l t copies_at → y ≡ 0 → 0 ≡ set_of rooms count_passes
  counting_none y e z =
      let x = set_of rooms word_passes in
      sym (and_zero_r x) ∙ counting rooms x 0 (omega arith) refl (sym z ∙ e) (λ k a b. has_zero k)

  pub counting_half : (x y : ℕ) → x ≡ set_of 16 word_passes → y ≡ station_word l t copies_at → y < 2 ^ 16 → bit_and x y ≡ set_of rooms count_passes
  counting_half x y ex ey low = counting 16 x y (omega arith) ex ey (λ k a b. no_member 16 y k low a)

  pub counting_all : (x y : ℕ) → x ≡ set_of rooms word_passes → y ≡ station_word l t copies_at → bit_and x y ≡ set_of rooms count_passes
  counting_all x y ex ey = counting rooms x y (omega arith) ex ey (λ k a b. absurd (omega arith))

-- THE ROOMS WHOSE COPIES NAME A CART, and those with an ack list
pub naming_is : (l : List ℕ) (t c : ℕ) → c < 64 → rooms_meeting l t 18 (with 0 c) ≡ naming_in (stations_of (station_word l)) t c
naming_is l t c h = ap (set_of rooms) (fun_ext (λ m. meets_one c (counted (station_word l t copies_at) m (column rooms copy_at (station_word l) t m)) h))

pub listing_is : (l : List ℕ) (t : ℕ) → ((i : ℕ) → get_or l i 0 < 2 ^ 64) → rooms_meeting l t 19 (set_of 64 (λ c. true)) ≡ listing_in (stations_of (station_word l)) t
unfolding column
listing_is l t fits = ap (set_of rooms) (fun_ext (λ m. meets_any (counted (station_word l t copies_at) m (column rooms acks_at (station_word l) t m)) (small m)))
  where
    word_small : (k : ℕ) → station_word l t k < 2 ^ 64
    word_small k =
        by_lt k 116
        (λ h. let z = fits ((1 + t) * 116 + k) in let e = cell_read 116 l (1 + t) k ((1 + t) * 116 + k) h refl in omega arith)
        (λ h. let e = cell_beyond 116 l (1 + t) k h in omega arith)

    column_small : (m : ℕ) → column rooms acks_at (station_word l) t m < 2 ^ 64
    column_small m = by_test (ltb m rooms) (λ e. rw e (word_small (acks_at m))) (λ e. rw e (omega arith))

    small : (m : ℕ) → counted (station_word l t copies_at) m (column rooms acks_at (station_word l) t m) < 2 ^ 64
    small m = by_test (has (station_word l t copies_at) m) (λ e. rw e (column_small m)) (λ e. rw e (omega arith))
