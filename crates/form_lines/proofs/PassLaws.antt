-- All lines, and what stands before and after them, as the functions go: one turn of each loop.
use mathlib.Core.Path.{refl, sym, ap, ap₂, ◌∙◌, ◌≡◌}
use mathlib.Core.Bool.{Bool, true, false, cond, ◌&&◌, ◌||◌, not}
use mathlib.Core.List.{List}
use Prim.Native.Nat.{ℕ, ◌+◌, ◌≤◌}
use native.Mathlib.Numerals.{add-one}
use lib.Dec.{eqb, leb, ltb}
use borrow.Author.Tests.{ne_eqb, leb-true, le-leb, le-ltb, ltb-false, not-true}
use Rattle.protocol.specs.Folds.{every, list_of}
use Rattle.protocol.specs.CartSets.{has, union, with, set_of}
use Rattle.protocol.specs.Floor.{Carts}
use Rattle.protocol.specs.Claims.{test, all, when, is, lt}
use Rattle.protocol.proofs.Tests.{same_test}
use Rattle.protocol.proofs.SetLaws.{set_of_suc}
use Rattle.stations.specs.View.{Stations, stations_in, head_in}
use Rattle.carts.specs.View.{carts_in}
use Rattle.messages.specs.View.{Rooms, rooms_in}
use Rattle.lines.specs.Lines.{registers_in}
use Rattle.view.specs.View.{Lent}
use Rattle.form_lines.specs.declared.Way.{Way}
use Rattle.form_lines.specs.Said.{said_on}
use Rattle.form_lines.specs.Pass.{Noted, noted_so, provided, along, on_line, from_station, from_each, gathered, apart, is_taken, begun, passed, ended, movers, passes, lines_pass}
use Rattle.form_lines.specs.Ways.{met_of}

not_not : (b : Bool) → not (not b) ≡ b
not_not true = refl
not_not false = refl

-- beyond the floor
far : (n j : ℕ) → leb n j ≡ not (ltb j n)
far n j =
    same_test (leb n j) (not (ltb j n))
    (λ e. ap not (le-ltb j n (leb-true n j e)))
    (λ e. le-leb n j (ltb-false j n (not-true (ltb j n) e)))

-- TESTS OF ALL BELOW
pub every_next : (f : ℕ → Bool) (m : ℕ) (a b r : Bool) → a ≡ every m f → b ≡ f m → r ≡ (a && b) → r ≡ every (m + 1) f
unfolding every
every_next f m a b r p q h = rw (add-one m) (h ∙ ap₂ (λ (x y : Bool). x && y) p q)

pub set_next : (f : ℕ → Bool) (m x r : ℕ) (b : Bool) → x ≡ set_of m f → b ≡ f m → r ≡ cond b (with x m) x → r ≡ set_of (m + 1) f
set_next f m x r b p q h = rw (add-one m) (h ∙ ap₂ (λ (y : ℕ) (z : Bool). cond z (with y m) y) p q ∙ sym (set_of_suc m f))

-- of a room that is taken
pub taken_test : (R : Rooms) (m w : ℕ) (a A d : Bool) → w ≡ R.waiting m → a ≡ A → d ≡ (eqb w 0 || a) → d ≡ (not (is_taken R m) || A)
taken_test R m w a A d p q h = h ∙ ap₂ (λ (x y : Bool). x || y) (ap (λ (x : ℕ). eqb x 0) p ∙ sym (not_not (eqb (R.waiting m) 0))) q

-- BEFORE THE LINES
pub gathered_next : (S : Stations) (R : Rooms) (m t x y r : ℕ) → x ≡ gathered S R m t → y ≡ S.acks m t → r ≡ union x y → r ≡ gathered S R m (t + 1)
unfolding gathered
gathered_next S R m t x y r p q h = rw (add-one t) (h ∙ ap₂ (λ (u v : ℕ). union u v) p q)

-- THE LINES
module _ (n k : ℕ) (C : Carts) (R : Rooms) (S : Stations) (words : List ℕ) where
  pub lined : (s : Noted) (i j x sent : ℕ) (met : Way) (masks : List ℕ) (d b : Bool) → x ≡ S.expected j i → sent ≡ S.sent i
      → met_of met masks ≡ along n k C R (registers_in words) (noted_so s.ok x 0 s.found s.seen) i j (said_on words i j)
      → d ≡ (leb n j || eqb met.next sent) → b ≡ (met.ok && d)
      → noted_so b met.next met.gone met.found masks ≡ on_line n k C R S words s i j
  unfolding on_line
  lined s i j x sent met masks d b p q h ed eb =
      let z = h ∙ ap (λ (y : ℕ). along n k C R (registers_in words) (noted_so s.ok y 0 s.found s.seen) i j (said_on words i j)) p in
      let w : b ≡ (met.ok && (not (ltb j n) || eqb met.next (S.sent i))) =
      eb ∙ ap (λ (y : Bool). met.ok && y) (ed ∙ ap₂ (λ (u : Bool) (v : ℕ). u || eqb met.next v) (far n j) q) in
      ap (λ (y : Bool). noted_so y met.next met.gone met.found masks) w
      ∙ ap (λ (t : Noted). provided (not (ltb j n) || eqb t.next (S.sent i)) t) z

  pub row_next : (o s t : Noted) (i j : ℕ) → s ≡ from_station n k C R S words o i j → t ≡ on_line n k C R S words s i j → t ≡ from_station n k C R S words o i (j + 1)
  unfolding from_station
  row_next o s t i j p h = rw (add-one j) (h ∙ ap (λ (x : Noted). on_line n k C R S words x i j) p)

  pub row_none : (o : Noted) (i : ℕ) → o ≡ from_station n k C R S words o i 0
  unfolding from_station
  row_none o i = refl

  pub each_next : (o s t : Noted) (i : ℕ) → s ≡ from_each n k C R S words o i → t ≡ from_station n k C R S words s i 16 → t ≡ from_each n k C R S words o (i + 1)
  unfolding from_each
  each_next o s t i p h = rw (add-one i) (h ∙ ap (λ (x : Noted). from_station n k C R S words x i 16) p)

  pub each_none : (o : Noted) → o ≡ from_each n k C R S words o 0
  unfolding from_each
  each_none o = refl

  -- THE PASS
  pub passing : (ok ends a b : Bool) (set : ℕ) (met : Way) (before after : List ℕ)
      → ok ≡ every 32 (λ m. not (is_taken R m) || apart S R m n) → before ≡ list_of 32 (λ m. gathered S R m n)
      → met_of met after ≡ from_each n k C R S words (noted_so ok 0 0 0 before) 16
      → ends ≡ every 32 (ended k C R after) → set ≡ movers k C → a ≡ (eqb met.found set && ends) → b ≡ (met.ok && a) → b ≡ passes n k S C R words
  unfolding passes begun
  passing ok ends a b set met before after eo em h ee es ea eb =
      let z = h ∙ ap₂ (λ (x : Bool) (y : List ℕ). from_each n k C R S words (noted_so x 0 0 0 y) 16) eo em in
      eb ∙ ap (λ (x : Bool). met.ok && x) (ea ∙ ap₂ (λ (x : ℕ) (y : Bool). eqb met.found x && y) es ee)
      ∙ ap (λ (t : Noted). t.ok && (eqb t.found (movers k C) && every 32 (ended k C R t.seen))) z

-- OF THE LENT PARTS
module _ (L : Lent) (n : ℕ) (en : n ≡ (head_in L.stations).stations) where
  module _ (k : ℕ) (ek : k ≡ (head_in L.stations).carts) where
    pub lent_passes : (r : Bool) → n ≤ 16 → k ≤ 64 → r ≡ passes n k (stations_in L.stations) (carts_in L.carts) (rooms_in L.messages) L.lines → r ≡ lines_pass L
    unfolding lines_pass
    lent_passes r a b h = rw (← en, ← ek, le-leb n 16 a, le-leb k 64 b) h

-- AFTER THE LINES, with an end at the first failure: room m is free
pub ended_free : (R : Rooms) (m w : ℕ) (X : Bool) → w ≡ R.waiting m → w ≡ 0 → true ≡ (not (is_taken R m) || X)
ended_free R m w X p z = rw (← p, z) refl

-- it is not, and a cart acknowledged that is not named
pub ended_stranger : (R : Rooms) (m w : ℕ) (b B A : Bool) → w ≡ R.waiting m → (w ≡ 0 → ⊥) → b ≡ B → b ≡ false → false ≡ (not (is_taken R m) || (B && A))
ended_stranger R m w b B A p z e q = rw (← p, ne_eqb w 0 z, ← e, q) refl

-- it is not, and all are named: it rests on their next numbers
pub ended_named : (R : Rooms) (m w : ℕ) (b B r A : Bool) → w ≡ R.waiting m → (w ≡ 0 → ⊥) → b ≡ B → b ≡ true → r ≡ A → r ≡ (not (is_taken R m) || (B && A))
ended_named R m w b B r A p z e q h = rw (← p, ne_eqb w 0 z, ← e, q) h

-- the walk over those carts
pub past_passed : (k : ℕ) (C : Carts) (R : Rooms) (m x s n : ℕ) (r : Bool) → s ≡ R.initiator m → n ≡ R.number m
    → r ≡ test (all k (λ c. when (is (has x c)) (lt n (C.next c s)))) → r ≡ passed k C R m x
unfolding passed test
past_passed k C R m x s n r p q h = rw (← p, ← q) h
