-- THE WHOLE PASS in its parts.
use mathlib.Core.Path.{subst, sym, ◌∙◌, ◌≡◌}
use mathlib.Core.Bool.{true, ◌&&◌, ◌||◌, not}
use mathlib.Core.List.{List}
use Prim.Native.Nat.{ℕ, ◌<◌}
use lib.Dec.{eqb}
use borrow.Author.Tests.{eqb-true, eq-eqb}
use Rattle.protocol.specs.Folds.{every, list_of}
use Rattle.protocol.specs.Floor.{Carts}
use Rattle.protocol.proofs.Tests.{and_left, and_right, and_intro, every_at, every_all}
use Rattle.sets.specs.Masks.{within}
use Rattle.stations.specs.View.{Stations}
use Rattle.messages.specs.View.{Rooms}
use Rattle.form_lines.specs.Pass.{Noted, seen_in, from_each, gathered, apart, is_taken, begun, passed, ended, movers, passes}
use Rattle.form_lines.proofs.Lines.{if_at, if_of, all_found, AllFound, all_seen, AllSeen, Alone, every_is, every_ok}

module _ (n k : ℕ) (S : Stations) (C : Carts) (R : Rooms) (words : List ℕ) where
  -- the acknowledgements before the lines
  abbrev pub start : List ℕ
  start = list_of 32 (λ m. gathered S R m n)

  -- and after them
  abbrev pub seen_last : ℕ → ℕ
  seen_last m = seen_in (all_seen words start 16) m

  pub record Middle : Type 0 where
    pub begins : (m : ℕ) → m < 32 → is_taken R m ≡ true → apart S R m n ≡ true
    pub alone : (i j : ℕ) → i < 16 → j < 16 → Alone n k C R S words i j
    pub found : AllFound words 0 16
    pub seen : AllSeen words start 16
    pub handed : all_found words 0 16 ≡ movers k C
    pub named : (m : ℕ) → m < 32 → is_taken R m ≡ true → within 64 (seen_last m) (R.named m) ≡ true
    pub above : (m : ℕ) → m < 32 → is_taken R m ≡ true → passed k C R m (seen_last m) ≡ true

  abbrev e : Noted
  e = from_each n k C R S words (begun n S R) 16

  pub middle_of : passes n k S C R words ≡ true → Middle
  unfolding passes begun ended
  middle_of h =
      let a = e.ok in
      let b = eqb e.found (movers k C) in
      let d = every 32 (ended k C R e.seen) in
      let q = and_right a (b && d) h in
      let z = every_ok n k C R S words (begun n S R) 16 (and_left a (b && d) h) in
      let w = every_is n k C R S words (begun n S R) 16 z.0 z.1 in
      let ends : (m : ℕ) → m < 32 → is_taken R m ≡ true → within 64 (seen_last m) (R.named m) && passed k C R m (seen_last m) ≡ true = λ m l t.
      if_at (is_taken R m) (within 64 (seen_last m) (R.named m) && passed k C R m (seen_last m))
      (subst (λ (x : List ℕ). ended k C R x m ≡ true) w.1.1 (every_at 32 (ended k C R e.seen) (and_right b d q) m l)) t in
      record {
        begins = λ m l t. if_at (is_taken R m) (apart S R m n) (every_at 32 (λ m. not (is_taken R m) || apart S R m n) z.0 m l) t;
        alone = z.1.lines;
        found = z.1.found;
        seen = z.1.seen;
        handed = sym w.1.0 ∙ eqb-true e.found (movers k C) (and_left b d q);
        named = λ m l t. and_left (within 64 (seen_last m) (R.named m)) (passed k C R m (seen_last m)) (ends m l t);
        above = λ m l t. and_right (within 64 (seen_last m) (R.named m)) (passed k C R m (seen_last m)) (ends m l t);
      }

  pub of_middle : Middle → passes n k S C R words ≡ true
  unfolding passes begun ended
  of_middle M =
      let ok : (begun n S R).ok ≡ true = every_all 32 (λ m. not (is_taken R m) || apart S R m n) (λ m l. if_of (is_taken R m) (apart S R m n) (M.begins m l)) in
      let w = every_is n k C R S words (begun n S R) 16 ok (record { lines = M.alone; found = M.found; seen = M.seen }) in
      and_intro e.ok (eqb e.found (movers k C) && every 32 (ended k C R e.seen)) w.0
      (and_intro (eqb e.found (movers k C)) (every 32 (ended k C R e.seen)) (eq-eqb e.found (movers k C) (w.1.0 ∙ M.handed))
      (every_all 32 (ended k C R e.seen) (λ m l. subst (λ (x : List ℕ). ended k C R x m ≡ true) (sym w.1.1)
      (if_of (is_taken R m) (within 64 (seen_last m) (R.named m) && passed k C R m (seen_last m))
      (λ t. and_intro (within 64 (seen_last m) (R.named m)) (passed k C R m (seen_last m)) (M.named m l t) (M.above m l t))))))
