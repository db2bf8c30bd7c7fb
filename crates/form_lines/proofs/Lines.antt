-- THE PASS OVER ALL LINES in its parts: what is asked of each line alone, and of the hand-offs and acknowledgements from line to line.
use mathlib.Core.Path.{refl, subst, sym, ap, ◌∙◌, ◌≡◌}
use mathlib.Core.Bool.{Bool, true, false, ◌||◌, not}
use mathlib.Core.List.{List}
use Prim.Native.Nat.{ℕ, zero, suc, ◌<◌}
use native.Mathlib.Omega.{arith}
use lib.Dec.{eqb, ltb}
use borrow.Author.Tests.{eqb-true, eq-eqb}
use Rattle.protocol.specs.Floor.{Carts}
use Rattle.protocol.proofs.Tests.{by_eq, by_test, clash, and_left, and_right, and_intro}
use Rattle.stations.specs.View.{Stations}
use Rattle.messages.specs.View.{Rooms}
use Rattle.lines.specs.Lines.{registers_in}
use Rattle.form_lines.specs.Said.{said_on}
use Rattle.form_lines.specs.Pass.{Noted, noted_so, along, on_line, from_station, from_each}
use Rattle.form_lines.proofs.Walks.{Each, go_all, GoodAll}
use Rattle.form_lines.proofs.Split.{walk_next, walk_gone, walk_found, walk_seen, GoodNext, GoodGone, GoodFound, GoodSeen, Right, Along, along_is, along_ok}

-- IF .. THEN
pub if_at : (a b : Bool) → not a || b ≡ true → a ≡ true → b ≡ true
if_at true b e h = e
if_at false b e h = clash false h refl

pub if_of : (a b : Bool) → (a ≡ true → b ≡ true) → not a || b ≡ true
if_of a b f = by_test a (λ e. rw (e, f e) refl) (λ e. rw e refl)

-- the lines of a pool
module _ (words : List ℕ) where
  -- from station i, the hand-offs
  abbrev pub go_found : ℕ → ℕ → ℕ → ℕ
  go_found i j x = walk_found x (said_on words i j)

  abbrev pub good_found : ℕ → ℕ → ℕ → Type 0
  good_found i j x = GoodFound x (said_on words i j)

  abbrev pub row_found : ℕ → ℕ → ℕ → ℕ
  row_found i x k = go_all ℕ (good_found i) (go_found i) x k

  abbrev pub RowFound : ℕ → ℕ → ℕ → Type 0
  RowFound i x k = GoodAll ℕ (good_found i) (go_found i) x k

  -- and the acknowledgements
  abbrev pub go_seen : ℕ → ℕ → List ℕ → List ℕ
  go_seen i j x = walk_seen x (said_on words i j)

  abbrev pub good_seen : ℕ → ℕ → List ℕ → Type 0
  good_seen i j x = GoodSeen x (said_on words i j)

  abbrev pub row_seen : ℕ → List ℕ → ℕ → List ℕ
  row_seen i x k = go_all (List ℕ) (good_seen i) (go_seen i) x k

  abbrev pub RowSeen : ℕ → List ℕ → ℕ → Type 0
  RowSeen i x k = GoodAll (List ℕ) (good_seen i) (go_seen i) x k

  -- from all stations
  abbrev pub all_found : ℕ → ℕ → ℕ
  all_found x k = go_all ℕ (λ i y. RowFound i y 16) (λ i y. row_found i y 16) x k

  abbrev pub AllFound : ℕ → ℕ → Type 0
  AllFound x k = GoodAll ℕ (λ i y. RowFound i y 16) (λ i y. row_found i y 16) x k

  abbrev pub all_seen : List ℕ → ℕ → List ℕ
  all_seen x k = go_all (List ℕ) (λ i y. RowSeen i y 16) (λ i y. row_seen i y 16) x k

  abbrev pub AllSeen : List ℕ → ℕ → Type 0
  AllSeen x k = GoodAll (List ℕ) (λ i y. RowSeen i y 16) (λ i y. row_seen i y 16) x k

module _ (n k : ℕ) (C : Carts) (R : Rooms) (S : Stations) (words : List ℕ) where
  abbrev carried : ℕ → ℕ → ℕ
  carried = registers_in words

  -- ONE LINE, by itself
  pub record Alone (i j : ℕ) : Type 0 where
    pub rights : Each (Right n k C R carried i j) (said_on words i j)
    pub next : GoodNext (S.expected j i) (said_on words i j)
    pub upto : ltb j n ≡ true → walk_next (S.expected j i) (said_on words i j) ≡ S.sent i
    pub gone : GoodGone 0 (said_on words i j)

  module _ (s : Noted) (i j : ℕ) where
    abbrev A : Type 0
    A = Along n k C R carried i j (S.expected j i) 0 s.found s.seen (said_on words i j)

    abbrev e : Noted
    e = along n k C R carried (noted_so s.ok (S.expected j i) 0 s.found s.seen) i j (said_on words i j)

    abbrev after : Noted
    after = noted_so true (walk_next (S.expected j i) (said_on words i j)) (walk_gone 0 (said_on words i j)) (walk_found s.found (said_on words i j)) (walk_seen s.seen (said_on words i j))

    e_is : s.ok ≡ true → A → e ≡ after
    e_is o a =
        ap (λ (b : Bool). along n k C R carried (noted_so b (S.expected j i) 0 s.found s.seen) i j (said_on words i j)) o
        ∙ along_is n k C R carried i j (S.expected j i) 0 s.found s.seen (said_on words i j) a

    pub line_ok : (on_line n k C R S words s i j).ok ≡ true → (s.ok ≡ true) × (Alone i j × (good_found words i j s.found × good_seen words i j s.seen))
    unfolding on_line
    line_ok h =
        let b = not (ltb j n) || eqb e.next (S.sent i) in
        let z = along_ok n k C R carried i j (noted_so s.ok (S.expected j i) 0 s.found s.seen) (said_on words i j) (and_left e.ok b h) in
        let a = z.1 in
        let same : e.next ≡ walk_next (S.expected j i) (said_on words i j) = ap (λ (t : Noted). t.next) (e_is z.0 a) in (
          z.0,
          (
            record {
              rights = a.rights;
              next = a.next;
              upto = λ l. sym same ∙ eqb-true e.next (S.sent i) (if_at (ltb j n) (eqb e.next (S.sent i)) (and_right e.ok b h) l);
              gone = a.gone;
            },
            (a.found, a.seen),
          ),
        )

    pub line_is : s.ok ≡ true → Alone i j → good_found words i j s.found → good_seen words i j s.seen
        → ((on_line n k C R S words s i j).ok ≡ true) × (((on_line n k C R S words s i j).found ≡ go_found words i j s.found) × ((on_line n k C R S words s i j).seen ≡ go_seen words i j s.seen))
    unfolding on_line
    line_is o a f g =
        let z = e_is o (record { rights = a.rights; next = a.next; gone = a.gone; found = f; seen = g }) in
        let same : e.next ≡ walk_next (S.expected j i) (said_on words i j) = ap (λ (t : Noted). t.next) z in
        let b = not (ltb j n) || eqb e.next (S.sent i) in (
          and_intro e.ok b (ap (λ (t : Noted). t.ok) z) (if_of (ltb j n) (eqb e.next (S.sent i)) (λ l. eq-eqb e.next (S.sent i) (same ∙ a.upto l))),
          (ap (λ (t : Noted). t.found) z, ap (λ (t : Noted). t.seen) z),
        )

  -- THE LINES FROM ONE STATION
  module _ (s : Noted) (i : ℕ) where
    pub record Row (h : ℕ) : Type 0 where
      pub lines : (j : ℕ) → j < h → Alone i j
      pub found : RowFound words i s.found h
      pub seen : RowSeen words i s.seen h

    pub row_is : (h : ℕ) → s.ok ≡ true → Row h
        → ((from_station n k C R S words s i h).ok ≡ true) × (((from_station n k C R S words s i h).found ≡ row_found words i s.found h) × ((from_station n k C R S words s i h).seen ≡ row_seen words i s.seen h))
    unfolding from_station
    row_is zero o r = (o, (refl, refl))
    row_is (suc h) o r =
        let z = row_is h o (record { lines = λ j l. r.lines j (omega arith); found = r.found.0; seen = r.seen.0 }) in
        let t = from_station n k C R S words s i h in
        let y = line_is t i h z.0 (r.lines h (omega arith)) (subst (good_found words i h) (sym z.1.0) r.found.1) (subst (good_seen words i h) (sym z.1.1) r.seen.1) in
        (y.0, (y.1.0 ∙ ap (go_found words i h) z.1.0, y.1.1 ∙ ap (go_seen words i h) z.1.1))

    pub row_ok : (h : ℕ) → (from_station n k C R S words s i h).ok ≡ true → (s.ok ≡ true) × Row h
    unfolding from_station
    row_ok zero e = (e, record { lines = λ j l. absurd (omega arith); found = tt; seen = tt })
    row_ok (suc h) e =
        let t = from_station n k C R S words s i h in
        let y = line_ok t i h e in
        let z = row_ok h y.0 in
        let w = row_is h z.0 z.1 in (
          z.0,
          record {
            lines = λ j l. by_eq j h (λ q. rw q y.1.0) (λ q. z.1.lines j (omega arith));
            found = (z.1.found, subst (good_found words i h) w.1.0 y.1.1.0);
            seen = (z.1.seen, subst (good_seen words i h) w.1.1 y.1.1.1);
          },
        )

  -- ALL LINES
  module _ (s : Noted) where
    pub record Every (h : ℕ) : Type 0 where
      pub lines : (i j : ℕ) → i < h → j < 16 → Alone i j
      pub found : AllFound words s.found h
      pub seen : AllSeen words s.seen h

    pub every_is : (h : ℕ) → s.ok ≡ true → Every h
        → ((from_each n k C R S words s h).ok ≡ true) × (((from_each n k C R S words s h).found ≡ all_found words s.found h) × ((from_each n k C R S words s h).seen ≡ all_seen words s.seen h))
    unfolding from_each
    every_is zero o r = (o, (refl, refl))
    every_is (suc h) o r =
        let z = every_is h o (record { lines = λ i j l. r.lines i j (omega arith); found = r.found.0; seen = r.seen.0 }) in
        let t = from_each n k C R S words s h in
        let y = row_is t h 16 z.0 (record {
          lines = λ j l. r.lines h j (omega arith) l;
          found = subst (λ (x : ℕ). RowFound words h x 16) (sym z.1.0) r.found.1;
          seen = subst (λ (x : List ℕ). RowSeen words h x 16) (sym z.1.1) r.seen.1;
        }) in
        (y.0, (y.1.0 ∙ ap (λ (x : ℕ). row_found words h x 16) z.1.0, y.1.1 ∙ ap (λ (x : List ℕ). row_seen words h x 16) z.1.1))

    pub every_ok : (h : ℕ) → (from_each n k C R S words s h).ok ≡ true → (s.ok ≡ true) × Every h
    unfolding from_each
    every_ok zero e = (e, record { lines = λ i j l m. absurd (omega arith); found = tt; seen = tt })
    every_ok (suc h) e =
        let t = from_each n k C R S words s h in
        let y = row_ok t h 16 e in
        let z = every_ok h y.0 in
        let w = every_is h z.0 z.1 in (
          z.0,
          record {
            lines = λ i j l m. by_eq i h (λ q. rw q (y.1.lines j m)) (λ q. z.1.lines i j (omega arith) m);
            found = (z.1.found, subst (λ (x : ℕ). RowFound words h x 16) w.1.0 y.1.found);
            seen = (z.1.seen, subst (λ (x : List ℕ). RowSeen words h x 16) w.1.1 y.1.seen);
          },
        )
