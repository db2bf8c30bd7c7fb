-- THE PASS IN ITS PARTS: what is met on a line is four things, and none of them looks at another.
use mathlib.Core.Path.{refl, subst, ap, ◌∙◌, ◌≡◌}
use mathlib.Core.Bool.{Bool, true, false, ◌&&◌, not}
use mathlib.Core.List.{List, [], ◌∷◌}
use Prim.Native.Nat.{ℕ, suc}
use lib.Dec.{eqb, ltb}
use lib.ListN.{set}
use Rattle.protocol.specs.CartSets.{has, union, with}
use Rattle.protocol.specs.Floor.{Carts}
use Rattle.protocol.proofs.Tests.{by_test, clash, and_left, and_right, and_intro}
use Rattle.sets.specs.Masks.{disjoint}
use Rattle.messages.specs.View.{Rooms}
use Rattle.form_lines.specs.Said.{Said, a_multicast, an_ack_list, a_delete, a_deregister, a_register, unknown}
use Rattle.form_lines.specs.Pass.{Noted, noted_so, seen_in, fresh, note, right, fits, meet, along}
use Rattle.form_lines.proofs.Walks.{Each, walk, Good}

-- the number of the next multicast
abbrev pub fresh_next : ℕ → Said → Bool
fresh_next e (a_multicast m n) = eqb n e
fresh_next e (an_ack_list m n x) = true
fresh_next e (a_delete m n) = ltb n e
fresh_next e (a_deregister c) = true
fresh_next e (a_register c) = true
fresh_next e (unknown x) = true

abbrev pub note_next : ℕ → Said → ℕ
note_next e (a_multicast m n) = suc e
note_next e (an_ack_list m n x) = e
note_next e (a_delete m n) = e
note_next e (a_deregister c) = e
note_next e (a_register c) = e
note_next e (unknown x) = e

-- the rooms whose delete was met
abbrev pub fresh_gone : ℕ → Said → Bool
fresh_gone g (a_multicast m n) = true
fresh_gone g (an_ack_list m n x) = true
fresh_gone g (a_delete m n) = not (has g m)
fresh_gone g (a_deregister c) = true
fresh_gone g (a_register c) = true
fresh_gone g (unknown x) = true

abbrev pub note_gone : ℕ → Said → ℕ
note_gone g (a_multicast m n) = g
note_gone g (an_ack_list m n x) = g
note_gone g (a_delete m n) = with g m
note_gone g (a_deregister c) = g
note_gone g (a_register c) = g
note_gone g (unknown x) = g

-- the carts whose hand-off was met
abbrev pub fresh_found : ℕ → Said → Bool
fresh_found f (a_multicast m n) = true
fresh_found f (an_ack_list m n x) = true
fresh_found f (a_delete m n) = true
fresh_found f (a_deregister c) = not (has f c)
fresh_found f (a_register c) = not (has f c)
fresh_found f (unknown x) = true

abbrev pub note_found : ℕ → Said → ℕ
note_found f (a_multicast m n) = f
note_found f (an_ack_list m n x) = f
note_found f (a_delete m n) = f
note_found f (a_deregister c) = with f c
note_found f (a_register c) = with f c
note_found f (unknown x) = f

-- the acknowledgements met
abbrev pub fresh_seen : List ℕ → Said → Bool
fresh_seen s (a_multicast m n) = true
fresh_seen s (an_ack_list m n x) = disjoint 64 x (seen_in s m)
fresh_seen s (a_delete m n) = true
fresh_seen s (a_deregister c) = true
fresh_seen s (a_register c) = true
fresh_seen s (unknown x) = true

abbrev pub note_seen : List ℕ → Said → List ℕ
note_seen s (a_multicast m n) = s
note_seen s (an_ack_list m n x) = set s m (union (seen_in s m) x)
note_seen s (a_delete m n) = s
note_seen s (a_deregister c) = s
note_seen s (a_register c) = s
note_seen s (unknown x) = s

-- each on its own along a line
abbrev pub walk_next : ℕ → List Said → ℕ
walk_next = walk ℕ fresh_next note_next

abbrev pub walk_gone : ℕ → List Said → ℕ
walk_gone = walk ℕ fresh_gone note_gone

abbrev pub walk_found : ℕ → List Said → ℕ
walk_found = walk ℕ fresh_found note_found

abbrev pub walk_seen : List ℕ → List Said → List ℕ
walk_seen = walk (List ℕ) fresh_seen note_seen

abbrev pub GoodNext : ℕ → List Said → Type 0
GoodNext = Good ℕ fresh_next note_next

abbrev pub GoodGone : ℕ → List Said → Type 0
GoodGone = Good ℕ fresh_gone note_gone

abbrev pub GoodFound : ℕ → List Said → Type 0
GoodFound = Good ℕ fresh_found note_found

abbrev pub GoodSeen : List ℕ → List Said → Type 0
GoodSeen = Good (List ℕ) fresh_seen note_seen

-- ONE RECORD

-- the four tests of a record
pub record Fresh (s : Noted) (r : Said) : Type 0 where
  pub next : fresh_next s.next r ≡ true
  pub gone : fresh_gone s.gone r ≡ true
  pub found : fresh_found s.found r ≡ true
  pub seen : fresh_seen s.seen r ≡ true

fresh_parts : (s : Noted) (r : Said) → fresh s r ≡ true → Fresh s r
unfolding fresh
fresh_parts s (a_multicast m n) h = record { next = h; gone = refl; found = refl; seen = refl }
fresh_parts s (an_ack_list m n x) h = record { next = refl; gone = refl; found = refl; seen = h }
fresh_parts s (a_delete m n) h =
    record { next = and_left (ltb n s.next) (not (has s.gone m)) h; gone = and_right (ltb n s.next) (not (has s.gone m)) h; found = refl; seen = refl }
fresh_parts s (a_deregister c) h = record { next = refl; gone = refl; found = h; seen = refl }
fresh_parts s (a_register c) h = record { next = refl; gone = refl; found = h; seen = refl }
fresh_parts s (unknown x) h = clash false h refl

note_parts : (s : Noted) (r : Said) → note s r ≡ noted_so s.ok (note_next s.next r) (note_gone s.gone r) (note_found s.found r) (note_seen s.seen r)
unfolding note
note_parts s (a_multicast m n) = refl
note_parts s (an_ack_list m n x) = refl
note_parts s (a_delete m n) = refl
note_parts s (a_deregister c) = refl
note_parts s (a_register c) = refl
note_parts s (unknown x) = refl

module _ (n k : ℕ) (C : Carts) (R : Rooms) (carried : ℕ → ℕ → ℕ) where
  -- the record stands on a line of the floor, and fits the tables
  abbrev pub Right : ℕ → ℕ → Said → Type 0
  Right i j r = (ltb i n && ltb j n ≡ true) × (right n k C R carried i j r ≡ true)

  parts_fresh : (s : Noted) (i j : ℕ) (r : Said) → right n k C R carried i j r ≡ true → Fresh s r → fresh s r ≡ true
  unfolding fresh right
  parts_fresh s i j (a_multicast m x) e h = h.next
  parts_fresh s i j (an_ack_list m x y) e h = h.seen
  parts_fresh s i j (a_delete m x) e h = and_intro (ltb x s.next) (not (has s.gone m)) h.next h.gone
  parts_fresh s i j (a_deregister c) e h = h.found
  parts_fresh s i j (a_register c) e h = h.found
  parts_fresh s i j (unknown x) e h = clash false e refl

  -- ONE LINE
  pub record Along (i j e g f : ℕ) (a : List ℕ) (l : List Said) : Type 0 where
    pub rights : Each (Right i j) l
    pub next : GoodNext e l
    pub gone : GoodGone g l
    pub found : GoodFound f l
    pub seen : GoodSeen a l

  -- a record that fits
  met_right : (i j e g f : ℕ) (a : List ℕ) (r : Said) → Right i j r → Fresh (noted_so true e g f a) r
      → meet n k C R carried (noted_so true e g f a) i j r ≡ noted_so true (note_next e r) (note_gone g r) (note_found f r) (note_seen a r)
  unfolding meet fits
  met_right i j e g f a r p q =
      let s = noted_so true e g f a in
      rw (p.0, p.1, parts_fresh s i j r p.1 q) (note_parts s r)

  -- one that does not
  met_parts : (i j : ℕ) (s : Noted) (r : Said) → (meet n k C R carried s i j r).ok ≡ true → (s.ok ≡ true) × (Right i j r × Fresh s r)
  unfolding meet fits
  met_parts i j s r h =
      let a = ltb i n && ltb j n in
      let b = right n k C R carried i j r in
      let d = fresh s r in
      by_test (s.ok && (a && (b && d)))
      (λ e. let q = and_right s.ok (a && (b && d)) e in
      let o = and_right a (b && d) q in
      (and_left s.ok (a && (b && d)) e, ((and_left a (b && d) q, and_left b d o), fresh_parts s r (and_right b d o))))
      (λ e. clash (s.ok && false) (rw e at h) (no s.ok))
    where
      no : (b : Bool) → b && false ≡ false
      no true = refl
      no false = refl

  -- where all fits, each part goes its way
  pub along_is : (i j e g f : ℕ) (a : List ℕ) (l : List Said) → Along i j e g f a l
      → along n k C R carried (noted_so true e g f a) i j l ≡ noted_so true (walk_next e l) (walk_gone g l) (walk_found f l) (walk_seen a l)
  unfolding along
  along_is i j e g f a [] h = refl
  along_is i j e g f a (r ∷ l) h =
      ap (λ (s : Noted). along n k C R carried s i j l) (met_right i j e g f a r h.rights.0 (record { next = h.next.0; gone = h.gone.0; found = h.found.0; seen = h.seen.0 }))
      ∙ along_is i j (note_next e r) (note_gone g r) (note_found f r) (note_seen a r) l
      (record { rights = h.rights.1; next = h.next.1; gone = h.gone.1; found = h.found.1; seen = h.seen.1 })

  -- and where the line passed, all fits
  pub along_ok : (i j : ℕ) (s : Noted) (l : List Said) → (along n k C R carried s i j l).ok ≡ true → (s.ok ≡ true) × Along i j s.next s.gone s.found s.seen l
  unfolding along
  along_ok i j s [] h = (h, record { rights = tt; next = tt; gone = tt; found = tt; seen = tt })
  along_ok i j s (r ∷ l) h =
      let z = along_ok i j (meet n k C R carried s i j r) l h in
      let y = met_parts i j s r z.0 in
      let q = y.1.1 in
      let w : meet n k C R carried s i j r ≡ noted_so true (note_next s.next r) (note_gone s.gone r) (note_found s.found r) (note_seen s.seen r) =
      ap (λ (b : Bool). meet n k C R carried (noted_so b s.next s.gone s.found s.seen) i j r) y.0
      ∙ met_right i j s.next s.gone s.found s.seen r y.1.0 (record { next = q.next; gone = q.gone; found = q.found; seen = q.seen }) in
      let A : Noted → Type 0 = λ t. Along i j t.next t.gone t.found t.seen l in
      let v : A (noted_so true (note_next s.next r) (note_gone s.gone r) (note_found s.found r) (note_seen s.seen r)) = subst A w z.1 in (
        y.0,
        record { rights = (y.1.0, v.rights); next = (q.next, v.next); gone = (q.gone, v.gone); found = (q.found, v.found); seen = (q.seen, v.seen) },
      )
