-- One record, and one line, as the functions go: each test in its turn.
use mathlib.Core.Path.{refl, sym, ap, ap₂, ◌∙◌, ◌≡◌}
use mathlib.Core.Bool.{Bool, true, false, ◌&&◌}
use mathlib.Core.List.{List, map}
use Prim.Native.Nat.{ℕ, suc, ◌+◌, ◌-◌, ◌*◌, ◌^◌, ◌≤◌, ◌<◌}
use native.Mathlib.Omega.{arith}
use lib.Dec.{eqb, ltb}
use borrow.Author.Tests.{eq-eqb, ne_eqb, ltb-true}
use Rattle.protocol.specs.CartSets.{has}
use Rattle.protocol.specs.Floor.{Carts}
use Rattle.protocol.proofs.Tests.{and-false, and_left}
use Rattle.lines.specs.declared.Record as word
use Rattle.lines.specs.Words.{head_of, length_of, next_of}
use Rattle.lines.specs.Lines.{record_of, records_from}
use Rattle.lines.proofs.Visit.{line_from, from_none, from_some}
use Rattle.messages.specs.View.{Rooms}
use Rattle.std.specs.Prelude.{Some, None}
use Rattle.view.specs.Kinds.{kind_said}
use Rattle.view.specs.declared.Kind.{Kind}
use Rattle.view.specs.declared.Kind.TheVariants.{Multicast, AckList, Delete, Deregister, Register}
use Rattle.view.proofs.KindsSaid.{said_is, said_none}
use Rattle.view.specs.Records.{kind_of, index_of, number_of, is_in}
use Rattle.form_lines.specs.declared.Way.{Way}
use Rattle.form_lines.specs.Said.{Said, a_multicast, an_ack_list, a_delete, a_deregister, a_register, unknown, said, said_on}
use Rattle.form_lines.specs.Pass.{Noted, noted_so, fresh, note, provided, is_leaving, is_travelling, same_numbers, right, fits, meet, along}
use Rattle.form_lines.specs.Ways.{met_of, outcome, Inside}

-- ONE TEST AFTER THE OTHER
pub off_first : (a f : Bool) (s : Noted) (r : Said) (t : Noted) → a ≡ false → t ≡ provided false s → t ≡ outcome (a && f) s r
off_first a f s r t h e = rw h e

pub off_second : (a f : Bool) (s : Noted) (r : Said) (t : Noted) → f ≡ false → t ≡ provided false s → t ≡ outcome (a && f) s r
off_second a f s r t h e = rw (h, and-false a) e

pub on_both : (a f : Bool) (s : Noted) (r : Said) (t : Noted) → a ≡ true → f ≡ true → t ≡ note s r → t ≡ outcome (a && f) s r
on_both a f s r t h g e = rw (h, g) e

pub fails : (w : Way) (seen : List ℕ) → noted_so false w.next w.gone w.found seen ≡ provided false (met_of w seen)
fails w seen = ap (λ (b : Bool). noted_so b w.next w.gone w.found seen) (sym (and-false w.ok))

-- a multicast with the right number
pub counts_on : (w : Way) (a : Bool) (m n : ℕ) (seen : List ℕ) → a ≡ true → n ≡ w.next
    → noted_so w.ok (n + 1) w.gone w.found seen ≡ outcome (a && fresh (met_of w seen) (a_multicast m n)) (met_of w seen) (a_multicast m n)
unfolding fresh note
counts_on w a m n seen h e =
    let z : n + 1 ≡ suc w.next = omega arith in
    rw (h, eq-eqb n w.next e) (ap (λ (x : ℕ). noted_so w.ok x w.gone w.found seen) z)

-- WHICH RECORD
module _ (r : word.Record) (kind : Kind) (index number : ℕ) (k : Some kind ≡ kind_said (kind_of r.0)) (x : index ≡ index_of r.0) (n : number ≡ number_of r.0) where
  pub says_multicast : kind ≡ Multicast → said r ≡ a_multicast index number
  unfolding said
  says_multicast h = let z : kind_of r.0 ≡ 1 = said_is _ Multicast (sym k ∙ ap Some h) in rw z (ap₂ a_multicast (sym x) (sym n))

  pub says_ack_list : kind ≡ AckList → said r ≡ an_ack_list index number r.1
  unfolding said
  says_ack_list h = let z : kind_of r.0 ≡ 2 = said_is _ AckList (sym k ∙ ap Some h) in rw z (ap₂ (λ (a b : ℕ). an_ack_list a b r.1) (sym x) (sym n))

  pub says_delete : kind ≡ Delete → said r ≡ a_delete index number
  unfolding said
  says_delete h = let z : kind_of r.0 ≡ 3 = said_is _ Delete (sym k ∙ ap Some h) in rw z (ap₂ a_delete (sym x) (sym n))

  pub says_deregister : kind ≡ Deregister → said r ≡ a_deregister index
  unfolding said
  says_deregister h = let z : kind_of r.0 ≡ 4 = said_is _ Deregister (sym k ∙ ap Some h) in rw z (ap a_deregister (sym x))

  pub says_register : kind ≡ Register → said r ≡ a_register index
  unfolding said
  says_register h = let z : kind_of r.0 ≡ 5 = said_is _ Register (sym k ∙ ap Some h) in rw z (ap a_register (sym x))

pub says_nothing : (r : word.Record) → None ≡ kind_said (kind_of r.0) → said r ≡ unknown (index_of r.0)
unfolding said
says_nothing r h =
    let none = said_none (kind_of r.0) (sym h) in
    let off : (t : ℕ) → (kind_of r.0 ≡ t → ⊥) → eqb (kind_of r.0) t ≡ false = λ t q. ne_eqb (kind_of r.0) t q in
    rw (off 1 none.0, off 2 none.1, off 3 none.2, off 4 none.3, off 5 none.4) refl

-- the record that was told
pub told : (b : Bool) (s t : Noted) (q q' : Said) → q' ≡ q → t ≡ outcome (b && fresh s q) s q → t ≡ outcome (b && fresh s q') s q'
told b s t q q' e h = h ∙ sym (ap (λ (x : Said). outcome (b && fresh s x) s x) e)

pub told_nothing : (b : Bool) (s t : Noted) (q : Said) (x : ℕ) → q ≡ unknown x → t ≡ provided false s → t ≡ outcome (b && fresh s q) s q
unfolding fresh
told_nothing b s t q x e h = rw (e, and-false b) h

four : (a b c d : Bool) → ((a && b) && c) && d ≡ a && (b && (c && d))
four true b c d = three b c d
  where
    three : (b c d : Bool) → (b && c) && d ≡ b && (c && d)
    three true c d = refl
    three false c d = refl
four false b c d = refl

module _ (n k : ℕ) (C : Carts) (R : Rooms) (carried : ℕ → ℕ → ℕ) (i j : ℕ) where
  -- the room, or the cart, of a right record is one of the floor's
  pub right_inside : (q : Said) → k ≤ 64 → right n k C R carried i j q ≡ true → Inside q
  unfolding right
  right_inside (a_multicast m x) l e = tt
  right_inside (an_ack_list m x y) l e =
      ltb-true m 32 (and_left (ltb m 32) (is_in R j x m) (and_left (ltb m 32 && is_in R j x m) (ltb 0 y && ltb y (2 ^ k)) e))
  right_inside (a_delete m x) l e =
      ltb-true m 32 (and_left (ltb m 32) (is_in R i x m) (and_left (ltb m 32 && is_in R i x m) (has (R.waiting m) j && eqb (R.acked m) (R.named m)) e))
  right_inside (a_deregister d) l e = let z = ltb-true d k (and_left (ltb d k) (is_leaving (C.place d) j i) e) in omega arith
  right_inside (a_register d) l e = let z = ltb-true d k (and_left (ltb d k) (is_travelling (C.place d) i j && same_numbers (carried d) (C.next d)) e) in omega arith
  right_inside (unknown x) l e = tt

  -- ONE RECORD
  pub meets : (s t : Noted) (q : Said) (f o r b : Bool) → f ≡ (ltb i n && ltb j n) → o ≡ (s.ok && f) → r ≡ right n k C R carried i j q → b ≡ (o && r)
      → t ≡ outcome (b && fresh s q) s q → t ≡ meet n k C R carried s i j q
  unfolding meet fits
  meets s t q f o r b ef eo er eb et =
      let l = ltb i n && ltb j n in
      let w : b ≡ ((s.ok && l) && right n k C R carried i j q) = eb ∙ ap₂ (λ (x y : Bool). x && y) (eo ∙ ap (λ (x : Bool). s.ok && x) ef) er in
      et ∙ ap (λ (x : Bool). outcome x s q) (ap (λ (x : Bool). x && fresh s q) w ∙ four s.ok l (right n k C R carried i j q) (fresh s q))

  -- ONE LINE
  pub walk_start : (words : List ℕ) (left row : ℕ) (s : Noted) → left ≡ length_of words (i * 16 + j) → row ≡ head_of words (i * 16 + j)
      → along n k C R carried s i j (map said (records_from words row left)) ≡ along n k C R carried s i j (said_on words i j)
  unfolding said_on
  walk_start words left row s a b =
      ap (λ (l : List word.Record). along n k C R carried s i j (map said l)) (ap₂ (λ (x y : ℕ). records_from words x y) b a ∙ sym (line_from words (i * 16 + j)))

  pub walk_step : (words : List ℕ) (row left : ℕ) (s t : Noted) (r : word.Record) (next : ℕ) → 0 < left → r ≡ record_of words row → next ≡ next_of words row → t ≡ meet n k C R carried s i j (said r)
      → along n k C R carried t i j (map said (records_from words next (left - 1))) ≡ along n k C R carried s i j (map said (records_from words row left))
  unfolding along
  walk_step words row left s t r next l a b h =
      ap₂ (λ (x : Noted) (y : ℕ). along n k C R carried x i j (map said (records_from words y (left - 1)))) (h ∙ ap (λ (x : word.Record). meet n k C R carried s i j (said x)) a) b
      ∙ sym (ap (λ (l : List word.Record). along n k C R carried s i j (map said l)) (from_some words row left l))

  pub walk_end : (words : List ℕ) (row left : ℕ) (s t : Noted) → left ≡ 0 → along n k C R carried s i j (map said (records_from words row left)) ≡ t → s ≡ t
  unfolding along
  walk_end words row left s t z e =
      sym (ap (λ (x : ℕ). along n k C R carried s i j (map said (records_from words row x))) z ∙ ap (λ (l : List word.Record). along n k C R carried s i j (map said l)) (from_none words row)) ∙ e
