-- WHAT WORDS SAY is the written record, and its room is right.
use mathlib.Core.Path.{refl, ap₂, ◌∙◌, ◌≡◌}
use mathlib.Core.Bool.{Bool, true, false}
use mathlib.Core.List.{List, [], ◌∷◌, map}
use Prim.Native.Nat.{ℕ, ◌<◌, ◌+◌, ◌*◌}
use lib.Dec.{eqb}
use Rattle.protocol.specs.Folds.{list_of}
use Rattle.protocol.specs.Floor.{Record, multicast, ack_list, delete, deregister, register}
use Rattle.protocol.proofs.Tests.{by_test, and_left, and_right, and_intro}
use Rattle.lines.specs.declared.Record as word
use Rattle.lines.specs.Lines.{records_on, registers_in}
use Rattle.messages.specs.View.{Rooms, rooms_in}
use Rattle.view.specs.Records.{kind_of, record_in, is_in, room_right}
use Rattle.view.specs.View.{Lent, every_word, line_right, floor_in}
use Rattle.view.proofs.LinesView.{line_in}
use Rattle.form_lines.specs.Said.{Said, a_multicast, an_ack_list, a_delete, a_deregister, a_register, unknown, said, said_on}
use Rattle.form_lines.proofs.Walks.{Each}

-- the written record, where the register of each cart carries that row
abbrev pub read : (ℕ → ℕ → ℕ) → Said → Record
read carried (a_multicast m n) = multicast n
read carried (an_ack_list m n x) = ack_list n x
read carried (a_delete m n) = delete n
read carried (a_deregister c) = deregister c
read carried (a_register c) = register c (list_of 16 (carried c))
read carried (unknown c) = register c (list_of 16 (carried c))

-- by cases on the kind
by_kind : {P : Type 0} (r : word.Record)
    → (eqb (kind_of r.0) 1 ≡ true → P)
    → (eqb (kind_of r.0) 1 ≡ false → eqb (kind_of r.0) 2 ≡ true → P)
    → (eqb (kind_of r.0) 1 ≡ false → eqb (kind_of r.0) 2 ≡ false → eqb (kind_of r.0) 3 ≡ true → P)
    → (eqb (kind_of r.0) 1 ≡ false → eqb (kind_of r.0) 2 ≡ false → eqb (kind_of r.0) 3 ≡ false → eqb (kind_of r.0) 4 ≡ true → P)
    → (eqb (kind_of r.0) 1 ≡ false → eqb (kind_of r.0) 2 ≡ false → eqb (kind_of r.0) 3 ≡ false → eqb (kind_of r.0) 4 ≡ false → (b : Bool) → eqb (kind_of r.0) 5 ≡ b → P)
    → P
by_kind r f g h o p =
    let k = kind_of r.0 in
    by_test (eqb k 1) f (λ a. by_test (eqb k 2) (g a) (λ b. by_test (eqb k 3) (h a b) (λ c. by_test (eqb k 4) (o a b c) (λ d. p a b c d (eqb k 5) refl))))

pub read_said : (carried : ℕ → ℕ → ℕ) (r : word.Record) → record_in carried r ≡ read carried (said r)
unfolding record_in said
read_said carried r =
    by_kind r (λ a. rw a refl) (λ a b. rw (a, b) refl) (λ a b c. rw (a, b, c) refl) (λ a b c d. rw (a, b, c, d) refl)
    (λ a b c d x e. by_test (eqb (kind_of r.0) 5) (λ f. rw (a, b, c, d, f) refl) (λ f. rw (a, b, c, d, f) refl))

pub map_read : (carried : ℕ → ℕ → ℕ) (l : List word.Record) → map (record_in carried) l ≡ map (read carried) (map said l)
map_read carried [] = refl
map_read carried (r ∷ l) = ap₂ (λ (x : Record) (y : List Record). x ∷ y) (read_said carried r) (map_read carried l)

-- the lines of the floor
pub lines_read : (L : Lent) (i j : ℕ) → i < 16 → j < 16 → (floor_in L).lines i j ≡ map (read (registers_in L.lines)) (said_on L.lines i j)
unfolding said_on
lines_read L i j hi hj = line_in L.lines i j hi hj ∙ map_read (registers_in L.lines) (records_on L.lines (i * 16 + j))

-- the room is right
abbrev pub room_said : Rooms → ℕ → ℕ → Said → Bool
room_said R i j (a_multicast m n) = is_in R i n m
room_said R i j (an_ack_list m n x) = is_in R j n m
room_said R i j (a_delete m n) = is_in R i n m
room_said R i j (a_deregister c) = true
room_said R i j (a_register c) = true
room_said R i j (unknown c) = false

room_said_lem : (R : Rooms) (i j : ℕ) (r : word.Record) → room_right R i j r ≡ room_said R i j (said r)
unfolding room_right said
room_said_lem R i j r =
    by_kind r (λ a. rw a refl) (λ a b. rw (a, b) refl) (λ a b c. rw (a, b, c) refl) (λ a b c d. rw (a, b, c, d) refl)
    (λ a b c d x e. by_test (eqb (kind_of r.0) 5) (λ f. rw (a, b, c, d, f) refl) (λ f. rw (a, b, c, d, f) refl))

rooms_of_lem : (R : Rooms) (i j : ℕ) (l : List word.Record) → every_word (room_right R i j) l ≡ true → Each (λ r. room_said R i j r ≡ true) (map said l)
rooms_of_lem R i j [] e = tt
rooms_of_lem R i j (r ∷ l) e =
    let z : room_right R i j r ≡ true = and_left (room_right R i j r) (every_word (room_right R i j) l) e in
    (rw (room_said_lem R i j r) at z, rooms_of_lem R i j l (and_right (room_right R i j r) (every_word (room_right R i j) l) e))

of_rooms : (R : Rooms) (i j : ℕ) (l : List word.Record) → Each (λ r. room_said R i j r ≡ true) (map said l) → every_word (room_right R i j) l ≡ true
of_rooms R i j [] e = refl
of_rooms R i j (r ∷ l) e = and_intro (room_right R i j r) (every_word (room_right R i j) l) (room_said_lem R i j r ∙ e.0) (of_rooms R i j l e.1)

pub right_rooms : (L : Lent) (i j : ℕ) → line_right L i j ≡ true → Each (λ r. room_said (rooms_in L.messages) i j r ≡ true) (said_on L.lines i j)
unfolding line_right said_on
right_rooms L i j e = rooms_of_lem (rooms_in L.messages) i j (records_on L.lines (i * 16 + j)) e

pub rooms_right_lem : (L : Lent) (i j : ℕ) → Each (λ r. room_said (rooms_in L.messages) i j r ≡ true) (said_on L.lines i j) → line_right L i j ≡ true
unfolding line_right said_on
rooms_right_lem L i j e = of_rooms (rooms_in L.messages) i j (records_on L.lines (i * 16 + j)) e
