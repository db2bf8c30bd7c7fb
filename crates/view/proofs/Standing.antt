-- A FLOOR IN LENT PARTS THAT PASSES THE FORM RULE: what follows for its words and its numbers, and that there is room on the lines.
use mathlib.Core.Path.{◌≡◌, refl, sym, ap, ◌∙◌}
use mathlib.Core.Bool.{Bool, true, ◌&&◌}
use mathlib.Core.List.{List, [], ◌∷◌}
use Prim.Native.Nat.{ℕ, ◌+◌, ◌-◌, ◌*◌, ◌≤◌, ◌<◌}
use native.Mathlib.Omega.{arith}
use lib.Dec.{eqb}
use borrow.Author.Tests.{eqb-false}
use Rattle.protocol.specs.Folds.{sum}
use Rattle.protocol.specs.Floor.{Limits, limits_of, most_records, Floor, Record, behead, put, between, on_the_lines}
use Rattle.protocol.specs.Events.{Event}
use Rattle.protocol.specs.Claims.{All}
use Rattle.protocol.specs.Ranges.{NumbersBelow}
use Rattle.protocol.specs.Form.{passes_form, bit}
use Rattle.protocol.specs.Step.{step}
use Rattle.protocol.proofs.Tests.{and_intro, by_lt, by_test, eqb_self}
use Rattle.protocol.proofs.Counting.{sum_term}
use Rattle.protocol.proofs.Invariant.{Held}
use Rattle.protocol.proofs.FormFacts.{FormFacts}
use Rattle.protocol.proofs.FormTest.{clauses_of, form_of, sized_of}
use Rattle.protocol.proofs.Sized.{Sized, OnFloor}
use Rattle.protocol.proofs.Theorems.{form_closed, product_numbers, record_bound}
use Rattle.lines.specs.Lines.{used}
use Rattle.lines.specs.Words.{capacity}
use Rattle.lines.specs.Post.{Popped}
use Rattle.view.specs.View.{Lent, floor_in}
use Rattle.view.proofs.Lengths.{Lengths, lengths_of, nothing_beyond}
use Rattle.view.proofs.Laid.{Laid, laid_of}
use Rattle.view.proofs.LinesView.{pop_view}
use Rattle.view.proofs.Room.{used_view, put_counts, fewer_stations}

pub record Standing (L : Lent) : Type 0 where
  pub passes : passes_form (limits_of L.product) (floor_in L) ≡ true
  pub lengths : Lengths L
  pub laid : Laid L
  pub facts : FormFacts (limits_of L.product) (floor_in L)
  pub sized : Sized (limits_of L.product) (floor_in L)

pub standing : (L : Lent) → passes_form (limits_of L.product) (floor_in L) ≡ true → Standing L
standing L h =
    let F = floor_in L in
    let M = limits_of L.product in
    let P = clauses_of M F h in
    let lengths = lengths_of L P.floor.1.0 in
    let laid = laid_of L P.floor.1.1.0 in
    let B = nothing_beyond L lengths laid in
    record { passes = h; lengths = lengths; laid = laid; facts = form_of M F B P; sized = sized_of M F B P }

-- the pool of the right length has rooms for as many records as there may be
pub rooms_in_pool : (L : Lent) → Lengths L → capacity L.lines ≡ most_records (limits_of L.product)
unfolding capacity
rooms_in_pool L h = let z = h.lines in omega arith

-- no more stations and carts than rows and words have places for
pub few_stations : (L : Lent) → Standing L → (floor_in L).stations ≤ 16
few_stations L X = let a = X.sized.counts.stations in let b = L.product.stations_fit in omega arith

pub few_carts : (L : Lent) → Standing L → (floor_in L).carts ≤ 64
few_carts L X = let a = X.sized.counts.carts in let b = L.product.carts_fit in omega arith

-- NUMBERS OF 32 BITS, in every product: so a number can rise by one, sixteen of them can be added, and a record's word and a queue's key hold one
pub numbers_of_32_bits : (L : Lent) → Standing L → NumbersBelow 4294967296 (limits_of L.product) (floor_in L)
numbers_of_32_bits L X = product_numbers L.product (floor_in L) (nothing_beyond L X.lengths X.laid) X.passes

-- that of a held message
pub held_number : (L : Lent) → Standing L → (m : ℕ) → Held (limits_of L.product) (floor_in L).waiting m → (floor_in L).number m < 4294967296
held_number L X m h =
    let w = (floor_in L).waiting m in
    (numbers_of_32_bits L X).number m h.slot (by_lt 0 w (λ l. l) (λ l. absurd (eqb-false w 0 h.some (omega arith))))

-- lines beyond the stations of the floor are empty
empty_of : (P : Record → Type 0) (l : List Record) → All P l → ((r : Record) → P r → ⊥) → l ≡ []
empty_of P [] h never = refl
empty_of P (r ∷ l) h never = absurd (never r h.0)

-- and have none without a head
behead_none : (i j : ℕ) (lines : ℕ → ℕ → List Record) (a b : ℕ) → lines a b ≡ [] → behead i j lines a b ≡ []
behead_none i j lines a b e = by_test (eqb i a && eqb j b) (λ q. rw (q, e)) (λ q. rw (q, e))

module _ (L : Lent) (X : Standing L) where
  abbrev F : Floor
  F = floor_in L

  abbrev N : Limits
  N = limits_of L.product

  pub no_line_from : (i j : ℕ) → F.stations ≤ i → F.lines i j ≡ []
  no_line_from i j l = empty_of (OnFloor F.stations F.carts i j) (F.lines i j) (X.sized.lines i j) (λ r p. let a = p.0 in omega arith)

  pub no_line_to : (i j : ℕ) → F.stations ≤ j → F.lines i j ≡ []
  no_line_to i j l = empty_of (OnFloor F.stations F.carts i j) (F.lines i j) (X.sized.lines i j) (λ r p. let a = p.1.0 in omega arith)

  -- the records in the pool are those on the lines of the floor
  pub used_on_floor : used L.lines ≡ on_the_lines F.stations F.lines
  used_on_floor =
      let few = X.sized.counts.stations in
      let most = L.product.stations_fit in
      let all : F.stations + (16 - F.stations) ≡ 16 = omega arith in
      used_view L.lines
      ∙ ap (λ (n : ℕ). on_the_lines n F.lines) (sym all)
      ∙ fewer_stations F.stations (16 - F.stations) F.lines no_line_from no_line_to

  -- and once the head of one is taken off, those that are left there
  pub used_popped : (W₁ : List ℕ) (i j : ℕ) → i < 16 → j < 16 → Popped L.lines W₁ (i * 16 + j) → used W₁ ≡ on_the_lines F.stations (behead i j F.lines)
  used_popped W₁ i j li lj popped =
      let few = X.sized.counts.stations in
      let most = L.product.stations_fit in
      let all : F.stations + (16 - F.stations) ≡ 16 = omega arith in
      used_view W₁
      ∙ ap (λ (f : ℕ → ℕ → List Record). on_the_lines 16 f) (pop_view L.lines W₁ i j li lj popped)
      ∙ ap (λ (n : ℕ). on_the_lines n (behead i j F.lines)) (sym all)
      ∙ fewer_stations F.stations (16 - F.stations) (behead i j F.lines)
      (λ a b l. behead_none i j F.lines a b (no_line_from a b l)) (λ a b l. behead_none i j F.lines a b (no_line_to a b l))

  -- the floor that an event leaves passes again, so it has no more records than the lines have room for
  pub fits_after : (e : Event) → (step N F e).stations ≡ F.stations → on_the_lines F.stations (step N F e).lines ≤ capacity L.lines
  fits_after e same =
      let B = nothing_beyond L X.lengths X.laid in
      let next = form_closed N F e B X.passes in
      let bound = record_bound N (step N F e) next.0 next.1 in
      let bound' : on_the_lines F.stations (step N F e).lines ≤ most_records N = rw same at bound in
      let b = rooms_in_pool L X.lengths in
      omega arith

  -- as many as an event puts on the lines have room
  pub room_after : (e : Event) (on : ℕ → ℕ → Bool) (r : Record) → (step N F e).stations ≡ F.stations → (step N F e).lines ≡ put on r F.lines
      → used L.lines + sum F.stations (λ i. sum F.stations (λ j. bit (on i j))) ≤ capacity L.lines
  room_after e on r same after =
      let bound : on_the_lines F.stations (put on r F.lines) ≤ capacity L.lines = rw after at (fits_after e same) in
      let counts = put_counts F.stations on r F.lines in
      let a = used_on_floor in
      omega arith

-- one line picked is one
pub one_line_counts : (n a b : ℕ) → a < n → b < n → 1 ≤ sum n (λ i. sum n (λ j. bit (between a b i j)))
one_line_counts n a b la lb =
    let z : bit (between a b a b) ≡ 1 = rw (and_intro (eqb a a) (eqb b b) (eqb_self a) (eqb_self b)) refl in
    let y = sum_term n (λ j. bit (between a b a j)) b lb in
    let x = sum_term n (λ i. sum n (λ j. bit (between a b i j))) a la in
    omega arith
