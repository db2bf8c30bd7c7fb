-- WHAT A CALL LEAVES: it was handed a floor in lent parts L and left L', for event e, and answered a.
use Rattle.std.specs.Prelude.{◌≡◌, true, ℕ}
use Rattle.protocol.specs.Floor.{Product, limits_of}
use Rattle.protocol.specs.Events.{Event, Answer, refused}
use Rattle.protocol.specs.Form.{passes_form}
use Rattle.protocol.specs.Step.{step, answer}
use Rattle.products.specs.declared.Bounds.{Bounds}
use Rattle.products.specs.Numbers.{NumbersOf}
use Rattle.view.specs.View.{Lent, lengths_in, floor_in}

pub record Met (L L' : Lent) (e : Event) (a : Answer) : Type 0 where
  -- the parts are lent for the same product as before
  pub product : L'.product ≡ L.product
  -- the answer is the written one
  pub answers : a ≡ answer (limits_of L.product) (floor_in L) e
  -- "Every accepted event leaves stations, carts, queues and wires" as the written step does
  pub floor : floor_in L' ≡ step (limits_of L.product) (floor_in L) e
  -- "A refusal gives its number alone and changes no floor": no word of it
  pub untouched : (r : ℕ) → a ≡ refused r → L' ≡ L

-- A FLOOR THAT EVENTS CAN GO ON WITH: its lent parts have their lengths, and if it is started it passes the form rule. One that is not started
-- takes only a start
pub record Ready (L : Lent) : Type 0 where
  pub lengths : lengths_in L ≡ true
  pub passes : (floor_in L).started ≡ true → passes_form (limits_of L.product) (floor_in L) ≡ true

-- ONE EVENT FOR EVERY PRODUCT: words that are such a floor of some product, as the parts that are lent for it
abbrev pub ReadyBySome : (Product → Lent) → Type 0
ReadyBySome lent = (P : Product) × Ready (lent P)

-- and the event is met by the limits of each product that they are such a floor of
abbrev pub MetByEach : (Product → Lent) → (Product → Lent) → Event → Answer → Type 0
MetByEach before after e a = (P : Product) → Ready (before P) → Met (before P) (after P) e a

-- the same of an event that is handed its product's numbers
abbrev pub ReadyWith : Bounds → (Product → Lent) → Type 0
ReadyWith bounds lent = (P : Product) × NumbersOf P bounds × Ready (lent P)

abbrev pub MetWith : Bounds → (Product → Lent) → (Product → Lent) → Event → Answer → Type 0
MetWith bounds before after e a = (P : Product) → NumbersOf P bounds → Ready (before P) → Met (before P) (after P) e a
