-- WHAT THE DISPATCHER CHOOSES, as an event; and of which floors it is asked.
use Rattle.std.specs.Prelude.{◌≡◌, true, ◌&&◌, List, [], ℕ, Option, None, Some}
use Rattle.std.proofs.Math.Option.{none, some}
use Rattle.std.proofs.Math.Option as written
use Rattle.protocol.specs.Folds.{first}
use Rattle.protocol.specs.CartSets.{has}
use Rattle.protocol.specs.Floor.{Product, Limits, limits_of, Floor}
use Rattle.protocol.specs.Events.{Event, wire, radio}
use Rattle.protocol.specs.Form.{passes_form}
use Rattle.carts.specs.View.{carts_in}
use Rattle.view.specs.Records.{lines_in}
use Rattle.view.specs.View.{lent, floor_in}
use Rattle.ids.specs.declared.CartNumber.{CartNumber}
use Rattle.dispatcher.specs.declared.Step.{Step}
use Rattle.dispatcher.specs.declared.Step.TheVariants.{Wire, Radio}
use Rattle.dispatcher.specs.Busy.{Busy, IsBusy}

-- the event of a step: "The lent radio and dispatcher buffers must now hold 512 octets to take every text"
abbrev pub event_in : Step → Event
event_in (Wire i j) = wire i.0 j.0
event_in (Radio t c) = radio t.0 c.0 512

-- the event that is chosen, if any
abbrev pub next_in : Option Step → written.Option Event
next_in None = none
next_in (Some s) = some (event_in s)

-- the cart that is found, if any
abbrev pub cart_in : Option CartNumber → written.Option ℕ
cart_in None = none
cart_in (Some c) = some c.0

-- the lowest steady cart of a set
unfoldable pub lowest_steady : List ℕ → ℕ → written.Option ℕ
lowest_steady C set = first 64 (λ c. has set c && (carts_in C).steady c)

-- THE FLOORS WITH THESE TABLES of the stations, the carts and the messages: there is one that passes the form rule of some product
pub record OfFloor (S C M : List ℕ) : Type 0 where
  pub product : Product
  pub lines : List ℕ
  pub texts : List ℕ
  pub store : List ℕ
  pub passes : passes_form (limits_of product) (floor_in (lent product S C M lines texts store)) ≡ true

-- and of its lines it is known which are not empty
pub record Watched (S C M : List ℕ) (b : Busy) : Type 0 where
  pub floor : OfFloor S C M
  pub busy : IsBusy (lines_in floor.lines) b

-- it is so of each that passes the form rule of a product, with that product's limits
abbrev pub OfEach : List ℕ → List ℕ → List ℕ → (Limits → Floor → Type 0) → Type 0
OfEach S C M Q =
    (P : Product) (W T O : List ℕ) → passes_form (limits_of P) (floor_in (lent P S C M W T O)) ≡ true → Q (limits_of P) (floor_in (lent P S C M W T O))

-- "with all lines empty"
abbrev pub AllEmpty : Floor → Type 0
AllEmpty F = (i j : ℕ) → F.lines i j ≡ []
