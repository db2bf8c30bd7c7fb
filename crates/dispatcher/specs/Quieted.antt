-- WHAT THE DISPATCHER LEAVES: it was handed a floor in lent parts L and a buffer, left L' and buffer', and took so many steps.
use Rattle.std.specs.Prelude.{◌≡◌, true, List, ℕ}
use Rattle.protocol.specs.Floor.{Product, limits_of}
use Rattle.protocol.specs.Form.{passes_form}
use Rattle.protocol.specs.Quiet.{quiet_steps, quiet_floor, quiet_buffer}
use Rattle.view.specs.View.{Lent, floor_in}

pub record Quieted (L L' : Lent) (buffer buffer' : List ℕ) (steps : ℕ) : Type 0 where
  -- the parts are lent for the same product as before
  pub product : L'.product ≡ L.product
  -- "reports how many steps it took, equal to the steps of its written definition"
  pub count : steps ≡ quiet_steps (limits_of L.product) (floor_in L)
  -- the floor is what these steps leave
  pub floor : floor_in L' ≡ quiet_floor (limits_of L.product) (floor_in L)
  -- the buffer, "written as radio steps write it"
  pub octets : buffer' ≡ quiet_buffer (limits_of L.product) (floor_in L) buffer

-- words that are a floor which passes the form rule of some product, as the parts that are lent for it
abbrev pub PassesBySome : (Product → Lent) → Type 0
PassesBySome lent = (P : Product) × (passes_form (limits_of P) (floor_in (lent P)) ≡ true)

-- and it runs by the limits of each product whose form rule they pass
abbrev pub QuietedByEach : (Product → Lent) → (Product → Lent) → List ℕ → List ℕ → ℕ → Type 0
QuietedByEach before after buffer buffer' steps =
    (P : Product) → passes_form (limits_of P) (floor_in (before P)) ≡ true → Quieted (before P) (after P) buffer buffer' steps
