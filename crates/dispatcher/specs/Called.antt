-- WHAT A CALL LEAVES that runs the floor until it is quiet: it was handed a floor in lent parts L and a buffer, left L' and buffer', and answered a.
use Rattle.std.specs.Prelude.{◌≡◌, List, ℕ, Result, Ok, Err}
use Rattle.protocol.specs.Floor.{limits_of}
use Rattle.protocol.specs.Quiet.{QuietAnswer, turned_away, quiet_after, quiet_call}
use Rattle.view.specs.View.{Lent, floor_in}
use Rattle.refusals.specs.declared.Refusal.{Refusal}
use Rattle.refusals.specs.Numbers.{number_of}

-- the written answer that it says
abbrev pub quiet_in : Result ℕ Refusal → QuietAnswer
quiet_in (Err r) = turned_away (number_of r)
quiet_in (Ok steps) = quiet_after steps

pub record QuietMet (L L' : Lent) (buffer buffer' : List ℕ) (a : Result ℕ Refusal) : Type 0 where
  -- the parts are lent for the same product as before
  pub product : L'.product ≡ L.product
  -- answer, floor and buffer are those of the written call
  pub answers : quiet_in a ≡ (quiet_call (limits_of L.product) (floor_in L) buffer).answer
  pub floor : floor_in L' ≡ (quiet_call (limits_of L.product) (floor_in L) buffer).floor
  pub octets : buffer' ≡ (quiet_call (limits_of L.product) (floor_in L) buffer).buffer
  -- "A refusal gives its number alone and changes no floor": no word of it
  pub untouched : (r : Refusal) → a ≡ Err r → L' ≡ L
