-- `form_tables::places_ok` meets its contract. The invariant: the places passed stand in their own words.
use Prim.Native.Nat.{◌≤◌}
use Rattle.protocol.specs.Claims.{True, all, is}
use Rattle.carts.specs.View.{canonical_in}
use Rattle.form_tables.proofs.places_ok.Given as goal

abbrev pub invariant-loop-number : goal.invariant-loop-number
invariant-loop-number l = (l.number ≤ l.k) × True (all l.number (λ j. is (canonical_in l.carts j)))
