-- `form_tables::copies_of` meets its contract. The invariant: the copies at the stations passed have named carts only, and who is missing is in the set.
use Prim.Native.Nat.{◌≤◌}
use Rattle.form_tables.proofs.Copies.{Missing}
use Rattle.form_tables.specs.Tables.{tables}
use Rattle.form_tables.proofs.copies_of.Given as goal

abbrev pub invariant-loop-t : goal.invariant-loop-t
invariant-loop-t l = (l.t ≤ l.end) × Missing (tables l.stations l.carts l.messages) l.m l.t l.missing
