-- `form_tables::ends_ok` meets its contract. The invariant: the stations passed keep the rule.
use Prim.Native.Nat.{◌≤◌}
use Rattle.protocol.specs.Claims.{True, all}
use Rattle.form_tables.specs.Tables.{rooms_end}
use Rattle.form_tables.proofs.ends_ok.Given as goal

abbrev pub invariant-loop-t : goal.invariant-loop-t
invariant-loop-t l = (l.t ≤ l.n) × True (all l.t (rooms_end l.held l.stations))
