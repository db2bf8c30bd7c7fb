-- `form_tables::stations_ok` meets its contract. The invariant: the stations passed keep the rule.
use mathlib.Core.List.{[]}
use Prim.Native.Nat.{◌≤◌}
use mathlib.Core.Path.{◌≡◌}
use Rattle.protocol.specs.Floor.{Limits}
use Rattle.protocol.specs.Claims.{True, all}
use Rattle.protocol.specs.Form.{station_rule}
use Rattle.form_tables.specs.Tables.{tables}
use Rattle.form_tables.proofs.stations_ok.Given as goal

abbrev pub invariant-loop-s : goal.invariant-loop-s
invariant-loop-s l = (l.s ≤ l.n) × ((M : Limits) → M.last ≡ l.last → True (all l.s (station_rule M (tables l.stations [] []))))
