-- `event_wire::check_wire` meets its contract.
use native.Mathlib.Omega.{arith}
use mathlib.Core.Path.{sym, ◌∙◌}
use Rattle.event_wire.proofs.WireChecks.{wire_no_from, wire_no_to, wire_empty, wire_passes}
use Rattle.event_wire.proofs.check_wire.Goals as goal

pub returns-then-n-from : goal.returns-then-n-from
returns-then-n-from c = let a = c.args in λ P C M T O. wire_no_from a.stations.now a.lines.now a.from.0 a.to.0 P C M T O (omega (arith, c.station_count-n.ensures, c.if-n-from.true))

pub returns-then-n-to : goal.returns-then-n-to
returns-then-n-to c = let a = c.args in λ P C M T O. wire_no_to a.stations.now a.lines.now a.from.0 a.to.0 P C M T O (omega (arith, c.station_count-n.ensures, c.if-n-from.false)) (omega (arith, c.station_count-n.ensures, c.if-n-to.true))

pub returns-then-is_empty : goal.returns-then-is_empty
returns-then-is_empty c = let a = c.args in λ P C M T O. wire_empty a.stations.now a.lines.now a.from.0 a.to.0 P C M T O (omega (arith, c.station_count-n.ensures, c.if-n-from.false)) (omega (arith, c.station_count-n.ensures, c.if-n-to.false)) c.requires.1 (sym c.if-is_empty.true ∙ c.is_empty.ensures)

pub returns : goal.returns
returns c = let a = c.args in λ P C M T O. wire_passes a.stations.now a.lines.now a.from.0 a.to.0 P C M T O (omega (arith, c.station_count-n.ensures, c.if-n-from.false)) (omega (arith, c.station_count-n.ensures, c.if-n-to.false)) c.requires.1 (sym c.if-is_empty.false ∙ c.is_empty.ensures)
