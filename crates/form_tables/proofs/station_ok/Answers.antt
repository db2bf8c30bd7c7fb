-- `form_tables::station_ok` meets its contract.
use mathlib.Core.List.{[]}
use mathlib.Core.Path.{◌∙◌}
use native.Mathlib.Omega.{arith}
use borrow.Author.Tests.{eq-eqb, lt-ltb, le-ltb, lt-leb}
use Rattle.protocol.specs.Form.{station_rule}
use Rattle.protocol.proofs.Tests.{by_lt}
use Rattle.protocol.proofs.Answers.{yes, no}
use Rattle.form_tables.specs.Tables.{tables}
use Rattle.form_tables.proofs.station_ok.Goals as goal

pub returns-then-sent-eq0 : goal.returns-then-sent-eq0
returns-then-sent-eq0 c =
    λ M e. eq-eqb _ 0 c.if-sent-eq0.true ∙ yes (station_rule M (tables c.args.stations.now [] []) c.args.s.0) (omega arith, λ l. omega arith)

pub returns-else-sent-eq0 : goal.returns-else-sent-eq0
returns-else-sent-eq0 c =
    λ M e. let rule = station_rule M (tables c.args.stations.now [] []) c.args.s.0 in
    by_lt c.args.s.0 c.station_count.result
    (λ l. lt-ltb _ _ l ∙ yes rule (omega arith, λ z. omega arith))
    (λ l. le-ltb _ _ l ∙ no rule (λ h. omega (arith, h.1 (omega arith))))

pub returns-else-sent-from : goal.returns-else-sent-from
returns-else-sent-from c =
    λ M e. lt-leb _ _ c.if-sent-from.false ∙ no (station_rule M (tables c.args.stations.now [] []) c.args.s.0) (λ h. omega (arith, h.0))
