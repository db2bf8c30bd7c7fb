-- WHAT A STEP COUNTS, by what it does; and what an accepted event reports.
use Rattle.std.specs.Prelude.{List, ℕ}
use Rattle.protocol.specs.Events as events
use Rattle.reports.specs.declared.Effect.{Effect}
use Rattle.reports.specs.declared.Report.{Report}

-- it passes over no number, puts no record on a line and queues no cart
abbrev pub nothing : Effect
nothing = record { passed = 0; records = 0; place = 0 }

-- it only puts so many records on lines
abbrev pub putting : ℕ → Effect
putting w = record { passed = 0; records = w; place = 0 }

-- it only passes over so many numbers, and queues carts, the deepest at that place
abbrev pub queueing : ℕ → ℕ → Effect
queueing p q = record { passed = p; records = 0; place = q }

-- "kind, a, b, p, w", and "a field q after w"; "Radio adds the text", which is empty for the others
abbrev pub report_in : Report → List ℕ → events.Report
report_in r text = record { kind = r.kind; a = r.a; b = r.b; p = r.effect.passed; w = r.effect.records; q = r.effect.place; text = text }

-- the answer that reports it
abbrev pub accepted_in : Report → List ℕ → events.Answer
accepted_in r text = events.accepted (report_in r text)
