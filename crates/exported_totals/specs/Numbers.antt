-- The numbers of an answer.
use Rattle.std.specs.Prelude.{Option, None, Some, Ok, Err}
use Rattle.totals.specs.declared.Fraction.{Fraction}
use Rattle.totals.specs.Totals.{Totalled, number_of}
use Rattle.exported_totals.specs.declared.Summed.{Summed}
use Rattle.exported_totals.specs.declared.Terms.{Terms}

-- the number of a refusal, or 0 and the totals
abbrev pub summed_of : Totalled → Summed
summed_of (Err e) = record { refusal = number_of e; received = 0; passed = 0 }
summed_of (Ok t) = record { refusal = 0; received = t.received; passed = t.passed }

-- passed over received; no fraction has received 0, so that stands for none
abbrev pub terms_of : Option Fraction → Terms
terms_of None = record { passed = 0; received = 0 }
terms_of (Some f) = record { passed = f.passed; received = f.received }
