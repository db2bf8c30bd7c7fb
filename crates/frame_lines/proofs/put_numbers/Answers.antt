-- `frame_lines::put_numbers` meets its contract.
use mathlib.Core.List.{[]}
use native.Mathlib.Omega.{arith}
use Rattle.reports.specs.Effects.{report_in}
use Rattle.frame_lines.proofs.Fields.{numbers_paired}
use Rattle.frame_lines.proofs.put_numbers.Goals as goal

pub returns : goal.returns
returns c = numbers_paired (report_in c.args.r []) (omega arith) c.put_two_fields-b.ensures c.put_two_fields-w.ensures c.put_two_fields.ensures
