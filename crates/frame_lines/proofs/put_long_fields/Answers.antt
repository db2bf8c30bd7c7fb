-- `frame_lines::put_long_fields` meets its contract.
use native.Mathlib.Omega.{arith}
use Rattle.reports.specs.Effects.{report_in}
use Rattle.frame_lines.proofs.Fields.{with_text_lem, without_text}
use Rattle.frame_lines.proofs.put_long_fields.Goals as goal

pub returns-then-r-ne4 : goal.returns-then-r-ne4
returns-then-r-ne4 c = without_text (report_in c.args.r c.args.text.now) (omega arith) c.put_numbers-q.ensures c.if-r-ne4.true

pub returns : goal.returns
returns c = with_text_lem (report_in c.args.r c.args.text.now) (omega arith) c.put_numbers-q.ensures c.if-r-ne4.false c.put_long_text.ensures
