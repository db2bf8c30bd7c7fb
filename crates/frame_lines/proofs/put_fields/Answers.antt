-- `frame_lines::put_fields` meets its contract.
use native.Mathlib.Omega.{arith}
use lib.ListN.{take}
use Rattle.reports.specs.Effects.{report_in}
use Rattle.frame_lines.proofs.Fields.{numbers_spelled, with_text_lem, without_text}
use Rattle.frame_lines.proofs.put_fields.Goals as goal

pub returns-then-r-eq4 : goal.returns-then-r-eq4
returns-then-r-eq4 c =
    let r = report_in c.args.r (take c.args.size c.args.room.now) in
    with_text_lem r (omega arith) (numbers_spelled r c.put_head-p.ensures c.put_two_fields-q.ensures) c.if-r-eq4.true c.put_text.ensures

pub returns : goal.returns
returns c =
    let r = report_in c.args.r (take c.args.size c.args.room.now) in
    without_text r (omega arith) (numbers_spelled r c.put_head-p.ensures c.put_two_fields-q.ensures) c.if-r-eq4.false
