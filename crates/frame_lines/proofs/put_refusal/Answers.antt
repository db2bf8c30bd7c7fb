-- `frame_lines::put_refusal` meets its contract.
use native.Mathlib.Omega.{arith}
use Rattle.protocol.specs.Events.{refused}
use Rattle.frame_lines.proofs.Octets.{began_all}
use Rattle.frame_lines.proofs.Fields.{line_written}
use Rattle.frame_lines.proofs.put_refusal.Goals as goal

pub returns : goal.returns
returns c =
    line_written c.args.index (refused c.args.number) (began_all 3 (let z = c.put_decimal-rest.ensures.few in omega arith) c.put_decimal-rest.ensures)
    c.end_refused.ensures
