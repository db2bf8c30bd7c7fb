-- `frame_lines::put_two_fields` meets its contract.
use native.Mathlib.Omega.{arith}
use Rattle.frame_lines.proofs.Octets.{wrote_then}
use Rattle.frame_lines.proofs.Fields.{fields_short}
use Rattle.frame_lines.proofs.put_two_fields.Goals as goal

pub returns-then-y-lt10 : goal.returns-then-y-lt10
returns-then-y-lt10 c =
    let a = c.args in
    fields_short a.x a.y a.out.now _ a.at c.requires (omega arith) (omega arith) c.put_word.ensures

pub returns : goal.returns
returns c = wrote_then (omega arith) c.put_field-next.ensures c.put_field.ensures
