-- `frame_closing::put_refused` meets its contract.
use mathlib.Core.Path.{subst}
use Prim.Native.Nat.{ℕ}
use Rattle.protocol.specs.Events.{refused}
use Rattle.protocol.specs.Printed.{rest_of}
use Rattle.refusals.specs.Numbers.{number_of}
use Rattle.frame_lines.specs.Lines.{Wrote, short_rest}
use Rattle.frame_closing.proofs.Lines.{refused_written}
use Rattle.frame_closing.proofs.put_refused.Goals as goal

pub returns : goal.returns
returns c =
    refused_written c.requires c.put_quiet-word.ensures (number_of c.args.refusal)
    (subst (λ (n : ℕ). Wrote short_rest (rest_of (refused n)) c.put_quiet-word.new.line c.end_refused.new.out c.put_quiet-word.result c.end_refused.result) c.number.ensures c.end_refused.ensures)
