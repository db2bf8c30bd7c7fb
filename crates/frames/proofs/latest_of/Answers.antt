-- `frames::latest_of` meets its contract.
use native.Mathlib.Omega.{arith}
use Rattle.frames.proofs.Values.{unknown_read}
use Rattle.frames.proofs.latest_of.Goals as goal

pub returns : goal.returns
returns c =
    let latest = c.requires in
    let eight = c.if-kind-eq8.false in
    let nine = c.if-kind-eq9.false in
    let ten = c.if-kind-eq10.false in
    λ l. unknown_read c.args.f c.args.behind l (omega arith)
