-- `frames::frame_at` meets its contract.
use mathlib.Core.Path.{◌∙◌}
use native.Mathlib.Omega.{arith}
use lib.ListN.{drop}
use Rattle.std.proofs.lemmas.Result.{err_from_is_err_and}
use Rattle.frames.specs.Decoded.{fields_in}
use Rattle.frames.proofs.Laws.{nothing_left, cut_frame}
use Rattle.frames.proofs.Values.{frame_read}
use Rattle.frames.proofs.frame_at.Goals as goal

pub returns-then-octets-at : goal.returns-then-octets-at
returns-then-octets-at c = let a = c.args in nothing_left a.octets.now a.at (omega arith)

pub returns-then-octets-at-lt-FRAME : goal.returns-then-octets-at-lt-FRAME
returns-then-octets-at-lt-FRAME c = let a = c.args in cut_frame a.octets.now a.at (omega arith) (omega arith)

pub returns-in_err-e : goal.returns-in_err-e
returns-in_err-e c =
    let a = c.args in
    let h = c.halves_at in
    let p = err_from_is_err_and c.from_residual.result c.from_residual.ensures.1 in
    rw (p.1, p.2) (c.in_err-e.ensures (drop a.at a.octets.now) ∙ frame_read a.octets.now a.at (fields_in h.result) (omega arith) h.ensures)

pub returns : goal.returns
returns c =
    let a = c.args in
    let h = c.halves_at in
    c.in_ok-e.ensures (drop a.at a.octets.now) ∙ frame_read a.octets.now a.at (fields_in h.result) (omega arith) h.ensures
