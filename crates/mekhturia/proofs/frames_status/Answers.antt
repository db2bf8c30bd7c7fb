-- `mekhturia::frames_status` meets its contract.
use borrow.Author.Rules.{rules}
use Rattle.mekhturia.proofs.FrameStatuses.{frames_other, frames_index, frames_size, frames_near}
use Rattle.mekhturia.proofs.frames_status.Goals as goal

pub returns-then-status-ne-ANSWERED : goal.returns-then-status-ne-ANSWERED
returns-then-status-ne-ANSWERED c =
    let a = c.args in
    frames_other a.product a.out.now a.index a.input.now _ c.status_of-status.ensures c.if-status-ne-ANSWERED.true

pub returns-then-index-ge-FAR : goal.returns-then-index-ge-FAR
returns-then-index-ge-FAR c =
    let a = c.args in
    frames_index a.product a.out.now a.index a.input.now _ c.status_of-status.ensures c.if-status-ne-ANSWERED.false c.if-index-ge-FAR.true

pub returns-then-input-ge-FAR : goal.returns-then-input-ge-FAR
returns-then-input-ge-FAR c =
    let a = c.args in
    frames_size a.product a.out.now a.index a.input.now _ c.status_of-status.ensures c.if-status-ne-ANSWERED.false c.if-index-ge-FAR.false c.if-input-ge-FAR.true

pub returns : goal.returns
returns c =
    let a = c.args in
    frames_near a.product a.out.now a.index a.input.now _ c.status_of-status.ensures c.if-status-ne-ANSWERED.false c.if-index-ge-FAR.false c.if-input-ge-FAR.false
