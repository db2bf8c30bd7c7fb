-- `training_lists::put_reply` meets its contract.
use Rattle.training_lists.proofs.LineLaws.{nothing_written, refused_reply, reply_written}
use Rattle.training_lists.proofs.put_reply.Goals as goal

pub returns-in-Ok-Took : goal.returns-in-Ok-Took
returns-in-Ok-Took c =
    let a = c.args in
    reply_written a.index a.station.0 a.reply _ _ a.output.now _ a.at _ c.in-Ok-Took.is (rw c.in-Ok-Took.is at c.in-Ok-Took.field-0-is) c.put_head.ensures

pub returns-in-Ok-Begun : goal.returns-in-Ok-Begun
returns-in-Ok-Begun c =
    let a = c.args in
    reply_written a.index a.station.0 a.reply _ _ a.output.now _ a.at _ c.in-Ok-Begun.is (rw c.in-Ok-Begun.is at c.in-Ok-Begun.field-0-is) (nothing_written a.output.now a.at)

pub returns-in-Ok-Sent : goal.returns-in-Ok-Sent
returns-in-Ok-Sent c =
    let a = c.args in
    reply_written a.index a.station.0 a.reply _ _ a.output.now _ a.at _ c.in-Ok-Sent.is (rw c.in-Ok-Sent.is at c.in-Ok-Sent.field-0-is) (nothing_written a.output.now a.at)

pub returns-in-Err : goal.returns-in-Err
returns-in-Err c =
    let a = c.args in
    refused_reply a.index a.station.0 a.reply _ c.in-Err.is a.output.now a.at
