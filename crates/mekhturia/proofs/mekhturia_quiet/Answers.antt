-- `mekhturia::mekhturia_quiet` meets its contract.
use mathlib.Core.Path.{refl}
use native.Mathlib.Omega.{arith}
use borrow.Author.Rules.{rules}
use Rattle.mekhturia.proofs.Statuses.{untouched_by_status, answered_by_status, words_enough}
use Rattle.mekhturia.proofs.mekhturia_quiet.Goals as goal

pub returns-then-status-ne-ANSWERED : goal.returns-then-status-ne-ANSWERED
returns-then-status-ne-ANSWERED c =
    let a = c.args in
    untouched_by_status a.product a.out.now _ c.status_of-status.ensures c.if-status-ne-ANSWERED.true _ _ (refl, refl, refl)

pub put_quiet_words-requires : goal.put_quiet_words-requires
put_quiet_words-requires c =
    let a = c.args in
    let enough = words_enough a.product a.out.now _ c.status_of-status.ensures c.if-status-ne-ANSWERED.false in omega (arith, enough)

pub returns : goal.returns
returns c =
    let a = c.args in
    answered_by_status a.product a.out.now _ c.status_of-status.ensures c.if-status-ne-ANSWERED.false _ _
    (record { answered = c.quiet-quiet.result; met = c.quiet-quiet.ensures _ c.bounds_of-bounds.ensures.1; words = c.put_quiet_words.ensures.out_after })
