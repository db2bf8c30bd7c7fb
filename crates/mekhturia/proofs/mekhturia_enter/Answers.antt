-- `mekhturia::mekhturia_enter` meets its contract.
use mathlib.Core.Path.{refl}
use borrow.Author.Rules.{rules}
use Rattle.mekhturia.proofs.Statuses.{untouched_by_status, answered_by_status, words_enough}
use Rattle.mekhturia.proofs.mekhturia_enter.Goals as goal

pub returns-then-status-ne-ANSWERED : goal.returns-then-status-ne-ANSWERED
returns-then-status-ne-ANSWERED c =
    let a = c.args in
    untouched_by_status a.product a.out.now _ c.status_of-status.ensures c.if-status-ne-ANSWERED.true _ _ (refl, refl)

pub put_answer_words-requires : goal.put_answer_words-requires
put_answer_words-requires c =
    let a = c.args in
    words_enough a.product a.out.now _ c.status_of-status.ensures c.if-status-ne-ANSWERED.false

pub returns : goal.returns
returns c =
    let a = c.args in
    answered_by_status a.product a.out.now _ c.status_of-status.ensures c.if-status-ne-ANSWERED.false _ _
    (record { answered = c.enter-answer.result; met = c.enter-answer.ensures _ c.bounds_of-bounds.ensures.1; words = c.put_answer_words.ensures.out_after })
