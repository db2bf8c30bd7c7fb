-- `training_rows::put_call` meets its contract.
use Rattle.training_rows.proofs.RowLaws.{call_put}
use borrow.Author.Rules.{rules}
use Rattle.training_rows.proofs.put_call.Goals as goal

pub returns : goal.returns
returns c =
    let a = c.args in
    let w = c.words_of-w in
    record {
      calls_after = call_put a.calls.now _ _ _ _ _ a.row w.result a.call w.ensures c.put_word.ensures.words_after c.put_word-2.ensures.words_after c.put_word-3.ensures.words_after c.put_word-4.ensures.words_after c.put_word-5.ensures.words_after;
      calls_len_unchanged = search rules;
    }
