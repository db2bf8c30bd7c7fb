-- `messages::put_waiting` meets its contract.
use borrow.Author.Rules.{rules}
use Rattle.messages.proofs.RoomLaws.{waiting_put}
use Rattle.messages.proofs.put_waiting.Goals as goal

pub returns : goal.returns
returns c =
    let a = c.args in
    let p = c.put_word.ensures in
    record {
      messages_after = waiting_put a.messages.now _ a.m a.stations p.words_after;
      messages_len_unchanged = p.words_len_unchanged;
    }
