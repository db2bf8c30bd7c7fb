-- `messages::put_acked` meets its contract.
use borrow.Author.Rules.{rules}
use Rattle.messages.proofs.RoomLaws.{acked_put}
use Rattle.messages.proofs.put_acked.Goals as goal

pub returns : goal.returns
returns c =
    let a = c.args in
    let p = c.put_word.ensures in
    record {
      messages_after = acked_put a.messages.now _ a.m a.carts p.words_after;
      messages_len_unchanged = p.words_len_unchanged;
    }
