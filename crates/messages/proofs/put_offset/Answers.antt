-- `messages::put_offset` meets its contract.
use borrow.Author.Rules.{rules}
use Rattle.messages.proofs.RoomLaws.{offset_put}
use Rattle.messages.proofs.put_offset.Goals as goal

pub returns : goal.returns
returns c =
    let a = c.args in
    let p = c.put_word.ensures in
    record {
      messages_after = offset_put a.messages.now _ a.m a.offset p.words_after;
      messages_len_unchanged = p.words_len_unchanged;
    }
