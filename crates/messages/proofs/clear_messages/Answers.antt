-- `messages::clear_messages` meets its contract.
use borrow.Author.Rules.{rules}
use Rattle.messages.proofs.RoomLaws.{no_rooms_lem}
use Rattle.messages.proofs.clear_messages.Goals as goal

pub returns : goal.returns
returns c =
    let p = c.clear.ensures in
    record {
      by_index = p.by_index;
      messages_after = no_rooms_lem _ p.by_index;
      messages_len_unchanged = p.words_len_unchanged;
    }
