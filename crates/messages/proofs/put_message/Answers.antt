-- `messages::put_message` meets its contract.
use mathlib.Core.Path.{◌∙◌}
use borrow.Author.Rules.{rules}
use Rattle.messages.proofs.RoomLaws.{message_put}
use Rattle.messages.proofs.put_message.Goals as goal

pub returns : goal.returns
returns c =
    let a = c.args in
    let p = c.put_word.ensures in
    let q = c.put_word-2.ensures in
    let r = c.put_word-3.ensures in
    let s = c.put_word-4.ensures in
    let t = c.put_word-5.ensures in
    let u = c.put_word-6.ensures in
    let v = c.put_word-7.ensures in
    record {
      messages_after = message_put a.messages.now _ _ _ _ _ _ _ a.m a.initiator.0 a.number.0 a.named a.waiting a.octets a.offset p.words_after q.words_after r.words_after s.words_after t.words_after u.words_after v.words_after;
      messages_len_unchanged = v.words_len_unchanged ∙ u.words_len_unchanged ∙ t.words_len_unchanged ∙ s.words_len_unchanged ∙ r.words_len_unchanged ∙ q.words_len_unchanged ∙ p.words_len_unchanged;
    }
