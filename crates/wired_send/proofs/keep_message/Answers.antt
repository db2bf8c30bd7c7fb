-- `wired_send::keep_message` meets its contract.
use Rattle.wired_send.proofs.keep_message.Goals as goal

pub returns : goal.returns
returns c =
    let p = c.put_row.ensures in
    let t = c.put_text.ensures in
    record {
      rooms = p.messages_after;
      words = p.messages_len_unchanged;
      here = t.m_after;
      others = t.by_index;
      octets = t.texts_len_unchanged;
    }
