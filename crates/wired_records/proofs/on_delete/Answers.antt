-- `wired_records::on_delete` meets its contract.
use Rattle.view.specs.Records.{index_of}
use Rattle.wired_records.proofs.Stores.{deletes}
use Rattle.wired_records.proofs.on_delete.Goals as goal

pub returns : goal.returns
returns c =
    let a = c.args in
    let k = c.index_of-m in
    let w = c.waiting_of-waiting in
    let x = c.without_member in
    let p = c.put_waiting in
    record {
      deleted = deletes a.messages.now p.new.messages (index_of a.said.0) a.to.0 k.result w.result x.result k.ensures w.ensures x.ensures p.ensures.messages_after p.ensures.messages_len_unchanged;
      value = c.nothing.ensures;
    }
