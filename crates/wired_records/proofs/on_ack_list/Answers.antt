-- `wired_records::on_ack_list` meets its contract.
use Prim.Native.Nat.{ℕ}
use Rattle.view.specs.Records.{index_of, number_of}
use Rattle.reports.proofs.Effects.{only_puts}
use Rattle.wired_records.specs.Handled.{Acknowledged}
use Rattle.wired_records.proofs.Stores.{acks_all, acks_some, acks_whole}
use Rattle.wired_records.proofs.on_ack_list.Goals as goal

pub returns-then-known-named : goal.returns-then-known-named
returns-then-known-named c =
    let a = c.args in
    let k = c.index_of-m in
    let x = c.acked_of in
    let u = c.union-known in
    let d = c.named_of-named in
    let p = c.put_acked in
    let whole = only_puts (λ (w : ℕ). Acknowledged a.messages.now p.new.messages a.lines.now a.lines.now (index_of a.said.0) (number_of a.said.0) a.said.1 a.initiator.0 a.n w)
    c.nothing.result 0
    (acks_some a.messages.now p.new.messages a.lines.now a.lines.now (index_of a.said.0) (number_of a.said.0) a.said.1 a.initiator.0 a.n k.result x.result u.result d.result k.ensures x.ensures u.ensures d.ensures p.ensures.messages_after p.ensures.messages_len_unchanged c.if-known-named.true)
    c.nothing.ensures in
    record { acknowledged = whole.0; value = whole.1 }

pub push_to_every-requires : goal.push_to_every-requires
push_to_every-requires c =
    let a = c.args in
    let k = c.index_of-m in
    let x = c.acked_of in
    let u = c.union-known in
    let d = c.named_of-named in
    let p = c.put_acked in
    (c.requires.initiator_lt_initiators.0, c.requires.initiator_lt_initiators.1, c.requires.initiator_lt_initiators.2, c.requires.n_bound (acks_all a.messages.now p.new.messages a.lines.now a.lines.now (index_of a.said.0) (number_of a.said.0) a.said.1 a.initiator.0 a.n k.result x.result u.result d.result k.ensures x.ensures u.ensures d.ensures c.if-known-named.false))

pub returns : goal.returns
returns c =
    let a = c.args in
    let k = c.index_of-m in
    let x = c.acked_of in
    let u = c.union-known in
    let d = c.named_of-named in
    let p = c.put_acked in
    let q = c.number_of in
    let r = c.delete in
    let t = c.push_to_every in
    let whole = only_puts (λ (w : ℕ). Acknowledged a.messages.now p.new.messages a.lines.now t.new.lines (index_of a.said.0) (number_of a.said.0) a.said.1 a.initiator.0 a.n w)
    c.putting.result a.n
    (acks_whole a.messages.now p.new.messages a.lines.now t.new.lines (index_of a.said.0) (number_of a.said.0) a.said.1 a.initiator.0 a.n k.result x.result u.result d.result k.ensures x.ensures u.ensures d.ensures p.ensures.messages_after p.ensures.messages_len_unchanged c.if-known-named.false q.result q.ensures r.result r.ensures t.ensures)
    c.putting.ensures in
    record { acknowledged = whole.0; value = whole.1 }
