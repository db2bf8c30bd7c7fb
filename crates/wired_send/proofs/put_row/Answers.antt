-- `wired_send::put_row` meets its contract.
use mathlib.Core.Path.{◌≡◌, subst}
use Prim.Native.Nat.{ℕ}
use Rattle.messages.specs.View.{rooms_in, with_message}
use Rattle.wired_send.proofs.put_row.Goals as goal

pub returns : goal.returns
returns c =
    let a = c.args in
    let p = c.put_message.ensures in
    record {
      messages_after = subst (λ (w : ℕ). rooms_in c.put_message.new.messages ≡ with_message (rooms_in a.messages.now) a.message.room a.message.initiator.0 a.message.number.0 a.message.set w a.octets a.place) c.all_below.ensures p.messages_after;
      messages_len_unchanged = p.messages_len_unchanged;
    }
