-- `wired_send::announce` meets its contract.
use mathlib.Core.Path.{ap, ◌∙◌, subst}
use Prim.Native.Nat.{ℕ}
use native.Mathlib.Numerals.{add-one}
use Rattle.lines.specs.declared.Record as word
use Rattle.stations.specs.View.{Stations, stations_in, with_sent}
use Rattle.wired_lines.specs.ToEvery.{PushedToEvery}
use Rattle.wired_send.specs.Copies.{without_copies}
use Rattle.wired_send.proofs.announce.Goals as goal

pub returns : goal.returns
returns c =
    let a = c.args in
    let next = c.next in
    let k = c.clear_copies.ensures in
    let p = c.put_sent.ensures in
    record {
      announced =
          record {
            stations =
                p.0
                ∙ ap (λ (S : Stations). with_sent S a.message.initiator.0 next.result.0) k.0
                ∙ ap (λ (x : ℕ). with_sent (without_copies (stations_in a.stations.now) a.message.room) a.message.initiator.0 x) (next.ensures ∙ add-one a.message.number.0);
            top = p.1.0 ∙ k.1.0;
            words = p.1.1 ∙ k.1.1;
            lines =
                subst (λ (r : word.Record). PushedToEvery a.lines.now c.push_to_every.new.lines a.message.initiator.0 a.n r) c.multicast.ensures
                c.push_to_every.ensures;
          };
      value = c.putting.ensures;
    }
