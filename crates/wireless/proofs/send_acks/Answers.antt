-- `wireless::send_acks` meets its contract.
use mathlib.Core.Path.{subst, ◌∙◌, ap}
use Prim.Native.Nat.{◌+◌, ◌*◌}
use Rattle.stations.specs.View.{stations_in}
use Rattle.lines.specs.declared.Record as word
use Rattle.lines.specs.Post.{Pushed}
use Rattle.view.specs.Records.{words_of}
use Rattle.wireless.proofs.Parts.{sent_stations}
use Rattle.wireless.proofs.send_acks.Goals as goal

pub returns : goal.returns
returns c =
    let a = c.args in
    let X = stations_in a.stations.now in
    let acks = c.acks_of-acks in
    let copy = c.copy_of-copy in
    let rest = c.minus in
    let struck = c.put_room in
    let said = c.ack_list in
    let pushed = c.push_back in
    record {
      stations = sent_stations X (stations_in struck.new.stations) a.m a.station.0 acks.result copy.result rest.result
          acks.ensures copy.ensures rest.ensures struck.ensures.0;
      lines = subst (λ (r : word.Record). Pushed a.lines.now pushed.new.pool (a.station.0 * 16 + a.initiator.0) r) (said.ensures ∙ ap (words_of 2 a.m a.n.0) acks.ensures) pushed.ensures;
      head = struck.ensures.1.0;
      words = struck.ensures.1.1;
    }
