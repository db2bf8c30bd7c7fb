-- `handoff::on_deregister` meets its contract.
use mathlib.Core.Path.{sym, ap, ◌∙◌, subst}
use mathlib.Core.List.{List, []}
use Prim.Native.Nat.{ℕ, ◌+◌, ◌*◌}
use native.Mathlib.Omega.{arith}
use Rattle.lines.specs.declared.Record as word
use lib.ListN.{length}
use Rattle.stations.specs.View.{Stations, stations_in}
use Rattle.messages.specs.View.{rooms_in}
use Rattle.lines.specs.Post.{Pushed, Carried}
use Rattle.carts.specs.View.{carts_in}
use Rattle.carts.proofs.TableLaws.{next_beyond}
use Rattle.carts.proofs.StepLaws.{depart_step}
use Rattle.protocol.proofs.InOrder.{in_order_few}
use Rattle.queue.specs.Rooms.{tables_floor}
use Rattle.reports.specs.declared.Effect.{Effect}
use Rattle.reports.specs.Effects.{putting}
use Rattle.handoff.specs.Forwarded.{goes, ordered_rooms}
use Rattle.handoff.proofs.ForwardLaws.{gone_counts}
use Rattle.handoff.proofs.on_deregister.Goals as goal

pub forward-sent-requires : goal.forward-sent-requires
forward-sent-requires c =
    let a = c.args in
    let p = c.requires in
    let gone = c.leave.ensures in
    let many = ap (λ (Z : Stations). length (ordered_rooms a.messages.now (goes Z (rooms_in a.messages.now) a.station.0))) gone.0 in
    record {
      has_station = (omega (arith, p.has_station.0, gone.1.1), p.lines_value.2, p.has_station.4);
      lines_value = (p.lines_value.0, omega (arith, p.lines_value.1, many));
    }

pub put_register-requires : goal.put_register-requires
put_register-requires c =
    let a = c.args in
    let p = c.requires in
    let f = c.forward-sent in
    (p.has_station.2, (gone_counts _ _ a.messages.now a.lines.now _ a.station.0 _ f.result p.lines_value.0 f.ensures).formed)

pub register-requires : goal.register-requires
register-requires c = c.requires.has_station.2

pub push_back-requires : goal.push_back-requires
push_back-requires c =
    let a = c.args in
    let p = c.requires in
    let f = c.forward-sent in
    let gone = c.leave.ensures in
    let r = c.put_register.ensures in
    let on = gone_counts _ _ a.messages.now a.lines.now _ a.station.0 _ f.result p.lines_value.0 f.ensures in
    let many = f.ensures.count ∙ ap (λ (Z : Stations). length (ordered_rooms a.messages.now (goes Z (rooms_in a.messages.now) a.station.0))) gone.0 in
    (omega (arith, p.lines_value.2, p.lines_value.3), omega (arith, p.lines_value.2, p.lines_value.3), r.formed, omega (arith, p.lines_value.1, many, on.more, on.room, r.same, r.room))

pub overflow_add-sent : goal.overflow_add-sent
overflow_add-sent c =
    let a = c.args in
    let f = c.forward-sent in
    let S = c.leave.new.stations in
    omega (arith, f.ensures.count, in_order_few (tables_floor [] a.messages.now) (goes (stations_in S) (rooms_in a.messages.now) a.station.0) 32)

pub shape_of-stations : goal.shape_of-stations
shape_of-stations c = c.forward-sent.ensures.words ∙ c.leave.ensures.1.1

pub shape_of-lines : goal.shape_of-lines
shape_of-lines c =
    let a = c.args in
    let f = c.forward-sent in
    let on = gone_counts _ _ a.messages.now a.lines.now _ a.station.0 _ f.result c.requires.lines_value.0 f.ensures in
    c.push_back.ensures.words ∙ c.put_register.ensures.words ∙ on.words

pub returns : goal.returns
returns c =
    let a = c.args in
    let C = carts_in a.carts.now in
    let left = c.leave in
    let f = c.forward-sent in
    let k = c.cart_at-cart in
    let d = c.depart in
    let kept = c.put_cart.ensures in
    let r = c.put_register in
    let q = c.register in
    let p = c.push_back in
    let w = c.putting.ensures in
    record {
      left = record {
        behind = left.new.stations;
        has_left = left.ensures.0;
        behind_head = left.ensures.1.0;
        behind_table = left.ensures.1.1;
        lists = f.new.lines;
        sent = f.result;
        forwarded = f.ensures;
        carts = kept.carts_after ∙ depart_step C (next_beyond a.carts.now) a.number.0 k.result k.ensures a.station.0 a.from.0 d.result c.requires.has_station.3 d.ensures;
        canonical = kept.carts_after_2;
        length = kept.carts_len_unchanged;
        carrying = r.new.pool;
        row = subst (λ (row : List ℕ). Carried f.new.lines r.new.pool a.number.0 row) k.ensures.next r.ensures;
        lines = subst (λ (r' : word.Record). Pushed r.new.pool p.new.pool (a.station.0 * 16 + a.from.0) r') q.ensures p.ensures;
        count = ap (λ (e : Effect). e.records) w;
      };
      value = w ∙ ap putting (sym (ap (λ (e : Effect). e.records) w));
    }
