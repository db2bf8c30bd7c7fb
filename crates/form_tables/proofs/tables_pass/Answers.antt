-- `form_tables::tables_pass` meets its contract. Each part refuses what the rule refuses, and together they ask all of it.
use mathlib.Core.Path.{◌∙◌}
use mathlib.Core.List.{[]}
use native.Mathlib.Omega.{arith}
use borrow.Author.Tests.{not-true, not-false}
use Rattle.protocol.specs.Floor.{whole_floor, limits}
use Rattle.protocol.specs.Claims.{all, is}
use Rattle.protocol.specs.Form.{station_rule, cart_rule, entry_rule}
use Rattle.carts.specs.View.{canonical_in}
use Rattle.messages.specs.View.{rooms_in}
use Rattle.store.specs.Layout.{layout_rule}
use Rattle.view.specs.View.{lent, local_right}
use Rattle.protocol.proofs.Answers.{no, passed, refused, same_answer}
use Rattle.form_tables.specs.Tables.{tables, OnTables, counts_rule, room_sets, held_names, copies_rule, rooms_end, tables_rule}
use mathlib.Core.Bool.{not}
use mathlib.Core.Path.{ap}
use Rattle.form_tables.proofs.tables_pass.Goals as goal

pub returns-then-not-counts_ok : goal.returns-then-not-counts_ok
returns-then-not-counts_ok c =
    let a = c.args in
    let S = a.stations.now in
    let C = a.carts.now in
    let M = a.messages.now in
    let n = a.bounds.stations in
    let k = a.bounds.carts in
    let h = a.bounds.held in
    let t = c.counts_ok in
    λ N e. no (tables_rule N n k h S C M) (λ z. refused (counts_rule n k (tables S [] [])) t.result t.ensures (not-true _ (ap not c.if-not-counts_ok.true)) z.0)

pub returns-then-not-stations_ok : goal.returns-then-not-stations_ok
returns-then-not-stations_ok c =
    let a = c.args in
    let S = a.stations.now in
    let C = a.carts.now in
    let M = a.messages.now in
    let n = a.bounds.stations in
    let k = a.bounds.carts in
    let h = a.bounds.held in
    let t = c.stations_ok in
    λ N e. no (tables_rule N n k h S C M) (λ z. refused (all n (station_rule N (tables S [] []))) t.result (t.ensures N e) (not-true _ (ap not c.if-not-stations_ok.true)) z.1.0)

pub returns-then-not-places_ok : goal.returns-then-not-places_ok
returns-then-not-places_ok c =
    let a = c.args in
    let S = a.stations.now in
    let C = a.carts.now in
    let M = a.messages.now in
    let n = a.bounds.stations in
    let k = a.bounds.carts in
    let h = a.bounds.held in
    let t = c.places_ok in
    λ N e. no (tables_rule N n k h S C M) (λ z. refused (all k (λ j. is (canonical_in C j))) t.result t.ensures (not-true _ (ap not c.if-not-places_ok.true)) z.1.1.0)

pub returns-then-not-texts_lie_right : goal.returns-then-not-texts_lie_right
returns-then-not-texts_lie_right c =
    let a = c.args in
    let S = a.stations.now in
    let C = a.carts.now in
    let M = a.messages.now in
    let n = a.bounds.stations in
    let k = a.bounds.carts in
    let h = a.bounds.held in
    let t = c.texts_lie_right in
    λ N e. no (tables_rule N n k h S C M) (λ z. refused (layout_rule h (rooms_in M)) t.result t.ensures (not-true _ (ap not c.if-not-texts_lie_right.true)) z.1.1.1.0)

pub returns-then-not-locals_ok : goal.returns-then-not-locals_ok
returns-then-not-locals_ok c =
    let a = c.args in
    let S = a.stations.now in
    let C = a.carts.now in
    let M = a.messages.now in
    let n = a.bounds.stations in
    let k = a.bounds.carts in
    let h = a.bounds.held in
    let t = c.locals_ok in
    λ N e. no (tables_rule N n k h S C M) (λ z. refused (all n (λ t. is (local_right (lent whole_floor S C [] [] [] []) t))) t.result t.ensures (not-true _ (ap not c.if-not-locals_ok.true)) z.1.1.1.1.0)

pub returns-then-not-carts_ok : goal.returns-then-not-carts_ok
returns-then-not-carts_ok c =
    let a = c.args in
    let S = a.stations.now in
    let C = a.carts.now in
    let M = a.messages.now in
    let n = a.bounds.stations in
    let k = a.bounds.carts in
    let h = a.bounds.held in
    let t = c.carts_ok in
    λ N e. no (tables_rule N n k h S C M) (λ z. refused (all k (cart_rule limits (tables S C []))) t.result t.ensures (not-true _ (ap not c.if-not-carts_ok.true)) z.1.1.1.1.1.0)

pub returns-then-not-rooms_ok : goal.returns-then-not-rooms_ok
returns-then-not-rooms_ok c =
    let a = c.args in
    let S = a.stations.now in
    let C = a.carts.now in
    let M = a.messages.now in
    let n = a.bounds.stations in
    let k = a.bounds.carts in
    let h = a.bounds.held in
    let t = c.rooms_ok in
    λ N e. no (tables_rule N n k h S C M) (λ z. refused (all h (room_sets (tables S [] M))) t.result t.ensures (not-true _ (ap not c.if-not-rooms_ok.true)) z.1.1.1.1.1.1.0)

pub returns-then-not-messages_ok : goal.returns-then-not-messages_ok
returns-then-not-messages_ok c =
    let a = c.args in
    let S = a.stations.now in
    let C = a.carts.now in
    let M = a.messages.now in
    let n = a.bounds.stations in
    let k = a.bounds.carts in
    let h = a.bounds.held in
    let t = c.messages_ok in
    λ N e. no (tables_rule N n k h S C M) (λ z. refused (all h (held_names h (tables S [] M))) t.result t.ensures (not-true _ (ap not c.if-not-messages_ok.true)) z.1.1.1.1.1.1.1.0)

pub entries_ok-requires : goal.entries_ok-requires
entries_ok-requires c =
    let f = c.requires.0 in
    let p = c.requires.1 in
    let s = c.args in
    let counts = passed (counts_rule s.bounds.stations s.bounds.carts (tables s.stations.now [] [])) c.counts_ok.result c.counts_ok.ensures (not-false _ (ap not c.if-not-counts_ok.false)) in
    let on : OnTables s.stations.now s.carts.now = record { rows = s.bounds.stations; whole = p.stations; few = f.few_stations; stations = counts.1.0.1; carts = (let z = counts.1.1.1 in omega (arith, p.carts, z)) } in
    let right = passed (all s.bounds.stations (λ t. is (local_right (lent whole_floor s.stations.now s.carts.now [] [] [] []) t))) c.locals_ok.result c.locals_ok.ensures (not-false _ (ap not c.if-not-locals_ok.false)) in
    (on, right, p.stations, f.few_stations, p.messages, f.few_held)

pub returns-then-not-entries_ok : goal.returns-then-not-entries_ok
returns-then-not-entries_ok c =
    let a = c.args in
    let S = a.stations.now in
    let C = a.carts.now in
    let M = a.messages.now in
    let n = a.bounds.stations in
    let k = a.bounds.carts in
    let h = a.bounds.held in
    let t = c.entries_ok in
    λ N e. no (tables_rule N n k h S C M) (λ z. refused (all h (λ m. all n (entry_rule limits (tables S C M) m))) t.result t.ensures (not-true _ (ap not c.if-not-entries_ok.true)) z.1.1.1.1.1.1.1.1.0)

pub copies_ok-requires : goal.copies_ok-requires
copies_ok-requires c =
    let f = c.requires.0 in
    let p = c.requires.1 in
    let s = c.args in
    let counts = passed (counts_rule s.bounds.stations s.bounds.carts (tables s.stations.now [] [])) c.counts_ok.result c.counts_ok.ensures (not-false _ (ap not c.if-not-counts_ok.false)) in
    let on : OnTables s.stations.now s.carts.now = record { rows = s.bounds.stations; whole = p.stations; few = f.few_stations; stations = counts.1.0.1; carts = (let z = counts.1.1.1 in omega (arith, p.carts, z)) } in
    (on, p.stations, p.messages, f.few_held)

pub returns-then-not-copies_ok : goal.returns-then-not-copies_ok
returns-then-not-copies_ok c =
    let a = c.args in
    let S = a.stations.now in
    let C = a.carts.now in
    let M = a.messages.now in
    let n = a.bounds.stations in
    let k = a.bounds.carts in
    let h = a.bounds.held in
    let t = c.copies_ok in
    λ N e. no (tables_rule N n k h S C M) (λ z. refused (all h (copies_rule (tables S C M))) t.result t.ensures (not-true _ (ap not c.if-not-copies_ok.true)) z.1.1.1.1.1.1.1.1.1.0)

pub returns : goal.returns
returns c =
    let a = c.args in
    let S = a.stations.now in
    let C = a.carts.now in
    let M = a.messages.now in
    let n = a.bounds.stations in
    let k = a.bounds.carts in
    let h = a.bounds.held in
    λ N e. c.ends_ok.ensures
    ∙ same_answer (all n (rooms_end h S)) (tables_rule N n k h S C M)
    (λ q. (
      passed (counts_rule n k (tables S [] [])) c.counts_ok.result c.counts_ok.ensures (not-false _ (ap not c.if-not-counts_ok.false)),
      (
        passed (all n (station_rule N (tables S [] []))) c.stations_ok.result (c.stations_ok.ensures N e) (not-false _ (ap not c.if-not-stations_ok.false)),
        (
          passed (all k (λ j. is (canonical_in C j))) c.places_ok.result c.places_ok.ensures (not-false _ (ap not c.if-not-places_ok.false)),
          (
            passed (layout_rule h (rooms_in M)) c.texts_lie_right.result c.texts_lie_right.ensures (not-false _ (ap not c.if-not-texts_lie_right.false)),
            (
              passed (all n (λ t. is (local_right (lent whole_floor S C [] [] [] []) t))) c.locals_ok.result c.locals_ok.ensures (not-false _ (ap not c.if-not-locals_ok.false)),
              (
                passed (all k (cart_rule limits (tables S C []))) c.carts_ok.result c.carts_ok.ensures (not-false _ (ap not c.if-not-carts_ok.false)),
                (
                  passed (all h (room_sets (tables S [] M))) c.rooms_ok.result c.rooms_ok.ensures (not-false _ (ap not c.if-not-rooms_ok.false)),
                  (
                    passed (all h (held_names h (tables S [] M))) c.messages_ok.result c.messages_ok.ensures (not-false _ (ap not c.if-not-messages_ok.false)),
                    (
                      passed (all h (λ m. all n (entry_rule limits (tables S C M) m))) c.entries_ok.result c.entries_ok.ensures (not-false _ (ap not c.if-not-entries_ok.false)),
                      (
                        passed (all h (copies_rule (tables S C M))) c.copies_ok.result c.copies_ok.ensures (not-false _ (ap not c.if-not-copies_ok.false)),
                        q,
                      ),
                    ),
                  ),
                ),
              ),
            ),
          ),
        ),
      ),
    ))
    (λ z. z.1.1.1.1.1.1.1.1.1.1)
