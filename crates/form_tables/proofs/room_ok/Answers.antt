-- `form_tables::room_ok` meets its contract.
use mathlib.Core.Path.{ap, ◌∙◌}
use mathlib.Core.List.{[]}
use native.Mathlib.Omega.{arith}
use borrow.Author.Tests.{le-leb, lt-leb}
use Rattle.protocol.proofs.Tests.{by_lt}
use Rattle.form_tables.proofs.Sets.{within_most, most_within}
use Rattle.protocol.proofs.Answers.{yes, no}
use Rattle.form_tables.specs.Tables.{tables, room_sets}
use Rattle.form_tables.specs.Parts.{most_of}
use Rattle.form_tables.proofs.room_ok.Goals as goal

pub returns-then-greater-most : goal.returns-then-greater-most
returns-then-greater-most c =
    let a = c.args in
    let F = tables a.stations.now [] a.messages.now in
    let most = c.most_of-most in
    let most2 = c.most_of in
    let greater = c.max-greater.ensures in
    by_lt most2.result c.waiting_of.result
    (λ l. lt-leb _ _ l ∙ no (room_sets F a.m) (λ h. omega (arith, most_within F.stations (F.waiting a.m) (omega arith) most2.result (most2.ensures ∙ ap most_of c.station_count.ensures) h.1.1)))
    (λ l. le-leb _ _ l ∙ yes (room_sets F a.m) (
      within_most F.carts (F.named a.m) (omega arith) most.result (most.ensures ∙ ap most_of c.cart_count.ensures) (omega arith),
      (
        within_most F.carts (F.acked a.m) (omega arith) most.result (most.ensures ∙ ap most_of c.cart_count.ensures) (omega arith),
        within_most F.stations (F.waiting a.m) (omega arith) most2.result (most2.ensures ∙ ap most_of c.station_count.ensures) (omega arith),
      ),
    ))

pub returns-else-greater-most : goal.returns-else-greater-most
returns-else-greater-most c =
    let a = c.args in
    let F = tables a.stations.now [] a.messages.now in
    let most = c.most_of-most in
    let greater = c.max-greater.ensures in
    lt-leb _ _ c.if-greater-most.false ∙ no (room_sets F a.m) (λ h.
    let named = most_within F.carts (F.named a.m) (omega arith) most.result (most.ensures ∙ ap most_of c.cart_count.ensures) h.0 in
    let acked = most_within F.carts (F.acked a.m) (omega arith) most.result (most.ensures ∙ ap most_of c.cart_count.ensures) h.1.0 in
    omega arith)
