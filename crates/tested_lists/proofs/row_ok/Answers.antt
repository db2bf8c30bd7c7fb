-- `tested_lists::row_ok` meets its contract.
use lib.ListN.{get_or}
use Rattle.list_rows.specs.Rows.{rows_in}
use Rattle.lists.specs.View.{counts_in}
use Rattle.tested_lists.proofs.Pass.{row_of_nobody, row_low, row_high, row_strange, row_by_size}
use Rattle.tested_lists.proofs.row_ok.Goals as goal

pub returns-then-counts-message : goal.returns-then-counts-message
returns-then-counts-message c octets =
    let a = c.args in
    let N = counts_in a.counts.now in
    row_of_nobody (λ s. get_or a.low.now s 0) N.sent N.stations N.carts (rows_in a.sends.now octets a.row) c.message_at-message.result (c.message_at-message.ensures octets) c.if-counts-message.true

pub returns-then-message-low : goal.returns-then-message-low
returns-then-message-low c octets =
    let a = c.args in
    let N = counts_in a.counts.now in
    row_low (λ s. get_or a.low.now s 0) N.sent N.stations N.carts (rows_in a.sends.now octets a.row) c.message_at-message.result (c.message_at-message.ensures octets) c.if-message-low.true

pub returns-then-counts-at : goal.returns-then-counts-at
returns-then-counts-at c octets =
    let a = c.args in
    let N = counts_in a.counts.now in
    row_high (λ s. get_or a.low.now s 0) N.sent N.stations N.carts (rows_in a.sends.now octets a.row) c.message_at-message.result (c.message_at-message.ensures octets) c.if-counts-at.true

pub returns-then-all_below-message : goal.returns-then-all_below-message
returns-then-all_below-message c octets =
    let a = c.args in
    let N = counts_in a.counts.now in
    let below = c.all_below in
    row_strange (λ s. get_or a.low.now s 0) N.sent N.stations N.carts (rows_in a.sends.now octets a.row) c.message_at-message.result (c.message_at-message.ensures octets) below.result below.ensures c.if-all_below-message.true

pub returns : goal.returns
returns c octets =
    let a = c.args in
    let N = counts_in a.counts.now in
    let below = c.all_below in
    row_by_size (λ s. get_or a.low.now s 0) N.sent N.stations N.carts (rows_in a.sends.now octets a.row) c.message_at-message.result (c.message_at-message.ensures octets)
    c.if-counts-message.false c.if-message-low.false c.if-counts-at.false below.result below.ensures c.if-all_below-message.false c.size_at.result (c.size_at.ensures octets)
