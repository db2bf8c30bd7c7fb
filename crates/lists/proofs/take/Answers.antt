-- `lists::take` meets its contract.
use mathlib.Core.Path.{◌≡◌, ap, sym}
use Rattle.std.specs.Prelude.{Err}
use native.Mathlib.Omega.{arith}
use Rattle.list_rows.specs.declared.Message.{Message}
use Rattle.lists.specs.View.{lent_lists}
use Rattle.lists.proofs.Facts.{sized, facts_of, lengths_of}
use Rattle.lists.proofs.TakeLaws.{take_refused, take_granted, take_passes, take_empty, entry_there, row_there, text_there, take_met}
use Rattle.lists.proofs.take.Goals as goal

pub take_refusal-requires : goal.take_refusal-requires
take_refusal-requires c =
    let a = c.args in
    sized (lent_lists a.counts.now a.sends.now a.octets.now) c.requires

pub returns-in_err-take_refusal : goal.returns-in_err-take_refusal
returns-in_err-take_refusal c =
    let a = c.args in
    let found = c.in_err-take_refusal in
    let is : c.from_residual.result ≡ Err found.field-0.0 = let m = c.from_residual.ensures.1 in grind arith in
    rw is (take_refused (lent_lists a.counts.now a.sends.now a.octets.now) c.requires a.station.0 a.cart.0 found.field-0.0 a.buffer.now found.ensures)

pub bounds-counts-3 : goal.bounds-counts-3
bounds-counts-3 c =
    let a = c.args in
    omega (arith, (lengths_of (lent_lists a.counts.now a.sends.now a.octets.now) c.requires.lengths).counts)

pub find_row-requires : goal.find_row-requires
find_row-requires c =
    let a = c.args in
    let L = lent_lists a.counts.now a.sends.now a.octets.now in
    let none = sym c.in_ok-take_refusal.ensures in
    let F = facts_of L (take_passes L c.requires a.station.0 a.cart.0 none) in
    (omega (arith, F.used, (lengths_of L c.requires.lengths).sends), omega (arith, F.carts, (take_granted L c.requires a.station.0 a.cart.0 none).cart))

pub returns-in_default : goal.returns-in_default
returns-in_default c =
    let a = c.args in
    let L = lent_lists a.counts.now a.sends.now a.octets.now in
    let none = sym c.in_ok-take_refusal.ensures in
    take_empty L c.requires a.station.0 a.cart.0 none a.buffer.now (c.in_default.ensures a.octets.now)

pub message_at-requires : goal.message_at-requires
message_at-requires c =
    let a = c.args in
    let L = lent_lists a.counts.now a.sends.now a.octets.now in
    let none = sym c.in_ok-take_refusal.ensures in
    let found = c.in-Some.ensures a.octets.now in
    let row = c.in-Some.row in
    let low = row_there L c.requires a.station.0 a.cart.0 none row found in
    omega (arith, low, (lengths_of L c.requires.lengths).sends)

pub hand_over-size-requires : goal.hand_over-size-requires
hand_over-size-requires c =
    let a = c.args in
    let L = lent_lists a.counts.now a.sends.now a.octets.now in
    let h = lengths_of L c.requires.lengths in
    let none = sym c.in_ok-take_refusal.ensures in
    let found = c.in-Some.ensures a.octets.now in
    let row = c.in-Some.row in
    let low = row_there L c.requires a.station.0 a.cart.0 none row found in
    let F = facts_of L (take_passes L c.requires a.station.0 a.cart.0 none) in
    (h.counts, entry_there L c.requires a.station.0 a.cart.0 none row found, omega (arith, low, h.sends), omega (arith, low, h.octets), omega (arith, F.carts, (take_granted L c.requires a.station.0 a.cart.0 none).cart), text_there L c.requires a.station.0 a.cart.0 none row found)

pub returns : goal.returns
returns c =
    let a = c.args in
    let L = lent_lists a.counts.now a.sends.now a.octets.now in
    let none = sym c.in_ok-take_refusal.ensures in
    let found = c.in-Some.ensures a.octets.now in
    let row = c.in-Some.row in
    let done = c.hand_over-size.ensures in
    let number = ap (λ (m : Message). m.number.0) (c.message_at.ensures a.octets.now) in
    take_met L c.requires a.station.0 a.cart.0 none row found _ _ a.buffer.now _ _ _ done.counts_after done.sends_len_unchanged done.octets_after number done.value done.buffer_after
