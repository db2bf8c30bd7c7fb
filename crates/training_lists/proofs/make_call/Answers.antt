-- `training_lists::make_call` meets its contract.
use native.Mathlib.Omega.{arith}
use lib.ListN.{length}
use Rattle.lists.specs.View.{lent_lists}
use Rattle.training_lists.proofs.LineLaws.{by_none, start_made, part_sent, by_call, text_there}
use Rattle.training_lists.proofs.make_call.Goals as goal

pub overflow_add-end : goal.overflow_add-end
overflow_add-end c = omega (arith, text_there (length c.args.input.now) c.args.call _ _ _ _ _ c.in-Some-Send.is (rw c.in-Some-Send.is at c.in-Some-Send.field-0-is) c.requires.lists_ready.1)

pub slice_bounds-send-end : goal.slice_bounds-send-end
slice_bounds-send-end c = omega (arith, text_there (length c.args.input.now) c.args.call _ _ _ _ _ c.in-Some-Send.is (rw c.in-Some-Send.is at c.in-Some-Send.field-0-is) c.requires.lists_ready.1)

pub returns-in-None : goal.returns-in-None
returns-in-None c =
    let a = c.args in
    by_none a.input.now a.call (lent_lists a.counts.now a.sends.now a.octets.now) a.index a.output.now a.at c.in-None.is c.requires.lists_ready.0

pub returns-in-Some-Start : goal.returns-in-Some-Start
returns-in-Some-Start c =
    let a = c.args in
    let L = lent_lists a.counts.now a.sends.now a.octets.now in
    by_call a.input.now a.call _ _ L _ a.index a.output.now a.output.now a.at a.at c.in-Some-Start.is (rw c.in-Some-Start.is at c.in-Some-Start.field-0-is) (start_made L _ _ _ c.start.result a.index a.output.now a.at c.requires.lists_ready.0 c.start.ensures)

pub returns-in-Some-Send : goal.returns-in-Some-Send
returns-in-Some-Send c =
    let a = c.args in
    let L = lent_lists a.counts.now a.sends.now a.octets.now in
    by_call a.input.now a.call _ _ L _ a.index a.output.now a.output.now a.at a.at c.in-Some-Send.is (rw c.in-Some-Send.is at c.in-Some-Send.field-0-is) (part_sent a.input.now c.in-Some-Send.from c.in-Some-Send.size L _ _ _ c.send.result a.index a.output.now a.at c.requires.lists_ready.0 c.send.ensures)

pub returns-in-Some-Take : goal.returns-in-Some-Take
returns-in-Some-Take c =
    let a = c.args in
    by_call a.input.now a.call _ _ (lent_lists a.counts.now a.sends.now a.octets.now) _ a.index a.output.now _ a.at _ c.in-Some-Take.is (rw c.in-Some-Take.is at c.in-Some-Take.field-0-is) c.take.ensures
