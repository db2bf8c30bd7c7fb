-- `lists::take_refusal` meets its contract.
use borrow.Author.Tests.{eq-eqb, ne_eqb, le-leb, lt-leb}
use Rattle.lists.proofs.take_refusal.Goals as goal

pub returns-then-counts-ne-STARTED : goal.returns-then-counts-ne-STARTED
returns-then-counts-ne-STARTED c = rw (ne_eqb _ _ c.if-counts-ne-STARTED.true)

pub returns-then-counts-station : goal.returns-then-counts-station
returns-then-counts-station c = rw (eq-eqb _ _ c.if-counts-ne-STARTED.false, le-leb _ _ c.if-counts-station.true)

pub returns-then-counts-cart : goal.returns-then-counts-cart
returns-then-counts-cart c = rw (eq-eqb _ _ c.if-counts-ne-STARTED.false, lt-leb _ _ c.if-counts-station.false, le-leb _ _ c.if-counts-cart.true)

pub returns : goal.returns
returns c = rw (eq-eqb _ _ c.if-counts-ne-STARTED.false, lt-leb _ _ c.if-counts-station.false, lt-leb _ _ c.if-counts-cart.false)
