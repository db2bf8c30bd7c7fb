-- `lists::send_refusal` meets its contract.
use Rattle.protocol.specs.Folds.{count}
use Rattle.protocol.specs.CartSets.{has}
use Rattle.lists.specs.View.{counts_in}
use Prim.Native.Nat.{◌+◌, ◌<◌, ◌^◌}
use native.Mathlib.Omega.{arith}
use borrow.Author.Tests.{eq-eqb, ne_eqb, le-leb, lt-leb, lt-ltb, le-ltb}
use Rattle.lists.proofs.Checks.{a_stranger, no_stranger, named_count, at_most_64}
use Rattle.lists.proofs.send_refusal.Goals as goal

pub returns-then-size-gt-TEXT : goal.returns-then-size-gt-TEXT
returns-then-size-gt-TEXT c = rw (lt-ltb _ _ c.if-size-gt-TEXT.true)

pub returns-then-counts-ne-STARTED : goal.returns-then-counts-ne-STARTED
returns-then-counts-ne-STARTED c = rw (le-ltb _ _ c.if-size-gt-TEXT.false, ne_eqb _ _ c.if-counts-ne-STARTED.true)

pub returns-then-counts-station : goal.returns-then-counts-station
returns-then-counts-station c = rw (le-ltb _ _ c.if-size-gt-TEXT.false, eq-eqb _ _ c.if-counts-ne-STARTED.false, le-leb _ _ c.if-counts-station.true)

pub all_below-requires : goal.all_below-requires
all_below-requires c = (c.requires.fit c.if-counts-ne-STARTED.false).1

pub returns-then-all_below-set : goal.returns-then-all_below-set
returns-then-all_below-set c =
    let x = c.all_below in
    rw (le-ltb _ _ c.if-size-gt-TEXT.false, eq-eqb _ _ c.if-counts-ne-STARTED.false, lt-leb _ _ c.if-counts-station.false, le-leb _ _ (a_stranger _ x.result c.args.set x.ensures c.if-all_below-set.true))

pub overflow_add-at : goal.overflow_add-at
overflow_add-at c = omega (arith, c.requires.fit c.if-counts-ne-STARTED.false, c.if-counts-station.false)

pub offset_bounds-counts-at : goal.offset_bounds-counts-at
offset_bounds-counts-at c = omega (arith, c.requires.words, c.requires.fit c.if-counts-ne-STARTED.false, c.if-counts-station.false)

pub bounds-counts-at : goal.bounds-counts-at
bounds-counts-at c = omega (arith, c.requires.words, c.requires.fit c.if-counts-ne-STARTED.false, c.if-counts-station.false)

pub returns-then-counts-at-gt-LAST : goal.returns-then-counts-at-gt-LAST
returns-then-counts-at-gt-LAST c =
    let x = c.all_below in
    rw (le-ltb _ _ c.if-size-gt-TEXT.false, eq-eqb _ _ c.if-counts-ne-STARTED.false, lt-leb _ _ c.if-counts-station.false, lt-leb _ _ (no_stranger _ x.result c.args.set x.ensures c.if-all_below-set.false), lt-ltb _ _ c.if-counts-at-gt-LAST.true)

pub overflow_add-counts : goal.overflow_add-counts
overflow_add-counts c = omega (arith, c.requires.fit c.if-counts-ne-STARTED.false, at_most_64 c.args.set c.count.result c.count.ensures)

pub returns-then-counts-count-gt-MOST_ENTRIES : goal.returns-then-counts-count-gt-MOST_ENTRIES
returns-then-counts-count-gt-MOST_ENTRIES c =
    let a = c.args in
    let N = counts_in a.counts.now in
    let x = c.all_below in
    let known : a.set < 2 ^ N.carts = no_stranger N.carts x.result a.set x.ensures c.if-all_below-set.false in
    let named = named_count N.carts a.set c.count.result (c.requires.fit c.if-counts-ne-STARTED.false).1 known c.count.ensures in
    rw (le-ltb _ _ c.if-size-gt-TEXT.false, eq-eqb _ _ c.if-counts-ne-STARTED.false, lt-leb _ _ c.if-counts-station.false, lt-leb _ _ known, le-ltb _ _ c.if-counts-at-gt-LAST.false, lt-ltb 2048 (N.entries + count N.carts (has a.set)) (omega (arith, c.if-counts-count-gt-MOST_ENTRIES.true, named)))

pub returns : goal.returns
returns c =
    let a = c.args in
    let N = counts_in a.counts.now in
    let x = c.all_below in
    let known : a.set < 2 ^ N.carts = no_stranger N.carts x.result a.set x.ensures c.if-all_below-set.false in
    let named = named_count N.carts a.set c.count.result (c.requires.fit c.if-counts-ne-STARTED.false).1 known c.count.ensures in
    rw (le-ltb _ _ c.if-size-gt-TEXT.false, eq-eqb _ _ c.if-counts-ne-STARTED.false, lt-leb _ _ c.if-counts-station.false, lt-leb _ _ known, le-ltb _ _ c.if-counts-at-gt-LAST.false, le-ltb 2048 (N.entries + count N.carts (has a.set)) (omega (arith, c.if-counts-count-gt-MOST_ENTRIES.false, named)))
