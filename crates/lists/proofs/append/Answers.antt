-- `lists::append` meets its contract.
use mathlib.Core.Path.{refl, ◌∙◌}
use native.Mathlib.Omega.{arith}
use lib.ListN.{length-set}
use Rattle.lists.specs.View.{lent_lists}
use Rattle.lists.proofs.Facts.{facts_of}
use Rattle.lists.proofs.Checks.{at_most_64}
use Rattle.lists.proofs.SendLaws.{ground, none_in, room_in_lem, some_in}
use Rattle.lists.proofs.append.Goals as goal

pub overflow_add-place : goal.overflow_add-place
overflow_add-place c =
    let a = c.args in
    let g = ground (lent_lists a.counts.now a.sends.now a.octets.now) c.requires.octets_value a.station.0 a.set a.text.now c.requires.text_value in
    omega (arith, g)

pub offset_bounds-counts-place : goal.offset_bounds-counts-place
offset_bounds-counts-place c =
    let a = c.args in
    let g = ground (lent_lists a.counts.now a.sends.now a.octets.now) c.requires.octets_value a.station.0 a.set a.text.now c.requires.text_value in
    omega (arith, g)

pub bounds-counts-place : goal.bounds-counts-place
bounds-counts-place c =
    let a = c.args in
    let g = ground (lent_lists a.counts.now a.sends.now a.octets.now) c.requires.octets_value a.station.0 a.set a.text.now c.requires.text_value in
    omega (arith, g)

pub bounds-counts-3 : goal.bounds-counts-3
bounds-counts-3 c =
    let a = c.args in
    let g = ground (lent_lists a.counts.now a.sends.now a.octets.now) c.requires.octets_value a.station.0 a.set a.text.now c.requires.text_value in
    omega (arith, g)

pub bounds-counts-4 : goal.bounds-counts-4
bounds-counts-4 c =
    let a = c.args in
    let g = ground (lent_lists a.counts.now a.sends.now a.octets.now) c.requires.octets_value a.station.0 a.set a.text.now c.requires.text_value in
    omega (arith, g)

pub overflow_add-counts : goal.overflow_add-counts
overflow_add-counts c =
    let a = c.args in
    let g = ground (lent_lists a.counts.now a.sends.now a.octets.now) c.requires.octets_value a.station.0 a.set a.text.now c.requires.text_value in
    omega (arith, g)

pub offset_bounds-counts-place-2 : goal.offset_bounds-counts-place-2
offset_bounds-counts-place-2 c =
    let a = c.args in
    let g = ground (lent_lists a.counts.now a.sends.now a.octets.now) c.requires.octets_value a.station.0 a.set a.text.now c.requires.text_value in
    omega (arith, g)

pub bounds-counts-place-2 : goal.bounds-counts-place-2
bounds-counts-place-2 c =
    let a = c.args in
    let g = ground (lent_lists a.counts.now a.sends.now a.octets.now) c.requires.octets_value a.station.0 a.set a.text.now c.requires.text_value in
    omega (arith, g)

pub returns-then-set-eq0 : goal.returns-then-set-eq0
returns-then-set-eq0 c =
    let a = c.args in
    let L = lent_lists a.counts.now a.sends.now a.octets.now in
    record {
      result_value = refl;
      octets_after = none_in L c.requires.octets_value a.station.0 a.set a.text.now c.requires.text_value c.if-set-eq0.true;
    }

pub free_row-row-requires : goal.free_row-row-requires
free_row-row-requires c =
    let a = c.args in
    let L = lent_lists a.counts.now a.sends.now a.octets.now in
    let g = ground L c.requires.octets_value a.station.0 a.set a.text.now c.requires.text_value in
    (omega (arith, g), omega (arith, g), λ r l. ((facts_of L c.requires.octets_value).rows r l).1.1.1.1)

pub put_row-requires : goal.put_row-requires
put_row-requires c =
    let a = c.args in
    let L = lent_lists a.counts.now a.sends.now a.octets.now in
    let g = ground L c.requires.octets_value a.station.0 a.set a.text.now c.requires.text_value in
    let free = c.free_row-row in
    let low = room_in_lem L c.requires.octets_value a.station.0 a.set a.text.now c.requires.text_value c.if-set-eq0.false _ free.result free.ensures.result_after in
    (omega (arith, low, g, free.ensures.sends_len_unchanged), omega (arith, low, g, free.ensures.sends_len_unchanged), g.short)

pub overflow_add-counts-2 : goal.overflow_add-counts-2
overflow_add-counts-2 c =
    let a = c.args in
    let L = lent_lists a.counts.now a.sends.now a.octets.now in
    let free = c.free_row-row in
    let low = room_in_lem L c.requires.octets_value a.station.0 a.set a.text.now c.requires.text_value c.if-set-eq0.false _ free.result free.ensures.result_after in
    omega (arith, low)

pub bounds-counts-3-2 : goal.bounds-counts-3-2
bounds-counts-3-2 c =
    let a = c.args in
    let g = ground (lent_lists a.counts.now a.sends.now a.octets.now) c.requires.octets_value a.station.0 a.set a.text.now c.requires.text_value in
    simp length-set (omega (arith, g))

pub overflow_add-counts-3 : goal.overflow_add-counts-3
overflow_add-counts-3 c =
    let a = c.args in
    let g = ground (lent_lists a.counts.now a.sends.now a.octets.now) c.requires.octets_value a.station.0 a.set a.text.now c.requires.text_value in
    omega (arith, g, at_most_64 _ c.count.result c.count.ensures)

pub bounds-counts-4-2 : goal.bounds-counts-4-2
bounds-counts-4-2 c =
    let a = c.args in
    let g = ground (lent_lists a.counts.now a.sends.now a.octets.now) c.requires.octets_value a.station.0 a.set a.text.now c.requires.text_value in
    simp length-set (omega (arith, g))

pub returns : goal.returns
returns c =
    let a = c.args in
    let L = lent_lists a.counts.now a.sends.now a.octets.now in
    let free = c.free_row-row in
    let put = c.put_row in
    record {
      result_value = refl;
      octets_after = some_in L c.requires.octets_value a.station.0 a.set a.text.now c.requires.text_value c.if-set-eq0.false _ free.result free.ensures.result_after c.count.result c.count.ensures _ _ (put.ensures.sends_len_unchanged.0 ∙ free.ensures.sends_len_unchanged.0) (put.ensures.sends_len_unchanged.1 ∙ free.ensures.sends_len_unchanged.1) put.ensures.octets_after;
    }
