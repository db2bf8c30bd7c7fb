-- `form_lines::note_ack_list` meets its contract.
use mathlib.Core.Path.{refl, sym, ap, ◌∙◌}
use Prim.Native.Nat.{ℕ}
use native.Mathlib.Omega.{arith}
use lib.ListN.{get_or, set, length-set}
use borrow.Author.Tests.{not-true, not-false}
use Rattle.sets.specs.Masks.{disjoint}
use Rattle.form_lines.specs.Said.{an_ack_list}
use Rattle.form_lines.specs.Pass.{fresh, note}
use Rattle.form_lines.specs.Ways.{met_of}
use Rattle.form_lines.proofs.StepLaws.{off_first, off_second, on_both}
use mathlib.Core.Bool.{not}
use Rattle.form_lines.proofs.note_ack_list.Goals as goal

pub returns-then-not-right : goal.returns-then-not-right
unfolding fresh
returns-then-not-right c =
    record {
      by_index = (λ x. off_first c.args.right (disjoint 64 c.args.carts (get_or c.args.masks.now c.args.m 0)) (met_of c.args.way c.args.masks.now) (an_ack_list c.args.m x c.args.carts) (met_of c.failed.result c.args.masks.now) c.if-not-right.true (c.failed.ensures c.args.masks.now));
      masks_len_unchanged = refl;
    }

pub offset_bounds-masks-at : goal.offset_bounds-masks-at
offset_bounds-masks-at c = omega (arith, c.requires.1 (not-false c.args.right (ap not c.if-not-right.false)))

pub bounds-masks-at : goal.bounds-masks-at
bounds-masks-at c = omega (arith, c.requires.1 (not-false c.args.right (ap not c.if-not-right.false)))

pub returns-then-not-is_disjoint : goal.returns-then-not-is_disjoint
unfolding fresh
returns-then-not-is_disjoint c =
    record {
      by_index = (λ x. off_second c.args.right (disjoint 64 c.args.carts (get_or c.args.masks.now c.args.m 0)) (met_of c.args.way c.args.masks.now) (an_ack_list c.args.m x c.args.carts) (met_of c.failed-then-not-is_disjoint.result c.args.masks.now) (sym c.is_disjoint.ensures ∙ not-true c.is_disjoint.result (ap not c.if-not-is_disjoint.true)) (c.failed-then-not-is_disjoint.ensures c.args.masks.now));
      masks_len_unchanged = refl;
    }

pub offset_bounds-masks-at-2 : goal.offset_bounds-masks-at-2
offset_bounds-masks-at-2 c = omega (arith, c.requires.1 (not-false c.args.right (ap not c.if-not-right.false)))

pub bounds-masks-at-2 : goal.bounds-masks-at-2
bounds-masks-at-2 c = omega (arith, c.requires.1 (not-false c.args.right (ap not c.if-not-right.false)))

pub returns : goal.returns
unfolding fresh note
returns c =
    record {
      by_index = (λ x. on_both c.args.right (disjoint 64 c.args.carts (get_or c.args.masks.now c.args.m 0)) (met_of c.args.way c.args.masks.now) (an_ack_list c.args.m x c.args.carts) (met_of c.args.way (set c.args.masks.now c.args.m c.union.result)) c.if-not-right.false (sym c.is_disjoint.ensures ∙ not-false c.is_disjoint.result (ap not c.if-not-is_disjoint.false)) (ap (λ (y : ℕ). met_of c.args.way (set c.args.masks.now c.args.m y)) c.union.ensures));
      masks_len_unchanged = length-set c.args.masks.now c.args.m c.union.result;
    }
