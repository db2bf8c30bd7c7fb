use mathlib.Core.Path.{◌≡◌, subst}
use Prim.Native.Nat.{ℕ}
use lib.ListN.{length}
use Rattle.training_rows.specs.Calls.{TextIn}
-- `training_lists::make_calls` meets its contract. The invariant: the lists and the lines are those of the calls of the rows passed.
use mathlib.Core.Path.{sym, ◌∙◌}
use native.Mathlib.Omega.{arith}
use Rattle.lists.specs.View.{lent_lists, lists_in}
use Rattle.lists.proofs.Facts.{lengths_of}
use Rattle.training_rows.specs.Calls.{calls_in, made_by}
use Rattle.training_lists.specs.Lines.{Fed}
use Rattle.training_lists.proofs.LineLaws.{fed_none, fed_turn}
use Rattle.training_lists.proofs.make_calls.Goals as goal

pub loop-row-init : goal.loop-row-init
loop-row-init c =
    let a = c.args in
    (fed_none a.input.now (calls_in a.calls.now) (lent_lists a.counts.now a.sends.now a.octets.now) a.index a.output.now c.requires.lists_ready.0, omega arith, omega arith)

pub call_at-call-requires : goal.call_at-call-requires
call_at-call-requires c = omega (arith, c.requires.width_in_bounds.0, c.loop-row-test)

pub overflow_add-index : goal.overflow_add-index
overflow_add-index c = omega (arith, c.requires.width_in_bounds.2, c.loop-row-test)

pub make_call-at-requires : goal.make_call-at-requires
make_call-at-requires c =
    let a = c.args in
    let l = c.loop-row in
    let here = c.loop-row-test.true in
    record {
      lists_ready = (l.invariant.0.ready, subst (TextIn (length a.input.now)) (sym c.call_at-call.ensures) (c.requires.lists_ready.2 l.row here));
      head_room_in_bounds = (omega (arith, l.invariant.2, here, c.requires.width_in_bounds.1, l.invariant.0.kept), c.requires.lists_ready.1);
    }

pub loop-row-preserved : goal.loop-row-preserved
loop-row-preserved c =
    let a = c.args in
    let l = c.loop-row in
    let here = c.loop-row-test.true in
    let m = c.make_call-at.ensures in
    (fed_turn (lists_in (lent_lists a.counts.now a.sends.now a.octets.now)) a.input.now (calls_in a.calls.now) l.row a.index (lent_lists l.counts l.sends l.octets) a.output.now l.output l.at l.invariant.0 (omega (arith, l.invariant.2, here, c.requires.width_in_bounds.1, l.invariant.0.kept)) _ _ _ _ c.call_at-call.ensures m, omega (arith, here), omega (arith, l.invariant.2, m.line.few))

pub shape_of-counts : goal.shape_of-counts
shape_of-counts c = (lengths_of _ c.loop-row.invariant.0.ready.lengths).counts ∙ sym (lengths_of _ c.requires.lists_ready.0.lengths).counts

pub shape_of-sends : goal.shape_of-sends
shape_of-sends c = (lengths_of _ c.loop-row.invariant.0.ready.lengths).sends ∙ sym (lengths_of _ c.requires.lists_ready.0.lengths).sends

pub shape_of-octets : goal.shape_of-octets
shape_of-octets c = (lengths_of _ c.loop-row.invariant.0.ready.lengths).octets ∙ sym (lengths_of _ c.requires.lists_ready.0.lengths).octets

pub shape_of-output : goal.shape_of-output
shape_of-output c = c.loop-row.invariant.0.kept

pub returns : goal.returns
returns c =
    let a = c.args in
    let l = c.loop-row in
    let all : l.row ≡ a.frames = omega (arith, l.invariant.1, c.loop-row-test.false) in
    (subst (λ (n : ℕ). Fed (lists_in (lent_lists a.counts.now a.sends.now a.octets.now)) (made_by a.input.now (calls_in a.calls.now) n) a.index (lent_lists l.counts l.sends l.octets) a.output.now l.output l.at) all l.invariant.0, omega (arith, l.invariant.1, l.invariant.2))
