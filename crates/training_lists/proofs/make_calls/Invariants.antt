-- `training_lists::make_calls` meets its contract. The invariant: the lists and the lines are those of the calls of the rows passed.
use Prim.Native.Nat.{◌*◌, ◌≤◌}
use Rattle.lists.specs.View.{lent_lists, lists_in}
use Rattle.training_rows.specs.Calls.{calls_in, made_by}
use Rattle.training_lists.specs.Lines.{head_room, Fed}
use Rattle.training_lists.proofs.make_calls.Given as goal

abbrev pub invariant-loop-row : goal.invariant-loop-row
invariant-loop-row l = Fed (lists_in (lent_lists l.initial.counts l.initial.sends l.initial.octets)) (made_by l.input (calls_in l.calls) l.row) l.index (lent_lists l.counts l.sends l.octets) l.initial.output l.output l.at × (l.row ≤ l.frames) × (l.at ≤ l.row * head_room)
