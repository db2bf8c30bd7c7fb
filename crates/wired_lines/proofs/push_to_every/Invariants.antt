-- `wired_lines::push_to_every` meets its contract. The loop's invariant: with the held word released, the record is on the lines to the
-- stations passed.
use Prim.Native.Nat.{◌≤◌}
use Rattle.lines.specs.Holding.{released, Holds}
use Rattle.wired_lines.specs.ToEvery.{PushedToEvery}
use Rattle.wired_lines.proofs.push_to_every.Given as goal

abbrev pub invariant-loop-to : goal.invariant-loop-to
invariant-loop-to l = (l.to ≤ l.n) × PushedToEvery l.initial.lines (released l.lines l.held) l.from.0 l.to l.said × Holds l.lines l.held
