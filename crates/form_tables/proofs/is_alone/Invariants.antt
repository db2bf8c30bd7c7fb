-- `form_tables::is_alone` meets its contract. The invariant: the rooms passed have another message, or none.
use mathlib.Core.Bool.{not}
use mathlib.Core.List.{[]}
use Prim.Native.Nat.{◌≤◌}
use Rattle.protocol.specs.Floor.{is_message}
use Rattle.protocol.specs.Claims.{True, all, is}
use Rattle.form_tables.specs.Tables.{tables}
use Rattle.form_tables.proofs.is_alone.Given as goal

abbrev pub invariant-loop-k : goal.invariant-loop-k
invariant-loop-k l = (l.k ≤ l.m) × True (all l.k (λ j. is (not (is_message (tables [] [] l.messages) l.s l.n j))))
