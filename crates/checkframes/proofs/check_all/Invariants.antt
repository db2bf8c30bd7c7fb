-- `checkframes::check_all` meets its contract. The invariant: what was found and kept is that of all octets so far.
use mathlib.Core.List.{List}
use Prim.Native.Nat.{ℕ}
use lib.ListN.{take}
use Rattle.frame_reader.specs.Checks.{check_in, Fed}
use Rattle.checkframes.specs.Progress.{Inside}
use Rattle.checkframes.proofs.check_all.Given as goal

abbrev pub invariant-loop : goal.invariant-loop
invariant-loop g l = Inside l.input l.p × ((all : List ℕ) × Fed all (take l.p.kept l.input) (check_in l.p.found))
