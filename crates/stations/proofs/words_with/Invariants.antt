-- `stations::words_with` meets its contract.
use mathlib.Core.Path.{◌≡◌}
use Prim.Native.Nat.{◌≤◌}
use Rattle.stations.specs.View.{word_meets}
use Rattle.stations.proofs.NamingLaws.{passing_from}
use Rattle.stations.proofs.words_with.Given as goal

-- the rooms from m on are looked at
abbrev pub invariant-loop-m : goal.invariant-loop-m
invariant-loop-m l = (l.m ≤ l.n) × (l.found ≡ passing_from l.n (word_meets l.stations l.station.0 l.place l.carts) l.m)
