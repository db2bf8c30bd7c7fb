-- The loop of `frame_reader::check`: the reader stands behind the whole frames that it has passed.
use mathlib.Core.Path.{◌≡◌}
use Prim.Native.Nat.{◌≤◌}
use lib.ListN.{length, drop}
use Rattle.frame_reader.specs.Checks.{whole, after, checked}
use Rattle.frame_reader.proofs.check.Given as goal

abbrev pub invariant-loop-frames : goal.invariant-loop-frames
invariant-loop-frames l =
    record {
      rest : after (whole l.frames l.reader.at) (checked (drop l.reader.at l.octets)) ≡ checked l.octets;
      few : l.frames ≤ l.reader.at;
      inside : l.reader.at ≤ length l.octets;
      octets : l.reader.octets.now ≡ l.octets;
    }
