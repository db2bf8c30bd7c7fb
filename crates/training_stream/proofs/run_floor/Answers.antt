-- `training_stream::run_floor` meets its contract.
use native.Mathlib.Omega.{arith}
use Rattle.protocol.specs.Floor.{whole_floor}
use Rattle.training_stream.proofs.run_floor.Goals as goal

pub take_frames-requires : goal.take_frames-requires
take_frames-requires c =
    let numbers = c.floor_bounds.ensures.1 in
    ((omega (arith, numbers.held_is), (whole_floor, numbers, c.requires.0)), c.requires.1, c.requires.2)

pub returns : goal.returns
returns c =
    let t = c.take_frames.ensures in
    record {
      gone = t.by_each whole_floor c.floor_bounds.ensures.1 c.requires.0;
      calls_len_unchanged = t.calls_len_unchanged;
    }
