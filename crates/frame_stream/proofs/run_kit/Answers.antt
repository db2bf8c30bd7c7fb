-- `frame_stream::run_kit` meets its contract.
use mathlib.Core.Path.{refl}
use native.Mathlib.Omega.{arith}
use Rattle.protocol.specs.Floor.{kit}
use Rattle.rows.specs.Rows.{cell}
use Rattle.stations.specs.View.{head_in}
use Rattle.frame_stream.proofs.Fresh.{fresh_ready, streamed, kit_lengths}
use Rattle.frame_stream.proofs.run_kit.Goals as goal

pub run_over-requires : goal.run_over-requires
unfolding head_in cell
run_over-requires g c =
    let numbers = c.kit_bounds.ensures.1 in
    (omega (arith, numbers.held_is), (kit, numbers, fresh_ready kit _ _ _ _ _ _ refl (kit_lengths _ _ _ _ _ _ refl refl refl refl refl c.no_store-store.ensures)))

pub returns : goal.returns
unfolding head_in cell
returns g c =
    let numbers = c.kit_bounds.ensures.1 in
    let r = c.run_over in
    let long = kit_lengths _ _ _ _ _ _ refl refl refl refl refl c.no_store-store.ensures in
    streamed kit _ _ _ _ _ _ refl long r.result (r.ensures kit numbers (fresh_ready kit _ _ _ _ _ _ refl long)).finished
