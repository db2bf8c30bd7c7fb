-- `handoff::on_enter` meets its contract.
use native.Mathlib.Omega.{arith}
use Rattle.protocol.specs.Folds.{list_of}
use Rattle.handoff.proofs.on_enter.Goals as goal

pub tell-requires : goal.tell-requires
tell-requires c = omega (arith, c.requires.has_station.1, c.on_register-effect.ensures.arrived.length)

pub returns : goal.returns
unfolding list_of
returns c =
    let arrived = c.on_register-effect in
    let told = c.tell in
    record {
      entered = record { there = arrived.new.carts; arrived = arrived.ensures.arrived; steady = told.ensures };
      value = arrived.ensures.value;
    }
