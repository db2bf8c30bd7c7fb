-- `frame_stream::after_run` meets its contract.
use mathlib.Core.Path.{ap}
use Prim.Native.Nat.{◌+◌}
use Rattle.frame_stream.specs.declared.State.{State}
use Rattle.frame_stream.proofs.after_run.Goals as goal

pub returns : goal.returns
returns c =
    let a = c.args in
    let f = a.f in
    let p = a.p in
    ap (λ (s : State). record { at = f.at + p.read; have = f.have; index = f.index + p.frames; state = s; last = f.last; handed = a.handed.size }) c.state_after.ensures
