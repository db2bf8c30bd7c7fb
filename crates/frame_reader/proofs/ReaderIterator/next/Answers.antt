-- A step of a reader is in the octets, and leaves fewer behind it.
use mathlib.Core.Path.{◌≡◌, ap, sym, ◌∙◌}
use Prim.{tt}
use native.Mathlib.Omega.{arith}
use Prim.Native.Nat.{◌+◌, ◌-◌, ◌<◌}
use lib.ListN.{length, drop}
use Rattle.std.specs.Prelude.{Ok, Some}
use Rattle.protocol.specs.Floor.{limits}
use Rattle.protocol.specs.Frames.{read_at}
use Rattle.frames.specs.Decoded.{reading_in}
use Rattle.frames.proofs.Values.{event_inside}
use Rattle.frame_reader.proofs.Stream.{read_some}
use Rattle.frame_reader.proofs.ReaderIterator.next.Goals as goal

pub size_of-requires : goal.size_of-requires
size_of-requires c =
    let r = c.args.self.now in
    let z = event_inside r.octets.now r.at c.frame_at.result c.frame_at.ensures _ (c.in-Ok-Some.is ∙ ap Ok c.in-Ok-Some.field-0-is) in
    omega arith

pub overflow_add-self : goal.overflow_add-self
overflow_add-self c =
    let r = c.args.self.now in
    let z = event_inside r.octets.now r.at c.frame_at.result c.frame_at.ensures _ (c.in-Ok-Some.is ∙ ap Ok c.in-Ok-Some.field-0-is) in
    omega arith

pub returns-clause-goes : goal.returns-clause-goes
returns-clause-goes c =
    let r = c.args.self.now in
    let is = c.in-Ok-Some.is ∙ ap Ok c.in-Ok-Some.field-0-is in
    let z = event_inside r.octets.now r.at c.frame_at.result c.frame_at.ensures _ is in
    let read : reading_in (drop r.at r.octets.now) (Ok (Some c.in-Ok-Some.e)) ≡ read_at limits r.octets.now r.at = ap (reading_in (drop r.at r.octets.now)) (sym is) ∙ c.frame_at.ensures in
    let some = read_some r.octets.now r.at _ _ (sym read) in
    let left : length r.octets.now - (r.at + c.size_of.result) < length r.octets.now - r.at = omega arith in
    record { on = λ _. (tt, tt, left); keeps = tt; rests = λ _. tt }
