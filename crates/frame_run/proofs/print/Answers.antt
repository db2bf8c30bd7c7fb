-- `frame_run::print` meets its contract.
use mathlib.Core.Path.{subst}
use Prim.Native.Nat.{ℕ}
use native.Mathlib.Omega.{arith}
use Rattle.protocol.specs.Events.{refused}
use Rattle.protocol.specs.Printed.{rest_of}
use Rattle.frame_lines.specs.Lines.{Wrote, short_rest}
use Rattle.frame_run.proofs.Events.{lies, ends_refused, ends_accepted, long_asks, ends_long}
use Rattle.frame_run.proofs.print.Goals as goal

pub text_of-text-requires : goal.text_of-text-requires
text_of-text-requires c =
    let a = c.args in
    (lies a.messages.now a.texts.now a.store.now a.dispatched a.out.now a.out.now a.dispatched.next a.dispatched.next c.in-Ok.done c.in-Ok.is c.requires.1).parts (omega (arith, c.if-done-gt-TEXT.true))

pub end_accepted_long-requires : goal.end_accepted_long-requires
end_accepted_long-requires c =
    let a = c.args in
    let few = long_asks a.messages.now a.texts.now a.store.now a.dispatched a.out.now a.out.now a.dispatched.next a.dispatched.next c.in-Ok.done c.in-Ok.is c.requires.1 c.if-done-gt-TEXT.true _ c.text_of-text.ensures in
    (c.requires.0, few.0, few.1)

pub returns-then-done-gt-TEXT : goal.returns-then-done-gt-TEXT
returns-then-done-gt-TEXT c =
    let a = c.args in
    ends_long a.messages.now a.texts.now a.store.now a.dispatched _ _ a.dispatched.next _ c.in-Ok.done c.in-Ok.is c.requires.1 c.if-done-gt-TEXT.true _ c.text_of-text.ensures c.end_accepted_long.ensures

pub slice_bounds-end_accepted-end : goal.slice_bounds-end_accepted-end
slice_bounds-end_accepted-end c =
    let a = c.args in
    omega (arith, (lies a.messages.now a.texts.now a.store.now a.dispatched a.out.now a.out.now a.dispatched.next a.dispatched.next c.in-Ok.done c.in-Ok.is c.requires.1).part)

pub returns-else-done-gt-TEXT : goal.returns-else-done-gt-TEXT
returns-else-done-gt-TEXT c =
    let a = c.args in
    ends_accepted a.messages.now a.texts.now a.store.now a.dispatched _ _ a.dispatched.next _ c.in-Ok.done c.in-Ok.is c.requires.1 c.if-done-gt-TEXT.false c.end_accepted.ensures

pub returns-in-Err : goal.returns-in-Err
returns-in-Err c =
    let a = c.args in
    ends_refused a.messages.now a.texts.now a.store.now a.dispatched a.out.now c.end_refused.new.out a.dispatched.next c.end_refused.result c.in-Err.refusal c.in-Err.is
    (subst (λ (n : ℕ). Wrote short_rest (rest_of (refused n)) a.out.now c.end_refused.new.out a.dispatched.next c.end_refused.result) c.number.ensures c.end_refused.ensures)
