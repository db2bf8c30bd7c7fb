use mathlib.Core.Path.{◌≡◌, subst}
use mathlib.Core.List.{[]}
use Prim.Native.Nat.{ℕ, ◌+◌, ◌*◌}
use native.Mathlib.Omega.{arith}
use lib.ListN.{length, take, set, length-set}
use Rattle.protocol.specs.Printed.{hexadecimal}
use Rattle.frame_lines.specs.Lines.{Wrote, long_digits}
use Rattle.frame_lines.proofs.Numbers.{hex_none, hex_stored}
use Rattle.frame_lines.proofs.Fields.{text_long}
use Rattle.frame_lines.proofs.put_long_text.Goals as goal

pub bounds-out-at : goal.bounds-out-at
bounds-out-at c = omega arith

pub loop-i-init : goal.loop-i-init
loop-i-init c =
    let a = c.args in
    let none : a.at + 1 ≡ a.at + 1 + 0 = omega arith in
    (omega arith, simp length-set (omega arith), subst (λ (n : ℕ). Wrote long_digits (hexadecimal []) (set a.out.now a.at 32) (set a.out.now a.at 32) (a.at + 1) n) none (hex_none long_digits a.text.now _ (a.at + 1)))

pub bounds-text-i : goal.bounds-text-i
bounds-text-i c = omega arith

pub digit-requires : goal.digit-requires
digit-requires c = omega arith

pub bounds-out-next : goal.bounds-out-next
bounds-out-next c = let z = c.loop-i.invariant.2.kept in omega arith

pub digit-requires-in-loop-i : goal.digit-requires-in-loop-i
digit-requires-in-loop-i c = omega arith

pub bounds-out-next-in-loop-i : goal.bounds-out-next-in-loop-i
bounds-out-next-in-loop-i c = simp length-set (let z = c.loop-i.invariant.2.kept in omega arith)

pub loop-i-preserved : goal.loop-i-preserved
loop-i-preserved c =
    let a = c.args in
    let v = c.loop-i in
    let more =
    hex_stored long_digits a.text.now _ v.out (a.at + 1) v.i (a.at + 1 + 2 * v.i) (a.at + 1 + 2 * (v.i + 1)) c.from-x.result c.digit.result c.digit-in-loop-i.result
    (omega arith) (omega arith) (omega arith) (omega arith) c.from-x.ensures c.digit.ensures c.digit-in-loop-i.ensures v.invariant.2 in
    (omega arith, v.invariant.1, more)

pub returns : goal.returns
returns c =
    let a = c.args in
    let v = c.loop-i in
    let all : v.i ≡ length a.text.now = omega arith in
    text_long a.text.now a.out.now v.out a.at v.i _ all (omega arith) (omega arith)
    (subst (λ (n : ℕ). Wrote long_digits (hexadecimal (take v.i a.text.now)) (set a.out.now a.at 32) v.out (a.at + 1) (a.at + 1 + 2 * n)) all v.invariant.2)

pub shape_of-out : goal.shape_of-out
shape_of-out c = (returns c).kept
