use mathlib.Core.Path.{refl}
use native.Mathlib.Omega.{arith}
use lib.ListN.{drop, length-set}
use lib.Seq.{paste-zero}
use Rattle.frame_lines.proofs.Octets.{part_more, part_copied}
use Rattle.frame_lines.proofs.copy_part.Goals as goal

pub loop-k-init : goal.loop-k-init
loop-k-init c = let a = c.args in (omega arith, refl, paste-zero a.out.now a.at (drop a.first a.from.now))

pub overflow_add-out : goal.overflow_add-out
overflow_add-out c = omega arith

pub bounds-from-first : goal.bounds-from-first
bounds-from-first c = omega arith

pub overflow_add-out-in-loop-k : goal.overflow_add-out-in-loop-k
overflow_add-out-in-loop-k c = omega arith

pub bounds-out-at : goal.bounds-out-at
bounds-out-at c = omega arith

pub loop-k-preserved : goal.loop-k-preserved
loop-k-preserved c =
    let a = c.args in
    let v = c.loop-k in
    let more = part_more a.out.now v.out a.from.now a.at a.first v.k (omega arith) (omega arith) v.invariant.2 in
    (omega arith, simp length-set v.invariant.1, more)

pub shape_of-out : goal.shape_of-out
shape_of-out c = c.loop-k.invariant.1

pub returns : goal.returns
returns c =
    let a = c.args in
    let v = c.loop-k in
    part_copied a.out.now v.out a.from.now a.at a.first v.k a.count (omega arith) (omega arith) v.invariant.2
