-- `mekhturia::put_progress` meets its contract.
use mathlib.Core.Path.{ap}
use Prim.Native.Nat.{ℕ}
use native.Mathlib.Omega.{arith}
use lib.ListN.{set, length-set}
use borrow.Author.Rules.{rules}
use Rattle.mekhturia.proofs.put_progress.Goals as goal

pub bounds-out-1 : goal.bounds-out-1
bounds-out-1 c = simp length-set (omega arith)

pub bounds-out-2 : goal.bounds-out-2
bounds-out-2 c = simp length-set (omega arith)

pub bounds-out-3 : goal.bounds-out-3
bounds-out-3 c = simp length-set (omega arith)

pub returns : goal.returns
returns c =
    record {
      out_after = ap (λ (n : ℕ). set (set (set (set c.args.out.now 0 n) 1 c.args.p.read) 2 c.args.p.written) 3 c.args.p.frames) c.number.ensures;
      out_len_unchanged = simp length-set;
    }
