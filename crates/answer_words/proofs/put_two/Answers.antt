-- `answer_words::put_two` meets its contract.
use mathlib.Core.Path.{refl}
use native.Mathlib.Omega.{arith}
use lib.ListN.{length-set}
use Rattle.answer_words.proofs.put_two.Goals as goal

pub bounds-out-1 : goal.bounds-out-1
bounds-out-1 c = simp length-set (omega arith)

pub returns : goal.returns
returns c =
    record {
      out_after = refl;
      out_len_unchanged = simp length-set;
    }
