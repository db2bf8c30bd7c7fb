-- `carts::put_next` meets its contract.
use mathlib.Core.Path.{refl}
use native.Mathlib.Omega.{arith}
use lib.ListN.{length-set}
use Rattle.carts.proofs.TableLaws.{next_put, next_put_canonical}
use Rattle.carts.proofs.put_next.Goals as goal

pub returns : goal.returns
returns c =
    let a = c.args in
    record {
      carts_after = next_put a.carts.now a.number.0 a.initiator.0 a.next _ (omega arith) (omega arith) refl;
      carts_unchanged = next_put_canonical a.carts.now a.number.0 a.initiator.0 a.next _ (omega arith) (omega arith) refl;
      carts_len_unchanged = simp length-set;
    }
