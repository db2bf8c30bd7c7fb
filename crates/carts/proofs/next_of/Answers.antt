-- `carts::next_of` meets its contract.
use mathlib.Core.Path.{refl}
use native.Mathlib.Omega.{arith}
use Rattle.carts.proofs.TableLaws.{next_read}
use Rattle.carts.proofs.next_of.Goals as goal

pub returns : goal.returns
returns c = next_read c.args.carts.now c.args.number.0 c.args.initiator.0 _ (omega arith) refl
