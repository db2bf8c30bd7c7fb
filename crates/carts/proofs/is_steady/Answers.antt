-- `carts::is_steady` meets its contract.
use Rattle.carts.proofs.TableLaws.{steady_read}
use Rattle.carts.proofs.is_steady.Goals as goal

pub returns : goal.returns
returns c = let a = c.args in steady_read a.carts.now a.number.0
