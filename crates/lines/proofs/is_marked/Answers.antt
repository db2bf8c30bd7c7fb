-- `lines::is_marked` meets its contract. A bit of a row of words.
use Rattle.protocol.specs.CartSets.{has}
use Rattle.lines.specs.Bits.{bit_at}
use Rattle.lines.proofs.is_marked.Goals as goal

pub returns : goal.returns
unfolding bit_at has
returns c = c.has.ensures
