-- `form_tables::all_next` meets its contract. The invariant: the carts walked over passed.
use Rattle.carts.specs.View.{carts_in}
use Rattle.form_tables.proofs.Walks.{next_is, Walked}
use Rattle.form_tables.proofs.all_next.Given as goal

abbrev pub invariant-loop-number : goal.invariant-loop-number
invariant-loop-number l = Walked 64 l.set (next_is (carts_in l.carts).next l.s l.n) l.number-iterator.left
