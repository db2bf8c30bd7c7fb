-- `form_tables::all_past` meets its contract. The invariant: the carts walked over passed.
use Rattle.carts.specs.View.{carts_in}
use Rattle.form_tables.proofs.Walks.{next_above, Walked}
use Rattle.form_tables.proofs.all_past.Given as goal

abbrev pub invariant-loop-number : goal.invariant-loop-number
invariant-loop-number l = Walked l.k l.set (next_above (carts_in l.carts).next l.s l.n) l.number-iterator.left
