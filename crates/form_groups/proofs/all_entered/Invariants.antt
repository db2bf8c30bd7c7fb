-- `form_groups::all_entered` meets its contract. The invariant: the carts walked over have entered.
use Rattle.carts.specs.View.{carts_in}
use Rattle.form_tables.proofs.Walks.{Walked}
use Rattle.form_groups.proofs.Entered.{has_entered}
use Rattle.form_groups.proofs.all_entered.Given as goal

abbrev pub invariant-loop-number : goal.invariant-loop-number
invariant-loop-number l = Walked 64 l.set (has_entered (carts_in l.carts).place) l.number-iterator.left
