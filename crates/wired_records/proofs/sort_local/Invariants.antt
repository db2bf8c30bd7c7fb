-- `wired_records::sort_local` meets its contract.
use Rattle.wired_records.proofs.Walk.{Walked}
use Rattle.wired_records.proofs.sort_local.Given as goal

abbrev pub invariant-loop-cart : goal.invariant-loop-cart
invariant-loop-cart l = Walked l.initial.carts l.carts l.local l.named l.initiator.0 l.number l.cart-iterator.left l.others l.past l.passed
