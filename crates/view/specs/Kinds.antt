-- THE KINDS OF RECORDS by their numbers: "multicast (1), ack list (2), delete (3), deregister (4), register (5)".
use Rattle.std.specs.Prelude.{cond, ℕ, eqb, Option, None, Some}
use Rattle.view.specs.declared.Kind.{Kind}
use Rattle.view.specs.declared.Kind.TheVariants.{Multicast, AckList, Delete, Deregister, Register}

-- a kind's number
abbrev pub number_said : Kind → ℕ
number_said Multicast = 1
number_said AckList = 2
number_said Delete = 3
number_said Deregister = 4
number_said Register = 5

-- the kind with a number
abbrev pub kind_said : ℕ → Option Kind
kind_said n =
    cond (eqb n 1) (Some Multicast)
    (cond (eqb n 2) (Some AckList)
    (cond (eqb n 3) (Some Delete)
    (cond (eqb n 4) (Some Deregister)
    (cond (eqb n 5) (Some Register) None))))
