-- THE FLOOR'S MEMORY, lent as one.
use Rattle.protocol.specs.Floor.{whole_floor}
use Rattle.view.specs.View.{Lent, lent}
use Rattle.training_stream.specs.declared.FloorMemory.{FloorMemory}

-- the lent parts that it is
abbrev pub lent_in : FloorMemory → Lent
lent_in f = lent whole_floor f.stations f.carts f.messages f.lines f.texts f.store
