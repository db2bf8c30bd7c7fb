-- `reading::part_of` meets its contract.
use Rattle.messages.specs.View.{rooms_in}
use Rattle.reading.proofs.PartLaws.{short_part, long_part}
use Rattle.reading.proofs.part_of.Goals as goal

pub returns-then-octets-le-TEXT : goal.returns-then-octets-le-TEXT
returns-then-octets-le-TEXT c =
    let a = c.args in
    short_part (rooms_in a.messages.now) a.m _ c.length_of-octets.ensures c.if-octets-le-TEXT.true

pub returns : goal.returns
returns c =
    let a = c.args in
    long_part (rooms_in a.messages.now) a.m _ c.length_of-octets.ensures c.if-octets-le-TEXT.false _ c.offset_of.ensures
