-- `tested_events::text_of` meets its contract.
use mathlib.Core.Path.{ap, ◌∙◌}
use borrow.Author.Rules.{rules}
use Rattle.products.proofs.Numbers.{product_of, its_numbers}
use Rattle.reading.specs.Parts.{part_in}
use Rattle.reading.proofs.PartLaws.{read_lies, text_lent}
use Rattle.tested_events.proofs.text_of.Goals as goal

pub lend-requires : goal.lend-requires
lend-requires c =
    let a = c.args in
    read_lies (product_of a.bounds c.requires) a.stations.now a.carts.now a.messages.now a.lines.now a.texts a.store a.initiator.0 a.number.0 _
    (c.part_or_front-part.ensures ∙ ap part_in (c.read-found.ensures _ (its_numbers a.bounds c.requires)))

pub returns : goal.returns
returns c P e =
    let a = c.args in
    text_lent P a.stations.now a.carts.now a.messages.now a.lines.now a.texts a.store a.initiator.0 a.number.0 _ (c.part_or_front-part.ensures ∙ ap part_in (c.read-found.ensures P e)) _ c.lend.ensures
