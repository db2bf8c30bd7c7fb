-- `form_lines::acked_by` meets its contract.
use mathlib.Core.Path.{sym, ◌∙◌}
use borrow.Author.Tests.{leb-false}
use Rattle.form_lines.proofs.CodeLaws.{none_acked}
use Rattle.form_lines.proofs.acked_by.Goals as goal

pub returns-else-has_room : goal.returns-else-has_room
returns-else-has_room c = none_acked c.args.messages.now c.requires.0 c.args.m (leb-false _ _ (sym c.has_room.ensures ∙ c.if-has_room.false))
