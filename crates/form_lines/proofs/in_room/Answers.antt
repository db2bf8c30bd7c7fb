-- `form_lines::in_room` meets its contract.
use mathlib.Core.Path.{sym, ◌∙◌}
use borrow.Author.Tests.{leb-false}
use Rattle.messages.specs.View.{rooms_in}
use Rattle.form_lines.proofs.CodeLaws.{high_room, no_room}
use Rattle.form_lines.proofs.in_room.Goals as goal
use Rattle.form_lines.proofs.in_room.Goals.{then-m-ge32-via-then-m-ge32, then-m-ge32-via-else-m-ge32+then-not-has_room}

pub returns-then-m-ge32 : goal.returns-then-m-ge32
returns-then-m-ge32 c =
    let a = c.args in
    elim c.then-m-ge32.branch [
      | then-m-ge32-via-then-m-ge32 w ↦ high_room (rooms_in a.messages.now) a.s a.number a.m w.if-m-ge32.true
      | then-m-ge32-via-else-m-ge32+then-not-has_room w ↦ no_room a.messages.now c.requires a.m a.s a.number (leb-false _ _ (sym w.has_room.ensures ∙ w.if-not-has_room.true))
    ]
