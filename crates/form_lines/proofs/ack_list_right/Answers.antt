-- `form_lines::ack_list_right` meets its contract.
use mathlib.Core.Path.{sym, ◌∙◌}
use borrow.Author.Tests.{lt-ltb}
use Rattle.form_lines.proofs.CodeLaws.{last_of, set_below}
use Rattle.form_lines.proofs.ack_list_right.Goals as goal

pub returns-then-carts-gt0 : goal.returns-then-carts-gt0
returns-then-carts-gt0 c =
    last_of _ _ _ _ (sym c.in_room.ensures ∙ c.if-in_room.true) (lt-ltb 0 c.args.carts c.if-carts-gt0.true) (set_below c.args.k c.args.carts c.all_below-all.result c.all_below-all.ensures)
