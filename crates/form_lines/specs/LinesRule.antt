-- THE CLAUSES OF THE FORM RULE THAT LOOK AT THE LINES, as one claim.
use Rattle.std.specs.Prelude.{ℕ}
use Rattle.protocol.specs.Floor.{Limits, limits_of, Floor, is_held}
use Rattle.protocol.specs.Claims.{Claim, is, le, both, when, all}
use Rattle.protocol.specs.Form.{line_rule, order_rule, handoff_rule, ack_rule, is_delete_of, count_line}
use Rattle.view.specs.View.{Lent, line_right, floor_in}

-- one delete at most is on its way to station t
abbrev pub delete_rule : Floor → ℕ → ℕ → Claim
delete_rule F m t = le (count_line (is_delete_of (F.number m)) (F.lines (F.initiator m) t)) 1

-- the form rule's own clauses over the lines, with their parts of the rules of held messages and of copies
abbrev pub lines_rule : Limits → Floor → Claim
lines_rule M F =
    both (all M.columns (λ i. all M.columns (line_rule M F i)))
    (both (all M.columns (λ i. all F.stations (order_rule M F i)))
    (both (all M.carts (λ c. all F.stations (λ i. all F.stations (handoff_rule M F c i))))
    (both (all M.held (λ m. when (is (is_held F m)) (all F.carts (ack_rule M F m))))
    (all M.held (λ m. when (is (is_held F m)) (all F.stations (delete_rule F m)))))))

-- and that every record says its room right
abbrev pub lines_claim : Lent → Claim
lines_claim L = both (all 16 (λ i. all 16 (λ j. is (line_right L i j)))) (lines_rule (limits_of L.product) (floor_in L))
