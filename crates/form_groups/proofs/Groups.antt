-- THE GROUPS' CLAUSE, of all groups together: the carts that are in any of them.
use mathlib.Core.Path.{◌≡◌, ◌∙◌}
use mathlib.Core.Bool.{Bool, true, false}
use mathlib.Core.List.{List, []}
use Prim.Native.Nat.{ℕ, ◌^◌, ◌≤◌, ◌<◌}
use native.Mathlib.Omega.{arith}
use Rattle.protocol.specs.CartSets.{set_of}
use Rattle.protocol.specs.Floor.{Floor, limits}
use Rattle.protocol.specs.Groups.{group_count}
use Rattle.protocol.specs.Claims.{Claim, True, test, all}
use Rattle.protocol.specs.Form.{group_rule}
use Rattle.protocol.proofs.SetLaws.{member_below}
use Rattle.stations.specs.View.{head_in}
use Rattle.carts.specs.View.{carts_in}
use Rattle.form_tables.specs.Tables.{tables}
use Rattle.form_tables.specs.Parts.{Collects}
use Rattle.protocol.proofs.Answers.{no, same_answer}
use Rattle.form_tables.proofs.Queues.{members_lt}
use Rattle.form_groups.proofs.Entered.{all_entered, within_all, beyond_all}

module _ (S C : List ℕ) (grouped most : ℕ) (E : Collects (head_in S).groups group_count grouped) (e : most ≡ set_of (head_in S).carts (λ c. true)) where
  abbrev F : Floor
  F = tables S C []

  abbrev rule : Claim
  rule = all group_count (group_rule limits F)

  -- where each group is of the floor, so are all members together
  small : True rule → grouped < 2 ^ F.carts
  small h = members_lt F.carts grouped (λ c q. let w = E.of c q in member_below F.carts (F.groups w.0) c (h w.0 w.1).0 w.2)

  pub groups_strange : most < grouped → false ≡ test rule
  groups_strange l = no rule (λ h. let a = small h in let b = beyond_all F.carts grouped most e l in omega arith)

  -- else it rests on the walk over them
  pub groups_walked : grouped ≤ most → F.carts ≤ 64 → (r : Bool) → r ≡ test (all_entered (carts_in C).place 64 grouped) → r ≡ test rule
  groups_walked l few r walked =
      walked ∙ same_answer (all_entered (carts_in C).place 64 grouped) rule
      (λ h g lg. (
        members_lt F.carts (F.groups g) (λ c q. member_below F.carts grouped c inside (E.had g c lg q)),
        λ c lc q. h c (omega arith) (E.had g c lg q),
      ))
      (λ h c lc q. let w = E.of c q in (h w.0 w.1).1 c (member_below F.carts grouped c inside q) w.2)
    where
      inside : grouped < 2 ^ F.carts
      inside = within_all F.carts grouped most e l
