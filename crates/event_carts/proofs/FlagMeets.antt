-- A FLAG MEETS ITS EVENT: what the code asks on the way, and what it leaves.
use mathlib.Core.Path.{◌≡◌, refl, sym, ◌∙◌}
use mathlib.Core.Bool.{Bool, true, false, cond}
use mathlib.Core.List.{List}
use Prim.Native.Nat.{ℕ}
use Rattle.protocol.specs.Floor.{Product, limits_of}
use Rattle.protocol.specs.Events.{flag}
use Rattle.protocol.specs.Form.{passes_form}
use Rattle.protocol.specs.Refusals.{refusal_if}
use Rattle.protocol.specs.Step.{accept}
use Rattle.protocol.proofs.Accepted.{MayFlag, may_flag}
use Rattle.carts.specs.Words.{HasRow}
use Rattle.view.specs.View.{Lent, lent, floor_in}
use Rattle.view.proofs.Standing.{Standing, standing}
use Rattle.handoff.specs.Flagged.{Flagged}
use Rattle.handoff.proofs.FlagIs.{flag_ready, flag_is, flag_reports}
use Rattle.reports.specs.declared.Effect.{Effect}
use Rattle.reports.specs.Effects.{nothing}
use Rattle.event_answers.specs.Answers.{says}
use Rattle.event_answers.specs.Met.{Met}
use Rattle.event_answers.proofs.Meets.{refusal_standing, meets_done, meets_counted}

module _ (P : Product) (S C M W T O : List ℕ) (c : ℕ) (b : Bool) (p : passes_form (limits_of P) (floor_in (lent P S C M W T O)) ≡ true) (free : 0 ≡ refusal_if (limits_of P) (floor_in (lent P S C M W T O)) false (flag c b)) where
  abbrev L : Lent
  L = lent P S C M W T O

  X : Standing L
  X = standing L p

  may : MayFlag (floor_in L) c
  may = may_flag (limits_of P) (floor_in L) false c b (sym free)

  pub has_row : HasRow C c
  has_row = flag_ready L X c may

  pub meets_flag : (C' : List ℕ) (f : Effect) → Flagged C C' c b → f ≡ nothing → Met L (lent P S C' M W T O) (flag c b) (says 6 c (cond b 1 0) f)
  unfolding accept
  meets_flag C' f flagged counted =
      meets_counted L (lent P S C' M W T O) (flag c b) 6 c (cond b 1 0) f nothing counted
      (meets_done L (flag c b) (lent P S C' M W T O) _ refl (refusal_standing L (flag c b) p ∙ sym free)
      (flag_is S C C' M W T O c b X flagged) (sym (flag_reports (floor_in L) c b)))
