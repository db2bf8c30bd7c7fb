-- A MOVE MEETS ITS EVENT: what the code asks on the way, and what it leaves.
use mathlib.Core.Path.{◌≡◌, refl, sym, ◌∙◌}
use mathlib.Core.Bool.{true, false}
use mathlib.Core.List.{List}
use Prim.Native.Nat.{ℕ, ◌<◌}
use Rattle.protocol.specs.Floor.{Product, limits_of, at}
use Rattle.protocol.specs.Events.{move}
use Rattle.protocol.specs.Form.{passes_form}
use Rattle.protocol.specs.Refusals.{refusal_if}
use Rattle.protocol.specs.Step.{accept}
use Rattle.protocol.proofs.Accepted.{MayMove, may_move}
use Rattle.carts.specs.Words.{HasRow}
use Rattle.carts.specs.View.{carts_in}
use Rattle.lines.specs.Form.{form}
use Rattle.lines.specs.Lines.{used}
use Rattle.lines.specs.Words.{capacity}
use Rattle.view.specs.View.{Lent, lent, floor_in}
use Rattle.view.proofs.Standing.{Standing, standing}
use Rattle.handoff.specs.Moved.{Moved}
use Rattle.handoff.proofs.MoveIs.{move_ready, deregister_fits, move_is, move_reports}
use Rattle.reports.specs.declared.Effect.{Effect}
use Rattle.reports.specs.Effects.{putting}
use Rattle.event_answers.specs.Answers.{says}
use Rattle.event_answers.specs.Met.{Met}
use Rattle.event_answers.proofs.Meets.{refusal_standing, meets_done, meets_counted}

module _ (P : Product) (S C M W T O : List ℕ) (c to : ℕ) (p : passes_form (limits_of P) (floor_in (lent P S C M W T O)) ≡ true) (free : 0 ≡ refusal_if (limits_of P) (floor_in (lent P S C M W T O)) false (move c to)) where
  abbrev L : Lent
  L = lent P S C M W T O

  X : Standing L
  X = standing L p

  may : MayMove (floor_in L) c to
  may = may_move (limits_of P) (floor_in L) false c to (sym free)

  -- the station that the code found the cart at
  module _ (old : ℕ) (here : (carts_in C).place c ≡ at old) where
    pub move_asks : (HasRow C c × (c < 64) × ((carts_in C).place c ≡ at old)) × ((form W ≡ true) × (used W < capacity W) × (old < 16) × (to < 16))
    move_asks = (move_ready L X c to may old here, deregister_fits L X c to may old here)

    pub meets_move : (C' W' : List ℕ) (f : Effect) → Moved C C' W W' c old to → f ≡ putting 1 → Met L (lent P S C' M W' T O) (move c to) (says 5 c to f)
    unfolding accept
    meets_move C' W' f moved counted =
        let a = move_asks in
        meets_counted L (lent P S C' M W' T O) (move c to) 5 c to f (putting 1) counted
        (meets_done L (move c to) (lent P S C' M W' T O) _ refl (refusal_standing L (move c to) p ∙ sym free)
        (move_is S C C' M W W' T O c old to X a.0.1 a.1.2 a.1.3 here moved) (sym (move_reports (floor_in L) c to)))
