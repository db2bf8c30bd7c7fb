-- A RETIREMENT MEETS ITS EVENT: what the code asks on the way, and what it leaves.
use mathlib.Core.Path.{◌≡◌, refl, sym, ◌∙◌}
use mathlib.Core.Bool.{true, false}
use mathlib.Core.List.{List}
use Prim.Native.Nat.{ℕ, ◌*◌, ◌≤◌, ◌<◌}
use lib.ListN.{length}
use Rattle.protocol.specs.Floor.{Product, limits_of, at}
use Rattle.protocol.specs.Events.{retire}
use Rattle.protocol.specs.Form.{passes_form}
use Rattle.protocol.specs.Refusals.{refusal_if}
use Rattle.protocol.specs.Step.{accept}
use Rattle.protocol.proofs.Accepted.{MayRetire, may_retire}
use Rattle.stations.specs.View.{HasHead, HasStation, head_in}
use Rattle.carts.specs.Words.{HasRow}
use Rattle.carts.specs.View.{carts_in}
use Rattle.queue.specs.Rooms.{room_count}
use Rattle.view.specs.View.{Lent, lent, floor_in}
use Rattle.view.proofs.Standing.{Standing, standing, few_carts}
use Rattle.handoff.specs.Retired.{Retired}
use Rattle.handoff.proofs.ArriveIs.{all_rooms}
use Rattle.handoff.proofs.RetireIs.{retire_ready, retire_is, retire_reports}
use Rattle.reports.specs.declared.Effect.{Effect}
use Rattle.reports.specs.Effects.{nothing}
use Rattle.event_answers.specs.Answers.{says}
use Rattle.event_answers.specs.Met.{Met}
use Rattle.event_answers.proofs.Meets.{refusal_standing, checks_ready, meets_done, meets_counted}

module _ (P : Product) (S C M W T O : List ℕ) (p : passes_form (limits_of P) (floor_in (lent P S C M W T O)) ≡ true) where
  abbrev L : Lent
  L = lent P S C M W T O

  X : Standing L
  X = standing L p

  pub checks_asked : HasHead S × ((head_in S).carts * 19 ≤ length C) × ((head_in S).carts ≤ 64)
  checks_asked = let a = checks_ready L p in (a.0, a.1, few_carts L X)

  -- the messages' table has the product's rooms
  pub rooms_are : room_count M ≡ P.held
  rooms_are = all_rooms L X

  module _ (c : ℕ) (free : 0 ≡ refusal_if (limits_of P) (floor_in L) false (retire c)) where
    may : MayRetire (limits_of P) (floor_in L) c
    may = may_retire (limits_of P) (floor_in L) false c (sym free)

    -- the station that the code found the cart at
    module _ (t : ℕ) (here : (carts_in C).place c ≡ at t) where
      pub retire_asks : HasStation S t × HasRow C c × (c < 64)
      retire_asks = retire_ready L X c may t here

      pub meets_retire : (S' C' : List ℕ) (f : Effect) → Retired S S' C C' c t → f ≡ nothing → Met L (lent P S' C' M W T O) (retire c) (says 10 c 0 f)
      unfolding accept
      meets_retire S' C' f gone counted =
          meets_counted L (lent P S' C' M W T O) (retire c) 10 c 0 f nothing counted
          (meets_done L (retire c) (lent P S' C' M W T O) _ refl (refusal_standing L (retire c) p ∙ sym free)
          (retire_is S S' C C' M W T O c t X here gone) (sym (retire_reports (floor_in L) c)))
