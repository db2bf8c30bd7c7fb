-- AN ENTER MEETS ITS EVENT: what the code asks on the way, and what it leaves.
use mathlib.Core.Path.{◌≡◌, refl, sym, ◌∙◌}
use mathlib.Core.Bool.{true, false}
use mathlib.Core.List.{List}
use Prim.Native.Nat.{ℕ, ◌<◌, ◌≤◌}
use Rattle.protocol.specs.Floor.{Product, limits_of}
use Rattle.protocol.specs.Events.{enter}
use Rattle.protocol.specs.Form.{passes_form}
use Rattle.protocol.specs.Refusals.{refusal_if}
use Rattle.protocol.specs.Step.{accept}
use Rattle.protocol.proofs.Accepted.{MayEnter, may_enter}
use Rattle.protocol.specs.CartSets.{has}
use Rattle.stations.specs.View.{HasStation, stations_in, naming_in}
use Rattle.carts.specs.Words.{HasRow}
use Rattle.queue.specs.Rooms.{room_count, HasRooms}
use Rattle.view.specs.View.{Lent, lent, floor_in}
use Rattle.view.proofs.Standing.{Standing, standing}
use Rattle.handoff.specs.Arrived.{Entered}
use Rattle.handoff.proofs.EnterIs.{enter_ready, enter_fits, enter_rooms, enter_is, enter_reports}
use Rattle.reports.specs.declared.Effect.{Effect}
use Rattle.reports.specs.Effects.{queueing}
use Rattle.event_answers.specs.Answers.{says}
use Rattle.event_answers.specs.Met.{Met}
use Rattle.event_answers.proofs.Meets.{refusal_standing, meets_done, meets_counted}

module _ (P : Product) (S C M W T O : List ℕ) (t c : ℕ) (p : passes_form (limits_of P) (floor_in (lent P S C M W T O)) ≡ true) (free : 0 ≡ refusal_if (limits_of P) (floor_in (lent P S C M W T O)) false (enter t c)) where
  abbrev L : Lent
  L = lent P S C M W T O

  X : Standing L
  X = standing L p

  may : MayEnter (floor_in L) t c
  may = may_enter (limits_of P) (floor_in L) false t c (sym free)

  pub enter_asks : (HasStation S t × HasRow C c × HasRooms M × (t < 16) × (c < 64)) × (((s : ℕ) → s < 16 → (stations_in S).expected t s ≤ 4294967295) × ((m : ℕ) → has (naming_in (stations_in S) t c) m ≡ true → m < room_count M))
  enter_asks = (enter_ready L X t c may, (enter_fits L X t c may, enter_rooms L X t c may))

  pub meets_enter : (S' C' : List ℕ) (f : Effect) → Entered S S' C C' M t c f.passed f.place → f ≡ queueing f.passed f.place
      → Met L (lent P S' C' M W T O) (enter t c) (says 1 t c f)
  unfolding accept
  meets_enter S' C' f entered counted =
      meets_counted L (lent P S' C' M W T O) (enter t c) 1 t c f (queueing f.passed f.place) counted
      (meets_done L (enter t c) (lent P S' C' M W T O) _ refl (refusal_standing L (enter t c) p ∙ sym free)
      (enter_is S S' C C' M W T O t c f.passed f.place X may entered) (sym (enter_reports S S' C C' M W T O t c f.passed f.place X may entered)))
