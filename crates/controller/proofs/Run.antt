-- A RUN OF CALLS OF THE KIT: the claims about calls, at its product. "the three demands hold for the kit too"
use mathlib.Core.List.{List}
use Prim.Native.Nat.{ℕ, ◌≤◌}
use Rattle.protocol.specs.Floor.{kit, limits_of}
use Rattle.protocol.specs.Events.{Report, start, accepted}
use Rattle.view.specs.View.{lent, Lent, floor_in}
use Rattle.event_answers.specs.Met.{Met}
use Rattle.std.specs.Prelude.{Ok}
use Rattle.dispatcher.specs.Called.{QuietMet}
use Rattle.tested_events.specs.Run.{Call, Calls, left_by, events_of, RunIs, EndsQuiet}
use Rattle.tested_events.proofs.Run.{run_is, ends_quiet}

-- a start of the kit was accepted on whatever was lent (L₀), calls followed, each handed what the last one left
module _ (L₀ : Lent) (S C M W T O : List ℕ) (n k : ℕ) (l : Report) (begun : Met L₀ (lent kit S C M W T O) (start n k) (accepted l))
    (ks : List Call) (calls : Calls (lent kit S C M W T O) ks) where
  pub kit_run_is : RunIs (lent kit S C M W T O) k ks
  kit_run_is = run_is L₀ (lent kit S C M W T O) n k l begun ks calls

  -- and then the floor was run until it is quiet: "at most 208 quiet steps"
  pub kit_ends_quiet : (L' : Lent) (buffer buffer' : List ℕ) (steps : ℕ) → QuietMet (left_by (lent kit S C M W T O) ks) L' buffer buffer' (Ok steps)
      → EndsQuiet (limits_of kit) (floor_in (lent kit S C M W T O)) k (events_of ks) (floor_in L') steps × (steps ≤ 208)
  kit_ends_quiet L' buffer buffer' steps met =
      let here = ends_quiet L₀ (lent kit S C M W T O) n k l begun ks calls L' buffer buffer' steps met in (here, here.bound)
