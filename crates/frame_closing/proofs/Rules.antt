-- WHAT THE CLOSING LINE SAYS of an input in which a start was accepted: how many steps at most, and that nothing is held if every cart is steady.
use mathlib.Core.Path.{◌≡◌, refl, sym, ap, ◌∙◌, subst}
use mathlib.Core.Bool.{Bool, false, cond}
use mathlib.Core.List.{List, ◌∷◌, ◌++◌}
use Prim.Native.Nat.{ℕ, zero, suc, ◌<◌, ◌≤◌}
use native.Mathlib.Omega.{arith}
use Rattle.protocol.specs.Folds.{count}
use Rattle.protocol.specs.Floor.{Floor, whole_floor, limits, is_held}
use Rattle.protocol.specs.Events.{Event, Report, start, accepted}
use Rattle.protocol.specs.Step.{step, answer, floor_after}
use Rattle.protocol.specs.Quiet.{AllSteady, most_steps, quiet_after, quiet_events, quiet_steps, quiet_floor}
use Rattle.protocol.specs.Closing.{held_count, closing_line}
use Rattle.protocol.proofs.LiveRun.{floor_after_more}
use Rattle.protocol.proofs.Theorems.{form_reached, reached_quiet_bound, quiet_holds_none}
use Rattle.frame_run.specs.Piece.{events_from}
use Rattle.frame_run.specs.CanRun.{Unstarted}
use Rattle.frame_stream.specs.Stream.{begin, Turn, Turns, stream_after, brought_by, Behind}
use Rattle.frame_stream.proofs.Stream.{stream_is}
use Rattle.frame_closing.specs.Closed.{answer_line}
use Rattle.frame_closing.proofs.Lines.{line_quiet}

-- none passes, and none is counted
none_counted : (n : ℕ) (f : ℕ → Bool) → ((m : ℕ) → m < n → f m ≡ false) → count n f ≡ 0
unfolding count
none_counted zero f h = refl
none_counted (suc n) f h =
    let rest = none_counted n f (λ m l. h m (omega arith)) in
    let last : ◌≡◌ {A = ℕ} (cond (f n) 1 0) 0 = ap (λ (b : Bool). cond {A = ℕ} b 1 0) (h n (omega arith)) in
    omega arith

-- its steps are those of the bound
steps_few : (G : Floor) (n k : ℕ) (l : Report) → answer limits G (start n k) ≡ accepted l → (es : List Event)
    → quiet_steps limits (floor_after limits (step limits G (start n k)) es) ≤ 5248
unfolding quiet_events
steps_few G n k l a es = reached_quiet_bound limits G n k l a es (most_steps limits)

module _ (F : Floor) (U : Unstarted F) (ts : List Turn) (made : Turns (begin whole_floor F) ts) (later : List ℕ) (still : Behind (stream_after (begin whole_floor F) ts) later)
    (before : List Event) (n k : ℕ) (behind : List Event) (report : Report)
    (events : events_from (stream_after (begin whole_floor F) ts).index (brought_by ts ++ later) ≡ before ++ (start n k ∷ behind))
    (begun : answer limits (floor_after limits F before) (start n k) ≡ accepted report) where
  -- the floor at the end of the input
  abbrev X : Floor
  X = (stream_after (begin whole_floor F) ts).floor

  abbrev Y : Floor
  Y = floor_after limits (step limits (floor_after limits F before) (start n k)) behind

  reached : X ≡ Y
  unfolding floor_after
  reached =
      (stream_is whole_floor F U ts made).floor later still
      ∙ ap (floor_after limits F) events
      ∙ floor_after_more limits F before (start n k ∷ behind)

  -- "That count is at most 5,248", and the line says it and how many are held
  pub closes_soon : (closing_line limits X ≡ answer_line (quiet_after (quiet_steps limits X)) (held_count limits (quiet_floor limits X))) × (quiet_steps limits X ≤ 5248)
  closes_soon =
      subst (λ (Z : Floor). (closing_line limits Z ≡ answer_line (quiet_after (quiet_steps limits Z)) (held_count limits (quiet_floor limits Z))) × (quiet_steps limits Z ≤ 5248)) (sym reached)
      (line_quiet Y (form_reached limits (floor_after limits F before) n k report begun behind).1, steps_few (floor_after limits F before) n k report begun behind)

  -- and none is, where "no entered cart is unsteady"
  pub closes_empty : AllSteady X → held_count limits (quiet_floor limits X) ≡ 0
  closes_empty steady =
      ap (λ (Z : Floor). held_count limits (quiet_floor limits Z)) reached
      ∙ none_counted 32 (is_held (quiet_floor limits Y))
      (quiet_holds_none limits (floor_after limits F before) n k report begun behind (subst (λ (Z : Floor). AllSteady Z) reached steady))
