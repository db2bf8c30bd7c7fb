-- THE RULES OVER A RUN OF FRAMES: the events that the frames are, behind the start that was accepted.
use mathlib.Core.Path.{◌≡◌, refl, sym, ap, ◌∙◌, subst}
use mathlib.Core.List.{List, [], ◌∷◌, ◌++◌}
use Prim.Native.Nat.{ℕ, zero, suc, ◌+◌, ◌<◌}
use lib.ListN.{drop}
use Rattle.protocol.specs.Floor.{Product, Floor, limits, limits_of, just_started}
use Rattle.protocol.specs.Events.{Event, Report, start, accepted}
use Rattle.protocol.specs.Step.{step, answer, floor_after}
use Rattle.protocol.specs.Frames.{Reading, end, refused_frame, taken, frame_of}
use Rattle.protocol.specs.SumRule.{total, gains, taken_away}
use Rattle.protocol.specs.TwoLists.{both_empty, lists_after, owes, TwoListRule}
use Rattle.protocol.proofs.Theorems.{start_afresh, two_list_rule, sum_rule}
use Rattle.frame_run.specs.Piece.{run_from, events_from}

-- the floor that a run of frames leaves is that of their events
pub floor_of_frames : (P : Product) (n : ℕ) (F : Floor) (index : ℕ) (l : List ℕ) → (run_from P n F index l).floor ≡ floor_after (limits_of P) F (events_from n l)
unfolding run_from events_from floor_after
floor_of_frames P zero F index l = refl
floor_of_frames P (suc n) F index l = by (frame_of limits l) refl (λ e size. floor_of_frames P n (step (limits_of P) F e) (suc index) (drop size l))
  where
    by : (r : Reading) → frame_of limits l ≡ r
        → ((e : Event) (size : ℕ) → (run_from P n (step (limits_of P) F e) (suc index) (drop size l)).floor ≡ floor_after (limits_of P) (step (limits_of P) F e) (events_from n (drop size l)))
        → (run_from P (suc n) F index l).floor ≡ floor_after (limits_of P) F (events_from (suc n) l)
    by end q h = rw (q, run_from, events_from) refl
    by (refused_frame r) q h = rw (q, run_from, events_from) refl
    by (taken e size) q h = rw (q, run_from, events_from) (h e size)

-- some events, and then others
after_both : (P : Product) (F : Floor) (a b : List Event) → floor_after (limits_of P) F (a ++ b) ≡ floor_after (limits_of P) (floor_after (limits_of P) F a) b
unfolding floor_after
after_both P F [] b = refl
after_both P F (e ∷ a) b = after_both P (step (limits_of P) F e) a b

-- the events of the frames: some, a start of n stations and k carts that is accepted behind them, and then others
module _ (P : Product) (count : ℕ) (F : Floor) (index : ℕ) (l : List ℕ) (before : List Event) (n k : ℕ) (behind : List Event) (report : Report)
    (events : events_from count l ≡ before ++ (start n k ∷ behind)) (begun : answer (limits_of P) (floor_after (limits_of P) F before) (start n k) ≡ accepted report) where
  started : step (limits_of P) (floor_after (limits_of P) F before) (start n k) ≡ just_started n k
  started = (start_afresh (limits_of P) (floor_after (limits_of P) F before) n k report begun).0

  pub floor_behind : (run_from P count F index l).floor ≡ floor_after (limits_of P) (just_started n k) behind
  unfolding floor_after
  floor_behind =
      floor_of_frames P count F index l ∙ ap (floor_after (limits_of P) F) events ∙ after_both P F before (start n k ∷ behind)
      ∙ ap (λ (X : Floor). floor_after (limits_of P) X behind) started

  -- DEMAND 3 over a run of frames: what the events behind the start sent and received, on the floor that the run left
  pub two_lists_of_frames : (s c : ℕ) → c < k
      → TwoListRule (owes (limits_of P) (run_from P count F index l).floor s c)
      ((lists_after (limits_of P) (just_started n k) both_empty behind).sent s c) ((lists_after (limits_of P) (just_started n k) both_empty behind).received s c)
  two_lists_of_frames s c lc =
      subst (λ (X : Floor). TwoListRule (owes (limits_of P) X s c) ((lists_after (limits_of P) (just_started n k) both_empty behind).sent s c) ((lists_after (limits_of P) (just_started n k) both_empty behind).received s c)) (sym floor_behind)
      (subst (λ (X : Floor). TwoListRule (owes (limits_of P) (floor_after (limits_of P) X behind) s c) ((lists_after (limits_of P) X both_empty behind).sent s c) ((lists_after (limits_of P) X both_empty behind).received s c)) started
      (two_list_rule (limits_of P) (floor_after (limits_of P) F before) n k report begun behind s c lc))

  -- THE SUM RULE over a run of frames: with "the next numbers that retired carts took with them"
  pub sums_of_frames : total (run_from P count F index l).floor + taken_away (limits_of P) (just_started n k) behind ≡ gains (limits_of P) (just_started n k) behind
  sums_of_frames =
      ap (λ (X : Floor). total X + taken_away (limits_of P) (just_started n k) behind) floor_behind
      ∙ subst (λ (X : Floor). total (floor_after (limits_of P) X behind) + taken_away (limits_of P) X behind ≡ gains (limits_of P) X behind) started
      (sum_rule (limits_of P) (floor_after (limits_of P) F before) n k report begun behind)
