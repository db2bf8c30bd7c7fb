-- THE RULES OVER THE WHOLE RUN: of the events that the frames of an input are, behind the start that was accepted, on the floor that any list of turns
-- left.
use mathlib.Core.Path.{◌≡◌, sym, ap, ◌∙◌, subst}
use mathlib.Core.Bool.{true, false}
use mathlib.Core.List.{List, ◌∷◌, ◌++◌}
use Prim.Native.Nat.{ℕ, ◌+◌, ◌<◌}
use Rattle.protocol.specs.Floor.{Product, Floor, limits_of, just_started, is_held}
use Rattle.protocol.specs.Events.{Event, Report, start, accepted}
use Rattle.protocol.specs.Step.{answer, floor_after}
use Rattle.protocol.specs.SumRule.{total, gains, taken_away}
use Rattle.protocol.specs.Route.{sendings_of, retires_none}
use Rattle.protocol.specs.TwoLists.{both_empty, lists_after, owes, TwoListRule}
use Rattle.protocol.proofs.Theorems.{start_afresh, same_received}
use Rattle.frame_run.specs.Piece.{run_from, events_from}
use Rattle.frame_run.specs.CanRun.{Unstarted}
use Rattle.frame_run.proofs.Frames.{floor_of_frames, floor_behind, two_lists_of_frames, sums_of_frames}
use Rattle.frame_stream.specs.Stream.{begin, Turn, Turns, stream_after, brought_by, Behind}
use Rattle.frame_stream.proofs.Stream.{stream_is}

module _ (P : Product) (F : Floor) (U : Unstarted F) (ts : List Turn) (made : Turns (begin P F) ts) (later : List ℕ) (still : Behind (stream_after (begin P F) ts) later)
    (before : List Event) (n k : ℕ) (behind : List Event) (report : Report)
    (events : events_from (stream_after (begin P F) ts).index (brought_by ts ++ later) ≡ before ++ (start n k ∷ behind))
    (begun : answer (limits_of P) (floor_after (limits_of P) F before) (start n k) ≡ accepted report) where
  same_floor : (run_from P (stream_after (begin P F) ts).index F 0 (brought_by ts ++ later)).floor ≡ (stream_after (begin P F) ts).floor
  same_floor = floor_of_frames P (stream_after (begin P F) ts).index F 0 (brought_by ts ++ later) ∙ sym ((stream_is P F U ts made).floor later still)

  -- the floor that the stream left is that of the events behind the start
  pub left_behind : (stream_after (begin P F) ts).floor ≡ floor_after (limits_of P) (just_started n k) behind
  left_behind = sym same_floor ∙ floor_behind P (stream_after (begin P F) ts).index F 0 (brought_by ts ++ later) before n k behind report events begun

  -- DEMAND 3
  pub two_lists_of_stream : (s c : ℕ) → c < k
      → TwoListRule (owes (limits_of P) (stream_after (begin P F) ts).floor s c)
      ((lists_after (limits_of P) (just_started n k) both_empty behind).sent s c) ((lists_after (limits_of P) (just_started n k) both_empty behind).received s c)
  two_lists_of_stream s c lc =
      subst (λ (X : Floor). TwoListRule (owes (limits_of P) X s c) ((lists_after (limits_of P) (just_started n k) both_empty behind).sent s c) ((lists_after (limits_of P) (just_started n k) both_empty behind).received s c)) same_floor
      (two_lists_of_frames P (stream_after (begin P F) ts).index F 0 (brought_by ts ++ later) before n k behind report events begun s c lc)

  -- THE SUM RULE
  pub sums_of_stream : total (stream_after (begin P F) ts).floor + taken_away (limits_of P) (just_started n k) behind ≡ gains (limits_of P) (just_started n k) behind
  sums_of_stream =
      sym (ap (λ (X : Floor). total X + taken_away (limits_of P) (just_started n k) behind) same_floor)
      ∙ sums_of_frames P (stream_after (begin P F) ts).index F 0 (brought_by ts ++ later) before n k behind report events begun

-- THE ROUTE MUST NOT MATTER, of two inputs however each is cut into reads, with no cart retired

-- the turns of one: in which a start of n stations and k carts was accepted, with these events behind it, and which left floor Q
pub record RanBehind (P : Product) (n k : ℕ) (behind : List Event) (Q : Floor) : Type 0 where
  pub before : Floor
  pub report : Report
  pub begun : answer (limits_of P) before (start n k) ≡ accepted report
  pub left : Q ≡ floor_after (limits_of P) (just_started n k) behind

-- such are the turns of a stream
pub ran_behind : (P : Product) (F : Floor) (U : Unstarted F) (ts : List Turn) (made : Turns (begin P F) ts) (later : List ℕ) (still : Behind (stream_after (begin P F) ts) later)
    (before : List Event) (n k : ℕ) (behind : List Event) (report : Report)
    (events : events_from (stream_after (begin P F) ts).index (brought_by ts ++ later) ≡ before ++ (start n k ∷ behind))
    (begun : answer (limits_of P) (floor_after (limits_of P) F before) (start n k) ≡ accepted report)
    → RanBehind P n k behind (stream_after (begin P F) ts).floor
ran_behind P F U ts made later still before n k behind report events begun =
    record { before = floor_after (limits_of P) F before; report = report; begun = begun; left = left_behind P F U ts made later still before n k behind report events begun }

pub same_received_by_streams : (P : Product) (n k : ℕ) (es ds : List Event) (Q R : Floor) → RanBehind P n k es Q → RanBehind P n k ds R
    → retires_none (limits_of P) (just_started n k) es ≡ true → retires_none (limits_of P) (just_started n k) ds ≡ true
    → ((u : ℕ) → sendings_of (limits_of P) (just_started n k) es u ≡ sendings_of (limits_of P) (just_started n k) ds u)
    → ((m : ℕ) → m < P.held → is_held Q m ≡ false) → ((m : ℕ) → m < P.held → is_held R m ≡ false)
    → (s c : ℕ) → c < k
    → (lists_after (limits_of P) (just_started n k) both_empty es).received s c ≡ (lists_after (limits_of P) (just_started n k) both_empty ds).received s c
same_received_by_streams P n k es ds Q R x y stay stay' same none none' s c lc =
    let N = limits_of P in
    let a = (start_afresh N x.before n k x.report x.begun).0 in
    let b = (start_afresh N y.before n k y.report y.begun).0 in
    let here = same_received N x.before y.before n k x.report y.report x.begun y.begun es ds in
    (rw (a, b) at here) stay stay' same
    (λ m l. ap (λ (F : Floor). is_held F m) (sym x.left) ∙ none m l) (λ m l. ap (λ (F : Floor). is_held F m) (sym y.left) ∙ none' m l) s c lc
