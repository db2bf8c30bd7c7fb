-- THE BENCH PRINTS THE WRITTEN LINES: however an input is cut into reads, what the turns hand on, one after the other, is `plain_run` of the input.
use mathlib.Core.Path.{◌≡◌, refl, sym, ap, ◌∙◌, subst}
use mathlib.Core.Bool.{true, false}
use mathlib.Core.List.{List, [], ◌∷◌, ◌++◌, append-nil, append_assoc}
use mathlib.Core.Option.{Option}
use mathlib.Core.Logic.{◌⊎◌, ⊎_elim}
use Prim.Native.Nat.{ℕ, suc, ◌+◌}
use native.Mathlib.Omega.{arith}
use lib.ListN.{length, drop}
use borrow.Author.Tests.{eqb-true}
use Rattle.protocol.specs.Floor.{Floor, whole_floor, limits, unstarted}
use Rattle.protocol.specs.Frames.{Reading, end, read_at}
use Rattle.protocol.specs.PlainLists.{Plain, PlainCall, Exchange, plain_unstarted, exchanges, head_lines, plain_run}
use Rattle.protocol.proofs.Tests.{by_test, clash}
use Rattle.frame_run.specs.Piece.{Ran, run_from}
use Rattle.frame_run.specs.CanRun.{Unstarted}
use Rattle.frame_run.specs.Went.{EndsRun}
use Rattle.frame_stream.specs.Stream.{Stream, begin, Turn, brought, failed, ran, after, brought_in, handed, Stops, MayBy, TurnsBy, stream_after, brought_by, Behind}
use Rattle.frame_stream.proofs.Stream.{SoFar, Holds, holds_first, holds_next, so_far}
use Rattle.training_calls.specs.Calls.{calls_from}
use Rattle.training_lists.specs.Lines.{plain_fed, exchanges_of}
use Rattle.training_lists.proofs.LineLaws.{lines_more}
use Rattle.training_stream.specs.Bench.{rows_fill, BenchTurns, lists_behind, lines_of, lines_by, lists_by, BenchIs}
use Rattle.training_stream.proofs.CallRuns.{exchanges_so, fed_both, exchanges_both, calls_count, calls_go_on, calls_end, no_calls, calls_stand, calls_enough, calls_alike}

-- the lines of calls from the first frame on
abbrev lines : List (Option PlainCall) → List ℕ
lines calls = head_lines (exchanges_of limits plain_unstarted 0 calls)

abbrev calls : Floor → ℕ → List ℕ → List (Option PlainCall)
calls F n l = calls_from whole_floor n F l

-- THE LISTS SO FAR, over every input that begins with B, what the turns brought: H are the lines that were handed on
record Feeds (F : Floor) (B H : List ℕ) (S : Stream) (Q : Plain) : Type 0 where
  printed : (later : List ℕ) → Behind S later → lines (calls F S.index (B ++ later)) ≡ H
  fed : (later : List ℕ) → Behind S later → plain_fed limits plain_unstarted (calls F S.index (B ++ later)) ≡ Q

feeds_first : (F : Floor) → Feeds F [] [] (begin whole_floor F) plain_unstarted
unfolding calls_from plain_fed exchanges_of
feeds_first F = record { printed = λ later b. refl; fed = λ later b. refl }

-- A RUN of the first n frames of what is left
module _ (F : Floor) (B H H' : List ℕ) (S : Stream) (Q : Plain) (h : Holds whole_floor F B H' S) (f : Feeds F B H S Q) (n why : ℕ) (runs : S.state ≡ 0) (t : Stops S n why)
    (later : List ℕ) (b : Behind S later) where
  abbrev W : List ℕ
  W = B ++ later

  s : SoFar whole_floor F W H' S later
  s = h.run later b

  -- whatever follows, the frames make the same calls
  stood : calls S.floor n (S.left ++ later) ≡ calls S.floor n S.left
  stood =
      by_test S.last
      (λ y. ap (λ (q : List ℕ). calls S.floor n (S.left ++ q)) (b y) ∙ ap (calls S.floor n) (append-nil S.left))
      (λ y. subst (λ P. calls_from P n S.floor (S.left ++ later) ≡ calls_from P n S.floor S.left) h.own
      (calls_stand S.product n S.floor S.index S.left later t.counted
      (λ ended cut.
      let ends = t.ends (eqb-true why 2 (sym t.ended ∙ ended)) in
      let never : S.last ≡ true = subst (λ (x : Reading). EndsRun S.last x) cut ends refl in
      clash S.last never y)))

  more_calls : calls F (S.index + n) W ≡ calls F S.index W ++ calls S.floor n S.left
  more_calls =
      calls_go_on whole_floor S.index n F 0 W s.count (s.goes (omega arith))
      ∙ (λ i. calls F S.index W ++ calls (s.floor i) n (s.rest i))
      ∙ ap (λ (x : List (Option PlainCall)). calls F S.index W ++ x) stood

  ran_fed : plain_fed limits plain_unstarted (calls F (S.index + n) W) ≡ plain_fed limits Q (calls S.floor n S.left)
  ran_fed =
      ap (plain_fed limits plain_unstarted) more_calls
      ∙ fed_both limits plain_unstarted (calls F S.index W) (calls S.floor n S.left)
      ∙ ap (λ (X : Plain). plain_fed limits X (calls S.floor n S.left)) (f.fed later b)

  many : 0 + length (calls F S.index W) ≡ S.index
  many = let a = calls_count whole_floor S.index F 0 W in let c = s.count in omega arith

  ran_printed : lines (calls F (S.index + n) W) ≡ H ++ head_lines (exchanges_of limits Q S.index (calls S.floor n S.left))
  ran_printed =
      ap lines more_calls
      ∙ ap head_lines (exchanges_both limits plain_unstarted 0 (calls F S.index W) (calls S.floor n S.left))
      ∙ lines_more (exchanges_of limits plain_unstarted 0 (calls F S.index W)) _
      ∙ (λ i. f.printed later b i ++ head_lines (exchanges_of limits (f.fed later b i) (many i) (calls S.floor n S.left)))

-- ONE TURN MORE
feeds_next : (F : Floor) (B H H' : List ℕ) (S : Stream) (Q : Plain) (m : Turn) → Holds whole_floor F B H' S → Feeds F B H S Q → MayBy rows_fill S m
    → Feeds F (B ++ brought_in m) (H ++ lines_of S Q m) (after S m) (lists_behind S Q m)
unfolding after MayBy lines_of lists_behind
feeds_next F B H H' S Q (brought l) h f may =
    record {
      printed = λ later b. ap (λ (x : List ℕ). lines (calls F S.index x)) (append_assoc B l later) ∙ f.printed (l ++ later) (λ t. clash S.last t (h.more may)) ∙ sym (append-nil H);
      fed = λ later b. ap (λ (x : List ℕ). plain_fed limits plain_unstarted (calls F S.index x)) (append_assoc B l later) ∙ f.fed (l ++ later) (λ t. clash S.last t (h.more may));
    }
feeds_next F B H H' S Q failed h f may =
    record {
      printed = λ later b. ap (λ (x : List ℕ). lines (calls F S.index (x ++ later))) (append-nil B) ∙ f.printed later b ∙ sym (append-nil H);
      fed = λ later b. ap (λ (x : List ℕ). plain_fed limits plain_unstarted (calls F S.index (x ++ later))) (append-nil B) ∙ f.fed later b;
    }
feeds_next F B H H' S Q (ran n why accepted) h f may =
    record {
      printed = λ later b. ap (λ (x : List ℕ). lines (calls F (S.index + n) (x ++ later))) (append-nil B)
          ∙ ran_printed F B H H' S Q h f n why may.0 may.1 later b
          ∙ ap (λ (x : List Exchange). H ++ head_lines x) (sym (exchanges_so n S.floor Q S.index S.left));
      fed = λ later b. ap (λ (x : List ℕ). plain_fed limits plain_unstarted (calls F (S.index + n) (x ++ later))) (append-nil B) ∙ ran_fed F B H H' S Q h f n why may.0 may.1 later b;
    }

-- ALL OF THEM
feeds_after : (F : Floor) (B H H' : List ℕ) (S : Stream) (Q : Plain) (ts : List Turn) → Holds whole_floor F B H' S → Feeds F B H S Q → BenchTurns S ts
    → Feeds F (B ++ brought_by ts) (H ++ lines_by S Q ts) (stream_after S ts) (lists_by S Q ts)
unfolding TurnsBy stream_after brought_by lines_by lists_by
feeds_after F B H H' S Q [] h f made =
    subst (λ (x : List ℕ). Feeds F (B ++ []) x S Q) (sym (append-nil H)) (subst (λ (y : List ℕ). Feeds F y H S Q) (sym (append-nil B)) f)
feeds_after F B H H' S Q (m ∷ ts) h f made =
    let S' = after S m in
    let Q' = lists_behind S Q m in
    let rest = feeds_after F (B ++ brought_in m) (H ++ lines_of S Q m) (H' ++ handed S m) S' Q' ts (holds_next rows_fill whole_floor F B H' S m h made.0) (feeds_next F B H H' S Q m h f made.0) made.1 in
    subst (λ (x : List ℕ). Feeds F (B ++ (brought_in m ++ brought_by ts)) x (stream_after S' ts) (lists_by S' Q' ts)) (append_assoc H (lines_of S Q m) (lines_by S' Q' ts))
    (subst (λ (y : List ℕ). Feeds F y ((H ++ lines_of S Q m) ++ lines_by S' Q' ts) (stream_after S' ts) (lists_by S' Q' ts)) (append_assoc B (brought_in m) (brought_by ts)) rest)

all_fed : (F : Floor) (ts : List Turn) → BenchTurns (begin whole_floor F) ts
    → Feeds F (brought_by ts) (lines_by (begin whole_floor F) plain_unstarted ts) (stream_after (begin whole_floor F) ts) (lists_by (begin whole_floor F) plain_unstarted ts)
all_fed F ts made = feeds_after F [] [] [] (begin whole_floor F) plain_unstarted ts (holds_first whole_floor F) (feeds_first F) made

-- THE WRITTEN LINES, with as many turns more as were made
module _ (F : Floor) (U : Unstarted F) (n : ℕ) (l : List ℕ) where
  whole_run : plain_run limits l ≡ lines (calls F (n + suc (length l)) l)
  unfolding plain_run exchanges
  whole_run =
      let m = suc (length l) in
      let turned : m + n ≡ n + m = omega arith in
      ap head_lines (exchanges_so m unstarted plain_unstarted 0 l)
      ∙ ap lines (calls_alike whole_floor m unstarted F (record { fresh = refl; lengths = refl }) U l
      ∙ sym (calls_enough whole_floor m n F l (omega arith))
      ∙ ap (λ (k : ℕ). calls F k l) turned)

  abbrev R : Ran
  R = run_from whole_floor n F 0 l

  module _ (all : R.count ≡ n) where
    abbrev behind : List (Option PlainCall)
    behind = calls R.floor (suc (length l)) (drop R.octets l)

    run_begins : R.ended ≡ false → plain_run limits l ≡ lines (calls F n l) ++ head_lines (exchanges_of limits (plain_fed limits plain_unstarted (calls F n l)) (0 + length (calls F n l)) behind)
    run_begins e =
        whole_run ∙ ap lines (calls_go_on whole_floor n (suc (length l)) F 0 l all e)
        ∙ ap head_lines (exchanges_both limits plain_unstarted 0 (calls F n l) behind)
        ∙ lines_more (exchanges_of limits plain_unstarted 0 (calls F n l)) _

    run_ended : R.ended ≡ true → plain_run limits l ≡ lines (calls F n l)
    run_ended e = whole_run ∙ ap lines (calls_end whole_floor n (suc (length l)) F 0 l e)

    begins : (rest : List ℕ) × (plain_run limits l ≡ lines (calls F n l) ++ rest)
    begins = by_test R.ended (λ e. ([], run_ended e ∙ sym (append-nil (lines (calls F n l))))) (λ e. (_, run_begins e))

    -- and all of them where a frame ended the run, or no octet is left
    all_of_it : (R.ended ≡ true) ⊎ (read_at limits l R.octets ≡ end) → plain_run limits l ≡ lines (calls F n l)
    unfolding read_at exchanges_of
    all_of_it over =
        by_test R.ended run_ended
        (λ e. ⊎_elim (λ t. clash R.ended t e)
        (λ last. run_begins e
        ∙ ap (λ (x : List (Option PlainCall)). lines (calls F n l) ++ head_lines (exchanges_of limits (plain_fed limits plain_unstarted (calls F n l)) (0 + length (calls F n l)) x)) (no_calls whole_floor (suc (length l)) R.floor (drop R.octets l) last)
        ∙ append-nil (lines (calls F n l))) over)

-- THE CLAIM
pub bench_is : (F : Floor) → Unstarted F → (ts : List Turn) → BenchTurns (begin whole_floor F) ts → BenchIs F ts
bench_is F U ts made =
    record {
      whole = λ over later b.
          let s = so_far rows_fill whole_floor F ts made later b in
          all_of_it F U S.index (brought_by ts ++ later) s.count (s.over over) ∙ f.printed later b;
      beginning = λ later b.
          let s = so_far rows_fill whole_floor F ts made later b in
          let p = begins F U S.index (brought_by ts ++ later) s.count in
          (p.0, p.1 ∙ ap (λ (x : List ℕ). x ++ p.0) (f.printed later b));
    }
  where
    S : Stream
    S = stream_after (begin whole_floor F) ts

    f : Feeds F (brought_by ts) (lines_by (begin whole_floor F) plain_unstarted ts) S (lists_by (begin whole_floor F) plain_unstarted ts)
    f = all_fed F ts made
