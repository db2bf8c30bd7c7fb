-- THE CODE'S TURN IS A TURN OF THE BENCH: a read, and a run of the frames that are there.
use mathlib.Core.Path.{◌≡◌, refl, sym, ap, ◌∙◌, subst}
use mathlib.Core.List.{List, []}
use Prim.Native.Nat.{ℕ, ◌+◌, ◌-◌, ◌≤◌}
use native.Mathlib.Omega.{arith}
use lib.ListN.{length, take, drop}
use Rattle.protocol.specs.Floor.{whole_floor, limits}
use Rattle.protocol.specs.Frames.{read_at}
use Rattle.protocol.specs.PlainLists.{Plain, head_lines}
use Rattle.frame_run.specs.declared.Progress.{Progress}
use Rattle.frame_run.specs.Stops.{stop_number}
use Rattle.frame_run.specs.Went.{NoneWhole, EndsRun}
use Rattle.frame_run.proofs.Whole.{few_left}
use Rattle.frame_run.proofs.Printed.{front_of}
use Rattle.frame_stream.specs.declared.Feed.{Feed}
use Rattle.frame_stream.specs.declared.Handed.{Handed}
use Rattle.frame_stream.specs.Stream.{Stream, Turn, brought, failed, ran, piece, after, Stops, MayBy, May}
use Rattle.frame_stream.specs.Feed.{state_number, Inside, stream_of, Made, after_run}
use Rattle.frame_stream.proofs.Stream.{wants_why}
use Rattle.frame_stream.proofs.Feeds.{part_length, drop_part, number_next}
use Rattle.lists.specs.View.{LentLists, lists_in}
use Rattle.training_rows.specs.Calls.{calls_in, made_by}
use Rattle.training_calls.specs.Calls.{calls_from}
use Rattle.training_calls.specs.Gone.{Gone}
use Rattle.training_lists.specs.Lines.{plain_fed, exchanges_of, Fed}
use Rattle.training_stream.specs.declared.FloorMemory.{FloorMemory}
use Rattle.training_stream.specs.Memory.{lent_in}
use Rattle.training_stream.specs.Bench.{lists_behind, lines_of}
use Rattle.training_stream.specs.Feeds.{BenchMade}
use Rattle.training_stream.proofs.CallRuns.{exchanges_so}

-- A READ hands nothing on, and leaves the lists
pub read_made : (S S' : Stream) (Q : Plain) (out : List ℕ) (n : ℕ) → S.state ≡ 1 → n ≡ 0 → Made S S' [] → BenchMade S S' Q Q (take n out)
unfolding MayBy lists_behind lines_of
read_made S S' Q out n wants none m = by m.turn m.may m.leads
  where
    nothing : take n out ≡ []
    nothing = ap (λ (k : ℕ). take k out) none

    by : (t : Turn) → May S t → S' ≡ after S t → BenchMade S S' Q Q (take n out)
    by (brought l) may leads = record { turn = brought l; may = may; leads = leads; lists = refl; hands = nothing }
    by failed may leads = record { turn = failed; may = may; leads = leads; lists = refl; hands = nothing }
    by (ran k why accepted) may leads = absurd (let z = may.0 in omega arith)

-- A RUN
module _ (input : List ℕ) (M M' : FloorMemory) (calls out out' : List ℕ) (K K' : LentLists) (f r : Feed) (p : Progress) (n : ℕ) (h : Handed) (inside : Inside (length input) f)
    (runs : state_number f.state ≡ 0) (gone : Gone (take (f.have - f.at) (drop f.at input)) f.last (lent_in M) (lent_in M') calls p)
    (fed : Fed (lists_in K) (made_by (take (f.have - f.at) (drop f.at input)) (calls_in calls) p.frames) f.index K' out out' n) (size : h.size ≡ n)
    (is : r ≡ after_run f p h) where
  abbrev S : Stream
  S = stream_of input (lent_in M) f

  part_there : length S.left ≡ f.have - f.at
  part_there = part_length input f inside

  read_there : f.at + p.read ≤ f.have
  read_there = let a = gone.inside in let b = part_there in let c = inside.run in omega arith

  run_stops : Stops S p.frames (stop_number p.state)
  run_stops =
      let g = gone.run f.index in
      record {
        counted = sym g.counted;
        ended = g.ended;
        known = gone.why;
        waits = λ e. subst (λ (k : ℕ). NoneWhole f.last (read_at limits S.left k)) g.read (gone.waits e);
        ends = λ e. subst (λ (k : ℕ). EndsRun f.last (read_at limits S.left k)) g.read (gone.ends e);
      }

  made_so : made_by S.left (calls_in calls) p.frames ≡ calls_from whole_floor p.frames S.floor S.left
  made_so = (gone.run f.index).rows

  lines_so : head_lines (exchanges_of limits (lists_in K) f.index (made_by S.left (calls_in calls) p.frames)) ≡ lines_of S (lists_in K) (ran p.frames (stop_number p.state) h.accepted)
  unfolding lines_of
  lines_so = ap (λ x. head_lines (exchanges_of limits (lists_in K) f.index x)) made_so ∙ ap head_lines (sym (exchanges_so p.frames S.floor (lists_in K) f.index S.left))

  pub run_made : BenchMade S (stream_of input (lent_in M') r) (lists_in K) (lists_in K') (take r.handed out')
  unfolding MayBy after lists_behind
  run_made =
      let k = p.frames in
      let g = gone.run f.index in
      let rest : take (f.have - (f.at + p.read)) (drop (f.at + p.read) input) ≡ drop (piece S k).octets S.left =
      drop_part input f.at f.have p.read read_there inside.read ∙ ap (λ (j : ℕ). drop j S.left) g.read in
      record {
        turn = ran k (stop_number p.state) h.accepted;
        may = (runs, run_stops, gone.full);
        leads = ap (stream_of input (lent_in M')) is
            ∙ (λ i. record { product = whole_floor; left = rest i; floor = g.floor i; index = f.index + k; state = number_next p.state f.last h.accepted i; last = f.last });
        lists = fed.lists ∙ ap (plain_fed limits (lists_in K)) made_so;
        hands = ap (λ (x : Feed). take x.handed out') is ∙ front_of out out' _ h.size (size ∙ fed.size) fed.octets ∙ lines_so;
      }

  pub run_inside : Inside (length input) r
  run_inside =
      subst (λ (x : Feed). Inside (length input) x) (sym is)
      (record {
        run = read_there;
        read = inside.read;
        few = λ e. let w = wants_why (stop_number p.state) f.last h.accepted gone.why (sym (number_next p.state f.last h.accepted) ∙ e) in
            let short = few_left f.last S.left p.read (gone.waits w.0) in
            let b = part_there in
            let c = read_there in
            omega arith;
      })
