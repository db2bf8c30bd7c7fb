-- A FLOOR OF ZEROS is not started, and a run can begin with it.
use mathlib.Core.Path.{◌≡◌}
use mathlib.Core.Bool.{true}
use mathlib.Core.List.{List}
use Prim.Native.Nat.{ℕ}
use native.Mathlib.Omega.{arith}
use lib.ListN.{length}
use borrow.Author.Tests.{ne_eqb}
use Rattle.protocol.specs.Floor.{Product, whole_floor, kit}
use Rattle.protocol.proofs.Tests.{clash}
use Rattle.stations.specs.View.{head_in}
use Rattle.view.specs.View.{lent, lengths_in, floor_in}
use Rattle.view.proofs.Lengths.{Lengths, lengths_right_lem}
use Rattle.event_answers.specs.Met.{Ready}
use Rattle.frame_run.specs.CanRun.{Unstarted}
use Rattle.frame_stream.specs.declared.Ending.{Ending}
use Rattle.frame_stream.specs.Feed.{Finished, Streamed}
use Rattle.frame_stream.proofs.Stream.{stream_is}

module _ (P : Product) (S C M W T O : List ℕ) (mark : (head_in S).mark ≡ 0) (long : Lengths (lent P S C M W T O)) where
  lengths : lengths_in (lent P S C M W T O) ≡ true
  lengths = lengths_right_lem (lent P S C M W T O) long

  pub fresh : Unstarted (floor_in (lent P S C M W T O))
  fresh = record { fresh = ne_eqb (head_in S).mark 1 (λ z. omega arith); lengths = lengths }

  pub fresh_ready : Ready (lent P S C M W T O)
  fresh_ready = record { lengths = lengths; passes = λ h. clash (floor_in (lent P S C M W T O)).started h fresh.fresh }

  -- so what the run over it hands on is the printed run
  pub streamed : (r : Ending) → Finished P (floor_in (lent P S C M W T O)) r → Streamed P r
  streamed r e = record { floor = floor_in (lent P S C M W T O); fresh = fresh; finished = e; is = stream_is P (floor_in (lent P S C M W T O)) fresh e.turns e.made }

-- THE FLOOR'S MEMORY and THE KIT'S: the lengths that each lends
pub floor_lengths : (S C M W T O : List ℕ) → length S ≡ 1972 → length C ≡ 1216 → length M ≡ 224 → length W ≡ 11250 → length T ≡ 1024 → length O ≡ 4096
    → Lengths (lent whole_floor S C M W T O)
floor_lengths S C M W T O s c m w t o = record { stations = s; carts = c; messages = m; lines = w; texts = t; store = o }

pub kit_lengths : (S C M W T O : List ℕ) → length S ≡ 580 → length C ≡ 152 → length M ≡ 56 → length W ≡ 2250 → length T ≡ 256 → length O ≡ 4096
    → Lengths (lent kit S C M W T O)
kit_lengths S C M W T O s c m w t o = record { stations = s; carts = c; messages = m; lines = w; texts = t; store = o }
