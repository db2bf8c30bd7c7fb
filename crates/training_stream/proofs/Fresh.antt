-- MEMORY OF ZEROS: a floor and lists that are not started, with which a run can begin.
use mathlib.Core.Path.{◌≡◌, refl}
use mathlib.Core.List.{List}
use Prim.Native.Nat.{ℕ, zero, suc}
use lib.ListN.{length, get_or, replicate}
use Rattle.protocol.specs.PlainLists.{plain_unstarted}
use Rattle.view.specs.View.{floor_in}
use Rattle.frame_run.specs.CanRun.{Unstarted}
use Rattle.frame_stream.specs.declared.Ending.{Ending}
use Rattle.lists.specs.View.{lent_lists, lists_in}
use Rattle.lists.specs.Calls.{ListsReady}
use Rattle.lists.proofs.Facts.{Lengths}
use Rattle.lists.proofs.Readies.{blank_ready, blank_unstarted}
use Rattle.training_stream.specs.declared.FloorMemory.{FloorMemory}
use Rattle.training_stream.specs.Memory.{lent_in}
use Rattle.training_stream.specs.Feeds.{BenchRan, Benched}
use Rattle.training_stream.proofs.Bench.{bench_is}

module _ (counts sends octets : List ℕ) (zeros : (length counts ≡ 21) × ((k : ℕ) → get_or counts k 0 ≡ 0)) (rows : length sends ≡ 8192) (texts : length octets ≡ 1048576) where
  long : Lengths (lent_lists counts sends octets)
  long = record { counts = zeros.0; sends = rows; octets = texts }

  pub fresh_lists : ListsReady (lent_lists counts sends octets)
  fresh_lists = blank_ready (lent_lists counts sends octets) long zeros.1

  pub unstarted_lists : lists_in (lent_lists counts sends octets) ≡ plain_unstarted
  unstarted_lists = blank_unstarted (lent_lists counts sends octets) long zeros.1

-- so what the run over them hands on are the written lines
pub benched : (M : FloorMemory) (r : Ending) → Unstarted (floor_in (lent_in M)) → BenchRan (floor_in (lent_in M)) r → Benched r
benched M r U ran = record { floor = floor_in (lent_in M); fresh = U; ran = ran; is = bench_is (floor_in (lent_in M)) U ran.turns ran.made }

-- an array of zeros
pub all_zero_lem : (n k : ℕ) → ◌≡◌ {A = ℕ} (get_or (replicate n 0) k 0) 0
all_zero_lem zero k = refl
all_zero_lem (suc n) zero = refl
all_zero_lem (suc n) (suc k) = all_zero_lem n k
