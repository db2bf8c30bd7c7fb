-- `training_stream::run_all` meets its contract. The invariant: the floor and the lists are ready, the piece is whole, and the stream and the lists that they say
-- came from the first ones by as many turns as were counted.
use mathlib.Core.Path.{◌≡◌}
use lib.ListN.{length}
use Rattle.event_answers.specs.Met.{Ready}
use Rattle.view.specs.View.{floor_in}
use Rattle.frame_stream.specs.Feed.{Inside, stream_of}
use Rattle.lists.specs.View.{lent_lists, lists_in}
use Rattle.lists.specs.Calls.{ListsReady}
use Rattle.training_stream.specs.Memory.{lent_in}
use Rattle.training_stream.proofs.Loop.{Came}
use Rattle.training_stream.proofs.run_all.Given as goal

abbrev pub invariant-loop-made : goal.invariant-loop-made
invariant-loop-made g l =
    Ready (lent_in l.floor) × ListsReady (lent_lists l.counts l.sends l.octets) × Came (floor_in (lent_in l.initial.floor)) (stream_of l.input (lent_in l.floor) l.f) (lists_in (lent_lists l.counts l.sends l.octets)) l.made
    × Inside (length l.input) l.f × (length l.input ≡ 65536) × (length l.output ≡ 65536) × (length l.calls ≡ 5120)
