-- `frame_stream::run_all` meets its contract. The invariant: the floor is ready, the piece is whole, and the stream that they say came from the first one by
-- as many turns as were counted.
use mathlib.Core.Path.{◌≡◌}
use lib.ListN.{length}
use Rattle.event_answers.specs.Met.{Ready}
use Rattle.view.specs.View.{lent, floor_in}
use Rattle.frame_run.specs.CanRun.{ByEach}
use Rattle.frame_stream.specs.Feed.{Inside, stream_of}
use Rattle.frame_stream.proofs.Loop.{Came}
use Rattle.frame_stream.proofs.run_all.Given as goal

abbrev pub invariant-loop-made : goal.invariant-loop-made
invariant-loop-made g l =
    ByEach l.bounds (λ P. lent P l.initial.stations l.initial.carts l.initial.messages l.initial.lines l.initial.texts l.initial.store) (λ P. lent P l.stations l.carts l.messages l.lines l.texts l.store) (λ L₀ L. Ready L × Came L₀.product (floor_in L₀) (stream_of l.input L l.f) l.made)
    × Inside (length l.input) l.f × (length l.input ≡ 65536) × (length l.output ≡ 65536)
