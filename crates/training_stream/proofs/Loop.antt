-- THE TURNS OF A RUN, one after the other: what holds before each turn.
use mathlib.Core.Path.{◌≡◌, refl, sym, ap, ap₂, ◌∙◌, subst}
use mathlib.Core.Bool.{true}
use mathlib.Core.List.{List, [], ◌∷◌, ◌++◌}
use mathlib.Core.Logic.{inl, inr, ⊎_elim}
use Prim.{tt}
use Prim.Native.Nat.{ℕ, ◌+◌, ◌-◌}
use native.Mathlib.Omega.{arith}
use lib.Dec.{ltb}
use lib.ListN.{length, length-append}
use borrow.Author.Tests.{ltb-false}
use Rattle.protocol.specs.Floor.{Floor, whole_floor}
use Rattle.protocol.specs.PlainLists.{Plain, plain_unstarted}
use Rattle.protocol.proofs.Tests.{by_test, clash}
use Rattle.frame_stream.specs.declared.Feed.{Feed}
use Rattle.frame_stream.specs.declared.Ending.{Ending}
use Rattle.frame_stream.specs.Stream.{Stream, begin, Turn, after, MayBy, TurnsBy, stream_after}
use Rattle.frame_stream.specs.Feed.{state_number, Inside, stream_of}
use Rattle.frame_stream.proofs.Loop.{after_more, turns_more, going, Stopped}
use Rattle.frame_stream.proofs.Feeds.{part_length}
use Rattle.training_stream.specs.declared.FloorMemory.{FloorMemory}
use Rattle.training_stream.specs.Memory.{lent_in}
use Rattle.training_stream.specs.Bench.{rows_fill, BenchTurns, lists_behind, lists_by}
use Rattle.training_stream.specs.Feeds.{BenchMade, BenchRan}

lists_more : (S : Stream) (Q : Plain) (ts : List Turn) (m : Turn) → lists_by S Q (ts ++ (m ∷ [])) ≡ lists_behind (stream_after S ts) (lists_by S Q ts) m
unfolding stream_after lists_by
lists_more S Q [] m = refl
lists_more S Q (x ∷ ts) m = lists_more (after S x) (lists_behind S Q x) ts m

-- BEFORE EACH TURN: as many turns as were counted led from the beginning to this stream and these lists
pub record Came (F : Floor) (S : Stream) (Q : Plain) (made_turns : ℕ) : Type 0 where
  pub turns : List Turn
  pub made : BenchTurns (begin whole_floor F) turns
  pub there : S ≡ stream_after (begin whole_floor F) turns
  pub lists : Q ≡ lists_by (begin whole_floor F) plain_unstarted turns
  pub counted : length turns ≡ made_turns

pub came_first : (F : Floor) (Q : Plain) → Q ≡ plain_unstarted → Came F (begin whole_floor F) Q 0
unfolding TurnsBy stream_after lists_by
came_first F Q e = record { turns = []; made = tt; there = refl; lists = e; counted = refl }

pub came_next : (F : Floor) (S S' : Stream) (Q Q' : Plain) (octets : List ℕ) (turns more : ℕ) → Came F S Q turns → BenchMade S S' Q Q' octets → more ≡ turns + 1 → Came F S' Q' more
came_next F S S' Q Q' octets turns more k m e =
    let ts = k.turns in
    let B = begin whole_floor F in
    let may : MayBy rows_fill (stream_after B ts) m.turn = subst (λ (X : Stream). MayBy rows_fill X m.turn) k.there m.may in
    record {
      turns = ts ++ (m.turn ∷ []);
      made = turns_more rows_fill B ts m.turn k.made may;
      there = m.leads ∙ ap (λ (X : Stream). after X m.turn) k.there ∙ sym (after_more B ts m.turn);
      lists = m.lists ∙ ap₂ (λ (X : Stream) (Y : Plain). lists_behind X Y m.turn) k.there k.lists ∙ sym (lists_more B plain_unstarted ts m.turn);
      counted = let c = k.counted in let z = length-append ts (m.turn ∷ []) in omega arith;
    }

-- and where it stops
pub bench_ran : (F : Floor) (M : FloorMemory) (input : List ℕ) (Q : Plain) (turns : ℕ) (f : Feed) (r : Ending) → Inside (length input) f → Came F (stream_of input (lent_in M) f) Q turns
    → r ≡ record { frames = f.index; state = f.state; left = f.have - f.at } → Stopped turns f → BenchRan F r
bench_ran F M input Q turns f r inside k q stop =
    record {
      turns = k.turns;
      made = k.made;
      frames = ap (λ (o : Ending). o.frames) q ∙ ap (λ (X : Stream). X.index) k.there;
      state = ap (λ (o : Ending). state_number o.state) q ∙ ap (λ (X : Stream). X.state) k.there;
      left = ap (λ (o : Ending). o.left) q ∙ sym (part_length input f inside) ∙ ap (λ (X : Stream). length X.left) k.there;
      stopped = ⊎_elim
          (λ all. inr (inr (let c = k.counted in omega arith)))
          (λ none. by_test (ltb (state_number f.state) 2)
          (λ low. by_test (ltb f.index 9223372036854775808)
          (λ few. clash (going f) (let both : going f ≡ true = rw (few, low) refl in both) none)
          (λ many. inr (inl (let m = ltb-false f.index 9223372036854775808 many in let w = ap (λ (o : Ending). o.frames) q in omega arith))))
          (λ high. inl (let m = ltb-false (state_number f.state) 2 high in let w = ap (λ (o : Ending). state_number o.state) q in omega arith)))
          stop;
    }
