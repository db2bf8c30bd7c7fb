-- THE TURNS OF A RUN, one after the other: what holds before each turn.
use mathlib.Core.Path.{◌≡◌, refl, sym, ap, ◌∙◌, subst}
use mathlib.Core.Bool.{Bool, true, false, not, ◌&&◌}
use mathlib.Core.List.{List, [], ◌∷◌, ◌++◌}
use mathlib.Core.Logic.{◌⊎◌, inl, inr, ⊎_elim}
use Prim.Native.Nat.{ℕ, ◌+◌, ◌-◌, ◌<◌}
use native.Mathlib.Omega.{arith}
use lib.Dec.{eqb, ltb}
use lib.ListN.{length, length-append}
use borrow.Author.Tests.{ltb-true, ltb-false, ne_eqb}
use Rattle.protocol.specs.Floor.{Product, Floor}
use Rattle.protocol.proofs.Tests.{by_test, and_left, and_right, clash}
use Rattle.view.specs.View.{Lent, floor_in}
use Rattle.event_answers.specs.Met.{Ready}
use Rattle.frame_stream.specs.declared.Feed.{Feed}
use Rattle.frame_stream.specs.declared.Ending.{Ending}
use Rattle.frame_stream.specs.Stream.{Stream, begin, Turn, after, MayBy, TurnsBy, lines_fill, May, Turns, stream_after}
use Rattle.frame_stream.specs.Feed.{state_number, Inside, stream_of, Made, Finished, RanAll}
use Rattle.frame_stream.proofs.Feeds.{part_length}

-- one turn more
pub after_more : (S : Stream) (ts : List Turn) (m : Turn) → stream_after S (ts ++ (m ∷ [])) ≡ after (stream_after S ts) m
unfolding stream_after
after_more S [] m = refl
after_more S (x ∷ ts) m = after_more (after S x) ts m

pub turns_more : (full : Stream → ℕ → Type 0) (S : Stream) (ts : List Turn) (m : Turn) → TurnsBy full S ts → MayBy full (stream_after S ts) m → TurnsBy full S (ts ++ (m ∷ []))
unfolding stream_after TurnsBy
turns_more full S [] m made may = (may, made)
turns_more full S (x ∷ ts) m made may = (made.0, turns_more full (after S x) ts m made.1 may)

-- BEFORE EACH TURN: as many turns as were counted led from the beginning to this stream
pub record Came (P : Product) (F : Floor) (S : Stream) (made_turns : ℕ) : Type 0 where
  pub turns : List Turn
  pub made : Turns (begin P F) turns
  pub there : S ≡ stream_after (begin P F) turns
  pub counted : length turns ≡ made_turns

pub came_first : (P : Product) (F : Floor) → Came P F (begin P F) 0
unfolding TurnsBy stream_after
came_first P F = record { turns = []; made = tt; there = refl; counted = refl }

pub came_next : (P : Product) (F : Floor) (S S' : Stream) (octets : List ℕ) (turns more : ℕ) → Came P F S turns → Made S S' octets → more ≡ turns + 1 → Came P F S' more
came_next P F S S' octets turns more k m e =
    let ts = k.turns in
    let may : May (stream_after (begin P F) ts) m.turn = subst (λ (X : Stream). May X m.turn) k.there m.may in
    record {
      turns = ts ++ (m.turn ∷ []);
      made = turns_more lines_fill (begin P F) ts m.turn k.made may;
      there = m.leads ∙ ap (λ (X : Stream). after X m.turn) k.there ∙ sym (after_more (begin P F) ts m.turn);
      counted = let c = k.counted in let z = length-append ts (m.turn ∷ []) in omega arith;
    }

-- IS ANYTHING MORE TO BE DONE
abbrev pub going : Feed → Bool
going f = ltb f.index 9223372036854775808 && ltb (state_number f.state) 2

-- and so many turns are left: what the code asks
pub goes : (left : ℕ) (f : Feed) (b : Bool) → b ≡ (not (eqb left 0) && going f) → b ≡ true → (f.index < 9223372036854775808) × (state_number f.state < 2)
goes left f b e t =
    let both : going f ≡ true = and_right (not (eqb left 0)) (going f) (sym e ∙ t) in (
      ltb-true f.index 9223372036854775808 (and_left (ltb f.index 9223372036854775808) (ltb (state_number f.state) 2) both),
      ltb-true (state_number f.state) 2 (and_right (ltb f.index 9223372036854775808) (ltb (state_number f.state) 2) both),
    )

pub goes_no_more : (left : ℕ) (f : Feed) (b : Bool) → b ≡ (not (eqb left 0) && going f) → b ≡ false → (left ≡ 0 → ⊥) → going f ≡ false
goes_no_more left f b e t some = ap (λ (x : Bool). not x && going f) (sym (ne_eqb left 0 some)) ∙ sym e ∙ t

-- a run stops where nothing is to be done, or after the last turn that is counted
abbrev pub Stopped : ℕ → Feed → Type 0
Stopped turns f = (turns ≡ 18446744073709551615) ⊎ (going f ≡ false)

-- and where it stops
finished : (P : Product) (F : Floor) (S : Stream) (turns : ℕ) (f : Feed) (r : Ending) → Came P F S turns → S.index ≡ f.index → S.state ≡ state_number f.state
    → length S.left ≡ f.have - f.at → r ≡ record { frames = f.index; state = f.state; left = f.have - f.at } → Stopped turns f → Finished P F r
finished P F S turns f r k index state left q stop =
    record {
      turns = k.turns;
      made = k.made;
      frames = ap (λ (o : Ending). o.frames) q ∙ sym index ∙ ap (λ (X : Stream). X.index) k.there;
      state = ap (λ (o : Ending). state_number o.state) q ∙ sym state ∙ ap (λ (X : Stream). X.state) k.there;
      left = ap (λ (o : Ending). o.left) q ∙ sym left ∙ ap (λ (X : Stream). length X.left) k.there;
      stopped = ⊎_elim
          (λ all. inr (inr (let c = k.counted in omega arith)))
          (λ none. by_test (ltb (state_number f.state) 2)
          (λ low. by_test (ltb f.index 9223372036854775808)
          (λ few. clash (going f) (let both : going f ≡ true = rw (few, low) refl in both) none)
          (λ many. inr (inl (let m = ltb-false f.index 9223372036854775808 many in let w = ap (λ (o : Ending). o.frames) q in omega arith))))
          (λ high. inl (let m = ltb-false (state_number f.state) 2 high in let w = ap (λ (o : Ending). state_number o.state) q in omega arith)))
          stop;
    }

-- with the floor that the lent parts then say
pub ran_all : (L L' : Lent) (input : List ℕ) (turns : ℕ) (f : Feed) (r : Ending) → Ready L' → Inside (length input) f
    → Came L.product (floor_in L) (stream_of input L' f) turns → r ≡ record { frames = f.index; state = f.state; left = f.have - f.at } → Stopped turns f
    → RanAll L L' r
unfolding finished
ran_all L L' input turns f r ready inside k q stop =
    record {
      finished = finished L.product (floor_in L) (stream_of input L' f) turns f r k refl refl (part_length input f inside) q stop;
      ready = ready;
      floor = ap (λ (X : Stream). X.floor) k.there;
    }
