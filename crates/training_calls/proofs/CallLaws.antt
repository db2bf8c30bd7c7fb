-- THE CALL OF ONE FRAME: what the code finds is the call that the event makes on the floor before it.
use mathlib.Core.Path.{◌≡◌, refl, sym, ap, ◌∙◌}
use mathlib.Core.List.{List, [], ◌∷◌}
use mathlib.Core.Option as math
use Prim.{tt}
use Prim.Native.Nat.{ℕ, ◌+◌, ◌≤◌}
use native.Mathlib.Omega.{arith}
use lib.ListN.{take, drop}
use lib.Seq.{drop-drop}
use denote.Enum.Declared.{tag_of}
use types.Run.{OneOf, miss}
use Rattle.std.specs.Prelude.{Option, Result, Ok, Err}
use Rattle.protocol.specs.Floor.{Limits, Floor, limits_of}
use Rattle.protocol.specs.Events.{refused, accepted}
use Rattle.protocol.specs.Events as events
use Rattle.protocol.specs.Groups.{as_sent}
use Rattle.protocol.specs.Step.{answer}
use Rattle.protocol.specs.PlainLists.{PlainCall, plain_send, fed_by, call_of}
use Rattle.rows.proofs.ColumnLaws.{column_beyond}
use Rattle.stations.specs.View.{head_in, head_word, group_at}
use Rattle.view.specs.View.{Lent, floor_in}
use Rattle.refusals.specs.declared.Refusal.{Refusal}
use Rattle.refusals.specs.Numbers.{number_of}
use Rattle.frame_run.specs.declared.Done.{Done}
use Rattle.frame_run.specs.Dispatched.{answer_at}
use Rattle.event_answers.specs.Met.{Ready, Met}
use Rattle.event_answers.proofs.Readies.{stays_ready}
use Rattle.frames.specs.declared.Event.{Event}
use Rattle.frames.specs.declared.Event.TheVariants as event
use Rattle.frames.specs.contracts.Event.{the_type as event_type}
use Rattle.frames.specs.Decoded.{event_in, size_of}
use Rattle.training_rows.specs.declared.Call.{Call}
use Rattle.training_rows.specs.Calls.{made_in, TextIn}
use Rattle.training_calls.specs.Calls.{members_for, call_for, call_told}
use Rattle.training_calls.specs.Gone.{Made}

-- THE MEMBERS

-- none beyond sixteen groups
pub no_group_lem : (S : List ℕ) (g : ℕ) → 16 ≤ g → (head_in S).groups g ≡ 0
unfolding head_in
no_group_lem S g h = column_beyond 16 group_at (λ r. head_word S) 0 g h

-- and none of an event that is no send to a group
pub no_members : (G : ℕ → ℕ) (e : Event) → OneOf (0 ∷ 1 ∷ 2 ∷ 3 ∷ 4 ∷ 5 ∷ 6 ∷ 7 ∷ 9 ∷ 10 ∷ []) (tag_of event_type e) → 0 ≡ members_for G e
no_members G (event.Start n k) h = refl
no_members G (event.Enter t c) h = refl
no_members G (event.Send s set n) h = refl
no_members G (event.Wire i j) h = refl
no_members G (event.Radio t c) h = refl
no_members G (event.Move c to) h = refl
no_members G (event.Flag c b) h = refl
no_members G (event.Group g set) h = refl
no_members G (event.SendGroup s g n) h = absurd (miss (0 ∷ 1 ∷ 2 ∷ 3 ∷ 4 ∷ 5 ∷ 6 ∷ 7 ∷ 9 ∷ 10 ∷ []) 8 tt h)
no_members G (event.SendLong s set n) h = refl
no_members G (event.Retire c) h = refl

-- THE CALL

-- of a refused event
not_fed : (F : Floor) (l : List ℕ) (e : Event) (r : ℕ) → math.none ≡ fed_by (as_sent F (event_in l e)) (refused r)
not_fed F l (event.Start n k) r = refl
not_fed F l (event.Enter t c) r = refl
not_fed F l (event.Send s set n) r = refl
not_fed F l (event.Wire i j) r = refl
not_fed F l (event.Radio t c) r = refl
not_fed F l (event.Move c to) r = refl
not_fed F l (event.Flag c b) r = refl
not_fed F l (event.Group g set) r = refl
not_fed F l (event.SendGroup s g n) r = refl
not_fed F l (event.SendLong s set n) r = refl
not_fed F l (event.Retire c) r = refl

-- of an accepted one: the text lies behind the frame
same_text : (l : List ℕ) (at n s set : ℕ) → ◌≡◌ {A = math.Option PlainCall} (math.some (plain_send s set (take n (drop (at + 16) l)))) (math.some (plain_send s set (take n (drop 16 (drop at l)))))
same_text l at n s set = ap (λ (m : List ℕ). math.some (plain_send s set (take n m))) (sym (drop-drop 16 at l))

fed_so : (F : Floor) (l : List ℕ) (at : ℕ) (e : Event) (r : events.Report)
    → made_in l (call_for e (members_for F.groups e) r.a at) ≡ fed_by (as_sent F (event_in (drop at l) e)) (accepted r)
fed_so F l at (event.Start n k) r = refl
fed_so F l at (event.Enter t c) r = refl
fed_so F l at (event.Send s set n) r = same_text l at n s.0 set
fed_so F l at (event.Wire i j) r = refl
fed_so F l at (event.Radio t c) r = refl
fed_so F l at (event.Move c to) r = refl
fed_so F l at (event.Flag c b) r = refl
fed_so F l at (event.Group g set) r = refl
fed_so F l at (event.SendGroup s g n) r = same_text l at n s.0 (F.groups g)
fed_so F l at (event.SendLong s set n) r = same_text l at n s.0 set
fed_so F l at (event.Retire c) r = refl

call_so : (M : Limits) (F : Floor) (l : List ℕ) (at : ℕ) (e : Event) (T S O : List ℕ) (said : Result Done Refusal) (members : ℕ) → members ≡ members_for F.groups e
    → answer_at T S O said ≡ answer M F (event_in (drop at l) e) → made_in l (call_told e members said at) ≡ call_of M F (event_in (drop at l) e)
call_so M F l at e T S O (Ok done) members q is =
    ap (λ (m : ℕ). made_in l (call_for e m done.report.a at)) q ∙ fed_so F l at e _ ∙ ap (fed_by (as_sent F (event_in (drop at l) e))) is
call_so M F l at e T S O (Err refusal) members q is = not_fed F (drop at l) e (number_of refusal) ∙ ap (fed_by (as_sent F (event_in (drop at l) e))) is

-- ONE EVENT was taken
pub made_so : (l : List ℕ) (L L' : Lent) (at : ℕ) (e : Event) (T S O : List ℕ) (said : Result Done Refusal) (members : ℕ) (call : Option Call) → members ≡ members_for (head_in L.stations).groups e
    → call ≡ call_told e members said at → Ready L → Met L L' (event_in (drop at l) e) (answer_at T S O said) → Made l L L' (event_in (drop at l) e) call
made_so l L L' at e T S O said members call q is R met =
    record {
      product = met.product;
      ready = stays_ready L L' (event_in (drop at l) e) (answer_at T S O said) R met;
      floor = met.floor;
      makes = ap (made_in l) is ∙ call_so (limits_of L.product) (floor_in L) l at e T S O said members q met.answers;
    }

-- and its text is there
there : (n : ℕ) (e : Event) (members initiator at : ℕ) → at + size_of e ≤ n → TextIn n (call_for e members initiator at)
there n (event.Start s k) members initiator at h = tt
there n (event.Enter t c) members initiator at h = tt
there n (event.Send s set size) members initiator at h = omega arith
there n (event.Wire i j) members initiator at h = tt
there n (event.Radio t c) members initiator at h = tt
there n (event.Move c to) members initiator at h = tt
there n (event.Flag c b) members initiator at h = tt
there n (event.Group g set) members initiator at h = tt
there n (event.SendGroup s g size) members initiator at h = omega arith
there n (event.SendLong s set size) members initiator at h = omega arith
there n (event.Retire c) members initiator at h = tt

pub text_there : (n : ℕ) (e : Event) (members : ℕ) (said : Result Done Refusal) (at : ℕ) (call : Option Call) → call ≡ call_told e members said at → at + size_of e ≤ n → TextIn n call
text_there n e members (Ok done) at call is h = rw is (there n e members done.report.a at h)
text_there n e members (Err refusal) at call is h = rw is tt
