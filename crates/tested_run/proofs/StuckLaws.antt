-- A FLOOR THAT NO EVENT CAN GO ON WITH: every event is refused, and nothing changes.
use mathlib.Core.Path.{◌≡◌, refl, sym, ap, ◌∙◌, subst}
use mathlib.Core.Bool.{Bool, true, false, not, cond}
use mathlib.Core.List.{List, [], ◌∷◌}
use Prim.{tt}
use Prim.Native.Nat.{ℕ, ◌+◌, ◌≤◌}
use native.Mathlib.Omega.{arith}
use lib.Dec.{eqb}
use lib.ListN.{length, take, drop, length-drop}
use lib.Seq.{length-take-le}
use borrow.Author.Tests.{eqb-true, not-true, not-false}
use denote.Enum.Declared.{tag_of}
use types.Run.{OneOf, miss}
use Rattle.protocol.specs.Floor.{limits_of}
use Rattle.protocol.specs.Form.{passes_form}
use Rattle.protocol.specs.Events.{Answer, start, refused}
use Rattle.protocol.specs.Printed.{line_of}
use Rattle.protocol.proofs.Tests.{by_test, clash}
use Rattle.stations.specs.View.{head_in}
use Rattle.view.specs.View.{Lent, lengths_in, floor_in}
use Rattle.form_test.proofs.Split.{fails_lengths}
use Rattle.event_start.proofs.Starts.{start_lengths, start_begun}
use Rattle.event_answers.specs.Met.{Met, Ready}
use Rattle.event_answers.proofs.Broken.{broken_enter, broken_send, broken_wire, broken_radio, broken_move, broken_flag, broken_group, broken_send_group, broken_send_long, broken_retire}
use Rattle.frames.specs.declared.Event.{Event}
use Rattle.frames.specs.declared.Event.TheVariants.{Start, Enter, Send, Wire, Radio, Move, Flag, Group, SendGroup, SendLong, Retire}
use Rattle.frames.specs.contracts.Event.{the_type as event_type}
use Rattle.frames.specs.Decoded.{event_in, size_of, TextFits}
use Rattle.frame_lines.specs.Lines.{Wrote, longest_line, longest_refusal}
use Rattle.frame_run.specs.declared.Progress.{Progress}
use Rattle.frame_run.specs.declared.Stop.TheVariants.{Full}
use Rattle.frame_run.specs.Stops.{stop_number}
use Rattle.frame_run.specs.Went.{TookOn, WentOn}
use Rattle.tested_run.specs.Stuck.{Stuck, ByTest, stuck_number, AnyLent, RanAny}

-- WHICH FLOOR IT IS, in the way of the code that asked
module _ (L : Lent) (lengths : Bool) (lengths_are : lengths ≡ lengths_in L) where
  pub wrong_lengths : not lengths ≡ true → ByTest true lengths L
  wrong_lengths h =
      let no = not-true lengths h in (
        λ _. record {
          lengths_are = lengths_are;
          begun = λ t. clash lengths t no;
          breaks = fails_lengths L.product L.stations L.carts L.messages L.lines L.texts L.store lengths lengths_are no;
        },
        λ e. clash true refl e,
      )

  module _ (right : not lengths ≡ false) (marked : Bool) (mark_is : marked ≡ eqb (head_in L.stations).mark 1) where
    all_right : lengths_in L ≡ true
    all_right = sym lengths_are ∙ not-false lengths right

    pub not_started : not marked ≡ true → ByTest false lengths L
    not_started h = (λ e. clash false e refl, λ _. record { lengths = all_right; passes = λ s. clash marked (mark_is ∙ s) (not-true marked h) })

    pub started : not marked ≡ false → (tested : Bool) → tested ≡ passes_form (limits_of L.product) (floor_in L) → ByTest (not tested) lengths L
    started h tested test_is = (
      λ e. record {
        lengths_are = lengths_are;
        begun = λ _. eqb-true (head_in L.stations).mark 1 (sym mark_is ∙ not-false marked h);
        breaks = sym (not-true tested e) ∙ test_is;
      },
      λ e. record { lengths = all_right; passes = λ _. sym test_is ∙ not-false tested e },
    )

-- every event but a start is refused with the same number
abbrev others : List ℕ
others = 1 ∷ 2 ∷ 3 ∷ 4 ∷ 5 ∷ 6 ∷ 7 ∷ 8 ∷ 9 ∷ 10 ∷ []

pub other_number : (lengths : Bool) (e : Event) → OneOf others (tag_of event_type e) → 5 ≡ stuck_number lengths e
other_number lengths (Start n k) h = absurd (miss others 0 tt h)
other_number lengths (Enter t c) h = refl
other_number lengths (Send s set n) h = refl
other_number lengths (Wire i j) h = refl
other_number lengths (Radio t c) h = refl
other_number lengths (Move c to) h = refl
other_number lengths (Flag c b) h = refl
other_number lengths (Group g set) h = refl
other_number lengths (SendGroup s g n) h = refl
other_number lengths (SendLong s set n) h = refl
other_number lengths (Retire c) h = refl

-- the text of a send, in the octets from its frame on
text_length_lem : (l : List ℕ) (n : ℕ) → 16 + n ≤ length l → length (take n (drop 16 l)) ≡ n
text_length_lem l n h = length-take-le n (drop 16 l) (simp length-drop (omega arith))

-- EVERY EVENT IS REFUSED
module _ (lengths : Bool) (L : Lent) (s : Stuck lengths L) where
  start_met : (n k : ℕ) → Met L L (start n k) (refused (cond lengths 6 5))
  start_met n k =
      by_test lengths
      (λ t. subst (λ (b : Bool). Met L L (start n k) (refused (cond b 6 5))) (sym t) (start_begun L.product L.stations L.carts L.messages L.lines L.texts L.store n k lengths s.lengths_are t (s.begun t)))
      (λ f. subst (λ (b : Bool). Met L L (start n k) (refused (cond b 6 5))) (sym f) (start_lengths L.product L.stations L.carts L.messages L.lines L.texts L.store n k lengths s.lengths_are f))

  pub stuck_met : (l : List ℕ) (e : Event) → TextFits e → size_of e ≤ length l → Met L L (event_in l e) (refused (stuck_number lengths e))
  stuck_met l (Start n k) f z = start_met n k
  stuck_met l (Enter t c) f z = broken_enter L false s.breaks refl t.0 c.0
  stuck_met l (Send i set n) f z = broken_send L false s.breaks refl i.0 set (take n (drop 16 l)) (let q = text_length_lem l n z in omega arith)
  stuck_met l (Wire i j) f z = broken_wire L false s.breaks refl i.0 j.0
  stuck_met l (Radio t c) f z = broken_radio L false s.breaks refl t.0 c.0 512
  stuck_met l (Move c to) f z = broken_move L false s.breaks refl c.0 to.0
  stuck_met l (Flag c b) f z = broken_flag L false s.breaks refl c.0 b
  stuck_met l (Group g set) f z = broken_group L false s.breaks refl g set
  stuck_met l (SendGroup i g n) f z = broken_send_group L false s.breaks refl i.0 g (take n (drop 16 l)) (let q = text_length_lem l n z in omega arith)
  stuck_met l (SendLong i set n) f z =
      let q = text_length_lem l n z in
      broken_send_long L false s.breaks refl i.0 set (take n (drop 16 l)) (let a = f.0 in omega arith) (let a = f.1 in omega arith)
  stuck_met l (Retire c) f z = broken_retire L false s.breaks refl c.0

  -- its event was taken, and its line is that of the refusal
  pub stuck_took : (index : ℕ) (input out out' : List ℕ) (p r : Progress) (e : Event) (number size : ℕ) → number ≡ stuck_number lengths e → size ≡ size_of e → TextFits e
      → p.read + size_of e ≤ length input → Wrote longest_refusal (line_of index (refused number)) out out' p.written r.written
      → (r.read ≡ p.read + size) × (r.frames ≡ p.frames + 1) × (r.state ≡ Full)
      → TookOn (Stuck lengths) index L L out out' p r (event_in (drop p.read input) e) (size_of e)
  stuck_took index input out out' p r e number size is size_is fits inside wrote said =
      record {
        product = refl;
        ready = s;
        floor = met.floor;
        line = subst (λ (a : Answer). Wrote longest_line (line_of index a) out out' p.written r.written) (ap refused is ∙ met.answers)
            (record { octets = wrote.octets; behind = wrote.behind; few = let a = wrote.few in omega arith; kept = wrote.kept });
        read = said.0 ∙ ap (λ (k : ℕ). p.read + k) size_is;
        frames = said.1;
        state = ap stop_number said.2;
      }
    where
      met : Met L L (event_in (drop p.read input) e) (refused (stuck_number lengths e))
      met = stuck_met (drop p.read input) e fits (simp length-drop (omega arith))

-- WHICHEVER FLOOR IT IS, the piece was run
module _ (Kept : Lent → Type 0) (input : List ℕ) (index : ℕ) (last : Bool) (L L' : Lent) (out out' : List ℕ) (p : Progress) where
  any_went : WentOn Kept input index last L L' out out' p → WentOn AnyLent input index last L L' out out' p
  any_went w =
      record {
        product = w.product;
        ready = tt;
        run = w.run;
        inside = w.inside;
        few = w.few;
        within = w.within;
        kept = w.kept;
        why = w.why;
        waits = w.waits;
        ends = w.ends;
        full = w.full;
      }

  pub ran_any : WentOn Kept input index last L L' out out' p → ((Ready L → ⊥) → L' ≡ L) → RanAny input index last L L' out out' p
  ran_any w same = record { went = any_went w; untouched = same }
