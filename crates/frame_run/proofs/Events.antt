-- THE EVENT OF A FRAME: its text, what it answered, the rest of its line.
use mathlib.Core.Path.{◌≡◌, refl, sym, ap, ◌∙◌, subst}
use mathlib.Core.Bool.{true, false}
use mathlib.Core.List.{List, []}
use Prim.{tt}
use Prim.Native.Nat.{ℕ, ◌+◌, ◌-◌, ◌*◌, ◌<◌, ◌≤◌}
use native.Mathlib.Omega.{arith}
use lib.ListN.{length, take, drop, length-take, length-drop}
use lib.Seq.{take-nil, take-take, drop-drop}
use Rattle.protocol.specs.Floor.{Product}
use Rattle.protocol.specs.Events.{send, send_group, send_long, refused}
use Rattle.protocol.specs.Events as events
use Rattle.protocol.specs.Printed.{rest_of}
use Rattle.protocol.proofs.Tests.{by_eq}
use Rattle.products.specs.declared.Bounds.{Bounds}
use Rattle.products.specs.Numbers.{Fits, NumbersOf}
use Rattle.messages.specs.View.{rooms_in}
use Rattle.store.specs.Texts.{text_of}
use Rattle.store.proofs.HeldText.{held_length, whole_text, front_text}
use Rattle.view.specs.View.{Lent, lent}
use Rattle.view.proofs.Lengths.{lengths_of}
use Rattle.frames.specs.declared.Event.{Event}
use Rattle.frames.specs.declared.Event.TheVariants.{Send, SendGroup, SendLong}
use Rattle.frames.specs.Decoded.{event_in}
use Rattle.ids.specs.declared.Station.{Station}
use Rattle.reports.specs.Effects.{accepted_in}
use Rattle.std.specs.Prelude.{Result, Ok, Err, IfOk}
use Rattle.refusals.specs.declared.Refusal.{Refusal}
use Rattle.refusals.specs.Numbers.{number_of}
use Rattle.event_answers.specs.declared.Accepted.{Accepted}
use Rattle.event_answers.specs.declared.Told.{Told}
use Rattle.event_answers.specs.Answers.{Answer, report_of, text_size, told_of, answer_in}
use Rattle.event_answers.specs.Met.{MetWith}
use Rattle.event_radio.specs.declared.Handed.{Handed}
use Rattle.event_radio.specs.Handed.{handed_in, Lies}
use Rattle.frame_lines.specs.Lines.{Wrote, longest_rest, short_rest}
use Rattle.frame_run.specs.declared.Done.{Done}
use Rattle.frame_run.specs.declared.Dispatched.{Dispatched}
use Rattle.frame_run.specs.CanRun.{CanRun}
use Rattle.frame_run.specs.Dispatched.{without_text, with_text, dispatched_in, Within}
use Rattle.frame_run.specs.Dispatched as dispatched

-- the octets of a text, where they stand in the input
pub text_part : (l : List ℕ) (at n f e : ℕ) → f ≡ at + 16 → e ≡ f + n → take (e - f) (drop f l) ≡ take n (drop 16 (drop at l))
text_part l at n f e p q =
    let size : e - f ≡ n = omega arith in
    ap (λ (k : ℕ). take k (drop f l)) size ∙ ap (λ (k : ℕ). take n (drop k l)) p ∙ ap (λ (m : List ℕ). take n m) (sym (drop-drop 16 at l))

-- and it is short, or as long as a long one
pub short_part : (l : List ℕ) (at n : ℕ) → n ≤ 32 → length (take (at + 16 + n - (at + 16)) (drop (at + 16) l)) ≤ 32
short_part l at n h = omega (arith, length-take (at + 16 + n - (at + 16)) (drop (at + 16) l))

pub long_part : (l : List ℕ) (at n : ℕ) → (32 < n) × (n ≤ 512) → at + (16 + n) ≤ length l
    → (32 < length (take (at + 16 + n - (at + 16)) (drop (at + 16) l))) × (length (take (at + 16 + n - (at + 16)) (drop (at + 16) l)) ≤ 512)
long_part l at n fits there =
    let a = fits.0 in
    let b = fits.1 in
    let front = length-take (at + 16 + n - (at + 16)) (drop (at + 16) l) in
    let rest = length-drop (at + 16) l in
    (omega arith, omega arith)

-- the event of a send, with its text from the input
pub send_is : (l : List ℕ) (at n : ℕ) (e : Event) (s : Station) (set : ℕ) → e ≡ Send s set n
    → event_in (drop at l) e ≡ send s.0 set (take (at + 16 + n - (at + 16)) (drop (at + 16) l))
send_is l at n e s set q = ap (event_in (drop at l)) q ∙ ap (λ (x : List ℕ). send s.0 set x) (sym (text_part l at n (at + 16) (at + 16 + n) refl refl))

-- and of a send to a group
pub send_group_is : (l : List ℕ) (at n : ℕ) (e : Event) (s : Station) (g : ℕ) → e ≡ SendGroup s g n
    → event_in (drop at l) e ≡ send_group s.0 g (take (at + 16 + n - (at + 16)) (drop (at + 16) l))
send_group_is l at n e s g q = ap (event_in (drop at l)) q ∙ ap (λ (x : List ℕ). send_group s.0 g x) (sym (text_part l at n (at + 16) (at + 16 + n) refl refl))

-- and of a long one
pub send_long_is : (l : List ℕ) (at n : ℕ) (e : Event) (s : Station) (set : ℕ) → e ≡ SendLong s set n
    → event_in (drop at l) e ≡ send_long s.0 set (take (at + 16 + n - (at + 16)) (drop (at + 16) l))
send_long_is l at n e s set q = ap (event_in (drop at l)) q ∙ ap (λ (x : List ℕ). send_long s.0 set x) (sym (text_part l at n (at + 16) (at + 16 + n) refl refl))

-- A FLOOR OF THESE NUMBERS: they fit, and where there is a room at least there is a part of the texts
pub numbers_fit : (P : Product) (b : Bounds) → NumbersOf P b → Fits b
numbers_fit P b n =
    let s = n.stations_are in
    let k = n.carts_are in
    let h = n.held_is in
    let l = n.last_is in
    let s' = P.stations_fit in
    let k' = P.carts_fit in
    let h' = P.held_fit in
    let l' = P.last_fit in
    record { few_stations = omega arith; few_carts = omega arith; few_held = omega arith; low_last = omega arith }

pub some_part : (b : Bounds) (S C M W T O : List ℕ) → CanRun b (λ P. lent P S C M W T O) → 32 ≤ length T
some_part b S C M W T O R =
    let some = R.0 in
    let held = R.1.1.held_is in
    let long = (lengths_of (lent R.1.0 S C M W T O) R.1.2.lengths).texts in
    omega arith

-- WHAT WAS DONE, by what is told of it
pub done_is : (a : Accepted) (t : Told) (x : Answer) → t ≡ told_of a → x ≡ Ok a
    → ◌≡◌ {A = Result Done Refusal} (Ok (record { report = t.report; room = 0; size = 0 })) (without_text x)
done_is a t x e q = rw (e, q) refl

pub done_with_text_is : (h : Handed) (t : Told) (x : Result Handed Refusal) → t ≡ told_of h.accepted → x ≡ Ok h
    → ◌≡◌ {A = Result Done Refusal} (Ok (record { report = t.report; room = h.room; size = t.size })) (with_text x)
done_with_text_is h t x e q = rw (e, q) refl

-- WHAT WAS DISPATCHED: event e of the frame was met from what was lent to what is left, for each product of these numbers, and was told so, with the
-- messages, the texts and the store afterwards
abbrev pub Answered : Bounds → (Product → Lent) → (Product → Lent) → events.Event → (M T O : List ℕ) → Dispatched → Type 0
Answered bounds before after e M T O r = Within M T O r × MetWith bounds before after e (dispatched_in M T O r)

-- what the frame says is that event
module _ (bounds : Bounds) (before after : Product → Lent) (ev e : events.Event) (same : ev ≡ e) (M T O : List ℕ) where
  on_frame : (a : events.Answer) → MetWith bounds before after e a → MetWith bounds before after ev a
  on_frame a met = subst (λ (x : events.Event). MetWith bounds before after x a) (sym same) met

  -- an answer without a text
  pub answered_plainly : 32 ≤ length T → (a : Answer) (next octets : ℕ) (r : Dispatched) → r ≡ record { next = next; answer = without_text a; taken = octets }
      → MetWith bounds before after e (answer_in a []) → Answered bounds before after ev M T O r
  answered_plainly long (Ok a) next octets r is met =
      rw is (
        record {
          room = omega arith;
          most = omega arith;
          part = omega arith;
          parts = λ some. absurd (omega arith);
          held = λ some. absurd (omega arith);
          size = λ some. absurd (omega arith);
        },
        on_frame (accepted_in (report_of a.outcome a.effect) [])
            (subst (λ (l : List ℕ). MetWith bounds before after e (accepted_in (report_of a.outcome a.effect) l)) (take-nil (text_size a.outcome)) met),
      )
  answered_plainly long (Err refusal) next octets r is met = rw is (tt, on_frame (refused (number_of refusal)) met)

  -- a radio step's, with its text where it lies
  pub answered_text : (h : Result Handed Refusal) (next octets : ℕ) (answer : Result Done Refusal) → answer ≡ with_text h
      → IfOk h (λ x. Lies M T O 512 x) → MetWith bounds before after e (handed_in M T O h) → Answered bounds before after ev M T O (record { next = next; answer = answer; taken = octets })
  answered_text (Ok h) next octets answer is lies met =
      rw is (
        record {
          room = lies.room;
          most = lies.most;
          part = lies.parts.short;
          parts = λ some. lies.parts;
          held = λ some. lies.held;
          size = λ some. lies.size;
        },
        on_frame (handed_in M T O (Ok h)) met,
      )
  answered_text (Err refusal) next octets answer is lies met = rw is (tt, on_frame (refused (number_of refusal)) met)

-- THE REST OF THE LINE of what was dispatched
module _ (M T O : List ℕ) (r : Dispatched) (out out' : List ℕ) (at next : ℕ) where
  abbrev Rest : events.Answer → Type 0
  Rest a = Wrote longest_rest (rest_of a) out out' at next

  -- that of a refusal is no longer than any
  pub ends_refused : (refusal : Refusal) → r.answer ≡ Err refusal → Wrote short_rest (rest_of (refused (number_of refusal))) out out' at next → Rest (dispatched_in M T O r)
  ends_refused refusal q w =
      rw q
      (let few = w.few in record { octets = w.octets; behind = w.behind; few = omega arith; kept = w.kept })

  module _ (d : Done) (q : r.answer ≡ Ok d) (within : Within M T O r) where
    pub lies : dispatched.Lies M T O d
    lies = subst (dispatched.LiesIn M T O) q within

    abbrev text : List ℕ
    text = text_of T O (rooms_in M) d.room

    -- a short text is the front of its room's part
    front : d.size ≤ 32 → take d.size (drop (d.room * 32) T) ≡ take d.size text
    front short =
        by_eq d.size 0
        (λ z. ap (λ (k : ℕ). take k (drop (d.room * 32) T)) z ∙ sym (ap (λ (k : ℕ). take k text) z))
        (λ n.
        let some : 0 < d.size = omega arith in
        let size = lies.size some in
        let is = front_text M T O d.room (lies.parts some) (lies.held some) (omega arith) in
        sym (ap (take d.size) is ∙ take-take d.size ((rooms_in M).length d.room) (drop (d.room * 32) T) (omega arith)))

    pub ends_accepted : d.size ≤ 32
        → Rest (accepted_in d.report (take d.size (take (d.room * 32 + 32 - d.room * 32) (drop (d.room * 32) T)))) → Rest (dispatched_in M T O r)
    ends_accepted short w =
        let all = take-take d.size (d.room * 32 + 32 - d.room * 32) (drop (d.room * 32) T) (omega arith) in
        rw q (subst (λ (l : List ℕ). Rest (accepted_in d.report l)) (all ∙ front short) w)

    -- a longer one is lent back whole
    module _ (long : 32 < d.size) (lent_back : List ℕ) (is : lent_back ≡ text) where
      some_text : 0 < d.size
      some_text = omega arith

      pub long_asks : (0 < length lent_back) × (length lent_back ≤ 512)
      long_asks =
          let size = lies.size some_text in
          let most = lies.most in
          let octets : length lent_back ≡ (rooms_in M).length d.room =
          ap length is ∙ held_length M T O d.room (lies.parts some_text) (lies.held some_text) in
          (omega arith, omega arith)

      pub ends_long : Rest (accepted_in d.report lent_back) → Rest (dispatched_in M T O r)
      ends_long w =
          let all = whole_text M T O d.room (lies.parts some_text) (lies.held some_text) d.size (lies.size some_text) in
          rw q (subst (λ (l : List ℕ). Rest (accepted_in d.report l)) (is ∙ sym all) w)
