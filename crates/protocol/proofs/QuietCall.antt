-- The dispatcher's call: what it is refused for, and what its steps write into the lent buffer.
use mathlib.Core.Path.{refl, sym, ◌∙◌, ◌≡◌}
use mathlib.Core.Bool.{Bool, false, not, true}
use mathlib.Core.List.{List, [], ◌∷◌}
use Prim.Native.Nat.{◌<◌, ℕ, ◌≤◌}
use native.Mathlib.Omega.{arith}
use lib.Dec.{eqb}
use lib.ListN.{drop, length, length-append, length-drop}
use borrow.Author.Tests.{le-ltb, lt-ltb, ne_eqb}
use Rattle.protocol.specs.CartSets.{union}
use Rattle.protocol.specs.Floor.{Floor, Limits, Record, ack_list, delete, deregister, is_at, most_text, multicast, register}
use Rattle.protocol.specs.Events.{Answer, Done, Event, accepted, buffer_after, radio, refused, wire}
use Rattle.protocol.specs.Handoff.{on_register, room_of}
use Rattle.protocol.specs.Deregister.{on_deregister}
use Rattle.protocol.specs.Wired.{handle, multicast_by_row, on_ack_list, on_delete, on_multicast, on_wire}
use Rattle.protocol.specs.Wireless.{hand_over, queue_head}
use Rattle.protocol.specs.Form.{passes_form}
use Rattle.protocol.specs.Blank.{BlankBeyond}
use Rattle.protocol.specs.Refusals.{buffer_short, check, head_lacks, no_cart, no_station, refusal, refusal_if}
use Rattle.protocol.specs.Step.{accept, answer, answers, step}
use Rattle.protocol.specs.Quiet.{IsWork, Works, buffers_after, quiet_after, quiet_buffer, quiet_call, quiet_floor, quiet_refusal, quiet_steps, turned_away}
use Rattle.protocol.proofs.Tests.{by_eq, on_cond, on_head, on_option}
use Rattle.protocol.proofs.Accepted.{by_step, unlined}
use Rattle.protocol.proofs.Sized.{Sized}
use Rattle.protocol.proofs.QueueOrder.{head_first}
use Rattle.protocol.proofs.FormTest.{clauses_of, sized_of}
use Rattle.protocol.proofs.FormRule.{form_kept}

-- REFUSALS

pub broken_is_5 : (M : Limits) (F : Floor) (size : ℕ) → passes_form M F ≡ false → quiet_refusal M F size ≡ 5
unfolding quiet_refusal
broken_is_5 M F size h = rw h

pub short_is_21 : (M : Limits) (F : Floor) (size : ℕ) → passes_form M F ≡ true → size < most_text M → quiet_refusal M F size ≡ 21
unfolding quiet_refusal
short_is_21 M F size h l = rw (h, lt-ltb size (most_text M) l)

pub else_runs : (M : Limits) (F : Floor) (size : ℕ) → passes_form M F ≡ true → most_text M ≤ size → quiet_refusal M F size ≡ 0
unfolding quiet_refusal
else_runs M F size h l = rw (h, le-ltb size (most_text M) l)

-- a call that is refused
pub call_refused : (M : Limits) (F : Floor) (buffer : List ℕ) (r : ℕ) → 0 < r → quiet_refusal M F (length buffer) ≡ r
    → (quiet_call M F buffer).answer ≡ turned_away r
unfolding quiet_call
call_refused M F buffer r pos z = rw (z, ne_eqb r 0 (omega arith))

pub refused_call_keeps : (M : Limits) (F : Floor) (buffer : List ℕ) (r : ℕ) → (quiet_call M F buffer).answer ≡ turned_away r
    → ((quiet_call M F buffer).floor ≡ F) × ((quiet_call M F buffer).buffer ≡ buffer)
unfolding quiet_call
refused_call_keeps M F buffer r a =
    by_eq (quiet_refusal M F (length buffer)) 0
    (λ z. absurd (let b : quiet_after (quiet_steps M F) ≡ turned_away r = rw z at a in let y : ◌≡◌ {A = ℕ} 0 1 = cc in omega arith))
    (λ z. rw (ne_eqb (quiet_refusal M F (length buffer)) 0 z) (refl, refl))

-- a call that runs
pub call_runs : (M : Limits) (F : Floor) (buffer : List ℕ) → quiet_refusal M F (length buffer) ≡ 0
    → ((quiet_call M F buffer).answer ≡ quiet_after (quiet_steps M F))
    × (((quiet_call M F buffer).floor ≡ quiet_floor M F) × ((quiet_call M F buffer).buffer ≡ quiet_buffer M F buffer))
unfolding quiet_call
call_runs M F buffer z = rw z (refl, (refl, refl))

-- and one that answers a number of steps has run
pub call_ran : (M : Limits) (F : Floor) (buffer : List ℕ) (steps : ℕ) → (quiet_call M F buffer).answer ≡ quiet_after steps
    → (steps ≡ quiet_steps M F) × ((quiet_call M F buffer).floor ≡ quiet_floor M F)
call_ran M F buffer steps a =
    by_eq (quiet_refusal M F (length buffer)) 0
    (λ z. let r = call_runs M F buffer z in let e : quiet_after steps ≡ quiet_after (quiet_steps M F) = sym a ∙ r.0 in (cc, r.1.0))
    (λ z. absurd (let e : quiet_after steps ≡ turned_away (quiet_refusal M F (length buffer)) = sym a ∙ call_refused M F buffer _ (omega arith) refl in
    let y : ◌≡◌ {A = ℕ} 0 1 = cc in omega arith))

-- WHAT A STEP WRITES

-- a wire step reports no text
handled_no_text : (M : Limits) (F : Floor) (i j : ℕ) (r : Record) → (handle M F i j r).report.text ≡ []
unfolding handle on_multicast multicast_by_row on_ack_list on_delete on_deregister on_register
handled_no_text M F i j (multicast n) = on_option (λ (d : Done). d.report.text ≡ []) (room_of M F i n) (λ q. refl) (λ m q. refl)
handled_no_text M F i j (ack_list n set) =
    on_option (λ (d : Done). d.report.text ≡ []) (room_of M F j n) (λ q. refl)
    (λ m q. on_cond (λ (d : Done). d.report.text ≡ []) (eqb (union (F.acked m) set) (F.named m)) (λ b. refl) (λ b. refl))
handled_no_text M F i j (delete n) = on_option (λ (d : Done). d.report.text ≡ []) (room_of M F i n) (λ q. refl) (λ m q. refl)
handled_no_text M F i j (deregister c) = refl
handled_no_text M F i j (register c row) = refl

pub wire_no_text : (M : Limits) (F : Floor) (i j : ℕ) → (on_wire M F i j).report.text ≡ []
unfolding on_wire
wire_no_text M F i j = on_head (λ (d : Done). d.report.text ≡ []) (F.lines i j) (λ q. refl) (λ r l q. handled_no_text M _ i j r)

-- so it leaves the lent buffer
pub wire_leaves_buffer : (M : Limits) (F : Floor) (i j : ℕ) (buffer : List ℕ) → buffer_after (answer M F (wire i j)) buffer ≡ buffer
unfolding answer accept
wire_leaves_buffer M F i j buffer =
    on_cond (λ (a : Answer). buffer_after a buffer ≡ buffer) (eqb (refusal M F (wire i j)) 0) (λ b. rw (wire_no_text M F i j)) (λ b. refl)

-- no text of a wire or radio step is longer than the longest
abbrev TextFits : Limits → Event → Answer → Type 0
TextFits M e (refused r) = Unit {0}
TextFits M e (accepted l) = IsWork e → length l.text ≤ most_text M

text_fits : (M : Limits) (F : Floor) → F.started ≡ true → Sized M F → (e : Event) → TextFits M e (answer M F e)
unfolding hand_over
text_fits M F begun S =
    by_step M F (λ e X a. TextFits M e a) begun (λ e r. tt)
    (λ t c may w. absurd w)
    (λ s set text m may w. absurd w)
    (λ i j r l may w. rw (handled_no_text M (unlined F i j) i j r) (omega arith))
    (λ t c buffer m may w. S.messages.text m (head_first M F t m may.is_head).0)
    (λ c to may w. absurd w)
    (λ c b may w. absurd w)
    (λ c may w. absurd w)
    (λ g set may w. absurd w)
    (λ s g text m may w. absurd w)
    (λ s set text m may w. absurd w)

-- so each leaves the length of a buffer that takes the longest text
written_length : (M : Limits) (e : Event) (a : Answer) (buffer : List ℕ) → TextFits M e a → IsWork e → most_text M ≤ length buffer
    → length (buffer_after a buffer) ≡ length buffer
written_length M e (refused r) buffer f w l = refl
written_length M e (accepted x) buffer f w l =
    let a = length-append x.text (drop (length x.text) buffer) in
    let b = length-drop (length x.text) buffer in
    let h = f w in
    omega arith

pub run_leaves_length : (M : Limits) (F : Floor) (es : List Event) (buffer : List ℕ) → BlankBeyond M F → passes_form M F ≡ true → Works M F es
    → most_text M ≤ length buffer
    → length (buffers_after (answers M F es) buffer) ≡ length buffer
unfolding answers
run_leaves_length M F [] buffer B h w l = refl
run_leaves_length M F (e ∷ es) buffer B h w l =
    let P = clauses_of M F h in
    let g = form_kept M F e B h in
    let x = written_length M e (answer M F e) buffer (text_fits M F P.floor.0 (sized_of M F B P) e) w.1.0 l in
    let y = run_leaves_length M (step M F e) es (buffer_after (answer M F e) buffer) g.0 g.1 w.1.1 (omega arith) in
    omega arith

-- "the buffer counts as lent anew to each": a radio step is the same with any buffer that takes the longest text
pub radio_any_buffer : (M : Limits) (F : Floor) (t c size : ℕ) → BlankBeyond M F → passes_form M F ≡ true → most_text M ≤ size
    → refusal M F (radio t c size) ≡ refusal M F (radio t c (most_text M))
unfolding refusal refusal_if
radio_any_buffer M F t c size B h l =
    let S = sized_of M F B (clauses_of M F h) in
    let fits : (b : ℕ) → most_text M ≤ b → buffer_short M F t b ≡ false =
    λ b lb. on_option (λ (x : Bool). x ≡ false) (queue_head M F t) (λ q. refl)
    (λ m q. le-ltb b (length (F.text m)) (let z = S.messages.text m (head_first M F t m q).0 in omega arith)) in
    rw (fits size l, fits (most_text M) (omega arith))

-- and is never refused for it
pub never_21 : (M : Limits) (F : Floor) (t c size : ℕ) → BlankBeyond M F → passes_form M F ≡ true → most_text M ≤ size → refusal M F (radio t c size)
    ≡ 21 → ⊥
unfolding refusal refusal_if
never_21 M F t c size B h l =
    let S = sized_of M F B (clauses_of M F h) in
    let fits : buffer_short M F t size ≡ false =
    on_option (λ (x : Bool). x ≡ false) (queue_head M F t) (λ q. refl)
    (λ m q. le-ltb size (length (F.text m)) (let z = S.messages.text m (head_first M F t m q).0 in omega arith)) in
    let other : (n : ℕ) (applies : Bool) (rest : ℕ) → (n ≡ 21 → ⊥) → (rest ≡ 21 → ⊥) → check n applies rest ≡ 21 → ⊥ =
    λ n applies rest a b. on_cond (λ (x : ℕ). x ≡ 21 → ⊥) applies (λ e. a) (λ e. b) in
    rw (h, fits)
    (other 8 (no_station F t) _ (λ z. omega arith)
    (other 9 (no_cart F c) _ (λ z. omega arith)
    (other 16 (not (is_at (F.place c) t)) _ (λ z. omega arith)
    (other 25 (not (F.steady c)) _ (λ z. omega arith)
    (other 17 (head_lacks M F t c) 0 (λ z. omega arith) (λ z. omega arith))))))
