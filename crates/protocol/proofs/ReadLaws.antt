-- The reading call gives the text of a held message, as it was sent and as it is handed over.
use mathlib.Core.Path.{◌≡◌}
use mathlib.Core.Bool.{false, true}
use mathlib.Core.List.{List, []}
use Prim.Native.Nat.{◌<◌, ℕ}
use native.Mathlib.Omega.{arith}
use lib.Dec.{eqb}
use borrow.Author.Tests.{eqb-true, lt-leb, ne_eqb}
use Rattle.protocol.specs.Folds.{update}
use Rattle.protocol.specs.CartSets.{has, set_of}
use Rattle.protocol.specs.Floor.{Floor, Limits, is_message}
use Rattle.protocol.specs.Events.{Answer, Event, accepted, enter, flag, group, move, radio, refused, retire, send, wire}
use Rattle.protocol.specs.Groups.{as_sent}
use Rattle.protocol.specs.Handoff.{room_of}
use Rattle.protocol.specs.Wired.{with_message}
use Rattle.protocol.specs.Wireless.{hand_over}
use Rattle.protocol.specs.Form.{passes_form}
use Rattle.protocol.specs.Blank.{BlankBeyond}
use Rattle.protocol.specs.Refusals.{no_station}
use Rattle.protocol.specs.Step.{answer, step}
use Rattle.protocol.specs.SumRule.{is_radio}
use Rattle.protocol.specs.ReadText.{read_refusal, read_text}
use Rattle.protocol.proofs.Tests.{by_test, clash, eqb_self, first_nowhere}
use Rattle.protocol.proofs.SetLaws.{has_set_of, has_zero}
use Rattle.protocol.proofs.Accepted.{MaySend, by_step}
use Rattle.protocol.proofs.Invariant.{Held}
use Rattle.protocol.proofs.FormFacts.{FormFacts, room_of_held}
use Rattle.protocol.proofs.FormTest.{clauses_of, form_of}

-- a held message is read, and gives its text
read_held : (M : Limits) (F : Floor) → passes_form M F ≡ true → FormFacts M F → (m : ℕ) → Held M F.waiting m
    → (read_refusal M F (F.initiator m) (F.number m) ≡ 0) × (read_text M F (F.initiator m) (F.number m) ≡ F.text m)
unfolding read_refusal read_text
read_held M F h X m held =
    let r = room_of_held M F X m held in
    let s = lt-leb F.stations (F.initiator m) (X.senders (F.initiator m) (let z = X.kept m held in omega arith)) in
    (rw (h, s, r), rw (h, s, r))

-- one that is not held
pub unheld_is_28 : (M : Limits) (F : Floor) (s n : ℕ) → passes_form M F ≡ true → no_station F s ≡ false
    → ((m : ℕ) → m < M.held → is_message F s n m ≡ false) → read_refusal M F s n ≡ 28
unfolding read_refusal room_of
unheld_is_28 M F s n h a8 none_held = rw (h, a8, first_nowhere M.held (is_message F s n) none_held)

-- whatever is refused
pub read_nothing : (M : Limits) (F : Floor) (s n : ℕ) → 0 < read_refusal M F s n → read_text M F s n ≡ []
unfolding read_text
read_nothing M F s n h = rw (ne_eqb (read_refusal M F s n) 0 (λ z. omega arith))

-- RADIO

-- what two different events are the same as
impossible : {P : Type 0} → ◌≡◌ {A = ℕ} 0 1 → P
impossible e = absurd (omega arith)

abbrev Reads : Limits → Floor → Event → Floor → Answer → Type 0
Reads M F e X (refused r) = Unit {0}
Reads M F e X (accepted l) = is_radio e ≡ 1 → (read_refusal M F l.a l.b ≡ 0) × (read_text M F l.a l.b ≡ l.text)

no_radio : {P : Type 0} → ◌≡◌ {A = ℕ} 0 1 → P
no_radio e = absurd (omega arith)

pub step_reads : (M : Limits) (F : Floor) → BlankBeyond M F → passes_form M F ≡ true → (e : Event) → Reads M F e (step M F e) (answer M F e)
unfolding hand_over
step_reads M F B h =
    let X = form_of M F B (clauses_of M F h) in
    by_step M F (Reads M F) X.started (λ e r. tt)
    (λ t c may. no_radio)
    (λ s set text m may. no_radio)
    (λ i j r l may. no_radio)
    (λ t c buffer m may w. read_held M F h X m (X.queues m t c may.queued).held)
    (λ c to may. no_radio)
    (λ c b may. no_radio)
    (λ c may. no_radio)
    (λ g set may. no_radio)
    (λ s g text m may. no_radio)
    (λ s set text m may. no_radio)

-- SEND

abbrev SendReads : Limits → Floor → Event → Floor → Answer → Type 0
SendReads M F e X (refused r) = Unit {0}
SendReads M F e X (accepted l) = BlankBeyond M X → passes_form M X ≡ true → (s set : ℕ) (text : List ℕ) → as_sent F e ≡ send s set text
    → (read_refusal M X s l.b ≡ 0) × (read_text M X s l.b ≡ text)

-- the message that was sent
sent_reads : (M : Limits) (F : Floor) (s set : ℕ) (text : List ℕ) (m : ℕ) → MaySend M F s set text m → BlankBeyond M (with_message F m s set text)
    → passes_form M (with_message F m s set text) ≡ true
    → (read_refusal M (with_message F m s set text) s (F.sent s) ≡ 0) × (read_text M (with_message F m s set text) s (F.sent s) ≡ text)
unfolding with_message
sent_reads M F s set text m may B h =
    let Y = with_message F m s set text in
    let full : eqb (set_of F.stations (λ t. true)) 0 ≡ false =
    by_test (eqb (set_of F.stations (λ t. true)) 0)
    (λ e. let z = has_set_of F.stations (λ t. true) s may.names.station in
    let y = eqb-true (set_of F.stations (λ t. true)) 0 e in
    clash (has 0 s) (rw y at z) (has_zero s))
    (λ e. e) in
    let held : Held M (update F.waiting m (set_of F.stations (λ t. true))) m = record { slot = may.takes.room; some = rw (eqb_self m) full } in
    let z = read_held M Y h (form_of M Y B (clauses_of M Y h)) m held in
    rw (eqb_self m) at z

pub step_send_reads : (M : Limits) (F : Floor) → F.started ≡ true → (e : Event) → SendReads M F e (step M F e) (answer M F e)
step_send_reads M F begun =
    by_step M F (SendReads M F) begun (λ e r. tt)
    (λ t c may B h s set text q. impossible (let z : enter t c ≡ send s set text = q in cc))
    (λ u x y m may B h s set text q.
    let z : send u x y ≡ send s set text = q in
    let a : u ≡ s = cc in let b : y ≡ text = cc in rw (← a, ← b) (sent_reads M F u x y m may B h))
    (λ i j r l may B h s set text q. impossible (let z : wire i j ≡ send s set text = q in cc))
    (λ t c buffer m may B h s set text q. impossible (let z : radio t c buffer ≡ send s set text = q in cc))
    (λ c to may B h s set text q. impossible (let z : move c to ≡ send s set text = q in cc))
    (λ c b may B h s set text q. impossible (let z : flag c b ≡ send s set text = q in cc))
    (λ c may B h s set text q. impossible (let z : retire c ≡ send s set text = q in cc))
    (λ g x may B h s set text q. impossible (let z : group g x ≡ send s set text = q in cc))
    (λ u g y m may B h s set text q.
    let z : send u (F.groups g) y ≡ send s set text = q in
    let a : u ≡ s = cc in let b : y ≡ text = cc in rw (← a, ← b) (sent_reads M F u (F.groups g) y m may B h))
    (λ u x y m may B h s set text q.
    let z : send u x y ≡ send s set text = q in
    let a : u ≡ s = cc in let b : y ≡ text = cc in rw (← a, ← b) (sent_reads M F u x y m may B h))
