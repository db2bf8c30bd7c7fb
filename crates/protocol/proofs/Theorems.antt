use mathlib.Core.Path.{ap, ap₂, refl, subst, sym, ◌∙◌, ◌≡◌}
use mathlib.Core.Bool.{◌&&◌, Bool, cond, false, not, true, ◌||◌}
use mathlib.Core.Logic.{◌⊎◌}
use mathlib.Core.Option.{none, some}
use mathlib.Core.List.{◌++◌, List, [], map, ◌∷◌}
use Prim.Native.Nat.{◌%◌, ◌*◌, ◌+◌, ◌-◌, ◌/◌, ◌<◌, ◌^◌, max, suc, ℕ, ◌≤◌}
use native.Mathlib.Nat.{mul-le-mul_left, mul-le-mul_right}
use native.Mathlib.Omega.{arith}
use lib.Dec.{eqb, ltb}
use lib.ListN.{drop, get_or, length, replicate, take}
use borrow.Author.Tests.{le-leb, lt-leb, ne_eqb, not-true}
use Rattle.protocol.specs.Folds.{count, is_empty, is_none, sum, update}
use Rattle.protocol.specs.CartSets.{has}
use Rattle.protocol.specs.Floor.{Floor, Limits, Place, Product, Record, ack_list, at, behead, delete, entered, is_at, is_buffered, is_held, is_local, is_message, just_started, kit, limits, limits_of, most_records, most_text, moving, multicast, on_lines, on_the_lines, outside, register, set_groups, set_next, set_place, set_steady, set_texts, station_of, unstarted}
use Rattle.protocol.specs.Events.{Event, Report, accepted, buffer_after, enter, flag, group, move, radio, refused, retire, send, send_group, send_long, start, wire}
use Rattle.protocol.specs.Groups.{as_sent, members_of, on_group}
use Rattle.protocol.specs.Store.{not_long, store_used}
use Rattle.protocol.specs.Order.{place_in}
use Rattle.protocol.specs.Handoff.{arrive, entry_of, on_enter, on_flag, on_register, on_retire, room_of, row_of}
use Rattle.protocol.specs.Wired.{free_room, handle, local_row, multicast_by_row, on_delete, on_multicast, on_wire}
use Rattle.protocol.specs.Wireless.{queue_head}
use Rattle.protocol.specs.Deregister.{buffered_rooms, in_order, is_complete, leave, on_deregister, test_each, times_in}
use Rattle.protocol.specs.Form.{form_rule, passes_form}
use Rattle.protocol.specs.Blank.{BlankBeyond}
use Rattle.protocol.specs.Refusals.{no_cart, no_group, no_station, not_entered, refusal, refusal_if, strangers, undefined, wrong_size}
use Rattle.protocol.specs.Step.{accept, answer, answers, floor_after, step}
use Rattle.protocol.specs.Quiet.{AllSteady, IsWork, Works, buffers_after, dispatched, most_steps, next_event, quiet_after, quiet_call, quiet_events, quiet_floor, quiet_steps, turned_away, would_receive}
use Rattle.protocol.specs.Potential.{potential}
use Rattle.protocol.specs.Route.{Sending, retires_none, sendings_of}
use Rattle.protocol.specs.TwoLists.{Item, Lists, TwoListRule, both_empty, item, lists_after, owes}
use Rattle.protocol.specs.SumRule.{gains, taken_away, total}
use Rattle.protocol.specs.PlainLists.{NeverRefused, Plain, PlainCall, appended, beheaded, call_of, entries, exchanges, plain_after, plain_after_calls, plain_answer, plain_passes, plain_refusal, plain_refused, plain_run, plain_start, plain_started, plain_step, plain_take, plain_took, plain_unstarted, receipt_lines_from}
use Rattle.protocol.specs.Frames.{Fields, Reading, fields_refusal, frames_from, frames_in}
use Rattle.protocol.specs.Printed.{lines_from, printed_run}
use Rattle.protocol.specs.ReadText.{read_refusal, read_text}
use Rattle.protocol.specs.Blur.{blur, blur_answer, blur_event, blur_printed, blur_reading}
use Rattle.protocol.specs.Ranges.{InRange, NumbersBelow, Wide}
use Rattle.protocol.specs.Examples.{K1frames, all_sent, examples, held_on, octets_of, outcome, rolls_away, smallest, stood_still, went_back}
use Rattle.protocol.proofs.Tests.{by_eq, clash, eqb_self, on_cond, or_right}
use Rattle.protocol.proofs.InOrder.{deregister_counts, none_stays, tested_once}
use Rattle.protocol.proofs.Readings.{above_10_is_2, above_15_is_26, arrive_keeps_flags, deregister_keeps_flags, emptied_by_retiring, emptied_is_undefined, entry_leaves_others, form_without_texts, freed_by_the_last, full_is_27, group_alone, length_is_4, move_keeps_flags, moving_is_19, named_is_29, no_cart_is_9, no_station_is_8, no_such_cart_is_9, no_text_is_24, none_free_is_14, not_entered_before_24, not_entered_is_12, not_here_is_16, not_in_is_18, other_flag_is_3, others_as_they_were, others_stay, outside_is_18, places_not_asked, put_at_the_end, register_is_last, register_keeps_flags, rest_stays, retire_alone, retired_out, row_kept, row_of_local, strangers_are_9, stray_at_10_is_3, stray_is_3, too_large_is_7, undefined_is_26, unnamed_is_none, unsteady_is_25, used_up_is_13}
use Rattle.protocol.proofs.Accepted.{MayWire, accepted_passes, accepted_report, is_long_lem, long_as_the_send, may_move, may_radio, may_retire, may_send, may_wire, passed_check, printed_as_the_send, sent_as_the_send}
use Rattle.protocol.proofs.Demand3.{nothing, started_ok, step_size}
use Rattle.protocol.proofs.Counting.{sum_ext, sum_term}
use Rattle.protocol.proofs.HandoffSteps.{carried}
use Rattle.protocol.proofs.Invariant.{Held}
use Rattle.protocol.proofs.FloorLaws.{at_home}
use Rattle.protocol.proofs.SumSteps.{arrive_bound, enter_over_all, unwaited_over_all}
use Rattle.protocol.proofs.SumRun.{started_total, sums}
use Rattle.protocol.proofs.FormFacts.{past, some_history}
use Rattle.protocol.proofs.ClaimLaws.{reflect}
use Rattle.protocol.proofs.Sized.{CountsFit}
use Rattle.protocol.proofs.Unspoken.{unspoken}
use Rattle.protocol.proofs.FormTest.{clauses_of, form_of, sized_of}
use Rattle.protocol.proofs.FormRule.{form_bound, form_kept, form_started}
use Rattle.protocol.proofs.Ready.{ready_run, ready_unstarted, right_size, started_after, unstarted_fails}
use Rattle.protocol.proofs.Width.{numbers_below}
use Rattle.protocol.proofs.ExamplesHold.{closed, lists_of_K1, most_passed, rolled_away, table_holds, went_back_lem}
use Rattle.protocol.proofs.InRange.{in_range, step_most}
use Rattle.protocol.proofs.QueueOrder.{head_first, tested_in_order}
use Rattle.protocol.proofs.Places.{head_place, place_is_position, places_most}
use Rattle.protocol.proofs.NextEvent.{FirstLine, LowestCart, Quiet, next_is_lem, quiet_refuses}
use Rattle.protocol.proofs.QuietRun.{accepted_falls, all_work, no_more, potential_most, steps_bounded, stops}
use Rattle.protocol.proofs.LiveRun.{floor_after_more, history_after, none_owed, quiet_holds, reached_run, reached_start}
use Rattle.protocol.proofs.QuietCall.{broken_is_5, call_refused, call_runs, else_runs, never_21, radio_any_buffer, refused_call_keeps, run_leaves_length, short_is_21, wire_leaves_buffer}
use Rattle.protocol.proofs.PlainLaws.{entries_more, plain_form_after, plain_form_kept, refused_call_alone, start_alike}
use Rattle.protocol.proofs.PlainRun.{beside_run, beside_start, few_beside, goes, met_passes}
use Rattle.protocol.proofs.PlainLines.{before, head_answered, through}
use Rattle.protocol.proofs.Found.{ack_list_room, delete_room, multicast_room}
use Rattle.protocol.proofs.Texts.{texts_after}
use Rattle.protocol.proofs.Route.{listed}
use Rattle.protocol.proofs.BlurRun.{answers_blurred, floor_blurred}
use Rattle.protocol.proofs.BlurPrint.{blur_keeps_length, frames_enough, lines_blurred, lines_by_frames, lines_of}
use Rattle.protocol.proofs.ReadLaws.{read_nothing, step_reads, step_send_reads, unheld_is_28}
use Rattle.protocol.proofs.StoreRoom.{never_27}
use Rattle.protocol.proofs.LinesSteps.{started_lines}
use Rattle.protocol.proofs.ListsRun.{rule_after, sent_is}
use Rattle.protocol.proofs.RetireStep.{enter_keeps_groups}

-- WHAT IS PROVED of the written steps. Each statement uses names of specs/ alone; M are any limits, `limits` those of the floor.

-- DEMAND 1: "A refusal gives its number alone and changes no floor"
pub refusal_changes_nothing : (M : Limits) (F : Floor) (e : Event) (r : ℕ) → answer M F e ≡ refused r → step M F e ≡ F
unfolding answer step
refusal_changes_nothing M F e r a =
    by_eq (refusal M F e) 0
    (λ z. absurd (let b : accepted (accept M F e).report ≡ refused r = rw z at a in let y : ◌≡◌ {A = ℕ} 0 1 = cc in omega arith))
    (λ z. rw (ne_eqb (refusal M F e) 0 z))

-- "it writes all the rest afresh": whatever floor a start is given, if it is accepted the floor is just started, of a size within the limits
pub start_afresh : (M : Limits) (F : Floor) (n k : ℕ) (l : Report) → answer M F (start n k) ≡ accepted l → (step M F (start n k) ≡ just_started n k) × (wrong_size M n k ≡ false)
unfolding step accept refusal refusal_if
start_afresh M F n k l a =
    let z = accepted_passes M F (start n k) l a in
    (rw z, (passed_check 7 (wrong_size M n k) _ (omega arith) (passed_check 6 F.started _ (omega arith) (passed_check 5 (not F.lengths_right) _ (omega arith) z).1).1).0)

-- what holds of every run from a floor just started holds of every run from the floor that an accepted start left
from_start : (P : Floor → Type 0) (M : Limits) (F : Floor) (n k : ℕ) (l : Report) → answer M F (start n k) ≡ accepted l → (CountsFit M n k → P (just_started n k)) → P (step M F (start n k))
from_start P M F n k l a h = let z = start_afresh M F n k l a in subst P (sym z.0) (h (right_size M n k z.1))

-- DEMAND 3, THE TWO-LIST RULE: over every list of events, refused ones, starts and retirements among them, from the floor that an accepted start left
pub two_list_rule : (M : Limits) (F : Floor) (n k : ℕ) (l : Report) → answer M F (start n k) ≡ accepted l → (es : List Event) (s c : ℕ) → c < k
    → TwoListRule (owes M (floor_after M (step M F (start n k)) es) s c)
    ((lists_after M (step M F (start n k)) both_empty es).sent s c) ((lists_after M (step M F (start n k)) both_empty es).received s c)
two_list_rule M F n k l a es s c lc =
    from_start (λ X. TwoListRule (owes M (floor_after M X es) s c) ((lists_after M X both_empty es).sent s c) ((lists_after M X both_empty es).received s c)) M F n k l a
    (λ fit. rule_after M (just_started n k) nothing both_empty es (reached_start M n k fit.stations)
    (record { count = λ s. refl; sent = λ s c e. refl; received = λ s c e. refl; equal = λ s c o. refl }) s c lc)

-- THE SUM RULE: "Over any run from a start, the sum of all carts' next numbers equals accepted radio steps plus all p"; it "adds the next
-- numbers that retired carts took with them"
pub sum_rule : (M : Limits) (F : Floor) (n k : ℕ) (l : Report) → answer M F (start n k) ≡ accepted l → (es : List Event)
    → total (floor_after M (step M F (start n k)) es) + taken_away M (step M F (start n k)) es ≡ gains M (step M F (start n k)) es
sum_rule M F n k l a es = from_start (λ X. total (floor_after M X es) + taken_away M X es ≡ gains M X es) M F n k l a from_fresh
  where
    from_fresh : CountsFit M n k → total (floor_after M (just_started n k) es) + taken_away M (just_started n k) es ≡ gains M (just_started n k) es
    from_fresh fit = let a = sums M (just_started n k) nothing (started_ok M n k fit.stations)
        (started_lines M n k) es in let b = started_total n k in omega arith

-- "In a register step p is at most the sum, over initiators, of expected number minus next number, where positive"
pub register_bound : (M : Limits) (F : Floor) (t c : ℕ) (row : List ℕ) → (on_register M F t c row).report.p ≤ sum F.stations (λ s. F.expected t s - entry_of row s)
unfolding on_register
register_bound M F t c row = arrive_bound M F t c (entry_of row)

-- the same of the answer of a wire step, with the cart's own next numbers before it: the row that a register carries is the cart's
pub register_step_bound : (M : Limits) (F : Floor) (i j c : ℕ) (row : List ℕ) (rest : List Record) (l : Report) → BlankBeyond M F → passes_form M F ≡ true
    → F.lines i j ≡ register c row ∷ rest → answer M F (wire i j) ≡ accepted l → l.p ≤ sum F.stations (λ s. F.expected j s - F.next c s)
unfolding accept on_wire handle
register_step_bound M F i j c row rest l B h e a =
    let X = form_of M F B (clauses_of M F h) in
    let k = (carried M F (past M F X) i j c rest (some_history M F X) row e).entries in
    let most = sum_ext F.stations (λ s. F.expected j s - entry_of row s) (λ s. F.expected j s - F.next c s) (λ s ls. ap (λ (x : ℕ). F.expected j s - x) (k s)) in
    let bound = register_bound M (on_lines F (behead i j F.lines)) j c row in
    let report : (on_register M (on_lines F (behead i j F.lines)) j c row).report ≡ l = (let z = accepted_report M F (wire i j) l a in rw e at z) in
    let p = ap (λ (r : Report). r.p) report in
    omega arith

-- THE FORM RULE: "Every floor reached from a start passes it"
pub form_reached : (M : Limits) (F : Floor) (n k : ℕ) (l : Report) → answer M F (start n k) ≡ accepted l → (es : List Event)
    → BlankBeyond M (floor_after M (step M F (start n k)) es) × (passes_form M (floor_after M (step M F (start n k)) es) ≡ true)
form_reached M F n k l a es =
    from_start (λ X. BlankBeyond M (floor_after M X es) × (passes_form M (floor_after M X es) ≡ true)) M F n k l a
    (λ fit. ready_run M (just_started n k) es (λ h. form_started M n k fit) (started_after M (just_started n k) refl es))

-- "on every floor that passes, reached or not, .. the floor it leaves passes again"
pub form_closed : (M : Limits) (F : Floor) (e : Event) → BlankBeyond M F → passes_form M F ≡ true → BlankBeyond M (step M F e) × (passes_form M (step M F e) ≡ true)
form_closed M F e B h = form_kept M F e B h

-- "An unstarted floor fails it"
pub form_unstarted : (M : Limits) (F : Floor) → F.started ≡ false → passes_form M F ≡ false
form_unstarted M F e = unstarted_fails M F e

-- over any list of events from any unstarted floor: wherever it is then started, it passes. So 5 is met only where no floor is started
pub form_of_any_run : (M : Limits) (F : Floor) → F.started ≡ false → (es : List Event)
    → (floor_after M F es).started ≡ true → BlankBeyond M (floor_after M F es) × (passes_form M (floor_after M F es) ≡ true)
form_of_any_run M F e es = ready_run M F es (ready_unstarted M F e)

-- THE RANGES: "with nothing out of range"
pub numbers_in_range : (M : Limits) (F : Floor) → BlankBeyond M F → passes_form M F ≡ true → InRange M F
numbers_in_range M F B h = let P = clauses_of M F h in in_range M F (form_of M F B P) (sized_of M F B P)

-- p of any answer is at most stations × (last number + 1), or the number of carts where that is more
pub passed_in_range : (M : Limits) (F : Floor) (e : Event) (l : Report) → BlankBeyond M F → passes_form M F ≡ true → answer M F e ≡ accepted l → l.p ≤ max (F.stations * suc M.last) F.carts
passed_in_range M F e l B h a =
    let P = clauses_of M F h in
    let X = form_of M F B P in
    let z = step_most M F (past M F X) (some_history M F X) (sized_of M F B P) e in
    rw a at z

-- NUMBERS OF A WIDTH: on every floor that passes, every message number, next number and expected number, in every record that carries it
pub numbers_of_width : (w : ℕ) (M : Limits) (F : Floor) → Wide w M → BlankBeyond M F → passes_form M F ≡ true → NumbersBelow (2 ^ w) M F
numbers_of_width w M F wide B h = numbers_below (2 ^ w) M F (omega arith) (form_of M F B (clauses_of M F h)) (numbers_in_range M F B h)

-- and p, which needs a wider word: at most stations × (2^w − 1), or the number of carts where that is more
pub passed_of_width : (w : ℕ) (M : Limits) (F : Floor) (e : Event) (l : Report) → Wide w M → BlankBeyond M F → passes_form M F ≡ true → answer M F e ≡ accepted l
    → l.p ≤ max (M.stations * (2 ^ w - 1)) M.carts
passed_of_width w M F e l wide B h a =
    let p = passed_in_range M F e l B h a in
    let r = numbers_in_range M F B h in
    let n = r.stations in
    let k = r.carts in
    let last : suc M.last ≡ 2 ^ w - 1 = omega arith in
    let most : F.stations * suc M.last ≤ M.stations * suc M.last = mul-le-mul_right (suc M.last) n in
    let same : M.stations * suc M.last ≡ M.stations * (2 ^ w - 1) = ap (λ (x : ℕ). M.stations * x) last in
    omega arith

-- NUMBERS THAT OUTLAST THE INSTRUMENT: "Facts about numbers are to be stated for a width and cited at 16 for the kit and 32 for the floor"
floor_wide : Wide 32 limits
floor_wide = refl

kit_wide : Wide 16 (limits_of kit)
kit_wide = refl

pub floor_numbers : (F : Floor) → BlankBeyond limits F → passes_form limits F ≡ true → NumbersBelow 4294967296 limits F
floor_numbers F B h = numbers_of_width 32 limits F floor_wide B h

pub kit_numbers : (F : Floor) → BlankBeyond (limits_of kit) F → passes_form (limits_of kit) F ≡ true → NumbersBelow 65536 (limits_of kit) F
kit_numbers F B h = numbers_of_width 16 (limits_of kit) F kit_wide B h

-- so "32 bits wide in every record that carries them" is enough for each product
pub product_numbers : (P : Product) (F : Floor) → BlankBeyond (limits_of P) F → passes_form (limits_of P) F ≡ true
    → NumbersBelow 4294967296 (limits_of P) F
product_numbers P F B h =
    let M = limits_of P in
    numbers_below 4294967296 M F (let z = P.last_fit in omega arith) (form_of M F B (clauses_of M F h)) (numbers_in_range M F B h)

-- p: for the floor at most 16 × 4,294,967,295, which needs 36 bits, for the kit at most 4 × 65,535
pub floor_passed : (F : Floor) (e : Event) (l : Report) → BlankBeyond limits F → passes_form limits F ≡ true → answer limits F e ≡ accepted l
    → l.p ≤ 68719476720
floor_passed F e l B h a = passed_of_width 32 limits F e l floor_wide B h a

pub kit_passed : (F : Floor) (e : Event) (l : Report) → BlankBeyond (limits_of kit) F → passes_form (limits_of kit) F ≡ true → answer (limits_of kit) F e ≡ accepted l → l.p ≤ 262140
kit_passed F e l B h a = passed_of_width 16 (limits_of kit) F e l kit_wide B h a

-- that much is passed over: where no message is held, a cart that enters passes over all that its station expects
pub enter_passes_all : (M : Limits) (F : Floor) (t c : ℕ) (l : Report) → answer M F (enter t c) ≡ accepted l
    → ((m : ℕ) → m < M.held → is_held F m ≡ false)
    → l.p ≡ sum F.stations (λ s. F.expected t s)
unfolding accept on_enter
enter_passes_all M F t c l a none_held =
    ap (λ (r : Report). r.p) (sym (accepted_report M F (enter t c) l a)) ∙ enter_over_all M F t c none_held

pub floor_passed_reached : (passes_form limits all_sent ≡ true)
    × ((l : Report) × (answer limits all_sent (enter 0 0) ≡ accepted l) × (l.p ≡ 68719476720))
floor_passed_reached = most_passed

-- THE RECORD BOUND: "No event may be refused for want of room on a line": on every floor that passes, reached or not
pub record_bound : (M : Limits) (F : Floor) → BlankBeyond M F → passes_form M F ≡ true → on_the_lines F.stations F.lines ≤ most_records M
record_bound M F B h =
    let c = (sized_of M F B (clauses_of M F h)).counts in
    let r = form_bound M F B h in
    let n = c.stations in
    let k = c.carts in
    let wide : F.stations + F.stations + F.carts ≤ M.stations + M.stations + M.carts = omega arith in
    let z = mul-le-mul_left M.held wide in
    omega arith

-- "The lines need at most 32 × (16 + 16 + 64) + 64 = 3,136 records"
pub floor_records : (F : Floor) → BlankBeyond limits F → passes_form limits F ≡ true → on_the_lines F.stations F.lines ≤ 3136
floor_records F B h = record_bound limits F B h

-- the kit: "at most 8 × (4 + 4 + 8) + 8 = 136 line records"
pub kit_records : (F : Floor) → BlankBeyond (limits_of kit) F → passes_form (limits_of kit) F ≡ true → on_the_lines F.stations F.lines ≤ 136
kit_records F B h = record_bound (limits_of kit) F B h

-- one line has no more records than all lines
pub one_line : (n : ℕ) (lines : ℕ → ℕ → List Record) (i j : ℕ) → i < n → j < n → length (lines i j) ≤ on_the_lines n lines
one_line n lines i j li lj =
    let a = sum_term n (λ j. length (lines i j)) j lj in
    let b = sum_term n (λ i. sum n (λ j. length (lines i j))) i li in
    omega arith

-- THE QUEUE'S ORDER: "smallest number first; between equal numbers the higher initiator stands first"
pub queue_order : (M : Limits) (F : Floor) (t m : ℕ) → queue_head M F t ≡ some m → (k : ℕ) → k < M.held → eqb (F.queue k t) 0 ≡ false
    → (F.number m ≤ F.number k) × (F.number m ≡ F.number k → F.initiator k ≤ F.initiator m)
queue_order M F t m e k l q = let z = (head_first M F t m e).1.1 k l q in (z.smallest, z.higher)

-- WHAT AN ACCEPTED EVENT LOOKS FOR IS THERE. The written steps have a case for a room, a record or a queue's head that is not found, and a
-- place without a station. On a floor that passes no accepted event takes one of them.

-- a send finds a free room
pub send_finds_room : (M : Limits) (F : Floor) (s set : ℕ) (text : List ℕ) (l : Report) → answer M F (send s set text) ≡ accepted l → (m : ℕ) × (free_room M F ≡ some m)
unfolding refusal
send_finds_room M F s set text l a = let z = may_send M F (not (passes_form M F)) s set text (accepted_passes M F (send s set text) l a) in (z.0, z.1)

-- a wire step finds a record
wire_passes : (M : Limits) (F : Floor) (i j : ℕ) (l : Report) → answer M F (wire i j) ≡ accepted l → (r : Record) × (rest : List Record) × MayWire F i j r rest
unfolding refusal
wire_passes M F i j l a = may_wire M F (not (passes_form M F)) i j (accepted_passes M F (wire i j) l a)

pub wire_finds_record : (M : Limits) (F : Floor) (i j : ℕ) (l : Report) → answer M F (wire i j) ≡ accepted l → (r : Record) × (rest : List Record) × (F.lines i j ≡ r ∷ rest)
wire_finds_record M F i j l a = let z = wire_passes M F i j l a in (z.0, z.1, z.2.line)

-- a multicast, an ack list and a delete find their message's room, on the floor that they are handled on
module _ (M : Limits) (F : Floor) (i j : ℕ) (l : Report) (B : BlankBeyond M F) (h : passes_form M F ≡ true) (a : answer M F (wire i j) ≡ accepted l) where
  at_head : (r : Record) (rest : List Record) → F.lines i j ≡ r ∷ rest → MayWire F i j r rest
  at_head r rest e = let z = (wire_passes M F i j l a).2 in record { from = z.from; to = z.to; line = e }

  pub multicast_finds_room : (n : ℕ) (rest : List Record) → F.lines i j ≡ multicast n ∷ rest → (m : ℕ) × (room_of M (on_lines F (behead i j F.lines)) i n ≡ some m)
  unfolding room_of
  multicast_finds_room n rest e = multicast_room M F (form_of M F B (clauses_of M F h)) i j n rest (at_head (multicast n) rest e)

  pub ack_list_finds_room : (n carts : ℕ) (rest : List Record) → F.lines i j ≡ ack_list n carts ∷ rest → (m : ℕ) × (room_of M (on_lines F (behead i j F.lines)) j n ≡ some m)
  unfolding room_of
  ack_list_finds_room n carts rest e = ack_list_room M F (form_of M F B (clauses_of M F h)) i j n carts rest (at_head (ack_list n carts) rest e)

  pub delete_finds_room : (n : ℕ) (rest : List Record) → F.lines i j ≡ delete n ∷ rest → (m : ℕ) × (room_of M (on_lines F (behead i j F.lines)) i n ≡ some m)
  unfolding room_of
  delete_finds_room n rest e = delete_room M F (form_of M F B (clauses_of M F h)) i j n rest (at_head (delete n) rest e)

-- a radio step finds the queue's head
pub radio_finds_head : (M : Limits) (F : Floor) (t c buffer : ℕ) (l : Report) → answer M F (radio t c buffer) ≡ accepted l → (m : ℕ) × (queue_head M F t ≡ some m)
unfolding refusal
radio_finds_head M F t c buffer l a = let z = may_radio M F (not (passes_form M F)) t c buffer (accepted_passes M F (radio t c buffer) l a) in (z.0, z.1.is_head)

-- a cart that moves is at a station
pub move_finds_station : (M : Limits) (F : Floor) (c to : ℕ) (l : Report) → answer M F (move c to) ≡ accepted l → F.place c ≡ at (station_of (F.place c))
unfolding refusal
move_finds_station M F c to l a =
    let z = may_move M F (not (passes_form M F)) c to (accepted_passes M F (move c to) l a) in at_home (F.place c) z.has_entered_lem z.not_moving

-- A CORRECTION WITH NO TEXT

-- "A send with length 0 is now turned away", whatever the floor
pub no_text_turned_away : (M : Limits) (F : Floor) (s set : ℕ) (l : Report) → answer M F (send s set []) ≡ accepted l → ⊥
unfolding refusal
no_text_turned_away M F s set l a = clash true refl (may_send M F (not (passes_form M F)) s set [] (accepted_passes M F (send s set []) l a)).2.has_text

-- a refusal that is known on a floor that passes
refused_with : (M : Limits) (F : Floor) (e : Event) (r : ℕ) → 0 < r → passes_form M F ≡ true → refusal_if M F false e ≡ r → answer M F e ≡ refused r
unfolding answer refusal
refused_with M F e r pos h z = rw (h, z, ne_eqb r 0 (omega arith))

-- "24 empty text, after 12 and before 13": on a floor that passes, a send with no text that passes 8, 9 and 11 is 12 if a named cart is not entered,
-- and 24 otherwise, whatever number the station has used and whatever is held
pub no_text_after_12 : (M : Limits) (F : Floor) (s set : ℕ) → passes_form M F ≡ true → no_station F s ≡ false → strangers F set ≡ false → eqb set 0 ≡ false
    → not_entered F set ≡ true → answer M F (send s set []) ≡ refused 12
no_text_after_12 M F s set h a8 a9 a11 a12 = refused_with M F (send s set []) 12 (omega arith) h (not_entered_before_24 M F s set a8 a9 a11 a12)

pub no_text_before_13 : (M : Limits) (F : Floor) (s set : ℕ) → passes_form M F ≡ true → no_station F s ≡ false → strangers F set ≡ false → eqb set 0 ≡ false
    → not_entered F set ≡ false → answer M F (send s set []) ≡ refused 24
no_text_before_13 M F s set h a8 a9 a11 a12 = refused_with M F (send s set []) 24 (omega arith) h (no_text_is_24 M F s set a8 a9 a11 a12)

-- "no run from a start holds one now"
pub no_text_held_lem : (M : Limits) (F : Floor) (n k : ℕ) (l : Report) → answer M F (start n k) ≡ accepted l → (es : List Event) (m : ℕ)
    → is_held (floor_after M (step M F (start n k)) es) m ≡ true → is_empty ((floor_after M (step M F (start n k)) es).text m) ≡ false
no_text_held_lem M F n k l a es m =
    from_start (λ X. is_held (floor_after M X es) m ≡ true → is_empty ((floor_after M X es).text m) ≡ false) M F n k l a
    (λ fit h. texts_after M (just_started n k) refl (λ m e. clash true refl e) es m (not-true (eqb ((floor_after M (just_started n k) es).waiting m) 0) h))

-- "The form rule still admits them": a floor that passes also passes with no text in any room
pub form_admits_no_text : (M : Limits) (F : Floor) → passes_form M F ≡ true → passes_form M (set_texts F (λ m. [])) ≡ true
unfolding passes_form
form_admits_no_text M F h = (reflect (form_rule M (set_texts F (λ m. [])))).1 (form_without_texts M F ((reflect (form_rule M F)).0 h))

-- A DELETED MESSAGE: "A deleted message's octets are free again": a wire step with a delete takes the message's text when it was the last station's,
-- and no text otherwise
pub delete_frees_octets : (M : Limits) (F : Floor) (i j n m : ℕ) (rest : List Record) → F.lines i j ≡ delete n ∷ rest → room_of M F i n ≡ some m
    → refusal M F (wire i j) ≡ 0 → (k : ℕ)
    → (step M F (wire i j)).text k ≡ cond (eqb k m && not (is_held (step M F (wire i j)) m)) [] (F.text k)
unfolding step accept on_wire handle on_delete room_of
delete_frees_octets M F i j n m rest e r z k = rw (z, e, r) (freed_by_the_last (on_lines F (behead i j F.lines)) m j k)

-- THE LOCAL LIST LOOKED UP ONCE

-- "The answers make a row, yes exactly for the local carts"
pub row_is_local : (F : Floor) (t c : ℕ) → c < F.carts → has (local_row F t) c ≡ is_local F t c
row_is_local F t c l = row_of_local F t c l

-- "that the step changes none of them is proved": the row after a wire step with a multicast is the row before it, of every station
pub multicast_keeps_row : (M : Limits) (F : Floor) (i j n : ℕ) (rest : List Record) → F.lines i j ≡ multicast n ∷ rest → (u : ℕ) → local_row (step M F (wire i j)) u ≡ local_row F u
unfolding step accept on_wire handle on_multicast
multicast_keeps_row M F i j n rest e u =
    on_cond (λ (X : Floor). local_row X u ≡ local_row F u) (eqb (refusal M F (wire i j)) 0)
    (λ b. rw e (row_kept M (on_lines F (behead i j F.lines)) (local_row F j) i j n u)) (λ b. refl)

-- "The rest of the step takes it from that row alone: its contract holds for any row, also one that disagrees with the carts' records": wherever the
-- carts are, the rest does and reports the same
pub row_alone : (M : Limits) (F : Floor) (elsewhere : ℕ → Place) (local s t n : ℕ)
    → ((multicast_by_row M (set_place F elsewhere) local s t n).floor ≡ set_place (multicast_by_row M F local s t n).floor elsewhere)
    × ((multicast_by_row M (set_place F elsewhere) local s t n).report ≡ (multicast_by_row M F local s t n).report)
row_alone M F elsewhere local s t n = places_not_asked M F elsewhere local s t n

-- and changes no answer, by whatever row it goes
pub any_row_kept : (M : Limits) (F : Floor) (local s t n u : ℕ) → local_row (multicast_by_row M F local s t n).floor u ≡ local_row F u
any_row_kept M F local s t n u = row_kept M F local s t n u

-- A MESSAGE THAT WAS NEVER DELETED: "a deregister step, after the cart has left the local list, tests every buffered message here in queue order"

-- the rooms that it tests are those of the buffered messages, and each is tested once
pub tests_every_buffered : (M : Limits) (F : Floor) (t m : ℕ) → times_in m (buffered_rooms M F t) ≡ cond (ltb m M.held && is_buffered F m t) 1 0
tests_every_buffered M F t m = tested_once M F t m

-- "smallest number, then higher initiator": the room tested at place p of the list, and one at a later place q
pub tests_in_queue_order : (M : Limits) (F : Floor) (t p q : ℕ) → p < q → q < length (buffered_rooms M F t)
    → (F.number (get_or (buffered_rooms M F t) p 0) ≤ F.number (get_or (buffered_rooms M F t) q 0))
    × (F.number (get_or (buffered_rooms M F t) p 0) ≡ F.number (get_or (buffered_rooms M F t) q 0)
    → F.initiator (get_or (buffered_rooms M F t) q 0) ≤ F.initiator (get_or (buffered_rooms M F t) p 0))
tests_in_queue_order M F t p q h b = let z = tested_in_order M F t p q h b in (z.smallest, z.higher)

-- "if its ack list is not empty and holds every local cart in the copy, the list is sent, struck and emptied": afterwards no buffered message
-- here has such a list, whether this step made it complete or not
pub no_complete_list_stays : (M : Limits) (F : Floor) (i t c m : ℕ) → m < M.held → is_buffered F m t ≡ true → is_complete (on_deregister M F i t c).floor t m ≡ false
no_complete_list_stays M F i t c m l b = none_stays M F i t c m l b

-- "These lists go on the lines before the register"
pub register_behind_lists : (M : Limits) (F : Floor) (i t c : ℕ)
    → (on_deregister M F i t c).floor.lines t i ≡ (test_each (leave F i t c) t (buffered_rooms M (leave F i t c) t)).lines t i ++ (register c (row_of M (F.next c)) ∷ [])
register_behind_lists M F i t c = register_is_last M F i t c

-- "and w counts them": the lists that are complete once the cart has left, and the register
pub deregister_w : (M : Limits) (F : Floor) (i t c : ℕ) → (on_deregister M F i t c).report.w ≡ suc (count M.held (λ m. is_buffered F m t && is_complete (leave F i t c) t m))
deregister_w M F i t c = deregister_counts M F i t c

-- "Two carts are local and named. One receives; the other rolls away before it does": in the end nothing is held
pub rolls_away_deleted : held_on limits (floor_after limits unstarted rolls_away) ≡ 0
rolls_away_deleted = rolled_away

-- HOLD WHILE THE VACUUM SETTLES

-- "A cart counts as steady from its entry until told": an accepted entry makes it steady, and leaves the flags of the others
pub steady_from_entry : (M : Limits) (F : Floor) (t c : ℕ) (l : Report) → answer M F (enter t c) ≡ accepted l → (step M F (enter t c)).steady ≡ update F.steady c true
unfolding step accept on_enter
steady_from_entry M F t c l a = rw (accepted_passes M F (enter t c) l a)

-- "until told": an accepted flag is the cart's, and leaves those of the others
pub steady_as_told : (M : Limits) (F : Floor) (c : ℕ) (b : Bool) (l : Report) → answer M F (flag c b) ≡ accepted l → (step M F (flag c b)).steady ≡ update F.steady c b
unfolding step accept on_flag
steady_as_told M F c b l a = rw (accepted_passes M F (flag c b) l a)

-- "The flag travels with the cart through hand-offs": its greeting, its departure and its arrival leave every flag
pub move_keeps_flag : (M : Limits) (F : Floor) (c to : ℕ) → (step M F (move c to)).steady ≡ F.steady
unfolding step accept
move_keeps_flag M F c to = on_cond (λ (X : Floor). X.steady ≡ F.steady) (eqb (refusal M F (move c to)) 0) (λ b. move_keeps_flags F c to) (λ b. refl)

pub deregister_keeps_flag : (M : Limits) (F : Floor) (i t c : ℕ) → (on_deregister M F i t c).floor.steady ≡ F.steady
deregister_keeps_flag M F i t c = deregister_keeps_flags M F i t c

pub register_keeps_flag : (M : Limits) (F : Floor) (t c : ℕ) (row : List ℕ) → (on_register M F t c row).floor.steady ≡ F.steady
register_keeps_flag M F t c row = register_keeps_flags M F t c row

pub arrive_keeps_flag : (M : Limits) (F : Floor) (t c : ℕ) (row : ℕ → ℕ) → (arrive M F t c row).steady ≡ F.steady
arrive_keeps_flag M F t c row = arrive_keeps_flags M F t c row

-- "for radio, 25 not steady, after 16 and before 17": on a floor that passes, a radio step that passes 8 and 9 is 16 if the cart is not at this
-- station, whatever its flag, and 25 if it is and is not steady, whatever is queued
pub not_steady_after_16 : (M : Limits) (F : Floor) (t c buffer : ℕ) → passes_form M F ≡ true → no_station F t ≡ false → no_cart F c ≡ false → is_at (F.place c) t ≡ false
    → answer M F (radio t c buffer) ≡ refused 16
not_steady_after_16 M F t c buffer h a8 a9 a16 = refused_with M F (radio t c buffer) 16 (omega arith) h (not_here_is_16 M F t c buffer a8 a9 a16)

pub not_steady_before_17 : (M : Limits) (F : Floor) (t c buffer : ℕ) → passes_form M F ≡ true → no_station F t ≡ false → no_cart F c ≡ false → is_at (F.place c) t ≡ true
    → F.steady c ≡ false → answer M F (radio t c buffer) ≡ refused 25
not_steady_before_17 M F t c buffer h a8 a9 a16 a25 = refused_with M F (radio t c buffer) 25 (omega arith) h (unsteady_is_25 M F t c buffer a8 a9 a16 a25)

-- "An unsteady cart at the head holds back the entries behind it": where no cart of the head entry is steady, no radio step is accepted here
pub unsteady_head_holds_back : (M : Limits) (F : Floor) (t m : ℕ) → queue_head M F t ≡ some m → ((d : ℕ) → has (F.queue m t) d ≡ true → F.steady d ≡ false)
    → (c buffer : ℕ) (l : Report) → answer M F (radio t c buffer) ≡ accepted l → ⊥
unfolding refusal
unsteady_head_holds_back M F t m e unsteady c buffer l a =
    let z = may_radio M F (not (passes_form M F)) t c buffer (accepted_passes M F (radio t c buffer) l a) in
    let same : z.0 ≡ m = cc in
    let queued = z.1.queued in
    clash (F.steady c) z.1.is_steady_lem (unsteady c (rw same at queued))

-- for kind 6, 18 "after 9": "Never entered .. reads not now entered"
pub flag_of_no_cart : (M : Limits) (F : Floor) (c : ℕ) (b : Bool) → passes_form M F ≡ true → no_cart F c ≡ true → answer M F (flag c b) ≡ refused 9
flag_of_no_cart M F c b h a9 = refused_with M F (flag c b) 9 (omega arith) h (no_cart_is_9 M F c b a9)

pub flag_before_entry : (M : Limits) (F : Floor) (c : ℕ) (b : Bool) → passes_form M F ≡ true → no_cart F c ≡ false → entered (F.place c) ≡ false → answer M F (flag c b) ≡ refused 18
flag_before_entry M F c b h a9 a18 = refused_with M F (flag c b) 18 (omega arith) h (not_in_is_18 M F c b a9 a18)

-- "in the other field, 1 for steady or 0 for not; 2 to 15 there is refusal 3"
pub flag_above_one : (M : Limits) (f : Fields) (behind : ℕ) → f.kind ≡ 6 → 2 ≤ f.other → fields_refusal M f behind ≡ 3
flag_above_one M f behind k h = other_flag_is_3 M f behind k h

-- no clause speaks of the flags: with any others a floor passes the form rule as it did, owes what it owed, and its next numbers have their sum
pub flags_unspoken : (M : Limits) (F : Floor) (flags : ℕ → Bool) → (passes_form M (set_steady F flags) ≡ passes_form M F)
    × (((s c : ℕ) → owes M (set_steady F flags) s c ≡ owes M F s c) × (total (set_steady F flags) ≡ total F))
flags_unspoken M F flags = let z = unspoken M F (set_steady F flags) refl in (z.form, (z.owed, z.sum))

-- HOW DEEP IN THE QUEUE

-- "1 for the head"
pub place_of_head : (M : Limits) (F : Floor) (t m : ℕ) → queue_head M F t ≡ some m → place_in M F m t ≡ 1
place_of_head M F t m e = head_place M F t m e

-- the place of the entry for the message in room m is one more than the number of entries that stand before it: "smallest number first; between
-- equal numbers the higher initiator stands first"
pub place_counts : (M : Limits) (F : Floor) (m t : ℕ)
    → place_in M F m t ≡ suc (count M.held (λ k. not (eqb (F.queue k t) 0) && (ltb (F.number k) (F.number m) || (eqb (F.number k) (F.number m) && ltb (F.initiator m) (F.initiator k)))))
unfolding place_in
place_counts M F m t = refl

-- so on a floor that passes, the entry whose place is p + 1 is found behind p others in the list of the entries in queue order (d, for whoever
-- looks beyond the list, does not matter)
pub place_in_queue_order : (M : Limits) (F : Floor) (t m : ℕ) → BlankBeyond M F → passes_form M F ≡ true → m < M.held → eqb (F.queue m t) 0 ≡ false
    → (p d : ℕ) → place_in M F m t ≡ suc p → get_or (in_order F (λ k. not (eqb (F.queue k t) 0)) M.held) p d ≡ m
place_in_queue_order M F t m B h lm e p d q = place_is_position M F (form_of M F B (clauses_of M F h)) t m lm e p d q

-- q of any answer is at most the number of rooms
pub place_in_range : (M : Limits) (F : Floor) (e : Event) (l : Report) → answer M F e ≡ accepted l → l.q ≤ M.held
place_in_range M F e l a = places_most M F e l a

-- RUN THE FLOOR UNTIL IT IS QUIET

-- "A dispatcher takes the first nonempty line by from, then to": the line that it takes has a record, and no line before it has
pub takes_first_line : (M : Limits) (F : Floor) (i j : ℕ) → next_event M F ≡ some (wire i j)
    → (is_empty (F.lines i j) ≡ false) × (((k h : ℕ) → k < i → h < F.stations → F.lines k h ≡ []) × ((h : ℕ) → h < j → F.lines i h ≡ []))
takes_first_line M F i j n = let z : FirstLine F i j = (let y = next_is_lem M F in rw n at y) in (z.busy, (z.from_lower, z.to_lower))

-- "with all lines empty, the lowest station at which a radio step would be accepted, and the lowest cart there", with a buffer that takes every text
pub takes_lowest_cart : (M : Limits) (F : Floor) (t c buffer : ℕ) → next_event M F ≡ some (radio t c buffer)
    → ((i j : ℕ) → i < F.stations → j < F.stations → F.lines i j ≡ [])
    × ((buffer ≡ most_text M) × ((would_receive M F t c ≡ true)
    × (((u d : ℕ) → u < t → d < F.carts → would_receive M F u d ≡ false) × ((d : ℕ) → d < c → would_receive M F t d ≡ false))))
takes_lowest_cart M F t c buffer n =
    let z : LowestCart M F t c buffer = (let y = next_is_lem M F in rw n at y) in (z.no_record, (z.longest, (z.receives, (z.at_lower, z.lower))))

-- "until neither exists": it takes nothing only where every line is empty and no radio step would be accepted
pub takes_nothing : (M : Limits) (F : Floor) → next_event M F ≡ none
    → ((i j : ℕ) → i < F.stations → j < F.stations → F.lines i j ≡ [])
    × ((t c : ℕ) → t < F.stations → c < F.carts → would_receive M F t c ≡ false)
takes_nothing M F n = let z : Quiet M F = (let y = next_is_lem M F in rw n at y) in (z.no_record, z.no_receipt)

-- "It repeats until neither exists", reached or not: what follows is said of every floor that passes the form rule and has nothing beyond the
-- limits (`BlankBeyond`), as lent tables of the right lengths have nothing there
pub quiet_at_last : (M : Limits) (F : Floor) → BlankBeyond M F → passes_form M F ≡ true → next_event M (quiet_floor M F) ≡ none
unfolding quiet_events
quiet_at_last M F B h = stops M (most_steps M) F B h (potential_most M F B h)

-- "the absence of a further step": no wire or radio event is accepted afterwards, with whatever buffer
pub no_further_step : (M : Limits) (F : Floor) → BlankBeyond M F → passes_form M F ≡ true → (e : Event) → IsWork e
    → refusal M (quiet_floor M F) e ≡ 0 → ⊥
no_further_step M F B h e =
    let X = quiet_floor M F in
    let g = ready_run M F (quiet_events M F) (λ s. (B, h)) (started_after M F (clauses_of M F h).floor.0 (quiet_events M F)) in
    let Q : Quiet M X = (let y = next_is_lem M X in rw (quiet_at_last M F B h) at y) in
    quiet_refuses M X e (sized_of M X g.0 (clauses_of M X g.1)) g.1 Q

-- "That count is at most 5,248 = 32 × (16 + 16 + 64 + 64) + 2 × 64": of any k steps that it may take, it takes no more than these
pub quiet_bound : (M : Limits) (F : Floor) → BlankBeyond M F → passes_form M F ≡ true → (k : ℕ) → length (dispatched M k F) ≤ most_steps M
quiet_bound M F B h k = let a = steps_bounded M k F B h in let b = potential_most M F B h in omega arith

pub floor_quiet_bound : (F : Floor) → BlankBeyond limits F → passes_form limits F ≡ true → (k : ℕ) → length (dispatched limits k F) ≤ 5248
floor_quiet_bound F B h k = quiet_bound limits F B h k

-- the kit: "at most 208 quiet steps"
pub kit_quiet_bound : (F : Floor) → BlankBeyond (limits_of kit) F → passes_form (limits_of kit) F ≡ true → (k : ℕ)
    → length (dispatched (limits_of kit) k F) ≤ 208
kit_quiet_bound F B h k = quiet_bound (limits_of kit) F B h k

-- "on every floor reached from a start"
pub reached_quiet_bound : (M : Limits) (F : Floor) (n k : ℕ) (l : Report) → answer M F (start n k) ≡ accepted l → (es : List Event)
    → (j : ℕ) → length (dispatched M j (floor_after M (step M F (start n k)) es)) ≤ most_steps M
reached_quiet_bound M F n k l a es =
    let z = form_reached M F n k l a es in quiet_bound M (floor_after M (step M F (start n k)) es) z.0 z.1

-- the bound is no part of what it does: allowed more steps, it takes the same
pub quiet_with_more : (M : Limits) (F : Floor) → BlankBeyond M F → passes_form M F ≡ true → (k : ℕ) → most_steps M ≤ k
    → dispatched M k F ≡ quiet_events M F
unfolding quiet_events
quiet_with_more M F B h k l = no_more M (most_steps M) k F B h (potential_most M F B h) l

-- why it ends: each accepted wire or radio step leaves less to do, and no floor has more to do than that
pub work_lowers : (M : Limits) (F : Floor) (e : Event) → BlankBeyond M F → passes_form M F ≡ true → IsWork e → refusal M F e ≡ 0
    → potential M (step M F e) < potential M F
work_lowers M F e B h w z = accepted_falls M F e B h z w

pub potential_in_range : (M : Limits) (F : Floor) → BlankBeyond M F → passes_form M F ≡ true → potential M F ≤ most_steps M
potential_in_range M F B h = potential_most M F B h

-- "From such a floor, if no entered cart is unsteady, no message is held afterwards"
pub quiet_holds_none : (M : Limits) (F : Floor) (n k : ℕ) (l : Report) → answer M F (start n k) ≡ accepted l → (es : List Event)
    → AllSteady (floor_after M (step M F (start n k)) es)
    → (m : ℕ) → m < M.held → is_held (quiet_floor M (floor_after M (step M F (start n k)) es)) m ≡ false
quiet_holds_none M F n k l a es =
    from_start (λ X. AllSteady (floor_after M X es) → (m : ℕ) → m < M.held → is_held (quiet_floor M (floor_after M X es)) m ≡ false) M F n k l a
    (λ fit. let X = just_started n k in
    let f = ready_run M X es (λ h. form_started M n k fit) (started_after M X refl es) in
    let R = reached_run M X nothing es (reached_start M n k fit.stations) in
    quiet_holds M (floor_after M X es) (history_after M X nothing es) R f.0 f.1)

-- "and, for every station and cart, the sent and received lists are equal": those of the run and the dispatcher's events behind it
pub quiet_lists_equal : (M : Limits) (F : Floor) (n k : ℕ) (l : Report) → answer M F (start n k) ≡ accepted l → (es : List Event)
    → AllSteady (floor_after M (step M F (start n k)) es) → (s c : ℕ) → c < k
    → (lists_after M (step M F (start n k)) both_empty (es ++ quiet_events M (floor_after M (step M F (start n k)) es))).sent s c
    ≡ (lists_after M (step M F (start n k)) both_empty (es ++ quiet_events M (floor_after M (step M F (start n k)) es))).received s c
quiet_lists_equal M F n k l a es steady s c lc =
    let X = step M F (start n k) in
    let ds = quiet_events M (floor_after M X es) in
    let none_held = quiet_holds_none M F n k l a es steady in
    (two_list_rule M F n k l a (es ++ ds) s c lc).equal
    (ap (λ (Y : Floor). owes M Y s c) (floor_after_more M X es ds) ∙ none_owed M (quiet_floor M (floor_after M X es)) none_held s c)

-- "a text buffer .., written as radio steps write it": a wire step writes nothing
pub wire_writes_nothing : (M : Limits) (F : Floor) (i j : ℕ) (buffer : List ℕ) → buffer_after (answer M F (wire i j)) buffer ≡ buffer
wire_writes_nothing M F i j buffer = wire_leaves_buffer M F i j buffer

-- "Its steps are wire and radio events of demand 3's list", and none of them is refused: so 21 is met before the first step or never
pub quiet_works : (M : Limits) (F : Floor) → BlankBeyond M F → passes_form M F ≡ true → Works M F (quiet_events M F)
unfolding quiet_events
quiet_works M F B h = all_work M (most_steps M) F B h

-- "and the buffer counts as lent anew to each": lent whole, however long it is, it changes no radio step
pub longer_buffer_alike : (M : Limits) (F : Floor) (t c size : ℕ) → BlankBeyond M F → passes_form M F ≡ true → most_text M ≤ size
    → (answer M F (radio t c size) ≡ answer M F (radio t c (most_text M))) × (step M F (radio t c size) ≡ step M F (radio t c (most_text M)))
unfolding answer step accept
longer_buffer_alike M F t c size B h l = rw (radio_any_buffer M F t c size B h l) (refl, refl)

-- "Checks: 21 if that buffer is shorter .., after 5, before the first step", "21 below 512": 5, whatever is lent; then 21, whatever is held
pub quiet_5_first : (M : Limits) (F : Floor) (buffer : List ℕ) → passes_form M F ≡ false → (quiet_call M F buffer).answer ≡ turned_away 5
quiet_5_first M F buffer h = call_refused M F buffer 5 (omega arith) (broken_is_5 M F (length buffer) h)

pub quiet_21_then : (M : Limits) (F : Floor) (buffer : List ℕ) → passes_form M F ≡ true → length buffer < most_text M
    → (quiet_call M F buffer).answer ≡ turned_away 21
quiet_21_then M F buffer h l = call_refused M F buffer 21 (omega arith) (short_is_21 M F (length buffer) h l)

-- "A refusal gives its number alone and changes no floor", and "no octet of a lent text buffer"
pub quiet_refusal_changes_nothing : (M : Limits) (F : Floor) (buffer : List ℕ) (r : ℕ) → (quiet_call M F buffer).answer ≡ turned_away r
    → ((quiet_call M F buffer).floor ≡ F) × ((quiet_call M F buffer).buffer ≡ buffer)
quiet_refusal_changes_nothing M F buffer r a = refused_call_keeps M F buffer r a

-- else it runs, "and reports how many steps it took, equal to the steps of its written definition"
pub quiet_runs : (M : Limits) (F : Floor) (buffer : List ℕ) → passes_form M F ≡ true → most_text M ≤ length buffer
    → ((quiet_call M F buffer).answer ≡ quiet_after (quiet_steps M F))
    × (((quiet_call M F buffer).floor ≡ quiet_floor M F) × ((quiet_call M F buffer).buffer ≡ buffers_after (answers M F (quiet_events M F)) buffer))
quiet_runs M F buffer h l = call_runs M F buffer (else_runs M F (length buffer) h l)

-- and leaves the buffer as long as it was lent
pub quiet_buffer_length : (M : Limits) (F : Floor) (buffer : List ℕ) → BlankBeyond M F → passes_form M F ≡ true → most_text M ≤ length buffer
    → length (quiet_call M F buffer).buffer ≡ length buffer
quiet_buffer_length M F buffer B h l =
    rw (quiet_runs M F buffer h l).1.1 (run_leaves_length M F (quiet_events M F) buffer B h (quiet_works M F B h) l)

-- the cart that rolls away, closed once it has greeted its new station: the rest of that run is the dispatcher's, and the text that was handed over
-- then is in the buffer
pub closing_rolls_away : (quiet_events limits (floor_after limits unstarted (take 8 rolls_away)) ≡ drop 8 rolls_away)
    × (((quiet_call limits (floor_after limits unstarted (take 8 rolls_away)) (replicate 512 0)).answer ≡ quiet_after 7)
    × ((quiet_call limits (floor_after limits unstarted (take 8 rolls_away)) (replicate 512 0)).buffer ≡ 0xa1 ∷ replicate 511 0))
closing_rolls_away = closed

-- NAMED GROUPS OF CARTS

-- "Sixteen groups, none defined at a start"
pub none_defined_at_start : (M : Limits) (F : Floor) (n k : ℕ) (l : Report) → answer M F (start n k) ≡ accepted l → (g : ℕ)
    → undefined (step M F (start n k)) g ≡ true
none_defined_at_start M F n k l a g = rw (start_afresh M F n k l a).0 (or_right (no_group g) true refl)

-- "Kind 7 carries a group number .. and the set", and "prints group and number of members": an accepted one gives that group these members
pub group_defines : (M : Limits) (F : Floor) (g set : ℕ) (l : Report) → answer M F (group g set) ≡ accepted l
    → ((step M F (group g set)).groups ≡ update F.groups g set)
    × (l ≡ record { kind = 7; a = g; b = members_of F set; p = 0; w = 0; q = 0; text = [] })
unfolding step accept on_group
group_defines M F g set l a = (rw (accepted_passes M F (group g set) l a), sym (accepted_report M F (group g set) l a))

-- "an empty set undefines the group"
pub empty_set_undefines : (M : Limits) (F : Floor) (g : ℕ) (l : Report) → answer M F (group g 0) ≡ accepted l
    → undefined (step M F (group g 0)) g ≡ true
unfolding step accept
empty_set_undefines M F g l a = rw (accepted_passes M F (group g 0) l a) (emptied_is_undefined F g)

-- "A later change of the group touches no message already sent": accepted or not, it changes nothing on the floor but groups
pub group_touches_no_message : (M : Limits) (F : Floor) (g set : ℕ) → step M F (group g set) ≡ set_groups F (step M F (group g set)).groups
unfolding step accept
group_touches_no_message M F g set =
    on_cond (λ (X : Floor). X ≡ set_groups F X.groups) (eqb (refusal M F (group g set)) 0) (λ b. rw (group_alone F g set) refl) (λ b. refl)

-- "Kind 8 .. sends to the members as they are at that send": on a floor that passes, to a group that is defined it is refused as a send to its
-- members is, and leaves the floor that this leaves
pub group_send_is_send : (M : Limits) (F : Floor) (s g : ℕ) (text : List ℕ) → passes_form M F ≡ true → undefined F g ≡ false
    → (refusal M F (send_group s g text) ≡ refusal M F (send s (F.groups g) text))
    × (step M F (send_group s g text) ≡ step M F (send s (F.groups g) text))
group_send_is_send M F s g text h d = sent_as_the_send M F s g text h d

-- "kind 8 prints as a send, under its own kind"
pub group_send_prints : (M : Limits) (F : Floor) (s g : ℕ) (text : List ℕ) (l : Report) → passes_form M F ≡ true → undefined F g ≡ false
    → answer M F (send s (F.groups g) text) ≡ accepted l
    → answer M F (send_group s g text) ≡ accepted (record { kind = 8; a = l.a; b = l.b; p = l.p; w = l.w; q = l.q; text = l.text })
group_send_prints M F s g text l h d a = printed_as_the_send M F s g text h d l a

-- "for kind 7, 12 after 9, then 26 for a library group above 15": on a floor that passes
pub group_of_strangers : (M : Limits) (F : Floor) (g set : ℕ) → passes_form M F ≡ true → strangers F set ≡ true → answer M F (group g set) ≡ refused 9
group_of_strangers M F g set h a9 = refused_with M F (group g set) 9 (omega arith) h (strangers_are_9 M F g set a9)

pub group_before_entry : (M : Limits) (F : Floor) (g set : ℕ) → passes_form M F ≡ true → strangers F set ≡ false → not_entered F set ≡ true
    → answer M F (group g set) ≡ refused 12
group_before_entry M F g set h a9 a12 = refused_with M F (group g set) 12 (omega arith) h (not_entered_is_12 M F g set a9 a12)

pub group_above_15 : (M : Limits) (F : Floor) (g set : ℕ) → passes_form M F ≡ true → strangers F set ≡ false → not_entered F set ≡ false → 16 ≤ g
    → answer M F (group g set) ≡ refused 26
group_above_15 M F g set h a9 a12 l = refused_with M F (group g set) 26 (omega arith) h (above_15_is_26 M F g set a9 a12 (le-leb 16 g l))

-- "for kind 8, 26 group not defined or above 15, after 8, then 24, 13, 14": 8, then 26, whatever the text; then as the send to its members, above
pub group_send_from_nowhere : (M : Limits) (F : Floor) (s g : ℕ) (text : List ℕ) → passes_form M F ≡ true → length text ≤ M.text
    → no_station F s ≡ true
    → answer M F (send_group s g text) ≡ refused 8
group_send_from_nowhere M F s g text h a4 a8 = refused_with M F (send_group s g text) 8 (omega arith) h (no_station_is_8 M F s g text a4 a8)

pub group_not_defined : (M : Limits) (F : Floor) (s g : ℕ) (text : List ℕ) → passes_form M F ≡ true → length text ≤ M.text → no_station F s ≡ false
    → undefined F g ≡ true → answer M F (send_group s g text) ≡ refused 26
group_not_defined M F s g text h a4 a8 a26 = refused_with M F (send_group s g text) 26 (omega arith) h (undefined_is_26 M F s g text a4 a8 a26)

-- THE DEMONSTRATION CASE: "a second caller of the same steps with its own limits". Every theorem above that takes M is the kit's at `limits_of kit`,
-- the three demands among them; `kit_records` and `kit_quiet_bound` are its numbers

-- "Refusals 5 .., 7 and 14 use the caller's limits": 7, by the stations and carts of the caller
pub size_by_limits : (M : Limits) (F : Floor) (n k : ℕ) → F.lengths_right ≡ true → F.started ≡ false → (M.stations < n) ⊎ (M.carts < k)
    → answer M F (start n k) ≡ refused 7
unfolding answer refusal
size_by_limits M F n k lengths fresh above = rw (too_large_is_7 M F (not (passes_form M F)) n k lengths fresh above)

-- 13, by the caller's last number: "its place is unchanged", so on a floor that passes it is met after all but 14, whatever is held
pub number_by_limits : (M : Limits) (F : Floor) (s set : ℕ) (text : List ℕ) → passes_form M F ≡ true → length text ≤ M.text → no_station F s ≡ false
    → strangers F set ≡ false → eqb set 0 ≡ false → not_entered F set ≡ false → is_empty text ≡ false → M.last < F.sent s
    → answer M F (send s set text) ≡ refused 13
number_by_limits M F s set text h a4 a8 a9 a11 a12 a24 a13 =
    refused_with M F (send s set text) 13 (omega arith) h (used_up_is_13 M F s set text a4 a8 a9 a11 a12 a24 a13)

-- 14, by the messages that the caller may hold: on a floor that passes, a send that passes all other checks finds that many held
pub full_by_limits : (M : Limits) (F : Floor) (s set : ℕ) (text : List ℕ) → passes_form M F ≡ true → length text ≤ M.text → no_station F s ≡ false
    → strangers F set ≡ false → eqb set 0 ≡ false → not_entered F set ≡ false → is_empty text ≡ false → F.sent s ≤ M.last
    → ((m : ℕ) → m < M.held → is_held F m ≡ true) → answer M F (send s set text) ≡ refused 14
full_by_limits M F s set text h a4 a8 a9 a11 a12 a24 a13 full =
    refused_with M F (send s set text) 14 (omega arith) h (none_free_is_14 M F s set text a4 a8 a9 a11 a12 a24 a13 full)

-- A LIST KEPT BY HAND: "For every run from a floor just started, with lists started alike and given exactly the accepted sends (set or members) and
-- radio steps in their order" (`plain_after`)

-- "A start sets them up empty, checked as the floor's": where the floor's is accepted, so is theirs, if they have the right lengths and are not started
pub plain_started_alike : (M : Limits) (F : Floor) (n k : ℕ) (l : Report) → answer M F (start n k) ≡ accepted l
    → (P : Plain) → P.lengths_right ≡ true → P.started ≡ false → plain_step M P (plain_start n k) ≡ plain_started n k
plain_started_alike M F n k l a P lengths fresh = start_alike M P n k (start_afresh M F n k l a).1 lengths fresh

-- "A send appends its text, under the lists' own count of that station's sends, to the lists of the named carts"; it leaves the others
pub plain_send_appends : (P : Plain) (s set : ℕ) (text : List ℕ) (u c : ℕ)
    → (has set c ≡ true → (appended P s set text).list s c ≡ P.list s c ++ (item (P.count s) text ∷ []))
    × (eqb u s && has set c ≡ false → (appended P s set text).list u c ≡ P.list u c)
plain_send_appends P s set text u c = (put_at_the_end P s set text c, others_as_they_were P s set text u c)

-- "takes the head": what was behind it stays
pub plain_take_takes_head : (P : Plain) (s c : ℕ) (x : Item) (rest : List Item) → P.list s c ≡ x ∷ rest → (beheaded P s c).list s c ≡ rest
plain_take_takes_head P s c x rest q = rest_stays P s c x rest q

-- "each accepted radio step of the controller hands over the head of the plain list for that initiator and cart, number and text"
pub plain_hands_over : (M : Limits) (F : Floor) (n k : ℕ) (l : Report) → answer M F (start n k) ≡ accepted l
    → (es : List Event) (t c buffer : ℕ) (r : Report)
    → answer M (floor_after M (step M F (start n k)) es) (radio t c buffer) ≡ accepted r
    → plain_answer M (plain_after M (step M F (start n k)) (plain_started n k) es) (plain_take r.a c) ≡ plain_took r.b r.text
plain_hands_over M F n k l a es t c buffer r =
    from_start (λ X. answer M (floor_after M X es) (radio t c buffer) ≡ accepted r
    → plain_answer M (plain_after M X (plain_started n k) es) (plain_take r.a c) ≡ plain_took r.b r.text) M F n k l a
    (λ fit q. let X = just_started n k in
    let P = plain_after M X (plain_started n k) es in
    let b = beside_run M X nothing (plain_started n k) es (beside_start M n k fit) in
    let m = (goes M (floor_after M X es) b.0 P b.1 (radio t c buffer)).met in
    head_answered M P r.a c r (rw q at m))

-- no call that they are given is refused
pub plain_never_refuses : (M : Limits) (F : Floor) (n k : ℕ) (l : Report) → answer M F (start n k) ≡ accepted l
    → (es : List Event) (e : Event) (call : PlainCall)
    → call_of M (floor_after M (step M F (start n k)) es) e ≡ some call
    → plain_refusal M (plain_after M (step M F (start n k)) (plain_started n k) es) call ≡ 0
plain_never_refuses M F n k l a es e call =
    from_start (λ X. call_of M (floor_after M X es) e ≡ some call → plain_refusal M (plain_after M X (plain_started n k) es) call ≡ 0) M F n k l a
    (λ fit q. let X = just_started n k in
    let P = plain_after M X (plain_started n k) es in
    let b = beside_run M X nothing (plain_started n k) es (beside_start M n k fit) in
    met_passes M P (call_of M (floor_after M X es) e) (answer M (floor_after M X es) e) call (goes M (floor_after M X es) b.0 P b.1 e).met q)

-- "It holds at most 2,048 = 32 × 64 entries": after every list of events, one that ends in a send among them
pub plain_few : (M : Limits) (F : Floor) (n k : ℕ) (l : Report) → answer M F (start n k) ≡ accepted l → (es : List Event)
    → entries (plain_after M (step M F (start n k)) (plain_started n k) es) ≤ M.held * M.carts
plain_few M F n k l a es =
    from_start (λ X. entries (plain_after M X (plain_started n k) es) ≤ M.held * M.carts) M F n k l a
    (λ fit. let b = beside_run M (just_started n k) nothing (plain_started n k) es (beside_start M n k fit) in
    few_beside M (floor_after M (just_started n k) es) b.0 (plain_after M (just_started n k) (plain_started n k) es) b.1)

pub floor_plain_few : (F : Floor) (n k : ℕ) (l : Report) → answer limits F (start n k) ≡ accepted l → (es : List Event)
    → entries (plain_after limits (step limits F (start n k)) (plain_started n k) es) ≤ 2048
floor_plain_few F n k l a es = plain_few limits F n k l a es

pub kit_plain_few : (F : Floor) (n k : ℕ) (l : Report) → answer (limits_of kit) F (start n k) ≡ accepted l → (es : List Event)
    → entries (plain_after (limits_of kit) (step (limits_of kit) F (start n k)) (plain_started n k) es) ≤ 64
kit_plain_few F n k l a es = plain_few (limits_of kit) F n k l a es

-- "30 a send whose entries would make more than 2,048": the number that the check goes by is that of the entries afterwards
pub plain_send_adds : (P : Plain) (s set : ℕ) (text : List ℕ) → s < P.stations
    → entries (appended P s set text) ≡ entries P + count P.carts (has set)
plain_send_adds P s set text l = entries_more P s set text l

-- "their own written form rule": lists that are started pass it, after whatever calls
pub plain_form_reached : (M : Limits) (P : Plain) (n k : ℕ) → plain_refusal M P (plain_start n k) ≡ 0 → (calls : List PlainCall)
    → plain_passes M (plain_after_calls M (plain_step M P (plain_start n k)) calls) ≡ true
plain_form_reached M P n k z calls = plain_form_after M P n k z calls

-- and every call keeps it, on all lists that pass, reached or not
pub plain_form_closed : (M : Limits) (P : Plain) (call : PlainCall) → plain_passes M P ≡ true → plain_passes M (plain_step M P call) ≡ true
plain_form_closed M P call h = plain_form_kept M P call h

-- a refused call changes nothing, and gives its number alone
pub plain_refusal_changes_nothing : (M : Limits) (P : Plain) (call : PlainCall) → 0 < plain_refusal M P call
    → (plain_step M P call ≡ P) × (plain_answer M P call ≡ plain_refused (plain_refusal M P call))
plain_refusal_changes_nothing M P call h = refused_call_alone M P call h

-- "all shown never to occur in that program": for whatever octets, from an unstarted floor and unstarted lists, which it starts by itself, the lists
-- refuse none of its calls, its starts among them
pub plain_program_never_refused : (M : Limits) (l : List ℕ) → NeverRefused (exchanges M l)
unfolding exchanges
plain_program_never_refused M l = (through M (suc (length l)) unstarted plain_unstarted 0 l (before refl refl)).not_refused

-- "prints for each accepted radio step the index and the list head's initiator and number, and nothing else": what it prints of the lists is
-- what the controller answers
pub plain_prints : (M : Limits) (l : List ℕ) → plain_run M l ≡ receipt_lines_from M (suc (length l)) unstarted 0 l
unfolding plain_run exchanges
plain_prints M l = (through M (suc (length l)) unstarted plain_unstarted 0 l (before refl refl)).lines

-- K1's frames have one accepted radio step, of index 9: number 0 of station 1
pub lists_print_K1 : plain_run limits K1frames ≡ octets_of "9 1 0\n"
lists_print_K1 = lists_of_K1

-- FULL CALIBRATION TABLES

-- "Kind 9 is a send": where both are accepted it leaves the floor that kind 2 leaves, and reports the same under its own kind
pub long_send_is_send : (M : Limits) (F : Floor) (s set : ℕ) (text : List ℕ)
    → ((accept M F (send_long s set text)).floor ≡ (accept M F (send s set text)).floor)
    × ((accept M F (send_long s set text)).report
    ≡ (let l = (accept M F (send s set text)).report in record { kind = 9; a = l.a; b = l.b; p = l.p; w = l.w; q = l.q; text = l.text }))
long_send_is_send M F s set text = long_as_the_send M F s set text

-- "whose text has 33 to 512 octets", "for kind 9, 4 for other lengths": whatever the floor
pub long_send_lengths : (M : Limits) (F : Floor) (s set : ℕ) (text : List ℕ) (l : Report) → answer M F (send_long s set text) ≡ accepted l
    → (M.text < length text) × (length text ≤ M.long)
unfolding refusal refusal_if
long_send_lengths M F s set text l a =
    is_long_lem M (length text) (passed_check 4 (not_long M (length text)) _ (omega arith) (accepted_passes M F (send_long s set text) l a)).0

pub long_send_4 : (M : Limits) (F : Floor) (s set : ℕ) (text : List ℕ) → not_long M (length text) ≡ true → answer M F (send_long s set text) ≡ refused 4
unfolding answer refusal refusal_if
long_send_4 M F s set text a4 = rw a4

-- "27 free octets in the store, counted together, fewer than the length, after 14": on a floor that passes, a long send that passes all other checks
-- is 27 exactly if what is taken and its length are more than the store has
pub store_full_is_27 : (M : Limits) (F : Floor) (s set : ℕ) (text : List ℕ) → passes_form M F ≡ true → not_long M (length text) ≡ false
    → no_station F s ≡ false → strangers F set ≡ false → eqb set 0 ≡ false → not_entered F set ≡ false → F.sent s ≤ M.last
    → is_none (free_room M F) ≡ false
    → refusal M F (send_long s set text) ≡ cond (ltb M.store (store_used M F.waiting F.text + length text)) 27 0
unfolding refusal
store_full_is_27 M F s set text h a4 a8 a9 a11 a12 a13 a14 = rw h (full_is_27 M F s set text a4 a8 a9 a11 a12 a13 a14)

-- a store with room for as many texts as may be held, each as long as a text may be, is never full: no event is 27, on any floor
pub roomy_store_no_27 : (M : Limits) → M.held * most_text M ≤ M.store → (F : Floor) (e : Event) → refusal M F e ≡ 27 → ⊥
roomy_store_no_27 M roomy F e = never_27 M roomy F e

-- so it is for the kit: "8 × 512 = 4,096", and with eight held a send is 14 first
pub kit_never_27 : (F : Floor) (e : Event) → refusal (limits_of kit) F e ≡ 27 → ⊥
kit_never_27 F e = roomy_store_no_27 (limits_of kit) (omega arith) F e

-- "one store of 4,096 octets" holds the long texts, on every floor that passes
pub texts_in_store : (M : Limits) (F : Floor) → BlankBeyond M F → passes_form M F ≡ true → store_used M F.waiting F.text ≤ M.store
texts_in_store M F B h = (numbers_in_range M F B h).stored

-- of a frame: "the last sixteen of the forty zero bits hold that length, and the six-bit length stays zero": 3 where the rest is not zero, then 4,
-- then 1
pub long_frame_stray : (M : Limits) (f : Fields) (behind : ℕ) → f.kind ≡ 9 → 0 < f.cart + f.other + f.length + f.zero / 65536
    → fields_refusal M f behind ≡ 3
long_frame_stray M f behind k l = stray_is_3 M f behind k l

pub long_frame_lengths : (M : Limits) (f : Fields) (behind : ℕ) → f.kind ≡ 9 → f.cart + f.other + f.length + f.zero / 65536 ≡ 0
    → fields_refusal M f behind ≡ cond (not_long M (f.zero % 65536)) 4 (cond (ltb behind (f.zero % 65536)) 1 0)
long_frame_lengths M f behind k l = length_is_4 M f behind k l

-- "The lent radio and dispatcher buffers must now hold 512 octets to take every text": with such a buffer no radio step is refused for it
pub buffer_takes_every_text : (M : Limits) (F : Floor) (t c size : ℕ) → BlankBeyond M F → passes_form M F ≡ true → most_text M ≤ size
    → refusal M F (radio t c size) ≡ 21 → ⊥
buffer_takes_every_text M F t c size B h l z = never_21 M F t c size B h l z

pub floor_longest_text : most_text limits ≡ 512
floor_longest_text = refl

pub kit_longest_text : most_text (limits_of kit) ≡ 512
kit_longest_text = refl

-- THE READING CALL, "by initiator and number": a refused one gives no octet
pub refused_reads_nothing : (M : Limits) (F : Floor) (s n : ℕ) → 0 < read_refusal M F s n → read_text M F s n ≡ []
refused_reads_nothing M F s n h = read_nothing M F s n h

-- "28 message not held", after 5 and 8
pub not_held_is_28 : (M : Limits) (F : Floor) (s n : ℕ) → passes_form M F ≡ true → no_station F s ≡ false
    → ((m : ℕ) → m < M.held → is_message F s n m ≡ false) → read_refusal M F s n ≡ 28
not_held_is_28 M F s n h a8 none_held = unheld_is_28 M F s n h a8 none_held

-- an accepted radio step hands over what the call would have read just before, on every floor that passes
pub radio_reads : (M : Limits) (F : Floor) (t c buffer : ℕ) (r : Report) → BlankBeyond M F → passes_form M F ≡ true
    → answer M F (radio t c buffer) ≡ accepted r
    → (read_refusal M F r.a r.b ≡ 0) × (read_text M F r.a r.b ≡ r.text)
radio_reads M F t c buffer r B h a = let z = step_reads M F B h (radio t c buffer) in (rw a at z) refl

-- and right behind an accepted send, of whichever kind, it reads the text that was sent
pub send_reads : (M : Limits) (F : Floor) (e : Event) (s set : ℕ) (text : List ℕ) (r : Report) → BlankBeyond M F → passes_form M F ≡ true
    → as_sent F e ≡ send s set text → answer M F e ≡ accepted r
    → (read_refusal M (step M F e) s r.b ≡ 0) × (read_text M (step M F e) s r.b ≡ text)
send_reads M F e s set text r B h q a =
    let f = form_kept M F e B h in
    let z = step_send_reads M F (clauses_of M F h).floor.0 e in
    (rw a at z) f.0 f.1 s set text q

-- "TWO RUNS WHOSE EVENTS DIFFER ONLY IN TEXT OCTETS, lengths equal, print the same but for the text": refused events among them, and from floors that
-- differ only in text octets too
pub same_but_text : (M : Limits) (F G : Floor) (es ds : List Event) → blur F ≡ blur G → map blur_event es ≡ map blur_event ds
    → map blur_answer (answers M F es) ≡ map blur_answer (answers M G ds)
same_but_text M F G es ds f e =
    sym (answers_blurred M F es) ∙ ap₂ (λ (X : Floor) (l : List Event). answers M X l) f e ∙ answers_blurred M G ds

-- and the floors that they leave differ only in text octets
pub same_floor_but_text : (M : Limits) (F G : Floor) (es ds : List Event) → blur F ≡ blur G → map blur_event es ≡ map blur_event ds
    → blur (floor_after M F es) ≡ blur (floor_after M G ds)
same_floor_but_text M F G es ds f e = sym (floor_blurred M F es) ∙ ap₂ (λ (X : Floor) (l : List Event). floor_after M X l) f e ∙ floor_blurred M G ds

-- of the printed run: two inputs whose frames differ only in the octets of their texts print the same but for the digits of the texts
pub same_print_but_text : (M : Limits) (l x : List ℕ) → map blur_reading (frames_in M l) ≡ map blur_reading (frames_in M x)
    → blur_printed 0 (printed_run M l) ≡ blur_printed 0 (printed_run M x)
unfolding printed_run frames_in
same_print_but_text M l x e =
    let by : (y : List ℕ) → blur_printed 0 (printed_run M y) ≡ lines_of M (blur unstarted) 0 (map blur_reading (frames_in M y)) =
    λ y. ap (λ (z : List ℕ). blur_printed 0 z) (lines_by_frames M (suc (length y)) unstarted 0 y) ∙ lines_blurred M unstarted 0 (frames_in M y) in
    by l ∙ ap (λ (r : List Reading). lines_of M (blur unstarted) 0 r) e ∙ sym (by x)

-- in which no octet is added or taken away
pub same_print_length : (blanks : ℕ) (l : List ℕ) → length (blur_printed blanks l) ≡ length l
same_print_length blanks l = blur_keeps_length blanks l

-- "there are no more frames than octets": looking for more frames finds none, and prints nothing more
pub frames_with_more : (M : Limits) (k : ℕ) (l : List ℕ) → length l < k → frames_from M k l ≡ frames_in M l
unfolding frames_in
frames_with_more M k l h = frames_enough M k (suc (length l)) l h (omega arith)

pub printed_with_more : (M : Limits) (k : ℕ) (l : List ℕ) → length l < k → lines_from M k unstarted 0 l ≡ printed_run M l
unfolding printed_run frames_in
printed_with_more M k l h =
    lines_by_frames M k unstarted 0 l ∙ ap (λ (r : List Reading). lines_of M unstarted 0 r) (frames_with_more M k l h)
    ∙ sym (lines_by_frames M (suc (length l)) unstarted 0 l)

-- the first lists of a run without retirement
sent_from_start : (M : Limits) (F : Floor) (n k : ℕ) (l : Report) → answer M F (start n k) ≡ accepted l → (es : List Event)
    → retires_none M (step M F (start n k)) es ≡ true → (s c : ℕ)
    → (lists_after M (step M F (start n k)) both_empty es).sent s c ≡ listed c 0 (sendings_of M (step M F (start n k)) es s)
sent_from_start M F n k l a es =
    from_start (λ X. retires_none M X es ≡ true → (s c : ℕ) → (lists_after M X both_empty es).sent s c ≡ listed c 0 (sendings_of M X es s)) M F n k l a
    (λ fit q s c. sent_is M (just_started n k) nothing both_empty es (reached_start M n k fit.stations) (λ u d o. refl) q s c)

-- THE ROUTE MUST NOT MATTER: "for two runs from the same start in which each station makes the same accepted sends (set or members, and text) in the
-- same order, with entries, moves, flags, wire and radio steps as they please, and both ending with no message held, every cart has received the same
-- messages from every station in the same order, texts included". "Request 13 covers runs without retirement". The same start is one of as many
-- stations and carts, on whatever floors
pub same_received : (M : Limits) (F G : Floor) (n k : ℕ) (l r : Report) → answer M F (start n k) ≡ accepted l → answer M G (start n k) ≡ accepted r
    → (es ds : List Event) → retires_none M (step M F (start n k)) es ≡ true → retires_none M (step M G (start n k)) ds ≡ true
    → ((u : ℕ) → sendings_of M (step M F (start n k)) es u ≡ sendings_of M (step M G (start n k)) ds u)
    → ((m : ℕ) → m < M.held → is_held (floor_after M (step M F (start n k)) es) m ≡ false)
    → ((m : ℕ) → m < M.held → is_held (floor_after M (step M G (start n k)) ds) m ≡ false)
    → (s c : ℕ) → c < k
    → (lists_after M (step M F (start n k)) both_empty es).received s c ≡ (lists_after M (step M G (start n k)) both_empty ds).received s c
same_received M F G n k l r a b es ds stay_es stay_ds same none_es none_ds s c lc =
    let X = step M F (start n k) in
    let Y = step M G (start n k) in
    sym ((two_list_rule M F n k l a es s c lc).equal (none_owed M (floor_after M X es) none_es s c))
    ∙ sent_from_start M F n k l a es stay_es s c ∙ ap (λ (x : List Sending). listed c 0 x) (same s) ∙ sym (sent_from_start M G n k r b ds stay_ds s c)
    ∙ (two_list_rule M G n k r b ds s c lc).equal (none_owed M (floor_after M Y ds) none_ds s c)

-- A CART GOES BACK TO THE FACTORY

-- "retires it: the number becomes outside, leaves every group", and its next numbers are 0
pub retired_is_outside : (M : Limits) (F : Floor) (c : ℕ) (l : Report) → answer M F (retire c) ≡ accepted l
    → ((step M F (retire c)).place c ≡ outside)
    × (((s : ℕ) → (step M F (retire c)).next c s ≡ 0) × ((g : ℕ) → has ((step M F (retire c)).groups g) c ≡ false))
unfolding step accept
retired_is_outside M F c l a = rw (accepted_passes M F (retire c) l a) (retired_out F c)

-- no other cart's place, next numbers and groups change, and nothing else does
pub retire_touches_no_other : (M : Limits) (F : Floor) (c d : ℕ) → (d ≡ c → ⊥)
    → ((step M F (retire c)).place d ≡ F.place d)
    × (((s : ℕ) → (step M F (retire c)).next d s ≡ F.next d s) × ((g : ℕ) → has ((step M F (retire c)).groups g) d ≡ has (F.groups g) d))
unfolding step accept
retire_touches_no_other M F c d ne =
    on_cond (λ (X : Floor). (X.place d ≡ F.place d) × (((s : ℕ) → X.next d s ≡ F.next d s) ×
    ((g : ℕ) → has (X.groups g) d ≡ has (F.groups g) d)))
    (eqb (refusal M F (retire c)) 0) (λ b. others_stay F c d ne) (λ b. (refl, ((λ s. refl), λ g. refl)))

pub retire_touches_carts_alone : (M : Limits) (F : Floor) (c : ℕ)
    → step M F (retire c) ≡ set_groups (set_next (set_place F (step M F (retire c)).place) (step M F (retire c)).next) (step M F (retire c)).groups
unfolding step accept
retire_touches_carts_alone M F c =
    on_cond (λ (X : Floor). X ≡ set_groups (set_next (set_place F X.place) X.next) X.groups) (eqb (refusal M F (retire c)) 0)
    (λ b. retire_alone F c) (λ b. refl)

-- "a group that this empties is undefined": one whose only member it was
pub emptied_group_undefined : (M : Limits) (F : Floor) (c g : ℕ) (l : Report) → answer M F (retire c) ≡ accepted l
    → ((d : ℕ) → has (F.groups g) d ≡ true → d ≡ c) → undefined (step M F (retire c)) g ≡ true
unfolding step accept
emptied_group_undefined M F c g l a only = rw (accepted_passes M F (retire c) l a) (emptied_by_retiring F c g only)

-- "It prints the cart, 0, p = 0, w = 0, q = 0", under kind 10
pub retire_prints : (M : Limits) (F : Floor) (c : ℕ) (l : Report) → answer M F (retire c) ≡ accepted l
    → l ≡ record { kind = 10; a = c; b = 0; p = 0; w = 0; q = 0; text = [] }
unfolding accept on_retire
retire_prints M F c l a = sym (accepted_report M F (retire c) l a)

-- "It may enter again", at every station of the floor
pub retired_may_enter : (M : Limits) (F : Floor) (t c : ℕ) (l : Report) → BlankBeyond M F → passes_form M F ≡ true → answer M F (retire c) ≡ accepted l
    → t < F.stations → refusal M (step M F (retire c)) (enter t c) ≡ 0
unfolding refusal refusal_if
retired_may_enter M F t c l B h a lt =
    let X = step M F (retire c) in
    let may = may_retire M F (not (passes_form M F)) c (accepted_passes M F (retire c) l a) in
    let same = step_size M F (clauses_of M F h).floor.0 (retire c) in
    let stations : no_station X t ≡ false = lt-leb X.stations t (rw same.stations lt) in
    let carts : no_cart X c ≡ false = lt-leb X.carts c (rw same.carts may.cart) in
    rw ((form_kept M F (retire c) B h).1, stations, carts, (retired_is_outside M F c l a).0)

-- an entry changes no group
entered_groups : (M : Limits) (F : Floor) (t c : ℕ) (l : Report) → answer M F (enter t c) ≡ accepted l → (step M F (enter t c)).groups ≡ F.groups
unfolding step accept
entered_groups M F t c l a = rw (accepted_passes M F (enter t c) l a) (enter_keeps_groups M F t c)

-- it returns "steady", and in no group
pub returns_as_new : (M : Limits) (F : Floor) (t c : ℕ) (l r : Report) → answer M F (retire c) ≡ accepted l
    → answer M (step M F (retire c)) (enter t c) ≡ accepted r
    → ((step M (step M F (retire c)) (enter t c)).steady c ≡ true) × ((g : ℕ) → has ((step M (step M F (retire c)) (enter t c)).groups g) c ≡ false)
returns_as_new M F t c l r a b =
    let X = step M F (retire c) in (
      ap (λ (f : ℕ → Bool). f c) (steady_from_entry M X t c r b) ∙ rw (eqb_self c),
      λ g. ap (λ (f : ℕ → ℕ). has (f g) c) (entered_groups M X t c r b) ∙ (retired_is_outside M F c l a).1.1 g,
    )

-- no held message has the retired cart in a copy: 29 has it in no set, and a copy has only carts of the set
retired_unwaited : (M : Limits) (F : Floor) (t c : ℕ) (l : Report) → passes_form M F ≡ true → answer M F (retire c) ≡ accepted l → t < F.stations
    → (m : ℕ) → Held M F.waiting m → has (F.copy m t) c ≡ true → ⊥
unfolding refusal
retired_unwaited M F t c l h a lt m held e =
    let may = may_retire M F (not (passes_form M F)) c (accepted_passes M F (retire c) l a) in
    may.unnamed m held.slot held.some (((clauses_of M F h).copy m held.slot (ap not held.some) t lt).0 c may.cart e)

-- "with all next numbers 0": those it enters with, like a cart that enters for the first time. So it passes over all that its station expects, and then
-- has the expected numbers: nothing stops it on the way
pub returns_from_zero : (M : Limits) (F : Floor) (t c : ℕ) (l r : Report) → passes_form M F ≡ true → answer M F (retire c) ≡ accepted l → t < F.stations
    → answer M (step M F (retire c)) (enter t c) ≡ accepted r
    → (r.p ≡ sum F.stations (λ s. F.expected t s))
    × ((s : ℕ) → s < F.stations → (step M (step M F (retire c)) (enter t c)).next c s ≡ F.expected t s)
unfolding step accept on_enter on_retire
returns_from_zero M F t c l r h a lt b =
    let X = (on_retire F c).floor in
    let gone : step M F (retire c) ≡ X = rw (accepted_passes M F (retire c) l a) in
    let enters : answer M X (enter t c) ≡ accepted r = rw gone at b in
    let over = unwaited_over_all M X t c (retired_unwaited M F t c l h a lt) in (
      ap (λ (x : Report). x.p) (sym (accepted_report M X (enter t c) r enters)) ∙ over.0,
      λ s ls. rw (accepted_passes M F (retire c) l a, accepted_passes M X (enter t c) r enters) (over.1 s ls),
    )

-- "for kind 10, after 9, 18, then 19, then 29 a held message names the cart": on a floor that passes; 29 by the set as sent
pub retire_of_no_cart : (M : Limits) (F : Floor) (c : ℕ) → passes_form M F ≡ true → no_cart F c ≡ true → answer M F (retire c) ≡ refused 9
retire_of_no_cart M F c h a9 = refused_with M F (retire c) 9 (omega arith) h (no_such_cart_is_9 M F c a9)

pub retire_not_entered : (M : Limits) (F : Floor) (c : ℕ) → passes_form M F ≡ true → no_cart F c ≡ false → entered (F.place c) ≡ false
    → answer M F (retire c) ≡ refused 18
retire_not_entered M F c h a9 a18 = refused_with M F (retire c) 18 (omega arith) h (outside_is_18 M F c a9 a18)

pub retire_moving : (M : Limits) (F : Floor) (c : ℕ) → passes_form M F ≡ true → no_cart F c ≡ false → entered (F.place c) ≡ true
    → moving (F.place c) ≡ true → answer M F (retire c) ≡ refused 19
retire_moving M F c h a9 a18 a19 = refused_with M F (retire c) 19 (omega arith) h (moving_is_19 M F c a9 a18 a19)

pub retire_named : (M : Limits) (F : Floor) (c m : ℕ) → passes_form M F ≡ true → no_cart F c ≡ false → entered (F.place c) ≡ true
    → moving (F.place c) ≡ false → m < M.held → is_held F m ≡ true → has (F.named m) c ≡ true → answer M F (retire c) ≡ refused 29
retire_named M F c m h a9 a18 a19 l held n =
    refused_with M F (retire c) 29 (omega arith) h (named_is_29 M F c m a9 a18 a19 l held n)

-- and no other check: whoever has received what, and whatever stands on the lines
pub retire_unnamed : (M : Limits) (F : Floor) (c : ℕ) → passes_form M F ≡ true → no_cart F c ≡ false → entered (F.place c) ≡ true
    → moving (F.place c) ≡ false → ((m : ℕ) → m < M.held → is_held F m ≡ true → has (F.named m) c ≡ false) → refusal M F (retire c) ≡ 0
unfolding refusal
retire_unnamed M F c h a9 a18 a19 unnamed = rw (h, unnamed_is_none M F c a9 a18 a19 unnamed)

-- "Kind 10 carries a cart": a field that is not listed is 3; refusal 2 is left for kinds 11 to 15
pub retire_frame_stray : (M : Limits) (f : Fields) (behind : ℕ) → f.kind ≡ 10 → 0 < f.station + f.other + f.length + f.zero + f.set
    → fields_refusal M f behind ≡ 3
retire_frame_stray M f behind k l = stray_at_10_is_3 M f behind k l

pub kind_above_10 : (M : Limits) (f : Fields) (behind : ℕ) → 10 < f.kind → fields_refusal M f behind ≡ 2
kind_above_10 M f behind l = above_10_is_2 M f behind l

-- "From then on the sent and received lists of a cart begin at its latest entry": both are empty after it, and those of the others, and by which count a
-- station's sends are numbered, go on
pub lists_begin_at_entry : (M : Limits) (F : Floor) (L : Lists) (t c s : ℕ) (l : Report) → answer M F (enter t c) ≡ accepted l
    → ((lists_after M F L (enter t c ∷ [])).sent s c ≡ []) × ((lists_after M F L (enter t c ∷ [])).received s c ≡ [])
unfolding lists_after
lists_begin_at_entry M F L t c s l a = rw (a, eqb_self c) (refl, refl)

pub other_lists_go_on : (M : Limits) (F : Floor) (L : Lists) (t c d s : ℕ) → (d ≡ c → ⊥)
    → ((lists_after M F L (enter t c ∷ [])).sent s d ≡ L.sent s d)
    × (((lists_after M F L (enter t c ∷ [])).received s d ≡ L.received s d) × ((lists_after M F L (enter t c ∷ [])).count s ≡ L.count s))
unfolding lists_after
other_lists_go_on M F L t c d s ne = entry_leaves_others (answer M F (enter t c)) L t c d s ne

-- and not at its retirement, which leaves all lists
pub lists_stay_at_retirement : (M : Limits) (F : Floor) (L : Lists) (c : ℕ) → lists_after M F L (retire c ∷ []) ≡ L
unfolding lists_after
lists_stay_at_retirement M F L c = refl

-- "Request 13 covers runs without retirement": these two runs make the same accepted sends and end with no message held; the second has a retirement, and
-- the cart that went back has received nothing since its latest entry
pub retirement_begins_anew : ((u : ℕ) → sendings_of smallest unstarted stood_still u ≡ sendings_of smallest unstarted went_back u)
    × ((held_on smallest (floor_after smallest unstarted stood_still) ≡ 0) × ((held_on smallest (floor_after smallest unstarted went_back) ≡ 0)
    × ((retires_none smallest unstarted stood_still ≡ true) × ((retires_none smallest unstarted went_back ≡ false)
    × (((lists_after smallest unstarted both_empty stood_still).received 0 0 ≡ item 0 (0xa1 ∷ []) ∷ [])
    × ((lists_after smallest unstarted both_empty went_back).received 0 0 ≡ []))))))
retirement_begins_anew = went_back_lem

-- THE EXAMPLES: "The starred examples are gathered as rows of a single proved table over the written steps", each row within its own limits
pub examples_hold : map (λ r. outcome r.within r.given) examples ≡ map (λ r. r.shown) examples
examples_hold = table_holds
