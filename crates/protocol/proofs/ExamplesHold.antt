use mathlib.Core.Path.{ap, ap₂, refl, ◌∙◌, ◌≡◌}
use mathlib.Core.Bool.{false, true}
use mathlib.Core.List.{List, [], map, ◌∷◌}
use Prim.Native.Nat.{◌<◌, suc, ℕ}
use native.Mathlib.Omega.{arith}
use lib.Dec.{eqb}
use lib.ListN.{drop, length, replicate, take}
use borrow.Author.Tests.{ne_eqb}
use Rattle.protocol.specs.Folds.{count, every, first, list_of, sum}
use Rattle.protocol.specs.CartSets.{has, minus, set_of, union, with, without}
use Rattle.protocol.specs.Floor.{Floor, Limits, kit, limits, limits_of, unstarted}
use Rattle.protocol.specs.Events.{Answer, Event, Report, accepted, enter}
use Rattle.protocol.specs.Groups.{members_of, on_group}
use Rattle.protocol.specs.Order.{place_in}
use Rattle.protocol.specs.Handoff.{arrive, buffered_for, catch_up, catch_up_each, catch_up_stop, climb, deepest, largest_place, on_enter, on_flag, on_move, on_register, on_retire, passed_over, place_given, room_of, struck}
use Rattle.protocol.specs.Wired.{buffer, free_room, handle, multicast_by_row, on_ack_list, on_delete, on_multicast, on_send, on_wire, place_of_new, with_message}
use Rattle.protocol.specs.Wireless.{all_acked, hand_over, head_among, on_radio, queue_head, receive, send_acks}
use Rattle.protocol.specs.Deregister.{buffered_rooms, in_order, insert, is_complete, leave, lists_sent, on_deregister, test_each}
use Rattle.protocol.specs.Claims.{test}
use Rattle.protocol.specs.Form.{passes_form}
use Rattle.protocol.specs.Blank.{BlankBeyond}
use Rattle.protocol.specs.Refusals.{is_named, not_entered, refusal, refusal_if}
use Rattle.protocol.specs.Step.{accept, answer, answers, floor_after, step}
use Rattle.protocol.specs.Quiet.{buffers_after, busy_from, busy_to, dispatched, first_cart, first_station, next_event, quiet_after, quiet_call, quiet_events}
use Rattle.protocol.specs.PlainLists.{appended, beheaded, entries, exchanges, exchanges_from, plain_answer, plain_passes, plain_refusal, plain_run, plain_step}
use Rattle.protocol.specs.Frames.{big_endian, fields_of, unlisted, event_of, fields_refusal, frame_refusal, frame_of}
use Rattle.protocol.specs.Printed.{decimal, decimal_digits, hexadecimal, rest_of, line_of, printed_run}
use Rattle.protocol.specs.Examples.{Given, K1frames, Row, Shown, after, all_sent, answered, events, examples, form, frames, frames_on, held_on, holds, holds_no_text, near_the_last, octets_of, outcome, passes, printed, rolls_away, smallest, stood_still, went_back}
use Rattle.protocol.proofs.Tests.{and-false}
use Rattle.protocol.proofs.Ready.{Ready, quick_answers_lem, quick_floor_lem, quick_lines_lem, quick_answer, quick_answers, quick_floor, quick_lines, quick_step, ready_run, ready_unstarted}
use Rattle.protocol.proofs.SumSteps.{enter_over_all}
use Rattle.protocol.proofs.QuietCall.{call_runs, else_runs}
use Rattle.protocol.specs.Route.{retires_none, sendings_of}
use Rattle.protocol.specs.TwoLists.{both_empty, item, lists_after}

-- The starred examples, by computation.
-- what is computed for a row: with refusal 5 read off the mark
unfoldable pub quick_outcome : Limits → Given → Shown
quick_outcome M (frames octets) = printed (quick_lines M (suc (length octets)) unstarted 0 octets)
quick_outcome M (frames_on F octets) = printed (quick_lines M (suc (length octets)) F 0 octets)
quick_outcome M (events F es hidden) = answered (drop hidden (quick_answers M F es))
quick_outcome M (after F es) = holds (held_on M (quick_floor M F es))
quick_outcome M (form F) = passes (passes_form M F)

-- a row's floor, where it is started, passes the form rule
abbrev pub ReadyFor : Limits → Given → Type 0
ReadyFor M (frames octets) = Unit {0}
ReadyFor M (frames_on F octets) = Ready M F
ReadyFor M (events F es hidden) = Ready M F
ReadyFor M (after F es) = Ready M F
ReadyFor M (form F) = Unit {0}

from_unstarted : {M : Limits} → Ready M unstarted
from_unstarted {M} = ready_unstarted M unstarted refl

quick_outcome_lem : (M : Limits) (g : Given) → ReadyFor M g → outcome M g ≡ quick_outcome M g
unfolding outcome quick_outcome printed_run
quick_outcome_lem M (frames octets) R = ap printed (quick_lines_lem M (suc (length octets)) unstarted 0 octets from_unstarted)
quick_outcome_lem M (frames_on F octets) R = ap printed (quick_lines_lem M (suc (length octets)) F 0 octets R)
quick_outcome_lem M (events F es hidden) R = ap (λ (l : List Answer). answered (drop hidden l)) (quick_answers_lem M F es R)
quick_outcome_lem M (after F es) R = ap (λ (X : Floor). holds (held_on M X)) (quick_floor_lem M F es R)
quick_outcome_lem M (form F) R = refl

abbrev pub AllReady : List Row → Type 0
AllReady [] = Unit {0}
AllReady (r ∷ rows) = ReadyFor r.within r.given × AllReady rows

quick_table : (rows : List Row) → AllReady rows → map (λ r. outcome r.within r.given) rows ≡ map (λ r. quick_outcome r.within r.given) rows
quick_table [] R = refl
quick_table (r ∷ rows) R = ap₂ (λ (x : Shown) (l : List Shown). x ∷ l) (quick_outcome_lem r.within r.given R.0) (quick_table rows R.1)

kit_near_the_last_passes : passes_form (limits_of kit) (near_the_last 65534) ≡ true
unfolding passes_form test every has count sum room_of first list_of
kit_near_the_last_passes = refl

floor_near_the_last_passes : passes_form limits (near_the_last 4294967294) ≡ true
unfolding passes_form test every has count sum room_of first list_of
floor_near_the_last_passes = refl

near_the_last_blank : (M : Limits) (last : ℕ) → 0 < M.stations → 0 < M.carts → BlankBeyond M (near_the_last last)
near_the_last_blank M last n k =
    record {
      sent = λ s h. rw (ne_eqb s 0 (omega arith));
      expected = λ t s lt h. rw (ne_eqb s 0 (let w = M.fits in omega arith), and-false (eqb t 0));
      place = λ c h. rw (ne_eqb c 0 (omega arith));
      next = record { below = λ c s h. rw (ne_eqb c 0 (omega arith)); right = λ c s h. rw (ne_eqb s 0 (let w = M.fits in omega arith), and-false (eqb c 0)) };
      queue = record { below = λ m t h. refl; right = λ m t h. refl };
      lines = record { below = λ i j h. refl; right = λ i j h. refl };
    }

no_text_passes : passes_form limits holds_no_text ≡ true
unfolding passes_form test every has count sum room_of first list_of
no_text_passes = refl

no_text_blank : BlankBeyond limits holds_no_text
no_text_blank =
    record {
      sent = λ s h. rw (ne_eqb s 0 (omega arith));
      expected = λ t s lt h. rw (ne_eqb s 0 (omega arith), and-false (eqb t 0));
      place = λ c h. rw (ne_eqb c 0 (omega arith));
      next = record { below = λ c s h. refl; right = λ c s h. refl };
      queue = record { below = λ m t h. rw (ne_eqb m 0 (omega arith)); right = λ m t h. rw (ne_eqb t 0 (omega arith), and-false (eqb m 0)) };
      lines = record { below = λ i j h. refl; right = λ i j h. refl };
    }

computed : map (λ r. quick_outcome r.within r.given) examples ≡ map (λ r. r.shown) examples
unfolding quick_outcome quick_lines quick_answers quick_floor quick_step quick_answer refusal_if accept frame_of frame_refusal fields_refusal fields_of big_endian unlisted event_of rest_of line_of decimal decimal_digits hexadecimal on_enter on_flag on_retire on_group members_of on_send on_wire on_radio on_move handle on_multicast multicast_by_row on_ack_list on_delete on_deregister buffered_rooms in_order insert is_complete test_each lists_sent leave on_register arrive passed_over deepest largest_place place_given place_of_new place_in catch_up_each catch_up catch_up_stop climb buffered_for room_of free_room struck with_message buffer receive send_acks all_acked hand_over queue_head head_among not_entered is_named passes_form test every count sum first list_of has union minus with without set_of
computed = refl

kit_near_the_last : Ready (limits_of kit) (near_the_last 65534)
kit_near_the_last s = (near_the_last_blank (limits_of kit) 65534 (omega arith) (omega arith), kit_near_the_last_passes)

floor_near_the_last : Ready limits (near_the_last 4294967294)
floor_near_the_last s = (near_the_last_blank limits 4294967294 (omega arith) (omega arith), floor_near_the_last_passes)

no_text : Ready limits holds_no_text
no_text s = (no_text_blank, no_text_passes)

-- THE TABLE
pub table_holds : map (λ r. outcome r.within r.given) examples ≡ map (λ r. r.shown) examples
table_holds =
    quick_table examples (
      tt,
      (
        u,
        (
          u,
          (
            u,
            (
              u,
              (
                u,
                (
                  tt,
                  (
                    kit_near_the_last,
                    (
                      tt,
                      (
                        floor_near_the_last,
                        (
                          u,
                          (
                            u,
                            (
                              u,
                              (
                                u,
                                (
                                  tt,
                                  (
                                    no_text,
                                    (
                                      no_text,
                                      (no_text, (u, (tt, (tt, (u, (u, (tt, (k, (k, (k, (tt, (tt, tt)))))))))))),
                                    ),
                                  ),
                                ),
                              ),
                            ),
                          ),
                        ),
                      ),
                    ),
                  ),
                ),
              ),
            ),
          ),
        ),
      ),
    )
    ∙ computed
  where
    u : Ready limits unstarted
    u = from_unstarted

    k : Ready (limits_of kit) unstarted
    k = from_unstarted

-- THE MOST THAT A STEP PASSES OVER
all_sent_passes : passes_form limits all_sent ≡ true
unfolding passes_form test every has count sum room_of first list_of
all_sent_passes = refl

all_sent_enters : refusal limits all_sent (enter 0 0) ≡ 0
unfolding refusal refusal_if
all_sent_enters = rw all_sent_passes

all_sent_sum : sum 16 (λ s. all_sent.expected 0 s) ≡ 68719476720
unfolding sum
all_sent_sum = refl

pub most_passed : (passes_form limits all_sent ≡ true)
    × ((l : Report) × (answer limits all_sent (enter 0 0) ≡ accepted l) × (l.p ≡ 68719476720))
unfolding answer accept on_enter
most_passed =
    (all_sent_passes, ((accept limits all_sent (enter 0 0)).report, rw all_sent_enters, enter_over_all limits all_sent 0 0 (λ m l. refl) ∙ all_sent_sum))

-- THE CART THAT ROLLS AWAY
rolls_away_lem : held_on limits (quick_floor limits unstarted rolls_away) ≡ 0
unfolding quick_floor quick_step refusal_if accept on_enter on_flag on_retire on_group members_of on_send on_wire on_radio on_move handle on_multicast multicast_by_row on_ack_list on_delete on_deregister buffered_rooms in_order insert is_complete test_each lists_sent leave on_register arrive passed_over deepest largest_place place_given place_of_new place_in catch_up_each catch_up catch_up_stop climb buffered_for room_of free_room struck with_message buffer receive send_acks all_acked hand_over queue_head head_among not_entered every count sum first list_of has union minus with without set_of
rolls_away_lem = refl

pub rolled_away : held_on limits (floor_after limits unstarted rolls_away) ≡ 0
rolled_away = ap (λ (X : Floor). held_on limits X) (quick_floor_lem limits unstarted rolls_away from_unstarted) ∙ rolls_away_lem

-- THE SAME RUN CLOSED once the cart has greeted its new station: the dispatcher's events, and the buffer that they leave
closing : Floor
closing = quick_floor limits unstarted (take 8 rolls_away)

closing_is : floor_after limits unstarted (take 8 rolls_away) ≡ closing
unfolding closing
closing_is = quick_floor_lem limits unstarted (take 8 rolls_away) from_unstarted

closing_events : quiet_events limits closing ≡ drop 8 rolls_away
unfolding closing quiet_events dispatched next_event busy_from busy_to first_station first_cart step refusal passes_form test quick_floor quick_step refusal_if accept on_enter on_flag on_retire on_group members_of on_send on_wire on_radio on_move handle on_multicast multicast_by_row on_ack_list on_delete on_deregister buffered_rooms in_order insert is_complete test_each lists_sent leave on_register arrive passed_over deepest largest_place place_given place_of_new place_in catch_up_each catch_up catch_up_stop climb buffered_for room_of free_room struck with_message buffer receive send_acks all_acked hand_over queue_head head_among not_entered every count sum first list_of has union minus with without set_of
closing_events = refl

closing_started : closing.started ≡ true
unfolding closing quick_floor quick_step refusal_if accept on_enter on_flag on_retire on_group members_of on_send on_wire on_radio on_move handle on_multicast multicast_by_row on_ack_list on_delete on_deregister buffered_rooms in_order insert is_complete test_each lists_sent leave on_register arrive passed_over deepest largest_place place_given place_of_new place_in catch_up_each catch_up catch_up_stop climb buffered_for room_of free_room struck with_message buffer receive send_acks all_acked hand_over queue_head head_among not_entered every count sum first list_of has union minus with without set_of
closing_started = refl

closing_ready : Ready limits closing
closing_ready = let z = ready_run limits unstarted (take 8 rolls_away) from_unstarted in rw closing_is at z

closing_writes : buffers_after (quick_answers limits closing (drop 8 rolls_away)) (replicate 512 0) ≡ 0xa1 ∷ replicate 511 0
unfolding closing quick_floor quick_answers quick_answer quick_step refusal_if accept on_enter on_flag on_retire on_group members_of on_send on_wire on_radio on_move handle on_multicast multicast_by_row on_ack_list on_delete on_deregister buffered_rooms in_order insert is_complete test_each lists_sent leave on_register arrive passed_over deepest largest_place place_given place_of_new place_in catch_up_each catch_up catch_up_stop climb buffered_for room_of free_room struck with_message buffer receive send_acks all_acked hand_over queue_head head_among not_entered every count sum first list_of has union minus with without set_of
closing_writes = refl

pub closed : (quiet_events limits (floor_after limits unstarted (take 8 rolls_away)) ≡ drop 8 rolls_away)
    × (((quiet_call limits (floor_after limits unstarted (take 8 rolls_away)) (replicate 512 0)).answer ≡ quiet_after 7)
    × ((quiet_call limits (floor_after limits unstarted (take 8 rolls_away)) (replicate 512 0)).buffer ≡ 0xa1 ∷ replicate 511 0))
closed =
    let runs = call_runs limits closing (replicate 512 0) (else_runs limits closing 512 (closing_ready closing_started).1 (omega arith)) in
    rw closing_is (
      closing_events,
      (
        runs.0 ∙ ap (λ (es : List Event). quiet_after (length es)) closing_events,
        runs.1.1
            ∙ ap (λ (es : List Event). buffers_after (answers limits closing es) (replicate 512 0)) closing_events
            ∙ ap (λ (l : List Answer). buffers_after l (replicate 512 0)) (quick_answers_lem limits closing (drop 8 rolls_away) closing_ready)
            ∙ closing_writes,
      ),
    )

-- THE PROGRAM OF THE PLAIN LISTS, on the frames of K1
pub lists_of_K1 : plain_run limits K1frames ≡ octets_of "9 1 0\n"
unfolding plain_run exchanges exchanges_from plain_answer plain_step plain_refusal plain_passes appended beheaded entries step answer refusal passes_form test refusal_if accept frame_of frame_refusal fields_refusal fields_of big_endian unlisted event_of decimal decimal_digits on_enter on_flag on_retire on_group members_of on_send on_wire on_radio on_move handle on_multicast multicast_by_row on_ack_list on_delete on_deregister buffered_rooms in_order insert is_complete test_each lists_sent leave on_register arrive passed_over deepest largest_place place_given place_of_new place_in catch_up_each catch_up catch_up_stop climb buffered_for room_of free_room struck with_message buffer receive send_acks all_acked hand_over queue_head head_among not_entered every count sum first list_of has union minus with without set_of
lists_of_K1 = refl

-- A RUN WITH A RETIREMENT: the same sends, nothing held at either end, and other lists
pub went_back_lem : ((u : ℕ) → sendings_of smallest unstarted stood_still u ≡ sendings_of smallest unstarted went_back u)
    × ((held_on smallest (floor_after smallest unstarted stood_still) ≡ 0) × ((held_on smallest (floor_after smallest unstarted went_back) ≡ 0)
    × ((retires_none smallest unstarted stood_still ≡ true) × ((retires_none smallest unstarted went_back ≡ false)
    × (((lists_after smallest unstarted both_empty stood_still).received 0 0 ≡ item 0 (0xa1 ∷ []) ∷ [])
    × ((lists_after smallest unstarted both_empty went_back).received 0 0 ≡ []))))))
unfolding sendings_of retires_none floor_after lists_after step answer refusal refusal_if accept frame_of frame_refusal fields_refusal fields_of big_endian unlisted event_of rest_of line_of decimal decimal_digits hexadecimal on_enter on_flag on_retire on_group members_of on_send on_wire on_radio on_move handle on_multicast multicast_by_row on_ack_list on_delete on_deregister buffered_rooms in_order insert is_complete test_each lists_sent leave on_register arrive passed_over deepest largest_place place_given place_of_new place_in catch_up_each catch_up catch_up_stop climb buffered_for room_of free_room struck with_message buffer receive send_acks all_acked hand_over queue_head head_among not_entered is_named passes_form test every count sum first list_of has union minus with without set_of
went_back_lem = ((λ u. refl), (refl, (refl, (refl, (refl, (refl, refl))))))
