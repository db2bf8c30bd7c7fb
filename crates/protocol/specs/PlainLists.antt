-- A LIST KEPT BY HAND: "an engine anyone can follow: for every station and cart, a plain list of messages not yet received. .. No wires, no queues."
-- The lists and their calls; the lists beside the controller; and the program that feeds both.
use Rattle.std.specs.Prelude.{Bool, true, false, cond, ◌&&◌, not, List, [], ◌∷◌, ◌++◌, ℕ, zero, suc, ◌+◌, ◌*◌, ◌^◌, eqb, ltb, leb, length, drop}
use Rattle.std.proofs.Math.Option.{Option, none, some}
use Rattle.protocol.specs.Folds.{count, sum, update, update2, by_option, is_empty}
use Rattle.protocol.specs.CartSets.{has}
use Rattle.protocol.specs.Floor.{Limits, Floor, most_text, unstarted}
use Rattle.protocol.specs.Events.{Event, start, enter, send, wire, radio, move, flag, group, send_group, send_long, retire, Answer, refused, accepted}
use Rattle.protocol.specs.Groups.{as_sent}
use Rattle.protocol.specs.Claims.{Claim, is, le, lt, both, all, test}
use Rattle.protocol.specs.Refusals.{check, wrong_size}
use Rattle.protocol.specs.Step.{step, answer}
use Rattle.protocol.specs.TwoLists.{Item, item}
use Rattle.protocol.specs.Frames.{end, refused_frame, taken, frame_of}
use Rattle.protocol.specs.Printed.{decimal, field}

-- THE LISTS
pub record Plain : Type 0 where
  -- a lent part has the wrong length is no
  pub lengths_right : Bool
  -- the words of the lent parts are such as their layout has
  pub words_right : Bool
  -- the mark that says started
  pub started : Bool
  pub stations : ℕ
  pub carts : ℕ
  -- "the lists' own count of that station's sends"
  pub count : ℕ → ℕ
  -- "for every station and cart, a plain list of messages not yet received": of station s and cart c, head first
  pub list : ℕ → ℕ → List Item

-- lists written afresh: their mark, how many stations, how many carts
abbrev pub plain_afresh : Bool → ℕ → ℕ → Plain
plain_afresh mark n k = record { lengths_right = true; words_right = true; started = mark; stations = n; carts = k; count = λ s. 0; list = λ s c. [] }

-- "A start sets them up empty"
abbrev pub plain_started : ℕ → ℕ → Plain
plain_started n k = plain_afresh true n k

-- what a program begins with
abbrev pub plain_unstarted : Plain
plain_unstarted = plain_afresh false 0 0

-- the lists with other counts and entries
abbrev pub on_lists : Plain → (ℕ → ℕ) → (ℕ → ℕ → List Item) → Plain
on_lists P count list =
    record {
      lengths_right = P.lengths_right;
      words_right = P.words_right;
      started = P.started;
      stations = P.stations;
      carts = P.carts;
      count = count;
      list = list;
    }

-- "A send appends its text, under the lists' own count of that station's sends, to the lists of the named carts"
unfoldable pub appended : Plain → ℕ → ℕ → List ℕ → Plain
appended P s set text =
    on_lists P
    (update P.count s (suc (P.count s)))
    (λ u c. cond (eqb u s && has set c) (P.list u c ++ (item (P.count s) text ∷ [])) (P.list u c))

-- "takes the head"
unfoldable pub beheaded : Plain → ℕ → ℕ → Plain
beheaded P s c = on_lists P P.count (update2 P.list s c (drop 1 (P.list s c)))

-- how many entries all lists have
unfoldable pub entries : Plain → ℕ
entries P = sum P.stations (λ s. sum P.carts (λ c. length (P.list s c)))

-- "It holds at most 2,048 = 32 × 64 entries"
abbrev pub most_entries : Limits → ℕ
most_entries M = M.held * M.carts

-- CALLS AND ANSWERS

-- start (stations, carts), send (station, set, text), and take (station, cart)
pub data PlainCall : Type 0 where
  plain_start : (stations carts : ℕ) → PlainCall
  plain_send : (station set : ℕ) (text : List ℕ) → PlainCall
  plain_take : (station cart : ℕ) → PlainCall

-- a refusal; a start; a send and its number; a take, which "takes the head and answers its number and text"
pub data PlainAnswer : Type 0 where
  plain_refused : (number : ℕ) → PlainAnswer
  plain_begun : PlainAnswer
  plain_sent : (number : ℕ) → PlainAnswer
  plain_took : (number : ℕ) (text : List ℕ) → PlainAnswer

-- the head of a list, as an answer
abbrev pub head_of : List Item → PlainAnswer
head_of [] = plain_refused 31
head_of (x ∷ l) = plain_took x.number x.text

-- a list's numbers rise, from low on and below high, and no text is longer than a send may carry
abbrev pub items_rule : Limits → ℕ → List Item → ℕ → Claim
items_rule M low [] high = is true
items_rule M low (x ∷ l) high =
    both (le low x.number) (both (lt x.number high) (both (le (length x.text) (most_text M)) (items_rule M (suc x.number) l high)))

module _ (M : Limits) (P : Plain) where
  -- "their own written form rule": started, with lent parts of the right lengths and words, of a size that a start accepts
  abbrev pub plain_size_rule : Claim
  plain_size_rule =
      both (is P.started) (both (is P.lengths_right) (both (is P.words_right)
      (both (both (lt 0 P.stations) (le P.stations M.stations)) (both (lt 0 P.carts) (le P.carts M.carts)))))

  -- and each station's count is in range, each list has numbers below it, and there are no more entries than they hold
  abbrev pub plain_rule : Claim
  plain_rule =
      both plain_size_rule
      (both (all P.stations (λ s. le (P.count s) (suc M.last)))
      (both (all P.stations (λ s. all P.carts (λ c. items_rule M 0 (P.list s c) (P.count s))))
      (le (entries P) (most_entries M))))

  -- its answer
  unfoldable pub plain_passes : Bool
  plain_passes = test plain_rule

  -- "Checks: 4 a text longer than a send may carry, 5 lists not started or against their own written form rule, 8, 9, 13 by that count, then 30 a
  -- send whose entries would make more than 2,048, and 31 taking from an empty list"; a start is "checked as the floor's"
  unfoldable pub plain_refusal : PlainCall → ℕ
  plain_refusal (plain_start n k) = check 5 (not P.lengths_right) (check 6 P.started (check 7 (wrong_size M n k) 0))
  plain_refusal (plain_send s set text) =
      check 4 (ltb (most_text M) (length text))
      (check 5 (not plain_passes)
      (check 8 (leb P.stations s)
      (check 9 (leb (2 ^ P.carts) set)
      (check 13 (ltb M.last (P.count s))
      (check 30 (ltb (most_entries M) (entries P + count P.carts (has set))) 0)))))
  plain_refusal (plain_take s c) =
      check 5 (not plain_passes)
      (check 8 (leb P.stations s)
      (check 9 (leb P.carts c)
      (check 31 (is_empty (P.list s c)) 0)))

  -- what a call that is not refused leaves, and answers
  abbrev pub plain_accept : PlainCall → Plain
  plain_accept (plain_start n k) = plain_started n k
  plain_accept (plain_send s set text) = appended P s set text
  plain_accept (plain_take s c) = beheaded P s c

  abbrev pub plain_report : PlainCall → PlainAnswer
  plain_report (plain_start n k) = plain_begun
  plain_report (plain_send s set text) = plain_sent (P.count s)
  plain_report (plain_take s c) = head_of (P.list s c)

  -- the lists after a call: a refusal changes nothing
  unfoldable pub plain_step : PlainCall → Plain
  plain_step call = cond (eqb (plain_refusal call) 0) (plain_accept call) P

  -- the answer to a call
  unfoldable pub plain_answer : PlainCall → PlainAnswer
  plain_answer call = cond (eqb (plain_refusal call) 0) (plain_report call) (plain_refused (plain_refusal call))

-- the lists after a list of calls
unfoldable pub plain_after_calls : Limits → Plain → List PlainCall → Plain
plain_after_calls M P [] = P
plain_after_calls M P (call ∷ calls) = plain_after_calls M (plain_step M P call) calls

-- BESIDE THE CONTROLLER

-- "with lists started alike and given exactly the accepted sends (set or members) and radio steps in their order": the call that an event and its
-- answer make. A group send and a long send come here as the sends that they were (`as_sent`), so the arms of their own give nothing
abbrev pub fed_by : Event → Answer → Option PlainCall
fed_by (start n k) (refused r) = none
fed_by (start n k) (accepted l) = some (plain_start n k)
fed_by (enter t c) a = none
fed_by (send s set text) (refused r) = none
fed_by (send s set text) (accepted l) = some (plain_send s set text)
fed_by (wire i j) a = none
fed_by (radio t c buffer) (refused r) = none
fed_by (radio t c buffer) (accepted l) = some (plain_take l.a c)
fed_by (move c to) a = none
fed_by (flag c b) a = none
fed_by (group g set) a = none
fed_by (send_group s g text) a = none
fed_by (send_long s set text) a = none
fed_by (retire c) a = none

-- the call that event e makes on floor F
abbrev pub call_of : Limits → Floor → Event → Option PlainCall
call_of M F e = fed_by (as_sent F e) (answer M F e)

-- the lists after a call, if there is one
abbrev pub fed : Limits → Plain → Option PlainCall → Plain
fed M P call = by_option call P (plain_step M P)

-- the lists after a list of events that the controller met on floor F
unfoldable pub plain_after : Limits → Floor → Plain → List Event → Plain
plain_after M F P [] = P
plain_after M F P (e ∷ es) = plain_after M (step M F e) (fed M P (call_of M F e)) es

-- THE PROGRAM: "feeds both so from one standard input"

-- a call that it makes, under the index of its frame, and the lists' answer
pub record Exchange : Type 0 where
  pub index : ℕ
  pub call : PlainCall
  pub answer : PlainAnswer

-- of one frame: one at most
abbrev pub exchanged : Limits → Plain → ℕ → Option PlainCall → List Exchange
exchanged M P index none = []
exchanged M P index (some call) = record { index = index; call = call; answer = plain_answer M P call } ∷ []

-- of the frames in these octets, at most so many, from a floor, lists and an index; a frame that is refused ends the run
unfoldable pub exchanges_from : Limits → ℕ → Floor → Plain → ℕ → List ℕ → List Exchange
exchanges_from M zero F P index l = []
exchanges_from M (suc k) F P index l =
    elim (frame_of M l) [
      | end ↦ []
      | refused_frame r ↦ []
      | taken e size ↦ exchanged M P index (call_of M F e) ++ exchanges_from M k (step M F e) (fed M P (call_of M F e)) (suc index) (drop size l)
    ]

-- of the whole input: it starts both by itself
unfoldable pub exchanges : Limits → List ℕ → List Exchange
exchanges M l = exchanges_from M (suc (length l)) unstarted plain_unstarted 0 l

-- "prints for each accepted radio step the index and the list head's initiator and number, and nothing else": by the lists' answer to the take
abbrev pub head_line : ℕ → PlainCall → PlainAnswer → List ℕ
head_line index (plain_start n k) a = []
head_line index (plain_send s set text) a = []
head_line index (plain_take s c) (plain_refused r) = []
head_line index (plain_take s c) plain_begun = []
head_line index (plain_take s c) (plain_sent n) = []
head_line index (plain_take s c) (plain_took n text) = decimal index ++ field s ++ field n ++ (10 ∷ [])

-- the lines of its calls
abbrev pub head_lines : List Exchange → List ℕ
head_lines [] = []
head_lines (x ∷ l) = head_line x.index x.call x.answer ++ head_lines l

-- what the program prints for these octets
unfoldable pub plain_run : Limits → List ℕ → List ℕ
plain_run M l = head_lines (exchanges M l)

-- WHAT THE THEOREMS SPEAK OF

-- an answer that is no refusal
abbrev pub NotRefused : PlainAnswer → Type 0
NotRefused (plain_refused r) = ⊥
NotRefused plain_begun = Unit {0}
NotRefused (plain_sent n) = Unit {0}
NotRefused (plain_took n text) = Unit {0}

-- "all shown never to occur"
abbrev pub NeverRefused : List Exchange → Type 0
NeverRefused [] = Unit {0}
NeverRefused (x ∷ l) = NotRefused x.answer × NeverRefused l

-- the same lines by the controller's own answers: of an accepted radio step, the index, the initiator and the number that it answers
abbrev pub receipt_line : ℕ → Event → Answer → List ℕ
receipt_line index (start n k) a = []
receipt_line index (enter t c) a = []
receipt_line index (send s set text) a = []
receipt_line index (wire i j) a = []
receipt_line index (radio t c buffer) (refused r) = []
receipt_line index (radio t c buffer) (accepted l) = decimal index ++ field l.a ++ field l.b ++ (10 ∷ [])
receipt_line index (move c to) a = []
receipt_line index (flag c b) a = []
receipt_line index (group g set) a = []
receipt_line index (send_group s g text) a = []
receipt_line index (send_long s set text) a = []
receipt_line index (retire c) a = []

-- of the frames in these octets, at most so many, from a floor and an index
unfoldable pub receipt_lines_from : Limits → ℕ → Floor → ℕ → List ℕ → List ℕ
receipt_lines_from M zero F index l = []
receipt_lines_from M (suc k) F index l =
    elim (frame_of M l) [
      | end ↦ []
      | refused_frame r ↦ []
      | taken e size ↦ receipt_line index e (answer M F e) ++ receipt_lines_from M k (step M F e) (suc index) (drop size l)
    ]
