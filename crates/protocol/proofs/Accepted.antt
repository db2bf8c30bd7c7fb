use mathlib.Core.Path.{ap, refl, ◌∙◌, ◌≡◌}
use mathlib.Core.Bool.{◌&&◌, Bool, cond, false, not, true, ◌||◌}
use mathlib.Core.Option.{some}
use mathlib.Core.List.{List, [], ◌∷◌}
use Prim.Native.Nat.{◌+◌, ◌<◌, ◌^◌, ℕ, ◌≤◌}
use native.Mathlib.Omega.{arith}
use lib.Dec.{eqb, leb, ltb}
use lib.ListN.{length}
use borrow.Author.Tests.{eqb-true, leb-false, lt-leb, ltb-false, ne_eqb, not-false}
use Rattle.protocol.specs.Folds.{every, is_empty, is_none}
use Rattle.protocol.specs.CartSets.{has}
use Rattle.protocol.specs.Floor.{Floor, Limits, Record, behead, entered, is_at, is_held, most_text, moving, on_lines}
use Rattle.protocol.specs.Events.{Answer, Event, Report, accepted, enter, flag, group, move, radio, refused, retire, send, send_group, send_long, start, wire}
use Rattle.protocol.specs.Groups.{group_count, on_group}
use Rattle.protocol.specs.Store.{not_long, store_used}
use Rattle.protocol.specs.Handoff.{on_enter, on_flag, on_move, on_retire}
use Rattle.protocol.specs.Wired.{buffer, free_room, handle, on_send, on_wire, with_message}
use Rattle.protocol.specs.Wireless.{hand_over, on_radio, queue_head}
use Rattle.protocol.specs.Claims.{True}
use Rattle.protocol.specs.Form.{form_rule, group_rule, passes_form}
use Rattle.protocol.specs.Refusals.{check, first_of_send, head_lacks, is_named, no_cart, no_group, no_station, not_entered, number_and_room, refusal, refusal_if, store_full, strangers, undefined}
use Rattle.protocol.specs.Step.{accept, answer, step}
use Rattle.protocol.proofs.Tests.{by_eq, by_option_lem, by_test, clash, every_all, every_at, first_some, or-false}
use Rattle.protocol.proofs.ClaimLaws.{reflect}
use Rattle.protocol.proofs.Readings.{refused_as_the_send}

-- What is known of an event that passed its checks; and by cases on what an event does to a started floor.
-- a check that did not apply, and the rest of the table
pub passed_check : (r : ℕ) (applies : Bool) (rest : ℕ) → 0 < r → check r applies rest ≡ 0 → (applies ≡ false) × (rest ≡ 0)
passed_check r true rest h e = absurd (omega arith)
passed_check r false rest h e = (refl, e)

-- an accepted event meets no refusal
pub accepted_passes : (M : Limits) (F : Floor) (e : Event) (l : Report) → answer M F e ≡ accepted l → refusal M F e ≡ 0
unfolding answer
accepted_passes M F e l a =
    by_eq (refusal M F e) 0 (λ z. z)
    (λ z. absurd (let b : refused (refusal M F e) ≡ accepted l = rw (ne_eqb (refusal M F e) 0 z) at a in let y : ◌≡◌ {A = ℕ} 0 1 = cc in omega arith))

-- and its report is that of its step
pub accepted_report : (M : Limits) (F : Floor) (e : Event) (l : Report) → answer M F e ≡ accepted l → (accept M F e).report ≡ l
unfolding answer
accepted_report M F e l a = let b : accepted (accept M F e).report ≡ accepted l = rw (accepted_passes M F e l a) at a in cc

pub record MayEnter (F : Floor) (t c : ℕ) : Type 0 where
  pub station : t < F.stations
  pub cart : c < F.carts
  pub is_outside : entered (F.place c) ≡ false

-- to whom: by the first checks of a send to a set, or by what is known of a group
pub record MayName (F : Floor) (s set : ℕ) : Type 0 where
  pub station : s < F.stations
  pub carts : set < 2 ^ F.carts
  pub some : eqb set 0 ≡ false
  pub all_entered_lem : not_entered F set ≡ false

-- under which number, and in which room
pub record MayTake (M : Limits) (F : Floor) (s m : ℕ) : Type 0 where
  pub number : F.sent s ≤ M.last
  pub room : m < M.held
  pub free : eqb (F.waiting m) 0 ≡ true

pub record MaySend (M : Limits) (F : Floor) (s set : ℕ) (text : List ℕ) (m : ℕ) : Type 0 where
  pub names : MayName F s set
  pub fits : length text ≤ most_text M
  pub has_text : is_empty text ≡ false
  pub stored : ltb M.text (length text) ≡ true → store_used M F.waiting F.text + length text ≤ M.store
  pub takes : MayTake M F s m

pub record MayWire (F : Floor) (i j : ℕ) (r : Record) (l : List Record) : Type 0 where
  pub from : i < F.stations
  pub to : j < F.stations
  pub line : F.lines i j ≡ r ∷ l

pub record MayRadio (M : Limits) (F : Floor) (t c m : ℕ) : Type 0 where
  pub station : t < F.stations
  pub cart : c < F.carts
  pub is_at_lem : is_at (F.place c) t ≡ true
  pub is_steady_lem : F.steady c ≡ true
  pub is_head : queue_head M F t ≡ some m
  pub queued : has (F.queue m t) c ≡ true

pub record MayFlag (F : Floor) (c : ℕ) : Type 0 where
  pub cart : c < F.carts
  pub has_entered_lem : entered (F.place c) ≡ true

pub record MayRetire (M : Limits) (F : Floor) (c : ℕ) : Type 0 where
  pub cart : c < F.carts
  pub has_entered_lem : entered (F.place c) ≡ true
  pub not_moving : moving (F.place c) ≡ false
  pub unnamed : (m : ℕ) → m < M.held → eqb (F.waiting m) 0 ≡ false → has (F.named m) c ≡ true → ⊥

pub record MayGroup (F : Floor) (g set : ℕ) : Type 0 where
  pub carts : set < 2 ^ F.carts
  pub all_entered_lem : not_entered F set ≡ false
  pub number : g < group_count

-- a named cart has entered
pub named_has_entered : (F : Floor) (set c : ℕ) → c < F.carts → not_entered F set ≡ false → has set c ≡ true → entered (F.place c) ≡ true
unfolding not_entered
named_has_entered F set c lc e n =
    let z = every_at F.carts (λ c. not (has set c) || entered (F.place c)) (not-false (every F.carts (λ c. not (has set c) || entered (F.place c))) e) c lc in
    rw n at z

-- and where each has, 12 is not met
pub all_have_entered : (F : Floor) (set : ℕ) → ((c : ℕ) → c < F.carts → has set c ≡ true → entered (F.place c) ≡ true) → not_entered F set ≡ false
unfolding not_entered
all_have_entered F set h =
    ap not (every_all F.carts (λ c. not (has set c) || entered (F.place c)) (λ c lc. by_test (has set c) (λ n. rw (n, h c lc n)) (λ n. rw n)))

-- the members of a group, on a floor that passes the form rule
pub group_clause : (M : Limits) (F : Floor) → passes_form M F ≡ true → (g : ℕ) → g < group_count → True (group_rule M F g)
unfolding passes_form
group_clause M F e = ((reflect (form_rule M F)).0 e).1.1.1.1.1.1.1.1.1.1.0

pub record MayMove (F : Floor) (c to : ℕ) : Type 0 where
  pub station : to < F.stations
  pub cart : c < F.carts
  pub has_entered_lem : entered (F.place c) ≡ true
  pub not_moving : moving (F.place c) ≡ false
  pub elsewhere : is_at (F.place c) to ≡ false

-- the number and the room that a send takes, and what follows those checks
pub has_room : (M : Limits) (F : Floor) (s rest : ℕ) → number_and_room M F s rest ≡ 0
    → (m : ℕ) × (free_room M F ≡ some m) × MayTake M F s m × (rest ≡ 0)
unfolding free_room
has_room M F s rest e =
    let a13 = passed_check 13 (ltb M.last (F.sent s)) _ (omega arith) e in
    let a14 = passed_check 14 (is_none (free_room M F)) rest (omega arith) a13.1 in
    by_option_lem (free_room M F)
    (λ q. clash (is_none (free_room M F)) (rw q) a14.0)
    (λ m q. let f = first_some M.held (λ m. eqb (F.waiting m) 0) m q in
    (m, q, record { number = ltb-false M.last (F.sent s) a13.0; room = f.0; free = f.1 }, a14.1))

-- a send that is not long takes none of the store
short_send : (M : Limits) (F : Floor) (s set : ℕ) (text : List ℕ) → MayName F s set → ltb M.text (length text) ≡ false → is_empty text ≡ false
    → number_and_room M F s 0 ≡ 0
    → (m : ℕ) × (free_room M F ≡ some m) × MaySend M F s set text m
short_send M F s set text named short full e =
    let a14 = has_room M F s 0 e in
    let most = ltb-false M.text (length text) short in (
      a14.0,
      a14.1,
      record {
        names = named;
        fits = omega arith;
        has_text = full;
        stored = λ l. clash (ltb M.text (length text)) l short;
        takes = a14.2;
      },
    )

-- "33 to 512 octets"
pub is_long_lem : (M : Limits) (octets : ℕ) → not_long M octets ≡ false → (M.text < octets) × (octets ≤ M.long)
is_long_lem M octets e =
    let z = or-false (leb octets M.text) (ltb M.long octets) e in (leb-false octets M.text z.0, ltb-false M.long octets z.1)

not_empty : (n : ℕ) (l : List ℕ) → n < length l → is_empty l ≡ false
not_empty n [] h = absurd (omega arith)
not_empty n (x ∷ l) h = refl

module _ (M : Limits) (F : Floor) (broken : Bool) where
  pub may_enter : (t c : ℕ) → refusal_if M F broken (enter t c) ≡ 0 → MayEnter F t c
  unfolding refusal_if
  may_enter t c e =
      let a5 = passed_check 5 broken _ (omega arith) e in
      let a8 = passed_check 8 (no_station F t) _ (omega arith) a5.1 in
      let a9 = passed_check 9 (no_cart F c) _ (omega arith) a8.1 in
      let a10 = passed_check 10 (entered (F.place c)) _ (omega arith) a9.1 in
      record { station = leb-false F.stations t a8.0; cart = leb-false F.carts c a9.0; is_outside = a10.0 }

  -- to whom a send may go, by its first checks
  may_name : (s set rest : ℕ) → first_of_send M F broken s set rest ≡ 0 → MayName F s set × (rest ≡ 0)
  may_name s set rest e =
      let a5 = passed_check 5 broken _ (omega arith) e in
      let a8 = passed_check 8 (no_station F s) _ (omega arith) a5.1 in
      let a9 = passed_check 9 (strangers F set) _ (omega arith) a8.1 in
      let a11 = passed_check 11 (eqb set 0) _ (omega arith) a9.1 in
      let a12 = passed_check 12 (not_entered F set) rest (omega arith) a11.1 in (
        record { station = leb-false F.stations s a8.0; carts = leb-false (2 ^ F.carts) set a9.0; some = a11.0; all_entered_lem = a12.0 },
        a12.1,
      )

  pub may_send : (s set : ℕ) (text : List ℕ) → refusal_if M F broken (send s set text) ≡ 0 → (m : ℕ) × (free_room M F ≡ some m) × MaySend M F s set text m
  unfolding refusal_if
  may_send s set text e =
      let a4 = passed_check 4 (ltb M.text (length text)) _ (omega arith) e in
      let a12 = may_name s set _ a4.1 in
      let a24 = passed_check 24 (is_empty text) _ (omega arith) a12.1 in
      short_send M F s set text a12.0 a4.0 a24.0 a24.1

  pub may_send_long : (s set : ℕ) (text : List ℕ) → refusal_if M F broken (send_long s set text) ≡ 0
      → (m : ℕ) × (free_room M F ≡ some m) × MaySend M F s set text m
  unfolding refusal_if
  may_send_long s set text e =
      let a4 = passed_check 4 (not_long M (length text)) _ (omega arith) e in
      let a12 = may_name s set _ a4.1 in
      let a14 = has_room M F s _ a12.1 in
      let a27 = passed_check 27 (store_full M F text) _ (omega arith) a14.3 in
      let long = is_long_lem M (length text) a4.0 in
      let most = long.1 in (
        a14.0,
        a14.1,
        record {
          names = a12.0;
          fits = omega arith;
          has_text = not_empty M.text text long.0;
          stored = λ l. ltb-false M.store (store_used M F.waiting F.text + length text) a27.0;
          takes = a14.2;
        },
      )

  pub may_wire : (i j : ℕ) → refusal_if M F broken (wire i j) ≡ 0 → (r : Record) × (l : List Record) × MayWire F i j r l
  unfolding refusal_if
  may_wire i j e =
      let a5 = passed_check 5 broken _ (omega arith) e in
      let a8 = passed_check 8 (no_station F i || no_station F j) _ (omega arith) a5.1 in
      let a15 = passed_check 15 (is_empty (F.lines i j)) _ (omega arith) a8.1 in
      let neither = or-false (no_station F i) (no_station F j) a8.0 in
      some_head (F.lines i j) refl a15.0 (leb-false F.stations i neither.0) (leb-false F.stations j neither.1)
    where
      some_head : (l : List Record) → F.lines i j ≡ l → is_empty l ≡ false → i < F.stations → j < F.stations → (r : Record) × (l : List Record) × MayWire F i j r l
      some_head [] q n li lj = clash true refl n
      some_head (r ∷ l) q n li lj = (r, l, record { from = li; to = lj; line = q })

  pub may_radio : (t c buffer : ℕ) → refusal_if M F broken (radio t c buffer) ≡ 0 → (m : ℕ) × MayRadio M F t c m
  unfolding refusal_if
  may_radio t c buffer e =
      let a5 = passed_check 5 broken _ (omega arith) e in
      let a8 = passed_check 8 (no_station F t) _ (omega arith) a5.1 in
      let a9 = passed_check 9 (no_cart F c) _ (omega arith) a8.1 in
      let a16 = passed_check 16 (not (is_at (F.place c) t)) _ (omega arith) a9.1 in
      let a25 = passed_check 25 (not (F.steady c)) _ (omega arith) a16.1 in
      let a17 = passed_check 17 (head_lacks M F t c) _ (omega arith) a25.1 in
      by_option_lem (queue_head M F t)
      (λ q. clash (head_lacks M F t c) (rw q) a17.0)
      (λ m q. (
        m,
        record {
          station = leb-false F.stations t a8.0;
          cart = leb-false F.carts c a9.0;
          is_at_lem = not-false (is_at (F.place c) t) a16.0;
          is_steady_lem = not-false (F.steady c) a25.0;
          is_head = q;
          queued = not-false (has (F.queue m t) c) (let z = a17.0 in rw q at z);
        },
      ))

  pub may_move : (c to : ℕ) → refusal_if M F broken (move c to) ≡ 0 → MayMove F c to
  unfolding refusal_if
  may_move c to e =
      let a5 = passed_check 5 broken _ (omega arith) e in
      let a8 = passed_check 8 (no_station F to) _ (omega arith) a5.1 in
      let a9 = passed_check 9 (no_cart F c) _ (omega arith) a8.1 in
      let a18 = passed_check 18 (not (entered (F.place c))) _ (omega arith) a9.1 in
      let a19 = passed_check 19 (moving (F.place c)) _ (omega arith) a18.1 in
      let a20 = passed_check 20 (is_at (F.place c) to) _ (omega arith) a19.1 in
      record {
        station = leb-false F.stations to a8.0;
        cart = leb-false F.carts c a9.0;
        has_entered_lem = not-false (entered (F.place c)) a18.0;
        not_moving = a19.0;
        elsewhere = a20.0;
      }

  pub may_flag : (c : ℕ) (b : Bool) → refusal_if M F broken (flag c b) ≡ 0 → MayFlag F c
  unfolding refusal_if
  may_flag c b e =
      let a5 = passed_check 5 broken _ (omega arith) e in
      let a9 = passed_check 9 (no_cart F c) _ (omega arith) a5.1 in
      let a18 = passed_check 18 (not (entered (F.place c))) _ (omega arith) a9.1 in
      record { cart = leb-false F.carts c a9.0; has_entered_lem = not-false (entered (F.place c)) a18.0 }

  pub may_retire : (c : ℕ) → refusal_if M F broken (retire c) ≡ 0 → MayRetire M F c
  unfolding refusal_if is_named
  may_retire c e =
      let a5 = passed_check 5 broken _ (omega arith) e in
      let a9 = passed_check 9 (no_cart F c) _ (omega arith) a5.1 in
      let a18 = passed_check 18 (not (entered (F.place c))) _ (omega arith) a9.1 in
      let a19 = passed_check 19 (moving (F.place c)) _ (omega arith) a18.1 in
      let a29 = passed_check 29 (is_named M F c) _ (omega arith) a19.1 in
      record {
        cart = leb-false F.carts c a9.0;
        has_entered_lem = not-false (entered (F.place c)) a18.0;
        not_moving = a19.0;
        unnamed = λ m l h n. absurd (let z = every_at M.held (λ m. not (is_held F m && has (F.named m) c))
            (not-false (every M.held (λ m. not (is_held F m && has (F.named m) c))) a29.0) m l in
            clash false (rw (h, n) at z) refl);
      }

module _ (M : Limits) (F : Floor) where
  pub may_group : (g set : ℕ) → refusal_if M F (not (passes_form M F)) (group g set) ≡ 0 → MayGroup F g set
  unfolding refusal_if
  may_group g set e =
      let a5 = passed_check 5 (not (passes_form M F)) _ (omega arith) e in
      let a9 = passed_check 9 (strangers F set) _ (omega arith) a5.1 in
      let a12 = passed_check 12 (not_entered F set) _ (omega arith) a9.1 in
      let a26 = passed_check 26 (no_group g) _ (omega arith) a12.1 in
      record { carts = leb-false (2 ^ F.carts) set a9.0; all_entered_lem = a12.0; number = leb-false group_count g a26.0 }

  -- a group send is not asked 9, 11 and 12: what they grant, the form rule and 26 say of the members
  pub may_send_group : (s g : ℕ) (text : List ℕ) → refusal_if M F (not (passes_form M F)) (send_group s g text) ≡ 0
      → (m : ℕ) × (free_room M F ≡ some m) × MaySend M F s (F.groups g) text m
  unfolding refusal_if
  may_send_group s g text e =
      let a4 = passed_check 4 (ltb M.text (length text)) _ (omega arith) e in
      let a5 = passed_check 5 (not (passes_form M F)) _ (omega arith) a4.1 in
      let a8 = passed_check 8 (no_station F s) _ (omega arith) a5.1 in
      let a26 = passed_check 26 (undefined F g) _ (omega arith) a8.1 in
      let a24 = passed_check 24 (is_empty text) _ (omega arith) a26.1 in
      let defined = or-false (no_group g) (eqb (F.groups g) 0) a26.0 in
      let clause = group_clause M F (not-false (passes_form M F) a5.0) g (leb-false group_count g defined.0) in
      let named : MayName F s (F.groups g) = record {
        station = leb-false F.stations s a8.0;
        carts = clause.0;
        some = defined.1;
        all_entered_lem = all_have_entered F (F.groups g) clause.1;
      } in
      short_send M F s (F.groups g) text named a4.0 a24.0 a24.1

-- A GROUP SEND IS A SEND TO ITS MEMBERS, on a floor that passes the form rule and to a group that is defined
module _ (M : Limits) (F : Floor) (s g : ℕ) (text : List ℕ) (h : passes_form M F ≡ true) (d : undefined F g ≡ false) where
  same_refusal : refusal M F (send_group s g text) ≡ refusal M F (send s (F.groups g) text)
  unfolding refusal
  same_refusal =
      let clause = group_clause M F h g (leb-false group_count g (or-false (no_group g) (eqb (F.groups g) 0) d).0) in
      rw h (refused_as_the_send M F s g text d (lt-leb (2 ^ F.carts) (F.groups g) clause.0) (all_have_entered F (F.groups g) clause.1))

  same_floor : (accept M F (send_group s g text)).floor ≡ (accept M F (send s (F.groups g) text)).floor
  unfolding accept on_send
  same_floor = by_option_lem (free_room M F) (λ q. rw q) (λ m q. rw q)

  pub sent_as_the_send : (refusal M F (send_group s g text) ≡ refusal M F (send s (F.groups g) text))
      × (step M F (send_group s g text) ≡ step M F (send s (F.groups g) text))
  unfolding step
  sent_as_the_send = (same_refusal, rw (same_refusal, same_floor))

  -- the report of a send, under another kind
  under : ℕ → Report → Report
  under kind l = record { kind = kind; a = l.a; b = l.b; p = l.p; w = l.w; q = l.q; text = l.text }

  same_report : (accept M F (send_group s g text)).report ≡ under 8 (accept M F (send s (F.groups g) text)).report
  unfolding accept on_send under
  same_report = by_option_lem (free_room M F) (λ q. rw q) (λ m q. rw q)

  pub printed_as_the_send : (l : Report) → answer M F (send s (F.groups g) text) ≡ accepted l
      → answer M F (send_group s g text) ≡ accepted (record { kind = 8; a = l.a; b = l.b; p = l.p; w = l.w; q = l.q; text = l.text })
  unfolding answer under
  printed_as_the_send l a =
      rw (same_refusal ∙ accepted_passes M F (send s (F.groups g) text) l a, same_report, accepted_report M F (send s (F.groups g) text) l a)

-- A LONG SEND IS A SEND, printed under its own kind
pub long_as_the_send : (M : Limits) (F : Floor) (s set : ℕ) (text : List ℕ)
    → ((accept M F (send_long s set text)).floor ≡ (accept M F (send s set text)).floor)
    × ((accept M F (send_long s set text)).report
    ≡ (let l = (accept M F (send s set text)).report in record { kind = 9; a = l.a; b = l.b; p = l.p; w = l.w; q = l.q; text = l.text }))
unfolding accept on_send
long_as_the_send M F s set text = by_option_lem (free_room M F) (λ q. rw q (refl, refl)) (λ m q. rw q (refl, refl))

-- the floor without the head of the line from i to j
abbrev pub unlined : Floor → ℕ → ℕ → Floor
unlined F i j = on_lines F (behead i j F.lines)

-- A property of event, floor and answer holds after every event on a started floor if it holds of a refusal and of each of the steps.
module _ (M : Limits) (F : Floor) (Q : Event → Floor → Answer → Type 0) (begun : F.started ≡ true)
    (refusing : (e : Event) (r : ℕ) → Q e F (refused r))
    (entering : (t c : ℕ) → MayEnter F t c → Q (enter t c) (on_enter M F t c).floor (accepted (on_enter M F t c).report))
    (sending : (s set : ℕ) (text : List ℕ) (m : ℕ) → MaySend M F s set text m
    → Q (send s set text) (with_message F m s set text) (accepted (record { kind = 2; a = s; b = F.sent s; p = 0; w = F.stations; q = 0; text = [] })))
    (handling : (i j : ℕ) (r : Record) (l : List Record) → MayWire F i j r l
    → Q (wire i j) (handle M (unlined F i j) i j r).floor (accepted (handle M (unlined F i j) i j r).report))
    (handing : (t c buffer m : ℕ) → MayRadio M F t c m → Q (radio t c buffer) (hand_over M F m t c).floor (accepted (hand_over M F m t c).report))
    (moves : (c to : ℕ) → MayMove F c to → Q (move c to) (on_move F c to).floor (accepted (on_move F c to).report))
    (flagging : (c : ℕ) (b : Bool) → MayFlag F c → Q (flag c b) (on_flag F c b).floor (accepted (on_flag F c b).report))
    (retiring : (c : ℕ) → MayRetire M F c → Q (retire c) (on_retire F c).floor (accepted (on_retire F c).report))
    (grouping : (g set : ℕ) → MayGroup F g set → Q (group g set) (on_group F g set).floor (accepted (on_group F g set).report))
    (sending_group : (s g : ℕ) (text : List ℕ) (m : ℕ) → MaySend M F s (F.groups g) text m
    → Q (send_group s g text) (with_message F m s (F.groups g) text)
    (accepted (record { kind = 8; a = s; b = F.sent s; p = 0; w = F.stations; q = 0; text = [] })))
    (sending_long : (s set : ℕ) (text : List ℕ) (m : ℕ) → MaySend M F s set text m
    → Q (send_long s set text) (with_message F m s set text)
    (accepted (record { kind = 9; a = s; b = F.sent s; p = 0; w = F.stations; q = 0; text = [] }))) where
  when_accepted : (e : Event) → refusal_if M F (not (passes_form M F)) e ≡ 0 → Q e (accept M F e).floor (accepted (accept M F e).report)
  unfolding accept on_send on_wire on_radio refusal_if
  when_accepted (start n k) z =
      clash F.started begun (passed_check 6 F.started _ (omega arith) (passed_check 5 (not F.lengths_right) _ (omega arith) z).1).0
  when_accepted (enter t c) z = entering t c (may_enter M F (not (passes_form M F)) t c z)
  when_accepted (send s set text) z = let a = may_send M F (not (passes_form M F)) s set text z in rw a.1 (sending s set text a.0 a.2)
  when_accepted (wire i j) z = let a = may_wire M F (not (passes_form M F)) i j z in rw a.2.line (handling i j a.0 a.1 a.2)
  when_accepted (radio t c buffer) z =
      let a = may_radio M F (not (passes_form M F)) t c buffer z in rw a.1.is_head (handing t c buffer a.0 a.1)
  when_accepted (move c to) z = moves c to (may_move M F (not (passes_form M F)) c to z)
  when_accepted (flag c on) z = flagging c on (may_flag M F (not (passes_form M F)) c on z)
  when_accepted (retire c) z = retiring c (may_retire M F (not (passes_form M F)) c z)
  when_accepted (group g set) z = grouping g set (may_group M F g set z)
  when_accepted (send_group s g text) z = let a = may_send_group M F s g text z in rw a.1 (sending_group s g text a.0 a.2)
  when_accepted (send_long s set text) z =
      let a = may_send_long M F (not (passes_form M F)) s set text z in rw a.1 (sending_long s set text a.0 a.2)

  by_refusal : (r : ℕ) (e : Event) → (r ≡ 0 → Q e (accept M F e).floor (accepted (accept M F e).report))
      → Q e (cond (eqb r 0) (accept M F e).floor F) (cond (eqb r 0) (accepted (accept M F e).report) (refused r))
  by_refusal r e h = by_test (eqb r 0) (λ b. rw b (h (eqb-true r 0 b))) (λ b. rw b (refusing e r))

  pub by_step : (e : Event) → Q e (step M F e) (answer M F e)
  unfolding step answer refusal
  by_step e = by_refusal (refusal M F e) e (when_accepted e)
