-- A RADIO STEP MEETS ITS EVENT: what the code asks on the way, and what it leaves.
use mathlib.Core.Path.{◌≡◌, refl, sym, ap, ◌∙◌, subst}
use mathlib.Core.Bool.{Bool, true, false, not}
use mathlib.Core.List.{List}
use mathlib.Core.Option.{Option, some, none}
use Prim.Native.Nat.{ℕ, zero, suc, ◌≤◌, ◌<◌}
use native.Mathlib.Omega.{arith}
use lib.Dec.{leb, ltb}
use lib.ListN.{length, take}
use borrow.Author.Tests.{eqb-false, leb-false, ltb-false, lt-leb, not-false}
use Rattle.protocol.specs.Folds.{by_option}
use Rattle.protocol.specs.CartSets.{has}
use Rattle.protocol.specs.Floor.{Product, limits_of, Floor, is_at}
use Rattle.protocol.specs.Events.{radio, refused}
use Rattle.protocol.specs.Wireless.{head_with, head_among, queue_head}
use Rattle.protocol.specs.Form.{passes_form}
use Rattle.protocol.specs.Refusals.{check, refusal_if}
use Rattle.protocol.specs.Step.{accept}
use Rattle.protocol.proofs.Tests.{by_test, by_lt}
use Rattle.protocol.proofs.SetLaws.{some_member}
use Rattle.protocol.proofs.Accepted.{passed_check, MayRadio}
use Rattle.stations.specs.View.{HasStation, head_in, stations_in}
use Rattle.carts.specs.Words.{HasRow}
use Rattle.carts.specs.View.{carts_in}
use Rattle.messages.specs.View.{HasRoom, rooms_in}
use Rattle.store.specs.Texts.{HasParts, text_of}
use Rattle.store.proofs.Counted.{text_most}
use Rattle.store.proofs.HeldText.{held_length, whole_text}
use Rattle.store.proofs.Room.{has_parts}
use Rattle.lines.specs.Form.{form}
use Rattle.lines.specs.Lines.{used}
use Rattle.lines.specs.Words.{capacity}
use Rattle.view.specs.View.{Lent, lent, floor_in}
use Rattle.view.proofs.Standing.{Standing, standing, few_stations, few_carts, held_number}
use Rattle.queue.specs.Rooms.{tables_floor, room_count, HasRooms, QueueRooms, room_code, room_in}
use Rattle.queue.specs.Keys.{Keyed}
use Rattle.queue.proofs.Codes.{Below, code_says, is_room}
use Rattle.std.specs.Prelude.{None, Some}
use Rattle.std.specs.Prelude as code
use Rattle.refusals.specs.declared.Refusal.{Refusal}
use Rattle.refusals.specs.Numbers.{number_of}
use Rattle.queue.proofs.HeadLaws.{head_below, head_skips}
use Rattle.wireless.specs.Handed.{took_from, hold_none, HandedOver}
use Rattle.wireless.proofs.Asks.{radio_asks}
use Rattle.wireless.proofs.RadioIs.{radio_is, radio_reports}
use Rattle.reports.specs.declared.Effect.{Effect}
use Rattle.reports.specs.Effects.{accepted_in}
use Rattle.event_answers.specs.Answers.{values}
use Rattle.event_answers.specs.Met.{Met}
use Rattle.event_answers.proofs.Meets.{refusal_standing, meets_check, meets_done}
use Rattle.event_radio.specs.Checks.{not_here, not_served}
use Rattle.event_radio.proofs.Checks.{number_some}

-- THE HEAD OF A QUEUE is that which the stations and the messages say alone
module _ (L : Lent) (t : ℕ) where
  same_with : (m : ℕ) (o : Option ℕ) → head_with (floor_in L) t m o ≡ head_with (tables_floor L.stations L.messages) t m o
  same_with m none = refl
  same_with m (some k) = refl

  same_among : (n : ℕ) → head_among (floor_in L) t n ≡ head_among (tables_floor L.stations L.messages) t n
  unfolding head_among
  same_among zero = refl
  same_among (suc n) = same_with n (head_among (floor_in L) t n) ∙ ap (head_with (tables_floor L.stations L.messages) t n) (same_among n)

  abbrev G : Floor
  G = tables_floor L.stations L.messages

  -- what the code found says its room
  pub room_fits : (head : code.Option ℕ) → head ≡ room_code (head_among G t 32) → (m : ℕ) → head ≡ Some m → m < 32
  room_fits head e m q = subst (Below 32) (is_room (head_among G t 32) m q e) (head_below G t 32)

  module _ (X : Standing L) (on : t < (floor_in L).stations) where
    low : t < L.product.stations
    low = let a = X.sized.counts.stations in omega arith

    -- a room with an entry is a room of the table
    entry_low : (m : ℕ) → m < 32 → (G.queue m t ≡ 0 → ⊥) → m < L.product.held
    entry_low m h entry = by_lt m L.product.held (λ l. l) (λ l. absurd (entry (X.laid.few t m low h l).1))

    -- so the head is among them
    heads : head_among G t 32 ≡ head_among G t L.product.held
    heads = head_skips G t L.product.held 32 L.product.held_fit (λ r l k. (X.laid.few t r low k l).1)

    -- the room that the code found is its room
    pub head_found : (head : code.Option ℕ) → head ≡ room_code (head_among G t 32) → queue_head (limits_of L.product) (floor_in L) t ≡ room_in head
    unfolding queue_head
    head_found head e = same_among L.product.held ∙ sym heads ∙ code_says (head_among G t 32) e

    pub head_low : (head : code.Option ℕ) → head ≡ room_code (head_among G t 32) → Below L.product.held (room_in head)
    head_low head e = subst (Below L.product.held) (sym heads ∙ code_says (head_among G t 32) e) (head_below G t L.product.held)

    pub room_low : (head : code.Option ℕ) → head ≡ room_code (head_among G t 32) → (m : ℕ) → head ≡ Some m → m < L.product.held
    room_low head e m q = subst (Below L.product.held) (ap room_in q) (head_low head e)

    pub queue_rooms : QueueRooms L.stations L.messages t
    queue_rooms m h entry = let a = X.lengths.messages in let b = entry_low m h entry in omega arith

    -- a queued message is held, so its number and its initiator have room in a key
    pub keys : Keyed G t
    keys m h entry =
        let F = floor_in L in
        let pos : 0 < F.queue m t = by_lt 0 (F.queue m t) (λ p. p) (λ z. absurd (entry (omega arith))) in
        let member = some_member F.carts (F.queue m t) (X.sized.copies.queue m t (entry_low m h entry) low) pos in
        let held = (X.facts.queues m t member.0 member.2).held in
        let kept = X.facts.kept m held in
        let below = X.facts.senders (F.initiator m) (omega arith) in
        let few = few_stations L X in
        (held_number L X m held, omega arith)

-- a refusal of the first four checks is one of the whole table
first_four : (a b d f : Bool) (rest r : ℕ) → r ≡ check 8 a (check 9 b (check 16 d (check 25 f 0))) → (r ≡ 0 → ⊥) → r ≡ check 8 a (check 9 b (check 16 d (check 25 f rest)))
first_four true b d f rest r e n = e
first_four false true d f rest r e n = e
first_four false false true f rest r e n = e
first_four false false false true rest r e n = e
first_four false false false false rest r e n = absurd (n e)

module _ (P : Product) (S C M W T O : List ℕ) (t c buffer : ℕ) (p : passes_form (limits_of P) (floor_in (lent P S C M W T O)) ≡ true) where
  abbrev L : Lent
  L = lent P S C M W T O

  X : Standing L
  X = standing L p

  -- REFUSED BY THE STATION OR THE CART
  pub meets_elsewhere : (r : Refusal) → number_of r ≡ not_here S C t c → Met L L (radio t c buffer) (refused (number_of r))
  unfolding refusal_if not_here
  meets_elsewhere r e = meets_check L (radio t c buffer) r p (first_four (leb (head_in S).stations t) (leb (head_in S).carts c) (not (is_at ((carts_in C).place c) t)) (not ((carts_in C).steady c)) _ (number_of r) e (number_some r))

  -- the cart is at the station, and steady
  module _ (checked : 0 ≡ not_here S C t c) where
    here : not_here S C t c ≡ 0
    here = sym checked

    is_here_lem : (t < (head_in S).stations) × (c < (head_in S).carts) × (is_at ((carts_in C).place c) t ≡ true) × ((carts_in C).steady c ≡ true)
    unfolding not_here
    is_here_lem =
        let a8 = passed_check 8 (leb (head_in S).stations t) _ (omega arith) here in
        let a9 = passed_check 9 (leb (head_in S).carts c) _ (omega arith) a8.1 in
        let a16 = passed_check 16 (not (is_at ((carts_in C).place c) t)) _ (omega arith) a9.1 in
        let a25 = passed_check 25 (not ((carts_in C).steady c)) _ (omega arith) a16.1 in
        (leb-false (head_in S).stations t a8.0, leb-false (head_in S).carts c a9.0, not-false (is_at ((carts_in C).place c) t) a16.0, not-false ((carts_in C).steady c) a25.0)

    pub head_asks : HasStation S t × QueueRooms S M t × Keyed (tables_floor S M) t
    head_asks =
        let h = is_here_lem.0 in
        let a = X.lengths.stations in
        let d = X.sized.counts.stations in
        (omega arith, queue_rooms L t X is_here_lem.0, keys L t X is_here_lem.0)

    -- the room of the head, or none
    module _ (head : code.Option ℕ) (found : head ≡ room_code (head_among (tables_floor S M) t 32)) where
      pub served_asks : HasStation S t × ((m : ℕ) → head ≡ Some m → HasRoom M m × (m < 32)) × (c < 64)
      served_asks =
          let h = is_here_lem.1 in
          let d = few_carts L X in (
            head_asks.0,
            λ m q. (let a = X.lengths.messages in let b = room_low L t X is_here_lem.0 head found m q in omega arith, room_fits L t head found m q),
            omega arith,
          )

      -- the row and the text's part of a room
      parts_there : (k : ℕ) → k < P.held → HasParts M T O k
      parts_there = has_parts P.held M T O (record { rows = X.lengths.messages; right = X.laid.texts }) X.lengths.texts X.lengths.store

      -- whoever is queued waits for a held message
      queued_held : (k : ℕ) → has ((stations_in S).queue k t) c ≡ true → (rooms_in M).waiting k ≡ 0 → ⊥
      queued_held k q = eqb-false ((rooms_in M).waiting k) 0 (X.facts.queues k t c q).held.some

      -- the text of whoever is queued has as many octets as its row says
      same_checks : (o : Option ℕ) → Below P.held o
          → check 17 (by_option o true (λ m. not (has ((stations_in S).queue m t) c))) (check 21 (by_option o false (λ m. ltb buffer ((rooms_in M).length m))) 0)
          ≡ check 17 (by_option o true (λ m. not (has ((stations_in S).queue m t) c))) (check 21 (by_option o false (λ m. ltb buffer (length (text_of T O (rooms_in M) m)))) 0)
      same_checks none l = refl
      same_checks (some k) l =
          by_test (has ((stations_in S).queue k t) c)
          (λ q. rw (q, held_length M T O k (parts_there k l) (queued_held k q)) refl)
          (λ q. rw q refl)

      served_is : not_served S M t c buffer (room_in head) ≡ refusal_if (limits_of P) (floor_in L) false (radio t c buffer)
      unfolding refusal_if not_served
      served_is =
          rw (lt-leb (head_in S).stations t is_here_lem.0, lt-leb (head_in S).carts c is_here_lem.1, is_here_lem.2, is_here_lem.3, head_found L t X is_here_lem.0 head found)
          (same_checks (room_in head) (head_low L t X is_here_lem.0 head found))

      -- REFUSED BY THE QUEUE OR THE BUFFER
      pub meets_unserved : (r : Refusal) → number_of r ≡ not_served S M t c buffer (room_in head) → Met L L (radio t c buffer) (refused (number_of r))
      meets_unserved r e = meets_check L (radio t c buffer) r p (e ∙ served_is)

      -- HANDED OVER
      module _ (m : ℕ) (is : head ≡ Some m) (looked : 0 ≡ not_served S M t c buffer (room_in head)) where
        free : not_served S M t c buffer (room_in head) ≡ 0
        free = sym looked

        is_low : m < 32
        is_low = room_fits L t head found m is

        is_served : (has ((stations_in S).queue m t) c ≡ true) × ((rooms_in M).length m ≤ buffer)
        unfolding not_served
        is_served =
            let z : not_served S M t c buffer (some m) ≡ 0 = ap (λ (o : code.Option ℕ). not_served S M t c buffer (room_in o)) (sym is) ∙ free in
            let a17 = passed_check 17 (not (has ((stations_in S).queue m t) c)) _ (omega arith) z in
            let a21 = passed_check 21 (ltb buffer ((rooms_in M).length m)) _ (omega arith) a17.1 in
            (not-false (has ((stations_in S).queue m t) c) a17.0, ltb-false buffer ((rooms_in M).length m) a21.0)

        may : MayRadio (limits_of P) (floor_in L) t c m
        may =
            record {
              station = is_here_lem.0;
              cart = is_here_lem.1;
              is_at_lem = is_here_lem.2;
              is_steady_lem = is_here_lem.3;
              is_head = head_found L t X is_here_lem.0 head found ∙ ap room_in is;
              queued = is_served.0;
            }

        pub has_room : HasRoom M m
        has_room = let a = X.lengths.messages in let b = room_low L t X is_here_lem.0 head found m is in omega arith

        -- its initiator and number, as the code read them
        module _ (s n : ℕ) (es : s ≡ (rooms_in M).initiator m) (en : n ≡ (rooms_in M).number m) where
          pub over_asks : (HasStation S t × (t < 16) × (m < room_count M) × (s < 16) × (n < 4294967296) × HasRooms M)
              × ((HasRow C c × (c < 64))
              × (((r : ℕ) → room_count M ≤ r → (stations_in S).copy r t ≡ 0)
              × ((form W ≡ true) × (hold_none (took_from (stations_in S) m t c) m t ≡ true → used W < capacity W))))
          over_asks = rw (es, en) (radio_asks L X t c m may)

          -- and how many octets its text has
          module _ (size : ℕ) (ez : size ≡ (rooms_in M).length m) where
            in_table : m < P.held
            in_table = room_low L t X is_here_lem.0 head found m is

            -- where its text lies
            pub text_lies : (size ≤ 512) × (size ≤ buffer) × HasParts M T O m × ((rooms_in M).waiting m ≡ 0 → ⊥) × (size ≡ (rooms_in M).length m)
            text_lies =
                let most = text_most P.held T O (rooms_in M) X.laid.texts m in_table in
                let held = queued_held m is_served.0 in
                let octets = held_length M T O m (parts_there m in_table) held in
                let served = is_served.1 in
                (omega arith, omega arith, parts_there m in_table, held, ez)

            pub in_a_room : m < 32
            in_a_room = is_low

            pub meets_radio : (S' C' W' : List ℕ) (f : Effect) → HandedOver S S' C C' M W W' m s n t c f.passed f.records f.place
                → Met L (lent P S' C' M W' T O) (radio t c buffer) (accepted_in (values 4 s n f) (take size (text_of T O (rooms_in M) m)))
            unfolding accept
            meets_radio S' C' W' f over =
                let over₀ : HandedOver S S' C C' M W W' m ((rooms_in M).initiator m) ((rooms_in M).number m) t c f.passed f.records f.place = rw (es, en) at over in
                meets_done L (radio t c buffer) (lent P S' C' M W' T O) _ refl (refusal_standing L (radio t c buffer) p ∙ sym served_is ∙ free)
                (radio_is S S' C C' M W W' T O m t c f.passed f.records f.place X may over₀)
                (rw (es, en, whole_text M T O m (parts_there m in_table) (queued_held m is_served.0) size ez) (sym (radio_reports S S' C C' M W W' T O m t c f.passed f.records f.place X may over₀)))
