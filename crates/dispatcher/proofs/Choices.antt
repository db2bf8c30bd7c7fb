-- What the dispatcher chooses is the written choice.
use mathlib.Core.Path.{◌≡◌, refl, sym, ap, ◌∙◌}
use mathlib.Core.Bool.{Bool, true, false, not, ◌&&◌}
use mathlib.Core.List.{List, []}
use mathlib.Core.Option.{Option, none, some}
use Prim.Native.Nat.{ℕ, ◌+◌, ◌^◌, ◌≤◌, ◌<◌}
use native.Mathlib.Omega.{arith}
use lib.Dec.{eqb}
use lib.ListN.{get_or}
use borrow.Author.Tests.{eqb-true, eqb-false, not-true, not-false}
use Rattle.protocol.specs.Folds.{first, by_option, is_none, is_empty}
use Rattle.protocol.specs.CartSets.{has}
use Rattle.protocol.specs.Floor.{Product, Limits, limits_of, Floor, Record}
use Rattle.protocol.specs.Events.{wire, radio}
use Rattle.protocol.specs.Wireless.{head_among, queue_head}
use Rattle.protocol.specs.Form.{passes_form}
use Rattle.protocol.specs.Quiet.{busy_to, busy_from, wire_from, would_receive, first_cart, first_station, radio_at, next_event}
use Rattle.protocol.proofs.Tests.{by_lt, by_eq, by_test, by_option_lem, clash, and_intro, and_second_false, on_option, first_is, first_nowhere, first_none, first_some, first_least}
use Rattle.protocol.proofs.NextEvent.{empty_is}
use Rattle.protocol.proofs.SetLaws.{member_below, has_zero}
use Rattle.protocol.proofs.FormFacts.{past, some_history}
use Rattle.protocol.proofs.Dispatch.{all_empty_radio}
use Rattle.sets.specs.Masks.{least}
use Rattle.sets.proofs.MaskLaws.{Lowest, least_lowest}
use Rattle.sets.proofs.Walk.{Turn}
use Rattle.stations.specs.View.{HasHead, HasStation, head_in, stations_in}
use Rattle.carts.specs.Words.{HasRow}
use Rattle.carts.specs.View.{carts_in}
use Rattle.view.specs.Records.{lines_in}
use Rattle.view.specs.View.{Lent, lent, floor_in}
use Rattle.view.proofs.LinesView.{line_beyond}
use Rattle.view.proofs.Standing.{Standing, standing, few_carts, no_line_from, no_line_to}
use Rattle.queue.specs.Rooms.{tables_floor, QueueRooms, room_code, room_in}
use Rattle.std.specs.Prelude.{None, Some}
use Rattle.std.specs.Prelude as code
use Rattle.queue.specs.Keys.{Keyed}
use Rattle.event_radio.proofs.RadioMeets.{room_fits, head_found, room_low, queue_rooms, keys}
use Rattle.dispatcher.specs.Busy.{Busy, busy_row, IsBusy}
use Rattle.dispatcher.specs.Queues.{QueuedIn}
use Rattle.dispatcher.specs.Choice.{lowest_steady, AllEmpty}
use Rattle.dispatcher.proofs.BusyLaws.{in_row, beyond_row, row_word}

-- THE LOWEST STEADY CART of a set

pub word_below : (set : ℕ) → set < 2 ^ 64 → (d : ℕ) → has set d ≡ true → d < 64
word_below set small d e = member_below 64 set d small e

module _ (C : List ℕ) (set left k : ℕ) where
  abbrev served : ℕ → Bool
  served d = has set d && (carts_in C).steady d

  -- one that is not in the set
  not_in : (d : ℕ) → has set d ≡ false → served d ≡ false
  not_in d e = rw e refl

  module _ (before : (d : ℕ) → d < k → served d ≡ false) where
    -- the cart that the walk came to is steady
    pub found_steady : (m left' : ℕ) → Turn 64 set left k m left' → (b : Bool) → b ≡ (carts_in C).steady m → b ≡ true → some m ≡ lowest_steady C set
    unfolding lowest_steady
    found_steady m left' turn b s t =
        sym (first_is 64 served m turn.inside (and_intro (has set m) ((carts_in C).steady m) turn.member (sym s ∙ t))
        (λ d l. by_lt d k (λ h. before d h) (λ h. not_in d (turn.skips d h l))))

    -- or is not
    pub not_steady_on : (m left' : ℕ) → Turn 64 set left k m left' → (b : Bool) → b ≡ (carts_in C).steady m → b ≡ false
        → (d : ℕ) → d < m + 1 → served d ≡ false
    not_steady_on m left' turn b s t d l =
        by_lt d k (before d)
        (λ h. by_eq d m
        (λ z. rw z (and_second_false (has set m) ((carts_in C).steady m) (sym s ∙ t)))
        (λ z. not_in d (turn.skips d h (omega arith))))

    -- the walk is over
    pub none_steady : ((c : ℕ) → k ≤ c → has set c ≡ false) → none ≡ lowest_steady C set
    unfolding lowest_steady
    none_steady gone = sym (first_nowhere 64 served (λ d l. by_lt d k (before d) (λ h. not_in d (gone d h))))

-- the least of fewer, where none of the others passes
first_narrow : (n k : ℕ) (f g : ℕ → Bool) → n ≤ k → ((c : ℕ) → c < n → f c ≡ g c) → ((c : ℕ) → n ≤ c → g c ≡ false) → first k g ≡ first n f
first_narrow n k f g l same beyond =
    by_option_lem (first k g)
    (λ e. e ∙ sym (first_nowhere n f (λ c h. same c h ∙ first_none k g e c (omega arith))))
    (λ m e. let a = first_some k g m e in
    let low : m < n = by_lt m n (λ h. h) (λ h. clash (g m) a.1 (beyond m h)) in
    e ∙ sym (first_is n f m low (same m low ∙ a.1) (λ c h. same c (omega arith) ∙ first_least k g m e c h)))

-- A FLOOR THAT PASSES
module _ (P : Product) (S C M W T O : List ℕ) (p : passes_form (limits_of P) (floor_in (lent P S C M W T O)) ≡ true) where
  abbrev L : Lent
  L = lent P S C M W T O

  abbrev F : Floor
  F = floor_in L

  abbrev N : Limits
  N = limits_of P

  X : Standing L
  X = standing L p

  pub has_head : HasHead S
  has_head = let a = X.lengths.stations in omega arith

  -- AT A STATION of it
  module _ (t : ℕ) (on : t < (head_in S).stations) where
    pub head_asks : HasStation S t × QueueRooms S M t × Keyed (tables_floor S M) t
    head_asks =
        let a = X.lengths.stations in
        let d = X.sized.counts.stations in
        (omega arith, queue_rooms L t X on, keys L t X on)

    -- the room of the queue's head, or none
    module _ (head : code.Option ℕ) (found : head ≡ room_code (head_among (tables_floor S M) t 32)) where
      -- WITH ALL LINES EMPTY
      would : AllEmpty F → (c : ℕ) → c < F.carts → would_receive N F t c ≡ by_option (room_in head) false (λ r. has (F.queue r t) c && F.steady c)
      would empty c lc =
          all_empty_radio N F (past N F X.facts) (some_history N F X.facts) X.sized p (λ i j li lj. empty i j) t c on lc
          ∙ ap (λ (o : Option ℕ). by_option o false (λ r. has (F.queue r t) c && F.steady c)) (head_found L t X on head found)

      pub nobody_there : AllEmpty F → head ≡ None → none ≡ first_cart N F t
      unfolding first_cart
      nobody_there empty z =
          sym (first_nowhere F.carts (would_receive N F t) (λ c l. would empty c l
          ∙ ap (λ (o : code.Option ℕ). by_option (room_in o) false (λ r. has (F.queue r t) c && F.steady c)) z))

      module _ (m : ℕ) (is : head ≡ Some m) where
        pub entry_asks : HasStation S t × (m < 32)
        entry_asks = (head_asks.0, room_fits L t head found m is)

        -- a cart that is queued is one of the floor's
        queued_low : (c : ℕ) → has ((stations_in S).queue m t) c ≡ true → c < F.carts
        queued_low c e =
            let d = X.sized.counts.stations in
            member_below F.carts (F.queue m t) c (X.sized.copies.queue m t (room_low L t X on head found m is) (omega arith)) e

        pub carts_asks : (q : ℕ) → q ≡ (stations_in S).queue m t → (c : ℕ) → has q c ≡ true → HasRow C c
        carts_asks q e c h =
            let a = X.lengths.carts in
            let d = X.sized.counts.carts in
            let l = queued_low c (rw e at h) in
            omega arith

        pub receiver_is : AllEmpty F → (q : ℕ) (r : Option ℕ) → q ≡ (stations_in S).queue m t → r ≡ lowest_steady C q → r ≡ first_cart N F t
        unfolding first_cart lowest_steady
        receiver_is empty q r e found_there =
            found_there ∙ rw e (first_narrow F.carts 64 (would_receive N F t) (λ c. has (F.queue m t) c && F.steady c) (few_carts L X)
            (λ c l. would empty c l ∙ ap (λ (o : code.Option ℕ). by_option (room_in o) false (λ r. has (F.queue r t) c && F.steady c)) is)
            (λ c l. by_test (has (F.queue m t) c) (λ h. absurd (let low = queued_low c h in omega arith)) (λ h. rw h refl)))

  -- THE STATIONS, one after the other, with all lines empty
  module _ (empty : AllEmpty F) where
    no_line : busy_from F ≡ none
    unfolding busy_from busy_to
    no_line =
        first_nowhere F.stations (λ i. not (is_none (busy_to F i)))
        (λ i l. ap (λ (o : Option ℕ). not (is_none o)) (first_nowhere F.stations (λ j. not (is_empty (F.lines i j))) (λ j h. ap (λ (x : List Record). not (is_empty x)) (empty i j))))

    by_radio : next_event N F ≡ by_option (first_station N F) none (radio_at N F)
    unfolding next_event
    by_radio = rw no_line refl

    -- nobody would receive at a station without an entry
    not_queued : (t : ℕ) → t < F.stations → ((m : ℕ) → F.queue m t ≡ 0) → first_cart N F t ≡ none
    unfolding first_cart
    not_queued t on bare =
        first_nowhere F.carts (would_receive N F t)
        (λ c l. all_empty_radio N F (past N F X.facts) (some_history N F X.facts) X.sized p (λ i j li lj. empty i j) t c on l
        ∙ on_option (λ (b : Bool). b ≡ false) (queue_head N F t) (λ q. refl) (λ m q. ap (λ (x : ℕ). has x c && F.steady c) (bare m) ∙ rw (has_zero c) refl))

    -- nobody at the stations of the floor before t
    abbrev pub Nobody : ℕ → Type 0
    Nobody t = (k : ℕ) → k < t → k < F.stations → first_cart N F k ≡ none

    none_before : (t : ℕ) → t ≤ F.stations → Nobody t → (k : ℕ) → k < t → not (is_none (first_cart N F k)) ≡ false
    none_before t on before k l = ap (λ (o : Option ℕ). not (is_none o)) (before k l (omega arith))

    -- and somebody there
    radio_next : (t c : ℕ) → t < F.stations → Nobody t → first_cart N F t ≡ some c → next_event N F ≡ some (radio t c 512)
    unfolding first_station
    radio_next t c lt before here =
        let station : first_station N F ≡ some t = first_is F.stations (λ u. not (is_none (first_cart N F u))) t lt (ap (λ (o : Option ℕ). not (is_none o)) here) (none_before t (omega arith) before) in
        by_radio ∙ ap (λ (o : Option ℕ). by_option o none (radio_at N F)) station ∙ ap (λ (o : Option ℕ). by_option o none (λ d. some (radio t d 512))) here

    -- or nobody either
    nobody_more : (t : ℕ) → Nobody t → first_cart N F t ≡ none → Nobody (t + 1)
    nobody_more t before here k h on =
        by_eq k t
        (λ z. rw z here)
        (λ z. before k (omega arith) on)

    -- nowhere
    nothing_next : Nobody F.stations → next_event N F ≡ none
    unfolding first_station
    nothing_next all =
        by_radio
        ∙ ap (λ (o : Option ℕ). by_option o none (radio_at N F)) (first_nowhere F.stations (λ u. not (is_none (first_cart N F u))) (none_before F.stations (omega arith) all))

    -- THE WALK over those that have an entry has come to k
    module _ (queued left k : ℕ) (Q : QueuedIn S queued) (before : Nobody k) where
      module _ (t left' : ℕ) (turn : Turn 64 queued left k t left') where
        nobody_skipped : Nobody t
        nobody_skipped u l on = by_lt u k (λ h. before u h on) (λ h. not_queued u on (Q.others u on (turn.skips u h l)))

        is_on : t < F.stations
        is_on = Q.on_floor t turn.member

        pub radio_found : (c : ℕ) → first_cart N F t ≡ some c → next_event N F ≡ some (radio t c 512)
        radio_found c here = radio_next t c is_on nobody_skipped here

        pub nobody_found : first_cart N F t ≡ none → Nobody (t + 1)
        nobody_found here = nobody_more t nobody_skipped here

      pub nothing_found : ((c : ℕ) → k ≤ c → has queued c ≡ false) → next_event N F ≡ none
      nothing_found gone = nothing_next (λ u l on. by_lt u k (λ h. before u h on) (λ h. not_queued u on (Q.others u on (gone u h))))

  -- THE FIRST NONEMPTY LINE, by what is known of the lines
  module _ (b : Busy) (right : IsBusy (lines_in W) b) where
    -- a station that is not among those has no record on a line
    not_from : (i : ℕ) → i < 16 → has b.sources i ≡ false → (j : ℕ) → lines_in W i j ≡ []
    not_from i li e j =
        by_lt j 16
        (λ lj. let r = right.rows i li in
        let zero : busy_row (lines_in W) i ≡ 0 = eqb-true (busy_row (lines_in W) i) 0 (not-false (eqb (busy_row (lines_in W) i) 0) (sym r.source ∙ e)) in
        empty_is (lines_in W i j) (sym (in_row (lines_in W) i j lj) ∙ ap (λ (x : ℕ). has x j) zero ∙ has_zero j))
        (λ lj. line_beyond W i j (λ x y. omega arith))

    pub all_empty : b.sources ≡ 0 → AllEmpty F
    all_empty z i j =
        by_lt i 16
        (λ li. not_from i li (ap (λ (x : ℕ). has x i) z ∙ has_zero i) j)
        (λ li. line_beyond W i j (λ x y. omega arith))

    module _ (some_from : b.sources ≡ 0 → ⊥) (i : ℕ) (least_from : least 64 b.sources ≡ some i) where
      from_lowest : Lowest 64 b.sources i
      from_lowest = let a = right.shaped.few in least_lowest 64 b.sources i (omega arith) (omega (arith, some_from)) least_from

      pub from_low : i < 16
      from_low = member_below 16 b.sources i right.shaped.few from_lowest.member

      row_is : get_or b.targets i 0 ≡ busy_row (lines_in W) i
      row_is = (right.rows i from_low).targets

      pub row_some : 0 < get_or b.targets i 0
      row_some =
          let some_row = eqb-false (busy_row (lines_in W) i) 0 (not-true (eqb (busy_row (lines_in W) i) 0) (sym (right.rows i from_low).source ∙ from_lowest.member)) in
          omega (arith, row_is, some_row)

      module _ (j : ℕ) (least_to : least 64 (get_or b.targets i 0) ≡ some j) where
        to_lowest : Lowest 64 (busy_row (lines_in W) i) j
        to_lowest =
            let a = row_word (lines_in W) i in
            let z = row_some in
            least_lowest 64 (busy_row (lines_in W) i) j (omega arith) (omega (arith, row_is)) (ap (least 64) (sym row_is) ∙ least_to)

        to_low : j < 16
        to_low = by_lt j 16 (λ l. l) (λ l. clash (has (busy_row (lines_in W) i) j) to_lowest.member (beyond_row (lines_in W) i j l))

        busy_there : not (is_empty (F.lines i j)) ≡ true
        busy_there = sym (in_row (lines_in W) i j to_low) ∙ to_lowest.member

        -- it is a line of the floor
        no_record : F.lines i j ≡ [] → ⊥
        no_record e = clash (not (is_empty (F.lines i j))) busy_there (ap (λ (x : List Record). not (is_empty x)) e)

        from_on : i < F.stations
        from_on = by_lt i F.stations (λ l. l) (λ l. absurd (no_record (no_line_from L X i j l)))

        to_on : j < F.stations
        to_on = by_lt j F.stations (λ l. l) (λ l. absurd (no_record (no_line_to L X i j l)))

        to_is : busy_to F i ≡ some j
        unfolding busy_to
        to_is =
            first_is F.stations (λ k. not (is_empty (F.lines i k))) j to_on busy_there
            (λ k l. sym (in_row (lines_in W) i k (let a = to_low in omega arith)) ∙ to_lowest.before k l)

        nothing_before : (k : ℕ) → k < i → not (is_none (busy_to F k)) ≡ false
        unfolding busy_to
        nothing_before k l =
            ap (λ (o : Option ℕ). not (is_none o)) (first_nowhere F.stations (λ h. not (is_empty (F.lines k h)))
            (λ h lh. ap (λ (x : List Record). not (is_empty x)) (not_from k (let a = from_low in omega arith) (from_lowest.before k l) h)))

        from_is : busy_from F ≡ some i
        unfolding busy_from
        from_is = first_is F.stations (λ k. not (is_none (busy_to F k))) i from_on (ap (λ (o : Option ℕ). not (is_none o)) to_is) nothing_before

        pub wire_next : next_event N F ≡ some (wire i j)
        unfolding next_event
        wire_next =
            ap (λ (o : Option ℕ). by_option o (by_option (first_station N F) none (radio_at N F)) (wire_from F)) from_is
            ∙ ap (λ (o : Option ℕ). by_option o none (λ k. some (wire i k))) to_is
