use mathlib.Core.Path.{ap, refl, subst, sym, ◌∙◌, ◌≡◌}
use mathlib.Core.Bool.{◌&&◌, Bool, cond, false, not, true}
use mathlib.Core.List.{List, [], ◌∷◌}
use Prim.Native.Nat.{◌<◌, ◌^◌, suc, ℕ, ◌≤◌}
use native.Mathlib.Omega.{arith}
use lib.Dec.{eqb, ltb}
use lib.ListN.{length}
use lib.Seq.{sets}
use borrow.Author.Tests.{eqb-false, eqb-true, ltb-true, ne_eqb, not-true}
use Rattle.protocol.specs.Folds.{update, update2}
use Rattle.protocol.specs.CartSets.{has, minus, set_of, union, with, without}
use Rattle.protocol.specs.Floor.{Floor, Limits, Place, Record, ack_list, at, behead, between, carts_that, delete, deregister, entered, is_buffered, just_started, leaving, most_text, multicast, outside, put, register, station_of, to_every, travelling}
use Rattle.protocol.specs.Events.{Done, Event}
use Rattle.protocol.specs.Groups.{group_count, on_group}
use Rattle.protocol.specs.Handoff.{arrive, catch_up_stop, entry_of, on_enter, on_flag, on_move, on_register, on_retire, room_of, row_of, struck, with_row}
use Rattle.protocol.specs.Wired.{buffer, handle, is_queued, is_struck, local_row, multicast_by_row, on_ack_list, on_delete, on_multicast, with_message}
use Rattle.protocol.specs.Wireless.{all_acked, hand_over, receive, send_acks, send_acks_if_all}
use Rattle.protocol.specs.Deregister.{leave}
use Rattle.protocol.specs.Claims.{All}
use Rattle.protocol.specs.Form.{handoff_of, handoffs, registering}
use Rattle.protocol.specs.Step.{step}
use Rattle.protocol.specs.Ranges.{PlaceInRange}
use Rattle.protocol.specs.Store.{store_used, stored_of}
use Rattle.protocol.proofs.Tests.{and_left, and_right, both_equal, by_eq, by_test, clash, eqb_self, on_cond, on_option, on_update, on_update2}
use Rattle.protocol.proofs.SetLaws.{has_without, has_zero, member_below, minus_lt, set_of_lt, still_waited, union_lt, with_lt, without_lt, zero_below}
use Rattle.protocol.proofs.FloorLaws.{on_put}
use Rattle.protocol.proofs.InOrder.{EachOf, completed, deregister_splits, each_map, handed_off, send_each_is, send_each}
use Rattle.protocol.proofs.Accepted.{MayGroup, MayMove, MayRadio, MaySend, MayWire, by_step, named_has_entered, unlined}
use Rattle.protocol.proofs.Invariant.{History, Invariant, spoken}
use Rattle.protocol.proofs.Updates.{all_append}
use Rattle.protocol.proofs.CatchUp.{arrive_at_once, catch_up_at_once, docked, found_is, one_at_once}
use Rattle.protocol.proofs.HandoffSteps.{registering_is}
use Rattle.protocol.proofs.DeregisterStep.{all_go}
use Rattle.protocol.proofs.Counting.{all_rest, sum_bump, sum_mono, sum_zero}
use Rattle.protocol.proofs.SumRun.{initiator_on_floor}

-- The sizes of what is stored: counts, sets, texts, places and lines stay within the floor; kept by every event.
-- SIZES, TABLE BY TABLE

-- how many stations and carts
pub record CountsFit (M : Limits) (n k : ℕ) : Type 0 where
  pub some_stations : 0 < n
  pub stations : n ≤ M.stations
  pub some_carts : 0 < k
  pub carts : k ≤ M.carts

-- what was sent: no more than up to the last number
abbrev pub NumbersFit : Limits → (ℕ → ℕ) → Type 0
NumbersFit M sent = (s : ℕ) → sent s ≤ suc M.last

abbrev pub PlacesFit : ℕ → (ℕ → Place) → Type 0
PlacesFit stations place = (c : ℕ) → PlaceInRange stations (place c)

-- what is kept for each room, by columns: named, acked, waiting, text
pub record MessagesFit (M : Limits) (n k : ℕ) (d a w : ℕ → ℕ) (x : ℕ → List ℕ) : Type 0 where
  pub named : (m : ℕ) → m < M.held → d m < 2 ^ k
  pub acked : (m : ℕ) → m < M.held → a m < 2 ^ k
  pub waiting : (m : ℕ) → m < M.held → w m < 2 ^ n
  pub text : (m : ℕ) → m < M.held → length (x m) ≤ most_text M

-- a table of sets of carts, one for each room and station
abbrev pub SetsFit : Limits → ℕ → (ℕ → ℕ → ℕ) → Type 0
SetsFit M carts sets = (m t : ℕ) → m < M.held → t < M.stations → sets m t < 2 ^ carts

-- what is kept for each room and station, by columns: copy, acks, queue
pub record CopiesFit (M : Limits) (k : ℕ) (y a q : ℕ → ℕ → ℕ) : Type 0 where
  pub copy : SetsFit M k y
  pub acks : SetsFit M k a
  pub queue : SetsFit M k q

-- an ack list of carts on the floor
abbrev pub AcksFit : ℕ → Record → Type 0
AcksFit carts (multicast n) = Unit {0}
AcksFit carts (ack_list n x) = x < 2 ^ carts
AcksFit carts (delete n) = Unit {0}
AcksFit carts (deregister c) = Unit {0}
AcksFit carts (register c row) = Unit {0}

-- such a record, on a line between stations of the floor
abbrev pub OnFloor : ℕ → ℕ → ℕ → ℕ → Record → Type 0
OnFloor stations carts i j r = (i < stations) × ((j < stations) × AcksFit carts r)

abbrev pub LinesFit : ℕ → ℕ → (ℕ → ℕ → List Record) → Type 0
LinesFit stations carts lines = (i j : ℕ) → All (OnFloor stations carts i j) (lines i j)

-- the members of a group are carts of the floor that have entered
abbrev pub MembersFit : ℕ → (ℕ → Place) → ℕ → Type 0
MembersFit carts place x = (x < 2 ^ carts) × ((c : ℕ) → has x c ≡ true → entered (place c) ≡ true)

abbrev pub GroupsFit : ℕ → (ℕ → Place) → (ℕ → ℕ) → Type 0
GroupsFit carts place groups = (g : ℕ) → g < group_count → MembersFit carts place (groups g)

pub record SizedOf (M : Limits) (F : Floor) : Type 0 where
  pub lengths : F.lengths_right ≡ true
  pub words : F.words_right ≡ true
  pub counts : CountsFit M F.stations F.carts
  pub store : store_used M F.waiting F.text ≤ M.store
  pub numbers : NumbersFit M F.sent
  pub places : PlacesFit F.stations F.place
  pub messages : MessagesFit M F.stations F.carts F.named F.acked F.waiting F.text
  pub copies : CopiesFit M F.carts F.copy F.acks F.queue
  pub lines : LinesFit F.stations F.carts F.lines
  pub groups : GroupsFit F.carts F.place F.groups

abbrev pub Sized : Limits → Floor → Type 0
Sized M F = SizedOf M (spoken F)

-- LINES

put_fits : (n k : ℕ) (lines : ℕ → ℕ → List Record) (on : ℕ → ℕ → Bool) (r : Record) → LinesFit n k lines → ((i j : ℕ) → on i j ≡ true → OnFloor n k i j r) → LinesFit n k (put on r lines)
put_fits n k lines on r a f i j =
    on_put (All (OnFloor n k i j)) on r lines i j (λ e. all_append (OnFloor n k i j) (lines i j) (r ∷ []) (a i j) (f i j e, tt)) (λ e. a i j)

behead_fits : (n k : ℕ) (lines : ℕ → ℕ → List Record) (i j : ℕ) → LinesFit n k lines → LinesFit n k (behead i j lines)
behead_fits n k lines i j a g h = on_cond (All (OnFloor n k g h)) (eqb i g && eqb j h) (λ e. all_rest (OnFloor n k g h) (lines g h) (a g h)) (λ e. a g h)

to_every_lem : (n k s : ℕ) (r : Record) → s < n → AcksFit k r → (i j : ℕ) → to_every n s i j ≡ true → OnFloor n k i j r
to_every_lem n k s r ls b i j e = (rw (← (eqb-true s i (and_left (eqb s i) (ltb j n) e))) ls, (ltb-true j n (and_right (eqb s i) (ltb j n) e), b))

to_one : (n k a b : ℕ) (r : Record) → a < n → b < n → AcksFit k r → (i j : ℕ) → between a b i j ≡ true → OnFloor n k i j r
to_one n k a b r la lb f i j e = let z = both_equal a i b j e in (rw (← z.0) la, (rw (← z.1) lb, f))

-- a station of a move
station_fits : (n : ℕ) (p : Place) → entered p ≡ true → PlaceInRange n p → station_of p < n
station_fits n outside e h = clash false e refl
station_fits n (at s) e h = h
station_fits n (leaving s u) e h = h.0
station_fits n (travelling s u) e h = h.0

-- GROUPS

-- a cart comes in, or goes elsewhere
groups_stay : (carts : ℕ) (place : ℕ → Place) (groups : ℕ → ℕ) (c : ℕ) (p : Place) → entered p ≡ true → GroupsFit carts place groups
    → GroupsFit carts (update place c p) groups
groups_stay carts place groups c p e S g lg = ((S g lg).0, λ d h. on_update (λ q. entered q ≡ true) place c p d (λ z. e) (λ z. (S g lg).1 d h))

-- a cart that goes out leaves every group
groups_left : (carts : ℕ) (place : ℕ → Place) (groups : ℕ → ℕ) (c : ℕ) → GroupsFit carts place groups → GroupsFit carts (update place c outside)
    (λ g. without (groups g) c)
groups_left carts place groups c S g lg = (
  without_lt carts (groups g) c (S g lg).0,
  λ d h. let z : has (groups g) d && not (eqb c d) ≡ true = sym (has_without (groups g) c d) ∙ h in
      on_update (λ q. entered q ≡ true) place c outside d
      (λ y. absurd (eqb-false c d (not-true (eqb c d) (and_right (has (groups g) d) (not (eqb c d)) z)) (sym y)))
      (λ y. (S g lg).1 d (and_left (has (groups g) d) (not (eqb c d)) z)),
)

-- a retired cart is outside
retired_sized : (M : Limits) (F : Floor) (c : ℕ) → Sized M F → Sized M (on_retire F c).floor
unfolding on_retire
retired_sized M F c S =
    record {
      places = λ d. on_update (PlaceInRange F.stations) F.place c outside d (λ z. tt) (λ z. S.places d);
      lengths = S.lengths;
      words = S.words;
      store = S.store;
      groups = groups_left F.carts F.place F.groups c S.groups;
      counts = S.counts;
      numbers = S.numbers;
      messages = S.messages;
      copies = S.copies;
      lines = S.lines;
    }

-- a group has other members
group_defined : (F : Floor) (g set : ℕ) → MayGroup F g set → GroupsFit F.carts F.place F.groups
    → GroupsFit F.carts F.place (update F.groups g set)
group_defined F g set may S h lh =
    on_update (MembersFit F.carts F.place) F.groups g set h
    (λ z. (may.carts, λ c n. named_has_entered F set c (member_below F.carts set c may.carts n) may.all_entered_lem n))
    (λ z. S h lh)

-- THE STORE

-- a send takes octets of the store if its text is long
store_more : (M : Limits) (F : Floor) (s set : ℕ) (text : List ℕ) (m : ℕ) → MaySend M F s set text m → store_used M F.waiting F.text ≤ M.store
    → store_used M (update F.waiting m (set_of F.stations (λ t. true))) (update F.text m text) ≤ M.store
store_more M F s set text m may S =
    let full = set_of F.stations (λ t. true) in
    let f : ℕ → ℕ = λ k. cond (eqb (update F.waiting m full k) 0) 0 (stored_of M (update F.text m text k)) in
    let g : ℕ → ℕ = λ k. cond (eqb (F.waiting k) 0) 0 (stored_of M (F.text k)) in
    let none : g m ≡ 0 = rw may.takes.free in
    let z = sum_bump M.held f g m (f m) may.takes.room (λ k l ne. rw (ne_eqb k m ne)) (omega arith) in
    let taken : f m ≤ stored_of M text = rw (eqb_self m) (on_cond (λ x. x ≤ stored_of M text) (eqb full 0) (λ e. omega arith) (λ e. omega arith)) in
    by_test (ltb M.text (length text))
    (λ e. let y : f m ≤ length text = (let t = taken in rw e at t) in let b = may.stored e in omega arith)
    (λ e. let y : f m ≤ 0 = (let t = taken in rw e at t) in omega arith)

-- a delete takes none
store_less : (M : Limits) (F : Floor) (m t : ℕ)
    → store_used M (update F.waiting m (without (F.waiting m) t))
    (update F.text m (cond (eqb (without (F.waiting m) t) 0) [] (F.text m))) ≤ store_used M F.waiting F.text
store_less M F m t =
    sum_mono M.held _ _ (λ k l. by_eq k m
    (λ z. rw (z, eqb_self m) (by_test (eqb (without (F.waiting m) t) 0)
    (λ e. rw e (omega arith))
    (λ e. rw (e, still_waited (F.waiting m) t e) (omega arith))))
    (λ z. rw (ne_eqb k m z) (omega arith)))

-- SETS

set_update : (M : Limits) (k : ℕ) (sets : ℕ → ℕ → ℕ) (m t x : ℕ) → (m < M.held → t < M.stations → x < 2 ^ k) → SetsFit M k sets → SetsFit M k (update2 sets m t x)
set_update M k sets m t x h S j u lj lu = on_update2 (λ y. y < 2 ^ k) sets m t x j u (λ a b. h (rw a at lj) (rw b at lu)) (λ a. S j u lj lu)

set_choice : (M : Limits) (k : ℕ) (sets other : ℕ → ℕ → ℕ) (on : ℕ → ℕ → Bool) → SetsFit M k sets → SetsFit M k other → SetsFit M k (λ m u. cond (on m u) (other m u) (sets m u))
set_choice M k sets other on S O m u lm lu = on_cond (λ y. y < 2 ^ k) (on m u) (λ b. O m u lm lu) (λ b. S m u lm lu)

-- THE STEPS

module _ (M : Limits) where
  -- catch-up
  caught_up_sized : (F : Floor) (t c : ℕ) (only : ℕ → Bool) → c < F.carts → Sized M F → Sized M (catch_up_at_once M F t c only)
  caught_up_sized F t c only lc S =
      record {
        copies = record {
          copy = S.copies.copy;
          acks = S.copies.acks;
          queue = set_choice M F.carts F.queue (λ m u. with (F.queue m u) c) (λ m u. eqb u t && (only (F.initiator m) && found_is (catch_up_stop M F t c (F.initiator m)).found m))
              S.copies.queue (λ m u lm lu. with_lt F.carts (F.queue m u) c (S.copies.queue m u lm lu) lc);
        };
        lengths = S.lengths;
        words = S.words;
        store = S.store;
        groups = S.groups;
        counts = S.counts;
        numbers = S.numbers;
        places = S.places;
        messages = S.messages;
        lines = S.lines;
      }

  -- an arrival
  arrived_sized : (F : Floor) (t c : ℕ) (row : ℕ → ℕ) → t < F.stations → c < F.carts → Sized M F → Sized M (arrive M F t c row)
  unfolding struck
  arrived_sized F t c row lt lc S =
      rw (arrive_at_once M F t c row)
      (caught_up_sized (docked F t c row) t c (λ s. ltb s F.stations) lc
      (record {
        places = λ d. on_update (PlaceInRange F.stations) F.place c (at t) d (λ z. lt) (λ z. S.places d);
        copies = record {
          copy = set_choice M F.carts F.copy (λ m u. without (F.copy m u) c)
              (λ m u. eqb u t && (is_buffered (with_row F c row) m t && ltb (F.number m) ((with_row F c row).next c (F.initiator m))))
              S.copies.copy (λ m u lm lu. without_lt F.carts (F.copy m u) c (S.copies.copy m u lm lu));
          acks = S.copies.acks;
          queue = S.copies.queue;
        };
        lengths = S.lengths;
        words = S.words;
        store = S.store;
        groups = groups_stay F.carts F.place F.groups c (at t) refl S.groups;
        counts = S.counts;
        numbers = S.numbers;
        messages = S.messages;
        lines = S.lines;
      }))

  -- the ack list of a room goes
  sent_acks_sized : (F : Floor) (m t : ℕ) → m < M.held → t < F.stations → F.initiator m < F.stations → Sized M F → Sized M (send_acks F m t)
  unfolding send_acks
  sent_acks_sized F m t lm lt li S =
      let lt' : t < M.stations = (let z = S.counts.stations in omega arith) in
      record {
        copies = record {
          copy = set_update M F.carts F.copy m t (minus (F.copy m t) (F.acks m t)) (λ a b. minus_lt F.carts (F.copy m t) (F.acks m t) (S.copies.copy m t a b)) S.copies.copy;
          acks = set_update M F.carts F.acks m t 0 (λ a b. zero_below F.carts) S.copies.acks;
          queue = S.copies.queue;
        };
        lines = put_fits F.stations F.carts F.lines (between t (F.initiator m)) (ack_list (F.number m) (F.acks m t)) S.lines
            (to_one F.stations F.carts t (F.initiator m) (ack_list (F.number m) (F.acks m t)) lt li (S.copies.acks m t lm lt'));
        lengths = S.lengths;
        words = S.words;
        store = S.store;
        groups = S.groups;
        counts = S.counts;
        numbers = S.numbers;
        places = S.places;
        messages = S.messages;
      }

  send_each_sized : (F : Floor) (t : ℕ) (l : List ℕ) → t < F.stations → EachOf (λ m. (m < M.held) × (F.initiator m < F.stations)) l → Sized M F → Sized M (send_each F t l)
  unfolding send_each send_acks
  send_each_sized F t [] lt h S = S
  send_each_sized F t (m ∷ l) lt h S = send_each_sized (send_acks F m t) t l lt h.1 (sent_acks_sized F m t h.0.0 lt h.0.1 S)

  -- the carts of an ack list are added, and deletes go
  acks_added_sized : (F : Floor) (s n set : ℕ) → s < F.stations → set < 2 ^ F.carts → Sized M F → Sized M (on_ack_list M F s n set).floor
  unfolding on_ack_list
  acks_added_sized F s n set ls few S =
      on_option (λ (d : Done). Sized M d.floor) (room_of M F s n) (λ q. S)
      (λ m q. let H : MessagesFit M F.stations F.carts F.named (update F.acked m (union (F.acked m) set)) F.waiting F.text =
      record {
        acked = λ k lk. on_update (λ x. x < 2 ^ F.carts) F.acked m (union (F.acked m) set) k (λ z. union_lt F.carts (F.acked m) set (S.messages.acked m (rw z at lk)) few) (λ z. S.messages.acked k lk);
        named = S.messages.named;
        waiting = S.messages.waiting;
        text = S.messages.text;
      } in
      on_cond (λ (d : Done). Sized M d.floor) (eqb (union (F.acked m) set) (F.named m))
      (λ b. record {
        messages = H;
        lines = put_fits F.stations F.carts F.lines (to_every F.stations s) (delete n) S.lines (to_every_lem F.stations F.carts s (delete n) ls tt);
        lengths = S.lengths;
        words = S.words;
        store = S.store;
        groups = S.groups;
        counts = S.counts;
        numbers = S.numbers;
        places = S.places;
        copies = S.copies;
      })
      (λ b. record { messages = H; lengths = S.lengths; words = S.words; store = S.store; groups = S.groups; counts = S.counts; numbers = S.numbers; places = S.places; copies = S.copies; lines = S.lines }))

  -- a cart is handed off
  handed_off_sized : (F : Floor) (i j c : ℕ) → i < F.stations → j < F.stations → Sized M F → Sized M (handed_off M (unlined F i j) i j c)
  unfolding leave
  handed_off_sized F i j c li lj S =
      record {
        places = λ d. on_update (PlaceInRange F.stations) F.place c (travelling j i) d (λ z. (lj, li)) (λ z. S.places d);
        copies = record {
          queue = set_choice M F.carts F.queue (λ m u. without (F.queue m u) c) (λ m u. eqb u j) S.copies.queue (λ m u lm lu. without_lt F.carts (F.queue m u) c (S.copies.queue m u lm lu));
          copy = S.copies.copy;
          acks = S.copies.acks;
        };
        lines = put_fits F.stations F.carts (behead i j F.lines) (between j i) (register c (row_of M (F.next c))) (behead_fits F.stations F.carts F.lines i j S.lines)
            (to_one F.stations F.carts j i (register c (row_of M (F.next c))) lj li tt);
        lengths = S.lengths;
        words = S.words;
        store = S.store;
        groups = groups_stay F.carts F.place F.groups c (travelling j i) refl S.groups;
        counts = S.counts;
        numbers = S.numbers;
        messages = S.messages;
      }

  module _ (F : Floor) (G : History) (I : Invariant M F G) (S : Sized M F) where
    popped_sized : (i j : ℕ) → Sized M (unlined F i j)
    popped_sized i j = record {
      lines = behead_fits F.stations F.carts F.lines i j S.lines;
      lengths = S.lengths;
      words = S.words;
      store = S.store;
      groups = S.groups;
      counts = S.counts;
      numbers = S.numbers;
      places = S.places;
      messages = S.messages;
      copies = S.copies;
    }

    abbrev Fits : Done → Type 0
    Fits d = Sized M d.floor

    handled_sized : (i j : ℕ) (r : Record) (l : List Record) → MayWire F i j r l → Fits (handle M (unlined F i j) i j r)
    unfolding handle on_multicast multicast_by_row on_delete on_register buffer room_of
    handled_sized i j (multicast n) l may =
        let P = popped_sized i j in
        on_option Fits (room_of M F i n)
        (λ q. record { lengths = P.lengths; words = P.words; store = P.store; groups = P.groups; counts = P.counts; numbers = P.numbers; places = P.places; messages = P.messages; copies = P.copies; lines = P.lines })
        (λ m q. record {
          copies = record {
            copy = set_update M F.carts F.copy m j (minus (F.named m) (carts_that F (is_struck F (local_row F j) m i n)))
                (λ lm lt. minus_lt F.carts (F.named m) (carts_that F (is_struck F (local_row F j) m i n)) (S.messages.named m lm)) S.copies.copy;
            acks = S.copies.acks;
            queue = set_update M F.carts F.queue m j (carts_that F (is_queued F (local_row F j) m i n)) (λ lm lt. set_of_lt F.carts (is_queued F (local_row F j) m i n)) S.copies.queue;
          };
          lengths = P.lengths;
          words = P.words;
          store = P.store;
          groups = P.groups;
          counts = P.counts;
          numbers = P.numbers;
          places = P.places;
          messages = P.messages;
          lines = P.lines;
        })
    handled_sized i j (ack_list n set) l may =
        let ls : All (OnFloor F.stations F.carts i j) (ack_list n set ∷ l) = rw may.line at (S.lines i j) in
        acks_added_sized (unlined F i j) j n set may.to ls.0.1.1 (popped_sized i j)
    handled_sized i j (delete n) l may =
        let P = popped_sized i j in
        on_option Fits (room_of M F i n) (λ q. P)
        (λ m q. record {
          messages = record {
            waiting = λ k lk. on_update (λ x. x < 2 ^ F.stations) F.waiting m (without (F.waiting m) j) k (λ z. without_lt F.stations (F.waiting m) j (S.messages.waiting m (rw z at lk))) (λ z. S.messages.waiting k lk);
            named = S.messages.named;
            acked = S.messages.acked;
            text = λ k lk. on_update (λ (x : List ℕ). length x ≤ most_text M) F.text m (cond (eqb (without (F.waiting m) j) 0) [] (F.text m)) k
                (λ z. on_cond (λ (x : List ℕ). length x ≤ most_text M) (eqb (without (F.waiting m) j) 0) (λ e. omega arith)
                (λ e. S.messages.text m (rw z at lk))) (λ z. S.messages.text k lk);
          };
          lengths = P.lengths;
          words = P.words;
          store = (let z = store_less M F m j in let y = S.store in omega arith);
          groups = P.groups;
          counts = P.counts;
          numbers = P.numbers;
          places = P.places;
          copies = P.copies;
          lines = P.lines;
        })
    handled_sized i j (deregister c) l may =
        let rooms = completed M (unlined F i j) i j c in
        let g = all_go M F G i j c (behead i j F.lines) may.to I in
        let S1 = send_each_sized F j rooms may.to (each_map rooms (λ m k. (k.held.slot, initiator_on_floor M F G I m k.held)) g) S in
        let n : (send_each F j rooms).stations ≡ F.stations = ap (λ (X : Floor). X.stations) (send_each_is F j rooms) in
        let li = may.from in
        let lj = may.to in
        subst (λ (X : Floor). Sized M X) (sym (deregister_splits M F i j c l may.line)) (handed_off_sized (send_each F j rooms) i j c (omega arith) (omega arith) S1)
    handled_sized i j (register c row) l may =
        let z : registering row ∷ handoffs c l ≡ handoff_of (F.place c) i j (row_of M (F.next c)) = rw (may.line, eqb_self c) at (I.handoffs_right c i j) in
        let y = registering_is (F.place c) i j (row_of M (F.next c)) row (handoffs c l) z in
        arrived_sized (unlined F i j) j c (entry_of row) may.to (I.real c (rw y.0)) (popped_sized i j)

    -- radio
    received_sized : (m t c : ℕ) → c < F.carts → Sized M (receive F m t c)
    unfolding receive
    received_sized m t c lc = record {
      copies = record {
        copy = S.copies.copy;
        acks = set_update M F.carts F.acks m t (with (F.acks m t) c) (λ lm lt. with_lt F.carts (F.acks m t) c (S.copies.acks m t lm lt) lc) S.copies.acks;
        queue = set_update M F.carts F.queue m t (without (F.queue m t) c) (λ lm lt. without_lt F.carts (F.queue m t) c (S.copies.queue m t lm lt)) S.copies.queue;
      };
      lengths = S.lengths;
      words = S.words;
      store = S.store;
      groups = S.groups;
      counts = S.counts;
      numbers = S.numbers;
      places = S.places;
      messages = S.messages;
      lines = S.lines;
    }

  radio_sized : (F : Floor) (G : History) (m t c : ℕ) → Invariant M F G → Sized M F → MayRadio M F t c m → Sized M (hand_over M F m t c).floor
  unfolding hand_over receive send_acks
  radio_sized F G m t c I S may =
      let k = I.queues m t c may.queued in
      let R = receive F m t c in
      let SR = received_sized F G I S m t c may.cart in
      rw (one_at_once M (send_acks_if_all R m t) t c (F.initiator m))
      (on_cond (λ (X : Floor). Sized M (catch_up_at_once M X t c (λ u. eqb u (F.initiator m)))) (all_acked R m t)
      (λ b. caught_up_sized (send_acks R m t) t c (λ u. eqb u (F.initiator m)) may.cart (sent_acks_sized R m t k.held.slot may.station (initiator_on_floor M F G I m k.held) SR))
      (λ b. caught_up_sized R t c (λ u. eqb u (F.initiator m)) may.cart SR))

  -- send
  sent_sized : (F : Floor) (s set : ℕ) (text : List ℕ) (m : ℕ) → MaySend M F s set text m → Sized M F → Sized M (with_message F m s set text)
  unfolding with_message
  sent_sized F s set text m may S =
      let blank : (sets : ℕ → ℕ → ℕ) → SetsFit M F.carts sets → SetsFit M F.carts (λ k t. cond (eqb k m) 0 (sets k t)) =
      λ sets X. set_choice M F.carts sets (λ k t. 0) (λ k t. eqb k m) X (λ k t lk lt. zero_below F.carts) in
      record {
        numbers = λ u. on_update (λ x. x ≤ suc M.last) F.sent s (suc (F.sent s)) u (λ z. let y = may.takes.number in omega arith)
            (λ z. S.numbers u);
        messages = record {
          named = λ k lk. on_update (λ x. x < 2 ^ F.carts) F.named m set k (λ z. may.names.carts) (λ z. S.messages.named k lk);
          acked = λ k lk. on_update (λ x. x < 2 ^ F.carts) F.acked m 0 k (λ z. zero_below F.carts) (λ z. S.messages.acked k lk);
          waiting = λ k lk. on_update (λ x. x < 2 ^ F.stations) F.waiting m (set_of F.stations (λ t. true)) k (λ z. set_of_lt F.stations (λ t. true)) (λ z. S.messages.waiting k lk);
          text = λ k lk. on_update (λ (x : List ℕ). length x ≤ most_text M) F.text m text k (λ z. may.fits) (λ z. S.messages.text k lk);
        };
        copies = record { copy = blank F.copy S.copies.copy; acks = blank F.acks S.copies.acks; queue = blank F.queue S.copies.queue };
        lines = put_fits F.stations F.carts F.lines (to_every F.stations s) (multicast (F.sent s)) S.lines
            (to_every_lem F.stations F.carts s (multicast (F.sent s)) may.names.station tt);
        lengths = S.lengths;
        words = S.words;
        store = store_more M F s set text m may S.store;
        groups = S.groups;
        counts = S.counts;
        places = S.places;
      }

  -- move
  moved_sized : (F : Floor) (c to : ℕ) → MayMove F c to → Sized M F → Sized M (on_move F c to).floor
  unfolding on_move
  moved_sized F c to may S =
      let old = station_fits F.stations (F.place c) may.has_entered_lem (S.places c) in
      record {
        places = λ d. on_update (PlaceInRange F.stations) F.place c (leaving (station_of (F.place c)) to) d (λ z. (old, may.station)) (λ z. S.places d);
        lines = put_fits F.stations F.carts F.lines (between to (station_of (F.place c))) (deregister c) S.lines (to_one F.stations F.carts to (station_of (F.place c)) (deregister c) may.station old tt);
        lengths = S.lengths;
        words = S.words;
        store = S.store;
        groups = groups_stay F.carts F.place F.groups c (leaving (station_of (F.place c)) to) refl S.groups;
        counts = S.counts;
        numbers = S.numbers;
        messages = S.messages;
        copies = S.copies;
      }

grouped_sized : (M : Limits) (F : Floor) (g set : ℕ) → MayGroup F g set → Sized M F → Sized M (on_group F g set).floor
unfolding on_group
grouped_sized M F g set may S =
    record {
      groups = group_defined F g set may S.groups;
      lengths = S.lengths;
      words = S.words;
      store = S.store;
      counts = S.counts;
      numbers = S.numbers;
      places = S.places;
      messages = S.messages;
      copies = S.copies;
      lines = S.lines;
    }

-- every event keeps the sizes
pub step_sized : (M : Limits) (F : Floor) (G : History) → Invariant M F G → Sized M F → (e : Event) → Sized M (step M F e)
unfolding on_enter on_flag
step_sized M F G I S =
    by_step M F (λ e X a. Sized M X) I.started (λ e r. S)
    (λ t c may. arrived_sized M F t c (λ s. 0) may.station may.cart S)
    (λ s set text m may. sent_sized M F s set text m may S)
    (handled_sized M F G I S)
    (λ t c buffer m may. radio_sized M F G m t c I S may)
    (λ c to may. moved_sized M F c to may S)
    (λ c b may. S)
    (λ c may. retired_sized M F c S)
    (λ g set may. grouped_sized M F g set may S)
    (λ s g text m may. sent_sized M F s (F.groups g) text m may S)
    (λ s set text m may. sent_sized M F s set text m may S)

-- a floor just started
pub started_sized : (M : Limits) (n k : ℕ) → CountsFit M n k → Sized M (just_started n k)
started_sized M n k fit =
    record {
      lengths = refl;
      words = refl;
      counts = fit;
      store = let z = sum_zero M.held in omega arith;
      groups = λ g l. (zero_below k, λ c e. clash (has 0 c) e (has_zero c));
      numbers = λ s. omega arith;
      places = λ c. tt;
      messages = record { named = λ m l. zero_below k; acked = λ m l. zero_below k; waiting = λ m l. zero_below n; text = λ m l. omega arith };
      copies = record { copy = λ m t l h. zero_below k; acks = λ m t l h. zero_below k; queue = λ m t l h. zero_below k };
      lines = λ i j. tt;
    }
