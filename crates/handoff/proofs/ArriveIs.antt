-- AN ARRIVAL OVER THE LENT PARTS IS THE WRITTEN ARRIVAL, for an enter and for a register.
use mathlib.Core.Path.{◌≡◌, refl, sym, ap, ◌∙◌, fun_ext}
use mathlib.Core.Bool.{Bool, true, false, cond, ◌&&◌, not}
use mathlib.Core.List.{List}
use mathlib.Core.Option.{Option, none, some}
use Prim.Native.Nat.{ℕ, suc, ◌+◌, ◌-◌, ◌<◌, ◌≤◌}
use native.Mathlib.Omega.{arith}
use lib.Dec.{eqb, ltb}
use lib.ListN.{get_or}
use borrow.Author.Tests.{ltb-true, lt-ltb, le-ltb, ne_eqb}
use Rattle.protocol.specs.Folds.{sum, update}
use Rattle.protocol.specs.CartSets.{has, with, without, set_of}
use Rattle.protocol.specs.Floor.{Limits, Floor, Carts, Record, at, local_to, Product}
use Rattle.protocol.specs.Handoff.{Stop, with_row, struck, buffered_for, catch_up_stop, catch_up_each, arrive, passed_over, place_given, largest_place, deepest}
use Rattle.protocol.proofs.SetLaws.{has_set_of, has_zero, has_without, without_lt}
use Rattle.protocol.proofs.Tests.{by_test, by_lt, by_eq, clash, and_right, and_second_false, eqb_self, on_update, list_of_at, list_of_past}
use Rattle.protocol.proofs.Counting.{sum_ext}
use Rattle.protocol.proofs.Places.{given_at_once}
use Rattle.sets.proofs.Walk.{nothing_between}
use Rattle.protocol.proofs.Updates.{counts_up_le}
use Rattle.protocol.proofs.CatchUp.{catch_up_ascent, stop_same, stops_at, found_is, found_is_lem, docked, stop_at, arrive_at_once}
use Rattle.protocol.specs.Form.{multicast_numbers}
use Rattle.stations.specs.View.{Stations, HasStation, head_in, stations_in, naming_in}
use Rattle.stations.proofs.TableLaws.{copy_beyond}
use Rattle.carts.specs.Words.{HasRow}
use Rattle.carts.specs.View.{carts_in, canonical_in}
use Rattle.messages.specs.View.{Rooms, rooms_in}
use Rattle.store.specs.Texts.{text_of}
use Rattle.view.specs.View.{Lent, lent, floor_of, floor_in}
use Rattle.view.proofs.Room.{sum_less}
use Rattle.view.proofs.Laid.{Laid, local_stays, local_joins, laid_carts}
use Rattle.view.proofs.Standing.{Standing, few_stations, few_carts, numbers_of_32_bits}
use Rattle.queue.specs.Rooms.{tables_floor, room_count, HasRooms}
use Rattle.catchup.specs.Arrival.{stop_in, occurs, deepest_to}
use Rattle.catchup.proofs.NamingLaws.{naming_inside}
use Rattle.catchup.proofs.Stops.{Agree, NoneBeyond}
use Rattle.catchup.proofs.AllAtOnce.{all_raised, all_passed, all_queued, found_named, deepest_to_lem}
use Rattle.handoff.specs.Struck.{is_passed, struck_from}
use Rattle.handoff.specs.Arrived.{joined, Arrived}

-- nothing is expected of a station that there is not
pub expects_none : (L : Lent) → Standing L → (t : ℕ) → t < (floor_in L).stations → (s : ℕ) → (floor_in L).stations ≤ s → (floor_in L).expected t s ≡ 0
expects_none L X t lt s l =
    let F = floor_in L in
    let a = counts_up_le (F.expected t s) (multicast_numbers (F.lines s t)) (F.sent s) (X.facts.run s t lt) in
    by_eq (F.sent s) 0 (λ e. omega arith) (λ e. absurd (let b = X.facts.senders s (omega arith) in omega arith))

-- no number that a station expects is past the last of 32 bits
pub expected_fits : (L : Lent) → Standing L → (t : ℕ) → t < (floor_in L).stations → (s : ℕ) → s < 16 → (stations_in L.stations).expected t s ≤ 4294967295
expected_fits L X t lt s h = let a = (numbers_of_32_bits L X).expected t s lt in omega arith

-- the parts have a row for each station and cart of the floor, and for each room whose copy names a cart
pub parts_ready : (L : Lent) → Standing L → (t c : ℕ) → t < (floor_in L).stations → c < (floor_in L).carts → HasStation L.stations t × HasRow L.carts c × HasRooms L.messages × (t < 16) × (c < 64)
parts_ready L X t c lt lc =
    let a = X.lengths.stations in
    let b = X.lengths.carts in
    let d = X.lengths.messages in
    let e = X.sized.counts.stations in
    let f = X.sized.counts.carts in
    let g = L.product.held_fit in
    let h = few_stations L X in
    let k = few_carts L X in
    (omega arith, omega arith, omega arith, omega arith, omega arith)

-- the messages' table has the product's rooms
pub all_rooms : (L : Lent) → Standing L → room_count L.messages ≡ L.product.held
all_rooms L X = let a = X.lengths.messages in omega arith

-- no room beyond the limit has a copy that names a cart
pub none_beyond : (L : Lent) → Standing L → (t : ℕ) → t < (floor_in L).stations → (m : ℕ) → L.product.held ≤ m → (stations_in L.stations).copy m t ≡ 0
none_beyond L X t lt m l =
    let e = X.sized.counts.stations in
    by_lt m 32 (λ k. (X.laid.few t m (omega arith) k l).0) (λ k. copy_beyond L.stations m t k)

pub rooms_there : (L : Lent) → Standing L → (t c : ℕ) → t < (floor_in L).stations → (m : ℕ) → has (naming_in (stations_in L.stations) t c) m ≡ true → m < room_count L.messages
rooms_there L X t c lt m h =
    let d = X.lengths.messages in
    let low : m < L.product.held = by_lt m L.product.held (λ k. k)
    (λ k. let z = none_beyond L X t lt m k in
    let i = naming_inside L.stations t c m h in
    let y : has ((stations_in L.stations).copy m t) c ≡ true = sym (has_set_of 32 (λ r. has ((stations_in L.stations).copy r t) c) m i) ∙ h in
    clash (has 0 c) (rw z at y) (has_zero c)) in
    omega arith

-- FROM THE FLOOR OF THE PARTS, with any marks and any lines: cart c arrives at station t with that row of next numbers
module _ (Q : Limits) (S S' C C' M T O : List ℕ) (lengths words : Bool) (lines : ℕ → ℕ → List Record) (t c : ℕ) (row : List ℕ) (entries : ℕ → ℕ) (p q : ℕ)
    (is_row : (s : ℕ) → get_or row s 0 ≡ entries s) (no_more : (s : ℕ) → 16 ≤ s → entries s ≡ 0)
    (beyond : (Q.held ≤ 32) × ((m : ℕ) → Q.held ≤ m → (stations_in S).copy m t ≡ 0))
    (few : (head_in S).stations ≤ 16) (idle : (s : ℕ) → (head_in S).stations ≤ s → (stations_in S).expected t s ≡ 0)
    (there : Arrived S S' C C' M t c row p q) where
  abbrev G : Floor
  G = floor_of lengths words (head_in S) (stations_in S) (carts_in C) (rooms_in M) (text_of T O (rooms_in M)) lines

  abbrev n : ℕ
  n = (head_in S).stations

  abbrev R : Rooms
  R = rooms_in M

  abbrev D : Floor
  D = docked G t c entries

  abbrev stop : ℕ → Stop
  stop = catch_up_stop Q D t c

  abbrev K : List ℕ
  K = there.docked.struck

  abbrev N : List ℕ
  N = there.docked.nearest

  next_is_lem : (s : ℕ) → get_or row s 0 ≡ D.next c s
  unfolding struck
  next_is_lem s = rw (eqb_self c) (is_row s)

  -- THE COPIES
  copies : (m u : ℕ) → (struck_from (stations_in S) R t c row).copy m u ≡ D.copy m u
  unfolding struck
  copies m u =
      ap (λ (x : ℕ). cond (eqb u t && ((has (R.waiting m) t && ltb (R.number m) ((stations_in S).expected t (R.initiator m))) && ltb (R.number m) x))
      (without ((stations_in S).copy m u) c) ((stations_in S).copy m u)) (next_is_lem (R.initiator m))

  agree : Agree D (tables_floor K M)
  unfolding struck
  agree =
      record {
        expected = sym (ap (λ (X : Stations). X.expected) there.docked.is_struck_lem);
        initiator = refl;
        number = refl;
        waiting = refl;
        copy = sym (ap (λ (X : Stations). X.copy) there.docked.is_struck_lem ∙ fun_ext (λ m. fun_ext (λ u. copies m u)));
      }

  -- a cart that is struck leaves no copy where there was none
  beyond' : NoneBeyond Q D t c
  unfolding struck
  beyond' = (
    beyond.0,
    λ m l. let z = beyond.1 m l in rw z
        (by_test (eqb t t && ((has (R.waiting m) t && ltb (R.number m) ((stations_in S).expected t (R.initiator m))) && ltb (R.number m) ((with_row G c entries).next c (R.initiator m))))
        (λ e. rw e (has_without 0 c c ∙ ap (λ (b : Bool). b && not (eqb c c)) (has_zero c))) (λ e. rw e (has_zero c))),
  )

  -- THE NEXT NUMBERS
  raised : (s : ℕ) → s < 16 → stop_in (tables_floor K M) t row N s ≡ (stop s).upto
  raised = all_raised Q D K M agree t c beyond' row N there.docked.is_nearest (λ s h. next_is_lem s)

  -- of a station that there is not, a cart passes nothing
  stays : (s : ℕ) → n ≤ s → (stop s).upto ≡ D.next c s
  unfolding struck
  stays s l =
      let a = catch_up_ascent Q D t c s in
      let f = a.from in
      let b = a.below in
      let z : D.expected t s ≡ 0 = idle s l in
      omega arith

  entry : (s : ℕ) → get_or there.upto s 0 ≡ cond (ltb s n) (stop s).upto (entries s)
  entry s =
      ap (λ (l : List ℕ). get_or l s 0) there.docked.caught_up_lem
      ∙ by_lt s 16
      (λ l. list_of_at 16 (stop_in (tables_floor K M) t row N) 0 s l ∙ raised s l
      ∙ by_lt s n (λ q. rw (lt-ltb s n q)) (λ q. rw (le-ltb s n q) (stays s q ∙ sym (next_is_lem s) ∙ is_row s)))
      (λ l. list_of_past 16 (stop_in (tables_floor K M) t row N) 0 s l ∙ rw (le-ltb s n (omega arith)) (sym (no_more s l)))

  nexts : (d s : ℕ) → cond (eqb d c) (get_or there.upto s 0) ((carts_in C).next d s) ≡ cond (eqb d c && ltb s n) (stop s).upto (D.next d s)
  unfolding struck
  nexts d s = by_test (eqb d c) (λ q. rw q (entry s)) (λ q. rw q)

  -- and no message stops it
  none_found : (s : ℕ) → n ≤ s → (stop s).found ≡ none
  unfolding struck
  none_found s l = by_found (stop s).found refl
    where
      by_found : (o : Option ℕ) → (stop s).found ≡ o → o ≡ none
      by_found none e = refl
      by_found (some m) e =
          let k = stops_at Q D t c s (stop s).upto m ((catch_up_ascent Q D t c s).stop m e) in
          let i = k.is_initiator in
          let z = ltb-true (R.number m) ((stations_in S).expected t (R.initiator m)) (and_right (has (R.waiting m) t) (ltb (R.number m) ((stations_in S).expected t (R.initiator m))) k.buffered) in
          let y : (stations_in S).expected t (R.initiator m) ≡ 0 = idle (R.initiator m) (omega (arith, l, i)) in
          absurd (omega arith)

  -- THE QUEUES
  fewer : (m : ℕ) → (ltb (R.initiator m) 16 && found_is (stop (R.initiator m)).found m) ≡ (ltb (R.initiator m) n && found_is (stop (R.initiator m)).found m)
  unfolding struck
  fewer m =
      let i = R.initiator m in
      let f = found_is (stop i).found m in
      by_lt i n
      (λ l. rw (lt-ltb i n l, lt-ltb i 16 (omega arith)))
      (λ l. by_test f
      (λ e. let z : none ≡ some m = sym (none_found i l) ∙ found_is_lem (stop i).found m e in let x : ◌≡◌ {A = ℕ} 0 1 = cc in absurd (omega arith))
      (λ e. and_second_false (ltb i 16) f e ∙ sym (and_second_false (ltb i n) f e)))

  queued : (m u : ℕ) → (joined (struck_from (stations_in S) R t c row) t c N).queue m u ≡ (stop_at D stop t c (λ s. ltb s n)).queue m u
  unfolding struck
  queued m u =
      ap (λ (b : Bool). cond (eqb u t && b) (with ((stations_in S).queue m u) c) ((stations_in S).queue m u))
      (all_queued Q D K M agree t c beyond' row N there.docked.is_nearest (λ s h. next_is_lem s) m ∙ fewer m)

  -- THE PARTS
  struck_first : stations_in S' ≡ joined (struck_from (stations_in S) R t c row) t c N
  struck_first = there.docked.stations ∙ ap (λ (X : Stations). joined X t c N) there.docked.is_struck_lem

  stations_are : stations_in S' ≡ record {
    sent = (stations_in S).sent;
    expected = (stations_in S).expected;
    local = update (stations_in S).local t (with ((stations_in S).local t) c);
    copy = D.copy;
    acks = (stations_in S).acks;
    queue = (stop_at D stop t c (λ s. ltb s n)).queue;
  }
  stations_are =
      struck_first
      ∙ (λ i. record {
        sent = (stations_in S).sent;
        expected = (stations_in S).expected;
        local = update (stations_in S).local t (with ((stations_in S).local t) c);
        copy = λ m u. copies m u i;
        acks = (stations_in S).acks;
        queue = λ m u. queued m u i;
      })

  carts_are : carts_in C' ≡ record { place = update (carts_in C).place c (at t); next = λ d s. cond (eqb d c && ltb s n) (stop s).upto (D.next d s); steady = (carts_in C).steady }
  carts_are = there.carts ∙ (λ i. record { place = update (carts_in C).place c (at t); next = λ d s. nexts d s i; steady = (carts_in C).steady })

  -- "the cart is struck. Then catch-up for every initiator in rising order, and the cart is at this station"
  pub arrived_is : floor_of lengths words (head_in S') (stations_in S') (carts_in C') R (text_of T O R) lines ≡ arrive Q G t c entries
  unfolding struck
  arrived_is =
      (λ i. floor_of lengths words (there.docked.head i) (stations_are i) (carts_are i) R (text_of T O R) lines)
      ∙ sym (arrive_at_once Q G t c entries)

  -- "p counts the numbers passed over in this step"
  pub passed_is : p ≡ passed_over Q G t c entries
  unfolding struck passed_over
  passed_is =
      there.docked.count
      ∙ all_passed Q D K M agree t c beyond' row N there.docked.is_nearest (λ s h. next_is_lem s)
      ∙ ap (λ (k : ℕ). sum k rise) all
      ∙ sum_less n (16 - n) rise (λ s l. let z = stays s l in omega arith)
      ∙ sum_ext n rise (λ s. (arrive Q G t c entries).next c s - entries s)
      (λ s l. let y : (arrive Q G t c entries).next c s ≡ (stop s).upto = ap (λ (X : Floor). X.next c s) (arrive_at_once Q G t c entries) ∙ rw (eqb_self c, lt-ltb s n l) in
      let z : D.next c s ≡ entries s = sym (next_is_lem s) ∙ is_row s in
      omega arith)
    where
      rise : ℕ → ℕ
      rise s = (stop s).upto - D.next c s

      all : 16 ≡ n + (16 - n)
      all = omega arith

  -- THE PLACES: the queues of a cart that is struck, before it is at the station
  abbrev D₀ : Floor
  D₀ = struck (with_row G c entries) t c

  -- where it is makes no difference to where catch-up stops
  same_stop : (s : ℕ) → catch_up_stop Q D₀ t c s ≡ stop s
  unfolding struck buffered_for
  same_stop s = stop_same Q D₀ D t c s (λ k. refl) refl refl

  -- of a station that there is not, no place is given
  none_given : (s : ℕ) → n ≤ s → largest_place Q (suc s) D₀ t c ≡ largest_place Q s D₀ t c
  unfolding largest_place
  none_given s l =
      let none_there : (catch_up_stop Q D₀ t c s).found ≡ none = ap (λ (r : Stop). r.found) (same_stop s) ∙ none_found s l in
      let z : place_given Q (catch_up_each Q s D₀ t c) t c s ≡ 0 = given_at_once Q s D₀ t c ∙ rw none_there refl in
      omega (arith, z)

  -- "the largest place given in that step", where the table has as many rooms as messages may be held
  pub deepest_is : room_count M ≡ Q.held → q ≡ deepest Q G t c entries
  unfolding struck deepest
  deepest_is rooms =
      let agree₀ : Agree D₀ (tables_floor K M) = record { expected = agree.expected; initiator = refl; number = refl; waiting = refl; copy = agree.copy } in
      there.docked.deepest
      ∙ ap (λ (k : ℕ). deepest_to (stations_in K) R t c k N 16) rooms
      ∙ deepest_to_lem Q D₀ K M agree₀ t c beyond' row N there.docked.is_nearest (λ s h. next_is_lem s) (sym (ap (λ (X : Stations). X.queue) there.docked.is_struck_lem)) 16 (omega arith)
      ∙ nothing_between (λ k. largest_place Q k D₀ t c) n 16 few (λ s l h. none_given s l)

-- nothing, either way
pub none_either_way : (b : Bool) (x : ℕ) → x ≡ 0 → cond b x 0 ≡ 0
none_either_way true x e = e
none_either_way false x e = refl

-- HOW THE WORDS LIE afterwards, for a cart that was local nowhere
module _ {P : Product} (S S' C C' M W T O : List ℕ) (X : Laid (lent P S C M W T O)) (t c : ℕ) (lt : t < P.stations) (lc : c < 64) (row : List ℕ) (p q : ℕ)
    (nowhere : (u : ℕ) → local_to ((carts_in C).place c) u ≡ false) (there : Arrived S S' C C' M t c row p q) where
  locals : (u : ℕ) → u < P.stations → (stations_in S').local u ≡ set_of 64 (λ d. local_to ((carts_in C').place d) u)
  locals u l =
      ap (λ (Z : Stations). Z.local u) (there.docked.stations ∙ ap (λ (Z : Stations). joined Z t c there.docked.nearest) there.docked.is_struck_lem)
      ∙ on_update (λ (x : ℕ). x ≡ set_of 64 (λ d. local_to (update (carts_in C).place c (at t) d) u)) (stations_in S).local t (with ((stations_in S).local t) c) u
      (λ q. rw q (ap (λ (x : ℕ). with x c) (X.local t lt) ∙ local_joins (carts_in C).place c t (at t) lc (eqb_self t)))
      (λ q. X.local u l ∙ local_stays (carts_in C).place c u (at t) (ne_eqb t u (λ y. q (sym y)) ∙ sym (nowhere u)))
      ∙ ap (λ (Z : Carts). set_of 64 (λ d. local_to (Z.place d) u)) (sym there.carts)

  -- no copy and no entry beyond the rooms
  few' : (u m : ℕ) → u < P.stations → m < 32 → P.held ≤ m → ((stations_in S').copy m u ≡ 0) × ((stations_in S').queue m u ≡ 0)
  few' u m lu lm l =
      let was = X.few u m lu lm l in (
        ap (λ (Z : Stations). Z.copy m u) (there.docked.stations ∙ ap (λ (Z : Stations). joined Z t c N) there.docked.is_struck_lem) ∙ copy_none m u was.0,
        ap (λ (Z : Stations). Z.queue m u) (there.docked.stations ∙ ap (λ (Z : Stations). joined Z t c N) there.docked.is_struck_lem)
            ∙ by_test (eqb u t) (λ e. rw (e, not_said m lm l) was.1) (λ e. rw e was.1),
      )
    where
      N : List ℕ
      N = there.docked.nearest

      K : List ℕ
      K = there.docked.struck

      nothing_left : without 0 c ≡ 0
      nothing_left = let z = without_lt 0 0 c (omega arith) in omega arith

      copy_none : (m u : ℕ) → (stations_in S).copy m u ≡ 0 → (struck_from (stations_in S) (rooms_in M) t c row).copy m u ≡ 0
      copy_none m u z = rw z (none_either_way (eqb u t && is_passed (stations_in S) (rooms_in M) t row m) (without 0 c) nothing_left)

      not_said : (m : ℕ) → m < 32 → P.held ≤ m → occurs N 16 m ≡ false
      not_said m lm l =
          by_test (occurs N 16 m)
          (λ e. let y : has ((stations_in K).copy m t) c ≡ true = found_named (tables_floor K M) t c row N there.docked.is_nearest m e in
          let z : (stations_in K).copy m t ≡ 0 = ap (λ (Z : Stations). Z.copy m t) there.docked.is_struck_lem ∙ copy_none m t (X.few t m lt lm l).0 in
          clash (has 0 c) (rw z at y) (has_zero c))
          (λ e. e)

  pub laid_there : Laid (lent P S' C' M W T O)
  laid_there =
      laid_carts S C M W T O X S' C'
      (λ d ld. ap (λ (f : ℕ → Bool). f d) there.canonical ∙ on_update (λ (b : Bool). b ≡ true) (canonical_in C) c true d (λ q. refl) (λ q. X.canonical d ld))
      locals
      few'
