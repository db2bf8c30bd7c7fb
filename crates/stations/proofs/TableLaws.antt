-- THE STATIONS' TABLE: what one word put into it makes of the stations and of the floor's own row.
use mathlib.Core.Path.{◌≡◌, refl, sym, ap, subst, fun_ext, ◌∙◌}
use mathlib.Core.Bool.{Bool, true, false, not, cond, ◌&&◌}
use mathlib.Core.List.{List}
use Prim.Native.Nat.{ℕ, ◌+◌, ◌*◌, ◌^◌, ◌≤◌, ◌<◌}
use native.Mathlib.Omega.{arith}
use lib.Dec.{eqb}
use lib.ListN.{length, get_or}
use lib.Bits.{bit_or}
use borrow.Author.Tests.{eq-eqb, eqb-true, eqb-false, ne_eqb, not-true, not-false}
use Rattle.protocol.specs.Folds.{update2}
use Rattle.protocol.specs.Groups.{group_count}
use Rattle.protocol.specs.CartSets.{has, minus, set_of}
use Rattle.protocol.proofs.Tests.{same_test, by_test, by_lt}
use Rattle.protocol.proofs.SetLaws.{has_zero, has_minus, has_set_of, set_of_lt, set_of_beyond, minus_lt, member_below, same_members, either_empty}
use Rattle.sets.proofs.MaskLaws.{with_here, with_other, without_other}
use Rattle.rows.specs.Rows.{cell, column}
use Rattle.rows.proofs.RowLaws.{cell_zero, cell_past, update2_column}
use Rattle.rows.proofs.ColumnLaws.{word_put, column_read, column_put, column_put_turned, column_stays, column_beyond, column_zero}
use Rattle.stations.specs.View.{width, initiators, rooms, head_of, head, no_groups, group_at, head_word, with_group, stations_of, expected_at, copy_at, acks_at, queue_at, head_in, stations_in, station_word, no_stations, with_sent, with_expected, with_local, with_copy, with_acks, with_room, with_queue, copies_at, entries_at, counted, counted_with, entries_in, some_in, listing_in, Stations}

-- A STATION'S ROW AND THE FLOOR'S OWN

-- station t's row is row 1 + t
next_row : (u t : ℕ) → eqb (1 + u) (1 + t) ≡ eqb u t
next_row u t =
    same_test (eqb (1 + u) (1 + t)) (eqb u t)
    (λ e. eq-eqb u t (let z = eqb-true (1 + u) (1 + t) e in omega arith))
    (λ e. eq-eqb (1 + u) (1 + t) (let z = eqb-true u t e in omega arith))

module _ (W : ℕ → ℕ → ℕ) (k v : ℕ) where
  -- a word put into a station's row
  on_station : (t : ℕ) → (λ u. update2 W (1 + t) k v (1 + u)) ≡ update2 (λ u. W (1 + u)) t k v
  on_station t = fun_ext (λ u. fun_ext (λ j. ap (λ (b : Bool). cond (b && eqb j k) v (W (1 + u) j)) (next_row u t)))

  off_head : (t : ℕ) → update2 W (1 + t) k v 0 ≡ W 0
  off_head t = fun_ext (λ j. ap (λ (b : Bool). cond (b && eqb j k) v (W 0 j)) (ne_eqb 0 (1 + t) (omega arith)))

  -- a word put into the floor's own
  off_stations : ◌≡◌ {A = ℕ → ℕ → ℕ} (λ u. update2 W 0 k v (1 + u)) (λ u. W (1 + u))
  off_stations = fun_ext (λ u. fun_ext (λ j. ap (λ (b : Bool). cond (b && eqb j k) v (W (1 + u) j)) (ne_eqb (1 + u) 0 (omega arith))))

-- so of the table after the store of a word
module _ (l m : List ℕ) (k v : ℕ) where
  pub station_put : (t : ℕ) → cell width m ≡ update2 (cell width l) (1 + t) k v → station_word m ≡ update2 (station_word l) t k v
  station_put t e = ap {B = ℕ → ℕ → ℕ} (λ (W : ℕ → ℕ → ℕ). λ u. W (1 + u)) e ∙ on_station (cell width l) k v t

  pub head_kept : (t : ℕ) → cell width m ≡ update2 (cell width l) (1 + t) k v → head_in m ≡ head_in l
  unfolding head_in
  head_kept t e = ap (λ (W : ℕ → ℕ → ℕ). head_of (W 0)) e ∙ ap head_of (off_head (cell width l) k v t)

  pub stations_kept : cell width m ≡ update2 (cell width l) 0 k v → stations_in m ≡ stations_in l
  unfolding stations_in
  stations_kept e = ap (λ (W : ℕ → ℕ → ℕ). stations_of (λ u. W (1 + u))) e ∙ ap stations_of (off_stations (cell width l) k v)

-- a word of the floor's own row that is no group's: the groups stay
groups_stay : (W : ℕ → ℕ) (k v : ℕ) → k < 3
    → column group_count group_at (λ r j. cond (eqb j k) v (W j)) 0 ≡ column group_count group_at (λ r. W) 0
unfolding column
groups_stay W k v low = fun_ext (λ g. column_stays group_count group_at (λ r. W) 0 v k (λ j l e. omega arith) 0 g)

-- the floor's own three words
pub head_put : (l l₁ l₂ l₃ : List ℕ) (x y z : ℕ) → cell width l₁ ≡ update2 (cell width l) 0 0 x → cell width l₂ ≡ update2 (cell width l₁) 0 1 y
    → cell width l₃ ≡ update2 (cell width l₂) 0 2 z → head_in l₃ ≡ head x y z (head_in l).groups
unfolding head_in
head_put l l₁ l₂ l₃ x y z p q r =
    let W = cell width l 0 in
    ap (λ (W : ℕ → ℕ → ℕ). head_of (W 0)) r
    ∙ ap (λ (W : ℕ → ℕ → ℕ). head_of (update2 W 0 2 z 0)) q
    ∙ ap (λ (W : ℕ → ℕ → ℕ). head_of (update2 (update2 W 0 1 y) 0 2 z 0)) p
    ∙ ap (head x y z)
    (groups_stay (λ j. cond (eqb j 1) y (cond (eqb j 0) x (W j))) 2 z (omega arith)
    ∙ groups_stay (λ j. cond (eqb j 0) x (W j)) 1 y (omega arith)
    ∙ groups_stay W 0 x (omega arith))

-- the members of a group: what is read, and what a store of its word leaves
pub group_read : (l : List ℕ) (g : ℕ) → g < group_count → head_word l (group_at g) ≡ (head_in l).groups g
unfolding head_in
group_read l g h = column_read group_count group_at (λ r. head_word l) 0 g h

pub group_put : (l l₁ : List ℕ) (g v : ℕ) → g < group_count → cell width l₁ ≡ update2 (cell width l) 0 (group_at g) v → head_in l₁ ≡ with_group (head_in l) g v
unfolding head_in column
group_put l l₁ g v h p =
    ap (λ (W : ℕ → ℕ → ℕ). head_of (W 0)) p
    ∙ (λ i. record {
      mark = update2_column (cell width l) 0 (group_at g) v 0 0 (omega arith) i;
      stations = update2_column (cell width l) 0 (group_at g) v 0 1 (omega arith) i;
      carts = update2_column (cell width l) 0 (group_at g) v 0 2 (omega arith) i;
      groups = λ j. column_put group_count group_at (λ r. head_word l) 0 v g h (λ j l e. omega arith) 0 j i;
    })

-- THE WORDS THAT COUNT

-- none counts; an empty word
counted_none : (bit v : ℕ) → counted 0 bit v ≡ 0
counted_none bit v = ap (λ (b : Bool). cond b v 0) (has_zero bit)

counted_zero : (among bit : ℕ) → counted among bit 0 ≡ 0
counted_zero among bit = by_test (has among bit) (λ h. rw h) (λ h. rw h)

-- the rooms of a word
rooms_word : (pick : ℕ → Bool) → set_of rooms pick < 2 ^ 64
rooms_word pick = let z = set_of_lt rooms pick in omega arith

pub among_rooms : (word a b : ℕ) → word < 2 ^ 64 → a ≡ minus word (set_of rooms (λ c. true)) → b ≡ minus word a → b ≡ set_of rooms (has word)
among_rooms word a b small p q =
    same_members 64 b (set_of rooms (has word)) (rw q (minus_lt 64 word a small)) (rooms_word (has word))
    (λ c h. rw (q, has_minus word a c, p, has_minus word (set_of rooms (λ c. true)) c)
    (by_lt c rooms
    (λ l. rw (has_set_of rooms (λ c. true) c l, has_set_of rooms (has word) c l) (by_test (has word c) (λ e. rw e) (λ e. rw e)))
    (λ l. rw (set_of_beyond rooms (λ c. true) c l, set_of_beyond rooms (has word) c l) (by_test (has word c) (λ e. rw e) (λ e. rw e)))))

-- a word counts once its bit is put by a word that is empty only where this one is, and for the other bits nothing changed
counted_kept : (among bit y v : ℕ) → (y ≡ 0 → v ≡ 0) → counted (counted_with among bit y) bit v ≡ v
counted_kept among bit y v empty =
    by_test (eqb y 0)
    (λ z. let e = empty (eqb-true y 0 z) in rw (e, counted_zero (counted_with among bit y) bit))
    (λ z. rw (z, with_here among bit))

counted_other : (among bit n v : ℕ) → (n ≡ bit → ⊥) → has (counted_with among bit v) n ≡ has among n
counted_other among bit n v d =
    by_test (eqb v 0) (λ z. rw z (without_other among bit n (λ e. d (sym e)))) (λ z. rw z (with_other among bit n (λ e. d (sym e))))

-- what is read of room m: whether its bit counts, then its word
module _ (pos : ℕ → ℕ) (k : ℕ) (W : ℕ → ℕ → ℕ) (t m bit x : ℕ) (b : Bool) where
  pub is_not_counted : x ≡ W t k → b ≡ has x bit → not b ≡ true → 0 ≡ counted (W t k) bit (column rooms pos W t m)
  is_not_counted e f z = rw (sym e, sym f ∙ not-true b z) refl

  pub is_counted : (y : ℕ) → m < rooms → x ≡ W t k → b ≡ has x bit → not b ≡ false → y ≡ W t (pos m) → y ≡ counted (W t k) bit (column rooms pos W t m)
  is_counted y h e f z g = rw (sym e, sym f ∙ not-false b z) (g ∙ column_read rooms pos W t m h)

-- A WORD OF A STATION'S ROW

-- of a table in which room m at t has another word, and word k there says that it counts, and of the other rooms what it said
module _ (pos : ℕ → ℕ) (k : ℕ) (W W' : ℕ → ℕ → ℕ) (t m x v : ℕ) (words : (n u : ℕ) → column rooms pos W' u n ≡ cond (eqb n m && eqb u t) v (column rooms pos W u n))
    (bits : (u : ℕ) → W' u k ≡ cond (eqb u t) x (W u k)) (kept : counted x m v ≡ v) (others : (n : ℕ) → (n ≡ m → ⊥) → has x n ≡ has (W t k) n) where
  merged : (n u y : ℕ) → counted (cond (eqb u t) x (W u k)) n (cond (eqb n m && eqb u t) v y) ≡ cond (eqb n m && eqb u t) v (counted (W u k) n y)
  merged n u y =
      by_test (eqb u t)
      (λ p. by_test (eqb n m)
      (λ q. rw (p, q) (subst (λ (j : ℕ). counted x j v ≡ v) (sym (eqb-true n m q)) kept))
      (λ q. rw (p, q, others n (eqb-false n m q), eqb-true u t p)))
      (λ p. by_test (eqb n m) (λ q. rw (p, q)) (λ q. rw (p, q)))

  counted_put : (n u : ℕ) → counted (W' u k) n (column rooms pos W' u n) ≡ update2 (λ j r. counted (W r k) j (column rooms pos W r j)) m t v n u
  counted_put n u = rw (bits u, words n u) (merged n u (column rooms pos W u n))

-- a word changes what stands there, and nothing else: the other positions are others
module _ (W : ℕ → ℕ → ℕ) (t v : ℕ) where
  pub sent_put : stations_of (update2 W t 0 v) ≡ with_sent (stations_of W) t v
  sent_put = λ i. record {
    sent = λ u. word_put W t 0 v u i;
    expected = λ u s. column_stays initiators expected_at W t v 0 (λ j l e. omega arith) u s i;
    local = λ u. update2_column W t 0 v u 17 (omega arith) i;
    copy = λ n u. counted (update2_column W t 0 v u copies_at (omega arith) i) n (column_stays rooms copy_at W t v 0 (λ j l e. omega arith) u n i);
    acks = λ n u. counted (update2_column W t 0 v u copies_at (omega arith) i) n (column_stays rooms acks_at W t v 0 (λ j l e. omega arith) u n i);
    queue = λ n u. counted (update2_column W t 0 v u entries_at (omega arith) i) n (column_stays rooms queue_at W t v 0 (λ j l e. omega arith) u n i);
  }

  pub local_put : stations_of (update2 W t 17 v) ≡ with_local (stations_of W) t v
  local_put = λ i. record {
    sent = λ u. update2_column W t 17 v u 0 (omega arith) i;
    expected = λ u s. column_stays initiators expected_at W t v 17 (λ j l e. omega arith) u s i;
    local = λ u. word_put W t 17 v u i;
    copy = λ n u. counted (update2_column W t 17 v u copies_at (omega arith) i) n (column_stays rooms copy_at W t v 17 (λ j l e. omega arith) u n i);
    acks = λ n u. counted (update2_column W t 17 v u copies_at (omega arith) i) n (column_stays rooms acks_at W t v 17 (λ j l e. omega arith) u n i);
    queue = λ n u. counted (update2_column W t 17 v u entries_at (omega arith) i) n (column_stays rooms queue_at W t v 17 (λ j l e. omega arith) u n i);
  }

  pub expected_put : (s : ℕ) → s < initiators → stations_of (update2 W t (expected_at s) v) ≡ with_expected (stations_of W) t s v
  expected_put s h = λ i. record {
    sent = λ u. update2_column W t (expected_at s) v u 0 (omega arith) i;
    expected = λ u r. column_put initiators expected_at W t v s h (λ j l e. omega arith) u r i;
    local = λ u. update2_column W t (expected_at s) v u 17 (omega arith) i;
    copy = λ n u. counted (update2_column W t (expected_at s) v u copies_at (omega arith) i) n (column_stays rooms copy_at W t v (expected_at s) (λ j l e. omega arith) u n i);
    acks = λ n u. counted (update2_column W t (expected_at s) v u copies_at (omega arith) i) n (column_stays rooms acks_at W t v (expected_at s) (λ j l e. omega arith) u n i);
    queue = λ n u. counted (update2_column W t (expected_at s) v u entries_at (omega arith) i) n (column_stays rooms queue_at W t v (expected_at s) (λ j l e. omega arith) u n i);
  }

-- a room's entry of the queue: its bit says that it counts
module _ (W : ℕ → ℕ → ℕ) (t m v : ℕ) (inside : m < rooms) where
  abbrev entries : ℕ
  entries = counted_with (W t entries_at) m v

  abbrev marked : ℕ → ℕ → ℕ
  marked = update2 W t entries_at entries

  abbrev queued : ℕ → ℕ → ℕ
  queued = update2 marked t (queue_at m) v

  queue_word : (u k : ℕ) → (k ≡ entries_at → ⊥) → (k ≡ queue_at m → ⊥) → queued u k ≡ W u k
  queue_word u k a b = update2_column marked t (queue_at m) v u k b ∙ update2_column W t entries_at entries u k a

  queue_column : (n : ℕ) (pos : ℕ → ℕ) → ((j : ℕ) → j < n → pos j ≡ entries_at → ⊥) → ((j : ℕ) → j < n → pos j ≡ queue_at m → ⊥) → (u j : ℕ) → column n pos queued u j ≡ column n pos W u j
  queue_column n pos a b u j = column_stays n pos marked t v (queue_at m) b u j ∙ column_stays n pos W t entries entries_at a u j

  entries_put : (u : ℕ) → queued u entries_at ≡ cond (eqb u t) entries (W u entries_at)
  entries_put u = update2_column marked t (queue_at m) v u entries_at (omega arith) ∙ word_put W t entries_at entries u

  entry_put : (n u : ℕ) → column rooms queue_at queued u n ≡ cond (eqb n m && eqb u t) v (column rooms queue_at W u n)
  entry_put n u =
      column_put_turned rooms queue_at marked t v m inside (λ j l e. omega arith) n u
      ∙ ap (λ (y : ℕ). cond (eqb n m && eqb u t) v y) (column_stays rooms queue_at W t entries entries_at (λ j l e. omega arith) u n)

  pub queue_put : stations_of queued ≡ with_queue (stations_of W) m t v
  queue_put = λ i. record {
    sent = λ u. queue_word u 0 (omega arith) (omega arith) i;
    expected = λ u s. queue_column initiators expected_at (λ j l e. omega arith) (λ j l e. omega arith) u s i;
    local = λ u. queue_word u 17 (omega arith) (omega arith) i;
    copy = λ n u. counted (queue_word u copies_at (omega arith) (omega arith) i) n (queue_column rooms copy_at (λ j l e. omega arith) (λ j l e. omega arith) u n i);
    acks = λ n u. counted (queue_word u copies_at (omega arith) (omega arith) i) n (queue_column rooms acks_at (λ j l e. omega arith) (λ j l e. omega arith) u n i);
    queue = λ n u. counted_put queue_at entries_at W queued t m entries v entry_put entries_put (counted_kept (W t entries_at) m v v (λ e. e)) (λ n d. counted_other (W t entries_at) m n v d) n u i;
  }

-- a room's copy and ack list: one bit says that both count
module _ (W : ℕ → ℕ → ℕ) (t m copy acks : ℕ) (inside : m < rooms) where
  abbrev copies : ℕ
  copies = counted_with (W t copies_at) m (bit_or copy acks)

  abbrev noted : ℕ → ℕ → ℕ
  noted = update2 W t copies_at copies

  abbrev copied : ℕ → ℕ → ℕ
  copied = update2 noted t (copy_at m) copy

  abbrev listed : ℕ → ℕ → ℕ
  listed = update2 copied t (acks_at m) acks

  room_word : (u k : ℕ) → (k ≡ copies_at → ⊥) → (k ≡ copy_at m → ⊥) → (k ≡ acks_at m → ⊥) → listed u k ≡ W u k
  room_word u k a b c = update2_column copied t (acks_at m) acks u k c ∙ update2_column noted t (copy_at m) copy u k b ∙ update2_column W t copies_at copies u k a

  room_column : (n : ℕ) (pos : ℕ → ℕ) → ((j : ℕ) → j < n → pos j ≡ copies_at → ⊥) → ((j : ℕ) → j < n → pos j ≡ copy_at m → ⊥) → ((j : ℕ) → j < n → pos j ≡ acks_at m → ⊥)
      → (u j : ℕ) → column n pos listed u j ≡ column n pos W u j
  room_column n pos a b c u j = column_stays n pos copied t acks (acks_at m) c u j ∙ column_stays n pos noted t copy (copy_at m) b u j ∙ column_stays n pos W t copies copies_at a u j

  copies_put : (u : ℕ) → listed u copies_at ≡ cond (eqb u t) copies (W u copies_at)
  copies_put u = update2_column copied t (acks_at m) acks u copies_at (omega arith) ∙ update2_column noted t (copy_at m) copy u copies_at (omega arith) ∙ word_put W t copies_at copies u

  others : (n : ℕ) → (n ≡ m → ⊥) → has copies n ≡ has (W t copies_at) n
  others n d = counted_other (W t copies_at) m n (bit_or copy acks) d

  copy_put : (n u : ℕ) → column rooms copy_at listed u n ≡ cond (eqb n m && eqb u t) copy (column rooms copy_at W u n)
  copy_put n u =
      column_stays rooms copy_at copied t acks (acks_at m) (λ j l e. omega arith) u n
      ∙ column_put_turned rooms copy_at noted t copy m inside (λ j l e. omega arith) n u
      ∙ ap (λ (y : ℕ). cond (eqb n m && eqb u t) copy y) (column_stays rooms copy_at W t copies copies_at (λ j l e. omega arith) u n)

  list_put : (n u : ℕ) → column rooms acks_at listed u n ≡ cond (eqb n m && eqb u t) acks (column rooms acks_at W u n)
  list_put n u =
      column_put_turned rooms acks_at copied t acks m inside (λ j l e. omega arith) n u
      ∙ ap (λ (y : ℕ). cond (eqb n m && eqb u t) acks y)
      (column_stays rooms acks_at noted t copy (copy_at m) (λ j l e. omega arith) u n ∙ column_stays rooms acks_at W t copies copies_at (λ j l e. omega arith) u n)

  pub room_put : stations_of listed ≡ with_room (stations_of W) m t copy acks
  room_put = λ i. record {
    sent = λ u. room_word u 0 (omega arith) (omega arith) (omega arith) i;
    expected = λ u s. room_column initiators expected_at (λ j l e. omega arith) (λ j l e. omega arith) (λ j l e. omega arith) u s i;
    local = λ u. room_word u 17 (omega arith) (omega arith) (omega arith) i;
    copy = λ n u. counted_put copy_at copies_at W listed t m copies copy copy_put copies_put (counted_kept (W t copies_at) m (bit_or copy acks) copy (λ e. (either_empty copy acks e).0)) others n u i;
    acks = λ n u. counted_put acks_at copies_at W listed t m copies acks list_put copies_put (counted_kept (W t copies_at) m (bit_or copy acks) acks (λ e. (either_empty copy acks e).1)) others n u i;
    queue = λ n u. counted (room_word u entries_at (omega arith) (omega arith) (omega arith) i) n (room_column rooms queue_at (λ j l e. omega arith) (λ j l e. omega arith) (λ j l e. omega arith) u n i);
  }

-- what stood there, put again, changes nothing
same_put : (F : ℕ → ℕ → ℕ) (m t : ℕ) → update2 F m t (F m t) ≡ F
same_put F m t =
    fun_ext (λ n. fun_ext (λ u.
    by_test (eqb n m)
    (λ p. by_test (eqb u t) (λ q. rw (p, q, eqb-true n m p, eqb-true u t q)) (λ q. rw (p, q)))
    (λ p. rw p)))

module _ (S : Stations) (m t carts : ℕ) where
  pub acks_stay : with_room S m t carts (S.acks m t) ≡ with_copy S m t carts
  acks_stay = ap (λ (F : ℕ → ℕ → ℕ). record { sent = S.sent; expected = S.expected; local = S.local; copy = update2 S.copy m t carts; acks = F; queue = S.queue }) (same_put S.acks m t)

  pub copy_stays : with_room S m t (S.copy m t) carts ≡ with_acks S m t carts
  copy_stays = ap (λ (F : ℕ → ℕ → ℕ). record { sent = S.sent; expected = S.expected; local = S.local; copy = F; acks = update2 S.acks m t carts; queue = S.queue }) (same_put S.copy m t)

-- A CLEARED TABLE

no_words : stations_of (λ t k. 0) ≡ no_stations
no_words = λ i. record {
  sent = λ t. 0;
  expected = λ t s. column_zero initiators expected_at (λ u k. 0) t s (λ k. refl) i;
  local = λ t. 0;
  copy = λ m t. counted_none m (column rooms copy_at (λ u k. 0) t m) i;
  acks = λ m t. counted_none m (column rooms acks_at (λ u k. 0) t m) i;
  queue = λ m t. counted_none m (column rooms queue_at (λ u k. 0) t m) i;
}

pub no_stations_lem : (l : List ℕ) → ((k : ℕ) → get_or l k 0 ≡ 0) → stations_in l ≡ no_stations
unfolding stations_in
no_stations_lem l h = ap (λ (W : ℕ → ℕ → ℕ). stations_of (λ t. W (1 + t))) (cell_zero width l h) ∙ no_words

pub no_head : (l : List ℕ) → ((k : ℕ) → get_or l k 0 ≡ 0) → head_in l ≡ head 0 0 0 no_groups
unfolding head_in
no_head l h =
    ap (λ (W : ℕ → ℕ → ℕ). head_of (W 0)) (cell_zero width l h)
    ∙ ap (head 0 0 0) (fun_ext (λ g. column_zero group_count group_at (λ r k. 0) 0 g (λ k. refl)))

-- BEYOND

-- what stands at a station for which the table has no row
module _ (l : List ℕ) (t : ℕ) (past : length l ≤ (1 + t) * width) where
  no_word : (k : ℕ) → station_word l t k ≡ 0
  no_word k = cell_past width l (1 + t) k past

  pub sent_past : (stations_in l).sent t ≡ 0
  unfolding stations_in
  sent_past = no_word 0

  counted_past : (pos : ℕ → ℕ) (k bit m : ℕ) → counted (station_word l t k) bit (column rooms pos (station_word l) t m) ≡ 0
  counted_past pos k bit m = ap (λ (among : ℕ). counted among bit (column rooms pos (station_word l) t m)) (no_word k) ∙ counted_none bit _

  pub copy_past : (m : ℕ) → (stations_in l).copy m t ≡ 0
  unfolding stations_in
  copy_past m = counted_past copy_at copies_at m m

  pub acks_past : (m : ℕ) → (stations_in l).acks m t ≡ 0
  unfolding stations_in
  acks_past m = counted_past acks_at copies_at m m

  pub queue_past : (m : ℕ) → (stations_in l).queue m t ≡ 0
  unfolding stations_in
  queue_past m = counted_past queue_at entries_at m m

  pub expected_past : (s : ℕ) → (stations_in l).expected t s ≡ 0
  unfolding stations_in
  expected_past s = column_zero initiators expected_at (station_word l) t s no_word

-- beyond sixteen initiators, and beyond thirty-two rooms
pub expected_beyond : (l : List ℕ) (t s : ℕ) → initiators ≤ s → (stations_in l).expected t s ≡ 0
unfolding stations_in
expected_beyond l t s h = column_beyond initiators expected_at (station_word l) t s h

module _ (l : List ℕ) (m t : ℕ) where
  counted_beyond : (pos : ℕ → ℕ) (k bit : ℕ) → rooms ≤ m → counted (station_word l t k) bit (column rooms pos (station_word l) t m) ≡ 0
  counted_beyond pos k bit h = ap (counted (station_word l t k) bit) (column_beyond rooms pos (station_word l) t m h) ∙ counted_zero (station_word l t k) bit

  pub copy_beyond : rooms ≤ m → (stations_in l).copy m t ≡ 0
  unfolding stations_in
  copy_beyond h = counted_beyond copy_at copies_at m h

  pub acks_beyond : rooms ≤ m → (stations_in l).acks m t ≡ 0
  unfolding stations_in
  acks_beyond h = counted_beyond acks_at copies_at m h

  pub queue_beyond : rooms ≤ m → (stations_in l).queue m t ≡ 0
  unfolding stations_in
  queue_beyond h = counted_beyond queue_at entries_at m h

  -- WHERE A SEARCH NEED NOT LOOK: at a room whose entry does not count, at one with no ack list
  pub not_in_entries : has (entries_in l t) m ≡ false → (stations_in l).queue m t ≡ 0
  unfolding stations_in
  not_in_entries out =
      by_lt m rooms
      (λ h. ap (λ (b : Bool). cond b (column rooms queue_at (station_word l) t m) 0) (sym (has_set_of rooms (has (station_word l t entries_at)) m h) ∙ out))
      queue_beyond

  pub not_listing : has (listing_in (stations_in l) t) m ≡ false → (stations_in l).acks m t ≡ 0
  not_listing out =
      by_lt m rooms
      (λ h. eqb-true ((stations_in l).acks m t) 0 (not-false (eqb ((stations_in l).acks m t) 0) (sym (has_set_of rooms (λ n. some_in ((stations_in l).acks n t)) m h) ∙ out)))
      acks_beyond

-- the rooms that count, as sets to walk over
module _ (l : List ℕ) (t : ℕ) where
  pub entries_word : entries_in l t < 2 ^ 64
  entries_word = rooms_word (has (station_word l t entries_at))

  pub entries_inside : (m : ℕ) → has (entries_in l t) m ≡ true → m < rooms
  entries_inside m e = member_below rooms (entries_in l t) m (set_of_lt rooms (has (station_word l t entries_at))) e

-- the rooms with an ack list
module _ (S : Stations) (t : ℕ) where
  pub listing_word : listing_in S t < 2 ^ 64
  listing_word = rooms_word (λ m. some_in (S.acks m t))

  pub listing_inside : (m : ℕ) → has (listing_in S t) m ≡ true → m < rooms
  listing_inside m e = member_below rooms (listing_in S t) m (set_of_lt rooms (λ n. some_in (S.acks n t))) e
