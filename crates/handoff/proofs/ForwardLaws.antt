-- ACK LISTS FORWARDED: which go, found by a walk over the rooms whose lists count, and then sent, the first in queue order before the others.
use mathlib.Core.Path.{◌≡◌, refl, sym, ap, ◌∙◌, fun_ext, subst}
use mathlib.Core.Bool.{Bool, true, false, cond, not, ◌&&◌}
use mathlib.Core.List.{List, [], ◌∷◌, ◌++◌, append-nil, append_assoc}
use Prim.Native.Nat.{ℕ, ◌+◌, ◌*◌, ◌^◌, ◌<◌, ◌≤◌}
use native.Mathlib.Numerals.{add-one}
use native.Mathlib.Omega.{arith}
use lib.Dec.{eqb, ltb}
use lib.ListN.{length, length-append}
use borrow.Author.Tests.{eq-eqb, ne_eqb, eqb-true, eqb-false, lt-ltb, le-ltb}
use mathlib.Core.Option.{none}
use Rattle.std.specs.Prelude as code
use Rattle.std.specs.Prelude.{Some, None}
use Rattle.protocol.specs.Folds.{update2}
use Rattle.protocol.specs.CartSets.{has, with, without, minus, set_of}
use Rattle.protocol.proofs.Tests.{by_test, by_lt, by_eq, and-false, and-true, and_left, clash, eqb_self, on_update2}
use Rattle.protocol.proofs.SetLaws.{has_zero, has_without, has_set_of, has_some, set_of_suc, set_of_lt, set_of_beyond, set_of_member, member_below, without_lt}
use Rattle.protocol.proofs.InOrder.{in_order_few, in_order_none, same_picks, without_room}
use Rattle.sets.proofs.MaskLaws.{without_here, without_other, without_less}
use Rattle.sets.proofs.Walk.{nothing_between}
use Rattle.stations.specs.View.{Stations, stations_in, head_in, listing_in}
use Rattle.stations.proofs.TableLaws.{not_listing}
use Rattle.messages.specs.View.{Rooms, HasRoom, rooms_in}
use Rattle.lines.specs.Form.{form}
use Rattle.lines.specs.Lines.{used}
use Rattle.lines.specs.Words.{capacity}
use Rattle.lines.specs.Post.{Pushed}
use Rattle.view.specs.Records.{words_of}
use Rattle.queue.specs.Rooms.{tables_floor, room_code, room_count}
use Rattle.queue.specs.Keys.{InKey, KeyedRooms, first_among}
use Rattle.queue.proofs.Codes.{is_room, is_none}
use Rattle.queue.proofs.HeadLaws.{IsFirst, first_is, first_in_order}
use Rattle.wireless.specs.Handed.{hold_none, sent_from, ListSent}
use Rattle.handoff.specs.Forwarded.{HeldRooms, goes, ordered_rooms, emptied, PushedEach, ListsGone}

-- WHICH LISTS GO: the ways through the test
module _ (X : Stations) (R : Rooms) (t m : ℕ) where
  pub none_waits : has (R.waiting m) t ≡ false → false ≡ goes X R t m
  none_waits e = rw e

  pub not_come : X.expected t (R.initiator m) ≤ R.number m → false ≡ goes X R t m
  not_come l = rw (le-ltb (R.number m) (X.expected t (R.initiator m)) l, and-false (has (R.waiting m) t))

  pub no_list : X.acks m t ≡ 0 → false ≡ goes X R t m
  no_list e =
      rw (eq-eqb (X.acks m t) 0 e) (sym (and-false (has (R.waiting m) t && ltb (R.number m) (X.expected t (R.initiator m)))))

  pub by_the_carts : (b : Bool) → has (R.waiting m) t ≡ true → R.number m < X.expected t (R.initiator m) → (X.acks m t ≡ 0 → ⊥) → b ≡ hold_none X m t → b ≡ goes X R t m
  by_the_carts b w l some e = rw (w, lt-ltb (R.number m) (X.expected t (R.initiator m)) l, ne_eqb (X.acks m t) 0 some) e

-- a room that the table does not have holds none
pub none_there : (X : Stations) (M : List ℕ) (t m : ℕ) → HeldRooms M → room_count M ≤ m → false ≡ goes X (rooms_in M) t m
none_there X M t m h l = none_waits X (rooms_in M) t m (ap (λ (x : ℕ). has x t) (h.none_beyond m l) ∙ has_zero t)

-- a message that waits here has a key
pub waits_keyed : (M : List ℕ) (t m : ℕ) → HeldRooms M → has ((rooms_in M).waiting m) t ≡ true → InKey ((rooms_in M).number m) ((rooms_in M).initiator m)
waits_keyed M t m h e = h.keyed m (eqb-false ((rooms_in M).waiting m) 0 (has_some ((rooms_in M).waiting m) t e))

-- THE WALK over the rooms whose lists count: those that pass among the first rooms
module _ (f : ℕ → Bool) where
  pub found_none : 0 ≡ set_of 0 f
  unfolding set_of
  found_none = refl

  pub found_skips : (a b : ℕ) → a ≤ b → ((m : ℕ) → a ≤ m → m < b → f m ≡ false) → set_of b f ≡ set_of a f
  found_skips a b h out =
      nothing_between (λ n. set_of n f) a b h (λ c l k. set_of_suc c f ∙ ap (λ (b : Bool). cond b (with (set_of c f) c) (set_of c f)) (out c l k))

  pub found_more : (k m x y : ℕ) (b : Bool) → x ≡ set_of k f → set_of m f ≡ set_of k f → b ≡ f m → y ≡ cond b (with x m) x → y ≡ set_of (m + 1) f
  found_more k m x y b e same p q =
      q
      ∙ ap (λ (z : ℕ). cond b (with z m) z) (e ∙ sym same)
      ∙ ap (λ (b : Bool). cond b (with (set_of m f) m) (set_of m f)) p
      ∙ sym (set_of_suc m f)
      ∙ ap (λ (n : ℕ). set_of n f) (sym (add-one m))

-- a room with no list has none to send
pub not_listed : (S : List ℕ) (R : Rooms) (t m : ℕ) → has (listing_in (stations_in S) t) m ≡ false → goes (stations_in S) R t m ≡ false
not_listed S R t m e = sym (no_list (stations_in S) R t m (not_listing S m t e))

-- the rooms that were found are those whose lists go, and they have keys
module _ (X : Stations) (M : List ℕ) (t : ℕ) (h : HeldRooms M) where
  pub as_found : has (set_of 32 (goes X (rooms_in M) t)) ≡ goes X (rooms_in M) t
  as_found =
      fun_ext (λ m. by_lt m 32
      (λ l. has_set_of 32 (goes X (rooms_in M) t) m l)
      (λ l. set_of_beyond 32 (goes X (rooms_in M) t) m l ∙ none_there X M t m h (let few = h.few in omega arith)))

  pub found_keyed : KeyedRooms M (set_of 32 (goes X (rooms_in M) t))
  found_keyed m e =
      let low : m < 32 = member_below 32 (set_of 32 (goes X (rooms_in M) t)) m (set_of_lt 32 (goes X (rooms_in M) t)) e in
      let passes = set_of_member 32 (goes X (rooms_in M) t) m e in
      let here : has ((rooms_in M).waiting m) t ≡ true =
      and_left (has ((rooms_in M).waiting m) t) (ltb ((rooms_in M).number m) (X.expected t ((rooms_in M).initiator m)))
      (and_left (has ((rooms_in M).waiting m) t && ltb ((rooms_in M).number m) (X.expected t ((rooms_in M).initiator m))) (not (eqb (X.acks m t) 0) && hold_none X m t) passes) in
      let inside : m < room_count M = by_lt m (room_count M) (λ l. l) (λ l. clash (goes X (rooms_in M) t m) passes (sym (none_there X M t m h l))) in
      (low, omega arith, waits_keyed M t m h here)

-- THE LISTS, ONE AFTER THE OTHER

-- one more on the lines
pub pushed_more : (X : Stations) (R : Rooms) (t : ℕ) (l : List ℕ) (W W₁ W₂ : List ℕ) (m : ℕ) → PushedEach X R t l W W₁
    → Pushed W₁ W₂ (t * 16 + R.initiator m) (words_of 2 m (R.number m) (X.acks m t)) → PushedEach X R t (l ++ (m ∷ [])) W W₂
pushed_more X R t [] W W₁ W₂ m e p = (W₂, (subst (λ (w : List ℕ). Pushed w W₂ (t * 16 + R.initiator m) (words_of 2 m (R.number m) (X.acks m t))) e p, refl))
pushed_more X R t (k ∷ l) W W₁ W₂ m e p = (e.0, (e.1.0, pushed_more X R t l e.0 W₁ W₂ m e.1.1 p))

-- so many records more, and nothing else of the lines' own
pub record MoreOn (W W' : List ℕ) (n : ℕ) : Type 0 where
  pub formed : form W' ≡ true
  pub more : used W' ≡ used W + n
  pub room : capacity W' ≡ capacity W
  pub words : length W' ≡ length W

pub pushed_counts : (X : Stations) (R : Rooms) (t : ℕ) (l W W' : List ℕ) → form W ≡ true → PushedEach X R t l W W' → MoreOn W W' (length l)
pushed_counts X R t [] W W' formed e = subst (λ (Y : List ℕ). MoreOn W Y 0) (sym e) (record { formed = formed; more = omega arith; room = refl; words = refl })
pushed_counts X R t (m ∷ l) W W' formed e =
    let p = e.1.0 in
    let q = pushed_counts X R t l e.0 W' p.formed e.1.1 in
    record { formed = q.formed; more = (let a = p.more in let b = q.more in omega arith); room = q.room ∙ p.room; words = q.words ∙ p.words }

-- what is kept where a room is not picked
pub kept : (b p : Bool) (x y : ℕ) → p ≡ false → cond (b && p) x y ≡ y
kept b p x y e = rw (e, and-false b)

module _ (X : Stations) (t : ℕ) where
  pub emptied_none : (pick : ℕ → Bool) → ((m : ℕ) → pick m ≡ false) → X ≡ emptied X t pick
  emptied_none pick nothing =
      λ i. record {
        sent = X.sent;
        expected = X.expected;
        local = X.local;
        copy = λ m u. sym (kept (eqb u t) (pick m) (minus (X.copy m u) (X.acks m u)) (X.copy m u) (nothing m)) i;
        acks = λ m u. sym (kept (eqb u t) (pick m) 0 (X.acks m u) (nothing m)) i;
        queue = X.queue;
      }

  -- one room more
  module _ (pick pick' : ℕ → Bool) (m : ℕ) (off : pick m ≡ false) (on : pick' m ≡ true) (others : (k : ℕ) → (k ≡ m → ⊥) → pick' k ≡ pick k) where
    same_elsewhere : (k u x y : ℕ) → (k ≡ m → u ≡ t → ⊥) → cond (eqb u t && pick k) x y ≡ cond (eqb u t && pick' k) x y
    same_elsewhere k u x y h = by_test (eqb u t) (λ q. rw (q, others k (λ e. h e (eqb-true u t q)))) (λ q. rw q)

    abbrev was : Stations
    was = emptied X t pick

    copy_more : (k u : ℕ) → update2 was.copy m t (minus (was.copy m t) (was.acks m t)) k u ≡ (emptied X t pick').copy k u
    copy_more k u =
        on_update2 (λ (x : ℕ). x ≡ (emptied X t pick').copy k u) was.copy m t (minus (was.copy m t) (was.acks m t)) k u
        (λ p q. rw (p, q, eqb_self t, off, on))
        (λ h. same_elsewhere k u (minus (X.copy k u) (X.acks k u)) (X.copy k u) h)

    acks_more : (k u : ℕ) → update2 was.acks m t 0 k u ≡ (emptied X t pick').acks k u
    acks_more k u =
        on_update2 (λ (x : ℕ). x ≡ (emptied X t pick').acks k u) was.acks m t 0 k u
        (λ p q. rw (p, q, eqb_self t, on))
        (λ h. same_elsewhere k u 0 (X.acks k u) h)

    pub emptied_more : sent_from (emptied X t pick) m t ≡ emptied X t pick'
    emptied_more =
        λ i. record {
          sent = X.sent;
          expected = X.expected;
          local = X.local;
          copy = λ k u. copy_more k u i;
          acks = λ k u. acks_more k u i;
          queue = X.queue;
        }

-- of the rooms `among`, those `left` are to be sent yet; w lists have gone, from S and W to S' and W'
pub record Sending (S S' M W W' : List ℕ) (t among left w : ℕ) : Type 0 where
  pub gone : List ℕ
  pub order : ordered_rooms M (has among) ≡ gone ++ ordered_rooms M (has left)
  pub word : left < 2 ^ 64
  pub inside : (m : ℕ) → has left m ≡ true → has among m ≡ true
  pub stations : stations_in S' ≡ emptied (stations_in S) t (λ m. has among m && not (has left m))
  pub head : head_in S' ≡ head_in S
  pub words : length S' ≡ length S
  pub lines : PushedEach (stations_in S) (rooms_in M) t gone W W'
  pub count : w ≡ length gone

not_both : (b : Bool) → b && not b ≡ false
not_both true = refl
not_both false = refl

pub sending_none : (S M W : List ℕ) (t among : ℕ) → among < 2 ^ 64 → Sending S S M W W t among among 0
sending_none S M W t among small =
    record {
      gone = [];
      order = refl;
      word = small;
      inside = λ m e. e;
      stations = emptied_none (stations_in S) t (λ m. has among m && not (has among m)) (λ m. not_both (has among m));
      head = refl;
      words = refl;
      lines = refl;
      count = refl;
    }

-- the next one, m, is the first of those left
pub record Next (M : List ℕ) (left m : ℕ) : Type 0 where
  pub member : has left m ≡ true
  pub inside : m < 32
  pub there : HasRoom M m
  pub key : InKey ((rooms_in M).number m) ((rooms_in M).initiator m)
  pub order : ordered_rooms M (has left) ≡ m ∷ ordered_rooms M (has (without left m))
  pub less : without left m < left

module _ (S S₁ M W W₁ : List ℕ) (t among left w : ℕ) (keyed : KeyedRooms M among) (so : Sending S S₁ M W W₁ t among left w) where
  pub left_keyed : KeyedRooms M left
  left_keyed m e = keyed m (so.inside m e)

  -- no more than thirty-two
  pub few_gone : w + length (ordered_rooms M (has left)) ≤ 32
  few_gone =
      let a = in_order_few (tables_floor [] M) (has among) 32 in
      let b = ap (λ (l : List ℕ). length l) so.order ∙ length-append so.gone (ordered_rooms M (has left)) in
      let d = so.count in
      omega arith

  module _ (m : ℕ) {h : code.Option ℕ} (is_some : h ≡ Some m) (found : h ≡ room_code (first_among (tables_floor [] M) (has left) 32)) where
    pub next_is_lem : Next M left m
    next_is_lem =
        let F = tables_floor [] M in
        let is = first_in_order F (has left) 32 m (is_room (first_among F (has left) 32) m is_some found) in
        let k = left_keyed m is.1.0 in
        record {
          member = is.1.0;
          inside = is.0;
          there = k.1;
          key = k.2;
          order = is.1.1 ∙ ap (λ (l : List ℕ). m ∷ l) (same_picks F (without_room (has left) m) (has (without left m)) 32 (λ k l. swapped k));
          less = without_less 64 left m so.word is.1.0;
        }
      where
        swapped : (k : ℕ) → without_room (has left) m k ≡ has (without left m) k
        swapped k = by_eq m k (λ e. rw (e, has_without left k k)) (λ e. rw (has_without left m k, ne_eqb m k e, ne_eqb k m (λ z. e (sym z))))

    -- so there is room for its list
    pub next_fits : form W ≡ true → used W + length (ordered_rooms M (has among)) ≤ capacity W → (form W₁ ≡ true) × (used W₁ < capacity W₁)
    next_fits formed fits =
        let n = ap (λ (l : List ℕ). length l) next_is_lem.order in
        let a = ap (λ (l : List ℕ). length l) so.order ∙ length-append so.gone (ordered_rooms M (has left)) in
        let so_far = pushed_counts (stations_in S) (rooms_in M) t so.gone W W₁ formed so.lines in
        let d = so_far.more in
        let e = so_far.room in
        (so_far.formed, omega arith)

    -- and it goes
    pub sending_more : (S₂ W₂ : List ℕ) (s n left' : ℕ) → left' ≡ without left m → s ≡ (rooms_in M).initiator m → n ≡ (rooms_in M).number m → ListSent S₁ S₂ W₁ W₂ m s n t
        → Sending S S₂ M W W₂ t among left' (w + 1)
    sending_more S₂ W₂ s n left' el es en sent =
        rw el (record {
          gone = so.gone ++ (m ∷ []);
          order = so.order ∙ ap (λ (l : List ℕ). so.gone ++ l) next_is_lem.order ∙ sym (append_assoc so.gone (m ∷ []) (ordered_rooms M (has (without left m))));
          word = without_lt 64 left m so.word;
          inside = λ k e. so.inside k (and_left (has left k) (not (eqb m k)) (sym (has_without left m k) ∙ e));
          stations = sent.stations ∙ ap (λ (Y : Stations). sent_from Y m t) so.stations ∙ emptied_more (stations_in S) t pick pick' m off on others;
          head = sent.head ∙ so.head;
          words = sent.words ∙ so.words;
          lines = pushed_more (stations_in S) (rooms_in M) t so.gone W W₁ W₂ m so.lines pushed;
          count = (let a = so.count in let b = length-append so.gone (m ∷ []) in omega arith);
        })
      where
        pick : ℕ → Bool
        pick k = has among k && not (has left k)

        pick' : ℕ → Bool
        pick' k = has among k && not (has (without left m) k)

        off : pick m ≡ false
        off = rw next_is_lem.member (and-false (has among m))

        on : pick' m ≡ true
        on = rw (so.inside m next_is_lem.member, without_here left m)

        others : (k : ℕ) → (k ≡ m → ⊥) → pick' k ≡ pick k
        others k ne = ap (λ (b : Bool). has among k && not b) (without_other left m k (λ e. ne (sym e)))

        acks : (stations_in S₁).acks m t ≡ (stations_in S).acks m t
        acks = ap (λ (Y : Stations). Y.acks m t) so.stations ∙ kept (eqb t t) (pick m) 0 ((stations_in S).acks m t) off

        pushed : Pushed W₁ W₂ (t * 16 + (rooms_in M).initiator m) (words_of 2 m ((rooms_in M).number m) ((stations_in S).acks m t))
        pushed = rw (sym es, sym en, sym acks) sent.lines

-- none is left: all have gone
pub sending_all : (S S₁ M W W₁ : List ℕ) (t among left w : ℕ) → KeyedRooms M among → {h : code.Option ℕ} → h ≡ None → h ≡ room_code (first_among (tables_floor [] M) (has left) 32)
    → Sending S S₁ M W W₁ t among left w → ListsGone S S₁ M W W₁ t (has among) w
sending_all S S₁ M W W₁ t among left w keyed nobody found so =
    let F = tables_floor [] M in
    let first : IsFirst F (has left) 32 none = subst (IsFirst F (has left) 32) (is_none (first_among F (has left) 32) nobody found) (first_is F (has left) 32) in
    let nothing : (k : ℕ) → has left k ≡ false = λ k. by_test (has left k) (λ e. clash (has left k) e (first k (keyed k (so.inside k e)).0)) (λ e. e) in
    let all : ordered_rooms M (has among) ≡ so.gone = so.order ∙ ap (λ (l : List ℕ). so.gone ++ l) (in_order_none F (has left) 32 (λ k l. nothing k)) ∙ append-nil so.gone in
    record {
      stations = so.stations ∙ ap (emptied (stations_in S) t) (fun_ext (λ k. ap (λ (b : Bool). has among k && not b) (nothing k) ∙ and-true (has among k)));
      head = so.head;
      words = so.words;
      lines = subst (λ (l : List ℕ). PushedEach (stations_in S) (rooms_in M) t l W W₁) (sym all) so.lines;
      count = so.count ∙ ap (λ (l : List ℕ). length l) (sym all);
    }

-- OF ALL THAT GO: x has the rooms that were found
module _ (S M : List ℕ) (t x : ℕ) (h : HeldRooms M) (found : x ≡ set_of 32 (goes (stations_in S) (rooms_in M) t)) where
  same_pick : has x ≡ goes (stations_in S) (rooms_in M) t
  same_pick = ap has found ∙ as_found (stations_in S) M t h

  pub all_keyed : KeyedRooms M x
  all_keyed = subst (KeyedRooms M) (sym found) (found_keyed (stations_in S) M t h)

  pub as_many : length (ordered_rooms M (has x)) ≡ length (ordered_rooms M (goes (stations_in S) (rooms_in M) t))
  as_many = ap (λ (pick : ℕ → Bool). length (ordered_rooms M pick)) same_pick

  pub all_forwarded : (S' W W' : List ℕ) (w : ℕ) → ListsGone S S' M W W' t (has x) w → ListsGone S S' M W W' t (goes (stations_in S) (rooms_in M) t) w
  all_forwarded S' W W' w g = subst (λ (pick : ℕ → Bool). ListsGone S S' M W W' t pick w) same_pick g

-- and what they leave on the lines
pub gone_counts : (S S' M W W' : List ℕ) (t : ℕ) (pick : ℕ → Bool) (w : ℕ) → form W ≡ true → ListsGone S S' M W W' t pick w → MoreOn W W' w
gone_counts S S' M W W' t pick w formed g = subst (MoreOn W W') (sym g.count) (pushed_counts (stations_in S) (rooms_in M) t (ordered_rooms M pick) W W' formed g.lines)
