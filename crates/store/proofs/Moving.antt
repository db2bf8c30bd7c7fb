-- MOVING TOGETHER: the texts are moved down one after the other, from the lowest on, and every text stays what it was.
use mathlib.Core.Path.{◌≡◌, refl, sym, ap, fun_ext, ◌∙◌}
use mathlib.Core.Bool.{Bool, true, false, cond, ◌&&◌}
use mathlib.Core.List.{List}
use Prim.Native.Nat.{ℕ, ◌+◌, ◌-◌, ◌≤◌, ◌<◌}
use native.Mathlib.Omega.{arith}
use lib.Dec.{ltb}
use lib.ListN.{length, take, drop, length-drop}
use lib.Seq.{paste, length-paste, drop-paste}
use borrow.Author.Tests.{ltb-true, lt-ltb, le-ltb, ne_eqb}
use Rattle.protocol.specs.Folds.{update}
use Rattle.protocol.specs.Claims.{True}
use Rattle.protocol.proofs.Tests.{by_test, by_lt, by_eq, clash, same_test, eqb_self, and_second_false}
use Rattle.protocol.proofs.Counting.{sum_bump}
use Rattle.messages.specs.View.{Rooms, with_offset, with_offsets}
use Rattle.messages.proofs.TextLaws.{behind}
use Rattle.store.specs.Texts.{is_stored, text_of}
use Rattle.store.specs.Layout.{layout_rule, taken_by, used_in, used_before, together}
use Rattle.std.specs.Prelude.{None}
use Rattle.store.specs.Moved.{lowest_from}
use Rattle.store.proofs.Looks.{stored_is_long}
use Rattle.store.proofs.Octets.{pasted_here, before_pasted}
use Rattle.store.proofs.Taken.{taken_none, same_used, used_nothing, used_all, used_next}
use Rattle.store.proofs.Apart.{by_apart}
use Rattle.store.proofs.TextLaws.{no_text, short_text, long_text, by_text}
use Rattle.store.proofs.Lowest.{LowestAt, lowest_none}

-- THE NEXT TEXT, of room m: none begins between `from` and its own beginning
module _ (h : ℕ) (R : Rooms) (right : True (layout_rule h R)) where
  module _ (from : ℕ) (m : ℕ) (A : LowestAt h R from m) where
    -- another begins before its end only if it begins before `from`
    before_end : (k : ℕ) → k < h → is_stored R k ≡ true → (k ≡ m → ⊥) → ltb (R.offset k) (R.offset m + R.length m) ≡ ltb (R.offset k) from
    before_end k lk sk ne =
        same_test (ltb (R.offset k) (R.offset m + R.length m)) (ltb (R.offset k) from)
        (λ e. lt-ltb (R.offset k) from (by_lt (R.offset k) from (λ l. l)
        (λ g. by_apart h R right k m lk A.room sk A.stored ne
        (λ l. absurd (omega (arith, A.least k lk sk g, stored_is_long R k sk)))
        (λ l. absurd (omega (arith, ltb-true (R.offset k) (R.offset m + R.length m) e))))))
        (λ e. lt-ltb (R.offset k) (R.offset m + R.length m) (omega (arith, ltb-true (R.offset k) from e, A.there)))

    used_there : used_before h R (R.offset m) ≡ used_before h R from
    used_there =
        same_used h R (R.offset m) from (λ k lk sk. same_test (ltb (R.offset k) (R.offset m)) (ltb (R.offset k) from)
        (λ e. lt-ltb (R.offset k) from (by_lt (R.offset k) from (λ l. l) (λ g. absurd (omega (arith, A.least k lk sk g, ltb-true (R.offset k) (R.offset m) e)))))
        (λ e. lt-ltb (R.offset k) (R.offset m) (omega (arith, ltb-true (R.offset k) from e, A.there))))

    used_on : used_before h R (R.offset m + R.length m) ≡ R.length m + used_before h R from
    used_on =
        sum_bump h (λ k. cond (ltb (R.offset k) (R.offset m + R.length m)) (taken_by R k) 0) (λ k. cond (ltb (R.offset k) from) (taken_by R k) 0) m (R.length m) A.room
        (λ k lk ne. by_test (is_stored R k)
        (λ s. ap (λ (b : Bool). cond b (taken_by R k) 0) (before_end k lk s ne))
        (λ n. taken_none R k (ltb (R.offset k) (R.offset m + R.length m)) n ∙ sym (taken_none R k (ltb (R.offset k) from) n)))
        (rw (lt-ltb (R.offset m) (R.offset m + R.length m) (omega (arith, stored_is_long R m A.stored)), le-ltb (R.offset m) from A.there, A.stored) (omega arith))

-- THE TEXTS THAT BEGIN BEFORE x ARE MOVED, the others not yet
abbrev pub partly : ℕ → Rooms → ℕ → Rooms
partly h R x = with_offsets R (λ m. cond (is_stored R m && ltb (R.offset m) x) (used_before h R (R.offset m)) (R.offset m))

module _ (h : ℕ) (R : Rooms) (S : List ℕ) where
  -- the rooms were R and are R', the store was S and is S'; the texts that began before `from` are moved, and end at `to`
  pub record Progress (from to : ℕ) (R' : Rooms) (S' : List ℕ) : Type 0 where
    pub rooms : R' ≡ partly h R from
    pub end : to ≡ used_before h R from
    pub down : to ≤ from
    -- a text that was moved is what it was
    pub moved : (k : ℕ) → k < h → is_stored R k ≡ true → R.offset k < from
        → take (R.length k) (drop (used_before h R (R.offset k)) S') ≡ take (R.length k) (drop (R.offset k) S)
    -- behind them nothing was written
    pub rest : drop to S' ≡ drop to S
    pub octets : length S' ≡ length S

  pub nothing_moved : Progress 0 0 R S
  nothing_moved =
      record {
        rooms = ap (with_offsets R) (fun_ext (λ k. sym (ap (λ (b : Bool). cond b (used_before h R (R.offset k)) (R.offset k))
            (and_second_false (is_stored R k) (ltb (R.offset k) 0) (le-ltb (R.offset k) 0 (omega arith))))));
        end = sym (used_nothing h R);
        down = omega arith;
        moved = λ k l s z. absurd (omega arith);
        rest = refl;
        octets = refl;
      }

module _ (h : ℕ) (R : Rooms) (S : List ℕ) (right : True (layout_rule h R)) (full : length S ≡ 4096) (beyond : (k : ℕ) → h ≤ k → is_stored R k ≡ false)
    (from to : ℕ) (R' : Rooms) (S' : List ℕ) (P : Progress h R S from to R' S') where
  -- what is in the store now, was, and its length is the same
  stored_same : (k : ℕ) → is_stored R' k ≡ is_stored R k
  stored_same k = ap (λ (X : Rooms). is_stored X k) P.rooms

  pub length_same : (k : ℕ) → R'.length k ≡ R.length k
  length_same k = ap (λ (X : Rooms). X.length k) P.rooms

  -- a text that was moved ends at or before `to`
  moved_before : (k : ℕ) → k < h → is_stored R k ≡ true → R.offset k < from → used_before h R (R.offset k) + R.length k ≤ to
  moved_before k lk s l = omega (arith, used_next h R k from lk s l, P.end)

  offset_moved : (k : ℕ) → is_stored R k ≡ true → R.offset k < from → R'.offset k ≡ used_before h R (R.offset k)
  offset_moved k s l = ap (λ (X : Rooms). X.offset k) P.rooms ∙ rw (s, lt-ltb (R.offset k) from l)

  offset_kept : (k : ℕ) → from ≤ R.offset k → R'.offset k ≡ R.offset k
  offset_kept k l =
      ap (λ (X : Rooms). X.offset k) P.rooms
      ∙ ap (λ (b : Bool). cond b (used_before h R (R.offset k)) (R.offset k)) (and_second_false (is_stored R k) (ltb (R.offset k) from) (le-ltb (R.offset k) from l))

  -- a text that now lies at or behind `to` was not moved
  not_moved : (k : ℕ) → k < h → is_stored R k ≡ true → to ≤ R'.offset k → from ≤ R.offset k
  not_moved k lk s l =
      by_lt (R.offset k) from
      (λ z. absurd (omega (arith, offset_moved k s z, moved_before k lk s z, stored_is_long R k s)))
      (λ z. z)

  -- THE NEXT TEXT, of room m
  module _ (m : ℕ) (B : LowestAt h R' to m) where
    pub lowest_was : LowestAt h R from m
    lowest_was =
        let s = sym (stored_same m) ∙ B.stored in
        let there = not_moved m B.room s B.there in
        record {
          room = B.room;
          stored = s;
          there = there;
          least = λ k lk sk g. let x = offset_kept k g in omega (arith, offset_kept m there, x, B.least k lk (stored_same k ∙ sk) (omega (arith, P.down)));
        }

    pub next_offset : R'.offset m ≡ R.offset m
    next_offset = offset_kept m lowest_was.there

    rooms_on : with_offset (partly h R from) m to ≡ partly h R (R.offset m + R.length m)
    rooms_on = ap (with_offsets R) (fun_ext (λ k. by_eq k m here (there k)))
      where
        A : LowestAt h R from m
        A = lowest_was

        here : {k : ℕ} → k ≡ m → update (partly h R from).offset m to k ≡ (partly h R (R.offset m + R.length m)).offset k
        here {k} e =
            rw (e, eqb_self m, A.stored, lt-ltb (R.offset m) (R.offset m + R.length m) (omega (arith, stored_is_long R m A.stored)))
            (P.end ∙ sym (used_there h R right from m A))

        there : (k : ℕ) → (k ≡ m → ⊥) → update (partly h R from).offset m to k ≡ (partly h R (R.offset m + R.length m)).offset k
        there k ne =
            rw (ne_eqb k m ne)
            (ap (λ (b : Bool). cond b (used_before h R (R.offset k)) (R.offset k))
            (by_lt k h
            (λ l. by_test (is_stored R k) (λ s. ap (λ (b : Bool). is_stored R k && b) (sym (before_end h R right from m A k l s ne))) (λ n. rw n))
            (λ l. rw (beyond k l))))

    -- it is moved: n octets from its offset on
    module _ (R'' : Rooms) (S'' : List ℕ) (e : R'' ≡ with_offset R' m to) (d : S'' ≡ paste S' to (drop (R.offset m) S') (R.length m)) where
      A : LowestAt h R from m
      A = lowest_was

      fits : R.offset m + R.length m ≤ length S'
      fits = omega (arith, P.octets, full, (right m A.room A.stored).0.1)

      room_there : to + R.length m ≤ length S'
      room_there = let z = fits in omega (arith, P.down, A.there)

      enough : R.length m ≤ length (drop (R.offset m) S')
      enough = let z = fits in simp length-drop (omega arith)

      -- behind `to` the store is what it was
      same_behind : (b : ℕ) → to ≤ b → drop b S' ≡ drop b S
      same_behind b l = behind S' to b l ∙ ap (drop (b - to)) P.rest ∙ sym (behind S to b l)

      its_text : take (R.length m) (drop to S'') ≡ take (R.length m) (drop (R.offset m) S)
      its_text =
          ap (λ (l : List ℕ). take (R.length m) (drop to l)) d
          ∙ pasted_here S' (drop (R.offset m) S') to (R.length m) room_there enough
          ∙ ap (take (R.length m)) (same_behind (R.offset m) (omega (arith, P.down, A.there)))

      begins_so : (k : ℕ) → k < h → is_stored R k ≡ true → (k ≡ m → ⊥) → R.offset k < R.offset m + R.length m → R.offset k < from
      begins_so k lk s ne l = ltb-true (R.offset k) from (sym (before_end h R right from m A k lk s ne) ∙ lt-ltb (R.offset k) (R.offset m + R.length m) l)

      pub text_moved : Progress h R S (R.offset m + R.length m) (to + R.length m) R'' S''
      text_moved =
          record {
            rooms = e ∙ ap (λ (X : Rooms). with_offset X m to) P.rooms ∙ rooms_on;
            end = omega (arith, used_on h R right from m A, P.end);
            down = omega (arith, P.down, A.there);
            moved = λ k lk s l. by_eq k m
                (λ q. rw q (ap (λ (x : ℕ). take (R.length m) (drop x S'')) (used_there h R right from m A ∙ sym P.end) ∙ its_text))
                (λ ne. let z = begins_so k lk s ne l in
                ap (λ (l : List ℕ). take (R.length k) (drop (used_before h R (R.offset k)) l)) d
                ∙ before_pasted S' (drop (R.offset m) S') to (R.length m) room_there enough (used_before h R (R.offset k)) (R.length k) (moved_before k lk s z)
                ∙ P.moved k lk s z);
            rest =
                ap (drop (to + R.length m)) d
                ∙ drop-paste S' to (drop (R.offset m) S') (R.length m) (let z = room_there in omega arith) enough
                ∙ same_behind (to + R.length m) (omega arith);
            octets = ap length d ∙ length-paste S' to (drop (R.offset m) S') (R.length m) room_there enough ∙ P.octets;
          }

  -- NO TEXT IS LEFT: all are moved together
  module _ (none : None ≡ lowest_from h R' to) where
    all_before : (k : ℕ) → k < h → is_stored R k ≡ true → R.offset k < from
    all_before k lk s =
        by_lt (R.offset k) from (λ l. l)
        (λ g. absurd (let z = offset_kept k g in omega (arith, P.down, lowest_none h R' to none k lk (stored_same k ∙ s) (omega (arith, (right k lk s).0.1, stored_is_long R k s)))))

    pub all_used : to ≡ used_in h R
    all_used = P.end ∙ used_all h R from all_before

    pub rooms_together : R' ≡ together h R
    rooms_together =
        P.rooms ∙ ap (with_offsets R) (fun_ext (λ k. ap (λ (b : Bool). cond b (used_before h R (R.offset k)) (R.offset k)) (was k)))
      where
        was : (k : ℕ) → (is_stored R k && ltb (R.offset k) from) ≡ is_stored R k
        was k =
            by_lt k h
            (λ l. by_test (is_stored R k) (λ s. rw (s, lt-ltb (R.offset k) from (all_before k l s))) (λ n. rw n))
            (λ l. rw (beyond k l))

    pub texts_same : (texts : List ℕ) (k : ℕ) → text_of texts S' R' k ≡ text_of texts S R k
    texts_same texts k =
        ap (λ (X : Rooms). text_of texts S' X k) rooms_together
        ∙ by_text R k
        (λ free. no_text texts S' (together h R) k free ∙ sym (no_text texts S R k free))
        (λ held short. short_text texts S' (together h R) k held short ∙ sym (short_text texts S R k held short))
        (λ s. by_lt k h
        (λ l. long_text texts S' (together h R) k s ∙ rw s (P.moved k l s (all_before k l s)) ∙ sym (long_text texts S R k s))
        (λ l. clash (is_stored R k) s (beyond k l)))
