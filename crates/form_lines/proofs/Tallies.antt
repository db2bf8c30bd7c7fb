-- WHAT IS MET ONCE: hand-offs, deletes and acknowledgements, each counted by a mask.
use mathlib.Core.Path.{refl, sym, ap, ◌∙◌, ◌≡◌}
use mathlib.Core.Bool.{Bool, true, false, ◌&&◌, not}
use mathlib.Core.List.{List}
use Prim.Native.Nat.{ℕ, ◌+◌, ◌^◌, ◌≤◌, ◌<◌}
use native.Mathlib.Omega.{arith}
use lib.Dec.{eqb, ltb}
use lib.ListN.{set, length, length-set}
use lib.Seq.{get_or-set_same, get_or-set_other}
use borrow.Author.Tests.{eqb-true, eqb-false, eq-eqb, ltb-true, not-true}
use Rattle.protocol.specs.CartSets.{has, union, with}
use Rattle.protocol.specs.Floor.{Carts, Record}
use Rattle.protocol.specs.Form.{bit, is_delete_of, acks_to}
use Rattle.protocol.proofs.Tests.{by_test, clash, eqb_self, same_test, and_left, and_right, and_intro, every_all}
use Rattle.protocol.proofs.SetLaws.{has_union, has_with}
use Rattle.protocol.proofs.LineFacts.{is_handoff_of}
use Rattle.sets.specs.Masks.{disjoint}
use Rattle.sets.proofs.MaskLaws.{disjoint_has}
use Rattle.messages.specs.View.{Rooms}
use Rattle.view.specs.Records.{is_in}
use Rattle.form_lines.specs.Said.{Said, a_multicast, an_ack_list, a_delete, a_deregister, a_register, unknown}
use Rattle.form_lines.specs.Pass.{seen_in, is_taken, in_room, right}
use Rattle.form_lines.proofs.Split.{fresh_gone, note_gone, fresh_found, note_found, fresh_seen, note_seen, Right}
use Rattle.form_lines.proofs.Reading.{read}

-- MASKS

with_tally : (x d c : ℕ) → not (has x d) ≡ true → bit (has (with x d) c) ≡ bit (has x c) + bit (eqb d c)
with_tally x d c h =
    rw (has_with x d c)
    (by_test (eqb d c)
    (λ e. let q : has x c ≡ false = rw (eqb-true d c e) at (not-true (has x d) h) in rw (e, q) refl)
    (λ e. by_test (has x c) (λ q. rw (e, q) refl) (λ q. rw (e, q) refl)))

with_once : (x d : ℕ) → bit (has x d) + bit (eqb d d) ≤ 1 → not (has x d) ≡ true
with_once x d h = by_test (has x d) (λ e. absurd (let z : 1 + 1 ≤ 1 = rw (e, eqb_self d) at h in omega arith)) (λ e. rw e refl)

pub union_tally : (x y c : ℕ) → c < 64 → disjoint 64 y x ≡ true → bit (has (union x y) c) ≡ bit (has x c) + bit (has y c)
union_tally x y c l h =
    rw (has_union x y c)
    (by_test (has y c)
    (λ e. rw (e, disjoint_has 64 y x h c l e) refl)
    (λ e. by_test (has x c) (λ q. rw (e, q) refl) (λ q. rw (e, q) refl)))

pub union_once : (x y : ℕ) → ((c : ℕ) → c < 64 → bit (has x c) + bit (has y c) ≤ 1) → disjoint 64 y x ≡ true
unfolding disjoint
union_once x y h =
    every_all 64 (λ c. not (has y c && has x c))
    (λ c l. by_test (has y c)
    (λ e. by_test (has x c) (λ q. absurd (let z : 1 + 1 ≤ 1 = rw (q, e) at (h c l) in omega arith)) (λ q. rw (e, q) refl))
    (λ e. rw e refl))

-- the room has a held message
pub record Taken (R : Rooms) (m : ℕ) : Type 0 where
  pub slot : m < 32
  pub held : is_taken R m ≡ true

-- a room for an acknowledgement, and a cart
pub record Spot (R : Rooms) : Type 0 where
  pub room : ℕ
  pub cart : ℕ
  pub taken : Taken R room
  pub below : cart < 64

-- no two rooms have the same message
abbrev pub OneRoom : Rooms → Type 0
OneRoom R = (m k : ℕ) → Taken R m → Taken R k → R.initiator m ≡ R.initiator k → R.number m ≡ R.number k → m ≡ k

-- a message in its room
pub record InRoom (R : Rooms) (s x m : ℕ) : Type 0 where
  pub taken : Taken R m
  pub initiator : R.initiator m ≡ s
  pub number : R.number m ≡ x

module _ (n k : ℕ) (C : Carts) (R : Rooms) where
  pub in_room_lem : (s x m : ℕ) → in_room R s x m ≡ true → InRoom R s x m
  in_room_lem s x m e =
      let a = eqb (R.initiator m) s in
      let b = eqb (R.number m) x in
      let z = and_right (ltb m 32) (is_in R s x m) e in
      let y = and_right (is_taken R m) (a && b) z in
      record {
        taken = record { slot = ltb-true m 32 (and_left (ltb m 32) (is_in R s x m) e); held = and_left (is_taken R m) (a && b) z };
        initiator = eqb-true (R.initiator m) s (and_left a b y);
        number = eqb-true (R.number m) x (and_right a b y);
      }

  module _ (one : OneRoom R) where
    -- it is the room that has the message
    same_room : (s x m h : ℕ) → in_room R s x m ≡ true → Taken R h → eqb m h ≡ (eqb s (R.initiator h) && eqb x (R.number h))
    same_room s x m h e t =
        let g = in_room_lem s x m e in
        let a = eqb s (R.initiator h) in
        let b = eqb x (R.number h) in
        same_test (eqb m h) (a && b)
        (λ q. let p = eqb-true m h q in
        and_intro a b (eq-eqb s (R.initiator h) (sym g.initiator ∙ ap R.initiator p)) (eq-eqb x (R.number h) (sym g.number ∙ ap R.number p)))
        (λ q. eq-eqb m h (one m h g.taken t (g.initiator ∙ eqb-true s (R.initiator h) (and_left a b q)) (g.number ∙ eqb-true x (R.number h) (and_right a b q))))

    module _ (carried : ℕ → ℕ → ℕ) (i j : ℕ) where
      -- HAND-OFFS
      pub found_yes : (x : ℕ) (r : Said) → Unit {0} → Right n k C R carried i j r → fresh_found x r ≡ true → (c : ℕ) → bit (has (note_found x r) c) ≡ bit (has x c) + bit (is_handoff_of c (read carried r))
      unfolding right
      found_yes x (a_multicast m y) u g h c = omega arith
      found_yes x (an_ack_list m y z) u g h c = omega arith
      found_yes x (a_delete m y) u g h c = omega arith
      found_yes x (a_deregister d) u g h c = with_tally x d c h
      found_yes x (a_register d) u g h c = with_tally x d c h
      found_yes x (unknown d) u g h c = clash false g.1 refl

      pub found_no : (x : ℕ) (r : Said) → Unit {0} → Right n k C R carried i j r → ((c : ℕ) → bit (has x c) + bit (is_handoff_of c (read carried r)) ≤ 1) → fresh_found x r ≡ true
      found_no x (a_multicast m y) u g h = refl
      found_no x (an_ack_list m y z) u g h = refl
      found_no x (a_delete m y) u g h = refl
      found_no x (a_deregister d) u g h = with_once x d (h d)
      found_no x (a_register d) u g h = with_once x d (h d)
      found_no x (unknown d) u g h = refl

      -- DELETES
      abbrev pub deletes_at : (m : ℕ) × Taken R m → Record → Bool
      deletes_at a r = eqb i (R.initiator a.0) && is_delete_of (R.number a.0) r

      no_tally : (b c : Bool) → bit b ≡ bit b + bit (c && false)
      no_tally b true = omega arith
      no_tally b false = omega arith

      pub gone_yes : (x : ℕ) (r : Said) → Unit {0} → Right n k C R carried i j r → fresh_gone x r ≡ true → (a : (m : ℕ) × Taken R m) → bit (has (note_gone x r) a.0) ≡ bit (has x a.0) + bit (deletes_at a (read carried r))
      unfolding right
      gone_yes x (a_multicast m y) u g h a = no_tally (has x a.0) (eqb i (R.initiator a.0))
      gone_yes x (an_ack_list m y z) u g h a = no_tally (has x a.0) (eqb i (R.initiator a.0))
      gone_yes x (a_delete m y) u g h a =
          let w = same_room i y m a.0 (and_left (in_room R i y m) (has (R.waiting m) j && eqb (R.acked m) (R.named m)) g.1) a.1 in
          with_tally x m a.0 h ∙ ap (λ (b : Bool). bit (has x a.0) + bit b) w
      gone_yes x (a_deregister d) u g h a = no_tally (has x a.0) (eqb i (R.initiator a.0))
      gone_yes x (a_register d) u g h a = no_tally (has x a.0) (eqb i (R.initiator a.0))
      gone_yes x (unknown d) u g h a = no_tally (has x a.0) (eqb i (R.initiator a.0))

      pub gone_no : (x : ℕ) (r : Said) → Unit {0} → Right n k C R carried i j r → ((a : (m : ℕ) × Taken R m) → bit (has x a.0) + bit (deletes_at a (read carried r)) ≤ 1) → fresh_gone x r ≡ true
      unfolding right
      gone_no x (a_multicast m y) u g h = refl
      gone_no x (an_ack_list m y z) u g h = refl
      gone_no x (a_delete m y) u g h =
          let e = and_left (in_room R i y m) (has (R.waiting m) j && eqb (R.acked m) (R.named m)) g.1 in
          let t = (in_room_lem i y m e).taken in
          let w = same_room i y m m e t in
          with_once x m (let z = h (m, t) in rw (← w) at z)
      gone_no x (a_deregister d) u g h = refl
      gone_no x (a_register d) u g h = refl
      gone_no x (unknown d) u g h = refl

      -- ACKNOWLEDGEMENTS
      abbrev pub seen_at : List ℕ → Spot R → ℕ
      seen_at x a = bit (has (seen_in x a.room) a.cart)

      abbrev pub acks_at : Spot R → Record → Bool
      acks_at a r = acks_to (R.initiator a.room) (R.number a.room) a.cart i j r

      abbrev pub Rows : List ℕ → Type 0
      Rows x = length x ≡ 32

      pub seen_kept : (x : List ℕ) (r : Said) → Rows x → Rows (note_seen x r)
      seen_kept x (a_multicast m y) l = l
      seen_kept x (an_ack_list m y z) l = length-set x m (union (seen_in x m) z) ∙ l
      seen_kept x (a_delete m y) l = l
      seen_kept x (a_deregister d) l = l
      seen_kept x (a_register d) l = l
      seen_kept x (unknown d) l = l

      three_true : (a b d : Bool) → a && b ≡ true → a && (b && d) ≡ d
      three_true a b d e = rw (and_left a b e, and_right a b e) refl

      three_false : (a b d : Bool) → a && b ≡ false → a && (b && d) ≡ false
      three_false true b d e = rw e refl
      three_false false b d e = refl

      pub seen_yes : (x : List ℕ) (r : Said) → Rows x → Right n k C R carried i j r → fresh_seen x r ≡ true → (a : Spot R) → seen_at (note_seen x r) a ≡ seen_at x a + bit (acks_at a (read carried r))
      unfolding right
      seen_yes x (a_multicast m y) l g h a = no_tally (has (seen_in x a.room) a.cart) (eqb j (R.initiator a.room))
      seen_yes x (an_ack_list m y z) l g h a =
          let e = and_left (in_room R j y m) (ltb 0 z && ltb z (2 ^ k)) g.1 in
          let t = (in_room_lem j y m e).taken in
          let w = same_room j y m a.room e a.taken in
          let new = union (seen_in x m) z in
          let s = eqb j (R.initiator a.room) in
          let v = eqb y (R.number a.room) in
          by_test (eqb m a.room)
          (λ q. let p = eqb-true m a.room q in
          let here : seen_in (set x m new) a.room ≡ new = ap (λ (o : ℕ). seen_in (set x m new) o) (sym p) ∙ get_or-set_same x m new 0 (let f = t.slot in omega arith) in
          rw (three_true s v (has z a.cart) (sym w ∙ q))
          (ap (λ (o : ℕ). bit (has o a.cart)) here ∙ union_tally (seen_in x m) z a.cart a.below h ∙ ap (λ (o : ℕ). bit (has (seen_in x o) a.cart) + bit (has z a.cart)) p))
          (λ q. rw (three_false s v (has z a.cart) (sym w ∙ q))
          (ap (λ (o : ℕ). bit (has o a.cart)) (get_or-set_other x m a.room new 0 (λ o. eqb-false m a.room q (sym o))) ∙ (let f : seen_at x a ≡ seen_at x a + 0 = omega arith in f)))
      seen_yes x (a_delete m y) l g h a = no_tally (has (seen_in x a.room) a.cart) (eqb j (R.initiator a.room))
      seen_yes x (a_deregister d) l g h a = no_tally (has (seen_in x a.room) a.cart) (eqb j (R.initiator a.room))
      seen_yes x (a_register d) l g h a = no_tally (has (seen_in x a.room) a.cart) (eqb j (R.initiator a.room))
      seen_yes x (unknown d) l g h a = no_tally (has (seen_in x a.room) a.cart) (eqb j (R.initiator a.room))

      pub seen_no : (x : List ℕ) (r : Said) → Rows x → Right n k C R carried i j r → ((a : Spot R) → seen_at x a + bit (acks_at a (read carried r)) ≤ 1) → fresh_seen x r ≡ true
      unfolding right
      seen_no x (a_multicast m y) l g h = refl
      seen_no x (an_ack_list m y z) l g h =
          let e = and_left (in_room R j y m) (ltb 0 z && ltb z (2 ^ k)) g.1 in
          let t = (in_room_lem j y m e).taken in
          let w = same_room j y m m e t in
          union_once (seen_in x m) z
          (λ c b. let o = h (record { room = m; cart = c; taken = t; below = b }) in
          rw (three_true (eqb j (R.initiator m)) (eqb y (R.number m)) (has z c) (sym w ∙ eqb_self m)) at o)
      seen_no x (a_delete m y) l g h = refl
      seen_no x (a_deregister d) l g h = refl
      seen_no x (a_register d) l g h = refl
      seen_no x (unknown d) l g h = refl
