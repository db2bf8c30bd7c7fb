-- The first of several rooms in queue order, by the keys of their messages.
use mathlib.Core.Path.{◌≡◌, refl, sym, ap, ◌∙◌}
use mathlib.Core.Bool.{Bool, true, false, cond, not}
use mathlib.Core.Option.{Option, none, some}
use Prim.Native.Nat.{ℕ, zero, suc, ◌+◌, ◌*◌, ◌^◌, ◌<◌, ◌≤◌}
use native.Mathlib.Numerals.{add-one}
use native.Mathlib.Omega.{arith}
use lib.Dec.{eqb, ltb}
use lib.Pow.{pow-add}
use borrow.Author.Tests.{lt-ltb, le-ltb, eq-eqb, ne_eqb, eqb-false, not-true}
use Rattle.protocol.specs.Floor.{Floor}
use Rattle.protocol.specs.Wireless.{stands_before}
use Rattle.protocol.proofs.Tests.{by_lt, by_eq, by_test, on_cond}
use Rattle.queue.specs.declared.Best.{Best}
use Rattle.queue.specs.Rooms.{room_word, room_at}
use Rattle.queue.specs.Keys.{InKey, key_of, Keyed, has_entry, first_with, first_among, first_of, best_with}
use Rattle.queue.proofs.Codes.{word_says}
use Rattle.queue.proofs.HeadLaws.{first_out, first_below}

-- A KEY HOLDS A NUMBER: one of w bits, beside the 4 of its initiator
pub key_of_width : (w number initiator : ℕ) → number < 2 ^ w → initiator < 16 → key_of number initiator < 2 ^ (w + 4)
key_of_width w number initiator n s =
    let e : 2 ^ (w + 4) ≡ 2 ^ w * 16 = pow-add 2 w 4 in
    omega arith

-- 36 bits for the floor's, 20 for the kit's
pub floor_key : (number initiator : ℕ) → InKey number initiator → key_of number initiator < 2 ^ 36
floor_key number initiator k = key_of_width 32 number initiator k.0 k.1

pub kit_key : (number initiator : ℕ) → number < 65536 → initiator < 16 → key_of number initiator < 2 ^ 20
kit_key number initiator n s = key_of_width 16 number initiator n s

-- OF TWO ROOMS, the one with the smaller key
module _ (best : Best) (m key h : ℕ) where
  pub goes_first : key < best.key → h ≡ m → ◌≡◌ {A = Best} (record { head = h; key = key }) (first_of best m key)
  goes_first l e = rw (lt-ltb key best.key l, e)

  pub stays_first : best.key ≤ key → h ≡ best.head → ◌≡◌ {A = Best} (record { head = h; key = best.key }) (first_of best m key)
  stays_first l e = rw (le-ltb key best.key l, e)

-- a room that is picked
pub picked : (F : Floor) (pick : ℕ → Bool) (m : ℕ) (best : Best) (key : ℕ) (r : Best) → pick m ≡ true → key ≡ key_of (F.number m) (F.initiator m) → r ≡ first_of best m key → r ≡ best_with F pick m best
picked F pick m best key r e k f = rw (e, sym k) f

-- ROOM BY ROOM, in a queue
module _ (F : Floor) (t m : ℕ) (best : Best) where
  pub empty_entry : (q : ℕ) → q ≡ F.queue m t → q ≡ 0 → best ≡ best_with F (has_entry F t) m best
  empty_entry q e z = rw (eq-eqb (F.queue m t) 0 (sym e ∙ z))

  pub looked_at : (q key : ℕ) (r : Best) → q ≡ F.queue m t → (q ≡ 0 → ⊥) → key ≡ key_of (F.number m) (F.initiator m) → r ≡ first_of best m key → r ≡ best_with F (has_entry F t) m best
  looked_at q key r e d k f = picked F (has_entry F t) m best key r (ap not (ne_eqb (F.queue m t) 0 (λ z. d (e ∙ z)))) k f

  -- what has an entry has a key
  pub entry_keyed : Keyed F t → m < 32 → has_entry F t m ≡ true → InKey (F.number m) (F.initiator m)
  entry_keyed keyed l e = keyed m l (eqb-false (F.queue m t) 0 (not-true (eqb (F.queue m t) 0) e))

module _ (F : Floor) where
  -- the message in room m has a key, and which
  abbrev HasKey : ℕ → Type 0
  HasKey m = InKey (F.number m) (F.initiator m)

  abbrev key_in : ℕ → ℕ
  key_in m = key_of (F.number m) (F.initiator m)

  -- the order of the keys is that of the queue
  key_order : (m k : ℕ) → HasKey m → HasKey k → ltb (key_in m) (key_in k) ≡ stands_before F m k
  key_order m k a b =
      by_lt (F.number m) (F.number k)
      (λ l. rw (lt-ltb (F.number m) (F.number k) l) (lt-ltb (key_in m) (key_in k) (omega arith)))
      (λ l. by_eq (F.number m) (F.number k)
      (λ e. rw (le-ltb (F.number m) (F.number k) l, eq-eqb (F.number m) (F.number k) e) (by_lt (F.initiator k) (F.initiator m)
      (λ h. lt-ltb (key_in m) (key_in k) (omega arith) ∙ sym (lt-ltb (F.initiator k) (F.initiator m) h))
      (λ h. le-ltb (key_in m) (key_in k) (omega arith) ∙ sym (le-ltb (F.initiator k) (F.initiator m) h))))
      (λ d. rw (le-ltb (F.number m) (F.number k) l, ne_eqb (F.number m) (F.number k) d) (le-ltb (key_in m) (key_in k) (omega arith))))

  -- a room, or none, and its key: that of any message is below that of none
  abbrev pub best_of : Option ℕ → Best
  best_of none = record { head = 32; key = 18446744073709551615 }
  best_of (some m) = record { head = m; key = key_in m }

  best_head : (o : Option ℕ) → (best_of o).head ≡ room_word o
  best_head none = refl
  best_head (some m) = refl

  chosen : (b : Bool) (m k : ℕ) → ◌≡◌ {A = Best} (record { head = cond b m k; key = cond b (key_in m) (key_in k) }) (best_of (cond b (some m) (some k)))
  chosen true m k = refl
  chosen false m k = refl

  -- the room, if any, has a key
  abbrev OfKey : Option ℕ → Type 0
  OfKey none = 0 ≤ 0
  OfKey (some m) = HasKey m

  -- THE WALK starts with none
  pub best_none : (pick : ℕ → Bool) → ◌≡◌ {A = Best} (record { head = 32; key = 18446744073709551615 }) (best_of (first_among F pick 0))
  unfolding first_among
  best_none pick = refl

  module _ (pick : ℕ → Bool) (keyed : (m : ℕ) → m < 32 → pick m ≡ true → HasKey m) where
    of_key_more : (m : ℕ) (o : Option ℕ) → m < 32 → OfKey o → OfKey (first_with F pick m o)
    of_key_more m none l h = on_cond OfKey (pick m) (λ e. keyed m l e) (λ e. omega arith)
    of_key_more m (some k) l h = on_cond OfKey (pick m) (λ e. on_cond OfKey (stands_before F m k) (λ b. keyed m l e) (λ b. h)) (λ e. h)

    of_key : (n : ℕ) → n ≤ 32 → OfKey (first_among F pick n)
    unfolding first_among
    of_key zero l = omega arith
    of_key (suc n) l = of_key_more n (first_among F pick n) (omega arith) (of_key n (omega arith))

    -- picked
    looked : (m : ℕ) (o : Option ℕ) → HasKey m → pick m ≡ true → OfKey o → first_of (best_of o) m (key_in m) ≡ best_of (first_with F pick m o)
    looked m none h e _ = rw (e, lt-ltb (key_in m) 18446744073709551615 (let k = floor_key (F.number m) (F.initiator m) h in omega arith))
    looked m (some k) h e g = rw (e, key_order m k h g) (chosen (stands_before F m k) m k)

    best_more : (m : ℕ) (o : Option ℕ) → m < 32 → OfKey o → best_with F pick m (best_of o) ≡ best_of (first_with F pick m o)
    best_more m o l h =
        by_test (pick m)
        (λ e. ap (λ (b : Bool). cond b (first_of (best_of o) m (key_in m)) (best_of o)) e ∙ looked m o (keyed m l e) e h)
        (λ e. ap (λ (b : Bool). cond b (first_of (best_of o) m (key_in m)) (best_of o)) e ∙ ap best_of (sym (first_out F pick m o e)))

    -- a turn at room m finds what the rooms passed since k left
    pub best_again : (k m : ℕ) (best r : Best) → m < 32 → first_among F pick m ≡ first_among F pick k → best ≡ best_of (first_among F pick k) → r ≡ best_with F pick m best → r ≡ best_of (first_among F pick (m + 1))
    unfolding first_among
    best_again k m best r l skipped e f =
        rw (add-one, first_among)
        (f ∙ ap (best_with F pick m) (e ∙ ap best_of (sym skipped)) ∙ best_more m (first_among F pick m) l (of_key m (omega arith)))

  -- and the last has found the first
  pub best_all : (pick : ℕ → Bool) (k : ℕ) (best : Best) → first_among F pick 32 ≡ first_among F pick k → best ≡ best_of (first_among F pick k) → room_at best.head ≡ first_among F pick 32
  best_all pick k best skipped e = ap room_at (ap (λ (b : Best). b.head) (e ∙ ap best_of (sym skipped)) ∙ best_head (first_among F pick 32)) ∙ word_says (first_among F pick 32) 32 (omega arith) (first_below F pick 32)
