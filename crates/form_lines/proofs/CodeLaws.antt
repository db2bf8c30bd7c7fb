-- What the functions need: tests answered one after the other.
use mathlib.Core.Path.{refl, sym, ap, ◌∙◌, ◌≡◌}
use mathlib.Core.Bool.{Bool, true, false, ◌&&◌, not}
use mathlib.Core.List.{List}
use Prim.Native.Nat.{ℕ, ◌+◌, ◌-◌, ◌*◌, ◌^◌, ◌≤◌, ◌<◌}
use native.Mathlib.Omega.{arith}
use lib.Dec.{eqb, leb, ltb}
use lib.ListN.{length}
use lib.Pow.{pow_pos}
use borrow.Author.Tests.{eq-eqb, ltb-true, lt-ltb, le-ltb, leb-true, le-leb, not-true}
use Rattle.protocol.specs.CartSets.{set_of}
use Rattle.protocol.proofs.Tests.{and_left, and_right, and-false, by_lt, clash, same_test}
use Rattle.sets.proofs.MaskLaws.{set_of_all}
use Rattle.rows.proofs.RowLaws.{cell_past}
use Rattle.messages.specs.View.{Rooms, HasRoom, rooms_in}
use Rattle.messages.proofs.RoomLaws.{waiting_past}
use Rattle.view.specs.Records.{is_in}
use Rattle.form_lines.specs.Ways.{WholeRooms}

-- THE ROOM OF A MESSAGE
module _ (R : Rooms) (s x m : ℕ) where
  pub high_room : 32 ≤ m → false ≡ (ltb m 32 && is_in R s x m)
  high_room h = rw (le-ltb m 32 h) refl

-- A TABLE OF WHOLE ROWS
module _ (M : List ℕ) (W : WholeRooms M) (m : ℕ) where
  -- no room beyond it is taken, or has acknowledgements
  pub none_waiting : length M < m * 7 + 7 → 0 ≡ (rooms_in M).waiting m
  none_waiting l = let e = W.words in sym (waiting_past M m (omega arith))

  pub none_acked : length M < m * 7 + 7 → 0 ≡ (rooms_in M).acked m
  unfolding rooms_in
  none_acked l = let e = W.words in sym (cell_past 7 M m 3 (omega arith))

  -- so a taken room is in it
  pub room_there : ((rooms_in M).waiting m ≡ 0 → ⊥) → HasRoom M m
  room_there h = by_lt (length M) (m * 7 + 7) (λ l. absurd (h (sym (none_waiting l)))) (λ l. omega arith)

  module _ (s x : ℕ) where
    pub no_room : length M < m * 7 + 7 → false ≡ (ltb m 32 && is_in (rooms_in M) s x m)
    no_room l = sym (ap (λ (w : ℕ). ltb m 32 && (not (eqb w 0) && (eqb ((rooms_in M).initiator m) s && eqb ((rooms_in M).number m) x))) (sym (none_waiting l)) ∙ and-false (ltb m 32))

    pub slot_room : (b : Bool) → b ≡ (ltb m 32 && is_in (rooms_in M) s x m) → b ≡ true → HasRoom M m
    slot_room b e h =
        let q = and_right (ltb m 32) (is_in (rooms_in M) s x m) (sym e ∙ h) in
        let t = and_left (not (eqb ((rooms_in M).waiting m) 0)) (eqb ((rooms_in M).initiator m) s && eqb ((rooms_in M).number m) x) q in
        room_there (λ z. clash (eqb ((rooms_in M).waiting m) 0) (eq-eqb ((rooms_in M).waiting m) 0 z) (not-true (eqb ((rooms_in M).waiting m) 0) t))

-- AND: it rests on the last, where the others hold
pub last_of : (a b c r : Bool) → a ≡ true → b ≡ true → r ≡ c → r ≡ (a && (b && c))
last_of a b c r p q e = rw (p, q) e

-- A SET OF THE FIRST CARTS
pub set_below : (k y a : ℕ) → a ≡ set_of k (λ c. true) → leb y a ≡ ltb y (2 ^ k)
set_below k y a e =
    let z : a ≡ 2 ^ k - 1 = e ∙ set_of_all k in
    let p = pow_pos k in
    same_test (leb y a) (ltb y (2 ^ k)) (λ h. lt-ltb y (2 ^ k) (let w = leb-true y a h in omega arith)) (λ h. le-leb y a (let w = ltb-true y (2 ^ k) h in omega arith))
