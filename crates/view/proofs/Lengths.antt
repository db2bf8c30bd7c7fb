-- THE LENGTHS OF THE LENT PARTS, and that nothing is read beyond them.
use mathlib.Core.Path.{◌≡◌, refl}
use mathlib.Core.Bool.{true, ◌&&◌}
use mathlib.Core.List.{List}
use Prim.Native.Nat.{ℕ, ◌+◌, ◌*◌, ◌-◌, ◌/◌, ◌≤◌}
use native.Mathlib.Nat.{mul-le-mul_left}
use native.Mathlib.Omega.{arith}
use lib.Dec.{eqb, leb}
use lib.ListN.{length}
use borrow.Author.Tests.{eqb-true, eq-eqb, le-leb}
use Rattle.protocol.specs.Floor.{Product, limits_of, most_records, outside}
use Rattle.protocol.specs.Blank.{BlankBeyond}
use Rattle.protocol.proofs.Tests.{and_intro, and_left, and_right, by_lt}
use Rattle.rows.proofs.RowLaws.{cell_past}
use Rattle.carts.specs.View.{carts_in}
use Rattle.carts.proofs.TableLaws.{next_beyond}
use Rattle.lines.specs.Form.{sized}
use Rattle.lines.specs.Words.{capacity}
use Rattle.stations.proofs.TableLaws.{sent_past, queue_past, expected_beyond, queue_beyond}
use Rattle.view.specs.View.{Lent, lengths_in, floor_in}
use Rattle.view.proofs.LinesView.{line_beyond}
use Rattle.view.proofs.Laid.{Laid}

-- no product has more records than the pool has bits for
pub few_records : (P : Product) → most_records (limits_of P) ≤ 3136
few_records P =
    let a = P.stations_fit in
    let b = P.carts_fit in
    let d = P.held_fit in
    let most : P.stations + P.stations + P.carts ≤ 96 = omega arith in
    let x = mul-le-mul_left P.held most in
    let y : P.held * 96 ≤ 3072 = omega arith in
    omega arith

-- a pool of the right length is sized
pub pool_sized : (P : Product) (l : List ℕ) → length l ≡ 1842 + most_records (limits_of P) * 3 → sized l ≡ true
unfolding sized capacity
pool_sized P l h =
    let few = few_records P in
    and_intro (eqb (length l) (1842 + (length l - 1842) / 3 * 3)) (leb ((length l - 1842) / 3) 3136)
    (eq-eqb (length l) (1842 + (length l - 1842) / 3 * 3) (omega arith))
    (le-leb ((length l - 1842) / 3) 3136 (omega arith))

-- the lengths, one by one
pub record Lengths (L : Lent) : Type 0 where
  pub stations : length L.stations ≡ 116 + L.product.stations * 116
  pub carts : length L.carts ≡ L.product.carts * 19
  pub messages : length L.messages ≡ L.product.held * 7
  pub lines : length L.lines ≡ 1842 + most_records (limits_of L.product) * 3
  pub texts : length L.texts ≡ L.product.held * 32
  pub store : length L.store ≡ 4096

pub lengths_of : (L : Lent) → lengths_in L ≡ true → Lengths L
unfolding lengths_in
lengths_of L e =
    let P = L.product in
    let a = eqb (length L.stations) (116 + P.stations * 116) in
    let b = eqb (length L.carts) (P.carts * 19) in
    let c = eqb (length L.messages) (P.held * 7) in
    let d = eqb (length L.lines) (1842 + most_records (limits_of P) * 3) in
    let f = eqb (length L.texts) (P.held * 32) in
    let g = eqb (length L.store) 4096 in
    let r = and_right a (b && (c && (d && (f && g)))) e in
    let q = and_right b (c && (d && (f && g))) r in
    let p = and_right c (d && (f && g)) q in
    let o = and_right d (f && g) p in
    record {
      stations = eqb-true (length L.stations) _ (and_left a (b && (c && (d && (f && g)))) e);
      carts = eqb-true (length L.carts) _ (and_left b (c && (d && (f && g))) r);
      messages = eqb-true (length L.messages) _ (and_left c (d && (f && g)) q);
      lines = eqb-true (length L.lines) _ (and_left d (f && g) p);
      texts = eqb-true (length L.texts) _ (and_left f g o);
      store = eqb-true (length L.store) _ (and_right f g o);
    }

pub lengths_right_lem : (L : Lent) → Lengths L → lengths_in L ≡ true
unfolding lengths_in
lengths_right_lem L h =
    rw (eq-eqb (length L.stations) _ h.stations, eq-eqb (length L.carts) _ h.carts, eq-eqb (length L.messages) _ h.messages, eq-eqb (length L.lines) _ h.lines, eq-eqb (length L.texts) _ h.texts, eq-eqb (length L.store) _ h.store) refl

-- NOTHING BEYOND
pub place_past : (l : List ℕ) (c : ℕ) → length l ≤ c * 19 → (carts_in l).place c ≡ outside
unfolding carts_in
place_past l c h = rw (cell_past 19 l c 0 h)

next_past : (l : List ℕ) (c s : ℕ) → length l ≤ c * 19 → (carts_in l).next c s ≡ 0
unfolding carts_in
next_past l c s h = cell_past 19 l c (3 + s) h

pub nothing_beyond : (L : Lent) → Lengths L → Laid L → BlankBeyond (limits_of L.product) (floor_in L)
nothing_beyond L h laid =
    let a = h.stations in
    let b = h.carts in
    record {
      sent = λ s l. sent_past L.stations s (omega arith);
      expected = λ t s lt ls. expected_beyond L.stations t s ls;
      place = λ c l. place_past L.carts c (omega arith);
      next = record { below = λ c s l. next_past L.carts c s (omega arith); right = λ c s l. next_beyond L.carts c s l };
      queue = record {
        below = λ m t l. by_lt m 32 (λ k. by_lt t L.product.stations (λ j. (laid.few t m j k l).1) (λ j. queue_past L.stations t (omega arith) m)) (λ k. queue_beyond L.stations m t k);
        right = λ m t l. queue_past L.stations t (omega arith) m;
      };
      lines = record {
        below = λ i j l. line_beyond L.lines i j (λ x y. omega arith);
        right = λ i j l. line_beyond L.lines i j (λ x y. omega arith);
      };
    }
