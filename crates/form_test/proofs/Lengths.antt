-- THE LENGTHS OF THE LENT PARTS as a test that ends at the first failure.
use mathlib.Core.Path.{◌≡◌, sym, ◌∙◌}
use mathlib.Core.Bool.{Bool, true, false}
use Prim.Native.Nat.{◌+◌, ◌*◌, ◌≤◌}
use native.Mathlib.Nat.{mul-le-mul_left}
use native.Mathlib.Omega.{arith}
use lib.Dec.{eqb}
use lib.ListN.{length}
use borrow.Author.Tests.{eqb-true, eq-eqb}
use Rattle.protocol.specs.Floor.{Product, limits_of, most_records}
use Rattle.protocol.proofs.Tests.{by_test, same_test}
use Rattle.view.specs.View.{Lent, lengths_in}
use Rattle.view.proofs.Lengths.{Lengths, lengths_of, lengths_right_lem}
use Rattle.products.specs.declared.Bounds.{Bounds}
use Rattle.products.specs.Numbers.{Fits, NumbersOf}

-- the records on the lines are few
pub few_records : (b : Bounds) → Fits b → b.held * (b.stations + b.stations + b.carts) ≤ 3072
few_records b f =
    let x = f.few_stations in
    let y = f.few_carts in
    let z = f.few_held in
    let most : b.stations + b.stations + b.carts ≤ 96 = omega arith in
    let w = mul-le-mul_left b.held most in
    omega arith

pub most_is : (P : Product) (b : Bounds) → NumbersOf P b → most_records (limits_of P) ≡ b.held * (b.stations + b.stations + b.carts) + b.carts
most_is P b e = λ i. e.held_is i * (e.stations_are i + e.stations_are i + e.carts_are i) + e.carts_are i

-- a part has another length
pub wrong_length_lem : (L : Lent) → (Lengths L → ⊥) → false ≡ lengths_in L
wrong_length_lem L h = by_test (lengths_in L) (λ e. absurd (h (lengths_of L e))) (λ e. sym e)

-- none has
pub right_lengths : (L : Lent) (r : Bool) → r ≡ lengths_in L → r ≡ true → Lengths L
right_lengths L r e q = lengths_of L (sym e ∙ q)

-- it rests on the store, where the others have theirs
pub rests_on_store : (L : Lent) → length L.stations ≡ 116 + L.product.stations * 116 → length L.carts ≡ L.product.carts * 19
    → length L.messages ≡ L.product.held * 7 → length L.lines ≡ 1842 + most_records (limits_of L.product) * 3 → length L.texts ≡ L.product.held * 32
    → eqb (length L.store) 4096 ≡ lengths_in L
rests_on_store L s c m l t =
    same_test (eqb (length L.store) 4096) (lengths_in L)
    (λ e. lengths_right_lem L (record { stations = s; carts = c; messages = m; lines = l; texts = t; store = eqb-true (length L.store) 4096 e }))
    (λ e. eq-eqb (length L.store) 4096 (lengths_of L e).store)
