use mathlib.Core.Path.{◌≡◌, refl, ap, ◌∙◌}
use mathlib.Core.Bool.{Bool, true, false, cond, not}
use Prim.Native.Nat.{ℕ, ◌<◌}
use native.Mathlib.Omega.{arith}
use mir.Val.{bool_byte}
use Rattle.stations.specs.View.{meets, word_meets}
use Rattle.stations.proofs.NamingLaws.{passing_none, passing_all, passing_small, passing_more}
use Rattle.stations.proofs.words_with.Goals as goal

one_small : {r : ℕ} (b : Bool) → r ≡ bool_byte b → r < 2
one_small true e = omega arith
one_small false e = omega arith

bit_is : (b : Bool) → bool_byte b ≡ cond b 1 0
bit_is true = refl
bit_is false = refl

pub loop-m-init : goal.loop-m-init
loop-m-init c =
    let a = c.args in
    (omega arith, passing_none a.n (word_meets a.stations.now a.station.0 a.place a.carts))

pub overflow_mul-found : goal.overflow_mul-found
overflow_mul-found c =
    let a = c.args in
    let l = c.loop-m in
    let z = passing_small a.n (word_meets a.stations.now a.station.0 a.place a.carts) l.m l.found c.requires.2 l.invariant.1 in
    omega arith

pub overflow_add-found : goal.overflow_add-found
overflow_add-found c =
    let a = c.args in
    let l = c.loop-m in
    let z = passing_small a.n (word_meets a.stations.now a.station.0 a.place a.carts) l.m l.found c.requires.2 l.invariant.1 in
    let d = one_small (not c.is_disjoint.result) c.from.ensures in
    omega arith

pub loop-m-preserved : goal.loop-m-preserved
loop-m-preserved c =
    let a = c.args in
    let l = c.loop-m in (
      omega arith,
      passing_more a.n (word_meets a.stations.now a.station.0 a.place a.carts) l.m l.found _ (omega arith) l.invariant.0 l.invariant.1
          (c.from.ensures ∙ bit_is (not c.is_disjoint.result) ∙ ap (λ (b : Bool). cond {A = ℕ} (not b) 1 0) c.is_disjoint.ensures ∙ ap (λ (w : ℕ). cond {A = ℕ} (meets a.carts w) 1 0) c.word_of-word.ensures),
    )

pub returns : goal.returns
returns c =
    let a = c.args in
    let l = c.loop-m in
    passing_all a.n (word_meets a.stations.now a.station.0 a.place a.carts) l.m l.found (omega arith) l.invariant.1
