-- THE ACKNOWLEDGEMENTS BEFORE THE LINES: at the initiator and in the ack lists of the stations, each in one place.
use mathlib.Core.Path.{refl, ◌≡◌}
use mathlib.Core.Bool.{true}
use Prim.Native.Nat.{ℕ, zero, suc, ◌+◌, ◌≤◌, ◌<◌}
use native.Mathlib.Omega.{arith}
use Rattle.protocol.specs.Folds.{every, count}
use Rattle.protocol.specs.CartSets.{has}
use Rattle.protocol.specs.Form.{bit}
use Rattle.protocol.proofs.Tests.{and_left, and_right, and_intro}
use Rattle.sets.specs.Masks.{disjoint}
use Rattle.stations.specs.View.{Stations}
use Rattle.messages.specs.View.{Rooms}
use Rattle.form_lines.specs.Pass.{gathered, apart}
use Rattle.form_lines.proofs.Tallies.{union_tally, union_once}

module _ (S : Stations) (R : Rooms) (m : ℕ) where
  pub gathered_yes : (n : ℕ) → apart S R m n ≡ true → (c : ℕ) → c < 64 → bit (has (gathered S R m n) c) ≡ bit (has (R.acked m) c) + count n (λ t. has (S.acks m t) c)
  unfolding gathered apart every count
  gathered_yes zero h c l = omega arith
  gathered_yes (suc n) h c l =
      let a = apart S R m n in
      let b = disjoint 64 (S.acks m n) (gathered S R m n) in
      let z = gathered_yes n (and_left a b h) c l in
      let y = union_tally (gathered S R m n) (S.acks m n) c l (and_right a b h) in
      omega arith

  pub gathered_no : (n : ℕ) → ((c : ℕ) → c < 64 → bit (has (R.acked m) c) + count n (λ t. has (S.acks m t) c) ≤ 1) → apart S R m n ≡ true
  unfolding gathered apart every count
  gathered_no zero h = refl
  gathered_no (suc n) h =
      let p = gathered_no n (λ c l. let z = h c l in omega arith) in
      and_intro (apart S R m n) (disjoint 64 (S.acks m n) (gathered S R m n)) p
      (union_once (gathered S R m n) (S.acks m n) (λ c l. let z = h c l in let y = gathered_yes n p c l in omega arith))
