-- A START MEETS ITS EVENT: "of 5 it keeps only this: a lent part of the floor has the wrong length, met before 6".
use mathlib.Core.Path.{◌≡◌, refl, sym, ◌∙◌}
use mathlib.Core.Bool.{Bool, true, false}
use mathlib.Core.List.{List, []}
use Prim.Native.Nat.{ℕ}
use native.Mathlib.Omega.{arith}
use borrow.Author.Tests.{eq-eqb, ne_eqb}
use Rattle.protocol.specs.Floor.{Product, limits_of}
use Rattle.protocol.specs.Events.{Report, start, refused}
use Rattle.protocol.specs.Refusals.{wrong_size, refusal, refusal_if}
use Rattle.protocol.specs.Step.{accept}
use Rattle.stations.specs.View.{HasHead, head_in}
use Rattle.lines.specs.Form.{sized}
use Rattle.view.specs.View.{Lent, lent, lengths_in, floor_in}
use Rattle.view.proofs.Lengths.{Lengths, lengths_of, pool_sized}
use Rattle.wired_send.specs.Begun.{Begun}
use Rattle.wired_send.proofs.StartIs.{accepted_start}
use Rattle.reports.specs.declared.Effect.{Effect}
use Rattle.reports.specs.Effects.{nothing}
use Rattle.event_answers.specs.Answers.{says}
use Rattle.event_answers.specs.Met.{Met}
use Rattle.event_answers.proofs.Meets.{meets_refused, meets_done, meets_counted}

-- the checks of a start, down the table
module _ (P : Product) (S C M W T O : List ℕ) (n k : ℕ) (ok : Bool) (lengths_are : ok ≡ lengths_in (lent P S C M W T O)) where
  abbrev L : Lent
  L = lent P S C M W T O

  pub start_lengths : ok ≡ false → Met L L (start n k) (refused 5)
  unfolding refusal refusal_if
  start_lengths short = meets_refused L (start n k) 5 met (λ z. omega arith)
    where
      wrong : lengths_in L ≡ false
      wrong = sym lengths_are ∙ short

      met : refusal (limits_of P) (floor_in L) (start n k) ≡ 5
      met = rw wrong refl

  module _ (yes : ok ≡ true) where
    right : lengths_in L ≡ true
    right = sym lengths_are ∙ yes

    lengths : Lengths L
    lengths = lengths_of L right

    pub has_head : HasHead S
    has_head = let a = lengths.stations in omega arith

    pub start_begun : (head_in S).mark ≡ 1 → Met L L (start n k) (refused 6)
    unfolding refusal refusal_if
    start_begun e = meets_refused L (start n k) 6 met (λ z. omega arith)
      where
        met : refusal (limits_of P) (floor_in L) (start n k) ≡ 6
        met = rw (right, eq-eqb (head_in S).mark 1 e) refl

    module _ (fresh : (head_in S).mark ≡ 1 → ⊥) (wrong : Bool) (size_is : wrong ≡ wrong_size (limits_of P) n k) where
      pub start_size : wrong ≡ true → Met L L (start n k) (refused 7)
      unfolding refusal refusal_if
      start_size e = meets_refused L (start n k) 7 met (λ z. omega arith)
        where
          met : refusal (limits_of P) (floor_in L) (start n k) ≡ 7
          met = rw (right, ne_eqb (head_in S).mark 1 fresh, sym size_is, e) refl

      pub start_fits : HasHead S × (sized W ≡ true)
      start_fits = (has_head, pool_sized P W lengths.lines)

      -- "it writes all the rest afresh"
      pub meets_start : wrong ≡ false → (S' C' M' W' : List ℕ) (f : Effect) → Begun S S' C C' M M' W W' n k → f ≡ nothing
          → Met L (lent P S' C' M' W' T O) (start n k) (says 0 n k f)
      unfolding refusal refusal_if accept
      meets_start e S' C' M' W' f begun counted =
          meets_counted L (lent P S' C' M' W' T O) (start n k) 0 n k f nothing counted
          (meets_done L (start n k) (lent P S' C' M' W' T O) _ refl met (accepted_start S S' C C' M M' W W' T O n k lengths begun (floor_in L)) says_so)
        where
          met : refusal (limits_of P) (floor_in L) (start n k) ≡ 0
          met = rw (right, ne_eqb (head_in S).mark 1 fresh, sym size_is, e) refl

          says_so : ◌≡◌ {A = Report} (record { kind = 0; a = n; b = k; p = 0; w = 0; q = 0; text = [] }) (accept (limits_of P) (floor_in L) (start n k)).report
          says_so = refl
