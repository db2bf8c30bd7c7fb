-- A walk over the members of a set, from the least on, as a loop over them sees it.
use mathlib.Core.Path.{◌≡◌, sym, ap, ◌∙◌}
use mathlib.Core.Bool.{Bool, true, false, not, ◌&&◌}
use Prim.Native.Nat.{ℕ, ◌^◌, ◌≤◌, ◌<◌}
use native.Mathlib.Omega.{arith}
use lib.Dec.{eqb}
use borrow.Author.Tests.{ne_eqb}
use Rattle.std.specs.Prelude as code
use Rattle.std.specs.Prelude.{Some, None}
use Rattle.protocol.specs.CartSets.{has}
use Rattle.protocol.specs.Claims.{Claim, True, test, all, when, is, eq, lt}
use Rattle.protocol.proofs.Tests.{by_eq, clash, and_left}
use Rattle.protocol.proofs.SetLaws.{has_zero, has_without, without_lt}
use Rattle.sets.specs.declared.Members.{Members}
use Rattle.sets.specs.Walks.{GivesLeast}
use Rattle.sets.proofs.MaskLaws.{Lowest, least_lowest}
use Rattle.protocol.proofs.Answers.{yes, no}

-- every member below k passes
abbrev pub over : ℕ → ℕ → (ℕ → Claim) → Claim
over k set P = all k (λ c. when (is (has set c)) (P c))

-- cart c's next number for s is n; it is above n
abbrev pub next_is : (ℕ → ℕ → ℕ) → ℕ → ℕ → ℕ → Claim
next_is next s n c = eq (next c s) n

abbrev pub next_above : (ℕ → ℕ → ℕ) → ℕ → ℕ → ℕ → Claim
next_above next s n c = lt n (next c s)

-- the rest is of the set, and those that are not in it have passed
pub record Walked (k set : ℕ) (P : ℕ → Claim) (rest : ℕ) : Type 0 where
  pub word : rest < 2 ^ 64
  pub inside : (c : ℕ) → has rest c ≡ true → has set c ≡ true
  pub done : (c : ℕ) → c < k → has set c ≡ true → has rest c ≡ false → True (P c)

module _ (k set : ℕ) (P : ℕ → Claim) where
  pub walk_start : {walk : Members} → walk ≡ record { left = set } → set < 2 ^ 64 → Walked k set P walk.left
  walk_start e small = rw (ap (λ (x : Members). x.left) e) (record { word = small; inside = λ c e. e; done = λ c l e n. clash (has set c) e n })

  -- nothing is left
  pub walk_end : {before : Members} (after : Members) {step : code.Option ℕ} → GivesLeast before step after → Walked k set P before.left → step ≡ None → true ≡ test (over k set P)
  walk_end {before = before} after steps W e =
      let s : GivesLeast before None after = rw e at steps in
      yes (over k set P) (λ c l e. W.done c l e (ap (λ (x : ℕ). has x c) s.0 ∙ has_zero c))

  -- the least of the rest
  module _ (before after : Members) {step : code.Option ℕ} {number : ℕ} (steps : GivesLeast before step after) (W : Walked k set P before.left) (e : step ≡ Some number) where
    given : GivesLeast before (Some number) after
    given = rw e at steps

    lowest : Lowest 64 before.left number
    lowest = least_lowest 64 before.left number W.word given.0 given.1

    pub walk_below : number < 64
    walk_below = lowest.inside

    -- it is of the set
    pub walk_member : has set number ≡ true
    walk_member = W.inside number lowest.member

    -- it is beyond the first k, so all are
    pub walk_past : k ≤ number → true ≡ test (over k set P)
    walk_past g = yes (over k set P) (λ c l q. W.done c l q (lowest.before c (omega arith)))

    -- it does not pass
    pub walk_no : number < k → (True (P number) → ⊥) → false ≡ test (over k set P)
    walk_no l n = no (over k set P) (λ h. n (h number l walk_member))

    -- it passes, and is taken out
    pub walk_on : True (P number) → Walked k set P after.left
    walk_on x =
        record {
          word = rw given.2 (without_lt 64 before.left number W.word);
          inside = λ c q. W.inside c (and_left (has before.left c) (not (eqb number c)) (sym (member c) ∙ q));
          done = λ c l q n. by_eq number c (λ z. rw (← z) x) (λ z. W.done c l q (kept (has before.left c) (eqb number c) (ne_eqb number c z) (sym (member c) ∙ n)));
        }
      where
        member : (c : ℕ) → has after.left c ≡ (has before.left c && not (eqb number c))
        member c = ap (λ (y : ℕ). has y c) given.2 ∙ has_without before.left number c

        kept : (a b : Bool) → b ≡ false → (a && not b) ≡ false → a ≡ false
        kept true b p q = clash (not b) (ap not p) q
        kept false b p q = q
