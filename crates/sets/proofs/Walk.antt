-- A WALK OVER A SET, from its least member on: whoever goes over all the numbers below n, and has nothing to do at one that is not in the set,
-- may as well walk.
use mathlib.Core.Path.{◌≡◌, refl, sym, ap, ◌∙◌}
use mathlib.Core.Bool.{true, false}
use mathlib.Core.Option.{some}
use Prim.Native.Nat.{ℕ, zero, suc, ◌+◌, ◌^◌, ◌≤◌, ◌<◌}
use native.Mathlib.Omega.{arith}
use Rattle.protocol.specs.CartSets.{has, without}
use Rattle.protocol.proofs.Tests.{by_lt, by_eq, clash}
use Rattle.protocol.proofs.SetLaws.{has_zero, without_lt}
use Rattle.sets.specs.Masks.{least}
use Rattle.sets.proofs.MaskLaws.{Lowest, least_lowest, without_less, without_here, without_other}

-- nothing happens from a up to b, so b finds what a left
pub nothing_between : {A : Type 0} (g : ℕ → A) (a b : ℕ) → a ≤ b → ((c : ℕ) → a ≤ c → c < b → g (suc c) ≡ g c) → g b ≡ g a
nothing_between g a zero h same = ap g (omega arith)
nothing_between g a (suc b) h same =
    by_lt b a
    (λ l. ap g (omega arith))
    (λ l. same b l (omega arith) ∙ nothing_between g a b l (λ c m k. same c m (omega arith)))

-- the walk over a set below n has come to k: what is left is what the set has from k on
pub record Ahead (n set left k : ℕ) : Type 0 where
  pub word : left < 2 ^ 64
  pub within : k ≤ n
  pub before : (c : ℕ) → c < k → has left c ≡ false
  pub after : (c : ℕ) → k ≤ c → has left c ≡ has set c
  pub inside : (c : ℕ) → has set c ≡ true → c < n

-- a turn of the walk, from k on: m is the next member, and left' is left behind it
pub record Turn (n set left k m left' : ℕ) : Type 0 where
  pub next : k ≤ m
  pub member : has set m ≡ true
  pub inside : m < n
  pub skips : (c : ℕ) → k ≤ c → c < m → has set c ≡ false
  pub ahead : Ahead n set left' (m + 1)
  pub less : left' < left

module _ (n set : ℕ) where
  pub ahead_start : set < 2 ^ 64 → ((c : ℕ) → has set c ≡ true → c < n) → Ahead n set set 0
  ahead_start small inside = record {
    word = small;
    within = omega arith;
    before = λ c h. absurd (omega arith);
    after = λ c h. refl;
    inside = inside;
  }

  -- nothing is left: nothing is from k up to n
  pub ahead_end : (k : ℕ) → Ahead n set 0 k → (c : ℕ) → k ≤ c → has set c ≡ false
  ahead_end k A c h = sym (A.after c h) ∙ has_zero c

  module _ (left k m : ℕ) (A : Ahead n set left k) (pos : 0 < left) (e : least 64 left ≡ some m) where
    lowest : Lowest 64 left m
    lowest = least_lowest 64 left m A.word pos e

    -- the next member, and the numbers before it
    pub ahead_next : k ≤ m
    ahead_next = by_lt m k (λ h. clash (has left m) lowest.member (A.before m h)) (λ h. h)

    pub ahead_member : has set m ≡ true
    ahead_member = sym (A.after m ahead_next) ∙ lowest.member

    pub ahead_inside : m < n
    ahead_inside = A.inside m ahead_member

    pub ahead_skips : (c : ℕ) → k ≤ c → c < m → has set c ≡ false
    ahead_skips c h l = sym (A.after c h) ∙ lowest.before c l

    -- behind it
    gone : (c : ℕ) → c < m + 1 → has (without left m) c ≡ false
    gone c h =
        by_eq c m
        (λ q. rw q (without_here left m))
        (λ q. without_other left m c (λ e. q (sym e)) ∙ lowest.before c (omega arith))

    kept : (c : ℕ) → m + 1 ≤ c → has (without left m) c ≡ has left c
    kept c h = without_other left m c (omega arith)

    pub ahead_step : (left' : ℕ) → left' ≡ without left m → Ahead n set left' (m + 1)
    ahead_step left' q = let z = ahead_next in let y = ahead_inside in rw q (record {
      word = without_lt 64 left m A.word;
      within = omega arith;
      before = gone;
      after = λ c h. kept c h ∙ A.after c (omega arith);
      inside = A.inside;
    })

    -- a walk ends
    pub ahead_less : (left' : ℕ) → left' ≡ without left m → left' < left
    ahead_less left' q = rw q (without_less 64 left m A.word lowest.member)

    -- all that a turn of the walk knows
    pub ahead_turn : (left' : ℕ) → left' ≡ without left m → Turn n set left k m left'
    ahead_turn left' q = record {
      next = ahead_next;
      member = ahead_member;
      inside = ahead_inside;
      skips = ahead_skips;
      ahead = ahead_step left' q;
      less = ahead_less left' q;
    }
