-- WALKS over the records of a line, and what may be met once: each record is tested against what was met before it.
use mathlib.Core.Path.{refl, ◌≡◌}
use mathlib.Core.Bool.{Bool, true}
use mathlib.Core.List.{List, [], ◌∷◌, map}
use Prim.Native.Nat.{ℕ, zero, suc, ◌+◌, ◌≤◌, ◌<◌}
use native.Mathlib.Omega.{arith}
use Rattle.protocol.specs.Folds.{sum}
use Rattle.protocol.specs.Floor.{Record}
use Rattle.protocol.specs.Form.{bit, count_line}
use Rattle.protocol.proofs.Tests.{by_eq}
use Rattle.form_lines.specs.Said.{Said}

-- what is true of each record of a line
abbrev pub Each : (Said → Type 0) → List Said → Type 0
Each P [] = Unit {0}
Each P (r ∷ l) = P r × Each P l

pub each_map : (P Q : Said → Type 0) (l : List Said) → ((r : Said) → P r → Q r) → Each P l → Each Q l
each_map P Q [] f a = tt
each_map P Q (r ∷ l) f a = (f r a.0, each_map P Q l f a.1)

pub each_map2 : (P Q O : Said → Type 0) (l : List Said) → ((r : Said) → P r → Q r → O r) → Each P l → Each Q l → Each O l
each_map2 P Q O [] f a b = tt
each_map2 P Q O (r ∷ l) f a b = (f r a.0 b.0, each_map2 P Q O l f a.1 b.1)

-- ONE LINE
module _ (X : Type 0) (check : X → Said → Bool) (step : X → Said → X) where
  -- what was met once the line is
  abbrev pub walk : X → List Said → X
  walk x [] = x
  walk x (r ∷ l) = walk (step x r) l

  -- every record passes
  abbrev pub Good : X → List Said → Type 0
  Good x [] = Unit {0}
  Good x (r ∷ l) = (check x r ≡ true) × Good (step x r) l

  -- where each right record that passes adds to the tally what it counts, and passes if that makes no more than 1
  module _ (I : X → Type 0) (A : Type 0) (b : X → A → ℕ) (read : Said → Record) (f : A → Record → Bool) (Right : Said → Type 0)
      (keep : (x : X) (r : Said) → I x → I (step x r))
      (yes : (x : X) (r : Said) → I x → Right r → check x r ≡ true → (a : A) → b (step x r) a ≡ b x a + bit (f a (read r)))
      (no : (x : X) (r : Said) → I x → Right r → ((a : A) → b x a + bit (f a (read r)) ≤ 1) → check x r ≡ true) where
    pub line_kept : (x : X) (l : List Said) → I x → I (walk x l)
    line_kept x [] i = i
    line_kept x (r ∷ l) i = line_kept (step x r) l (keep x r i)

    pub line_yes : (x : X) (l : List Said) → I x → Each Right l → Good x l → (a : A) → b (walk x l) a ≡ b x a + count_line (f a) (map read l)
    line_yes x [] i e g a = omega arith
    line_yes x (r ∷ l) i e g a = let z = line_yes (step x r) l (keep x r i) e.1 g.1 a in let y = yes x r i e.0 g.0 a in omega arith

    pub line_no : (x : X) (l : List Said) → I x → Each Right l → ((a : A) → b x a + count_line (f a) (map read l) ≤ 1) → Good x l
    line_no x [] i e h = tt
    line_no x (r ∷ l) i e h =
        let p = no x r i e.0 (λ a. let z = h a in omega arith) in
        (p, line_no (step x r) l (keep x r i) e.1 (λ a. let z = h a in let y = yes x r i e.0 p a in omega arith))

-- SEVERAL, one after the other
module _ (X : Type 0) (good : ℕ → X → Type 0) (go : ℕ → X → X) where
  abbrev pub go_all : X → ℕ → X
  go_all x zero = x
  go_all x (suc k) = go k (go_all x k)

  abbrev pub GoodAll : X → ℕ → Type 0
  GoodAll x zero = Unit {0}
  GoodAll x (suc k) = GoodAll x k × good k (go_all x k)

  module _ (I : X → Type 0) (A : Type 0) (b : X → A → ℕ) (amount : ℕ → A → ℕ) (n : ℕ)
      (keep : (k : ℕ) (x : X) → I x → I (go k x))
      (yes : (k : ℕ) (x : X) → I x → k < n → good k x → (a : A) → b (go k x) a ≡ b x a + amount k a)
      (no : (k : ℕ) (x : X) → I x → k < n → ((a : A) → b x a + amount k a ≤ 1) → good k x) where
    pub all_kept : (x : X) (k : ℕ) → I x → I (go_all x k)
    all_kept x zero i = i
    all_kept x (suc k) i = keep k (go_all x k) (all_kept x k i)

    pub all_yes : (x : X) (k : ℕ) → I x → k ≤ n → GoodAll x k → (a : A) → b (go_all x k) a ≡ b x a + sum k (λ t. amount t a)
    unfolding sum
    all_yes x zero i h g a = omega arith
    all_yes x (suc k) i h g a =
        let z = all_yes x k i (omega arith) g.0 a in let y = yes k (go_all x k) (all_kept x k i) (omega arith) g.1 a in omega arith

    pub all_no : (x : X) (k : ℕ) → I x → k ≤ n → ((a : A) → b x a + sum k (λ t. amount t a) ≤ 1) → GoodAll x k
    unfolding sum
    all_no x zero i h g = tt
    all_no x (suc k) i h g =
        let p = all_no x k i (omega arith) (λ a. let z = g a in omega arith) in
        (p, no k (go_all x k) (all_kept x k i) (omega arith) (λ a. let z = g a in let y = all_yes x k i (omega arith) p a in omega arith))

-- a sum has no terms beyond
pub sum_beyond : (n k : ℕ) (f : ℕ → ℕ) → n ≤ k → ((t : ℕ) → n ≤ t → f t ≡ 0) → sum k f ≡ sum n f
unfolding sum
sum_beyond zero zero f h z = refl
sum_beyond (suc n) zero f h z = absurd (omega arith)
sum_beyond zero (suc k) f h z = let y = sum_beyond zero k f (omega arith) z in let x = z k (omega arith) in omega arith
sum_beyond (suc n) (suc k) f h z =
    by_eq n k (λ e. rw e refl) (λ e. let y = sum_beyond (suc n) k f (omega arith) z in let x = z k (omega arith) in omega arith)
