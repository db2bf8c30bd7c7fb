-- Small tools: going over the numbers below n, rows and tables with one entry changed, and choices.
use Rattle.std.specs.Prelude.{Bool, true, false, cond, ◌&&◌, List, [], ◌∷◌, ℕ, zero, suc, ◌+◌, eqb}
use Rattle.std.proofs.Math.Option.{Option, none, some}

-- does every one below n pass
unfoldable pub every : ℕ → (ℕ → Bool) → Bool
every zero f = true
every (suc n) f = every n f && f n

-- how many below n pass
unfoldable pub count : ℕ → (ℕ → Bool) → ℕ
count zero f = 0
count (suc n) f = count n f + cond (f n) 1 0

-- f 0 + .. + f (n - 1)
unfoldable pub sum : ℕ → (ℕ → ℕ) → ℕ
sum zero f = 0
sum (suc n) f = sum n f + f n

-- the least below n that passes
unfoldable pub first : ℕ → (ℕ → Bool) → Option ℕ
first zero f = none
first (suc n) f = elim (first n f) [ some m ↦ some m | none ↦ cond (f n) (some n) none ]

-- f 0, .. f (n - 1) as a list
unfoldable pub list_of : {A : Type 0} → ℕ → (ℕ → A) → List A
list_of zero f = []
list_of (suc n) f = f zero ∷ list_of n (λ k. f (suc k))

-- a row with entry i changed
abbrev pub update {ℓ} : {A : Type ℓ} → (ℕ → A) → ℕ → A → ℕ → A
update f i a k = cond (eqb k i) a (f k)

-- a table with entry j of row i changed
abbrev pub update2 {ℓ} : {A : Type ℓ} → (ℕ → ℕ → A) → ℕ → ℕ → A → ℕ → ℕ → A
update2 f i j a k l = cond (eqb k i && eqb l j) a (f k l)

-- by what was found
abbrev pub by_option {ℓ κ} : {A : Type ℓ} {B : Type κ} → Option A → B → (A → B) → B
by_option none x f = x
by_option (some a) x f = f a

-- by the head of a list
abbrev pub by_head {ℓ κ} : {A : Type ℓ} {B : Type κ} → List A → B → (A → B) → B
by_head [] x f = x
by_head (a ∷ l) x f = f a

-- was nothing found
abbrev pub is_none {ℓ} : {A : Type ℓ} → Option A → Bool
is_none none = true
is_none (some a) = false

-- is a list empty
abbrev pub is_empty {ℓ} : {A : Type ℓ} → List A → Bool
is_empty [] = true
is_empty (x ∷ xs) = false
