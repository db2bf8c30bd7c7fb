-- Laws of tests, choices and searches.
use mathlib.Core.Path.{◌≡◌, ap, refl, ◌∙◌}
use mathlib.Core.Bool.{◌&&◌, Bool, cond, false, not, true, ◌||◌}
use mathlib.Core.Option.{Option, none, some}
use mathlib.Core.List.{List, [], ◌∷◌}
use Prim.Native.Nat.{◌<◌, suc, zero, ℕ, ◌≤◌}
use native.Mathlib.Omega.{arith}
use lib.Dec.{eqb, ltb}
use lib.ListN.{get_or, length}
use borrow.Author.Tests.{eq-eqb, eqb-false, eqb-true, ltb-false, ltb-true, ne_eqb}
use Rattle.protocol.specs.Folds.{by_head, by_option, every, first, list_of, update, update2}

-- BY CASES

-- by cases on a test, with its equation
pub by_test {ℓ} : {P : Type ℓ} (b : Bool) → (b ≡ true → P) → (b ≡ false → P) → P
by_test true f g = f refl
by_test false f g = g refl

-- by cases on an order
pub by_lt {ℓ} : {P : Type ℓ} (k n : ℕ) → (k < n → P) → (n ≤ k → P) → P
by_lt k n f g = by_test (ltb k n) (λ e. f (ltb-true k n e)) (λ e. g (ltb-false k n e))

-- by cases on whether two numbers are equal
pub by_eq {ℓ} : {P : Type ℓ} (k n : ℕ) → (k ≡ n → P) → ((k ≡ n → ⊥) → P) → P
by_eq k n f g = by_test (eqb k n) (λ e. f (eqb-true k n e)) (λ e. g (eqb-false k n e))

-- by cases on what was found
pub by_option_lem {ℓ κ} : {A : Type κ} {P : Type ℓ} (o : Option A) → (o ≡ none → P) → ((a : A) → o ≡ some a → P) → P
by_option_lem none f g = f refl
by_option_lem (some a) f g = g a refl

-- a property of a choice
pub on_cond {ℓ κ} : {A : Type ℓ} (P : A → Type κ) (b : Bool) {x y : A} → (b ≡ true → P x) → (b ≡ false → P y) → P (cond b x y)
on_cond P true f g = f refl
on_cond P false f g = g refl

-- a property of a choice by what was found
pub on_option {ℓ κ μ} : {A : Type ℓ} {B : Type κ} (P : B → Type μ) (o : Option A) {x : B} {f : A → B} → (o ≡ none → P x) → ((a : A) → o ≡ some a → P (f a)) → P (by_option o x f)
on_option P none f g = f refl
on_option P (some a) f g = g a refl

-- a property of a choice by the head of a list
pub on_head {ℓ κ μ} : {A : Type ℓ} {B : Type κ} (P : B → Type μ) (l : List A) {x : B} {f : A → B} → (l ≡ [] → P x) → ((a : A) (k : List A) → l ≡ a ∷ k → P (f a)) → P (by_head l x f)
on_head P [] f g = f refl
on_head P (a ∷ l) f g = g a l refl

-- AND, OR, NOT

-- a test that is yes and no proves anything
pub clash {ℓ} : {P : Type ℓ} (b : Bool) → b ≡ true → b ≡ false → P
clash b p q = absurd (let z : ◌≡◌ {A = ℕ} 0 1 = cc in omega arith)

pub and_left : (a b : Bool) → a && b ≡ true → a ≡ true
and_left true b e = refl
and_left false b e = cc

pub and_right : (a b : Bool) → a && b ≡ true → b ≡ true
and_right true b e = e
and_right false b e = cc

pub and_intro : (a b : Bool) → a ≡ true → b ≡ true → a && b ≡ true
and_intro a b p q = cc

pub and-false : (a : Bool) → a && false ≡ false
and-false true = refl
and-false false = refl

pub and-true : (a : Bool) → a && true ≡ a
and-true true = refl
and-true false = refl

pub and_second_false : (a b : Bool) → b ≡ false → a && b ≡ false
and_second_false a b e = rw e (and-false a)

pub or_cases {ℓ} : {P : Type ℓ} (a b : Bool) → a || b ≡ true → (a ≡ true → P) → (b ≡ true → P) → P
or_cases true b e f g = f refl
or_cases false b e f g = g e

pub or-false : (a b : Bool) → a || b ≡ false → (a ≡ false) × (b ≡ false)
or-false true b e = clash true refl e
or-false false b e = (refl, e)

pub or_left : (a b : Bool) → a ≡ true → a || b ≡ true
or_left true b e = refl
or_left false b e = clash false e refl

pub or_right : (a b : Bool) → b ≡ true → a || b ≡ true
or_right true b e = refl
or_right false b e = e

pub or_none : (a : Bool) → a || false ≡ a
or_none true = refl
or_none false = refl

-- if a then b
pub if_at : (a b : Bool) → not a || b ≡ true → a ≡ true → b ≡ true
if_at true b e h = e
if_at false b e h = clash false h refl

pub if_of : (a b : Bool) → (a ≡ true → b ≡ true) → not a || b ≡ true
if_of true b f = f refl
if_of false b f = refl

pub or_swap : (a b c : Bool) → a || (b || c) ≡ b || (a || c)
or_swap true true c = refl
or_swap true false c = refl
or_swap false true c = refl
or_swap false false c = refl

-- two tests that imply one another are the same
pub same_test : (a b : Bool) → (a ≡ true → b ≡ true) → (b ≡ true → a ≡ true) → a ≡ b
same_test true b f g = by_test b (λ e. rw e) (λ e. clash b (f refl) e)
same_test false b f g = by_test b (λ e. clash false (g e) refl) (λ e. rw e)

-- NUMBERS

pub eqb_self : (a : ℕ) → eqb a a ≡ true
eqb_self a = eq-eqb a a refl

-- a number beyond n is none below it
pub beyond_differs : (k i n : ℕ) → i < n → n ≤ k → eqb k i ≡ false
beyond_differs k i n a b = ne_eqb k i (omega arith)

pub both_equal : (k i l j : ℕ) → eqb k i && eqb l j ≡ true → (k ≡ i) × (l ≡ j)
both_equal k i l j e = (eqb-true k i (and_left (eqb k i) (eqb l j) e), eqb-true l j (and_right (eqb k i) (eqb l j) e))

pub not_both_equal : (k i l j : ℕ) → eqb k i && eqb l j ≡ false → k ≡ i → l ≡ j → ⊥
not_both_equal k i l j e p q = clash (eqb k i && eqb l j) (and_intro (eqb k i) (eqb l j) (eq-eqb k i p) (eq-eqb l j q)) e

pub both_differ : (k i l j : ℕ) → (k ≡ i → l ≡ j → ⊥) → eqb k i && eqb l j ≡ false
both_differ k i l j h = by_test (eqb k i && eqb l j) (λ e. absurd (let z = both_equal k i l j e in h z.0 z.1)) (λ e. e)

-- ROWS AND TABLES WITH ONE ENTRY CHANGED

pub update_at {ℓ} : {A : Type ℓ} (f : ℕ → A) (i : ℕ) (a : A) → update f i a i ≡ a
update_at f i a = rw (eqb_self i)

pub on_update {ℓ κ} : {A : Type ℓ} (P : A → Type κ) (f : ℕ → A) (i : ℕ) (a : A) (k : ℕ) → (k ≡ i → P a) → ((k ≡ i → ⊥) → P (f k)) → P (update f i a k)
on_update P f i a k p q = on_cond P (eqb k i) (λ e. p (eqb-true k i e)) (λ e. q (eqb-false k i e))

pub update2_at {ℓ} : {A : Type ℓ} (f : ℕ → ℕ → A) (i j : ℕ) (a : A) → update2 f i j a i j ≡ a
update2_at f i j a = rw (and_intro (eqb i i) (eqb j j) (eqb_self i) (eqb_self j))

pub on_update2 {ℓ κ} : {A : Type ℓ} (P : A → Type κ) (f : ℕ → ℕ → A) (i j : ℕ) (a : A) (k l : ℕ) → (k ≡ i → l ≡ j → P a) → ((k ≡ i → l ≡ j → ⊥) → P (f k l)) → P (update2 f i j a k l)
on_update2 P f i j a k l p q =
    on_cond P (eqb k i && eqb l j) (λ e. let z = both_equal k i l j e in p z.0 z.1) (λ e. q (not_both_equal k i l j e))

-- EVERY

pub every_at : (n : ℕ) (f : ℕ → Bool) → every n f ≡ true → (k : ℕ) → k < n → f k ≡ true
unfolding every
every_at zero f e k h = absurd (omega arith)
every_at (suc n) f e k h =
    by_eq k n (λ q. rw q (and_right (every n f) (f n) e)) (λ q. every_at n f (and_left (every n f) (f n) e) k (omega arith))

pub every_all : (n : ℕ) (f : ℕ → Bool) → ((k : ℕ) → k < n → f k ≡ true) → every n f ≡ true
unfolding every
every_all zero f h = refl
every_all (suc n) f h = and_intro (every n f) (f n) (every_all n f (λ k l. h k (omega arith))) (h n (omega arith))

-- one that fails, where not every one passes
pub every_fails : (n : ℕ) (f : ℕ → Bool) → every n f ≡ false → (k : ℕ) × (k < n) × (f k ≡ false)
unfolding every
every_fails zero f e = clash true refl e
every_fails (suc n) f e =
    by_test (f n)
    (λ q. let r = every_fails n f (by_test (every n f) (λ z. clash (every n f && f n) (and_intro (every n f) (f n) z q) e) (λ z. z)) in (r.0, omega (arith, r.1), r.2))
    (λ q. (n, omega arith, q))

-- FIRST

first_go : (n : ℕ) (f : ℕ → Bool) (o : Option ℕ) → first n f ≡ o → first (suc n) f ≡ elim o [ none ↦ cond (f n) (some n) none | some m ↦ some m ]
unfolding first
first_go n f none e = rw (e, first)
first_go n f (some m) e = rw (e, first)

-- what was found passes
pub first_some : (n : ℕ) (f : ℕ → Bool) (m : ℕ) → first n f ≡ some m → (m < n) × (f m ≡ true)
unfolding first
first_some zero f m e = absurd (let z : ◌≡◌ {A = ℕ} 0 1 = cc in omega arith)
first_some (suc n) f m e =
    by_option_lem (first n f)
    (λ q. by_test (f n)
    (λ t. let z : m ≡ n = cc (first_go n f none q) in (omega arith, rw z t))
    (λ t. absurd (let z : ◌≡◌ {A = ℕ} 0 1 = cc (first_go n f none q) in omega arith)))
    (λ k q. let z : k ≡ m = cc (first_go n f (some k) q) in
    let r = first_some n f k q in
    (omega (arith, r.0), rw (← z) r.1))

-- where nothing was found, none passes
pub first_none : (n : ℕ) (f : ℕ → Bool) → first n f ≡ none → (m : ℕ) → m < n → f m ≡ false
unfolding first
first_none zero f e m h = absurd (omega arith)
first_none (suc n) f e m h =
    by_option_lem (first n f)
    (λ q. by_test (f n)
    (λ t. absurd (let z : ◌≡◌ {A = ℕ} 0 1 = cc (first_go n f none q) in omega arith))
    (λ t. by_eq m n (λ r. rw r t) (λ r. first_none n f q m (omega arith))))
    (λ k q. absurd (let z : ◌≡◌ {A = ℕ} 0 1 = cc (first_go n f (some k) q) in omega arith))

-- before what was found none passes
pub first_least : (n : ℕ) (f : ℕ → Bool) (m : ℕ) → first n f ≡ some m → (k : ℕ) → k < m → f k ≡ false
unfolding first
first_least zero f m e k h = absurd (let z : ◌≡◌ {A = ℕ} 0 1 = cc in omega arith)
first_least (suc n) f m e k h =
    by_option_lem (first n f)
    (λ q. by_test (f n)
    (λ t. let z : m ≡ n = cc (first_go n f none q) in first_none n f q k (omega arith))
    (λ t. absurd (let z : ◌≡◌ {A = ℕ} 0 1 = cc (first_go n f none q) in omega arith)))
    (λ j q. let z : j ≡ m = cc (first_go n f (some j) q) in first_least n f j q k (omega arith))

-- one that passes where none before it does is found
pub first_is : (n : ℕ) (f : ℕ → Bool) (m : ℕ) → m < n → f m ≡ true → ((k : ℕ) → k < m → f k ≡ false) → first n f ≡ some m
first_is n f m l e none_before =
    by_option_lem (first n f)
    (λ q. clash (f m) e (first_none n f q m l))
    (λ k q. by_lt k m
    (λ before. clash (f k) (first_some n f k q).1 (none_before k before))
    (λ later. by_eq k m (λ z. q ∙ ap some z) (λ z. clash (f m) e (first_least n f k q m (omega arith)))))

-- what the least below n that passes is: it passes and none below it does; where none is found, none passes
abbrev pub IsFirst : ℕ → (ℕ → Bool) → Option ℕ → Type 0
IsFirst n f none = (k : ℕ) → k < n → f k ≡ false
IsFirst n f (some m) = (m < n) × ((f m ≡ true) × ((k : ℕ) → k < m → f k ≡ false))

pub first_found : (n : ℕ) (f : ℕ → Bool) → IsFirst n f (first n f)
first_found n f =
    by_option_lem (first n f)
    (λ q. rw q (first_none n f q))
    (λ m q. let z = first_some n f m q in rw q (z.0, (z.1, first_least n f m q)))

-- where none passes, none is found
pub first_nowhere : (n : ℕ) (f : ℕ → Bool) → ((k : ℕ) → k < n → f k ≡ false) → first n f ≡ none
first_nowhere n f h = by_option_lem (first n f) (λ q. q) (λ k q. let z = first_some n f k q in clash (f k) z.1 (h k z.0))

-- where only m passes, m is found
pub first_only : (n : ℕ) (f : ℕ → Bool) (m : ℕ) → m < n → f m ≡ true → ((k : ℕ) → k < n → f k ≡ true → k ≡ m) → first n f ≡ some m
first_only n f m h e only =
    by_option_lem (first n f)
    (λ q. clash (f m) e (first_none n f q m h))
    (λ k q. let r = first_some n f k q in q ∙ ap some (only k r.0 r.1))

-- LISTS OF A FUNCTION'S VALUES

pub length_list_of : {A : Type 0} (n : ℕ) (f : ℕ → A) → length (list_of n f) ≡ n
unfolding list_of
length_list_of zero f = refl
length_list_of (suc n) f = ap suc (length_list_of n (λ k. f (suc k)))

pub list_of_at : {A : Type 0} (n : ℕ) (f : ℕ → A) (d : A) (k : ℕ) → k < n → get_or (list_of n f) k d ≡ f k
unfolding list_of
list_of_at zero f d k h = absurd (omega arith)
list_of_at (suc n) f d zero h = refl
list_of_at (suc n) f d (suc k) h = list_of_at n (λ k. f (suc k)) d k (omega arith)

pub list_of_past : {A : Type 0} (n : ℕ) (f : ℕ → A) (d : A) (k : ℕ) → n ≤ k → get_or (list_of n f) k d ≡ d
unfolding list_of
list_of_past zero f d k h = refl
list_of_past (suc n) f d zero h = absurd (omega arith)
list_of_past (suc n) f d (suc k) h = list_of_past n (λ k. f (suc k)) d k (omega arith)
