-- THE STATUS OF A RUN OVER FRAMES, down its tests, and what a status of 0 says.
use mathlib.Core.Path.{◌≡◌, refl, sym, ap, ◌∙◌}
use mathlib.Core.Bool.{Bool, true, false, cond, ◌||◌}
use mathlib.Core.List.{List}
use Prim.Native.Nat.{ℕ, ◌≤◌, ◌<◌, ◌+◌}
use native.Mathlib.Omega.{arith}
use lib.Dec.{eqb, leb}
use lib.ListN.{length}
use borrow.Author.Tests.{leb-false, lt-leb, le-leb, eq-eqb, ne_eqb}
use Rattle.protocol.proofs.Tests.{by_eq, or-false}
use Rattle.mekhturia.specs.Status.{status_of}
use Rattle.mekhturia.specs.Frames.{far, frames_status}

-- both tests, where what they make is 0
cond_zero : (away : Bool) → ◌≡◌ {A = ℕ} (cond away 3 0) 0 → away ≡ false
cond_zero true z = absurd (let e : ◌≡◌ {A = ℕ} 3 0 = z in omega arith)
cond_zero false z = refl

both_zero : (s : ℕ) (away : Bool) → cond (eqb s 0) (cond away 3 0) s ≡ 0 → (s ≡ 0) × (away ≡ false)
both_zero s away z =
    by_eq s 0
    (λ e. (e, cond_zero away (sym (ap (λ (b : Bool). cond b (cond away 3 0) s) (eq-eqb s 0 e)) ∙ z)))
    (λ n. absurd (n (sym (ap (λ (b : Bool). cond b (cond away 3 0) s) (ne_eqb s 0 n)) ∙ z)))

module _ (product : ℕ) (out : List ℕ) (index : ℕ) (input : List ℕ) where
  abbrev away_in : Bool
  away_in = leb far index || leb far (length input)

  abbrev by_first : Bool → ℕ
  by_first b = cond b (cond away_in 3 0) (status_of product out)

  -- the ways of the code that asks for it
  module _ (r : ℕ) (is : r ≡ status_of product out) where
    pub frames_other : (r ≡ 0 → ⊥) → r ≡ frames_status product out index input
    frames_other other = is ∙ sym (ap by_first (ne_eqb (status_of product out) 0 (λ z. other (is ∙ z))))

    module _ (z : r ≡ 0) where
      behind : cond away_in 3 0 ≡ frames_status product out index input
      behind = sym (ap by_first (eq-eqb (status_of product out) 0 (sym is ∙ z)))

      pub frames_index : far ≤ index → 3 ≡ frames_status product out index input
      frames_index l = sym (ap (λ (b : Bool). cond (b || leb far (length input)) 3 0) (le-leb far index l)) ∙ behind

      pub frames_size : index < far → far ≤ length input → 3 ≡ frames_status product out index input
      frames_size i l =
          sym
          (ap (λ (b : Bool). cond (b || leb far (length input)) 3 0) (lt-leb far index i) ∙ ap (λ (b : Bool). cond b 3 0) (le-leb far (length input) l)) ∙
          behind

      pub frames_near : index < far → length input < far → 0 ≡ frames_status product out index input
      frames_near i l =
          sym
          (ap (λ (b : Bool). cond (b || leb far (length input)) 3 0) (lt-leb far index i) ∙ ap (λ (b : Bool). cond b 3 0) (lt-leb far (length input) l)) ∙
          behind

  -- with status 0 every call would be answered, and the piece ends below 2 ^ 64
  module _ (r : ℕ) (is : r ≡ frames_status product out index input) (z : r ≡ 0) where
    both : (status_of product out ≡ 0) × (away_in ≡ false)
    both = both_zero (status_of product out) away_in (sym is ∙ z)

    pub frames_answered : 0 ≡ status_of product out
    frames_answered = sym both.0

    pub near : index + length input + 1 < 18446744073709551616
    near =
        let no = or-false (leb far index) (leb far (length input)) both.1 in
        let i = leb-false far index no.0 in
        let l = leb-false far (length input) no.1 in
        omega arith
