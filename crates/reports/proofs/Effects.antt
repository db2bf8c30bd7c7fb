-- WHAT A STEP ANSWERS that only counts one thing: what holds of the number holds of what is answered.
use mathlib.Core.Path.{◌≡◌, sym, ap, ap₂, ◌∙◌, subst}
use Prim.Native.Nat.{ℕ}
use Rattle.reports.specs.declared.Effect.{Effect}
use Rattle.reports.specs.Effects.{putting, queueing}

-- records put on lines
pub only_puts : (B : ℕ → Type 0) (r : Effect) (n : ℕ) → B n → r ≡ putting n → B r.records × (r ≡ putting r.records)
only_puts B r n holds e = let q : r.records ≡ n = ap (λ (x : Effect). x.records) e in (subst B (sym q) holds, e ∙ ap putting (sym q))

-- numbers passed over, and the place of the deepest cart that was queued
pub only_queues : (B : ℕ → ℕ → Type 0) (r : Effect) (p q : ℕ) → B p q → r ≡ queueing p q → B r.passed r.place × (r ≡ queueing r.passed r.place)
only_queues B r p q holds e =
    let a : r.passed ≡ p = ap (λ (x : Effect). x.passed) e in
    let b : r.place ≡ q = ap (λ (x : Effect). x.place) e in
    (subst (λ (x : ℕ). B x r.place) (sym a) (subst (B p) (sym b) holds), e ∙ ap₂ queueing (sym a) (sym b))
