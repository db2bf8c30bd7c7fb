-- THE CHAINS OF THE LINES, as the walk over them goes: one line after the other, until the pool is well-formed or is not.
use mathlib.Core.Path.{◌≡◌, refl, sym, ap, subst, ◌∙◌}
use mathlib.Core.Bool.{Bool, true, false, ◌&&◌}
use mathlib.Core.List.{List}
use Prim.Native.Nat.{ℕ, ◌+◌, ◌<◌}
use native.Mathlib.Omega.{arith}
use Rattle.protocol.proofs.Tests.{by_test}
use Rattle.lines.specs.Bits.{bit_at}
use Rattle.lines.specs.Lines.{rows_of}
use Rattle.lines.specs.Form.{count, line_ok, form}
use Rattle.lines.specs.Parts.{Walked, Surveyed}
use Rattle.lines.proofs.Sums.{every_none, sum_none}
use Rattle.lines.proofs.Formed.{count_lines_lem}
use Rattle.lines.proofs.Test.{survey_fails, survey_more, survey_end}
use Rattle.std.specs.Prelude.{Option, None}
use Rattle.form_lines.specs.declared.Way.{Way}
use Rattle.form_lines.specs.Pass.{Noted}
use Rattle.form_lines.specs.Ways.{Whole, Checked}

-- up to the first line, where no row is marked
pub whole_none : (l s : List ℕ) → ((x : ℕ) → bit_at s x ≡ 0) → Whole l 0 s
whole_none l s h = record {
  right = every_none (line_ok l);
  marks = λ x. h x ∙ sym (count_lines_lem l x 0 ∙ sum_none (λ j. count x (rows_of l j)));
}

-- the same number, said otherwise
pub whole_at : (l s : List ℕ) (a b : ℕ) → a ≡ b → Whole l a s → Whole l b s
whole_at l s a b e w = subst (λ (k : ℕ). Whole l k s) e w

-- ONE MORE LINE, which is the j-th after the first a
module _ (l s s' : List ℕ) (a j : ℕ) (r : Bool) (h : a + j < 256) (w : Whole l (a + j) s) (v : Walked l (a + j) s s' r) where
  pub whole_more : r ≡ true → Whole l (a + (j + 1)) s'
  whole_more e =
      let m = survey_more l s (a + j) h (λ x. w.marks x ∙ count_lines_lem l x (a + j)) s' r v e w.right in
      whole_at l s' (a + j + 1) (a + (j + 1)) (omega arith) (record { right = m.0; marks = λ x. m.1 x ∙ sym (count_lines_lem l x (a + j + 1)) })

  pub whole_fails : r ≡ false → form l ≡ true → ⊥
  whole_fails e = (survey_fails l s (a + j) h (λ x. w.marks x ∙ count_lines_lem l x (a + j)) s' r v e).bad refl

-- ALL OF THEM
pub whole_end : (l s : List ℕ) → Whole l 256 s → Surveyed l s true
whole_end l s w = survey_end l s 256 (omega arith) (omega arith) w.right (λ x. w.marks x ∙ count_lines_lem l x 256)

-- nothing was met where the pool is not well-formed
pub unmet : (l : List ℕ) (k : ℕ) (s masks : List ℕ) (r : Option Way) (due : Noted) → r ≡ None → (form l ≡ true → ⊥) → Checked l k s r masks due
unmet l k s masks r due e h = rw e h

-- THE WHOLE TEST: no where the pool is not well-formed, and else the pass
pub unformed : (l : List ℕ) (p : Bool) → (form l ≡ true → ⊥) → false ≡ (form l && p)
unformed l p h = by_test (form l) (λ e. absurd (h e)) (λ e. sym (ap (λ (b : Bool). b && p) e))

pub formed : (l : List ℕ) (r p : Bool) → form l ≡ true → r ≡ p → r ≡ (form l && p)
formed l r p e q = q ∙ sym (ap (λ (b : Bool). b && p) e)

pub passed : (l : List ℕ) (r p o : Bool) → r ≡ (form l && p) → p ≡ o → r ≡ (form l && o)
passed l r p o e q = e ∙ ap (λ (b : Bool). form l && b) q
