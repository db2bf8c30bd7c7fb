-- Laws of the free rows and their summary, and of marks in a row of words.
use mathlib.Core.Path.{◌≡◌, refl, sym, ap, ap₂, ◌∙◌, subst, fun_ext}
use mathlib.Core.Bool.{Bool, true, false, not, ◌&&◌, ◌||◌}
use mathlib.Core.Option.{some}
use mathlib.Core.List.{List}
use Prim.Native.Nat.{ℕ, ◌+◌, ◌-◌, ◌*◌, ◌/◌, ◌%◌, ◌^◌, ◌≤◌, ◌<◌, min, max}
use native.Mathlib.Decide.{ℕ_discrete}
use native.Mathlib.Omega.{arith}
use lib.Dec.{eqb, ltb}
use lib.ListN.{length, get_or, set, length-set}
use lib.Seq.{get_or-set_same, get_or-set_other}
use borrow.Author.Tests.{lt-ltb, le-ltb, ltb-true}
use Rattle.protocol.specs.Folds.{every}
use Rattle.protocol.specs.CartSets.{digit, has, union, with, without, set_of}
use Rattle.protocol.specs.Form.{bit}
use Rattle.protocol.proofs.SetLaws.{has_union, union_lt, with_lt, without_lt, member_below, set_of_beyond, has_set_of, same_members}
use Rattle.protocol.proofs.Tests.{by_lt, every_at, every_all}
use Rattle.sets.specs.Masks.{least, disjoint}
use Rattle.sets.proofs.MaskLaws.{with_here, with_other, without_here, without_other, digit_is, least_member}
use Rattle.lines.specs.Bits.{bit_at}
use Rattle.lines.specs.Words.{summary_of}
use Rattle.lines.specs.Form.{summary_ok}
use Rattle.lines.specs.Parts.{Summed, Full, Freed, Taken, Given, Marked}
use Rattle.lines.proofs.Digits.{same_yes, same_no, below_yes, below_no, digit_none, digit_has, has_digit, with_digit, without_digit}
use Rattle.lines.proofs.Sums.{not_true_false, and-true}

-- ---- one bit of the summary
pub summed_with : (s w x r : ℕ) → r ≡ with s w → 0 < x → w < 49 → Summed s w x r
summed_with s w x r e p hw = rw e (record {
  here = with_here s w ∙ sym (lt-ltb 0 x p);
  there = λ c q. with_other s w c (λ e. q (sym e));
  small = λ h. with_lt 49 s w h hw;
})

pub summed_without : (s w x r : ℕ) → r ≡ without s w → x ≤ 0 → Summed s w x r
summed_without s w x r e p = rw e (record {
  here = without_here s w ∙ sym (le-ltb 0 x p);
  there = λ c q. without_other s w c (λ e. q (sym e));
  small = without_lt 49 s w;
})

-- ---- a word whose rows are all free
module _ (rows w : ℕ) where
  pub full_none : rows ≤ w * 64 → Full rows w 0
  full_none h c hc = digit_none c ∙ sym (below_no (w * 64 + c) rows (omega arith))

  pub full_some : (n r : ℕ) → n ≡ min 64 (rows - w * 64) → r ≡ set_of n (λ c. true) → Full rows w r
  full_some n r e q c hc =
      ap (λ (x : ℕ). digit x c) q ∙ digit_is (set_of n (λ c. true)) c
      ∙ by_lt c n
      (λ h. ap bit (has_set_of n (λ c. true) c h) ∙ sym (below_yes (w * 64 + c) rows (omega arith)))
      (λ h. ap bit (set_of_beyond n (λ c. true) c h) ∙ sym (below_no (w * 64 + c) rows (omega arith)))

-- ---- the summary
pub record Summary (l : List ℕ) : Type 0 where
  pub bits : (w : ℕ) → w < 49 → has (summary_of l) w ≡ ltb 0 (get_or l w 0)
  pub small : summary_of l < 2 ^ 49

pub summary_of_lem : (l : List ℕ) → summary_ok l ≡ true → Summary l
unfolding summary_ok
summary_of_lem l e =
    let w = and-true (every 49 (λ w. eqb (digit (summary_of l) w) (bit (ltb 0 (get_or l w 0))))) (ltb (summary_of l) (2 ^ 49)) e in record {
      bits = λ v h. digit_has (summary_of l) v (ltb 0 (get_or l v 0)) (every_at 49 (λ w. eqb (digit (summary_of l) w) (bit (ltb 0 (get_or l w 0)))) w.0 v h);
      small = ltb-true _ _ w.1;
    }

pub of_summary : (l : List ℕ) → Summary l → summary_ok l ≡ true
unfolding summary_ok
of_summary l s =
    ap₂ ◌&&◌ (every_all 49 (λ w. eqb (digit (summary_of l) w) (bit (ltb 0 (get_or l w 0)))) (λ w h. has_digit (summary_of l) w (ltb 0 (get_or l w 0)) (s.bits w h))) (lt-ltb _ _ s.small)

-- a member of the summary is a word that is not 0
module _ (l : List ℕ) (s : Summary l) (w : ℕ) (e : has (summary_of l) w ≡ true) where
  pub summary_low : w < 49
  summary_low = member_below 49 (summary_of l) w s.small e

  pub summary_some : 0 < get_or l w 0
  summary_some = ltb-true 0 (get_or l w 0) (sym (s.bits w summary_low) ∙ e)

-- the least of them is the word of the lowest free row
pub first_word : (l : List ℕ) (w : ℕ) → summary_ok l ≡ true → least 64 (summary_of l) ≡ some w → (w < 49) × (0 < get_or l w 0)
first_word l w ok e =
    let h = (least_member 64 (summary_of l) w e).1 in
    (summary_low l (summary_of_lem l ok) w h, summary_some l (summary_of_lem l ok) w h)

-- ---- a word of the free rows
pub freed_is : (l : List ℕ) (w x s : ℕ) → w < 49 → 50 ≤ length l → Summed (get_or (set l w x) 49 0) w x s → Freed l (set (set l w x) 49 s) w x
freed_is l w x s hw hl h =
    let far : w ≡ 49 → ⊥ = omega arith in
    record {
      word = get_or-set_other (set l w x) 49 w s 0 far ∙ get_or-set_same l w x 0 (omega arith);
      others = λ a ha hs. get_or-set_other (set l w x) 49 a s 0 hs ∙ get_or-set_other l w a x 0 ha;
      summary = subst (λ (t : ℕ). Summed (summary_of l) w x t) (sym (get_or-set_same (set l w x) 49 s 0 (simp length-set (omega arith))))
          (subst (λ (t : ℕ). Summed t w x s) (get_or-set_other l w 49 x 0 (omega arith)) h);
    }

-- a word that was not 0 and is not 0: its bit of the summary stays
pub freed_still : (l : List ℕ) (w x : ℕ) → w < 49 → 50 ≤ length l → Summary l → 0 < get_or l w 0 → 0 < x → Freed l (set l w x) w x
freed_still l w x hw hl s was is =
    let far : 49 ≡ w → ⊥ = omega arith in
    record {
      word = get_or-set_same l w x 0 (omega arith);
      others = λ a ha hs. get_or-set_other l w a x 0 ha;
      summary = subst (λ (t : ℕ). Summed (summary_of l) w x t) (sym (get_or-set_other l w 49 x 0 far))
          (record { here = s.bits w hw ∙ lt-ltb 0 (get_or l w 0) was ∙ sym (lt-ltb 0 x is); there = λ c d. refl; small = λ q. q });
    }

module _ (l l' : List ℕ) (w x : ℕ) (h : Freed l l' w x) (hw : w < 49) where
  pub freed_summary : Summary l → Summary l'
  freed_summary s = record { bits = λ v hv. pick v hv (ℕ_discrete v w); small = h.summary.small s.small }
    where
      pick : (v : ℕ) → v < 49 → Dec (v ≡ w) → has (summary_of l') v ≡ ltb 0 (get_or l' v 0)
      pick v hv (yes q) = ap (has (summary_of l')) q ∙ h.summary.here ∙ ap (ltb 0) (sym h.word ∙ ap (λ (a : ℕ). get_or l' a 0) (sym q))
      pick v hv (no q) = h.summary.there v q ∙ s.bits v hv ∙ ap (ltb 0) (sym (h.others v q (omega arith)))

  freed_here : (y : ℕ) → y / 64 ≡ w → bit_at l' y ≡ digit x (y % 64)
  unfolding bit_at
  freed_here y q = ap (λ (t : ℕ). digit t (y % 64)) (ap (λ (a : ℕ). get_or l' a 0) q ∙ h.word)

  freed_there : (y : ℕ) → y < 3136 → (y / 64 ≡ w → ⊥) → bit_at l' y ≡ bit_at l y
  unfolding bit_at
  freed_there y hy q = ap (λ (t : ℕ). digit t (y % 64)) (h.others (y / 64) q (omega arith))

-- row b of word w
pub row_bit : (l : List ℕ) (w b : ℕ) → b < 64 → bit_at l (w * 64 + b) ≡ digit (get_or l w 0) b
unfolding bit_at
row_bit l w b hb = ap₂ (λ (a d : ℕ). digit (get_or l a 0) d) word place
  where
    word : (w * 64 + b) / 64 ≡ w
    word = omega arith

    place : (w * 64 + b) % 64 ≡ b
    place = omega arith

-- the bit of row y, where y is in word w
at_word : (l : List ℕ) (w y : ℕ) → y / 64 ≡ w → bit_at l y ≡ digit (get_or l w 0) (y % 64)
unfolding bit_at
at_word l w y q = ap (λ (a : ℕ). digit (get_or l a 0) (y % 64)) q

-- row f is bit b of word w: so it is row y exactly where y's word and bit are these
row_here : (f w b y : ℕ) → f ≡ w * 64 + b → b < 64 → y / 64 ≡ w → bit (eqb f y) ≡ bit (eqb b (y % 64))
row_here f w b y e hb q = pick (ℕ_discrete b (y % 64))
  where
    pick : Dec (b ≡ y % 64) → bit (eqb f y) ≡ bit (eqb b (y % 64))
    pick (yes h) = same_yes f y (omega arith) ∙ sym (same_yes b (y % 64) h)
    pick (no h) = same_no f y (λ t. h (omega arith)) ∙ sym (same_no b (y % 64) h)

row_there : (f w b y : ℕ) → f ≡ w * 64 + b → b < 64 → (y / 64 ≡ w → ⊥) → bit (eqb f y) ≡ 0
row_there f w b y e hb q = same_no f y (λ t. q (omega arith))

-- the least free row of a word is taken out of it
pub take_is : (l l' : List ℕ) (w b x : ℕ) → summary_ok l ≡ true → w < 49 → least 64 (get_or l w 0) ≡ some b
    → x ≡ without (get_or l w 0) b → Freed l l' w x → Taken l l' (w * 64 + b)
take_is l l' w b x ok hw low out h =
    record {
      within = omega (arith, hw, here.0);
      was = row_bit l w b here.0 ∙ digit_is (get_or l w 0) b ∙ ap bit here.1;
      bits = λ y hy. pick y hy (ℕ_discrete (y / 64) w);
      rest = λ a ha. h.others a (omega (arith, hw)) (omega arith);
      summary = of_summary l' (freed_summary l l' w x h hw (summary_of_lem l ok));
    }
  where
    here : (b < 64) × (has (get_or l w 0) b ≡ true)
    here = least_member 64 (get_or l w 0) b low

    pick : (y : ℕ) → y < 3136 → Dec (y / 64 ≡ w) → bit_at l' y ≡ bit_at l y - bit (eqb (w * 64 + b) y)
    pick y hy (yes q) =
        let gone = ap (λ (t : ℕ). digit t (y % 64)) out ∙ without_digit (get_or l w 0) b (y % 64) in
        omega (arith, freed_here l l' w x h hw y q, gone, at_word l w y q, row_here (w * 64 + b) w b y refl here.0 q)
    pick y hy (no q) = omega (arith, freed_there l l' w x h hw y hy q, row_there (w * 64 + b) w b y refl here.0 q)

pub give_is : (l l' : List ℕ) (f x : ℕ) → summary_ok l ≡ true → f < 3136 → x ≡ with (get_or l (f / 64) 0) (f % 64) → Freed l l' (f / 64) x → Given l l' f
give_is l l' f x ok hf put h =
    let hw : f / 64 < 49 = omega arith in
    record {
      bits = λ y hy. pick hw y hy (ℕ_discrete (y / 64) (f / 64));
      rest = λ a ha. h.others a (omega (arith, hw)) (omega arith);
      summary = of_summary l' (freed_summary l l' (f / 64) x h hw (summary_of_lem l ok));
    }
  where
    pick : f / 64 < 49 → (y : ℕ) → y < 3136 → Dec (y / 64 ≡ f / 64) → bit_at l' y ≡ max (bit_at l y) (bit (eqb f y))
    pick hw y hy (yes q) =
        let there = ap (λ (t : ℕ). digit t (y % 64)) put ∙ with_digit (get_or l (f / 64) 0) (f % 64) (y % 64) in
        omega (arith, freed_here l l' (f / 64) x h hw y q, there, at_word l (f / 64) y q, row_here f (f / 64) (f % 64) y (omega arith) (omega arith) q)
    pick hw y hy (no q) = omega (arith, freed_there l l' (f / 64) x h hw y hy q, row_there f (f / 64) (f % 64) y (omega arith) (omega arith) q)

pub mark_is : (s : List ℕ) (f x : ℕ) → f < length s * 64 → x ≡ with (get_or s (f / 64) 0) (f % 64) → Marked s (set s (f / 64) x) f
unfolding bit_at
mark_is s f x hf put y = pick (ℕ_discrete (y / 64) (f / 64))
  where
    pick : Dec (y / 64 ≡ f / 64) → digit (get_or (set s (f / 64) x) (y / 64) 0) (y % 64) ≡ max (digit (get_or s (y / 64) 0) (y % 64)) (bit (eqb f y))
    pick (yes q) =
        ap (λ (a : ℕ). digit (get_or (set s (f / 64) x) a 0) (y % 64)) q
        ∙ ap (λ (t : ℕ). digit t (y % 64)) (get_or-set_same s (f / 64) x 0 (omega arith) ∙ put)
        ∙ with_digit (get_or s (f / 64) 0) (f % 64) (y % 64)
        ∙ ap₂ max (ap (λ (a : ℕ). digit (get_or s a 0) (y % 64)) (sym q)) (sym (row_here f (f / 64) (f % 64) y (omega arith) (omega arith) q))
    pick (no q) =
        ap (λ (t : ℕ). digit t (y % 64)) (get_or-set_other s (f / 64) (y / 64) x 0 q)
        ∙ none (digit (get_or s (y / 64) 0) (y % 64)) (row_there f (f / 64) (f % 64) y (omega arith) (omega arith) q)
      where
        none : (d : ℕ) → bit (eqb f y) ≡ 0 → d ≡ max d (bit (eqb f y))
        none d e = omega arith

-- ---- the test of a word
abbrev word_test : ℕ → ℕ → ℕ → ℕ → Bool
word_test s f whole c = eqb (digit s c + digit f c) (digit whole c)

word_test_lem : (s f whole c : ℕ) → word_test s f whole c ≡ eqb (bit (has s c) + bit (has f c)) (bit (has whole c))
word_test_lem s f whole c = ap₂ eqb (ap₂ ◌+◌ (digit_is s c) (digit_is f c)) (digit_is whole c)

module _ (s f whole : ℕ) where
  pub word_or : s < 2 ^ 64 → f < 2 ^ 64 → whole < 2 ^ 64 → (union s f ≡ whole → ⊥) → false ≡ every 64 (λ c. eqb (digit s c + digit f c) (digit whole c))
  word_or hs hf hw h = not_true_false (every 64 (word_test s f whole)) (λ t. h (same_members 64 (union s f) whole (union_lt 64 s f hs hf) hw (λ c hc.
      has_union s f c ∙ either (has s c) (has f c) (has whole c) (sym (word_test_lem s f whole c) ∙ every_at 64 (word_test s f whole) t c hc))))
    where
      either : (a b w : Bool) → eqb (bit a + bit b) (bit w) ≡ true → (a || b) ≡ w
      either true true true e = refl
      either true true false e = sym e
      either true false true e = refl
      either true false false e = sym e
      either false true true e = refl
      either false true false e = sym e
      either false false true e = e
      either false false false e = refl

  pub word_and : union s f ≡ whole → disjoint 64 s f ≡ every 64 (λ c. eqb (digit s c + digit f c) (digit whole c))
  unfolding disjoint
  word_and e = ap (every 64) (fun_ext (λ c. not_both (has s c) (has f c) (has whole c) (sym (has_union s f c) ∙ ap (λ (x : ℕ). has x c) e) ∙ sym (word_test_lem s f whole c)))
    where
      not_both : (a b w : Bool) → (a || b) ≡ w → not (a && b) ≡ eqb (bit a + bit b) (bit w)
      not_both true true w e = rw (← e)
      not_both true false w e = rw (← e)
      not_both false true w e = rw (← e)
      not_both false false w e = rw (← e)

-- ---- words that stay
module _ (l l' : List ℕ) (same : (a : ℕ) → a < 50 → get_or l' a 0 ≡ get_or l a 0) where
  pub bits_same : (x : ℕ) → x < 3136 → bit_at l' x ≡ bit_at l x
  unfolding bit_at
  bits_same x h = ap (λ (y : ℕ). digit y (x % 64)) (same (x / 64) (omega arith))

  pub summary_same : summary_ok l ≡ true → summary_ok l' ≡ true
  summary_same e = let s = summary_of_lem l e in of_summary l' (record {
    bits = λ w h. ap (λ (y : ℕ). has y w) (same 49 (omega arith)) ∙ s.bits w h ∙ ap (ltb 0) (sym (same w (omega arith)));
    small = subst (λ (y : ℕ). y < 2 ^ 49) (sym (same 49 (omega arith))) s.small;
  })
