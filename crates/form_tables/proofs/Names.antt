-- Held messages: their names, and their deletes.
use mathlib.Core.Path.{◌≡◌, sym, ap, ap₂, ◌∙◌}
use mathlib.Core.Bool.{Bool, true, false, not, ◌&&◌}
use Prim.Native.Nat.{ℕ, ◌^◌, ◌≤◌, ◌<◌}
use native.Mathlib.Omega.{arith}
use lib.Dec.{eqb}
use borrow.Author.Tests.{eqb-true, eq-eqb, ne_eqb, not-true}
use Rattle.protocol.specs.CartSets.{has, set_of}
use Rattle.protocol.specs.Floor.{Floor, is_held, is_message}
use Rattle.protocol.specs.Claims.{Claim, True, test, all, when, is, eq}
use Rattle.protocol.proofs.Tests.{by_test, by_lt, by_eq, clash, and_left, and_right, and_intro, same_test}
use Rattle.protocol.proofs.SetLaws.{has_set_of, set_of_lt, no_member, member_below}
use Rattle.protocol.proofs.ClaimLaws.{reflect}
use Rattle.sets.specs.Masks.{within}
use Rattle.sets.proofs.MaskLaws.{within_has, has_within}
use Rattle.form_tables.specs.Tables.{delete_right, held_names}
use Rattle.form_tables.specs.Parts.{names_before, held_before}
use Rattle.protocol.proofs.Answers.{yes, no, same_answer}

-- HELD, or free
pub held_of : (F : Floor) (m : ℕ) → (F.waiting m ≡ 0 → ⊥) → is_held F m ≡ true
held_of F m n = ap not (ne_eqb (F.waiting m) 0 n)

pub free_not : (F : Floor) (m : ℕ) → F.waiting m ≡ 0 → is_held F m ≡ true → ⊥
free_not F m e h = clash (eqb (F.waiting m) 0) (eq-eqb (F.waiting m) 0 e) (not-true (eqb (F.waiting m) 0) h)

-- NAMES
module _ (F : Floor) (s n m : ℕ) where
  pub message_yes : is_held F m ≡ true → F.initiator m ≡ s → F.number m ≡ n → is_message F s n m ≡ true
  message_yes h p q =
      and_intro (is_held F m) (eqb (F.initiator m) s && eqb (F.number m) n) h
      (and_intro (eqb (F.initiator m) s) (eqb (F.number m) n) (eq-eqb (F.initiator m) s p) (eq-eqb (F.number m) n q))

  pub message_held : is_message F s n m ≡ true → is_held F m ≡ true
  message_held e = and_left (is_held F m) (eqb (F.initiator m) s && eqb (F.number m) n) e

  pub message_initiator : is_message F s n m ≡ true → F.initiator m ≡ s
  message_initiator e =
      eqb-true (F.initiator m) s (and_left (eqb (F.initiator m) s) (eqb (F.number m) n) (and_right (is_held F m) (eqb (F.initiator m) s && eqb (F.number m) n) e))

  pub message_number : is_message F s n m ≡ true → F.number m ≡ n
  message_number e =
      eqb-true (F.number m) n (and_right (eqb (F.initiator m) s) (eqb (F.number m) n) (and_right (is_held F m) (eqb (F.initiator m) s && eqb (F.number m) n) e))

  pub message_no : (is_message F s n m ≡ true → ⊥) → false ≡ is_message F s n m
  message_no h = by_test (is_message F s n m) (λ e. absurd (h e)) (λ e. sym e)

-- that no room before another has its name says it of every two
module _ (h₀ : ℕ) (F : Floor) where
  alone : True (all h₀ (held_before F)) → True (all h₀ (held_names h₀ F))
  alone h m l q = (
    (h m l q).0,
    (
      λ k lk hk e g. by_lt k m
          (λ b. clash (is_message F (F.initiator m) (F.number m) k) (message_yes F (F.initiator m) (F.number m) k hk (sym e) (sym g)) (not-true _ ((h m l q).1.0 k b)))
          (λ b. by_eq m k (λ z. z) (λ z. clash (is_message F (F.initiator k) (F.number k) m) (message_yes F (F.initiator k) (F.number k) m q e g) (not-true _ ((h k lk hk).1.0 m (omega arith))))),
      (h m l q).1.1,
    ),
  )

  apart : True (all h₀ (held_names h₀ F)) → True (all h₀ (held_before F))
  apart h m l q = (
    (h m l q).0,
    (
      λ k lk. by_test (is_message F (F.initiator m) (F.number m) k)
          (λ e. absurd (let z = (h m l q).1.0 k (omega arith) (message_held F (F.initiator m) (F.number m) k e) (sym (message_initiator F (F.initiator m) (F.number m) k e)) (sym (message_number F (F.initiator m) (F.number m) k e)) in omega arith))
          (λ e. ap not e),
      (h m l q).1.1,
    ),
  )

  pub names_alone : test (all h₀ (held_before F)) ≡ test (all h₀ (held_names h₀ F))
  names_alone = same_answer (all h₀ (held_before F)) (all h₀ (held_names h₀ F)) alone apart

-- DELETES, of n stations
module _ (n waiting acked named : ℕ) where
  abbrev pub whole : Claim
  whole = all n (λ t. when (is (not (has waiting t))) (eq acked named))

  pub delete_same : acked ≡ named → true ≡ test whole
  delete_same e = yes whole (λ t l q. e)

  pub delete_many : waiting < 2 ^ 64 → 64 < n → (acked ≡ named → ⊥) → false ≡ test whole
  delete_many word l d =
      no whole (λ h. d (h 64 l (ap not (no_member 64 waiting 64 word (omega arith)))))

  pub delete_within : n ≤ 64 → (acked ≡ named → ⊥) → (r : Bool) (a : ℕ) → a ≡ set_of n (λ c. true) → r ≡ within 64 a waiting → r ≡ test whole
  delete_within l d r a e g =
      g ∙ same_test (within 64 a waiting) (test whole)
      (λ w. (reflect whole).1 (λ t lt q. clash (has waiting t)
      (within_has 64 a waiting w t (omega arith) (ap (λ (x : ℕ). has x t) e ∙ has_set_of n (λ c. true) t lt)) (not-true (has waiting t) q)))
      (λ w. has_within 64 a waiting (λ t lt q. by_test (has waiting t) (λ z. z)
      (λ z. absurd (d ((reflect whole).0 w t (member_below n (set_of n (λ c. true)) t (set_of_lt n (λ c. true)) (ap (λ (x : ℕ). has x t) (sym e) ∙ q)) (ap not z))))))

-- ONE HELD MESSAGE
module _ (F : Floor) (m : ℕ) where
  -- what its words say, as the clauses have it
  pub names_as : (s n : ℕ) → s ≡ F.initiator m → n ≡ F.number m → test (all m (λ k. is (not (is_message F s n k)))) ≡ test (names_before F m)
  names_as s n es en = ap₂ (λ (x y : ℕ). test (all m (λ k. is (not (is_message F x y k))))) es en

  pub delete_as : (n w a d : ℕ) → n ≡ F.stations → w ≡ F.waiting m → a ≡ F.acked m → d ≡ F.named m → test (whole n w a d) ≡ test (delete_right F m)
  delete_as n w a d en ew ea ed =
      ap₂ (λ (x y : ℕ). test (whole x y a d)) en ew ∙ ap₂ (λ (x y : ℕ). test (whole F.stations (F.waiting m) x y)) ea ed

  pub held_free : F.waiting m ≡ 0 → true ≡ test (held_before F m)
  held_free e = yes (held_before F m) (λ h. absurd (free_not F m e h))

  module _ (h : is_held F m ≡ true) where
    pub held_not_sent : F.sent (F.initiator m) ≤ F.number m → false ≡ test (held_before F m)
    held_not_sent l = no (held_before F m) (λ p. omega (arith, (p h).0))

    pub held_twice : (True (names_before F m) → ⊥) → false ≡ test (held_before F m)
    held_twice d = no (held_before F m) (λ p. d (p h).1.0)

    pub held_end : F.number m < F.sent (F.initiator m) → True (names_before F m) → (r : Bool) → r ≡ test (delete_right F m) → r ≡ test (held_before F m)
    held_end l a r g = g ∙ same_answer (delete_right F m) (held_before F m) (λ d q. (l, (a, d))) (λ p. (p h).1.1)
