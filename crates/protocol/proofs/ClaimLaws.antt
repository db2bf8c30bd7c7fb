-- Claims that are tests and facts at once: the form rule's clauses are written once, as claims.
use mathlib.Core.Path.{refl, ◌≡◌}
use mathlib.Core.Bool.{Bool, true}
use mathlib.Core.List.{List, [], ◌∷◌}
use borrow.Author.Tests.{eq-eqb, eqb-true, le-leb, leb-true}
use Rattle.protocol.specs.Floor.{Record}
use Rattle.protocol.specs.Claims.{All, Claim, True, all, both, eq, every_record, is, le, on_line, test, when}
use Rattle.protocol.proofs.Tests.{and_intro, and_left, and_right, by_test, every_all, every_at, if_at}

rec_at : (w : List Record) (f : Record → Bool) (P : Record → Type 0) → ((r : Record) → f r ≡ true → P r) → every_record w f ≡ true → All P w
rec_at [] f P h e = tt
rec_at (r ∷ w) f P h e = (h r (and_left (f r) (every_record w f) e), rec_at w f P h (and_right (f r) (every_record w f) e))

rec_of : (w : List Record) (f : Record → Bool) (P : Record → Type 0) → ((r : Record) → P r → f r ≡ true) → All P w → every_record w f ≡ true
rec_of [] f P h a = refl
rec_of (r ∷ w) f P h a = and_intro (f r) (every_record w f) (h r a.0) (rec_of w f P h a.1)

-- a claim's test passes exactly when it is true
pub reflect : (p : Claim) → (test p ≡ true → True p) × (True p → test p ≡ true)
unfolding test
reflect (is b) = ((λ e. e), (λ e. e))
reflect (le a b) = (leb-true a b, le-leb a b)
reflect (eq a b) = (eqb-true a b, eq-eqb a b)
reflect (both p q) =
    let P = reflect p in let Q = reflect q in
    ((λ e. (P.0 (and_left (test p) (test q) e), Q.0 (and_right (test p) (test q) e))), (λ h. and_intro (test p) (test q) (P.1 h.0) (Q.1 h.1)))
reflect (when p q) =
    let P = reflect p in let Q = reflect q in (
      (λ e h. Q.0 (if_at (test p) (test q) e (P.1 h))),
      (λ h. by_test (test p) (λ e. rw (e, Q.1 (h (P.0 e)))) (λ e. rw e)),
    )
reflect (all n f) =
    ((λ e k l. (reflect (f k)).0 (every_at n (λ k. test (f k)) e k l)), (λ h. every_all n (λ k. test (f k)) (λ k l. (reflect (f k)).1 (h k l))))
reflect (on_line w f) =
    ((λ e. rec_at w (λ r. test (f r)) (λ r. True (f r)) (λ r. (reflect (f r)).0) e), (λ a. rec_of w (λ r. test (f r)) (λ r. True (f r)) (λ r. (reflect (f r)).1) a))
