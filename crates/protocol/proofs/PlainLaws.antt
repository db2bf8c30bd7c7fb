-- The plain lists by themselves: how many entries a send adds, and that their form rule is kept.
use mathlib.Core.Path.{ap, refl, ◌∙◌, ◌≡◌}
use mathlib.Core.Bool.{◌&&◌, cond, false, not, true}
use mathlib.Core.List.{◌++◌, List, [], ◌∷◌}
use Prim.Native.Nat.{◌+◌, ◌<◌, ◌^◌, suc, ℕ, ◌≤◌}
use native.Mathlib.Omega.{arith}
use lib.Dec.{eqb, leb, ltb}
use lib.ListN.{drop, length, length-append}
use borrow.Author.Tests.{eqb-true, leb-false, ltb-false, ne_eqb}
use Rattle.protocol.specs.Folds.{count, sum}
use Rattle.protocol.specs.CartSets.{has}
use Rattle.protocol.specs.Floor.{Limits, most_text}
use Rattle.protocol.specs.Claims.{True}
use Rattle.protocol.specs.Refusals.{wrong_size}
use Rattle.protocol.specs.TwoLists.{Item, item}
use Rattle.protocol.specs.PlainLists.{Plain, PlainCall, appended, beheaded, entries, items_rule, most_entries, plain_accept, plain_after_calls, plain_answer, plain_passes, plain_refused, plain_refusal, plain_rule, plain_send, plain_start, plain_started, plain_step, plain_take}
use Rattle.protocol.proofs.Tests.{by_eq, by_test, eqb_self, on_cond, on_update, on_update2}
use Rattle.protocol.proofs.Accepted.{passed_check}
use Rattle.protocol.proofs.Counting.{sum_add, sum_bump, sum_ext, sum_mono, sum_zero}
use Rattle.protocol.proofs.SumSteps.{sum_count}
use Rattle.protocol.proofs.ClaimLaws.{reflect}
use Rattle.protocol.proofs.Sized.{CountsFit}
use Rattle.protocol.proofs.Ready.{right_size}

-- THE ENTRIES

-- a send adds one for each named cart
pub entries_more : (P : Plain) (s set : ℕ) (text : List ℕ) → s < P.stations
    → entries (appended P s set text) ≡ entries P + count P.carts (has set)
unfolding entries appended
entries_more P s set text ls =
    let k = P.carts in
    let new : ℕ → ℕ → List Item = λ u c. cond (eqb u s && has set c) (P.list u c ++ (item (P.count s) text ∷ [])) (P.list u c) in
    let one : (c : ℕ) → length (new s c) ≡ cond (has set c) 1 0 + length (P.list s c) =
    λ c. by_test (has set c)
    (λ e. rw (e, eqb_self s) (let z = length-append (P.list s c) (item (P.count s) text ∷ []) in omega arith))
    (λ e. rw (e, eqb_self s) (omega arith)) in
    let row : sum k (λ c. length (new s c)) ≡ count k (has set) + sum k (λ c. length (P.list s c)) =
    sum_ext k (λ c. length (new s c)) (λ c. cond (has set c) 1 0 + length (P.list s c)) (λ c l. one c)
    ∙ sum_add k (λ c. cond (has set c) 1 0) (λ c. length (P.list s c)) ∙ ap (λ (x : ℕ). x + sum k (λ c. length (P.list s c))) (sum_count k (has set)) in
    let z = sum_bump P.stations (λ u. sum k (λ c. length (new u c))) (λ u. sum k (λ c. length (P.list u c))) s (count k (has set)) ls
    (λ u lu ne. rw (ne_eqb u s ne)) row in
    omega arith

drop_shorter : (l : List Item) → length (drop 1 l) ≤ length l
drop_shorter [] = omega arith
drop_shorter (x ∷ l) = omega arith

-- a take adds none
entries_less : (P : Plain) (s c : ℕ) → entries (beheaded P s c) ≤ entries P
unfolding entries beheaded
entries_less P s c =
    sum_mono P.stations _ _ (λ u lu. sum_mono P.carts _ _ (λ d ld. on_update2 (λ (l : List Item). length l ≤ length (P.list u d)) P.list s c (drop 1 (P.list s c)) u d
    (λ a b. rw (a, b) (drop_shorter (P.list s c))) (λ h. omega arith)))

-- none at a start
pub entries_none : (n k : ℕ) → entries (plain_started n k) ≡ 0
unfolding entries
entries_none n k = sum_ext n (λ s. sum k (λ c. 0)) (λ s. 0) (λ s l. sum_zero k) ∙ sum_zero n

-- A LIST'S NUMBERS

items_wider : (M : Limits) (low : ℕ) (l : List Item) (high : ℕ) → True (items_rule M low l high) → True (items_rule M low l (suc high))
items_wider M low [] high h = refl
items_wider M low (x ∷ l) high h = (h.0, (let z = h.1.0 in omega arith, (h.1.1.0, items_wider M (suc x.number) l high h.1.1.1)))

items_lower : (M : Limits) (low : ℕ) (l : List Item) (high : ℕ) → True (items_rule M low l high) → True (items_rule M 0 l high)
items_lower M low [] high h = refl
items_lower M low (x ∷ l) high h = (omega arith, h.1)

items_more : (M : Limits) (low : ℕ) (l : List Item) (high : ℕ) (text : List ℕ) → low ≤ high → length text ≤ most_text M → True (items_rule M low l high)
    → True (items_rule M low (l ++ (item high text ∷ [])) (suc high))
items_more M low [] high text b f h = (b, (omega arith, (f, refl)))
items_more M low (x ∷ l) high text b f h =
    (h.0, (let z = h.1.0 in omega arith, (h.1.1.0, items_more M (suc x.number) l high text (let z = h.1.0 in omega arith) f h.1.1.1)))

items_rest : (M : Limits) (l : List Item) (high : ℕ) → True (items_rule M 0 l high) → True (items_rule M 0 (drop 1 l) high)
items_rest M [] high h = refl
items_rest M (x ∷ l) high h = items_lower M (suc x.number) l high h.1.1.1

-- THE FORM RULE IS KEPT

pub plain_rule_of : (M : Limits) (P : Plain) → plain_passes M P ≡ true → True (plain_rule M P)
unfolding plain_passes
plain_rule_of M P h = (reflect (plain_rule M P)).0 h

pub plain_passes_of : (M : Limits) (P : Plain) → True (plain_rule M P) → plain_passes M P ≡ true
unfolding plain_passes
plain_passes_of M P h = (reflect (plain_rule M P)).1 h

pub plain_form_started : (M : Limits) (n k : ℕ) → CountsFit M n k → plain_passes M (plain_started n k) ≡ true
plain_form_started M n k fit =
    plain_passes_of M (plain_started n k)
    ((refl, (refl, (refl, ((fit.some_stations, fit.stations), (fit.some_carts, fit.carts))))), ((λ s l. omega arith), ((λ s l c lc. refl), let z = entries_none n k in omega arith)))

appended_rule : (M : Limits) (P : Plain) (s set : ℕ) (text : List ℕ) → s < P.stations → length text ≤ most_text M → P.count s ≤ M.last
    → entries (appended P s set text) ≤ most_entries M → True (plain_rule M P) → True (plain_rule M (appended P s set text))
unfolding appended
appended_rule M P s set text ls lt ln le h = (
  h.0,
  (
    (λ u lu. on_update (λ x. x ≤ suc M.last) P.count s (suc (P.count s)) u (λ z. omega arith) (λ z. h.1.0 u lu)),
    (
      (λ u lu c lc.
          by_eq u s
          (λ z. rw (z, eqb_self s) (by_test (has set c)
          (λ e. rw e (items_more M 0 (P.list s c) (P.count s) text (omega arith) lt (h.1.1.0 s ls c lc)))
          (λ e. rw e (items_wider M 0 (P.list s c) (P.count s) (h.1.1.0 s ls c lc)))))
          (λ z. rw (ne_eqb u s z) (h.1.1.0 u lu c lc))),
      le,
    ),
  ),
)

beheaded_rule : (M : Limits) (P : Plain) (s c : ℕ) → True (plain_rule M P) → True (plain_rule M (beheaded P s c))
unfolding beheaded
beheaded_rule M P s c h = (
  h.0,
  (
    h.1.0,
    (
      (λ u lu d ld. on_update2 (λ (l : List Item). True (items_rule M 0 l (P.count u))) P.list s c (drop 1 (P.list s c)) u d
          (λ a b. rw (← a, ← b) (items_rest M (P.list u d) (P.count u) (h.1.1.0 u lu d ld)))
          (λ q. h.1.1.0 u lu d ld)),
      let z = entries_less P s c in let y = h.1.1.1 in omega arith,
    ),
  ),
)

-- a call that is not refused leaves lists that pass
accepted_rule : (M : Limits) (P : Plain) (call : PlainCall) → True (plain_rule M P) → plain_refusal M P call ≡ 0
    → plain_passes M (plain_accept M P call) ≡ true
unfolding plain_refusal
accepted_rule M P (plain_start n k) h z =
    let a5 = passed_check 5 (not P.lengths_right) _ (omega arith) z in
    let a6 = passed_check 6 P.started _ (omega arith) a5.1 in
    let a7 = passed_check 7 (wrong_size M n k) _ (omega arith) a6.1 in
    plain_form_started M n k (right_size M n k a7.0)
accepted_rule M P (plain_send s set text) h z =
    let a4 = passed_check 4 (ltb (most_text M) (length text)) _ (omega arith) z in
    let a5 = passed_check 5 (not (plain_passes M P)) _ (omega arith) a4.1 in
    let a8 = passed_check 8 (leb P.stations s) _ (omega arith) a5.1 in
    let a9 = passed_check 9 (leb (2 ^ P.carts) set) _ (omega arith) a8.1 in
    let a13 = passed_check 13 (ltb M.last (P.count s)) _ (omega arith) a9.1 in
    let a30 = passed_check 30 (ltb (most_entries M) (entries P + count P.carts (has set))) _ (omega arith) a13.1 in
    let ls = leb-false P.stations s a8.0 in
    let few = ltb-false (most_entries M) (entries P + count P.carts (has set)) a30.0 in
    let more = entries_more P s set text ls in
    plain_passes_of M (appended P s set text)
    (appended_rule M P s set text ls (ltb-false (most_text M) (length text) a4.0) (ltb-false M.last (P.count s) a13.0) (omega arith) h)
accepted_rule M P (plain_take s c) h z = plain_passes_of M (beheaded P s c) (beheaded_rule M P s c h)

-- "on every floor that passes .. the floor it leaves passes again", of the lists
pub plain_form_kept : (M : Limits) (P : Plain) (call : PlainCall) → plain_passes M P ≡ true → plain_passes M (plain_step M P call) ≡ true
unfolding plain_step
plain_form_kept M P call h =
    on_cond (λ (X : Plain). plain_passes M X ≡ true) (eqb (plain_refusal M P call) 0) (λ b. accepted_rule M P call (plain_rule_of M P h) (eqb-true (plain_refusal M P call) 0 b)) (λ b. h)

-- lists that accepted a start pass, and so do all that any calls then leave
start_accepted : (M : Limits) (P : Plain) (n k : ℕ) → plain_refusal M P (plain_start n k) ≡ 0 → plain_passes M (plain_step M P (plain_start n k)) ≡ true
unfolding plain_step plain_refusal
start_accepted M P n k z =
    let a5 = passed_check 5 (not P.lengths_right) _ (omega arith) z in
    let a6 = passed_check 6 P.started _ (omega arith) a5.1 in
    let a7 = passed_check 7 (wrong_size M n k) _ (omega arith) a6.1 in
    rw z (plain_form_started M n k (right_size M n k a7.0))

calls_passes : (M : Limits) (P : Plain) (calls : List PlainCall) → plain_passes M P ≡ true → plain_passes M (plain_after_calls M P calls) ≡ true
unfolding plain_after_calls
calls_passes M P [] h = h
calls_passes M P (call ∷ calls) h = calls_passes M (plain_step M P call) calls (plain_form_kept M P call h)

pub plain_form_after : (M : Limits) (P : Plain) (n k : ℕ) → plain_refusal M P (plain_start n k) ≡ 0 → (calls : List PlainCall)
    → plain_passes M (plain_after_calls M (plain_step M P (plain_start n k)) calls) ≡ true
plain_form_after M P n k z calls = calls_passes M (plain_step M P (plain_start n k)) calls (start_accepted M P n k z)

-- a start that the floor accepted is accepted by lists that are not started and have the right lengths
pub start_alike : (M : Limits) (P : Plain) (n k : ℕ) → wrong_size M n k ≡ false → P.lengths_right ≡ true → P.started ≡ false
    → plain_step M P (plain_start n k) ≡ plain_started n k
unfolding plain_step plain_refusal
start_alike M P n k w lengths fresh = rw (lengths, fresh, w)

-- a refused call
pub refused_call_alone : (M : Limits) (P : Plain) (call : PlainCall) → 0 < plain_refusal M P call
    → (plain_step M P call ≡ P) × (plain_answer M P call ≡ plain_refused (plain_refusal M P call))
unfolding plain_step plain_answer
refused_call_alone M P call h = let z = ne_eqb (plain_refusal M P call) 0 (omega arith) in (rw z, rw z)
