-- THE SETS OF A MULTICAST: those that the words have are those that the written step has; and the row of local carts.
use mathlib.Core.Path.{◌≡◌, refl, sym, ap, ap₂, ◌∙◌}
use mathlib.Core.Bool.{Bool, true, false, ◌&&◌, not, and_assoc}
use Prim.Native.Nat.{ℕ, zero, suc, ◌+◌, ◌-◌, ◌≤◌, ◌<◌, ◌^◌}
use native.Mathlib.Nat.{pow-le-pow_right}
use native.Mathlib.Omega.{arith}
use lib.Dec.{eqb, ltb}
use Rattle.protocol.specs.Folds.{count}
use Rattle.protocol.specs.CartSets.{has, minus, set_of}
use Rattle.protocol.specs.Floor.{Floor, Place, local_to, entered, outside, at, leaving, travelling}
use Rattle.protocol.specs.Wired.{local_row, passes_over, is_queued, is_struck}
use Rattle.protocol.proofs.Tests.{by_test, by_lt, clash}
use Rattle.protocol.proofs.Counting.{count_ext}
use Rattle.protocol.proofs.SetLaws.{has_minus, has_set_of, set_of_lt, minus_lt, member_below, same_members}
use Rattle.stations.specs.View.{stations_in}
use Rattle.carts.specs.View.{carts_in}
use Rattle.messages.specs.View.{rooms_in}
use Rattle.sets.specs.Masks.{size}
use Rattle.view.specs.View.{Lent, floor_in}
use Rattle.view.proofs.Standing.{Standing, few_carts}
use Rattle.wired_records.specs.Handled.{due_among, past_among}

-- a local cart has entered
pub local_entered : (p : Place) (t : ℕ) → local_to p t ≡ true → entered p ≡ true
local_entered outside t e = clash false e refl
local_entered (at s) t e = refl
local_entered (leaving s u) t e = refl
local_entered (travelling s u) t e = clash false e refl

-- nobody of a small set is beyond it
not_in : (n x c : ℕ) → x < 2 ^ n → n ≤ c → has x c ≡ false
not_in n x c h l = by_test (has x c) (λ e. absurd (let z = member_below n x c h e in omega arith)) (λ e. e)

-- carts beyond those that can pass do not count
count_more : (n k : ℕ) (f : ℕ → Bool) → ((c : ℕ) → n ≤ c → f c ≡ false) → count (n + k) f ≡ count n f
unfolding count
count_more n zero f h = let z : n + 0 ≡ n = omega arith in ap (λ (x : ℕ). count x f) z
count_more n (suc k) f h =
    let w : n + suc k ≡ suc (n + k) = omega arith in
    let z = count_more n k f h in
    ap (λ (x : ℕ). count x f) w ∙ rw (h (n + k) (omega arith)) (omega arith)

-- tests: l is local, e is due, d is named, g is past
queued_test : (l e d : Bool) → ((l && e) && not (l && (e && not d))) ≡ (l && (e && d))
queued_test true true true = refl
queued_test true true false = refl
queued_test true false d = refl
queued_test false e d = refl

struck_test : (l g d : Bool) → (d && not (l && g)) ≡ (d && not (l && (g && d)))
struck_test l g false = refl
struck_test true true true = refl
struck_test true false true = refl
struck_test false g true = refl

-- THE ROW: "yes exactly for the local carts", as the words have it and as the written step makes it
module _ (L : Lent) (X : Standing L) (t : ℕ) (on : t < (floor_in L).stations) where
  abbrev is_here : ℕ → Bool
  is_here c = local_to ((floor_in L).place c) t

  elsewhere : (c : ℕ) → (floor_in L).carts ≤ c → is_here c ≡ false
  elsewhere c l = by_test (is_here c) (λ e. absurd (let z = X.facts.real c (local_entered ((floor_in L).place c) t e) in omega arith)) (λ e. e)

  pub row_made : (stations_in L.stations).local t ≡ local_row (floor_in L) t
  row_made =
      let n = (floor_in L).carts in
      let few = few_carts L X in
      let low : t < L.product.stations = (let a = X.sized.counts.stations in omega arith) in
      let small : set_of n is_here < 2 ^ 64 = (let a = set_of_lt n is_here in let b : 2 ^ n ≤ 2 ^ 64 = pow-le-pow_right (omega arith) few in omega arith) in
      X.laid.local t low
      ∙ same_members 64 (set_of 64 is_here) (set_of n is_here) (set_of_lt 64 is_here) small
      (λ c l. has_set_of 64 is_here c l
      ∙ by_lt c n (λ h. sym (has_set_of n is_here c h)) (λ h. elsewhere c h ∙ sym (not_in n (set_of n is_here) c (set_of_lt n is_here) h)))

  pub row_small : local_row (floor_in L) t < 2 ^ (floor_in L).carts
  row_small = set_of_lt (floor_in L).carts is_here

-- BY ANY ROW of carts of the floor
module _ (L : Lent) (X : Standing L) (local : ℕ) (on_floor : local < 2 ^ (floor_in L).carts) (m s n : ℕ) (lm : m < L.product.held) where
  abbrev F : Floor
  F = floor_in L

  abbrev due : ℕ
  due = due_among (carts_in L.carts) local s n

  abbrev past : ℕ
  past = past_among (carts_in L.carts) local s n

  abbrev named : ℕ
  named = (rooms_in L.messages).named m

  -- nobody beyond the floor is in it
  far : (c : ℕ) → F.carts ≤ c → has local c ≡ false
  far c l = not_in F.carts local c on_floor l

  few : F.carts ≤ 64
  few = few_carts L X

  -- a test of its carts
  among : (f : ℕ → Bool) (c : ℕ) → has (set_of 64 (λ d. has local d && f d)) c ≡ (has local c && f c)
  among f c =
      let g : ℕ → Bool = λ d. has local d && f d in
      by_lt c 64 (λ l. has_set_of 64 g c l) (λ l. not_in 64 (set_of 64 g) c (set_of_lt 64 g) l ∙ sym (rw (far c (let z = few in omega arith)) refl))

  due_has : (c : ℕ) → has due c ≡ (has local c && eqb (F.next c s) n)
  due_has c = among (λ d. eqb (F.next d s) n) c

  past_has : (c : ℕ) → has past c ≡ (has local c && ltb n (F.next c s))
  past_has c = among (λ d. ltb n (F.next d s)) c

  module _ (over : ℕ) (is_over : over ≡ minus due named) where
    -- "equal and not named, its next number rises"
    pub over_has : (c : ℕ) → has over c ≡ passes_over F local m s n c
    over_has c =
        ap (λ (x : ℕ). has x c) is_over ∙ has_minus due named c ∙ ap (λ (b : Bool). b && not (has named c)) (due_has c)
        ∙ and_assoc (has local c) (eqb (F.next c s) n) (not (has named c))

    -- how many
    pub over_count : size 64 over ≡ count F.carts (passes_over F local m s n)
    unfolding size
    over_count =
        let all : F.carts + (64 - F.carts) ≡ 64 = (let z = few in omega arith) in
        count_ext 64 (has over) (passes_over F local m s n) over_has
        ∙ ap (λ (k : ℕ). count k (passes_over F local m s n)) (sym all)
        ∙ count_more F.carts (64 - F.carts) (passes_over F local m s n) (λ c l. rw (far c l) refl)

    -- "equal and cart named, it is queued for that message"
    pub queue_same : minus due over ≡ set_of F.carts (is_queued F local m s n)
    queue_same =
        same_members 64 (minus due over) (set_of F.carts (is_queued F local m s n))
        (minus_lt 64 due over (set_of_lt 64 (λ c. has local c && eqb (F.next c s) n)))
        (let a = set_of_lt F.carts (is_queued F local m s n) in let b : 2 ^ F.carts ≤ 2 ^ 64 = pow-le-pow_right (omega arith) few in omega arith)
        (λ c l. has_minus due over c
        ∙ ap₂ (λ (a b : Bool). a && not b) (due_has c) (over_has c)
        ∙ queued_test (has local c) (eqb (F.next c s) n) (has named c)
        ∙ sym (in_set c))
      where
        in_set : (c : ℕ) → has (set_of F.carts (is_queued F local m s n)) c ≡ is_queued F local m s n c
        in_set c =
            by_lt c F.carts
            (λ l. has_set_of F.carts (is_queued F local m s n) c l)
            (λ l. not_in F.carts (set_of F.carts (is_queued F local m s n)) c (set_of_lt F.carts (is_queued F local m s n)) l ∙ sym (rw (far c l) refl))

  -- "greater and named, it is struck from the copy"
  pub copy_same : minus named past ≡ minus named (set_of F.carts (is_struck F local m s n))
  copy_same =
      let struck = set_of F.carts (is_struck F local m s n) in
      let small : named < 2 ^ F.carts = X.sized.messages.named m lm in
      same_members F.carts (minus named past) (minus named struck) (minus_lt F.carts named past small) (minus_lt F.carts named struck small)
      (λ c l. has_minus named past c
      ∙ ap (λ (b : Bool). has named c && not b) (past_has c)
      ∙ struck_test (has local c) (ltb n (F.next c s)) (has named c)
      ∙ sym (has_minus named struck c ∙ ap (λ (b : Bool). has named c && not b) (has_set_of F.carts (is_struck F local m s n) c l)))
