-- A WALK OVER THE CARTS OF A SET, from the least to the next: what is gathered and what is raised when those of `left` are still to come.
use mathlib.Core.Path.{◌≡◌, refl, sym, ap, ◌∙◌, fun_ext}
use mathlib.Core.Bool.{Bool, true, false, cond, ◌&&◌, ◌||◌, not, and-true, and-false, or-false}
use Rattle.std.specs.Prelude as code
use Rattle.std.specs.Prelude.{Some, None}
use mathlib.Core.List.{List}
use Prim.Native.Nat.{ℕ, ◌+◌, ◌≤◌, ◌<◌, ◌^◌}
use native.Mathlib.Omega.{arith}
use lib.Dec.{eqb, ltb}
use lib.ListN.{length}
use borrow.Author.Tests.{eqb-true, ne_eqb}
use Rattle.protocol.specs.CartSets.{has, minus, with, without, set_of}
use Rattle.protocol.specs.Floor.{Carts}
use Rattle.protocol.specs.Form.{bit}
use Rattle.protocol.proofs.Tests.{by_eq, and_left, eqb_self}
use Rattle.protocol.proofs.Counting.{count_le, count_ext, count_off, count_none}
use Rattle.protocol.proofs.SetLaws.{has_zero, has_minus, has_with, has_without, has_set_of, set_of_lt, with_lt, minus_lt, without_lt, zero_below, same_members}
use Rattle.carts.specs.View.{carts_in, canonical_in, with_next}
use Rattle.sets.specs.Masks.{size}
use Rattle.sets.specs.declared.Members.{Members}
use Rattle.sets.specs.Walks.{GivesLeast}
use Rattle.sets.proofs.MaskLaws.{least_lowest}
use Rattle.wired_records.specs.Handled.{raised, Raised}

-- those still to come are of the set
pub record Left (whole left : ℕ) : Type 0 where
  pub small : left < 2 ^ 64
  pub inside : (c : ℕ) → has left c ≡ true → has whole c ≡ true

pub left_all : (whole : ℕ) → whole < 2 ^ 64 → Left whole whole
left_all whole h = record { small = h; inside = λ c e. e }

pub left_turn : (whole left left' c : ℕ) → left' ≡ without left c → Left whole left → Left whole left'
left_turn whole left left' c a h =
    record {
      small = rw a (without_lt 64 left c h.small);
      inside = λ d e. h.inside d (and_left (has left d) (not (eqb c d)) (sym (has_without left c d) ∙ (rw a at e)));
    }

-- the cart at hand, the least of those
pub record AtHand (whole left c : ℕ) : Type 0 where
  pub below : c < 64
  pub still : has left c ≡ true
  pub member : has whole c ≡ true

-- a step of the walk gives it, and leaves the others; or nothing is left
module _ (before after : Members) {step : code.Option ℕ} (steps : GivesLeast before step after) where
  pub at_hand : (whole c : ℕ) → step ≡ Some c → Left whole before.left → AtHand whole before.left c
  at_hand whole c e h =
      let s : GivesLeast before (Some c) after = rw e at steps in
      let low = least_lowest 64 before.left c h.small s.0 s.1 in
      record { below = low.inside; still = low.member; member = h.inside c low.member }

  pub rest_of : (c : ℕ) → step ≡ Some c → after.left ≡ without before.left c
  rest_of c e =
      let s : GivesLeast before (Some c) after = rw e at steps in
      s.2

  pub none_left : step ≡ None → before.left ≡ 0
  none_left e =
      let s : GivesLeast before None after = rw e at steps in
      s.0

-- a set, and the cart if it joins
has_joined : (set c : ℕ) (joins : Bool) (d : ℕ) → has (cond joins (with set c) set) d ≡ (has set d || (joins && eqb c d))
has_joined set c true d = has_with set c d
has_joined set c false d = sym (or-false (has set d))

-- GATHERED: the carts walked that pass
pub record Gathered (whole : ℕ) (f : ℕ → Bool) (left set : ℕ) : Type 0 where
  pub small : set < 2 ^ 64
  pub members : (c : ℕ) → c < 64 → has set c ≡ ((has whole c && not (has left c)) && f c)

-- one cart more: w is in the set, l is still to come, g passes; h is whether the cart at hand passes, and e whether it is this one
this_one : (l g : Bool) → (((true && not l) && g) || (g && true)) ≡ ((true && not (l && not true)) && g)
this_one true true = refl
this_one true false = refl
this_one false true = refl
this_one false false = refl

one_more : (w l g h e : Bool) → (e ≡ true → (w ≡ true) × (h ≡ g)) → (((w && not l) && g) || (h && e)) ≡ ((w && not (l && not e)) && g)
one_more w l g h true p = let a = p refl in rw (a.0, a.1) (this_one l g)
one_more w l g h false p = rw (and-false h, or-false ((w && not l) && g), and-true l) refl

-- none, and all
none_yet : (w g : Bool) → false ≡ ((w && not w) && g)
none_yet true g = refl
none_yet false g = refl

all_then : (w g : Bool) → ((w && not false) && g) ≡ (w && g)
all_then true g = refl
all_then false g = refl

module _ (whole : ℕ) (f : ℕ → Bool) where
  pub gather_none : Gathered whole f whole 0
  gather_none = record { small = zero_below 64; members = λ c l. has_zero c ∙ none_yet (has whole c) (f c) }

  gather_one : (left set c : ℕ) → c < 64 → has whole c ≡ true → Gathered whole f left set → Gathered whole f (without left c) (cond (f c) (with set c) set)
  gather_one left set c lc hw G = record { small = fits (f c); members = members }
    where
      fits : (b : Bool) → cond b (with set c) set < 2 ^ 64
      fits true = with_lt 64 set c G.small lc
      fits false = G.small

      members : (d : ℕ) → d < 64 → has (cond (f c) (with set c) set) d ≡ ((has whole d && not (has (without left c) d)) && f d)
      members d ld =
          has_joined set c (f c) d
          ∙ ap (λ (b : Bool). b || (f c && eqb c d)) (G.members d ld)
          ∙ one_more (has whole d) (has left d) (f d) (f c) (eqb c d) (λ e. let q = eqb-true c d e in (rw (← q) hw, ap f q))
          ∙ ap (λ (b : Bool). (has whole d && not b) && f d) (sym (has_without left c d))

  -- the turn of a loop
  pub gather_turn : (left left' set set' c : ℕ) (joins : Bool) → left' ≡ without left c → joins ≡ f c → set' ≡ cond joins (with set c) set
      → AtHand whole left c → Gathered whole f left set → Gathered whole f left' set'
  gather_turn left left' set set' c joins a b d h G = rw (d, b, a) (gather_one left set c h.below h.member G)

  -- the cart at hand is not gathered yet
  pub gather_fresh : (left set c : ℕ) → AtHand whole left c → Gathered whole f left set → has set c ≡ false
  gather_fresh left set c h G = G.members c h.below ∙ rw (h.still, and-false (has whole c)) refl

  pub gather_all : (left set : ℕ) → left ≡ 0 → Gathered whole f left set → set ≡ set_of 64 (λ c. has whole c && f c)
  gather_all left set z G =
      same_members 64 set (set_of 64 (λ c. has whole c && f c)) G.small (set_of_lt 64 (λ c. has whole c && f c))
      (λ c l. G.members c l ∙ rw (z, has_zero c) (all_then (has whole c) (f c)) ∙ sym (has_set_of 64 (λ c. has whole c && f c) c l))

-- those that do not pass are gathered: the others of the set are those that pass
but_those : (w g : Bool) → (w && not ((w && not false) && not g)) ≡ (w && g)
but_those true true = refl
but_those true false = refl
but_those false g = refl

pub gather_others : (whole : ℕ) (f : ℕ → Bool) (left set : ℕ) → whole < 2 ^ 64 → left ≡ 0 → Gathered whole (λ c. not (f c)) left set
    → minus whole set ≡ set_of 64 (λ c. has whole c && f c)
gather_others whole f left set h z G =
    same_members 64 (minus whole set) (set_of 64 (λ c. has whole c && f c)) (minus_lt 64 whole set h) (set_of_lt 64 (λ c. has whole c && f c))
    (λ c l. has_minus whole set c ∙ ap (λ (b : Bool). has whole c && not b) (G.members c l) ∙ rw (z, has_zero c) (but_those (has whole c) (f c))
    ∙ sym (has_set_of 64 (λ c. has whole c && f c) c l))

-- PASSED OVER: those of the carts gathered that are not named; each has a number one higher. Cart c is in `over'` besides if it passes.
raised_none : (C : Carts) (over s n : ℕ) → ((c : ℕ) → has over c ≡ false) → C ≡ raised C over s n
raised_none C over s n none = λ i. record { place = C.place; next = fun_ext (λ c. fun_ext (λ u. same c u)) i; steady = C.steady }
  where
    same : (c u : ℕ) → C.next c u ≡ cond (eqb u s && has over c) n (C.next c u)
    same c u = rw (none c, and-false (eqb u s)) refl

at_raised : (x n y z : ℕ) (e p : Bool) → (e ≡ true → y ≡ z) → x ≡ cond p n z → cond e x y ≡ cond (e && p) n y
at_raised x n y z true p a b = rw (a refl) b
at_raised x n y z false p a b = refl

module _ (over over' c : ℕ) (passes : Bool) (more : (d : ℕ) → has over' d ≡ (has over d || (passes && eqb c d))) (fresh : has over c ≡ false) where
  here : has over' c ≡ passes
  here = more c ∙ rw (fresh, eqb_self c) (and-true passes)

  elsewhere : (d : ℕ) → (d ≡ c → ⊥) → has over' d ≡ has over d
  elsewhere d q = more d ∙ rw (ne_eqb c d (λ z. q (sym z)), and-false passes) (or-false (has over d))

  -- how many there are
  size_one : c < 64 → size 64 over' ≡ size 64 over + cond passes 1 0
  unfolding size
  size_one lc =
      let a = count_off 64 (has over') c lc in
      let b = ap bit here in
      let d = count_ext 64 (λ u. cond (eqb u c) false (has over' u)) (has over) others in
      omega arith
    where
      others : (u : ℕ) → cond (eqb u c) false (has over' u) ≡ has over u
      others u = by_eq u c (λ q. rw (q, eqb_self c) (sym fresh)) (λ q. rw (ne_eqb u c q) (elsewhere u q))

  -- the number put back
  raise_one : (C : Carts) (s n x : ℕ) → x ≡ cond passes n (C.next c s) → with_next (raised C over s n) c s x ≡ raised C over' s n
  raise_one C s n x e = λ i. record { place = C.place; next = fun_ext (λ d. fun_ext (λ u. same d u)) i; steady = C.steady }
    where
      same : (d u : ℕ) → cond (eqb d c && eqb u s) x (cond (eqb u s && has over d) n (C.next d u)) ≡ cond (eqb u s && has over' d) n (C.next d u)
      same d u =
          by_eq d c
          (λ q. rw (q, eqb_self c, here, fresh, and-false (eqb u s))
          (at_raised x n (C.next c u) (C.next c s) (eqb u s) passes (λ z. ap (C.next c) (eqb-true u s z)) e))
          (λ q. rw (ne_eqb d c q, elsewhere d q) refl)

-- a is gathered, v is named, as is w of the cart at hand; e is whether it is this one
not_named : (a w v e : Bool) → (e ≡ true → w ≡ v) → ((a || e) && not v) ≡ ((a && not v) || (not w && e))
not_named a w v true p = rw (p refl, and-true (not v)) (split a v)
  where
    split : (a v : Bool) → ((a || true) && not v) ≡ ((a && not v) || not v)
    split true true = refl
    split true false = refl
    split false v = refl
not_named a w v false p = rw (and-false (not w), or-false a, or-false (a && not v)) refl

-- the number that is put back: one more for a cart that is not named
put_back : (z n : ℕ) (rises : Bool) → z ≡ n → z + cond rises 1 0 ≡ cond rises (n + 1) z
put_back z n true e = omega arith
put_back z n false e = omega arith

module _ (C₀ : List ℕ) (named s n : ℕ) where
  -- none yet
  none_over : (c : ℕ) → has (minus 0 named) c ≡ false
  none_over c = has_minus 0 named c ∙ rw (has_zero c) refl

  pub raise_none : Raised C₀ C₀ (minus 0 named) s (n + 1)
  raise_none = record { carts = raised_none (carts_in C₀) (minus 0 named) s (n + 1) none_over; canonical = refl; length = refl }

  pub size_none : 0 ≡ size 64 (minus 0 named)
  unfolding size
  size_none = sym (count_none 64 (has (minus 0 named)) (λ c l. none_over c))

  module _ (C : List ℕ) (due c : ℕ) (fresh : has due c ≡ false) (R : Raised C₀ C (minus due named) s (n + 1)) where
    fresh_over : has (minus due named) c ≡ false
    fresh_over = has_minus due named c ∙ rw fresh refl

    -- the cart at hand has the number that it had at first
    pub next_kept : (carts_in C).next c s ≡ (carts_in C₀).next c s
    next_kept = ap (λ (K : Carts). K.next c s) R.carts ∙ rw (fresh_over, and-false (eqb s s)) refl

    -- the turn of a loop at a cart that is due: the number read, whether the cart is named, and by how much its number rises
    module _ (C' : List ℕ) (due' next rises : ℕ) (is_named_lem : Bool) (read : next ≡ (carts_in C).next c s) (equal : next ≡ n) (asked : is_named_lem ≡ has named c)
        (rise : rises ≡ cond (not is_named_lem) 1 0) (joined : due' ≡ with due c) where
      more_over : (d : ℕ) → has (minus due' named) d ≡ (has (minus due named) d || (not is_named_lem && eqb c d))
      more_over d =
          has_minus due' named d
          ∙ ap (λ (b : Bool). b && not (has named d)) (ap (λ (x : ℕ). has x d) joined ∙ has_with due c d)
          ∙ not_named (has due d) is_named_lem (has named d) (eqb c d) (λ e. asked ∙ ap (has named) (eqb-true c d e))
          ∙ ap (λ (b : Bool). b || (not is_named_lem && eqb c d)) (sym (has_minus due named d))

      pub raise_turn : (carts_in C' ≡ with_next (carts_in C) c s (next + rises)) × ((canonical_in C' ≡ canonical_in C) × (length C' ≡ length C))
          → Raised C₀ C' (minus due' named) s (n + 1)
      raise_turn put =
          record {
            carts = put.0 ∙ ap (λ (K : Carts). with_next K c s (next + rises)) R.carts
                ∙ raise_one (minus due named) (minus due' named) c (not is_named_lem) more_over fresh_over (carts_in C₀) s (n + 1) (next + rises) is_put;
            canonical = put.1.0 ∙ R.canonical;
            length = put.1.1 ∙ R.length;
          }
        where
          is_put : next + rises ≡ cond (not is_named_lem) (n + 1) ((carts_in C₀).next c s)
          is_put =
              ap (λ (x : ℕ). next + x) rise ∙ put_back next n (not is_named_lem) equal
              ∙ ap (λ (x : ℕ). cond (not is_named_lem) (n + 1) x) (read ∙ next_kept)

      pub size_turn : (passed : ℕ) → c < 64 → passed ≡ size 64 (minus due named) → passed + rises ≡ size 64 (minus due' named)
      size_turn passed lc e =
          let a = size_one (minus due named) (minus due' named) c (not is_named_lem) more_over fresh_over lc in
          omega arith

-- so few that the count fits
pub size_few : (x : ℕ) → size 64 x ≤ 64
unfolding size
size_few x = count_le 64 (has x)

-- WHERE THE WALK STANDS: the carts met that were due, which nothing keeps in a word, the others, and those of them that are past the message
pub record Walked (C₀ C : List ℕ) (local named s n left others past passed : ℕ) : Type 0 where
  pub due : ℕ
  pub rest : Left local left
  pub met : Gathered local (λ c. eqb ((carts_in C₀).next c s) n) left due
  pub unmet : Gathered local (λ c. not (eqb ((carts_in C₀).next c s) n)) left others
  pub beyond : Gathered local (λ c. ltb n ((carts_in C₀).next c s)) left past
  pub raises : Raised C₀ C (minus due named) s (n + 1)
  pub counts : passed ≡ size 64 (minus due named)

-- it starts with all of the set
pub walked_none : (C₀ : List ℕ) (local named s n : ℕ) {walk : Members} → walk ≡ record { left = local } → local < 2 ^ 64 → Walked C₀ C₀ local named s n walk.left 0 0 0
walked_none C₀ local named s n e small =
    rw (ap (λ (x : Members). x.left) e) (record {
      due = 0;
      rest = left_all local small;
      met = gather_none local (λ c. eqb ((carts_in C₀).next c s) n);
      unmet = gather_none local (λ c. not (eqb ((carts_in C₀).next c s) n));
      beyond = gather_none local (λ c. ltb n ((carts_in C₀).next c s));
      raises = raise_none C₀ named s n;
      counts = size_none C₀ named s n;
    })
