-- The entries of a room at the stations: its sets, and the queued carts.
use mathlib.Core.Path.{◌≡◌, sym, ap, ap₂, ◌∙◌}
use mathlib.Core.Bool.{Bool, true, false, not, ◌||◌}
use mathlib.Core.List.{List, []}
use Prim.Native.Nat.{ℕ, ◌+◌, ◌^◌, ◌<◌}
use native.Mathlib.Omega.{arith}
use borrow.Author.Tests.{not-true, eqb-true}
use Rattle.protocol.specs.CartSets.{has, union, minus, set_of}
use Rattle.protocol.specs.Floor.{whole_floor, Floor, limits, is_held, local_to}
use Rattle.protocol.specs.Claims.{Claim, True, test, all, both, when, is, eq}
use Rattle.protocol.specs.Form.{entry_rule}
use Rattle.protocol.proofs.Tests.{by_test, by_lt, clash, and_left, and_right, and_intro, or_left, or_right, or_cases}
use Rattle.protocol.proofs.SetLaws.{has_zero, has_union, has_minus, has_set_of, set_of_lt, member_below, set_of_beyond, same_sets, some_member}
use Rattle.stations.specs.View.{Stations, stations_in}
use Rattle.carts.specs.View.{carts_in}
use Rattle.sets.specs.Masks.{within}
use Rattle.sets.proofs.MaskLaws.{within_has, has_within}
use Rattle.view.specs.View.{lent, local_right}
use Rattle.form_tables.specs.Tables.{tables}
use Rattle.form_tables.specs.Parts.{most_of, Entries}
use Rattle.protocol.proofs.Answers.{yes, no, same_answer}
use Rattle.form_tables.proofs.Names.{free_not}
use Rattle.form_tables.proofs.Sets.{most_within, collect_none, collect_more}

-- what the mask of a station says
pub local_mask : (S C : List ℕ) (t : ℕ) → local_right (lent whole_floor S C [] [] [] []) t ≡ true → (stations_in S).local t ≡ set_of 64 (λ c. local_to ((carts_in C).place c) t)
unfolding local_right
local_mask S C t e = eqb-true ((stations_in S).local t) (set_of 64 (λ c. local_to ((carts_in C).place c) t)) e

-- A SET WHOSE MEMBERS ARE BELOW n is below 2^n
pub members_lt : (n x : ℕ) → ((c : ℕ) → has x c ≡ true → c < n) → x < 2 ^ n
members_lt n x h =
    let e : x ≡ set_of n (has x) = same_sets x (set_of n (has x)) (λ c. by_lt c n
    (λ k. sym (has_set_of n (has x) c k))
    (λ k. by_test (has x c) (λ q. absurd (let z = h c q in omega arith)) (λ q. q) ∙ sym (set_of_beyond n (has x) c k))) in
    let z = set_of_lt n (has x) in omega arith

pub entries_none : (S : Stations) (m : ℕ) → Entries S m 0 0 0 0
entries_none S m = record { all = collect_none (λ u. union (S.copy m u) (union (S.acks m u) (S.queue m u))); queue = collect_none (S.queue m); away = collect_none (λ u. minus (S.queue m u) (S.local u)) }

module _ (S : Stations) (m t : ℕ) (sets queued strays copy acks queue local a b x y z d : ℕ) (E : Entries S m t sets queued strays)
    (ec : copy ≡ S.copy m t) (ea : acks ≡ S.acks m t) (eu : queue ≡ S.queue m t) (el : local ≡ S.local t) where
  pub entries_more : a ≡ union acks queue → b ≡ union copy a → x ≡ union sets b → y ≡ union queued queue → d ≡ minus queue local → z ≡ union strays d
      → Entries S m (t + 1) x y z
  entries_more ha hb hx hy hd hz = record {
    all = collect_more (λ u. union (S.copy m u) (union (S.acks m u) (S.queue m u))) t sets b x E.all (hb ∙ ap₂ union ec (ha ∙ ap₂ union ea eu)) hx;
    queue = collect_more (S.queue m) t queued queue y E.queue eu hy;
    away = collect_more (λ u. minus (S.queue m u) (S.local u)) t strays d z E.away (hd ∙ ap₂ minus eu el) hz;
  }

-- THE ENTRIES of room m, once those of the stations are collected
module _ (S C M : List ℕ) (rows m sets queued strays : ℕ) (E : Entries (stations_in S) m rows sets queued strays)
    (right : (t : ℕ) → t < rows → local_right (lent whole_floor S C [] [] [] []) t ≡ true) where
  abbrev F : Floor
  F = tables S C M

  abbrev T : Stations
  T = stations_in S

  abbrev rule : Claim
  rule = all rows (entry_rule limits F m)

  -- what the rule asks of cart c, if it is queued at station u
  abbrev asks : ℕ → ℕ → Claim
  asks u c = both (is (is_held F m)) (both (is (local_to (F.place c) u)) (both (eq (F.next c (F.initiator m)) (F.number m)) (is (has (F.named m) c))))

  asked : True rule → (u : ℕ) → u < rows → (c : ℕ) → has (T.queue m u) c ≡ true → True (asks u c)
  asked h u l c q = let r = h u l in r.1.1.1 c (member_below F.carts (T.queue m u) c r.1.1.0 q) q

  -- a set is of the floor just where all that are collected are
  small : True rule → sets < 2 ^ F.carts
  small h = members_lt F.carts sets (λ c q.
      let w = E.all.of c q in
      let u = w.0 in
      let r = h u w.1 in
      or_cases (has (T.copy m u) c) (has (union (T.acks m u) (T.queue m u)) c) (sym (has_union (T.copy m u) (union (T.acks m u) (T.queue m u)) c) ∙ w.2)
      (λ v. member_below F.carts (T.copy m u) c r.0 v)
      (λ v. or_cases (has (T.acks m u) c) (has (T.queue m u) c) (sym (has_union (T.acks m u) (T.queue m u) c) ∙ v)
      (λ z. member_below F.carts (T.acks m u) c r.1.0 z)
      (λ z. member_below F.carts (T.queue m u) c r.1.1.0 z)))

  fit : sets < 2 ^ F.carts → (u : ℕ) → u < rows → (T.copy m u < 2 ^ F.carts) × (T.acks m u < 2 ^ F.carts) × (T.queue m u < 2 ^ F.carts)
  fit l u h = (
    members_lt F.carts (T.copy m u) (λ c q. below c (or_left (has (T.copy m u) c) (has (union (T.acks m u) (T.queue m u)) c) q)),
    members_lt F.carts (T.acks m u) (λ c q. below c (or_right (has (T.copy m u) c) (has (union (T.acks m u) (T.queue m u)) c) (has_union (T.acks m u) (T.queue m u) c ∙ or_left (has (T.acks m u) c) (has (T.queue m u) c) q))),
    members_lt F.carts (T.queue m u) (λ c q. below c (or_right (has (T.copy m u) c) (has (union (T.acks m u) (T.queue m u)) c) (has_union (T.acks m u) (T.queue m u) c ∙ or_right (has (T.acks m u) c) (has (T.queue m u) c) q))),
  )
    where
      below : (c : ℕ) → (has (T.copy m u) c || has (union (T.acks m u) (T.queue m u)) c) ≡ true → c < F.carts
      below c q = member_below F.carts sets c l (E.all.had u c h (has_union (T.copy m u) (union (T.acks m u) (T.queue m u)) c ∙ q))

  -- a queued cart is of the floor
  pub queued_below : sets < 2 ^ F.carts → (c : ℕ) → has queued c ≡ true → c < F.carts
  queued_below l c q = let w = E.queue.of c q in member_below F.carts (T.queue m w.0) c (fit l w.0 w.1).2 w.2

  mask : (u c : ℕ) → u < rows → c < 64 → has (T.local u) c ≡ local_to (F.place c) u
  mask u c l k = ap (λ (y : ℕ). has y c) (local_mask S C u (right u l)) ∙ has_set_of 64 (λ d. local_to (F.place d) u) c k

  -- none is queued where it is not local
  at_home : strays ≡ 0 → (u c : ℕ) → u < rows → c < 64 → has (T.queue m u) c ≡ true → local_to (F.place c) u ≡ true
  at_home z u c l k q =
      by_test (has (T.local u) c)
      (λ e. sym (mask u c l k) ∙ e)
      (λ e. clash (has strays c)
      (E.away.had u c l (has_minus (T.queue m u) (T.local u) c ∙ and_intro (has (T.queue m u) c) (not (has (T.local u) c)) q (ap not e)))
      (ap (λ (y : ℕ). has y c) z ∙ has_zero c))

  pub entries_large : (most : ℕ) → sets < 18446744073709551616 → most ≡ most_of F.carts → most < sets → false ≡ test rule
  entries_large most word e l = no rule (λ h. let z = most_within F.carts sets word most e (small h) in omega arith)

  pub entries_stray : strays < 2 ^ 64 → 0 < strays → false ≡ test rule
  entries_stray word pos = no rule (λ h.
      let w = some_member 64 strays word pos in
      let c = w.0 in
      let v = E.away.of c w.2 in
      let u = v.0 in
      let a = sym (has_minus (T.queue m u) (T.local u) c) ∙ v.2 in
      clash (has (T.local u) c)
      (mask u c v.1 w.1 ∙ (asked h u v.1 c (and_left (has (T.queue m u) c) (not (has (T.local u) c)) a)).1.0)
      (not-true (has (T.local u) c) (and_right (has (T.queue m u) c) (not (has (T.local u) c)) a)))

  pub entries_empty : sets < 2 ^ F.carts → queued ≡ 0 → true ≡ test rule
  entries_empty l z = yes rule (λ u h.
      let f = fit l u h in
      (f.0, (f.1, (f.2, λ c k q. clash (has queued c) (E.queue.had u c h q) (ap (λ (y : ℕ). has y c) z ∙ has_zero c)))))

  pub entries_free : queued < 2 ^ 64 → 0 < queued → F.waiting m ≡ 0 → false ≡ test rule
  entries_free word pos z = no rule (λ h.
      let w = some_member 64 queued word pos in
      let v = E.queue.of w.0 w.2 in
      free_not F m z (asked h v.0 v.1 w.0 v.2).0)

  module _ (named : ℕ) (ed : named ≡ F.named m) where
    pub entries_unnamed : (r : Bool) → r ≡ within 64 queued named → r ≡ false → false ≡ test rule
    entries_unnamed r e n = no rule (λ h.
        clash r (e ∙ has_within 64 queued named (λ c l q. let v = E.queue.of c q in ap (λ (y : ℕ). has y c) ed ∙ (asked h v.0 v.1 c v.2).1.1.1)) n)

    pub entries_end : sets < 2 ^ F.carts → strays ≡ 0 → queued < 2 ^ 64 → is_held F m ≡ true → within 64 queued named ≡ true
        → (s n : ℕ) → s ≡ F.initiator m → n ≡ F.number m
        → (r : Bool) → r ≡ test (all 64 (λ c. when (is (has queued c)) (eq (F.next c s) n))) → r ≡ test rule
    entries_end l z word held b s n es en r g =
        g ∙ same_answer (all 64 (λ c. when (is (has queued c)) (eq (F.next c s) n))) rule
        (λ p u h. let f = fit l u h in (
          f.0,
          (
            f.1,
            (
              f.2,
              λ c k q.
                  let o = E.queue.had u c h q in
                  let d = member_below 64 queued c word o in
                  (held, (at_home z u c h d q, (ap (F.next c) (sym es) ∙ p c d o ∙ en, ap (λ (y : ℕ). has y c) (sym ed) ∙ within_has 64 queued named b c d o))),
            ),
          ),
        ))
        (λ p c l q. let v = E.queue.of c q in ap (F.next c) es ∙ (asked p v.0 v.1 c v.2).1.1.0 ∙ sym en)
