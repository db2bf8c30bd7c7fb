-- The copies of a held message.
use mathlib.Core.Path.{◌≡◌, refl, sym, ap, ap₂, ◌∙◌}
use mathlib.Core.Bool.{Bool, true, false, not, ◌&&◌}
use mathlib.Core.List.{List}
use mathlib.Core.Logic.{◌⊎◌, inl, inr, ⊎_elim}
use mathlib.Core.Option.{some}
use Prim.Native.Nat.{ℕ, ◌+◌, ◌*◌, ◌^◌, ◌≤◌, ◌<◌}
use native.Mathlib.Omega.{arith}
use lib.ListN.{length}
use borrow.Author.Tests.{not-true, lt-ltb, le-ltb}
use Rattle.protocol.specs.CartSets.{has, union, minus}
use Rattle.protocol.specs.Floor.{Floor, is_held}
use Rattle.protocol.specs.Claims.{Claim, True, test, all, is}
use Rattle.protocol.proofs.Tests.{by_test, by_lt, clash, and_left, and_right, and_intro}
use Rattle.protocol.proofs.SetLaws.{has_zero, has_minus}
use Rattle.stations.specs.View.{stations_in}
use Rattle.stations.proofs.TableLaws as table
use Rattle.sets.specs.Masks.{least}
use Rattle.sets.proofs.MaskLaws.{Lowest, least_lowest}
use Rattle.form_tables.specs.Tables.{copy_named, copies_rule}
use Rattle.form_tables.specs.Parts.{missing_at, Collects}
use Rattle.protocol.proofs.Answers.{yes, no, same_answer, one_more}
use Rattle.form_tables.proofs.Sets.{collect_none, collect_more}
use Rattle.form_tables.proofs.Names.{free_not}
use Rattle.form_tables.proofs.Walks.{over, next_above}

-- NONE OF THE FIRST k
abbrev pub none_below : ℕ → ℕ → Claim
none_below set k = all k (λ c. is (not (has set c)))

module _ (set k : ℕ) where
  pub none_empty : set ≡ 0 → true ≡ test (none_below set k)
  none_empty e = yes (none_below set k) (λ c l. ap not (ap (λ (x : ℕ). has x c) e ∙ has_zero c))

  module _ (number : ℕ) (word : set < 2 ^ 64) (pos : 0 < set) (e : least 64 set ≡ some number) where
    lowest : Lowest 64 set number
    lowest = least_lowest 64 set number word pos e

    pub none_one : number < k → false ≡ test (none_below set k)
    none_one l = no (none_below set k) (λ h. clash (has set number) lowest.member (not-true (has set number) (h number l)))

    pub none_beyond : k ≤ number → true ≡ test (none_below set k)
    none_beyond g = yes (none_below set k) (λ c l. ap not (lowest.before c (omega arith)))

-- A COPY
nothing_left : (a b : Bool) → (a ≡ true → b ≡ true) → not (a && not b) ≡ true
nothing_left true true f = refl
nothing_left true false f = f refl
nothing_left false b f = refl

only : (a b : Bool) → not (a && not b) ≡ true → a ≡ true → b ≡ true
only true true p q = q
only true false p q = p
only false b p q = clash false q refl

-- the copy has only named carts, asked of what is left of it without them
module _ (F : Floor) (m t named copy k : ℕ) (en : named ≡ F.named m) (ec : copy ≡ F.copy m t) (ek : k ≡ F.carts) where
  pub copy_named_lem : test (none_below (minus copy named) k) ≡ test (copy_named F m t)
  copy_named_lem =
      same_answer (none_below (minus copy named) k) (copy_named F m t)
      (λ p c l q. ap (λ (y : ℕ). has y c) (sym en)
      ∙ only (has copy c) (has named c) (sym (ap not (has_minus copy named c)) ∙ p c (omega arith)) (ap (λ (y : ℕ). has y c) ec ∙ q))
      (λ h c l. ap not (has_minus copy named c)
      ∙ nothing_left (has copy c) (has named c) (λ q. ap (λ (y : ℕ). has y c) en ∙ h c (omega arith) (ap (λ (y : ℕ). has y c) (sym ec) ∙ q)))

  pub copy_missing : (r : ℕ) → F.number m < F.expected t (F.initiator m) → r ≡ minus named copy → r ≡ missing_at F m t
  copy_missing r l e = rw (lt-ltb (F.number m) (F.expected t (F.initiator m)) l) (e ∙ ap₂ minus en ec)

-- WHO IS MISSING: a named cart that the copy does not have, where the message has come
module _ (F : Floor) (m : ℕ) where
  pub none_missing : (t : ℕ) → F.expected t (F.initiator m) ≤ F.number m → 0 ≡ missing_at F m t
  none_missing t l = rw (le-ltb (F.number m) (F.expected t (F.initiator m)) l)

  missing_one : (u c : ℕ) → F.number m < F.expected u (F.initiator m) → has (F.named m) c ≡ true → has (F.copy m u) c ≡ false → has (missing_at F m u) c ≡ true
  missing_one u c l a b =
      rw (lt-ltb (F.number m) (F.expected u (F.initiator m)) l)
      (has_minus (F.named m) (F.copy m u) c ∙ and_intro (has (F.named m) c) (not (has (F.copy m u) c)) a (ap not b))

  one_missing : (u c : ℕ) → has (missing_at F m u) c ≡ true → (F.number m < F.expected u (F.initiator m)) × (has (F.named m) c ≡ true) × (has (F.copy m u) c ≡ false)
  one_missing u c e =
      by_lt (F.number m) (F.expected u (F.initiator m))
      (λ l. let z : has (minus (F.named m) (F.copy m u)) c ≡ true = rw (lt-ltb (F.number m) (F.expected u (F.initiator m)) l) at e in
      let a = sym (has_minus (F.named m) (F.copy m u) c) ∙ z in
      (l, and_left (has (F.named m) c) (not (has (F.copy m u) c)) a, not-true (has (F.copy m u) c) (and_right (has (F.named m) c) (not (has (F.copy m u) c)) a)))
      (λ l. let z : has 0 c ≡ true = rw (le-ltb (F.number m) (F.expected u (F.initiator m)) l) at e in clash (has 0 c) z (has_zero c))

  -- the set x has those missing at the stations below t
  pub record Missing (t x : ℕ) : Type 0 where
    pub named : True (all t (copy_named F m))
    pub those : Collects (missing_at F m) t x

  pub missing_start : Missing 0 0
  missing_start = record { named = λ k l. absurd (omega arith); those = collect_none (missing_at F m) }

  pub missing_more : (t x y z : ℕ) → Missing t x → True (copy_named F m t) → y ≡ missing_at F m t → z ≡ union x y → Missing (t + 1) z
  missing_more t x y z X a e g = record { named = one_more (copy_named F m) t X.named a; those = collect_more (missing_at F m) t x y z X.those e g }

-- THE COPIES of one message
module _ (F : Floor) (m : ℕ) where
  pub copies_free : F.waiting m ≡ 0 → true ≡ test (copies_rule F m)
  copies_free e = yes (copies_rule F m) (λ h. absurd (free_not F m e h))

  pub copies_no : is_held F m ≡ true → (t : ℕ) → t < F.stations → (True (copy_named F m t) → ⊥) → false ≡ test (copies_rule F m)
  copies_no h t l n = no (copies_rule F m) (λ p. n (p h t l).0)

  -- those that are missing somewhere have received it; nothing is beyond sixteen stations
  module _ (h : is_held F m ≡ true) (no_copy : (t : ℕ) → 16 ≤ t → F.copy m t ≡ 0) (none_come : (t s : ℕ) → 16 ≤ t → F.expected t s ≡ 0)
      (t x k s n : ℕ) (X : Missing F m t x) (below : t ≤ F.stations) (end : F.stations ≤ t ⊎ 16 ≤ t)
      (ek : k ≡ F.carts) (es : s ≡ F.initiator m) (en : n ≡ F.number m) where
    inside : (u : ℕ) → u < F.stations → (u < t) ⊎ (16 ≤ u)
    inside u l = by_lt u t (λ z. inl z) (λ z. ⊎_elim (λ w. absurd (omega arith)) (λ w. inr (omega arith)) end)

    received : True (over k x (next_above F.next s n)) → True (copies_rule F m)
    received p q u l =
        ⊎_elim
        (λ w. (
          X.named u w,
          λ g c lc a b. by_test (has (F.copy m u) c) (λ z. z)
              (λ z. absurd (let y = p c (omega arith) (X.those.had u c w (missing_one F m u c g a z)) in let v = ap (F.next c) es in omega arith)),
        ))
        (λ w. ((λ c lc a. clash (has (F.copy m u) c) a (ap (λ (y : ℕ). has y c) (no_copy u w) ∙ has_zero c)), λ g. absurd (omega (arith, none_come u (F.initiator m) w))))
        (inside u l)

    missing : True (copies_rule F m) → True (over k x (next_above F.next s n))
    missing p c l q =
        by_lt n (F.next c s) (λ z. z)
        (λ z. let w = X.those.of c q in
        let y = one_missing F m w.0 c w.2 in
        let v = ap (F.next c) es in
        let lower = w.1 in
        clash (has (F.copy m w.0) c) ((p h w.0 (omega arith)).1 y.0 c (omega arith) y.1 (omega arith)) y.2)

    pub copies_end : (r : Bool) → r ≡ test (over k x (next_above F.next s n)) → r ≡ test (copies_rule F m)
    copies_end r g = g ∙ same_answer (over k x (next_above F.next s n)) (copies_rule F m) received missing

-- a table of no more rows has nothing beyond sixteen stations
module _ (l : List ℕ) (n : ℕ) (whole : length l ≡ 116 + n * 116) (few : n ≤ 16) where
  pub copy_past : (m t : ℕ) → 16 ≤ t → (stations_in l).copy m t ≡ 0
  copy_past m t g = table.copy_past l t (omega arith) m

  pub expected_past : (t s : ℕ) → 16 ≤ t → (stations_in l).expected t s ≡ 0
  expected_past t s g = table.expected_past l t (omega arith) s
