-- THE LISTS OF ROWS: what a row put, a row taken by a cart, and rows moved together make of them.
use mathlib.Core.Path.{◌≡◌, refl, sym, ap, ap₂, ◌∙◌, subst}
use mathlib.Core.Bool.{Bool, true, false, cond, ◌&&◌}
use mathlib.Core.List.{List, [], ◌∷◌, ◌++◌}
use Prim.Native.Nat.{ℕ, zero, suc, ◌+◌, ◌^◌, ◌≤◌, ◌<◌}
use native.Mathlib.Omega.{arith}
use lib.Dec.{eqb}
use lib.ListN.{length}
use borrow.Author.Tests.{eqb-true, eqb-false, ne_eqb}
use Rattle.protocol.specs.Folds.{count, sum, update}
use Rattle.protocol.specs.CartSets.{has, without}
use Rattle.protocol.specs.Claims.{True}
use Rattle.protocol.specs.TwoLists.{Item, item}
use Rattle.protocol.specs.PlainLists.{entries, appended}
use Rattle.protocol.proofs.Tests.{by_test, by_eq, eqb_self, and_left, and_right, and_second_false, and-false, and-true}
use Rattle.protocol.proofs.Counting.{sum_ext, sum_bump, count_ext, count_off, count_at, count_none}
use Rattle.protocol.proofs.SetLaws.{has_zero, has_without, some_member, without_lt}
use Rattle.protocol.proofs.PlainLaws.{entries_more, entries_none}
use Rattle.list_rows.specs.Rows.{Row, waits, listed, members, above, row_rule, taken_by, Used, used_rows, keep_row, squeezed}

-- WHAT ROWS SHARE

-- rows that are the same below n
abbrev pub Alike : (ℕ → Row) → (ℕ → Row) → ℕ → Type 0
Alike T S n = (r : ℕ) → r < n → S r ≡ T r

fewer : (T S : ℕ → Row) (n : ℕ) → Alike T S (suc n) → Alike T S n
fewer T S n h r l = h r (omega arith)

-- a row put behind them
pub put_alike : (T : ℕ → Row) (n : ℕ) (x : Row) → Alike T (update T n x) n
put_alike T n x r l = rw (ne_eqb r n (omega arith))

-- rows that are in the list of s and c or not alike, and then say the same
pub listed_same : (T S : ℕ → Row) (n s c : ℕ) → ((r : ℕ) → r < n → waits s c (S r) ≡ waits s c (T r)) → ((r : ℕ) → r < n → item (S r).number (S r).text ≡ item (T r).number (T r).text)
    → listed S n s c ≡ listed T n s c
unfolding listed
listed_same T S zero s c w e = refl
listed_same T S (suc n) s c w e =
    let rest = listed_same T S n s c (λ r l. w r (omega arith)) (λ r l. e r (omega arith)) in
    ap₂ (λ (b : Bool) (x : Item). cond b (listed S n s c ++ (x ∷ [])) (listed S n s c)) (w n (omega arith)) (e n (omega arith))
    ∙ ap (λ (l : List Item). cond (waits s c (T n)) (l ++ (item (T n).number (T n).text ∷ [])) l) rest

pub listed_alike : (T S : ℕ → Row) (n : ℕ) → Alike T S n → (s c : ℕ) → listed S n s c ≡ listed T n s c
listed_alike T S n h s c = listed_same T S n s c (λ r l. ap (waits s c) (h r l)) (λ r l. ap (λ (x : Row). item x.number x.text) (h r l))

-- rows of the same initiators and numbers
pub above_same : (T S : ℕ → Row) (s n : ℕ) → ((r : ℕ) → r < n → (S r).initiator ≡ (T r).initiator) → ((r : ℕ) → r < n → (S r).number ≡ (T r).number) → above S s n ≡ above T s n
unfolding above
above_same T S s zero i m = refl
above_same T S s (suc n) i m =
    ap₂ (λ (x y : ℕ). cond (eqb s x) (suc y) (above S s n)) (i n (omega arith)) (m n (omega arith))
    ∙ ap (cond (eqb s (T n).initiator) (suc (T n).number)) (above_same T S s n (λ r l. i r (omega arith)) (λ r l. m r (omega arith)))

pub above_alike : (T S : ℕ → Row) (s n : ℕ) → Alike T S n → above S s n ≡ above T s n
above_alike T S s n h = above_same T S s n (λ r l. ap (λ (x : Row). x.initiator) (h r l)) (λ r l. ap (λ (x : Row). x.number) (h r l))

pub members_alike : (T S : ℕ → Row) (k n : ℕ) → Alike T S n → members S k n ≡ members T k n
unfolding members
members_alike T S k n h = sum_ext n (λ r. count k (has (S r).carts)) (λ r. count k (has (T r).carts)) (λ r l. ap (λ (x : Row). count k (has x.carts)) (h r l))

-- the rule of row r asks only for the rows up to it
pub rule_alike : (T S : ℕ → Row) (n k : ℕ) (sent : ℕ → ℕ) (r : ℕ) → Alike T S (suc r) → True (row_rule T n k sent r) → True (row_rule S n k sent r)
rule_alike T S n k sent r h rule =
    let same : above S (T r).initiator r ≡ above T (T r).initiator r = above_alike T S (T r).initiator r (fewer T S r h) in
    rw (h r (omega arith)) (rule.0, (let y = rule.1.0 in omega arith, rule.1.1))

-- a station's rows have numbers below its count
pub above_below : (T : ℕ → Row) (sent : ℕ → ℕ) (s n : ℕ) → ((r : ℕ) → r < n → (T r).number < sent (T r).initiator) → above T s n ≤ sent s
unfolding above
above_below T sent s zero h = omega arith
above_below T sent s (suc n) h =
    by_test (eqb s (T n).initiator)
    (λ e. let z = h n (omega arith) in let y = ap sent (eqb-true s (T n).initiator e) in rw e (omega arith))
    (λ e. rw e (above_below T sent s n (λ r l. h r (omega arith))))

-- A ROW PUT BEHIND THE OTHERS

module _ (T : ℕ → Row) (n : ℕ) (x : Row) where
  pub listed_put : (s c : ℕ) → listed (update T n x) (suc n) s c ≡ cond (waits s c x) (listed T n s c ++ (item x.number x.text ∷ [])) (listed T n s c)
  unfolding listed
  listed_put s c =
      rw (eqb_self n) (ap (λ (l : List Item). cond (waits s c x) (l ++ (item x.number x.text ∷ [])) l) (listed_alike T (update T n x) n (put_alike T n x) s c))

  pub members_put : (k : ℕ) → members (update T n x) k (suc n) ≡ members T k n + count k (has x.carts)
  unfolding members sum
  members_put k = rw (eqb_self n) (ap (λ (m : ℕ). m + count k (has x.carts)) (members_alike T (update T n x) k n (put_alike T n x)))

  pub above_put : (s : ℕ) → above (update T n x) s (suc n) ≡ cond (eqb s x.initiator) (suc x.number) (above T s n)
  unfolding above
  above_put s = rw (eqb_self n) (ap (cond (eqb s x.initiator) (suc x.number)) (above_alike T (update T n x) s n (put_alike T n x)))

-- THE ENTRIES, by lists or by rows
pub entries_are : (T : ℕ → Row) (n k m : ℕ) → ((r : ℕ) → r < m → (T r).initiator < n) → sum n (λ s. sum k (λ c. length (listed T m s c))) ≡ members T k m
unfolding entries members listed appended sum
entries_are T n k zero h = entries_none n k
entries_are T n k (suc m) h =
    entries_more (record { lengths_right = true; words_right = true; started = true; stations = n; carts = k; count = λ s. (T m).number; list = listed T m }) (T m).initiator (T m).carts (T m).text (h m (omega arith))
    ∙ ap (λ (x : ℕ). x + count k (has (T m).carts)) (entries_are T n k m (λ r l. h r (omega arith)))

-- THE FIRST ROW OF A LIST IS TAKEN

-- nobody waits, and the list is empty
pub listed_none : (T : ℕ → Row) (n s c : ℕ) → ((r : ℕ) → r < n → waits s c (T r) ≡ false) → listed T n s c ≡ []
unfolding listed
listed_none T zero s c h = refl
listed_none T (suc n) s c h = rw (h n (omega arith)) (listed_none T n s c (λ r l. h r (omega arith)))

module _ (T : ℕ → Row) (s c m : ℕ) (waiting : waits s c (T m) ≡ true) where
  abbrev pub after_take : ℕ → Row
  after_take = update T m (taken_by (T m) c)

  its_station : (T m).initiator ≡ s
  its_station = sym (eqb-true s (T m).initiator (and_left (eqb s (T m).initiator) (has (T m).carts c) waiting))

  named : has (T m).carts c ≡ true
  named = and_right (eqb s (T m).initiator) (has (T m).carts c) waiting

  crossed_out : has (without (T m).carts c) c ≡ false
  crossed_out = has_without (T m).carts c c ∙ rw (eqb_self c) (and-false (has (T m).carts c))

  not_at : (r : ℕ) → (r ≡ m → ⊥) → after_take r ≡ T r
  not_at r h = rw (ne_eqb r m h)

  nobody_before : ((r : ℕ) → r < m → waits s c (T r) ≡ false) → listed after_take m s c ≡ []
  nobody_before h = listed_none after_take m s c (λ r l. ap (waits s c) (not_at r (omega arith)) ∙ h r l)

  -- the list is the row and what waits then
  pub taken_list : (n : ℕ) → m < n → ((r : ℕ) → r < m → waits s c (T r) ≡ false) → listed T n s c ≡ item (T m).number (T m).text ∷ listed after_take n s c
  unfolding listed
  taken_list zero l h = absurd (omega arith)
  taken_list (suc n) l h =
      by_eq n m
      (λ q. rw (q, waiting, eqb_self m, crossed_out, and-false (eqb s (T m).initiator), listed_none T m s c h) (ap (λ (k : List Item). item (T m).number (T m).text ∷ k) (sym (nobody_before h))))
      (λ q. rw (not_at n q) (by_test (waits s c (T n))
      (λ w. rw w (ap (λ (k : List Item). k ++ (item (T n).number (T n).text ∷ [])) (taken_list n (omega arith) h)))
      (λ w. rw w (taken_list n (omega arith) h))))

  same_waits : (u d : ℕ) → (u ≡ s → d ≡ c → ⊥) → waits u d (taken_by (T m) c) ≡ waits u d (T m)
  same_waits u d other =
      by_eq u s
      (λ q. let out = ne_eqb c d (λ e. other q (sym e)) in ap (λ (b : Bool). eqb u (T m).initiator && b) (has_without (T m).carts c d ∙ rw out (and-true (has (T m).carts d))))
      (λ q. let no = ne_eqb u (T m).initiator (λ e. q (e ∙ its_station)) in rw no)

  -- the other lists are what they were
  pub taken_others : (n u d : ℕ) → (u ≡ s → d ≡ c → ⊥) → listed after_take n u d ≡ listed T n u d
  taken_others n u d other =
      listed_same T after_take n u d
      (λ r l. by_eq r m (λ q. rw (q, eqb_self m) (same_waits u d other)) (λ q. ap (waits u d) (not_at r q)))
      (λ r l. by_eq r m (λ q. rw (q, eqb_self m)) (λ q. ap (λ (x : Row). item x.number x.text) (not_at r q)))

  one_less : (k : ℕ) → c < k → count k (has (T m).carts) ≡ 1 + count k (has (without (T m).carts c))
  one_less k l =
      count_off k (has (T m).carts) c l
      ∙ ap₂ (λ (b : Bool) (x : ℕ). cond b 1 0 + x) named (count_ext k _ (has (without (T m).carts c)) (λ u. by_eq u c
      (λ q. rw (q, eqb_self c) (sym crossed_out))
      (λ q. rw (ne_eqb u c q) (sym (has_without (T m).carts c u ∙ rw (ne_eqb c u (λ e. q (sym e))) (and-true (has (T m).carts u)))))))

  -- there is one entry less
  pub taken_members : (k n : ℕ) → c < k → m < n → members T k n ≡ 1 + members after_take k n
  unfolding members
  taken_members k n lc lm =
      sum_bump n (λ r. count k (has (T r).carts)) (λ r. count k (has (after_take r).carts)) m 1 lm
      (λ r l q. ap (λ (x : Row). count k (has x.carts)) (sym (not_at r q)))
      (rw (eqb_self m) (one_less k lc))

  above_taken : (u n : ℕ) → above after_take u n ≡ above T u n
  above_taken u n =
      above_same T after_take u n
      (λ r l. by_eq r m (λ e. rw (e, eqb_self m)) (λ e. ap (λ (x : Row). x.initiator) (not_at r e)))
      (λ r l. by_eq r m (λ e. rw (e, eqb_self m)) (λ e. ap (λ (x : Row). x.number) (not_at r e)))

  rule_here : (n k : ℕ) (sent : ℕ → ℕ) → True (row_rule T n k sent m) → True (row_rule after_take n k sent m)
  rule_here n k sent rule =
      let same = above_taken (T m).initiator m in
      rw (eqb_self m) (rule.0, (let y = rule.1.0 in omega arith, (rule.1.1.0, (without_lt k (T m).carts c rule.1.1.1.0, rule.1.1.1.1))))

  -- and each row is such as it was
  pub taken_rule : (n k : ℕ) (sent : ℕ → ℕ) (r : ℕ) → True (row_rule T n k sent r) → True (row_rule after_take n k sent r)
  taken_rule n k sent r rule =
      let same = above_taken (T r).initiator r in
      by_eq r m
      (λ e. subst (λ (x : ℕ). True (row_rule after_take n k sent x)) (sym e) (rule_here n k sent (subst (λ (x : ℕ). True (row_rule T n k sent x)) e rule)))
      (λ e. rw (ne_eqb r m e) (rule.0, (let y = rule.1.0 in omega arith, rule.1.1)))

-- ROWS MOVED TOGETHER

module _ (T : ℕ → Row) (n : ℕ) (U : Used) (low : U.used ≤ n) (here : U.rows n ≡ T n) where
  -- nobody has yet to take it, or somebody has
  keep_cases : (P : Used → Type 0) → ((T n).carts ≡ 0 → P U) → (((T n).carts ≡ 0 → ⊥) → P (used_rows (update U.rows U.used (T n)) (suc U.used))) → P (keep_row U n)
  unfolding keep_row
  keep_cases P nobody somebody =
      by_test (eqb (T n).carts 0)
      (λ e. rw (here, e) (nobody (eqb-true (T n).carts 0 e)))
      (λ e. rw (here, e) (somebody (eqb-false (T n).carts 0 e)))

  keep_used : (keep_row U n).used ≤ suc n
  keep_used = keep_cases (λ X. X.used ≤ suc n) (λ e. omega arith) (λ e. omega arith)

  keep_rest : (r : ℕ) → n < r → (keep_row U n).rows r ≡ U.rows r
  keep_rest r l = keep_cases (λ X. X.rows r ≡ U.rows r) (λ e. refl) (λ e. rw (ne_eqb r U.used (omega arith)))

  keep_lists : (s c : ℕ) → listed U.rows U.used s c ≡ listed T n s c → listed (keep_row U n).rows (keep_row U n).used s c ≡ listed T (suc n) s c
  unfolding listed
  keep_lists s c before =
      keep_cases (λ X. listed X.rows X.used s c ≡ listed T (suc n) s c)
      (λ e. before ∙ sym (ap (λ (b : Bool). cond b (listed T n s c ++ (item (T n).number (T n).text ∷ [])) (listed T n s c)) (and_second_false (eqb s (T n).initiator) (has (T n).carts c) (ap (λ (x : ℕ). has x c) e ∙ has_zero c))))
      (λ e. listed_put U.rows U.used (T n) s c ∙ ap (λ (l : List Item). cond (waits s c (T n)) (l ++ (item (T n).number (T n).text ∷ [])) l) before)

  keep_members : (k : ℕ) → members U.rows k U.used ≡ members T k n → members (keep_row U n).rows k (keep_row U n).used ≡ members T k (suc n)
  unfolding members sum
  keep_members k before =
      keep_cases (λ X. members X.rows k X.used ≡ members T k (suc n))
      (λ e. let z : count k (has (T n).carts) ≡ 0 = count_none k (has (T n).carts) (λ c l. ap (λ (x : ℕ). has x c) e ∙ has_zero c) in omega arith)
      (λ e. members_put U.rows U.used (T n) k ∙ ap (λ (x : ℕ). x + count k (has (T n).carts)) before)

  keep_somebody : ((r : ℕ) → r < U.used → 0 < (U.rows r).carts) → (r : ℕ) → r < (keep_row U n).used → 0 < ((keep_row U n).rows r).carts
  keep_somebody before =
      keep_cases (λ X. (r : ℕ) → r < X.used → 0 < (X.rows r).carts)
      (λ e. before)
      (λ e r l. by_eq r U.used (λ q. rw (q, eqb_self U.used) (omega arith)) (λ q. rw (ne_eqb r U.used q) (before r (omega arith))))

  keep_above : (s : ℕ) → above U.rows s U.used ≤ above T s n → above T (T n).initiator n ≤ (T n).number → above (keep_row U n).rows s (keep_row U n).used ≤ above T s (suc n)
  unfolding above
  keep_above s before rise =
      keep_cases (λ X. above X.rows s X.used ≤ above T s (suc n))
      (λ e. by_test (eqb s (T n).initiator) (λ q. let z : above T s n ≡ above T (T n).initiator n = ap (λ (x : ℕ). above T x n) (eqb-true s (T n).initiator q) in rw q (omega arith)) (λ q. rw q before))
      (λ e. let z = above_put U.rows U.used (T n) s in by_test (eqb s (T n).initiator) (λ q. rw (z, q) (omega arith)) (λ q. rw (z, q) before))

  keep_rules : (k m : ℕ) (sent : ℕ → ℕ) → ((r : ℕ) → r < U.used → True (row_rule U.rows k m sent r)) → ((s : ℕ) → above U.rows s U.used ≤ above T s n) → True (row_rule T k m sent n)
      → (r : ℕ) → r < (keep_row U n).used → True (row_rule (keep_row U n).rows k m sent r)
  keep_rules k m sent before lower rule =
      keep_cases (λ X. (r : ℕ) → r < X.used → True (row_rule X.rows k m sent r))
      (λ e. before)
      (λ e r l. by_eq r U.used
      (λ q. let same = above_alike U.rows (update U.rows U.used (T n)) (T n).initiator U.used (put_alike U.rows U.used (T n)) in
      let less = lower (T n).initiator in
      rw (q, eqb_self U.used) (rule.0, (let y = rule.1.0 in omega arith, rule.1.1)))
      (λ q. rule_alike U.rows (update U.rows U.used (T n)) k m sent r (λ p lp. put_alike U.rows U.used (T n) p (omega arith)) (before r (omega arith))))

-- what moving the first n rows together leaves of them
module _ (T : ℕ → Row) where
  -- only rows up to n are written, and those behind are what they were
  so_far : (n : ℕ) → ((squeezed T n).used ≤ n) × ((r : ℕ) → n ≤ r → (squeezed T n).rows r ≡ T r)
  unfolding squeezed
  so_far zero = (omega arith, λ r l. refl)
  so_far (suc n) =
      let before = so_far n in
      let here = before.1 n (omega arith) in
      (keep_used T n (squeezed T n) before.0 here, λ r l. keep_rest T n (squeezed T n) before.0 here r (omega arith) ∙ before.1 r (omega arith))

  pub squeezed_used : (n : ℕ) → (squeezed T n).used ≤ n
  squeezed_used n = (so_far n).0

  pub squeezed_rest : (n r : ℕ) → n ≤ r → (squeezed T n).rows r ≡ T r
  squeezed_rest n = (so_far n).1

  -- every list is what it was
  pub squeezed_lists : (n s c : ℕ) → listed (squeezed T n).rows (squeezed T n).used s c ≡ listed T n s c
  unfolding squeezed listed
  squeezed_lists zero s c = refl
  squeezed_lists (suc n) s c = keep_lists T n (squeezed T n) (squeezed_used n) (squeezed_rest n n (omega arith)) s c (squeezed_lists n s c)

  -- as many entries
  pub squeezed_members : (k n : ℕ) → members (squeezed T n).rows k (squeezed T n).used ≡ members T k n
  unfolding squeezed members sum
  squeezed_members k zero = refl
  squeezed_members k (suc n) = keep_members T n (squeezed T n) (squeezed_used n) (squeezed_rest n n (omega arith)) k (squeezed_members k n)

  -- somebody has yet to take each row
  pub squeezed_somebody : (n r : ℕ) → r < (squeezed T n).used → 0 < ((squeezed T n).rows r).carts
  unfolding squeezed
  squeezed_somebody zero = λ r l. absurd (omega arith)
  squeezed_somebody (suc n) = keep_somebody T n (squeezed T n) (squeezed_used n) (squeezed_rest n n (omega arith)) (squeezed_somebody n)

  module _ (k m : ℕ) (sent : ℕ → ℕ) where
    squeezed_above : (n : ℕ) → ((r : ℕ) → r < n → True (row_rule T k m sent r)) → (s : ℕ) → above (squeezed T n).rows s (squeezed T n).used ≤ above T s n
    unfolding squeezed above
    squeezed_above zero rules s = omega arith
    squeezed_above (suc n) rules s =
        keep_above T n (squeezed T n) (squeezed_used n) (squeezed_rest n n (omega arith)) s (squeezed_above n (λ r l. rules r (omega arith)) s) (rules n (omega arith)).1.0

    -- each row is such as a send leaves it
    pub squeezed_rules : (n : ℕ) → ((r : ℕ) → r < n → True (row_rule T k m sent r)) → (r : ℕ) → r < (squeezed T n).used → True (row_rule (squeezed T n).rows k m sent r)
    unfolding squeezed
    squeezed_rules zero rules = λ r l. absurd (omega arith)
    squeezed_rules (suc n) rules =
        let before : (r : ℕ) → r < n → True (row_rule T k m sent r) = λ r l. rules r (omega arith) in
        keep_rules T n (squeezed T n) (squeezed_used n) (squeezed_rest n n (omega arith)) k m sent (squeezed_rules n before) (squeezed_above n before) (rules n (omega arith))

-- where somebody has yet to take each row, there are no more rows than entries
pub few_rows : (T : ℕ → Row) (k n : ℕ) → ((r : ℕ) → r < n → 0 < (T r).carts) → ((r : ℕ) → r < n → (T r).carts < 2 ^ k) → n ≤ members T k n
unfolding members sum
few_rows T k zero somebody below = omega arith
few_rows T k (suc n) somebody below =
    let before = few_rows T k n (λ r l. somebody r (omega arith)) (λ r l. below r (omega arith)) in
    let one = some_member k (T n).carts (below n (omega arith)) (somebody n (omega arith)) in
    let more = count_at k (has (T n).carts) one.0 one.1 one.2 in
    omega arith
