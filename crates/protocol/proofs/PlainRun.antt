-- The plain lists beside the controller: what a list has is what the cart has yet to receive, so a radio step hands over its head.
use mathlib.Core.Path.{ap, refl, sym, ◌∙◌, ◌≡◌}
use mathlib.Core.Bool.{◌&&◌, Bool, cond, false, true}
use mathlib.Core.Option.{Option, none, some}
use mathlib.Core.List.{◌++◌, List, [], ◌∷◌, append_assoc}
use Prim.Native.Nat.{◌+◌, ◌*◌, ◌<◌, ◌^◌, suc, zero, ℕ, ◌≤◌}
use native.Mathlib.Nat.{mul_comm, mul-le-mul_right}
use native.Mathlib.Omega.{arith}
use lib.Dec.{eqb, leb}
use lib.ListN.{drop, get_or, length, length-append, take, take-append-drop}
use borrow.Author.Tests.{eq-eqb, le-leb, le-ltb, leb-true, lt-leb, ne_eqb}
use Rattle.protocol.specs.Folds.{count, sum, update2}
use Rattle.protocol.specs.CartSets.{has}
use Rattle.protocol.specs.Floor.{Floor, Limits, is_held, just_started, most_text}
use Rattle.protocol.specs.Events.{Answer, Event, Report, accepted, enter, flag, group, move, radio, refused, retire, send, send_group, send_long, start, wire}
use Rattle.protocol.specs.Groups.{as_sent, on_group}
use Rattle.protocol.specs.Handoff.{on_enter, on_flag, on_move, on_retire}
use Rattle.protocol.specs.Wired.{handle, with_message}
use Rattle.protocol.specs.Wireless.{hand_over}
use Rattle.protocol.specs.Form.{bit}
use Rattle.protocol.specs.Step.{answer, floor_after, step}
use Rattle.protocol.specs.TwoLists.{Item, item}
use Rattle.protocol.specs.PlainLists.{Plain, PlainCall, appended, beheaded, call_of, entries, fed, fed_by, most_entries, plain_accept, plain_after, plain_passes, plain_refusal, plain_send, plain_start, plain_started, plain_step, plain_take}
use Rattle.protocol.proofs.Tests.{and_intro, and_left, and_right, both_equal, by_eq, by_test, clash, eqb_self, on_cond, update2_at}
use Rattle.protocol.proofs.Accepted.{MayRadio, MayRetire, MaySend, by_step, unlined}
use Rattle.protocol.proofs.Invariant.{Entry, History, Invariant, blank, names, naming}
use Rattle.protocol.proofs.Updates.{append-nil, handed}
use Rattle.protocol.proofs.SendStep.{noted}
use Rattle.protocol.proofs.InvariantStep.{note, note_refused}
use Rattle.protocol.proofs.Demand3.{naming_append, naming_more, naming_none, nothing, step_size, two_lists}
use Rattle.protocol.proofs.Counting.{count_mono, count_off, sum_le, sum_mono, sum_only, sum_swap}
use Rattle.protocol.proofs.SumSteps.{sum_count}
use Rattle.protocol.proofs.SumRun.{initiator_on_floor}
use Rattle.protocol.proofs.Sized.{CountsFit}
use Rattle.protocol.proofs.LiveRun.{Reached, reached_start, reached_step}
use Rattle.protocol.proofs.PlainLaws.{entries_more, plain_form_kept, plain_form_started, plain_rule_of}
use Rattle.protocol.proofs.ListsRun.{nothing_owed}
use Rattle.protocol.proofs.RetireStep.{forget, forgotten, length_forget, names_forget, naming_forget}

-- LISTS

append_same : (l a b : List Item) → l ++ a ≡ l ++ b → a ≡ b
append_same [] a b e = e
append_same (x ∷ l) a b e = append_same l a b (let z : x ∷ (l ++ a) ≡ x ∷ (l ++ b) = e in cc)

-- the entry at j, and those behind it
entry_at : (j : ℕ) (h : List Entry) (e : Entry) (g : List Entry) → drop j h ≡ e ∷ g → (get_or h j blank ≡ e) × (drop (suc j) h ≡ g)
entry_at zero [] e g q = absurd (empty_not q)
  where
    empty_not : [] ≡ e ∷ g → ⊥
    empty_not q = let y : ◌≡◌ {A = ℕ} 0 1 = cc in omega arith
entry_at zero (x ∷ h) e g q = ((let z : x ∷ h ≡ e ∷ g = q in cc), (let z : x ∷ h ≡ e ∷ g = q in cc))
entry_at (suc j) [] e g q = absurd (empty_not q)
  where
    empty_not : [] ≡ e ∷ g → ⊥
    empty_not q = let y : ◌≡◌ {A = ℕ} 0 1 = cc in omega arith
entry_at (suc j) (x ∷ h) e g q = entry_at j h e g q

length-take : (n : ℕ) (h : List Entry) → n ≤ length h → length (take n h) ≡ n
length-take zero h l = refl
length-take (suc n) [] l = absurd (omega arith)
length-take (suc n) (x ∷ h) l = ap suc (length-take n h (omega arith))

-- one more passes
count_more : (n : ℕ) (f g : ℕ → Bool) (m : ℕ) → m < n → f m ≡ true → g m ≡ false → ((k : ℕ) → g k ≡ true → f k ≡ true) → suc (count n g) ≤ count n f
count_more n f g m lm p q h =
    let a = count_off n f m lm in
    let b = count_mono n g (λ u. cond (eqb u m) false (f u)) (λ k e. by_eq k m (λ z. clash (g m) (rw z at e) q) (λ z. rw (ne_eqb k m z) (h k e))) in
    let one : bit (f m) ≡ 1 = rw p in
    omega arith

-- WHAT A CART HAS YET TO RECEIVE

-- the sends that name cart c, and what it has of them: the rest is its list
pub record Tracks (G : History) (P : Plain) : Type 0 where
  pub counted : (s : ℕ) → P.count s ≡ length (G.sends s)
  pub rest : (s c : ℕ) → naming c 0 (G.sends s) ≡ G.received s c ++ P.list s c

module _ (M : Limits) (F : Floor) (G : History) (I : Invariant M F G) where
  -- of every station and cart: the entries from the cart's next number on
  pub received_then : (s c : ℕ) → naming c 0 (G.sends s) ≡ G.received s c ++ naming c (F.next c s) (drop (F.next c s) (G.sends s))
  received_then s c =
      let n = F.next c s in
      let h = G.sends s in
      let l = length-take n h (let a = I.low c s in let b = I.sends_counted s in omega arith) in
      let z : 0 + length (take n h) ≡ n = omega arith in
      rw (I.received_so_far s c) (ap (naming c 0) (sym (take-append-drop n h)) ∙ naming_append c 0 (take n h) (drop n h) ∙ ap (λ (x : ℕ). naming c 0 (take n h) ++ naming c x (drop n h)) z)

  -- room m holds a message of s that names c, with a number from j on
  abbrev from_on : ℕ → ℕ → ℕ → ℕ → Bool
  from_on s c j m = is_held F m && (eqb (F.initiator m) s && (has (F.named m) c && leb j (F.number m)))

  -- each of them is a held message
  held_entries : (s c j : ℕ) (g : List Entry) → c < F.carts → drop j (G.sends s) ≡ g → F.next c s ≤ j
      → length (naming c j g) ≤ count M.held (from_on s c j)
  held_entries s c j [] lc q le = omega arith
  held_entries s c j (e ∷ g) lc q le =
      let z = entry_at j (G.sends s) e g q in
      let r = held_entries s c (suc j) g lc z.1 (omega arith) in
      let mono : (m : ℕ) → from_on s c (suc j) m ≡ true → from_on s c j m ≡ true =
      λ m p. let a = and_left (is_held F m) (eqb (F.initiator m) s && (has (F.named m) c && leb (suc j) (F.number m))) p in
      let b = and_right (is_held F m) (eqb (F.initiator m) s && (has (F.named m) c && leb (suc j) (F.number m))) p in
      let d = and_left (eqb (F.initiator m) s) (has (F.named m) c && leb (suc j) (F.number m)) b in
      let f = and_right (eqb (F.initiator m) s) (has (F.named m) c && leb (suc j) (F.number m)) b in
      let v = and_left (has (F.named m) c) (leb (suc j) (F.number m)) f in
      let w = leb-true (suc j) (F.number m) (and_right (has (F.named m) c) (leb (suc j) (F.number m)) f) in
      rw (a, d, v) (le-leb j (F.number m) (omega arith)) in
      by_test (has e.set c)
      (λ n. let nm : names (G.sends s) j c ≡ true = rw z.0 n in
      let o = I.owed s j c lc nm le in
      let k = I.held o.m o.held in
      let d : has (F.named o.m) c ≡ true = rw (← k.is_set, o.is_initiator, o.is_number) nm in
      let more = count_more M.held (from_on s c j) (from_on s c (suc j)) o.m o.held.slot
      (rw (o.held.some, d) (and_intro (eqb (F.initiator o.m) s) (leb j (F.number o.m)) (eq-eqb (F.initiator o.m) s o.is_initiator) (le-leb j (F.number o.m) (let y = o.is_number in omega arith))))
      (rw (o.held.some, d) (not_later o.m o.is_number)) mono in
      rw n (omega arith))
      (λ n. let m = count_mono M.held (from_on s c (suc j)) (from_on s c j) mono in rw n (omega arith))
    where
      not_later : (m : ℕ) → F.number m ≡ j → eqb (F.initiator m) s && leb (suc j) (F.number m) ≡ false
      not_later m e = by_test (eqb (F.initiator m) s && leb (suc j) (F.number m))
          (λ p. absurd (let z = leb-true (suc j) (F.number m) (and_right (eqb (F.initiator m) s) (leb (suc j) (F.number m)) p) in omega arith)) (λ p. p)

  -- so there are at most held × carts of them
  pub few_entries : (P : Plain) → Tracks G P → P.carts ≡ F.carts → entries P ≤ P.carts * M.held
  unfolding entries
  few_entries P T k =
      let n = P.stations in
      let one : (s c : ℕ) → c < F.carts → length (P.list s c) ≤ count M.held (from_on s c (F.next c s)) =
      λ s c lc. let e = append_same (G.received s c) (P.list s c) (naming c (F.next c s) (drop (F.next c s) (G.sends s))) (sym (T.rest s c) ∙ received_then s c) in
      rw e (held_entries s c (F.next c s) (drop (F.next c s) (G.sends s)) lc refl (omega arith)) in
      let a = sum_mono n (λ s. sum P.carts (λ c. length (P.list s c))) (λ s. sum P.carts (λ c. count M.held (from_on s c (F.next c s))))
      (λ s ls. sum_mono P.carts (λ c. length (P.list s c)) (λ c. count M.held (from_on s c (F.next c s))) (λ c lc. one s c (omega arith))) in
      let b = sum_swap n P.carts (λ s c. count M.held (from_on s c (F.next c s))) in
      let d = sum_le P.carts M.held (λ c. sum n (λ s. count M.held (from_on s c (F.next c s)))) (λ c lc. by_cart n c) in
      omega arith
    where
      -- of one cart: each room for one station at most
      by_cart : (n c : ℕ) → sum n (λ s. count M.held (from_on s c (F.next c s))) ≤ M.held
      by_cart n c =
          let f : ℕ → ℕ → ℕ = λ s m. cond (from_on s c (F.next c s) m) 1 0 in
          let a = sum_mono n (λ s. count M.held (from_on s c (F.next c s))) (λ s. sum M.held (f s))
          (λ s ls. let z = sum_count M.held (from_on s c (F.next c s)) in omega arith) in
          let b = sum_swap n M.held f in
          let d = sum_le M.held 1 (λ m. sum n (λ s. f s m)) (λ m lm. sum_only n (λ s. f s m) (F.initiator m) 1
          (λ s ls ne. by_test (is_held F m) (λ h. rw (h, ne_eqb (F.initiator m) s (λ z. ne (sym z)))) (λ h. rw h))
          (λ li. on_cond (λ x. x ≤ 1) (from_on (F.initiator m) c (F.next c (F.initiator m)) m) (λ e. omega arith) (λ e. omega arith))) in
          omega arith

-- THE LISTS AFTER A CALL

appended_size : (P : Plain) (s set : ℕ) (text : List ℕ) → ((appended P s set text).stations ≡ P.stations) × ((appended P s set text).carts ≡ P.carts)
unfolding appended
appended_size P s set text = (refl, refl)

beheaded_size : (P : Plain) (s c : ℕ) → ((beheaded P s c).stations ≡ P.stations) × ((beheaded P s c).carts ≡ P.carts)
unfolding beheaded
beheaded_size P s c = (refl, refl)

carts_of_send : (P : Plain) (F : Floor) (s set : ℕ) (text : List ℕ) (m : ℕ) → P.carts ≡ F.carts
    → (appended P s set text).carts ≡ (with_message F m s set text).carts
unfolding appended with_message
carts_of_send P F s set text m e = e

send_passes : (M : Limits) (P : Plain) (s set : ℕ) (text : List ℕ) → length text ≤ most_text M → plain_passes M P ≡ true → s < P.stations
    → set < 2 ^ P.carts → P.count s ≤ M.last → entries P + count P.carts (has set) ≤ most_entries M
    → plain_refusal M P (plain_send s set text) ≡ 0
unfolding plain_refusal
send_passes M P s set text fits h ls lc ln le =
    rw (
      le-ltb (most_text M) (length text) fits,
      h,
      lt-leb P.stations s ls,
      lt-leb (2 ^ P.carts) set lc,
      le-ltb M.last (P.count s) ln,
      le-ltb
          (most_entries M) (entries P + count P.carts (has set)) le,
    )

take_passes : (M : Limits) (P : Plain) (s c : ℕ) (x : Item) (r : List Item) → plain_passes M P ≡ true → s < P.stations → c < P.carts
    → P.list s c ≡ x ∷ r → plain_refusal M P (plain_take s c) ≡ 0
unfolding plain_refusal
take_passes M P s c x r h ls lc q = rw (h, lt-leb P.stations s ls, lt-leb P.carts c lc, q)

tracks_send : (M : Limits) (P : Plain) (G : History) → Tracks G P → (s set : ℕ) (text : List ℕ)
    → Tracks (noted G s (record { set = set; text = text })) (appended P s set text)
unfolding appended
tracks_send M P G T s set text =
    let E : Entry = record { set = set; text = text } in
    record {
      counted = λ u. by_eq u s
          (λ z. rw (z, eqb_self s) (let a = T.counted s in let b = length-append (G.sends s) (E ∷ []) in omega arith))
          (λ z. rw (ne_eqb u s z) (T.counted u));
      rest = λ u c. by_eq u s
          (λ z. rw (z, eqb_self s)
          (let k : 0 + length (G.sends s) ≡ P.count s = (let a = T.counted s in omega arith) in
          naming_more c 0 (G.sends s) E ∙ rw (k, T.rest s c)
          (by_test (has set c)
          (λ e. rw e (append_assoc (G.received s c) (P.list s c) (item (P.count s) text ∷ [])))
          (λ e. rw e (append-nil (G.received s c ++ P.list s c))))))
          (λ z. rw (ne_eqb u s z) (T.rest u c));
    }

tracks_take : (P : Plain) (G : History) → Tracks G P → (s c : ℕ) (x : Item) (r : List Item) → P.list s c ≡ x ∷ r
    → Tracks (handed G (update2 G.received s c (G.received s c ++ (x ∷ [])))) (beheaded P s c)
unfolding beheaded
tracks_take P G T s c x r q =
    record {
      counted = T.counted;
      rest = λ u d. by_test (eqb u s && eqb d c)
          (λ e. let z = both_equal u s d c e in
          rw e (rw (z.0, z.1, q) (T.rest s c ∙ rw q (sym (append_assoc (G.received s c) (x ∷ []) r)))))
          (λ e. rw e (T.rest u d));
    }

-- EACH STEP

-- a refused event gives nothing to the lists
pub fed_refused : (e : Event) (r : ℕ) → fed_by e (refused r) ≡ none
fed_refused (start n k) r = refl
fed_refused (enter t c) r = refl
fed_refused (send s set text) r = refl
fed_refused (wire i j) r = refl
fed_refused (radio t c buffer) r = refl
fed_refused (move c to) r = refl
fed_refused (flag c b) r = refl
fed_refused (retire c) r = refl
fed_refused (group g set) r = refl
fed_refused (send_group s g text) r = refl
fed_refused (send_long s set text) r = refl

-- what is fed to the lists is not refused, and a radio step hands over the head
abbrev pub Met : Limits → Plain → Option PlainCall → Answer → Type 0
Met M P none a = Unit {0}
Met M P (some (plain_start n k)) a = ⊥
Met M P (some (plain_send s set text)) a = plain_refusal M P (plain_send s set text) ≡ 0
Met M P (some (plain_take s c)) (refused r) = ⊥
Met M P (some (plain_take s c)) (accepted l) = (plain_refusal M P (plain_take s c) ≡ 0) × (P.list s c ≡ item l.b l.text ∷ drop 1 (P.list s c))

pub record Goes (M : Limits) (P Q : Plain) (G : History) (o : Option PlainCall) (a : Answer) : Type 0 where
  pub tracks : Tracks G Q
  pub stations : Q.stations ≡ P.stations
  pub carts : Q.carts ≡ P.carts
  pub met : Met M P o a

pub record Beside (M : Limits) (F : Floor) (G : History) (P : Plain) : Type 0 where
  pub reached : Reached M F G
  pub tracks : Tracks G P
  pub stations : P.stations ≡ F.stations
  pub carts : P.carts ≡ F.carts
  pub passes : plain_passes M P ≡ true

-- a call that is not refused
pub step_taken : (M : Limits) (P : Plain) (call : PlainCall) → plain_refusal M P call ≡ 0 → plain_step M P call ≡ plain_accept M P call
unfolding plain_step
step_taken M P call z = rw z

module _ (M : Limits) (F : Floor) (G : History) (P : Plain) (B : Beside M F G P) where
  I : Invariant M F G
  I = B.reached.fits_history

  T : Tracks G P
  T = B.tracks

  -- the lists hold at most held × carts entries, on any floor that they track
  few : (X : Floor) (H : History) (Q : Plain) → Invariant M X H → Tracks H Q → Q.carts ≡ X.carts → Q.carts ≡ P.carts → entries Q ≤ most_entries M
  few X H Q J S x y =
      let a = few_entries M X H J Q S x in
      let b = (plain_rule_of M P B.passes).0.1.1.1.1.1 in
      let d : Q.carts * M.held ≤ M.carts * M.held = mul-le-mul_right M.held (let z = y in let w = b in omega arith) in
      let e = mul_comm M.carts M.held in
      omega arith

  same_goes : (a : Answer) → Goes M P P G none a
  same_goes a = record { tracks = T; stations = refl; carts = refl; met = tt }

  send_goes : (s set : ℕ) (text : List ℕ) (m : ℕ) → MaySend M F s set text m → (l : Report)
      → Invariant M (with_message F m s set text) (noted G s (record { set = set; text = text }))
      → Goes M P (plain_step M P (plain_send s set text)) (noted G s (record { set = set; text = text })) (some (plain_send s set text)) (accepted l)
  send_goes s set text m may l J =
      let ls : s < P.stations = (let z = B.stations in let y = may.names.station in omega arith) in
      let lc : set < 2 ^ P.carts = rw B.carts may.names.carts in
      let S = sent_tracks in
      let few' = few (with_message F m s set text) (noted G s (record { set = set; text = text })) (appended P s set text) J S (same_carts s set text m) (appended_carts s set text) in
      let more = entries_more P s set text ls in
      let number : P.count s ≤ M.last = (let z = T.counted s in let y = I.sends_counted s in let x = may.takes.number in omega arith) in
      let z = send_passes M P s set text may.fits B.passes ls lc number (omega arith) in
      rw (step_taken M P (plain_send s set text) z)
      (record { tracks = S; stations = appended_stations s set text; carts = appended_carts s set text; met = z })
    where
      sent_tracks : Tracks (noted G s (record { set = set; text = text })) (appended P s set text)
      sent_tracks = tracks_send M P G T s set text

      same_carts : (s set : ℕ) (text : List ℕ) (m : ℕ) → (appended P s set text).carts ≡ (with_message F m s set text).carts
      same_carts s set text m = carts_of_send P F s set text m B.carts

      appended_carts : (s set : ℕ) (text : List ℕ) → (appended P s set text).carts ≡ P.carts
      appended_carts s set text = (appended_size P s set text).1

      appended_stations : (s set : ℕ) (text : List ℕ) → (appended P s set text).stations ≡ P.stations
      appended_stations s set text = (appended_size P s set text).0

  radio_goes : (t c buffer m : ℕ) → MayRadio M F t c m
      → Invariant M (hand_over M F m t c).floor (note (radio t c buffer) (accepted (hand_over M F m t c).report) G)
      → Goes M P (plain_step M P (plain_take (F.initiator m) c)) (note (radio t c buffer) (accepted (hand_over M F m t c).report) G) (some (plain_take (F.initiator m) c)) (accepted (hand_over M F m t c).report)
  unfolding hand_over
  radio_goes t c buffer m may J =
      let s = F.initiator m in
      let x = item (F.number m) (F.text m) in
      let H = note (radio t c buffer) (accepted (hand_over M F m t c).report) G in
      let X = (hand_over M F m t c).floor in
      let g : H.received s c ≡ G.received s c ++ (x ∷ []) = update2_at G.received s c (G.received s c ++ (x ∷ [])) in
      let r = naming c (X.next c s) (drop (X.next c s) (G.sends s)) in
      let e : G.received s c ++ P.list s c ≡ G.received s c ++ (x ∷ r) = sym (T.rest s c) ∙ received_then M X H J s c ∙ ap (λ (y : List Item). y ++ r) g ∙ append_assoc (G.received s c) (x ∷ []) r in
      let q : P.list s c ≡ x ∷ r = append_same (G.received s c) (P.list s c) (x ∷ r) e in
      let k = I.queues m t c may.queued in
      let ls : s < P.stations = (let z = B.stations in let y = initiator_on_floor M F G I m k.held in omega arith) in
      let lc : c < P.carts = (let z = B.carts in let y = may.cart in omega arith) in
      let z = take_passes M P s c x r B.passes ls lc q in
      rw (step_taken M P (plain_take s c) z)
      (record {
        tracks = tracks_take P G T s c x r q;
        stations = (beheaded_size P s c).0;
        carts = (beheaded_size P s c).1;
        met = (z, rw q);
      })

  retire_goes : (c : ℕ) → MayRetire M F c → (a : Answer) → Goes M P P (forgotten G c) none a
  retire_goes c may a =
      record {
        tracks = record {
          counted = λ s. T.counted s ∙ sym (length_forget c (G.sends s));
          rest = λ s d. by_eq d c
              (λ z. rw (z, eqb_self c) (naming_none c 0 (forget c (G.sends s))
              (λ n. by_test (names (forget c (G.sends s)) n c) (λ q. absurd ((names_forget c (G.sends s) n c q).1 refl)) (λ q. q)) ∙ sym
              (list_empty s)))
              (λ z. rw (ne_eqb d c z) (naming_forget c d 0 (G.sends s) z ∙ T.rest s d));
        };
        stations = refl;
        carts = refl;
        met = tt;
      }
    where
      list_empty : (s : ℕ) → P.list s c ≡ []
      list_empty s = append_same (G.received s c) (P.list s c) []
          (sym (T.rest s c) ∙ (two_lists M F G I s c may.cart).equal (nothing_owed M F s c may.unnamed) ∙ sym (append-nil (G.received s c)))

  -- every event
  abbrev Next : Event → Floor → Answer → Type 0
  Next e X a = Invariant M X (note (as_sent F e) a G) → Goes M P (fed M P (fed_by (as_sent F e) a)) (note (as_sent F e) a G) (fed_by (as_sent F e) a) a

  step_goes : (e : Event) → Next e (step M F e) (answer M F e)
  unfolding hand_over
  step_goes =
      by_step M F Next I.started
      (λ e r J. rw (fed_refused (as_sent F e) r, note_refused (as_sent F e) r G) (same_goes (refused r)))
      (λ t c may J. same_goes (accepted (on_enter M F t c).report))
      (λ s set text m may J. send_goes s set text m may _ J)
      (λ i j r l may J. same_goes (accepted (handle M (unlined F i j) i j r).report))
      (λ t c buffer m may J. radio_goes t c buffer m may J)
      (λ c to may J. same_goes (accepted (on_move F c to).report))
      (λ c b may J. same_goes (accepted (on_flag F c b).report))
      (λ c may J. retire_goes c may (accepted (on_retire F c).report))
      (λ g set may J. same_goes (accepted (on_group F g set).report))
      (λ s g text m may J. send_goes s (F.groups g) text m may _ J)
      (λ s set text m may J. send_goes s set text m may _ J)

  pub goes : (e : Event) → Goes M P (fed M P (call_of M F e)) (note (as_sent F e) (answer M F e) G) (call_of M F e) (answer M F e)
  goes e = step_goes e (reached_step M F G e B.reached).fits_history

  pub beside_step : (e : Event) → Beside M (step M F e) (note (as_sent F e) (answer M F e) G) (fed M P (call_of M F e))
  beside_step e =
      let g = goes e in
      let z = step_size M F I.started e in
      record {
        reached = reached_step M F G e B.reached;
        tracks = g.tracks;
        stations = g.stations ∙ B.stations ∙ sym z.stations;
        carts = g.carts ∙ B.carts ∙ sym z.carts;
        passes = fed_passes (call_of M F e);
      }
    where
      fed_passes : (o : Option PlainCall) → plain_passes M (fed M P o) ≡ true
      fed_passes none = B.passes
      fed_passes (some call) = plain_form_kept M P call B.passes

-- EVERY RUN

pub beside_run : (M : Limits) (F : Floor) (G : History) (P : Plain) (es : List Event) → Beside M F G P
    → (H : History) × Beside M (floor_after M F es) H (plain_after M F P es)
unfolding floor_after plain_after
beside_run M F G P [] B = (G, B)
beside_run M F G P (e ∷ es) B = beside_run M (step M F e) (note (as_sent F e) (answer M F e) G) (fed M P (call_of M F e)) es (beside_step M F G P B e)

-- "for every run from a floor just started, with lists started alike"
pub beside_start : (M : Limits) (n k : ℕ) → CountsFit M n k → Beside M (just_started n k) nothing (plain_started n k)
beside_start M n k fit =
    record {
      reached = reached_start M n k fit.stations;
      tracks = record { counted = λ s. refl; rest = λ s c. refl };
      stations = refl;
      carts = refl;
      passes = plain_form_started M n k fit;
    }

-- what is fed is never refused
pub met_passes : (M : Limits) (P : Plain) (o : Option PlainCall) (a : Answer) (call : PlainCall) → Met M P o a → o ≡ some call
    → plain_refusal M P call ≡ 0
met_passes M P none a call m q = absurd (let z : none ≡ some call = q in let y : ◌≡◌ {A = ℕ} 0 1 = cc in omega arith)
met_passes M P (some (plain_start n k)) a call m q = absurd m
met_passes M P (some (plain_send s set text)) a call m q = let z : plain_send s set text ≡ call = cc in rw (← z) m
met_passes M P (some (plain_take s c)) (refused r) call m q = absurd m
met_passes M P (some (plain_take s c)) (accepted l) call m q = let z : plain_take s c ≡ call = cc in rw (← z) m.0

-- "It holds at most 2,048 = 32 × 64 entries"
pub few_beside : (M : Limits) (F : Floor) (G : History) (P : Plain) → Beside M F G P → entries P ≤ most_entries M
few_beside M F G P B = (plain_rule_of M P B.passes).1.1.1
