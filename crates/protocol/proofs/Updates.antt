-- Updates of one part of the floor, each with the invariant carried over.
use mathlib.Core.Path.{◌≡◌, ap, fun_ext, refl, sym, ◌∙◌}
use mathlib.Core.Bool.{◌&&◌, Bool, cond, false, true}
use mathlib.Core.List.{◌++◌, List, [], ◌∷◌}
use Prim.Native.Nat.{◌+◌, ◌<◌, suc, zero, ℕ, ◌≤◌}
use native.Mathlib.Omega.{arith}
use lib.Dec.{eqb, ltb}
use lib.ListN.{get_or, length, take}
use borrow.Author.Tests.{eq-eqb, eqb-true, ltb-false, ltb-true}
use Rattle.protocol.specs.Folds.{update, update2}
use Rattle.protocol.specs.CartSets.{has}
use Rattle.protocol.specs.Floor.{Floor, Limits, Place, Record, ack_list, at, behead, between, delete, deregister, entered, leaving, local_to, multicast, on_lines, outside, put, register, set_acked, set_acks, set_copy, set_expected, set_next, set_place, set_queue, travelling}
use Rattle.protocol.specs.Handoff.{row_of}
use Rattle.protocol.specs.Claims.{All}
use Rattle.protocol.specs.Form.{handoff_of, handoffs, multicast_numbers}
use Rattle.protocol.specs.TwoLists.{Item}
use Rattle.protocol.proofs.Tests.{and_left, and_right, both_differ, both_equal, by_test, not_both_equal, on_cond, on_update, update2_at}
use Rattle.protocol.proofs.FloorLaws.{on_put}
use Rattle.protocol.proofs.Invariant.{CountsUp, Entry, Held, History, Invariant, Queued, Sound, blank, names, naming}

-- lists
pub all_map : {P Q : Record → Type 0} (l : List Record) → ((b : Record) → P b → Q b) → All P l → All Q l
all_map [] f a = tt
all_map (b ∷ l) f a = (f b a.0, all_map l f a.1)

pub all_append : (P : Record → Type 0) (l k : List Record) → All P l → All P k → All P (l ++ k)
all_append P [] k a b = b
all_append P (x ∷ l) k a b = (a.0, all_append P l k a.1 b)

pub numbers_append : (l k : List Record) → multicast_numbers (l ++ k) ≡ multicast_numbers l ++ multicast_numbers k
numbers_append [] k = refl
numbers_append (multicast n ∷ l) k = rw (numbers_append l k)
numbers_append (ack_list n x ∷ l) k = numbers_append l k
numbers_append (delete n ∷ l) k = numbers_append l k
numbers_append (deregister c ∷ l) k = numbers_append l k
numbers_append (register c row ∷ l) k = numbers_append l k

pub handoffs_append : (c : ℕ) (l k : List Record) → handoffs c (l ++ k) ≡ handoffs c l ++ handoffs c k
handoffs_append c [] k = refl
handoffs_append c (multicast n ∷ l) k = handoffs_append c l k
handoffs_append c (ack_list n x ∷ l) k = handoffs_append c l k
handoffs_append c (delete n ∷ l) k = handoffs_append c l k
handoffs_append c (deregister d ∷ l) k = by_test (eqb d c) (λ e. rw (e, handoffs_append c l k)) (λ e. rw (e, handoffs_append c l k))
handoffs_append c (register d row ∷ l) k = by_test (eqb d c) (λ e. rw (e, handoffs_append c l k)) (λ e. rw (e, handoffs_append c l k))

pub append-nil {ℓ} : {A : Type ℓ} (l : List A) → l ++ [] ≡ l
append-nil [] = refl
append-nil (x ∷ l) = rw (append-nil l)

pub counts_up_le : (e : ℕ) (l : List ℕ) (n : ℕ) → CountsUp e l n → e ≤ n
counts_up_le e [] n r = omega arith
counts_up_le e (x ∷ l) n r = let z = counts_up_le (suc e) l n r.1 in omega arith

pub counts_up_more : (e : ℕ) (l : List ℕ) (n : ℕ) → CountsUp e l n → CountsUp e (l ++ (n ∷ [])) (suc n)
counts_up_more e [] n r = (sym r, ap suc r)
counts_up_more e (x ∷ l) n r = (r.0, counts_up_more (suc e) l n r.1)

-- the entries that name a cart
pub naming_skip : (c k : ℕ) (h : List Entry) (n n' : ℕ) → n ≤ n' → ((j : ℕ) → n ≤ j → j < n' → names h j c ≡ false) → naming c k (take n' h) ≡ naming c k (take n h)
naming_skip c k h zero zero le f = refl
naming_skip c k [] zero (suc n') le f = refl
naming_skip c k (e ∷ h) zero (suc n') le f =
    rw (f 0 (omega arith) (omega arith)) (naming_skip c (suc k) h zero n' (omega arith) (λ j a b. f (suc j) (omega arith) (omega arith)))
naming_skip c k h (suc n) zero le f = absurd (omega arith)
naming_skip c k [] (suc n) (suc n') le f = refl
naming_skip c k (e ∷ h) (suc n) (suc n') le f =
    let r = naming_skip c (suc k) h n n' (omega arith) (λ j a b. f (suc j) (omega arith) (omega arith)) in
    by_test (has e.set c) (λ q. rw (q, r)) (λ q. rw (q, r))

pub naming_next : (c k : ℕ) (h : List Entry) (n : ℕ) → n < length h → names h n c ≡ true
    → naming c k (take (suc n) h) ≡ naming c k (take n h) ++ (record { number = k + n; text = (get_or h n blank).text } ∷ [])
naming_next c k [] n lt e = absurd (omega arith)
naming_next c k (x ∷ h) zero lt e = let z : k + 0 ≡ k = omega arith in rw (e, z)
naming_next c k (x ∷ h) (suc n) lt e =
    let z : k + suc n ≡ suc k + n = omega arith in
    let r = naming_next c (suc k) h n (omega arith) e in
    by_test (has x.set c) (λ q. rw (q, z, r)) (λ q. rw (q, z, r))

-- one line after a pop: P before, Q after
pub on_beheaded : (P Q : ℕ → ℕ → List Record → Type 0) (i j : ℕ) (lines : ℕ → ℕ → List Record) (b : Record) (l : List Record) → lines i j ≡ b ∷ l
    → ((k h : ℕ) → P k h (lines k h)) → (P i j (b ∷ l) → Q i j l) → ((k h : ℕ) (l : List Record) → eqb i k && eqb j h ≡ false → P k h l → Q k h l)
    → (k h : ℕ) → Q k h (behead i j lines k h)
on_beheaded P Q i j lines b l e f g o k h =
    on_cond (Q k h) (eqb i k && eqb j h)
    (λ t. rw (← (eqb-true i k (and_left (eqb i k) (eqb j h) t)), ← (eqb-true j h (and_right (eqb i k) (eqb j h) t)), e) (g (rw e at (f i j))))
    (λ t. o k h (lines k h) t (f k h))

module _ (M : Limits) (F : Floor) (G : History) where
  -- a change that one clause alone speaks of
  pub queue_changed : Invariant M F G → (x : ℕ → ℕ → ℕ)
      → ((m t c : ℕ) → has (x m t) c ≡ true → Queued M F.waiting F.initiator F.number F.named F.place F.next m t c) → Invariant M (set_queue F x) G
  queue_changed I x q = record {
    queues = q;
    sends_counted = I.sends_counted;
    low = I.low;
    run = I.run;
    held = I.held;
    one_room = I.one_room;
    owed = I.owed;
    gone = I.gone;
    acks = I.acks;
    acked = I.acked;
    copies = I.copies;
    within = I.within;
    records_sound = I.records_sound;
    handoffs_right = I.handoffs_right;
    out = I.out;
    real = I.real;
    started = I.started;
    senders = I.senders;
    fits = I.fits;
    received_so_far = I.received_so_far;
  }

  pub acks_changed : Invariant M F G → (x : ℕ → ℕ → ℕ)
      → ((m t c : ℕ) → Held M F.waiting m → t < F.stations → has (x m t) c ≡ true → F.number m < F.next c (F.initiator m)) → Invariant M (set_acks F x) G
  acks_changed I x q = record {
    acks = q;
    sends_counted = I.sends_counted;
    low = I.low;
    run = I.run;
    held = I.held;
    one_room = I.one_room;
    owed = I.owed;
    gone = I.gone;
    acked = I.acked;
    copies = I.copies;
    within = I.within;
    queues = I.queues;
    records_sound = I.records_sound;
    handoffs_right = I.handoffs_right;
    out = I.out;
    real = I.real;
    started = I.started;
    senders = I.senders;
    fits = I.fits;
    received_so_far = I.received_so_far;
  }

  pub acked_changed : Invariant M F G → (x : ℕ → ℕ)
      → ((m c : ℕ) → Held M F.waiting m → has (x m) c ≡ true → F.number m < F.next c (F.initiator m)) → Invariant M (set_acked F x) G
  acked_changed I x q = record {
    acked = q;
    sends_counted = I.sends_counted;
    low = I.low;
    run = I.run;
    held = I.held;
    one_room = I.one_room;
    owed = I.owed;
    gone = I.gone;
    acks = I.acks;
    copies = I.copies;
    within = I.within;
    queues = I.queues;
    records_sound = I.records_sound;
    handoffs_right = I.handoffs_right;
    out = I.out;
    real = I.real;
    started = I.started;
    senders = I.senders;
    fits = I.fits;
    received_so_far = I.received_so_far;
  }

  pub copy_changed : Invariant M F G → (x : ℕ → ℕ → ℕ)
      → ((m t c : ℕ) → Held M F.waiting m → t < F.stations → F.number m < F.expected t (F.initiator m) → c < F.carts → has (F.named m) c ≡ true
      → F.next c (F.initiator m) ≤ F.number m → has (x m t) c ≡ true)
      → ((m t c : ℕ) → Held M F.waiting m → t < F.stations → has (x m t) c ≡ true → has (F.named m) c ≡ true)
      → Invariant M (set_copy F x) G
  copy_changed I x q r = record {
    copies = q;
    within = r;
    sends_counted = I.sends_counted;
    low = I.low;
    run = I.run;
    held = I.held;
    one_room = I.one_room;
    owed = I.owed;
    gone = I.gone;
    acks = I.acks;
    acked = I.acked;
    queues = I.queues;
    records_sound = I.records_sound;
    handoffs_right = I.handoffs_right;
    out = I.out;
    real = I.real;
    started = I.started;
    senders = I.senders;
    fits = I.fits;
    received_so_far = I.received_so_far;
  }

-- next numbers rise: the queue and the received lists go with them
abbrev pub is_home : Place → Bool
is_home outside = false
is_home (at s) = true
is_home (leaving s u) = true
is_home (travelling s u) = false

pub local_is_home : (p : Place) (t : ℕ) → local_to p t ≡ true → is_home p ≡ true
local_is_home outside t e = e
local_is_home (at s) t e = refl
local_is_home (leaving s u) t e = refl
local_is_home (travelling s u) t e = e

pub record Rise (F : Floor) (x : ℕ → ℕ → ℕ) : Type 0 where
  pub up : (c s : ℕ) → F.next c s ≤ x c s
  pub cap : (c s : ℕ) → x c s ≤ F.sent s
  pub home : (c s : ℕ) → is_home (F.place c) ≡ false → x c s ≡ F.next c s

same_handoff : (M : Limits) (p : Place) (i j : ℕ) (f g : ℕ → ℕ) → (is_home p ≡ false → (s : ℕ) → f s ≡ g s) → handoff_of p i j (row_of M f) ≡ handoff_of p i j (row_of M g)
same_handoff M outside i j f g h = refl
same_handoff M (at s) i j f g h = refl
same_handoff M (leaving s u) i j f g h = refl
same_handoff M (travelling s u) i j f g h = ap (λ (x : ℕ → ℕ). handoff_of (travelling s u) i j (row_of M x)) (fun_ext (h refl))

sound_risen : (sends : ℕ → List Entry) (f g : ℕ → ℕ → ℕ) (i j : ℕ) → ((c s : ℕ) → f c s ≤ g c s) → (b : Record) → Sound sends f i j b → Sound sends g i j b
sound_risen sends f g i j up (multicast n) p = tt
sound_risen sends f g i j up (ack_list n x) p = λ c h. let z = p c h in let y = up c j in omega arith
sound_risen sends f g i j up (delete n) p = (p.0, λ c h. let z = p.1 c h in let y = up c i in omega arith)
sound_risen sends f g i j up (deregister d) p = tt
sound_risen sends f g i j up (register d row) p = tt

abbrev pub handed : History → (ℕ → ℕ → List Item) → History
handed G r = record { sends = G.sends; received = r }

pub numbers_rise : (M : Limits) (F : Floor) (G : History) (x y : ℕ → ℕ → ℕ) (r : ℕ → ℕ → List Item) → Rise F x
    → ((m t c : ℕ) → has (y m t) c ≡ true → Queued M F.waiting F.initiator F.number F.named F.place x m t c)
    → ((s c : ℕ) → r s c ≡ naming c 0 (take (x c s) (G.sends s)))
    → Invariant M F G → Invariant M (set_queue (set_next F x) y) (handed G r)
numbers_rise M F G x y r R q v I =
    record {
      low = R.cap;
      owed = λ s n c lt e le. I.owed s n c lt e (let z = R.up c s in omega arith);
      gone = λ m t c h lt e d. let z = I.gone m t c h lt e d in let y = R.up c (F.initiator m) in omega arith;
      acks = λ m t c h lt e. let z = I.acks m t c h lt e in let y = R.up c (F.initiator m) in omega arith;
      acked = λ m c h e. let z = I.acked m c h e in let y = R.up c (F.initiator m) in omega arith;
      copies = λ m t c h lt e k d le. I.copies m t c h lt e k d (let y = R.up c (F.initiator m) in omega arith);
      queues = q;
      records_sound = λ i j li lj. all_map (F.lines i j) (sound_risen G.sends F.next x i j R.up) (I.records_sound i j li lj);
      handoffs_right = λ c i j. I.handoffs_right c i j ∙ same_handoff M (F.place c) i j (F.next c) (x c) (λ h s. sym (R.home c s h));
      out = λ c s e. R.home c s (rw e) ∙ I.out c s e;
      received_so_far = v;
      sends_counted = I.sends_counted;
      run = I.run;
      held = I.held;
      one_room = I.one_room;
      within = I.within;
      real = I.real;
      started = I.started;
      senders = I.senders;
      fits = I.fits;
    }

-- the received list where the numbers passed over do not name the cart
pub received_over : (M : Limits) (F : Floor) (G : History) (x : ℕ → ℕ → ℕ) → Invariant M F G → Rise F x
    → ((c s n : ℕ) → F.next c s ≤ n → n < x c s → names (G.sends s) n c ≡ false)
    → (s c : ℕ) → G.received s c ≡ naming c 0 (take (x c s) (G.sends s))
received_over M F G x I R k s c = I.received_so_far s c ∙ sym (naming_skip c 0 (G.sends s) (F.next c s) (x c s) (R.up c s) (k c s))

-- a head record that says nothing of numbers and hand-offs goes
pub record_taken : (M : Limits) (F : Floor) (G : History) (i j : ℕ) (b : Record) (l : List Record) → F.lines i j ≡ b ∷ l
    → multicast_numbers (b ∷ l) ≡ multicast_numbers l → ((c : ℕ) → handoffs c (b ∷ l) ≡ handoffs c l) → Invariant M F G → Invariant M (on_lines F (behead i j F.lines)) G
record_taken M F G i j b l e en et I =
    let R : ℕ → ℕ → List Record → Type 0 = λ s t k. t < F.stations → CountsUp (F.expected t s) (multicast_numbers k) (F.sent s) in
    let S : ℕ → ℕ → List Record → Type 0 = λ s t k. s < F.stations → t < F.stations → All (Sound G.sends F.next s t) k in
    let A : ℕ → ℕ → ℕ → List Record → Type 0 = λ c s t k. handoffs c k ≡ handoff_of (F.place c) s t (row_of M (F.next c)) in
    record {
      run = on_beheaded R R i j F.lines b l e I.run (λ f a. rw en at (f a)) (λ k h l t p. p);
      records_sound = on_beheaded S S i j F.lines b l e I.records_sound (λ a li lj. (a li lj).1) (λ k h l t p. p);
      handoffs_right = λ c. on_beheaded (A c) (A c) i j F.lines b l e (I.handoffs_right c) (λ a. sym (et c) ∙ a) (λ k h l t p. p);
      sends_counted = I.sends_counted;
      low = I.low;
      held = I.held;
      one_room = I.one_room;
      owed = I.owed;
      gone = I.gone;
      acks = I.acks;
      acked = I.acked;
      copies = I.copies;
      within = I.within;
      queues = I.queues;
      out = I.out;
      real = I.real;
      started = I.started;
      senders = I.senders;
      fits = I.fits;
      received_so_far = I.received_so_far;
    }

-- a record that says nothing of numbers and hand-offs comes
pub record_put : (M : Limits) (F : Floor) (G : History) (on : ℕ → ℕ → Bool) (x : Record)
    → multicast_numbers (x ∷ []) ≡ [] → ((c : ℕ) → handoffs c (x ∷ []) ≡ []) → ((i j : ℕ) → on i j ≡ true → Sound G.sends F.next i j x)
    → Invariant M F G → Invariant M (on_lines F (put on x F.lines)) G
record_put M F G on x en et es I =
    record {
      run = λ s t a. on_put (λ l. CountsUp (F.expected t s) (multicast_numbers l) (F.sent s)) on x F.lines s t
          (λ e. rw (numbers_append (F.lines s t) (x ∷ []), en, append-nil (multicast_numbers (F.lines s t))) (I.run s t a)) (λ e. I.run s t a);
      records_sound = λ i j li lj. on_put (All (Sound G.sends F.next i j)) on x F.lines i j
          (λ e. all_append (Sound G.sends F.next i j) (F.lines i j) (x ∷ []) (I.records_sound i j li lj) (es i j e, tt)) (λ e. I.records_sound i j li lj);
      handoffs_right = λ c i j. on_put (λ l. handoffs c l ≡ handoff_of (F.place c) i j (row_of M (F.next c))) on x F.lines i j
          (λ e. rw (handoffs_append c (F.lines i j) (x ∷ []), et c, append-nil (handoffs c (F.lines i j))) (I.handoffs_right c i j)) (λ e. I.handoffs_right c i j);
      sends_counted = I.sends_counted;
      low = I.low;
      held = I.held;
      one_room = I.one_room;
      owed = I.owed;
      gone = I.gone;
      acks = I.acks;
      acked = I.acked;
      copies = I.copies;
      within = I.within;
      queues = I.queues;
      out = I.out;
      real = I.real;
      started = I.started;
      senders = I.senders;
      fits = I.fits;
      received_so_far = I.received_so_far;
    }

-- a multicast goes and the expected number rises
pub multicast_taken : (M : Limits) (F : Floor) (G : History) (s t n : ℕ) (l : List Record) → F.lines s t ≡ multicast n ∷ l → t < F.stations → Invariant M F G
    → ((m c : ℕ) → Held M F.waiting m → F.initiator m ≡ s → F.number m ≡ n → c < F.carts → has (F.named m) c ≡ true → F.next c (F.initiator m) ≤ F.number m → has (F.copy m t) c ≡ true)
    → Invariant M (set_expected (on_lines F (behead s t F.lines)) (update2 F.expected t s (suc (F.expected t s)))) G
multicast_taken M F G s t n l e lt I k =
    let x = update2 F.expected t s (suc (F.expected t s)) in
    let R : ℕ → ℕ → List Record → Type 0 = λ i j k. j < F.stations → CountsUp (F.expected j i) (multicast_numbers k) (F.sent i) in
    let Q : ℕ → ℕ → List Record → Type 0 = λ i j k. j < F.stations → CountsUp (x j i) (multicast_numbers k) (F.sent i) in
    let S : ℕ → ℕ → List Record → Type 0 = λ s t k. s < F.stations → t < F.stations → All (Sound G.sends F.next s t) k in
    let A : ℕ → ℕ → ℕ → List Record → Type 0 = λ c s t k. handoffs c k ≡ handoff_of (F.place c) s t (row_of M (F.next c)) in
    let is_n : n ≡ F.expected t s = (rw e at (I.run s t lt)).0 in
    record {
      run = on_beheaded R Q s t F.lines (multicast n) l e I.run
          (λ f a. rw (update2_at F.expected t s (suc (F.expected t s))) (f a).1)
          (λ i j k h p a. rw (both_differ j t i s (λ u v. not_both_equal s i t j h (sym v) (sym u))) (p a));
      records_sound = on_beheaded S S s t F.lines (multicast n) l e I.records_sound (λ a li lj. (a li lj).1) (λ k h l t p. p);
      handoffs_right = λ c. on_beheaded (A c) (A c) s t F.lines (multicast n) l e (I.handoffs_right c) (λ a. a) (λ k h l t p. p);
      copies = λ m u c h a b g d le.
          by_test (eqb u t && eqb (F.initiator m) s)
          (λ q. let z = both_equal u t (F.initiator m) s q in
          by_test (ltb (F.number m) (F.expected t s))
          (λ r. I.copies m u c h a (rw (z.0, z.1) (ltb-true (F.number m) (F.expected t s) r)) g d le)
          (λ r. rw z.0 (k m c h z.1 (let y = ltb-false (F.number m) (F.expected t s) r in let b' : F.number m < suc (F.expected t s) = rw q at b in omega arith) g d le)))
          (λ q. I.copies m u c h a (rw q at b) g d le);
      sends_counted = I.sends_counted;
      low = I.low;
      held = I.held;
      one_room = I.one_room;
      owed = I.owed;
      gone = I.gone;
      acks = I.acks;
      acked = I.acked;
      within = I.within;
      queues = I.queues;
      out = I.out;
      real = I.real;
      started = I.started;
      senders = I.senders;
      fits = I.fits;
      received_so_far = I.received_so_far;
    }

-- a cart's place changes and a record of its hand-off goes
pub handoff_taken : (M : Limits) (F : Floor) (G : History) (c t : ℕ) (w : ℕ → ℕ → List Record)
    → ((s u : ℕ) → multicast_numbers (w s u) ≡ multicast_numbers (F.lines s u)) → ((i j : ℕ) → i < F.stations → j < F.stations → All (Sound G.sends F.next i j) (w i j))
    → ((d i j : ℕ) → (d ≡ c → ⊥) → handoffs d (w i j) ≡ handoffs d (F.lines i j)) → ((i j : ℕ) → handoffs c (w i j) ≡ [])
    → ((u : ℕ) → local_to (F.place c) u ≡ true → u ≡ t) → c < F.carts
    → Invariant M F G → Invariant M (set_place (on_lines F w) (update F.place c (at t))) G
handoff_taken M F G c t w en es et ec el lc I =
    let x = update F.place c (at t) in
    record {
      run = λ s u a. rw (en s u) (I.run s u a);
      records_sound = es;
      queues = λ m u d e. let q = I.queues m u d e in
          record {
            held = q.held;
            due = q.due;
            is_named_lem = q.is_named_lem;
            home = on_update (λ p. local_to p u ≡ true) F.place c (at t) d (λ z. eq-eqb t u (sym (el u (rw z at q.home)))) (λ z. q.home);
          };
      handoffs_right = λ d i j. on_update (λ p. handoffs d (w i j) ≡ handoff_of p i j (row_of M (F.next d))) F.place c (at t) d
          (λ z. rw z (ec i j)) (λ z. et d i j z ∙ I.handoffs_right d i j);
      real = λ d. on_update (λ p. entered p ≡ true → d < F.carts) F.place c (at t) d (λ z e. rw z lc) (λ z. I.real d);
      out = λ d s. on_update (λ p. p ≡ outside → F.next d s ≡ 0) F.place c (at t) d (λ z e. absurd (let z : ◌≡◌ {A = ℕ} 0 1 = cc in omega arith)) (λ z. I.out d s);
      started = I.started;
      senders = I.senders;
      fits = I.fits;
      sends_counted = I.sends_counted;
      low = I.low;
      held = I.held;
      one_room = I.one_room;
      owed = I.owed;
      gone = I.gone;
      acks = I.acks;
      acked = I.acked;
      copies = I.copies;
      within = I.within;
      received_so_far = I.received_so_far;
    }

-- a cart's place changes and a record of its hand-off comes
pub handoff_put : (M : Limits) (F : Floor) (G : History) (c s : ℕ) (p : Place) (a b : ℕ) (x : Record)
    → F.place c ≡ at s → multicast_numbers (x ∷ []) ≡ [] → Sound G.sends F.next a b x → ((d : ℕ) → (d ≡ c → ⊥) → handoffs d (x ∷ []) ≡ [])
    → ((i j : ℕ) → cond (eqb a i && eqb b j) (handoffs c (x ∷ [])) [] ≡ handoff_of p i j (row_of M (F.next c)))
    → ((m u : ℕ) → has (F.queue m u) c ≡ true → local_to p u ≡ true) → (p ≡ outside → ⊥)
    → Invariant M F G → Invariant M (on_lines (set_place F (update F.place c p)) (put (between a b) x F.lines)) G
handoff_put M F G c s p a b x is_at en es et ec eq out I =
    record {
      run = λ i j h. on_put (λ l. CountsUp (F.expected j i) (multicast_numbers l) (F.sent i)) (between a b) x F.lines i j
          (λ e. rw (numbers_append (F.lines i j) (x ∷ []), en, append-nil (multicast_numbers (F.lines i j))) (I.run i j h)) (λ e. I.run i j h);
      records_sound = λ i j li lj. on_put (All (Sound G.sends F.next i j)) (between a b) x F.lines i j
          (λ e. let z = both_equal a i b j e in
          all_append (Sound G.sends F.next i j) (F.lines i j) (x ∷ []) (I.records_sound i j li lj) (rw (← z.0, ← z.1) es, tt))
          (λ e. I.records_sound i j li lj);
      handoffs_right = λ d i j.
          on_update (λ q. handoffs d (put (between a b) x F.lines i j) ≡ handoff_of q i j (row_of M (F.next d))) F.place c p d
          (λ z. let y : handoffs c (F.lines i j) ≡ [] = I.handoffs_right c i j ∙ rw is_at in
          rw z (on_put (λ l. handoffs c l ≡ cond (eqb a i && eqb b j) (handoffs c (x ∷ [])) []) (between a b) x F.lines i j
          (λ e. handoffs_append c (F.lines i j) (x ∷ []) ∙ rw (y, e)) (λ e. rw (y, e)) ∙ ec i j))
          (λ z. on_put (λ l. handoffs d l ≡ handoff_of (F.place d) i j (row_of M (F.next d))) (between a b) x F.lines i j
          (λ e. rw (handoffs_append d (F.lines i j) (x ∷ []), et d z, append-nil (handoffs d (F.lines i j))) (I.handoffs_right d i j)) (λ e. I.handoffs_right d i j));
      queues = λ m u d e. let q = I.queues m u d e in
          record {
            held = q.held;
            due = q.due;
            is_named_lem = q.is_named_lem;
            home = on_update (λ p. local_to p u ≡ true) F.place c p d (λ z. eq m u (rw z at e)) (λ z. q.home);
          };
      real = λ d. on_update (λ q. entered q ≡ true → d < F.carts) F.place c p d (λ z e. rw z (I.real c (rw is_at))) (λ z. I.real d);
      out = λ d i. on_update (λ q. q ≡ outside → F.next d i ≡ 0) F.place c p d (λ z e. absurd (out e)) (λ z. I.out d i);
      started = I.started;
      senders = I.senders;
      fits = I.fits;
      sends_counted = I.sends_counted;
      low = I.low;
      held = I.held;
      one_room = I.one_room;
      owed = I.owed;
      gone = I.gone;
      acks = I.acks;
      acked = I.acked;
      copies = I.copies;
      within = I.within;
      received_so_far = I.received_so_far;
    }
