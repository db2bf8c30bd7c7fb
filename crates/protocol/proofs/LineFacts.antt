-- What keeps the lines short: every record is of a held message or of a cart on its way, and no two say the same.
use mathlib.Core.Path.{refl, sym, ◌≡◌}
use mathlib.Core.Bool.{Bool, false, true}
use mathlib.Core.List.{◌++◌, List, [], ◌∷◌}
use Prim.Native.Nat.{◌<◌, suc, ℕ, ◌≤◌}
use native.Mathlib.Omega.{arith}
use lib.Dec.{eqb}
use borrow.Author.Tests.{ne_eqb}
use Rattle.protocol.specs.Folds.{update2}
use Rattle.protocol.specs.CartSets.{has}
use Rattle.protocol.specs.Floor.{Floor, Limits, Record, ack_list, behead, between, delete, deregister, multicast, on_lines, put, register, set_expected}
use Rattle.protocol.specs.Claims.{All, True}
use Rattle.protocol.specs.Form.{ack_count, acks_to, bit, count_line, count_lines, deletes_follow, is_ack_of, is_delete_of, multicast_numbers}
use Rattle.protocol.proofs.Tests.{and-false, both_differ, both_equal, clash, not_both_equal, update2_at}
use Rattle.protocol.proofs.FloorLaws.{on_put}
use Rattle.protocol.proofs.Invariant.{CountsUp, Held, Holds}
use Rattle.protocol.proofs.Updates.{on_beheaded}
use Rattle.protocol.proofs.Counting.{OnLines, count_line_behead, count_line_more, count_lines_beheaded, count_lines_put_none, on_lines_behead, on_lines_put}

abbrev pub is_multicast_of : ℕ → Record → Bool
is_multicast_of n (multicast k) = eqb k n
is_multicast_of n (ack_list k x) = false
is_multicast_of n (delete k) = false
is_multicast_of n (deregister d) = false
is_multicast_of n (register d row) = false

abbrev pub is_handoff_of : ℕ → Record → Bool
is_handoff_of c (multicast k) = false
is_handoff_of c (ack_list k x) = false
is_handoff_of c (delete k) = false
is_handoff_of c (deregister d) = eqb d c
is_handoff_of c (register d row) = eqb d c

-- on a line whose next multicast is e, no delete stands before its multicast
abbrev pub DeletesAfter : ℕ → List Record → Type 0
DeletesAfter e l = True (deletes_follow e l)

-- message n of s is held, and t has yet to handle its delete
pub record Reach (M : Limits) (waiting initiator number : ℕ → ℕ) (s n t : ℕ) : Type 0 where
  pub m : ℕ
  pub held : Held M waiting m
  pub is_initiator : initiator m ≡ s
  pub is_number : number m ≡ n
  pub waits : has (waiting m) t ≡ true

-- what a record on the line from i to j says of a held message, or of a cart on the floor
abbrev pub OfHeld : (M : Limits) (carts : ℕ) (waiting initiator number acked named : ℕ → ℕ) → ℕ → ℕ → Record → Type 0
OfHeld M carts waiting initiator number acked named i j (multicast n) = Reach M waiting initiator number i n j
OfHeld M carts waiting initiator number acked named i j (ack_list n x) = Holds M waiting initiator number j n × ((c : ℕ) × (c < carts) × (has x c ≡ true))
OfHeld M carts waiting initiator number acked named i j (delete n) = (r : Reach M waiting initiator number i n j) × (acked r.m ≡ named r.m)
OfHeld M carts waiting initiator number acked named i j (deregister d) = d < carts
OfHeld M carts waiting initiator number acked named i j (register d row) = d < carts

-- the same, of a floor
abbrev pub HeldRecord : Limits → Floor → ℕ → ℕ → Record → Type 0
HeldRecord M F = OfHeld M F.carts F.waiting F.initiator F.number F.acked F.named

-- what is known of the records on the lines, by columns
pub record LineFactsOf (M : Limits) (stations carts : ℕ) (expected : ℕ → ℕ → ℕ) (initiator number named acked waiting : ℕ → ℕ) (acks : ℕ → ℕ → ℕ) (lines : ℕ → ℕ → List Record) : Type 0 where
  -- no delete stands before its multicast
  pub order : (s t : ℕ) → t < stations → DeletesAfter (expected t s) (lines s t)
  -- where a station has handled the delete, the whole set has acknowledged
  pub deleted_acked : (m t : ℕ) → Held M waiting m → t < stations → has (waiting m) t ≡ false → acked m ≡ named m
  -- every record is of a held message, or of a cart on its way
  pub records_held : OnLines stations (OfHeld M carts waiting initiator number acked named) lines
  -- one delete at most is on its way to a station
  pub deletes_once : (m t : ℕ) → Held M waiting m → t < stations → count_line (is_delete_of (number m)) (lines (initiator m) t) ≤ 1
  -- a cart's acknowledgement stands in one place at most
  pub acks_once : (m c : ℕ) → Held M waiting m → ack_count stations acked acks initiator number lines m c ≤ 1
  -- and only a named cart's
  pub within : (m c : ℕ) → Held M waiting m → 0 < ack_count stations acked acks initiator number lines m c → has (named m) c ≡ true

abbrev pub LineFacts : Limits → Floor → Type 0
LineFacts M F = LineFactsOf M F.stations F.carts F.expected F.initiator F.number F.named F.acked F.waiting F.acks F.lines

-- a record goes
pub taken_lines : (M : Limits) (F : Floor) (i j : ℕ) (b : Record) (l : List Record) → F.lines i j ≡ b ∷ l → ((k : ℕ) → DeletesAfter k (b ∷ l) → DeletesAfter k l)
    → LineFacts M F → LineFacts M (on_lines F (behead i j F.lines))
taken_lines M F i j b l e d X =
    let O : ℕ → ℕ → List Record → Type 0 = λ s t k. t < F.stations → DeletesAfter (F.expected t s) k in
    record {
      order = on_beheaded O O i j F.lines b l e X.order (λ f lt. d (F.expected j i) (f lt)) (λ k h l t q. q);
      records_held = on_lines_behead F.stations (HeldRecord M F) i j F.lines X.records_held;
      deletes_once = λ m t g lt. let z = count_line_behead (is_delete_of (F.number m)) i j F.lines (F.initiator m) t in let y = X.deletes_once m t g lt in omega arith;
      acks_once = λ m c g. let z = count_lines_beheaded F.stations (acks_to (F.initiator m) (F.number m) c) i j F.lines in let y = X.acks_once m c g in omega arith;
      within = λ m c g q. let z = count_lines_beheaded F.stations (acks_to (F.initiator m) (F.number m) c) i j F.lines in X.within m c g (omega arith);
      deleted_acked = X.deleted_acked;
    }

-- a multicast goes and the expected number rises
pub multicast_taken_lines : (M : Limits) (F : Floor) (s t n : ℕ) (l : List Record) → F.lines s t ≡ multicast n ∷ l → LineFacts M F
    → LineFacts M (set_expected (on_lines F (behead s t F.lines)) (update2 F.expected t s (suc (F.expected t s))))
multicast_taken_lines M F s t n l e X =
    let O : ℕ → ℕ → List Record → Type 0 = λ i j k. j < F.stations → DeletesAfter (F.expected j i) k in
    let Q : ℕ → ℕ → List Record → Type 0 = λ i j k. j < F.stations → DeletesAfter (update2 F.expected t s (suc (F.expected t s)) j i) k in
    record {
      order = on_beheaded O Q s t F.lines (multicast n) l e X.order
          (λ f a. rw (update2_at F.expected t s (suc (F.expected t s))) (f a))
          (λ i j k h p a. rw (both_differ j t i s (λ u v. not_both_equal s i t j h (sym v) (sym u))) (p a));
      records_held = on_lines_behead F.stations (HeldRecord M F) s t F.lines X.records_held;
      deletes_once = λ m u g lt. let z = count_line_behead (is_delete_of (F.number m)) s t F.lines (F.initiator m) u in let y = X.deletes_once m u g lt in omega arith;
      acks_once = λ m c g. let z = count_lines_beheaded F.stations (acks_to (F.initiator m) (F.number m) c) s t F.lines in let y = X.acks_once m c g in omega arith;
      within = λ m c g q. let z = count_lines_beheaded F.stations (acks_to (F.initiator m) (F.number m) c) s t F.lines in X.within m c g (omega arith);
      deleted_acked = X.deleted_acked;
    }

-- a hand-off's record comes
abbrev pub quiet : Record → Bool
quiet (multicast k) = false
quiet (ack_list k x) = true
quiet (delete k) = false
quiet (deregister d) = true
quiet (register d row) = true

pub deletes_after_quiet : (e : ℕ) (l : List Record) (b : Record) → quiet b ≡ true → DeletesAfter e l → DeletesAfter e (l ++ (b ∷ []))
deletes_after_quiet e [] (multicast k) q d = clash false q refl
deletes_after_quiet e [] (ack_list k x) q d = refl
deletes_after_quiet e [] (delete k) q d = clash false q refl
deletes_after_quiet e [] (deregister c) q d = refl
deletes_after_quiet e [] (register c row) q d = refl
deletes_after_quiet e (multicast k ∷ l) b q d = deletes_after_quiet (suc e) l b q d
deletes_after_quiet e (ack_list k x ∷ l) b q d = deletes_after_quiet e l b q d
deletes_after_quiet e (delete k ∷ l) b q d = (d.0, deletes_after_quiet e l b q d.1)
deletes_after_quiet e (deregister c ∷ l) b q d = deletes_after_quiet e l b q d
deletes_after_quiet e (register c row ∷ l) b q d = deletes_after_quiet e l b q d

pub deletes_after_multicast : (e : ℕ) (l : List Record) (n : ℕ) → DeletesAfter e l → DeletesAfter e (l ++ (multicast n ∷ []))
deletes_after_multicast e [] n d = refl
deletes_after_multicast e (multicast k ∷ l) n d = deletes_after_multicast (suc e) l n d
deletes_after_multicast e (ack_list k x ∷ l) n d = deletes_after_multicast e l n d
deletes_after_multicast e (delete k ∷ l) n d = (d.0, deletes_after_multicast e l n d.1)
deletes_after_multicast e (deregister c ∷ l) n d = deletes_after_multicast e l n d
deletes_after_multicast e (register c row ∷ l) n d = deletes_after_multicast e l n d

pub deletes_after_delete : (e : ℕ) (l : List Record) (top n : ℕ) → CountsUp e (multicast_numbers l) top → n < top → DeletesAfter e l → DeletesAfter e (l ++ (delete n ∷ []))
deletes_after_delete e [] top n r h d = (omega arith, refl)
deletes_after_delete e (multicast k ∷ l) top n r h d = deletes_after_delete (suc e) l top n r.1 h d
deletes_after_delete e (ack_list k x ∷ l) top n r h d = deletes_after_delete e l top n r h d
deletes_after_delete e (delete k ∷ l) top n r h d = (d.0, deletes_after_delete e l top n r h d.1)
deletes_after_delete e (deregister c ∷ l) top n r h d = deletes_after_delete e l top n r h d
deletes_after_delete e (register c row ∷ l) top n r h d = deletes_after_delete e l top n r h d

-- no multicast below e is left on the line
pub no_multicast_below : (e : ℕ) (l : List Record) (top n : ℕ) → CountsUp e (multicast_numbers l) top → n < e → All (λ b. is_multicast_of n b ≡ false) l
no_multicast_below e [] top n r h = tt
no_multicast_below e (multicast k ∷ l) top n r h = (ne_eqb k n (let z = r.0 in omega arith), no_multicast_below (suc e) l top n r.1 (omega arith))
no_multicast_below e (ack_list k x ∷ l) top n r h = (refl, no_multicast_below e l top n r h)
no_multicast_below e (delete k ∷ l) top n r h = (refl, no_multicast_below e l top n r h)
no_multicast_below e (deregister c ∷ l) top n r h = (refl, no_multicast_below e l top n r h)
no_multicast_below e (register c row ∷ l) top n r h = (refl, no_multicast_below e l top n r h)

pub put_lines : (M : Limits) (F : Floor) (a b : ℕ) (x : Record) → quiet x ≡ true → ((n : ℕ) → is_delete_of n x ≡ false) → ((n c : ℕ) → is_ack_of n c x ≡ false)
    → HeldRecord M F a b x
    → LineFacts M F → LineFacts M (on_lines F (put (between a b) x F.lines))
put_lines M F a b x q qd qa g X =
    let none : (m c : ℕ) → count_lines F.stations (acks_to (F.initiator m) (F.number m) c) (put (between a b) x F.lines) ≡ count_lines F.stations (acks_to (F.initiator m) (F.number m) c) F.lines =
    λ m c. count_lines_put_none F.stations (acks_to (F.initiator m) (F.number m) c) (between a b) x F.lines (λ i j e. rw (qa (F.number m) c) (and-false (eqb j (F.initiator m)))) in
    record {
      order = λ s t lt. on_put (DeletesAfter (F.expected t s)) (between a b) x F.lines s t (λ e. deletes_after_quiet (F.expected t s) (F.lines s t) x q (X.order s t lt)) (λ e. X.order s t lt);
      records_held = on_lines_put F.stations (HeldRecord M F) (between a b) x F.lines X.records_held
          (λ i j li lj e. let z = both_equal a i b j e in rw (← z.0, ← z.1) g);
      deletes_once = λ m t k lt. on_put (λ l. count_line (is_delete_of (F.number m)) l ≤ 1) (between a b) x F.lines (F.initiator m) t
          (λ e. let z = count_line_more (is_delete_of (F.number m)) (F.lines (F.initiator m) t) x in let y = X.deletes_once m t k lt in let v : bit (is_delete_of (F.number m) x) ≡ 0 = rw (qd (F.number m)) in omega arith)
          (λ e. X.deletes_once m t k lt);
      acks_once = λ m c k. let z = none m c in let y = X.acks_once m c k in omega arith;
      within = λ m c k o. let z = none m c in X.within m c k (omega arith);
      deleted_acked = X.deleted_acked;
    }
