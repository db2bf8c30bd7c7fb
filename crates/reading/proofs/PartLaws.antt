-- THE READING CALL, by what it finds; and its part lies in one of the two slices, where the message's text is.
use mathlib.Core.Path.{◌≡◌, refl, sym, ap, ap₂, ◌∙◌, subst}
use mathlib.Core.Bool.{Bool, true, false}
use mathlib.Core.Option.{some}
use mathlib.Core.List.{List, []}
use Prim.Native.Nat.{ℕ, ◌+◌, ◌*◌, ◌≤◌, ◌<◌}
use native.Mathlib.Omega.{arith}
use lib.ListN.{length, take, drop}
use borrow.Author.Tests.{eqb-false, not-true, le-leb, lt-leb}
use denote.Ref.{Bor}
use Rattle.protocol.specs.Folds.{first}
use Rattle.protocol.specs.Floor.{Product, Limits, limits_of, Floor, is_message}
use Rattle.protocol.specs.Form.{passes_form}
use Rattle.protocol.specs.Handoff.{room_of}
use Rattle.protocol.specs.Refusals.{no_station}
use Rattle.protocol.specs.ReadText.{read_refusal, read_text}
use Rattle.protocol.proofs.Tests.{by_test, by_lt, by_option_lem, first_some}
use Rattle.stations.specs.View.{HasHead, head_in}
use Rattle.messages.specs.View.{Rooms, rooms_in}
use Rattle.messages.specs.Texts.{text_in}
use Rattle.store.specs.Texts.{HasParts, text_of}
use Rattle.store.proofs.TextLaws.{short_text, long_text}
use Rattle.store.proofs.Looks.{held_and_long}
use Rattle.store.proofs.Room.{has_parts}
use Rattle.view.specs.View.{Lent, lent, floor_in}
use Rattle.view.proofs.Standing.{standing}
use Rattle.queue.specs.Rooms.{room_code, room_in}
use Rattle.queue.proofs.Codes.{code_says, is_room}
use Rattle.form_tables.specs.Tables.{tables}
use Rattle.form_tables.proofs.Names.{message_held}
use Rattle.reading.specs.declared.Part.{Part}
use Rattle.std.specs.Prelude.{None, Some, Result, Ok, Err}
use Rattle.std.specs.Prelude as rust
use Rattle.refusals.specs.declared.Refusal.{Refusal}
use Rattle.refusals.specs.declared.Refusal.TheVariants.{NotReady, NoSuchStation, NotHeld}
use Rattle.refusals.specs.Numbers.{refusal_in}
use Rattle.reading.specs.Parts.{part_of, front_part, read_in, part_in, lender, IsPart, TextLent}

-- "a call beside it gives the number"
pub read_number : (L : Lent) (s n : ℕ) (r : Result Part Refusal) → r ≡ read_in L s n → refusal_in r ≡ read_refusal (limits_of L.product) (floor_in L) s n
unfolding read_in read_refusal
read_number L s n r e =
    ap refusal_in e
    ∙ by_test (passes_form (limits_of L.product) (floor_in L))
    (λ h. by_test (no_station (floor_in L) s)
    (λ k. rw (h, k) refl)
    (λ k. by_option_lem (room_of (limits_of L.product) (floor_in L) s n) (λ q. rw (h, k, q) refl) (λ m q. rw (h, k, q) refl)))
    (λ h. rw h refl)

-- 5: a floor that breaks the form rule
pub read_broken : (L : Lent) (s n : ℕ) → passes_form (limits_of L.product) (floor_in L) ≡ false → Err NotReady ≡ read_in L s n
unfolding read_in
read_broken L s n h = rw h refl

-- THE PART OF A ROOM, by the length and the offset that its row has
module _ (R : Rooms) (m n : ℕ) (octets : n ≡ R.length m) where
  pub short_part : n ≤ 32 → record { stored = false; at = m * 32; octets = n } ≡ part_of R m
  short_part l = rw (le-leb (R.length m) 32 (omega arith)) (ap (λ (k : ℕ). record { stored = false; at = m * 32; octets = k }) octets)

  pub long_part : 32 < n → (offset : ℕ) → offset ≡ R.offset m → record { stored = true; at = offset; octets = n } ≡ part_of R m
  long_part l offset e =
      rw (lt-leb (R.length m) 32 (omega arith)) (ap₂ (λ (o k : ℕ). record { stored = true; at = o; octets = k }) e octets)

-- WHAT IS FOUND on a floor that passes
module _ (P : Product) (S C M W T O : List ℕ) (s n : ℕ) where
  abbrev L : Lent
  L = lent P S C M W T O

  module _ (passes : passes_form (limits_of P) (floor_in L) ≡ true) where
    pub read_no_station : (count : ℕ) → count ≡ (head_in S).stations → count ≤ s → Err NoSuchStation ≡ read_in L s n
    unfolding read_in
    read_no_station count e l = rw (passes, le-leb (head_in S).stations s (omega arith)) refl

    -- a station of the floor, and what the search for the message's room found
    module _ (held count : ℕ) (e : count ≡ (head_in S).stations) (on_floor : s < count) (rooms : P.held ≡ held)
        (found : rust.Option ℕ) (code : found ≡ room_code (first held (is_message (tables [] [] M) s n))) where
      there : no_station (floor_in L) s ≡ false
      there = lt-leb (head_in S).stations s (omega arith)

      room_is : room_of (limits_of P) (floor_in L) s n ≡ room_in found
      unfolding room_of
      room_is = ap (λ (h : ℕ). first h (is_message (floor_in L) s n)) rooms ∙ code_says (first held (is_message (floor_in L) s n)) code

      pub read_not_held : found ≡ None → Err NotHeld ≡ read_in L s n
      unfolding read_in
      read_not_held z = rw (passes, there, room_is ∙ ap room_in z) refl

      pub read_held : (m : ℕ) → found ≡ Some m → (p : Part) → p ≡ part_of (rooms_in M) m → Ok p ≡ read_in L s n
      unfolding read_in
      read_held m z p q = rw (passes, there, room_is ∙ ap room_in z) (ap (λ (x : Part). Ok x) q)

-- what the search asks of a floor that passes
pub read_asks : (L : Lent) → passes_form (limits_of L.product) (floor_in L) ≡ true
    → HasHead L.stations × (L.product.held * 7 ≤ length L.messages) × (L.product.held ≤ 32)
read_asks L h =
    let X = standing L h in
    let a = X.lengths.stations in
    let b = X.lengths.messages in
    (omega arith, omega arith, L.product.held_fit)

-- what part_of asks of the room that was found
pub part_asks : (held : ℕ) (p : ℕ → Bool) (M : List ℕ) (found : rust.Option ℕ) (m : ℕ) → held * 7 ≤ length M → held ≤ 32 → found ≡ room_code (first held p) → found ≡ Some m
    → (m * 7 + 7 ≤ length M) × (m < 32)
part_asks held p M found m rows few code z = let y = first_some held p m (is_room (first held p) m z code) in (omega (arith, y.0, rows), omega (arith, y.0, few))

-- BY WHAT THE CALL LENDS: nothing, or the part of a held message's text
module _ (L : Lent) (s n : ℕ) where
  abbrev N : Limits
  N = limits_of L.product

  abbrev F : Floor
  F = floor_in L

  abbrev IsRead : ℕ → Type 0
  IsRead m = (m < L.product.held) × (F.waiting m ≡ 0 → ⊥)

  is_read : (m : ℕ) → room_of N F s n ≡ some m → IsRead m
  unfolding room_of
  is_read m q =
      let y = first_some L.product.held (is_message F s n) m q in
      (y.0, eqb-false (F.waiting m) 0 (not-true _ (message_held F s n m y.1)))

  pub by_read : (Q : Part → List ℕ → Type 0) → Q front_part [] → (passes_form N F ≡ true → (m : ℕ) → IsRead m → Q (part_of (rooms_in L.messages) m) (F.text m))
      → Q (part_in (read_in L s n)) (read_text N F s n)
  unfolding read_in read_refusal read_text
  by_read Q nothing found =
      by_test (passes_form N F)
      (λ h. by_test (no_station F s)
      (λ e. rw (h, e) nothing)
      (λ e. by_option_lem (room_of N F s n) (λ q. rw (h, e, q) nothing) (λ m q. rw (h, e, q) (found h m (is_read m q)))))
      (λ h. rw h nothing)

-- THE PART OF A ROOM in the two slices
module _ (texts store : Bor (List ℕ)) (R : Rooms) (m : ℕ) where
  abbrev p : Part
  p = part_of R m

  part_text : (R.waiting m ≡ 0 → ⊥) → take p.octets (drop p.at (lender p texts store).now) ≡ text_of texts.now store.now R m
  unfolding text_in
  part_text held =
      by_lt 32 (R.length m)
      (λ l. rw (lt-leb (R.length m) 32 l) (sym (long_text texts.now store.now R m (held_and_long R m held l))))
      (λ l. rw (le-leb (R.length m) 32 l) (sym (short_text texts.now store.now R m held l)))

module _ (texts store : Bor (List ℕ)) (M : List ℕ) (m : ℕ) (held : (rooms_in M).waiting m ≡ 0 → ⊥) (parts : HasParts M texts.now store.now m) where
  abbrev q : Part
  q = part_of (rooms_in M) m

  part_lies : q.at + q.octets ≤ length (lender q texts store).now
  part_lies =
      by_lt 32 ((rooms_in M).length m)
      (λ l. rw (lt-leb ((rooms_in M).length m) 32 l) (parts.long (held_and_long (rooms_in M) m held l)))
      (λ l. rw (le-leb ((rooms_in M).length m) 32 l) (let z = parts.short in omega arith))

-- THE CALL'S PART
module _ (P : Product) (S C M W : List ℕ) (texts store : Bor (List ℕ)) (s n : ℕ) where
  abbrev K : Lent
  K = lent P S C M W texts.now store.now

  there_are_parts : passes_form (limits_of P) (floor_in K) ≡ true → (m : ℕ) → m < P.held → HasParts M texts.now store.now m
  there_are_parts h =
      let X = standing K h in
      has_parts P.held M texts.now store.now (record { rows = X.lengths.messages; right = X.laid.texts }) X.lengths.texts X.lengths.store

  -- it is within its slice
  pub read_lies : (p : Part) → p ≡ (part_in (read_in K s n)) → p.at + p.octets ≤ length (lender p texts store).now
  read_lies p e =
      subst (λ (x : Part). x.at + x.octets ≤ length (lender x texts store).now) (sym e)
      (by_read K s n (λ x text. x.at + x.octets ≤ length (lender x texts store).now)
      (omega arith)
      (λ h m read. part_lies texts store M m read.1 (there_are_parts h m read.0)))

  read_text_lem : take (part_in (read_in K s n)).octets (drop (part_in (read_in K s n)).at (lender (part_in (read_in K s n)) texts store).now) ≡ read_text (limits_of P) (floor_in K) s n
  read_text_lem =
      by_read K s n (λ x text. take x.octets (drop x.at (lender x texts store).now) ≡ text)
      refl
      (λ h m read. part_text texts store (rooms_in M) m read.1)

  -- and what is lent is its text
  pub text_lent : (p : Part) → p ≡ (part_in (read_in K s n)) → (r : Bor (List ℕ)) → IsPart p texts store r → TextLent K texts store s n r
  text_lent p e r lent_so =
      let own : IsPart (part_in (read_in K s n)) texts store r = subst (λ (x : Part). IsPart x texts store r) e lent_so in
      record { text = own.octets ∙ read_text_lem; part = own }
