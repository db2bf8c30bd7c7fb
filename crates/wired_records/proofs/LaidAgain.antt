-- THE ROOMS THAT RECORDS SAY stay right when rooms become free: after an accepted event every record on the lines is of a held message, and a
-- held message has one room, so the room that a record says is still that of its message.
use mathlib.Core.Path.{◌≡◌, refl, sym, ap, ◌∙◌, subst}
use mathlib.Core.Bool.{Bool, true, false, ◌&&◌, not}
use mathlib.Core.List.{List, [], ◌∷◌, map}
use Prim.Native.Nat.{ℕ, ◌+◌, ◌*◌, ◌<◌}
use native.Mathlib.Omega.{arith}
use lib.Dec.{eqb}
use borrow.Author.Tests.{eq-eqb, not-true}
use Rattle.protocol.specs.Floor.{Limits, Floor, Record, multicast, ack_list, delete, limits_of}
use Rattle.protocol.specs.Claims.{All}
use Rattle.protocol.specs.Events.{Event}
use Rattle.protocol.specs.Step.{step}
use Rattle.protocol.proofs.Tests.{by_test, by_lt, and_left, and_right, and_intro, both_equal}
use Rattle.protocol.proofs.Invariant.{Held, Holds}
use Rattle.protocol.proofs.LineFacts.{OfHeld}
use Rattle.protocol.proofs.FormFacts.{FormFacts}
use Rattle.protocol.proofs.FormTest.{clauses_of, form_of, sized_of, no_line}
use Rattle.protocol.proofs.Theorems.{form_closed}
use Rattle.messages.specs.View.{Rooms, rooms_in}
use Rattle.messages.proofs.RoomLaws.{waiting_past}
use Rattle.lines.specs.declared.Record as word
use Rattle.lines.specs.Lines.{records_on, registers_in}
use Rattle.view.specs.Records.{kind_of, index_of, number_of, record_in, lines_in, is_in, room_right}
use Rattle.view.specs.View.{Lent, every_word, floor_in}
use Rattle.view.proofs.LinesView.{line_in}
use Rattle.view.proofs.Lengths.{nothing_beyond}
use Rattle.view.proofs.Standing.{Standing}

-- what it says that message n of s is in room m
pub room_says : (R : Rooms) (s n m : ℕ) → is_in R s n m ≡ true → (eqb (R.waiting m) 0 ≡ false) × ((R.initiator m ≡ s) × (R.number m ≡ n))
room_says R s n m e =
    let rest = eqb (R.initiator m) s && eqb (R.number m) n in
    (not-true (eqb (R.waiting m) 0) (and_left (not (eqb (R.waiting m) 0)) rest e), both_equal (R.initiator m) s (R.number m) n (and_right (not (eqb (R.waiting m) 0)) rest e))

pub room_is : (R : Rooms) (s n m : ℕ) → eqb (R.waiting m) 0 ≡ false → R.initiator m ≡ s → R.number m ≡ n → is_in R s n m ≡ true
room_is R s n m w a b =
    and_intro (not (eqb (R.waiting m) 0)) (eqb (R.initiator m) s && eqb (R.number m) n) (ap not w)
    (and_intro (eqb (R.initiator m) s) (eqb (R.number m) n) (eq-eqb (R.initiator m) s a) (eq-eqb (R.number m) n b))

-- what is held after was held before, under the same name
pub record Fewer (R R' : Rooms) (m : ℕ) : Type 0 where
  pub held : eqb (R.waiting m) 0 ≡ false
  pub initiator : R'.initiator m ≡ R.initiator m
  pub number : R'.number m ≡ R.number m

module _ (N : Limits) (R R' : Rooms)
    (one : (m k : ℕ) → eqb (R.waiting m) 0 ≡ false → eqb (R.waiting k) 0 ≡ false → R.initiator m ≡ R.initiator k → R.number m ≡ R.number k → m ≡ k)
    (fewer : (m : ℕ) → eqb (R'.waiting m) 0 ≡ false → Fewer R R' m) where
  -- a message that is still held is still in its room
  in_again : (s n k : ℕ) → Holds N R'.waiting R'.initiator R'.number s n → is_in R s n k ≡ true → is_in R' s n k ≡ true
  in_again s n k h e =
      let was = room_says R s n k e in
      let f = fewer h.m h.held.some in
      let same : h.m ≡ k = one h.m k f.held was.0 (sym f.initiator ∙ h.is_initiator ∙ sym was.1.0) (sym f.number ∙ h.is_number ∙ sym was.1.1) in
      rw (← same) (room_is R' s n h.m h.held.some h.is_initiator h.is_number)

  module _ (carts : ℕ) (acked named : ℕ → ℕ) (i j : ℕ) (rows : ℕ → ℕ → ℕ) where
    abbrev Right : Record → Type 0
    Right = OfHeld N carts R'.waiting R'.initiator R'.number acked named i j

    -- a record
    word_again : (r : word.Record) → Right (record_in rows r) → room_right R i j r ≡ true → room_right R' i j r ≡ true
    unfolding record_in room_right
    word_again r h e =
        by_test (eqb (kind_of r.0) 1)
        (λ e₁. let g : Right (multicast (number_of r.0)) = rw e₁ at h in
        rw e₁ (in_again i (number_of r.0) (index_of r.0) (record { m = g.m; held = g.held; is_initiator = g.is_initiator; is_number = g.is_number }) (rw e₁ at e)))
        (λ e₁. by_test (eqb (kind_of r.0) 2)
        (λ e₂. let g : Right (ack_list (number_of r.0) r.1) = rw (e₁, e₂) at h in rw (e₁, e₂) (in_again j (number_of r.0) (index_of r.0) g.0 (rw (e₁, e₂) at e)))
        (λ e₂. by_test (eqb (kind_of r.0) 3)
        (λ e₃. let g : Right (delete (number_of r.0)) = rw (e₁, e₂, e₃) at h in
        rw (e₁, e₂, e₃) (in_again i (number_of r.0) (index_of r.0) (record { m = g.0.m; held = g.0.held; is_initiator = g.0.is_initiator; is_number = g.0.is_number }) (rw (e₁, e₂, e₃) at e)))
        (λ e₃. rw (e₁, e₂, e₃) (rw (e₁, e₂, e₃) at e))))

    -- the records of a line
    line_again : (l : List word.Record) → All Right (map (record_in rows) l) → every_word (room_right R i j) l ≡ true → every_word (room_right R' i j) l ≡ true
    line_again [] h e = refl
    line_again (r ∷ l) h e =
        let first = room_right R i j r in
        let others = every_word (room_right R i j) l in
        and_intro (room_right R' i j r) (every_word (room_right R' i j) l) (word_again r h.0 (and_left first others e)) (line_again l h.1 (and_right first others e))

-- a line with no records
no_words : (rows : ℕ → ℕ → ℕ) (f : word.Record → Bool) (l : List word.Record) → map (record_in rows) l ≡ [] → every_word f l ≡ true
no_words rows f [] h = refl
no_words rows f (r ∷ l) h = absurd (let z : ◌≡◌ {A = ℕ} 0 1 = cc in omega arith)

-- a taken room has a row
pub taken_below : (L : Lent) → Standing L → (m : ℕ) → eqb ((rooms_in L.messages).waiting m) 0 ≡ false → m < L.product.held
taken_below L X m w =
    by_lt m L.product.held (λ l. l)
    (λ l. absurd (let z = X.lengths.messages in let y : (rooms_in L.messages).waiting m ≡ 0 = waiting_past L.messages m (omega arith) in
    let x : true ≡ false = rw y at w in let v : ◌≡◌ {A = ℕ} 0 1 = cc in omega arith))

-- AFTER AN EVENT: the rooms and lines of the floor that it leaves are R' and those of W'. The words on these lines said their rooms right
-- before, and what is held was held before, under the same name. Then they say their rooms right.
module _ (L : Lent) (X : Standing L) (e : Event) (M' W' : List ℕ) where
  abbrev F : Floor
  F = floor_in L

  abbrev F' : Floor
  F' = step (limits_of L.product) F e

  abbrev R : Rooms
  R = rooms_in L.messages

  abbrev R' : Rooms
  R' = rooms_in M'

  pub rooms_again : F'.waiting ≡ R'.waiting → F'.initiator ≡ R'.initiator → F'.number ≡ R'.number → F'.lines ≡ lines_in W'
      → ((m : ℕ) → eqb (R'.waiting m) 0 ≡ false → Fewer R R' m)
      → ((i j : ℕ) → i < 16 → j < 16 → every_word (room_right R i j) (records_on W' (i * 16 + j)) ≡ true)
      → (i j : ℕ) → i < 16 → j < 16 → every_word (room_right R' i j) (records_on W' (i * 16 + j)) ≡ true
  rooms_again waiting initiator number lines fewer right i j li lj =
      let B = nothing_beyond L X.lengths X.laid in
      let after = form_closed (limits_of L.product) F e B X.passes in
      let P = clauses_of (limits_of L.product) F' after.1 in
      let facts : FormFacts (limits_of L.product) F' = form_of (limits_of L.product) F' after.0 P in
      let whole = sized_of (limits_of L.product) F' after.0 P in
      let here : F'.lines i j ≡ map (record_in (registers_in W')) (records_on W' (i * 16 + j)) = ap (λ (f : ℕ → ℕ → List Record). f i j) lines ∙ line_in W' i j li lj in
      let empty : (i < F'.stations → j < F'.stations → ⊥) → every_word (room_right R' i j) (records_on W' (i * 16 + j)) ≡ true =
      λ h. no_words (registers_in W') (room_right R' i j) (records_on W' (i * 16 + j)) (sym here ∙ no_line F'.stations F'.carts i j (F'.lines i j) (whole.lines i j) h) in
      by_lt i F'.stations
      (λ a. by_lt j F'.stations
      (λ b. line_again (limits_of L.product) R R' (λ m k hm hk. X.facts.one_room m k (held m hm) (held k hk)) fewer F'.carts F'.acked F'.named i j (registers_in W') (records_on W' (i * 16 + j))
      (subst (λ (l : List Record). All (OfHeld (limits_of L.product) F'.carts R'.waiting R'.initiator R'.number F'.acked F'.named i j) l) here
      (rw (waiting, initiator, number) at (facts.on_lines_lem.records_held i j a b))) (right i j li lj))
      (λ b. empty (λ x y. omega arith)))
      (λ a. empty (λ x y. omega arith))
    where
      held : (m : ℕ) → eqb (R.waiting m) 0 ≡ false → Held (limits_of L.product) F.waiting m
      held m w = record { slot = taken_below L X m w; some = w }
