-- A MOVE OVER THE LENT PARTS IS THE WRITTEN MOVE: the floor that they then say is the floor of the written step.
use mathlib.Core.Path.{◌≡◌, refl, sym, ap, ◌∙◌}
use mathlib.Core.Bool.{Bool, true}
use mathlib.Core.List.{List, []}
use Prim.Native.Nat.{ℕ, ◌<◌}
use native.Mathlib.Omega.{arith}
use borrow.Author.Tests.{lt-leb}
use Rattle.protocol.specs.CartSets.{set_of}
use Rattle.protocol.specs.Floor.{Limits, Floor, Place, Carts, at, leaving, Record, deregister, put, between, local_to, station_of, limits_of, Product}
use Rattle.protocol.specs.Events.{move}
use Rattle.protocol.specs.Handoff.{on_move}
use Rattle.protocol.specs.Form.{passes_form}
use Rattle.protocol.specs.Refusals.{refusal_if, refusal}
use Rattle.protocol.specs.Step.{accept, step}
use Rattle.protocol.proofs.Tests.{on_update}
use Rattle.protocol.proofs.FloorLaws.{at_home}
use Rattle.protocol.proofs.Accepted.{MayMove}
use Rattle.stations.specs.View.{head_in, stations_in}
use Rattle.carts.specs.Words.{HasRow}
use Rattle.carts.specs.View.{carts_in, canonical_in}
use Rattle.messages.specs.View.{rooms_in}
use Rattle.store.specs.Texts.{text_of}
use Rattle.lines.specs.Form.{form}
use Rattle.lines.specs.Lines.{used, registers_in}
use Rattle.lines.specs.Words.{capacity}
use Rattle.view.specs.Records.{lines_in, words_of}
use Rattle.view.specs.View.{Lent, lent, floor_of, floor_in}
use Rattle.view.proofs.LinesView.{push_view}
use Rattle.view.proofs.Lengths.{Lengths, lengths_right_lem}
use Rattle.view.proofs.Laid.{Laid, words_right_lem, local_stays, laid_carts, laid_push}
use Rattle.view.proofs.RecordWords.{deregister_is, deregister_right}
use Rattle.view.proofs.Standing.{Standing, room_after, one_line_counts, few_stations, few_carts}
use Rattle.handoff.specs.Moved.{Moved}

module _ (M : Limits) (F : Floor) (c to : ℕ) (passes : passes_form M F ≡ true) (may : MayMove F c to) where
  -- no check applies
  not_refused : refusal M F (move c to) ≡ 0
  unfolding refusal refusal_if
  not_refused = rw (passes, lt-leb F.stations to may.station, lt-leb F.carts c may.cart, may.has_entered_lem, may.not_moving, may.elsewhere) refl

  -- so the event is the written move
  pub move_step : step M F (move c to) ≡ (on_move F c to).floor
  unfolding step accept
  move_step = rw not_refused refl

-- WHAT THE MOVE REQUIRES of the parts
module _ (L : Lent) (X : Standing L) (c to : ℕ) (may : MayMove (floor_in L) c to) where
  abbrev F : Floor
  F = floor_in L

  -- a cart that has entered and is not moving is at a station
  pub is_somewhere : (old : ℕ) × ((carts_in L.carts).place c ≡ at old)
  is_somewhere = (station_of (F.place c), at_home (F.place c) may.has_entered_lem may.not_moving)

  module _ (old : ℕ) (here : (carts_in L.carts).place c ≡ at old) where
    old_on_floor : old < F.stations
    old_on_floor = rw here at (X.sized.places c)

    pub move_ready : HasRow L.carts c × (c < 64) × ((carts_in L.carts).place c ≡ at old)
    move_ready =
        let a = X.lengths.carts in
        let b = may.cart in
        let d = few_carts L X in
        let e = X.sized.counts.carts in
        (omega arith, omega arith, here)

    -- there is room for the deregister
    pub deregister_fits : (form L.lines ≡ true) × (used L.lines < capacity L.lines) × (old < 16) × (to < 16)
    unfolding on_move
    deregister_fits =
        let after = move_step (limits_of L.product) F c to X.passes may in
        let room = room_after L X (move c to) (between to old) (deregister c) (ap (λ (G : Floor). G.stations) after) (ap (λ (G : Floor). G.lines) after ∙ rw here refl) in
        let one = one_line_counts F.stations to old may.station old_on_floor in
        let a = old_on_floor in
        let b = may.station in
        let d = few_stations L X in
        (X.laid.chains, omega arith, omega arith, omega arith)

module _ {P : Product} (S C C' M W W' T O : List ℕ) (c old to : ℕ) (X : Standing (lent P S C M W T O))
    (lc : c < 64) (lo : old < 16) (lt : to < 16) (here : (carts_in C).place c ≡ at old) (moved : Moved C C' W W' c old to) where
  abbrev L : Lent
  L = lent P S C M W T O

  abbrev L' : Lent
  L' = lent P S C' M W' T O

  lengths : Lengths L'
  lengths =
      record {
        stations = X.lengths.stations;
        carts = moved.length ∙ X.lengths.carts;
        messages = X.lengths.messages;
        lines = moved.lines.words ∙ X.lengths.lines;
        texts = X.lengths.texts;
        store = X.lengths.store;
      }

  -- a leaving cart is local where it was
  still_local : (t : ℕ) → local_to (leaving old to) t ≡ local_to ((carts_in C).place c) t
  still_local t = ap (λ (p : Place). local_to p t) (sym here)

  pub laid : Laid L'
  laid =
      laid_push S C' M W T O
      (laid_carts S C M W T O X.laid S C'
      (λ d ld. ap (λ (f : ℕ → Bool). f d) moved.canonical ∙ on_update (λ (b : Bool). b ≡ true) (canonical_in C) c true d (λ q. refl) (λ q. X.laid.canonical d ld))
      (λ t l. X.laid.local t l ∙ local_stays (carts_in C).place c t (leaving old to) (still_local t) ∙ ap (λ (K : Carts). set_of 64 (λ d. local_to (K.place d) t)) (sym moved.carts))
      X.laid.few)
      W' to old (words_of 4 c 0 0) lt lo moved.lines (deregister_right (rooms_in M) to old c (omega arith))

  lines : lines_in W' ≡ put (between to old) (deregister c) (lines_in W)
  lines =
      push_view W W' to old (words_of 4 c 0 0) lt lo moved.lines
      ∙ ap (λ (r : Record). put (between to old) r (lines_in W)) (deregister_is (registers_in W) c (omega arith))

  -- "a deregister goes from to to the old station; the cart is leaving"
  pub move_is : floor_in L' ≡ (on_move (floor_in L) c to).floor
  unfolding on_move
  move_is =
      rw here
      (λ i. floor_of ((lengths_right_lem L' lengths ∙ sym (lengths_right_lem L X.lengths)) i) ((words_right_lem L' laid ∙ sym (words_right_lem L X.laid)) i)
      (head_in S) (stations_in S) (moved.carts i) (rooms_in M) (text_of T O (rooms_in M)) (lines i))

-- "5": move; one record is put on the lines
pub move_reports : (F : Floor) (c to : ℕ) → (on_move F c to).report ≡ record { kind = 5; a = c; b = to; p = 0; w = 1; q = 0; text = [] }
unfolding on_move
move_reports F c to = refl
