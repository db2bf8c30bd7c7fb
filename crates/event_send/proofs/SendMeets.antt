-- A SEND MEETS ITS EVENT, of whatever kind: what the code asks on the way, and what it leaves.
use mathlib.Core.Path.{◌≡◌, refl, sym, ap, ◌∙◌, subst}
use mathlib.Core.Bool.{true, false}
use mathlib.Core.Option.{some}
use mathlib.Core.List.{List}
use Prim.Native.Nat.{ℕ, ◌+◌, ◌*◌, ◌≤◌, ◌<◌}
use native.Mathlib.Omega.{arith}
use lib.Dec.{eqb, ltb}
use lib.ListN.{length}
use borrow.Author.Tests.{leb-false, lt-ltb}
use Rattle.protocol.specs.Floor.{Product, limits_of}
use Rattle.protocol.specs.Groups.{group_count}
use Rattle.protocol.specs.Events.{Event, Done, send, send_group, send_long}
use Rattle.protocol.specs.Claims.{True}
use Rattle.protocol.specs.Wired.{free_room, on_send}
use Rattle.protocol.specs.Form.{passes_form}
use Rattle.protocol.specs.Refusals.{no_station, no_group, undefined, refusal_if}
use Rattle.protocol.specs.Step.{accept}
use Rattle.protocol.proofs.Tests.{or-false}
use Rattle.protocol.proofs.Accepted.{MaySend, may_send, may_send_group, may_send_long, passed_check}
use Rattle.stations.specs.View.{HasHead, HasStation, head_in, stations_in}
use Rattle.messages.specs.View.{HasRoom, rooms_in}
use Rattle.messages.specs.Texts.{HasText}
use Rattle.products.specs.declared.Bounds.{Bounds}
use Rattle.products.specs.Numbers.{NumbersOf}
use Rattle.lines.specs.Form.{form}
use Rattle.lines.specs.Lines.{used}
use Rattle.lines.specs.Words.{capacity}
use Rattle.store.specs.Layout.{layout_rule}
use Rattle.store.specs.Moved as store
use Rattle.view.specs.View.{Lent, lent, floor_in}
use Rattle.view.proofs.Standing.{Standing, standing, few_carts, numbers_of_32_bits}
use Rattle.wired_send.specs.Rooms.{first_free}
use Rattle.wired_send.specs.Sent.{CanStore, Kept, KeptLong, Announced}
use Rattle.wired_send.proofs.RoomLaws.{room_found}
use Rattle.std.specs.Prelude.{Some}
use Rattle.std.specs.Prelude as code
use Rattle.wired_send.proofs.SendRoom.{send_numbers, send_room}
use Rattle.wired_send.proofs.Placed.{Placed, short_placed, long_placed}
use Rattle.wired_send.proofs.SendIs.{send_done}
use Rattle.reports.specs.declared.Effect.{Effect}
use Rattle.reports.specs.Effects.{putting}
use Rattle.event_answers.specs.Answers.{says}
use Rattle.event_answers.specs.Met.{Met}
use Rattle.event_answers.proofs.Meets.{refusal_standing, meets_done, meets_counted}
use Rattle.event_send.specs.declared.Posted.{Posted}
use Rattle.event_send.specs.Posted.{CanPost, CanPostLong, WasPosted}
use Rattle.event_send.proofs.SendChecks.{octets_are}

-- the search goes over as many rooms as the product has
pub searched : (P : Product) (b : Bounds) → NumbersOf P b → (M : List ℕ) (found : code.Option ℕ) → found ≡ first_free b.held M → found ≡ first_free P.held M
searched P b numbers M m found = found ∙ ap (λ (h : ℕ). first_free h M) (sym numbers.held_is)

-- THE STEP BEHIND THE CHECKS: what the code found as how many stations there are, and as the message's number
module _ (S M W : List ℕ) (m s : ℕ) (text : List ℕ) (n number : ℕ) (stations_are : n ≡ (head_in S).stations) (number_is : number ≡ (stations_in S).sent s) where
  pub on_send_asked : (T : List ℕ) (rows : ℕ) → CanPost rows S M W T m s text
      → ((length S ≡ 116 + rows * 116) × (rows ≤ 16) × HasStation S s × HasRoom M m × HasText T m × (length text ≤ 32))
      × (((m < 32) × (s < 16) × (n ≤ 16) × (number < 4294967296)) × ((form W ≡ true) × (used W + n ≤ capacity W)))
  on_send_asked T rows can = rw (stations_are, number_is) can

  pub on_send_long_asked : (O : List ℕ) (b : Bounds) → CanPostLong b S M W O m s text
      → ((length S ≡ 116 + b.stations * 116) × (b.stations ≤ 16) × HasStation S s × HasRoom M m × CanStore b.held M O text)
      × (((m < 32) × (s < 16) × (n ≤ 16) × (number < 4294967296)) × ((form W ≡ true) × (used W + n ≤ capacity W)))
  on_send_long_asked O b can = rw (stations_are, number_is) can

  pub was_kept : {M' T T' : List ℕ} {set : ℕ} → Kept M M' T T' m s n number set text → Kept M M' T T' m s (head_in S).stations ((stations_in S).sent s) set text
  was_kept kept = rw (stations_are, number_is) at kept

  pub was_kept_long : {h : ℕ} {M' O O' : List ℕ} {set : ℕ} → KeptLong h M M' O O' m s n number set text
      → KeptLong h M M' O O' m s (head_in S).stations ((stations_in S).sent s) set text
  was_kept_long kept = rw (stations_are, number_is) at kept

  pub was_posted : {S' W' : List ℕ} (f : Effect) (r : Posted) → r ≡ record { number = record { 0 = number }; effect = f }
      → Announced S S' W W' m s n number → f ≡ putting n → WasPosted S S' W W' m s r
  was_posted f r made announced counted =
      record {
        announced = rw (stations_are, number_is) at announced;
        number = ap (λ (x : Posted). x.number.0) made ∙ number_is;
        counted = ap (λ (x : Posted). x.effect) made ∙ counted ∙ ap putting stations_are;
      }

-- to the members of a group, which the code read
pub kept_for : {M M' T T' : List ℕ} {m s n number members set : ℕ} {text : List ℕ} → members ≡ set
    → Kept M M' T T' m s n number members text → Kept M M' T T' m s n number set text
kept_for e kept = rw (sym e) kept

module _ (P : Product) (b : Bounds) (numbers : NumbersOf P b) (S C M W T O : List ℕ) (p : passes_form (limits_of P) (floor_in (lent P S C M W T O)) ≡ true) where
  abbrev L : Lent
  L = lent P S C M W T O

  X : Standing L
  X = standing L p

  pub rooms_asked : (b.held * 7 ≤ length M) × (b.held ≤ 32)
  rooms_asked = let a = X.lengths.messages in let e = numbers.held_is in let f = P.held_fit in (omega arith, omega arith)

  pub checks_asked : (s : ℕ) → HasHead S × ((head_in S).carts * 19 ≤ length C) × ((head_in S).carts ≤ 64) × (116 + (head_in S).stations * 116 ≤ length S) × ((stations_in S).sent s < 4294967296)
  checks_asked s =
      let a = X.lengths.stations in
      let q = X.lengths.carts in
      let d = X.sized.counts.stations in
      let e = X.sized.counts.carts in
      (omega arith, omega arith, few_carts L X, omega arith, (numbers_of_32_bits L X).sent s)

  -- the long texts lie right in the store
  pub laid_asked : store.Laid b.held M
  laid_asked =
      record {
        rows = (let a = X.lengths.messages in let e = numbers.held_is in omega arith);
        right = subst (λ (h : ℕ). True (layout_rule h (rooms_in M))) numbers.held_is X.laid.texts;
      }

  pub store_whole : length O ≡ 4096
  store_whole = X.lengths.store

  -- the search found room m, no check applied, and so some room is free and the event may send
  module _ (s set m : ℕ) (text : List ℕ) (found : Some m ≡ first_free P.held M)
      (may_some : (k : ℕ) × (free_room (limits_of P) (floor_in L) ≡ some k) × MaySend (limits_of P) (floor_in L) s set text k) where
    -- so m is that room
    room : free_room (limits_of P) (floor_in L) ≡ some m
    room = room_found L (Some m) found m refl

    same_room : may_some.0 ≡ m
    same_room = let y : some may_some.0 ≡ some m = sym may_some.1 ∙ room in cc

    may : MaySend (limits_of P) (floor_in L) s set text m
    may = subst (λ (k : ℕ). MaySend (limits_of P) (floor_in L) s set text k) same_room may_some.2

    has_station : HasStation S s
    has_station = let a = X.lengths.stations in let q = may.names.station in let d = X.sized.counts.stations in omega arith

    whole_rows : length S ≡ 116 + b.stations * 116
    whole_rows = let a = X.lengths.stations in let e = numbers.stations_are in omega arith

    few_rows : b.stations ≤ 16
    few_rows = let e = numbers.stations_are in let f = P.stations_fit in omega arith

    has_room : HasRoom M m
    has_room = let a = X.lengths.messages in let q = may.takes.room in omega arith

    has_text : HasText T m
    has_text = let a = X.lengths.texts in let q = may.takes.room in omega arith

    pub can_post : length text ≤ 32 → CanPost b.stations S M W T m s text
    can_post short = (
      (whole_rows, few_rows, has_station, has_room, has_text, short),
      (send_numbers L s set text m X room may, (X.laid.chains, send_room L s set text m X room may)),
    )

    -- 27 was passed: the free octets suffice
    can_store : 32 < length text → length text ≤ 512 → CanStore b.held M O text
    can_store above below =
        let counted = octets_are P b numbers T O M laid_asked store_whole in
        record { laid = laid_asked; whole = store_whole; above = above; below = below; free = omega (arith, may.stored (lt-ltb 32 (length text) above), counted) }

    pub can_post_long : 32 < length text → length text ≤ 512 → CanPostLong b S M W O m s text
    can_post_long above below = (
      (whole_rows, few_rows, has_station, has_room, can_store above below),
      (send_numbers L s set text m X room may, (X.laid.chains, send_room L s set text m X room may)),
    )

    -- the text is in its place
    pub placed_short : length text ≤ 32 → {M' T' : List ℕ} → Kept M M' T T' m s (head_in S).stations ((stations_in S).sent s) set text
        → Placed P.held M M' T T' O O m s (head_in S).stations ((stations_in S).sent s) set text
    placed_short short {M'} {T'} kept = short_placed P.held M M' m s (head_in S).stations ((stations_in S).sent s) set text may.names.station T T' O X.laid.texts short kept

    pub placed_long : 32 < length text → length text ≤ 512 → {M' O' : List ℕ} → KeptLong b.held M M' O O' m s (head_in S).stations ((stations_in S).sent s) set text
        → Placed P.held M M' T T O O' m s (head_in S).stations ((stations_in S).sent s) set text
    placed_long above below {M'} {O'} kept =
        subst (λ (h : ℕ). Placed h M M' T T O O' m s (head_in S).stations ((stations_in S).sent s) set text) (sym numbers.held_is)
        (long_placed b.held M M' m s (head_in S).stations ((stations_in S).sent s) set text may.names.station T O O' (can_store above below) kept)

    -- POSTED, the event is met: any that is not refused, and whose step is that of a send of this kind
    pub meets_posted : (e : Event) (kind : ℕ) → 0 ≡ refusal_if (limits_of P) (floor_in L) false e
        → accept (limits_of P) (floor_in L) e ≡ on_send (limits_of P) (floor_in L) kind s set text
        → (S' M' W' T' O' : List ℕ) (r : Posted) → Placed P.held M M' T T' O O' m s (head_in S).stations ((stations_in S).sent s) set text → WasPosted S S' W W' m s r
        → Met L (lent P S' C M' W' T' O') e (says kind s r.number.0 r.effect)
    meets_posted e kind free posts S' M' W' T' O' r placed posted =
        let L' = lent P S' C M' W' T' O' in
        let whole = send_done S S' C M M' W W' T T' O O' m s set text X may placed posted.announced room kind ∙ sym posts in
        meets_counted L L' e kind s r.number.0 r.effect (putting (head_in S).stations) posted.counted
        (rw posted.number (meets_done L e L' _ refl (refusal_standing L e p ∙ sym free)
        (ap (λ (D : Done). D.floor) whole) (ap (λ (D : Done). D.report) whole)))

  -- A SEND TO A SET that is not refused
  pub send_may : (s set : ℕ) (text : List ℕ) → 0 ≡ refusal_if (limits_of P) (floor_in L) false (send s set text)
      → (k : ℕ) × (free_room (limits_of P) (floor_in L) ≡ some k) × MaySend (limits_of P) (floor_in L) s set text k
  send_may s set text told = may_send (limits_of P) (floor_in L) false s set text (sym told)

  pub send_posts : (s set : ℕ) (text : List ℕ) → accept (limits_of P) (floor_in L) (send s set text) ≡ on_send (limits_of P) (floor_in L) 2 s set text
  unfolding accept
  send_posts s set text = refl

  -- A SEND TO A GROUP that is not refused
  pub group_may : (s g : ℕ) (text : List ℕ) → 0 ≡ refusal_if (limits_of P) (floor_in L) false (send_group s g text)
      → (k : ℕ) × (free_room (limits_of P) (floor_in L) ≡ some k) × MaySend (limits_of P) (floor_in L) s ((head_in S).groups g) text k
  group_may s g text told = may_send_group (limits_of P) (floor_in L) s g text (rw p (sym told))

  -- so the code may read its members
  pub group_there : (s g : ℕ) (text : List ℕ) → 0 ≡ refusal_if (limits_of P) (floor_in L) false (send_group s g text) → g < group_count
  unfolding refusal_if
  group_there s g text told =
      let a4 = passed_check 4 (ltb 32 (length text)) _ (omega arith) (sym told) in
      let a5 = passed_check 5 false _ (omega arith) a4.1 in
      let a8 = passed_check 8 (no_station (floor_in L) s) _ (omega arith) a5.1 in
      let a26 = passed_check 26 (undefined (floor_in L) g) _ (omega arith) a8.1 in
      leb-false group_count g (or-false (no_group g) (eqb ((head_in S).groups g) 0) a26.0).0

  pub group_posts : (s g : ℕ) (text : List ℕ) → accept (limits_of P) (floor_in L) (send_group s g text) ≡ on_send (limits_of P) (floor_in L) 8 s ((head_in S).groups g) text
  unfolding accept
  group_posts s g text = refl

  -- A LONG SEND that is not refused
  pub long_may : (s set : ℕ) (text : List ℕ) → 0 ≡ refusal_if (limits_of P) (floor_in L) false (send_long s set text)
      → (k : ℕ) × (free_room (limits_of P) (floor_in L) ≡ some k) × MaySend (limits_of P) (floor_in L) s set text k
  long_may s set text told = may_send_long (limits_of P) (floor_in L) false s set text (sym told)

  pub long_posts : (s set : ℕ) (text : List ℕ) → accept (limits_of P) (floor_in L) (send_long s set text) ≡ on_send (limits_of P) (floor_in L) 9 s set text
  unfolding accept
  long_posts s set text = refl
