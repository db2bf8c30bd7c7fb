-- CATCH-UP AS THE CODE DOES IT STOPS WHERE 01's LOOP STOPS, on every floor whose stations and messages are the two tables.
use mathlib.Core.Path.{◌≡◌, refl, sym, ap, ◌∙◌}
use mathlib.Core.List.{List}
use mathlib.Core.Option.{Option, none, some}
use mathlib.Core.Bool.{false}
use Prim.Native.Nat.{ℕ, zero, suc, ◌<◌, ◌≤◌}
use Rattle.std.specs.Prelude as code
use Rattle.protocol.specs.CartSets.{has}
use lib.ListN.{get_or}
use Rattle.protocol.specs.Floor.{Limits, Floor, on_stations, on_messages, set_copy, unstarted}
use Rattle.protocol.specs.Handoff.{catch_up_stop}
use Rattle.view.specs.View.{Lent, floor_in}
use Rattle.queue.specs.Rooms.{tables_floor, room_code, room_in, room_at}
use Rattle.catchup.specs.Nearest.{would_stop, nearer_with, nearest_among, stop_by}
use Rattle.catchup.specs.Arrival.{nearest_row}
use Rattle.catchup.proofs.ClosedForm.{closed_form}
use Rattle.catchup.proofs.RoomLaws.{nearest_decoded, nearest_skips}
use Rattle.catchup.proofs.RowLaws.{entry_says}

-- two floors agree in all that a catch-up asks for but the next numbers
pub record Agree (F G : Floor) : Type 0 where
  pub expected : F.expected ≡ G.expected
  pub initiator : F.initiator ≡ G.initiator
  pub number : F.number ≡ G.number
  pub waiting : F.waiting ≡ G.waiting
  pub copy : F.copy ≡ G.copy

-- the floor that lent parts say agrees with what its two tables say alone
pub lent_agree : (L : Lent) → Agree (floor_in L) (tables_floor L.stations L.messages)
lent_agree L = record { expected = refl; initiator = refl; number = refl; waiting = refl; copy = refl }

-- a floor of those parts alone
abbrev parts_only : (ℕ → ℕ → ℕ) → (ℕ → ℕ) → (ℕ → ℕ) → (ℕ → ℕ) → (ℕ → ℕ → ℕ) → Floor
parts_only expected initiator number waiting copy =
    set_copy
    (on_messages (on_stations unstarted unstarted.sent expected)
    (record { initiator = initiator; number = number; named = unstarted.named; text = unstarted.text; acked = unstarted.acked; waiting = waiting })) copy

abbrev parts_of : Floor → Floor
parts_of F = parts_only F.expected F.initiator F.number F.waiting F.copy

module _ (t c s x : ℕ) where
  same_nearer : (F : Floor) (m : ℕ) (o : Option ℕ) → nearer_with F t c s x m o ≡ nearer_with (parts_of F) t c s x m o
  unfolding would_stop
  same_nearer F m none = refl
  same_nearer F m (some k) = refl

  by_parts : (F : Floor) (n : ℕ) → nearest_among F t c s x n ≡ nearest_among (parts_of F) t c s x n
  unfolding nearest_among
  by_parts F zero = refl
  by_parts F (suc n) = same_nearer F n (nearest_among F t c s x n) ∙ ap (nearer_with (parts_of F) t c s x n) (by_parts F n)

  -- the nearest message is the same
  pub agree_nearest : (F G : Floor) → Agree F G → (n : ℕ) → nearest_among F t c s x n ≡ nearest_among G t c s x n
  agree_nearest F G a n =
      by_parts F n
      ∙ (λ i. nearest_among (parts_only (a.expected i) (a.initiator i) (a.number i) (a.waiting i) (a.copy i)) t c s x n)
      ∙ sym (by_parts G n)

  stop_parts : (F : Floor) (o : Option ℕ) → stop_by F t s x o ≡ stop_by (parts_of F) t s x o
  stop_parts F none = refl
  stop_parts F (some k) = refl

  -- and so is where the cart then stops
  pub agree_stop : (F G : Floor) → Agree F G → (o : Option ℕ) → stop_by F t s x o ≡ stop_by G t s x o
  agree_stop F G a o =
      stop_parts F o
      ∙ (λ i. stop_by (parts_only (a.expected i) (a.initiator i) (a.number i) (a.waiting i) (a.copy i)) t s x o)
      ∙ sym (stop_parts G o)

-- no room beyond the limit has a copy that names the cart
abbrev pub NoneBeyond : Limits → Floor → ℕ → ℕ → Type 0
NoneBeyond N F t c = (N.held ≤ 32) × ((m : ℕ) → N.held ≤ m → has (F.copy m t) c ≡ false)

module _ (N : Limits) (F : Floor) (stations messages : List ℕ) (agree : Agree F (tables_floor stations messages)) (t c : ℕ) (beyond : NoneBeyond N F t c) (s : ℕ) where
  -- by the option that was found
  found_stops : (o : Option ℕ) (x : ℕ) → x ≡ F.next c s → o ≡ nearest_among (tables_floor stations messages) t c s x 32
      → stop_by (tables_floor stations messages) t s x o ≡ catch_up_stop N F t c s
  found_stops o x e f =
      sym (closed_form N F t c s
      ∙ ap (stop_by F t s (F.next c s)) (sym (nearest_skips F t c s (F.next c s) N.held 32 beyond.0 (λ r h l. beyond.1 r h)))
      ∙ ap (λ (y : ℕ). stop_by F t s y (nearest_among F t c s y 32)) (sym e)
      ∙ ap (stop_by F t s x) (agree_nearest t c s x F (tables_floor stations messages) agree 32 ∙ sym f)
      ∙ agree_stop t c s x F (tables_floor stations messages) agree o)

  -- THE STOP OF ONE INITIATOR, by what `nearest_of` answers
  pub stops_there : (h : code.Option ℕ) → h ≡ room_code (nearest_among (tables_floor stations messages) t c s (F.next c s) 32)
      → stop_by (tables_floor stations messages) t s (F.next c s) (room_in h) ≡ catch_up_stop N F t c s
  stops_there h e =
      found_stops (room_in h) (F.next c s) refl
      (ap room_in e ∙ nearest_decoded (tables_floor stations messages) t c s (F.next c s) 32)

  -- THE STOP OF EACH INITIATOR, by what `stops_of` answers
  pub row_stops_there : (row nearest : List ℕ) → nearest ≡ nearest_row (tables_floor stations messages) t c row 32 → s < 16 → get_or row s 0 ≡ F.next c s
      → stop_by (tables_floor stations messages) t s (get_or row s 0) (room_at (get_or nearest s 0)) ≡ catch_up_stop N F t c s
  row_stops_there row nearest e l f =
      found_stops (room_at (get_or nearest s 0)) (get_or row s 0) f (entry_says (tables_floor stations messages) t c row nearest e s l)

-- the message that it stops at is the one that was found
pub stop_found : (F : Floor) (t s x : ℕ) (o : Option ℕ) → (stop_by F t s x o).found ≡ o
stop_found F t s x none = refl
stop_found F t s x (some k) = refl
