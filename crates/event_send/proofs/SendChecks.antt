-- THE CHECKS OF THE SENDS, down the table: of the station, of the set or the group, of the text, of the number and the room.
use mathlib.Core.Path.{◌≡◌, refl, sym, ap, subst, ◌∙◌}
use mathlib.Core.Bool.{Bool, true, false, cond, not}
use mathlib.Core.List.{List, [], ◌∷◌}
use Prim.{tt}
use Rattle.std.specs.Option.{ok_or}
use Rattle.std.specs.Prelude.{IfOk}
use Prim.Native.Nat.{ℕ, ◌+◌, ◌≤◌, ◌<◌}
use native.Mathlib.Omega.{arith}
use lib.Dec.{eqb, ltb, leb}
use lib.ListN.{length}
use borrow.Author.Tests.{leb-true, leb-false, le-leb, lt-leb, lt-ltb, le-ltb, ne_eqb, not-true, not-false}
use Rattle.protocol.specs.Folds.{is_empty, is_none}
use Rattle.protocol.specs.Floor.{Limits, Product, limits_of, Floor}
use Rattle.protocol.specs.Groups.{group_count}
use Rattle.protocol.specs.Events.{send, send_group, send_long}
use Rattle.protocol.specs.Store.{store_used}
use Rattle.protocol.specs.Wired.{free_room}
use Rattle.protocol.specs.Claims.{True}
use Rattle.protocol.specs.Refusals.{check, strangers, not_entered, undefined, store_full, refusal_if}
use Rattle.protocol.proofs.Tests.{by_eq}
use Rattle.stations.specs.View.{stations_in}
use Rattle.messages.specs.View.{rooms_in}
use Rattle.products.specs.declared.Bounds.{Bounds}
use Rattle.products.specs.Numbers.{NumbersOf}
use Rattle.store.specs.Texts.{text_of}
use Rattle.store.specs.Layout.{layout_rule, used_in}
use Rattle.store.specs.Moved.{Laid}
use Rattle.store.proofs.Counted.{used_is}
use Rattle.view.specs.View.{lent, floor_in}
use Rattle.wired_send.specs.Rooms.{first_free}
use Rattle.wired_send.proofs.RoomLaws.{none_found, room_found}
use Rattle.std.specs.Prelude.{None, Some, Result, Ok, Err}
use Rattle.std.specs.Prelude as code
use Rattle.refusals.specs.declared.Refusal.{Refusal}
use Rattle.refusals.specs.Numbers.{number_of, refusal_in}
use Rattle.event_send.specs.Checks.{set_checks, text_checks, room_checks, store_checks}

-- every refusal has a number
number_some : (x : Refusal) → number_of x ≡ 0 → ⊥
number_some x z = grind arith

-- THE TEXT
pub text_none : (text : List ℕ) → length text ≡ 0 → 24 ≡ text_checks text
text_none [] e = refl
text_none (x ∷ text) e = absurd (omega arith)

pub text_some : (text : List ℕ) → (length text ≡ 0 → ⊥) → 0 ≡ text_checks text
text_some [] n = absurd (n refl)
text_some (x ∷ text) n = refl

-- THE NUMBER AND THE ROOM
module _ (S : List ℕ) (s : ℕ) (P : Product) (C M W T O : List ℕ) where
  abbrev N : Limits
  N = limits_of P

  abbrev F : Floor
  F = floor_in (lent P S C M W T O)

  pub room_numbers_used : P.last < (stations_in S).sent s → 13 ≡ room_checks N F s
  room_numbers_used l = rw (lt-ltb P.last ((stations_in S).sent s) l) refl

  module _ (l : (stations_in S).sent s ≤ P.last) (found : code.Option ℕ) (e : found ≡ first_free P.held M) where
    pub rooms_full : found ≡ None → 14 ≡ room_checks N F s
    rooms_full z = rw (le-ltb P.last ((stations_in S).sent s) l, none_found (lent P S C M W T O) found e z) refl

    pub room_passes : (m : ℕ) → found ≡ Some m → 0 ≡ room_checks N F s
    room_passes m z = rw (le-ltb P.last ((stations_in S).sent s) l, room_found (lent P S C M W T O) found e m z) refl

-- what is found and not refused, with that refusal where nothing is found
pub by_found : (found : code.Option ℕ) (x : Refusal) (n : ℕ) → (found ≡ None → number_of x ≡ n) → ((m : ℕ) → found ≡ Some m → 0 ≡ n) → refusal_in (ok_or found x) ≡ n
by_found None x n none some = none refl
by_found (Some m) x n none some = some m refl

pub if_found : (found : code.Option ℕ) (x : Refusal) → IfOk (ok_or found x) (λ m. Some m ≡ found)
if_found None x = tt
if_found (Some m) x = refl

-- THE STORE, as the code found whether it has room for a long text
module _ (h : ℕ) (M text : List ℕ) (r : Bool) (found : r ≡ leb (used_in h (rooms_in M) + length text) 4096) where
  pub store_has_room : r ≡ true → 0 ≡ store_checks h M text
  store_has_room e = rw (le-ltb 4096 (used_in h (rooms_in M) + length text) (leb-true (used_in h (rooms_in M) + length text) 4096 (sym found ∙ e))) refl

  pub store_is_full_lem : r ≡ false → 27 ≡ store_checks h M text
  store_is_full_lem e = rw (lt-ltb 4096 (used_in h (rooms_in M) + length text) (leb-false (used_in h (rooms_in M) + length text) 4096 (sym found ∙ e))) refl

-- the octets that the code counts are those that the written floor counts
module _ (P : Product) (b : Bounds) (numbers : NumbersOf P b) (T O M : List ℕ) (laid : Laid b.held M) (whole : length O ≡ 4096) where
  pub octets_are : used_in b.held (rooms_in M) ≡ store_used (limits_of P) (rooms_in M).waiting (text_of T O (rooms_in M))
  octets_are =
      ap (λ (h : ℕ). used_in h (rooms_in M)) (sym numbers.held_is)
      ∙ used_is (limits_of P) T O (rooms_in M) refl whole (subst (λ (h : ℕ). True (layout_rule h (rooms_in M))) (sym numbers.held_is) laid.right)

-- CHECKS ONE AFTER THE OTHER: "the first that applies is the answer"

abbrev pub first_applying : ℕ → ℕ → ℕ
first_applying refusal next = cond (eqb refusal 0) next refusal

-- every refusal has a number
stops : (x : Refusal) (n next : ℕ) → number_of x ≡ n → number_of x ≡ first_applying n next
stops x n next e = rw (sym e) (ap (λ (b : Bool). cond b next (number_of x)) (sym (ne_eqb (number_of x) 0 (number_some x))))

goes_on : (n next : ℕ) → 0 ≡ n → next ≡ first_applying n next
goes_on n next e = rw (sym e) refl

-- three groups of checks, and what is behind them, are the table
module _ (a b d next table : ℕ) (is : first_applying a (first_applying b (first_applying d next)) ≡ table) where
  pub at_first : (x : Refusal) → number_of x ≡ a → number_of x ≡ table
  at_first x e = stops x a (first_applying b (first_applying d next)) e ∙ is

  module _ (first : 0 ≡ a) where
    pub at_second : (x : Refusal) → number_of x ≡ b → number_of x ≡ table
    at_second x e = stops x b (first_applying d next) e ∙ goes_on a (first_applying b (first_applying d next)) first ∙ is

    module _ (second : 0 ≡ b) where
      pub at_third : (x : Refusal) → number_of x ≡ d → number_of x ≡ table
      at_third x e =
          stops x d next e ∙ goes_on b (first_applying d next) second ∙ goes_on a (first_applying b (first_applying d next)) first ∙ is

      pub behind : 0 ≡ d → next ≡ table
      behind third =
          goes_on d next third ∙ goes_on b (first_applying d next) second ∙ goes_on a (first_applying b (first_applying d next)) first ∙ is

-- and where nothing is behind them, what the third group says is the answer
last_zero : (n : ℕ) → n ≡ first_applying n 0
last_zero n = by_eq n 0 (λ z. rw z refl) (λ other. ap (λ (b : Bool). cond b 0 n) (sym (ne_eqb n 0 other)))

pub ends : (a b d table : ℕ) → first_applying a (first_applying b (first_applying d 0)) ≡ table → 0 ≡ a → 0 ≡ b → (r : ℕ) → r ≡ d → r ≡ table
ends a b d table is first second r e = e ∙ last_zero d ∙ goes_on b (first_applying d 0) second ∙ goes_on a (first_applying b (first_applying d 0)) first ∙ is

-- THE WHOLE TABLE, on a floor that passes the form rule

-- the checks of the set, of the text, of the number and the room, and what comes next
in_turn : (a b d e f g : Bool) (next : ℕ) → first_applying (check 9 a (check 11 b (check 12 d 0))) (first_applying (check 24 e 0) (first_applying (check 13 f (check 14 g 0)) next))
    ≡ check 9 a (check 11 b (check 12 d (check 24 e (check 13 f (check 14 g next)))))
in_turn true b d e f g next = refl
in_turn false true d e f g next = refl
in_turn false false true e f g next = refl
in_turn false false false true f g next = refl
in_turn false false false false true g next = refl
in_turn false false false false false true next = refl
in_turn false false false false false false next = refl

-- of a text that is not long
module _ (P : Product) (F : Floor) (s set : ℕ) (text : List ℕ) (short : length text ≤ 32) where
  pub send_no_station : F.stations ≤ s → 8 ≡ refusal_if (limits_of P) F false (send s set text)
  unfolding refusal_if
  send_no_station l = rw (le-ltb 32 (length text) short, le-leb F.stations s l) refl

  pub short_table : s < F.stations → first_applying (set_checks F set) (first_applying (text_checks text) (first_applying (room_checks (limits_of P) F s) 0))
      ≡ refusal_if (limits_of P) F false (send s set text)
  unfolding refusal_if
  short_table l =
      rw (le-ltb 32 (length text) short, lt-leb F.stations s l)
      (in_turn (strangers F set) (eqb set 0) (not_entered F set) (is_empty text) (ltb P.last (F.sent s)) (is_none (free_room (limits_of P) F)) 0)

-- a long text is not empty
long_some : (text : List ℕ) → 32 < length text → is_empty text ≡ false
long_some [] l = absurd (omega arith)
long_some (x ∷ text) l = refl

-- of a long one
module _ (P : Product) (b : Bounds) (numbers : NumbersOf P b) (S C M W T O : List ℕ) (laid : Laid b.held M) (s set : ℕ) (text : List ℕ) (above : 32 < length text) (below : length text ≤ 512) where
  abbrev G : Floor
  G = floor_in (lent P S C M W T O)

  pub long_no_station : G.stations ≤ s → 8 ≡ refusal_if (limits_of P) G false (send_long s set text)
  unfolding refusal_if
  long_no_station l = rw (lt-leb (length text) 32 above, le-ltb 512 (length text) below, le-leb G.stations s l) refl

  pub long_table : length O ≡ 4096 → s < G.stations
      → first_applying (set_checks G set) (first_applying (text_checks text) (first_applying (room_checks (limits_of P) G s) (store_checks b.held M text)))
      ≡ refusal_if (limits_of P) G false (send_long s set text)
  unfolding refusal_if
  long_table whole l =
      rw (lt-leb (length text) 32 above, le-ltb 512 (length text) below, lt-leb G.stations s l, octets_are P b numbers T O M laid whole, long_some text above)
      (in_turn (strangers G set) (eqb set 0) (not_entered G set) false (ltb P.last (G.sent s)) (is_none (free_room (limits_of P) G)) (check 27 (store_full (limits_of P) G text) 0))

-- THE SAME OF A SEND TO A GROUP
module _ (P : Product) (F : Floor) (s g : ℕ) (text : List ℕ) (short : length text ≤ 32) where
  pub group_no_station : F.stations ≤ s → 8 ≡ refusal_if (limits_of P) F false (send_group s g text)
  unfolding refusal_if
  group_no_station l = rw (le-ltb 32 (length text) short, le-leb F.stations s l) refl

  -- whether the code found the group defined
  module _ (l : s < F.stations) (defined : Bool) (found : defined ≡ not (undefined F g)) where
    pub group_undefined : not defined ≡ true → 26 ≡ refusal_if (limits_of P) F false (send_group s g text)
    unfolding refusal_if
    group_undefined n = rw (le-ltb 32 (length text) short, lt-leb F.stations s l, not-false (undefined F g) (sym found ∙ not-true defined n)) refl

    pub group_table : not defined ≡ false → first_applying 0 (first_applying (text_checks text) (first_applying (room_checks (limits_of P) F s) 0))
        ≡ refusal_if (limits_of P) F false (send_group s g text)
    unfolding refusal_if
    group_table n =
        rw (le-ltb 32 (length text) short, lt-leb F.stations s l, not-true (undefined F g) (sym found ∙ not-false defined n))
        (in_turn false false false (is_empty text) (ltb P.last (F.sent s)) (is_none (free_room (limits_of P) F)) 0)

-- is it defined
pub is_no_group : (F : Floor) (g : ℕ) → group_count ≤ g → false ≡ not (undefined F g)
is_no_group F g l = rw (le-leb group_count g l) refl

pub is_a_group : (F : Floor) (g members : ℕ) → g < group_count → members ≡ F.groups g → not (eqb members 0) ≡ not (undefined F g)
is_a_group F g members l e = rw (lt-leb group_count g l, e) refl
