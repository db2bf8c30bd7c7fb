-- THE FREE ROOM: a search that passes the taken rooms one by one finds the first free one.
use mathlib.Core.Path.{◌≡◌, sym, ap, ◌∙◌}
use mathlib.Core.Bool.{Bool, false}
use mathlib.Core.Option.{none, some}
use mathlib.Core.List.{List}
use Prim.Native.Nat.{ℕ, ◌+◌, ◌≤◌, ◌<◌}
use native.Mathlib.Omega.{arith}
use lib.Dec.{eqb}
use Rattle.std.specs.Prelude as code
use Rattle.std.specs.Prelude.{Some, None}
use borrow.Author.Tests.{eq-eqb, ne_eqb}
use Rattle.protocol.specs.Floor.{Limits, limits_of}
use Rattle.protocol.specs.Wired.{free_room}
use Rattle.protocol.proofs.Tests.{by_eq, first_some, first_is, first_nowhere}
use Rattle.messages.specs.View.{rooms_in}
use Rattle.view.specs.View.{Lent, floor_in}
use Rattle.queue.specs.Rooms.{room_code}
use Rattle.queue.proofs.Codes.{is_room, is_none}
use Rattle.wired_send.specs.Rooms.{first_free}

-- THE SEARCH in a table of rooms

-- is room m free
abbrev pub is_free : List ℕ → ℕ → Bool
is_free messages m = eqb ((rooms_in messages).waiting m) 0

-- every room before room m is taken
abbrev pub TakenTo : List ℕ → ℕ → Type 0
TakenTo messages m = (k : ℕ) → k < m → is_free messages k ≡ false

module _ (held : ℕ) (messages : List ℕ) (m : ℕ) where
  -- one more, whose waiting stations are w
  pub taken_more : (w : ℕ) → w ≡ (rooms_in messages).waiting m → (w ≡ 0 → ⊥) → TakenTo messages m → TakenTo messages (m + 1)
  taken_more w e waits before k l =
      by_eq k m (λ q. ap (is_free messages) q ∙ ne_eqb ((rooms_in messages).waiting m) 0 (λ z. waits (e ∙ z))) (λ q. before k (omega arith))

  -- room m is free
  pub free_here : (w : ℕ) → w ≡ (rooms_in messages).waiting m → w ≡ 0 → m < held → TakenTo messages m → Some m ≡ first_free held messages
  unfolding first_free
  free_here w e nobody l before =
      sym (ap room_code (first_is held (is_free messages) m l (eq-eqb ((rooms_in messages).waiting m) 0 (sym e ∙ nobody)) before))

  -- no room is
  pub free_nowhere : held ≤ m → TakenTo messages m → None ≡ first_free held messages
  unfolding first_free
  free_nowhere g before = sym (ap room_code (first_nowhere held (is_free messages) (λ k h. before k (omega arith))))

-- so of the floor that the lent parts say
module _ (L : Lent) (found : code.Option ℕ) (e : found ≡ first_free L.product.held L.messages) where
  abbrev N : Limits
  N = limits_of L.product

  same : found ≡ room_code (free_room N (floor_in L))
  unfolding free_room first_free
  same = e

  pub room_found : (m : ℕ) → found ≡ Some m → free_room N (floor_in L) ≡ some m
  room_found m q = is_room (free_room N (floor_in L)) m q same

  pub none_found : found ≡ None → free_room N (floor_in L) ≡ none
  none_found q = is_none (free_room N (floor_in L)) q same

  -- a room that was found is one of those that the product has
  pub room_held : (m : ℕ) → found ≡ Some m → m < L.product.held
  unfolding free_room
  room_held m q = (first_some L.product.held (is_free L.messages) m (room_found m q)).0
