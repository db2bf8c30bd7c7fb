-- The nearest message, room by room.
use mathlib.Core.Path.{◌≡◌, refl, sym, ap, subst, ◌∙◌}
use mathlib.Core.Bool.{false, ◌&&◌}
use mathlib.Core.Option.{Option, none, some}
use Prim.Native.Nat.{ℕ, zero, suc, ◌+◌, ◌<◌, ◌≤◌}
use native.Mathlib.Numerals.{add-one}
use native.Mathlib.Omega.{arith}
use lib.Dec.{ltb}
use Rattle.std.specs.Prelude as code
use Rattle.std.specs.Prelude.{Some, None}
use Rattle.protocol.specs.CartSets.{has}
use Rattle.protocol.specs.Floor.{Floor}
use Rattle.protocol.proofs.Tests.{on_cond}
use Rattle.sets.proofs.Walk.{nothing_between}
use Rattle.queue.specs.Rooms.{room_code, room_in}
use Rattle.queue.proofs.Codes.{Below, decoded, is_room}
use Rattle.catchup.specs.Nearest.{would_stop, nearer_with, nearest_among}
use Rattle.catchup.proofs.StopLaws.{not_in_copy}

module _ (F : Floor) (t c s x : ℕ) where
  -- ONE ROOM MORE

  -- a message that would not stop the cart changes nothing
  pub passed_by_lem : (m : ℕ) (o : Option ℕ) → would_stop F t c s x m ≡ false → nearer_with F t c s x m o ≡ o
  passed_by_lem m none n = rw n
  passed_by_lem m (some k) n = rw n

  -- ALL ROOMS

  nearest_more : (n : ℕ) (o : Option ℕ) → Below n o → Below (suc n) (nearer_with F t c s x n o)
  nearest_more n none h = on_cond (Below (suc n)) (would_stop F t c s x n) (λ e. omega arith) (λ e. omega arith)
  nearest_more n (some k) h = on_cond (Below (suc n)) (would_stop F t c s x n && ltb (F.number n) (F.number k)) (λ e. omega arith) (λ e. omega arith)

  pub nearest_below : (n : ℕ) → Below n (nearest_among F t c s x n)
  unfolding nearest_among
  nearest_below zero = omega arith
  nearest_below (suc n) = nearest_more n (nearest_among F t c s x n) (nearest_below n)

  pub nearest_none : None ≡ room_code (nearest_among F t c s x 0)
  unfolding nearest_among
  nearest_none = refl

  pub nearest_decoded : (n : ℕ) → room_in (room_code (nearest_among F t c s x n)) ≡ nearest_among F t c s x n
  nearest_decoded n = decoded (nearest_among F t c s x n)

  -- a room that was found is one of those looked at
  pub nearest_low : (m k : ℕ) {h : code.Option ℕ} → h ≡ room_code (nearest_among F t c s x m) → h ≡ Some k → k < m
  nearest_low m k e found = subst (Below m) (is_room (nearest_among F t c s x m) k found e) (nearest_below m)

  pub nearest_next : (m : ℕ) → nearest_among F t c s x (m + 1) ≡ nearer_with F t c s x m (nearest_among F t c s x m)
  unfolding nearest_among
  nearest_next m = rw (add-one, nearest_among) refl

  pub nearest_again : (m : ℕ) {h r : code.Option ℕ} → h ≡ room_code (nearest_among F t c s x m) → r ≡ room_code (nearer_with F t c s x m (room_in h))
      → r ≡ room_code (nearest_among F t c s x (m + 1))
  nearest_again m e f =
      f ∙ ap (λ (o : Option ℕ). room_code (nearer_with F t c s x m o)) (ap room_in e ∙ nearest_decoded m) ∙ ap room_code (sym (nearest_next m))

  pub nearest_same : (m : ℕ) → would_stop F t c s x m ≡ false → nearest_among F t c s x (m + 1) ≡ nearest_among F t c s x m
  nearest_same m n = nearest_next m ∙ passed_by_lem m (nearest_among F t c s x m) n

  -- rooms whose copies do not name the cart are skipped
  pub nearest_skips : (a b : ℕ) → a ≤ b → ((m : ℕ) → a ≤ m → m < b → has (F.copy m t) c ≡ false) → nearest_among F t c s x b ≡ nearest_among F t c s x a
  unfolding nearest_among
  nearest_skips a b h absent =
      nothing_between (nearest_among F t c s x) a b h
      (λ m l k. passed_by_lem m (nearest_among F t c s x m) (sym (not_in_copy F t c s x m (F.copy m t) false refl (sym (absent m l k)) refl)))
