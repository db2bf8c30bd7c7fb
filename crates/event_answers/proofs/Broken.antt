-- A FLOOR THAT BREAKS THE FORM RULE is refused with 5: the first check of every event but a start, whose own 5 is in `event_start`, and the sends, whose
-- first is 4.
use mathlib.Core.Path.{◌≡◌, refl, sym, ◌∙◌}
use mathlib.Core.Bool.{Bool, true, false}
use mathlib.Core.List.{List}
use Prim.Native.Nat.{ℕ, ◌≤◌, ◌<◌}
use native.Mathlib.Omega.{arith}
use lib.ListN.{length}
use borrow.Author.Tests.{lt-ltb, le-ltb, lt-leb, le-leb}
use Rattle.protocol.specs.Floor.{limits_of}
use Rattle.protocol.specs.Events.{Event, enter, send, wire, radio, move, flag, group, send_group, send_long, retire, refused}
use Rattle.protocol.specs.Form.{passes_form}
use Rattle.protocol.specs.Refusals.{refusal, refusal_if}
use Rattle.view.specs.View.{Lent, floor_in}
use Rattle.event_answers.specs.Met.{Met}
use Rattle.event_answers.proofs.Meets.{refusal_broken, meets_refused}

-- what the form test answered, in the way of the code that asked
module _ (L : Lent) (e : Event) (tested : Bool) (test_is : tested ≡ passes_form (limits_of L.product) (floor_in L)) (no : tested ≡ false) where
  pub meets_broken : refusal_if (limits_of L.product) (floor_in L) true e ≡ 5 → Met L L e (refused 5)
  meets_broken q = meets_refused L e 5 (refusal_broken L e (sym test_is ∙ no) ∙ q) (λ z. omega arith)

module _ (L : Lent) (tested : Bool) (test_is : tested ≡ passes_form (limits_of L.product) (floor_in L)) (no : tested ≡ false) where
  pub broken_enter : (t c : ℕ) → Met L L (enter t c) (refused 5)
  unfolding refusal_if
  broken_enter t c = meets_broken L (enter t c) tested test_is no refl

  pub broken_wire : (i j : ℕ) → Met L L (wire i j) (refused 5)
  unfolding refusal_if
  broken_wire i j = meets_broken L (wire i j) tested test_is no refl

  pub broken_radio : (t c buffer : ℕ) → Met L L (radio t c buffer) (refused 5)
  unfolding refusal_if
  broken_radio t c buffer = meets_broken L (radio t c buffer) tested test_is no refl

  pub broken_move : (c to : ℕ) → Met L L (move c to) (refused 5)
  unfolding refusal_if
  broken_move c to = meets_broken L (move c to) tested test_is no refl

  pub broken_flag : (c : ℕ) (b : Bool) → Met L L (flag c b) (refused 5)
  unfolding refusal_if
  broken_flag c b = meets_broken L (flag c b) tested test_is no refl

  pub broken_group : (g set : ℕ) → Met L L (group g set) (refused 5)
  unfolding refusal_if
  broken_group g set = meets_broken L (group g set) tested test_is no refl

  pub broken_retire : (c : ℕ) → Met L L (retire c) (refused 5)
  unfolding refusal_if
  broken_retire c = meets_broken L (retire c) tested test_is no refl

  -- a text within the limit
  pub broken_send : (s set : ℕ) (text : List ℕ) → length text ≤ 32 → Met L L (send s set text) (refused 5)
  unfolding refusal_if
  broken_send s set text l = meets_broken L (send s set text) tested test_is no (rw (le-ltb 32 (length text) l) refl)

  pub broken_send_group : (s g : ℕ) (text : List ℕ) → length text ≤ 32 → Met L L (send_group s g text) (refused 5)
  unfolding refusal_if
  broken_send_group s g text l = meets_broken L (send_group s g text) tested test_is no (rw (le-ltb 32 (length text) l) refl)

  -- a long one
  pub broken_send_long : (s set : ℕ) (text : List ℕ) → 32 < length text → length text ≤ 512 → Met L L (send_long s set text) (refused 5)
  unfolding refusal_if
  broken_send_long s set text a b = meets_broken L (send_long s set text) tested test_is no (rw (lt-leb (length text) 32 a, le-ltb 512 (length text) b) refl)

-- 4: "text longer than 32", whatever floor is lent
pub long_send : (L : Lent) (s set : ℕ) (text : List ℕ) → 32 < length text → Met L L (send s set text) (refused 4)
unfolding refusal refusal_if
long_send L s set text l = meets_refused L (send s set text) 4 (rw (lt-ltb 32 (length text) l) refl) (λ z. omega arith)

pub long_send_group : (L : Lent) (s g : ℕ) (text : List ℕ) → 32 < length text → Met L L (send_group s g text) (refused 4)
unfolding refusal refusal_if
long_send_group L s g text l = meets_refused L (send_group s g text) 4 (rw (lt-ltb 32 (length text) l) refl) (λ z. omega arith)

-- "for kind 9, 4 for other lengths" than "33 to 512 octets"
pub short_send_long : (L : Lent) (s set : ℕ) (text : List ℕ) → length text ≤ 32 → Met L L (send_long s set text) (refused 4)
unfolding refusal refusal_if
short_send_long L s set text l = meets_refused L (send_long s set text) 4 (rw (le-leb (length text) 32 l) refl) (λ z. omega arith)

pub long_send_long : (L : Lent) (s set : ℕ) (text : List ℕ) → 512 < length text → Met L L (send_long s set text) (refused 4)
unfolding refusal refusal_if
long_send_long L s set text l = meets_refused L (send_long s set text) 4 (rw (lt-leb (length text) 32 (omega arith), lt-ltb 512 (length text) l) refl) (λ z. omega arith)
