-- WHICH LENGTHS A LONG TEXT HAS: "33 to 512 octets", and 4 is met "for other lengths".
use mathlib.Core.Path.{◌≡◌, refl}
use mathlib.Core.Bool.{true, false}
use mathlib.Core.List.{List}
use Prim.Native.Nat.{ℕ, ◌≤◌, ◌<◌}
use native.Mathlib.Omega.{arith}
use lib.Dec.{ltb}
use lib.ListN.{length}
use borrow.Author.Tests.{le-leb, lt-leb, lt-ltb, ltb-true}
use Rattle.protocol.specs.Floor.{limits}
use Rattle.protocol.specs.Events.{send_long, refused}
use Rattle.protocol.specs.Store.{not_long}
use Rattle.protocol.proofs.Tests.{by_lt, clash}
use Rattle.view.specs.View.{Lent}
use Rattle.event_answers.specs.Met.{Met}
use Rattle.event_answers.proofs.Broken.{short_send_long, long_send_long}

-- by the two tests of the code
module _ (n : ℕ) where
  pub short_is_other : n ≤ 32 → true ≡ not_long limits n
  short_is_other l = rw (le-leb n 32 l) refl

  pub else_by_512 : 32 < n → ltb 512 n ≡ not_long limits n
  else_by_512 l = rw (lt-leb n 32 l) refl

  -- what a length that is none of the others is
  pub long_enough : not_long limits n ≡ false → 32 < n
  long_enough h = by_lt 32 n (λ l. l) (λ l. clash (not_long limits n) (rw (le-leb n 32 l) refl) h)

  pub not_too_long : not_long limits n ≡ false → n ≤ 512
  not_too_long h = by_lt 512 n (λ l. clash (not_long limits n) (rw (lt-leb n 32 (omega arith), lt-ltb 512 n l) refl) h) (λ l. l)

-- 4, whatever floor is lent
pub other_length : (L : Lent) (s set : ℕ) (text : List ℕ) → not_long limits (length text) ≡ true → Met L L (send_long s set text) (refused 4)
other_length L s set text h =
    by_lt 32 (length text)
    (λ l. long_send_long L s set text (ltb-true 512 (length text) (rw (lt-leb (length text) 32 l) at h)))
    (λ l. short_send_long L s set text l)
