-- 27 CANNOT OCCUR IN THE KIT (`kit_never_27` in protocol's Theorems), so no call of the kit answers it, whatever is lent.
use mathlib.Core.Path.{◌≡◌}
use mathlib.Core.List.{List}
use Prim.Native.Nat.{ℕ}
use native.Mathlib.Omega.{arith}
use borrow.Author.Tests.{ne_eqb}
use Rattle.protocol.specs.Floor.{limits_of, kit}
use Rattle.protocol.specs.Events.{Event, accepted, refused}
use Rattle.protocol.specs.Refusals.{refusal}
use Rattle.protocol.specs.Step.{answer, accept}
use Rattle.protocol.proofs.Tests.{by_eq}
use Rattle.protocol.proofs.Theorems.{kit_never_27}
use Rattle.view.specs.View.{Lent, lent, floor_in}
use Rattle.event_answers.specs.Met.{Met}

pub kit_answers_no_27 : (S C M W T O : List ℕ) (L' : Lent) (e : Event) → Met (lent kit S C M W T O) L' e (refused 27) → ⊥
unfolding answer
kit_answers_no_27 S C M W T O L' e met =
    let F = floor_in (lent kit S C M W T O) in
    let r = refusal (limits_of kit) F e in
    let says : refused 27 ≡ answer (limits_of kit) F e = met.answers in
    by_eq r 0
    (λ z. let b : refused 27 ≡ accepted (accept (limits_of kit) F e).report = rw z at says in let y : ◌≡◌ {A = ℕ} 0 1 = cc in omega arith)
    (λ z. kit_never_27 F e (let b : refused 27 ≡ refused r = rw (ne_eqb r 0 z) at says in cc))
