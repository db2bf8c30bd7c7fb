use mathlib.Core.Path.{◌∙◌}
use Prim.Native.Nat.{ℕ}
use native.Mathlib.Omega.{arith}
use Rattle.protocol.specs.Claims.{Claim, when, le, eq, both}
use Rattle.stations.specs.View.{stations_in}
use Rattle.protocol.proofs.Answers.{all_yes, all_no}
use Rattle.form_tables.proofs.rooms_end.Goals as goal
use Rattle.form_tables.proofs.rooms_end.Goals.{then-copy_of-ne0-via-then-copy_of-ne0, then-copy_of-ne0-via-else-copy_of-ne0+then-queue_of-ne0}

pub returns-then-copy_of-ne0 : goal.returns-then-copy_of-ne0
returns-then-copy_of-ne0 c =
    let s = c.args in
    let f : ℕ → Claim = λ k. when (le s.held k) (both (eq ((stations_in s.stations.now).copy k s.t.0) 0) (eq ((stations_in s.stations.now).queue k s.t.0) 0)) in
    let a = c.loop-m in
    all_no 32 f a.m (omega arith) (λ h. elim c.then-copy_of-ne0.branch [
      | then-copy_of-ne0-via-then-copy_of-ne0 w ↦ w.if-copy_of-ne0.true (c.copy_of.ensures ∙ (h a.invariant.0).0)
      | then-copy_of-ne0-via-else-copy_of-ne0+then-queue_of-ne0 w ↦ w.if-queue_of-ne0.true (w.queue_of.ensures ∙ (h a.invariant.0).1)
    ])

pub returns : goal.returns
returns c =
    let s = c.args in
    let f : ℕ → Claim = λ k. when (le s.held k) (both (eq ((stations_in s.stations.now).copy k s.t.0) 0) (eq ((stations_in s.stations.now).queue k s.t.0) 0)) in
    let a = c.loop-m in
    all_yes 32 f a.m (omega arith) a.invariant.2
