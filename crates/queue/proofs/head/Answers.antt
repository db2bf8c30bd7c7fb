use mathlib.Core.Path.{sym, ap, ◌∙◌}
use Prim.Native.Nat.{ℕ, ◌+◌}
use Rattle.stations.specs.View.{entries_in}
use Rattle.stations.proofs.TableLaws.{entries_word, entries_inside, not_in_entries}
use Rattle.queue.specs.Rooms.{tables_floor, room_code}
use Rattle.queue.specs.Keys.{has_entry}
use Rattle.queue.proofs.Steps.{walk_start, walk_turn, walk_end}
use Rattle.queue.proofs.HeadLaws.{first_skips, head_is_first, no_entry}
use Rattle.queue.proofs.KeyLaws.{best_none, best_again, best_all, entry_keyed}
use Rattle.queue.proofs.head.Goals as goal

pub loop-m-init : goal.loop-m-init
loop-m-init c =
    let a = c.args in
    let S = a.stations.now in
    let t = a.station.0 in
    let F = tables_floor S a.messages.now in
    let e = c.into_iter-m-iterator.ensures.into_iter_gives ∙ c.members_of-m-items.ensures ∙ ap (λ (x : ℕ). record { left = x }) c.entries_of.ensures in (
      0,
      walk_start 32 (entries_in S t) e (entries_word S t) (entries_inside S t),
      best_none F (has_entry F t),
    )

pub best_with-best-requires : goal.best_with-best-requires
best_with-best-requires c =
    let a = c.args in
    let p = c.requires in
    let l = c.loop-m in
    let turn = walk_turn 32 (entries_in a.stations.now a.station.0) l.invariant.0 c.next.ensures.steps l.invariant.1 c.in-Some.is in
    (p.0, p.1, turn.inside, p.2)

pub loop-m-preserved : goal.loop-m-preserved
loop-m-preserved c =
    let a = c.args in
    let S = a.stations.now in
    let F = tables_floor S a.messages.now in
    let t = a.station.0 in
    let l = c.loop-m in
    let k = l.invariant.0 in
    let m = c.in-Some.m in
    let turn = walk_turn 32 (entries_in S t) k c.next.ensures.steps l.invariant.1 c.in-Some.is in
    let skipped = first_skips F (has_entry F t) k m turn.next (λ r h n. no_entry F t r (not_in_entries S r t (turn.skips r h n))) in (
      m + 1,
      turn.ahead,
      best_again F (has_entry F t) (λ r h e. entry_keyed F t r l.best c.requires.2 h e) k m l.best c.best_with-best.result turn.inside skipped l.invariant.2 c.best_with-best.ensures,
    )

pub returns : goal.returns
returns c =
    let a = c.args in
    let S = a.stations.now in
    let F = tables_floor S a.messages.now in
    let t = a.station.0 in
    let l = c.loop-m in
    let k = l.invariant.0 in
    let none = walk_end 32 (entries_in S t) k _ c.next.ensures.steps l.invariant.1 c.in-None.is in
    let skipped = first_skips F (has_entry F t) k 32 l.invariant.1.within (λ r h n. no_entry F t r (not_in_entries S r t (none r h))) in
    c.room_in.ensures ∙ ap room_code (best_all F (has_entry F t) k l.best skipped l.invariant.2 ∙ sym (head_is_first F t 32))
