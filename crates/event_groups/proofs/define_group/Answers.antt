-- `event_groups::define_group` meets its contract.
use mathlib.Core.Path.{refl}
use mathlib.Core.Bool.{false}
use Rattle.std.proofs.lemmas.Result.{err_from_is_err_and}
use Rattle.protocol.specs.Events.{group}
use Rattle.view.specs.View.{lent}
use Rattle.event_answers.proofs.Meets.{meets_check}
use Rattle.event_answers.proofs.Broken.{broken_group}
use Rattle.event_answers.proofs.Readies.{has_head, started_passes, unstarted_breaks}
use Rattle.event_groups.proofs.GroupMeets.{checks_asked, group_asked, meets_group}
use mathlib.Core.Bool.{not}
use mathlib.Core.Path.{ap}
use Rattle.event_groups.proofs.define_group.Goals as goal

pub is_started-requires : goal.is_started-requires
is_started-requires c =
    let a = c.args in
    let P = c.requires.0 in
    has_head (lent P a.stations.now a.carts.now a.messages.now a.lines.now a.texts.now a.store.now) c.requires.1

pub returns-then-not-is_started : goal.returns-then-not-is_started
returns-then-not-is_started c =
    let a = c.args in
    λ P R. broken_group (lent P a.stations.now a.carts.now a.messages.now a.lines.now a.texts.now a.store.now) false (unstarted_breaks (lent P a.stations.now a.carts.now a.messages.now a.lines.now a.texts.now a.store.now) _ c.is_started.ensures (ap not c.if-not-is_started.true)) refl a.group a.set

pub check_group-requires : goal.check_group-requires
check_group-requires c =
    let a = c.args in
    let P = c.requires.0 in
    checks_asked P a.stations.now a.carts.now a.messages.now a.lines.now a.texts.now a.store.now (started_passes (lent P a.stations.now a.carts.now a.messages.now a.lines.now a.texts.now a.store.now) _ c.is_started.ensures c.requires.1 (ap not c.if-not-is_started.false))

pub returns-in_err-check_group : goal.returns-in_err-check_group
returns-in_err-check_group c =
    let a = c.args in
    let p = err_from_is_err_and c.from_residual.result c.from_residual.ensures.1 in
    λ P R. rw (p.1, p.2) (meets_check (lent P a.stations.now a.carts.now a.messages.now a.lines.now a.texts.now a.store.now) (group a.group a.set) _ (started_passes (lent P a.stations.now a.carts.now a.messages.now a.lines.now a.texts.now a.store.now) _ c.is_started.ensures R (ap not c.if-not-is_started.false)) (c.in_err-check_group.ensures P a.messages.now a.lines.now a.texts.now a.store.now))

pub put_group-requires : goal.put_group-requires
put_group-requires c =
    let a = c.args in
    let P = c.requires.0 in
    group_asked P a.stations.now a.carts.now a.messages.now a.lines.now a.texts.now a.store.now (started_passes (lent P a.stations.now a.carts.now a.messages.now a.lines.now a.texts.now a.store.now) _ c.is_started.ensures c.requires.1 (ap not c.if-not-is_started.false)) a.group a.set _ (c.in_ok-check_group.ensures P a.messages.now a.lines.now a.texts.now a.store.now) refl

pub returns : goal.returns
returns c =
    let a = c.args in
    let put = c.put_group.ensures in
    λ P R. meets_group P a.stations.now a.carts.now a.messages.now a.lines.now a.texts.now a.store.now (started_passes (lent P a.stations.now a.carts.now a.messages.now a.lines.now a.texts.now a.store.now) _ c.is_started.ensures R (ap not c.if-not-is_started.false)) a.group a.set _ (c.in_ok-check_group.ensures P a.messages.now a.lines.now a.texts.now a.store.now) refl _ put.stations_after put.stations_unchanged put.stations_len_unchanged _ _ c.count-members.ensures c.nothing.ensures
