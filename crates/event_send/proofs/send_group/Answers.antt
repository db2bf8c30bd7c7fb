-- `event_send::send_group` meets its contract.
use mathlib.Core.Bool.{false, not}
use mathlib.Core.Path.{refl, ap}
use Rattle.std.proofs.lemmas.Result.{err_from_is_err_and}
use Rattle.protocol.specs.Events.{send_group}
use Rattle.stations.specs.View.{head_in}
use Rattle.view.specs.View.{lent}
use Rattle.event_answers.proofs.Meets.{meets_check}
use Rattle.event_answers.proofs.Broken.{broken_send_group}
use Rattle.event_answers.proofs.Readies.{has_head, started_passes, unstarted_breaks}
use Rattle.event_send.proofs.SendMeets.{searched, rooms_asked, checks_asked, group_may, group_posts, can_post, placed_short, meets_posted, group_there, kept_for}
use Rattle.event_send.proofs.send_group.Goals as goal

pub is_started-requires : goal.is_started-requires
is_started-requires c =
    let a = c.args in
    let P = c.requires.ready_with.0 in
    has_head (lent P a.stations.now a.carts.now a.messages.now a.lines.now a.texts.now a.store.now) c.requires.ready_with.2

pub returns-then-not-is_started : goal.returns-then-not-is_started
returns-then-not-is_started c =
    let a = c.args in
    λ P numbers R. broken_send_group (lent P a.stations.now a.carts.now a.messages.now a.lines.now a.texts.now a.store.now) false (unstarted_breaks (lent P a.stations.now a.carts.now a.messages.now a.lines.now a.texts.now a.store.now) _ c.is_started.ensures (ap not c.if-not-is_started.true)) refl a.station.0 a.group a.text.now c.requires.text_len_bound

pub check_send_group-requires : goal.check_send_group-requires
check_send_group-requires c =
    let a = c.args in
    let P = c.requires.ready_with.0 in
    let numbers = c.requires.ready_with.1 in
    let passes = started_passes (lent P a.stations.now a.carts.now a.messages.now a.lines.now a.texts.now a.store.now) _ c.is_started.ensures c.requires.ready_with.2 (ap not c.if-not-is_started.false) in
    let asked = checks_asked P a.bounds numbers a.stations.now a.carts.now a.messages.now a.lines.now a.texts.now a.store.now passes a.station.0 in
    let rooms = rooms_asked P a.bounds numbers a.stations.now a.carts.now a.messages.now a.lines.now a.texts.now a.store.now passes in
    (asked.0, asked.3, c.requires.text_len_bound, asked.4, rooms.0, rooms.1)

pub returns-in_err-room : goal.returns-in_err-room
returns-in_err-room c =
    let a = c.args in
    let p = err_from_is_err_and c.from_residual.result c.from_residual.ensures.1 in
    λ P numbers R.
    let passes = started_passes (lent P a.stations.now a.carts.now a.messages.now a.lines.now a.texts.now a.store.now) _ c.is_started.ensures R (ap not c.if-not-is_started.false) in
    rw (p.1, p.2) (meets_check (lent P a.stations.now a.carts.now a.messages.now a.lines.now a.texts.now a.store.now) (send_group a.station.0 a.group a.text.now) _ passes (c.in_err-room.ensures.refusal P a.carts.now a.lines.now a.texts.now a.store.now numbers))

pub group_of-members-requires : goal.group_of-members-requires
group_of-members-requires c =
    let a = c.args in
    let P = c.requires.ready_with.0 in
    let numbers = c.requires.ready_with.1 in
    let passes = started_passes (lent P a.stations.now a.carts.now a.messages.now a.lines.now a.texts.now a.store.now) _ c.is_started.ensures c.requires.ready_with.2 (ap not c.if-not-is_started.false) in
    (has_head (lent P a.stations.now a.carts.now a.messages.now a.lines.now a.texts.now a.store.now) c.requires.ready_with.2, group_there P a.bounds numbers a.stations.now a.carts.now a.messages.now a.lines.now a.texts.now a.store.now passes a.station.0 a.group a.text.now (c.in_ok-room.ensures.refusal P a.carts.now a.lines.now a.texts.now a.store.now numbers))

pub post-posted-requires : goal.post-posted-requires
post-posted-requires c =
    let a = c.args in
    let P = c.requires.ready_with.0 in
    let numbers = c.requires.ready_with.1 in
    let passes = started_passes (lent P a.stations.now a.carts.now a.messages.now a.lines.now a.texts.now a.store.now) _ c.is_started.ensures c.requires.ready_with.2 (ap not c.if-not-is_started.false) in
    let found = searched P a.bounds numbers a.messages.now _ c.in_ok-room.ensures.room in
    let may = group_may P a.bounds numbers a.stations.now a.carts.now a.messages.now a.lines.now a.texts.now a.store.now passes a.station.0 a.group a.text.now (c.in_ok-room.ensures.refusal P a.carts.now a.lines.now a.texts.now a.store.now numbers) in
    can_post P a.bounds numbers a.stations.now a.carts.now a.messages.now a.lines.now a.texts.now a.store.now passes a.station.0 ((head_in a.stations.now).groups a.group) c.in_ok-room.room a.text.now found may c.requires.text_len_bound

pub returns : goal.returns
returns c =
    let a = c.args in
    λ P numbers R.
    let passes = started_passes (lent P a.stations.now a.carts.now a.messages.now a.lines.now a.texts.now a.store.now) _ c.is_started.ensures R (ap not c.if-not-is_started.false) in
    let found = searched P a.bounds numbers a.messages.now _ c.in_ok-room.ensures.room in
    let free = (c.in_ok-room.ensures.refusal P a.carts.now a.lines.now a.texts.now a.store.now numbers) in
    let may = group_may P a.bounds numbers a.stations.now a.carts.now a.messages.now a.lines.now a.texts.now a.store.now passes a.station.0 a.group a.text.now free in
    let posted = c.post-posted.ensures in
    meets_posted P a.bounds numbers a.stations.now a.carts.now a.messages.now a.lines.now a.texts.now a.store.now passes a.station.0 ((head_in a.stations.now).groups a.group) c.in_ok-room.room a.text.now found may (send_group a.station.0 a.group a.text.now) 8 free
    (group_posts P a.bounds numbers a.stations.now a.carts.now a.messages.now a.lines.now a.texts.now a.store.now passes a.station.0 a.group a.text.now) _ _ _ _ _ _
    (placed_short P a.bounds numbers a.stations.now a.carts.now a.messages.now a.lines.now a.texts.now a.store.now passes a.station.0 ((head_in a.stations.now).groups a.group) c.in_ok-room.room a.text.now found may c.requires.text_len_bound (kept_for c.group_of-members.ensures posted.kept)) posted.was_posted
