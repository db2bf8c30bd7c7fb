-- `form_tables::entries_of` meets its contract. Each `return` names what the rule refuses, and the queued carts decide.
use mathlib.Core.Path.{◌≡◌, sym, ◌∙◌}
use native.Mathlib.Omega.{arith}
use borrow.Author.Tests.{not-true, not-false}
use Rattle.form_tables.proofs.Names.{held_of}
use Rattle.form_tables.proofs.Sets.{within_most}
use Rattle.form_tables.proofs.Queues.{queued_below, entries_large, entries_stray, entries_empty, entries_free, entries_unnamed, entries_end}
use Rattle.form_tables.specs.Tables.{tables}
use mathlib.Core.Bool.{not}
use mathlib.Core.Path.{ap}
use Rattle.form_tables.proofs.entries_of.Goals as goal
use Rattle.form_tables.proofs.entries_of.Goals.{then-most-met-via-then-most-met, then-most-met-via-else-most-met+then-met-gt0}

pub returns-then-most-met : goal.returns-then-most-met
returns-then-most-met c =
    let a = c.args in
    let g = c.gather_entries-met in
    elim c.then-most-met.branch [
      | then-most-met-via-then-most-met w ↦
          entries_large a.stations.now a.carts.now a.messages.now a.rows a.m g.result.sets g.result.queued g.result.strays g.ensures c.requires.2 a.most (omega arith) c.requires.3 w.if-most-met.true
      | then-most-met-via-else-most-met+then-met-gt0 w ↦
          entries_stray a.stations.now a.carts.now a.messages.now a.rows a.m g.result.sets g.result.queued g.result.strays g.ensures c.requires.2 (omega arith) w.if-met-gt0.true
    ]

pub returns-then-met-eq0 : goal.returns-then-met-eq0
returns-then-met-eq0 c =
    let a = c.args in
    let g = c.gather_entries-met in
    let F = tables a.stations.now a.carts.now a.messages.now in
    entries_empty a.stations.now a.carts.now a.messages.now a.rows a.m g.result.sets g.result.queued g.result.strays g.ensures c.requires.2 (within_most F.carts g.result.sets (omega arith) a.most c.requires.3 c.if-most-met.false) c.if-met-eq0.true

pub returns-then-waiting_of-eq0 : goal.returns-then-waiting_of-eq0
returns-then-waiting_of-eq0 c =
    let a = c.args in
    let g = c.gather_entries-met in
    let w = c.waiting_of in
    entries_free a.stations.now a.carts.now a.messages.now a.rows a.m g.result.sets g.result.queued g.result.strays g.ensures c.requires.2 (omega arith) (omega arith) (sym w.ensures ∙ c.if-waiting_of-eq0.true)

pub returns-then-not-is_within : goal.returns-then-not-is_within
returns-then-not-is_within c =
    let a = c.args in
    let g = c.gather_entries-met in
    let d = c.named_of in
    let t = c.is_within in
    entries_unnamed a.stations.now a.carts.now a.messages.now a.rows a.m g.result.sets g.result.queued g.result.strays g.ensures c.requires.2 d.result d.ensures t.result t.ensures (not-true _ (ap not c.if-not-is_within.true))

pub all_next-requires : goal.all_next-requires
all_next-requires c =
    let a = c.args in
    let g = c.gather_entries-met in
    let F = tables a.stations.now a.carts.now a.messages.now in
    λ d q.
    let below = queued_below a.stations.now a.carts.now a.messages.now a.rows a.m g.result.sets g.result.queued g.result.strays g.ensures c.requires.2
    (within_most F.carts g.result.sets (omega arith) a.most c.requires.3 c.if-most-met.false) d q in
    let rows = c.requires.0.carts in
    omega (arith, below, rows)

pub returns : goal.returns
returns c =
    let a = c.args in
    let g = c.gather_entries-met in
    let F = tables a.stations.now a.carts.now a.messages.now in
    let w = c.waiting_of in
    let d = c.named_of in
    let t = c.is_within in
    let i = c.initiator_of-s in
    let n = c.number_of-n in
    let z : g.result.strays ≡ 0 = omega (arith, c.if-met-gt0.false) in
    entries_end a.stations.now a.carts.now a.messages.now a.rows a.m g.result.sets g.result.queued g.result.strays g.ensures c.requires.2 d.result d.ensures (within_most F.carts g.result.sets (omega arith) a.most c.requires.3 c.if-most-met.false) z (omega arith)
    (held_of F a.m (λ q. c.if-waiting_of-eq0.false (w.ensures ∙ q)))
    (sym t.ensures ∙ not-false _ (ap not c.if-not-is_within.false))
    i.result.0 n.result.0 i.ensures n.ensures c.all_next.result c.all_next.ensures
