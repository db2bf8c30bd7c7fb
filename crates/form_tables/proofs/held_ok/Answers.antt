-- `form_tables::held_ok` meets its contract.
use mathlib.Core.Path.{sym, ap, ◌∙◌}
use mathlib.Core.List.{[]}
use native.Mathlib.Omega.{arith}
use borrow.Author.Tests.{not-true, not-false}
use Rattle.form_tables.proofs.Names.{held_of, names_as, delete_as, held_free, held_not_sent, held_twice, held_end}
use Rattle.protocol.proofs.Answers.{passed, refused}
use Rattle.form_tables.specs.Tables.{tables}
use Rattle.form_tables.specs.Parts.{names_before}
use mathlib.Core.Bool.{not}
use Rattle.form_tables.proofs.held_ok.Goals as goal

pub returns-then-waiting-eq0 : goal.returns-then-waiting-eq0
returns-then-waiting-eq0 c =
    let a = c.args in
    held_free (tables a.stations.now [] a.messages.now) a.m (sym c.waiting_of-waiting.ensures ∙ c.if-waiting-eq0.true)

pub returns-then-sent_by-n : goal.returns-then-sent_by-n
returns-then-sent_by-n c =
    let a = c.args in
    let F = tables a.stations.now [] a.messages.now in
    let sent = ap F.sent c.initiator_of-s.ensures in
    held_not_sent F a.m (held_of F a.m (λ z. c.if-waiting-eq0.false (c.waiting_of-waiting.ensures ∙ z))) (omega arith)

pub returns-then-not-is_alone : goal.returns-then-not-is_alone
returns-then-not-is_alone c =
    let a = c.args in
    let F = tables a.stations.now [] a.messages.now in
    let s = c.initiator_of-s in
    let n = c.number_of-n in
    let t = c.is_alone in
    held_twice F a.m (held_of F a.m (λ z. c.if-waiting-eq0.false (c.waiting_of-waiting.ensures ∙ z)))
    (refused (names_before F a.m) t.result (t.ensures ∙ names_as F a.m s.result.0 n.result.0 s.ensures n.ensures) (not-true _ (ap not c.if-not-is_alone.true)))

pub returns : goal.returns
returns c =
    let a = c.args in
    let F = tables a.stations.now [] a.messages.now in
    let s = c.initiator_of-s in
    let n = c.number_of-n in
    let t = c.is_alone in
    let count = c.station_count in
    let waiting = c.waiting_of-waiting in
    let acked = c.acked_of in
    let named = c.named_of in
    let sent = ap F.sent s.ensures in
    held_end F a.m (held_of F a.m (λ z. c.if-waiting-eq0.false (waiting.ensures ∙ z))) (omega arith)
    (passed (names_before F a.m) t.result (t.ensures ∙ names_as F a.m s.result.0 n.result.0 s.ensures n.ensures) (not-false _ (ap not c.if-not-is_alone.false)))
    c.delete_ok.result
    (c.delete_ok.ensures ∙ delete_as F a.m count.result waiting.result acked.result named.result count.ensures waiting.ensures acked.ensures named.ensures)
