use native.Mathlib.Omega.{arith}
use mathlib.Core.Path.{◌∙◌}
use Rattle.protocol.proofs.Tests.{by_lt}
use Rattle.stations.proofs.TableLaws.{sent_past}
use Rattle.protocol.specs.Claims.{all, le, when, eq}
use Rattle.stations.specs.View.{stations_in}
use Rattle.carts.specs.View.{carts_in}
use Rattle.protocol.proofs.Answers.{all_no, same_answer}
use Rattle.form_tables.proofs.row_sent.Goals as goal

pub returns-then-sent_of-next_of : goal.returns-then-sent_of-next_of
returns-then-sent_of-next_of c =
    let next = (carts_in c.args.carts.now).next c.args.number.0 in
    let sent = (stations_in c.args.stations.now).sent in
    all_no 16 (λ k. le (next k) (sent k)) c.loop-s.s (omega arith) (λ h. omega arith)

-- the stations from n on have sent nothing, having no row
pub returns : goal.returns
returns c =
    let next = (carts_in c.args.carts.now).next c.args.number.0 in
    let sent = (stations_in c.args.stations.now).sent in
    let a = c.loop-s in
    c.row_ends.ensures
    ∙ same_answer (all 16 (λ k. when (le c.args.n k) (eq (next k) 0))) (all 16 (λ k. le (next k) (sent k)))
    (λ h k l. by_lt k c.args.n (λ m. a.invariant.1 k (omega arith)) (λ m. omega (arith, h k l m)))
    (λ h k l m. let z = sent_past c.args.stations.now k (let w = c.requires.0 in omega arith) in omega (arith, h k l))
