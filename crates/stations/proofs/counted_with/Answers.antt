-- `stations::counted_with` meets its contract.
use borrow.Author.Tests.{eq-eqb, ne_eqb}
use Rattle.stations.proofs.counted_with.Goals as goal

pub returns-then-word-eq0 : goal.returns-then-word-eq0
returns-then-word-eq0 c = rw (eq-eqb c.args.word 0 c.if-word-eq0.true) c.without_member.ensures

pub returns-else-word-eq0 : goal.returns-else-word-eq0
returns-else-word-eq0 c = rw (ne_eqb c.args.word 0 c.if-word-eq0.false) c.with_member.ensures
