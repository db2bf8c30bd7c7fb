-- A step of the walk leaves a smaller word behind it.
use Rattle.std.proofs.Common.{rules, arith, ◌<◌}
use Rattle.sets.proofs.MaskLaws.{least_lowest, without_less}
use Rattle.sets.proofs.MembersIterator.next.Goals as goal

pub returns-clause-goes : goal.returns-clause-goes
returns-clause-goes c =
    let set = c.args.self.now.left in
    let m = c.first-least.result in
    let rest = c.without_first-self in
    let lowest = least_lowest 64 set m (search rules) (omega arith) c.first-least.ensures in
    let less = without_less 64 set m (search rules) lowest.member in
    let smaller : rest.result < set = rw (rest.ensures m c.first-least.ensures) less in
    record { on = λ _. (tt, tt, smaller); keeps = tt; rests = λ _. tt }
