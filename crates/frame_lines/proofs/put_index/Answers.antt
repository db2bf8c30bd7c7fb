-- `frame_lines::put_index` meets its contract.
use native.Mathlib.Omega.{arith}
use Rattle.frame_lines.proofs.Octets.{wrote_wider, began_all}
use Rattle.frame_lines.proofs.Numbers.{eight_written}
use Rattle.frame_lines.proofs.put_index.Goals as goal

pub returns-then-n-lt100000000 : goal.returns-then-n-lt100000000
returns-then-n-lt100000000 c =
    let all =
    eight_written c.args.n c.four_word.result (omega arith) (omega arith) c.put_spelled-next.ensures c.four_word.ensures.0 c.put_word.ensures
    in
    began_all 3 (let z = all.few in omega arith) (wrote_wider (omega arith) all)

pub returns : goal.returns
returns c =
    let w = c.put_decimal.ensures in
    began_all 3 (let z = w.few in omega arith) w
