-- `form_test::lengths_ok` meets its contract. Each `return` names the length that is another.
use native.Mathlib.Omega.{arith}
use Rattle.view.specs.View.{lent}
use Rattle.form_test.proofs.Lengths.{few_records, most_is, wrong_length_lem, rests_on_store}
use Rattle.form_test.proofs.lengths_ok.Goals as goal
use Rattle.form_test.proofs.lengths_ok.Goals.{then-stations-n-via-then-stations-n, then-stations-n-via-else-stations-n+then-carts-k, then-stations-n-via-else-stations-n+else-carts-k+then-messages-held, then-stations-n-via-else-stations-n+else-carts-k+else-messages-held+then-lines-records, then-stations-n-via-else-stations-n+else-carts-k+else-messages-held+else-lines-records+then-texts-held}

pub overflow_mul-n : goal.overflow_mul-n
overflow_mul-n c = omega arith

pub overflow_add-n : goal.overflow_add-n
overflow_add-n c = omega arith

pub overflow_mul-k : goal.overflow_mul-k
overflow_mul-k c = omega arith

pub overflow_mul-held : goal.overflow_mul-held
overflow_mul-held c = omega arith

pub overflow_add-each : goal.overflow_add-each
overflow_add-each c = omega arith

pub overflow_add-each-2 : goal.overflow_add-each-2
overflow_add-each-2 c = omega arith

pub overflow_mul-records : goal.overflow_mul-records
overflow_mul-records c = let w = few_records c.args.bounds c.requires in omega arith

pub overflow_add-records : goal.overflow_add-records
overflow_add-records c = let w = few_records c.args.bounds c.requires in omega arith

pub overflow_mul-records-else-messages-held : goal.overflow_mul-records-else-messages-held
overflow_mul-records-else-messages-held c = let w = few_records c.args.bounds c.requires in omega arith

pub overflow_add-records-else-messages-held : goal.overflow_add-records-else-messages-held
overflow_add-records-else-messages-held c = let w = few_records c.args.bounds c.requires in omega arith

pub overflow_mul-held-else-lines-records : goal.overflow_mul-held-else-lines-records
overflow_mul-held-else-lines-records c = omega arith

pub returns-then-stations-n : goal.returns-then-stations-n
returns-then-stations-n c =
    let a = c.args in
    λ P e. let n = e.stations_are in
    let k = e.carts_are in
    let m = e.held_is in
    wrong_length_lem (lent P a.stations.now a.carts.now a.messages.now a.lines.now a.texts.now a.store.now)
    (λ h. elim c.then-stations-n.branch [
      | then-stations-n-via-then-stations-n w ↦ let z = h.stations in omega (arith, w.if-stations-n.true)
      | then-stations-n-via-else-stations-n+then-carts-k w ↦ let z = h.carts in omega (arith, w.if-carts-k.true)
      | then-stations-n-via-else-stations-n+else-carts-k+then-messages-held w ↦ let z = h.messages in omega (arith, w.if-messages-held.true)
      | then-stations-n-via-else-stations-n+else-carts-k+else-messages-held+then-lines-records w ↦ let z = h.lines in let most = most_is P a.bounds e in omega (arith, w.if-lines-records.true)
      | then-stations-n-via-else-stations-n+else-carts-k+else-messages-held+else-lines-records+then-texts-held w ↦ let z = h.texts in omega (arith, w.if-texts-held.true)
    ])

pub returns : goal.returns
returns c =
    let a = c.args in
    λ P e. let n = e.stations_are in
    let k = e.carts_are in
    let m = e.held_is in
    let w = most_is P a.bounds e in
    rests_on_store (lent P a.stations.now a.carts.now a.messages.now a.lines.now a.texts.now a.store.now) (omega arith) (omega arith) (omega arith) (omega arith) (omega arith)
