-- `form_test::passes` meets its contract. Each part refuses what the rule refuses, and the last one decides.
use mathlib.Core.Path.{◌≡◌, refl, sym, ◌∙◌}
use mathlib.Core.List.{List}
use Prim.Native.Nat.{ℕ}
use native.Mathlib.Omega.{arith}
use borrow.Author.Tests.{not-true, not-false}
use Rattle.protocol.specs.Floor.{Product, limits_of}
use Rattle.protocol.specs.Claims.{test}
use Rattle.view.specs.View.{Lent, lent}
use Rattle.view.proofs.Lengths.{Lengths, pool_sized}
use Rattle.form_tables.specs.Tables.{tables_rule}
use Rattle.protocol.proofs.Answers.{passed}
use Rattle.products.specs.declared.Bounds.{Bounds}
use Rattle.products.specs.Numbers.{NumbersOf}
use Rattle.products.proofs.Numbers.{product_of, its_numbers}
use Rattle.form_test.proofs.Lengths.{right_lengths}
use Rattle.form_test.proofs.Split.{fails_lengths, fails_tables, fails_groups, rests_on_lines}
use mathlib.Core.Bool.{not}
use mathlib.Core.Path.{ap}
use Rattle.form_test.proofs.passes.Goals as goal

-- the tables' part, in the product's own numbers
as_of : (P : Product) (b : Bounds) (S C M : List ℕ) → NumbersOf P b
    → test (tables_rule (limits_of P) b.stations b.carts b.held S C M) ≡ test (tables_rule (limits_of P) P.stations P.carts P.held S C M)
as_of P b S C M e = λ i. test (tables_rule (limits_of P) (sym e.stations_are i) (sym e.carts_are i) (sym e.held_is i) S C M)

pub returns-then-not-lengths_ok : goal.returns-then-not-lengths_ok
returns-then-not-lengths_ok c =
    let a = c.args in
    let t = c.lengths_ok in
    λ P e. fails_lengths P a.stations.now a.carts.now a.messages.now a.lines.now a.texts.now a.store.now t.result (t.ensures P e) (not-true _ (ap not c.if-not-lengths_ok.true))

pub tables_pass-requires : goal.tables_pass-requires
tables_pass-requires c =
    let a = c.args in
    let f = c.requires in
    let t = c.lengths_ok in
    let P = product_of a.bounds f in
    let L : Lent = lent P a.stations.now a.carts.now a.messages.now a.lines.now a.texts.now a.store.now in
    let h : Lengths L = right_lengths L t.result (t.ensures P (its_numbers a.bounds f)) (not-false _ (ap not c.if-not-lengths_ok.false)) in
    (f, record { stations = h.stations; carts = h.carts; messages = h.messages })

pub returns-then-not-tables_pass : goal.returns-then-not-tables_pass
returns-then-not-tables_pass c =
    let a = c.args in
    let t = c.tables_pass in
    λ P e. fails_tables P a.stations.now a.carts.now a.messages.now a.lines.now a.texts.now a.store.now t.result
    (t.ensures (limits_of P) e.last_is ∙ as_of P a.bounds a.stations.now a.carts.now a.messages.now e) (not-true _ (ap not c.if-not-tables_pass.true))

pub groups_pass-requires : goal.groups_pass-requires
groups_pass-requires c =
    let a = c.args in
    let f = c.requires in
    let t = c.lengths_ok in
    let s = c.tables_pass in
    let P = product_of a.bounds f in
    let L : Lent = lent P a.stations.now a.carts.now a.messages.now a.lines.now a.texts.now a.store.now in
    let h : Lengths L = right_lengths L t.result (t.ensures P (its_numbers a.bounds f)) (not-false _ (ap not c.if-not-lengths_ok.false)) in
    let counts = (passed (tables_rule (limits_of P) a.bounds.stations a.bounds.carts a.bounds.held a.stations.now a.carts.now a.messages.now) s.result (s.ensures (limits_of P) refl) (not-false _ (ap not c.if-not-tables_pass.false))).0 in
    let b = f.few_carts in
    let on = counts.1.1.1 in
    let rows = h.carts in
    (omega (arith, h.stations), omega arith, omega arith)

pub returns-then-not-groups_pass : goal.returns-then-not-groups_pass
returns-then-not-groups_pass c =
    let a = c.args in
    let t = c.groups_pass in
    λ P e. fails_groups P a.stations.now a.carts.now a.messages.now a.lines.now a.texts.now a.store.now t.result t.ensures (not-true _ (ap not c.if-not-groups_pass.true))

pub lines_pass-requires : goal.lines_pass-requires
lines_pass-requires c =
    let a = c.args in
    let f = c.requires in
    let t = c.lengths_ok in
    let s = c.tables_pass in
    let P = product_of a.bounds f in
    let L : Lent = lent P a.stations.now a.carts.now a.messages.now a.lines.now a.texts.now a.store.now in
    let h : Lengths L = right_lengths L t.result (t.ensures P (its_numbers a.bounds f)) (not-false _ (ap not c.if-not-lengths_ok.false)) in
    let counts = (passed (tables_rule (limits_of P) a.bounds.stations a.bounds.carts a.bounds.held a.stations.now a.carts.now a.messages.now) s.result (s.ensures (limits_of P) refl) (not-false _ (ap not c.if-not-tables_pass.false))).0 in
    let b = f.few_carts in
    let on = counts.1.1.1 in
    let rows = h.carts in (
      h.stations,
      f.few_stations,
      counts.1.0.1,
      omega arith,
      omega arith,
      record { rows = a.bounds.held; few = f.few_held; words = h.messages },
      pool_sized P a.lines.now h.lines,
    )

pub returns : goal.returns
returns c =
    let a = c.args in
    let t = c.lengths_ok in
    let s = c.tables_pass in
    let g = c.groups_pass in
    λ P e. rests_on_lines P a.stations.now a.carts.now a.messages.now a.lines.now a.texts.now a.store.now t.result s.result g.result c.lines_pass.result
    (t.ensures P e) (not-false _ (ap not c.if-not-lengths_ok.false))
    (s.ensures (limits_of P) e.last_is ∙ as_of P a.bounds a.stations.now a.carts.now a.messages.now e) (not-false _ (ap not c.if-not-tables_pass.false))
    g.ensures (not-false _ (ap not c.if-not-groups_pass.false)) (c.lines_pass.ensures P a.texts.now a.store.now)
