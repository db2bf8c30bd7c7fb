-- `form_tables::copy_named` meets its contract.
use mathlib.Core.Path.{ap, ◌∙◌}
use mathlib.Core.List.{[]}
use Prim.Native.Nat.{ℕ}
use Rattle.protocol.specs.Claims.{test}
use Rattle.form_tables.proofs.Copies.{none_below, copy_named_lem}
use Rattle.form_tables.specs.Tables.{tables}
use Rattle.form_tables.proofs.copy_named.Goals as goal

pub returns : goal.returns
returns c =
    let a = c.args in
    let k = c.cart_count in
    let named = c.named_of-named in
    let copy = c.copy_of-copy in
    let extra = c.minus in
    c.none_below.ensures ∙ ap (λ (x : ℕ). test (none_below x k.result)) extra.ensures
    ∙ copy_named_lem (tables a.stations.now [] a.messages.now) a.m a.t.0 named.result copy.result k.result named.ensures copy.ensures k.ensures
