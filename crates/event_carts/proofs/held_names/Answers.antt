use mathlib.Core.Path.{◌≡◌, subst}
use Prim.Native.Nat.{ℕ}
use native.Mathlib.Omega.{arith}
use Rattle.messages.specs.View.{rooms_in}
use Rattle.queue.specs.Rooms.{room_count}
use Rattle.form_tables.specs.Parts.{Collects}
use Rattle.form_tables.proofs.Sets.{collect_none, collect_more}
use Rattle.event_carts.specs.Named.{named_if_held}
use Rattle.event_carts.proofs.held_names.Goals as goal

pub loop-m-init : goal.loop-m-init
loop-m-init c = (collect_none (named_if_held (rooms_in c.args.messages.now)), omega arith)

pub named_if_held-requires : goal.named_if_held-requires
named_if_held-requires c = omega arith

pub loop-m-preserved : goal.loop-m-preserved
loop-m-preserved c =
    let a = c.args in
    let l = c.loop-m in
    let named = c.named_if_held in (
      collect_more (named_if_held (rooms_in a.messages.now)) l.m l.names named.result c.union-names.result l.invariant.0 named.ensures c.union-names.ensures,
      omega (arith, c.loop-m-test.true),
    )

pub returns : goal.returns
returns c =
    let a = c.args in
    let l = c.loop-m in
    let all : l.m ≡ room_count a.messages.now = omega arith in
    subst (λ (n : ℕ). Collects (named_if_held (rooms_in a.messages.now)) n l.names) all l.invariant.0
