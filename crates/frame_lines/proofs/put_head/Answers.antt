-- `frame_lines::put_head` meets its contract.
use native.Mathlib.Omega.{arith}
use borrow.Author.Tests.{not-false}
use Rattle.frame_lines.proofs.Octets.{wrote_then, began_all, began_more, began_wider}
use Rattle.frame_lines.proofs.Fields.{four_joined}
use borrow.Author.Rules.{rules}
use mathlib.Core.Bool.{not}
use mathlib.Core.Path.{ap}
use Rattle.frame_lines.proofs.put_head.Goals as goal

pub returns-then-not-are_short : goal.returns-then-not-are_short
returns-then-not-are_short c =
    let s = c.args.r in
    let w = wrote_then (omega arith) c.put_two_fields-a.ensures c.put_two_fields.ensures in
    four_joined s.kind s.a s.b s.effect.passed (began_all 3 (let z = w.few in omega arith) w)

pub put_one-kind-requires : goal.put_one-kind-requires
put_one-kind-requires c =
    let short = c.are_short.ensures (not-false _ (ap not c.if-not-are_short.false)) in
    search rules

pub put_short-a-requires : goal.put_short-a-requires
put_short-a-requires c =
    let short = c.are_short.ensures (not-false _ (ap not c.if-not-are_short.false)) in
    search rules

pub put_short-b-requires : goal.put_short-b-requires
put_short-b-requires c =
    let short = c.are_short.ensures (not-false _ (ap not c.if-not-are_short.false)) in
    search rules

pub put_short-requires : goal.put_short-requires
put_short-requires c =
    let short = c.are_short.ensures (not-false _ (ap not c.if-not-are_short.false)) in
    search rules

pub returns : goal.returns
returns c =
    let kind = began_all 3 (omega (arith, c.put_one-kind.ensures.few, c.requires.0)) c.put_one-kind.ensures in
    began_wider (omega arith) (began_more (began_more (began_more kind c.put_short-a.ensures) c.put_short-b.ensures) c.put_short.ensures)
