use mathlib.Core.Path.{sym, subst, ◌∙◌}
use mathlib.Core.Bool.{Bool}
use borrow.Author.Tests.{eq-eqb, ne_eqb}
use Rattle.lines.specs.Parts.{Walked}
use mathlib.Core.List.{List}
use Prim.Native.Nat.{ℕ, ◌+◌, ◌*◌}
use native.Mathlib.Omega.{arith}
use Rattle.carts.specs.View.{carts_in}
use Rattle.messages.specs.View.{rooms_in}
use Rattle.lines.specs.Lines.{registers_in}
use Rattle.lines.proofs.Formed.{sized_of}
use Rattle.lines.proofs.Test as chains
use Rattle.form_lines.specs.Said.{said_on}
use Rattle.form_lines.specs.Pass.{along}
use Rattle.form_lines.specs.Ways.{met_of}
use Rattle.form_lines.proofs.StepLaws as steps
use Rattle.form_lines.proofs.along.Goals as goal

pub overflow_mul-line : goal.overflow_mul-line
overflow_mul-line c = omega arith

pub overflow_add-line : goal.overflow_add-line
overflow_add-line c = omega arith

pub row_count-rows-requires : goal.row_count-rows-requires
row_count-rows-requires c =
    let w : List ℕ = c.args.lines.now in
    omega (arith, (sized_of w c.requires.4).0)

pub length_of-left-requires : goal.length_of-left-requires
length_of-left-requires c =
    let w : List ℕ = c.args.lines.now in
    omega (arith, (sized_of w c.requires.4).0)

pub head_of-row-requires : goal.head_of-row-requires
head_of-row-requires c =
    let w : List ℕ = c.args.lines.now in
    omega (arith, (sized_of w c.requires.4).0)

pub tail_of-last-requires : goal.tail_of-last-requires
tail_of-last-requires c =
    let w : List ℕ = c.args.lines.now in
    omega (arith, (sized_of w c.requires.4).0)

pub loop-left-init : goal.loop-left-init
loop-left-init c =
    let w : List ℕ = c.args.lines.now in
    let rows = c.row_count-rows in
    let m = c.length_of-left in
    let h = c.head_of-row in
    let t = c.tail_of-last in (
      c.requires.0,
      chains.walk_start w (c.args.i * 16 + c.args.j) c.args.seen.now rows.result m.result h.result t.result rows.ensures c.requires.1 m.ensures h.ensures t.ensures,
      steps.walk_start c.args.size.stations c.args.size.carts (carts_in c.args.carts.now) (rooms_in c.args.messages.now) (registers_in w) c.args.i c.args.j w m.result h.result (met_of c.args.way c.args.masks.now) m.ensures h.ensures,
    )

pub is_marked-requires : goal.is_marked-requires
is_marked-requires c =
    let w : List ℕ = c.args.lines.now in
    let a = c.loop-left in
    omega (arith, a.invariant.1.marks, a.invariant.1.all, (sized_of w c.requires.4).1)

pub mark-requires : goal.mark-requires
mark-requires c =
    let w : List ℕ = c.args.lines.now in
    let a = c.loop-left in
    omega (arith, a.invariant.1.marks, a.invariant.1.all, (sized_of w c.requires.4).1)

pub record_of-r-requires : goal.record_of-r-requires
record_of-r-requires c =
    let w : List ℕ = c.args.lines.now in
    let a = c.loop-left in
    omega (arith, a.invariant.1.all, (sized_of w c.requires.4).0)

pub meet-met-requires : goal.meet-met-requires
meet-met-requires c =
    let w : List ℕ = c.args.lines.now in
    let a = c.loop-left in
    (a.invariant.0, c.requires.2, c.requires.3, omega (arith, (sized_of w c.requires.4).0), c.requires.5, c.requires.7)

pub next_of-row-requires : goal.next_of-row-requires
next_of-row-requires c =
    let w : List ℕ = c.args.lines.now in
    let a = c.loop-left in
    omega (arith, c.if-rows-row.false, a.invariant.1.all, (sized_of w c.requires.4).0)

pub overflow_sub-left : goal.overflow_sub-left
overflow_sub-left c = omega arith

pub loop-left-smaller : goal.loop-left-smaller
loop-left-smaller c = omega arith

pub loop-left-preserved : goal.loop-left-preserved
loop-left-preserved c =
    let w : List ℕ = c.args.lines.now in
    let a = c.loop-left in
    let m = c.is_marked in
    let o = c.mark in
    let r = c.record_of-r in
    let e = c.meet-met in
    let x = c.next_of-row in (
      e.ensures.masks_len_unchanged ∙ a.invariant.0,
      chains.walk_on w (c.args.i * 16 + c.args.j) c.args.seen.now c.row_count-rows.result a.seen a.left a.row a.last a.invariant.1 c.loop-left-test.true o.new.seen m.result x.result m.ensures c.if-is_marked.false c.if-rows-row.false o.ensures o.auto.seen x.ensures,
      steps.walk_step c.args.size.stations c.args.size.carts (carts_in c.args.carts.now) (rooms_in c.args.messages.now) (registers_in w) c.args.i c.args.j w a.row a.left (met_of a.met a.masks) (met_of e.result e.new.masks) r.result x.result c.loop-left-test.true r.ensures x.ensures e.ensures.masks_after ∙ a.invariant.2,
    )

pub tail_of-requires : goal.tail_of-requires
tail_of-requires c =
    let w : List ℕ = c.args.lines.now in
    omega (arith, (sized_of w c.requires.4).0)

pub returns-then-rows-row-clause-walked : goal.returns-then-rows-row-clause-walked
returns-then-rows-row-clause-walked c =
    let w : List ℕ = c.args.lines.now in
    let a = c.loop-left in
    chains.walk_high w (c.args.i * 16 + c.args.j) c.args.seen.now c.row_count-rows.result a.seen a.left a.row a.last a.invariant.1 (omega arith) (omega arith)

pub returns-then-is_marked-clause-walked : goal.returns-then-is_marked-clause-walked
returns-then-is_marked-clause-walked c =
    let w : List ℕ = c.args.lines.now in
    let a = c.loop-left in
    let m = c.is_marked in
    chains.walk_twice w (c.args.i * 16 + c.args.j) c.args.seen.now c.row_count-rows.result a.seen a.left a.row a.last a.invariant.1 (omega arith) m.result m.ensures c.if-is_marked.true (omega arith)

pub returns-then-last-tail_of-clause-walked : goal.returns-then-last-tail_of-clause-walked
returns-then-last-tail_of-clause-walked c =
    let w : List ℕ = c.args.lines.now in
    let a = c.loop-left in
    let t = c.tail_of in
    subst (λ (r : Bool). Walked w (c.args.i * 16 + c.args.j) c.args.seen.now a.seen r) (eq-eqb a.last t.result c.if-last-tail_of.true)
    (chains.walk_end w (c.args.i * 16 + c.args.j) c.args.seen.now c.row_count-rows.result a.seen a.left a.row a.last a.invariant.1 t.result t.ensures (omega arith))

pub returns-else-last-tail_of-clause-walked : goal.returns-else-last-tail_of-clause-walked
returns-else-last-tail_of-clause-walked c =
    let w : List ℕ = c.args.lines.now in
    let a = c.loop-left in
    let t = c.tail_of in
    subst (λ (r : Bool). Walked w (c.args.i * 16 + c.args.j) c.args.seen.now a.seen r) (ne_eqb a.last t.result c.if-last-tail_of.false)
    (chains.walk_end w (c.args.i * 16 + c.args.j) c.args.seen.now c.row_count-rows.result a.seen a.left a.row a.last a.invariant.1 t.result t.ensures (omega arith))

pub returns-then-last-tail_of-clause-masks_after : goal.returns-then-last-tail_of-clause-masks_after
returns-then-last-tail_of-clause-masks_after c =
    let w : List ℕ = c.args.lines.now in
    let a = c.loop-left in (
      steps.walk_end c.args.size.stations c.args.size.carts (carts_in c.args.carts.now) (rooms_in c.args.messages.now) (registers_in w) c.args.i c.args.j w a.row a.left (met_of a.met a.masks) (along c.args.size.stations c.args.size.carts (carts_in c.args.carts.now) (rooms_in c.args.messages.now) (registers_in w) (met_of c.args.way c.args.masks.now) c.args.i c.args.j (said_on w c.args.i c.args.j)) (omega arith) a.invariant.2,
      (a.invariant.0 ∙ sym c.requires.0, a.invariant.1.marks ∙ sym c.requires.1),
    )
