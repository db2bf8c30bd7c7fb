use mathlib.Core.Path.{refl, ap, ◌∙◌}
use native.Mathlib.Omega.{arith}
use lib.ListN.{get_or}
use Rattle.carts.specs.View.{carts_in, with_next}
use Rattle.carts.proofs.TableLaws.{write_none, write_one, write_all, next_beyond}
use Rattle.carts.proofs.put_row.Goals as goal

pub loop-i-init : goal.loop-i-init
loop-i-init c = (omega arith, refl, write_none (carts_in c.args.carts.now) c.args.number.0 c.args.row, refl)

pub loop-i-preserved : goal.loop-i-preserved
loop-i-preserved c =
    let a = c.args in
    let l = c.loop-i in
    let p = c.put_next in (
      omega arith,
      p.ensures.carts_len_unchanged ∙ l.invariant.1,
      p.ensures.carts_after ∙ ap (λ C. with_next C a.number.0 l.i (get_or a.row l.i 0)) l.invariant.2 ∙ write_one (carts_in a.carts.now) a.number.0 a.row l.i,
      p.ensures.carts_unchanged ∙ l.invariant.3,
    )

pub returns : goal.returns
returns c =
    let a = c.args in
    let l = c.loop-i in
    record {
      carts_after = l.invariant.2 ∙ write_all (carts_in a.carts.now) a.number.0 a.row 16 l.i (omega arith) (omega arith) (next_beyond a.carts.now);
      carts_unchanged = l.invariant.3;
      carts_len_unchanged = l.invariant.1;
    }
