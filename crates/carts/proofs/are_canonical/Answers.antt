-- `carts::are_canonical` meets its contract.
use mathlib.Core.Path.{sym, ap, ◌∙◌}
use Prim.Native.Nat.{ℕ}
use Rattle.carts.specs.Words.{canonical}
use Rattle.carts.proofs.TableLaws.{no_digit, moving_canonical}
use Rattle.carts.proofs.are_canonical.Goals as goal

pub returns-in-0 : goal.returns-in-0
returns-in-0 c = no_digit c.args.s c.args.t ∙ sym (ap (λ (k : ℕ). canonical k c.args.s c.args.t) c.in-0.is)

pub returns-in-1 : goal.returns-in-1
returns-in-1 c = sym (ap (λ (k : ℕ). canonical k c.args.s c.args.t) c.in-1.is)

pub returns-in_default : goal.returns-in_default
returns-in_default c = moving_canonical c.args.kind c.args.s c.args.t c.in_default.in_default-own.rest.0.1 c.in_default.in_default-own.rest.1
