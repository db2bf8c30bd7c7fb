-- `frame_lines::put_four` meets its contract.
use mathlib.Core.Path.{ap, ◌∙◌}
use mathlib.Core.List.{List}
use Prim.Native.Nat.{ℕ}
use Rattle.frame_lines.specs.Lines.{written}
use Rattle.frame_lines.proofs.Numbers.{four_digits}
use Rattle.frame_lines.proofs.put_four.Goals as goal

pub returns : goal.returns
returns c = c.put_word.ensures ∙ ap (λ (d : List ℕ). written c.args.out.now c.args.at d) (four_digits c.args.n c.requires.1)
