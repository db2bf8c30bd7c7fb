-- `training_rows::call_at` meets its contract.
use mathlib.Core.Path.{◌∙◌}
use Rattle.training_rows.specs.Calls.{words, call_of}
use Rattle.training_rows.proofs.call_at.Goals as goal

pub returns : goal.returns
returns c = c.call_of.ensures ∙ (λ i. call_of (words (c.word_at.ensures i) (c.word_at-2.ensures i) (c.word_at-3.ensures i) (c.word_at-4.ensures i) (c.word_at-5.ensures i)))
