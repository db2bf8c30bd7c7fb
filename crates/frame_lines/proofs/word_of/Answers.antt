-- `frame_lines::word_of` meets its contract.
use mathlib.Core.Path.{ap, ◌∙◌}
use native.Mathlib.Omega.{arith}
use Rattle.frame_lines.specs.Lines.{four_octets}
use Rattle.frame_lines.proofs.Numbers.{word_made}
use Rattle.frame_lines.proofs.word_of.Goals as goal

pub returns : goal.returns
returns c =
    let made = word_made c.args.octets.now c.told-octets (c.fits-octets 0) (c.fits-octets 1) (c.fits-octets 2) in
    (ap four_octets (c.from.ensures ∙ c.from_le_bytes.ensures) ∙ made, omega arith)
