-- `form_lines::meet` meets its contract.
use mathlib.Core.Path.{refl, sym, ◌∙◌}
use Rattle.protocol.proofs.Tests.{and_right}
use Rattle.carts.specs.View.{carts_in}
use Rattle.messages.specs.View.{rooms_in}
use Rattle.lines.specs.Lines.{registers_in}
use Rattle.form_lines.specs.Said.{said}
use Rattle.form_lines.specs.Ways.{met_of}
use Rattle.form_lines.proofs.StepLaws.{right_inside, meets}
use Rattle.form_lines.proofs.meet.Goals as goal

pub take-requires : goal.take-requires
take-requires c =
    let a = c.args in
    let r = c.is_right-right in (
      c.requires.0,
      λ t. right_inside a.size.stations a.size.carts (carts_in a.carts.now) (rooms_in a.messages.now) (registers_in a.lines.now) a.i a.j (said a.r) c.requires.4
          (sym (r.ensures a.size.stations) ∙ and_right _ r.result t),
    )

pub returns : goal.returns
returns c =
    let a = c.args in
    let r = c.is_right-right in
    let t = c.take in
    record {
      masks_after = meets a.size.stations a.size.carts (carts_in a.carts.now) (rooms_in a.messages.now) (registers_in a.lines.now) a.i a.j (met_of a.way a.masks.now) (met_of t.result t.new.masks) (said a.r)
          _ _ r.result _ refl refl (r.ensures a.size.stations) refl t.ensures.masks_after;
      masks_len_unchanged = t.ensures.masks_len_unchanged;
    }
