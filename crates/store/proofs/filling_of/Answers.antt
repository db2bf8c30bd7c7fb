use mathlib.Core.Path.{◌≡◌, refl, sym, ap, ap₂, ◌∙◌}
use Prim.Native.Nat.{ℕ, ◌+◌, max}
use native.Mathlib.Omega.{arith}
use Rattle.protocol.specs.Folds.{sum}
use Rattle.messages.specs.View.{rooms_in}
use Rattle.store.specs.Layout.{used_in, end_in}
use Rattle.store.proofs.Taken.{used_one, end_one}
use Rattle.store.proofs.Fits.{texts_fit, first_fit}
use Rattle.store.proofs.Room.{end_within}
use Rattle.store.proofs.filling_of.Goals as goal

pub loop-m-init : goal.loop-m-init
unfolding sum end_in
loop-m-init c = (omega arith, refl, refl)

pub overflow_add-octets : goal.overflow_add-octets
overflow_add-octets c =
    let a = c.args in
    let R = rooms_in a.messages.now in
    let l = c.loop-m in
    omega (arith, l.invariant.1, c.taken_by-octets.ensures, used_one l.m R, first_fit a.held R c.requires.right (l.m + 1) (omega arith))

pub loop-m-preserved : goal.loop-m-preserved
loop-m-preserved c =
    let R = rooms_in c.args.messages.now in
    let l = c.loop-m in (
      omega arith,
      ap₂ (λ (x y : ℕ). x + y) l.invariant.1 c.taken_by-octets.ensures ∙ sym (used_one l.m R),
      c.max-end.ensures ∙ ap₂ max l.invariant.2 c.end_of.ensures ∙ sym (end_one l.m R),
    )

pub returns : goal.returns
returns c =
    let a = c.args in
    let R = rooms_in a.messages.now in
    let l = c.loop-m in
    let all : l.m ≡ a.held = omega arith in
    let octets = l.invariant.1 ∙ ap (λ (k : ℕ). used_in k R) all in
    let end = l.invariant.2 ∙ ap (λ (k : ℕ). end_in k R) all in
    record {
      octets_are = octets;
      end_is = end;
      few_octets = omega (arith, octets, texts_fit a.held R c.requires.right);
      end_within = omega (arith, end, end_within a.held R c.requires.right a.held (omega arith));
    }
