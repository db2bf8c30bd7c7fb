-- `frames::halves_at` meets its contract.
use mathlib.Core.Path.{ap, sym, subst, ◌∙◌}
use mathlib.Core.List.{List}
use Prim.Native.Nat.{ℕ, ◌+◌, ◌<◌}
use native.Mathlib.Omega.{arith}
use lib.ListN.{take, drop, length-drop}
use lib.Seq.{drop-drop, get_or-drop}
use Rattle.protocol.specs.Frames.{big_endian}
use Rattle.frames.proofs.Laws.{fields_made}
use Rattle.frames.proofs.halves_at.Goals as goal

pub returns : goal.returns
returns c =
    let a = c.args in
    let l = a.octets.now in
    let sizes = length-drop a.at l in
    fields_made (drop a.at l) _ (omega arith)
    (λ k. subst (λ (n : ℕ). n < 256) (sym (get_or-drop a.at l k 0)) (c.type_inv.octets (a.at + k)).fits)
    c.word_at.ensures
    (c.word_at-2.ensures ∙ ap (λ (k : List ℕ). big_endian 0 (take 8 k)) (sym (drop-drop 8 a.at l)))
