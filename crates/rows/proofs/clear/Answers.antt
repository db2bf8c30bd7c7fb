-- `rows::clear` meets its contract.
use mathlib.Core.Path.{◌≡◌, ap, ◌∙◌}
use mathlib.Core.List.{List}
use Prim.Native.Nat.{ℕ}
use native.Mathlib.Omega.{arith}
use lib.ListN.{length, get_or, replicate, get_or-eq_default}
use Rattle.std.proofs.lemmas.List.{get_or-replicate}
use Rattle.protocol.proofs.Tests.{by_lt}
use Rattle.rows.proofs.clear.Goals as goal

pub returns : goal.returns
returns c =
    let n = length c.args.words.now in
    let all : c.fill.new.self ≡ replicate n 0 = c.fill.ensures.after (λ y e. e) in
    record {
      by_index = λ k. by_lt k n
          (λ l. ap (λ (ws : List ℕ). get_or ws k 0) all ∙ get_or-replicate n k 0 0 l)
          (λ l. get_or-eq_default c.fill.new.self 0 (omega (arith, l, c.fill.ensures.len)));
      words_len_unchanged = c.fill.ensures.len;
    }
