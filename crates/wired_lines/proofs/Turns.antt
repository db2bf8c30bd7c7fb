-- ONE STATION MORE: the turns of the loop that puts a record on the line to every station.
use mathlib.Core.Path.{◌≡◌, refl, ap, ◌∙◌}
use mathlib.Core.Bool.{true}
use mathlib.Core.List.{List, [], ◌∷◌, ◌++◌}
use Prim.Native.Nat.{ℕ, ◌+◌, ◌*◌, ◌<◌}
use native.Mathlib.Omega.{arith}
use Rattle.protocol.proofs.Tests.{by_eq}
use Rattle.lines.specs.declared.Record.{Record}
use Rattle.lines.specs.Form.{form}
use Rattle.lines.specs.Post.{Pushed}
use Rattle.wired_lines.specs.ToEvery.{PushedToEvery}

-- to none
pub to_none : (l : List ℕ) (s : ℕ) (r : Record) → form l ≡ true → PushedToEvery l l s 0 r
to_none l s r h =
    record { formed = h; line = λ j lt. absurd (omega arith); others = λ k lt q. refl; registers = refl; more = omega arith; room = refl; words = refl }

-- to one more
pub to_one_more : (l k l' : List ℕ) (s n : ℕ) (r : Record) → s < 16 → n < 16 → PushedToEvery l k s n r → Pushed k l' (s * 16 + n) r → PushedToEvery l l' s (n + 1) r
to_one_more l k l' s n r ls ln a p =
    record {
      formed = p.formed;
      line = λ j lt. by_eq j n
          (λ q. rw q (p.line ∙ ap (λ (x : List Record). x ++ (r ∷ [])) (a.others (s * 16 + n) (omega arith) (λ i li e. omega arith))))
          (λ q. p.others (s * 16 + j) (omega arith) (λ e. q (omega arith)) ∙ a.line j (omega arith));
      others = λ i li h. p.others i li (λ e. h n (omega arith) e) ∙ a.others i li (λ j lj e. h j (omega arith) e);
      registers = p.registers ∙ a.registers;
      more = let x = p.more in let y = a.more in omega arith;
      room = p.room ∙ a.room;
      words = p.words ∙ a.words;
    }

-- to all of them
pub all_turns : (l l' : List ℕ) (s k n : ℕ) (r : Record) → k ≡ n → PushedToEvery l l' s k r → PushedToEvery l l' s n r
all_turns l l' s k n r q a = rw q at a
