-- HOW MANY OCTETS THE TEXT OF A HELD MESSAGE HAS: as many as its row says.
use mathlib.Core.Path.{◌≡◌, sym, ap, ◌∙◌}
use mathlib.Core.List.{List}
use Prim.Native.Nat.{ℕ, ◌*◌, ◌≤◌}
use lib.ListN.{length, take, drop}
use lib.Seq.{take-length}
use Rattle.messages.specs.View.{rooms_in}
use Rattle.messages.specs.Texts.{longest, text_in}
use Rattle.messages.proofs.TextLaws.{length_text}
use Rattle.store.specs.Texts.{HasParts, text_of}
use Rattle.store.proofs.TextLaws.{by_text, short_text}
use Rattle.store.proofs.Counted.{long_length}

module _ (M T O : List ℕ) (m : ℕ) (parts : HasParts M T O m) (held : (rooms_in M).waiting m ≡ 0 → ⊥) where
  abbrev n : ℕ
  n = (rooms_in M).length m

  pub held_length : length (text_of T O (rooms_in M) m) ≡ n
  held_length =
      by_text (rooms_in M) m
      (λ free. absurd (held free))
      (λ _ short. ap length (short_text T O (rooms_in M) m held short) ∙ length_text T n m parts.short short)
      (λ s. long_length T O (rooms_in M) m s (parts.long s))

  -- so the first so many are all of them
  pub whole_text : (size : ℕ) → size ≡ n → take size (text_of T O (rooms_in M) m) ≡ text_of T O (rooms_in M) m
  whole_text size e = ap (λ (k : ℕ). take k (text_of T O (rooms_in M) m)) (e ∙ sym held_length) ∙ take-length (text_of T O (rooms_in M) m)

  -- a short one is at the front of its room's part
  pub front_text : n ≤ longest → text_of T O (rooms_in M) m ≡ take n (drop (m * longest) T)
  unfolding text_in
  front_text short = short_text T O (rooms_in M) m held short
