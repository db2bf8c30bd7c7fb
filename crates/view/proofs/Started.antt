-- THE FLOOR THAT A START LEAVES: all parts written afresh.
use mathlib.Core.Path.{◌≡◌, refl, sym, ap, ◌∙◌}
use mathlib.Core.Bool.{Bool, true, false}
use mathlib.Core.List.{List}
use Prim.Native.Nat.{ℕ, ◌+◌, ◌*◌}
use Rattle.protocol.specs.CartSets.{set_of}
use Rattle.protocol.specs.Floor.{Product, Carts, local_to, outside, just_started}
use Rattle.protocol.proofs.SetLaws.{has_zero, has_set_of, set_of_lt, zero_below, same_members}
use Rattle.stations.specs.View.{Stations, head, no_groups, head_in, stations_in, no_stations}
use Rattle.carts.specs.View.{carts_in, canonical_in, no_carts}
use Rattle.messages.specs.View.{rooms_in, no_rooms}
use Rattle.store.specs.Texts.{text_of}
use Rattle.store.proofs.Sent.{none_laid}
use Rattle.lines.specs.Post.{Cleared}
use Rattle.view.specs.Records.{lines_in}
use Rattle.view.specs.View.{Lent, lent, lengths_in, words_in, floor_of, floor_in}
use Rattle.view.proofs.LinesView.{line_below, clear_view}
use Rattle.view.proofs.Lengths.{Lengths, lengths_right_lem}
use Rattle.view.proofs.Laid.{Laid, words_right_lem}

-- nobody is local anywhere
nobody : (t : ℕ) → set_of 64 (λ c. local_to outside t) ≡ 0
nobody t = same_members 64 (set_of 64 (λ c. false)) 0 (set_of_lt 64 (λ c. false)) (zero_below 64) (λ c l. has_set_of 64 (λ c. false) c l ∙ sym (has_zero c))

module _ {P : Product} (S C M W₀ W T O : List ℕ) (n k : ℕ)
    (top : head_in S ≡ head 1 n k no_groups) (no_stations_lem : stations_in S ≡ no_stations) (no_carts_lem : carts_in C ≡ no_carts) (canonical : canonical_in C ≡ (λ c. true))
    (no_rooms_lem : rooms_in M ≡ no_rooms) (cleared : Cleared W₀ W) (sizes : Lengths (lent P S C M W T O)) where
  abbrev L : Lent
  L = lent P S C M W T O

  pub laid_start : Laid L
  laid_start =
      record {
        chains = cleared.formed;
        canonical = λ c l. ap (λ (f : ℕ → Bool). f c) canonical;
        local = λ t l. ap (λ (X : Stations). X.local t) no_stations_lem ∙ sym (ap (λ (X : Carts). set_of 64 (λ c. local_to (X.place c) t)) no_carts_lem ∙ nobody t);
        texts = (none_laid P.held M sizes.messages no_rooms_lem).right;
        few = λ t m lt lm l. (ap (λ (X : Stations). X.copy m t) no_stations_lem, ap (λ (X : Stations). X.queue m t) no_stations_lem);
        rooms = λ i j li lj. rw (cleared.empty (i * 16 + j) (line_below i j li lj)) refl;
      }

  -- "it writes all the rest afresh"
  pub start_view : floor_in L ≡ just_started n k
  unfolding text_of
  start_view =
      (λ i. floor_of (lengths_in L) (words_in L) (top i) (no_stations_lem i) (no_carts_lem i) (no_rooms_lem i) (text_of T O (no_rooms_lem i)) (lines_in W))
      ∙ (λ i. floor_of (lengths_right_lem L sizes i) (words_right_lem L laid_start i) (head 1 n k no_groups) no_stations no_carts no_rooms (text_of T O no_rooms) (clear_view W₀ W cleared i))
