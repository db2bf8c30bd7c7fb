-- THE TURNS of the loop that moves all texts together, over the lent parts.
use mathlib.Core.Path.{◌≡◌, refl, sym, ap, ap₂, fun_ext, ◌∙◌}
use mathlib.Core.Bool.{false}
use mathlib.Core.List.{List}
use Prim.Native.Nat.{ℕ, ◌+◌, ◌≤◌, ◌<◌}
use native.Mathlib.Omega.{arith}
use lib.ListN.{length, drop}
use lib.Seq.{paste}
use Rattle.messages.specs.View.{rooms_in, with_offset}
use Rattle.store.specs.Texts.{is_stored}
use Rattle.store.specs.Layout.{used_in}
use Rattle.std.specs.Prelude.{Some, None}
use Rattle.store.specs.Moved.{Laid, Moved, lowest_from}
use Rattle.store.proofs.Looks.{stored_is_long}
use Rattle.store.proofs.Apart.{none_beyond}
use Rattle.store.proofs.Lowest.{LowestAt, lowest_found}
use Rattle.store.proofs.Moving.{Progress, nothing_moved, length_same, lowest_was, next_offset, text_moved, all_used, rooms_together, texts_same}

-- messages and store were M and S, and are M' and S'; the texts moved end at `to`
pub record Turning (h : ℕ) (M S M' S' : List ℕ) (to : ℕ) : Type 0 where
  pub from : ℕ
  pub progress : Progress h (rooms_in M) S from to (rooms_in M') S'
  pub rows : length M' ≡ length M

module _ (h : ℕ) (M S : List ℕ) (L : Laid h M) (full : length S ≡ 4096) where
  beyond : (k : ℕ) → h ≤ k → is_stored (rooms_in M) k ≡ false
  beyond = none_beyond h M L.rows

  pub first_turn : Turning h M S M S 0
  first_turn = record { from = 0; progress = nothing_moved h (rooms_in M) S; rows = refl }

  module _ (M' S' : List ℕ) (to : ℕ) (T : Turning h M S M' S' to) where
    -- the next text, of room m
    module _ (m : ℕ) (next : Some m ≡ lowest_from h (rooms_in M') to) where
      pub turns_room : m < h
      turns_room = (lowest_found h (rooms_in M') to m next).room

    -- n octets at x
    module _ (m : ℕ) (next : Some m ≡ lowest_from h (rooms_in M') to) (x n : ℕ) (ex : x ≡ (rooms_in M').offset m) (en : n ≡ (rooms_in M').length m) where
      found : LowestAt h (rooms_in M') to m
      found = lowest_found h (rooms_in M') to m next

      was : LowestAt h (rooms_in M) T.from m
      was = lowest_was h (rooms_in M) S L.right full beyond T.from to (rooms_in M') S' T.progress m found

      begin : x ≡ (rooms_in M).offset m
      begin = ex ∙ next_offset h (rooms_in M) S L.right full beyond T.from to (rooms_in M') S' T.progress m found

      octets : n ≡ (rooms_in M).length m
      octets = en ∙ length_same h (rooms_in M) S L.right full beyond T.from to (rooms_in M') S' T.progress m

      pub turns_down : to ≤ x
      turns_down = omega (arith, ex, found.there)

      pub turns_within : x + n ≤ 4096
      turns_within = omega (arith, begin, octets, (L.right m was.room was.stored).0.1)

      pub turns_long : 32 < n
      turns_long = omega (arith, octets, stored_is_long (rooms_in M) m was.stored)

      pub next_turn : (M'' S'' : List ℕ) → rooms_in M'' ≡ with_offset (rooms_in M') m to → S'' ≡ paste S' to (drop x S') n → length M'' ≡ length M' → Turning h M S M'' S'' (to + n)
      next_turn M'' S'' e d rows =
          record {
            from = x + n;
            progress = rw (begin, octets) (text_moved h (rooms_in M) S L.right full beyond T.from to (rooms_in M') S' T.progress m found (rooms_in M'') S'' e
                (d ∙ ap₂ (λ (y k : ℕ). paste S' to (drop y S') k) begin octets));
            rows = rows ∙ T.rows;
          }

    -- there is none
    pub last_turn : None ≡ lowest_from h (rooms_in M') to → (to ≡ used_in h (rooms_in M)) × Moved h M S M' S'
    last_turn none =
        let used = all_used h (rooms_in M) S L.right full beyond T.from to (rooms_in M') S' T.progress none in (
          used,
          record {
            rooms = rooms_together h (rooms_in M) S L.right full beyond T.from to (rooms_in M') S' T.progress none;
            texts = λ texts. fun_ext (texts_same h (rooms_in M) S L.right full beyond T.from to (rooms_in M') S' T.progress none texts);
            rest = ap (λ (k : ℕ). drop k S') (sym used) ∙ T.progress.rest ∙ ap (λ (k : ℕ). drop k S) used;
            rows = T.rows;
            octets = T.progress.octets;
          },
        )
