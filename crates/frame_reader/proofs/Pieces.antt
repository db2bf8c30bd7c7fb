-- CHECKING PIECE BY PIECE IS CHECKING THE WHOLE: what is found in a piece stands, and the octets behind its whole frames go before the next piece.
use mathlib.Core.Path.{◌≡◌, refl, sym, ap, ap₂, ◌∙◌, subst}
use mathlib.Core.List.{List, [], ◌∷◌, ◌++◌, append_assoc, append-nil}
use Prim.Native.Nat.{ℕ, ◌+◌, ◌-◌, ◌≤◌, ◌<◌}
use native.Mathlib.Omega.{arith}
use lib.ListN.{length, drop, length-drop}
use lib.Seq.{drop-append-le, drop-drop}
use Rattle.protocol.specs.Floor.{limits}
use Rattle.protocol.specs.Events.{Event}
use Rattle.protocol.specs.Frames.{Fields, Reading, fields_of, fields_refusal, end, refused_frame, taken, frame_of, read_at}
use Rattle.protocol.proofs.Tests.{by_lt, by_eq}
use Rattle.frames.specs.Decoded.{longest_frame}
use Rattle.frames.proofs.Laws.{text_at_most, text_right, text_cut, taken_frame, refused_frame_lem}
use Rattle.frames.proofs.Stands.{frame_stands}
use Rattle.frame_reader.specs.Checks.{Found, no_frame, whole, after, check_from, checked, Fed, found_in, joined}
use Rattle.frame_reader.proofs.Stream.{same_found, after_none, after_after, check_end, check_refused, check_taken, taken_some, taken_there, by_frames}

-- a check does not go further than the stream, and a frame has octets
abbrev Inside : List ℕ → Type 0
Inside l = ((checked l).octets ≤ length l) × ((checked l).frames ≤ (checked l).octets)

pub check_inside : (l : List ℕ) → Inside l
check_inside =
    by_frames Inside
    (λ l e. let z = ap octets (check_end l e) in let y = ap frames (check_end l e) in (omega arith, omega arith))
    (λ l r e. let z = ap octets (check_refused l r e) in let y = ap frames (check_refused l r e) in (omega arith, omega arith))
    (λ l v size e h.
    let some = taken_some l v size e in
    let there = taken_there l v size e in
    let left = length-drop size l in
    let z = ap octets (check_taken l v size e) in
    let y = ap frames (check_taken l v size e) in
    let a = h.0 in
    let b = h.1 in
    (omega arith, omega arith))
  where
    octets : Found → ℕ
    octets f = f.octets

    frames : Found → ℕ
    frames f = f.frames

-- A PIECE OF A STREAM: what is found in it, and then what is found in the octets that it leaves with those that follow
module _ (q : List ℕ) where
  abbrev Splits : List ℕ → Type 0
  Splits p = checked (p ++ q) ≡ after (checked p) (checked (drop (checked p).octets p ++ q))

  none_splits : (p : List ℕ) (r : ℕ) → checked p ≡ no_frame r → Splits p
  none_splits p r e = after_none r (checked (p ++ q)) ∙ ap (λ (f : Found). after f (checked (drop f.octets p ++ q))) (sym e)

  taken_splits : (p : List ℕ) (v : Event) (size : ℕ) → frame_of limits p ≡ taken v size → Splits (drop size p) → Splits p
  unfolding read_at
  taken_splits p v size e h =
      let same : frame_of limits (p ++ q) ≡ taken v size =
      frame_stands p q (λ z. (let y : ◌≡◌ {A = ℕ} 0 1 = cc (sym e ∙ z) in omega arith)) (λ z. (let y : ◌≡◌ {A = ℕ} 0 1 = cc (sym e ∙ z) in omega arith)) ∙ e in
      let apart : drop size (p ++ q) ≡ drop size p ++ q = drop-append-le size p q (taken_there p v size e) in
      let found = checked (drop size p) in
      let left : drop found.octets (drop size p) ≡ drop (size + found.octets) p = drop-drop found.octets size p in
      check_taken (p ++ q) v size same
      ∙ ap (λ (l : List ℕ). after (whole 1 size) (checked l)) apart
      ∙ ap (after (whole 1 size)) h
      ∙ sym (after_after (whole 1 size) found (checked (drop found.octets (drop size p) ++ q)))
      ∙ ap (λ (l : List ℕ). after (after (whole 1 size) found) (checked (l ++ q))) left
      ∙ ap (λ (f : Found). after f (checked (drop f.octets p ++ q))) (sym (check_taken p v size e))

  pub splits : (p : List ℕ) → checked (p ++ q) ≡ after (checked p) (checked (drop (checked p).octets p ++ q))
  splits = by_frames Splits (λ p e. none_splits p 0 (check_end p e)) (λ p r e. none_splits p r (check_refused p r e)) taken_splits

-- WHERE A CHECK STOPS: at the end, or at a frame that is refused with the number that it found
abbrev pub Stops : Reading → ℕ → Type 0
Stops end n = n ≡ 0
Stops (refused_frame r) n = n ≡ r
Stops (taken e size) n = ⊥

abbrev StopsBehind : List ℕ → Type 0
StopsBehind l = Stops (frame_of limits (drop (checked l).octets l)) (checked l).refusal

none_stops : (l : List ℕ) (r : ℕ) → checked l ≡ no_frame r → Stops (frame_of limits l) r → StopsBehind l
none_stops l r e h = subst (λ (f : Found). Stops (frame_of limits (drop f.octets l)) f.refusal) (sym e) h

taken_stops : (l : List ℕ) (v : Event) (size : ℕ) → frame_of limits l ≡ taken v size → StopsBehind (drop size l) → StopsBehind l
taken_stops l v size e h =
    let found = checked (drop size l) in
    subst (λ (f : Found). Stops (frame_of limits (drop f.octets l)) f.refusal) (sym (check_taken l v size e))
    (subst (λ (k : List ℕ). Stops (frame_of limits k) found.refusal) (drop-drop found.octets size l) h)

pub stops_behind : (l : List ℕ) → Stops (frame_of limits (drop (checked l).octets l)) (checked l).refusal
stops_behind = by_frames StopsBehind
    (λ l e. none_stops l 0 (check_end l e) (subst (λ (r : Reading). Stops r 0) (sym e) refl))
    (λ l r e. none_stops l r (check_refused l r e) (subst (λ (x : Reading). Stops x r) (sym e) refl))
    taken_stops

-- a frame that is refused for what it says, and not because it is cut, is refused whatever follows: the rest of the stream need not be read
pub stands : (p q : List ℕ) → ((checked p).refusal ≡ 0 → ⊥) → ((checked p).refusal ≡ 1 → ⊥) → checked (p ++ q) ≡ checked p
unfolding read_at
stands p q some whole = splits q p ∙ ap (after (checked p)) (by (frame_of limits left) refl (stops_behind p)) ∙ same_found (omega arith) (omega arith) refl
  where
    left : List ℕ
    left = drop (checked p).octets p

    by : (r : Reading) → frame_of limits left ≡ r → Stops r (checked p).refusal → checked (left ++ q) ≡ no_frame (checked p).refusal
    by end e h = absurd (some h)
    by (refused_frame r) e h =
        check_refused (left ++ q) (checked p).refusal
        (frame_stands left q (λ z. (let y : ◌≡◌ {A = ℕ} 0 1 = cc (sym e ∙ z) in omega arith))
        (λ z. whole (let y : refused_frame r ≡ refused_frame 1 = sym e ∙ z in h ∙ cc))
        ∙ e ∙ ap refused_frame (sym h))
    by (taken v size) e h = absurd h

-- WHAT IS KEPT IS SHORT: a frame that is only cut has fewer octets than the longest
short_front : (l : List ℕ) (n : ℕ) → Stops (frame_of limits l) n → n ≤ 1 → length l < longest_frame
unfolding read_at
short_front l n h k =
    by_lt (length l) 16 (λ s. omega arith)
    (λ s. by_eq r 0
    (λ z. absurd (subst (λ (x : Reading). Stops x n) (sym (taken_frame l 0 f (omega arith) refl (sym z))) h))
    (λ z.
    let same : n ≡ r = subst (λ (x : Reading). Stops x n) (sym (refused_frame_lem l 0 f (omega arith) refl r refl z)) h in
    let cut = text_cut f (length l - 0 - 16) (omega arith) in
    let most = text_at_most f (text_right f (length l - 0 - 16) (omega arith)) in
    omega arith))
  where
    f : Fields
    f = fields_of l

    r : ℕ
    r = fields_refusal limits f (length l - 0 - 16)

pub short_left : (l : List ℕ) → (checked l).refusal ≤ 1 → length (drop (checked l).octets l) < longest_frame
short_left l = short_front (drop (checked l).octets l) (checked l).refusal (stops_behind l)

-- PIECE BY PIECE: before the first piece; with one piece more; and all pieces
pub fed_none : Fed [] [] (no_frame 0)
unfolding check_from
fed_none = record { found = refl; rest = refl }

pub fed_more : (all kept piece : List ℕ) (f : Found) → Fed all kept f
    → Fed (all ++ piece) (drop (checked (kept ++ piece)).octets (kept ++ piece)) (after f (checked (kept ++ piece)))
fed_more all kept piece f h = record {
  found = ap₂ (λ (g : Found) (k : List ℕ). after g (checked (k ++ piece))) h.found h.rest ∙ sym (splits piece all);
  rest =
      ap (λ (k : List ℕ). drop (checked (k ++ piece)).octets (k ++ piece)) h.rest
      ∙ ap (drop more.octets) (sym (drop-append-le (checked all).octets all piece (check_inside all).0))
      ∙ drop-drop more.octets (checked all).octets (all ++ piece)
      ∙ ap (λ (g : Found). drop g.octets (all ++ piece)) (sym (splits piece all));
}
  where
    more : Found
    more = checked (drop (checked all).octets all ++ piece)

fed_on : (pieces : List (List ℕ)) (all kept : List ℕ) (f : Found) → Fed all kept f → found_in f kept pieces ≡ checked (all ++ joined pieces)
unfolding found_in joined
fed_on [] all kept f h = h.found ∙ ap checked (sym (append-nil all))
fed_on (piece ∷ pieces) all kept f h =
    fed_on pieces (all ++ piece) _ _ (fed_more all kept piece f h) ∙ ap checked (append_assoc all piece (joined pieces))

-- however a stream is cut into pieces, what is found piece by piece is what is found in the whole
pub piece_by_piece : (pieces : List (List ℕ)) → found_in (no_frame 0) [] pieces ≡ checked (joined pieces)
piece_by_piece pieces = fed_on pieces [] [] (no_frame 0) fed_none
