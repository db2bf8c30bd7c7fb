-- THE CHECK OF A STREAM: from frame to frame, and from piece to piece.
use mathlib.Core.Path.{◌≡◌, refl, sym, ap, ◌∙◌}
use mathlib.Core.Bool.{Bool, true, false, cond}
use mathlib.Core.List.{List, [], ◌∷◌}
use Prim.Native.Nat.{ℕ, zero, suc, ◌+◌, ◌≤◌, ◌<◌}
use native.Mathlib.Omega.{arith}
use lib.Dec.{eqb}
use lib.ListN.{length, drop, length-drop}
use lib.Seq.{drop-drop}
use Rattle.protocol.specs.Folds.{is_empty}
use Rattle.protocol.specs.Floor.{limits}
use Rattle.protocol.specs.Events.{Event}
use Rattle.protocol.specs.Frames.{Reading, fields_of, text_length, frame_refusal, end, refused_frame, taken, frame_of, read_at, moved_to}
use Rattle.frames.proofs.Values.{taken_inside}
use Rattle.frames.specs.Decoded.{refusal_number}
use Rattle.frame_reader.specs.Checks.{Found, no_frame, whole, after, check_from, checked}

-- WHAT IS FOUND

pub same_found : {a b c x y z : ℕ} → a ≡ x → b ≡ y → c ≡ z
    → ◌≡◌ {A = Found} (record { frames = a; octets = b; refusal = c }) (record { frames = x; octets = y; refusal = z })
same_found p q r = λ i. record { frames = p i; octets = q i; refusal = r i }

-- nothing, and then a check
pub after_none : (r : ℕ) (f : Found) → f ≡ after (no_frame r) f
after_none r f = same_found (omega arith) (omega arith) refl

pub after_after : (f g h : Found) → after (after f g) h ≡ after f (after g h)
after_after f g h = same_found (omega arith) (omega arith) refl

-- FROM FRAME TO FRAME

-- a frame has sixteen octets at least
pub taken_some : (l : List ℕ) (e : Event) (n : ℕ) → frame_of limits l ≡ taken e n → 16 ≤ n
unfolding frame_of
taken_some l e n q = by (is_empty l) (eqb (frame_refusal limits l) 0) _ (text_length (fields_of l)) (frame_refusal limits l) q
  where
    by : (a b : Bool) (x : Event) (k r : ℕ) → cond a end (cond b (taken x (16 + k)) (refused_frame r)) ≡ taken e n → 16 ≤ n
    by true b x k r q = absurd (let z : ◌≡◌ {A = ℕ} 0 1 = cc q in omega arith)
    by false true x k r q = let z : 16 + k ≡ n = cc q in omega arith
    by false false x k r q = absurd (let z : ◌≡◌ {A = ℕ} 0 1 = cc q in omega arith)

-- and its octets are there
pub taken_there : (l : List ℕ) (e : Event) (n : ℕ) → frame_of limits l ≡ taken e n → n ≤ length l
unfolding read_at
taken_there l e n q = let z = (taken_inside l 0 e n q).0 in omega arith

-- the same of a frame at a place
pub read_some : (l : List ℕ) (at : ℕ) (e : Event) (n : ℕ) → read_at limits l at ≡ taken e n → 16 ≤ n
unfolding read_at
read_some l at e n q = taken_some (drop at l) e n q

-- looking at as many frames as there are octets is enough
enough : (n m : ℕ) (l : List ℕ) → length l ≤ n → length l ≤ m → check_from n l ≡ check_from m l
unfolding check_from frame_of
enough zero zero l h k = refl
enough zero (suc m) [] h k = refl
enough zero (suc m) (x ∷ l) h k = absurd (omega arith)
enough (suc n) zero [] h k = refl
enough (suc n) zero (x ∷ l) h k = absurd (omega arith)
enough (suc n) (suc m) l h k = by (frame_of limits l) refl (λ size. enough n m (drop size l))
  where
    by : (r : Reading) → frame_of limits l ≡ r → ((size : ℕ) → length (drop size l) ≤ n → length (drop size l) ≤ m → check_from n (drop size l) ≡ check_from m (drop size l))
        → check_from (suc n) l ≡ check_from (suc m) l
    by end e g = rw (e, check_from) refl
    by (refused_frame r) e g = rw (e, check_from) refl
    by (taken v size) e g =
        let some = taken_some l v size e in
        let left = length-drop size l in
        rw (e, check_from) (ap (after (whole 1 size)) (g size (omega arith) (omega arith)))

-- by what stands at the front
module _ (l : List ℕ) where
  one_more : checked l ≡ check_from (suc (length l)) l
  one_more = enough (length l) (suc (length l)) l (omega arith) (omega arith)

  pub check_end : frame_of limits l ≡ end → checked l ≡ no_frame 0
  unfolding check_from
  check_end e = one_more ∙ rw (e, check_from) refl

  pub check_refused : (r : ℕ) → frame_of limits l ≡ refused_frame r → checked l ≡ no_frame r
  unfolding check_from
  check_refused r e = one_more ∙ rw (e, check_from) refl

  pub check_taken : (v : Event) (size : ℕ) → frame_of limits l ≡ taken v size → checked l ≡ after (whole 1 size) (checked (drop size l))
  unfolding check_from
  check_taken v size e =
      let some = taken_some l v size e in
      let left = length-drop size l in
      one_more ∙ rw (e, check_from) (ap (after (whole 1 size)) (enough (length l) (length (drop size l)) (drop size l) (omega arith) (omega arith)))

-- where the reader does not move, no frame is found, and the number is that of what stands there
pub check_none : (l : List ℕ) (at : ℕ) → moved_to at (frame_of limits l) ≤ at → checked l ≡ no_frame (refusal_number (frame_of limits l))
check_none l at = by (frame_of limits l) refl
  where
    by : (r : Reading) → frame_of limits l ≡ r → moved_to at r ≤ at → checked l ≡ no_frame (refusal_number r)
    by end e h = check_end l e
    by (refused_frame n) e h = check_refused l n e
    by (taken v size) e h = absurd (let some = taken_some l v size e in omega arith)

-- a claim of every stream, from frame to frame
module _ (P : List ℕ → Type 0) (at_end_lem : (l : List ℕ) → frame_of limits l ≡ end → P l) (at_refused : (l : List ℕ) (r : ℕ) → frame_of limits l ≡ refused_frame r → P l)
    (at_taken : (l : List ℕ) (v : Event) (size : ℕ) → frame_of limits l ≡ taken v size → P (drop size l) → P l) where
  below : (n : ℕ) (l : List ℕ) → length l ≤ n → P l
  unfolding frame_of
  below zero [] h = at_end_lem [] refl
  below zero (x ∷ l) h = absurd (omega arith)
  below (suc n) l h = by (frame_of limits l) refl (λ size. below n (drop size l))
    where
      by : (r : Reading) → frame_of limits l ≡ r → ((size : ℕ) → length (drop size l) ≤ n → P (drop size l)) → P l
      by end e g = at_end_lem l e
      by (refused_frame r) e g = at_refused l r e
      by (taken v size) e g = at_taken l v size e (g size (let some = taken_some l v size e in let left = length-drop size l in omega arith))

  pub by_frames : (l : List ℕ) → P l
  by_frames l = below (length l) l (omega arith)

-- THE WALK: a reader stands behind the whole frames that it has passed
pub record Stand (l : List ℕ) : Type 0 where
  pub frames : ℕ
  pub at : ℕ
  pub rest : after (whole frames at) (checked (drop at l)) ≡ checked l
  pub few : frames ≤ at
  pub inside : at ≤ length l

-- where it stands next
abbrev pub next : {l : List ℕ} → Stand l → ℕ
next {l} t = moved_to t.at (read_at limits l t.at)

module _ (l : List ℕ) where
  abbrev pub first : Stand l
  first = record { frames = 0; at = 0; rest = sym (after_none 0 (checked l)); few = omega arith; inside = omega arith }

  module _ (t : Stand l) where
    pub next_inside : next t ≤ length l
    unfolding read_at
    next_inside = by (frame_of limits (drop t.at l)) refl
      where
        by : (r : Reading) → frame_of limits (drop t.at l) ≡ r → moved_to t.at r ≤ length l
        by end e = t.inside
        by (refused_frame r) e = t.inside
        by (taken v size) e = (taken_inside l t.at v size e).0

    pub passed : t.at < next t → after (whole (t.frames + 1) (next t)) (checked (drop (next t) l)) ≡ checked l
    unfolding read_at
    passed = by (frame_of limits (drop t.at l)) refl
      where
        by : (r : Reading) → frame_of limits (drop t.at l) ≡ r → t.at < moved_to t.at r
            → after (whole (t.frames + 1) (moved_to t.at r)) (checked (drop (moved_to t.at r) l)) ≡ checked l
        by end e h = absurd (omega arith)
        by (refused_frame r) e h = absurd (omega arith)
        by (taken v size) e h =
            let now = whole t.frames t.at in
            let behind = checked (drop (t.at + size) l) in
            let more : checked (drop t.at l) ≡ after (whole 1 size) behind =
            check_taken (drop t.at l) v size e ∙ ap (λ (k : List ℕ). after (whole 1 size) (checked k)) (drop-drop size t.at l) in
            after_after now (whole 1 size) behind ∙ ap (after now) (sym more) ∙ t.rest

    -- a reader that moves has passed a whole frame
    abbrev pub further : t.at < next t → Stand l
    further h = record { frames = t.frames + 1; at = next t; rest = passed h; few = let z = t.few in omega arith; inside = next_inside }

    -- a reader that does not move has come to the end of the check
    pub no_further : next t ≤ t.at → (r : ℕ) → r ≡ refusal_number (read_at limits l t.at)
        → ◌≡◌ {A = Found} (record { frames = t.frames; octets = t.at; refusal = r }) (checked l)
    unfolding read_at
    no_further h r e =
        let none = check_none (drop t.at l) t.at h in
        same_found (omega arith) (omega arith) e ∙ ap (after (whole t.frames t.at)) (sym none) ∙ t.rest
