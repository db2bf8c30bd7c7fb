-- THE TEXTS' OCTETS: what is copied out of a row's octets, and into them.
use mathlib.Core.Path.{◌≡◌, sym, ap, ap₂, fun_ext, ◌∙◌}
use mathlib.Core.List.{List, ◌++◌}
use Prim.Native.Nat.{ℕ, ◌+◌, ◌-◌, ◌*◌, ◌≤◌}
use native.Mathlib.Omega.{arith}
use lib.ListN.{length, take, drop, take-append-drop, length-drop}
use lib.Seq.{length-take-le, take-length, take-append-le, drop-append-le, take_at, drop_at, drop-drop, take-take}
use borrow.Rule.Slice.PartMut.{put_mid, post_of, mid_of, take_put, drop_put}
use borrow.Author.Tests.{eq-eqb, ne_eqb}
use Rattle.protocol.specs.Folds.{update}
use Rattle.protocol.proofs.Tests.{by_lt, by_eq}
use Rattle.rows.specs.Rows.{RowIn}
use Rattle.list_rows.specs.Rows.{text_room, part_in}

-- A ROW'S TEXT IS COPIED OUT

pub text_copied : (l buffer : List ℕ) (r n e : ℕ) → RowIn text_room l r → n ≤ text_room → e ≡ r * text_room + n
    → take (length (take (e - r * text_room) (drop (r * text_room) l))) (take (e - r * text_room) (drop (r * text_room) l)) ++ drop (length (take (e - r * text_room) (drop (r * text_room) l))) buffer ≡ take n (part_in l r) ++ drop n buffer
unfolding part_in
text_copied l buffer r n e there le end =
    ap₂ (λ (x y : List ℕ). x ++ y) (take-length (part (e - r * text_room)) ∙ ap part size ∙ sym (take-take n text_room (drop (r * text_room) l) le))
    (ap (λ (k : ℕ). drop k buffer) (ap (λ (k : ℕ). length (part k)) size ∙ length-take-le n (drop (r * text_room) l) (simp length-drop (omega arith))))
  where
    part : ℕ → List ℕ
    part k = take k (drop (r * text_room) l)

    size : e - r * text_room ≡ n
    size = omega arith

-- A TEXT IS COPIED IN

-- what ends before a is in the first a
in_front : (l : List ℕ) (a b n : ℕ) → a ≤ length l → b + n ≤ a → take n (drop b l) ≡ take n (drop b (take a l))
in_front l a b n h le =
    let whole = length-take-le a l h in
    let left = length-drop b (take a l) in
    ap (λ (k : List ℕ). take n (drop b k)) (sym (take-append-drop a l))
    ∙ ap (take n) (drop-append-le b (take a l) (drop a l) (omega arith))
    ∙ take-append-le n (drop b (take a l)) (drop a l) (omega arith)

-- what begins behind e is in the rest from e on
behind : (l : List ℕ) (e b : ℕ) → e ≤ b → drop b l ≡ drop (b - e) (drop e l)
behind l e b le = let z : b ≡ e + (b - e) = omega arith in ap (λ (k : ℕ). drop k l) z ∙ sym (drop-drop (b - e) e l)

-- the octets of row r are exchanged for others
module _ (l part : List ℕ) (r e : ℕ) (there : RowIn text_room l r) (end : e ≡ r * text_room + text_room) (same : length part ≡ e - r * text_room) where
  abbrev exchanged : List ℕ
  exchanged = put_mid (r * text_room) (e - r * text_room) l part

  part_here : part_in exchanged r ≡ part
  unfolding part_in
  part_here =
      ap (take text_room) (drop_at (take (r * text_room) l) (part ++ post_of (r * text_room) (e - r * text_room) l) (r * text_room) (length-take-le (r * text_room) l (omega arith)))
      ∙ take_at part (post_of (r * text_room) (e - r * text_room) l) text_room (omega arith)

  part_elsewhere : length exchanged ≡ length l → (k : ℕ) → (k ≡ r → ⊥) → part_in exchanged k ≡ part_in l k
  unfolding part_in
  part_elsewhere w k other =
      by_lt k r
      (λ before. in_front exchanged (r * text_room) (k * text_room) text_room (omega arith) (omega arith)
      ∙ ap (λ (x : List ℕ). take text_room (drop (k * text_room) x)) (take_put (r * text_room) (e - r * text_room) l part (omega arith))
      ∙ sym (in_front l (r * text_room) (k * text_room) text_room (omega arith) (omega arith)))
      (λ after. ap (take text_room)
      (behind exchanged e (k * text_room) (omega arith)
      ∙ ap (drop (k * text_room - e)) (drop_put (r * text_room) e l part (omega arith) (omega arith) same)
      ∙ sym (behind l e (k * text_room) (omega arith))))

  pub part_put : length exchanged ≡ length l → part_in exchanged ≡ update (part_in l) r part
  part_put w =
      fun_ext (λ k. by_eq k r
      (λ q. rw (eq-eqb k r q) (ap (part_in exchanged) q ∙ part_here))
      (λ q. rw (ne_eqb k r q) (part_elsewhere w k q)))

-- a text in front of what the row had
pub text_before : (l text part : List ℕ) (r e : ℕ) → e ≡ r * text_room + text_room
    → part ≡ take (length text) text ++ drop (length text) (mid_of (r * text_room) (e - r * text_room) l)
    → part ≡ text ++ drop (length text) (part_in l r)
unfolding part_in
text_before l text part r e end q =
    let size : e - r * text_room ≡ text_room = omega arith in
    q ∙ ap₂ (λ (x y : List ℕ). x ++ drop (length text) y) (take-length text) (ap (λ (k : ℕ). mid_of (r * text_room) k l) size)
