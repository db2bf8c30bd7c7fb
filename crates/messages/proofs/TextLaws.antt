-- THE TEXTS: what is copied into the part of one room, and what the other rooms have.
use mathlib.Core.Path.{◌≡◌, sym, ap, ◌∙◌}
use mathlib.Core.List.{List, ◌++◌, append_assoc}
use Prim.Native.Nat.{ℕ, ◌+◌, ◌-◌, ◌*◌, ◌≤◌}
use native.Mathlib.Omega.{arith}
use lib.ListN.{length, take, drop, take-append-drop, length-drop}
use lib.Seq.{length-take-le, take-length, take-append-le, drop-append-le, take_at, drop_at, drop-drop}
use borrow.Rule.Slice.PartMut.{put_mid, post_of, take_put, drop_put}
use Rattle.protocol.proofs.Tests.{by_lt}
use Rattle.messages.specs.Texts.{longest, HasText, text_in}

-- a text within its part
pub length_text : (l : List ℕ) (n m : ℕ) → HasText l m → n ≤ longest → length (text_in l n m) ≡ n
unfolding text_in
length_text l n m h le = length-take-le n (drop (m * longest) l) (simp length-drop (omega arith))

-- LISTS

-- what ends before a is in the first a
pub in_front : (l : List ℕ) (a b n : ℕ) → a ≤ length l → b + n ≤ a → take n (drop b l) ≡ take n (drop b (take a l))
in_front l a b n h le =
    let whole = length-take-le a l h in
    let left = length-drop b (take a l) in
    ap (λ (k : List ℕ). take n (drop b k)) (sym (take-append-drop a l))
    ∙ ap (take n) (drop-append-le b (take a l) (drop a l) (omega arith))
    ∙ take-append-le n (drop b (take a l)) (drop a l) (omega arith)

-- what begins behind e is in the rest from e on
pub behind : (l : List ℕ) (e b : ℕ) → e ≤ b → drop b l ≡ drop (b - e) (drop e l)
behind l e b le = let z : b ≡ e + (b - e) = omega arith in ap (λ (k : ℕ). drop k l) z ∙ sym (drop-drop (b - e) e l)

-- a part from a on is exchanged for another that begins with a text
text_here : (l text rest part : List ℕ) (a k : ℕ) → a ≤ length l → part ≡ take (length text) text ++ rest → take (length text) (drop a (put_mid a k l part)) ≡ text
text_here l text rest part a k h e =
    ap (take (length text)) (drop_at (take a l) (part ++ post_of a k l) a (length-take-le a l h))
    ∙ ap (λ (y : List ℕ). take (length text) (y ++ post_of a k l)) e
    ∙ ap (take (length text)) (append_assoc (take (length text) text) rest (post_of a k l))
    ∙ take_at (take (length text) text) (rest ++ post_of a k l) (length text) (length-take-le (length text) text (omega arith))
    ∙ take-length text

-- ROOMS

-- the part of room m is exchanged for another
module _ (l part : List ℕ) (m e : ℕ) (there : HasText l m) (end : e ≡ m * 32 + 32) (same : length part ≡ e - m * 32) where
  abbrev exchanged : List ℕ
  exchanged = put_mid (m * 32) (e - m * 32) l part

  pub text_put : (text rest : List ℕ) → part ≡ take (length text) text ++ rest → text_in exchanged (length text) m ≡ text
  unfolding text_in
  text_put text rest q = text_here l text rest part (m * 32) (e - m * 32) (omega arith) q

  pub texts_kept : length exchanged ≡ length l → (k n : ℕ) → (k ≡ m → ⊥) → n ≤ longest → text_in exchanged n k ≡ text_in l n k
  unfolding text_in
  texts_kept w k n other le =
      by_lt k m
      (λ before. in_front exchanged (m * 32) (k * 32) n (omega arith) (omega arith)
      ∙ ap (λ (x : List ℕ). take n (drop (k * 32) x)) (take_put (m * 32) (e - m * 32) l part (omega arith))
      ∙ sym (in_front l (m * 32) (k * 32) n (omega arith) (omega arith)))
      (λ after. ap (take n)
      (behind exchanged e (k * 32) (omega arith)
      ∙ ap (drop (k * 32 - e)) (drop_put (m * 32) e l part (omega arith) (omega arith) same)
      ∙ sym (behind l e (k * 32) (omega arith))))
