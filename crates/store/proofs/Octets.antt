-- OCTETS WRITTEN INTO A STORE: what is read where they were written, and elsewhere.
use mathlib.Core.Path.{◌≡◌, sym, ap, ap₂, ◌∙◌}
use mathlib.Core.List.{List, [], ◌++◌, append_assoc, append-nil}
use Prim.Native.Nat.{ℕ, ◌+◌, ◌-◌, ◌≤◌}
use native.Mathlib.Omega.{arith}
use lib.ListN.{length, take, drop, drop_of_length-le}
use lib.Seq.{paste, length-paste, take_at, drop_at, length-take-le}
use borrow.Rule.Slice.PartMut.{mid_of, put_mid, mid_len, Post-is}
use Rattle.messages.proofs.TextLaws.{in_front}

-- a part of n octets, by where it ends
pub part_is : (l : List ℕ) (a n : ℕ) → take (a + n - a) (drop a l) ≡ take n (drop a l)
part_is l a n = let z : a + n - a ≡ n = omega arith in ap (λ (k : ℕ). take k (drop a l)) z

-- n octets of s are written into d from a on
module _ (d s : List ℕ) (a n : ℕ) (room : a + n ≤ length d) (enough : n ≤ length s) where
  pub pasted_here : take n (drop a (paste d a s n)) ≡ take n s
  pasted_here =
      ap (λ (l : List ℕ). take n (drop a l)) (append_assoc (take a d) (take n s) (drop (a + n) d))
      ∙ ap (take n) (drop_at (take a d) (take n s ++ drop (a + n) d) a (length-take-le a d (omega arith)))
      ∙ take_at (take n s) (drop (a + n) d) n (length-take-le n s enough)

  -- what ends before them
  pub before_pasted : (b k : ℕ) → b + k ≤ a → take k (drop b (paste d a s n)) ≡ take k (drop b d)
  before_pasted b k h =
      in_front (paste d a s n) a b k (let z = length-paste d a s n room enough in omega arith) h
      ∙ ap (λ (l : List ℕ). take k (drop b l)) front
      ∙ sym (in_front d a b k (omega arith) h)
    where
      front : take a (paste d a s n) ≡ take a d
      front =
          ap (take a) (append_assoc (take a d) (take n s) (drop (a + n) d))
          ∙ take_at (take a d) (take n s ++ drop (a + n) d) a (length-take-le a d (omega arith))

-- A COPY INTO A PART: the part that was lent is as long as the text
pub copied_is : (l text part : List ℕ) (a e : ℕ) → e ≡ a + length text → e ≤ length l
    → part ≡ take (length text) text ++ drop (length text) (mid_of a (e - a) l)
    → put_mid a (e - a) l part ≡ paste l a text (length text)
copied_is l text part a e end h q =
    ap₂ (λ (x y : List ℕ). take a l ++ (x ++ y)) (q ∙ ap (λ (x : List ℕ). take (length text) text ++ x) none ∙ append-nil (take (length text) text)) (Post-is a e l (omega arith))
    ∙ ap (λ (k : ℕ). take a l ++ (take (length text) text ++ drop k l)) end
    ∙ sym (append_assoc (take a l) (take (length text) text) (drop (a + length text) l))
  where
    none : drop (length text) (mid_of a (e - a) l) ≡ []
    none = let z = mid_len a e l h in let y : length (mid_of a (e - a) l) ≤ length text = omega arith in drop_of_length-le (mid_of a (e - a) l) y
