-- Laws of octets written one after the other.
use mathlib.Core.Path.{◌≡◌, refl, sym, ap, ap₂, ◌∙◌}
use mathlib.Core.List.{List, [], ◌∷◌, ◌++◌, append_assoc, append-nil}
use Prim.Native.Nat.{ℕ, suc, ◌+◌, ◌-◌, ◌≤◌, ◌<◌}
use native.Mathlib.Numerals.{add-one}
use native.Mathlib.Nat.{add-zero}
use native.Mathlib.Omega.{arith}
use lib.ListN.{length, get_or, take, drop, set, length-append, length-drop, length-set, take-append-drop, drop_of_length-le}
use lib.Seq.{length-take-le, append_snoc, set_split, take-set-le, take-length, take-append-le, take-append-add}
use lib.Seq.{take-append_seam, drop_at, drop-append-add, drop-drop, get_or-drop, paste, paste-suc}
use Rattle.frame_lines.specs.Lines.{written, Wrote, Began}

-- what is written first ends at at + length a
head_length : (l : List ℕ) (at : ℕ) (a : List ℕ) → at ≤ length l → length (take at l ++ a) ≡ at + length a
head_length l at a h = length-append (take at l) a ∙ ap (λ (n : ℕ). n + length a) (length-take-le at l h)

pub written_length : (l : List ℕ) (at : ℕ) (a : List ℕ) → at + length a ≤ length l → length (written l at a) ≡ length l
unfolding written
written_length l at a h =
    let p = length-append (take at l ++ a) (drop (at + length a) l) in
    let q = head_length l at a (omega arith) in
    let r = length-drop (at + length a) l in
    omega arith

-- nothing written
pub written_none : (l : List ℕ) (at : ℕ) → written l at [] ≡ l
unfolding written
written_none l at = rw (append-nil, add-zero) (take-append-drop at l)

-- one octet stored
pub written_one : (l : List ℕ) (at x : ℕ) → at < length l → set l at x ≡ written l at (x ∷ [])
unfolding written
written_one l at x h = set_split l at x h ∙ sym (append_snoc (take at l) x (drop (suc at) l)) ∙ ap (λ (n : ℕ). take at l ++ (x ∷ []) ++ drop n l) (sym (add-one at))

-- written over the end of what was written
written_over : (l : List ℕ) (at : ℕ) (a b : List ℕ) (j : ℕ) → at + length a ≤ length l → j ≤ length a → length a ≤ j + length b
    → written (written l at a) (at + j) b ≡ written l at (take j a ++ b)
unfolding written
written_over l at a b j h i m =
    ap₂ (λ (x y : List ℕ). x ++ b ++ y) front back
    ∙ ap (λ (x : List ℕ). x ++ drop (at + length (take j a ++ b)) l) (append_assoc (take at l) (take j a) b)
  where
    p : length (take at l) ≡ at
    p = length-take-le at l (omega arith)

    front : take (at + j) (take at l ++ a ++ drop (at + length a) l) ≡ take at l ++ take j a
    front =
        take-append-le (at + j) (take at l ++ a) (drop (at + length a) l) (let z = head_length l at a (omega arith) in omega arith)
        ∙ ap (λ (n : ℕ). take (n + j) (take at l ++ a)) (sym p)
        ∙ take-append-add (take at l) a j

    back : drop (at + j + length b) (take at l ++ a ++ drop (at + length a) l) ≡ drop (at + length (take j a ++ b)) l
    back =
        let z = head_length l at a (omega arith) in
        let y = length-append (take j a) b in
        let x = length-take-le j a i in
        let past = j + length b - length a in
        let ends : at + j + length b ≡ length (take at l ++ a) + past = omega arith in
        let same : at + length a + past ≡ at + length (take j a ++ b) = omega arith in
        ap (λ (n : ℕ). drop n (take at l ++ a ++ drop (at + length a) l)) ends
        ∙ drop-append-add (take at l ++ a) (drop (at + length a) l) past
        ∙ drop-drop past (at + length a) l
        ∙ ap (λ (n : ℕ). drop n l) same

-- written one after the other
pub written_then : (l : List ℕ) (at : ℕ) (a b : List ℕ) → at + length a ≤ length l
    → written (written l at a) (at + length a) b ≡ written l at (a ++ b)
written_then l at a b h =
    written_over l at a b (length a) h (omega arith) (omega arith) ∙ ap (λ (x : List ℕ). written l at (x ++ b)) (take-length a)

-- written over all there is
pub written_whole : (l a : List ℕ) → length a ≡ length l → written l 0 a ≡ a
unfolding written
written_whole l a e = ap (λ (b : List ℕ). a ++ b) (drop_of_length-le l {i = 0 + length a} (omega arith)) ∙ append-nil a

-- the last octet stored first
pub written_last : (l : List ℕ) (at : ℕ) (a : List ℕ) (x : ℕ) → at + length a < length l → written (set l (at + length a) x) at a ≡ written l at (a ++ (x ∷ []))
unfolding written
written_last l at a x h =
    ap₂ (λ (y z : List ℕ). y ++ a ++ z) (take-set-le at l (at + length a) x (omega arith)) back
    ∙ sym (append_snoc (take at l ++ a) x (drop (suc (at + length a)) l))
    ∙ ap₂ (λ (y : List ℕ) (n : ℕ). y ++ drop n l) (append_assoc (take at l) a (x ∷ [])) more
  where
    back : drop (at + length a) (set l (at + length a) x) ≡ x ∷ drop (suc (at + length a)) l
    back =
        ap (λ (k : List ℕ). drop (at + length a) k) (set_split l (at + length a) x h)
        ∙ drop_at (take (at + length a) l) (x ∷ drop (suc (at + length a)) l) (at + length a) (length-take-le (at + length a) l (omega arith))

    more : suc (at + length a) ≡ at + length (a ++ (x ∷ []))
    more = let z : length (a ++ (x ∷ [])) ≡ length a + 1 = length-append a (x ∷ []) in omega arith

-- LINES

pub wrote_one : (l : List ℕ) (at x next : ℕ) → at < length l → next ≡ at + 1 → Wrote 1 (x ∷ []) l (set l at x) at next
wrote_one l at x next h e = record { octets = written_one l at x h; behind = e; few = omega arith; kept = length-set l at x }

pub wrote_all : {most : ℕ} (l : List ℕ) (at : ℕ) (a : List ℕ) {next : ℕ} {l₁ : List ℕ} → at + length a ≤ length l → next ≡ at + length a
    → next ≤ at + most → l₁ ≡ written l at a → Wrote most a l l₁ at next
wrote_all l at a h e f q = record { octets = q; behind = e; few = f; kept = ap (λ (k : List ℕ). length k) q ∙ written_length l at a h }

-- one after the other, and how many octets at most
pub wrote_join : (n : ℕ) {m k at p q : ℕ} {a b l l₁ l₂ : List ℕ} → p ≤ length l → q ≤ at + n → Wrote m a l l₁ at p → Wrote k b l₁ l₂ p q → Wrote n (a ++ b) l l₂ at q
wrote_join n {m} {k} {at} {p} {q} {a} {b} {l} {l₁} {l₂} h f u v =
    record {
      octets = v.octets ∙ ap₂ (λ (x : List ℕ) (i : ℕ). written x i b) u.octets u.behind ∙ written_then l at a b (let z = u.behind in omega arith);
      behind = let z = u.behind in let w = v.behind in let y = length-append a b in omega arith;
      few = f;
      kept = v.kept ∙ u.kept;
    }

pub wrote_then : {m k at p q : ℕ} {a b l l₁ l₂ : List ℕ} → at + m ≤ length l → Wrote m a l l₁ at p → Wrote k b l₁ l₂ p q → Wrote (m + k) (a ++ b) l l₂ at q
wrote_then {m} {k} h u v = wrote_join (m + k) (let z = u.few in omega arith) (let z = u.few in let w = v.few in omega arith) u v

-- a line with octets behind it, which what is written next covers if it is as long
pub began_some : (over most : ℕ) {l l₁ : List ℕ} {at next : ℕ} (line more : List ℕ) → length more ≤ over → at + length (line ++ more) ≤ length l
    → next ≡ at + length line → next ≤ at + most → l₁ ≡ written l at (line ++ more) → Began over most line l l₁ at next
began_some over most {l} {l₁} {at} {next} line more s h e f q =
    record {
      octets = λ b long.
          ap₂ (λ (x : List ℕ) (n : ℕ). written x n b) q e
          ∙ written_over l at (line ++ more) b (length line) h
          (let z = length-append line more in omega arith) (let z = length-append line more in omega arith)
          ∙ ap (λ (x : List ℕ). written l at (x ++ b)) (take-append_seam line more);
      behind = e;
      few = f;
      kept = ap (λ (k : List ℕ). length k) q ∙ written_length l at (line ++ more) h;
    }

-- nothing behind it changed
pub began_all : (over : ℕ) {m at p : ℕ} {a l l₁ : List ℕ} → p ≤ length l → Wrote m a l l₁ at p → Began over m a l l₁ at p
began_all over {m} {at} {p} {a} {l} {l₁} h u =
    record {
      octets = λ b long.
          ap₂ (λ (x : List ℕ) (i : ℕ). written x i b) u.octets u.behind
          ∙ written_then l at a b (let z = u.behind in omega arith);
      behind = u.behind;
      few = u.few;
      kept = u.kept;
    }

pub began_then : {over m k at p q : ℕ} {a b l l₁ l₂ : List ℕ} → over ≤ length b → Began over m a l l₁ at p → Wrote k b l₁ l₂ p q
    → Wrote (m + k) (a ++ b) l l₂ at q
began_then {over} {m} {k} {at} {p} {q} {a} {b} h u v =
    record {
      octets = v.octets ∙ u.octets b h;
      behind = let z = u.behind in let w = v.behind in let y = length-append a b in omega arith;
      few = let z = u.few in let w = v.few in omega arith;
      kept = v.kept ∙ u.kept;
    }

-- the second one covers what the first one left, and leaves as much
pub began_more : {over m k at p q : ℕ} {a b l l₁ l₂ : List ℕ} → Began over m a l l₁ at p → Began over k b l₁ l₂ p q
    → Began over (m + k) (a ++ b) l l₂ at q
began_more {over} {m} {k} {at} {p} {q} {a} {b} {l} u v =
    record {
      octets = λ d long.
          v.octets d long
          ∙ u.octets (b ++ d) (let z = length-append b d in omega arith)
          ∙ ap (λ (x : List ℕ). written l at x) (sym (append_assoc a b d));
      behind = let z = u.behind in let w = v.behind in let y = length-append a b in omega arith;
      few = let z = u.few in let w = v.few in omega arith;
      kept = v.kept ∙ u.kept;
    }

-- more room than it takes
pub wrote_wider : {m k at p : ℕ} {a l l₁ : List ℕ} → m ≤ k → Wrote m a l l₁ at p → Wrote k a l l₁ at p
wrote_wider h u = record { octets = u.octets; behind = u.behind; few = let z = u.few in omega arith; kept = u.kept }

pub began_wider : {over m k at p : ℕ} {a l l₁ : List ℕ} → m ≤ k → Began over m a l l₁ at p → Began over k a l l₁ at p
began_wider h u = record { octets = u.octets; behind = u.behind; few = let z = u.few in omega arith; kept = u.kept }

-- two, three and four octets stored
pub pair_stored : (l : List ℕ) (at x y : ℕ) → at + 2 ≤ length l → Wrote 2 (x ∷ y ∷ []) l (set (set l at x) (at + 1) y) at (at + 2)
pair_stored l at x y h =
    wrote_then (omega arith) one (wrote_one (set l at x) (at + 1) y (at + 2) (let k = one.kept in omega arith) (omega arith))
  where
    one : Wrote 1 (x ∷ []) l (set l at x) at (at + 1)
    one = wrote_one l at x (at + 1) (omega arith) refl

pub three_stored : (l : List ℕ) (at x y z : ℕ) → at + 3 ≤ length l
    → Wrote 3 (x ∷ y ∷ z ∷ []) l (set (set (set l at x) (at + 1) y) (at + 2) z) at (at + 3)
three_stored l at x y z h =
    wrote_then (omega arith) two
    (wrote_one (set (set l at x) (at + 1) y) (at + 2) z (at + 3) (let k = two.kept in omega arith) (omega arith))
  where
    two : Wrote 2 (x ∷ y ∷ []) l (set (set l at x) (at + 1) y) at (at + 2)
    two = pair_stored l at x y (omega arith)

pub four_stored : (l : List ℕ) (at x y z u : ℕ) → at + 4 ≤ length l
    → Wrote 4 (x ∷ y ∷ z ∷ u ∷ []) l (set (set (set (set l at x) (at + 1) y) (at + 2) z) (at + 3) u) at (at + 4)
four_stored l at x y z u h =
    wrote_then (omega arith) three
    (wrote_one (set (set (set l at x) (at + 1) y) (at + 2) z) (at + 3) u (at + 4) (let k = three.kept in omega arith) (omega arith))
  where
    three : Wrote 3 (x ∷ y ∷ z ∷ []) l (set (set (set l at x) (at + 1) y) (at + 2) z) at (at + 3)
    three = three_stored l at x y z (omega arith)

-- COPIES

-- a part of the octets that became others, so many
pub part_written : (l x line : List ℕ) (at n : ℕ) → x ≡ line → n ≡ length line → take at l ++ (x ++ drop n (drop at l)) ≡ written l at line
unfolding written
part_written l x line at n e h =
    ap₂ (λ (y z : List ℕ). take at l ++ (y ++ z)) e (drop-drop n at l ∙ ap (λ (k : ℕ). drop (at + k) l) h)
    ∙ sym (append_assoc (take at l) line (drop (at + length line) l))

-- one octet more of those from a position on, and so many of them
pub part_more : (l l₁ d : List ℕ) (at first k : ℕ) → at + k < length l → first + k < length d → l₁ ≡ paste l at (drop first d) k
    → set l₁ (at + k) (get_or d (first + k) 0) ≡ paste l at (drop first d) (k + 1)
part_more l l₁ d at first k h i q =
    ap₂ (λ (a : List ℕ) (x : ℕ). set a (at + k) x) q (sym (get_or-drop first d k 0))
    ∙ paste-suc l at (drop first d) k 0 h (let z = length-drop first d in omega arith)
    ∙ ap (λ (n : ℕ). paste l at (drop first d) n) (sym (add-one k))

pub part_copied : (l l₁ d : List ℕ) (at first k count : ℕ) → k ≡ count → first + count ≤ length d → l₁ ≡ paste l at (drop first d) k
    → l₁ ≡ written l at (take count (drop first d))
unfolding written
part_copied l l₁ d at first k count e h q =
    q
    ∙ ap (λ (n : ℕ). paste l at (drop first d) n) e
    ∙ ap (λ (n : ℕ). take at l ++ take count (drop first d) ++ drop (at + n) l)
    (sym (length-take-le count (drop first d) (let z = length-drop first d in omega arith)))

-- what stood behind is written again
written_again : (l : List ℕ) (at : ℕ) (a : List ℕ) (k : ℕ) → at + length a + k ≤ length l
    → written l at (a ++ take k (drop (at + length a) l)) ≡ written l at a
unfolding written
written_again l at a k h =
    ap₂ (λ (x : List ℕ) (n : ℕ). x ++ drop n l) (sym (append_assoc (take at l) a (take k (drop (at + length a) l)))) ends
    ∙ append_assoc (take at l ++ a) (take k (drop (at + length a) l)) (drop (at + length a + k) l)
    ∙ ap (λ (x : List ℕ). take at l ++ a ++ x)
    (ap (λ (x : List ℕ). take k (drop (at + length a) l) ++ x) (sym past) ∙ take-append-drop k (drop (at + length a) l))
  where
    ends : at + length (a ++ take k (drop (at + length a) l)) ≡ at + length a + k
    ends =
        let x = length-append a (take k (drop (at + length a) l)) in
        let y = length-take-le k (drop (at + length a) l) (let z = length-drop (at + length a) l in omega arith) in
        omega arith

    past : drop k (drop (at + length a) l) ≡ drop (at + length a + k) l
    past = drop-drop k (at + length a) l

-- all of d, so many octets, is written, and what stood behind the first of it is put back
pub front_copied : (many : ℕ) (l l₁ l₂ d b b₁ : List ℕ) (at count : ℕ) → at + many + many ≤ length l → length d ≡ many → count ≤ many → length b ≡ many
    → b₁ ≡ written b 0 (take many (drop (at + count) l)) → l₁ ≡ written l at (take many (drop 0 d)) → l₂ ≡ written l₁ (at + count) (take many (drop 0 b₁))
    → l₂ ≡ written l at (take count d)
front_copied many l l₁ l₂ d b b₁ at count h m i n p q r =
    r
    ∙ ap₂ (λ (x y : List ℕ). written x (at + count) y) (q ∙ ap (λ (x : List ℕ). written l at x) (take_all d m)) kept
    ∙ written_over l at d old count (omega arith) (omega arith) (let z = long in omega arith)
    ∙ ap (λ (k : ℕ). written l at (take count d ++ take many (drop (at + k) l))) (sym front)
    ∙ written_again l at (take count d) many (let z = front in omega arith)
  where
    take_all : (x : List ℕ) → length x ≡ many → take many x ≡ x
    take_all x e = ap (λ (k : ℕ). take k x) (sym e) ∙ take-length x

    front : length (take count d) ≡ count
    front = length-take-le count d (omega arith)

    old : List ℕ
    old = take many (drop (at + count) l)

    long : length old ≡ many
    long = length-take-le many (drop (at + count) l) (let z = length-drop (at + count) l in omega arith)

    kept : take many (drop 0 b₁) ≡ old
    kept = ap (λ (x : List ℕ). take many x) (p ∙ written_whole b old (long ∙ sym n)) ∙ take_all old long
