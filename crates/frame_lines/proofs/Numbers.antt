-- Laws of numbers in decimal, and of octets in hexadecimal.
use mathlib.Core.Path.{◌≡◌, refl, sym, ap, ap₂, ◌∙◌, subst}
use mathlib.Core.Bool.{cond}
use mathlib.Core.List.{List, [], ◌∷◌, ◌++◌, append_assoc, append-nil}
use Prim.Native.Nat.{ℕ, zero, suc, ◌+◌, ◌-◌, ◌*◌, ◌/◌, ◌%◌, ◌^◌, ◌≤◌, ◌<◌}
use native.Mathlib.Numerals.{add-one}
use native.Mathlib.Omega.{arith}
use lib.Dec.{ltb}
use lib.ListN.{length, get_or, take, drop, set, length-append, length-drop, length-set}
use lib.Seq.{length-take-le, take-suc, take_all, take-nil, take_at, get_or-set_same, get_or-set_other}
use borrow.Author.Tests.{lt-ltb, le-ltb}
use Rattle.protocol.proofs.Tests.{by_test, by_lt}
use Rattle.protocol.specs.Printed.{digit_char, decimal_digits, decimal, hexadecimal}
use Rattle.frame_lines.specs.Lines.{written, Wrote, Began, Spells, last_digits, four_octets, longest_number, text_octets, text_digits}
use Rattle.std.specs.Int.{w16, w32, to_le_bytes, from_le_bytes}
use Rattle.frame_lines.proofs.Octets.{written_none, written_whole, written_last, wrote_one, wrote_all, wrote_join, began_some, began_then, pair_stored}

-- DIGITS

pub digit_small : (d : ℕ) → d < 10 → digit_char d ≡ 48 + d
digit_small d h = rw (lt-ltb d 10 h) refl

-- letters stand 39 further on
pub digit_sum : (d l : ℕ) → l ≡ cond (ltb d 10) 0 39 → 48 + d + l ≡ digit_char d
digit_sum d l e = rw e (by_test (ltb d 10) (λ y. rw y (omega arith)) (λ n. rw n (omega arith)))

-- DECIMAL

one_digit : (k n : ℕ) → n < 10 → decimal_digits (suc k) n ≡ digit_char n ∷ []
unfolding decimal_digits
one_digit k n h = rw (lt-ltb n 10 h, decimal_digits) (ap (λ (d : ℕ). d ∷ []) (digit_small n h))

more_digits : (k n : ℕ) → 10 ≤ n → decimal_digits (suc k) n ≡ decimal_digits k (n / 10) ++ (digit_char (n % 10) ∷ [])
unfolding decimal_digits
more_digits k n h = rw (le-ltb n 10 h, decimal_digits) refl

-- more room for digits than needed changes nothing
enough : (k j n : ℕ) → n < k → n < j → decimal_digits k n ≡ decimal_digits j n
enough zero j n h i = absurd (omega arith)
enough (suc k) zero n h i = absurd (omega arith)
enough (suc k) (suc j) n h i =
    by_lt n 10
    (λ s. one_digit k n s ∙ sym (one_digit j n s))
    (λ s. more_digits k n s ∙ ap (λ (d : List ℕ). d ++ (digit_char (n % 10) ∷ [])) (enough k j (n / 10) (omega arith) (omega arith)) ∙ sym (more_digits j n s))

pub decimal_one : (n : ℕ) → n < 10 → decimal n ≡ digit_char n ∷ []
unfolding decimal
decimal_one n h = one_digit n n h

decimal_more : (n : ℕ) → 10 ≤ n → decimal n ≡ decimal (n / 10) ++ (digit_char (n % 10) ∷ [])
unfolding decimal
decimal_more n h = more_digits n n h ∙ ap (λ (d : List ℕ). d ++ (digit_char (n % 10) ∷ [])) (enough n (suc (n / 10)) (n / 10) (omega arith) (omega arith))

pub length_one : (n : ℕ) → n < 10 → length (decimal n) ≡ 1
length_one n h = ap (λ (d : List ℕ). length d) (decimal_one n h)

length_more : (n : ℕ) → 10 ≤ n → length (decimal n) ≡ length (decimal (n / 10)) + 1
length_more n h = ap (λ (d : List ℕ). length d) (decimal_more n h) ∙ length-append (decimal (n / 10)) (digit_char (n % 10) ∷ [])

-- two, three and four digits, and four more than the number without its last four
pub length_two : (n : ℕ) → 10 ≤ n → n < 100 → length (decimal n) ≡ 2
length_two n h l = let a = length_more n h in let b = length_one (n / 10) (omega arith) in omega arith

pub length_three : (n : ℕ) → 100 ≤ n → n < 1000 → length (decimal n) ≡ 3
length_three n h l = let a = length_more n (omega arith) in let b = length_two (n / 10) (omega arith) (omega arith) in omega arith

pub length_four : (n : ℕ) → 1000 ≤ n → n < 10000 → length (decimal n) ≡ 4
length_four n h l = let a = length_more n (omega arith) in let b = length_three (n / 10) (omega arith) (omega arith) in omega arith

length_last : (k n : ℕ) → length (last_digits k n) ≡ k
unfolding last_digits
length_last zero n = refl
length_last (suc k) n = length-append (last_digits k (n / 10)) (digit_char (n % 10) ∷ []) ∙ ap (λ (w : ℕ). w + 1) (length_last k (n / 10)) ∙ add-one k

-- a number with k digits more, which are 0
abbrev pub shift : ℕ → ℕ → ℕ
shift zero q = q
shift (suc k) q = 10 * shift k q

shift_some : (k q : ℕ) → 0 < q → 0 < shift k q
shift_some zero q h = h
shift_some (suc k) q h = let z = shift_some k q h in omega arith

-- its last k digits are those of the number below them, and the others stand before them
decimal_shift : (k q m : ℕ) → 0 < q → m < shift k 1 → decimal (shift k q + m) ≡ decimal q ++ last_digits k m
unfolding last_digits
decimal_shift zero q m h i = ap (λ (n : ℕ). decimal n) (let z : q + m ≡ q = omega arith in z) ∙ sym (append-nil (decimal q))
decimal_shift (suc k) q m h i =
    let z = shift_some k q h in
    decimal_more (10 * shift k q + m) (omega arith)
    ∙ ap₂ (λ (n d : ℕ). decimal n ++ (digit_char d ∷ [])) (over (shift k q) m) (under (shift k q) m)
    ∙ ap (λ (d : List ℕ). d ++ (digit_char (m % 10) ∷ [])) (decimal_shift k q (m / 10) h (omega arith))
    ∙ append_assoc (decimal q) (last_digits k (m / 10)) (digit_char (m % 10) ∷ [])
  where
    over : (s m : ℕ) → (10 * s + m) / 10 ≡ s + m / 10
    over s m = omega arith

    under : (s m : ℕ) → (10 * s + m) % 10 ≡ m % 10
    under s m = omega arith

decimal_split : (k n q m : ℕ) → n ≡ shift k q + m → 0 < q → m < shift k 1 → decimal n ≡ decimal q ++ last_digits k m
decimal_split k n q m e h i = ap (λ (x : ℕ). decimal x) e ∙ decimal_shift k q m h i

pub length_four_more : (n : ℕ) → 10000 ≤ n → length (decimal n) ≡ length (decimal (n / 10000)) + 4
length_four_more n h =
    ap (λ (d : List ℕ). length d) (decimal_split 4 n (n / 10000) (n % 10000) (omega arith) (omega arith) (omega arith))
    ∙ length-append (decimal (n / 10000)) (last_digits 4 (n % 10000))
    ∙ ap (λ (k : ℕ). length (decimal (n / 10000)) + k) (length_last 4 (n % 10000))

-- a number has a digit, and one below 10 ^ j at most j
pub some_digit : (n : ℕ) → 1 ≤ length (decimal n)
some_digit n = by_lt n 10 (λ h. let z = length_one n h in omega arith) (λ h. let z = length_more n h in omega arith)

few_digits : (j n : ℕ) → n < 10 ^ suc j → length (decimal n) ≤ suc j
few_digits zero n h = let z = length_one n h in omega arith
few_digits (suc j) n h =
    by_lt n 10
    (λ s. let z = length_one n s in omega arith)
    (λ s. let z = length_more n s in let w = few_digits j (n / 10) (omega arith) in omega arith)

pub number_long : (n : ℕ) → n < 18446744073709551616 → length (decimal n) ≤ longest_number
number_long n h = few_digits 19 n (let z : 18446744073709551616 ≤ 10 ^ 20 = omega arith in omega arith)

-- all its digits are its last ones
last_all : (k n : ℕ) → n < k → decimal n ≡ last_digits (length (decimal n)) n
unfolding last_digits
last_all zero n h = absurd (omega arith)
last_all (suc k) n h =
    by_lt n 10
    (λ s. decimal_one n s ∙ ap (λ (d : ℕ). digit_char d ∷ []) (let z : n ≡ n % 10 = omega arith in z) ∙ ap (λ (w : ℕ). last_digits w n) (sym (length_one n s)))
    (λ s. decimal_more n s ∙ ap (λ (d : List ℕ). d ++ (digit_char (n % 10) ∷ [])) (last_all k (n / 10) (omega arith)) ∙ ap (λ (w : ℕ). last_digits w n) (sym (length_more n s ∙ add-one (length (decimal (n / 10))))))

all_digits : (n : ℕ) → decimal n ≡ last_digits (length (decimal n)) n
all_digits n = last_all (suc n) n (omega arith)

-- the digits that are left, before and after one was stored from the right
last_step : (l : List ℕ) (at k n : ℕ) → at + k < length l → written (set l (at + k) (digit_char (n % 10))) at (last_digits k (n / 10)) ≡ written l at (last_digits (suc k) n)
unfolding last_digits
last_step l at k n h =
    ap (λ (w : ℕ). written (set l (at + w) (digit_char (n % 10))) at (last_digits k (n / 10))) (sym (length_last k (n / 10)))
    ∙ written_last l at (last_digits k (n / 10)) (digit_char (n % 10)) (let z = length_last k (n / 10) in omega arith)

digit_stored : (l : List ℕ) (at i x n : ℕ) (d : List ℕ) → at < i → i ≤ length l → x ≡ digit_char (n % 10) → written l at (last_digits (i - at) n) ≡ d
    → written (set l (i - 1) x) at (last_digits (i - 1 - at) (n / 10)) ≡ d
digit_stored l at i x n d h m e q =
    ap₂ (λ (w y : ℕ). written (set l w y) at (last_digits (i - 1 - at) (n / 10))) place e
    ∙ last_step l at (i - 1 - at) n (omega arith)
    ∙ ap (λ (k : ℕ). written l at (last_digits k n)) count
    ∙ q
  where
    place : i - 1 ≡ at + (i - 1 - at)
    place = omega arith

    count : suc (i - 1 - at) ≡ i - at
    count = omega arith

-- two of them
pub two_stored : (l : List ℕ) (at i x y n : ℕ) (d : List ℕ) → at + 1 < i → i ≤ length l → x ≡ digit_char (n % 10) → y ≡ digit_char (n / 10 % 10)
    → written l at (last_digits (i - at) n) ≡ d → written (set (set l (i - 1) x) (i - 2) y) at (last_digits (i - 2 - at) (n / 100)) ≡ d
two_stored l at i x y n d h m e f q =
    let once = digit_stored l at i x n d (omega arith) m e q in
    let twice = digit_stored (set l (i - 1) x) at (i - 1) y (n / 10) d (omega arith) (simp length-set (omega arith)) f once in
    let back : i - 1 - 1 ≡ i - 2 = omega arith in
    let all : n / 10 / 10 ≡ n / 100 = omega arith in
    subst (λ (k : ℕ). written (set (set l (i - 1) x) (i - 2) y) at (last_digits (i - 2 - at) k) ≡ d) all
    (subst (λ (k : ℕ). written (set (set l (i - 1) x) k y) at (last_digits (k - at) (n / 10 / 10)) ≡ d) back twice)

pub digits_done : (l : List ℕ) (at k n : ℕ) (d : List ℕ) → k ≡ 0 → written l at (last_digits k n) ≡ d → l ≡ d
unfolding last_digits
digits_done l at k n d e q = sym (written_none l at) ∙ ap (λ (j : ℕ). written l at (last_digits j n)) (sym e) ∙ q

-- the one that is left
pub last_stored : (l : List ℕ) (at i x n : ℕ) (d : List ℕ) → i ≡ at + 1 → i ≤ length l → x ≡ digit_char (n % 10) → written l at (last_digits (i - at) n) ≡ d → set l at x ≡ d
last_stored l at i x n d e m f q =
    let back : i - 1 ≡ at = omega arith in
    subst (λ (k : ℕ). set l k x ≡ d) back (digits_done (set l (i - 1) x) at (i - 1 - at) (n / 10) d (omega arith) (digit_stored l at i x n d (omega arith) m f q))

-- TWO AND FOUR DIGITS IN A WORD

octet_low : (w x y : ℕ) → x < 256 → w ≡ x + 256 * y → w % 256 ≡ x
octet_low w x y h e = omega arith

octet_high : (w x y : ℕ) → x < 256 → w ≡ x + 256 * y → w / 256 ≡ y
octet_high w x y h e = omega arith

-- two digits side by side
abbrev pub pair_word : ℕ → ℕ
pair_word n = 12336 + n * 256 - n / 10 * 2559

pub pair_octets : (n : ℕ) → n < 100 → pair_word n % 256 ∷ pair_word n / 256 ∷ [] ≡ last_digits 2 n
unfolding last_digits
pair_octets n k =
    ap₂ (λ (x y : ℕ). x ∷ y ∷ [])
    (octet_low (pair_word n) (48 + n / 10 % 10) (48 + n % 10) (omega arith) made ∙ sym (digit_small (n / 10 % 10) (omega arith)))
    (octet_high (pair_word n) (48 + n / 10 % 10) (48 + n % 10) (omega arith) made ∙ sym (digit_small (n % 10) (omega arith)))
  where
    made : pair_word n ≡ 48 + n / 10 % 10 + 256 * (48 + n % 10)
    made = omega arith

-- the library's octets of a word of two, and of one of four
pub two_octets : (w : ℕ) → w < 65536 → to_le_bytes w16 w ≡ w % 256 ∷ w / 256 ∷ []
two_octets w h = let z : w / 256 % 256 ≡ w / 256 = omega arith in ap (λ (x : ℕ). w % 256 ∷ x ∷ []) z

pub octets_long : (w : ℕ) → length (four_octets w) ≡ 4
unfolding four_octets
octets_long w = refl

pub octets_of : (w : ℕ) → w < 4294967296 → to_le_bytes w32 w ≡ four_octets w
unfolding four_octets
octets_of w h =
    let z : w / 16777216 % 256 ≡ w / 16777216 = omega arith in
    ap (λ (x : ℕ). w % 256 ∷ w / 256 % 256 ∷ w / 65536 % 256 ∷ x ∷ []) z

-- the octets of a word that was made of them
pub word_of : (w a b c d : ℕ) → a < 256 → b < 256 → c < 256 → w ≡ a + 256 * b + 65536 * c + 16777216 * d → four_octets w ≡ a ∷ b ∷ c ∷ d ∷ []
unfolding four_octets
word_of w a b c d ha hb hc e =
    let p = octet_low w a (b + 256 * (c + 256 * d)) ha (omega arith) in
    let u = octet_high w a (b + 256 * (c + 256 * d)) ha (omega arith) in
    let q = octet_low (w / 256) b (c + 256 * d) hb u in
    let v = octet_high (w / 256) b (c + 256 * d) hb u in
    let r : w / 65536 % 256 ≡ c = octet_low (w / 65536) c d hc (omega arith) in
    let s : w / 16777216 ≡ d = omega arith in
    cc

-- four digits side by side, from two pairs
four_word : (q r a b c d : ℕ) → q ≡ 10 * a + b → r ≡ 10 * c + d
    → 808464432 + (q + r * 65536) * 256 - (a + c * 65536) * 2559 ≡ 48 + a + 256 * (48 + b) + 65536 * (48 + c) + 16777216 * (48 + d)
four_word q r a b c d e f = omega arith

-- the digits of the pairs are those of the number
high_pair : (n : ℕ) → n / 100 ≡ n / 10 / 10
high_pair n = omega arith

low_pair : (n : ℕ) → n % 100 ≡ 10 * (n / 10 % 10) + n % 10
low_pair n = omega arith

split_ten : (p q : ℕ) → q ≡ p → q ≡ 10 * (p / 10) + p % 10
split_ten p q e = omega arith

pub four_digits : (n : ℕ) → n < 10000
    → four_octets (808464432 + (n / 100 + n % 100 * 65536) * 256 - (n / 100 / 10 + n % 100 / 10 * 65536) * 2559) ≡ last_digits 4 n
unfolding last_digits
four_digits n h =
    ap₂ (λ (x y : ℕ). four_octets (808464432 + (n / 100 + n % 100 * 65536) * 256 - (x + y * 65536) * 2559)) thousands tens
    ∙ word_of _ (digit_char (n / 10 / 10 / 10 % 10)) (digit_char (n / 10 / 10 % 10)) (digit_char (n / 10 % 10)) (digit_char (n % 10))
    (let z = a in omega arith) (let z = b in omega arith) (let z = c in omega arith)
    (four_word (n / 100) (n % 100) (n / 10 / 10 / 10 % 10) (n / 10 / 10 % 10) (n / 10 % 10) (n % 10)
    (split_ten (n / 10 / 10) (n / 100) (high_pair n) ∙ ap (λ (x : ℕ). 10 * x + n / 10 / 10 % 10) last) (low_pair n)
    ∙ (let z = a in let y = b in let x = c in let w = d in omega arith))
  where
    last : n / 10 / 10 / 10 ≡ n / 10 / 10 / 10 % 10
    last = omega arith

    thousands : n / 100 / 10 ≡ n / 10 / 10 / 10 % 10
    thousands = ap (λ (x : ℕ). x / 10) (high_pair n) ∙ last

    tens : n % 100 / 10 ≡ n / 10 % 10
    tens = let z = low_pair n in omega arith

    a : digit_char (n / 10 / 10 / 10 % 10) ≡ 48 + n / 10 / 10 / 10 % 10
    a = digit_small (n / 10 / 10 / 10 % 10) (omega arith)

    b : digit_char (n / 10 / 10 % 10) ≡ 48 + n / 10 / 10 % 10
    b = digit_small (n / 10 / 10 % 10) (omega arith)

    c : digit_char (n / 10 % 10) ≡ 48 + n / 10 % 10
    c = digit_small (n / 10 % 10) (omega arith)

    d : digit_char (n % 10) ≡ 48 + n % 10
    d = digit_small (n % 10) (omega arith)

-- A NUMBER IS WRITTEN

-- its one digit, or all its digits
pub digit_written : (l : List ℕ) (at n x next : ℕ) → n < 10 → at < length l → x ≡ digit_char n → next ≡ at + 1
    → Wrote 1 (decimal n) l (set l at x) at next
digit_written l at n x next h r e f =
    subst (λ (a : List ℕ). Wrote 1 a l (set l at x) at next) (ap (λ (d : ℕ). d ∷ []) e ∙ sym (decimal_one n h)) (wrote_one l at x next r f)

pub digits_written : (most : ℕ) (l l₁ : List ℕ) (at n count : ℕ) → count ≡ length (decimal n) → count ≤ most → at + most ≤ length l
    → l₁ ≡ written l at (last_digits count n) → Wrote most (decimal n) l l₁ at (at + count)
digits_written most l l₁ at n count e f r q =
    wrote_all l at (decimal n) (omega arith) (ap (λ (k : ℕ). at + k) e) (omega arith)
    (q ∙ ap (λ (k : ℕ). written l at (last_digits k n)) e ∙ ap (λ (d : List ℕ). written l at d) (sym (all_digits n)))

-- its last k digits behind the others
pub split_written : (most k n q m : ℕ) {few : ℕ} {l l₁ l₂ : List ℕ} {at p next : ℕ} → n ≡ shift k q + m → 0 < q → m < shift k 1
    → few + k ≤ most → at + most ≤ length l → next ≡ p + k
    → Wrote few (decimal q) l l₁ at p → l₂ ≡ written l₁ p (last_digits k m) → Wrote most (decimal n) l l₂ at next
split_written most k n q m {few} {l} {l₁} {l₂} {at} {p} {next} e h i f r g w b =
    subst (λ (a : List ℕ). Wrote most a l l₂ at next) (sym (decimal_split k n q m e h i))
    (wrote_join most (omega arith) (omega arith) w low)
  where
    low : Wrote k (last_digits k m) l₁ l₂ p next
    low =
        let z = length_last k m in
        let y = w.few in
        let x = w.kept in
        wrote_all l₁ p (last_digits k m) (omega arith) (omega arith) (omega arith) b

-- A NUMBER IS SPELLED IN A WORD

pub at_most_four : (n : ℕ) → n < 10000 → length (decimal n) ≤ 4
at_most_four n h = few_digits 3 n h

-- four octets, and the word that they make
four_octets_lem : (l : List ℕ) → length l ≡ 4 → l ≡ get_or l 0 0 ∷ get_or l 1 0 ∷ get_or l 2 0 ∷ get_or l 3 0 ∷ []
four_octets_lem [] e = absurd (omega arith)
four_octets_lem (a ∷ []) e = absurd (omega arith)
four_octets_lem (a ∷ b ∷ []) e = absurd (omega arith)
four_octets_lem (a ∷ b ∷ c ∷ []) e = absurd (omega arith)
four_octets_lem (a ∷ b ∷ c ∷ d ∷ []) e = refl
four_octets_lem (a ∷ b ∷ c ∷ d ∷ x ∷ l) e = absurd (omega arith)

pub word_made : (l : List ℕ) → length l ≡ 4 → get_or l 0 0 < 256 → get_or l 1 0 < 256 → get_or l 2 0 < 256 → four_octets (from_le_bytes w32 l) ≡ l
word_made l e ha hb hc =
    word_of _ (get_or l 0 0) (get_or l 1 0) (get_or l 2 0) (get_or l 3 0) ha hb hc (omega arith) ∙ sym (four_octets_lem l e)

-- one to four digits, and what is left of four blanks
blanks_behind : (d : List ℕ) → 1 ≤ length d → length d ≤ 4 → take 4 (d ++ (32 ∷ 32 ∷ 32 ∷ [])) ≡ d ++ drop (length d) (32 ∷ 32 ∷ 32 ∷ 32 ∷ [])
blanks_behind [] h k = absurd (omega arith)
blanks_behind (x ∷ []) h k = refl
blanks_behind (x ∷ y ∷ []) h k = refl
blanks_behind (x ∷ y ∷ z ∷ []) h k = refl
blanks_behind (x ∷ y ∷ z ∷ u ∷ []) h k = refl
blanks_behind (x ∷ y ∷ z ∷ u ∷ v ∷ d) h k = absurd (omega arith)

-- the word of the digits written over four blanks, and their count above it
pub spelled : (n w count : ℕ) (l : List ℕ) → n < 10000 → Wrote 4 (decimal n) (32 ∷ 32 ∷ 32 ∷ 32 ∷ []) l 0 count → four_octets w ≡ l → w < 4294967296
    → Spells (w + count * 4294967296) n
unfolding written
spelled n w count l h u e f =
    record {
      octets =
          ap (λ (x : ℕ). four_octets x) (let z : (w + count * 4294967296) % 4294967296 ≡ w = omega arith in z)
          ∙ e
          ∙ u.octets
          ∙ ap (λ (k : ℕ). decimal n ++ drop k (32 ∷ 32 ∷ 32 ∷ 32 ∷ [])) (let z : 0 + length (decimal n) ≡ length (decimal n) = omega arith in z)
          ∙ sym (blanks_behind (decimal n) (some_digit n) (at_most_four n h));
      count = let z = u.behind in omega arith;
    }

-- it is written, with blanks behind it
pub spelled_written : (n w : ℕ) (l l₁ : List ℕ) (at next : ℕ) → n < 10000 → at + 4 ≤ length l → Spells w n → next ≡ at + w / 4294967296
    → l₁ ≡ written l at (four_octets (w % 4294967296)) → Began 3 4 (decimal n) l l₁ at next
spelled_written n w l l₁ at next h room s e q =
    let some = some_digit n in
    let few = at_most_four n h in
    let count = s.count in
    let rest = length-drop (length (decimal n)) blanks in
    let all = length-append (decimal n) (drop (length (decimal n)) blanks) in
    began_some 3 4 (decimal n) (drop (length (decimal n)) blanks) (omega arith) (omega arith) (omega arith) (omega arith)
    (q ∙ ap (λ (a : List ℕ). written l at a) (s.octets ∙ blanks_behind (decimal n) some few))
  where
    blanks : List ℕ
    blanks = 32 ∷ 32 ∷ 32 ∷ 32 ∷ []

-- four digits leave no blank
pub spelled_four : (n w : ℕ) → 1000 ≤ n → n < 10000 → Spells w n → four_octets (w % 4294967296) ≡ last_digits 4 n
spelled_four n w h k s =
    s.octets
    ∙ take_at (decimal n) (32 ∷ 32 ∷ 32 ∷ []) 4 (length_four n h k)
    ∙ all_digits n
    ∙ ap (λ (j : ℕ). last_digits j n) (length_four n h k)

-- a 1 stands first, and becomes a 0
less_one : (w b c d : ℕ) → four_octets w ≡ 49 ∷ b ∷ c ∷ d ∷ [] → four_octets (w - 1) ≡ 48 ∷ b ∷ c ∷ d ∷ []
unfolding four_octets
less_one w b c d e =
    let low : w % 256 ≡ 49 = cc in
    let one : (w - 1) % 256 ≡ 48 = omega arith in
    let two : (w - 1) / 256 ≡ w / 256 = omega arith in
    let three : (w - 1) / 65536 ≡ w / 65536 = omega arith in
    let four : (w - 1) / 16777216 ≡ w / 16777216 = omega arith in
    cc

thousand_more : (n : ℕ) → n < 1000 → last_digits 4 (n + 1000) ≡ 49 ∷ digit_char (n / 10 / 10 % 10) ∷ digit_char (n / 10 % 10) ∷ digit_char (n % 10) ∷ []
unfolding last_digits
thousand_more n h =
    let a : (n + 1000) / 10 / 10 / 10 % 10 ≡ 1 = omega arith in
    let b : (n + 1000) / 10 / 10 % 10 ≡ n / 10 / 10 % 10 = omega arith in
    let c : (n + 1000) / 10 % 10 ≡ n / 10 % 10 = omega arith in
    let d : (n + 1000) % 10 ≡ n % 10 = omega arith in
    rw (a, b, c, d) refl

-- so the word of 1,000 more has something to lose
pub spelled_first : (n w : ℕ) → n < 1000 → Spells w (n + 1000) → 1 ≤ w % 4294967296
unfolding four_octets
spelled_first n w h s =
    let e = spelled_four (n + 1000) w (omega arith) (omega arith) s ∙ thousand_more n h in
    let low : w % 4294967296 % 256 ≡ 49 = cc in
    omega arith

pub spelled_low : (n w : ℕ) → n < 1000 → Spells w (n + 1000) → four_octets (w % 4294967296 - 1) ≡ last_digits 4 n
unfolding last_digits
spelled_low n w h s =
    less_one (w % 4294967296) (digit_char (n / 10 / 10 % 10)) (digit_char (n / 10 % 10)) (digit_char (n % 10))
    (spelled_four (n + 1000) w (omega arith) (omega arith) s ∙ thousand_more n h)
    ∙ ap (λ (x : ℕ). digit_char x ∷ digit_char (n / 10 / 10 % 10) ∷ digit_char (n / 10 % 10) ∷ digit_char (n % 10) ∷ [])
    (let z : 0 ≡ n / 10 / 10 / 10 % 10 = omega arith in z)

-- a number of five to eight digits: the spelled ones, and four of a word behind them
pub eight_written : (n w : ℕ) {l l₁ l₂ : List ℕ} {at p : ℕ} → 10000 ≤ n → at + 8 ≤ length l → Began 3 4 (decimal (n / 10000)) l l₁ at p
    → four_octets w ≡ last_digits 4 (n % 10000) → l₂ ≡ written l₁ p (four_octets w) → Wrote 8 (decimal n) l l₂ at (p + 4)
eight_written n w {l} {l₁} {l₂} {at} {p} h room b e q =
    subst (λ (a : List ℕ). Wrote 8 a l l₂ at (p + 4))
    (sym (decimal_split 4 n (n / 10000) (n % 10000) (omega arith) (omega arith) (omega arith)))
    (let z = length_last 4 (n % 10000) in began_then (omega arith) b low)
  where
    low : Wrote 4 (last_digits 4 (n % 10000)) l₁ l₂ p (p + 4)
    low =
        let z = length_last 4 (n % 10000) in
        let y = b.few in
        let x = b.kept in
        wrote_all l₁ p (last_digits 4 (n % 10000)) (omega arith) (omega arith) (omega arith) (q ∙ ap (λ (a : List ℕ). written l₁ p a) e)

-- the table, one number further
pub spelled_more : (numbers : List ℕ) (n word : ℕ) → n < length numbers → ((k : ℕ) → k < n → Spells (get_or numbers k 0) k) → Spells word n
    → (k : ℕ) → k < n + 1 → Spells (get_or (set numbers n word) k 0) k
spelled_more numbers n word h below s k i =
    by_lt k n
    (λ less. subst (λ (x : ℕ). Spells x k) (sym (get_or-set_other numbers n k word 0 (omega arith))) (below k less))
    (λ least.
    let same : n ≡ k = omega arith in
    subst (λ (j : ℕ). Spells (get_or (set numbers n word) j 0) j) same
    (subst (λ (x : ℕ). Spells x n) (sym (get_or-set_same numbers n word 0 h)) s))

-- HEXADECIMAL

hex_append : (a b : List ℕ) → hexadecimal (a ++ b) ≡ hexadecimal a ++ hexadecimal b
unfolding hexadecimal
hex_append [] b = refl
hex_append (x ∷ a) b = ap (λ (h : List ℕ). digit_char (x / 16) ∷ digit_char (x % 16) ∷ h) (hex_append a b)

-- one octet more
hex_more : (text : List ℕ) (i x : ℕ) → i < length text → x ≡ get_or text i 0
    → hexadecimal (take i text) ++ (digit_char (x / 16) ∷ digit_char (x % 16) ∷ []) ≡ hexadecimal (take (i + 1) text)
unfolding hexadecimal
hex_more text i x h e =
    ap (λ (y : ℕ). hexadecimal (take i text) ++ (digit_char (y / 16) ∷ digit_char (y % 16) ∷ [])) e
    ∙ sym (hex_append (take i text) (get_or text i 0 ∷ []))
    ∙ ap (λ (k : List ℕ). hexadecimal k) (sym (take-suc text i 0 h) ∙ ap (λ (n : ℕ). take n text) (sym (add-one i)))

pub hex_length : (text : List ℕ) → length (hexadecimal text) ≡ 2 * length text
unfolding hexadecimal
hex_length [] = refl
hex_length (x ∷ text) = let z = hex_length text in omega arith

-- its digits are stored behind those before it
pub hex_stored : (most : ℕ) (text l l₁ : List ℕ) (at i p next x u v : ℕ) → i < length text → 2 * length text ≤ most → at + 2 * length text ≤ length l → next ≡ p + 2
    → x ≡ get_or text i 0 → u ≡ digit_char (x / 16) → v ≡ digit_char (x % 16) → Wrote most (hexadecimal (take i text)) l l₁ at p
    → Wrote most (hexadecimal (take (i + 1) text)) l (set (set l₁ p u) (p + 1) v) at next
hex_stored most text l l₁ at i p next x u v h t r n e eu ev w =
    subst (λ (a : List ℕ). Wrote most a l (set (set l₁ p u) (p + 1) v) at next) line
    (wrote_join most (let z = place in omega arith) (let z = place in omega arith) w two)
  where
    place : p ≡ at + 2 * i
    place = let z = w.behind in let y = hex_length (take i text) in let f = length-take-le i text (omega arith) in omega arith

    line : hexadecimal (take i text) ++ (u ∷ v ∷ []) ≡ hexadecimal (take (i + 1) text)
    line = ap₂ (λ (y z : ℕ). hexadecimal (take i text) ++ (y ∷ z ∷ [])) eu ev ∙ hex_more text i x h e

    two : Wrote 2 (u ∷ v ∷ []) l₁ (set (set l₁ p u) (p + 1) v) p next
    two =
        subst (λ (m : ℕ). Wrote 2 (u ∷ v ∷ []) l₁ (set (set l₁ p u) (p + 1) v) p m) (sym n)
        (pair_stored l₁ p u v (let k = w.kept in let z = place in omega arith))

pub hex_none : (most : ℕ) (text l : List ℕ) (at : ℕ) → Wrote most (hexadecimal (take 0 text)) l l at at
unfolding hexadecimal
hex_none most text l at = record { octets = sym (written_none l at); behind = omega arith; few = omega arith; kept = refl }

pub hex_done : (text l l₁ : List ℕ) (i : ℕ) → i ≡ text_octets → length text ≡ text_octets → length l ≡ text_digits → Wrote text_digits (hexadecimal (take i text)) l l₁ 0 (2 * i)
    → l₁ ≡ hexadecimal text
hex_done text l l₁ i e t r w =
    w.octets
    ∙ ap (λ (a : List ℕ). written l 0 (hexadecimal a)) (take_all i text (omega arith))
    ∙ written_whole l (hexadecimal text) (let z = hex_length text in omega arith)

-- the first octets have the first digits
pub hex_front : (size : ℕ) (text : List ℕ) → take (2 * size) (hexadecimal text) ≡ hexadecimal (take size text)
unfolding hexadecimal
hex_front zero text = refl
hex_front (suc size) [] = take-nil (2 * suc size)
hex_front (suc size) (x ∷ text) =
    ap (λ (n : ℕ). take n (digit_char (x / 16) ∷ digit_char (x % 16) ∷ hexadecimal text))
    (let z : 2 * suc size ≡ suc (suc (2 * size)) = omega arith in z)
    ∙ ap (λ (a : List ℕ). digit_char (x / 16) ∷ digit_char (x % 16) ∷ a) (hex_front size text)
