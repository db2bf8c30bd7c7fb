-- Laws of the parts of a line, written one after the other.
use mathlib.Core.Path.{◌≡◌, refl, sym, ap, ap₂, ◌∙◌, subst}
use mathlib.Core.Bool.{Bool, cond}
use mathlib.Core.List.{List, [], ◌∷◌, ◌++◌, append_assoc, append-nil}
use Prim.Native.Nat.{ℕ, zero, suc, ◌+◌, ◌*◌, ◌≤◌, ◌<◌}
use native.Mathlib.Omega.{arith}
use lib.ListN.{length, take, set, length-append, length-set}
use lib.Seq.{length-take-le, take_all}
use lib.Dec.{eqb}
use borrow.Author.Tests.{eq-eqb, ne_eqb}
use Rattle.protocol.proofs.Tests.{by_lt}
use Rattle.protocol.specs.Events.{Report, Answer, accepted, refused}
use Rattle.protocol.specs.Printed.{digit_char, decimal, hexadecimal, field, text_field, report_fields, rest_of, line_of}
use Rattle.frame_lines.specs.Lines.{written, Wrote, Began, four_octets, longest_number, longest_field, short_field, longest_pair, longest_head, longest_numbers}
use Rattle.frame_lines.specs.Lines.{text_octets, long_digits, longest_text, longest_fields, longest_rest, longest_no, short_rest}
use Rattle.frame_lines.proofs.Octets.{wrote_one, wrote_all, wrote_then, wrote_wider, began_all, began_then, began_more, pair_stored}
use Rattle.frame_lines.proofs.Numbers.{digit_small, decimal_one, some_digit, word_of, digit_written, hex_length, hex_front}

pub field_written : (n : ℕ) (l : List ℕ) (at : ℕ) {l₁ : List ℕ} {next : ℕ} → at + longest_field ≤ length l
    → Wrote longest_number (decimal n) (set l at 32) l₁ (at + 1) next → Wrote longest_field (field n) l l₁ at next
field_written n l at h w = wrote_then (omega arith) (wrote_one l at 32 (at + 1) (omega arith) refl) w

-- a number of one digit
pub field_short : (n x : ℕ) (l : List ℕ) (at : ℕ) → at + 2 ≤ length l → n < 10 → x ≡ digit_char n
    → Wrote 2 (field n) l (set (set l at 32) (at + 1) x) at (at + 2)
field_short n x l at h i e =
    wrote_then (omega arith) (wrote_one l at 32 (at + 1) (omega arith) refl)
    (digit_written (set l at 32) (at + 1) n x (at + 2) i (simp length-set (omega arith)) e (omega arith))

-- a number by the table
pub field_spelled : (n : ℕ) (l : List ℕ) (at : ℕ) {l₁ : List ℕ} {next : ℕ} → at + short_field ≤ length l → Began 3 4 (decimal n) (set l at 32) l₁ (at + 1) next
    → Began 3 short_field (field n) l l₁ at next
field_spelled n l at h w = began_more (began_all 3 (omega arith) (wrote_one l at 32 (at + 1) (omega arith) refl)) w

-- two of them, in a word
pub fields_short : (x y : ℕ) (l l₁ : List ℕ) (at : ℕ) → at + longest_pair ≤ length l → x < 10 → y < 10
    → l₁ ≡ written l at (four_octets (807415840 + x * 256 + y * 16777216)) → Wrote longest_pair (field x ++ field y) l l₁ at (at + 4)
fields_short x y l l₁ at h i j q =
    subst (λ (a : List ℕ). Wrote longest_pair a l l₁ at (at + 4)) (ap₂ (λ (a b : List ℕ). (32 ∷ a) ++ (32 ∷ b)) (sym (decimal_one x i)) (sym (decimal_one y j)))
    (wrote_all l at (32 ∷ digit_char x ∷ 32 ∷ digit_char y ∷ []) (omega arith) refl (omega arith) (q ∙ ap (λ (a : List ℕ). written l at a) octets))
  where
    octets : four_octets (807415840 + x * 256 + y * 16777216) ≡ 32 ∷ digit_char x ∷ 32 ∷ digit_char y ∷ []
    octets =
        let a = digit_small x i in
        let b = digit_small y j in
        word_of _ 32 (digit_char x) 32 (digit_char y) (omega arith) (omega arith) (omega arith) (omega arith)

-- two pairs of fields are four fields
pub four_joined : (x y z w : ℕ) {over most : ℕ} {l l₁ : List ℕ} {at next : ℕ} → Began over most (field x ++ field y ++ (field z ++ field w)) l l₁ at next
    → Began over most (field x ++ field y ++ field z ++ field w) l l₁ at next
four_joined x y z w {over} {most} {l} {l₁} {at} {next} u =
    subst (λ (a : List ℕ). Began over most a l l₁ at next) (sym (append_assoc (field x ++ field y) (field z) (field w))) u

-- A TEXT

none_of : (room : List ℕ) (size : ℕ) → size ≡ 0 → take size room ≡ []
none_of room zero e = refl
none_of room (suc size) e = absurd (omega arith)

pub text_empty : (room l : List ℕ) (at size : ℕ) → size ≡ 0 → at + longest_text ≤ length l
    → Wrote longest_text (text_field (take size room)) l (set (set l at 32) (at + 1) 45) at (at + 2)
text_empty room l at size e h = rw (none_of room size e) (wrote_wider (omega arith) (pair_stored l at 32 45 (omega arith)))

some_text : (text l l₁ : List ℕ) (at next : ℕ) → 0 < length text → at + longest_text ≤ length l → Wrote long_digits (hexadecimal text) (set l at 32) l₁ (at + 1) next
    → Wrote longest_text (text_field text) l l₁ at next
some_text [] l l₁ at next e h w = absurd (omega arith)
some_text (x ∷ text) l l₁ at next e h w = wrote_then (omega arith) (wrote_one l at 32 (at + 1) (omega arith) refl) w

-- the first digits of a room
pub text_some : (room digits l l₁ : List ℕ) (at size : ℕ) → (size ≡ 0 → ⊥) → size ≤ text_octets → length room ≡ text_octets → at + longest_text ≤ length l
    → digits ≡ hexadecimal room → l₁ ≡ written (set l at 32) (at + 1) (take (2 * size) digits) → Wrote longest_text (text_field (take size room)) l l₁ at (at + 1 + 2 * size)
text_some room digits l l₁ at size e k r h d q =
    some_text (take size room) l l₁ at (at + 1 + 2 * size) (let z = few in let y = some in omega arith) h
    (wrote_all (set l at 32) (at + 1) (hexadecimal (take size room))
    (let z = long in let y = length-set l at 32 in omega arith) (let z = long in omega arith) (omega arith)
    (q ∙ ap (λ (a : List ℕ). written (set l at 32) (at + 1) a) (ap (λ (a : List ℕ). take (2 * size) a) d ∙ hex_front size room)))
  where
    few : length (take size room) ≡ size
    few = length-take-le size room (omega arith)

    long : length (hexadecimal (take size room)) ≡ 2 * size
    long = let z = hex_length (take size room) in let y = few in omega arith

    some : 0 < size
    some = by_lt 0 size (λ s. s) (λ s. absurd (e (omega arith)))

-- all digits of a text
pub text_long : (text l l₁ : List ℕ) (at i next : ℕ) → i ≡ length text → 0 < length text → at + longest_text ≤ length l
    → Wrote long_digits (hexadecimal (take i text)) (set l at 32) l₁ (at + 1) next → Wrote longest_text (text_field text) l l₁ at next
text_long text l l₁ at i next e some h w =
    some_text text l l₁ at next some h
    (subst (λ (a : List ℕ). Wrote long_digits (hexadecimal a) (set l at 32) l₁ (at + 1) next) (take_all i text (omega arith)) w)

-- A REPORT

-- kind, a, b, p; and behind them w and q
abbrev head_of : Report → List ℕ
head_of r = field r.kind ++ field r.a ++ field r.b ++ field r.p

abbrev numbers : Report → List ℕ
numbers r = head_of r ++ field r.w ++ field r.q

-- two fields cover three octets, and so do all
fields_long : (x y : ℕ) → 3 ≤ length (field x ++ field y)
fields_long x y = let z = length-append (field x) (field y) in let a = some_digit x in let b = some_digit y in omega arith

report_long : (r : Report) → 3 ≤ length (report_fields r)
report_long r =
    let z = fields_long r.w r.q in
    let y = length-append (head_of r) (field r.w ++ field r.q) in
    let x = ap (λ (l : List ℕ). length l) (append_assoc (head_of r) (field r.w) (field r.q)) in
    let v = length-append (numbers r) (cond (eqb r.kind 4) (text_field r.text) []) in
    omega arith

module _ (r : Report) where
  -- the head by the table, and w and q
  pub numbers_spelled : {l l₁ l₂ : List ℕ} {at p₁ p₂ : ℕ} → Began 3 longest_head (head_of r) l l₁ at p₁ → Wrote longest_pair (field r.w ++ field r.q) l₁ l₂ p₁ p₂
      → Wrote longest_numbers (numbers r) l l₂ at p₂
  numbers_spelled {l} {l₁} {l₂} {at} {p₁} {p₂} head last =
      subst (λ (x : List ℕ). Wrote longest_numbers x l l₂ at p₂) (sym (append_assoc (head_of r) (field r.w) (field r.q)))
      (began_then (fields_long r.w r.q) head last)

  -- three pairs of numbers
  pub numbers_paired : {l l₁ l₂ l₃ : List ℕ} {at p₁ p₂ p₃ : ℕ} → at + longest_numbers ≤ length l → Wrote longest_pair (field r.kind ++ field r.a) l l₁ at p₁
      → Wrote longest_pair (field r.b ++ field r.p) l₁ l₂ p₁ p₂ → Wrote longest_pair (field r.w ++ field r.q) l₂ l₃ p₂ p₃ → Wrote longest_numbers (numbers r) l l₃ at p₃
  numbers_paired room u v w =
      let head = wrote_then (omega arith) u v in
      numbers_spelled (four_joined r.kind r.a r.b r.p (began_all 3 (let z = head.few in omega arith) head)) w

  module _ {l l₁ : List ℕ} {at p : ℕ} (room : at + longest_fields ≤ length l) (written : Wrote longest_numbers (numbers r) l l₁ at p) where
    pub with_text_lem : {l₂ : List ℕ} {next : ℕ} → r.kind ≡ 4 → Wrote longest_text (text_field r.text) l₁ l₂ p next → Wrote longest_fields (report_fields r) l l₂ at next
    with_text_lem {l₂} {next} k t =
        subst (λ (x : Bool). Wrote longest_fields (numbers r ++ cond x (text_field r.text) []) l l₂ at next) (sym (eq-eqb r.kind 4 k))
        (wrote_then (omega arith) written t)

    pub without_text : (r.kind ≡ 4 → ⊥) → Wrote longest_fields (report_fields r) l l₁ at p
    without_text k =
        subst (λ (x : Bool). Wrote longest_fields (numbers r ++ cond x (text_field r.text) []) l l₁ at p) (sym (ne_eqb r.kind 4 k))
        (subst (λ (x : List ℕ). Wrote longest_fields x l l₁ at p) (sym (append-nil (numbers r))) (wrote_wider (omega arith) written))

-- LINES

-- the rest of a line
pub accepted_ended : (r : Report) {l l₁ : List ℕ} {at q : ℕ} → at + longest_rest ≤ length l → Wrote longest_fields (report_fields r) l l₁ at q
    → Wrote longest_rest (rest_of (accepted r)) l (set l₁ q 10) at (q + 1)
unfolding rest_of
accepted_ended r {l} {l₁} {at} {q} h v = wrote_then (omega arith) v (wrote_one l₁ q 10 (q + 1) (let z = v.few in let y = v.kept in omega arith) refl)

pub refused_ended : (number : ℕ) {l l₁ l₂ : List ℕ} {at p q : ℕ} → at + short_rest ≤ length l → Wrote longest_no (32 ∷ 110 ∷ 111 ∷ []) l l₁ at p
    → Wrote longest_field (field number) l₁ l₂ p q → Wrote short_rest (rest_of (refused number)) l (set l₂ q 10) at (q + 1)
unfolding rest_of
refused_ended number {l} {l₁} {l₂} {at} {p} {q} h v w =
    let both = wrote_then (omega arith) v w in
    wrote_then (omega arith) both (wrote_one l₂ q 10 (q + 1) (let z = both.few in let y = both.kept in omega arith) refl)

-- it covers what the index left behind it
rest_long : (a : Answer) → 3 ≤ length (rest_of a)
unfolding rest_of
rest_long (accepted r) = let z = length-append (report_fields r) (10 ∷ []) in let y = report_long r in omega arith
rest_long (refused n) = let z = length-append (32 ∷ 110 ∷ 111 ∷ field n) (10 ∷ []) in omega arith

-- the index and the rest are the line
pub line_written : (index : ℕ) (a : Answer) {most : ℕ} {l l₁ l₂ : List ℕ} {at p q : ℕ} → Began 3 longest_number (decimal index) l l₁ at p
    → Wrote most (rest_of a) l₁ l₂ p q → Wrote (longest_number + most) (line_of index a) l l₂ at q
unfolding line_of
line_written index a u v = began_then (rest_long a) u v
