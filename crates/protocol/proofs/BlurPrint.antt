-- What is printed for two inputs whose frames differ only in text octets is the same but for the digits of the texts.
use mathlib.Core.Path.{ap, ap₂, refl, sym, ◌∙◌, ◌≡◌}
use mathlib.Core.Bool.{cond, true, ◌||◌}
use mathlib.Core.List.{◌++◌, List, [], append_assoc, append-nil, map, ◌∷◌}
use Prim.Native.Nat.{◌%◌, ◌+◌, ◌/◌, ◌<◌, suc, zero, ℕ, ◌≤◌}
use native.Mathlib.Omega.{arith}
use lib.Dec.{eqb, ltb}
use lib.ListN.{drop, length, length-drop}
use borrow.Author.Tests.{ne_eqb}
use Rattle.protocol.specs.Floor.{Floor, Limits}
use Rattle.protocol.specs.Events.{Answer, Event, Report, accepted, refused}
use Rattle.protocol.specs.Step.{answer, step}
use Rattle.protocol.specs.Frames.{Reading, end, event_of, fields_of, frame_of, frame_refusal, frames_from, refused_frame, taken, text_length}
use Rattle.protocol.specs.Printed.{decimal, decimal_digits, digit_char, field, hexadecimal, line_of, lines_from, rest_of, text_field}
use Rattle.protocol.specs.Blur.{blur, blur_answer, blur_printed, blur_reading, blur_text}
use Rattle.protocol.proofs.Tests.{by_test, on_cond}
use Rattle.protocol.proofs.BlurRun.{answer_blurred, step_blurred}

-- HOW MANY FRAMES: more than there are octets changes nothing

-- a frame that is taken has octets
frame_size : (M : Limits) (l : List ℕ) (e : Event) (size : ℕ) → frame_of M l ≡ taken e size → (0 < size) × (0 < length l)
unfolding frame_of
frame_size M [] e size q = absurd (let y : end ≡ taken e size = q in let z : ◌≡◌ {A = ℕ} 0 1 = cc in omega arith)
frame_size M (x ∷ l) e size q =
    by_test (eqb (frame_refusal M (x ∷ l)) 0)
    (λ r. let f = fields_of (x ∷ l) in
    let y : taken (event_of M f _) (16 + text_length f) ≡ taken e size = rw r at q in
    let z : 16 + text_length f ≡ size = cc in (omega arith, omega arith))
    (λ r. absurd (let y : refused_frame (frame_refusal M (x ∷ l)) ≡ taken e size = rw r at q in let z : ◌≡◌ {A = ℕ} 0 1 = cc in omega arith))

one_more : (M : Limits) (a b : ℕ) (l : List ℕ) → ((x : List ℕ) → length x < a → length x < b → frames_from M a x ≡ frames_from M b x)
    → length l < suc a → length l < suc b → (r : Reading) → frame_of M l ≡ r → frames_from M (suc a) l ≡ frames_from M (suc b) l
unfolding frames_from
one_more M a b l rest la lb end q = rw (q, frames_from)
one_more M a b l rest la lb (refused_frame r) q = rw (q, frames_from)
one_more M a b l rest la lb (taken e size) q =
    let s = frame_size M l e size q in
    let some = s.0 in
    let more = s.1 in
    let d = length-drop size l in
    rw (q, frames_from) (ap (λ (x : List Reading). taken e size ∷ x) (rest (drop size l) (omega arith) (omega arith)))

pub frames_enough : (M : Limits) (a b : ℕ) (l : List ℕ) → length l < a → length l < b → frames_from M a l ≡ frames_from M b l
frames_enough M zero b l la lb = absurd (omega arith)
frames_enough M (suc a) zero l la lb = absurd (omega arith)
frames_enough M (suc a) (suc b) l la lb = one_more M a b l (λ x xa xb. frames_enough M a b x xa xb) la lb (frame_of M l) refl

-- THE LINES of frames: what is printed is by the frames alone

pub lines_of : Limits → Floor → ℕ → List Reading → List ℕ
lines_of M F index [] = []
lines_of M F index (end ∷ l) = []
lines_of M F index (refused_frame r ∷ l) = line_of index (refused r)
lines_of M F index (taken e size ∷ l) = line_of index (answer M F e) ++ lines_of M (step M F e) (suc index) l

one_line : (M : Limits) (k : ℕ) (F : Floor) (index : ℕ) (l : List ℕ)
    → ((X : Floor) (i : ℕ) (x : List ℕ) → lines_from M k X i x ≡ lines_of M X i (frames_from M k x))
    → (r : Reading) → frame_of M l ≡ r → lines_from M (suc k) F index l ≡ lines_of M F index (frames_from M (suc k) l)
unfolding lines_from frames_from lines_of
one_line M k F index l rest end q = rw (q, lines_from, frames_from)
one_line M k F index l rest (refused_frame r) q = rw (q, lines_from, frames_from)
one_line M k F index l rest (taken e size) q =
    rw (q, lines_from, frames_from) (ap (λ (x : List ℕ). line_of index (answer M F e) ++ x) (rest (step M F e) (suc index) (drop size l)))

pub lines_by_frames : (M : Limits) (k : ℕ) (F : Floor) (index : ℕ) (l : List ℕ) → lines_from M k F index l ≡ lines_of M F index (frames_from M k l)
unfolding lines_from frames_from lines_of
lines_by_frames M zero F index l = refl
lines_by_frames M (suc k) F index l = one_line M k F index l (λ X i x. lines_by_frames M k X i x) (frame_of M l) refl

-- PRINTED OCTETS: with b blanks before x on its line it is blurred to y, and c blanks are before what follows
abbrev Blurs : ℕ → List ℕ → ℕ → List ℕ → Type 0
Blurs b x d y = (r : List ℕ) → blur_printed b (x ++ r) ≡ y ++ blur_printed d r

blurs_both : (b d e : ℕ) (x y u v : List ℕ) → Blurs b x d y → Blurs d u e v → Blurs b (x ++ u) e (y ++ v)
blurs_both b d e x y u v f g r =
    ap (λ (z : List ℕ). blur_printed b z) (append_assoc x u r) ∙ f (u ++ r) ∙ ap (λ (z : List ℕ). y ++ z) (g r) ∙ sym
    (append_assoc y v (blur_printed e r))

-- digits and letters: no line end, no blank and no "-"
abbrev High : List ℕ → Type 0
High [] = Unit {0}
High (x ∷ l) = (48 ≤ x) × High l

one_char : (b x : ℕ) (r : List ℕ) → 48 ≤ x → blur_printed b (x ∷ r) ≡ cond (ltb b 7) x 48 ∷ blur_printed b r
unfolding blur_printed
one_char b x r h =
    rw (ne_eqb x 10 (λ e. omega arith), ne_eqb x 32 (λ e. omega arith), ne_eqb x 45 (λ e. omega arith))
    (by_test (ltb b 7) (λ e. rw e) (λ e. rw e))

high_blurs : (b : ℕ) (l : List ℕ) → ltb b 7 ≡ true → High l → Blurs b l b l
high_blurs b [] e h r = refl
high_blurs b (x ∷ l) e h r = one_char b x (l ++ r) h.0 ∙ rw e (ap (λ (z : List ℕ). x ∷ z) (high_blurs b l e h.1 r))

high_both : (x y : List ℕ) → High x → High y → High (x ++ y)
high_both [] y h g = g
high_both (x ∷ l) y h g = (h.0, high_both l y h.1 g)

digit_high : (d : ℕ) → 48 ≤ digit_char d
digit_high d = on_cond (λ x. 48 ≤ x) (ltb d 10) (λ e. omega arith) (λ e. omega arith)

digits_high : (k n : ℕ) → High (decimal_digits k n)
unfolding decimal_digits
digits_high zero n = tt
digits_high (suc k) n =
    by_test (ltb n 10)
    (λ e. rw (e, decimal_digits) (digit_high n, tt))
    (λ e. rw (e, decimal_digits) (high_both (decimal_digits k (n / 10)) (digit_char (n % 10) ∷ []) (digits_high k (n / 10)) (digit_high (n % 10), tt)))

decimal_high : (n : ℕ) → High (decimal n)
unfolding decimal
decimal_high n = digits_high (suc n) n

-- a field that is not the seventh is kept
field_blurs : (b n : ℕ) → ltb (suc b) 7 ≡ true → Blurs b (field n) (suc b) (field n)
unfolding blur_printed
field_blurs b n e r = ap (λ (z : List ℕ). 32 ∷ z) (high_blurs (suc b) (decimal n) e (decimal_high n) r)

-- of the seventh each digit is 0
hexadecimal_blurs : (l : List ℕ) → Blurs 7 (hexadecimal l) 7 (hexadecimal (blur_text l))
unfolding hexadecimal
hexadecimal_blurs [] r = refl
hexadecimal_blurs (x ∷ l) r =
    one_char 7 (digit_char (x / 16)) (digit_char (x % 16) ∷ (hexadecimal l ++ r)) (digit_high (x / 16))
    ∙ ap (λ (z : List ℕ). 48 ∷ z) (one_char 7 (digit_char (x % 16)) (hexadecimal l ++ r) (digit_high (x % 16)) ∙ ap (λ (z : List ℕ). 48 ∷ z)
    (hexadecimal_blurs l r))

text_blurs : (l : List ℕ) → Blurs 6 (text_field l) 7 (text_field (blur_text l))
unfolding blur_printed
text_blurs [] r = refl
text_blurs (x ∷ l) r = ap (λ (z : List ℕ). 32 ∷ z) (hexadecimal_blurs (x ∷ l) r)

end_blurs : (b : ℕ) → Blurs b (10 ∷ []) 0 (10 ∷ [])
unfolding blur_printed
end_blurs b r = refl

-- LINES
abbrev six_fields : Report → List ℕ
six_fields l = field l.kind ++ field l.a ++ field l.b ++ field l.p ++ field l.w ++ field l.q

one_field : (b : ℕ) (x : List ℕ) (n : ℕ) → ltb (suc b) 7 ≡ true → Blurs 0 x b x → Blurs 0 (x ++ field n) (suc b) (x ++ field n)
one_field b x n e f = blurs_both 0 b (suc b) x x (field n) (field n) f (field_blurs b n e)

six_blurs : (l : Report) → Blurs 0 (six_fields l) 6 (six_fields l)
six_blurs l =
    let one = field l.kind in
    let two = one ++ field l.a in
    let three = two ++ field l.b in
    let four = three ++ field l.p in
    let five = four ++ field l.w in
    one_field 5 five l.q refl (one_field 4 four l.w refl (one_field 3 three l.p refl (one_field 2 two l.b refl
    (one_field 1 one l.a refl (field_blurs 0 l.kind refl)))))

no_blurs : (n : ℕ) → Blurs 0 (32 ∷ 110 ∷ 111 ∷ field n) 2 (32 ∷ 110 ∷ 111 ∷ field n)
unfolding blur_printed
no_blurs n r = ap (λ (z : List ℕ). 32 ∷ 110 ∷ 111 ∷ z) (field_blurs 1 n refl r)

rest_blurs : (a : Answer) → Blurs 0 (rest_of a) 0 (rest_of (blur_answer a))
unfolding rest_of
rest_blurs (refused n) =
    blurs_both 0 2 0 (32 ∷ 110 ∷ 111 ∷ field n) (32 ∷ 110 ∷ 111 ∷ field n) (10 ∷ []) (10 ∷ []) (no_blurs n) (end_blurs 2)
rest_blurs (accepted l) =
    by_test (eqb l.kind 4)
    (λ e. rw e (blurs_both 0 7 0 (six_fields l ++ text_field l.text) (six_fields l ++ text_field (blur_text l.text)) (10 ∷ []) (10 ∷ [])
    (blurs_both 0 6 7 (six_fields l) (six_fields l) (text_field l.text) (text_field (blur_text l.text)) (six_blurs l) (text_blurs l.text))
    (end_blurs 7)))
    (λ e. rw e (blurs_both 0 6 0 (six_fields l ++ []) (six_fields l ++ []) (10 ∷ []) (10 ∷ [])
    (blurs_both 0 6 6 (six_fields l) (six_fields l) [] [] (six_blurs l) (λ r. refl)) (end_blurs 6)))

line_blurs : (index : ℕ) (a : Answer) → Blurs 0 (line_of index a) 0 (line_of index (blur_answer a))
unfolding line_of
line_blurs index a =
    blurs_both 0 0 0 (decimal index) (decimal index) (rest_of a) (rest_of (blur_answer a)) (high_blurs 0 (decimal index) refl (decimal_high index))
    (rest_blurs a)

-- the lines of a run, blurred, are those of the blurred run
pub lines_blurred : (M : Limits) (F : Floor) (index : ℕ) (l : List Reading)
    → blur_printed 0 (lines_of M F index l) ≡ lines_of M (blur F) index (map blur_reading l)
unfolding lines_of blur_printed
lines_blurred M F index [] = refl
lines_blurred M F index (end ∷ l) = refl
lines_blurred M F index (refused_frame r ∷ l) =
    ap (λ (z : List ℕ). blur_printed 0 z) (sym (append-nil (line_of index (refused r)))) ∙ line_blurs index (refused r) [] ∙ append-nil
    (line_of index (refused r))
lines_blurred M F index (taken e size ∷ l) =
    line_blurs index (answer M F e) (lines_of M (step M F e) (suc index) l)
    ∙ ap₂ (λ (a : Answer) (x : List ℕ). line_of index a ++ x) (sym (answer_blurred M F e))
    (lines_blurred M (step M F e) (suc index) l ∙ ap (λ (X : Floor). lines_of M X (suc index) (map blur_reading l)) (sym (step_blurred M F e)))

-- nothing is added or taken away
pub blur_keeps_length : (b : ℕ) (l : List ℕ) → length (blur_printed b l) ≡ length l
unfolding blur_printed
blur_keeps_length b [] = refl
blur_keeps_length b (x ∷ l) =
    by_test (eqb x 10)
    (λ e. rw e (ap suc (blur_keeps_length 0 l)))
    (λ e. rw e (by_test (eqb x 32)
    (λ f. rw f (ap suc (blur_keeps_length (suc b) l)))
    (λ f. rw f (on_cond (λ (z : List ℕ). length z ≡ suc (length l)) (ltb b 7 || eqb x 45) (λ g. ap suc (blur_keeps_length b l))
    (λ g. ap suc (blur_keeps_length b l))))))
