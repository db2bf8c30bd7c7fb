-- Laws of the decoder, over plain numbers and lists.
use mathlib.Core.Path.{◌≡◌, refl, sym, ap, ap₂, ◌∙◌}
use mathlib.Core.Bool.{true, false}
use mathlib.Core.List.{List, [], ◌∷◌}
use Prim.Native.Nat.{ℕ, ◌+◌, ◌-◌, ◌*◌, ◌/◌, ◌%◌, ◌^◌, ◌≤◌, ◌<◌}
use native.Mathlib.Numerals.{add-one}
use native.Mathlib.Omega.{arith}
use lib.Dec.{eqb, ltb}
use lib.ListN.{length, get_or, take, drop, length-drop, drop_of_length-le}
use lib.Seq.{drop-cons}
use lib.Pow.{mod-pow-add, shr-shr}
use borrow.Author.Tests.{ne_eqb, lt-ltb, le-ltb, ltb-false}
use Rattle.protocol.proofs.Tests.{by_test, by_lt, by_eq}
use Rattle.protocol.proofs.Accepted.{is_long_lem}
use Rattle.protocol.specs.Floor.{limits, most_text}
use Rattle.protocol.specs.Folds.{is_empty}
use Rattle.protocol.specs.Events.{start, enter, send, wire, radio, move, flag, group, send_group, send_long, retire}
use Rattle.protocol.specs.Store.{not_long}
use Rattle.protocol.specs.Frames.{Fields, Reading, big_endian, fields_of, unlisted, text_length, wrong_length, event_of, last_kind, fields_refusal, frame_refusal, frame_of, read_at, end, refused_frame, taken}
use Rattle.frames.specs.declared.Halves.{Halves}
use Rattle.frames.specs.Decoded.{fields_in}
use Rattle.std.specs.Int.{w64, from_be_bytes}

-- NUMBERS OF EIGHT OCTETS

-- eight octets as the library makes a number of them, and as the written steps do
pub word_made : (l : List ℕ) → length l ≡ 8 → from_be_bytes w64 l ≡ big_endian 0 l
unfolding big_endian
word_made [] n = absurd (omega arith)
word_made (a ∷ []) n = absurd (omega arith)
word_made (a ∷ b ∷ []) n = absurd (omega arith)
word_made (a ∷ b ∷ c ∷ []) n = absurd (omega arith)
word_made (a ∷ b ∷ c ∷ d ∷ []) n = absurd (omega arith)
word_made (a ∷ b ∷ c ∷ d ∷ e ∷ []) n = absurd (omega arith)
word_made (a ∷ b ∷ c ∷ d ∷ e ∷ f ∷ []) n = absurd (omega arith)
word_made (a ∷ b ∷ c ∷ d ∷ e ∷ f ∷ g ∷ []) n = absurd (omega arith)
word_made (a ∷ b ∷ c ∷ d ∷ e ∷ f ∷ g ∷ h ∷ []) n = omega arith
word_made (a ∷ b ∷ c ∷ d ∷ e ∷ f ∷ g ∷ h ∷ x ∷ l) n = absurd (omega arith)

-- FIELDS

-- eight octets: the number of the first three, and that of the last five
octets_split : (a b c d e f g h : ℕ) → a < 256 → b < 256 → c < 256 → d < 256 → e < 256 → f < 256 → g < 256 → h < 256 → (n : ℕ)
    → n ≡ big_endian 0 (a ∷ b ∷ c ∷ d ∷ e ∷ f ∷ g ∷ h ∷ [])
    → (big_endian 0 (a ∷ b ∷ c ∷ []) ≡ n / 2 ^ 40) × (big_endian 0 (d ∷ e ∷ f ∷ g ∷ h ∷ []) ≡ n % 2 ^ 40)
unfolding big_endian
octets_split a b c d e f g h ha hb hc hd he hf hg hh n q = (omega arith, omega arith)

-- the same of the octets at the front of a list
front_split : (l : List ℕ) → 8 ≤ length l → ((k : ℕ) → get_or l k 0 < 256) → (n : ℕ) → n ≡ big_endian 0 (take 8 l)
    → (big_endian 0 (take 3 l) ≡ n / 2 ^ 40) × (big_endian 0 (take 5 (drop 3 l)) ≡ n % 2 ^ 40)
front_split [] m small n q = absurd (omega arith)
front_split (a ∷ []) m small n q = absurd (omega arith)
front_split (a ∷ b ∷ []) m small n q = absurd (omega arith)
front_split (a ∷ b ∷ c ∷ []) m small n q = absurd (omega arith)
front_split (a ∷ b ∷ c ∷ d ∷ []) m small n q = absurd (omega arith)
front_split (a ∷ b ∷ c ∷ d ∷ e ∷ []) m small n q = absurd (omega arith)
front_split (a ∷ b ∷ c ∷ d ∷ e ∷ f ∷ []) m small n q = absurd (omega arith)
front_split (a ∷ b ∷ c ∷ d ∷ e ∷ f ∷ g ∷ []) m small n q = absurd (omega arith)
front_split (a ∷ b ∷ c ∷ d ∷ e ∷ f ∷ g ∷ h ∷ l) m small n q =
    octets_split a b c d e f g h (small 0) (small 1) (small 2) (small 3) (small 4) (small 5) (small 6) (small 7) n q

-- the fields of the frame at the front of these octets, from the two numbers that they make
pub fields_made : (l : List ℕ) (f : Halves) → 8 ≤ length l → ((k : ℕ) → get_or l k 0 < 256) → f.head ≡ big_endian 0 (take 8 l)
    → f.set ≡ big_endian 0 (take 8 (drop 8 l)) → fields_in f ≡ fields_of l
unfolding fields_of
fields_made l f m small h s = λ i. record {
  kind = (let z = high in let q : f.head / 2 ^ 60 ≡ big_endian 0 (take 3 l) / 1048576 = omega arith in q) i;
  station = (let z = high in let q : f.head / 2 ^ 56 % 16 ≡ big_endian 0 (take 3 l) / 65536 % 16 = omega arith in q) i;
  cart = (let z = high in let q : f.head / 2 ^ 50 % 64 ≡ big_endian 0 (take 3 l) / 1024 % 64 = omega arith in q) i;
  other = (let z = high in let q : f.head / 2 ^ 46 % 16 ≡ big_endian 0 (take 3 l) / 64 % 16 = omega arith in q) i;
  length = (let z = high in let q : f.head / 2 ^ 40 % 64 ≡ big_endian 0 (take 3 l) % 64 = omega arith in q) i;
  zero = sym low i;
  set = s i;
}
  where
    high : big_endian 0 (take 3 l) ≡ f.head / 2 ^ 40
    high = (front_split l m small f.head h).0

    low : big_endian 0 (take 5 (drop 3 l)) ≡ f.head % 2 ^ 40
    low = (front_split l m small f.head h).1

-- other, length and zero are the bits below the cart
pub low_fields : (head set : ℕ)
    → (head % 2 ^ 50 + 0 + set ≡ 0 → head / 2 ^ 46 % 16 + head / 2 ^ 40 % 64 + head % 2 ^ 40 + set ≡ 0)
    × (head / 2 ^ 46 % 16 + head / 2 ^ 40 % 64 + head % 2 ^ 40 + set ≡ 0 → head % 2 ^ 50 + 0 + set ≡ 0)
low_fields head set =
    sums (head / 2 ^ 46 % 16) (head / 2 ^ 40 % 64) (head % 2 ^ 40) (head % 2 ^ 46) (head % 2 ^ 50) (mod-pow-add head 4 46) (mod-pow-add head 6 40)
  where
    sums : (other length zeros below low : ℕ) → low ≡ other * 2 ^ 46 + below → below ≡ length * 2 ^ 40 + zeros
        → (low + 0 + set ≡ 0 → other + length + zeros + set ≡ 0) × (other + length + zeros + set ≡ 0 → low + 0 + set ≡ 0)
    sums other length zeros below low e g = (λ z. omega arith, λ z. omega arith)

-- cart and other are the ten bits below the station
pub send_fields : (head : ℕ)
    → (head % 2 ^ 40 + head / 2 ^ 46 % 1024 ≡ 0 → head / 2 ^ 50 % 64 + head / 2 ^ 46 % 16 + head % 2 ^ 40 ≡ 0)
    × (head / 2 ^ 50 % 64 + head / 2 ^ 46 % 16 + head % 2 ^ 40 ≡ 0 → head % 2 ^ 40 + head / 2 ^ 46 % 1024 ≡ 0)
send_fields head =
    sums (head / 2 ^ 50 % 64) (head / 2 ^ 46 % 16) (head % 2 ^ 40) (head / 2 ^ 46 % 1024)
    (mod-pow-add (head / 2 ^ 46) 6 4 ∙ ap (λ (n : ℕ). n % 64 * 16 + head / 2 ^ 46 % 16) (shr-shr head 46 4))
  where
    sums : (cart other zeros both : ℕ) → both ≡ cart * 16 + other
        → (zeros + both ≡ 0 → cart + other + zeros ≡ 0) × (cart + other + zeros ≡ 0 → zeros + both ≡ 0)
    sums cart other zeros both e = (λ z. omega arith, λ z. omega arith)

-- cart, other and length are the sixteen bits below the station
pub long_fields : (head : ℕ)
    → (head % 2 ^ 40 / 65536 + head / 2 ^ 40 % 65536 + 0 ≡ 0 → head / 2 ^ 50 % 64 + head / 2 ^ 46 % 16 + head / 2 ^ 40 % 64 + head % 2 ^ 40 / 65536 ≡ 0)
    × (head / 2 ^ 50 % 64 + head / 2 ^ 46 % 16 + head / 2 ^ 40 % 64 + head % 2 ^ 40 / 65536 ≡ 0 → head % 2 ^ 40 / 65536 + head / 2 ^ 40 % 65536 + 0 ≡ 0)
long_fields head =
    sums (head / 2 ^ 50 % 64) (head / 2 ^ 46 % 16) (head / 2 ^ 40 % 64) (head % 2 ^ 40 / 65536) (head / 2 ^ 46 % 1024) (head / 2 ^ 40 % 65536)
    (mod-pow-add (head / 2 ^ 46) 6 4 ∙ ap (λ (n : ℕ). n % 64 * 16 + head / 2 ^ 46 % 16) (shr-shr head 46 4))
    (mod-pow-add (head / 2 ^ 40) 10 6 ∙ ap (λ (n : ℕ). n % 1024 * 64 + head / 2 ^ 40 % 64) (shr-shr head 40 6))
  where
    sums : (cart other length zeros both all : ℕ) → both ≡ cart * 16 + other → all ≡ both * 64 + length
        → (zeros + all + 0 ≡ 0 → cart + other + length + zeros ≡ 0) × (cart + other + length + zeros ≡ 0 → zeros + all + 0 ≡ 0)
    sums cart other length zeros both all e g = (λ z. omega arith, λ z. omega arith)

-- the last sixteen bits are of the zero field
pub low_sixteen : (head : ℕ) → head % 65536 ≡ head % 2 ^ 40 % 65536
low_sixteen head = omega arith

-- the fields not listed for a kind
module _ (f : Fields) where
  pub unlisted_start : f.kind ≡ 0 → unlisted f ≡ f.other + f.length + f.zero + f.set
  unfolding unlisted
  unlisted_start k = rw k refl

  pub unlisted_enter : f.kind ≡ 1 → unlisted f ≡ f.other + f.length + f.zero + f.set
  unfolding unlisted
  unlisted_enter k = rw k refl

  pub unlisted_send : f.kind ≡ 2 → unlisted f ≡ f.cart + f.other + f.zero
  unfolding unlisted
  unlisted_send k = rw k refl

  pub unlisted_wire : f.kind ≡ 3 → unlisted f ≡ f.cart + f.length + f.zero + f.set
  unfolding unlisted
  unlisted_wire k = rw k refl

  pub unlisted_radio : f.kind ≡ 4 → unlisted f ≡ f.other + f.length + f.zero + f.set
  unfolding unlisted
  unlisted_radio k = rw k refl

  pub unlisted_move : f.kind ≡ 5 → unlisted f ≡ f.station + f.length + f.zero + f.set
  unfolding unlisted
  unlisted_move k = rw k refl

  pub unlisted_flag : f.kind ≡ 6 → unlisted f ≡ f.station + f.other / 2 + f.length + f.zero + f.set
  unfolding unlisted
  unlisted_flag k = rw k refl

  pub unlisted_group : f.kind ≡ 7 → unlisted f ≡ f.station + f.cart + f.length + f.zero
  unfolding unlisted
  unlisted_group k = rw k refl

  pub unlisted_send_group : f.kind ≡ 8 → unlisted f ≡ f.cart + f.zero + f.set
  unfolding unlisted
  unlisted_send_group k = rw k refl

  pub unlisted_send_long : f.kind ≡ 9 → unlisted f ≡ f.cart + f.other + f.length + f.zero / 65536
  unfolding unlisted
  unlisted_send_long k = rw k refl

  pub unlisted_retire : f.kind ≡ 10 → unlisted f ≡ f.station + f.other + f.length + f.zero + f.set
  unfolding unlisted
  unlisted_retire k = rw k refl

-- TEXTS

module _ (f : Fields) where
  pub long_length : f.kind ≡ 9 → f.zero % 65536 ≡ text_length f
  long_length k = rw k refl

  pub long_wrong : f.kind ≡ 9 → not_long limits (text_length f) ≡ wrong_length limits f
  long_wrong k = rw k refl

  module _ (k : f.kind ≡ 9 → ⊥) where
    pub short_length : f.length ≡ text_length f
    short_length = rw (ne_eqb f.kind 9 k) refl

    pub short_wrong : ltb 32 (text_length f) ≡ wrong_length limits f
    short_wrong = rw (ne_eqb f.kind 9 k) refl

  module _ (w : wrong_length limits f ≡ false) where
    -- how long a text is that is not refused
    pub long_text : f.kind ≡ 9 → (32 < text_length f) × (text_length f ≤ 512)
    long_text k = is_long_lem limits (text_length f) (long_wrong k ∙ w)

    pub short_text : (f.kind ≡ 9 → ⊥) → text_length f ≤ 32
    short_text k = ltb-false 32 (text_length f) (short_wrong k ∙ w)

    pub text_at_most : text_length f ≤ most_text limits
    text_at_most = by_eq f.kind 9 (λ k. (long_text k).1) (λ k. let z = short_text k in omega arith)

-- REFUSALS

module _ (f : Fields) (behind : ℕ) where
  pub no_kind : last_kind < f.kind → 2 ≡ fields_refusal limits f behind
  unfolding fields_refusal
  no_kind k = rw (lt-ltb last_kind f.kind k) refl

  pub stray_field : f.kind ≤ last_kind → eqb (unlisted f) 0 ≡ false → 3 ≡ fields_refusal limits f behind
  unfolding fields_refusal
  stray_field k u = rw (le-ltb last_kind f.kind k, u) refl

  module _ (k : f.kind ≤ last_kind) (u : eqb (unlisted f) 0 ≡ true) where
    pub wrong_text : wrong_length limits f ≡ true → 4 ≡ fields_refusal limits f behind
    unfolding fields_refusal
    wrong_text w = rw (le-ltb last_kind f.kind k, u, w) refl

    module _ (w : wrong_length limits f ≡ false) where
      pub cut_text : behind < text_length f → 1 ≡ fields_refusal limits f behind
      unfolding fields_refusal
      cut_text b = rw (le-ltb last_kind f.kind k, u, w, lt-ltb behind (text_length f) b) refl

      pub no_refusal : text_length f ≤ behind → 0 ≡ fields_refusal limits f behind
      unfolding fields_refusal
      no_refusal b = rw (le-ltb last_kind f.kind k, u, w, le-ltb behind (text_length f) b) refl

-- a frame that is refused for nothing before its text's end: it is not refused, or only cut
module _ (f : Fields) (behind : ℕ) (e : fields_refusal limits f behind ≤ 1) where
  pub kind_known : f.kind ≤ last_kind
  kind_known = by_lt last_kind f.kind (λ k. absurd (let z = no_kind f behind k in omega arith)) (λ k. k)

  listed : eqb (unlisted f) 0 ≡ true
  listed = by_test (eqb (unlisted f) 0) (λ u. u) (λ u. absurd (let z = stray_field f behind kind_known u in omega arith))

  pub text_right : wrong_length limits f ≡ false
  text_right = by_test (wrong_length limits f) (λ w. absurd (let z = wrong_text f behind kind_known listed w in omega arith)) (λ w. w)

module _ (f : Fields) (behind : ℕ) where
  pub text_there : fields_refusal limits f behind ≡ 0 → text_length f ≤ behind
  text_there e =
      let one : fields_refusal limits f behind ≤ 1 = omega arith in
      by_lt behind (text_length f)
      (λ b. absurd (let z = cut_text f behind (kind_known f behind one) (listed f behind one) (text_right f behind one) b in omega arith))
      (λ b. b)

  pub text_cut : fields_refusal limits f behind ≡ 1 → behind < text_length f
  text_cut e =
      let one : fields_refusal limits f behind ≤ 1 = omega arith in
      by_lt behind (text_length f)
      (λ b. b)
      (λ b. absurd (let z = no_refusal f behind (kind_known f behind one) (listed f behind one) (text_right f behind one) b in omega arith))

-- EVENTS

-- the reading of a frame with these fields that is not refused, and these octets behind it
abbrev pub frame_with : Fields → List ℕ → Reading
frame_with f text = taken (event_of limits f text) (16 + text_length f)

module _ (f : Fields) (text : List ℕ) where
  pub start_event : f.kind ≡ 0 → start (f.station + 1) (f.cart + 1) ≡ event_of limits f text
  unfolding event_of
  start_event k = rw k (ap₂ start (add-one f.station) (add-one f.cart))

  pub enter_event : f.kind ≡ 1 → enter f.station f.cart ≡ event_of limits f text
  unfolding event_of
  enter_event k = rw k refl

  pub send_event : f.kind ≡ 2 → send f.station f.set text ≡ event_of limits f text
  unfolding event_of
  send_event k = rw k refl

  pub wire_event : f.kind ≡ 3 → wire f.station f.other ≡ event_of limits f text
  unfolding event_of
  wire_event k = rw k refl

  pub radio_event : f.kind ≡ 4 → radio f.station f.cart 512 ≡ event_of limits f text
  unfolding event_of
  radio_event k = rw k refl

  pub move_event : f.kind ≡ 5 → move f.cart f.other ≡ event_of limits f text
  unfolding event_of
  move_event k = rw k refl

  pub flag_event : f.kind ≡ 6 → flag f.cart (eqb f.other 1) ≡ event_of limits f text
  unfolding event_of
  flag_event k = rw k refl

  pub group_event : f.kind ≡ 7 → group f.other f.set ≡ event_of limits f text
  unfolding event_of
  group_event k = rw k refl

  pub send_group_event : f.kind ≡ 8 → send_group f.station f.other text ≡ event_of limits f text
  unfolding event_of
  send_group_event k = rw k refl

  pub send_long_event : f.kind ≡ 9 → send_long f.station f.set text ≡ event_of limits f text
  unfolding event_of
  send_long_event k = rw k refl

  pub retire_event : f.kind ≡ 10 → retire f.cart ≡ event_of limits f text
  unfolding event_of
  retire_event k = rw k refl

-- READINGS

some_left : (l : List ℕ) (at : ℕ) → at < length l → is_empty (drop at l) ≡ false
some_left l at h = rw (drop-cons l at 0 h) refl

long_enough : (l : List ℕ) (at : ℕ) → 16 ≤ length l - at → 16 ≤ length (drop at l)
long_enough l at h = let z = length-drop at l in omega arith

same_refusal : (l : List ℕ) (at r : ℕ) (f : Fields) → 16 ≤ length l - at → f ≡ fields_of (drop at l) → r ≡ fields_refusal limits f (length l - at - 16)
    → frame_refusal limits (drop at l) ≡ r
unfolding frame_refusal
same_refusal l at r f h e q =
    rw (le-ltb (length (drop at l)) 16 (long_enough l at h))
    (sym (q ∙ ap₂ (λ (g : Fields) (n : ℕ). fields_refusal limits g (n - 16)) e (sym (length-drop at l))))

refused_front : (l : List ℕ) (r : ℕ) → is_empty l ≡ false → frame_refusal limits l ≡ r → (r ≡ 0 → ⊥) → refused_frame r ≡ frame_of limits l
unfolding frame_of
refused_front l r e q h = rw (e, q, ne_eqb r 0 h) refl

taken_front : (l : List ℕ) → is_empty l ≡ false → frame_refusal limits l ≡ 0
    → frame_with (fields_of l) (take (text_length (fields_of l)) (drop 16 l)) ≡ frame_of limits l
unfolding frame_of
taken_front l e q = rw (e, q) refl

module _ (l : List ℕ) (at : ℕ) where
  pub nothing_left : length l ≤ at → end ≡ read_at limits l at
  unfolding read_at frame_of
  nothing_left h = rw (drop_of_length-le l h) refl

  pub cut_frame : at < length l → length l - at < 16 → refused_frame 1 ≡ read_at limits l at
  unfolding read_at frame_refusal
  cut_frame h s = refused_front (drop at l) 1 (some_left l at h) (rw (lt-ltb (length (drop at l)) 16 few) refl) (λ z. omega arith)
    where
      few : length (drop at l) < 16
      few = let z = length-drop at l in omega arith

  module _ (f : Fields) (h : 16 ≤ length l - at) (e : f ≡ fields_of (drop at l)) where
    pub refused_frame_lem : (r : ℕ) → r ≡ fields_refusal limits f (length l - at - 16) → (r ≡ 0 → ⊥) → refused_frame r ≡ read_at limits l at
    unfolding read_at
    refused_frame_lem r q n = refused_front (drop at l) r (some_left l at (omega arith)) (same_refusal l at r f h e q) n

    pub taken_frame : 0 ≡ fields_refusal limits f (length l - at - 16) → frame_with f (take (text_length f) (drop 16 (drop at l))) ≡ read_at limits l at
    unfolding read_at
    taken_frame q =
        ap (λ (g : Fields). frame_with g (take (text_length g) (drop 16 (drop at l)))) e
        ∙ taken_front (drop at l) (some_left l at (omega arith)) (same_refusal l at 0 f h e q)
