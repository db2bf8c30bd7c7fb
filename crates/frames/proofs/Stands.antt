-- A FRAME THAT IS NOT CUT STANDS, whatever follows it: what is read of a piece of input is what is read of the whole.
use mathlib.Core.Path.{◌≡◌, refl, sym, ap, ◌∙◌}
use mathlib.Core.Bool.{Bool, true, false, not}
use mathlib.Core.List.{List, ◌++◌}
use Prim.Native.Nat.{ℕ, ◌+◌, ◌-◌, ◌/◌, ◌%◌, ◌≤◌}
use native.Mathlib.Omega.{arith}
use lib.Dec.{eqb, ltb}
use lib.ListN.{length, take, drop, length-append, length-drop}
use lib.Seq.{take-append-le, drop-append-le}
use borrow.Author.Tests.{lt-ltb, le-ltb}
use Rattle.protocol.specs.Floor.{limits}
use Rattle.protocol.specs.Refusals.{check}
use Rattle.protocol.specs.Frames.{Fields, big_endian, fields_of, unlisted, text_length, wrong_length, event_of, last_kind, fields_refusal, end, refused_frame, taken, read_at}
use Rattle.protocol.proofs.Tests.{by_lt, by_eq}
use Rattle.frames.proofs.Laws.{nothing_left, cut_frame, refused_frame_lem, taken_frame, text_there}

-- the fields are in the first sixteen octets
fields_stand : (p q : List ℕ) → 16 ≤ length p → fields_of p ≡ fields_of (p ++ q)
unfolding fields_of
fields_stand p q h =
    let head : take 3 p ≡ take 3 (p ++ q) = sym (take-append-le 3 p q (omega arith)) in
    let zeros : take 5 (drop 3 p) ≡ take 5 (drop 3 (p ++ q)) =
    sym (take-append-le 5 (drop 3 p) q (let z = length-drop 3 p in omega arith)) ∙ ap (take 5) (sym (drop-append-le 3 p q (omega arith))) in
    let set : take 8 (drop 8 p) ≡ take 8 (drop 8 (p ++ q)) =
    sym (take-append-le 8 (drop 8 p) q (let z = length-drop 8 p in omega arith)) ∙ ap (take 8) (sym (drop-append-le 8 p q (omega arith))) in
    λ i.
    record {
      kind = big_endian 0 (head i) / 1048576;
      station = big_endian 0 (head i) / 65536 % 16;
      cart = big_endian 0 (head i) / 1024 % 64;
      other = big_endian 0 (head i) / 64 % 16;
      length = big_endian 0 (head i) % 64;
      zero = big_endian 0 (zeros i);
      set = big_endian 0 (set i);
    }

-- of the checks of fields only the last looks behind them
same_check : (a b c : Bool) (x y r : ℕ) → check 2 a (check 3 b (check 4 c x)) ≡ r → (x ≡ r → ⊥) → check 2 a (check 3 b (check 4 c y)) ≡ r
same_check true b c x y r e n = e
same_check false true c x y r e n = e
same_check false false true x y r e n = e
same_check false false false x y r e n = absurd (n e)

-- as long as the text is there, how many octets are behind does not matter
none_with : (f : Fields) (x y : ℕ) → text_length f ≤ x → text_length f ≤ y → fields_refusal limits f x ≡ 0 → fields_refusal limits f y ≡ 0
unfolding fields_refusal
none_with f x y h k e = rw (le-ltb y (text_length f) k) (rw (le-ltb x (text_length f) h) at e)

-- with more octets behind them, a refusal of the fields other than "fewer text octets than the length" stays, and so does none
refusal_stands : (f : Fields) (behind more r : ℕ) → fields_refusal limits f behind ≡ r → (r ≡ 0 → ⊥) → (r ≡ 1 → ⊥) → fields_refusal limits f (behind + more) ≡ r
unfolding fields_refusal
refusal_stands f behind more r e n m =
    same_check (ltb last_kind f.kind) (not (eqb (unlisted f) 0)) (wrong_length limits f) (check 1 (ltb behind (text_length f)) 0) (check 1 (ltb (behind + more) (text_length f)) 0) r e
    (by_lt behind (text_length f) (λ l q. m (sym q ∙ rw (lt-ltb behind (text_length f) l) refl)) (λ l q. n (sym q ∙ rw (le-ltb behind (text_length f) l) refl)))

none_stands : (f : Fields) (behind more : ℕ) → fields_refusal limits f behind ≡ 0 → fields_refusal limits f (behind + more) ≡ 0
none_stands f behind more e = none_with f behind (behind + more) (text_there f behind e) (let z = text_there f behind e in omega arith) e

-- A FRAME at the front of a piece stands, whatever follows it, unless it is cut
pub frame_stands : (p q : List ℕ) → (read_at limits p 0 ≡ end → ⊥) → (read_at limits p 0 ≡ refused_frame 1 → ⊥) → read_at limits (p ++ q) 0 ≡ read_at limits p 0
frame_stands p q some whole =
    by_lt (length p) 1
    (λ l. absurd (some (sym (nothing_left p 0 (omega arith)))))
    (λ l. by_lt (length p) 16
    (λ s. absurd (whole (sym (cut_frame p 0 (omega arith) (omega arith)))))
    (λ s.
    let f = fields_of p in
    let sizes = length-append p q in
    let behind : length (p ++ q) - 0 - 16 ≡ length p - 0 - 16 + length q = omega arith in
    let fields = fields_stand p q s in
    by_eq (fields_refusal limits f (length p - 0 - 16)) 0
    (λ z.
    let later : fields_refusal limits f (length (p ++ q) - 0 - 16) ≡ 0 = ap (fields_refusal limits f) behind ∙ none_stands f (length p - 0 - 16) (length q) z in
    let there = text_there f (length p - 0 - 16) z in
    let text : take (text_length f) (drop 16 (p ++ q)) ≡ take (text_length f) (drop 16 p) =
    ap (take (text_length f)) (drop-append-le 16 p q s) ∙ take-append-le (text_length f) (drop 16 p) q (let y = length-drop 16 p in omega arith) in
    sym (taken_frame (p ++ q) 0 f (omega arith) fields (sym later))
    ∙ ap (λ (t : List ℕ). taken (event_of limits f t) (16 + text_length f)) text
    ∙ taken_frame p 0 f (omega arith) refl (sym z))
    (λ n. by_eq (fields_refusal limits f (length p - 0 - 16)) 1
    (λ one. absurd (whole (sym (refused_frame_lem p 0 f (omega arith) refl 1 (sym one) (λ z. omega arith)))))
    (λ other.
    let r = fields_refusal limits f (length p - 0 - 16) in
    sym (refused_frame_lem (p ++ q) 0 f (omega arith) fields r (sym (ap (fields_refusal limits f) behind ∙ refusal_stands f (length p - 0 - 16) (length q) r refl n other)) n)
    ∙ refused_frame_lem p 0 f (omega arith) refl r refl n))))
