-- ONE TURN OF A CHECK: what a piece comes to.
use mathlib.Core.Path.{◌≡◌, refl, sym, ap, ap₂, ◌∙◌, subst}
use mathlib.Core.List.{List, ◌++◌}
use Prim.Native.Nat.{ℕ, ◌+◌, ◌-◌, ◌≤◌, ◌<◌}
use native.Mathlib.Omega.{arith}
use lib.ListN.{length, take, drop, length-drop}
use lib.Seq.{paste, take-add, drop_at, length-take-le}
use borrow.Author.Tests.{lt-ltb, le-ltb, eq-eqb, ne_eqb}
use Rattle.frame_reader.specs.Checks.{Found, after, checked, check_in, Fed}
use Rattle.frame_reader.specs.declared.Checked.{Checked}
use Rattle.protocol.proofs.Tests.{by_lt, by_eq}
use Rattle.frames.proofs.Kept.{kept_front}
use Rattle.frame_reader.proofs.Pieces.{check_inside, short_left, stands, fed_more}
use Rattle.frame_reader.specs.Reads.{refusal_code}
use Rattle.checkframes.specs.declared.Progress.{Progress}
use Rattle.checkframes.specs.declared.State.TheVariants.{Wants, Over, Refused}
use Rattle.checkframes.specs.Progress.{state_after, Inside, Goes, Ended}

-- WHAT IS TO BE DONE

module _ (count refusal : ℕ) where
  pub state_refused : 1 < refusal → Refused ≡ state_after count refusal
  state_refused h = rw (lt-ltb 1 refusal h) refl

  module _ (h : refusal ≤ 1) where
    pub state_over : count ≡ 0 → Over ≡ state_after count refusal
    state_over e = rw (le-ltb 1 refusal h, eq-eqb count 0 e) refl

    pub state_wants : (count ≡ 0 → ⊥) → Wants ≡ state_after count refusal
    state_wants n = rw (le-ltb 1 refusal h, ne_eqb count 0 n) refl

  -- a check stops at a refused frame only where its number is above 1
  refused_only : state_after count refusal ≡ Refused → 1 < refusal
  refused_only e =
      by_lt 1 refusal (λ h. h)
      (λ h. by_eq count 0 (λ z. cc (state_over h z ∙ e)) (λ n. cc (state_wants h n ∙ e)))

  -- and it wants more only where it is not
  wants_only : state_after count refusal ≡ Wants → refusal ≤ 1
  wants_only e = by_lt 1 refusal (λ h. cc (state_refused h ∙ e)) (λ h. h)

-- what stands at the front once the octets behind a piece's frames are kept
front_is : (l x : List ℕ) (at have : ℕ) → at ≤ have → have ≤ length l → x ≡ paste l 0 (drop at l) (have - at) → take (have - at) x ≡ drop at (take have l)
front_is l x at have h k e =
    let sum : at + (have - at) ≡ have = omega arith in
    kept_front l x at (have - at) (omega arith) e
    ∙ sym (drop_at (take at l) (take (have - at) (drop at l)) at (length-take-le at l (omega arith)))
    ∙ ap (drop at) (sym (take-add at (have - at) l) ∙ ap (λ (n : ℕ). take n l) sum)

-- A PIECE of this number of octets, read behind those that were kept: the input was l, then l₁, and is l₂ when the octets that the piece leaves are at its front
module _ (l l₁ : List ℕ) (p : Progress) (count : ℕ) (inside : Inside l p) (there : p.kept + count ≤ length l₁) (same : take p.kept l₁ ≡ take p.kept l)
    (as_long : length l₁ ≡ length l) (piece : Checked) (sure : check_in piece ≡ checked (take (p.kept + count) l₁)) where
  abbrev have : ℕ
  have = p.kept + count

  -- the piece's frames are in the piece
  pub piece_inside : (piece.at ≤ have) × (piece.frames ≤ piece.at)
  piece_inside =
      let size = length-take-le have l₁ there in
      let z = check_inside (take have l₁) in
      let a : piece.at ≡ (checked (take have l₁)).octets = ap (λ (f : Found). f.octets) sure in
      let b : piece.frames ≡ (checked (take have l₁)).frames = ap (λ (f : Found). f.frames) sure in
      (let y = z.0 in omega arith, let y = z.1 in omega arith)

  -- and the sums are in range
  pub sums_fit : p.found.at < 9223372036854775808
      → (p.found.frames + piece.frames < 18446744073709551616) × (p.found.at + piece.at < 18446744073709551616)
  sums_fit h =
      let a = piece_inside.0 in
      let b = piece_inside.1 in
      let c = inside.room in
      let d = inside.few in
      (omega arith, omega arith)

  module _ (l₂ : List ℕ) (r : Progress) (kept_is : r.kept ≡ have - piece.at) (moved : l₂ ≡ paste l₁ 0 (drop piece.at l₁) (have - piece.at))
      (still : length l₂ ≡ length l₁) (state_is : r.state ≡ state_after count (refusal_code piece.refusal)) (found_is_lem : check_in r.found ≡ after (check_in p.found) (check_in piece)) where
    pub inside_again : Inside l₂ r
    inside_again =
        let a = piece_inside.0 in
        let b = piece_inside.1 in
        let at_is : r.found.at ≡ p.found.at + piece.at = ap (λ (f : Found). f.octets) found_is_lem in
        let frames_is : r.found.frames ≡ p.found.frames + piece.frames = ap (λ (f : Found). f.frames) found_is_lem in
        let refusal_is : refusal_code r.found.refusal ≡ refusal_code piece.refusal = ap (λ (f : Found). f.refusal) found_is_lem in
        record {
          room = still ∙ as_long ∙ inside.room;
          kept = omega arith;
          few = let d = inside.few in omega arith;
          wants = λ e.
              let few = short_left (take have l₁) (let z = wants_only count (refusal_code piece.refusal) (sym state_is ∙ e) in let y = ap (λ (f : Found). f.refusal) sure in omega arith) in
              let left = length-drop (checked (take have l₁)).octets (take have l₁) in
              let size = length-take-le have l₁ there in
              let at_piece : piece.at ≡ (checked (take have l₁)).octets = ap (λ (f : Found). f.octets) sure in
              omega arith;
          refused = λ e. let z = refused_only count (refusal_code piece.refusal) (sym state_is ∙ e) in omega arith;
        }

    abbrev more : List ℕ
    more = take count (drop p.kept l₁)

    joined_up : take have l₁ ≡ take p.kept l ++ more
    joined_up = take-add p.kept count l₁ ∙ ap (λ (k : List ℕ). k ++ more) same

    pub piece_goes : Goes (take p.kept l) (check_in p.found) (take r.kept l₂) r
    piece_goes all h =
        let behind = take p.kept l ++ more in
        let fed = fed_more all (take p.kept l) more (check_in p.found) h in
        let found : checked behind ≡ check_in piece = ap checked (sym joined_up) ∙ sym sure in
        let left : drop (checked behind).octets behind ≡ take r.kept l₂ =
        ap₂ drop (ap (λ (f : Found). f.octets) found) (sym joined_up) ∙ sym (front_is l₁ l₂ piece.at have piece_inside.0 there moved) ∙ ap (λ (n : ℕ). take n l₂) (sym kept_is) in
        let all_found : after (check_in p.found) (checked behind) ≡ check_in r.found = ap (after (check_in p.found)) found ∙ sym found_is_lem in
        (more, subst (λ (f : Found). Fed (all ++ more) (take r.kept l₂) f) all_found (subst (λ (k : List ℕ). Fed (all ++ more) k (after (check_in p.found) (checked behind))) left fed))

-- THE END of all turns
pub has_ended : (l : List ℕ) (p : Progress) → Inside l p → (all kept : List ℕ) → Fed all kept (check_in p.found) → Ended p
has_ended l p inside all kept h = record {
  all = all;
  found = h.found;
  whatever = λ e later.
      let large : 1 < (checked all).refusal = subst (λ (f : Found). 1 < f.refusal) h.found (inside.refused e) in
      h.found ∙ sym (stands all later (λ z. omega arith) (λ z. omega arith));
}
