-- A word of the free rows that a caller holds: the laws of the rows and the lines speak of the pool with that word released.
use mathlib.Core.Path.{◌≡◌, sym, ap, ◌∙◌, subst}
use mathlib.Core.Bool.{true}
use mathlib.Core.Option.{Option}
use mathlib.Core.List.{List}
use Prim.Native.Nat.{ℕ, ◌+◌, ◌*◌, ◌≤◌, ◌<◌}
use native.Mathlib.Omega.{arith}
use lib.ListN.{length, get_or, set, length-set}
use lib.Seq.{get_or-set_same, get_or-set_other, set-get_or, set-set, set_comm}
use Rattle.protocol.specs.CartSets.{without}
use Rattle.sets.specs.Masks.{least}
use Rattle.lines.specs.declared.Record.{Record}
use Rattle.lines.specs.declared.Held.{Held}
use Rattle.lines.specs.Words.{capacity, summary_of, line_at, row_at, tail_of, length_of}
use Rattle.lines.specs.Lines.{used}
use Rattle.lines.specs.Form.{form, summary_ok}
use Rattle.lines.specs.Post.{Pushed}
use Rattle.lines.specs.Parts.{Summed, Freed, Taken, Link, Fits, joined}
use Rattle.lines.specs.Holding.{released, Holds}
use Rattle.lines.proofs.Bitmap.{summary_of_lem, of_summary, freed_still, freed_summary, take_is}
use Rattle.lines.proofs.Formed.{linkable, takable}
use Rattle.lines.proofs.Push.{joined_other, link_high, join_fits, push_is}

-- ---- the words of the pool
module _ (l : List ℕ) (h : Held) where
  pub length_released : length (released l h) ≡ length l
  unfolding released
  length_released = length-set l h.at h.free

  released_other : (a : ℕ) → (a ≡ h.at → ⊥) → get_or (released l h) a 0 ≡ get_or l a 0
  unfolding released
  released_other a q = get_or-set_other l h.at a h.free 0 q

  released_here : h.at < length l → get_or (released l h) h.at 0 ≡ h.free
  unfolding released
  released_here q = get_or-set_same l h.at h.free 0 q

  -- a word that is stored over the held one
  released_freed : (l' : List ℕ) (x : ℕ) → h.at < 49 → Freed l l' h.at x → Freed (released l h) l' h.at x
  released_freed l' x low f = record {
    word = f.word;
    others = λ a q s. f.others a q s ∙ sym (released_other a q);
    summary = subst (λ (s : ℕ). Summed s h.at x (summary_of l')) (sym (released_other 49 (omega arith))) f.summary;
  }

-- the stores of a push leave the held word alone
released_joined : (l : List ℕ) (h : Held) (at k f n : ℕ) (r : Record) → h.at < 49 → 50 ≤ at
    → released (joined l at k f n r) h ≡ joined (released l h) at k f n r
unfolding released joined
released_joined l h at k f n r low high =
    let q1 : row_at f + 1 ≡ h.at → ⊥ = omega arith in
    let q2 : row_at f + 2 ≡ h.at → ⊥ = omega arith in
    let q3 : at ≡ h.at → ⊥ = omega arith in
    let q4 : line_at k + 1 ≡ h.at → ⊥ = omega arith in
    let q5 : line_at k + 2 ≡ h.at → ⊥ = omega arith in
    let s1 = set l (row_at f + 1) r.0 in
    let s2 = set s1 (row_at f + 2) r.1 in
    let s3 = set s2 at f in
    let s4 = set s3 (line_at k + 1) f in
    set_comm s4 (line_at k + 2) h.at (n + 1) h.free q5
    ∙ ap (λ (s : List ℕ). set s (line_at k + 2) (n + 1)) (set_comm s3 (line_at k + 1) h.at f h.free q4
    ∙ ap (λ (s : List ℕ). set s (line_at k + 1) f) (set_comm s2 at h.at f h.free q3
    ∙ ap (λ (s : List ℕ). set s at f) (set_comm s1 (row_at f + 2) h.at r.1 h.free q2
    ∙ ap (λ (s : List ℕ). set s (row_at f + 2) r.1) (set_comm l (row_at f + 1) h.at r.0 h.free q1))))

-- ---- a word is held
abbrev pub held_at : ℕ → ℕ → Held
held_at w x = record { at = w; free = x }

pub hold_is : (l : List ℕ) (w : ℕ) → w < 49 → (0 < summary_of l → 0 < get_or l w 0)
    → (released l (held_at w (get_or l w 0)) ≡ l) × Holds l (held_at w (get_or l w 0))
unfolding released
hold_is l w low some = (set-get_or l w 0, record { low = low; some = some })

-- another word is held in its place
released_over : (l : List ℕ) (h : Held) (x : ℕ) → set (released l h) h.at x ≡ released l (held_at h.at x)
unfolding released
released_over l h x = set-set l h.at h.free x

-- ---- the held word is x now
module _ (l : List ℕ) (h : Held) (x : ℕ) (held : Holds l h) (some : 0 < h.free) (long : 50 ≤ length l) (ok : summary_ok (released l h) ≡ true) where
  here : get_or (released l h) h.at 0 ≡ h.free
  here = released_here l h (omega (arith, held.low))

  -- it stays held
  pub change_part : 0 < x → Freed (released l h) (released l (held_at h.at x)) h.at x × Holds l (held_at h.at x)
  change_part p = (
    subst (λ (s : List ℕ). Freed (released l h) s h.at x) (released_over l h x) still,
    record { low = held.low; some = λ q. p },
  )
    where
      still : Freed (released l h) (set (released l h) h.at x) h.at x
      still =
          freed_still (released l h) h.at x held.low (omega (arith, length_released l h)) (summary_of_lem (released l h) ok) (omega (arith, here)) p

  -- it is used up and stored
  pub change_last : (l' : List ℕ) → x ≤ 0 → Freed l l' h.at 0 → Freed (released l h) l' h.at x
  change_last l' p f =
      let q : 0 ≡ x = omega arith in released_freed l h l' x held.low (subst (λ (y : ℕ). Freed l l' h.at y) q f)

  pub changed_summary : (l' : List ℕ) → Freed (released l h) l' h.at x → summary_ok l' ≡ true
  changed_summary l' f = of_summary l' (freed_summary (released l h) l' h.at x f held.low (summary_of_lem (released l h) ok))

  -- it is without its lowest row
  pub held_taken : (l' : List ℕ) (b : ℕ) → least 64 h.free ≡ Option.some b → x ≡ without h.free b
      → Freed (released l h) l' h.at x → Taken (released l h) l' (h.at * 64 + b)
  held_taken l' b lowest out f =
      take_is (released l h) l' h.at b x ok held.low (rw here lowest) (rw here out) f

-- ---- a push
module _ (l : List ℕ) (h : Held) (e : form (released l h) ≡ true) (held : Holds l h) where
  -- the words of the lines and rows
  high : (a : ℕ) → 50 ≤ a → get_or (released l h) a 0 ≡ get_or l a 0
  high a q = released_other l h a (omega (arith, held.low))

  pub held_linkable : (k : ℕ) → k < 256 → (line_at k + 3 ≤ length l) × (0 < length_of l k → tail_of l k < 3136)
  held_linkable k hk =
      let z = linkable (released l h) e k hk in (
        omega (arith, length_released l h, z.0),
        λ p. omega (arith, high (line_at k + 1) (omega arith), z.1 (omega (arith, high (line_at k + 2) (omega arith)))),
      )

  pub held_takable : used (released l h) < capacity (released l h) → (50 ≤ length l) × (summary_ok (released l h) ≡ true) × (0 < h.free)
  held_takable room =
      let z = takable (released l h) e room in
      (omega (arith, length_released l h, z.0), z.1, held.some (omega (arith, released_other l h 49 (omega (arith, held.low)), z.2)))

  module _ (l1 : List ℕ) (h1 : Held) (at k f n : ℕ) (r : Record) (hk : k < 256)
      (t : Taken (released l h) (released l1 h1) f) (held1 : Holds l1 h1)
      (same : length l1 ≡ length l) (en : n ≡ length_of l k) (link : Link l k at) where
    same_long : length (released l1 h1) ≡ length (released l h)
    same_long = length_released l1 h1 ∙ same ∙ sym (length_released l h)

    length_is : n ≡ length_of (released l h) k
    length_is = en ∙ sym (high (line_at k + 2) (omega arith))

    link_is : Link (released l h) k at
    link_is = record {
      first = λ q. link.first (omega (arith, high (line_at k + 2) (omega arith)));
      later = λ q. link.later (omega (arith, high (line_at k + 2) (omega arith))) ∙ ap row_at (sym (high (line_at k + 1) (omega arith)));
    }

    pub held_fits : Fits l1 at k f n
    held_fits =
        let z = join_fits (released l h) (released l1 h1) at k f n r e hk t same_long length_is link_is in
        let q = length_released l1 h1 in
        record { link = omega (arith, z.link); line = omega (arith, z.line); row = omega (arith, z.row); few = z.few; low = z.low }

    pub held_push : (l2 : List ℕ) → l2 ≡ joined l1 at k f n r → Pushed (released l h) (released l2 h1) k r × Holds l2 h1
    held_push l2 q = (
      push_is (released l h) (released l1 h1) at k f n r e hk t same_long length_is link_is (released l2 h1)
          (ap (λ (s : List ℕ). released s h1) q ∙ released_joined l1 h1 at k f n r held1.low high_link),
      record { low = held1.low; some = λ p. held1.some (subst (λ (s : ℕ). 0 < s) summary p) },
    )
      where
        high_link : 50 ≤ at
        high_link = link_high l k at link

        summary : summary_of l2 ≡ summary_of l1
        summary = ap summary_of q ∙ joined_other l1 at k f n r 49 (omega arith) (omega arith) (omega (arith, high_link)) (omega arith) (omega arith)
