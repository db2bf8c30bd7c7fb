-- The masks of local carts, by one pass over the carts.
use mathlib.Core.Path.{◌≡◌, sym, ap, ◌∙◌}
use mathlib.Core.Bool.{Bool, true, false}
use mathlib.Core.List.{List, []}
use Prim.Native.Nat.{ℕ, ◌+◌, ◌*◌, ◌^◌, ◌≤◌, ◌<◌}
use native.Mathlib.Numerals.{add-one}
use native.Mathlib.Omega.{arith}
use lib.ListN.{length, get_or, set, replicate, get_or-replicate, length-set}
use lib.Pow.{pow_mono}
use lib.Seq.{get_or-set_same, get_or-set_other}
use borrow.Author.Tests.{eqb-true, eq-eqb, ne_eqb}
use Rattle.protocol.specs.Floor.{whole_floor, Place, local_to}
use Rattle.protocol.specs.CartSets.{with, set_of}
use Rattle.protocol.proofs.Tests.{by_eq, by_lt, eqb_self}
use Rattle.protocol.proofs.SetLaws.{set_of_suc, set_of_lt, set_of_beyond, has_set_of, same_members}
use Rattle.stations.specs.View.{stations_in}
use Rattle.carts.specs.View.{carts_in}
use Rattle.view.specs.View.{lent, local_right}
use Rattle.view.proofs.Lengths.{place_past}
use Rattle.ids.specs.declared.Station.{Station}
use Rattle.std.specs.Prelude.{Some, None}
use Rattle.form_tables.specs.Parts.{Home}

-- THE MASKS, of the carts below n
abbrev pub LocalsTo : (ℕ → Place) → List ℕ → ℕ → Type 0
LocalsTo place locals n = (t : ℕ) → t < 16 → get_or locals t 0 ≡ set_of n (λ d. local_to (place d) t)

pub locals_none : (place : ℕ → Place) → LocalsTo place (replicate 16 0) 0
unfolding set_of
locals_none place t l = get_or-replicate 16 t 0 0 l

module _ (place : ℕ → Place) (locals : List ℕ) (n : ℕ) (h : LocalsTo place locals n) (few : length locals ≡ 16) where
  same : (t : ℕ) → t < 16 → local_to (place n) t ≡ false → get_or locals t 0 ≡ set_of (n + 1) (λ d. local_to (place d) t)
  same t l q = h t l ∙ sym (rw add-one (set_of_suc n (λ d. local_to (place d) t) ∙ rw q))

  -- the next cart is local to none of the sixteen
  locals_stay : (after : List ℕ) → after ≡ locals → ((t : ℕ) → t < 16 → local_to (place n) t ≡ false) → (length after ≡ 16) × LocalsTo place after (n + 1)
  locals_stay after e none = (ap length e ∙ few, λ t l. ap (λ (x : List ℕ). get_or x t 0) e ∙ same t l (none t l))

  pub locals_none_more : (after : List ℕ) → after ≡ locals → Home (place n) None → (length after ≡ 16) × LocalsTo place after (n + 1)
  locals_none_more after e home = locals_stay after e (λ t l. home t)

  module _ (s : Station) (home : Home (place n) (Some s)) where
    pub locals_beyond : (after : List ℕ) → after ≡ locals → 16 ≤ s.0 → (length after ≡ 16) × LocalsTo place after (n + 1)
    locals_beyond after e g = locals_stay after e (λ t l. home t ∙ ne_eqb s.0 t (λ q. absurd (omega arith)))

    -- it is local to s
    pub locals_join : (after : List ℕ) (v : ℕ) → after ≡ set locals s.0 v → s.0 < 16 → v ≡ with (get_or locals s.0 0) n → (length after ≡ 16) × LocalsTo place after (n + 1)
    locals_join after v e ls g = (
      ap length e ∙ length-set locals s.0 v ∙ few,
      λ t l. ap (λ (x : List ℕ). get_or x t 0) e ∙ by_eq s.0 t
          (λ q. rw (← q) (get_or-set_same locals s.0 v 0 (omega arith) ∙ g ∙ ap (λ (x : ℕ). with x n) (h s.0 ls)
          ∙ sym (rw add-one (set_of_suc n (λ d. local_to (place d) s.0) ∙ rw (home s.0 ∙ eqb_self s.0)))))
          (λ q. get_or-set_other locals s.0 t v 0 (λ e. q (sym e)) ∙ same t l (home t ∙ ne_eqb s.0 t q)),
    )

-- beyond the table there are no carts
pub locals_all : (C : List ℕ) (k : ℕ) → length C ≡ k * 19 → k ≤ 64 → (t : ℕ)
    → set_of k (λ d. local_to ((carts_in C).place d) t) ≡ set_of 64 (λ d. local_to ((carts_in C).place d) t)
locals_all C k e h t =
    let f : ℕ → Bool = λ d. local_to ((carts_in C).place d) t in
    let wide : 2 ^ k ≤ 2 ^ 64 = pow_mono h in
    same_members 64 (set_of k f) (set_of 64 f) (let low = set_of_lt k f in omega arith) (set_of_lt 64 f)
    (λ d l. by_lt d k
    (λ b. has_set_of k f d b ∙ sym (has_set_of 64 f d l))
    (λ b. set_of_beyond k f d b ∙ sym (has_set_of 64 f d l ∙ ap (λ (p : Place). local_to p t) (place_past C d (omega arith)))))

-- the mask that a station keeps is right just when it is the one that the pass made
pub mask_right : (S C : List ℕ) (t kept made : ℕ) → kept ≡ (stations_in S).local t → made ≡ set_of 64 (λ c. local_to ((carts_in C).place c) t)
    → (local_right (lent whole_floor S C [] [] [] []) t ≡ true → kept ≡ made) × (kept ≡ made → local_right (lent whole_floor S C [] [] [] []) t ≡ true)
unfolding local_right
mask_right S C t kept made e g =
    let right = set_of 64 (λ c. local_to ((carts_in C).place c) t) in
    ((λ h. e ∙ eqb-true ((stations_in S).local t) right h ∙ sym g), (λ h. eq-eqb ((stations_in S).local t) right (sym e ∙ h ∙ g)))
