-- Rows with an entry for each of sixteen initiators: what is said of the nearest messages, and how far the next numbers rise.
use mathlib.Core.Path.{◌≡◌, refl, sym, ap, ◌∙◌, subst}
use mathlib.Core.List.{List}
use mathlib.Core.Option.{Option, none, some}
use Prim.Native.Nat.{ℕ, zero, suc, ◌+◌, ◌-◌, ◌*◌, ◌<◌, ◌≤◌, max}
use native.Mathlib.Numerals.{add-one}
use native.Mathlib.Omega.{arith}
use lib.ListN.{length, get_or, set, length-set}
use lib.Seq.{ext_get_or, get_or-set_same, get_or-set_other}
use Rattle.protocol.specs.Folds.{sum, list_of}
use Rattle.protocol.specs.Floor.{Floor}
use Rattle.protocol.proofs.Tests.{by_eq, length_list_of, list_of_at}
use Rattle.protocol.proofs.Counting.{sum_ext}
use Rattle.queue.specs.Rooms.{room_word, room_at}
use Rattle.queue.proofs.Codes.{word_says}
use Rattle.catchup.specs.Nearest.{nearest_among, stop_by}
use Rattle.catchup.specs.Arrival.{nearest_row, stop_in, Rises, rise, risen}
use Rattle.catchup.proofs.ClosedForm.{IsNearest, nearest_is, would}
use Rattle.catchup.proofs.StopLaws.{below_expected, other_initiator}
use Rattle.catchup.proofs.RoomLaws.{nearest_same, nearest_below}

-- A ROW BY ITS ENTRIES

pub is_row : (n : ℕ) (l : List ℕ) (f : ℕ → ℕ) → length l ≡ n → ((k : ℕ) → k < n → get_or l k 0 ≡ f k) → l ≡ list_of n f
is_row n l f e h =
    ext_get_or 0 l (list_of n f) (e ∙ sym (length_list_of n f)) (λ k q. let p : k < n = omega arith in h k p ∙ sym (list_of_at n f 0 k p))

-- the entries before n are written
abbrev pub WrittenTo : (ℕ → ℕ) → List ℕ → ℕ → Type 0
WrittenTo f l n = (k : ℕ) → k < n → get_or l k 0 ≡ f k

pub write_one : (f : ℕ → ℕ) (l : List ℕ) (n r : ℕ) → n < length l → r ≡ f n → WrittenTo f l n → WrittenTo f (set l n r) (n + 1)
write_one f l n r h e w k q =
    by_eq k n (λ z. rw z (get_or-set_same l n r 0 h ∙ e)) (λ z. get_or-set_other l n k r 0 z ∙ w k (omega arith))

pub write_all : (f : ℕ → ℕ) (l : List ℕ) (n : ℕ) → length l ≡ 16 → 16 ≤ n → WrittenTo f l n → l ≡ list_of 16 f
write_all f l n e h w = is_row 16 l f e (λ k q. w k (omega arith))

-- WHAT g SAYS OF EACH INITIATOR'S NEAREST MESSAGE

module _ (F : Floor) (t c : ℕ) (row : List ℕ) (g : ℕ → Option ℕ → ℕ) where
  -- of initiator s, among the first n rooms
  abbrev said : ℕ → ℕ → ℕ
  said n s = g s (nearest_among F t c s (get_or row s 0) n)

  abbrev pub row_by : ℕ → List ℕ
  row_by n = list_of 16 (said n)

  pub row_entry : (n : ℕ) (l : List ℕ) → l ≡ row_by n → (s : ℕ) → s < 16 → get_or l s 0 ≡ said n s
  row_entry n l e s h = ap (λ (k : List ℕ). get_or k s 0) e ∙ list_of_at 16 (said n) 0 s h

  pub row_length : (n : ℕ) (l : List ℕ) → l ≡ row_by n → length l ≡ 16
  row_length n l e = ap length e ∙ length_list_of 16 (said n)

  -- rooms that change no nearest message
  pub row_same : (a b : ℕ) (l : List ℕ) → l ≡ row_by a → ((s : ℕ) → s < 16 → nearest_among F t c s (get_or row s 0) b ≡ nearest_among F t c s (get_or row s 0) a) → l ≡ row_by b
  row_same a b l e h = is_row 16 l (said b) (row_length a l e) (λ s k. row_entry a l e s k ∙ ap (g s) (sym (h s k)))

  -- a message that changes its initiator's
  pub row_again : (m s r : ℕ) (l : List ℕ) → l ≡ row_by m → s ≡ F.initiator m → s < 16 → r ≡ said (m + 1) s → set l s r ≡ row_by (m + 1)
  row_again m s r l e es ls f =
      is_row 16 (set l s r) (said (m + 1)) (length-set l s r ∙ long)
      (λ k h. by_eq k s
      (λ q. rw q (get_or-set_same l s r 0 (omega (arith, long)) ∙ f))
      (λ d. get_or-set_other l s k r 0 d ∙ row_entry m l e k h
      ∙ ap (g k) (sym (nearest_same F t c k (get_or row k 0) m (other_initiator F t c k (get_or row k 0) m (λ q. d (omega arith)))))))
    where
      long : length l ≡ 16
      long = row_length m l e

-- THE LATER OF TWO NUMBERS
pub max_is : (a b : ℕ) → max a b ≡ a + (b - a)
max_is a b = omega arith

-- HOW FAR THE NEXT NUMBERS RISE

module _ (row upto : List ℕ) where
  pub rise_none : 0 ≡ rise row upto 0
  unfolding sum
  rise_none = refl

  -- the count of the first n initiators fits a word
  pub rise_fits : Rises row upto → (n : ℕ) → n ≤ 16 → rise row upto n ≤ 4294967295 * n
  unfolding sum
  rise_fits b zero h = omega arith
  rise_fits b (suc n) h = let z = b n (omega arith) in omega (arith, z.1, rise_fits b n (omega arith))

  pub rise_again : (n p : ℕ) → p ≡ rise row upto n → p + (get_or upto n 0 - get_or row n 0) ≡ rise row upto (n + 1)
  unfolding sum
  rise_again n p e = rw (add-one, sum) (rw e refl)

  pub rise_all : (n p : ℕ) → n ≡ 16 → p ≡ rise row upto n → p ≡ rise row upto 16
  rise_all n p z e = e ∙ ap (rise row upto) z

-- A ROW THAT WAS RAISED BY THE NEAREST MESSAGES

module _ (F : Floor) (t c : ℕ) (row nearest : List ℕ) (is_nearest : nearest ≡ nearest_row F t c row 32) where
  -- what an entry says
  pub entry_says : (s : ℕ) → s < 16 → room_at (get_or nearest s 0) ≡ nearest_among F t c s (get_or row s 0) 32
  entry_says s h = ap room_at (row_entry F t c row (λ s o. room_word o) 32 nearest is_nearest s h) ∙ word_says _ 32 (omega arith) (nearest_below F t c s (get_or row s 0) 32)

  module _ (upto : List ℕ) (is_stop : upto ≡ list_of 16 (stop_in F t row nearest)) where
    stop_entry : (s : ℕ) → s < 16 → get_or upto s 0 ≡ stop_in F t row nearest s
    stop_entry s h = ap (λ (l : List ℕ). get_or l s 0) is_stop ∙ list_of_at 16 (stop_in F t row nearest) 0 s h

    -- no next number falls, and a cart stops below the expected number, or there
    pub rises_little : ((s : ℕ) → s < 16 → F.expected t s ≤ 4294967295) → Rises row upto
    rises_little b s h = subst (λ (u : ℕ). (get_or row s 0 ≤ u) × (u - get_or row s 0 ≤ 4294967295))
        (ap (λ (o : Option ℕ). (stop_by F t s (get_or row s 0) o).upto) (sym (entry_says s h)) ∙ sym (stop_entry s h))
        (between (nearest_among F t c s (get_or row s 0) 32) (nearest_is F t c s (get_or row s 0) 32))
      where
        between : (o : Option ℕ) → IsNearest F t c s (get_or row s 0) 32 o
            → (get_or row s 0 ≤ (stop_by F t s (get_or row s 0) o).upto) × ((stop_by F t s (get_or row s 0) o).upto - get_or row s 0 ≤ 4294967295)
        between none n = (omega arith, omega (arith, b s h))
        between (some k) n =
            let far = (would F t c s (get_or row s 0) k n.1.0).far in
            let low = below_expected F t c s (get_or row s 0) k n.1.0 in
            (far, omega (arith, b s h))

    pub rise_is : (p : ℕ) → p ≡ rise row upto 16 → p ≡ risen F t row nearest 16
    rise_is p e =
        e ∙ sum_ext 16 (λ s. get_or upto s 0 - get_or row s 0) (λ s. stop_in F t row nearest s - get_or row s 0)
        (λ s h. ap (λ (u : ℕ). u - get_or row s 0) (stop_entry s h))
