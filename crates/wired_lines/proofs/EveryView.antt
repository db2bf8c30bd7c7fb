-- A RECORD TO EVERY STATION IN THE FLOOR: the lines that the words then say, that the words lie right again, and the room that it asks.
use mathlib.Core.Path.{◌≡◌, refl, sym, ap, ◌∙◌, fun_ext}
use mathlib.Core.Bool.{true, false}
use mathlib.Core.List.{List, [], ◌∷◌, ◌++◌, map}
use Prim.Native.Nat.{ℕ, zero, suc, ◌+◌, ◌*◌, ◌≤◌, ◌<◌}
use native.Mathlib.Omega.{arith}
use lib.Dec.{eqb, ltb}
use borrow.Author.Tests.{eqb-true, ltb-true, lt-ltb}
use Rattle.protocol.specs.Folds.{sum}
use Rattle.protocol.specs.Floor.{Record, put, to_every, Product}
use Rattle.protocol.specs.Form.{bit}
use Rattle.protocol.proofs.Tests.{by_test, clash, and_left, and_right, and_intro, eqb_self}
use Rattle.protocol.proofs.Counting.{sum_term}
use Rattle.messages.specs.View.{rooms_in}
use Rattle.lines.specs.declared.Record as word
use Rattle.lines.specs.Lines.{records_on, registers_in}
use Rattle.view.specs.Records.{record_in, lines_in, room_right}
use Rattle.view.specs.View.{lent}
use Rattle.view.proofs.LinesView.{line_with, line_in, line_beyond, line_below, by_line, map_append}
use Rattle.view.proofs.Laid.{Laid, words_append}
use Rattle.wired_lines.specs.ToEvery.{PushedToEvery}

-- which lines are picked
pub picked : (n s i j : ℕ) → to_every n s i j ≡ true → (s ≡ i) × (j < n)
picked n s i j e = (eqb-true s i (and_left (eqb s i) (ltb j n) e), ltb-true j n (and_right (eqb s i) (ltb j n) e))

pub is_picked : (n s j : ℕ) → j < n → to_every n s s j ≡ true
is_picked n s j l = and_intro (eqb s s) (ltb j n) (eqb_self s) (lt-ltb j n l)

-- records of a line, and one more at the end
module _ (l l' : List ℕ) (s n : ℕ) (r : word.Record) (ls : s < 16) (ln : n ≤ 16) (p : PushedToEvery l l' s n r) where
  -- a line that is not picked
  pub line_stays : (i j : ℕ) → i < 16 → j < 16 → to_every n s i j ≡ false → records_on l' (i * 16 + j) ≡ records_on l (i * 16 + j)
  line_stays i j li lj e =
      p.others (i * 16 + j) (line_below i j li lj)
      (λ k lk q. let same : i ≡ s = omega arith in let to : j ≡ k = omega arith in clash (to_every n s i j) (rw (same, to) (is_picked n s k lk)) e)

  -- A RECORD IS PUT on the lines to every station
  pub every_view : lines_in l' ≡ put (to_every n s) (record_in (registers_in l) r) (lines_in l)
  every_view =
      let rows = registers_in l in
      fun_ext (λ i. fun_ext (λ j. by_line i j
      (λ li lj. by_test (to_every n s i j)
      (λ e. rw e (line_with rows l' i j p.registers li lj ∙ ap (λ (x : List word.Record). map (record_in rows) x) (joined i j e)
      ∙ map_append rows (records_on l (i * 16 + j)) (r ∷ []) ∙ ap (λ (x : List Record). x ++ (record_in rows r ∷ [])) (sym (line_in l i j li lj))))
      (λ e. rw e (line_with rows l' i j p.registers li lj ∙ ap (λ (x : List word.Record). map (record_in rows) x) (line_stays i j li lj e) ∙ sym (line_in l i j li lj))))
      (λ h. by_test (to_every n s i j)
      (λ e. let z = picked n s i j e in absurd (h (let a = z.0 in omega arith) (let b = z.1 in omega arith)))
      (λ e. rw e (line_beyond l' i j h ∙ sym (line_beyond l i j h))))))
    where
      joined : (i j : ℕ) → to_every n s i j ≡ true → records_on l' (i * 16 + j) ≡ records_on l (i * 16 + j) ++ (r ∷ [])
      joined i j e = let z = picked n s i j e in rw (← z.0) (p.line j z.1)

-- THE WORDS LIE RIGHT AGAIN, when the record says its room right
module _ {P : Product} (S C M W T O W' : List ℕ) (X : Laid (lent P S C M W T O)) (s n : ℕ) (r : word.Record) (ls : s < 16) (ln : n ≤ 16) (p : PushedToEvery W W' s n r) where
  pub laid_every : ((j : ℕ) → j < n → room_right (rooms_in M) s j r ≡ true) → Laid (lent P S C M W' T O)
  laid_every right =
      record {
        chains = p.formed;
        few = X.few;
        canonical = X.canonical;
        local = X.local;
        texts = X.texts;
        rooms = λ i j li lj. by_test (to_every n s i j)
            (λ e. let z = picked n s i j e in
            rw (← z.0) (rw (p.line j z.1) (words_append (room_right (rooms_in M) s j) (records_on W (s * 16 + j)) r (X.rooms s j ls lj) (right j z.1))))
            (λ e. rw (line_stays W W' s n r ls ln p i j li lj e) (X.rooms i j li lj));
      }

-- ones, as many as they are
sum_ones : (n : ℕ) (f : ℕ → ℕ) → ((k : ℕ) → k < n → f k ≡ 1) → sum n f ≡ n
unfolding sum
sum_ones zero f h = refl
sum_ones (suc n) f h = let z = sum_ones n f (λ k l. h k (omega arith)) in let y = h n (omega arith) in omega arith

-- HOW MANY RECORDS IT PUTS: one for each station
pub every_counts : (n s : ℕ) → s < n → n ≤ sum n (λ i. sum n (λ j. bit (to_every n s i j)))
every_counts n s ls =
    let x = sum_term n (λ i. sum n (λ j. bit (to_every n s i j))) s ls in
    let y = sum_ones n (λ j. bit (to_every n s s j)) (λ j l. rw (is_picked n s j l)) in
    omega arith
