-- What a push, a pop and a start of the lines do to the lines of the floor.
use mathlib.Core.Path.{◌≡◌, refl, sym, ap, ◌∙◌, fun_ext}
use mathlib.Core.Bool.{true, false, ◌&&◌}
use mathlib.Core.List.{List, [], ◌∷◌, ◌++◌, map}
use Prim.Native.Nat.{ℕ, ◌+◌, ◌*◌, ◌<◌}
use native.Mathlib.Omega.{arith}
use lib.Dec.{eqb, eqb-suc-zero, ltb}
use lib.ListN.{length, drop}
use borrow.Author.Tests.{ltb-true, lt-ltb}
use Rattle.protocol.specs.Folds.{is_empty}
use Rattle.protocol.specs.Floor.{Record, tail, put, behead, between}
use Rattle.protocol.proofs.Tests.{by_test, by_lt, and_left, and_right, and_intro, both_equal, both_differ, not_both_equal}
use Rattle.lines.specs.declared.Record as word
use Rattle.lines.specs.Lines.{records_on, registers_in}
use Rattle.lines.specs.Post.{Pushed, Popped, Cleared}
use Rattle.view.specs.Records.{record_in, lines_in}

-- LINE NUMBERS

-- two lines with one number are one line
pub same_line : (i j a b : ℕ) → j < 16 → b < 16 → i * 16 + j ≡ a * 16 + b → (i ≡ a) × (j ≡ b)
same_line i j a b hj hb e = (omega arith, omega arith)

pub line_below : (i j : ℕ) → i < 16 → j < 16 → i * 16 + j < 256
line_below i j hi hj = omega arith

inside : (i j : ℕ) → i < 16 → j < 16 → ltb i 16 && ltb j 16 ≡ true
inside i j hi hj = and_intro (ltb i 16) (ltb j 16) (lt-ltb i 16 hi) (lt-ltb j 16 hj)

-- a line of the floor, whose registers carry those rows
pub line_with : (rows : ℕ → ℕ → ℕ) (l : List ℕ) (i j : ℕ) → registers_in l ≡ rows → i < 16 → j < 16 → lines_in l i j ≡ map (record_in rows) (records_on l (i * 16 + j))
unfolding lines_in
line_with rows l i j e hi hj = rw (inside i j hi hj) (ap (λ (f : ℕ → ℕ → ℕ). map (record_in f) (records_on l (i * 16 + j))) e)

pub line_in : (l : List ℕ) (i j : ℕ) → i < 16 → j < 16 → lines_in l i j ≡ map (record_in (registers_in l)) (records_on l (i * 16 + j))
line_in l i j hi hj = line_with (registers_in l) l i j refl hi hj

-- it is empty exactly where the line of words is
none_in : (rows : ℕ → ℕ → ℕ) (k : List word.Record) → is_empty (map (record_in rows) k) ≡ eqb (length k) 0
none_in rows [] = refl
none_in rows (r ∷ k) = sym (eqb-suc-zero (length k))

pub line_empty : (l : List ℕ) (i j : ℕ) → i < 16 → j < 16 → is_empty (lines_in l i j) ≡ eqb (length (records_on l (i * 16 + j))) 0
line_empty l i j hi hj = ap is_empty (line_in l i j hi hj) ∙ none_in (registers_in l) (records_on l (i * 16 + j))

pub line_beyond : (l : List ℕ) (i j : ℕ) → (i < 16 → j < 16 → ⊥) → lines_in l i j ≡ []
unfolding lines_in
line_beyond l i j h =
    by_test (ltb i 16 && ltb j 16)
    (λ e. absurd (h (ltb-true i 16 (and_left (ltb i 16) (ltb j 16) e)) (ltb-true j 16 (and_right (ltb i 16) (ltb j 16) e))))
    (λ e. rw e)

-- records one after the other
pub map_append : (rows : ℕ → ℕ → ℕ) (l k : List word.Record) → map (record_in rows) (l ++ k) ≡ map (record_in rows) l ++ map (record_in rows) k
map_append rows [] k = refl
map_append rows (x ∷ l) k = ap (λ (z : List Record). record_in rows x ∷ z) (map_append rows l k)

map_drop : (rows : ℕ → ℕ → ℕ) (l : List word.Record) → map (record_in rows) (drop 1 l) ≡ tail (map (record_in rows) l)
map_drop rows [] = refl
map_drop rows (x ∷ l) = refl

-- by cases on whether a line is on the floor
pub by_line : {P : Type 0} (i j : ℕ) → (i < 16 → j < 16 → P) → ((i < 16 → j < 16 → ⊥) → P) → P
by_line i j f g = by_lt i 16 (λ a. by_lt j 16 (λ b. f a b) (λ b. g (λ x y. omega arith))) (λ a. g (λ x y. omega arith))

-- A PUSH
pub push_view : (l l' : List ℕ) (a b : ℕ) (r : word.Record) → a < 16 → b < 16 → Pushed l l' (a * 16 + b) r
    → lines_in l' ≡ put (between a b) (record_in (registers_in l) r) (lines_in l)
push_view l l' a b r ha hb p =
    let rows = registers_in l in
    fun_ext (λ i. fun_ext (λ j. by_line i j
    (λ hi hj. by_test (between a b i j)
    (λ e. let z = both_equal a i b j e in
    rw e (line_with rows l' i j p.registers hi hj ∙ ap (λ (k : ℕ). map (record_in rows) (records_on l' k)) (let q : i * 16 + j ≡ a * 16 + b = (let x = z.0 in let y = z.1 in omega arith) in q)
    ∙ ap (λ (x : List word.Record). map (record_in rows) x) p.line ∙ map_append rows (records_on l (a * 16 + b)) (r ∷ [])
    ∙ ap (λ (k : ℕ). map (record_in rows) (records_on l k) ++ (record_in rows r ∷ [])) (let q : a * 16 + b ≡ i * 16 + j = (let x = z.0 in let y = z.1 in omega arith) in q)
    ∙ ap (λ (x : List Record). x ++ (record_in rows r ∷ [])) (sym (line_in l i j hi hj))))
    (λ e. rw e (line_with rows l' i j p.registers hi hj
    ∙ ap (λ (x : List word.Record). map (record_in rows) x) (p.others (i * 16 + j) (line_below i j hi hj) (λ q. let z = same_line i j a b hj hb q in not_both_equal a i b j e (sym z.0) (sym z.1)))
    ∙ sym (line_in l i j hi hj))))
    (λ h. let no : between a b i j ≡ false = both_differ a i b j (λ x y. h (omega arith) (omega arith)) in rw no (line_beyond l' i j h ∙ sym (line_beyond l i j h)))))

-- A POP
pub pop_view : (l l' : List ℕ) (a b : ℕ) → a < 16 → b < 16 → Popped l l' (a * 16 + b) → lines_in l' ≡ behead a b (lines_in l)
pop_view l l' a b ha hb p =
    let rows = registers_in l in
    fun_ext (λ i. fun_ext (λ j. by_line i j
    (λ hi hj. by_test (eqb a i && eqb b j)
    (λ e. let z = both_equal a i b j e in
    rw e (line_with rows l' i j p.registers hi hj ∙ ap (λ (k : ℕ). map (record_in rows) (records_on l' k)) (let q : i * 16 + j ≡ a * 16 + b = (let x = z.0 in let y = z.1 in omega arith) in q)
    ∙ ap (λ (x : List word.Record). map (record_in rows) x) p.line ∙ map_drop rows (records_on l (a * 16 + b))
    ∙ ap (λ (k : ℕ). tail (map (record_in rows) (records_on l k))) (let q : a * 16 + b ≡ i * 16 + j = (let x = z.0 in let y = z.1 in omega arith) in q)
    ∙ ap (λ (x : List Record). tail x) (sym (line_in l i j hi hj))))
    (λ e. rw e (line_with rows l' i j p.registers hi hj
    ∙ ap (λ (x : List word.Record). map (record_in rows) x) (p.others (i * 16 + j) (line_below i j hi hj) (λ q. let z = same_line i j a b hj hb q in not_both_equal a i b j e (sym z.0) (sym z.1)))
    ∙ sym (line_in l i j hi hj))))
    (λ h. let no : eqb a i && eqb b j ≡ false = both_differ a i b j (λ x y. h (omega arith) (omega arith)) in rw no (line_beyond l' i j h ∙ sym (line_beyond l i j h)))))

-- A START
pub clear_view : (l l' : List ℕ) → Cleared l l' → lines_in l' ≡ (λ i j. [])
clear_view l l' p =
    fun_ext (λ i. fun_ext (λ j. by_line i j
    (λ hi hj. line_in l' i j hi hj ∙ ap (λ (x : List word.Record). map (record_in (registers_in l')) x) (p.empty (i * 16 + j) (line_below i j hi hj)))
    (λ h. line_beyond l' i j h)))

-- THE HEAD OF A LINE
pub head_view : (l : List ℕ) (i j : ℕ) (r : word.Record) (rest : List word.Record) → i < 16 → j < 16 → records_on l (i * 16 + j) ≡ r ∷ rest
    → lines_in l i j ≡ record_in (registers_in l) r ∷ map (record_in (registers_in l)) rest
head_view l i j r rest hi hj e = line_in l i j hi hj ∙ ap (λ (x : List word.Record). map (record_in (registers_in l)) x) e
