-- THE CLOSING LINE, written into lent octets, and that it is the written one.
use mathlib.Core.Path.{◌≡◌, refl, sym, ap, ap₂, ◌∙◌, subst}
use mathlib.Core.Bool.{Bool, true, false, cond, not}
use mathlib.Core.List.{List, [], ◌++◌}
use Prim.Native.Nat.{ℕ, ◌+◌, ◌≤◌}
use native.Mathlib.Numerals.{add-one}
use native.Mathlib.Omega.{arith}
use lib.Dec.{eqb}
use mir.Val.{bool_byte}
use lib.ListN.{length, take, set, length-set, replicate}
use borrow.Author.Tests.{eq-eqb, ne_eqb, not-true, not-false}
use Rattle.protocol.specs.Folds.{count}
use Rattle.protocol.specs.Floor.{Limits, Floor, limits}
use Rattle.protocol.specs.Form.{passes_form}
use Rattle.protocol.specs.Events.{refused}
use Rattle.protocol.specs.Quiet.{turned_away, quiet_after, quiet_steps, quiet_floor}
use Rattle.protocol.specs.Printed.{field, rest_of}
use Rattle.protocol.specs.Closing.{held_count, quiet_word, closing_line}
use Rattle.protocol.proofs.Theorems.{form_unstarted, quiet_5_first, quiet_runs}
use Rattle.stations.specs.View.{head_in}
use Rattle.view.specs.View.{Lent, floor_in}
use Rattle.frame_lines.specs.Lines.{Wrote, longest_pair, short_rest}
use Rattle.frame_lines.proofs.Octets.{wrote_one, wrote_then, wrote_wider}
use Rattle.frame_run.proofs.Printed.{front_of}
use Rattle.frame_stream.specs.declared.Ending.{Ending}
use Rattle.frame_stream.specs.declared.State.TheVariants.{Over, Failed}
use Rattle.frame_stream.specs.declared.Handed.{Handed}
use Rattle.frame_closing.specs.Closed.{longest_closing, answer_line, is_taken, at_end, last_line, after_line}

module _ {l l₁ l₂ : List ℕ} {p q : ℕ} (room : longest_closing ≤ length l) (word : Wrote 5 quiet_word l l₁ 0 p) where
  -- THE LINE of a floor that is quiet
  pub steps_written : (steps held : ℕ) → Wrote longest_pair (field steps ++ field held) l₁ l₂ p q
      → Wrote longest_closing (answer_line (quiet_after steps) held) l (set l₂ q 10) 0 (q + 1)
  steps_written steps held fields =
      let a = word.few in
      let b = word.kept in
      let c = fields.few in
      let d = fields.kept in
      wrote_then {m = 5} {k = longest_pair + 1} (omega arith) word
      (wrote_then {m = longest_pair} {k = 1} (omega arith) fields (wrote_one l₂ q 10 (q + 1) (omega arith) refl))

  -- and of one that is refused
  pub refused_written : (number : ℕ) → Wrote short_rest (rest_of (refused number)) l₁ l₂ p q
      → Wrote longest_closing (answer_line (turned_away number) 0) l l₂ 0 q
  unfolding rest_of
  refused_written number rest = wrote_wider (omega arith) (wrote_then {m = 5} {k = short_rest} (omega arith) word rest)

-- A FLOOR THAT IS NOT STARTED has one closing line, whatever else it says
pub line_unstarted : (M : Limits) (F : Floor) → F.started ≡ false → closing_line M F ≡ answer_line (turned_away 5) 0
unfolding closing_line
line_unstarted M F s = rw (quiet_5_first M F _ (form_unstarted M F s)) refl

-- A FLOOR THAT PASSES THE FORM RULE is run until it is quiet
pub line_quiet : (F : Floor) → passes_form limits F ≡ true → closing_line limits F ≡ answer_line (quiet_after (quiet_steps limits F)) (held_count limits (quiet_floor limits F))
unfolding closing_line
line_quiet F h =
    let runs = quiet_runs limits F (replicate 512 0) h (omega arith) in
    rw (runs.0, runs.1.0) refl

-- as the code does: by the steps that it counted and the floor that it left
pub line_left : (F F' : Floor) (steps : ℕ) → passes_form limits F ≡ true → steps ≡ quiet_steps limits F → F' ≡ quiet_floor limits F
    → answer_line (quiet_after steps) (held_count limits F') ≡ closing_line limits F
line_left F F' steps h counted left = ap₂ (λ (n : ℕ) (X : Floor). answer_line (quiet_after n) (held_count limits X)) counted left ∙ sym (line_quiet F h)

-- HOW MANY ROOMS ARE TAKEN: none, one more, and all of them
pub count_none : (f : ℕ → Bool) → 0 ≡ count 0 f
unfolding count
count_none f = refl

pub count_more : (f : ℕ → Bool) (m held : ℕ) (b : Bool) (one : ℕ) → held ≡ count m f → b ≡ f m → one ≡ bool_byte b → (held + one ≡ count (m + 1) f) × (one ≤ 1)
unfolding count
count_more f m held b one h e q = (
  ap₂ (λ (x y : ℕ). x + y) h (q ∙ ap bool_byte e ∙ from_cond (f m)) ∙ ap (λ (k : ℕ). count k f) (sym (add-one m)),
  subst (λ (k : ℕ). k ≤ 1) (sym q) (at_most b),
)
  where
    from_cond : (x : Bool) → bool_byte x ≡ cond x 1 0
    from_cond true = refl
    from_cond false = refl

    at_most : (x : Bool) → bool_byte x ≤ 1
    at_most true = omega arith
    at_most false = omega arith

pub count_all : (f : ℕ → Bool) (m held : ℕ) → held ≡ count m f → m ≡ 32 → held ≡ count 32 f
count_all f m held h e = h ∙ ap (λ (k : ℕ). count k f) e

-- WHAT THE CODE WROTE: where the floor is not started
module _ (L : Lent) {l l' : List ℕ} {n : ℕ} where
  pub wrote_refused : (marked : Bool) → marked ≡ eqb (head_in L.stations).mark 1 → not marked ≡ true
      → Wrote longest_closing (answer_line (turned_away 5) 0) l l' 0 n → Wrote longest_closing (closing_line limits (floor_in L)) l l' 0 n
  wrote_refused marked mark_is h =
      subst (λ (x : List ℕ). Wrote longest_closing x l l' 0 n) (sym (line_unstarted limits (floor_in L) (sym mark_is ∙ not-true marked h)))

  -- and where it is: held are the rooms taken in what it left
  pub wrote_quiet : (L' : Lent) (steps held : ℕ) → passes_form limits (floor_in L) ≡ true → steps ≡ quiet_steps limits (floor_in L)
      → floor_in L' ≡ quiet_floor limits (floor_in L) → held ≡ count 32 (is_taken L'.messages) → Wrote longest_closing (answer_line (quiet_after steps) held) l l' 0 n
      → Wrote longest_closing (closing_line limits (floor_in L)) l l' 0 n
  wrote_quiet L' steps held h counted left rooms =
      subst (λ (x : List ℕ). Wrote longest_closing x l l' 0 n)
      (ap (λ (k : ℕ). answer_line (quiet_after steps) k) rooms ∙ line_left (floor_in L) (floor_in L') steps h counted left)

-- AT THE END OF THE INPUT, in the order that the code asks
pub over_then : (e : Ending) → e.state ≡ Over → eqb e.left 0 ≡ at_end e
over_then e z = rw z refl

-- no line is handed on, or the one that was written
module _ (e : Ending) (F : Floor) (b : Bool) (is : b ≡ at_end e) where
  pub no_line : (l : List ℕ) → not b ≡ true → (take 0 l ≡ last_line e F) × (0 ≤ length l)
  no_line l h = (ap (λ (t : Bool). cond t (closing_line limits F) []) (sym (sym is ∙ not-true b h)), omega arith)

  pub one_line : (l l' : List ℕ) (n size : ℕ) → not b ≡ false → longest_closing ≤ length l → Wrote longest_closing (closing_line limits F) l l' 0 n → size ≡ n
      → (take size l' ≡ last_line e F) × (size ≤ length l')
  one_line l l' n size h room w z = (
    ap (λ (k : ℕ). take k l') z
        ∙ front_of l l' (closing_line limits F) n (let y = w.behind in omega arith) w.octets
        ∙ ap (λ (t : Bool). cond t (closing_line limits F) []) (sym (sym is ∙ not-false b h)),
    (let x = w.few in let y = w.kept in omega arith),
  )

-- HOW IT CAME OUT
pub line_accepted : (e : Ending) (h : Handed) → h.accepted ≡ true → e ≡ after_line e h
line_accepted e h t = rw t refl

pub line_failed : (e : Ending) (h : Handed) → h.accepted ≡ false → record { frames = e.frames; state = Failed; left = e.left } ≡ after_line e h
line_failed e h t = rw t refl
