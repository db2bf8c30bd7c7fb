-- A REGISTER GETS ITS ROW before it is put on its line: no line has one of that cart, so the lines stay what they are.
use mathlib.Core.Path.{◌≡◌, refl, sym, ap, ap₂, ◌∙◌, fun_ext}
use mathlib.Core.Bool.{◌&&◌}
use mathlib.Core.List.{List, [], ◌∷◌, map}
use Prim.Native.Nat.{ℕ, ◌+◌, ◌*◌, ◌<◌}
use native.Mathlib.Omega.{arith}
use lib.Dec.{eqb}
use lib.ListN.{get_or}
use lib.Seq.{ext_get_or}
use borrow.Author.Tests.{eq-eqb, ne_eqb}
use Rattle.protocol.specs.Folds.{list_of}
use Rattle.protocol.specs.Floor.{Place, outside, at, leaving, travelling, Record, multicast, ack_list, delete, deregister, register, tail, behead}
use Rattle.protocol.specs.Form.{HandoffRecord, deregistering, registering, handoffs, handoff_of}
use Rattle.protocol.proofs.Tests.{by_test, by_eq, on_cond, eqb_self, length_list_of, list_of_at}
use Rattle.lines.specs.declared.Record as word
use Rattle.lines.specs.Lines.{records_on, registers_in}
use Rattle.lines.specs.Post.{Carried}
use Rattle.view.specs.Records.{kind_of, index_of, record_in, lines_in}
use Rattle.view.proofs.LinesView.{line_in, line_beyond, line_below, by_line}

-- no register among a cart's hand-offs
abbrev pub NoRegister : List HandoffRecord → Type 0
NoRegister [] = Unit {0}
NoRegister (deregistering ∷ l) = NoRegister l
NoRegister (registering row ∷ l) = ⊥

-- a cart that is not travelling has none
pub none_unless_travelling : (p : Place) (i j : ℕ) (row : List ℕ) → ((s u : ℕ) → p ≡ travelling s u → ⊥) → NoRegister (handoff_of p i j row)
none_unless_travelling outside i j row h = tt
none_unless_travelling (at s) i j row h = tt
none_unless_travelling (leaving s u) i j row h = on_cond NoRegister (eqb u i && eqb s j) (λ e. tt) (λ e. tt)
none_unless_travelling (travelling s u) i j row h = absurd (h s u refl)

-- nor behind the head of a line that has none
none_behind : (c : ℕ) (r : Record) (rest : List Record) → NoRegister (handoffs c (r ∷ rest)) → NoRegister (handoffs c rest)
none_behind c (multicast n) rest h = h
none_behind c (ack_list n x) rest h = h
none_behind c (delete n) rest h = h
none_behind c (deregister d) rest h = by_test (eqb d c) (λ e. rw e at h) (λ e. rw e at h)
none_behind c (register d row) rest h = by_test (eqb d c) (λ e. absurd (rw e at h)) (λ e. rw e at h)

none_in_tail : (c : ℕ) (l : List Record) → NoRegister (handoffs c l) → NoRegister (handoffs c (tail l))
none_in_tail c [] h = h
none_in_tail c (r ∷ l) h = none_behind c r l h

pub none_beheaded : (c a b : ℕ) (lines : ℕ → ℕ → List Record) (i j : ℕ) → NoRegister (handoffs c (lines i j)) → NoRegister (handoffs c (behead a b lines i j))
none_beheaded c a b lines i j h = on_cond (λ (l : List Record). NoRegister (handoffs c l)) (eqb a i && eqb b j) (λ e. none_in_tail c (lines i j) h) (λ e. h)

module _ (rows rows' : ℕ → ℕ → ℕ) (c : ℕ) (same : (d s : ℕ) → (d ≡ c → ⊥) → rows' d s ≡ rows d s) where
  record_kept : (r : word.Record) (rest : List Record) → NoRegister (handoffs c (record_in rows r ∷ rest)) → record_in rows' r ≡ record_in rows r
  unfolding record_in
  record_kept r rest h =
      by_test (eqb (kind_of r.0) 1) (λ e. rw e)
      (λ e₁. by_test (eqb (kind_of r.0) 2) (λ e. rw (e₁, e))
      (λ e₂. by_test (eqb (kind_of r.0) 3) (λ e. rw (e₁, e₂, e))
      (λ e₃. by_test (eqb (kind_of r.0) 4) (λ e. rw (e₁, e₂, e₃, e))
      (λ e₄. by_eq (index_of r.0) c
      (λ q. absurd (let g : NoRegister (handoffs c (register (index_of r.0) (list_of 16 (rows (index_of r.0))) ∷ rest)) = rw (e₁, e₂, e₃, e₄) at h in rw (eq-eqb (index_of r.0) c q) at g))
      (λ q. rw (e₁, e₂, e₃, e₄) (ap (λ (f : ℕ → ℕ). register (index_of r.0) (list_of 16 f)) (fun_ext (λ s. same (index_of r.0) s q))))))))

  all_kept : (l : List word.Record) → NoRegister (handoffs c (map (record_in rows) l)) → map (record_in rows') l ≡ map (record_in rows) l
  all_kept [] h = refl
  all_kept (r ∷ l) h =
      ap₂ (λ (x : Record) (y : List Record). x ∷ y) (record_kept r (map (record_in rows) l) h) (all_kept l (none_behind c (record_in rows r) (map (record_in rows) l) h))

-- THE ROW OF CART c IS PUT
module _ (W W' : List ℕ) (c : ℕ) (row : List ℕ) (put : Carried W W' c row) where
  others_kept : (d s : ℕ) → (d ≡ c → ⊥) → registers_in W' d s ≡ registers_in W d s
  others_kept d s q = ap (λ (f : ℕ → ℕ → ℕ). f d s) put.registers ∙ rw (ne_eqb d c q)

  pub carry_view : ((i j : ℕ) → NoRegister (handoffs c (lines_in W i j))) → lines_in W' ≡ lines_in W
  carry_view h =
      fun_ext (λ i. fun_ext (λ j. by_line i j
      (λ li lj. line_in W' i j li lj
      ∙ ap (λ (l : List word.Record). map (record_in (registers_in W')) l) (put.lines (i * 16 + j) (line_below i j li lj))
      ∙ all_kept (registers_in W) (registers_in W') c others_kept (records_on W (i * 16 + j)) (let z = h i j in rw (line_in W i j li lj) at z)
      ∙ sym (line_in W i j li lj))
      (λ g. line_beyond W' i j g ∙ sym (line_beyond W i j g))))

  -- so the register of cart c carries it
  pub carried_row : (f : ℕ → ℕ) → row ≡ list_of 16 f → list_of 16 (registers_in W' c) ≡ list_of 16 f
  carried_row f e =
      ext_get_or 0 (list_of 16 (registers_in W' c)) (list_of 16 f) (length_list_of 16 (registers_in W' c) ∙ sym (length_list_of 16 f))
      (λ s l. let h : s < 16 = (let z = length_list_of 16 (registers_in W' c) in omega arith) in
      list_of_at 16 (registers_in W' c) 0 s h
      ∙ ap (λ (g : ℕ → ℕ → ℕ). g c s) put.registers ∙ rw (eqb_self c) (ap (λ (l : List ℕ). get_or l s 0) e))
