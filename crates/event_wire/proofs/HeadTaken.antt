-- THE HEAD RECORD IS TAKEN OFF ITS LINE by a wire event that is not refused.
use mathlib.Core.Path.{◌≡◌, refl, sym, ap, ◌∙◌}
use mathlib.Core.Bool.{true, false}
use mathlib.Core.List.{List, [], ◌∷◌, map}
use Prim.Native.Nat.{ℕ, ◌+◌, ◌*◌, ◌≤◌, ◌<◌}
use native.Mathlib.Omega.{arith}
use lib.ListN.{length, drop}
use Rattle.protocol.specs.Folds.{is_empty}
use Rattle.protocol.specs.Floor.{Product, limits_of, Record}
use Rattle.protocol.specs.Events.{wire}
use Rattle.protocol.specs.Form.{passes_form}
use Rattle.protocol.specs.Refusals.{refusal_if}
use Rattle.protocol.proofs.Tests.{clash}
use Rattle.protocol.proofs.Accepted.{MayWire, may_wire}
use Rattle.stations.specs.View.{HasHead, head_in}
use Rattle.lines.specs.declared.Record as word
use Rattle.lines.specs.Form.{form}
use Rattle.lines.specs.Lines.{records_on, registers_in}
use Rattle.lines.specs.Post.{Popped}
use Rattle.view.specs.Records.{record_in}
use Rattle.view.specs.View.{Lent, lent, floor_in}
use Rattle.view.proofs.LinesView.{line_in}
use Rattle.view.proofs.Standing.{Standing, standing, few_stations}
use Rattle.event_wire.specs.Off.{TakenOff, IsOff}

-- a line that says a record has one
some_words : (rows : ℕ → ℕ → ℕ) (l : List word.Record) (r : Record) (k : List Record) → map (record_in rows) l ≡ r ∷ k → 0 < length l
some_words rows [] r k e = clash true refl (ap is_empty e)
some_words rows (x ∷ l) r k e = omega arith

module _ (P : Product) (S C M W T O : List ℕ) (i j : ℕ) (p : passes_form (limits_of P) (floor_in (lent P S C M W T O)) ≡ true) where
  abbrev L : Lent
  L = lent P S C M W T O

  X : Standing L
  X = standing L p

  -- what the checks ask
  pub checks_asks : HasHead S × ((head_in S).stations ≤ 16) × (form W ≡ true)
  checks_asks = (let a = X.lengths.stations in omega arith, few_stations L X, X.laid.chains)

  module _ (free : 0 ≡ refusal_if (limits_of P) (floor_in L) false (wire i j)) where
    may : (r : Record) × (l : List Record) × MayWire (floor_in L) i j r l
    may = may_wire (limits_of P) (floor_in L) false i j (sym free)

    -- what the head and the pop ask
    pub head_asks : (i < 16) × (j < 16) × (form W ≡ true) × (0 < length (records_on W (i * 16 + j)))
    head_asks =
        let z = may.2 in
        let few = few_stations L X in
        let li : i < 16 = (let a = z.from in omega arith) in
        let lj : j < 16 = (let a = z.to in omega arith) in
        (li, lj, X.laid.chains, some_words (registers_in W) (records_on W (i * 16 + j)) may.0 may.1 (sym (line_in W i j li lj) ∙ z.line))

    module _ (W₁ : List ℕ) (said : word.Record) (top : records_on W (i * 16 + j) ≡ said ∷ drop 1 (records_on W (i * 16 + j))) (popped : Popped W W₁ (i * 16 + j)) where
      pub taken_off_lem : TakenOff P S C M W W₁ T O i j said
      taken_off_lem = record { passes = p; from = may.2.from; to = may.2.to; top = top; popped = popped }

      pub is_off : IsOff S C M W₁ i j said
      is_off = record { product = P; lines = W; texts = T; store = O; taken = taken_off_lem }
