-- A CALL MEETS THE WRITTEN CALL, refused or not.
use mathlib.Core.Path.{◌≡◌, refl, sym, ◌∙◌}
use mathlib.Core.Bool.{true, false}
use mathlib.Core.List.{List}
use Prim.Native.Nat.{ℕ, ◌<◌, ◌≤◌}
use native.Mathlib.Omega.{arith}
use lib.ListN.{length}
use Rattle.protocol.specs.Floor.{limits_of}
use Rattle.protocol.specs.Form.{passes_form}
use Rattle.protocol.specs.Quiet.{quiet_refusal, quiet_after}
use Rattle.protocol.proofs.QuietCall.{broken_is_5, short_is_21, else_runs, call_refused, refused_call_keeps, call_runs}
use Rattle.view.specs.View.{Lent, floor_in}
use Rattle.std.specs.Prelude.{Ok, Err}
use Rattle.refusals.specs.declared.Refusal.{Refusal}
use Rattle.refusals.specs.declared.Refusal.TheVariants.{NotReady, ShortBuffer}
use Rattle.refusals.specs.Numbers.{number_of}
use Rattle.dispatcher.specs.Quieted.{Quieted}
use Rattle.dispatcher.specs.Called.{QuietMet}

module _ (L : Lent) (buffer : List ℕ) where
  refused : (r : Refusal) → 0 < number_of r → quiet_refusal (limits_of L.product) (floor_in L) (length buffer) ≡ number_of r → QuietMet L L buffer buffer (Err r)
  refused r pos e =
      let a = call_refused (limits_of L.product) (floor_in L) buffer (number_of r) pos e in
      let k = refused_call_keeps (limits_of L.product) (floor_in L) buffer (number_of r) a in
      record { product = refl; answers = sym a; floor = sym k.0; octets = sym k.1; untouched = λ s q. refl }

  pub quiet_broken : passes_form (limits_of L.product) (floor_in L) ≡ false → QuietMet L L buffer buffer (Err NotReady)
  quiet_broken h = refused NotReady (omega arith) (broken_is_5 (limits_of L.product) (floor_in L) (length buffer) h)

  module _ (h : passes_form (limits_of L.product) (floor_in L) ≡ true) where
    pub quiet_short : length buffer < 512 → QuietMet L L buffer buffer (Err ShortBuffer)
    quiet_short l = refused ShortBuffer (omega arith) (short_is_21 (limits_of L.product) (floor_in L) (length buffer) h l)

    pub quiet_ran : (L' : Lent) (buffer' : List ℕ) (steps : ℕ) → 512 ≤ length buffer → Quieted L L' buffer buffer' steps → QuietMet L L' buffer buffer' (Ok steps)
    quiet_ran L' buffer' steps l q =
        let a = call_runs (limits_of L.product) (floor_in L) buffer (else_runs (limits_of L.product) (floor_in L) (length buffer) h l) in
        record {
          product = q.product;
          answers = (λ i. quiet_after (q.count i)) ∙ sym a.0;
          floor = q.floor ∙ sym a.1.0;
          octets = q.octets ∙ sym a.1.1;
          untouched = λ r e. absurd (let z : ◌≡◌ {A = ℕ} 0 1 = cc in omega arith);
        }
