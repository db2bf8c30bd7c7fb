-- LISTS THAT CALLS CAN GO ON WITH: what makes them so, and that every call leaves them so.
use mathlib.Core.Path.{◌≡◌, refl, sym, ap, fun_ext, ◌∙◌}
use mathlib.Core.Bool.{true, not}
use mathlib.Core.List.{[]}
use Prim.Native.Nat.{ℕ}
use native.Mathlib.Omega.{arith}
use lib.Dec.{eqb, ltb}
use lib.ListN.{length, get_or}
use borrow.Author.Tests.{eqb-true, eqb-false, not-false}
use Rattle.protocol.specs.Floor.{Limits, limits, most_text}
use Rattle.protocol.specs.PlainLists.{Plain, PlainCall, plain_start, plain_send, plain_take, plain_unstarted, plain_passes, plain_refusal, plain_step, plain_accept, plain_after_calls, appended, beheaded}
use Rattle.protocol.proofs.Tests.{by_test, on_cond, clash}
use Rattle.protocol.proofs.Accepted.{passed_check}
use Rattle.protocol.proofs.PlainLaws.{plain_form_kept, plain_form_after, refused_call_alone}
use Rattle.std.specs.Prelude.{Result}
use Rattle.refusals.specs.declared.Refusal.{Refusal}
use Rattle.lists.specs.declared.Reply.{Reply}
use Rattle.lists.specs.View.{LentLists, lent_right, counts_of, lists_in}
use Rattle.lists.specs.Calls.{ListsMet, ListsReady}
use Rattle.lists.proofs.Facts.{Lengths, of_lengths}
use Rattle.lists.proofs.StartLaws.{afresh_in}

-- A CALL LEAVES THEM SO

module _ (M : Limits) (P : Plain) where
  -- a call that is accepted leaves lists that pass
  accepted_passes : (call : PlainCall) → plain_refusal M P call ≡ 0 → plain_passes M (plain_step M P call) ≡ true
  unfolding plain_refusal plain_after_calls
  accepted_passes (plain_start n k) z = plain_form_after M P n k z []
  accepted_passes (plain_send s set text) z =
      let a4 = passed_check 4 (ltb (most_text M) (length text)) _ (omega arith) z in
      plain_form_kept M P (plain_send s set text) (not-false (plain_passes M P) (passed_check 5 (not (plain_passes M P)) _ (omega arith) a4.1).0)
  accepted_passes (plain_take s c) z = plain_form_kept M P (plain_take s c) (not-false (plain_passes M P) (passed_check 5 (not (plain_passes M P)) _ (omega arith) z).0)

  step_ready : (P.started ≡ true → plain_passes M P ≡ true) → (call : PlainCall) → (plain_step M P call).started ≡ true → plain_passes M (plain_step M P call) ≡ true
  step_ready ready call begun =
      by_test (eqb (plain_refusal M P call) 0)
      (λ e. accepted_passes call (eqb-true (plain_refusal M P call) 0 e))
      (λ e. let ne : plain_refusal M P call ≡ 0 → ⊥ = eqb-false (plain_refusal M P call) 0 e in
      let same = (refused_call_alone M P call (omega arith)).0 in
      ap (plain_passes M) same ∙ ready (sym (ap (λ (Q : Plain). Q.started) same) ∙ begun))

  -- and has no part of another length
  accept_lengths : P.lengths_right ≡ true → (call : PlainCall) → (plain_accept M P call).lengths_right ≡ true
  unfolding appended beheaded
  accept_lengths e (plain_start n k) = refl
  accept_lengths e (plain_send s set text) = e
  accept_lengths e (plain_take s c) = e

  step_lengths : P.lengths_right ≡ true → (call : PlainCall) → (plain_step M P call).lengths_right ≡ true
  unfolding plain_step
  step_lengths e call = on_cond (λ (Q : Plain). Q.lengths_right ≡ true) (eqb (plain_refusal M P call) 0) (λ b. accept_lengths e call) (λ b. e)

pub stays_ready : (L L' : LentLists) (call : PlainCall) (a : Result Reply Refusal) → ListsReady L → ListsMet L L' call a → ListsReady L'
stays_ready L L' call a R met =
    let same = met.lists in
    record {
      lengths = ap (λ (P : Plain). P.lengths_right) same ∙ step_lengths limits (lists_in L) R.lengths call;
      passes = λ e. ap (plain_passes limits) same ∙ step_ready limits (lists_in L) R.passes call (sym (ap (λ (P : Plain). P.started) same) ∙ e);
    }

-- THEY ARE SO

-- lists that pass
pub passing_ready : (L : LentLists) → lent_right L ≡ true → plain_passes limits (lists_in L) ≡ true → ListsReady L
passing_ready L lengths h = record { lengths = lengths; passes = λ e. h }

-- memory of nothing but 0, which a program begins with
pub blank_unstarted : (L : LentLists) → Lengths L → ((k : ℕ) → get_or L.counts k 0 ≡ 0) → lists_in L ≡ plain_unstarted
blank_unstarted L h zeros = afresh_in L 0 0 0 (of_lengths L h) (ap counts_of (fun_ext zeros))

pub blank_ready : (L : LentLists) → Lengths L → ((k : ℕ) → get_or L.counts k 0 ≡ 0) → ListsReady L
blank_ready L h zeros =
    record { lengths = of_lengths L h; passes = λ e. clash (lists_in L).started e (ap (λ (P : Plain). P.started) (blank_unstarted L h zeros)) }
