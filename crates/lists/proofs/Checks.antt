-- THE CHECKS of lists that calls can go on with, and what a call that is refused or accepted has to show.
use mathlib.Core.Path.{◌≡◌, refl, sym, ap, ◌∙◌}
use mathlib.Core.Bool.{true, cond, not}
use mathlib.Core.List.{List}
use Prim.Native.Nat.{ℕ, ◌+◌, ◌^◌, ◌≤◌, ◌<◌}
use native.Mathlib.Nat.{pow-le-pow_right}
use native.Mathlib.Omega.{arith}
use lib.Dec.{eqb, ltb, leb}
use lib.ListN.{length}
use borrow.Author.Tests.{eqb-true, ltb-false, leb-false, not-false}
use Rattle.protocol.specs.Folds.{count, is_empty}
use Rattle.protocol.specs.CartSets.{has, set_of}
use Rattle.protocol.specs.Floor.{limits, most_text}
use Rattle.protocol.specs.Refusals.{check}
use Rattle.protocol.specs.PlainLists.{PlainCall, plain_send, plain_take, plain_refusal, plain_step, plain_answer, plain_accept, plain_report, most_entries}
use Rattle.protocol.proofs.Tests.{by_test}
use Rattle.protocol.proofs.Accepted.{passed_check}
use Rattle.protocol.proofs.Counting.{count_le}
use Rattle.protocol.proofs.SetLaws.{zero_below}
use Rattle.protocol.proofs.PlainLaws.{refused_call_alone}
use Rattle.sets.specs.Masks.{size}
use Rattle.sets.proofs.MaskLaws.{set_of_all, ones_size}
use Rattle.std.specs.Prelude.{Ok, Err}
use Rattle.refusals.specs.declared.Refusal.{Refusal}
use Rattle.refusals.specs.Numbers.{number_of}
use Rattle.lists.specs.declared.Reply.{Reply}
use Rattle.lists.specs.View.{LentLists, Counts, counts_in, lists_in}
use Rattle.lists.specs.Calls.{reply_of, ListsMet, ListsReady, send_checks, take_checks}
use Rattle.lists.proofs.Facts.{entries_pass, not_begun_fails}

-- THE CHECKS ARE THE WRITTEN ONES

pub send_checks_lem : (L : LentLists) (s set : ℕ) (text : List ℕ) → ListsReady L → plain_refusal limits (lists_in L) (plain_send s set text) ≡ send_checks (counts_in L.counts) s set (length text)
unfolding plain_refusal
send_checks_lem L s set text R =
    by_test (lists_in L).started
    (λ e. let p = R.passes e in rw (p, entries_pass L p, e))
    (λ e. rw (not_begun_fails L e, e))

pub take_checks_lem : (L : LentLists) (s c : ℕ) → ListsReady L
    → plain_refusal limits (lists_in L) (plain_take s c) ≡ cond (eqb (take_checks (counts_in L.counts) s c) 0) (check 31 (is_empty ((lists_in L).list s c)) 0) (take_checks (counts_in L.counts) s c)
unfolding plain_refusal
take_checks_lem L s c R =
    let N = counts_in L.counts in
    by_test (lists_in L).started
    (λ e. rw (R.passes e, e) (by_test (leb N.stations s) (λ a. rw a) (λ a. rw a (by_test (leb N.carts c) (λ b. rw b) (λ b. rw b)))))
    (λ e. rw (not_begun_fails L e, e))

-- what a send that is not refused grants
pub record MaySend (N : Counts) (s set size : ℕ) : Type 0 where
  pub begun : N.mark ≡ 1
  pub short : size ≤ most_text limits
  pub station : s < N.stations
  pub carts : set < 2 ^ N.carts
  pub number : N.sent s ≤ 4294967294
  pub entries : N.entries + count N.carts (has set) ≤ 2048

pub may_send : (N : Counts) (s set size : ℕ) → send_checks N s set size ≡ 0 → MaySend N s set size
may_send N s set size z =
    let a4 = passed_check 4 (ltb (most_text limits) size) _ (omega arith) z in
    let a5 = passed_check 5 (not (eqb N.mark 1)) _ (omega arith) a4.1 in
    let a8 = passed_check 8 (leb N.stations s) _ (omega arith) a5.1 in
    let a9 = passed_check 9 (leb (2 ^ N.carts) set) _ (omega arith) a8.1 in
    let a13 = passed_check 13 (ltb limits.last (N.sent s)) _ (omega arith) a9.1 in
    let a30 = passed_check 30 (ltb (most_entries limits) (N.entries + count N.carts (has set))) _ (omega arith) a13.1 in
    record {
      begun = eqb-true N.mark 1 (not-false (eqb N.mark 1) a5.0);
      short = ltb-false (most_text limits) size a4.0;
      station = leb-false N.stations s a8.0;
      carts = leb-false (2 ^ N.carts) set a9.0;
      number = ltb-false limits.last (N.sent s) a13.0;
      entries = ltb-false (most_entries limits) (N.entries + count N.carts (has set)) a30.0;
    }

-- what a take that passes these checks grants
pub record MayTake (N : Counts) (s c : ℕ) : Type 0 where
  pub begun : N.mark ≡ 1
  pub station : s < N.stations
  pub cart : c < N.carts

pub may_take : (N : Counts) (s c : ℕ) → take_checks N s c ≡ 0 → MayTake N s c
may_take N s c z =
    let a5 = passed_check 5 (not (eqb N.mark 1)) _ (omega arith) z in
    let a8 = passed_check 8 (leb N.stations s) _ (omega arith) a5.1 in
    let a9 = passed_check 9 (leb N.carts c) _ (omega arith) a8.1 in
    record {
      begun = eqb-true N.mark 1 (not-false (eqb N.mark 1) a5.0);
      station = leb-false N.stations s a8.0;
      cart = leb-false N.carts c a9.0;
    }

-- SETS OF CARTS, by the words of the code

-- a set above that of all carts names a stranger, and no other does
pub a_stranger : (k x set : ℕ) → x ≡ set_of k (λ c. true) → x < set → 2 ^ k ≤ set
a_stranger k x set e l = let z = set_of_all k in omega arith

pub no_stranger : (k x set : ℕ) → x ≡ set_of k (λ c. true) → set ≤ x → set < 2 ^ k
no_stranger k x set e l = let z = set_of_all k in let y = zero_below k in omega arith

-- how many a set of carts names
pub named_count : (k set x : ℕ) → k ≤ 64 → set < 2 ^ k → x ≡ size 64 set → x ≡ count k (has set)
unfolding size
named_count k set x few l e =
    let wide : 2 ^ k ≤ 2 ^ 64 = pow-le-pow_right (omega arith) few in
    e ∙ sym (ones_size 64 set (omega arith)) ∙ ones_size k set l

pub at_most_64 : (set x : ℕ) → x ≡ size 64 set → x ≤ 64
unfolding size
at_most_64 set x e = let z = count_le 64 (has set) in omega arith

-- WHAT IS TO BE SHOWN OF A CALL

-- every refusal has a number
pub number_some : (refusal : Refusal) → 0 < number_of refusal
number_some refusal = grind arith

pub refused_met : (L : LentLists) (call : PlainCall) (refusal : Refusal) → plain_refusal limits (lists_in L) call ≡ number_of refusal → ListsMet L L call (Err refusal)
refused_met L call refusal e =
    let alone = refused_call_alone limits (lists_in L) call (rw e (number_some refusal)) in
    record {
      answers = ap Err (sym e) ∙ ap reply_of (sym alone.1);
      lists = sym alone.0;
      untouched = λ n q. refl;
    }

pub accepted_met : (L L' : LentLists) (call : PlainCall) (reply : Reply) → plain_refusal limits (lists_in L) call ≡ 0 → Ok reply ≡ reply_of (plain_report limits (lists_in L) call)
    → lists_in L' ≡ plain_accept limits (lists_in L) call → ListsMet L L' call (Ok reply)
unfolding plain_step plain_answer
accepted_met L L' call reply free answers lists =
    record {
      answers = rw free answers;
      lists = rw free lists;
      untouched = λ r e. absurd (let z : ◌≡◌ {A = ℕ} 0 1 = cc e in omega arith);
    }
