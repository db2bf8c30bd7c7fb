-- `list_rows::keep_row` meets its contract.
use mathlib.Core.Path.{◌≡◌, refl, ap, ap₂, sym, fun_ext, ◌∙◌}
use Prim.Native.Nat.{ℕ}
use native.Mathlib.Numerals.{add-one}
use borrow.Author.Tests.{ne_eqb, eq-eqb}
use Rattle.protocol.specs.Folds.{update}
use Rattle.protocol.proofs.Tests.{on_update}
use Rattle.list_rows.specs.declared.Message.{Message}
use Rattle.list_rows.specs.Rows.{Row, used_rows, keep_row}
use borrow.Author.Rules.{rules}
use Rattle.list_rows.proofs.keep_row.Goals as goal

-- a row that is moved to where it stands
stays : (T : ℕ → Row) (row used : ℕ) → row ≡ used → T ≡ update T used (T row)
stays T row used e = fun_ext (λ k. on_update (λ x. T k ≡ x) T used (T row) k (λ z. ap T (z ∙ sym e)) (λ z. refl))

pub returns-then-message-eq0 : goal.returns-then-message-eq0
unfolding keep_row
returns-then-message-eq0 c =
    let its = ap (λ (m : Message). m.carts) (c.message_at-message.ensures c.args.octets.now) in
    record {
      result_after = sym (rw (eq-eqb _ 0 (sym its ∙ c.if-message-eq0.true)));
      sends_len_unchanged = (search rules, search rules);
    }

pub returns-then-row-used : goal.returns-then-row-used
unfolding keep_row
returns-then-row-used c =
    let a = c.args in
    let its = ap (λ (m : Message). m.carts) (c.message_at-message.ensures a.octets.now) in
    record {
      result_after = rw (ne_eqb _ 0 (λ e. c.if-message-eq0.false (its ∙ e))) (ap₂ (λ (T : ℕ → Row) (n : ℕ). used_rows T n) (stays _ a.row a.used c.if-row-used.true) (add-one a.used));
      sends_len_unchanged = (search rules, search rules);
    }

pub returns : goal.returns
unfolding keep_row
returns c =
    let a = c.args in
    let its = ap (λ (m : Message). m.carts) (c.message_at-message.ensures a.octets.now) in
    record {
      result_after = rw (ne_eqb _ 0 (λ e. c.if-message-eq0.false (its ∙ e))) (ap₂ (λ (T : ℕ → Row) (n : ℕ). used_rows T n) c.move_row.ensures.octets_after (add-one a.used));
      sends_len_unchanged = (search rules, search rules);
    }
