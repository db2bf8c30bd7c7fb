-- `tested_lists::passes` meets its contract.
use mathlib.Core.Path.{sym, ◌∙◌}
use Rattle.protocol.proofs.ClaimLaws.{reflect}
use Rattle.lists.specs.View.{lent_lists, counts_in}
use Rattle.lists.proofs.Facts.{lengths_of}
use Rattle.tested_lists.specs.Form.{counts_rule}
use Rattle.tested_lists.proofs.Split.{form_split}
use Rattle.tested_lists.proofs.passes.Goals as goal

pub returns-then-not-lengths_ok : goal.returns-then-not-lengths_ok
returns-then-not-lengths_ok c =
    let a = c.args in
    sym (form_split (lent_lists a.counts.now a.sends.now a.octets.now) ∙ rw (sym c.lengths_ok.ensures ∙ c.if-not-lengths_ok.true))

pub counts_ok-requires : goal.counts_ok-requires
counts_ok-requires c =
    let a = c.args in
    (lengths_of (lent_lists a.counts.now a.sends.now a.octets.now) (sym c.lengths_ok.ensures ∙ c.if-not-lengths_ok.false)).counts

pub returns-then-not-counts_ok : goal.returns-then-not-counts_ok
returns-then-not-counts_ok c =
    let a = c.args in
    sym (form_split (lent_lists a.counts.now a.sends.now a.octets.now) ∙ rw (sym c.lengths_ok.ensures ∙ c.if-not-lengths_ok.false, sym c.counts_ok.ensures ∙ c.if-not-counts_ok.true))

pub rows_ok-requires : goal.rows_ok-requires
rows_ok-requires c =
    let a = c.args in
    let h = lengths_of (lent_lists a.counts.now a.sends.now a.octets.now) (sym c.lengths_ok.ensures ∙ c.if-not-lengths_ok.false) in
    (h.counts, h.sends, (reflect (counts_rule (counts_in a.counts.now))).0 (sym c.counts_ok.ensures ∙ c.if-not-counts_ok.false))

pub returns : goal.returns
returns c =
    let a = c.args in
    c.rows_ok.ensures a.octets.now
    ∙ sym (form_split (lent_lists a.counts.now a.sends.now a.octets.now) ∙ rw (sym c.lengths_ok.ensures ∙ c.if-not-lengths_ok.false, sym c.counts_ok.ensures ∙ c.if-not-counts_ok.false))
