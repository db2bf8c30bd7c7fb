-- `lists::start` meets its contract.
use mathlib.Core.Path.{◌≡◌, sym, ◌∙◌}
use native.Mathlib.Omega.{arith}
use lib.ListN.{length, set, length-set}
use Rattle.lists.specs.View.{lent_lists}
use Rattle.lists.proofs.Facts.{lengths_of, of_lengths}
use Rattle.lists.proofs.StartLaws.{start_lengths, start_begun, start_size, start_met, counts_begun}
use Rattle.lists.proofs.start.Goals as goal

pub returns-then-not-lengths_ok : goal.returns-then-not-lengths_ok
returns-then-not-lengths_ok c =
    let a = c.args in
    start_lengths (lent_lists a.counts.now a.sends.now a.octets.now) a.n a.k (sym c.lengths_ok.ensures ∙ c.if-not-lengths_ok.true)

pub bounds-counts-0 : goal.bounds-counts-0
bounds-counts-0 c =
    let a = c.args in
    let sized = lengths_of (lent_lists a.counts.now a.sends.now a.octets.now) (sym c.lengths_ok.ensures ∙ c.if-not-lengths_ok.false) in
    omega (arith, sized.counts)

pub returns-then-counts-eq-STARTED : goal.returns-then-counts-eq-STARTED
returns-then-counts-eq-STARTED c =
    let a = c.args in
    start_begun (lent_lists a.counts.now a.sends.now a.octets.now) a.n a.k (sym c.lengths_ok.ensures ∙ c.if-not-lengths_ok.false) c.if-counts-eq-STARTED.true

pub returns-then-wrong_size : goal.returns-then-wrong_size
returns-then-wrong_size c =
    let a = c.args in
    start_size (lent_lists a.counts.now a.sends.now a.octets.now) a.n a.k (sym c.lengths_ok.ensures ∙ c.if-not-lengths_ok.false) c.if-counts-eq-STARTED.false (sym c.wrong_size.ensures ∙ c.if-wrong_size.true)

pub bounds-counts-0-2 : goal.bounds-counts-0-2
bounds-counts-0-2 c =
    let a = c.args in
    let sized = lengths_of (lent_lists a.counts.now a.sends.now a.octets.now) (sym c.lengths_ok.ensures ∙ c.if-not-lengths_ok.false) in
    omega (arith, sized.counts, c.clear.ensures.words_len_unchanged)

pub bounds-counts-1 : goal.bounds-counts-1
bounds-counts-1 c =
    let a = c.args in
    let sized = lengths_of (lent_lists a.counts.now a.sends.now a.octets.now) (sym c.lengths_ok.ensures ∙ c.if-not-lengths_ok.false) in
    simp length-set (omega (arith, sized.counts, c.clear.ensures.words_len_unchanged))

pub bounds-counts-2 : goal.bounds-counts-2
bounds-counts-2 c =
    let a = c.args in
    let sized = lengths_of (lent_lists a.counts.now a.sends.now a.octets.now) (sym c.lengths_ok.ensures ∙ c.if-not-lengths_ok.false) in
    simp length-set (omega (arith, sized.counts, c.clear.ensures.words_len_unchanged))

pub returns : goal.returns
returns c =
    let a = c.args in
    let e = sym c.lengths_ok.ensures ∙ c.if-not-lengths_ok.false in
    let L = lent_lists a.counts.now a.sends.now a.octets.now in
    let sized = lengths_of L e in
    let cleared = c.clear.new.words in
    let long : length cleared ≡ 21 = c.clear.ensures.words_len_unchanged ∙ sized.counts in
    let sized' = of_lengths (lent_lists (set (set (set cleared 0 1) 1 a.n) 2 a.k) a.sends.now a.octets.now) (record { counts = simp length-set long; sends = sized.sends; octets = sized.octets }) in
    start_met L a.n a.k _ e c.if-counts-eq-STARTED.false (sym c.wrong_size.ensures ∙ c.if-wrong_size.false) sized' (counts_begun cleared a.n a.k long c.clear.ensures.by_index)
