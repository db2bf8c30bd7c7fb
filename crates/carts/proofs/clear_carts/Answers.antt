-- `carts::clear_carts` meets its contract.
use Rattle.carts.proofs.TableLaws.{no_carts_lem, no_carts_canonical}
use Rattle.carts.proofs.clear_carts.Goals as goal

pub returns : goal.returns
returns c =
    let p = c.clear.ensures in
    record {
      carts_after = no_carts_lem _ p.by_index;
      carts_after_2 = no_carts_canonical _ p.by_index;
      carts_len_unchanged = p.words_len_unchanged;
    }
