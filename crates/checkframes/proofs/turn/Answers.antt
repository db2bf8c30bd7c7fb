-- `checkframes::turn` meets its contract.
use mathlib.Core.Path.{◌∙◌}
use Rattle.checkframes.proofs.Turns.{piece_inside, sums_fit, inside_again, piece_goes}
use Rattle.checkframes.proofs.turn.Goals as goal

pub keep-kept-requires : goal.keep-kept-requires
keep-kept-requires g c =
    let b = c.read_behind in
    let n = c.in_ok-count in
    let k = c.check-piece in
    ((piece_inside c.args.input.now b.new.input c.args.p n.count c.requires.0 n.ensures.count_in_bounds b.ensures.kept_stay b.ensures.input_len_unchanged k.result k.ensures).0, n.ensures.count_in_bounds)

pub joined-requires : goal.joined-requires
joined-requires g c =
    let b = c.read_behind in
    let n = c.in_ok-count in
    let k = c.check-piece in
    sums_fit c.args.input.now b.new.input c.args.p n.count c.requires.0 n.ensures.count_in_bounds b.ensures.kept_stay b.ensures.input_len_unchanged k.result k.ensures c.requires.1

pub returns : goal.returns
returns g c =
    let b = c.read_behind in
    let n = c.in_ok-count in
    let k = c.check-piece in
    let m = c.keep-kept in
    let t = c.state_after in
    let j = c.joined in
    record {
      inside = inside_again c.args.input.now b.new.input c.args.p n.count c.requires.0 n.ensures.count_in_bounds b.ensures.kept_stay b.ensures.input_len_unchanged k.result k.ensures m.new.input _ m.ensures.value.0 m.ensures.value.1 m.ensures.input_len_unchanged t.ensures j.ensures;
      goes = piece_goes c.args.input.now b.new.input c.args.p n.count c.requires.0 n.ensures.count_in_bounds b.ensures.kept_stay b.ensures.input_len_unchanged k.result k.ensures m.new.input _ m.ensures.value.0 m.ensures.value.1 m.ensures.input_len_unchanged t.ensures j.ensures;
      input_len_unchanged = m.ensures.input_len_unchanged ∙ b.ensures.input_len_unchanged;
    }
