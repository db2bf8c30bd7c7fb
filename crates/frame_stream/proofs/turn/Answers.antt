-- `frame_stream::turn` meets its contract.
use mathlib.Core.Path.{refl}
use Rattle.view.specs.View.{lent}
use Rattle.frame_stream.proofs.Feeds.{no_lines, runs_else}
use Rattle.frame_stream.proofs.turn.Goals as goal

pub returns-in-Wants : goal.returns-in-Wants
returns-in-Wants g c =
    let a = c.args in
    let m = c.more.ensures in
    record {
      by_each = λ P n R. (R, no_lines _ _ a.output.now _ m.inside.2 (m.inside.1 (lent P a.stations.now a.carts.now a.messages.now a.lines.now a.texts.now a.store.now)));
      inside_2 = m.inside.0;
      input_len_unchanged = (m.input_len_unchanged, refl);
    }

pub run_piece-requires : goal.run_piece-requires
run_piece-requires g c =
    let p = c.requires.inside in
    record {
      can_run = c.requires.can_run;
      inside = (p.0, runs_else c.args.f.state p.1 c.in_default.not-Wants, p.2, p.3, p.4);
    }

pub returns-in_default : goal.returns-in_default
returns-in_default g c =
    let r = c.run_piece.ensures in
    record {
      by_each = r.by_each;
      inside_2 = r.inside_2;
      input_len_unchanged = (refl, r.output_len_unchanged);
    }
