-- `training_stream::turn` meets its contract.
use mathlib.Core.Path.{refl, ap}
use Rattle.frame_stream.specs.Feed.{state_number}
use Rattle.frame_stream.proofs.Feeds.{runs_else}
use Rattle.lists.specs.View.{lent_lists, lists_in}
use Rattle.training_stream.specs.Memory.{lent_in}
use Rattle.training_stream.proofs.Turns.{read_made}
use Rattle.training_stream.proofs.turn.Goals as goal

pub returns-in-Wants : goal.returns-in-Wants
returns-in-Wants g c =
    let a = c.args in
    let m = c.more.ensures in
    record {
      ready_2 = (c.requires.ready.0, c.requires.ready.1, read_made _ _ (lists_in (lent_lists a.counts.now a.sends.now a.octets.now)) a.output.now _ (ap state_number c.in-Wants.is) m.inside.2 (m.inside.1 (lent_in a.floor.now)));
      inside_2 = m.inside.0;
      input_len_unchanged = (m.input_len_unchanged, refl, refl);
    }

pub run_piece-requires : goal.run_piece-requires
run_piece-requires g c =
    let p = c.requires.inside in
    record {
      ready = c.requires.ready;
      inside = (p.0, runs_else c.args.f.state p.1 c.in_default.not-Wants, p.2, p.3, p.4, p.5);
    }

pub returns-in_default : goal.returns-in_default
returns-in_default g c =
    let r = c.run_piece.ensures in
    record {
      ready_2 = r.ready_2;
      inside_2 = r.inside_2;
      input_len_unchanged = (refl, r.output_len_unchanged.0, r.output_len_unchanged.1);
    }
