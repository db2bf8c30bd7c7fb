use Rattle.training_stream.proofs.Fresh.{benched}
use Rattle.training_stream.proofs.run.Goals as goal

pub returns : goal.returns
returns g c =
    let m = c.no_floor-floor in
    benched m.result _ m.ensures.1 c.run_over.ensures
