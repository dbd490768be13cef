use Rattle.obq_front.specs.Contents.{contents}
use Rattle.obq_run.proofs.check.check_files.Goals as goal

pub returns-in-Ok-clause-accepted : goal.returns-in-Ok-clause-accepted
returns-in-Ok-clause-accepted g c =
    let accepted = c.in-Ok._accepted in
    record { sources = contents accepted.sources.items; held = c.in-Ok.ensures.held; trees = accepted.program.blocks.items; accepted = c.in-Ok.ensures.program.accepted }
