use Rattle.obq_stands.proofs.Entered.{every_run_begun}
use Rattle.obq_stands.proofs.every_run_begun.Goals as goal

pub returns : goal.returns
returns c = record { law = every_run_begun }
