use Rattle.obq_laws.proofs.Refused.{illegal_or_replays}
use Rattle.obq_laws.proofs.illegal_or_replays.Goals as goal

pub returns : goal.returns
returns c = record { law = illegal_or_replays }
