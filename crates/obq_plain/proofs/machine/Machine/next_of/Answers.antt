use Rattle.obq_plain.proofs.Scheduled.{as_match, next_or_idle}
use Rattle.obq_plain.specs.Threads.{machine_of}
use Rattle.obq_plain.proofs.machine.Machine.next_of.Goals as goal

pub returns : goal.returns
returns c =
    let k = machine_of c.args.self.now in
    as_match c.args.turns k c.args.thread c.in_ok-entry.entry (next_or_idle c.args.turns k c.args.most c.args.thread c.in_ok-entry.entry c.requires c.in_ok-entry.ensures)
