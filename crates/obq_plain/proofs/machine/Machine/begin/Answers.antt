use Rattle.obq_store.specs.Stores.{store_of}
use Rattle.obq_plain.specs.Threads.{thread_of}
use Rattle.std.proofs.Common.{map}
use Rattle.obq_plain.proofs.Opened.{begun}
use Rattle.obq_plain.proofs.machine.Machine.begin.Goals as goal

pub returns-clause-config : goal.returns-clause-config
returns-clause-config c = begun (store_of c.in_ok-store.store) (map thread_of c.in_ok-threads.threads.items) c.args.blocks.now c.in_ok-store.ensures c.in_ok-threads.ensures.threads
