use Rattle.std.proofs.Common.{[], replicate, ◌≡◌}
use Rattle.obq_model.specs.Store as c
use Rattle.obq_store.specs.Stores.{store_of}
use Rattle.obq_plain.proofs.beginning.writers.Given as goal

abbrev pub invariant-loop : goal.invariant-loop
invariant-loop l = store_of l.store ≡ record { cells = replicate l.counter (c.WriterCell []); names = [] }
