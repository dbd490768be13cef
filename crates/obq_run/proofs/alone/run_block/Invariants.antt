use Rattle.std.proofs.Common.{map}
use Rattle.obq_base.specs.View.{block_tree}
use Rattle.obq_run.proofs.Coded.{table_for}
use Rattle.obq_run.proofs.alone.run_block.Given as goal

-- the run is of these blocks and codes
abbrev pub ghosts-run_named : goal.ghosts-run_named
ghosts-run_named a = record { program = map block_tree a.blocks.now; sites = 1; turns = a.turns; parts = a.codes; table = table_for a.blocks.now }
