use Rattle.obq_run.proofs.Coded.{are_codes}
use Rattle.obq_run.proofs.alone.run_block.Goals as goal

pub run_named-requires-clause-codes : goal.run_named-requires-clause-codes
run_named-requires-clause-codes c = are_codes c.args.blocks.now c.args.codes c.requires.codes
