use Rattle.obq_grammar.proofs.failing.Programs.{program_fault}
use Rattle.obq_grammar.proofs.productions.fault_behind_block.Goals as goal

pub returns : goal.returns
returns c a x z = program_fault
