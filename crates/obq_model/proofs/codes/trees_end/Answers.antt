use Rattle.obq_model.proofs.Drafted.{drafted_block, drafted_expr, drafted_item}
use Rattle.obq_model.proofs.Skips.{ends}
use Rattle.obq_model.proofs.codes.trees_end.Goals as goal

pub returns-clause-block : goal.returns-clause-block
returns-clause-block c = λ procs o locals tree nodes rest h. ends procs (drafted_block o locals tree) nodes rest h

pub returns-clause-item : goal.returns-clause-item
returns-clause-item c = λ procs o locals tree nodes rest h. ends procs (drafted_item o locals tree) nodes rest h

pub returns-clause-expr : goal.returns-clause-expr
returns-clause-expr c = λ procs o locals tree nodes rest h. ends procs (drafted_expr o locals tree) nodes rest h
