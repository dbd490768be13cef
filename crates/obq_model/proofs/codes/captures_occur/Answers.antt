use Rattle.obq_model.proofs.Captures.{captured_occurs, occurs_captured}
use Rattle.obq_model.proofs.codes.captures_occur.Goals as goal

pub returns-clause-needed : goal.returns-clause-needed
returns-clause-needed c = λ writer o locals p x e. captured_occurs writer o locals p x e

pub returns-clause-all : goal.returns-clause-all
returns-clause-all c = λ writer o locals p x e. occurs_captured writer o locals p x e
