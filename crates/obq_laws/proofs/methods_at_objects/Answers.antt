use Rattle.obq_laws.proofs.Sites.{methods_at_objects}
use Rattle.obq_laws.proofs.methods_at_objects.Goals as goal

pub returns : goal.returns
returns c = record { law = methods_at_objects }
