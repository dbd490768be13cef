use Rattle.obq_plain.proofs.Stepped.{refused_not_taken}
use Rattle.obq_plain.proofs.following.take.Goals as goal

pub returns-in-Err-NotLegal : goal.returns-in-Err-NotLegal
returns-in-Err-NotLegal c = refused_not_taken c.args.run.now c.take.new.self c.args.entry c.in-Err-NotLegal.field-0 _ c.in-Err-NotLegal.field-0-is c.in-Err-NotLegal.ensures
