use Rattle.obq_grammar.proofs.Top.{whole}
use Rattle.obq_model.specs.Grammar.{IsBlock}
use Rattle.obq_grammar.specs.Fails.{Fails}
use Rattle.obq_grammar.specs.Follow.{EndsProgram}
use Rattle.obq_grammar.proofs.Top.{first_fault}
use Rattle.obq_parse.proofs.Whole.{fault_within}
use Rattle.obq_parse.proofs.program.parse.Goals as goal

pub overflow_sub-result : goal.overflow_sub-result
overflow_sub-result c =
    let f : Fails IsBlock EndsProgram c.args.tokens.now c.in-Err-Syntax.rest.now = rw c.in-Err-Syntax.field-0-is at c.in-Err-Syntax.ensures.read in
    fault_within f

pub returns-in-Ok : goal.returns-in-Ok
returns-in-Ok c = whole c.in-Ok.ensures.read.0 c.requires.ended c.in-Ok.ensures.read.1

pub returns-in-Err-Syntax : goal.returns-in-Err-Syntax
returns-in-Err-Syntax c =
    let f : Fails IsBlock EndsProgram c.args.tokens.now c.in-Err-Syntax.rest.now = rw c.in-Err-Syntax.field-0-is at c.in-Err-Syntax.ensures.read in
    first_fault _ _ f c.requires.ended
