-- What `parse` answers: the tree that the tokens derive, or their first fault.
use Rattle.std.specs.Prelude.{List, Result, Ok, Err}
use Rattle.obq_base.specs.declared.tokens.Token.{Token}
use Rattle.obq_base.specs.declared.trees.Block.{Block}
use Rattle.obq_parse.specs.declared.program.ParseRefused.{ParseRefused}
use Rattle.obq_parse.specs.declared.program.ParseRefused.TheVariants.{Syntax, NoMemory}
use Rattle.obq_model.specs.Grammar.{Derives}
use Rattle.obq_model.specs.Syntax.{IsFirstFault}

abbrev pub Answers : List Token → Result Block ParseRefused → Type 0
Answers tokens (Ok tree) = Derives tokens tree
Answers tokens (Err (Syntax k)) = IsFirstFault tokens k
Answers tokens (Err NoMemory) = Unit {0}
