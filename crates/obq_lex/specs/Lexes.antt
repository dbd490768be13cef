-- What `lex` answers.
use Rattle.std.specs.Prelude.{◌-◌, List, ℕ, Result, Ok, Err}
use Rattle.std.specs.declared.vec.Vec.{Vec}
use Rattle.std.specs.declared.alloc.Global.{Global}
use Rattle.obq_base.specs.declared.tokens.Token.{Token}
use Rattle.obq_model.specs.Tokens.{IsReading, IsFirstFault}
use Rattle.obq_lex.specs.declared.lexer.LexRefused.{LexRefused}
use Rattle.obq_lex.specs.declared.lexer.LexRefused.TheVariants.{Fault, NoMemory}
use Rattle.obq_lex.specs.declared.stops.Stop.{Stop}
use Rattle.obq_lex.specs.declared.stops.Stop.TheVariants as stop

abbrev pub Lexes : List ℕ → Result (Vec Token Global) LexRefused → Type 0
Lexes source (Ok tokens) = IsReading source tokens.items
Lexes source (Err (Fault kind place)) = IsFirstFault source kind place
Lexes source (Err NoMemory) = Unit {0}

-- what a stop says of a source of n bytes
abbrev pub refused_at : ℕ → Stop → LexRefused
refused_at n (stop.Fault kind left) = Fault kind (n - left)
refused_at n stop.NoMemory = NoMemory
