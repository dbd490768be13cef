use Rattle.std.proofs.Common.{sym}
use Rattle.obq_lex.proofs.Spelled.{pick_long, pick_short}
use Rattle.obq_lex.proofs.pieces.read_symbol.Goals as goal

pub returns-then-is_some : goal.returns-then-is_some
returns-then-is_some c = pick_long c.args.x.now c.symbol_of-long.result c.symbol_of-long.ensures (sym c.if-is_some.ensures)

pub returns : goal.returns
returns c = pick_short c.args.x.now c.symbol_of-long.result c.symbol_of.result c.symbol_of-long.ensures (sym c.if-is_some.ensures) c.symbol_of.ensures
