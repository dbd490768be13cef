use Rattle.std.proofs.Common.{sym}
use Rattle.obq_lex.proofs.Texted.{content_escaped, escape_cut, escape_bad}
use Rattle.obq_lex.proofs.texts.escaped.Goals as goal

pub returns-in_default : goal.returns-in_default
returns-in_default c = escape_cut c.args.x.now c.in_default.ensures

pub returns-in-Some-escape : goal.returns-in-Some-escape
returns-in-Some-escape c = content_escaped c.in-Some.c c.in-Some-escape.byte c.args.x.now c.in-Some.after.now (sym c.in-Some-escape.ensures) c.in-Some.ensures

pub returns-in-None : goal.returns-in-None
returns-in-None c = escape_bad c.in-Some.c c.args.x.now c.in-Some.after.now (sym c.in-None.ensures) c.in-Some.ensures
