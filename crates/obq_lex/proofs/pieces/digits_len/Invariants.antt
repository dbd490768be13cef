use Rattle.std.proofs.Common.{IsTrue, take}
use Rattle.std.specs.List.{list_all}
use Rattle.std.specs.Char.{is_ascii_digit}
use Rattle.obq_lex.proofs.pieces.digits_len.Given as goal

abbrev pub invariant-loop-i : goal.invariant-loop-i
invariant-loop-i l = IsTrue (list_all is_ascii_digit (take l.i l.x))
