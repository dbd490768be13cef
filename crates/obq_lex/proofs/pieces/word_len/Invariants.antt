use Rattle.std.proofs.Common.{IsTrue, take}
use Rattle.std.specs.List.{list_all}
use Rattle.obq_model.specs.Tokens.{is_word_byte}
use Rattle.obq_lex.proofs.pieces.word_len.Given as goal

abbrev pub invariant-loop-i : goal.invariant-loop-i
invariant-loop-i l = IsTrue (list_all is_word_byte (take l.i l.x))
