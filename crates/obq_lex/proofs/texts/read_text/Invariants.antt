use Rattle.std.proofs.Common.{◌≤◌, length}
use Rattle.obq_base.specs.declared.limits.TheConstants.{TEXT_LIMIT}
use Rattle.obq_model.specs.Tokens.{IsContent}
use Rattle.obq_lex.proofs.texts.read_text.Given as goal

abbrev pub invariant-loop-byte : goal.invariant-loop-byte
invariant-loop-byte l = record {
  content : IsContent l.bytes.items l.x l.rest;
  short : length l.bytes.items ≤ TEXT_LIMIT;
}

abbrev pub decreases-loop-byte : goal.decreases-loop-byte
decreases-loop-byte l = length l.rest
