use Rattle.std.proofs.Common.{◌≤◌, ◌+◌, length}
use Rattle.obq_lex.proofs.Nested.{Stands}
use Rattle.obq_lex.proofs.comments.past_comment.Given as goal

abbrev pub invariant-loop-after : goal.invariant-loop-after
invariant-loop-after l = record {
  some : 1 ≤ l.depth;
  fits : l.depth + length l.rest ≤ length l.x + 1;
  stands : Stands l.depth l.x l.rest;
}

abbrev pub decreases-loop-after : goal.decreases-loop-after
decreases-loop-after l = length l.rest
