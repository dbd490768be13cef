use Rattle.std.proofs.Common.{◌≤◌, length}
use Rattle.obq_model.specs.Grammar.{IsNames}
use Rattle.obq_grammar.specs.Follow.{EndsNames}
use Rattle.obq_grammar.proofs.Theory.{Leads}
use Rattle.obq_parts.proofs.names.read_names.Given as goal

abbrev pub invariant-loop-name : goal.invariant-loop-name
invariant-loop-name l = record {
  leads : Leads IsNames EndsNames l.names l.tokens l.rest;
  shorter : length l.rest ≤ length l.tokens;
}

abbrev pub decreases-loop-name : goal.decreases-loop-name
decreases-loop-name l = length l.rest
