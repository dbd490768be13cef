use Rattle.std.proofs.Common.{ℕ, List, Result, Ok, Err, refl}
use Rattle.std.specs.Borrow.{Bor}
use Rattle.obq_base.specs.declared.tokens.Token.{Token}
use Rattle.obq_model.specs.Nodes.{next}
use Rattle.obq_model.specs.Words.{sym_close}
use Rattle.obq_model.specs.Grammar.{IsNames, IsParameters, no_parameter}
use Rattle.obq_grammar.specs.Follow.{No, is_word, Anything, EndsNames}
use Rattle.obq_grammar.proofs.Theory.{as_tree, move}
use Rattle.obq_grammar.proofs.failing.Bindings.{parameters_at_1, parameters_at_2, parameters_of}
use Rattle.obq_parts.specs.declared.steps.Refused.{Refused}
use Rattle.obq_parts.specs.Closed.{ReadsClosed}
use Rattle.obq_parts.specs.Reads.{Reads}
use Rattle.obq_parts.proofs.Pass.{pass, close_cases}
use Rattle.obq_parts.proofs.names.read_parameters.Goals as goal

closed : (x : List Token) (result : Result (List (List ℕ) × Bor (List Token)) Refused) → No (is_word sym_close (next x)) → ReadsClosed IsNames EndsNames sym_close x result → Reads IsParameters Anything x result
closed x (Ok p) n d = (parameters_of d.1 refl, tt)
closed x (Err e) n f = pass e (λ z g. close_cases (λ i. parameters_at_1 n i) (λ ns d u o. parameters_at_2 d u o) g) f

pub returns-in-Some-clause-read : goal.returns-in-Some-clause-read
returns-in-Some-clause-read c = (as_tree IsParameters c.new.ensures (move IsParameters _ _ _ _ c.in-Some.ensures.found no_parameter), tt)

pub returns-clause-read : goal.returns-clause-read
returns-clause-read c = closed _ _ c.in_default.ensures.found c.read_closed_names.ensures.read
