use Rattle.std.proofs.Common.{bytes_eq, refl, rules, tests, ◌||◌, ◌∙◌}
use Rattle.std.specs.List.{list_any}
use Rattle.std.specs.String.{string_bytes}
use Rattle.std.proofs.lemmas.Iterator.{YieldsList-from_slice}
use Rattle.std.proofs.lemmas.Iterator.Search.{any_from_yields_List}
use Rattle.std.proofs.lemmas.List.Recursion.{same_from_clauses}
use Rattle.obq_words.specs.CommandLine.{name_part}
use Rattle.obq_model.specs.Put.{among}
use Rattle.obq_words.specs.Words.{bytes_of, names_in}
use Rattle.obq_words.proofs.sites.is_given.Goals as goal

pub returns : goal.returns
returns c =
    let words = c.args.words.now in
    let name = c.args.name.now in
    any_from_yields_List (λ w. bytes_eq name (name_part (string_bytes w))) _ _ c.any.result c.any.ensures.ran (YieldsList-from_slice words cc) (λ x b q k. search (rules, tests))
    ∙ same_from_clauses (λ ws. list_any (λ w. bytes_eq name (name_part (string_bytes w))) ws) (λ ws. among name (names_in (bytes_of ws))) (λ w b. bytes_eq name (name_part (string_bytes w)) || b) refl (λ _ _. refl) (λ _ _. refl) words
