use Rattle.std.proofs.Common.{List, codes, rules, subst, sym, ℕ, ◌∷◌, ◌≡◌, ◌≤◌}
use Rattle.obq_words.specs.CommandLine.{workers_of}
use Rattle.obq_words.specs.Words.{bytes_of}
use Rattle.obq_words.proofs.Ranges.{workers_in_range}
use Rattle.obq_words.proofs.words.read_run.Goals as goal

pub returns : goal.returns
returns c =
    let words : List (List ℕ) = codes "run" ∷ bytes_of c.args.words.now in
    let are : c.unwrap_or-2.result ≡ workers_of words = search rules in
    let range : (1 ≤ c.unwrap_or-2.result) × (c.unwrap_or-2.result ≤ 16) = subst (λ n. (1 ≤ n) × (n ≤ 16)) (sym are) (workers_in_range words) in
    search (rules, are, range)
