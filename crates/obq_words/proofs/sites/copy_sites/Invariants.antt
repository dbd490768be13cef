use Rattle.std.proofs.Common.{take, ◌≡◌}
use Rattle.obq_words.specs.Words.{bytes_of, names_in, names_of, paths_in, paths_of}
use Rattle.obq_words.proofs.sites.copy_sites.Given as goal

-- the sites so far are those of the words so far
abbrev pub invariant-loop-word : goal.invariant-loop-word
invariant-loop-word l = record {
  names : names_of l.sites.items ≡ names_in (bytes_of (take l.word-index l.words));
  paths : paths_of l.sites.items ≡ paths_in (bytes_of (take l.word-index l.words));
}
