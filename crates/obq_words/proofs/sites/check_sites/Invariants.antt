use Rattle.std.proofs.Common.{drop, take, ◌+◌, ◌≡◌, ◌≤◌}
use Rattle.obq_words.specs.CommandLine.{bad_behind_sites, bad_sites}
use Rattle.obq_words.specs.Words.{bytes_of, names_in}
use Rattle.obq_words.proofs.sites.check_sites.Given as goal

-- the words that were read can stand, so the first fault of the others is the first of all
abbrev pub invariant-loop-i : goal.invariant-loop-i
invariant-loop-i l =
    record {
      few : l.i ≤ 16;
      same : bad_sites l.place (bytes_of l.words) ≡ bad_behind_sites (l.place + l.i) (names_in (bytes_of (take l.i l.words))) (bytes_of (drop l.i l.words));
    }
