use Rattle.std.proofs.Common.{List, drop, take, ℕ, ◌++◌, ◌≡◌, ◌≤◌}
use Rattle.obq_base.specs.declared.limits.TheConstants.{SOURCE_LIMIT}
use Rattle.obq_front.specs.Contents as front
use Rattle.obq_run.specs.Held.{AreHeld, AreWithinLimit}
use Rattle.obq_words.specs.Words.{names_of, paths_of}
use Rattle.obq_run.proofs.reading.read_sources.Given as goal

-- sources of the other sites complete those that were read
abbrev pub invariant-loop-i : goal.invariant-loop-i
invariant-loop-i g l =
    let files = g.F.Files in
    record {
      same : (n : List ℕ) → files.holds l.files n ≡ files.holds l.fn.files n;
      later : (n : List ℕ) → files.faults l.fn.files n ≤ files.faults l.files n;
      held : (others : List (List ℕ)) → AreHeld (files.holds l.fn.files) SOURCE_LIMIT (paths_of (drop l.i l.sites)) others
          → AreHeld (files.holds l.fn.files) SOURCE_LIMIT (paths_of l.sites) (front.contents l.sources.items ++ others);
      within : AreWithinLimit (files.holds l.fn.files) SOURCE_LIMIT (paths_of (take l.i l.sites));
      named : front.names_of l.sources.items ≡ names_of (take l.i l.sites);
    }
