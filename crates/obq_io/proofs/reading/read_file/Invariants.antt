use Rattle.std.proofs.Common.{◌≡◌, ◌≤◌, ◌-◌, ◌+◌, ℕ, List, vec_len}
use Rattle.std.specs.Io.KnownBytes.{Consumes}
use Rattle.obq_io.proofs.reading.read_file.Given as goal

-- what is left of the file stands behind what was read
abbrev pub invariant-pieces : goal.invariant-pieces
invariant-pieces g l =
    let files = g.F.Files in
    record {
      same : (n : List ℕ) → files.holds l.files n ≡ files.holds l.fn.files n;
      later : (n : List ℕ) → files.faults l.fn.files n ≤ files.faults l.files n;
      within : vec_len l.bytes ≤ l.limit + 1;
      taken : Consumes (files.holds l.fn.files l.path) (files.left l.files) l.bytes.items;
    }

abbrev pub decreases-pieces : goal.decreases-pieces
decreases-pieces g l = l.limit + 1 - vec_len l.bytes
