use Rattle.std.proofs.Common.{drop, ◌++◌, ◌≡◌}
use Rattle.obq_front.specs.Contents.{contents, names_of}
use Rattle.obq_front.proofs.Examined.{Completes, Refuses}
use Rattle.obq_front.proofs.examine.front.Given as goal

abbrev pub invariant-loop-i : goal.invariant-loop-i
invariant-loop-i l = record {
  names : l.gathered.names.items ++ names_of (drop l.i l.sources) ≡ names_of l.sources;
  completes : Completes l.i (contents (drop l.i l.sources)) (contents l.sources) l.gathered.blocks.items l.gathered.parts.items;
  refused : Refuses l.i (contents (drop l.i l.sources)) (contents l.sources);
}
