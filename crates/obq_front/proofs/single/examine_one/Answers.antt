use Rattle.obq_front.proofs.Measured.{size_small}
use Rattle.obq_front.proofs.single.examine_one.Goals as goal

pub resolve-requires : goal.resolve-requires
resolve-requires c = let derived = c.in_ok-block.ensures.derived in size_small c.args.source.now derived.0 c.in_ok-block.block derived.1 derived.2 c.requires
