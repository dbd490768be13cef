use Rattle.std.proofs.Common.{◌+◌, ◌≡◌, vec_len}
use Rattle.obq_cluster.proofs.cluster.all_seen.Given as goal

abbrev pub invariant-loop-end : goal.invariant-loop-end
invariant-loop-end g l = vec_len l.ends + vec_len l.all ≡ vec_len l.initial.ends

abbrev pub decreases-loop-end : goal.decreases-loop-end
decreases-loop-end g l = vec_len l.ends
