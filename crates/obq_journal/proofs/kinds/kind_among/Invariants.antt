use Rattle.std.proofs.Common.{drop, ◌≡◌}
use Rattle.obq_model.specs.JournalText as text
use Rattle.obq_journal.proofs.kinds.kind_among.Given as goal

-- no kind so far has the name
abbrev pub invariant-loop-kind : goal.invariant-loop-kind
invariant-loop-kind l = text.kind_among (drop l.kind-index l.kinds) l.word ≡ text.kind_among l.kinds l.word
