-- What stands in held spans and in migration spans.
use Rattle.std.specs.Prelude.{List, ℕ}
use Rattle.obq_base.specs.declared.acts.Entry.{Entry}
use Rattle.obq_base.specs.Tree.{BlockTree}
use Rattle.obq_model.specs.Spans.{events, NoneOutsideHolds, NoneOutsideMigrations}

-- while a thread holds an object, no operation on it comes from outside, hence none while it migrates
abbrev pub ExclusionLaw : Type 0
ExclusionLaw = (trees : List BlockTree) (turns : ℕ) (entries : List Entry) → NoneOutsideHolds (events trees turns entries) × NoneOutsideMigrations (events trees turns entries)
