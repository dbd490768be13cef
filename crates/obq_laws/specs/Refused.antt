-- Which entries of a journal aren't legal, and which thread is the first able one.
use Rattle.std.specs.Prelude.{List, Some, false, is_none, is_some, slice_get, take, true, ℕ, ◌<◌, ◌≡◌}
use Rattle.obq_base.specs.declared.acts.Entry.{Entry}
use Rattle.obq_base.specs.Tree.{BlockTree}
use Rattle.obq_model.specs.Config.{Config}
use Rattle.obq_model.specs.Replay.{take_entry, replay, is_able, first_able}
use Rattle.obq_model.specs.Refusals.{Why, why_not, first_illegal}

-- an entry is legal exactly where there is no reason why not
abbrev pub WhyNot : Type 0
WhyNot = (turns : ℕ) (k : Config) (e : Entry) → is_none (why_not turns k e) ≡ is_some (take_entry turns k e)

-- a journal replays exactly where no entry of it is the first that isn't legal
abbrev pub IllegalOrReplays : Type 0
IllegalOrReplays = (trees : List BlockTree) (turns : ℕ) (es : List Entry) → is_none (first_illegal trees turns es) ≡ is_some (replay trees turns es)

-- the entries before number n replay to a configuration in which entry n isn't legal for this reason
abbrev pub StopsThere : List BlockTree → ℕ → List Entry → ℕ → Why → Type 0
StopsThere trees turns es n why =
    (k : Config) × (e : Entry) × (replay trees turns (take n es) ≡ Some k) × (slice_get es n ≡ Some e) × (why_not turns k e ≡ Some why)

-- where the first entry that isn't legal is
abbrev pub FirstIllegal : Type 0
FirstIllegal = (trees : List BlockTree) (turns : ℕ) (es : List Entry) (n : ℕ) (why : Why) → first_illegal trees turns es ≡ Some (n, why) → StopsThere trees turns es n why

-- the first able thread is able, and none before it is
abbrev pub FirstAble : Type 0
FirstAble = (turns : ℕ) (k : Config) (t : ℕ) → first_able turns k ≡ Some t → (is_able turns k t ≡ true) × ((u : ℕ) → u < t → is_able turns k u ≡ false)
