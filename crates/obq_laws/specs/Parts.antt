-- A journal in two parts, and a journal with one entry more: its replay, its acts and its located replay from those of what stands before.
use Rattle.std.specs.Prelude.{List, None, Option, Some, [], length, ℕ, ◌++◌, ◌∷◌, ◌≡◌}
use Rattle.obq_base.specs.declared.acts.Entry.{Entry}
use Rattle.obq_base.specs.Tree.{BlockTree}
use Rattle.obq_model.specs.Config.{Config}
use Rattle.obq_model.specs.Replay.{take_entry, replay_from, replay}
use Rattle.obq_model.specs.Spans.{Event, event_before, events_from, events}
use Rattle.obq_model.specs.Located.{Located, locate_entry, locate_from, located_run}

-- the replay of entries from a configuration, if there is one
abbrev pub onward : ℕ → List Entry → Option Config → Option Config
onward turns es None = None
onward turns es (Some k) = replay_from turns k es

-- a journal in two parts replays as its second part from where its first part leads
abbrev pub ReplayParts : Type 0
ReplayParts = (trees : List BlockTree) (turns : ℕ) (es fs : List Entry) → replay trees turns (es ++ fs) ≡ onward turns fs (replay trees turns es)

-- the configuration after an entry, if there is one before it
abbrev pub after_one : ℕ → Entry → Option Config → Option Config
after_one turns e None = None
after_one turns e (Some k) = take_entry turns k e

-- a journal with one entry more replays to what that entry makes of the configuration before it
abbrev pub ReplayMore : Type 0
ReplayMore = (trees : List BlockTree) (turns : ℕ) (es : List Entry) (e : Entry) → replay trees turns (es ++ e ∷ []) ≡ after_one turns e (replay trees turns es)

-- the acts of entries from a configuration, if there is one
abbrev pub events_onward : ℕ → List Entry → Option Config → List Event
events_onward turns es None = []
events_onward turns es (Some k) = events_from turns k es

-- so the acts of its second part stand behind those of its first
abbrev pub EventsParts : Type 0
EventsParts = (trees : List BlockTree) (turns : ℕ) (es fs : List Entry) → events trees turns (es ++ fs) ≡ events trees turns es ++ events_onward turns fs (replay trees turns es)

-- the act of a legal entry that has one
abbrev pub event_after : Config → Entry → Option Config → List Event
event_after k e None = []
event_after k e (Some k2) = event_before k e e.act []

-- the act of an entry, if there is a configuration before it and it is legal
abbrev pub event_one : ℕ → Entry → Option Config → List Event
event_one turns e None = []
event_one turns e (Some k) = event_after k e (take_entry turns k e)

-- with one entry more it has that entry's act more
abbrev pub EventsMore : Type 0
EventsMore = (trees : List BlockTree) (turns : ℕ) (es : List Entry) (e : Entry) → events trees turns (es ++ e ∷ []) ≡ events trees turns es ++ event_one turns e (replay trees turns es)

-- the located fold of entries, if there is a state before them
abbrev pub located_onward : ℕ → ℕ → List Entry → Option Located → Option Located
located_onward sites turns es None = None
located_onward sites turns es (Some l) = locate_from sites turns l es

-- the located fold of a journal in two parts
abbrev pub LocatedParts : Type 0
LocatedParts = (trees : List BlockTree) (turns : ℕ) (es fs : List Entry) → located_run trees turns (es ++ fs) ≡ located_onward (length trees) turns fs (located_run trees turns es)

-- one entry of the located fold, if there is a state before it
abbrev pub located_one : ℕ → ℕ → Entry → Option Located → Option Located
located_one sites turns e None = None
located_one sites turns e (Some l) = locate_entry sites turns l e

-- the located fold with one entry more
abbrev pub LocatedMore : Type 0
LocatedMore = (trees : List BlockTree) (turns : ℕ) (es : List Entry) (e : Entry) → located_run trees turns (es ++ e ∷ []) ≡ located_one (length trees) turns e (located_run trees turns es)
