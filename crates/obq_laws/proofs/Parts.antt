-- A journal in two parts, and a journal with one entry more.
use Rattle.std.specs.Prelude.{List, None, Option, Some, [], length, refl, ℕ, ◌++◌, ◌∷◌, ◌≡◌}
use Rattle.std.proofs.Common.{ap, ◌∙◌}
use Rattle.obq_base.specs.declared.acts.Act.{Act}
use Rattle.obq_base.specs.declared.acts.Entry.{Entry}
use Rattle.obq_model.specs.Config.{Config}
use Rattle.obq_model.specs.Opening.{opening}
use Rattle.obq_model.specs.Replay.{take_entry, replay_from, replay}
use Rattle.obq_model.specs.Spans.{Event, event_before, events_from}
use Rattle.obq_model.specs.Located.{Located, locate_entry, locate_from, located_opening, located_run}
use Rattle.obq_laws.specs.Parts.{onward, ReplayParts, after_one, ReplayMore, events_onward, EventsParts, event_after, event_one, EventsMore, located_onward, LocatedParts, located_one, LocatedMore}

-- ---- the replay

pub replay_from_parts : (turns : ℕ) (k : Config) (es fs : List Entry) → replay_from turns k (es ++ fs) ≡ onward turns fs (replay_from turns k es)
replay_from_parts turns k [] fs = refl
replay_from_parts turns k (e ∷ es) fs = by_option (take_entry turns k e) (λ k2. replay_from_parts turns k2 es fs)
  where
    by_option : (o : Option Config) → ((k2 : Config) → replay_from turns k2 (es ++ fs) ≡ onward turns fs (replay_from turns k2 es))
        → elim o [ None ↦ None | Some k2 ↦ replay_from turns k2 (es ++ fs) ] ≡ onward turns fs (elim o [ None ↦ None | Some k2 ↦ replay_from turns k2 es ])
    by_option None next = refl
    by_option (Some k2) next = next k2

pub replay_parts : ReplayParts
replay_parts trees turns es fs = replay_from_parts turns (opening trees) es fs

taken_alone : (o : Option Config) (turns : ℕ) → elim o [ None ↦ None | Some k2 ↦ replay_from turns k2 [] ] ≡ o
taken_alone None turns = refl
taken_alone (Some k2) turns = refl

onward_one : (turns : ℕ) (e : Entry) (o : Option Config) → onward turns (e ∷ []) o ≡ after_one turns e o
onward_one turns e None = refl
onward_one turns e (Some k) = taken_alone (take_entry turns k e) turns

pub replay_more : ReplayMore
replay_more trees turns es e = replay_parts trees turns es (e ∷ []) ∙ onward_one turns e (replay trees turns es)

-- ---- its acts

before_append : (k : Config) (e : Entry) (a : Option Act) (xs ys : List Event) → event_before k e a (xs ++ ys) ≡ event_before k e a xs ++ ys
before_append k e None xs ys = refl
before_append k e (Some a) xs ys = refl

pub events_from_parts : (turns : ℕ) (k : Config) (es fs : List Entry) → events_from turns k (es ++ fs) ≡ events_from turns k es ++ events_onward turns fs (replay_from turns k es)
events_from_parts turns k [] fs = refl
events_from_parts turns k (e ∷ es) fs = by_option (take_entry turns k e) (λ k2. events_from_parts turns k2 es fs)
  where
    by_option : (o : Option Config) → ((k2 : Config) → events_from turns k2 (es ++ fs) ≡ events_from turns k2 es ++ events_onward turns fs (replay_from turns k2 es))
        → elim o [ None ↦ [] | Some k2 ↦ event_before k e e.act (events_from turns k2 (es ++ fs)) ]
        ≡ elim o [ None ↦ [] | Some k2 ↦ event_before k e e.act (events_from turns k2 es) ] ++ events_onward turns fs (elim o [ None ↦ None | Some k2 ↦ replay_from turns k2 es ])
    by_option None next = refl
    by_option (Some k2) next = ap (event_before k e e.act) (next k2) ∙ before_append k e e.act (events_from turns k2 es) (events_onward turns fs (replay_from turns k2 es))

pub events_parts : EventsParts
events_parts trees turns es fs = events_from_parts turns (opening trees) es fs

acts_alone : (k : Config) (e : Entry) (o : Option Config) (turns : ℕ) → elim o [ None ↦ [] | Some k2 ↦ event_before k e e.act (events_from turns k2 []) ] ≡ event_after k e o
acts_alone k e None turns = refl
acts_alone k e (Some k2) turns = refl

events_one : (turns : ℕ) (e : Entry) (o : Option Config) → events_onward turns (e ∷ []) o ≡ event_one turns e o
events_one turns e None = refl
events_one turns e (Some k) = acts_alone k e (take_entry turns k e) turns

pub events_more : EventsMore
events_more trees turns es e = events_parts trees turns es (e ∷ []) ∙ ap (λ l. events_from turns (opening trees) es ++ l) (events_one turns e (replay trees turns es))

-- ---- the located replay

pub locate_from_parts : (sites turns : ℕ) (l : Located) (es fs : List Entry) → locate_from sites turns l (es ++ fs) ≡ located_onward sites turns fs (locate_from sites turns l es)
locate_from_parts sites turns l [] fs = refl
locate_from_parts sites turns l (e ∷ es) fs = by_option (locate_entry sites turns l e) (λ l2. locate_from_parts sites turns l2 es fs)
  where
    by_option : (o : Option Located) → ((l2 : Located) → locate_from sites turns l2 (es ++ fs) ≡ located_onward sites turns fs (locate_from sites turns l2 es))
        → elim o [ None ↦ None | Some l2 ↦ locate_from sites turns l2 (es ++ fs) ] ≡ located_onward sites turns fs (elim o [ None ↦ None | Some l2 ↦ locate_from sites turns l2 es ])
    by_option None next = refl
    by_option (Some l2) next = next l2

pub located_parts : LocatedParts
located_parts trees turns es fs = locate_from_parts (length trees) turns (located_opening trees) es fs

located_alone : (o : Option Located) (sites turns : ℕ) → elim o [ None ↦ None | Some l2 ↦ locate_from sites turns l2 [] ] ≡ o
located_alone None sites turns = refl
located_alone (Some l2) sites turns = refl

located_last : (sites turns : ℕ) (e : Entry) (o : Option Located) → located_onward sites turns (e ∷ []) o ≡ located_one sites turns e o
located_last sites turns e None = refl
located_last sites turns e (Some l) = located_alone (locate_entry sites turns l e) sites turns

pub located_more : LocatedMore
located_more trees turns es e = located_parts trees turns es (e ∷ []) ∙ located_last (length trees) turns e (located_run trees turns es)
