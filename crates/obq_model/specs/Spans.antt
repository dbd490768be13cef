-- Held spans, migration spans, and operations from outside, over the acts of a replay.
use Rattle.std.specs.Prelude.{Bool, List, None, Option, Some, [], false, not, slice_get, true, unwrap_or, ℕ, ◌&&◌, ◌++◌, ◌==◌, ◌||◌, ◌∷◌, ◌≡◌}
use Rattle.obq_base.specs.declared.acts.ActKind.{ActKind}
use Rattle.obq_base.specs.declared.acts.Act.{Act}
use Rattle.obq_base.specs.declared.acts.Entry.{Entry}
use Rattle.obq_base.specs.Tree.{BlockTree}
use Rattle.obq_model.specs.Terms.{Held, Within, Form}
use Rattle.obq_model.specs.Store.{same_loc}
use Rattle.obq_model.specs.Step.{Self, no_self, Found, Needs, find, self_at}
use Rattle.obq_model.specs.Config.{Execution, Running, ThreadState, Config}
use Rattle.obq_model.specs.Cells.{is_self}
use Rattle.obq_model.specs.Effect.{Outcome, Acting, perform}
use Rattle.obq_model.specs.Opening.{opening}
use Rattle.obq_model.specs.Replay.{after_pure, kind_same, take_entry}

-- an act of a history: its thread, the current self there, and whether it entered a method in Held mode
pub record Event : Type 0 where
  pub thread : ℕ
  pub self : Self ℕ
  pub act : Act
  pub took : Bool

-- the outcome is a method entered in Held mode
abbrev pub entered_held : Outcome → Bool
entered_held (Acting ActKind.Call loc st (Form (Within o Held) parts)) = true
entered_held outcome = false

-- the event of an act of a thread whose term comes to this
abbrev pub event_of : Config → ℕ → Act → Found ℕ → Event
event_of k t a (Needs op fs) = record { thread = t; self = self_at no_self fs; act = a; took = entered_held (perform k t (self_at no_self fs) op) }
event_of k t a found = record { thread = t; self = no_self; act = a; took = false }

-- the event of an act behind n pure steps
abbrev pub event_at : Config → ℕ → ℕ → Act → Execution → Event
event_at k t n a (Running u) = event_of k t a (find same_loc 0 no_self (unwrap_or (after_pure n u) u))
event_at k t n a execution = record { thread = t; self = no_self; act = a; took = false }

-- the event of an entry's act
abbrev pub event_in : Config → Entry → Act → Option ThreadState → Event
event_in k e a None = record { thread = e.thread; self = no_self; act = a; took = false }
event_in k e a (Some state) = event_at k e.thread e.pure a state.execution

-- the event of an entry, if it has an act, before these
abbrev pub event_before : Config → Entry → Option Act → List Event → List Event
event_before k e None es = es
event_before k e (Some a) es = event_in k e a (slice_get k.threads e.thread) ∷ es

-- the acts of a replay from a configuration, up to the first entry that isn't legal
abbrev pub events_from : ℕ → Config → List Entry → List Event
events_from turns k [] = []
events_from turns k (e ∷ es) =
    elim (take_entry turns k e) [ None ↦ [] | Some k2 ↦ event_before k e e.act (events_from turns k2 es) ]

-- the acts of a program's journal, in order
abbrev pub events : List BlockTree → (turns : ℕ) → List Entry → List Event
events trees turns entries = events_from turns (opening trees) entries

-- the act is of one of these kinds, at this location
abbrev pub is_on : List ActKind → ℕ → Act → Bool
is_on [] o a = false
is_on (kind ∷ kinds) o a = kind_same kind a.kind && a.loc == o || is_on kinds o a

-- a held span of t on o begins after it
abbrev pub begins_hold : ℕ → ℕ → Event → Bool
begins_hold t o e = e.thread == t && (is_on (ActKind.Call ∷ []) o e.act && e.took || is_on (ActKind.Again ∷ []) o e.act)

-- a held span of t on o ends before it
abbrev pub ends_hold : ℕ → ℕ → Event → Bool
ends_hold t o e = e.thread == t && is_on (ActKind.Leave ∷ ActKind.GiveUp ∷ []) o e.act

-- a migration of o by t begins with it, inside a held span
abbrev pub copies_self : ℕ → ℕ → Event → Bool
copies_self t o e = e.thread == t && is_self same_loc e.self o && is_on (ActKind.Copy ∷ []) o e.act

-- a migration of o by t ends with it
abbrev pub redirects_self : ℕ → ℕ → Event → Bool
redirects_self t o e = e.thread == t && is_self same_loc e.self o && is_on (ActKind.Redirect ∷ []) o e.act

-- an operation on o from outside, where t holds o
abbrev pub is_outside : ℕ → ℕ → Event → Bool
is_outside t o e =
    is_on (ActKind.Get ∷ ActKind.Call ∷ ActKind.Hop ∷ ActKind.Set ∷ ActKind.Copy ∷ ActKind.Redirect ∷ []) o e.act && not (is_self same_loc e.self o)
    || is_on (ActKind.Get ∷ ActKind.Call ∷ ActKind.Leave ∷ ActKind.Hop ∷ ActKind.Set ∷ ActKind.Copy ∷ ActKind.Redirect ∷ ActKind.GiveUp ∷ ActKind.Again ∷ []) o e.act && not (e.thread == t)

-- no event is so
abbrev pub none_of : (Event → Bool) → List Event → Bool
none_of p [] = true
none_of p (e ∷ es) = not (p e) && none_of p es

-- e stands in a held span of t on o
abbrev pub IsInHold : List Event → ℕ → ℕ → Event → Type 0
IsInHold es t o e =
    (before : List Event) × (start : Event) × (during : List Event) × (after : List Event)
    × (es ≡ before ++ start ∷ (during ++ e ∷ after)) × (begins_hold t o start ≡ true) × (none_of (ends_hold t o) during ≡ true)

-- e stands in a migration span of t on o
abbrev pub IsInMigration : List Event → ℕ → ℕ → Event → Type 0
IsInMigration es t o e =
    (before : List Event) × (start : Event) × (between : List Event) × (copy : Event) × (during : List Event) × (after : List Event)
    × (es ≡ before ++ start ∷ (between ++ copy ∷ (during ++ e ∷ after)))
    × (begins_hold t o start ≡ true) × (none_of (ends_hold t o) between ≡ true)
    × (copies_self t o copy ≡ true) × (none_of (ends_hold t o) during ≡ true) × (none_of (redirects_self t o) during ≡ true)

-- no operation on an object from outside stands in a held span on it, and none in a migration span
abbrev pub NoneOutsideHolds : List Event → Type 0
NoneOutsideHolds es = (t o : ℕ) (e : Event) → IsInHold es t o e → is_outside t o e ≡ false

-- the same of migration spans
abbrev pub NoneOutsideMigrations : List Event → Type 0
NoneOutsideMigrations es = (t o : ℕ) (e : Event) → IsInMigration es t o e → is_outside t o e ≡ false
