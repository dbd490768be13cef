-- What a World is, and what it stands for.
use Rattle.std.specs.Prelude.{List, Option, Some, None, [], ℕ, All, length, slice_get, ◌≤◌, ◌≡◌}
use Rattle.obq_base.specs.declared.acts.Entry.{Entry}
use Rattle.obq_base.specs.declared.limits.TheConstants.{TURN_LIMIT}
use Rattle.obq_base.specs.Tree.{BlockTree}
use Rattle.obq_model.specs.Config.{Config}
use Rattle.obq_model.specs.Replay.{replay, IsOver}
use Rattle.obq_model.specs.Terms.{Bytes, Value}
use Rattle.obq_stands.specs.World.{Ref, Slot}
use Rattle.obq_stands.specs.Stands.{StandsFor}
use Rattle.obq_stands.specs.Facts.{HasWriters}
use Rattle.obq_stands.specs.Sites.{Site, Rest, assembled}
use Rattle.obq_world.specs.declared.slots.ThreadSlot.{ThreadSlot}
use Rattle.obq_world.specs.Meaning.{Meaning}

pub record State (S : Type 0) : Type 0 where
  pub site : S
  pub slots : List ThreadSlot
  pub cells : ℕ
  pub journal : List Entry

abbrev pub used_in : Option ThreadSlot → ℕ
used_in None = 0
used_in (Some x) = x.used

-- the version of a thread that isn't there is 0
abbrev pub version_in : Option ThreadSlot → ℕ
version_in None = 0
version_in (Some x) = x.version

-- the window reads back as this segment, which is its thread's bottom; the thread has used these turns
pub record SegmentReads {C W S : Type 0} (m : Meaning C W S) (used : ℕ) (x : W) (slot : Slot) : Type 0 where
  pub reads : m.reads x slot.segment.depth slot.segment.self slot.segment.window
  pub same : slot.used ≡ used
  pub bottom : slot.segment.answers ≡ None

-- a thread has a window exactly where it has a segment
abbrev pub ThreadReads : {C W S : Type 0} → Meaning C W S → (used : ℕ) → Option W → Option Slot → Type 0
ThreadReads m used None None = Unit {0}
ThreadReads m used (Some x) (Some slot) = SegmentReads m used x slot
ThreadReads m used o r = ⊥

abbrev pub ThreadsRead : {C W S : Type 0} → Meaning C W S → List ThreadSlot → (ℕ → Option W) → (ℕ → Option Slot) → Type 0
ThreadsRead m slots ws rs = (t : ℕ) → ThreadReads m (used_in (slice_get slots t)) (ws t) (rs t)

-- the site reads back as this one, where these names are exported
pub record SiteReads {C W S : Type 0} (m : Meaning C W S) (z : Site) (exports : List (Bytes × Value Ref)) (site : S) (slots : List ThreadSlot) : Type 0 where
  pub heap : m.heap site z.heap
  pub threads : ThreadsRead m slots (m.windows site) z.running
  pub ended : (v : ℕ) → m.ended site v (z.ended v)
  pub names : m.names site exports

-- there is one site, and nothing is between sites
pub record IsAlone (sites : ℕ → Site) (rest : Rest) : Type 0 where
  pub runs : (s t : ℕ) → (s ≡ 0 → ⊥) → (sites s).running t ≡ None
  pub ends : (s t : ℕ) → (s ≡ 0 → ⊥) → (sites s).ended t ≡ None
  pub waits : (s t : ℕ) → (sites s).waiting t ≡ None
  pub lines : (a b : ℕ) → rest.lines a b ≡ []

-- the fields read back as a World that stands for the replay of its journal
pub record WorldStands {C W S : Type 0} (m : Meaning C W S) (blocks : List BlockTree) (turns : ℕ) (w : State S) : Type 0 where
  pub sites : ℕ → Site
  pub rest : Rest
  pub stands : StandsFor blocks turns (assembled sites rest)
  pub reads : SiteReads m (sites 0) rest.names w.site w.slots
  pub alone : IsAlone sites rest
  pub writers : HasWriters 1 (assembled sites rest)
  pub one : length blocks ≡ 1
  pub limit : turns ≤ TURN_LIMIT
  pub journal : rest.journal ≡ w.journal
  pub cells : rest.count ≡ w.cells
  pub size : m.size w.site ≤ w.cells
  pub threads : rest.threads ≡ length w.slots
  pub within : All (λ x. x.used ≤ turns) w.slots

-- some journal of so many entries replays to a configuration that is over
abbrev pub WasOver : List BlockTree → ℕ → ℕ → Type 0
WasOver blocks turns entries = (journal : List Entry) × (c : Config) × (length journal ≡ entries) × (replay blocks turns journal ≡ Some c) × IsOver turns c

-- the journal replays to a configuration that is over
abbrev pub EndsOver : List BlockTree → ℕ → List Entry → Type 0
EndsOver blocks turns journal = (c : Config) × (replay blocks turns journal ≡ Some c) × IsOver turns c

abbrev pub Replays : List BlockTree → ℕ → List Entry → Type 0
Replays blocks turns journal = (c : Config) × (replay blocks turns journal ≡ Some c)
