-- Lists of events with watches over two sites are lists of the World's events, with the same sites and the same counts.
use Rattle.std.specs.Prelude.{List, Option, Some, [], true, length, nat_lt, ℕ, ◌≡◌}
use Rattle.obq_base.specs.declared.acts.ActKind.{ActKind}
use Rattle.obq_base.specs.Tree.{BlockTree}
use Rattle.obq_model.specs.Terms.{Term}
use Rattle.obq_model.specs.Step.{Self, Operation, Frame, Needs, find, self_at}
use Rattle.obq_model.specs.Located.{Located, with_waiting, located_run, sent}
use Rattle.obq_stands.specs.World.{Ref, same_ref, Memory, Slot, MayAsk, Packet, Request, Reply, Parked, Ending, World}
use Rattle.obq_stands.specs.Events.{Run, windows, world_at}
use Rattle.obq_stands.specs.Watch.{Watch}
use Rattle.obq_stands.specs.Joined.{DoesBeside, ByStore, ByWake, WatchStep, Plain, ActedBeside, ServesBeside, EntersBeside, Delivers, WatchRun, BeginWatch, ThenWatch, WaitsBeside, InStore, WakeMissing, NotFree, no_watch}
use Rattle.obq_stands.specs.AtSites.{IsDoneAt, IsSited, AreSited}
use Rattle.obq_stands.specs.Counts.{Tally, one_more, tally_of, no_tally, tally_run, left_at, IsTriedAt, located_home}

-- an act is done at this site; a mutex is taken again by a wake where the object is
abbrev pub IsDoneBeside : {m : Memory} {en : ℕ → ℕ → Option Ending} {threads t : ℕ} {s : Self Ref} {e : Watch} {op : Operation Ref} {kind : ActKind} {loc : ℕ} {m2 : Memory} {x : Term Ref} {e2 : Watch} → (server site : ℕ) → DoesBeside m en threads t s e op kind loc m2 x e2 → Type 0
IsDoneBeside server site (ByStore op kind loc m2 x e2 does beside) = IsDoneAt server site does
IsDoneBeside server site (ByWake o q guard x kind left focus k here noted row) = o.site ≡ site

-- the act of an event is done at its site
abbrev pub IsSitedBeside : {turns : ℕ} {w x : World} {e e2 : Watch} → (server : ℕ) → WatchStep turns w e x e2 → Type 0
IsSitedBeside server (Plain w x e s quiet) = IsSited server s
IsSitedBeside server (ActedBeside w e e2 s t n slot u op hs kind loc m x is few steps needs does) = IsDoneBeside server s does
IsSitedBeside server (ServesBeside w w1 e e2 a b t k used depth self op kind loc m x o takes may does gives) = IsDoneBeside server b does
IsSitedBeside server (EntersBeside w w1 e e2 a b t k used depth self op kind loc m x y takes call does enters) = IsDoneBeside server b does
IsSitedBeside server (Delivers w e a b p ps first) = Unit {0}

-- so are those of all events
abbrev pub AreSitedBeside : {turns : ℕ} {w : World} {e : Watch} {x : World} {e2 : Watch} → (server : ℕ) → WatchRun turns w e x e2 → Type 0
AreSitedBeside server BeginWatch = Unit {0}
AreSitedBeside server (ThenWatch r s) = AreSitedBeside server r × IsSitedBeside server s

-- the requests and replies that an event posts or does; a wake is none
abbrev pub tally_beside : {turns : ℕ} {w x : World} {e e2 : Watch} → WatchStep turns w e x e2 → Tally → Tally
tally_beside (Plain w x e s quiet) z = tally_of s z
tally_beside (ServesBeside w w1 e e2 a b t k used depth self op kind loc m x o takes may does gives) z = record z { done = one_more z.done a b; replied = one_more z.replied b a }
tally_beside (EntersBeside w w1 e e2 a b t k used depth self op kind loc m x y takes call does enters) z = record z { done = one_more z.done a b }
tally_beside s z = z

abbrev pub tally_watch : {turns : ℕ} {w : World} {e : Watch} {x : World} {e2 : Watch} → WatchRun turns w e x e2 → Tally → Tally
tally_watch BeginWatch z = z
tally_watch (ThenWatch r s) z = tally_beside s (tally_watch r z)

-- So what is said of trails, homes and counts behind every list of events holds behind every list of events with watches.
abbrev pub WatchRunIs : Type 0
WatchRunIs =
    (trees : List BlockTree) (turns : ℕ) (w : World) (e : Watch) (r : WatchRun turns (world_at (windows 0 trees)) no_watch w e) → AreSitedBeside (length trees) r
    → (p : Run turns (world_at (windows 0 trees)) w) × AreSited (length trees) p × (tally_run p no_tally ≡ tally_watch r no_tally)

-- ---- at rest

-- an operation that waits is tried at this site; a mutex that is taken again by a wake, where its object is
abbrev pub IsTriedBeside : {m : Memory} {en : ℕ → ℕ → Option Ending} {e : Watch} {t : ℕ} {s : Self Ref} {op : Operation Ref} → (server : ℕ) → (home : ℕ → ℕ) → (site : ℕ) → WaitsBeside m en e t s op → Type 0
IsTriedBeside server home site (InStore op waits) = IsTriedAt server home site waits
IsTriedBeside server home site (WakeMissing o q guard far none) = o.site ≡ site
IsTriedBeside server home site (NotFree o q guard x here busy) = o.site ≡ site

abbrev pub IsHeldBeside : (server : ℕ) → (home : ℕ → ℕ) → (site : ℕ) → Memory → (ℕ → ℕ → Option Ending) → Watch → Packet → Type 0
IsHeldBeside server home site m en e (Request t k used depth self op) = MayAsk op × ((waits : WaitsBeside m en e t self op) × IsTriedBeside server home site waits)
IsHeldBeside server home site m en e (Reply t k used o) = ⊥

-- No line holds a packet or a wake, and no reply is to be posted. Each segment whose thread has a turn left, and each request, waits in an act that is tried where it is.
pub record IsAtRestBeside (server turns : ℕ) (w : World) (e : Watch) (l : Located) : Type 0 where
  pub lines : (a b : ℕ) → w.lines a b ≡ []
  pub wakes : (a b : ℕ) → e.wakes a b ≡ []
  pub answered : (a b : ℕ) → left_at w a b ≡ 0
  pub runs : (s t : ℕ) (slot : Slot) → w.running s t ≡ Some slot → nat_lt slot.used turns ≡ true
      → (op : Operation Ref) × (hs : List (Frame Ref)) × (find same_ref slot.segment.depth slot.segment.self slot.segment.window ≡ Needs op hs) × ((waits : WaitsBeside w.memory w.ended e t (self_at slot.segment.self hs) op) × IsTriedBeside server (located_home l) s waits)
  pub waits : (s t : ℕ) (x : Parked) → w.waiting s t ≡ Some x → IsHeldBeside server (located_home l) s w.memory w.ended e x.packet

-- then the requests and replies posted are those of the located replay
abbrev pub WatchRestCountsAsLocated : Type 0
WatchRestCountsAsLocated =
    (trees : List BlockTree) (turns : ℕ) (w : World) (e : Watch) (l : Located) (r : WatchRun turns (world_at (windows 0 trees)) no_watch w e) → AreSitedBeside (length trees) r → located_run trees turns w.journal ≡ Some l → IsAtRestBeside (length trees) turns w e l → (a b : ℕ) → (a ≡ b → ⊥)
    → ((tally_watch r no_tally).posted a b ≡ sent a b (with_waiting (length trees) turns l).requests) × ((tally_watch r no_tally).replied b a ≡ sent b a (with_waiting (length trees) turns l).replies)
