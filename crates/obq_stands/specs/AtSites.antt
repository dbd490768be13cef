-- The trails of the located fold, as the chains of a World have them.
use Rattle.std.specs.Prelude.{List, Option, Some, [], length, replicate, slice_get, ℕ, ◌++◌, ◌∷◌, ◌≡◌}
use Rattle.obq_base.specs.declared.acts.ActKind.{ActKind}
use Rattle.obq_base.specs.Tree.{BlockTree}
use Rattle.obq_model.specs.Terms.{Term}
use Rattle.obq_model.specs.Step.{Self, Operation, activations_at}
use Rattle.obq_model.specs.Located.{Located, home_of, activations_of, located_run}
use Rattle.obq_stands.specs.World.{Ref, Memory, PendingCall, MayAsk, Ending, World}
use Rattle.obq_stands.specs.Stands.{Link, Table, Chained, Place, Nowhere, Absent, At, InLine, WaitsAt, EndedAt, StandsFor, Does, OnCell, Makes, Retakes, Joins, Exports, Imports, TooMany}
use Rattle.obq_stands.specs.Events.{Step, Acted, Asks, Serves, Enters, Holds, Returns, Resumes, Run, Begin, Then, windows, world_at}
use Rattle.obq_stands.specs.Over.{homes_of}
use Rattle.obq_stands.specs.Pending.{call_in}
use Rattle.obq_stands.specs.CellSites.{AreAt}

-- the sites of the activations around the hole of the innermost of these segments, and the home; without a segment the home is this site
abbrev pub sites_around : ℕ → List Link → List ℕ
sites_around s [] = s ∷ []
sites_around s (l ∷ ls) = replicate (activations_at 0 l.frames) l.key.site ++ sites_around l.key.site ls

-- the sites of the chain from this call on
abbrev pub IsTrailOf : Table → ℕ → PendingCall → List ℕ → Type 0
IsTrailOf p t k tr = (d : ℕ) (self : Self Ref) (links : List Link) → Chained p t d self (Some k) links → tr ≡ sites_around 0 links

-- The trail of a thread at this place: the site of its running segment for each activation of its window, and those of its chain; an ended one's is its home.
abbrev pub TrailIs : Table → ℕ → Place → List ℕ → Type 0
TrailIs p t (At s slot) tr = (d : ℕ) (self : Self Ref) (links : List Link) → Chained p t d self slot.segment.answers links → tr ≡ replicate (activations_of slot.segment.window) s ++ sites_around s links
TrailIs p t (InLine a b q) tr = IsTrailOf p t (call_in a b q) tr
TrailIs p t (WaitsAt b x) tr = IsTrailOf p t (call_in x.from b x.packet) tr
TrailIs p t (EndedAt s e) tr = tr ≡ s ∷ []
TrailIs p t Nowhere tr = Unit {0}
TrailIs p t Absent tr = Unit {0}

-- so is each in the located fold
abbrev pub AreTrails : (trees : List BlockTree) (turns : ℕ) (w : World) → StandsFor trees turns w → Located → Type 0
AreTrails trees turns w inv l = (t : ℕ) (tr : List ℕ) → slice_get l.thread_sites t ≡ Some tr → TrailIs w.pending t (inv.stands.place t) tr

-- an event without an entry in the journal; what is asked for may be
abbrev pub IsSilent : {turns : ℕ} {w x : World} → Step turns w x → Type 0
IsSilent (Asks w s t to k slot op hs is few needs free) = MayAsk op
IsSilent (Holds w w1 a b t k used depth self op takes) = Unit {0}
IsSilent (Returns w s t slot call o is answers out) = Unit {0}
IsSilent (Resumes w w1 a b t k used o e op hs takes here needs) = Unit {0}
IsSilent e = ⊥

-- An act is done at this site: on a cell of it, where an ending is kept, or, on the table of exported names, at the name server, which is the site after the last. A new cell is made there.
abbrev pub IsDoneAt : {m : Memory} {en : ℕ → ℕ → Option Ending} {threads t : ℕ} {s : Self Ref} {op : Operation Ref} {kind : ActKind} {loc : ℕ} {m2 : Memory} {x : Term Ref} → (server site : ℕ) → Does m en threads t s op kind loc m2 x → Type 0
IsDoneAt server site (OnCell op r x kind left focus is here row) = r.site ≡ site
IsDoneAt server site (Makes r cell after free) = r.site ≡ site
IsDoneAt server site (Retakes o c guard x y kind left focus here there row) = o.site ≡ site
IsDoneAt server site (Joins u b e is) = b ≡ site
IsDoneAt server site (Exports x v) = server ≡ site
IsDoneAt server site (Imports x engine kind focus row) = server ≡ site
IsDoneAt server site (TooMany v many) = Unit {0}

-- the act of an event is done at its site; what is asked for may be
abbrev pub IsSited : {turns : ℕ} {w x : World} → (server : ℕ) → Step turns w x → Type 0
IsSited server (Acted w s t n slot u op hs kind loc m y is few e needs does) = IsDoneAt server s does
IsSited server (Asks w s t to k slot op hs is few needs free) = MayAsk op
IsSited server (Serves w w1 a b t k used depth self op kind loc m y o takes may does gives) = IsDoneAt server b does
IsSited server (Enters w w1 a b t k used depth self op kind loc m y z takes call does enters) = IsDoneAt server b does
IsSited server e = Unit {0}

-- so are those of all events
abbrev pub AreSited : {turns : ℕ} {w x : World} → (server : ℕ) → Run turns w x → Type 0
AreSited server Begin = Unit {0}
AreSited server (Then r e) = AreSited server r × IsSited server e

-- each event at its site keeps that the cells are at their sites and the trails are those
abbrev pub TrailsKept : Type 0
TrailsKept =
    (trees : List BlockTree) (turns : ℕ) (w x : World) (inv : StandsFor trees turns w) (inv2 : StandsFor trees turns x) (l l2 : Located) → Run turns (world_at (windows 0 trees)) w → located_run trees turns w.journal ≡ Some l → located_run trees turns x.journal ≡ Some l2
    → AreAt w.memory l.cell_sites → AreTrails trees turns w inv l → (e : Step turns w x) → IsSited (length trees) e → AreAt x.memory l2.cell_sites × AreTrails trees turns x inv2 l2

-- so it is behind every list of such events
abbrev pub EveryRunAtSites : Type 0
EveryRunAtSites =
    (trees : List BlockTree) (turns : ℕ) (w : World) (inv : StandsFor trees turns w) (l : Located) (r : Run turns (world_at (windows 0 trees)) w) → AreSited (length trees) r → located_run trees turns w.journal ≡ Some l
    → AreAt w.memory l.cell_sites × AreTrails trees turns w inv l

-- then each thread's home in the located fold is the site where it was forked, or that of its block
abbrev pub HomesLocated : Type 0
HomesLocated =
    (trees : List BlockTree) (turns : ℕ) (w : World) (l : Located) (r : Run turns (world_at (windows 0 trees)) w) (t : ℕ) (tr : List ℕ) → AreSited (length trees) r → located_run trees turns w.journal ≡ Some l → slice_get l.thread_sites t ≡ Some tr → home_of tr ≡ homes_of r t
