-- Ends, forks, joins, exports and imports of a site's threads, in the words of a World.
use Rattle.std.specs.Prelude.{Bool, List, None, Option, Some, [], false, if◌then◌else◌, is_some, length, nat_le, option_map, refl, true, unwrap_or, ℕ, ◌==◌, ◌≡◌, ◌≤◌, ◌⊎◌}
use Rattle.std.proofs.Common.{ap, inl, inr, subst, sym, true≢false, ◌∙◌}
use Rattle.obq_base.specs.Tree.{BlockTree}
use Rattle.obq_base.specs.declared.acts.ActKind.{ActKind}
use Rattle.obq_base.specs.declared.code.SourceCode.{SourceCode}
use Rattle.obq_base.specs.declared.limits.TheConstants.{THREAD_LIMIT}
use Rattle.obq_base.specs.declared.places.Ref.{Ref}
use Rattle.obq_base.specs.declared.values.Value.{Value as Held}
use Rattle.obq_answers.specs.Beginnings.{called_shown}
use Rattle.obq_answers.specs.Worlds.{SeenAs, seen_value}
use Rattle.obq_except.specs.declared.windows.Window.{Window}
use Rattle.obq_heap.specs.Names.{put}
use Rattle.obq_host.specs.Endings.{EndingReads, PlainEnding, PlainFailed, PlainReturned, kept_at, plain_ending}
use Rattle.obq_host.specs.Exports.{ExportsRead, Imports, value_at}
use Rattle.obq_host.specs.Meanings.{CellsRead, meaning_of}
use Rattle.obq_host.specs.Places.{IsWith, IsWithTwo, at_place}
use Rattle.obq_host.specs.Threads.{DueImport, DueJoin, IsForked, Joins, Refocuses, around_thread, due_at}
use Rattle.obq_host.specs.Turns.{ActsOnThreads, EndsHere, HasEnded, HasExported, HasForked, HasImported, HasJoined, HasNoRoom, ImportsHere, InPlace, IsRunningHere, IsSeeking, IsWaiting, JoinsHere, OfWindow, SameElse}
use Rattle.obq_host.specs.declared.host.Ending.{Ending}
use Rattle.obq_host.specs.declared.host.Host.{Host}
use Rattle.obq_host.proofs.Ended.{EndsSo, ends_seen}
use Rattle.obq_host.proofs.Forked.{ForkMeans, JoinMeans, NoStep, fork_means, join_means}
use Rattle.obq_host.proofs.Imported.{ExportMeans, ImportMeans, export_means, import_means}
use Rattle.obq_host.proofs.Named.{found_reads, put_reads, value_complete}
use Rattle.obq_host.proofs.Told.{rewinds, same_heap}
use Rattle.obq_model.specs.Cells.{import_row}
use Rattle.obq_model.specs.Config.{act}
use Rattle.obq_model.specs.Exceptions.{fork_limit}
use Rattle.obq_model.specs.Step.{Found, Import, JoinWith, Next, Self, find, no_self, plug}
use Rattle.obq_model.specs.Terms.{Bytes, Call, Const, End, Form, Okay, Part, Term, Thread}
use Rattle.obq_moves.specs.Views.{Shown, plain_value, shown}
use Rattle.obq_stands.specs.World as world
use Rattle.obq_stands.specs.World.{Ends, Idle, with_at}
use Rattle.obq_stands.proofs.Update.{same_or, test_no, test_refl, with_at_other, with_at_same}
use Rattle.obq_windows.specs.Values.{OkayValue, PlainValue, Table}
use Rattle.obq_windows.specs.Windows.{NodeValue}
use Rattle.obq_world.specs.Acts.{DidAct, DidIn, EndsHere as EndsThere, Exports, ForksOff, HasTooMany, ImportingWaits, Imports as Imported, IsDue, JoiningWaits, JoinsWith, Leaves, TriedCases, WaitsHere, same_endings, same_names, with_ending}
use Rattle.obq_world.specs.Meaning.{ByRaising, ByValue, IsBottom, NeedsAct}
use Rattle.obq_world.specs.declared.machine.Made.{Made}
use Rattle.obq_world.specs.declared.machine.Tried.{Tried}
use Rattle.obq_world.specs.declared.machine.Tried.TheVariants as tried

-- where an act is due, no pure step stands next
abbrev is_next : Found world.Ref → Bool
is_next (Next t) = true
is_next found = false

bottom_no_next : (found : Found world.Ref) → IsBottom found → is_next found ≡ false
bottom_no_next _ (ByValue v) = refl
bottom_no_next _ (ByRaising r) = refl

pub no_step : (found : Found world.Ref) → NeedsAct found ⊎ IsBottom found → NoStep found
no_step found (inl h) u e = absurd (true≢false (ap is_next (sym e ∙ h.2)))
no_step found (inr h) u e = absurd (true≢false (sym (ap is_next e) ∙ bottom_no_next found h))

-- ---- an end

ended_at : (T : Table Ref) (old new : List (Option Ending)) (t : ℕ) (kept : Ending) (e : world.Ending) → IsWith old t (Some kept) new → EndingReads T (Some (plain_ending kept)) (Some e)
    → (v : ℕ) (o : Option world.Ending) → EndingReads T (kept_at old v) o → EndingReads T (kept_at new v) (with_ending t e v o)
ended_at T old new t kept e into reads v o h = by (same_or v t)
  where
    by : ((v ≡ t) ⊎ (v ≡ t → ⊥)) → EndingReads T (kept_at new v) (with_ending t e v o)
    by (inl q) =
        subst (λ (p : Option Ending). EndingReads T (option_map plain_ending p) (with_ending t e v o)) (sym (into v ∙ ap (with_at (at_place old) t (Some kept)) q ∙ with_at_same (at_place old) t (Some kept)))
        (subst (λ (b : Bool). EndingReads T (Some (plain_ending kept)) (if b then Some e else o)) (sym (ap (λ z. z == t) q ∙ test_refl t)) reads)
    by (inr ne) =
        subst (λ (p : Option Ending). EndingReads T (option_map plain_ending p) (with_ending t e v o)) (sym (into v ∙ with_at_other (at_place old) t (Some kept) v ne))
        (subst (λ (b : Bool). EndingReads T (kept_at old v) (if b then Some e else o)) (sym (test_no v t ne)) h)

did_end : (parts : List SourceCode) (T : Table Ref) (blocks : List BlockTree) (old new : Host) (t cells threads : ℕ) (w : Window) → EndsHere old t new → at_place old.windows.items t ≡ Some w
    → DidIn (meaning_of parts T blocks) old t w cells threads (act ActKind.End t) Made.Nothing new
did_end parts T blocks old new t cells threads w h here heap a self u is k =
    let so : EndsSo T (find world.same_ref a self u) (plain_ending h.ending) = ends_seen parts T a self (shown w) u k (plain_ending h.ending) (sym (h.ends w here)) in
    EndsThere so.ending new so.ends (record {
      heap = same_heap parts T old new h.heap heap is;
      names = λ exports q. subst (λ z. ExportsRead T z exports) (sym h.names) q;
      windows = h.windows;
      ended = ended_at T old.endings.items new.endings.items t h.ending so.ending h.endings so.reads;
    })

-- ---- a fork

leaves : (parts : List SourceCode) (T : Table Ref) (blocks : List BlockTree) (old new : Host) (heap : world.Heap) (ws : ℕ → Option Window) → CellsRead parts T old heap → SameElse old new → ((u : ℕ) → at_place new.windows.items u ≡ ws u)
    → Leaves (meaning_of parts T blocks) old heap ws same_endings same_names new
leaves parts T blocks old new heap ws is same windows =
    record { heap = same_heap parts T old new same.heap heap is; windows = windows; ended = λ v o h. subst (λ z. EndingReads T (kept_at z.items v) o) (sym same.endings) h; names = λ exports h. subst (λ z. ExportsRead T z exports) (sym same.names) h }

has_room : (full : Bool) (s begun : Shown) → Some s ≡ (if full then None else Some begun) → full ≡ false
has_room false s begun e = refl
has_room true s begun e = absurd (true≢false (ap is_some e))

has_no_room : (full : Bool) (begun : Shown) → ◌≡◌ {A = Option Shown} None (if full then None else Some begun) → full ≡ true
has_no_room true begun e = refl
has_no_room false begun e = absurd (true≢false (sym (ap is_some e)))

begun_is : (full : Bool) (s begun : Shown) → full ≡ false → Some s ≡ (if full then None else Some begun) → s ≡ begun
begun_is false s begun room e = ap (λ (o : Option Shown). unwrap_or o s) e
begun_is true s begun room e = absurd (true≢false room)

made_thread : (parts : List SourceCode) (T : Table Ref) (blocks : List BlockTree) (old new : Host) (t cells threads : ℕ) (heap : world.Heap) (a : ℕ) (self : Self world.Ref) (u : Term world.Ref) (s : Shown) (f : PlainValue Ref) → ForkMeans parts T a self s u f → CellsRead parts T old heap → SameElse old new
    → (x : Window) (begun : Option Window) → IsForked s f threads (shown x) (option_map shown begun) → IsWithTwo old.windows.items t x threads begun true new.windows.items
    → DidAct (meaning_of parts T blocks) old t cells threads heap a self u (act ActKind.Fork threads) Made.Thread new
made_thread parts T blocks old new t cells threads heap a self u s f m is same x (Some y) forks windows =
    let room : nat_le THREAD_LIMIT threads ≡ false = has_room (nat_le THREAD_LIMIT threads) (shown y) (called_shown f [] (around_thread threads)) forks.begun_is in
    ForksOff (seen_value T f) m.around x y new m.next room
    (subst (λ (z : Shown). SeenAs parts T a self z (plug m.around (Const (Thread threads)))) (sym forks.asker_is) (m.forked threads room))
    (subst (λ (z : Shown). SeenAs parts T 0 no_self z (Form Call (Part (Const (seen_value T f)) End))) (sym (begun_is (nat_le THREAD_LIMIT threads) (shown y) (called_shown f [] (around_thread threads)) room forks.begun_is)) (m.begun threads))
    (leaves parts T blocks old new heap (with_at (with_at (at_place old.windows.items) t (Some x)) threads (Some y)) is same windows)
made_thread parts T blocks old new t cells threads heap a self u s f m is same x None forks windows = absurd windows

made_none : (parts : List SourceCode) (T : Table Ref) (blocks : List BlockTree) (old new : Host) (t cells threads : ℕ) (heap : world.Heap) (a : ℕ) (self : Self world.Ref) (u : Term world.Ref) (s : Shown) (f : PlainValue Ref) → ForkMeans parts T a self s u f → CellsRead parts T old heap → SameElse old new
    → (x : Window) (begun : Option Window) → IsForked s f threads (shown x) (option_map shown begun) → IsWithTwo old.windows.items t x threads begun false new.windows.items
    → DidAct (meaning_of parts T blocks) old t cells threads heap a self u (act ActKind.Fork THREAD_LIMIT) Made.Nothing new
made_none parts T blocks old new t cells threads heap a self u s f m is same x None forks windows =
    let full : nat_le THREAD_LIMIT threads ≡ true = has_no_room (nat_le THREAD_LIMIT threads) (called_shown f [] (around_thread threads)) forks.begun_is in
    HasTooMany (seen_value T f) m.around x new m.next full
    (subst (λ (z : Shown). SeenAs parts T a self z (plug m.around fork_limit)) (sym forks.asker_is) (m.refused threads full))
    (leaves parts T blocks old new heap (with_at (at_place old.windows.items) t (Some x)) is same windows)
made_none parts T blocks old new t cells threads heap a self u s f m is same x (Some y) forks windows = absurd windows

-- ---- a join

refocused : (parts : List SourceCode) (T : Table Ref) (blocks : List BlockTree) (old new : Host) (t v cells threads : ℕ) (heap : world.Heap) (a : ℕ) (self : Self world.Ref) (u : Term world.Ref) (s : Shown) → JoinMeans parts T a self s u v → CellsRead parts T old heap → SameElse old new
    → (kept : Option PlainEnding) → kept ≡ kept_at old.endings.items v → Joins old.windows.items t s kept true new.windows.items
    → DidAct (meaning_of parts T blocks) old t cells threads heap a self u (act ActKind.Join v) Made.Nothing new
refocused parts T blocks old new t v cells threads heap a self u s m is same (Some kept) e joins =
    JoinsWith v m.around joins.window new m.next
    (λ none. absurd (some_ending kept (subst (λ (z : Option PlainEnding). EndingReads T z None) (sym e) none)))
    (λ ending reads. subst (λ (z : Shown). SeenAs parts T a self z (plug m.around (world.ending_term ending))) (sym joins.is) (m.joined kept ending (subst (λ (z : Option PlainEnding). EndingReads T z (Some ending)) (sym e) reads)))
    (leaves parts T blocks old new heap (with_at (at_place old.windows.items) t (Some joins.window)) is same joins.windows)
  where
    some_ending : (k : PlainEnding) → EndingReads T (Some k) None → ⊥
    some_ending (PlainReturned w) h = true≢false (sym (ap is_some h.0))
    some_ending (PlainFailed text) h = true≢false (sym (ap is_some h))
refocused parts T blocks old new t v cells threads heap a self u s m is same None e joins = absurd joins

-- ---- an export and an import

did_export : (parts : List SourceCode) (T : Table Ref) (blocks : List BlockTree) (old new : Host) (t cells threads : ℕ) (heap : world.Heap) (a : ℕ) (self : Self world.Ref) (u : Term world.Ref) (s : Shown) (x : Bytes) (v : Held) → ExportMeans parts T a self s u x (plain_value v) → CellsRead parts T old heap
    → new.names ≡ put x v old.names → new.endings ≡ old.endings → new.heap ≡ old.heap → Refocuses old.windows.items t s (NodeValue OkayValue) new.windows.items
    → DidAct (meaning_of parts T blocks) old t cells threads heap a self u (act ActKind.Export 0) Made.Nothing new
did_export parts T blocks old new t cells threads heap a self u s x v m is names endings same r =
    Exports x (seen_value T (plain_value v)) m.around r.window new m.next (subst (λ (z : Shown). SeenAs parts T a self z (plug m.around (Const Okay))) (sym r.is) m.exported) (record {
      heap = same_heap parts T old new same heap is;
      windows = r.windows;
      ended = λ k o h. subst (λ z. EndingReads T (kept_at z.items k) o) (sym endings) h;
      names = put_reads T x v old.names new.names names m.complete;
    })

did_import : (parts : List SourceCode) (T : Table Ref) (blocks : List BlockTree) (old new : Host) (t cells threads : ℕ) (heap : world.Heap) (a : ℕ) (self : Self world.Ref) (u : Term world.Ref) (s : Shown) (x : Bytes) (engine : Bool) → ImportMeans parts T a self s u x engine → CellsRead parts T old heap → SameElse old new
    → (found : Option (PlainValue Ref)) → found ≡ value_at old.names x → Imports old.windows.items t s engine found true new.windows.items
    → DidAct (meaning_of parts T blocks) old t cells threads heap a self u (act ActKind.Import 0) Made.Nothing new
did_import parts T blocks old new t cells threads heap a self u s x engine m is same (Some v) e r =
    Imported x engine m.around r.window new m.next
    (λ exports reads. let i = m.imported v (value_complete T x old.names exports reads v e) in (
      i.0,
      ap (import_row Ends Idle engine) (found_reads T x old.names exports reads (Some v) e) ∙ i.1,
      subst (λ (z : Shown). SeenAs parts T a self z (plug m.around i.0)) (sym r.is) i.2,
    ))
    (leaves parts T blocks old new heap (with_at (at_place old.windows.items) t (Some r.window)) is same r.windows)
did_import parts T blocks old new t cells threads heap a self u s x engine m is same None e r = absurd r

-- ---- acts on threads

-- an act is due in the window of thread t
abbrev pub IsDueAt : List SourceCode → Table Ref → List BlockTree → Host → ℕ → Type 0
IsDueAt parts T blocks s t = (w : Window) → at_place s.windows.items t ≡ Some w → IsDue (meaning_of parts T blocks) w

same_size : (old new : Host) (cells : ℕ) → new.heap ≡ old.heap → length old.heap.cells ≤ cells → length new.heap.cells ≤ cells
same_size old new cells e h = subst (λ z. length z.cells ≤ cells) (sym e) h

-- a thread that waits for another to end
pub awaits : (parts : List SourceCode) (T : Table Ref) (blocks : List BlockTree) (s : Host) (t v : ℕ) → OfWindow s t (λ x. due_at x.focus ≡ DueJoin v) → kept_at s.endings.items v ≡ None → WaitsHere (meaning_of parts T blocks) s t
awaits parts T blocks s t v due none h w a self u is here k =
    let m : JoinMeans parts T a self (shown w) u v = join_means parts T is.agrees a self (shown w) u v k (due w here) in
    (JoinWith v, m.around, m.next, JoiningWaits v (λ e reads. true≢false (ap is_some (subst (λ (z : Option PlainEnding). EndingReads T z (Some e)) none reads))))

awaited : (ws ws2 : List (Option Window)) (t : ℕ) (s : Shown) (kept : Option PlainEnding) → Joins ws t s kept false ws2 → (kept ≡ None) × (ws2 ≡ ws)
awaited ws ws2 t s None h = (refl, h)
awaited ws ws2 t s (Some kept) h = absurd h

-- the same window again is no change
with_own : (ws : List (Option Window)) (t : ℕ) (w : Window) → at_place ws t ≡ Some w → IsWith ws t (Some w) ws
with_own ws t w here u = by (same_or u t)
  where
    by : ((u ≡ t) ⊎ (u ≡ t → ⊥)) → at_place ws u ≡ with_at (at_place ws) t (Some w) u
    by (inl e) = ap (at_place ws) e ∙ here ∙ sym (ap (with_at (at_place ws) t (Some w)) e ∙ with_at_same (at_place ws) t (Some w))
    by (inr ne) = sym (with_at_other (at_place ws) t (Some w) u ne)

did_wait : (parts : List SourceCode) (T : Table Ref) (blocks : List BlockTree) (old new : Host) (t v cells threads : ℕ) → IsRunningHere old t → OfWindow old t (λ x. due_at x.focus ≡ DueJoin v) → JoinsHere old t v false new
    → TriedCases (meaning_of parts T blocks) old t cells threads tried.Waits new
did_wait parts T blocks old new t v cells threads running form h =
    let waited = awaited old.windows.items new.windows.items t (shown running.0) (kept_at old.endings.items v) (h.windows running.0 running.1) in (
      λ w here. rewinds parts T blocks old new t w (subst (λ (z : List (Option Window)). IsWith old.windows.items t (Some w) z) (sym waited.1) (with_own old.windows.items t w here)) h.same,
      awaits parts T blocks new t v (subst (λ (z : List (Option Window)). InPlace z t (λ x. due_at x.focus ≡ DueJoin v)) (sym waited.1) form) (ap (λ z. kept_at z.items v) h.same.endings ∙ waited.0),
    )

-- a thread that waits for a name
pub seeks : (parts : List SourceCode) (T : Table Ref) (blocks : List BlockTree) (s : Host) (t : ℕ) (x : Bytes) (engine : Bool) → OfWindow s t (λ z. due_at z.focus ≡ DueImport x engine) → value_at s.names x ≡ None → WaitsHere (meaning_of parts T blocks) s t
seeks parts T blocks s t x engine due none h w a self u is here k =
    let m : ImportMeans parts T a self (shown w) u x engine = import_means parts T is.agrees a self (shown w) u x engine k (due w here) in
    (Import x engine, m.around, m.next, ImportingWaits x engine (λ exports reads. found_reads T x s.names exports reads None (sym none)))

sought : (ws ws2 : List (Option Window)) (t : ℕ) (s : Shown) (engine : Bool) (found : Option (PlainValue Ref)) → Imports ws t s engine found false ws2 → (found ≡ None) × (ws2 ≡ ws)
sought ws ws2 t s engine None h = (refl, h)
sought ws ws2 t s engine (Some v) h = absurd h

did_seek : (parts : List SourceCode) (T : Table Ref) (blocks : List BlockTree) (old new : Host) (t : ℕ) (x : Bytes) (engine : Bool) (cells threads : ℕ) → IsRunningHere old t → OfWindow old t (λ z. due_at z.focus ≡ DueImport x engine) → ImportsHere old t x engine false new
    → TriedCases (meaning_of parts T blocks) old t cells threads tried.Waits new
did_seek parts T blocks old new t x engine cells threads running form h =
    let waited = sought old.windows.items new.windows.items t (shown running.0) engine (value_at old.names x) (h.windows running.0 running.1) in (
      λ w here. rewinds parts T blocks old new t w (subst (λ (z : List (Option Window)). IsWith old.windows.items t (Some w) z) (sym waited.1) (with_own old.windows.items t w here)) h.same,
      seeks parts T blocks new t x engine (subst (λ (z : List (Option Window)). InPlace z t (λ y. due_at y.focus ≡ DueImport x engine)) (sym waited.1) form) (ap (λ z. value_at z x) h.same.names ∙ waited.0),
    )

pub tried_on_threads : (parts : List SourceCode) (T : Table Ref) (blocks : List BlockTree) (old new : Host) (t cells threads : ℕ) → IsRunningHere old t → IsDueAt parts T blocks old t → length old.heap.cells ≤ cells
    → (came : Tried) → ActsOnThreads old t threads new came → TriedCases (meaning_of parts T blocks) old t cells threads came new
tried_on_threads parts T blocks old new t cells threads running due size _ (HasEnded h) = (λ w here. did_end parts T blocks old new t cells threads w h here, same_size old new cells h.heap size)
tried_on_threads parts T blocks old new t cells threads running due size _ (HasForked f form h) = (
  λ w here heap a self u is k. let x = h.windows w here in
      made_thread parts T blocks old new t cells threads heap a self u (shown w) f (fork_means parts T is.agrees a self (shown w) u f k (form w here) (no_step _ (due w here a self u k))) is h.same x.window x.begun x.is x.windows,
  same_size old new cells h.same.heap size,
)
tried_on_threads parts T blocks old new t cells threads running due size _ (HasNoRoom f form h) = (
  λ w here heap a self u is k. let x = h.windows w here in
      made_none parts T blocks old new t cells threads heap a self u (shown w) f (fork_means parts T is.agrees a self (shown w) u f k (form w here) (no_step _ (due w here a self u k))) is h.same x.window x.begun x.is x.windows,
  same_size old new cells h.same.heap size,
)
tried_on_threads parts T blocks old new t cells threads running due size _ (HasJoined v form h) = (
  λ w here heap a self u is k. refocused parts T blocks old new t v cells threads heap a self u (shown w) (join_means parts T is.agrees a self (shown w) u v k (form w here)) is h.same (kept_at old.endings.items v) refl (h.windows w here),
  same_size old new cells h.same.heap size,
)
tried_on_threads parts T blocks old new t cells threads running due size _ (IsWaiting v form h) = did_wait parts T blocks old new t v cells threads running form h
tried_on_threads parts T blocks old new t cells threads running due size _ (HasExported x v form h) = (
  λ w here heap a self u is k. did_export parts T blocks old new t cells threads heap a self u (shown w) x v (export_means parts T is.agrees a self (shown w) u x (plain_value v) k (form w here) (no_step _ (due w here a self u k))) is h.names h.endings h.heap (h.windows w here),
  same_size old new cells h.heap size,
)
tried_on_threads parts T blocks old new t cells threads running due size _ (HasImported x engine form h) = (
  λ w here heap a self u is k. did_import parts T blocks old new t cells threads heap a self u (shown w) x engine (import_means parts T is.agrees a self (shown w) u x engine k (form w here)) is h.same (value_at old.names x) refl (h.windows w here),
  same_size old new cells h.same.heap size,
)
tried_on_threads parts T blocks old new t cells threads running due size _ (IsSeeking x engine form h) = did_seek parts T blocks old new t x engine cells threads running form h
