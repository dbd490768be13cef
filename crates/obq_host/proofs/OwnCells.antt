-- Acts on the cells of a site, put together and in the words of a World.
use Rattle.std.specs.Prelude.{Bool, List, None, Option, Some, false, length, refl, true, ℕ, ◌≡◌, ◌≤◌, ◌⊎◌}
use Rattle.std.proofs.Common.{ap, arith, inl, inr, subst, sym, true≢false, ◌∙◌}
use Rattle.obq_base.specs.Tree.{BlockTree}
use Rattle.obq_base.specs.declared.code.SourceCode.{SourceCode}
use Rattle.obq_base.specs.declared.places.Ref.{Ref}
use Rattle.obq_answers.specs.Worlds.{SeenAs}
use Rattle.obq_except.specs.declared.windows.Window.{Window}
use Rattle.obq_host.specs.CellTurns.{Acts, ActsOnOwnCells, OnCells, OnThreads, tried_of}
use Rattle.obq_host.specs.Doing.{IdleAgain, IdleAtOne, IsIdle}
use Rattle.obq_host.specs.Endings.{EndingReads, kept_at}
use Rattle.obq_host.specs.Exports.{ExportsRead}
use Rattle.obq_host.specs.Meanings.{CellsRead, meaning_of}
use Rattle.obq_host.specs.NewCells.{NamesDifferIn}
use Rattle.obq_host.specs.OnCells.{ActsOnCells, CellActMeans}
use Rattle.obq_host.specs.Places.{IsWith, at_place}
use Rattle.obq_host.specs.Seen.{HeapIs}
use Rattle.obq_host.specs.Threads.{DueElse, PlainDue, due_at}
use Rattle.obq_host.specs.Turns.{ComesOf, IsRunningHere, OfWindow}
use Rattle.obq_host.specs.declared.host.Host.{Host}
use Rattle.obq_host.specs.declared.on_cells.CellAct.{CellAct}
use Rattle.obq_host.specs.declared.on_cells.CellAct.TheVariants as c
use Rattle.obq_host.proofs.Behind.{cells_mean, cells_size}
use Rattle.obq_host.proofs.Due.{names_due}
use Rattle.obq_host.proofs.Forms.{ByAct, ByStep, GoesSome, seen_goes}
use Rattle.obq_host.proofs.Placing.{put_back}
use Rattle.obq_host.proofs.Refocused.{same_window}
use Rattle.obq_host.proofs.Tried.{IsDueAt, no_step, tried_on_threads}
use Rattle.obq_model.specs.Step.{Found, Frame, Needs, Next, Operation, Self, find, self_at}
use Rattle.obq_model.specs.Terms.{Term}
use Rattle.obq_moves.specs.Store.{store}
use Rattle.obq_moves.specs.Views.{Shown, shown}
use Rattle.obq_site.specs.Cells.{PlainHeap, plain_heap}
use Rattle.obq_stands.specs.World as world
use Rattle.obq_stands.specs.World.{with_at}
use Rattle.obq_stands.proofs.Update.{with_at_same}
use Rattle.obq_windows.specs.Agrees.{Agrees}
use Rattle.obq_windows.specs.Trees.{PlainOperation}
use Rattle.obq_windows.specs.Values.{Table}
use Rattle.obq_windows.specs.Windows.{NodeAct, NodeAfter, NodeFocus}
use Rattle.obq_world.specs.Acts.{AgainWaits, AtCellWaits, DoesRow, Leaves, MakesCell, TriedCases, WaitsIn, same_endings, same_names}
use Rattle.obq_world.specs.Meaning.{IsBottom, NeedsAct}
use Rattle.obq_world.specs.declared.machine.Tried.{Tried}

-- ---- what the calls do

pub acts_on_own : (parts : List SourceCode) (old new : Host) (mid : List (Option Window)) (t born : ℕ) (act : CellAct) (v w : Window)
    → Some v ≡ at_place old.windows.items t → IsWith old.windows.items t None mid → ActsOnCells parts t old.heap born (shown v) (plain_heap new.heap) (shown w) act → (act ≡ c.Waits → w ≡ v) → IsWith mid t (Some w) new.windows.items → new.endings ≡ old.endings → new.names ≡ old.names
    → ActsOnOwnCells parts old t born act new
acts_on_own parts old new mid t born act v w there out acts same into endings names =
    record {
      window = w;
      acts = λ x here. subst (λ (z : Window). ActsOnCells parts t old.heap born (shown z) (plain_heap new.heap) (shown w) act) (same_window (at_place old.windows.items t) v x there here) acts;
      still = λ e. sym there ∙ ap Some (sym (same e));
      windows = put_back old.windows.items mid new.windows.items t w out into;
      endings = endings;
      names = names;
    }

pub on_threads : (parts : List SourceCode) (old new : Host) (t born threads : ℕ) (came : Option Tried) (tried : Tried) → ComesOf old t threads came new → came ≡ Some tried → Acts parts old t born threads new tried
on_threads parts old new t born threads came tried h e = OnThreads tried (subst (λ (z : Option Tried). ComesOf old t threads z new) e h)

pub on_cells : (parts : List SourceCode) (old mid new : Host) (t born threads : ℕ) (came : Option Tried) (act : CellAct) (tried : Tried) → ComesOf old t threads came mid → came ≡ None → ActsOnOwnCells parts mid t born act new → tried ≡ tried_of act
    → Acts parts old t born threads new tried
on_cells parts old mid new t born threads came act tried h e acts is =
    let none : (mid ≡ old) × OfWindow old t (λ s. due_at s.focus ≡ DueElse) = subst (λ (z : Option Tried). ComesOf old t threads z mid) e h in
    subst (λ (z : Tried). Acts parts old t born threads new z) (sym is) (OnCells act none.1 (subst (λ (z : Host). ActsOnOwnCells parts z t born act new) none.0 acts))

-- ---- the act that is due

abbrev IsElse : PlainDue → NodeFocus Ref → Type 0
IsElse due x = due ≡ DueElse → (op : PlainOperation Ref) × (after : NodeAfter) × (x ≡ NodeAct op after)

abbrev is_else : PlainDue → Bool
is_else DueElse = true
is_else due = false

else_form : (x : NodeFocus Ref) → IsElse (due_at x) x
else_form (NodeAct op after) e = (op, after, refl)
else_form x e = absurd (true≢false (sym (ap is_else e)))

needs_of : (found : Found world.Ref) → GoesSome found → NeedsAct found ⊎ IsBottom found → NeedsAct found
needs_of found goes (inl h) = h
needs_of _ (ByAct o around) (inr h) = (o, around, refl)
needs_of _ (ByStep u) (inr h) = no_bottom u h
  where
    no_bottom : (u : Term world.Ref) → IsBottom (Next u) → NeedsAct (Next u)
    no_bottom u h = elim h [ ]

-- ---- in the words of a World

cells_leave : (parts : List SourceCode) (T : Table Ref) (blocks : List BlockTree) → Agrees T (store parts) → (old new : Host) (t : ℕ) (w : Window) (heap behind : world.Heap) → HeapIs T (plain_heap new.heap) behind → IsWith old.windows.items t (Some w) new.windows.items → new.endings ≡ old.endings → new.names ≡ old.names
    → Leaves (meaning_of parts T blocks) old behind (with_at (at_place old.windows.items) t (Some w)) same_endings same_names new
cells_leave parts T blocks g old new t w heap behind is windows endings names =
    record { heap = record { agrees = g; cells = is }; windows = windows; ended = λ v o h. subst (λ z. EndingReads T (kept_at z.items v) o) (sym endings) h; names = λ exports h. subst (λ z. ExportsRead T z exports) (sym names) h }

pub waits_in : (parts : List SourceCode) (T : Table Ref) (blocks : List BlockTree) (s : Host) (h : world.Heap) (t : ℕ) (z : Self world.Ref) (o : Operation world.Ref) → IsIdle h t z o → WaitsIn (meaning_of parts T blocks) s h t z o
waits_in parts T blocks s h t z _ (IdleAtOne op r x at of there row) = AtCellWaits op r x at of there row
waits_in parts T blocks s h t z _ (IdleAgain o d guard x y at at2 there there2 row) = AgainWaits o d guard x y at at2 there there2 row

-- the window of thread t and the cells read back
pub record Readable (parts : List SourceCode) (T : Table Ref) (s : Host) (w : Window) : Type 0 where
  pub here : world.Heap
  pub depth : ℕ
  pub self : Self world.Ref
  pub term : Term world.Ref
  pub heap : CellsRead parts T s here
  pub reads : SeenAs parts T depth self (shown w) term

abbrev CameOf : List SourceCode → Host → ℕ → ℕ → CellAct → Host → Type 0
CameOf parts old t cells act new = OfWindow old t (λ s. due_at s.focus ≡ DueElse) × ActsOnOwnCells parts old t cells act new

-- the operation that stands next, and what the act is for it
record AtCells (parts : List SourceCode) (T : Table Ref) (old new : Host) (t cells a : ℕ) (self : Self world.Ref) (u : Term world.Ref) (heap : world.Heap) (w v : Shown) (act : CellAct) : Type 0 where
  operation : Operation world.Ref
  around : List (Frame world.Ref)
  next : find world.same_ref a self u ≡ Needs operation around
  means : CellActMeans parts T t a self heap operation around cells (plain_heap old.heap) w (plain_heap new.heap) v act

at_cells : (parts : List SourceCode) (T : Table Ref) (blocks : List BlockTree) (old new : Host) (t cells : ℕ) (act : CellAct) → IsDueAt parts T blocks old t → (h : CameOf parts old t cells act new) → (w : Window) → at_place old.windows.items t ≡ Some w
    → (heap : world.Heap) (a : ℕ) (self : Self world.Ref) (u : Term world.Ref) → CellsRead parts T old heap → SeenAs parts T a self (shown w) u → AtCells parts T old new t cells a self u heap (shown w) (shown h.1.window) act
at_cells parts T blocks old new t cells act due h w here heap a self u is k =
    let form = else_form (shown w).focus (h.0 w here) in
    let n : NeedsAct (find world.same_ref a self u) = needs_of (find world.same_ref a self u) (seen_goes parts T is.agrees a self (shown w) u k form.0 form.1 form.2) (due w here a self u k) in
    record {
      operation = n.0;
      around = n.1;
      next = n.2;
      means = cells_mean parts T is.agrees t old.heap cells (shown w) (plain_heap new.heap) (shown h.1.window) act (h.1.acts w here) heap is.cells a self u k n.0 n.1 n.2;
    }

same_cells : (T : Table Ref) (parts : List SourceCode) (old new : Host) (h : world.Heap) → plain_heap new.heap ≡ plain_heap old.heap → CellsRead parts T old h → CellsRead parts T new h
same_cells T parts old new h e is = record { agrees = is.agrees; cells = subst (λ (z : PlainHeap). HeapIs T z h) (sym e) is.cells }

pub tried_on_cells : (parts : List SourceCode) (T : Table Ref) (blocks : List BlockTree) (old new : Host) (t cells threads : ℕ) → (running : IsRunningHere old t) → IsDueAt parts T blocks old t → Readable parts T old running.0 → length old.heap.cells ≤ cells
    → (act : CellAct) → CameOf parts old t cells act new → TriedCases (meaning_of parts T blocks) old t cells threads (tried_of act) new
tried_on_cells parts T blocks old new t cells threads running due readable size (c.Did act) h = (
  λ w here heap a self u is k. let z = at_cells parts T blocks old new t cells (c.Did act) due h w here heap a self u is k in
      DoesRow z.operation z.around act.kind act.loc z.means.behind z.means.x h.1.window new z.next z.means.did z.means.reads (cells_leave parts T blocks is.agrees old new t h.1.window heap z.means.behind z.means.heap h.1.windows h.1.endings h.1.names),
  let n = cells_size parts t old.heap cells (shown running.0) new.heap (shown h.1.window) (c.Did act) (h.1.acts running.0 running.1) in omega (arith, n, size),
)
tried_on_cells parts T blocks old new t cells threads running due readable size (c.Made act) h = (
  λ w here heap a self u is k. let z = at_cells parts T blocks old new t cells (c.Made act) due h w here heap a self u is k in
      MakesCell z.operation z.around act.kind act.loc z.means.behind z.means.x h.1.window new z.next z.means.did z.means.reads (cells_leave parts T blocks is.agrees old new t h.1.window heap z.means.behind z.means.heap h.1.windows h.1.endings h.1.names),
  let n = cells_size parts t old.heap cells (shown running.0) new.heap (shown h.1.window) (c.Made act) (h.1.acts running.0 running.1) in omega (arith, n, size),
)
tried_on_cells parts T blocks old new t cells threads running due readable size c.Waits h =
    let z = at_cells parts T blocks old new t cells c.Waits due h running.0 running.1 readable.here readable.depth readable.self readable.term readable.heap readable.reads in
    let own : at_place old.windows.items t ≡ Some h.1.window = h.1.still refl in
    let there : at_place new.windows.items t ≡ Some h.1.window = h.1.windows t ∙ with_at_same (at_place old.windows.items) t (Some h.1.window) in (
      λ w here. record {
        heap = λ heap is. same_cells T parts old new heap z.means.same is;
        size = cells_size parts t old.heap cells (shown running.0) new.heap (shown h.1.window) c.Waits (h.1.acts running.0 running.1);
        windows = subst (λ (x : Window). IsWith old.windows.items t (Some x) new.windows.items) (same_window (at_place old.windows.items t) h.1.window w (sym own) here) h.1.windows;
        ended = λ v o k. subst (λ y. EndingReads T (kept_at y.items v) o) (sym h.1.endings) k;
        names = λ exports k. subst (λ y. ExportsRead T y exports) (sym h.1.names) k;
      },
      λ heap w a self u is here k. let old_here : at_place old.windows.items t ≡ Some w = own ∙ ap Some (same_window (at_place new.windows.items t) h.1.window w (sym there) here) in
          let y = at_cells parts T blocks old new t cells c.Waits due h w old_here heap a self u (same_cells T parts new old heap (sym z.means.same) is) k in
          (y.operation, y.around, y.next, waits_in parts T blocks new heap t (self_at self y.around) y.operation y.means.idle),
    )

pub acts_tried : (parts : List SourceCode) (T : Table Ref) (blocks : List BlockTree) (old new : Host) (t cells threads : ℕ) → (running : IsRunningHere old t) → IsDueAt parts T blocks old t → Readable parts T old running.0 → length old.heap.cells ≤ cells
    → (came : Tried) → Acts parts old t cells threads new came → TriedCases (meaning_of parts T blocks) old t cells threads came new
acts_tried parts T blocks old new t cells threads running due readable size _ (OnThreads came h) = tried_on_threads parts T blocks old new t cells threads running due size came h
acts_tried parts T blocks old new t cells threads running due readable size _ (OnCells act form h) = tried_on_cells parts T blocks old new t cells threads running due readable size act (form, h)

-- where an act is due, no object that is to be made has a name twice
pub names_ready : (parts : List SourceCode) (T : Table Ref) (blocks : List BlockTree) (s : Host) (t : ℕ) → IsDueAt parts T blocks s t → ((w : Window) → at_place s.windows.items t ≡ Some w → Readable parts T s w) → OfWindow s t (λ z. NamesDifferIn z.focus)
names_ready parts T blocks s t due readable w here =
    let r : Readable parts T s w = readable w here in
    names_due parts T r.heap.agrees (shown w) r.depth r.self r.term r.reads (no_step (find world.same_ref r.depth r.self r.term) (due w here r.depth r.self r.term r.reads))
