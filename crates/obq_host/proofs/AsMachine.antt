-- The calls of a site in the words of a World.
use Rattle.std.specs.Prelude.{Bool, IsTrue, List, MatchBool, None, Option, Some, [], is_none, is_some, option_map, refl, slice_get, unwrap_or, length, ℕ, ◌≡◌, ◌≤◌, true, false, ◌||◌, ◌+◌, ◌^◌, ◌⊎◌, ◌<◌}
use Rattle.std.proofs.Common.{ap, arith, subst, sym, true≢false, ◌∙◌, inl, inr}
use Rattle.obq_base.specs.Tree.{BlockTree}
use Rattle.obq_base.specs.declared.code.CodeNo.{CodeNo}
use Rattle.obq_base.specs.declared.code.SourceCode.{SourceCode}
use Rattle.obq_base.specs.declared.places.Ref.{Ref}
use Rattle.obq_except.specs.declared.windows.Window.{Window}
use Rattle.obq_host.specs.Endings.{PlainEnding, kept_at}
use Rattle.obq_host.specs.Exports.{seeks_at, seeks_in, value_at}
use Rattle.obq_host.specs.Meanings.{AreCodes, meaning_of}
use Rattle.obq_host.specs.Places.{at_place}
use Rattle.obq_host.specs.Running.{OpensSo}
use Rattle.obq_host.specs.Threads.{DueImport, DueJoin, PlainDue, awaited, due_at, sought}
use Rattle.obq_host.specs.Turns.{IsBegun, IsRunningHere, OfWindow, RunsHere, awaits_at, awaits_in}
use Rattle.obq_host.specs.declared.host.Host.{Host}
use Rattle.obq_host.proofs.Begun.{begins_with}
use Rattle.obq_host.proofs.Told.{runs_on, tells_running}
use Rattle.obq_host.proofs.Tried.{IsDueAt, awaits, seeks}
use Rattle.obq_host.proofs.Due.{waits_mean}
use Rattle.obq_host.proofs.OwnCells.{Readable, acts_tried, names_ready, waits_in}
use Rattle.obq_host.specs.CellTurns.{Acts, is_known_to_wait, waits_at_cells, waits_of}
use Rattle.obq_host.specs.NewCells.{NamesDifferIn}
use Rattle.obq_model.specs.Step.{self_at}
use Rattle.obq_model.specs.Opening.{block_term}
use Rattle.obq_model.proofs.NaturalOpening.{natural_opening}
use Rattle.obq_moves.specs.Views.{shown}
use Rattle.obq_stands.specs.Events.{writer_at}
use Rattle.obq_model.specs.Terms.{Bytes}
use Rattle.obq_windows.specs.Values.{PlainValue, Table}
use Rattle.obq_world.specs.Acts.{Begins, CanAct, IsRunOn, TriedCases, WaitsHere}
use Rattle.obq_world.specs.Meaning.{IsRunning}
use Rattle.obq_world.specs.declared.machine.Slice.{Slice}
use Rattle.obq_world.specs.declared.machine.Tried.{Tried}

abbrev main_of : Option SourceCode → CodeNo
main_of part = unwrap_or (option_map (λ (z : SourceCode). z.main) part) (record { source = 0; n = 0 })

pub begins : (parts : List SourceCode) (T : Table Ref) (blocks : List BlockTree) (codes : List SourceCode) → AreCodes parts T blocks codes → (number : CodeNo) → number ≡ main_of (slice_get codes 0)
    → (w : Window) → OpensSo number (shown w) → (s : Host) → IsBegun w s → Begins (meaning_of parts T blocks) blocks s
begins parts T blocks codes are number is w opens s begun = (
  w,
  λ tree at. let part = are.mains 0 tree at in (
    block_term (writer_at 0) [] tree,
    opens parts T are.agrees 0 (omega arith) tree
        (ap T.procs (is ∙ ap (λ (z : List SourceCode). main_of (slice_get z 0)) are.same ∙ ap main_of part.1) ∙ part.2.procedure) part.2.bound,
    λ f e. natural_opening f (writer_at 0) [] tree ∙ ap (λ (n : ℕ). block_term n [] tree) e,
  ),
  begins_with parts T blocks are.agrees w s begun,
)

-- what holds of the host inside holds of the site that shows it
pub runs : (parts : List SourceCode) (T : Table Ref) (blocks : List BlockTree) (codes : List SourceCode) → AreCodes parts T blocks codes → (now own new : Host) → now ≡ own → (t most : ℕ) (slice : Slice) → (IsRunningHere own t → RunsHere codes own t most slice new) → IsRunningHere now t
    → IsRunOn (meaning_of parts T blocks) now t most slice new
runs parts T blocks codes are now own new view t most slice h running =
    let there : IsRunningHere own t = subst (λ (z : Host). IsRunningHere z t) view running in
    subst (λ (z : Host). IsRunOn (meaning_of parts T blocks) z t most slice new) (sym view)
    (runs_on parts T blocks are.agrees own new t most slice (subst (λ (z : List SourceCode). RunsHere z own t most slice new) are.same (h there)) there)

pub told_running : (parts : List SourceCode) (T : Table Ref) (blocks : List BlockTree) (now own : Host) → now ≡ own → (t : ℕ) (b : Bool) → b ≡ is_some (at_place own.windows.items t)
    → MatchBool b (IsRunning (meaning_of parts T blocks) now t) (IsRunning (meaning_of parts T blocks) now t → ⊥)
told_running parts T blocks now own view t b e =
    subst (λ (z : Host). MatchBool b (IsRunning (meaning_of parts T blocks) z t) (IsRunning (meaning_of parts T blocks) z t → ⊥)) (sym view) (tells_running parts T blocks own t b e)

readable_by : (parts : List SourceCode) (T : Table Ref) (blocks : List BlockTree) (threads : ℕ) (s : Host) (t : ℕ) (w : Window) → CanAct (meaning_of parts T blocks) blocks threads s t w → Readable parts T s w
readable_by parts T blocks threads s t w can = record { here = can.here; depth = can.depth; self = can.self; term = can.term; heap = can.heap; reads = can.reads }

pub acted : (parts : List SourceCode) (T : Table Ref) (blocks : List BlockTree) (codes : List SourceCode) → AreCodes parts T blocks codes → (now own new : Host) → now ≡ own → (t cells threads : ℕ) → IsRunningHere now t → IsDueAt parts T blocks now t
    → ((w : Window) → at_place now.windows.items t ≡ Some w → CanAct (meaning_of parts T blocks) blocks threads now t w) → length now.heap.cells ≤ cells → (tried : Tried) → Acts codes own t cells threads new tried
    → TriedCases (meaning_of parts T blocks) now t cells threads tried new
acted parts T blocks codes are now own new view t cells threads running due can size tried h =
    acts_tried parts T blocks now new t cells threads running due (readable_by parts T blocks threads now t running.0 (can running.0 running.1)) size tried
    (subst (λ (z : List SourceCode). Acts z now t cells threads new tried) are.same (subst (λ (z : Host). Acts codes z t cells threads new tried) (sym view) h))

pub ready : (parts : List SourceCode) (T : Table Ref) (blocks : List BlockTree) (now own : Host) → now ≡ own → (t threads : ℕ) → IsDueAt parts T blocks now t → ((w : Window) → at_place now.windows.items t ≡ Some w → CanAct (meaning_of parts T blocks) blocks threads now t w)
    → OfWindow own t (λ z. NamesDifferIn z.focus)
ready parts T blocks now own view t threads due can =
    subst (λ (z : Host). OfWindow z t (λ y. NamesDifferIn y.focus)) view (names_ready parts T blocks now t due (λ w here. readable_by parts T blocks threads now t w (can w here)))

pub has_room : (now own : Host) → now ≡ own → (cells : ℕ) → length now.heap.cells ≤ cells → cells + 1 < 2 ^ 32 → length own.heap.cells < 2 ^ 32
has_room now own view cells few room = subst (λ (z : Host). length z.heap.cells < 2 ^ 32) view (omega arith)

-- ---- threads that wait for others

none_found : (o : Option (PlainValue Ref)) → IsTrue (is_none o) → o ≡ None
none_found None h = refl
none_found (Some v) h = absurd (true≢false (sym h))

is_none_of : (o : Option PlainEnding) → IsTrue (is_none o) → o ≡ None
is_none_of None h = refl
is_none_of (Some kept) h = absurd (true≢false (sym h))

joins_in : (kept : ℕ → Option PlainEnding) (due : PlainDue) → IsTrue (awaits_in kept (awaited due)) → (v : ℕ) × (due ≡ DueJoin v) × (kept v ≡ None)
joins_in kept (DueJoin v) h = (v, refl, is_none_of (kept v) h)
joins_in kept due h = absurd (true≢false (sym h))

same_shown : (o : Option Window) (w x : Window) → o ≡ Some w → o ≡ Some x → w ≡ x
same_shown o w x e f = cc (e, f)

waits_own : (parts : List SourceCode) (T : Table Ref) (blocks : List BlockTree) (s : Host) (t : ℕ) (b : Bool) → b ≡ awaits_at (kept_at s.endings.items) (option_map shown (at_place s.windows.items t)) → IsRunningHere s t → IsTrue b
    → WaitsHere (meaning_of parts T blocks) s t
waits_own parts T blocks s t b e running h =
    let at : IsTrue (awaits_in (kept_at s.endings.items) (awaited (due_at (shown running.0).focus))) =
    subst IsTrue (e ∙ ap (λ (o : Option Window). awaits_at (kept_at s.endings.items) (option_map shown o)) running.1) h in
    let joins = joins_in (kept_at s.endings.items) (due_at (shown running.0).focus) at in
    awaits parts T blocks s t joins.0 (λ w here. subst (λ (z : Window). due_at (shown z).focus ≡ DueJoin joins.0) (same_shown (at_place s.windows.items t) running.0 w running.1 here) joins.1) joins.2

seeks_some : (due : PlainDue) (found : Bytes → Option (PlainValue Ref)) → IsTrue (seeks_in found (sought due)) → (x : Bytes) × (engine : Bool) × (due ≡ DueImport x engine) × (found x ≡ None)
seeks_some (DueImport x engine) found h = (x, engine, refl, none_found (found x) h)
seeks_some due found h = absurd (true≢false (sym h))

waits_name : (parts : List SourceCode) (T : Table Ref) (blocks : List BlockTree) (s : Host) (t : ℕ) → IsRunningHere s t → seeks_at (value_at s.names) (option_map shown (at_place s.windows.items t)) ≡ true → WaitsHere (meaning_of parts T blocks) s t
waits_name parts T blocks s t running e =
    let at : IsTrue (seeks_in (value_at s.names) (sought (due_at (shown running.0).focus))) = sym (ap (λ (o : Option Window). seeks_at (value_at s.names) (option_map shown o)) running.1) ∙ e in
    let x = seeks_some (due_at (shown running.0).focus) (value_at s.names) at in
    seeks parts T blocks s t x.0 x.1 (λ w here. subst (λ (z : Window). due_at (shown z).focus ≡ DueImport x.0 x.1) (same_shown (at_place s.windows.items t) running.0 w running.1 here) x.2) x.3

waits_cells : (parts : List SourceCode) (T : Table Ref) (blocks : List BlockTree) (s : Host) (t : ℕ) → IsRunningHere s t → waits_at_cells s t ≡ true → WaitsHere (meaning_of parts T blocks) s t
waits_cells parts T blocks s t running e h w a self u is here k =
    let z = waits_mean parts T is.agrees t s.heap (shown w) (sym (ap (waits_of t s.heap) here) ∙ e) h is.cells a self u k in
    (z.0, z.1, z.2, waits_in parts T blocks s h t (self_at self z.1) z.0 z.3)

either : (a b : Bool) → (a || b) ≡ true → (a ≡ true) ⊎ (b ≡ true)
either true b e = inl refl
either false b e = inr e

pub waits : (parts : List SourceCode) (T : Table Ref) (blocks : List BlockTree) (now own : Host) → now ≡ own → (t : ℕ) (b : Bool) → (IsTrue b → IsTrue (is_known_to_wait own t)) → IsRunningHere now t → IsTrue b
    → WaitsHere (meaning_of parts T blocks) now t
waits parts T blocks now own view t b e running h =
    subst (λ (z : Host). WaitsHere (meaning_of parts T blocks) z t) (sym view) (by (either (awaits_at (kept_at own.endings.items) (option_map shown (at_place own.windows.items t)) || seeks_at (value_at own.names) (option_map shown (at_place own.windows.items t))) (waits_at_cells own t) (e h)))
  where
    there : IsRunningHere own t
    there = subst (λ (z : Host). IsRunningHere z t) view running

    on_threads : (awaits_at (kept_at own.endings.items) (option_map shown (at_place own.windows.items t)) ≡ true) ⊎ (seeks_at (value_at own.names) (option_map shown (at_place own.windows.items t)) ≡ true) → WaitsHere (meaning_of parts T blocks) own t
    on_threads (inl x) = waits_own parts T blocks own t true (sym x) there refl
    on_threads (inr x) = waits_name parts T blocks own t there x

    by : ((awaits_at (kept_at own.endings.items) (option_map shown (at_place own.windows.items t)) || seeks_at (value_at own.names) (option_map shown (at_place own.windows.items t))) ≡ true) ⊎ (waits_at_cells own t ≡ true) → WaitsHere (meaning_of parts T blocks) own t
    by (inl x) = on_threads (either (awaits_at (kept_at own.endings.items) (option_map shown (at_place own.windows.items t))) (seeks_at (value_at own.names) (option_map shown (at_place own.windows.items t))) x)
    by (inr x) = waits_cells parts T blocks own t there x
