-- What a site tells, how it begins and how its threads run, in the words of a World.
use Rattle.std.specs.Prelude.{Bool, List, MatchBool, None, Option, Some, false, is_some, length, option_map, refl, true, ℕ, ◌≡◌}
use Rattle.std.proofs.Common.{ap, subst, sym, true≢false, ◌∙◌}
use Rattle.obq_base.specs.Tree.{BlockTree}
use Rattle.obq_base.specs.declared.code.SourceCode.{SourceCode}
use Rattle.obq_base.specs.declared.places.Ref.{Ref}
use Rattle.obq_except.specs.declared.windows.Window.{Window}
use Rattle.obq_heap.specs.Heap.{cell_at, placed_at}
use Rattle.obq_heap.specs.declared.cells.Cell.{Cell}
use Rattle.obq_heap.specs.declared.cells.Placed.{Placed}
use Rattle.obq_host.specs.Endings.{EndingReads, PlainEnding, PlainFailed, PlainReturned, kept_at}
use Rattle.obq_host.specs.Exports.{ExportsRead}
use Rattle.obq_host.specs.Meanings.{CellsRead, meaning_of}
use Rattle.obq_host.specs.Places.{IsWith, at_place}
use Rattle.obq_host.specs.Running.{StopSays}
use Rattle.obq_host.specs.Seen.{HeapIs, seen_placed}
use Rattle.obq_host.specs.Stops.{LastIs}
use Rattle.obq_host.specs.Turns.{IsRunningHere, RunsHere, SameElse, how_of, text_in, the_writer}
use Rattle.obq_host.specs.declared.host.Host.{Host}
use Rattle.obq_host.proofs.Standing.{seen_at}
use Rattle.obq_answers.specs.Worlds.{seen, seen_cell}
use Rattle.obq_model.specs.Cells.{written}
use Rattle.obq_model.specs.Step.{Self, find}
use Rattle.obq_model.specs.Terms.{Term}
use Rattle.obq_moves.specs.Store.{store}
use Rattle.obq_moves.specs.Views.{shown}
use Rattle.obq_site.specs.Cells.{plain_cell, plain_heap, plain_placed}
use Rattle.obq_stands.specs.World as world
use Rattle.obq_windows.specs.Agrees.{Agrees}
use Rattle.obq_windows.specs.Values.{Table}
use Rattle.obq_windows.specs.Windows.{NodeAct, NodeCall, NodeFocus, NodeItems, NodeMake, NodeMethod, NodeRaising, NodeRun, NodeUnmet, NodeValue}
use Rattle.obq_world.specs.Acts.{IsEndedSo, IsRunOn, Rewinds, TellsEnding, TellsText}
use Rattle.obq_world.specs.Meaning.{ByRaising, ByValue, IsBottom, IsRunning, Says}
use Rattle.obq_world.specs.declared.machine.HowEnded.{HowEnded}
use Rattle.obq_world.specs.declared.machine.Slice.{Slice}
use Rattle.obq_world.specs.declared.machine.Stop.{Stop}
use Rattle.obq_world.specs.declared.machine.Stop.TheVariants as stop

-- ---- what is told

some_window : (o : Option Window) (b : Bool) → b ≡ is_some o → MatchBool b ((w : Window) × (o ≡ Some w)) ((w : Window) × (o ≡ Some w) → ⊥)
some_window (Some w) true e = (w, refl)
some_window None false e = λ h. absurd (true≢false (sym (ap is_some h.1)))
some_window (Some w) false e = absurd (true≢false (sym e))
some_window None true e = absurd (true≢false e)

pub tells_running : (parts : List SourceCode) (T : Table Ref) (blocks : List BlockTree) (s : Host) (t : ℕ) (b : Bool) → b ≡ is_some (at_place s.windows.items t)
    → MatchBool b (IsRunning (meaning_of parts T blocks) s t) (IsRunning (meaning_of parts T blocks) s t → ⊥)
tells_running parts T blocks s t b e = some_window (at_place s.windows.items t) b e

tells : (T : Table Ref) (kept : Option PlainEnding) (o : Option world.Ending) → EndingReads T kept o → IsEndedSo (option_map how_of kept) o
tells T None o h = subst (λ (z : Option world.Ending). IsEndedSo None z) (sym h) tt
tells T (Some (PlainReturned v)) o h = subst (λ (z : Option world.Ending). IsEndedSo (Some (how_of (PlainReturned v))) z) (sym h.0) tt
tells T (Some (PlainFailed text)) o h = subst (λ (z : Option world.Ending). IsEndedSo (Some (how_of (PlainFailed text))) z) (sym h) tt

pub tells_ending : (parts : List SourceCode) (T : Table Ref) (blocks : List BlockTree) (s : Host) (t : ℕ) (h : Option HowEnded) → h ≡ option_map how_of (kept_at s.endings.items t) → TellsEnding (meaning_of parts T blocks) s t h
tells_ending parts T blocks s t h e o reads = subst (λ (z : Option HowEnded). IsEndedSo z o) (sym e) (tells T (kept_at s.endings.items t) o reads)

written_is : (T : Table Ref) (cell : Cell) → text_in (Some cell) ≡ written (Some (seen_cell T (plain_cell cell)))
written_is T (Cell.Writer bytes) = refl
written_is T (Cell.Object flags owner fields) = refl
written_is T (Cell.Array vs) = refl
written_is T (Cell.Variable v) = refl
written_is T (Cell.Condition line) = refl
written_is T (Cell.Engine v) = refl

written_in : (T : Table Ref) (p : Option Placed) (x : world.Born) → option_map (seen_placed T) (option_map plain_placed p) ≡ Some x → text_in (option_map (λ (z : Placed). z.cell) p) ≡ written (Some x.cell)
written_in T None x e = absurd (true≢false (sym (ap is_some e)))
written_in T (Some p) x e = written_is T p.cell ∙ ap (λ (o : Option world.Born). written (option_map (λ (z : world.Born). z.cell) o)) e

pub tells_text : (parts : List SourceCode) (T : Table Ref) (blocks : List BlockTree) (s : Host) (text : _) → text ≡ text_in (cell_at s.heap the_writer) → TellsText (meaning_of parts T blocks) s text
tells_text parts T blocks s text e h x is there = e ∙ written_in T (placed_at s.heap the_writer) x (sym (seen_at T s.heap the_writer) ∙ sym (is.cells.reads (seen the_writer)) ∙ there)

-- ---- pure steps

says : (parts : List SourceCode) (T : Table Ref) (a : ℕ) (self : Self world.Ref) (w : Window) (t : Term world.Ref) (why : Stop) → StopSays parts T a self (shown w) t why → Says why (find world.same_ref a self t)
says parts T a self w t stop.Most h = tt
says parts T a self w t stop.Needs h = (h.there.needed, h.there.around, h.there.form.next)
says parts T a self w t stop.Bottom h = last (shown w).focus h.1
  where
    last : (x : NodeFocus Ref) → LastIs T (find world.same_ref a self t) x → IsBottom (find world.same_ref a self t)
    last (NodeValue v) k = subst IsBottom (sym k.0) (ByValue _)
    last (NodeRaising r) k = subst IsBottom (sym k) (ByRaising r)
    last (NodeRun at height) k = absurd k
    last (NodeItems at left height) k = absurd k
    last (NodeUnmet text child lasts height) k = absurd k
    last (NodeMethod v x at height) k = absurd k
    last (NodeMake flags done) k = absurd k
    last (NodeCall f vs) k = absurd k
    last (NodeAct op after) k = absurd k

pub same_heap : (parts : List SourceCode) (T : Table Ref) (old new : Host) → new.heap ≡ old.heap → (h : world.Heap) → CellsRead parts T old h → CellsRead parts T new h
same_heap parts T old new e h is = record { agrees = is.agrees; cells = subst (λ z. HeapIs T (plain_heap z) h) (sym e) is.cells }

pub rewinds : (parts : List SourceCode) (T : Table Ref) (blocks : List BlockTree) (old new : Host) (t : ℕ) (w : Window) → IsWith old.windows.items t (Some w) new.windows.items → SameElse old new → Rewinds (meaning_of parts T blocks) old t w new
rewinds parts T blocks old new t w windows same =
    record {
      heap = same_heap parts T old new same.heap;
      size = ap (λ z. length z.cells) same.heap;
      windows = windows;
      ended = λ v o h. subst (λ z. EndingReads T (kept_at z.items v) o) (sym same.endings) h;
      names = λ exports h. subst (λ z. ExportsRead T z exports) (sym same.names) h;
    }

pub runs_on : (parts : List SourceCode) (T : Table Ref) (blocks : List BlockTree) → Agrees T (store parts) → (old new : Host) (t most : ℕ) (slice : Slice) → RunsHere parts old t most slice new → IsRunningHere old t → IsRunOn (meaning_of parts T blocks) old t most slice new
runs_on parts T blocks g old new t most slice h running =
    record {
      few = h.few;
      window = h.window;
      runs = λ w here. (h.runs w here).runs T g;
      stops = λ a self u k. says parts T a self h.window u slice.stop ((h.runs running.0 running.1).stops T g a self u k);
      rewinds = rewinds parts T blocks old new t h.window h.windows h.same;
    }
