-- What codes, windows and a site mean, under a table of the program's procedures.
use Rattle.std.specs.Prelude.{List, Some, [], length, slice_get, ℕ, ◌≡◌}
use Rattle.obq_base.specs.Tree.{BlockTree}
use Rattle.obq_base.specs.declared.code.CodeNo.{CodeNo}
use Rattle.obq_base.specs.declared.code.SourceCode.{SourceCode}
use Rattle.obq_base.specs.declared.places.Ref.{Ref}
use Rattle.obq_except.specs.declared.windows.Window.{Window}
use Rattle.obq_host.specs.Endings.{EndingReads, kept_at}
use Rattle.obq_host.specs.Exports.{ExportsRead}
use Rattle.obq_host.specs.Places.{at_place}
use Rattle.obq_host.specs.declared.host.Host.{Host}
use Rattle.obq_model.specs.Occurrences.{unbound}
use Rattle.obq_model.specs.Procedures.{main_proc}
use Rattle.obq_moves.specs.Store.{store}
use Rattle.obq_moves.specs.Views.{shown}
use Rattle.obq_answers.specs.Worlds.{SeenAs}
use Rattle.obq_host.specs.Seen.{HeapIs}
use Rattle.obq_site.specs.Cells.{plain_heap}
use Rattle.obq_stands.specs.World as world
use Rattle.obq_windows.specs.Agrees.{Agrees}
use Rattle.obq_windows.specs.Values.{Table}
use Rattle.obq_world.specs.Meaning.{Meaning}

-- the procedure of a source's code
pub record IsMain (T : Table Ref) (number : CodeNo) (source : ℕ) (tree : BlockTree) : Type 0 where
  pub procedure : T.procs number ≡ Some (main_proc source tree)
  pub bound : unbound tree ≡ []

-- the codes of these blocks
pub record AreCodes (parts : List SourceCode) (T : Table Ref) (blocks : List BlockTree) (codes : List SourceCode) : Type 0 where
  pub same : codes ≡ parts
  pub agrees : Agrees T (store parts)
  pub mains : (source : ℕ) (tree : BlockTree) → slice_get blocks source ≡ Some tree → (part : SourceCode) × (slice_get parts source ≡ Some part) × IsMain T part.main source tree

-- the cells read back as this heap, under a table that agrees with the codes
pub record CellsRead (parts : List SourceCode) (T : Table Ref) (s : Host) (h : world.Heap) : Type 0 where
  pub agrees : Agrees T (store parts)
  pub cells : HeapIs T (plain_heap s.heap) h

abbrev pub meaning_of : List SourceCode → Table Ref → List BlockTree → Meaning (List SourceCode) Window Host
meaning_of parts T blocks = record {
  are_codes = AreCodes parts T blocks;
  reads = λ w a self t. SeenAs parts T a self (shown w) t;
  heap = λ s h. CellsRead parts T s h;
  size = λ s. length s.heap.cells;
  windows = λ s t. at_place s.windows.items t;
  ended = λ s v o. EndingReads T (kept_at s.endings.items v) o;
  names = λ s exports. ExportsRead T s.names exports;
}
