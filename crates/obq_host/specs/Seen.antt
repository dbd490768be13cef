-- The cells of a site as a World has them.
use Rattle.std.specs.Prelude.{None, Option, Some, if◌then◌else◌, option_map, slice_get, ℕ, ◌==◌, ◌≡◌}
use Rattle.obq_base.specs.declared.places.Ref.{Ref}
use Rattle.obq_builtin.specs.Reading.{kind_of}
use Rattle.obq_model.specs.Builtins.{kind_number}
use Rattle.obq_model.specs.Terms.{LocKind}
use Rattle.obq_answers.specs.Worlds.{seen_cell}
use Rattle.obq_site.specs.Cells.{PlainHeap, PlainPlaced}
use Rattle.obq_site.specs.Making.{kind_for}
use Rattle.obq_stands.specs.World as world
use Rattle.obq_windows.specs.Rows.{CompleteCell}
use Rattle.obq_windows.specs.Values.{Table}

-- a cell with the number of its allocation
abbrev pub seen_placed : Table Ref → PlainPlaced → world.Born
seen_placed T p = record { born = p.born; cell = seen_cell T p.cell }

-- the cell, if it has this kind
abbrev pub of_kind : LocKind → Option PlainPlaced → Option PlainPlaced
of_kind kind None = None
of_kind kind (Some p) = if kind_number (kind_of (kind_for p.cell)) == kind_number kind then Some p else None

-- The heap that cells read back as: under a reference whose site, place and kind are those of a cell stands that cell, and under all others nothing.
abbrev pub heap_of : Table Ref → PlainHeap → world.Heap
heap_of T h r = if h.site.0 == r.site then option_map (seen_placed T) (of_kind r.kind (slice_get h.cells r.index)) else None

-- the cells of the only site read back as this heap
pub record HeapIs (T : Table Ref) (cells : PlainHeap) (h : world.Heap) : Type 0 where
  pub reads : (r : world.Ref) → h r ≡ heap_of T cells r
  pub complete : (n : ℕ) (p : PlainPlaced) → slice_get cells.cells n ≡ Some p → CompleteCell T p.cell
  pub site : cells.site.0 ≡ 0
