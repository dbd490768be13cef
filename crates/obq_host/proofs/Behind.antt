-- Acts on cells are those of a World, and how many cells there are behind them.
use Rattle.std.specs.Prelude.{List, None, Option, Some, length, map, suc, ℕ, ◌≡◌}
use Rattle.std.proofs.Common.{ap, sym, ◌∙◌}
use Rattle.obq_base.specs.declared.acts.Act.{Act}
use Rattle.obq_base.specs.declared.code.SourceCode.{SourceCode}
use Rattle.obq_base.specs.declared.places.Ref.{Ref}
use Rattle.obq_heap.specs.Heap.{Heap, placed_at}
use Rattle.obq_heap.specs.declared.cells.Placed.{Placed}
use Rattle.obq_host.specs.Acting.{CameTo}
use Rattle.obq_host.specs.OnCells.{CellsMean, CellsSize, OnNew, OnOne, OnWatch}
use Rattle.obq_host.proofs.Meant.{again_means, new_means, one_means}
use Rattle.obq_host.proofs.Standing.{map_length}
use Rattle.obq_model.proofs.Slices.{push_length, set_length}
use Rattle.obq_moves.specs.Views.{Shown}
use Rattle.obq_site.specs.Cells.{PlainHeap, left_at, placed_with, plain_heap, plain_placed}
use Rattle.obq_windows.specs.Rows.{PlainCell, PlainEnds, PlainOutcome, PlainWaits}
use Rattle.obq_windows.specs.Trees.{PlainOperation, PlainAgain}
use Rattle.obq_windows.specs.Windows.{NodeAfter}

pub cells_mean : CellsMean
cells_mean parts T g t cells count old left new _ (OnOne None k) h i a self u like o around next = one_means parts T g t cells old None left new k h i a self u like o around next count
cells_mean parts T g t cells count old left new _ (OnOne (Some act) k) h i a self u like o around next = one_means parts T g t cells old (Some act) left new k h i a self u like o around next count
cells_mean parts T g t cells count old left new _ (OnWatch None k) h i a self u like o around next = again_means parts T g t cells old None left new k h i a self u like o around next count
cells_mean parts T g t cells count old left new _ (OnWatch (Some act) k) h i a self u like o around next = again_means parts T g t cells old (Some act) left new k h i a self u like o around next count
cells_mean parts T g t cells count old left new _ (OnNew done k) h i a self u like o around next = new_means parts T g cells count old done left new k h i a self u like o around next t

-- ---- how many cells there are

abbrev size : PlainHeap → ℕ
size h = length h.cells

left_size : (cells : Heap) (n : ℕ) (o : Option Placed) (left : Option (PlainCell Ref)) → size (left_at cells n o left) ≡ length cells.cells
left_size cells n None left = map_length plain_placed cells.cells
left_size cells n (Some p) None = map_length plain_placed cells.cells
left_size cells n (Some p) (Some cell) = set_length (map plain_placed cells.cells) n (placed_with cell p.born) ∙ map_length plain_placed cells.cells

came_size : (parts : List SourceCode) (op : PlainOperation Ref) (after : NodeAfter) (cells : Heap) (r : Ref) (born : ℕ) (old : Shown) (outcome : PlainOutcome Ref) (made : Option Act) (left : PlainHeap) (new : Shown)
    → CameTo parts op after cells r born old outcome made left new → size left ≡ length cells.cells
came_size parts op after cells r born old PlainWaits made left new k = ap size k.1 ∙ map_length plain_placed cells.cells
came_size parts op after cells r born old (PlainEnds kind cell answer) made left new k = ap size k.1 ∙ left_size cells r.n (placed_at cells r) cell

size_of : (h : Heap) → length h.cells ≡ size (plain_heap h)
size_of h = sym (map_length plain_placed h.cells)

pub cells_size : CellsSize
cells_size parts t cells born old left new _ (OnOne None k) = size_of left ∙ came_size parts k.op k.after cells k.r k.placed.born old _ None (plain_heap left) new k.came
cells_size parts t cells born old left new _ (OnOne (Some act) k) = size_of left ∙ came_size parts k.op k.after cells k.r k.placed.born old _ (Some act) (plain_heap left) new k.came
cells_size parts t cells born old left new _ (OnWatch None k) = size_of left ∙ came_size parts (PlainAgain k.object k.condition) k.after cells k.object k.placed.born old _ None (plain_heap left) new k.came
cells_size parts t cells born old left new _ (OnWatch (Some act) k) = size_of left ∙ came_size parts (PlainAgain k.object k.condition) k.after cells k.object k.placed.born old _ (Some act) (plain_heap left) new k.came
cells_size parts t cells born old left new _ (OnNew done k) = size_of left ∙ ap size k.left_is ∙ push_length (map plain_placed cells.cells) (placed_with k.cell born) ∙ ap suc (map_length plain_placed cells.cells)
