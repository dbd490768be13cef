-- A site that begins.
use Rattle.std.specs.Prelude.{Bool, List, None, Option, Some, [], false, if◌then◌else◌, length, nat_lt, option_map, refl, slice_get, suc, zero, ℕ, ◌&&◌, ◌==◌, ◌∷◌, ◌≡◌, ◌≤◌}
use Rattle.std.proofs.Common.{ap, arith, subst, sym, ◌∙◌}
use Rattle.std.proofs.lemmas.Bool.Decides.{nat_tests}
use Rattle.obq_base.specs.Tree.{BlockTree}
use Rattle.obq_base.specs.declared.code.SourceCode.{SourceCode}
use Rattle.obq_base.specs.declared.places.Ref.{Ref}
use Rattle.obq_except.specs.declared.windows.Window.{Window}
use Rattle.obq_host.specs.Endings.{EndingReads, kept_at}
use Rattle.obq_host.specs.Exports.{ExportsRead}
use Rattle.obq_host.specs.Meanings.{meaning_of}
use Rattle.obq_host.specs.Places.{at_place}
use Rattle.obq_host.specs.Seen.{HeapIs, heap_of, of_kind, seen_placed}
use Rattle.obq_host.specs.Turns.{IsBegun, first_heap}
use Rattle.obq_host.specs.declared.host.Host.{Host}
use Rattle.obq_model.specs.Store.{WriterCell}
use Rattle.obq_model.specs.Terms.{Array, Condition, Engine, LocKind, Object, Variable, Writer}
use Rattle.obq_moves.specs.Store.{store}
use Rattle.obq_site.specs.Cells.{PlainPlaced, plain_heap, placed_with}
use Rattle.obq_stands.specs.Events.{first_cell, writer_at}
use Rattle.obq_stands.specs.World as world
use Rattle.obq_stands.proofs.Update.{test_no}
use Rattle.obq_windows.specs.Agrees.{Agrees}
use Rattle.obq_windows.specs.Rows.{CompleteCell, PlainWriter}
use Rattle.obq_windows.specs.Values.{Table}
use Rattle.obq_world.specs.Acts.{BeginsWith}

abbrev only_cell : PlainPlaced
only_cell = placed_with (PlainWriter []) 0

no_zero : (n : ℕ) → suc n ≡ 0 → ⊥
no_zero n e = omega (arith, e)

not_first : (s : ℕ) → nat_lt (suc s) 1 ≡ false
not_first s = grind (arith, nat_tests)

-- the cell stands under its reference alone
one_cell : (T : Table Ref) (site index : ℕ) (kind : LocKind) → first_cell 1 (record { site = site; kind = kind; index = index }) ≡ heap_of T (plain_heap first_heap) (record { site = site; kind = kind; index = index })
one_cell T zero zero Writer = refl
one_cell T zero zero Object = refl
one_cell T zero zero Array = refl
one_cell T zero zero Variable = refl
one_cell T zero zero Condition = refl
one_cell T zero zero Engine = refl
one_cell T zero (suc n) Writer = ap (λ (b : Bool). if b then Some (record { born = 0; cell = WriterCell [] }) else None) (test_no (suc n) 0 (no_zero n))
one_cell T zero (suc n) Object = refl
one_cell T zero (suc n) Array = refl
one_cell T zero (suc n) Variable = refl
one_cell T zero (suc n) Condition = refl
one_cell T zero (suc n) Engine = refl
one_cell T (suc s) n kind =
    ap (λ (b : Bool). if b && world.same_ref (record { site = suc s; kind = kind; index = n }) (writer_at (suc s)) then Some (record { born = suc s; cell = WriterCell [] }) else None) (not_first s)
    ∙ sym (ap (λ (b : Bool). if b then option_map (seen_placed T) (of_kind kind (slice_get (only_cell ∷ []) n)) else None) (test_no 0 (suc s) (λ e. no_zero s (sym e))))

cells_complete : (T : Table Ref) (n : ℕ) (p : PlainPlaced) → slice_get (only_cell ∷ []) n ≡ Some p → CompleteCell T p.cell
cells_complete T zero p e = subst (λ (z : Option PlainPlaced). CompleteMaybeCell T z) e tt
  where
    CompleteMaybeCell : Table Ref → Option PlainPlaced → Type 0
    CompleteMaybeCell T None = Unit {0}
    CompleteMaybeCell T (Some q) = CompleteCell T q.cell
cells_complete T (suc n) p e = absurd (cc e)

first_reads : (T : Table Ref) → HeapIs T (plain_heap first_heap) (first_cell 1)
first_reads T = record { reads = λ r. one_cell T r.site r.index r.kind; complete = cells_complete T; site = refl }

window_at : (w : Window) (u : ℕ) → at_place (Some w ∷ []) u ≡ (if u == 0 then Some w else None)
window_at w zero = refl
window_at w (suc u) = sym (ap (λ (b : Bool). if b then Some w else None) (test_no (suc u) 0 (no_zero u)))

pub begins_with : (parts : List SourceCode) (T : Table Ref) (blocks : List BlockTree) → Agrees T (store parts) → (w : Window) (s : Host) → IsBegun w s → BeginsWith (meaning_of parts T blocks) w s
begins_with parts T blocks g w s h =
    record {
      heap = record { agrees = g; cells = subst (λ z. HeapIs T (plain_heap z) (first_cell 1)) (sym h.heap) (first_reads T) };
      size = subst (λ z. length z.cells ≤ 1) (sym h.heap) (omega arith);
      windows = λ u. ap (λ z. at_place z u) h.windows ∙ window_at w u;
      ended = λ v. subst (λ z. EndingReads T (kept_at z v) None) (sym h.endings) refl;
      names = subst (λ z. ExportsRead T z []) (sym h.names) (record { reads = refl; complete = tt });
    }
