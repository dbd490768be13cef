-- Acts at one cell are those of a World.
use Rattle.obq_site.specs.Making.{next_ref}
use Rattle.obq_host.specs.Watching.{is_lined}
use Rattle.std.specs.Prelude.{List, None, Option, Some, [], option_map, refl, ℕ, ◌∷◌, ◌≡◌, Bool, false, true, if◌then◌else◌, not, ◌||◌, suc}
use Rattle.std.proofs.Common.{ap, inl, inr, subst, sym, ◌∙◌}
use Rattle.obq_base.specs.declared.acts.Act.{Act}
use Rattle.obq_base.specs.declared.acts.ActKind.{ActKind}
use Rattle.obq_base.specs.declared.code.SourceCode.{SourceCode}
use Rattle.obq_base.specs.declared.places.Ref.{Ref}
use Rattle.obq_heap.specs.Heap.{Heap, placed_at}
use Rattle.obq_heap.specs.declared.cells.Placed.{Placed}
use Rattle.obq_host.specs.Acting.{CameTo}
use Rattle.obq_host.specs.Doing.{IdleAtOne, Means, OneMeans, IdleAgain, AgainMeans, NewMeans, IsDone}
use Rattle.obq_host.specs.Seen.{HeapIs, seen_placed}
use Rattle.obq_host.proofs.Standing.{KindKept, kinds_same, left_reads, named, seen_at, made_reads}
use Rattle.obq_model.specs.Cells.{again_row, cell_row, after_new}
use Rattle.obq_model.specs.Effect.{in_line, line_of}
use Rattle.obq_model.specs.Maps.{map_operation}
use Rattle.obq_model.specs.OneCell.{RowLeaves, SameKind, behind, cell_of}
use Rattle.obq_model.specs.Step.{Again, Frame, Operation, Self, plug, self_at}
use Rattle.obq_model.specs.Store.{Cell}
use Rattle.obq_model.specs.Terms.{Term}
use Rattle.obq_model.proofs.OneCell.{leaves_cell}
use Rattle.obq_moves.specs.Store.{store}
use Rattle.obq_moves.specs.Store as held
use Rattle.obq_moves.specs.Views.{Shown}
use Rattle.obq_answers.proofs.SeenActs.{cell_seen, form_seen, retake_seen, new_seen}
use Rattle.obq_answers.specs.Worlds.{FormShows, RowSeen, SeenAs, SeenForm, seen, seen_cell, NewCellSeen}
use Rattle.obq_site.specs.Acts as site
use Rattle.obq_site.specs.Cells.{PlainHeap, plain_cell, plain_heap, plain_placed, one_more}
use Rattle.obq_site.specs.Outcomes.{left_of}
use Rattle.obq_stands.specs.Sites.{AtCell, Retook, Did, Made}
use Rattle.obq_stands.specs.Sites as sites
use Rattle.obq_stands.specs.World.{Born, Ends, Idle, Row, same_ref, with_ref}
use Rattle.obq_stands.specs.World as world
use Rattle.obq_windows.specs.Acts.{AnswerTest}
use Rattle.obq_windows.specs.Rows.{CompleteCell, PlainArray, PlainCell, PlainCondition, PlainEnds, PlainEngine, PlainObject, PlainOutcome, PlainVariable, PlainWaits, PlainWriter, again_plain, is_plain_free, plain_owned, plain_row}
use Rattle.obq_windows.specs.Trees.{PlainAgain, PlainBroadcast, PlainCloning, PlainEachItem, PlainEachSize, PlainExport, PlainForkOff, PlainGet, PlainGiveUp, PlainImport, PlainInvoke, PlainItemOf, PlainJoin, PlainLeave, PlainLineUp, PlainNewArray, PlainNewCondition, PlainNewEngine, PlainNewVariable, PlainOperation, PlainRead, PlainRedirect, PlainRunEngine, PlainSetAlias, PlainSetItem, PlainSetMethod, PlainSetValue, PlainSetVariable, PlainSignal, PlainSize, PlainWrite, read_operation}
use Rattle.obq_windows.specs.Values.{Table}
use Rattle.obq_windows.specs.Windows.{NodeAfter, node_params}

-- ---- the cell of an operation

cells_named : (T : Table Ref) (op : PlainOperation Ref) (scope : Term Ref) → cell_of (map_operation seen (read_operation T op scope)) ≡ option_map seen (site.cell_of op)
cells_named T (PlainGet o x) scope = refl
cells_named T (PlainRead r) scope = refl
cells_named T (PlainWrite w text) scope = refl
cells_named T (PlainSize r) scope = refl
cells_named T (PlainInvoke o x vs) scope = refl
cells_named T (PlainItemOf r i) scope = refl
cells_named T (PlainNewArray vs) scope = refl
cells_named T PlainNewCondition scope = refl
cells_named T (PlainNewVariable v) scope = refl
cells_named T (PlainSetVariable r v) scope = refl
cells_named T (PlainSetItem r i v) scope = refl
cells_named T (PlainSetValue o x v) scope = refl
cells_named T (PlainSetAlias o x q y) scope = refl
cells_named T (PlainSetMethod o x m) scope = refl
cells_named T (PlainRedirect o target) scope = refl
cells_named T (PlainLeave o k) scope = refl
cells_named T (PlainForkOff f) scope = refl
cells_named T (PlainRunEngine e f) scope = refl
cells_named T (PlainExport x namer v) scope = refl
cells_named T (PlainImport x namer engine) scope = refl
cells_named T (PlainNewEngine x namer v) scope = refl
cells_named T (PlainEachSize r) scope = refl
cells_named T (PlainEachItem r i n) scope = refl
cells_named T (PlainLineUp o c) scope = refl
cells_named T (PlainGiveUp o c) scope = refl
cells_named T (PlainAgain o c) scope = refl
cells_named T (PlainCloning first fields (o ∷ rest)) scope = refl
cells_named T (PlainCloning (Some flags) fields []) scope = refl
cells_named T (PlainCloning None fields []) scope = refl
cells_named T (PlainSignal c) scope = refl
cells_named T (PlainBroadcast c) scope = refl
cells_named T (PlainJoin t) scope = refl

-- ---- a cell that is there

-- for a World
pub there_seen : (T : Table Ref) (cells : Heap) (h : world.Heap) → HeapIs T (plain_heap cells) h → (r : Ref) (p : Placed) → placed_at cells r ≡ Some p → h (seen r) ≡ Some (seen_placed T (plain_placed p))
there_seen T cells h i r p e = i.reads (seen r) ∙ seen_at T cells r ∙ ap (λ (o : Option Placed). option_map (seen_placed T) (option_map plain_placed o)) e

pub is_complete : (T : Table Ref) (cells : Heap) (h : world.Heap) → HeapIs T (plain_heap cells) h → (r : Ref) (p : Placed) → placed_at cells r ≡ Some p → CompleteCell T (plain_cell p.cell)
is_complete T cells h i r p e = i.complete r.n (plain_placed p) (named cells r p e).there

pub is_here : (T : Table Ref) (cells : Heap) (h : world.Heap) → HeapIs T (plain_heap cells) h → (r : Ref) (p : Placed) → placed_at cells r ≡ Some p → r.site.0 ≡ 0
is_here T cells h i r p e = sym (named cells r p e).site ∙ i.site

-- ---- its kind stays

abbrev left_in_row : Row world.Ref → Option (Cell world.Ref)
left_in_row Idle = None
left_in_row (Ends kind left x) = left

kind_left : (T : Table Ref) (cell : PlainCell Ref) (left : Option (PlainCell Ref)) → SameKind (Some (seen_cell T cell)) (behind (Some (seen_cell T cell)) (option_map (seen_cell T) left)) → KindKept cell left
kind_left T cell None s = tt
kind_left T cell (Some c) s = kinds_same T cell c s

kind_kept : (T : Table Ref) (cell : PlainCell Ref) (t : ℕ) (o : Operation world.Ref) (kind : ActKind) (left : Option (PlainCell Ref)) (x : Term world.Ref) (row : Row world.Ref)
    → RowLeaves Ends Idle t o (Some (seen_cell T cell)) row → row ≡ Ends kind (option_map (seen_cell T) left) x → KindKept cell left
kind_kept T cell t o kind left x row (inl w) e = absurd (cc (w, e))
kind_kept T cell t o kind left x row (inr l) e =
    kind_left T cell left (subst (λ (z : Option (Cell world.Ref)). SameKind (Some (seen_cell T cell)) (behind (Some (seen_cell T cell)) z)) (ap left_in_row (sym l.4 ∙ e)) l.3.same_kind)

-- ---- the act

-- by what comes of it
by_row : (parts : List SourceCode) (T : Table Ref) (t a : ℕ) (self : Self world.Ref) (cells : Heap) (h : world.Heap) (i : HeapIs T (plain_heap cells) h) (op : PlainOperation Ref) (after : NodeAfter) (o : Operation world.Ref) (around : List (Frame world.Ref))
    → (r : Ref) (p : Placed) → placed_at cells r ≡ Some p → cell_of o ≡ Some (seen r) → (old : Shown) (outcome : PlainOutcome Ref)
    → RowSeen parts T a self old op after around outcome (cell_row same_ref Ends Idle t (self_at self around) o (Some (seen_cell T (plain_cell p.cell))))
    → (count : ℕ) (made : Option Act) (left : PlainHeap) (new : Shown) → CameTo parts op after cells r p.born old outcome made left new → Means parts T t a self h o around count count (plain_heap cells) old made left new
by_row parts T t a self cells h i op after o around r p there names old PlainWaits row count made left new came =
    subst (λ m. Means parts T t a self h o around count count (plain_heap cells) old m left new) (sym came.0) (record {
      idle = IdleAtOne o (seen r) (seen_placed T (plain_placed p)) (is_here T cells h i r p there) names (there_seen T cells h i r p there) row;
      same = came.1;
      window = came.2;
    })
by_row parts T t a self cells h i op after o around r p there names old (PlainEnds kind cell answer) row count made left new came =
    subst (λ m. Means parts T t a self h o around count count (plain_heap cells) old m left new) (sym came.0) (record {
      behind = sites.left_at h (seen r) p.born (option_map (seen_cell T) cell);
      x = row.0;
      did = AtCell o (seen r) (seen_placed T (plain_placed p)) kind (option_map (seen_cell T) cell) row.0 (is_here T cells h i r p there) names (there_seen T cells h i r p there) row.1;
      heap = subst (λ z. HeapIs T z (sites.left_at h (seen r) p.born (option_map (seen_cell T) cell))) (sym came.1) (left_reads T cells r p there cell (kind_kept T (plain_cell p.cell) t o kind cell row.0 (cell_row same_ref Ends Idle t (self_at self around) o (Some (seen_cell T (plain_cell p.cell)))) (leaves_cell same_ref Ends Idle t (self_at self around) o (Some (seen_cell T (plain_cell p.cell)))) row.1) row.2 h i);
      reads = subst (λ z. SeenAs parts T a self z (plug around row.0)) (sym came.2) (row.3 old.focus);
    })

pub one_means : OneMeans
one_means parts T g t cells old made left new k h i a self u like o around next count =
    let s : SeenForm parts T a self old u k.op k.after o around = record { like = like; form = k.form; next = next } in
    let f : FormShows parts T a self old k.op k.after o around = form_seen parts T g a self old u k.op k.after o around s in
    by_row parts T t a self cells h i k.op k.after o around k.r k.placed k.there (ap cell_of f.operation ∙ cells_named T k.op f.scope ∙ ap (option_map seen) k.names) old
    (plain_row (node_params (store parts)) held.same_ref t old.current k.op (Some (plain_cell k.placed.cell)))
    (cell_seen parts T g a self old u k.op k.after o around s t (Some (plain_cell k.placed.cell)) (is_complete T cells h i k.r k.placed k.there))
    count made left new k.came

-- ---- a watch

lined_seen : (T : Table Ref) (t : ℕ) (cell : PlainCell Ref) → in_line t (line_of (Some (seen_cell T cell))) ≡ is_lined t cell
lined_seen T t (PlainObject flags owner fields) = refl
lined_seen T t (PlainArray vs) = refl
lined_seen T t (PlainVariable v) = refl
lined_seen T t (PlainWriter bytes) = refl
lined_seen T t (PlainCondition line) = refl
lined_seen T t (PlainEngine v) = refl

kind_owned : (owner : Option ℕ) (cell : PlainCell Ref) → KindKept cell (plain_owned owner (Some cell))
kind_owned owner (PlainObject flags old fields) = refl
kind_owned owner (PlainArray vs) = tt
kind_owned owner (PlainVariable v) = tt
kind_owned owner (PlainWriter bytes) = tt
kind_owned owner (PlainCondition line) = tt
kind_owned owner (PlainEngine v) = tt

kind_taken : (b : Bool) (t : ℕ) (cell : PlainCell Ref) → KindKept cell (left_of (if b then PlainWaits else PlainEnds ActKind.Again (plain_owned (Some t) (Some cell)) AnswerTest))
kind_taken true t cell = tt
kind_taken false t cell = kind_owned (Some t) cell

by_again : (parts : List SourceCode) (T : Table Ref) (t a : ℕ) (self : Self world.Ref) (cells : Heap) (h : world.Heap) (i : HeapIs T (plain_heap cells) h) (object condition : Ref) (after : NodeAfter) (guard : Term world.Ref) (around : List (Frame world.Ref))
    → (p l : Placed) → placed_at cells object ≡ Some p → placed_at cells condition ≡ Some l → (old : Shown) (outcome : PlainOutcome Ref) → KindKept (plain_cell p.cell) (left_of outcome)
    → RowSeen parts T a self old (PlainAgain object condition) after around outcome (again_row Ends Idle t (in_line t (line_of (Some (seen_cell T (plain_cell l.cell))))) (seen object) (seen condition) guard (Some (seen_cell T (plain_cell p.cell))))
    → (count : ℕ) (made : Option Act) (left : PlainHeap) (new : Shown) → CameTo parts (PlainAgain object condition) after cells object p.born old outcome made left new
    → Means parts T t a self h (Again (seen object) (seen condition) guard) around count count (plain_heap cells) old made left new
by_again parts T t a self cells h i object condition after guard around p l there lines old PlainWaits kind row count made left new came =
    subst (λ m. Means parts T t a self h (Again (seen object) (seen condition) guard) around count count (plain_heap cells) old m left new) (sym came.0) (record {
      idle = IdleAgain (seen object) (seen condition) guard (seen_placed T (plain_placed p)) (seen_placed T (plain_placed l)) (is_here T cells h i object p there) (is_here T cells h i condition l lines) (there_seen T cells h i object p there) (there_seen T cells h i condition l lines) row;
      same = came.1;
      window = came.2;
    })
by_again parts T t a self cells h i object condition after guard around p l there lines old (PlainEnds kind cell answer) same row count made left new came =
    subst (λ m. Means parts T t a self h (Again (seen object) (seen condition) guard) around count count (plain_heap cells) old m left new) (sym came.0) (record {
      behind = sites.left_at h (seen object) p.born (option_map (seen_cell T) cell);
      x = row.0;
      did = Retook (seen object) (seen condition) guard (seen_placed T (plain_placed p)) (seen_placed T (plain_placed l)) kind (option_map (seen_cell T) cell) row.0 (is_here T cells h i object p there) (is_here T cells h i condition l lines)
          (there_seen T cells h i object p there) (there_seen T cells h i condition l lines) row.1;
      heap = subst (λ z. HeapIs T z (sites.left_at h (seen object) p.born (option_map (seen_cell T) cell))) (sym came.1) (left_reads T cells object p there cell same row.2 h i);
      reads = subst (λ z. SeenAs parts T a self z (plug around row.0)) (sym came.2) (row.3 old.focus);
    })

pub again_means : AgainMeans
again_means parts T g t cells old made left new k h i a self u like o around next count =
    let s : SeenForm parts T a self old u (PlainAgain k.object k.condition) k.after o around = record { like = like; form = k.form; next = next } in
    let r = retake_seen parts T g a self old u k.object k.condition k.after o around s in
    let cell : PlainCell Ref = plain_cell k.placed.cell in
    let lined : Bool = is_lined t (plain_cell k.line.cell) in
    subst (λ (z : Operation world.Ref). Means parts T t a self h z around count count (plain_heap cells) old made left new) (sym r.1)
    (by_again parts T t a self cells h i k.object k.condition k.after r.0 around k.placed k.line k.there k.lines old (again_plain t lined (Some cell)) (kind_taken (lined || not (is_plain_free (Some cell))) t cell)
    (subst (λ (b : Bool). RowSeen parts T a self old (PlainAgain k.object k.condition) k.after around (again_plain t lined (Some cell)) (again_row Ends Idle t b (seen k.object) (seen k.condition) r.0 (Some (seen_cell T cell)))) (sym (lined_seen T t (plain_cell k.line.cell)))
    (r.2 t lined (Some cell) (is_complete T cells h i k.object k.placed k.there)))
    count made left new k.came)

-- ---- a new cell

pub new_means : NewMeans
new_means parts T g cells born old done left new k h i a self u like o around next t =
    let s : SeenForm parts T a self old u k.op k.after o around = record { like = like; form = k.form; next = next } in
    let r : Ref = next_ref cells k.cell in
    let n : NewCellSeen parts T a self old k.op k.after o around k.cell r = new_seen parts T g a self old u k.op k.after o around s k.cell k.makes r in
    let m : (h (seen r) ≡ None) × HeapIs T (one_more cells k.cell born) (with_ref h (seen r) (Some (record { born = born; cell = seen_cell T k.cell }))) = made_reads T cells k.cell born n.complete h i in
    subst (λ (z : Act). IsDone parts T t a self h o around born (suc born) z left new) (sym k.act_is) (record {
      behind = with_ref h (seen r) (Some (record { born = born; cell = seen_cell T k.cell }));
      x = after_new n.place (seen r) (seen_cell T k.cell);
      did = subst (λ (z : Operation world.Ref). Did 0 h born t (self_at self around) z ActKind.New born (with_ref h (seen r) (Some (record { born = born; cell = seen_cell T k.cell }))) (suc born) (after_new n.place (seen r) (seen_cell T k.cell))) (sym n.operation)
          (Made (seen r) (seen_cell T k.cell) n.place i.site m.0);
      heap = subst (λ z. HeapIs T z (with_ref h (seen r) (Some (record { born = born; cell = seen_cell T k.cell })))) (sym k.left_is) m.1;
      reads = subst (λ z. SeenAs parts T a self z (plug around (after_new n.place (seen r) (seen_cell T k.cell)))) (sym k.window) (n.reads old.focus);
    })
