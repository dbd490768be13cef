-- What comes of an act that was tried.
use Rattle.obq_site.specs.Making.{made_with, next_ref}
use Rattle.obq_host.specs.NewCells.{MakesCell, TriedNew}
use Rattle.std.specs.Prelude.{Bool, List, None, Option, Some, option_map, refl, ℕ, ◌≡◌, is_some, true}
use Rattle.std.proofs.Common.{ap, subst, sym, ◌∙◌}
use Rattle.obq_base.specs.declared.acts.Act.{Act}
use Rattle.obq_base.specs.declared.acts.ActKind.{ActKind}
use Rattle.obq_base.specs.declared.code.SourceCode.{SourceCode}
use Rattle.obq_base.specs.declared.places.Ref.{Ref}
use Rattle.obq_except.specs.declared.operations.After.{After}
use Rattle.obq_except.specs.declared.operations.Operation.{Operation}
use Rattle.obq_except.specs.declared.operations.Operation.TheVariants as o
use Rattle.obq_except.specs.declared.windows.Window.{Window}
use Rattle.obq_heap.specs.Heap.{Heap, cell_at, placed_at}
use Rattle.obq_heap.specs.declared.cells.Cell.{Cell}
use Rattle.obq_heap.specs.declared.cells.Placed.{Placed}
use Rattle.obq_host.specs.Acting.{ActsAtOne, CameTo, FinishedAs, TriedAt}
use Rattle.obq_host.specs.Watching.{ActsAgain, TriedAgain, TriedWatch, is_lined}
use Rattle.obq_host.specs.declared.acting.Tried.{Tried}
use Rattle.obq_model.specs.Config.{act}
use Rattle.obq_moves.specs.Store.{same_ref, store}
use Rattle.obq_moves.specs.Views.{Shown, plain_after, plain_focus, plain_operation, self_of, shown}
use Rattle.obq_answers.specs.Answers.{place_of}
use Rattle.obq_answers.specs.Forms.{answered_at}
use Rattle.obq_site.proofs.Changes.{left_none}
use Rattle.obq_site.specs.Acts.{done_at}
use Rattle.obq_site.specs.Cells.{PlainHeap, plain_cell, plain_heap, one_more}
use Rattle.obq_site.specs.Outcomes.{Acted, How, HowEnds, HowWaits, acted, acted_with, at_cell, came_to, how}
use Rattle.obq_windows.specs.Acts.{PlainAnswer}
use Rattle.obq_windows.specs.Rows.{PlainEnds, PlainOutcome, PlainWaits, again_plain, plain_row, PlainCell, new_answer, new_cell}
use Rattle.obq_windows.specs.Trees.{PlainAgain, PlainOperation}
use Rattle.obq_windows.specs.Windows.{NodeAct, NodeAfter, node_params}

abbrev kind_in : ActKind → How → ActKind
kind_in kind HowWaits = kind
kind_in kind (HowEnds k answer) = k

abbrev answer_in : PlainAnswer Ref → How → PlainAnswer Ref
answer_in answer HowWaits = answer
answer_in answer (HowEnds kind a) = a

-- by the outcome at the cell
pub by_outcome : (parts : List SourceCode) (op : PlainOperation Ref) (after : NodeAfter) (cells : Heap) (r : Ref) (born loc : ℕ) (old : Shown) (outcome : PlainOutcome Ref) (h : How) (left : PlainHeap) (made : Option Act) (new : Shown)
    → acted_with h left ≡ came_to cells r outcome → loc ≡ born → FinishedAs parts op after h loc old made new → CameTo parts op after cells r born old outcome made left new
by_outcome parts op after cells r born loc old PlainWaits HowWaits left made new e l f = (f.0, ap (λ (a : Acted). a.heap) e ∙ sym (left_none cells r), f.1)
by_outcome parts op after cells r born loc old PlainWaits (HowEnds kind answer) left made new e l f = absurd (let w : HowEnds kind answer ≡ HowWaits = ap (λ (a : Acted). a.how) e in cc w)
by_outcome parts op after cells r born loc old (PlainEnds kind cell answer) HowWaits left made new e l f = absurd (let w : HowWaits ≡ HowEnds kind answer = ap (λ (a : Acted). a.how) e in cc w)
by_outcome parts op after cells r born loc old (PlainEnds kind cell answer) (HowEnds k a) left made new e l f =
    let w : HowEnds k a ≡ HowEnds kind answer = ap (λ (a : Acted). a.how) e in (
      f.0 ∙ ap (λ n. Some (act k n)) l ∙ ap (λ z. Some (act z born)) (ap (kind_in kind) w),
      ap (λ (a : Acted). a.heap) e,
      f.1 ∙ ap (λ z. answered_at parts op after z old) (ap (answer_in answer) w),
    )

pub acts_at_one : (parts : List SourceCode) (t : ℕ) (old : Heap) (w : Window) (tried : Tried) (mid : Heap) (made : Option Act) (new : Shown) → TriedAt parts t old w tried mid
    → ((op : Operation) (after : After) → place_of op after ≡ tried.place → FinishedAs parts (plain_operation op) (plain_after after) (how tried.outcome) tried.loc (shown w) made new) → ActsAtOne parts t old (shown w) made (plain_heap mid) new
acts_at_one parts t old w tried mid made new h f =
    record {
      op = plain_operation h.op;
      after = plain_after h.after;
      r = h.one.r;
      placed = h.one.placed;
      form = ap plain_focus h.form;
      names = h.one.names;
      there = h.one.there;
      came = by_outcome parts (plain_operation h.op) (plain_after h.after) old h.one.r h.one.placed.born tried.loc (shown w) (plain_row (node_params (store parts)) same_ref t (self_of w.current) (plain_operation h.op) (Some (plain_cell h.one.placed.cell))) (how tried.outcome) (plain_heap mid) made new
          (h.one.acted ∙ ap (λ o. done_at old o (plain_row (node_params (store parts)) same_ref t (self_of w.current) (plain_operation h.op))) h.one.names
          ∙ ap (λ (o : Option Placed). came_to old h.one.r (plain_row (node_params (store parts)) same_ref t (self_of w.current) (plain_operation h.op) (option_map plain_cell (option_map (λ p. p.cell) o)))) h.one.there)
          h.one.loc (f h.op h.after h.one.place);
    }

-- a watch that was tried
pub acts_again : (parts : List SourceCode) (t : ℕ) (old : Heap) (w : Window) (tried : Tried) (mid : Heap) (made : Option Act) (new : Shown) → TriedWatch t old w tried mid
    → ((op : Operation) (after : After) → place_of op after ≡ tried.place → FinishedAs parts (plain_operation op) (plain_after after) (how tried.outcome) tried.loc (shown w) made new) → ActsAgain parts t old (shown w) made (plain_heap mid) new
acts_again parts t old w tried mid made new h f =
    record {
      object = h.one.object;
      condition = h.one.condition;
      after = plain_after h.after;
      placed = h.one.placed;
      line = h.one.line;
      form = ap plain_focus h.form ∙ ap (λ op. NodeAct (plain_operation op) (plain_after h.after)) h.one.operation;
      there = h.one.there;
      lines = h.one.lines;
      came = by_outcome parts (PlainAgain h.one.object h.one.condition) (plain_after h.after) old h.one.object h.one.placed.born tried.loc (shown w) (again_plain t (is_lined t (plain_cell h.one.line.cell)) (Some (plain_cell h.one.placed.cell))) (how tried.outcome) (plain_heap mid) made new
          (h.one.acted ∙ ap (λ (o : Option Placed). came_to old h.one.object (again_plain t (is_lined t (plain_cell h.one.line.cell)) (option_map plain_cell (option_map (λ p. p.cell) o)))) h.one.there)
          h.one.loc
          (subst (λ op. FinishedAs parts (plain_operation op) (plain_after h.after) (how tried.outcome) tried.loc (shown w) made new) h.one.operation (f h.op h.after h.one.place));
    }

-- ---- a watch that is tried

found_some : {A B : Type 0} → (f : A → B) (o : Option A) (b : B) → option_map f o ≡ Some b → (a : A) × (o ≡ Some a) × (f a ≡ b)
found_some f None b e = absurd (cc e)
found_some f (Some a) b e = (a, refl, let same : f a ≡ b = cc e in same)

pub tried_again : (t : ℕ) (op : Operation) (after : After) (old : Heap) (tried : Tried) (new : Heap) (object condition : Ref) (cell : Cell) (lined : Bool) → op ≡ o.Again object condition → option_map (λ p. p.born) (placed_at old object) ≡ Some tried.loc → cell_at old condition ≡ Some cell
    → lined ≡ is_lined t (plain_cell cell) → place_of op after ≡ tried.place → acted tried.outcome new ≡ at_cell old object (again_plain t lined) → TriedAgain t op after old tried new
tried_again t op after old tried new object condition cell lined is loc there lines place done =
    let p : (p : Placed) × (placed_at old object ≡ Some p) × (p.born ≡ tried.loc) = found_some (λ (p : Placed). p.born) (placed_at old object) tried.loc loc in
    let l : (l : Placed) × (placed_at old condition ≡ Some l) × (l.cell ≡ cell) = found_some (λ (p : Placed). p.cell) (placed_at old condition) cell there in
    record {
      object = object;
      condition = condition;
      placed = p.0;
      line = l.0;
      operation = is;
      there = p.1;
      lines = l.1;
      loc = sym p.2;
      place = place;
      acted = done ∙ ap (λ b. at_cell old object (again_plain t b)) (lines ∙ ap (λ (z : Cell). is_lined t (plain_cell z)) (sym l.2));
    }

-- ---- a cell that is made

-- by the outcome
by_new : (parts : List SourceCode) (op : PlainOperation Ref) (after : NodeAfter) (born loc : ℕ) (cells : Heap) (cell : Option (PlainCell Ref)) (h : How) (left : PlainHeap) (old : Shown) (done : Act) (new : Shown)
    → is_some cell ≡ true → acted_with h left ≡ made_with cells born op cell → loc ≡ born → FinishedAs parts op after h loc old (Some done) new
    → (c : PlainCell Ref) × (cell ≡ Some c) × (done ≡ act ActKind.New born) × (left ≡ one_more cells c born) × (new ≡ answered_at parts op after (new_answer op (next_ref cells c)) old)
by_new parts op after born loc cells None h left old done new s e l f = absurd (cc s)
by_new parts op after born loc cells (Some c) HowWaits left old done new s e l f = absurd (let w : HowWaits ≡ HowEnds ActKind.New (new_answer op (next_ref cells c)) = ap (λ (a : Acted). a.how) e in cc w)
by_new parts op after born loc cells (Some c) (HowEnds k a) left old done new s e l f =
    let w : HowEnds k a ≡ HowEnds ActKind.New (new_answer op (next_ref cells c)) = ap (λ (a : Acted). a.how) e in
    let d : done ≡ act k loc = let g : Some done ≡ Some (act k loc) = f.0 in cc g in (
      c,
      refl,
      d ∙ ap (act k) l ∙ ap (λ z. act z born) (ap (kind_in k) w),
      ap (λ (a : Acted). a.heap) e,
      f.1 ∙ ap (λ z. answered_at parts op after z old) (ap (answer_in a) w),
    )

pub makes_cell : (parts : List SourceCode) (born : ℕ) (old : Heap) (w : Window) (tried : Tried) (mid : Heap) (done : Act) (new : Shown) → TriedNew born old w tried mid
    → ((op : Operation) (after : After) → place_of op after ≡ tried.place → FinishedAs parts (plain_operation op) (plain_after after) (how tried.outcome) tried.loc (shown w) (Some done) new) → MakesCell parts old born (shown w) done (plain_heap mid) new
makes_cell parts born old w tried mid done new h f =
    let m = by_new parts (plain_operation h.op) (plain_after h.after) born tried.loc old (new_cell (plain_operation h.op)) (how tried.outcome) (plain_heap mid) (shown w) done new h.one.makes h.one.acted h.one.loc (f h.op h.after h.one.place) in
    record { op = plain_operation h.op; after = plain_after h.after; cell = m.0; form = ap plain_focus h.form; makes = m.1; act_is = m.2; left_is = m.3; window = m.4 }
