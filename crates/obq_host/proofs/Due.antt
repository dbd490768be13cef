-- What stands next where an act's form is in the focus, and acts that wait.
use Rattle.obq_model.specs.Store.{twice}
use Rattle.obq_host.specs.NewCells.{NamesDiffer, NamesDifferIn}
use Rattle.std.specs.Prelude.{Bool, List, None, Option, Some, false, if◌then◌else◌, not, option_map, refl, true, ℕ, ◌&&◌, ◌||◌, ◌≡◌, ◌⊎◌, [], ◌∷◌, codes}
use Rattle.std.proofs.Common.{ap, inl, inr, subst, sym, ◌∙◌}
use Rattle.obq_base.specs.declared.code.SourceCode.{SourceCode}
use Rattle.obq_base.specs.declared.places.Ref.{Ref}
use Rattle.obq_base.specs.declared.trees.Flags.{Flags}
use Rattle.obq_heap.specs.Heap.{Heap, cell_at, placed_at}
use Rattle.obq_heap.specs.Reading.{owner_number}
use Rattle.obq_heap.specs.declared.cells.Cell.{Cell}
use Rattle.obq_heap.specs.declared.cells.Placed.{Placed}
use Rattle.obq_host.specs.Acting.{ActsAtOne, CameTo}
use Rattle.obq_host.specs.Doing.{FormDue, IsIdle, WaitsMean, NamesDue}
use Rattle.obq_host.specs.Seen.{HeapIs}
use Rattle.obq_host.specs.Watching.{ActsAgain, is_held, is_kept_out, is_lined, waits_at, waits_now}
use Rattle.obq_host.proofs.Meant.{again_means, one_means}
use Rattle.obq_model.specs.Cells.{is_clear}
use Rattle.obq_model.specs.Maps.{map_found, map_frames, map_operation, map_term}
use Rattle.obq_model.specs.Step.{Found, Frame, Needs, Next, Operation, Self, find, is_call_limit, self_at}
use Rattle.obq_model.specs.Terms.{Term, Exn}
use Rattle.obq_moves.specs.Store.{store}
use Rattle.obq_moves.specs.Store as held
use Rattle.obq_moves.specs.Views.{Shown}
use Rattle.obq_answers.proofs.Asking.{counted_alike}
use Rattle.obq_answers.proofs.Seen.{next_seen}
use Rattle.obq_answers.specs.Readings.{Counts}
use Rattle.obq_answers.specs.Worlds.{SeenAs, seen}
use Rattle.obq_site.specs.Acts.{cell_of}
use Rattle.obq_site.specs.Cells.{plain_cell, plain_heap}
use Rattle.obq_stands.specs.World.{same_ref}
use Rattle.obq_stands.specs.World as world
use Rattle.obq_windows.proofs.Acts.{act_moves}
use Rattle.obq_windows.proofs.Answering.{AtAct, at_act}
use Rattle.obq_windows.proofs.Counts.{counted}
use Rattle.obq_windows.proofs.Whole.{made_of}
use Rattle.obq_windows.specs.Agrees.{Agrees, FocusIs}
use Rattle.obq_windows.specs.Complete.{CompleteFocus, CompleteOperation}
use Rattle.obq_windows.specs.Laws.{Reads}
use Rattle.obq_windows.specs.Meanings.{Moves}
use Rattle.obq_windows.specs.Moves.{act_ends, tree_act, tree_refused, count_activations}
use Rattle.obq_windows.specs.Rows.{PlainOutcome, PlainWaits, is_plain_free, object_plain, plain_row}
use Rattle.obq_windows.specs.Trees.{Kept, KeptRaising, KeptValue, PlainAgain, PlainField, PlainGet, PlainInvoke, PlainOperation, PlainRedirect, PlainSetAlias, PlainSetMethod, PlainSetValue, TreeAct, TreeAfter, TreeFocus, TreeFrame, term_of, PlainCloning, plain_names}
use Rattle.obq_windows.specs.Values.{Table, tree_params}
use Rattle.obq_windows.specs.Windows.{NodeAct, NodeAfter, NodeFocus, node_params}

-- ---- what stands next

-- the operation, where its form doesn't end in another way; a pure step, where it does
abbrev NextBy : {R : Type 0} → Option (Kept Ref) → Found R → Type 0
NextBy {R} None found = (o : Operation R) × (around : List (Frame R)) × (found ≡ Needs o around)
NextBy {R} (Some k) found = (x : Term R) × (found ≡ Next x)

by_move : (T : Table Ref) (a : ℕ) (s : Self Ref) (t : Term Ref) (z : Option (Kept Ref)) (op : PlainOperation Ref) (after : TreeAfter Ref) (fs : List (TreeFrame Ref)) → Moves held.same_ref T a s t (tree_act z op after fs) → NextBy z (find held.same_ref a s t)
by_move T a s t None op after fs h = (_, _, h.2)
by_move T a s t (Some (KeptValue v)) op after fs h = (_, h)
by_move T a s t (Some (KeptRaising r)) op after fs h = (_, h)

map_next : (z : Option (Kept Ref)) (found : Found Ref) (other : Found world.Ref) → other ≡ map_found seen found → NextBy z found → NextBy z other
map_next None found other e h = (map_operation seen h.0, map_frames seen h.1, e ∙ ap (map_found seen) h.2)
map_next (Some k) found other e h = (map_term seen h.0, e ∙ ap (map_found seen) h.1)

-- of the window at such a form
record AtForm (T : Table Ref) (a : ℕ) (self : Self world.Ref) (w : Shown) (u : Term world.Ref) (op : PlainOperation Ref) : Type 0 where
  complete : CompleteOperation T op
  next : NextBy (act_ends (tree_params T) (tree_refused T) w.activations op) (find same_ref a self u)

at_form : (parts : List SourceCode) (T : Table Ref) → Agrees T (store parts) → (w : Shown) (a : ℕ) (self : Self world.Ref) (u : Term world.Ref) → SeenAs parts T a self w u → (op : PlainOperation Ref) (after : NodeAfter) → w.focus ≡ NodeAct op after → AtForm T a self w u op
at_form parts T g w a self u k op after e =
    let r : Reads T (store parts) w.act w.frames w.focus k.like.term = k.like.reads.reads in
    let at : AtAct T (store parts) w.act r.height op after r.focus = at_act T (store parts) w.act r.height op after r.focus (subst (λ (x : NodeFocus Ref). FocusIs T (store parts) w.act r.height x r.focus) e r.is_focus) in
    let c : CompleteFocus T (TreeAct op at.after) = subst (λ (z : TreeFocus Ref). CompleteFocus T z) at.is_act r.complete.focus in
    let many : w.activations ≡ count_activations a r.frames =
    ap (λ (c : Counts). c.activations) k.like.reads.fits ∙ counted_alike T (store parts) a w.act r.height w.frames r.frames r.are_frames ∙ counted T a r.frames in
    let m : NextBy (act_ends (tree_params T) (tree_refused T) (count_activations a r.frames) op) (find held.same_ref a k.own (term_of T r.frames (TreeAct op at.after))) =
    by_move T a k.own (term_of T r.frames (TreeAct op at.after)) (act_ends (tree_params T) (tree_refused T) (count_activations a r.frames) op) op at.after r.frames (act_moves held.same_ref T (made_of T (store parts) g) a k.own r.frames op at.after) in
    record {
      complete = c.0;
      next = subst (λ (n : ℕ). NextBy (act_ends (tree_params T) (tree_refused T) n op) (find same_ref a self u)) (sym many)
          (map_next (act_ends (tree_params T) (tree_refused T) (count_activations a r.frames) op) (find held.same_ref a k.own (term_of T r.frames (TreeAct op at.after))) (find same_ref a self u)
          (next_seen parts T a self w u k ∙ ap (λ (z : Term Ref). map_found seen (find held.same_ref a k.own z)) (r.term ∙ ap (term_of T r.frames) at.is_act)) m);
    }

only_needs : (z : Option (Kept Ref)) (found : Found world.Ref) → NextBy z found → ((x : Term world.Ref) → found ≡ Next x → ⊥) → (o : Operation world.Ref) × (around : List (Frame world.Ref)) × (found ≡ Needs o around)
only_needs None found h none = h
only_needs (Some k) found h none = absurd (none h.0 h.1)

pub form_due : FormDue
form_due parts T g w a self u k op after e none = only_needs (act_ends (tree_params T) (tree_refused T) w.activations op) (find same_ref a self u) (at_form parts T g w a self u k op after e).next none

-- ---- an object that isn't clear

-- it is there, and what is asked of it waits
record IsHeldAt (s : Self Ref) (object : Ref) (cells : Heap) : Type 0 where
  placed : Placed
  there : placed_at cells object ≡ Some placed
  waits : (f : Flags → Option ℕ → List (PlainField Ref) → PlainOutcome Ref) → object_plain held.same_ref s object f (Some (plain_cell placed.cell)) ≡ PlainWaits

not_so : (b : Bool) (x : PlainOutcome Ref) → not b ≡ true → (if b then x else PlainWaits) ≡ PlainWaits
not_so true x h = absurd (cc h)
not_so false x h = refl

held_cell : (s : Self Ref) (object : Ref) (cell : Cell) → is_held s object (Some cell) ≡ true → (f : Flags → Option ℕ → List (PlainField Ref) → PlainOutcome Ref) → object_plain held.same_ref s object f (Some (plain_cell cell)) ≡ PlainWaits
held_cell s object (Cell.Object flags owner fields) h f = not_so (is_clear held.same_ref s object flags (owner_number owner)) _ h
held_cell s object (Cell.Array items) h f = absurd (cc h)
held_cell s object (Cell.Variable v) h f = absurd (cc h)
held_cell s object (Cell.Writer bytes) h f = absurd (cc h)
held_cell s object (Cell.Condition line) h f = absurd (cc h)
held_cell s object (Cell.Engine v) h f = absurd (cc h)

is_held_at : (s : Self Ref) (object : Ref) (cells : Heap) → is_held s object (cell_at cells object) ≡ true → IsHeldAt s object cells
is_held_at s object cells h = at (placed_at cells object) refl h where
  at : (o : Option Placed) → placed_at cells object ≡ o → is_held s object (option_map (λ p. p.cell) o) ≡ true → IsHeldAt s object cells
  at None e k = absurd (cc k)
  at (Some p) e k = record { placed = p; there = e; waits = held_cell s object p.cell k }

-- ---- an act that waits

-- such a window and these cells stay
abbrev Stays : List SourceCode → ℕ → Heap → Shown → Type 0
Stays parts t cells w = ActsAtOne parts t cells w None (plain_heap cells) w ⊎ ActsAgain parts t cells w None (plain_heap cells) w

at_one : (parts : List SourceCode) (t : ℕ) (cells : Heap) (w : Shown) (op : PlainOperation Ref) (after : NodeAfter) (object : Ref) → w.focus ≡ NodeAct op after → cell_of op ≡ Some object → (k : IsHeldAt w.current object cells)
    → plain_row (node_params (store parts)) held.same_ref t w.current op (Some (plain_cell k.placed.cell)) ≡ PlainWaits → Stays parts t cells w
at_one parts t cells w op after object e names k row =
    inl (record { op = op; after = after; r = object; placed = k.placed; form = e; names = names; there = k.there; came = subst (λ (z : PlainOutcome Ref). CameTo parts op after cells object k.placed.born w z None (plain_heap cells) w) (sym row) (refl, refl, refl) })

second : (a b : Bool) → (a && b) ≡ true → b ≡ true
second true b h = h
second false b h = absurd (cc h)

again_waits : (b : Bool) (x : PlainOutcome Ref) → b ≡ true → (if b then PlainWaits else x) ≡ PlainWaits
again_waits true x h = refl
again_waits false x h = absurd (cc h)

at_again : (parts : List SourceCode) (t : ℕ) (cells : Heap) (w : Shown) (object condition : Ref) (after : NodeAfter) → w.focus ≡ NodeAct (PlainAgain object condition) after → is_kept_out t (cell_at cells object) (cell_at cells condition) ≡ true → Stays parts t cells w
at_again parts t cells w object condition after e h = at (placed_at cells object) (placed_at cells condition) refl refl h where
  at : (o c : Option Placed) → placed_at cells object ≡ o → placed_at cells condition ≡ c → is_kept_out t (option_map (λ p. p.cell) o) (option_map (λ p. p.cell) c) ≡ true → Stays parts t cells w
  at None c f g k = absurd (cc k)
  at (Some p) None f g k = absurd (cc k)
  at (Some p) (Some l) f g k =
      inr (record {
        object = object;
        condition = condition;
        after = after;
        placed = p;
        line = l;
        form = e;
        there = f;
        lines = g;
        came = subst (λ (z : PlainOutcome Ref). CameTo parts (PlainAgain object condition) after cells object p.born w z None (plain_heap cells) w) (sym (again_waits (is_lined t (plain_cell l.cell) || not (is_plain_free (Some (plain_cell p.cell)))) _ k)) (refl, refl, refl);
      })

stays : (parts : List SourceCode) (t : ℕ) (cells : Heap) (w : Shown) (op : PlainOperation Ref) (after : NodeAfter) → w.focus ≡ NodeAct op after → waits_now t w.current w.activations op cells ≡ true → Stays parts t cells w
stays parts t cells w (PlainGet object x) after e h = let k : IsHeldAt w.current object cells = is_held_at w.current object cells h in at_one parts t cells w (PlainGet object x) after object e refl k (k.waits _)
stays parts t cells w (PlainInvoke object x vs) after e h = let k : IsHeldAt w.current object cells = is_held_at w.current object cells (second (not (is_call_limit w.activations)) _ h) in at_one parts t cells w (PlainInvoke object x vs) after object e refl k (k.waits _)
stays parts t cells w (PlainSetValue object x v) after e h = let k : IsHeldAt w.current object cells = is_held_at w.current object cells h in at_one parts t cells w (PlainSetValue object x v) after object e refl k (k.waits _)
stays parts t cells w (PlainSetMethod object x m) after e h = let k : IsHeldAt w.current object cells = is_held_at w.current object cells h in at_one parts t cells w (PlainSetMethod object x m) after object e refl k (k.waits _)
stays parts t cells w (PlainSetAlias object x q y) after e h = let k : IsHeldAt w.current object cells = is_held_at w.current object cells h in at_one parts t cells w (PlainSetAlias object x q y) after object e refl k (k.waits _)
stays parts t cells w (PlainRedirect object target) after e h = let k : IsHeldAt w.current object cells = is_held_at w.current object cells h in at_one parts t cells w (PlainRedirect object target) after object e refl k (k.waits _)
stays parts t cells w (PlainCloning first copied (object ∷ rest)) after e h = let k : IsHeldAt w.current object cells = is_held_at w.current object cells h in at_one parts t cells w (PlainCloning first copied (object ∷ rest)) after object e refl k (k.waits _)
stays parts t cells w (PlainCloning first copied []) after e h = absurd (cc h)
stays parts t cells w (PlainAgain object condition) after e h = at_again parts t cells w object condition after e h
stays parts t cells w op after e h = absurd (cc h)

within : (a b : Bool) (k : Option (Kept Ref)) → (not a && b) ≡ true → (if a then k else None) ≡ None
within true b k h = absurd (cc h)
within false b k h = refl

-- its form doesn't end in another way
no_end : (T : Table Ref) (t : ℕ) (cells : Heap) (s : Self Ref) (a : ℕ) (op : PlainOperation Ref) → waits_now t s a op cells ≡ true → CompleteOperation T op → act_ends (tree_params T) (tree_refused T) a op ≡ None
no_end T t cells s a (PlainGet object x) h c = refl
no_end T t cells s a (PlainInvoke object x vs) h c = within (is_call_limit a) _ _ h
no_end T t cells s a (PlainSetValue object x v) h c = refl
no_end T t cells s a (PlainSetMethod object x m) h c = c.1
no_end T t cells s a (PlainSetAlias object x q y) h c = refl
no_end T t cells s a (PlainRedirect object target) h c = refl
no_end T t cells s a (PlainCloning None copied (object ∷ rest)) h c = refl
no_end T t cells s a (PlainCloning (Some flags) copied (object ∷ rest)) h c = refl
no_end T t cells s a (PlainCloning None copied []) h c = absurd (cc h)
no_end T t cells s a (PlainCloning (Some flags) copied []) h c = absurd (cc h)
no_end T t cells s a (PlainAgain object condition) h c = refl
no_end T t cells s a op h c = absurd (cc h)

abbrev Waits : ℕ → world.Heap → ℕ → Self world.Ref → Term world.Ref → Type 0
Waits t h a self u = (o : Operation world.Ref) × (around : List (Frame world.Ref)) × (find same_ref a self u ≡ Needs o around) × IsIdle h t (self_at self around) o

by_stay : (parts : List SourceCode) (T : Table Ref) → Agrees T (store parts) → (t : ℕ) (cells : Heap) (w : Shown) (h : world.Heap) → HeapIs T (plain_heap cells) h → (a : ℕ) (self : Self world.Ref) (u : Term world.Ref) → SeenAs parts T a self w u
    → (o : Operation world.Ref) (around : List (Frame world.Ref)) → find same_ref a self u ≡ Needs o around → Stays parts t cells w → Waits t h a self u
by_stay parts T g t cells w h i a self u k o around next (inl s) = (o, around, next, (one_means parts T g t cells w None (plain_heap cells) w s h i a self u k o around next 0).idle)
by_stay parts T g t cells w h i a self u k o around next (inr s) = (o, around, next, (again_means parts T g t cells w None (plain_heap cells) w s h i a self u k o around next 0).idle)

needed : (z : Option (Kept Ref)) (found : Found world.Ref) → z ≡ None → NextBy z found → (o : Operation world.Ref) × (around : List (Frame world.Ref)) × (found ≡ Needs o around)
needed None found e h = h
needed (Some k) found e h = absurd (cc e)

pub waits_mean : WaitsMean
waits_mean parts T g t cells w waiting h i a self u k = at w.focus refl waiting where
  at : (x : NodeFocus Ref) → w.focus ≡ x → waits_at t w.current w.activations x cells ≡ true → Waits t h a self u
  at (NodeAct op after) e q =
      let f : AtForm T a self w u op = at_form parts T g w a self u k op after e in
      let n : (o : Operation world.Ref) × (around : List (Frame world.Ref)) × (find same_ref a self u ≡ Needs o around) =
      needed (act_ends (tree_params T) (tree_refused T) w.activations op) (find same_ref a self u) (no_end T t cells w.current w.activations op q f.complete) f.next in
      by_stay parts T g t cells w h i a self u k n.0 n.1 n.2 (stays parts t cells w op after e q)
  at x e q = absurd (cc q)

-- ---- an object that is to be made

not_ended : (b : Bool) (k : Kept Ref) (found : Found world.Ref) → NextBy (if b then Some k else None) found → ((x : Term world.Ref) → found ≡ Next x → ⊥) → b ≡ false
not_ended true k found h none = absurd (none h.0 h.1)
not_ended false k found h none = refl

differ : (T : Table Ref) (a : ℕ) (op : PlainOperation Ref) (found : Found world.Ref) → NextBy (act_ends (tree_params T) (tree_refused T) a op) found → ((x : Term world.Ref) → found ≡ Next x → ⊥) → NamesDiffer op
differ T a (PlainCloning (Some flags) fields []) found h none = not_ended (twice (plain_names fields)) (KeptRaising (Exn (codes "field_twice"))) found h none
differ T a (PlainCloning (Some flags) fields (o ∷ rest)) found h none = tt
differ T a (PlainCloning None fields rest) found h none = tt
differ T a op found h none = tt

pub names_due : NamesDue
names_due parts T g w a self u k none = at w.focus refl where
  at : (x : NodeFocus Ref) → w.focus ≡ x → NamesDifferIn x
  at (NodeAct op after) e = differ T w.activations op (find same_ref a self u) (at_form parts T g w a self u k op after e).next none
  at x e = tt
