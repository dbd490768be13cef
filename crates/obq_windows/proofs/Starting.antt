-- A task that begins.
use Rattle.std.specs.Prelude.{Bool, List, None, Option, Some, [], codes, false, if◌then◌else◌, option_map, refl, true, ℕ, ◌≡◌}
use Rattle.std.proofs.Common.{ap, subst, sym, ◌∙◌}
use Rattle.obq_base.specs.Tree.{ABind, ABlock, ASuffix, AnArm, AnExpr, AnItem, ApplySuffix, ArmTrees, ArrayTree, AssignItem, BindTrees, BlockOf, BlockTree, ChainTree, CloneTree, ExitTree, ExprTree, FieldItem, FieldTree, FinallyTree, ForTree, ForeachTree, IfTree, IndexItem, IndexSuffix, IntTree, InvokeSuffix, ItemTrees, LetItem, LetRecItem, LinkTrees, LoopTree, MaybeBlock, NameTree, NoArms, NoBinds, NoBlock, NoExprs, NoItems, NoSuffixes, ObjectTree, OkTree, PlainItem, ProcTree, RaiseTree, RedirectTree, SelectSuffix, SuffixTrees, SuffixedTree, TextTree, TruthTree, TryTree, VarItem, WatchTree}
use Rattle.obq_base.specs.declared.code.CodeNo.{CodeNo}
use Rattle.obq_model.specs.Draft.{called_row}
use Rattle.obq_model.specs.Opened.{builtin_at, open_binds, open_called, open_expr, open_exprs, open_items, open_suffixes}
use Rattle.obq_model.specs.Put.{occurrence}
use Rattle.obq_model.specs.Reading.{name_or, read}
use Rattle.obq_model.specs.Scopes.{is_covered}
use Rattle.obq_model.specs.Step.{Self, activations_at, fill, find, plug, self_at}
use Rattle.obq_model.specs.Terms.{Apply, Array, Assign, Bytes, Condition, Const, End, Engine, ExitUp, Form, Let, Loc, Name, Object, Part, SetIndex, Term, Then, Var, Variable, Writer}
use Rattle.obq_model.proofs.Plug.{plug_append}
use Rattle.obq_windows.specs.Meanings.{Moves}
use Rattle.obq_windows.specs.Moves.{HintExpr, HintItems, HintTask, begin_args, begin_binds, begin_block, begin_expr, begin_if, begin_items, begin_name, begin_suffixes, begin_task, begin_vars, count_activations, going_on, used, with_items, with_suffixes}
use Rattle.obq_windows.specs.Places.{Place, env_at, outside_at, value_of, writer_at}
use Rattle.obq_windows.specs.Trees.{BlockTask, ExprTask, ItemsTask, PendingAssign, PendingField, PendingFirst, PendingForeach, PendingHead, PendingIf, PendingLast, PendingLet, PendingLoop, PendingRaise, PendingThen, PendingTry, PendingVar, PendingWatch, PlainRead, Silent, Tag, Task, ToArray, ToBuiltin, ToClone, ToRedirect, ToSetIndex, TreeFrame, TreeHere, TreeRaising, TreeRun, TreeValue, block_at, expr_at, exprs_at, field_frame, frames_of, if_at, items_at, links_around, names_at, pending_frames, push, suffixes_around, target_at, task_term, tree_moved, tree_raises}
use Rattle.obq_windows.specs.Values.{ClosureValue, ExceptionValue, IntValue, IsMadeTable, LocationValue, OkayValue, PlainValue, Table, TextValue, ThreadValue, TruthValue, proc_of, read_value, read_values}
use Rattle.obq_windows.proofs.Around.{Starts, asks, chain_read, field_read, here, links_frames, pushed, silent, suffixes_frames, suffixes_read, to_here, to_pushed}
use Rattle.obq_windows.proofs.Begins.{args_right, of_term, suffix_args}
use Rattle.obq_windows.proofs.Closing.{letrec_begins, proc_begins, rest_starts}
use Rattle.obq_windows.proofs.Literals.{fields_begin}
use Rattle.obq_windows.proofs.Results.{closure_cases}

pub if_starts : {R : Type 0} → (T : Table R) (fs : List (TreeFrame R)) (tag : Tag R) (p : Place R) (arms : ArmTrees) (last : MaybeBlock) → Starts T fs (if_at T p arms last) tag (begin_if tag p arms last fs)
if_starts T fs tag p (AnArm c b arms) last = record { tag_is = refl; leads = pushed T fs p (PendingIf b arms last) (TreeRun p (ExprTask c)) _ refl }
if_starts T fs tag p NoArms NoBlock = record { tag_is = refl; leads = here T fs (TreeValue OkayValue) _ refl }
if_starts T fs tag p NoArms (ABlock b) = record { tag_is = refl; leads = here T fs (TreeRun p (BlockTask b)) _ refl }

-- binds, and the items behind them
abbrev pub binds_at : {R : Type 0} → Table R → Place R → BindTrees → ItemTrees → Term R
binds_at T p bs is = read (env_at T p) (open_binds Let (writer_at T p) (outside_at T p) (names_at p) bs (λ ns. open_items (writer_at T p) (outside_at T p) ns is))

pub binds_start : {R : Type 0} → (T : Table R) (fs : List (TreeFrame R)) (tag : Tag R) (p : Place R) (bs : BindTrees) (is : ItemTrees) → Starts T fs (binds_at T p bs is) tag (begin_binds tag p bs is fs)
binds_start T fs tag p NoBinds is = rest_starts T fs tag p is
binds_start T fs tag p (ABind x e place bs) is = record { tag_is = refl; leads = pushed T fs p (PendingLet x bs is) (TreeRun p (ExprTask e)) _ refl }

-- the same of variables
abbrev pub vars_from : {R : Type 0} → Table R → Place R → BindTrees → ItemTrees → Term R
vars_from T p bs is = read (env_at T p) (open_binds Var (writer_at T p) (outside_at T p) (names_at p) bs (λ ns. open_items (writer_at T p) (outside_at T p) ns is))

pub vars_start : {R : Type 0} → (T : Table R) (fs : List (TreeFrame R)) (tag : Tag R) (p : Place R) (bs : BindTrees) (is : ItemTrees) → Starts T fs (vars_from T p bs is) tag (begin_vars tag p bs is fs)
vars_start T fs tag p NoBinds is = rest_starts T fs tag p is
vars_start T fs tag p (ABind x e place bs) is = record { tag_is = refl; leads = pushed T fs p (PendingVar x bs is) (TreeRun p (ExprTask e)) _ refl }

-- an operand that is followed by further operators
pub chain_starts : {R : Type 0} → (T : Table R) (fs : List (TreeFrame R)) (tag : Tag R) (p : Place R) (links : LinkTrees) (e : ExprTree) → Starts T fs (plug (links_around T p links) (expr_at T p e)) tag (going_on tag p links e fs)
chain_starts T fs tag p links e = record { tag_is = refl; leads = record { frames = links_around T p links; around = links_frames T p links fs; term = refl } }

name_begins : {R : Type 0} → (eq : R → R → Bool) (T : Table R) (a : ℕ) (s : Self R) (p : Place R) (x : Bytes) (fs : List (TreeFrame R)) (b : Bool)
    → Moves eq T a s (plug (frames_of T fs) (read (env_at T p) (if b then Name x else Const (Loc Writer (writer_at T p))))) (begin_name T p b x fs)
name_begins eq T a s p x fs false = silent eq T a s fs _ (tree_moved Silent fs (TreeValue (LocationValue Writer (writer_at T p)))) (record { tag_is = refl; leads = here T fs _ _ refl })
name_begins {R} eq T a s p x fs true = at (value_of T p x) refl where
  value : (v : PlainValue R) → value_of T p x ≡ Some v → occurrence (read_value T v) ≡ Const (read_value T v) → Moves eq T a s (plug (frames_of T fs) (name_or x (env_at T p x))) (tree_moved Silent fs (TreeValue v))
  value v e o = silent eq T a s fs _ (tree_moved Silent fs (TreeValue v)) (record { tag_is = refl; leads = here T fs (TreeValue v) _ (ap (λ (z : Option (PlainValue R)). name_or x (option_map (read_value T) z)) e ∙ o) })

  at : (o : Option (PlainValue R)) → value_of T p x ≡ o → Moves eq T a s (plug (frames_of T fs) (name_or x (env_at T p x))) (used o fs)
  at None e = to_here eq T a s fs _ (tree_raises (codes "type")) (ap (λ (z : Option (PlainValue R)). find eq (activations_at a (frames_of T fs)) (self_at s (frames_of T fs)) (name_or x (option_map (read_value T) z))) e)
  at (Some (LocationValue Variable r)) e = asks eq T a s fs _ (PlainRead r) TreeHere (ap (λ (z : Option (PlainValue R)). find eq (activations_at a (frames_of T fs)) (self_at s (frames_of T fs)) (name_or x (option_map (read_value T) z))) e)
  at (Some (LocationValue Object r)) e = value _ e refl
  at (Some (LocationValue Array r)) e = value _ e refl
  at (Some (LocationValue Writer r)) e = value _ e refl
  at (Some (LocationValue Condition r)) e = value _ e refl
  at (Some (LocationValue Engine r)) e = value _ e refl
  at (Some (IntValue z)) e = value _ e refl
  at (Some (TruthValue z)) e = value _ e refl
  at (Some OkayValue) e = value _ e refl
  at (Some (TextValue z)) e = value _ e refl
  at (Some (ExceptionValue z)) e = value _ e refl
  at (Some (ThreadValue z)) e = value _ e refl
  at (Some (ClosureValue t c group index cs)) e = value _ e (closure_cases T (read_values T cs) (proc_of T group index) (λ f. occurrence f ≡ Const f) (λ params body. refl) (λ names G i. refl))

suffixed : {R : Type 0} → (eq : R → R → Bool) (T : Table R) (a : ℕ) (s : Self R) → IsMadeTable T → (p : Place R) (e : ExprTree) (ss : SuffixTrees) (fs : List (TreeFrame R)) (o : Option ℕ)
    → Moves eq T a s (plug (frames_of T fs) (read (env_at T p) (elim o [ None ↦ open_suffixes (writer_at T p) (outside_at T p) (names_at p) (open_expr (writer_at T p) (outside_at T p) (names_at p) e) ss | Some r ↦ open_called (writer_at T p) (outside_at T p) (names_at p) r ss ])))
    (begin_suffixes T (count_activations a fs) o p e ss fs)
suffixed eq T a s w p e NoSuffixes fs None = silent eq T a s fs _ (tree_moved Silent fs (TreeRun p (ExprTask e))) (record { tag_is = refl; leads = here T fs (TreeRun p (ExprTask e)) _ refl })
suffixed eq T a s w p e (ASuffix x ss) fs None =
    silent eq T a s fs _ (tree_moved Silent (push p (PendingHead x ss) fs) (TreeRun p (ExprTask e)))
    (record { tag_is = refl; leads = pushed T fs p (PendingHead x ss) (TreeRun p (ExprTask e)) _ (suffixes_read T p (ASuffix x ss) (open_expr (writer_at T p) (outside_at T p) (names_at p) e)) })
suffixed eq T a s w p e (ASuffix (ApplySuffix es place) ss) fs (Some r) =
    of_term eq T a s _ (plug (frames_of T (with_suffixes p ss fs)) (Form (Apply (builtin_at r)) (exprs_at T p es))) (begin_args T (count_activations a fs) (ToBuiltin r) p [] es (with_suffixes p ss fs))
    (ap (plug (frames_of T fs)) (suffixes_read T p ss (Form (Apply (builtin_at r)) (open_exprs (writer_at T p) (outside_at T p) (names_at p) es)))
    ∙ sym (plug_append (frames_of T fs) (suffixes_around T p ss) _) ∙ ap (λ gs. plug gs (Form (Apply (builtin_at r)) (exprs_at T p es))) (sym (suffixes_frames T p ss fs)))
    (suffix_args eq T a s w fs (ToBuiltin r) p [] es ss)
suffixed eq T a s w p e NoSuffixes fs (Some r) = silent eq T a s fs _ (tree_moved Silent fs (TreeValue OkayValue)) (record { tag_is = refl; leads = here T fs (TreeValue OkayValue) _ refl })
suffixed eq T a s w p e (ASuffix (SelectSuffix x place) ss) fs (Some r) = silent eq T a s fs _ (tree_moved Silent fs (TreeValue OkayValue)) (record { tag_is = refl; leads = here T fs (TreeValue OkayValue) _ refl })
suffixed eq T a s w p e (ASuffix (InvokeSuffix x es place) ss) fs (Some r) = silent eq T a s fs _ (tree_moved Silent fs (TreeValue OkayValue)) (record { tag_is = refl; leads = here T fs (TreeValue OkayValue) _ refl })
suffixed eq T a s w p e (ASuffix (IndexSuffix i place) ss) fs (Some r) = silent eq T a s fs _ (tree_moved Silent fs (TreeValue OkayValue)) (record { tag_is = refl; leads = here T fs (TreeValue OkayValue) _ refl })

expr_begins : {R : Type 0} → (eq : R → R → Bool) (T : Table R) (a : ℕ) (s : Self R) → IsMadeTable T → (thread count : ℕ) (numbers : List CodeNo) (p : Place R) (e : ExprTree) (fs : List (TreeFrame R)) → HintExpr T numbers p e
    → Moves eq T a s (plug (frames_of T fs) (expr_at T p e)) (begin_expr T (count_activations a fs) thread count numbers p e fs)
expr_begins eq T a s w thread count numbers p (IntTree z place) fs h = silent eq T a s fs _ (tree_moved Silent fs (TreeValue (IntValue z))) (record { tag_is = refl; leads = here T fs (TreeValue (IntValue z)) _ refl })
expr_begins eq T a s w thread count numbers p (TextTree z place) fs h = silent eq T a s fs _ (tree_moved Silent fs (TreeValue (TextValue z))) (record { tag_is = refl; leads = here T fs (TreeValue (TextValue z)) _ refl })
expr_begins eq T a s w thread count numbers p (TruthTree z place) fs h = silent eq T a s fs _ (tree_moved Silent fs (TreeValue (TruthValue z))) (record { tag_is = refl; leads = here T fs (TreeValue (TruthValue z)) _ refl })
expr_begins eq T a s w thread count numbers p (OkTree place) fs h = silent eq T a s fs _ (tree_moved Silent fs (TreeValue OkayValue)) (record { tag_is = refl; leads = here T fs (TreeValue OkayValue) _ refl })
expr_begins eq T a s w thread count numbers p (NameTree x place) fs h = name_begins eq T a s p x fs (is_covered (outside_at T p) (names_at p) x)
expr_begins eq T a s w thread count numbers p (ProcTree q) fs h = proc_begins eq T a s thread count numbers p q fs h
expr_begins eq T a s w thread count numbers p (IfTree arms last place) fs h = silent eq T a s fs _ (begin_if Silent p arms last fs) (if_starts T fs Silent p arms last)
expr_begins eq T a s w thread count numbers p (ArrayTree es place) fs h = args_right eq T a s w fs ToArray p [] es
expr_begins eq T a s w thread count numbers p (LoopTree b place) fs h = to_pushed eq T a s fs _ p (PendingLoop b) (TreeRun p (BlockTask b)) refl
expr_begins eq T a s w thread count numbers p (ForTree x m n b place) fs h = silent eq T a s fs _ (tree_moved Silent (push p (PendingFirst x n b) fs) (TreeRun p (ExprTask m))) (record { tag_is = refl; leads = pushed T fs p (PendingFirst x n b) (TreeRun p (ExprTask m)) _ refl })
expr_begins eq T a s w thread count numbers p (ForeachTree x e b place) fs h = silent eq T a s fs _ (tree_moved Silent (push p (PendingForeach x b) fs) (TreeRun p (ExprTask e))) (record { tag_is = refl; leads = pushed T fs p (PendingForeach x b) (TreeRun p (ExprTask e)) _ refl })
expr_begins eq T a s w thread count numbers p (WatchTree c e place) fs h = silent eq T a s fs _ (tree_moved Silent (push p (PendingWatch e) fs) (TreeRun p (ExprTask c))) (record { tag_is = refl; leads = pushed T fs p (PendingWatch e) (TreeRun p (ExprTask c)) _ refl })
expr_begins eq T a s w thread count numbers p (ExitTree place) fs h = to_here eq T a s fs _ (TreeRaising ExitUp) refl
expr_begins eq T a s w thread count numbers p (TryTree b arms last place) fs h = silent eq T a s fs _ (tree_moved Silent (push p (PendingTry arms last) fs) (TreeRun p (BlockTask b))) (record { tag_is = refl; leads = pushed T fs p (PendingTry arms last) (TreeRun p (BlockTask b)) _ refl })
expr_begins eq T a s w thread count numbers p (FinallyTree b last place) fs h = silent eq T a s fs _ (tree_moved Silent (push p (PendingLast last) fs) (TreeRun p (BlockTask b))) (record { tag_is = refl; leads = pushed T fs p (PendingLast last) (TreeRun p (BlockTask b)) _ refl })
expr_begins eq T a s w thread count numbers p (RaiseTree e place) fs h = silent eq T a s fs _ (tree_moved Silent (push p PendingRaise fs) (TreeRun p (ExprTask e))) (record { tag_is = refl; leads = pushed T fs p PendingRaise (TreeRun p (ExprTask e)) _ refl })
expr_begins eq T a s w thread count numbers p (CloneTree es place) fs h = args_right eq T a s w fs ToClone p [] es
expr_begins eq T a s w thread count numbers p (RedirectTree o q place) fs h = args_right eq T a s w fs ToRedirect p [] (AnExpr o (AnExpr q NoExprs))
expr_begins eq T a s w thread count numbers p (ChainTree e links) fs h =
    of_term eq T a s _ _ (going_on Silent p links e fs) (ap (plug (frames_of T fs)) (chain_read T p links (open_expr (writer_at T p) (outside_at T p) (names_at p) e))) (silent eq T a s fs _ (going_on Silent p links e fs) (chain_starts T fs Silent p links e))
expr_begins eq T a s w thread count numbers p (SuffixedTree e ss) fs h = suffixed eq T a s w p e ss fs (called_row (outside_at T p) (names_at p) e ss)
expr_begins eq T a s w thread count numbers p (ObjectTree flags fields place) fs h = fields_begin eq T a s p flags [] fields fs

assign_around : {R : Type 0} → (T : Table R) (p : Place R) (x : Bytes) (e : ExprTree) (place : ℕ) (is : ItemTrees) (fs : List (TreeFrame R)) → plug (frames_of T fs) (items_at T p (AnItem (AssignItem x e place) is)) ≡ plug (frames_of T (with_items p is fs)) (Form Assign (Part (expr_at T p e) (Part (target_at T p x) End)))
assign_around T p x e place NoItems fs = refl
assign_around T p x e place (AnItem j is) fs = sym (plug_append (frames_of T fs) (pending_frames T p (PendingThen (AnItem j is))) _)

field_around : {R : Type 0} → (T : Table R) (p : Place R) (o : ExprTree) (x : Bytes) (body : FieldTree) (place : ℕ) (is : ItemTrees) (fs : List (TreeFrame R)) → plug (frames_of T fs) (items_at T p (AnItem (FieldItem o x body place) is)) ≡ plug (frames_of T (with_items p is fs)) (fill (field_frame T p x body) (expr_at T p o))
field_around T p o x body place NoItems fs = ap (plug (frames_of T fs)) (field_read T p x body (open_expr (writer_at T p) (outside_at T p) (names_at p) o))
field_around T p o x body place (AnItem j is) fs =
    ap (λ (u : Term _). plug (frames_of T fs) (Form Then (Part u (Part (items_at T p (AnItem j is)) End)))) (field_read T p x body (open_expr (writer_at T p) (outside_at T p) (names_at p) o))
    ∙ sym (plug_append (frames_of T fs) (pending_frames T p (PendingThen (AnItem j is))) _)

index_around : {R : Type 0} → (T : Table R) (p : Place R) (o i e : ExprTree) (place : ℕ) (is : ItemTrees) (fs : List (TreeFrame R)) → plug (frames_of T fs) (items_at T p (AnItem (IndexItem o i e place) is)) ≡ plug (frames_of T (with_items p is fs)) (Form SetIndex (exprs_at T p (AnExpr o (AnExpr i (AnExpr e NoExprs)))))
index_around T p o i e place NoItems fs = refl
index_around T p o i e place (AnItem j is) fs = sym (plug_append (frames_of T fs) (pending_frames T p (PendingThen (AnItem j is))) _)

count_with_items : {R : Type 0} → (a : ℕ) (p : Place R) (is : ItemTrees) (fs : List (TreeFrame R)) → count_activations a (with_items p is fs) ≡ count_activations a fs
count_with_items a p NoItems fs = refl
count_with_items a p (AnItem i is) fs = refl

items_begin : {R : Type 0} → (eq : R → R → Bool) (T : Table R) (a : ℕ) (s : Self R) → IsMadeTable T → (thread count : ℕ) (numbers : List CodeNo) (p : Place R) (is : ItemTrees) (fs : List (TreeFrame R)) → HintItems T numbers p is
    → Moves eq T a s (plug (frames_of T fs) (items_at T p is)) (begin_items T (count_activations a fs) thread count numbers p is fs)
items_begin eq T a s w thread count numbers p NoItems fs h = silent eq T a s fs _ (tree_moved Silent fs (TreeValue OkayValue)) (record { tag_is = refl; leads = here T fs (TreeValue OkayValue) _ refl })
items_begin eq T a s w thread count numbers p (AnItem (LetItem bs place) is) fs h = silent eq T a s fs _ (begin_binds Silent p bs is fs) (binds_start T fs Silent p bs is)
items_begin eq T a s w thread count numbers p (AnItem (VarItem bs place) is) fs h = silent eq T a s fs _ (begin_vars Silent p bs is fs) (vars_start T fs Silent p bs is)
items_begin eq T a s w thread count numbers p (AnItem (LetRecItem bs place) is) fs h = letrec_begins eq T a s w thread count numbers p bs place is fs h
items_begin eq T a s w thread count numbers p (AnItem (PlainItem e) NoItems) fs h = expr_begins eq T a s w thread count numbers p e fs h
items_begin eq T a s w thread count numbers p (AnItem (PlainItem e) (AnItem i is)) fs h =
    of_term eq T a s _ _ (begin_expr T (count_activations a fs) thread count numbers p e (push p (PendingThen (AnItem i is)) fs)) (sym (plug_append (frames_of T fs) (pending_frames T p (PendingThen (AnItem i is))) (expr_at T p e))) (expr_begins eq T a s w thread count numbers p e (push p (PendingThen (AnItem i is)) fs) h)
items_begin eq T a s w thread count numbers p (AnItem (AssignItem x e place) is) fs h =
    of_term eq T a s _ _ (tree_moved Silent (push p (PendingAssign x) (with_items p is fs)) (TreeRun p (ExprTask e))) (assign_around T p x e place is fs)
    (silent eq T a s (with_items p is fs) _ (tree_moved Silent (push p (PendingAssign x) (with_items p is fs)) (TreeRun p (ExprTask e))) (record { tag_is = refl; leads = pushed T (with_items p is fs) p (PendingAssign x) (TreeRun p (ExprTask e)) _ refl }))
items_begin eq T a s w thread count numbers p (AnItem (FieldItem o x body place) is) fs h =
    of_term eq T a s _ _ (tree_moved Silent (push p (PendingField x body) (with_items p is fs)) (TreeRun p (ExprTask o))) (field_around T p o x body place is fs)
    (silent eq T a s (with_items p is fs) _ (tree_moved Silent (push p (PendingField x body) (with_items p is fs)) (TreeRun p (ExprTask o))) (record { tag_is = refl; leads = pushed T (with_items p is fs) p (PendingField x body) (TreeRun p (ExprTask o)) _ refl }))
items_begin {R} eq T a s w thread count numbers p (AnItem (IndexItem o i e place) is) fs h =
    of_term eq T a s _ _ (begin_args T (count_activations a fs) ToSetIndex p [] (AnExpr o (AnExpr i (AnExpr e NoExprs))) (with_items p is fs)) (index_around T p o i e place is fs)
    (subst (λ (n : ℕ). Moves eq T a s (plug (frames_of T (with_items p is fs)) (Form SetIndex (exprs_at T p (AnExpr o (AnExpr i (AnExpr e NoExprs)))))) (begin_args T n ToSetIndex p [] (AnExpr o (AnExpr i (AnExpr e NoExprs))) (with_items p is fs)))
    (count_with_items a p is fs) (args_right eq T a s w (with_items p is fs) ToSetIndex p [] (AnExpr o (AnExpr i (AnExpr e NoExprs)))))

block_begins : {R : Type 0} → (eq : R → R → Bool) (T : Table R) (a : ℕ) (s : Self R) (p : Place R) (b : BlockTree) (fs : List (TreeFrame R)) → Moves eq T a s (plug (frames_of T fs) (block_at T p b)) (begin_block p b fs)
block_begins eq T a s p (BlockOf NoItems place) fs = to_here eq T a s fs _ (TreeValue OkayValue) refl
block_begins eq T a s p (BlockOf (AnItem i is) place) fs = silent eq T a s fs _ (tree_moved Silent fs (TreeRun p (ItemsTask (AnItem i is)))) (record { tag_is = refl; leads = here T fs (TreeRun p (ItemsTask (AnItem i is))) _ refl })

pub task_begins : {R : Type 0} → (eq : R → R → Bool) (T : Table R) (a : ℕ) (s : Self R) → IsMadeTable T → (thread count : ℕ) (numbers : List CodeNo) (p : Place R) (task : Task) (fs : List (TreeFrame R)) → HintTask T numbers p task
    → Moves eq T a s (plug (frames_of T fs) (task_term T p task)) (begin_task T (count_activations a fs) thread count numbers p task fs)
task_begins eq T a s w thread count numbers p (ExprTask e) fs h = expr_begins eq T a s w thread count numbers p e fs h
task_begins eq T a s w thread count numbers p (BlockTask b) fs h = block_begins eq T a s p b fs
task_begins eq T a s w thread count numbers p (ItemsTask is) fs h = items_begin eq T a s w thread count numbers p is fs h
