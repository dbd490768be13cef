-- The plain data of each node of a tree.
use Rattle.std.proofs.Common.{Bool, List, Option, rules, ℕ, ℤ, ◌≡◌}
use Rattle.obq_base.specs.declared.trees.Arm.{Arm}
use Rattle.obq_base.specs.declared.trees.Arm.{the_lemmas as of_arm}
use Rattle.obq_base.specs.declared.trees.Bind.{Bind}
use Rattle.obq_base.specs.declared.trees.Bind.{the_lemmas as of_bind}
use Rattle.obq_base.specs.declared.trees.Block.{Block}
use Rattle.obq_base.specs.declared.trees.Block.{the_lemmas as of_block}
use Rattle.obq_base.specs.declared.trees.Expr.{Expr}
use Rattle.obq_base.specs.declared.trees.Expr.{the_lemmas as of_expr}
use Rattle.obq_base.specs.declared.trees.Expr.TheVariants as e
use Rattle.obq_base.specs.declared.trees.Field.{Field}
use Rattle.obq_base.specs.declared.trees.Field.{the_lemmas as of_part}
use Rattle.obq_base.specs.declared.trees.FieldExpr.{FieldExpr}
use Rattle.obq_base.specs.declared.trees.FieldExpr.{the_lemmas as of_field}
use Rattle.obq_base.specs.declared.trees.FieldExpr.TheVariants as b
use Rattle.obq_base.specs.declared.trees.Flags.{Flags}
use Rattle.obq_base.specs.declared.trees.Item.{Item}
use Rattle.obq_base.specs.declared.trees.Item.{the_lemmas as of_item}
use Rattle.obq_base.specs.declared.trees.Item.TheVariants as i
use Rattle.obq_base.specs.declared.trees.Link.{Link}
use Rattle.obq_base.specs.declared.trees.Link.{the_lemmas as of_link}
use Rattle.obq_base.specs.declared.trees.Operator.{Operator}
use Rattle.obq_base.specs.declared.trees.Proc.{Proc}
use Rattle.obq_base.specs.declared.trees.Proc.{the_lemmas as of_proc}
use Rattle.obq_base.specs.declared.trees.RecBind.{RecBind}
use Rattle.obq_base.specs.declared.trees.RecBind.{the_lemmas as of_rec_bind}
use Rattle.obq_base.specs.declared.trees.Suffix.{Suffix}
use Rattle.obq_base.specs.declared.trees.Suffix.{the_lemmas as of_suffix}
use Rattle.obq_base.specs.declared.trees.Suffix.TheVariants as s
use Rattle.obq_base.specs.Tree.{AProc, AliasOf, ApplySuffix, ArrayTree, AssignItem, BlockOf, ChainTree, CloneTree, ExitTree, FieldItem, FinallyTree, ForTree, ForeachTree, IfTree, IndexItem, IndexSuffix, IntTree, InvokeSuffix, LetItem, LetRecItem, LoopTree, MethodOf, NameTree, ObjectTree, OkTree, PlainItem, ProcTree, RaiseTree, RedirectTree, SelectSuffix, SuffixedTree, TextTree, TruthTree, TryTree, ValueOf, VarItem, WatchTree}
use Rattle.obq_base.specs.View.{arm_pair, arm_trees, bind_part, bind_trees, block_tree, expr_tree, expr_trees, field_part, field_tree, field_trees, item_tree, item_trees, link_part, link_trees, maybe_tree, procedure_tree, rec_bind_part, rec_bind_trees, suffix_tree, suffix_trees}
use Rattle.obq_model.specs.Nodes.{arm, bind, block, field, link, procedure, rec_bind}

pub expr_int_is : (z : ℤ) (p : ℕ) → expr_tree (e.Int z p) ≡ IntTree z p
expr_int_is z p = search (rules, of_expr)

pub expr_str_is : (t : List ℕ) (p : ℕ) → expr_tree (e.Str t p) ≡ TextTree t p
expr_str_is t p = search (rules, of_expr)

pub expr_truth_is : (b : Bool) (p : ℕ) → expr_tree (e.Truth b p) ≡ TruthTree b p
expr_truth_is b p = search (rules, of_expr)

pub expr_okay_is : (p : ℕ) → expr_tree (e.Okay p) ≡ OkTree p
expr_okay_is p = search (rules, of_expr)

pub expr_use_is : (n : List ℕ) (p : ℕ) → expr_tree (e.Use n p) ≡ NameTree n p
expr_use_is n p = search (rules, of_expr)

pub expr_procedure_is : (f : Proc) → expr_tree (e.Procedure f) ≡ ProcTree (procedure_tree f)
expr_procedure_is f = search (rules, of_expr)

pub expr_array_is : (vs : List Expr) (p : ℕ) → expr_tree (e.Array vs p) ≡ ArrayTree (expr_trees vs) p
expr_array_is vs p = search (rules, of_expr)

pub expr_object_is : (f : Flags) (fs : List Field) (p : ℕ) → expr_tree (e.Object f fs p) ≡ ObjectTree f (field_trees fs) p
expr_object_is f fs p = search (rules, of_expr)

pub expr_if_is : (ms : List Arm) (l : Option Block) (p : ℕ) → expr_tree (e.If ms l p) ≡ IfTree (arm_trees ms) (maybe_tree l) p
expr_if_is ms l p = search (rules, of_expr)

pub expr_loop_is : (b : Block) (p : ℕ) → expr_tree (e.Loop b p) ≡ LoopTree (block_tree b) p
expr_loop_is b p = search (rules, of_expr)

pub expr_exit_is : (p : ℕ) → expr_tree (e.Exit p) ≡ ExitTree p
expr_exit_is p = search (rules, of_expr)

pub expr_for_is : (n : List ℕ) (v : Expr) (w : Expr) (b : Block) (p : ℕ) → expr_tree (e.For n v w b p) ≡ ForTree n (expr_tree v) (expr_tree w) (block_tree b) p
expr_for_is n v w b p = search (rules, of_expr)

pub expr_foreach_is : (n : List ℕ) (v : Expr) (b : Block) (p : ℕ) → expr_tree (e.Foreach n v b p) ≡ ForeachTree n (expr_tree v) (block_tree b) p
expr_foreach_is n v b p = search (rules, of_expr)

pub expr_try_is : (b : Block) (ms : List Arm) (l : Option Block) (p : ℕ) → expr_tree (e.Try b ms l p) ≡ TryTree (block_tree b) (arm_trees ms) (maybe_tree l) p
expr_try_is b ms l p = search (rules, of_expr)

pub expr_finally_is : (b : Block) (l : Block) (p : ℕ) → expr_tree (e.Finally b l p) ≡ FinallyTree (block_tree b) (block_tree l) p
expr_finally_is b l p = search (rules, of_expr)

pub expr_raise_is : (v : Expr) (p : ℕ) → expr_tree (e.Raise v p) ≡ RaiseTree (expr_tree v) p
expr_raise_is v p = search (rules, of_expr)

pub expr_watch_is : (v : Expr) (w : Expr) (p : ℕ) → expr_tree (e.Watch v w p) ≡ WatchTree (expr_tree v) (expr_tree w) p
expr_watch_is v w p = search (rules, of_expr)

pub expr_redirect_is : (v : Expr) (w : Expr) (p : ℕ) → expr_tree (e.Redirect v w p) ≡ RedirectTree (expr_tree v) (expr_tree w) p
expr_redirect_is v w p = search (rules, of_expr)

pub expr_clone_is : (vs : List Expr) (p : ℕ) → expr_tree (e.Clone vs p) ≡ CloneTree (expr_trees vs) p
expr_clone_is vs p = search (rules, of_expr)

pub expr_chain_is : (v : Expr) (ls : List Link) → expr_tree (e.Chain v ls) ≡ ChainTree (expr_tree v) (link_trees ls)
expr_chain_is v ls = search (rules, of_expr)

pub expr_suffixed_is : (v : Expr) (ss : List Suffix) → expr_tree (e.Suffixed v ss) ≡ SuffixedTree (expr_tree v) (suffix_trees ss)
expr_suffixed_is v ss = search (rules, of_expr)

pub item_let_is : (bs : List Bind) (p : ℕ) → item_tree (i.Let bs p) ≡ LetItem (bind_trees bs) p
item_let_is bs p = search (rules, of_item)

pub item_var_is : (bs : List Bind) (p : ℕ) → item_tree (i.Var bs p) ≡ VarItem (bind_trees bs) p
item_var_is bs p = search (rules, of_item)

pub item_letrec_is : (rs : List RecBind) (p : ℕ) → item_tree (i.LetRec rs p) ≡ LetRecItem (rec_bind_trees rs) p
item_letrec_is rs p = search (rules, of_item)

pub item_assign_is : (n : List ℕ) (v : Expr) (p : ℕ) → item_tree (i.Assign n v p) ≡ AssignItem n (expr_tree v) p
item_assign_is n v p = search (rules, of_item)

pub item_setfield_is : (v : Expr) (n : List ℕ) (d : FieldExpr) (p : ℕ) → item_tree (i.SetField v n d p) ≡ FieldItem (expr_tree v) n (field_tree d) p
item_setfield_is v n d p = search (rules, of_item)

pub item_setitem_is : (v : Expr) (w : Expr) (u : Expr) (p : ℕ) → item_tree (i.SetItem v w u p) ≡ IndexItem (expr_tree v) (expr_tree w) (expr_tree u) p
item_setitem_is v w u p = search (rules, of_item)

pub item_plain_is : (v : Expr) → item_tree (i.Plain v) ≡ PlainItem (expr_tree v)
item_plain_is v = search (rules, of_item)

pub suffix_apply_is : (vs : List Expr) (p : ℕ) → suffix_tree (s.Apply vs p) ≡ ApplySuffix (expr_trees vs) p
suffix_apply_is vs p = search (rules, of_suffix)

pub suffix_select_is : (n : List ℕ) (p : ℕ) → suffix_tree (s.Select n p) ≡ SelectSuffix n p
suffix_select_is n p = search (rules, of_suffix)

pub suffix_invoke_is : (n : List ℕ) (vs : List Expr) (p : ℕ) → suffix_tree (s.Invoke n vs p) ≡ InvokeSuffix n (expr_trees vs) p
suffix_invoke_is n vs p = search (rules, of_suffix)

pub suffix_index_is : (v : Expr) (p : ℕ) → suffix_tree (s.Index v p) ≡ IndexSuffix (expr_tree v) p
suffix_index_is v p = search (rules, of_suffix)

pub field_value_is : (v : Expr) → field_tree (b.Value v) ≡ ValueOf (expr_tree v)
field_value_is v = search (rules, of_field)

pub field_method_is : (f : Proc) → field_tree (b.Method f) ≡ MethodOf (procedure_tree f)
field_method_is f = search (rules, of_field)

pub field_alias_is : (n : List ℕ) (v : Expr) (p : ℕ) → field_tree (b.Alias n v p) ≡ AliasOf n (expr_tree v) p
field_alias_is n v p = search (rules, of_field)

pub block_is : (is : List Item) (p : ℕ) → block_tree (block is p) ≡ BlockOf (item_trees is) p
block_is is p = search (rules, of_block)

pub bind_is : (n : List ℕ) (v : Expr) (p : ℕ) → bind_part (bind n v p) ≡ (n, expr_tree v, p)
bind_is n v p = search (rules, of_bind)

pub rec_bind_is : (n : List ℕ) (f : Proc) (p : ℕ) → rec_bind_part (rec_bind n f p) ≡ (n, procedure_tree f, p)
rec_bind_is n f p = search (rules, of_rec_bind)

pub procedure_is : (ns : List (List ℕ)) (b : Block) (p : ℕ) → procedure_tree (procedure ns b p) ≡ AProc ns (block_tree b) p
procedure_is ns b p = search (rules, of_proc)

pub arm_is : (v : Expr) (b : Block) → arm_pair (arm v b) ≡ (expr_tree v, block_tree b)
arm_is v b = search (rules, of_arm)

pub field_part_is : (n : List ℕ) (d : FieldExpr) (p : ℕ) → field_part (field n d p) ≡ (n, field_tree d, p)
field_part_is n d p = search (rules, of_part)

pub link_is : (o : Operator) (v : Expr) (p : ℕ) → link_part (link o v p) ≡ (o, expr_tree v, p)
link_is o v p = search (rules, of_link)
