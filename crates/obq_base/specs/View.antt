-- The plain data that a syntax tree stands for, reached by the one generated fold. The fold takes its arguments by name:
-- the enums, then the structs, so all folds stand in this file.
use Rattle.std.specs.Prelude.{ℕ, List, [], ◌∷◌, map, Option, Some, None}
use Rattle.obq_base.specs.declared.trees.Operator.{Operator}
use Rattle.obq_base.specs.declared.trees.Expr.{Expr, Expr-F, fold-Expr}
use Rattle.obq_base.specs.declared.trees.FieldExpr.{FieldExpr, FieldExpr-F, fold-FieldExpr}
use Rattle.obq_base.specs.declared.trees.Item.{Item, Item-F, fold-Item}
use Rattle.obq_base.specs.declared.trees.Suffix.{Suffix, Suffix-F, fold-Suffix}
use Rattle.obq_base.specs.declared.trees.Arm.{Arm, Arm-F, fold-Arm}
use Rattle.obq_base.specs.declared.trees.Bind.{Bind, Bind-F, fold-Bind}
use Rattle.obq_base.specs.declared.trees.Block.{Block, Block-F, fold-Block}
use Rattle.obq_base.specs.declared.trees.Field.{Field, Field-F, fold-Field}
use Rattle.obq_base.specs.declared.trees.Link.{Link, Link-F, fold-Link}
use Rattle.obq_base.specs.declared.trees.Proc.{Proc, Proc-F, fold-Proc}
use Rattle.obq_base.specs.declared.trees.RecBind.{RecBind, RecBind-F, fold-RecBind}
use Rattle.obq_base.specs.Tree.{BlockTree, BlockOf, MaybeBlock, NoBlock, ABlock, ItemTrees, NoItems, AnItem, ItemTree, LetItem, VarItem, LetRecItem, AssignItem, FieldItem, IndexItem, PlainItem, BindTrees, NoBinds, ABind, RecBindTrees, NoRecBinds, ARecBind, ProcedureTree, AProc, FieldTree, ValueOf, MethodOf, AliasOf, ExprTree, IntTree, TextTree, TruthTree, OkTree, NameTree, ProcTree, ArrayTree, ObjectTree, IfTree, LoopTree, ExitTree, ForTree, ForeachTree, TryTree, FinallyTree, RaiseTree, WatchTree, RedirectTree, CloneTree, ChainTree, SuffixedTree, ExprTrees, NoExprs, AnExpr, LinkTrees, NoLinks, ALink, SuffixTree, ApplySuffix, SelectSuffix, InvokeSuffix, IndexSuffix, SuffixTrees, NoSuffixes, ASuffix, ArmTrees, NoArms, AnArm, FieldTrees, NoFields, AField}

-- the parts of a struct that stands in a list
abbrev pub ArmPair : Type 0
ArmPair = ExprTree × BlockTree

abbrev pub BindPart : Type 0
BindPart = List ℕ × ExprTree × ℕ

abbrev pub FieldPart : Type 0
FieldPart = List ℕ × FieldTree × ℕ

abbrev pub LinkPart : Type 0
LinkPart = Operator × ExprTree × ℕ

abbrev pub RecBindPart : Type 0
RecBindPart = List ℕ × ProcedureTree × ℕ

-- lists as lists of their own
abbrev pub exprs_of : List ExprTree → ExprTrees
exprs_of [] = NoExprs
exprs_of (t ∷ ts) = AnExpr t (exprs_of ts)

abbrev pub items_of : List ItemTree → ItemTrees
items_of [] = NoItems
items_of (t ∷ ts) = AnItem t (items_of ts)

abbrev pub arms_of : List ArmPair → ArmTrees
arms_of [] = NoArms
arms_of (t ∷ ts) = AnArm t.0 t.1 (arms_of ts)

abbrev pub binds_of : List BindPart → BindTrees
binds_of [] = NoBinds
binds_of (t ∷ ts) = ABind t.0 t.1 t.2 (binds_of ts)

abbrev pub fields_of : List FieldPart → FieldTrees
fields_of [] = NoFields
fields_of (t ∷ ts) = AField t.0 t.1 t.2 (fields_of ts)

abbrev pub links_of : List LinkPart → LinkTrees
links_of [] = NoLinks
links_of (t ∷ ts) = ALink t.0 t.1 t.2 (links_of ts)

abbrev pub rec_binds_of : List RecBindPart → RecBindTrees
rec_binds_of [] = NoRecBinds
rec_binds_of (t ∷ ts) = ARecBind t.0 t.1 t.2 (rec_binds_of ts)

abbrev pub suffixes_of : List SuffixTree → SuffixTrees
suffixes_of [] = NoSuffixes
suffixes_of (t ∷ ts) = ASuffix t (suffixes_of ts)

abbrev pub maybe_of : Option BlockTree → MaybeBlock
maybe_of None = NoBlock
maybe_of (Some b) = ABlock b

-- one level of each type, with its parts already seen as their data
abbrev pub expr_step : Expr-F ExprTree FieldTree ItemTree SuffixTree ArmPair BindPart BlockTree FieldPart LinkPart ProcedureTree RecBindPart → ExprTree
expr_step (Expr-F.Int value place) = IntTree value place
expr_step (Expr-F.Str text place) = TextTree text place
expr_step (Expr-F.Truth value place) = TruthTree value place
expr_step (Expr-F.Okay place) = OkTree place
expr_step (Expr-F.Use name place) = NameTree name place
expr_step (Expr-F.Procedure p) = ProcTree p
expr_step (Expr-F.Array items place) = ArrayTree (exprs_of items) place
expr_step (Expr-F.Object flags fields place) = ObjectTree flags (fields_of fields) place
expr_step (Expr-F.If arms last place) = IfTree (arms_of arms) (maybe_of last) place
expr_step (Expr-F.Loop body place) = LoopTree body place
expr_step (Expr-F.Exit place) = ExitTree place
expr_step (Expr-F.For name from to body place) = ForTree name from to body place
expr_step (Expr-F.Foreach name array body place) = ForeachTree name array body place
expr_step (Expr-F.Try body arms last place) = TryTree body (arms_of arms) (maybe_of last) place
expr_step (Expr-F.Finally body last place) = FinallyTree body last place
expr_step (Expr-F.Raise value place) = RaiseTree value place
expr_step (Expr-F.Watch condition guard place) = WatchTree condition guard place
expr_step (Expr-F.Redirect object target place) = RedirectTree object target place
expr_step (Expr-F.Clone objects place) = CloneTree (exprs_of objects) place
expr_step (Expr-F.Chain first links) = ChainTree first (links_of links)
expr_step (Expr-F.Suffixed head suffixes) = SuffixedTree head (suffixes_of suffixes)

abbrev pub field_expr_step : FieldExpr-F ExprTree FieldTree ItemTree SuffixTree ArmPair BindPart BlockTree FieldPart LinkPart ProcedureTree RecBindPart → FieldTree
field_expr_step (FieldExpr-F.Value e) = ValueOf e
field_expr_step (FieldExpr-F.Method p) = MethodOf p
field_expr_step (FieldExpr-F.Alias name target place) = AliasOf name target place

abbrev pub item_step : Item-F ExprTree FieldTree ItemTree SuffixTree ArmPair BindPart BlockTree FieldPart LinkPart ProcedureTree RecBindPart → ItemTree
item_step (Item-F.Let binds place) = LetItem (binds_of binds) place
item_step (Item-F.Var binds place) = VarItem (binds_of binds) place
item_step (Item-F.LetRec binds place) = LetRecItem (rec_binds_of binds) place
item_step (Item-F.Assign name value place) = AssignItem name value place
item_step (Item-F.SetField object name body place) = FieldItem object name body place
item_step (Item-F.SetItem array index value place) = IndexItem array index value place
item_step (Item-F.Plain e) = PlainItem e

abbrev pub suffix_step : Suffix-F ExprTree FieldTree ItemTree SuffixTree ArmPair BindPart BlockTree FieldPart LinkPart ProcedureTree RecBindPart → SuffixTree
suffix_step (Suffix-F.Apply arguments place) = ApplySuffix (exprs_of arguments) place
suffix_step (Suffix-F.Select name place) = SelectSuffix name place
suffix_step (Suffix-F.Invoke name arguments place) = InvokeSuffix name (exprs_of arguments) place
suffix_step (Suffix-F.Index index place) = IndexSuffix index place

abbrev pub arm_step : Arm-F ExprTree FieldTree ItemTree SuffixTree ArmPair BindPart BlockTree FieldPart LinkPart ProcedureTree RecBindPart → ArmPair
arm_step a = (a.test, a.body)

abbrev pub bind_step : Bind-F ExprTree FieldTree ItemTree SuffixTree ArmPair BindPart BlockTree FieldPart LinkPart ProcedureTree RecBindPart → BindPart
bind_step b = (b.name, b.value, b.place)

abbrev pub block_step : Block-F ExprTree FieldTree ItemTree SuffixTree ArmPair BindPart BlockTree FieldPart LinkPart ProcedureTree RecBindPart → BlockTree
block_step b = BlockOf (items_of b.items) b.place

abbrev pub field_step : Field-F ExprTree FieldTree ItemTree SuffixTree ArmPair BindPart BlockTree FieldPart LinkPart ProcedureTree RecBindPart → FieldPart
field_step f = (f.name, f.body, f.place)

abbrev pub link_step : Link-F ExprTree FieldTree ItemTree SuffixTree ArmPair BindPart BlockTree FieldPart LinkPart ProcedureTree RecBindPart → LinkPart
link_step l = (l.operator, l.operand, l.place)

abbrev pub proc_step : Proc-F ExprTree FieldTree ItemTree SuffixTree ArmPair BindPart BlockTree FieldPart LinkPart ProcedureTree RecBindPart → ProcedureTree
proc_step p = AProc p.parameters p.body p.place

abbrev pub rec_bind_step : RecBind-F ExprTree FieldTree ItemTree SuffixTree ArmPair BindPart BlockTree FieldPart LinkPart ProcedureTree RecBindPart → RecBindPart
rec_bind_step r = (r.name, r.procedure, r.place)

-- the data of each type
abbrev pub expr_tree : Expr → ExprTree
expr_tree = fold-Expr ExprTree FieldTree ItemTree SuffixTree ArmPair BindPart BlockTree FieldPart LinkPart ProcedureTree RecBindPart expr_step field_expr_step item_step suffix_step arm_step bind_step block_step field_step link_step proc_step rec_bind_step

abbrev pub field_tree : FieldExpr → FieldTree
field_tree = fold-FieldExpr ExprTree FieldTree ItemTree SuffixTree ArmPair BindPart BlockTree FieldPart LinkPart ProcedureTree RecBindPart expr_step field_expr_step item_step suffix_step arm_step bind_step block_step field_step link_step proc_step rec_bind_step

abbrev pub item_tree : Item → ItemTree
item_tree = fold-Item ExprTree FieldTree ItemTree SuffixTree ArmPair BindPart BlockTree FieldPart LinkPart ProcedureTree RecBindPart expr_step field_expr_step item_step suffix_step arm_step bind_step block_step field_step link_step proc_step rec_bind_step

abbrev pub suffix_tree : Suffix → SuffixTree
suffix_tree = fold-Suffix ExprTree FieldTree ItemTree SuffixTree ArmPair BindPart BlockTree FieldPart LinkPart ProcedureTree RecBindPart expr_step field_expr_step item_step suffix_step arm_step bind_step block_step field_step link_step proc_step rec_bind_step

abbrev pub arm_pair : Arm → ArmPair
arm_pair = fold-Arm ExprTree FieldTree ItemTree SuffixTree ArmPair BindPart BlockTree FieldPart LinkPart ProcedureTree RecBindPart expr_step field_expr_step item_step suffix_step arm_step bind_step block_step field_step link_step proc_step rec_bind_step

abbrev pub bind_part : Bind → BindPart
bind_part = fold-Bind ExprTree FieldTree ItemTree SuffixTree ArmPair BindPart BlockTree FieldPart LinkPart ProcedureTree RecBindPart expr_step field_expr_step item_step suffix_step arm_step bind_step block_step field_step link_step proc_step rec_bind_step

abbrev pub block_tree : Block → BlockTree
block_tree = fold-Block ExprTree FieldTree ItemTree SuffixTree ArmPair BindPart BlockTree FieldPart LinkPart ProcedureTree RecBindPart expr_step field_expr_step item_step suffix_step arm_step bind_step block_step field_step link_step proc_step rec_bind_step

abbrev pub field_part : Field → FieldPart
field_part = fold-Field ExprTree FieldTree ItemTree SuffixTree ArmPair BindPart BlockTree FieldPart LinkPart ProcedureTree RecBindPart expr_step field_expr_step item_step suffix_step arm_step bind_step block_step field_step link_step proc_step rec_bind_step

abbrev pub link_part : Link → LinkPart
link_part = fold-Link ExprTree FieldTree ItemTree SuffixTree ArmPair BindPart BlockTree FieldPart LinkPart ProcedureTree RecBindPart expr_step field_expr_step item_step suffix_step arm_step bind_step block_step field_step link_step proc_step rec_bind_step

abbrev pub procedure_tree : Proc → ProcedureTree
procedure_tree = fold-Proc ExprTree FieldTree ItemTree SuffixTree ArmPair BindPart BlockTree FieldPart LinkPart ProcedureTree RecBindPart expr_step field_expr_step item_step suffix_step arm_step bind_step block_step field_step link_step proc_step rec_bind_step

abbrev pub rec_bind_part : RecBind → RecBindPart
rec_bind_part = fold-RecBind ExprTree FieldTree ItemTree SuffixTree ArmPair BindPart BlockTree FieldPart LinkPart ProcedureTree RecBindPart expr_step field_expr_step item_step suffix_step arm_step bind_step block_step field_step link_step proc_step rec_bind_step

-- the data of lists
abbrev pub expr_trees : List Expr → ExprTrees
expr_trees xs = exprs_of (map expr_tree xs)

abbrev pub item_trees : List Item → ItemTrees
item_trees xs = items_of (map item_tree xs)

abbrev pub suffix_trees : List Suffix → SuffixTrees
suffix_trees xs = suffixes_of (map suffix_tree xs)

abbrev pub arm_trees : List Arm → ArmTrees
arm_trees xs = arms_of (map arm_pair xs)

abbrev pub bind_trees : List Bind → BindTrees
bind_trees xs = binds_of (map bind_part xs)

abbrev pub field_trees : List Field → FieldTrees
field_trees xs = fields_of (map field_part xs)

abbrev pub link_trees : List Link → LinkTrees
link_trees xs = links_of (map link_part xs)

abbrev pub rec_bind_trees : List RecBind → RecBindTrees
rec_bind_trees xs = rec_binds_of (map rec_bind_part xs)

abbrev pub maybe_tree : Option Block → MaybeBlock
maybe_tree None = NoBlock
maybe_tree (Some b) = ABlock (block_tree b)
