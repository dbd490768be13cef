-- The size of a tree: how many items, binds, arguments, arms, suffixes, parameters, procedures and names that are bound or occur it has.
-- No number in its code is larger.
use Rattle.std.specs.Prelude.{length, ℕ, ◌+◌}
use Rattle.obq_base.specs.Tree.{BlockTree, BlockOf, MaybeBlock, NoBlock, ABlock, ItemTrees, NoItems, AnItem, ItemTree, LetItem, VarItem, LetRecItem, AssignItem, FieldItem, IndexItem, PlainItem, BindTrees, NoBinds, ABind, RecBindTrees, NoRecBinds, ARecBind, ProcedureTree, AProc, FieldTree, ValueOf, MethodOf, AliasOf, ExprTree, IntTree, TextTree, TruthTree, OkTree, NameTree, ProcTree, ArrayTree, ObjectTree, IfTree, LoopTree, ExitTree, ForTree, ForeachTree, TryTree, FinallyTree, RaiseTree, WatchTree, RedirectTree, CloneTree, ChainTree, SuffixedTree, ExprTrees, NoExprs, AnExpr, LinkTrees, NoLinks, ALink, SuffixTree, ApplySuffix, SelectSuffix, InvokeSuffix, IndexSuffix, SuffixTrees, NoSuffixes, ASuffix, ArmTrees, NoArms, AnArm, FieldTrees, NoFields, AField}

abbrev mutual
  pub size_block : BlockTree → ℕ
  size_block (BlockOf is place) = size_items is

  pub size_maybe : MaybeBlock → ℕ
  size_maybe NoBlock = 0
  size_maybe (ABlock b) = size_block b

  pub size_items : ItemTrees → ℕ
  size_items NoItems = 0
  size_items (AnItem i is) = (1 + size_item i) + size_items is

  pub size_item : ItemTree → ℕ
  size_item (LetItem bs place) = size_binds bs
  size_item (VarItem bs place) = size_binds bs
  size_item (LetRecItem bs place) = size_members bs
  size_item (AssignItem x e place) = 1 + size_expr e
  size_item (FieldItem o x body place) = size_expr o + size_field body
  size_item (IndexItem a i e place) = size_expr a + (size_expr i + size_expr e)
  size_item (PlainItem e) = size_expr e

  pub size_binds : BindTrees → ℕ
  size_binds NoBinds = 0
  size_binds (ABind x e place bs) = size_expr e + (1 + size_binds bs)

  pub size_members : RecBindTrees → ℕ
  size_members NoRecBinds = 0
  size_members (ARecBind x p place bs) = (1 + (1 + size_body p)) + size_members bs

  -- its parameters and its block; where it stands, one more is the procedure itself
  pub size_body : ProcedureTree → ℕ
  size_body (AProc params b place) = length params + size_block b

  pub size_field : FieldTree → ℕ
  size_field (ValueOf e) = size_expr e
  size_field (MethodOf p) = 1 + size_body p
  size_field (AliasOf x e place) = size_expr e

  pub size_expr : ExprTree → ℕ
  size_expr (IntTree z place) = 0
  size_expr (TextTree t place) = 0
  size_expr (TruthTree b place) = 0
  size_expr (OkTree place) = 0
  size_expr (NameTree x place) = 1
  size_expr (ProcTree p) = 1 + size_body p
  size_expr (ArrayTree es place) = size_exprs es
  size_expr (ObjectTree flags fs place) = size_fields fs
  size_expr (IfTree arms last place) = size_arms arms + size_maybe last
  size_expr (LoopTree b place) = size_block b
  size_expr (ExitTree place) = 0
  size_expr (ForTree x m n b place) = size_expr m + (size_expr n + (1 + size_block b))
  size_expr (ForeachTree x e b place) = size_expr e + (1 + size_block b)
  size_expr (TryTree b arms last place) = size_block b + (size_arms arms + size_maybe last)
  size_expr (FinallyTree b last place) = size_block b + size_block last
  size_expr (RaiseTree e place) = size_expr e
  size_expr (WatchTree c g place) = size_expr c + size_expr g
  size_expr (RedirectTree o p place) = size_expr o + size_expr p
  size_expr (CloneTree es place) = size_exprs es
  size_expr (ChainTree e links) = size_expr e + size_links links
  size_expr (SuffixedTree e ss) = size_expr e + size_suffixes ss

  pub size_exprs : ExprTrees → ℕ
  size_exprs NoExprs = 0
  size_exprs (AnExpr e es) = (1 + size_expr e) + size_exprs es

  pub size_links : LinkTrees → ℕ
  size_links NoLinks = 0
  size_links (ALink op e place links) = size_expr e + size_links links

  pub size_suffix : SuffixTree → ℕ
  size_suffix (ApplySuffix es place) = size_exprs es
  size_suffix (SelectSuffix x place) = 0
  size_suffix (InvokeSuffix x es place) = size_exprs es
  size_suffix (IndexSuffix e place) = size_expr e

  pub size_suffixes : SuffixTrees → ℕ
  size_suffixes NoSuffixes = 0
  size_suffixes (ASuffix s ss) = (1 + size_suffix s) + size_suffixes ss

  pub size_arms : ArmTrees → ℕ
  size_arms NoArms = 0
  size_arms (AnArm e b arms) = (1 + (size_expr e + size_block b)) + size_arms arms

  pub size_fields : FieldTrees → ℕ
  size_fields NoFields = 0
  size_fields (AField x body place fs) = size_field body + size_fields fs
