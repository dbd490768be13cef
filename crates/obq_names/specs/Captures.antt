-- What the procedures of a tree capture.
use Rattle.std.specs.Prelude.{List, [], ◌++◌, ◌∷◌}
use Rattle.obq_base.specs.Tree.{BlockTree, BlockOf, MaybeBlock, NoBlock, ABlock, ItemTrees, NoItems, AnItem, ItemTree, LetItem, VarItem, LetRecItem, AssignItem, FieldItem, IndexItem, PlainItem, BindTrees, NoBinds, ABind, RecBindTrees, NoRecBinds, ARecBind, ProcedureTree, AProc, FieldTree, ValueOf, MethodOf, AliasOf, ExprTree, IntTree, TextTree, TruthTree, OkTree, NameTree, ProcTree, ArrayTree, ObjectTree, IfTree, LoopTree, ExitTree, ForTree, ForeachTree, TryTree, FinallyTree, RaiseTree, WatchTree, RedirectTree, CloneTree, ChainTree, SuffixedTree, ExprTrees, NoExprs, AnExpr, LinkTrees, NoLinks, ALink, SuffixTree, ApplySuffix, SelectSuffix, InvokeSuffix, IndexSuffix, SuffixTrees, NoSuffixes, ASuffix, ArmTrees, NoArms, AnArm, FieldTrees, NoFields, AField}
use Rattle.obq_model.specs.Terms.{Bytes}
use Rattle.obq_model.specs.Occurrences.{free_members, free_procedure, item_names, member_names}
use Rattle.obq_names.specs.Union.{covered_names, union}

-- the names that a procedure or method captures where these binders are in force
abbrev pub captured_names : List Bytes → ProcedureTree → List Bytes
captured_names bound p = union [] (covered_names bound (free_procedure [] p))

-- the names that the procedures of a `let rec` capture together
abbrev pub group_names : List Bytes → RecBindTrees → List Bytes
group_names bound bs = union [] (covered_names bound (free_members (member_names bs) bs))

-- what each procedure, method and `let rec` in a tree captures, in the order in which these begin, where these binders are in force at the tree
abbrev mutual
  pub captures_block : List Bytes → BlockTree → List (List Bytes)
  captures_block bound (BlockOf is place) = captures_items bound is

  pub captures_maybe : List Bytes → MaybeBlock → List (List Bytes)
  captures_maybe bound NoBlock = []
  captures_maybe bound (ABlock b) = captures_block bound b

  pub captures_items : List Bytes → ItemTrees → List (List Bytes)
  captures_items bound NoItems = []
  captures_items bound (AnItem i is) = captures_item bound i ++ captures_items (bound ++ item_names i) is

  pub captures_item : List Bytes → ItemTree → List (List Bytes)
  captures_item bound (LetItem bs place) = captures_binds bound bs
  captures_item bound (VarItem bs place) = captures_binds bound bs
  captures_item bound (LetRecItem bs place) = group_names bound bs ∷ captures_members (bound ++ member_names bs) bs
  captures_item bound (AssignItem x e place) = captures_expr bound e
  captures_item bound (FieldItem o x body place) = captures_expr bound o ++ captures_field bound body
  captures_item bound (IndexItem a i e place) = captures_expr bound a ++ (captures_expr bound i ++ captures_expr bound e)
  captures_item bound (PlainItem e) = captures_expr bound e

  pub captures_binds : List Bytes → BindTrees → List (List Bytes)
  captures_binds bound NoBinds = []
  captures_binds bound (ABind x e place bs) = captures_expr bound e ++ captures_binds (bound ++ x ∷ []) bs

  pub captures_members : List Bytes → RecBindTrees → List (List Bytes)
  captures_members bound NoRecBinds = []
  captures_members bound (ARecBind x p place bs) = captures_body bound p ++ captures_members bound bs

  -- those inside a procedure
  pub captures_body : List Bytes → ProcedureTree → List (List Bytes)
  captures_body bound (AProc params b place) = captures_block (bound ++ params) b

  pub captures_field : List Bytes → FieldTree → List (List Bytes)
  captures_field bound (ValueOf e) = captures_expr bound e
  captures_field bound (MethodOf p) = captured_names bound p ∷ captures_body bound p
  captures_field bound (AliasOf x e place) = captures_expr bound e

  pub captures_expr : List Bytes → ExprTree → List (List Bytes)
  captures_expr bound (IntTree z place) = []
  captures_expr bound (TextTree t place) = []
  captures_expr bound (TruthTree b place) = []
  captures_expr bound (OkTree place) = []
  captures_expr bound (NameTree x place) = []
  captures_expr bound (ProcTree p) = captured_names bound p ∷ captures_body bound p
  captures_expr bound (ArrayTree es place) = captures_exprs bound es
  captures_expr bound (ObjectTree flags fs place) = captures_fields bound fs
  captures_expr bound (IfTree arms last place) = captures_arms bound arms ++ captures_maybe bound last
  captures_expr bound (LoopTree b place) = captures_block bound b
  captures_expr bound (ExitTree place) = []
  captures_expr bound (ForTree x m n b place) = captures_expr bound m ++ (captures_expr bound n ++ captures_block (bound ++ x ∷ []) b)
  captures_expr bound (ForeachTree x e b place) = captures_expr bound e ++ captures_block (bound ++ x ∷ []) b
  captures_expr bound (TryTree b arms last place) = captures_block bound b ++ (captures_arms bound arms ++ captures_maybe bound last)
  captures_expr bound (FinallyTree b last place) = captures_block bound b ++ captures_block bound last
  captures_expr bound (RaiseTree e place) = captures_expr bound e
  captures_expr bound (WatchTree c g place) = captures_expr bound c ++ captures_expr bound g
  captures_expr bound (RedirectTree o p place) = captures_expr bound o ++ captures_expr bound p
  captures_expr bound (CloneTree es place) = captures_exprs bound es
  captures_expr bound (ChainTree e links) = captures_expr bound e ++ captures_links bound links
  captures_expr bound (SuffixedTree e ss) = captures_expr bound e ++ captures_suffixes bound ss

  pub captures_exprs : List Bytes → ExprTrees → List (List Bytes)
  captures_exprs bound NoExprs = []
  captures_exprs bound (AnExpr e es) = captures_expr bound e ++ captures_exprs bound es

  pub captures_links : List Bytes → LinkTrees → List (List Bytes)
  captures_links bound NoLinks = []
  captures_links bound (ALink op e place links) = captures_expr bound e ++ captures_links bound links

  pub captures_suffix : List Bytes → SuffixTree → List (List Bytes)
  captures_suffix bound (ApplySuffix es place) = captures_exprs bound es
  captures_suffix bound (SelectSuffix x place) = []
  captures_suffix bound (InvokeSuffix x es place) = captures_exprs bound es
  captures_suffix bound (IndexSuffix e place) = captures_expr bound e

  pub captures_suffixes : List Bytes → SuffixTrees → List (List Bytes)
  captures_suffixes bound NoSuffixes = []
  captures_suffixes bound (ASuffix s ss) = captures_suffix bound s ++ captures_suffixes bound ss

  pub captures_arms : List Bytes → ArmTrees → List (List Bytes)
  captures_arms bound NoArms = []
  captures_arms bound (AnArm e b arms) = (captures_expr bound e ++ captures_block bound b) ++ captures_arms bound arms

  pub captures_fields : List Bytes → FieldTrees → List (List Bytes)
  captures_fields bound NoFields = []
  captures_fields bound (AField x body place fs) = captures_field bound body ++ captures_fields bound fs
