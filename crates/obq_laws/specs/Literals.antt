-- The object literals of a tree, and how many methods they have.
use Rattle.std.specs.Prelude.{List, [], ℕ, ◌∷◌, ◌≤◌}
use Rattle.obq_base.specs.Tree.{BlockTree, BlockOf, MaybeBlock, NoBlock, ABlock, ItemTrees, NoItems, AnItem, ItemTree, LetItem, VarItem, LetRecItem, AssignItem, FieldItem, IndexItem, PlainItem, BindTrees, NoBinds, ABind, RecBindTrees, NoRecBinds, ARecBind, ProcedureTree, AProc, FieldTree, ValueOf, MethodOf, AliasOf, ExprTree, IntTree, TextTree, TruthTree, OkTree, NameTree, ProcTree, ArrayTree, ObjectTree, IfTree, LoopTree, ExitTree, ForTree, ForeachTree, TryTree, FinallyTree, RaiseTree, WatchTree, RedirectTree, CloneTree, ChainTree, SuffixedTree, ExprTrees, NoExprs, AnExpr, LinkTrees, NoLinks, ALink, SuffixTree, ApplySuffix, SelectSuffix, InvokeSuffix, IndexSuffix, SuffixTrees, NoSuffixes, ASuffix, ArmTrees, NoArms, AnArm, FieldTrees, NoFields, AField}
use Rattle.obq_model.specs.Terms.{Layout}
use Rattle.obq_model.specs.Shapes.{methods_of}
use Rattle.obq_model.specs.Opening.{layout_of}

-- P holds of the fields of each object literal in a tree
abbrev mutual
  pub BlockLiterals : (Layout → Type 0) → BlockTree → Type 0
  BlockLiterals P (BlockOf is place) = ItemsLiterals P is

  pub MaybeLiterals : (Layout → Type 0) → MaybeBlock → Type 0
  MaybeLiterals P NoBlock = Unit {0}
  MaybeLiterals P (ABlock b) = BlockLiterals P b

  pub ItemsLiterals : (Layout → Type 0) → ItemTrees → Type 0
  ItemsLiterals P NoItems = Unit {0}
  ItemsLiterals P (AnItem i is) = ItemLiterals P i × ItemsLiterals P is

  pub ItemLiterals : (Layout → Type 0) → ItemTree → Type 0
  ItemLiterals P (LetItem bs place) = BindsLiterals P bs
  ItemLiterals P (VarItem bs place) = BindsLiterals P bs
  ItemLiterals P (LetRecItem bs place) = MembersLiterals P bs
  ItemLiterals P (AssignItem x e place) = ExprLiterals P e
  ItemLiterals P (FieldItem o x body place) = ExprLiterals P o × FieldLiterals P body
  ItemLiterals P (IndexItem a i e place) = ExprLiterals P a × ExprLiterals P i × ExprLiterals P e
  ItemLiterals P (PlainItem e) = ExprLiterals P e

  pub BindsLiterals : (Layout → Type 0) → BindTrees → Type 0
  BindsLiterals P NoBinds = Unit {0}
  BindsLiterals P (ABind x e place bs) = ExprLiterals P e × BindsLiterals P bs

  pub MembersLiterals : (Layout → Type 0) → RecBindTrees → Type 0
  MembersLiterals P NoRecBinds = Unit {0}
  MembersLiterals P (ARecBind x p place bs) = ProcedureLiterals P p × MembersLiterals P bs

  pub ProcedureLiterals : (Layout → Type 0) → ProcedureTree → Type 0
  ProcedureLiterals P (AProc params b place) = BlockLiterals P b

  pub FieldLiterals : (Layout → Type 0) → FieldTree → Type 0
  FieldLiterals P (ValueOf e) = ExprLiterals P e
  FieldLiterals P (MethodOf p) = ProcedureLiterals P p
  FieldLiterals P (AliasOf x e place) = ExprLiterals P e

  pub ExprLiterals : (Layout → Type 0) → ExprTree → Type 0
  ExprLiterals P (IntTree z place) = Unit {0}
  ExprLiterals P (TextTree t place) = Unit {0}
  ExprLiterals P (TruthTree b place) = Unit {0}
  ExprLiterals P (OkTree place) = Unit {0}
  ExprLiterals P (NameTree x place) = Unit {0}
  ExprLiterals P (ProcTree p) = ProcedureLiterals P p
  ExprLiterals P (ArrayTree es place) = ExprsLiterals P es
  ExprLiterals P (ObjectTree flags fs place) = P (layout_of fs) × FieldsLiterals P fs
  ExprLiterals P (IfTree arms last place) = ArmsLiterals P arms × MaybeLiterals P last
  ExprLiterals P (LoopTree b place) = BlockLiterals P b
  ExprLiterals P (ExitTree place) = Unit {0}
  ExprLiterals P (ForTree x m n b place) = ExprLiterals P m × ExprLiterals P n × BlockLiterals P b
  ExprLiterals P (ForeachTree x e b place) = ExprLiterals P e × BlockLiterals P b
  ExprLiterals P (TryTree b arms last place) = BlockLiterals P b × ArmsLiterals P arms × MaybeLiterals P last
  ExprLiterals P (FinallyTree b last place) = BlockLiterals P b × BlockLiterals P last
  ExprLiterals P (RaiseTree e place) = ExprLiterals P e
  ExprLiterals P (WatchTree c g place) = ExprLiterals P c × ExprLiterals P g
  ExprLiterals P (RedirectTree o p place) = ExprLiterals P o × ExprLiterals P p
  ExprLiterals P (CloneTree es place) = ExprsLiterals P es
  ExprLiterals P (ChainTree e links) = ExprLiterals P e × LinksLiterals P links
  ExprLiterals P (SuffixedTree e ss) = ExprLiterals P e × SuffixesLiterals P ss

  pub ExprsLiterals : (Layout → Type 0) → ExprTrees → Type 0
  ExprsLiterals P NoExprs = Unit {0}
  ExprsLiterals P (AnExpr e es) = ExprLiterals P e × ExprsLiterals P es

  pub LinksLiterals : (Layout → Type 0) → LinkTrees → Type 0
  LinksLiterals P NoLinks = Unit {0}
  LinksLiterals P (ALink op e place links) = ExprLiterals P e × LinksLiterals P links

  pub SuffixLiterals : (Layout → Type 0) → SuffixTree → Type 0
  SuffixLiterals P (ApplySuffix es place) = ExprsLiterals P es
  SuffixLiterals P (SelectSuffix x place) = Unit {0}
  SuffixLiterals P (InvokeSuffix x es place) = ExprsLiterals P es
  SuffixLiterals P (IndexSuffix e place) = ExprLiterals P e

  pub SuffixesLiterals : (Layout → Type 0) → SuffixTrees → Type 0
  SuffixesLiterals P NoSuffixes = Unit {0}
  SuffixesLiterals P (ASuffix s ss) = SuffixLiterals P s × SuffixesLiterals P ss

  pub ArmsLiterals : (Layout → Type 0) → ArmTrees → Type 0
  ArmsLiterals P NoArms = Unit {0}
  ArmsLiterals P (AnArm e b arms) = (ExprLiterals P e × BlockLiterals P b) × ArmsLiterals P arms

  pub FieldsLiterals : (Layout → Type 0) → FieldTrees → Type 0
  FieldsLiterals P NoFields = Unit {0}
  FieldsLiterals P (AField x body place fs) = FieldLiterals P body × FieldsLiterals P fs

-- no more than so many methods
abbrev pub HasAtMost : ℕ → Layout → Type 0
HasAtMost n shape = methods_of shape ≤ n

-- no object literal of these trees has more than so many methods
abbrev pub AreNarrow : ℕ → List BlockTree → Type 0
AreNarrow n [] = Unit {0}
AreNarrow n (tree ∷ trees) = BlockLiterals (HasAtMost n) tree × AreNarrow n trees
