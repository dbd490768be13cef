-- The leaves of a tree: the names that occur in it, its integers and its texts, each as the kind of a token, at its place. A name that is
-- bound, a field's name and a parameter are no leaves.
use Rattle.std.specs.Prelude.{List, [], length, true, ℕ, ◌∷◌, ◌≡◌, ◌≤◌}
use Rattle.obq_base.specs.declared.limits.TheConstants.{TEXT_LIMIT}
use Rattle.obq_base.specs.declared.tokens.TokenKind.{TokenKind}
use Rattle.obq_base.specs.declared.tokens.TokenKind.TheVariants as k
use Rattle.obq_base.specs.Tree.{BlockTree, BlockOf, MaybeBlock, NoBlock, ABlock, ItemTrees, NoItems, AnItem, ItemTree, LetItem, VarItem, LetRecItem, AssignItem, FieldItem, IndexItem, PlainItem, BindTrees, NoBinds, ABind, RecBindTrees, NoRecBinds, ARecBind, ProcedureTree, AProc, FieldTree, ValueOf, MethodOf, AliasOf, ExprTree, IntTree, TextTree, TruthTree, OkTree, NameTree, ProcTree, ArrayTree, ObjectTree, IfTree, LoopTree, ExitTree, ForTree, ForeachTree, TryTree, FinallyTree, RaiseTree, WatchTree, RedirectTree, CloneTree, ChainTree, SuffixedTree, ExprTrees, NoExprs, AnExpr, LinkTrees, NoLinks, ALink, SuffixTree, ApplySuffix, SelectSuffix, InvokeSuffix, IndexSuffix, SuffixTrees, NoSuffixes, ASuffix, ArmTrees, NoArms, AnArm, FieldTrees, NoFields, AField}
use Rattle.obq_model.specs.Builtins.{is_i64}

-- K holds of each leaf of a tree
abbrev mutual
  pub BlockLeaves : (TokenKind → ℕ → Type 0) → BlockTree → Type 0
  BlockLeaves K (BlockOf is place) = ItemsLeaves K is

  pub MaybeLeaves : (TokenKind → ℕ → Type 0) → MaybeBlock → Type 0
  MaybeLeaves K NoBlock = Unit {0}
  MaybeLeaves K (ABlock b) = BlockLeaves K b

  pub ItemsLeaves : (TokenKind → ℕ → Type 0) → ItemTrees → Type 0
  ItemsLeaves K NoItems = Unit {0}
  ItemsLeaves K (AnItem i is) = ItemLeaves K i × ItemsLeaves K is

  pub ItemLeaves : (TokenKind → ℕ → Type 0) → ItemTree → Type 0
  ItemLeaves K (LetItem bs place) = BindsLeaves K bs
  ItemLeaves K (VarItem bs place) = BindsLeaves K bs
  ItemLeaves K (LetRecItem bs place) = MembersLeaves K bs
  ItemLeaves K (AssignItem x e place) = K (k.Name x) place × ExprLeaves K e
  ItemLeaves K (FieldItem o x body place) = ExprLeaves K o × FieldLeaves K body
  ItemLeaves K (IndexItem a i e place) = ExprLeaves K a × ExprLeaves K i × ExprLeaves K e
  ItemLeaves K (PlainItem e) = ExprLeaves K e

  pub BindsLeaves : (TokenKind → ℕ → Type 0) → BindTrees → Type 0
  BindsLeaves K NoBinds = Unit {0}
  BindsLeaves K (ABind x e place bs) = ExprLeaves K e × BindsLeaves K bs

  pub MembersLeaves : (TokenKind → ℕ → Type 0) → RecBindTrees → Type 0
  MembersLeaves K NoRecBinds = Unit {0}
  MembersLeaves K (ARecBind x p place bs) = ProcedureLeaves K p × MembersLeaves K bs

  pub ProcedureLeaves : (TokenKind → ℕ → Type 0) → ProcedureTree → Type 0
  ProcedureLeaves K (AProc params b place) = BlockLeaves K b

  pub FieldLeaves : (TokenKind → ℕ → Type 0) → FieldTree → Type 0
  FieldLeaves K (ValueOf e) = ExprLeaves K e
  FieldLeaves K (MethodOf p) = ProcedureLeaves K p
  FieldLeaves K (AliasOf x e place) = ExprLeaves K e

  pub ExprLeaves : (TokenKind → ℕ → Type 0) → ExprTree → Type 0
  ExprLeaves K (IntTree z place) = K (k.Int z) place
  ExprLeaves K (TextTree t place) = K (k.Text t) place
  ExprLeaves K (TruthTree b place) = Unit {0}
  ExprLeaves K (OkTree place) = Unit {0}
  ExprLeaves K (NameTree x place) = K (k.Name x) place
  ExprLeaves K (ProcTree p) = ProcedureLeaves K p
  ExprLeaves K (ArrayTree es place) = ExprsLeaves K es
  ExprLeaves K (ObjectTree flags fs place) = FieldsLeaves K fs
  ExprLeaves K (IfTree arms last place) = ArmsLeaves K arms × MaybeLeaves K last
  ExprLeaves K (LoopTree b place) = BlockLeaves K b
  ExprLeaves K (ExitTree place) = Unit {0}
  ExprLeaves K (ForTree x m n b place) = ExprLeaves K m × ExprLeaves K n × BlockLeaves K b
  ExprLeaves K (ForeachTree x e b place) = ExprLeaves K e × BlockLeaves K b
  ExprLeaves K (TryTree b arms last place) = BlockLeaves K b × ArmsLeaves K arms × MaybeLeaves K last
  ExprLeaves K (FinallyTree b last place) = BlockLeaves K b × BlockLeaves K last
  ExprLeaves K (RaiseTree e place) = ExprLeaves K e
  ExprLeaves K (WatchTree c g place) = ExprLeaves K c × ExprLeaves K g
  ExprLeaves K (RedirectTree o p place) = ExprLeaves K o × ExprLeaves K p
  ExprLeaves K (CloneTree es place) = ExprsLeaves K es
  ExprLeaves K (ChainTree e links) = ExprLeaves K e × LinksLeaves K links
  ExprLeaves K (SuffixedTree e ss) = ExprLeaves K e × SuffixesLeaves K ss

  pub ExprsLeaves : (TokenKind → ℕ → Type 0) → ExprTrees → Type 0
  ExprsLeaves K NoExprs = Unit {0}
  ExprsLeaves K (AnExpr e es) = ExprLeaves K e × ExprsLeaves K es

  pub LinksLeaves : (TokenKind → ℕ → Type 0) → LinkTrees → Type 0
  LinksLeaves K NoLinks = Unit {0}
  LinksLeaves K (ALink op e place links) = ExprLeaves K e × LinksLeaves K links

  pub SuffixLeaves : (TokenKind → ℕ → Type 0) → SuffixTree → Type 0
  SuffixLeaves K (ApplySuffix es place) = ExprsLeaves K es
  SuffixLeaves K (SelectSuffix x place) = Unit {0}
  SuffixLeaves K (InvokeSuffix x es place) = ExprsLeaves K es
  SuffixLeaves K (IndexSuffix e place) = ExprLeaves K e

  pub SuffixesLeaves : (TokenKind → ℕ → Type 0) → SuffixTrees → Type 0
  SuffixesLeaves K NoSuffixes = Unit {0}
  SuffixesLeaves K (ASuffix s ss) = SuffixLeaves K s × SuffixesLeaves K ss

  pub ArmsLeaves : (TokenKind → ℕ → Type 0) → ArmTrees → Type 0
  ArmsLeaves K NoArms = Unit {0}
  ArmsLeaves K (AnArm e b arms) = (ExprLeaves K e × BlockLeaves K b) × ArmsLeaves K arms

  pub FieldsLeaves : (TokenKind → ℕ → Type 0) → FieldTrees → Type 0
  FieldsLeaves K NoFields = Unit {0}
  FieldsLeaves K (AField x body place fs) = FieldLeaves K body × FieldsLeaves K fs

-- an integer of 64 bits, a text of at most 65,536 bytes, or something else
abbrev pub IsBoundedLeaf : TokenKind → ℕ → Type 0
IsBoundedLeaf (k.Int z) place = is_i64 z ≡ true
IsBoundedLeaf (k.Text bytes) place = length bytes ≤ TEXT_LIMIT
IsBoundedLeaf kind place = Unit {0}

-- the integers and texts of all trees are so
abbrev pub AreBounded : List BlockTree → Type 0
AreBounded [] = Unit {0}
AreBounded (tree ∷ trees) = BlockLeaves IsBoundedLeaf tree × AreBounded trees
