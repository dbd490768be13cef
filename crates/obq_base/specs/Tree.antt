-- A syntax tree as plain data, each node with its place in the source: what definitions recurse over.
use Rattle.std.specs.Prelude.{Bool, List, ℕ, ℤ}
use Rattle.obq_base.specs.declared.trees.Flags.{Flags}
use Rattle.obq_base.specs.declared.trees.Operator.{Operator}

mutual
  pub data BlockTree : Type 0 where
    BlockOf : ItemTrees → ℕ → BlockTree

  pub data MaybeBlock : Type 0 where
    NoBlock : MaybeBlock
    ABlock : BlockTree → MaybeBlock

  pub data ItemTrees : Type 0 where
    NoItems : ItemTrees
    AnItem : ItemTree → ItemTrees → ItemTrees

  pub data ItemTree : Type 0 where
    LetItem : BindTrees → ℕ → ItemTree
    VarItem : BindTrees → ℕ → ItemTree
    LetRecItem : RecBindTrees → ℕ → ItemTree
    AssignItem : List ℕ → ExprTree → ℕ → ItemTree
    FieldItem : ExprTree → List ℕ → FieldTree → ℕ → ItemTree
    IndexItem : ExprTree → ExprTree → ExprTree → ℕ → ItemTree
    PlainItem : ExprTree → ItemTree

  pub data BindTrees : Type 0 where
    NoBinds : BindTrees
    ABind : List ℕ → ExprTree → ℕ → BindTrees → BindTrees

  pub data RecBindTrees : Type 0 where
    NoRecBinds : RecBindTrees
    ARecBind : List ℕ → ProcedureTree → ℕ → RecBindTrees → RecBindTrees

  pub data ProcedureTree : Type 0 where
    AProc : List (List ℕ) → BlockTree → ℕ → ProcedureTree

  pub data FieldTree : Type 0 where
    ValueOf : ExprTree → FieldTree
    MethodOf : ProcedureTree → FieldTree
    AliasOf : List ℕ → ExprTree → ℕ → FieldTree

  pub data ExprTree : Type 0 where
    IntTree : ℤ → ℕ → ExprTree
    TextTree : List ℕ → ℕ → ExprTree
    TruthTree : Bool → ℕ → ExprTree
    OkTree : ℕ → ExprTree
    NameTree : List ℕ → ℕ → ExprTree
    ProcTree : ProcedureTree → ExprTree
    ArrayTree : ExprTrees → ℕ → ExprTree
    ObjectTree : Flags → FieldTrees → ℕ → ExprTree
    IfTree : ArmTrees → MaybeBlock → ℕ → ExprTree
    LoopTree : BlockTree → ℕ → ExprTree
    ExitTree : ℕ → ExprTree
    ForTree : List ℕ → ExprTree → ExprTree → BlockTree → ℕ → ExprTree
    ForeachTree : List ℕ → ExprTree → BlockTree → ℕ → ExprTree
    TryTree : BlockTree → ArmTrees → MaybeBlock → ℕ → ExprTree
    FinallyTree : BlockTree → BlockTree → ℕ → ExprTree
    RaiseTree : ExprTree → ℕ → ExprTree
    WatchTree : ExprTree → ExprTree → ℕ → ExprTree
    RedirectTree : ExprTree → ExprTree → ℕ → ExprTree
    CloneTree : ExprTrees → ℕ → ExprTree
    ChainTree : ExprTree → LinkTrees → ExprTree
    SuffixedTree : ExprTree → SuffixTrees → ExprTree

  pub data ExprTrees : Type 0 where
    NoExprs : ExprTrees
    AnExpr : ExprTree → ExprTrees → ExprTrees

  pub data LinkTrees : Type 0 where
    NoLinks : LinkTrees
    ALink : Operator → ExprTree → ℕ → LinkTrees → LinkTrees

  pub data SuffixTree : Type 0 where
    ApplySuffix : ExprTrees → ℕ → SuffixTree
    SelectSuffix : List ℕ → ℕ → SuffixTree
    InvokeSuffix : List ℕ → ExprTrees → ℕ → SuffixTree
    IndexSuffix : ExprTree → ℕ → SuffixTree

  pub data SuffixTrees : Type 0 where
    NoSuffixes : SuffixTrees
    ASuffix : SuffixTree → SuffixTrees → SuffixTrees

  pub data ArmTrees : Type 0 where
    NoArms : ArmTrees
    AnArm : ExprTree → BlockTree → ArmTrees → ArmTrees

  pub data FieldTrees : Type 0 where
    NoFields : FieldTrees
    AField : List ℕ → FieldTree → ℕ → FieldTrees → FieldTrees
