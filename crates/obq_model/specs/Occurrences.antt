-- The occurrences of names in a tree, and those that no binder covers. Field names and the names behind `alias` are no occurrences.
use Rattle.std.specs.Prelude.{All, Option, Bool, Contains, List, [], bytes_eq, codes, false, filter, if◌then◌else◌, is_some, not, position, true, ℕ, ◌&&◌, ◌++◌, ◌∷◌, ◌≤◌, ◌||◌}
use Rattle.obq_base.specs.declared.occurrences.Occurrence.{Occurrence}
use Rattle.obq_base.specs.Tree.{BlockTree, BlockOf, MaybeBlock, NoBlock, ABlock, ItemTrees, NoItems, AnItem, ItemTree, LetItem, VarItem, LetRecItem, AssignItem, FieldItem, IndexItem, PlainItem, BindTrees, NoBinds, ABind, RecBindTrees, NoRecBinds, ARecBind, ProcedureTree, AProc, FieldTree, ValueOf, MethodOf, AliasOf, ExprTree, IntTree, TextTree, TruthTree, OkTree, NameTree, ProcTree, ArrayTree, ObjectTree, IfTree, LoopTree, ExitTree, ForTree, ForeachTree, TryTree, FinallyTree, RaiseTree, WatchTree, RedirectTree, CloneTree, ChainTree, SuffixedTree, ExprTrees, NoExprs, AnExpr, LinkTrees, NoLinks, ALink, SuffixTree, ApplySuffix, SelectSuffix, InvokeSuffix, IndexSuffix, SuffixTrees, NoSuffixes, ASuffix, ArmTrees, NoArms, AnArm, FieldTrees, NoFields, AField}
use Rattle.obq_tables.specs.Tables.{builtins}
use Rattle.obq_model.specs.Terms.{Bytes}
use Rattle.obq_model.specs.Put.{among}

-- the names that the binds of an item bind, in order
abbrev pub bind_names : BindTrees → List Bytes
bind_names NoBinds = []
bind_names (ABind x e place bs) = x ∷ bind_names bs

-- the names of a group, in order
abbrev pub member_names : RecBindTrees → List Bytes
member_names NoRecBinds = []
member_names (ARecBind x p place bs) = x ∷ member_names bs

-- the names that an item binds in the later items of its block
abbrev pub item_names : ItemTree → List Bytes
item_names (LetItem bs place) = bind_names bs
item_names (VarItem bs place) = bind_names bs
item_names (LetRecItem bs place) = member_names bs
item_names i = []

-- the names that the items of a block bind in it
abbrev pub block_names : ItemTrees → List Bytes
block_names NoItems = []
block_names (AnItem i is) = item_names i ++ block_names is

-- the first of these suffixes is a call
abbrev pub is_called : SuffixTrees → Bool
is_called (ASuffix (ApplySuffix es place) ss) = true
is_called ss = false

-- an occurrence, unless it is covered
abbrev pub occurrence : List Bytes → Bool → Bytes → ℕ → List Occurrence
occurrence bound called x place = if among x bound then [] else record { name = x; place = place; called = called } ∷ []

-- The occurrences in a tree, in order, that neither these names nor a binder inside the tree covers. A binder covers: of `let` and `var` the
-- later binds of its item and the later items of its block; of `let rec` all its procedures and the later items; a parameter the body; the
-- name of `for` or `foreach` its block.
abbrev mutual
  pub free_block : List Bytes → BlockTree → List Occurrence
  free_block bound (BlockOf is place) = free_items bound is

  pub free_maybe : List Bytes → MaybeBlock → List Occurrence
  free_maybe bound NoBlock = []
  free_maybe bound (ABlock b) = free_block bound b

  pub free_items : List Bytes → ItemTrees → List Occurrence
  free_items bound NoItems = []
  free_items bound (AnItem i is) = free_item bound i ++ free_items (bound ++ item_names i) is

  pub free_item : List Bytes → ItemTree → List Occurrence
  free_item bound (LetItem bs place) = free_binds bound bs
  free_item bound (VarItem bs place) = free_binds bound bs
  free_item bound (LetRecItem bs place) = free_members (bound ++ member_names bs) bs
  free_item bound (AssignItem x e place) = occurrence bound false x place ++ free_expr bound false e
  free_item bound (FieldItem o x body place) = free_expr bound false o ++ free_field bound body
  free_item bound (IndexItem a i e place) = free_expr bound false a ++ (free_expr bound false i ++ free_expr bound false e)
  free_item bound (PlainItem e) = free_expr bound false e

  pub free_binds : List Bytes → BindTrees → List Occurrence
  free_binds bound NoBinds = []
  free_binds bound (ABind x e place bs) = free_expr bound false e ++ free_binds (bound ++ x ∷ []) bs

  pub free_members : List Bytes → RecBindTrees → List Occurrence
  free_members bound NoRecBinds = []
  free_members bound (ARecBind x p place bs) = free_procedure bound p ++ free_members bound bs

  pub free_procedure : List Bytes → ProcedureTree → List Occurrence
  free_procedure bound (AProc params b place) = free_block (bound ++ params) b

  pub free_field : List Bytes → FieldTree → List Occurrence
  free_field bound (ValueOf e) = free_expr bound false e
  free_field bound (MethodOf p) = free_procedure bound p
  free_field bound (AliasOf x e place) = free_expr bound false e

  -- the truth value says whether the expression is called
  pub free_expr : List Bytes → Bool → ExprTree → List Occurrence
  free_expr bound called (IntTree z place) = []
  free_expr bound called (TextTree t place) = []
  free_expr bound called (TruthTree b place) = []
  free_expr bound called (OkTree place) = []
  free_expr bound called (NameTree x place) = occurrence bound called x place
  free_expr bound called (ProcTree p) = free_procedure bound p
  free_expr bound called (ArrayTree es place) = free_exprs bound es
  free_expr bound called (ObjectTree flags fs place) = free_fields bound fs
  free_expr bound called (IfTree arms last place) = free_arms bound arms ++ free_maybe bound last
  free_expr bound called (LoopTree b place) = free_block bound b
  free_expr bound called (ExitTree place) = []
  free_expr bound called (ForTree x m n b place) = free_expr bound false m ++ (free_expr bound false n ++ free_block (bound ++ x ∷ []) b)
  free_expr bound called (ForeachTree x e b place) = free_expr bound false e ++ free_block (bound ++ x ∷ []) b
  free_expr bound called (TryTree b arms last place) = free_block bound b ++ (free_arms bound arms ++ free_maybe bound last)
  free_expr bound called (FinallyTree b last place) = free_block bound b ++ free_block bound last
  free_expr bound called (RaiseTree e place) = free_expr bound false e
  free_expr bound called (WatchTree c g place) = free_expr bound false c ++ free_expr bound false g
  free_expr bound called (RedirectTree o p place) = free_expr bound false o ++ free_expr bound false p
  free_expr bound called (CloneTree es place) = free_exprs bound es
  free_expr bound called (ChainTree e links) = free_expr bound false e ++ free_links bound links
  free_expr bound called (SuffixedTree e ss) = free_expr bound (is_called ss) e ++ free_suffixes bound ss

  pub free_exprs : List Bytes → ExprTrees → List Occurrence
  free_exprs bound NoExprs = []
  free_exprs bound (AnExpr e es) = free_expr bound false e ++ free_exprs bound es

  pub free_links : List Bytes → LinkTrees → List Occurrence
  free_links bound NoLinks = []
  free_links bound (ALink op e place links) = free_expr bound false e ++ free_links bound links

  pub free_suffix : List Bytes → SuffixTree → List Occurrence
  free_suffix bound (ApplySuffix es place) = free_exprs bound es
  free_suffix bound (SelectSuffix x place) = []
  free_suffix bound (InvokeSuffix x es place) = free_exprs bound es
  free_suffix bound (IndexSuffix e place) = free_expr bound false e

  pub free_suffixes : List Bytes → SuffixTrees → List Occurrence
  free_suffixes bound NoSuffixes = []
  free_suffixes bound (ASuffix s ss) = free_suffix bound s ++ free_suffixes bound ss

  pub free_arms : List Bytes → ArmTrees → List Occurrence
  free_arms bound NoArms = []
  free_arms bound (AnArm e b arms) = (free_expr bound false e ++ free_block bound b) ++ free_arms bound arms

  pub free_fields : List Bytes → FieldTrees → List Occurrence
  free_fields bound NoFields = []
  free_fields bound (AField x body place fs) = free_field bound body ++ free_fields bound fs

-- the row of a built-in
unfoldable pub builtin_row : Bytes → Option ℕ
builtin_row x = position (λ k. bytes_eq k x) builtins

-- predefined are `stdout`, and a built-in's name where it is called
abbrev pub is_predefined : Occurrence → Bool
is_predefined o = bytes_eq o.name (codes "stdout") || (o.called && is_some (builtin_row o.name))

-- the occurrences of a source's block that no binder covers and that aren't predefined
abbrev pub unbound : BlockTree → List Occurrence
unbound tree = filter (λ o. not (is_predefined o)) (free_block [] tree)

-- this name is unbound at this place, and no unbound one has a place before it
pub record IsFirstUnbound (tree : BlockTree) (name : Bytes) (place : ℕ) : Type 0 where
  pub called : Bool
  pub found : Contains (unbound tree) (record { name = name; place = place; called = called })
  pub first : All (λ o. place ≤ o.place) (unbound tree)
