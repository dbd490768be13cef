-- What a walk over a tree does, step by step.
use Rattle.std.specs.Prelude.{Bool, List, None, Option, Some, [], false, if◌then◌else◌, length, nat_lt, slice_set, take, ℕ, ◌++◌, ◌∷◌}
use Rattle.obq_base.specs.declared.occurrences.Occurrence.{Occurrence}
use Rattle.obq_base.specs.Tree.{BlockTree, BlockOf, MaybeBlock, NoBlock, ABlock, ItemTrees, NoItems, AnItem, ItemTree, LetItem, VarItem, LetRecItem, AssignItem, FieldItem, IndexItem, PlainItem, BindTrees, NoBinds, ABind, RecBindTrees, NoRecBinds, ARecBind, ProcedureTree, AProc, FieldTree, ValueOf, MethodOf, AliasOf, ExprTree, IntTree, TextTree, TruthTree, OkTree, NameTree, ProcTree, ArrayTree, ObjectTree, IfTree, LoopTree, ExitTree, ForTree, ForeachTree, TryTree, FinallyTree, RaiseTree, WatchTree, RedirectTree, CloneTree, ChainTree, SuffixedTree, ExprTrees, NoExprs, AnExpr, LinkTrees, NoLinks, ALink, SuffixTree, ApplySuffix, SelectSuffix, InvokeSuffix, IndexSuffix, SuffixTrees, NoSuffixes, ASuffix, ArmTrees, NoArms, AnArm, FieldTrees, NoFields, AField}
use Rattle.obq_model.specs.Terms.{Bytes}
use Rattle.obq_model.specs.Occurrences.{is_called, member_names}
use Rattle.obq_model.specs.Scopes.{last_place}
use Rattle.obq_names.specs.declared.walker.Outer.{Outer}
use Rattle.obq_names.specs.declared.walker.Walker.{Walker}
use Rattle.obq_names.specs.Union.{with_name}

-- more binders
abbrev pub with_binders : List Bytes → Walker → Walker
with_binders names w = record { bound = w.bound ++ names; base = w.base; names = w.names; found = w.found; captures = w.captures }

-- only so many binders
abbrev pub truncated : ℕ → Walker → Walker
truncated n w = record { bound = take n w.bound; base = w.base; names = w.names; found = w.found; captures = w.captures }

-- names, and this one where its last binder stands before the base
abbrev pub with_outer : ℕ → Option ℕ → Bytes → List Bytes → List Bytes
with_outer base None x names = names
with_outer base (Some k) x names = if nat_lt k base then with_name x names else names

-- names, and the further ones whose last binder stands before the base
abbrev pub with_all_outer : (bound : List Bytes) → ℕ → List Bytes → List Bytes → List Bytes
with_all_outer bound base names [] = names
with_all_outer bound base names (x ∷ xs) = with_all_outer bound base (with_outer base (last_place x bound) x names) xs

-- an occurrence of a name whose last binder is the k-th
abbrev pub with_bound : ℕ → Bytes → Walker → Walker
with_bound k x w = record { bound = w.bound; base = w.base; names = with_outer w.base (Some k) x w.names; found = w.found; captures = w.captures }

-- occurrences of names that are bound
abbrev pub with_all_bound : List Bytes → Walker → Walker
with_all_bound xs w = record { bound = w.bound; base = w.base; names = with_all_outer w.bound w.base w.names xs; found = w.found; captures = w.captures }

-- occurrences, and this one where it has no binder
abbrev pub with_unbound : Option ℕ → Occurrence → List Occurrence → List Occurrence
with_unbound None u found = found ++ u ∷ []
with_unbound (Some k) u found = found

abbrev pub with_use : Bool → Bytes → ℕ → Walker → Walker
with_use called x place w = record {
  bound = w.bound;
  base = w.base;
  names = with_outer w.base (last_place x w.bound) x w.names;
  found = with_unbound (last_place x w.bound) (record { name = x; place = place; called = called }) w.found;
  captures = w.captures;
}

-- a procedure begins
abbrev pub entered : Walker → Walker
entered w = record { bound = w.bound; base = length w.bound; names = []; found = w.found; captures = w.captures ++ [] ∷ [] }

-- what is kept meanwhile of the one around it
abbrev pub outer_of : Walker → Outer
outer_of w = record { base = w.base; names = w.names; binders = length w.bound; place = length w.captures }

-- it ends
abbrev pub left : Outer → Walker → Walker
left o w = record {
  bound = take o.binders w.bound;
  base = o.base;
  names = with_all_outer (take o.binders w.bound) o.base o.names w.names;
  found = w.found;
  captures = slice_set w.captures o.place w.names;
}

abbrev mutual
  pub walk_block : BlockTree → Walker → Walker
  walk_block (BlockOf is place) w = truncated (length w.bound) (walk_items is w)

  pub walk_maybe : MaybeBlock → Walker → Walker
  walk_maybe NoBlock w = w
  walk_maybe (ABlock b) w = walk_block b w

  pub walk_items : ItemTrees → Walker → Walker
  walk_items NoItems w = w
  walk_items (AnItem i is) w = walk_items is (walk_item i w)

  pub walk_item : ItemTree → Walker → Walker
  walk_item (LetItem bs place) w = walk_binds bs w
  walk_item (VarItem bs place) w = walk_binds bs w
  walk_item (LetRecItem bs place) w = with_binders (member_names bs) (left (outer_of w) (walk_members bs (with_binders (member_names bs) (entered w))))
  walk_item (AssignItem x e place) w = walk_expr false e (with_use false x place w)
  walk_item (FieldItem o x body place) w = walk_field body (walk_expr false o w)
  walk_item (IndexItem a i e place) w = walk_expr false e (walk_expr false i (walk_expr false a w))
  walk_item (PlainItem e) w = walk_expr false e w

  pub walk_binds : BindTrees → Walker → Walker
  walk_binds NoBinds w = w
  walk_binds (ABind x e place bs) w = walk_binds bs (with_binders (x ∷ []) (walk_expr false e w))

  pub walk_members : RecBindTrees → Walker → Walker
  walk_members NoRecBinds w = w
  walk_members (ARecBind x p place bs) w = walk_members bs (walk_body p w)

  -- the body of a procedure, under its parameters
  pub walk_body : ProcedureTree → Walker → Walker
  walk_body (AProc params b place) w = truncated (length w.bound) (walk_block b (with_binders params w))

  pub walk_field : FieldTree → Walker → Walker
  walk_field (ValueOf e) w = walk_expr false e w
  walk_field (MethodOf p) w = left (outer_of w) (walk_body p (entered w))
  walk_field (AliasOf x e place) w = walk_expr false e w

  -- the truth value says whether the expression is called
  pub walk_expr : Bool → ExprTree → Walker → Walker
  walk_expr called (IntTree z place) w = w
  walk_expr called (TextTree t place) w = w
  walk_expr called (TruthTree b place) w = w
  walk_expr called (OkTree place) w = w
  walk_expr called (NameTree x place) w = with_use called x place w
  walk_expr called (ProcTree p) w = left (outer_of w) (walk_body p (entered w))
  walk_expr called (ArrayTree es place) w = walk_exprs es w
  walk_expr called (ObjectTree flags fs place) w = walk_fields fs w
  walk_expr called (IfTree arms last place) w = walk_maybe last (walk_arms arms w)
  walk_expr called (LoopTree b place) w = walk_block b w
  walk_expr called (ExitTree place) w = w
  walk_expr called (ForTree x m n b place) w = truncated (length (walk_expr false n (walk_expr false m w)).bound) (walk_block b (with_binders (x ∷ []) (walk_expr false n (walk_expr false m w))))
  walk_expr called (ForeachTree x e b place) w = truncated (length (walk_expr false e w).bound) (walk_block b (with_binders (x ∷ []) (walk_expr false e w)))
  walk_expr called (TryTree b arms last place) w = walk_maybe last (walk_arms arms (walk_block b w))
  walk_expr called (FinallyTree b last place) w = walk_block last (walk_block b w)
  walk_expr called (RaiseTree e place) w = walk_expr false e w
  walk_expr called (WatchTree c g place) w = walk_expr false g (walk_expr false c w)
  walk_expr called (RedirectTree o p place) w = walk_expr false p (walk_expr false o w)
  walk_expr called (CloneTree es place) w = walk_exprs es w
  walk_expr called (ChainTree e links) w = walk_links links (walk_expr false e w)
  walk_expr called (SuffixedTree e ss) w = walk_suffixes ss (walk_expr (is_called ss) e w)

  pub walk_exprs : ExprTrees → Walker → Walker
  walk_exprs NoExprs w = w
  walk_exprs (AnExpr e es) w = walk_exprs es (walk_expr false e w)

  pub walk_links : LinkTrees → Walker → Walker
  walk_links NoLinks w = w
  walk_links (ALink op e place links) w = walk_links links (walk_expr false e w)

  pub walk_suffix : SuffixTree → Walker → Walker
  walk_suffix (ApplySuffix es place) w = walk_exprs es w
  walk_suffix (SelectSuffix x place) w = w
  walk_suffix (InvokeSuffix x es place) w = walk_exprs es w
  walk_suffix (IndexSuffix e place) w = walk_expr false e w

  pub walk_suffixes : SuffixTrees → Walker → Walker
  walk_suffixes NoSuffixes w = w
  walk_suffixes (ASuffix s ss) w = walk_suffixes ss (walk_suffix s w)

  pub walk_arms : ArmTrees → Walker → Walker
  walk_arms NoArms w = w
  walk_arms (AnArm e b arms) w = walk_arms arms (walk_block b (walk_expr false e w))

  pub walk_fields : FieldTrees → Walker → Walker
  walk_fields NoFields w = w
  walk_fields (AField x body place fs) w = walk_fields fs (walk_field body w)

-- a block under one more name
abbrev pub walk_under : Bytes → BlockTree → Walker → Walker
walk_under x b w = truncated (length w.bound) (walk_block b (with_binders (x ∷ []) w))

-- a `for` or `foreach`
abbrev pub walk_for : ExprTree → Walker → Walker
walk_for (ForTree x m n b place) w = walk_under x b (walk_expr false n (walk_expr false m w))
walk_for (ForeachTree x e b place) w = walk_under x b (walk_expr false e w)
walk_for e w = w

-- an expression that has blocks
abbrev pub walk_control : ExprTree → Walker → Walker
walk_control (IfTree arms last place) w = walk_maybe last (walk_arms arms w)
walk_control (LoopTree b place) w = walk_block b w
walk_control (TryTree b arms last place) w = walk_maybe last (walk_arms arms (walk_block b w))
walk_control (FinallyTree b last place) w = walk_block last (walk_block b w)
walk_control e w = walk_for e w

-- a `let rec`
abbrev pub walk_group : RecBindTrees → Walker → Walker
walk_group bs w = with_binders (member_names bs) (left (outer_of w) (walk_members bs (with_binders (member_names bs) (entered w))))

-- a procedure or method
abbrev pub walk_procedure : ProcedureTree → Walker → Walker
walk_procedure p w = left (outer_of w) (walk_body p (entered w))
