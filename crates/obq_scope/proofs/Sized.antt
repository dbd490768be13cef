-- What the size of a tree bounds: the numbers of its parts, and of the names that occur in it.
use Rattle.std.proofs.Common.{Bool, List, [], arith, if◌then◌else◌, length, suc, true, false, ℕ, ◌+◌, ◌≤◌, ◌++◌, ◌∷◌, ◌&&◌, not}
use Rattle.std.proofs.lemmas.List.{length-append}
use Rattle.obq_base.specs.declared.occurrences.Occurrence.{Occurrence}
use Rattle.obq_base.specs.Tree.{BlockTree, BlockOf, MaybeBlock, NoBlock, ABlock, ItemTrees, NoItems, AnItem, ItemTree, LetItem, VarItem, LetRecItem, AssignItem, FieldItem, IndexItem, PlainItem, BindTrees, NoBinds, ABind, RecBindTrees, NoRecBinds, ARecBind, ProcedureTree, AProc, FieldTree, ValueOf, MethodOf, AliasOf, ExprTree, IntTree, TextTree, TruthTree, OkTree, NameTree, ProcTree, ArrayTree, ObjectTree, IfTree, LoopTree, ExitTree, ForTree, ForeachTree, TryTree, FinallyTree, RaiseTree, WatchTree, RedirectTree, CloneTree, ChainTree, SuffixedTree, ExprTrees, NoExprs, AnExpr, LinkTrees, NoLinks, ALink, SuffixTree, ApplySuffix, SelectSuffix, InvokeSuffix, IndexSuffix, SuffixTrees, NoSuffixes, ASuffix, ArmTrees, NoArms, AnArm, FieldTrees, NoFields, AField}
use Rattle.obq_model.specs.Draft.{behind_first, count_arms, count_binds, count_exprs, count_items, count_params, count_suffixes}
use Rattle.obq_model.specs.Occurrences.{free_arms, free_binds, free_block, free_expr, free_exprs, free_field, free_fields, free_item, free_items, free_links, free_maybe, free_members, free_procedure, free_suffix, free_suffixes, is_called, item_names, member_names, occurrence}
use Rattle.obq_model.specs.Put.{among}
use Rattle.obq_model.specs.Scopes.{Outside, captured_from, is_covered}
use Rattle.obq_names.proofs.Unions.{Names}
use Rattle.obq_scope.specs.Sizes.{size_arms, size_binds, size_block, size_body, size_expr, size_exprs, size_field, size_fields, size_item, size_items, size_links, size_maybe, size_members, size_suffix, size_suffixes}

-- ---- parts

pub items_fit : (a : ItemTrees) → count_items a ≤ size_items a
items_fit NoItems = omega arith
items_fit (AnItem i is) = let h = items_fit is in omega (arith, h)

pub binds_fit : (a : BindTrees) → count_binds a ≤ size_binds a
binds_fit NoBinds = omega arith
binds_fit (ABind x e place bs) = let h = binds_fit bs in omega (arith, h)

pub exprs_fit : (a : ExprTrees) → count_exprs a ≤ size_exprs a
exprs_fit NoExprs = omega arith
exprs_fit (AnExpr e es) = let h = exprs_fit es in omega (arith, h)

pub arms_fit : (a : ArmTrees) → count_arms a ≤ size_arms a
arms_fit NoArms = omega arith
arms_fit (AnArm e b arms) = let h = arms_fit arms in omega (arith, h)

pub suffixes_fit : (a : SuffixTrees) → count_suffixes a ≤ size_suffixes a
suffixes_fit NoSuffixes = omega arith
suffixes_fit (ASuffix s ss) = let h = suffixes_fit ss in omega (arith, h)

pub behind_fit : (a : SuffixTrees) → count_suffixes (behind_first a) ≤ size_suffixes a
behind_fit NoSuffixes = omega arith
behind_fit (ASuffix s ss) = let h = suffixes_fit ss in omega (arith, h)

pub params_fit : (p : ProcedureTree) → count_params p ≤ size_body p
params_fit (AProc params b place) = omega arith

pub members_fit : (a : RecBindTrees) → length (member_names a) ≤ size_members a
members_fit NoRecBinds = omega arith
members_fit (ARecBind x p place bs) = let h = members_fit bs in omega (arith, h)

-- ---- occurrences

one_fits : (bound : Names) (called : Bool) (x : List ℕ) (place : ℕ) → length (occurrence bound called x place) ≤ 1
one_fits bound called x place = row (among x bound) where
  row : (b : Bool) → length {A = Occurrence} (if b then [] else record { name = x; place = place; called = called } ∷ []) ≤ 1
  row true = omega arith
  row false = omega arith

none_fits : {v : ℕ} → 0 ≤ v
none_fits {v} = omega arith

more : {v : ℕ} (xs : List Occurrence) (k : ℕ) → length xs ≤ v → length xs ≤ k + v
more xs k h = omega (arith, h)

two : {v w : ℕ} (xs ys : List Occurrence) → length xs ≤ v → length ys ≤ w → length (xs ++ ys) ≤ v + w
two xs ys p q = omega (arith, p, q, length-append xs ys)

mutual
  occurs_block : (bound : Names) (a : BlockTree) → length (free_block bound a) ≤ size_block a
  occurs_block bound (BlockOf is place) = occurs_items bound is

  occurs_maybe : (bound : Names) (a : MaybeBlock) → length (free_maybe bound a) ≤ size_maybe a
  occurs_maybe bound NoBlock = none_fits
  occurs_maybe bound (ABlock b) = occurs_block bound b

  occurs_items : (bound : Names) (a : ItemTrees) → length (free_items bound a) ≤ size_items a
  occurs_items bound NoItems = none_fits
  occurs_items bound (AnItem i is) = two _ _ (more _ 1 (occurs_item bound i)) (occurs_items (bound ++ item_names i) is)

  occurs_item : (bound : Names) (a : ItemTree) → length (free_item bound a) ≤ size_item a
  occurs_item bound (LetItem bs place) = occurs_binds bound bs
  occurs_item bound (VarItem bs place) = occurs_binds bound bs
  occurs_item bound (LetRecItem bs place) = occurs_members (bound ++ member_names bs) bs
  occurs_item bound (AssignItem x e place) = two _ _ (one_fits bound false x place) (occurs_expr bound false e)
  occurs_item bound (FieldItem o x body place) = two _ _ (occurs_expr bound false o) (occurs_field bound body)
  occurs_item bound (IndexItem a i e place) = two _ _ (occurs_expr bound false a) (two _ _ (occurs_expr bound false i) (occurs_expr bound false e))
  occurs_item bound (PlainItem e) = occurs_expr bound false e

  occurs_binds : (bound : Names) (a : BindTrees) → length (free_binds bound a) ≤ size_binds a
  occurs_binds bound NoBinds = none_fits
  occurs_binds bound (ABind x e place bs) = two _ _ (occurs_expr bound false e) (more _ 1 (occurs_binds (bound ++ x ∷ []) bs))

  pub occurs_members : (bound : Names) (a : RecBindTrees) → length (free_members bound a) ≤ size_members a
  occurs_members bound NoRecBinds = none_fits
  occurs_members bound (ARecBind x p place bs) = two _ _ (more _ 1 (more _ 1 (occurs_procedure bound p))) (occurs_members bound bs)

  pub occurs_procedure : (bound : Names) (a : ProcedureTree) → length (free_procedure bound a) ≤ size_body a
  occurs_procedure bound (AProc params b place) = more _ (length params) (occurs_block (bound ++ params) b)

  occurs_field : (bound : Names) (a : FieldTree) → length (free_field bound a) ≤ size_field a
  occurs_field bound (ValueOf e) = occurs_expr bound false e
  occurs_field bound (MethodOf p) = more _ 1 (occurs_procedure bound p)
  occurs_field bound (AliasOf x e place) = occurs_expr bound false e

  occurs_expr : (bound : Names) (called : Bool) (a : ExprTree) → length (free_expr bound called a) ≤ size_expr a
  occurs_expr bound called (IntTree z place) = none_fits
  occurs_expr bound called (TextTree t place) = none_fits
  occurs_expr bound called (TruthTree b place) = none_fits
  occurs_expr bound called (OkTree place) = none_fits
  occurs_expr bound called (NameTree x place) = one_fits bound called x place
  occurs_expr bound called (ProcTree p) = more _ 1 (occurs_procedure bound p)
  occurs_expr bound called (ArrayTree es place) = occurs_exprs bound es
  occurs_expr bound called (ObjectTree flags fs place) = occurs_fields bound fs
  occurs_expr bound called (IfTree arms last place) = two _ _ (occurs_arms bound arms) (occurs_maybe bound last)
  occurs_expr bound called (LoopTree b place) = occurs_block bound b
  occurs_expr bound called (ExitTree place) = none_fits
  occurs_expr bound called (ForTree x m n b place) = two _ _ (occurs_expr bound false m) (two _ _ (occurs_expr bound false n) (more _ 1 (occurs_block (bound ++ x ∷ []) b)))
  occurs_expr bound called (ForeachTree x e b place) = two _ _ (occurs_expr bound false e) (more _ 1 (occurs_block (bound ++ x ∷ []) b))
  occurs_expr bound called (TryTree b arms last place) = two _ _ (occurs_block bound b) (two _ _ (occurs_arms bound arms) (occurs_maybe bound last))
  occurs_expr bound called (FinallyTree b last place) = two _ _ (occurs_block bound b) (occurs_block bound last)
  occurs_expr bound called (RaiseTree e place) = occurs_expr bound false e
  occurs_expr bound called (WatchTree c g place) = two _ _ (occurs_expr bound false c) (occurs_expr bound false g)
  occurs_expr bound called (RedirectTree o p place) = two _ _ (occurs_expr bound false o) (occurs_expr bound false p)
  occurs_expr bound called (CloneTree es place) = occurs_exprs bound es
  occurs_expr bound called (ChainTree e links) = two _ _ (occurs_expr bound false e) (occurs_links bound links)
  occurs_expr bound called (SuffixedTree e ss) = two _ _ (occurs_expr bound (is_called ss) e) (occurs_suffixes bound ss)

  occurs_exprs : (bound : Names) (a : ExprTrees) → length (free_exprs bound a) ≤ size_exprs a
  occurs_exprs bound NoExprs = none_fits
  occurs_exprs bound (AnExpr e es) = two _ _ (more _ 1 (occurs_expr bound false e)) (occurs_exprs bound es)

  occurs_links : (bound : Names) (a : LinkTrees) → length (free_links bound a) ≤ size_links a
  occurs_links bound NoLinks = none_fits
  occurs_links bound (ALink op e place links) = two _ _ (occurs_expr bound false e) (occurs_links bound links)

  occurs_suffix : (bound : Names) (a : SuffixTree) → length (free_suffix bound a) ≤ size_suffix a
  occurs_suffix bound (ApplySuffix es place) = occurs_exprs bound es
  occurs_suffix bound (SelectSuffix x place) = none_fits
  occurs_suffix bound (InvokeSuffix x es place) = occurs_exprs bound es
  occurs_suffix bound (IndexSuffix e place) = occurs_expr bound false e

  occurs_suffixes : (bound : Names) (a : SuffixTrees) → length (free_suffixes bound a) ≤ size_suffixes a
  occurs_suffixes bound NoSuffixes = none_fits
  occurs_suffixes bound (ASuffix s ss) = two _ _ (more _ 1 (occurs_suffix bound s)) (occurs_suffixes bound ss)

  occurs_arms : (bound : Names) (a : ArmTrees) → length (free_arms bound a) ≤ size_arms a
  occurs_arms bound NoArms = none_fits
  occurs_arms bound (AnArm e b arms) = two _ _ (more _ 1 (two _ _ (occurs_expr bound false e) (occurs_block bound b))) (occurs_arms bound arms)

  occurs_fields : (bound : Names) (a : FieldTrees) → length (free_fields bound a) ≤ size_fields a
  occurs_fields bound NoFields = none_fits
  occurs_fields bound (AField x body place fs) = two _ _ (occurs_field bound body) (occurs_fields bound fs)

-- ---- what is captured

pub captured_fits : (o : Outside) (locals names : Names) (us : List Occurrence) → length (captured_from o locals names us) ≤ length names + length us
captured_fits o locals names [] = omega arith
captured_fits o locals names (u ∷ us) = row (is_covered o locals u.name) (among u.name names) (captured_fits o locals names us) (captured_fits o locals (names ++ u.name ∷ []) us) where
  row : (b c : Bool) → length (captured_from o locals names us) ≤ length names + length us → length (captured_from o locals (names ++ u.name ∷ []) us) ≤ length (names ++ u.name ∷ []) + length us
      → length (captured_from o locals (if b && not c then names ++ u.name ∷ [] else names) us) ≤ length names + suc (length us)
  row true false p q = omega (arith, q, length-append names (u.name ∷ []))
  row true true p q = omega (arith, p)
  row false c p q = omega (arith, p)
