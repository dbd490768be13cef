-- A program opens as rightly shaped terms.
use Rattle.std.specs.Prelude.{Bool, List, None, Option, Some, [], bytes_eq, codes, false, if◌then◌else◌, length, not, refl, true, ℕ, ◌&&◌, ◌++◌, ◌∷◌, ◌≡◌}
use Rattle.std.proofs.Common.{subst, sym}
use Rattle.obq_base.specs.declared.trees.Operator.{Operator}
use Rattle.obq_base.specs.Tree.{BlockTree, BlockOf, MaybeBlock, NoBlock, ABlock, ItemTrees, NoItems, AnItem, ItemTree, LetItem, VarItem, LetRecItem, AssignItem, FieldItem, IndexItem, PlainItem, BindTrees, NoBinds, ABind, RecBindTrees, NoRecBinds, ARecBind, ProcedureTree, AProc, FieldTree, ValueOf, MethodOf, AliasOf, ExprTree, IntTree, TextTree, TruthTree, OkTree, NameTree, ProcTree, ArrayTree, ObjectTree, IfTree, LoopTree, ExitTree, ForTree, ForeachTree, TryTree, FinallyTree, RaiseTree, WatchTree, RedirectTree, CloneTree, ChainTree, SuffixedTree, ExprTrees, NoExprs, AnExpr, LinkTrees, NoLinks, ALink, SuffixTree, ApplySuffix, SelectSuffix, InvokeSuffix, IndexSuffix, SuffixTrees, NoSuffixes, ASuffix, ArmTrees, NoArms, AnArm, FieldTrees, NoFields, AField}
use Rattle.obq_model.specs.Terms.{Bytes, Writer, Builtin, Loc, Kind, Let, Var, Apply, Term, Const, Name, Under, Form, Parts, End, Part}
use Rattle.obq_model.specs.Put.{among}
use Rattle.obq_model.specs.Step.{operands_of}
use Rattle.obq_model.specs.Shapes.{Pattern, NoParts, ATerm, OneName, Terms, terms_then, scopes, methods_of, pattern_of, IsTarget, IsShaped, AreShaped, IsShapedScope, IsShapedKind}
use Rattle.obq_model.specs.Opening.{called_builtin, name_term, linked, group_names, layout_of, block_term, maybe_term, maybe_parts, items_term, binds_term, group_parts, procedure_term, item_term, field_item, expr_term, expr_parts, chain_term, suffixes_term, suffix_term, if_term, arm_parts, field_parts, method_parts}
use Rattle.obq_model.specs.Located.{links}
use Rattle.obq_laws.specs.Shaping.{OpeningShaped}
use Rattle.obq_laws.proofs.Opened.{source_block}

shaped_if : (b : Bool) (t u : Term ℕ) → IsShaped t → IsShaped u → IsShaped (if b then t else u)
shaped_if true t u h k = h
shaped_if false t u h k = k

target_if : (b : Bool) (t u : Term ℕ) → IsTarget t → IsTarget u → IsTarget (if b then t else u)
target_if true t u h k = h
target_if false t u h k = k

shaped_name : (site : ℕ) (bound : List Bytes) (x : Bytes) → IsShaped (name_term site bound x)
shaped_name site bound x = shaped_if (not (among x bound) && bytes_eq x (codes "stdout")) (Const (Loc Writer site)) (Name x) tt tt

target_name : (site : ℕ) (bound : List Bytes) (x : Bytes) → IsTarget (name_term site bound x)
target_name site bound x = target_if (not (among x bound) && bytes_eq x (codes "stdout")) (Const (Loc Writer site)) (Name x) tt tt

shaped_linked : (op : Operator) (t u : Term ℕ) → IsShaped t → IsShaped u → IsShaped (linked op t u)
shaped_linked Operator.Orif t u h k = (tt, (h, (k, tt)))
shaped_linked Operator.Andif t u h k = (tt, (h, (k, tt)))
shaped_linked _ t u h k = (tt, (h, (k, tt)))

mutual
  pub shaped_block : (site : ℕ) (bound : List Bytes) (b : BlockTree) → IsShaped (block_term site bound b)
  shaped_block site bound (BlockOf NoItems place) = (tt, tt)
  shaped_block site bound (BlockOf (AnItem i items) place) = shaped_items site bound (AnItem i items)

  pub shaped_maybe : (site : ℕ) (bound : List Bytes) (b : MaybeBlock) → IsShaped (maybe_term site bound b)
  shaped_maybe site bound NoBlock = tt
  shaped_maybe site bound (ABlock b) = shaped_block site bound b

  pub shaped_maybe_parts : (site : ℕ) (bound : List Bytes) (b : MaybeBlock) → AreShaped Terms (maybe_parts site bound b)
  shaped_maybe_parts site bound NoBlock = tt
  shaped_maybe_parts site bound (ABlock b) = (shaped_block site bound b, tt)

  pub shaped_items : (site : ℕ) (bound : List Bytes) (items : ItemTrees) → IsShaped (items_term site bound items)
  shaped_items site bound NoItems = tt
  shaped_items site bound (AnItem (LetItem bs place) items) = shaped_binds Let tt refl site bound bs (λ names. items_term site names items) (λ names. shaped_items site names items)
  shaped_items site bound (AnItem (VarItem bs place) items) = shaped_binds Var tt refl site bound bs (λ names. items_term site names items) (λ names. shaped_items site names items)
  shaped_items site bound (AnItem (LetRecItem bs place) items) = (tt, (shaped_items site (group_names bs ++ bound) items, shaped_group site (group_names bs ++ bound) bs))
  shaped_items site bound (AnItem i NoItems) = shaped_item site bound i
  shaped_items site bound (AnItem i (AnItem j items)) = (tt, (shaped_item site bound i, (shaped_items site bound (AnItem j items), tt)))

  pub shaped_binds : (k : Kind ℕ) → IsShapedKind k → pattern_of k ≡ ATerm (OneName NoParts) → (site : ℕ) (bound : List Bytes) (bs : BindTrees) (rest : List Bytes → Term ℕ) → ((names : List Bytes) → IsShaped (rest names)) → IsShaped (binds_term k site bound bs rest)
  shaped_binds k c h site bound NoBinds rest r = r bound
  shaped_binds k c h site bound (ABind x e place bs) rest r =
      (c, subst (λ p. AreShaped p (Part (expr_term site bound e) (Part (Under (x ∷ []) (binds_term k site (x ∷ bound) bs rest)) End))) (sym h) (shaped_expr site bound e, (shaped_binds k c h site (x ∷ bound) bs rest r, tt)))

  pub shaped_group : (site : ℕ) (bound : List Bytes) (bs : RecBindTrees) → AreShaped (scopes (length (group_names bs))) (group_parts site bound bs)
  shaped_group site bound NoRecBinds = tt
  shaped_group site bound (ARecBind x p place bs) = (shaped_procedure site bound p, shaped_group site bound bs)

  pub shaped_procedure : (site : ℕ) (bound : List Bytes) (p : ProcedureTree) → IsShapedScope (procedure_term site bound p)
  shaped_procedure site bound (AProc params b place) = shaped_block site (params ++ bound) b

  pub shaped_item : (site : ℕ) (bound : List Bytes) (i : ItemTree) → IsShaped (item_term site bound i)
  shaped_item site bound (AssignItem x e place) = (tt, (shaped_expr site bound e, (target_name site bound x, shaped_name site bound x, tt)))
  shaped_item site bound (FieldItem o x body place) = shaped_field_item site bound x (expr_term site bound o) (shaped_expr site bound o) body
  shaped_item site bound (IndexItem a i e place) = (tt, (shaped_expr site bound a, (shaped_expr site bound i, (shaped_expr site bound e, tt))))
  shaped_item site bound (PlainItem e) = shaped_expr site bound e
  shaped_item site bound (LetItem bs place) = tt
  shaped_item site bound (VarItem bs place) = tt
  shaped_item site bound (LetRecItem bs place) = tt

  pub shaped_field_item : (site : ℕ) (bound : List Bytes) (x : Bytes) (o : Term ℕ) → IsShaped o → (body : FieldTree) → IsShaped (field_item site bound x o body)
  shaped_field_item site bound x o h (ValueOf e) = (tt, (h, (shaped_expr site bound e, tt)))
  shaped_field_item site bound x o h (MethodOf p) = (tt, (h, (shaped_procedure site bound p, tt)))
  shaped_field_item site bound x o h (AliasOf y e place) = (tt, (h, (shaped_expr site bound e, tt)))

  pub shaped_expr : (site : ℕ) (bound : List Bytes) (e : ExprTree) → IsShaped (expr_term site bound e)
  shaped_expr site bound (IntTree n place) = tt
  shaped_expr site bound (TextTree t place) = tt
  shaped_expr site bound (TruthTree b place) = tt
  shaped_expr site bound (OkTree place) = tt
  shaped_expr site bound (NameTree x place) = shaped_name site bound x
  shaped_expr site bound (ProcTree p) = (tt, (shaped_procedure site bound p, tt))
  shaped_expr site bound (ArrayTree es place) = (tt, shaped_exprs site bound es)
  shaped_expr site bound (ObjectTree flags fs place) = (tt, shaped_field_parts site bound fs (scopes (methods_of (layout_of fs))) (method_parts site bound fs) (shaped_methods site bound fs))
  shaped_expr site bound (IfTree arms last place) = shaped_ifs site bound arms (maybe_term site bound last) (shaped_maybe site bound last)
  shaped_expr site bound (LoopTree b place) = (tt, (shaped_block site bound b, tt))
  shaped_expr site bound (ExitTree place) = (tt, tt)
  shaped_expr site bound (ForTree x m n b place) = (tt, (shaped_expr site bound m, (shaped_expr site bound n, (shaped_block site (x ∷ bound) b, tt))))
  shaped_expr site bound (ForeachTree x e b place) = (tt, (shaped_expr site bound e, (shaped_block site (x ∷ bound) b, tt)))
  shaped_expr site bound (TryTree b arms last place) = (tt, (shaped_block site bound b, shaped_arms site bound arms (maybe_parts site bound last) (shaped_maybe_parts site bound last)))
  shaped_expr site bound (FinallyTree b last place) = (tt, (shaped_block site bound b, (shaped_block site bound last, tt)))
  shaped_expr site bound (RaiseTree e place) = (tt, (shaped_expr site bound e, tt))
  shaped_expr site bound (WatchTree c g place) = (tt, (shaped_expr site bound c, (shaped_expr site bound g, tt)))
  shaped_expr site bound (RedirectTree o p place) = (tt, (shaped_expr site bound o, (shaped_expr site bound p, tt)))
  shaped_expr site bound (CloneTree es place) = (tt, shaped_exprs site bound es)
  shaped_expr site bound (ChainTree e links) = shaped_chain site bound (expr_term site bound e) (shaped_expr site bound e) links
  shaped_expr site bound (SuffixedTree e ss) = shaped_suffixes site bound (called_builtin bound e) (expr_term site bound e) (shaped_expr site bound e) ss

  pub shaped_exprs : (site : ℕ) (bound : List Bytes) (es : ExprTrees) → AreShaped Terms (expr_parts site bound es)
  shaped_exprs site bound NoExprs = tt
  shaped_exprs site bound (AnExpr e es) = (shaped_expr site bound e, shaped_exprs site bound es)

  pub shaped_chain : (site : ℕ) (bound : List Bytes) (t : Term ℕ) → IsShaped t → (links : LinkTrees) → IsShaped (chain_term site bound t links)
  shaped_chain site bound t h NoLinks = h
  shaped_chain site bound t h (ALink op e place links) = shaped_chain site bound (linked op t (expr_term site bound e)) (shaped_linked op t (expr_term site bound e) h (shaped_expr site bound e)) links

  pub shaped_suffixes : (site : ℕ) (bound : List Bytes) (b : Option Builtin) (t : Term ℕ) → IsShaped t → (ss : SuffixTrees) → IsShaped (suffixes_term site bound b t ss)
  shaped_suffixes site bound b t h NoSuffixes = h
  shaped_suffixes site bound (Some b) t h (ASuffix (ApplySuffix es place) ss) = shaped_suffixes site bound None (Form (Apply b) (expr_parts site bound es)) (tt, shaped_exprs site bound es) ss
  shaped_suffixes site bound b t h (ASuffix s ss) = shaped_suffixes site bound None (suffix_term site bound t s) (shaped_suffix site bound t h s) ss

  pub shaped_suffix : (site : ℕ) (bound : List Bytes) (t : Term ℕ) → IsShaped t → (s : SuffixTree) → IsShaped (suffix_term site bound t s)
  shaped_suffix site bound t h (ApplySuffix es place) = (tt, (h, shaped_exprs site bound es))
  shaped_suffix site bound t h (SelectSuffix x place) = (tt, (h, tt))
  shaped_suffix site bound t h (InvokeSuffix x es place) = (tt, (h, shaped_exprs site bound es))
  shaped_suffix site bound t h (IndexSuffix e place) = (tt, (h, (shaped_expr site bound e, tt)))

  pub shaped_ifs : (site : ℕ) (bound : List Bytes) (arms : ArmTrees) (otherwise : Term ℕ) → IsShaped otherwise → IsShaped (if_term site bound arms otherwise)
  shaped_ifs site bound NoArms otherwise h = h
  shaped_ifs site bound (AnArm c b arms) otherwise h = (tt, (shaped_expr site bound c, (shaped_block site bound b, (shaped_ifs site bound arms otherwise h, tt))))

  pub shaped_arms : (site : ℕ) (bound : List Bytes) (arms : ArmTrees) (last : Parts ℕ) → AreShaped Terms last → AreShaped Terms (arm_parts site bound arms last)
  shaped_arms site bound NoArms last h = h
  shaped_arms site bound (AnArm guard b arms) last h = (shaped_expr site bound guard, (shaped_block site bound b, shaped_arms site bound arms last h))

  pub shaped_field_parts : (site : ℕ) (bound : List Bytes) (fs : FieldTrees) (p : Pattern) (methods : Parts ℕ) → AreShaped p methods → AreShaped (terms_then (operands_of (layout_of fs)) p) (field_parts site bound fs methods)
  shaped_field_parts site bound NoFields p methods h = h
  shaped_field_parts site bound (AField x (ValueOf e) place fs) p methods h = (shaped_expr site bound e, shaped_field_parts site bound fs p methods h)
  shaped_field_parts site bound (AField x (MethodOf q) place fs) p methods h = shaped_field_parts site bound fs p methods h
  shaped_field_parts site bound (AField x (AliasOf y e place2) place fs) p methods h = (shaped_expr site bound e, shaped_field_parts site bound fs p methods h)

  pub shaped_methods : (site : ℕ) (bound : List Bytes) (fs : FieldTrees) → AreShaped (scopes (methods_of (layout_of fs))) (method_parts site bound fs)
  shaped_methods site bound NoFields = tt
  shaped_methods site bound (AField x (MethodOf p) place fs) = (shaped_procedure site bound p, shaped_methods site bound fs)
  shaped_methods site bound (AField x (ValueOf e) place fs) = shaped_methods site bound fs
  shaped_methods site bound (AField x (AliasOf y e place2) place fs) = shaped_methods site bound fs

pub opening_shaped : OpeningShaped
opening_shaped site bound b = (shaped_block site bound b, source_block site bound b)
