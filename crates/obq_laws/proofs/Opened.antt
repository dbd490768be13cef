-- A program opens as source terms.
use Rattle.std.specs.Prelude.{List, None, Option, Some, [], bytes_eq, codes, length, not, replicate, suc, zero, ℕ, ◌&&◌, ◌++◌, ◌∷◌}
use Rattle.obq_base.specs.declared.trees.Operator.{Operator}
use Rattle.obq_base.specs.Tree.{BlockTree, BlockOf, MaybeBlock, NoBlock, ABlock, ItemTrees, NoItems, AnItem, ItemTree, LetItem, VarItem, LetRecItem, AssignItem, FieldItem, IndexItem, PlainItem, BindTrees, NoBinds, ABind, RecBindTrees, NoRecBinds, ARecBind, ProcedureTree, AProc, FieldTree, ValueOf, MethodOf, AliasOf, ExprTree, IntTree, TextTree, TruthTree, OkTree, NameTree, ProcTree, ArrayTree, ObjectTree, IfTree, LoopTree, ExitTree, ForTree, ForeachTree, TryTree, FinallyTree, RaiseTree, WatchTree, RedirectTree, CloneTree, ChainTree, SuffixedTree, ExprTrees, NoExprs, AnExpr, LinkTrees, NoLinks, ALink, SuffixTree, ApplySuffix, SelectSuffix, InvokeSuffix, IndexSuffix, SuffixTrees, NoSuffixes, ASuffix, ArmTrees, NoArms, AnArm, FieldTrees, NoFields, AField}
use Rattle.obq_model.specs.Terms.{Bytes, Writer, Builtin, Loc, Kind, Let, Var, Apply, Term, Const, Name, Form, Parts}
use Rattle.obq_model.specs.Put.{among}
use Rattle.obq_model.specs.Store.{WriterCell}
use Rattle.obq_model.specs.Step.{no_self}
use Rattle.obq_model.specs.Forms.{IsSourceKind, IsSource, AreSource}
use Rattle.obq_model.specs.Opening.{called_builtin, name_term, linked, group_names, block_term, maybe_term, maybe_parts, items_term, binds_term, group_parts, procedure_term, item_term, field_item, expr_term, expr_parts, chain_term, suffixes_term, suffix_term, if_term, arm_parts, field_parts, method_parts, opening_terms, new_threads, opening}
use Rattle.obq_model.specs.Located.{links}
use Rattle.obq_laws.specs.Keeping.{AreSourceCells, AreSourceThreads, IsSourceConfig}
use Rattle.obq_laws.proofs.Source.{source_if, source-formed}

source_name : (site : ℕ) (bound : List Bytes) (x : Bytes) → IsSource (name_term site bound x)
source_name site bound x = source_if (not (among x bound) && bytes_eq x (codes "stdout")) (Const (Loc Writer site)) (Name x) tt tt

source_linked : (op : Operator) (t u : Term ℕ) → IsSource t → IsSource u → IsSource (linked op t u)
source_linked Operator.Orif t u h k = (tt, (h, (k, tt)))
source_linked Operator.Andif t u h k = (tt, (h, (k, tt)))
source_linked _ t u h k = (tt, (h, (k, tt)))

mutual
  pub source_block : (site : ℕ) (bound : List Bytes) (b : BlockTree) → IsSource (block_term site bound b)
  source_block site bound (BlockOf NoItems place) = (tt, tt)
  source_block site bound (BlockOf (AnItem i items) place) = source_items site bound (AnItem i items)

  pub source_maybe : (site : ℕ) (bound : List Bytes) (b : MaybeBlock) → IsSource (maybe_term site bound b)
  source_maybe site bound NoBlock = tt
  source_maybe site bound (ABlock b) = source_block site bound b

  pub source_maybe_parts : (site : ℕ) (bound : List Bytes) (b : MaybeBlock) → AreSource (maybe_parts site bound b)
  source_maybe_parts site bound NoBlock = tt
  source_maybe_parts site bound (ABlock b) = (source_block site bound b, tt)

  pub source_items : (site : ℕ) (bound : List Bytes) (items : ItemTrees) → IsSource (items_term site bound items)
  source_items site bound NoItems = tt
  source_items site bound (AnItem (LetItem bs place) items) = source_binds Let tt site bound bs (λ names. items_term site names items) (λ names. source_items site names items)
  source_items site bound (AnItem (VarItem bs place) items) = source_binds Var tt site bound bs (λ names. items_term site names items) (λ names. source_items site names items)
  source_items site bound (AnItem (LetRecItem bs place) items) = (tt, ((tt, (source_items site (group_names bs ++ bound) items, source_group site (group_names bs ++ bound) bs)), tt))
  source_items site bound (AnItem i NoItems) = source_item site bound i
  source_items site bound (AnItem i (AnItem j items)) = (tt, (source_item site bound i, (source_items site bound (AnItem j items), tt)))

  pub source_binds : (k : Kind ℕ) → IsSourceKind k → (site : ℕ) (bound : List Bytes) (bs : BindTrees) (rest : List Bytes → Term ℕ) → ((names : List Bytes) → IsSource (rest names)) → IsSource (binds_term k site bound bs rest)
  source_binds k h site bound NoBinds rest r = r bound
  source_binds k h site bound (ABind x e place bs) rest r = (h, (source_expr site bound e, (source_binds k h site (x ∷ bound) bs rest r, tt)))

  pub source_group : (site : ℕ) (bound : List Bytes) (bs : RecBindTrees) → AreSource (group_parts site bound bs)
  source_group site bound NoRecBinds = tt
  source_group site bound (ARecBind x p place bs) = (source_procedure site bound p, source_group site bound bs)

  pub source_procedure : (site : ℕ) (bound : List Bytes) (p : ProcedureTree) → IsSource (procedure_term site bound p)
  source_procedure site bound (AProc params b place) = source_block site (params ++ bound) b

  pub source_item : (site : ℕ) (bound : List Bytes) (i : ItemTree) → IsSource (item_term site bound i)
  source_item site bound (AssignItem x e place) = (tt, (source_expr site bound e, (source_name site bound x, tt)))
  source_item site bound (FieldItem o x body place) = source_field_item site bound x (expr_term site bound o) (source_expr site bound o) body
  source_item site bound (IndexItem a i e place) = (tt, (source_expr site bound a, (source_expr site bound i, (source_expr site bound e, tt))))
  source_item site bound (PlainItem e) = source_expr site bound e
  source_item site bound (LetItem bs place) = tt
  source_item site bound (VarItem bs place) = tt
  source_item site bound (LetRecItem bs place) = tt

  pub source_field_item : (site : ℕ) (bound : List Bytes) (x : Bytes) (o : Term ℕ) → IsSource o → (body : FieldTree) → IsSource (field_item site bound x o body)
  source_field_item site bound x o h (ValueOf e) = (tt, (h, (source_expr site bound e, tt)))
  source_field_item site bound x o h (MethodOf p) = (tt, (h, (source_procedure site bound p, tt)))
  source_field_item site bound x o h (AliasOf y e place) = (tt, (h, (source_expr site bound e, tt)))

  pub source_expr : (site : ℕ) (bound : List Bytes) (e : ExprTree) → IsSource (expr_term site bound e)
  source_expr site bound (IntTree n place) = tt
  source_expr site bound (TextTree t place) = tt
  source_expr site bound (TruthTree b place) = tt
  source_expr site bound (OkTree place) = tt
  source_expr site bound (NameTree x place) = source_name site bound x
  source_expr site bound (ProcTree p) = (tt, (source_procedure site bound p, tt))
  source_expr site bound (ArrayTree es place) = (tt, source_exprs site bound es)
  source_expr site bound (ObjectTree flags fs place) = (tt, source_field_parts site bound fs (method_parts site bound fs) (source_methods site bound fs))
  source_expr site bound (IfTree arms last place) = source_ifs site bound arms (maybe_term site bound last) (source_maybe site bound last)
  source_expr site bound (LoopTree b place) = (tt, (source_block site bound b, tt))
  source_expr site bound (ExitTree place) = (tt, tt)
  source_expr site bound (ForTree x m n b place) = (tt, (source_expr site bound m, (source_expr site bound n, (source_block site (x ∷ bound) b, tt))))
  source_expr site bound (ForeachTree x e b place) = (tt, (source_expr site bound e, (source_block site (x ∷ bound) b, tt)))
  source_expr site bound (TryTree b arms last place) = (tt, (source_block site bound b, source_arms site bound arms (maybe_parts site bound last) (source_maybe_parts site bound last)))
  source_expr site bound (FinallyTree b last place) = (tt, (source_block site bound b, (source_block site bound last, tt)))
  source_expr site bound (RaiseTree e place) = (tt, (source_expr site bound e, tt))
  source_expr site bound (WatchTree c g place) = (tt, (source_expr site bound c, (source_expr site bound g, tt)))
  source_expr site bound (RedirectTree o p place) = (tt, (source_expr site bound o, (source_expr site bound p, tt)))
  source_expr site bound (CloneTree es place) = (tt, source_exprs site bound es)
  source_expr site bound (ChainTree e links) = source_chain site bound (expr_term site bound e) (source_expr site bound e) links
  source_expr site bound (SuffixedTree e ss) = source_suffixes site bound (called_builtin bound e) (expr_term site bound e) (source_expr site bound e) ss

  pub source_exprs : (site : ℕ) (bound : List Bytes) (es : ExprTrees) → AreSource (expr_parts site bound es)
  source_exprs site bound NoExprs = tt
  source_exprs site bound (AnExpr e es) = (source_expr site bound e, source_exprs site bound es)

  pub source_chain : (site : ℕ) (bound : List Bytes) (t : Term ℕ) → IsSource t → (links : LinkTrees) → IsSource (chain_term site bound t links)
  source_chain site bound t h NoLinks = h
  source_chain site bound t h (ALink op e place links) = source_chain site bound (linked op t (expr_term site bound e)) (source_linked op t (expr_term site bound e) h (source_expr site bound e)) links

  pub source_suffixes : (site : ℕ) (bound : List Bytes) (b : Option Builtin) (t : Term ℕ) → IsSource t → (ss : SuffixTrees) → IsSource (suffixes_term site bound b t ss)
  source_suffixes site bound b t h NoSuffixes = h
  source_suffixes site bound (Some b) t h (ASuffix (ApplySuffix es place) ss) = source_suffixes site bound None (Form (Apply b) (expr_parts site bound es)) (tt, source_exprs site bound es) ss
  source_suffixes site bound b t h (ASuffix s ss) = source_suffixes site bound None (suffix_term site bound t s) (source_suffix site bound t h s) ss

  pub source_suffix : (site : ℕ) (bound : List Bytes) (t : Term ℕ) → IsSource t → (s : SuffixTree) → IsSource (suffix_term site bound t s)
  source_suffix site bound t h (ApplySuffix es place) = (tt, (h, source_exprs site bound es))
  source_suffix site bound t h (SelectSuffix x place) = (tt, (h, tt))
  source_suffix site bound t h (InvokeSuffix x es place) = (tt, (h, source_exprs site bound es))
  source_suffix site bound t h (IndexSuffix e place) = (tt, (h, (source_expr site bound e, tt)))

  pub source_ifs : (site : ℕ) (bound : List Bytes) (arms : ArmTrees) (otherwise : Term ℕ) → IsSource otherwise → IsSource (if_term site bound arms otherwise)
  source_ifs site bound NoArms otherwise h = h
  source_ifs site bound (AnArm c b arms) otherwise h = (tt, (source_expr site bound c, (source_block site bound b, (source_ifs site bound arms otherwise h, tt))))

  pub source_arms : (site : ℕ) (bound : List Bytes) (arms : ArmTrees) (last : Parts ℕ) → AreSource last → AreSource (arm_parts site bound arms last)
  source_arms site bound NoArms last h = h
  source_arms site bound (AnArm guard b arms) last h = (source_expr site bound guard, (source_block site bound b, source_arms site bound arms last h))

  pub source_field_parts : (site : ℕ) (bound : List Bytes) (fs : FieldTrees) (methods : Parts ℕ) → AreSource methods → AreSource (field_parts site bound fs methods)
  source_field_parts site bound NoFields methods h = h
  source_field_parts site bound (AField x (ValueOf e) place fs) methods h = (source_expr site bound e, source_field_parts site bound fs methods h)
  source_field_parts site bound (AField x (MethodOf p) place fs) methods h = source_field_parts site bound fs methods h
  source_field_parts site bound (AField x (AliasOf y e place2) place fs) methods h = (source_expr site bound e, source_field_parts site bound fs methods h)

  pub source_methods : (site : ℕ) (bound : List Bytes) (fs : FieldTrees) → AreSource (method_parts site bound fs)
  source_methods site bound NoFields = tt
  source_methods site bound (AField x (MethodOf p) place fs) = (source_procedure site bound p, source_methods site bound fs)
  source_methods site bound (AField x (ValueOf e) place fs) = source_methods site bound fs
  source_methods site bound (AField x (AliasOf y e place2) place fs) = source_methods site bound fs

-- so the opening configuration is formed
source_threads : (site : ℕ) (bs : List BlockTree) → AreSourceThreads (new_threads (opening_terms site bs))
source_threads site [] = tt
source_threads site (b ∷ bs) = (source-formed no_self (block_term site [] b) (source_block site [] b), source_threads (suc site) bs)

source_writers : (n : ℕ) → AreSourceCells (replicate n (WriterCell []))
source_writers zero = tt
source_writers (suc n) = (tt, source_writers n)

pub opening_formed : (trees : List BlockTree) → IsSourceConfig (opening trees)
opening_formed trees = ((source_writers (length (opening_terms 0 trees)), tt), source_threads 0 trees)
