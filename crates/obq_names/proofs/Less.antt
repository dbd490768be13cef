-- Under more binders fewer occurrences are free: those whose names the further ones don't bind.
use Rattle.std.proofs.Common.{◌≡◌, ◌∙◌, inl, inr, ℕ, Bool, false, not, List, [], ◌∷◌, ◌++◌, refl, ap, sym, append_assoc}
use Rattle.std.specs.List.{filter}
use Rattle.std.proofs.lemmas.Bool.{cases_Bool}
use Rattle.std.proofs.lemmas.List.Elements.{filter-append}
use Rattle.obq_base.specs.declared.occurrences.Occurrence.{Occurrence}
use Rattle.obq_base.specs.Tree.{BlockTree, BlockOf, MaybeBlock, NoBlock, ABlock, ItemTrees, NoItems, AnItem, ItemTree, LetItem, VarItem, LetRecItem, AssignItem, FieldItem, IndexItem, PlainItem, BindTrees, NoBinds, ABind, RecBindTrees, NoRecBinds, ARecBind, ProcedureTree, AProc, FieldTree, ValueOf, MethodOf, AliasOf, ExprTree, IntTree, TextTree, TruthTree, OkTree, NameTree, ProcTree, ArrayTree, ObjectTree, IfTree, LoopTree, ExitTree, ForTree, ForeachTree, TryTree, FinallyTree, RaiseTree, WatchTree, RedirectTree, CloneTree, ChainTree, SuffixedTree, ExprTrees, NoExprs, AnExpr, LinkTrees, NoLinks, ALink, SuffixTree, ApplySuffix, SelectSuffix, InvokeSuffix, IndexSuffix, SuffixTrees, NoSuffixes, ASuffix, ArmTrees, NoArms, AnArm, FieldTrees, NoFields, AField}
use Rattle.obq_model.specs.Put.{among}
use Rattle.obq_model.specs.Occurrences.{free_arms, free_binds, free_block, free_expr, free_exprs, free_field, free_fields, free_item, free_items, free_links, free_maybe, free_members, free_procedure, free_suffix, free_suffixes, is_called, item_names, member_names, occurrence}
use Rattle.obq_model.proofs.Among.{among_append}
use Rattle.obq_names.proofs.Unions.{Names}

-- those whose name isn't among these
abbrev pub besides : Names → List Occurrence → List Occurrence
besides outer us = filter (λ u. not (among u.name outer)) us

both : (outer : Names) (a b c d : List Occurrence) → a ≡ besides outer c → b ≡ besides outer d → a ++ b ≡ besides outer (c ++ d)
both outer a b c d e f = ap (λ (l : List Occurrence). l ++ b) e ∙ ap (λ (l : List Occurrence). besides outer c ++ l) f ∙ sym (filter-append (λ u. not (among u.name outer)) c d)

-- further binders behind
further : (free : Names → List Occurrence) (outer inner names : Names) → free (outer ++ (inner ++ names)) ≡ besides outer (free (inner ++ names)) → free (outer ++ inner ++ names) ≡ besides outer (free (inner ++ names))
further free outer inner names e = ap free (append_assoc outer inner names) ∙ e

less_occurrence : (outer inner : Names) (called : Bool) (x : List ℕ) (place : ℕ) → occurrence (outer ++ inner) called x place ≡ besides outer (occurrence inner called x place)
less_occurrence outer inner called x place = elim (cases_Bool (among x outer)) [
  | inl e ↦ elim (cases_Bool (among x inner)) [
    | inl g ↦ rw (among_append x outer inner, e, g) refl
    | inr g ↦ rw (among_append x outer inner, e, g) (rw e refl)
  ]
  | inr e ↦ elim (cases_Bool (among x inner)) [
    | inl g ↦ rw (among_append x outer inner, e, g) refl
    | inr g ↦ rw (among_append x outer inner, e, g) (rw e refl)
  ]
]

mutual
  pub less_block : (outer inner : Names) (tree : BlockTree) → free_block (outer ++ inner) tree ≡ besides outer (free_block inner tree)
  less_block a b (BlockOf is place) = less_items a b is

  less_maybe : (outer inner : Names) (tree : MaybeBlock) → free_maybe (outer ++ inner) tree ≡ besides outer (free_maybe inner tree)
  less_maybe a b NoBlock = refl
  less_maybe a b (ABlock t) = less_block a b t

  less_items : (outer inner : Names) (tree : ItemTrees) → free_items (outer ++ inner) tree ≡ besides outer (free_items inner tree)
  less_items a b NoItems = refl
  less_items a b (AnItem i is) = both a _ _ _ _ (less_item a b i) (further (λ z. free_items z is) a b (item_names i) (less_items a (b ++ item_names i) is))

  less_item : (outer inner : Names) (tree : ItemTree) → free_item (outer ++ inner) tree ≡ besides outer (free_item inner tree)
  less_item a b (LetItem bs place) = less_binds a b bs
  less_item a b (VarItem bs place) = less_binds a b bs
  less_item a b (LetRecItem bs place) = further (λ z. free_members z bs) a b (member_names bs) (less_members a (b ++ member_names bs) bs)
  less_item a b (AssignItem x e place) = both a _ _ _ _ (less_occurrence a b false x place) (less_expr a b false e)
  less_item a b (FieldItem o x body place) = both a _ _ _ _ (less_expr a b false o) (less_field a b body)
  less_item a b (IndexItem r i e place) = both a _ _ _ _ (less_expr a b false r) (both a _ _ _ _ (less_expr a b false i) (less_expr a b false e))
  less_item a b (PlainItem e) = less_expr a b false e

  less_binds : (outer inner : Names) (tree : BindTrees) → free_binds (outer ++ inner) tree ≡ besides outer (free_binds inner tree)
  less_binds a b NoBinds = refl
  less_binds a b (ABind x e place bs) = both a _ _ _ _ (less_expr a b false e) (further (λ z. free_binds z bs) a b (x ∷ []) (less_binds a (b ++ x ∷ []) bs))

  pub less_members : (outer inner : Names) (tree : RecBindTrees) → free_members (outer ++ inner) tree ≡ besides outer (free_members inner tree)
  less_members a b NoRecBinds = refl
  less_members a b (ARecBind x p place bs) = both a _ _ _ _ (less_procedure a b p) (less_members a b bs)

  pub less_procedure : (outer inner : Names) (tree : ProcedureTree) → free_procedure (outer ++ inner) tree ≡ besides outer (free_procedure inner tree)
  less_procedure a b (AProc params t place) = further (λ z. free_block z t) a b params (less_block a (b ++ params) t)

  less_field : (outer inner : Names) (tree : FieldTree) → free_field (outer ++ inner) tree ≡ besides outer (free_field inner tree)
  less_field a b (ValueOf e) = less_expr a b false e
  less_field a b (MethodOf p) = less_procedure a b p
  less_field a b (AliasOf x e place) = less_expr a b false e

  less_expr : (outer inner : Names) (called : Bool) (tree : ExprTree) → free_expr (outer ++ inner) called tree ≡ besides outer (free_expr inner called tree)
  less_expr a b c (IntTree z place) = refl
  less_expr a b c (TextTree t place) = refl
  less_expr a b c (TruthTree t place) = refl
  less_expr a b c (OkTree place) = refl
  less_expr a b c (NameTree x place) = less_occurrence a b c x place
  less_expr a b c (ProcTree p) = less_procedure a b p
  less_expr a b c (ArrayTree es place) = less_exprs a b es
  less_expr a b c (ObjectTree flags fs place) = less_fields a b fs
  less_expr a b c (IfTree arms last place) = both a _ _ _ _ (less_arms a b arms) (less_maybe a b last)
  less_expr a b c (LoopTree t place) = less_block a b t
  less_expr a b c (ExitTree place) = refl
  less_expr a b c (ForTree x m n t place) = both a _ _ _ _ (less_expr a b false m) (both a _ _ _ _ (less_expr a b false n) (further (λ z. free_block z t) a b (x ∷ []) (less_block a (b ++ x ∷ []) t)))
  less_expr a b c (ForeachTree x e t place) = both a _ _ _ _ (less_expr a b false e) (further (λ z. free_block z t) a b (x ∷ []) (less_block a (b ++ x ∷ []) t))
  less_expr a b c (TryTree t arms last place) = both a _ _ _ _ (less_block a b t) (both a _ _ _ _ (less_arms a b arms) (less_maybe a b last))
  less_expr a b c (FinallyTree t last place) = both a _ _ _ _ (less_block a b t) (less_block a b last)
  less_expr a b c (RaiseTree e place) = less_expr a b false e
  less_expr a b c (WatchTree m n place) = both a _ _ _ _ (less_expr a b false m) (less_expr a b false n)
  less_expr a b c (RedirectTree m n place) = both a _ _ _ _ (less_expr a b false m) (less_expr a b false n)
  less_expr a b c (CloneTree es place) = less_exprs a b es
  less_expr a b c (ChainTree e links) = both a _ _ _ _ (less_expr a b false e) (less_links a b links)
  less_expr a b c (SuffixedTree e ss) = both a _ _ _ _ (less_expr a b (is_called ss) e) (less_suffixes a b ss)

  less_exprs : (outer inner : Names) (tree : ExprTrees) → free_exprs (outer ++ inner) tree ≡ besides outer (free_exprs inner tree)
  less_exprs a b NoExprs = refl
  less_exprs a b (AnExpr e es) = both a _ _ _ _ (less_expr a b false e) (less_exprs a b es)

  less_links : (outer inner : Names) (tree : LinkTrees) → free_links (outer ++ inner) tree ≡ besides outer (free_links inner tree)
  less_links a b NoLinks = refl
  less_links a b (ALink op e place links) = both a _ _ _ _ (less_expr a b false e) (less_links a b links)

  less_suffix : (outer inner : Names) (tree : SuffixTree) → free_suffix (outer ++ inner) tree ≡ besides outer (free_suffix inner tree)
  less_suffix a b (ApplySuffix es place) = less_exprs a b es
  less_suffix a b (SelectSuffix x place) = refl
  less_suffix a b (InvokeSuffix x es place) = less_exprs a b es
  less_suffix a b (IndexSuffix e place) = less_expr a b false e

  less_suffixes : (outer inner : Names) (tree : SuffixTrees) → free_suffixes (outer ++ inner) tree ≡ besides outer (free_suffixes inner tree)
  less_suffixes a b NoSuffixes = refl
  less_suffixes a b (ASuffix s ss) = both a _ _ _ _ (less_suffix a b s) (less_suffixes a b ss)

  less_arms : (outer inner : Names) (tree : ArmTrees) → free_arms (outer ++ inner) tree ≡ besides outer (free_arms inner tree)
  less_arms a b NoArms = refl
  less_arms a b (AnArm e t arms) = both a _ _ _ _ (both a _ _ _ _ (less_expr a b false e) (less_block a b t)) (less_arms a b arms)

  less_fields : (outer inner : Names) (tree : FieldTrees) → free_fields (outer ++ inner) tree ≡ besides outer (free_fields inner tree)
  less_fields a b NoFields = refl
  less_fields a b (AField x body place fs) = both a _ _ _ _ (less_field a b body) (less_fields a b fs)
