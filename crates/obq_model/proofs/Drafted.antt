-- What drafts of trees are: so many trees, each node with as many children as it says, and what the code of each procedure knows.
use Rattle.std.specs.Prelude.{List, None, Option, Some, [], length, refl, suc, ℕ, ◌+◌, ◌++◌, ◌∷◌, ◌≡◌}
use Rattle.std.proofs.Common.{ap, sym, ◌∙◌, arith, subst}
use Rattle.std.proofs.lemmas.List.{length-map}
use Rattle.obq_base.specs.declared.code.Node.{Node}
use Rattle.obq_base.specs.declared.code.Node.TheVariants as n
use Rattle.obq_base.specs.declared.code.Slot.{Slot}
use Rattle.obq_base.specs.Tree.{BlockTree, BlockOf, MaybeBlock, NoBlock, ABlock, ItemTrees, NoItems, AnItem, ItemTree, LetItem, VarItem, LetRecItem, AssignItem, FieldItem, IndexItem, PlainItem, BindTrees, NoBinds, ABind, RecBindTrees, NoRecBinds, ARecBind, ProcedureTree, AProc, FieldTree, ValueOf, MethodOf, AliasOf, ExprTree, IntTree, TextTree, TruthTree, OkTree, NameTree, ProcTree, ArrayTree, ObjectTree, IfTree, LoopTree, ExitTree, ForTree, ForeachTree, TryTree, FinallyTree, RaiseTree, WatchTree, RedirectTree, CloneTree, ChainTree, SuffixedTree, ExprTrees, NoExprs, AnExpr, LinkTrees, NoLinks, ALink, SuffixTree, ApplySuffix, SelectSuffix, InvokeSuffix, IndexSuffix, SuffixTrees, NoSuffixes, ASuffix, ArmTrees, NoArms, AnArm, FieldTrees, NoFields, AField}
use Rattle.obq_model.specs.Terms.{Bytes}
use Rattle.obq_model.specs.Occurrences.{item_names, member_names}
use Rattle.obq_model.specs.Scopes.{Outside, inside, slot_of, slots_of}
use Rattle.obq_model.specs.Draft.{Draft, Done, Plain, Both, Closure, Method, Group, Members, NoMembers, AMember, called_row, captured_by, captured_by_group, count_arms, count_binds, count_exprs, count_items, count_suffixes, draft_arms, draft_binds, draft_block, draft_body, draft_expr, draft_exprs, draft_field, draft_fields, draft_item, draft_items, draft_links, draft_maybe, draft_members, draft_suffix, draft_suffixes, field_names, has_block, operators_of}
use Rattle.obq_model.specs.Resolved.{numbers_of}
use Rattle.obq_model.specs.Skipped.{children, flag}

-- how many trees a draft has, one behind the other
abbrev pub trees_in : Draft → ℕ
trees_in Done = 0
trees_in (Plain a d) = 1
trees_in (Both d e) = trees_in d + trees_in e
trees_in (Closure from u p body d) = 1 + trees_in d
trees_in (Method from u p body d) = 1 + trees_in d
trees_in (Group from u bs bodies d) = 1 + trees_in d

-- a procedure by itself or a method captures these slots, and its code knows this
pub record IsCaptured (from : List Slot) (u : Outside) (p : ProcedureTree) : Type 0 where
  pub around : Outside
  pub names : List Bytes
  pub outside : u ≡ inside around [] (captured_by around names p)
  pub many : length from ≡ length u.captured

-- and so the procedures of a `let rec`
pub record AreCaptured (from : List Slot) (u : Outside) (bs : RecBindTrees) : Type 0 where
  pub around : Outside
  pub names : List Bytes
  pub outside : u ≡ inside around (member_names bs) (captured_by_group around names bs)
  pub many : length from ≡ length u.captured

abbrev mutual
  pub IsDrafted : Draft → Type 0
  IsDrafted Done = Unit {0}
  IsDrafted (Plain a d) = (children a ≡ trees_in d) × (numbers_of a ≡ []) × IsDrafted d
  IsDrafted (Both d e) = IsDrafted d × IsDrafted e
  IsDrafted (Closure from u p body d) = IsCaptured from u p × (body ≡ draft_body u p) × IsDrafted body × IsDrafted d
  IsDrafted (Method from u p body d) = IsCaptured from u p × (body ≡ draft_body u p) × IsDrafted body × IsDrafted d
  IsDrafted (Group from u bs bodies d) = AreCaptured from u bs × AreDrafted u bs bodies × IsDrafted d

  pub AreDrafted : Outside → RecBindTrees → Members → Type 0
  AreDrafted u NoRecBinds NoMembers = Unit {0}
  AreDrafted u (ARecBind x p place bs) (AMember body bodies) = (body ≡ draft_body u p) × IsDrafted body × AreDrafted u bs bodies
  AreDrafted u NoRecBinds (AMember body bodies) = ⊥
  AreDrafted u (ARecBind x p place bs) NoMembers = ⊥

-- it is so, with so many trees
pub record Drafted (d : Draft) (m : ℕ) : Type 0 where
  pub trees : trees_in d ≡ m
  pub drafted : IsDrafted d

none : Drafted Done 0
none = record { trees = refl; drafted = tt }

of_count : {d : Draft} {m n : ℕ} → m ≡ n → Drafted d m → Drafted d n
of_count {d} e s = subst (λ j. Drafted d j) e s

plain : {a : Node} {d : Draft} {m : ℕ} → children a ≡ m → numbers_of a ≡ [] → Drafted d m → Drafted (Plain a d) 1
plain e f s = record { trees = refl; drafted = (e ∙ sym s.trees, f, s.drafted) }

both : {d e : Draft} {m n : ℕ} → Drafted d m → Drafted e n → Drafted (Both d e) (m + n)
both {d} {e} {m} {n} s t = record { trees = ap (λ j. j + trees_in e) s.trees ∙ ap (λ j. m + j) t.trees; drafted = (s.drafted, t.drafted) }

one_plus : (k : ℕ) → 1 + k ≡ suc k
one_plus k = omega arith

captured : (u : Outside) (names : List Bytes) (p : ProcedureTree) → IsCaptured (slots_of u names (captured_by u names p)) (inside u [] (captured_by u names p)) p
captured u names p = record { around = u; names = names; outside = refl; many = length-map (captured_by u names p) (slot_of u names) }

closure : (u : Outside) (names : List Bytes) (p : ProcedureTree) → IsDrafted (draft_body (inside u [] (captured_by u names p)) p)
    → Drafted (Closure (slots_of u names (captured_by u names p)) (inside u [] (captured_by u names p)) p (draft_body (inside u [] (captured_by u names p)) p) Done) 1
closure u names p h = record { trees = refl; drafted = (captured u names p, refl, h, tt) }

method : (u : Outside) (names : List Bytes) (p : ProcedureTree) → IsDrafted (draft_body (inside u [] (captured_by u names p)) p)
    → Drafted (Method (slots_of u names (captured_by u names p)) (inside u [] (captured_by u names p)) p (draft_body (inside u [] (captured_by u names p)) p) Done) 1
method u names p h = record { trees = refl; drafted = (captured u names p, refl, h, tt) }

group : (u : Outside) (names : List Bytes) (bs : RecBindTrees) → AreDrafted (inside u (member_names bs) (captured_by_group u names bs)) bs (draft_members (inside u (member_names bs) (captured_by_group u names bs)) bs)
    → Drafted (Group (slots_of u names (captured_by_group u names bs)) (inside u (member_names bs) (captured_by_group u names bs)) bs (draft_members (inside u (member_names bs) (captured_by_group u names bs)) bs) Done) 1
group u names bs h = record {
  trees = refl;
  drafted = (record { around = u; names = names; outside = refl; many = length-map (captured_by_group u names bs) (slot_of u names) }, h, tt);
}

leaf : (a : Node) → children a ≡ 0 → numbers_of a ≡ [] → Drafted (Plain a Done) 1
leaf a e f = plain e f none

called_none : (u : Outside) (names : List Bytes) (e : ExprTree) → called_row u names e NoSuffixes ≡ None
called_none u names (NameTree x place) = refl
called_none u names e = refl

headed : (d : Draft) (g : ℕ → Draft) → Drafted d 1 → ((r : ℕ) → Drafted (g r) 1) → (o : Option ℕ) → Drafted (elim o [ None ↦ d | Some r ↦ g r ]) 1
headed d g h k None = h
headed d g h k (Some r) = k r

two_arms : (a : ℕ) → (1 + 1) + (a + a) ≡ suc a + suc a
two_arms a = omega arith

mutual
  pub drafted_block : (u : Outside) (names : List Bytes) (b : BlockTree) → Drafted (draft_block u names b) 1
  drafted_block u names (BlockOf is place) = plain refl refl (drafted_items u names is)

  pub drafted_maybe : (u : Outside) (names : List Bytes) (b : MaybeBlock) → Drafted (draft_maybe u names b) (flag (has_block b))
  drafted_maybe u names NoBlock = none
  drafted_maybe u names (ABlock b) = drafted_block u names b

  pub drafted_items : (u : Outside) (names : List Bytes) (is : ItemTrees) → Drafted (draft_items u names is) (count_items is)
  drafted_items u names NoItems = none
  drafted_items u names (AnItem i is) = of_count (one_plus (count_items is)) (both (drafted_item u names i) (drafted_items u (names ++ item_names i) is))

  pub drafted_item : (u : Outside) (names : List Bytes) (i : ItemTree) → Drafted (draft_item u names i) 1
  drafted_item u names (LetItem bs place) = plain refl refl (drafted_binds u names bs)
  drafted_item u names (VarItem bs place) = plain refl refl (drafted_binds u names bs)
  drafted_item u names (LetRecItem bs place) = group u names bs (drafted_members (inside u (member_names bs) (captured_by_group u names bs)) bs)
  drafted_item u names (AssignItem x e place) = plain refl refl (drafted_expr u names e)
  drafted_item u names (FieldItem e x body place) = plain refl refl (both (drafted_expr u names e) (drafted_field u names body))
  drafted_item u names (IndexItem a i e place) = plain refl refl (both (drafted_expr u names a) (both (drafted_expr u names i) (drafted_expr u names e)))
  drafted_item u names (PlainItem e) = drafted_expr u names e

  pub drafted_binds : (u : Outside) (names : List Bytes) (bs : BindTrees) → Drafted (draft_binds u names bs) (count_binds bs)
  drafted_binds u names NoBinds = none
  drafted_binds u names (ABind x e place bs) = of_count (one_plus (count_binds bs)) (both (drafted_expr u names e) (drafted_binds u (names ++ x ∷ []) bs))

  pub drafted_members : (u : Outside) (bs : RecBindTrees) → AreDrafted u bs (draft_members u bs)
  drafted_members u NoRecBinds = tt
  drafted_members u (ARecBind x p place bs) = (refl, drafted_body u p, drafted_members u bs)

  pub drafted_body : (u : Outside) (p : ProcedureTree) → IsDrafted (draft_body u p)
  drafted_body u (AProc params b place) = (drafted_block u params b).drafted

  pub drafted_field : (u : Outside) (names : List Bytes) (f : FieldTree) → Drafted (draft_field u names f) 1
  drafted_field u names (ValueOf e) = drafted_expr u names e
  drafted_field u names (MethodOf p) = method u names p (drafted_body (inside u [] (captured_by u names p)) p)
  drafted_field u names (AliasOf x e place) = plain refl refl (drafted_expr u names e)

  pub drafted_expr : (u : Outside) (names : List Bytes) (e : ExprTree) → Drafted (draft_expr u names e) 1
  drafted_expr u names (IntTree z place) = leaf _ refl refl
  drafted_expr u names (TextTree t place) = leaf _ refl refl
  drafted_expr u names (TruthTree b place) = leaf _ refl refl
  drafted_expr u names (OkTree place) = leaf _ refl refl
  drafted_expr u names (NameTree x place) = leaf _ refl refl
  drafted_expr u names (ProcTree p) = closure u names p (drafted_body (inside u [] (captured_by u names p)) p)
  drafted_expr u names (ArrayTree es place) = plain refl refl (drafted_exprs u names es)
  drafted_expr u names (ObjectTree flags fs place) = plain refl refl (drafted_fields u names fs)
  drafted_expr u names (IfTree arms last place) = plain refl refl (both (drafted_arms u names arms) (drafted_maybe u names last))
  drafted_expr u names (LoopTree b place) = plain refl refl (drafted_block u names b)
  drafted_expr u names (ExitTree place) = leaf _ refl refl
  drafted_expr u names (ForTree x m n b place) = plain refl refl (both (drafted_expr u names m) (both (drafted_expr u names n) (drafted_block u (names ++ x ∷ []) b)))
  drafted_expr u names (ForeachTree x e b place) = plain refl refl (both (drafted_expr u names e) (drafted_block u (names ++ x ∷ []) b))
  drafted_expr u names (TryTree b arms last place) = plain refl refl (both (drafted_block u names b) (both (drafted_arms u names arms) (drafted_maybe u names last)))
  drafted_expr u names (FinallyTree b last place) = plain refl refl (both (drafted_block u names b) (drafted_block u names last))
  drafted_expr u names (RaiseTree e place) = plain refl refl (drafted_expr u names e)
  drafted_expr u names (WatchTree c g place) = plain refl refl (both (drafted_expr u names c) (drafted_expr u names g))
  drafted_expr u names (RedirectTree e p place) = plain refl refl (both (drafted_expr u names e) (drafted_expr u names p))
  drafted_expr u names (CloneTree es place) = plain refl refl (drafted_exprs u names es)
  drafted_expr u names (ChainTree e links) = plain refl refl (both (drafted_expr u names e) (drafted_links u names links))
  drafted_expr u names (SuffixedTree e NoSuffixes) =
      subst (λ (o : Option ℕ). Drafted (elim o [ None ↦ Plain (n.Suffixes 0) (Both (draft_expr u names e) Done) | Some r ↦ Plain (n.Suffixes 0) Done ]) 1) (sym (called_none u names e)) (plain refl refl (both (drafted_expr u names e) none))
  drafted_expr u names (SuffixedTree e (ASuffix s ss)) =
      headed (Plain (n.Suffixes (count_suffixes (ASuffix s ss))) (Both (draft_expr u names e) (draft_suffixes u names None (ASuffix s ss)))) (λ r. Plain (n.Suffixes (count_suffixes ss)) (draft_suffixes u names (Some r) (ASuffix s ss)))
      (plain refl refl (both (drafted_expr u names e) (drafted_suffixes u names None (ASuffix s ss)))) (λ r. plain (one_plus (count_suffixes ss)) refl (drafted_suffixes u names (Some r) (ASuffix s ss))) (called_row u names e (ASuffix s ss))

  pub drafted_exprs : (u : Outside) (names : List Bytes) (es : ExprTrees) → Drafted (draft_exprs u names es) (count_exprs es)
  drafted_exprs u names NoExprs = none
  drafted_exprs u names (AnExpr e es) = of_count (one_plus (count_exprs es)) (both (drafted_expr u names e) (drafted_exprs u names es))

  pub drafted_links : (u : Outside) (names : List Bytes) (links : LinkTrees) → Drafted (draft_links u names links) (length (operators_of links))
  drafted_links u names NoLinks = none
  drafted_links u names (ALink op e place links) = of_count (one_plus (length (operators_of links))) (both (drafted_expr u names e) (drafted_links u names links))

  pub drafted_suffix : (u : Outside) (names : List Bytes) (o : Option ℕ) (s : SuffixTree) → Drafted (draft_suffix u names o s) 1
  drafted_suffix u names None (ApplySuffix es place) = plain refl refl (drafted_exprs u names es)
  drafted_suffix u names (Some r) (ApplySuffix es place) = plain refl refl (drafted_exprs u names es)
  drafted_suffix u names o (SelectSuffix x place) = leaf _ refl refl
  drafted_suffix u names o (InvokeSuffix x es place) = plain refl refl (drafted_exprs u names es)
  drafted_suffix u names o (IndexSuffix e place) = plain refl refl (drafted_expr u names e)

  pub drafted_suffixes : (u : Outside) (names : List Bytes) (o : Option ℕ) (ss : SuffixTrees) → Drafted (draft_suffixes u names o ss) (count_suffixes ss)
  drafted_suffixes u names o NoSuffixes = none
  drafted_suffixes u names o (ASuffix s ss) = of_count (one_plus (count_suffixes ss)) (both (drafted_suffix u names o s) (drafted_suffixes u names None ss))

  pub drafted_arms : (u : Outside) (names : List Bytes) (arms : ArmTrees) → Drafted (draft_arms u names arms) (count_arms arms + count_arms arms)
  drafted_arms u names NoArms = none
  drafted_arms u names (AnArm e b arms) = of_count (two_arms (count_arms arms)) (both (both (drafted_expr u names e) (drafted_block u names b)) (drafted_arms u names arms))

  pub drafted_fields : (u : Outside) (names : List Bytes) (fs : FieldTrees) → Drafted (draft_fields u names fs) (length (field_names fs))
  drafted_fields u names NoFields = none
  drafted_fields u names (AField x body place fs) = of_count (one_plus (length (field_names fs))) (both (drafted_field u names body) (drafted_fields u names fs))
