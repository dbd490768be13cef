-- An object literal has fewer methods than there are tokens.
use Rattle.std.proofs.Common.{Bool, List, Option, [], arith, length, subst, suc, sym, ℕ, ◌+◌, ◌≡◌, ◌≤◌, ◌∷◌}
use Rattle.obq_base.specs.declared.tokens.Token.{Token}
use Rattle.obq_base.specs.declared.trees.Flags.{Flags}
use Rattle.obq_base.specs.declared.trees.Block.{Block}
use Rattle.obq_base.specs.declared.trees.Item.{Item}
use Rattle.obq_base.specs.declared.trees.Bind.{Bind}
use Rattle.obq_base.specs.declared.trees.RecBind.{RecBind}
use Rattle.obq_base.specs.declared.trees.Proc.{Proc}
use Rattle.obq_base.specs.declared.trees.FieldExpr.{FieldExpr}
use Rattle.obq_base.specs.declared.trees.Expr.{Expr}
use Rattle.obq_base.specs.declared.trees.Link.{Link}
use Rattle.obq_base.specs.declared.trees.Suffix.{Suffix}
use Rattle.obq_base.specs.declared.trees.Arm.{Arm}
use Rattle.obq_base.specs.declared.trees.Field.{Field}
use Rattle.obq_base.specs.Tree.{FieldTrees, NoFields, AField, ValueOf, MethodOf, AliasOf, BlockTree, ItemTree, ProcedureTree, FieldTree, ExprTree, SuffixTree}
use Rattle.obq_base.specs.View.{ArmPair, BindPart, FieldPart, LinkPart, RecBindPart, arm_pair, arm_trees, bind_part, bind_trees, block_tree, expr_tree, expr_trees, field_part, field_tree, field_trees, item_tree, item_trees, link_trees, maybe_tree, procedure_tree, rec_bind_part, rec_bind_trees, suffix_tree, suffix_trees}
use Rattle.obq_model.specs.Grammar.{IsBlock, IsMore, IsItem, IsLet, IsBinds, IsMoreBinds, IsBind, IsRecBinds, IsMoreRecBinds, IsRecBind, IsFieldBody, IsMeth, IsProc, IsParameters, IsNames, IsMoreNames, IsExpr, IsLevel, IsLinks, IsSuffixed, IsSuffixes, IsSuffix, IsDotted, IsCall, IsArgs, IsMoreArgs, IsPrim, IsArray, IsArm, IsElsifs, IsElse, IsTry, IsGuard, IsGuards, IsObject, IsFlagged, IsBothFlags, IsFields, IsMoreFields, IsField, empty, items, no_more, semicolon, more, let_, var, assign, set_field, set_item, plain, let_binds, let_rec, binds, no_bind, one_bind, bind_of, rec_binds, no_rec_bind, one_rec_bind, rec_bind_of, value, method, alias, meth, proc, no_parameter, parameters, names, no_name, one_name, expr, operand, level, no_link, one_link, chain, no_suffix, one_suffix, apply, dotted, index, select, invoke, no_argument, arguments, args, no_arg, one_arg, int, text, true_, false_, ok, name, proc_of, paren, array, object, if_, loop_, exit, for, foreach, try, raise, watch, redirect, clone, no_element, elements, arm_of, no_elsif, one_elsif, no_else, else_, finally, excepts, guard_of, no_guard, one_guard, no_field, unflagged, protected, serialized, flag_alone, flag_fields, other_flag, flags_alone, flags_fields, fields, no_further_field, one_field, field_of}
use Rattle.obq_model.specs.Nodes.{chained, suffixed}
use Rattle.obq_laws.specs.Literals.{ArmsLiterals, BindsLiterals, BlockLiterals, ExprLiterals, ExprsLiterals, FieldLiterals, FieldsLiterals, ItemLiterals, ItemsLiterals, LinksLiterals, MaybeLiterals, MembersLiterals, ProcedureLiterals, SuffixLiterals, SuffixesLiterals, HasAtMost}
use Rattle.obq_grammar.proofs.Viewed.{link_is, arm_is, bind_is, block_is, expr_array_is, expr_chain_is, expr_clone_is, expr_exit_is, expr_finally_is, expr_for_is, expr_foreach_is, expr_if_is, expr_int_is, expr_loop_is, expr_object_is, expr_okay_is, expr_procedure_is, expr_raise_is, expr_redirect_is, expr_str_is, expr_suffixed_is, expr_truth_is, expr_try_is, expr_use_is, expr_watch_is, field_alias_is, field_method_is, field_part_is, field_value_is, item_assign_is, item_let_is, item_letrec_is, item_plain_is, item_setfield_is, item_setitem_is, item_var_is, procedure_is, rec_bind_is, suffix_apply_is, suffix_index_is, suffix_invoke_is, suffix_select_is}
use Rattle.obq_model.specs.Opening.{layout_of}
use Rattle.obq_model.specs.Shapes.{methods_of}

-- these tokens are no more than one more than n
pub record Within (n : ℕ) (x : List Token) : Type 0 where
  pub within : length x ≤ suc n

-- of the tokens x, of which r are left, at least so many stand before those
pub record Fits (count : ℕ) (x r : List Token) : Type 0 where
  pub fits : count + length r ≤ length x

-- the object literals of what stands in a list
abbrev BindLiterals : ℕ → BindPart → Type 0
BindLiterals n b = ExprLiterals (HasAtMost n) b.1

abbrev MemberLiterals : ℕ → RecBindPart → Type 0
MemberLiterals n b = ProcedureLiterals (HasAtMost n) b.1

abbrev ArmLiterals : ℕ → ArmPair → Type 0
ArmLiterals n a = ExprLiterals (HasAtMost n) a.0 × BlockLiterals (HasAtMost n) a.1

abbrev PartLiterals : ℕ → FieldPart → Type 0
PartLiterals n f = FieldLiterals (HasAtMost n) f.1

abbrev LinkLiterals : ℕ → LinkPart → Type 0
LinkLiterals n l = ExprLiterals (HasAtMost n) l.1

as_block : (n : ℕ) {s t : BlockTree} → s ≡ t → BlockLiterals (HasAtMost n) t → BlockLiterals (HasAtMost n) s
as_block n e h = subst (BlockLiterals (HasAtMost n)) (sym e) h

as_item : (n : ℕ) {s t : ItemTree} → s ≡ t → ItemLiterals (HasAtMost n) t → ItemLiterals (HasAtMost n) s
as_item n e h = subst (ItemLiterals (HasAtMost n)) (sym e) h

as_bind : (n : ℕ) {s t : BindPart} → s ≡ t → BindLiterals n t → BindLiterals n s
as_bind n e h = subst (BindLiterals n) (sym e) h

as_rec_bind : (n : ℕ) {s t : RecBindPart} → s ≡ t → MemberLiterals n t → MemberLiterals n s
as_rec_bind n e h = subst (MemberLiterals n) (sym e) h

as_procedure : (n : ℕ) {s t : ProcedureTree} → s ≡ t → ProcedureLiterals (HasAtMost n) t → ProcedureLiterals (HasAtMost n) s
as_procedure n e h = subst (ProcedureLiterals (HasAtMost n)) (sym e) h

as_field : (n : ℕ) {s t : FieldTree} → s ≡ t → FieldLiterals (HasAtMost n) t → FieldLiterals (HasAtMost n) s
as_field n e h = subst (FieldLiterals (HasAtMost n)) (sym e) h

as_part : (n : ℕ) {s t : FieldPart} → s ≡ t → PartLiterals n t → PartLiterals n s
as_part n e h = subst (PartLiterals n) (sym e) h

as_expr : (n : ℕ) {s t : ExprTree} → s ≡ t → ExprLiterals (HasAtMost n) t → ExprLiterals (HasAtMost n) s
as_expr n e h = subst (ExprLiterals (HasAtMost n)) (sym e) h

as_suffix : (n : ℕ) {s t : SuffixTree} → s ≡ t → SuffixLiterals (HasAtMost n) t → SuffixLiterals (HasAtMost n) s
as_suffix n e h = subst (SuffixLiterals (HasAtMost n)) (sym e) h

as_arm : (n : ℕ) {s t : ArmPair} → s ≡ t → ArmLiterals n t → ArmLiterals n s
as_arm n e h = subst (ArmLiterals n) (sym e) h

as_link : (n : ℕ) {s t : LinkPart} → s ≡ t → LinkLiterals n t → LinkLiterals n s
as_link n e h = subst (LinkLiterals n) (sym e) h

joined : (n : ℕ) (h : Expr) (ss : List Suffix) → ExprLiterals (HasAtMost n) (expr_tree h) → SuffixesLiterals (HasAtMost n) (suffix_trees ss) → ExprLiterals (HasAtMost n) (expr_tree (suffixed h ss))
joined n h [] p q = p
joined n h (s ∷ ss) p q = as_expr n (expr_suffixed_is h (s ∷ ss)) (p, q)

chain_literals : (n : ℕ) (a : Expr) (ls : List Link) → ExprLiterals (HasAtMost n) (expr_tree a) → LinksLiterals (HasAtMost n) (link_trees ls) → ExprLiterals (HasAtMost n) (expr_tree (chained a ls))
chain_literals n a [] p q = p
chain_literals n a (l ∷ ls) p q = as_expr n (expr_chain_is a (l ∷ ls)) (p, q)

-- one more field has one more method at most
abbrev methods_in : FieldTrees → ℕ
methods_in fs = methods_of (layout_of fs)

one_more : (x : List ℕ) (b : FieldTree) (p : ℕ) (fs : FieldTrees) → methods_in (AField x b p fs) ≤ suc (methods_in fs)
one_more x (ValueOf e) p fs = omega arith
one_more x (MethodOf m) p fs = omega arith
one_more x (AliasOf y e q) p fs = omega arith

fields_fit : (f : FieldPart) (fs : FieldTrees) {x y r : List Token} → Fits 1 x y → Fits (methods_in fs) y r → Fits (methods_in (AField f.0 f.1 f.2 fs)) x r
fields_fit f fs h i = let o = one_more f.0 f.1 f.2 fs in let l1 = h.fits in let l2 = i.fits in record { fits = omega (arith, o, l1, l2) }

module _ (n : ℕ) where
  mutual
    pub few_block : {a : Block} {x r : List Token} → IsBlock a x r → Within n x → BlockLiterals (HasAtMost n) (block_tree a) × Fits 0 x r
    few_block empty h = (as_block n (block_is _ _) tt, record { fits = omega arith })
    few_block (items p1 p2) h = let w = h.within in let m1 = few_item p1 (record { within = omega (arith, w) }) in let l1 = m1.1.fits in let m2 = few_more p2 (record { within = omega (arith, w, l1) }) in let l2 = m2.1.fits in (as_block n (block_is _ _) (m1.0, m2.0), record { fits = omega (arith, l1, l2) })

    few_more : {a : List Item} {x r : List Token} → IsMore a x r → Within n x → ItemsLiterals (HasAtMost n) (item_trees a) × Fits 0 x r
    few_more no_more h = (tt, record { fits = omega arith })
    few_more semicolon h = (tt, record { fits = omega arith })
    few_more (more p1 p2) h = let w = h.within in let m1 = few_item p1 (record { within = omega (arith, w) }) in let l1 = m1.1.fits in let m2 = few_more p2 (record { within = omega (arith, w, l1) }) in let l2 = m2.1.fits in ((m1.0, m2.0), record { fits = omega (arith, l1, l2) })

    few_item : {a : Item} {x r : List Token} → IsItem a x r → Within n x → ItemLiterals (HasAtMost n) (item_tree a) × Fits 0 x r
    few_item (let_ p1) h = let w = h.within in let m1 = few_let p1 (record { within = omega (arith, w) }) in let l1 = m1.1.fits in (m1.0, record { fits = omega (arith, l1) })
    few_item (var p1) h = let w = h.within in let m1 = few_binds p1 (record { within = omega (arith, w) }) in let l1 = m1.1.fits in (as_item n (item_var_is _ _) m1.0, record { fits = omega (arith, l1) })
    few_item (assign p1) h = let w = h.within in let m1 = few_expr p1 (record { within = omega (arith, w) }) in let l1 = m1.1.fits in (as_item n (item_assign_is _ _ _) m1.0, record { fits = omega (arith, l1) })
    few_item (set_field p1 p2) h = let w = h.within in let m1 = few_suffixed p1 (record { within = omega (arith, w) }) in let l1 = m1.1.fits in let m2 = few_field_body p2 (record { within = omega (arith, w, l1) }) in let l2 = m2.1.fits in (as_item n (item_setfield_is _ _ _ _) (m1.0, m2.0), record { fits = omega (arith, l1, l2) })
    few_item (set_item p1 p2 p3) h = let w = h.within in let m1 = few_suffixed p1 (record { within = omega (arith, w) }) in let l1 = m1.1.fits in let m2 = few_expr p2 (record { within = omega (arith, w, l1) }) in let l2 = m2.1.fits in let m3 = few_expr p3 (record { within = omega (arith, w, l1, l2) }) in let l3 = m3.1.fits in (as_item n (item_setitem_is _ _ _ _) (m1.0, m2.0, m3.0), record { fits = omega (arith, l1, l2, l3) })
    few_item (plain p1) h = let w = h.within in let m1 = few_expr p1 (record { within = omega (arith, w) }) in let l1 = m1.1.fits in (as_item n (item_plain_is _) m1.0, record { fits = omega (arith, l1) })

    few_let : {p : ℕ} {a : Item} {x r : List Token} → IsLet p a x r → Within n x → ItemLiterals (HasAtMost n) (item_tree a) × Fits 0 x r
    few_let (let_binds p1) h = let w = h.within in let m1 = few_binds p1 (record { within = omega (arith, w) }) in let l1 = m1.1.fits in (as_item n (item_let_is _ _) m1.0, record { fits = omega (arith, l1) })
    few_let (let_rec p1) h = let w = h.within in let m1 = few_rec_binds p1 (record { within = omega (arith, w) }) in let l1 = m1.1.fits in (as_item n (item_letrec_is _ _) m1.0, record { fits = omega (arith, l1) })

    few_binds : {a : List Bind} {x r : List Token} → IsBinds a x r → Within n x → BindsLiterals (HasAtMost n) (bind_trees a) × Fits 0 x r
    few_binds (binds p1 p2) h = let w = h.within in let m1 = few_bind p1 (record { within = omega (arith, w) }) in let l1 = m1.1.fits in let m2 = few_more_binds p2 (record { within = omega (arith, w, l1) }) in let l2 = m2.1.fits in ((m1.0, m2.0), record { fits = omega (arith, l1, l2) })

    few_more_binds : {a : List Bind} {x r : List Token} → IsMoreBinds a x r → Within n x → BindsLiterals (HasAtMost n) (bind_trees a) × Fits 0 x r
    few_more_binds no_bind h = (tt, record { fits = omega arith })
    few_more_binds (one_bind p1 p2) h = let w = h.within in let m1 = few_bind p1 (record { within = omega (arith, w) }) in let l1 = m1.1.fits in let m2 = few_more_binds p2 (record { within = omega (arith, w, l1) }) in let l2 = m2.1.fits in ((m1.0, m2.0), record { fits = omega (arith, l1, l2) })

    few_bind : {a : Bind} {x r : List Token} → IsBind a x r → Within n x → BindLiterals n (bind_part a) × Fits 0 x r
    few_bind (bind_of p1) h = let w = h.within in let m1 = few_expr p1 (record { within = omega (arith, w) }) in let l1 = m1.1.fits in (as_bind n (bind_is _ _ _) m1.0, record { fits = omega (arith, l1) })

    few_rec_binds : {a : List RecBind} {x r : List Token} → IsRecBinds a x r → Within n x → MembersLiterals (HasAtMost n) (rec_bind_trees a) × Fits 0 x r
    few_rec_binds (rec_binds p1 p2) h = let w = h.within in let m1 = few_rec_bind p1 (record { within = omega (arith, w) }) in let l1 = m1.1.fits in let m2 = few_more_rec_binds p2 (record { within = omega (arith, w, l1) }) in let l2 = m2.1.fits in ((m1.0, m2.0), record { fits = omega (arith, l1, l2) })

    few_more_rec_binds : {a : List RecBind} {x r : List Token} → IsMoreRecBinds a x r → Within n x → MembersLiterals (HasAtMost n) (rec_bind_trees a) × Fits 0 x r
    few_more_rec_binds no_rec_bind h = (tt, record { fits = omega arith })
    few_more_rec_binds (one_rec_bind p1 p2) h = let w = h.within in let m1 = few_rec_bind p1 (record { within = omega (arith, w) }) in let l1 = m1.1.fits in let m2 = few_more_rec_binds p2 (record { within = omega (arith, w, l1) }) in let l2 = m2.1.fits in ((m1.0, m2.0), record { fits = omega (arith, l1, l2) })

    few_rec_bind : {a : RecBind} {x r : List Token} → IsRecBind a x r → Within n x → MemberLiterals n (rec_bind_part a) × Fits 0 x r
    few_rec_bind (rec_bind_of p1) h = let w = h.within in let m1 = few_proc p1 (record { within = omega (arith, w) }) in let l1 = m1.1.fits in (as_rec_bind n (rec_bind_is _ _ _) m1.0, record { fits = omega (arith, l1) })

    few_field_body : {a : FieldExpr} {x r : List Token} → IsFieldBody a x r → Within n x → FieldLiterals (HasAtMost n) (field_tree a) × Fits 0 x r
    few_field_body (value p1) h = let w = h.within in let m1 = few_expr p1 (record { within = omega (arith, w) }) in let l1 = m1.1.fits in (as_field n (field_value_is _) m1.0, record { fits = omega (arith, l1) })
    few_field_body (method p1) h = let w = h.within in let m1 = few_meth p1 (record { within = omega (arith, w) }) in let l1 = m1.1.fits in (as_field n (field_method_is _) m1.0, record { fits = omega (arith, l1) })
    few_field_body (alias p1) h = let w = h.within in let m1 = few_expr p1 (record { within = omega (arith, w) }) in let l1 = m1.1.fits in (as_field n (field_alias_is _ _ _) m1.0, record { fits = omega (arith, l1) })

    few_meth : {a : Proc} {x r : List Token} → IsMeth a x r → Within n x → ProcedureLiterals (HasAtMost n) (procedure_tree a) × Fits 0 x r
    few_meth (meth p1 p2) h = let w = h.within in let m1 = few_names p1 (record { within = omega (arith, w) }) in let l1 = m1.fits in let m2 = few_block p2 (record { within = omega (arith, w, l1) }) in let l2 = m2.1.fits in (as_procedure n (procedure_is _ _ _) m2.0, record { fits = omega (arith, l1, l2) })

    few_proc : {a : Proc} {x r : List Token} → IsProc a x r → Within n x → ProcedureLiterals (HasAtMost n) (procedure_tree a) × Fits 0 x r
    few_proc (proc p1 p2) h = let w = h.within in let m1 = few_parameters p1 (record { within = omega (arith, w) }) in let l1 = m1.fits in let m2 = few_block p2 (record { within = omega (arith, w, l1) }) in let l2 = m2.1.fits in (as_procedure n (procedure_is _ _ _) m2.0, record { fits = omega (arith, l1, l2) })

    few_parameters : {a : List (List ℕ)} {x r : List Token} → IsParameters a x r → Within n x → Fits 0 x r
    few_parameters no_parameter h = record { fits = omega arith }
    few_parameters (parameters p1) h = let w = h.within in let m1 = few_names p1 (record { within = omega (arith, w) }) in let l1 = m1.fits in record { fits = omega (arith, l1) }

    few_names : {a : List (List ℕ)} {x r : List Token} → IsNames a x r → Within n x → Fits 0 x r
    few_names (names p1) h = let w = h.within in let m1 = few_more_names p1 (record { within = omega (arith, w) }) in let l1 = m1.fits in record { fits = omega (arith, l1) }

    few_more_names : {a : List (List ℕ)} {x r : List Token} → IsMoreNames a x r → Within n x → Fits 0 x r
    few_more_names no_name h = record { fits = omega arith }
    few_more_names (one_name p1) h = let w = h.within in let m1 = few_more_names p1 (record { within = omega (arith, w) }) in let l1 = m1.fits in record { fits = omega (arith, l1) }

    few_expr : {a : Expr} {x r : List Token} → IsExpr a x r → Within n x → ExprLiterals (HasAtMost n) (expr_tree a) × Fits 0 x r
    few_expr (expr p1) h = let w = h.within in let m1 = few_level p1 (record { within = omega (arith, w) }) in let l1 = m1.1.fits in (m1.0, record { fits = omega (arith, l1) })

    few_level : {l : ℕ} {a : Expr} {x r : List Token} → IsLevel l a x r → Within n x → ExprLiterals (HasAtMost n) (expr_tree a) × Fits 0 x r
    few_level (operand p1) h = let w = h.within in let m1 = few_suffixed p1 (record { within = omega (arith, w) }) in let l1 = m1.1.fits in (m1.0, record { fits = omega (arith, l1) })
    few_level (level p1 p2) h = let w = h.within in let m1 = few_level p1 (record { within = omega (arith, w) }) in let l1 = m1.1.fits in let m2 = few_links p2 (record { within = omega (arith, w, l1) }) in let l2 = m2.1.fits in (chain_literals n _ _ m1.0 m2.0, record { fits = omega (arith, l1, l2) })

    few_links : {l : ℕ} {a : List Link} {x r : List Token} → IsLinks l a x r → Within n x → LinksLiterals (HasAtMost n) (link_trees a) × Fits 0 x r
    few_links no_link h = (tt, record { fits = omega arith })
    few_links (one_link s1 p1 p2) h = let w = h.within in let m1 = few_level p1 (record { within = omega (arith, w) }) in let l1 = m1.1.fits in let m2 = few_links p2 (record { within = omega (arith, w, l1) }) in let l2 = m2.1.fits in ((as_link n (link_is _ _ _) m1.0, m2.0), record { fits = omega (arith, l1, l2) })

    few_suffixed : {a : Expr} {b : List Suffix} {x r : List Token} → IsSuffixed a b x r → Within n x → ExprLiterals (HasAtMost n) (expr_tree (suffixed a b)) × Fits 0 x r
    few_suffixed (chain p1 p2) h = let w = h.within in let m1 = few_prim p1 (record { within = omega (arith, w) }) in let l1 = m1.1.fits in let m2 = few_suffixes p2 (record { within = omega (arith, w, l1) }) in let l2 = m2.1.fits in (joined n _ _ m1.0 m2.0, record { fits = omega (arith, l1, l2) })

    few_suffixes : {a : List Suffix} {x r : List Token} → IsSuffixes a x r → Within n x → SuffixesLiterals (HasAtMost n) (suffix_trees a) × Fits 0 x r
    few_suffixes no_suffix h = (tt, record { fits = omega arith })
    few_suffixes (one_suffix p1 p2) h = let w = h.within in let m1 = few_suffix p1 (record { within = omega (arith, w) }) in let l1 = m1.1.fits in let m2 = few_suffixes p2 (record { within = omega (arith, w, l1) }) in let l2 = m2.1.fits in ((m1.0, m2.0), record { fits = omega (arith, l1, l2) })

    few_suffix : {a : Suffix} {x r : List Token} → IsSuffix a x r → Within n x → SuffixLiterals (HasAtMost n) (suffix_tree a) × Fits 0 x r
    few_suffix (apply p1) h = let w = h.within in let m1 = few_call p1 (record { within = omega (arith, w) }) in let l1 = m1.1.fits in (as_suffix n (suffix_apply_is _ _) m1.0, record { fits = omega (arith, l1) })
    few_suffix (dotted p1) h = let w = h.within in let m1 = few_dotted p1 (record { within = omega (arith, w) }) in let l1 = m1.1.fits in (m1.0, record { fits = omega (arith, l1) })
    few_suffix (index p1) h = let w = h.within in let m1 = few_expr p1 (record { within = omega (arith, w) }) in let l1 = m1.1.fits in (as_suffix n (suffix_index_is _ _) m1.0, record { fits = omega (arith, l1) })

    few_dotted : {m : List ℕ} {p : ℕ} {a : Suffix} {x r : List Token} → IsDotted m p a x r → Within n x → SuffixLiterals (HasAtMost n) (suffix_tree a) × Fits 0 x r
    few_dotted (select s1) h = (as_suffix n (suffix_select_is _ _) tt, record { fits = omega arith })
    few_dotted (invoke p1) h = let w = h.within in let m1 = few_call p1 (record { within = omega (arith, w) }) in let l1 = m1.1.fits in (as_suffix n (suffix_invoke_is _ _ _) m1.0, record { fits = omega (arith, l1) })

    few_call : {a : List Expr} {x r : List Token} → IsCall a x r → Within n x → ExprsLiterals (HasAtMost n) (expr_trees a) × Fits 0 x r
    few_call no_argument h = (tt, record { fits = omega arith })
    few_call (arguments p1) h = let w = h.within in let m1 = few_args p1 (record { within = omega (arith, w) }) in let l1 = m1.1.fits in (m1.0, record { fits = omega (arith, l1) })

    few_args : {a : List Expr} {x r : List Token} → IsArgs a x r → Within n x → ExprsLiterals (HasAtMost n) (expr_trees a) × Fits 0 x r
    few_args (args p1 p2) h = let w = h.within in let m1 = few_expr p1 (record { within = omega (arith, w) }) in let l1 = m1.1.fits in let m2 = few_more_args p2 (record { within = omega (arith, w, l1) }) in let l2 = m2.1.fits in ((m1.0, m2.0), record { fits = omega (arith, l1, l2) })

    few_more_args : {a : List Expr} {x r : List Token} → IsMoreArgs a x r → Within n x → ExprsLiterals (HasAtMost n) (expr_trees a) × Fits 0 x r
    few_more_args no_arg h = (tt, record { fits = omega arith })
    few_more_args (one_arg p1 p2) h = let w = h.within in let m1 = few_expr p1 (record { within = omega (arith, w) }) in let l1 = m1.1.fits in let m2 = few_more_args p2 (record { within = omega (arith, w, l1) }) in let l2 = m2.1.fits in ((m1.0, m2.0), record { fits = omega (arith, l1, l2) })

    few_prim : {a : Expr} {x r : List Token} → IsPrim a x r → Within n x → ExprLiterals (HasAtMost n) (expr_tree a) × Fits 0 x r
    few_prim int h = (as_expr n (expr_int_is _ _) tt, record { fits = omega arith })
    few_prim text h = (as_expr n (expr_str_is _ _) tt, record { fits = omega arith })
    few_prim true_ h = (as_expr n (expr_truth_is _ _) tt, record { fits = omega arith })
    few_prim false_ h = (as_expr n (expr_truth_is _ _) tt, record { fits = omega arith })
    few_prim ok h = (as_expr n (expr_okay_is _) tt, record { fits = omega arith })
    few_prim name h = (as_expr n (expr_use_is _ _) tt, record { fits = omega arith })
    few_prim (proc_of p1) h = let w = h.within in let m1 = few_proc p1 (record { within = omega (arith, w) }) in let l1 = m1.1.fits in (as_expr n (expr_procedure_is _) m1.0, record { fits = omega (arith, l1) })
    few_prim (paren p1) h = let w = h.within in let m1 = few_expr p1 (record { within = omega (arith, w) }) in let l1 = m1.1.fits in (m1.0, record { fits = omega (arith, l1) })
    few_prim (array p1) h = let w = h.within in let m1 = few_array p1 (record { within = omega (arith, w) }) in let l1 = m1.1.fits in (as_expr n (expr_array_is _ _) m1.0, record { fits = omega (arith, l1) })
    few_prim (object p1) h = let w = h.within in let m1 = few_object p1 (record { within = omega (arith, w) }) in let l1 = m1.1.fits in (as_expr n (expr_object_is _ _ _) (omega (arith, w, l1), m1.0), record { fits = omega (arith, l1) })
    few_prim (if_ p1 p2 p3) h = let w = h.within in let m1 = few_arm p1 (record { within = omega (arith, w) }) in let l1 = m1.1.fits in let m2 = few_elsifs p2 (record { within = omega (arith, w, l1) }) in let l2 = m2.1.fits in let m3 = few_else p3 (record { within = omega (arith, w, l1, l2) }) in let l3 = m3.1.fits in (as_expr n (expr_if_is _ _ _) ((m1.0, m2.0), m3.0), record { fits = omega (arith, l1, l2, l3) })
    few_prim (loop_ p1) h = let w = h.within in let m1 = few_block p1 (record { within = omega (arith, w) }) in let l1 = m1.1.fits in (as_expr n (expr_loop_is _ _) m1.0, record { fits = omega (arith, l1) })
    few_prim exit h = (as_expr n (expr_exit_is _) tt, record { fits = omega arith })
    few_prim (for p1 p2 p3) h = let w = h.within in let m1 = few_expr p1 (record { within = omega (arith, w) }) in let l1 = m1.1.fits in let m2 = few_expr p2 (record { within = omega (arith, w, l1) }) in let l2 = m2.1.fits in let m3 = few_block p3 (record { within = omega (arith, w, l1, l2) }) in let l3 = m3.1.fits in (as_expr n (expr_for_is _ _ _ _ _) (m1.0, m2.0, m3.0), record { fits = omega (arith, l1, l2, l3) })
    few_prim (foreach p1 p2) h = let w = h.within in let m1 = few_expr p1 (record { within = omega (arith, w) }) in let l1 = m1.1.fits in let m2 = few_block p2 (record { within = omega (arith, w, l1) }) in let l2 = m2.1.fits in (as_expr n (expr_foreach_is _ _ _ _) (m1.0, m2.0), record { fits = omega (arith, l1, l2) })
    few_prim (try p1 p2) h = let w = h.within in let m1 = few_block p1 (record { within = omega (arith, w) }) in let l1 = m1.1.fits in let m2 = few_try p2 (record { within = omega (arith, w, l1) }) in let l2 = m2.1.fits in (m2.0 m1.0, record { fits = omega (arith, l1, l2) })
    few_prim (raise p1) h = let w = h.within in let m1 = few_expr p1 (record { within = omega (arith, w) }) in let l1 = m1.1.fits in (as_expr n (expr_raise_is _ _) m1.0, record { fits = omega (arith, l1) })
    few_prim (watch p1 p2) h = let w = h.within in let m1 = few_expr p1 (record { within = omega (arith, w) }) in let l1 = m1.1.fits in let m2 = few_expr p2 (record { within = omega (arith, w, l1) }) in let l2 = m2.1.fits in (as_expr n (expr_watch_is _ _ _) (m1.0, m2.0), record { fits = omega (arith, l1, l2) })
    few_prim (redirect p1 p2) h = let w = h.within in let m1 = few_expr p1 (record { within = omega (arith, w) }) in let l1 = m1.1.fits in let m2 = few_expr p2 (record { within = omega (arith, w, l1) }) in let l2 = m2.1.fits in (as_expr n (expr_redirect_is _ _ _) (m1.0, m2.0), record { fits = omega (arith, l1, l2) })
    few_prim (clone p1) h = let w = h.within in let m1 = few_args p1 (record { within = omega (arith, w) }) in let l1 = m1.1.fits in (as_expr n (expr_clone_is _ _) m1.0, record { fits = omega (arith, l1) })

    few_array : {a : List Expr} {x r : List Token} → IsArray a x r → Within n x → ExprsLiterals (HasAtMost n) (expr_trees a) × Fits 0 x r
    few_array no_element h = (tt, record { fits = omega arith })
    few_array (elements p1) h = let w = h.within in let m1 = few_args p1 (record { within = omega (arith, w) }) in let l1 = m1.1.fits in (m1.0, record { fits = omega (arith, l1) })

    few_arm : {a : Arm} {x r : List Token} → IsArm a x r → Within n x → ArmLiterals n (arm_pair a) × Fits 0 x r
    few_arm (arm_of p1 p2) h = let w = h.within in let m1 = few_expr p1 (record { within = omega (arith, w) }) in let l1 = m1.1.fits in let m2 = few_block p2 (record { within = omega (arith, w, l1) }) in let l2 = m2.1.fits in (as_arm n (arm_is _ _) (m1.0, m2.0), record { fits = omega (arith, l1, l2) })

    few_elsifs : {a : List Arm} {x r : List Token} → IsElsifs a x r → Within n x → ArmsLiterals (HasAtMost n) (arm_trees a) × Fits 0 x r
    few_elsifs no_elsif h = (tt, record { fits = omega arith })
    few_elsifs (one_elsif p1 p2) h = let w = h.within in let m1 = few_arm p1 (record { within = omega (arith, w) }) in let l1 = m1.1.fits in let m2 = few_elsifs p2 (record { within = omega (arith, w, l1) }) in let l2 = m2.1.fits in ((m1.0, m2.0), record { fits = omega (arith, l1, l2) })

    few_else : {a : Option Block} {x r : List Token} → IsElse a x r → Within n x → MaybeLiterals (HasAtMost n) (maybe_tree a) × Fits 0 x r
    few_else no_else h = (tt, record { fits = omega arith })
    few_else (else_ p1) h = let w = h.within in let m1 = few_block p1 (record { within = omega (arith, w) }) in let l1 = m1.1.fits in (m1.0, record { fits = omega (arith, l1) })

    few_try : {p : ℕ} {b : Block} {a : Expr} {x r : List Token} → IsTry p b a x r → Within n x → (BlockLiterals (HasAtMost n) (block_tree b) → ExprLiterals (HasAtMost n) (expr_tree a)) × Fits 0 x r
    few_try (finally p1) h = let w = h.within in let m1 = few_block p1 (record { within = omega (arith, w) }) in let l1 = m1.1.fits in (λ b. as_expr n (expr_finally_is _ _ _) (b, m1.0), record { fits = omega (arith, l1) })
    few_try (excepts p1 p2 p3) h = let w = h.within in let m1 = few_guard p1 (record { within = omega (arith, w) }) in let l1 = m1.1.fits in let m2 = few_guards p2 (record { within = omega (arith, w, l1) }) in let l2 = m2.1.fits in let m3 = few_else p3 (record { within = omega (arith, w, l1, l2) }) in let l3 = m3.1.fits in (λ b. as_expr n (expr_try_is _ _ _ _) (b, (m1.0, m2.0), m3.0), record { fits = omega (arith, l1, l2, l3) })

    few_guard : {a : Arm} {x r : List Token} → IsGuard a x r → Within n x → ArmLiterals n (arm_pair a) × Fits 0 x r
    few_guard (guard_of p1 p2) h = let w = h.within in let m1 = few_expr p1 (record { within = omega (arith, w) }) in let l1 = m1.1.fits in let m2 = few_block p2 (record { within = omega (arith, w, l1) }) in let l2 = m2.1.fits in (as_arm n (arm_is _ _) (m1.0, m2.0), record { fits = omega (arith, l1, l2) })

    few_guards : {a : List Arm} {x r : List Token} → IsGuards a x r → Within n x → ArmsLiterals (HasAtMost n) (arm_trees a) × Fits 0 x r
    few_guards no_guard h = (tt, record { fits = omega arith })
    few_guards (one_guard p1 p2) h = let w = h.within in let m1 = few_guard p1 (record { within = omega (arith, w) }) in let l1 = m1.1.fits in let m2 = few_guards p2 (record { within = omega (arith, w, l1) }) in let l2 = m2.1.fits in ((m1.0, m2.0), record { fits = omega (arith, l1, l2) })

    few_object : {f : Flags} {a : List Field} {x r : List Token} → IsObject f a x r → Within n x → FieldsLiterals (HasAtMost n) (field_trees a) × Fits (methods_in (field_trees a)) x r
    few_object no_field h = (tt, record { fits = omega arith })
    few_object (unflagged p1) h = let w = h.within in let m1 = few_fields p1 (record { within = omega (arith, w) }) in let l1 = m1.1.fits in (m1.0, record { fits = omega (arith, l1) })
    few_object (protected p1) h = let w = h.within in let m1 = few_flagged p1 (record { within = omega (arith, w) }) in let l1 = m1.1.fits in (m1.0, record { fits = omega (arith, l1) })
    few_object (serialized p1) h = let w = h.within in let m1 = few_flagged p1 (record { within = omega (arith, w) }) in let l1 = m1.1.fits in (m1.0, record { fits = omega (arith, l1) })

    few_flagged : {row : ℕ} {f : Bool} {a : List Field} {x r : List Token} → IsFlagged row f a x r → Within n x → FieldsLiterals (HasAtMost n) (field_trees a) × Fits (methods_in (field_trees a)) x r
    few_flagged flag_alone h = (tt, record { fits = omega arith })
    few_flagged (flag_fields p1) h = let w = h.within in let m1 = few_fields p1 (record { within = omega (arith, w) }) in let l1 = m1.1.fits in (m1.0, record { fits = omega (arith, l1) })
    few_flagged (other_flag p1) h = let w = h.within in let m1 = few_both_flags p1 (record { within = omega (arith, w) }) in let l1 = m1.1.fits in (m1.0, record { fits = omega (arith, l1) })

    few_both_flags : {a : List Field} {x r : List Token} → IsBothFlags a x r → Within n x → FieldsLiterals (HasAtMost n) (field_trees a) × Fits (methods_in (field_trees a)) x r
    few_both_flags flags_alone h = (tt, record { fits = omega arith })
    few_both_flags (flags_fields p1) h = let w = h.within in let m1 = few_fields p1 (record { within = omega (arith, w) }) in let l1 = m1.1.fits in (m1.0, record { fits = omega (arith, l1) })

    few_fields : {a : List Field} {x r : List Token} → IsFields a x r → Within n x → FieldsLiterals (HasAtMost n) (field_trees a) × Fits (methods_in (field_trees a)) x r
    few_fields (fields {f = f} {fs = fs} p1 p2) h = let w = h.within in let m1 = few_field p1 (record { within = omega (arith, w) }) in let l1 = m1.1.fits in let m2 = few_more_fields p2 (record { within = omega (arith, w, l1) }) in ((m1.0, m2.0), fields_fit (field_part f) (field_trees fs) m1.1 m2.1)

    few_more_fields : {a : List Field} {x r : List Token} → IsMoreFields a x r → Within n x → FieldsLiterals (HasAtMost n) (field_trees a) × Fits (methods_in (field_trees a)) x r
    few_more_fields no_further_field h = (tt, record { fits = omega arith })
    few_more_fields (one_field {f = f} {fs = fs} p1 p2) h = let w = h.within in let m1 = few_field p1 (record { within = omega (arith, w) }) in let l1 = m1.1.fits in let m2 = few_more_fields p2 (record { within = omega (arith, w, l1) }) in ((m1.0, m2.0), let g = (fields_fit (field_part f) (field_trees fs) m1.1 m2.1).fits in record { fits = omega (arith, g) })

    few_field : {a : Field} {x r : List Token} → IsField a x r → Within n x → PartLiterals n (field_part a) × Fits 1 x r
    few_field (field_of p1) h = let w = h.within in let m1 = few_field_body p1 (record { within = omega (arith, w) }) in let l1 = m1.1.fits in (as_part n (field_part_is _ _ _) m1.0, record { fits = omega (arith, l1) })
