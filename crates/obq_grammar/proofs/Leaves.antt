-- What holds of each token holds of each leaf of the tree that they derive.
use Rattle.std.proofs.Common.{Bool, List, Option, [], subst, sym, ℕ, ◌≡◌, ◌∷◌}
use Rattle.obq_base.specs.declared.tokens.Token.{Token}
use Rattle.obq_base.specs.declared.tokens.TokenKind.{TokenKind}
use Rattle.obq_base.specs.declared.trees.Flags.{Flags}
use Rattle.obq_base.specs.declared.trees.Block.{Block}
use Rattle.obq_base.specs.declared.trees.Item.{Item}
use Rattle.obq_base.specs.declared.trees.Bind.{Bind}
use Rattle.obq_base.specs.declared.trees.RecBind.{RecBind}
use Rattle.obq_base.specs.declared.trees.Proc.{Proc}
use Rattle.obq_base.specs.declared.trees.FieldExpr.{FieldExpr}
use Rattle.obq_base.specs.declared.trees.Expr.{Expr}
use Rattle.obq_base.specs.declared.trees.Link.{Link}
use Rattle.obq_base.specs.declared.trees.Suffix.{Suffix}
use Rattle.obq_base.specs.declared.trees.Arm.{Arm}
use Rattle.obq_base.specs.declared.trees.Field.{Field}
use Rattle.obq_base.specs.Tree.{BlockTree, ItemTree, ProcedureTree, FieldTree, ExprTree, SuffixTree}
use Rattle.obq_base.specs.View.{ArmPair, BindPart, FieldPart, LinkPart, RecBindPart, arm_pair, arm_trees, bind_part, bind_trees, block_tree, expr_tree, expr_trees, field_part, field_tree, field_trees, item_tree, item_trees, link_trees, maybe_tree, procedure_tree, rec_bind_part, rec_bind_trees, suffix_tree, suffix_trees}
use Rattle.obq_model.specs.Grammar.{IsBlock, IsMore, IsItem, IsLet, IsBinds, IsMoreBinds, IsBind, IsRecBinds, IsMoreRecBinds, IsRecBind, IsFieldBody, IsMeth, IsProc, IsParameters, IsNames, IsMoreNames, IsExpr, IsLevel, IsLinks, IsSuffixed, IsSuffixes, IsSuffix, IsDotted, IsCall, IsArgs, IsMoreArgs, IsPrim, IsArray, IsArm, IsElsifs, IsElse, IsTry, IsGuard, IsGuards, IsObject, IsFlagged, IsBothFlags, IsFields, IsMoreFields, IsField, empty, items, no_more, semicolon, more, let_, var, assign, set_field, set_item, plain, let_binds, let_rec, binds, no_bind, one_bind, bind_of, rec_binds, no_rec_bind, one_rec_bind, rec_bind_of, value, method, alias, meth, proc, no_parameter, parameters, names, no_name, one_name, expr, operand, level, no_link, one_link, chain, no_suffix, one_suffix, apply, dotted, index, select, invoke, no_argument, arguments, args, no_arg, one_arg, int, text, true_, false_, ok, name, proc_of, paren, array, object, if_, loop_, exit, for, foreach, try, raise, watch, redirect, clone, no_element, elements, arm_of, no_elsif, one_elsif, no_else, else_, finally, excepts, guard_of, no_guard, one_guard, no_field, unflagged, protected, serialized, flag_alone, flag_fields, other_flag, flags_alone, flags_fields, fields, no_further_field, one_field, field_of}
use Rattle.obq_model.specs.Nodes.{chained, suffixed}
use Rattle.obq_model.specs.Leaves.{ArmsLeaves, BindsLeaves, BlockLeaves, ExprLeaves, ExprsLeaves, FieldLeaves, FieldsLeaves, ItemLeaves, ItemsLeaves, LinksLeaves, MaybeLeaves, MembersLeaves, ProcedureLeaves, SuffixLeaves, SuffixesLeaves}
use Rattle.obq_grammar.proofs.Viewed.{link_is, arm_is, bind_is, block_is, expr_array_is, expr_chain_is, expr_clone_is, expr_exit_is, expr_finally_is, expr_for_is, expr_foreach_is, expr_if_is, expr_int_is, expr_loop_is, expr_object_is, expr_okay_is, expr_procedure_is, expr_raise_is, expr_redirect_is, expr_str_is, expr_suffixed_is, expr_truth_is, expr_try_is, expr_use_is, expr_watch_is, field_alias_is, field_method_is, field_part_is, field_value_is, item_assign_is, item_let_is, item_letrec_is, item_plain_is, item_setfield_is, item_setitem_is, item_var_is, procedure_is, rec_bind_is, suffix_apply_is, suffix_index_is, suffix_invoke_is, suffix_select_is}

abbrev pub Each : (TokenKind → ℕ → Type 0) → List Token → Type 0
Each K [] = Unit {0}
Each K (t ∷ ts) = K t.kind t.place × Each K ts

-- the leaves of what stands in a list
abbrev BindLeaves : (TokenKind → ℕ → Type 0) → BindPart → Type 0
BindLeaves K b = ExprLeaves K b.1

abbrev MemberLeaves : (TokenKind → ℕ → Type 0) → RecBindPart → Type 0
MemberLeaves K b = ProcedureLeaves K b.1

abbrev ArmLeaves : (TokenKind → ℕ → Type 0) → ArmPair → Type 0
ArmLeaves K a = ExprLeaves K a.0 × BlockLeaves K a.1

abbrev PartLeaves : (TokenKind → ℕ → Type 0) → FieldPart → Type 0
PartLeaves K f = FieldLeaves K f.1

abbrev LinkLeaves : (TokenKind → ℕ → Type 0) → LinkPart → Type 0
LinkLeaves K l = ExprLeaves K l.1

as_block : (K : TokenKind → ℕ → Type 0) {s t : BlockTree} → s ≡ t → BlockLeaves K t → BlockLeaves K s
as_block K e h = subst (BlockLeaves K) (sym e) h

as_item : (K : TokenKind → ℕ → Type 0) {s t : ItemTree} → s ≡ t → ItemLeaves K t → ItemLeaves K s
as_item K e h = subst (ItemLeaves K) (sym e) h

as_bind : (K : TokenKind → ℕ → Type 0) {s t : BindPart} → s ≡ t → BindLeaves K t → BindLeaves K s
as_bind K e h = subst (BindLeaves K) (sym e) h

as_rec_bind : (K : TokenKind → ℕ → Type 0) {s t : RecBindPart} → s ≡ t → MemberLeaves K t → MemberLeaves K s
as_rec_bind K e h = subst (MemberLeaves K) (sym e) h

as_procedure : (K : TokenKind → ℕ → Type 0) {s t : ProcedureTree} → s ≡ t → ProcedureLeaves K t → ProcedureLeaves K s
as_procedure K e h = subst (ProcedureLeaves K) (sym e) h

as_field : (K : TokenKind → ℕ → Type 0) {s t : FieldTree} → s ≡ t → FieldLeaves K t → FieldLeaves K s
as_field K e h = subst (FieldLeaves K) (sym e) h

as_part : (K : TokenKind → ℕ → Type 0) {s t : FieldPart} → s ≡ t → PartLeaves K t → PartLeaves K s
as_part K e h = subst (PartLeaves K) (sym e) h

as_expr : (K : TokenKind → ℕ → Type 0) {s t : ExprTree} → s ≡ t → ExprLeaves K t → ExprLeaves K s
as_expr K e h = subst (ExprLeaves K) (sym e) h

as_suffix : (K : TokenKind → ℕ → Type 0) {s t : SuffixTree} → s ≡ t → SuffixLeaves K t → SuffixLeaves K s
as_suffix K e h = subst (SuffixLeaves K) (sym e) h

as_arm : (K : TokenKind → ℕ → Type 0) {s t : ArmPair} → s ≡ t → ArmLeaves K t → ArmLeaves K s
as_arm K e h = subst (ArmLeaves K) (sym e) h

as_link : (K : TokenKind → ℕ → Type 0) {s t : LinkPart} → s ≡ t → LinkLeaves K t → LinkLeaves K s
as_link K e h = subst (LinkLeaves K) (sym e) h

joined : (K : TokenKind → ℕ → Type 0) (h : Expr) (ss : List Suffix) → ExprLeaves K (expr_tree h) → SuffixesLeaves K (suffix_trees ss) → ExprLeaves K (expr_tree (suffixed h ss))
joined K h [] p q = p
joined K h (s ∷ ss) p q = as_expr K (expr_suffixed_is h (s ∷ ss)) (p, q)

chain_leaves : (K : TokenKind → ℕ → Type 0) (a : Expr) (ls : List Link) → ExprLeaves K (expr_tree a) → LinksLeaves K (link_trees ls) → ExprLeaves K (expr_tree (chained a ls))
chain_leaves K a [] p q = p
chain_leaves K a (l ∷ ls) p q = as_expr K (expr_chain_is a (l ∷ ls)) (p, q)

module _ (K : TokenKind → ℕ → Type 0) where
  mutual
    pub told_block : {a : Block} {x r : List Token} → IsBlock a x r → Each K x → BlockLeaves K (block_tree a) × Each K r
    told_block empty h = (as_block K (block_is _ _) tt, h)
    told_block (items p1 p2) h = let m1 = told_item p1 h in let m2 = told_more p2 m1.1 in (as_block K (block_is _ _) (m1.0, m2.0), m2.1)

    pub told_more : {a : List Item} {x r : List Token} → IsMore a x r → Each K x → ItemsLeaves K (item_trees a) × Each K r
    told_more no_more h = (tt, h)
    told_more semicolon h = (tt, h.1)
    told_more (more p1 p2) h = let m1 = told_item p1 h.1 in let m2 = told_more p2 m1.1 in ((m1.0, m2.0), m2.1)

    pub told_item : {a : Item} {x r : List Token} → IsItem a x r → Each K x → ItemLeaves K (item_tree a) × Each K r
    told_item (let_ p1) h = let m1 = told_let p1 h.1 in (m1.0, m1.1)
    told_item (var p1) h = let m1 = told_binds p1 h.1 in (as_item K (item_var_is _ _) m1.0, m1.1)
    told_item (assign p1) h = let m1 = told_expr p1 h.1.1 in (as_item K (item_assign_is _ _ _) (h.0, m1.0), m1.1)
    told_item (set_field p1 p2) h = let m1 = told_suffixed p1 h in let m2 = told_field_body p2 m1.1.1.1.1 in (as_item K (item_setfield_is _ _ _ _) (m1.0, m2.0), m2.1)
    told_item (set_item p1 p2 p3) h = let m1 = told_suffixed p1 h in let m2 = told_expr p2 m1.1.1 in let m3 = told_expr p3 m2.1.1.1 in (as_item K (item_setitem_is _ _ _ _) (m1.0, m2.0, m3.0), m3.1)
    told_item (plain p1) h = let m1 = told_expr p1 h in (as_item K (item_plain_is _) m1.0, m1.1)

    pub told_let : {p : ℕ} {a : Item} {x r : List Token} → IsLet p a x r → Each K x → ItemLeaves K (item_tree a) × Each K r
    told_let (let_binds p1) h = let m1 = told_binds p1 h in (as_item K (item_let_is _ _) m1.0, m1.1)
    told_let (let_rec p1) h = let m1 = told_rec_binds p1 h.1 in (as_item K (item_letrec_is _ _) m1.0, m1.1)

    pub told_binds : {a : List Bind} {x r : List Token} → IsBinds a x r → Each K x → BindsLeaves K (bind_trees a) × Each K r
    told_binds (binds p1 p2) h = let m1 = told_bind p1 h in let m2 = told_more_binds p2 m1.1 in ((m1.0, m2.0), m2.1)

    pub told_more_binds : {a : List Bind} {x r : List Token} → IsMoreBinds a x r → Each K x → BindsLeaves K (bind_trees a) × Each K r
    told_more_binds no_bind h = (tt, h)
    told_more_binds (one_bind p1 p2) h = let m1 = told_bind p1 h.1 in let m2 = told_more_binds p2 m1.1 in ((m1.0, m2.0), m2.1)

    pub told_bind : {a : Bind} {x r : List Token} → IsBind a x r → Each K x → BindLeaves K (bind_part a) × Each K r
    told_bind (bind_of p1) h = let m1 = told_expr p1 h.1.1 in (as_bind K (bind_is _ _ _) m1.0, m1.1)

    pub told_rec_binds : {a : List RecBind} {x r : List Token} → IsRecBinds a x r → Each K x → MembersLeaves K (rec_bind_trees a) × Each K r
    told_rec_binds (rec_binds p1 p2) h = let m1 = told_rec_bind p1 h in let m2 = told_more_rec_binds p2 m1.1 in ((m1.0, m2.0), m2.1)

    pub told_more_rec_binds : {a : List RecBind} {x r : List Token} → IsMoreRecBinds a x r → Each K x → MembersLeaves K (rec_bind_trees a) × Each K r
    told_more_rec_binds no_rec_bind h = (tt, h)
    told_more_rec_binds (one_rec_bind p1 p2) h = let m1 = told_rec_bind p1 h.1 in let m2 = told_more_rec_binds p2 m1.1 in ((m1.0, m2.0), m2.1)

    pub told_rec_bind : {a : RecBind} {x r : List Token} → IsRecBind a x r → Each K x → MemberLeaves K (rec_bind_part a) × Each K r
    told_rec_bind (rec_bind_of p1) h = let m1 = told_proc p1 h.1.1 in (as_rec_bind K (rec_bind_is _ _ _) m1.0, m1.1)

    pub told_field_body : {a : FieldExpr} {x r : List Token} → IsFieldBody a x r → Each K x → FieldLeaves K (field_tree a) × Each K r
    told_field_body (value p1) h = let m1 = told_expr p1 h in (as_field K (field_value_is _) m1.0, m1.1)
    told_field_body (method p1) h = let m1 = told_meth p1 h in (as_field K (field_method_is _) m1.0, m1.1)
    told_field_body (alias p1) h = let m1 = told_expr p1 h.1.1.1 in (as_field K (field_alias_is _ _ _) m1.0, m1.1.1)

    pub told_meth : {a : Proc} {x r : List Token} → IsMeth a x r → Each K x → ProcedureLeaves K (procedure_tree a) × Each K r
    told_meth (meth p1 p2) h = let m1 = told_names p1 h.1.1 in let m2 = told_block p2 m1.1 in (as_procedure K (procedure_is _ _ _) m2.0, m2.1.1)

    pub told_proc : {a : Proc} {x r : List Token} → IsProc a x r → Each K x → ProcedureLeaves K (procedure_tree a) × Each K r
    told_proc (proc p1 p2) h = let m1 = told_parameters p1 h.1.1 in let m2 = told_block p2 m1 in (as_procedure K (procedure_is _ _ _) m2.0, m2.1.1)

    pub told_parameters : {a : List (List ℕ)} {x r : List Token} → IsParameters a x r → Each K x → Each K r
    told_parameters no_parameter h = h.1
    told_parameters (parameters p1) h = let m1 = told_names p1 h in m1.1

    pub told_names : {a : List (List ℕ)} {x r : List Token} → IsNames a x r → Each K x → Each K r
    told_names (names p1) h = told_more_names p1 h.1

    pub told_more_names : {a : List (List ℕ)} {x r : List Token} → IsMoreNames a x r → Each K x → Each K r
    told_more_names no_name h = h
    told_more_names (one_name p1) h = told_more_names p1 h.1.1

    pub told_expr : {a : Expr} {x r : List Token} → IsExpr a x r → Each K x → ExprLeaves K (expr_tree a) × Each K r
    told_expr (expr p1) h = told_level p1 h

    pub told_level : {l : ℕ} {a : Expr} {x r : List Token} → IsLevel l a x r → Each K x → ExprLeaves K (expr_tree a) × Each K r
    told_level (operand p1) h = told_suffixed p1 h
    told_level (level p1 p2) h = let m1 = told_level p1 h in let m2 = told_links p2 m1.1 in (chain_leaves K _ _ m1.0 m2.0, m2.1)

    pub told_links : {l : ℕ} {a : List Link} {x r : List Token} → IsLinks l a x r → Each K x → LinksLeaves K (link_trees a) × Each K r
    told_links no_link h = (tt, h)
    told_links (one_link s1 p1 p2) h = let m1 = told_level p1 h.1 in let m2 = told_links p2 m1.1 in ((as_link K (link_is _ _ _) m1.0, m2.0), m2.1)

    pub told_suffixed : {a : Expr} {b : List Suffix} {x r : List Token} → IsSuffixed a b x r → Each K x → ExprLeaves K (expr_tree (suffixed a b)) × Each K r
    told_suffixed (chain p1 p2) h = let m1 = told_prim p1 h in let m2 = told_suffixes p2 m1.1 in (joined K _ _ m1.0 m2.0, m2.1)

    pub told_suffixes : {a : List Suffix} {x r : List Token} → IsSuffixes a x r → Each K x → SuffixesLeaves K (suffix_trees a) × Each K r
    told_suffixes no_suffix h = (tt, h)
    told_suffixes (one_suffix p1 p2) h = let m1 = told_suffix p1 h in let m2 = told_suffixes p2 m1.1 in ((m1.0, m2.0), m2.1)

    pub told_suffix : {a : Suffix} {x r : List Token} → IsSuffix a x r → Each K x → SuffixLeaves K (suffix_tree a) × Each K r
    told_suffix (apply p1) h = let m1 = told_call p1 h.1 in (as_suffix K (suffix_apply_is _ _) m1.0, m1.1)
    told_suffix (dotted p1) h = told_dotted p1 h.1.1
    told_suffix (index p1) h = let m1 = told_expr p1 h.1 in (as_suffix K (suffix_index_is _ _) m1.0, m1.1.1)

    pub told_dotted : {n : List ℕ} {p : ℕ} {a : Suffix} {x r : List Token} → IsDotted n p a x r → Each K x → SuffixLeaves K (suffix_tree a) × Each K r
    told_dotted (select s1) h = (as_suffix K (suffix_select_is _ _) tt, h)
    told_dotted (invoke p1) h = let m1 = told_call p1 h.1 in (as_suffix K (suffix_invoke_is _ _ _) m1.0, m1.1)

    pub told_call : {a : List Expr} {x r : List Token} → IsCall a x r → Each K x → ExprsLeaves K (expr_trees a) × Each K r
    told_call no_argument h = (tt, h.1)
    told_call (arguments p1) h = let m1 = told_args p1 h in (m1.0, m1.1.1)

    pub told_args : {a : List Expr} {x r : List Token} → IsArgs a x r → Each K x → ExprsLeaves K (expr_trees a) × Each K r
    told_args (args p1 p2) h = let m1 = told_expr p1 h in let m2 = told_more_args p2 m1.1 in ((m1.0, m2.0), m2.1)

    pub told_more_args : {a : List Expr} {x r : List Token} → IsMoreArgs a x r → Each K x → ExprsLeaves K (expr_trees a) × Each K r
    told_more_args no_arg h = (tt, h)
    told_more_args (one_arg p1 p2) h = let m1 = told_expr p1 h.1 in let m2 = told_more_args p2 m1.1 in ((m1.0, m2.0), m2.1)

    pub told_prim : {a : Expr} {x r : List Token} → IsPrim a x r → Each K x → ExprLeaves K (expr_tree a) × Each K r
    told_prim int h = (as_expr K (expr_int_is _ _) h.0, h.1)
    told_prim text h = (as_expr K (expr_str_is _ _) h.0, h.1)
    told_prim true_ h = (as_expr K (expr_truth_is _ _) tt, h.1)
    told_prim false_ h = (as_expr K (expr_truth_is _ _) tt, h.1)
    told_prim ok h = (as_expr K (expr_okay_is _) tt, h.1)
    told_prim name h = (as_expr K (expr_use_is _ _) h.0, h.1)
    told_prim (proc_of p1) h = let m1 = told_proc p1 h in (as_expr K (expr_procedure_is _) m1.0, m1.1)
    told_prim (paren p1) h = let m1 = told_expr p1 h.1 in (m1.0, m1.1.1)
    told_prim (array p1) h = let m1 = told_array p1 h.1 in (as_expr K (expr_array_is _ _) m1.0, m1.1)
    told_prim (object p1) h = let m1 = told_object p1 h.1 in (as_expr K (expr_object_is _ _ _) m1.0, m1.1)
    told_prim (if_ p1 p2 p3) h = let m1 = told_arm p1 h.1 in let m2 = told_elsifs p2 m1.1 in let m3 = told_else p3 m2.1 in (as_expr K (expr_if_is _ _ _) ((m1.0, m2.0), m3.0), m3.1)
    told_prim (loop_ p1) h = let m1 = told_block p1 h.1 in (as_expr K (expr_loop_is _ _) m1.0, m1.1.1)
    told_prim exit h = (as_expr K (expr_exit_is _) tt, h.1)
    told_prim (for p1 p2 p3) h = let m1 = told_expr p1 h.1.1.1 in let m2 = told_expr p2 m1.1.1 in let m3 = told_block p3 m2.1.1 in (as_expr K (expr_for_is _ _ _ _ _) (m1.0, m2.0, m3.0), m3.1.1)
    told_prim (foreach p1 p2) h = let m1 = told_expr p1 h.1.1.1 in let m2 = told_block p2 m1.1.1 in (as_expr K (expr_foreach_is _ _ _ _) (m1.0, m2.0), m2.1.1)
    told_prim (try p1 p2) h = let m1 = told_block p1 h.1 in let m2 = told_try p2 m1.1 in (m2.0 m1.0, m2.1)
    told_prim (raise p1) h = let m1 = told_expr p1 h.1.1 in (as_expr K (expr_raise_is _ _) m1.0, m1.1.1)
    told_prim (watch p1 p2) h = let m1 = told_expr p1 h.1 in let m2 = told_expr p2 m1.1.1 in (as_expr K (expr_watch_is _ _ _) (m1.0, m2.0), m2.1.1)
    told_prim (redirect p1 p2) h = let m1 = told_expr p1 h.1 in let m2 = told_expr p2 m1.1.1 in (as_expr K (expr_redirect_is _ _ _) (m1.0, m2.0), m2.1.1)
    told_prim (clone p1) h = let m1 = told_args p1 h.1.1 in (as_expr K (expr_clone_is _ _) m1.0, m1.1.1)

    pub told_array : {a : List Expr} {x r : List Token} → IsArray a x r → Each K x → ExprsLeaves K (expr_trees a) × Each K r
    told_array no_element h = (tt, h.1)
    told_array (elements p1) h = let m1 = told_args p1 h in (m1.0, m1.1.1)

    pub told_arm : {a : Arm} {x r : List Token} → IsArm a x r → Each K x → ArmLeaves K (arm_pair a) × Each K r
    told_arm (arm_of p1 p2) h = let m1 = told_expr p1 h in let m2 = told_block p2 m1.1.1 in (as_arm K (arm_is _ _) (m1.0, m2.0), m2.1)

    pub told_elsifs : {a : List Arm} {x r : List Token} → IsElsifs a x r → Each K x → ArmsLeaves K (arm_trees a) × Each K r
    told_elsifs no_elsif h = (tt, h)
    told_elsifs (one_elsif p1 p2) h = let m1 = told_arm p1 h.1 in let m2 = told_elsifs p2 m1.1 in ((m1.0, m2.0), m2.1)

    pub told_else : {a : Option Block} {x r : List Token} → IsElse a x r → Each K x → MaybeLeaves K (maybe_tree a) × Each K r
    told_else no_else h = (tt, h.1)
    told_else (else_ p1) h = let m1 = told_block p1 h.1 in (m1.0, m1.1.1)

    pub told_try : {p : ℕ} {b : Block} {a : Expr} {x r : List Token} → IsTry p b a x r → Each K x → (BlockLeaves K (block_tree b) → ExprLeaves K (expr_tree a)) × Each K r
    told_try (finally p1) h = let m1 = told_block p1 h.1 in (λ b. as_expr K (expr_finally_is _ _ _) (b, m1.0), m1.1.1)
    told_try (excepts p1 p2 p3) h = let m1 = told_guard p1 h.1 in let m2 = told_guards p2 m1.1 in let m3 = told_else p3 m2.1 in (λ b. as_expr K (expr_try_is _ _ _ _) (b, (m1.0, m2.0), m3.0), m3.1)

    pub told_guard : {a : Arm} {x r : List Token} → IsGuard a x r → Each K x → ArmLeaves K (arm_pair a) × Each K r
    told_guard (guard_of p1 p2) h = let m1 = told_expr p1 h in let m2 = told_block p2 m1.1.1 in (as_arm K (arm_is _ _) (m1.0, m2.0), m2.1)

    pub told_guards : {a : List Arm} {x r : List Token} → IsGuards a x r → Each K x → ArmsLeaves K (arm_trees a) × Each K r
    told_guards no_guard h = (tt, h)
    told_guards (one_guard p1 p2) h = let m1 = told_guard p1 h.1 in let m2 = told_guards p2 m1.1 in ((m1.0, m2.0), m2.1)

    pub told_object : {f : Flags} {a : List Field} {x r : List Token} → IsObject f a x r → Each K x → FieldsLeaves K (field_trees a) × Each K r
    told_object no_field h = (tt, h.1)
    told_object (unflagged p1) h = let m1 = told_fields p1 h in (m1.0, m1.1.1)
    told_object (protected p1) h = told_flagged p1 h.1
    told_object (serialized p1) h = told_flagged p1 h.1

    pub told_flagged : {row : ℕ} {f : Bool} {a : List Field} {x r : List Token} → IsFlagged row f a x r → Each K x → FieldsLeaves K (field_trees a) × Each K r
    told_flagged flag_alone h = (tt, h.1)
    told_flagged (flag_fields p1) h = let m1 = told_fields p1 h.1 in (m1.0, m1.1.1)
    told_flagged (other_flag p1) h = told_both_flags p1 h.1.1

    pub told_both_flags : {a : List Field} {x r : List Token} → IsBothFlags a x r → Each K x → FieldsLeaves K (field_trees a) × Each K r
    told_both_flags flags_alone h = (tt, h.1)
    told_both_flags (flags_fields p1) h = let m1 = told_fields p1 h.1 in (m1.0, m1.1.1)

    pub told_fields : {a : List Field} {x r : List Token} → IsFields a x r → Each K x → FieldsLeaves K (field_trees a) × Each K r
    told_fields (fields p1 p2) h = let m1 = told_field p1 h in let m2 = told_more_fields p2 m1.1 in ((m1.0, m2.0), m2.1)

    pub told_more_fields : {a : List Field} {x r : List Token} → IsMoreFields a x r → Each K x → FieldsLeaves K (field_trees a) × Each K r
    told_more_fields no_further_field h = (tt, h)
    told_more_fields (one_field p1 p2) h = let m1 = told_field p1 h.1 in let m2 = told_more_fields p2 m1.1 in ((m1.0, m2.0), m2.1)

    pub told_field : {a : Field} {x r : List Token} → IsField a x r → Each K x → PartLeaves K (field_part a) × Each K r
    told_field (field_of p1) h = let m1 = told_field_body p1 h.1.1 in (as_part K (field_part_is _ _ _) m1.0, m1.1)
