-- The size of a tree is at most four times the number of the tokens that derive it.
use Rattle.std.proofs.Common.{Bool, List, Option, [], arith, length, subst, sym, ℕ, ◌*◌, ◌+◌, ◌<◌, ◌≡◌, ◌≤◌, ◌∷◌}
use Rattle.obq_base.specs.declared.tokens.Token.{Token}
use Rattle.obq_base.specs.declared.trees.Flags.{Flags}
use Rattle.obq_base.specs.declared.trees.Block.{Block}
use Rattle.obq_base.specs.declared.trees.Item.{Item}
use Rattle.obq_base.specs.declared.trees.Bind.{Bind}
use Rattle.obq_base.specs.declared.trees.RecBind.{RecBind}
use Rattle.obq_base.specs.declared.trees.Proc.{Proc}
use Rattle.obq_base.specs.declared.trees.FieldExpr.{FieldExpr}
use Rattle.obq_base.specs.declared.trees.Expr.{Expr}
use Rattle.obq_base.specs.declared.trees.Link.{Link}
use Rattle.obq_base.specs.declared.trees.Suffix.{Suffix}
use Rattle.obq_base.specs.declared.trees.Arm.{Arm}
use Rattle.obq_base.specs.declared.trees.Field.{Field}
use Rattle.obq_base.specs.Tree.{BlockTree, ItemTree, ProcedureTree, FieldTree, ExprTree, SuffixTree}
use Rattle.obq_base.specs.View.{ArmPair, BindPart, FieldPart, LinkPart, RecBindPart, arm_pair, arm_trees, bind_part, bind_trees, block_tree, expr_tree, expr_trees, field_part, field_tree, field_trees, item_tree, item_trees, link_trees, maybe_tree, procedure_tree, rec_bind_part, rec_bind_trees, suffix_tree, suffix_trees}
use Rattle.obq_grammar.proofs.Viewed.{arm_is, bind_is, block_is, expr_array_is, expr_chain_is, expr_clone_is, expr_exit_is, expr_finally_is, expr_for_is, expr_foreach_is, expr_if_is, expr_int_is, expr_loop_is, expr_object_is, expr_okay_is, expr_procedure_is, expr_raise_is, expr_redirect_is, expr_str_is, expr_suffixed_is, expr_truth_is, expr_try_is, expr_use_is, expr_watch_is, field_alias_is, field_method_is, field_part_is, field_value_is, item_assign_is, item_let_is, item_letrec_is, item_plain_is, item_setfield_is, item_setitem_is, item_var_is, link_is, procedure_is, rec_bind_is, suffix_apply_is, suffix_index_is, suffix_invoke_is, suffix_select_is}
use Rattle.obq_model.proofs.Widths.{reading_length}
use Rattle.obq_model.specs.Grammar.{Derives, IsBlock, IsMore, IsItem, IsLet, IsBinds, IsMoreBinds, IsBind, IsRecBinds, IsMoreRecBinds, IsRecBind, IsFieldBody, IsMeth, IsProc, IsParameters, IsNames, IsMoreNames, IsExpr, IsLevel, IsLinks, IsSuffixed, IsSuffixes, IsSuffix, IsDotted, IsCall, IsArgs, IsMoreArgs, IsPrim, IsArray, IsArm, IsElsifs, IsElse, IsTry, IsGuard, IsGuards, IsObject, IsFlagged, IsBothFlags, IsFields, IsMoreFields, IsField, empty, items, no_more, semicolon, more, let_, var, assign, set_field, set_item, plain, let_binds, let_rec, binds, no_bind, one_bind, bind_of, rec_binds, no_rec_bind, one_rec_bind, rec_bind_of, value, method, alias, meth, proc, no_parameter, parameters, names, no_name, one_name, expr, operand, level, no_link, one_link, chain, no_suffix, one_suffix, apply, dotted, index, select, invoke, no_argument, arguments, args, no_arg, one_arg, int, text, true_, false_, ok, name, proc_of, paren, array, object, if_, loop_, exit, for, foreach, try, raise, watch, redirect, clone, no_element, elements, arm_of, no_elsif, one_elsif, no_else, else_, finally, excepts, guard_of, no_guard, one_guard, no_field, unflagged, protected, serialized, flag_alone, flag_fields, other_flag, flags_alone, flags_fields, fields, no_further_field, one_field, field_of}
use Rattle.obq_model.specs.Nodes.{chained, suffixed}
use Rattle.obq_model.specs.Tokens.{IsReading}
use Rattle.obq_scope.specs.Sizes.{size_arms, size_binds, size_block, size_body, size_expr, size_exprs, size_field, size_fields, size_item, size_items, size_links, size_maybe, size_members, size_suffix, size_suffixes}

-- tokens x, of which r are left, derive a tree of this size; k more may be added, and j are of a part before x
record Fits (size k j : ℕ) (x r : List Token) : Type 0 where
  fits : size + (k + 4 * length r) ≤ j + 4 * length x

as_block : {s t : BlockTree} {k j : ℕ} {x r : List Token} → s ≡ t → Fits (size_block t) k j x r → Fits (size_block s) k j x r
as_block {k = k} {j = j} {x = x} {r = r} e h = subst (λ (s : BlockTree). Fits (size_block s) k j x r) (sym e) h

as_item : {s t : ItemTree} {k j : ℕ} {x r : List Token} → s ≡ t → Fits (size_item t) k j x r → Fits (size_item s) k j x r
as_item {k = k} {j = j} {x = x} {r = r} e h = subst (λ (s : ItemTree). Fits (size_item s) k j x r) (sym e) h

as_bind : {s t : BindPart} {k j : ℕ} {x r : List Token} → s ≡ t → Fits (size_expr t.1) k j x r → Fits (size_expr s.1) k j x r
as_bind {k = k} {j = j} {x = x} {r = r} e h = subst (λ (s : BindPart). Fits (size_expr s.1) k j x r) (sym e) h

as_rec_bind : {s t : RecBindPart} {k j : ℕ} {x r : List Token} → s ≡ t → Fits (size_body t.1) k j x r → Fits (size_body s.1) k j x r
as_rec_bind {k = k} {j = j} {x = x} {r = r} e h = subst (λ (s : RecBindPart). Fits (size_body s.1) k j x r) (sym e) h

as_procedure : {s t : ProcedureTree} {k j : ℕ} {x r : List Token} → s ≡ t → Fits (size_body t) k j x r → Fits (size_body s) k j x r
as_procedure {k = k} {j = j} {x = x} {r = r} e h = subst (λ (s : ProcedureTree). Fits (size_body s) k j x r) (sym e) h

as_field : {s t : FieldTree} {k j : ℕ} {x r : List Token} → s ≡ t → Fits (size_field t) k j x r → Fits (size_field s) k j x r
as_field {k = k} {j = j} {x = x} {r = r} e h = subst (λ (s : FieldTree). Fits (size_field s) k j x r) (sym e) h

as_part : {s t : FieldPart} {k j : ℕ} {x r : List Token} → s ≡ t → Fits (size_field t.1) k j x r → Fits (size_field s.1) k j x r
as_part {k = k} {j = j} {x = x} {r = r} e h = subst (λ (s : FieldPart). Fits (size_field s.1) k j x r) (sym e) h

as_expr : {s t : ExprTree} {k j : ℕ} {x r : List Token} → s ≡ t → Fits (size_expr t) k j x r → Fits (size_expr s) k j x r
as_expr {k = k} {j = j} {x = x} {r = r} e h = subst (λ (s : ExprTree). Fits (size_expr s) k j x r) (sym e) h

as_suffix : {s t : SuffixTree} {k j : ℕ} {x r : List Token} → s ≡ t → Fits (size_suffix t) k j x r → Fits (size_suffix s) k j x r
as_suffix {k = k} {j = j} {x = x} {r = r} e h = subst (λ (s : SuffixTree). Fits (size_suffix s) k j x r) (sym e) h

as_arm : {s t : ArmPair} {k j : ℕ} {x r : List Token} → s ≡ t → Fits (size_expr t.0 + size_block t.1) k j x r → Fits (size_expr s.0 + size_block s.1) k j x r
as_arm {k = k} {j = j} {x = x} {r = r} e h = subst (λ (s : ArmPair). Fits (size_expr s.0 + size_block s.1) k j x r) (sym e) h

as_link : {s t : LinkPart} {k j : ℕ} {x r : List Token} → s ≡ t → Fits (size_expr t.1) k j x r → Fits (size_expr s.1) k j x r
as_link {k = k} {j = j} {x = x} {r = r} e h = subst (λ (s : LinkPart). Fits (size_expr s.1) k j x r) (sym e) h

joined : {k j : ℕ} {x r : List Token} (h : Expr) (ss : List Suffix) → Fits (size_expr (expr_tree h) + size_suffixes (suffix_trees ss)) k j x r → Fits (size_expr (expr_tree (suffixed h ss))) k j x r
joined h [] f = let le = f.fits in record { fits = omega (arith, le) }
joined h (s ∷ ss) f = as_expr (expr_suffixed_is h (s ∷ ss)) f

chained_size : {k j : ℕ} {x r : List Token} (a : Expr) (ls : List Link) → Fits (size_expr (expr_tree a) + size_links (link_trees ls)) k j x r → Fits (size_expr (expr_tree (chained a ls))) k j x r
chained_size a [] f = let le = f.fits in record { fits = omega (arith, le) }
chained_size a (l ∷ ls) f = as_expr (expr_chain_is a (l ∷ ls)) f

mutual
  sized_block : {a : Block} {x r : List Token} → IsBlock a x r → Fits (size_block (block_tree a)) 0 0 x r
  sized_block empty = as_block (block_is _ _) (record { fits = omega arith })
  sized_block (items p1 p2) = let m1 = (sized_item p1).fits in let m2 = (sized_more p2).fits in as_block (block_is _ _) (record { fits = omega (arith, m1, m2) })

  sized_more : {a : List Item} {x r : List Token} → IsMore a x r → Fits (size_items (item_trees a)) 0 0 x r
  sized_more no_more = record { fits = omega arith }
  sized_more semicolon = record { fits = omega arith }
  sized_more (more p1 p2) = let m1 = (sized_item p1).fits in let m2 = (sized_more p2).fits in record { fits = omega (arith, m1, m2) }

  sized_item : {a : Item} {x r : List Token} → IsItem a x r → Fits (size_item (item_tree a)) 2 0 x r
  sized_item (let_ p1) = let m1 = (sized_let p1).fits in record { fits = omega (arith, m1) }
  sized_item (var p1) = let m1 = (sized_binds p1).fits in as_item (item_var_is _ _) (record { fits = omega (arith, m1) })
  sized_item (assign p1) = let m1 = (sized_expr p1).fits in as_item (item_assign_is _ _ _) (record { fits = omega (arith, m1) })
  sized_item (set_field p1 p2) = let m1 = (sized_suffixed p1).fits in let m2 = (sized_field_body p2).fits in as_item (item_setfield_is _ _ _ _) (record { fits = omega (arith, m1, m2) })
  sized_item (set_item p1 p2 p3) = let m1 = (sized_suffixed p1).fits in let m2 = (sized_expr p2).fits in let m3 = (sized_expr p3).fits in as_item (item_setitem_is _ _ _ _) (record { fits = omega (arith, m1, m2, m3) })
  sized_item (plain p1) = let m1 = (sized_expr p1).fits in as_item (item_plain_is _) (record { fits = omega (arith, m1) })

  sized_let : {p : ℕ} {a : Item} {x r : List Token} → IsLet p a x r → Fits (size_item (item_tree a)) 0 0 x r
  sized_let (let_binds p1) = let m1 = (sized_binds p1).fits in as_item (item_let_is _ _) (record { fits = omega (arith, m1) })
  sized_let (let_rec p1) = let m1 = (sized_rec_binds p1).fits in as_item (item_letrec_is _ _) (record { fits = omega (arith, m1) })

  sized_binds : {a : List Bind} {x r : List Token} → IsBinds a x r → Fits (size_binds (bind_trees a)) 0 0 x r
  sized_binds (binds p1 p2) = let m1 = (sized_bind p1).fits in let m2 = (sized_more_binds p2).fits in record { fits = omega (arith, m1, m2) }

  sized_more_binds : {a : List Bind} {x r : List Token} → IsMoreBinds a x r → Fits (size_binds (bind_trees a)) 0 0 x r
  sized_more_binds no_bind = record { fits = omega arith }
  sized_more_binds (one_bind p1 p2) = let m1 = (sized_bind p1).fits in let m2 = (sized_more_binds p2).fits in record { fits = omega (arith, m1, m2) }

  sized_bind : {a : Bind} {x r : List Token} → IsBind a x r → Fits (size_expr (bind_part a).1) 2 0 x r
  sized_bind (bind_of p1) = let m1 = (sized_expr p1).fits in as_bind (bind_is _ _ _) (record { fits = omega (arith, m1) })

  sized_rec_binds : {a : List RecBind} {x r : List Token} → IsRecBinds a x r → Fits (size_members (rec_bind_trees a)) 0 0 x r
  sized_rec_binds (rec_binds p1 p2) = let m1 = (sized_rec_bind p1).fits in let m2 = (sized_more_rec_binds p2).fits in record { fits = omega (arith, m1, m2) }

  sized_more_rec_binds : {a : List RecBind} {x r : List Token} → IsMoreRecBinds a x r → Fits (size_members (rec_bind_trees a)) 0 0 x r
  sized_more_rec_binds no_rec_bind = record { fits = omega arith }
  sized_more_rec_binds (one_rec_bind p1 p2) = let m1 = (sized_rec_bind p1).fits in let m2 = (sized_more_rec_binds p2).fits in record { fits = omega (arith, m1, m2) }

  sized_rec_bind : {a : RecBind} {x r : List Token} → IsRecBind a x r → Fits (size_body (rec_bind_part a).1) 2 0 x r
  sized_rec_bind (rec_bind_of p1) = let m1 = (sized_proc p1).fits in as_rec_bind (rec_bind_is _ _ _) (record { fits = omega (arith, m1) })

  sized_field_body : {a : FieldExpr} {x r : List Token} → IsFieldBody a x r → Fits (size_field (field_tree a)) 0 0 x r
  sized_field_body (value p1) = let m1 = (sized_expr p1).fits in as_field (field_value_is _) (record { fits = omega (arith, m1) })
  sized_field_body (method p1) = let m1 = (sized_meth p1).fits in as_field (field_method_is _) (record { fits = omega (arith, m1) })
  sized_field_body (alias p1) = let m1 = (sized_expr p1).fits in as_field (field_alias_is _ _ _) (record { fits = omega (arith, m1) })

  sized_meth : {a : Proc} {x r : List Token} → IsMeth a x r → Fits (size_body (procedure_tree a)) 3 0 x r
  sized_meth (meth p1 p2) = let m1 = (sized_names p1).fits in let m2 = (sized_block p2).fits in as_procedure (procedure_is _ _ _) (record { fits = omega (arith, m1, m2) })

  sized_proc : {a : Proc} {x r : List Token} → IsProc a x r → Fits (size_body (procedure_tree a)) 3 0 x r
  sized_proc (proc p1 p2) = let m1 = (sized_parameters p1).fits in let m2 = (sized_block p2).fits in as_procedure (procedure_is _ _ _) (record { fits = omega (arith, m1, m2) })

  sized_parameters : {a : List (List ℕ)} {x r : List Token} → IsParameters a x r → Fits (length a) 0 0 x r
  sized_parameters no_parameter = record { fits = omega arith }
  sized_parameters (parameters p1) = let m1 = (sized_names p1).fits in record { fits = omega (arith, m1) }

  sized_names : {a : List (List ℕ)} {x r : List Token} → IsNames a x r → Fits (length a) 0 0 x r
  sized_names (names p1) = let m1 = (sized_more_names p1).fits in record { fits = omega (arith, m1) }

  sized_more_names : {a : List (List ℕ)} {x r : List Token} → IsMoreNames a x r → Fits (length a) 0 0 x r
  sized_more_names no_name = record { fits = omega arith }
  sized_more_names (one_name p1) = let m1 = (sized_more_names p1).fits in record { fits = omega (arith, m1) }

  sized_expr : {a : Expr} {x r : List Token} → IsExpr a x r → Fits (size_expr (expr_tree a)) 2 0 x r
  sized_expr (expr p1) = let m1 = (sized_level p1).fits in record { fits = omega (arith, m1) }

  sized_level : {l : ℕ} {a : Expr} {x r : List Token} → IsLevel l a x r → Fits (size_expr (expr_tree a)) 2 0 x r
  sized_level (operand p1) = let m1 = (sized_suffixed p1).fits in record { fits = omega (arith, m1) }
  sized_level (level {a = a} {ls = ls} p1 p2) = let m1 = (sized_level p1).fits in let m2 = (sized_links p2).fits in chained_size a ls (record { fits = omega (arith, m1, m2) })

  sized_links : {l : ℕ} {a : List Link} {x r : List Token} → IsLinks l a x r → Fits (size_links (link_trees a)) 0 0 x r
  sized_links no_link = record { fits = omega arith }
  sized_links (one_link {f = f} {a = a} {p = p} s1 p1 p2) = let m1 = (as_link (link_is f a p) (sized_level p1)).fits in let m2 = (sized_links p2).fits in record { fits = omega (arith, m1, m2) }

  sized_suffixed : {a : Expr} {b : List Suffix} {x r : List Token} → IsSuffixed a b x r → Fits (size_expr (expr_tree (suffixed a b))) 2 0 x r
  sized_suffixed (chain {h = h} {ss = ss} p1 p2) = let m1 = (sized_prim p1).fits in let m2 = (sized_suffixes p2).fits in joined h ss (record { fits = omega (arith, m1, m2) })

  sized_suffixes : {a : List Suffix} {x r : List Token} → IsSuffixes a x r → Fits (size_suffixes (suffix_trees a)) 0 0 x r
  sized_suffixes no_suffix = record { fits = omega arith }
  sized_suffixes (one_suffix p1 p2) = let m1 = (sized_suffix p1).fits in let m2 = (sized_suffixes p2).fits in record { fits = omega (arith, m1, m2) }

  sized_suffix : {a : Suffix} {x r : List Token} → IsSuffix a x r → Fits (size_suffix (suffix_tree a)) 1 0 x r
  sized_suffix (apply p1) = let m1 = (sized_call p1).fits in as_suffix (suffix_apply_is _ _) (record { fits = omega (arith, m1) })
  sized_suffix (dotted p1) = let m1 = (sized_dotted p1).fits in record { fits = omega (arith, m1) }
  sized_suffix (index p1) = let m1 = (sized_expr p1).fits in as_suffix (suffix_index_is _ _) (record { fits = omega (arith, m1) })

  sized_dotted : {n : List ℕ} {p : ℕ} {a : Suffix} {x r : List Token} → IsDotted n p a x r → Fits (size_suffix (suffix_tree a)) 0 0 x r
  sized_dotted (select s1) = as_suffix (suffix_select_is _ _) (record { fits = omega arith })
  sized_dotted (invoke p1) = let m1 = (sized_call p1).fits in as_suffix (suffix_invoke_is _ _ _) (record { fits = omega (arith, m1) })

  sized_call : {a : List Expr} {x r : List Token} → IsCall a x r → Fits (size_exprs (expr_trees a)) 0 0 x r
  sized_call no_argument = record { fits = omega arith }
  sized_call (arguments p1) = let m1 = (sized_args p1).fits in record { fits = omega (arith, m1) }

  sized_args : {a : List Expr} {x r : List Token} → IsArgs a x r → Fits (size_exprs (expr_trees a)) 0 0 x r
  sized_args (args p1 p2) = let m1 = (sized_expr p1).fits in let m2 = (sized_more_args p2).fits in record { fits = omega (arith, m1, m2) }

  sized_more_args : {a : List Expr} {x r : List Token} → IsMoreArgs a x r → Fits (size_exprs (expr_trees a)) 0 0 x r
  sized_more_args no_arg = record { fits = omega arith }
  sized_more_args (one_arg p1 p2) = let m1 = (sized_expr p1).fits in let m2 = (sized_more_args p2).fits in record { fits = omega (arith, m1, m2) }

  sized_prim : {a : Expr} {x r : List Token} → IsPrim a x r → Fits (size_expr (expr_tree a)) 2 0 x r
  sized_prim int = as_expr (expr_int_is _ _) (record { fits = omega arith })
  sized_prim text = as_expr (expr_str_is _ _) (record { fits = omega arith })
  sized_prim true_ = as_expr (expr_truth_is _ _) (record { fits = omega arith })
  sized_prim false_ = as_expr (expr_truth_is _ _) (record { fits = omega arith })
  sized_prim ok = as_expr (expr_okay_is _) (record { fits = omega arith })
  sized_prim name = as_expr (expr_use_is _ _) (record { fits = omega arith })
  sized_prim (proc_of p1) = let m1 = (sized_proc p1).fits in as_expr (expr_procedure_is _) (record { fits = omega (arith, m1) })
  sized_prim (paren p1) = let m1 = (sized_expr p1).fits in record { fits = omega (arith, m1) }
  sized_prim (array p1) = let m1 = (sized_array p1).fits in as_expr (expr_array_is _ _) (record { fits = omega (arith, m1) })
  sized_prim (object p1) = let m1 = (sized_object p1).fits in as_expr (expr_object_is _ _ _) (record { fits = omega (arith, m1) })
  sized_prim (if_ p1 p2 p3) = let m1 = (sized_arm p1).fits in let m2 = (sized_elsifs p2).fits in let m3 = (sized_else p3).fits in as_expr (expr_if_is _ _ _) (record { fits = omega (arith, m1, m2, m3) })
  sized_prim (loop_ p1) = let m1 = (sized_block p1).fits in as_expr (expr_loop_is _ _) (record { fits = omega (arith, m1) })
  sized_prim exit = as_expr (expr_exit_is _) (record { fits = omega arith })
  sized_prim (for p1 p2 p3) = let m1 = (sized_expr p1).fits in let m2 = (sized_expr p2).fits in let m3 = (sized_block p3).fits in as_expr (expr_for_is _ _ _ _ _) (record { fits = omega (arith, m1, m2, m3) })
  sized_prim (foreach p1 p2) = let m1 = (sized_expr p1).fits in let m2 = (sized_block p2).fits in as_expr (expr_foreach_is _ _ _ _) (record { fits = omega (arith, m1, m2) })
  sized_prim (try p1 p2) = let m1 = (sized_block p1).fits in let m2 = (sized_try p2).fits in record { fits = omega (arith, m1, m2) }
  sized_prim (raise p1) = let m1 = (sized_expr p1).fits in as_expr (expr_raise_is _ _) (record { fits = omega (arith, m1) })
  sized_prim (watch p1 p2) = let m1 = (sized_expr p1).fits in let m2 = (sized_expr p2).fits in as_expr (expr_watch_is _ _ _) (record { fits = omega (arith, m1, m2) })
  sized_prim (redirect p1 p2) = let m1 = (sized_expr p1).fits in let m2 = (sized_expr p2).fits in as_expr (expr_redirect_is _ _ _) (record { fits = omega (arith, m1, m2) })
  sized_prim (clone p1) = let m1 = (sized_args p1).fits in as_expr (expr_clone_is _ _) (record { fits = omega (arith, m1) })

  sized_array : {a : List Expr} {x r : List Token} → IsArray a x r → Fits (size_exprs (expr_trees a)) 0 0 x r
  sized_array no_element = record { fits = omega arith }
  sized_array (elements p1) = let m1 = (sized_args p1).fits in record { fits = omega (arith, m1) }

  sized_arm : {a : Arm} {x r : List Token} → IsArm a x r → Fits (size_expr (arm_pair a).0 + size_block (arm_pair a).1) 2 0 x r
  sized_arm (arm_of p1 p2) = let m1 = (sized_expr p1).fits in let m2 = (sized_block p2).fits in as_arm (arm_is _ _) (record { fits = omega (arith, m1, m2) })

  sized_elsifs : {a : List Arm} {x r : List Token} → IsElsifs a x r → Fits (size_arms (arm_trees a)) 0 0 x r
  sized_elsifs no_elsif = record { fits = omega arith }
  sized_elsifs (one_elsif p1 p2) = let m1 = (sized_arm p1).fits in let m2 = (sized_elsifs p2).fits in record { fits = omega (arith, m1, m2) }

  sized_else : {a : Option Block} {x r : List Token} → IsElse a x r → Fits (size_maybe (maybe_tree a)) 0 0 x r
  sized_else no_else = record { fits = omega arith }
  sized_else (else_ p1) = let m1 = (sized_block p1).fits in record { fits = omega (arith, m1) }

  sized_try : {p : ℕ} {b : Block} {a : Expr} {x r : List Token} → IsTry p b a x r → Fits (size_expr (expr_tree a)) 0 (size_block (block_tree b)) x r
  sized_try (finally p1) = let m1 = (sized_block p1).fits in as_expr (expr_finally_is _ _ _) (record { fits = omega (arith, m1) })
  sized_try (excepts p1 p2 p3) = let m1 = (sized_guard p1).fits in let m2 = (sized_guards p2).fits in let m3 = (sized_else p3).fits in as_expr (expr_try_is _ _ _ _) (record { fits = omega (arith, m1, m2, m3) })

  sized_guard : {a : Arm} {x r : List Token} → IsGuard a x r → Fits (size_expr (arm_pair a).0 + size_block (arm_pair a).1) 2 0 x r
  sized_guard (guard_of p1 p2) = let m1 = (sized_expr p1).fits in let m2 = (sized_block p2).fits in as_arm (arm_is _ _) (record { fits = omega (arith, m1, m2) })

  sized_guards : {a : List Arm} {x r : List Token} → IsGuards a x r → Fits (size_arms (arm_trees a)) 0 0 x r
  sized_guards no_guard = record { fits = omega arith }
  sized_guards (one_guard p1 p2) = let m1 = (sized_guard p1).fits in let m2 = (sized_guards p2).fits in record { fits = omega (arith, m1, m2) }

  sized_object : {f : Flags} {a : List Field} {x r : List Token} → IsObject f a x r → Fits (size_fields (field_trees a)) 0 0 x r
  sized_object no_field = record { fits = omega arith }
  sized_object (unflagged p1) = let m1 = (sized_fields p1).fits in record { fits = omega (arith, m1) }
  sized_object (protected p1) = let m1 = (sized_flagged p1).fits in record { fits = omega (arith, m1) }
  sized_object (serialized p1) = let m1 = (sized_flagged p1).fits in record { fits = omega (arith, m1) }

  sized_flagged : {row : ℕ} {f : Bool} {a : List Field} {x r : List Token} → IsFlagged row f a x r → Fits (size_fields (field_trees a)) 0 0 x r
  sized_flagged flag_alone = record { fits = omega arith }
  sized_flagged (flag_fields p1) = let m1 = (sized_fields p1).fits in record { fits = omega (arith, m1) }
  sized_flagged (other_flag p1) = let m1 = (sized_both_flags p1).fits in record { fits = omega (arith, m1) }

  sized_both_flags : {a : List Field} {x r : List Token} → IsBothFlags a x r → Fits (size_fields (field_trees a)) 0 0 x r
  sized_both_flags flags_alone = record { fits = omega arith }
  sized_both_flags (flags_fields p1) = let m1 = (sized_fields p1).fits in record { fits = omega (arith, m1) }

  sized_fields : {a : List Field} {x r : List Token} → IsFields a x r → Fits (size_fields (field_trees a)) 0 0 x r
  sized_fields (fields p1 p2) = let m1 = (sized_field p1).fits in let m2 = (sized_more_fields p2).fits in record { fits = omega (arith, m1, m2) }

  sized_more_fields : {a : List Field} {x r : List Token} → IsMoreFields a x r → Fits (size_fields (field_trees a)) 0 0 x r
  sized_more_fields no_further_field = record { fits = omega arith }
  sized_more_fields (one_field p1 p2) = let m1 = (sized_field p1).fits in let m2 = (sized_more_fields p2).fits in record { fits = omega (arith, m1, m2) }

  sized_field : {a : Field} {x r : List Token} → IsField a x r → Fits (size_field (field_part a).1) 0 0 x r
  sized_field (field_of p1) = let m1 = (sized_field_body p1).fits in as_part (field_part_is _ _ _) (record { fits = omega (arith, m1) })

-- so it is small where the source is within the limit
pub size_small : (source : List ℕ) (tokens : List Token) (tree : Block) → IsReading source tokens → Derives tokens tree → length source ≤ 1048576 → size_block (block_tree tree) < 4294967296
size_small source tokens tree is_read derived short = let few = reading_length source tokens is_read in let le = (sized_block derived.1).fits in omega (arith, few, le, short)
