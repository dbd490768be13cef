-- What stands behind an N has no part in it: other tokens may stand there, where a selection that ends it still isn't followed by "(". The tree is the same but for the place of an empty block.
use Rattle.std.proofs.Common.{ℕ, Bool, List, ◌∷◌, Option}
use Rattle.obq_base.specs.declared.tokens.TokenKind.TheVariants as k
use Rattle.obq_base.specs.declared.tokens.Token.{Token}
use Rattle.obq_base.specs.declared.trees.Flags.{Flags}
use Rattle.obq_base.specs.declared.trees.Block.{Block}
use Rattle.obq_base.specs.declared.trees.Item.{Item}
use Rattle.obq_base.specs.declared.trees.Bind.{Bind}
use Rattle.obq_base.specs.declared.trees.RecBind.{RecBind}
use Rattle.obq_base.specs.declared.trees.Proc.{Proc}
use Rattle.obq_base.specs.declared.trees.FieldExpr.{FieldExpr}
use Rattle.obq_base.specs.declared.trees.Expr.{Expr}
use Rattle.obq_base.specs.declared.trees.Link.{Link}
use Rattle.obq_base.specs.declared.trees.Suffix.{Suffix}
use Rattle.obq_base.specs.declared.trees.Arm.{Arm}
use Rattle.obq_base.specs.declared.trees.Field.{Field}
use Rattle.obq_model.specs.Words.{kw_alias, kw_clone, kw_do, kw_else, kw_elsif, kw_end, kw_except, kw_exit, kw_false, kw_finally, kw_for, kw_foreach, kw_if, kw_in, kw_let, kw_loop, kw_meth, kw_of, kw_ok, kw_proc, kw_protected, kw_raise, kw_rec, kw_redirect, kw_serialized, kw_then, kw_to, kw_true, kw_try, kw_until, kw_var, kw_watch, sym_open, sym_close, sym_comma, sym_dot, sym_assign, sym_semicolon, sym_equals, sym_arrow, sym_open_bracket, sym_close_bracket, sym_open_brace, sym_close_brace}
use Rattle.obq_model.specs.Nodes.{token, next}
use Rattle.obq_model.specs.Grammar.{IsNoOpen, IsBlock, IsMore, IsItem, IsLet, IsBinds, IsMoreBinds, IsBind, IsRecBinds, IsMoreRecBinds, IsRecBind, IsFieldBody, IsMeth, IsProc, IsParameters, IsNames, IsMoreNames, IsExpr, IsLevel, IsLinks, IsSuffixed, IsSuffixes, IsSuffix, IsDotted, IsCall, IsArgs, IsMoreArgs, IsPrim, IsArray, IsArm, IsElsifs, IsElse, IsTry, IsGuard, IsGuards, IsObject, IsFlagged, IsBothFlags, IsFields, IsMoreFields, IsField, empty, items, no_more, semicolon, more, let_, var, assign, set_field, set_item, plain, let_binds, let_rec, binds, no_bind, one_bind, bind_of, rec_binds, no_rec_bind, one_rec_bind, rec_bind_of, value, method, alias, meth, proc, no_parameter, parameters, names, no_name, one_name, expr, operand, level, no_link, one_link, chain, no_suffix, one_suffix, apply, dotted, index, select, invoke, no_argument, arguments, args, no_arg, one_arg, int, text, true_, false_, ok, name, proc_of, paren, array, object, if_, loop_, exit, for, foreach, try, raise, watch, redirect, clone, no_element, elements, arm_of, no_elsif, one_elsif, no_else, else_, finally, excepts, guard_of, no_guard, one_guard, no_field, unflagged, protected, serialized, flag_alone, flag_fields, other_flag, flags_alone, flags_fields, fields, no_further_field, one_field, field_of}
use Rattle.obq_grammar.specs.Fails.{Cut, here, there}
use Rattle.obq_grammar.proofs.Theory.{trans}
use Rattle.obq_grammar.proofs.Firsts.{no_open_else, no_open_try}

-- a selection that may end at r may end at v
abbrev pub Keeps : List Token → List Token → Type 0
Keeps r v = IsNoOpen (next r) → IsNoOpen (next v)

pub kept : {x r y v : List Token} → Cut x r y v → Keeps r v → Keeps x y
kept here k = k
kept (there c) k = λ h. h

mutual
  pub local_block : {a : Block} {x r : List Token} → IsBlock a x r → (v : List Token) → Keeps r v → (f : Block) × (y : List Token) × Cut x r y v × IsBlock f y v
  local_block empty v g = (_, v, here, empty)
  local_block (items p1 p2) v g = let m1 = local_more p2 v g in let m0 = local_item p1 m1.1 (kept m1.2 g) in (_, m0.1, trans m0.2 m1.2, items m0.3 m1.3)

  pub local_more : {a : List Item} {x r : List Token} → IsMore a x r → (v : List Token) → Keeps r v → (f : List Item) × (y : List Token) × Cut x r y v × IsMore f y v
  local_more no_more v g = (_, v, here, no_more)
  local_more (semicolon {p = p}) v g = (_, token sym_semicolon p ∷ v, there here, semicolon)
  local_more (more {p = p} p1 p2) v g = let m1 = local_more p2 v g in let m0 = local_item p1 m1.1 (kept m1.2 g) in (_, token sym_semicolon p ∷ m0.1, there (trans m0.2 m1.2), more m0.3 m1.3)

  pub local_item : {a : Item} {x r : List Token} → IsItem a x r → (v : List Token) → Keeps r v → (f : Item) × (y : List Token) × Cut x r y v × IsItem f y v
  local_item (let_ {p = p} p1) v g = let m0 = local_let p1 v g in (_, token kw_let p ∷ m0.1, there m0.2, let_ m0.3)
  local_item (var {p = p} p1) v g = let m0 = local_binds p1 v g in (_, token kw_var p ∷ m0.1, there m0.2, var m0.3)
  local_item (assign {n = n} {p = p} {q = q} p1) v g = let m0 = local_expr p1 v g in (_, token (k.Name n) p ∷ token sym_assign q ∷ m0.1, there (there m0.2), assign m0.3)
  local_item (set_field {n = n} {p = p} {q = q} {t = t} p1 p2) v g = let m1 = local_field_body p2 v g in let m0 = local_suffixed p1 (token sym_dot p ∷ token (k.Name n) q ∷ token sym_assign t ∷ m1.1) (λ h. h) in (_, m0.2, trans m0.3 (there (there (there m1.2))), set_field m0.4 m1.3)
  local_item (set_item {p = p} {q = q} {t = t} p1 p2 p3) v g = let m2 = local_expr p3 v g in let m1 = local_expr p2 (token sym_close_bracket q ∷ token sym_assign t ∷ m2.1) (λ h. h) in let m0 = local_suffixed p1 (token sym_open_bracket p ∷ m1.1) (λ h. h) in (_, m0.2, trans m0.3 (there (trans m1.2 (there (there m2.2)))), set_item m0.4 m1.3 m2.3)
  local_item (plain p1) v g = let m0 = local_expr p1 v g in (_, m0.1, m0.2, plain m0.3)

  pub local_let : {l : ℕ} {a : Item} {x r : List Token} → IsLet l a x r → (v : List Token) → Keeps r v → (f : Item) × (y : List Token) × Cut x r y v × IsLet l f y v
  local_let (let_binds p1) v g = let m0 = local_binds p1 v g in (_, m0.1, m0.2, let_binds m0.3)
  local_let (let_rec {q = q} p1) v g = let m0 = local_rec_binds p1 v in (_, token kw_rec q ∷ m0.1, there m0.2, let_rec m0.3)

  pub local_binds : {a : List Bind} {x r : List Token} → IsBinds a x r → (v : List Token) → Keeps r v → (f : List Bind) × (y : List Token) × Cut x r y v × IsBinds f y v
  local_binds (binds p1 p2) v g = let m1 = local_more_binds p2 v g in let m0 = local_bind p1 m1.1 (kept m1.2 g) in (_, m0.1, trans m0.2 m1.2, binds m0.3 m1.3)

  pub local_more_binds : {a : List Bind} {x r : List Token} → IsMoreBinds a x r → (v : List Token) → Keeps r v → (f : List Bind) × (y : List Token) × Cut x r y v × IsMoreBinds f y v
  local_more_binds no_bind v g = (_, v, here, no_bind)
  local_more_binds (one_bind {p = p} p1 p2) v g = let m1 = local_more_binds p2 v g in let m0 = local_bind p1 m1.1 (kept m1.2 g) in (_, token sym_comma p ∷ m0.1, there (trans m0.2 m1.2), one_bind m0.3 m1.3)

  pub local_bind : {a : Bind} {x r : List Token} → IsBind a x r → (v : List Token) → Keeps r v → (f : Bind) × (y : List Token) × Cut x r y v × IsBind f y v
  local_bind (bind_of {n = n} {p = p} {q = q} p1) v g = let m0 = local_expr p1 v g in (_, token (k.Name n) p ∷ token sym_equals q ∷ m0.1, there (there m0.2), bind_of m0.3)

  pub local_rec_binds : {a : List RecBind} {x r : List Token} → IsRecBinds a x r → (v : List Token) → (f : List RecBind) × (y : List Token) × Cut x r y v × IsRecBinds f y v
  local_rec_binds (rec_binds p1 p2) v = let m1 = local_more_rec_binds p2 v in let m0 = local_rec_bind p1 m1.1 in (_, m0.1, trans m0.2 m1.2, rec_binds m0.3 m1.3)

  pub local_more_rec_binds : {a : List RecBind} {x r : List Token} → IsMoreRecBinds a x r → (v : List Token) → (f : List RecBind) × (y : List Token) × Cut x r y v × IsMoreRecBinds f y v
  local_more_rec_binds no_rec_bind v = (_, v, here, no_rec_bind)
  local_more_rec_binds (one_rec_bind {p = p} p1 p2) v = let m1 = local_more_rec_binds p2 v in let m0 = local_rec_bind p1 m1.1 in (_, token sym_comma p ∷ m0.1, there (trans m0.2 m1.2), one_rec_bind m0.3 m1.3)

  pub local_rec_bind : {a : RecBind} {x r : List Token} → IsRecBind a x r → (v : List Token) → (f : RecBind) × (y : List Token) × Cut x r y v × IsRecBind f y v
  local_rec_bind (rec_bind_of {n = n} {p = p} {q = q} p1) v = let m0 = local_proc p1 v in (_, token (k.Name n) p ∷ token sym_equals q ∷ m0.1, there (there m0.2), rec_bind_of m0.3)

  pub local_field_body : {a : FieldExpr} {x r : List Token} → IsFieldBody a x r → (v : List Token) → Keeps r v → (f : FieldExpr) × (y : List Token) × Cut x r y v × IsFieldBody f y v
  local_field_body (value p1) v g = let m0 = local_expr p1 v g in (_, m0.1, m0.2, value m0.3)
  local_field_body (method p1) v g = let m0 = local_meth p1 v in (_, m0.1, m0.2, method m0.3)
  local_field_body (alias {n = n} {p = p} {q = q} {t = t} {u = u} p1) v g = let m0 = local_expr p1 (token kw_end u ∷ v) (λ h. h) in (_, token kw_alias p ∷ token (k.Name n) q ∷ token kw_of t ∷ m0.1, there (there (there (trans m0.2 (there here)))), alias m0.3)

  pub local_meth : {a : Proc} {x r : List Token} → IsMeth a x r → (v : List Token) → (f : Proc) × (y : List Token) × Cut x r y v × IsMeth f y v
  local_meth (meth {p = p} {q = q} {t = t} {u = u} p1 p2) v = let m1 = local_block p2 (token kw_end u ∷ v) (λ h. h) in let m0 = local_names p1 (token sym_close t ∷ m1.1) in (_, token kw_meth p ∷ token sym_open q ∷ m0.1, there (there (trans m0.2 (there (trans m1.2 (there here))))), meth m0.3 m1.3)

  pub local_proc : {a : Proc} {x r : List Token} → IsProc a x r → (v : List Token) → (f : Proc) × (y : List Token) × Cut x r y v × IsProc f y v
  local_proc (proc {p = p} {q = q} {t = t} p1 p2) v = let m1 = local_block p2 (token kw_end t ∷ v) (λ h. h) in let m0 = local_parameters p1 m1.1 in (_, token kw_proc p ∷ token sym_open q ∷ m0.1, there (there (trans m0.2 (trans m1.2 (there here)))), proc m0.3 m1.3)

  pub local_parameters : {a : List (List ℕ)} {x r : List Token} → IsParameters a x r → (v : List Token) → (f : List (List ℕ)) × (y : List Token) × Cut x r y v × IsParameters f y v
  local_parameters (no_parameter {p = p}) v = (_, token sym_close p ∷ v, there here, no_parameter)
  local_parameters (parameters {p = p} p1) v = let m0 = local_names p1 (token sym_close p ∷ v) in (_, m0.1, trans m0.2 (there here), parameters m0.3)

  pub local_names : {a : List (List ℕ)} {x r : List Token} → IsNames a x r → (v : List Token) → (f : List (List ℕ)) × (y : List Token) × Cut x r y v × IsNames f y v
  local_names (names {n = n} {p = p} p1) v = let m0 = local_more_names p1 v in (_, token (k.Name n) p ∷ m0.1, there m0.2, names m0.3)

  pub local_more_names : {a : List (List ℕ)} {x r : List Token} → IsMoreNames a x r → (v : List Token) → (f : List (List ℕ)) × (y : List Token) × Cut x r y v × IsMoreNames f y v
  local_more_names no_name v = (_, v, here, no_name)
  local_more_names (one_name {n = n} {p = p} {q = q} p1) v = let m0 = local_more_names p1 v in (_, token sym_comma p ∷ token (k.Name n) q ∷ m0.1, there (there m0.2), one_name m0.3)

  pub local_expr : {a : Expr} {x r : List Token} → IsExpr a x r → (v : List Token) → Keeps r v → (f : Expr) × (y : List Token) × Cut x r y v × IsExpr f y v
  local_expr (expr p1) v g = let m0 = local_level p1 v g in (_, m0.1, m0.2, expr m0.3)

  pub local_level : {l : ℕ} {a : Expr} {x r : List Token} → IsLevel l a x r → (v : List Token) → Keeps r v → (f : Expr) × (y : List Token) × Cut x r y v × IsLevel l f y v
  local_level (operand p1) v g = let m0 = local_suffixed p1 v g in (_, m0.2, m0.3, operand m0.4)
  local_level (level p1 p2) v g = let m1 = local_links p2 v g in let m0 = local_level p1 m1.1 (kept m1.2 g) in (_, m0.1, trans m0.2 m1.2, level m0.3 m1.3)

  pub local_links : {l : ℕ} {a : List Link} {x r : List Token} → IsLinks l a x r → (v : List Token) → Keeps r v → (f : List Link) × (y : List Token) × Cut x r y v × IsLinks l f y v
  local_links no_link v g = (_, v, here, no_link)
  local_links (one_link {kind = kind} {p = p} p1 p2 p3) v g = let m1 = local_links p3 v g in let m0 = local_level p2 m1.1 (kept m1.2 g) in (_, token kind p ∷ m0.1, there (trans m0.2 m1.2), one_link p1 m0.3 m1.3)

  pub local_suffixed : {a : Expr} {d : List Suffix} {x r : List Token} → IsSuffixed a d x r → (v : List Token) → Keeps r v → (f : Expr) × (h : List Suffix) × (y : List Token) × Cut x r y v × IsSuffixed f h y v
  local_suffixed (chain p1 p2) v g = let m1 = local_suffixes p2 v g in let m0 = local_prim p1 m1.1 in (_, _, m0.1, trans m0.2 m1.2, chain m0.3 m1.3)

  pub local_suffixes : {a : List Suffix} {x r : List Token} → IsSuffixes a x r → (v : List Token) → Keeps r v → (f : List Suffix) × (y : List Token) × Cut x r y v × IsSuffixes f y v
  local_suffixes no_suffix v g = (_, v, here, no_suffix)
  local_suffixes (one_suffix p1 p2) v g = let m1 = local_suffixes p2 v g in let m0 = local_suffix p1 m1.1 (kept m1.2 g) in (_, m0.1, trans m0.2 m1.2, one_suffix m0.3 m1.3)

  pub local_suffix : {a : Suffix} {x r : List Token} → IsSuffix a x r → (v : List Token) → Keeps r v → (f : Suffix) × (y : List Token) × Cut x r y v × IsSuffix f y v
  local_suffix (apply {p = p} p1) v g = let m0 = local_call p1 v in (_, token sym_open p ∷ m0.1, there m0.2, apply m0.3)
  local_suffix (dotted {n = n} {p = p} {q = q} p1) v g = let m0 = local_dotted p1 v g in (_, token sym_dot p ∷ token (k.Name n) q ∷ m0.1, there (there m0.2), dotted m0.3)
  local_suffix (index {p = p} {q = q} p1) v g = let m0 = local_expr p1 (token sym_close_bracket q ∷ v) (λ h. h) in (_, token sym_open_bracket p ∷ m0.1, there (trans m0.2 (there here)), index m0.3)

  pub local_dotted : {l : List ℕ} {m : ℕ} {a : Suffix} {x r : List Token} → IsDotted l m a x r → (v : List Token) → Keeps r v → (f : Suffix) × (y : List Token) × Cut x r y v × IsDotted l m f y v
  local_dotted (select p1) v g = (_, v, here, select (g p1))
  local_dotted (invoke {q = q} p1) v g = let m0 = local_call p1 v in (_, token sym_open q ∷ m0.1, there m0.2, invoke m0.3)

  pub local_call : {a : List Expr} {x r : List Token} → IsCall a x r → (v : List Token) → (f : List Expr) × (y : List Token) × Cut x r y v × IsCall f y v
  local_call (no_argument {p = p}) v = (_, token sym_close p ∷ v, there here, no_argument)
  local_call (arguments {p = p} p1) v = let m0 = local_args p1 (token sym_close p ∷ v) (λ h. h) in (_, m0.1, trans m0.2 (there here), arguments m0.3)

  pub local_args : {a : List Expr} {x r : List Token} → IsArgs a x r → (v : List Token) → Keeps r v → (f : List Expr) × (y : List Token) × Cut x r y v × IsArgs f y v
  local_args (args p1 p2) v g = let m1 = local_more_args p2 v g in let m0 = local_expr p1 m1.1 (kept m1.2 g) in (_, m0.1, trans m0.2 m1.2, args m0.3 m1.3)

  pub local_more_args : {a : List Expr} {x r : List Token} → IsMoreArgs a x r → (v : List Token) → Keeps r v → (f : List Expr) × (y : List Token) × Cut x r y v × IsMoreArgs f y v
  local_more_args no_arg v g = (_, v, here, no_arg)
  local_more_args (one_arg {p = p} p1 p2) v g = let m1 = local_more_args p2 v g in let m0 = local_expr p1 m1.1 (kept m1.2 g) in (_, token sym_comma p ∷ m0.1, there (trans m0.2 m1.2), one_arg m0.3 m1.3)

  pub local_prim : {a : Expr} {x r : List Token} → IsPrim a x r → (v : List Token) → (f : Expr) × (y : List Token) × Cut x r y v × IsPrim f y v
  local_prim (int {z = z} {p = p}) v = (_, token (k.Int z) p ∷ v, there here, int)
  local_prim (text {t = t} {p = p}) v = (_, token (k.Text t) p ∷ v, there here, text)
  local_prim (true_ {p = p}) v = (_, token kw_true p ∷ v, there here, true_)
  local_prim (false_ {p = p}) v = (_, token kw_false p ∷ v, there here, false_)
  local_prim (ok {p = p}) v = (_, token kw_ok p ∷ v, there here, ok)
  local_prim (name {n = n} {p = p}) v = (_, token (k.Name n) p ∷ v, there here, name)
  local_prim (proc_of p1) v = let m0 = local_proc p1 v in (_, m0.1, m0.2, proc_of m0.3)
  local_prim (paren {p = p} {q = q} p1) v = let m0 = local_expr p1 (token sym_close q ∷ v) (λ h. h) in (_, token sym_open p ∷ m0.1, there (trans m0.2 (there here)), paren m0.3)
  local_prim (array {p = p} p1) v = let m0 = local_array p1 v in (_, token sym_open_bracket p ∷ m0.1, there m0.2, array m0.3)
  local_prim (object {p = p} p1) v = let m0 = local_object p1 v in (_, token sym_open_brace p ∷ m0.2, there m0.3, object m0.4)
  local_prim (if_ {p = p} p1 p2 p3) v = let m2 = local_else p3 v in let m1 = local_elsifs p2 m2.1 (λ h. no_open_else m2.3) in let m0 = local_arm p1 m1.1 (kept m1.2 (λ h. no_open_else m2.3)) in (_, token kw_if p ∷ m0.1, there (trans m0.2 (trans m1.2 m2.2)), if_ m0.3 m1.3 m2.3)
  local_prim (loop_ {p = p} {q = q} p1) v = let m0 = local_block p1 (token kw_end q ∷ v) (λ h. h) in (_, token kw_loop p ∷ m0.1, there (trans m0.2 (there here)), loop_ m0.3)
  local_prim (exit {p = p}) v = (_, token kw_exit p ∷ v, there here, exit)
  local_prim (for {n = n} {p = p} {q = q} {t = t} {u = u} {c = c} {d = d} p1 p2 p3) v = let m2 = local_block p3 (token kw_end d ∷ v) (λ h. h) in let m1 = local_expr p2 (token kw_do c ∷ m2.1) (λ h. h) in let m0 = local_expr p1 (token kw_to u ∷ m1.1) (λ h. h) in (_, token kw_for p ∷ token (k.Name n) q ∷ token sym_equals t ∷ m0.1, there (there (there (trans m0.2 (there (trans m1.2 (there (trans m2.2 (there here)))))))), for m0.3 m1.3 m2.3)
  local_prim (foreach {n = n} {p = p} {q = q} {t = t} {u = u} {c = c} p1 p2) v = let m1 = local_block p2 (token kw_end c ∷ v) (λ h. h) in let m0 = local_expr p1 (token kw_do u ∷ m1.1) (λ h. h) in (_, token kw_foreach p ∷ token (k.Name n) q ∷ token kw_in t ∷ m0.1, there (there (there (trans m0.2 (there (trans m1.2 (there here)))))), foreach m0.3 m1.3)
  local_prim (try {b = b} {p = p} p1 p2) v = let m1 = local_try p2 v in let m0 = local_block p1 m1.0 (λ h. no_open_try (m1.2 b).1) in let w = m1.2 m0.0 in (_, token kw_try p ∷ m0.1, there (trans m0.2 m1.1), try m0.3 w.1)
  local_prim (raise {p = p} {q = q} {t = t} p1) v = let m0 = local_expr p1 (token sym_close t ∷ v) (λ h. h) in (_, token kw_raise p ∷ token sym_open q ∷ m0.1, there (there (trans m0.2 (there here))), raise m0.3)
  local_prim (watch {p = p} {q = q} {t = t} p1 p2) v = let m1 = local_expr p2 (token kw_end t ∷ v) (λ h. h) in let m0 = local_expr p1 (token kw_until q ∷ m1.1) (λ h. h) in (_, token kw_watch p ∷ m0.1, there (trans m0.2 (there (trans m1.2 (there here)))), watch m0.3 m1.3)
  local_prim (redirect {p = p} {q = q} {t = t} p1 p2) v = let m1 = local_expr p2 (token kw_end t ∷ v) (λ h. h) in let m0 = local_expr p1 (token kw_to q ∷ m1.1) (λ h. h) in (_, token kw_redirect p ∷ m0.1, there (trans m0.2 (there (trans m1.2 (there here)))), redirect m0.3 m1.3)
  local_prim (clone {p = p} {q = q} {t = t} p1) v = let m0 = local_args p1 (token sym_close t ∷ v) (λ h. h) in (_, token kw_clone p ∷ token sym_open q ∷ m0.1, there (there (trans m0.2 (there here))), clone m0.3)

  pub local_array : {a : List Expr} {x r : List Token} → IsArray a x r → (v : List Token) → (f : List Expr) × (y : List Token) × Cut x r y v × IsArray f y v
  local_array (no_element {p = p}) v = (_, token sym_close_bracket p ∷ v, there here, no_element)
  local_array (elements {p = p} p1) v = let m0 = local_args p1 (token sym_close_bracket p ∷ v) (λ h. h) in (_, m0.1, trans m0.2 (there here), elements m0.3)

  pub local_arm : {a : Arm} {x r : List Token} → IsArm a x r → (v : List Token) → Keeps r v → (f : Arm) × (y : List Token) × Cut x r y v × IsArm f y v
  local_arm (arm_of {p = p} p1 p2) v g = let m1 = local_block p2 v g in let m0 = local_expr p1 (token kw_then p ∷ m1.1) (λ h. h) in (_, m0.1, trans m0.2 (there m1.2), arm_of m0.3 m1.3)

  pub local_elsifs : {a : List Arm} {x r : List Token} → IsElsifs a x r → (v : List Token) → Keeps r v → (f : List Arm) × (y : List Token) × Cut x r y v × IsElsifs f y v
  local_elsifs no_elsif v g = (_, v, here, no_elsif)
  local_elsifs (one_elsif {p = p} p1 p2) v g = let m1 = local_elsifs p2 v g in let m0 = local_arm p1 m1.1 (kept m1.2 g) in (_, token kw_elsif p ∷ m0.1, there (trans m0.2 m1.2), one_elsif m0.3 m1.3)

  pub local_else : {a : Option Block} {x r : List Token} → IsElse a x r → (v : List Token) → (f : Option Block) × (y : List Token) × Cut x r y v × IsElse f y v
  local_else (no_else {p = p}) v = (_, token kw_end p ∷ v, there here, no_else)
  local_else (else_ {p = p} {q = q} p1) v = let m0 = local_block p1 (token kw_end q ∷ v) (λ h. h) in (_, token kw_else p ∷ m0.1, there (trans m0.2 (there here)), else_ m0.3)

  pub local_try : {l : ℕ} {m : Block} {a : Expr} {x r : List Token} → IsTry l m a x r → (v : List Token) → (y : List Token) × Cut x r y v × ((c : Block) → (f : Expr) × IsTry l c f y v)
  local_try (finally {q = q} {t = t} p1) v = let m0 = local_block p1 (token kw_end t ∷ v) (λ h. h) in (token kw_finally q ∷ m0.1, there (trans m0.2 (there here)), λ c. (_, finally m0.3))
  local_try (excepts {q = q} p1 p2 p3) v = let m2 = local_else p3 v in let m1 = local_guards p2 m2.1 (λ h. no_open_else m2.3) in let m0 = local_guard p1 m1.1 (kept m1.2 (λ h. no_open_else m2.3)) in (token kw_except q ∷ m0.1, there (trans m0.2 (trans m1.2 m2.2)), λ c. (_, excepts m0.3 m1.3 m2.3))

  pub local_guard : {a : Arm} {x r : List Token} → IsGuard a x r → (v : List Token) → Keeps r v → (f : Arm) × (y : List Token) × Cut x r y v × IsGuard f y v
  local_guard (guard_of {p = p} p1 p2) v g = let m1 = local_block p2 v g in let m0 = local_expr p1 (token sym_arrow p ∷ m1.1) (λ h. h) in (_, m0.1, trans m0.2 (there m1.2), guard_of m0.3 m1.3)

  pub local_guards : {a : List Arm} {x r : List Token} → IsGuards a x r → (v : List Token) → Keeps r v → (f : List Arm) × (y : List Token) × Cut x r y v × IsGuards f y v
  local_guards no_guard v g = (_, v, here, no_guard)
  local_guards (one_guard {p = p} p1 p2) v g = let m1 = local_guards p2 v g in let m0 = local_guard p1 m1.1 (kept m1.2 g) in (_, token kw_except p ∷ m0.1, there (trans m0.2 m1.2), one_guard m0.3 m1.3)

  pub local_object : {a : Flags} {d : List Field} {x r : List Token} → IsObject a d x r → (v : List Token) → (f : Flags) × (h : List Field) × (y : List Token) × Cut x r y v × IsObject f h y v
  local_object (no_field {p = p}) v = (_, _, token sym_close_brace p ∷ v, there here, no_field)
  local_object (unflagged {p = p} p1) v = let m0 = local_fields p1 (token sym_close_brace p ∷ v) (λ h. h) in (_, _, m0.1, trans m0.2 (there here), unflagged m0.3)
  local_object (protected {p = p} p1) v = let m0 = local_flagged p1 v in (_, _, token kw_protected p ∷ m0.2, there m0.3, protected m0.4)
  local_object (serialized {p = p} p1) v = let m0 = local_flagged p1 v in (_, _, token kw_serialized p ∷ m0.2, there m0.3, serialized m0.4)

  pub local_flagged : {l : ℕ} {a : Bool} {d : List Field} {x r : List Token} → IsFlagged l a d x r → (v : List Token) → (f : Bool) × (h : List Field) × (y : List Token) × Cut x r y v × IsFlagged l f h y v
  local_flagged (flag_alone {p = p}) v = (_, _, token sym_close_brace p ∷ v, there here, flag_alone)
  local_flagged (flag_fields {p = p} {q = q} p1) v = let m0 = local_fields p1 (token sym_close_brace q ∷ v) (λ h. h) in (_, _, token sym_comma p ∷ m0.1, there (trans m0.2 (there here)), flag_fields m0.3)
  local_flagged (other_flag {row = row} {p = p} {q = q} p1) v = let m0 = local_both_flags p1 v in (_, _, token sym_comma p ∷ token (k.Keyword row) q ∷ m0.1, there (there m0.2), other_flag m0.3)

  pub local_both_flags : {a : List Field} {x r : List Token} → IsBothFlags a x r → (v : List Token) → (f : List Field) × (y : List Token) × Cut x r y v × IsBothFlags f y v
  local_both_flags (flags_alone {p = p}) v = (_, token sym_close_brace p ∷ v, there here, flags_alone)
  local_both_flags (flags_fields {p = p} {q = q} p1) v = let m0 = local_fields p1 (token sym_close_brace q ∷ v) (λ h. h) in (_, token sym_comma p ∷ m0.1, there (trans m0.2 (there here)), flags_fields m0.3)

  pub local_fields : {a : List Field} {x r : List Token} → IsFields a x r → (v : List Token) → Keeps r v → (f : List Field) × (y : List Token) × Cut x r y v × IsFields f y v
  local_fields (fields p1 p2) v g = let m1 = local_more_fields p2 v g in let m0 = local_field p1 m1.1 (kept m1.2 g) in (_, m0.1, trans m0.2 m1.2, fields m0.3 m1.3)

  pub local_more_fields : {a : List Field} {x r : List Token} → IsMoreFields a x r → (v : List Token) → Keeps r v → (f : List Field) × (y : List Token) × Cut x r y v × IsMoreFields f y v
  local_more_fields no_further_field v g = (_, v, here, no_further_field)
  local_more_fields (one_field {p = p} p1 p2) v g = let m1 = local_more_fields p2 v g in let m0 = local_field p1 m1.1 (kept m1.2 g) in (_, token sym_comma p ∷ m0.1, there (trans m0.2 m1.2), one_field m0.3 m1.3)

  pub local_field : {a : Field} {x r : List Token} → IsField a x r → (v : List Token) → Keeps r v → (f : Field) × (y : List Token) × Cut x r y v × IsField f y v
  local_field (field_of {n = n} {p = p} {q = q} p1) v g = let m0 = local_field_body p1 v g in (_, token (k.Name n) p ∷ token sym_arrow q ∷ m0.1, there (there m0.2), field_of m0.3)
