-- Which kinds of token stand at the front of an N, and so behind what stands before it.
use Rattle.std.proofs.Common.{ℕ, List, [], ◌∷◌, Option, suc}
use Rattle.obq_base.specs.declared.tokens.Token.{Token}
use Rattle.obq_base.specs.declared.trees.Block.{Block}
use Rattle.obq_base.specs.declared.trees.Item.{Item}
use Rattle.obq_base.specs.declared.trees.Bind.{Bind}
use Rattle.obq_base.specs.declared.trees.Proc.{Proc}
use Rattle.obq_base.specs.declared.trees.Expr.{Expr}
use Rattle.obq_base.specs.declared.trees.Link.{Link}
use Rattle.obq_base.specs.declared.trees.Suffix.{Suffix}
use Rattle.obq_base.specs.declared.trees.Arm.{Arm}
use Rattle.obq_base.specs.declared.trees.Field.{Field}
use Rattle.obq_model.specs.Words.{kw_else, kw_end, kw_except, kw_finally}
use Rattle.obq_model.specs.Nodes.{token, next}
use Rattle.obq_model.specs.Grammar.{IsNoOpen, IsMore, IsItem, IsBinds, IsMoreBinds, IsBind, IsProc, IsNames, IsExpr, IsLevel, IsLinks, IsSuffixed, IsSuffix, IsArgs, IsMoreArgs, IsPrim, IsElsifs, IsElse, IsTry, IsGuards, IsFields, IsMoreFields, IsField, no_more, semicolon, more, let_, var, assign, set_field, set_item, plain, binds, no_bind, one_bind, bind_of, proc, names, expr, operand, level, no_link, one_link, chain, apply, dotted, index, args, no_arg, one_arg, int, text, true_, false_, ok, name, proc_of, paren, array, object, if_, loop_, exit, for, foreach, try, raise, watch, redirect, clone, no_elsif, one_elsif, no_else, else_, finally, excepts, no_guard, one_guard, fields, no_further_field, one_field, field_of}
use Rattle.obq_grammar.specs.Follow.{EndsSuffixed, EndsLevel, EndsExpr, EndsArgs, EndsItem, EndsBlock, EndsElsifs, EndsGuards, BeginsExpr, BeginsItem, BeginsName}
use Rattle.obq_grammar.proofs.Sets.{no_open, level_below, args_expr, block_item, elsifs_block, guards_block, begins_item, operator_ends}

pub first_proc : {a : Proc} {x r : List Token} → IsProc a x r → BeginsExpr (next x)
first_proc (proc p1 p2) = tt

pub first_prim : {a : Expr} {x r : List Token} → IsPrim a x r → BeginsExpr (next x)
first_prim int = tt
first_prim text = tt
first_prim true_ = tt
first_prim false_ = tt
first_prim ok = tt
first_prim name = tt
first_prim (proc_of p1) = first_proc p1
first_prim (paren p1) = tt
first_prim (array p1) = tt
first_prim (object p1) = tt
first_prim (if_ p1 p2 p3) = tt
first_prim (loop_ p1) = tt
first_prim exit = tt
first_prim (for p1 p2 p3) = tt
first_prim (foreach p1 p2) = tt
first_prim (try p1 p2) = tt
first_prim (raise p1) = tt
first_prim (watch p1 p2) = tt
first_prim (redirect p1 p2) = tt
first_prim (clone p1) = tt

pub first_suffixed : {a : Expr} {d : List Suffix} {x r : List Token} → IsSuffixed a d x r → BeginsExpr (next x)
first_suffixed (chain p1 p2) = first_prim p1

pub first_level : {l : ℕ} {a : Expr} {x r : List Token} → IsLevel l a x r → BeginsExpr (next x)
first_level (operand p1) = first_suffixed p1
first_level (level p1 p2) = first_level p1

pub first_expr : {a : Expr} {x r : List Token} → IsExpr a x r → BeginsExpr (next x)
first_expr (expr p1) = first_level p1

pub first_args : {a : List Expr} {x r : List Token} → IsArgs a x r → BeginsExpr (next x)
first_args (args p1 p2) = first_expr p1

pub first_item : {a : Item} {x r : List Token} → IsItem a x r → BeginsItem (next x)
first_item (let_ p1) = tt
first_item (var p1) = tt
first_item (assign p1) = tt
first_item (set_field {x = x} p1 p2) = begins_item (next x) (first_suffixed p1)
first_item (set_item {x = x} p1 p2 p3) = begins_item (next x) (first_suffixed p1)
first_item (plain {x = x} p1) = begins_item (next x) (first_expr p1)

pub first_suffix : {a : Suffix} {x r : List Token} → IsSuffix a x r → EndsSuffixed (next x) → ⊥
first_suffix (apply p1) = λ h. h
first_suffix (dotted p1) = λ h. h
first_suffix (index p1) = λ h. h

pub first_bind : {a : Bind} {x r : List Token} → IsBind a x r → BeginsName (next x)
first_bind (bind_of p1) = tt

pub first_binds : {a : List Bind} {x r : List Token} → IsBinds a x r → BeginsName (next x)
first_binds (binds p1 p2) = first_bind p1

pub first_names : {a : List (List ℕ)} {x r : List Token} → IsNames a x r → BeginsName (next x)
first_names (names p1) = tt

pub first_field : {a : Field} {x r : List Token} → IsField a x r → BeginsName (next x)
first_field (field_of p1) = tt

pub first_fields : {a : List Field} {x r : List Token} → IsFields a x r → BeginsName (next x)
first_fields (fields p1 p2) = first_field p1

-- what stands behind the part before a list

pub before_more : {a : List Item} {x r : List Token} → IsMore a x r → EndsBlock (next r) → EndsItem (next x)
before_more (no_more {x = x}) h = block_item (next x) h
before_more semicolon h = tt
before_more (more p1 p2) h = tt

pub before_binds : {a : List Bind} {x r : List Token} → IsMoreBinds a x r → EndsArgs (next r) → EndsExpr (next x)
before_binds (no_bind {x = x}) h = args_expr (next x) h
before_binds (one_bind p1 p2) h = tt

pub before_args : {a : List Expr} {x r : List Token} → IsMoreArgs a x r → EndsArgs (next r) → EndsExpr (next x)
before_args (no_arg {x = x}) h = args_expr (next x) h
before_args (one_arg p1 p2) h = tt

pub before_fields : {a : List Field} {x r : List Token} → IsMoreFields a x r → EndsArgs (next r) → EndsExpr (next x)
before_fields (no_further_field {x = x}) h = args_expr (next x) h
before_fields (one_field p1 p2) h = tt

pub before_links : {l : ℕ} {a : List Link} {x r : List Token} → IsLinks l a x r → EndsLevel (suc l) (next r) → EndsLevel l (next x)
before_links (no_link {l = l} {x = x}) h = level_below l (next x) h
before_links (one_link p1 p2 p3) h = operator_ends p1

pub before_elsifs : {a : List Arm} {x r : List Token} → IsElsifs a x r → EndsElsifs (next r) → EndsBlock (next x)
before_elsifs (no_elsif {x = x}) h = elsifs_block (next x) h
before_elsifs (one_elsif p1 p2) h = tt

pub before_guards : {a : List Arm} {x r : List Token} → IsGuards a x r → EndsGuards (next r) → EndsBlock (next x)
before_guards (no_guard {x = x}) h = guards_block (next x) h
before_guards (one_guard p1 p2) h = tt

pub first_else : {a : Option Block} {x r : List Token} → IsElse a x r → EndsElsifs (next x)
first_else no_else = tt
first_else (else_ p1) = tt

pub else_guards : {a : Option Block} {x r : List Token} → IsElse a x r → EndsGuards (next x)
else_guards no_else = tt
else_guards (else_ p1) = tt

pub first_try : {p : ℕ} {b : Block} {a : Expr} {x r : List Token} → IsTry p b a x r → EndsBlock (next x)
first_try (finally p1) = tt
first_try (excepts p1 p2 p3) = tt

pub no_open_else : {a : Option Block} {x r : List Token} → IsElse a x r → IsNoOpen (next x)
no_open_else no_else = no_open (next (token kw_end 0 ∷ [])) tt
no_open_else (else_ p1) = no_open (next (token kw_else 0 ∷ [])) tt

pub no_open_try : {p : ℕ} {b : Block} {a : Expr} {x r : List Token} → IsTry p b a x r → IsNoOpen (next x)
no_open_try (finally p1) = no_open (next (token kw_finally 0 ∷ [])) tt
no_open_try (excepts p1 p2 p3) = no_open (next (token kw_except 0 ∷ [])) tt
