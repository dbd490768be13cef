-- Worked derivations: the definition at small programs.
use Rattle.std.proofs.Common.{ℕ, pos, true, List, [], ◌∷◌, Some}
use Rattle.obq_base.specs.declared.tokens.TokenKind.{TokenKind}
use Rattle.obq_base.specs.declared.tokens.TokenKind.TheVariants as k
use Rattle.obq_base.specs.declared.tokens.Token.{Token}
use Rattle.obq_base.specs.declared.trees.Flags.{Flags}
use Rattle.obq_base.specs.declared.trees.Block.{Block}
use Rattle.obq_base.specs.declared.trees.Item.{Item}
use Rattle.obq_base.specs.declared.trees.Proc.{Proc}
use Rattle.obq_base.specs.declared.trees.Expr.{Expr}
use Rattle.obq_base.specs.declared.trees.Suffix.{Suffix}
use Rattle.obq_base.specs.declared.trees.Field.{Field}
use Rattle.obq_base.specs.declared.trees.Item.TheVariants as i
use Rattle.obq_base.specs.declared.trees.Expr.TheVariants as e
use Rattle.obq_base.specs.declared.trees.Suffix.TheVariants as s
use Rattle.obq_base.specs.declared.trees.FieldExpr.TheVariants as b
use Rattle.obq_model.specs.Words.{kw_alias, kw_andif, kw_clone, kw_do, kw_else, kw_elsif, kw_end, kw_except, kw_exit, kw_finally, kw_for, kw_foreach, kw_if, kw_in, kw_is, kw_let, kw_loop, kw_meth, kw_of, kw_ok, kw_orif, kw_proc, kw_protected, kw_raise, kw_rec, kw_redirect, kw_serialized, kw_then, kw_to, kw_true, kw_try, kw_until, kw_var, kw_watch, sym_open, sym_close, sym_star, sym_plus, sym_comma, sym_minus, sym_dot, sym_assign, sym_semicolon, sym_equals, sym_arrow, sym_open_bracket, sym_close_bracket, sym_open_brace, sym_close_brace}
use Rattle.obq_model.specs.Nodes.{token, block, bind, rec_bind, procedure, arm, field, link, suffixed}
use Rattle.obq_model.specs.Grammar.{flags, multiply, add, subtract, is, andif, orif, IsItem, IsMeth, IsExpr, IsSuffixed, IsPrim, IsTry, IsObject, empty, items, no_more, semicolon, more, let_, var, set_field, set_item, plain, let_binds, let_rec, binds, no_bind, one_bind, bind_of, rec_binds, no_rec_bind, rec_bind_of, method, alias, meth, proc, no_parameter, names, no_name, expr, operand, level, no_link, one_link, chain, no_suffix, one_suffix, apply, dotted, index, select, invoke, arguments, args, no_arg, one_arg, int, true_, ok, name, paren, array, object, if_, loop_, exit, for, foreach, try, raise, watch, redirect, clone, elements, arm_of, no_elsif, one_elsif, else_, finally, excepts, guard_of, no_guard, unflagged, protected, serialized, flag_fields, other_flag, flags_fields, fields, no_further_field, field_of}
use Rattle.obq_base.specs.declared.trees.Operator.TheVariants as o
use Rattle.obq_model.specs.Grammar.{Derives}
use Rattle.obq_grammar.proofs.Sets.{no_open}
use Rattle.obq_grammar.proofs.Firsts.{first_suffixed, first_expr}

abbrev a : List ℕ
a = 97 ∷ []

abbrev x : List ℕ
x = 120 ∷ []

abbrev number : ℕ → TokenKind
number n = k.Int (pos n)

-- an operand of no operators, at each level
alone : {h : Expr} {ss : List Suffix} {y r : List Token} → IsSuffixed h ss y r → IsExpr (suffixed h ss) y r
alone p = expr (level (level (level (level (level (operand p) no_link) no_link) no_link) no_link) no_link)

prim : {h : Expr} {r y : List Token} → IsPrim h y r → IsExpr h y r
prim p = alone (chain p no_suffix)

-- a.x(1) is an invocation
invocation : Derives (token (k.Name a) 0 ∷ token sym_dot 1 ∷ token (k.Name x) 2 ∷ token sym_open 3 ∷ token (number 1) 4 ∷ token sym_close 5 ∷ token k.EndOfSource 6 ∷ [])
    (block (i.Plain (e.Suffixed (e.Use a 0) (s.Invoke x (e.Int (pos 1) 4 ∷ []) 1 ∷ [])) ∷ []) 0)
invocation = (6, items (plain (alone (chain name (one_suffix (dotted (invoke (arguments (args (prim int) no_arg)))) no_suffix)))) no_more)

-- (a.x)(1) is a call of a field's value
call_of_field : Derives (token sym_open 0 ∷ token (k.Name a) 1 ∷ token sym_dot 2 ∷ token (k.Name x) 3 ∷ token sym_close 4 ∷ token sym_open 5 ∷ token (number 1) 6 ∷ token sym_close 7 ∷ token k.EndOfSource 8 ∷ [])
    (block (i.Plain (e.Suffixed (e.Suffixed (e.Use a 1) (s.Select x 2 ∷ [])) (s.Apply (e.Int (pos 1) 6 ∷ []) 5 ∷ [])) ∷ []) 0)
call_of_field = (8, items (plain (alone (chain (paren (alone (chain name (one_suffix (dotted (select (no_open sym_close tt))) no_suffix)))) (one_suffix (apply (arguments (args (prim int) no_arg))) no_suffix)))) no_more)

-- 1 + 2 * 3, 1 - 2 - 3
product_in_sum : Derives (token (number 1) 0 ∷ token sym_plus 2 ∷ token (number 2) 4 ∷ token sym_star 6 ∷ token (number 3) 8 ∷ token k.EndOfSource 9 ∷ [])
    (block (i.Plain (e.Chain (e.Int (pos 1) 0) (link o.Add (e.Chain (e.Int (pos 2) 4) (link o.Multiply (e.Int (pos 3) 8) 6 ∷ [])) 2 ∷ [])) ∷ []) 0)
product_in_sum = (9, items (plain (expr (level (level (level (level (level (operand (chain int no_suffix)) no_link) (one_link add (level (operand (chain int no_suffix)) (one_link multiply (operand (chain int no_suffix)) no_link)) no_link)) no_link) no_link) no_link))) no_more)

differences : Derives (token (number 1) 0 ∷ token sym_minus 2 ∷ token (number 2) 4 ∷ token sym_minus 6 ∷ token (number 3) 8 ∷ token k.EndOfSource 9 ∷ [])
    (block (i.Plain (e.Chain (e.Int (pos 1) 0) (link o.Subtract (e.Int (pos 2) 4) 2 ∷ link o.Subtract (e.Int (pos 3) 8) 6 ∷ [])) ∷ []) 0)
differences = (9, items (plain (expr (level (level (level (level (level (operand (chain int no_suffix)) no_link) (one_link subtract (level (operand (chain int no_suffix)) no_link) (one_link subtract (level (operand (chain int no_suffix)) no_link) no_link))) no_link) no_link) no_link))) no_more)

-- if a then 1 elsif x then else 2 end: an empty block has the place of the token behind it
branches : Derives (token kw_if 0 ∷ token (k.Name a) 3 ∷ token kw_then 5 ∷ token (number 1) 10 ∷ token kw_elsif 12 ∷ token (k.Name x) 18 ∷ token kw_then 20 ∷ token kw_else 25 ∷ token (number 2) 30 ∷ token kw_end 32 ∷ token k.EndOfSource 35 ∷ [])
    (block (i.Plain (e.If (arm (e.Use a 3) (block (i.Plain (e.Int (pos 1) 10) ∷ []) 10) ∷ arm (e.Use x 18) (block [] 25) ∷ []) (Some (block (i.Plain (e.Int (pos 2) 30) ∷ []) 30)) 0) ∷ []) 0)
branches = (35, items (plain (prim (if_ (arm_of (prim name) (items (plain (prim int)) no_more)) (one_elsif (arm_of (prim name) empty) no_elsif) (else_ (items (plain (prim int)) no_more))))) no_more)

-- a.x := meth(x) end; a[1] := 2;
assignments : Derives (token (k.Name a) 0 ∷ token sym_dot 1 ∷ token (k.Name x) 2 ∷ token sym_assign 4 ∷ token kw_meth 7 ∷ token sym_open 11 ∷ token (k.Name x) 12 ∷ token sym_close 13 ∷ token kw_end 15 ∷ token sym_semicolon 18 ∷ token (k.Name a) 20 ∷ token sym_open_bracket 21 ∷ token (number 1) 22 ∷ token sym_close_bracket 23 ∷ token sym_assign 25 ∷ token (number 2) 28 ∷ token sym_semicolon 29 ∷ token k.EndOfSource 30 ∷ [])
    (block (i.SetField (e.Use a 0) x (b.Method (procedure (x ∷ []) (block [] 15) 7)) 0 ∷ i.SetItem (e.Use a 20) (e.Int (pos 1) 22) (e.Int (pos 2) 28) 20 ∷ []) 0)
assignments = (30, items (set_field (chain name no_suffix) (method (meth (names no_name) empty))) (more (set_item (chain name no_suffix) (prim int) (prim int)) semicolon))

-- let rec a = proc() end
recursion : Derives (token kw_let 0 ∷ token kw_rec 4 ∷ token (k.Name a) 8 ∷ token sym_equals 10 ∷ token kw_proc 12 ∷ token sym_open 16 ∷ token sym_close 17 ∷ token kw_end 19 ∷ token k.EndOfSource 22 ∷ [])
    (block (i.LetRec (rec_bind a (procedure [] (block [] 19) 12) 8 ∷ []) 0 ∷ []) 0)
recursion = (22, items (let_ (let_rec (rec_binds (rec_bind_of (proc no_parameter empty)) no_rec_bind))) no_more)

-- {serialized, protected, x => alias x of a end}
an_object : Derives (token sym_open_brace 0 ∷ token kw_serialized 1 ∷ token sym_comma 11 ∷ token kw_protected 13 ∷ token sym_comma 22 ∷ token (k.Name x) 24 ∷ token sym_arrow 26 ∷ token kw_alias 29 ∷ token (k.Name x) 35 ∷ token kw_of 37 ∷ token (k.Name a) 40 ∷ token kw_end 42 ∷ token sym_close_brace 45 ∷ token k.EndOfSource 46 ∷ [])
    (block (i.Plain (e.Object (flags true true) (field x (b.Alias x (e.Use a 40) 29) 24 ∷ []) 0) ∷ []) 0)
an_object = (46, items (plain (prim (object (serialized (other_flag (flags_fields (fields (field_of (alias (prim name))) no_further_field))))))) no_more)

-- try exit except a => else end
a_try : Derives (token kw_try 0 ∷ token kw_exit 4 ∷ token kw_except 9 ∷ token (k.Name a) 16 ∷ token sym_arrow 18 ∷ token kw_else 21 ∷ token kw_end 26 ∷ token k.EndOfSource 29 ∷ [])
    (block (i.Plain (e.Try (block (i.Plain (e.Exit 4) ∷ []) 4) (arm (e.Use a 16) (block [] 21) ∷ []) (Some (block [] 26)) 0) ∷ []) 0)
a_try = (29, items (plain (prim (try (items (plain (prim exit)) no_more) (excepts (guard_of (prim name) empty) no_guard (else_ empty))))) no_more)

-- a is x orif true andif x
truths : Derives (token (k.Name a) 0 ∷ token kw_is 2 ∷ token (k.Name x) 5 ∷ token kw_orif 7 ∷ token kw_true 12 ∷ token kw_andif 17 ∷ token (k.Name x) 23 ∷ token k.EndOfSource 24 ∷ [])
    (block (i.Plain (e.Chain (e.Chain (e.Use a 0) (link o.Is (e.Use x 5) 2 ∷ [])) (link o.Orif (e.Chain (e.Truth true 12) (link o.Andif (e.Use x 23) 17 ∷ [])) 7 ∷ [])) ∷ []) 0)
truths = (
  24,
  items (plain (expr (level
      (level (level (level (level (operand (chain name no_suffix)) no_link) no_link) (one_link is (level (level (operand (chain name no_suffix)) no_link) no_link) no_link)) no_link)
      (one_link orif (level (level (level (level (operand (chain true_ no_suffix)) no_link) no_link) no_link) (one_link andif (level (level (level (operand (chain name no_suffix)) no_link) no_link) no_link) no_link)) no_link)))) no_more,
)

-- var a = 1, x = [a, 2][0]
variables : Derives (token kw_var 0 ∷ token (k.Name a) 4 ∷ token sym_equals 6 ∷ token (number 1) 8 ∷ token sym_comma 9 ∷ token (k.Name x) 11 ∷ token sym_equals 13 ∷ token sym_open_bracket 15 ∷ token (k.Name a) 16 ∷ token sym_comma 17 ∷ token (number 2) 19 ∷ token sym_close_bracket 20 ∷ token sym_open_bracket 21 ∷ token (number 0) 22 ∷ token sym_close_bracket 23 ∷ token k.EndOfSource 24 ∷ [])
    (block (i.Var (bind a (e.Int (pos 1) 8) 4 ∷ bind x (e.Suffixed (e.Array (e.Use a 16 ∷ e.Int (pos 2) 19 ∷ []) 15) (s.Index (e.Int (pos 0) 22) 21 ∷ [])) 11 ∷ []) 0 ∷ []) 0)
variables = (24, items (var (binds (bind_of (prim int)) (one_bind (bind_of (alone (chain (array (elements (args (prim name) (one_arg (prim int) no_arg)))) (one_suffix (index (prim int)) no_suffix)))) no_bind))) no_more)

-- for a = 1 to 2 do foreach x in a do loop end end end
loops : Derives (token kw_for 0 ∷ token (k.Name a) 4 ∷ token sym_equals 6 ∷ token (number 1) 8 ∷ token kw_to 10 ∷ token (number 2) 13 ∷ token kw_do 15 ∷ token kw_foreach 18 ∷ token (k.Name x) 26 ∷ token kw_in 28 ∷ token (k.Name a) 31 ∷ token kw_do 33 ∷ token kw_loop 36 ∷ token kw_end 41 ∷ token kw_end 45 ∷ token kw_end 49 ∷ token k.EndOfSource 52 ∷ [])
    (block (i.Plain (e.For a (e.Int (pos 1) 8) (e.Int (pos 2) 13) (block (i.Plain (e.Foreach x (e.Use a 31) (block (i.Plain (e.Loop (block [] 41) 36) ∷ []) 36) 18) ∷ []) 18) 0) ∷ []) 0)
loops = (52, items (plain (prim (for (prim int) (prim int) (items (plain (prim (foreach (prim name) (items (plain (prim (loop_ empty))) no_more)))) no_more)))) no_more)

-- try watch a until ok end finally redirect a to x end; clone(a); raise(a) end
final_block : Derives (token kw_try 0 ∷ token kw_watch 4 ∷ token (k.Name a) 10 ∷ token kw_until 12 ∷ token kw_ok 18 ∷ token kw_end 21 ∷ token kw_finally 25 ∷ token kw_redirect 33 ∷ token (k.Name a) 42 ∷ token kw_to 44 ∷ token (k.Name x) 47 ∷ token kw_end 49 ∷ token sym_semicolon 52 ∷ token kw_clone 54 ∷ token sym_open 59 ∷ token (k.Name a) 60 ∷ token sym_close 61 ∷ token sym_semicolon 62 ∷ token kw_raise 64 ∷ token sym_open 69 ∷ token (k.Name a) 70 ∷ token sym_close 71 ∷ token kw_end 73 ∷ token k.EndOfSource 76 ∷ [])
    (block (i.Plain (e.Finally (block (i.Plain (e.Watch (e.Use a 10) (e.Okay 18) 4) ∷ []) 4) (block (i.Plain (e.Redirect (e.Use a 42) (e.Use x 47) 33) ∷ i.Plain (e.Clone (e.Use a 60 ∷ []) 54) ∷ i.Plain (e.Raise (e.Use a 70) 64) ∷ []) 33) 0) ∷ []) 0)
final_block = (76, items (plain (prim (try (items (plain (prim (watch (prim name) (prim ok)))) no_more) (finally (items (plain (prim (redirect (prim name) (prim name)))) (more (plain (prim (clone (args (prim name) no_arg)))) (more (plain (prim (raise (prim name)))) no_more))))))) no_more)

-- the empty program
nothing : Derives (token k.EndOfSource 0 ∷ []) (block [] 0)
nothing = (0, empty)

-- `let rec` takes procedures alone
no_rec_value : {v : Item} {n : List ℕ} {p q t u c : ℕ} {y r : List Token} → IsItem v (token kw_let p ∷ token kw_rec q ∷ token (k.Name n) t ∷ token sym_equals u ∷ token (number 1) c ∷ y) r → ⊥
no_rec_value (let_ (let_binds (binds b l))) = elim b [ ]
no_rec_value (let_ (let_rec (rec_binds (rec_bind_of f) l))) = elim f [ ]
no_rec_value (set_field f g) = first_suffixed f
no_rec_value (set_item f g h) = first_suffixed f
no_rec_value (plain f) = first_expr f

-- a method wants a parameter
no_bare_method : {m : Proc} {p q t : ℕ} {y r : List Token} → IsMeth m (token kw_meth p ∷ token sym_open q ∷ token sym_close t ∷ y) r → ⊥
no_bare_method (meth n l) = elim n [ ]

-- a flag stands once
no_flag_twice : {f : Flags} {fs : List Field} {p q t : ℕ} {y r : List Token} → IsObject f fs (token kw_protected p ∷ token sym_comma q ∷ token kw_protected t ∷ y) r → ⊥
no_flag_twice (unflagged (fields f l)) = elim f [ ]
no_flag_twice (protected (flag_fields (fields f l))) = elim f [ ]

-- a `try` wants an `except` or a `finally`
no_bare_try : {p t : ℕ} {c : Block} {v : Expr} {y r : List Token} → IsTry p c v (token kw_end t ∷ y) r → ⊥
no_bare_try p = elim p [ ]
