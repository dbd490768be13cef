-- What begins with an N begins with one N of one tree, where the token behind it can't go on with it.
-- `same_C`: what begins with the case C begins with it alone, where its parts do so.
use Rattle.std.proofs.Common.{◌≡◌, ℕ, ℤ, zero, suc, Bool, true, false, List, [], ◌∷◌, Option, Some, None, refl}
use Rattle.obq_base.specs.declared.tokens.TokenKind.{TokenKind}
use Rattle.obq_base.specs.declared.tokens.TokenKind.TheVariants as k
use Rattle.obq_base.specs.declared.tokens.Token.{Token}
use Rattle.obq_base.specs.declared.trees.Operator.{Operator}
use Rattle.obq_base.specs.declared.trees.Flags.{Flags}
use Rattle.obq_base.specs.declared.trees.Block.{Block}
use Rattle.obq_base.specs.declared.trees.Item.{Item}
use Rattle.obq_base.specs.declared.trees.Bind.{Bind}
use Rattle.obq_base.specs.declared.trees.RecBind.{RecBind}
use Rattle.obq_base.specs.declared.trees.Proc.{Proc}
use Rattle.obq_base.specs.declared.trees.FieldExpr.{FieldExpr}
use Rattle.obq_base.specs.declared.trees.Expr.{Expr}
use Rattle.obq_base.specs.declared.trees.Link.{Link}
use Rattle.obq_base.specs.declared.trees.Suffix.{Suffix}
use Rattle.obq_base.specs.declared.trees.Arm.{Arm}
use Rattle.obq_base.specs.declared.trees.Field.{Field}
use Rattle.obq_base.specs.declared.trees.Item.TheVariants as i
use Rattle.obq_base.specs.declared.trees.Expr.TheVariants as e
use Rattle.obq_base.specs.declared.trees.Suffix.TheVariants as s
use Rattle.obq_base.specs.declared.trees.FieldExpr.TheVariants as b
use Rattle.obq_model.specs.Words.{kw_alias, kw_clone, kw_do, kw_else, kw_elsif, kw_end, kw_except, kw_exit, kw_false, kw_finally, kw_for, kw_foreach, kw_if, kw_in, kw_let, kw_loop, kw_meth, kw_of, kw_ok, kw_proc, row_protected, kw_protected, kw_raise, kw_rec, kw_redirect, row_serialized, kw_serialized, kw_then, kw_to, kw_true, kw_try, kw_until, kw_var, kw_watch, sym_open, sym_close, sym_comma, sym_dot, sym_assign, sym_semicolon, sym_equals, sym_arrow, sym_open_bracket, sym_close_bracket, sym_open_brace, sym_close_brace}
use Rattle.obq_model.specs.Nodes.{token, next, place, block, bind, rec_bind, procedure, arm, field, link, suffixed, chained}
use Rattle.obq_model.specs.Grammar.{Operates, IsNoOpen, flags, IsBlock, IsMore, IsItem, IsLet, IsBinds, IsMoreBinds, IsBind, IsRecBinds, IsMoreRecBinds, IsRecBind, IsFieldBody, IsMeth, IsProc, IsParameters, IsNames, IsMoreNames, IsExpr, IsLevel, IsLinks, IsSuffixed, IsSuffixes, IsSuffix, IsDotted, IsCall, IsArgs, IsMoreArgs, IsPrim, IsArray, IsArm, IsElsifs, IsElse, IsTry, IsGuard, IsGuards, IsObject, IsFlagged, IsBothFlags, IsFields, IsMoreFields, IsField, empty, items, no_more, semicolon, more, let_, var, assign, set_field, set_item, plain, let_binds, let_rec, binds, no_bind, one_bind, bind_of, rec_binds, no_rec_bind, one_rec_bind, rec_bind_of, value, method, alias, meth, proc, no_parameter, parameters, names, no_name, one_name, expr, operand, level, no_link, one_link, chain, no_suffix, one_suffix, apply, dotted, index, select, invoke, no_argument, arguments, args, no_arg, one_arg, int, text, true_, false_, ok, name, proc_of, paren, array, object, if_, loop_, exit, for, foreach, try, raise, watch, redirect, clone, no_element, elements, arm_of, no_elsif, one_elsif, no_else, else_, finally, excepts, guard_of, no_guard, one_guard, no_field, unflagged, protected, serialized, flag_alone, flag_fields, other_flag, flags_alone, flags_fields, fields, no_further_field, one_field, field_of}
use Rattle.obq_grammar.specs.Follow.{Anything, EndsSuffixed, EndsLevel, EndsExpr, EndsNames, EndsArgs, EndsItem, EndsBlock, EndsElsifs, EndsGuards}
use Rattle.obq_grammar.proofs.Theory.{Agrees, Agrees2, shut, node1, node2, node3, pair_node, pair_first, beside, lead}
use Rattle.obq_grammar.proofs.Sets.{item_args, item_expr, item_names, item_not_block, continues_on, one_operator}
use Rattle.obq_grammar.proofs.Firsts.{first_suffixed, first_expr, first_args, first_item, first_binds, first_names, first_fields, before_more, before_binds, before_args, before_fields, before_links, before_elsifs, before_guards, first_else, else_guards, first_try}
use Rattle.obq_grammar.proofs.Chains.{Alone, assigned, kinds, Met, try_node, links_node, chain_node, ended_chain, longer_by, met_first, met_more, alone_index, fields_node, items_node, field_item, item_field, field_plain, item_plain, plain_field, plain_item, name_field, name_item, Chains, Goes, Tries, not_meth, on, back}

-- IsBlock
same_empty : {x : List Token} → (EndsBlock (next x)) → Agrees IsBlock EndsBlock (block [] (place x)) x x
same_empty h _ rest empty k = (refl, refl)
same_empty {x = x} h _ rest (items q1 q2) k = absurd (item_not_block (next x) (first_item q1) h)

same_items : {i : Item} {is : List Item} {x y r : List Token} → (IsItem i x y) → (Agrees IsItem EndsItem i x y) → (Agrees IsMore EndsBlock is y r) → Agrees IsBlock EndsBlock (block (i ∷ is) (place x)) x r
same_items {x = x} p1 f1 f2 _ rest empty k = absurd (item_not_block (next x) (first_item p1) k)
same_items {x = x} p1 f1 f2 _ rest (items q1 q2) k = node2 IsMore (λ i is. block (i ∷ is) (place x)) (f1 _ _ q1 (before_more q2 k)) q2 (λ m. f2 _ _ m k)

-- IsMore
same_no_more : {x : List Token} → (EndsBlock (next x)) → Agrees IsMore EndsBlock [] x x
same_no_more h _ rest no_more k = (refl, refl)
same_no_more h _ rest semicolon k = absurd h
same_no_more h _ rest (more q1 q2) k = absurd h

same_semicolon : {p : ℕ} {x : List Token} → (EndsBlock (next x)) → Agrees IsMore EndsBlock [] (token sym_semicolon p ∷ x) x
same_semicolon h _ rest no_more k = absurd k
same_semicolon h _ rest semicolon k = (refl, refl)
same_semicolon {x = x} h _ rest (more q1 q2) k = absurd (item_not_block (next x) (first_item q1) h)

same_more : {i : Item} {is : List Item} {p : ℕ} {x y r : List Token} → (IsItem i x y) → (Agrees IsItem EndsItem i x y) → (Agrees IsMore EndsBlock is y r) → Agrees IsMore EndsBlock (i ∷ is) (token sym_semicolon p ∷ x) r
same_more p1 f1 f2 _ rest no_more k = absurd k
same_more {x = x} p1 f1 f2 _ rest semicolon k = absurd (item_not_block (next x) (first_item p1) k)
same_more p1 f1 f2 _ rest (more q1 q2) k = node2 IsMore (λ i is. i ∷ is) (f1 _ _ q1 (before_more q2 k)) q2 (λ m. f2 _ _ m k)

-- IsLet
same_let_binds : {p : ℕ} {bs : List Bind} {x r : List Token} → (IsBinds bs x r) → (Agrees IsBinds EndsArgs bs x r) → Agrees (IsLet p) EndsItem (i.Let bs p) x r
same_let_binds {p = p} p1 f1 _ rest (let_binds q1) k = node1 (λ bs. i.Let bs p) (f1 _ _ q1 (item_args (next rest) k))
same_let_binds p1 f1 _ rest (let_rec q1) k = absurd (first_binds p1)

same_let_rec : {p : ℕ} {bs : List RecBind} {q : ℕ} {x r : List Token} → (Agrees IsRecBinds EndsNames bs x r) → Agrees (IsLet p) EndsItem (i.LetRec bs p) (token kw_rec q ∷ x) r
same_let_rec f1 _ rest (let_binds q1) k = absurd (first_binds q1)
same_let_rec {p = p} f1 _ rest (let_rec q1) k = node1 (λ bs. i.LetRec bs p) (f1 _ _ q1 (item_names (next rest) k))

-- IsBinds
same_binds : {b : Bind} {bs : List Bind} {x y r : List Token} → (Agrees IsBind EndsExpr b x y) → (Agrees IsMoreBinds EndsArgs bs y r) → Agrees IsBinds EndsArgs (b ∷ bs) x r
same_binds f1 f2 _ rest (binds q1 q2) k = node2 IsMoreBinds (λ b bs. b ∷ bs) (f1 _ _ q1 (before_binds q2 k)) q2 (λ m. f2 _ _ m k)

-- IsMoreBinds
same_no_bind : {x : List Token} → (EndsArgs (next x)) → Agrees IsMoreBinds EndsArgs [] x x
same_no_bind h _ rest no_bind k = (refl, refl)
same_no_bind h _ rest (one_bind q1 q2) k = absurd h

same_one_bind : {b : Bind} {bs : List Bind} {p : ℕ} {x y r : List Token} → (Agrees IsBind EndsExpr b x y) → (Agrees IsMoreBinds EndsArgs bs y r) → Agrees IsMoreBinds EndsArgs (b ∷ bs) (token sym_comma p ∷ x) r
same_one_bind f1 f2 _ rest no_bind k = absurd k
same_one_bind f1 f2 _ rest (one_bind q1 q2) k = node2 IsMoreBinds (λ b bs. b ∷ bs) (f1 _ _ q1 (before_binds q2 k)) q2 (λ m. f2 _ _ m k)

-- IsBind
same_bind_of : {n : List ℕ} {v : Expr} {p q : ℕ} {x r : List Token} → (Agrees IsExpr EndsExpr v x r) → Agrees IsBind EndsExpr (bind n v p) (token (k.Name n) p ∷ token sym_equals q ∷ x) r
same_bind_of {n = n} {p = p} f1 _ rest (bind_of q1) k = node1 (λ v. bind n v p) (f1 _ _ q1 k)

-- IsRecBinds
same_rec_binds : {b : RecBind} {bs : List RecBind} {x y r : List Token} → (Agrees IsRecBind Anything b x y) → (Agrees IsMoreRecBinds EndsNames bs y r) → Agrees IsRecBinds EndsNames (b ∷ bs) x r
same_rec_binds f1 f2 _ rest (rec_binds q1 q2) k = node2 IsMoreRecBinds (λ b bs. b ∷ bs) (f1 _ _ q1 tt) q2 (λ m. f2 _ _ m k)

-- IsMoreRecBinds
same_no_rec_bind : {x : List Token} → (EndsNames (next x)) → Agrees IsMoreRecBinds EndsNames [] x x
same_no_rec_bind h _ rest no_rec_bind k = (refl, refl)
same_no_rec_bind h _ rest (one_rec_bind q1 q2) k = absurd h

same_one_rec_bind : {b : RecBind} {bs : List RecBind} {p : ℕ} {x y r : List Token} → (Agrees IsRecBind Anything b x y) → (Agrees IsMoreRecBinds EndsNames bs y r) → Agrees IsMoreRecBinds EndsNames (b ∷ bs) (token sym_comma p ∷ x) r
same_one_rec_bind f1 f2 _ rest no_rec_bind k = absurd k
same_one_rec_bind f1 f2 _ rest (one_rec_bind q1 q2) k = node2 IsMoreRecBinds (λ b bs. b ∷ bs) (f1 _ _ q1 tt) q2 (λ m. f2 _ _ m k)

-- IsRecBind
same_rec_bind_of : {n : List ℕ} {f : Proc} {p q : ℕ} {x r : List Token} → (Agrees IsProc Anything f x r) → Agrees IsRecBind Anything (rec_bind n f p) (token (k.Name n) p ∷ token sym_equals q ∷ x) r
same_rec_bind_of {n = n} {p = p} f1 _ rest (rec_bind_of q1) k = node1 (λ f. rec_bind n f p) (f1 _ _ q1 tt)

-- IsFieldBody
same_value : {v : Expr} {x r : List Token} → (IsExpr v x r) → (Agrees IsExpr EndsExpr v x r) → Agrees IsFieldBody EndsExpr (b.Value v) x r
same_value p1 f1 _ rest (value q1) k = node1 (λ v. b.Value v) (f1 _ _ q1 k)
same_value p1 f1 _ rest (method (meth a b)) k = absurd (first_expr p1)
same_value p1 f1 _ rest (alias q1) k = absurd (first_expr p1)

same_method : {m : Proc} {x r : List Token} → (IsMeth m x r) → (Agrees IsMeth Anything m x r) → Agrees IsFieldBody EndsExpr (b.Method m) x r
same_method p1 f1 _ rest (value q1) k = absurd (not_meth p1 q1)
same_method p1 f1 _ rest (method q1) k = node1 (λ m. b.Method m) (f1 _ _ q1 tt)
same_method p1 f1 _ rest (alias q1) k = elim p1 [ ]

same_alias : {n : List ℕ} {v : Expr} {p q t u : ℕ} {x r : List Token} → (Agrees IsExpr EndsExpr v x (token kw_end u ∷ r)) → Agrees IsFieldBody EndsExpr (b.Alias n v p) (token kw_alias p ∷ token (k.Name n) q ∷ token kw_of t ∷ x) r
same_alias f1 _ rest (value q1) k = absurd (first_expr q1)
same_alias f1 _ rest (method q1) k = elim q1 [ ]
same_alias {n = n} {p = p} f1 _ rest (alias q1) k = node1 (λ v. b.Alias n v p) (shut (f1 _ _ q1 tt))

-- IsMeth
same_meth : {ns : List (List ℕ)} {b : Block} {p q t u : ℕ} {x y r : List Token} → (Agrees IsNames EndsNames ns x (token sym_close t ∷ y)) → (Agrees IsBlock EndsBlock b y (token kw_end u ∷ r)) → Agrees IsMeth Anything (procedure ns b p) (token kw_meth p ∷ token sym_open q ∷ x) r
same_meth {p = p} f1 f2 _ rest (meth q1 q2) k = shut (node2 IsBlock (λ ns b. procedure ns b p) (shut (f1 _ _ q1 tt)) q2 (λ m. f2 _ _ m tt))

-- IsProc
same_proc : {ns : List (List ℕ)} {b : Block} {p q t : ℕ} {x y r : List Token} → (Agrees IsParameters Anything ns x y) → (Agrees IsBlock EndsBlock b y (token kw_end t ∷ r)) → Agrees IsProc Anything (procedure ns b p) (token kw_proc p ∷ token sym_open q ∷ x) r
same_proc {p = p} f1 f2 _ rest (proc q1 q2) k = shut (node2 IsBlock (λ ns b. procedure ns b p) (f1 _ _ q1 tt) q2 (λ m. f2 _ _ m tt))

-- IsParameters
same_no_parameter : {p : ℕ} {r : List Token} → Agrees IsParameters Anything [] (token sym_close p ∷ r) r
same_no_parameter _ rest no_parameter k = (refl, refl)
same_no_parameter _ rest (parameters q1) k = absurd (first_names q1)

same_parameters : {ns : List (List ℕ)} {p : ℕ} {x r : List Token} → (IsNames ns x (token sym_close p ∷ r)) → (Agrees IsNames EndsNames ns x (token sym_close p ∷ r)) → Agrees IsParameters Anything ns x r
same_parameters p1 f1 _ rest no_parameter k = absurd (first_names p1)
same_parameters p1 f1 _ rest (parameters q1) k = shut (f1 _ _ q1 tt)

-- IsNames
same_names : {n : List ℕ} {ns : List (List ℕ)} {p : ℕ} {x r : List Token} → (Agrees IsMoreNames EndsNames ns x r) → Agrees IsNames EndsNames (n ∷ ns) (token (k.Name n) p ∷ x) r
same_names {n = n} f1 _ rest (names q1) k = node1 (λ ns. n ∷ ns) (f1 _ _ q1 k)

-- IsMoreNames
same_no_name : {x : List Token} → (EndsNames (next x)) → Agrees IsMoreNames EndsNames [] x x
same_no_name h _ rest no_name k = (refl, refl)
same_no_name h _ rest (one_name q1) k = absurd h

same_one_name : {n : List ℕ} {ns : List (List ℕ)} {p q : ℕ} {x r : List Token} → (Agrees IsMoreNames EndsNames ns x r) → Agrees IsMoreNames EndsNames (n ∷ ns) (token sym_comma p ∷ token (k.Name n) q ∷ x) r
same_one_name f1 _ rest no_name k = absurd k
same_one_name {n = n} f1 _ rest (one_name q1) k = node1 (λ ns. n ∷ ns) (f1 _ _ q1 k)

-- IsExpr
same_expr : {v : Expr} {x r : List Token} → (Agrees (IsLevel 5) (EndsLevel 5) v x r) → Agrees IsExpr EndsExpr v x r
same_expr f1 _ rest (expr q1) k = f1 _ _ q1 k

-- IsLevel
same_operand : {h : Expr} {ss : List Suffix} {x r : List Token} → (Chains h ss x r) → (EndsSuffixed (next r)) → Agrees (IsLevel zero) (EndsLevel zero) (suffixed h ss) x r
same_operand f1 h _ rest (operand q1) k = pair_node (λ h ss. suffixed h ss) (ended_chain (f1 _ _ _ q1) h k)

same_level : {l : ℕ} {a : Expr} {ls : List Link} {x y r : List Token} → (Agrees (IsLevel l) (EndsLevel l) a x y) → (Agrees (IsLinks l) (EndsLevel (suc l)) ls y r) → Agrees (IsLevel (suc l)) (EndsLevel (suc l)) (chained a ls) x r
same_level {l = l} f1 f2 _ rest (level q1 q2) k = node2 (IsLinks l) (λ a ls. chained a ls) (f1 _ _ q1 (before_links q2 k)) q2 (λ m. f2 _ _ m k)

-- IsLinks
same_no_link : {l : ℕ} {x : List Token} → (EndsLevel (suc l) (next x)) → Agrees (IsLinks l) (EndsLevel (suc l)) [] x x
same_no_link h _ rest no_link k = (refl, refl)
same_no_link h _ rest (one_link q1 q2 q3) k = absurd (continues_on q1 h)

same_one_link : {l : ℕ} {kind : TokenKind} {f : Operator} {a : Expr} {ls : List Link} {p : ℕ} {x y r : List Token} → (Operates l kind f) → (Agrees (IsLevel l) (EndsLevel l) a x y) → (Agrees (IsLinks l) (EndsLevel (suc l)) ls y r) → Agrees (IsLinks l) (EndsLevel (suc l)) (link f a p ∷ ls) (token kind p ∷ x) r
same_one_link p1 f2 f3 _ rest no_link k = absurd (continues_on p1 k)
same_one_link p1 f2 f3 _ rest (one_link q1 q2 q3) k = links_node (one_operator p1 q1) (f2 _ _ q2 (before_links q3 k)) q3 (λ m. f3 _ _ m k)

-- IsSuffix
same_apply : {vs : List Expr} {p : ℕ} {x r : List Token} → (Agrees IsCall Anything vs x r) → Agrees IsSuffix Anything (s.Apply vs p) (token sym_open p ∷ x) r
same_apply {p = p} f1 _ rest (apply q1) k = node1 (λ vs. s.Apply vs p) (f1 _ _ q1 tt)

same_dotted : {n : List ℕ} {f : Suffix} {p q : ℕ} {x r : List Token} → (Agrees (IsDotted n p) Anything f x r) → Agrees IsSuffix Anything f (token sym_dot p ∷ token (k.Name n) q ∷ x) r
same_dotted f1 _ rest (dotted q1) k = f1 _ _ q1 tt

same_index : {v : Expr} {p q : ℕ} {x r : List Token} → (Agrees IsExpr EndsExpr v x (token sym_close_bracket q ∷ r)) → Agrees IsSuffix Anything (s.Index v p) (token sym_open_bracket p ∷ x) r
same_index {p = p} f1 _ rest (index q1) k = node1 (λ v. s.Index v p) (shut (f1 _ _ q1 tt))

-- IsDotted
same_select : {n : List ℕ} {p : ℕ} {x : List Token} → (IsNoOpen (next x)) → Agrees (IsDotted n p) Anything (s.Select n p) x x
same_select p1 _ rest (select q1) k = (refl, refl)
same_select p1 _ rest (invoke q1) k = absurd (p1 refl)

same_invoke : {n : List ℕ} {p : ℕ} {vs : List Expr} {q : ℕ} {x r : List Token} → (Agrees IsCall Anything vs x r) → Agrees (IsDotted n p) Anything (s.Invoke n vs p) (token sym_open q ∷ x) r
same_invoke f1 _ rest (select q1) k = absurd (q1 refl)
same_invoke {n = n} {p = p} f1 _ rest (invoke q1) k = node1 (λ vs. s.Invoke n vs p) (f1 _ _ q1 tt)

-- IsCall
same_no_argument : {p : ℕ} {r : List Token} → Agrees IsCall Anything [] (token sym_close p ∷ r) r
same_no_argument _ rest no_argument k = (refl, refl)
same_no_argument _ rest (arguments q1) k = absurd (first_args q1)

same_arguments : {vs : List Expr} {p : ℕ} {x r : List Token} → (IsArgs vs x (token sym_close p ∷ r)) → (Agrees IsArgs EndsArgs vs x (token sym_close p ∷ r)) → Agrees IsCall Anything vs x r
same_arguments p1 f1 _ rest no_argument k = absurd (first_args p1)
same_arguments p1 f1 _ rest (arguments q1) k = shut (f1 _ _ q1 tt)

-- IsArgs
same_args : {v : Expr} {vs : List Expr} {x y r : List Token} → (Agrees IsExpr EndsExpr v x y) → (Agrees IsMoreArgs EndsArgs vs y r) → Agrees IsArgs EndsArgs (v ∷ vs) x r
same_args f1 f2 _ rest (args q1 q2) k = node2 IsMoreArgs (λ v vs. v ∷ vs) (f1 _ _ q1 (before_args q2 k)) q2 (λ m. f2 _ _ m k)

-- IsMoreArgs
same_no_arg : {x : List Token} → (EndsArgs (next x)) → Agrees IsMoreArgs EndsArgs [] x x
same_no_arg h _ rest no_arg k = (refl, refl)
same_no_arg h _ rest (one_arg q1 q2) k = absurd h

same_one_arg : {v : Expr} {vs : List Expr} {p : ℕ} {x y r : List Token} → (Agrees IsExpr EndsExpr v x y) → (Agrees IsMoreArgs EndsArgs vs y r) → Agrees IsMoreArgs EndsArgs (v ∷ vs) (token sym_comma p ∷ x) r
same_one_arg f1 f2 _ rest no_arg k = absurd k
same_one_arg f1 f2 _ rest (one_arg q1 q2) k = node2 IsMoreArgs (λ v vs. v ∷ vs) (f1 _ _ q1 (before_args q2 k)) q2 (λ m. f2 _ _ m k)

-- IsPrim
same_int : {z : ℤ} {p : ℕ} {r : List Token} → Agrees IsPrim Anything (e.Int z p) (token (k.Int z) p ∷ r) r
same_int _ rest int k = (refl, refl)
same_int _ rest (proc_of q1) k = elim q1 [ ]

same_text : {t : List ℕ} {p : ℕ} {r : List Token} → Agrees IsPrim Anything (e.Str t p) (token (k.Text t) p ∷ r) r
same_text _ rest text k = (refl, refl)
same_text _ rest (proc_of q1) k = elim q1 [ ]

same_true_ : {p : ℕ} {r : List Token} → Agrees IsPrim Anything (e.Truth true p) (token kw_true p ∷ r) r
same_true_ _ rest true_ k = (refl, refl)
same_true_ _ rest (proc_of q1) k = elim q1 [ ]

same_false_ : {p : ℕ} {r : List Token} → Agrees IsPrim Anything (e.Truth false p) (token kw_false p ∷ r) r
same_false_ _ rest false_ k = (refl, refl)
same_false_ _ rest (proc_of q1) k = elim q1 [ ]

same_ok : {p : ℕ} {r : List Token} → Agrees IsPrim Anything (e.Okay p) (token kw_ok p ∷ r) r
same_ok _ rest ok k = (refl, refl)
same_ok _ rest (proc_of q1) k = elim q1 [ ]

same_name : {n : List ℕ} {p : ℕ} {r : List Token} → Agrees IsPrim Anything (e.Use n p) (token (k.Name n) p ∷ r) r
same_name _ rest name k = (refl, refl)
same_name _ rest (proc_of q1) k = elim q1 [ ]

same_proc_of : {f : Proc} {x r : List Token} → (IsProc f x r) → (Agrees IsProc Anything f x r) → Agrees IsPrim Anything (e.Procedure f) x r
same_proc_of p1 f1 _ rest int k = elim p1 [ ]
same_proc_of p1 f1 _ rest text k = elim p1 [ ]
same_proc_of p1 f1 _ rest true_ k = elim p1 [ ]
same_proc_of p1 f1 _ rest false_ k = elim p1 [ ]
same_proc_of p1 f1 _ rest ok k = elim p1 [ ]
same_proc_of p1 f1 _ rest name k = elim p1 [ ]
same_proc_of p1 f1 _ rest (proc_of q1) k = node1 (λ f. e.Procedure f) (f1 _ _ q1 tt)
same_proc_of p1 f1 _ rest (paren q1) k = elim p1 [ ]
same_proc_of p1 f1 _ rest (array q1) k = elim p1 [ ]
same_proc_of p1 f1 _ rest (object q1) k = elim p1 [ ]
same_proc_of p1 f1 _ rest (if_ q1 q2 q3) k = elim p1 [ ]
same_proc_of p1 f1 _ rest (loop_ q1) k = elim p1 [ ]
same_proc_of p1 f1 _ rest exit k = elim p1 [ ]
same_proc_of p1 f1 _ rest (for q1 q2 q3) k = elim p1 [ ]
same_proc_of p1 f1 _ rest (foreach q1 q2) k = elim p1 [ ]
same_proc_of p1 f1 _ rest (try q1 q2) k = elim p1 [ ]
same_proc_of p1 f1 _ rest (raise q1) k = elim p1 [ ]
same_proc_of p1 f1 _ rest (watch q1 q2) k = elim p1 [ ]
same_proc_of p1 f1 _ rest (redirect q1 q2) k = elim p1 [ ]
same_proc_of p1 f1 _ rest (clone q1) k = elim p1 [ ]

same_paren : {v : Expr} {p q : ℕ} {x r : List Token} → (Agrees IsExpr EndsExpr v x (token sym_close q ∷ r)) → Agrees IsPrim Anything v (token sym_open p ∷ x) r
same_paren f1 _ rest (proc_of q1) k = elim q1 [ ]
same_paren f1 _ rest (paren q1) k = shut (f1 _ _ q1 tt)

same_array : {vs : List Expr} {p : ℕ} {x r : List Token} → (Agrees IsArray Anything vs x r) → Agrees IsPrim Anything (e.Array vs p) (token sym_open_bracket p ∷ x) r
same_array f1 _ rest (proc_of q1) k = elim q1 [ ]
same_array {p = p} f1 _ rest (array q1) k = node1 (λ vs. e.Array vs p) (f1 _ _ q1 tt)

same_object : {f : Flags} {fs : List Field} {p : ℕ} {x r : List Token} → (Agrees2 IsObject f fs x r) → Agrees IsPrim Anything (e.Object f fs p) (token sym_open_brace p ∷ x) r
same_object f1 _ rest (proc_of q1) k = elim q1 [ ]
same_object {p = p} f1 _ rest (object q1) k = pair_node (λ f fs. e.Object f fs p) (f1 _ _ _ q1)

same_if_ : {a : Arm} {ms : List Arm} {l : Option Block} {p : ℕ} {x y z r : List Token} → (Agrees IsArm EndsBlock a x y) → (Agrees IsElsifs EndsElsifs ms y z) → (Agrees IsElse Anything l z r) → Agrees IsPrim Anything (e.If (a ∷ ms) l p) (token kw_if p ∷ x) r
same_if_ f1 f2 f3 _ rest (proc_of q1) k = elim q1 [ ]
same_if_ {p = p} f1 f2 f3 _ rest (if_ q1 q2 q3) k = node3 IsElsifs IsElse (λ a ms l. e.If (a ∷ ms) l p) (f1 _ _ q1 (before_elsifs q2 (first_else q3))) q2 (λ m. f2 _ _ m (first_else q3)) q3 (λ m. f3 _ _ m tt)

same_loop_ : {b : Block} {p q : ℕ} {x r : List Token} → (Agrees IsBlock EndsBlock b x (token kw_end q ∷ r)) → Agrees IsPrim Anything (e.Loop b p) (token kw_loop p ∷ x) r
same_loop_ f1 _ rest (proc_of q1) k = elim q1 [ ]
same_loop_ {p = p} f1 _ rest (loop_ q1) k = node1 (λ b. e.Loop b p) (shut (f1 _ _ q1 tt))

same_exit : {p : ℕ} {r : List Token} → Agrees IsPrim Anything (e.Exit p) (token kw_exit p ∷ r) r
same_exit _ rest (proc_of q1) k = elim q1 [ ]
same_exit _ rest exit k = (refl, refl)

same_for : {n : List ℕ} {v w : Expr} {b : Block} {p q t u c d : ℕ} {x y z r : List Token} → (Agrees IsExpr EndsExpr v x (token kw_to u ∷ y)) → (Agrees IsExpr EndsExpr w y (token kw_do c ∷ z)) → (Agrees IsBlock EndsBlock b z (token kw_end d ∷ r)) → Agrees IsPrim Anything (e.For n v w b p) (token kw_for p ∷ token (k.Name n) q ∷ token sym_equals t ∷ x) r
same_for f1 f2 f3 _ rest (proc_of q1) k = elim q1 [ ]
same_for {n = n} {p = p} f1 f2 f3 _ rest (for q1 q2 q3) k = shut (node3 IsExpr IsBlock (λ v w b. e.For n v w b p) (shut (f1 _ _ q1 tt)) q2 (λ m. shut (f2 _ _ m tt)) q3 (λ m. f3 _ _ m tt))

same_foreach : {n : List ℕ} {v : Expr} {b : Block} {p q t u c : ℕ} {x y r : List Token} → (Agrees IsExpr EndsExpr v x (token kw_do u ∷ y)) → (Agrees IsBlock EndsBlock b y (token kw_end c ∷ r)) → Agrees IsPrim Anything (e.Foreach n v b p) (token kw_foreach p ∷ token (k.Name n) q ∷ token kw_in t ∷ x) r
same_foreach f1 f2 _ rest (proc_of q1) k = elim q1 [ ]
same_foreach {n = n} {p = p} f1 f2 _ rest (foreach q1 q2) k = shut (node2 IsBlock (λ v b. e.Foreach n v b p) (shut (f1 _ _ q1 tt)) q2 (λ m. f2 _ _ m tt))

same_try : {b : Block} {v : Expr} {p : ℕ} {x y r : List Token} → (Agrees IsBlock EndsBlock b x y) → (Tries p b v y r) → Agrees IsPrim Anything v (token kw_try p ∷ x) r
same_try f1 f2 _ rest (proc_of q1) k = elim q1 [ ]
same_try f1 f2 _ rest (try q1 q2) k = try_node (f1 _ _ q1 (first_try q2)) q2 (λ e m. f2 _ _ _ e m)

same_raise : {v : Expr} {p q t : ℕ} {x r : List Token} → (Agrees IsExpr EndsExpr v x (token sym_close t ∷ r)) → Agrees IsPrim Anything (e.Raise v p) (token kw_raise p ∷ token sym_open q ∷ x) r
same_raise f1 _ rest (proc_of q1) k = elim q1 [ ]
same_raise {p = p} f1 _ rest (raise q1) k = node1 (λ v. e.Raise v p) (shut (f1 _ _ q1 tt))

same_watch : {v w : Expr} {p q t : ℕ} {x y r : List Token} → (Agrees IsExpr EndsExpr v x (token kw_until q ∷ y)) → (Agrees IsExpr EndsExpr w y (token kw_end t ∷ r)) → Agrees IsPrim Anything (e.Watch v w p) (token kw_watch p ∷ x) r
same_watch f1 f2 _ rest (proc_of q1) k = elim q1 [ ]
same_watch {p = p} f1 f2 _ rest (watch q1 q2) k = shut (node2 IsExpr (λ v w. e.Watch v w p) (shut (f1 _ _ q1 tt)) q2 (λ m. f2 _ _ m tt))

same_redirect : {v w : Expr} {p q t : ℕ} {x y r : List Token} → (Agrees IsExpr EndsExpr v x (token kw_to q ∷ y)) → (Agrees IsExpr EndsExpr w y (token kw_end t ∷ r)) → Agrees IsPrim Anything (e.Redirect v w p) (token kw_redirect p ∷ x) r
same_redirect f1 f2 _ rest (proc_of q1) k = elim q1 [ ]
same_redirect {p = p} f1 f2 _ rest (redirect q1 q2) k = shut (node2 IsExpr (λ v w. e.Redirect v w p) (shut (f1 _ _ q1 tt)) q2 (λ m. f2 _ _ m tt))

same_clone : {vs : List Expr} {p q t : ℕ} {x r : List Token} → (Agrees IsArgs EndsArgs vs x (token sym_close t ∷ r)) → Agrees IsPrim Anything (e.Clone vs p) (token kw_clone p ∷ token sym_open q ∷ x) r
same_clone f1 _ rest (proc_of q1) k = elim q1 [ ]
same_clone {p = p} f1 _ rest (clone q1) k = node1 (λ vs. e.Clone vs p) (shut (f1 _ _ q1 tt))

-- IsArray
same_no_element : {p : ℕ} {r : List Token} → Agrees IsArray Anything [] (token sym_close_bracket p ∷ r) r
same_no_element _ rest no_element k = (refl, refl)
same_no_element _ rest (elements q1) k = absurd (first_args q1)

same_elements : {vs : List Expr} {p : ℕ} {x r : List Token} → (IsArgs vs x (token sym_close_bracket p ∷ r)) → (Agrees IsArgs EndsArgs vs x (token sym_close_bracket p ∷ r)) → Agrees IsArray Anything vs x r
same_elements p1 f1 _ rest no_element k = absurd (first_args p1)
same_elements p1 f1 _ rest (elements q1) k = shut (f1 _ _ q1 tt)

-- IsArm
same_arm_of : {v : Expr} {b : Block} {p : ℕ} {x y r : List Token} → (Agrees IsExpr EndsExpr v x (token kw_then p ∷ y)) → (Agrees IsBlock EndsBlock b y r) → Agrees IsArm EndsBlock (arm v b) x r
same_arm_of f1 f2 _ rest (arm_of q1 q2) k = node2 IsBlock (λ v b. arm v b) (shut (f1 _ _ q1 tt)) q2 (λ m. f2 _ _ m k)

-- IsElsifs
same_no_elsif : {x : List Token} → (EndsElsifs (next x)) → Agrees IsElsifs EndsElsifs [] x x
same_no_elsif h _ rest no_elsif k = (refl, refl)
same_no_elsif h _ rest (one_elsif q1 q2) k = absurd h

same_one_elsif : {a : Arm} {ms : List Arm} {p : ℕ} {x y r : List Token} → (Agrees IsArm EndsBlock a x y) → (Agrees IsElsifs EndsElsifs ms y r) → Agrees IsElsifs EndsElsifs (a ∷ ms) (token kw_elsif p ∷ x) r
same_one_elsif f1 f2 _ rest no_elsif k = absurd k
same_one_elsif f1 f2 _ rest (one_elsif q1 q2) k = node2 IsElsifs (λ a ms. a ∷ ms) (f1 _ _ q1 (before_elsifs q2 k)) q2 (λ m. f2 _ _ m k)

-- IsElse
same_no_else : {p : ℕ} {r : List Token} → Agrees IsElse Anything None (token kw_end p ∷ r) r
same_no_else _ rest no_else k = (refl, refl)

same_else_ : {b : Block} {p q : ℕ} {x r : List Token} → (Agrees IsBlock EndsBlock b x (token kw_end q ∷ r)) → Agrees IsElse Anything (Some b) (token kw_else p ∷ x) r
same_else_ f1 _ rest (else_ q1) k = node1 (λ b. Some b) (shut (f1 _ _ q1 tt))

-- IsTry
same_finally : {p : ℕ} {b l : Block} {q t : ℕ} {x r : List Token} → (Agrees IsBlock EndsBlock l x (token kw_end t ∷ r)) → Tries p b (e.Finally b l p) (token kw_finally q ∷ x) r
same_finally {p = p} f1 _ _ rest same (finally q1) = lead (λ b l. e.Finally b l p) same (shut (f1 _ _ q1 tt))

same_excepts : {p : ℕ} {b : Block} {a : Arm} {ms : List Arm} {l : Option Block} {q : ℕ} {x y z r : List Token} → (Agrees IsGuard EndsBlock a x y) → (Agrees IsGuards EndsGuards ms y z) → (Agrees IsElse Anything l z r) → Tries p b (e.Try b (a ∷ ms) l p) (token kw_except q ∷ x) r
same_excepts {p = p} f1 f2 f3 _ _ rest same (excepts q1 q2 q3) = lead (λ b (t : List Arm × Option Block). e.Try b t.0 t.1 p) same (node3 IsGuards IsElse (λ a ms l. (a ∷ ms, l)) (f1 _ _ q1 (before_guards q2 (else_guards q3))) q2 (λ m. f2 _ _ m (else_guards q3)) q3 (λ m. f3 _ _ m tt))

-- IsGuard
same_guard_of : {v : Expr} {b : Block} {p : ℕ} {x y r : List Token} → (Agrees IsExpr EndsExpr v x (token sym_arrow p ∷ y)) → (Agrees IsBlock EndsBlock b y r) → Agrees IsGuard EndsBlock (arm v b) x r
same_guard_of f1 f2 _ rest (guard_of q1 q2) k = node2 IsBlock (λ v b. arm v b) (shut (f1 _ _ q1 tt)) q2 (λ m. f2 _ _ m k)

-- IsGuards
same_no_guard : {x : List Token} → (EndsGuards (next x)) → Agrees IsGuards EndsGuards [] x x
same_no_guard h _ rest no_guard k = (refl, refl)
same_no_guard h _ rest (one_guard q1 q2) k = absurd h

same_one_guard : {a : Arm} {ms : List Arm} {p : ℕ} {x y r : List Token} → (Agrees IsGuard EndsBlock a x y) → (Agrees IsGuards EndsGuards ms y r) → Agrees IsGuards EndsGuards (a ∷ ms) (token kw_except p ∷ x) r
same_one_guard f1 f2 _ rest no_guard k = absurd k
same_one_guard f1 f2 _ rest (one_guard q1 q2) k = node2 IsGuards (λ a ms. a ∷ ms) (f1 _ _ q1 (before_guards q2 k)) q2 (λ m. f2 _ _ m k)

-- IsObject
same_no_field : {p : ℕ} {r : List Token} → Agrees2 IsObject (flags false false) [] (token sym_close_brace p ∷ r) r
same_no_field _ _ rest no_field = (refl, refl, refl)
same_no_field _ _ rest (unflagged q1) = absurd (first_fields q1)

same_unflagged : {fs : List Field} {p : ℕ} {x r : List Token} → (IsFields fs x (token sym_close_brace p ∷ r)) → (Agrees IsFields EndsArgs fs x (token sym_close_brace p ∷ r)) → Agrees2 IsObject (flags false false) fs x r
same_unflagged p1 f1 _ _ rest no_field = absurd (first_fields p1)
same_unflagged p1 f1 _ _ rest (unflagged q1) = beside (flags false false) (shut (f1 _ _ q1 tt))
same_unflagged p1 f1 _ _ rest (protected q1) = absurd (first_fields p1)
same_unflagged p1 f1 _ _ rest (serialized q1) = absurd (first_fields p1)

same_protected : {other : Bool} {fs : List Field} {p : ℕ} {x r : List Token} → (Agrees2 (IsFlagged row_serialized) other fs x r) → Agrees2 IsObject (flags true other) fs (token kw_protected p ∷ x) r
same_protected f1 _ _ rest (unflagged q1) = absurd (first_fields q1)
same_protected f1 _ _ rest (protected q1) = pair_first (λ other. flags true other) (f1 _ _ _ q1)

same_serialized : {other : Bool} {fs : List Field} {p : ℕ} {x r : List Token} → (Agrees2 (IsFlagged row_protected) other fs x r) → Agrees2 IsObject (flags other true) fs (token kw_serialized p ∷ x) r
same_serialized f1 _ _ rest (unflagged q1) = absurd (first_fields q1)
same_serialized f1 _ _ rest (serialized q1) = pair_first (λ other. flags other true) (f1 _ _ _ q1)

-- IsFlagged
same_flag_alone : {p : ℕ} {r : List Token} {col : ℕ} → Agrees2 (IsFlagged col) false [] (token sym_close_brace p ∷ r) r
same_flag_alone _ _ rest flag_alone = (refl, refl, refl)

same_flag_fields : {fs : List Field} {p q : ℕ} {x r : List Token} {col : ℕ} → (IsFields fs x (token sym_close_brace q ∷ r)) → (Agrees IsFields EndsArgs fs x (token sym_close_brace q ∷ r)) → Agrees2 (IsFlagged col) false fs (token sym_comma p ∷ x) r
same_flag_fields p1 f1 _ _ rest (flag_fields q1) = beside false (shut (f1 _ _ q1 tt))
same_flag_fields p1 f1 _ _ rest (other_flag q1) = absurd (first_fields p1)

same_other_flag : {row : ℕ} {fs : List Field} {p q : ℕ} {x r : List Token} {col : ℕ} → (Agrees IsBothFlags Anything fs x r) → Agrees2 (IsFlagged col) true fs (token sym_comma p ∷ token (k.Keyword row) q ∷ x) r
same_other_flag f1 _ _ rest (flag_fields q1) = absurd (first_fields q1)
same_other_flag f1 _ _ rest (other_flag q1) = beside true (f1 _ _ q1 tt)

-- IsBothFlags
same_flags_alone : {p : ℕ} {r : List Token} → Agrees IsBothFlags Anything [] (token sym_close_brace p ∷ r) r
same_flags_alone _ rest flags_alone k = (refl, refl)

same_flags_fields : {fs : List Field} {p q : ℕ} {x r : List Token} → (Agrees IsFields EndsArgs fs x (token sym_close_brace q ∷ r)) → Agrees IsBothFlags Anything fs (token sym_comma p ∷ x) r
same_flags_fields f1 _ rest (flags_fields q1) k = shut (f1 _ _ q1 tt)

-- IsFields
same_fields : {f : Field} {fs : List Field} {x y r : List Token} → (Agrees IsField EndsExpr f x y) → (Agrees IsMoreFields EndsArgs fs y r) → Agrees IsFields EndsArgs (f ∷ fs) x r
same_fields f1 f2 _ rest (fields q1 q2) k = node2 IsMoreFields (λ f fs. f ∷ fs) (f1 _ _ q1 (before_fields q2 k)) q2 (λ m. f2 _ _ m k)

-- IsMoreFields
same_no_further_field : {x : List Token} → (EndsArgs (next x)) → Agrees IsMoreFields EndsArgs [] x x
same_no_further_field h _ rest no_further_field k = (refl, refl)
same_no_further_field h _ rest (one_field q1 q2) k = absurd h

same_one_field : {f : Field} {fs : List Field} {p : ℕ} {x y r : List Token} → (Agrees IsField EndsExpr f x y) → (Agrees IsMoreFields EndsArgs fs y r) → Agrees IsMoreFields EndsArgs (f ∷ fs) (token sym_comma p ∷ x) r
same_one_field f1 f2 _ rest no_further_field k = absurd k
same_one_field f1 f2 _ rest (one_field q1 q2) k = node2 IsMoreFields (λ f fs. f ∷ fs) (f1 _ _ q1 (before_fields q2 k)) q2 (λ m. f2 _ _ m k)

-- IsField
same_field_of : {n : List ℕ} {b : FieldExpr} {p q : ℕ} {x r : List Token} → (Agrees IsFieldBody EndsExpr b x r) → Agrees IsField EndsExpr (field n b p) (token (k.Name n) p ∷ token sym_arrow q ∷ x) r
same_field_of {n = n} {p = p} f1 _ rest (field_of q1) k = node1 (λ b. field n b p) (f1 _ _ q1 k)

-- IsSuffixed, IsSuffixes
same_chain : {h : Expr} {ss : List Suffix} {x y r : List Token} → Agrees IsPrim Anything h x y → Goes ss y r → Chains h ss x r
same_chain f1 f2 g b s (chain p q) = chain_node (f1 _ _ p tt) q (λ m. f2 _ _ m)

same_no_suffix : {x : List Token} → Goes [] x x
same_no_suffix b s m = on b refl m

same_one_suffix : {f : Suffix} {ss : List Suffix} {x y r : List Token} → IsSuffix f x y → IsSuffixes ss y r → Agrees IsSuffix Anything f x y → Goes ss y r → Alone x y → Goes (f ∷ ss) x r
same_one_suffix {f = f} {ss = ss} {y = y} p l f1 f2 n _ s no_suffix = back f ss y refl p l n
same_one_suffix p l f1 f2 n _ s (one_suffix g m) = longer_by (f1 _ _ g tt) m (λ m. f2 _ _ m)

apply_alone : {p : ℕ} {x y : List Token} → Alone (token sym_open p ∷ x) y
apply_alone v p w s e n h = absurd (kinds sym_open_bracket e tt)

dotted_alone : {p : ℕ} {x y : List Token} → Alone (token sym_dot p ∷ x) y
dotted_alone v p w s e n h = absurd (kinds sym_open_bracket e tt)

index_alone : {v : Expr} {p q : ℕ} {x y : List Token} → Agrees IsExpr EndsExpr v x (token sym_close_bracket q ∷ y) → Alone (token sym_open_bracket p ∷ x) y
index_alone f1 v p w s e n h = alone_index e n (λ m. f1 _ _ m h)

-- IsItem
same_let_ : {i : Item} {p : ℕ} {x r : List Token} → Agrees (IsLet p) EndsItem i x r → Agrees IsItem EndsItem i (token kw_let p ∷ x) r
same_let_ f1 _ s (let_ q) k = f1 _ _ q k
same_let_ f1 _ s (set_field q m) k = absurd (first_suffixed q)
same_let_ f1 _ s (set_item q m n) k = absurd (first_suffixed q)
same_let_ f1 _ s (plain q) k = absurd (first_expr q)

same_var : {bs : List Bind} {p : ℕ} {x r : List Token} → Agrees IsBinds EndsArgs bs x r → Agrees IsItem EndsItem (i.Var bs p) (token kw_var p ∷ x) r
same_var {p = p} f1 _ s (var q) k = node1 (λ bs. i.Var bs p) (f1 _ _ q (item_args (next s) k))
same_var f1 _ s (set_field q m) k = absurd (first_suffixed q)
same_var f1 _ s (set_item q m n) k = absurd (first_suffixed q)
same_var f1 _ s (plain q) k = absurd (first_expr q)

same_assign : {n : List ℕ} {v : Expr} {p q : ℕ} {x r : List Token} → Agrees IsExpr EndsExpr v x r → Agrees IsItem EndsItem (i.Assign n v p) (token (k.Name n) p ∷ token sym_assign q ∷ x) r
same_assign {n = n} {p = p} f1 _ s (assign q) k = node1 (λ v. i.Assign n v p) (f1 _ _ q (item_expr (next s) k))
same_assign f1 _ s (set_field q m) k = absurd (name_field q)
same_assign f1 _ s (set_item q m n) k = absurd (name_item q)
same_assign f1 _ s (plain q) k = absurd (assigned q k)

same_set_field : {h : Expr} {ss : List Suffix} {n : List ℕ} {b : FieldExpr} {p q t : ℕ} {x y r : List Token} → IsSuffixed h ss x (token sym_dot p ∷ token (k.Name n) q ∷ token sym_assign t ∷ y) → Chains h ss x (token sym_dot p ∷ token (k.Name n) q ∷ token sym_assign t ∷ y) → Agrees IsFieldBody EndsExpr b y r → Agrees IsItem EndsItem (i.SetField (suffixed h ss) n b (place x)) x r
same_set_field p1 f1 f2 _ s (let_ q) k = absurd (first_suffixed p1)
same_set_field p1 f1 f2 _ s (var q) k = absurd (first_suffixed p1)
same_set_field p1 f1 f2 _ s (assign q) k = absurd (name_field p1)
same_set_field p1 f1 f2 _ s (set_field q g) k = fields_node (f1 _ _ _ q) g (λ m. f2 _ _ m (item_expr (next s) k))
same_set_field p1 f1 f2 _ s (set_item q j g) k = absurd (field_item (f1 _ _ _ q) j)
same_set_field p1 f1 f2 _ s (plain e) k = absurd (field_plain e k f1)

same_set_item : {h j v : Expr} {ss : List Suffix} {p q t : ℕ} {x y z r : List Token} → IsSuffixed h ss x (token sym_open_bracket p ∷ y) → Chains h ss x (token sym_open_bracket p ∷ y) → Agrees IsExpr EndsExpr j y (token sym_close_bracket q ∷ token sym_assign t ∷ z) → Agrees IsExpr EndsExpr v z r → Agrees IsItem EndsItem (i.SetItem (suffixed h ss) j v (place x)) x r
same_set_item p1 f1 f2 f3 _ s (let_ q) k = absurd (first_suffixed p1)
same_set_item p1 f1 f2 f3 _ s (var q) k = absurd (first_suffixed p1)
same_set_item p1 f1 f2 f3 _ s (assign q) k = absurd (name_item p1)
same_set_item p1 f1 f2 f3 _ s (set_field q g) k = absurd (item_field (f1 _ _ _ q) f2)
same_set_item p1 f1 f2 f3 _ s (set_item q n m) k = items_node (f1 _ _ _ q) f2 n m (λ m. f3 _ _ m (item_expr (next s) k))
same_set_item p1 f1 f2 f3 _ s (plain e) k = absurd (item_plain e k f1 f2)

same_plain : {v : Expr} {x r : List Token} → IsExpr v x r → ((g : Expr) (b : List Suffix) (s : List Token) → IsSuffixed g b x s → Met 5 b r s) → Agrees IsExpr EndsExpr v x r → EndsItem (next r) → Agrees IsItem EndsItem (i.Plain v) x r
same_plain p1 meet f1 h _ s (let_ q) k = absurd (first_expr p1)
same_plain p1 meet f1 h _ s (var q) k = absurd (first_expr p1)
same_plain p1 meet f1 h _ s (assign q) k = absurd (assigned p1 h)
same_plain p1 meet f1 h _ s (set_field q m) k = absurd (plain_field (meet _ _ _ q) h)
same_plain p1 meet f1 h _ s (set_item q j m) k = absurd (plain_item (meet _ _ _ q) j h)
same_plain p1 meet f1 h _ s (plain q) k = node1 (λ v. i.Plain v) (f1 _ _ q (item_expr (next s) k))

met_operand : {h : Expr} {ss : List Suffix} {x r : List Token} → Chains h ss x r → (g : Expr) (b : List Suffix) (s : List Token) → IsSuffixed g b x s → Met 0 b r s
met_operand f1 g b s q = met_first (f1 g b s q)

met_level : {l : ℕ} {ls : List Link} {x y r : List Token} → ((g : Expr) (b : List Suffix) (s : List Token) → IsSuffixed g b x s → Met l b y s) → IsLinks l ls y r → (g : Expr) (b : List Suffix) (s : List Token) → IsSuffixed g b x s → Met (suc l) b r s
met_level f1 l g b s q = met_more (f1 g b s q) l

mutual
  pub unique_block : {a : Block} {x r : List Token} → IsBlock a x r → EndsBlock (next r) → Agrees IsBlock EndsBlock a x r
  unique_block empty h = same_empty h
  unique_block (items p1 p2) h = same_items p1 (unique_item p1 (before_more p2 h)) (unique_more p2 h)

  pub unique_more : {a : List Item} {x r : List Token} → IsMore a x r → EndsBlock (next r) → Agrees IsMore EndsBlock a x r
  unique_more no_more h = same_no_more h
  unique_more semicolon h = same_semicolon h
  unique_more (more p1 p2) h = same_more p1 (unique_item p1 (before_more p2 h)) (unique_more p2 h)

  pub unique_item : {a : Item} {x r : List Token} → IsItem a x r → EndsItem (next r) → Agrees IsItem EndsItem a x r
  unique_item (let_ p) h = same_let_ (unique_let p h)
  unique_item {r = r} (var p) h = same_var (unique_binds p (item_args (next r) h))
  unique_item {r = r} (assign p) h = same_assign (unique_expr p (item_expr (next r) h))
  unique_item {r = r} (set_field p f) h = same_set_field p (compare_chains p) (unique_field_body f (item_expr (next r) h))
  unique_item {r = r} (set_item p j l) h = same_set_item p (compare_chains p) (unique_expr j tt) (unique_expr l (item_expr (next r) h))
  unique_item {r = r} (plain p) h = same_plain p (meet_expr p) (unique_expr p (item_expr (next r) h)) h

  pub unique_let : {l : ℕ} {a : Item} {x r : List Token} → IsLet l a x r → EndsItem (next r) → Agrees (IsLet l) EndsItem a x r
  unique_let {r = r} (let_binds p1) h = same_let_binds p1 (unique_binds p1 (item_args (next r) h))
  unique_let {r = r} (let_rec p1) h = same_let_rec (unique_rec_binds p1 (item_names (next r) h))

  pub unique_binds : {a : List Bind} {x r : List Token} → IsBinds a x r → EndsArgs (next r) → Agrees IsBinds EndsArgs a x r
  unique_binds (binds p1 p2) h = same_binds (unique_bind p1 (before_binds p2 h)) (unique_more_binds p2 h)

  pub unique_more_binds : {a : List Bind} {x r : List Token} → IsMoreBinds a x r → EndsArgs (next r) → Agrees IsMoreBinds EndsArgs a x r
  unique_more_binds no_bind h = same_no_bind h
  unique_more_binds (one_bind p1 p2) h = same_one_bind (unique_bind p1 (before_binds p2 h)) (unique_more_binds p2 h)

  pub unique_bind : {a : Bind} {x r : List Token} → IsBind a x r → EndsExpr (next r) → Agrees IsBind EndsExpr a x r
  unique_bind (bind_of p1) h = same_bind_of (unique_expr p1 h)

  pub unique_rec_binds : {a : List RecBind} {x r : List Token} → IsRecBinds a x r → EndsNames (next r) → Agrees IsRecBinds EndsNames a x r
  unique_rec_binds (rec_binds p1 p2) h = same_rec_binds (unique_rec_bind p1) (unique_more_rec_binds p2 h)

  pub unique_more_rec_binds : {a : List RecBind} {x r : List Token} → IsMoreRecBinds a x r → EndsNames (next r) → Agrees IsMoreRecBinds EndsNames a x r
  unique_more_rec_binds no_rec_bind h = same_no_rec_bind h
  unique_more_rec_binds (one_rec_bind p1 p2) h = same_one_rec_bind (unique_rec_bind p1) (unique_more_rec_binds p2 h)

  pub unique_rec_bind : {a : RecBind} {x r : List Token} → IsRecBind a x r → Agrees IsRecBind Anything a x r
  unique_rec_bind (rec_bind_of p1) = same_rec_bind_of (unique_proc p1)

  pub unique_field_body : {a : FieldExpr} {x r : List Token} → IsFieldBody a x r → EndsExpr (next r) → Agrees IsFieldBody EndsExpr a x r
  unique_field_body (value p1) h = same_value p1 (unique_expr p1 h)
  unique_field_body (method p1) h = same_method p1 (unique_meth p1)
  unique_field_body (alias p1) h = same_alias (unique_expr p1 tt)

  pub unique_meth : {a : Proc} {x r : List Token} → IsMeth a x r → Agrees IsMeth Anything a x r
  unique_meth (meth p1 p2) = same_meth (unique_names p1 tt) (unique_block p2 tt)

  pub unique_proc : {a : Proc} {x r : List Token} → IsProc a x r → Agrees IsProc Anything a x r
  unique_proc (proc p1 p2) = same_proc (unique_parameters p1) (unique_block p2 tt)

  pub unique_parameters : {a : List (List ℕ)} {x r : List Token} → IsParameters a x r → Agrees IsParameters Anything a x r
  unique_parameters no_parameter = same_no_parameter
  unique_parameters (parameters p1) = same_parameters p1 (unique_names p1 tt)

  pub unique_names : {a : List (List ℕ)} {x r : List Token} → IsNames a x r → EndsNames (next r) → Agrees IsNames EndsNames a x r
  unique_names (names p1) h = same_names (unique_more_names p1 h)

  pub unique_more_names : {a : List (List ℕ)} {x r : List Token} → IsMoreNames a x r → EndsNames (next r) → Agrees IsMoreNames EndsNames a x r
  unique_more_names no_name h = same_no_name h
  unique_more_names (one_name p1) h = same_one_name (unique_more_names p1 h)

  pub unique_expr : {a : Expr} {x r : List Token} → IsExpr a x r → EndsExpr (next r) → Agrees IsExpr EndsExpr a x r
  unique_expr (expr p1) h = same_expr (unique_level p1 h)

  pub unique_level : {l : ℕ} {a : Expr} {x r : List Token} → IsLevel l a x r → EndsLevel l (next r) → Agrees (IsLevel l) (EndsLevel l) a x r
  unique_level (operand p1) h = same_operand (compare_chains p1) h
  unique_level (level p1 p2) h = same_level (unique_level p1 (before_links p2 h)) (unique_links p2 h)

  pub unique_links : {l : ℕ} {a : List Link} {x r : List Token} → IsLinks l a x r → EndsLevel (suc l) (next r) → Agrees (IsLinks l) (EndsLevel (suc l)) a x r
  unique_links no_link h = same_no_link h
  unique_links (one_link p1 p2 p3) h = same_one_link p1 (unique_level p2 (before_links p3 h)) (unique_links p3 h)

  pub compare_chains : {h : Expr} {a : List Suffix} {x r : List Token} → IsSuffixed h a x r → Chains h a x r
  compare_chains (chain p l) = same_chain (unique_prim p) (compare l)

  pub meet : {l : ℕ} {v : Expr} {x r : List Token} → IsLevel l v x r → (g : Expr) (b : List Suffix) (s : List Token) → IsSuffixed g b x s → Met l b r s
  meet (operand p) = met_operand (compare_chains p)
  meet (level a l) = met_level (meet a) l

  pub meet_expr : {v : Expr} {x r : List Token} → IsExpr v x r → (g : Expr) (b : List Suffix) (s : List Token) → IsSuffixed g b x s → Met 5 b r s
  meet_expr (expr p) = meet p

  pub compare : {a : List Suffix} {x r : List Token} → IsSuffixes a x r → Goes a x r
  compare no_suffix = same_no_suffix
  compare (one_suffix f l) = same_one_suffix f l (unique_suffix f) (compare l) (alone f)

  pub alone : {f : Suffix} {x y : List Token} → IsSuffix f x y → Alone x y
  alone (apply c) = apply_alone
  alone (dotted d) = dotted_alone
  alone (index i) = index_alone (unique_expr i tt)

  pub unique_suffix : {a : Suffix} {x r : List Token} → IsSuffix a x r → Agrees IsSuffix Anything a x r
  unique_suffix (apply p1) = same_apply (unique_call p1)
  unique_suffix (dotted p1) = same_dotted (unique_dotted p1)
  unique_suffix (index p1) = same_index (unique_expr p1 tt)

  pub unique_dotted : {n : List ℕ} {p : ℕ} {a : Suffix} {x r : List Token} → IsDotted n p a x r → Agrees (IsDotted n p) Anything a x r
  unique_dotted (select p1) = same_select p1
  unique_dotted (invoke p1) = same_invoke (unique_call p1)

  pub unique_call : {a : List Expr} {x r : List Token} → IsCall a x r → Agrees IsCall Anything a x r
  unique_call no_argument = same_no_argument
  unique_call (arguments p1) = same_arguments p1 (unique_args p1 tt)

  pub unique_args : {a : List Expr} {x r : List Token} → IsArgs a x r → EndsArgs (next r) → Agrees IsArgs EndsArgs a x r
  unique_args (args p1 p2) h = same_args (unique_expr p1 (before_args p2 h)) (unique_more_args p2 h)

  pub unique_more_args : {a : List Expr} {x r : List Token} → IsMoreArgs a x r → EndsArgs (next r) → Agrees IsMoreArgs EndsArgs a x r
  unique_more_args no_arg h = same_no_arg h
  unique_more_args (one_arg p1 p2) h = same_one_arg (unique_expr p1 (before_args p2 h)) (unique_more_args p2 h)

  pub unique_prim : {a : Expr} {x r : List Token} → IsPrim a x r → Agrees IsPrim Anything a x r
  unique_prim int = same_int
  unique_prim text = same_text
  unique_prim true_ = same_true_
  unique_prim false_ = same_false_
  unique_prim ok = same_ok
  unique_prim name = same_name
  unique_prim (proc_of p1) = same_proc_of p1 (unique_proc p1)
  unique_prim (paren p1) = same_paren (unique_expr p1 tt)
  unique_prim (array p1) = same_array (unique_array p1)
  unique_prim (object p1) = same_object (unique_object p1)
  unique_prim (if_ p1 p2 p3) = same_if_ (unique_arm p1 (before_elsifs p2 (first_else p3))) (unique_elsifs p2 (first_else p3)) (unique_else p3)
  unique_prim (loop_ p1) = same_loop_ (unique_block p1 tt)
  unique_prim exit = same_exit
  unique_prim (for p1 p2 p3) = same_for (unique_expr p1 tt) (unique_expr p2 tt) (unique_block p3 tt)
  unique_prim (foreach p1 p2) = same_foreach (unique_expr p1 tt) (unique_block p2 tt)
  unique_prim (try p1 p2) = same_try (unique_block p1 (first_try p2)) (unique_try p2)
  unique_prim (raise p1) = same_raise (unique_expr p1 tt)
  unique_prim (watch p1 p2) = same_watch (unique_expr p1 tt) (unique_expr p2 tt)
  unique_prim (redirect p1 p2) = same_redirect (unique_expr p1 tt) (unique_expr p2 tt)
  unique_prim (clone p1) = same_clone (unique_args p1 tt)

  pub unique_array : {a : List Expr} {x r : List Token} → IsArray a x r → Agrees IsArray Anything a x r
  unique_array no_element = same_no_element
  unique_array (elements p1) = same_elements p1 (unique_args p1 tt)

  pub unique_arm : {a : Arm} {x r : List Token} → IsArm a x r → EndsBlock (next r) → Agrees IsArm EndsBlock a x r
  unique_arm (arm_of p1 p2) h = same_arm_of (unique_expr p1 tt) (unique_block p2 h)

  pub unique_elsifs : {a : List Arm} {x r : List Token} → IsElsifs a x r → EndsElsifs (next r) → Agrees IsElsifs EndsElsifs a x r
  unique_elsifs no_elsif h = same_no_elsif h
  unique_elsifs (one_elsif p1 p2) h = same_one_elsif (unique_arm p1 (before_elsifs p2 h)) (unique_elsifs p2 h)

  pub unique_else : {a : Option Block} {x r : List Token} → IsElse a x r → Agrees IsElse Anything a x r
  unique_else no_else = same_no_else
  unique_else (else_ p1) = same_else_ (unique_block p1 tt)

  pub unique_try : {p : ℕ} {b : Block} {a : Expr} {x r : List Token} → IsTry p b a x r → Tries p b a x r
  unique_try (finally p1) = same_finally (unique_block p1 tt)
  unique_try (excepts p1 p2 p3) = same_excepts (unique_guard p1 (before_guards p2 (else_guards p3))) (unique_guards p2 (else_guards p3)) (unique_else p3)

  pub unique_guard : {a : Arm} {x r : List Token} → IsGuard a x r → EndsBlock (next r) → Agrees IsGuard EndsBlock a x r
  unique_guard (guard_of p1 p2) h = same_guard_of (unique_expr p1 tt) (unique_block p2 h)

  pub unique_guards : {a : List Arm} {x r : List Token} → IsGuards a x r → EndsGuards (next r) → Agrees IsGuards EndsGuards a x r
  unique_guards no_guard h = same_no_guard h
  unique_guards (one_guard p1 p2) h = same_one_guard (unique_guard p1 (before_guards p2 h)) (unique_guards p2 h)

  pub unique_object : {a : Flags} {c : List Field} {x r : List Token} → IsObject a c x r → Agrees2 IsObject a c x r
  unique_object no_field = same_no_field
  unique_object (unflagged p1) = same_unflagged p1 (unique_fields p1 tt)
  unique_object (protected p1) = same_protected (unique_flagged p1)
  unique_object (serialized p1) = same_serialized (unique_flagged p1)

  pub unique_flagged : {row : ℕ} {a : Bool} {c : List Field} {x r : List Token} → IsFlagged row a c x r → Agrees2 (IsFlagged row) a c x r
  unique_flagged flag_alone = same_flag_alone
  unique_flagged (flag_fields p1) = same_flag_fields p1 (unique_fields p1 tt)
  unique_flagged (other_flag p1) = same_other_flag (unique_both_flags p1)

  pub unique_both_flags : {a : List Field} {x r : List Token} → IsBothFlags a x r → Agrees IsBothFlags Anything a x r
  unique_both_flags flags_alone = same_flags_alone
  unique_both_flags (flags_fields p1) = same_flags_fields (unique_fields p1 tt)

  pub unique_fields : {a : List Field} {x r : List Token} → IsFields a x r → EndsArgs (next r) → Agrees IsFields EndsArgs a x r
  unique_fields (fields p1 p2) h = same_fields (unique_field p1 (before_fields p2 h)) (unique_more_fields p2 h)

  pub unique_more_fields : {a : List Field} {x r : List Token} → IsMoreFields a x r → EndsArgs (next r) → Agrees IsMoreFields EndsArgs a x r
  unique_more_fields no_further_field h = same_no_further_field h
  unique_more_fields (one_field p1 p2) h = same_one_field (unique_field p1 (before_fields p2 h)) (unique_more_fields p2 h)

  pub unique_field : {a : Field} {x r : List Token} → IsField a x r → EndsExpr (next r) → Agrees IsField EndsExpr a x r
  unique_field (field_of p1) h = same_field_of (unique_field_body p1 h)

pub unique_suffixed : {h g : Expr} {a b : List Suffix} {x r s : List Token} → IsSuffixed h a x r → EndsSuffixed (next r) → IsSuffixed g b x s → EndsSuffixed (next s) → (h ≡ g) × (a ≡ b) × (r ≡ s)
unique_suffixed p h q k = ended_chain (compare_chains p _ _ _ q) h k
