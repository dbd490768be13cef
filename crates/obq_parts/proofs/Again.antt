-- Lists with commas as a loop reads them: an element, a comma, and again such a list. `C_again`: one more of a list so far, which goes on behind a comma.
-- `C_last`: the last one of a list so far.
use Rattle.std.proofs.Common.{◌≡◌, ℕ, List, [], ◌∷◌, ◌++◌, refl}
use Rattle.obq_base.specs.declared.tokens.Token.{Token}
use Rattle.obq_base.specs.declared.tokens.TokenKind.TheVariants as k
use Rattle.obq_base.specs.declared.trees.Bind.{Bind}
use Rattle.obq_base.specs.declared.trees.Expr.{Expr}
use Rattle.obq_base.specs.declared.trees.Field.{Field}
use Rattle.obq_base.specs.declared.trees.RecBind.{RecBind}
use Rattle.obq_model.specs.Words.{sym_comma}
use Rattle.obq_model.specs.Nodes.{token, next}
use Rattle.obq_model.specs.Grammar.{IsNames, IsMoreNames, IsBinds, IsMoreBinds, IsBind, IsRecBinds, IsMoreRecBinds, IsRecBind, IsArgs, IsMoreArgs, IsExpr, IsFields, IsMoreFields, IsField, names, no_name, one_name, binds, no_bind, one_bind, rec_binds, no_rec_bind, one_rec_bind, args, no_arg, one_arg, fields, no_further_field, one_field}
use Rattle.obq_grammar.specs.Fails.{Fails}
use Rattle.obq_grammar.specs.Follow.{No, is_word, continues, EndsExpr, EndsNames, EndsArgs}
use Rattle.obq_grammar.proofs.Theory.{Leads, step, after, at}
use Rattle.obq_grammar.proofs.Sets.{no_both}
use Rattle.obq_grammar.proofs.failing.Bindings.{names_at_2, names_of, one_name_of, binds_at_2, one_bind_of, rec_binds_at_2, one_rec_bind_of}
use Rattle.obq_grammar.proofs.failing.Fields.{args_at_2, one_arg_of, fields_at_2, one_field_of}

-- behind an expression without a comma
pub ends_args : (x : List Token) → EndsExpr (next x) → No (is_word sym_comma (next x)) → EndsArgs (next x)
ends_args x e n = no_both (is_word sym_comma (next x)) (continues 5 (next x)) n e

names_more : {a : List (List ℕ)} {p : ℕ} {x y r : List Token} → IsNames a y r → x ≡ token sym_comma p ∷ y → IsMoreNames a x r
names_more (names m) e = one_name_of e refl m

names_back : {a : List (List ℕ)} {p : ℕ} {y s : List Token} → IsMoreNames a (token sym_comma p ∷ y) s → EndsNames (next s) → (b : List (List ℕ)) × IsNames b y s
names_back no_name h = absurd h
names_back (one_name m) h = (_, names m)

names_comma : {p : ℕ} {x y z : List Token} → x ≡ token sym_comma p ∷ y → Fails IsNames EndsNames y z → Fails IsMoreNames EndsNames x z
names_comma {p = p} e f = at e (after (token sym_comma p ∷ []) (λ a y s q l h. let b = names_back l h in (b.0, s, b.1, h)) (λ r h. (r, h, λ b y n. (b, names_more n refl))) f)

pub names_again : {ns : List (List ℕ)} {n : List ℕ} {p q : ℕ} {w x x1 x2 : List Token} → Leads IsNames EndsNames ns w x → x ≡ token (k.Name n) p ∷ x1 → x1 ≡ token sym_comma q ∷ x2 → Leads IsNames EndsNames (ns ++ n ∷ []) w x2
names_again {n = n} l e1 e2 = step n l (λ bs r m. names_of e1 (names_more m e2)) (λ w f. names_at_2 e1 (names_comma e2 f))

pub names_last : {ns : List (List ℕ)} {n : List ℕ} {p : ℕ} {w x x1 : List Token} → Leads IsNames EndsNames ns w x → x ≡ token (k.Name n) p ∷ x1 → IsNames (ns ++ n ∷ []) w x1
names_last {n = n} l e1 = l.found (n ∷ []) _ (names_of e1 no_name)

binds_more : {a : List Bind} {p : ℕ} {x y r : List Token} → IsBinds a y r → x ≡ token sym_comma p ∷ y → IsMoreBinds a x r
binds_more (binds d m) e = one_bind_of e d m

binds_back : {a : List Bind} {p : ℕ} {y s : List Token} → IsMoreBinds a (token sym_comma p ∷ y) s → EndsArgs (next s) → (b : List Bind) × IsBinds b y s
binds_back no_bind h = absurd h
binds_back (one_bind d m) h = (_, binds d m)

binds_comma : {p : ℕ} {x y z : List Token} → x ≡ token sym_comma p ∷ y → Fails IsBinds EndsArgs y z → Fails IsMoreBinds EndsArgs x z
binds_comma {p = p} e f = at e (after (token sym_comma p ∷ []) (λ a y s q l h. let b = binds_back l h in (b.0, s, b.1, h)) (λ r h. (r, h, λ b y n. (b, binds_more n refl))) f)

pub binds_again : {vs : List Bind} {a : Bind} {q : ℕ} {w x x1 x2 : List Token} → Leads IsBinds EndsArgs vs w x → IsBind a x x1 → EndsExpr (next x1) → x1 ≡ token sym_comma q ∷ x2 → Leads IsBinds EndsArgs (vs ++ a ∷ []) w x2
binds_again {a = a} l d u e = step a l (λ bs r m. binds d (binds_more m e)) (λ w f. binds_at_2 d u (binds_comma e f))

pub binds_last : {vs : List Bind} {a : Bind} {w x x1 : List Token} → Leads IsBinds EndsArgs vs w x → IsBind a x x1 → IsBinds (vs ++ a ∷ []) w x1
binds_last {a = a} l d = l.found (a ∷ []) _ (binds d no_bind)

rec_binds_more : {a : List RecBind} {p : ℕ} {x y r : List Token} → IsRecBinds a y r → x ≡ token sym_comma p ∷ y → IsMoreRecBinds a x r
rec_binds_more (rec_binds d m) e = one_rec_bind_of e d m

rec_binds_back : {a : List RecBind} {p : ℕ} {y s : List Token} → IsMoreRecBinds a (token sym_comma p ∷ y) s → EndsNames (next s) → (b : List RecBind) × IsRecBinds b y s
rec_binds_back no_rec_bind h = absurd h
rec_binds_back (one_rec_bind d m) h = (_, rec_binds d m)

rec_binds_comma : {p : ℕ} {x y z : List Token} → x ≡ token sym_comma p ∷ y → Fails IsRecBinds EndsNames y z → Fails IsMoreRecBinds EndsNames x z
rec_binds_comma {p = p} e f = at e (after (token sym_comma p ∷ []) (λ a y s q l h. let b = rec_binds_back l h in (b.0, s, b.1, h)) (λ r h. (r, h, λ b y n. (b, rec_binds_more n refl))) f)

pub rec_binds_again : {vs : List RecBind} {a : RecBind} {q : ℕ} {w x x1 x2 : List Token} → Leads IsRecBinds EndsNames vs w x → IsRecBind a x x1 → x1 ≡ token sym_comma q ∷ x2 → Leads IsRecBinds EndsNames (vs ++ a ∷ []) w x2
rec_binds_again {a = a} l d e = step a l (λ bs r m. rec_binds d (rec_binds_more m e)) (λ w f. rec_binds_at_2 d (rec_binds_comma e f))

pub rec_binds_last : {vs : List RecBind} {a : RecBind} {w x x1 : List Token} → Leads IsRecBinds EndsNames vs w x → IsRecBind a x x1 → IsRecBinds (vs ++ a ∷ []) w x1
rec_binds_last {a = a} l d = l.found (a ∷ []) _ (rec_binds d no_rec_bind)

args_more : {a : List Expr} {p : ℕ} {x y r : List Token} → IsArgs a y r → x ≡ token sym_comma p ∷ y → IsMoreArgs a x r
args_more (args d m) e = one_arg_of e d m

args_back : {a : List Expr} {p : ℕ} {y s : List Token} → IsMoreArgs a (token sym_comma p ∷ y) s → EndsArgs (next s) → (b : List Expr) × IsArgs b y s
args_back no_arg h = absurd h
args_back (one_arg d m) h = (_, args d m)

args_comma : {p : ℕ} {x y z : List Token} → x ≡ token sym_comma p ∷ y → Fails IsArgs EndsArgs y z → Fails IsMoreArgs EndsArgs x z
args_comma {p = p} e f = at e (after (token sym_comma p ∷ []) (λ a y s q l h. let b = args_back l h in (b.0, s, b.1, h)) (λ r h. (r, h, λ b y n. (b, args_more n refl))) f)

pub args_again : {vs : List Expr} {a : Expr} {q : ℕ} {w x x1 x2 : List Token} → Leads IsArgs EndsArgs vs w x → IsExpr a x x1 → EndsExpr (next x1) → x1 ≡ token sym_comma q ∷ x2 → Leads IsArgs EndsArgs (vs ++ a ∷ []) w x2
args_again {a = a} l d u e = step a l (λ bs r m. args d (args_more m e)) (λ w f. args_at_2 d u (args_comma e f))

pub args_last : {vs : List Expr} {a : Expr} {w x x1 : List Token} → Leads IsArgs EndsArgs vs w x → IsExpr a x x1 → IsArgs (vs ++ a ∷ []) w x1
args_last {a = a} l d = l.found (a ∷ []) _ (args d no_arg)

fields_more : {a : List Field} {p : ℕ} {x y r : List Token} → IsFields a y r → x ≡ token sym_comma p ∷ y → IsMoreFields a x r
fields_more (fields d m) e = one_field_of e d m

fields_back : {a : List Field} {p : ℕ} {y s : List Token} → IsMoreFields a (token sym_comma p ∷ y) s → EndsArgs (next s) → (b : List Field) × IsFields b y s
fields_back no_further_field h = absurd h
fields_back (one_field d m) h = (_, fields d m)

fields_comma : {p : ℕ} {x y z : List Token} → x ≡ token sym_comma p ∷ y → Fails IsFields EndsArgs y z → Fails IsMoreFields EndsArgs x z
fields_comma {p = p} e f = at e (after (token sym_comma p ∷ []) (λ a y s q l h. let b = fields_back l h in (b.0, s, b.1, h)) (λ r h. (r, h, λ b y n. (b, fields_more n refl))) f)

pub fields_again : {vs : List Field} {a : Field} {q : ℕ} {w x x1 x2 : List Token} → Leads IsFields EndsArgs vs w x → IsField a x x1 → EndsExpr (next x1) → x1 ≡ token sym_comma q ∷ x2 → Leads IsFields EndsArgs (vs ++ a ∷ []) w x2
fields_again {a = a} l d u e = step a l (λ bs r m. fields d (fields_more m e)) (λ w f. fields_at_2 d u (fields_comma e f))

pub fields_last : {vs : List Field} {a : Field} {w x x1 : List Token} → Leads IsFields EndsArgs vs w x → IsField a x x1 → IsFields (vs ++ a ∷ []) w x1
fields_last {a = a} l d = l.found (a ∷ []) _ (fields d no_further_field)
