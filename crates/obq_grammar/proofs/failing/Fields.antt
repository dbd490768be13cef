-- Arguments, fields and flags. `C_at_i`: where the part i of the production C fails, what the production derives fails; the arguments are the parts before it
-- (a word or a name by the tokens that begin with it, another part by its derivation and by the token behind it), and then how part i fails.
-- `C_end`: behind the last part stands what may not stand behind the production. `C_of`: the production from its parts. `C_step`: one more of a list so far.
use Rattle.std.proofs.Common.{◌≡◌, ℕ, List, ◌∷◌, subst, ap}
use Rattle.obq_base.specs.declared.tokens.Token.{Token}
use Rattle.obq_base.specs.declared.tokens.TokenKind.TheVariants as k
use Rattle.obq_base.specs.declared.trees.Proc.{Proc}
use Rattle.obq_base.specs.declared.trees.FieldExpr.{FieldExpr}
use Rattle.obq_base.specs.declared.trees.Expr.{Expr}
use Rattle.obq_base.specs.declared.trees.Field.{Field}
use Rattle.obq_model.specs.Words.{kw_alias, kw_end, kw_meth, kw_of, sym_close, sym_comma, sym_arrow, sym_close_bracket, sym_close_brace}
use Rattle.obq_model.specs.Nodes.{token, next, field}
use Rattle.obq_model.specs.Grammar.{IsFieldBody, IsMeth, IsExpr, IsCall, IsArgs, IsMoreArgs, IsArray, IsBothFlags, IsFields, IsMoreFields, IsField, value, method, alias, meth, no_argument, arguments, args, one_arg, no_element, elements, flags_fields, fields, one_field, field_of}
use Rattle.obq_grammar.specs.Fails.{Fails}
use Rattle.obq_grammar.specs.Follow.{No, is_word, Anything, EndsExpr, EndsArgs, BeginsName, BeginsExpr}
use Rattle.obq_grammar.proofs.Theory.{fewer, narrow, move, upto}
use Rattle.obq_grammar.proofs.Firsts.{first_expr, first_args}
use Rattle.obq_grammar.proofs.Goods.{good_meth, good_expr, good_args, good_fields, good_field}
use Rattle.obq_grammar.specs.Parts.{IsWord, the_word, IsName, the_name, Then, then_}
use Rattle.obq_grammar.proofs.failing.Sequences.{Behind, anything, word_behind, then_behind, first, second, production, opened, good_word, good_name, word, named, also, other_word, other_name}
use Rattle.obq_grammar.proofs.failing.Beginnings.{some_expr, some_field_body, more_args_behind, more_fields_behind, begins_no}
use Rattle.obq_base.specs.declared.trees.FieldExpr.TheVariants as b

-- what may stand behind a part

expr_end_behind : Behind Anything (Then IsExpr (IsWord kw_end)) EndsExpr
expr_end_behind = then_behind {V = EndsExpr} (anything some_expr) (word_behind tt)

of_expr_end_behind : Behind Anything (Then (IsWord kw_of) (Then IsExpr (IsWord kw_end))) EndsExpr
of_expr_end_behind = then_behind {V = Anything} (word_behind tt) expr_end_behind

arrow_field_body_behind : Behind Anything (Then (IsWord sym_arrow) IsFieldBody) EndsExpr
arrow_field_body_behind = then_behind {V = Anything} (word_behind tt) (anything some_field_body)

-- the productions

args_split : {a : List Expr} {y s : List Token} → IsArgs a y s → EndsArgs (next s) → (b : Unit {0}) × (Then IsExpr IsMoreArgs) b y s
args_split (args p1 p2) h = (_, then_ p1 p2)

args_join : {b : Unit {0}} {y s : List Token} → (Then IsExpr IsMoreArgs) b y s → (a : List Expr) × IsArgs a y s
args_join (then_ p1 p2) = (_, args p1 p2)

args_fails : {x z : List Token} → Fails (Then IsExpr IsMoreArgs) EndsArgs x z → Fails IsArgs EndsArgs x z
args_fails = production Anything (λ a y s n l h. args_split l h) (λ b y s m. args_join m) tt

pub args_at_1 : {x z : List Token} → Fails IsExpr EndsExpr x z → Fails IsArgs EndsArgs x z
args_at_1 f = args_fails (first more_args_behind f)

pub args_at_2 : {v : Expr} {x x1 z : List Token} → IsExpr v x x1 → EndsExpr (next x1) → Fails IsMoreArgs EndsArgs x1 z → Fails IsArgs EndsArgs x z
args_at_2 p1 h1 f = args_fails (second good_expr more_args_behind p1 h1 f)

pub one_arg_of : {v : Expr} {vs : List Expr} {p : ℕ} {x x1 x2 r : List Token} → x ≡ token sym_comma p ∷ x1 → IsExpr v x1 x2 → IsMoreArgs vs x2 r → IsMoreArgs (v ∷ vs) x r
one_arg_of e1 p2 p3 = move IsMoreArgs _ _ _ _ e1 (one_arg p2 p3)

arguments_split : {a : List Expr} {y s : List Token} → No (is_word sym_close (next y)) → IsCall a y s → Anything (next s) → (b : Unit {0}) × (Then IsArgs (IsWord sym_close)) b y s
arguments_split n no_argument h = absurd n
arguments_split n (arguments p1) h = (_, then_ p1 the_word)

arguments_join : {b : Unit {0}} {y s : List Token} → (Then IsArgs (IsWord sym_close)) b y s → (a : List Expr) × IsCall a y s
arguments_join (then_ p1 the_word) = (_, arguments p1)

arguments_fails : {x z : List Token} → No (is_word sym_close (next x)) → Fails (Then IsArgs (IsWord sym_close)) Anything x z → Fails IsCall Anything x z
arguments_fails c = production (λ kind. No (is_word sym_close kind)) (λ a y s n l h. arguments_split n l h) (λ b y s m. arguments_join m) c

pub arguments_at_1 : {x z : List Token} → No (is_word sym_close (next x)) → Fails IsArgs EndsArgs x z → Fails IsCall Anything x z
arguments_at_1 n f = arguments_fails n (first (word_behind tt) f)

pub arguments_at_2 : {vs : List Expr} {x x1 : List Token} → IsArgs vs x x1 → EndsArgs (next x1) → No (is_word sym_close (next x1)) → Fails IsCall Anything x x1
arguments_at_2 {x = x} p1 h1 f = arguments_fails (begins_no BeginsExpr sym_close (next x) (first_args p1) (λ n. n)) (second good_args (word_behind tt) p1 h1 (other_word tt f))

pub arguments_of : {vs : List Expr} {p : ℕ} {x x1 r : List Token} → IsArgs vs x x1 → x1 ≡ token sym_close p ∷ r → IsCall vs x r
arguments_of p1 e2 = arguments (upto IsArgs e2 p1)

elements_split : {a : List Expr} {y s : List Token} → No (is_word sym_close_bracket (next y)) → IsArray a y s → Anything (next s) → (b : Unit {0}) × (Then IsArgs (IsWord sym_close_bracket)) b y s
elements_split n no_element h = absurd n
elements_split n (elements p1) h = (_, then_ p1 the_word)

elements_join : {b : Unit {0}} {y s : List Token} → (Then IsArgs (IsWord sym_close_bracket)) b y s → (a : List Expr) × IsArray a y s
elements_join (then_ p1 the_word) = (_, elements p1)

elements_fails : {x z : List Token} → No (is_word sym_close_bracket (next x)) → Fails (Then IsArgs (IsWord sym_close_bracket)) Anything x z → Fails IsArray Anything x z
elements_fails c = production (λ kind. No (is_word sym_close_bracket kind)) (λ a y s n l h. elements_split n l h) (λ b y s m. elements_join m) c

pub elements_at_1 : {x z : List Token} → No (is_word sym_close_bracket (next x)) → Fails IsArgs EndsArgs x z → Fails IsArray Anything x z
elements_at_1 n f = elements_fails n (first (word_behind tt) f)

pub elements_at_2 : {vs : List Expr} {x x1 : List Token} → IsArgs vs x x1 → EndsArgs (next x1) → No (is_word sym_close_bracket (next x1)) → Fails IsArray Anything x x1
elements_at_2 {x = x} p1 h1 f = elements_fails (begins_no BeginsExpr sym_close_bracket (next x) (first_args p1) (λ n. n)) (second good_args (word_behind tt) p1 h1 (other_word tt f))

pub elements_of : {vs : List Expr} {p : ℕ} {x x1 r : List Token} → IsArgs vs x x1 → x1 ≡ token sym_close_bracket p ∷ r → IsArray vs x r
elements_of p1 e2 = elements (upto IsArgs e2 p1)

value_split : {a : FieldExpr} {y s : List Token} → No (is_word kw_meth (next y)) × No (is_word kw_alias (next y)) → IsFieldBody a y s → EndsExpr (next s) → (b : Expr) × IsExpr b y s
value_split n (method (meth a b)) h = absurd n.0
value_split n (alias p) h = absurd n.1
value_split n (value p1) h = (_, p1)

value_join : {b : Expr} {y s : List Token} → IsExpr b y s → (a : FieldExpr) × IsFieldBody a y s
value_join p1 = (_, value p1)

value_fails : {x z : List Token} → No (is_word kw_meth (next x)) × No (is_word kw_alias (next x)) → Fails IsExpr EndsExpr x z → Fails IsFieldBody EndsExpr x z
value_fails c = production (λ kind. No (is_word kw_meth kind) × No (is_word kw_alias kind)) (λ a y s n l h. value_split n l h) (λ b y s m. value_join m) c

pub value_at_1 : {x z : List Token} → No (is_word kw_meth (next x)) → No (is_word kw_alias (next x)) → Fails IsExpr EndsExpr x z → Fails IsFieldBody EndsExpr x z
value_at_1 n m f = value_fails (n, m) f

method_split : {a : FieldExpr} {y s : List Token} → ((next y) ≡ kw_meth) → IsFieldBody a y s → EndsExpr (next s) → (b : Proc) × IsMeth b y s
method_split n (value p) h = absurd (subst BeginsExpr n (first_expr p))
method_split n (alias p) h = cc
method_split n (method p1) h = (_, p1)

method_join : {b : Proc} {y s : List Token} → IsMeth b y s → (a : FieldExpr) × IsFieldBody a y s
method_join p1 = (_, method p1)

method_fails : {x z : List Token} → ((next x) ≡ kw_meth) → Fails IsMeth EndsExpr x z → Fails IsFieldBody EndsExpr x z
method_fails c = production (λ kind. (kind ≡ kw_meth)) (λ a y s n l h. method_split n l h) (λ b y s m. method_join m) c

pub method_at_1 : {p : ℕ} {y : List Token} {x z : List Token} → x ≡ token kw_meth p ∷ y → Fails IsMeth Anything x z → Fails IsFieldBody EndsExpr x z
method_at_1 e f = method_fails (ap next e) (fewer (λ t h. tt) f)

-- the production, and behind it what may not stand there
pub method_end : {p : ℕ} {y : List Token} {m : Proc} {x x1 : List Token} → x ≡ token kw_meth p ∷ y → IsMeth m x x1 → (EndsExpr (next x1) → ⊥) → Fails IsFieldBody EndsExpr x x1
method_end e p1 c = method_fails (ap next e) (narrow good_meth (λ t h. tt) p1 tt c)

alias_split : {a : FieldExpr} {p : ℕ} {y s : List Token} → IsFieldBody a (token kw_alias p ∷ y) s → EndsExpr (next s) → (b : Unit {0}) × (Then IsName (Then (IsWord kw_of) (Then IsExpr (IsWord kw_end)))) b y s
alias_split (value p) h = absurd (first_expr p)
alias_split (method p) h = elim p [ ]
alias_split (alias p4) h = (_, then_ the_name (then_ the_word (then_ p4 the_word)))

alias_join : {b : Unit {0}} {y s : List Token} (p : ℕ) → (Then IsName (Then (IsWord kw_of) (Then IsExpr (IsWord kw_end)))) b y s → (a : FieldExpr) × IsFieldBody a (token kw_alias p ∷ y) s
alias_join p (then_ the_name (then_ the_word (then_ p4 the_word))) = (_, alias p4)

alias_fails : {p : ℕ} {x y z : List Token} → x ≡ token kw_alias p ∷ y → Fails (Then IsName (Then (IsWord kw_of) (Then IsExpr (IsWord kw_end)))) EndsExpr y z → Fails IsFieldBody EndsExpr x z
alias_fails e = opened (λ p a y s l h. alias_split l h) (λ p b y s m. alias_join p m) (word e)

pub alias_at_2 : {p : ℕ} {x x1 : List Token} → x ≡ token kw_alias p ∷ x1 → (BeginsName (next x1) → ⊥) → Fails IsFieldBody EndsExpr x x1
alias_at_2 e1 f = alias_fails e1 (first of_expr_end_behind (other_name f))

pub alias_at_3 : {n : List ℕ} {p q : ℕ} {x x1 x2 : List Token} → x ≡ token kw_alias p ∷ x1 → x1 ≡ token (k.Name n) q ∷ x2 → No (is_word kw_of (next x2)) → Fails IsFieldBody EndsExpr x x2
alias_at_3 e1 e2 f = alias_fails e1 (second good_name of_expr_end_behind (named e2) tt (first expr_end_behind (other_word tt f)))

pub alias_at_4 : {n : List ℕ} {p q t : ℕ} {x x1 x2 x3 z : List Token} → x ≡ token kw_alias p ∷ x1 → x1 ≡ token (k.Name n) q ∷ x2 → x2 ≡ token kw_of t ∷ x3 → Fails IsExpr EndsExpr x3 z → Fails IsFieldBody EndsExpr x z
alias_at_4 e1 e2 e3 f = alias_fails e1 (second good_name of_expr_end_behind (named e2) tt (second good_word expr_end_behind (word e3) tt (first (word_behind tt) f)))

pub alias_at_5 : {n : List ℕ} {v : Expr} {p q t : ℕ} {x x1 x2 x3 x4 : List Token} → x ≡ token kw_alias p ∷ x1 → x1 ≡ token (k.Name n) q ∷ x2 → x2 ≡ token kw_of t ∷ x3 → IsExpr v x3 x4 → EndsExpr (next x4) → No (is_word kw_end (next x4)) → Fails IsFieldBody EndsExpr x x4
alias_at_5 e1 e2 e3 p4 h4 f = alias_fails e1 (second good_name of_expr_end_behind (named e2) tt (second good_word expr_end_behind (word e3) tt (second good_expr (word_behind tt) p4 h4 (fewer (λ t h. tt) (other_word tt f)))))

-- the production, and behind it what may not stand there
pub alias_end : {n : List ℕ} {v : Expr} {p q t u : ℕ} {x x1 x2 x3 x4 x5 : List Token} → x ≡ token kw_alias p ∷ x1 → x1 ≡ token (k.Name n) q ∷ x2 → x2 ≡ token kw_of t ∷ x3 → IsExpr v x3 x4 → EndsExpr (next x4) → x4 ≡ token kw_end u ∷ x5 → (EndsExpr (next x5) → ⊥) → Fails IsFieldBody EndsExpr x x5
alias_end e1 e2 e3 p4 h4 e5 c = alias_fails e1 (second good_name of_expr_end_behind (named e2) tt (second good_word expr_end_behind (word e3) tt (second good_expr (word_behind tt) p4 h4 (narrow good_word (λ t h. tt) (word e5) tt c))))

pub alias_of : {n : List ℕ} {v : Expr} {p q t u : ℕ} {x x1 x2 x3 x4 r : List Token} → x ≡ token kw_alias p ∷ x1 → x1 ≡ token (k.Name n) q ∷ x2 → x2 ≡ token kw_of t ∷ x3 → IsExpr v x3 x4 → x4 ≡ token kw_end u ∷ r → IsFieldBody (b.Alias n v p) x r
alias_of e1 e2 e3 p4 e5 = move IsFieldBody _ _ _ _ (also e1 (also e2 e3)) (alias (upto IsExpr e5 p4))

field_of_split : {a : Field} {y s : List Token} → IsField a y s → EndsExpr (next s) → (b : Unit {0}) × (Then IsName (Then (IsWord sym_arrow) IsFieldBody)) b y s
field_of_split (field_of p3) h = (_, then_ the_name (then_ the_word p3))

field_of_join : {b : Unit {0}} {y s : List Token} → (Then IsName (Then (IsWord sym_arrow) IsFieldBody)) b y s → (a : Field) × IsField a y s
field_of_join (then_ the_name (then_ the_word p3)) = (_, field_of p3)

field_of_fails : {x z : List Token} → Fails (Then IsName (Then (IsWord sym_arrow) IsFieldBody)) EndsExpr x z → Fails IsField EndsExpr x z
field_of_fails = production Anything (λ a y s n l h. field_of_split l h) (λ b y s m. field_of_join m) tt

pub field_of_at_1 : {x : List Token} → (BeginsName (next x) → ⊥) → Fails IsField EndsExpr x x
field_of_at_1 f = field_of_fails (first arrow_field_body_behind (other_name f))

pub field_of_at_2 : {n : List ℕ} {p : ℕ} {x x1 : List Token} → x ≡ token (k.Name n) p ∷ x1 → No (is_word sym_arrow (next x1)) → Fails IsField EndsExpr x x1
field_of_at_2 e1 f = field_of_fails (second good_name arrow_field_body_behind (named e1) tt (first (anything some_field_body) (other_word tt f)))

pub field_of_at_3 : {n : List ℕ} {p q : ℕ} {x x1 x2 z : List Token} → x ≡ token (k.Name n) p ∷ x1 → x1 ≡ token sym_arrow q ∷ x2 → Fails IsFieldBody EndsExpr x2 z → Fails IsField EndsExpr x z
field_of_at_3 e1 e2 f = field_of_fails (second good_name arrow_field_body_behind (named e1) tt (second good_word (anything some_field_body) (word e2) tt f))

pub field_of_of : {n : List ℕ} {b : FieldExpr} {p q : ℕ} {x x1 x2 r : List Token} → x ≡ token (k.Name n) p ∷ x1 → x1 ≡ token sym_arrow q ∷ x2 → IsFieldBody b x2 r → IsField (field n b p) x r
field_of_of e1 e2 p3 = move IsField _ _ _ _ (also e1 e2) (field_of p3)

fields_split : {a : List Field} {y s : List Token} → IsFields a y s → EndsArgs (next s) → (b : Unit {0}) × (Then IsField IsMoreFields) b y s
fields_split (fields p1 p2) h = (_, then_ p1 p2)

fields_join : {b : Unit {0}} {y s : List Token} → (Then IsField IsMoreFields) b y s → (a : List Field) × IsFields a y s
fields_join (then_ p1 p2) = (_, fields p1 p2)

fields_fails : {x z : List Token} → Fails (Then IsField IsMoreFields) EndsArgs x z → Fails IsFields EndsArgs x z
fields_fails = production Anything (λ a y s n l h. fields_split l h) (λ b y s m. fields_join m) tt

pub fields_at_1 : {x z : List Token} → Fails IsField EndsExpr x z → Fails IsFields EndsArgs x z
fields_at_1 f = fields_fails (first more_fields_behind f)

pub fields_at_2 : {f : Field} {x x1 z : List Token} → IsField f x x1 → EndsExpr (next x1) → Fails IsMoreFields EndsArgs x1 z → Fails IsFields EndsArgs x z
fields_at_2 p1 h1 f = fields_fails (second good_field more_fields_behind p1 h1 f)

pub one_field_of : {f : Field} {fs : List Field} {p : ℕ} {x x1 x2 r : List Token} → x ≡ token sym_comma p ∷ x1 → IsField f x1 x2 → IsMoreFields fs x2 r → IsMoreFields (f ∷ fs) x r
one_field_of e1 p2 p3 = move IsMoreFields _ _ _ _ e1 (one_field p2 p3)

flags_fields_split : {a : List Field} {p : ℕ} {y s : List Token} → IsBothFlags a (token sym_comma p ∷ y) s → Anything (next s) → (b : Unit {0}) × (Then IsFields (IsWord sym_close_brace)) b y s
flags_fields_split (flags_fields p2) h = (_, then_ p2 the_word)

flags_fields_join : {b : Unit {0}} {y s : List Token} (p : ℕ) → (Then IsFields (IsWord sym_close_brace)) b y s → (a : List Field) × IsBothFlags a (token sym_comma p ∷ y) s
flags_fields_join p (then_ p2 the_word) = (_, flags_fields p2)

flags_fields_fails : {p : ℕ} {x y z : List Token} → x ≡ token sym_comma p ∷ y → Fails (Then IsFields (IsWord sym_close_brace)) Anything y z → Fails IsBothFlags Anything x z
flags_fields_fails e = opened (λ p a y s l h. flags_fields_split l h) (λ p b y s m. flags_fields_join p m) (word e)

pub flags_fields_at_2 : {p : ℕ} {x x1 z : List Token} → x ≡ token sym_comma p ∷ x1 → Fails IsFields EndsArgs x1 z → Fails IsBothFlags Anything x z
flags_fields_at_2 e1 f = flags_fields_fails e1 (first (word_behind tt) f)

pub flags_fields_at_3 : {fs : List Field} {p : ℕ} {x x1 x2 : List Token} → x ≡ token sym_comma p ∷ x1 → IsFields fs x1 x2 → EndsArgs (next x2) → No (is_word sym_close_brace (next x2)) → Fails IsBothFlags Anything x x2
flags_fields_at_3 e1 p2 h2 f = flags_fields_fails e1 (second good_fields (word_behind tt) p2 h2 (other_word tt f))

pub flags_fields_of : {fs : List Field} {p q : ℕ} {x x1 x2 r : List Token} → x ≡ token sym_comma p ∷ x1 → IsFields fs x1 x2 → x2 ≡ token sym_close_brace q ∷ r → IsBothFlags fs x r
flags_fields_of e1 p2 e3 = move IsBothFlags _ _ _ _ e1 (flags_fields (upto IsFields e3 p2))
