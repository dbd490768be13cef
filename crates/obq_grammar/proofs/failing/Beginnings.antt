-- What the parts of productions begin with, and that there is one of each.
use Rattle.std.proofs.Common.{ℕ, zero, suc, List, [], ◌∷◌, Option, None, sym, subst}
use Rattle.obq_base.specs.declared.tokens.Token.{Token}
use Rattle.obq_base.specs.declared.tokens.TokenKind.{TokenKind}
use Rattle.obq_base.specs.declared.tokens.TokenKind.TheVariants as k
use Rattle.obq_base.specs.declared.trees.Block.{Block}
use Rattle.obq_base.specs.declared.trees.Item.{Item}
use Rattle.obq_base.specs.declared.trees.Bind.{Bind}
use Rattle.obq_base.specs.declared.trees.RecBind.{RecBind}
use Rattle.obq_base.specs.declared.trees.Proc.{Proc}
use Rattle.obq_base.specs.declared.trees.FieldExpr.{FieldExpr}
use Rattle.obq_base.specs.declared.trees.Expr.{Expr}
use Rattle.obq_base.specs.declared.trees.Suffix.{Suffix}
use Rattle.obq_base.specs.declared.trees.Arm.{Arm}
use Rattle.obq_base.specs.declared.trees.Field.{Field}
use Rattle.obq_model.specs.Words.{kw_end, kw_finally, kw_ok, kw_proc, sym_open, sym_close, sym_close_brace}
use Rattle.obq_model.specs.Nodes.{token, next, block, procedure}
use Rattle.obq_model.specs.Grammar.{IsBlock, IsMore, IsMoreBinds, IsMoreRecBinds, IsFieldBody, IsProc, IsParameters, IsNames, IsMoreNames, IsExpr, IsLevel, IsLinks, IsSuffixes, IsArgs, IsMoreArgs, IsPrim, IsElsifs, IsElse, IsGuards, IsBothFlags, IsMoreFields, empty, no_more, no_bind, no_rec_bind, value, proc, no_parameter, names, no_name, expr, operand, level, no_link, chain, no_suffix, invoke, no_argument, args, no_arg, ok, no_elsif, no_else, finally, no_guard, flags_alone, no_further_field}
use Rattle.obq_grammar.specs.Follow.{No, is_word, EndsLevel, EndsExpr, EndsArgs, EndsBlock, EndsItem, EndsElsifs, EndsGuards}
use Rattle.obq_grammar.proofs.Sets.{not_yes, is_word_same}
use Rattle.obq_grammar.proofs.Firsts.{before_more, before_binds, before_args, before_fields, before_links, before_elsifs, before_guards, first_else, else_guards, first_try}
use Rattle.obq_grammar.specs.Parts.{IsTryBody, try_body, IsDottedBody, dotted_body}
use Rattle.obq_grammar.proofs.failing.Sequences.{Behind}
use Rattle.obq_base.specs.declared.trees.Expr.TheVariants as e
use Rattle.obq_base.specs.declared.trees.Suffix.TheVariants as s

-- There is one of each part before any tokens.

pub some_prim : (r : List Token) → (a : Expr) × (x : List Token) × IsPrim a x r
some_prim r = (_, token kw_ok 0 ∷ r, ok)

pub some_level : (l : ℕ) (r : List Token) → (a : Expr) × (x : List Token) × IsLevel l a x r
some_level zero r = (_, token kw_ok 0 ∷ r, operand (chain ok no_suffix))
some_level (suc l) r = let w = some_level l r in (_, w.1, level w.2 no_link)

pub some_expr : (r : List Token) → (a : Expr) × (x : List Token) × IsExpr a x r
some_expr r = let w = some_level 5 r in (w.0, w.1, expr w.2)

pub some_args : (r : List Token) → (a : List Expr) × (x : List Token) × IsArgs a x r
some_args r = let w = some_expr r in (_, w.1, args w.2 no_arg)

pub some_more : (r : List Token) → (a : List Item) × (x : List Token) × IsMore a x r
some_more r = (_, r, no_more)

pub some_more_binds : (r : List Token) → (a : List Bind) × (x : List Token) × IsMoreBinds a x r
some_more_binds r = (_, r, no_bind)

pub some_more_rec_binds : (r : List Token) → (a : List RecBind) × (x : List Token) × IsMoreRecBinds a x r
some_more_rec_binds r = (_, r, no_rec_bind)

pub some_more_names : (r : List Token) → (a : List (List ℕ)) × (x : List Token) × IsMoreNames a x r
some_more_names r = (_, r, no_name)

pub some_more_args : (r : List Token) → (a : List Expr) × (x : List Token) × IsMoreArgs a x r
some_more_args r = (_, r, no_arg)

pub some_elsifs : (r : List Token) → (a : List Arm) × (x : List Token) × IsElsifs a x r
some_elsifs r = (_, r, no_elsif)

pub some_guards : (r : List Token) → (a : List Arm) × (x : List Token) × IsGuards a x r
some_guards r = (_, r, no_guard)

pub some_more_fields : (r : List Token) → (a : List Field) × (x : List Token) × IsMoreFields a x r
some_more_fields r = (_, r, no_further_field)

pub some_block : (r : List Token) → (a : Block) × (x : List Token) × IsBlock a x r
some_block r = (_, r, empty)

pub some_suffixes : (r : List Token) → (a : List Suffix) × (x : List Token) × IsSuffixes a x r
some_suffixes r = (_, r, no_suffix)

pub some_proc : (r : List Token) → (a : Proc) × (x : List Token) × IsProc a x r
some_proc r = (procedure [] (block [] 0) 0, token kw_proc 0 ∷ token sym_open 0 ∷ token sym_close 0 ∷ token kw_end 0 ∷ r, proc no_parameter empty)

pub some_names : (r : List Token) → (a : List (List ℕ)) × (x : List Token) × IsNames a x r
some_names r = ([] ∷ [], token (k.Name []) 0 ∷ r, names no_name)

pub some_parameters : (r : List Token) → (a : List (List ℕ)) × (x : List Token) × IsParameters a x r
some_parameters r = ([], token sym_close 0 ∷ r, no_parameter)

pub some_else : (r : List Token) → (a : Option Block) × (x : List Token) × IsElse a x r
some_else r = (None, token kw_end 0 ∷ r, no_else)

pub some_field_body : (r : List Token) → (a : FieldExpr) × (x : List Token) × IsFieldBody a x r
some_field_body r = let w = some_expr r in (_, w.1, value w.2)

pub some_both_flags : (r : List Token) → (a : List Field) × (x : List Token) × IsBothFlags a x r
some_both_flags r = ([], token sym_close_brace 0 ∷ r, flags_alone)

pub some_try : (r : List Token) → (a : Expr) × (x : List Token) × IsTryBody a x r
some_try r = (e.Finally (block [] 0) (block [] 0) 0, token kw_finally 0 ∷ token kw_end 0 ∷ r, try_body (finally {p = 0} {b = block [] 0} empty))

pub some_dotted : (r : List Token) → (a : Suffix) × (x : List Token) × IsDottedBody a x r
some_dotted r = (s.Invoke [] [] 0, token sym_open 0 ∷ token sym_close 0 ∷ r, dotted_body (invoke {n = []} {p = 0} no_argument))

-- What may stand behind a part.

pub more_behind : Behind EndsItem IsMore EndsBlock
more_behind = record { before = λ b x r m h. before_more m h; some = some_more }

pub more_binds_behind : Behind EndsExpr IsMoreBinds EndsArgs
more_binds_behind = record { before = λ b x r m h. before_binds m h; some = some_more_binds }

pub more_args_behind : Behind EndsExpr IsMoreArgs EndsArgs
more_args_behind = record { before = λ b x r m h. before_args m h; some = some_more_args }

pub more_fields_behind : Behind EndsExpr IsMoreFields EndsArgs
more_fields_behind = record { before = λ b x r m h. before_fields m h; some = some_more_fields }

pub elsifs_behind : Behind EndsBlock IsElsifs EndsElsifs
elsifs_behind = record { before = λ b x r m h. before_elsifs m h; some = some_elsifs }

pub guards_behind : Behind EndsBlock IsGuards EndsGuards
guards_behind = record { before = λ b x r m h. before_guards m h; some = some_guards }

pub links_behind : {l : ℕ} → Behind (EndsLevel l) (IsLinks l) (EndsLevel (suc l))
links_behind = record { before = λ b x r m h. before_links m h; some = λ r. ([], r, no_link) }

pub else_behind : {T : TokenKind → Type 0} → Behind EndsElsifs IsElse T
else_behind = record { before = λ b x r m h. first_else m; some = some_else }

pub else_behind_guards : {T : TokenKind → Type 0} → Behind EndsGuards IsElse T
else_behind_guards = record { before = λ b x r m h. else_guards m; some = some_else }

try_before : {v : Expr} {x r : List Token} → IsTryBody v x r → EndsBlock (next x)
try_before (try_body p) = first_try p

pub try_behind : {T : TokenKind → Type 0} → Behind EndsBlock IsTryBody T
try_behind = record { before = λ b x r m h. try_before m; some = some_try }

-- what begins so isn't that word
pub begins_no : (P : TokenKind → Type 0) (w kind : TokenKind) → P kind → (P w → ⊥) → No (is_word w kind)
begins_no P w kind p other = not_yes (is_word w kind) (λ y. other (subst P (sym (is_word_same w kind y)) p))
