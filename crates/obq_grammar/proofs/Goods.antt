-- Each N begins in one way, and doesn't depend on what stands behind it.
use Rattle.std.proofs.Common.{ℕ, suc}
use Rattle.obq_base.specs.declared.tokens.TokenKind.{TokenKind}
use Rattle.obq_model.specs.Nodes.{next}
use Rattle.obq_model.specs.Grammar.{IsNoOpen, IsBlock, IsItem, IsBinds, IsBind, IsRecBinds, IsRecBind, IsFieldBody, IsMeth, IsParameters, IsNames, IsExpr, IsLevel, IsLinks, IsCall, IsArgs, IsPrim, IsArm, IsElsifs, IsGuard, IsGuards, IsFields, IsField}
use Rattle.obq_grammar.specs.Follow.{Anything, EndsSuffixed, EndsLevel, EndsExpr, EndsNames, EndsArgs, EndsItem, EndsBlock, EndsElsifs, EndsGuards}
use Rattle.obq_grammar.proofs.Theory.{Good}
use Rattle.obq_grammar.proofs.Sets.{no_open, suffixed_dotted, level_suffixed, expr_suffixed, args_expr, item_expr, block_item, elsifs_block, guards_block}
use Rattle.obq_grammar.proofs.Unique.{unique_block, unique_item, unique_binds, unique_bind, unique_rec_binds, unique_rec_bind, unique_field_body, unique_meth, unique_parameters, unique_names, unique_expr, unique_level, unique_links, unique_call, unique_args, unique_prim, unique_arm, unique_elsifs, unique_guard, unique_guards, unique_fields, unique_field}
use Rattle.obq_grammar.proofs.Local.{local_block, local_item, local_binds, local_bind, local_rec_binds, local_rec_bind, local_field_body, local_meth, local_parameters, local_names, local_expr, local_level, local_links, local_call, local_args, local_prim, local_arm, local_elsifs, local_guard, local_guards, local_fields, local_field}

-- a token that may stand behind such an N is no "("
not_open : (kind : TokenKind) → EndsSuffixed kind → IsNoOpen kind
not_open kind h = no_open kind (suffixed_dotted kind h)

expr_open : (kind : TokenKind) → EndsExpr kind → IsNoOpen kind
expr_open kind h = not_open kind (expr_suffixed kind h)

args_open : (kind : TokenKind) → EndsArgs kind → IsNoOpen kind
args_open kind h = expr_open kind (args_expr kind h)

item_open : (kind : TokenKind) → EndsItem kind → IsNoOpen kind
item_open kind h = expr_open kind (item_expr kind h)

block_open : (kind : TokenKind) → EndsBlock kind → IsNoOpen kind
block_open kind h = item_open kind (block_item kind h)

pub good_block : Good IsBlock EndsBlock
good_block = record { unique = λ a b x r s p h q k. unique_block p h b s q k; local = λ a x r p v h. local_block p v (λ g. block_open (next v) h) }

pub good_item : Good IsItem EndsItem
good_item = record { unique = λ a b x r s p h q k. unique_item p h b s q k; local = λ a x r p v h. local_item p v (λ g. item_open (next v) h) }

pub good_binds : Good IsBinds EndsArgs
good_binds = record { unique = λ a b x r s p h q k. unique_binds p h b s q k; local = λ a x r p v h. local_binds p v (λ g. args_open (next v) h) }

pub good_bind : Good IsBind EndsExpr
good_bind = record { unique = λ a b x r s p h q k. unique_bind p h b s q k; local = λ a x r p v h. local_bind p v (λ g. expr_open (next v) h) }

pub good_rec_binds : Good IsRecBinds EndsNames
good_rec_binds = record { unique = λ a b x r s p h q k. unique_rec_binds p h b s q k; local = λ a x r p v h. local_rec_binds p v }

pub good_rec_bind : Good IsRecBind Anything
good_rec_bind = record { unique = λ a b x r s p h q k. unique_rec_bind p b s q k; local = λ a x r p v h. local_rec_bind p v }

pub good_field_body : Good IsFieldBody EndsExpr
good_field_body = record { unique = λ a b x r s p h q k. unique_field_body p h b s q k; local = λ a x r p v h. local_field_body p v (λ g. expr_open (next v) h) }

pub good_meth : Good IsMeth Anything
good_meth = record { unique = λ a b x r s p h q k. unique_meth p b s q k; local = λ a x r p v h. local_meth p v }

pub good_parameters : Good IsParameters Anything
good_parameters = record { unique = λ a b x r s p h q k. unique_parameters p b s q k; local = λ a x r p v h. local_parameters p v }

pub good_names : Good IsNames EndsNames
good_names = record { unique = λ a b x r s p h q k. unique_names p h b s q k; local = λ a x r p v h. local_names p v }

pub good_expr : Good IsExpr EndsExpr
good_expr = record { unique = λ a b x r s p h q k. unique_expr p h b s q k; local = λ a x r p v h. local_expr p v (λ g. expr_open (next v) h) }

pub good_level : (l : ℕ) → Good (IsLevel l) (EndsLevel l)
good_level l = record { unique = λ a b x r s p h q k. unique_level p h b s q k; local = λ a x r p v h. local_level p v (λ g. not_open (next v) (level_suffixed l (next v) h)) }

pub good_links : (l : ℕ) → Good (IsLinks l) (EndsLevel (suc l))
good_links l = record { unique = λ a b x r s p h q k. unique_links p h b s q k; local = λ a x r p v h. local_links p v (λ g. not_open (next v) (level_suffixed (suc l) (next v) h)) }

pub good_call : Good IsCall Anything
good_call = record { unique = λ a b x r s p h q k. unique_call p b s q k; local = λ a x r p v h. local_call p v }

pub good_args : Good IsArgs EndsArgs
good_args = record { unique = λ a b x r s p h q k. unique_args p h b s q k; local = λ a x r p v h. local_args p v (λ g. args_open (next v) h) }

pub good_prim : Good IsPrim Anything
good_prim = record { unique = λ a b x r s p h q k. unique_prim p b s q k; local = λ a x r p v h. local_prim p v }

pub good_arm : Good IsArm EndsBlock
good_arm = record { unique = λ a b x r s p h q k. unique_arm p h b s q k; local = λ a x r p v h. local_arm p v (λ g. block_open (next v) h) }

pub good_elsifs : Good IsElsifs EndsElsifs
good_elsifs = record { unique = λ a b x r s p h q k. unique_elsifs p h b s q k; local = λ a x r p v h. local_elsifs p v (λ g. block_open (next v) (elsifs_block (next v) h)) }

pub good_guard : Good IsGuard EndsBlock
good_guard = record { unique = λ a b x r s p h q k. unique_guard p h b s q k; local = λ a x r p v h. local_guard p v (λ g. block_open (next v) h) }

pub good_guards : Good IsGuards EndsGuards
good_guards = record { unique = λ a b x r s p h q k. unique_guards p h b s q k; local = λ a x r p v h. local_guards p v (λ g. block_open (next v) (guards_block (next v) h)) }

pub good_fields : Good IsFields EndsArgs
good_fields = record { unique = λ a b x r s p h q k. unique_fields p h b s q k; local = λ a x r p v h. local_fields p v (λ g. args_open (next v) h) }

pub good_field : Good IsField EndsExpr
good_field = record { unique = λ a b x r s p h q k. unique_field p h b s q k; local = λ a x r p v h. local_field p v (λ g. expr_open (next v) h) }
