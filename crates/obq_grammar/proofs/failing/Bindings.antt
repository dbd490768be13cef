-- Names, procedures and bindings. `C_at_i`: where the part i of the production C fails, what the production derives fails; the arguments are the parts before it
-- (a word or a name by the tokens that begin with it, another part by its derivation and by the token behind it), and then how part i fails.
-- `C_end`: behind the last part stands what may not stand behind the production. `C_of`: the production from its parts. `C_step`: one more of a list so far.
use Rattle.std.proofs.Common.{◌≡◌, ℕ, List, ◌∷◌}
use Rattle.obq_base.specs.declared.tokens.Token.{Token}
use Rattle.obq_base.specs.declared.tokens.TokenKind.TheVariants as k
use Rattle.obq_base.specs.declared.trees.Block.{Block}
use Rattle.obq_base.specs.declared.trees.Bind.{Bind}
use Rattle.obq_base.specs.declared.trees.RecBind.{RecBind}
use Rattle.obq_base.specs.declared.trees.Proc.{Proc}
use Rattle.obq_base.specs.declared.trees.Expr.{Expr}
use Rattle.obq_model.specs.Words.{kw_end, kw_meth, kw_proc, sym_open, sym_close, sym_comma, sym_equals}
use Rattle.obq_model.specs.Nodes.{token, next, bind, rec_bind, procedure}
use Rattle.obq_model.specs.Grammar.{IsBlock, IsBinds, IsMoreBinds, IsBind, IsRecBinds, IsMoreRecBinds, IsRecBind, IsMeth, IsProc, IsParameters, IsNames, IsMoreNames, IsExpr, binds, one_bind, bind_of, rec_binds, one_rec_bind, rec_bind_of, meth, proc, no_parameter, parameters, names, one_name}
use Rattle.obq_grammar.specs.Fails.{Fails}
use Rattle.obq_grammar.specs.Follow.{No, is_word, Anything, EndsExpr, EndsNames, EndsArgs, EndsBlock, BeginsName}
use Rattle.obq_grammar.proofs.Theory.{move, upto}
use Rattle.obq_grammar.proofs.Firsts.{first_names}
use Rattle.obq_grammar.proofs.Goods.{good_block, good_bind, good_rec_bind, good_parameters, good_names}
use Rattle.obq_grammar.specs.Parts.{IsWord, the_word, IsName, the_name, Then, then_}
use Rattle.obq_grammar.proofs.failing.Sequences.{Behind, anything, word_behind, then_behind, first, second, production, opened, good_word, good_name, word, named, also, other_word, other_name}
use Rattle.obq_grammar.proofs.failing.Beginnings.{some_expr, some_more_rec_binds, some_more_names, some_block, some_proc, some_names, some_parameters, more_binds_behind, begins_no}

-- what may stand behind a part

block_end_behind : Behind Anything (Then IsBlock (IsWord kw_end)) Anything
block_end_behind = then_behind {V = EndsBlock} (anything some_block) (word_behind tt)

parameters_block_end_behind : Behind Anything (Then IsParameters (Then IsBlock (IsWord kw_end))) Anything
parameters_block_end_behind = then_behind {V = Anything} (anything some_parameters) block_end_behind

close_block_end_behind : Behind EndsNames (Then (IsWord sym_close) (Then IsBlock (IsWord kw_end))) Anything
close_block_end_behind = then_behind {V = Anything} (word_behind tt) block_end_behind

names_close_block_end_behind : Behind Anything (Then IsNames (Then (IsWord sym_close) (Then IsBlock (IsWord kw_end)))) Anything
names_close_block_end_behind = then_behind {V = EndsNames} (anything some_names) close_block_end_behind

equals_expr_behind : Behind Anything (Then (IsWord sym_equals) IsExpr) EndsExpr
equals_expr_behind = then_behind {V = Anything} (word_behind tt) (anything some_expr)

equals_proc_behind : Behind Anything (Then (IsWord sym_equals) IsProc) Anything
equals_proc_behind = then_behind {V = Anything} (word_behind tt) (anything some_proc)

-- the productions

names_split : {a : List (List ℕ)} {y s : List Token} → IsNames a y s → EndsNames (next s) → (b : Unit {0}) × (Then IsName IsMoreNames) b y s
names_split (names p2) h = (_, then_ the_name p2)

names_join : {b : Unit {0}} {y s : List Token} → (Then IsName IsMoreNames) b y s → (a : List (List ℕ)) × IsNames a y s
names_join (then_ the_name p2) = (_, names p2)

names_fails : {x z : List Token} → Fails (Then IsName IsMoreNames) EndsNames x z → Fails IsNames EndsNames x z
names_fails = production Anything (λ a y s n l h. names_split l h) (λ b y s m. names_join m) tt

pub names_at_1 : {x : List Token} → (BeginsName (next x) → ⊥) → Fails IsNames EndsNames x x
names_at_1 f = names_fails (first (anything some_more_names) (other_name f))

pub names_at_2 : {n : List ℕ} {p : ℕ} {x x1 z : List Token} → x ≡ token (k.Name n) p ∷ x1 → Fails IsMoreNames EndsNames x1 z → Fails IsNames EndsNames x z
names_at_2 e1 f = names_fails (second good_name (anything some_more_names) (named e1) tt f)

pub names_of : {n : List ℕ} {ns : List (List ℕ)} {p : ℕ} {x x1 r : List Token} → x ≡ token (k.Name n) p ∷ x1 → IsMoreNames ns x1 r → IsNames (n ∷ ns) x r
names_of e1 p2 = move IsNames _ _ _ _ e1 (names p2)

pub one_name_of : {n : List ℕ} {ns : List (List ℕ)} {p q : ℕ} {x x1 x2 r : List Token} → x ≡ token sym_comma p ∷ x1 → x1 ≡ token (k.Name n) q ∷ x2 → IsMoreNames ns x2 r → IsMoreNames (n ∷ ns) x r
one_name_of e1 e2 p3 = move IsMoreNames _ _ _ _ (also e1 e2) (one_name p3)

parameters_split : {a : List (List ℕ)} {y s : List Token} → No (is_word sym_close (next y)) → IsParameters a y s → Anything (next s) → (b : Unit {0}) × (Then IsNames (IsWord sym_close)) b y s
parameters_split n no_parameter h = absurd n
parameters_split n (parameters p1) h = (_, then_ p1 the_word)

parameters_join : {b : Unit {0}} {y s : List Token} → (Then IsNames (IsWord sym_close)) b y s → (a : List (List ℕ)) × IsParameters a y s
parameters_join (then_ p1 the_word) = (_, parameters p1)

parameters_fails : {x z : List Token} → No (is_word sym_close (next x)) → Fails (Then IsNames (IsWord sym_close)) Anything x z → Fails IsParameters Anything x z
parameters_fails c = production (λ kind. No (is_word sym_close kind)) (λ a y s n l h. parameters_split n l h) (λ b y s m. parameters_join m) c

pub parameters_at_1 : {x z : List Token} → No (is_word sym_close (next x)) → Fails IsNames EndsNames x z → Fails IsParameters Anything x z
parameters_at_1 n f = parameters_fails n (first (word_behind tt) f)

pub parameters_at_2 : {ns : List (List ℕ)} {x x1 : List Token} → IsNames ns x x1 → EndsNames (next x1) → No (is_word sym_close (next x1)) → Fails IsParameters Anything x x1
parameters_at_2 {x = x} p1 h1 f = parameters_fails (begins_no BeginsName sym_close (next x) (first_names p1) (λ n. n)) (second good_names (word_behind tt) p1 h1 (other_word tt f))

pub parameters_of : {ns : List (List ℕ)} {p : ℕ} {x x1 r : List Token} → IsNames ns x x1 → x1 ≡ token sym_close p ∷ r → IsParameters ns x r
parameters_of p1 e2 = parameters (upto IsNames e2 p1)

proc_split : {a : Proc} {p : ℕ} {y s : List Token} → IsProc a (token kw_proc p ∷ y) s → Anything (next s) → (b : Unit {0}) × (Then (IsWord sym_open) (Then IsParameters (Then IsBlock (IsWord kw_end)))) b y s
proc_split (proc p3 p4) h = (_, then_ the_word (then_ p3 (then_ p4 the_word)))

proc_join : {b : Unit {0}} {y s : List Token} (p : ℕ) → (Then (IsWord sym_open) (Then IsParameters (Then IsBlock (IsWord kw_end)))) b y s → (a : Proc) × IsProc a (token kw_proc p ∷ y) s
proc_join p (then_ the_word (then_ p3 (then_ p4 the_word))) = (_, proc p3 p4)

proc_fails : {p : ℕ} {x y z : List Token} → x ≡ token kw_proc p ∷ y → Fails (Then (IsWord sym_open) (Then IsParameters (Then IsBlock (IsWord kw_end)))) Anything y z → Fails IsProc Anything x z
proc_fails e = opened (λ p a y s l h. proc_split l h) (λ p b y s m. proc_join p m) (word e)

pub proc_at_2 : {p : ℕ} {x x1 : List Token} → x ≡ token kw_proc p ∷ x1 → No (is_word sym_open (next x1)) → Fails IsProc Anything x x1
proc_at_2 e1 f = proc_fails e1 (first parameters_block_end_behind (other_word tt f))

pub proc_at_3 : {p q : ℕ} {x x1 x2 z : List Token} → x ≡ token kw_proc p ∷ x1 → x1 ≡ token sym_open q ∷ x2 → Fails IsParameters Anything x2 z → Fails IsProc Anything x z
proc_at_3 e1 e2 f = proc_fails e1 (second good_word parameters_block_end_behind (word e2) tt (first block_end_behind f))

pub proc_at_4 : {ns : List (List ℕ)} {p q : ℕ} {x x1 x2 x3 z : List Token} → x ≡ token kw_proc p ∷ x1 → x1 ≡ token sym_open q ∷ x2 → IsParameters ns x2 x3 → Fails IsBlock EndsBlock x3 z → Fails IsProc Anything x z
proc_at_4 e1 e2 p3 f = proc_fails e1 (second good_word parameters_block_end_behind (word e2) tt (second good_parameters block_end_behind p3 tt (first (word_behind tt) f)))

pub proc_at_5 : {ns : List (List ℕ)} {b : Block} {p q : ℕ} {x x1 x2 x3 x4 : List Token} → x ≡ token kw_proc p ∷ x1 → x1 ≡ token sym_open q ∷ x2 → IsParameters ns x2 x3 → IsBlock b x3 x4 → EndsBlock (next x4) → No (is_word kw_end (next x4)) → Fails IsProc Anything x x4
proc_at_5 e1 e2 p3 p4 h4 f = proc_fails e1 (second good_word parameters_block_end_behind (word e2) tt (second good_parameters block_end_behind p3 tt (second good_block (word_behind tt) p4 h4 (other_word tt f))))

pub proc_of : {ns : List (List ℕ)} {b : Block} {p q t : ℕ} {x x1 x2 x3 x4 r : List Token} → x ≡ token kw_proc p ∷ x1 → x1 ≡ token sym_open q ∷ x2 → IsParameters ns x2 x3 → IsBlock b x3 x4 → x4 ≡ token kw_end t ∷ r → IsProc (procedure ns b p) x r
proc_of e1 e2 p3 p4 e5 = move IsProc _ _ _ _ (also e1 e2) (proc p3 (upto IsBlock e5 p4))

meth_split : {a : Proc} {p : ℕ} {y s : List Token} → IsMeth a (token kw_meth p ∷ y) s → Anything (next s) → (b : Unit {0}) × (Then (IsWord sym_open) (Then IsNames (Then (IsWord sym_close) (Then IsBlock (IsWord kw_end))))) b y s
meth_split (meth p3 p5) h = (_, then_ the_word (then_ p3 (then_ the_word (then_ p5 the_word))))

meth_join : {b : Unit {0}} {y s : List Token} (p : ℕ) → (Then (IsWord sym_open) (Then IsNames (Then (IsWord sym_close) (Then IsBlock (IsWord kw_end))))) b y s → (a : Proc) × IsMeth a (token kw_meth p ∷ y) s
meth_join p (then_ the_word (then_ p3 (then_ the_word (then_ p5 the_word)))) = (_, meth p3 p5)

meth_fails : {p : ℕ} {x y z : List Token} → x ≡ token kw_meth p ∷ y → Fails (Then (IsWord sym_open) (Then IsNames (Then (IsWord sym_close) (Then IsBlock (IsWord kw_end))))) Anything y z → Fails IsMeth Anything x z
meth_fails e = opened (λ p a y s l h. meth_split l h) (λ p b y s m. meth_join p m) (word e)

pub meth_at_2 : {p : ℕ} {x x1 : List Token} → x ≡ token kw_meth p ∷ x1 → No (is_word sym_open (next x1)) → Fails IsMeth Anything x x1
meth_at_2 e1 f = meth_fails e1 (first names_close_block_end_behind (other_word tt f))

pub meth_at_3 : {p q : ℕ} {x x1 x2 z : List Token} → x ≡ token kw_meth p ∷ x1 → x1 ≡ token sym_open q ∷ x2 → Fails IsNames EndsNames x2 z → Fails IsMeth Anything x z
meth_at_3 e1 e2 f = meth_fails e1 (second good_word names_close_block_end_behind (word e2) tt (first close_block_end_behind f))

pub meth_at_4 : {ns : List (List ℕ)} {p q : ℕ} {x x1 x2 x3 : List Token} → x ≡ token kw_meth p ∷ x1 → x1 ≡ token sym_open q ∷ x2 → IsNames ns x2 x3 → EndsNames (next x3) → No (is_word sym_close (next x3)) → Fails IsMeth Anything x x3
meth_at_4 e1 e2 p3 h3 f = meth_fails e1 (second good_word names_close_block_end_behind (word e2) tt (second good_names close_block_end_behind p3 h3 (first block_end_behind (other_word tt f))))

pub meth_at_5 : {ns : List (List ℕ)} {p q t : ℕ} {x x1 x2 x3 x4 z : List Token} → x ≡ token kw_meth p ∷ x1 → x1 ≡ token sym_open q ∷ x2 → IsNames ns x2 x3 → EndsNames (next x3) → x3 ≡ token sym_close t ∷ x4 → Fails IsBlock EndsBlock x4 z → Fails IsMeth Anything x z
meth_at_5 e1 e2 p3 h3 e4 f = meth_fails e1 (second good_word names_close_block_end_behind (word e2) tt (second good_names close_block_end_behind p3 h3 (second good_word block_end_behind (word e4) tt (first (word_behind tt) f))))

pub meth_at_6 : {ns : List (List ℕ)} {b : Block} {p q t : ℕ} {x x1 x2 x3 x4 x5 : List Token} → x ≡ token kw_meth p ∷ x1 → x1 ≡ token sym_open q ∷ x2 → IsNames ns x2 x3 → EndsNames (next x3) → x3 ≡ token sym_close t ∷ x4 → IsBlock b x4 x5 → EndsBlock (next x5) → No (is_word kw_end (next x5)) → Fails IsMeth Anything x x5
meth_at_6 e1 e2 p3 h3 e4 p5 h5 f = meth_fails e1 (second good_word names_close_block_end_behind (word e2) tt (second good_names close_block_end_behind p3 h3 (second good_word block_end_behind (word e4) tt (second good_block (word_behind tt) p5 h5 (other_word tt f)))))

pub meth_of : {ns : List (List ℕ)} {b : Block} {p q t u : ℕ} {x x1 x2 x3 x4 x5 r : List Token} → x ≡ token kw_meth p ∷ x1 → x1 ≡ token sym_open q ∷ x2 → IsNames ns x2 x3 → x3 ≡ token sym_close t ∷ x4 → IsBlock b x4 x5 → x5 ≡ token kw_end u ∷ r → IsMeth (procedure ns b p) x r
meth_of e1 e2 p3 e4 p5 e6 = move IsMeth _ _ _ _ (also e1 e2) (meth (upto IsNames e4 p3) (upto IsBlock e6 p5))

bind_of_split : {a : Bind} {y s : List Token} → IsBind a y s → EndsExpr (next s) → (b : Unit {0}) × (Then IsName (Then (IsWord sym_equals) IsExpr)) b y s
bind_of_split (bind_of p3) h = (_, then_ the_name (then_ the_word p3))

bind_of_join : {b : Unit {0}} {y s : List Token} → (Then IsName (Then (IsWord sym_equals) IsExpr)) b y s → (a : Bind) × IsBind a y s
bind_of_join (then_ the_name (then_ the_word p3)) = (_, bind_of p3)

bind_of_fails : {x z : List Token} → Fails (Then IsName (Then (IsWord sym_equals) IsExpr)) EndsExpr x z → Fails IsBind EndsExpr x z
bind_of_fails = production Anything (λ a y s n l h. bind_of_split l h) (λ b y s m. bind_of_join m) tt

pub bind_of_at_1 : {x : List Token} → (BeginsName (next x) → ⊥) → Fails IsBind EndsExpr x x
bind_of_at_1 f = bind_of_fails (first equals_expr_behind (other_name f))

pub bind_of_at_2 : {n : List ℕ} {p : ℕ} {x x1 : List Token} → x ≡ token (k.Name n) p ∷ x1 → No (is_word sym_equals (next x1)) → Fails IsBind EndsExpr x x1
bind_of_at_2 e1 f = bind_of_fails (second good_name equals_expr_behind (named e1) tt (first (anything some_expr) (other_word tt f)))

pub bind_of_at_3 : {n : List ℕ} {p q : ℕ} {x x1 x2 z : List Token} → x ≡ token (k.Name n) p ∷ x1 → x1 ≡ token sym_equals q ∷ x2 → Fails IsExpr EndsExpr x2 z → Fails IsBind EndsExpr x z
bind_of_at_3 e1 e2 f = bind_of_fails (second good_name equals_expr_behind (named e1) tt (second good_word (anything some_expr) (word e2) tt f))

pub bind_of_of : {n : List ℕ} {v : Expr} {p q : ℕ} {x x1 x2 r : List Token} → x ≡ token (k.Name n) p ∷ x1 → x1 ≡ token sym_equals q ∷ x2 → IsExpr v x2 r → IsBind (bind n v p) x r
bind_of_of e1 e2 p3 = move IsBind _ _ _ _ (also e1 e2) (bind_of p3)

binds_split : {a : List Bind} {y s : List Token} → IsBinds a y s → EndsArgs (next s) → (b : Unit {0}) × (Then IsBind IsMoreBinds) b y s
binds_split (binds p1 p2) h = (_, then_ p1 p2)

binds_join : {b : Unit {0}} {y s : List Token} → (Then IsBind IsMoreBinds) b y s → (a : List Bind) × IsBinds a y s
binds_join (then_ p1 p2) = (_, binds p1 p2)

binds_fails : {x z : List Token} → Fails (Then IsBind IsMoreBinds) EndsArgs x z → Fails IsBinds EndsArgs x z
binds_fails = production Anything (λ a y s n l h. binds_split l h) (λ b y s m. binds_join m) tt

pub binds_at_1 : {x z : List Token} → Fails IsBind EndsExpr x z → Fails IsBinds EndsArgs x z
binds_at_1 f = binds_fails (first more_binds_behind f)

pub binds_at_2 : {b : Bind} {x x1 z : List Token} → IsBind b x x1 → EndsExpr (next x1) → Fails IsMoreBinds EndsArgs x1 z → Fails IsBinds EndsArgs x z
binds_at_2 p1 h1 f = binds_fails (second good_bind more_binds_behind p1 h1 f)

pub one_bind_of : {b : Bind} {bs : List Bind} {p : ℕ} {x x1 x2 r : List Token} → x ≡ token sym_comma p ∷ x1 → IsBind b x1 x2 → IsMoreBinds bs x2 r → IsMoreBinds (b ∷ bs) x r
one_bind_of e1 p2 p3 = move IsMoreBinds _ _ _ _ e1 (one_bind p2 p3)

rec_bind_of_split : {a : RecBind} {y s : List Token} → IsRecBind a y s → Anything (next s) → (b : Unit {0}) × (Then IsName (Then (IsWord sym_equals) IsProc)) b y s
rec_bind_of_split (rec_bind_of p3) h = (_, then_ the_name (then_ the_word p3))

rec_bind_of_join : {b : Unit {0}} {y s : List Token} → (Then IsName (Then (IsWord sym_equals) IsProc)) b y s → (a : RecBind) × IsRecBind a y s
rec_bind_of_join (then_ the_name (then_ the_word p3)) = (_, rec_bind_of p3)

rec_bind_of_fails : {x z : List Token} → Fails (Then IsName (Then (IsWord sym_equals) IsProc)) Anything x z → Fails IsRecBind Anything x z
rec_bind_of_fails = production Anything (λ a y s n l h. rec_bind_of_split l h) (λ b y s m. rec_bind_of_join m) tt

pub rec_bind_of_at_1 : {x : List Token} → (BeginsName (next x) → ⊥) → Fails IsRecBind Anything x x
rec_bind_of_at_1 f = rec_bind_of_fails (first equals_proc_behind (other_name f))

pub rec_bind_of_at_2 : {n : List ℕ} {p : ℕ} {x x1 : List Token} → x ≡ token (k.Name n) p ∷ x1 → No (is_word sym_equals (next x1)) → Fails IsRecBind Anything x x1
rec_bind_of_at_2 e1 f = rec_bind_of_fails (second good_name equals_proc_behind (named e1) tt (first (anything some_proc) (other_word tt f)))

pub rec_bind_of_at_3 : {n : List ℕ} {p q : ℕ} {x x1 x2 z : List Token} → x ≡ token (k.Name n) p ∷ x1 → x1 ≡ token sym_equals q ∷ x2 → Fails IsProc Anything x2 z → Fails IsRecBind Anything x z
rec_bind_of_at_3 e1 e2 f = rec_bind_of_fails (second good_name equals_proc_behind (named e1) tt (second good_word (anything some_proc) (word e2) tt f))

pub rec_bind_of_of : {n : List ℕ} {f : Proc} {p q : ℕ} {x x1 x2 r : List Token} → x ≡ token (k.Name n) p ∷ x1 → x1 ≡ token sym_equals q ∷ x2 → IsProc f x2 r → IsRecBind (rec_bind n f p) x r
rec_bind_of_of e1 e2 p3 = move IsRecBind _ _ _ _ (also e1 e2) (rec_bind_of p3)

rec_binds_split : {a : List RecBind} {y s : List Token} → IsRecBinds a y s → EndsNames (next s) → (b : Unit {0}) × (Then IsRecBind IsMoreRecBinds) b y s
rec_binds_split (rec_binds p1 p2) h = (_, then_ p1 p2)

rec_binds_join : {b : Unit {0}} {y s : List Token} → (Then IsRecBind IsMoreRecBinds) b y s → (a : List RecBind) × IsRecBinds a y s
rec_binds_join (then_ p1 p2) = (_, rec_binds p1 p2)

rec_binds_fails : {x z : List Token} → Fails (Then IsRecBind IsMoreRecBinds) EndsNames x z → Fails IsRecBinds EndsNames x z
rec_binds_fails = production Anything (λ a y s n l h. rec_binds_split l h) (λ b y s m. rec_binds_join m) tt

pub rec_binds_at_1 : {x z : List Token} → Fails IsRecBind Anything x z → Fails IsRecBinds EndsNames x z
rec_binds_at_1 f = rec_binds_fails (first (anything some_more_rec_binds) f)

pub rec_binds_at_2 : {b : RecBind} {x x1 z : List Token} → IsRecBind b x x1 → Fails IsMoreRecBinds EndsNames x1 z → Fails IsRecBinds EndsNames x z
rec_binds_at_2 p1 f = rec_binds_fails (second good_rec_bind (anything some_more_rec_binds) p1 tt f)

pub one_rec_bind_of : {b : RecBind} {bs : List RecBind} {p : ℕ} {x x1 x2 r : List Token} → x ≡ token sym_comma p ∷ x1 → IsRecBind b x1 x2 → IsMoreRecBinds bs x2 r → IsMoreRecBinds (b ∷ bs) x r
one_rec_bind_of e1 p2 p3 = move IsMoreRecBinds _ _ _ _ e1 (one_rec_bind p2 p3)
