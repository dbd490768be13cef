-- Primaries. `C_at_i`: where the part i of the production C fails, what the production derives fails; the arguments are the parts before it
-- (a word or a name by the tokens that begin with it, another part by its derivation and by the token behind it), and then how part i fails.
-- `C_end`: behind the last part stands what may not stand behind the production. `C_of`: the production from its parts. `C_step`: one more of a list so far.
use Rattle.std.proofs.Common.{◌≡◌, ℕ, List, ◌∷◌, Option}
use Rattle.obq_base.specs.declared.tokens.Token.{Token}
use Rattle.obq_base.specs.declared.tokens.TokenKind.TheVariants as k
use Rattle.obq_base.specs.declared.trees.Block.{Block}
use Rattle.obq_base.specs.declared.trees.Expr.{Expr}
use Rattle.obq_base.specs.declared.trees.Arm.{Arm}
use Rattle.obq_model.specs.Words.{kw_clone, kw_do, kw_end, kw_for, kw_foreach, kw_if, kw_in, kw_loop, kw_raise, kw_redirect, kw_to, kw_until, kw_watch, sym_open, sym_close, sym_equals, sym_open_bracket}
use Rattle.obq_model.specs.Nodes.{token, next}
use Rattle.obq_model.specs.Grammar.{IsBlock, IsExpr, IsArgs, IsPrim, IsArray, IsArm, IsElsifs, IsElse, proc_of, paren, array, if_, loop_, for, foreach, raise, watch, redirect, clone}
use Rattle.obq_grammar.specs.Fails.{Fails}
use Rattle.obq_grammar.specs.Follow.{No, is_word, Anything, EndsExpr, EndsArgs, EndsBlock, EndsElsifs, BeginsName}
use Rattle.obq_grammar.proofs.Theory.{move, upto}
use Rattle.obq_grammar.proofs.Goods.{good_block, good_expr, good_args, good_arm, good_elsifs}
use Rattle.obq_grammar.specs.Parts.{IsWord, the_word, IsName, the_name, Then, then_}
use Rattle.obq_grammar.proofs.failing.Sequences.{Behind, anything, word_behind, then_behind, first, second, opened, good_word, good_name, word, named, also, other_word, other_name}
use Rattle.obq_grammar.proofs.failing.Beginnings.{some_expr, some_args, some_block, elsifs_behind, else_behind}
use Rattle.obq_base.specs.declared.trees.Expr.TheVariants as e

-- what may stand behind a part

block_end_behind : Behind Anything (Then IsBlock (IsWord kw_end)) Anything
block_end_behind = then_behind {V = EndsBlock} (anything some_block) (word_behind tt)

do_block_end_behind : Behind EndsExpr (Then (IsWord kw_do) (Then IsBlock (IsWord kw_end))) Anything
do_block_end_behind = then_behind {V = Anything} (word_behind tt) block_end_behind

expr_do_block_end_behind : Behind Anything (Then IsExpr (Then (IsWord kw_do) (Then IsBlock (IsWord kw_end)))) Anything
expr_do_block_end_behind = then_behind {V = EndsExpr} (anything some_expr) do_block_end_behind

to_expr_do_block_end_behind : Behind EndsExpr (Then (IsWord kw_to) (Then IsExpr (Then (IsWord kw_do) (Then IsBlock (IsWord kw_end))))) Anything
to_expr_do_block_end_behind = then_behind {V = Anything} (word_behind tt) expr_do_block_end_behind

expr_to_expr_do_block_end_behind : Behind Anything (Then IsExpr (Then (IsWord kw_to) (Then IsExpr (Then (IsWord kw_do) (Then IsBlock (IsWord kw_end)))))) Anything
expr_to_expr_do_block_end_behind = then_behind {V = EndsExpr} (anything some_expr) to_expr_do_block_end_behind

equals_expr_to_expr_do_block_end_behind : Behind Anything (Then (IsWord sym_equals) (Then IsExpr (Then (IsWord kw_to) (Then IsExpr (Then (IsWord kw_do) (Then IsBlock (IsWord kw_end))))))) Anything
equals_expr_to_expr_do_block_end_behind = then_behind {V = Anything} (word_behind tt) expr_to_expr_do_block_end_behind

in_expr_do_block_end_behind : Behind Anything (Then (IsWord kw_in) (Then IsExpr (Then (IsWord kw_do) (Then IsBlock (IsWord kw_end))))) Anything
in_expr_do_block_end_behind = then_behind {V = Anything} (word_behind tt) expr_do_block_end_behind

expr_close_behind : Behind Anything (Then IsExpr (IsWord sym_close)) Anything
expr_close_behind = then_behind {V = EndsExpr} (anything some_expr) (word_behind tt)

expr_end_behind : Behind Anything (Then IsExpr (IsWord kw_end)) Anything
expr_end_behind = then_behind {V = EndsExpr} (anything some_expr) (word_behind tt)

until_expr_end_behind : Behind EndsExpr (Then (IsWord kw_until) (Then IsExpr (IsWord kw_end))) Anything
until_expr_end_behind = then_behind {V = Anything} (word_behind tt) expr_end_behind

to_expr_end_behind : Behind EndsExpr (Then (IsWord kw_to) (Then IsExpr (IsWord kw_end))) Anything
to_expr_end_behind = then_behind {V = Anything} (word_behind tt) expr_end_behind

args_close_behind : Behind Anything (Then IsArgs (IsWord sym_close)) Anything
args_close_behind = then_behind {V = EndsArgs} (anything some_args) (word_behind tt)

elsifs_else_behind : Behind EndsBlock (Then IsElsifs IsElse) Anything
elsifs_else_behind = then_behind {V = EndsElsifs} elsifs_behind else_behind

-- the productions

paren_split : {a : Expr} {p : ℕ} {y s : List Token} → IsPrim a (token sym_open p ∷ y) s → Anything (next s) → (b : Unit {0}) × (Then IsExpr (IsWord sym_close)) b y s
paren_split (proc_of p) h = elim p [ ]
paren_split (paren p2) h = (_, then_ p2 the_word)

paren_join : {b : Unit {0}} {y s : List Token} (p : ℕ) → (Then IsExpr (IsWord sym_close)) b y s → (a : Expr) × IsPrim a (token sym_open p ∷ y) s
paren_join p (then_ p2 the_word) = (_, paren p2)

paren_fails : {p : ℕ} {x y z : List Token} → x ≡ token sym_open p ∷ y → Fails (Then IsExpr (IsWord sym_close)) Anything y z → Fails IsPrim Anything x z
paren_fails e = opened (λ p a y s l h. paren_split l h) (λ p b y s m. paren_join p m) (word e)

pub paren_at_2 : {p : ℕ} {x x1 z : List Token} → x ≡ token sym_open p ∷ x1 → Fails IsExpr EndsExpr x1 z → Fails IsPrim Anything x z
paren_at_2 e1 f = paren_fails e1 (first (word_behind tt) f)

pub paren_at_3 : {v : Expr} {p : ℕ} {x x1 x2 : List Token} → x ≡ token sym_open p ∷ x1 → IsExpr v x1 x2 → EndsExpr (next x2) → No (is_word sym_close (next x2)) → Fails IsPrim Anything x x2
paren_at_3 e1 p2 h2 f = paren_fails e1 (second good_expr (word_behind tt) p2 h2 (other_word tt f))

pub paren_of : {v : Expr} {p q : ℕ} {x x1 x2 r : List Token} → x ≡ token sym_open p ∷ x1 → IsExpr v x1 x2 → x2 ≡ token sym_close q ∷ r → IsPrim v x r
paren_of e1 p2 e3 = move IsPrim _ _ _ _ e1 (paren (upto IsExpr e3 p2))

array_split : {a : Expr} {p : ℕ} {y s : List Token} → IsPrim a (token sym_open_bracket p ∷ y) s → Anything (next s) → (b : List Expr) × IsArray b y s
array_split (proc_of p) h = elim p [ ]
array_split (array p2) h = (_, p2)

array_join : {b : List Expr} {y s : List Token} (p : ℕ) → IsArray b y s → (a : Expr) × IsPrim a (token sym_open_bracket p ∷ y) s
array_join p p2 = (_, array p2)

array_fails : {p : ℕ} {x y z : List Token} → x ≡ token sym_open_bracket p ∷ y → Fails IsArray Anything y z → Fails IsPrim Anything x z
array_fails e = opened (λ p a y s l h. array_split l h) (λ p b y s m. array_join p m) (word e)

pub array_at_2 : {p : ℕ} {x x1 z : List Token} → x ≡ token sym_open_bracket p ∷ x1 → Fails IsArray Anything x1 z → Fails IsPrim Anything x z
array_at_2 e1 f = array_fails e1 f

pub array_of : {vs : List Expr} {p : ℕ} {x x1 r : List Token} → x ≡ token sym_open_bracket p ∷ x1 → IsArray vs x1 r → IsPrim (e.Array vs p) x r
array_of e1 p2 = move IsPrim _ _ _ _ e1 (array p2)

loop_split : {a : Expr} {p : ℕ} {y s : List Token} → IsPrim a (token kw_loop p ∷ y) s → Anything (next s) → (b : Unit {0}) × (Then IsBlock (IsWord kw_end)) b y s
loop_split (proc_of p) h = elim p [ ]
loop_split (loop_ p2) h = (_, then_ p2 the_word)

loop_join : {b : Unit {0}} {y s : List Token} (p : ℕ) → (Then IsBlock (IsWord kw_end)) b y s → (a : Expr) × IsPrim a (token kw_loop p ∷ y) s
loop_join p (then_ p2 the_word) = (_, loop_ p2)

loop_fails : {p : ℕ} {x y z : List Token} → x ≡ token kw_loop p ∷ y → Fails (Then IsBlock (IsWord kw_end)) Anything y z → Fails IsPrim Anything x z
loop_fails e = opened (λ p a y s l h. loop_split l h) (λ p b y s m. loop_join p m) (word e)

pub loop_at_2 : {p : ℕ} {x x1 z : List Token} → x ≡ token kw_loop p ∷ x1 → Fails IsBlock EndsBlock x1 z → Fails IsPrim Anything x z
loop_at_2 e1 f = loop_fails e1 (first (word_behind tt) f)

pub loop_at_3 : {b : Block} {p : ℕ} {x x1 x2 : List Token} → x ≡ token kw_loop p ∷ x1 → IsBlock b x1 x2 → EndsBlock (next x2) → No (is_word kw_end (next x2)) → Fails IsPrim Anything x x2
loop_at_3 e1 p2 h2 f = loop_fails e1 (second good_block (word_behind tt) p2 h2 (other_word tt f))

pub loop_of : {b : Block} {p q : ℕ} {x x1 x2 r : List Token} → x ≡ token kw_loop p ∷ x1 → IsBlock b x1 x2 → x2 ≡ token kw_end q ∷ r → IsPrim (e.Loop b p) x r
loop_of e1 p2 e3 = move IsPrim _ _ _ _ e1 (loop_ (upto IsBlock e3 p2))

for_split : {a : Expr} {p : ℕ} {y s : List Token} → IsPrim a (token kw_for p ∷ y) s → Anything (next s) → (b : Unit {0}) × (Then IsName (Then (IsWord sym_equals) (Then IsExpr (Then (IsWord kw_to) (Then IsExpr (Then (IsWord kw_do) (Then IsBlock (IsWord kw_end)))))))) b y s
for_split (proc_of p) h = elim p [ ]
for_split (for p4 p6 p8) h = (_, then_ the_name (then_ the_word (then_ p4 (then_ the_word (then_ p6 (then_ the_word (then_ p8 the_word)))))))

for_join : {b : Unit {0}} {y s : List Token} (p : ℕ) → (Then IsName (Then (IsWord sym_equals) (Then IsExpr (Then (IsWord kw_to) (Then IsExpr (Then (IsWord kw_do) (Then IsBlock (IsWord kw_end)))))))) b y s → (a : Expr) × IsPrim a (token kw_for p ∷ y) s
for_join p (then_ the_name (then_ the_word (then_ p4 (then_ the_word (then_ p6 (then_ the_word (then_ p8 the_word))))))) = (_, for p4 p6 p8)

for_fails : {p : ℕ} {x y z : List Token} → x ≡ token kw_for p ∷ y → Fails (Then IsName (Then (IsWord sym_equals) (Then IsExpr (Then (IsWord kw_to) (Then IsExpr (Then (IsWord kw_do) (Then IsBlock (IsWord kw_end)))))))) Anything y z → Fails IsPrim Anything x z
for_fails e = opened (λ p a y s l h. for_split l h) (λ p b y s m. for_join p m) (word e)

pub for_at_2 : {p : ℕ} {x x1 : List Token} → x ≡ token kw_for p ∷ x1 → (BeginsName (next x1) → ⊥) → Fails IsPrim Anything x x1
for_at_2 e1 f = for_fails e1 (first equals_expr_to_expr_do_block_end_behind (other_name f))

pub for_at_3 : {n : List ℕ} {p q : ℕ} {x x1 x2 : List Token} → x ≡ token kw_for p ∷ x1 → x1 ≡ token (k.Name n) q ∷ x2 → No (is_word sym_equals (next x2)) → Fails IsPrim Anything x x2
for_at_3 e1 e2 f = for_fails e1 (second good_name equals_expr_to_expr_do_block_end_behind (named e2) tt (first expr_to_expr_do_block_end_behind (other_word tt f)))

pub for_at_4 : {n : List ℕ} {p q t : ℕ} {x x1 x2 x3 z : List Token} → x ≡ token kw_for p ∷ x1 → x1 ≡ token (k.Name n) q ∷ x2 → x2 ≡ token sym_equals t ∷ x3 → Fails IsExpr EndsExpr x3 z → Fails IsPrim Anything x z
for_at_4 e1 e2 e3 f = for_fails e1 (second good_name equals_expr_to_expr_do_block_end_behind (named e2) tt (second good_word expr_to_expr_do_block_end_behind (word e3) tt (first to_expr_do_block_end_behind f)))

pub for_at_5 : {n : List ℕ} {v : Expr} {p q t : ℕ} {x x1 x2 x3 x4 : List Token} → x ≡ token kw_for p ∷ x1 → x1 ≡ token (k.Name n) q ∷ x2 → x2 ≡ token sym_equals t ∷ x3 → IsExpr v x3 x4 → EndsExpr (next x4) → No (is_word kw_to (next x4)) → Fails IsPrim Anything x x4
for_at_5 e1 e2 e3 p4 h4 f = for_fails e1 (second good_name equals_expr_to_expr_do_block_end_behind (named e2) tt (second good_word expr_to_expr_do_block_end_behind (word e3) tt (second good_expr to_expr_do_block_end_behind p4 h4 (first expr_do_block_end_behind (other_word tt f)))))

pub for_at_6 : {n : List ℕ} {v : Expr} {p q t u : ℕ} {x x1 x2 x3 x4 x5 z : List Token} → x ≡ token kw_for p ∷ x1 → x1 ≡ token (k.Name n) q ∷ x2 → x2 ≡ token sym_equals t ∷ x3 → IsExpr v x3 x4 → EndsExpr (next x4) → x4 ≡ token kw_to u ∷ x5 → Fails IsExpr EndsExpr x5 z → Fails IsPrim Anything x z
for_at_6 e1 e2 e3 p4 h4 e5 f = for_fails e1 (second good_name equals_expr_to_expr_do_block_end_behind (named e2) tt (second good_word expr_to_expr_do_block_end_behind (word e3) tt (second good_expr to_expr_do_block_end_behind p4 h4 (second good_word expr_do_block_end_behind (word e5) tt (first do_block_end_behind f)))))

pub for_at_7 : {n : List ℕ} {v w : Expr} {p q t u : ℕ} {x x1 x2 x3 x4 x5 x6 : List Token} → x ≡ token kw_for p ∷ x1 → x1 ≡ token (k.Name n) q ∷ x2 → x2 ≡ token sym_equals t ∷ x3 → IsExpr v x3 x4 → EndsExpr (next x4) → x4 ≡ token kw_to u ∷ x5 → IsExpr w x5 x6 → EndsExpr (next x6) → No (is_word kw_do (next x6)) → Fails IsPrim Anything x x6
for_at_7 e1 e2 e3 p4 h4 e5 p6 h6 f = for_fails e1 (second good_name equals_expr_to_expr_do_block_end_behind (named e2) tt (second good_word expr_to_expr_do_block_end_behind (word e3) tt (second good_expr to_expr_do_block_end_behind p4 h4 (second good_word expr_do_block_end_behind (word e5) tt (second good_expr do_block_end_behind p6 h6 (first block_end_behind (other_word tt f)))))))

pub for_at_8 : {n : List ℕ} {v w : Expr} {p q t u c : ℕ} {x x1 x2 x3 x4 x5 x6 x7 z : List Token} → x ≡ token kw_for p ∷ x1 → x1 ≡ token (k.Name n) q ∷ x2 → x2 ≡ token sym_equals t ∷ x3 → IsExpr v x3 x4 → EndsExpr (next x4) → x4 ≡ token kw_to u ∷ x5 → IsExpr w x5 x6 → EndsExpr (next x6) → x6 ≡ token kw_do c ∷ x7 → Fails IsBlock EndsBlock x7 z → Fails IsPrim Anything x z
for_at_8 e1 e2 e3 p4 h4 e5 p6 h6 e7 f = for_fails e1 (second good_name equals_expr_to_expr_do_block_end_behind (named e2) tt (second good_word expr_to_expr_do_block_end_behind (word e3) tt (second good_expr to_expr_do_block_end_behind p4 h4 (second good_word expr_do_block_end_behind (word e5) tt (second good_expr do_block_end_behind p6 h6 (second good_word block_end_behind (word e7) tt (first (word_behind tt) f)))))))

pub for_at_9 : {n : List ℕ} {v w : Expr} {b : Block} {p q t u c : ℕ} {x x1 x2 x3 x4 x5 x6 x7 x8 : List Token} → x ≡ token kw_for p ∷ x1 → x1 ≡ token (k.Name n) q ∷ x2 → x2 ≡ token sym_equals t ∷ x3 → IsExpr v x3 x4 → EndsExpr (next x4) → x4 ≡ token kw_to u ∷ x5 → IsExpr w x5 x6 → EndsExpr (next x6) → x6 ≡ token kw_do c ∷ x7 → IsBlock b x7 x8 → EndsBlock (next x8) → No (is_word kw_end (next x8)) → Fails IsPrim Anything x x8
for_at_9 e1 e2 e3 p4 h4 e5 p6 h6 e7 p8 h8 f = for_fails e1 (second good_name equals_expr_to_expr_do_block_end_behind (named e2) tt (second good_word expr_to_expr_do_block_end_behind (word e3) tt (second good_expr to_expr_do_block_end_behind p4 h4 (second good_word expr_do_block_end_behind (word e5) tt (second good_expr do_block_end_behind p6 h6 (second good_word block_end_behind (word e7) tt (second good_block (word_behind tt) p8 h8 (other_word tt f))))))))

pub for_of : {n : List ℕ} {v w : Expr} {b : Block} {p q t u c d : ℕ} {x x1 x2 x3 x4 x5 x6 x7 x8 r : List Token} → x ≡ token kw_for p ∷ x1 → x1 ≡ token (k.Name n) q ∷ x2 → x2 ≡ token sym_equals t ∷ x3 → IsExpr v x3 x4 → x4 ≡ token kw_to u ∷ x5 → IsExpr w x5 x6 → x6 ≡ token kw_do c ∷ x7 → IsBlock b x7 x8 → x8 ≡ token kw_end d ∷ r → IsPrim (e.For n v w b p) x r
for_of e1 e2 e3 p4 e5 p6 e7 p8 e9 = move IsPrim _ _ _ _ (also e1 (also e2 e3)) (for (upto IsExpr e5 p4) (upto IsExpr e7 p6) (upto IsBlock e9 p8))

foreach_split : {a : Expr} {p : ℕ} {y s : List Token} → IsPrim a (token kw_foreach p ∷ y) s → Anything (next s) → (b : Unit {0}) × (Then IsName (Then (IsWord kw_in) (Then IsExpr (Then (IsWord kw_do) (Then IsBlock (IsWord kw_end)))))) b y s
foreach_split (proc_of p) h = elim p [ ]
foreach_split (foreach p4 p6) h = (_, then_ the_name (then_ the_word (then_ p4 (then_ the_word (then_ p6 the_word)))))

foreach_join : {b : Unit {0}} {y s : List Token} (p : ℕ) → (Then IsName (Then (IsWord kw_in) (Then IsExpr (Then (IsWord kw_do) (Then IsBlock (IsWord kw_end)))))) b y s → (a : Expr) × IsPrim a (token kw_foreach p ∷ y) s
foreach_join p (then_ the_name (then_ the_word (then_ p4 (then_ the_word (then_ p6 the_word))))) = (_, foreach p4 p6)

foreach_fails : {p : ℕ} {x y z : List Token} → x ≡ token kw_foreach p ∷ y → Fails (Then IsName (Then (IsWord kw_in) (Then IsExpr (Then (IsWord kw_do) (Then IsBlock (IsWord kw_end)))))) Anything y z → Fails IsPrim Anything x z
foreach_fails e = opened (λ p a y s l h. foreach_split l h) (λ p b y s m. foreach_join p m) (word e)

pub foreach_at_2 : {p : ℕ} {x x1 : List Token} → x ≡ token kw_foreach p ∷ x1 → (BeginsName (next x1) → ⊥) → Fails IsPrim Anything x x1
foreach_at_2 e1 f = foreach_fails e1 (first in_expr_do_block_end_behind (other_name f))

pub foreach_at_3 : {n : List ℕ} {p q : ℕ} {x x1 x2 : List Token} → x ≡ token kw_foreach p ∷ x1 → x1 ≡ token (k.Name n) q ∷ x2 → No (is_word kw_in (next x2)) → Fails IsPrim Anything x x2
foreach_at_3 e1 e2 f = foreach_fails e1 (second good_name in_expr_do_block_end_behind (named e2) tt (first expr_do_block_end_behind (other_word tt f)))

pub foreach_at_4 : {n : List ℕ} {p q t : ℕ} {x x1 x2 x3 z : List Token} → x ≡ token kw_foreach p ∷ x1 → x1 ≡ token (k.Name n) q ∷ x2 → x2 ≡ token kw_in t ∷ x3 → Fails IsExpr EndsExpr x3 z → Fails IsPrim Anything x z
foreach_at_4 e1 e2 e3 f = foreach_fails e1 (second good_name in_expr_do_block_end_behind (named e2) tt (second good_word expr_do_block_end_behind (word e3) tt (first do_block_end_behind f)))

pub foreach_at_5 : {n : List ℕ} {v : Expr} {p q t : ℕ} {x x1 x2 x3 x4 : List Token} → x ≡ token kw_foreach p ∷ x1 → x1 ≡ token (k.Name n) q ∷ x2 → x2 ≡ token kw_in t ∷ x3 → IsExpr v x3 x4 → EndsExpr (next x4) → No (is_word kw_do (next x4)) → Fails IsPrim Anything x x4
foreach_at_5 e1 e2 e3 p4 h4 f = foreach_fails e1 (second good_name in_expr_do_block_end_behind (named e2) tt (second good_word expr_do_block_end_behind (word e3) tt (second good_expr do_block_end_behind p4 h4 (first block_end_behind (other_word tt f)))))

pub foreach_at_6 : {n : List ℕ} {v : Expr} {p q t u : ℕ} {x x1 x2 x3 x4 x5 z : List Token} → x ≡ token kw_foreach p ∷ x1 → x1 ≡ token (k.Name n) q ∷ x2 → x2 ≡ token kw_in t ∷ x3 → IsExpr v x3 x4 → EndsExpr (next x4) → x4 ≡ token kw_do u ∷ x5 → Fails IsBlock EndsBlock x5 z → Fails IsPrim Anything x z
foreach_at_6 e1 e2 e3 p4 h4 e5 f = foreach_fails e1 (second good_name in_expr_do_block_end_behind (named e2) tt (second good_word expr_do_block_end_behind (word e3) tt (second good_expr do_block_end_behind p4 h4 (second good_word block_end_behind (word e5) tt (first (word_behind tt) f)))))

pub foreach_at_7 : {n : List ℕ} {v : Expr} {b : Block} {p q t u : ℕ} {x x1 x2 x3 x4 x5 x6 : List Token} → x ≡ token kw_foreach p ∷ x1 → x1 ≡ token (k.Name n) q ∷ x2 → x2 ≡ token kw_in t ∷ x3 → IsExpr v x3 x4 → EndsExpr (next x4) → x4 ≡ token kw_do u ∷ x5 → IsBlock b x5 x6 → EndsBlock (next x6) → No (is_word kw_end (next x6)) → Fails IsPrim Anything x x6
foreach_at_7 e1 e2 e3 p4 h4 e5 p6 h6 f = foreach_fails e1 (second good_name in_expr_do_block_end_behind (named e2) tt (second good_word expr_do_block_end_behind (word e3) tt (second good_expr do_block_end_behind p4 h4 (second good_word block_end_behind (word e5) tt (second good_block (word_behind tt) p6 h6 (other_word tt f))))))

pub foreach_of : {n : List ℕ} {v : Expr} {b : Block} {p q t u c : ℕ} {x x1 x2 x3 x4 x5 x6 r : List Token} → x ≡ token kw_foreach p ∷ x1 → x1 ≡ token (k.Name n) q ∷ x2 → x2 ≡ token kw_in t ∷ x3 → IsExpr v x3 x4 → x4 ≡ token kw_do u ∷ x5 → IsBlock b x5 x6 → x6 ≡ token kw_end c ∷ r → IsPrim (e.Foreach n v b p) x r
foreach_of e1 e2 e3 p4 e5 p6 e7 = move IsPrim _ _ _ _ (also e1 (also e2 e3)) (foreach (upto IsExpr e5 p4) (upto IsBlock e7 p6))

raise_split : {a : Expr} {p : ℕ} {y s : List Token} → IsPrim a (token kw_raise p ∷ y) s → Anything (next s) → (b : Unit {0}) × (Then (IsWord sym_open) (Then IsExpr (IsWord sym_close))) b y s
raise_split (proc_of p) h = elim p [ ]
raise_split (raise p3) h = (_, then_ the_word (then_ p3 the_word))

raise_join : {b : Unit {0}} {y s : List Token} (p : ℕ) → (Then (IsWord sym_open) (Then IsExpr (IsWord sym_close))) b y s → (a : Expr) × IsPrim a (token kw_raise p ∷ y) s
raise_join p (then_ the_word (then_ p3 the_word)) = (_, raise p3)

raise_fails : {p : ℕ} {x y z : List Token} → x ≡ token kw_raise p ∷ y → Fails (Then (IsWord sym_open) (Then IsExpr (IsWord sym_close))) Anything y z → Fails IsPrim Anything x z
raise_fails e = opened (λ p a y s l h. raise_split l h) (λ p b y s m. raise_join p m) (word e)

pub raise_at_2 : {p : ℕ} {x x1 : List Token} → x ≡ token kw_raise p ∷ x1 → No (is_word sym_open (next x1)) → Fails IsPrim Anything x x1
raise_at_2 e1 f = raise_fails e1 (first expr_close_behind (other_word tt f))

pub raise_at_3 : {p q : ℕ} {x x1 x2 z : List Token} → x ≡ token kw_raise p ∷ x1 → x1 ≡ token sym_open q ∷ x2 → Fails IsExpr EndsExpr x2 z → Fails IsPrim Anything x z
raise_at_3 e1 e2 f = raise_fails e1 (second good_word expr_close_behind (word e2) tt (first (word_behind tt) f))

pub raise_at_4 : {v : Expr} {p q : ℕ} {x x1 x2 x3 : List Token} → x ≡ token kw_raise p ∷ x1 → x1 ≡ token sym_open q ∷ x2 → IsExpr v x2 x3 → EndsExpr (next x3) → No (is_word sym_close (next x3)) → Fails IsPrim Anything x x3
raise_at_4 e1 e2 p3 h3 f = raise_fails e1 (second good_word expr_close_behind (word e2) tt (second good_expr (word_behind tt) p3 h3 (other_word tt f)))

pub raise_of : {v : Expr} {p q t : ℕ} {x x1 x2 x3 r : List Token} → x ≡ token kw_raise p ∷ x1 → x1 ≡ token sym_open q ∷ x2 → IsExpr v x2 x3 → x3 ≡ token sym_close t ∷ r → IsPrim (e.Raise v p) x r
raise_of e1 e2 p3 e4 = move IsPrim _ _ _ _ (also e1 e2) (raise (upto IsExpr e4 p3))

watch_split : {a : Expr} {p : ℕ} {y s : List Token} → IsPrim a (token kw_watch p ∷ y) s → Anything (next s) → (b : Unit {0}) × (Then IsExpr (Then (IsWord kw_until) (Then IsExpr (IsWord kw_end)))) b y s
watch_split (proc_of p) h = elim p [ ]
watch_split (watch p2 p4) h = (_, then_ p2 (then_ the_word (then_ p4 the_word)))

watch_join : {b : Unit {0}} {y s : List Token} (p : ℕ) → (Then IsExpr (Then (IsWord kw_until) (Then IsExpr (IsWord kw_end)))) b y s → (a : Expr) × IsPrim a (token kw_watch p ∷ y) s
watch_join p (then_ p2 (then_ the_word (then_ p4 the_word))) = (_, watch p2 p4)

watch_fails : {p : ℕ} {x y z : List Token} → x ≡ token kw_watch p ∷ y → Fails (Then IsExpr (Then (IsWord kw_until) (Then IsExpr (IsWord kw_end)))) Anything y z → Fails IsPrim Anything x z
watch_fails e = opened (λ p a y s l h. watch_split l h) (λ p b y s m. watch_join p m) (word e)

pub watch_at_2 : {p : ℕ} {x x1 z : List Token} → x ≡ token kw_watch p ∷ x1 → Fails IsExpr EndsExpr x1 z → Fails IsPrim Anything x z
watch_at_2 e1 f = watch_fails e1 (first until_expr_end_behind f)

pub watch_at_3 : {v : Expr} {p : ℕ} {x x1 x2 : List Token} → x ≡ token kw_watch p ∷ x1 → IsExpr v x1 x2 → EndsExpr (next x2) → No (is_word kw_until (next x2)) → Fails IsPrim Anything x x2
watch_at_3 e1 p2 h2 f = watch_fails e1 (second good_expr until_expr_end_behind p2 h2 (first expr_end_behind (other_word tt f)))

pub watch_at_4 : {v : Expr} {p q : ℕ} {x x1 x2 x3 z : List Token} → x ≡ token kw_watch p ∷ x1 → IsExpr v x1 x2 → EndsExpr (next x2) → x2 ≡ token kw_until q ∷ x3 → Fails IsExpr EndsExpr x3 z → Fails IsPrim Anything x z
watch_at_4 e1 p2 h2 e3 f = watch_fails e1 (second good_expr until_expr_end_behind p2 h2 (second good_word expr_end_behind (word e3) tt (first (word_behind tt) f)))

pub watch_at_5 : {v w : Expr} {p q : ℕ} {x x1 x2 x3 x4 : List Token} → x ≡ token kw_watch p ∷ x1 → IsExpr v x1 x2 → EndsExpr (next x2) → x2 ≡ token kw_until q ∷ x3 → IsExpr w x3 x4 → EndsExpr (next x4) → No (is_word kw_end (next x4)) → Fails IsPrim Anything x x4
watch_at_5 e1 p2 h2 e3 p4 h4 f = watch_fails e1 (second good_expr until_expr_end_behind p2 h2 (second good_word expr_end_behind (word e3) tt (second good_expr (word_behind tt) p4 h4 (other_word tt f))))

pub watch_of : {v w : Expr} {p q t : ℕ} {x x1 x2 x3 x4 r : List Token} → x ≡ token kw_watch p ∷ x1 → IsExpr v x1 x2 → x2 ≡ token kw_until q ∷ x3 → IsExpr w x3 x4 → x4 ≡ token kw_end t ∷ r → IsPrim (e.Watch v w p) x r
watch_of e1 p2 e3 p4 e5 = move IsPrim _ _ _ _ e1 (watch (upto IsExpr e3 p2) (upto IsExpr e5 p4))

redirect_split : {a : Expr} {p : ℕ} {y s : List Token} → IsPrim a (token kw_redirect p ∷ y) s → Anything (next s) → (b : Unit {0}) × (Then IsExpr (Then (IsWord kw_to) (Then IsExpr (IsWord kw_end)))) b y s
redirect_split (proc_of p) h = elim p [ ]
redirect_split (redirect p2 p4) h = (_, then_ p2 (then_ the_word (then_ p4 the_word)))

redirect_join : {b : Unit {0}} {y s : List Token} (p : ℕ) → (Then IsExpr (Then (IsWord kw_to) (Then IsExpr (IsWord kw_end)))) b y s → (a : Expr) × IsPrim a (token kw_redirect p ∷ y) s
redirect_join p (then_ p2 (then_ the_word (then_ p4 the_word))) = (_, redirect p2 p4)

redirect_fails : {p : ℕ} {x y z : List Token} → x ≡ token kw_redirect p ∷ y → Fails (Then IsExpr (Then (IsWord kw_to) (Then IsExpr (IsWord kw_end)))) Anything y z → Fails IsPrim Anything x z
redirect_fails e = opened (λ p a y s l h. redirect_split l h) (λ p b y s m. redirect_join p m) (word e)

pub redirect_at_2 : {p : ℕ} {x x1 z : List Token} → x ≡ token kw_redirect p ∷ x1 → Fails IsExpr EndsExpr x1 z → Fails IsPrim Anything x z
redirect_at_2 e1 f = redirect_fails e1 (first to_expr_end_behind f)

pub redirect_at_3 : {v : Expr} {p : ℕ} {x x1 x2 : List Token} → x ≡ token kw_redirect p ∷ x1 → IsExpr v x1 x2 → EndsExpr (next x2) → No (is_word kw_to (next x2)) → Fails IsPrim Anything x x2
redirect_at_3 e1 p2 h2 f = redirect_fails e1 (second good_expr to_expr_end_behind p2 h2 (first expr_end_behind (other_word tt f)))

pub redirect_at_4 : {v : Expr} {p q : ℕ} {x x1 x2 x3 z : List Token} → x ≡ token kw_redirect p ∷ x1 → IsExpr v x1 x2 → EndsExpr (next x2) → x2 ≡ token kw_to q ∷ x3 → Fails IsExpr EndsExpr x3 z → Fails IsPrim Anything x z
redirect_at_4 e1 p2 h2 e3 f = redirect_fails e1 (second good_expr to_expr_end_behind p2 h2 (second good_word expr_end_behind (word e3) tt (first (word_behind tt) f)))

pub redirect_at_5 : {v w : Expr} {p q : ℕ} {x x1 x2 x3 x4 : List Token} → x ≡ token kw_redirect p ∷ x1 → IsExpr v x1 x2 → EndsExpr (next x2) → x2 ≡ token kw_to q ∷ x3 → IsExpr w x3 x4 → EndsExpr (next x4) → No (is_word kw_end (next x4)) → Fails IsPrim Anything x x4
redirect_at_5 e1 p2 h2 e3 p4 h4 f = redirect_fails e1 (second good_expr to_expr_end_behind p2 h2 (second good_word expr_end_behind (word e3) tt (second good_expr (word_behind tt) p4 h4 (other_word tt f))))

pub redirect_of : {v w : Expr} {p q t : ℕ} {x x1 x2 x3 x4 r : List Token} → x ≡ token kw_redirect p ∷ x1 → IsExpr v x1 x2 → x2 ≡ token kw_to q ∷ x3 → IsExpr w x3 x4 → x4 ≡ token kw_end t ∷ r → IsPrim (e.Redirect v w p) x r
redirect_of e1 p2 e3 p4 e5 = move IsPrim _ _ _ _ e1 (redirect (upto IsExpr e3 p2) (upto IsExpr e5 p4))

clone_split : {a : Expr} {p : ℕ} {y s : List Token} → IsPrim a (token kw_clone p ∷ y) s → Anything (next s) → (b : Unit {0}) × (Then (IsWord sym_open) (Then IsArgs (IsWord sym_close))) b y s
clone_split (proc_of p) h = elim p [ ]
clone_split (clone p3) h = (_, then_ the_word (then_ p3 the_word))

clone_join : {b : Unit {0}} {y s : List Token} (p : ℕ) → (Then (IsWord sym_open) (Then IsArgs (IsWord sym_close))) b y s → (a : Expr) × IsPrim a (token kw_clone p ∷ y) s
clone_join p (then_ the_word (then_ p3 the_word)) = (_, clone p3)

clone_fails : {p : ℕ} {x y z : List Token} → x ≡ token kw_clone p ∷ y → Fails (Then (IsWord sym_open) (Then IsArgs (IsWord sym_close))) Anything y z → Fails IsPrim Anything x z
clone_fails e = opened (λ p a y s l h. clone_split l h) (λ p b y s m. clone_join p m) (word e)

pub clone_at_2 : {p : ℕ} {x x1 : List Token} → x ≡ token kw_clone p ∷ x1 → No (is_word sym_open (next x1)) → Fails IsPrim Anything x x1
clone_at_2 e1 f = clone_fails e1 (first args_close_behind (other_word tt f))

pub clone_at_3 : {p q : ℕ} {x x1 x2 z : List Token} → x ≡ token kw_clone p ∷ x1 → x1 ≡ token sym_open q ∷ x2 → Fails IsArgs EndsArgs x2 z → Fails IsPrim Anything x z
clone_at_3 e1 e2 f = clone_fails e1 (second good_word args_close_behind (word e2) tt (first (word_behind tt) f))

pub clone_at_4 : {vs : List Expr} {p q : ℕ} {x x1 x2 x3 : List Token} → x ≡ token kw_clone p ∷ x1 → x1 ≡ token sym_open q ∷ x2 → IsArgs vs x2 x3 → EndsArgs (next x3) → No (is_word sym_close (next x3)) → Fails IsPrim Anything x x3
clone_at_4 e1 e2 p3 h3 f = clone_fails e1 (second good_word args_close_behind (word e2) tt (second good_args (word_behind tt) p3 h3 (other_word tt f)))

pub clone_of : {vs : List Expr} {p q t : ℕ} {x x1 x2 x3 r : List Token} → x ≡ token kw_clone p ∷ x1 → x1 ≡ token sym_open q ∷ x2 → IsArgs vs x2 x3 → x3 ≡ token sym_close t ∷ r → IsPrim (e.Clone vs p) x r
clone_of e1 e2 p3 e4 = move IsPrim _ _ _ _ (also e1 e2) (clone (upto IsArgs e4 p3))

if_split : {a : Expr} {p : ℕ} {y s : List Token} → IsPrim a (token kw_if p ∷ y) s → Anything (next s) → (b : Unit {0}) × (Then IsArm (Then IsElsifs IsElse)) b y s
if_split (proc_of p) h = elim p [ ]
if_split (if_ p2 p3 p4) h = (_, then_ p2 (then_ p3 p4))

if_join : {b : Unit {0}} {y s : List Token} (p : ℕ) → (Then IsArm (Then IsElsifs IsElse)) b y s → (a : Expr) × IsPrim a (token kw_if p ∷ y) s
if_join p (then_ p2 (then_ p3 p4)) = (_, if_ p2 p3 p4)

if_fails : {p : ℕ} {x y z : List Token} → x ≡ token kw_if p ∷ y → Fails (Then IsArm (Then IsElsifs IsElse)) Anything y z → Fails IsPrim Anything x z
if_fails e = opened (λ p a y s l h. if_split l h) (λ p b y s m. if_join p m) (word e)

pub if_at_2 : {p : ℕ} {x x1 z : List Token} → x ≡ token kw_if p ∷ x1 → Fails IsArm EndsBlock x1 z → Fails IsPrim Anything x z
if_at_2 e1 f = if_fails e1 (first elsifs_else_behind f)

pub if_at_3 : {a : Arm} {p : ℕ} {x x1 x2 z : List Token} → x ≡ token kw_if p ∷ x1 → IsArm a x1 x2 → EndsBlock (next x2) → Fails IsElsifs EndsElsifs x2 z → Fails IsPrim Anything x z
if_at_3 e1 p2 h2 f = if_fails e1 (second good_arm elsifs_else_behind p2 h2 (first else_behind f))

pub if_at_4 : {a : Arm} {ms : List Arm} {p : ℕ} {x x1 x2 x3 z : List Token} → x ≡ token kw_if p ∷ x1 → IsArm a x1 x2 → EndsBlock (next x2) → IsElsifs ms x2 x3 → EndsElsifs (next x3) → Fails IsElse Anything x3 z → Fails IsPrim Anything x z
if_at_4 e1 p2 h2 p3 h3 f = if_fails e1 (second good_arm elsifs_else_behind p2 h2 (second good_elsifs else_behind p3 h3 f))

pub if_of : {a : Arm} {ms : List Arm} {l : Option Block} {p : ℕ} {x x1 x2 x3 r : List Token} → x ≡ token kw_if p ∷ x1 → IsArm a x1 x2 → IsElsifs ms x2 x3 → IsElse l x3 r → IsPrim (e.If (a ∷ ms) l p) x r
if_of e1 p2 p3 p4 = move IsPrim _ _ _ _ e1 (if_ p2 p3 p4)
