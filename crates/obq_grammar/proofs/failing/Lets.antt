-- `let`, `var` and `try`. `C_at_i`: where the part i of the production C fails, what the production derives fails; the arguments are the parts before it
-- (a word or a name by the tokens that begin with it, another part by its derivation and by the token behind it), and then how part i fails.
-- `C_end`: behind the last part stands what may not stand behind the production. `C_of`: the production from its parts. `C_step`: one more of a list so far.
use Rattle.std.proofs.Common.{◌≡◌, ℕ, List, ◌∷◌, Option}
use Rattle.obq_base.specs.declared.tokens.Token.{Token}
use Rattle.obq_base.specs.declared.tokens.TokenKind.{TokenKind}
use Rattle.obq_base.specs.declared.trees.Block.{Block}
use Rattle.obq_base.specs.declared.trees.Item.{Item}
use Rattle.obq_base.specs.declared.trees.Bind.{Bind}
use Rattle.obq_base.specs.declared.trees.RecBind.{RecBind}
use Rattle.obq_base.specs.declared.trees.Expr.{Expr}
use Rattle.obq_base.specs.declared.trees.Arm.{Arm}
use Rattle.obq_model.specs.Words.{kw_end, kw_except, kw_finally, kw_let, kw_rec, kw_try, kw_var}
use Rattle.obq_model.specs.Nodes.{token, next}
use Rattle.obq_model.specs.Grammar.{IsBlock, IsItem, IsLet, IsBinds, IsRecBinds, IsPrim, IsElse, IsTry, IsGuard, IsGuards, let_, var, set_field, set_item, plain, let_binds, let_rec, proc_of, try, finally, excepts}
use Rattle.obq_grammar.specs.Fails.{Fails}
use Rattle.obq_grammar.specs.Follow.{No, is_word, Anything, EndsNames, EndsArgs, EndsBlock, EndsItem, EndsGuards, BeginsName}
use Rattle.obq_grammar.proofs.Theory.{fewer, narrow, move, upto}
use Rattle.obq_grammar.proofs.Sets.{item_args, item_names}
use Rattle.obq_grammar.proofs.Firsts.{first_suffixed, first_expr, first_binds}
use Rattle.obq_grammar.proofs.Goods.{good_block, good_binds, good_rec_binds, good_guard, good_guards}
use Rattle.obq_grammar.specs.Parts.{IsWord, the_word, Then, then_, IsLetBody, let_body, IsTryBody, try_body}
use Rattle.obq_grammar.proofs.failing.Sequences.{Behind, word_behind, then_behind, first, second, production, opened, word, other_word, renamed}
use Rattle.obq_grammar.proofs.failing.Beginnings.{guards_behind, else_behind_guards, try_behind, begins_no}
use Rattle.obq_base.specs.declared.trees.Item.TheVariants as i
use Rattle.obq_base.specs.declared.trees.Expr.TheVariants as e

-- what may stand behind a part

guards_else_behind : Behind EndsBlock (Then IsGuards IsElse) Anything
guards_else_behind = then_behind {V = EndsGuards} guards_behind else_behind_guards

-- the productions

-- what stands behind a "let" doesn't depend on where that is, nor what stands behind a `try` and its block on these
let_again : {i : Item} {x r : List Token} (o : ℕ) → IsLetBody i x r → (j : Item) × IsLet o j x r
let_again o (let_body (let_binds p1)) = (_, let_binds p1)
let_again o (let_body (let_rec p1)) = (_, let_rec p1)

let_fails_body : {o : ℕ} {S : TokenKind → Type 0} {x z : List Token} → Fails (IsLet o) S x z → Fails IsLetBody S x z
let_fails_body {o = o} = renamed (λ b y r m. let_again o m) (λ a y r l. (a, let_body l))

try_again : {v : Expr} {x r : List Token} (o : ℕ) (d : Block) → IsTryBody v x r → (w : Expr) × IsTry o d w x r
try_again o d (try_body (finally p1)) = (_, finally p1)
try_again o d (try_body (excepts p1 p2 p3)) = (_, excepts p1 p2 p3)

try_fails_body : {o : ℕ} {d : Block} {S : TokenKind → Type 0} {x z : List Token} → Fails (IsTry o d) S x z → Fails IsTryBody S x z
try_fails_body {o = o} {d = d} = renamed (λ b y r m. try_again o d m) (λ a y r l. (a, try_body l))

let_binds_split : {o : ℕ} {a : Item} {y s : List Token} → No (is_word kw_rec (next y)) → IsLet o a y s → EndsItem (next s) → (b : List Bind) × IsBinds b y s
let_binds_split n (let_rec p) h = absurd n
let_binds_split n (let_binds p1) h = (_, p1)

let_binds_join : {o : ℕ} {b : List Bind} {y s : List Token} → IsBinds b y s → (a : Item) × IsLet o a y s
let_binds_join p1 = (_, let_binds p1)

let_binds_fails : {o : ℕ} {x z : List Token} → No (is_word kw_rec (next x)) → Fails IsBinds EndsItem x z → Fails (IsLet o) EndsItem x z
let_binds_fails c = production (λ kind. No (is_word kw_rec kind)) (λ a y s n l h. let_binds_split n l h) (λ b y s m. let_binds_join m) c

pub let_binds_at_1 : {o : ℕ} {x z : List Token} → No (is_word kw_rec (next x)) → Fails IsBinds EndsArgs x z → Fails (IsLet o) EndsItem x z
let_binds_at_1 n f = let_binds_fails n (fewer item_args f)

-- the production, and behind it what may not stand there
pub let_binds_end : {o : ℕ} {bs : List Bind} {x x1 : List Token} → IsBinds bs x x1 → EndsArgs (next x1) → (EndsItem (next x1) → ⊥) → Fails (IsLet o) EndsItem x x1
let_binds_end {x = x} p1 h1 c = let_binds_fails (begins_no BeginsName kw_rec (next x) (first_binds p1) (λ n. n)) (narrow good_binds item_args p1 h1 c)

let_rec_split : {o : ℕ} {a : Item} {p : ℕ} {y s : List Token} → IsLet o a (token kw_rec p ∷ y) s → EndsItem (next s) → (b : List RecBind) × IsRecBinds b y s
let_rec_split (let_binds p) h = absurd (first_binds p)
let_rec_split (let_rec p2) h = (_, p2)

let_rec_join : {o : ℕ} {b : List RecBind} {y s : List Token} (p : ℕ) → IsRecBinds b y s → (a : Item) × IsLet o a (token kw_rec p ∷ y) s
let_rec_join p p2 = (_, let_rec p2)

let_rec_fails : {o : ℕ} {p : ℕ} {x y z : List Token} → x ≡ token kw_rec p ∷ y → Fails IsRecBinds EndsItem y z → Fails (IsLet o) EndsItem x z
let_rec_fails e = opened (λ p a y s l h. let_rec_split l h) (λ p b y s m. let_rec_join p m) (word e)

pub let_rec_at_2 : {o : ℕ} {q : ℕ} {x x1 z : List Token} → x ≡ token kw_rec q ∷ x1 → Fails IsRecBinds EndsNames x1 z → Fails (IsLet o) EndsItem x z
let_rec_at_2 e1 f = let_rec_fails e1 (fewer item_names f)

-- the production, and behind it what may not stand there
pub let_rec_end : {o : ℕ} {bs : List RecBind} {q : ℕ} {x x1 x2 : List Token} → x ≡ token kw_rec q ∷ x1 → IsRecBinds bs x1 x2 → EndsNames (next x2) → (EndsItem (next x2) → ⊥) → Fails (IsLet o) EndsItem x x2
let_rec_end e1 p2 h2 c = let_rec_fails e1 (narrow good_rec_binds item_names p2 h2 c)

pub let_rec_of : {p : ℕ} {bs : List RecBind} {q : ℕ} {x x1 r : List Token} → x ≡ token kw_rec q ∷ x1 → IsRecBinds bs x1 r → IsLet p (i.LetRec bs p) x r
let_rec_of {p = p} e1 p2 = move (IsLet p) _ _ _ _ e1 (let_rec p2)

let_split : {a : Item} {p : ℕ} {y s : List Token} → IsItem a (token kw_let p ∷ y) s → EndsItem (next s) → (b : Item) × IsLetBody b y s
let_split (set_field f g) h = absurd (first_suffixed f)
let_split (set_item f g i) h = absurd (first_suffixed f)
let_split (plain f) h = absurd (first_expr f)
let_split (let_ p2) h = (_, (let_body p2))

let_join : {b : Item} {y s : List Token} (p : ℕ) → IsLetBody b y s → (a : Item) × IsItem a (token kw_let p ∷ y) s
let_join p m = let w = let_again p m in (_, let_ w.1)

let_fails : {p : ℕ} {x y z : List Token} → x ≡ token kw_let p ∷ y → Fails IsLetBody EndsItem y z → Fails IsItem EndsItem x z
let_fails e = opened (λ p a y s l h. let_split l h) (λ p b y s m. let_join p m) (word e)

pub let_at_2 : {o : ℕ} {p : ℕ} {x x1 z : List Token} → x ≡ token kw_let p ∷ x1 → Fails (IsLet o) EndsItem x1 z → Fails IsItem EndsItem x z
let_at_2 e1 f = let_fails e1 (let_fails_body f)

pub let_of : {i : Item} {p : ℕ} {x x1 r : List Token} → x ≡ token kw_let p ∷ x1 → IsLet p i x1 r → IsItem i x r
let_of e1 p2 = move IsItem _ _ _ _ e1 (let_ p2)

var_split : {a : Item} {p : ℕ} {y s : List Token} → IsItem a (token kw_var p ∷ y) s → EndsItem (next s) → (b : List Bind) × IsBinds b y s
var_split (set_field f g) h = absurd (first_suffixed f)
var_split (set_item f g i) h = absurd (first_suffixed f)
var_split (plain f) h = absurd (first_expr f)
var_split (var p2) h = (_, p2)

var_join : {b : List Bind} {y s : List Token} (p : ℕ) → IsBinds b y s → (a : Item) × IsItem a (token kw_var p ∷ y) s
var_join p p2 = (_, var p2)

var_fails : {p : ℕ} {x y z : List Token} → x ≡ token kw_var p ∷ y → Fails IsBinds EndsItem y z → Fails IsItem EndsItem x z
var_fails e = opened (λ p a y s l h. var_split l h) (λ p b y s m. var_join p m) (word e)

pub var_at_2 : {p : ℕ} {x x1 z : List Token} → x ≡ token kw_var p ∷ x1 → Fails IsBinds EndsArgs x1 z → Fails IsItem EndsItem x z
var_at_2 e1 f = var_fails e1 (fewer item_args f)

-- the production, and behind it what may not stand there
pub var_end : {bs : List Bind} {p : ℕ} {x x1 x2 : List Token} → x ≡ token kw_var p ∷ x1 → IsBinds bs x1 x2 → EndsArgs (next x2) → (EndsItem (next x2) → ⊥) → Fails IsItem EndsItem x x2
var_end e1 p2 h2 c = var_fails e1 (narrow good_binds item_args p2 h2 c)

pub var_of : {bs : List Bind} {p : ℕ} {x x1 r : List Token} → x ≡ token kw_var p ∷ x1 → IsBinds bs x1 r → IsItem (i.Var bs p) x r
var_of e1 p2 = move IsItem _ _ _ _ e1 (var p2)

finally_split : {o : ℕ} {d : Block} {a : Expr} {p : ℕ} {y s : List Token} → IsTry o d a (token kw_finally p ∷ y) s → Anything (next s) → (b : Unit {0}) × (Then IsBlock (IsWord kw_end)) b y s
finally_split (finally p2) h = (_, then_ p2 the_word)

finally_join : {o : ℕ} {d : Block} {b : Unit {0}} {y s : List Token} (p : ℕ) → (Then IsBlock (IsWord kw_end)) b y s → (a : Expr) × IsTry o d a (token kw_finally p ∷ y) s
finally_join p (then_ p2 the_word) = (_, finally p2)

finally_fails : {o : ℕ} {d : Block} {p : ℕ} {x y z : List Token} → x ≡ token kw_finally p ∷ y → Fails (Then IsBlock (IsWord kw_end)) Anything y z → Fails (IsTry o d) Anything x z
finally_fails e = opened (λ p a y s l h. finally_split l h) (λ p b y s m. finally_join p m) (word e)

pub finally_at_2 : {o : ℕ} {d : Block} {q : ℕ} {x x1 z : List Token} → x ≡ token kw_finally q ∷ x1 → Fails IsBlock EndsBlock x1 z → Fails (IsTry o d) Anything x z
finally_at_2 e1 f = finally_fails e1 (first (word_behind tt) f)

pub finally_at_3 : {o : ℕ} {d : Block} {l : Block} {q : ℕ} {x x1 x2 : List Token} → x ≡ token kw_finally q ∷ x1 → IsBlock l x1 x2 → EndsBlock (next x2) → No (is_word kw_end (next x2)) → Fails (IsTry o d) Anything x x2
finally_at_3 e1 p2 h2 f = finally_fails e1 (second good_block (word_behind tt) p2 h2 (other_word tt f))

pub finally_of : {p : ℕ} {b l : Block} {q t : ℕ} {x x1 x2 r : List Token} → x ≡ token kw_finally q ∷ x1 → IsBlock l x1 x2 → x2 ≡ token kw_end t ∷ r → IsTry p b (e.Finally b l p) x r
finally_of {p = p} {b = b} e1 p2 e3 = move (IsTry p b) _ _ _ _ e1 (finally (upto IsBlock e3 p2))

excepts_split : {o : ℕ} {d : Block} {a : Expr} {p : ℕ} {y s : List Token} → IsTry o d a (token kw_except p ∷ y) s → Anything (next s) → (b : Unit {0}) × (Then IsGuard (Then IsGuards IsElse)) b y s
excepts_split (excepts p2 p3 p4) h = (_, then_ p2 (then_ p3 p4))

excepts_join : {o : ℕ} {d : Block} {b : Unit {0}} {y s : List Token} (p : ℕ) → (Then IsGuard (Then IsGuards IsElse)) b y s → (a : Expr) × IsTry o d a (token kw_except p ∷ y) s
excepts_join p (then_ p2 (then_ p3 p4)) = (_, excepts p2 p3 p4)

excepts_fails : {o : ℕ} {d : Block} {p : ℕ} {x y z : List Token} → x ≡ token kw_except p ∷ y → Fails (Then IsGuard (Then IsGuards IsElse)) Anything y z → Fails (IsTry o d) Anything x z
excepts_fails e = opened (λ p a y s l h. excepts_split l h) (λ p b y s m. excepts_join p m) (word e)

pub excepts_at_2 : {o : ℕ} {d : Block} {q : ℕ} {x x1 z : List Token} → x ≡ token kw_except q ∷ x1 → Fails IsGuard EndsBlock x1 z → Fails (IsTry o d) Anything x z
excepts_at_2 e1 f = excepts_fails e1 (first guards_else_behind f)

pub excepts_at_3 : {o : ℕ} {d : Block} {a : Arm} {q : ℕ} {x x1 x2 z : List Token} → x ≡ token kw_except q ∷ x1 → IsGuard a x1 x2 → EndsBlock (next x2) → Fails IsGuards EndsGuards x2 z → Fails (IsTry o d) Anything x z
excepts_at_3 e1 p2 h2 f = excepts_fails e1 (second good_guard guards_else_behind p2 h2 (first else_behind_guards f))

pub excepts_at_4 : {o : ℕ} {d : Block} {a : Arm} {ms : List Arm} {q : ℕ} {x x1 x2 x3 z : List Token} → x ≡ token kw_except q ∷ x1 → IsGuard a x1 x2 → EndsBlock (next x2) → IsGuards ms x2 x3 → EndsGuards (next x3) → Fails IsElse Anything x3 z → Fails (IsTry o d) Anything x z
excepts_at_4 e1 p2 h2 p3 h3 f = excepts_fails e1 (second good_guard guards_else_behind p2 h2 (second good_guards else_behind_guards p3 h3 f))

pub excepts_of : {p : ℕ} {b : Block} {a : Arm} {ms : List Arm} {l : Option Block} {q : ℕ} {x x1 x2 x3 r : List Token} → x ≡ token kw_except q ∷ x1 → IsGuard a x1 x2 → IsGuards ms x2 x3 → IsElse l x3 r → IsTry p b (e.Try b (a ∷ ms) l p) x r
excepts_of {p = p} {b = b} e1 p2 p3 p4 = move (IsTry p b) _ _ _ _ e1 (excepts p2 p3 p4)

try_split : {a : Expr} {p : ℕ} {y s : List Token} → IsPrim a (token kw_try p ∷ y) s → Anything (next s) → (b : Unit {0}) × (Then IsBlock IsTryBody) b y s
try_split (proc_of p) h = elim p [ ]
try_split (try p2 p3) h = (_, then_ p2 (try_body p3))

try_join : {b : Unit {0}} {y s : List Token} (p : ℕ) → (Then IsBlock IsTryBody) b y s → (a : Expr) × IsPrim a (token kw_try p ∷ y) s
try_join p (then_ p2 m) = let w = try_again p _ m in (_, try p2 w.1)

try_fails : {p : ℕ} {x y z : List Token} → x ≡ token kw_try p ∷ y → Fails (Then IsBlock IsTryBody) Anything y z → Fails IsPrim Anything x z
try_fails e = opened (λ p a y s l h. try_split l h) (λ p b y s m. try_join p m) (word e)

pub try_at_2 : {p : ℕ} {x x1 z : List Token} → x ≡ token kw_try p ∷ x1 → Fails IsBlock EndsBlock x1 z → Fails IsPrim Anything x z
try_at_2 e1 f = try_fails e1 (first try_behind f)

pub try_at_3 : {o : ℕ} {d : Block} {b : Block} {p : ℕ} {x x1 x2 z : List Token} → x ≡ token kw_try p ∷ x1 → IsBlock b x1 x2 → EndsBlock (next x2) → Fails (IsTry o d) Anything x2 z → Fails IsPrim Anything x z
try_at_3 e1 p2 h2 f = try_fails e1 (second good_block try_behind p2 h2 (try_fails_body f))

pub try_of : {b : Block} {v : Expr} {p : ℕ} {x x1 x2 r : List Token} → x ≡ token kw_try p ∷ x1 → IsBlock b x1 x2 → IsTry p b v x2 r → IsPrim v x r
try_of e1 p2 p3 = move IsPrim _ _ _ _ e1 (try p2 p3)
