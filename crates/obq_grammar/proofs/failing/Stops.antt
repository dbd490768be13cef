-- `N_stop`: no N begins with the next token. And productions that are one part alone.
use Rattle.std.proofs.Common.{◌≡◌, ℕ, List, [], ◌∷◌, ◌++◌, Option, sym, subst, ap}
use Rattle.obq_base.specs.declared.tokens.Token.{Token}
use Rattle.obq_base.specs.declared.tokens.TokenKind.{TokenKind}
use Rattle.obq_base.specs.declared.tokens.TokenKind.TheVariants as k
use Rattle.obq_base.specs.declared.trees.Block.{Block}
use Rattle.obq_base.specs.declared.trees.Item.{Item}
use Rattle.obq_base.specs.declared.trees.Proc.{Proc}
use Rattle.obq_base.specs.declared.trees.Expr.{Expr}
use Rattle.obq_model.specs.Words.{kw_else, kw_end, kw_except, kw_finally, kw_proc, sym_semicolon}
use Rattle.obq_model.specs.Nodes.{token, next}
use Rattle.obq_model.specs.Grammar.{IsBlock, IsMore, IsItem, IsProc, IsPrim, IsElse, IsTry, empty, items, no_more, semicolon, more, proc_of, no_else, else_, finally, excepts, proc}
use Rattle.obq_grammar.specs.Fails.{Fails}
use Rattle.obq_grammar.specs.Follow.{No, is_word, Anything, EndsBlock, EndsItem, BeginsExpr}
use Rattle.obq_grammar.proofs.Theory.{Leads, step, move}
use Rattle.obq_grammar.proofs.Firsts.{first_prim}
use Rattle.obq_grammar.proofs.failing.Sequences.{production, opened, nothing, word}
use Rattle.obq_grammar.proofs.failing.Blocks.{items_at_1, items_at_2}
use Rattle.obq_grammar.proofs.failing.Beginnings.{some_prim, some_else, some_proc}

-- the productions

pub prim_stop : {x : List Token} → (BeginsExpr (next x) → ⊥) → Fails IsPrim Anything x x
prim_stop = nothing (λ kind. BeginsExpr kind → ⊥) (λ a y s n l h. n (first_prim l)) some_prim

else_none : {a : Option Block} {y s : List Token} → No (is_word kw_end (next y)) × No (is_word kw_else (next y)) → IsElse a y s → ⊥
else_none n no_else = n.0
else_none n (else_ p) = n.1

pub else_stop : {x : List Token} → No (is_word kw_end (next x)) → No (is_word kw_else (next x)) → Fails IsElse Anything x x
else_stop c d = nothing (λ kind. No (is_word kw_end kind) × No (is_word kw_else kind)) (λ a y s n l h. else_none n l) some_else (c, d)

try_none : {o : ℕ} {d : Block} {a : Expr} {y s : List Token} → No (is_word kw_finally (next y)) × No (is_word kw_except (next y)) → IsTry o d a y s → ⊥
try_none n (finally p) = n.0
try_none n (excepts p q r) = n.1

pub try_stop : {o : ℕ} {d : Block} {x : List Token} → No (is_word kw_finally (next x)) → No (is_word kw_except (next x)) → Fails (IsTry o d) Anything x x
try_stop {o = o} {d = d} c f = nothing (λ kind. No (is_word kw_finally kind) × No (is_word kw_except kind)) (λ a y s n l h. try_none n l) (λ r. (_, token kw_finally 0 ∷ token kw_end 0 ∷ r, finally {p = o} {b = d} empty)) (c, f)

proc_none : {a : Proc} {y s : List Token} → No (is_word kw_proc (next y)) → IsProc a y s → ⊥
proc_none n (proc p q) = n

pub proc_at_1 : {x : List Token} → No (is_word kw_proc (next x)) → Fails IsProc Anything x x
proc_at_1 = nothing (λ kind. No (is_word kw_proc kind)) (λ a y s n l h. proc_none n l) some_proc

more_split : {a : List Item} {p : ℕ} {y s : List Token} → IsMore a (token sym_semicolon p ∷ y) s → EndsBlock (next s) → (b : Block) × IsBlock b y s
more_split no_more h = absurd h
more_split semicolon h = (_, empty)
more_split (more p q) h = (_, items p q)

more_join : {b : Block} {y s : List Token} (p : ℕ) → IsBlock b y s → (a : List Item) × IsMore a (token sym_semicolon p ∷ y) s
more_join p empty = (_, semicolon)
more_join p (items q l) = (_, more q l)

more_fails : {p : ℕ} {x y z : List Token} → x ≡ token sym_semicolon p ∷ y → Fails IsBlock EndsBlock y z → Fails IsMore EndsBlock x z
more_fails e = opened (λ p a y s l h. more_split l h) (λ p b y s m. more_join p m) (word e)

pub more_at_2 : {p : ℕ} {x x1 z : List Token} → x ≡ token sym_semicolon p ∷ x1 → (EndsBlock (next x1) → ⊥) → Fails IsItem EndsItem x1 z → Fails IsMore EndsBlock x z
more_at_2 e n f = more_fails e (items_at_1 n f)

pub more_at_3 : {i : Item} {p : ℕ} {x x1 x2 z : List Token} → x ≡ token sym_semicolon p ∷ x1 → IsItem i x1 x2 → EndsItem (next x2) → Fails IsMore EndsBlock x2 z → Fails IsMore EndsBlock x z
more_at_3 e p h f = more_fails e (items_at_2 p h f)

pub semicolon_of : {p : ℕ} {x r : List Token} → x ≡ token sym_semicolon p ∷ r → IsMore [] x r
semicolon_of e = move IsMore _ _ _ _ e semicolon

pub more_of : {i : Item} {is : List Item} {p : ℕ} {x x1 x2 r : List Token} → x ≡ token sym_semicolon p ∷ x1 → IsItem i x1 x2 → IsMore is x2 r → IsMore (i ∷ is) x r
more_of e p q = move IsMore _ _ _ _ e (more p q)

pub more_step : {i : Item} {is : List Item} {p : ℕ} {w x x1 x2 : List Token} → Leads IsMore EndsBlock is w x → x ≡ token sym_semicolon p ∷ x1 → IsItem i x1 x2 → EndsItem (next x2) → Leads IsMore EndsBlock (is ++ i ∷ []) w x2
more_step {i = i} l e p h = step i l (λ bs r m. more_of e p m) (λ w f. more_at_3 e p h f)

-- a procedure as a primary
abbrev IsKeyword : TokenKind → Type 0
IsKeyword (k.Keyword n) = Unit {0}
IsKeyword _ = ⊥

pub headed : (w : TokenKind) (y : List Token) → (w ≡ k.EndOfSource → ⊥) → next y ≡ w → (p : ℕ) × (ts : List Token) × (y ≡ token w p ∷ ts)
headed w [] n e = absurd (n (sym e))
headed w (t ∷ ts) n e = (t.place, ts, ap (λ (kind : TokenKind). token kind t.place ∷ ts) e)

proc_of_word : {a : Expr} {p : ℕ} {y s : List Token} → IsPrim a (token kw_proc p ∷ y) s → (f : Proc) × IsProc f (token kw_proc p ∷ y) s
proc_of_word (proc_of p) = (_, p)

proc_of_split : {a : Expr} {y s : List Token} → next y ≡ kw_proc → IsPrim a y s → (f : Proc) × IsProc f y s
proc_of_split {a = a} {y = y} {s = s} n l =
    let w = headed kw_proc y (λ e. subst IsKeyword e tt) n in
    let f = proc_of_word (move IsPrim a (token kw_proc w.0 ∷ w.1) y s (sym w.2) l) in
    (f.0, move IsProc f.0 y (token kw_proc w.0 ∷ w.1) s w.2 f.1)

pub proc_of_at_1 : {p : ℕ} {x y z : List Token} → x ≡ token kw_proc p ∷ y → Fails IsProc Anything x z → Fails IsPrim Anything x z
proc_of_at_1 e = production (λ kind. kind ≡ kw_proc) (λ a y s n l h. proc_of_split n l) (λ b y s m. (_, proc_of m)) (ap next e)
