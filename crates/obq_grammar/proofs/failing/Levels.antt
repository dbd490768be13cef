-- Operands and operators of each level, and expressions. `IsRest l` is what makes an expression of an operand of level l.
-- The names are as in `Bindings`; `rest_at_1` is of the links of level l, `rest_at_2` of what stands behind them.
use Rattle.std.proofs.Common.{◌≡◌, ℕ, zero, suc, List, [], ◌∷◌, ◌++◌, refl, sym, subst, ap, arith, ◌<◌, ◌≤◌, ◌+◌, ◌-◌}
use Rattle.obq_base.specs.declared.tokens.Token.{Token}
use Rattle.obq_base.specs.declared.tokens.TokenKind.{TokenKind}
use Rattle.obq_base.specs.declared.trees.Operator.{Operator}
use Rattle.obq_base.specs.declared.trees.Expr.{Expr}
use Rattle.obq_base.specs.declared.trees.Link.{Link}
use Rattle.obq_base.specs.declared.trees.Suffix.{Suffix}
use Rattle.obq_model.specs.Nodes.{token, next, link}
use Rattle.obq_model.specs.Grammar.{Operates, IsExpr, IsLevel, IsLinks, IsSuffixed, expr, operand, level, no_link, one_link}
use Rattle.obq_grammar.specs.Fails.{Cut, here, there, Fails}
use Rattle.obq_grammar.specs.Follow.{Anything, EndsSuffixed, EndsLevel, EndsExpr}
use Rattle.obq_grammar.proofs.Theory.{Good, trans, Leads, step, move}
use Rattle.obq_grammar.proofs.Sets.{one_operator, continues_on, expr_suffixed, no_open, suffixed_dotted}
use Rattle.obq_grammar.proofs.Firsts.{before_links}
use Rattle.obq_grammar.proofs.Goods.{good_level, good_links}
use Rattle.obq_grammar.proofs.Unique.{unique_suffixed, unique_links}
use Rattle.obq_grammar.proofs.Local.{local_links}
use Rattle.obq_grammar.specs.Parts.{IsOperator, the_operator, Then, then_, IsChain, IsRest, top, rise}
use Rattle.obq_grammar.proofs.failing.Sequences.{Behind, anything, then_behind, first, second, production, renamed}
use Rattle.obq_grammar.proofs.Local.{Keeps, kept}
use Rattle.obq_grammar.proofs.failing.Beginnings.{some_level, links_behind}

-- the productions

operand_split : {a : Expr} {y s : List Token} → IsLevel zero a y s → (c : Expr × List Suffix) × IsChain c y s
operand_split (operand {h = h} {ss = ss} p) = ((h, ss), p)

pub operand_at_1 : {x z : List Token} → Fails IsChain EndsSuffixed x z → Fails (IsLevel zero) (EndsLevel zero) x z
operand_at_1 = renamed (λ a y s l. operand_split l) (λ c y s m. (_, operand m))

level_split : {l : ℕ} {a : Expr} {y s : List Token} → IsLevel (suc l) a y s → (b : Unit {0}) × (Then (IsLevel l) (IsLinks l)) b y s
level_split (level p q) = (_, then_ p q)

level_join : {l : ℕ} {b : Unit {0}} {y s : List Token} → (Then (IsLevel l) (IsLinks l)) b y s → (a : Expr) × IsLevel (suc l) a y s
level_join (then_ p q) = (_, level p q)

level_fails : {l : ℕ} {S : TokenKind → Type 0} {x z : List Token} → Fails (Then (IsLevel l) (IsLinks l)) S x z → Fails (IsLevel (suc l)) S x z
level_fails = renamed (λ a y s l. level_split l) (λ b y s m. level_join m)

pub level_at_1 : {l : ℕ} {x z : List Token} → Fails (IsLevel l) (EndsLevel l) x z → Fails (IsLevel (suc l)) (EndsLevel (suc l)) x z
level_at_1 f = level_fails (first links_behind f)

pub level_at_2 : {l : ℕ} {a : Expr} {x x1 z : List Token} → IsLevel l a x x1 → EndsLevel l (next x1) → Fails (IsLinks l) (EndsLevel (suc l)) x1 z → Fails (IsLevel (suc l)) (EndsLevel (suc l)) x z
level_at_2 {l = l} p1 h1 f = level_fails (second (good_level l) links_behind p1 h1 f)

expr_split : {a : Expr} {y s : List Token} → IsExpr a y s → (b : Expr) × IsLevel 5 b y s
expr_split (expr p) = (_, p)

pub expr_at_1 : {x z : List Token} → Fails (IsLevel 5) (EndsLevel 5) x z → Fails IsExpr EndsExpr x z
expr_at_1 = renamed (λ a y s l. expr_split l) (λ b y s m. (_, expr m))

-- links

one_operator_behind : {l : ℕ} {f g : Operator} {x r s : List Token} → IsOperator l f x r → IsOperator l g x s → (f ≡ g) × (r ≡ s)
one_operator_behind (the_operator p) (the_operator q) = (one_operator p q, refl)

local_operator : {l : ℕ} {f : Operator} {x r : List Token} → IsOperator l f x r → (v : List Token) → (g : Operator) × (y : List Token) × Cut x r y v × IsOperator l g y v
local_operator (the_operator {kind = kind} {f = f} {p = p} o) v = (f, token kind p ∷ v, there here, the_operator o)

good_operator : {l : ℕ} → Good (IsOperator l) Anything
good_operator = record { unique = λ a b x r s p h q i. one_operator_behind p q; local = λ a x r p v h. local_operator p v }

links_split : {l : ℕ} {a : List Link} {y s : List Token} → (EndsLevel (suc l) (next y) → ⊥) → IsLinks l a y s → EndsLevel (suc l) (next s) → (b : Unit {0}) × (Then (IsOperator l) (Then (IsLevel l) (IsLinks l))) b y s
links_split n no_link h = absurd (n h)
links_split n (one_link o p q) h = (_, then_ (the_operator o) (then_ p q))

links_join : {l : ℕ} {b : Unit {0}} {y s : List Token} → (Then (IsOperator l) (Then (IsLevel l) (IsLinks l))) b y s → (a : List Link) × IsLinks l a y s
links_join (then_ (the_operator o) (then_ p q)) = (_, one_link o p q)

operator_read : {l p : ℕ} {kind : TokenKind} {f : Operator} {x y : List Token} → x ≡ token kind p ∷ y → Operates l kind f → IsOperator l f x y
operator_read {l = l} {f = f} {y = y} e o = subst (λ (n : List Token). IsOperator l f n y) (sym e) (the_operator o)

links_fails : {l p : ℕ} {kind : TokenKind} {f : Operator} {x y z : List Token} → x ≡ token kind p ∷ y → Operates l kind f → Fails (Then (IsOperator l) (Then (IsLevel l) (IsLinks l))) (EndsLevel (suc l)) x z → Fails (IsLinks l) (EndsLevel (suc l)) x z
links_fails {l = l} e o = production (λ kind. EndsLevel (suc l) kind → ⊥) (λ a y s n l h. links_split n l h) (λ b y s m. links_join m) (λ h. continues_on o (subst (λ (n : List Token). EndsLevel (suc l) (next n)) e h))

operand_links_behind : {l : ℕ} → Behind Anything (Then (IsLevel l) (IsLinks l)) (EndsLevel (suc l))
operand_links_behind {l = l} = then_behind {V = EndsLevel l} (anything (some_level l)) links_behind

pub one_link_at_2 : {l p : ℕ} {kind : TokenKind} {f : Operator} {x x1 z : List Token} → x ≡ token kind p ∷ x1 → Operates l kind f → Fails (IsLevel l) (EndsLevel l) x1 z → Fails (IsLinks l) (EndsLevel (suc l)) x z
one_link_at_2 e o f = links_fails e o (second good_operator operand_links_behind (operator_read e o) tt (first links_behind f))

pub one_link_at_3 : {l p : ℕ} {kind : TokenKind} {f : Operator} {a : Expr} {x x1 x2 z : List Token} → x ≡ token kind p ∷ x1 → Operates l kind f → IsLevel l a x1 x2 → EndsLevel l (next x2) → Fails (IsLinks l) (EndsLevel (suc l)) x2 z → Fails (IsLinks l) (EndsLevel (suc l)) x z
one_link_at_3 {l = l} e o p h f = links_fails e o (second good_operator operand_links_behind (operator_read e o) tt (second (good_level l) links_behind p h f))

pub one_link_of : {l p : ℕ} {kind : TokenKind} {f : Operator} {a : Expr} {ls : List Link} {x x1 x2 r : List Token} → x ≡ token kind p ∷ x1 → Operates l kind f → IsLevel l a x1 x2 → IsLinks l ls x2 r → IsLinks l (link f a p ∷ ls) x r
one_link_of {l = l} e o p q = move (IsLinks l) _ _ _ _ e (one_link o p q)

pub one_link_step : {l p : ℕ} {kind : TokenKind} {f : Operator} {a : Expr} {ls : List Link} {w x x1 x2 : List Token} → Leads (IsLinks l) (EndsLevel (suc l)) ls w x → x ≡ token kind p ∷ x1 → Operates l kind f → IsLevel l a x1 x2 → EndsLevel l (next x2) → Leads (IsLinks l) (EndsLevel (suc l)) (ls ++ link f a p ∷ []) w x2
one_link_step {p = p} {f = f} {a = a} g e o q h = step (link f a p) g (λ bs r m. one_link_of e o q m) (λ w f. one_link_at_3 e o q h f)

-- what makes an expression of an operand

rest_small : {l : ℕ} {x r : List Token} → IsRest l tt x r → l ≤ 5
rest_small top = omega arith
rest_small (rise h p q) = omega (arith, h)

pub rest_before : {l : ℕ} {x r : List Token} → IsRest l tt x r → EndsExpr (next r) → EndsLevel l (next x)
rest_before top h = h
rest_before (rise l p q) h = before_links p (rest_before q h)

pub rest_up : (m l : ℕ) (r : List Token) → m + l ≡ 5 → IsRest l tt r r
rest_up zero l r e = let f : 5 ≡ l = omega (arith, e) in subst (λ (n : ℕ). IsRest n tt r r) f top
rest_up (suc m) l r e = let h : l < 5 = omega (arith, e) in let f : m + suc l ≡ 5 = omega (arith, e) in rise h no_link (rest_up m (suc l) r f)

rest_behind : {l : ℕ} → l ≤ 5 → Behind (EndsLevel l) (IsRest l) EndsExpr
rest_behind {l = l} h = record { before = λ b x r m k. rest_before m k; some = λ r. let e : (5 - l) + l ≡ 5 = omega (arith, h) in (tt, r, rest_up (5 - l) l r e) }

rest_split : {l : ℕ} {b : Unit {0}} {y s : List Token} → l < 5 → IsRest l b y s → (c : Unit {0}) × (Then (IsLinks l) (IsRest (suc l))) c y s
rest_split h top = absurd (omega (arith, h))
rest_split h (rise l p q) = (_, then_ p q)

rest_join : {l : ℕ} {c : Unit {0}} {y s : List Token} → l < 5 → (Then (IsLinks l) (IsRest (suc l))) c y s → (b : Unit {0}) × IsRest l b y s
rest_join h (then_ p q) = (tt, rise h p q)

rest_fails : {l : ℕ} {S : TokenKind → Type 0} {x z : List Token} → l < 5 → Fails (Then (IsLinks l) (IsRest (suc l))) S x z → Fails (IsRest l) S x z
rest_fails h = renamed (λ a y s l. rest_split h l) (λ b y s m. rest_join h m)

pub rest_at_1 : {l : ℕ} {x z : List Token} → l < 5 → Fails (IsLinks l) (EndsLevel (suc l)) x z → Fails (IsRest l) EndsExpr x z
rest_at_1 {l = l} h f = let k : suc l ≤ 5 = omega (arith, h) in rest_fails h (first (rest_behind k) f)

pub rest_at_2 : {l : ℕ} {ls : List Link} {x x1 z : List Token} → l < 5 → IsLinks l ls x x1 → EndsLevel (suc l) (next x1) → Fails (IsRest (suc l)) EndsExpr x1 z → Fails (IsRest l) EndsExpr x z
rest_at_2 {l = l} h p e f = let k : suc l ≤ 5 = omega (arith, h) in rest_fails h (second (good_links l) (rest_behind k) p e f)

-- an operand of level l, and its rest
pub raised : {l : ℕ} {a : Expr} {x y r : List Token} → IsLevel l a x y → IsRest l tt y r → (v : Expr) × IsLevel 5 v x r
raised p top = (_, p)
raised p (rise h q r) = raised (level p q) r

pub lowered : {l : ℕ} {a : Expr} {x y r : List Token} → IsLevel l a x y → IsRest l tt y r → (Then IsChain (IsRest 0)) tt x r
lowered (operand {h = h} {ss = ss} p) q = then_ {a = (h, ss)} p q
lowered (level p ls) q = let k : _ < 5 = omega (arith, rest_small q) in lowered p (rise k ls q)

pub rest_expr_join : {b : Unit {0}} {y s : List Token} → (Then IsChain (IsRest 0)) b y s → (a : Expr) × IsExpr a y s
rest_expr_join (then_ p q) = let w = raised (operand p) q in (w.0, expr w.1)

links_of_level : {l m : ℕ} {ls : List Link} {y r : List Token} → l ≡ m → IsLinks m ls y r → IsLinks l ls y r
links_of_level {ls = ls} {y = y} {r = r} e p = subst (λ (j : ℕ). IsLinks j ls y r) (sym e) p

ends_of_level : {l m : ℕ} (kind : TokenKind) → l ≡ m → EndsLevel m kind → EndsLevel l kind
ends_of_level kind e h = subst (λ (j : ℕ). EndsLevel j kind) (sym e) h

rest_one : {l m : ℕ} {x r s : List Token} → l ≡ m → IsRest l tt x r → EndsExpr (next r) → IsRest m tt x s → EndsExpr (next s) → r ≡ s
rest_one e top h top k = refl
rest_one e top h (rise l p q) k = absurd (omega (arith, e, l))
rest_one e (rise l p q) h top k = absurd (omega (arith, e, l))
rest_one e (rise l p q) h (rise {l = m} {y = y} {r = r} i t u) k =
    let f = ap (λ (j : ℕ). suc j) e in
    let w = unique_links p (rest_before q h) _ _ (links_of_level e t) (ends_of_level (next y) f (rest_before u k)) in
    rest_one f q h (move (IsRest (suc m)) tt _ y r w.1 u) k

local_rest : {l : ℕ} {x r : List Token} → IsRest l tt x r → (v : List Token) → Keeps r v → (y : List Token) × Cut x r y v × IsRest l tt y v
local_rest top v g = (v, here, top)
local_rest (rise h p q) v g = let m = local_rest q v g in let n = local_links p m.0 (kept m.1 g) in (n.1, trans n.2 m.1, rise h n.3 m.2)

pub good_rest : {l : ℕ} → Good (IsRest l) EndsExpr
good_rest = record {
  unique = λ a b x r s p h q i. (refl, rest_one refl p h q i);
  local = λ a x r p v h. let w = local_rest p v (λ g. no_open (next v) (suffixed_dotted (next v) (expr_suffixed (next v) h))) in (tt, w.0, w.1, w.2);
}

pub rest_of_expr : {h v : Expr} {ss : List Suffix} {x y r : List Token} → IsSuffixed h ss x y → EndsSuffixed (next y) → IsExpr v x r → EndsExpr (next r) → IsRest 0 tt y r
rest_of_expr c u (expr p) h = behind_chain c u (lowered p top) h where
  behind_chain : {g : Expr} {ts : List Suffix} {x y r : List Token} → IsSuffixed g ts x y → EndsSuffixed (next y) → (Then IsChain (IsRest 0)) tt x r → EndsExpr (next r) → IsRest 0 tt y r
  behind_chain c u (then_ d q) h = let m = unique_suffixed c u d (rest_before q h) in move (IsRest 0) tt _ _ _ m.2 q

pub chain_expr : {h : Expr} {ss : List Suffix} {x r : List Token} → IsSuffixed h ss x r → (v : Expr) × IsExpr v x r
chain_expr {h = h} {ss = ss} {r = r} p = let e : 5 + 0 ≡ 5 = omega arith in rest_expr_join (then_ {a = (h, ss)} p (rest_up 5 0 r e))
