-- Two chains of suffixes from one place, and what is assigned to.
use Rattle.std.proofs.Common.{◌≡◌, ℕ, zero, suc, List, [], ◌∷◌, ◌++◌, refl, sym, subst, ap, ◌∙◌, append-nil}
use Rattle.obq_base.specs.declared.tokens.TokenKind.{TokenKind}
use Rattle.obq_base.specs.declared.tokens.TokenKind.TheVariants as k
use Rattle.obq_base.specs.declared.tokens.Token.{Token}
use Rattle.obq_base.specs.declared.trees.Operator.{Operator}
use Rattle.obq_base.specs.declared.trees.Block.{Block}
use Rattle.obq_base.specs.declared.trees.Proc.{Proc}
use Rattle.obq_base.specs.declared.trees.FieldExpr.{FieldExpr}
use Rattle.obq_base.specs.declared.trees.Expr.{Expr}
use Rattle.obq_base.specs.declared.trees.Link.{Link}
use Rattle.obq_base.specs.declared.trees.Suffix.{Suffix}
use Rattle.obq_base.specs.declared.trees.Item.TheVariants as i
use Rattle.obq_model.specs.Words.{sym_dot, sym_assign, sym_open_bracket, sym_close_bracket}
use Rattle.obq_model.specs.Nodes.{token, next, link, suffixed}
use Rattle.obq_model.specs.Grammar.{IsFieldBody, IsMeth, IsExpr, IsLevel, IsLinks, IsSuffixed, IsSuffixes, IsSuffix, IsTry, meth, expr, operand, level, no_link, one_link, chain, no_suffix, one_suffix, dotted, index, select, name, proc_of}
use Rattle.obq_grammar.specs.Follow.{No, is_word, EndsSuffixed, EndsLevel, EndsExpr, EndsItem}
use Rattle.obq_grammar.proofs.Theory.{move, behind, node2}
use Rattle.obq_grammar.proofs.Sets.{item_expr, item_not_assign}
use Rattle.obq_grammar.proofs.Firsts.{first_expr, first_suffix, before_links}

abbrev pub name_of : TokenKind → List ℕ
name_of (k.Name n) = n
name_of _ = []

abbrev pub second_name : List Token → List ℕ
second_name ts = name_of (next (behind ts))

-- x is the "[" of an index whose expression ends where the suffix up to y does
abbrev pub Alone : List Token → List Token → Type 0
Alone x y = (v : Expr) (p : ℕ) (w s : List Token) → x ≡ token sym_open_bracket p ∷ w → IsExpr v w s → EndsExpr (next s) → (q : ℕ) × (s ≡ token sym_close_bracket q ∷ y)

-- one of two lists of suffixes from one place goes on where the other ends
pub data Compared (a b : List Suffix) (r s : List Token) : Type 0 where
  on : (c : List Suffix) → b ≡ a ++ c → IsSuffixes c r s → Compared a b r s
  back : (f : Suffix) (c : List Suffix) (w : List Token) → a ≡ b ++ f ∷ c → IsSuffix f s w → IsSuffixes c w r → Alone s w → Compared a b r s

pub longer : {a b : List Suffix} {r s : List Token} {f g : Suffix} → f ≡ g → Compared a b r s → Compared (f ∷ a) (g ∷ b) r s
longer q (on c e l) = on c (cc) l
longer q (back f c w e g l n) = back f c w (cc) g l n

-- nothing goes on
pub no_longer : {c : List Suffix} {r s : List Token} → IsSuffixes c r s → EndsSuffixed (next r) → (c ≡ []) × (r ≡ s)
no_longer no_suffix h = (refl, refl)
no_longer (one_suffix f l) h = absurd (first_suffix f h)

pub append_none : (a c : List Suffix) → c ≡ [] → a ++ c ≡ a
append_none a c e = ap (λ (l : List Suffix). a ++ l) e ∙ append-nil a

pub ended : {a b : List Suffix} {r s : List Token} → Compared a b r s → EndsSuffixed (next r) → EndsSuffixed (next s) → (a ≡ b) × (r ≡ s)
ended {a = a} (on c e l) h k = let n = no_longer l h in (sym (e ∙ append_none a c n.0), n.1)
ended (back f c w e g l n) h k = absurd (first_suffix g k)

-- the operators and operands behind the first chain of suffixes of an operand of level l
pub data Tail : ℕ → List Token → List Token → Type 0 where
  bare : {x : List Token} → Tail zero x x
  up : {l : ℕ} {ls : List Link} {x y r : List Token} → Tail l x y → IsLinks l ls y r → Tail (suc l) x r

pub tail_ends : {l : ℕ} {x r : List Token} → Tail l x r → EndsLevel l (next r) → EndsSuffixed (next x)
tail_ends bare h = h
tail_ends (up t l) h = tail_ends t (before_links l h)

pub links_stay : {l p : ℕ} {ls : List Link} {y r : List Token} → IsLinks l ls (token sym_assign p ∷ y) r → r ≡ token sym_assign p ∷ y
links_stay no_link = refl
links_stay (one_link o a l) = elim o [ ]

pub tail_stays : {l p : ℕ} {x y r : List Token} → x ≡ token sym_assign p ∷ y → Tail l x r → r ≡ token sym_assign p ∷ y
tail_stays e bare = e
tail_stays e (up {l = l} {ls = ls} t m) = links_stay (move (IsLinks l) ls _ _ _ (sym (tail_stays e t)) m)

pub unwind : {l : ℕ} {v : Expr} {x r : List Token} → IsLevel l v x r → (h : Expr) × (ss : List Suffix) × (y : List Token) × IsSuffixed h ss x y × Tail l y r
unwind (operand p) = (_, _, _, p, bare)
unwind (level a l) = let u = unwind a in (u.0, u.1, u.2, u.3, up u.4 l)

-- what an assignment stands behind is no expression
pub not_assigned : {l p : ℕ} {x y r : List Token} → x ≡ token sym_assign p ∷ y → Tail l x r → EndsItem (next r) → ⊥
not_assigned e t h = item_not_assign _ h (ap next (tail_stays e t))

pub name_alone : {h : Expr} {ss : List Suffix} {n : List ℕ} {p q : ℕ} {y r : List Token} → IsSuffixed h ss (token (k.Name n) p ∷ token sym_assign q ∷ y) r → r ≡ token sym_assign q ∷ y
name_alone (chain name no_suffix) = refl
name_alone (chain (proc_of p) l) = elim p [ ]
name_alone (chain name (one_suffix f l)) = absurd (first_suffix f tt)

pub assigned : {v : Expr} {n : List ℕ} {p q : ℕ} {y r : List Token} → IsExpr v (token (k.Name n) p ∷ token sym_assign q ∷ y) r → EndsItem (next r) → ⊥
assigned (expr e) h = let u = unwind e in not_assigned (name_alone u.3) u.4 h

-- a list of tokens doesn't begin with two kinds
pub kinds : (w : TokenKind) {x y : List Token} → x ≡ y → No (is_word w (next x)) → No (is_word w (next y))
kinds w e h = subst (λ (l : List Token). No (is_word w (next l))) e h

-- two chains that each stand before the last part of an assigned field or item
pub targets : {a b : List Suffix} {r s y z : List Token} {t u : ℕ} → Compared a b r s →
    ((f : Suffix) (w : List Token) → IsSuffix f r w → w ≡ token sym_assign t ∷ y) →
    ((f : Suffix) (w : List Token) → IsSuffix f s w → Alone s w → w ≡ token sym_assign u ∷ z) →
    No (is_word sym_assign (next r)) → No (is_word sym_assign (next s)) → (a ≡ b) × (r ≡ s)
targets {a = a} (on _ e no_suffix) first second h k = (sym (e ∙ append-nil a), refl)
targets (on _ e (one_suffix f l)) first second h k =
    let n = no_longer (move IsSuffixes _ _ _ _ (sym (first _ _ f)) l) tt in
    absurd (kinds sym_assign (sym n.1) k)
targets (back f c w e g l n) first second h k =
    let m = no_longer (move IsSuffixes _ _ _ _ (sym (second f w g n)) l) tt in
    absurd (kinds sym_assign (sym m.1) h)

-- one that stands so, and one of an expression
pub target_plain : {a b : List Suffix} {r s y z : List Token} {l t : ℕ} → Compared a b r s →
    ((f : Suffix) (w : List Token) → IsSuffix f r w → w ≡ token sym_assign t ∷ y) →
    (EndsSuffixed (next r) → ⊥) → Tail l s z → EndsSuffixed (next s) → EndsItem (next z) → ⊥
target_plain (on _ e no_suffix) first never m h k = never h
target_plain (on _ e (one_suffix f l)) first never m h k =
    let n = no_longer (move IsSuffixes _ _ _ _ (sym (first _ _ f)) l) tt in
    not_assigned (sym n.1) m k
target_plain (back f c w e g l n) first never m h k = first_suffix g h

pub plain_target : {a b : List Suffix} {r s y z : List Token} {l t : ℕ} → Compared a b r s →
    ((f : Suffix) (w : List Token) → IsSuffix f s w → Alone s w → w ≡ token sym_assign t ∷ y) →
    (EndsSuffixed (next s) → ⊥) → Tail l r z → EndsSuffixed (next r) → EndsItem (next z) → ⊥
plain_target (on _ e no_suffix) second never m h k = never h
plain_target (on _ e (one_suffix f l)) second never m h k = first_suffix f h
plain_target (back f c w e g l n) second never m h k =
    let o = no_longer (move IsSuffixes _ _ _ _ (sym (second f w g n)) l) tt in
    not_assigned (sym o.1) m k

-- one more suffix leads to the `:=`
pub field_reach : {f : Suffix} {n : List ℕ} {p q t : ℕ} {y w : List Token} → IsSuffix f (token sym_dot p ∷ token (k.Name n) q ∷ token sym_assign t ∷ y) w → w ≡ token sym_assign t ∷ y
field_reach (dotted (select n)) = refl

pub item_reach : {f : Suffix} {p q t : ℕ} {y z w : List Token} → ((v : Expr) (s : List Token) → IsExpr v y s → EndsExpr (next s) → token sym_close_bracket q ∷ token sym_assign t ∷ z ≡ s) → IsSuffix f (token sym_open_bracket p ∷ y) w → w ≡ token sym_assign t ∷ z
item_reach same (index e) = sym (ap behind (same _ _ e tt))

pub item_back : {j : Expr} {p q t : ℕ} {y z w : List Token} → IsExpr j y (token sym_close_bracket q ∷ token sym_assign t ∷ z) → Alone (token sym_open_bracket p ∷ y) w → w ≡ token sym_assign t ∷ z
item_back e n = let m = n _ _ _ _ refl e tt in sym (ap behind m.1)

-- an expression and a chain of suffixes from one place
abbrev pub Met : ℕ → List Suffix → List Token → List Token → Type 0
Met l b r s = (a : List Suffix) × (y : List Token) × Compared a b y s × Tail l y r

-- behind the block of a `try`
pub try_node : {p : ℕ} {b c : Block} {v w : Expr} {y z r s : List Token} → (b ≡ c) × (y ≡ z) → IsTry p c w z s → (b ≡ c → IsTry p c w y s → (v ≡ w) × (r ≡ s)) → (v ≡ w) × (r ≡ s)
try_node {p = p} {c = c} {w = w} {y = y} {z = z} {s = s} e q then = then e.0 (move (IsTry p c) w y z s e.1 q)

pub links_node : {l p : ℕ} {f g : Operator} {a d : Expr} {ls ms : List Link} {y z r s : List Token} → f ≡ g → (a ≡ d) × (y ≡ z) → IsLinks l ms z s → (IsLinks l ms y s → (ls ≡ ms) × (r ≡ s)) → (link f a p ∷ ls ≡ link g d p ∷ ms) × (r ≡ s)
links_node {l = l} {p = p} {g = g} {a = a} {ls = ls} o e q then = let u = node2 (IsLinks l) (λ b bs. link g b p ∷ bs) e q then in (ap (λ f. link f a p ∷ ls) o ∙ u.0, u.1)

pub chain_node : {h g : Expr} {a b : List Suffix} {y z r s : List Token} → (h ≡ g) × (y ≡ z) → IsSuffixes b z s → (IsSuffixes b y s → Compared a b r s) → (h ≡ g) × Compared a b r s
chain_node {b = b} {y = y} {z = z} {s = s} e q then = (e.0, then (move IsSuffixes b y z s e.1 q))

pub ended_chain : {h g : Expr} {a b : List Suffix} {r s : List Token} → (h ≡ g) × Compared a b r s → EndsSuffixed (next r) → EndsSuffixed (next s) → (h ≡ g) × (a ≡ b) × (r ≡ s)
ended_chain e h k = let w = ended e.1 h k in (e.0, w.0, w.1)

pub longer_by : {f g : Suffix} {a b : List Suffix} {y z r s : List Token} → (f ≡ g) × (y ≡ z) → IsSuffixes b z s → (IsSuffixes b y s → Compared a b r s) → Compared (f ∷ a) (g ∷ b) r s
longer_by {b = b} {y = y} {z = z} {s = s} e q then = longer e.0 (then (move IsSuffixes b y z s e.1 q))

pub met_first : {a b : List Suffix} {r s : List Token} {h g : Expr} → (h ≡ g) × Compared a b r s → Met 0 b r s
met_first {a = a} {r = r} e = (a, r, e.1, bare)

pub met_more : {l : ℕ} {b : List Suffix} {ls : List Link} {r y s : List Token} → Met l b y s → IsLinks l ls y r → Met (suc l) b r s
met_more e l = (e.0, e.1, e.2, up e.3 l)

pub alone_index : {v w : Expr} {p q u : ℕ} {x y z s : List Token} → token sym_open_bracket p ∷ x ≡ token sym_open_bracket u ∷ z → IsExpr w z s → (IsExpr w x s → (v ≡ w) × (token sym_close_bracket q ∷ y ≡ s)) → (t : ℕ) × (s ≡ token sym_close_bracket t ∷ y)
alone_index {w = w} {q = q} {x = x} {z = z} {s = s} e n then = let u = then (move IsExpr w x z s (ap behind e) n) in (q, sym u.1)

-- items
pub fields_node : {h g : Expr} {a b : List Suffix} {m n : List ℕ} {v w : FieldExpr} {p q t c d u o : ℕ} {y z r s : List Token} → (h ≡ g) × Compared a b (token sym_dot p ∷ token (k.Name m) q ∷ token sym_assign t ∷ y) (token sym_dot c ∷ token (k.Name n) d ∷ token sym_assign u ∷ z) → IsFieldBody w z s → (IsFieldBody w y s → (v ≡ w) × (r ≡ s)) → (i.SetField (suffixed h a) m v o ≡ i.SetField (suffixed g b) n w o) × (r ≡ s)
fields_node {w = w} {y = y} {z = z} {s = s} e f then =
    let m = targets e.1 (λ n w i. field_reach i) (λ n w i a. field_reach i) tt tt in
    let v = then (move IsFieldBody w y z s (ap behind (ap behind (ap behind m.1))) f) in
    let same = ap second_name m.1 in
    let head = e.0 in
    (cc, v.1)

pub items_node : {h g j1 j v w : Expr} {a b : List Suffix} {p q t c d u o : ℕ} {x y x' y' r s : List Token} → (h ≡ g) × Compared a b (token sym_open_bracket p ∷ x) (token sym_open_bracket c ∷ x') →
    ((e : Expr) (n : List Token) → IsExpr e x n → EndsExpr (next n) → (j1 ≡ e) × (token sym_close_bracket q ∷ token sym_assign t ∷ y ≡ n)) →
    IsExpr j x' (token sym_close_bracket d ∷ token sym_assign u ∷ y') → IsExpr w y' s → (IsExpr w y s → (v ≡ w) × (r ≡ s)) → (i.SetItem (suffixed h a) j1 v o ≡ i.SetItem (suffixed g b) j w o) × (r ≡ s)
items_node {j = j} {w = w} {d = d} {u = u} {x = x} {y = y} {x' = x'} {y' = y'} {s = s} e one n f then =
    let m = targets e.1 (λ f w g. item_reach (λ v s e n. (one v s e n).1) g) (λ f w g a. item_back n a) tt tt in
    let k = one j (token sym_close_bracket d ∷ token sym_assign u ∷ y') (move IsExpr j x x' (token sym_close_bracket d ∷ token sym_assign u ∷ y') (ap behind m.1) n) tt in
    let v = then (move IsExpr w y y' s (ap behind (ap behind k.1)) f) in
    let head = e.0 in
    let same = m.0 in
    let inner = k.0 in
    (cc, v.1)

-- an item of one kind and of another
pub field_item : {h g j : Expr} {a b : List Suffix} {n : List ℕ} {p q t c d u : ℕ} {y x z : List Token} → (h ≡ g) × Compared a b (token sym_dot p ∷ token (k.Name n) q ∷ token sym_assign t ∷ y) (token sym_open_bracket c ∷ x) → IsExpr j x (token sym_close_bracket d ∷ token sym_assign u ∷ z) → ⊥
field_item e n = let m = targets e.1 (λ f w i. field_reach i) (λ f w j a. item_back n a) tt tt in kinds sym_open_bracket m.1 tt

pub item_field : {h g i : Expr} {a b : List Suffix} {n : List ℕ} {p q t c d u : ℕ} {y x z : List Token} → (h ≡ g) × Compared a b (token sym_open_bracket c ∷ x) (token sym_dot p ∷ token (k.Name n) q ∷ token sym_assign t ∷ y) →
    ((e : Expr) (n : List Token) → IsExpr e x n → EndsExpr (next n) → (i ≡ e) × (token sym_close_bracket d ∷ token sym_assign u ∷ z ≡ n)) → ⊥
item_field e one = let m = targets e.1 (λ n w g. item_reach (λ v s e n. (one v s e n).1) g) (λ n w i a. field_reach i) tt tt in kinds sym_open_bracket (sym m.1) tt

-- and an expression
pub field_plain : {h v : Expr} {a : List Suffix} {n : List ℕ} {p q t : ℕ} {x y r : List Token} → IsExpr v x r → EndsItem (next r) → ((g : Expr) (b : List Suffix) (s : List Token) → IsSuffixed g b x s → (h ≡ g) × Compared a b (token sym_dot p ∷ token (k.Name n) q ∷ token sym_assign t ∷ y) s) → ⊥
field_plain {r = r} (expr e) h one =
    let u = unwind e in
    let w = one u.0 u.1 u.2 u.3 in
    target_plain w.1 (λ n w i. field_reach i) (λ n. n) u.4 (tail_ends u.4 (item_expr (next r) h)) h

pub item_plain : {g i v : Expr} {a : List Suffix} {p q t : ℕ} {x y z r : List Token} → IsExpr v x r → EndsItem (next r) → ((h : Expr) (b : List Suffix) (s : List Token) → IsSuffixed h b x s → (g ≡ h) × Compared a b (token sym_open_bracket p ∷ y) s) →
    ((e : Expr) (n : List Token) → IsExpr e y n → EndsExpr (next n) → (i ≡ e) × (token sym_close_bracket q ∷ token sym_assign t ∷ z ≡ n)) → ⊥
item_plain {r = r} (expr e) h chains one =
    let u = unwind e in
    let w = chains u.0 u.1 u.2 u.3 in
    target_plain w.1 (λ n w g. item_reach (λ v s e n. (one v s e n).1) g) (λ n. n) u.4 (tail_ends u.4 (item_expr (next r) h)) h

pub plain_field : {b : List Suffix} {n : List ℕ} {p q t : ℕ} {y r : List Token} → Met 5 b r (token sym_dot p ∷ token (k.Name n) q ∷ token sym_assign t ∷ y) → EndsItem (next r) → ⊥
plain_field {r = r} e h = plain_target e.2 (λ n w i a. field_reach i) (λ n. n) e.3 (tail_ends e.3 (item_expr (next r) h)) h

pub plain_item : {j : Expr} {b : List Suffix} {p q t : ℕ} {y z r : List Token} → Met 5 b r (token sym_open_bracket p ∷ y) → IsExpr j y (token sym_close_bracket q ∷ token sym_assign t ∷ z) → EndsItem (next r) → ⊥
plain_item {r = r} e n h = plain_target e.2 (λ n' w g a. item_back n a) (λ n. n) e.3 (tail_ends e.3 (item_expr (next r) h)) h

pub name_field : {h : Expr} {ss : List Suffix} {n : List ℕ} {p q t : ℕ} {y z : List Token} → IsSuffixed h ss (token (k.Name n) p ∷ token sym_assign q ∷ y) (token sym_dot t ∷ z) → ⊥
name_field p = kinds sym_dot (sym (name_alone p)) tt

pub name_item : {h : Expr} {ss : List Suffix} {n : List ℕ} {p q t : ℕ} {y z : List Token} → IsSuffixed h ss (token (k.Name n) p ∷ token sym_assign q ∷ y) (token sym_open_bracket t ∷ z) → ⊥
name_item p = kinds sym_open_bracket (sym (name_alone p)) tt

-- what agrees with a chain of suffixes, with a list of suffixes, with what stands behind the block of a `try`
abbrev pub Chains : Expr → List Suffix → List Token → List Token → Type 0
Chains h a x r = (g : Expr) (b : List Suffix) (s : List Token) → IsSuffixed g b x s → (h ≡ g) × Compared a b r s

abbrev pub Goes : List Suffix → List Token → List Token → Type 0
Goes a x r = (b : List Suffix) (s : List Token) → IsSuffixes b x s → Compared a b r s

abbrev pub Tries : ℕ → Block → Expr → List Token → List Token → Type 0
Tries p b a x r = (m : Block) (d : Expr) (s : List Token) → b ≡ m → IsTry p m d x s → (a ≡ d) × (r ≡ s)

pub not_meth : {m : Proc} {v : Expr} {x r s : List Token} → IsMeth m x r → IsExpr v x s → ⊥
not_meth (meth a b) e = first_expr e
