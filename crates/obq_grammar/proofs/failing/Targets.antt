-- How a chain of suffixes ends, and so what an assignment behind it sets.
use Rattle.std.proofs.Common.{◌≡◌, ℕ, List, [], ◌∷◌, ◌++◌, refl, sym, subst, ap, ◌∙◌, arith}
use Rattle.obq_base.specs.declared.tokens.Token.{Token}
use Rattle.obq_base.specs.declared.tokens.TokenKind.TheVariants as k
use Rattle.obq_base.specs.declared.trees.Item.{Item}
use Rattle.obq_base.specs.declared.trees.FieldExpr.{FieldExpr}
use Rattle.obq_base.specs.declared.trees.Expr.{Expr}
use Rattle.obq_base.specs.declared.trees.Suffix.{Suffix}
use Rattle.obq_model.specs.Words.{sym_open, sym_dot, sym_assign, sym_open_bracket, sym_close_bracket}
use Rattle.obq_model.specs.Nodes.{token, next}
use Rattle.obq_model.specs.Grammar.{IsNoOpen, IsItem, IsFieldBody, IsExpr, IsSuffixed, IsSuffixes, IsSuffix, IsCall, IsPrim, let_, var, assign, set_field, set_item, plain, proc, expr, chain, no_suffix, one_suffix, apply, dotted, index, select, invoke, int, text, true_, false_, ok, name, proc_of, paren, array, object, if_, loop_, exit, for, foreach, try, raise, watch, redirect, clone}
use Rattle.obq_grammar.specs.Fails.{Cut, here, there}
use Rattle.obq_grammar.specs.Follow.{EndsSuffixed, EndsItem, BeginsName}
use Rattle.obq_grammar.proofs.Theory.{trans, upto, as_tree, behind}
use Rattle.obq_grammar.proofs.Sets.{item_expr, no_open}
use Rattle.obq_grammar.proofs.Firsts.{first_suffixed}
use Rattle.obq_grammar.proofs.Unique.{unique_suffixed}
use Rattle.obq_grammar.proofs.Local.{local_suffixed, local_prim, local_call, local_expr}
use Rattle.obq_grammar.proofs.Local.{Keeps}
use Rattle.obq_grammar.proofs.Chains.{unwind, tail_ends, not_assigned}
use Rattle.obq_base.specs.declared.trees.Suffix.TheVariants as s

-- the productions

-- a chain of suffixes by its end: 0 is no suffix, 1 a selection, 2 an index, 3 a call
pub data Ended : ℕ → List Token → List Token → Type 0 where
  bare : {h : Expr} {x r : List Token} → IsPrim h x r → Ended 0 x r
  selected : {h : Expr} {ss : List Suffix} {n : List ℕ} {p q : ℕ} {x r : List Token} → IsSuffixed h ss x (token sym_dot p ∷ token (k.Name n) q ∷ r) → IsNoOpen (next r) → Ended 1 x r
  indexed : {h v : Expr} {ss : List Suffix} {p q : ℕ} {x y r : List Token} → IsSuffixed h ss x (token sym_open_bracket p ∷ y) → IsExpr v y (token sym_close_bracket q ∷ r) → Ended 2 x r
  applied : {h : Expr} {ss : List Suffix} {vs : List Expr} {p : ℕ} {x y r : List Token} → IsSuffixed h ss x (token sym_open p ∷ y) → IsCall vs y r → Ended 3 x r
  invoked : {h : Expr} {ss : List Suffix} {vs : List Expr} {n : List ℕ} {p q t : ℕ} {x y r : List Token} → IsSuffixed h ss x (token sym_dot p ∷ token (k.Name n) q ∷ token sym_open t ∷ y) → IsCall vs y r → Ended 3 x r

-- what stands behind a chain has no part in how it ends
pub local_ended : {c : ℕ} {x r : List Token} → Ended c x r → (v : List Token) → Keeps r v → (y : List Token) × Cut x r y v × Ended c y v
local_ended (bare p) v g = let m = local_prim p v in (m.1, m.2, bare m.3)
local_ended (selected {n = n} {p = p} {q = q} c o) v g =
    let m = local_suffixed c (token sym_dot p ∷ token (k.Name n) q ∷ v) (λ h. h) in
    (m.2, trans m.3 (there (there here)), selected m.4 (g o))
local_ended (indexed {p = p} {q = q} c e) v g =
    let i = local_expr e (token sym_close_bracket q ∷ v) (λ h. h) in
    let m = local_suffixed c (token sym_open_bracket p ∷ i.1) (λ h. h) in
    (m.2, trans m.3 (there (trans i.2 (there here))), indexed m.4 i.3)
local_ended (applied {p = p} c a) v g =
    let i = local_call a v in
    let m = local_suffixed c (token sym_open p ∷ i.1) (λ h. h) in
    (m.2, trans m.3 (there i.2), applied m.4 i.3)
local_ended (invoked {n = n} {p = p} {q = q} {t = t} c a) v g =
    let i = local_call a v in
    let m = local_suffixed c (token sym_dot p ∷ token (k.Name n) q ∷ token sym_open t ∷ i.1) (λ h. h) in
    (m.2, trans m.3 (there (there (there i.2))), invoked m.4 i.3)

snoc : {ss : List Suffix} {f : Suffix} {x y r : List Token} → IsSuffixes ss x y → IsSuffix f y r → IsSuffixes (ss ++ f ∷ []) x r
snoc no_suffix p = one_suffix p no_suffix
snoc (one_suffix q l) p = one_suffix q (snoc l p)

snoc_chain : {h : Expr} {ss : List Suffix} {f : Suffix} {x y r : List Token} → IsSuffixed h ss x y → IsSuffix f y r → IsSuffixed h (ss ++ f ∷ []) x r
snoc_chain (chain p l) q = chain p (snoc l q)

-- how suffixes end that are read so
pub data IsLast : ℕ → Suffix → Type 0 where
  a_selection : (n : List ℕ) (p : ℕ) → IsLast 1 (s.Select n p)
  an_index : (v : Expr) (p : ℕ) → IsLast 2 (s.Index v p)
  an_application : (vs : List Expr) (p : ℕ) → IsLast 3 (s.Apply vs p)
  an_invocation : (n : List ℕ) (vs : List Expr) (p : ℕ) → IsLast 3 (s.Invoke n vs p)

pub data EndsIn : ℕ → List Suffix → Type 0 where
  in_none : EndsIn 0 []
  in_one : {c : ℕ} (ss : List Suffix) (f : Suffix) → IsLast c f → EndsIn c (ss ++ f ∷ [])

pub chain_of : {c : ℕ} {x r : List Token} → Ended c x r → (h : Expr) × (ss : List Suffix) × IsSuffixed h ss x r × EndsIn c ss
chain_of (bare p) = (_, [], chain p no_suffix, in_none)
chain_of (selected {ss = ss} {n = n} {p = p} c o) = (_, _, snoc_chain c (dotted (select o)), in_one ss (s.Select n p) (a_selection n p))
chain_of (indexed {v = v} {ss = ss} {p = p} c e) = (_, _, snoc_chain c (index e), in_one ss (s.Index v p) (an_index v p))
chain_of (applied {ss = ss} {vs = vs} {p = p} c a) = (_, _, snoc_chain c (apply a), in_one ss (s.Apply vs p) (an_application vs p))
chain_of (invoked {ss = ss} {vs = vs} {n = n} {p = p} c a) = (_, _, snoc_chain c (dotted (invoke a)), in_one ss (s.Invoke n vs p) (an_invocation n vs p))

one_last : {c d : ℕ} {f g : Suffix} → IsLast c f → IsLast d g → f ≡ g → c ≡ d
one_last (a_selection n p) (a_selection m q) e = refl
one_last (a_selection n p) (an_index w q) e = cc
one_last (a_selection n p) (an_application ws q) e = cc
one_last (a_selection n p) (an_invocation m ws q) e = cc
one_last (an_index v p) (a_selection m q) e = cc
one_last (an_index v p) (an_index w q) e = refl
one_last (an_index v p) (an_application ws q) e = cc
one_last (an_index v p) (an_invocation m ws q) e = cc
one_last (an_application vs p) (a_selection m q) e = cc
one_last (an_application vs p) (an_index w q) e = cc
one_last (an_application vs p) (an_application ws q) e = refl
one_last (an_application vs p) (an_invocation m ws q) e = refl
one_last (an_invocation n vs p) (a_selection m q) e = cc
one_last (an_invocation n vs p) (an_index w q) e = cc
one_last (an_invocation n vs p) (an_application ws q) e = refl
one_last (an_invocation n vs p) (an_invocation m ws q) e = refl

abbrev last_of : Suffix → List Suffix → Suffix
last_of d [] = d
last_of d (f ∷ ss) = last_of f ss

snoc_last : (d : Suffix) (ss : List Suffix) (f : Suffix) → last_of d (ss ++ f ∷ []) ≡ f
snoc_last d [] f = refl
snoc_last d (g ∷ ss) f = snoc_last g ss f

none_longer : (ss : List Suffix) (f : Suffix) → [] ≡ ss ++ f ∷ [] → ⊥
none_longer [] f e = cc
none_longer (g ∷ ss) f e = cc

one_end : {c d : ℕ} {ss ts : List Suffix} → EndsIn c ss → EndsIn d ts → ss ≡ ts → c ≡ d
one_end in_none in_none e = refl
one_end in_none (in_one ts g m) e = absurd (none_longer ts g e)
one_end (in_one ss f l) in_none e = absurd (none_longer ss f (sym e))
one_end (in_one ss f l) (in_one ts g m) e = one_last l m (sym (snoc_last f ss f) ∙ (ap (λ (l : List Suffix). last_of f l) e ∙ snoc_last f ts g))

-- a call is none of the other ends
pub not_bare_call : (ss : List Suffix) (vs : List Expr) (p : ℕ) → ss ++ s.Apply vs p ∷ [] ≡ [] → ⊥
not_bare_call ss vs p e = none_longer ss (s.Apply vs p) (sym e)

pub not_field_call : (ss : List Suffix) (vs : List Expr) (p : ℕ) (ts : List Suffix) (n : List ℕ) (q : ℕ) → ss ++ s.Apply vs p ∷ [] ≡ ts ++ s.Select n q ∷ [] → ⊥
not_field_call ss vs p ts n q e = absurd (omega (arith, one_end (in_one ss (s.Apply vs p) (an_application vs p)) (in_one ts (s.Select n q) (a_selection n q)) e))

pub not_item_call : (ss : List Suffix) (vs : List Expr) (p : ℕ) (ts : List Suffix) (v : Expr) (q : ℕ) → ss ++ s.Apply vs p ∷ [] ≡ ts ++ s.Index v q ∷ [] → ⊥
not_item_call ss vs p ts v q e = absurd (omega (arith, one_end (in_one ss (s.Apply vs p) (an_application vs p)) (in_one ts (s.Index v q) (an_index v q)) e))

-- an item with a chain before its `:=`, by the end of that chain
pub data Assigned (x : List Token) : ℕ → List Token → List Token → Type 0 where
  to_name : {v : Expr} {w s : List Token} → BeginsName (next x) → IsExpr v w s → Assigned x 0 w s
  to_field : {b : FieldExpr} {w s : List Token} → IsFieldBody b w s → Assigned x 1 w s
  to_item : {v : Expr} {w s : List Token} → IsExpr v w s → Assigned x 2 w s

again : {x y w s : List Token} {c d : ℕ} → (c ≡ d) × (w ≡ y) → Assigned x d y s → Assigned x c w s
again {x = x} {w = w} {s = s} {d = d} e a = subst (λ (n : ℕ). Assigned x n w s) (sym e.0) (subst (λ (l : List Token). Assigned x d l s) (sym e.1) a)

before_assign : {q : ℕ} {r w : List Token} → r ≡ token sym_assign q ∷ w → EndsSuffixed (next r)
before_assign e = subst (λ (l : List Token). EndsSuffixed (next l)) (sym e) tt

-- two chains up to a `:=` from one place
meets : {c d q u : ℕ} {x r w y : List Token} → Ended c x r → r ≡ token sym_assign q ∷ w → Ended d x (token sym_assign u ∷ y) → (c ≡ d) × (w ≡ y)
meets m e n =
    let a = chain_of m in
    let b = chain_of n in
    let u = unique_suffixed a.2 (before_assign e) b.2 tt in
    (one_end a.3 b.3 u.1, ap behind (sym e ∙ u.2))

pub target_of : {c q : ℕ} {a : Item} {x r w s : List Token} → Ended c x r → r ≡ token sym_assign q ∷ w → IsItem a x s → EndsItem (next s) → Assigned x c w s
target_of m e (let_ p) h = absurd (first_suffixed (chain_of m).2)
target_of m e (var p) h = absurd (first_suffixed (chain_of m).2)
target_of m e (assign p) h = again (meets m e (bare name)) (to_name tt p)
target_of m e (set_field f b) h = again (meets m e (selected f (no_open sym_assign tt))) (to_field b)
target_of m e (set_item f i v) h = again (meets m e (indexed f i)) (to_item v)
target_of {s = s} m e (plain (expr l)) h =
    let u = unwind l in
    let n = unique_suffixed (chain_of m).2 (before_assign e) u.3 (tail_ends u.4 (item_expr (next s) h)) in
    absurd (not_assigned (sym n.2 ∙ e) u.4 h)

-- what was assigned, where the chain's end is known
pub assigned_field : {c : ℕ} {x w s : List Token} → Assigned x c w s → c ≡ 1 → (b : FieldExpr) × IsFieldBody b w s
assigned_field (to_name n p) e = absurd (omega (arith, e))
assigned_field (to_field p) e = (_, p)
assigned_field (to_item p) e = absurd (omega (arith, e))

pub assigned_item : {c : ℕ} {x w s : List Token} → Assigned x c w s → c ≡ 2 → (v : Expr) × IsExpr v w s
assigned_item (to_name n p) e = absurd (omega (arith, e))
assigned_item (to_field p) e = absurd (omega (arith, e))
assigned_item (to_item p) e = (_, p)

pub not_assigned_to : {c : ℕ} {x w s : List Token} → Assigned x c w s → (c ≡ 0 → BeginsName (next x) → ⊥) → (c ≡ 1 → ⊥) → (c ≡ 2 → ⊥) → ⊥
not_assigned_to (to_name n p) f g h = f refl n
not_assigned_to (to_field p) f g h = g refl
not_assigned_to (to_item p) f g h = h refl

-- an item of such a chain
pub field_set : {c q : ℕ} {b : FieldExpr} {x w r : List Token} → Ended c x (token sym_assign q ∷ w) → c ≡ 1 → IsFieldBody b w r → (a : Item) × IsItem a x r
field_set (bare p) e f = absurd (omega (arith, e))
field_set (selected c o) e f = (_, set_field c f)
field_set (indexed c i) e f = absurd (omega (arith, e))
field_set (applied c a) e f = absurd (omega (arith, e))
field_set (invoked c a) e f = absurd (omega (arith, e))

pub item_set : {c q : ℕ} {v : Expr} {x w r : List Token} → Ended c x (token sym_assign q ∷ w) → c ≡ 2 → IsExpr v w r → (a : Item) × IsItem a x r
item_set (bare p) e f = absurd (omega (arith, e))
item_set (selected c o) e f = absurd (omega (arith, e))
item_set (indexed c i) e f = (_, set_item c i f)
item_set (applied c a) e f = absurd (omega (arith, e))
item_set (invoked c a) e f = absurd (omega (arith, e))

-- the last suffix of a chain

unsnoc : {f : Suffix} {x r : List Token} (ss : List Suffix) → IsSuffixes (ss ++ f ∷ []) x r → (y : List Token) × IsSuffixes ss x y × IsSuffix f y r
unsnoc [] (one_suffix p no_suffix) = (_, no_suffix, p)
unsnoc (g ∷ ss) (one_suffix p l) = let m = unsnoc ss l in (m.0, one_suffix p m.1, m.2)

unsnoc_chain : {h : Expr} {f : Suffix} {x r : List Token} (ss : List Suffix) → IsSuffixed h (ss ++ f ∷ []) x r → (y : List Token) × IsSuffixed h ss x y × IsSuffix f y r
unsnoc_chain ss (chain p l) = let m = unsnoc ss l in (m.0, chain p m.1, m.2)

as_selection : {f : Suffix} {n : List ℕ} {p : ℕ} {x r : List Token} → IsSuffix f x r → f ≡ s.Select n p → (q : ℕ) × (x ≡ token sym_dot p ∷ token (k.Name n) q ∷ r) × IsNoOpen (next r)
as_selection (apply c) e = cc
as_selection (dotted {q = q} (select o)) e = (q, cc, o)
as_selection (dotted (invoke c)) e = cc
as_selection (index c) e = cc

as_index : {f : Suffix} {v : Expr} {p : ℕ} {x r : List Token} → IsSuffix f x r → f ≡ s.Index v p → (q : ℕ) × (y : List Token) × (x ≡ token sym_open_bracket p ∷ y) × IsExpr v y (token sym_close_bracket q ∷ r)
as_index (apply c) e = cc
as_index (dotted (select o)) e = cc
as_index (dotted (invoke c)) e = cc
as_index {v = w} (index {v = v} {q = q} {x = y} c) e = let f : w ≡ v = cc in (q, y, cc, as_tree IsExpr f c)

-- a chain up to its last selection, up to its last index
pub field_before : {h : Expr} {x r : List Token} (ss : List Suffix) (n : List ℕ) (p : ℕ) → IsSuffixed h (ss ++ s.Select n p ∷ []) x r → (q : ℕ) × IsSuffixed h ss x (token sym_dot p ∷ token (k.Name n) q ∷ r) × IsNoOpen (next r)
field_before {h = h} ss n p c =
    let m = unsnoc_chain ss c in
    let f = as_selection m.2 refl in
    (f.0, upto (IsSuffixed h) f.1 m.1, f.2)

pub item_before : {h : Expr} {x r : List Token} (ss : List Suffix) (v : Expr) (p : ℕ) → IsSuffixed h (ss ++ s.Index v p ∷ []) x r → (q : ℕ) × (y : List Token) × IsSuffixed h ss x (token sym_open_bracket p ∷ y) × IsExpr v y (token sym_close_bracket q ∷ r)
item_before {h = h} ss v p c =
    let m = unsnoc_chain ss c in
    let f = as_index m.2 refl in
    (f.0, f.1, upto (IsSuffixed h) f.2 m.1, f.3)

pub bare_name : {h : Expr} {n : List ℕ} {x r : List Token} → IsPrim h x r → next x ≡ k.Name n → (p : ℕ) × (x ≡ token (k.Name n) p ∷ r)
bare_name int e = cc
bare_name text e = cc
bare_name true_ e = cc
bare_name false_ e = cc
bare_name ok e = cc
bare_name (name {p = p}) e = (p, cc)
bare_name (proc_of (proc a b)) e = cc
bare_name (paren a) e = cc
bare_name (array a) e = cc
bare_name (object a) e = cc
bare_name (if_ a b c) e = cc
bare_name (loop_ a) e = cc
bare_name exit e = cc
bare_name (for a b c) e = cc
bare_name (foreach a b) e = cc
bare_name (try a b) e = cc
bare_name (raise a) e = cc
bare_name (watch a b) e = cc
bare_name (redirect a b) e = cc
bare_name (clone a) e = cc

pub data HasEnd : ℕ → List Suffix → Type 0 where
  no_end : HasEnd 0 []
  any_selection : {ss : List Suffix} (ts : List Suffix) (n : List ℕ) (p : ℕ) → ss ≡ ts ++ s.Select n p ∷ [] → HasEnd 1 ss
  any_index : {ss : List Suffix} (ts : List Suffix) (v : Expr) (p : ℕ) → ss ≡ ts ++ s.Index v p ∷ [] → HasEnd 2 ss
  any_call : {ss : List Suffix} → HasEnd 3 ss

pub ended_field : {h : Expr} {x r : List Token} (ss : List Suffix) (n : List ℕ) (p : ℕ) → IsSuffixed h (ss ++ s.Select n p ∷ []) x r → Ended 1 x r
ended_field ss n p c = let m = field_before ss n p c in selected m.1 m.2

pub ended_item : {h : Expr} {x r : List Token} (ss : List Suffix) (v : Expr) (p : ℕ) → IsSuffixed h (ss ++ s.Index v p ∷ []) x r → Ended 2 x r
ended_item ss v p c = let m = item_before ss v p c in indexed m.2 m.3

-- the end of any chain

ended_so : {h : Expr} {ss ts : List Suffix} {f : Suffix} {x y r : List Token} → IsSuffixed h ts x y → IsSuffix f y r → ss ≡ ts ++ f ∷ [] → (c : ℕ) × Ended c x r × HasEnd c ss
ended_so {ts = ts} c (apply a) e = (3, applied c a, any_call)
ended_so {ts = ts} c (dotted {p = p} (select {n = n} o)) e = (1, selected c o, any_selection ts n p e)
ended_so {ts = ts} c (dotted (invoke a)) e = (3, invoked c a, any_call)
ended_so {ts = ts} c (index {v = v} {p = p} i) e = (2, indexed c i, any_index ts v p e)

last_one : {f : Suffix} {ss : List Suffix} {x y r : List Token} → IsSuffix f x y → IsSuffixes ss y r → (ts : List Suffix) × (g : Suffix) × (w : List Token) × IsSuffixes ts x w × IsSuffix g w r × (f ∷ ss ≡ ts ++ g ∷ [])
last_one {f = f} p no_suffix = ([], f, _, no_suffix, p, refl)
last_one {f = f} p (one_suffix q l) = let m = last_one q l in (f ∷ m.0, m.1, m.2, one_suffix p m.3, m.4, ap (λ (l : List Suffix). f ∷ l) m.5)

pub ended_of : {h : Expr} {ss : List Suffix} {x r : List Token} → IsSuffixed h ss x r → (c : ℕ) × Ended c x r × HasEnd c ss
ended_of (chain p no_suffix) = (0, bare p, no_end)
ended_of (chain p (one_suffix q l)) = let m = last_one q l in ended_so (chain p m.3) m.4 m.5

pub no_suffixes : {c : ℕ} {ss : List Suffix} → HasEnd c ss → c ≡ 0 → ss ≡ []
no_suffixes no_end e = refl
no_suffixes (any_selection ts n p l) e = absurd (omega (arith, e))
no_suffixes (any_index ts v p l) e = absurd (omega (arith, e))
no_suffixes any_call e = absurd (omega (arith, e))

pub last_selection : {c : ℕ} {ss : List Suffix} → HasEnd c ss → c ≡ 1 → (ts : List Suffix) × (n : List ℕ) × (p : ℕ) × (ss ≡ ts ++ s.Select n p ∷ [])
last_selection no_end e = absurd (omega (arith, e))
last_selection (any_selection ts n p l) e = (ts, n, p, l)
last_selection (any_index ts v p l) e = absurd (omega (arith, e))
last_selection any_call e = absurd (omega (arith, e))

pub last_index : {c : ℕ} {ss : List Suffix} → HasEnd c ss → c ≡ 2 → (ts : List Suffix) × (v : Expr) × (p : ℕ) × (ss ≡ ts ++ s.Index v p ∷ [])
last_index no_end e = absurd (omega (arith, e))
last_index (any_selection ts n p l) e = absurd (omega (arith, e))
last_index (any_index ts v p l) e = (ts, v, p, l)
last_index any_call e = absurd (omega (arith, e))
