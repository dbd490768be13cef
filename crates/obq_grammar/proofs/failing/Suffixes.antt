-- Chains of suffixes. `C_at_i`: where the part i of the production C fails, what the production derives fails; the arguments are the parts before it
-- (a word or a name by the tokens that begin with it, another part by its derivation and by the token behind it), and then how part i fails.
-- `C_end`: behind the last part stands what may not stand behind the production. `C_of`: the production from its parts. `C_step`: one more of a list so far.
use Rattle.std.proofs.Common.{◌≡◌, ℕ, List, [], ◌∷◌, ◌++◌, refl, sym, subst}
use Rattle.obq_base.specs.declared.tokens.Token.{Token}
use Rattle.obq_base.specs.declared.tokens.TokenKind.{TokenKind}
use Rattle.obq_base.specs.declared.tokens.TokenKind.TheVariants as k
use Rattle.obq_base.specs.declared.trees.Expr.{Expr}
use Rattle.obq_base.specs.declared.trees.Suffix.{Suffix}
use Rattle.obq_model.specs.Words.{sym_open, sym_close, sym_dot, sym_open_bracket, sym_close_bracket}
use Rattle.obq_model.specs.Nodes.{token, next}
use Rattle.obq_model.specs.Grammar.{IsNoOpen, IsExpr, IsSuffixed, IsSuffixes, IsSuffix, IsDotted, IsCall, IsPrim, chain, no_suffix, one_suffix, apply, dotted, index, select, invoke, no_argument}
use Rattle.obq_grammar.specs.Fails.{Cut, here, there, Fails}
use Rattle.obq_grammar.specs.Follow.{No, is_word, Anything, EndsSuffixed, EndsExpr, BeginsName}
use Rattle.obq_grammar.proofs.Theory.{Begins, same_front, after, Leads, step, move, upto}
use Rattle.obq_grammar.proofs.Sets.{no_open, suffixed_dotted}
use Rattle.obq_grammar.proofs.Firsts.{first_suffix}
use Rattle.obq_grammar.proofs.Goods.{good_expr, good_call, good_prim}
use Rattle.obq_grammar.specs.Parts.{IsWord, the_word, IsName, the_name, Then, then_, IsChain, IsDottedBody, dotted_body}
use Rattle.obq_grammar.proofs.failing.Sequences.{Behind, anything, word_behind, then_behind, first, second, production, opened, nothing, good_word, good_name, word, named, also, other_word, other_name, renamed}
use Rattle.obq_grammar.proofs.failing.Beginnings.{some_suffixes, some_dotted}
use Rattle.obq_base.specs.declared.trees.Suffix.TheVariants as s

-- the productions

dotted_again : {f : Suffix} {x r : List Token} (m : List ℕ) (o : ℕ) → IsDottedBody f x r → (g : Suffix) × IsDotted m o g x r
dotted_again m o (dotted_body (select n)) = (_, select n)
dotted_again m o (dotted_body (invoke p)) = (_, invoke p)

dotted_fails_body : {m : List ℕ} {o : ℕ} {S : TokenKind → Type 0} {x z : List Token} → Fails (IsDotted m o) S x z → Fails IsDottedBody S x z
dotted_fails_body {m = m} {o = o} = renamed (λ b y r d. dotted_again m o d) (λ a y r l. (a, dotted_body l))

invoke_split : {m : List ℕ} {o : ℕ} {a : Suffix} {p : ℕ} {y s : List Token} → IsDotted m o a (token sym_open p ∷ y) s → Anything (next s) → (b : List Expr) × IsCall b y s
invoke_split (select g) h = absurd (g refl)
invoke_split (invoke p2) h = (_, p2)

invoke_join : {m : List ℕ} {o : ℕ} {b : List Expr} {y s : List Token} (p : ℕ) → IsCall b y s → (a : Suffix) × IsDotted m o a (token sym_open p ∷ y) s
invoke_join p p2 = (_, invoke p2)

invoke_fails : {m : List ℕ} {o : ℕ} {p : ℕ} {x y z : List Token} → x ≡ token sym_open p ∷ y → Fails IsCall Anything y z → Fails (IsDotted m o) Anything x z
invoke_fails e = opened (λ p a y s l h. invoke_split l h) (λ p b y s m. invoke_join p m) (word e)

pub invoke_at_2 : {m : List ℕ} {o : ℕ} {q : ℕ} {x x1 z : List Token} → x ≡ token sym_open q ∷ x1 → Fails IsCall Anything x1 z → Fails (IsDotted m o) Anything x z
invoke_at_2 e1 f = invoke_fails e1 f

pub invoke_of : {n : List ℕ} {p : ℕ} {vs : List Expr} {q : ℕ} {x x1 r : List Token} → x ≡ token sym_open q ∷ x1 → IsCall vs x1 r → IsDotted n p (s.Invoke n vs p) x r
invoke_of {n = n} {p = p} e1 p2 = move (IsDotted n p) _ _ _ _ e1 (invoke p2)

apply_split : {a : Suffix} {p : ℕ} {y s : List Token} → IsSuffix a (token sym_open p ∷ y) s → Anything (next s) → (b : List Expr) × IsCall b y s
apply_split (apply p2) h = (_, p2)

apply_join : {b : List Expr} {y s : List Token} (p : ℕ) → IsCall b y s → (a : Suffix) × IsSuffix a (token sym_open p ∷ y) s
apply_join p p2 = (_, apply p2)

apply_fails : {p : ℕ} {x y z : List Token} → x ≡ token sym_open p ∷ y → Fails IsCall Anything y z → Fails IsSuffix Anything x z
apply_fails e = opened (λ p a y s l h. apply_split l h) (λ p b y s m. apply_join p m) (word e)

pub apply_at_2 : {p : ℕ} {x x1 z : List Token} → x ≡ token sym_open p ∷ x1 → Fails IsCall Anything x1 z → Fails IsSuffix Anything x z
apply_at_2 e1 f = apply_fails e1 f

pub apply_of : {vs : List Expr} {p : ℕ} {x x1 r : List Token} → x ≡ token sym_open p ∷ x1 → IsCall vs x1 r → IsSuffix (s.Apply vs p) x r
apply_of e1 p2 = move IsSuffix _ _ _ _ e1 (apply p2)

dotted_split : {a : Suffix} {p : ℕ} {y s : List Token} → IsSuffix a (token sym_dot p ∷ y) s → Anything (next s) → (b : Unit {0}) × (Then IsName IsDottedBody) b y s
dotted_split (dotted p3) h = (_, then_ the_name (dotted_body p3))

dotted_join : {b : Unit {0}} {y s : List Token} (p : ℕ) → (Then IsName IsDottedBody) b y s → (a : Suffix) × IsSuffix a (token sym_dot p ∷ y) s
dotted_join p (then_ the_name m) = let w = dotted_again _ p m in (_, dotted w.1)

dotted_fails : {p : ℕ} {x y z : List Token} → x ≡ token sym_dot p ∷ y → Fails (Then IsName IsDottedBody) Anything y z → Fails IsSuffix Anything x z
dotted_fails e = opened (λ p a y s l h. dotted_split l h) (λ p b y s m. dotted_join p m) (word e)

pub dotted_at_2 : {p : ℕ} {x x1 : List Token} → x ≡ token sym_dot p ∷ x1 → (BeginsName (next x1) → ⊥) → Fails IsSuffix Anything x x1
dotted_at_2 e1 f = dotted_fails e1 (first (anything some_dotted) (other_name f))

pub dotted_at_3 : {m : List ℕ} {o : ℕ} {n : List ℕ} {p q : ℕ} {x x1 x2 z : List Token} → x ≡ token sym_dot p ∷ x1 → x1 ≡ token (k.Name n) q ∷ x2 → Fails (IsDotted m o) Anything x2 z → Fails IsSuffix Anything x z
dotted_at_3 e1 e2 f = dotted_fails e1 (second good_name (anything some_dotted) (named e2) tt (dotted_fails_body f))

pub dotted_of : {n : List ℕ} {f : Suffix} {p q : ℕ} {x x1 x2 r : List Token} → x ≡ token sym_dot p ∷ x1 → x1 ≡ token (k.Name n) q ∷ x2 → IsDotted n p f x2 r → IsSuffix f x r
dotted_of e1 e2 p3 = move IsSuffix _ _ _ _ (also e1 e2) (dotted p3)

index_split : {a : Suffix} {p : ℕ} {y s : List Token} → IsSuffix a (token sym_open_bracket p ∷ y) s → Anything (next s) → (b : Unit {0}) × (Then IsExpr (IsWord sym_close_bracket)) b y s
index_split (index p2) h = (_, then_ p2 the_word)

index_join : {b : Unit {0}} {y s : List Token} (p : ℕ) → (Then IsExpr (IsWord sym_close_bracket)) b y s → (a : Suffix) × IsSuffix a (token sym_open_bracket p ∷ y) s
index_join p (then_ p2 the_word) = (_, index p2)

index_fails : {p : ℕ} {x y z : List Token} → x ≡ token sym_open_bracket p ∷ y → Fails (Then IsExpr (IsWord sym_close_bracket)) Anything y z → Fails IsSuffix Anything x z
index_fails e = opened (λ p a y s l h. index_split l h) (λ p b y s m. index_join p m) (word e)

pub index_at_2 : {p : ℕ} {x x1 z : List Token} → x ≡ token sym_open_bracket p ∷ x1 → Fails IsExpr EndsExpr x1 z → Fails IsSuffix Anything x z
index_at_2 e1 f = index_fails e1 (first (word_behind tt) f)

pub index_at_3 : {v : Expr} {p : ℕ} {x x1 x2 : List Token} → x ≡ token sym_open_bracket p ∷ x1 → IsExpr v x1 x2 → EndsExpr (next x2) → No (is_word sym_close_bracket (next x2)) → Fails IsSuffix Anything x x2
index_at_3 e1 p2 h2 f = index_fails e1 (second good_expr (word_behind tt) p2 h2 (other_word tt f))

pub index_of : {v : Expr} {p q : ℕ} {x x1 x2 r : List Token} → x ≡ token sym_open_bracket p ∷ x1 → IsExpr v x1 x2 → x2 ≡ token sym_close_bracket q ∷ r → IsSuffix (s.Index v p) x r
index_of e1 p2 e3 = move IsSuffix _ _ _ _ e1 (index (upto IsExpr e3 p2))

-- a token that goes on with no chain
pub suffix_stop : {x : List Token} → EndsSuffixed (next x) → Fails IsSuffix Anything x x
suffix_stop = nothing EndsSuffixed (λ a y s c p h. first_suffix p c) (λ r. (s.Apply [] 0, token sym_open 0 ∷ token sym_close 0 ∷ r, apply no_argument))

one_suffix_back : {a : List Suffix} {y s : List Token} → (EndsSuffixed (next y) → ⊥) → IsSuffixes a y s → EndsSuffixed (next s) → Begins IsSuffix Anything y
one_suffix_back n no_suffix h = absurd (n h)
one_suffix_back n (one_suffix p l) h = (_, _, p, tt)

pub one_suffix_at_1 : {x z : List Token} → (EndsSuffixed (next x) → ⊥) → Fails IsSuffix Anything x z → Fails IsSuffixes EndsSuffixed x z
one_suffix_at_1 n f = after [] (λ a y s e l h. one_suffix_back (λ k. n (subst EndsSuffixed e k)) l h) (λ r h. (r, tt, λ b y p. (_, one_suffix p no_suffix))) f

more_apply_split : {a : List Suffix} {p : ℕ} {y s : List Token} → IsSuffixes a (token sym_open p ∷ y) s → EndsSuffixed (next s) → (b : Unit {0}) × (Then IsCall IsSuffixes) b y s
more_apply_split no_suffix h = absurd h
more_apply_split (one_suffix (apply c) l) h = (_, then_ c l)

more_apply_join : {b : Unit {0}} {y s : List Token} (p : ℕ) → (Then IsCall IsSuffixes) b y s → (a : List Suffix) × IsSuffixes a (token sym_open p ∷ y) s
more_apply_join p (then_ c l) = (_, one_suffix (apply c) l)

more_index_split : {a : List Suffix} {p : ℕ} {y s : List Token} → IsSuffixes a (token sym_open_bracket p ∷ y) s → EndsSuffixed (next s) → (b : Unit {0}) × (Then IsExpr (Then (IsWord sym_close_bracket) IsSuffixes)) b y s
more_index_split no_suffix h = absurd h
more_index_split (one_suffix (index c) l) h = (_, then_ c (then_ the_word l))

more_index_join : {b : Unit {0}} {y s : List Token} (p : ℕ) → (Then IsExpr (Then (IsWord sym_close_bracket) IsSuffixes)) b y s → (a : List Suffix) × IsSuffixes a (token sym_open_bracket p ∷ y) s
more_index_join p (then_ c (then_ the_word l)) = (_, one_suffix (index c) l)

close_suffixes_behind : Behind EndsExpr (Then (IsWord sym_close_bracket) IsSuffixes) EndsSuffixed
close_suffixes_behind = then_behind {V = Anything} (word_behind tt) (anything some_suffixes)

more_invoke_split : {a : List Suffix} {n : List ℕ} {p q t : ℕ} {y s : List Token} → IsSuffixes a (token sym_dot p ∷ token (k.Name n) q ∷ token sym_open t ∷ y) s → EndsSuffixed (next s) → (Then IsCall IsSuffixes) tt y s
more_invoke_split no_suffix h = absurd h
more_invoke_split (one_suffix (dotted (select g)) l) h = absurd (g refl)
more_invoke_split (one_suffix (dotted (invoke c)) l) h = then_ c l

more_invoke_join : {b : Unit {0}} {n : List ℕ} {p q t : ℕ} {y s : List Token} → (Then IsCall IsSuffixes) b y s → (a : List Suffix) × IsSuffixes a (token sym_dot p ∷ token (k.Name n) q ∷ token sym_open t ∷ y) s
more_invoke_join (then_ c l) = (_, one_suffix (dotted (invoke c)) l)

select_dead : {a : List Suffix} {n : List ℕ} {p q : ℕ} {y s : List Token} → IsNoOpen (next y) → IsSuffixes a (token sym_dot p ∷ token (k.Name n) q ∷ y) s → EndsSuffixed (next s) → (b : List Suffix) × IsSuffixes b y s
select_dead g no_suffix h = absurd h
select_dead g (one_suffix (dotted (select f)) l) h = (_, l)
select_dead g (one_suffix (dotted (invoke c)) l) h = absurd (g refl)

select_viable : {b : List Suffix} {y z w v r : List Token} (n : List ℕ) (p q : ℕ) → IsNoOpen (next y) → EndsSuffixed (next r) → Cut y z w v → IsSuffixes b w r → (a : List Suffix) × (x : List Token) × (u : List Token) × Cut (token sym_dot p ∷ token (k.Name n) q ∷ y) z x u × IsSuffixes a x r
select_viable {r = r} n p q g h here l = (_, token sym_dot p ∷ token (k.Name n) q ∷ r, r, there (there here), one_suffix (dotted (select (no_open (next r) (suffixed_dotted (next r) h)))) no_suffix)
select_viable n p q g h (there {t = t} {y = w} {v = v} c) l = (_, token sym_dot p ∷ token (k.Name n) q ∷ t ∷ w, v, there (there (there c)), one_suffix (dotted (select g)) l)

select_fails : {n : List ℕ} {p q : ℕ} {y z : List Token} → IsNoOpen (next y) → Fails IsSuffixes EndsSuffixed y z → Fails IsSuffixes EndsSuffixed (token sym_dot p ∷ token (k.Name n) q ∷ y) z
select_fails {n = n} {p = p} {q = q} g f = record {
  dead = λ v e.
      let d = f.dead v e in (
        token sym_dot p ∷ token (k.Name n) q ∷ d.0,
        there (there d.1),
        λ a s l h. let w = select_dead (subst IsNoOpen (sym (same_front d.1 e)) g) l h in d.2 w.0 s w.1 h,
      );
  viable = λ r h. let w = f.viable r h in select_viable n p q g h w.3 w.4;
}

pub one_suffix_at_2 : {f : Suffix} {x y z : List Token} → IsSuffix f x y → Fails IsSuffixes EndsSuffixed y z → Fails IsSuffixes EndsSuffixed x z
one_suffix_at_2 (apply c) f = opened (λ p a y s l h. more_apply_split l h) (λ p b y s m. more_apply_join p m) the_word (second good_call (anything some_suffixes) c tt f)
one_suffix_at_2 (dotted (select g)) f = select_fails g f
one_suffix_at_2 (dotted {n = n} {p = p} {q = q} (invoke {q = t} c)) f = after (token sym_dot p ∷ token (k.Name n) q ∷ token sym_open t ∷ []) (λ a y s e l h. (tt, s, more_invoke_split l h, h)) (λ r h. (r, h, λ b y m. more_invoke_join m)) (second good_call (anything some_suffixes) c tt f)
one_suffix_at_2 (index c) f = opened (λ p a y s l h. more_index_split l h) (λ p b y s m. more_index_join p m) the_word (second good_expr close_suffixes_behind c tt (second good_word (anything some_suffixes) the_word tt f))

pub one_suffix_step : {ss : List Suffix} {f : Suffix} {w x y : List Token} → Leads IsSuffixes EndsSuffixed ss w x → IsSuffix f x y → Leads IsSuffixes EndsSuffixed (ss ++ f ∷ []) w y
one_suffix_step {f = f} l p = step f l (λ bs r m. one_suffix p m) (λ w g. one_suffix_at_2 p g)

-- a chain
chain_split : {h : Expr} {ss : List Suffix} {y s : List Token} → IsSuffixed h ss y s → (b : Unit {0}) × (Then IsPrim IsSuffixes) b y s
chain_split (chain p l) = (_, then_ p l)

chain_join : {b : Unit {0}} {y s : List Token} → (Then IsPrim IsSuffixes) b y s → (a : Expr × List Suffix) × IsChain a y s
chain_join (then_ {a = h} {b = ss} p l) = ((h, ss), chain p l)

chain_fails : {x z : List Token} → Fails (Then IsPrim IsSuffixes) EndsSuffixed x z → Fails IsChain EndsSuffixed x z
chain_fails = production Anything (λ a y s n l h. chain_split l) (λ b y s m. chain_join m) tt

pub chain_at_1 : {x z : List Token} → Fails IsPrim Anything x z → Fails IsChain EndsSuffixed x z
chain_at_1 f = chain_fails (first (anything some_suffixes) f)

pub chain_at_2 : {h : Expr} {x x1 z : List Token} → IsPrim h x x1 → Fails IsSuffixes EndsSuffixed x1 z → Fails IsChain EndsSuffixed x z
chain_at_2 p1 f = chain_fails (second good_prim (anything some_suffixes) p1 tt f)
