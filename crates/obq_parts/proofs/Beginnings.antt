-- What begins no expression.
use Rattle.std.proofs.Common.{◌≡◌, ℕ, ℤ, List, [], ◌∷◌, refl, sym, subst, ap, ◌∙◌}
use Rattle.obq_base.specs.declared.tokens.TokenKind.{TokenKind}
use Rattle.obq_base.specs.declared.tokens.TokenKind.TheVariants as k
use Rattle.obq_base.specs.declared.tokens.Token.{Token}
use Rattle.obq_base.specs.declared.trees.Expr.{Expr}
use Rattle.obq_model.specs.Nodes.{next, token}
use Rattle.obq_model.specs.Grammar.{IsPrim}
use Rattle.obq_model.specs.Words.{kw_clone, kw_exit, kw_false, kw_for, kw_foreach, kw_if, kw_loop, kw_ok, kw_proc, kw_raise, kw_redirect, kw_true, kw_try, kw_watch, sym_open, sym_open_bracket, sym_open_brace}
use Rattle.obq_grammar.specs.Follow.{among, BeginsExpr, No, Yes}
use Rattle.obq_grammar.proofs.Sets.{among_each}
use Rattle.obq_parts.specs.Openings.{openings, literals}

no_word : (kind : TokenKind) → Yes (among (kw_true ∷ kw_false ∷ kw_ok ∷ kw_proc ∷ sym_open ∷ sym_open_bracket ∷ sym_open_brace ∷ kw_if ∷ kw_loop ∷ kw_exit ∷ kw_for ∷ kw_foreach ∷ kw_try ∷ kw_raise ∷ kw_watch ∷ kw_redirect ∷ kw_clone ∷ []) kind) → No (among openings kind) → No (among literals kind) → ⊥
no_word kind y = among_each (λ k. No (among openings k) → No (among literals k) → ⊥) (kw_true ∷ kw_false ∷ kw_ok ∷ kw_proc ∷ sym_open ∷ sym_open_bracket ∷ sym_open_brace ∷ kw_if ∷ kw_loop ∷ kw_exit ∷ kw_for ∷ kw_foreach ∷ kw_try ∷ kw_raise ∷ kw_watch ∷ kw_redirect ∷ kw_clone ∷ []) kind (λ a b. b, (λ a b. b, (λ a b. b, (λ a b. a, (λ a b. a, (λ a b. a, (λ a b. a, (λ a b. a, (λ a b. a, (λ a b. b, (λ a b. a, (λ a b. a, (λ a b. a, (λ a b. a, (λ a b. a, (λ a b. a, (λ a b. a, tt))))))))))))))))) y

pub no_prim : (kind : TokenKind) → ((v : ℤ) → kind ≡ k.Int v → ⊥) → ((t : List ℕ) → kind ≡ k.Text t → ⊥) → ((n : List ℕ) → kind ≡ k.Name n → ⊥) → ((row : ℕ) → kind ≡ k.Keyword row → No (among literals kind)) → No (among openings kind) → BeginsExpr kind → ⊥
no_prim (k.Int v) i t n l a y = i v refl
no_prim (k.Text v) i t n l a y = t v refl
no_prim (k.Name v) i t n l a y = n v refl
no_prim (k.Keyword row) i t n l a y = no_word (k.Keyword row) y a (l row refl)
no_prim (k.Symbol row) i t n l a y = no_word (k.Symbol row) y a tt
no_prim k.EndOfSource i t n l a y = y

pub nothing : (x : List Token) → x ≡ [] → BeginsExpr (next x) → ⊥
nothing x e y = subst (λ (l : List Token). BeginsExpr (next l)) e y

-- the kind of the first token by another name
pub alike : {a b : TokenKind} {p : ℕ} {x r : List Token} → x ≡ token a p ∷ r → a ≡ b → x ≡ token b p ∷ r
alike {p = p} {r = r} e q = e ∙ ap (λ (k : TokenKind). token k p ∷ r) q

pub no_keyword : (x : List Token) {kind : TokenKind} {row p : ℕ} {r : List Token} → x ≡ token kind p ∷ r → kind ≡ k.Keyword row → No (among literals (k.Keyword row)) → No (among openings (next x)) → BeginsExpr (next x) → ⊥
no_keyword x {row = row} e q n o y =
    let s = ap next e ∙ q in
    no_word (k.Keyword row) (subst BeginsExpr s y) (subst (λ (w : TokenKind). No (among openings w)) s o) n

pub no_symbol : (x : List Token) {kind : TokenKind} {p : ℕ} {r : List Token} → x ≡ token kind p ∷ r → ((v : ℤ) → kind ≡ k.Int v → ⊥) → ((t : List ℕ) → kind ≡ k.Text t → ⊥) → ((n : List ℕ) → kind ≡ k.Name n → ⊥) → ((row : ℕ) → kind ≡ k.Keyword row → ⊥) → No (among openings (next x)) → BeginsExpr (next x) → ⊥
no_symbol x {kind = kind} e i t n l o y =
    let s = ap next e in
    no_prim kind i t n (λ row q. absurd (l row q)) (subst (λ (w : TokenKind). No (among openings w)) s o) (subst BeginsExpr s y)

-- a row that is a known one
pub literal_at : {row n p : ℕ} {v : Expr} → row ≡ n → ((r : List Token) → IsPrim v (token (k.Keyword n) p ∷ r) r) → (r : List Token) → IsPrim v (token (k.Keyword row) p ∷ r) r
literal_at {p = p} {v = v} e f r = subst (λ (i : ℕ). IsPrim v (token (k.Keyword i) p ∷ r) r) (sym e) (f r)
