-- Of kinds of tokens: what stands behind one N may stand behind another.
use Rattle.std.proofs.Common.{◌≡◌, ℕ, zero, suc, Bool, true, false, ◌||◌, List, [], ◌∷◌, refl, subst, ap, inl, inr, ◌⊎◌, eqb-true, ◌==◌}
use Rattle.obq_base.specs.declared.tokens.TokenKind.{TokenKind}
use Rattle.obq_base.specs.declared.tokens.TokenKind.TheVariants as k
use Rattle.obq_base.specs.declared.trees.Operator.{Operator}
use Rattle.obq_model.specs.Words.{sym_open, sym_comma, sym_semicolon, sym_assign, sym_dot, sym_open_bracket, kw_elsif, kw_else, kw_end, kw_finally, kw_let, kw_var}
use Rattle.obq_model.specs.Grammar.{Operates, IsNoOpen, multiply, divide, remainder, add, subtract, join, is, isnot, less, less_equal, greater, greater_equal, andif, orif}
use Rattle.obq_grammar.specs.Follow.{Yes, No, is_word, among, operators, continues, closers, begins_expr, EndsDotted, EndsSuffixed, EndsLevel, EndsExpr, EndsNames, EndsArgs, EndsItem, EndsBlock, EndsElsifs, EndsGuards, EndsProgram, BeginsExpr, BeginsItem}

pub no_left : (a b : Bool) → No (a || b) → No a
no_left true b h = h
no_left false b h = tt

pub no_right : (a b : Bool) → No (a || b) → No b
no_right true b h = absurd h
no_right false b h = h

pub no_both : (a b : Bool) → No a → No b → No (a || b)
no_both true b h k = h
no_both false b h k = k

pub yes_right : (a b : Bool) → Yes b → Yes (a || b)
yes_right true b h = tt
yes_right false b h = h

pub not_yes : (a : Bool) → (Yes a → ⊥) → No a
not_yes true h = h tt
not_yes false h = tt

pub no_yes : (a : Bool) → No a → Yes a → ⊥
no_yes true h k = h
no_yes false h k = k

pub yes_true : (a : Bool) → Yes a → a ≡ true
yes_true true h = refl
yes_true false h = absurd h

-- a kind that is the word w
pub is_word_same : (w kind : TokenKind) → Yes (is_word w kind) → w ≡ kind
is_word_same (k.Keyword a) (k.Keyword b) h = ap (λ (n : ℕ). k.Keyword n) (eqb-true a b (yes_true (a == b) h))
is_word_same (k.Symbol a) (k.Symbol b) h = ap (λ (n : ℕ). k.Symbol n) (eqb-true a b (yes_true (a == b) h))
is_word_same k.EndOfSource k.EndOfSource h = refl
is_word_same _ _ h = absurd h

-- P of each word of a list
abbrev pub Each : (TokenKind → Type 0) → List TokenKind → Type 0
Each P [] = Unit {0}
Each P (w ∷ ws) = P w × Each P ws

one_of : (a b : Bool) → Yes (a || b) → Yes a ⊎ Yes b
one_of true b h = inl tt
one_of false b h = inr h

-- what holds of each word of a list holds of a kind that is among them
pub among_each : (P : TokenKind → Type 0) (ws : List TokenKind) (kind : TokenKind) → Each P ws → Yes (among ws kind) → P kind
among_each P [] kind e h = absurd h
among_each P (w ∷ ws) kind e h = elim (one_of (is_word w kind) (among ws kind) h) as (λ _. P kind) [ inl y ↦ subst P (is_word_same w kind y) e.0 | inr y ↦ among_each P ws kind e.1 y ]

pub no_open : (kind : TokenKind) → EndsDotted kind → IsNoOpen kind
no_open kind h e = subst EndsDotted e h

pub suffixed_dotted : (kind : TokenKind) → EndsSuffixed kind → EndsDotted kind
suffixed_dotted kind h = no_left (is_word sym_open kind) false (no_right (is_word sym_open_bracket kind) _ (no_right (is_word sym_dot kind) _ h))

pub level_below : (l : ℕ) (kind : TokenKind) → EndsLevel (suc l) kind → EndsLevel l kind
level_below l kind h = no_right (among (operators l) kind) (continues l kind) h

pub level_suffixed : (l : ℕ) (kind : TokenKind) → EndsLevel l kind → EndsSuffixed kind
level_suffixed zero kind h = h
level_suffixed (suc l) kind h = level_suffixed l kind (level_below l kind h)

pub expr_suffixed : (kind : TokenKind) → EndsExpr kind → EndsSuffixed kind
expr_suffixed kind h = level_suffixed 5 kind h

pub args_expr : (kind : TokenKind) → EndsArgs kind → EndsExpr kind
args_expr kind h = no_right (is_word sym_comma kind) (continues 5 kind) h

pub args_names : (kind : TokenKind) → EndsArgs kind → EndsNames kind
args_names kind h = no_left (is_word sym_comma kind) (continues 5 kind) h

pub item_args : (kind : TokenKind) → EndsItem kind → EndsArgs kind
item_args kind h = among_each EndsArgs (sym_semicolon ∷ closers) kind (tt, (tt, (tt, (tt, (tt, (tt, (tt, tt))))))) h

pub item_expr : (kind : TokenKind) → EndsItem kind → EndsExpr kind
item_expr kind h = args_expr kind (item_args kind h)

pub item_not_assign : (kind : TokenKind) → EndsItem kind → kind ≡ sym_assign → ⊥
item_not_assign kind h e = subst EndsItem e h

pub item_names : (kind : TokenKind) → EndsItem kind → EndsNames kind
item_names kind h = args_names kind (item_args kind h)

pub block_item : (kind : TokenKind) → EndsBlock kind → EndsItem kind
block_item kind h = yes_right (is_word sym_semicolon kind) (among closers kind) h

pub elsifs_block : (kind : TokenKind) → EndsElsifs kind → EndsBlock kind
elsifs_block kind h = yes_right (is_word kw_elsif kind) _ h

pub guards_block : (kind : TokenKind) → EndsGuards kind → EndsBlock kind
guards_block kind h = among_each EndsBlock (kw_elsif ∷ kw_else ∷ kw_end ∷ kw_finally ∷ k.EndOfSource ∷ []) kind (tt, (tt, (tt, (tt, (tt, tt))))) h

pub program_block : (kind : TokenKind) → EndsProgram kind → EndsBlock kind
program_block kind h = subst EndsBlock (is_word_same k.EndOfSource kind h) tt

pub begins_item : (kind : TokenKind) → BeginsExpr kind → BeginsItem kind
begins_item kind h = yes_right (among (kw_let ∷ kw_var ∷ []) kind) (begins_expr kind) h

pub item_not_block : (kind : TokenKind) → BeginsItem kind → EndsBlock kind → ⊥
item_not_block kind h e = among_each (λ w. BeginsItem w → ⊥) closers kind (λ n. n, (λ n. n, (λ n. n, (λ n. n, (λ n. n, (λ n. n, tt)))))) e h

-- operators
pub continues_on : {l : ℕ} {kind : TokenKind} {f : Operator} → Operates l kind f → EndsLevel (suc l) kind → ⊥
continues_on multiply h = h
continues_on divide h = h
continues_on remainder h = h
continues_on add h = h
continues_on subtract h = h
continues_on join h = h
continues_on is h = h
continues_on isnot h = h
continues_on less h = h
continues_on less_equal h = h
continues_on greater h = h
continues_on greater_equal h = h
continues_on andif h = h
continues_on orif h = h

-- an operator of a level isn't one of a level below
pub operator_ends : {l : ℕ} {kind : TokenKind} {f : Operator} → Operates l kind f → EndsLevel l kind
operator_ends multiply = tt
operator_ends divide = tt
operator_ends remainder = tt
operator_ends add = tt
operator_ends subtract = tt
operator_ends join = tt
operator_ends is = tt
operator_ends isnot = tt
operator_ends less = tt
operator_ends less_equal = tt
operator_ends greater = tt
operator_ends greater_equal = tt
operator_ends andif = tt
operator_ends orif = tt

pub one_operator : {l : ℕ} {kind : TokenKind} {f g : Operator} → Operates l kind f → Operates l kind g → f ≡ g
one_operator multiply multiply = refl
one_operator divide divide = refl
one_operator remainder remainder = refl
one_operator add add = refl
one_operator subtract subtract = refl
one_operator join join = refl
one_operator is is = refl
one_operator isnot isnot = refl
one_operator less less = refl
one_operator less_equal less_equal = refl
one_operator greater greater = refl
one_operator greater_equal greater_equal = refl
one_operator andif andif = refl
one_operator orif orif = refl
