-- What the parser's functions hand on, over plain lists of tokens.
use Rattle.std.proofs.Common.{◌≡◌, ◌<◌, ℕ, ◌+◌, suc, List, ◌∷◌, Result, Ok, Err, sym, subst, ap, ◌∙◌, arith}
use Rattle.std.specs.Borrow.{Bor}
use Rattle.obq_base.specs.declared.tokens.TokenKind.{TokenKind}
use Rattle.obq_base.specs.declared.tokens.Token.{Token}
use Rattle.obq_base.specs.declared.trees.Expr.{Expr}
use Rattle.obq_base.specs.declared.trees.FieldExpr.{FieldExpr}
use Rattle.obq_base.specs.declared.trees.Item.{Item}
use Rattle.obq_base.specs.declared.trees.Item.TheVariants as i
use Rattle.obq_base.specs.declared.trees.Link.{Link}
use Rattle.obq_base.specs.declared.trees.Suffix.{Suffix}
use Rattle.obq_model.specs.Nodes.{block, chained, next, place, suffixed, token}
use Rattle.obq_model.specs.Words.{sym_assign}
use Rattle.obq_model.specs.Grammar.{IsBlock, IsExpr, IsFieldBody, IsItem, IsLevel, IsLinks, IsSuffixed, expr, level, operand}
use Rattle.obq_grammar.specs.Fails.{Fails}
use Rattle.obq_grammar.specs.Follow.{among, continues, operators, EndsExpr, EndsItem, EndsLevel, No}
use Rattle.obq_grammar.proofs.Sets.{no_both}
use Rattle.obq_grammar.specs.Parts.{IsRest}
use Rattle.obq_grammar.proofs.failing.Levels.{expr_at_1, rest_at_2}
use Rattle.obq_grammar.proofs.failing.Items.{assign_at_3, assign_end, assign_of, name_target, set_field_at_3, set_field_end, set_field_of, set_item_at_3, set_item_end, set_item_of}
use Rattle.obq_parts.specs.declared.steps.Refused.{Refused}
use Rattle.obq_parts.specs.declared.steps.Refused.TheVariants.{Syntax, NoMemory}
use Rattle.obq_parts.specs.declared.targets.Chain.{Chain}
use Rattle.obq_parts.specs.declared.targets.FieldTarget.{FieldTarget}
use Rattle.obq_parts.specs.declared.targets.ValueTarget.{ValueTarget}
use Rattle.obq_parts.specs.declared.targets.ValueTarget.TheVariants.{Named, Indexed}
use Rattle.obq_parts.specs.declared.targets.Target.{Target}
use Rattle.obq_parts.specs.declared.targets.Target.TheVariants as t
use Rattle.obq_parts.specs.Reads.{Ended, Faulty, Reads}
use Rattle.obq_parts.specs.Targets.{Targets, assignment_of}
use Rattle.obq_parts.specs.Targets as spec
use Rattle.obq_parts.proofs.Pass.{pass}
use Rattle.obq_parse.specs.Reading.{ReadsRest}

-- blocks

pub as_block : {is js : List Item} {p q : ℕ} {x r : List Token} → is ≡ js → p ≡ q → IsBlock (block js q) x r → IsBlock (block is p) x r
as_block {is = is} {q = q} {x = x} {r = r} e o d = subst (λ (n : ℕ). IsBlock (block is n) x r) (sym o) (subst (λ (l : List Item). IsBlock (block l q) x r) (sym e) d)

-- what ends its item

pub ended_fault : {A : Type 0} {L : A → List Token → List Token → Type 0} {S : TokenKind → Type 0} {x : List Token} {Q : List Token → Type 0} (read : Result (A × Bor (List Token)) Refused) (e : Refused) → Ended read (Err e) → Reads L S x read →
    ((z : List Token) → Fails L S x z → Q z) → ((a : A) (z : List Token) → L a x z → S (next z) → (EndsItem (next z) → ⊥) → Q z) → Faulty Q e
ended_fault {L = L} {S = S} {x = x} (Ok p) (Syntax z) d r f s =
    s p.0 z.now (subst (λ (l : List Token). L p.0 x l) d.0 r.0) (subst (λ (l : List Token). S (next l)) d.0 r.1) d.1
ended_fault (Ok p) NoMemory d r f s = tt
ended_fault {L = L} {S = S} {x = x} {Q = Q} (Err g) e d r f s = subst (λ (h : Refused). Faulty Q h) d (pass g f r)

pub ended_ok : {A : Type 0} (L : A → List Token → List Token → Type 0) (S : TokenKind → Type 0) (x : List Token) (read : Result (A × Bor (List Token)) Refused) (q : A × Bor (List Token)) → Ended read (Ok q) → Reads L S x read → L q.0 x q.1.now × EndsItem (next q.1.now)
ended_ok {A = A} L S x (Ok p) q d r = (subst (λ (a : A). L a x q.1.now) d.0 (subst (λ (l : List Token). L p.0 x l) d.1 r.0), d.2)
ended_ok L S x (Err g) q d r = absurd d

pub rest_fault : {l : ℕ} {first : Expr} {x : List Token} {Q : List Token → Type 0} (read : Result (Expr × Bor (List Token)) Refused) (e : Refused) → Ended read (Err e) → ReadsRest l first x read →
    ((z : List Token) → Fails (IsRest l) EndsExpr x z → Q z) → ((v : Expr) (z : List Token) → ((w : List Token) → IsLevel l first w x → IsExpr v w z) → EndsExpr (next z) → (EndsItem (next z) → ⊥) → Q z) → Faulty Q e
rest_fault {l = l} {first = first} {x = x} (Ok p) (Syntax z) d r f s =
    s p.0 z.now (λ w a. subst (λ (l : List Token). IsExpr p.0 w l) d.0 (r.0 w a)) (subst (λ (l : List Token). EndsExpr (next l)) d.0 r.1) d.1
rest_fault (Ok p) NoMemory d r f s = tt
rest_fault {Q = Q} (Err g) e d r f s = subst (λ (h : Refused). Faulty Q h) d (pass g f r)

pub rest_ok : {l : ℕ} {first : Expr} {w x : List Token} (read : Result (Expr × Bor (List Token)) Refused) (q : Expr × Bor (List Token)) → Ended read (Ok q) → ReadsRest l first x read → IsLevel l first w x → IsExpr q.0 w q.1.now × EndsItem (next q.1.now)
rest_ok {w = w} (Ok p) q d r a = (subst (λ (v : Expr). IsExpr v w q.1.now) d.0 (subst (λ (l : List Token). IsExpr p.0 w l) d.1 (r.0 w a)), d.2)
rest_ok (Err g) q d r a = absurd d

-- levels

pub top_level : (x : List Token) (read : Result (Expr × Bor (List Token)) Refused) → Reads (IsLevel 5) (EndsLevel 5) x read → Reads IsExpr EndsExpr x read
top_level x (Ok p) r = (expr r.0, r.1)
top_level x (Err e) r = pass e (λ z f. expr_at_1 f) r

pub level_fails : {l m : ℕ} {x z : List Token} → l ≡ m → Fails (IsLevel m) (EndsLevel m) x z → Fails (IsLevel l) (EndsLevel l) x z
level_fails {x = x} {z = z} e f = subst (λ (n : ℕ). Fails (IsLevel n) (EndsLevel n) x z) (sym e) f

pub level_by : {l m : ℕ} {v : Expr} {x r : List Token} → l ≡ m → IsLevel m v x r × EndsLevel m (next r) → IsLevel l v x r × EndsLevel l (next r)
level_by {v = v} {x = x} {r = r} e d = subst (λ (n : ℕ). IsLevel n v x r × EndsLevel n (next r)) (sym e) d

pub ends_links : (l : ℕ) (x : List Token) → EndsLevel l (next x) → No (among (operators l) (next x)) → EndsLevel (suc l) (next x)
ends_links l x e n = no_both (among (operators l) (next x)) (continues l (next x)) n e

pub ends_up : (l : ℕ) (x : List Token) → EndsLevel (suc l) (next x) → EndsLevel (l + 1) (next x)
ends_up l x e = let q : l + 1 ≡ suc l = omega arith in subst (λ (n : ℕ). EndsLevel n (next x)) (sym q) e

pub rest_top : (l : ℕ) (first : Expr) (x : List Token) → l ≡ 5 → EndsLevel l (next x) → ((w : List Token) → IsLevel l first w x → IsExpr first w x) × EndsExpr (next x)
rest_top l first x e h = (λ w d. expr (subst (λ (n : ℕ). IsLevel n first w x) e d), subst (λ (n : ℕ). EndsLevel n (next x)) e h)

pub rest_more : (l m : ℕ) (a b : Expr) (ls : List Link) (x y : List Token) (read : Result (Expr × Bor (List Token)) Refused) → l < 5 → m ≡ suc l → b ≡ chained a ls → IsLinks l ls x y → EndsLevel (suc l) (next y) → ReadsRest m b y read → ReadsRest l a x read
rest_more l m a b ls x y (Ok p) small e q d u r = (λ w c. r.0 w (subst (λ (n : ℕ). IsLevel n b w y) (sym e) (subst (λ (v : Expr). IsLevel (suc l) v w y) (sym q) (level c d))), r.1)
rest_more l m a b ls x y (Err g) small e q d u r = pass g (λ z f. rest_at_2 small d u (subst (λ (n : ℕ). Fails (IsRest n) EndsExpr y z) e f)) r

pub first_level : {v h : Expr} {ss : List Suffix} {x y : List Token} → v ≡ suffixed h ss → IsSuffixed h ss x y → IsLevel 0 v x y
first_level {x = x} {y = y} e d = subst (λ (n : Expr). IsLevel 0 n x y) (sym e) (operand d)

-- targets

pub targets_as : (x : List Token) (c : Chain) {t u : Target} → t ≡ u → Targets x c t → Targets x c u
targets_as x c e g = subst (λ (n : Target). Targets x c n) e g

pub field_fails : (x : List Token) (c : Chain) (f : FieldTarget) {q : ℕ} {y w z : List Token} → Targets x c (t.Field f) → IsSuffixed c.head c.suffixes x y → y ≡ token sym_assign q ∷ w → Fails IsFieldBody EndsExpr w z → Fails IsItem EndsItem x z
field_fails x c f g d e n = set_field_at_3 f.object.suffixes f.name g.0 d g.2 e n

pub field_end : (x : List Token) (c : Chain) (f : FieldTarget) {b : FieldExpr} {q : ℕ} {y w z : List Token} → Targets x c (t.Field f) → IsSuffixed c.head c.suffixes x y → y ≡ token sym_assign q ∷ w → IsFieldBody b w z → EndsExpr (next z) → (EndsItem (next z) → ⊥) → Fails IsItem EndsItem x z
field_end x c f g d e a u n = set_field_end f.object.suffixes f.name g.0 d g.2 e a u n

pub field_item : (x : List Token) (c : Chain) (f : FieldTarget) {b : FieldExpr} {p q : ℕ} {y w r : List Token} → Targets x c (t.Field f) → IsSuffixed c.head c.suffixes x y → y ≡ token sym_assign q ∷ w → p ≡ place x → IsFieldBody b w r → IsItem (spec.set_field_of f b p) x r
field_item x c f {b = b} {r = r} g d e o a =
    subst (λ (n : ℕ). IsItem (spec.set_field_of f b n) x r) (sym o) (subst (λ (h : Expr). IsItem (i.SetField (suffixed h f.object.suffixes) f.name b (place x)) x r) g.1 (set_field_of f.object.suffixes f.name g.0 d g.2 e a))

pub value_fails : (x : List Token) (c : Chain) (f : ValueTarget) {q : ℕ} {y w z : List Token} → Targets x c (t.Value f) → IsSuffixed c.head c.suffixes x y → y ≡ token sym_assign q ∷ w → Fails IsExpr EndsExpr w z → Fails IsItem EndsItem x z
value_fails x c (Named m) g d e n = assign_at_3 (name_target d g.3 g.2) e n
value_fails x c (Indexed a j) g d e n = set_item_at_3 a.suffixes j g.0 d g.2 e n

pub value_end : (x : List Token) (c : Chain) (f : ValueTarget) {v : Expr} {q : ℕ} {y w z : List Token} → Targets x c (t.Value f) → IsSuffixed c.head c.suffixes x y → y ≡ token sym_assign q ∷ w → IsExpr v w z → EndsExpr (next z) → (EndsItem (next z) → ⊥) → Fails IsItem EndsItem x z
value_end x c (Named m) g d e a u n = assign_end (name_target d g.3 g.2) e a u n
value_end x c (Indexed a j) g d e b u n = set_item_end a.suffixes j g.0 d g.2 e b u n

place_name : {x r : List Token} {kind : TokenKind} {p o : ℕ} → o ≡ place x → x ≡ token kind p ∷ r → o ≡ p
place_name e q = e ∙ ap place q

pub value_item : (x : List Token) (c : Chain) (f : ValueTarget) {v : Expr} {p q : ℕ} {y w r : List Token} → Targets x c (t.Value f) → IsSuffixed c.head c.suffixes x y → y ≡ token sym_assign q ∷ w → p ≡ place x → IsExpr v w r → IsItem (assignment_of f v p) x r
value_item x c (Named m) {v = v} {r = r} g d e o a =
    subst (λ (n : ℕ). IsItem (i.Assign m v n) x r) (sym (place_name o g.2)) (assign_of (name_target d g.3 g.2) e a)
value_item x c (Indexed b j) {v = v} {r = r} g d e o a =
    subst (λ (n : ℕ). IsItem (assignment_of (Indexed b j) v n) x r) (sym o) (subst (λ (h : Expr). IsItem (i.SetItem (suffixed h b.suffixes) j v (place x)) x r) g.1 (set_item_of b.suffixes j g.0 d g.2 e a))
