-- What the tests of the next token say, and answers that are handed on.
use Rattle.std.proofs.Common.{◌≡◌, ◌↔◌, ℕ, ◌-◌, zero, suc, Bool, true, false, IsTrue, ◌||◌, List, [], ◌∷◌, Option, Result, Ok, Err, refl, sym, subst, ap, ◌∙◌, arith}
use Rattle.std.specs.Borrow.{Bor}
use Rattle.obq_base.specs.declared.tokens.TokenKind.TheVariants as k
use Rattle.obq_base.specs.declared.tokens.Token.{Token}
use Rattle.obq_base.specs.declared.trees.Arm.{Arm}
use Rattle.obq_base.specs.declared.trees.Block.{Block}
use Rattle.obq_base.specs.declared.trees.Expr.{Expr}
use Rattle.obq_base.specs.declared.trees.Expr.TheVariants as e
use Rattle.obq_base.specs.declared.trees.Field.{Field}
use Rattle.obq_base.specs.declared.trees.Flags.{Flags}
use Rattle.obq_base.specs.declared.trees.Suffix.{Suffix}
use Rattle.obq_model.specs.Nodes.{next, token}
use Rattle.obq_model.specs.Words.{kw_else, kw_elsif, kw_end, kw_except, kw_finally, kw_proc, kw_try, sym_close, sym_dot, sym_open, sym_open_bracket}
use Rattle.obq_model.specs.Grammar.{IsBlock, IsDotted, IsNoOpen, IsObject, IsPrim, IsProc, IsSuffix, IsTry}
use Rattle.obq_grammar.specs.Fails.{Fails}
use Rattle.obq_grammar.specs.Follow.{among, is_word, Anything, EndsBlock, EndsElsifs, EndsGuards, EndsSuffixed, No, Yes}
use Rattle.obq_grammar.proofs.Sets.{no_both, no_open}
use Rattle.obq_grammar.proofs.failing.Primaries.{paren_at_2, paren_at_3, paren_of}
use Rattle.obq_grammar.proofs.failing.Lets.{try_at_3, try_of}
use Rattle.obq_grammar.proofs.failing.Stops.{headed, proc_of_at_1}
use Rattle.obq_grammar.proofs.failing.Suffixes.{dotted_at_3, dotted_of}
use Rattle.obq_parts.specs.declared.openings.Opening.{Opening}
use Rattle.obq_parts.specs.declared.steps.Refused.{Refused}
use Rattle.obq_parts.specs.Closed.{ReadsUntil}
use Rattle.obq_parts.specs.Openings.{opening_kind}
use Rattle.obq_parts.specs.Reads.{Reads}
use Rattle.obq_parts.proofs.Pass.{close_cases, pass}

pub begun : {b c : Bool} → b ≡ true → (IsTrue b ↔ IsTrue c) → No c → ⊥
begun e w n = subst No (w.0 e) n

pub not_begun : {b c : Bool} → b ≡ false → (IsTrue b ↔ IsTrue c) → No c
not_begun {c = true} e w = let t : IsTrue _ = w.1 refl in cc (e, t)
not_begun {c = false} e w = tt

pub up : {l : ℕ} → (l ≡ 0 → ⊥) → l ≡ suc (l - 1)
up {l = zero} n = absurd (n refl)
up {l = suc m} n = omega arith

pub no_suffix_word : (x : List Token) → No (is_word sym_open (next x)) → No (is_word sym_dot (next x)) → No (is_word sym_open_bracket (next x)) → EndsSuffixed (next x)
no_suffix_word x o d b =
    let i = is_word sym_open (next x) in
    let j = is_word sym_open_bracket (next x) in
    no_both (is_word sym_dot (next x)) (j || (i || false)) d (no_both j (i || false) b (no_both i false o tt))

pub no_paren : (x : List Token) → No (is_word sym_open (next x)) → IsNoOpen (next x)
no_paren x n = no_open (next x) n

yes_after : (a b : Bool) → Yes (a || b) → No a → Yes b
yes_after true b y n = absurd n
yes_after false b y n = y

yes_fifth : (a b c d f : Bool) → Yes (a || (b || (c || (d || f)))) → No d → Yes (a || (b || (c || f)))
yes_fifth true b c d f y n = tt
yes_fifth false true c d f y n = tt
yes_fifth false false true d f y n = tt
yes_fifth false false false true f y n = absurd n
yes_fifth false false false false f y n = y

pub block_elsifs : (x : List Token) → EndsBlock (next x) → No (is_word kw_elsif (next x)) → EndsElsifs (next x)
block_elsifs x y n = yes_after (is_word kw_elsif (next x)) (among (kw_else ∷ kw_end ∷ kw_except ∷ kw_finally ∷ k.EndOfSource ∷ []) (next x)) y n

pub block_guards : (x : List Token) → EndsBlock (next x) → No (is_word kw_except (next x)) → EndsGuards (next x)
block_guards x y n = yes_fifth (is_word kw_elsif (next x)) (is_word kw_else (next x)) (is_word kw_end (next x)) (is_word kw_except (next x)) (among (kw_finally ∷ k.EndOfSource ∷ []) (next x)) y n

pub opened_by : {o u : Opening} {p : ℕ} {x r : List Token} → x ≡ token (opening_kind o) p ∷ r → o ≡ u → x ≡ token (opening_kind u) p ∷ r
opened_by {p = p} {r = r} e q = e ∙ ap (λ (w : Opening). token (opening_kind w) p ∷ r) q

pub prim_proc : (x : List Token) {z : List Token} → next x ≡ kw_proc → Fails IsProc Anything x z → Fails IsPrim Anything x z
prim_proc x q f = let h = headed kw_proc x (λ n. cc) q in proc_of_at_1 h.2 f

pub paren_reads : (p : ℕ) (y : List Token) (read : Result (Expr × Bor (List Token)) Refused) → ReadsUntil sym_close y read → Reads IsPrim Anything (token sym_open p ∷ y) read
paren_reads p y (Ok q) d = (paren_of refl d.1 refl, tt)
paren_reads p y (Err g) d = pass g (λ z f. close_cases (λ i. paren_at_2 refl i) (λ a d u n. paren_at_3 refl d u n) f) d

pub empty_object : {f : Flags} {fs : List Field} {x r : List Token} → fs ≡ [] → IsObject f [] x r → IsObject f fs x r
empty_object {f = f} {x = x} {r = r} q d = subst (λ (l : List Field). IsObject f l x r) (sym q) d

pub if_arms : (l : Option Block) {all arms : List Arm} {p : ℕ} {x r : List Token} → all ≡ arms → IsPrim (e.If arms l p) x r → IsPrim (e.If all l p) x r
if_arms l {p = p} {x = x} {r = r} q d = subst (λ (m : List Arm). IsPrim (e.If m l p) x r) (sym q) d

pub try_arms : (l : Option Block) {all arms : List Arm} {b : Block} {p : ℕ} {x r : List Token} → all ≡ arms → IsTry p b (e.Try b arms l p) x r → IsTry p b (e.Try b all l p) x r
try_arms l {b = b} {p = p} {x = x} {r = r} q d = subst (λ (m : List Arm). IsTry p b (e.Try b m l p) x r) (sym q) d

pub try_reads : (p : ℕ) (b : Block) (x : List Token) {y : List Token} (read : Result (Expr × Bor (List Token)) Refused) → IsBlock b x y → EndsBlock (next y) → Reads (IsTry p b) Anything y read → Reads IsPrim Anything (token kw_try p ∷ x) read
try_reads p b x (Ok q) d u r = (try_of refl d r.0, tt)
try_reads p b x (Err g) d u r = pass g (λ z f. try_at_3 refl d u f) r

pub dotted_reads : (x : List Token) {n : List ℕ} {p q : ℕ} {y w : List Token} (read : Result (Suffix × Bor (List Token)) Refused) → x ≡ token sym_dot p ∷ y → y ≡ token (k.Name n) q ∷ w → Reads (IsDotted n p) Anything w read → Reads IsSuffix Anything x read
dotted_reads x (Ok s) a b r = (dotted_of a b r.0, tt)
dotted_reads x (Err g) a b r = pass g (λ z f. dotted_at_3 a b f) r
