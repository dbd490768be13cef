-- Objects. `C_at_i`: where the part i of the production C fails, what the production derives fails; the arguments are the parts before it
-- (a word or a name by the tokens that begin with it, another part by its derivation and by the token behind it), and then how part i fails.
-- `C_end`: behind the last part stands what may not stand behind the production. `C_of`: the production from its parts. `C_step`: one more of a list so far.
use Rattle.std.proofs.Common.{◌≡◌, ℕ, Bool, true, false, List, [], ◌∷◌, refl, subst, ap, eq-eqb, ◌==◌}
use Rattle.obq_base.specs.declared.tokens.Token.{Token}
use Rattle.obq_base.specs.declared.tokens.TokenKind.{TokenKind}
use Rattle.obq_base.specs.declared.tokens.TokenKind.TheVariants as k
use Rattle.obq_base.specs.declared.trees.Flags.{Flags}
use Rattle.obq_base.specs.declared.trees.Expr.{Expr}
use Rattle.obq_base.specs.declared.trees.Field.{Field}
use Rattle.obq_model.specs.Words.{row_protected, kw_protected, row_serialized, kw_serialized, sym_comma, sym_open_brace, sym_close_brace}
use Rattle.obq_model.specs.Nodes.{token, next}
use Rattle.obq_model.specs.Grammar.{flags, IsPrim, IsObject, IsFlagged, IsBothFlags, IsFields, proc_of, object, no_field, unflagged, protected, serialized, flag_alone, flag_fields, other_flag, flags_alone, flags_fields}
use Rattle.obq_grammar.specs.Fails.{Fails}
use Rattle.obq_grammar.specs.Follow.{No, is_word, Anything, EndsArgs, BeginsName}
use Rattle.obq_grammar.proofs.Theory.{move, upto}
use Rattle.obq_grammar.proofs.Firsts.{first_fields}
use Rattle.obq_grammar.proofs.Goods.{good_fields}
use Rattle.obq_grammar.specs.Parts.{IsWord, the_word, Then, then_, IsFlagsAndFields, IsFlagAndFields}
use Rattle.obq_grammar.proofs.failing.Sequences.{anything, word_behind, first, second, production, opened, opened_by, nothing, good_word, word, also, other_word}
use Rattle.obq_grammar.proofs.failing.Beginnings.{some_both_flags, begins_no}
use Rattle.obq_base.specs.declared.trees.Expr.TheVariants as e

-- the productions

object_split : {a : Expr} {p : ℕ} {y s : List Token} → IsPrim a (token sym_open_brace p ∷ y) s → Anything (next s) → (b : Flags × List Field) × IsFlagsAndFields b y s
object_split (proc_of p) h = elim p [ ]
object_split (object p2) h = (_, p2)

object_join : {b : Flags × List Field} {y s : List Token} (p : ℕ) → IsFlagsAndFields b y s → (a : Expr) × IsPrim a (token sym_open_brace p ∷ y) s
object_join p p2 = (_, object p2)

object_fails : {p : ℕ} {x y z : List Token} → x ≡ token sym_open_brace p ∷ y → Fails IsFlagsAndFields Anything y z → Fails IsPrim Anything x z
object_fails e = opened (λ p a y s l h. object_split l h) (λ p b y s m. object_join p m) (word e)

pub object_at_2 : {p : ℕ} {x x1 z : List Token} → x ≡ token sym_open_brace p ∷ x1 → Fails IsFlagsAndFields Anything x1 z → Fails IsPrim Anything x z
object_at_2 e1 f = object_fails e1 f

pub object_of : {f : Flags} {fs : List Field} {p : ℕ} {x x1 r : List Token} → x ≡ token sym_open_brace p ∷ x1 → IsObject f fs x1 r → IsPrim (e.Object f fs p) x r
object_of e1 p2 = move IsPrim _ _ _ _ e1 (object p2)

unflagged_split : {f : Flags} {fs : List Field} {y s : List Token} → No (is_word sym_close_brace (next y)) × No (is_word kw_protected (next y)) × No (is_word kw_serialized (next y)) → IsObject f fs y s → (b : Unit {0}) × (Then IsFields (IsWord sym_close_brace)) b y s
unflagged_split n no_field = absurd n.0
unflagged_split n (unflagged p) = (_, then_ p the_word)
unflagged_split n (protected p) = absurd n.1
unflagged_split n (serialized p) = absurd n.2

unflagged_join : {b : Unit {0}} {y s : List Token} → (Then IsFields (IsWord sym_close_brace)) b y s → (a : Flags × List Field) × IsFlagsAndFields a y s
unflagged_join (then_ {a = fs} p the_word) = ((flags false false, fs), unflagged p)

unflagged_fails : {x z : List Token} → No (is_word sym_close_brace (next x)) × No (is_word kw_protected (next x)) × No (is_word kw_serialized (next x)) → Fails (Then IsFields (IsWord sym_close_brace)) Anything x z → Fails IsFlagsAndFields Anything x z
unflagged_fails c = production (λ kind. No (is_word sym_close_brace kind) × No (is_word kw_protected kind) × No (is_word kw_serialized kind)) (λ a y s n l h. unflagged_split n l) (λ b y s m. unflagged_join m) c

pub unflagged_at_1 : {x z : List Token} → No (is_word sym_close_brace (next x)) → No (is_word kw_protected (next x)) → No (is_word kw_serialized (next x)) → Fails IsFields EndsArgs x z → Fails IsFlagsAndFields Anything x z
unflagged_at_1 c p s f = unflagged_fails (c, p, s) (first (word_behind tt) f)

no_field_word : (w kind : TokenKind) → BeginsName kind → (BeginsName w → ⊥) → No (is_word w kind)
no_field_word w kind = begins_no BeginsName w kind

pub unflagged_at_2 : {fs : List Field} {x x1 : List Token} → IsFields fs x x1 → EndsArgs (next x1) → No (is_word sym_close_brace (next x1)) → Fails IsFlagsAndFields Anything x x1
unflagged_at_2 {x = x} p1 h1 f =
    let b = first_fields p1 in
    unflagged_fails (no_field_word sym_close_brace (next x) b (λ n. n), no_field_word kw_protected (next x) b (λ n. n), no_field_word kw_serialized (next x) b (λ n. n)) (second good_fields (word_behind tt) p1 h1 (other_word tt f))

pub unflagged_of : {fs : List Field} {p : ℕ} {x x1 r : List Token} → IsFields fs x x1 → x1 ≡ token sym_close_brace p ∷ r → IsObject (flags false false) fs x r
unflagged_of p1 e = unflagged (upto IsFields e p1)

protected_split : {f : Flags} {fs : List Field} {p : ℕ} {y s : List Token} → IsObject f fs (token kw_protected p ∷ y) s → (b : Bool × List Field) × IsFlagAndFields row_serialized b y s
protected_split (unflagged p) = absurd (first_fields p)
protected_split (protected {other = o} {fs = fs} p) = ((o, fs), p)

pub protected_at_2 : {p : ℕ} {x x1 z : List Token} → x ≡ token kw_protected p ∷ x1 → Fails (IsFlagAndFields row_serialized) Anything x1 z → Fails IsFlagsAndFields Anything x z
protected_at_2 e = opened (λ p a y s l h. protected_split l) (λ p b y s m. ((flags true b.0, b.1), protected m)) (word e)

pub protected_of : {other : Bool} {fs : List Field} {p : ℕ} {x x1 r : List Token} → x ≡ token kw_protected p ∷ x1 → IsFlagged row_serialized other fs x1 r → IsObject (flags true other) fs x r
protected_of {other = o} e p2 = move (IsObject (flags true o)) _ _ _ _ e (protected p2)

serialized_split : {f : Flags} {fs : List Field} {p : ℕ} {y s : List Token} → IsObject f fs (token kw_serialized p ∷ y) s → (b : Bool × List Field) × IsFlagAndFields row_protected b y s
serialized_split (unflagged p) = absurd (first_fields p)
serialized_split (serialized {other = o} {fs = fs} p) = ((o, fs), p)

pub serialized_at_2 : {p : ℕ} {x x1 z : List Token} → x ≡ token kw_serialized p ∷ x1 → Fails (IsFlagAndFields row_protected) Anything x1 z → Fails IsFlagsAndFields Anything x z
serialized_at_2 e = opened (λ p a y s l h. serialized_split l) (λ p b y s m. ((flags b.0 true, b.1), serialized m)) (word e)

pub serialized_of : {other : Bool} {fs : List Field} {p : ℕ} {x x1 r : List Token} → x ≡ token kw_serialized p ∷ x1 → IsFlagged row_protected other fs x1 r → IsObject (flags other true) fs x r
serialized_of {other = o} e p2 = move (IsObject (flags o true)) _ _ _ _ e (serialized p2)

-- behind one flag

flagged_none : {row : ℕ} {a : Bool} {c : List Field} {y s : List Token} → No (is_word sym_close_brace (next y)) × No (is_word sym_comma (next y)) → IsFlagged row a c y s → ⊥
flagged_none n flag_alone = n.0
flagged_none n (flag_fields p) = n.1
flagged_none n (other_flag p) = n.1

pub flagged_stop : {row : ℕ} {x : List Token} → No (is_word sym_close_brace (next x)) → No (is_word sym_comma (next x)) → Fails (IsFlagAndFields row) Anything x x
flagged_stop c d = nothing (λ kind. No (is_word sym_close_brace kind) × No (is_word sym_comma kind)) (λ a y s n l h. flagged_none n l) (λ r. ((false, []), token sym_close_brace 0 ∷ r, flag_alone)) (c, d)

same_row : (row : ℕ) → No (row == row) → ⊥
same_row row n = subst No (eq-eqb row row refl) n

flag_fields_split : {row : ℕ} {a : Bool} {c : List Field} {p : ℕ} {y s : List Token} → No (is_word (k.Keyword row) (next y)) → IsFlagged row a c (token sym_comma p ∷ y) s → (b : Unit {0}) × (Then IsFields (IsWord sym_close_brace)) b y s
flag_fields_split n (flag_fields q) = (_, then_ q the_word)
flag_fields_split n (other_flag {row = row} q) = absurd (same_row row n)

flag_fields_join : {row : ℕ} {b : Unit {0}} {y s : List Token} (p : ℕ) → (Then IsFields (IsWord sym_close_brace)) b y s → (a : Bool × List Field) × IsFlagAndFields row a (token sym_comma p ∷ y) s
flag_fields_join p (then_ {a = fs} q the_word) = ((false, fs), flag_fields q)

flag_fields_fails : {row p : ℕ} {x y z : List Token} → x ≡ token sym_comma p ∷ y → No (is_word (k.Keyword row) (next y)) → Fails (Then IsFields (IsWord sym_close_brace)) Anything y z → Fails (IsFlagAndFields row) Anything x z
flag_fields_fails {row = row} e c = opened_by (λ kind. No (is_word (k.Keyword row) kind)) (λ p a y s n l h. flag_fields_split n l) (λ p b y s m. flag_fields_join p m) (word e) c

pub flag_fields_at_2 : {row p : ℕ} {x x1 z : List Token} → x ≡ token sym_comma p ∷ x1 → No (is_word (k.Keyword row) (next x1)) → Fails IsFields EndsArgs x1 z → Fails (IsFlagAndFields row) Anything x z
flag_fields_at_2 e n f = flag_fields_fails e n (first (word_behind tt) f)

pub flag_fields_at_3 : {row p : ℕ} {fs : List Field} {x x1 x2 : List Token} → x ≡ token sym_comma p ∷ x1 → IsFields fs x1 x2 → EndsArgs (next x2) → No (is_word sym_close_brace (next x2)) → Fails (IsFlagAndFields row) Anything x x2
flag_fields_at_3 {row = row} {x1 = x1} e p h f = flag_fields_fails e (begins_no BeginsName (k.Keyword row) (next x1) (first_fields p) (λ n. n)) (second good_fields (word_behind tt) p h (other_word tt f))

pub flag_fields_of : {row p q : ℕ} {fs : List Field} {x x1 x2 r : List Token} → x ≡ token sym_comma p ∷ x1 → IsFields fs x1 x2 → x2 ≡ token sym_close_brace q ∷ r → IsFlagged row false fs x r
flag_fields_of {row = row} e p f = move (IsFlagged row false) _ _ _ _ e (flag_fields (upto IsFields f p))

other_flag_split : {row : ℕ} {a : Bool} {c : List Field} {p : ℕ} {y s : List Token} → next y ≡ k.Keyword row → IsFlagged row a c (token sym_comma p ∷ y) s → (b : Unit {0}) × (Then (IsWord (k.Keyword row)) IsBothFlags) b y s
other_flag_split n (flag_fields q) = absurd (subst BeginsName n (first_fields q))
other_flag_split n (other_flag q) = (_, then_ the_word q)

other_flag_join : {row : ℕ} {b : Unit {0}} {y s : List Token} (p : ℕ) → (Then (IsWord (k.Keyword row)) IsBothFlags) b y s → (a : Bool × List Field) × IsFlagAndFields row a (token sym_comma p ∷ y) s
other_flag_join p (then_ {b = fs} the_word q) = ((true, fs), other_flag q)

pub other_flag_at_3 : {row p q : ℕ} {x x1 x2 z : List Token} → x ≡ token sym_comma p ∷ x1 → x1 ≡ token (k.Keyword row) q ∷ x2 → Fails IsBothFlags Anything x2 z → Fails (IsFlagAndFields row) Anything x z
other_flag_at_3 {row = row} e d f = opened_by (λ kind. kind ≡ k.Keyword row) (λ p a y s n l h. other_flag_split n l) (λ p b y s m. other_flag_join p m) (word e) (ap next d) (second good_word (anything some_both_flags) (word d) tt f)

pub other_flag_of : {row p q : ℕ} {fs : List Field} {x x1 x2 r : List Token} → x ≡ token sym_comma p ∷ x1 → x1 ≡ token (k.Keyword row) q ∷ x2 → IsBothFlags fs x2 r → IsFlagged row true fs x r
other_flag_of {row = row} e d p = move (IsFlagged row true) _ _ _ _ (also e d) (other_flag p)

-- behind both flags

both_flags_none : {a : List Field} {y s : List Token} → No (is_word sym_close_brace (next y)) × No (is_word sym_comma (next y)) → IsBothFlags a y s → ⊥
both_flags_none n flags_alone = n.0
both_flags_none n (flags_fields p) = n.1

pub both_flags_stop : {x : List Token} → No (is_word sym_close_brace (next x)) → No (is_word sym_comma (next x)) → Fails IsBothFlags Anything x x
both_flags_stop c d = nothing (λ kind. No (is_word sym_close_brace kind) × No (is_word sym_comma kind)) (λ a y s n l h. both_flags_none n l) some_both_flags (c, d)
