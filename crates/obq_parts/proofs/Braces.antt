-- Flags of an object and the fields behind them.
use Rattle.std.proofs.Common.{◌≡◌, ℕ, Bool, true, false, cond, List, [], ◌∷◌, refl, sym, subst}
use Rattle.obq_base.specs.declared.tokens.TokenKind.TheVariants as k
use Rattle.obq_base.specs.declared.tokens.Token.{Token}
use Rattle.obq_base.specs.declared.trees.Field.{Field}
use Rattle.obq_base.specs.declared.trees.Flags.{Flags}
use Rattle.obq_model.specs.Nodes.{next, token}
use Rattle.obq_model.specs.Words.{kw_protected, kw_serialized, row_protected, row_serialized, sym_close_brace, sym_comma}
use Rattle.obq_model.specs.Grammar.{flags, IsBothFlags, IsFlagged, IsObject}
use Rattle.obq_grammar.specs.Fails.{Fails}
use Rattle.obq_grammar.specs.Follow.{Anything, is_word, No}
use Rattle.obq_grammar.specs.Parts.{IsFlagsAndFields, IsFlagAndFields}
use Rattle.obq_grammar.proofs.failing.Fields.{flags_fields_at_2, flags_fields_at_3, flags_fields_of}
use Rattle.obq_grammar.proofs.failing.Objects.{unflagged_at_1, unflagged_at_2, unflagged_of, protected_at_2, protected_of, serialized_at_2, serialized_of, flag_fields_at_2, flag_fields_at_3, flag_fields_of, other_flag_at_3, other_flag_of}
use Rattle.obq_parts.specs.declared.objects.ObjectHead.{ObjectHead}
use Rattle.obq_parts.specs.declared.objects.ObjectHead.TheVariants as h
use Rattle.obq_parts.specs.Objects.{Opens, Heads, IsBoth, IsOne, BothHead, FlaggedHead, HeadOf}

-- What heads a G' at y heads a G at x.
lift : (G H : Flags → List Field → List Token → List Token → Type 0) (B C : List Token → List Token → Type 0) (x y : List Token) →
    ((f : Flags) (fs : List Field) (r : List Token) → H f fs y r → G f fs x r) → ((z : List Token) → C y z → B x z) → (head : ObjectHead) → Heads H C y head → Heads G B x head
lift G H B C x y good bad (h.Closed f r) d = good f [] r.now d
lift G H B C x y good bad (h.Fields f m) d = record {
  found = λ fs p r a. good f fs r (d.found fs p r a);
  fails = λ z a. bad z (d.fails z a);
  unclosed = λ fs z a e n. bad z (d.unclosed fs z a e n);
}
lift G H B C x y good bad (h.Fault z) d = bad z.now d

pub both_fields : (x y : List Token) {p : ℕ} → x ≡ token sym_comma p ∷ y → Opens (IsBoth (flags true true)) (λ x z. Fails IsBothFlags Anything x z) x y
both_fields x y e = record {
  found = λ fs p r a. (refl, flags_fields_of e a refl);
  fails = λ z a. flags_fields_at_2 e a;
  unclosed = λ fs z a u n. flags_fields_at_3 e a u n;
}

pub one_fields : (row : ℕ) (one : Flags) (x y : List Token) {p : ℕ} → x ≡ token sym_comma p ∷ y → No (is_word (k.Keyword row) (next y)) → Opens (IsOne row one one) (λ x z. Fails (IsFlagAndFields row) Anything x z) x y
one_fields row one x y e n = record {
  found = λ fs p r a. (false, flag_fields_of e a refl, refl);
  fails = λ z a. flag_fields_at_2 e n a;
  unclosed = λ fs z a u o. flag_fields_at_3 e a u o;
}

pub one_both : (row : ℕ) (one : Flags) (x y w : List Token) {p q : ℕ} → x ≡ token sym_comma p ∷ y → y ≡ token (k.Keyword row) q ∷ w → (head : ObjectHead) → BothHead w head → FlaggedHead row one x head
one_both row one x y w e o = lift (IsOne row one) IsBoth (λ x z. Fails (IsFlagAndFields row) Anything x z) (λ x z. Fails IsBothFlags Anything x z) x w (λ f fs r d. (true, other_flag_of e o d.1, d.0)) (λ z d. other_flag_at_3 e o d)

protected_flags : (f : Flags) (fs : List Field) (x y r : List Token) {p : ℕ} → x ≡ token kw_protected p ∷ y → (b : Bool) → IsFlagged row_serialized b fs y r → f ≡ cond b (flags true true) (flags true false) → IsObject f fs x r
protected_flags f fs x y r e true d q = subst (λ (g : Flags). IsObject g fs x r) (sym q) (protected_of e d)
protected_flags f fs x y r e false d q = subst (λ (g : Flags). IsObject g fs x r) (sym q) (protected_of e d)

serialized_flags : (f : Flags) (fs : List Field) (x y r : List Token) {p : ℕ} → x ≡ token kw_serialized p ∷ y → (b : Bool) → IsFlagged row_protected b fs y r → f ≡ cond b (flags true true) (flags false true) → IsObject f fs x r
serialized_flags f fs x y r e true d q = subst (λ (g : Flags). IsObject g fs x r) (sym q) (serialized_of e d)
serialized_flags f fs x y r e false d q = subst (λ (g : Flags). IsObject g fs x r) (sym q) (serialized_of e d)

pub protected_head : (x y : List Token) {p : ℕ} → x ≡ token kw_protected p ∷ y → (head : ObjectHead) → FlaggedHead row_serialized (flags true false) y head → HeadOf x head
protected_head x y e = lift (λ f fs x r. IsObject f fs x r) (IsOne row_serialized (flags true false)) (λ x z. Fails IsFlagsAndFields Anything x z) (λ x z. Fails (IsFlagAndFields row_serialized) Anything x z) x y (λ f fs r d. protected_flags f fs x y r e d.0 d.1 d.2) (λ z d. protected_at_2 e d)

pub serialized_head : (x y : List Token) {p : ℕ} → x ≡ token kw_serialized p ∷ y → (head : ObjectHead) → FlaggedHead row_protected (flags false true) y head → HeadOf x head
serialized_head x y e = lift (λ f fs x r. IsObject f fs x r) (IsOne row_protected (flags false true)) (λ x z. Fails IsFlagsAndFields Anything x z) (λ x z. Fails (IsFlagAndFields row_protected) Anything x z) x y (λ f fs r d. serialized_flags f fs x y r e d.0 d.1 d.2) (λ z d. serialized_at_2 e d)

pub plain_fields : (x : List Token) → No (is_word sym_close_brace (next x)) → No (is_word kw_protected (next x)) → No (is_word kw_serialized (next x)) → Opens (λ fs x r. IsObject (flags false false) fs x r) (λ x z. Fails IsFlagsAndFields Anything x z) x x
plain_fields x a b c = record {
  found = λ fs p r d. unflagged_of d refl;
  fails = λ z d. unflagged_at_1 a b c d;
  unclosed = λ fs z d u n. unflagged_at_2 d u n;
}
