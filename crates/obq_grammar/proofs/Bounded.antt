-- The trees of accepted sources have integers of 64 bits, and texts of at most 65,536 bytes.
use Rattle.std.proofs.Common.{List, [], arith, false, refl, true, zero, suc, ℕ, ◌++◌, ◌∷◌, ◌≡◌}
use Rattle.std.specs.Prelude.{None, Option, Some, IsTrue, nat_le, nat_lt, ◌^◌}
use Rattle.std.proofs.lemmas.Bool.Decides.{nat_tests}
use Rattle.obq_base.specs.declared.tokens.Token.{Token}
use Rattle.obq_grammar.proofs.Leaves.{Each, told_block}
use Rattle.obq_model.specs.Builtins.{is_i64}
use Rattle.obq_model.specs.Tokens.{IsRead, IsReading, IsSound, Lexeme, Literal, Mark, Number, Word, blank, done, end_token, kind_of, negative, reading, token, word_kind}
use Rattle.obq_model.specs.Leaves.{IsBoundedLeaf}
use Rattle.obq_grammar.specs.Bounds.{SourcesAreBounded}

negative_int : (n : ℕ) → IsTrue (nat_le n (2 ^ 63)) → is_i64 (negative n) ≡ true
negative_int zero h = refl
negative_int (suc n) h = below n h where
  below : (n : ℕ) → nat_le (suc n) (2 ^ 63) ≡ true → nat_lt n (2 ^ 63) ≡ true
  below n e = grind (arith, nat_tests)

word_bounded : (w : List ℕ) (o : Option ℕ) (p : ℕ) → IsBoundedLeaf (word_kind w o) p
word_bounded w None p = tt
word_bounded w (Some k) p = tt

bounded : (l : Lexeme) (r : List ℕ) (p : ℕ) → IsSound l r → IsBoundedLeaf (kind_of l) p
bounded (Word w) r p h = word_bounded w _ p
bounded (Number false ds) r p h = h.0
bounded (Number true ds) r p h = negative_int _ h.0
bounded (Literal v) r p h = h
bounded (Mark k) r p h = tt

read_bounded : (source : List ℕ) {n : ℕ} {ts : List Token} {d e : ℕ} {x y : List ℕ} → IsRead n ts d x e y → Each IsBoundedLeaf (ts ++ end_token source ∷ [])
read_bounded source done = (tt, tt)
read_bounded source (blank b r) = read_bounded source r
read_bounded source (token {l = l} t s r) = (bounded l _ _ t.sound, read_bounded source r)

reading_bounded : (source : List ℕ) (ts : List Token) → IsReading source ts → Each IsBoundedLeaf ts
reading_bounded source ts (reading r) = read_bounded source r

pub sources_are_bounded : SourcesAreBounded
sources_are_bounded [] [] h = tt
sources_are_bounded (source ∷ sources) (tree ∷ trees) h = (
  let accepted = h.0.1 in (told_block IsBoundedLeaf accepted.derived.1 (reading_bounded source h.0.0 accepted.reading)).0,
  sources_are_bounded sources trees h.1,
)
sources_are_bounded [] (tree ∷ trees) h = absurd h
sources_are_bounded (source ∷ sources) [] h = absurd h
