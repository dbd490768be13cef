-- What the flags of an object lead to.
use Rattle.std.specs.Prelude.{◌≡◌, ◌<◌, ◌≤◌, ℕ, Bool, true, cond, List, [], ◌∷◌, length}
use Rattle.obq_base.specs.declared.tokens.Token.{Token}
use Rattle.obq_base.specs.declared.trees.Field.{Field}
use Rattle.obq_base.specs.declared.trees.Flags.{Flags}
use Rattle.obq_model.specs.Nodes.{next, token}
use Rattle.obq_model.specs.Words.{sym_close_brace}
use Rattle.obq_model.specs.Grammar.{flags, IsBothFlags, IsFields, IsFlagged, IsObject}
use Rattle.obq_grammar.specs.Fails.{Fails}
use Rattle.obq_grammar.specs.Follow.{Anything, EndsArgs, is_word, No}
use Rattle.obq_grammar.specs.Parts.{IsFlagsAndFields, IsFlagAndFields}
use Rattle.obq_parts.specs.declared.objects.ObjectHead.{ObjectHead}
use Rattle.obq_parts.specs.declared.objects.ObjectHead.TheVariants as h

-- fields at y and the brace behind them make a G at x
pub record Opens (G : List Field → List Token → List Token → Type 0) (Bad : List Token → List Token → Type 0) (x y : List Token) : Type 0 where
  pub found : (fs : List Field) (p : ℕ) (r : List Token) → IsFields fs y (token sym_close_brace p ∷ r) → G fs x r
  pub fails : (z : List Token) → Fails IsFields EndsArgs y z → Bad x z
  pub unclosed : (fs : List Field) (z : List Token) → IsFields fs y z → EndsArgs (next z) → No (is_word sym_close_brace (next z)) → Bad x z

abbrev pub Heads : (Flags → List Field → List Token → List Token → Type 0) → (List Token → List Token → Type 0) → List Token → ObjectHead → Type 0
Heads G Bad x (h.Closed f r) = G f [] x r.now
Heads G Bad x (h.Fields f y) = Opens (G f) Bad x y.now
Heads G Bad x (h.Fault z) = Bad x z.now

abbrev pub IsBoth : Flags → List Field → List Token → List Token → Type 0
IsBoth f fs x r = (f ≡ flags true true) × IsBothFlags fs x r

-- behind the one flag, with the other one as the keyword of this row
abbrev pub IsOne : ℕ → Flags → Flags → List Field → List Token → List Token → Type 0
IsOne row one f fs x r = (b : Bool) × IsFlagged row b fs x r × (f ≡ cond b (flags true true) one)

abbrev pub BothHead : List Token → ObjectHead → Type 0
BothHead x head = Heads IsBoth (λ x z. Fails IsBothFlags Anything x z) x head

abbrev pub FlaggedHead : ℕ → Flags → List Token → ObjectHead → Type 0
FlaggedHead row one x head = Heads (IsOne row one) (λ x z. Fails (IsFlagAndFields row) Anything x z) x head

abbrev pub HeadOf : List Token → ObjectHead → Type 0
HeadOf x head = Heads (λ f fs x r. IsObject f fs x r) (λ x z. Fails IsFlagsAndFields Anything x z) x head

abbrev pub IsShorterHead : List Token → ObjectHead → Type 0
IsShorterHead x (h.Closed f r) = length r.now < length x
IsShorterHead x (h.Fields f y) = length y.now ≤ length x
IsShorterHead x (h.Fault z) = Unit {0}
