-- What a chain before `:=` assigns to.
use Rattle.std.specs.Prelude.{◌≡◌, ℕ, List, [], ◌∷◌, ◌++◌}
use Rattle.obq_base.specs.declared.tokens.TokenKind.TheVariants as k
use Rattle.obq_base.specs.declared.tokens.Token.{Token}
use Rattle.obq_base.specs.declared.trees.Expr.{Expr}
use Rattle.obq_base.specs.declared.trees.FieldExpr.{FieldExpr}
use Rattle.obq_base.specs.declared.trees.Item.{Item}
use Rattle.obq_base.specs.declared.trees.Item.TheVariants as i
use Rattle.obq_base.specs.declared.trees.Suffix.{Suffix}
use Rattle.obq_base.specs.declared.trees.Suffix.TheVariants as s
use Rattle.obq_model.specs.Nodes.{next, suffixed, token}
use Rattle.obq_grammar.specs.Follow.{BeginsName}
use Rattle.obq_parts.specs.declared.targets.Chain.{Chain}
use Rattle.obq_parts.specs.declared.targets.FieldTarget.{FieldTarget}
use Rattle.obq_parts.specs.declared.targets.ValueTarget.{ValueTarget}
use Rattle.obq_parts.specs.declared.targets.ValueTarget.TheVariants.{Named, Indexed}
use Rattle.obq_parts.specs.declared.targets.Target.{Target}
use Rattle.obq_parts.specs.declared.targets.Target.TheVariants as t

-- neither a name alone, nor one that ends with a selection or an index
pub record IsNoTarget (x : List Token) (suffixes : List Suffix) : Type 0 where
  pub no_name : suffixes ≡ [] → BeginsName (next x) → ⊥
  pub no_field : (ss : List Suffix) (n : List ℕ) (p : ℕ) → suffixes ≡ ss ++ s.Select n p ∷ [] → ⊥
  pub no_item : (ss : List Suffix) (j : Expr) (p : ℕ) → suffixes ≡ ss ++ s.Index j p ∷ [] → ⊥

abbrev pub Targets : List Token → Chain → Target → Type 0
Targets x chain t.Fixed = IsNoTarget x chain.suffixes
Targets x chain (t.Field f) = (p : ℕ) × (chain.head ≡ f.object.head) × (chain.suffixes ≡ f.object.suffixes ++ s.Select f.name p ∷ [])
Targets x chain (t.Value (Named n)) = (p : ℕ) × (y : List Token) × (x ≡ token (k.Name n) p ∷ y) × (chain.suffixes ≡ [])
Targets x chain (t.Value (Indexed c j)) = (p : ℕ) × (chain.head ≡ c.head) × (chain.suffixes ≡ c.suffixes ++ s.Index j p ∷ [])

abbrev pub assignment_of : ValueTarget → Expr → ℕ → Item
assignment_of (Named n) v p = i.Assign n v p
assignment_of (Indexed c j) v p = i.SetItem (suffixed c.head c.suffixes) j v p

abbrev pub set_field_of : FieldTarget → FieldExpr → ℕ → Item
set_field_of f b p = i.SetField (suffixed f.object.head f.object.suffixes) f.name b p
