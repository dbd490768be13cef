-- How a block goes on behind an item.
use Rattle.std.specs.Prelude.{◌≡◌, ◌<◌, ◌≤◌, ℕ, List, [], ◌∷◌, length}
use Rattle.obq_base.specs.declared.tokens.Token.{Token}
use Rattle.obq_model.specs.Nodes.{next, token}
use Rattle.obq_model.specs.Words.{sym_semicolon}
use Rattle.obq_model.specs.Grammar.{IsMore}
use Rattle.obq_grammar.specs.Follow.{EndsBlock}
use Rattle.obq_parts.specs.declared.blocks.Onward.{Onward}
use Rattle.obq_parts.specs.declared.blocks.Onward.TheVariants as o

abbrev pub GoesOn : List Token → Onward → Type 0
GoesOn x (o.Item y) = (p : ℕ) × (x ≡ token sym_semicolon p ∷ y.now) × (EndsBlock (next y.now) → ⊥)
GoesOn x (o.End r) = IsMore [] x r.now × EndsBlock (next r.now)

abbrev pub IsShorterOnward : List Token → Onward → Type 0
IsShorterOnward x (o.Item y) = length y.now < length x
IsShorterOnward x (o.End r) = length r.now ≤ length x
