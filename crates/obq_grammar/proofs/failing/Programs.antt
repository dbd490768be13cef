-- From where a block fails to the first fault of the whole.
use Rattle.std.proofs.Common.{List, ◌-◌, length}
use Rattle.obq_base.specs.declared.tokens.Token.{Token}
use Rattle.obq_base.specs.declared.trees.Block.{Block}
use Rattle.obq_model.specs.Nodes.{next}
use Rattle.obq_model.specs.Grammar.{IsBlock}
use Rattle.obq_grammar.specs.Follow.{EndsBlock, EndsProgram}
use Rattle.obq_grammar.proofs.Top.{whole_stop, first_fault}
use Rattle.obq_model.specs.Syntax.{IsEnded, IsFirstFault}

-- the productions

-- the block ends where no program does
pub program_fault : {a : Block} {x z : List Token} → IsBlock a x z → EndsBlock (next z) → (EndsProgram (next z) → ⊥) → IsEnded x → IsFirstFault x (length x - length z)
program_fault {x = x} {z = z} p h n e = first_fault x z (whole_stop p h n) e
