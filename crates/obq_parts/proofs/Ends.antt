-- What a test of the next token says, and where a block ends behind an item.
use Rattle.std.proofs.Common.{◌≡◌, ◌↔◌, Bool, true, false, IsTrue, ◌||◌, List}
use Rattle.obq_base.specs.declared.tokens.Token.{Token}
use Rattle.obq_model.specs.Nodes.{next}
use Rattle.obq_model.specs.Words.{sym_semicolon}
use Rattle.obq_grammar.specs.Follow.{among, closers, is_word, EndsBlock, EndsItem, No, Yes}

pub is_true : {b : Bool} {P : Type 0} → b ≡ true → (IsTrue b ↔ P) → P
is_true e w = w.0 e

pub not_true : {b : Bool} {P : Type 0} → b ≡ false → (IsTrue b ↔ P) → P → ⊥
not_true e w p = let t : IsTrue _ = w.1 p in cc (e, t)

yes_other : (a b : Bool) → Yes (a || b) → No a → Yes b
yes_other true b y n = absurd n
yes_other false b y n = y

pub item_block : (x : List Token) → EndsItem (next x) → No (is_word sym_semicolon (next x)) → EndsBlock (next x)
item_block x e n = yes_other (is_word sym_semicolon (next x)) (among closers (next x)) e n
