-- Blocks and their parts. `C_at_i`: where the part i of the production C fails, what the production derives fails; the arguments are the parts before it
-- (a word or a name by the tokens that begin with it, another part by its derivation and by the token behind it), and then how part i fails.
-- `C_end`: behind the last part stands what may not stand behind the production. `C_of`: the production from its parts. `C_step`: one more of a list so far.
use Rattle.std.proofs.Common.{◌≡◌, ℕ, List, [], ◌∷◌, ◌++◌, Option, Some}
use Rattle.obq_base.specs.declared.tokens.Token.{Token}
use Rattle.obq_base.specs.declared.trees.Block.{Block}
use Rattle.obq_base.specs.declared.trees.Item.{Item}
use Rattle.obq_base.specs.declared.trees.Expr.{Expr}
use Rattle.obq_base.specs.declared.trees.Arm.{Arm}
use Rattle.obq_model.specs.Words.{kw_else, kw_elsif, kw_end, kw_except, kw_then, sym_arrow}
use Rattle.obq_model.specs.Nodes.{token, next, arm}
use Rattle.obq_model.specs.Grammar.{IsBlock, IsMore, IsItem, IsExpr, IsArm, IsElsifs, IsElse, IsGuard, IsGuards, empty, items, arm_of, no_elsif, one_elsif, else_, guard_of, no_guard, one_guard}
use Rattle.obq_grammar.specs.Fails.{Fails}
use Rattle.obq_grammar.specs.Follow.{No, is_word, Anything, EndsExpr, EndsBlock, EndsItem, EndsElsifs, EndsGuards}
use Rattle.obq_grammar.proofs.Theory.{Leads, step, move, upto}
use Rattle.obq_grammar.proofs.Sets.{item_not_block}
use Rattle.obq_grammar.proofs.Firsts.{first_item}
use Rattle.obq_grammar.proofs.Goods.{good_block, good_item, good_expr, good_arm, good_guard}
use Rattle.obq_grammar.specs.Parts.{IsWord, the_word, Then, then_}
use Rattle.obq_grammar.proofs.failing.Sequences.{Behind, anything, word_behind, then_behind, first, second, production, opened, good_word, word, other_word}
use Rattle.obq_grammar.proofs.failing.Beginnings.{some_block, more_behind, elsifs_behind, guards_behind}

-- what may stand behind a part

then_block_behind : Behind EndsExpr (Then (IsWord kw_then) IsBlock) EndsBlock
then_block_behind = then_behind {V = Anything} (word_behind tt) (anything some_block)

arrow_block_behind : Behind EndsExpr (Then (IsWord sym_arrow) IsBlock) EndsBlock
arrow_block_behind = then_behind {V = Anything} (word_behind tt) (anything some_block)

-- the productions

items_split : {a : Block} {y s : List Token} → (EndsBlock (next y) → ⊥) → IsBlock a y s → EndsBlock (next s) → (b : Unit {0}) × (Then IsItem IsMore) b y s
items_split n empty h = absurd (n h)
items_split n (items p1 p2) h = (_, then_ p1 p2)

items_join : {b : Unit {0}} {y s : List Token} → (Then IsItem IsMore) b y s → (a : Block) × IsBlock a y s
items_join (then_ p1 p2) = (_, items p1 p2)

items_fails : {x z : List Token} → (EndsBlock (next x) → ⊥) → Fails (Then IsItem IsMore) EndsBlock x z → Fails IsBlock EndsBlock x z
items_fails c = production (λ kind. (EndsBlock kind → ⊥)) (λ a y s n l h. items_split n l h) (λ b y s m. items_join m) c

pub items_at_1 : {x z : List Token} → (EndsBlock (next x) → ⊥) → Fails IsItem EndsItem x z → Fails IsBlock EndsBlock x z
items_at_1 n f = items_fails n (first more_behind f)

pub items_at_2 : {i : Item} {x x1 z : List Token} → IsItem i x x1 → EndsItem (next x1) → Fails IsMore EndsBlock x1 z → Fails IsBlock EndsBlock x z
items_at_2 {x = x} p1 h1 f = items_fails (item_not_block (next x) (first_item p1)) (second good_item more_behind p1 h1 f)

arm_of_split : {a : Arm} {y s : List Token} → IsArm a y s → EndsBlock (next s) → (b : Unit {0}) × (Then IsExpr (Then (IsWord kw_then) IsBlock)) b y s
arm_of_split (arm_of p1 p3) h = (_, then_ p1 (then_ the_word p3))

arm_of_join : {b : Unit {0}} {y s : List Token} → (Then IsExpr (Then (IsWord kw_then) IsBlock)) b y s → (a : Arm) × IsArm a y s
arm_of_join (then_ p1 (then_ the_word p3)) = (_, arm_of p1 p3)

arm_of_fails : {x z : List Token} → Fails (Then IsExpr (Then (IsWord kw_then) IsBlock)) EndsBlock x z → Fails IsArm EndsBlock x z
arm_of_fails = production Anything (λ a y s n l h. arm_of_split l h) (λ b y s m. arm_of_join m) tt

pub arm_of_at_1 : {x z : List Token} → Fails IsExpr EndsExpr x z → Fails IsArm EndsBlock x z
arm_of_at_1 f = arm_of_fails (first then_block_behind f)

pub arm_of_at_2 : {v : Expr} {x x1 : List Token} → IsExpr v x x1 → EndsExpr (next x1) → No (is_word kw_then (next x1)) → Fails IsArm EndsBlock x x1
arm_of_at_2 p1 h1 f = arm_of_fails (second good_expr then_block_behind p1 h1 (first (anything some_block) (other_word tt f)))

pub arm_of_at_3 : {v : Expr} {p : ℕ} {x x1 x2 z : List Token} → IsExpr v x x1 → EndsExpr (next x1) → x1 ≡ token kw_then p ∷ x2 → Fails IsBlock EndsBlock x2 z → Fails IsArm EndsBlock x z
arm_of_at_3 p1 h1 e2 f = arm_of_fails (second good_expr then_block_behind p1 h1 (second good_word (anything some_block) (word e2) tt f))

pub arm_of_of : {v : Expr} {b : Block} {p : ℕ} {x x1 x2 r : List Token} → IsExpr v x x1 → x1 ≡ token kw_then p ∷ x2 → IsBlock b x2 r → IsArm (arm v b) x r
arm_of_of p1 e2 p3 = arm_of (upto IsExpr e2 p1) p3

one_elsif_split : {a : List Arm} {p : ℕ} {y s : List Token} → IsElsifs a (token kw_elsif p ∷ y) s → EndsElsifs (next s) → (b : Unit {0}) × (Then IsArm IsElsifs) b y s
one_elsif_split no_elsif h = absurd h
one_elsif_split (one_elsif p2 p3) h = (_, then_ p2 p3)

one_elsif_join : {b : Unit {0}} {y s : List Token} (p : ℕ) → (Then IsArm IsElsifs) b y s → (a : List Arm) × IsElsifs a (token kw_elsif p ∷ y) s
one_elsif_join p (then_ p2 p3) = (_, one_elsif p2 p3)

one_elsif_fails : {p : ℕ} {x y z : List Token} → x ≡ token kw_elsif p ∷ y → Fails (Then IsArm IsElsifs) EndsElsifs y z → Fails IsElsifs EndsElsifs x z
one_elsif_fails e = opened (λ p a y s l h. one_elsif_split l h) (λ p b y s m. one_elsif_join p m) (word e)

pub one_elsif_at_2 : {p : ℕ} {x x1 z : List Token} → x ≡ token kw_elsif p ∷ x1 → Fails IsArm EndsBlock x1 z → Fails IsElsifs EndsElsifs x z
one_elsif_at_2 e1 f = one_elsif_fails e1 (first elsifs_behind f)

pub one_elsif_at_3 : {a : Arm} {p : ℕ} {x x1 x2 z : List Token} → x ≡ token kw_elsif p ∷ x1 → IsArm a x1 x2 → EndsBlock (next x2) → Fails IsElsifs EndsElsifs x2 z → Fails IsElsifs EndsElsifs x z
one_elsif_at_3 e1 p2 h2 f = one_elsif_fails e1 (second good_arm elsifs_behind p2 h2 f)

pub one_elsif_of : {a : Arm} {ms : List Arm} {p : ℕ} {x x1 x2 r : List Token} → x ≡ token kw_elsif p ∷ x1 → IsArm a x1 x2 → IsElsifs ms x2 r → IsElsifs (a ∷ ms) x r
one_elsif_of e1 p2 p3 = move IsElsifs _ _ _ _ e1 (one_elsif p2 p3)

pub one_elsif_step : {ms : List Arm} {a : Arm} {p : ℕ} {w x x1 x2 : List Token} → Leads IsElsifs EndsElsifs ms w x → x ≡ token kw_elsif p ∷ x1 → IsArm a x1 x2 → EndsBlock (next x2) → Leads IsElsifs EndsElsifs (ms ++ a ∷ []) w x2
one_elsif_step {a = a} l e1 p2 h2 = step a l (λ bs r m. one_elsif_of e1 p2 m) (λ w f. one_elsif_at_3 e1 p2 h2 f)

else_split : {a : Option Block} {p : ℕ} {y s : List Token} → IsElse a (token kw_else p ∷ y) s → Anything (next s) → (b : Unit {0}) × (Then IsBlock (IsWord kw_end)) b y s
else_split (else_ p2) h = (_, then_ p2 the_word)

else_join : {b : Unit {0}} {y s : List Token} (p : ℕ) → (Then IsBlock (IsWord kw_end)) b y s → (a : Option Block) × IsElse a (token kw_else p ∷ y) s
else_join p (then_ p2 the_word) = (_, else_ p2)

else_fails : {p : ℕ} {x y z : List Token} → x ≡ token kw_else p ∷ y → Fails (Then IsBlock (IsWord kw_end)) Anything y z → Fails IsElse Anything x z
else_fails e = opened (λ p a y s l h. else_split l h) (λ p b y s m. else_join p m) (word e)

pub else_at_2 : {p : ℕ} {x x1 z : List Token} → x ≡ token kw_else p ∷ x1 → Fails IsBlock EndsBlock x1 z → Fails IsElse Anything x z
else_at_2 e1 f = else_fails e1 (first (word_behind tt) f)

pub else_at_3 : {b : Block} {p : ℕ} {x x1 x2 : List Token} → x ≡ token kw_else p ∷ x1 → IsBlock b x1 x2 → EndsBlock (next x2) → No (is_word kw_end (next x2)) → Fails IsElse Anything x x2
else_at_3 e1 p2 h2 f = else_fails e1 (second good_block (word_behind tt) p2 h2 (other_word tt f))

pub else_of : {b : Block} {p q : ℕ} {x x1 x2 r : List Token} → x ≡ token kw_else p ∷ x1 → IsBlock b x1 x2 → x2 ≡ token kw_end q ∷ r → IsElse (Some b) x r
else_of e1 p2 e3 = move IsElse _ _ _ _ e1 (else_ (upto IsBlock e3 p2))

guard_of_split : {a : Arm} {y s : List Token} → IsGuard a y s → EndsBlock (next s) → (b : Unit {0}) × (Then IsExpr (Then (IsWord sym_arrow) IsBlock)) b y s
guard_of_split (guard_of p1 p3) h = (_, then_ p1 (then_ the_word p3))

guard_of_join : {b : Unit {0}} {y s : List Token} → (Then IsExpr (Then (IsWord sym_arrow) IsBlock)) b y s → (a : Arm) × IsGuard a y s
guard_of_join (then_ p1 (then_ the_word p3)) = (_, guard_of p1 p3)

guard_of_fails : {x z : List Token} → Fails (Then IsExpr (Then (IsWord sym_arrow) IsBlock)) EndsBlock x z → Fails IsGuard EndsBlock x z
guard_of_fails = production Anything (λ a y s n l h. guard_of_split l h) (λ b y s m. guard_of_join m) tt

pub guard_of_at_1 : {x z : List Token} → Fails IsExpr EndsExpr x z → Fails IsGuard EndsBlock x z
guard_of_at_1 f = guard_of_fails (first arrow_block_behind f)

pub guard_of_at_2 : {v : Expr} {x x1 : List Token} → IsExpr v x x1 → EndsExpr (next x1) → No (is_word sym_arrow (next x1)) → Fails IsGuard EndsBlock x x1
guard_of_at_2 p1 h1 f = guard_of_fails (second good_expr arrow_block_behind p1 h1 (first (anything some_block) (other_word tt f)))

pub guard_of_at_3 : {v : Expr} {p : ℕ} {x x1 x2 z : List Token} → IsExpr v x x1 → EndsExpr (next x1) → x1 ≡ token sym_arrow p ∷ x2 → Fails IsBlock EndsBlock x2 z → Fails IsGuard EndsBlock x z
guard_of_at_3 p1 h1 e2 f = guard_of_fails (second good_expr arrow_block_behind p1 h1 (second good_word (anything some_block) (word e2) tt f))

pub guard_of_of : {v : Expr} {b : Block} {p : ℕ} {x x1 x2 r : List Token} → IsExpr v x x1 → x1 ≡ token sym_arrow p ∷ x2 → IsBlock b x2 r → IsGuard (arm v b) x r
guard_of_of p1 e2 p3 = guard_of (upto IsExpr e2 p1) p3

one_guard_split : {a : List Arm} {p : ℕ} {y s : List Token} → IsGuards a (token kw_except p ∷ y) s → EndsGuards (next s) → (b : Unit {0}) × (Then IsGuard IsGuards) b y s
one_guard_split no_guard h = absurd h
one_guard_split (one_guard p2 p3) h = (_, then_ p2 p3)

one_guard_join : {b : Unit {0}} {y s : List Token} (p : ℕ) → (Then IsGuard IsGuards) b y s → (a : List Arm) × IsGuards a (token kw_except p ∷ y) s
one_guard_join p (then_ p2 p3) = (_, one_guard p2 p3)

one_guard_fails : {p : ℕ} {x y z : List Token} → x ≡ token kw_except p ∷ y → Fails (Then IsGuard IsGuards) EndsGuards y z → Fails IsGuards EndsGuards x z
one_guard_fails e = opened (λ p a y s l h. one_guard_split l h) (λ p b y s m. one_guard_join p m) (word e)

pub one_guard_at_2 : {p : ℕ} {x x1 z : List Token} → x ≡ token kw_except p ∷ x1 → Fails IsGuard EndsBlock x1 z → Fails IsGuards EndsGuards x z
one_guard_at_2 e1 f = one_guard_fails e1 (first guards_behind f)

pub one_guard_at_3 : {a : Arm} {p : ℕ} {x x1 x2 z : List Token} → x ≡ token kw_except p ∷ x1 → IsGuard a x1 x2 → EndsBlock (next x2) → Fails IsGuards EndsGuards x2 z → Fails IsGuards EndsGuards x z
one_guard_at_3 e1 p2 h2 f = one_guard_fails e1 (second good_guard guards_behind p2 h2 f)

pub one_guard_of : {a : Arm} {ms : List Arm} {p : ℕ} {x x1 x2 r : List Token} → x ≡ token kw_except p ∷ x1 → IsGuard a x1 x2 → IsGuards ms x2 r → IsGuards (a ∷ ms) x r
one_guard_of e1 p2 p3 = move IsGuards _ _ _ _ e1 (one_guard p2 p3)

pub one_guard_step : {ms : List Arm} {a : Arm} {p : ℕ} {w x x1 x2 : List Token} → Leads IsGuards EndsGuards ms w x → x ≡ token kw_except p ∷ x1 → IsGuard a x1 x2 → EndsBlock (next x2) → Leads IsGuards EndsGuards (ms ++ a ∷ []) w x2
one_guard_step {a = a} l e1 p2 h2 = step a l (λ bs r m. one_guard_of e1 p2 m) (λ w f. one_guard_at_3 e1 p2 h2 f)
