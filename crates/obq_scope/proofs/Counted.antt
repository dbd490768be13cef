-- What is counted in lists of trees.
use Rattle.std.proofs.Common.{◌≡◌, suc, List, [], ◌∷◌, refl, ap, length}
use Rattle.obq_base.specs.View.{arm_trees, bind_trees, expr_trees, item_trees, suffix_trees}
use Rattle.obq_base.specs.declared.trees.Arm.{Arm}
use Rattle.obq_base.specs.declared.trees.Bind.{Bind}
use Rattle.obq_base.specs.declared.trees.Expr.{Expr}
use Rattle.obq_base.specs.declared.trees.Item.{Item}
use Rattle.obq_base.specs.declared.trees.Suffix.{Suffix}
use Rattle.obq_model.specs.Draft.{count_arms, count_binds, count_exprs, count_items, count_suffixes}

pub exprs_count : (xs : List Expr) → length xs ≡ count_exprs (expr_trees xs)
exprs_count [] = refl
exprs_count (x ∷ xs) = ap suc (exprs_count xs)

pub items_count : (xs : List Item) → length xs ≡ count_items (item_trees xs)
items_count [] = refl
items_count (x ∷ xs) = ap suc (items_count xs)

pub arms_count : (xs : List Arm) → length xs ≡ count_arms (arm_trees xs)
arms_count [] = refl
arms_count (x ∷ xs) = ap suc (arms_count xs)

pub binds_count : (xs : List Bind) → length xs ≡ count_binds (bind_trees xs)
binds_count [] = refl
binds_count (x ∷ xs) = ap suc (binds_count xs)

pub suffixes_count : (xs : List Suffix) → length xs ≡ count_suffixes (suffix_trees xs)
suffixes_count [] = refl
suffixes_count (x ∷ xs) = ap suc (suffixes_count xs)
