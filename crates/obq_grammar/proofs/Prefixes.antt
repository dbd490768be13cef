-- The tokens before a fault, and those before another.
use Rattle.std.proofs.Common.{◌≡◌, ℕ, ◌+◌, ◌<◌, ◌≤◌, List, [], ◌++◌, take, drop, length, sym, subst, ap, ◌∙◌, append_assoc, append-nil, arith, inl, inr}
use Rattle.std.proofs.lemmas.Bool.{cases_order}
use Rattle.std.proofs.lemmas.List.{take-append-drop, take-append-le, length-take-le}
use Rattle.obq_base.specs.declared.tokens.Token.{Token}
use Rattle.obq_base.specs.declared.trees.Block.{Block}
use Rattle.obq_model.specs.Grammar.{Derives}
use Rattle.obq_model.specs.Syntax.{IsFront, IsFirstFault}

front_take : (k : ℕ) (x : List Token) → IsFront x → IsFront (take k x)
front_take k x f = (drop k x ++ f.0, f.1, subst (λ (y : List Token). Derives y f.1) (ap (λ (y : List Token). y ++ f.0) (sym (take-append-drop k x)) ∙ append_assoc (take k x) (drop k x) f.0) f.2)

take_less : (j k : ℕ) (x : List Token) → j ≤ k → k ≤ length x → take j (take k x) ≡ take j x
take_less j k x h l =
    let n = length-take-le k x l in
    let m : j ≤ length (take k x) = omega arith in
    sym (take-append-le j (take k x) (drop k x) m) ∙ ap (λ (y : List Token). take j y) (take-append-drop k x)

not_before : (x : List Token) (j k : ℕ) → IsFirstFault x j → IsFirstFault x k → j < k → ⊥
not_before x j k f g h =
    let w = g.within in
    let l : k ≤ length x = omega arith in
    let m : j + 1 ≤ k = omega arith in
    f.sticks (subst IsFront (take_less (j + 1) k x m l) (front_take (j + 1) (take k x) g.fits))

pub tree_and_fault : (x : List Token) (tree : Block) (k : ℕ) → Derives x tree → IsFirstFault x k → ⊥
tree_and_fault x tree k d f = f.sticks (front_take (k + 1) x ([], tree, subst (λ (y : List Token). Derives y tree) (sym (append-nil x)) d))

pub same_fault : (x : List Token) (j k : ℕ) → IsFirstFault x j → IsFirstFault x k → j ≡ k
same_fault x j k f g = elim (cases_order j k) as (λ _. j ≡ k) [ inl e ↦ e | inr h ↦ elim h as (λ _. j ≡ k) [ inl l ↦ absurd (not_before x j k f g l) | inr l ↦ absurd (not_before x k j g f l) ] ]
