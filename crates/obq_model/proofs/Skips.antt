-- Where a draft leaves its rest: behind so many trees, by the numbers of children alone.
use Rattle.std.specs.Prelude.{List, Option, refl, suc, ℕ, ◌+◌, ◌∷◌, ◌≡◌}
use Rattle.std.proofs.Common.{ap, sym, ◌∙◌, arith}
use Rattle.obq_base.specs.declared.code.CodeNo.{CodeNo}
use Rattle.obq_base.specs.declared.code.Node.{Node}
use Rattle.obq_base.specs.declared.code.Node.TheVariants as n
use Rattle.obq_model.specs.Draft.{Draft, Done, Plain, Both, Closure, Method, Group}
use Rattle.obq_model.specs.Procedures.{Proc}
use Rattle.obq_model.specs.Resolved.{IsCode}
use Rattle.obq_model.specs.Skipped.{children, skipped}
use Rattle.obq_model.proofs.Drafted.{Drafted, IsDrafted, trees_in}

one_plus : (k : ℕ) → 1 + k ≡ suc k
one_plus k = omega arith

next_plus : (m k : ℕ) → (1 + m) + k ≡ suc (m + k)
next_plus m k = omega arith

bare : (k : ℕ) → 0 + k ≡ k
bare k = omega arith

assoc : (m n k : ℕ) → (m + n) + k ≡ m + (n + k)
assoc m n k = omega arith

-- a leaf, and more trees
leaf : (a : Node) (m k : ℕ) (x r nodes : List Node) → children a ≡ 0 → nodes ≡ a ∷ x → skipped (m + k) x ≡ skipped k r → skipped ((1 + m) + k) nodes ≡ skipped k r
leaf a m k x r nodes e f g = ap (skipped ((1 + m) + k)) f ∙ ap (λ j. skipped j (a ∷ x)) (next_plus m k) ∙ ap (λ j. skipped (j + (m + k)) x) e ∙ ap (λ j. skipped j x) (bare (m + k)) ∙ g

-- behind the nodes of a draft as many trees are passed as it has
pub skips : (procs : CodeNo → Option Proc) (d : Draft) → IsDrafted d → (nodes r : List Node) (k : ℕ) → IsCode procs d nodes r → skipped (trees_in d + k) nodes ≡ skipped k r
skips procs Done w nodes r k h = ap (λ j. skipped j nodes) (bare k) ∙ ap (skipped k) h
skips procs (Plain a d) w nodes r k h =
    ap (skipped (1 + k)) h.1 ∙ ap (λ j. skipped j (a ∷ h.0)) (one_plus k) ∙ ap (λ j. skipped (j + k) h.0) w.0 ∙ skips procs d w.2 h.0 r k h.2
skips procs (Both d e) w nodes r k h = ap (λ j. skipped j nodes) (assoc (trees_in d) (trees_in e) k) ∙ skips procs d w.0 nodes h.0 (trees_in e + k) h.1 ∙ skips procs e w.1 h.0 r k h.2
skips procs (Closure from u p body d) w nodes r k h = leaf (n.Proc h.0 from) (trees_in d) k h.1 r nodes refl h.2 (skips procs d w.3 h.1 r k h.4)
skips procs (Method from u p body d) w nodes r k h = leaf (n.Meth h.0 from) (trees_in d) k h.1 r nodes refl h.2 (skips procs d w.3 h.1 r k h.4)
skips procs (Group from u bs bodies d) w nodes r k h = leaf (n.LetRec h.0 from) (trees_in d) k h.1 r nodes refl h.2 (skips procs d w.2 h.1 r k h.4)

-- the draft of a tree leaves its rest behind one tree
pub ends : (procs : CodeNo → Option Proc) {d : Draft} → Drafted d 1 → (nodes r : List Node) → IsCode procs d nodes r → skipped 1 nodes ≡ r
ends procs {d} w nodes r h = ap (λ j. skipped (j + 0) nodes) (sym w.trees) ∙ skips procs d w.drafted nodes r 0 h
