-- Threads and writers that a program opens with.
use Rattle.std.proofs.Common.{List, [], ap, length, map, refl, replicate, suc, sym, ℕ, ◌∙◌, ◌∷◌, ◌≡◌}
use Rattle.std.proofs.lemmas.List.{length-map}
use Rattle.obq_base.specs.Tree.{BlockTree}
use Rattle.obq_base.specs.View.{block_tree}
use Rattle.obq_base.specs.declared.trees.Block.{Block}
use Rattle.obq_model.specs.Config.{Config, ThreadState}
use Rattle.obq_model.specs.Opening.{new_threads, opening, opening_terms}
use Rattle.obq_model.specs.Store as c

pub opening_count : (site : ℕ) (trees : List BlockTree) → length (opening_terms site trees) ≡ length trees
opening_count site [] = refl
opening_count site (b ∷ bs) = ap suc (opening_count (suc site) bs)

-- writers and threads are what a program opens as
pub begun : (st : c.Store ℕ) (threads : List ThreadState) (blocks : List Block) → st ≡ record { cells = replicate (length blocks) (c.WriterCell []); names = [] }
    → threads ≡ new_threads (opening_terms 0 (map block_tree blocks)) → ◌≡◌ {A = Config} (record { store = st; threads = threads }) (opening (map block_tree blocks))
begun st threads blocks e f =
    let n : length (opening_terms 0 (map block_tree blocks)) ≡ length blocks = opening_count 0 (map block_tree blocks) ∙ length-map blocks block_tree in
    ap (λ (x : c.Store ℕ). let k : Config = record { store = x; threads = threads } in k) (e ∙ ap (λ k. let s : c.Store ℕ = record { cells = replicate k (c.WriterCell []); names = [] } in s) (sym n))
    ∙ ap (λ (ts : List ThreadState). let k : Config = record { store = record { cells = replicate (length (opening_terms 0 (map block_tree blocks))) (c.WriterCell []); names = [] }; threads = ts } in k) f
