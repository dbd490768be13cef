-- The codes of accepted sources as a machine has them, under the table that their blocks have.
use Rattle.std.proofs.lemmas.Bool.Decides.{nat_tests}
use Rattle.std.specs.Prelude.{Bool, if◌then◌else◌}
use Rattle.std.proofs.Common.{List, Option, Some, [], ap, arith, drop, false, length, map, nat_lt, refl, slice_get, subst, suc, true, zero, ℕ, ◌-◌, ◌∙◌, ◌∷◌, ◌≡◌, ◌≤◌}
use Rattle.obq_base.specs.Tree.{BlockTree}
use Rattle.obq_base.specs.View.{block_tree}
use Rattle.obq_base.specs.declared.code.CodeNo.{CodeNo}
use Rattle.obq_base.specs.declared.code.Node.{Node}
use Rattle.obq_base.specs.declared.code.SourceCode.{SourceCode}
use Rattle.obq_base.specs.declared.places.Ref.{Ref}
use Rattle.obq_base.specs.declared.trees.Block.{Block}
use Rattle.obq_code.specs.Lefts.{end_at, end_in, lefts_of, passed}
use Rattle.obq_code.proofs.Passing.{ends_there}
use Rattle.obq_front.specs.Contents.{AreTabled}
use Rattle.obq_host.specs.Meanings.{AreCodes}
use Rattle.obq_model.specs.CodeLaws.{IsTable, nodes_of}
use Rattle.obq_model.specs.Occurrences.{unbound}
use Rattle.obq_model.specs.Procedures.{Proc, main_proc, proc_at}
use Rattle.obq_model.specs.Resolved.{AreResolved, code_at}
use Rattle.obq_model.specs.Skipped.{skipped}
use Rattle.obq_model.proofs.Tables.{is_table, tables_of}
use Rattle.obq_moves.specs.Store.{writer_of}
use Rattle.obq_scope.specs.Tabled as tabled
use Rattle.obq_windows.specs.Programs.{AreEnds, table_of}
use Rattle.obq_windows.specs.Values.{Table}
use Rattle.obq_windows.proofs.Openings.{programs_agree}

-- the tables of blocks, of which the first is of the source with this number
abbrev pub tables_from : ℕ → List Block → List (List Proc)
tables_from first [] = []
tables_from first (block ∷ blocks) = tabled.table_of first (block_tree block) ∷ tables_from (suc first) blocks

abbrev pub table_for : List Block → Table Ref
table_for blocks = table_of (proc_at (tables_from 0 blocks)) writer_of

abbrev resolved : (first : ℕ) (blocks : List Block) (parts : List SourceCode) → AreTabled first blocks parts → AreResolved first blocks parts
resolved first [] [] h = tt
resolved first (block ∷ blocks) (part ∷ parts) h = (h.0.0, resolved (suc first) blocks parts h.1)
resolved first [] (part ∷ parts) h = absurd h
resolved first (block ∷ blocks) [] h = absurd h

same_tables : (first : ℕ) (blocks : List Block) (parts : List SourceCode) (h : AreTabled first blocks parts) → tables_of first blocks parts (resolved first blocks parts h) ≡ tables_from first blocks
same_tables first [] [] h = refl
same_tables first (block ∷ blocks) (part ∷ parts) h =
    ap (λ (t : List Proc). t ∷ tables_of (suc first) blocks parts (resolved (suc first) blocks parts h.1)) h.0.1
    ∙ ap (λ (ts : List (List Proc)). tabled.table_of first (block_tree block) ∷ ts) (same_tables (suc first) blocks parts h.1)
same_tables first [] (part ∷ parts) h = absurd h
same_tables first (block ∷ blocks) [] h = absurd h

-- ---- where trees end

past : (nodes : List Node) (at : ℕ) → length nodes ≤ at → drop at nodes ≡ skipped 1 (drop at nodes)
past [] zero h = refl
past [] (suc at) h = refl
past (a ∷ nodes) zero h = absurd (omega (arith, h))
past (a ∷ nodes) (suc at) h = past nodes at (omega (arith, h))

ends_in : (nodes : List Node) (at : ℕ) → drop (end_in nodes at) nodes ≡ skipped 1 (drop at nodes)
ends_in nodes at = by (nat_lt at (length nodes)) refl
  where
    by : (b : Bool) → nat_lt at (length nodes) ≡ b → drop (if b then length nodes - passed 1 (length nodes - at) (lefts_of nodes) else at) nodes ≡ skipped 1 (drop at nodes)
    by true e = (ends_there nodes at).ends
    by false e = past nodes at (grind (arith, nat_tests, e))

are_ends : (parts : List SourceCode) → AreEnds parts (end_at parts)
are_ends parts = λ number at. ends_in (nodes_of (code_at parts number)) at

-- ---- each block's main code

record IsAt (blocks : List Block) (parts : List SourceCode) (k : ℕ) (tree : BlockTree) : Type 0 where
  block : Block
  part : SourceCode
  block_is : slice_get blocks k ≡ Some block
  tree_is : block_tree block ≡ tree
  part_is : slice_get parts k ≡ Some part
  bound : unbound tree ≡ []

at_source : (first : ℕ) (blocks : List Block) (parts : List SourceCode) → AreResolved first blocks parts → (k : ℕ) (tree : BlockTree) → slice_get (map block_tree blocks) k ≡ Some tree → IsAt blocks parts k tree
at_source first [] parts h k tree e = absurd cc
at_source first (b ∷ blocks) [] h k tree e = absurd h
at_source first (b ∷ blocks) (p ∷ parts) h zero tree e = first_one b p tree e h.0.bound
  where
    first_one : (b : Block) (p : SourceCode) (tree : BlockTree) → Some (block_tree b) ≡ Some tree → unbound (block_tree b) ≡ [] → IsAt (b ∷ blocks) (p ∷ parts) 0 tree
    first_one b p tree e bound =
        let same : block_tree b ≡ tree = cc in
        record { block = b; part = p; block_is = refl; tree_is = same; part_is = refl; bound = subst (λ t. unbound t ≡ []) same bound }
at_source first (b ∷ blocks) (p ∷ parts) h (suc k) tree e =
    let found = at_source (suc first) blocks parts h.1 k tree e in
    record { block = found.block; part = found.part; block_is = found.block_is; tree_is = found.tree_is; part_is = found.part_is; bound = found.bound }

-- the codes are those of the blocks
pub are_codes : (blocks : List Block) (parts : List SourceCode) → AreTabled 0 blocks parts → AreCodes parts (table_for blocks) (map block_tree blocks) parts
are_codes blocks parts h =
    let r = resolved 0 blocks parts h in
    let procs : CodeNo → Option Proc = proc_at (tables_from 0 blocks) in
    let t = subst (λ (ts : List (List Proc)). IsTable (proc_at ts) blocks parts) (same_tables 0 blocks parts h) (is_table blocks parts r) in
    record {
      same = refl;
      agrees = programs_agree procs blocks parts (end_at parts) writer_of t (are_ends parts);
      mains = λ source tree e.
          let found = at_source 0 blocks parts r source tree e in (
            found.part,
            found.part_is,
            record {
              procedure = t.main source found.block found.part found.block_is found.part_is ∙ ap (λ (x : BlockTree). Some (main_proc source x)) found.tree_is;
              bound = found.bound;
            },
          );
    }
