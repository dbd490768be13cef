-- What the codes of sources stand for.
use Rattle.std.specs.Prelude.{List, Option, Some, [], if◌then◌else◌, length, option_and_then, slice_get, suc, ℕ, ◌+◌, ◌++◌, ◌<◌, ◌==◌, ◌∷◌, ◌≡◌}
use Rattle.obq_base.specs.declared.code.Node.{Node}
use Rattle.obq_base.specs.declared.code.Node.TheVariants as n
use Rattle.obq_base.specs.declared.code.Code.{Code}
use Rattle.obq_base.specs.declared.code.CodeNo.{CodeNo}
use Rattle.obq_base.specs.declared.code.SourceCode.{SourceCode}
use Rattle.obq_base.specs.declared.trees.Block.{Block}
use Rattle.obq_base.specs.Tree.{BlockTree}
use Rattle.obq_base.specs.View.{block_tree}
use Rattle.obq_model.specs.Draft.{Draft, Done, Plain, Both, Closure, Method, Group, draft_block}
use Rattle.obq_model.specs.Occurrences.{unbound}
use Rattle.obq_model.specs.Procedures.{AreMembers, IsMade, Proc, main_proc, proc_in, procs_of}

-- the code with this number among sources' codes, where source k is the k-th
abbrev pub code_at : List SourceCode → CodeNo → Option Code
code_at parts number = option_and_then (λ part. slice_get part.codes number.n) (slice_get parts number.source)

-- The nodes begin with those of the draft, and the rest is left behind them. The codes of its procedures have numbers, under which stand
-- these very procedures.
abbrev pub IsCode : (CodeNo → Option Proc) → Draft → List Node → List Node → Type 0
IsCode procs Done nodes rest = nodes ≡ rest
IsCode procs (Plain a d) nodes rest = (x : List Node) × (nodes ≡ a ∷ x) × IsCode procs d x rest
IsCode procs (Both d e) nodes rest = (x : List Node) × IsCode procs d nodes x × IsCode procs e x rest
IsCode procs (Closure from u p body d) nodes rest =
    (number : CodeNo) × (x : List Node) × (nodes ≡ n.Proc number from ∷ x) × (procs number ≡ Some (proc_in u p [] 0)) × IsCode procs d x rest
IsCode procs (Method from u p body d) nodes rest =
    (number : CodeNo) × (x : List Node) × (nodes ≡ n.Meth number from ∷ x) × (procs number ≡ Some (proc_in u p [] 0)) × IsCode procs d x rest
IsCode procs (Group from u bs bodies d) nodes rest =
    (numbers : List CodeNo) × (x : List Node) × (nodes ≡ n.LetRec numbers from ∷ x) × AreMembers procs u numbers numbers 0 bs × IsCode procs d x rest

-- the code of a procedure: so many parameters and captured values, and the nodes of its body
pub record IsCodeOf (procs : CodeNo → Option Proc) (code : Code) (p : Proc) : Type 0 where
  pub params_are : code.params ≡ length p.params
  pub captures_are : code.captures ≡ length p.outside.captured
  pub reads : IsCode procs (draft_block p.outside p.params p.body) code.nodes []

-- a code under its number, with its procedure
pub record IsNumbered (procs : CodeNo → Option Proc) (number : CodeNo) (code : Code) (p : Proc) : Type 0 where
  pub proc_is : procs number ≡ Some p
  pub code_is : IsCodeOf procs code p
  pub made : IsMade procs number p

-- codes of a source, from the one with this number on, with their procedures
abbrev pub AreCodes : (CodeNo → Option Proc) → (source first : ℕ) → List Code → List Proc → Type 0
AreCodes procs source first [] [] = Unit {0}
AreCodes procs source first (code ∷ codes) (p ∷ ps) = IsNumbered procs (record { source = source; n = first }) code p × AreCodes procs source (suc first) codes ps
AreCodes procs source first [] (p ∷ ps) = ⊥
AreCodes procs source first (code ∷ codes) [] = ⊥

-- ---- each code is used once

-- the numbers of codes that a node has
abbrev pub numbers_of : Node → List CodeNo
numbers_of (n.LetRec codes from) = codes
numbers_of (n.Proc code from) = code ∷ []
numbers_of (n.Meth code from) = code ∷ []
numbers_of a = []

abbrev pub numbers_in : List Node → List CodeNo
numbers_in [] = []
numbers_in (a ∷ x) = numbers_of a ++ numbers_in x

-- those that the nodes of all these codes have
abbrev pub all_numbers : List Code → List CodeNo
all_numbers [] = []
all_numbers (code ∷ codes) = numbers_in code.nodes ++ all_numbers codes

-- how often a code's place in its source is among numbers
abbrev pub times : ℕ → List CodeNo → ℕ
times k [] = 0
times k (number ∷ numbers) = (if number.n == k then 1 else 0) + times k numbers

-- The block has no unbound name. A table has the procedure of each code; under the number of the main code stands the block. Each number is
-- the main code's or stands at one node of all codes, and at no other: no two procedures share a code, and no code is left over.
pub record Resolves (source : ℕ) (tree : BlockTree) (made : SourceCode) : Type 0 where
  pub bound : unbound tree ≡ []
  pub source_is : made.source ≡ source
  pub table : List Proc
  pub main : procs_of source table made.main ≡ Some (main_proc source tree)
  pub codes : AreCodes (procs_of source table) source 0 made.codes table
  pub once : (k : ℕ) → k < length made.codes → times k (made.main ∷ all_numbers made.codes) ≡ 1

-- the parts are the codes of these blocks, in order, where the first is of the source with this number
abbrev pub AreResolved : ℕ → List Block → List SourceCode → Type 0
AreResolved source [] [] = Unit {0}
AreResolved source (block ∷ blocks) (part ∷ parts) = Resolves source (block_tree block) part × AreResolved (suc source) blocks parts
AreResolved source [] (part ∷ parts) = ⊥
AreResolved source (block ∷ blocks) [] = ⊥
