-- What is said of slots, of built-ins and exceptions row by row, and of the codes of a whole program.
use Rattle.std.specs.Prelude.{List, None, Option, Some, [], drop, false, length, map, slice_get, suc, ℕ, ◌++◌, ◌<◌, ◌∷◌, ◌≡◌}
use Rattle.obq_base.specs.declared.code.Code.{Code}
use Rattle.obq_base.specs.declared.code.CodeNo.{CodeNo}
use Rattle.obq_base.specs.declared.code.Node.{Node}
use Rattle.obq_base.specs.declared.code.Slot.{Slot}
use Rattle.obq_base.specs.declared.code.Slot.TheVariants as s
use Rattle.obq_base.specs.declared.code.SourceCode.{SourceCode}
use Rattle.obq_base.specs.declared.trees.Block.{Block}
use Rattle.obq_base.specs.View.{block_tree}
use Rattle.obq_model.specs.Terms.{Bytes, Exn, Raising, Term, Form}
use Rattle.obq_model.specs.Exceptions.{arity, array_index, array_limit, call_limit, closure_limit, compare_closure, exit_outside, field_missing, field_twice, fork_limit, int_divide, int_overflow, is_protected, not_method, not_serialized, not_value, not_variable, text_limit, text_range, wrong_type}
use Rattle.obq_model.specs.Procedures.{Proc, main_proc}
use Rattle.obq_model.specs.Resolved.{IsNumbered, code_at}
use Rattle.obq_model.specs.Put.{among}
use Rattle.obq_model.specs.Scopes.{Outside, is_covered}

-- the slot is one of the binders in force, of which there are so many, of the captures, of the members, or the source's writer
abbrev pub IsWithin : Outside → (locals : ℕ) → Slot → Type 0
IsWithin o locals (s.Local k) = k < locals
IsWithin o locals (s.Captured k) = k < length o.captured
IsWithin o locals (s.Member k) = k < length o.members
IsWithin o locals (s.Stdout source) = source ≡ o.source

-- the k-th of these names is this one, and no later one is
abbrev pub IsLast : ℕ → Bytes → List Bytes → Type 0
IsLast k x names = (slice_get names k ≡ Some x) × (among x (drop (suc k) names) ≡ false)

-- it is the innermost binder of this name: the last of the code's own, else of the group, else of the captures; and none covers the name
-- where it is the writer
abbrev pub IsInnermost : Outside → (locals : List Bytes) → Slot → Bytes → Type 0
IsInnermost o locals (s.Local k) x = IsLast k x locals
IsInnermost o locals (s.Member k) x = (among x locals ≡ false) × IsLast k x o.members
IsInnermost o locals (s.Captured k) x = (among x locals ≡ false) × (among x o.members ≡ false) × IsLast k x o.captured
IsInnermost o locals (s.Stdout source) x = is_covered o locals x ≡ false

-- the text that goes up
abbrev pub text_raised : Term ℕ → Bytes
text_raised (Form (Raising (Exn text)) parts) = text
text_raised t = []

-- the texts of the exceptions that the machine raises, in the order of the table
abbrev pub raised_texts : List Bytes
raised_texts =
    map text_raised (arity ∷ array_index ∷ array_limit ∷ call_limit ∷ closure_limit ∷ compare_closure ∷ [])
    ++ exit_outside ∷ map text_raised (field_missing ∷ field_twice ∷ fork_limit ∷ int_divide ∷ int_overflow ∷ not_method ∷ not_serialized ∷ not_value ∷ not_variable ∷ is_protected ∷ text_limit ∷ text_range ∷ wrong_type ∷ [])

-- the nodes of a code, none where there is no code
abbrev pub nodes_of : Option Code → List Node
nodes_of None = []
nodes_of (Some code) = code.nodes

-- a code stands under a number exactly where a procedure does, and is that procedure's
abbrev pub IsCodeAt : (CodeNo → Option Proc) → CodeNo → Option Code → Type 0
IsCodeAt procs number None = procs number ≡ None
IsCodeAt procs number (Some code) = (p : Proc) × IsNumbered procs number code p

-- the procedures of all codes of a program, where the main code of part k is that of block k
pub record IsTable (procs : CodeNo → Option Proc) (blocks : List Block) (parts : List SourceCode) : Type 0 where
  pub code : (number : CodeNo) → IsCodeAt procs number (code_at parts number)
  pub main : (k : ℕ) (block : Block) (part : SourceCode) → slice_get blocks k ≡ Some block → slice_get parts k ≡ Some part → procs part.main ≡ Some (main_proc k (block_tree block))
