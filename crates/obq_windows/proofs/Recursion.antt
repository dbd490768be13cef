-- A window that runs `let rec f := proc(n) if n is 0 then 5 else f(n - 1) end end f(2)`: a member calls itself by its group, and the run
-- computes to the steps of the opening.
use Rattle.std.specs.Prelude.{List, Some, [], drop, length, pos, refl, true, ℕ, ◌-◌, ◌∷◌, ◌≡◌}
use Rattle.obq_base.specs.declared.code.Node.TheVariants as n
use Rattle.obq_base.specs.declared.code.Slot.TheVariants as s
use Rattle.obq_base.specs.Tree.{ABlock, ALink, AProc, ARecBind, ASuffix, AnArm, AnExpr, AnItem, ApplySuffix, BlockOf, BlockTree, ChainTree, ExprTree, IfTree, IntTree, LetRecItem, NameTree, NoArms, NoExprs, NoItems, NoLinks, NoRecBinds, NoSuffixes, PlainItem, SuffixedTree}
use Rattle.obq_base.specs.declared.code.CodeNo.{CodeNo}
use Rattle.obq_base.specs.declared.code.Node.{Node}
use Rattle.obq_base.specs.declared.code.SourceCode.{SourceCode}
use Rattle.obq_base.specs.declared.trees.Operator.{Operator}
use Rattle.obq_model.specs.CodeLaws.{nodes_of}
use Rattle.obq_model.specs.Opening.{block_term}
use Rattle.obq_model.specs.Resolved.{code_at}
use Rattle.obq_model.specs.Skipped.{skipped}
use Rattle.obq_model.specs.Step.{no_self}
use Rattle.obq_model.specs.Store.{same_loc}
use Rattle.obq_model.specs.Terms.{Bytes, Const, Int}
use Rattle.obq_windows.specs.Programs.{store_of}
use Rattle.obq_windows.specs.Runs.{AtBottom, Ran, pure_steps, run_nodes}
use Rattle.obq_windows.specs.Values.{IntValue, NoValues, no_origin}
use Rattle.obq_windows.specs.Windows.{NodeRun, NodeValue, Store, activation_of}

name_f : Bytes
name_f = 102 ∷ []

name_n : Bytes
name_n = 110 ∷ []

-- f with one argument
called : ExprTree → ExprTree
unfolding name_f
called e = SuffixedTree (NameTree name_f 0) (ASuffix (ApplySuffix (AnExpr e NoExprs) 0) NoSuffixes)

body : BlockTree
unfolding name_n called
body =
    BlockOf (AnItem (PlainItem (IfTree (AnArm (ChainTree (NameTree name_n 0) (ALink Operator.Is (IntTree (pos 0) 0) 0 NoLinks)) (BlockOf (AnItem (PlainItem (IntTree (pos 5) 0)) NoItems) 0) NoArms)
    (ABlock (BlockOf (AnItem (PlainItem (called (ChainTree (NameTree name_n 0) (ALink Operator.Subtract (IntTree (pos 1) 0) 0 NoLinks)))) NoItems) 0)) 0)) NoItems) 0

tree : BlockTree
unfolding name_f name_n called body
tree = BlockOf (AnItem (LetRecItem (ARecBind name_f (AProc (name_n ∷ []) body 0) 0 NoRecBinds) 0) (AnItem (PlainItem (called (IntTree (pos 2) 0))) NoItems)) 0

number_of_f : CodeNo
number_of_f = record { source = 0; n = 1 }

main_nodes : List Node
unfolding number_of_f
main_nodes = n.Block 2 ∷ n.LetRec (number_of_f ∷ []) [] ∷ n.Suffixes 1 ∷ n.Use (s.Local 0) ∷ n.Apply 1 ∷ n.Int (pos 2) ∷ []

body_nodes : List Node
body_nodes =
    n.Block 1 ∷ n.If 1 true ∷ n.Chain (Operator.Is ∷ []) ∷ n.Use (s.Local 0) ∷ n.Int (pos 0) ∷ n.Block 1 ∷ n.Int (pos 5) ∷ n.Block 1 ∷ n.Suffixes 1 ∷ n.Use (s.Member 0) ∷ n.Apply 1
    ∷ n.Chain (Operator.Subtract ∷ []) ∷ n.Use (s.Local 0) ∷ n.Int (pos 1) ∷ []

parts : List SourceCode
unfolding main_nodes body_nodes
parts =
    record {
      source = 0;
      main = record { source = 0; n = 0 };
      codes = record { params = 0; captures = 0; nodes = main_nodes } ∷ record { params = 1; captures = 0; nodes = body_nodes } ∷ [];
    } ∷ []

store : Store ℕ
unfolding parts main_nodes body_nodes number_of_f
store = store_of parts (λ number at. length (nodes_of (code_at parts number)) - length (skipped 1 (drop at (nodes_of (code_at parts number))))) (λ source. source)

ran : Ran ℕ
unfolding store parts main_nodes body_nodes number_of_f
ran = run_nodes same_loc store 0 no_self 0 100 0 (activation_of (record { source = 0; n = 0 }) no_origin 0 [] NoValues []) [] (NodeRun 0 0)

bottom : ran.stop ≡ AtBottom
unfolding ran store parts main_nodes body_nodes number_of_f
bottom = refl

five : ran.focus ≡ NodeValue (IntValue (pos 5))
unfolding ran store parts main_nodes body_nodes number_of_f
five = refl

-- the opening is that value after as many pure steps
opened : pure_steps same_loc 0 no_self ran.steps (block_term 0 [] tree) ≡ Some (Const (Int (pos 5)))
unfolding ran store parts main_nodes body_nodes number_of_f tree body called name_f name_n
opened = refl
