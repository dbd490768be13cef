-- The node that a tree begins with. A procedure has its node behind its code.
use Rattle.std.specs.Prelude.{List, None, Option, Some, ℕ}
use Rattle.obq_base.specs.declared.code.Node.{Node}
use Rattle.obq_base.specs.declared.code.Node.TheVariants as n
use Rattle.obq_base.specs.Tree.{ItemTree, LetItem, VarItem, LetRecItem, AssignItem, FieldItem, IndexItem, PlainItem, ExprTree, IntTree, TextTree, TruthTree, OkTree, NameTree, ProcTree, ArrayTree, ObjectTree, IfTree, LoopTree, ExitTree, ForTree, ForeachTree, TryTree, FinallyTree, RaiseTree, WatchTree, RedirectTree, CloneTree, ChainTree, SuffixedTree, SuffixTree, ApplySuffix, SelectSuffix, InvokeSuffix, IndexSuffix, SuffixTrees}
use Rattle.obq_model.specs.Terms.{Bytes}
use Rattle.obq_model.specs.Draft.{behind_first, call_node, called_row, count_arms, count_binds, count_exprs, count_suffixes, field_names, has_block, operators_of}
use Rattle.obq_model.specs.Scopes.{Outside}
use Rattle.obq_scope.specs.declared.emitter.Emitter.{Emitter}
use Rattle.obq_scope.specs.Coded.{emitter_with}
use Rattle.obq_scope.specs.Narrowed.{found_slot, narrowed}

-- with this node, where there is one
abbrev pub with_head : Option Node → Emitter → Emitter
with_head None s = s
with_head (Some a) s = emitter_with a s

-- how many suffixes have nodes of their own
abbrev pub suffix_nodes : Option ℕ → SuffixTrees → ℕ
suffix_nodes None ss = narrowed (count_suffixes ss)
suffix_nodes (Some row) ss = narrowed (count_suffixes (behind_first ss))

abbrev pub item_head : Outside → List Bytes → ItemTree → Option Node
item_head o locals (LetItem bs place) = Some (n.Let (narrowed (count_binds bs)))
item_head o locals (VarItem bs place) = Some (n.Var (narrowed (count_binds bs)))
item_head o locals (LetRecItem bs place) = None
item_head o locals (AssignItem x e place) = Some (n.Assign (found_slot o locals x))
item_head o locals (FieldItem e x body place) = Some (n.SetField x)
item_head o locals (IndexItem a i e place) = Some n.SetItem
item_head o locals (PlainItem e) = None

abbrev pub expr_head : Outside → List Bytes → ExprTree → Option Node
expr_head o locals (IntTree z place) = Some (n.Int z)
expr_head o locals (TextTree t place) = Some (n.Str t)
expr_head o locals (TruthTree b place) = Some (n.Truth b)
expr_head o locals (OkTree place) = Some n.Okay
expr_head o locals (NameTree x place) = Some (n.Use (found_slot o locals x))
expr_head o locals (ProcTree p) = None
expr_head o locals (ArrayTree es place) = Some (n.Array (narrowed (count_exprs es)))
expr_head o locals (ObjectTree flags fs place) = Some (n.Object flags (field_names fs))
expr_head o locals (IfTree arms last place) = Some (n.If (narrowed (count_arms arms)) (has_block last))
expr_head o locals (LoopTree b place) = Some n.Loop
expr_head o locals (ExitTree place) = Some n.Exit
expr_head o locals (ForTree x first last b place) = Some n.For
expr_head o locals (ForeachTree x e b place) = Some n.Foreach
expr_head o locals (TryTree b arms last place) = Some (n.Try (narrowed (count_arms arms)) (has_block last))
expr_head o locals (FinallyTree b last place) = Some n.Finally
expr_head o locals (RaiseTree e place) = Some n.Raise
expr_head o locals (WatchTree c g place) = Some n.Watch
expr_head o locals (RedirectTree e p place) = Some n.Redirect
expr_head o locals (CloneTree es place) = Some (n.Clone (narrowed (count_exprs es)))
expr_head o locals (ChainTree e links) = Some (n.Chain (operators_of links))
expr_head o locals (SuffixedTree e ss) = Some (n.Suffixes (suffix_nodes (called_row o locals e ss) ss))

abbrev pub suffix_head : Option ℕ → SuffixTree → Option Node
suffix_head row (ApplySuffix es place) = Some (call_node row (narrowed (count_exprs es)))
suffix_head row (SelectSuffix x place) = Some (n.Select x)
suffix_head row (InvokeSuffix x es place) = Some (n.Invoke x (narrowed (count_exprs es)))
suffix_head row (IndexSuffix e place) = Some n.Index
