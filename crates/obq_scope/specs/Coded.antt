-- What a tree adds to the codes and nodes, where the names that its procedures capture lie ahead.
use Rattle.std.specs.Prelude.{List, None, Option, Some, [], filter, length, ℕ, ◌++◌, ◌∷◌}
use Rattle.obq_base.specs.declared.code.CodeNo.{CodeNo}
use Rattle.obq_base.specs.declared.code.Node.{Node}
use Rattle.obq_base.specs.declared.code.Node.TheVariants as n
use Rattle.obq_base.specs.Tree.{BlockTree, BlockOf, MaybeBlock, NoBlock, ABlock, ItemTrees, NoItems, AnItem, ItemTree, LetItem, VarItem, LetRecItem, AssignItem, FieldItem, IndexItem, PlainItem, BindTrees, NoBinds, ABind, RecBindTrees, NoRecBinds, ARecBind, ProcedureTree, AProc, FieldTree, ValueOf, MethodOf, AliasOf, ExprTree, IntTree, TextTree, TruthTree, OkTree, NameTree, ProcTree, ArrayTree, ObjectTree, IfTree, LoopTree, ExitTree, ForTree, ForeachTree, TryTree, FinallyTree, RaiseTree, WatchTree, RedirectTree, CloneTree, ChainTree, SuffixedTree, ExprTrees, NoExprs, AnExpr, LinkTrees, NoLinks, ALink, SuffixTree, ApplySuffix, SelectSuffix, InvokeSuffix, IndexSuffix, SuffixTrees, NoSuffixes, ASuffix, ArmTrees, NoArms, AnArm, FieldTrees, NoFields, AField}
use Rattle.obq_model.specs.Terms.{Bytes}
use Rattle.obq_model.specs.Draft.{behind_first, call_node, called_row, count_arms, count_binds, count_exprs, count_items, count_params, count_suffixes, field_names, has_block, operators_of}
use Rattle.obq_model.specs.Occurrences.{item_names, member_names}
use Rattle.obq_model.specs.Scopes.{Outside, inside, is_covered}
use Rattle.obq_scope.specs.declared.emitter.Emitter.{Emitter}
use Rattle.obq_scope.specs.Emitted.{closed, opened, with_node}
use Rattle.obq_scope.specs.Narrowed.{found_slot, found_slots, narrowed, numbered}

-- the first of these lists
abbrev pub first_of : List (List Bytes) → List Bytes
first_of [] = []
first_of (names ∷ lists) = names

-- those behind it
abbrev pub behind : List (List Bytes) → List (List Bytes)
behind [] = []
behind (names ∷ lists) = lists

-- one more node
abbrev pub emitter_with : Node → Emitter → Emitter
emitter_with a s = record { output = with_node a s.output; ahead = s.ahead }

-- what the procedure that begins captures
abbrev pub captured : Outside → List Bytes → Emitter → List Bytes
captured o locals s = filter (is_covered o locals) (first_of s.ahead)

-- its code is begun
abbrev pub begun : Emitter → Emitter
begun s = record { output = opened s.output; ahead = behind s.ahead }

-- what the procedures of the `let rec` that begins capture
abbrev pub past_captures : Emitter → Emitter
past_captures s = record { output = s.output; ahead = behind s.ahead }

-- a further code is begun, of a member of a `let rec`
abbrev pub inner : Emitter → Emitter
inner s = record { output = opened s.output; ahead = s.ahead }

-- that code is whole, and these are again the nodes of the one around it
abbrev pub whole : (captures params : ℕ) → List Node → Emitter → Emitter
whole captures params nodes s = record { output = closed captures params nodes s.output; ahead = s.ahead }

abbrev mutual
  pub coded_block : Outside → List Bytes → BlockTree → Emitter → Emitter
  coded_block o locals (BlockOf is place) s = coded_items o locals is (emitter_with (n.Block (narrowed (count_items is))) s)

  pub coded_maybe : Outside → List Bytes → MaybeBlock → Emitter → Emitter
  coded_maybe o locals NoBlock s = s
  coded_maybe o locals (ABlock b) s = coded_block o locals b s

  pub coded_items : Outside → List Bytes → ItemTrees → Emitter → Emitter
  coded_items o locals NoItems s = s
  coded_items o locals (AnItem i is) s = coded_items o (locals ++ item_names i) is (coded_item o locals i s)

  pub coded_item : Outside → List Bytes → ItemTree → Emitter → Emitter
  coded_item o locals (LetItem bs place) s = coded_binds o locals bs (emitter_with (n.Let (narrowed (count_binds bs))) s)
  coded_item o locals (VarItem bs place) s = coded_binds o locals bs (emitter_with (n.Var (narrowed (count_binds bs))) s)
  coded_item o locals (LetRecItem bs place) s =
      emitter_with (n.LetRec (coded_numbers (inside o (member_names bs) (captured o locals s)) bs (past_captures s)) (found_slots o locals (captured o locals s)))
      (coded_members (inside o (member_names bs) (captured o locals s)) bs (past_captures s))
  coded_item o locals (AssignItem x e place) s = coded_expr o locals e (emitter_with (n.Assign (found_slot o locals x)) s)
  coded_item o locals (FieldItem e x body place) s = coded_field o locals body (coded_expr o locals e (emitter_with (n.SetField x) s))
  coded_item o locals (IndexItem a i e place) s = coded_expr o locals e (coded_expr o locals i (coded_expr o locals a (emitter_with n.SetItem s)))
  coded_item o locals (PlainItem e) s = coded_expr o locals e s

  pub coded_binds : Outside → List Bytes → BindTrees → Emitter → Emitter
  coded_binds o locals NoBinds s = s
  coded_binds o locals (ABind x e place bs) s = coded_binds o (locals ++ x ∷ []) bs (coded_expr o locals e s)

  pub coded_members : Outside → RecBindTrees → Emitter → Emitter
  coded_members o NoRecBinds s = s
  coded_members o (ARecBind x p place bs) s = coded_members o bs (whole (narrowed (length o.captured)) (narrowed (count_params p)) s.output.nodes (coded_body o p (inner s)))

  -- the numbers of the members' codes
  pub coded_numbers : Outside → RecBindTrees → Emitter → List CodeNo
  coded_numbers o NoRecBinds s = []
  coded_numbers o (ARecBind x p place bs) s =
      numbered o.source (coded_body o p (inner s)).output ∷ coded_numbers o bs (whole (narrowed (length o.captured)) (narrowed (count_params p)) s.output.nodes (coded_body o p (inner s)))

  -- the codes inside a procedure's body, and its nodes
  pub coded_body : Outside → ProcedureTree → Emitter → Emitter
  coded_body o (AProc params b place) s = coded_block o params b s

  pub coded_field : Outside → List Bytes → FieldTree → Emitter → Emitter
  coded_field o locals (ValueOf e) s = coded_expr o locals e s
  coded_field o locals (MethodOf p) s =
      emitter_with (n.Meth (numbered o.source (coded_body (inside o [] (captured o locals s)) p (begun s)).output) (found_slots o locals (captured o locals s)))
      (whole (narrowed (length (captured o locals s))) (narrowed (count_params p)) s.output.nodes (coded_body (inside o [] (captured o locals s)) p (begun s)))
  coded_field o locals (AliasOf x e place) s = coded_expr o locals e (emitter_with (n.Alias x) s)

  pub coded_expr : Outside → List Bytes → ExprTree → Emitter → Emitter
  coded_expr o locals (IntTree z place) s = emitter_with (n.Int z) s
  coded_expr o locals (TextTree t place) s = emitter_with (n.Str t) s
  coded_expr o locals (TruthTree b place) s = emitter_with (n.Truth b) s
  coded_expr o locals (OkTree place) s = emitter_with n.Okay s
  coded_expr o locals (NameTree x place) s = emitter_with (n.Use (found_slot o locals x)) s
  coded_expr o locals (ProcTree p) s =
      emitter_with (n.Proc (numbered o.source (coded_body (inside o [] (captured o locals s)) p (begun s)).output) (found_slots o locals (captured o locals s)))
      (whole (narrowed (length (captured o locals s))) (narrowed (count_params p)) s.output.nodes (coded_body (inside o [] (captured o locals s)) p (begun s)))
  coded_expr o locals (ArrayTree es place) s = coded_exprs o locals es (emitter_with (n.Array (narrowed (count_exprs es))) s)
  coded_expr o locals (ObjectTree flags fs place) s = coded_fields o locals fs (emitter_with (n.Object flags (field_names fs)) s)
  coded_expr o locals (IfTree arms last place) s = coded_maybe o locals last (coded_arms o locals arms (emitter_with (n.If (narrowed (count_arms arms)) (has_block last)) s))
  coded_expr o locals (LoopTree b place) s = coded_block o locals b (emitter_with n.Loop s)
  coded_expr o locals (ExitTree place) s = emitter_with n.Exit s
  coded_expr o locals (ForTree x first last b place) s = coded_block o (locals ++ x ∷ []) b (coded_expr o locals last (coded_expr o locals first (emitter_with n.For s)))
  coded_expr o locals (ForeachTree x e b place) s = coded_block o (locals ++ x ∷ []) b (coded_expr o locals e (emitter_with n.Foreach s))
  coded_expr o locals (TryTree b arms last place) s =
      coded_maybe o locals last (coded_arms o locals arms (coded_block o locals b (emitter_with (n.Try (narrowed (count_arms arms)) (has_block last)) s)))
  coded_expr o locals (FinallyTree b last place) s = coded_block o locals last (coded_block o locals b (emitter_with n.Finally s))
  coded_expr o locals (RaiseTree e place) s = coded_expr o locals e (emitter_with n.Raise s)
  coded_expr o locals (WatchTree c g place) s = coded_expr o locals g (coded_expr o locals c (emitter_with n.Watch s))
  coded_expr o locals (RedirectTree e p place) s = coded_expr o locals p (coded_expr o locals e (emitter_with n.Redirect s))
  coded_expr o locals (CloneTree es place) s = coded_exprs o locals es (emitter_with (n.Clone (narrowed (count_exprs es))) s)
  coded_expr o locals (ChainTree e links) s = coded_links o locals links (coded_expr o locals e (emitter_with (n.Chain (operators_of links)) s))
  coded_expr o locals (SuffixedTree e ss) s =
      elim (called_row o locals e ss) [
        | None ↦ coded_suffixes o locals None ss (coded_expr o locals e (emitter_with (n.Suffixes (narrowed (count_suffixes ss))) s))
        | Some row ↦ coded_suffixes o locals (Some row) ss (emitter_with (n.Suffixes (narrowed (count_suffixes (behind_first ss)))) s)
      ]

  pub coded_exprs : Outside → List Bytes → ExprTrees → Emitter → Emitter
  coded_exprs o locals NoExprs s = s
  coded_exprs o locals (AnExpr e es) s = coded_exprs o locals es (coded_expr o locals e s)

  pub coded_links : Outside → List Bytes → LinkTrees → Emitter → Emitter
  coded_links o locals NoLinks s = s
  coded_links o locals (ALink op e place links) s = coded_links o locals links (coded_expr o locals e s)

  -- the row is that of the built-in that the suffix calls, if it calls one
  pub coded_suffix : Outside → List Bytes → Option ℕ → SuffixTree → Emitter → Emitter
  coded_suffix o locals row (ApplySuffix es place) s = coded_exprs o locals es (emitter_with (call_node row (narrowed (count_exprs es))) s)
  coded_suffix o locals row (SelectSuffix x place) s = emitter_with (n.Select x) s
  coded_suffix o locals row (InvokeSuffix x es place) s = coded_exprs o locals es (emitter_with (n.Invoke x (narrowed (count_exprs es))) s)
  coded_suffix o locals row (IndexSuffix e place) s = coded_expr o locals e (emitter_with n.Index s)

  pub coded_suffixes : Outside → List Bytes → Option ℕ → SuffixTrees → Emitter → Emitter
  coded_suffixes o locals row NoSuffixes s = s
  coded_suffixes o locals row (ASuffix x ss) s = coded_suffixes o locals None ss (coded_suffix o locals row x s)

  pub coded_arms : Outside → List Bytes → ArmTrees → Emitter → Emitter
  coded_arms o locals NoArms s = s
  coded_arms o locals (AnArm e b arms) s = coded_arms o locals arms (coded_block o locals b (coded_expr o locals e s))

  pub coded_fields : Outside → List Bytes → FieldTrees → Emitter → Emitter
  coded_fields o locals NoFields s = s
  coded_fields o locals (AField x body place fs) s = coded_fields o locals fs (coded_field o locals body s)

-- the parts of a `for` or `foreach`
abbrev pub for_parts : Outside → List Bytes → ExprTree → Emitter → Emitter
for_parts o locals (ForTree x first last b place) s = coded_block o (locals ++ x ∷ []) b (coded_expr o locals last (coded_expr o locals first s))
for_parts o locals (ForeachTree x e b place) s = coded_block o (locals ++ x ∷ []) b (coded_expr o locals e s)
for_parts o locals e s = s

-- the parts of an expression that has blocks
abbrev pub control_parts : Outside → List Bytes → ExprTree → Emitter → Emitter
control_parts o locals (IfTree arms last place) s = coded_maybe o locals last (coded_arms o locals arms s)
control_parts o locals (LoopTree b place) s = coded_block o locals b s
control_parts o locals (TryTree b arms last place) s = coded_maybe o locals last (coded_arms o locals arms (coded_block o locals b s))
control_parts o locals (FinallyTree b last place) s = coded_block o locals last (coded_block o locals b s)
control_parts o locals e s = for_parts o locals e s

-- a `let rec`
abbrev pub coded_group : Outside → List Bytes → RecBindTrees → Emitter → Emitter
coded_group o locals bs s =
    emitter_with (n.LetRec (coded_numbers (inside o (member_names bs) (captured o locals s)) bs (past_captures s)) (found_slots o locals (captured o locals s)))
    (coded_members (inside o (member_names bs) (captured o locals s)) bs (past_captures s))

-- the codes of a procedure and of those inside it
abbrev pub coded_procedure : Outside → List Bytes → ProcedureTree → Emitter → Emitter
coded_procedure o locals p s = whole (narrowed (length (captured o locals s))) (narrowed (count_params p)) s.output.nodes (coded_body (inside o [] (captured o locals s)) p (begun s))

-- the number of its code
abbrev pub procedure_number : Outside → List Bytes → ProcedureTree → Emitter → CodeNo
procedure_number o locals p s = numbered o.source (coded_body (inside o [] (captured o locals s)) p (begun s)).output

-- a procedure
abbrev pub coded_closure : Outside → List Bytes → ProcedureTree → Emitter → Emitter
coded_closure o locals p s = emitter_with (n.Proc (procedure_number o locals p s) (found_slots o locals (captured o locals s))) (coded_procedure o locals p s)

-- a method
abbrev pub coded_method : Outside → List Bytes → ProcedureTree → Emitter → Emitter
coded_method o locals p s = emitter_with (n.Meth (procedure_number o locals p s) (found_slots o locals (captured o locals s))) (coded_procedure o locals p s)
