-- The code of a tree before its procedures have numbers: its nodes in preorder. Beside the node of a procedure stand what its code knows,
-- its tree and the draft of its body.
use Rattle.std.specs.Prelude.{Bool, List, None, Option, Some, [], false, if◌then◌else◌, length, suc, true, ℕ, ◌++◌, ◌∷◌}
use Rattle.obq_base.specs.declared.trees.Operator.{Operator}
use Rattle.obq_base.specs.declared.code.Slot.{Slot}
use Rattle.obq_base.specs.declared.code.Node.{Node}
use Rattle.obq_base.specs.declared.code.Node.TheVariants as n
use Rattle.obq_base.specs.Tree.{BlockTree, BlockOf, MaybeBlock, NoBlock, ABlock, ItemTrees, NoItems, AnItem, ItemTree, LetItem, VarItem, LetRecItem, AssignItem, FieldItem, IndexItem, PlainItem, BindTrees, NoBinds, ABind, RecBindTrees, NoRecBinds, ARecBind, ProcedureTree, AProc, FieldTree, ValueOf, MethodOf, AliasOf, ExprTree, IntTree, TextTree, TruthTree, OkTree, NameTree, ProcTree, ArrayTree, ObjectTree, IfTree, LoopTree, ExitTree, ForTree, ForeachTree, TryTree, FinallyTree, RaiseTree, WatchTree, RedirectTree, CloneTree, ChainTree, SuffixedTree, ExprTrees, NoExprs, AnExpr, LinkTrees, NoLinks, ALink, SuffixTree, ApplySuffix, SelectSuffix, InvokeSuffix, IndexSuffix, SuffixTrees, NoSuffixes, ASuffix, ArmTrees, NoArms, AnArm, FieldTrees, NoFields, AField}
use Rattle.obq_model.specs.Terms.{Bytes}
use Rattle.obq_model.specs.Occurrences.{builtin_row, free_members, free_procedure, item_names, member_names}
use Rattle.obq_model.specs.Scopes.{Outside, captured_of, inside, is_covered, slot_of, slots_of}

mutual
  pub data Draft : Type 0 where
    Done : Draft
    Plain : Node → Draft → Draft
    -- one behind the other
    Both : Draft → Draft → Draft
    -- the slots that are captured, what the code knows, its tree, and the draft of its body; and what follows
    Closure : List Slot → Outside → ProcedureTree → (body : Draft) → Draft → Draft
    Method : List Slot → Outside → ProcedureTree → (body : Draft) → Draft → Draft
    -- the members' codes know the same
    Group : List Slot → Outside → RecBindTrees → Members → Draft → Draft

  -- the drafts of the bodies
  pub data Members : Type 0 where
    NoMembers : Members
    AMember : (body : Draft) → Members → Members

-- how many there are
abbrev pub count_items : ItemTrees → ℕ
count_items NoItems = 0
count_items (AnItem i is) = suc (count_items is)

abbrev pub count_binds : BindTrees → ℕ
count_binds NoBinds = 0
count_binds (ABind x e place bs) = suc (count_binds bs)

abbrev pub count_exprs : ExprTrees → ℕ
count_exprs NoExprs = 0
count_exprs (AnExpr e es) = suc (count_exprs es)

abbrev pub count_arms : ArmTrees → ℕ
count_arms NoArms = 0
count_arms (AnArm e b arms) = suc (count_arms arms)

abbrev pub count_suffixes : SuffixTrees → ℕ
count_suffixes NoSuffixes = 0
count_suffixes (ASuffix s ss) = suc (count_suffixes ss)

-- the operators of a chain
abbrev pub operators_of : LinkTrees → List Operator
operators_of NoLinks = []
operators_of (ALink op e place links) = op ∷ operators_of links

-- the names of an object literal's fields
abbrev pub field_names : FieldTrees → List Bytes
field_names NoFields = []
field_names (AField x body place fs) = x ∷ field_names fs

-- a block is there
abbrev pub has_block : MaybeBlock → Bool
has_block NoBlock = false
has_block (ABlock b) = true

-- the suffixes behind the first
abbrev pub behind_first : SuffixTrees → SuffixTrees
behind_first NoSuffixes = NoSuffixes
behind_first (ASuffix s ss) = ss

-- the row of the built-in that a call of this name calls
abbrev pub row_of_called : Outside → List Bytes → Bytes → Option ℕ
row_of_called o locals x = if is_covered o locals x then None else builtin_row x

-- the row of the built-in that such a head and suffixes call
abbrev pub called_row : Outside → List Bytes → ExprTree → SuffixTrees → Option ℕ
called_row o locals (NameTree x place) (ASuffix (ApplySuffix es place2) ss) = row_of_called o locals x
called_row o locals e ss = None

-- a call with so many arguments, of a built-in or of what stands before it
abbrev pub call_node : Option ℕ → ℕ → Node
call_node None args = n.Apply args
call_node (Some row) args = n.Builtin row args

-- the parameters of a procedure, and its body
abbrev pub params_of : ProcedureTree → List Bytes
params_of (AProc params b place) = params

abbrev pub body_of : ProcedureTree → BlockTree
body_of (AProc params b place) = b

-- how many parameters it has
abbrev pub count_params : ProcedureTree → ℕ
count_params p = length (params_of p)

-- the names that a procedure captures
abbrev pub captured_by : Outside → List Bytes → ProcedureTree → List Bytes
captured_by o locals p = captured_of o locals (free_procedure [] p)

-- the names that the procedures of a `let rec` capture
abbrev pub captured_by_group : Outside → List Bytes → RecBindTrees → List Bytes
captured_by_group o locals bs = captured_of o locals (free_members (member_names bs) bs)

-- the draft of a tree under the code's own binders
abbrev mutual
  pub draft_block : Outside → List Bytes → BlockTree → Draft
  draft_block o locals (BlockOf is place) = Plain (n.Block (count_items is)) (draft_items o locals is)

  pub draft_maybe : Outside → List Bytes → MaybeBlock → Draft
  draft_maybe o locals NoBlock = Done
  draft_maybe o locals (ABlock b) = draft_block o locals b

  pub draft_items : Outside → List Bytes → ItemTrees → Draft
  draft_items o locals NoItems = Done
  draft_items o locals (AnItem i is) = Both (draft_item o locals i) (draft_items o (locals ++ item_names i) is)

  pub draft_item : Outside → List Bytes → ItemTree → Draft
  draft_item o locals (LetItem bs place) = Plain (n.Let (count_binds bs)) (draft_binds o locals bs)
  draft_item o locals (VarItem bs place) = Plain (n.Var (count_binds bs)) (draft_binds o locals bs)
  draft_item o locals (LetRecItem bs place) =
      Group (slots_of o locals (captured_by_group o locals bs)) (inside o (member_names bs) (captured_by_group o locals bs)) bs
      (draft_members (inside o (member_names bs) (captured_by_group o locals bs)) bs) Done
  draft_item o locals (AssignItem x e place) = Plain (n.Assign (slot_of o locals x)) (draft_expr o locals e)
  draft_item o locals (FieldItem e x body place) = Plain (n.SetField x) (Both (draft_expr o locals e) (draft_field o locals body))
  draft_item o locals (IndexItem a i e place) = Plain n.SetItem (Both (draft_expr o locals a) (Both (draft_expr o locals i) (draft_expr o locals e)))
  draft_item o locals (PlainItem e) = draft_expr o locals e

  pub draft_binds : Outside → List Bytes → BindTrees → Draft
  draft_binds o locals NoBinds = Done
  draft_binds o locals (ABind x e place bs) = Both (draft_expr o locals e) (draft_binds o (locals ++ x ∷ []) bs)

  pub draft_members : Outside → RecBindTrees → Members
  draft_members o NoRecBinds = NoMembers
  draft_members o (ARecBind x p place bs) = AMember (draft_body o p) (draft_members o bs)

  pub draft_body : Outside → ProcedureTree → Draft
  draft_body o (AProc params b place) = draft_block o params b

  pub draft_field : Outside → List Bytes → FieldTree → Draft
  draft_field o locals (ValueOf e) = draft_expr o locals e
  draft_field o locals (MethodOf p) =
      Method (slots_of o locals (captured_by o locals p)) (inside o [] (captured_by o locals p)) p (draft_body (inside o [] (captured_by o locals p)) p) Done
  draft_field o locals (AliasOf x e place) = Plain (n.Alias x) (draft_expr o locals e)

  pub draft_expr : Outside → List Bytes → ExprTree → Draft
  draft_expr o locals (IntTree z place) = Plain (n.Int z) Done
  draft_expr o locals (TextTree t place) = Plain (n.Str t) Done
  draft_expr o locals (TruthTree b place) = Plain (n.Truth b) Done
  draft_expr o locals (OkTree place) = Plain n.Okay Done
  draft_expr o locals (NameTree x place) = Plain (n.Use (slot_of o locals x)) Done
  draft_expr o locals (ProcTree p) =
      Closure (slots_of o locals (captured_by o locals p)) (inside o [] (captured_by o locals p)) p (draft_body (inside o [] (captured_by o locals p)) p) Done
  draft_expr o locals (ArrayTree es place) = Plain (n.Array (count_exprs es)) (draft_exprs o locals es)
  draft_expr o locals (ObjectTree flags fs place) = Plain (n.Object flags (field_names fs)) (draft_fields o locals fs)
  draft_expr o locals (IfTree arms last place) = Plain (n.If (count_arms arms) (has_block last)) (Both (draft_arms o locals arms) (draft_maybe o locals last))
  draft_expr o locals (LoopTree b place) = Plain n.Loop (draft_block o locals b)
  draft_expr o locals (ExitTree place) = Plain n.Exit Done
  draft_expr o locals (ForTree x first last b place) =
      Plain n.For (Both (draft_expr o locals first) (Both (draft_expr o locals last) (draft_block o (locals ++ x ∷ []) b)))
  draft_expr o locals (ForeachTree x e b place) = Plain n.Foreach (Both (draft_expr o locals e) (draft_block o (locals ++ x ∷ []) b))
  draft_expr o locals (TryTree b arms last place) =
      Plain (n.Try (count_arms arms) (has_block last)) (Both (draft_block o locals b) (Both (draft_arms o locals arms) (draft_maybe o locals last)))
  draft_expr o locals (FinallyTree b last place) = Plain n.Finally (Both (draft_block o locals b) (draft_block o locals last))
  draft_expr o locals (RaiseTree e place) = Plain n.Raise (draft_expr o locals e)
  draft_expr o locals (WatchTree c g place) = Plain n.Watch (Both (draft_expr o locals c) (draft_expr o locals g))
  draft_expr o locals (RedirectTree e p place) = Plain n.Redirect (Both (draft_expr o locals e) (draft_expr o locals p))
  draft_expr o locals (CloneTree es place) = Plain (n.Clone (count_exprs es)) (draft_exprs o locals es)
  draft_expr o locals (ChainTree e links) = Plain (n.Chain (operators_of links)) (Both (draft_expr o locals e) (draft_links o locals links))
  draft_expr o locals (SuffixedTree e ss) =
      elim (called_row o locals e ss) [
        | None ↦ Plain (n.Suffixes (count_suffixes ss)) (Both (draft_expr o locals e) (draft_suffixes o locals None ss))
        | Some row ↦ Plain (n.Suffixes (count_suffixes (behind_first ss))) (draft_suffixes o locals (Some row) ss)
      ]

  pub draft_exprs : Outside → List Bytes → ExprTrees → Draft
  draft_exprs o locals NoExprs = Done
  draft_exprs o locals (AnExpr e es) = Both (draft_expr o locals e) (draft_exprs o locals es)

  pub draft_links : Outside → List Bytes → LinkTrees → Draft
  draft_links o locals NoLinks = Done
  draft_links o locals (ALink op e place links) = Both (draft_expr o locals e) (draft_links o locals links)

  -- the row is that of the built-in that the first suffix calls, if it calls one
  pub draft_suffix : Outside → List Bytes → Option ℕ → SuffixTree → Draft
  draft_suffix o locals row (ApplySuffix es place) = Plain (call_node row (count_exprs es)) (draft_exprs o locals es)
  draft_suffix o locals row (SelectSuffix x place) = Plain (n.Select x) Done
  draft_suffix o locals row (InvokeSuffix x es place) = Plain (n.Invoke x (count_exprs es)) (draft_exprs o locals es)
  draft_suffix o locals row (IndexSuffix e place) = Plain n.Index (draft_expr o locals e)

  pub draft_suffixes : Outside → List Bytes → Option ℕ → SuffixTrees → Draft
  draft_suffixes o locals row NoSuffixes = Done
  draft_suffixes o locals row (ASuffix s ss) = Both (draft_suffix o locals row s) (draft_suffixes o locals None ss)

  pub draft_arms : Outside → List Bytes → ArmTrees → Draft
  draft_arms o locals NoArms = Done
  draft_arms o locals (AnArm e b arms) = Both (Both (draft_expr o locals e) (draft_block o locals b)) (draft_arms o locals arms)

  pub draft_fields : Outside → List Bytes → FieldTrees → Draft
  draft_fields o locals NoFields = Done
  draft_fields o locals (AField x body place fs) = Both (draft_field o locals body) (draft_fields o locals fs)
