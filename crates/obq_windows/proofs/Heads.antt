-- The node that an expression begins with.
use Rattle.std.specs.Prelude.{Bool, List, None, Option, Some, false, refl, suc, true, ℕ, ◌≡◌}
use Rattle.obq_base.specs.declared.code.Node.TheVariants as n
use Rattle.std.proofs.Common.{subst, sym, true≢false}
use Rattle.obq_base.specs.Tree.{ArrayTree, ChainTree, CloneTree, ExitTree, ExprTree, FinallyTree, ForTree, ForeachTree, IfTree, IntTree, LoopTree, NameTree, ObjectTree, OkTree, ProcTree, RaiseTree, RedirectTree, SuffixedTree, TextTree, TruthTree, TryTree, WatchTree}
use Rattle.obq_base.specs.declared.code.CodeNo.{CodeNo}
use Rattle.obq_base.specs.declared.code.Node.{Node}
use Rattle.obq_model.specs.CodeLaws.{nodes_of}
use Rattle.obq_model.specs.Draft.{Both, Plain, behind_first, called_row, captured_by, count_arms, count_exprs, count_suffixes, draft_expr, draft_suffixes, field_names, has_block, operators_of}
use Rattle.obq_model.specs.Scopes.{Outside, slot_of, slots_of}
use Rattle.obq_model.specs.Terms.{Bytes}
use Rattle.obq_windows.specs.Agrees.{Same, StandsAt}
use Rattle.obq_windows.specs.Trees.{Silent, TreeMoved}
use Rattle.obq_windows.specs.Values.{Table}
use Rattle.obq_windows.specs.Windows.{Activation, NodeFrame, NodeMoved, NodeRun, Store, begin_node, item_node, node_at, node_moved, suffixes_node, with_item, with_suffix}
use Rattle.obq_windows.proofs.Lists.{item_here}
use Rattle.obq_windows.proofs.Slots.{node_here}

-- with this node at the place
pub at_node : {R : Type 0} → (T : Table R) (S : Store R) (number : CodeNo) (at : ℕ) (a : Node) (f : Option Node → NodeMoved R) (t : TreeMoved R) → node_at S number at ≡ Some a → Same T S (f (Some a)) t → Same T S (f (node_at S number at)) t
at_node {R} T S number at a f t e h = subst (λ (o : Option Node). Same T S (f o) t) (sym e) h

-- a node that is neither an item's nor stands for a suffix
abbrev pub plain_node : Node → Bool
plain_node (n.Builtin r args) = false
plain_node (n.Let binds) = false
plain_node (n.Var binds) = false
plain_node (n.LetRec numbers from) = false
plain_node (n.Assign slot) = false
plain_node (n.SetField name) = false
plain_node n.SetItem = false
plain_node (n.Alias name) = false
plain_node (n.Meth number from) = false
plain_node a = true

pub record Head {R : Type 0} (S : Store R) (number : CodeNo) (at : ℕ) : Type 0 where
  pub node : Node
  pub there : node_at S number at ≡ Some node
  pub plain : plain_node node ≡ true

-- an expression begins with such a node
pub expr_head : {R : Type 0} → (T : Table R) (S : Store R) (number : CodeNo) (u : Outside) (names : List Bytes) (at : ℕ) (e : ExprTree) → StandsAt T S number (draft_expr u names e) at → Head S number at
expr_head T S number u names at (IntTree z place) h = record { node = n.Int z; there = node_here T S h; plain = refl }
expr_head T S number u names at (TextTree t place) h = record { node = n.Str t; there = node_here T S h; plain = refl }
expr_head T S number u names at (TruthTree b place) h = record { node = n.Truth b; there = node_here T S h; plain = refl }
expr_head T S number u names at (OkTree place) h = record { node = n.Okay; there = node_here T S h; plain = refl }
expr_head T S number u names at (NameTree x place) h = record { node = n.Use (slot_of u names x); there = node_here T S h; plain = refl }
expr_head T S number u names at (ArrayTree es place) h = record { node = n.Array (count_exprs es); there = node_here T S h; plain = refl }
expr_head T S number u names at (ObjectTree flags fs place) h = record { node = n.Object flags (field_names fs); there = node_here T S h; plain = refl }
expr_head T S number u names at (IfTree arms last place) h = record { node = n.If (count_arms arms) (has_block last); there = node_here T S h; plain = refl }
expr_head T S number u names at (LoopTree b place) h = record { node = n.Loop; there = node_here T S h; plain = refl }
expr_head T S number u names at (ExitTree place) h = record { node = n.Exit; there = node_here T S h; plain = refl }
expr_head T S number u names at (ForTree x m l b place) h = record { node = n.For; there = node_here T S h; plain = refl }
expr_head T S number u names at (ForeachTree x e b place) h = record { node = n.Foreach; there = node_here T S h; plain = refl }
expr_head T S number u names at (TryTree b arms last place) h = record { node = n.Try (count_arms arms) (has_block last); there = node_here T S h; plain = refl }
expr_head T S number u names at (FinallyTree b last place) h = record { node = n.Finally; there = node_here T S h; plain = refl }
expr_head T S number u names at (RaiseTree e place) h = record { node = n.Raise; there = node_here T S h; plain = refl }
expr_head T S number u names at (WatchTree c e place) h = record { node = n.Watch; there = node_here T S h; plain = refl }
expr_head T S number u names at (RedirectTree e f place) h = record { node = n.Redirect; there = node_here T S h; plain = refl }
expr_head T S number u names at (CloneTree es place) h = record { node = n.Clone (count_exprs es); there = node_here T S h; plain = refl }
expr_head T S number u names at (ChainTree e links) h = record { node = n.Chain (operators_of links); there = node_here T S h; plain = refl }
expr_head T S number u names at (ProcTree p) h = record { node = n.Proc h.nodes.0 (slots_of u names (captured_by u names p)); there = item_here (nodes_of (S.code number)) at _ h.nodes.1 h.nodes.2; plain = refl }
expr_head {R} T S number u names at (SuffixedTree e ss) h = at_row (called_row u names e ss) h where
  at_row : (o : Option ℕ) → StandsAt T S number (elim o [ None ↦ Plain (n.Suffixes (count_suffixes ss)) (Both (draft_expr u names e) (draft_suffixes u names None ss)) | Some row ↦ Plain (n.Suffixes (count_suffixes (behind_first ss))) (draft_suffixes u names (Some row) ss) ]) at → Head S number at
  at_row None h = record { node = n.Suffixes (count_suffixes ss); there = node_here T S h; plain = refl }
  at_row (Some r) h = record { node = n.Suffixes (count_suffixes (behind_first ss)); there = node_here T S h; plain = refl }

pub suffixes_plain : {R : Type 0} → (S : Store R) (k : ℕ) (act : Activation R) (ns : List (NodeFrame R)) (at m b : ℕ) (a : Node) → plain_node a ≡ true → suffixes_node S k act ns at m b (Some a) ≡ node_moved Silent act (with_suffix (S.end act.code (suc at)) m b ns) (NodeRun (suc at) b)
suffixes_plain S k act ns at m b (n.Builtin r args) e = absurd (true≢false (sym e))
suffixes_plain S k act ns at m b a e = refl

pub item_plain : {R : Type 0} → (S : Store R) (k thread count : ℕ) (act : Activation R) (ns : List (NodeFrame R)) (at left b : ℕ) (a : Node) → plain_node a ≡ true → item_node S k thread count act ns at left b (Some a) ≡ begin_node S k thread count act (with_item (S.end act.code at) left b ns) at b (Some a)
item_plain S k thread count act ns at left b (n.Let binds) e = absurd (true≢false (sym e))
item_plain S k thread count act ns at left b (n.Var binds) e = absurd (true≢false (sym e))
item_plain S k thread count act ns at left b (n.LetRec numbers from) e = absurd (true≢false (sym e))
item_plain S k thread count act ns at left b (n.Assign slot) e = absurd (true≢false (sym e))
item_plain S k thread count act ns at left b (n.SetField name) e = absurd (true≢false (sym e))
item_plain S k thread count act ns at left b n.SetItem e = absurd (true≢false (sym e))
item_plain S k thread count act ns at left b a e = refl
