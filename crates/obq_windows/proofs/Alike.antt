-- A part that begins: nodes and trees do the same.
use Rattle.std.specs.Prelude.{Bool, List, None, Option, Some, [], codes, false, if◌then◌else◌, nat_lt, refl, slice_get, suc, true, ℕ, ◌∷◌, ◌≡◌}
use Rattle.obq_base.specs.declared.code.Node.TheVariants as n
use Rattle.std.proofs.Common.{subst, sym, true≢false}
use Rattle.obq_base.specs.Tree.{ABlock, ALink, AProc, ASuffix, AnArm, AnExpr, ApplySuffix, ArmTrees, ArrayTree, BlockTree, ChainTree, CloneTree, ExitTree, ExprTree, FinallyTree, ForTree, ForeachTree, IfTree, IndexSuffix, IntTree, InvokeSuffix, LinkTrees, LoopTree, MaybeBlock, MethodOf, NameTree, NoArms, NoBlock, NoExprs, NoLinks, NoSuffixes, ObjectTree, OkTree, ProcTree, RaiseTree, RedirectTree, SelectSuffix, SuffixTrees, SuffixedTree, TextTree, TruthTree, TryTree, WatchTree}
use Rattle.obq_base.specs.declared.code.CodeNo.{CodeNo}
use Rattle.obq_base.specs.declared.code.Node.{Node}
use Rattle.obq_base.specs.declared.limits.TheConstants.{CLOSURE_LIMIT}
use Rattle.obq_model.specs.CodeLaws.{nodes_of}
use Rattle.obq_model.specs.Depth.{is_too_deep}
use Rattle.obq_model.specs.Draft.{Both, Plain, behind_first, called_row, captured_by, count_arms, count_exprs, count_suffixes, draft_arms, draft_expr, draft_field, draft_maybe, draft_suffixes, field_names, has_block, operators_of}
use Rattle.obq_model.specs.Occurrences.{free_procedure}
use Rattle.obq_model.specs.Opened.{open_block}
use Rattle.obq_model.specs.Reading.{hide, read}
use Rattle.obq_model.specs.Scopes.{inside, slots_of}
use Rattle.obq_model.specs.Terms.{Array, Bytes, Condition, Engine, ExitUp, Object, Variable, Writer}
use Rattle.obq_model.proofs.Drafted.{drafted_block, drafted_expr, drafted_suffix}
use Rattle.obq_model.proofs.Finds.{row_called}
use Rattle.obq_model.proofs.Occurring.{captured_covered}
use Rattle.obq_windows.specs.Agrees.{Agrees, FramesAre, IsBound, Same, StandsAt, place_at}
use Rattle.obq_windows.specs.Complete.{PlaceLaw}
use Rattle.obq_windows.specs.Moves.{HintExpr, begin_args, begin_expr, begin_if, begin_proc, begin_suffixes, captured_values, going_on, method_tree, set_method_tree, tree_closed, with_suffixes}
use Rattle.obq_windows.specs.Places.{Bound, Place, bound_names, env_at, outside_at, writer_at}
use Rattle.obq_windows.specs.Trees.{Asks, BlockTask, ExprTask, PendingChain, PendingFirst, PendingForeach, PendingHead, PendingIf, PendingLast, PendingLoop, PendingRaise, PendingTry, PendingWatch, PlainSetMethod, Silent, Stepped, Tag, ToArray, ToBuiltin, ToClone, ToRedirect, TreeAct, TreeFrame, TreeHere, TreeMoved, TreeRaising, TreeRun, TreeValue, push, tree_made, tree_moved, tree_raises}
use Rattle.obq_windows.specs.Values.{ClosureValue, ExceptionValue, IntValue, LocationValue, OkayValue, PlainValue, PlainValues, Table, TextValue, ThreadValue, TruthValue, depth_of_values, new_closure}
use Rattle.obq_windows.specs.Windows.{Activation, NodeAct, NodeChain, NodeFirst, NodeForeach, NodeFrame, NodeHead, NodeHere, NodeIf, NodeLast, NodeLoop, NodeMoved, NodeRaise, NodeRaising, NodeRun, NodeTry, NodeValue, NodeWatch, Store, arms_node, begin_node, method_node, node_at, node_closed, node_made, node_moved, node_raises, set_method_node, suffixes_node, with_operator, with_suffix}
use Rattle.obq_windows.proofs.AlikeCalls.{args_alike, as_pair}
use Rattle.obq_windows.proofs.AlikeLiterals.{fields_alike}
use Rattle.obq_windows.proofs.Heads.{at_node, expr_head, suffixes_plain}
use Rattle.obq_windows.proofs.Lists.{item_here}
use Rattle.obq_windows.proofs.Slots.{alike, behind_none, capture_is, first_of, name_alike, next_here, node_here, not_above, regrouped, second_of}

-- the rest of the arms of an `if`
pub arms_alike : {R : Type 0} → (T : Table R) (S : Store R) → Agrees T S → (tag : Tag R) (act : Activation R) (b : ℕ) (bound : List (Bound R)) → IsBound act b bound → (ns : List (NodeFrame R)) (fs : List (TreeFrame R)) → FramesAre T S act b ns fs → (at : ℕ) (arms : ArmTrees) (last : MaybeBlock)
    → StandsAt T S act.code (Both (draft_arms (outside_at T (place_at act bound)) (bound_names bound) arms) (draft_maybe (outside_at T (place_at act bound)) (bound_names bound) last)) at
    → Same T S (arms_node S tag act ns at (count_arms arms) (has_block last) b) (begin_if tag (place_at act bound) arms last fs)
arms_alike T S g tag act b bound w ns fs fr at NoArms NoBlock h = alike T S tag act b ns _ fs _ fr refl
arms_alike {R} T S g tag act b bound w ns fs fr at NoArms (ABlock block) h = alike T S tag act b ns _ fs (TreeRun (place_at act bound) (BlockTask block)) fr (at, refl, (bound, refl, w), behind_none T S h)
arms_alike {R} T S g tag act b bound w ns fs fr at (AnArm c block arms) last h =
    let h2 = regrouped T S (regrouped T S h) in
    alike T S tag act b (NodeIf (S.end act.code at) (count_arms arms) (has_block last) b ∷ ns) (NodeRun at b) (push (place_at act bound) (PendingIf block arms last) fs) (TreeRun (place_at act bound) (ExprTask c))
    (NodeIf (S.end act.code at) (count_arms arms) (has_block last) b, ns, refl, (S.end act.code at, b, refl, not_above b, (bound, refl, w), second_of T S g (drafted_expr _ _ c) h2), fr)
    (at, refl, (bound, refl, w), first_of T S h2)

-- the operators of a chain from the first on
chain_alike : {R : Type 0} → (T : Table R) (S : Store R) → Agrees T S → (act : Activation R) (b : ℕ) (bound : List (Bound R)) → IsBound act b bound → (ns : List (NodeFrame R)) (fs : List (TreeFrame R)) → FramesAre T S act b ns fs → (at : ℕ) (e : ExprTree) (links : LinkTrees)
    → StandsAt T S act.code (draft_expr (outside_at T (place_at act bound)) (bound_names bound) (ChainTree e links)) at
    → Same T S (node_moved Silent act (with_operator (slice_get (operators_of links) 0) at 0 (S.end act.code (suc at)) b ns) (NodeRun (suc at) b)) (going_on Silent (place_at act bound) links e fs)
chain_alike T S g act b bound w ns fs fr at e NoLinks h = alike T S Silent act b ns _ fs (TreeRun (place_at act bound) (ExprTask e)) fr (suc at, refl, (bound, refl, w), first_of T S (next_here T S h))
chain_alike T S g act b bound w ns fs fr at e (ALink op e2 place links) h =
    alike T S Silent act b (NodeChain at 0 (S.end act.code (suc at)) b ∷ ns) (NodeRun (suc at) b) (push (place_at act bound) (PendingChain op e2 links) fs) (TreeRun (place_at act bound) (ExprTask e))
    (NodeChain at 0 (S.end act.code (suc at)) b, ns, refl, (at, 0, S.end act.code (suc at), b, refl, not_above b, (bound, refl, w), op ∷ operators_of links, node_here T S h, refl, second_of T S g (drafted_expr _ _ e) (next_here T S h)), fr)
    (suc at, refl, (bound, refl, w), first_of T S (next_here T S h))

-- a procedure literal
proc_alike : {R : Type 0} → (T : Table R) (S : Store R) → Agrees T S → (a thread count : ℕ) (act : Activation R) (b : ℕ) (bound : List (Bound R)) → PlaceLaw T (place_at act bound) → IsBound act b bound → (ns : List (NodeFrame R)) (fs : List (TreeFrame R)) → FramesAre T S act b ns fs → (at : ℕ) (params : List Bytes) (block : BlockTree) (place : ℕ)
    → (h : StandsAt T S act.code (draft_expr (outside_at T (place_at act bound)) (bound_names bound) (ProcTree (AProc params block place))) at)
    → Same T S (begin_node S a thread count act ns at b (node_at S act.code at)) (begin_proc T thread count (h.nodes.0 ∷ []) (place_at act bound) (AProc params block place) fs)
proc_alike {R} T S g a thread count act b bound d w ns fs fr at params block place h =
    at_node T S act.code at (n.Proc h.nodes.0 (slots_of (outside_at T (place_at act bound)) (bound_names bound) (captured_by (outside_at T (place_at act bound)) (bound_names bound) (AProc params block place)))) (begin_node S a thread count act ns at b) _
    (item_here (nodes_of (S.code act.code)) at _ h.nodes.1 h.nodes.2)
    (subst (λ (vs : PlainValues R). Same T S (if nat_lt CLOSURE_LIMIT (depth_of_values vs) then node_moved Stepped act ns (node_raises (codes "closure_limit")) else node_made act ns (NodeValue (new_closure thread count (h.nodes.0 ∷ []) 0 vs))) (begin_proc T thread count (h.nodes.0 ∷ []) (place_at act bound) (AProc params block place) fs))
    (sym (capture_is T S act b bound w d.members (captured_by (outside_at T (place_at act bound)) (bound_names bound) (AProc params block place)) (λ x e. captured_covered (outside_at T (place_at act bound)) (bound_names bound) (free_procedure [] (AProc params block place)) x e)))
    (subst (λ (c : Bool). Same T S (if c then node_moved Stepped act ns (node_raises (codes "closure_limit")) else node_made act ns (NodeValue (new_closure thread count (h.nodes.0 ∷ []) 0 (captured_values T (place_at act bound) (captured_by (outside_at T (place_at act bound)) (bound_names bound) (AProc params block place))))))
    (begin_proc T thread count (h.nodes.0 ∷ []) (place_at act bound) (AProc params block place) fs))
    (sym (d.proc params block place)) (by_depth (is_too_deep (read (hide params (env_at T (place_at act bound))) (open_block (writer_at T (place_at act bound)) (inside (outside_at T (place_at act bound)) [] (captured_by (outside_at T (place_at act bound)) (bound_names bound) (AProc params block place))) params block)))))) where
      by_depth : (c : Bool) → Same T S (if c then node_moved Stepped act ns (node_raises (codes "closure_limit")) else node_made act ns (NodeValue (new_closure thread count (h.nodes.0 ∷ []) 0 (captured_values T (place_at act bound) (captured_by (outside_at T (place_at act bound)) (bound_names bound) (AProc params block place))))))
          (if c then tree_moved Stepped fs (tree_raises (codes "closure_limit")) else tree_made fs (TreeValue (new_closure thread count (h.nodes.0 ∷ []) 0 (captured_values T (place_at act bound) (captured_by (outside_at T (place_at act bound)) (bound_names bound) (AProc params block place))))))
      by_depth true = record { tag = refl; makes = refl; height = b; frames = fr; focus = refl }
      by_depth false = record { tag = refl; makes = refl; height = b; frames = fr; focus = refl }

-- a method that a field gets
pub method_alike : {R : Type 0} → (T : Table R) (S : Store R) → Agrees T S → (o : R) (x : Bytes) (thread count : ℕ) (act : Activation R) (b : ℕ) (bound : List (Bound R)) → PlaceLaw T (place_at act bound) → IsBound act b bound → (ns : List (NodeFrame R)) (fs : List (TreeFrame R)) → FramesAre T S act b ns fs → (at : ℕ) (params : List Bytes) (block : BlockTree) (place : ℕ)
    → (h : StandsAt T S act.code (draft_field (outside_at T (place_at act bound)) (bound_names bound) (MethodOf (AProc params block place))) at)
    → Same T S (method_node S thread count o x act ns (node_at S act.code at)) (method_tree T thread count (h.nodes.0 ∷ []) (place_at act bound) o x (AProc params block place) fs)
method_alike {R} T S g o x thread count act b bound d w ns fs fr at params block place h =
    at_node T S act.code at (n.Meth h.nodes.0 (slots_of (outside_at T (place_at act bound)) (bound_names bound) (captured_by (outside_at T (place_at act bound)) (bound_names bound) (AProc params block place)))) (method_node S thread count o x act ns) _
    (item_here (nodes_of (S.code act.code)) at _ h.nodes.1 h.nodes.2)
    (subst (λ (vs : PlainValues R). Same T S (if nat_lt CLOSURE_LIMIT (depth_of_values vs) then node_moved Stepped act ns (node_raises (codes "closure_limit")) else node_closed (node_moved (Asks (PlainSetMethod o x (new_closure thread count (h.nodes.0 ∷ []) 0 vs))) act ns (NodeAct (PlainSetMethod o x (new_closure thread count (h.nodes.0 ∷ []) 0 vs)) NodeHere))) (method_tree T thread count (h.nodes.0 ∷ []) (place_at act bound) o x (AProc params block place) fs))
    (sym (capture_is T S act b bound w d.members (captured_by (outside_at T (place_at act bound)) (bound_names bound) (AProc params block place)) (λ x e. captured_covered (outside_at T (place_at act bound)) (bound_names bound) (free_procedure [] (AProc params block place)) x e)))
    (subst (λ (c : Bool). Same T S (if c then node_moved Stepped act ns (node_raises (codes "closure_limit")) else node_closed (node_moved (Asks (PlainSetMethod o x (new_closure thread count (h.nodes.0 ∷ []) 0 (captured_values T (place_at act bound) (captured_by (outside_at T (place_at act bound)) (bound_names bound) (AProc params block place)))))) act ns (NodeAct (PlainSetMethod o x (new_closure thread count (h.nodes.0 ∷ []) 0 (captured_values T (place_at act bound) (captured_by (outside_at T (place_at act bound)) (bound_names bound) (AProc params block place))))) NodeHere)))
    (method_tree T thread count (h.nodes.0 ∷ []) (place_at act bound) o x (AProc params block place) fs))
    (sym (d.proc params block place)) (by_depth (is_too_deep (read (hide params (env_at T (place_at act bound))) (open_block (writer_at T (place_at act bound)) (inside (outside_at T (place_at act bound)) [] (captured_by (outside_at T (place_at act bound)) (bound_names bound) (AProc params block place))) params block)))))) where
      by_depth : (c : Bool) → Same T S (if c then node_moved Stepped act ns (node_raises (codes "closure_limit")) else node_closed (node_moved (Asks (PlainSetMethod o x (new_closure thread count (h.nodes.0 ∷ []) 0 (captured_values T (place_at act bound) (captured_by (outside_at T (place_at act bound)) (bound_names bound) (AProc params block place)))))) act ns (NodeAct (PlainSetMethod o x (new_closure thread count (h.nodes.0 ∷ []) 0 (captured_values T (place_at act bound) (captured_by (outside_at T (place_at act bound)) (bound_names bound) (AProc params block place))))) NodeHere)))
          (if c then tree_moved Stepped fs (tree_raises (codes "closure_limit")) else tree_closed (tree_moved (Asks (PlainSetMethod o x (new_closure thread count (h.nodes.0 ∷ []) 0 (captured_values T (place_at act bound) (captured_by (outside_at T (place_at act bound)) (bound_names bound) (AProc params block place)))))) fs (TreeAct (PlainSetMethod o x (new_closure thread count (h.nodes.0 ∷ []) 0 (captured_values T (place_at act bound) (captured_by (outside_at T (place_at act bound)) (bound_names bound) (AProc params block place))))) TreeHere)))
      by_depth true = record { tag = refl; makes = refl; height = b; frames = fr; focus = refl }
      by_depth false = record { tag = refl; makes = refl; height = b; frames = fr; focus = (NodeHere, refl, refl) }

pub set_method_alike : {R : Type 0} → (T : Table R) (S : Store R) → Agrees T S → (thread count : ℕ) (act : Activation R) (b : ℕ) (bound : List (Bound R)) → PlaceLaw T (place_at act bound) → IsBound act b bound → (ns : List (NodeFrame R)) (fs : List (TreeFrame R)) → FramesAre T S act b ns fs → (at : ℕ) (v : PlainValue R) (x : Bytes) (params : List Bytes) (block : BlockTree) (place : ℕ)
    → (h : StandsAt T S act.code (draft_field (outside_at T (place_at act bound)) (bound_names bound) (MethodOf (AProc params block place))) at)
    → Same T S (set_method_node S thread count v x act ns (node_at S act.code at)) (set_method_tree T thread count (h.nodes.0 ∷ []) (place_at act bound) v x (AProc params block place) fs)
set_method_alike T S g thread count act b bound d w ns fs fr at (LocationValue Object o) x params block place h = method_alike T S g o x thread count act b bound d w ns fs fr at params block place h
set_method_alike T S g thread count act b bound d w ns fs fr at (IntValue z) x params block place h = record { tag = refl; makes = refl; height = b; frames = fr; focus = refl }
set_method_alike T S g thread count act b bound d w ns fs fr at (TruthValue z) x params block place h = record { tag = refl; makes = refl; height = b; frames = fr; focus = refl }
set_method_alike T S g thread count act b bound d w ns fs fr at OkayValue x params block place h = record { tag = refl; makes = refl; height = b; frames = fr; focus = refl }
set_method_alike T S g thread count act b bound d w ns fs fr at (TextValue z) x params block place h = record { tag = refl; makes = refl; height = b; frames = fr; focus = refl }
set_method_alike T S g thread count act b bound d w ns fs fr at (ExceptionValue z) x params block place h = record { tag = refl; makes = refl; height = b; frames = fr; focus = refl }
set_method_alike T S g thread count act b bound d w ns fs fr at (ThreadValue z) x params block place h = record { tag = refl; makes = refl; height = b; frames = fr; focus = refl }
set_method_alike T S g thread count act b bound d w ns fs fr at (LocationValue Array z) x params block place h = record { tag = refl; makes = refl; height = b; frames = fr; focus = refl }
set_method_alike T S g thread count act b bound d w ns fs fr at (LocationValue Variable z) x params block place h = record { tag = refl; makes = refl; height = b; frames = fr; focus = refl }
set_method_alike T S g thread count act b bound d w ns fs fr at (LocationValue Writer z) x params block place h = record { tag = refl; makes = refl; height = b; frames = fr; focus = refl }
set_method_alike T S g thread count act b bound d w ns fs fr at (LocationValue Condition z) x params block place h = record { tag = refl; makes = refl; height = b; frames = fr; focus = refl }
set_method_alike T S g thread count act b bound d w ns fs fr at (LocationValue Engine z) x params block place h = record { tag = refl; makes = refl; height = b; frames = fr; focus = refl }
set_method_alike T S g thread count act b bound d w ns fs fr at (ClosureValue t c group index cs) x params block place h = record { tag = refl; makes = refl; height = b; frames = fr; focus = refl }

-- the frame for suffixes from a node on
pub suffix_frames : {R : Type 0} → (T : Table R) (S : Store R) (act : Activation R) (b : ℕ) (bound : List (Bound R)) → IsBound act b bound → (ns : List (NodeFrame R)) (fs : List (TreeFrame R)) → FramesAre T S act b ns fs → (at : ℕ) (ss : SuffixTrees)
    → StandsAt T S act.code (draft_suffixes (outside_at T (place_at act bound)) (bound_names bound) None ss) at → FramesAre T S act b (with_suffix at (count_suffixes ss) b ns) (with_suffixes (place_at act bound) ss fs)
suffix_frames T S act b bound w ns fs fr at NoSuffixes h = fr
suffix_frames T S act b bound w ns fs fr at (ASuffix x ss) h = (NodeHead at (count_suffixes ss) b, ns, refl, (at, b, refl, not_above b, (bound, refl, w), h), fr)

suffixed_alike : {R : Type 0} → (T : Table R) (S : Store R) → Agrees T S → (a thread count : ℕ) (act : Activation R) (b : ℕ) (bound : List (Bound R)) → IsBound act b bound → (ns : List (NodeFrame R)) (fs : List (TreeFrame R)) → FramesAre T S act b ns fs → (at : ℕ) (e : ExprTree) (ss : SuffixTrees) (o : Option ℕ) → called_row (outside_at T (place_at act bound)) (bound_names bound) e ss ≡ o
    → StandsAt T S act.code (elim o [ None ↦ Plain (n.Suffixes (count_suffixes ss)) (Both (draft_expr (outside_at T (place_at act bound)) (bound_names bound) e) (draft_suffixes (outside_at T (place_at act bound)) (bound_names bound) None ss)) | Some row ↦ Plain (n.Suffixes (count_suffixes (behind_first ss))) (draft_suffixes (outside_at T (place_at act bound)) (bound_names bound) (Some row) ss) ]) at
    → Same T S (begin_node S a thread count act ns at b (node_at S act.code at)) (begin_suffixes T a o (place_at act bound) e ss fs)
suffixed_alike {R} T S g a thread count act b bound w ns fs fr at e ss None q h =
    let hd = expr_head T S act.code _ _ (suc at) e (first_of T S (next_here T S h)) in
    at_node T S act.code at (n.Suffixes (count_suffixes ss)) (begin_node S a thread count act ns at b) _ (node_here T S h)
    (subst (λ (o : Option Node). Same T S (suffixes_node S a act ns at (count_suffixes ss) b o) (begin_suffixes T a None (place_at act bound) e ss fs)) (sym hd.there)
    (subst (λ (m : NodeMoved R). Same T S m (begin_suffixes T a None (place_at act bound) e ss fs)) (sym (suffixes_plain S a act ns at (count_suffixes ss) b hd.node hd.plain)) (by_suffixes ss (second_of T S g (drafted_expr _ _ e) (next_here T S h)) (first_of T S (next_here T S h))))) where
      by_suffixes : (ss : SuffixTrees) → StandsAt T S act.code (draft_suffixes (outside_at T (place_at act bound)) (bound_names bound) None ss) (S.end act.code (suc at)) → StandsAt T S act.code (draft_expr (outside_at T (place_at act bound)) (bound_names bound) e) (suc at)
          → Same T S (node_moved Silent act (with_suffix (S.end act.code (suc at)) (count_suffixes ss) b ns) (NodeRun (suc at) b)) (begin_suffixes T a None (place_at act bound) e ss fs)
      by_suffixes NoSuffixes k l = alike T S Silent act b ns (NodeRun (suc at) b) fs (TreeRun (place_at act bound) (ExprTask e)) fr (suc at, refl, (bound, refl, w), l)
      by_suffixes (ASuffix x ss) k l = alike T S Silent act b _ (NodeRun (suc at) b) (push (place_at act bound) (PendingHead x ss) fs) (TreeRun (place_at act bound) (ExprTask e)) (suffix_frames T S act b bound w ns fs fr (S.end act.code (suc at)) (ASuffix x ss) k) (suc at, refl, (bound, refl, w), l)
suffixed_alike T S g a thread count act b bound w ns fs fr at e NoSuffixes (Some r) q h = absurd (true≢false (sym (row_called (outside_at T (place_at act bound)) (bound_names bound) e NoSuffixes r q)))
suffixed_alike T S g a thread count act b bound w ns fs fr at e (ASuffix (SelectSuffix x place) ss) (Some r) q h = absurd (true≢false (sym (row_called (outside_at T (place_at act bound)) (bound_names bound) e (ASuffix (SelectSuffix x place) ss) r q)))
suffixed_alike T S g a thread count act b bound w ns fs fr at e (ASuffix (InvokeSuffix x es place) ss) (Some r) q h = absurd (true≢false (sym (row_called (outside_at T (place_at act bound)) (bound_names bound) e (ASuffix (InvokeSuffix x es place) ss) r q)))
suffixed_alike T S g a thread count act b bound w ns fs fr at e (ASuffix (IndexSuffix i place) ss) (Some r) q h = absurd (true≢false (sym (row_called (outside_at T (place_at act bound)) (bound_names bound) e (ASuffix (IndexSuffix i place) ss) r q)))
suffixed_alike {R} T S g a thread count act b bound w ns fs fr at e (ASuffix (ApplySuffix es place) ss) (Some r) q h =
    at_node T S act.code at (n.Suffixes (count_suffixes ss)) (begin_node S a thread count act ns at b) _ (node_here T S h)
    (subst (λ (o : Option Node). Same T S (suffixes_node S a act ns at (count_suffixes ss) b o) (begin_args T a (ToBuiltin r) (place_at act bound) [] es (with_suffixes (place_at act bound) ss fs))) (sym (node_here T S (first_of T S (next_here T S h))))
    (args_alike T S g a act b bound w (with_suffix (S.end act.code (suc at)) (count_suffixes ss) b ns) (with_suffixes (place_at act bound) ss fs)
    (suffix_frames T S act b bound w ns fs fr (S.end act.code (suc at)) ss (second_of T S g (drafted_suffix _ _ (Some r) (ApplySuffix es place)) (next_here T S h))) (ToBuiltin r) [] (suc (suc at)) es (next_here T S (first_of T S (next_here T S h)))))

-- an expression that begins; the code numbers that its literal is given
pub record Begun {R : Type 0} (T : Table R) (S : Store R) (p : Place R) (e : ExprTree) (m : NodeMoved R) (t : List CodeNo → TreeMoved R) : Type 0 where
  pub numbers : List CodeNo
  pub hint : HintExpr T numbers p e
  pub same : Same T S m (t numbers)

pub expr_alike : {R : Type 0} → (T : Table R) (S : Store R) → Agrees T S → (a thread count : ℕ) (act : Activation R) (b : ℕ) (bound : List (Bound R)) → PlaceLaw T (place_at act bound) → IsBound act b bound → (ns : List (NodeFrame R)) (fs : List (TreeFrame R)) → FramesAre T S act b ns fs → (at : ℕ) (e : ExprTree)
    → StandsAt T S act.code (draft_expr (outside_at T (place_at act bound)) (bound_names bound) e) at
    → Begun T S (place_at act bound) e (begin_node S a thread count act ns at b (node_at S act.code at)) (λ numbers. begin_expr T a thread count numbers (place_at act bound) e fs)
expr_alike T S g a thread count act b bound d w ns fs fr at (IntTree z place) h = record { numbers = []; hint = tt; same = at_node T S act.code at (n.Int z) (begin_node S a thread count act ns at b) _ (node_here T S h) (alike T S Silent act b ns (NodeValue (IntValue z)) fs (TreeValue (IntValue z)) fr refl) }
expr_alike T S g a thread count act b bound d w ns fs fr at (TextTree z place) h = record { numbers = []; hint = tt; same = at_node T S act.code at (n.Str z) (begin_node S a thread count act ns at b) _ (node_here T S h) (alike T S Silent act b ns (NodeValue (TextValue z)) fs (TreeValue (TextValue z)) fr refl) }
expr_alike T S g a thread count act b bound d w ns fs fr at (TruthTree z place) h = record { numbers = []; hint = tt; same = at_node T S act.code at (n.Truth z) (begin_node S a thread count act ns at b) _ (node_here T S h) (alike T S Silent act b ns (NodeValue (TruthValue z)) fs (TreeValue (TruthValue z)) fr refl) }
expr_alike T S g a thread count act b bound d w ns fs fr at (OkTree place) h = record { numbers = []; hint = tt; same = at_node T S act.code at n.Okay (begin_node S a thread count act ns at b) _ (node_here T S h) (alike T S Silent act b ns (NodeValue OkayValue) fs (TreeValue OkayValue) fr refl) }
expr_alike T S g a thread count act b bound d w ns fs fr at (NameTree x place) h = record { numbers = []; hint = tt; same = at_node T S act.code at _ (begin_node S a thread count act ns at b) _ (node_here T S h) (name_alike T S g act b bound w d.members ns fs fr x) }
expr_alike T S g a thread count act b bound d w ns fs fr at (IfTree arms last place) h = record { numbers = []; hint = tt; same = at_node T S act.code at (n.If (count_arms arms) (has_block last)) (begin_node S a thread count act ns at b) _ (node_here T S h) (arms_alike T S g Silent act b bound w ns fs fr (suc at) arms last (next_here T S h)) }
expr_alike T S g a thread count act b bound d w ns fs fr at (LoopTree block place) h = record {
  numbers = [];
  hint = tt;
  same = at_node T S act.code at n.Loop (begin_node S a thread count act ns at b) _ (node_here T S h)
      (alike T S Stepped act b (NodeLoop (suc at) b ∷ ns) (NodeRun (suc at) b) (push (place_at act bound) (PendingLoop block) fs) (TreeRun (place_at act bound) (BlockTask block))
      (NodeLoop (suc at) b, ns, refl, (suc at, b, refl, not_above b, (bound, refl, w), next_here T S h), fr) (suc at, refl, (bound, refl, w), next_here T S h));
}
expr_alike T S g a thread count act b bound d w ns fs fr at (ExitTree place) h = record { numbers = []; hint = tt; same = at_node T S act.code at n.Exit (begin_node S a thread count act ns at b) _ (node_here T S h) (alike T S Stepped act b ns (NodeRaising ExitUp) fs (TreeRaising ExitUp) fr refl) }
expr_alike T S g a thread count act b bound d w ns fs fr at (TryTree block arms last place) h = record {
  numbers = [];
  hint = tt;
  same = at_node T S act.code at (n.Try (count_arms arms) (has_block last)) (begin_node S a thread count act ns at b) _ (node_here T S h)
      (alike T S Silent act b (NodeTry (S.end act.code (suc at)) (count_arms arms) (has_block last) b ∷ ns) (NodeRun (suc at) b) (push (place_at act bound) (PendingTry arms last) fs) (TreeRun (place_at act bound) (BlockTask block))
      (NodeTry (S.end act.code (suc at)) (count_arms arms) (has_block last) b, ns, refl, (S.end act.code (suc at), b, refl, not_above b, (bound, refl, w), second_of T S g (drafted_block _ _ block) (next_here T S h)), fr)
      (suc at, refl, (bound, refl, w), first_of T S (next_here T S h)));
}
expr_alike T S g a thread count act b bound d w ns fs fr at (FinallyTree block last place) h = record {
  numbers = [];
  hint = tt;
  same = at_node T S act.code at n.Finally (begin_node S a thread count act ns at b) _ (node_here T S h)
      (alike T S Silent act b (NodeLast (S.end act.code (suc at)) b ∷ ns) (NodeRun (suc at) b) (push (place_at act bound) (PendingLast last) fs) (TreeRun (place_at act bound) (BlockTask block))
      (NodeLast (S.end act.code (suc at)) b, ns, refl, (S.end act.code (suc at), b, refl, not_above b, (bound, refl, w), second_of T S g (drafted_block _ _ block) (next_here T S h)), fr)
      (suc at, refl, (bound, refl, w), first_of T S (next_here T S h)));
}
expr_alike T S g a thread count act b bound d w ns fs fr at (RaiseTree e place) h = record {
  numbers = [];
  hint = tt;
  same = at_node T S act.code at n.Raise (begin_node S a thread count act ns at b) _ (node_here T S h)
      (alike T S Silent act b (NodeRaise ∷ ns) (NodeRun (suc at) b) (push (place_at act bound) PendingRaise fs) (TreeRun (place_at act bound) (ExprTask e)) (NodeRaise, ns, refl, refl, fr) (suc at, refl, (bound, refl, w), next_here T S h));
}
expr_alike T S g a thread count act b bound d w ns fs fr at (ChainTree e links) h = record { numbers = []; hint = tt; same = at_node T S act.code at (n.Chain (operators_of links)) (begin_node S a thread count act ns at b) _ (node_here T S h) (chain_alike T S g act b bound w ns fs fr at e links h) }
expr_alike T S g a thread count act b bound d w ns fs fr at (ProcTree (AProc params block place)) h = record { numbers = h.nodes.0 ∷ []; hint = h.nodes.3; same = proc_alike T S g a thread count act b bound d w ns fs fr at params block place h }
expr_alike T S g a thread count act b bound d w ns fs fr at (ArrayTree es place) h = record { numbers = []; hint = tt; same = at_node T S act.code at (n.Array (count_exprs es)) (begin_node S a thread count act ns at b) _ (node_here T S h) (args_alike T S g a act b bound w ns fs fr ToArray [] (suc at) es (next_here T S h)) }
expr_alike T S g a thread count act b bound d w ns fs fr at (ObjectTree flags fields place) h = record {
  numbers = [];
  hint = tt;
  same = at_node T S act.code at (n.Object flags (field_names fields)) (begin_node S a thread count act ns at b) _ (node_here T S h)
      (fields_alike T S g act b bound w ns fs fr flags [] [] (suc at) fields refl (next_here T S h));
}
expr_alike T S g a thread count act b bound d w ns fs fr at (ForTree x m l block place) h = record {
  numbers = [];
  hint = tt;
  same = at_node T S act.code at n.For (begin_node S a thread count act ns at b) _ (node_here T S h)
      (alike T S Silent act b (NodeFirst (S.end act.code (suc at)) b ∷ ns) (NodeRun (suc at) b) (push (place_at act bound) (PendingFirst x l block) fs) (TreeRun (place_at act bound) (ExprTask m))
      (NodeFirst (S.end act.code (suc at)) b, ns, refl, (S.end act.code (suc at), b, refl, not_above b, (bound, refl, w), second_of T S g (drafted_expr _ _ m) (next_here T S h)), fr)
      (suc at, refl, (bound, refl, w), first_of T S (next_here T S h)));
}
expr_alike T S g a thread count act b bound d w ns fs fr at (ForeachTree x e block place) h = record { numbers = []; hint = tt; same = at_node T S act.code at (n.Foreach) (begin_node S a thread count act ns at b) _ (node_here T S h) (alike T S Silent act b (NodeForeach (S.end act.code (suc at)) b ∷ ns) (NodeRun (suc at) b) (push (place_at act bound) (PendingForeach x block) fs) (TreeRun (place_at act bound) (ExprTask e)) (NodeForeach (S.end act.code (suc at)) b, ns, refl, (S.end act.code (suc at), b, refl, not_above b, (bound, refl, w), second_of T S g (drafted_expr _ _ e) (next_here T S h)), fr) (suc at, refl, (bound, refl, w), first_of T S (next_here T S h))) }
expr_alike T S g a thread count act b bound d w ns fs fr at (WatchTree c e place) h = record { numbers = []; hint = tt; same = at_node T S act.code at (n.Watch) (begin_node S a thread count act ns at b) _ (node_here T S h) (alike T S Silent act b (NodeWatch (S.end act.code (suc at)) b ∷ ns) (NodeRun (suc at) b) (push (place_at act bound) (PendingWatch e) fs) (TreeRun (place_at act bound) (ExprTask c)) (NodeWatch (S.end act.code (suc at)) b, ns, refl, (S.end act.code (suc at), b, refl, not_above b, (bound, refl, w), second_of T S g (drafted_expr _ _ c) (next_here T S h)), fr) (suc at, refl, (bound, refl, w), first_of T S (next_here T S h))) }
expr_alike T S g a thread count act b bound d w ns fs fr at (RedirectTree e f place) h = record { numbers = []; hint = tt; same = at_node T S act.code at (n.Redirect) (begin_node S a thread count act ns at b) _ (node_here T S h) (args_alike T S g a act b bound w ns fs fr ToRedirect [] (suc at) (AnExpr e (AnExpr f NoExprs)) (as_pair T S (next_here T S h))) }
expr_alike T S g a thread count act b bound d w ns fs fr at (CloneTree es place) h = record { numbers = []; hint = tt; same = at_node T S act.code at (n.Clone (count_exprs es)) (begin_node S a thread count act ns at b) _ (node_here T S h) (args_alike T S g a act b bound w ns fs fr ToClone [] (suc at) es (next_here T S h)) }
expr_alike T S g a thread count act b bound d w ns fs fr at (SuffixedTree e ss) h = record { numbers = []; hint = tt; same = suffixed_alike T S g a thread count act b bound w ns fs fr at e ss (called_row (outside_at T (place_at act bound)) (bound_names bound) e ss) refl h }
