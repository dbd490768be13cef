-- A value, and a raising, in a frame: nodes and trees do the same.
use Rattle.std.specs.Prelude.{Bool, List, None, Option, Some, [], bytes_eq, codes, drop, false, if◌then◌else◌, int_lt, pos, refl, slice_get, suc, true, ℕ, ℤ, ◌++◌, ◌+ℤ◌, ◌+◌, ◌∷◌, ◌≡◌, ◌≤◌}
use Rattle.obq_base.specs.declared.code.Node.TheVariants as n
use Rattle.std.proofs.Common.{ap, arith, subst, sym, ◌∙◌, true≢false}
use Rattle.obq_base.specs.Tree.{ALink, AliasOf, AnArm, AnExpr, ApplySuffix, ArmTrees, BindTrees, BlockTree, ExprTree, FieldTree, IndexSuffix, InvokeSuffix, ItemTrees, LinkTrees, MaybeBlock, MethodOf, NoArms, NoExprs, NoLinks, SelectSuffix, SuffixTree, SuffixTrees, ValueOf}
use Rattle.obq_base.specs.declared.code.Node.{Node}
use Rattle.obq_base.specs.declared.trees.Operator.{Operator}
use Rattle.obq_model.specs.CodeLaws.{nodes_of}
use Rattle.obq_model.specs.Draft.{Both, captured_by, count_arms, count_binds, count_exprs, count_items, count_suffixes, draft_arms, draft_binds, draft_block, draft_expr, draft_field, draft_items, draft_links, draft_maybe, draft_suffix, draft_suffixes, has_block, operators_of}
use Rattle.obq_model.specs.Occurrences.{bind_names}
use Rattle.obq_model.specs.Scopes.{slots_of}
use Rattle.obq_model.specs.Step.{Self}
use Rattle.obq_model.specs.Terms.{Array, Bytes, Condition, Engine, Held, Inner, Mode, Object, Plain, Variable, Writer}
use Rattle.obq_model.proofs.Drafted.{drafted_block, drafted_expr, drafted_suffix}
use Rattle.obq_windows.specs.Agrees.{Agrees, FramesAre, IsBound, Same, StandsAt, place_at}
use Rattle.obq_windows.specs.Moves.{begin_args, begin_arms, begin_binds, begin_count, begin_vars, begin_watch, count_at, give_and, give_field, give_foreach, give_guard, give_if, give_left, give_or, give_raise, give_suffix, give_testing, give_to, give_watch, leave_tree, next_count, with_links, with_suffixes}
use Rattle.obq_windows.specs.Places.{Bound, bind_of, bound_names, outside_at, with_bound}
use Rattle.obq_windows.specs.Trees.{Asks, BlockTask, ExprTask, Kept, KeptRaising, KeptValue, PendingChain, PendingCount, PendingEach, PendingGuard, PendingRight, PendingTesting, PlainEachSize, PlainGet, PlainLeave, PlainLineUp, Silent, Stepped, ToCall, ToIndex, ToInvoke, ToSetAlias, ToSetValue, TreeAct, TreeFrame, TreeHere, TreeMethod, TreeRaising, TreeRun, TreeScope, TreeTest, TreeUnmet, TreeValue, push, tree_moved, tree_raises}
use Rattle.obq_windows.specs.Values.{ClosureValue, ExceptionValue, IntValue, LocationValue, OkayValue, PlainValue, Table, TextValue, ThreadValue, TruthValue}
use Rattle.obq_windows.specs.Windows.{Activation, LeavesMethod, NodeAct, NodeChain, NodeCount, NodeEach, NodeFrame, NodeGuard, NodeHere, NodeMethod, NodeMoved, NodeRaising, NodeRight, NodeRun, NodeScope, NodeTest, NodeTesting, NodeUnmet, NodeValue, Store, args_node, begin_node_watch, bind, binds_node, count_node, count_node_at, give_node_and, give_node_field, give_node_foreach, give_node_guard, give_node_if, give_node_left, give_node_or, give_node_raise, give_node_suffix, give_node_testing, give_node_to, give_node_watch, guards_node, leave_node, next_count_node, node_at, node_moved, node_raises, operator_in, vars_node, with_operator, with_suffix}
use Rattle.obq_windows.proofs.Alike.{arms_alike, suffix_frames}
use Rattle.obq_windows.proofs.AlikeCalls.{alone, args_alike}
use Rattle.obq_windows.proofs.AlikeItems.{binds_alike, respelled, vars_alike}
use Rattle.obq_windows.proofs.Envs.{names_more}
use Rattle.obq_windows.proofs.Frames.{bound_all, frames_kept, frames_up, place_kept}
use Rattle.obq_windows.proofs.Heads.{at_node, expr_head, plain_node}
use Rattle.obq_windows.proofs.Lists.{behind_here, item_here, past_end}
use Rattle.obq_windows.proofs.Slots.{alike, behind_none, changed_alike, first_of, next_here, node_here, not_above, regrouped, second_of}

-- ---- one more binder

bound_more_is : {R : Type 0} → (act : Activation R) (b : ℕ) (bound : List (Bound R)) (x : Bytes) (v : PlainValue R) → IsBound act b bound → IsBound (bind act b (v ∷ [])) (suc b) (bound ++ bind_of x v ∷ [])
bound_more_is {R} act b bound x v w = subst (λ (m : ℕ). IsBound (bind act b (v ∷ [])) m (bound ++ bind_of x v ∷ [])) (plus_one b) (bound_all act b 1 bound (bind_of x v ∷ []) (v ∷ []) w refl refl) where
  plus_one : (n : ℕ) → n + 1 ≡ suc n
  plus_one n = omega arith

pub let_alike : {R : Type 0} → (T : Table R) (S : Store R) → Agrees T S → (act : Activation R) (b : ℕ) (bound : List (Bound R)) → IsBound act b bound → (ns : List (NodeFrame R)) (fs : List (TreeFrame R)) → FramesAre T S act b ns fs → (child at : ℕ) (x : Bytes) (bs : BindTrees) (is : ItemTrees) (v : PlainValue R)
    → StandsAt T S act.code (draft_binds (outside_at T (place_at act bound)) (bound_names bound ++ x ∷ []) bs) child → StandsAt T S act.code (draft_items (outside_at T (place_at act bound)) ((bound_names bound ++ x ∷ []) ++ bind_names bs) is) at
    → Same T S (binds_node S Stepped (bind act b (v ∷ [])) ns child (count_binds bs) at (count_items is) (suc b)) (begin_binds Stepped (with_bound (place_at act bound) (bind_of x v ∷ [])) bs is fs)
let_alike T S g act b bound w ns fs fr child at x bs is v h k =
    binds_alike T S g Stepped (bind act b (v ∷ [])) (suc b) (bound ++ bind_of x v ∷ []) (bound_more_is act b bound x v w) ns fs (frames_up T S (bind act b (v ∷ [])) b (suc b) ns fs (one_more b) (frames_kept T S act b b (v ∷ []) ns fs (not_above b) fr)) child at bs is
    (respelled (λ z. draft_binds (outside_at T (place_at act bound)) z bs) _ _ (sym (names_more bound x v)) h)
    (respelled (λ z. draft_items (outside_at T (place_at act bound)) (z ++ bind_names bs) is) _ _ (sym (names_more bound x v)) k) where
      one_more : (n : ℕ) → n ≤ suc n
      one_more n = omega arith

-- the same of a variable
pub var_alike : {R : Type 0} → (T : Table R) (S : Store R) → Agrees T S → (act : Activation R) (b : ℕ) (bound : List (Bound R)) → IsBound act b bound → (ns : List (NodeFrame R)) (fs : List (TreeFrame R)) → FramesAre T S act b ns fs → (child at : ℕ) (x : Bytes) (bs : BindTrees) (is : ItemTrees) (v : PlainValue R)
    → StandsAt T S act.code (draft_binds (outside_at T (place_at act bound)) (bound_names bound ++ x ∷ []) bs) child → StandsAt T S act.code (draft_items (outside_at T (place_at act bound)) ((bound_names bound ++ x ∷ []) ++ bind_names bs) is) at
    → Same T S (vars_node S Silent (bind act b (v ∷ [])) ns child (count_binds bs) at (count_items is) (suc b)) (begin_vars Silent (with_bound (place_at act bound) (bind_of x v ∷ [])) bs is fs)
var_alike T S g act b bound w ns fs fr child at x bs is v h k =
    vars_alike T S g Silent (bind act b (v ∷ [])) (suc b) (bound ++ bind_of x v ∷ []) (bound_more_is act b bound x v w) ns fs (frames_up T S (bind act b (v ∷ [])) b (suc b) ns fs (one_more b) (frames_kept T S act b b (v ∷ []) ns fs (not_above b) fr)) child at bs is
    (respelled (λ z. draft_binds (outside_at T (place_at act bound)) z bs) _ _ (sym (names_more bound x v)) h)
    (respelled (λ z. draft_items (outside_at T (place_at act bound)) (z ++ bind_names bs) is) _ _ (sym (names_more bound x v)) k) where
      one_more : (n : ℕ) → n ≤ suc n
      one_more n = omega arith

-- the block of a `for` with a number
number_alike : {R : Type 0} → (T : Table R) (S : Store R) (act : Activation R) (b : ℕ) (bound : List (Bound R)) → IsBound act b bound → (ns : List (NodeFrame R)) (fs : List (TreeFrame R)) → FramesAre T S act b ns fs → (child : ℕ) (x : Bytes) (block : BlockTree) (i n : ℤ)
    → StandsAt T S act.code (draft_block (outside_at T (place_at act bound)) (bound_names bound ++ x ∷ []) block) child → Same T S (count_node_at act ns i n child b) (count_at (place_at act bound) i n x block fs)
number_alike {R} T S act b bound w ns fs fr child x block i n h =
    alike T S Stepped (bind act b (IntValue i ∷ [])) (suc b) (NodeCount i n child b ∷ ns) (NodeRun child (suc b)) (push (place_at act bound) (PendingCount i n x block) fs) (TreeRun (with_bound (place_at act bound) (bind_of x (IntValue i) ∷ [])) (BlockTask block))
    (NodeCount i n child b, ns, refl, (child, b, refl, one_more b, place_kept act b b (IntValue i ∷ []) (place_at act bound) (not_above b) (bound, refl, w), h), frames_kept T S act b b (IntValue i ∷ []) ns fs (not_above b) fr)
    (child, refl, (bound ++ bind_of x (IntValue i) ∷ [], refl, bound_more_is act b bound x (IntValue i) w), respelled (λ z. draft_block (outside_at T (place_at act bound)) z block) _ _ (sym (names_more bound x (IntValue i))) h) where
      one_more : (n : ℕ) → n ≤ suc n
      one_more n = omega arith

-- a `for` from a number on, and behind one
pub counting_alike : {R : Type 0} → (T : Table R) (S : Store R) (act : Activation R) (b : ℕ) (bound : List (Bound R)) → IsBound act b bound → (ns : List (NodeFrame R)) (fs : List (TreeFrame R)) → FramesAre T S act b ns fs → (child : ℕ) (x : Bytes) (block : BlockTree) (i n : ℤ)
    → StandsAt T S act.code (draft_block (outside_at T (place_at act bound)) (bound_names bound ++ x ∷ []) block) child → Same T S (count_node act ns i n child b) (begin_count (place_at act bound) i n x block fs)
counting_alike {R} T S act b bound w ns fs fr child x block i n h = at (int_lt n i) where
  at : (c : Bool) → Same T S (if c then node_moved Stepped act ns (NodeValue OkayValue) else count_node_at act ns i n child b) (if c then tree_moved Stepped fs (TreeValue OkayValue) else count_at (place_at act bound) i n x block fs)
  at true = alike T S Stepped act b ns (NodeValue OkayValue) fs (TreeValue OkayValue) fr refl
  at false = number_alike T S act b bound w ns fs fr child x block i n h

pub next_alike : {R : Type 0} → (T : Table R) (S : Store R) (act : Activation R) (b : ℕ) (bound : List (Bound R)) → IsBound act b bound → (ns : List (NodeFrame R)) (fs : List (TreeFrame R)) → FramesAre T S act b ns fs → (child : ℕ) (x : Bytes) (block : BlockTree) (i n : ℤ)
    → StandsAt T S act.code (draft_block (outside_at T (place_at act bound)) (bound_names bound ++ x ∷ []) block) child → Same T S (next_count_node act ns i n child b) (next_count (place_at act bound) i n x block fs)
next_alike {R} T S act b bound w ns fs fr child x block i n h = at (int_lt i n) where
  at : (c : Bool) → Same T S (if c then count_node_at act ns (i +ℤ pos 1) n child b else node_moved Stepped act ns (NodeValue OkayValue)) (if c then count_at (place_at act bound) (i +ℤ pos 1) n x block fs else tree_moved Stepped fs (TreeValue OkayValue))
  at true = number_alike T S act b bound w ns fs fr child x block (i +ℤ pos 1) n h
  at false = alike T S Stepped act b ns (NodeValue OkayValue) fs (TreeValue OkayValue) fr refl

pub to_alike : {R : Type 0} → (T : Table R) (S : Store R) (act : Activation R) (b : ℕ) (bound : List (Bound R)) → IsBound act b bound → (ns : List (NodeFrame R)) (fs : List (TreeFrame R)) → FramesAre T S act b ns fs → (child : ℕ) (x : Bytes) (block : BlockTree) (v z : PlainValue R)
    → StandsAt T S act.code (draft_block (outside_at T (place_at act bound)) (bound_names bound ++ x ∷ []) block) child → Same T S (give_node_to v z act ns child b) (give_to v z (place_at act bound) x block fs)
to_alike T S act b bound w ns fs fr child x block (IntValue m) (IntValue n) h = counting_alike T S act b bound w ns fs fr child x block m n h
to_alike T S act b bound w ns fs fr child x block (IntValue m) (TruthValue q) h = alike T S Stepped act b ns (node_raises (codes "type")) fs (tree_raises (codes "type")) fr refl
to_alike T S act b bound w ns fs fr child x block (IntValue m) OkayValue h = alike T S Stepped act b ns (node_raises (codes "type")) fs (tree_raises (codes "type")) fr refl
to_alike T S act b bound w ns fs fr child x block (IntValue m) (TextValue q) h = alike T S Stepped act b ns (node_raises (codes "type")) fs (tree_raises (codes "type")) fr refl
to_alike T S act b bound w ns fs fr child x block (IntValue m) (ExceptionValue q) h = alike T S Stepped act b ns (node_raises (codes "type")) fs (tree_raises (codes "type")) fr refl
to_alike T S act b bound w ns fs fr child x block (IntValue m) (ThreadValue q) h = alike T S Stepped act b ns (node_raises (codes "type")) fs (tree_raises (codes "type")) fr refl
to_alike T S act b bound w ns fs fr child x block (IntValue m) (ClosureValue tq cq gq iq csq) h = alike T S Stepped act b ns (node_raises (codes "type")) fs (tree_raises (codes "type")) fr refl
to_alike T S act b bound w ns fs fr child x block (IntValue m) (LocationValue kq q) h = alike T S Stepped act b ns (node_raises (codes "type")) fs (tree_raises (codes "type")) fr refl
to_alike T S act b bound w ns fs fr child x block (TruthValue y) z h = alike T S Stepped act b ns (node_raises (codes "type")) fs (tree_raises (codes "type")) fr refl
to_alike T S act b bound w ns fs fr child x block OkayValue z h = alike T S Stepped act b ns (node_raises (codes "type")) fs (tree_raises (codes "type")) fr refl
to_alike T S act b bound w ns fs fr child x block (TextValue y) z h = alike T S Stepped act b ns (node_raises (codes "type")) fs (tree_raises (codes "type")) fr refl
to_alike T S act b bound w ns fs fr child x block (ExceptionValue y) z h = alike T S Stepped act b ns (node_raises (codes "type")) fs (tree_raises (codes "type")) fr refl
to_alike T S act b bound w ns fs fr child x block (ThreadValue y) z h = alike T S Stepped act b ns (node_raises (codes "type")) fs (tree_raises (codes "type")) fr refl
to_alike T S act b bound w ns fs fr child x block (ClosureValue ty cy gy iy csy) z h = alike T S Stepped act b ns (node_raises (codes "type")) fs (tree_raises (codes "type")) fr refl
to_alike T S act b bound w ns fs fr child x block (LocationValue ky y) z h = alike T S Stepped act b ns (node_raises (codes "type")) fs (tree_raises (codes "type")) fr refl

pub if_alike : {R : Type 0} → (T : Table R) (S : Store R) → Agrees T S → (act : Activation R) (b : ℕ) (bound : List (Bound R)) → IsBound act b bound → (ns : List (NodeFrame R)) (fs : List (TreeFrame R)) → FramesAre T S act b ns fs → (child : ℕ) (block : BlockTree) (arms : ArmTrees) (last : MaybeBlock) (v : PlainValue R)
    → StandsAt T S act.code (Both (draft_block (outside_at T (place_at act bound)) (bound_names bound) block) (Both (draft_arms (outside_at T (place_at act bound)) (bound_names bound) arms) (draft_maybe (outside_at T (place_at act bound)) (bound_names bound) last))) child
    → Same T S (give_node_if S v act ns child (count_arms arms) (has_block last) b) (give_if v (place_at act bound) block arms last fs)
if_alike T S g act b bound w ns fs fr child block arms last (IntValue z) h = alike T S Stepped act b ns (node_raises (codes "type")) fs (tree_raises (codes "type")) fr refl
if_alike T S g act b bound w ns fs fr child block arms last (TruthValue true) h = alike T S Stepped act b ns (NodeRun child b) fs (TreeRun (place_at act bound) (BlockTask block)) fr (child, refl, (bound, refl, w), first_of T S h)
if_alike T S g act b bound w ns fs fr child block arms last (TruthValue false) h = arms_alike T S g Stepped act b bound w ns fs fr (S.end act.code child) arms last (second_of T S g (drafted_block _ _ block) h)
if_alike T S g act b bound w ns fs fr child block arms last OkayValue h = alike T S Stepped act b ns (node_raises (codes "type")) fs (tree_raises (codes "type")) fr refl
if_alike T S g act b bound w ns fs fr child block arms last (TextValue z) h = alike T S Stepped act b ns (node_raises (codes "type")) fs (tree_raises (codes "type")) fr refl
if_alike T S g act b bound w ns fs fr child block arms last (ExceptionValue z) h = alike T S Stepped act b ns (node_raises (codes "type")) fs (tree_raises (codes "type")) fr refl
if_alike T S g act b bound w ns fs fr child block arms last (ThreadValue z) h = alike T S Stepped act b ns (node_raises (codes "type")) fs (tree_raises (codes "type")) fr refl
if_alike T S g act b bound w ns fs fr child block arms last (ClosureValue t c group index cs) h = alike T S Stepped act b ns (node_raises (codes "type")) fs (tree_raises (codes "type")) fr refl
if_alike T S g act b bound w ns fs fr child block arms last (LocationValue k z) h = alike T S Stepped act b ns (node_raises (codes "type")) fs (tree_raises (codes "type")) fr refl

or_alike : {R : Type 0} → (T : Table R) (S : Store R) → (act : Activation R) (b : ℕ) (bound : List (Bound R)) → IsBound act b bound → (ns2 : List (NodeFrame R)) (fs : List (TreeFrame R)) (links : LinkTrees) → FramesAre T S act b ns2 (with_links (place_at act bound) links fs) → (child : ℕ) (e : ExprTree) (v : PlainValue R)
    → StandsAt T S act.code (draft_expr (outside_at T (place_at act bound)) (bound_names bound) e) child → Same T S (give_node_or v act ns2 child b) (give_or v (place_at act bound) e links fs)
or_alike T S act b bound w ns2 fs links fr child e (IntValue z) h = alike T S Stepped act b ns2 (node_raises (codes "type")) (with_links (place_at act bound) links fs) (tree_raises (codes "type")) fr refl
or_alike T S act b bound w ns2 fs links fr child e (TruthValue true) h = alike T S Stepped act b ns2 (NodeValue (TruthValue true)) (with_links (place_at act bound) links fs) (TreeValue (TruthValue true)) fr refl
or_alike T S act b bound w ns2 fs links fr child e (TruthValue false) h = alike T S Stepped act b ns2 (NodeRun child b) (with_links (place_at act bound) links fs) (TreeRun (place_at act bound) (ExprTask e)) fr (child, refl, (bound, refl, w), h)
or_alike T S act b bound w ns2 fs links fr child e OkayValue h = alike T S Stepped act b ns2 (node_raises (codes "type")) (with_links (place_at act bound) links fs) (tree_raises (codes "type")) fr refl
or_alike T S act b bound w ns2 fs links fr child e (TextValue z) h = alike T S Stepped act b ns2 (node_raises (codes "type")) (with_links (place_at act bound) links fs) (tree_raises (codes "type")) fr refl
or_alike T S act b bound w ns2 fs links fr child e (ExceptionValue z) h = alike T S Stepped act b ns2 (node_raises (codes "type")) (with_links (place_at act bound) links fs) (tree_raises (codes "type")) fr refl
or_alike T S act b bound w ns2 fs links fr child e (ThreadValue z) h = alike T S Stepped act b ns2 (node_raises (codes "type")) (with_links (place_at act bound) links fs) (tree_raises (codes "type")) fr refl
or_alike T S act b bound w ns2 fs links fr child e (ClosureValue t c group index cs) h = alike T S Stepped act b ns2 (node_raises (codes "type")) (with_links (place_at act bound) links fs) (tree_raises (codes "type")) fr refl
or_alike T S act b bound w ns2 fs links fr child e (LocationValue k z) h = alike T S Stepped act b ns2 (node_raises (codes "type")) (with_links (place_at act bound) links fs) (tree_raises (codes "type")) fr refl

and_alike : {R : Type 0} → (T : Table R) (S : Store R) → (act : Activation R) (b : ℕ) (bound : List (Bound R)) → IsBound act b bound → (ns2 : List (NodeFrame R)) (fs : List (TreeFrame R)) (links : LinkTrees) → FramesAre T S act b ns2 (with_links (place_at act bound) links fs) → (child : ℕ) (e : ExprTree) (v : PlainValue R)
    → StandsAt T S act.code (draft_expr (outside_at T (place_at act bound)) (bound_names bound) e) child → Same T S (give_node_and v act ns2 child b) (give_and v (place_at act bound) e links fs)
and_alike T S act b bound w ns2 fs links fr child e (IntValue z) h = alike T S Stepped act b ns2 (node_raises (codes "type")) (with_links (place_at act bound) links fs) (tree_raises (codes "type")) fr refl
and_alike T S act b bound w ns2 fs links fr child e (TruthValue true) h = alike T S Stepped act b ns2 (NodeRun child b) (with_links (place_at act bound) links fs) (TreeRun (place_at act bound) (ExprTask e)) fr (child, refl, (bound, refl, w), h)
and_alike T S act b bound w ns2 fs links fr child e (TruthValue false) h = alike T S Stepped act b ns2 (NodeValue (TruthValue false)) (with_links (place_at act bound) links fs) (TreeValue (TruthValue false)) fr refl
and_alike T S act b bound w ns2 fs links fr child e OkayValue h = alike T S Stepped act b ns2 (node_raises (codes "type")) (with_links (place_at act bound) links fs) (tree_raises (codes "type")) fr refl
and_alike T S act b bound w ns2 fs links fr child e (TextValue z) h = alike T S Stepped act b ns2 (node_raises (codes "type")) (with_links (place_at act bound) links fs) (tree_raises (codes "type")) fr refl
and_alike T S act b bound w ns2 fs links fr child e (ExceptionValue z) h = alike T S Stepped act b ns2 (node_raises (codes "type")) (with_links (place_at act bound) links fs) (tree_raises (codes "type")) fr refl
and_alike T S act b bound w ns2 fs links fr child e (ThreadValue z) h = alike T S Stepped act b ns2 (node_raises (codes "type")) (with_links (place_at act bound) links fs) (tree_raises (codes "type")) fr refl
and_alike T S act b bound w ns2 fs links fr child e (ClosureValue t c group index cs) h = alike T S Stepped act b ns2 (node_raises (codes "type")) (with_links (place_at act bound) links fs) (tree_raises (codes "type")) fr refl
and_alike T S act b bound w ns2 fs links fr child e (LocationValue k z) h = alike T S Stepped act b ns2 (node_raises (codes "type")) (with_links (place_at act bound) links fs) (tree_raises (codes "type")) fr refl

left_alike : {R : Type 0} → (T : Table R) (S : Store R) → (act : Activation R) (b : ℕ) (bound : List (Bound R)) → IsBound act b bound → (ns2 : List (NodeFrame R)) (fs : List (TreeFrame R)) (links : LinkTrees) → FramesAre T S act b ns2 (with_links (place_at act bound) links fs) → (child : ℕ) (op : Operator) (e : ExprTree) (v : PlainValue R)
    → StandsAt T S act.code (draft_expr (outside_at T (place_at act bound)) (bound_names bound) e) child → Same T S (give_node_left v (Some op) act ns2 child b) (give_left v (place_at act bound) op e links fs)
left_alike T S act b bound w ns2 fs links fr child Operator.Orif e v h = or_alike T S act b bound w ns2 fs links fr child e v h
left_alike T S act b bound w ns2 fs links fr child Operator.Andif e v h = and_alike T S act b bound w ns2 fs links fr child e v h
left_alike T S act b bound w ns2 fs links fr child op e v h =
    alike T S Silent act b (NodeRight v op ∷ ns2) (NodeRun child b) (push (place_at act bound) (PendingRight v op) (with_links (place_at act bound) links fs)) (TreeRun (place_at act bound) (ExprTask e)) (NodeRight v op, ns2, refl, refl, fr) (child, refl, (bound, refl, w), h)

-- the frame for the operators behind one
links_frame : {R : Type 0} → (T : Table R) (S : Store R) → (act : Activation R) (b : ℕ) (bound : List (Bound R)) → IsBound act b bound → (ns : List (NodeFrame R)) (fs : List (TreeFrame R)) → FramesAre T S act b ns fs → (chain index child : ℕ) (operators : List Operator) → node_at S act.code chain ≡ Some (n.Chain operators) → (links : LinkTrees) → drop index operators ≡ operators_of links
    → StandsAt T S act.code (draft_links (outside_at T (place_at act bound)) (bound_names bound) links) child
    → FramesAre T S act b (with_operator (slice_get operators index) chain index child b ns) (with_links (place_at act bound) links fs)
links_frame {R} T S act b bound w ns fs fr chain index child operators q NoLinks e h = subst (λ (o : Option Operator). FramesAre T S act b (with_operator o chain index child b ns) fs) (sym (past_end operators index e)) fr
links_frame {R} T S act b bound w ns fs fr chain index child operators q (ALink op x place links) e h =
    subst (λ (o : Option Operator). FramesAre T S act b (with_operator o chain index child b ns) (push (place_at act bound) (PendingChain op x links) fs)) (sym (item_here operators index op (operators_of links) e))
    (NodeChain chain index child b, ns, refl, (chain, index, child, b, refl, not_above b, (bound, refl, w), operators, q, e, h), fr)

pub chain_given : {R : Type 0} → (T : Table R) (S : Store R) → Agrees T S → (act : Activation R) (b : ℕ) (bound : List (Bound R)) → IsBound act b bound → (ns : List (NodeFrame R)) (fs : List (TreeFrame R)) → FramesAre T S act b ns fs → (chain index child : ℕ) (operators : List Operator) → node_at S act.code chain ≡ Some (n.Chain operators) → (op : Operator) (e : ExprTree) (links : LinkTrees) → drop index operators ≡ op ∷ operators_of links
    → StandsAt T S act.code (Both (draft_expr (outside_at T (place_at act bound)) (bound_names bound) e) (draft_links (outside_at T (place_at act bound)) (bound_names bound) links)) child → (v : PlainValue R)
    → Same T S (give_node_left v (operator_in (node_at S act.code chain) index) act (with_operator (operator_in (node_at S act.code chain) (suc index)) chain (suc index) (S.end act.code child) b ns) child b) (give_left v (place_at act bound) op e links fs)
chain_given {R} T S g act b bound w ns fs fr chain index child operators q op e links d h v =
    subst (λ (o : Option Node). Same T S (give_node_left v (operator_in o index) act (with_operator (operator_in o (suc index)) chain (suc index) (S.end act.code child) b ns) child b) (give_left v (place_at act bound) op e links fs)) (sym q)
    (subst (λ (o : Option Operator). Same T S (give_node_left v o act (with_operator (slice_get operators (suc index)) chain (suc index) (S.end act.code child) b ns) child b) (give_left v (place_at act bound) op e links fs)) (sym (item_here operators index op (operators_of links) d))
    (left_alike T S act b bound w _ fs links (links_frame T S act b bound w ns fs fr chain (suc index) (S.end act.code child) operators q links (behind_here operators index op (operators_of links) d) (second_of T S g (drafted_expr _ _ e) h)) child op e v (first_of T S h)))

select_alike : {R : Type 0} → (T : Table R) (S : Store R) → (a : ℕ) (act : Activation R) (b : ℕ) (bound : List (Bound R)) (ns2 : List (NodeFrame R)) (fs : List (TreeFrame R)) (ss : SuffixTrees) → FramesAre T S act b ns2 (with_suffixes (place_at act bound) ss fs) → (at : ℕ) (x : Bytes) (place : ℕ) (v : PlainValue R)
    → Same T S (give_node_suffix S a v act ns2 at b (Some (n.Select x))) (give_suffix T a v (place_at act bound) (SelectSuffix x place) ss fs)
select_alike T S a act b bound ns2 fs ss fr at x place (IntValue z) = alike T S Stepped act b ns2 (node_raises (codes "type")) (with_suffixes (place_at act bound) ss fs) (tree_raises (codes "type")) fr refl
select_alike T S a act b bound ns2 fs ss fr at x place (TruthValue z) = alike T S Stepped act b ns2 (node_raises (codes "type")) (with_suffixes (place_at act bound) ss fs) (tree_raises (codes "type")) fr refl
select_alike T S a act b bound ns2 fs ss fr at x place OkayValue = alike T S Stepped act b ns2 (node_raises (codes "type")) (with_suffixes (place_at act bound) ss fs) (tree_raises (codes "type")) fr refl
select_alike T S a act b bound ns2 fs ss fr at x place (TextValue z) = alike T S Stepped act b ns2 (node_raises (codes "type")) (with_suffixes (place_at act bound) ss fs) (tree_raises (codes "type")) fr refl
select_alike T S a act b bound ns2 fs ss fr at x place (ExceptionValue z) = alike T S Stepped act b ns2 (node_raises (codes "type")) (with_suffixes (place_at act bound) ss fs) (tree_raises (codes "type")) fr refl
select_alike T S a act b bound ns2 fs ss fr at x place (ThreadValue z) = alike T S Stepped act b ns2 (node_raises (codes "type")) (with_suffixes (place_at act bound) ss fs) (tree_raises (codes "type")) fr refl
select_alike T S a act b bound ns2 fs ss fr at x place (ClosureValue t c group index cs) = alike T S Stepped act b ns2 (node_raises (codes "type")) (with_suffixes (place_at act bound) ss fs) (tree_raises (codes "type")) fr refl
select_alike T S a act b bound ns2 fs ss fr at x place (LocationValue Array z) = alike T S Stepped act b ns2 (node_raises (codes "type")) (with_suffixes (place_at act bound) ss fs) (tree_raises (codes "type")) fr refl
select_alike T S a act b bound ns2 fs ss fr at x place (LocationValue Variable z) = alike T S Stepped act b ns2 (node_raises (codes "type")) (with_suffixes (place_at act bound) ss fs) (tree_raises (codes "type")) fr refl
select_alike T S a act b bound ns2 fs ss fr at x place (LocationValue Writer z) = alike T S Stepped act b ns2 (node_raises (codes "type")) (with_suffixes (place_at act bound) ss fs) (tree_raises (codes "type")) fr refl
select_alike T S a act b bound ns2 fs ss fr at x place (LocationValue Condition z) = alike T S Stepped act b ns2 (node_raises (codes "type")) (with_suffixes (place_at act bound) ss fs) (tree_raises (codes "type")) fr refl
select_alike T S a act b bound ns2 fs ss fr at x place (LocationValue Engine z) = alike T S Stepped act b ns2 (node_raises (codes "type")) (with_suffixes (place_at act bound) ss fs) (tree_raises (codes "type")) fr refl
select_alike T S a act b bound ns2 fs ss fr at x place (LocationValue Object z) = alike T S (Asks (PlainGet z x)) act b ns2 (NodeAct (PlainGet z x) NodeHere) (with_suffixes (place_at act bound) ss fs) (TreeAct (PlainGet z x) TreeHere) fr (NodeHere, refl, refl)

pub head_given : {R : Type 0} → (T : Table R) (S : Store R) → Agrees T S → (a : ℕ) (act : Activation R) (b : ℕ) (bound : List (Bound R)) → IsBound act b bound → (ns : List (NodeFrame R)) (fs : List (TreeFrame R)) → FramesAre T S act b ns fs → (at : ℕ) (x : SuffixTree) (ss : SuffixTrees)
    → StandsAt T S act.code (Both (draft_suffix (outside_at T (place_at act bound)) (bound_names bound) None x) (draft_suffixes (outside_at T (place_at act bound)) (bound_names bound) None ss)) at → (v : PlainValue R)
    → Same T S (give_node_suffix S a v act (with_suffix (S.end act.code at) (count_suffixes ss) b ns) at b (node_at S act.code at)) (give_suffix T a v (place_at act bound) x ss fs)
head_given T S g a act b bound w ns fs fr at (ApplySuffix es place) ss h v =
    at_node T S act.code at (n.Apply (count_exprs es)) (give_node_suffix S a v act (with_suffix (S.end act.code at) (count_suffixes ss) b ns) at b) _ (node_here T S (first_of T S h))
    (args_alike T S g a act b bound w _ _ (suffix_frames T S act b bound w ns fs fr (S.end act.code at) ss (second_of T S g (drafted_suffix _ _ None (ApplySuffix es place)) h)) (ToCall v) [] (suc at) es (next_here T S (first_of T S h)))
head_given T S g a act b bound w ns fs fr at (SelectSuffix x place) ss h v =
    at_node T S act.code at (n.Select x) (give_node_suffix S a v act (with_suffix (S.end act.code at) (count_suffixes ss) b ns) at b) _ (node_here T S (first_of T S h))
    (select_alike T S a act b bound _ fs ss (suffix_frames T S act b bound w ns fs fr (S.end act.code at) ss (second_of T S g (drafted_suffix (outside_at T (place_at act bound)) (bound_names bound) None (SelectSuffix x place)) h)) at x place v)
head_given T S g a act b bound w ns fs fr at (InvokeSuffix x es place) ss h v =
    at_node T S act.code at (n.Invoke x (count_exprs es)) (give_node_suffix S a v act (with_suffix (S.end act.code at) (count_suffixes ss) b ns) at b) _ (node_here T S (first_of T S h))
    (args_alike T S g a act b bound w _ _ (suffix_frames T S act b bound w ns fs fr (S.end act.code at) ss (second_of T S g (drafted_suffix _ _ None (InvokeSuffix x es place)) h)) (ToInvoke x) (v ∷ []) (suc at) es (next_here T S (first_of T S h)))
head_given T S g a act b bound w ns fs fr at (IndexSuffix e place) ss h v =
    at_node T S act.code at n.Index (give_node_suffix S a v act (with_suffix (S.end act.code at) (count_suffixes ss) b ns) at b) _ (node_here T S (first_of T S h))
    (args_alike T S g a act b bound w _ _ (suffix_frames T S act b bound w ns fs fr (S.end act.code at) ss (second_of T S g (drafted_suffix _ _ None (IndexSuffix e place)) h)) ToIndex (v ∷ []) (suc at) (AnExpr e NoExprs) (alone T S (next_here T S (first_of T S h))))

pub leave_alike : {R : Type 0} → (T : Table R) (S : Store R) (act : Activation R) (b : ℕ) (ns : List (NodeFrame R)) (fs : List (TreeFrame R)) → FramesAre T S act b ns fs → (o : R) (m : Mode) (k : Kept R) → Same T S (leave_node o m k act ns) (leave_tree o m k fs)
leave_alike T S act b ns fs fr o Held k = changed_alike T S LeavesMethod _ _ (alike T S (Asks (PlainLeave o k)) act b ns (NodeAct (PlainLeave o k) NodeHere) fs (TreeAct (PlainLeave o k) TreeHere) fr (NodeHere, refl, refl))
leave_alike T S act b ns fs fr o Plain (KeptValue v) = changed_alike T S LeavesMethod _ _ (alike T S Stepped act b ns (NodeValue v) fs (TreeValue v) fr refl)
leave_alike T S act b ns fs fr o Plain (KeptRaising r) = changed_alike T S LeavesMethod _ _ (alike T S Stepped act b ns (NodeRaising r) fs (TreeRaising r) fr refl)
leave_alike T S act b ns fs fr o Inner (KeptValue v) = changed_alike T S LeavesMethod _ _ (alike T S Stepped act b ns (NodeValue v) fs (TreeValue v) fr refl)
leave_alike T S act b ns fs fr o Inner (KeptRaising r) = changed_alike T S LeavesMethod _ _ (alike T S Stepped act b ns (NodeRaising r) fs (TreeRaising r) fr refl)

pub foreach_alike : {R : Type 0} → (T : Table R) (S : Store R) (act : Activation R) (b : ℕ) (bound : List (Bound R)) → IsBound act b bound → (ns : List (NodeFrame R)) (fs : List (TreeFrame R)) → FramesAre T S act b ns fs → (child : ℕ) (x : Bytes) (block : BlockTree) (v : PlainValue R)
    → StandsAt T S act.code (draft_block (outside_at T (place_at act bound)) (bound_names bound ++ x ∷ []) block) child → Same T S (give_node_foreach v act ns child b) (give_foreach v (place_at act bound) x block fs)
foreach_alike T S act b bound w ns fs fr child x block (IntValue z) h = alike T S Stepped act b ns (node_raises (codes "type")) fs (tree_raises (codes "type")) fr refl
foreach_alike T S act b bound w ns fs fr child x block (TruthValue z) h = alike T S Stepped act b ns (node_raises (codes "type")) fs (tree_raises (codes "type")) fr refl
foreach_alike T S act b bound w ns fs fr child x block OkayValue h = alike T S Stepped act b ns (node_raises (codes "type")) fs (tree_raises (codes "type")) fr refl
foreach_alike T S act b bound w ns fs fr child x block (TextValue z) h = alike T S Stepped act b ns (node_raises (codes "type")) fs (tree_raises (codes "type")) fr refl
foreach_alike T S act b bound w ns fs fr child x block (ExceptionValue z) h = alike T S Stepped act b ns (node_raises (codes "type")) fs (tree_raises (codes "type")) fr refl
foreach_alike T S act b bound w ns fs fr child x block (ThreadValue z) h = alike T S Stepped act b ns (node_raises (codes "type")) fs (tree_raises (codes "type")) fr refl
foreach_alike T S act b bound w ns fs fr child x block (LocationValue Object z) h = alike T S Stepped act b ns (node_raises (codes "type")) fs (tree_raises (codes "type")) fr refl
foreach_alike T S act b bound w ns fs fr child x block (LocationValue Variable z) h = alike T S Stepped act b ns (node_raises (codes "type")) fs (tree_raises (codes "type")) fr refl
foreach_alike T S act b bound w ns fs fr child x block (LocationValue Writer z) h = alike T S Stepped act b ns (node_raises (codes "type")) fs (tree_raises (codes "type")) fr refl
foreach_alike T S act b bound w ns fs fr child x block (LocationValue Condition z) h = alike T S Stepped act b ns (node_raises (codes "type")) fs (tree_raises (codes "type")) fr refl
foreach_alike T S act b bound w ns fs fr child x block (LocationValue Engine z) h = alike T S Stepped act b ns (node_raises (codes "type")) fs (tree_raises (codes "type")) fr refl
foreach_alike T S act b bound w ns fs fr child x block (ClosureValue t c group index cs) h = alike T S Stepped act b ns (node_raises (codes "type")) fs (tree_raises (codes "type")) fr refl
foreach_alike T S act b bound w ns fs fr child x block (LocationValue Array r) h = alike T S (Asks (PlainEachSize r)) act b ns (NodeAct (PlainEachSize r) (NodeScope child b)) fs (TreeAct (PlainEachSize r) (TreeScope (place_at act bound) x block)) fr (NodeScope child b, refl, (child, refl, (bound, refl, w), h))

-- the block of a `foreach` with an item
pub item_alike : {R : Type 0} → (T : Table R) (S : Store R) (act : Activation R) (b : ℕ) (bound : List (Bound R)) → IsBound act b bound → (ns : List (NodeFrame R)) (fs : List (TreeFrame R)) → FramesAre T S act b ns fs → (child : ℕ) (x : Bytes) (block : BlockTree) (r : R) (i n : ℕ) (v : PlainValue R)
    → StandsAt T S act.code (draft_block (outside_at T (place_at act bound)) (bound_names bound ++ x ∷ []) block) child
    → Same T S (node_moved Silent (bind act b (v ∷ [])) (NodeEach r i n child b ∷ ns) (NodeRun child (suc b))) (tree_moved Silent (push (place_at act bound) (PendingEach r i n x block) fs) (TreeRun (with_bound (place_at act bound) (bind_of x v ∷ [])) (BlockTask block)))
item_alike {R} T S act b bound w ns fs fr child x block r i n v h = record {
  tag = refl;
  makes = refl;
  height = suc b;
  frames = (NodeEach r i n child b, ns, refl, (child, b, refl, one_more b, place_kept act b b (v ∷ []) (place_at act bound) (not_above b) (bound, refl, w), h), frames_kept T S act b b (v ∷ []) ns fs (not_above b) fr);
  focus = (child, refl, (bound ++ bind_of x v ∷ [], refl, bound_more_is act b bound x v w), respelled (λ z. draft_block (outside_at T (place_at act bound)) z block) _ _ (sym (names_more bound x v)) h);
} where
  one_more : (n : ℕ) → n ≤ suc n
  one_more n = omega arith

pub watch_alike : {R : Type 0} → (T : Table R) (S : Store R) (self : Self R) (act : Activation R) (b : ℕ) (bound : List (Bound R)) → IsBound act b bound → (ns : List (NodeFrame R)) (fs : List (TreeFrame R)) → FramesAre T S act b ns fs → (child : ℕ) (e : ExprTree) (v : PlainValue R)
    → StandsAt T S act.code (draft_expr (outside_at T (place_at act bound)) (bound_names bound) e) child → Same T S (give_node_watch self v act ns child b) (give_watch self v (place_at act bound) e fs)
watch_alike T S self act b bound w ns fs fr child e (IntValue z) h = alike T S Stepped act b ns (node_raises (codes "type")) fs (tree_raises (codes "type")) fr refl
watch_alike T S self act b bound w ns fs fr child e OkayValue h = alike T S Stepped act b ns (node_raises (codes "type")) fs (tree_raises (codes "type")) fr refl
watch_alike T S self act b bound w ns fs fr child e (TextValue z) h = alike T S Stepped act b ns (node_raises (codes "type")) fs (tree_raises (codes "type")) fr refl
watch_alike T S self act b bound w ns fs fr child e (ExceptionValue z) h = alike T S Stepped act b ns (node_raises (codes "type")) fs (tree_raises (codes "type")) fr refl
watch_alike T S self act b bound w ns fs fr child e (ThreadValue z) h = alike T S Stepped act b ns (node_raises (codes "type")) fs (tree_raises (codes "type")) fr refl
watch_alike T S self act b bound w ns fs fr child e (TruthValue z) h = alike T S Stepped act b ns (node_raises (codes "type")) fs (tree_raises (codes "type")) fr refl
watch_alike T S self act b bound w ns fs fr child e (LocationValue Object z) h = alike T S Stepped act b ns (node_raises (codes "type")) fs (tree_raises (codes "type")) fr refl
watch_alike T S self act b bound w ns fs fr child e (LocationValue Array z) h = alike T S Stepped act b ns (node_raises (codes "type")) fs (tree_raises (codes "type")) fr refl
watch_alike T S self act b bound w ns fs fr child e (LocationValue Variable z) h = alike T S Stepped act b ns (node_raises (codes "type")) fs (tree_raises (codes "type")) fr refl
watch_alike T S self act b bound w ns fs fr child e (LocationValue Writer z) h = alike T S Stepped act b ns (node_raises (codes "type")) fs (tree_raises (codes "type")) fr refl
watch_alike T S self act b bound w ns fs fr child e (LocationValue Engine z) h = alike T S Stepped act b ns (node_raises (codes "type")) fs (tree_raises (codes "type")) fr refl
watch_alike T S self act b bound w ns fs fr child e (ClosureValue t n group index cs) h = alike T S Stepped act b ns (node_raises (codes "type")) fs (tree_raises (codes "type")) fr refl
watch_alike {R} T S self act b bound w ns fs fr child e (LocationValue Condition c) h = at self.object self.plain where
  at : (o : Option R) (plain : Bool) → Same T S (begin_node_watch o plain c act ns child b) (begin_watch o plain c (place_at act bound) e fs)
  at (Some o) false = alike T S Stepped act b (NodeTesting o c child b ∷ ns) (NodeRun child b) (push (place_at act bound) (PendingTesting o c e) fs) (TreeRun (place_at act bound) (ExprTask e)) (NodeTesting o c child b, ns, refl, (child, b, refl, not_above b, (bound, refl, w), h), fr) (child, refl, (bound, refl, w), h)
  at (Some o) true = alike T S Stepped act b ns (node_raises (codes "not_serialized")) fs (tree_raises (codes "not_serialized")) fr refl
  at None plain = alike T S Stepped act b ns (node_raises (codes "not_serialized")) fs (tree_raises (codes "not_serialized")) fr refl

pub testing_alike : {R : Type 0} → (T : Table R) (S : Store R) (act : Activation R) (b : ℕ) (bound : List (Bound R)) → IsBound act b bound → (ns : List (NodeFrame R)) (fs : List (TreeFrame R)) → FramesAre T S act b ns fs → (child : ℕ) (o c : R) (e : ExprTree) (v : PlainValue R)
    → StandsAt T S act.code (draft_expr (outside_at T (place_at act bound)) (bound_names bound) e) child → Same T S (give_node_testing o c v act ns child b) (give_testing o c v (place_at act bound) e fs)
testing_alike T S act b bound w ns fs fr child o c e (TruthValue true) h = alike T S Stepped act b ns (NodeValue OkayValue) fs (TreeValue OkayValue) fr refl
testing_alike T S act b bound w ns fs fr child o c e (TruthValue false) h = alike T S (Asks (PlainLineUp o c)) act b ns (NodeAct (PlainLineUp o c) (NodeTest child b)) fs (TreeAct (PlainLineUp o c) (TreeTest (place_at act bound) e)) fr (NodeTest child b, refl, (child, refl, (bound, refl, w), h))
testing_alike T S act b bound w ns fs fr child o c e (IntValue z) h = alike T S Stepped act b ns (node_raises (codes "type")) fs (tree_raises (codes "type")) fr refl
testing_alike T S act b bound w ns fs fr child o c e OkayValue h = alike T S Stepped act b ns (node_raises (codes "type")) fs (tree_raises (codes "type")) fr refl
testing_alike T S act b bound w ns fs fr child o c e (TextValue z) h = alike T S Stepped act b ns (node_raises (codes "type")) fs (tree_raises (codes "type")) fr refl
testing_alike T S act b bound w ns fs fr child o c e (ExceptionValue z) h = alike T S Stepped act b ns (node_raises (codes "type")) fs (tree_raises (codes "type")) fr refl
testing_alike T S act b bound w ns fs fr child o c e (ThreadValue z) h = alike T S Stepped act b ns (node_raises (codes "type")) fs (tree_raises (codes "type")) fr refl
testing_alike T S act b bound w ns fs fr child o c e (LocationValue k z) h = alike T S Stepped act b ns (node_raises (codes "type")) fs (tree_raises (codes "type")) fr refl
testing_alike T S act b bound w ns fs fr child o c e (ClosureValue t n group index cs) h = alike T S Stepped act b ns (node_raises (codes "type")) fs (tree_raises (codes "type")) fr refl

field_plain : {R : Type 0} → (S : Store R) (k : ℕ) (v : PlainValue R) (x : Bytes) (act : Activation R) (ns : List (NodeFrame R)) (child b : ℕ) (a : Node) → plain_node a ≡ true → give_node_field S k v x act ns child b (Some a) ≡ args_node S k (ToSetValue x) act (v ∷ []) child 1 b ns
field_plain S k v x act ns child b (n.Alias y) e = absurd (true≢false (sym e))
field_plain S k v x act ns child b (n.Meth number from) e = absurd (true≢false (sym e))
field_plain S k v x act ns child b a e = refl

-- the object of an update
pub field_alike : {R : Type 0} → (T : Table R) (S : Store R) → Agrees T S → (a : ℕ) (act : Activation R) (b : ℕ) (bound : List (Bound R)) → IsBound act b bound → (ns : List (NodeFrame R)) (fs : List (TreeFrame R)) → FramesAre T S act b ns fs → (child : ℕ) (x : Bytes) (body : FieldTree) (v : PlainValue R)
    → StandsAt T S act.code (draft_field (outside_at T (place_at act bound)) (bound_names bound) body) child
    → Same T S (give_node_field S a v x act ns child b (node_at S act.code child)) (give_field T a v (place_at act bound) x body fs)
field_alike {R} T S g a act b bound w ns fs fr child x (ValueOf e) v h =
    let hd = expr_head T S act.code _ _ child e h in
    subst (λ (m : NodeMoved R). Same T S m (begin_args T a (ToSetValue x) (place_at act bound) (v ∷ []) (AnExpr e NoExprs) fs)) (sym (ap (give_node_field S a v x act ns child b) hd.there ∙ field_plain S a v x act ns child b hd.node hd.plain))
    (args_alike T S g a act b bound w ns fs fr (ToSetValue x) (v ∷ []) child (AnExpr e NoExprs) (alone T S h))
field_alike T S g a act b bound w ns fs fr child x (AliasOf y e place) v h =
    at_node T S act.code child (n.Alias y) (give_node_field S a v x act ns child b) _ (node_here T S h)
    (args_alike T S g a act b bound w ns fs fr (ToSetAlias x y) (v ∷ []) (suc child) (AnExpr e NoExprs) (alone T S (next_here T S h)))
field_alike T S g a act b bound w ns fs fr child x (MethodOf q) v h =
    at_node T S act.code child (n.Meth h.nodes.0 (slots_of (outside_at T (place_at act bound)) (bound_names bound) (captured_by (outside_at T (place_at act bound)) (bound_names bound) q))) (give_node_field S a v x act ns child b) _
    (item_here (nodes_of (S.code act.code)) child _ h.nodes.1 h.nodes.2) (alike T S Silent act b ns (NodeMethod v x child b) fs (TreeMethod (place_at act bound) v x q) fr (child, refl, (bound, refl, w), h))

pub guards_alike : {R : Type 0} → (T : Table R) (S : Store R) → Agrees T S → (act : Activation R) (b : ℕ) (bound : List (Bound R)) → IsBound act b bound → (ns : List (NodeFrame R)) (fs : List (TreeFrame R)) → FramesAre T S act b ns fs → (e : Bytes) (at : ℕ) (arms : ArmTrees) (last : MaybeBlock)
    → StandsAt T S act.code (Both (draft_arms (outside_at T (place_at act bound)) (bound_names bound) arms) (draft_maybe (outside_at T (place_at act bound)) (bound_names bound) last)) at
    → Same T S (guards_node S e act ns at (count_arms arms) (has_block last) b) (begin_arms (place_at act bound) e arms last fs)
guards_alike T S g act b bound w ns fs fr e at NoArms last h = alike T S Stepped act b ns (NodeUnmet e at (has_block last) b) fs (TreeUnmet (place_at act bound) e last) fr (at, refl, (bound, refl, w), behind_none T S h)
guards_alike T S g act b bound w ns fs fr e at (AnArm c block arms) last h =
    let h2 = regrouped T S (regrouped T S h) in
    alike T S Stepped act b (NodeGuard e (S.end act.code at) (count_arms arms) (has_block last) b ∷ ns) (NodeRun at b) (push (place_at act bound) (PendingGuard e block arms last) fs) (TreeRun (place_at act bound) (ExprTask c))
    (NodeGuard e (S.end act.code at) (count_arms arms) (has_block last) b, ns, refl, (S.end act.code at, b, refl, not_above b, (bound, refl, w), second_of T S g (drafted_expr _ _ c) h2), fr)
    (at, refl, (bound, refl, w), first_of T S h2)

pub guard_alike : {R : Type 0} → (T : Table R) (S : Store R) → Agrees T S → (act : Activation R) (b : ℕ) (bound : List (Bound R)) → IsBound act b bound → (ns : List (NodeFrame R)) (fs : List (TreeFrame R)) → FramesAre T S act b ns fs → (e : Bytes) (child : ℕ) (block : BlockTree) (arms : ArmTrees) (last : MaybeBlock) (v : PlainValue R)
    → StandsAt T S act.code (Both (draft_block (outside_at T (place_at act bound)) (bound_names bound) block) (Both (draft_arms (outside_at T (place_at act bound)) (bound_names bound) arms) (draft_maybe (outside_at T (place_at act bound)) (bound_names bound) last))) child
    → Same T S (give_node_guard S v e act ns child (count_arms arms) (has_block last) b) (give_guard v (place_at act bound) e block arms last fs)
guard_alike T S g act b bound w ns fs fr e child block arms last (IntValue z) h = alike T S Stepped act b ns (node_raises (codes "type")) fs (tree_raises (codes "type")) fr refl
guard_alike T S g act b bound w ns fs fr e child block arms last (TruthValue z) h = alike T S Stepped act b ns (node_raises (codes "type")) fs (tree_raises (codes "type")) fr refl
guard_alike T S g act b bound w ns fs fr e child block arms last OkayValue h = alike T S Stepped act b ns (node_raises (codes "type")) fs (tree_raises (codes "type")) fr refl
guard_alike T S g act b bound w ns fs fr e child block arms last (TextValue z) h = alike T S Stepped act b ns (node_raises (codes "type")) fs (tree_raises (codes "type")) fr refl
guard_alike T S g act b bound w ns fs fr e child block arms last (ThreadValue z) h = alike T S Stepped act b ns (node_raises (codes "type")) fs (tree_raises (codes "type")) fr refl
guard_alike T S g act b bound w ns fs fr e child block arms last (ClosureValue t c group index cs) h = alike T S Stepped act b ns (node_raises (codes "type")) fs (tree_raises (codes "type")) fr refl
guard_alike T S g act b bound w ns fs fr e child block arms last (LocationValue k z) h = alike T S Stepped act b ns (node_raises (codes "type")) fs (tree_raises (codes "type")) fr refl
guard_alike {R} T S g act b bound w ns fs fr e child block arms last (ExceptionValue z) h = by_text (bytes_eq e z) where
  by_text : (d : Bool) → Same T S (if d then node_moved Stepped act ns (NodeRun child b) else guards_node S e act ns (S.end act.code child) (count_arms arms) (has_block last) b) (if d then tree_moved Stepped fs (TreeRun (place_at act bound) (BlockTask block)) else begin_arms (place_at act bound) e arms last fs)
  by_text true = alike T S Stepped act b ns (NodeRun child b) fs (TreeRun (place_at act bound) (BlockTask block)) fr (child, refl, (bound, refl, w), first_of T S h)
  by_text false = guards_alike T S g act b bound w ns fs fr e (S.end act.code child) arms last (second_of T S g (drafted_block _ _ block) h)

pub raise_alike : {R : Type 0} → (T : Table R) (S : Store R) (act : Activation R) (b : ℕ) (ns : List (NodeFrame R)) (fs : List (TreeFrame R)) → FramesAre T S act b ns fs → (v : PlainValue R) → Same T S (give_node_raise v act ns) (give_raise v fs)
raise_alike T S act b ns fs fr (IntValue z) = alike T S Stepped act b ns (node_raises (codes "type")) fs (tree_raises (codes "type")) fr refl
raise_alike T S act b ns fs fr (TruthValue z) = alike T S Stepped act b ns (node_raises (codes "type")) fs (tree_raises (codes "type")) fr refl
raise_alike T S act b ns fs fr OkayValue = alike T S Stepped act b ns (node_raises (codes "type")) fs (tree_raises (codes "type")) fr refl
raise_alike T S act b ns fs fr (TextValue z) = alike T S Stepped act b ns (node_raises (codes "type")) fs (tree_raises (codes "type")) fr refl
raise_alike T S act b ns fs fr (ThreadValue z) = alike T S Stepped act b ns (node_raises (codes "type")) fs (tree_raises (codes "type")) fr refl
raise_alike T S act b ns fs fr (ClosureValue t c group index cs) = alike T S Stepped act b ns (node_raises (codes "type")) fs (tree_raises (codes "type")) fr refl
raise_alike T S act b ns fs fr (LocationValue k z) = alike T S Stepped act b ns (node_raises (codes "type")) fs (tree_raises (codes "type")) fr refl
raise_alike T S act b ns fs fr (ExceptionValue z) = alike T S Stepped act b ns (node_raises z) fs (tree_raises z) fr refl
