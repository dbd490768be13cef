-- Calls: nodes and trees do the same.
use Rattle.std.specs.Prelude.{Bool, List, None, Option, Some, [], codes, false, if◌then◌else◌, length, refl, slice_get, suc, take, true, ℕ, ◌==◌, ◌∷◌, ◌≡◌}
use Rattle.std.proofs.Common.{ap, arith, subst, sym, ◌∙◌}
use Rattle.obq_base.specs.Tree.{AnExpr, ExprTrees, NoExprs}
use Rattle.obq_base.specs.declared.code.Code.{Code}
use Rattle.obq_base.specs.declared.code.CodeNo.{CodeNo}
use Rattle.obq_model.specs.Builtins.{arity_of_builtin}
use Rattle.obq_model.specs.CodeLaws.{IsCodeAt, nodes_of}
use Rattle.obq_model.specs.Draft.{Both, Done, Draft, count_exprs, draft_block, draft_exprs}
use Rattle.obq_model.specs.Opened.{builtin_at}
use Rattle.obq_model.specs.Procedures.{Proc}
use Rattle.obq_model.specs.Resolved.{IsCode, IsNumbered}
use Rattle.obq_model.specs.Step.{is_call_limit}
use Rattle.obq_model.specs.Terms.{Array, Bytes, Condition, Engine, Object, Variable, Writer}
use Rattle.obq_model.proofs.Drafted.{drafted_expr}
use Rattle.obq_windows.specs.Agrees.{AfterIs, Agrees, FocusIs, FramesAre, IsBound, Same, StandsAt, place_at}
use Rattle.obq_windows.specs.Moves.{act_ends, begin_args, call_code, call_plain, clone_tree, entered, finish_args, none_refused, tree_act, tree_refused, tree_result}
use Rattle.obq_windows.specs.Places.{Bound, bound_names, bound_values, outside_at, place_of, proc_outside, zipped}
use Rattle.obq_windows.specs.Results.{Does, Gives, PlainResult, Raises, alias_set, applied, array_made, indexed, invoked, item_set, objects_in, redirected, value_set}
use Rattle.obq_windows.specs.Trees.{Asks, BlockTask, Callee, ExprTask, Kept, KeptRaising, KeptValue, PendingArguments, PendingCalled, PlainCloning, PlainOperation, PlainRunEngine, Silent, Stepped, ToArray, ToBuiltin, ToCall, ToClone, ToIndex, ToInvoke, ToRedirect, ToSetAlias, ToSetIndex, ToSetValue, TreeAct, TreeAfter, TreeFrame, TreeHere, TreeRaising, TreeRun, TreeValue, push, tree_moved, tree_raises}
use Rattle.obq_windows.specs.Values.{ClosureValue, ExceptionValue, IntValue, LocationValue, OkayValue, Origin, PlainValue, PlainValues, Table, TextValue, ThreadValue, TruthValue, count_in, proc_named, tree_params}
use Rattle.obq_windows.specs.Windows.{Activation, Enters, NodeAct, NodeAfter, NodeArguments, NodeCalled, NodeFrame, NodeHere, NodeRaising, NodeRun, NodeValue, Store, act_node, activation_of, args_node, call_node_code, call_node_plain, clone_node, code_params, count_in_code, enter_code, finish_node, node_changed, node_moved, node_params, node_raises, node_result}
use Rattle.obq_windows.proofs.Calls.{same_length}
use Rattle.obq_windows.proofs.Envs.{fun_eq, zipped_names}
use Rattle.obq_windows.proofs.Frames.{frames_up, in_force}
use Rattle.obq_windows.proofs.Slots.{alike, changed_alike, first_of, not_above, second_of}

zipped_values : {R : Type 0} → (xs : List Bytes) (vs : List (PlainValue R)) → length xs ≡ length vs → take (length vs) vs ≡ bound_values (zipped xs vs)
zipped_values [] [] e = refl
zipped_values [] (v ∷ vs) e = absurd (none (length vs) e) where
  none : (k : ℕ) → 0 ≡ suc k → ⊥
  none k e = omega (arith, e)
zipped_values (x ∷ xs) [] e = absurd (none (length xs) e) where
  none : (k : ℕ) → suc k ≡ 0 → ⊥
  none k e = omega (arith, e)
zipped_values (x ∷ xs) (v ∷ vs) e = ap (λ l. v ∷ l) (zipped_values xs vs (omega (arith, e)))

length_zipped : {R : Type 0} → (xs : List Bytes) (vs : List (PlainValue R)) → length xs ≡ length vs → length vs ≡ length (zipped xs vs)
length_zipped [] [] e = refl
length_zipped [] (v ∷ vs) e = absurd (none (length vs) e) where
  none : (k : ℕ) → 0 ≡ suc k → ⊥
  none k e = omega (arith, e)
length_zipped (x ∷ xs) [] e = absurd (none (length xs) e) where
  none : (k : ℕ) → suc k ≡ 0 → ⊥
  none k e = omega (arith, e)
length_zipped (x ∷ xs) (v ∷ vs) e = ap suc (length_zipped xs vs (omega (arith, e)))

-- where a procedure is entered its code begins
pub at_entry : {R : Type 0} → (T : Table R) (S : Store R) (origin : Origin) (count : ℕ) (group : List CodeNo) (number : CodeNo) (cs : PlainValues R) (vs : List (PlainValue R)) (c : Code) (q : Proc) → S.code number ≡ Some c → IsNumbered T.procs number c q → length q.params ≡ length vs
    → FocusIs T S (activation_of number origin count group cs vs) (length vs) (NodeRun 0 (length vs)) (TreeRun (place_of number origin count group cs (zipped q.params vs)) (BlockTask q.body))
at_entry T S origin count group number cs vs c q ce h l = (
  0,
  refl,
  (zipped q.params vs, refl, record { values = zipped_values q.params vs l; many = length_zipped q.params vs l }),
  record {
    rest = [];
    nodes =
        subst (λ (o : Option Proc). IsCode T.procs (draft_block (proc_outside o) (bound_names (zipped q.params vs)) q.body) (nodes_of (S.code number)) []) (sym h.proc_is)
        (subst (λ (names : List Bytes). IsCode T.procs (draft_block q.outside names q.body) (nodes_of (S.code number)) []) (sym (zipped_names q.params vs l))
        (subst (λ (o : Option Code). IsCode T.procs (draft_block q.outside q.params q.body) (nodes_of o) []) (sym ce) h.code_is.reads));
  },
)

enter_alike : {R : Type 0} → (T : Table R) (S : Store R) (act : Activation R) (b : ℕ) (bound : List (Bound R)) → IsBound act b bound → (ns : List (NodeFrame R)) (fs : List (TreeFrame R)) → FramesAre T S act b ns fs → (origin : Origin) (count : ℕ) (group : List CodeNo) (number : CodeNo) (cs : PlainValues R) (vs : List (PlainValue R))
    → (c : Option Code) → S.code number ≡ c → IsCodeAt T.procs number c → Same T S (enter_code S origin count group number cs c act vs ns) (entered origin count group number cs (T.procs number) (place_at act bound) vs fs)
enter_alike {R} T S act b bound w ns fs fr origin count group number cs vs None ce h =
    subst (λ (o : Option Proc). Same T S (node_moved Stepped act ns (node_raises (codes "type"))) (entered origin count group number cs o (place_at act bound) vs fs)) (sym h) (alike T S Stepped act b ns (node_raises (codes "type")) fs (tree_raises (codes "type")) fr refl)
enter_alike {R} T S act b bound w ns fs fr origin count group number cs vs (Some c) ce (q, h) =
    subst (λ (o : Option Proc). Same T S (enter_code S origin count group number cs (Some c) act vs ns) (entered origin count group number cs o (place_at act bound) vs fs)) (sym h.proc_is)
    (subst (λ (m : ℕ). Same T S (if m == length vs then node_changed Enters (node_moved Stepped (activation_of number origin count group cs vs) (NodeCalled act ∷ ns) (NodeRun 0 (length vs))) else node_moved Stepped act ns (node_raises (codes "arity"))) (entered origin count group number cs (Some q) (place_at act bound) vs fs)) (sym h.code_is.params_are)
    (by_arity (length q.params == length vs) refl)) where
      by_arity : (d : Bool) → (length q.params == length vs) ≡ d
          → Same T S (if d then node_changed Enters (node_moved Stepped (activation_of number origin count group cs vs) (NodeCalled act ∷ ns) (NodeRun 0 (length vs))) else node_moved Stepped act ns (node_raises (codes "arity")))
          (if d then tree_moved Stepped (push (place_at act bound) PendingCalled fs) (TreeRun (place_of number origin count group cs (zipped q.params vs)) (BlockTask q.body)) else tree_moved Stepped fs (tree_raises (codes "arity")))
      by_arity false e = alike T S Stepped act b ns (node_raises (codes "arity")) fs (tree_raises (codes "arity")) fr refl
      by_arity true e =
          let l : length q.params ≡ length vs = same_length (length q.params) (length vs) e in
          changed_alike T S Enters _ _
          (alike T S Stepped (activation_of number origin count group cs vs) (length vs) (NodeCalled act ∷ ns) (NodeRun 0 (length vs)) (push (place_at act bound) PendingCalled fs) (TreeRun (place_of number origin count group cs (zipped q.params vs)) (BlockTask q.body))
          (NodeCalled act, ns, refl, (act, refl), frames_up T S act b (length act.locals) ns fs (in_force act b bound w) fr) (at_entry T S origin count group number cs vs c q ce h l))

pub act_alike : {R : Type 0} → (T : Table R) (S : Store R) (act : Activation R) (b : ℕ) (ns : List (NodeFrame R)) (fs : List (TreeFrame R)) → FramesAre T S act b ns fs → (na : NodeAfter) (after : TreeAfter R) → AfterIs T S act b na after → (op : PlainOperation R) (o : Option (Kept R)) → Same T S (act_node o op na act ns) (tree_act o op after fs)
act_alike T S act b ns fs fr na after h op None = alike T S (Asks op) act b ns (NodeAct op na) fs (TreeAct op after) fr (na, refl, h)
act_alike T S act b ns fs fr na after h op (Some (KeptValue v)) = alike T S Stepped act b ns (NodeValue v) fs (TreeValue v) fr refl
act_alike T S act b ns fs fr na after h op (Some (KeptRaising r)) = alike T S Stepped act b ns (NodeRaising r) fs (TreeRaising r) fr refl

either_raises : {R : Type 0} → (T : Table R) (S : Store R) (act : Activation R) (b : ℕ) (ns : List (NodeFrame R)) (fs : List (TreeFrame R)) → FramesAre T S act b ns fs → (c : Bool) (e f : Bytes)
    → Same T S (if c then node_moved Stepped act ns (node_raises e) else node_moved Stepped act ns (node_raises f)) (if c then tree_moved Stepped fs (tree_raises e) else tree_moved Stepped fs (tree_raises f))
either_raises T S act b ns fs fr true e f = alike T S Stepped act b ns (node_raises e) fs (tree_raises e) fr refl
either_raises T S act b ns fs fr false e f = alike T S Stepped act b ns (node_raises f) fs (tree_raises f) fr refl

-- the store and the table tell the same parameters
pub params_same : {R : Type 0} → (T : Table R) (S : Store R) → Agrees T S → node_params S ≡ tree_params T
params_same {R} T S g = fun_eq (node_params S) (tree_params T) at where
  by_store : (number : CodeNo) (c : Option Code) → IsCodeAt T.procs number c → count_in_code c ≡ count_in (T.procs number)
  by_store number None h = ap count_in (sym h)
  by_store number (Some c) (q, h) = ap Some h.code_is.params_are ∙ ap count_in (sym h.proc_is)

  by_code : (o : Option CodeNo) → code_params S o ≡ count_in (proc_named T o)
  by_code None = refl
  by_code (Some number) = by_store number (S.code number) (g.code number)

  at : (v : PlainValue R) → node_params S v ≡ tree_params T v
  at (IntValue z) = refl
  at (TruthValue z) = refl
  at OkayValue = refl
  at (TextValue z) = refl
  at (ExceptionValue z) = refl
  at (ThreadValue z) = refl
  at (LocationValue k z) = refl
  at (ClosureValue t c group index vs) = by_code (slice_get group index)

pub call_alike : {R : Type 0} → (T : Table R) (S : Store R) → Agrees T S → (a : ℕ) (act : Activation R) (b : ℕ) (bound : List (Bound R)) → IsBound act b bound → (ns : List (NodeFrame R)) (fs : List (TreeFrame R)) → FramesAre T S act b ns fs → (v : PlainValue R) (vs : List (PlainValue R))
    → Same T S (call_node_plain S a v act vs ns) (call_plain T a v (place_at act bound) vs fs)
call_alike {R} T S g a act b bound w ns fs fr (ClosureValue origin count group index cs) vs = by_limit (is_call_limit a) where
  by_code : (o : Option CodeNo) → Same T S (call_node_code S origin count group cs o act vs ns) (call_code T origin count group cs o (place_at act bound) vs fs)
  by_code None = alike T S Stepped act b ns (node_raises (codes "type")) fs (tree_raises (codes "type")) fr refl
  by_code (Some number) = enter_alike T S act b bound w ns fs fr origin count group number cs vs (S.code number) refl (g.code number)

  by_limit : (d : Bool) → Same T S (if d then node_moved Stepped act ns (node_raises (codes "call_limit")) else call_node_code S origin count group cs (slice_get group index) act vs ns)
      (if d then tree_moved Stepped fs (tree_raises (codes "call_limit")) else call_code T origin count group cs (slice_get group index) (place_at act bound) vs fs)
  by_limit true = alike T S Stepped act b ns (node_raises (codes "call_limit")) fs (tree_raises (codes "call_limit")) fr refl
  by_limit false = by_code (slice_get group index)
call_alike {R} T S g a act b bound w ns fs fr (LocationValue Engine e) [] = either_raises T S act b ns fs fr (is_call_limit a) (codes "call_limit") (codes "arity")
call_alike {R} T S g a act b bound w ns fs fr (LocationValue Engine e) (f ∷ []) =
    subst (λ (count : PlainValue R → Option ℕ). Same T S (act_node (act_ends count none_refused a (PlainRunEngine e f)) (PlainRunEngine e f) NodeHere act ns) (tree_act (act_ends (tree_params T) (tree_refused T) a (PlainRunEngine e f)) (PlainRunEngine e f) TreeHere fs)) (sym (params_same T S g))
    (act_alike T S act b ns fs fr NodeHere TreeHere refl (PlainRunEngine e f) (act_ends (tree_params T) (tree_refused T) a (PlainRunEngine e f)))
call_alike {R} T S g a act b bound w ns fs fr (LocationValue Engine e) (f ∷ z ∷ vs) = either_raises T S act b ns fs fr (is_call_limit a) (codes "call_limit") (codes "arity")
call_alike T S g a act b bound w ns fs fr (LocationValue Object r) vs = alike T S Stepped act b ns (node_raises (codes "type")) fs (tree_raises (codes "type")) fr refl
call_alike T S g a act b bound w ns fs fr (LocationValue Array r) vs = alike T S Stepped act b ns (node_raises (codes "type")) fs (tree_raises (codes "type")) fr refl
call_alike T S g a act b bound w ns fs fr (LocationValue Variable r) vs = alike T S Stepped act b ns (node_raises (codes "type")) fs (tree_raises (codes "type")) fr refl
call_alike T S g a act b bound w ns fs fr (LocationValue Writer r) vs = alike T S Stepped act b ns (node_raises (codes "type")) fs (tree_raises (codes "type")) fr refl
call_alike T S g a act b bound w ns fs fr (LocationValue Condition r) vs = alike T S Stepped act b ns (node_raises (codes "type")) fs (tree_raises (codes "type")) fr refl
call_alike T S g a act b bound w ns fs fr (IntValue z) vs = alike T S Stepped act b ns (node_raises (codes "type")) fs (tree_raises (codes "type")) fr refl
call_alike T S g a act b bound w ns fs fr (TruthValue z) vs = alike T S Stepped act b ns (node_raises (codes "type")) fs (tree_raises (codes "type")) fr refl
call_alike T S g a act b bound w ns fs fr OkayValue vs = alike T S Stepped act b ns (node_raises (codes "type")) fs (tree_raises (codes "type")) fr refl
call_alike T S g a act b bound w ns fs fr (TextValue z) vs = alike T S Stepped act b ns (node_raises (codes "type")) fs (tree_raises (codes "type")) fr refl
call_alike T S g a act b bound w ns fs fr (ExceptionValue z) vs = alike T S Stepped act b ns (node_raises (codes "type")) fs (tree_raises (codes "type")) fr refl
call_alike T S g a act b bound w ns fs fr (ThreadValue z) vs = alike T S Stepped act b ns (node_raises (codes "type")) fs (tree_raises (codes "type")) fr refl

pub result_alike : {R : Type 0} → (T : Table R) (S : Store R) (act : Activation R) (b : ℕ) (ns : List (NodeFrame R)) (fs : List (TreeFrame R)) → FramesAre T S act b ns fs → (r : PlainResult R) → Same T S (node_result r act ns) (tree_result r fs)
result_alike T S act b ns fs fr (Gives v) = alike T S Stepped act b ns (NodeValue v) fs (TreeValue v) fr refl
result_alike T S act b ns fs fr (Raises e) = alike T S Stepped act b ns (node_raises e) fs (tree_raises e) fr refl
result_alike T S act b ns fs fr (Does op) = alike T S (Asks op) act b ns (NodeAct op NodeHere) fs (TreeAct op TreeHere) fr (NodeHere, refl, refl)

clone_alike : {R : Type 0} → (T : Table R) (S : Store R) (act : Activation R) (b : ℕ) (ns : List (NodeFrame R)) (fs : List (TreeFrame R)) → FramesAre T S act b ns fs → (o : Option (List R)) → Same T S (clone_node o act ns) (clone_tree o fs)
clone_alike T S act b ns fs fr None = alike T S Stepped act b ns (node_raises (codes "type")) fs (tree_raises (codes "type")) fr refl
clone_alike T S act b ns fs fr (Some os) = alike T S Stepped act b ns (NodeAct (PlainCloning None [] os) NodeHere) fs (TreeAct (PlainCloning None [] os) TreeHere) fr (NodeHere, refl, refl)

finish_alike : {R : Type 0} → (T : Table R) (S : Store R) → Agrees T S → (a : ℕ) (act : Activation R) (b : ℕ) (bound : List (Bound R)) → IsBound act b bound → (ns : List (NodeFrame R)) (fs : List (TreeFrame R)) → FramesAre T S act b ns fs → (callee : Callee R) (vs : List (PlainValue R))
    → Same T S (finish_node S a callee act vs ns) (finish_args T a callee (place_at act bound) vs fs)
finish_alike T S g a act b bound w ns fs fr (ToCall f) vs = call_alike T S g a act b bound w ns fs fr f vs
finish_alike {R} T S g a act b bound w ns fs fr (ToBuiltin r) vs =
    subst (λ (count : PlainValue R → Option ℕ). Same T S (if length vs == arity_of_builtin (builtin_at r) then node_result (applied count (builtin_at r) vs) act ns else node_moved Stepped act ns (node_raises (codes "arity"))) (finish_args T a (ToBuiltin r) (place_at act bound) vs fs)) (sym (params_same T S g))
    (by_arity (length vs == arity_of_builtin (builtin_at r))) where
      by_arity : (d : Bool) → Same T S (if d then node_result (applied (tree_params T) (builtin_at r) vs) act ns else node_moved Stepped act ns (node_raises (codes "arity"))) (if d then tree_result (applied (tree_params T) (builtin_at r) vs) fs else tree_moved Stepped fs (tree_raises (codes "arity")))
      by_arity true = result_alike T S act b ns fs fr (applied (tree_params T) (builtin_at r) vs)
      by_arity false = alike T S Stepped act b ns (node_raises (codes "arity")) fs (tree_raises (codes "arity")) fr refl
finish_alike T S g a act b bound w ns fs fr ToArray vs = result_alike T S act b ns fs fr (array_made vs)
finish_alike T S g a act b bound w ns fs fr ToIndex vs = result_alike T S act b ns fs fr (indexed vs)
finish_alike T S g a act b bound w ns fs fr ToSetIndex vs = result_alike T S act b ns fs fr (item_set vs)
finish_alike T S g a act b bound w ns fs fr (ToSetValue x) vs = result_alike T S act b ns fs fr (value_set x vs)
finish_alike T S g a act b bound w ns fs fr (ToSetAlias x y) vs = result_alike T S act b ns fs fr (alias_set x y vs)
finish_alike T S g a act b bound w ns fs fr ToRedirect vs = result_alike T S act b ns fs fr (redirected vs)
finish_alike T S g a act b bound w ns fs fr ToClone vs = clone_alike T S act b ns fs fr (objects_in vs)
finish_alike T S g a act b bound w ns fs fr (ToInvoke x) vs = result_alike T S act b ns fs fr (invoked a x vs)

pub args_alike : {R : Type 0} → (T : Table R) (S : Store R) → Agrees T S → (a : ℕ) (act : Activation R) (b : ℕ) (bound : List (Bound R)) → IsBound act b bound → (ns : List (NodeFrame R)) (fs : List (TreeFrame R)) → FramesAre T S act b ns fs → (callee : Callee R) (done : List (PlainValue R)) (child : ℕ) (es : ExprTrees)
    → StandsAt T S act.code (draft_exprs (outside_at T (place_at act bound)) (bound_names bound) es) child
    → Same T S (args_node S a callee act done child (count_exprs es) b ns) (begin_args T a callee (place_at act bound) done es fs)
args_alike T S g a act b bound w ns fs fr callee done child NoExprs h = finish_alike T S g a act b bound w ns fs fr callee done
args_alike T S g a act b bound w ns fs fr callee done child (AnExpr e es) h =
    alike T S Silent act b (NodeArguments callee done (S.end act.code child) (count_exprs es) b ∷ ns) (NodeRun child b) (push (place_at act bound) (PendingArguments callee done es) fs) (TreeRun (place_at act bound) (ExprTask e))
    (NodeArguments callee done (S.end act.code child) (count_exprs es) b, ns, refl, (S.end act.code child, b, refl, not_above b, (bound, refl, w), second_of T S g (drafted_expr _ _ e) h), fr)
    (child, refl, (bound, refl, w), first_of T S h)

-- an expression, and two or three, as a list
pub alone : {R : Type 0} (T : Table R) (S : Store R) {number : CodeNo} {d : Draft} {at : ℕ} → StandsAt T S number d at → StandsAt T S number (Both d Done) at
alone T S h = record { rest = h.rest; nodes = (h.rest, h.nodes, refl) }

pub as_pair : {R : Type 0} (T : Table R) (S : Store R) {number : CodeNo} {d e : Draft} {at : ℕ} → StandsAt T S number (Both d e) at → StandsAt T S number (Both d (Both e Done)) at
as_pair T S h = record { rest = h.rest; nodes = (h.nodes.0, h.nodes.1, (h.rest, h.nodes.2, refl)) }

pub as_triple : {R : Type 0} (T : Table R) (S : Store R) {number : CodeNo} {d e f : Draft} {at : ℕ} → StandsAt T S number (Both d (Both e f)) at → StandsAt T S number (Both d (Both e (Both f Done))) at
as_triple T S h = record { rest = h.rest; nodes = (h.nodes.0, h.nodes.1, (h.nodes.2.0, h.nodes.2.1, (h.rest, h.nodes.2.2, refl))) }
