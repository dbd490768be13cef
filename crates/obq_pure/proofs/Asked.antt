-- A move that asks leaves an act's form that asks again, and a move at the end leaves a value or a raising outside of all frames.
use Rattle.obq_base.specs.declared.code.Code.{Code}
use Rattle.obq_base.specs.declared.code.CodeNo.{CodeNo}
use Rattle.obq_base.specs.declared.code.Node.TheVariants as nodes
use Rattle.obq_base.specs.declared.code.Node.{Node}
use Rattle.obq_base.specs.declared.code.Slot.TheVariants as s
use Rattle.obq_base.specs.declared.code.Slot.{Slot}
use Rattle.obq_base.specs.declared.code.SourceCode.{SourceCode}
use Rattle.obq_base.specs.declared.limits.TheConstants.{ARRAY_LIMIT, CLOSURE_LIMIT, TEXT_LIMIT}
use Rattle.obq_base.specs.declared.places.Ref.{Ref}
use Rattle.obq_base.specs.declared.trees.Flags.{Flags}
use Rattle.obq_base.specs.declared.trees.Operator.{Operator}
use Rattle.obq_model.specs.Builtins.{arity_of_builtin, is_i64}
use Rattle.obq_model.specs.Opened.{builtin_at}
use Rattle.obq_model.specs.Step.{Self, is_call_limit}
use Rattle.obq_model.specs.Store.{twice}
use Rattle.obq_model.specs.Terms.{Array, ArrayNew, ArraySize, Builtin, Bytes, Condition, Engine, Exception, ExitUp, Exn, ExportEngine, FmtBool, FmtInt, Fork, Held, ImportEngine, JoinThread, Mode, NetExport, NetImport, NewCondition, Not, Object, PutText, Raised, SignalAll, SignalOne, TextLength, TextSub, Variable, Writer}
use Rattle.obq_moves.specs.Moves.{activations_behind}
use Rattle.obq_moves.specs.Store.{same_ref, store}
use Rattle.obq_moves.specs.Views.{Shown}
use Rattle.obq_pure.specs.Whole.{focus_moved, move_shown, raising_moved, value_moved}
use Rattle.obq_windows.specs.Literals.{DoneAlias, DoneField, DoneMethod, DoneValue, are_objects, done_names, done_with}
use Rattle.obq_windows.specs.Moves.{act_ends, none_refused, without_parameter}
use Rattle.obq_windows.specs.Results.{Does, Gives, PlainResult, Raises, alias_set, applied, applied_none, applied_one, applied_three, applied_two, array_made, array_of, assigned, divided_of, forked, indexed, invoked, is_closure, item_set, number_of, objects_in, operated, redirected, same_values, text_of, text_part, value_set}
use Rattle.obq_windows.specs.Trees.{Asks, AtEnd, Callee, Kept, KeptRaising, KeptValue, PlainInvoke, PlainNewArray, PlainOperation, PlainRunEngine, Silent, Stepped, Tag, ToArray, ToBuiltin, ToCall, ToClone, ToIndex, ToInvoke, ToRedirect, ToSetAlias, ToSetIndex, ToSetValue, plain_names}
use Rattle.obq_windows.specs.Values.{ClosureValue, ExceptionValue, IntValue, LocationValue, Origin, PlainValue, PlainValues, TextValue, ThreadValue, TruthValue, depth_of_values}
use Rattle.obq_windows.specs.Windows.{Activation, LeavesMethod, NodeAct, NodeAfter, NodeArguments, NodeAssign, NodeCall, NodeCalled, NodeChain, NodeCount, NodeEach, NodeField, NodeFirst, NodeFocus, NodeForeach, NodeFrame, NodeGuard, NodeHead, NodeHere, NodeIf, NodeItems, NodeKept, NodeLast, NodeLet, NodeLoop, NodeMake, NodeMethod, NodeMoved, NodeObject, NodeRaise, NodeRaising, NodeRight, NodeRun, NodeScope, NodeTest, NodeTesting, NodeThen, NodeTo, NodeTry, NodeUnder, NodeUnmet, NodeValue, NodeVar, NodeWatch, NodeWithin, Store, act_node, are_deep_nodes, arms_node, args_node, begin_node, begin_node_watch, bind, binds_node, call_node_code, call_node_plain, capture, clone_node, count_node, enter_code, field_node, fields_node, finish_node, give_node, give_node_and, give_node_field, give_node_foreach, give_node_guard, give_node_if, give_node_kept, give_node_left, give_node_or, give_node_raise, give_node_suffix, give_node_testing, give_node_to, give_node_watch, group_values, guards_node, item_node, items_node, leave_node, letrec_node, make_node, method_node, next_count_node, node_at, node_changed, node_closed, node_fields, node_moved, node_params, node_raises, node_result, operator_in, proc_node, raise_node, raise_node_loop, raise_node_try, set_method_node, slot_value, suffixes_node, unmet_node, use_node, use_slot, vars_node, with_item, with_operator, with_suffix}
use Rattle.std.proofs.Common.{ap, ◌∙◌}
use Rattle.std.proofs.lemmas.List.{length-replicate}
use Rattle.std.specs.Prelude.{Bool, List, None, Option, Some, [], bytes_eq, codes, drop, false, int_div, int_rem, negsuc, pos, replicate, take, ◌||◌, ◌+ℤ◌, ◌-ℤ◌, ◌*ℤ◌, if◌then◌else◌, int_lt, length, nat_lt, not, refl, slice_get, suc, true, zero, ℕ, ℤ, ◌+◌, ◌++◌, ◌==◌, ◌∷◌, ◌≡◌}

-- a value or a raising
abbrev pub IsLast : NodeFocus Ref → Type 0
IsLast (NodeValue v) = Unit {0}
IsLast (NodeRaising r) = Unit {0}
IsLast x = ⊥

-- what a move with this tag leaves, before which the window had n activations
abbrev pub Tells : Store Ref → ℕ → NodeMoved Ref → Tag Ref → Type 0
Tells S n m Silent = Unit {0}
Tells S n m Stepped = Unit {0}
Tells S n m (Asks op) = (act_ends (node_params S) none_refused (activations_behind m.change n) op ≡ None) × (after : NodeAfter) × (m.focus ≡ NodeAct op after)
Tells S n m AtEnd = (m.frames ≡ []) × IsLast m.focus

pub record Sound (S : Store Ref) (n : ℕ) (m : NodeMoved Ref) : Type 0 where
  pub is : Tells S n m m.tag

ok : {S : Store Ref} {n : ℕ} {m : NodeMoved Ref} → Tells S n m m.tag → Sound S n m
ok h = record { is = h }

either : {S : Store Ref} {n : ℕ} (b : Bool) {m k : NodeMoved Ref} → Sound S n m → Sound S n k → Sound S n (if b then m else k)
either true h j = h
either false h j = j

by_test : {S : Store Ref} {n : ℕ} (b : Bool) {m k : NodeMoved Ref} → Sound S n m → (b ≡ false → Sound S n k) → Sound S n (if b then m else k)
by_test true h j = h
by_test false h j = j refl

-- neither an act nor the end
abbrev Quiet : Tag Ref → Type 0
Quiet Silent = Unit {0}
Quiet Stepped = Unit {0}
Quiet (Asks op) = ⊥
Quiet AtEnd = ⊥

quiet : (S : Store Ref) (n : ℕ) (tag : Tag Ref) → Quiet tag → (act : Activation Ref) (fs : List (NodeFrame Ref)) (x : NodeFocus Ref) → Sound S n (node_moved tag act fs x)
quiet S n Silent q act fs x = ok tt
quiet S n Stepped q act fs x = ok tt
quiet S n (Asks op) q act fs x = absurd q
quiet S n AtEnd q act fs x = absurd q

-- ---- results

-- a result that is an act's form asks
abbrev Fine : Store Ref → ℕ → PlainResult Ref → Type 0
Fine S n (Gives v) = Unit {0}
Fine S n (Raises e) = Unit {0}
Fine S n (Does op) = act_ends (node_params S) none_refused n op ≡ None

fine_test : (S : Store Ref) (n : ℕ) (b : Bool) (x y : PlainResult Ref) → Fine S n x → (b ≡ false → Fine S n y) → Fine S n (if b then x else y)
fine_test S n true x y h i = h
fine_test S n false x y h i = i refl

fine_number : (S : Store Ref) (n : ℕ) (z : ℤ) → Fine S n (number_of z)
fine_number S n z = fine_test S n (is_i64 z) (Gives (IntValue z)) (Raises (codes "int_overflow")) tt (λ e. tt)

fine_text : (S : Store Ref) (n : ℕ) (bytes : Bytes) → Fine S n (text_of bytes)
fine_text S n bytes = fine_test S n (nat_lt TEXT_LIMIT (length bytes)) (Raises (codes "text_limit")) (Gives (TextValue bytes)) tt (λ e. tt)

fine_divided : (S : Store Ref) (n : ℕ) (f : ℤ → ℤ → ℤ) (a b : ℤ) → Fine S n (divided_of f a b)
fine_divided S n f a (pos zero) = tt
fine_divided S n f a (pos (suc k)) = fine_number S n (f a (pos (suc k)))
fine_divided S n f a (negsuc k) = fine_number S n (f a (negsuc k))

fine_operated : (S : Store Ref) (n : ℕ) (op : Operator) (v w : PlainValue Ref) → Fine S n (operated same_ref op v w)
fine_operated S n Operator.Add (IntValue a) (IntValue b) = fine_number S n (a +ℤ b)
fine_operated S n Operator.Subtract (IntValue a) (IntValue b) = fine_number S n (a -ℤ b)
fine_operated S n Operator.Multiply (IntValue a) (IntValue b) = fine_number S n (a *ℤ b)
fine_operated S n Operator.Join (TextValue a) (TextValue b) = fine_text S n (a ++ b)
fine_operated S n Operator.Less (IntValue a) (IntValue b) = tt
fine_operated S n Operator.LessEqual (IntValue a) (IntValue b) = tt
fine_operated S n Operator.Greater (IntValue a) (IntValue b) = tt
fine_operated S n Operator.GreaterEqual (IntValue a) (IntValue b) = tt
fine_operated S n Operator.Divide (IntValue a) (IntValue b) = fine_divided S n int_div a b
fine_operated S n Operator.Remainder (IntValue a) (IntValue b) = fine_divided S n int_rem a b
fine_operated S n Operator.Is v w = fine_test S n (is_closure v || is_closure w) (Raises (codes "compare")) (Gives (TruthValue (same_values same_ref v w))) tt (λ e. tt)
fine_operated S n Operator.IsNot v w = fine_test S n (is_closure v || is_closure w) (Raises (codes "compare")) (Gives (TruthValue (not (same_values same_ref v w)))) tt (λ e. tt)
fine_operated S n op v w = tt

fine_forked : (S : Store Ref) (n : ℕ) (f : PlainValue Ref) (o : Option ℕ) → node_params S f ≡ o → Fine S n (forked o f)
fine_forked S n f None e = tt
fine_forked S n f (Some zero) e = ap without_parameter e
fine_forked S n f (Some (suc k)) e = tt

fine_text_part : (S : Store Ref) (n : ℕ) (t : Bytes) (start size : ℤ) → Fine S n (text_part t start size)
fine_text_part S n t (pos start) (pos size) = fine_test S n (nat_lt (length t) (start + size)) (Raises (codes "text_range")) (Gives (TextValue (take size (drop start t)))) tt (λ e. tt)
fine_text_part S n t start size = tt

-- an array within its limit
array_fine : (vs : List (PlainValue Ref)) → nat_lt ARRAY_LIMIT (length vs) ≡ false → ◌≡◌ {A = Option (Kept Ref)} (if nat_lt ARRAY_LIMIT (length vs) then Some (KeptRaising (Exn (codes "array_limit"))) else None) None
array_fine vs e = ap (λ (b : Bool). if b then Some (KeptRaising (Exn (codes "array_limit"))) else None) e

fine_array_of : (S : Store Ref) (n : ℕ) (k : ℤ) (v : PlainValue Ref) → Fine S n (array_of k v)
fine_array_of S n (pos k) v = fine_test S n (nat_lt ARRAY_LIMIT k) (Raises (codes "array_limit")) (Does (PlainNewArray (replicate k v))) tt (λ e. array_fine (replicate k v) (ap (nat_lt ARRAY_LIMIT) (length-replicate k v) ∙ e))
fine_array_of S n (negsuc k) v = tt

fine_applied_one : (S : Store Ref) (n : ℕ) (b : Builtin) (v : PlainValue Ref) → Fine S n (applied_one (node_params S) b v)
fine_applied_one S n Not (TruthValue b) = tt
fine_applied_one S n Not v = tt
fine_applied_one S n Exception (TextValue t) = tt
fine_applied_one S n Exception v = tt
fine_applied_one S n TextLength (TextValue t) = tt
fine_applied_one S n TextLength v = tt
fine_applied_one S n FmtInt (IntValue z) = tt
fine_applied_one S n FmtInt v = tt
fine_applied_one S n FmtBool (TruthValue b) = tt
fine_applied_one S n FmtBool v = tt
fine_applied_one S n ArraySize (LocationValue Array r) = refl
fine_applied_one S n ArraySize v = tt
fine_applied_one S n SignalOne (LocationValue Condition c) = refl
fine_applied_one S n SignalOne v = tt
fine_applied_one S n SignalAll (LocationValue Condition c) = refl
fine_applied_one S n SignalAll v = tt
fine_applied_one S n JoinThread (ThreadValue t) = refl
fine_applied_one S n JoinThread v = tt
fine_applied_one S n Fork f = fine_forked S n f (node_params S f) refl
fine_applied_one S n b v = tt

fine_applied_two : (S : Store Ref) (n : ℕ) (b : Builtin) (v w : PlainValue Ref) → Fine S n (applied_two b v w)
fine_applied_two S n PutText (LocationValue Writer w) (TextValue t) = refl
fine_applied_two S n PutText v w = tt
fine_applied_two S n ArrayNew (IntValue k) v = fine_array_of S n k v
fine_applied_two S n ArrayNew v w = tt
fine_applied_two S n NetImport (TextValue x) (TextValue namer) = refl
fine_applied_two S n NetImport v w = tt
fine_applied_two S n ImportEngine (TextValue x) (TextValue namer) = refl
fine_applied_two S n ImportEngine v w = tt
fine_applied_two S n b v w = tt

fine_applied_three : (S : Store Ref) (n : ℕ) (b : Builtin) (v w x : PlainValue Ref) → Fine S n (applied_three b v w x)
fine_applied_three S n TextSub (TextValue t) (IntValue start) (IntValue size) = fine_text_part S n t start size
fine_applied_three S n TextSub v w x = tt
fine_applied_three S n NetExport (TextValue x) (TextValue namer) v = refl
fine_applied_three S n NetExport v w x = tt
fine_applied_three S n ExportEngine (TextValue x) (TextValue namer) v = refl
fine_applied_three S n ExportEngine v w x = tt
fine_applied_three S n b v w x = tt

fine_applied_none : (S : Store Ref) (n : ℕ) (b : Builtin) → Fine S n (applied_none b)
fine_applied_none S n NewCondition = refl
fine_applied_none S n b = tt

fine_applied : (S : Store Ref) (n : ℕ) (b : Builtin) (vs : List (PlainValue Ref)) → Fine S n (applied (node_params S) b vs)
fine_applied S n b [] = fine_applied_none S n b
fine_applied S n b (v ∷ []) = fine_applied_one S n b v
fine_applied S n b (v ∷ w ∷ []) = fine_applied_two S n b v w
fine_applied S n b (v ∷ w ∷ x ∷ []) = fine_applied_three S n b v w x
fine_applied S n b vs = tt

fine_array_made : (S : Store Ref) (n : ℕ) (vs : List (PlainValue Ref)) → Fine S n (array_made vs)
fine_array_made S n vs = fine_test S n (nat_lt ARRAY_LIMIT (length vs)) (Raises (codes "array_limit")) (Does (PlainNewArray vs)) tt (array_fine vs)

fine_indexed : (S : Store Ref) (n : ℕ) (vs : List (PlainValue Ref)) → Fine S n (indexed vs)
fine_indexed S n (LocationValue Array r ∷ IntValue i ∷ []) = refl
fine_indexed S n vs = tt

fine_invoked : (S : Store Ref) (n : ℕ) (x : Bytes) (vs : List (PlainValue Ref)) → Fine S n (invoked n x vs)
fine_invoked S n x (LocationValue Object o ∷ vs) =
    fine_test S n (is_call_limit n) (Raises (codes "call_limit")) (Does (PlainInvoke o x vs)) tt (λ e. ap (λ (b : Bool). if b then Some (KeptRaising (Exn (codes "call_limit"))) else None) e)
fine_invoked S n x vs = tt

fine_item_set : (S : Store Ref) (n : ℕ) (vs : List (PlainValue Ref)) → Fine S n (item_set vs)
fine_item_set S n (LocationValue Array r ∷ IntValue i ∷ v ∷ []) = refl
fine_item_set S n vs = tt

fine_value_set : (S : Store Ref) (n : ℕ) (x : Bytes) (vs : List (PlainValue Ref)) → Fine S n (value_set x vs)
fine_value_set S n x (LocationValue Object o ∷ v ∷ []) = refl
fine_value_set S n x vs = tt

fine_alias_set : (S : Store Ref) (n : ℕ) (x y : Bytes) (vs : List (PlainValue Ref)) → Fine S n (alias_set x y vs)
fine_alias_set S n x y (LocationValue Object o ∷ LocationValue Object q ∷ []) = refl
fine_alias_set S n x y vs = tt

fine_redirected : (S : Store Ref) (n : ℕ) (vs : List (PlainValue Ref)) → Fine S n (redirected vs)
fine_redirected S n (LocationValue Object o ∷ LocationValue Object q ∷ []) = refl
fine_redirected S n vs = tt

fine_assigned : (S : Store Ref) (n : ℕ) (u v : PlainValue Ref) → Fine S n (assigned u v)
fine_assigned S n (LocationValue Variable r) v = refl
fine_assigned S n u v = tt

-- ---- a node begins

slot_sound : (S : Store Ref) (n : ℕ) (b : Bool) (act : Activation Ref) (fs : List (NodeFrame Ref)) (v : PlainValue Ref) → Sound S n (use_slot b act fs v)
slot_sound S n b act fs (LocationValue Variable r) = ok (refl, NodeHere, refl)
slot_sound S n b act fs v = ok tt

use_sound : (S : Store Ref) (n : ℕ) (act : Activation Ref) (fs : List (NodeFrame Ref)) (x : Slot) → Sound S n (use_node S act fs x)
use_sound S n act fs (s.Stdout source) = ok tt
use_sound S n act fs (s.Local k) = slot_sound S n true act fs (slot_value S act (s.Local k))
use_sound S n act fs (s.Captured k) = slot_sound S n true act fs (slot_value S act (s.Captured k))
use_sound S n act fs (s.Member k) = slot_sound S n true act fs (slot_value S act (s.Member k))

proc_sound : (S : Store Ref) (n thread count : ℕ) (act : Activation Ref) (fs : List (NodeFrame Ref)) (number : CodeNo) (from : List Slot) → Sound S n (proc_node S thread count act fs number from)
proc_sound S n thread count act fs number from = either (nat_lt CLOSURE_LIMIT (depth_of_values (capture S act from))) (ok tt) (ok tt)

arms_sound : (S : Store Ref) (n : ℕ) (tag : Tag Ref) → Quiet tag → (act : Activation Ref) (fs : List (NodeFrame Ref)) (at arms : ℕ) (last : Bool) (height : ℕ) → Sound S n (arms_node S tag act fs at arms last height)
arms_sound S n tag q act fs at (suc arms) last height = quiet S n tag q _ _ _
arms_sound S n tag q act fs at zero true height = quiet S n tag q _ _ _
arms_sound S n tag q act fs at zero false height = quiet S n tag q _ _ _

guards_sound : (S : Store Ref) (n : ℕ) (e : Bytes) (act : Activation Ref) (fs : List (NodeFrame Ref)) (at arms : ℕ) (last : Bool) (height : ℕ) → Sound S n (guards_node S e act fs at arms last height)
guards_sound S n e act fs at (suc arms) last height = ok tt
guards_sound S n e act fs at zero last height = ok tt

items_sound : (S : Store Ref) (n : ℕ) (tag : Tag Ref) → Quiet tag → (act : Activation Ref) (fs : List (NodeFrame Ref)) (at left height : ℕ) → Sound S n (items_node tag act fs at left height)
items_sound S n tag q act fs at zero height = quiet S n tag q _ _ _
items_sound S n tag q act fs at (suc left) height = quiet S n tag q _ _ _

binds_sound : (S : Store Ref) (n : ℕ) (tag : Tag Ref) → Quiet tag → (act : Activation Ref) (fs : List (NodeFrame Ref)) (child left at items height : ℕ) → Sound S n (binds_node S tag act fs child left at items height)
binds_sound S n tag q act fs child zero at items height = items_sound S n tag q act fs at items height
binds_sound S n tag q act fs child (suc left) at items height = quiet S n tag q _ _ _

vars_sound : (S : Store Ref) (n : ℕ) (tag : Tag Ref) → Quiet tag → (act : Activation Ref) (fs : List (NodeFrame Ref)) (child left at items height : ℕ) → Sound S n (vars_node S tag act fs child left at items height)
vars_sound S n tag q act fs child zero at items height = items_sound S n tag q act fs at items height
vars_sound S n tag q act fs child (suc left) at items height = quiet S n tag q _ _ _

-- ---- calls and forms

enter_sound : (S : Store Ref) (n : ℕ) (origin : Origin) (count : ℕ) (group : List CodeNo) (number : CodeNo) (captured : PlainValues Ref) (found : Option Code) (act : Activation Ref) (vs : List (PlainValue Ref)) (fs : List (NodeFrame Ref)) → Sound S n (enter_code S origin count group number captured found act vs fs)
enter_sound S n origin count group number captured None act vs fs = ok tt
enter_sound S n origin count group number captured (Some c) act vs fs = either (c.params == length vs) (ok tt) (ok tt)

code_sound : (S : Store Ref) (n : ℕ) (origin : Origin) (count : ℕ) (group : List CodeNo) (captured : PlainValues Ref) (found : Option CodeNo) (act : Activation Ref) (vs : List (PlainValue Ref)) (fs : List (NodeFrame Ref)) → Sound S n (call_node_code S origin count group captured found act vs fs)
code_sound S n origin count group captured None act vs fs = ok tt
code_sound S n origin count group captured (Some number) act vs fs = enter_sound S n origin count group number captured (S.code number) act vs fs

kept_sound : (S : Store Ref) (n : ℕ) (k : Kept Ref) (act : Activation Ref) (fs : List (NodeFrame Ref)) → Sound S n (give_node_kept k act fs)
kept_sound S n (KeptValue v) act fs = ok tt
kept_sound S n (KeptRaising r) act fs = ok tt

act_sound : (S : Store Ref) (n : ℕ) (op : PlainOperation Ref) (after : NodeAfter) (act : Activation Ref) (fs : List (NodeFrame Ref)) → Sound S n (act_node (act_ends (node_params S) none_refused n op) op after act fs)
act_sound S n op after act fs = at (act_ends (node_params S) none_refused n op) refl where
  at : (k : Option (Kept Ref)) → act_ends (node_params S) none_refused n op ≡ k → Sound S n (act_node k op after act fs)
  at None e = ok (e, after, refl)
  at (Some k) e = kept_sound S n k act fs

refused_sound : (S : Store Ref) (n : ℕ) (act : Activation Ref) (fs : List (NodeFrame Ref)) → Sound S n (if is_call_limit n then node_moved Stepped act fs (node_raises (codes "call_limit")) else node_moved Stepped act fs (node_raises (codes "arity")))
refused_sound S n act fs = either (is_call_limit n) (ok tt) (ok tt)

call_sound : (S : Store Ref) (n : ℕ) (v : PlainValue Ref) (act : Activation Ref) (vs : List (PlainValue Ref)) (fs : List (NodeFrame Ref)) → Sound S n (call_node_plain S n v act vs fs)
call_sound S n (ClosureValue t c group index captured) act vs fs = either (is_call_limit n) (ok tt) (code_sound S n t c group captured (slice_get group index) act vs fs)
call_sound S n (LocationValue Engine e) act (f ∷ []) fs = act_sound S n (PlainRunEngine e f) NodeHere act fs
call_sound S n (LocationValue Engine e) act vs fs = refused_sound S n act fs
call_sound S n v act vs fs = ok tt

result_sound : (S : Store Ref) (n : ℕ) (r : PlainResult Ref) (act : Activation Ref) (fs : List (NodeFrame Ref)) → Fine S n r → Sound S n (node_result r act fs)
result_sound S n (Gives v) act fs h = ok tt
result_sound S n (Raises e) act fs h = ok tt
result_sound S n (Does op) act fs h = ok (h, NodeHere, refl)

clone_sound : (S : Store Ref) (n : ℕ) (os : Option (List Ref)) (act : Activation Ref) (fs : List (NodeFrame Ref)) → Sound S n (clone_node os act fs)
clone_sound S n None act fs = ok tt
clone_sound S n (Some os) act fs = ok tt

finish_sound : (S : Store Ref) (n : ℕ) (callee : Callee Ref) (act : Activation Ref) (vs : List (PlainValue Ref)) (fs : List (NodeFrame Ref)) → Sound S n (finish_node S n callee act vs fs)
finish_sound S n (ToCall f) act vs fs = call_sound S n f act vs fs
finish_sound S n (ToBuiltin r) act vs fs = either (length vs == arity_of_builtin (builtin_at r)) (result_sound S n (applied (node_params S) (builtin_at r) vs) act fs (fine_applied S n (builtin_at r) vs)) (ok tt)
finish_sound S n ToArray act vs fs = result_sound S n (array_made vs) act fs (fine_array_made S n vs)
finish_sound S n ToIndex act vs fs = result_sound S n (indexed vs) act fs (fine_indexed S n vs)
finish_sound S n ToSetIndex act vs fs = result_sound S n (item_set vs) act fs (fine_item_set S n vs)
finish_sound S n (ToSetValue x) act vs fs = result_sound S n (value_set x vs) act fs (fine_value_set S n x vs)
finish_sound S n (ToSetAlias x y) act vs fs = result_sound S n (alias_set x y vs) act fs (fine_alias_set S n x y vs)
finish_sound S n ToRedirect act vs fs = result_sound S n (redirected vs) act fs (fine_redirected S n vs)
finish_sound S n ToClone act vs fs = clone_sound S n (objects_in vs) act fs
finish_sound S n (ToInvoke x) act vs fs = result_sound S n (invoked n x vs) act fs (fine_invoked S n x vs)

args_sound : (S : Store Ref) (n : ℕ) (callee : Callee Ref) (act : Activation Ref) (done : List (PlainValue Ref)) (child left height : ℕ) (fs : List (NodeFrame Ref)) → Sound S n (args_node S n callee act done child left height fs)
args_sound S n callee act done child zero height fs = finish_sound S n callee act done fs
args_sound S n callee act done child (suc left) height fs = ok tt

suffixes_sound : (S : Store Ref) (n : ℕ) (act : Activation Ref) (fs : List (NodeFrame Ref)) (at suffixes height : ℕ) (found : Option Node) → Sound S n (suffixes_node S n act fs at suffixes height found)
suffixes_sound S n act fs at suffixes height (Some (nodes.Builtin r args)) = args_sound S n (ToBuiltin r) act [] (suc (suc at)) args height (with_suffix (S.end act.code (suc at)) suffixes height fs)
suffixes_sound S n act fs at suffixes height other = ok tt

field_sound : (S : Store Ref) (n : ℕ) (act : Activation Ref) (flags : Flags) (done : List (DoneField Ref ℕ)) (x : Bytes) (names : List Bytes) (child height : ℕ) (fs : List (NodeFrame Ref)) (behind : NodeMoved Ref) (found : Option Node) (h : Sound S n behind) → Sound S n (field_node S act flags done x names child height fs behind found)
field_sound S n act flags done x names child height fs behind (Some (nodes.Meth number from)) h = h
field_sound S n act flags done x names child height fs behind (Some (nodes.Alias y)) h = ok tt
field_sound S n act flags done x names child height fs behind other h = ok tt

fields_sound : (S : Store Ref) (n : ℕ) (act : Activation Ref) (flags : Flags) (done : List (DoneField Ref ℕ)) (names : List Bytes) (child height : ℕ) (fs : List (NodeFrame Ref)) → Sound S n (fields_node S act flags done names child height fs)
fields_sound S n act flags done [] child height fs = ok tt
fields_sound S n act flags done (x ∷ names) child height fs = field_sound S n act flags done x names child height fs (fields_node S act flags (done ++ DoneMethod x child ∷ []) names (S.end act.code child) height fs) (node_at S act.code child) (fields_sound S n act flags (done ++ DoneMethod x child ∷ []) names (S.end act.code child) height fs)

begin_sound : (S : Store Ref) (n thread count : ℕ) (act : Activation Ref) (fs : List (NodeFrame Ref)) (at height : ℕ) (found : Option Node) → Sound S n (begin_node S n thread count act fs at height found)
begin_sound S n thread count act fs at height (Some (nodes.Int z)) = ok tt
begin_sound S n thread count act fs at height (Some (nodes.Str t)) = ok tt
begin_sound S n thread count act fs at height (Some (nodes.Truth b)) = ok tt
begin_sound S n thread count act fs at height (Some nodes.Okay) = ok tt
begin_sound S n thread count act fs at height (Some (nodes.Use slot)) = use_sound S n act fs slot
begin_sound S n thread count act fs at height (Some (nodes.Proc number from)) = proc_sound S n thread count act fs number from
begin_sound S n thread count act fs at height (Some (nodes.Block zero)) = ok tt
begin_sound S n thread count act fs at height (Some (nodes.Block (suc left))) = ok tt
begin_sound S n thread count act fs at height (Some (nodes.If arms last)) = arms_sound S n Silent tt act fs (suc at) arms last height
begin_sound S n thread count act fs at height (Some (nodes.Array items)) = args_sound S n ToArray act [] (suc at) items height fs
begin_sound S n thread count act fs at height (Some nodes.Loop) = ok tt
begin_sound S n thread count act fs at height (Some nodes.For) = ok tt
begin_sound S n thread count act fs at height (Some nodes.Foreach) = ok tt
begin_sound S n thread count act fs at height (Some nodes.Watch) = ok tt
begin_sound S n thread count act fs at height (Some nodes.Exit) = ok tt
begin_sound S n thread count act fs at height (Some (nodes.Try guards last)) = ok tt
begin_sound S n thread count act fs at height (Some nodes.Finally) = ok tt
begin_sound S n thread count act fs at height (Some nodes.Raise) = ok tt
begin_sound S n thread count act fs at height (Some nodes.Redirect) = args_sound S n ToRedirect act [] (suc at) 2 height fs
begin_sound S n thread count act fs at height (Some (nodes.Clone items)) = args_sound S n ToClone act [] (suc at) items height fs
begin_sound S n thread count act fs at height (Some (nodes.Chain operators)) = ok tt
begin_sound S n thread count act fs at height (Some (nodes.Suffixes suffixes)) = suffixes_sound S n act fs at suffixes height (node_at S act.code (suc at))
begin_sound S n thread count act fs at height (Some (nodes.Object flags names)) = fields_sound S n act flags [] names (suc at) height fs
begin_sound S n thread count act fs at height other = ok tt

group_sound : (S : Store Ref) (n : ℕ) (act : Activation Ref) (fs : List (NodeFrame Ref)) (at left height : ℕ) → Sound S n (node_closed (items_node Stepped act fs at left height))
group_sound S n act fs at zero height = ok tt
group_sound S n act fs at (suc left) height = ok tt

letrec_sound : (S : Store Ref) (n thread count : ℕ) (act : Activation Ref) (fs : List (NodeFrame Ref)) (numbers : List CodeNo) (from : List Slot) (at left height : ℕ) → Sound S n (letrec_node S thread count act fs numbers from at left height)
letrec_sound S n thread count act fs numbers from at left height =
    either (nat_lt CLOSURE_LIMIT (depth_of_values (capture S act from))) (ok tt) (group_sound S n (bind act height (group_values thread count numbers 0 (capture S act from) numbers)) fs at left (height + length numbers))

item_sound : (S : Store Ref) (n thread count : ℕ) (act : Activation Ref) (fs : List (NodeFrame Ref)) (at left height : ℕ) (found : Option Node) → Sound S n (item_node S n thread count act fs at left height found)
item_sound S n thread count act fs at left height (Some (nodes.Let binds)) = binds_sound S n Silent tt act fs (suc at) binds (S.end act.code at) left height
item_sound S n thread count act fs at left height (Some (nodes.LetRec numbers from)) = letrec_sound S n thread count act fs numbers from (S.end act.code at) left height
item_sound S n thread count act fs at left height (Some (nodes.Var binds)) = vars_sound S n Silent tt act fs (suc at) binds (S.end act.code at) left height
item_sound S n thread count act fs at left height (Some (nodes.Assign slot)) = ok tt
item_sound S n thread count act fs at left height (Some (nodes.SetField name)) = ok tt
item_sound S n thread count act fs at left height (Some nodes.SetItem) = args_sound S n ToSetIndex act [] (suc at) 3 height (with_item (S.end act.code at) left height fs)
item_sound S n thread count act fs at left height other = begin_sound S n thread count act (with_item (S.end act.code at) left height fs) at height other

-- ---- a value in a frame

if_sound : (S : Store Ref) (n : ℕ) (v : PlainValue Ref) (act : Activation Ref) (fs : List (NodeFrame Ref)) (child arms : ℕ) (last : Bool) (height : ℕ) → Sound S n (give_node_if S v act fs child arms last height)
if_sound S n (TruthValue true) act fs child arms last height = ok tt
if_sound S n (TruthValue false) act fs child arms last height = arms_sound S n Stepped tt act fs (S.end act.code child) arms last height
if_sound S n v act fs child arms last height = ok tt

or_sound : (S : Store Ref) (n : ℕ) (v : PlainValue Ref) (act : Activation Ref) (fs : List (NodeFrame Ref)) (child height : ℕ) → Sound S n (give_node_or v act fs child height)
or_sound S n (TruthValue true) act fs child height = ok tt
or_sound S n (TruthValue false) act fs child height = ok tt
or_sound S n v act fs child height = ok tt

and_sound : (S : Store Ref) (n : ℕ) (v : PlainValue Ref) (act : Activation Ref) (fs : List (NodeFrame Ref)) (child height : ℕ) → Sound S n (give_node_and v act fs child height)
and_sound S n (TruthValue true) act fs child height = ok tt
and_sound S n (TruthValue false) act fs child height = ok tt
and_sound S n v act fs child height = ok tt

left_sound : (S : Store Ref) (n : ℕ) (v : PlainValue Ref) (o : Option Operator) (act : Activation Ref) (fs : List (NodeFrame Ref)) (child height : ℕ) → Sound S n (give_node_left v o act fs child height)
left_sound S n v None act fs child height = ok tt
left_sound S n v (Some Operator.Orif) act fs child height = or_sound S n v act fs child height
left_sound S n v (Some Operator.Andif) act fs child height = and_sound S n v act fs child height
left_sound S n v (Some op) act fs child height = ok tt

give_suffix_sound : (S : Store Ref) (n : ℕ) (v : PlainValue Ref) (act : Activation Ref) (fs : List (NodeFrame Ref)) (at height : ℕ) (found : Option Node) → Sound S n (give_node_suffix S n v act fs at height found)
give_suffix_sound S n v act fs at height (Some (nodes.Apply args)) = args_sound S n (ToCall v) act [] (suc at) args height fs
give_suffix_sound S n (LocationValue Object o) act fs at height (Some (nodes.Select x)) = ok (refl, NodeHere, refl)
give_suffix_sound S n v act fs at height (Some (nodes.Select x)) = ok tt
give_suffix_sound S n v act fs at height (Some (nodes.Invoke x args)) = args_sound S n (ToInvoke x) act (v ∷ []) (suc at) args height fs
give_suffix_sound S n v act fs at height (Some nodes.Index) = args_sound S n ToIndex act (v ∷ []) (suc at) 1 height fs
give_suffix_sound S n v act fs at height other = ok tt

raised_sound : (S : Store Ref) (n : ℕ) (v : PlainValue Ref) (act : Activation Ref) (fs : List (NodeFrame Ref)) → Sound S n (give_node_raise v act fs)
raised_sound S n (ExceptionValue e) act fs = ok tt
raised_sound S n v act fs = ok tt

guard_sound : (S : Store Ref) (n : ℕ) (v : PlainValue Ref) (e : Bytes) (act : Activation Ref) (fs : List (NodeFrame Ref)) (child arms : ℕ) (last : Bool) (height : ℕ) → Sound S n (give_node_guard S v e act fs child arms last height)
guard_sound S n (ExceptionValue f) e act fs child arms last height = either (bytes_eq e f) (ok tt) (guards_sound S n e act fs (S.end act.code child) arms last height)
guard_sound S n v e act fs child arms last height = ok tt

count_sound : (S : Store Ref) (n : ℕ) (act : Activation Ref) (fs : List (NodeFrame Ref)) (i k : ℤ) (child height : ℕ) → Sound S n (count_node act fs i k child height)
count_sound S n act fs i k child height = either (int_lt k i) (ok tt) (ok tt)

next_count_sound : (S : Store Ref) (n : ℕ) (act : Activation Ref) (fs : List (NodeFrame Ref)) (i k : ℤ) (child height : ℕ) → Sound S n (next_count_node act fs i k child height)
next_count_sound S n act fs i k child height = either (int_lt i k) (ok tt) (ok tt)

to_sound : (S : Store Ref) (n : ℕ) (v w : PlainValue Ref) (act : Activation Ref) (fs : List (NodeFrame Ref)) (child height : ℕ) → Sound S n (give_node_to v w act fs child height)
to_sound S n (IntValue m) (IntValue k) act fs child height = count_sound S n act fs m k child height
to_sound S n v w act fs child height = ok tt

give_field_sound : (S : Store Ref) (n : ℕ) (v : PlainValue Ref) (x : Bytes) (act : Activation Ref) (fs : List (NodeFrame Ref)) (child height : ℕ) (found : Option Node) → Sound S n (give_node_field S n v x act fs child height found)
give_field_sound S n v x act fs child height (Some (nodes.Alias y)) = args_sound S n (ToSetAlias x y) act (v ∷ []) (suc child) 1 height fs
give_field_sound S n v x act fs child height (Some (nodes.Meth number from)) = ok tt
give_field_sound S n v x act fs child height other = args_sound S n (ToSetValue x) act (v ∷ []) child 1 height fs

foreach_sound : (S : Store Ref) (n : ℕ) (v : PlainValue Ref) (act : Activation Ref) (fs : List (NodeFrame Ref)) (child height : ℕ) → Sound S n (give_node_foreach v act fs child height)
foreach_sound S n (LocationValue Array r) act fs child height = ok (refl, NodeScope child height, refl)
foreach_sound S n v act fs child height = ok tt

begin_watch_sound : (S : Store Ref) (n : ℕ) (o : Option Ref) (plain : Bool) (c : Ref) (act : Activation Ref) (fs : List (NodeFrame Ref)) (child height : ℕ) → Sound S n (begin_node_watch o plain c act fs child height)
begin_watch_sound S n (Some o) false c act fs child height = ok tt
begin_watch_sound S n o plain c act fs child height = ok tt

watch_sound : (S : Store Ref) (n : ℕ) (self : Self Ref) (v : PlainValue Ref) (act : Activation Ref) (fs : List (NodeFrame Ref)) (child height : ℕ) → Sound S n (give_node_watch self v act fs child height)
watch_sound S n self (LocationValue Condition c) act fs child height = begin_watch_sound S n self.object self.plain c act fs child height
watch_sound S n self v act fs child height = ok tt

testing_sound : (S : Store Ref) (n : ℕ) (o c : Ref) (v : PlainValue Ref) (act : Activation Ref) (fs : List (NodeFrame Ref)) (child height : ℕ) → Sound S n (give_node_testing o c v act fs child height)
testing_sound S n o c (TruthValue true) act fs child height = ok tt
testing_sound S n o c (TruthValue false) act fs child height = ok (refl, NodeTest child height, refl)
testing_sound S n o c v act fs child height = ok tt

kept_leaves : (S : Store Ref) (n : ℕ) (k : Kept Ref) (caller : Activation Ref) (o : Ref) (m : Mode) (fs : List (NodeFrame Ref)) → Sound S n (node_changed LeavesMethod (give_node_kept k caller fs))
kept_leaves S n (KeptValue v) caller o m fs = ok tt
kept_leaves S n (KeptRaising r) caller o m fs = ok tt

leave_sound : (S : Store Ref) (n : ℕ) (o : Ref) (m : Mode) (k : Kept Ref) (caller : Activation Ref) (fs : List (NodeFrame Ref)) → Sound S n (leave_node o m k caller fs)
leave_sound S n o Held k caller fs = ok (refl, NodeHere, refl)
leave_sound S n o m k caller fs = kept_leaves S n k caller o m fs

give_sound : (S : Store Ref) (n : ℕ) (self : Self Ref) (v : PlainValue Ref) (act : Activation Ref) (f : NodeFrame Ref) (fs : List (NodeFrame Ref)) → Sound S n (give_node same_ref S n self v act f fs)
give_sound S n self v act (NodeThen at left height) fs = ok tt
give_sound S n self v act (NodeLet child left at items height) fs = ok (binds_sound S n Stepped tt (bind act height (v ∷ [])) fs child left at items (suc height)).is
give_sound S n self v act (NodeVar child left at items height) fs = ok (refl, NodeUnder child left at items height, refl)
give_sound S n self v act (NodeIf child arms last height) fs = ok (if_sound S n v act fs child arms last height).is
give_sound S n self v act (NodeChain chain index child height) fs = ok (left_sound S n v (operator_in (node_at S act.code chain) index) act (with_operator (operator_in (node_at S act.code chain) (suc index)) chain (suc index) (S.end act.code child) height fs) child height).is
give_sound S n self v act (NodeRight left op) fs = ok (result_sound S n (operated same_ref op left v) act fs (fine_operated S n op left v)).is
give_sound S n self v act (NodeHead at left height) fs = ok (give_suffix_sound S n v act (with_suffix (S.end act.code at) left height fs) at height (node_at S act.code at)).is
give_sound S n self v act (NodeArguments callee done child left height) fs = ok (args_sound S n callee act (done ++ v ∷ []) child left height fs).is
give_sound S n self v act NodeRaise fs = ok (raised_sound S n v act fs).is
give_sound S n self v act (NodeWatch child height) fs = ok (watch_sound S n self v act fs child height).is
give_sound S n self v act (NodeTesting o c child height) fs = ok (testing_sound S n o c v act fs child height).is
give_sound S n self v act (NodeCalled caller) fs = ok tt
give_sound S n self v act (NodeWithin caller o m) fs = leave_sound S n o m (KeptValue v) caller fs
give_sound S n self v act (NodeTry child arms last height) fs = ok tt
give_sound S n self v act (NodeGuard e child arms last height) fs = ok (guard_sound S n v e act fs child arms last height).is
give_sound S n self v act (NodeLast child height) fs = ok tt
give_sound S n self v act (NodeKept k) fs = ok (kept_sound S n k act fs).is
give_sound S n self v act (NodeAssign slot height) fs = ok (result_sound S n (assigned (slot_value S act slot) v) act fs (fine_assigned S n (slot_value S act slot) v)).is
give_sound S n self v act (NodeField x child height) fs = ok (give_field_sound S n v x act fs child height (node_at S act.code child)).is
give_sound S n self v act (NodeObject flags done x other names child height) fs = ok (fields_sound S n act flags (done ++ done_with x other v ∷ []) names child height fs).is
give_sound S n self v act (NodeLoop child height) fs = ok tt
give_sound S n self v act (NodeFirst child height) fs = ok tt
give_sound S n self v act (NodeTo first child height) fs = ok (to_sound S n first v act fs child height).is
give_sound S n self v act (NodeCount i k child height) fs = ok (next_count_sound S n act fs i k child height).is
give_sound S n self v act (NodeForeach child height) fs = ok (foreach_sound S n v act fs child height).is
give_sound S n self v act (NodeEach r i k child height) fs = ok tt

-- ---- a raising in a frame, and the other moves

try_sound : (S : Store Ref) (n : ℕ) (r : Raised) (act : Activation Ref) (fs : List (NodeFrame Ref)) (child arms : ℕ) (last : Bool) (height : ℕ) → Sound S n (raise_node_try S r act fs child arms last height)
try_sound S n ExitUp act fs child arms last height = ok tt
try_sound S n (Exn e) act fs child arms last height = guards_sound S n e act fs child arms last height

loop_sound : (S : Store Ref) (n : ℕ) (r : Raised) (act : Activation Ref) (fs : List (NodeFrame Ref)) → Sound S n (raise_node_loop r act fs)
loop_sound S n ExitUp act fs = ok tt
loop_sound S n (Exn e) act fs = ok tt

raise_sound : (S : Store Ref) (n : ℕ) (r : Raised) (act : Activation Ref) (f : NodeFrame Ref) (fs : List (NodeFrame Ref)) → Sound S n (raise_node S r act f fs)
raise_sound S n r act (NodeThen at left height) fs = ok tt
raise_sound S n r act (NodeLet child left at items height) fs = ok tt
raise_sound S n r act (NodeVar child left at items height) fs = ok tt
raise_sound S n r act (NodeIf child arms last height) fs = ok tt
raise_sound S n r act (NodeChain chain index child height) fs = ok tt
raise_sound S n r act (NodeRight left op) fs = ok tt
raise_sound S n r act (NodeHead at left height) fs = ok tt
raise_sound S n r act (NodeArguments callee done child left height) fs = ok tt
raise_sound S n r act NodeRaise fs = ok tt
raise_sound S n r act (NodeWatch child height) fs = ok tt
raise_sound S n r act (NodeTesting o c child height) fs = ok tt
raise_sound S n r act (NodeCalled caller) fs = ok tt
raise_sound S n r act (NodeWithin caller o m) fs = leave_sound S n o m (KeptRaising r) caller fs
raise_sound S n r act (NodeTry child arms last height) fs = ok (try_sound S n r act fs child arms last height).is
raise_sound S n r act (NodeGuard e child arms last height) fs = ok tt
raise_sound S n r act (NodeLast child height) fs = ok tt
raise_sound S n r act (NodeKept k) fs = ok tt
raise_sound S n r act (NodeAssign slot height) fs = ok tt
raise_sound S n r act (NodeField x child height) fs = ok tt
raise_sound S n r act (NodeObject flags done x other names child height) fs = ok tt
raise_sound S n r act (NodeLoop child height) fs = ok (loop_sound S n r act fs).is
raise_sound S n r act (NodeFirst child height) fs = ok tt
raise_sound S n r act (NodeTo first child height) fs = ok tt
raise_sound S n r act (NodeCount i k child height) fs = ok (loop_sound S n r act fs).is
raise_sound S n r act (NodeForeach child height) fs = ok tt
raise_sound S n r act (NodeEach q i k child height) fs = ok (loop_sound S n r act fs).is

unmet_sound : (S : Store Ref) (n : ℕ) (e : Bytes) (act : Activation Ref) (fs : List (NodeFrame Ref)) (child : ℕ) (last : Bool) (height : ℕ) → Sound S n (unmet_node e act fs child last height)
unmet_sound S n e act fs child true height = ok tt
unmet_sound S n e act fs child false height = ok tt

method_sound : (S : Store Ref) (n thread count : ℕ) (o : Ref) (x : Bytes) (act : Activation Ref) (fs : List (NodeFrame Ref)) (found : Option Node) → Sound S n (method_node S thread count o x act fs found)
method_sound S n thread count o x act fs (Some (nodes.Meth number from)) = either (nat_lt CLOSURE_LIMIT (depth_of_values (capture S act from))) (ok tt) (ok (refl, NodeHere, refl))
method_sound S n thread count o x act fs other = ok tt

set_method_sound : (S : Store Ref) (n thread count : ℕ) (v : PlainValue Ref) (x : Bytes) (act : Activation Ref) (fs : List (NodeFrame Ref)) (found : Option Node) → Sound S n (set_method_node S thread count v x act fs found)
set_method_sound S n thread count (LocationValue Object o) x act fs found = method_sound S n thread count o x act fs found
set_method_sound S n thread count v x act fs found = ok tt

fields_named : (S : Store Ref) (act : Activation Ref) (thread count : ℕ) (done : List (DoneField Ref ℕ)) → plain_names (node_fields S act thread count done) ≡ done_names done
fields_named S act thread count [] = refl
fields_named S act thread count (DoneValue x v ∷ done) = ap (λ l. x ∷ l) (fields_named S act thread count done)
fields_named S act thread count (DoneMethod x at ∷ done) = ap (λ l. x ∷ l) (fields_named S act thread (suc count) done)
fields_named S act thread count (DoneAlias x y v ∷ done) = ap (λ l. x ∷ l) (fields_named S act thread count done)

make_sound : (S : Store Ref) (n thread count : ℕ) (act : Activation Ref) (flags : Flags) (done : List (DoneField Ref ℕ)) (fs : List (NodeFrame Ref)) → Sound S n (make_node S thread count act flags done fs)
make_sound S n thread count act flags done fs =
    by_test (twice (done_names done)) (ok tt)
    (λ e. either (not (are_objects done)) (ok tt) (either (are_deep_nodes S act done) (ok tt)
    (ok (ap (λ (b : Bool). if b then Some (KeptRaising (Exn (codes "field_twice"))) else None) (ap twice (fields_named S act thread count done) ∙ e), NodeHere, refl))))

value_sound : (parts : List SourceCode) (t : Shown) (fs : List (NodeFrame Ref)) (v : PlainValue Ref) → Sound (store parts) t.activations (value_moved parts t fs v)
value_sound parts t [] v = ok (refl, tt)
value_sound parts t (f ∷ fs) v = give_sound (store parts) t.activations t.current v t.act f fs

raising_sound : (parts : List SourceCode) (t : Shown) (fs : List (NodeFrame Ref)) (r : Raised) → Sound (store parts) t.activations (raising_moved parts t fs r)
raising_sound parts t [] r = ok (refl, tt)
raising_sound parts t (f ∷ fs) r = raise_sound (store parts) t.activations r t.act f fs

focus_sound : (parts : List SourceCode) (t : Shown) (x : NodeFocus Ref) → Sound (store parts) t.activations (focus_moved parts t x)
focus_sound parts t (NodeRun at height) = begin_sound (store parts) t.activations t.thread t.closures t.act t.frames at height (node_at (store parts) t.act.code at)
focus_sound parts t (NodeItems at left height) = item_sound (store parts) t.activations t.thread t.closures t.act t.frames at left height (node_at (store parts) t.act.code at)
focus_sound parts t (NodeValue v) = value_sound parts t t.frames v
focus_sound parts t (NodeRaising r) = raising_sound parts t t.frames r
focus_sound parts t (NodeUnmet e child last height) = unmet_sound (store parts) t.activations e t.act t.frames child last height
focus_sound parts t (NodeMethod v x at height) = set_method_sound (store parts) t.activations t.thread t.closures v x t.act t.frames (node_at (store parts) t.act.code at)
focus_sound parts t (NodeMake flags done) = make_sound (store parts) t.activations t.thread t.closures t.act flags done t.frames
focus_sound parts t (NodeCall f vs) = call_sound (store parts) t.activations f t.act vs t.frames
focus_sound parts t (NodeAct op after) = act_sound (store parts) t.activations op after t.act t.frames

-- the move of a window
pub move_sound : (parts : List SourceCode) (t : Shown) → Sound (store parts) t.activations (move_shown parts t)
move_sound parts t = focus_sound parts t t.focus
