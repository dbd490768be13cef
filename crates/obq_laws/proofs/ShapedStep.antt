-- A pure step keeps the shape of terms.
use Rattle.std.specs.Prelude.{Bool, List, None, Option, Some, [], bytes_eq, drop, false, if◌then◌else◌, int_div, int_lt, int_rem, length, nat_lt, negsuc, not, pos, refl, replicate, suc, take, true, unwrap_or, zero, ℕ, ℤ, ◌&&◌, ◌*ℤ◌, ◌++◌, ◌+ℤ◌, ◌+◌, ◌-ℤ◌, ◌<◌, ◌==◌, ◌∷◌, ◌≡◌}
use Rattle.std.proofs.Common.{subst, ap, sym, arith}
use Rattle.std.proofs.lemmas.Bool.{eqb-true, lt-ltb, ltb-true}
use Rattle.obq_base.specs.declared.limits.TheConstants.{ARRAY_LIMIT, CLOSURE_LIMIT, TEXT_LIMIT}
use Rattle.obq_base.specs.declared.trees.Flags.{Flags}
use Rattle.obq_base.specs.declared.trees.Operator.{Operator}
use Rattle.obq_model.specs.Terms.{Bytes, Object, Array, Writer, Condition, Engine, Raised, Exn, ExitUp, Mode, Plain, Held, Inner, Builtin, Not, Exception, FmtInt, FmtBool, TextLength, TextSub, ArrayNew, ArraySize, PutText, NewCondition, SignalOne, SignalAll, Fork, JoinThread, NetExport, NetImport, ExportEngine, ImportEngine, Layout, NoLayout, ValueField, MethodField, AliasField, Value, Int, Truth, Okay, Text, Exc, Thread, Closure, Loc, FieldBody, IsValue, IsMethod, IsAlias, Fields, Kind, Empty, Then, Let, Var, LetRec, Group, Procedure, Assign, If, OrIf, AndIf, Operate, Call, Apply, MakeArray, Index, SetIndex, MakeObject, Select, Invoke, SetValue, SetMethod, SetAlias, Redirect, Clone, Raise, Exit, Loop, For, Foreach, Try, Finally, Watch, Read, Raising, Called, Within, Looping, Counting, EachAt, EachIn, Choosing, Unmet, Finishing, Cloning, Testing, Lined, Out, Term, Const, Name, Under, Form, Parts, End, Part}
use Rattle.obq_model.specs.Put.{enter, put_members}
use Rattle.obq_model.specs.Depth.{deepest_of, is_too_deep}
use Rattle.obq_model.specs.Exceptions.{raising, arity, int_overflow, text_limit, text_range, array_limit, field_twice, call_limit, closure_limit}
use Rattle.obq_model.specs.Builtins.{is_i64, number, divided, same, compared, operate, part, arity_of_builtin}
use Rattle.obq_model.specs.Store.{ObjectCell, ArrayCell, VariableCell, ConditionCell, EngineCell, field_names, twice}
use Rattle.obq_model.specs.Step.{Self, Itself, Entered, Offered, Operation, New, Get, CallMethod, Leave, Set, Copy, RedirectTo, GetItem, GetSize, EachSize, EachItem, SetItem, ReadVariable, SetVariable, Write, ForkOff, JoinWith, LineUp, GiveUp, Again, Signal, Broadcast, Export, Import, RunEngine, operands_of, is_operand, Pending, values_before, plug, self_in, activations_in, Found, Next, Needs, Done, Uncaught, part_at, params_of, body_with, is_call_limit, call_closure, with_one_parameter, call_engine, is_callable, call_value, field_before, fields_of, layout_names, new_object, objects, clone, array_of_size, fork_of, apply, counting, choose, out_of_method, chosen, tested, watching, cloned, row, out_of_loop, out_of_try, at_raised, through, find, find_part, next_of}
use Rattle.obq_model.specs.Shapes.{Pattern, NoParts, ATerm, AScope, OneName, ATarget, Terms, AtMostOne, AGroup, Never, terms_then, scopes, methods_of, pattern_of, IsShaped, AreShaped, IsShapedScope, IsShapedUnderOne, IsShapedValue, IsShapedKind, AreShapedFields, IsShapedField}
use Rattle.obq_model.proofs.Options.{none_some}
use Rattle.obq_laws.specs.Shaping.{StepShaped, AllShaped, ShapedOperation}
use Rattle.obq_laws.proofs.HeldActs.{clash}
use Rattle.obq_laws.proofs.ShapedPut.{shaped_enter, one_scope, shaped_put_members, shaped_body}

-- what is found in a rightly shaped term
abbrev pub ShapedFound : {R : Type 0} → Found R → Type 0
ShapedFound {R} (Next u) = IsShaped u
ShapedFound {R} (Needs op fs) = ShapedOperation op × ((u : Term R) → IsShaped u → IsShaped (plug fs u))
ShapedFound {R} (Done v) = IsShapedValue v
ShapedFound {R} (Uncaught r) = Unit {0}

-- a rightly shaped operation that stands here
needs : {R : Type 0} (op : Operation R) → ShapedOperation op → ShapedOperation op × ((u : Term R) → IsShaped u → IsShaped (plug [] u))
needs op h = (h, λ u i. i)

found_if : {R : Type 0} (b : Bool) (x y : Found R) → ShapedFound x → ShapedFound y → ShapedFound (if b then x else y)
found_if true x y h k = h
found_if false x y h k = k

next_if : {R : Type 0} (b : Bool) (t u : Term R) → IsShaped t → IsShaped u → IsShaped (if b then t else u)
next_if true t u h k = h
next_if false t u h k = k

values_shaped : {R : Type 0} (vs : List (Value R)) (ts : Parts R) → AreShaped Terms (values_before vs ts) → AllShaped vs
values_shaped [] ts h = tt
values_shaped (v ∷ vs) ts h = (h.0, values_shaped vs ts h.1)

-- ---- the rows

shaped_closure : {R : Type 0} (f : Value R) (vs : List (Value R)) (o : Option (List Bytes)) → IsShapedValue f → AllShaped vs → ShapedFound (call_closure f vs o)
shaped_closure f vs None h k = (tt, tt)
shaped_closure f vs (Some params) h k = found_if (length params == length vs) (Next (Form Called (Part (body_with f vs) End))) (Next arity) (tt, (shaped_body f vs h k, tt)) (tt, tt)

shaped_one : {R : Type 0} (e : R) (f : Value R) (o : Option (List Bytes)) → IsShapedValue f → ShapedFound (with_one_parameter e f o)
shaped_one e f None h = (tt, tt)
shaped_one e f (Some params) h = found_if (length params == 1) (Needs (RunEngine e f) []) (Next arity) (needs (RunEngine e f) h) (tt, tt)

shaped_engine : {R : Type 0} (e : R) (vs : List (Value R)) → AllShaped vs → ShapedFound (call_engine e vs)
shaped_engine e (f ∷ []) h = shaped_one e f (params_of f) h.0
shaped_engine e [] h = (tt, tt)
shaped_engine e (f ∷ g ∷ vs) h = (tt, tt)

shaped_call_value : {R : Type 0} (f : Value R) (vs : List (Value R)) → IsShapedValue f → AllShaped vs → ShapedFound (call_value f vs)
shaped_call_value (Loc Engine e) vs h k = shaped_engine e vs k
shaped_call_value (Loc Object e) vs h k = (tt, tt)
shaped_call_value f vs h k = shaped_closure f vs (params_of f) h k

-- the fields of an object literal, whose methods are under names
abbrev AreShapedIn : {R : Type 0} → Option (Fields R) → Type 0
AreShapedIn None = Unit {0}
AreShapedIn (Some fs) = AreShapedFields fs

abbrev IsShapedBody : {R : Type 0} → Term R → Type 0
IsShapedBody (Under names t) = IsShaped t
IsShapedBody t = Unit {0}

abbrev AreShapedBodies : {R : Type 0} → Parts R → Type 0
AreShapedBodies End = Unit {0}
AreShapedBodies (Part t ts) = IsShapedBody t × AreShapedBodies ts

body_of_term : {R : Type 0} (t : Term R) → IsShaped t → IsShapedBody t
body_of_term (Const v) h = tt
body_of_term (Name x) h = tt
body_of_term (Under names t) h = absurd h
body_of_term (Form k parts) h = tt

body_of_scope : {R : Type 0} (t : Term R) → IsShapedScope t → IsShapedBody t
body_of_scope (Const v) h = absurd h
body_of_scope (Name x) h = absurd h
body_of_scope (Under names t) h = h
body_of_scope (Form k parts) h = absurd h

bodies_of : {R : Type 0} (n m : ℕ) (methods : Parts R) → AreShaped (terms_then n (scopes m)) methods → AreShapedBodies methods
bodies_of n m End h = tt
bodies_of zero zero (Part t ts) h = absurd h
bodies_of zero (suc m) (Part t ts) h = (body_of_scope t h.0, bodies_of zero m ts h.1)
bodies_of (suc n) m (Part t ts) h = (body_of_term t h.0, bodies_of n m ts h.1)

literal_parts : {R : Type 0} (n m : ℕ) (vs : List (Value R)) (methods : Parts R) → AreShaped (terms_then n (scopes m)) (values_before vs methods) → AllShaped vs × AreShapedBodies methods
literal_parts n m [] methods h = (tt, bodies_of n m methods h)
literal_parts (suc n) m (v ∷ vs) methods h = let rest : AllShaped vs × AreShapedBodies methods = literal_parts n m vs methods h.1 in ((h.0, rest.0), rest.1)
literal_parts zero zero (v ∷ vs) methods h = absurd h
literal_parts zero (suc m) (v ∷ vs) methods h = absurd h.0

shaped_field_before : {R : Type 0} (x : Bytes) (body : FieldBody R) (o : Option (Fields R)) → IsShapedField body → AreShapedIn o → AreShapedIn (field_before x body o)
shaped_field_before x body None h k = tt
shaped_field_before x body (Some fs) h k = (h, k)

shaped_fields : {R : Type 0} (s : Layout) (vs : List (Value R)) (methods : Parts R) → AllShaped vs → AreShapedBodies methods → AreShapedIn (fields_of s vs methods)
shaped_fields NoLayout vs methods k h = tt
shaped_fields (ValueField x s) (v ∷ vs) methods k h = shaped_field_before x (IsValue v) (fields_of s vs methods) k.0 (shaped_fields s vs methods k.1 h)
shaped_fields (MethodField x s) vs (Part (Under params body) methods) k h = shaped_field_before x (IsMethod params body) (fields_of s vs methods) h.0 (shaped_fields s vs methods k h.1)
shaped_fields (AliasField x y s) (Loc Object o ∷ vs) methods k h = shaped_field_before x (IsAlias o y) (fields_of s vs methods) tt (shaped_fields s vs methods k.1 h)
shaped_fields _ _ _ k h = tt

shaped_new_object : {R : Type 0} (flags : Flags) (methods : Parts R) (o : Option (Fields R)) → AreShapedIn o → ShapedFound (new_object flags methods o)
shaped_new_object flags methods None h = (tt, tt)
shaped_new_object flags methods (Some fields) h = found_if (nat_lt CLOSURE_LIMIT (deepest_of methods)) (Next closure_limit) (Needs (New (ObjectCell flags None fields) Itself) []) (tt, tt) (needs (New (ObjectCell flags None fields) Itself) (h, tt))

shaped_clone : {R : Type 0} (o : Option (List R)) → IsShaped (clone o)
shaped_clone None = (tt, tt)
shaped_clone (Some os) = (tt, tt)

shaped_replicate : {R : Type 0} (n : ℕ) (v : Value R) → IsShapedValue v → AllShaped (replicate n v)
shaped_replicate zero v h = tt
shaped_replicate (suc n) v h = (h, shaped_replicate n v h)

shaped_array : {R : Type 0} (z : ℤ) (v : Value R) → IsShapedValue v → ShapedFound (array_of_size z v)
shaped_array (pos n) v h = found_if (nat_lt ARRAY_LIMIT n) (Next array_limit) (Needs (New (ArrayCell (replicate n v)) Itself) []) (tt, tt) (needs (New (ArrayCell (replicate n v)) Itself) (shaped_replicate n v h, tt))
shaped_array (negsuc n) v h = (tt, tt)

shaped_fork : {R : Type 0} (f : Value R) (o : Option (List Bytes)) → IsShapedValue f → ShapedFound (fork_of f o)
shaped_fork f None h = (tt, tt)
shaped_fork f (Some []) h = needs (ForkOff f) h
shaped_fork f (Some (x ∷ xs)) h = (tt, tt)

shaped_part_of : (R : Type 0) (t : Bytes) (a b : ℤ) → IsShaped {R = R} (part t a b)
shaped_part_of R t (pos a) (pos b) = next_if (nat_lt (length t) (a + b)) text_range (Const (Text (take b (drop a t)))) (tt, tt) tt
shaped_part_of R t (pos a) (negsuc b) = (tt, tt)
shaped_part_of R t (negsuc a) b = (tt, tt)

shaped_apply : {R : Type 0} (b : Builtin) (vs : List (Value R)) → AllShaped vs → ShapedFound (apply b vs)
shaped_apply Not (Truth b ∷ []) k = tt
shaped_apply Exception (Text t ∷ []) k = tt
shaped_apply FmtInt (Int z ∷ []) k = tt
shaped_apply FmtBool (Truth b ∷ []) k = tt
shaped_apply TextLength (Text t ∷ []) k = tt
shaped_apply TextSub (Text t ∷ Int start ∷ Int size ∷ []) k = shaped_part_of _ t start size
shaped_apply ArrayNew (Int n ∷ v ∷ []) k = shaped_array n v k.1.0
shaped_apply ArraySize (Loc Array a ∷ []) k = needs (GetSize a) tt
shaped_apply PutText (Loc Writer w ∷ Text t ∷ []) k = needs (Write w t) tt
shaped_apply NewCondition [] k = needs (New (ConditionCell []) Itself) (tt, tt)
shaped_apply SignalOne (Loc Condition c ∷ []) k = needs (Signal c) tt
shaped_apply SignalAll (Loc Condition c ∷ []) k = needs (Broadcast c) tt
shaped_apply Fork (f ∷ []) k = shaped_fork f (params_of f) k.0
shaped_apply JoinThread (Thread t ∷ []) k = needs (JoinWith t) tt
shaped_apply NetExport (Text name ∷ Text namer ∷ v ∷ []) k = needs (Export name v) k.1.1.0
shaped_apply NetImport (Text name ∷ Text namer ∷ []) k = needs (Import name false) tt
shaped_apply ExportEngine (Text name ∷ Text namer ∷ v ∷ []) k = needs (New (EngineCell v) (Offered name namer)) (k.1.1.0, tt)
shaped_apply ImportEngine (Text name ∷ Text namer ∷ []) k = needs (Import name true) tt
shaped_apply _ _ k = (tt, tt)

shaped_number : (R : Type 0) (z : ℤ) → IsShaped {R = R} (number z)
shaped_number R z = next_if (is_i64 z) (Const (Int z)) int_overflow tt (tt, tt)

shaped_divided : (R : Type 0) (f : ℤ → ℤ → ℤ) (a b : ℤ) → IsShaped {R = R} (divided f a b)
shaped_divided R f a (pos zero) = (tt, tt)
shaped_divided R f a (pos (suc n)) = shaped_number R (f a (pos (suc n)))
shaped_divided R f a (negsuc n) = shaped_number R (f a (negsuc n))

shaped_compared : (R : Type 0) (f : Bool → Bool) (o : Option Bool) → IsShaped {R = R} (compared f o)
shaped_compared R f None = (tt, tt)
shaped_compared R f (Some b) = tt

shaped_operate : {R : Type 0} (eq : R → R → Bool) (op : Operator) (v w : Value R) → IsShaped (operate eq op v w)
shaped_operate eq Operator.Add (Int a) (Int b) = shaped_number _ (a +ℤ b)
shaped_operate eq Operator.Subtract (Int a) (Int b) = shaped_number _ (a -ℤ b)
shaped_operate eq Operator.Multiply (Int a) (Int b) = shaped_number _ (a *ℤ b)
shaped_operate eq Operator.Divide (Int a) (Int b) = shaped_divided _ int_div a b
shaped_operate eq Operator.Remainder (Int a) (Int b) = shaped_divided _ int_rem a b
shaped_operate eq Operator.Join (Text a) (Text b) = next_if (nat_lt TEXT_LIMIT (length (a ++ b))) text_limit (Const (Text (a ++ b))) (tt, tt) tt
shaped_operate eq Operator.Less (Int a) (Int b) = tt
shaped_operate eq Operator.LessEqual (Int a) (Int b) = tt
shaped_operate eq Operator.Greater (Int a) (Int b) = tt
shaped_operate eq Operator.GreaterEqual (Int a) (Int b) = tt
shaped_operate eq Operator.Is v w = shaped_compared _ (λ b. b) (same eq v w)
shaped_operate eq Operator.IsNot v w = shaped_compared _ not (same eq v w)
shaped_operate eq _ _ _ = (tt, tt)

shaped_counting : {R : Type 0} (i n : ℤ) (scope : Term R) → IsShapedUnderOne scope → IsShaped (counting i n scope)
shaped_counting i n scope h =
    next_if (int_lt n i) (Const Okay) (Form (Counting i n) (Part (enter (Int i ∷ []) scope) (Part scope End))) tt
    (tt, (shaped_enter (Int i ∷ []) scope (tt, tt) (one_scope scope h), (h, tt)))

shaped_choose : {R : Type 0} (e : Bytes) (arms : Parts R) → AreShaped Terms arms → IsShaped (choose e arms)
shaped_choose e (Part guard (Part block arms)) h = (tt, h)
shaped_choose e (Part block End) h = (tt, h.0)
shaped_choose e End h = (tt, tt)

shaped_chosen : {R : Type 0} (e : Bytes) (v : Value R) (block : Term R) (arms : Parts R) → IsShaped block → AreShaped Terms arms → ShapedFound (chosen e v block arms)
shaped_chosen e (Exc f) block arms h k = next_if (bytes_eq e f) block (choose e arms) h (shaped_choose e arms k)
shaped_chosen e _ block arms h k = (tt, tt)

shaped_tested : {R : Type 0} (o c : R) (v : Value R) (guard : Term R) → IsShaped guard → ShapedFound (tested o c v guard)
shaped_tested o c (Truth true) guard h = tt
shaped_tested o c (Truth false) guard h = needs (LineUp o c guard) h
shaped_tested o c _ guard h = (tt, tt)

shaped_watching : {R : Type 0} (o : Option R) (plain : Bool) (c : R) (guard : Term R) → IsShaped guard → ShapedFound (watching o plain c guard)
shaped_watching (Some o) false c guard h = (tt, (h, (h, tt)))
shaped_watching (Some o) true c guard h = (tt, tt)
shaped_watching None plain c guard h = (tt, tt)

shaped_cloned : {R : Type 0} (flags : Option Flags) (fields : Fields R) (rest : List R) → AreShapedFields fields → ShapedFound (cloned flags fields rest)
shaped_cloned flags fields (o ∷ rest) h = needs (Copy o flags fields rest) h
shaped_cloned None fields [] h = (tt, tt)
shaped_cloned (Some flags) fields [] h = found_if (twice (field_names fields)) (Next field_twice) (Needs (New (ObjectCell flags None fields) Itself) []) (tt, tt) (needs (New (ObjectCell flags None fields) Itself) (h, tt))

shaped_out : {R : Type 0} (o : R) (m : Mode) (t : Term R) → IsShaped t → ShapedFound (out_of_method o m t)
shaped_out o Held t h = needs (Leave o t) h
shaped_out o Plain t h = h
shaped_out o Inner t h = h

shaped_row : {R : Type 0} (eq : R → R → Bool) (a : ℕ) (s : Self R) (k : Kind R) (vs : List (Value R)) (parts : Parts R) → IsShapedKind k → AreShaped (pattern_of k) (values_before vs parts) → ShapedFound (row eq a s k vs parts)
shaped_row eq a s Empty [] End c h = tt
shaped_row eq a s Then (v ∷ []) (Part rest End) c h = h.1.0
shaped_row eq a s Let (v ∷ []) (Part scope End) c h = shaped_enter (v ∷ []) scope (h.0, tt) (one_scope scope h.1.0)
shaped_row eq a s Var (v ∷ []) (Part scope End) c h = needs (New (VariableCell v) (Entered scope)) (h.0, h.1.0)
shaped_row eq a s LetRec [] (Part (Under names (Form Group (Part rest group))) End) c h =
    next_if (nat_lt CLOSURE_LIMIT (deepest_of group)) closure_limit (put_members names group 0 names rest) (tt, tt) (shaped_put_members names group 0 names rest h.1 h.0)
shaped_row eq a s Procedure [] (Part (Under params body) End) c h = next_if (is_too_deep body) closure_limit (Const (Closure params body)) (tt, tt) h.0
shaped_row eq a s Assign (v ∷ []) (Part (Form (Read l) End) End) c h = needs (SetVariable l v) h.0
shaped_row eq a s Assign (v ∷ []) (Part target End) c h = (tt, tt)
shaped_row eq a s If (Truth b ∷ []) (Part block (Part otherwise End)) c h = next_if b block otherwise h.1.0 h.1.1.0
shaped_row eq a s OrIf (Truth b ∷ []) (Part right End) c h = next_if b (Const (Truth true)) right tt h.1.0
shaped_row eq a s AndIf (Truth b ∷ []) (Part right End) c h = next_if b right (Const (Truth false)) h.1.0 tt
shaped_row eq a s (Operate op) (v ∷ w ∷ []) End c h = shaped_operate eq op v w
shaped_row eq a s Call (f ∷ vs) End c h = found_if (is_callable f && is_call_limit a) (Next call_limit) (call_value f vs) (tt, tt) (shaped_call_value f vs h.0 (values_shaped vs End h.1))
shaped_row eq a s (Apply q) vs End c h = found_if (length vs == arity_of_builtin q) (apply q vs) (Next arity) (shaped_apply q vs (values_shaped vs End h)) (tt, tt)
shaped_row eq a s MakeArray vs End c h = found_if (nat_lt ARRAY_LIMIT (length vs)) (Next array_limit) (Needs (New (ArrayCell vs) Itself) []) (tt, tt) (needs (New (ArrayCell vs) Itself) (values_shaped vs End h, tt))
shaped_row eq a s Index (Loc Array r ∷ Int i ∷ []) End c h = needs (GetItem r i) tt
shaped_row eq a s SetIndex (Loc Array r ∷ Int i ∷ v ∷ []) End c h = needs (SetItem r i v) h.1.1.0
shaped_row eq a s (MakeObject flags layout) vs methods c h =
    let parts : AllShaped vs × AreShapedBodies methods = literal_parts (operands_of layout) (methods_of layout) vs methods h in
    found_if (twice (layout_names layout)) (Next field_twice) (new_object flags methods (fields_of layout vs methods)) (tt, tt)
    (shaped_new_object flags methods (fields_of layout vs methods) (shaped_fields layout vs methods parts.0 parts.1))
shaped_row eq a s (Select x) (Loc Object q ∷ []) End c h = needs (Get q x) tt
shaped_row eq a s (Invoke x) (Loc Object q ∷ vs) End c h = found_if (is_call_limit a) (Next call_limit) (Needs (CallMethod q x vs) []) (tt, tt) (needs (CallMethod q x vs) (values_shaped vs End h.1))
shaped_row eq a s (SetValue x) (Loc Object q ∷ v ∷ []) End c h = needs (Set q x (IsValue v)) h.1.0
shaped_row eq a s (SetMethod x) (Loc Object q ∷ []) (Part (Under params body) End) c h = found_if (is_too_deep body) (Next closure_limit) (Needs (Set q x (IsMethod params body)) []) (tt, tt) (needs (Set q x (IsMethod params body)) h.1.0)
shaped_row eq a s (SetAlias x y) (Loc Object q ∷ Loc Object r ∷ []) End c h = needs (Set q x (IsAlias r y)) tt
shaped_row eq a s Redirect (Loc Object q ∷ Loc Object r ∷ []) End c h = needs (RedirectTo q r) tt
shaped_row eq a s Clone vs End c h = shaped_clone (objects vs)
shaped_row eq a s Raise (Exc e ∷ []) End c h = (tt, tt)
shaped_row eq a s Exit [] End c h = (tt, tt)
shaped_row eq a s Loop [] (Part body End) c h = (tt, (h.0, (h.0, tt)))
shaped_row eq a s For (Int m ∷ Int n ∷ []) (Part scope End) c h = shaped_counting m n scope h.1.1.0
shaped_row eq a s Foreach (Loc Array r ∷ []) (Part scope End) c h = needs (EachSize r scope) h.1.0
shaped_row eq a s Try (v ∷ []) arms c h = h.0
shaped_row eq a s Finally (v ∷ []) (Part last End) c h = (tt, (h.1.0, (h.0, tt)))
shaped_row eq a s Watch (Loc Condition q ∷ []) (Part guard End) c h = shaped_watching s.object s.plain q guard h.1.0
shaped_row eq a s (Read l) [] End c h = needs (ReadVariable l) tt
shaped_row eq a s (Raising r) [] End c h = tt
shaped_row eq a s Called (v ∷ []) End c h = h.0
shaped_row eq a s (Within o m) (v ∷ []) End c h = shaped_out o m (Const v) h.0
shaped_row eq a s Looping (v ∷ []) (Part body End) c h = (tt, (h.1.0, (h.1.0, tt)))
shaped_row eq a s (Counting i n) (v ∷ []) (Part scope End) c h = shaped_counting (i +ℤ pos 1) n scope h.1.0
shaped_row eq a s (EachAt r i n) [] (Part scope End) c h = found_if (i == n) (Next (Const Okay)) (Needs (EachItem r i n scope) []) tt (needs (EachItem r i n scope) h.0)
shaped_row eq a s (EachIn r i n) (v ∷ []) (Part scope End) c h = (tt, h.1)
shaped_row eq a s (Choosing e) (v ∷ []) (Part block arms) c h = shaped_chosen e v block arms h.1.0 h.1.1
shaped_row eq a s (Unmet e) [] (Part block End) c h = h
shaped_row eq a s (Unmet e) [] End c h = (tt, tt)
shaped_row eq a s Finishing (v ∷ []) (Part goes_on End) c h = h.1.0
shaped_row eq a s (Cloning flags copied rest) [] End c h = shaped_cloned flags copied rest c
shaped_row eq a s (Testing o q) (v ∷ []) (Part guard End) c h = shaped_tested o q v guard h.1.0
shaped_row eq a s (Lined o q) [] (Part guard End) c h = needs (GiveUp o q guard) h.0
shaped_row eq a s (Out o q) [] (Part guard End) c h = needs (Again o q guard) h.0
shaped_row eq a s _ _ _ c h = (tt, tt)

-- ---- the stops

after_terms : {R : Type 0} (vs : List (Value R)) (t : Term R) (after : Parts R) → AreShaped Terms (values_before vs (Part t after)) → AreShaped Terms after
after_terms [] t after h = h.1
after_terms (v ∷ vs) t after h = after_terms vs t after h.1

try_after : {R : Type 0} (vs : List (Value R)) (t : Term R) (after : Parts R) → AreShaped (ATerm Terms) (values_before vs (Part t after)) → AreShaped Terms after
try_after [] t after h = h.1
try_after (v ∷ vs) t after h = after_terms vs t after h.1

-- the final block of a `try`; where the hole is that block, there is none after it
no_parts : {R : Type 0} (vs : List (Value R)) (t : Term R) (after : Parts R) → AreShaped NoParts (values_before vs (Part t after)) → ⊥
no_parts [] t after h = h
no_parts (v ∷ vs) t after h = h

final_block : {R : Type 0} (vs : List (Value R)) (t : Term R) (after : Parts R) → AreShaped (ATerm (ATerm NoParts)) (values_before vs (Part t after)) → IsShaped (part_at after 0)
final_block [] t (Part last End) h = h.1.0
final_block [] t End h = absurd h.1
final_block [] t (Part last (Part u us)) h = absurd h.1.1
final_block (v ∷ []) t End h = tt
final_block (v ∷ []) t (Part u us) h = absurd h.1.1
final_block (v ∷ w ∷ vs) t after h = absurd (no_parts vs t after h.1.1)

shaped_loop : (R : Type 0) (r : Raised) → ShapedFound {R = R} (out_of_loop r)
shaped_loop R ExitUp = tt
shaped_loop R (Exn e) = (tt, tt)

shaped_try : {R : Type 0} (arms : Parts R) (r : Raised) → AreShaped Terms arms → ShapedFound (out_of_try arms r)
shaped_try arms ExitUp h = (tt, tt)
shaped_try arms (Exn e) h = shaped_choose e arms h

shaped_raised : {R : Type 0} (k : Kind R) (before : List (Value R)) (t : Term R) (after : Parts R) (r : Raised) → AreShaped (pattern_of k) (values_before before (Part t after)) → ShapedFound (at_raised (Pending k before after) r)
shaped_raised Try before t after r h = shaped_try after r (try_after before t after h)
shaped_raised Finally before t after r h = (tt, (final_block before t after h, ((tt, tt), tt)))
shaped_raised (Within o m) before t after r h = shaped_out o m (raising r) (tt, tt)
shaped_raised Looping before t after r h = shaped_loop _ r
shaped_raised (Counting i n) before t after r h = shaped_loop _ r
shaped_raised (EachIn q i n) before t after r h = shaped_loop _ r
shaped_raised Called before t after r h = (tt, tt)
shaped_raised (Choosing e) before t after r h = (tt, tt)
shaped_raised Finishing before t after r h = (tt, tt)
shaped_raised (Testing o c) before t after r h = (tt, tt)
shaped_raised _ before t after r h = tt

-- ---- operands

-- the part with this index is no term by itself
abbrev is_bound_at : Pattern → ℕ → Bool
is_bound_at (ATerm p) zero = false
is_bound_at (ATerm p) (suc i) = is_bound_at p i
is_bound_at (AScope p) zero = true
is_bound_at (AScope p) (suc i) = is_bound_at p i
is_bound_at (OneName p) zero = true
is_bound_at (OneName p) (suc i) = is_bound_at p i
is_bound_at (ATarget p) zero = true
is_bound_at (ATarget p) (suc i) = is_bound_at p i
is_bound_at AGroup zero = true
is_bound_at p i = false

-- a part that is a term by itself may be replaced by another one
pub replaceable : {R : Type 0} (p : Pattern) (before : List (Value R)) (t : Term R) (after : Parts R) → AreShaped p (values_before before (Part t after)) → is_bound_at p (length before) ≡ false → IsShaped t × ((u : Term R) → IsShaped u → AreShaped p (values_before before (Part u after)))
replaceable (ATerm p) [] t after h e = (h.0, λ u i. (i, h.1))
replaceable Terms [] t after h e = (h.0, λ u i. (i, h.1))
replaceable AtMostOne [] t End h e = (h, λ u i. i)
replaceable AtMostOne [] t (Part w ws) h e = absurd h
replaceable NoParts [] t after h e = absurd h
replaceable Never [] t after h e = absurd h
replaceable (AScope p) [] t after h e = absurd (clash true refl e)
replaceable (OneName p) [] t after h e = absurd (clash true refl e)
replaceable (ATarget p) [] t after h e = absurd (clash true refl e)
replaceable AGroup [] t after h e = absurd (clash true refl e)
replaceable {R} (ATerm p) (v ∷ vs) t after h e = let rest : IsShaped t × ((u : Term R) → IsShaped u → AreShaped p (values_before vs (Part u after))) = replaceable p vs t after h.1 e in (rest.0, λ u i. (h.0, rest.1 u i))
replaceable {R} (ATarget p) (v ∷ vs) t after h e = let rest : IsShaped t × ((u : Term R) → IsShaped u → AreShaped p (values_before vs (Part u after))) = replaceable p vs t after h.2 e in (rest.0, λ u i. (h.0, h.1, rest.1 u i))
replaceable {R} Terms (v ∷ vs) t after h e = let rest : IsShaped t × ((u : Term R) → IsShaped u → AreShaped Terms (values_before vs (Part u after))) = replaceable Terms vs t after h.1 refl in (rest.0, λ u i. (h.0, rest.1 u i))
replaceable (AScope p) (v ∷ vs) t after h e = absurd h.0
replaceable (OneName p) (v ∷ vs) t after h e = absurd h.0
replaceable AtMostOne (v ∷ []) t after h e = absurd h
replaceable AtMostOne (v ∷ w ∷ vs) t after h e = absurd h
replaceable AGroup (v ∷ []) t after h e = absurd h
replaceable AGroup (v ∷ w ∷ vs) t after h e = absurd h
replaceable NoParts (v ∷ vs) t after h e = absurd h
replaceable Never (v ∷ vs) t after h e = absurd h

pub not_zero : (i : ℕ) → (suc i == 0) ≡ true → ⊥
not_zero i e = above (eqb-true (suc i) 0 e)
  where
    above : suc i ≡ 0 → ⊥
    above q = omega arith

terms_unbound : (n i : ℕ) (p : Pattern) → nat_lt i n ≡ true → is_bound_at (terms_then n p) i ≡ false
terms_unbound zero i p e = absurd (below i (ltb-true i 0 e))
  where
    below : (i : ℕ) → i < 0 → ⊥
    below i h = omega arith
terms_unbound (suc n) zero p e = refl
terms_unbound (suc n) (suc i) p e = terms_unbound n i p (lt-ltb i n (less (ltb-true (suc i) (suc n) e)))
  where
    less : suc i < suc n → i < n
    less h = omega arith

-- an operand is a term by itself
pub operand_unbound : {R : Type 0} (k : Kind R) (i : ℕ) → is_operand k i ≡ true → is_bound_at (pattern_of k) i ≡ false
operand_unbound Let zero e = refl
operand_unbound Let (suc i) e = absurd (not_zero i e)
operand_unbound Var zero e = refl
operand_unbound Var (suc i) e = absurd (not_zero i e)
operand_unbound Assign zero e = refl
operand_unbound Assign (suc i) e = absurd (not_zero i e)
operand_unbound Foreach zero e = refl
operand_unbound Foreach (suc i) e = absurd (not_zero i e)
operand_unbound (SetMethod x) zero e = refl
operand_unbound (SetMethod x) (suc i) e = absurd (not_zero i e)
operand_unbound (Counting at last) zero e = refl
operand_unbound (Counting at last) (suc i) e = absurd (not_zero i e)
operand_unbound (EachIn r at size) zero e = refl
operand_unbound (EachIn r at size) (suc i) e = absurd (not_zero i e)
operand_unbound For zero e = refl
operand_unbound For (suc zero) e = refl
operand_unbound For (suc (suc zero)) e = absurd (clash false e refl)
operand_unbound For (suc (suc (suc i))) e = refl
operand_unbound (MakeObject flags layout) i e = terms_unbound (operands_of layout) i (scopes (methods_of layout)) e
operand_unbound LetRec i e = absurd (clash false e refl)
operand_unbound Procedure i e = absurd (clash false e refl)
operand_unbound (EachAt r at size) i e = absurd (clash false e refl)
operand_unbound (Unmet x) i e = absurd (clash false e refl)
operand_unbound _ zero e = refl
operand_unbound _ (suc zero) e = refl
operand_unbound _ (suc (suc zero)) e = refl
operand_unbound _ (suc (suc (suc i))) e = refl

-- ---- the walk

pub values_snoc : {R : Type 0} (vs : List (Value R)) (v : Value R) (ts : Parts R) → values_before (vs ++ v ∷ []) ts ≡ values_before vs (Part (Const v) ts)
values_snoc [] v ts = refl
values_snoc (u ∷ vs) v ts = ap (Part (Const u)) (values_snoc vs v ts)

shaped_through : {R : Type 0} (k : Kind R) (before : List (Value R)) (t : Term R) (after : Parts R) (on_value : Value R → Found R) (x : Found R) → IsShapedKind k → AreShaped (pattern_of k) (values_before before (Part t after)) → ((u : Term R) → IsShaped u → AreShaped (pattern_of k) (values_before before (Part u after))) → ((v : Value R) → IsShapedValue v → ShapedFound (on_value v)) → ShapedFound x → ShapedFound (through (Pending k before after) on_value x)
shaped_through k before t after on_value (Next u) c h f g i = (c, f u i)
shaped_through k before t after on_value (Needs op fs) c h f g i = (i.0, λ u j. (c, f (plug fs u) (i.1 u j)))
shaped_through k before t after on_value (Done v) c h f g i = g v i
shaped_through k before t after on_value (Uncaught r) c h f g i = shaped_raised k before t after r h

mutual
  pub shaped_find : {R : Type 0} (eq : R → R → Bool) (a : ℕ) (s : Self R) (t : Term R) → IsShaped t → ShapedFound (find eq a s t)
  shaped_find eq a s (Const v) h = h
  shaped_find eq a s (Name x) h = (tt, tt)
  shaped_find eq a s (Under names t) h = absurd h
  shaped_find eq a s (Form k parts) h = shaped_find_part eq a s k [] parts h.0 h.1

  shaped_find_part : {R : Type 0} (eq : R → R → Bool) (a : ℕ) (s : Self R) (k : Kind R) (before : List (Value R)) (parts : Parts R) → IsShapedKind k → AreShaped (pattern_of k) (values_before before parts) → ShapedFound (find_part eq a s k before parts)
  shaped_find_part eq a s k before End c h = shaped_row eq a s k before End c h
  shaped_find_part {R} eq a s k before (Part t after) c h = by_operand (is_operand k (length before)) refl (shaped_find eq (activations_in a k) (self_in s k) t) (λ v. shaped_find_part eq a s k (before ++ v ∷ []) after c)
    where
      by_operand : (b : Bool) → is_operand k (length before) ≡ b → (IsShaped t → ShapedFound (find eq (activations_in a k) (self_in s k) t)) → ((v : Value R) → AreShaped (pattern_of k) (values_before (before ++ v ∷ []) after) → ShapedFound (find_part eq a s k (before ++ v ∷ []) after)) → ShapedFound (elim b [ true ↦ through (Pending k before after) (λ v. find_part eq a s k (before ++ v ∷ []) after) (find eq (activations_in a k) (self_in s k) t) | false ↦ row eq a s k before (Part t after) ])
      by_operand true e inner next =
          let parts : IsShaped t × ((u : Term R) → IsShaped u → AreShaped (pattern_of k) (values_before before (Part u after))) = replaceable (pattern_of k) before t after h (operand_unbound k (length before) e) in
          shaped_through k before t after (λ v. find_part eq a s k (before ++ v ∷ []) after) (find eq (activations_in a k) (self_in s k) t) c h parts.1
          (λ v i. next v (subst (AreShaped (pattern_of k)) (sym (values_snoc before v after)) (parts.1 (Const v) i))) (inner parts.0)
      by_operand false e inner next = shaped_row eq a s k before (Part t after) c h

shaped_next : {R : Type 0} (x : Found R) (u : Term R) → ShapedFound x → next_of x ≡ Some u → IsShaped u
shaped_next (Next t) u h e = subst IsShaped (ap (λ o. unwrap_or o t) e) h
shaped_next (Needs op fs) u h e = absurd (none_some u e)
shaped_next (Done v) u h e = absurd (none_some u e)
shaped_next (Uncaught r) u h e = absurd (none_some u e)

pub step_shaped : {R : Type 0} → StepShaped R
step_shaped eq a s t u h e = shaped_next (find eq a s t) u (shaped_find eq a s t h) e
