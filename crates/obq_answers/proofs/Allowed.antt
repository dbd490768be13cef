-- What stands next as an act's form isn't refused: what its row looks at first was looked at.
use Rattle.std.specs.Prelude.{Bool, List, None, Option, Some, [], false, if◌then◌else◌, length, nat_lt, negsuc, option_map, pos, refl, replicate, true, ℕ, ℤ, ◌&&◌, ◌++◌, ◌==◌, ◌∷◌, ◌≡◌}
use Rattle.std.proofs.Common.{ap, arith, subst, ◌∙◌}
use Rattle.std.proofs.lemmas.Bool.Decides.{nat_tests}
use Rattle.std.proofs.lemmas.List.{length-replicate}
use Rattle.obq_base.specs.declared.limits.TheConstants.{ARRAY_LIMIT, CLOSURE_LIMIT}
use Rattle.obq_base.specs.declared.trees.Flags.{Flags}
use Rattle.obq_model.specs.Builtins.{arity_of_builtin}
use Rattle.obq_model.specs.Depth.{deepest_of, is_too_deep}
use Rattle.obq_model.specs.Exceptions.{arity, array_limit, call_limit, closure_limit, field_twice}
use Rattle.obq_model.specs.Step.{CallMethod, Done, EachItem, ForkOff, Found, Frame, Itself, Needs, New, Next, Operation, Pending, RunEngine, Self, Set, Uncaught, activations_at, activations_in, apply, array_of_size, at_raised, body_with, call, call_closure, call_engine, call_value, chosen, cloned, field_before, fields_of, find, find_part, fork_of, is_call_limit, is_callable, is_operand, layout_names, make_object, new_object, out_of_loop, out_of_method, out_of_try, params_of, row, self_at, self_in, tested, through, watching, with_one_parameter}
use Rattle.obq_model.specs.Store.{ArrayCell, ObjectCell, field_names, twice}
use Rattle.obq_model.specs.Terms.{AliasField, AndIf, Apply, Array, ArrayNew, ArraySize, Assign, Builtin, Bytes, Call, Called, Choosing, Clone, Cloning, Condition, Const, Counting, EachAt, EachIn, Empty, End, Engine, Exc, Exception, Exit, Exn, ExitUp, ExportEngine, FieldBody, Fields, Finally, Finishing, FmtBool, FmtInt, For, Foreach, Fork, Form, Group, Held, If, ImportEngine, Index, Inner, Int, Invoke, IsAlias, IsMethod, IsValue, JoinThread, Kind, Layout, Let, LetRec, Lined, Loc, Loop, Looping, MakeArray, MakeObject, MethodField, Mode, Name, NetExport, NetImport, NewCondition, NoLayout, Not, Object, Okay, Operate, OrIf, Out, Part, Parts, Plain, Procedure, PutText, Raise, Raised, Raising, Read, Redirect, Select, SetAlias, SetIndex, SetMethod, SetValue, SignalAll, SignalOne, Term, Testing, Text, TextLength, TextSub, Then, Thread, Truth, Try, Under, Unmet, Value, ValueField, Var, Watch, Within, Writer}
use Rattle.obq_model.proofs.Found.{needs_frames}

-- what a row has looked at where it asks for this, inside a activations
abbrev pub IsAllowed : {R : Type 0} → ℕ → Operation R → Type 0
IsAllowed a (New (ArrayCell vs) after) = nat_lt ARRAY_LIMIT (length vs) ≡ false
IsAllowed a (New (ObjectCell flags owner fields) after) = twice (field_names fields) ≡ false
IsAllowed a (CallMethod o x vs) = is_call_limit a ≡ false
IsAllowed a (ForkOff f) = params_of f ≡ Some []
IsAllowed a (RunEngine e f) = (is_call_limit a ≡ false) × (option_map length (params_of f) ≡ Some 1)
IsAllowed a (EachItem r i n scope) = (i == n) ≡ false
IsAllowed a op = Unit {0}

-- so is what was found, where it is an act's form without frames
abbrev AllowedIn : {R : Type 0} → ℕ → Found R → Type 0
AllowedIn a (Needs op []) = IsAllowed a op
AllowedIn a found = Unit {0}

by_test : {R : Type 0} (a : ℕ) (b : Bool) (x y : Found R) → AllowedIn a x → (b ≡ false → AllowedIn a y) → AllowedIn a (if b then x else y)
by_test a true x y h i = h
by_test a false x y h i = i refl

if_found : {R : Type 0} (a : ℕ) (b : Bool) (x y : Found R) → (b ≡ true → AllowedIn a x) → AllowedIn a y → AllowedIn a (if b then x else y)
if_found a true x y h i = h refl
if_found a false x y h i = i

-- ---- calls

allowed_call_closure : {R : Type 0} (a : ℕ) (f : Value R) (vs : List (Value R)) (o : Option (List Bytes)) → AllowedIn a (call_closure f vs o)
allowed_call_closure a f vs None = tt
allowed_call_closure a f vs (Some params) = if_found a (length params == length vs) (Next (Form Called (Part (body_with f vs) End))) (Next arity) (λ e. tt) tt

one_is : (n : ℕ) → (n == 1) ≡ true → n ≡ 1
one_is n e = grind (arith, nat_tests)

allowed_parameter : {R : Type 0} (a : ℕ) (e : R) (f : Value R) → is_call_limit a ≡ false → (o : Option (List Bytes)) → params_of f ≡ o → AllowedIn a (with_one_parameter e f o)
allowed_parameter a e f h None k = tt
allowed_parameter a e f h (Some params) k =
    if_found a (length params == 1) (Needs (RunEngine e f) []) (Next arity) (λ q. (h, ap (option_map length) k ∙ ap Some (one_is (length params) q))) tt

allowed_call_engine : {R : Type 0} (a : ℕ) (e : R) (vs : List (Value R)) → is_call_limit a ≡ false → AllowedIn a (call_engine e vs)
allowed_call_engine a e (f ∷ []) h = allowed_parameter a e f h (params_of f) refl
allowed_call_engine a e vs h = tt

allowed_call_value : {R : Type 0} (a : ℕ) (f : Value R) (vs : List (Value R)) → (is_callable f && is_call_limit a) ≡ false → AllowedIn a (call_value f vs)
allowed_call_value a (Loc Engine e) vs h = allowed_call_engine a e vs h
allowed_call_value a f vs h = allowed_call_closure a f vs (params_of f)

allowed_call : {R : Type 0} (a : ℕ) (f : Value R) (vs : List (Value R)) → AllowedIn a (call a f vs)
allowed_call a f vs = by_test a (is_callable f && is_call_limit a) (Next call_limit) (call_value f vs) tt (allowed_call_value a f vs)

-- ---- object literals

-- the fields have these names, if they are there
abbrev Named : {R : Type 0} → List Bytes → Option (Fields R) → Type 0
Named names None = Unit {0}
Named names (Some fields) = field_names fields ≡ names

named_before : {R : Type 0} (x : Bytes) (body : FieldBody R) (names : List Bytes) (o : Option (Fields R)) → Named names o → Named (x ∷ names) (field_before x body o)
named_before x body names None h = tt
named_before x body names (Some fields) h = ap (λ l. x ∷ l) h

fields_named : {R : Type 0} (s : Layout) (vs : List (Value R)) (methods : Parts R) → Named (layout_names s) (fields_of s vs methods)
fields_named NoLayout vs methods = refl
fields_named (ValueField x s) (v ∷ vs) methods = named_before x (IsValue v) (layout_names s) (fields_of s vs methods) (fields_named s vs methods)
fields_named (MethodField x s) vs (Part (Under params body) methods) = named_before x (IsMethod params body) (layout_names s) (fields_of s vs methods) (fields_named s vs methods)
fields_named (AliasField x y s) (Loc Object o ∷ vs) methods = named_before x (IsAlias o y) (layout_names s) (fields_of s vs methods) (fields_named s vs methods)
fields_named s vs methods = tt

allowed_new_object : {R : Type 0} (a : ℕ) (flags : Flags) (methods : Parts R) (names : List Bytes) → twice names ≡ false → (o : Option (Fields R)) → Named names o → AllowedIn a (new_object flags methods o)
allowed_new_object a flags methods names e None h = tt
allowed_new_object a flags methods names e (Some fields) h =
    by_test a (nat_lt CLOSURE_LIMIT (deepest_of methods)) (Next closure_limit) (Needs (New (ObjectCell flags None fields) Itself) []) tt (λ q. ap twice h ∙ e)

allowed_make_object : {R : Type 0} (a : ℕ) (flags : Flags) (s : Layout) (vs : List (Value R)) (methods : Parts R) → AllowedIn a (make_object flags s vs methods)
allowed_make_object a flags s vs methods =
    by_test a (twice (layout_names s)) (Next field_twice) (new_object flags methods (fields_of s vs methods)) tt (λ e. allowed_new_object a flags methods (layout_names s) e (fields_of s vs methods) (fields_named s vs methods))

-- ---- built-ins, and what other rows come to

allowed_array_of_size : {R : Type 0} (a : ℕ) (n : ℤ) (v : Value R) → AllowedIn a (array_of_size n v)
allowed_array_of_size a (pos n) v =
    by_test a (nat_lt ARRAY_LIMIT n) (Next array_limit) (Needs (New (ArrayCell (replicate n v)) Itself) []) tt (λ e. ap (nat_lt ARRAY_LIMIT) (length-replicate n v) ∙ e)
allowed_array_of_size a (negsuc n) v = tt

allowed_fork_of : {R : Type 0} (a : ℕ) (f : Value R) (o : Option (List Bytes)) → params_of f ≡ o → AllowedIn a (fork_of f o)
allowed_fork_of a f None h = tt
allowed_fork_of a f (Some []) h = h
allowed_fork_of a f (Some (x ∷ xs)) h = tt

allowed_apply : {R : Type 0} (a : ℕ) (b : Builtin) (vs : List (Value R)) → AllowedIn a (apply b vs)
allowed_apply a Not (Truth b ∷ []) = tt
allowed_apply a Exception (Text t ∷ []) = tt
allowed_apply a FmtInt (Int z ∷ []) = tt
allowed_apply a FmtBool (Truth b ∷ []) = tt
allowed_apply a TextLength (Text t ∷ []) = tt
allowed_apply a TextSub (Text t ∷ Int start ∷ Int size ∷ []) = tt
allowed_apply a ArrayNew (Int n ∷ v ∷ []) = allowed_array_of_size a n v
allowed_apply a ArraySize (Loc Array r ∷ []) = tt
allowed_apply a PutText (Loc Writer w ∷ Text t ∷ []) = tt
allowed_apply a NewCondition [] = tt
allowed_apply a SignalOne (Loc Condition c ∷ []) = tt
allowed_apply a SignalAll (Loc Condition c ∷ []) = tt
allowed_apply a Fork (f ∷ []) = allowed_fork_of a f (params_of f) refl
allowed_apply a JoinThread (Thread t ∷ []) = tt
allowed_apply a NetExport (Text name ∷ Text namer ∷ v ∷ []) = tt
allowed_apply a NetImport (Text name ∷ Text namer ∷ []) = tt
allowed_apply a ExportEngine (Text name ∷ Text namer ∷ v ∷ []) = tt
allowed_apply a ImportEngine (Text name ∷ Text namer ∷ []) = tt
allowed_apply a b vs = tt

allowed_out_of_method : {R : Type 0} (a : ℕ) (o : R) (m : Mode) (out : Term R) → AllowedIn a (out_of_method o m out)
allowed_out_of_method a o Held out = tt
allowed_out_of_method a o Plain out = tt
allowed_out_of_method a o Inner out = tt

allowed_chosen : {R : Type 0} (a : ℕ) (e : Bytes) (v : Value R) (block : Term R) (arms : Parts R) → AllowedIn a (chosen e v block arms)
allowed_chosen a e (Exc f) block arms = tt
allowed_chosen a e v block arms = tt

allowed_tested : {R : Type 0} (a : ℕ) (o c : R) (v : Value R) (guard : Term R) → AllowedIn a (tested o c v guard)
allowed_tested a o c (Truth true) guard = tt
allowed_tested a o c (Truth false) guard = tt
allowed_tested a o c v guard = tt

allowed_watching : {R : Type 0} (a : ℕ) (o : Option R) (plain : Bool) (c : R) (guard : Term R) → AllowedIn a (watching o plain c guard)
allowed_watching a (Some o) false c guard = tt
allowed_watching a o plain c guard = tt

allowed_cloned : {R : Type 0} (a : ℕ) (flags : Option Flags) (fields : Fields R) (rest : List R) → AllowedIn a (cloned flags fields rest)
allowed_cloned a flags fields (o ∷ rest) = tt
allowed_cloned a None fields [] = tt
allowed_cloned a (Some flags) fields [] = by_test a (twice (field_names fields)) (Next field_twice) (Needs (New (ObjectCell flags None fields) Itself) []) tt (λ e. e)

-- ---- rows

allowed_row : {R : Type 0} (eq : R → R → Bool) (a : ℕ) (s : Self R) (k : Kind R) (vs : List (Value R)) (parts : Parts R) → AllowedIn a (row eq a s k vs parts)
allowed_row eq a s Empty [] End = tt
allowed_row eq a s Then (v ∷ []) (Part rest End) = tt
allowed_row eq a s Let (v ∷ []) (Part scope End) = tt
allowed_row eq a s Var (v ∷ []) (Part scope End) = tt
allowed_row eq a s LetRec [] (Part (Under names (Form Group (Part rest group))) End) = tt
allowed_row eq a s Procedure [] (Part (Under params body) End) = tt
allowed_row eq a s Assign (v ∷ []) (Part (Form (Read l) End) End) = tt
allowed_row eq a s Assign (v ∷ []) (Part target End) = tt
allowed_row eq a s If (Truth b ∷ []) (Part block (Part otherwise End)) = tt
allowed_row eq a s OrIf (Truth b ∷ []) (Part right End) = tt
allowed_row eq a s AndIf (Truth b ∷ []) (Part right End) = tt
allowed_row eq a s (Operate op) (v ∷ w ∷ []) End = tt
allowed_row eq a s Call (f ∷ vs) End = allowed_call a f vs
allowed_row eq a s (Apply b) vs End = if_found a (length vs == arity_of_builtin b) (apply b vs) (Next arity) (λ e. allowed_apply a b vs) tt
allowed_row eq a s MakeArray vs End = by_test a (nat_lt ARRAY_LIMIT (length vs)) (Next array_limit) (Needs (New (ArrayCell vs) Itself) []) tt (λ e. e)
allowed_row eq a s Index (Loc Array r ∷ Int i ∷ []) End = tt
allowed_row eq a s SetIndex (Loc Array r ∷ Int i ∷ v ∷ []) End = tt
allowed_row eq a s (MakeObject flags shape) vs methods = allowed_make_object a flags shape vs methods
allowed_row eq a s (Select x) (Loc Object o ∷ []) End = tt
allowed_row eq a s (Invoke x) (Loc Object o ∷ vs) End = by_test a (is_call_limit a) (Next call_limit) (Needs (CallMethod o x vs) []) tt (λ e. e)
allowed_row eq a s (SetValue x) (Loc Object o ∷ v ∷ []) End = tt
allowed_row eq a s (SetMethod x) (Loc Object o ∷ []) (Part (Under params body) End) = by_test a (is_too_deep body) (Next closure_limit) (Needs (Set o x (IsMethod params body)) []) tt (λ e. tt)
allowed_row eq a s (SetAlias x y) (Loc Object o ∷ Loc Object p ∷ []) End = tt
allowed_row eq a s Redirect (Loc Object o ∷ Loc Object p ∷ []) End = tt
allowed_row eq a s Clone vs End = tt
allowed_row eq a s Raise (Exc e ∷ []) End = tt
allowed_row eq a s Exit [] End = tt
allowed_row eq a s Loop [] (Part body End) = tt
allowed_row eq a s For (Int m ∷ Int n ∷ []) (Part scope End) = tt
allowed_row eq a s Foreach (Loc Array r ∷ []) (Part scope End) = tt
allowed_row eq a s Try (v ∷ []) arms = tt
allowed_row eq a s Finally (v ∷ []) (Part last End) = tt
allowed_row eq a s Watch (Loc Condition c ∷ []) (Part guard End) = allowed_watching a s.object s.plain c guard
allowed_row eq a s (Read l) [] End = tt
allowed_row eq a s (Raising r) [] End = tt
allowed_row eq a s Called (v ∷ []) End = tt
allowed_row eq a s (Within o m) (v ∷ []) End = allowed_out_of_method a o m (Const v)
allowed_row eq a s Looping (v ∷ []) (Part body End) = tt
allowed_row eq a s (Counting i n) (v ∷ []) (Part scope End) = tt
allowed_row eq a s (EachAt r i n) [] (Part scope End) = by_test a (i == n) (Next (Const Okay)) (Needs (EachItem r i n scope) []) tt (λ e. e)
allowed_row eq a s (EachIn r i n) (v ∷ []) (Part scope End) = tt
allowed_row eq a s (Choosing e) (v ∷ []) (Part block arms) = allowed_chosen a e v block arms
allowed_row eq a s (Unmet e) [] (Part block End) = tt
allowed_row eq a s (Unmet e) [] End = tt
allowed_row eq a s Finishing (v ∷ []) (Part kept End) = tt
allowed_row eq a s (Cloning flags copied rest) [] End = allowed_cloned a flags copied rest
allowed_row eq a s (Testing o c) (v ∷ []) (Part guard End) = allowed_tested a o c v guard
allowed_row eq a s (Lined o c) [] (Part guard End) = tt
allowed_row eq a s (Out o c) [] (Part guard End) = tt
allowed_row eq a s k vs parts = tt

-- ---- stops, and the walk to the focus

allowed_out_of_loop : (R : Type 0) (a : ℕ) (r : Raised) → AllowedIn {R = R} a (out_of_loop r)
allowed_out_of_loop R a ExitUp = tt
allowed_out_of_loop R a (Exn e) = tt

allowed_out_of_try : {R : Type 0} (a : ℕ) (arms : Parts R) (r : Raised) → AllowedIn a (out_of_try arms r)
allowed_out_of_try a arms ExitUp = tt
allowed_out_of_try a arms (Exn e) = tt

allowed_at_raised : {R : Type 0} (a : ℕ) (k : Kind R) (before : List (Value R)) (after : Parts R) (r : Raised) → AllowedIn a (at_raised (Pending k before after) r)
allowed_at_raised a Try before arms r = allowed_out_of_try a arms r
allowed_at_raised a Finally before after r = tt
allowed_at_raised a Called before after r = tt
allowed_at_raised a (Within o m) before after r = allowed_out_of_method a o m _
allowed_at_raised a Looping before after r = allowed_out_of_loop _ a r
allowed_at_raised a (Counting i n) before after r = allowed_out_of_loop _ a r
allowed_at_raised a (EachIn q i n) before after r = allowed_out_of_loop _ a r
allowed_at_raised a (Choosing e) before after r = tt
allowed_at_raised a Finishing before after r = tt
allowed_at_raised a (Testing o c) before after r = tt
allowed_at_raised a k before after r = tt

-- an act's form in the hole has the frame around it
allowed_through : {R : Type 0} (a : ℕ) (k : Kind R) (before : List (Value R)) (after : Parts R) (g : Value R → Found R) → ((v : Value R) → AllowedIn a (g v)) → (x : Found R) → AllowedIn a (through (Pending k before after) g x)
allowed_through a k before after g h (Next t) = tt
allowed_through a k before after g h (Needs op fs) = tt
allowed_through a k before after g h (Done v) = h v
allowed_through a k before after g h (Uncaught r) = allowed_at_raised a k before after r

by_operand : {R : Type 0} (a : ℕ) (b : Bool) (x y : Found R) → AllowedIn a x → AllowedIn a y → AllowedIn a (elim b as (λ z. Found R) [ true ↦ x | false ↦ y ])
by_operand a true x y h i = h
by_operand a false x y h i = i

allowed_part : {R : Type 0} (eq : R → R → Bool) (a : ℕ) (s : Self R) (k : Kind R) (before : List (Value R)) (parts : Parts R) → AllowedIn a (find_part eq a s k before parts)
allowed_part eq a s k before End = allowed_row eq a s k before End
allowed_part eq a s k before (Part t after) =
    by_operand a (is_operand k (length before)) (through (Pending k before after) (λ v. find_part eq a s k (before ++ v ∷ []) after) (find eq (activations_in a k) (self_in s k) t)) (row eq a s k before (Part t after))
    (allowed_through a k before after (λ v. find_part eq a s k (before ++ v ∷ []) after) (λ v. allowed_part eq a s k (before ++ v ∷ []) after) (find eq (activations_in a k) (self_in s k) t)) (allowed_row eq a s k before (Part t after))

allowed_find : {R : Type 0} (eq : R → R → Bool) (a : ℕ) (s : Self R) (t : Term R) → AllowedIn a (find eq a s t)
allowed_find eq a s (Const v) = tt
allowed_find eq a s (Name x) = tt
allowed_find eq a s (Under names t) = tt
allowed_find eq a s (Form k parts) = allowed_part eq a s k [] parts

-- what a term needs isn't refused at its form
pub needs_allowed : {R : Type 0} (eq : R → R → Bool) (a : ℕ) (s : Self R) (t : Term R) (o : Operation R) (fs : List (Frame R)) → find eq a s t ≡ Needs o fs → IsAllowed (activations_at a fs) o
needs_allowed eq a s t o fs e =
    let form : Term _ = (needs_frames eq a s t o fs e).1.0 in
    subst (AllowedIn (activations_at a fs)) (needs_frames eq a s t o fs e).1.2 (allowed_find eq (activations_at a fs) (self_at s fs) form)
