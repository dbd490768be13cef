-- What stands next in a term: an operation is the act's form in frames whose holes are at operands, and only a value is done.
use Rattle.std.specs.Prelude.{Bool, List, None, Option, Some, [], false, if◌then◌else◌, length, nat_lt, negsuc, pos, refl, replicate, suc, true, ℕ, ℤ, ◌&&◌, ◌++◌, ◌==◌, ◌<◌, ◌≤◌, ◌∷◌, ◌≡◌, ◌⊎◌}
use Rattle.std.proofs.Common.{inl, inr, subst, ap, sym, ◌∙◌, arith, length-append}
use Rattle.std.proofs.lemmas.Bool.Decides.{nat_tests}
use Rattle.obq_base.specs.declared.limits.TheConstants.{ARRAY_LIMIT, CLOSURE_LIMIT}
use Rattle.obq_base.specs.declared.trees.Flags.{Flags}
use Rattle.obq_model.specs.Terms.{Bytes, Object, Array, Writer, Condition, Engine, Raised, Exn, ExitUp, Mode, Plain, Held, Inner, Builtin, Not, Exception, FmtInt, FmtBool, TextLength, TextSub, ArrayNew, ArraySize, PutText, NewCondition, SignalOne, SignalAll, Fork, JoinThread, NetExport, NetImport, ExportEngine, ImportEngine, Layout, Value, Int, Truth, Okay, Text, Exc, Thread, Loc, IsMethod, Fields, Kind, Empty, Then, Let, Var, LetRec, Group, Procedure, Assign, If, OrIf, AndIf, Operate, Call, Apply, MakeArray, Index, SetIndex, MakeObject, Select, Invoke, SetValue, SetMethod, SetAlias, Redirect, Clone, Raise, Exit, Loop, For, Foreach, Try, Finally, Watch, Read, Raising, Called, Within, Looping, Counting, EachAt, EachIn, Choosing, Unmet, Finishing, Cloning, Testing, Lined, Out, Term, Const, Name, Under, Form, Parts, End, Part}
use Rattle.obq_model.specs.Depth.{deepest_of, is_too_deep}
use Rattle.obq_model.specs.Exceptions.{arity, array_limit, field_twice, call_limit, closure_limit}
use Rattle.obq_model.specs.Builtins.{arity_of_builtin}
use Rattle.obq_model.specs.Store.{ObjectCell, ArrayCell, field_names, twice}
use Rattle.obq_model.specs.Step.{Self, Itself, Operation, New, CallMethod, Set, EachItem, RunEngine, is_operand, Frame, Pending, values_before, fill, plug, self_in, activations_in, Found, Next, Needs, Done, Uncaught, params_of, body_with, is_call_limit, call_closure, with_one_parameter, call_engine, is_callable, call_value, call, fields_of, layout_names, new_object, make_object, array_of_size, fork_of, apply, out_of_method, chosen, tested, watching, cloned, row, out_of_loop, out_of_try, at_raised, through, find, find_part, self_at, activations_at}
use Rattle.obq_model.specs.Frames.{IsFrame, AreFrames, IsActForm, NeedsFrames, DoneValue}
use Rattle.obq_model.proofs.Plug.{operands, find_fill}

-- what a row gives: no value, and the act of this very form
abbrev IsHere : {R : Type 0} → Found R → Type 0
IsHere (Next t) = Unit {0}
IsHere (Needs op []) = Unit {0}
IsHere (Needs op (f ∷ fs)) = ⊥
IsHere (Done v) = ⊥
IsHere (Uncaught r) = Unit {0}

here_if : {R : Type 0} (b : Bool) (x y : Found R) → IsHere x → IsHere y → IsHere (if b then x else y)
here_if true x y h i = h
here_if false x y h i = i

here_call_closure : {R : Type 0} (x0 : Value R) (x1 : List (Value R)) (x2 : Option (List Bytes)) → IsHere (call_closure x0 x1 x2)
here_call_closure f vs None = tt
here_call_closure f vs (Some params) = here_if (length params == length vs) (Next (Form Called (Part (body_with f vs) End))) (Next arity) tt tt

here_with_one_parameter : {R : Type 0} (x0 : R) (x1 : Value R) (x2 : Option (List Bytes)) → IsHere (with_one_parameter x0 x1 x2)
here_with_one_parameter e f None = tt
here_with_one_parameter e f (Some params) = here_if (length params == 1) (Needs (RunEngine e f) []) (Next arity) tt tt

here_call_engine : {R : Type 0} (x0 : R) (x1 : List (Value R)) → IsHere (call_engine x0 x1)
here_call_engine e (f ∷ []) = here_with_one_parameter e f (params_of f)
here_call_engine e vs = tt

here_call_value : {R : Type 0} (x0 : Value R) (x1 : List (Value R)) → IsHere (call_value x0 x1)
here_call_value (Loc Engine e) vs = here_call_engine e vs
here_call_value f vs = here_call_closure f vs (params_of f)

here_call : {R : Type 0} (x0 : ℕ) (x1 : Value R) (x2 : List (Value R)) → IsHere (call x0 x1 x2)
here_call a f vs = here_if (is_callable f && is_call_limit a) (Next call_limit) (call_value f vs) tt (here_call_value f vs)

here_new_object : {R : Type 0} (x0 : Flags) (x1 : Parts R) (x2 : Option (Fields R)) → IsHere (new_object x0 x1 x2)
here_new_object flags methods None = tt
here_new_object flags methods (Some fields) = here_if (nat_lt CLOSURE_LIMIT (deepest_of methods)) (Next closure_limit) (Needs (New (ObjectCell flags None fields) Itself) []) tt tt

here_make_object : {R : Type 0} (x0 : Flags) (x1 : Layout) (x2 : List (Value R)) (x3 : Parts R) → IsHere (make_object x0 x1 x2 x3)
here_make_object flags shape vs methods = here_if (twice (layout_names shape)) (Next field_twice) (new_object flags methods (fields_of shape vs methods)) tt (here_new_object flags methods (fields_of shape vs methods))

here_array_of_size : {R : Type 0} (x0 : ℤ) (x1 : Value R) → IsHere (array_of_size x0 x1)
here_array_of_size (pos n) v = here_if (nat_lt ARRAY_LIMIT n) (Next array_limit) (Needs (New (ArrayCell (replicate n v)) Itself) []) tt tt
here_array_of_size (negsuc n) v = tt

here_fork_of : {R : Type 0} (x0 : Value R) (x1 : Option (List Bytes)) → IsHere (fork_of x0 x1)
here_fork_of f None = tt
here_fork_of f (Some []) = tt
here_fork_of f (Some (x ∷ xs)) = tt

here_apply : {R : Type 0} (x0 : Builtin) (x1 : List (Value R)) → IsHere (apply x0 x1)
here_apply Not (Truth b ∷ []) = tt
here_apply Exception (Text t ∷ []) = tt
here_apply FmtInt (Int z ∷ []) = tt
here_apply FmtBool (Truth b ∷ []) = tt
here_apply TextLength (Text t ∷ []) = tt
here_apply TextSub (Text t ∷ Int start ∷ Int size ∷ []) = tt
here_apply ArrayNew (Int n ∷ v ∷ []) = here_array_of_size n v
here_apply ArraySize (Loc Array a ∷ []) = tt
here_apply PutText (Loc Writer w ∷ Text t ∷ []) = tt
here_apply NewCondition [] = tt
here_apply SignalOne (Loc Condition c ∷ []) = tt
here_apply SignalAll (Loc Condition c ∷ []) = tt
here_apply Fork (f ∷ []) = here_fork_of f (params_of f)
here_apply JoinThread (Thread t ∷ []) = tt
here_apply NetExport (Text name ∷ Text namer ∷ v ∷ []) = tt
here_apply NetImport (Text name ∷ Text namer ∷ []) = tt
here_apply ExportEngine (Text name ∷ Text namer ∷ v ∷ []) = tt
here_apply ImportEngine (Text name ∷ Text namer ∷ []) = tt
here_apply b vs = tt

here_out_of_method : {R : Type 0} (x0 : R) (x1 : Mode) (x2 : Term R) → IsHere (out_of_method x0 x1 x2)
here_out_of_method o Held out = tt
here_out_of_method o Plain out = tt
here_out_of_method o Inner out = tt

here_chosen : {R : Type 0} (x0 : Bytes) (x1 : Value R) (x2 : Term R) (x3 : Parts R) → IsHere (chosen x0 x1 x2 x3)
here_chosen e (Exc f) block arms = tt
here_chosen e v block arms = tt

here_tested : {R : Type 0} (x0 : R) (x1 : R) (x2 : Value R) (x3 : Term R) → IsHere (tested x0 x1 x2 x3)
here_tested o c (Truth true) guard = tt
here_tested o c (Truth false) guard = tt
here_tested o c v guard = tt

here_watching : {R : Type 0} (x0 : Option R) (x1 : Bool) (x2 : R) (x3 : Term R) → IsHere (watching x0 x1 x2 x3)
here_watching (Some o) false c guard = tt
here_watching o plain c guard = tt

here_cloned : {R : Type 0} (x0 : Option Flags) (x1 : Fields R) (x2 : List R) → IsHere (cloned x0 x1 x2)
here_cloned flags fields (o ∷ rest) = tt
here_cloned None fields [] = tt
here_cloned (Some flags) fields [] = here_if (twice (field_names fields)) (Next field_twice) (Needs (New (ObjectCell flags None fields) Itself) []) tt tt

here_row : {R : Type 0} (x0 : (R → R → Bool)) (x1 : ℕ) (x2 : Self R) (x3 : Kind R) (x4 : List (Value R)) (x5 : Parts R) → IsHere (row x0 x1 x2 x3 x4 x5)
here_row eq a s Empty [] End = tt
here_row eq a s Then (v ∷ []) (Part rest End) = tt
here_row eq a s Let (v ∷ []) (Part scope End) = tt
here_row eq a s Var (v ∷ []) (Part scope End) = tt
here_row eq a s LetRec [] (Part (Under names (Form Group (Part rest group))) End) = tt
here_row eq a s Procedure [] (Part (Under params body) End) = tt
here_row eq a s Assign (v ∷ []) (Part (Form (Read l) End) End) = tt
here_row eq a s Assign (v ∷ []) (Part target End) = tt
here_row eq a s If (Truth b ∷ []) (Part block (Part otherwise End)) = tt
here_row eq a s OrIf (Truth b ∷ []) (Part right End) = tt
here_row eq a s AndIf (Truth b ∷ []) (Part right End) = tt
here_row eq a s (Operate op) (v ∷ w ∷ []) End = tt
here_row eq a s Call (f ∷ vs) End = here_call a f vs
here_row eq a s (Apply b) vs End = here_if (length vs == arity_of_builtin b) (apply b vs) (Next arity) (here_apply b vs) tt
here_row eq a s MakeArray vs End = here_if (nat_lt ARRAY_LIMIT (length vs)) (Next array_limit) (Needs (New (ArrayCell vs) Itself) []) tt tt
here_row eq a s Index (Loc Array r ∷ Int i ∷ []) End = tt
here_row eq a s SetIndex (Loc Array r ∷ Int i ∷ v ∷ []) End = tt
here_row eq a s (MakeObject flags shape) vs methods = here_make_object flags shape vs methods
here_row eq a s (Select x) (Loc Object o ∷ []) End = tt
here_row eq a s (Invoke x) (Loc Object o ∷ vs) End = here_if (is_call_limit a) (Next call_limit) (Needs (CallMethod o x vs) []) tt tt
here_row eq a s (SetValue x) (Loc Object o ∷ v ∷ []) End = tt
here_row eq a s (SetMethod x) (Loc Object o ∷ []) (Part (Under params body) End) = here_if (is_too_deep body) (Next closure_limit) (Needs (Set o x (IsMethod params body)) []) tt tt
here_row eq a s (SetAlias x y) (Loc Object o ∷ Loc Object p ∷ []) End = tt
here_row eq a s Redirect (Loc Object o ∷ Loc Object p ∷ []) End = tt
here_row eq a s Clone vs End = tt
here_row eq a s Raise (Exc e ∷ []) End = tt
here_row eq a s Exit [] End = tt
here_row eq a s Loop [] (Part body End) = tt
here_row eq a s For (Int m ∷ Int n ∷ []) (Part scope End) = tt
here_row eq a s Foreach (Loc Array r ∷ []) (Part scope End) = tt
here_row eq a s Try (v ∷ []) arms = tt
here_row eq a s Finally (v ∷ []) (Part last End) = tt
here_row eq a s Watch (Loc Condition c ∷ []) (Part guard End) = here_watching s.object s.plain c guard
here_row eq a s (Read l) [] End = tt
here_row eq a s (Raising r) [] End = tt
here_row eq a s Called (v ∷ []) End = tt
here_row eq a s (Within o m) (v ∷ []) End = here_out_of_method o m (Const v)
here_row eq a s Looping (v ∷ []) (Part body End) = tt
here_row eq a s (Counting i n) (v ∷ []) (Part scope End) = tt
here_row eq a s (EachAt r i n) [] (Part scope End) = here_if (i == n) (Next (Const Okay)) (Needs (EachItem r i n scope) []) tt tt
here_row eq a s (EachIn r i n) (v ∷ []) (Part scope End) = tt
here_row eq a s (Choosing e) (v ∷ []) (Part block arms) = here_chosen e v block arms
here_row eq a s (Unmet e) [] (Part block End) = tt
here_row eq a s (Unmet e) [] End = tt
here_row eq a s Finishing (v ∷ []) (Part kept End) = tt
here_row eq a s (Cloning flags copied rest) [] End = here_cloned flags copied rest
here_row eq a s (Testing o c) (v ∷ []) (Part guard End) = here_tested o c v guard
here_row eq a s (Lined o c) [] (Part guard End) = tt
here_row eq a s (Out o c) [] (Part guard End) = tt
here_row eq a s k vs parts = tt

here_out_of_loop : (R : Type 0) (x0 : Raised) → IsHere {R = R} (out_of_loop x0)
here_out_of_loop R ExitUp = tt
here_out_of_loop R (Exn e) = tt

here_out_of_try : {R : Type 0} (x0 : Parts R) (x1 : Raised) → IsHere (out_of_try x0 x1)
here_out_of_try arms ExitUp = tt
here_out_of_try arms (Exn e) = tt

here_at_raised : {R : Type 0} (k : Kind R) (before : List (Value R)) (after : Parts R) (r : Raised) → IsHere (at_raised (Pending k before after) r)
here_at_raised Try before arms r = here_out_of_try arms r
here_at_raised Finally before after r = tt
here_at_raised Called before after r = tt
here_at_raised (Within o m) before after r = here_out_of_method o m _
here_at_raised Looping before after r = here_out_of_loop _ r
here_at_raised (Counting i n) before after r = here_out_of_loop _ r
here_at_raised (EachIn q i n) before after r = here_out_of_loop _ r
here_at_raised (Choosing e) before after r = tt
here_at_raised Finishing before after r = tt
here_at_raised (Testing o c) before after r = tt
here_at_raised k before after r = tt

-- ---- forms and terms

-- t is the form of this act in these frames
abbrev IsPlugged : {R : Type 0} → (R → R → Bool) → ℕ → Self R → Term R → Operation R → List (Frame R) → Type 0
IsPlugged {R} eq a s t op fs = AreFrames fs × ((focus : Term R) × (t ≡ plug fs focus) × IsActForm eq (activations_at a fs) (self_at s fs) op focus)

-- this was found in a term
abbrev IsFoundIn : {R : Type 0} → (R → R → Bool) → ℕ → Self R → Term R → Found R → Type 0
IsFoundIn eq a s t (Next u) = Unit {0}
IsFoundIn eq a s t (Needs op fs) = IsPlugged eq a s t op fs
IsFoundIn eq a s t (Done v) = t ≡ Const v
IsFoundIn eq a s t (Uncaught r) = Unit {0}

-- this was found in a form, which is never done
abbrev IsFoundForm : {R : Type 0} → (R → R → Bool) → ℕ → Self R → Term R → Found R → Type 0
IsFoundForm eq a s t (Next u) = Unit {0}
IsFoundForm eq a s t (Needs op fs) = IsPlugged eq a s t op fs
IsFoundForm eq a s t (Done v) = ⊥
IsFoundForm eq a s t (Uncaught r) = Unit {0}

by_form : {R : Type 0} (eq : R → R → Bool) (a : ℕ) (s : Self R) (t : Term R) (x : Found R) → IsFoundForm eq a s t x → IsFoundIn eq a s t x
by_form eq a s t (Next u) h = tt
by_form eq a s t (Needs op fs) h = h
by_form eq a s t (Done v) h = absurd h
by_form eq a s t (Uncaught r) h = tt

by_row : {R : Type 0} (eq : R → R → Bool) (a : ℕ) (s : Self R) (t : Term R) (x : Found R) → find eq a s t ≡ x → IsHere x → IsFoundForm eq a s t x
by_row eq a s t (Next u) e h = tt
by_row eq a s t (Needs op []) e h = (tt, (t, refl, e))
by_row eq a s t (Needs op (f ∷ fs)) e h = absurd h
by_row eq a s t (Done v) e h = absurd h
by_row eq a s t (Uncaught r) e h = tt

by_hole : {R : Type 0} (eq : R → R → Bool) (a : ℕ) (s : Self R) (k : Kind R) (before : List (Value R)) (after : Parts R) (t : Term R) (g : Value R → Found R) → IsFrame (Pending k before after)
    → ((v : Value R) → t ≡ Const v → IsFoundForm eq a s (fill (Pending k before after) t) (g v))
    → (x : Found R) → IsFoundIn eq (activations_in a k) (self_in s k) t x → find eq a s (fill (Pending k before after) t) ≡ through (Pending k before after) g x
    → IsFoundForm eq a s (fill (Pending k before after) t) (through (Pending k before after) g x)
by_hole eq a s k before after t g is h (Next u) i e = tt
by_hole eq a s k before after t g is h (Needs op fs) i e = ((is, i.0), (i.1.0, ap (fill (Pending k before after)) i.1.1, i.1.2))
by_hole eq a s k before after t g is h (Done v) i e = h v i
by_hole eq a s k before after t g is h (Uncaught r) i e = by_row eq a s (fill (Pending k before after) t) (at_raised (Pending k before after) r) e (here_at_raised k before after r)

-- the parts before these are operands
abbrev Before : {R : Type 0} → Kind R → List (Value R) → Type 0
Before k before = (i : ℕ) → i < length before → is_operand k i ≡ true

less_or : (i n : ℕ) (b : Bool) → nat_lt i n ≡ b → i ≤ n → (i < n) ⊎ (i ≡ n)
less_or i n true e l = inl (grind (arith, nat_tests))
less_or i n false e l = inr (grind (arith, nat_tests))

one_more : {R : Type 0} (k : Kind R) (before : List (Value R)) → Before k before → is_operand k (length before) ≡ true → (i : ℕ) → i ≤ length before → is_operand k i ≡ true
one_more k before w e i l = elim (less_or i (length before) (nat_lt i (length before)) refl l) [ inl h ↦ w i h | inr h ↦ ap (is_operand k) h ∙ e ]

before_more : {R : Type 0} (k : Kind R) (before : List (Value R)) (v : Value R) → ((i : ℕ) → i ≤ length before → is_operand k i ≡ true) → Before k (before ++ v ∷ [])
before_more k before v w i l = w i (let long : length (before ++ v ∷ []) ≡ suc (length before) = omega (arith, length-append before (v ∷ [])) in omega arith)

values_more : {R : Type 0} (before : List (Value R)) (v : Value R) (after : Parts R) → values_before (before ++ v ∷ []) after ≡ values_before before (Part (Const v) after)
values_more [] v after = refl
values_more (w ∷ before) v after = ap (Part (Const w)) (values_more before v after)

none_below : (i : ℕ) → i < 0 → ⊥
none_below i l = omega arith

by_parts : {R : Type 0} (eq : R → R → Bool) (a : ℕ) (s : Self R) (k : Kind R) (before : List (Value R)) (parts : Parts R) → Before k before → find eq a s (Form k (values_before before parts)) ≡ find_part eq a s k before parts
by_parts eq a s k before parts w = operands eq a s k [] before parts (λ i l. w i (omega arith))

by_operand : {R : Type 0} (eq : R → R → Bool) (a : ℕ) (s : Self R) (t : Term R) (b : Bool) (x y : Found R) → (b ≡ true → IsFoundForm eq a s t x) → (b ≡ false → IsFoundForm eq a s t y) → IsFoundForm eq a s t (elim b as (λ z. Found R) [ true ↦ x | false ↦ y ])
by_operand eq a s t true x y h i = h refl
by_operand eq a s t false x y h i = i refl

-- a part that is no operand stops the walk
at_last : {R : Type 0} (eq : R → R → Bool) (a : ℕ) (s : Self R) (k : Kind R) (before : List (Value R)) (t : Term R) (after : Parts R) → is_operand k (length before) ≡ false → find_part eq a s k before (Part t after) ≡ row eq a s k before (Part t after)
at_last eq a s k before t after e =
    ap (λ (b : Bool). elim b [ true ↦ through (Pending k before after) (λ v. find_part eq a s k (before ++ v ∷ []) after) (find eq (activations_in a k) (self_in s k) t) | false ↦ row eq a s k before (Part t after) ]) e

mutual
  pub found_in : {R : Type 0} (eq : R → R → Bool) (a : ℕ) (s : Self R) (t : Term R) → IsFoundIn eq a s t (find eq a s t)
  found_in eq a s (Const v) = refl
  found_in eq a s (Name x) = tt
  found_in eq a s (Under names t) = tt
  found_in eq a s (Form k parts) = by_form eq a s (Form k parts) (find_part eq a s k [] parts) (found_form eq a s k [] parts (λ i l. absurd (none_below i l)))

  pub found_form : {R : Type 0} (eq : R → R → Bool) (a : ℕ) (s : Self R) (k : Kind R) (before : List (Value R)) (parts : Parts R) → Before k before → IsFoundForm eq a s (Form k (values_before before parts)) (find_part eq a s k before parts)
  found_form eq a s k before End w = by_row eq a s (Form k (values_before before End)) (row eq a s k before End) (by_parts eq a s k before End w) (here_row eq a s k before End)
  found_form eq a s k before (Part t after) w =
      by_operand eq a s (Form k (values_before before (Part t after))) (is_operand k (length before))
      (through (Pending k before after) (λ v. find_part eq a s k (before ++ v ∷ []) after) (find eq (activations_in a k) (self_in s k) t)) (row eq a s k before (Part t after))
      (λ e. by_hole eq a s k before after t (λ v. find_part eq a s k (before ++ v ∷ []) after) (one_more k before w e)
      (λ v q. subst (λ ps. IsFoundForm eq a s (Form k ps) (find_part eq a s k (before ++ v ∷ []) after)) (values_more before v after ∙ ap (λ u. values_before before (Part u after)) (sym q))
      (found_form eq a s k (before ++ v ∷ []) after (before_more k before v (one_more k before w e))))
      (find eq (activations_in a k) (self_in s k) t) (found_in eq (activations_in a k) (self_in s k) t) (find_fill eq a s k before after t (one_more k before w e)))
      (λ e. by_row eq a s (Form k (values_before before (Part t after))) (row eq a s k before (Part t after)) (by_parts eq a s k before (Part t after) w ∙ at_last eq a s k before t after e) (here_row eq a s k before (Part t after)))

-- the frames of an operation, and the act's form in them
pub needs_frames : {R : Type 0} → NeedsFrames R
needs_frames eq a s t op fs e = subst (IsFoundIn eq a s t) e (found_in eq a s t)

-- only a value is done
pub done_value : {R : Type 0} → DoneValue R
done_value eq a s t v e = subst (IsFoundIn eq a s t) e (found_in eq a s t)
