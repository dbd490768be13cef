-- The activations of a term, and those around its focus.
use Rattle.std.specs.Prelude.{Bool, List, None, Option, Some, [], bytes_eq, drop, false, if◌then◌else◌, int_div, int_lt, int_rem, length, nat_lt, negsuc, not, pos, refl, replicate, suc, take, true, zero, ℕ, ℤ, ◌*ℤ◌, ◌++◌, ◌+ℤ◌, ◌+◌, ◌-ℤ◌, ◌==◌, ◌<◌, ◌∷◌, ◌≡◌, ◌≤◌, ◌⊎◌}
use Rattle.std.proofs.Common.{inl, inr, subst, ap, sym, ◌∙◌, arith, length-append, true≢false}
use Rattle.std.proofs.lemmas.List.{append-nil}
use Rattle.std.proofs.lemmas.Bool.Decides.{nat_tests}
use Rattle.obq_base.specs.declared.limits.TheConstants.{ARRAY_LIMIT, CLOSURE_LIMIT, TEXT_LIMIT}
use Rattle.obq_base.specs.declared.trees.Flags.{Flags}
use Rattle.obq_base.specs.declared.trees.Operator.{Operator}
use Rattle.obq_model.specs.Terms.{Bytes, Object, Array, Variable, Writer, Condition, Engine, Raised, Exn, ExitUp, Mode, Plain, Held, Inner, Builtin, Not, Exception, FmtInt, FmtBool, TextLength, TextSub, ArrayNew, ArraySize, PutText, NewCondition, SignalOne, SignalAll, Fork, JoinThread, NetExport, NetImport, ExportEngine, ImportEngine, Value, Int, Truth, Okay, Text, Exc, Thread, Closure, Member, Loc, IsMethod, Fields, Kind, Empty, Then, Let, Var, LetRec, Group, Procedure, Assign, If, OrIf, AndIf, Operate, Call, Apply, MakeArray, Index, SetIndex, MakeObject, Select, Invoke, SetValue, SetMethod, SetAlias, Redirect, Clone, Raise, Exit, Loop, For, Foreach, Try, Finally, Watch, Read, Raising, Called, Within, Looping, Counting, EachAt, EachIn, Choosing, Unmet, Finishing, Cloning, Testing, Lined, Out, Term, Const, Name, Under, Form, Parts, End, Part}
use Rattle.obq_model.specs.Put.{enter, put_members}
use Rattle.obq_model.specs.Depth.{deepest_of, is_too_deep}
use Rattle.obq_model.specs.Exceptions.{raising, arity, int_overflow, text_limit, text_range, array_limit, field_twice, call_limit, closure_limit}
use Rattle.obq_model.specs.Builtins.{is_i64, number, divided, same, compared, operate, part, arity_of_builtin}
use Rattle.obq_model.specs.Store.{ObjectCell, ArrayCell, field_names, twice}
use Rattle.obq_model.specs.Step.{Self, Itself, New, CallMethod, Set, EachItem, RunEngine, is_operand, Frame, Pending, values_before, self_within, self_in, activations_in, Found, Next, Needs, Done, Uncaught, part_at, params_of, body_with, is_call_limit, call_closure, with_one_parameter, call_engine, call_value, call, fields_of, layout_names, new_object, objects, clone, array_of_size, fork_of, apply, counting, choose, out_of_method, chosen, tested, watching, cloned, row, out_of_loop, out_of_try, at_raised, through, find, find_part, activations_at, Leave, Operation}
use Rattle.obq_model.specs.Forms.{IsSourceKind, IsSource, AreSource, IsSourceValue, AllSource, IsFormed, AreFormed}
use Rattle.obq_model.specs.Located.{activations_of, activations_of_parts}
use Rattle.obq_laws.specs.ActivationSites.{objects_in, objects_of, objects_of_parts, objects_around, left_objects, Listed, FoundObjects}
use Rattle.obq_laws.specs.Activations.{left_by, may_enter, Activated, FoundActivations}
use Rattle.obq_laws.proofs.Source.{source_enter, source_put_members, source_part_at, all_source-formed}
use Rattle.obq_model.proofs.Found.{done_value}
use Rattle.obq_model.proofs.Slices.{push_length}
use Rattle.obq_laws.proofs.Methods.{source_body, source_snoc}

-- ---- source terms have none

source_in : {R : Type 0} (os : List (Option R)) (k : Kind R) → IsSourceKind k → objects_in os k ≡ os
source_in os (Within o m) h = absurd h
source_in os Called h = absurd h
source_in os k h = refl

mutual
  pub source_bare : {R : Type 0} (t : Term R) → IsSource t → objects_of t ≡ []
  source_bare (Const v) h = refl
  source_bare (Name x) h = refl
  source_bare (Under names t) h = refl
  source_bare (Form k parts) h = source_in (objects_of_parts parts) k h.0 ∙ sources_bare parts h.1

  pub sources_bare : {R : Type 0} (parts : Parts R) → AreSource parts → objects_of_parts parts ≡ []
  sources_bare End h = refl
  sources_bare (Part t parts) h = ap (λ os. os ++ objects_of_parts parts) (source_bare t h.0) ∙ sources_bare parts h.1

-- ---- the rows

-- what a row gives: no activation, or one where there is room; an act's form that leaves none
abbrev Here : {R : Type 0} → ℕ → Found R → Type 0
Here a (Next u) = (objects_of u ≡ []) ⊎ ((objects_of u ≡ None ∷ []) × (a < 1000))
Here a (Needs op fs) = (fs ≡ []) × (left_objects op ≡ []) × (may_enter op ≡ true → a < 1000)
Here a (Done v) = ⊥
Here a (Uncaught r) = Unit {0}

here_if : {R : Type 0} (a : ℕ) (b : Bool) (x y : Found R) → Here a x → Here a y → Here a (if b then x else y)
here_if a true x y h i = h
here_if a false x y h i = i

here_unless : {R : Type 0} (a : ℕ) (b : Bool) (x y : Found R) → Here a x → (b ≡ false → Here a y) → Here a (if b then x else y)
here_unless a true x y h i = h
here_unless a false x y h i = i refl

term_if : {R : Type 0} (a : ℕ) (b : Bool) (t u : Term R) → Here a (Next t) → Here a (Next u) → Here a (Next (if b then t else u))
term_if a true t u h i = h
term_if a false t u h i = i

never : {P : Type 0} → false ≡ true → P
never e = absurd (true≢false (sym e))

room : (a : ℕ) → is_call_limit a ≡ false → a < 1000
room a h = grind (arith, nat_tests)

here_closure : {R : Type 0} (a : ℕ) (f : Value R) (vs : List (Value R)) (o : Option (List Bytes)) → a < 1000 → IsSourceValue f → AllSource vs → Here a (call_closure f vs o)
here_closure a f vs None l h k = inl refl
here_closure a f vs (Some params) l h k = here_if a (length params == length vs) (Next (Form Called (Part (body_with f vs) End))) (Next arity) (inr (ap (λ os. os ++ None ∷ []) (sources_bare (Part (body_with f vs) End) (source_body f vs h k, tt)), l)) (inl refl)

here_one : {R : Type 0} (a : ℕ) (e : R) (f : Value R) (o : Option (List Bytes)) → a < 1000 → Here a (with_one_parameter e f o)
here_one a e f None l = inl refl
here_one a e f (Some params) l = here_if a (length params == 1) (Needs (RunEngine e f) []) (Next arity) (refl, refl, (λ q. l)) (inl refl)

here_engine : {R : Type 0} (a : ℕ) (e : R) (vs : List (Value R)) → a < 1000 → Here a (call_engine e vs)
here_engine a e (f ∷ []) l = here_one a e f (params_of f) l
here_engine a e [] l = inl refl
here_engine a e (f ∷ g ∷ vs) l = inl refl

-- a call, whose limit is looked at first where the value can be called
here_call : {R : Type 0} (a : ℕ) (f : Value R) (vs : List (Value R)) → IsSourceValue f → AllSource vs → Here a (call a f vs)
here_call a (Closure params body) vs h k = here_unless a (is_call_limit a) (Next call_limit) (call_value (Closure params body) vs) (inl refl) (λ n. here_closure a (Closure params body) vs (Some params) (room a n) h k)
here_call a (Member names group i) vs h k = here_unless a (is_call_limit a) (Next call_limit) (call_value (Member names group i) vs) (inl refl) (λ n. here_closure a (Member names group i) vs (params_of (Member names group i)) (room a n) h k)
here_call a (Loc Engine e) vs h k = here_unless a (is_call_limit a) (Next call_limit) (call_value (Loc Engine e) vs) (inl refl) (λ n. here_engine a e vs (room a n))
here_call a (Loc Object e) vs h k = inl refl
here_call a (Loc Array e) vs h k = inl refl
here_call a (Loc Variable e) vs h k = inl refl
here_call a (Loc Writer e) vs h k = inl refl
here_call a (Loc Condition e) vs h k = inl refl
here_call a (Int z) vs h k = inl refl
here_call a (Truth b) vs h k = inl refl
here_call a Okay vs h k = inl refl
here_call a (Text b) vs h k = inl refl
here_call a (Exc b) vs h k = inl refl
here_call a (Thread n) vs h k = inl refl

here_new_object : {R : Type 0} (a : ℕ) (flags : Flags) (methods : Parts R) (o : Option (Fields R)) → Here a (new_object flags methods o)
here_new_object a flags methods None = inl refl
here_new_object a flags methods (Some fields) = here_if a (nat_lt CLOSURE_LIMIT (deepest_of methods)) (Next closure_limit) (Needs (New (ObjectCell flags None fields) Itself) []) (inl refl) (refl, refl, never)

here_clone : {R : Type 0} (a : ℕ) (o : Option (List R)) → Here a (Next (clone o))
here_clone a None = inl refl
here_clone a (Some os) = inl refl

here_array : {R : Type 0} (a : ℕ) (z : ℤ) (v : Value R) → Here a (array_of_size z v)
here_array a (pos n) v = here_if a (nat_lt ARRAY_LIMIT n) (Next array_limit) (Needs (New (ArrayCell (replicate n v)) Itself) []) (inl refl) (refl, refl, never)
here_array a (negsuc n) v = inl refl

here_fork : {R : Type 0} (a : ℕ) (f : Value R) (o : Option (List Bytes)) → Here a (fork_of f o)
here_fork a f None = inl refl
here_fork a f (Some []) = (refl, refl, never)
here_fork a f (Some (x ∷ xs)) = inl refl

here_part : (R : Type 0) (a : ℕ) (t : Bytes) (m n : ℤ) → Here {R = R} a (Next (part t m n))
here_part _ a t (pos m) (pos n) = term_if a (nat_lt (length t) (m + n)) text_range (Const (Text (take n (drop m t)))) (inl refl) (inl refl)
here_part _ a t (pos m) (negsuc n) = inl refl
here_part _ a t (negsuc m) n = inl refl

here_apply : {R : Type 0} (a : ℕ) (b : Builtin) (vs : List (Value R)) → Here a (apply b vs)
here_apply a Not (Truth b ∷ []) = inl refl
here_apply a Exception (Text t ∷ []) = inl refl
here_apply a FmtInt (Int z ∷ []) = inl refl
here_apply a FmtBool (Truth b ∷ []) = inl refl
here_apply a TextLength (Text t ∷ []) = inl refl
here_apply a TextSub (Text t ∷ Int start ∷ Int size ∷ []) = here_part _ a t start size
here_apply a ArrayNew (Int n ∷ v ∷ []) = here_array a n v
here_apply a ArraySize (Loc Array r ∷ []) = (refl, refl, never)
here_apply a PutText (Loc Writer w ∷ Text t ∷ []) = (refl, refl, never)
here_apply a NewCondition [] = (refl, refl, never)
here_apply a SignalOne (Loc Condition c ∷ []) = (refl, refl, never)
here_apply a SignalAll (Loc Condition c ∷ []) = (refl, refl, never)
here_apply a Fork (f ∷ []) = here_fork a f (params_of f)
here_apply a JoinThread (Thread t ∷ []) = (refl, refl, never)
here_apply a NetExport (Text name ∷ Text namer ∷ v ∷ []) = (refl, refl, never)
here_apply a NetImport (Text name ∷ Text namer ∷ []) = (refl, refl, never)
here_apply a ExportEngine (Text name ∷ Text namer ∷ v ∷ []) = (refl, refl, never)
here_apply a ImportEngine (Text name ∷ Text namer ∷ []) = (refl, refl, never)
here_apply a _ _ = inl refl

here_number : (R : Type 0) (a : ℕ) (z : ℤ) → Here {R = R} a (Next (number z))
here_number _ a z = term_if a (is_i64 z) (Const (Int z)) int_overflow (inl refl) (inl refl)

here_divided : (R : Type 0) (a : ℕ) (f : ℤ → ℤ → ℤ) (m n : ℤ) → Here {R = R} a (Next (divided f m n))
here_divided _ a f m (pos zero) = inl refl
here_divided _ a f m (pos (suc n)) = here_number _ a (f m (pos (suc n)))
here_divided _ a f m (negsuc n) = here_number _ a (f m (negsuc n))

here_compared : (R : Type 0) (a : ℕ) (f : Bool → Bool) (o : Option Bool) → Here {R = R} a (Next (compared f o))
here_compared _ a f None = inl refl
here_compared _ a f (Some b) = inl refl

here_operate : {R : Type 0} (a : ℕ) (eq : R → R → Bool) (op : Operator) (v w : Value R) → Here a (Next (operate eq op v w))
here_operate a eq Operator.Add (Int m) (Int n) = here_number _ a (m +ℤ n)
here_operate a eq Operator.Subtract (Int m) (Int n) = here_number _ a (m -ℤ n)
here_operate a eq Operator.Multiply (Int m) (Int n) = here_number _ a (m *ℤ n)
here_operate a eq Operator.Divide (Int m) (Int n) = here_divided _ a int_div m n
here_operate a eq Operator.Remainder (Int m) (Int n) = here_divided _ a int_rem m n
here_operate a eq Operator.Join (Text m) (Text n) = term_if a (nat_lt TEXT_LIMIT (length (m ++ n))) text_limit (Const (Text (m ++ n))) (inl refl) (inl refl)
here_operate a eq Operator.Less (Int m) (Int n) = inl refl
here_operate a eq Operator.LessEqual (Int m) (Int n) = inl refl
here_operate a eq Operator.Greater (Int m) (Int n) = inl refl
here_operate a eq Operator.GreaterEqual (Int m) (Int n) = inl refl
here_operate a eq Operator.Is v w = here_compared _ a (λ b. b) (same eq v w)
here_operate a eq Operator.IsNot v w = here_compared _ a not (same eq v w)
here_operate a eq _ _ _ = inl refl

here_counting : {R : Type 0} (a : ℕ) (i n : ℤ) (scope : Term R) → IsSource scope → Here a (Next (counting i n scope))
here_counting a i n scope h =
    term_if a (int_lt n i) (Const Okay) (Form (Counting i n) (Part (enter (Int i ∷ []) scope) (Part scope End))) (inl refl)
    (inl (sources_bare (Part (enter (Int i ∷ []) scope) (Part scope End)) (source_enter (Int i ∷ []) scope (tt, tt) h, (h, tt))))

here_choose : {R : Type 0} (a : ℕ) (e : Bytes) (arms : Parts R) → AreSource arms → Here a (Next (choose e arms))
here_choose a e (Part guard (Part block arms)) h = inl (sources_bare (Part guard (Part block arms)) h)
here_choose a e (Part block End) h = inl (sources_bare (Part block End) h)
here_choose a e End h = inl refl

here_chosen : {R : Type 0} (a : ℕ) (e : Bytes) (v : Value R) (block : Term R) (arms : Parts R) → IsSource block → AreSource arms → Here a (chosen e v block arms)
here_chosen a e (Exc f) block arms h k = term_if a (bytes_eq e f) block (choose e arms) (inl (source_bare block h)) (here_choose a e arms k)
here_chosen a e _ block arms h k = inl refl

here_tested : {R : Type 0} (a : ℕ) (o c : R) (v : Value R) (guard : Term R) → Here a (tested o c v guard)
here_tested a o c (Truth true) guard = inl refl
here_tested a o c (Truth false) guard = (refl, refl, never)
here_tested a o c _ guard = inl refl

here_watching : {R : Type 0} (a : ℕ) (o : Option R) (b : Bool) (c : R) (guard : Term R) → IsSource guard → Here a (watching o b c guard)
here_watching a (Some o) false c guard h = inl (sources_bare (Part guard (Part guard End)) (h, (h, tt)))
here_watching a (Some o) true c guard h = inl refl
here_watching a None b c guard h = inl refl

here_cloned : {R : Type 0} (a : ℕ) (flags : Option Flags) (fields : Fields R) (os : List R) → Here a (cloned flags fields os)
here_cloned a flags fields (o ∷ rest) = (refl, refl, never)
here_cloned a None fields [] = inl refl
here_cloned a (Some flags) fields [] = here_if a (twice (field_names fields)) (Next field_twice) (Needs (New (ObjectCell flags None fields) Itself) []) (inl refl) (refl, refl, never)

-- a form that is no activation
abbrev IsNoActivation : {R : Type 0} → Kind R → Type 0
IsNoActivation Called = ⊥
IsNoActivation (Within o m) = ⊥
IsNoActivation k = Unit {0}

here_row : {R : Type 0} (eq : R → R → Bool) (a : ℕ) (s : Self R) (k : Kind R) (vs : List (Value R)) (parts : Parts R) → IsNoActivation k → AllSource vs → AreSource parts → Here a (row eq a s k vs parts)
here_row eq a s Empty [] End z h p = inl refl
here_row eq a s Then (v ∷ []) (Part rest End) z h p = inl (source_bare rest p.0)
here_row eq a s Let (v ∷ []) (Part scope End) z h p = inl (source_bare (enter (v ∷ []) scope) (source_enter (v ∷ []) scope h p.0))
here_row eq a s Var (v ∷ []) (Part scope End) z h p = (refl, refl, never)
here_row eq a s LetRec [] (Part (Under names (Form Group (Part rest group))) End) z h p =
    term_if a (nat_lt CLOSURE_LIMIT (deepest_of group)) closure_limit (put_members names group 0 names rest) (inl refl)
    (inl (source_bare (put_members names group 0 names rest) (source_put_members names group 0 names rest p.0.1.1 p.0.1.0)))
here_row eq a s Procedure [] (Part (Under params body) End) z h p = term_if a (is_too_deep body) closure_limit (Const (Closure params body)) (inl refl) (inl refl)
here_row eq a s Assign (v ∷ []) (Part (Form (Read q) End) End) z h p = (refl, refl, never)
here_row eq a s Assign (v ∷ []) (Part target End) z h p = inl refl
here_row eq a s If (Truth c ∷ []) (Part block (Part otherwise End)) z h p = term_if a c block otherwise (inl (source_bare block p.0)) (inl (source_bare otherwise p.1.0))
here_row eq a s OrIf (Truth c ∷ []) (Part right End) z h p = term_if a c (Const (Truth true)) right (inl refl) (inl (source_bare right p.0))
here_row eq a s AndIf (Truth c ∷ []) (Part right End) z h p = term_if a c right (Const (Truth false)) (inl (source_bare right p.0)) (inl refl)
here_row eq a s (Operate op) (v ∷ w ∷ []) End z h p = here_operate a eq op v w
here_row eq a s Call (f ∷ vs) End z h p = here_call a f vs h.0 h.1
here_row eq a s (Apply q) vs End z h p = here_if a (length vs == arity_of_builtin q) (apply q vs) (Next arity) (here_apply a q vs) (inl refl)
here_row eq a s MakeArray vs End z h p = here_if a (nat_lt ARRAY_LIMIT (length vs)) (Next array_limit) (Needs (New (ArrayCell vs) Itself) []) (inl refl) (refl, refl, never)
here_row eq a s Index (Loc Array r ∷ Int i ∷ []) End z h p = (refl, refl, never)
here_row eq a s SetIndex (Loc Array r ∷ Int i ∷ v ∷ []) End z h p = (refl, refl, never)
here_row eq a s (MakeObject flags shape) vs methods z h p = here_if a (twice (layout_names shape)) (Next field_twice) (new_object flags methods (fields_of shape vs methods)) (inl refl) (here_new_object a flags methods (fields_of shape vs methods))
here_row eq a s (Select x) (Loc Object q ∷ []) End z h p = (refl, refl, never)
here_row eq a s (Invoke x) (Loc Object q ∷ vs) End z h p = here_unless a (is_call_limit a) (Next call_limit) (Needs (CallMethod q x vs) []) (inl refl) (λ n. (refl, refl, (λ e. room a n)))
here_row eq a s (SetValue x) (Loc Object q ∷ v ∷ []) End z h p = (refl, refl, never)
here_row eq a s (SetMethod x) (Loc Object q ∷ []) (Part (Under params body) End) z h p = here_if a (is_too_deep body) (Next closure_limit) (Needs (Set q x (IsMethod params body)) []) (inl refl) (refl, refl, never)
here_row eq a s (SetAlias x y) (Loc Object q ∷ Loc Object r ∷ []) End z h p = (refl, refl, never)
here_row eq a s Redirect (Loc Object q ∷ Loc Object r ∷ []) End z h p = (refl, refl, never)
here_row eq a s Clone vs End z h p = here_clone a (objects vs)
here_row eq a s Raise (Exc e ∷ []) End z h p = inl refl
here_row eq a s Exit [] End z h p = inl refl
here_row eq a s Loop [] (Part body End) z h p = inl (sources_bare (Part body (Part body End)) (p.0, (p.0, tt)))
here_row eq a s For (Int m ∷ Int n ∷ []) (Part scope End) z h p = here_counting a m n scope p.0
here_row eq a s Foreach (Loc Array r ∷ []) (Part scope End) z h p = (refl, refl, never)
here_row eq a s Try (v ∷ []) arms z h p = inl refl
here_row eq a s Finally (v ∷ []) (Part last End) z h p = inl (sources_bare (Part last (Part (Const v) End)) (p.0, (h.0, tt)))
here_row eq a s Watch (Loc Condition c ∷ []) (Part guard End) z h p = here_watching a s.object s.plain c guard p.0
here_row eq a s (Read q) [] End z h p = (refl, refl, never)
here_row eq a s (Raising r) [] End z h p = tt
here_row eq a s Called vs parts z h p = absurd z
here_row eq a s (Within q m) vs parts z h p = absurd z
here_row eq a s Looping (v ∷ []) (Part body End) z h p = inl (sources_bare (Part body (Part body End)) (p.0, (p.0, tt)))
here_row eq a s (Counting i n) (v ∷ []) (Part scope End) z h p = here_counting a (i +ℤ pos 1) n scope p.0
here_row eq a s (EachAt r i n) [] (Part scope End) z h p = here_if a (i == n) (Next (Const Okay)) (Needs (EachItem r i n scope) []) (inl refl) (refl, refl, never)
here_row eq a s (EachIn r i n) (v ∷ []) (Part scope End) z h p = inl (sources_bare (Part scope End) p)
here_row eq a s (Choosing e) (v ∷ []) (Part block arms) z h p = here_chosen a e v block arms p.0 p.1
here_row eq a s (Unmet e) [] (Part block End) z h p = inl (source_bare block p.0)
here_row eq a s (Unmet e) [] End z h p = inl refl
here_row eq a s Finishing (v ∷ []) (Part kept End) z h p = inl (source_bare kept p.0)
here_row eq a s (Cloning flags copied rest) [] End z h p = here_cloned a flags copied rest
here_row eq a s (Testing q c) (v ∷ []) (Part guard End) z h p = here_tested a q c v guard
here_row eq a s (Lined q c) [] (Part guard End) z h p = (refl, refl, never)
here_row eq a s (Out q c) [] (Part guard End) z h p = (refl, refl, never)
here_row eq a s _ _ _ z h p = inl refl

-- ---- the stops

here_loop : (R : Type 0) (a : ℕ) (r : Raised) → Here {R = R} a (out_of_loop r)
here_loop _ a ExitUp = inl refl
here_loop _ a (Exn e) = inl refl

here_try : {R : Type 0} (a : ℕ) (arms : Parts R) (r : Raised) → AreSource arms → Here a (out_of_try arms r)
here_try a arms ExitUp h = inl refl
here_try a arms (Exn e) h = here_choose a e arms h

here_raised : {R : Type 0} (a : ℕ) (k : Kind R) (before : List (Value R)) (after : Parts R) (r : Raised) → IsNoActivation k → AreSource after → Here a (at_raised (Pending k before after) r)
here_raised a Try before after r z h = here_try a after r h
here_raised a Finally before after r z h = inl (sources_bare (Part (part_at after 0) (Part (raising r) End)) (source_part_at after 0 h, ((tt, tt), tt)))
here_raised a Called before after r z h = absurd z
here_raised a (Within q m) before after r z h = absurd z
here_raised a Looping before after r z h = here_loop _ a r
here_raised a (Counting i n) before after r z h = here_loop _ a r
here_raised a (EachIn q i n) before after r z h = here_loop _ a r
here_raised a (Choosing x) before after r z h = inl refl
here_raised a Finishing before after r z h = inl refl
here_raised a (Testing q c) before after r z h = inl refl
here_raised a _ before after r z h = tt

-- ---- around a hole

of_here : {R : Type 0} (a : ℕ) (x : Found R) → Here a x → Listed a [] x
of_here a (Next u) (inl e) = inl e
of_here a (Next u) (inr h) = inr (inl (h.0, room_for a h.1))
  where
    room_for : (a : ℕ) → a < 1000 → a + 1 ≤ 1000
    room_for a l = omega arith
of_here a (Needs op fs) h = (sym h.1 ∙ ap (λ gs. objects_around gs (left_objects op)) (sym h.0), (λ e. same_room a (h.2 e)))
  where
    same_room : (a : ℕ) → a < 1000 → a + 0 < 1000
    same_room a l = omega arith
of_here a (Done v) h = absurd h
of_here a (Uncaught r) h = refl

no_activation_in : {R : Type 0} (n : ℕ) (k : Kind R) → IsNoActivation k → activations_in n k ≡ n
no_activation_in n Called z = absurd z
no_activation_in n (Within o m) z = absurd z
no_activation_in n k z = refl

no_object_in : {R : Type 0} (os : List (Option R)) (k : Kind R) → IsNoActivation k → objects_in os k ≡ os
no_object_in os Called z = absurd z
no_object_in os (Within o m) z = absurd z
no_object_in os k z = refl

pub bare_before : {R : Type 0} (vs : List (Value R)) (parts : Parts R) → objects_of_parts (values_before vs parts) ≡ objects_of_parts parts
bare_before [] parts = refl
bare_before (v ∷ vs) parts = bare_before vs parts

pub with_bare : {R : Type 0} (u : Term R) (after : Parts R) → AreSource after → objects_of u ++ objects_of_parts after ≡ objects_of u
with_bare u after h = ap (λ os. objects_of u ++ os) (sources_bare after h) ∙ append-nil (objects_of u)

-- the activations of a form are those of its hole
in_hole : {R : Type 0} (k : Kind R) (before : List (Value R)) (u : Term R) (after : Parts R) → IsNoActivation k → AreSource after → objects_of (Form k (values_before before (Part u after))) ≡ objects_of u
in_hole k before u after z h = no_object_in (objects_of_parts (values_before before (Part u after))) k z ∙ bare_before before (Part u after) ∙ with_bare u after h

next_in : {R : Type 0} (a : ℕ) (os : List (Option R)) (u w : Term R) → objects_of w ≡ objects_of u → Listed a os (Next u) → Listed a os (Next w)
next_in a os u w e (inl h) = inl (e ∙ h)
next_in a os u w e (inr (inl h)) = inr (inl (e ∙ h.0, h.1))
next_in a os u w e (inr (inr (x, h))) = inr (inr (x, h ∙ ap (λ l. x ∷ l) (sym e)))

acts_through : {R : Type 0} (a : ℕ) (os : List (Option R)) (k : Kind R) (before : List (Value R)) (after : Parts R) (g : Value R → Found R) (x : Found R) → IsNoActivation k → AreSource after → ((v : Value R) → IsSourceValue v → Listed a [] (g v)) → ((v : Value R) → x ≡ Done v → IsSourceValue v)
    → Listed (activations_in a k) os x → Listed a os (through (Pending k before after) g x)
acts_through a os k before after g (Next u) z p next source h = next_in a os u (Form k (values_before before (Part u after))) (in_hole k before u after z p) (subst (λ b. Listed b os (Next u)) (no_activation_in a k z) h)
acts_through a os k before after g (Needs op fs) z p next source h =
    (h.0 ∙ sym (no_object_in (objects_around fs (left_objects op)) k z), (λ e. subst (λ b. b + length os < 1000) (no_activation_in a k z) (h.1 e)))
acts_through a os k before after g (Done v) z p next source h = subst (λ l. Listed a l (g v)) (sym h) (next v (source v refl))
acts_through a os k before after g (Uncaught r) z p next source h = subst (λ l. Listed a l (at_raised (Pending k before after) r)) (sym h) (of_here a (at_raised (Pending k before after) r) (here_raised a k before after r z p))

-- ---- activations

-- a step inside of an activation
next_inside : {R : Type 0} (a : ℕ) (os : List (Option R)) (u w : Term R) (y : Option R) → objects_of w ≡ objects_of u ++ y ∷ [] → Listed (suc a) os (Next u) → Listed a (os ++ y ∷ []) (Next w)
next_inside a os u w y e (inl h) = inl (e ∙ ap (λ l. l ++ y ∷ []) h)
next_inside a os u w y e (inr (inl h)) = inr (inl (e ∙ ap (λ l. l ++ y ∷ []) h.0, shifted a (length os) (length (os ++ y ∷ [])) (push_length os y) h.1))
  where
    shifted : (a m n : ℕ) → n ≡ suc m → suc a + suc m ≤ 1000 → a + suc n ≤ 1000
    shifted a m n q l = omega arith
next_inside a os u w y e (inr (inr (x, h))) = inr (inr (x, ap (λ l. l ++ y ∷ []) h ∙ ap (λ l. x ∷ l) (sym e)))

needs_inside : {R : Type 0} (a : ℕ) (os : List (Option R)) (op : Operation R) (fs gs : List (Frame R)) (y : Option R) → objects_around gs (left_objects op) ≡ objects_around fs (left_objects op) ++ y ∷ [] → Listed (suc a) os (Needs op fs) → Listed a (os ++ y ∷ []) (Needs op gs)
needs_inside a os op fs gs y e h = (ap (λ l. l ++ y ∷ []) h.0 ∙ sym e, (λ q. moved a (length os) (length (os ++ y ∷ [])) (push_length os y) (h.1 q)))
  where
    moved : (a m n : ℕ) → n ≡ suc m → suc a + m < 1000 → a + n < 1000
    moved a m n q l = omega arith

acts_called : {R : Type 0} (a : ℕ) (os : List (Option R)) (after : Parts R) (g : Value R → Found R) (x : Found R) → AreSource after → ((v : Value R) → Listed a (None ∷ []) (g v)) → Listed (suc a) os x → Listed a (os ++ None ∷ []) (through (Pending Called [] after) g x)
acts_called a os after g (Next u) p next h = next_inside a os u (Form Called (Part u after)) None (ap (λ l. l ++ None ∷ []) (with_bare u after p)) h
acts_called a os after g (Needs op fs) p next h = needs_inside a os op fs (Pending Called [] after ∷ fs) None refl h
acts_called a os after g (Done v) p next h = subst (λ l. Listed a (l ++ None ∷ []) (g v)) (sym h) (next v)
acts_called a os after g (Uncaught r) p next h = inr (inr (None, ap (λ l. l ++ None ∷ []) h))

called_rest : {R : Type 0} (eq : R → R → Bool) (a : ℕ) (s : Self R) (v : Value R) (after : Parts R) → Listed a (None ∷ []) (find_part eq a s Called (v ∷ []) after)
called_rest eq a s v End = inr (inr (None, refl))
called_rest eq a s v (Part t after) = inr (inr (None, refl))

leaves : {R : Type 0} (a : ℕ) (o : R) (m : Mode) (out : Term R) → objects_of out ≡ [] → Listed a (Some o ∷ []) (out_of_method o m out)
leaves a o Held out e = (refl, never)
leaves a o Plain out e = inr (inr (Some o, ap (λ l. Some o ∷ l) (sym e)))
leaves a o Inner out e = inr (inr (Some o, ap (λ l. Some o ∷ l) (sym e)))

acts_within : {R : Type 0} (eq : R → R → Bool) (a : ℕ) (os : List (Option R)) (s : Self R) (o : R) (m : Mode) (x : Found R) → Listed (suc a) os x → Listed a (os ++ Some o ∷ []) (through (Pending (Within o m) [] End) (λ v. find_part eq a s (Within o m) (v ∷ []) End) x)
acts_within eq a os s o m (Next u) h = next_inside a os u (Form (Within o m) (Part u End)) (Some o) (ap (λ l. l ++ Some o ∷ []) (with_bare u End tt)) h
acts_within eq a os s o m (Needs op fs) h = needs_inside a os op fs (Pending (Within o m) [] End ∷ fs) (Some o) refl h
acts_within eq a os s o m (Done v) h = subst (λ l. Listed a (l ++ Some o ∷ []) (out_of_method o m (Const v))) (sym h) (leaves a o m (Const v) refl)
acts_within eq a os s o m (Uncaught r) h = subst (λ l. Listed a (l ++ Some o ∷ []) (out_of_method o m (raising r))) (sym h) (leaves a o m (raising r) refl)

-- ---- the walk

by_operand : {R : Type 0} (a : ℕ) (os : List (Option R)) (c : Bool) (A B : Type 0) (x y : Found R) → elim c as (λ z. Type 0) [ true ↦ A | false ↦ B ] → (A → Listed a os x) → (B → Listed a os y) → Listed a os (elim c as (λ z. Found R) [ true ↦ x | false ↦ y ])
by_operand a os true A B x y h f g = f h
by_operand a os false A B x y h f g = g h

done_source : {R : Type 0} (eq : R → R → Bool) (a : ℕ) (s : Self R) (t : Term R) (v : Value R) → IsFormed s t → find eq a s t ≡ Done v → IsSourceValue v
done_source eq a s t v h e = subst (IsFormed s) (done_value eq a s t v e) h

the_part : {R : Type 0} (s : Self R) (o : R) (m : Mode) (t : Term R) → AreFormed s (Within o m) 0 (Part t End) → IsFormed s t
the_part s o m (Const v) g = g.0
the_part s o m (Name x) g = g.0
the_part s o m (Under names u) g = g.0
the_part s o m (Form q ps) g = g.0

-- the row of a part that stops the walk
last_row : {R : Type 0} (eq : R → R → Bool) (a : ℕ) (s : Self R) (k : Kind R) (before : List (Value R)) (t : Term R) (after : Parts R) → IsNoActivation k → AllSource before → IsSource t → AreSource after
    → Listed a (objects_of t ++ objects_of_parts after) (row eq a s k before (Part t after))
last_row eq a s k before t after z w h p =
    subst (λ l. Listed a l (row eq a s k before (Part t after))) (sym (sources_bare (Part t after) (h, p))) (of_here a (row eq a s k before (Part t after)) (here_row eq a s k before (Part t after) z w (h, p)))

-- a part that is walked into
first_part : {R : Type 0} (eq : R → R → Bool) (a : ℕ) (s : Self R) (k : Kind R) (before : List (Value R)) (t : Term R) (after : Parts R) → IsNoActivation k → AllSource before → IsFormed (self_in s k) t → AreSource after
    → Listed (activations_in a k) (objects_of t) (find eq (activations_in a k) (self_in s k) t) → ((v : Value R) → IsSourceValue v → Listed a [] (find_part eq a s k (before ++ v ∷ []) after))
    → Listed a (objects_of t ++ objects_of_parts after) (through (Pending k before after) (λ v. find_part eq a s k (before ++ v ∷ []) after) (find eq (activations_in a k) (self_in s k) t))
first_part eq a s k before t after z w f p h next =
    subst (λ l. Listed a l (through (Pending k before after) (λ v. find_part eq a s k (before ++ v ∷ []) after) (find eq (activations_in a k) (self_in s k) t))) (sym (with_bare t after p))
    (acts_through a (objects_of t) k before after (λ v. find_part eq a s k (before ++ v ∷ []) after) (find eq (activations_in a k) (self_in s k) t) z p next (λ v e. done_source eq (activations_in a k) (self_in s k) t v f e) h)

mutual
  pub found_objects : {R : Type 0} → FoundObjects R
  found_objects eq a s (Const v) h = refl
  found_objects eq a s (Name x) h = inl refl
  found_objects eq a s (Under names t) h = inl refl
  found_objects eq a s (Form Called End) h = inr (inr (None, refl))
  found_objects eq a s (Form Called (Part (Const v) End)) h = inr (inr (None, refl))
  found_objects eq a s (Form Called (Part (Const v) (Part (Const w) after))) h = inr (inr (None, ap (λ l. l ++ None ∷ []) (sources_bare (Part (Const w) after) h.1.1)))
  found_objects eq a s (Form Called (Part (Const v) (Part t after))) h = inr (inr (None, ap (λ l. l ++ None ∷ []) (sources_bare (Part t after) h.1.1)))
  found_objects eq a s (Form Called (Part t after)) h =
      subst (λ l. Listed a (l ++ None ∷ []) (find_part eq a s Called [] (Part t after))) (sym (with_bare t after h.1.1))
      (acts_called a (objects_of t) after (λ v. find_part eq a s Called (v ∷ []) after) (find eq (suc a) s t) h.1.1 (λ v. called_rest eq a s v after) (found_objects eq (suc a) s t h.1.0))
  found_objects eq a s (Form (Within o m) (Part t End)) h =
      subst (λ l. Listed a (l ++ Some o ∷ []) (find eq a s (Form (Within o m) (Part t End)))) (sym (with_bare t End tt))
      (acts_within eq a (objects_of t) s o m (find eq (suc a) (self_within o m) t) (found_objects eq (suc a) (self_within o m) t (the_part (self_within o m) o m t h.1)))
  found_objects eq a s (Form (Within o m) End) h = absurd h.0
  found_objects eq a s (Form (Within o m) (Part t (Part u ts))) h = absurd h.0
  found_objects eq a s (Form k parts) h =
      subst (λ l. Listed a l (find_part eq a s k [] parts)) (sym (no_object_in (objects_of_parts parts) k tt)) (acts_parts eq a s k [] parts tt tt h.1)

  pub acts_parts : {R : Type 0} (eq : R → R → Bool) (a : ℕ) (s : Self R) (k : Kind R) (before : List (Value R)) (parts : Parts R) → IsNoActivation k → AllSource before → AreFormed (self_in s k) k (length before) parts
      → Listed a (objects_of_parts parts) (find_part eq a s k before parts)
  acts_parts eq a s k before End z w f = of_here a (row eq a s k before End) (here_row eq a s k before End z w tt)
  acts_parts {R} eq a s k before (Part (Const v) after) z w f =
      by_operand a (objects_of_parts after) (is_operand k (length before)) (IsSourceValue v × AreFormed (self_in s k) k (suc (length before)) after) (IsSourceValue v × AreSource after)
      (find_part eq a s k (before ++ v ∷ []) after) (row eq a s k before (Part (Const v) after)) f
      (λ h. acts_parts eq a s k (before ++ v ∷ []) after z (source_snoc before v w h.0) (subst (λ n. AreFormed (self_in s k) k n after) (sym (push_length before v)) h.1))
      (λ h. last_row eq a s k before (Const v) after z w h.0 h.1)
  acts_parts {R} eq a s k before (Part t after) z w f =
      by_operand a (objects_of t ++ objects_of_parts after) (is_operand k (length before)) (IsFormed (self_in s k) t × AreSource after) (IsSource t × AreSource after)
      (through (Pending k before after) (λ v. find_part eq a s k (before ++ v ∷ []) after) (find eq (activations_in a k) (self_in s k) t)) (row eq a s k before (Part t after)) f
      (λ h. first_part eq a s k before t after z w h.0 h.1 (found_objects eq (activations_in a k) (self_in s k) t h.0)
      (λ v q. subst (λ l. Listed a l (find_part eq a s k (before ++ v ∷ []) after)) (sources_bare after h.1)
      (acts_parts eq a s k (before ++ v ∷ []) after z (source_snoc before v w q) (all_source-formed (self_in s k) k (length (before ++ v ∷ [])) after h.1))))
      (λ h. last_row eq a s k before t after z w h.0 h.1)

-- ---- how many they are

abbrev with_form : {R : Type 0} → Kind R → ℕ → ℕ
with_form k n = activations_in n k

form_long : {R : Type 0} (os : List (Option R)) (k : Kind R) → length (objects_in os k) ≡ activations_in (length os) k
form_long os (Within o m) = push_length os (Some o)
form_long os Called = push_length os None
form_long os k = refl

mutual
  -- as many as a term has activations
  pub objects_long : {R : Type 0} (t : Term R) → length (objects_of t) ≡ activations_of t
  objects_long (Const v) = refl
  objects_long (Name x) = refl
  objects_long (Under names t) = refl
  objects_long (Form k parts) = form_long (objects_of_parts parts) k ∙ ap (with_form k) (parts_long parts)

  parts_long : {R : Type 0} (parts : Parts R) → length (objects_of_parts parts) ≡ activations_of_parts parts
  parts_long End = refl
  parts_long (Part t parts) = length-append (objects_of t) (objects_of_parts parts) ∙ ap (λ n. n + length (objects_of_parts parts)) (objects_long t) ∙ ap (λ n. activations_of t + n) (parts_long parts)

pub source_none : {R : Type 0} (t : Term R) → IsSource t → activations_of t ≡ 0
source_none t h = sym (objects_long t) ∙ ap length (source_bare t h)

around_long : {R : Type 0} (a : ℕ) (fs : List (Frame R)) (os : List (Option R)) → activations_at a fs + length os ≡ a + length (objects_around fs os)
around_long {R} a [] os = refl
around_long {R} a (Pending k before after ∷ fs) os = around_long (activations_in a k) fs os ∙ one_in k a (objects_around fs os)
  where
    pushed : (a m n : ℕ) → n ≡ suc m → suc a + m ≡ a + n
    pushed a m n q = omega arith

    one_in : (k : Kind R) (a : ℕ) (l : List (Option R)) → activations_in a k + length l ≡ a + length (objects_in l k)
    one_in (Within o m) a l = pushed a (length l) (length (l ++ Some o ∷ [])) (push_length l (Some o))
    one_in Called a l = pushed a (length l) (length (l ++ None ∷ [])) (push_length l None)
    one_in k a l = refl

left_long : {R : Type 0} (op : Operation R) → length (left_objects op) ≡ left_by op
left_long (Leave o out) = refl
left_long op = refl

-- the same of numbers
counted : {R : Type 0} (a : ℕ) (os : List (Option R)) (x : Found R) → Listed a os x → Activated a (length os) x
counted a os (Next u) (inl h) = inl (sym (objects_long u) ∙ ap length h)
counted a os (Next u) (inr (inl h)) = inr (inl (sym (objects_long u) ∙ ap length h.0, h.1))
counted a os (Next u) (inr (inr (x, h))) = inr (inr (ap length h ∙ ap suc (objects_long u)))
counted a os (Needs op fs) h = (ap (λ l. a + length l) h.0 ∙ sym (around_long a fs (left_objects op)) ∙ ap (λ n. activations_at a fs + n) (left_long op), h.1)
counted a os (Done v) h = ap length h
counted a os (Uncaught r) h = ap length h

pub found_activations : {R : Type 0} → FoundActivations R
found_activations eq a s t h = subst (λ n. Activated a n (find eq a s t)) (objects_long t) (counted a (objects_of t) (find eq a s t) (found_objects eq a s t h))
