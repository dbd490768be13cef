-- What stands next in a closed term is closed.
use Rattle.std.specs.Prelude.{Bool, List, None, Option, Some, [], bytes_eq, drop, false, if◌then◌else◌, int_div, int_lt, int_rem, length, nat_lt, negsuc, not, pos, refl, replicate, suc, take, true, zero, ℕ, ℤ, ◌&&◌, ◌*ℤ◌, ◌++◌, ◌+ℤ◌, ◌+◌, ◌-ℤ◌, ◌==◌, ◌∷◌, ◌≡◌, ◌||◌, ◌⊎◌}
use Rattle.std.proofs.Common.{inl, inr, subst, ap, sym, ◌∙◌, arith, true≢false}
use Rattle.std.proofs.lemmas.Bool.{eqb-true}
use Rattle.std.proofs.lemmas.Slice.Eq.{bytes_eq-Decides}
use Rattle.obq_base.specs.declared.limits.TheConstants.{ARRAY_LIMIT, CLOSURE_LIMIT, TEXT_LIMIT}
use Rattle.obq_base.specs.declared.trees.Flags.{Flags}
use Rattle.obq_base.specs.declared.trees.Operator.{Operator}
use Rattle.obq_model.specs.Terms.{Bytes, Object, Array, Variable, Writer, Condition, Engine, Raised, Exn, ExitUp, Mode, Plain, Held, Inner, Builtin, Not, Exception, FmtInt, FmtBool, TextLength, TextSub, ArrayNew, ArraySize, PutText, NewCondition, SignalOne, SignalAll, Fork, JoinThread, NetExport, NetImport, ExportEngine, ImportEngine, Layout, NoLayout, ValueField, MethodField, AliasField, Value, Int, Truth, Okay, Text, Exc, Thread, Closure, Member, Loc, FieldBody, IsValue, IsMethod, IsAlias, Fields, Kind, Empty, Then, Let, Var, LetRec, Group, Procedure, Assign, If, OrIf, AndIf, Operate, Call, Apply, MakeArray, Index, SetIndex, MakeObject, Select, Invoke, SetValue, SetMethod, SetAlias, Redirect, Clone, Raise, Exit, Loop, For, Foreach, Try, Finally, Watch, Read, Raising, Called, Within, Looping, Counting, EachAt, EachIn, Choosing, Unmet, Finishing, Cloning, Testing, Lined, Out, Term, Const, Name, Under, Form, Parts, End, Part}
use Rattle.obq_model.specs.Put.{among, occurrence, put, put_parts, put_all, enter, put_members}
use Rattle.obq_model.specs.Depth.{deepest_of, is_too_deep}
use Rattle.obq_model.specs.Shapes.{pattern_of, IsShaped, AreShaped, IsShapedUnderOne, IsShapedValue, IsShapedKind}
use Rattle.obq_model.specs.Exceptions.{raising, arity, int_overflow, text_limit, text_range, array_limit, field_twice, call_limit, closure_limit}
use Rattle.obq_model.specs.Builtins.{is_i64, number, divided, same, compared, operate, part, arity_of_builtin}
use Rattle.obq_model.specs.Store.{ObjectCell, ArrayCell, field_names, twice}
use Rattle.obq_model.specs.Step.{Self, After, Itself, Entered, Operation, New, Leave, Copy, EachSize, SetItem, SetVariable, ForkOff, LineUp, GiveUp, Again, Export, CallMethod, Set, EachItem, RunEngine, is_operand, Frame, Pending, values_before, plug, self_in, activations_in, Found, Next, Needs, Done, Uncaught, part_at, names_of, params_of, body_with, is_call_limit, call_closure, with_one_parameter, call_engine, is_callable, call_value, field_before, fields_of, layout_names, new_object, objects, clone, array_of_size, fork_of, apply, counting, choose, out_of_method, chosen, tested, watching, cloned, row, out_of_loop, out_of_try, at_raised, through, find, find_part}
use Rattle.obq_model.proofs.Among.{bytes_sym, either, left_of, right_of}
use Rattle.obq_laws.specs.Closing.{Bound, no_name, within, IsClosed, AreClosed, IsClosedValue, IsClosedKind, AreClosedFields, IsClosedField, AllClosed, IsClosedCell}
use Rattle.obq_laws.specs.Known.{HasOneParameter}
use Rattle.obq_laws.proofs.ShapedStep.{ShapedFound, not_zero, shaped_find, replaceable, operand_unbound, values_snoc}

-- ---- operations and frames

abbrev pub IsClosedAfter : {R : Type 0} → After R → Type 0
IsClosedAfter (Entered scope) = IsClosed no_name scope
IsClosedAfter after = Unit {0}

-- an operation's values and terms are closed
abbrev pub IsClosedOperation : {R : Type 0} → Operation R → Type 0
IsClosedOperation (New cell after) = IsClosedCell cell × IsClosedAfter after
IsClosedOperation (CallMethod o x vs) = AllClosed vs
IsClosedOperation (Leave o out) = IsClosed no_name out
IsClosedOperation (Set o x body) = IsClosedField body
IsClosedOperation (Copy o flags copied rest) = AreClosedFields copied
IsClosedOperation (EachSize a scope) = IsClosed no_name scope
IsClosedOperation (EachItem a i n scope) = IsClosed no_name scope
IsClosedOperation (SetItem a i v) = IsClosedValue v
IsClosedOperation (SetVariable l v) = IsClosedValue v
IsClosedOperation (ForkOff f) = IsClosedValue f
IsClosedOperation (LineUp o c guard) = IsClosed no_name guard
IsClosedOperation (GiveUp o c guard) = IsClosed no_name guard
IsClosedOperation (Again o c guard) = IsClosed no_name guard
IsClosedOperation (Export x v) = IsClosedValue v
IsClosedOperation (RunEngine e f) = IsClosedValue f × HasOneParameter (params_of f)
IsClosedOperation op = Unit {0}

abbrev pub AreClosedFrames : {R : Type 0} → List (Frame R) → Type 0
AreClosedFrames [] = Unit {0}
AreClosedFrames (Pending k before after ∷ fs) = (IsClosedKind k × AllClosed before × AreClosed no_name after) × AreClosedFrames fs

-- what stands next
abbrev pub IsClosedFound : {R : Type 0} → Found R → Type 0
IsClosedFound (Next u) = IsClosed no_name u
IsClosedFound (Needs op fs) = IsClosedOperation op × AreClosedFrames fs
IsClosedFound (Done v) = IsClosedValue v
IsClosedFound (Uncaught r) = Unit {0}

-- ---- putting in

pub closed_if : {R : Type 0} (f : Bound) (b : Bool) (t u : Term R) → IsClosed f t → IsClosed f u → IsClosed f (if b then t else u)
closed_if f true t u h i = h
closed_if f false t u h i = i

closed_occurrence : {R : Type 0} (f : Bound) (v : Value R) → IsClosedValue v → IsClosed f (occurrence v)
closed_occurrence f (Loc Variable l) h = (tt, tt)
closed_occurrence f (Loc Object l) h = tt
closed_occurrence f v h = h

only_first : (b : Bool) → (b || false) ≡ true → b ≡ true
only_first true e = refl
only_first false e = e

same_bytes : (x y : Bytes) → bytes_eq x y ≡ true → x ≡ y
same_bytes x y e = (bytes_eq-Decides x y).0 e

-- what is bound by f is bound by g, or one of these
abbrev Covers : Bound → List Bytes → Bound → Type 0
Covers f xs g = (y : Bytes) → f y ≡ true → (among y xs ≡ true) ⊎ (g y ≡ true)

none_among : (f g : Bound) → Covers f [] g → (y : Bytes) → f y ≡ true → g y ≡ true
none_among f g c y h = by (c y h)
  where
    by : (among y [] ≡ true) ⊎ (g y ≡ true) → g y ≡ true
    by (inl e) = absurd (true≢false (sym e))
    by (inr e) = e

covers_within : (names xs : List Bytes) (f g : Bound) → Covers f xs g → Covers (within names f) xs (within names g)
covers_within names xs f g c y h = by (either (among y names) (f y) h)
  where
    inner : (among y xs ≡ true) ⊎ (g y ≡ true) → (among y xs ≡ true) ⊎ (within names g y ≡ true)
    inner (inl e) = inl e
    inner (inr e) = inr (right_of (among y names) (g y) e)

    by : (among y names ≡ true) ⊎ (f y ≡ true) → (among y xs ≡ true) ⊎ (within names g y ≡ true)
    by (inl e) = inr (left_of (among y names) (g y) e)
    by (inr e) = inner (c y e)

-- the last of these may be bound outside
covers_first : (x : Bytes) (xs : List Bytes) (f g : Bound) → Covers f (x ∷ xs) g → Covers f xs (within (x ∷ []) g)
covers_first x xs f g c y h = by (c y h)
  where
    first : (bytes_eq y x ≡ true) ⊎ (among y xs ≡ true) → (among y xs ≡ true) ⊎ (within (x ∷ []) g y ≡ true)
    first (inl e) = inr (left_of (among y (x ∷ [])) (g y) (left_of (bytes_eq y x) false e))
    first (inr e) = inl e

    by : (among y (x ∷ xs) ≡ true) ⊎ (g y ≡ true) → (among y xs ≡ true) ⊎ (within (x ∷ []) g y ≡ true)
    by (inl e) = first (either (bytes_eq y x) (among y xs) e)
    by (inr e) = inr (right_of (among y (x ∷ [])) (g y) e)

pub covers_own : (xs : List Bytes) (g : Bound) → Covers (within xs g) xs g
covers_own xs g y h = either (among y xs) (g y) h

mutual
  -- under more names
  pub wider : {R : Type 0} (f g : Bound) → ((y : Bytes) → f y ≡ true → g y ≡ true) → (t : Term R) → IsClosed f t → IsClosed g t
  wider f g c (Const v) h = h
  wider f g c (Name y) h = c y h
  wider f g c (Under names t) h = wider (within names f) (within names g) (λ y e. none_among (within names f) (within names g) (covers_within names [] f g (λ z q. inr (c z q))) y e) t h
  wider f g c (Form q parts) h = (h.0, wider_parts f g c parts h.1)

  pub wider_parts : {R : Type 0} (f g : Bound) → ((y : Bytes) → f y ≡ true → g y ≡ true) → (parts : Parts R) → AreClosed f parts → AreClosed g parts
  wider_parts f g c End h = tt
  wider_parts f g c (Part t parts) h = (wider f g c t h.0, wider_parts f g c parts h.1)

-- the name that is put in is bound by the names that cover it
covered : (x : Bytes) (names : List Bytes) (f g : Bound) → among x names ≡ true → Covers f (x ∷ []) g → (y : Bytes) → within names f y ≡ true → within names g y ≡ true
covered x names f g a c y h = by (either (among y names) (f y) h)
  where
    inner : (among y (x ∷ []) ≡ true) ⊎ (g y ≡ true) → within names g y ≡ true
    inner (inl e) = left_of (among y names) (g y) (subst (λ z. among z names ≡ true) (sym (same_bytes y x (only_first (bytes_eq y x) e))) a)
    inner (inr e) = right_of (among y names) (g y) e

    by : (among y names ≡ true) ⊎ (f y ≡ true) → within names g y ≡ true
    by (inl e) = left_of (among y names) (g y) e
    by (inr e) = inner (c y e)

mutual
  pub closed_put : {R : Type 0} (f g : Bound) (v : Value R) (x : Bytes) → IsClosedValue v → Covers f (x ∷ []) g → (t : Term R) → IsClosed f t → IsClosed g (put v x t)
  closed_put f g v x k c (Const u) h = h
  closed_put f g v x k c (Name y) h = by (bytes_eq x y) refl (c y h)
    where
      by : (b : Bool) → bytes_eq x y ≡ b → (among y (x ∷ []) ≡ true) ⊎ (g y ≡ true) → IsClosed g (if b then occurrence v else Name y)
      by true e o = closed_occurrence g v k
      by false e (inl o) = absurd (true≢false (sym (bytes_sym x y ∙ only_first (bytes_eq y x) o) ∙ e))
      by false e (inr o) = o
  closed_put f g v x k c (Under names t) h = by (among x names) refl (closed_put (within names f) (within names g) v x k (covers_within names (x ∷ []) f g c) t h)
    where
      by : (b : Bool) → among x names ≡ b → IsClosed (within names g) (put v x t) → IsClosed (within names g) (if b then t else put v x t)
      by true e i = wider (within names f) (within names g) (covered x names f g e c) t h
      by false e i = i
  closed_put f g v x k c (Form q parts) h = (h.0, closed_put_parts f g v x k c parts h.1)

  pub closed_put_parts : {R : Type 0} (f g : Bound) (v : Value R) (x : Bytes) → IsClosedValue v → Covers f (x ∷ []) g → (parts : Parts R) → AreClosed f parts → AreClosed g (put_parts v x parts)
  closed_put_parts f g v x k c End h = tt
  closed_put_parts f g v x k c (Part t parts) h = (closed_put f g v x k c t h.0, closed_put_parts f g v x k c parts h.1)

less_one : {X Y : Type 0} (xs : List X) (ys : List Y) (x : X) (y : Y) → length (x ∷ xs) ≡ length (y ∷ ys) → length xs ≡ length ys
less_one xs ys x y e = omega arith

not_empty : {X : Type 0} (xs : List X) (x : X) → length (x ∷ xs) ≡ 0 → ⊥
not_empty xs x e = absurd (omega arith)

pub closed_put_all : {R : Type 0} (f g : Bound) (vs : List (Value R)) (xs : List Bytes) (t : Term R) → length xs ≡ length vs → AllClosed vs → Covers f xs g → IsClosed f t → IsClosed g (put_all vs xs t)
closed_put_all f g [] [] t e k c h = wider f g (none_among f g c) t h
closed_put_all f g [] (x ∷ xs) t e k c h = absurd (not_empty xs x e)
closed_put_all f g (v ∷ vs) [] t e k c h = wider f g (none_among f g c) t h
closed_put_all f g (v ∷ vs) (x ∷ xs) t e k c h =
    closed_put (within (x ∷ []) g) g v x k.0 (covers_own (x ∷ []) g) (put_all vs xs t) (closed_put_all f (within (x ∷ []) g) vs xs t (less_one xs vs x v e) k.1 (covers_first x xs f g c) h)

-- a scope of one name
pub closed_enter : {R : Type 0} (v : Value R) (t : Term R) → IsShapedUnderOne t → IsClosedValue v → IsClosed no_name t → IsClosed no_name (enter (v ∷ []) t)
closed_enter v (Under (x ∷ []) t) s k h = closed_put_all (within (x ∷ []) no_name) no_name (v ∷ []) (x ∷ []) t refl (k, tt) (covers_own (x ∷ []) no_name) h
closed_enter v (Under [] t) s k h = absurd s
closed_enter v (Under (x ∷ y ∷ xs) t) s k h = absurd s
closed_enter v (Const u) s k h = absurd s
closed_enter v (Name x) s k h = absurd s
closed_enter v (Form q parts) s k h = absurd s

-- a scope of as many names as there are values
closed_enter_all : {R : Type 0} (f : Bound) (vs : List (Value R)) (t : Term R) (params : List Bytes) → names_of t ≡ Some params → length params ≡ length vs → AllClosed vs → IsClosed f t → IsClosed f (enter vs t)
closed_enter_all f vs (Under names t) params q e k h = let same : names ≡ params = cc q in closed_put_all (within names f) f vs names t (ap length same ∙ e) k (covers_own names f) h
closed_enter_all f vs (Const v) params q e k h = h
closed_enter_all f vs (Name x) params q e k h = h
closed_enter_all f vs (Form q2 parts) params q e k h = h

closed_put_members : {R : Type 0} (f g : Bound) (names : List Bytes) (group : Parts R) (i : ℕ) (xs : List Bytes) (t : Term R) → AreClosed (within names no_name) group → Covers f xs g → IsClosed f t → IsClosed g (put_members names group i xs t)
closed_put_members f g names group i [] t k c h = wider f g (none_among f g c) t h
closed_put_members f g names group i (x ∷ xs) t k c h =
    closed_put (within (x ∷ []) g) g (Member names group i) x k (covers_own (x ∷ []) g) (put_members names group (suc i) xs t) (closed_put_members f (within (x ∷ []) g) names group (suc i) xs t k (covers_first x xs f g c) h)

-- the part with this index, if it is under names
closed_part_at : {R : Type 0} (f : Bound) (parts : Parts R) (i : ℕ) (params : List Bytes) → names_of (part_at parts i) ≡ Some params → AreClosed f parts → IsClosed f (part_at parts i)
closed_part_at f End i params q h = absurd (cc q)
closed_part_at f (Part t parts) zero params q h = h.0
closed_part_at f (Part t parts) (suc i) params q h = closed_part_at f parts i params q h.1

pub closed_body : {R : Type 0} (f : Value R) (vs : List (Value R)) (params : List Bytes) → params_of f ≡ Some params → length params ≡ length vs → IsClosedValue f → AllClosed vs → IsClosed no_name (body_with f vs)
closed_body (Closure xs body) vs params q e h k = let same : xs ≡ params = cc q in closed_put_all (within xs no_name) no_name vs xs body (ap length same ∙ e) k (covers_own xs no_name) h
closed_body (Member names group i) vs params q e h k =
    closed_put_members (within names no_name) no_name names group 0 names (enter vs (part_at group i)) h (covers_own names no_name)
    (closed_enter_all (within names no_name) vs (part_at group i) params q e k (closed_part_at (within names no_name) group i params q h))
closed_body _ vs params q e h k = (tt, tt)

-- ---- the rows

found_if : {R : Type 0} (b : Bool) (x y : Found R) → IsClosedFound x → IsClosedFound y → IsClosedFound (if b then x else y)
found_if true x y h i = h
found_if false x y h i = i

-- the first only where the test holds
found_where : {R : Type 0} (b : Bool) (x y : Found R) → (b ≡ true → IsClosedFound x) → IsClosedFound y → IsClosedFound (if b then x else y)
found_where true x y h i = h refl
found_where false x y h i = i

closed_closure : {R : Type 0} (f : Value R) (vs : List (Value R)) (o : Option (List Bytes)) → params_of f ≡ o → IsClosedValue f → AllClosed vs → IsClosedFound (call_closure f vs o)
closed_closure f vs None q h k = (tt, tt)
closed_closure f vs (Some params) q h k =
    found_where (length params == length vs) (Next (Form Called (Part (body_with f vs) End))) (Next arity) (λ e. (tt, (closed_body f vs params q (eqb-true (length params) (length vs) e) h k, tt))) (tt, tt)

closed_one : {R : Type 0} (e : R) (f : Value R) (o : Option (List Bytes)) → params_of f ≡ o → IsClosedValue f → IsClosedFound (with_one_parameter e f o)
closed_one e f None q h = (tt, tt)
closed_one e f (Some params) q h = found_where (length params == 1) (Needs (RunEngine e f) []) (Next arity) (λ n. ((h, subst HasOneParameter (sym q) (eqb-true (length params) 1 n)), tt)) (tt, tt)

closed_engine : {R : Type 0} (e : R) (vs : List (Value R)) → AllClosed vs → IsClosedFound (call_engine e vs)
closed_engine e (f ∷ []) k = closed_one e f (params_of f) refl k.0
closed_engine e [] k = (tt, tt)
closed_engine e (f ∷ g ∷ vs) k = (tt, tt)

closed_call_value : {R : Type 0} (f : Value R) (vs : List (Value R)) → IsClosedValue f → AllClosed vs → IsClosedFound (call_value f vs)
closed_call_value (Loc Engine e) vs h k = closed_engine e vs k
closed_call_value (Loc Object e) vs h k = (tt, tt)
closed_call_value f vs h k = closed_closure f vs (params_of f) refl h k

abbrev AreClosedIf : {R : Type 0} → Option (Fields R) → Type 0
AreClosedIf None = Unit {0}
AreClosedIf (Some fs) = AreClosedFields fs

closed_field_before : {R : Type 0} (x : Bytes) (body : FieldBody R) (o : Option (Fields R)) → IsClosedField body → AreClosedIf o → AreClosedIf (field_before x body o)
closed_field_before x body None h k = tt
closed_field_before x body (Some fs) h k = (h, k)

closed_fields : {R : Type 0} (s : Layout) (vs : List (Value R)) (methods : Parts R) → AllClosed vs → AreClosed no_name methods → AreClosedIf (fields_of s vs methods)
closed_fields NoLayout vs methods k h = tt
closed_fields (ValueField x s) (v ∷ vs) methods k h = closed_field_before x (IsValue v) (fields_of s vs methods) k.0 (closed_fields s vs methods k.1 h)
closed_fields (MethodField x s) vs (Part (Under params body) methods) k h = closed_field_before x (IsMethod params body) (fields_of s vs methods) h.0 (closed_fields s vs methods k h.1)
closed_fields (AliasField x y s) (Loc Object o ∷ vs) methods k h = closed_field_before x (IsAlias o y) (fields_of s vs methods) tt (closed_fields s vs methods k.1 h)
closed_fields _ _ _ k h = tt

closed_new_object : {R : Type 0} (flags : Flags) (methods : Parts R) (o : Option (Fields R)) → AreClosedIf o → IsClosedFound (new_object flags methods o)
closed_new_object flags methods None h = (tt, tt)
closed_new_object flags methods (Some fields) h = found_if (nat_lt CLOSURE_LIMIT (deepest_of methods)) (Next closure_limit) (Needs (New (ObjectCell flags None fields) Itself) []) (tt, tt) ((h, tt), tt)

closed_clone : {R : Type 0} (o : Option (List R)) → IsClosed no_name (clone o)
closed_clone None = (tt, tt)
closed_clone (Some os) = (tt, tt)

closed_replicate : {R : Type 0} (n : ℕ) (v : Value R) → IsClosedValue v → AllClosed (replicate n v)
closed_replicate zero v h = tt
closed_replicate (suc n) v h = (h, closed_replicate n v h)

closed_array : {R : Type 0} (z : ℤ) (v : Value R) → IsClosedValue v → IsClosedFound (array_of_size z v)
closed_array (pos n) v h = found_if (nat_lt ARRAY_LIMIT n) (Next array_limit) (Needs (New (ArrayCell (replicate n v)) Itself) []) (tt, tt) ((closed_replicate n v h, tt), tt)
closed_array (negsuc n) v h = (tt, tt)

closed_fork : {R : Type 0} (f : Value R) (o : Option (List Bytes)) → IsClosedValue f → IsClosedFound (fork_of f o)
closed_fork f None h = (tt, tt)
closed_fork f (Some []) h = (h, tt)
closed_fork f (Some (x ∷ xs)) h = (tt, tt)

closed_part : (R : Type 0) (t : Bytes) (a b : ℤ) → IsClosed {R = R} no_name (part t a b)
closed_part R t (pos a) (pos b) = closed_if no_name (nat_lt (length t) (a + b)) text_range (Const (Text (take b (drop a t)))) (tt, tt) tt
closed_part R t (pos a) (negsuc b) = (tt, tt)
closed_part R t (negsuc a) b = (tt, tt)

closed_apply : {R : Type 0} (b : Builtin) (vs : List (Value R)) → AllClosed vs → IsClosedFound (apply b vs)
closed_apply Not (Truth b ∷ []) k = tt
closed_apply Exception (Text t ∷ []) k = tt
closed_apply FmtInt (Int z ∷ []) k = tt
closed_apply FmtBool (Truth b ∷ []) k = tt
closed_apply TextLength (Text t ∷ []) k = tt
closed_apply TextSub (Text t ∷ Int start ∷ Int size ∷ []) k = closed_part _ t start size
closed_apply ArrayNew (Int n ∷ v ∷ []) k = closed_array n v k.1.0
closed_apply ArraySize (Loc Array a ∷ []) k = (tt, tt)
closed_apply PutText (Loc Writer w ∷ Text t ∷ []) k = (tt, tt)
closed_apply NewCondition [] k = ((tt, tt), tt)
closed_apply SignalOne (Loc Condition c ∷ []) k = (tt, tt)
closed_apply SignalAll (Loc Condition c ∷ []) k = (tt, tt)
closed_apply Fork (f ∷ []) k = closed_fork f (params_of f) k.0
closed_apply JoinThread (Thread t ∷ []) k = (tt, tt)
closed_apply NetExport (Text name ∷ Text namer ∷ v ∷ []) k = (k.1.1.0, tt)
closed_apply NetImport (Text name ∷ Text namer ∷ []) k = (tt, tt)
closed_apply ExportEngine (Text name ∷ Text namer ∷ v ∷ []) k = ((k.1.1.0, tt), tt)
closed_apply ImportEngine (Text name ∷ Text namer ∷ []) k = (tt, tt)
closed_apply _ _ k = (tt, tt)

closed_number : (R : Type 0) (z : ℤ) → IsClosed {R = R} no_name (number z)
closed_number R z = closed_if no_name (is_i64 z) (Const (Int z)) int_overflow tt (tt, tt)

closed_divided : (R : Type 0) (f : ℤ → ℤ → ℤ) (a b : ℤ) → IsClosed {R = R} no_name (divided f a b)
closed_divided R f a (pos zero) = (tt, tt)
closed_divided R f a (pos (suc n)) = closed_number _ (f a (pos (suc n)))
closed_divided R f a (negsuc n) = closed_number _ (f a (negsuc n))

closed_compared : (R : Type 0) (f : Bool → Bool) (o : Option Bool) → IsClosed {R = R} no_name (compared f o)
closed_compared R f None = (tt, tt)
closed_compared R f (Some b) = tt

closed_operate : {R : Type 0} (eq : R → R → Bool) (op : Operator) (v w : Value R) → IsClosed no_name (operate eq op v w)
closed_operate eq Operator.Add (Int a) (Int b) = closed_number _ (a +ℤ b)
closed_operate eq Operator.Subtract (Int a) (Int b) = closed_number _ (a -ℤ b)
closed_operate eq Operator.Multiply (Int a) (Int b) = closed_number _ (a *ℤ b)
closed_operate eq Operator.Divide (Int a) (Int b) = closed_divided _ int_div a b
closed_operate eq Operator.Remainder (Int a) (Int b) = closed_divided _ int_rem a b
closed_operate eq Operator.Join (Text a) (Text b) = closed_if no_name (nat_lt TEXT_LIMIT (length (a ++ b))) text_limit (Const (Text (a ++ b))) (tt, tt) tt
closed_operate eq Operator.Less (Int a) (Int b) = tt
closed_operate eq Operator.LessEqual (Int a) (Int b) = tt
closed_operate eq Operator.Greater (Int a) (Int b) = tt
closed_operate eq Operator.GreaterEqual (Int a) (Int b) = tt
closed_operate eq Operator.Is v w = closed_compared _ (λ b. b) (same eq v w)
closed_operate eq Operator.IsNot v w = closed_compared _ not (same eq v w)
closed_operate eq _ _ _ = (tt, tt)

closed_counting : {R : Type 0} (i n : ℤ) (scope : Term R) → IsShapedUnderOne scope → IsClosed no_name scope → IsClosed no_name (counting i n scope)
closed_counting i n scope w h = closed_if no_name (int_lt n i) (Const Okay) (Form (Counting i n) (Part (enter (Int i ∷ []) scope) (Part scope End))) tt (tt, (closed_enter (Int i) scope w tt h, (h, tt)))

closed_choose : {R : Type 0} (e : Bytes) (arms : Parts R) → AreClosed no_name arms → IsClosed no_name (choose e arms)
closed_choose e (Part guard (Part block arms)) h = (tt, h)
closed_choose e (Part block End) h = (tt, h)
closed_choose e End h = (tt, h)

closed_chosen : {R : Type 0} (e : Bytes) (v : Value R) (block : Term R) (arms : Parts R) → IsClosed no_name block → AreClosed no_name arms → IsClosedFound (chosen e v block arms)
closed_chosen e (Exc f) block arms h k = closed_if no_name (bytes_eq e f) block (choose e arms) h (closed_choose e arms k)
closed_chosen e _ block arms h k = (tt, tt)

closed_tested : {R : Type 0} (o c : R) (v : Value R) (guard : Term R) → IsClosed no_name guard → IsClosedFound (tested o c v guard)
closed_tested o c (Truth true) guard h = tt
closed_tested o c (Truth false) guard h = (h, tt)
closed_tested o c _ guard h = (tt, tt)

closed_watching : {R : Type 0} (o : Option R) (b : Bool) (c : R) (guard : Term R) → IsClosed no_name guard → IsClosedFound (watching o b c guard)
closed_watching (Some o) false c guard h = (tt, (h, (h, tt)))
closed_watching (Some o) true c guard h = (tt, tt)
closed_watching None b c guard h = (tt, tt)

closed_cloned : {R : Type 0} (flags : Option Flags) (fields : Fields R) (os : List R) → AreClosedFields fields → IsClosedFound (cloned flags fields os)
closed_cloned flags fields (o ∷ rest) h = (h, tt)
closed_cloned None fields [] h = (tt, tt)
closed_cloned (Some flags) fields [] h = found_if (twice (field_names fields)) (Next field_twice) (Needs (New (ObjectCell flags None fields) Itself) []) (tt, tt) ((h, tt), tt)

closed_out : {R : Type 0} (o : R) (m : Mode) (out : Term R) → IsClosed no_name out → IsClosedFound (out_of_method o m out)
closed_out o Held out h = (h, tt)
closed_out o Plain out h = h
closed_out o Inner out h = h

closed_row : {R : Type 0} (eq : R → R → Bool) (a : ℕ) (s : Self R) (k : Kind R) (vs : List (Value R)) (parts : Parts R) → AreShaped (pattern_of k) (values_before vs parts) → IsClosedKind k → AllClosed vs → AreClosed no_name parts → IsClosedFound (row eq a s k vs parts)
closed_row eq a s Empty [] End w l h p = tt
closed_row eq a s Then (v ∷ []) (Part rest End) w l h p = p.0
closed_row eq a s Let (v ∷ []) (Part scope End) w l h p = closed_enter v scope w.1.0 h.0 p.0
closed_row eq a s Var (v ∷ []) (Part scope End) w l h p = ((h.0, p.0), tt)
closed_row eq a s LetRec [] (Part (Under names (Form Group (Part rest group))) End) w l h p =
    closed_if no_name (nat_lt CLOSURE_LIMIT (deepest_of group)) closure_limit (put_members names group 0 names rest) (tt, tt) (closed_put_members (within names no_name) no_name names group 0 names rest p.0.1.1 (covers_own names no_name) p.0.1.0)
closed_row eq a s Procedure [] (Part (Under params body) End) w l h p = closed_if no_name (is_too_deep body) closure_limit (Const (Closure params body)) (tt, tt) p.0
closed_row eq a s Assign (v ∷ []) (Part (Form (Read q) End) End) w l h p = (h.0, tt)
closed_row eq a s Assign (v ∷ []) (Part target End) w l h p = (tt, tt)
closed_row eq a s If (Truth c ∷ []) (Part block (Part otherwise End)) w l h p = closed_if no_name c block otherwise p.0 p.1.0
closed_row eq a s OrIf (Truth c ∷ []) (Part right End) w l h p = closed_if no_name c (Const (Truth true)) right tt p.0
closed_row eq a s AndIf (Truth c ∷ []) (Part right End) w l h p = closed_if no_name c right (Const (Truth false)) p.0 tt
closed_row eq a s (Operate op) (v ∷ u ∷ []) End w l h p = closed_operate eq op v u
closed_row eq a s Call (f ∷ vs) End w l h p = found_if (is_callable f && is_call_limit a) (Next call_limit) (call_value f vs) (tt, tt) (closed_call_value f vs h.0 h.1)
closed_row eq a s (Apply q) vs End w l h p = found_if (length vs == arity_of_builtin q) (apply q vs) (Next arity) (closed_apply q vs h) (tt, tt)
closed_row eq a s MakeArray vs End w l h p = found_if (nat_lt ARRAY_LIMIT (length vs)) (Next array_limit) (Needs (New (ArrayCell vs) Itself) []) (tt, tt) ((h, tt), tt)
closed_row eq a s Index (Loc Array r ∷ Int i ∷ []) End w l h p = (tt, tt)
closed_row eq a s SetIndex (Loc Array r ∷ Int i ∷ v ∷ []) End w l h p = (h.1.1.0, tt)
closed_row eq a s (MakeObject flags shape) vs methods w l h p =
    found_if (twice (layout_names shape)) (Next field_twice) (new_object flags methods (fields_of shape vs methods)) (tt, tt) (closed_new_object flags methods (fields_of shape vs methods) (closed_fields shape vs methods h p))
closed_row eq a s (Select x) (Loc Object q ∷ []) End w l h p = (tt, tt)
closed_row eq a s (Invoke x) (Loc Object q ∷ vs) End w l h p = found_if (is_call_limit a) (Next call_limit) (Needs (CallMethod q x vs) []) (tt, tt) (h.1, tt)
closed_row eq a s (SetValue x) (Loc Object q ∷ v ∷ []) End w l h p = (h.1.0, tt)
closed_row eq a s (SetMethod x) (Loc Object q ∷ []) (Part (Under params body) End) w l h p = found_if (is_too_deep body) (Next closure_limit) (Needs (Set q x (IsMethod params body)) []) (tt, tt) (p.0, tt)
closed_row eq a s (SetAlias x y) (Loc Object q ∷ Loc Object r ∷ []) End w l h p = (tt, tt)
closed_row eq a s Redirect (Loc Object q ∷ Loc Object r ∷ []) End w l h p = (tt, tt)
closed_row eq a s Clone vs End w l h p = closed_clone (objects vs)
closed_row eq a s Raise (Exc e ∷ []) End w l h p = (tt, tt)
closed_row eq a s Exit [] End w l h p = (tt, tt)
closed_row eq a s Loop [] (Part body End) w l h p = (tt, (p.0, (p.0, tt)))
closed_row eq a s For (Int m ∷ Int n ∷ []) (Part scope End) w l h p = closed_counting m n scope w.1.1.0 p.0
closed_row eq a s Foreach (Loc Array r ∷ []) (Part scope End) w l h p = (p.0, tt)
closed_row eq a s Try (v ∷ []) arms w l h p = h.0
closed_row eq a s Finally (v ∷ []) (Part last End) w l h p = (tt, (p.0, (h.0, tt)))
closed_row eq a s Watch (Loc Condition c ∷ []) (Part guard End) w l h p = closed_watching s.object s.plain c guard p.0
closed_row eq a s (Read q) [] End w l h p = (tt, tt)
closed_row eq a s (Raising r) [] End w l h p = tt
closed_row eq a s Called (v ∷ []) End w l h p = h.0
closed_row eq a s (Within q m) (v ∷ []) End w l h p = closed_out q m (Const v) h.0
closed_row eq a s Looping (v ∷ []) (Part body End) w l h p = (tt, (p.0, (p.0, tt)))
closed_row eq a s (Counting i n) (v ∷ []) (Part scope End) w l h p = closed_counting (i +ℤ pos 1) n scope w.1.0 p.0
closed_row eq a s (EachAt r i n) [] (Part scope End) w l h p = found_if (i == n) (Next (Const Okay)) (Needs (EachItem r i n scope) []) tt (p.0, tt)
closed_row eq a s (EachIn r i n) (v ∷ []) (Part scope End) w l h p = (tt, (p.0, tt))
closed_row eq a s (Choosing e) (v ∷ []) (Part block arms) w l h p = closed_chosen e v block arms p.0 p.1
closed_row eq a s (Unmet e) [] (Part block End) w l h p = p.0
closed_row eq a s (Unmet e) [] End w l h p = (tt, tt)
closed_row eq a s Finishing (v ∷ []) (Part kept End) w l h p = p.0
closed_row eq a s (Cloning flags copied rest) [] End w l h p = closed_cloned flags copied rest l
closed_row eq a s (Testing q c) (v ∷ []) (Part guard End) w l h p = closed_tested q c v guard p.0
closed_row eq a s (Lined q c) [] (Part guard End) w l h p = (p.0, tt)
closed_row eq a s (Out q c) [] (Part guard End) w l h p = (p.0, tt)
closed_row eq a s _ _ _ w l h p = (tt, tt)

-- ---- the stops

closed_loop : (R : Type 0) (r : Raised) → IsClosedFound {R = R} (out_of_loop r)
closed_loop R ExitUp = tt
closed_loop R (Exn e) = (tt, tt)

closed_try : {R : Type 0} (arms : Parts R) (r : Raised) → AreClosed no_name arms → IsClosedFound (out_of_try arms r)
closed_try arms ExitUp h = (tt, tt)
closed_try arms (Exn e) h = closed_choose e arms h

-- the final block of a `finally` around a hole
final_block : {R : Type 0} (before : List (Value R)) (t : Term R) (after : Parts R) → AreShaped (pattern_of {R = R} Finally) (values_before before (Part t after)) → is_operand {R = R} Finally (length before) ≡ true → AreClosed no_name after → IsClosed no_name (part_at after 0)
final_block [] t (Part last after) w e h = h.0
final_block [] t End w e h = absurd w.1
final_block (v ∷ before) t after w e h = absurd (not_zero (length before) e)

closed_raised : {R : Type 0} (k : Kind R) (before : List (Value R)) (t : Term R) (after : Parts R) (r : Raised) → AreShaped (pattern_of k) (values_before before (Part t after)) → is_operand k (length before) ≡ true → AreClosed no_name after → IsClosedFound (at_raised (Pending k before after) r)
closed_raised Try before t after r w e h = closed_try after r h
closed_raised Finally before t after r w e h = (tt, (final_block before t after w e h, ((tt, tt), tt)))
closed_raised Called before t after r w e h = (tt, tt)
closed_raised (Within q m) before t after r w e h = closed_out q m (raising r) (tt, tt)
closed_raised Looping before t after r w e h = closed_loop _ r
closed_raised (Counting i n) before t after r w e h = closed_loop _ r
closed_raised (EachIn q i n) before t after r w e h = closed_loop _ r
closed_raised (Choosing x) before t after r w e h = (tt, tt)
closed_raised Finishing before t after r w e h = (tt, tt)
closed_raised (Testing q c) before t after r w e h = (tt, tt)
closed_raised _ before t after r w e h = tt

-- ---- the walk

pub closed_before : {R : Type 0} (f : Bound) (vs : List (Value R)) (parts : Parts R) → AllClosed vs → AreClosed f parts → AreClosed f (values_before vs parts)
closed_before f [] parts h p = p
closed_before f (v ∷ vs) parts h p = (h.0, closed_before f vs parts h.1 p)

closed_through : {R : Type 0} (k : Kind R) (before : List (Value R)) (t : Term R) (after : Parts R) (g : Value R → Found R) (x : Found R) → AreShaped (pattern_of k) (values_before before (Part t after)) → is_operand k (length before) ≡ true → IsClosedKind k → AllClosed before → AreClosed no_name after
    → ((v : Value R) → IsShapedValue v → IsClosedValue v → IsClosedFound (g v)) → ShapedFound x → IsClosedFound x → IsClosedFound (through (Pending k before after) g x)
closed_through k before t after g (Next u) w e l h p n s x = (l, closed_before no_name before (Part u after) h (x, p))
closed_through k before t after g (Needs op fs) w e l h p n s x = (x.0, ((l, h, p), x.1))
closed_through k before t after g (Done v) w e l h p n s x = n v s x
closed_through k before t after g (Uncaught r) w e l h p n s x = closed_raised k before t after r w e p

closed_more : {R : Type 0} (vs : List (Value R)) (v : Value R) → AllClosed vs → IsClosedValue v → AllClosed (vs ++ v ∷ [])
closed_more [] v h k = (k, tt)
closed_more (w ∷ vs) v h k = (h.0, closed_more vs v h.1 k)

mutual
  pub closed_find : {R : Type 0} (eq : R → R → Bool) (a : ℕ) (s : Self R) (t : Term R) → IsShaped t → IsClosed no_name t → IsClosedFound (find eq a s t)
  closed_find eq a s (Const v) w h = h
  closed_find eq a s (Name x) w h = (tt, tt)
  closed_find eq a s (Under names t) w h = (tt, tt)
  closed_find eq a s (Form k parts) w h = closed_find_part eq a s k [] parts w.0 w.1 h.0 tt h.1

  pub closed_find_part : {R : Type 0} (eq : R → R → Bool) (a : ℕ) (s : Self R) (k : Kind R) (before : List (Value R)) (parts : Parts R) → IsShapedKind k → AreShaped (pattern_of k) (values_before before parts) → IsClosedKind k → AllClosed before → AreClosed no_name parts
      → IsClosedFound (find_part eq a s k before parts)
  closed_find_part eq a s k before End c w l h p = closed_row eq a s k before End w l h p
  closed_find_part {R} eq a s k before (Part t after) c w l h p =
      by (is_operand k (length before)) refl (λ i. shaped_find eq (activations_in a k) (self_in s k) t i) (λ i. closed_find eq (activations_in a k) (self_in s k) t i p.0)
      (λ v i q. closed_find_part eq a s k (before ++ v ∷ []) after c i l (closed_more before v h q) p.1)
    where
      by : (b : Bool) → is_operand k (length before) ≡ b → (IsShaped t → ShapedFound (find eq (activations_in a k) (self_in s k) t)) → (IsShaped t → IsClosedFound (find eq (activations_in a k) (self_in s k) t))
          → ((v : Value R) → AreShaped (pattern_of k) (values_before (before ++ v ∷ []) after) → IsClosedValue v → IsClosedFound (find_part eq a s k (before ++ v ∷ []) after))
          → IsClosedFound (elim b [ true ↦ through (Pending k before after) (λ v. find_part eq a s k (before ++ v ∷ []) after) (find eq (activations_in a k) (self_in s k) t) | false ↦ row eq a s k before (Part t after) ])
      by true e shaped closed next =
          let parts : IsShaped t × ((u : Term R) → IsShaped u → AreShaped (pattern_of k) (values_before before (Part u after))) = replaceable (pattern_of k) before t after w (operand_unbound k (length before) e) in
          closed_through k before t after (λ v. find_part eq a s k (before ++ v ∷ []) after) (find eq (activations_in a k) (self_in s k) t) w e l h p.1
          (λ v i q. next v (subst (AreShaped (pattern_of k)) (sym (values_snoc before v after)) (parts.1 (Const v) i)) q) (shaped parts.0) (closed parts.0)
      by false e shaped closed next = closed_row eq a s k before (Part t after) w l h p

-- a closed part in the hole of closed frames
pub closed_plug : {R : Type 0} (fs : List (Frame R)) (t : Term R) → AreClosedFrames fs → IsClosed no_name t → IsClosed no_name (plug fs t)
closed_plug [] t h i = i
closed_plug (Pending k before after ∷ fs) t h i = (h.0.0, closed_before no_name before (Part (plug fs t) after) h.0.1 (closed_plug fs t h.1 i, h.0.2))

-- what stands in a hole of a closed term is closed
pub in_hole : {R : Type 0} (fs : List (Frame R)) (t : Term R) → IsClosed no_name (plug fs t) → IsClosed no_name t
in_hole [] t h = h
in_hole {R} (Pending k before after ∷ fs) t h = in_hole fs t (behind before h.1)
  where
    behind : (vs : List (Value R)) → AreClosed no_name (values_before vs (Part (plug fs t) after)) → IsClosed no_name (plug fs t)
    behind [] i = i.0
    behind (v ∷ vs) i = behind vs i.1
