-- What stands next in a known term is known.
use Rattle.std.specs.Prelude.{Bool, List, None, Option, Some, [], bytes_eq, drop, false, if◌then◌else◌, int_div, int_lt, int_rem, length, max, nat_lt, negsuc, not, pos, refl, replicate, suc, take, true, zero, ℕ, ℤ, ◌&&◌, ◌*ℤ◌, ◌++◌, ◌+ℤ◌, ◌+◌, ◌-ℤ◌, ◌==◌, ◌∷◌, ◌≡◌, ◌≤◌}
use Rattle.std.proofs.Common.{subst, ap, sym, arith}
use Rattle.std.proofs.lemmas.Bool.{eqb-true}
use Rattle.std.proofs.lemmas.Bool.Decides.{nat_tests}
use Rattle.obq_base.specs.declared.limits.TheConstants.{ARRAY_LIMIT, CLOSURE_LIMIT, TEXT_LIMIT}
use Rattle.obq_base.specs.declared.trees.Flags.{Flags}
use Rattle.obq_base.specs.declared.trees.Operator.{Operator}
use Rattle.obq_model.specs.Terms.{Bytes, Object, Array, Variable, Writer, Condition, Engine, Raised, Exn, ExitUp, Mode, Plain, Held, Inner, Builtin, Not, Exception, FmtInt, FmtBool, TextLength, TextSub, ArrayNew, ArraySize, PutText, NewCondition, SignalOne, SignalAll, Fork, JoinThread, NetExport, NetImport, ExportEngine, ImportEngine, Layout, NoLayout, ValueField, MethodField, AliasField, Value, Int, Truth, Okay, Text, Exc, Thread, Closure, Member, Loc, FieldBody, IsValue, IsMethod, IsAlias, Fields, Kind, Empty, Then, Let, Var, LetRec, Group, Procedure, Assign, If, OrIf, AndIf, Operate, Call, Apply, MakeArray, Index, SetIndex, MakeObject, Select, Invoke, SetValue, SetMethod, SetAlias, Redirect, Clone, Raise, Exit, Loop, For, Foreach, Try, Finally, Watch, Read, Raising, Called, Within, Looping, Counting, EachAt, EachIn, Choosing, Unmet, Finishing, Cloning, Testing, Lined, Out, Term, Const, Name, Under, Form, Parts, End, Part}
use Rattle.obq_model.specs.Put.{among, occurrence, put, put_parts, put_all, enter, put_members}
use Rattle.obq_model.specs.Depth.{deepest, deepest_of, is_too_deep}
use Rattle.obq_model.specs.Exceptions.{raising, arity, int_overflow, text_limit, text_range, array_limit, field_twice, call_limit, closure_limit}
use Rattle.obq_model.specs.Builtins.{is_i64, number, divided, same, compared, operate, part, arity_of_builtin}
use Rattle.obq_model.specs.Store.{ObjectCell, ArrayCell, field_names, twice}
use Rattle.obq_model.specs.Step.{Self, Itself, New, CallMethod, Set, EachItem, RunEngine, is_operand, Frame, Pending, values_before, plug, self_in, activations_in, Found, Next, Needs, Done, Uncaught, part_at, params_of, body_with, is_call_limit, call_closure, with_one_parameter, call_engine, is_callable, call_value, field_before, fields_of, layout_names, new_object, make_object, object_before, objects, clone, array_of_size, fork_of, apply, counting, choose, out_of_method, chosen, tested, watching, cloned, row, out_of_loop, out_of_try, at_raised, through, find, find_part}
use Rattle.obq_laws.proofs.Numbers.{decimal_short, length_int, next_int, part_length, truth_length}
use Rattle.obq_laws.proofs.Raises.{raises_type, raises_arity, raises_compare, raises_int_overflow, raises_int_divide, raises_text_limit, raises_text_range, raises_array_limit, raises_field_twice, raises_not_variable, raises_not_serialized, raises_call_limit, raises_closure_limit}
use Rattle.obq_laws.specs.Known.{IsRaised, Places, Threads, AllObjects, IsKnown, AreKnown, IsKnownValue, IsKnownKind, AreKnownFields, IsKnownBody, AllKnown, HasOneParameter, AreKnownFrames, IsKnownFound, IsKnownSelf, IsInt, IsText}

-- ---- putting in

pub known_if : {R : Type 0} (L : Places R) (T : Threads) (b : Bool) (t u : Term R) → IsKnown L T t → IsKnown L T u → IsKnown L T (if b then t else u)
known_if L T true t u h i = h
known_if L T false t u h i = i

known_occurrence : {R : Type 0} (L : Places R) (T : Threads) (v : Value R) → IsKnownValue L T v → IsKnown L T (occurrence v)
known_occurrence L T (Loc Variable l) h = (h, tt)
known_occurrence L T (Loc Object l) h = h
known_occurrence L T v h = h

mutual
  pub known_put : {R : Type 0} (L : Places R) (T : Threads) (v : Value R) (x : Bytes) → IsKnownValue L T v → (t : Term R) → IsKnown L T t → IsKnown L T (put v x t)
  known_put L T v x k (Const u) h = h
  known_put L T v x k (Name y) h = known_if L T (bytes_eq x y) (occurrence v) (Name y) (known_occurrence L T v k) tt
  known_put L T v x k (Under names t) h = known_if L T (among x names) t (put v x t) h (known_put L T v x k t h)
  known_put L T v x k (Form q parts) h = (h.0, known_put_parts L T v x k parts h.1)

  pub known_put_parts : {R : Type 0} (L : Places R) (T : Threads) (v : Value R) (x : Bytes) → IsKnownValue L T v → (parts : Parts R) → AreKnown L T parts → AreKnown L T (put_parts v x parts)
  known_put_parts L T v x k End h = tt
  known_put_parts L T v x k (Part t parts) h = (known_put L T v x k t h.0, known_put_parts L T v x k parts h.1)

pub known_put_all : {R : Type 0} (L : Places R) (T : Threads) (vs : List (Value R)) (xs : List Bytes) (t : Term R) → AllKnown L T vs → IsKnown L T t → IsKnown L T (put_all vs xs t)
known_put_all L T [] xs t k h = h
known_put_all L T (v ∷ vs) [] t k h = h
known_put_all L T (v ∷ vs) (x ∷ xs) t k h = known_put L T v x k.0 (put_all vs xs t) (known_put_all L T vs xs t k.1 h)

pub known_enter : {R : Type 0} (L : Places R) (T : Threads) (vs : List (Value R)) (t : Term R) → AllKnown L T vs → IsKnown L T t → IsKnown L T (enter vs t)
known_enter L T vs (Under names t) k h = known_put_all L T vs names t k h
known_enter L T vs (Const v) k h = h
known_enter L T vs (Name x) k h = h
known_enter L T vs (Form q parts) k h = h

-- the members from index i on, of which so many names are left
known_put_members : {R : Type 0} (L : Places R) (T : Threads) (names : List Bytes) (group : Parts R) (i : ℕ) (xs : List Bytes) (t : Term R) → i + length xs ≤ length names → deepest_of group ≤ 1000 → AreKnown L T group → IsKnown L T t → IsKnown L T (put_members names group i xs t)
known_put_members L T names group i [] t l d k h = h
known_put_members L T names group i (x ∷ xs) t l d k h =
    known_put L T (Member names group i) x (omega arith, d, k) (put_members names group (suc i) xs t) (known_put_members L T names group (suc i) xs t (omega arith) d k h)

known_part_at : {R : Type 0} (L : Places R) (T : Threads) (parts : Parts R) (i : ℕ) → AreKnown L T parts → IsKnown L T (part_at parts i)
known_part_at L T End i h = tt
known_part_at L T (Part t parts) zero h = h.0
known_part_at L T (Part t parts) (suc i) h = known_part_at L T parts i h.1

all_names : (n : ℕ) → 0 + n ≤ n
all_names n = omega arith

pub known_body : {R : Type 0} (L : Places R) (T : Threads) (f : Value R) (vs : List (Value R)) → IsKnownValue L T f → AllKnown L T vs → IsKnown L T (body_with f vs)
known_body L T (Closure params body) vs h k = known_put_all L T vs params body k h.1
known_body L T (Member names group i) vs h k = known_put_members L T names group 0 names (enter vs (part_at group i)) (all_names (length names)) h.1 h.2 (known_enter L T vs (part_at group i) k (known_part_at L T group i h.2))
known_body L T _ vs h k = raises_type L T

-- ---- the rows

found_if : {R : Type 0} (L : Places R) (T : Threads) (b : Bool) (x y : Found R) → IsKnownFound L T x → IsKnownFound L T y → IsKnownFound L T (if b then x else y)
found_if L T true x y h i = h
found_if L T false x y h i = i

-- the second only where the test fails
found_unless : {R : Type 0} (L : Places R) (T : Threads) (b : Bool) (x y : Found R) → IsKnownFound L T x → (b ≡ false → IsKnownFound L T y) → IsKnownFound L T (if b then x else y)
found_unless L T true x y h i = h
found_unless L T false x y h i = i refl

found_where : {R : Type 0} (L : Places R) (T : Threads) (b : Bool) (x y : Found R) → (b ≡ true → IsKnownFound L T x) → IsKnownFound L T y → IsKnownFound L T (if b then x else y)
found_where L T true x y h i = h refl
found_where L T false x y h i = i

term_unless : {R : Type 0} (L : Places R) (T : Threads) (b : Bool) (t u : Term R) → IsKnown L T t → (b ≡ false → IsKnown L T u) → IsKnown L T (if b then t else u)
term_unless L T true t u h i = h
term_unless L T false t u h i = i refl

term_where : {R : Type 0} (L : Places R) (T : Threads) (b : Bool) (t u : Term R) → (b ≡ true → IsKnown L T t) → IsKnown L T u → IsKnown L T (if b then t else u)
term_where L T true t u h i = h refl
term_where L T false t u h i = i

within : (m n : ℕ) → nat_lt m n ≡ false → n ≤ m
within m n h = grind (arith, nat_tests)

known_closure : {R : Type 0} (L : Places R) (T : Threads) (f : Value R) (vs : List (Value R)) (o : Option (List Bytes)) → IsKnownValue L T f → AllKnown L T vs → IsKnownFound L T (call_closure f vs o)
known_closure L T f vs None h k = raises_type L T
known_closure L T f vs (Some params) h k = found_if L T (length params == length vs) (Next (Form Called (Part (body_with f vs) End))) (Next arity) (tt, (known_body L T f vs h k, tt)) (raises_arity L T)

known_one : {R : Type 0} (L : Places R) (T : Threads) (e : R) (f : Value R) (o : Option (List Bytes)) → params_of f ≡ o → L Engine e → IsKnownValue L T f → IsKnownFound L T (with_one_parameter e f o)
known_one L T e f None q l h = raises_type L T
known_one L T e f (Some params) q l h =
    found_where L T (length params == 1) (Needs (RunEngine e f) []) (Next arity) (λ n. ((l, h, subst HasOneParameter (sym q) (eqb-true (length params) 1 n)), tt)) (raises_arity L T)

known_engine : {R : Type 0} (L : Places R) (T : Threads) (e : R) (vs : List (Value R)) → L Engine e → AllKnown L T vs → IsKnownFound L T (call_engine e vs)
known_engine L T e (f ∷ []) l k = known_one L T e f (params_of f) refl l k.0
known_engine L T e [] l k = raises_arity L T
known_engine L T e (f ∷ g ∷ vs) l k = raises_arity L T

known_call_value : {R : Type 0} (L : Places R) (T : Threads) (f : Value R) (vs : List (Value R)) → IsKnownValue L T f → AllKnown L T vs → IsKnownFound L T (call_value f vs)
known_call_value L T (Loc Engine e) vs h k = known_engine L T e vs h k
known_call_value L T (Loc Object e) vs h k = raises_type L T
known_call_value L T f vs h k = known_closure L T f vs (params_of f) h k

abbrev pub AreKnownIf : {R : Type 0} → Places R → Threads → Option (Fields R) → Type 0
AreKnownIf L T None = Unit {0}
AreKnownIf L T (Some fs) = AreKnownFields L T fs

known_field_before : {R : Type 0} (L : Places R) (T : Threads) (x : Bytes) (body : FieldBody R) (o : Option (Fields R)) → IsKnownBody L T body → AreKnownIf L T o → AreKnownIf L T (field_before x body o)
known_field_before L T x body None h k = tt
known_field_before L T x body (Some fs) h k = (h, k)

known_fields : {R : Type 0} (L : Places R) (T : Threads) (s : Layout) (vs : List (Value R)) (methods : Parts R) → AllKnown L T vs → deepest_of methods ≤ 1000 → AreKnown L T methods → AreKnownIf L T (fields_of s vs methods)
known_fields L T NoLayout vs methods k d h = tt
known_fields L T (ValueField x s) (v ∷ vs) methods k d h = known_field_before L T x (IsValue v) (fields_of s vs methods) k.0 (known_fields L T s vs methods k.1 d h)
known_fields L T (MethodField x s) vs (Part (Under params body) methods) k d h =
    known_field_before L T x (IsMethod params body) (fields_of s vs methods) (first_depth (deepest body) (deepest_of methods) d, h.0) (known_fields L T s vs methods k (rest_depth (deepest body) (deepest_of methods) d) h.1)
  where
    first_depth : (m n : ℕ) → max m n ≤ 1000 → m ≤ 1000
    first_depth m n l = omega arith

    rest_depth : (m n : ℕ) → max m n ≤ 1000 → n ≤ 1000
    rest_depth m n l = omega arith
known_fields L T (AliasField x y s) (Loc Object o ∷ vs) methods k d h = known_field_before L T x (IsAlias o y) (fields_of s vs methods) k.0 (known_fields L T s vs methods k.1 d h)
known_fields L T _ _ _ k d h = tt

known_new_object : {R : Type 0} (L : Places R) (T : Threads) (flags : Flags) (methods : Parts R) (o : Option (Fields R)) → (deepest_of methods ≤ 1000 → AreKnownIf L T o) → IsKnownFound L T (new_object flags methods o)
known_new_object L T flags methods None h = raises_type L T
known_new_object L T flags methods (Some fields) h =
    found_unless L T (nat_lt CLOSURE_LIMIT (deepest_of methods)) (Next closure_limit) (Needs (New (ObjectCell flags None fields) Itself) []) (raises_closure_limit L T) (λ n. ((h (within 1000 (deepest_of methods) n), tt), tt))

known_make_object : {R : Type 0} (L : Places R) (T : Threads) (flags : Flags) (s : Layout) (vs : List (Value R)) (methods : Parts R) → AllKnown L T vs → AreKnown L T methods → IsKnownFound L T (make_object flags s vs methods)
known_make_object L T flags s vs methods k h =
    found_if L T (twice (layout_names s)) (Next field_twice) (new_object flags methods (fields_of s vs methods)) (raises_field_twice L T) (known_new_object L T flags methods (fields_of s vs methods) (λ d. known_fields L T s vs methods k d h))

abbrev AllObjectsIf : {R : Type 0} → Places R → Option (List R) → Type 0
AllObjectsIf L None = Unit {0}
AllObjectsIf L (Some os) = AllObjects L os

known_object_before : {R : Type 0} (L : Places R) (T : Threads) (v : Value R) (o : Option (List R)) → IsKnownValue L T v → AllObjectsIf L o → AllObjectsIf L (object_before v o)
known_object_before L T (Loc Object o) (Some os) h k = (h, k)
known_object_before L T (Loc Object o) None h k = tt
known_object_before L T (Loc Array o) os h k = tt
known_object_before L T _ os h k = tt

known_objects : {R : Type 0} (L : Places R) (T : Threads) (vs : List (Value R)) → AllKnown L T vs → AllObjectsIf L (objects vs)
known_objects L T [] k = tt
known_objects L T (v ∷ vs) k = known_object_before L T v (objects vs) k.0 (known_objects L T vs k.1)

known_clone : {R : Type 0} (L : Places R) (T : Threads) (o : Option (List R)) → AllObjectsIf L o → IsKnownFound L T (Next (clone o))
known_clone L T None h = raises_type L T
known_clone L T (Some os) h = ((tt, h), tt)

known_replicate : {R : Type 0} (L : Places R) (T : Threads) (n : ℕ) (v : Value R) → IsKnownValue L T v → AllKnown L T (replicate n v)
known_replicate L T zero v h = tt
known_replicate L T (suc n) v h = (h, known_replicate L T n v h)

replicate_length : {R : Type 0} (n : ℕ) (v : Value R) → length (replicate n v) ≡ n
replicate_length zero v = refl
replicate_length (suc n) v = ap suc (replicate_length n v)

known_array : {R : Type 0} (L : Places R) (T : Threads) (z : ℤ) (v : Value R) → IsKnownValue L T v → IsKnownFound L T (array_of_size z v)
known_array L T (pos n) v h =
    found_unless L T (nat_lt ARRAY_LIMIT n) (Next array_limit) (Needs (New (ArrayCell (replicate n v)) Itself) []) (raises_array_limit L T) (λ l. (((subst (λ m. m ≤ 65536) (sym (replicate_length n v)) (within 65536 n l), known_replicate L T n v h), tt), tt))
known_array L T (negsuc n) v h = raises_array_limit L T

known_fork : {R : Type 0} (L : Places R) (T : Threads) (f : Value R) (o : Option (List Bytes)) → IsKnownValue L T f → IsKnownFound L T (fork_of f o)
known_fork L T f None h = raises_type L T
known_fork L T f (Some []) h = (h, tt)
known_fork L T f (Some (x ∷ xs)) h = raises_arity L T

known_part : {R : Type 0} (L : Places R) (T : Threads) (t : Bytes) (a b : ℤ) → IsText T t → IsKnown L T (part t a b)
known_part L T t (pos a) (pos b) h =
    known_if L T (nat_lt (length t) (a + b)) text_range (Const (Text (take b (drop a t)))) (raises_text_range L T) (λ z. let short : length t ≤ 65536 = h z in let le = part_length a b t in omega (arith, short, le))
known_part L T t (pos a) (negsuc b) h = raises_text_range L T
known_part L T t (negsuc a) b h = raises_text_range L T

known_apply : {R : Type 0} (L : Places R) (T : Threads) (b : Builtin) (vs : List (Value R)) → AllKnown L T vs → IsKnownFound L T (apply b vs)
known_apply L T Not (Truth b ∷ []) k = tt
known_apply L T Exception (Text t ∷ []) k = k.0
known_apply L T FmtInt (Int z ∷ []) k = λ b. decimal_short z (k.0 b)
known_apply L T FmtBool (Truth b ∷ []) k = λ z. truth_length b
known_apply L T TextLength (Text t ∷ []) k = λ b. length_int (length t) (k.0 b)
known_apply L T TextSub (Text t ∷ Int start ∷ Int size ∷ []) k = known_part L T t start size k.0
known_apply L T ArrayNew (Int n ∷ v ∷ []) k = known_array L T n v k.1.0
known_apply L T ArraySize (Loc Array a ∷ []) k = (k.0, tt)
known_apply L T PutText (Loc Writer w ∷ Text t ∷ []) k = ((k.0, k.1.0), tt)
known_apply L T NewCondition [] k = ((tt, tt), tt)
known_apply L T SignalOne (Loc Condition c ∷ []) k = (k.0, tt)
known_apply L T SignalAll (Loc Condition c ∷ []) k = (k.0, tt)
known_apply L T Fork (f ∷ []) k = known_fork L T f (params_of f) k.0
known_apply L T JoinThread (Thread t ∷ []) k = (k.0, tt)
known_apply L T NetExport (Text name ∷ Text namer ∷ v ∷ []) k = ((k.0, k.1.1.0), tt)
known_apply L T NetImport (Text name ∷ Text namer ∷ []) k = (k.0, tt)
known_apply L T ExportEngine (Text name ∷ Text namer ∷ v ∷ []) k = ((k.1.1.0, (refl, k.0, k.1.0)), tt)
known_apply L T ImportEngine (Text name ∷ Text namer ∷ []) k = (k.0, tt)
known_apply L T _ _ k = raises_type L T

known_number : {R : Type 0} (L : Places R) (T : Threads) (z : ℤ) → IsKnown L T (number z)
known_number L T z = term_where L T (is_i64 z) (Const (Int z)) int_overflow (λ e b. e) (raises_int_overflow L T)

known_divided : {R : Type 0} (L : Places R) (T : Threads) (f : ℤ → ℤ → ℤ) (a b : ℤ) → IsKnown L T (divided f a b)
known_divided L T f a (pos zero) = raises_int_divide L T
known_divided L T f a (pos (suc n)) = known_number L T (f a (pos (suc n)))
known_divided L T f a (negsuc n) = known_number L T (f a (negsuc n))

known_compared : {R : Type 0} (L : Places R) (T : Threads) (f : Bool → Bool) (o : Option Bool) → IsKnown L T (compared f o)
known_compared L T f None = raises_compare L T
known_compared L T f (Some b) = tt

known_operate : {R : Type 0} (L : Places R) (T : Threads) (eq : R → R → Bool) (op : Operator) (v w : Value R) → IsKnown L T (operate eq op v w)
known_operate L T eq Operator.Add (Int a) (Int b) = known_number L T (a +ℤ b)
known_operate L T eq Operator.Subtract (Int a) (Int b) = known_number L T (a -ℤ b)
known_operate L T eq Operator.Multiply (Int a) (Int b) = known_number L T (a *ℤ b)
known_operate L T eq Operator.Divide (Int a) (Int b) = known_divided L T int_div a b
known_operate L T eq Operator.Remainder (Int a) (Int b) = known_divided L T int_rem a b
known_operate L T eq Operator.Join (Text a) (Text b) = term_unless L T (nat_lt TEXT_LIMIT (length (a ++ b))) text_limit (Const (Text (a ++ b))) (raises_text_limit L T) (λ e z. within 65536 (length (a ++ b)) e)
known_operate L T eq Operator.Less (Int a) (Int b) = tt
known_operate L T eq Operator.LessEqual (Int a) (Int b) = tt
known_operate L T eq Operator.Greater (Int a) (Int b) = tt
known_operate L T eq Operator.GreaterEqual (Int a) (Int b) = tt
known_operate L T eq Operator.Is v w = known_compared L T (λ b. b) (same eq v w)
known_operate L T eq Operator.IsNot v w = known_compared L T not (same eq v w)
known_operate L T eq _ _ _ = raises_type L T

known_counting : {R : Type 0} (L : Places R) (T : Threads) (i n : ℤ) (scope : Term R) → (int_lt n i ≡ false → IsInt T i) → IsInt T n → IsKnown L T scope → IsKnown L T (counting i n scope)
known_counting L T i n scope one last h =
    term_unless L T (int_lt n i) (Const Okay) (Form (Counting i n) (Part (enter (Int i ∷ []) scope) (Part scope End))) tt (λ e. ((one e, last), (known_enter L T (Int i ∷ []) scope (one e, tt) h, (h, tt))))

known_choose : {R : Type 0} (L : Places R) (T : Threads) (e : Bytes) (arms : Parts R) → IsText T e → AreKnown L T arms → IsKnown L T (choose e arms)
known_choose L T e (Part guard (Part block arms)) i h = (i, h)
known_choose L T e (Part block End) i h = (i, h)
known_choose L T e End i h = (i, h)

known_chosen : {R : Type 0} (L : Places R) (T : Threads) (e : Bytes) (v : Value R) (block : Term R) (arms : Parts R) → IsText T e → IsKnown L T block → AreKnown L T arms → IsKnownFound L T (chosen e v block arms)
known_chosen L T e (Exc f) block arms i h k = known_if L T (bytes_eq e f) block (choose e arms) h (known_choose L T e arms i k)
known_chosen L T e _ block arms i h k = raises_type L T

known_tested : {R : Type 0} (L : Places R) (T : Threads) (o c : R) (v : Value R) (guard : Term R) → L Object o → L Condition c → IsKnown L T guard → IsKnownFound L T (tested o c v guard)
known_tested L T o c (Truth true) guard l m h = tt
known_tested L T o c (Truth false) guard l m h = ((l, m, h), tt)
known_tested L T o c _ guard l m h = raises_type L T

known_watching : {R : Type 0} (L : Places R) (T : Threads) (o : Option R) (b : Bool) (c : R) (guard : Term R) → IsKnownSelf L o → L Condition c → IsKnown L T guard → IsKnownFound L T (watching o b c guard)
known_watching L T (Some o) false c guard l m h = ((l, m), (h, (h, tt)))
known_watching L T (Some o) true c guard l m h = raises_not_serialized L T
known_watching L T None b c guard l m h = raises_not_serialized L T

known_cloned : {R : Type 0} (L : Places R) (T : Threads) (flags : Option Flags) (fields : Fields R) (os : List R) → AreKnownFields L T fields → AllObjects L os → IsKnownFound L T (cloned flags fields os)
known_cloned L T flags fields (o ∷ rest) h l = ((l.0, h, l.1), tt)
known_cloned L T None fields [] h l = raises_type L T
known_cloned L T (Some flags) fields [] h l = found_if L T (twice (field_names fields)) (Next field_twice) (Needs (New (ObjectCell flags None fields) Itself) []) (raises_field_twice L T) ((h, tt), tt)

known_out : {R : Type 0} (L : Places R) (T : Threads) (o : R) (m : Mode) (out : Term R) → L Object o → IsKnown L T out → IsKnownFound L T (out_of_method o m out)
known_out L T o Held out l h = ((l, h), tt)
known_out L T o Plain out l h = h
known_out L T o Inner out l h = h

known_row : {R : Type 0} (L : Places R) (T : Threads) (eq : R → R → Bool) (a : ℕ) (s : Self R) (k : Kind R) (vs : List (Value R)) (parts : Parts R) → IsKnownSelf L s.object → IsKnownKind L T k → AllKnown L T vs → AreKnown L T parts → IsKnownFound L T (row eq a s k vs parts)
known_row L T eq a s Empty [] End z l h p = tt
known_row L T eq a s Then (v ∷ []) (Part rest End) z l h p = p.0
known_row L T eq a s Let (v ∷ []) (Part scope End) z l h p = known_enter L T (v ∷ []) scope h p.0
known_row L T eq a s Var (v ∷ []) (Part scope End) z l h p = ((h.0, (refl, p.0)), tt)
known_row L T eq a s LetRec [] (Part (Under names (Form Group (Part rest group))) End) z l h p =
    term_unless L T (nat_lt CLOSURE_LIMIT (deepest_of group)) closure_limit (put_members names group 0 names rest) (raises_closure_limit L T)
    (λ n. known_put_members L T names group 0 names rest (all_names (length names)) (within 1000 (deepest_of group) n) p.0.1.1 p.0.1.0)
known_row L T eq a s Procedure [] (Part (Under params body) End) z l h p = term_unless L T (is_too_deep body) closure_limit (Const (Closure params body)) (raises_closure_limit L T) (λ n. (within 1000 (deepest body) n, p.0))
known_row L T eq a s Assign (v ∷ []) (Part (Form (Read q) End) End) z l h p = ((p.0.0, h.0), tt)
known_row L T eq a s Assign (v ∷ []) (Part target End) z l h p = raises_not_variable L T
known_row L T eq a s If (Truth c ∷ []) (Part block (Part otherwise End)) z l h p = known_if L T c block otherwise p.0 p.1.0
known_row L T eq a s OrIf (Truth c ∷ []) (Part right End) z l h p = known_if L T c (Const (Truth true)) right tt p.0
known_row L T eq a s AndIf (Truth c ∷ []) (Part right End) z l h p = known_if L T c right (Const (Truth false)) p.0 tt
known_row L T eq a s (Operate op) (v ∷ w ∷ []) End z l h p = known_operate L T eq op v w
known_row L T eq a s Call (f ∷ vs) End z l h p = found_if L T (is_callable f && is_call_limit a) (Next call_limit) (call_value f vs) (raises_call_limit L T) (known_call_value L T f vs h.0 h.1)
known_row L T eq a s (Apply q) vs End z l h p = found_if L T (length vs == arity_of_builtin q) (apply q vs) (Next arity) (known_apply L T q vs h) (raises_arity L T)
known_row L T eq a s MakeArray vs End z l h p = found_unless L T (nat_lt ARRAY_LIMIT (length vs)) (Next array_limit) (Needs (New (ArrayCell vs) Itself) []) (raises_array_limit L T) (λ n. (((within 65536 (length vs) n, h), tt), tt))
known_row L T eq a s Index (Loc Array r ∷ Int i ∷ []) End z l h p = (h.0, tt)
known_row L T eq a s SetIndex (Loc Array r ∷ Int i ∷ v ∷ []) End z l h p = ((h.0, h.1.1.0), tt)
known_row L T eq a s (MakeObject flags shape) vs methods z l h p = known_make_object L T flags shape vs methods h p
known_row L T eq a s (Select x) (Loc Object q ∷ []) End z l h p = (h.0, tt)
known_row L T eq a s (Invoke x) (Loc Object q ∷ vs) End z l h p = found_if L T (is_call_limit a) (Next call_limit) (Needs (CallMethod q x vs) []) (raises_call_limit L T) ((h.0, h.1), tt)
known_row L T eq a s (SetValue x) (Loc Object q ∷ v ∷ []) End z l h p = ((h.0, h.1.0), tt)
known_row L T eq a s (SetMethod x) (Loc Object q ∷ []) (Part (Under params body) End) z l h p = found_unless L T (is_too_deep body) (Next closure_limit) (Needs (Set q x (IsMethod params body)) []) (raises_closure_limit L T) (λ n. ((h.0, (within 1000 (deepest body) n, p.0)), tt))
known_row L T eq a s (SetAlias x y) (Loc Object q ∷ Loc Object r ∷ []) End z l h p = ((h.0, h.1.0), tt)
known_row L T eq a s Redirect (Loc Object q ∷ Loc Object r ∷ []) End z l h p = ((h.0, h.1.0), tt)
known_row L T eq a s Clone vs End z l h p = known_clone L T (objects vs) (known_objects L T vs h)
known_row L T eq a s Raise (Exc e ∷ []) End z l h p = (h.0, tt)
known_row L T eq a s Exit [] End z l h p = (tt, tt)
known_row L T eq a s Loop [] (Part body End) z l h p = (tt, (p.0, (p.0, tt)))
known_row L T eq a s For (Int m ∷ Int n ∷ []) (Part scope End) z l h p = known_counting L T m n scope (λ e. h.0) h.1.0 p.0
known_row L T eq a s Foreach (Loc Array r ∷ []) (Part scope End) z l h p = ((h.0, p.0), tt)
known_row L T eq a s Try (v ∷ []) arms z l h p = h.0
known_row L T eq a s Finally (v ∷ []) (Part last End) z l h p = (tt, (p.0, (h.0, tt)))
known_row L T eq a s Watch (Loc Condition c ∷ []) (Part guard End) z l h p = known_watching L T s.object s.plain c guard z h.0 p.0
known_row L T eq a s (Read q) [] End z l h p = (l, tt)
known_row L T eq a s (Raising r) [] End z l h p = l
known_row L T eq a s Called (v ∷ []) End z l h p = h.0
known_row L T eq a s (Within q m) (v ∷ []) End z l h p = known_out L T q m (Const v) l h.0
known_row L T eq a s Looping (v ∷ []) (Part body End) z l h p = (tt, (p.0, (p.0, tt)))
known_row L T eq a s (Counting i n) (v ∷ []) (Part scope End) z l h p = known_counting L T (i +ℤ pos 1) n scope (λ e b. next_int i n (l.0 b) (l.1 b) e) l.1 p.0
known_row L T eq a s (EachAt r i n) [] (Part scope End) z l h p = found_if L T (i == n) (Next (Const Okay)) (Needs (EachItem r i n scope) []) tt ((l, p.0), tt)
known_row L T eq a s (EachIn r i n) (v ∷ []) (Part scope End) z l h p = (l, (p.0, tt))
known_row L T eq a s (Choosing e) (v ∷ []) (Part block arms) z l h p = known_chosen L T e v block arms l p.0 p.1
known_row L T eq a s (Unmet e) [] (Part block End) z l h p = p.0
known_row L T eq a s (Unmet e) [] End z l h p = (l, tt)
known_row L T eq a s Finishing (v ∷ []) (Part kept End) z l h p = p.0
known_row L T eq a s (Cloning flags copied rest) [] End z l h p = known_cloned L T flags copied rest l.0 l.1
known_row L T eq a s (Testing q c) (v ∷ []) (Part guard End) z l h p = known_tested L T q c v guard l.0 l.1 p.0
known_row L T eq a s (Lined q c) [] (Part guard End) z l h p = ((l.0, l.1, p.0), tt)
known_row L T eq a s (Out q c) [] (Part guard End) z l h p = ((l.0, l.1, p.0), tt)
known_row L T eq a s _ _ _ z l h p = raises_type L T

-- ---- the stops

known_loop : {R : Type 0} (L : Places R) (T : Threads) (r : Raised) → IsRaised T r → IsKnownFound L T (out_of_loop r)
known_loop L T ExitUp i = tt
known_loop L T (Exn e) i = (i, tt)

known_try : {R : Type 0} (L : Places R) (T : Threads) (arms : Parts R) (r : Raised) → IsRaised T r → AreKnown L T arms → IsKnownFound L T (out_of_try arms r)
known_try L T arms ExitUp i h = (tt, tt)
known_try L T arms (Exn e) i h = known_choose L T e arms i h

known_raised : {R : Type 0} (L : Places R) (T : Threads) (k : Kind R) (before : List (Value R)) (after : Parts R) (r : Raised) → IsRaised T r → IsKnownKind L T k → AreKnown L T after → IsKnownFound L T (at_raised (Pending k before after) r)
known_raised L T Try before after r e l h = known_try L T after r e h
known_raised L T Finally before after r e l h = (tt, (known_part_at L T after 0 h, ((e, tt), tt)))
known_raised L T Called before after r e l h = (e, tt)
known_raised L T (Within q m) before after r e l h = known_out L T q m (raising r) l (e, tt)
known_raised L T Looping before after r e l h = known_loop L T r e
known_raised L T (Counting i n) before after r e l h = known_loop L T r e
known_raised L T (EachIn q i n) before after r e l h = known_loop L T r e
known_raised L T (Choosing x) before after r e l h = (e, tt)
known_raised L T Finishing before after r e l h = (e, tt)
known_raised L T (Testing q c) before after r e l h = (e, tt)
known_raised L T _ before after r e l h = e

-- ---- the walk

known_before : {R : Type 0} (L : Places R) (T : Threads) (vs : List (Value R)) (parts : Parts R) → AllKnown L T vs → AreKnown L T parts → AreKnown L T (values_before vs parts)
known_before L T [] parts h p = p
known_before L T (v ∷ vs) parts h p = (h.0, known_before L T vs parts h.1 p)

known_through : {R : Type 0} (L : Places R) (T : Threads) (k : Kind R) (before : List (Value R)) (after : Parts R) (g : Value R → Found R) (x : Found R) → IsKnownKind L T k → AllKnown L T before → AreKnown L T after → ((v : Value R) → IsKnownValue L T v → IsKnownFound L T (g v)) → IsKnownFound L T x
    → IsKnownFound L T (through (Pending k before after) g x)
known_through L T k before after g (Next u) l h p n x = (l, known_before L T before (Part u after) h (x, p))
known_through L T k before after g (Needs op fs) l h p n x = (x.0, ((l, h, p), x.1))
known_through L T k before after g (Done v) l h p n x = n v x
known_through L T k before after g (Uncaught r) l h p n x = known_raised L T k before after r x l p

known_more : {R : Type 0} (L : Places R) (T : Threads) (vs : List (Value R)) (v : Value R) → AllKnown L T vs → IsKnownValue L T v → AllKnown L T (vs ++ v ∷ [])
known_more L T [] v h k = (k, tt)
known_more L T (w ∷ vs) v h k = (h.0, known_more L T vs v h.1 k)

known_self_in : {R : Type 0} (L : Places R) (T : Threads) (s : Self R) (k : Kind R) → IsKnownSelf L s.object → IsKnownKind L T k → IsKnownSelf L (self_in s k).object
known_self_in L T s (Within o Plain) z l = l
known_self_in L T s (Within o Held) z l = l
known_self_in L T s (Within o Inner) z l = l
known_self_in L T s k z l = z

known_operand : {R : Type 0} (L : Places R) (T : Threads) (b : Bool) (x y : Found R) → IsKnownFound L T x → IsKnownFound L T y → IsKnownFound L T (elim b as (λ z. Found R) [ true ↦ x | false ↦ y ])
known_operand L T true x y h i = h
known_operand L T false x y h i = i

mutual
  pub known_find : {R : Type 0} (L : Places R) (T : Threads) (eq : R → R → Bool) (a : ℕ) (s : Self R) (t : Term R) → IsKnownSelf L s.object → IsKnown L T t → IsKnownFound L T (find eq a s t)
  known_find L T eq a s (Const v) z h = h
  known_find L T eq a s (Name x) z h = raises_type L T
  known_find L T eq a s (Under names t) z h = raises_type L T
  known_find L T eq a s (Form k parts) z h = known_find_part L T eq a s k [] parts z h.0 tt h.1

  pub known_find_part : {R : Type 0} (L : Places R) (T : Threads) (eq : R → R → Bool) (a : ℕ) (s : Self R) (k : Kind R) (before : List (Value R)) (parts : Parts R) → IsKnownSelf L s.object → IsKnownKind L T k → AllKnown L T before → AreKnown L T parts → IsKnownFound L T (find_part eq a s k before parts)
  known_find_part L T eq a s k before End z l h p = known_row L T eq a s k before End z l h p
  known_find_part L T eq a s k before (Part t after) z l h p =
      known_operand L T (is_operand k (length before)) (through (Pending k before after) (λ v. find_part eq a s k (before ++ v ∷ []) after) (find eq (activations_in a k) (self_in s k) t)) (row eq a s k before (Part t after))
      (known_through L T k before after (λ v. find_part eq a s k (before ++ v ∷ []) after) (find eq (activations_in a k) (self_in s k) t) l h p.1
      (λ v q. known_find_part L T eq a s k (before ++ v ∷ []) after z l (known_more L T before v h q) p.1)
      (known_find L T eq (activations_in a k) (self_in s k) t (known_self_in L T s k z l) p.0))
      (known_row L T eq a s k before (Part t after) z l h p)

-- a known part in the hole of known frames
pub known_plug : {R : Type 0} (L : Places R) (T : Threads) (fs : List (Frame R)) (t : Term R) → AreKnownFrames L T fs → IsKnown L T t → IsKnown L T (plug fs t)
known_plug L T [] t h i = i
known_plug L T (Pending k before after ∷ fs) t h i = (h.0.0, known_before L T before (Part (plug fs t) after) h.0.1 (known_plug L T fs t h.1 i, h.0.2))
