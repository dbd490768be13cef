-- Forms of which all operands are values: updates, and a redirection.
use Rattle.std.specs.Prelude.{Bool, List, None, Option, Some, [], codes, false, if◌then◌else◌, option_map, refl, true, ℕ, ◌∷◌, ◌≡◌}
use Rattle.std.proofs.Common.{ap, ◌∙◌}
use Rattle.obq_model.specs.Exceptions.{raise}
use Rattle.obq_model.specs.Put.{occurrence}
use Rattle.obq_model.specs.Reading.{name_or, read}
use Rattle.obq_model.specs.Scopes.{is_covered}
use Rattle.obq_model.specs.Step.{Next, Self, clone, object_before, objects, row}
use Rattle.obq_model.specs.Terms.{Array, Assign, Bytes, Clone, Condition, Const, End, Engine, Loc, Name, Object, Part, Redirect, SetAlias, SetIndex, SetValue, Variable, Writer}
use Rattle.obq_windows.specs.Moves.{target_value, value_or_okay}
use Rattle.obq_windows.specs.Places.{Place, env_at, outside_at, value_of, writer_at}
use Rattle.obq_windows.specs.Results.{alias_set, assigned, item_set, object_first, objects_in, redirected, value_set}
use Rattle.obq_windows.specs.Trees.{names_at, target_at}
use Rattle.obq_windows.specs.Values.{ClosureValue, ExceptionValue, IntValue, LocationValue, OkayValue, PlainValue, Table, TextValue, ThreadValue, TruthValue, proc_of, read_all, read_value, read_values}
use Rattle.obq_windows.proofs.Results.{ResultIs, closure_cases}

pub item_set_is : {R : Type 0} → (eq : R → R → Bool) (T : Table R) (a : ℕ) (s : Self R) (vs : List (PlainValue R)) → ResultIs T (row eq a s SetIndex (read_all T vs) End) (item_set vs)
item_set_is eq T a s [] = refl
item_set_is eq T a s ((IntValue y) ∷ vs) = refl
item_set_is eq T a s ((TruthValue y) ∷ vs) = refl
item_set_is eq T a s (OkayValue ∷ vs) = refl
item_set_is eq T a s ((TextValue y) ∷ vs) = refl
item_set_is eq T a s ((ExceptionValue y) ∷ vs) = refl
item_set_is eq T a s ((ThreadValue y) ∷ vs) = refl
item_set_is eq T a s ((LocationValue Object y) ∷ vs) = refl
item_set_is eq T a s ((LocationValue Variable y) ∷ vs) = refl
item_set_is eq T a s ((LocationValue Writer y) ∷ vs) = refl
item_set_is eq T a s ((LocationValue Condition y) ∷ vs) = refl
item_set_is eq T a s ((LocationValue Engine y) ∷ vs) = refl
item_set_is eq T a s ((ClosureValue ty cy gy iy csy) ∷ vs) = closure_cases T (read_values T csy) (proc_of T gy iy) (λ f. row eq a s SetIndex (f ∷ read_all T vs) End ≡ Next (raise (codes "type"))) (λ params body. refl) (λ names G i. refl)
item_set_is eq T a s ((LocationValue Array r0) ∷ []) = refl
item_set_is eq T a s ((LocationValue Array r0) ∷ (TruthValue y) ∷ vs) = refl
item_set_is eq T a s ((LocationValue Array r0) ∷ OkayValue ∷ vs) = refl
item_set_is eq T a s ((LocationValue Array r0) ∷ (TextValue y) ∷ vs) = refl
item_set_is eq T a s ((LocationValue Array r0) ∷ (ExceptionValue y) ∷ vs) = refl
item_set_is eq T a s ((LocationValue Array r0) ∷ (ThreadValue y) ∷ vs) = refl
item_set_is eq T a s ((LocationValue Array r0) ∷ (LocationValue Object y) ∷ vs) = refl
item_set_is eq T a s ((LocationValue Array r0) ∷ (LocationValue Array y) ∷ vs) = refl
item_set_is eq T a s ((LocationValue Array r0) ∷ (LocationValue Variable y) ∷ vs) = refl
item_set_is eq T a s ((LocationValue Array r0) ∷ (LocationValue Writer y) ∷ vs) = refl
item_set_is eq T a s ((LocationValue Array r0) ∷ (LocationValue Condition y) ∷ vs) = refl
item_set_is eq T a s ((LocationValue Array r0) ∷ (LocationValue Engine y) ∷ vs) = refl
item_set_is eq T a s ((LocationValue Array r0) ∷ (ClosureValue ty cy gy iy csy) ∷ vs) = closure_cases T (read_values T csy) (proc_of T gy iy) (λ f. row eq a s SetIndex (read_value T (LocationValue Array r0) ∷ f ∷ read_all T vs) End ≡ Next (raise (codes "type"))) (λ params body. refl) (λ names G i. refl)
item_set_is eq T a s ((LocationValue Array r0) ∷ (IntValue i1) ∷ []) = refl
item_set_is eq T a s ((LocationValue Array r0) ∷ (IntValue i1) ∷ v2 ∷ []) = refl
item_set_is eq T a s ((LocationValue Array r0) ∷ (IntValue i1) ∷ v2 ∷ z ∷ vs) = refl

pub value_set_is : {R : Type 0} → (eq : R → R → Bool) (T : Table R) (a : ℕ) (s : Self R) (x : Bytes) (vs : List (PlainValue R)) → ResultIs T (row eq a s (SetValue x) (read_all T vs) End) (value_set x vs)
value_set_is eq T a s x [] = refl
value_set_is eq T a s x ((IntValue y) ∷ vs) = refl
value_set_is eq T a s x ((TruthValue y) ∷ vs) = refl
value_set_is eq T a s x (OkayValue ∷ vs) = refl
value_set_is eq T a s x ((TextValue y) ∷ vs) = refl
value_set_is eq T a s x ((ExceptionValue y) ∷ vs) = refl
value_set_is eq T a s x ((ThreadValue y) ∷ vs) = refl
value_set_is eq T a s x ((LocationValue Array y) ∷ vs) = refl
value_set_is eq T a s x ((LocationValue Variable y) ∷ vs) = refl
value_set_is eq T a s x ((LocationValue Writer y) ∷ vs) = refl
value_set_is eq T a s x ((LocationValue Condition y) ∷ vs) = refl
value_set_is eq T a s x ((LocationValue Engine y) ∷ vs) = refl
value_set_is eq T a s x ((ClosureValue ty cy gy iy csy) ∷ vs) = closure_cases T (read_values T csy) (proc_of T gy iy) (λ f. row eq a s (SetValue x) (f ∷ read_all T vs) End ≡ Next (raise (codes "type"))) (λ params body. refl) (λ names G i. refl)
value_set_is eq T a s x ((LocationValue Object r0) ∷ []) = refl
value_set_is eq T a s x ((LocationValue Object r0) ∷ v1 ∷ []) = refl
value_set_is eq T a s x ((LocationValue Object r0) ∷ v1 ∷ z ∷ vs) = refl

pub alias_set_is : {R : Type 0} → (eq : R → R → Bool) (T : Table R) (a : ℕ) (s : Self R) (x y : Bytes) (vs : List (PlainValue R)) → ResultIs T (row eq a s (SetAlias x y) (read_all T vs) End) (alias_set x y vs)
alias_set_is eq T a s x other [] = refl
alias_set_is eq T a s x other ((IntValue y) ∷ vs) = refl
alias_set_is eq T a s x other ((TruthValue y) ∷ vs) = refl
alias_set_is eq T a s x other (OkayValue ∷ vs) = refl
alias_set_is eq T a s x other ((TextValue y) ∷ vs) = refl
alias_set_is eq T a s x other ((ExceptionValue y) ∷ vs) = refl
alias_set_is eq T a s x other ((ThreadValue y) ∷ vs) = refl
alias_set_is eq T a s x other ((LocationValue Array y) ∷ vs) = refl
alias_set_is eq T a s x other ((LocationValue Variable y) ∷ vs) = refl
alias_set_is eq T a s x other ((LocationValue Writer y) ∷ vs) = refl
alias_set_is eq T a s x other ((LocationValue Condition y) ∷ vs) = refl
alias_set_is eq T a s x other ((LocationValue Engine y) ∷ vs) = refl
alias_set_is eq T a s x other ((ClosureValue ty cy gy iy csy) ∷ vs) = closure_cases T (read_values T csy) (proc_of T gy iy) (λ f. row eq a s (SetAlias x other) (f ∷ read_all T vs) End ≡ Next (raise (codes "type"))) (λ params body. refl) (λ names G i. refl)
alias_set_is eq T a s x other ((LocationValue Object r0) ∷ []) = refl
alias_set_is eq T a s x other ((LocationValue Object r0) ∷ (IntValue y) ∷ vs) = refl
alias_set_is eq T a s x other ((LocationValue Object r0) ∷ (TruthValue y) ∷ vs) = refl
alias_set_is eq T a s x other ((LocationValue Object r0) ∷ OkayValue ∷ vs) = refl
alias_set_is eq T a s x other ((LocationValue Object r0) ∷ (TextValue y) ∷ vs) = refl
alias_set_is eq T a s x other ((LocationValue Object r0) ∷ (ExceptionValue y) ∷ vs) = refl
alias_set_is eq T a s x other ((LocationValue Object r0) ∷ (ThreadValue y) ∷ vs) = refl
alias_set_is eq T a s x other ((LocationValue Object r0) ∷ (LocationValue Array y) ∷ vs) = refl
alias_set_is eq T a s x other ((LocationValue Object r0) ∷ (LocationValue Variable y) ∷ vs) = refl
alias_set_is eq T a s x other ((LocationValue Object r0) ∷ (LocationValue Writer y) ∷ vs) = refl
alias_set_is eq T a s x other ((LocationValue Object r0) ∷ (LocationValue Condition y) ∷ vs) = refl
alias_set_is eq T a s x other ((LocationValue Object r0) ∷ (LocationValue Engine y) ∷ vs) = refl
alias_set_is eq T a s x other ((LocationValue Object r0) ∷ (ClosureValue ty cy gy iy csy) ∷ vs) = closure_cases T (read_values T csy) (proc_of T gy iy) (λ f. row eq a s (SetAlias x other) (read_value T (LocationValue Object r0) ∷ f ∷ read_all T vs) End ≡ Next (raise (codes "type"))) (λ params body. refl) (λ names G i. refl)
alias_set_is eq T a s x other ((LocationValue Object r0) ∷ (LocationValue Object r1) ∷ []) = refl
alias_set_is eq T a s x other ((LocationValue Object r0) ∷ (LocationValue Object r1) ∷ z ∷ vs) = refl

pub redirected_is : {R : Type 0} → (eq : R → R → Bool) (T : Table R) (a : ℕ) (s : Self R) (vs : List (PlainValue R)) → ResultIs T (row eq a s Redirect (read_all T vs) End) (redirected vs)
redirected_is eq T a s [] = refl
redirected_is eq T a s ((IntValue y) ∷ vs) = refl
redirected_is eq T a s ((TruthValue y) ∷ vs) = refl
redirected_is eq T a s (OkayValue ∷ vs) = refl
redirected_is eq T a s ((TextValue y) ∷ vs) = refl
redirected_is eq T a s ((ExceptionValue y) ∷ vs) = refl
redirected_is eq T a s ((ThreadValue y) ∷ vs) = refl
redirected_is eq T a s ((LocationValue Array y) ∷ vs) = refl
redirected_is eq T a s ((LocationValue Variable y) ∷ vs) = refl
redirected_is eq T a s ((LocationValue Writer y) ∷ vs) = refl
redirected_is eq T a s ((LocationValue Condition y) ∷ vs) = refl
redirected_is eq T a s ((LocationValue Engine y) ∷ vs) = refl
redirected_is eq T a s ((ClosureValue ty cy gy iy csy) ∷ vs) = closure_cases T (read_values T csy) (proc_of T gy iy) (λ f. row eq a s Redirect (f ∷ read_all T vs) End ≡ Next (raise (codes "type"))) (λ params body. refl) (λ names G i. refl)
redirected_is eq T a s ((LocationValue Object r0) ∷ []) = refl
redirected_is eq T a s ((LocationValue Object r0) ∷ (IntValue y) ∷ vs) = refl
redirected_is eq T a s ((LocationValue Object r0) ∷ (TruthValue y) ∷ vs) = refl
redirected_is eq T a s ((LocationValue Object r0) ∷ OkayValue ∷ vs) = refl
redirected_is eq T a s ((LocationValue Object r0) ∷ (TextValue y) ∷ vs) = refl
redirected_is eq T a s ((LocationValue Object r0) ∷ (ExceptionValue y) ∷ vs) = refl
redirected_is eq T a s ((LocationValue Object r0) ∷ (ThreadValue y) ∷ vs) = refl
redirected_is eq T a s ((LocationValue Object r0) ∷ (LocationValue Array y) ∷ vs) = refl
redirected_is eq T a s ((LocationValue Object r0) ∷ (LocationValue Variable y) ∷ vs) = refl
redirected_is eq T a s ((LocationValue Object r0) ∷ (LocationValue Writer y) ∷ vs) = refl
redirected_is eq T a s ((LocationValue Object r0) ∷ (LocationValue Condition y) ∷ vs) = refl
redirected_is eq T a s ((LocationValue Object r0) ∷ (LocationValue Engine y) ∷ vs) = refl
redirected_is eq T a s ((LocationValue Object r0) ∷ (ClosureValue ty cy gy iy csy) ∷ vs) = closure_cases T (read_values T csy) (proc_of T gy iy) (λ f. row eq a s Redirect (read_value T (LocationValue Object r0) ∷ f ∷ read_all T vs) End ≡ Next (raise (codes "type"))) (λ params body. refl) (λ names G i. refl)
redirected_is eq T a s ((LocationValue Object r0) ∷ (LocationValue Object r1) ∷ []) = refl
redirected_is eq T a s ((LocationValue Object r0) ∷ (LocationValue Object r1) ∷ z ∷ vs) = refl

-- the objects of a clone
object_read : {R : Type 0} → (T : Table R) (v : PlainValue R) (os : Option (List R)) → object_before (read_value T v) os ≡ object_first v os
object_read T (LocationValue Object o) None = refl
object_read T (LocationValue Object o) (Some os) = refl
object_read T (IntValue y) os = refl
object_read T (TruthValue y) os = refl
object_read T OkayValue os = refl
object_read T (TextValue y) os = refl
object_read T (ExceptionValue y) os = refl
object_read T (ThreadValue y) os = refl
object_read T (LocationValue Array y) os = refl
object_read T (LocationValue Variable y) os = refl
object_read T (LocationValue Writer y) os = refl
object_read T (LocationValue Condition y) os = refl
object_read T (LocationValue Engine y) os = refl
object_read {R} T (ClosureValue ty cy gy iy csy) os = closure_cases T (read_values T csy) (proc_of T gy iy) (λ f. object_before f os ≡ None) (λ params body. refl) (λ names G i. refl)

pub objects_read : {R : Type 0} → (T : Table R) (vs : List (PlainValue R)) → objects (read_all T vs) ≡ objects_in vs
objects_read T [] = refl
objects_read T (v ∷ vs) = ap (object_before (read_value T v)) (objects_read T vs) ∙ object_read T v (objects_in vs)

pub cloned_is : {R : Type 0} → (eq : R → R → Bool) (T : Table R) (a : ℕ) (s : Self R) (vs : List (PlainValue R)) → row eq a s Clone (read_all T vs) End ≡ Next (clone (objects_in vs))
cloned_is eq T a s vs = ap (λ (o : Option (List _)). Next (clone o)) (objects_read T vs)

-- an assignment to what stands at the name
assigned_is : {R : Type 0} → (eq : R → R → Bool) (T : Table R) (a : ℕ) (s : Self R) (u v : PlainValue R) → ResultIs T (row eq a s Assign (read_value T v ∷ []) (Part (occurrence (read_value T u)) End)) (assigned u v)
assigned_is eq T a s (IntValue y) v = refl
assigned_is eq T a s (TruthValue y) v = refl
assigned_is eq T a s OkayValue v = refl
assigned_is eq T a s (TextValue y) v = refl
assigned_is eq T a s (ExceptionValue y) v = refl
assigned_is eq T a s (ThreadValue y) v = refl
assigned_is eq T a s (LocationValue Object y) v = refl
assigned_is eq T a s (LocationValue Array y) v = refl
assigned_is eq T a s (LocationValue Variable y) v = refl
assigned_is eq T a s (LocationValue Writer y) v = refl
assigned_is eq T a s (LocationValue Condition y) v = refl
assigned_is eq T a s (LocationValue Engine y) v = refl
assigned_is eq T a s (ClosureValue ty cy gy iy csy) v = closure_cases T (read_values T csy) (proc_of T gy iy) (λ f. row eq a s Assign (read_value T v ∷ []) (Part (occurrence f) End) ≡ Next (raise (codes "not_var"))) (λ params body. refl) (λ names G i. refl)

pub target_is : {R : Type 0} → (eq : R → R → Bool) (T : Table R) (a : ℕ) (s : Self R) (p : Place R) (x : Bytes) (v : PlainValue R) → ResultIs T (row eq a s Assign (read_value T v ∷ []) (Part (target_at T p x) End)) (assigned (target_value T p x) v)
target_is {R} eq T a s p x v = at (is_covered (outside_at T p) (names_at p) x) where
  by_value : (o : Option (PlainValue R)) → ResultIs T (row eq a s Assign (read_value T v ∷ []) (Part (name_or x (option_map (read_value T) o)) End)) (assigned (value_or_okay o) v)
  by_value None = refl
  by_value (Some u) = assigned_is eq T a s u v

  at : (c : Bool) → ResultIs T (row eq a s Assign (read_value T v ∷ []) (Part (read (env_at T p) (if c then Name x else Const (Loc Writer (writer_at T p)))) End)) (assigned (if c then value_or_okay (value_of T p x) else LocationValue Writer (writer_at T p)) v)
  at true = by_value (value_of T p x)
  at false = refl
