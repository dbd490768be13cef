-- A part that begins to run, and calls whose arguments are there.
use Rattle.std.specs.Prelude.{Bool, List, None, Option, Some, [], codes, false, if◌then◌else◌, length, nat_lt, refl, slice_get, true, ℕ, ◌&&◌, ◌==◌, ◌∷◌, ◌≡◌}
use Rattle.std.proofs.Common.{ap, subst, sym, ◌∙◌}
use Rattle.obq_base.specs.Tree.{ASuffix, AnExpr, ExprTrees, NoExprs, NoSuffixes, SuffixTrees}
use Rattle.obq_base.specs.declared.code.CodeNo.{CodeNo}
use Rattle.obq_base.specs.declared.limits.TheConstants.{ARRAY_LIMIT}
use Rattle.obq_model.specs.Builtins.{arity_of_builtin}
use Rattle.obq_model.specs.Exceptions.{arity, array_limit, call_limit, raise}
use Rattle.obq_model.specs.Opened.{builtin_at}
use Rattle.obq_model.specs.Step.{CallMethod, Found, Itself, Needs, New, Next, Self, activations_at, apply, call, call_value, clone, fill, is_call_limit, plug, row, self_at, values_before}
use Rattle.obq_model.specs.Store.{ArrayCell}
use Rattle.obq_model.specs.Terms.{Apply, Array, Bytes, Call, Clone, Condition, End, Engine, Form, Index, Invoke, MakeArray, Object, Part, Parts, Redirect, SetAlias, SetIndex, SetValue, Term, Variable, Writer}
use Rattle.obq_model.proofs.Plug.{operands}
use Rattle.obq_windows.specs.Meanings.{Moves}
use Rattle.obq_windows.specs.Moves.{begin_args, call_code, call_plain, clone_tree, count_activations, finish_args, tree_result, with_suffixes}
use Rattle.obq_windows.specs.Places.{Place}
use Rattle.obq_windows.specs.Results.{Does, Gives, PlainResult, Raises, alias_set, applied, array_made, indexed, invoked, item_set, objects_in, redirected, value_set}
use Rattle.obq_windows.specs.Trees.{Callee, ExprTask, PendingArguments, PlainCloning, PlainInvoke, PlainNewArray, PlainRunEngine, Silent, Stepped, ToArray, ToBuiltin, ToCall, ToClone, ToIndex, ToInvoke, ToRedirect, ToSetAlias, ToSetIndex, ToSetValue, TreeAct, TreeFrame, TreeHere, TreeMoved, TreeRun, TreeValue, callee_frame, expr_at, exprs_at, frames_of, push, tree_moved, tree_raises}
use Rattle.obq_windows.specs.Values.{ClosureValue, ExceptionValue, IntValue, IsMadeTable, LocationValue, OkayValue, PlainValue, Table, TextValue, ThreadValue, TruthValue, closure_of, proc_named, proc_of, read_all, read_value, read_values, tree_params}
use Rattle.obq_windows.proofs.Acts.{act_from}
use Rattle.obq_windows.proofs.Around.{asks, found_in, pushed, silent, to_here}
use Rattle.obq_windows.proofs.BuiltIns.{applied_is}
use Rattle.obq_windows.proofs.Calls.{callable, entered_right, length_read}
use Rattle.obq_windows.proofs.Counts.{counted}
use Rattle.obq_windows.proofs.Results.{ResultIs, closure_cases}
use Rattle.obq_windows.proofs.Updates.{alias_set_is, cloned_is, item_set_is, redirected_is, value_set_is}

-- the same of a term that is spelled in another way
pub of_term : {R : Type 0} → (eq : R → R → Bool) (T : Table R) (a : ℕ) (s : Self R) (t u : Term R) (m : TreeMoved R) → t ≡ u → Moves eq T a s u m → Moves eq T a s t m
of_term {R} eq T a s t u m e h = subst (λ (z : Term R). Moves eq T a s z m) (sym e) h

-- ---- calls

engine_arity : {R : Type 0} → (eq : R → R → Bool) (T : Table R) (a : ℕ) (s : Self R) (fs : List (TreeFrame R)) (t : Term R) → found_in eq T a s fs t ≡ (if is_call_limit (activations_at a (frames_of T fs)) then Next call_limit else Next arity)
    → Moves eq T a s (plug (frames_of T fs) t) (if is_call_limit (count_activations a fs) then tree_moved Stepped fs (tree_raises (codes "call_limit")) else tree_moved Stepped fs (tree_raises (codes "arity")))
engine_arity {R} eq T a s fs t h = at (is_call_limit (count_activations a fs)) refl where
  found : (b : Bool) → is_call_limit (count_activations a fs) ≡ b → found_in eq T a s fs t ≡ (if b then Next call_limit else Next arity)
  found b e = h ∙ ap (λ (n : ℕ). if is_call_limit n then Next call_limit else Next arity) (counted T a fs) ∙ ap (λ (c : Bool). if c then Next call_limit else Next arity) e

  at : (b : Bool) → is_call_limit (count_activations a fs) ≡ b → Moves eq T a s (plug (frames_of T fs) t) (if b then tree_moved Stepped fs (tree_raises (codes "call_limit")) else tree_moved Stepped fs (tree_raises (codes "arity")))
  at true e = to_here eq T a s fs t (tree_raises (codes "call_limit")) (found true e)
  at false e = to_here eq T a s fs t (tree_raises (codes "arity")) (found false e)

pub call_right : {R : Type 0} → (eq : R → R → Bool) (T : Table R) (a : ℕ) (s : Self R) → IsMadeTable T → (fs : List (TreeFrame R)) (t : Term R) (f : PlainValue R) (p : Place R) (vs : List (PlainValue R))
    → found_in eq T a s fs t ≡ call (activations_at a (frames_of T fs)) (read_value T f) (read_all T vs) → Moves eq T a s (plug (frames_of T fs) t) (call_plain T (count_activations a fs) f p vs fs)
call_right {R} eq T a s w fs t (ClosureValue thread count group index cs) p vs h = at (is_call_limit (count_activations a fs)) refl where
  found : (b : Bool) → is_call_limit (count_activations a fs) ≡ b → found_in eq T a s fs t ≡ (if b then Next call_limit else call_value (closure_of T (read_values T cs) (proc_of T group index)) (read_all T vs))
  found b e =
      h ∙ ap (λ (c : Bool). if c && is_call_limit (activations_at a (frames_of T fs)) then Next call_limit else call_value (closure_of T (read_values T cs) (proc_of T group index)) (read_all T vs)) (callable T (read_values T cs) (proc_of T group index))
      ∙ ap (λ (n : ℕ). if is_call_limit n then Next call_limit else call_value (closure_of T (read_values T cs) (proc_of T group index)) (read_all T vs)) (counted T a fs)
      ∙ ap (λ (c : Bool). if c then Next call_limit else call_value (closure_of T (read_values T cs) (proc_of T group index)) (read_all T vs)) e

  by_code : (o : Option CodeNo) → found_in eq T a s fs t ≡ call_value (closure_of T (read_values T cs) (proc_named T o)) (read_all T vs) → Moves eq T a s (plug (frames_of T fs) t) (call_code T thread count group cs o p vs fs)
  by_code None e = to_here eq T a s fs t (tree_raises (codes "type")) e
  by_code (Some number) e = entered_right eq T a s fs t thread count group number cs p vs w (T.procs number) refl e

  at : (b : Bool) → is_call_limit (count_activations a fs) ≡ b → Moves eq T a s (plug (frames_of T fs) t) (if b then tree_moved Stepped fs (tree_raises (codes "call_limit")) else call_code T thread count group cs (slice_get group index) p vs fs)
  at true e = to_here eq T a s fs t (tree_raises (codes "call_limit")) (found true e)
  at false e = by_code (slice_get group index) (found false e)
call_right {R} eq T a s w fs t (LocationValue Engine e) p [] h = engine_arity eq T a s fs t h
call_right eq T a s w fs t (LocationValue Engine e) p (f ∷ []) h = act_from eq T w a s fs t (PlainRunEngine e f) TreeHere h
call_right {R} eq T a s w fs t (LocationValue Engine e) p (f ∷ z ∷ vs) h = engine_arity eq T a s fs t h
call_right eq T a s w fs t (LocationValue Object e) p vs h = to_here eq T a s fs t (tree_raises (codes "type")) h
call_right eq T a s w fs t (LocationValue Array e) p vs h = to_here eq T a s fs t (tree_raises (codes "type")) h
call_right eq T a s w fs t (LocationValue Variable e) p vs h = to_here eq T a s fs t (tree_raises (codes "type")) h
call_right eq T a s w fs t (LocationValue Writer e) p vs h = to_here eq T a s fs t (tree_raises (codes "type")) h
call_right eq T a s w fs t (LocationValue Condition e) p vs h = to_here eq T a s fs t (tree_raises (codes "type")) h
call_right eq T a s w fs t (IntValue z) p vs h = to_here eq T a s fs t (tree_raises (codes "type")) h
call_right eq T a s w fs t (TruthValue b) p vs h = to_here eq T a s fs t (tree_raises (codes "type")) h
call_right eq T a s w fs t OkayValue p vs h = to_here eq T a s fs t (tree_raises (codes "type")) h
call_right eq T a s w fs t (TextValue b) p vs h = to_here eq T a s fs t (tree_raises (codes "type")) h
call_right eq T a s w fs t (ExceptionValue b) p vs h = to_here eq T a s fs t (tree_raises (codes "type")) h
call_right eq T a s w fs t (ThreadValue n) p vs h = to_here eq T a s fs t (tree_raises (codes "type")) h

pub result_right : {R : Type 0} → (eq : R → R → Bool) (T : Table R) (a : ℕ) (s : Self R) (fs : List (TreeFrame R)) (t : Term R) (found : Found R) (r : PlainResult R) → found_in eq T a s fs t ≡ found → ResultIs T found r → Moves eq T a s (plug (frames_of T fs) t) (tree_result r fs)
result_right eq T a s fs t found (Gives v) e h = to_here eq T a s fs t (TreeValue v) (e ∙ h)
result_right eq T a s fs t found (Raises x) e h = to_here eq T a s fs t (tree_raises x) (e ∙ h)
result_right eq T a s fs t found (Does op) e h = asks eq T a s fs t op TreeHere (e ∙ h)

-- a call's form, whose first arguments are values
abbrev pub callee_form : {R : Type 0} → Table R → Callee R → List (PlainValue R) → Parts R → Term R
callee_form T (ToCall f) done after = Form Call (values_before (read_value T f ∷ read_all T done) after)
callee_form T (ToBuiltin row) done after = Form (Apply (builtin_at row)) (values_before (read_all T done) after)
callee_form T ToArray done after = Form MakeArray (values_before (read_all T done) after)
callee_form T ToIndex done after = Form Index (values_before (read_all T done) after)
callee_form T ToClone done after = Form Clone (values_before (read_all T done) after)
callee_form T ToSetIndex done after = Form SetIndex (values_before (read_all T done) after)
callee_form T (ToSetValue x) done after = Form (SetValue x) (values_before (read_all T done) after)
callee_form T (ToSetAlias x y) done after = Form (SetAlias x y) (values_before (read_all T done) after)
callee_form T ToRedirect done after = Form Redirect (values_before (read_all T done) after)
callee_form T (ToInvoke x) done after = Form (Invoke x) (values_before (read_all T done) after)

array_made_is : {R : Type 0} → (eq : R → R → Bool) (T : Table R) (a : ℕ) (s : Self R) (vs : List (PlainValue R)) → ResultIs T (row eq a s MakeArray (read_all T vs) End) (array_made vs)
array_made_is {R} eq T a s vs = subst (λ (n : ℕ). ResultIs T (if nat_lt ARRAY_LIMIT n then Next array_limit else Needs (New (ArrayCell (read_all T vs)) Itself) []) (array_made vs)) (sym (length_read T vs)) (at (nat_lt ARRAY_LIMIT (length vs))) where
  at : (b : Bool) → ResultIs T (if b then Next array_limit else Needs (New (ArrayCell (read_all T vs)) Itself) []) (if b then Raises (codes "array_limit") else Does (PlainNewArray vs))
  at true = refl
  at false = refl

indexed_is : {R : Type 0} → (eq : R → R → Bool) (T : Table R) (a : ℕ) (s : Self R) (vs : List (PlainValue R)) → ResultIs T (row eq a s Index (read_all T vs) End) (indexed vs)
indexed_is eq T a s [] = refl
indexed_is eq T a s ((IntValue y) ∷ vs) = refl
indexed_is eq T a s ((TruthValue y) ∷ vs) = refl
indexed_is eq T a s (OkayValue ∷ vs) = refl
indexed_is eq T a s ((TextValue y) ∷ vs) = refl
indexed_is eq T a s ((ExceptionValue y) ∷ vs) = refl
indexed_is eq T a s ((ThreadValue y) ∷ vs) = refl
indexed_is eq T a s ((ClosureValue ty cy gy iy csy) ∷ vs) = closure_cases T (read_values T csy) (proc_of T gy iy) (λ f. row eq a s Index (f ∷ read_all T vs) End ≡ Next (raise (codes "type"))) (λ params body. refl) (λ names G i. refl)
indexed_is eq T a s ((LocationValue Object y) ∷ vs) = refl
indexed_is eq T a s ((LocationValue Variable y) ∷ vs) = refl
indexed_is eq T a s ((LocationValue Writer y) ∷ vs) = refl
indexed_is eq T a s ((LocationValue Condition y) ∷ vs) = refl
indexed_is eq T a s ((LocationValue Engine y) ∷ vs) = refl
indexed_is eq T a s (LocationValue Array r ∷ []) = refl
indexed_is eq T a s (LocationValue Array r ∷ IntValue i ∷ []) = refl
indexed_is eq T a s (LocationValue Array r ∷ IntValue i ∷ v ∷ vs) = refl
indexed_is eq T a s (LocationValue Array r ∷ (TruthValue y) ∷ vs) = refl
indexed_is eq T a s (LocationValue Array r ∷ OkayValue ∷ vs) = refl
indexed_is eq T a s (LocationValue Array r ∷ (TextValue y) ∷ vs) = refl
indexed_is eq T a s (LocationValue Array r ∷ (ExceptionValue y) ∷ vs) = refl
indexed_is eq T a s (LocationValue Array r ∷ (ThreadValue y) ∷ vs) = refl
indexed_is eq T a s (LocationValue Array r ∷ (ClosureValue ty cy gy iy csy) ∷ vs) = closure_cases T (read_values T csy) (proc_of T gy iy) (λ f. row eq a s Index (read_value T (LocationValue Array r) ∷ f ∷ read_all T vs) End ≡ Next (raise (codes "type"))) (λ params body. refl) (λ names G i. refl)
indexed_is eq T a s (LocationValue Array r ∷ (LocationValue Object y) ∷ vs) = refl
indexed_is eq T a s (LocationValue Array r ∷ (LocationValue Array y) ∷ vs) = refl
indexed_is eq T a s (LocationValue Array r ∷ (LocationValue Variable y) ∷ vs) = refl
indexed_is eq T a s (LocationValue Array r ∷ (LocationValue Writer y) ∷ vs) = refl
indexed_is eq T a s (LocationValue Array r ∷ (LocationValue Condition y) ∷ vs) = refl
indexed_is eq T a s (LocationValue Array r ∷ (LocationValue Engine y) ∷ vs) = refl

invoked_is : {R : Type 0} → (eq : R → R → Bool) (T : Table R) (a : ℕ) (s : Self R) (x : Bytes) (vs : List (PlainValue R)) → ResultIs T (row eq a s (Invoke x) (read_all T vs) End) (invoked a x vs)
invoked_is eq T a s x [] = refl
invoked_is eq T a s x ((IntValue y) ∷ vs) = refl
invoked_is eq T a s x ((TruthValue y) ∷ vs) = refl
invoked_is eq T a s x (OkayValue ∷ vs) = refl
invoked_is eq T a s x ((TextValue y) ∷ vs) = refl
invoked_is eq T a s x ((ExceptionValue y) ∷ vs) = refl
invoked_is eq T a s x ((ThreadValue y) ∷ vs) = refl
invoked_is eq T a s x ((ClosureValue ty cy gy iy csy) ∷ vs) = closure_cases T (read_values T csy) (proc_of T gy iy) (λ f. row eq a s (Invoke x) (f ∷ read_all T vs) End ≡ Next (raise (codes "type"))) (λ params body. refl) (λ names G i. refl)
invoked_is eq T a s x ((LocationValue Array y) ∷ vs) = refl
invoked_is eq T a s x ((LocationValue Variable y) ∷ vs) = refl
invoked_is eq T a s x ((LocationValue Writer y) ∷ vs) = refl
invoked_is eq T a s x ((LocationValue Condition y) ∷ vs) = refl
invoked_is eq T a s x ((LocationValue Engine y) ∷ vs) = refl
invoked_is {R} eq T a s x (LocationValue Object o ∷ vs) = at (is_call_limit a) where
  at : (b : Bool) → ResultIs T (if b then Next call_limit else Needs (CallMethod o x (read_all T vs)) []) (if b then Raises (codes "call_limit") else Does (PlainInvoke o x vs))
  at true = refl
  at false = refl

clone_right : {R : Type 0} → (eq : R → R → Bool) (T : Table R) (a : ℕ) (s : Self R) (fs : List (TreeFrame R)) (t : Term R) (o : Option (List R)) → found_in eq T a s fs t ≡ Next (clone o) → Moves eq T a s (plug (frames_of T fs) t) (clone_tree o fs)
clone_right eq T a s fs t None h = to_here eq T a s fs t (tree_raises (codes "type")) h
clone_right eq T a s fs t (Some os) h = to_here eq T a s fs t (TreeAct (PlainCloning None [] os) TreeHere) h

finish_right : {R : Type 0} → (eq : R → R → Bool) (T : Table R) (a : ℕ) (s : Self R) → IsMadeTable T → (fs : List (TreeFrame R)) (callee : Callee R) (p : Place R) (vs : List (PlainValue R)) → Moves eq T a s (plug (frames_of T fs) (callee_form T callee vs End)) (finish_args T (count_activations a fs) callee p vs fs)
finish_right eq T a s w fs (ToCall f) p vs =
    call_right eq T a s w fs _ f p vs (operands eq (activations_at a (frames_of T fs)) (self_at s (frames_of T fs)) Call [] (read_value T f ∷ read_all T vs) End (λ i l. refl))
finish_right {R} eq T a s w fs (ToBuiltin r) p vs = at (length vs == arity_of_builtin (builtin_at r)) refl where
  t : Term R
  t = Form (Apply (builtin_at r)) (values_before (read_all T vs) End)

  found : (b : Bool) → (length vs == arity_of_builtin (builtin_at r)) ≡ b → found_in eq T a s fs (Form (Apply (builtin_at r)) (values_before (read_all T vs) End)) ≡ (if b then apply (builtin_at r) (read_all T vs) else Next arity)
  found b e =
      operands eq (activations_at a (frames_of T fs)) (self_at s (frames_of T fs)) (Apply (builtin_at r)) [] (read_all T vs) End (λ i l. refl)
      ∙ ap (λ (n : ℕ). if n == arity_of_builtin (builtin_at r) then apply (builtin_at r) (read_all T vs) else Next arity) (length_read T vs)
      ∙ ap (λ (c : Bool). if c then apply (builtin_at r) (read_all T vs) else Next arity) e

  at : (b : Bool) → (length vs == arity_of_builtin (builtin_at r)) ≡ b
      → Moves eq T a s (plug (frames_of T fs) (Form (Apply (builtin_at r)) (values_before (read_all T vs) End))) (if b then tree_result (applied (tree_params T) (builtin_at r) vs) fs else tree_moved Stepped fs (tree_raises (codes "arity")))
  at true e = result_right eq T a s fs _ _ (applied (tree_params T) (builtin_at r) vs) (found true e) (applied_is T w (builtin_at r) vs e)
  at false e = to_here eq T a s fs _ (tree_raises (codes "arity")) (found false e)
finish_right eq T a s w fs ToArray p vs =
    result_right eq T a s fs _ _ (array_made vs) (operands eq (activations_at a (frames_of T fs)) (self_at s (frames_of T fs)) MakeArray [] (read_all T vs) End (λ i l. refl)) (array_made_is eq T (activations_at a (frames_of T fs)) (self_at s (frames_of T fs)) vs)
finish_right eq T a s w fs ToIndex p vs =
    result_right eq T a s fs _ _ (indexed vs) (operands eq (activations_at a (frames_of T fs)) (self_at s (frames_of T fs)) Index [] (read_all T vs) End (λ i l. refl)) (indexed_is eq T (activations_at a (frames_of T fs)) (self_at s (frames_of T fs)) vs)
finish_right eq T a s w fs ToSetIndex p vs =
    result_right eq T a s fs _ _ (item_set vs) (operands eq (activations_at a (frames_of T fs)) (self_at s (frames_of T fs)) SetIndex [] (read_all T vs) End (λ i l. refl)) (item_set_is eq T (activations_at a (frames_of T fs)) (self_at s (frames_of T fs)) vs)
finish_right eq T a s w fs (ToSetValue x) p vs =
    result_right eq T a s fs _ _ (value_set x vs) (operands eq (activations_at a (frames_of T fs)) (self_at s (frames_of T fs)) (SetValue x) [] (read_all T vs) End (λ i l. refl)) (value_set_is eq T (activations_at a (frames_of T fs)) (self_at s (frames_of T fs)) x vs)
finish_right eq T a s w fs (ToSetAlias x y) p vs =
    result_right eq T a s fs _ _ (alias_set x y vs) (operands eq (activations_at a (frames_of T fs)) (self_at s (frames_of T fs)) (SetAlias x y) [] (read_all T vs) End (λ i l. refl)) (alias_set_is eq T (activations_at a (frames_of T fs)) (self_at s (frames_of T fs)) x y vs)
finish_right eq T a s w fs ToRedirect p vs =
    result_right eq T a s fs _ _ (redirected vs) (operands eq (activations_at a (frames_of T fs)) (self_at s (frames_of T fs)) Redirect [] (read_all T vs) End (λ i l. refl)) (redirected_is eq T (activations_at a (frames_of T fs)) (self_at s (frames_of T fs)) vs)
finish_right eq T a s w fs ToClone p vs =
    clone_right eq T a s fs _ (objects_in vs) (operands eq (activations_at a (frames_of T fs)) (self_at s (frames_of T fs)) Clone [] (read_all T vs) End (λ i l. refl) ∙ cloned_is eq T (activations_at a (frames_of T fs)) (self_at s (frames_of T fs)) vs)
finish_right {R} eq T a s w fs (ToInvoke x) p vs =
    subst (λ (n : ℕ). Moves eq T a s (plug (frames_of T fs) (Form (Invoke x) (values_before (read_all T vs) End))) (tree_result (invoked n x vs) fs)) (counted T a fs)
    (result_right eq T a s fs _ _ (invoked (activations_at a (frames_of T fs)) x vs) (operands eq (activations_at a (frames_of T fs)) (self_at s (frames_of T fs)) (Invoke x) [] (read_all T vs) End (λ i l. refl))
    (invoked_is eq T (activations_at a (frames_of T fs)) (self_at s (frames_of T fs)) x vs))

pub count_with_suffixes : {R : Type 0} → (a : ℕ) (p : Place R) (ss : SuffixTrees) (fs : List (TreeFrame R)) → count_activations a (with_suffixes p ss fs) ≡ count_activations a fs
count_with_suffixes a p NoSuffixes fs = refl
count_with_suffixes a p (ASuffix s ss) fs = refl

-- arguments from here on
pub args_right : {R : Type 0} → (eq : R → R → Bool) (T : Table R) (a : ℕ) (s : Self R) → IsMadeTable T → (fs : List (TreeFrame R)) (callee : Callee R) (p : Place R) (done : List (PlainValue R)) (es : ExprTrees)
    → Moves eq T a s (plug (frames_of T fs) (callee_form T callee done (exprs_at T p es))) (begin_args T (count_activations a fs) callee p done es fs)
args_right eq T a s w fs callee p done NoExprs = finish_right eq T a s w fs callee p done
args_right {R} eq T a s w fs callee p done (AnExpr e es) =
    silent eq T a s fs _ (tree_moved Silent (push p (PendingArguments callee done es) fs) (TreeRun p (ExprTask e))) (record { tag_is = refl; leads = pushed T fs p (PendingArguments callee done es) (TreeRun p (ExprTask e)) _ (filled callee) }) where
      filled : (callee : Callee R) → callee_form T callee done (Part (expr_at T p e) (exprs_at T p es)) ≡ fill (callee_frame T callee done (exprs_at T p es)) (expr_at T p e)
      filled (ToCall f) = refl
      filled (ToBuiltin row) = refl
      filled ToArray = refl
      filled ToIndex = refl
      filled ToClone = refl
      filled ToSetIndex = refl
      filled (ToSetValue x) = refl
      filled (ToSetAlias x y) = refl
      filled ToRedirect = refl
      filled (ToInvoke x) = refl

-- inside of further suffixes
pub suffix_args : {R : Type 0} → (eq : R → R → Bool) (T : Table R) (a : ℕ) (s : Self R) → IsMadeTable T → (fs : List (TreeFrame R)) (callee : Callee R) (p : Place R) (done : List (PlainValue R)) (es : ExprTrees) (ss : SuffixTrees)
    → Moves eq T a s (plug (frames_of T (with_suffixes p ss fs)) (callee_form T callee done (exprs_at T p es))) (begin_args T (count_activations a fs) callee p done es (with_suffixes p ss fs))
suffix_args eq T a s w fs callee p done es ss =
    subst (λ (n : ℕ). Moves eq T a s (plug (frames_of T (with_suffixes p ss fs)) (callee_form T callee done (exprs_at T p es))) (begin_args T n callee p done es (with_suffixes p ss fs)))
    (count_with_suffixes a p ss fs) (args_right eq T a s w (with_suffixes p ss fs) callee p done es)
