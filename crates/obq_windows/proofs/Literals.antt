-- Object literals that begin, go on and are made: trees against terms.
use Rattle.std.specs.Prelude.{Bool, List, None, Option, Some, [], codes, false, if◌then◌else◌, length, nat_lt, not, refl, suc, true, ℕ, ◌++◌, ◌+◌, ◌<◌, ◌||◌, ◌∷◌, ◌≡◌}
use Rattle.std.proofs.Common.{ap, arith, sym, ◌∙◌}
use Rattle.std.proofs.lemmas.List.{append-nil}
use Rattle.obq_base.specs.Tree.{AField, AProc, AliasOf, FieldTrees, MethodOf, NoFields, ProcedureTree, ValueOf}
use Rattle.obq_base.specs.declared.code.CodeNo.{CodeNo}
use Rattle.obq_base.specs.declared.limits.TheConstants.{CLOSURE_LIMIT}
use Rattle.obq_base.specs.declared.trees.Flags.{Flags}
use Rattle.obq_model.specs.Depth.{deepest_of}
use Rattle.obq_model.specs.Exceptions.{closure_limit, field_twice, wrong_type}
use Rattle.obq_model.specs.Opened.{open_methods, open_operands}
use Rattle.obq_model.specs.Opening.{layout_of}
use Rattle.obq_model.specs.Reading.{read_parts}
use Rattle.obq_model.specs.Step.{Found, Itself, Needs, New, Next, Pending, Self, activations_at, activations_in, field_before, fields_of, find, find_part, is_operand, layout_names, make_object, new_object, plug, row, self_at, self_in, through, values_before}
use Rattle.obq_model.specs.Store.{ObjectCell, twice}
use Rattle.obq_model.specs.Terms.{AliasField, Array, Bytes, Condition, Const, End, Engine, Field, FieldBody, Fields, Form, IsAlias, IsValue, Kind, Layout, MakeObject, NoLayout, Object, Part, Parts, Value, Variable, Writer}
use Rattle.obq_model.proofs.Plug.{operands}
use Rattle.obq_windows.specs.Literals.{DoneAlias, DoneField, DoneMethod, DoneValue, are_objects, count_methods, done_layout, done_names, done_values, done_with, open_done, operand_layout}
use Rattle.obq_windows.specs.Meanings.{Moves}
use Rattle.obq_windows.specs.Moves.{AreProcHints, are_deep_methods, begin_fields, is_deep_method, literal_fields, make_tree, tree_makes}
use Rattle.obq_windows.specs.Places.{Place, env_at, outside_at, writer_at}
use Rattle.obq_windows.specs.Trees.{Asks, ExprTask, PendingObject, PlainCloning, Silent, Stepped, TreeAct, TreeFrame, TreeHere, TreeMake, TreeRun, fields_at, frames_of, literal_term, method_of, names_at, pending_frames, push, read_fields, term_of, tree_moved, tree_raises}
use Rattle.obq_windows.specs.Values.{ClosureValue, ExceptionValue, IntValue, LocationValue, OkayValue, PlainValue, Table, TextValue, ThreadValue, TruthValue, proc_of, read_all, read_value, read_values}
use Rattle.obq_windows.proofs.Around.{asks, found_in, here, pushed, silent, to_here}
use Rattle.obq_windows.proofs.Begins.{of_term}
use Rattle.obq_windows.proofs.Closing.{made_read}
use Rattle.obq_windows.proofs.Layouts.{deeper, is_operand_done, layout_more, layout_with, no_operand_left, opened_more, opened_with, values_more, values_with}
use Rattle.obq_windows.proofs.Results.{closure_cases}

-- the parts of a literal whose fields are spelled in another way
fields_respelled : {R : Type 0} → (T : Table R) (p : Place R) (fields : FieldTrees) (ts us : Parts R) → ts ≡ us → read_parts (env_at T p) (open_operands (writer_at T p) (outside_at T p) (names_at p) fields ts) ≡ read_parts (env_at T p) (open_operands (writer_at T p) (outside_at T p) (names_at p) fields us)
fields_respelled T p fields ts us e = ap (λ z. read_parts (env_at T p) (open_operands (writer_at T p) (outside_at T p) (names_at p) fields z)) e

literal_respelled : {R : Type 0} → (flags : Flags) (l m : Layout) (vs ws : Parts R) → l ≡ m → vs ≡ ws → Form (MakeObject flags l) vs ≡ Form (MakeObject flags m) ws
literal_respelled {R} flags l m vs ws e k = ap (λ z. Form (MakeObject flags z) vs) e ∙ ap (Form (MakeObject flags m)) k

-- a method waits
method_waits : {R : Type 0} → (T : Table R) (p : Place R) (flags : Flags) (done : List (DoneField R ProcedureTree)) (x : Bytes) (q : ProcedureTree) (place : ℕ) (fields : FieldTrees)
    → literal_term T p flags done (AField x (MethodOf q) place fields) ≡ literal_term T p flags (done ++ DoneMethod x q ∷ []) fields
method_waits T p flags done x q place fields =
    literal_respelled flags _ _ _ _ (sym (layout_more done (DoneMethod x q ∷ []) (layout_of fields)))
    (ap (λ vs. values_before (read_all T vs) (fields_at T p done (AField x (MethodOf q) place fields))) (sym (values_more done (DoneMethod x q ∷ []) ∙ append-nil (done_values done)))
    ∙ ap (values_before (read_all T (done_values (done ++ DoneMethod x q ∷ []))))
    (fields_respelled T p fields _ _ (sym (opened_more (writer_at T p) (outside_at T p) (names_at p) done (DoneMethod x q ∷ []) (open_methods (writer_at T p) (outside_at T p) (names_at p) fields)))))

pub fields_begin : {R : Type 0} → (eq : R → R → Bool) (T : Table R) (a : ℕ) (s : Self R) (p : Place R) (flags : Flags) (done : List (DoneField R ProcedureTree)) (fields : FieldTrees) (fs : List (TreeFrame R))
    → Moves eq T a s (plug (frames_of T fs) (literal_term T p flags done fields)) (begin_fields p flags done fields fs)
fields_begin eq T a s p flags done NoFields fs = silent eq T a s fs _ (tree_moved Silent fs (TreeMake p flags done)) (record { tag_is = refl; leads = here T fs (TreeMake p flags done) _ refl })
fields_begin eq T a s p flags done (AField x (ValueOf e) place fields) fs =
    silent eq T a s fs _ (tree_moved Silent (push p (PendingObject flags done x None fields) fs) (TreeRun p (ExprTask e))) (record { tag_is = refl; leads = pushed T fs p (PendingObject flags done x None fields) (TreeRun p (ExprTask e)) _ refl })
fields_begin eq T a s p flags done (AField x (AliasOf y e place2) place fields) fs =
    silent eq T a s fs _ (tree_moved Silent (push p (PendingObject flags done x (Some y) fields) fs) (TreeRun p (ExprTask e))) (record { tag_is = refl; leads = pushed T fs p (PendingObject flags done x (Some y) fields) (TreeRun p (ExprTask e)) _ refl })
fields_begin eq T a s p flags done (AField x (MethodOf q) place fields) fs =
    of_term eq T a s _ _ (begin_fields p flags (done ++ DoneMethod x q ∷ []) fields fs) (ap (plug (frames_of T fs)) (method_waits T p flags done x q place fields)) (fields_begin eq T a s p flags (done ++ DoneMethod x q ∷ []) fields fs)

-- an operand has its value
values_end : {R : Type 0} → (T : Table R) (vs : List (PlainValue R)) (v : PlainValue R) (ts : Parts R) → values_before (read_all T vs) (Part (Const (read_value T v)) ts) ≡ values_before (read_all T (vs ++ v ∷ [])) ts
values_end T [] v ts = refl
values_end T (u ∷ vs) v ts = ap (Part (Const (read_value T u))) (values_end T vs v ts)

operand_is : {R : Type 0} → (T : Table R) (p : Place R) (flags : Flags) (done : List (DoneField R ProcedureTree)) (x : Bytes) (other : Option Bytes) (fields : FieldTrees) (v : PlainValue R)
    → Form (MakeObject flags (done_layout done (operand_layout x other (layout_of fields)))) (values_before (read_all T (done_values done)) (Part (Const (read_value T v)) (fields_at T p done fields)))
    ≡ literal_term T p flags (done ++ done_with x other v ∷ []) fields
operand_is T p flags done x other fields v =
    literal_respelled flags _ _ _ _ (sym (layout_more done (done_with x other v ∷ []) (layout_of fields) ∙ ap (done_layout done) (layout_with x other v (layout_of fields))))
    (values_end T (done_values done) v (fields_at T p done fields)
    ∙ ap (λ vs. values_before (read_all T vs) (fields_at T p done fields)) (sym (values_more done (done_with x other v ∷ []) ∙ ap (λ l. done_values done ++ l) (values_with x other v)))
    ∙ ap (values_before (read_all T (done_values (done ++ done_with x other v ∷ []))))
    (fields_respelled T p fields _ _ (sym (opened_more (writer_at T p) (outside_at T p) (names_at p) done (done_with x other v ∷ []) (open_methods (writer_at T p) (outside_at T p) (names_at p) fields)
    ∙ ap (open_done (writer_at T p) (outside_at T p) (names_at p) done) (opened_with (writer_at T p) (outside_at T p) (names_at p) x other v (open_methods (writer_at T p) (outside_at T p) (names_at p) fields))))))

pub operand_given : {R : Type 0} → (eq : R → R → Bool) (T : Table R) (a : ℕ) (s : Self R) (v : PlainValue R) (p : Place R) (flags : Flags) (done : List (DoneField R ProcedureTree)) (x : Bytes) (other : Option Bytes) (fields : FieldTrees) (fs : List (TreeFrame R))
    → Moves eq T a s (plug (frames_of T fs) (plug (pending_frames T p (PendingObject flags done x other fields)) (Const (read_value T v)))) (begin_fields p flags (done ++ done_with x other v ∷ []) fields fs)
operand_given eq T a s v p flags done x other fields fs =
    of_term eq T a s _ _ (begin_fields p flags (done ++ done_with x other v ∷ []) fields fs) (ap (plug (frames_of T fs)) (operand_is T p flags done x other fields v)) (fields_begin eq T a s p flags (done ++ done_with x other v ∷ []) fields fs)

-- ---- the object is made

names_laid : {R M : Type 0} → (done : List (DoneField R M)) → layout_names (done_layout done NoLayout) ≡ done_names done
names_laid [] = refl
names_laid (DoneValue x v ∷ done) = ap (λ l. x ∷ l) (names_laid done)
names_laid (DoneMethod x m ∷ done) = ap (λ l. x ∷ l) (names_laid done)
names_laid (DoneAlias x y v ∷ done) = ap (λ l. x ∷ l) (names_laid done)

-- behind the operands the row is that of the whole literal
row_here : {R : Type 0} → (eq : R → R → Bool) (a : ℕ) (s : Self R) (k : Kind R) (vs : List (Value R)) (ts : Parts R) → is_operand k (length vs) ≡ false → find_part eq a s k vs ts ≡ row eq a s k vs ts
row_here eq a s k vs End e = refl
row_here {R} eq a s k vs (Part t ts) e =
    ap (λ (c : Bool). elim c [ true ↦ through (Pending k vs ts) (λ v. find_part eq a s k (vs ++ v ∷ []) ts) (find eq (activations_in a k) (self_in s k) t) | false ↦ row eq a s k vs (Part t ts) ]) e

beyond_none : (i m : ℕ) → i < 0 + m → i < m
beyond_none i m h = omega (arith, h)

literal_found : {R : Type 0} → (eq : R → R → Bool) (T : Table R) (a : ℕ) (s : Self R) (p : Place R) (flags : Flags) (done : List (DoneField R ProcedureTree))
    → find eq a s (literal_term T p flags done NoFields) ≡ make_object flags (done_layout done NoLayout) (read_all T (done_values done)) (fields_at T p done NoFields)
literal_found eq T a s p flags done =
    operands eq a s (MakeObject flags (done_layout done NoLayout)) [] (read_all T (done_values done)) (fields_at T p done NoFields) (λ i h. is_operand_done T done i (beyond_none i (length (read_all T (done_values done))) h))
    ∙ row_here eq a s (MakeObject flags (done_layout done NoLayout)) (read_all T (done_values done)) (fields_at T p done NoFields) (no_operand_left T done)

-- its fields, if the operand of each alias is an object
abbrev fields_if : {R : Type 0} → Bool → Fields R → Option (Fields R)
fields_if true fields = Some fields
fields_if false fields = None

before_if : {R : Type 0} → (c : Bool) (x : Bytes) (body : FieldBody R) (fields : Fields R) → field_before x body (fields_if c fields) ≡ fields_if c (Field x body fields)
before_if true x body fields = refl
before_if false x body fields = refl

fields_made : {R : Type 0} → (T : Table R) (thread count : ℕ) (numbers : List CodeNo) (p : Place R) (done : List (DoneField R ProcedureTree)) → AreProcHints T numbers p done
    → fields_of (done_layout done NoLayout) (read_all T (done_values done)) (fields_at T p done NoFields) ≡ fields_if (are_objects done) (read_fields T (literal_fields T thread count numbers p done))
fields_made T thread count numbers p [] h = refl
fields_made T thread count numbers p (DoneValue x v ∷ done) h =
    ap (field_before x (IsValue (read_value T v))) (fields_made T thread count numbers p done h) ∙ before_if (are_objects done) x (IsValue (read_value T v)) (read_fields T (literal_fields T thread count numbers p done))
fields_made T thread count [] p (DoneMethod x q ∷ done) h = absurd h
fields_made {R} T thread count (number ∷ numbers) p (DoneMethod x (AProc params b place) ∷ done) h =
    ap (field_before x _) (fields_made T thread (suc count) numbers p done h.1)
    ∙ before_if (are_objects done) x _ (read_fields T (literal_fields T thread (suc count) numbers p done))
    ∙ ap (λ (v : Value R). fields_if (are_objects done) (Field x (method_of v) (read_fields T (literal_fields T thread (suc count) numbers p done)))) (sym (made_read T number numbers p params b place h.0))
fields_made T thread count numbers p (DoneAlias x y (LocationValue Object o) ∷ done) h =
    ap (field_before x (IsAlias o y)) (fields_made T thread count numbers p done h) ∙ before_if (are_objects done) x (IsAlias o y) (read_fields T (literal_fields T thread count numbers p done))
fields_made T thread count numbers p (DoneAlias x y (IntValue z) ∷ done) h = refl
fields_made T thread count numbers p (DoneAlias x y (TruthValue z) ∷ done) h = refl
fields_made T thread count numbers p (DoneAlias x y OkayValue ∷ done) h = refl
fields_made T thread count numbers p (DoneAlias x y (TextValue z) ∷ done) h = refl
fields_made T thread count numbers p (DoneAlias x y (ExceptionValue z) ∷ done) h = refl
fields_made T thread count numbers p (DoneAlias x y (ThreadValue z) ∷ done) h = refl
fields_made T thread count numbers p (DoneAlias x y (LocationValue Array z) ∷ done) h = refl
fields_made T thread count numbers p (DoneAlias x y (LocationValue Variable z) ∷ done) h = refl
fields_made T thread count numbers p (DoneAlias x y (LocationValue Writer z) ∷ done) h = refl
fields_made T thread count numbers p (DoneAlias x y (LocationValue Condition z) ∷ done) h = refl
fields_made T thread count numbers p (DoneAlias x y (LocationValue Engine z) ∷ done) h = refl
fields_made T thread count numbers p (DoneAlias x y (ClosureValue t c group index cs) ∷ done) h =
    closure_cases T (read_values T cs) (proc_of T group index) (λ f. fields_of (AliasField x y (done_layout done NoLayout)) (f ∷ read_all T (done_values done)) (fields_at T p done NoFields) ≡ None) (λ params body. refl) (λ names G i. refl)

methods_deep : {R : Type 0} → (T : Table R) (p : Place R) (done : List (DoneField R ProcedureTree)) → nat_lt CLOSURE_LIMIT (deepest_of (fields_at T p done NoFields)) ≡ are_deep_methods T p done
methods_deep T p [] = refl
methods_deep T p (DoneValue x v ∷ done) = methods_deep T p done
methods_deep T p (DoneMethod x (AProc params b place) ∷ done) = deeper CLOSURE_LIMIT _ (deepest_of (fields_at T p done NoFields)) ∙ ap (λ c. is_deep_method T p (AProc params b place) || c) (methods_deep T p done)
methods_deep T p (DoneAlias x y v ∷ done) = methods_deep T p done

-- an object with these fields, if they are there, whose methods lie too deep or not
abbrev made_if : {R : Type 0} → Flags → Option (Fields R) → Bool → Found R
made_if flags None deep = Next wrong_type
made_if flags (Some fields) deep = if deep then Next closure_limit else Needs (New (ObjectCell flags None fields) Itself) []

made_here : {R : Type 0} → (flags : Flags) (methods : Parts R) (o : Option (Fields R)) (deep : Bool) → nat_lt CLOSURE_LIMIT (deepest_of methods) ≡ deep → new_object flags methods o ≡ made_if flags o deep
made_here flags methods None deep e = refl
made_here {R} flags methods (Some fields) deep e = ap (λ (c : Bool). made_if flags (Some fields) c) e

pub make_begins : {R : Type 0} → (eq : R → R → Bool) (T : Table R) (a : ℕ) (s : Self R) (thread count : ℕ) (numbers : List CodeNo) (p : Place R) (flags : Flags) (done : List (DoneField R ProcedureTree)) (fs : List (TreeFrame R)) → AreProcHints T numbers p done
    → Moves eq T a s (term_of T fs (TreeMake p flags done)) (make_tree T thread count numbers p flags done fs)
make_begins {R} eq T a s thread count numbers p flags done fs h = at (twice (done_names done)) (are_objects done) (are_deep_methods T p done) found where
  found : found_in eq T a s fs (literal_term T p flags done NoFields)
      ≡ (if twice (done_names done) then Next field_twice else made_if flags (fields_if (are_objects done) (read_fields T (literal_fields T thread count numbers p done))) (are_deep_methods T p done))
  found =
      literal_found eq T (activations_at a (frames_of T fs)) (self_at s (frames_of T fs)) p flags done
      ∙ ap (λ (names : List Bytes). if twice names then Next field_twice else new_object flags (fields_at T p done NoFields) (fields_of (done_layout done NoLayout) (read_all T (done_values done)) (fields_at T p done NoFields))) (names_laid done)
      ∙ ap (λ (found : Found R). if twice (done_names done) then Next field_twice else found)
      (ap (new_object flags (fields_at T p done NoFields)) (fields_made T thread count numbers p done h)
      ∙ made_here flags (fields_at T p done NoFields) (fields_if (are_objects done) (read_fields T (literal_fields T thread count numbers p done))) (are_deep_methods T p done) (methods_deep T p done))

  at : (b c d : Bool) → found_in eq T a s fs (literal_term T p flags done NoFields) ≡ (if b then Next field_twice else made_if flags (fields_if c (read_fields T (literal_fields T thread count numbers p done))) d)
      → Moves eq T a s (term_of T fs (TreeMake p flags done)) (
      if b then tree_moved Stepped fs (tree_raises (codes "field_twice")) else
      if not c then tree_moved Stepped fs (tree_raises (codes "type")) else
      if d then tree_moved Stepped fs (tree_raises (codes "closure_limit")) else
      tree_makes (count_methods done) (tree_moved (Asks (PlainCloning (Some flags) (literal_fields T thread count numbers p done) [])) fs (TreeAct (PlainCloning (Some flags) (literal_fields T thread count numbers p done) []) TreeHere))
      )
  at true c d e = to_here eq T a s fs _ (tree_raises (codes "field_twice")) e
  at false false d e = to_here eq T a s fs _ (tree_raises (codes "type")) e
  at false true true e = to_here eq T a s fs _ (tree_raises (codes "closure_limit")) e
  at false true false e = asks eq T a s fs _ (PlainCloning (Some flags) (literal_fields T thread count numbers p done) []) TreeHere e
