-- What a request's outcome makes of the form that asked is what the operation makes of it, done there.
use Rattle.std.specs.Prelude.{Bool, true, false, List, Option, Some, None, [], ◌∷◌, ◌++◌, ℕ, ℤ, pos, negsuc, suc, length, nat_lt, not, slice_get, slice_set, drop, refl, ◌||◌, ◌==◌, ◌≡◌, if◌then◌else◌}
use Rattle.std.proofs.Common.{ap, sym, ◌∙◌, subst}
use Rattle.obq_base.specs.declared.acts.ActKind.{ActKind}
use Rattle.obq_base.specs.declared.trees.Flags.{Flags}
use Rattle.obq_model.specs.Terms.{Bytes, Engine, Object, Array, Variable, Writer, Condition, Value, Int, Truth, Okay, Text, Exc, Thread, Closure, Member, Loc, FieldBody, IsValue, IsMethod, IsAlias, Fields, Kind, Term, Const, Name, Form, Part, End}
use Rattle.obq_model.specs.Exceptions.{arity, raising}
use Rattle.obq_model.specs.Put.{put_all, enter}
use Rattle.obq_model.specs.Store.{Cell, ObjectCell, ArrayCell, VariableCell, WriterCell, ConditionCell, EngineCell, field, with_field, aliased, exported}
use Rattle.obq_model.specs.Step.{Self, Operation, New, Get, CallMethod, Leave, Set, Copy, RedirectTo, GetItem, GetSize, EachSize, EachItem, SetItem, ReadVariable, SetVariable, Write, ForkOff, JoinWith, LineUp, GiveUp, Again, Signal, Broadcast, Export, Import, RunEngine, testing}
use Rattle.obq_model.specs.Cells.{is_clear, is_refused, mode_for, owner_for, get_row, invoke_row, set_here_row, set_row, copy_row, redirect_row, on_object_row, object_row, owned_cell, item_row, items_of, item_at, set_item_row, set_variable_row, write_row, line_row, cell_row, is_free, again_row, import_row}
use Rattle.obq_model.specs.Effect.{in_line, line_of}
use Rattle.obq_model.specs.Terms as k
use Rattle.obq_stands.specs.World.{Ref, same_ref, Born, Memory, with_left, Ending, ByValue, ByException, ending_term, Row, Idle, Ends, Answer, RaisedUp, wire, answer_term, result_of, result_term, MayAsk}
use Rattle.obq_stands.specs.Stands.{IsCall, Does, OnCell, Retakes, Joins, Exports, Imports}
use Rattle.obq_model.specs.OneCell.{cell_of}

-- the row of an operation, from that of its request
abbrev pub on_result : {R : Type 0} → Operation R → Row R → Row R
on_result op Idle = Idle
on_result op (Ends kind c x) = Ends kind c (result_term op (result_of x))

result_if : {R : Type 0} (op : Operation R) (b : Bool) (x y u v : Row R) → x ≡ on_result op u → y ≡ on_result op v → (if b then x else y) ≡ on_result op (if b then u else v)
result_if op true x y u v e f = e
result_if op false x y u v e f = f

get_result : {R : Type 0} (o : R) (x : Bytes) (body : Option (FieldBody R)) → get_row Ends body ≡ on_result (Get o x) (get_row Ends body)
get_result o x None = refl
get_result o x (Some (IsValue v)) = refl
get_result o x (Some (IsMethod params body)) = refl
get_result o x (Some (IsAlias p y)) = refl

invoke_result : {R : Type 0} (eq : R → R → Bool) (t : ℕ) (s : Self R) (o : R) (x : Bytes) (flags : Flags) (owner : Option ℕ) (fields : Fields R) (vs : List (Value R)) (body : Option (FieldBody R))
    → invoke_row eq Ends t s o flags owner fields vs body ≡ on_result (CallMethod o x vs) (invoke_row eq Ends t s o flags owner fields vs body)
invoke_result eq t s o x flags owner fields vs None = refl
invoke_result eq t s o x flags owner fields vs (Some (IsValue v)) = refl
invoke_result eq t s o x flags owner fields vs (Some (IsAlias p y)) = refl
invoke_result eq t s o x flags owner fields vs (Some (IsMethod params body)) =
    let u : Row _ = Ends ActKind.Call (Some (ObjectCell flags (owner_for eq s o flags t owner) fields)) (Form (k.Within o (mode_for eq s o flags)) (Part (put_all (Loc Object o ∷ vs) params body) End)) in
    result_if (CallMethod o x vs) (length params == suc (length vs)) u (Ends ActKind.Call None arity) u (Ends ActKind.Call None arity) refl refl

set_here_result : {R : Type 0} (eq : R → R → Bool) (s : Self R) (o : R) (flags : Flags) (owner : Option ℕ) (fields : Fields R) (x : Bytes) (body : FieldBody R)
    → set_here_row eq Ends s o flags owner fields x body ≡ on_result (Set o x body) (set_here_row eq Ends s o flags owner fields x body)
set_here_result eq s o flags owner fields x body = result_if (Set o x body) (is_refused eq s o flags) _ _ (Ends ActKind.Set None _) (Ends ActKind.Set (Some (ObjectCell flags owner (with_field x body fields))) (Const Okay)) refl refl

set_result : {R : Type 0} (eq : R → R → Bool) (s : Self R) (o : R) (flags : Flags) (owner : Option ℕ) (fields : Fields R) (x : Bytes) (body : FieldBody R) (old : Option (FieldBody R))
    → set_row eq Ends s o flags owner fields x body old ≡ on_result (Set o x body) (set_row eq Ends s o flags owner fields x body old)
set_result eq s o flags owner fields x body None = refl
set_result eq s o flags owner fields x (IsValue v) (Some (IsAlias p y)) = refl
set_result eq s o flags owner fields x (IsMethod params t) (Some (IsAlias p y)) = refl
set_result eq s o flags owner fields x (IsAlias q z) (Some (IsAlias p y)) = set_here_result eq s o flags owner fields x (IsAlias q z)
set_result eq s o flags owner fields x body (Some (IsValue v)) = set_here_result eq s o flags owner fields x body
set_result eq s o flags owner fields x body (Some (IsMethod params t)) = set_here_result eq s o flags owner fields x body

copy_result : {R : Type 0} (eq : R → R → Bool) (s : Self R) (o : R) (flags : Flags) (fields : Fields R) (first : Option Flags) (copied : Fields R) (rest : List R)
    → copy_row eq Ends s o flags fields first copied rest ≡ on_result (Copy o first copied rest) (copy_row eq Ends s o flags fields None k.Bare [])
copy_result eq s o flags fields first copied rest = result_if (Copy o first copied rest) (is_refused eq s o flags) _ _ (Ends ActKind.Copy None _) (Ends ActKind.Copy None _) refl refl

redirect_result : {R : Type 0} (eq : R → R → Bool) (s : Self R) (o : R) (flags : Flags) (owner : Option ℕ) (fields : Fields R) (target : R)
    → redirect_row eq Ends s o flags owner fields target ≡ on_result (RedirectTo o target) (redirect_row eq Ends s o flags owner fields target)
redirect_result eq s o flags owner fields target = result_if (RedirectTo o target) (is_refused eq s o flags) _ _ (Ends ActKind.Redirect None _) (Ends ActKind.Redirect (Some (ObjectCell flags owner (aliased target fields))) (Const Okay)) refl refl

-- an operation on an object
object_if : {R : Type 0} (eq : R → R → Bool) (t : ℕ) (s : Self R) (o : R) (op wop : Operation R) (c : Option (Cell R))
    → ((flags : Flags) (owner : Option ℕ) (fields : Fields R) → on_object_row eq Ends Idle t s o op flags owner fields ≡ on_result op (on_object_row eq Ends Idle t s o wop flags owner fields))
    → object_row eq Ends Idle t s o op c ≡ on_result op (object_row eq Ends Idle t s o wop c)
object_if eq t s o op wop (Some (ObjectCell flags owner fields)) h =
    result_if op (is_clear eq s o flags owner) (on_object_row eq Ends Idle t s o op flags owner fields) Idle (on_object_row eq Ends Idle t s o wop flags owner fields) Idle (h flags owner fields) refl
object_if eq t s o op wop (Some (ArrayCell vs)) h = refl
object_if eq t s o op wop (Some (VariableCell v)) h = refl
object_if eq t s o op wop (Some (WriterCell b)) h = refl
object_if eq t s o op wop (Some (ConditionCell l)) h = refl
object_if eq t s o op wop (Some (EngineCell v)) h = refl
object_if eq t s o op wop None h = refl

item_result : {R : Type 0} (a : R) (i : ℤ) (v : Option (Value R)) → item_row Ends (λ v. Const v) v ≡ on_result (GetItem a i) (item_row Ends (λ v. Const v) v)
item_result a i None = refl
item_result a i (Some v) = refl

each_result : {R : Type 0} (a : R) (i n : ℕ) (scope : Term R) (v : Option (Value R))
    → item_row Ends (λ v. Form (k.EachIn a i n) (Part (enter (v ∷ []) scope) (Part scope End))) v ≡ on_result (EachItem a i n scope) (item_row Ends (λ v. Const v) v)
each_result a i n scope None = refl
each_result a i n scope (Some v) = refl

set_item_result : {R : Type 0} (a : R) (i : ℤ) (v : Value R) (c : Option (Cell R)) → set_item_row Ends Idle i v c ≡ on_result (SetItem a i v) (set_item_row Ends Idle i v c)
set_item_result a (pos i) v (Some (ArrayCell vs)) = result_if (SetItem a (pos i) v) (nat_lt i (length vs)) _ _ (Ends ActKind.ArraySet (Some (ArrayCell (slice_set vs i v))) (Const Okay)) (Ends ActKind.ArraySet None _) refl refl
set_item_result a (negsuc i) v (Some (ArrayCell vs)) = refl
set_item_result a (pos i) v (Some (ObjectCell flags owner fields)) = refl
set_item_result a (negsuc i) v (Some (ObjectCell flags owner fields)) = refl
set_item_result a (pos i) v (Some (VariableCell u)) = refl
set_item_result a (negsuc i) v (Some (VariableCell u)) = refl
set_item_result a (pos i) v (Some (WriterCell b)) = refl
set_item_result a (negsuc i) v (Some (WriterCell b)) = refl
set_item_result a (pos i) v (Some (ConditionCell l)) = refl
set_item_result a (negsuc i) v (Some (ConditionCell l)) = refl
set_item_result a (pos i) v (Some (EngineCell u)) = refl
set_item_result a (negsuc i) v (Some (EngineCell u)) = refl
set_item_result a (pos i) v None = refl
set_item_result a (negsuc i) v None = refl

set_variable_result : {R : Type 0} (l : R) (v : Value R) (c : Option (Cell R)) → set_variable_row Ends Idle v c ≡ on_result (SetVariable l v) (set_variable_row Ends Idle v c)
set_variable_result l v (Some (VariableCell u)) = refl
set_variable_result l v (Some (ObjectCell flags owner fields)) = refl
set_variable_result l v (Some (ArrayCell vs)) = refl
set_variable_result l v (Some (WriterCell b)) = refl
set_variable_result l v (Some (ConditionCell c)) = refl
set_variable_result l v (Some (EngineCell u)) = refl
set_variable_result l v None = refl

write_result : {R : Type 0} (w : R) (text : Bytes) (c : Option (Cell R)) → write_row Ends Idle text c ≡ on_result (Write w text) (write_row Ends Idle text c)
write_result w text (Some (WriterCell b)) = refl
write_result w text (Some (ObjectCell flags owner fields)) = refl
write_result w text (Some (ArrayCell vs)) = refl
write_result w text (Some (VariableCell u)) = refl
write_result w text (Some (ConditionCell l)) = refl
write_result w text (Some (EngineCell u)) = refl
write_result w text None = refl

line_result : {R : Type 0} (op : Operation R) (kind : ActKind) (g : List ℕ → List ℕ) (u v : Term R) (c : Option (Cell R)) → u ≡ result_term op (result_of v) → line_row Ends Idle kind g u c ≡ on_result op (line_row Ends Idle kind g v c)
line_result op kind g u v (Some (ConditionCell line)) e = ap (Ends kind (Some (ConditionCell (g line)))) e
line_result op kind g u v (Some (ObjectCell flags owner fields)) e = refl
line_result op kind g u v (Some (ArrayCell vs)) e = refl
line_result op kind g u v (Some (VariableCell w)) e = refl
line_result op kind g u v (Some (WriterCell b)) e = refl
line_result op kind g u v (Some (EngineCell w)) e = refl
line_result op kind g u v None e = refl

-- the row of an operation on one cell is that of its request, with what the outcome makes of the form
pub cell_result : {R : Type 0} (eq : R → R → Bool) (t : ℕ) (s : Self R) (op : Operation R) (c : Option (Cell R)) → MayAsk op → cell_row eq Ends Idle t s op c ≡ on_result op (cell_row eq Ends Idle t s (wire op) c)
cell_result eq t s (New cell after) c may = refl
cell_result eq t s (Get o x) c may = object_if eq t s o (Get o x) (Get o x) c (λ flags owner fields. get_result o x (field x fields))
cell_result eq t s (CallMethod o x vs) c may = object_if eq t s o (CallMethod o x vs) (CallMethod o x vs) c (λ flags owner fields. invoke_result eq t s o x flags owner fields vs (field x fields))
cell_result eq t s (Leave o out) c may = absurd may
cell_result eq t s (Set o x body) c may = object_if eq t s o (Set o x body) (Set o x body) c (λ flags owner fields. set_result eq s o flags owner fields x body (field x fields))
cell_result eq t s (Copy o first copied rest) c may = object_if eq t s o (Copy o first copied rest) (Copy o None k.Bare []) c (λ flags owner fields. copy_result eq s o flags fields first copied rest)
cell_result eq t s (RedirectTo o target) c may = object_if eq t s o (RedirectTo o target) (RedirectTo o target) c (λ flags owner fields. redirect_result eq s o flags owner fields target)
cell_result eq t s (GetItem a i) c may = item_result a i (item_at (items_of c) i)
cell_result eq t s (GetSize a) c may = refl
cell_result eq t s (EachSize a scope) c may = refl
cell_result eq t s (EachItem a i n scope) c may = each_result a i n scope (slice_get (items_of c) i)
cell_result eq t s (SetItem a i v) c may = set_item_result a i v c
cell_result eq t s (ReadVariable l) c may = refl
cell_result eq t s (SetVariable l v) c may = set_variable_result l v c
cell_result eq t s (Write w text) c may = write_result w text c
cell_result eq t s (ForkOff v) c may = refl
cell_result eq t s (JoinWith u) c may = refl
cell_result eq t s (LineUp o q guard) c may = line_result (LineUp o q guard) ActKind.Line (λ line. line ++ t ∷ []) (Form (k.Lined o q) (Part guard End)) (Form (k.Lined o q) (Part (Name []) End)) c refl
cell_result eq t s (GiveUp o q guard) c may = refl
cell_result eq t s (Again o q guard) c may = refl
cell_result eq t s (Signal q) c may = line_result (Signal q) ActKind.Signal (drop 1) (Const Okay) (Const Okay) c refl
cell_result eq t s (Broadcast q) c may = line_result (Broadcast q) ActKind.Broadcast (λ line. []) (Const Okay) (Const Okay) c refl
cell_result eq t s (Export x v) c may = refl
cell_result eq t s (Import x engine) c may = refl
cell_result eq t s (RunEngine e f) c may = refl

pub wire_cell : {R : Type 0} (op : Operation R) → cell_of (wire op) ≡ cell_of op
wire_cell (Copy o first copied rest) = refl
wire_cell (EachSize o scope) = refl
wire_cell (EachItem o i n scope) = refl
wire_cell (LineUp p o guard) = refl
wire_cell (GiveUp o q guard) = refl
wire_cell (Again p q guard) = refl
wire_cell op = refl

pub may_wire : {R : Type 0} (op : Operation R) → MayAsk (wire op) → MayAsk op
may_wire (New cell after) may = may
may_wire (Leave o out) may = may
may_wire (Copy o first copied rest) may = may
may_wire (EachSize o scope) may = may
may_wire (EachItem o i n scope) may = may
may_wire (ForkOff v) may = may
may_wire (LineUp p o guard) may = may
may_wire (GiveUp o q guard) may = may
may_wire (Again p q guard) may = may
may_wire op may = may

pub call_wire : (op : Operation Ref) → IsCall (wire op) → IsCall op
call_wire (CallMethod o x vs) call = call
call_wire (Copy o first copied rest) call = call
call_wire (EachSize o scope) call = call
call_wire (EachItem o i n scope) call = call
call_wire (LineUp p o guard) call = call
call_wire (GiveUp o q guard) call = call
call_wire (Again p q guard) call = call
call_wire (RunEngine o v) call = call
call_wire op call = call

pub call_may : (op : Operation Ref) → IsCall op → MayAsk op
call_may (CallMethod o x vs) call = tt
call_may (RunEngine o v) call = tt
call_may op call = absurd call

-- what a value makes of the form of a call
pub call_answer : (op : Operation Ref) (v : Value Ref) → IsCall op → answer_term op (Answer v) ≡ Const v
call_answer (CallMethod o x vs) w call = refl
call_answer (RunEngine o v) w call = refl
call_answer op w call = absurd call

pub raised_answer : (op : Operation Ref) (r : k.Raised) → answer_term op (RaisedUp r) ≡ raising r
raised_answer (New cell after) r = refl
raised_answer op r = refl

pub again_result : {R : Type 0} (t : ℕ) (lined : Bool) (o q : R) (guard : Term R) (c : Option (Cell R)) → again_row Ends Idle t lined o q guard c ≡ on_result (Again o q guard) (again_row Ends Idle t lined o q (Name []) c)
again_result t lined o q guard c = result_if (Again o q guard) (lined || not (is_free c)) Idle _ Idle (Ends ActKind.Again (owned_cell (Some t) c) (testing o q (Name []))) refl refl

ending_result : (u : ℕ) (e : Ending) → ending_term e ≡ result_term (JoinWith u) (result_of (ending_term e))
ending_result u (ByValue v) = refl
ending_result u (ByException e) = refl

pub import_result : {R : Type 0} (x : Bytes) (engine : Bool) (v : Option (Value R)) → import_row Ends Idle engine v ≡ on_result (Import x engine) (import_row Ends Idle engine v)
import_result x engine None = refl
import_result x false (Some v) = refl
import_result x true (Some (Loc Engine r)) = refl
import_result x true (Some (Loc Object r)) = refl
import_result x true (Some (Loc Array r)) = refl
import_result x true (Some (Loc Variable r)) = refl
import_result x true (Some (Loc Writer r)) = refl
import_result x true (Some (Loc Condition r)) = refl
import_result x true (Some (Int z)) = refl
import_result x true (Some (Truth b)) = refl
import_result x true (Some Okay) = refl
import_result x true (Some (Text z)) = refl
import_result x true (Some (Exc z)) = refl
import_result x true (Some (Thread z)) = refl
import_result x true (Some (Closure ps b)) = refl
import_result x true (Some (Member ns g i)) = refl

cell_wired : (m : Memory) (en : ℕ → ℕ → Option Ending) (n t : ℕ) (s : Self Ref) (op : Operation Ref) → MayAsk op → (r : Ref) (b : Born) (kind : ActKind) (left : Option (Cell Ref)) (x : Term Ref)
    → cell_of (wire op) ≡ Some r → m.heap r ≡ Some b → cell_row same_ref Ends Idle t s (wire op) (Some b.cell) ≡ Ends kind left x → Does m en n t s op kind b.born (with_left m r b.born left) (result_term op (result_of x))
cell_wired m en n t s op may r b kind left x at here row = OnCell op r b kind left (result_term op (result_of x)) (sym (wire_cell op) ∙ at) here (cell_result same_ref t s op (Some b.cell) may ∙ ap (on_result op) row)

-- an operation that its request does is done so
pub wired : (m : Memory) (en : ℕ → ℕ → Option Ending) (n t : ℕ) (s : Self Ref) (op : Operation Ref) (kind : ActKind) (loc : ℕ) (m2 : Memory) (x : Term Ref) → MayAsk op → Does m en n t s (wire op) kind loc m2 x
    → Does m en n t s op kind loc m2 (result_term op (result_of x))
wired m en many t s (New cell after) kind loc m2 x may does = absurd may
wired m en many t s (Get o name) kind loc m2 x may (OnCell _ r b _ left _ at here row) = cell_wired m en many t s (Get o name) may r b kind left x at here row
wired m en many t s (CallMethod o name vs) kind loc m2 x may (OnCell _ r b _ left _ at here row) = cell_wired m en many t s (CallMethod o name vs) may r b kind left x at here row
wired m en many t s (Leave o out) kind loc m2 x may does = absurd may
wired m en many t s (Set o name body) kind loc m2 x may (OnCell _ r b _ left _ at here row) = cell_wired m en many t s (Set o name body) may r b kind left x at here row
wired m en many t s (Copy o first copied rest) kind loc m2 x may (OnCell _ r b _ left _ at here row) = cell_wired m en many t s (Copy o first copied rest) may r b kind left x at here row
wired m en many t s (RedirectTo o target) kind loc m2 x may (OnCell _ r b _ left _ at here row) = cell_wired m en many t s (RedirectTo o target) may r b kind left x at here row
wired m en many t s (GetItem o i) kind loc m2 x may (OnCell _ r b _ left _ at here row) = cell_wired m en many t s (GetItem o i) may r b kind left x at here row
wired m en many t s (GetSize o) kind loc m2 x may (OnCell _ r b _ left _ at here row) = cell_wired m en many t s (GetSize o) may r b kind left x at here row
wired m en many t s (EachSize o scope) kind loc m2 x may (OnCell _ r b _ left _ at here row) = cell_wired m en many t s (EachSize o scope) may r b kind left x at here row
wired m en many t s (EachItem o i n scope) kind loc m2 x may (OnCell _ r b _ left _ at here row) = cell_wired m en many t s (EachItem o i n scope) may r b kind left x at here row
wired m en many t s (SetItem o i v) kind loc m2 x may (OnCell _ r b _ left _ at here row) = cell_wired m en many t s (SetItem o i v) may r b kind left x at here row
wired m en many t s (ReadVariable o) kind loc m2 x may (OnCell _ r b _ left _ at here row) = cell_wired m en many t s (ReadVariable o) may r b kind left x at here row
wired m en many t s (SetVariable o v) kind loc m2 x may (OnCell _ r b _ left _ at here row) = cell_wired m en many t s (SetVariable o v) may r b kind left x at here row
wired m en many t s (Write o text) kind loc m2 x may (OnCell _ r b _ left _ at here row) = cell_wired m en many t s (Write o text) may r b kind left x at here row
wired m en many t s (ForkOff v) kind loc m2 x may does = absurd may
wired m en many t s (JoinWith u) kind loc m2 x may (OnCell _ r b _ left _ at here row) = absurd (cc at)
wired m en many t s (JoinWith u) kind loc m2 x may (Joins _ b e is) = subst (Does m en many t s (JoinWith u) kind loc m2) (ending_result u e) (Joins u b e is)
wired m en many t s (LineUp p o guard) kind loc m2 x may (OnCell _ r b _ left _ at here row) = cell_wired m en many t s (LineUp p o guard) may r b kind left x at here row
wired m en many t s (GiveUp o q guard) kind loc m2 x may (OnCell _ r b _ left _ at here row) = cell_wired m en many t s (GiveUp o q guard) may r b kind left x at here row
wired m en many t s (Again p q guard) kind loc m2 x may (OnCell _ r b _ left _ at here row) = absurd (cc at)
wired m en many t s (Again p q guard) kind loc m2 x may (Retakes _ _ _ a b _ left _ here there row) = Retakes p q guard a b kind left (result_term (Again p q guard) (result_of x)) here there (again_result t (in_line t (line_of (Some b.cell))) p q guard (Some a.cell) ∙ ap (on_result (Again p q guard)) row)
wired m en many t s (Signal o) kind loc m2 x may (OnCell _ r b _ left _ at here row) = cell_wired m en many t s (Signal o) may r b kind left x at here row
wired m en many t s (Broadcast o) kind loc m2 x may (OnCell _ r b _ left _ at here row) = cell_wired m en many t s (Broadcast o) may r b kind left x at here row
wired m en many t s (Export name v) kind loc m2 x may (OnCell _ r b _ left _ at here row) = absurd (cc at)
wired m en many t s (Export name v) kind loc m2 x may (Exports _ _) = Exports name v
wired m en many t s (Import name engine) kind loc m2 x may (OnCell _ r b _ left _ at here row) = absurd (cc at)
wired m en many t s (Import name engine) kind loc m2 x may (Imports _ _ _ _ row) = Imports name engine kind (result_term (Import name engine) (result_of x)) (import_result name engine (exported name m.names) ∙ ap (on_result (Import name engine)) row)
wired m en many t s (RunEngine o v) kind loc m2 x may (OnCell _ r b _ left _ at here row) = cell_wired m en many t s (RunEngine o v) may r b kind left x at here row
