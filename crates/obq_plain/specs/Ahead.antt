-- The act that an operation will be, told without doing it.
use Rattle.std.specs.Prelude.{Bool, None, Option, Some, false, if◌then◌else◌, not, option_map, true, ℕ, ◌&&◌}
use Rattle.obq_base.specs.declared.acts.ActKind.{ActKind}
use Rattle.obq_base.specs.declared.acts.Act.{Act}
use Rattle.obq_model.specs.Cells.{is_alias, is_clear}
use Rattle.obq_model.specs.Config.{act}
use Rattle.obq_model.specs.Effect.{Acting, Forking, Outcome, Waiting}
use Rattle.obq_model.specs.Step.{Self, Operation, Get, CallMethod, Leave, Set, Copy, RedirectTo, GetItem, GetSize, EachSize, EachItem, SetItem, ReadVariable, SetVariable, Write, LineUp, GiveUp, Signal, Broadcast, RunEngine}
use Rattle.obq_model.specs.Store.{ArrayCell, Cell, ConditionCell, ObjectCell, VariableCell, WriterCell, field, same_loc}
use Rattle.obq_model.specs.Terms.{FieldBody, Fields}

-- the act of an outcome; none where the operation waits
abbrev pub act_of : Outcome → Option Act
act_of Waiting = None
act_of (Acting kind l st focus) = Some (act kind l)
act_of (Forking l thread focus) = Some (act ActKind.Fork l)

-- the field is an alias
abbrev pub is_alias_field : Option (FieldBody ℕ) → Bool
is_alias_field None = false
is_alias_field (Some body) = is_alias body

-- a Hop where an alias is followed
abbrev pub hop_or : ActKind → Bool → ActKind
hop_or kind follows = if follows then ActKind.Hop else kind

-- the fields of an object that is clear
abbrev pub clear_fields : Self ℕ → ℕ → Option (Cell ℕ) → Option (Fields ℕ)
clear_fields s o (Some (ObjectCell flags owner fields)) = if is_clear same_loc s o flags owner then Some fields else None
clear_fields s o cell = None

-- the kind of an operation on an object whose fields these are
abbrev pub object_kind : Operation ℕ → Fields ℕ → ActKind
object_kind (Get o x) fields = hop_or ActKind.Get (is_alias_field (field x fields))
object_kind (CallMethod o x vs) fields = hop_or ActKind.Call (is_alias_field (field x fields))
object_kind (Set o x body) fields = hop_or ActKind.Set (is_alias_field (field x fields) && not (is_alias body))
object_kind (Copy o first copied rest) fields = ActKind.Copy
object_kind op fields = ActKind.Redirect

abbrev pub is_array : Option (Cell ℕ) → Bool
is_array (Some (ArrayCell vs)) = true
is_array cell = false

abbrev pub is_variable : Option (Cell ℕ) → Bool
is_variable (Some (VariableCell v)) = true
is_variable cell = false

abbrev pub is_writer : Option (Cell ℕ) → Bool
is_writer (Some (WriterCell bytes)) = true
is_writer cell = false

abbrev pub is_condition : Option (Cell ℕ) → Bool
is_condition (Some (ConditionCell line)) = true
is_condition cell = false

-- this kind, where the cell is one for it
abbrev pub kind_if : ActKind → Bool → Option ActKind
kind_if kind b = if b then Some kind else None

-- the kind of an operation on the single cell that it names; none where it waits
abbrev pub kind_ahead : Self ℕ → Operation ℕ → Option (Cell ℕ) → Option ActKind
kind_ahead s (Get o x) cell = option_map (object_kind (Get o x)) (clear_fields s o cell)
kind_ahead s (CallMethod o x vs) cell = option_map (object_kind (CallMethod o x vs)) (clear_fields s o cell)
kind_ahead s (Set o x body) cell = option_map (object_kind (Set o x body)) (clear_fields s o cell)
kind_ahead s (Copy o first copied rest) cell = option_map (object_kind (Copy o first copied rest)) (clear_fields s o cell)
kind_ahead s (RedirectTo o target) cell = option_map (object_kind (RedirectTo o target)) (clear_fields s o cell)
kind_ahead s (Leave o out) cell = Some ActKind.Leave
kind_ahead s (GetItem a i) cell = Some ActKind.ArrayGet
kind_ahead s (GetSize a) cell = Some ActKind.ArrayGet
kind_ahead s (EachSize a scope) cell = Some ActKind.ArrayGet
kind_ahead s (EachItem a i n scope) cell = Some ActKind.ArrayGet
kind_ahead s (SetItem a i v) cell = kind_if ActKind.ArraySet (is_array cell)
kind_ahead s (ReadVariable l) cell = Some ActKind.VarGet
kind_ahead s (SetVariable l v) cell = kind_if ActKind.VarSet (is_variable cell)
kind_ahead s (Write w text) cell = kind_if ActKind.Put (is_writer cell)
kind_ahead s (LineUp o c guard) cell = kind_if ActKind.Line (is_condition cell)
kind_ahead s (GiveUp o c guard) cell = Some ActKind.GiveUp
kind_ahead s (Signal c) cell = kind_if ActKind.Signal (is_condition cell)
kind_ahead s (Broadcast c) cell = kind_if ActKind.Broadcast (is_condition cell)
kind_ahead s (RunEngine e f) cell = Some ActKind.Engine
kind_ahead s op cell = None

-- the act at this location
abbrev pub act_at : ℕ → ActKind → Act
act_at l kind = act kind l
