-- The act that an operation will be is the act that it is.
use Rattle.std.proofs.Common.{Bool, List, None, Option, Some, [], ap, drop, false, if◌then◌else◌, length, nat_lt, negsuc, not, option_map, pos, refl, slice_get, suc, sym, true, ℕ, ℤ, ◌&&◌, ◌++◌, ◌==◌, ◌∙◌, ◌∷◌, ◌≡◌}
use Rattle.obq_base.specs.declared.acts.ActKind.{ActKind}
use Rattle.obq_base.specs.declared.trees.Flags.{Flags}
use Rattle.obq_model.proofs.OneCell.{perform_cell}
use Rattle.obq_model.specs.Cells.{cell_row, get_row, invoke_row, is_alias, is_clear, is_refused, item_at, item_row, items_of, line_row, object_row, on_object_row, set_here_row, set_item_row, set_row, set_variable_row, write_row}
use Rattle.obq_model.specs.Config.{Config, cell_at}
use Rattle.obq_model.specs.Effect as e
use Rattle.obq_model.specs.Effect.{ends_at, perform}
use Rattle.obq_model.specs.OneCell.{cell_of}
use Rattle.obq_model.specs.Put.{enter}
use Rattle.obq_model.specs.Step.{Self, Operation, Get, CallMethod, Set, Copy, RedirectTo, GetItem, EachItem, SetItem, SetVariable, Write, LineUp, Signal, Broadcast}
use Rattle.obq_model.specs.Store as c
use Rattle.obq_model.specs.Store.{ArrayCell, Cell, ConditionCell, EngineCell, ObjectCell, VariableCell, WriterCell, field, same_loc}
use Rattle.obq_model.specs.Terms as m
use Rattle.obq_model.specs.Terms.{IsValue, IsMethod, IsAlias}
use Rattle.obq_store.proofs.AnyEnds.{row_is_read}
use Rattle.obq_store.specs.Rows.{Ends, Outcome, Waits, read}
use Rattle.obq_plain.specs.Ahead.{act_at, act_of, clear_fields, hop_or, is_alias_field, is_array, is_condition, is_variable, is_writer, kind_ahead, kind_if, object_kind}

-- the kind of a row alone
abbrev kind_of : ActKind → Option (Cell ℕ) → m.Term ℕ → Option ActKind
kind_of kind left focus = Some kind

-- both ways of a choice are this
either : {A : Type 0} (b : Bool) (x y u : A) → u ≡ x → u ≡ y → u ≡ (if b then x else y)
either true x y u f g = f
either false x y u f g = g

got : (b : Option (m.FieldBody ℕ)) → Some (hop_or ActKind.Get (is_alias_field b)) ≡ get_row kind_of b
got None = refl
got (Some (IsValue v)) = refl
got (Some (IsMethod params body)) = refl
got (Some (IsAlias p y)) = refl

invoked : (t : ℕ) (s : Self ℕ) (o : ℕ) (flags : Flags) (owner : Option ℕ) (fields : m.Fields ℕ) (vs : List (m.Value ℕ)) (b : Option (m.FieldBody ℕ)) → Some (hop_or ActKind.Call (is_alias_field b)) ≡ invoke_row same_loc kind_of t s o flags owner fields vs b
invoked t s o flags owner fields vs None = refl
invoked t s o flags owner fields vs (Some (IsValue v)) = refl
invoked t s o flags owner fields vs (Some (IsAlias p y)) = refl
invoked t s o flags owner fields vs (Some (IsMethod params body)) = either (length params == suc (length vs)) _ _ _ refl refl

set_here : (s : Self ℕ) (o : ℕ) (flags : Flags) (owner : Option ℕ) (fields : m.Fields ℕ) (x : m.Bytes) (body : m.FieldBody ℕ) → Some ActKind.Set ≡ set_here_row same_loc kind_of s o flags owner fields x body
set_here s o flags owner fields x body = either (is_refused same_loc s o flags) _ _ _ refl refl

followed : (b : Bool) (x y : Option ActKind) → Some ActKind.Set ≡ x → Some ActKind.Hop ≡ y → Some (hop_or ActKind.Set (true && not b)) ≡ (if b then x else y)
followed true x y f g = f
followed false x y f g = g

were_set : (s : Self ℕ) (o : ℕ) (flags : Flags) (owner : Option ℕ) (fields : m.Fields ℕ) (x : m.Bytes) (body : m.FieldBody ℕ) (old : Option (m.FieldBody ℕ))
    → Some (hop_or ActKind.Set (is_alias_field old && not (is_alias body))) ≡ set_row same_loc kind_of s o flags owner fields x body old
were_set s o flags owner fields x body None = refl
were_set s o flags owner fields x body (Some (IsAlias p y)) = followed (is_alias body) _ _ (set_here s o flags owner fields x body) refl
were_set s o flags owner fields x body (Some (IsValue v)) = set_here s o flags owner fields x body
were_set s o flags owner fields x body (Some (IsMethod params b)) = set_here s o flags owner fields x body

at_object : (t : ℕ) (s : Self ℕ) (o : ℕ) (op : Operation ℕ)
    → ((flags : Flags) (owner : Option ℕ) (fields : m.Fields ℕ) → Some (object_kind op fields) ≡ on_object_row same_loc kind_of None t s o op flags owner fields)
    → (cell : Option (Cell ℕ)) → option_map (object_kind op) (clear_fields s o cell) ≡ object_row same_loc kind_of None t s o op cell
at_object t s o op row (Some (ObjectCell flags owner fields)) = by_case (is_clear same_loc s o flags owner) where
  by_case : (b : Bool) → option_map (object_kind op) (if b then Some fields else None) ≡ (if b then on_object_row same_loc kind_of None t s o op flags owner fields else None)
  by_case true = row flags owner fields
  by_case false = refl
at_object t s o op row cell = refl

item : (use_item : m.Value ℕ → m.Term ℕ) (v : Option (m.Value ℕ)) → Some ActKind.ArrayGet ≡ item_row kind_of use_item v
item use_item None = refl
item use_item (Some v) = refl

item_set : (i : ℤ) (v : m.Value ℕ) (cell : Option (Cell ℕ)) → kind_if ActKind.ArraySet (is_array cell) ≡ set_item_row kind_of None i v cell
item_set (pos i) v (Some (ArrayCell vs)) = either (nat_lt i (length vs)) _ _ _ refl refl
item_set (negsuc i) v (Some (ArrayCell vs)) = refl
item_set i v cell = refl

variable_set : (v : m.Value ℕ) (cell : Option (Cell ℕ)) → kind_if ActKind.VarSet (is_variable cell) ≡ set_variable_row kind_of None v cell
variable_set v (Some (VariableCell old)) = refl
variable_set v cell = refl

written : (text : m.Bytes) (cell : Option (Cell ℕ)) → kind_if ActKind.Put (is_writer cell) ≡ write_row kind_of None text cell
written text (Some (WriterCell old)) = refl
written text cell = refl

line : (kind : ActKind) (f : List ℕ → List ℕ) (focus : m.Term ℕ) (cell : Option (Cell ℕ)) → kind_if kind (is_condition cell) ≡ line_row kind_of None kind f focus cell
line kind f focus (Some (ConditionCell old)) = refl
line kind f focus cell = refl

-- the kind that is foreseen is that of the row
kind_row : (t : ℕ) (s : Self ℕ) (op : Operation ℕ) (cell : Option (Cell ℕ)) → kind_ahead s op cell ≡ cell_row same_loc kind_of None t s op cell
kind_row t s (Get o x) cell = at_object t s o (Get o x) (λ flags owner fields. got (field x fields)) cell
kind_row t s (CallMethod o x vs) cell = at_object t s o (CallMethod o x vs) (λ flags owner fields. invoked t s o flags owner fields vs (field x fields)) cell
kind_row t s (Set o x body) cell = at_object t s o (Set o x body) (λ flags owner fields. were_set s o flags owner fields x body (field x fields)) cell
kind_row t s (Copy o first copied rest) cell = at_object t s o (Copy o first copied rest) (λ flags owner fields. either (is_refused same_loc s o flags) _ _ _ refl refl) cell
kind_row t s (RedirectTo o target) cell = at_object t s o (RedirectTo o target) (λ flags owner fields. either (is_refused same_loc s o flags) _ _ _ refl refl) cell
kind_row t s (GetItem a i) cell = item (λ v. m.Const v) (item_at (items_of cell) i)
kind_row t s (EachItem a i n scope) cell = item (λ v. m.Form (m.EachIn a i n) (m.Part (enter (v ∷ []) scope) (m.Part scope m.End))) (slice_get (items_of cell) i)
kind_row t s (SetItem a i v) cell = item_set i v cell
kind_row t s (SetVariable l v) cell = variable_set v cell
kind_row t s (Write w text) cell = written text cell
kind_row t s (LineUp o c guard) cell = line ActKind.Line (λ l. l ++ t ∷ []) (m.Form (m.Lined o c) (m.Part guard m.End)) cell
kind_row t s (Signal c) cell = line ActKind.Signal (drop 1) (m.Const m.Okay) cell
kind_row t s (Broadcast c) cell = line ActKind.Broadcast (λ l. []) (m.Const m.Okay) cell
kind_row t s op cell = refl

-- no cell is as an engine
pub no_cell_ahead : (s : Self ℕ) (op : Operation ℕ) → kind_ahead s op (Some (EngineCell m.Okay)) ≡ kind_ahead s op None
no_cell_ahead s (Get o x) = refl
no_cell_ahead s op = refl

by_data : (st : c.Store ℕ) (l : ℕ) (d : Outcome) → option_map (act_at l) (read kind_of None d) ≡ act_of (read (ends_at st l) e.Waiting d)
by_data st l Waits = refl
by_data st l (Ends kind left focus) = refl

-- the act of an operation on the single cell that it names
pub act_named : (k : Config) (t : ℕ) (s : Self ℕ) (op : Operation ℕ) (l : ℕ) → cell_of op ≡ Some l → option_map (act_at l) (kind_ahead s op (cell_at k.store l)) ≡ act_of (perform k t s op)
act_named k t s op l named =
    let cell = cell_at k.store l in
    ap (option_map (act_at l)) (kind_row t s op cell ∙ sym (row_is_read kind_of None t s op cell))
    ∙ by_data k.store l (cell_row same_loc Ends Waits t s op cell)
    ∙ ap act_of (row_is_read (ends_at k.store l) e.Waiting t s op cell)
    ∙ ap act_of (sym (perform_cell k t s op l named))
