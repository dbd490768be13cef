-- An act other than Line, Signal and Broadcast leaves all lines.
use Rattle.std.specs.Prelude.{Bool, true, false, List, Option, Some, None, [], ◌∷◌, ℕ, ℤ, pos, negsuc, suc, length, nat_lt, not, slice_get, slice_set, refl, ◌||◌, ◌==◌, ◌≡◌, ◌⊎◌, if◌then◌else◌}
use Rattle.std.proofs.Common.{inl, inr, ap, sym, ◌∙◌, subst}
use Rattle.obq_base.specs.declared.acts.ActKind.{ActKind}
use Rattle.obq_base.specs.declared.trees.Flags.{Flags}
use Rattle.obq_model.specs.Terms.{Bytes, Object, Value, Loc, FieldBody, IsValue, IsMethod, IsAlias, Fields, Within, Term, Const, Form, Part, End}
use Rattle.obq_model.specs.Put.{put_all}
use Rattle.obq_model.specs.Exceptions.{arity}
use Rattle.obq_model.specs.Store.{Cell, ObjectCell, ArrayCell, VariableCell, WriterCell, ConditionCell, EngineCell, field, with_field, aliased}
use Rattle.obq_model.specs.Step.{Self, Operation, New, Get, CallMethod, Leave, Set, Copy, RedirectTo, GetItem, GetSize, EachSize, EachItem, SetItem, ReadVariable, SetVariable, Write, ForkOff, JoinWith, LineUp, GiveUp, Again, Signal, Broadcast, Export, Import, RunEngine, testing}
use Rattle.obq_model.specs.Cells.{is_clear, is_refused, mode_for, owner_for, get_row, invoke_row, set_here_row, set_row, copy_row, redirect_row, on_object_row, object_row, owned_cell, item_row, items_of, item_at, set_item_row, set_variable_row, write_row, cell_row, is_free}
use Rattle.obq_model.specs.Effect.{in_line, line_of}
use Rattle.obq_stands.specs.World.{Ref, same_ref, Born, Heap, with_ref, Memory, with_left, with_made, Row, Idle, Ends}
use Rattle.obq_stands.specs.Stands.{OnCell, Makes, Retakes, Joins, Exports, Imports, TooMany}
use Rattle.obq_stands.specs.Watch.{SameLines, KeepsLines, ActKeepsLines}
use Rattle.obq_stands.proofs.Refs.{ref_or, with_ref_same, with_ref_other}
use Rattle.obq_stands.proofs.Memory.{born_as, left_later, made_later}

-- the row leaves the line of the cell
abbrev RowLine : List ℕ → Row Ref → Type 0
RowLine l Idle = Unit {0}
RowLine l (Ends kind None x) = Unit {0}
RowLine l (Ends kind (Some c) x) = line_of (Some c) ≡ l

line_if : (l : List ℕ) (b : Bool) (x y : Row Ref) → RowLine l x → RowLine l y → RowLine l (if b then x else y)
line_if l true x y h i = h
line_if l false x y h i = i

get_line : (body : Option (FieldBody Ref)) → RowLine [] (get_row Ends body)
get_line None = tt
get_line (Some (IsValue v)) = tt
get_line (Some (IsMethod params body)) = tt
get_line (Some (IsAlias p y)) = tt

invoke_line : (t : ℕ) (s : Self Ref) (o : Ref) (flags : Flags) (owner : Option ℕ) (fields : Fields Ref) (vs : List (Value Ref)) (body : Option (FieldBody Ref)) → RowLine [] (invoke_row same_ref Ends t s o flags owner fields vs body)
invoke_line t s o flags owner fields vs None = tt
invoke_line t s o flags owner fields vs (Some (IsValue v)) = tt
invoke_line t s o flags owner fields vs (Some (IsAlias p y)) = tt
invoke_line t s o flags owner fields vs (Some (IsMethod params body)) =
    line_if [] (length params == suc (length vs)) (Ends ActKind.Call (Some (ObjectCell flags (owner_for same_ref s o flags t owner) fields)) (Form (Within o (mode_for same_ref s o flags)) (Part (put_all (Loc Object o ∷ vs) params body) End))) (Ends ActKind.Call None arity) refl tt

set_here_line : (s : Self Ref) (o : Ref) (flags : Flags) (owner : Option ℕ) (fields : Fields Ref) (x : Bytes) (body : FieldBody Ref) → RowLine [] (set_here_row same_ref Ends s o flags owner fields x body)
set_here_line s o flags owner fields x body = line_if [] (is_refused same_ref s o flags) (Ends ActKind.Set None _) (Ends ActKind.Set (Some (ObjectCell flags owner (with_field x body fields))) _) tt refl

set_line : (s : Self Ref) (o : Ref) (flags : Flags) (owner : Option ℕ) (fields : Fields Ref) (x : Bytes) (body : FieldBody Ref) (old : Option (FieldBody Ref)) → RowLine [] (set_row same_ref Ends s o flags owner fields x body old)
set_line s o flags owner fields x body None = tt
set_line s o flags owner fields x (IsValue v) (Some (IsAlias p y)) = tt
set_line s o flags owner fields x (IsMethod params t) (Some (IsAlias p y)) = tt
set_line s o flags owner fields x (IsAlias q z) (Some (IsAlias p y)) = set_here_line s o flags owner fields x (IsAlias q z)
set_line s o flags owner fields x body (Some (IsValue v)) = set_here_line s o flags owner fields x body
set_line s o flags owner fields x body (Some (IsMethod params t)) = set_here_line s o flags owner fields x body

copy_line : (s : Self Ref) (o : Ref) (flags : Flags) (fields : Fields Ref) (first : Option Flags) (copied : Fields Ref) (rest : List Ref) → RowLine [] (copy_row same_ref Ends s o flags fields first copied rest)
copy_line s o flags fields first copied rest = line_if [] (is_refused same_ref s o flags) (Ends ActKind.Copy None _) (Ends ActKind.Copy None _) tt tt

redirect_line : (s : Self Ref) (o : Ref) (flags : Flags) (owner : Option ℕ) (fields : Fields Ref) (target : Ref) → RowLine [] (redirect_row same_ref Ends s o flags owner fields target)
redirect_line s o flags owner fields target = line_if [] (is_refused same_ref s o flags) (Ends ActKind.Redirect None _) (Ends ActKind.Redirect (Some (ObjectCell flags owner (aliased target fields))) _) tt refl

object_line : (t : ℕ) (s : Self Ref) (o : Ref) (op : Operation Ref) (c : Cell Ref) → ((flags : Flags) (owner : Option ℕ) (fields : Fields Ref) → RowLine [] (on_object_row same_ref Ends Idle t s o op flags owner fields)) → RowLine (line_of (Some c)) (object_row same_ref Ends Idle t s o op (Some c))
object_line t s o op (ObjectCell flags owner fields) h = line_if [] (is_clear same_ref s o flags owner) (on_object_row same_ref Ends Idle t s o op flags owner fields) Idle (h flags owner fields) tt
object_line t s o op (ArrayCell vs) h = tt
object_line t s o op (VariableCell v) h = tt
object_line t s o op (WriterCell b) h = tt
object_line t s o op (ConditionCell l) h = tt
object_line t s o op (EngineCell v) h = tt

owned_line : (kind : ActKind) (owner : Option ℕ) (c : Cell Ref) (x : Term Ref) → RowLine (line_of (Some c)) (Ends kind (owned_cell owner (Some c)) x)
owned_line kind owner (ObjectCell flags old fields) x = refl
owned_line kind owner (ArrayCell vs) x = tt
owned_line kind owner (VariableCell v) x = tt
owned_line kind owner (WriterCell b) x = tt
owned_line kind owner (ConditionCell l) x = tt
owned_line kind owner (EngineCell v) x = tt

item_line : (l : List ℕ) (u : Value Ref → Term Ref) (v : Option (Value Ref)) → RowLine l (item_row Ends u v)
item_line l u None = tt
item_line l u (Some v) = tt

set_item_line : (i : ℤ) (v : Value Ref) (c : Cell Ref) → RowLine (line_of (Some c)) (set_item_row Ends Idle i v (Some c))
set_item_line (pos i) v (ArrayCell vs) = line_if [] (nat_lt i (length vs)) (Ends ActKind.ArraySet (Some (ArrayCell (slice_set vs i v))) _) (Ends ActKind.ArraySet None _) refl tt
set_item_line (negsuc i) v (ArrayCell vs) = tt
set_item_line (pos i) u (ObjectCell flags owner fields) = tt
set_item_line (pos i) u (VariableCell v) = tt
set_item_line (pos i) u (WriterCell b) = tt
set_item_line (pos i) u (ConditionCell l) = tt
set_item_line (pos i) u (EngineCell v) = tt
set_item_line (negsuc i) u (ObjectCell flags owner fields) = tt
set_item_line (negsuc i) u (VariableCell v) = tt
set_item_line (negsuc i) u (WriterCell b) = tt
set_item_line (negsuc i) u (ConditionCell l) = tt
set_item_line (negsuc i) u (EngineCell v) = tt

set_variable_line : (v : Value Ref) (c : Cell Ref) → RowLine (line_of (Some c)) (set_variable_row Ends Idle v (Some c))
set_variable_line u (VariableCell v) = refl
set_variable_line u (ObjectCell flags owner fields) = tt
set_variable_line u (ArrayCell vs) = tt
set_variable_line u (WriterCell b) = tt
set_variable_line u (ConditionCell l) = tt
set_variable_line u (EngineCell v) = tt

write_line : (text : Bytes) (c : Cell Ref) → RowLine (line_of (Some c)) (write_row Ends Idle text (Some c))
write_line text (WriterCell b) = refl
write_line text (ObjectCell flags owner fields) = tt
write_line text (ArrayCell vs) = tt
write_line text (VariableCell v) = tt
write_line text (ConditionCell l) = tt
write_line text (EngineCell v) = tt

row_line : (t : ℕ) (s : Self Ref) (op : Operation Ref) (c : Cell Ref) → KeepsLines op → RowLine (line_of (Some c)) (cell_row same_ref Ends Idle t s op (Some c))
row_line t s (New cell after) c h = tt
row_line t s (Get o x) c h = object_line t s o (Get o x) c (λ flags owner fields. get_line (field x fields))
row_line t s (CallMethod o x vs) c h = object_line t s o (CallMethod o x vs) c (λ flags owner fields. invoke_line t s o flags owner fields vs (field x fields))
row_line t s (Leave o out) c h = owned_line ActKind.Leave None c out
row_line t s (Set o x body) c h = object_line t s o (Set o x body) c (λ flags owner fields. set_line s o flags owner fields x body (field x fields))
row_line t s (Copy o first copied rest) c h = object_line t s o (Copy o first copied rest) c (λ flags owner fields. copy_line s o flags fields first copied rest)
row_line t s (RedirectTo o target) c h = object_line t s o (RedirectTo o target) c (λ flags owner fields. redirect_line s o flags owner fields target)
row_line t s (GetItem a i) c h = item_line (line_of (Some c)) (λ v. Const v) (item_at (items_of (Some c)) i)
row_line t s (GetSize a) c h = tt
row_line t s (EachSize a scope) c h = tt
row_line t s (EachItem a i n scope) c h = item_line (line_of (Some c)) _ (slice_get (items_of (Some c)) i)
row_line t s (SetItem a i v) c h = set_item_line i v c
row_line t s (ReadVariable l) c h = tt
row_line t s (SetVariable l v) c h = set_variable_line v c
row_line t s (Write w text) c h = write_line text c
row_line t s (ForkOff v) c h = tt
row_line t s (JoinWith u) c h = tt
row_line t s (LineUp o q guard) c h = absurd h
row_line t s (GiveUp o q guard) c h = owned_line ActKind.GiveUp None c _
row_line t s (Again o q guard) c h = tt
row_line t s (Signal q) c h = absurd h
row_line t s (Broadcast q) c h = absurd h
row_line t s (Export x v) c h = tt
row_line t s (Import x engine) c h = tt
row_line t s (RunEngine e f) c h = tt

some_born : (z : Option Born) (a b : Born) → z ≡ Some a → z ≡ Some b → a ≡ b
some_born z a b e f = cc (e, f)

pub unchanged : (h : Heap) → SameLines h h
unchanged h = record { later = λ f a. a; kept = λ r y e. (y, e, refl); lines = λ r y e. inr (y, e, refl) }

pub left_lines : (m : Memory) (r : Ref) (x : Born) (left : Option (Cell Ref)) (kind : ActKind) (u : Term Ref) → m.heap r ≡ Some x → RowLine (line_of (Some x.cell)) (Ends kind left u) → SameLines m.heap (with_left m r x.born left).heap
left_lines m r x None kind u here k = unchanged m.heap
left_lines m r x (Some cell) kind u here k =
    record {
      later = left_later m.heap r x cell here;
      kept = λ q y e. by_kept q y e (ref_or q r);
      lines = λ q y2 e. by_line q y2 e (ref_or q r);
    }
  where
    new_at : (q : Ref) → q ≡ r → with_ref m.heap r (Some (born_as x.born cell)) q ≡ Some (born_as x.born cell)
    new_at q p = rw p (with_ref_same m.heap r (Some (born_as x.born cell)))

    by_kept : (q : Ref) (y : Born) → m.heap q ≡ Some y → ((q ≡ r) ⊎ (q ≡ r → ⊥)) → (y2 : Born) × (with_ref m.heap r (Some (born_as x.born cell)) q ≡ Some y2) × (line_of (Some y2.cell) ≡ line_of (Some y.cell))
    by_kept q y e (inl p) =
        let same : x ≡ y = some_born (m.heap q) x y (rw p here) e in
        (born_as x.born cell, new_at q p, k ∙ ap (λ (b : Born). line_of (Some b.cell)) same)
    by_kept q y e (inr ne) = (y, with_ref_other m.heap r (Some (born_as x.born cell)) q ne ∙ e, refl)

    by_line : (q : Ref) (y2 : Born) → with_ref m.heap r (Some (born_as x.born cell)) q ≡ Some y2 → ((q ≡ r) ⊎ (q ≡ r → ⊥)) → (line_of (Some y2.cell) ≡ []) ⊎ ((y : Born) × (m.heap q ≡ Some y) × (line_of (Some y2.cell) ≡ line_of (Some y.cell)))
    by_line q y2 e (inl p) =
        let same : born_as x.born cell ≡ y2 = some_born (with_ref m.heap r (Some (born_as x.born cell)) q) (born_as x.born cell) y2 (new_at q p) e in
        inr (x, rw p here, ap (λ (b : Born). line_of (Some b.cell)) (sym same) ∙ k)
    by_line q y2 e (inr ne) = inr (y2, sym (with_ref_other m.heap r (Some (born_as x.born cell)) q ne) ∙ e, refl)

made_lines : (m : Memory) (r : Ref) (cell : Cell Ref) → m.heap r ≡ None → line_of (Some cell) ≡ [] → SameLines m.heap (with_made m r cell).heap
made_lines m r cell none bare =
    record {
      later = made_later m.heap r (born_as m.count cell) none;
      kept = λ q y e. (y, with_ref_other m.heap r (Some (born_as m.count cell)) q (λ p. apart (m.heap q) y (rw p none) e) ∙ e, refl);
      lines = λ q y2 e. by_line q y2 e (ref_or q r);
    }
  where
    apart : (z : Option Born) (y : Born) → z ≡ None → z ≡ Some y → ⊥
    apart z y e f = cc (e, f)

    by_line : (q : Ref) (y2 : Born) → with_ref m.heap r (Some (born_as m.count cell)) q ≡ Some y2 → ((q ≡ r) ⊎ (q ≡ r → ⊥)) → (line_of (Some y2.cell) ≡ []) ⊎ ((y : Born) × (m.heap q ≡ Some y) × (line_of (Some y2.cell) ≡ line_of (Some y.cell)))
    by_line q y2 e (inl p) =
        let there : with_ref m.heap r (Some (born_as m.count cell)) q ≡ Some (born_as m.count cell) = rw p (with_ref_same m.heap r (Some (born_as m.count cell))) in
        let same : born_as m.count cell ≡ y2 = some_born (with_ref m.heap r (Some (born_as m.count cell)) q) (born_as m.count cell) y2 there e in
        inl (ap (λ (b : Born). line_of (Some b.cell)) (sym same) ∙ bare)
    by_line q y2 e (inr ne) = inr (y2, sym (with_ref_other m.heap r (Some (born_as m.count cell)) q ne) ∙ e, refl)

pub act_keeps_lines : ActKeepsLines
act_keeps_lines m en threads t s op kind loc m2 x h (OnCell _ r b _ left _ at here row) = left_lines m r b left kind x here (subst (RowLine (line_of (Some b.cell))) row (row_line t s op b.cell h))
act_keeps_lines m en threads t s op kind loc m2 x h (Makes r cell after none) = made_lines m r cell none h
act_keeps_lines m en threads t s op kind loc m2 x h (Retakes o q guard a b _ left _ here there row) =
    left_lines m o a left kind x here (subst (RowLine (line_of (Some a.cell))) row
    (line_if (line_of (Some a.cell)) (in_line t (line_of (Some b.cell)) || not (is_free (Some a.cell))) Idle (Ends ActKind.Again (owned_cell (Some t) (Some a.cell)) (testing o q guard)) tt (owned_line ActKind.Again (Some t) a.cell (testing o q guard))))
act_keeps_lines m en threads t s op kind loc m2 x h (Joins u b e is) = unchanged m.heap
act_keeps_lines m en threads t s op kind loc m2 x h (Exports name v) = unchanged m.heap
act_keeps_lines m en threads t s op kind loc m2 x h (Imports name engine _ _ row) = unchanged m.heap
act_keeps_lines m en threads t s op kind loc m2 x h (TooMany v many) = unchanged m.heap
