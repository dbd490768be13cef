-- What an operation does to its cell is the same under every reading of the references.
use Rattle.std.specs.Prelude.{Bool, List, None, Option, Some, [], bytes_eq, drop, false, if◌then◌else◌, is_none, length, map, nat_lt, negsuc, not, option_map, pos, refl, slice_get, slice_set, suc, true, unwrap_or, ℕ, ℤ, ◌&&◌, ◌++◌, ◌==◌, ◌||◌, ◌∷◌, ◌≡◌}
use Rattle.std.proofs.Common.{ap, sym, ◌∙◌}
use Rattle.std.proofs.lemmas.List.{length-map, map-set}
use Rattle.std.proofs.lemmas.Option.{slice_get-map}
use Rattle.obq_base.specs.declared.acts.ActKind.{ActKind}
use Rattle.obq_base.specs.declared.trees.Flags.{Flags}
use Rattle.obq_model.specs.Terms.{Bytes, Object, Variable, Engine, Plain, Held, Inner, Value, Int, Okay, Loc, FieldBody, IsValue, IsMethod, IsAlias, Fields, Bare, Field, Kind, Select, Invoke, Called, Within, EachAt, EachIn, Cloning, Lined, Out, Term, Const, Form, End, Part}
use Rattle.obq_model.specs.Put.{put_all, enter}
use Rattle.obq_model.specs.Exceptions.{wrong_type, arity, array_index, field_missing, not_method, not_value, is_protected}
use Rattle.obq_model.specs.Store.{Cell, ObjectCell, ArrayCell, VariableCell, WriterCell, ConditionCell, EngineCell, field, with_field, append_fields, aliased, exported, export}
use Rattle.obq_model.specs.Step.{Self, Itself, Entered, Offered, Operation, New, Get, CallMethod, Leave, Set, Copy, RedirectTo, GetItem, GetSize, EachSize, EachItem, SetItem, ReadVariable, SetVariable, Write, ForkOff, JoinWith, LineUp, GiveUp, Again, Signal, Broadcast, Export, Import, RunEngine, body_with, testing}
use Rattle.obq_model.specs.Maps.{map_value, map_body, map_fields, map_kind, map_term, map_cell, map_self, map_operation, map_entry, map_names}
use Rattle.obq_model.specs.Effect.{line_of}
use Rattle.obq_model.specs.OneCell.{cell_of, owner_of}
use Rattle.obq_model.specs.Cells.{Ends, is_object, is_clear, is_refused, mode_for, owner_for, at_target, get_row, invoke_row, set_at_target, is_alias, set_here_row, set_row, copy_row, redirect_row, on_object_row, object_row, owned_cell, item_row, items_of, item_at, set_item_row, set_variable_row, write_row, line_row, value_of, cell_row, is_free}
use Rattle.obq_model.specs.Naturality.{Tells, SameEnds, NaturalAgain, NaturalImport, NaturalNew}
use Rattle.obq_model.proofs.Naturality.{if_same, map_put_all, map_enter, map_values_before, map_body_with}

-- ---- fields
map_field : {R S : Type 0} (f : R → S) (x : Bytes) (fs : Fields R) → option_map (map_body f) (field x fs) ≡ field x (map_fields f fs)
map_field f x Bare = refl
map_field f x (Field y body fs) = if_same (option_map (map_body f)) (bytes_eq x y) (bytes_eq x y) (Some body) (field x fs) (Some (map_body f body)) (field x (map_fields f fs)) refl refl (map_field f x fs)

map_with_field : {R S : Type 0} (f : R → S) (x : Bytes) (body : FieldBody R) (fs : Fields R) → map_fields f (with_field x body fs) ≡ with_field x (map_body f body) (map_fields f fs)
map_with_field f x body Bare = refl
map_with_field f x body (Field y old fs) =
    if_same (map_fields f) (bytes_eq x y) (bytes_eq x y) (Field y body fs) (Field y old (with_field x body fs)) (Field y (map_body f body) (map_fields f fs)) (Field y (map_body f old) (with_field x (map_body f body) (map_fields f fs)))
    refl refl (ap (Field y (map_body f old)) (map_with_field f x body fs))

map_append_fields : {R S : Type 0} (f : R → S) (fs gs : Fields R) → map_fields f (append_fields fs gs) ≡ append_fields (map_fields f fs) (map_fields f gs)
map_append_fields f Bare gs = refl
map_append_fields f (Field x body fs) gs = ap (Field x (map_body f body)) (map_append_fields f fs gs)

map_aliased : {R S : Type 0} (f : R → S) (target : R) (fs : Fields R) → map_fields f (aliased target fs) ≡ aliased (f target) (map_fields f fs)
map_aliased f target Bare = refl
map_aliased f target (Field x body fs) = ap (Field x (IsAlias (f target) x)) (map_aliased f target fs)

-- ---- the current self
map_is_object : {R S : Type 0} (f : R → S) (eq : R → R → Bool) (eqS : S → S → Bool) → Tells f eq eqS → (o : Option R) (p : R) → is_object eqS (option_map f o) (f p) ≡ is_object eq o p
map_is_object f eq eqS tells None p = refl
map_is_object f eq eqS tells (Some o) p = tells o p

map_is_clear : {R S : Type 0} (f : R → S) (eq : R → R → Bool) (eqS : S → S → Bool) → Tells f eq eqS → (s : Self R) (o : R) (flags : Flags) (owner : Option ℕ) → is_clear eqS (map_self f s) (f o) flags owner ≡ is_clear eq s o flags owner
map_is_clear f eq eqS tells s o flags owner = ap (λ b. not flags.serialized || (b || is_none owner)) (map_is_object f eq eqS tells s.object o)

map_is_refused : {R S : Type 0} (f : R → S) (eq : R → R → Bool) (eqS : S → S → Bool) → Tells f eq eqS → (s : Self R) (o : R) (flags : Flags) → is_refused eqS (map_self f s) (f o) flags ≡ is_refused eq s o flags
map_is_refused f eq eqS tells s o flags = ap (λ b. flags.protected && not b) (map_is_object f eq eqS tells s.object o)

map_mode_for : {R S : Type 0} (f : R → S) (eq : R → R → Bool) (eqS : S → S → Bool) → Tells f eq eqS → (s : Self R) (o : R) (flags : Flags) → mode_for eqS (map_self f s) (f o) flags ≡ mode_for eq s o flags
map_mode_for f eq eqS tells s o flags = ap (λ b. if flags.serialized then (if b then Inner else Held) else Plain) (map_is_object f eq eqS tells s.object o)

map_owner_for : {R S : Type 0} (f : R → S) (eq : R → R → Bool) (eqS : S → S → Bool) → Tells f eq eqS → (s : Self R) (o : R) (flags : Flags) (t : ℕ) (owner : Option ℕ) → owner_for eqS (map_self f s) (f o) flags t owner ≡ owner_for eq s o flags t owner
map_owner_for f eq eqS tells s o flags t owner = ap (λ b. if flags.serialized && not b then Some t else owner) (map_is_object f eq eqS tells s.object o)

map_at_target : {R S : Type 0} (f : R → S) (k : Kind R) (p : R) (vs : List (Value R)) → map_term f (at_target k p vs) ≡ at_target (map_kind f k) (f p) (map (map_value f) vs)
map_at_target f k p vs = ap (Form (map_kind f k)) (map_values_before f (Loc Object p ∷ vs) End)

-- ---- an object
map_get_row : {R S X Y : Type 0} (f : R → S) (h : X → Y) (eq : R → R → Bool) (eqS : S → S → Bool) (ends : Ends R X) (endsS : Ends S Y) (waits : X) (waitsS : Y) → Tells f eq eqS → SameEnds f h ends endsS → h waits ≡ waitsS → (b : Option (FieldBody R)) → h (get_row ends b) ≡ get_row endsS (option_map (map_body f) b)
map_get_row f h eq eqS ends endsS waits waitsS tells e w None = e ActKind.Get None field_missing
map_get_row f h eq eqS ends endsS waits waitsS tells e w (Some (IsValue v)) = e ActKind.Get None (Const v)
map_get_row f h eq eqS ends endsS waits waitsS tells e w (Some (IsMethod params body)) = e ActKind.Get None not_value
map_get_row f h eq eqS ends endsS waits waitsS tells e w (Some (IsAlias p y)) = e ActKind.Hop None (at_target (Select y) p [])

map_invoke_row : {R S X Y : Type 0} (f : R → S) (h : X → Y) (eq : R → R → Bool) (eqS : S → S → Bool) (ends : Ends R X) (endsS : Ends S Y) (waits : X) (waitsS : Y) → Tells f eq eqS → SameEnds f h ends endsS → h waits ≡ waitsS → (t : ℕ) (s : Self R) (o : R) (flags : Flags) (owner : Option ℕ) (fields : Fields R) (vs : List (Value R)) (b : Option (FieldBody R)) → h (invoke_row eq ends t s o flags owner fields vs b) ≡ invoke_row eqS endsS t (map_self f s) (f o) flags owner (map_fields f fields) (map (map_value f) vs) (option_map (map_body f) b)
map_invoke_row f h eq eqS ends endsS waits waitsS tells e w t s o flags owner fields vs None = e ActKind.Call None field_missing
map_invoke_row f h eq eqS ends endsS waits waitsS tells e w t s o flags owner fields vs (Some (IsValue v)) = e ActKind.Call None not_method
map_invoke_row f h eq eqS ends endsS waits waitsS tells e w t s o flags owner fields vs (Some (IsAlias p y)) = e ActKind.Hop None (at_target (Invoke y) p vs) ∙ ap (endsS ActKind.Hop None) (map_at_target f (Invoke y) p vs)
map_invoke_row f h eq eqS ends endsS waits waitsS tells e w t s o flags owner fields vs (Some (IsMethod params body)) =
    if_same h (length params == suc (length vs)) (length params == suc (length (map (map_value f) vs)))
    (ends ActKind.Call (Some (ObjectCell flags (owner_for eq s o flags t owner) fields)) (Form (Within o (mode_for eq s o flags)) (Part (put_all (Loc Object o ∷ vs) params body) End))) (ends ActKind.Call None arity)
    (endsS ActKind.Call (Some (ObjectCell flags (owner_for eqS (map_self f s) (f o) flags t owner) (map_fields f fields))) (Form (Within (f o) (mode_for eqS (map_self f s) (f o) flags)) (Part (put_all (Loc Object (f o) ∷ (map (map_value f) vs)) params (map_term f body)) End))) (endsS ActKind.Call None arity)
    (ap (λ n. length params == suc n) (length-map vs (map_value f)))
    (e ActKind.Call (Some (ObjectCell flags (owner_for eq s o flags t owner) fields)) (Form (Within o (mode_for eq s o flags)) (Part (put_all (Loc Object o ∷ vs) params body) End))
    ∙ ap (λ z. endsS ActKind.Call (Some (ObjectCell flags z (map_fields f fields))) (Form (Within (f o) (mode_for eq s o flags)) (Part (map_term f (put_all (Loc Object o ∷ vs) params body)) End))) (sym (map_owner_for f eq eqS tells s o flags t owner))
    ∙ ap (λ m. endsS ActKind.Call (Some (ObjectCell flags (owner_for eqS (map_self f s) (f o) flags t owner) (map_fields f fields))) (Form (Within (f o) m) (Part (map_term f (put_all (Loc Object o ∷ vs) params body)) End))) (sym (map_mode_for f eq eqS tells s o flags))
    ∙ ap (λ u. endsS ActKind.Call (Some (ObjectCell flags (owner_for eqS (map_self f s) (f o) flags t owner) (map_fields f fields))) (Form (Within (f o) (mode_for eqS (map_self f s) (f o) flags)) (Part u End))) (map_put_all f (Loc Object o ∷ vs) params body))
    (e ActKind.Call None arity)

map_set_at_target : {R S : Type 0} (f : R → S) (p : R) (y : Bytes) (b : FieldBody R) → map_term f (set_at_target p y b) ≡ set_at_target (f p) y (map_body f b)
map_set_at_target f p y (IsValue v) = refl
map_set_at_target f p y (IsMethod params body) = refl
map_set_at_target f p y (IsAlias q z) = refl

map_is_alias : {R S : Type 0} (f : R → S) (b : FieldBody R) → is_alias (map_body f b) ≡ is_alias b
map_is_alias f (IsValue v) = refl
map_is_alias f (IsMethod params body) = refl
map_is_alias f (IsAlias q z) = refl

map_set_here : {R S X Y : Type 0} (f : R → S) (h : X → Y) (eq : R → R → Bool) (eqS : S → S → Bool) (ends : Ends R X) (endsS : Ends S Y) (waits : X) (waitsS : Y) → Tells f eq eqS → SameEnds f h ends endsS → h waits ≡ waitsS → (s : Self R) (o : R) (flags : Flags) (owner : Option ℕ) (fields : Fields R) (x : Bytes) (body : FieldBody R) → h (set_here_row eq ends s o flags owner fields x body) ≡ set_here_row eqS endsS (map_self f s) (f o) flags owner (map_fields f fields) x (map_body f body)
map_set_here f h eq eqS ends endsS waits waitsS tells e w s o flags owner fields x body =
    if_same h (is_refused eq s o flags) (is_refused eqS (map_self f s) (f o) flags) (ends ActKind.Set None is_protected) (ends ActKind.Set (Some (ObjectCell flags owner (with_field x body fields))) (Const Okay))
    (endsS ActKind.Set None is_protected) (endsS ActKind.Set (Some (ObjectCell flags owner (with_field x (map_body f body) (map_fields f fields)))) (Const Okay))
    (map_is_refused f eq eqS tells s o flags) (e ActKind.Set None is_protected)
    (e ActKind.Set (Some (ObjectCell flags owner (with_field x body fields))) (Const Okay) ∙ ap (λ fs. endsS ActKind.Set (Some (ObjectCell flags owner fs)) (Const Okay)) (map_with_field f x body fields))

map_set_row : {R S X Y : Type 0} (f : R → S) (h : X → Y) (eq : R → R → Bool) (eqS : S → S → Bool) (ends : Ends R X) (endsS : Ends S Y) (waits : X) (waitsS : Y) → Tells f eq eqS → SameEnds f h ends endsS → h waits ≡ waitsS → (s : Self R) (o : R) (flags : Flags) (owner : Option ℕ) (fields : Fields R) (x : Bytes) (body : FieldBody R) (old : Option (FieldBody R)) → h (set_row eq ends s o flags owner fields x body old) ≡ set_row eqS endsS (map_self f s) (f o) flags owner (map_fields f fields) x (map_body f body) (option_map (map_body f) old)
map_set_row f h eq eqS ends endsS waits waitsS tells e w s o flags owner fields x body None = e ActKind.Set None field_missing
map_set_row f h eq eqS ends endsS waits waitsS tells e w s o flags owner fields x body (Some (IsAlias p y)) =
    if_same h (is_alias body) (is_alias (map_body f body)) (set_here_row eq ends s o flags owner fields x body) (ends ActKind.Hop None (set_at_target p y body))
    (set_here_row eqS endsS (map_self f s) (f o) flags owner (map_fields f fields) x (map_body f body)) (endsS ActKind.Hop None (set_at_target (f p) y (map_body f body)))
    (map_is_alias f body) (map_set_here f h eq eqS ends endsS waits waitsS tells e w s o flags owner fields x body) (e ActKind.Hop None (set_at_target p y body) ∙ ap (endsS ActKind.Hop None) (map_set_at_target f p y body))
map_set_row f h eq eqS ends endsS waits waitsS tells e w s o flags owner fields x body (Some (IsValue v)) = map_set_here f h eq eqS ends endsS waits waitsS tells e w s o flags owner fields x body
map_set_row f h eq eqS ends endsS waits waitsS tells e w s o flags owner fields x body (Some (IsMethod params b)) = map_set_here f h eq eqS ends endsS waits waitsS tells e w s o flags owner fields x body

map_copy_row : {R S X Y : Type 0} (f : R → S) (h : X → Y) (eq : R → R → Bool) (eqS : S → S → Bool) (ends : Ends R X) (endsS : Ends S Y) (waits : X) (waitsS : Y) → Tells f eq eqS → SameEnds f h ends endsS → h waits ≡ waitsS → (s : Self R) (o : R) (flags : Flags) (fields : Fields R) (first : Option Flags) (copied : Fields R) (rest : List R) → h (copy_row eq ends s o flags fields first copied rest) ≡ copy_row eqS endsS (map_self f s) (f o) flags (map_fields f fields) first (map_fields f copied) (map f rest)
map_copy_row f h eq eqS ends endsS waits waitsS tells e w s o flags fields first copied rest =
    if_same h (is_refused eq s o flags) (is_refused eqS (map_self f s) (f o) flags) (ends ActKind.Copy None is_protected) (ends ActKind.Copy None (Form (Cloning (Some (unwrap_or first flags)) (append_fields copied fields) rest) End))
    (endsS ActKind.Copy None is_protected) (endsS ActKind.Copy None (Form (Cloning (Some (unwrap_or first flags)) (append_fields (map_fields f copied) (map_fields f fields)) (map f rest)) End))
    (map_is_refused f eq eqS tells s o flags) (e ActKind.Copy None is_protected)
    (e ActKind.Copy None (Form (Cloning (Some (unwrap_or first flags)) (append_fields copied fields) rest) End) ∙ ap (λ fs. endsS ActKind.Copy None (Form (Cloning (Some (unwrap_or first flags)) fs (map f rest)) End)) (map_append_fields f copied fields))

map_redirect_row : {R S X Y : Type 0} (f : R → S) (h : X → Y) (eq : R → R → Bool) (eqS : S → S → Bool) (ends : Ends R X) (endsS : Ends S Y) (waits : X) (waitsS : Y) → Tells f eq eqS → SameEnds f h ends endsS → h waits ≡ waitsS → (s : Self R) (o : R) (flags : Flags) (owner : Option ℕ) (fields : Fields R) (target : R) → h (redirect_row eq ends s o flags owner fields target) ≡ redirect_row eqS endsS (map_self f s) (f o) flags owner (map_fields f fields) (f target)
map_redirect_row f h eq eqS ends endsS waits waitsS tells e w s o flags owner fields target =
    if_same h (is_refused eq s o flags) (is_refused eqS (map_self f s) (f o) flags) (ends ActKind.Redirect None is_protected) (ends ActKind.Redirect (Some (ObjectCell flags owner (aliased target fields))) (Const Okay))
    (endsS ActKind.Redirect None is_protected) (endsS ActKind.Redirect (Some (ObjectCell flags owner (aliased (f target) (map_fields f fields)))) (Const Okay))
    (map_is_refused f eq eqS tells s o flags) (e ActKind.Redirect None is_protected)
    (e ActKind.Redirect (Some (ObjectCell flags owner (aliased target fields))) (Const Okay) ∙ ap (λ fs. endsS ActKind.Redirect (Some (ObjectCell flags owner fs)) (Const Okay)) (map_aliased f target fields))

map_on_object : {R S X Y : Type 0} (f : R → S) (h : X → Y) (eq : R → R → Bool) (eqS : S → S → Bool) (ends : Ends R X) (endsS : Ends S Y) (waits : X) (waitsS : Y) → Tells f eq eqS → SameEnds f h ends endsS → h waits ≡ waitsS → (t : ℕ) (s : Self R) (o : R) (op : Operation R) (flags : Flags) (owner : Option ℕ) (fields : Fields R) → h (on_object_row eq ends waits t s o op flags owner fields) ≡ on_object_row eqS endsS waitsS t (map_self f s) (f o) (map_operation f op) flags owner (map_fields f fields)
map_on_object f h eq eqS ends endsS waits waitsS tells e w t s o (Get p x) flags owner fields = map_get_row f h eq eqS ends endsS waits waitsS tells e w (field x fields) ∙ ap (get_row endsS) (map_field f x fields)
map_on_object f h eq eqS ends endsS waits waitsS tells e w t s o (CallMethod p x vs) flags owner fields =
    map_invoke_row f h eq eqS ends endsS waits waitsS tells e w t s o flags owner fields vs (field x fields) ∙ ap (invoke_row eqS endsS t (map_self f s) (f o) flags owner (map_fields f fields) (map (map_value f) vs)) (map_field f x fields)
map_on_object f h eq eqS ends endsS waits waitsS tells e w t s o (Set p x body) flags owner fields =
    map_set_row f h eq eqS ends endsS waits waitsS tells e w s o flags owner fields x body (field x fields) ∙ ap (set_row eqS endsS (map_self f s) (f o) flags owner (map_fields f fields) x (map_body f body)) (map_field f x fields)
map_on_object f h eq eqS ends endsS waits waitsS tells e w t s o (Copy p first copied rest) flags owner fields = map_copy_row f h eq eqS ends endsS waits waitsS tells e w s o flags fields first copied rest
map_on_object f h eq eqS ends endsS waits waitsS tells e w t s o (RedirectTo p target) flags owner fields = map_redirect_row f h eq eqS ends endsS waits waitsS tells e w s o flags owner fields target
map_on_object f h eq eqS ends endsS waits waitsS tells e w t s o _ flags owner fields = w

map_object_row : {R S X Y : Type 0} (f : R → S) (h : X → Y) (eq : R → R → Bool) (eqS : S → S → Bool) (ends : Ends R X) (endsS : Ends S Y) (waits : X) (waitsS : Y) → Tells f eq eqS → SameEnds f h ends endsS → h waits ≡ waitsS → (t : ℕ) (s : Self R) (o : R) (op : Operation R) (c : Option (Cell R)) → h (object_row eq ends waits t s o op c) ≡ object_row eqS endsS waitsS t (map_self f s) (f o) (map_operation f op) (option_map (map_cell f) c)
map_object_row f h eq eqS ends endsS waits waitsS tells e w t s o op (Some (ObjectCell flags owner fields)) =
    if_same h (is_clear eq s o flags owner) (is_clear eqS (map_self f s) (f o) flags owner) (on_object_row eq ends waits t s o op flags owner fields) waits (on_object_row eqS endsS waitsS t (map_self f s) (f o) (map_operation f op) flags owner (map_fields f fields)) waitsS
    (map_is_clear f eq eqS tells s o flags owner) (map_on_object f h eq eqS ends endsS waits waitsS tells e w t s o op flags owner fields) w
map_object_row f h eq eqS ends endsS waits waitsS tells e w t s o op _ = w

map_owned_cell : {R S : Type 0} (f : R → S) (owner : Option ℕ) (c : Option (Cell R)) → option_map (map_cell f) (owned_cell owner c) ≡ owned_cell owner (option_map (map_cell f) c)
map_owned_cell f owner (Some (ObjectCell flags old fields)) = refl
map_owned_cell f owner _ = refl

-- ---- an array, a variable, a writer, a condition
map_items_of : {R S : Type 0} (f : R → S) (c : Option (Cell R)) → map (map_value f) (items_of c) ≡ items_of (option_map (map_cell f) c)
map_items_of f (Some (ArrayCell vs)) = refl
map_items_of f _ = refl

map_item_at : {R S : Type 0} (f : R → S) (vs : List (Value R)) (i : ℤ) → option_map (map_value f) (item_at vs i) ≡ item_at (map (map_value f) vs) i
map_item_at f vs (pos i) = sym (slice_get-map (map_value f) vs i)
map_item_at f vs (negsuc i) = refl

map_item_row : {R S X Y : Type 0} (f : R → S) (h : X → Y) (eq : R → R → Bool) (eqS : S → S → Bool) (ends : Ends R X) (endsS : Ends S Y) (waits : X) (waitsS : Y) → Tells f eq eqS → SameEnds f h ends endsS → h waits ≡ waitsS → (u : Value R → Term R) (uS : Value S → Term S) → ((v : Value R) → map_term f (u v) ≡ uS (map_value f v)) → (o : Option (Value R)) → h (item_row ends u o) ≡ item_row endsS uS (option_map (map_value f) o)
map_item_row f h eq eqS ends endsS waits waitsS tells e w u uS d None = e ActKind.ArrayGet None array_index
map_item_row f h eq eqS ends endsS waits waitsS tells e w u uS d (Some v) = e ActKind.ArrayGet None (u v) ∙ ap (endsS ActKind.ArrayGet None) (d v)

map_set_item_row : {R S X Y : Type 0} (f : R → S) (h : X → Y) (eq : R → R → Bool) (eqS : S → S → Bool) (ends : Ends R X) (endsS : Ends S Y) (waits : X) (waitsS : Y) → Tells f eq eqS → SameEnds f h ends endsS → h waits ≡ waitsS → (i : ℤ) (v : Value R) (c : Option (Cell R)) → h (set_item_row ends waits i v c) ≡ set_item_row endsS waitsS i (map_value f v) (option_map (map_cell f) c)
map_set_item_row f h eq eqS ends endsS waits waitsS tells e w (pos i) v (Some (ArrayCell vs)) =
    if_same h (nat_lt i (length vs)) (nat_lt i (length (map (map_value f) vs))) (ends ActKind.ArraySet (Some (ArrayCell (slice_set vs i v))) (Const Okay)) (ends ActKind.ArraySet None array_index)
    (endsS ActKind.ArraySet (Some (ArrayCell (slice_set (map (map_value f) vs) i (map_value f v)))) (Const Okay)) (endsS ActKind.ArraySet None array_index)
    (ap (nat_lt i) (length-map vs (map_value f)))
    (e ActKind.ArraySet (Some (ArrayCell (slice_set vs i v))) (Const Okay) ∙ ap (λ l. endsS ActKind.ArraySet (Some (ArrayCell l)) (Const Okay)) (map-set (map_value f) vs i v))
    (e ActKind.ArraySet None array_index)
map_set_item_row f h eq eqS ends endsS waits waitsS tells e w (negsuc i) v (Some (ArrayCell vs)) = e ActKind.ArraySet None array_index
map_set_item_row f h eq eqS ends endsS waits waitsS tells e w i v _ = w

map_set_variable_row : {R S X Y : Type 0} (f : R → S) (h : X → Y) (eq : R → R → Bool) (eqS : S → S → Bool) (ends : Ends R X) (endsS : Ends S Y) (waits : X) (waitsS : Y) → Tells f eq eqS → SameEnds f h ends endsS → h waits ≡ waitsS → (v : Value R) (c : Option (Cell R)) → h (set_variable_row ends waits v c) ≡ set_variable_row endsS waitsS (map_value f v) (option_map (map_cell f) c)
map_set_variable_row f h eq eqS ends endsS waits waitsS tells e w v (Some (VariableCell old)) = e ActKind.VarSet (Some (VariableCell v)) (Const Okay)
map_set_variable_row f h eq eqS ends endsS waits waitsS tells e w v _ = w

map_write_row : {R S X Y : Type 0} (f : R → S) (h : X → Y) (eq : R → R → Bool) (eqS : S → S → Bool) (ends : Ends R X) (endsS : Ends S Y) (waits : X) (waitsS : Y) → Tells f eq eqS → SameEnds f h ends endsS → h waits ≡ waitsS → (x : Bytes) (c : Option (Cell R)) → h (write_row ends waits x c) ≡ write_row endsS waitsS x (option_map (map_cell f) c)
map_write_row f h eq eqS ends endsS waits waitsS tells e w x (Some (WriterCell old)) = e ActKind.Put (Some (WriterCell (old ++ x))) (Const Okay)
map_write_row f h eq eqS ends endsS waits waitsS tells e w x _ = w

map_line_row : {R S X Y : Type 0} (f : R → S) (h : X → Y) (eq : R → R → Bool) (eqS : S → S → Bool) (ends : Ends R X) (endsS : Ends S Y) (waits : X) (waitsS : Y) → Tells f eq eqS → SameEnds f h ends endsS → h waits ≡ waitsS → (kind : ActKind) (g : List ℕ → List ℕ) (focus : Term R) (c : Option (Cell R)) → h (line_row ends waits kind g focus c) ≡ line_row endsS waitsS kind g (map_term f focus) (option_map (map_cell f) c)
map_line_row f h eq eqS ends endsS waits waitsS tells e w kind g focus (Some (ConditionCell line)) = e kind (Some (ConditionCell (g line))) focus
map_line_row f h eq eqS ends endsS waits waitsS tells e w kind g focus _ = w

map_value_of : {R S : Type 0} (f : R → S) (c : Option (Cell R)) → map_value f (value_of c) ≡ value_of (option_map (map_cell f) c)
map_value_of f (Some (VariableCell v)) = refl
map_value_of f (Some (EngineCell v)) = refl
map_value_of f _ = refl

-- ---- the rows
pub map_cell_row : {R S X Y : Type 0} (f : R → S) (h : X → Y) (eq : R → R → Bool) (eqS : S → S → Bool) (ends : Ends R X) (endsS : Ends S Y) (waits : X) (waitsS : Y) → Tells f eq eqS → SameEnds f h ends endsS → h waits ≡ waitsS → (t : ℕ) (s : Self R) (op : Operation R) (c : Option (Cell R)) → h (cell_row eq ends waits t s op c) ≡ cell_row eqS endsS waitsS t (map_self f s) (map_operation f op) (option_map (map_cell f) c)
map_cell_row f h eq eqS ends endsS waits waitsS tells e w t s (Get o x) c = map_object_row f h eq eqS ends endsS waits waitsS tells e w t s o (Get o x) c
map_cell_row f h eq eqS ends endsS waits waitsS tells e w t s (CallMethod o x vs) c = map_object_row f h eq eqS ends endsS waits waitsS tells e w t s o (CallMethod o x vs) c
map_cell_row f h eq eqS ends endsS waits waitsS tells e w t s (Set o x body) c = map_object_row f h eq eqS ends endsS waits waitsS tells e w t s o (Set o x body) c
map_cell_row f h eq eqS ends endsS waits waitsS tells e w t s (Copy o first copied rest) c = map_object_row f h eq eqS ends endsS waits waitsS tells e w t s o (Copy o first copied rest) c
map_cell_row f h eq eqS ends endsS waits waitsS tells e w t s (RedirectTo o target) c = map_object_row f h eq eqS ends endsS waits waitsS tells e w t s o (RedirectTo o target) c
map_cell_row f h eq eqS ends endsS waits waitsS tells e w t s (Leave o out) c = e ActKind.Leave (owned_cell None c) out ∙ ap (λ d. endsS ActKind.Leave d (map_term f out)) (map_owned_cell f None c)
map_cell_row f h eq eqS ends endsS waits waitsS tells e w t s (GetItem a i) c =
    map_item_row f h eq eqS ends endsS waits waitsS tells e w (λ v. Const v) (λ v. Const v) (λ v. refl) (item_at (items_of c) i) ∙ ap (item_row endsS (λ v. Const v)) (map_item_at f (items_of c) i ∙ ap (λ l. item_at l i) (map_items_of f c))
map_cell_row f h eq eqS ends endsS waits waitsS tells e w t s (GetSize a) c =
    e ActKind.ArrayGet None (Const (Int (pos (length (items_of c))))) ∙ ap (λ n. endsS ActKind.ArrayGet None (Const (Int (pos n)))) (sym (length-map (items_of c) (map_value f)) ∙ ap length (map_items_of f c))
map_cell_row f h eq eqS ends endsS waits waitsS tells e w t s (EachSize a scope) c =
    e ActKind.ArrayGet None (Form (EachAt a 0 (length (items_of c))) (Part scope End)) ∙ ap (λ n. endsS ActKind.ArrayGet None (Form (EachAt (f a) 0 n) (Part (map_term f scope) End))) (sym (length-map (items_of c) (map_value f)) ∙ ap length (map_items_of f c))
map_cell_row f h eq eqS ends endsS waits waitsS tells e w t s (EachItem a i n scope) c =
    map_item_row f h eq eqS ends endsS waits waitsS tells e w (λ v. Form (EachIn a i n) (Part (enter (v ∷ []) scope) (Part scope End))) (λ v. Form (EachIn (f a) i n) (Part (enter (v ∷ []) (map_term f scope)) (Part (map_term f scope) End)))
    (λ v. ap (λ u. Form (EachIn (f a) i n) (Part u (Part (map_term f scope) End))) (map_enter f (v ∷ []) scope)) (slice_get (items_of c) i)
    ∙ ap (item_row endsS (λ v. Form (EachIn (f a) i n) (Part (enter (v ∷ []) (map_term f scope)) (Part (map_term f scope) End)))) (sym (slice_get-map (map_value f) (items_of c) i) ∙ ap (λ l. slice_get l i) (map_items_of f c))
map_cell_row f h eq eqS ends endsS waits waitsS tells e w t s (SetItem a i v) c = map_set_item_row f h eq eqS ends endsS waits waitsS tells e w i v c
map_cell_row f h eq eqS ends endsS waits waitsS tells e w t s (ReadVariable l) c = e ActKind.VarGet None (Const (value_of c)) ∙ ap (λ v. endsS ActKind.VarGet None (Const v)) (map_value_of f c)
map_cell_row f h eq eqS ends endsS waits waitsS tells e w t s (SetVariable l v) c = map_set_variable_row f h eq eqS ends endsS waits waitsS tells e w v c
map_cell_row f h eq eqS ends endsS waits waitsS tells e w t s (Write o x) c = map_write_row f h eq eqS ends endsS waits waitsS tells e w x c
map_cell_row f h eq eqS ends endsS waits waitsS tells e w t s (LineUp o q guard) c = map_line_row f h eq eqS ends endsS waits waitsS tells e w ActKind.Line (λ line. line ++ t ∷ []) (Form (Lined o q) (Part guard End)) c
map_cell_row f h eq eqS ends endsS waits waitsS tells e w t s (GiveUp o q guard) c = e ActKind.GiveUp (owned_cell None c) (Form (Out o q) (Part guard End)) ∙ ap (λ d. endsS ActKind.GiveUp d (Form (Out (f o) (f q)) (Part (map_term f guard) End))) (map_owned_cell f None c)
map_cell_row f h eq eqS ends endsS waits waitsS tells e w t s (Signal q) c = map_line_row f h eq eqS ends endsS waits waitsS tells e w ActKind.Signal (drop 1) (Const Okay) c
map_cell_row f h eq eqS ends endsS waits waitsS tells e w t s (Broadcast q) c = map_line_row f h eq eqS ends endsS waits waitsS tells e w ActKind.Broadcast (λ line. []) (Const Okay) c
map_cell_row f h eq eqS ends endsS waits waitsS tells e w t s (RunEngine q g) c =
    e ActKind.Engine None (Form Called (Part (body_with g (value_of c ∷ [])) End))
    ∙ ap (λ u. endsS ActKind.Engine None (Form Called (Part u End))) (map_body_with f g (value_of c ∷ []) ∙ ap (λ v. body_with (map_value f g) (v ∷ [])) (map_value_of f c))
map_cell_row f h eq eqS ends endsS waits waitsS tells e w t s _ c = w

-- ---- rows on another cell besides, on a name, and on a new cell

map_is_free : {R S : Type 0} (f : R → S) (c : Option (Cell R)) → is_free (option_map (map_cell f) c) ≡ is_free c
map_is_free f (Some (ObjectCell flags None fields)) = refl
map_is_free f (Some (ObjectCell flags (Some t) fields)) = refl
map_is_free f (Some (ArrayCell vs)) = refl
map_is_free f (Some (VariableCell v)) = refl
map_is_free f (Some (WriterCell w)) = refl
map_is_free f (Some (ConditionCell l)) = refl
map_is_free f (Some (EngineCell v)) = refl
map_is_free f None = refl

pub map_again : {R S X Y : Type 0} → NaturalAgain R S X Y
map_again f h ends endsS waits waitsS e w t lined o c guard cell =
    if_same h (lined || not (is_free cell)) (lined || not (is_free (option_map (map_cell f) cell))) waits (ends ActKind.Again (owned_cell (Some t) cell) (testing o c guard))
    waitsS (endsS ActKind.Again (owned_cell (Some t) (option_map (map_cell f) cell)) (testing (f o) (f c) (map_term f guard)))
    (ap (λ b. lined || not b) (map_is_free f cell)) w
    (e ActKind.Again (owned_cell (Some t) cell) (testing o c guard) ∙ ap (λ d. endsS ActKind.Again d (testing (f o) (f c) (map_term f guard))) (map_owned_cell f (Some t) cell))

pub map_import : {R S X Y : Type 0} → NaturalImport R S X Y
map_import f h ends endsS waits waitsS e w engine None = w
map_import f h ends endsS waits waitsS e w false (Some v) = e ActKind.Import None (Const v)
map_import f h ends endsS waits waitsS e w true (Some (Loc Engine r)) = e ActKind.Import None (Const (Loc Engine r))
map_import f h ends endsS waits waitsS e w true (Some (Loc Object r)) = e ActKind.Import None wrong_type
map_import f h ends endsS waits waitsS e w true (Some _) = e ActKind.Import None wrong_type

pub map_after_new : {R S : Type 0} → NaturalNew R S
map_after_new f Itself r (ObjectCell flags owner fields) = refl
map_after_new f Itself r (ArrayCell vs) = refl
map_after_new f Itself r (VariableCell v) = refl
map_after_new f Itself r (WriterCell bytes) = refl
map_after_new f Itself r (ConditionCell line) = refl
map_after_new f Itself r (EngineCell v) = refl
map_after_new f (Entered scope) r cell = map_enter f (Loc Variable r ∷ []) scope
map_after_new f (Offered name namer) r cell = refl

-- ---- names

pub map_exported : {R S : Type 0} (f : R → S) (x : Bytes) (names : List (Bytes × Value R)) → option_map (map_value f) (exported x names) ≡ exported x (map_names f names)
map_exported f x [] = refl
map_exported f x (e ∷ es) = if_same (option_map (map_value f)) (bytes_eq x e.0) (bytes_eq x e.0) (Some e.1) (exported x es) (Some (map_value f e.1)) (exported x (map_names f es)) refl refl (map_exported f x es)

pub map_export : {R S : Type 0} (f : R → S) (x : Bytes) (v : Value R) (names : List (Bytes × Value R)) → map_names f (export x v names) ≡ export x (map_value f v) (map_names f names)
map_export f x v [] = refl
map_export f x v (e ∷ es) =
    if_same (map_names f) (bytes_eq x e.0) (bytes_eq x e.0) ((x, v) ∷ es) (e ∷ export x v es) ((x, map_value f v) ∷ map_names f es) (map_entry f e ∷ export x (map_value f v) (map_names f es))
    refl refl (ap (λ l. map_entry f e ∷ l) (map_export f x v es))

-- ---- the cell of an operation

pub map_cell_of : {R S : Type 0} (f : R → S) (op : Operation R) → cell_of (map_operation f op) ≡ option_map f (cell_of op)
map_cell_of f (New cell after) = refl
map_cell_of f (Get o x) = refl
map_cell_of f (CallMethod o x vs) = refl
map_cell_of f (Leave o out) = refl
map_cell_of f (Set o x body) = refl
map_cell_of f (Copy o first copied rest) = refl
map_cell_of f (RedirectTo o target) = refl
map_cell_of f (GetItem o i) = refl
map_cell_of f (GetSize o) = refl
map_cell_of f (EachSize o scope) = refl
map_cell_of f (EachItem o i n scope) = refl
map_cell_of f (SetItem o i v) = refl
map_cell_of f (ReadVariable o) = refl
map_cell_of f (SetVariable o v) = refl
map_cell_of f (Write o text) = refl
map_cell_of f (ForkOff v) = refl
map_cell_of f (JoinWith u) = refl
map_cell_of f (LineUp p o guard) = refl
map_cell_of f (GiveUp o c guard) = refl
map_cell_of f (Again p c guard) = refl
map_cell_of f (Signal o) = refl
map_cell_of f (Broadcast o) = refl
map_cell_of f (Export x v) = refl
map_cell_of f (Import x engine) = refl
map_cell_of f (RunEngine o v) = refl

-- the line and the owner of a cell are the same over other references
pub map_line_of : {R S : Type 0} (f : R → S) (cell : Option (Cell R)) → line_of (option_map (map_cell f) cell) ≡ line_of cell
map_line_of f None = refl
map_line_of f (Some (ObjectCell flags owner fields)) = refl
map_line_of f (Some (ArrayCell vs)) = refl
map_line_of f (Some (VariableCell v)) = refl
map_line_of f (Some (WriterCell bytes)) = refl
map_line_of f (Some (ConditionCell line)) = refl
map_line_of f (Some (EngineCell v)) = refl

pub map_owner_of : {R S : Type 0} (f : R → S) (cell : Option (Cell R)) → owner_of (option_map (map_cell f) cell) ≡ owner_of cell
map_owner_of f None = refl
map_owner_of f (Some (ObjectCell flags owner fields)) = refl
map_owner_of f (Some (ArrayCell vs)) = refl
map_owner_of f (Some (VariableCell v)) = refl
map_owner_of f (Some (WriterCell bytes)) = refl
map_owner_of f (Some (ConditionCell line)) = refl
map_owner_of f (Some (EngineCell v)) = refl
