-- What is known of terms in the store is known of them over references.
use Rattle.std.specs.Prelude.{List, [], length, map, refl, suc, ◌∷◌, ◌≡◌, ◌≤◌}
use Rattle.std.proofs.Common.{subst, ap, sym, ◌∙◌}
use Rattle.obq_model.specs.Terms.{LocKind, Object, Array, Variable, Writer, Condition, Engine, Value, Int, Truth, Okay, Text, Exc, Thread, Closure, Member, Loc, FieldBody, IsValue, IsMethod, IsAlias, Fields, Bare, Field, Kind, MakeObject, Read, Raising, Within, Counting, EachAt, EachIn, Choosing, Unmet, Cloning, Testing, Lined, Out, Term, Const, Name, Under, Form, Parts, End, Part}
use Rattle.obq_model.specs.Store.{Cell, ObjectCell, ArrayCell, VariableCell, WriterCell, ConditionCell, EngineCell}
use Rattle.obq_model.specs.Step.{After, Itself, Entered, Offered, Operation, New, Get, CallMethod, Leave, Set, Copy, RedirectTo, GetItem, GetSize, EachSize, EachItem, SetItem, ReadVariable, SetVariable, Write, ForkOff, JoinWith, LineUp, GiveUp, Again, Signal, Broadcast, Export, Import, RunEngine, Frame, Pending, values_before, plug}
use Rattle.obq_model.specs.Maps.{map_value, map_body, map_fields, map_kind, map_term, map_parts, map_cell, map_after, map_operation}
use Rattle.obq_model.proofs.Naturality.{map_deepest, map_deepest_of, map_params}
use Rattle.obq_laws.specs.Known.{Places, Threads, AllObjects, IsKnown, AreKnown, IsKnownValue, IsKnownKind, AreKnownFields, IsKnownBody, AllKnown, IsKnownCell, location_kind, IsKnownAfter, HasOneParameter, IsKnownOperation}

-- what is allowed of the number of a reference is allowed of the reference
abbrev pub Back : {R S : Type 0} → (R → S) → Places S → Places R → Type 0
Back {R} f L M = (k : LocKind) (r : R) → L k (f r) → M k r

objects_back : {R S : Type 0} (f : R → S) (L : Places S) (M : Places R) → Back f L M → (rs : List R) → AllObjects L (map f rs) → AllObjects M rs
objects_back f L M b [] h = tt
objects_back f L M b (r ∷ rs) h = (b Object r h.0, objects_back f L M b rs h.1)

mutual
  pub known_back : {R S : Type 0} (f : R → S) (L : Places S) (M : Places R) (T : Threads) → Back f L M → (t : Term R) → IsKnown L T (map_term f t) → IsKnown M T t
  known_back f L M T b (Const v) h = value_back f L M T b v h
  known_back f L M T b (Name x) h = tt
  known_back f L M T b (Under names t) h = known_back f L M T b t h
  known_back f L M T b (Form k parts) h = (kind_back f L M T b k h.0, parts_back f L M T b parts h.1)

  parts_back : {R S : Type 0} (f : R → S) (L : Places S) (M : Places R) (T : Threads) → Back f L M → (ts : Parts R) → AreKnown L T (map_parts f ts) → AreKnown M T ts
  parts_back f L M T b End h = tt
  parts_back f L M T b (Part t ts) h = (known_back f L M T b t h.0, parts_back f L M T b ts h.1)

  value_back : {R S : Type 0} (f : R → S) (L : Places S) (M : Places R) (T : Threads) → Back f L M → (v : Value R) → IsKnownValue L T (map_value f v) → IsKnownValue M T v
  value_back f L M T b (Int z) h = h
  value_back f L M T b (Truth z) h = tt
  value_back f L M T b Okay h = tt
  value_back f L M T b (Text z) h = h
  value_back f L M T b (Exc z) h = h
  value_back f L M T b (Thread n) h = h
  value_back f L M T b (Closure params body) h = (subst (λ n. n ≤ 1000) (map_deepest f body) h.0, known_back f L M T b body h.1)
  value_back f L M T b (Member names group i) h = (h.0, subst (λ n. n ≤ 1000) (map_deepest_of f group) h.1, parts_back f L M T b group h.2)
  value_back f L M T b (Loc kind r) h = b kind r h

  kind_back : {R S : Type 0} (f : R → S) (L : Places S) (M : Places R) (T : Threads) → Back f L M → (k : Kind R) → IsKnownKind L T (map_kind f k) → IsKnownKind M T k
  kind_back f L M T b (MakeObject flags shape) h = h
  kind_back f L M T b (Read l) h = b Variable l h
  kind_back f L M T b (Within o m) h = b Object o h
  kind_back f L M T b (Counting i n) h = h
  kind_back f L M T b (EachAt r i n) h = b Array r h
  kind_back f L M T b (EachIn r i n) h = b Array r h
  kind_back f L M T b (Raising r) h = h
  kind_back f L M T b (Choosing x) h = h
  kind_back f L M T b (Unmet x) h = h
  kind_back f L M T b (Cloning flags fields rest) h = (fields_back f L M T b fields h.0, objects_back f L M b rest h.1)
  kind_back f L M T b (Testing o c) h = (b Object o h.0, b Condition c h.1)
  kind_back f L M T b (Lined o c) h = (b Object o h.0, b Condition c h.1)
  kind_back f L M T b (Out o c) h = (b Object o h.0, b Condition c h.1)
  kind_back f L M T b k h = tt

  fields_back : {R S : Type 0} (f : R → S) (L : Places S) (M : Places R) (T : Threads) → Back f L M → (fs : Fields R) → AreKnownFields L T (map_fields f fs) → AreKnownFields M T fs
  fields_back f L M T b Bare h = tt
  fields_back f L M T b (Field x body fs) h = (body_back f L M T b body h.0, fields_back f L M T b fs h.1)

  body_back : {R S : Type 0} (f : R → S) (L : Places S) (M : Places R) (T : Threads) → Back f L M → (body : FieldBody R) → IsKnownBody L T (map_body f body) → IsKnownBody M T body
  body_back f L M T b (IsValue v) h = value_back f L M T b v h
  body_back f L M T b (IsMethod params body) h = (subst (λ n. n ≤ 1000) (map_deepest f body) h.0, known_back f L M T b body h.1)
  body_back f L M T b (IsAlias o x) h = b Object o h

all_back : {R S : Type 0} (f : R → S) (L : Places S) (M : Places R) (T : Threads) → Back f L M → (vs : List (Value R)) → AllKnown L T (map (map_value f) vs) → AllKnown M T vs
all_back f L M T b [] h = tt
all_back f L M T b (v ∷ vs) h = (value_back f L M T b v h.0, all_back f L M T b vs h.1)

pub map_long : {X Y : Type 0} (g : X → Y) (xs : List X) → length (map g xs) ≡ length xs
map_long g [] = refl
map_long g (x ∷ xs) = ap suc (map_long g xs)

pub cell_back : {R S : Type 0} (f : R → S) (L : Places S) (M : Places R) (T : Threads) → Back f L M → (c : Cell R) → IsKnownCell L T (map_cell f c) → IsKnownCell M T c
cell_back f L M T b (ObjectCell flags owner fields) h = fields_back f L M T b fields h
cell_back f L M T b (ArrayCell vs) h = (subst (λ n. n ≤ 65536) (map_long (map_value f) vs) h.0, all_back f L M T b vs h.1)
cell_back f L M T b (VariableCell v) h = value_back f L M T b v h
cell_back f L M T b (WriterCell bytes) h = tt
cell_back f L M T b (ConditionCell line) h = tt
cell_back f L M T b (EngineCell v) h = value_back f L M T b v h

pub map_location_kind : {R S : Type 0} (f : R → S) (c : Cell R) → location_kind (map_cell f c) ≡ location_kind c
map_location_kind f (ObjectCell flags owner fields) = refl
map_location_kind f (ArrayCell vs) = refl
map_location_kind f (VariableCell v) = refl
map_location_kind f (WriterCell bytes) = refl
map_location_kind f (ConditionCell line) = refl
map_location_kind f (EngineCell v) = refl

after_back : {R S : Type 0} (f : R → S) (L : Places S) (M : Places R) (T : Threads) → Back f L M → (c : Cell R) (after : After R) → IsKnownAfter L T (map_cell f c) (map_after f after) → IsKnownAfter M T c after
after_back f L M T b c Itself h = tt
after_back f L M T b c (Entered scope) h = (sym (map_location_kind f c) ∙ h.0, known_back f L M T b scope h.1)
after_back f L M T b c (Offered name namer) h = (sym (map_location_kind f c) ∙ h.0, h.1, h.2)

pub operation_back : {R S : Type 0} (f : R → S) (L : Places S) (M : Places R) (T : Threads) → Back f L M → (op : Operation R) → IsKnownOperation L T (map_operation f op) → IsKnownOperation M T op
operation_back f L M T b (New cell after) h = (cell_back f L M T b cell h.0, after_back f L M T b cell after h.1)
operation_back f L M T b (Get o x) h = b Object o h
operation_back f L M T b (CallMethod o x vs) h = (b Object o h.0, all_back f L M T b vs h.1)
operation_back f L M T b (Leave o out) h = (b Object o h.0, known_back f L M T b out h.1)
operation_back f L M T b (Set o x body) h = (b Object o h.0, body_back f L M T b body h.1)
operation_back f L M T b (Copy o flags copied rest) h = (b Object o h.0, fields_back f L M T b copied h.1, objects_back f L M b rest h.2)
operation_back f L M T b (RedirectTo o p) h = (b Object o h.0, b Object p h.1)
operation_back f L M T b (GetItem a i) h = b Array a h
operation_back f L M T b (GetSize a) h = b Array a h
operation_back f L M T b (EachSize a scope) h = (b Array a h.0, known_back f L M T b scope h.1)
operation_back f L M T b (EachItem a i n scope) h = (b Array a h.0, known_back f L M T b scope h.1)
operation_back f L M T b (SetItem a i v) h = (b Array a h.0, value_back f L M T b v h.1)
operation_back f L M T b (ReadVariable l) h = b Variable l h
operation_back f L M T b (SetVariable l v) h = (b Variable l h.0, value_back f L M T b v h.1)
operation_back f L M T b (Write w x) h = (b Writer w h.0, h.1)
operation_back f L M T b (ForkOff v) h = value_back f L M T b v h
operation_back f L M T b (JoinWith u) h = h
operation_back f L M T b (LineUp o c guard) h = (b Object o h.0, b Condition c h.1, known_back f L M T b guard h.2)
operation_back f L M T b (GiveUp o c guard) h = (b Object o h.0, b Condition c h.1, known_back f L M T b guard h.2)
operation_back f L M T b (Again o c guard) h = (b Object o h.0, b Condition c h.1, known_back f L M T b guard h.2)
operation_back f L M T b (Signal c) h = b Condition c h
operation_back f L M T b (Broadcast c) h = b Condition c h
operation_back f L M T b (Export x v) h = (h.0, value_back f L M T b v h.1)
operation_back f L M T b (Import x engine) h = h
operation_back f L M T b (RunEngine e v) h = (b Engine e h.0, value_back f L M T b v h.1, subst HasOneParameter (map_params f v) h.2)

-- the part in a hole is known where the whole is
known_after : {R : Type 0} (L : Places R) (T : Threads) (before : List (Value R)) (ts : Parts R) → AreKnown L T (values_before before ts) → AreKnown L T ts
known_after L T [] ts h = h
known_after L T (v ∷ vs) ts h = known_after L T vs ts h.1

pub known_hole : {R : Type 0} (L : Places R) (T : Threads) (fs : List (Frame R)) (t : Term R) → IsKnown L T (plug fs t) → IsKnown L T t
known_hole L T [] t h = h
known_hole L T (Pending k before after ∷ fs) t h = known_hole L T fs t (known_after L T before (Part (plug fs t) after) h.1).0
