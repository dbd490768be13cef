-- Closed terms: each name in them is bound in them.
use Rattle.std.specs.Prelude.{Bool, List, Some, [], false, slice_get, true, ℕ, ◌∷◌, ◌≡◌, ◌||◌}
use Rattle.obq_base.specs.declared.acts.Entry.{Entry}
use Rattle.obq_base.specs.Tree.{BlockTree}
use Rattle.obq_model.specs.Terms.{Bytes, Value, Closure, Member, FieldBody, IsValue, IsMethod, IsAlias, Fields, Bare, Field, Kind, Cloning, Term, Const, Name, Under, Form, Parts, End, Part}
use Rattle.obq_model.specs.Put.{among}
use Rattle.obq_model.specs.Occurrences.{unbound}
use Rattle.obq_model.specs.Store.{Cell, ObjectCell, ArrayCell, VariableCell, EngineCell, Store}
use Rattle.obq_model.specs.Step.{Frame, plug}
use Rattle.obq_model.specs.Config.{Execution, Running, Returned, Failed, ThreadState, Config}
use Rattle.obq_model.specs.Replay.{replay}

-- which names are bound around a term
abbrev pub Bound : Type 0
Bound = Bytes → Bool

-- none
abbrev pub no_name : Bound
no_name x = false

-- these and those further out
abbrev pub within : List Bytes → Bound → Bound
within names bound x = among x names || bound x

-- each name in a term is bound in it or around it, and closures that were put in have no free names
abbrev mutual
  pub IsClosed : {R : Type 0} → Bound → Term R → Type 0
  IsClosed bound (Const v) = IsClosedValue v
  IsClosed bound (Name x) = bound x ≡ true
  IsClosed bound (Under names t) = IsClosed (within names bound) t
  IsClosed bound (Form k parts) = IsClosedKind k × AreClosed bound parts

  pub AreClosed : {R : Type 0} → Bound → Parts R → Type 0
  AreClosed bound End = Unit {0}
  AreClosed bound (Part t parts) = IsClosed bound t × AreClosed bound parts

  pub IsClosedValue : {R : Type 0} → Value R → Type 0
  IsClosedValue (Closure params body) = IsClosed (within params no_name) body
  IsClosedValue (Member names group i) = AreClosed (within names no_name) group
  IsClosedValue v = Unit {0}

  -- the fields that a clone has taken over so far
  pub IsClosedKind : {R : Type 0} → Kind R → Type 0
  IsClosedKind (Cloning flags copied rest) = AreClosedFields copied
  IsClosedKind k = Unit {0}

  pub AreClosedFields : {R : Type 0} → Fields R → Type 0
  AreClosedFields Bare = Unit {0}
  AreClosedFields (Field x body fs) = IsClosedField body × AreClosedFields fs

  pub IsClosedField : {R : Type 0} → FieldBody R → Type 0
  IsClosedField (IsValue v) = IsClosedValue v
  IsClosedField (IsMethod params body) = IsClosed (within params no_name) body
  IsClosedField (IsAlias o x) = Unit {0}

-- all values are so
abbrev pub AllClosed : {R : Type 0} → List (Value R) → Type 0
AllClosed [] = Unit {0}
AllClosed (v ∷ vs) = IsClosedValue v × AllClosed vs

abbrev pub IsClosedCell : {R : Type 0} → Cell R → Type 0
IsClosedCell (ObjectCell flags owner fields) = AreClosedFields fields
IsClosedCell (ArrayCell vs) = AllClosed vs
IsClosedCell (VariableCell v) = IsClosedValue v
IsClosedCell (EngineCell v) = IsClosedValue v
IsClosedCell cell = Unit {0}

-- ---- configurations

abbrev pub AreClosedCells : List (Cell ℕ) → Type 0
AreClosedCells [] = Unit {0}
AreClosedCells (c ∷ cs) = IsClosedCell c × AreClosedCells cs

abbrev pub AreClosedNames : List (Bytes × Value ℕ) → Type 0
AreClosedNames [] = Unit {0}
AreClosedNames (e ∷ es) = IsClosedValue e.1 × AreClosedNames es

abbrev pub IsClosedStore : Store ℕ → Type 0
IsClosedStore st = AreClosedCells st.cells × AreClosedNames st.names

abbrev pub IsClosedExecution : Execution → Type 0
IsClosedExecution (Running u) = IsClosed no_name u
IsClosedExecution (Returned v) = IsClosedValue v
IsClosedExecution (Failed e) = Unit {0}

abbrev pub AreClosedThreads : List ThreadState → Type 0
AreClosedThreads [] = Unit {0}
AreClosedThreads (s ∷ ss) = IsClosedExecution s.execution × AreClosedThreads ss

-- the terms of all threads are closed, and so is all that the store holds
abbrev pub IsClosedConfig : Config → Type 0
IsClosedConfig k = IsClosedStore k.store × AreClosedThreads k.threads

-- no source has an unbound name
abbrev pub NoneUnbound : List BlockTree → Type 0
NoneUnbound [] = Unit {0}
NoneUnbound (b ∷ bs) = (unbound b ≡ []) × NoneUnbound bs

-- then every configuration that a journal of the program replays to is closed
abbrev pub ClosedReplay : Type 0
ClosedReplay = (trees : List BlockTree) (turns : ℕ) (es : List Entry) (k : Config) → NoneUnbound trees → replay trees turns es ≡ Some k → IsClosedConfig k

-- and no name stands in a hole of a thread's term, so none at its focus
abbrev pub NoNameNext : Type 0
NoNameNext =
    (trees : List BlockTree) (turns : ℕ) (es : List Entry) (k : Config) (t : ℕ) (s : ThreadState) (fs : List (Frame ℕ)) (x : Bytes)
    → NoneUnbound trees → replay trees turns es ≡ Some k → slice_get k.threads t ≡ Some s → s.execution ≡ Running (plug fs (Name x)) → ⊥
