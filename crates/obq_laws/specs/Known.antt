-- Terms whose locations, thread numbers and members are known: each location is one of its kind that L allows, each thread one that T allows,
-- each member an index of its group, and no closure lies too deep. Where T says that they are bounded, integers have 64 bits, and texts at most
-- 65,536 bytes, also those of exceptions and names of exports. Object literals have no more methods than T says.
use Rattle.std.specs.Prelude.{List, None, Option, Some, [], length, slice_get, true, ℕ, ℤ, ◌<◌, ◌∷◌, ◌≡◌, ◌≤◌}
use Rattle.obq_base.specs.declared.acts.Entry.{Entry}
use Rattle.obq_base.specs.declared.limits.TheConstants.{ARRAY_LIMIT, CLOSURE_LIMIT, TEXT_LIMIT}
use Rattle.obq_base.specs.Tree.{BlockTree}
use Rattle.obq_model.specs.Terms.{Bytes, LocKind, Object, Array, Variable, Writer, Condition, Engine, Value, Int, Text, Exc, Thread, Closure, Member, Loc, FieldBody, IsValue, IsMethod, IsAlias, Layout, Raised, Exn, ExitUp, Fields, Bare, Field, Kind, MakeObject, Read, Raising, Within, Counting, EachAt, EachIn, Choosing, Unmet, Cloning, Testing, Lined, Out, Term, Const, Name, Under, Form, Parts, End, Part}
use Rattle.obq_model.specs.Depth.{deepest, deepest_of}
use Rattle.obq_model.specs.Store.{Cell, ObjectCell, ArrayCell, VariableCell, WriterCell, ConditionCell, EngineCell, Store, same_loc}
use Rattle.obq_model.specs.Step.{no_self, After, Itself, Entered, Offered, Operation, New, Get, CallMethod, Leave, Set, Copy, RedirectTo, GetItem, GetSize, EachSize, EachItem, SetItem, ReadVariable, SetVariable, Write, ForkOff, JoinWith, LineUp, GiveUp, Again, Signal, Broadcast, Export, Import, RunEngine, Frame, Pending, Found, Next, Needs, Done, Uncaught, params_of, find}
use Rattle.obq_model.specs.Config.{Execution, Running, Returned, Failed, ThreadState, Config, cell_at}
use Rattle.obq_model.specs.Replay.{replay}
use Rattle.obq_model.specs.Builtins.{is_i64}
use Rattle.obq_model.specs.Leaves.{AreBounded}
use Rattle.obq_laws.specs.Literals.{HasAtMost, AreNarrow}
use Rattle.obq_laws.specs.Turns.{state_of}

-- which locations there are
abbrev pub Places : Type 0 → Type 1
Places R = LocKind → R → Type 0

-- which threads there are, that integers and texts are bounded, and how many methods object literals have at most
pub record Threads : Type 1 where
  pub numbers : ℕ → Type 0
  pub bounded : Type 0
  pub narrow : ℕ → Type 0

-- an integer has 64 bits, a text at most 65,536 bytes, if they are bounded
abbrev pub IsInt : Threads → ℤ → Type 0
IsInt T z = T.bounded → is_i64 z ≡ true

abbrev pub IsText : Threads → Bytes → Type 0
IsText T bytes = T.bounded → length bytes ≤ TEXT_LIMIT

-- a raising goes up with such a text
abbrev pub IsRaised : Threads → Raised → Type 0
IsRaised T (Exn text) = IsText T text
IsRaised T ExitUp = Unit {0}

-- an object literal has no more methods than each bound says
abbrev pub IsLiteral : Threads → Layout → Type 0
IsLiteral T shape = (n : ℕ) → T.narrow n → HasAtMost n shape

-- all of these are objects
abbrev pub AllObjects : {R : Type 0} → Places R → List R → Type 0
AllObjects L [] = Unit {0}
AllObjects L (o ∷ os) = L Object o × AllObjects L os

abbrev mutual
  pub IsKnown : {R : Type 0} → Places R → Threads → Term R → Type 0
  IsKnown L T (Const v) = IsKnownValue L T v
  IsKnown L T (Name x) = Unit {0}
  IsKnown L T (Under names t) = IsKnown L T t
  IsKnown L T (Form k parts) = IsKnownKind L T k × AreKnown L T parts

  pub AreKnown : {R : Type 0} → Places R → Threads → Parts R → Type 0
  AreKnown L T End = Unit {0}
  AreKnown L T (Part t parts) = IsKnown L T t × AreKnown L T parts

  pub IsKnownValue : {R : Type 0} → Places R → Threads → Value R → Type 0
  IsKnownValue L T (Int z) = IsInt T z
  IsKnownValue L T (Text bytes) = IsText T bytes
  IsKnownValue L T (Exc bytes) = IsText T bytes
  IsKnownValue L T (Thread n) = T.numbers n
  IsKnownValue L T (Closure params body) = (deepest body ≤ CLOSURE_LIMIT) × IsKnown L T body
  IsKnownValue L T (Member names group i) = (i < length names) × (deepest_of group ≤ CLOSURE_LIMIT) × AreKnown L T group
  IsKnownValue L T (Loc kind r) = L kind r
  IsKnownValue L T v = Unit {0}

  pub IsKnownKind : {R : Type 0} → Places R → Threads → Kind R → Type 0
  IsKnownKind L T (MakeObject flags shape) = IsLiteral T shape
  IsKnownKind L T (Read l) = L Variable l
  IsKnownKind L T (Raising r) = IsRaised T r
  IsKnownKind L T (Within o m) = L Object o
  IsKnownKind L T (Counting i n) = IsInt T i × IsInt T n
  IsKnownKind L T (EachAt r i n) = L Array r
  IsKnownKind L T (EachIn r i n) = L Array r
  IsKnownKind L T (Choosing text) = IsText T text
  IsKnownKind L T (Unmet text) = IsText T text
  IsKnownKind L T (Cloning flags fields rest) = AreKnownFields L T fields × AllObjects L rest
  IsKnownKind L T (Testing o c) = L Object o × L Condition c
  IsKnownKind L T (Lined o c) = L Object o × L Condition c
  IsKnownKind L T (Out o c) = L Object o × L Condition c
  IsKnownKind L T k = Unit {0}

  pub AreKnownFields : {R : Type 0} → Places R → Threads → Fields R → Type 0
  AreKnownFields L T Bare = Unit {0}
  AreKnownFields L T (Field x body fs) = IsKnownBody L T body × AreKnownFields L T fs

  pub IsKnownBody : {R : Type 0} → Places R → Threads → FieldBody R → Type 0
  IsKnownBody L T (IsValue v) = IsKnownValue L T v
  IsKnownBody L T (IsMethod params body) = (deepest body ≤ CLOSURE_LIMIT) × IsKnown L T body
  IsKnownBody L T (IsAlias o x) = L Object o

-- all values are so
abbrev pub AllKnown : {R : Type 0} → Places R → Threads → List (Value R) → Type 0
AllKnown L T [] = Unit {0}
AllKnown L T (v ∷ vs) = IsKnownValue L T v × AllKnown L T vs

-- what a cell holds is so, and an array isn't too long
abbrev pub IsKnownCell : {R : Type 0} → Places R → Threads → Cell R → Type 0
IsKnownCell L T (ObjectCell flags owner fields) = AreKnownFields L T fields
IsKnownCell L T (ArrayCell vs) = (length vs ≤ ARRAY_LIMIT) × AllKnown L T vs
IsKnownCell L T (VariableCell v) = IsKnownValue L T v
IsKnownCell L T (EngineCell v) = IsKnownValue L T v
IsKnownCell L T cell = Unit {0}

-- the kind of a cell's location
abbrev pub location_kind : {R : Type 0} → Cell R → LocKind
location_kind (ObjectCell flags owner fields) = Object
location_kind (ArrayCell vs) = Array
location_kind (VariableCell v) = Variable
location_kind (WriterCell bytes) = Writer
location_kind (ConditionCell line) = Condition
location_kind (EngineCell v) = Engine

-- a location that is put in is a variable's, one that is exported an engine's
abbrev pub IsKnownAfter : {R : Type 0} → Places R → Threads → Cell R → After R → Type 0
IsKnownAfter L T cell Itself = Unit {0}
IsKnownAfter L T cell (Entered scope) = (location_kind cell ≡ Variable) × IsKnown L T scope
IsKnownAfter L T cell (Offered name namer) = (location_kind cell ≡ Engine) × IsText T name × IsText T namer

-- the closure has one parameter
abbrev pub HasOneParameter : Option (List Bytes) → Type 0
HasOneParameter None = ⊥
HasOneParameter (Some params) = length params ≡ 1

-- an operation's locations name cells of the kinds that it is on
abbrev pub IsKnownOperation : {R : Type 0} → Places R → Threads → Operation R → Type 0
IsKnownOperation L T (New cell after) = IsKnownCell L T cell × IsKnownAfter L T cell after
IsKnownOperation L T (Get o x) = L Object o
IsKnownOperation L T (CallMethod o x vs) = L Object o × AllKnown L T vs
IsKnownOperation L T (Leave o out) = L Object o × IsKnown L T out
IsKnownOperation L T (Set o x body) = L Object o × IsKnownBody L T body
IsKnownOperation L T (Copy o flags copied rest) = L Object o × AreKnownFields L T copied × AllObjects L rest
IsKnownOperation L T (RedirectTo o p) = L Object o × L Object p
IsKnownOperation L T (GetItem a i) = L Array a
IsKnownOperation L T (GetSize a) = L Array a
IsKnownOperation L T (EachSize a scope) = L Array a × IsKnown L T scope
IsKnownOperation L T (EachItem a i n scope) = L Array a × IsKnown L T scope
IsKnownOperation L T (SetItem a i v) = L Array a × IsKnownValue L T v
IsKnownOperation L T (ReadVariable l) = L Variable l
IsKnownOperation L T (SetVariable l v) = L Variable l × IsKnownValue L T v
IsKnownOperation L T (Write w x) = L Writer w × IsText T x
IsKnownOperation L T (ForkOff f) = IsKnownValue L T f
IsKnownOperation L T (JoinWith u) = T.numbers u
IsKnownOperation L T (LineUp o c guard) = L Object o × L Condition c × IsKnown L T guard
IsKnownOperation L T (GiveUp o c guard) = L Object o × L Condition c × IsKnown L T guard
IsKnownOperation L T (Again o c guard) = L Object o × L Condition c × IsKnown L T guard
IsKnownOperation L T (Signal c) = L Condition c
IsKnownOperation L T (Broadcast c) = L Condition c
IsKnownOperation L T (Export x v) = IsText T x × IsKnownValue L T v
IsKnownOperation L T (Import x engine) = IsText T x
IsKnownOperation L T (RunEngine e f) = L Engine e × IsKnownValue L T f × HasOneParameter (params_of f)

abbrev pub IsKnownFrame : {R : Type 0} → Places R → Threads → Frame R → Type 0
IsKnownFrame L T (Pending k before after) = IsKnownKind L T k × AllKnown L T before × AreKnown L T after

abbrev pub AreKnownFrames : {R : Type 0} → Places R → Threads → List (Frame R) → Type 0
AreKnownFrames L T [] = Unit {0}
AreKnownFrames L T (f ∷ fs) = IsKnownFrame L T f × AreKnownFrames L T fs

-- what stands next
abbrev pub IsKnownFound : {R : Type 0} → Places R → Threads → Found R → Type 0
IsKnownFound L T (Next u) = IsKnown L T u
IsKnownFound L T (Needs op fs) = IsKnownOperation L T op × AreKnownFrames L T fs
IsKnownFound L T (Done v) = IsKnownValue L T v
IsKnownFound L T (Uncaught r) = IsRaised T r

-- the current self is an object
abbrev pub IsKnownSelf : {R : Type 0} → Places R → Option R → Type 0
IsKnownSelf L None = Unit {0}
IsKnownSelf L (Some o) = L Object o

-- ---- configurations

-- the cell has locations of this kind
abbrev pub HasKind : {R : Type 0} → LocKind → Option (Cell R) → Type 0
HasKind kind None = ⊥
HasKind kind (Some c) = location_kind c ≡ kind

-- a location names a cell of its kind
abbrev pub IsPlace : Store ℕ → LocKind → ℕ → Type 0
IsPlace st kind r = HasKind kind (cell_at st r)

-- so many threads; integers, texts and object literals are bounded where those of the trees are
abbrev pub Numbered : List BlockTree → ℕ → Threads
Numbered trees n = record { numbers = λ u. u < n; bounded = AreBounded trees; narrow = λ m. AreNarrow m trees }

-- these threads
abbrev pub Counted : List BlockTree → List ThreadState → Threads
Counted trees ts = Numbered trees (length ts)

abbrev pub AreKnownCells : Places ℕ → Threads → List (Cell ℕ) → Type 0
AreKnownCells L T [] = Unit {0}
AreKnownCells L T (c ∷ cs) = IsKnownCell L T c × AreKnownCells L T cs

abbrev pub AreKnownNames : Places ℕ → Threads → List (Bytes × Value ℕ) → Type 0
AreKnownNames L T [] = Unit {0}
AreKnownNames L T (e ∷ es) = (IsText T e.0 × IsKnownValue L T e.1) × AreKnownNames L T es

abbrev pub IsKnownStore : Places ℕ → Threads → Store ℕ → Type 0
IsKnownStore L T st = AreKnownCells L T st.cells × AreKnownNames L T st.names

abbrev pub IsKnownExecution : Places ℕ → Threads → Execution → Type 0
IsKnownExecution L T (Running u) = IsKnown L T u
IsKnownExecution L T (Returned v) = IsKnownValue L T v
IsKnownExecution L T (Failed e) = IsText T e

abbrev pub AreKnownThreads : Places ℕ → Threads → List ThreadState → Type 0
AreKnownThreads L T [] = Unit {0}
AreKnownThreads L T (s ∷ ss) = IsKnownExecution L T s.execution × AreKnownThreads L T ss

-- in all terms and cells each location names a cell of its kind, each thread number a thread, each member index a member,
-- no closure lies deeper than 1,000, and no array is longer than 65,536; where those of the trees are so, integers have 64 bits, texts at most 65,536
-- bytes, and object literals no more than so many methods
abbrev pub IsKnownConfig : List BlockTree → Config → Type 0
IsKnownConfig trees k = IsKnownStore (IsPlace k.store) (Counted trees k.threads) k.store × AreKnownThreads (IsPlace k.store) (Counted trees k.threads) k.threads

-- so in every configuration that a journal of a program replays to, with integers, texts and object literals bounded where those of its trees are
abbrev pub ReferencesLaw : Type 0
ReferencesLaw = (trees : List BlockTree) (turns : ℕ) (es : List Entry) (k : Config) → replay trees turns es ≡ Some k → IsKnownConfig trees k

-- where an act stands next in a thread, its location names a cell of the kind that the act is on
abbrev pub NextIsKnown : Type 0
NextIsKnown =
    (trees : List BlockTree) (turns : ℕ) (es : List Entry) (k : Config) (t used : ℕ) (u : Term ℕ) (op : Operation ℕ) (fs : List (Frame ℕ))
    → replay trees turns es ≡ Some k → slice_get k.threads t ≡ Some (state_of (Running u) used) → find same_loc 0 no_self u ≡ Needs op fs
    → IsKnownOperation (IsPlace k.store) (Counted trees k.threads) op
