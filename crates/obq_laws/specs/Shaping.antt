-- Rightly shaped terms: what opens so and what stays so.
use Rattle.std.specs.Prelude.{Bool, List, None, Option, Some, [], ℕ, ◌∷◌, ◌≡◌}
use Rattle.obq_base.specs.declared.acts.Entry.{Entry}
use Rattle.obq_base.specs.Tree.{BlockTree}
use Rattle.obq_model.specs.Terms.{Bytes, Value, Term}
use Rattle.obq_model.specs.Put.{put}
use Rattle.obq_model.specs.Store.{Cell, ObjectCell, ArrayCell, VariableCell, EngineCell, Store}
use Rattle.obq_model.specs.Step.{Self, After, Entered, Operation, New, CallMethod, Leave, Set, Copy, EachSize, EachItem, SetItem, SetVariable, ForkOff, LineUp, GiveUp, Again, Export, RunEngine, pure_in}
use Rattle.obq_model.specs.Shapes.{IsShaped, IsShapedUnderOne, IsShapedValue, AreShapedFields, IsShapedField}
use Rattle.obq_model.specs.Forms.{IsSource}
use Rattle.obq_model.specs.Config.{Execution, Running, Returned, Failed, ThreadState, Config}
use Rattle.obq_model.specs.Opening.{block_term}
use Rattle.obq_model.specs.Replay.{replay}

-- the term that a block opens as is rightly shaped, and has no run-time forms
abbrev pub OpeningShaped : Type 0
OpeningShaped = (site : ℕ) (bound : List Bytes) (b : BlockTree) → IsShaped (block_term site bound b) × IsSource (block_term site bound b)

-- a pure step of a rightly shaped term gives one
abbrev pub StepShaped : Type 0 → Type 0
StepShaped R = (eq : R → R → Bool) (a : ℕ) (s : Self R) (t u : Term R) → IsShaped t → pure_in eq t a s ≡ Some u → IsShaped u

-- rightly shaped values
abbrev pub AllShaped : {R : Type 0} → List (Value R) → Type 0
AllShaped [] = Unit {0}
AllShaped (v ∷ vs) = IsShapedValue v × AllShaped vs

-- putting in a rightly shaped value keeps the shape
abbrev pub PutShaped : Type 0 → Type 0
PutShaped R = (v : Value R) (x : Bytes) (t : Term R) → IsShapedValue v → IsShaped t → IsShaped (put v x t)

-- ---- operations, stores and configurations

abbrev pub IsShapedCell : {R : Type 0} → Cell R → Type 0
IsShapedCell (ObjectCell flags owner fields) = AreShapedFields fields
IsShapedCell (ArrayCell vs) = AllShaped vs
IsShapedCell (VariableCell v) = IsShapedValue v
IsShapedCell (EngineCell v) = IsShapedValue v
IsShapedCell cell = Unit {0}

abbrev pub IsShapedAfter : {R : Type 0} → After R → Type 0
IsShapedAfter (Entered scope) = IsShapedUnderOne scope
IsShapedAfter after = Unit {0}

abbrev pub ShapedOperation : {R : Type 0} → Operation R → Type 0
ShapedOperation (New cell after) = IsShapedCell cell × IsShapedAfter after
ShapedOperation (CallMethod o x vs) = AllShaped vs
ShapedOperation (Leave o out) = IsShaped out
ShapedOperation (Set o x body) = IsShapedField body
ShapedOperation (Copy o flags copied rest) = AreShapedFields copied
ShapedOperation (EachSize a scope) = IsShapedUnderOne scope
ShapedOperation (EachItem a i n scope) = IsShapedUnderOne scope
ShapedOperation (SetItem a i v) = IsShapedValue v
ShapedOperation (SetVariable l v) = IsShapedValue v
ShapedOperation (ForkOff f) = IsShapedValue f
ShapedOperation (LineUp o c guard) = IsShaped guard
ShapedOperation (GiveUp o c guard) = IsShaped guard
ShapedOperation (Again o c guard) = IsShaped guard
ShapedOperation (Export x v) = IsShapedValue v
ShapedOperation (RunEngine e f) = IsShapedValue f
ShapedOperation op = Unit {0}

abbrev pub AreShapedCells : List (Cell ℕ) → Type 0
AreShapedCells [] = Unit {0}
AreShapedCells (c ∷ cs) = IsShapedCell c × AreShapedCells cs

abbrev pub AreShapedNames : List (Bytes × Value ℕ) → Type 0
AreShapedNames [] = Unit {0}
AreShapedNames (e ∷ es) = IsShapedValue e.1 × AreShapedNames es

abbrev pub IsShapedStore : Store ℕ → Type 0
IsShapedStore st = AreShapedCells st.cells × AreShapedNames st.names

abbrev pub IsShapedExecution : Execution → Type 0
IsShapedExecution (Running u) = IsShaped u
IsShapedExecution (Returned v) = IsShapedValue v
IsShapedExecution (Failed e) = Unit {0}

abbrev pub AreShapedThreads : List ThreadState → Type 0
AreShapedThreads [] = Unit {0}
AreShapedThreads (t ∷ ts) = IsShapedExecution t.execution × AreShapedThreads ts

-- the terms of all threads and all that the store holds are rightly shaped
abbrev pub IsShapedConfig : Config → Type 0
IsShapedConfig k = IsShapedStore k.store × AreShapedThreads k.threads

abbrev pub IsShapedIf : Option Config → Type 0
IsShapedIf None = Unit {0}
IsShapedIf (Some k) = IsShapedConfig k

-- so in every configuration that a journal of a program replays to
abbrev pub ShapedReplay : Type 0
ShapedReplay = (trees : List BlockTree) (turns : ℕ) (entries : List Entry) → IsShapedIf (replay trees turns entries)
