-- What an operation that came in a request does where it is served, what the reply carries, and the window of the activation that begins instead. No window stands at the operation's form there.
use Rattle.std.specs.Prelude.{Bool, List, None, Option, Some, [], option_map, ℕ, ◌∷◌, ◌≡◌}
use Rattle.obq_base.specs.declared.code.SourceCode.{SourceCode}
use Rattle.obq_base.specs.declared.places.Ref.{Ref}
use Rattle.obq_model.specs.Cells.{again_row, cell_row, import_row}
use Rattle.obq_model.specs.Maps.{map_operation, map_self}
use Rattle.obq_model.specs.Step.{Self}
use Rattle.obq_model.specs.Terms.{Term}
use Rattle.obq_moves.specs.Store.{same_ref, store}
use Rattle.obq_answers.specs.Beginnings.{Around, engine_shown, method_shown}
use Rattle.obq_answers.specs.Forms.{CompleteMaybe}
use Rattle.obq_answers.specs.Replies.{CompleteReply, PlainReply, ReplyHop, ReplyRaised, ReplyTaken, ReplyValue, seen_reply}
use Rattle.obq_answers.specs.Worlds.{SeenAs, seen, seen_cell, seen_value}
use Rattle.obq_stands.specs.World.{Ends, Enters, Gives, Idle, Row, result_of}
use Rattle.obq_stands.specs.World as world
use Rattle.obq_windows.specs.Acts.{AnswerCalled, AnswerForm, AnswerMethod, AnswerRaising, AnswerTest, AnswerValue, PlainAnswer, Takes}
use Rattle.obq_windows.specs.Agrees.{Agrees}
use Rattle.obq_windows.specs.Complete.{CompleteOperation}
use Rattle.obq_windows.specs.Rows.{CompleteLeft, PlainCell, PlainEnds, PlainOutcome, PlainWaits, again_plain, import_plain, plain_row}
use Rattle.obq_windows.specs.Trees.{PlainAgain, PlainCloning, PlainEachItem, PlainEachSize, PlainForkOff, PlainGet, PlainGiveUp, PlainInvoke, PlainLeave, PlainNewArray, PlainNewCondition, PlainNewEngine, PlainNewVariable, PlainOperation, PlainRunEngine, PlainSetMethod, PlainSetValue, read_operation}
use Rattle.obq_windows.specs.Values.{OkayValue, PlainValue, Table}
use Rattle.obq_windows.specs.Windows.{node_params}

-- An operation that a request may have: it makes nothing, and its answer goes in place or to the guard of a watch. The closure that an engine runs has one parameter.
abbrev pub IsServed : Table Ref → PlainOperation Ref → Type 0
IsServed T (PlainRunEngine e f) = Takes T f (OkayValue ∷ [])
IsServed T (PlainNewArray vs) = ⊥
IsServed T PlainNewCondition = ⊥
IsServed T (PlainNewVariable v) = ⊥
IsServed T (PlainNewEngine x namer v) = ⊥
IsServed T (PlainCloning flags fields []) = ⊥
IsServed T (PlainForkOff f) = ⊥
IsServed T (PlainLeave o k) = ⊥
IsServed T (PlainEachSize r) = ⊥
IsServed T (PlainEachItem r i n) = ⊥
IsServed T op = Unit {0}

-- the reply that stands for a form at which the operation goes on
abbrev pub form_reply : PlainOperation Ref → Option PlainReply
form_reply (PlainGet p y) = Some (ReplyHop p y)
form_reply (PlainInvoke p y vs) = Some (ReplyHop p y)
form_reply (PlainSetValue p y v) = Some (ReplyHop p y)
form_reply (PlainSetMethod p y m) = Some (ReplyHop p y)
form_reply (PlainCloning (Some flags) fields rest) = Some (ReplyTaken flags fields)
form_reply (PlainGiveUp o c) = Some (ReplyValue OkayValue)
form_reply (PlainAgain o c) = Some (ReplyValue OkayValue)
form_reply op = None

-- what x leaves at the focus is posted as this reply
abbrev pub RepliesBy : Table Ref → Option PlainReply → Term world.Ref → Type 0
RepliesBy T None x = ⊥
RepliesBy T (Some reply) x = (result_of x ≡ Gives (seen_reply T reply)) × CompleteReply T reply

-- this window is that of the activation which begins with x
abbrev pub EntersBy : List SourceCode → Table Ref → PlainAnswer Ref → Term world.Ref → Type 0
EntersBy parts T (AnswerMethod o m f vs) x = (outside : Around) → SeenAs parts T outside.activations (map_self seen outside.current) (method_shown o m f vs outside) x
EntersBy parts T (AnswerCalled f vs) x = (outside : Around) → SeenAs parts T outside.activations (map_self seen outside.current) (engine_shown f vs outside) x
EntersBy parts T answer x = ⊥

-- what comes of an answer where no window asks
abbrev pub ServedBy : List SourceCode → Table Ref → PlainAnswer Ref → Term world.Ref → Type 0
ServedBy parts T (AnswerValue v) x = RepliesBy T (Some (ReplyValue v)) x
ServedBy parts T (AnswerRaising r) x = RepliesBy T (Some (ReplyRaised r)) x
ServedBy parts T AnswerTest x = RepliesBy T (Some (ReplyValue OkayValue)) x
ServedBy parts T (AnswerForm p) x = RepliesBy T (form_reply p) x
ServedBy parts T (AnswerMethod o m f vs) x = (result_of x ≡ Enters x) × EntersBy parts T (AnswerMethod o m f vs) x
ServedBy parts T (AnswerCalled f vs) x = (result_of x ≡ Enters x) × EntersBy parts T (AnswerCalled f vs) x

-- what code over plain values comes to is this row of the operation
abbrev pub ServedRow : List SourceCode → Table Ref → PlainOutcome Ref → Row world.Ref → Type 0
ServedRow parts T PlainWaits row = row ≡ Idle
ServedRow parts T (PlainEnds kind left answer) row = (x : Term world.Ref) × (row ≡ Ends kind (option_map (seen_cell T) left) x) × CompleteLeft T left × ServedBy parts T answer x

-- an operation on one cell, with the current self of who asked; `scope` stands for the guard of a watch
abbrev pub CellServed : Type 0
CellServed =
    (parts : List SourceCode) (T : Table Ref) → Agrees T (store parts) → (op : PlainOperation Ref) → CompleteOperation T op → IsServed T op → (scope : Term Ref) (thread : ℕ) (self : Self Ref) (cell : Option (PlainCell Ref)) → CompleteLeft T cell
    → ServedRow parts T (plain_row (node_params (store parts)) same_ref thread self op cell) (cell_row world.same_ref Ends Idle thread (map_self seen self) (map_operation seen (read_operation T op scope)) (option_map (seen_cell T) cell))

-- a watch that takes its mutex again, and a name that is read
abbrev pub RetakeServed : Type 0
RetakeServed =
    (parts : List SourceCode) (T : Table Ref) (p c : Ref) (guard : Term world.Ref) (thread : ℕ) (lined : Bool) (cell : Option (PlainCell Ref)) → CompleteLeft T cell
    → ServedRow parts T (again_plain thread lined cell) (again_row Ends Idle thread lined (seen p) (seen c) guard (option_map (seen_cell T) cell))

abbrev pub NameServed : Type 0
NameServed =
    (parts : List SourceCode) (T : Table Ref) (engine : Bool) (v : Option (PlainValue Ref)) → CompleteMaybe T v → ServedRow parts T (import_plain engine v) (import_row Ends Idle engine (option_map (seen_value T) v))
