-- How many closures a turn makes: one at a `proc`, one group at a `let rec`, as many as it has methods at an object literal, one where a field gets a
-- method. A clone makes none, since it takes over the methods of its objects.
use Rattle.std.specs.Prelude.{List, None, Option, Some, [], false, if◌then◌else◌, length, nat_lt, slice_get, suc, true, zero, ℕ, ◌++◌, ◌+◌, ◌*◌, ◌==◌, ◌∷◌, ◌≡◌, ◌≤◌}
use Rattle.obq_base.specs.declared.acts.Act.{Act}
use Rattle.obq_base.specs.declared.acts.Entry.{Entry}
use Rattle.obq_base.specs.declared.limits.TheConstants.{CLOSURE_LIMIT}
use Rattle.obq_base.specs.Tree.{BlockTree}
use Rattle.obq_model.specs.Terms.{Object, Value, Loc, Kind, LetRec, Group, Procedure, MakeObject, SetMethod, Term, Const, Name, Under, Form, Parts, End, Part}
use Rattle.obq_model.specs.Depth.{deepest_of, is_too_deep}
use Rattle.obq_model.specs.Shapes.{methods_of}
use Rattle.obq_model.specs.Store.{same_loc}
use Rattle.obq_model.specs.Step.{is_operand, Found, Next, Needs, Done, Uncaught, make_object, pure}
use Rattle.obq_model.specs.Config.{Execution, Running, Returned, Failed, ThreadState, Config}
use Rattle.obq_model.specs.Opening.{opening}
use Rattle.obq_model.specs.Replay.{after_pure, take_entry, replay}
use Rattle.obq_laws.specs.Literals.{AreNarrow}
use Rattle.obq_laws.specs.Turns.{state_of}

-- as many where an act stands next, none where the form raises
abbrev pub made_if_needed : {R : Type 0} → ℕ → Found R → ℕ
made_if_needed n (Next u) = 0
made_if_needed n (Needs op fs) = n
made_if_needed n (Done v) = 0
made_if_needed n (Uncaught r) = 0

-- the closures that a form makes whose operands have these values, with its parts after them
abbrev pub made_by : {R : Type 0} → Kind R → List (Value R) → Parts R → ℕ
made_by LetRec [] (Part (Under names (Form Group (Part rest group))) End) = if nat_lt CLOSURE_LIMIT (deepest_of group) then 0 else 1
made_by Procedure [] (Part (Under params body) End) = if is_too_deep body then 0 else 1
made_by (MakeObject flags shape) vs methods = made_if_needed (methods_of shape) (make_object flags shape vs methods)
made_by (SetMethod x) (Loc Object o ∷ []) (Part (Under params body) End) = if is_too_deep body then 0 else 1
made_by k vs parts = 0

-- the closures that the turn makes which stands next in a term, whether it is a pure step or an act, also where the act waits
abbrev mutual
  pub made : {R : Type 0} → Term R → ℕ
  made (Const v) = 0
  made (Name x) = 0
  made (Under names t) = 0
  made (Form k parts) = made_part k [] parts

  -- the same of a form, whose parts before these have these values
  pub made_part : {R : Type 0} → Kind R → List (Value R) → Parts R → ℕ
  made_part k before End = made_by k before End
  made_part k before (Part (Const v) after) =
      elim (is_operand k (length before)) [ true ↦ made_part k (before ++ v ∷ []) after | false ↦ made_by k before (Part (Const v) after) ]
  made_part k before (Part t after) = elim (is_operand k (length before)) [ true ↦ made t | false ↦ made_by k before (Part t after) ]

-- ---- in a journal

-- in n pure steps
abbrev pub made_steps : ℕ → Term ℕ → ℕ
made_steps zero t = 0
made_steps (suc n) t = elim (pure same_loc t) [ None ↦ 0 | Some u ↦ made t + made_steps n u ]

-- in the named act behind them, if there is one
abbrev pub made_act : Option Act → Option (Term ℕ) → ℕ
made_act None t = 0
made_act (Some a) None = 0
made_act (Some a) (Some t) = made t

-- in an entry of a thread that is here
abbrev pub made_execution : Entry → Execution → ℕ
made_execution e (Running t) = made_steps e.pure t + made_act e.act (after_pure e.pure t)
made_execution e (Returned v) = 0
made_execution e (Failed x) = 0

abbrev pub made_state : Entry → Option ThreadState → ℕ
made_state e None = 0
made_state e (Some state) = made_execution e state.execution

-- by thread t in an entry
abbrev pub made_entry : Config → ℕ → Entry → ℕ
made_entry k t e = if e.thread == t then made_state e (slice_get k.threads e.thread) else 0

-- by thread t in these entries
abbrev pub made_from : ℕ → Config → ℕ → List Entry → ℕ
made_from turns k t [] = 0
made_from turns k t (e ∷ es) = elim (take_entry turns k e) [ None ↦ 0 | Some k2 ↦ made_entry k t e + made_from turns k2 t es ]

-- by thread t in a program's journal
abbrev pub closures_made : List BlockTree → (turns : ℕ) → List Entry → ℕ → ℕ
closures_made trees turns es t = made_from turns (opening trees) t es

-- ---- the laws

-- where no object literal of the trees has more than n methods, n at least one, no turn makes more than n closures
abbrev pub TurnMakesFew : Type 0
TurnMakesFew =
    (trees : List BlockTree) (turns : ℕ) (es : List Entry) (k : Config) (t used : ℕ) (u : Term ℕ) (n : ℕ)
    → 1 ≤ n → AreNarrow n trees → replay trees turns es ≡ Some k → slice_get k.threads t ≡ Some (state_of (Running u) used) → made u ≤ n

-- so a thread has made n closures at most for each turn that it has used
abbrev pub ClosuresLaw : Type 0
ClosuresLaw =
    (trees : List BlockTree) (turns : ℕ) (es : List Entry) (k : Config) (t : ℕ) (state : ThreadState) (n : ℕ)
    → 1 ≤ n → AreNarrow n trees → replay trees turns es ≡ Some k → slice_get k.threads t ≡ Some state → closures_made trees turns es t ≤ state.used * n
