-- Schedulers that make journals for the computed rows, and what a journal comes to by replay.
use Rattle.std.specs.Prelude.{Bool, List, None, Option, Some, [], drop, if◌then◌else◌, is_none, length, nat_lt, reverse, suc, zero, ℕ, ◌&&◌, ◌==◌, ◌∷◌}
use Rattle.obq_base.specs.declared.acts.ActKind.{ActKind}
use Rattle.obq_base.specs.declared.acts.Act.{Act}
use Rattle.obq_base.specs.declared.acts.Entry.{Entry}
use Rattle.obq_base.specs.declared.acts.Report.{Report}
use Rattle.obq_base.specs.Tree.{BlockTree}
use Rattle.obq_model.specs.Terms.{Bytes, Term}
use Rattle.obq_model.specs.Store.{same_loc}
use Rattle.obq_model.specs.Step.{no_self, Found, Next, Needs, Done, Uncaught, find, self_at}
use Rattle.obq_model.specs.Config.{Execution, Running, Returned, ThreadState, Config, act, with_execution}
use Rattle.obq_model.specs.Effect.{perform, Effect, Does, Waits, Nothing, after_outcome, end_by}
use Rattle.obq_model.specs.Opening.{opening}
use Rattle.obq_model.specs.Replay.{with_turns, replay, report, status, output, is_over}
use Rattle.obq_model.specs.Spans.{Event, events}
use Rattle.obq_model.specs.Located.{located_replay, Link, links}

-- a thread's next turn: a pure step, an act, or none
pub data Turn : Type 0 where
  Stepped : Term ℕ → Turn
  Acted : Act → Config → Turn
  Stuck : Turn

abbrev pub turn_of_effect : Effect → Turn
turn_of_effect (Does a k) = Acted a k
turn_of_effect Waits = Stuck
turn_of_effect Nothing = Stuck

abbrev pub turn_of_found : Config → ℕ → Found ℕ → Turn
turn_of_found k t (Next u) = Stepped u
turn_of_found k t (Needs op fs) = turn_of_effect (after_outcome k t fs (perform k t (self_at no_self fs) op))
turn_of_found k t (Done v) = Acted (act ActKind.End t) (with_execution k t (Returned v))
turn_of_found k t (Uncaught r) = Acted (act ActKind.End t) (with_execution k t (end_by r))

abbrev pub turn_of_execution : Config → ℕ → Execution → Turn
turn_of_execution k t (Running u) = turn_of_found k t (find same_loc 0 no_self u)
turn_of_execution k t execution = Stuck

-- the next turn of a thread that has a turn left
abbrev pub turn_within : ℕ → Config → ℕ → ThreadState → Turn
turn_within turns k t state = if nat_lt state.used turns then turn_of_execution k t state.execution else Stuck

-- which of the threads that can go takes the next turn
pub data Order : Type 0 where
  LowestFirst : Order
  HighestFirst : Order
  RoundRobin : Order  -- the one after the thread that went last

-- a thread's number and its turn
abbrev pub Chosen : Type 0
Chosen = ℕ × Turn

abbrev pub or_else : Chosen → Chosen → Chosen
or_else a b = elim a.1 [ Stepped u ↦ a | Acted x k ↦ a | Stuck ↦ b ]

-- the turn of the lowest thread from t on that can go, and of the highest one
abbrev pub lowest : ℕ → Config → ℕ → List ThreadState → Chosen
lowest turns k t [] = (t, Stuck)
lowest turns k t (s ∷ ss) =
    elim (turn_within turns k t s) [
      | Stepped u ↦ (t, Stepped u)
      | Acted a k2 ↦ (t, Acted a k2)
      | Stuck ↦ lowest turns k (suc t) ss
    ]

abbrev pub highest : ℕ → Config → ℕ → List ThreadState → Chosen
highest turns k t [] = (t, Stuck)
highest turns k t (s ∷ ss) =
    let later : Chosen = highest turns k (suc t) ss in
    elim later.1 [
      | Stepped u ↦ later
      | Acted a k2 ↦ later
      | Stuck ↦ (t, turn_within turns k t s)
    ]

abbrev pub chosen_by : Order → ℕ → Config → ℕ → Chosen
chosen_by LowestFirst turns k last = lowest turns k 0 k.threads
chosen_by HighestFirst turns k last = highest turns k 0 k.threads
chosen_by RoundRobin turns k last =
    let later : Chosen = lowest turns k (suc last) (drop (suc last) k.threads) in
    elim later.1 [
      | Stepped u ↦ later
      | Acted a k2 ↦ later
      | Stuck ↦ lowest turns k 0 k.threads
    ]

-- ---- journals

abbrev pub entry : ℕ → ℕ → Option Act → Entry
entry t n a = record { thread = t; pure = n; act = a }

-- one more pure step of the last entry where that is the same thread's and has no act; entries stand latest first
abbrev pub add_step : ℕ → List Entry → List Entry
add_step t [] = entry t 1 None ∷ []
add_step t (e ∷ es) = if e.thread == t && is_none e.act then entry t (suc e.pure) None ∷ es else entry t 1 None ∷ e ∷ es

abbrev pub add_act : ℕ → Act → List Entry → List Entry
add_act t a [] = entry t 0 (Some a) ∷ []
add_act t a (e ∷ es) = if e.thread == t && is_none e.act then entry t e.pure (Some a) ∷ es else entry t 0 (Some a) ∷ e ∷ es

-- the entries from this configuration, in at most `fuel` turns
abbrev pub journal_from : (fuel : ℕ) → Order → (turns : ℕ) → (last : ℕ) → List Entry → Config → List Entry
journal_from zero order turns last es k = reverse es
journal_from (suc fuel) order turns last es k =
    let next : Chosen = chosen_by order turns k last in
    elim next.1 [
      | Stepped u ↦ journal_from fuel order turns next.0 (add_step next.0 es) (with_turns next.0 1 (with_execution k next.0 (Running u)))
      | Acted a k2 ↦ journal_from fuel order turns next.0 (add_act next.0 a es) (with_turns next.0 1 k2)
      | Stuck ↦ reverse es
    ]

-- a journal of the program, made by this scheduler
abbrev pub journal : Order → (fuel : ℕ) → (turns : ℕ) → List BlockTree → List Entry
journal order fuel turns trees = journal_from fuel order turns 0 [] (opening trees)

-- ---- what a journal comes to

pub data Result : Type 0 where
  NotLegal : Result
  NotOver : Result
  Printed : List Bytes → (ended : ℕ) → (raised : ℕ) → (waiting : ℕ) → (spent : ℕ) → (status : ℕ) → Result

abbrev pub printed : List BlockTree → ℕ → Config → Report → Result
printed trees turns k r =
    if is_over turns k then Printed (output (length trees) k) r.ended r.raised r.waiting r.spent (status r) else NotOver

-- what the replay of these entries prints, where they are legal and it is over
abbrev pub result : List BlockTree → (turns : ℕ) → List Entry → Result
result trees turns entries = elim (replay trees turns entries) [ None ↦ NotLegal | Some k ↦ printed trees turns k (report turns k) ]

-- what a scheduler's journal prints
abbrev pub run : Order → (fuel : ℕ) → (turns : ℕ) → List BlockTree → Result
run order fuel turns trees = result trees turns (journal order fuel turns trees)

-- the table of requests and replies of a scheduler's journal; none where the journal isn't legal
abbrev pub links_of_run : Order → (fuel : ℕ) → (turns : ℕ) → List BlockTree → Option (List Link)
links_of_run order fuel turns trees =
    elim (located_replay trees turns (journal order fuel turns trees)) [ None ↦ None | Some l ↦ Some (links (length trees) l) ]

-- how many of a scheduler's acts are so
abbrev pub how_many : (Event → Bool) → List Event → ℕ
how_many p [] = 0
how_many p (e ∷ es) = if p e then suc (how_many p es) else how_many p es

abbrev pub acts_in_run : (Event → Bool) → Order → (fuel : ℕ) → (turns : ℕ) → List BlockTree → ℕ
acts_in_run p order fuel turns trees = how_many p (events trees turns (journal order fuel turns trees))
