-- An entry turn by turn: each pure step and each act takes one turn of its thread.
use Rattle.std.specs.Prelude.{List, None, Option, Some, [], slice_get, slice_set, suc, zero, ℕ, ◌++◌, ◌<◌, ◌∷◌, ◌≡◌}
use Rattle.obq_base.specs.declared.acts.ActKind.{ActKind}
use Rattle.obq_base.specs.declared.acts.Act.{Act}
use Rattle.obq_base.specs.declared.acts.Entry.{Entry}
use Rattle.obq_model.specs.Terms.{Raised, Value, Term}
use Rattle.obq_model.specs.Store.{Store, same_loc}
use Rattle.obq_model.specs.Step.{no_self, Operation, Frame, plug, Needs, Done, Uncaught, find, pure, self_at}
use Rattle.obq_model.specs.Config.{Execution, Running, Returned, ThreadState, Config, act}
use Rattle.obq_model.specs.Effect.{Acting, Forking, perform, end_by}
use Rattle.obq_model.specs.Replay.{take_entry}

-- a thread that goes on so, and has used so many turns
abbrev pub state_of : Execution → ℕ → ThreadState
state_of execution used = record { execution = execution; used = used }

-- thread t goes on so and has used so many turns, and the store is this one
abbrev pub changed : Config → ℕ → Execution → ℕ → Store ℕ → Config
changed k t execution used st = record { store = st; threads = slice_set k.threads t (state_of execution used) }

-- with one thread more, which begins with this term
abbrev pub with_thread : Config → Term ℕ → Config
with_thread k u = record k { threads = k.threads ++ state_of (Running u) 0 ∷ [] }

-- thread t is there, goes on with u, has used so many turns and has one left
pub record CanGo (turns : ℕ) (k : Config) (t : ℕ) (u : Term ℕ) (used : ℕ) : Type 0 where
  pub is_there : slice_get k.threads t ≡ Some (state_of (Running u) used)
  pub is_left : used < turns

-- one turn of thread t: a pure step, or this act
pub data Turn (turns : ℕ) (k : Config) (t : ℕ) : Option Act → Config → Type 0 where
  Steps : {u : Term ℕ} {used : ℕ} {v : Term ℕ} → CanGo turns k t u used → pure same_loc u ≡ Some v → Turn turns k t None (changed k t (Running v) (suc used) k.store)
  Acts : {u : Term ℕ} {used : ℕ} {op : Operation ℕ} {fs : List (Frame ℕ)} {kind : ActKind} {loc : ℕ} {st : Store ℕ} {focus : Term ℕ} → CanGo turns k t u used
      → find same_loc 0 no_self u ≡ Needs op fs → perform k t (self_at no_self fs) op ≡ Acting kind loc st focus
      → Turn turns k t (Some (act kind loc)) (changed k t (Running (plug fs focus)) (suc used) st)
  Forks : {u : Term ℕ} {used : ℕ} {op : Operation ℕ} {fs : List (Frame ℕ)} {loc : ℕ} {new : Term ℕ} {focus : Term ℕ} → CanGo turns k t u used
      → find same_loc 0 no_self u ≡ Needs op fs → perform k t (self_at no_self fs) op ≡ Forking loc new focus
      → Turn turns k t (Some (act ActKind.Fork loc)) (with_thread (changed k t (Running (plug fs focus)) (suc used) k.store) new)
  Ends : {u : Term ℕ} {used : ℕ} {v : Value ℕ} → CanGo turns k t u used → find same_loc 0 no_self u ≡ Done v
      → Turn turns k t (Some (act ActKind.End t)) (changed k t (Returned v) (suc used) k.store)
  Raises : {u : Term ℕ} {used : ℕ} {r : Raised} → CanGo turns k t u used → find same_loc 0 no_self u ≡ Uncaught r
      → Turn turns k t (Some (act ActKind.End t)) (changed k t (end_by r) (suc used) k.store)

-- so many pure steps of thread t, and then the act, if there is one
pub data Turns (turns : ℕ) (t : ℕ) : Config → ℕ → Option Act → Config → Type 0 where
  NoTurn : {k : Config} → Turns turns t k zero None k
  TheAct : {k k2 : Config} {a : Act} → Turn turns k t (Some a) k2 → Turns turns t k zero (Some a) k2
  AStep : {k k1 k2 : Config} {n : ℕ} {a : Option Act} → Turn turns k t None k1 → Turns turns t k1 n a k2 → Turns turns t k (suc n) a k2

-- each legal entry is its pure steps and then its act, one turn each
abbrev pub TurnByTurn : Type 0
TurnByTurn = (turns : ℕ) (k k2 : Config) (e : Entry) → take_entry turns k e ≡ Some k2 → Turns turns e.thread k e.pure e.act k2

-- an entry of a pure step alone, and one of an act alone
abbrev pub alone : ℕ → Option Act → Entry
alone t None = record { thread = t; pure = 1; act = None }
alone t (Some a) = record { thread = t; pure = 0; act = Some a }

-- each turn is a legal entry
abbrev pub TurnTaken : Type 0
TurnTaken = (turns : ℕ) (k k2 : Config) (t : ℕ) (a : Option Act) → Turn turns k t a k2 → take_entry turns k (alone t a) ≡ Some k2
