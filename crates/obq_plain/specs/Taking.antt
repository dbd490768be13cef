-- What an entry comes to at a thread that runs.
use Rattle.std.specs.Prelude.{Bool, Err, None, Ok, Option, Result, Some, [], false, if◌then◌else◌, slice_get, slice_set, true, ℕ, ◌+◌, ◌++◌, ◌≤◌, ◌∷◌, ◌≡◌}
use Rattle.obq_base.specs.declared.acts.Act.{Act}
use Rattle.obq_base.specs.declared.acts.Entry.{Entry}
use Rattle.obq_model.specs.Config.{Config, Execution, Failed, Returned, Running, ThreadState}
use Rattle.obq_model.specs.Effect.{Acting, Effect, Forking, Outcome, Waiting}
use Rattle.obq_model.specs.Refusals as m
use Rattle.obq_model.specs.Refusals.{why_by_effect, why_no_act, why_not}
use Rattle.obq_model.specs.Replay.{act_same, act_turns, exactly, take_entry, then_act, with_turns}
use Rattle.obq_model.specs.Terms.{Term}
use Rattle.obq_plain.specs.PlainStates.{why_of}
use Rattle.obq_plain.specs.declared.refusals.TakeRefused.{TakeRefused}
use Rattle.obq_plain.specs.declared.taking.Ready.{Ready}

-- thread t goes on with this, and has used n turns
abbrev pub put_thread : Config → ℕ → Execution → ℕ → Config
put_thread k t x n = record k { threads = slice_set k.threads t (record { execution = x; used = n }) }

-- what an outcome at the focus of thread t leaves, where `whole` is the term with its focus
abbrev pub behind_outcome : Config → ℕ → ℕ → (Term ℕ → Term ℕ) → Outcome → Config
behind_outcome k t n whole Waiting = k
behind_outcome k t n whole (Acting kind l st focus) = put_thread (record k { store = st }) t (Running (whole focus)) n
behind_outcome k t n whole (Forking l new focus) =
    put_thread (record k { threads = k.threads ++ record { execution = Running new; used = 0 } ∷ [] }) t (Running (whole focus)) n

abbrev pub is_forking : Outcome → Bool
is_forking Waiting = false
is_forking (Acting kind l st focus) = false
is_forking (Forking l new focus) = true

-- a thread that runs
abbrev pub runs : Option ThreadState → Bool
runs None = false
runs (Some state) = elim state.execution [ Running t ↦ true | Returned v ↦ false | Failed e ↦ false ]

-- why the named act isn't the one that is foreseen
abbrev pub why_ahead : Act → Option Act → Option m.Why
why_ahead a None = Some m.ActWaits
why_ahead a (Some b) = if act_same a b then None else Some (m.WrongAct (Some b))

-- the configuration where the named act is what thread t does next
abbrev pub exactly_done : Act → ℕ → Effect → Option Config
exactly_done a t effect = elim (exactly a effect) [ None ↦ None | Some k ↦ Some (with_turns t 1 k) ]

-- a named act, where this is what thread t does next
abbrev pub ActCases : {T : Type 0} → Act → ℕ → Effect → Config → Result T TakeRefused → Config → Type 0
ActCases a t effect old (Ok done) new = exactly_done a t effect ≡ Some new
ActCases a t effect old (Err (TakeRefused.NotLegal why)) new = (why_by_effect a effect ≡ Some (why_of why)) × (new ≡ old)
ActCases a t effect old (Err TakeRefused.NoMemory) new = new ≡ old

-- the act of an entry, if it names one, where this is the configuration behind its pure steps
abbrev pub ThenCases : {T : Type 0} → Option Act → ℕ → Config → Config → Result T TakeRefused → Config → Type 0
ThenCases a t k old (Ok done) new = then_act t a k ≡ Some new
ThenCases a t k old (Err (TakeRefused.NotLegal why)) new = (why_no_act t a k ≡ Some (why_of why)) × (new ≡ old)
ThenCases a t k old (Err TakeRefused.NoMemory) new = new ≡ old

-- An entry whose pure steps are there comes to what its act comes to behind these; else it is refused.
abbrev pub ReadyCases : ℕ → Config → Entry → Result Ready TakeRefused → Type 0
ReadyCases turns k e (Ok r) =
    (take_entry turns k e ≡ then_act e.thread e.act (put_thread k e.thread (Running r.term) r.used))
    × (why_not turns k e ≡ why_no_act e.thread e.act (put_thread k e.thread (Running r.term) r.used))
    × (runs (slice_get k.threads e.thread) ≡ true)
    × (r.used + act_turns e.act ≤ turns)
ReadyCases turns k e (Err (TakeRefused.NotLegal why)) = why_not turns k e ≡ Some (why_of why)
ReadyCases turns k e (Err TakeRefused.NoMemory) = Unit {0}

-- an entry is taken where it is legal, and else refused for its first reason
abbrev pub EntryCases : {T : Type 0} → ℕ → Config → Entry → Result T TakeRefused → Config → Type 0
EntryCases turns old e (Ok done) new = take_entry turns old e ≡ Some new
EntryCases turns old e (Err (TakeRefused.NotLegal why)) new = (why_not turns old e ≡ Some (why_of why)) × (new ≡ old)
EntryCases turns old e (Err TakeRefused.NoMemory) new = new ≡ old
