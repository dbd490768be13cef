-- What threads do next.
use Rattle.std.specs.Prelude.{None, Option, Some, if◌then◌else◌, is_some, min, nat_lt, suc, true, zero, ℕ, ◌+◌, ◌-◌, ◌≡◌}
use Rattle.obq_base.specs.declared.acts.ActKind.{ActKind}
use Rattle.obq_base.specs.declared.acts.Act.{Act}
use Rattle.obq_base.specs.declared.acts.Entry.{Entry}
use Rattle.obq_model.specs.Config.{Config, Execution, Running, ThreadState, act}
use Rattle.obq_model.specs.Effect.{perform}
use Rattle.obq_model.specs.Replay.{act_turns, take_entry}
use Rattle.obq_model.specs.Step.{Done, Found, Needs, Next, Uncaught, find, no_self, self_at}
use Rattle.obq_model.specs.Store.{same_loc}
use Rattle.obq_plain.specs.Ahead.{act_of}

-- pure steps of a term in which this stands next, counted from k on: so many, or all where there are fewer; and what stands next behind them
abbrev pub steps_found : ℕ → ℕ → Found ℕ → ℕ × Found ℕ
steps_found k zero f = (k, f)
steps_found k (suc n) (Next u) = steps_found (suc k) n (find same_loc 0 no_self u)
steps_found k (suc n) f = (k, f)

-- the act of thread t where this stands next in its term; none where that is a pure step or waits
abbrev pub act_found : Config → ℕ → Found ℕ → Option Act
act_found k t (Next u) = None
act_found k t (Needs op fs) = act_of (perform k t (self_at no_self fs) op)
act_found k t (Done v) = Some (act ActKind.End t)
act_found k t (Uncaught r) = Some (act ActKind.End t)

-- the entry of n pure steps and this act; none where it takes no turn
abbrev pub entry_with : ℕ → ℕ → Option Act → Option Entry
entry_with t zero None = None
entry_with t n a = Some (record { thread = t; pure = n; act = a })

-- what thread t does next behind n pure steps, where it had used so many turns before: its act, if a turn is left
abbrev pub entry_behind : ℕ → Config → ℕ → ℕ → ℕ → Found ℕ → Option Entry
entry_behind turns k t used n f = entry_with t n (if nat_lt (used + n) turns then act_found k t f else None)

-- what a thread does next: at most so many pure steps, and then its act
abbrev pub entry_of_execution : ℕ → Config → (most : ℕ) → ℕ → ℕ → Execution → Option Entry
entry_of_execution turns k most t used (Running u) =
    if nat_lt used turns then (let p = steps_found 0 (min most (turns - used)) (find same_loc 0 no_self u) in entry_behind turns k t used p.0 p.1) else None
entry_of_execution turns k most t used execution = None

abbrev pub entry_of_state : ℕ → Config → (most : ℕ) → ℕ → Option ThreadState → Option Entry
entry_of_state turns k most t None = None
entry_of_state turns k most t (Some state) = entry_of_execution turns k most t state.used state.execution

-- a legal entry that takes a turn
abbrev pub IsNext : ℕ → Config → Entry → Type 0
IsNext turns k e = (is_some (take_entry turns k e) ≡ true) × (e.pure + act_turns e.act ≡ 0 → ⊥)
