-- The first entry of a journal that isn't legal, and why it isn't.
use Rattle.std.specs.Prelude.{List, None, Option, Some, [], if◌then◌else◌, nat_lt, slice_get, suc, ℕ, ◌+◌, ◌∷◌}
use Rattle.obq_base.specs.declared.acts.Act.{Act}
use Rattle.obq_base.specs.declared.acts.Entry.{Entry}
use Rattle.obq_base.specs.Tree.{BlockTree}
use Rattle.obq_model.specs.Terms.{Term}
use Rattle.obq_model.specs.Config.{Execution, Running, ThreadState, Config, with_execution}
use Rattle.obq_model.specs.Effect.{Effect, Does, Waits, Nothing, effect}
use Rattle.obq_model.specs.Opening.{opening}
use Rattle.obq_model.specs.Replay.{after_pure, act_same, with_turns, act_turns, take_entry}

-- why an entry isn't legal, in the order in which it is looked for
pub data Why : Type 0 where
  NoThread : Why  -- the thread isn't there, or has ended
  TooManyTurns : Why  -- its turns would pass the limit
  NoPure : Why  -- it has fewer pure steps
  ActWaits : Why  -- an act is named, and what the thread does next waits
  WrongAct : (should : Option Act) → Why  -- an act is named, and another one stands next, or a pure step, for which none is shown

-- why the named act isn't what the thread does next
abbrev pub why_by_effect : Act → Effect → Option Why
why_by_effect a (Does b k) = if act_same a b then None else Some (WrongAct (Some b))
why_by_effect a Waits = Some ActWaits
why_by_effect a Nothing = Some (WrongAct None)

-- why the act isn't done behind the pure steps, if one is named
abbrev pub why_no_act : ℕ → Option Act → Config → Option Why
why_no_act t None k = None
why_no_act t (Some a) k = why_by_effect a (effect k t)

-- why an entry with this term behind its pure steps, if they are there, isn't legal
abbrev pub why_after_steps : Config → Entry → Option (Term ℕ) → Option Why
why_after_steps k e None = Some NoPure
why_after_steps k e (Some u) = why_no_act e.thread e.act (with_turns e.thread e.pure (with_execution k e.thread (Running u)))

-- why an entry of a thread that is here isn't legal
abbrev pub why_of_execution : ℕ → Config → Entry → ThreadState → Execution → Option Why
why_of_execution turns k e state (Running u) =
    if nat_lt turns (state.used + e.pure + act_turns e.act) then Some TooManyTurns
    else why_after_steps k e (after_pure e.pure u)
why_of_execution turns k e state execution = Some NoThread

-- why an entry of a thread, if it is there, isn't legal
abbrev pub why_of_state : ℕ → Config → Entry → Option ThreadState → Option Why
why_of_state turns k e None = Some NoThread
why_of_state turns k e (Some state) = why_of_execution turns k e state state.execution

-- why an entry isn't legal, if it isn't
abbrev pub why_not : ℕ → Config → Entry → Option Why
why_not turns k e = why_of_state turns k e (slice_get k.threads e.thread)

-- the number of an entry, and why it isn't legal
abbrev pub Refusal : Type 0
Refusal = ℕ × Why

-- the first of these entries, from number n on, that isn't legal
abbrev pub first_refused : ℕ → Config → ℕ → List Entry → Option Refusal
first_refused turns k n [] = None
first_refused turns k n (e ∷ es) =
    elim (why_not turns k e) [
      | Some why ↦ Some (n, why)
      | None ↦ elim (take_entry turns k e) [ None ↦ None | Some k2 ↦ first_refused turns k2 (suc n) es ]
    ]

-- the first entry of a program's journal that isn't legal, from 0, and why it isn't
abbrev pub first_illegal : List BlockTree → (turns : ℕ) → List Entry → Option Refusal
first_illegal trees turns entries = first_refused turns (opening trees) 0 entries
