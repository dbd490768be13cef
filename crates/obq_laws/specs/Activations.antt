-- How many activations a term has, and how many are around its focus.
use Rattle.std.specs.Prelude.{Bool, List, Some, false, slice_get, suc, true, ℕ, ◌+◌, ◌<◌, ◌≡◌, ◌≤◌, ◌⊎◌}
use Rattle.obq_base.specs.declared.acts.Entry.{Entry}
use Rattle.obq_base.specs.declared.limits.TheConstants.{CALL_LIMIT}
use Rattle.obq_base.specs.Tree.{BlockTree}
use Rattle.obq_model.specs.Terms.{Term}
use Rattle.obq_model.specs.Step.{Self, Operation, CallMethod, Leave, RunEngine, Found, Next, Needs, Done, Uncaught, find, activations_at}
use Rattle.obq_model.specs.Forms.{IsFormed}
use Rattle.obq_model.specs.Config.{Running, Config}
use Rattle.obq_model.specs.Located.{activations_of}
use Rattle.obq_model.specs.Replay.{replay}
use Rattle.obq_laws.specs.Turns.{state_of}

-- the activation that an act leaves
abbrev pub left_by : {R : Type 0} → Operation R → ℕ
left_by (Leave o out) = 1
left_by op = 0

-- the act may begin an activation
abbrev pub may_enter : {R : Type 0} → Operation R → Bool
may_enter (CallMethod o x vs) = true
may_enter (RunEngine e f) = true
may_enter op = false

-- what is found in a term with n activations, with `a` more around it: a step keeps them, adds one where there are fewer than 1,000, or leaves one;
-- an act's form has all of them around it but the one that it leaves, and fewer than 1,000 where it may begin one
abbrev pub Activated : {R : Type 0} → (a : ℕ) → (n : ℕ) → Found R → Type 0
Activated a n (Next u) = (activations_of u ≡ n) ⊎ ((activations_of u ≡ suc n) × (a + suc n ≤ CALL_LIMIT)) ⊎ (n ≡ suc (activations_of u))
Activated a n (Needs op fs) = (a + n ≡ activations_at a fs + left_by op) × (may_enter op ≡ true → a + n < CALL_LIMIT)
Activated a n (Done v) = n ≡ 0
Activated a n (Uncaught r) = n ≡ 0

-- so in every formed term
abbrev pub FoundActivations : Type 0 → Type 0
FoundActivations R = (eq : R → R → Bool) (a : ℕ) (s : Self R) (t : Term R) → IsFormed s t → Activated a (activations_of t) (find eq a s t)

-- no thread of a replay has more than 1,000 activations
abbrev pub ActivationsLaw : Type 0
ActivationsLaw =
    (trees : List BlockTree) (turns : ℕ) (es : List Entry) (k : Config) (t used : ℕ) (u : Term ℕ)
    → replay trees turns es ≡ Some k → slice_get k.threads t ≡ Some (state_of (Running u) used) → activations_of u ≤ CALL_LIMIT
