-- Every configuration that a journal of a program replays to is rightly shaped.
use Rattle.std.specs.Prelude.{Bool, List, None, Option, Some, [], false, if◌then◌else◌, length, nat_lt, refl, replicate, slice_get, slice_index_or, slice_set, suc, true, zero, ℕ, ◌++◌, ◌+◌, ◌∷◌, ◌≡◌}
use Rattle.obq_base.specs.declared.acts.Act.{Act}
use Rattle.obq_base.specs.declared.acts.Entry.{Entry}
use Rattle.obq_base.specs.Tree.{BlockTree}
use Rattle.obq_model.specs.Terms.{Exn, ExitUp, Term}
use Rattle.obq_model.specs.Exceptions.{exit_outside}
use Rattle.obq_model.specs.Store.{WriterCell, same_loc}
use Rattle.obq_model.specs.Step.{no_self, Frame, plug, Found, Next, Needs, Done, Uncaught, find, pure, self_at}
use Rattle.obq_model.specs.Shapes.{IsShaped}
use Rattle.obq_model.specs.Config.{Execution, Running, Returned, Failed, ThreadState, Config, with_execution}
use Rattle.obq_model.specs.Effect.{Outcome, Waiting, Acting, Forking, perform, Effect, Does, Waits, Nothing, after_outcome, effect_of, effect_of_execution, effect_of_state, effect}
use Rattle.obq_model.specs.Opening.{opening_terms, new_threads, opening}
use Rattle.obq_model.specs.Replay.{after_pure, act_same, spend, with_turns, exactly, then_act, act_turns, take_of, take_execution, take_state, take_entry, replay_from}
use Rattle.obq_laws.specs.Shaping.{AreShapedCells, IsShapedExecution, AreShapedThreads, IsShapedConfig, IsShapedIf, ShapedReplay}
use Rattle.obq_laws.proofs.ShapedStep.{ShapedFound, shaped_find, step_shaped}
use Rattle.obq_laws.proofs.ShapedOpening.{shaped_block}
use Rattle.obq_laws.proofs.ShapedActs.{ShapedOutcome, shaped_perform}

-- ---- threads

set_thread : (ts : List ThreadState) (t : ℕ) (state : ThreadState) → AreShapedThreads ts → IsShapedExecution state.execution → AreShapedThreads (slice_set ts t state)
set_thread [] t state h i = tt
set_thread (u ∷ ts) zero state h i = (i, h.1)
set_thread (u ∷ ts) (suc t) state h i = (h.0, set_thread ts t state h.1 i)

add_thread : (ts : List ThreadState) (state : ThreadState) → AreShapedThreads ts → IsShapedExecution state.execution → AreShapedThreads (ts ++ state ∷ [])
add_thread [] state h i = (i, tt)
add_thread (u ∷ ts) state h i = (h.0, add_thread ts state h.1 i)

abbrev pub ShapedState : Option ThreadState → Type 0
ShapedState None = Unit {0}
ShapedState (Some state) = IsShapedExecution state.execution

pub thread_at : (ts : List ThreadState) (t : ℕ) → AreShapedThreads ts → ShapedState (slice_get ts t)
thread_at [] t h = tt
thread_at (u ∷ ts) zero h = h.0
thread_at (u ∷ ts) (suc t) h = thread_at ts t h.1

with_execution_shaped : (k : Config) (t : ℕ) (l : Execution) → IsShapedConfig k → IsShapedExecution l → IsShapedConfig (with_execution k t l)
with_execution_shaped k t l c h = (c.0, set_thread k.threads t (record { execution = l; used = (slice_index_or k.threads t (record { execution = l; used = 0 })).used }) c.1 h)

turns_shaped : (k : Config) (t n : ℕ) (o : Option ThreadState) → IsShapedConfig k → ShapedState o → IsShapedConfig (record k { threads = elim o [ None ↦ k.threads | Some state ↦ slice_set k.threads t (spend n state) ] })
turns_shaped k t n None c g = c
turns_shaped k t n (Some state) c g = (c.0, set_thread k.threads t (spend n state) c.1 g)

with_turns_shaped : (t n : ℕ) (k : Config) → IsShapedConfig k → IsShapedConfig (with_turns t n k)
with_turns_shaped t n k c = turns_shaped k t n (slice_get k.threads t) c (thread_at k.threads t c.1)

-- ---- acts

abbrev ShapedEffect : Effect → Type 0
ShapedEffect (Does a k) = IsShapedConfig k
ShapedEffect Waits = Unit {0}
ShapedEffect Nothing = Unit {0}

shaped_outcome : (k : Config) (t : ℕ) (fs : List (Frame ℕ)) (x : Outcome) → IsShapedConfig k → ((u : Term ℕ) → IsShaped u → IsShaped (plug fs u)) → ShapedOutcome x → ShapedEffect (after_outcome k t fs x)
shaped_outcome k t fs Waiting c f h = tt
shaped_outcome k t fs (Acting kind loc st focus) c f h = with_execution_shaped (record k { store = st }) t (Running (plug fs focus)) (h.0, c.1) (f focus h.1)
shaped_outcome k t fs (Forking loc new focus) c f h =
    let one : IsShapedConfig (with_execution k t (Running (plug fs focus))) = with_execution_shaped k t (Running (plug fs focus)) c (f focus h.1) in
    (one.0, add_thread (with_execution k t (Running (plug fs focus))).threads (record { execution = Running new; used = 0 }) one.1 h.0)

shaped_effect_of : (k : Config) (t : ℕ) (x : Found ℕ) → IsShapedConfig k → ShapedFound x → ShapedEffect (effect_of k t x)
shaped_effect_of k t (Next u) c g = tt
shaped_effect_of k t (Needs op fs) c g = shaped_outcome k t fs (perform k t (self_at no_self fs) op) c g.1 (shaped_perform k t (self_at no_self fs) op c g.0)
shaped_effect_of k t (Done v) c g = with_execution_shaped k t (Returned v) c g
shaped_effect_of k t (Uncaught (Exn e)) c g = with_execution_shaped k t (Failed e) c tt
shaped_effect_of k t (Uncaught ExitUp) c g = with_execution_shaped k t (Failed exit_outside) c tt

shaped_execution : (k : Config) (t : ℕ) (l : Execution) → IsShapedConfig k → IsShapedExecution l → ShapedEffect (effect_of_execution k t l)
shaped_execution k t (Running u) c h = shaped_effect_of k t (find same_loc 0 no_self u) c (shaped_find same_loc 0 no_self u h)
shaped_execution k t (Returned v) c h = tt
shaped_execution k t (Failed e) c h = tt

shaped_state : (k : Config) (t : ℕ) (o : Option ThreadState) → IsShapedConfig k → ShapedState o → ShapedEffect (effect_of_state k t o)
shaped_state k t None c g = tt
shaped_state k t (Some state) c g = shaped_execution k t state.execution c g

pub shaped_effect : (k : Config) (t : ℕ) → IsShapedConfig k → ShapedEffect (effect k t)
shaped_effect k t c = shaped_state k t (slice_get k.threads t) c (thread_at k.threads t c.1)

-- ---- entries

exactly_shaped : (a : Act) (e : Effect) → ShapedEffect e → IsShapedIf (exactly a e)
exactly_shaped a (Does b k) h = by_case (act_same a b) where
  by_case : (c : Bool) → IsShapedIf (if c then Some k else None)
  by_case true = h
  by_case false = tt
exactly_shaped a Waits h = tt
exactly_shaped a Nothing h = tt

then_turn : (t : ℕ) (o : Option Config) → IsShapedIf o → IsShapedIf (elim o [ None ↦ None | Some k2 ↦ Some (with_turns t 1 k2) ])
then_turn t None h = tt
then_turn t (Some k2) h = with_turns_shaped t 1 k2 h

then_act_shaped : (t : ℕ) (o : Option Act) (k : Config) → IsShapedConfig k → IsShapedIf (then_act t o k)
then_act_shaped t None k c = c
then_act_shaped t (Some a) k c = then_turn t (exactly a (effect k t)) (exactly_shaped a (effect k t) (shaped_effect k t c))

abbrev IsShapedTerm : Option (Term ℕ) → Type 0
IsShapedTerm None = Unit {0}
IsShapedTerm (Some u) = IsShaped u

one_shaped : (t : Term ℕ) → IsShaped t → IsShapedTerm (pure same_loc t)
one_shaped t h = by_option (pure same_loc t) refl where
  by_option : (o : Option (Term ℕ)) → pure same_loc t ≡ o → IsShapedTerm o
  by_option None e = tt
  by_option (Some u) e = step_shaped same_loc 0 no_self t u h e

more_shaped : (n : ℕ) (t : Term ℕ) → IsShaped t → IsShapedTerm (after_pure n t)
more_shaped zero t h = h
more_shaped (suc n) t h = by_option (pure same_loc t) (one_shaped t h) (λ u. more_shaped n u)
  where
    by_option : (o : Option (Term ℕ)) → IsShapedTerm o → ((u : Term ℕ) → IsShaped u → IsShapedTerm (after_pure n u)) → IsShapedTerm (elim o [ None ↦ None | Some u ↦ after_pure n u ])
    by_option None g next = tt
    by_option (Some u) g next = next u g

take_of_shaped : (k : Config) (e : Entry) (o : Option (Term ℕ)) → IsShapedConfig k → IsShapedTerm o → IsShapedIf (take_of k e o)
take_of_shaped k e None c g = tt
take_of_shaped k e (Some u) c g = then_act_shaped e.thread e.act (with_turns e.thread e.pure (with_execution k e.thread (Running u))) (with_turns_shaped e.thread e.pure (with_execution k e.thread (Running u)) (with_execution_shaped k e.thread (Running u) c g))

if_shaped : (b : Bool) (o : Option Config) → IsShapedIf o → IsShapedIf (if b then None else o)
if_shaped true o h = tt
if_shaped false o h = h

take_execution_shaped : (turns : ℕ) (k : Config) (e : Entry) (state : ThreadState) (l : Execution) → IsShapedConfig k → IsShapedExecution l → IsShapedIf (take_execution turns k e state l)
take_execution_shaped turns k e state (Running u) c h = if_shaped (nat_lt turns (state.used + e.pure + act_turns e.act)) (take_of k e (after_pure e.pure u)) (take_of_shaped k e (after_pure e.pure u) c (more_shaped e.pure u h))
take_execution_shaped turns k e state (Returned v) c h = tt
take_execution_shaped turns k e state (Failed x) c h = tt

take_state_shaped : (turns : ℕ) (k : Config) (e : Entry) (o : Option ThreadState) → IsShapedConfig k → ShapedState o → IsShapedIf (take_state turns k e o)
take_state_shaped turns k e None c g = tt
take_state_shaped turns k e (Some state) c g = take_execution_shaped turns k e state state.execution c g

pub entry_shaped : (turns : ℕ) (k : Config) (e : Entry) → IsShapedConfig k → IsShapedIf (take_entry turns k e)
entry_shaped turns k e c = take_state_shaped turns k e (slice_get k.threads e.thread) c (thread_at k.threads e.thread c.1)

replay_shaped : (turns : ℕ) (k : Config) (es : List Entry) → IsShapedConfig k → IsShapedIf (replay_from turns k es)
replay_shaped turns k [] c = c
replay_shaped turns k (e ∷ es) c = by_option (take_entry turns k e) (entry_shaped turns k e c) (λ k2. replay_shaped turns k2 es)
  where
    by_option : (o : Option Config) → IsShapedIf o → ((k2 : Config) → IsShapedConfig k2 → IsShapedIf (replay_from turns k2 es)) → IsShapedIf (elim o [ None ↦ None | Some k2 ↦ replay_from turns k2 es ])
    by_option None h next = tt
    by_option (Some k2) h next = next k2 h

-- ---- the opening

opening_threads : (site : ℕ) (bs : List BlockTree) → AreShapedThreads (new_threads (opening_terms site bs))
opening_threads site [] = tt
opening_threads site (b ∷ bs) = (shaped_block site [] b, opening_threads (suc site) bs)

opening_writers : (n : ℕ) → AreShapedCells (replicate n (WriterCell []))
opening_writers zero = tt
opening_writers (suc n) = (tt, opening_writers n)

pub shaped_opening : (trees : List BlockTree) → IsShapedConfig (opening trees)
shaped_opening trees = ((opening_writers (length (opening_terms 0 trees)), tt), opening_threads 0 trees)

pub shaped_replay : ShapedReplay
shaped_replay trees turns entries = replay_shaped turns (opening trees) entries (shaped_opening trees)
